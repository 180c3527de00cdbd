-- Names with contents, of which the first entry of a name counts.
use Rattle.std.specs.Prelude.{ℕ, List, find, map, bytes_eq}
use Rattle.std.specs.Option.{option_map}
use Rattle.std.specs.declared.option.Option.{Option}
use Rattle.std.specs.declared.string.String.{String}
use Rattle.std.specs.declared.vec.Vec.{Vec}
use Rattle.std.specs.String.{string_bytes}

-- a name and what it holds
pub record Entry : Type 0 where
  pub name : List ℕ
  pub content : List ℕ

-- the content of the first entry of this name
abbrev pub content_of : List Entry → List ℕ → Option (List ℕ)
content_of entries name = option_map (λ entry. entry.content) (find (λ entry. bytes_eq entry.name name) entries)

module _ {A B : Type 0} where
  -- a pair as its texts
  abbrev pub entry_of : String A × Vec ℕ B → Entry
  entry_of pair = record { name = string_bytes pair.0; content = pair.1.items }

  -- pairs as entries
  abbrev pub entries_of : List (String A × Vec ℕ B) → List Entry
  entries_of pairs = map entry_of pairs
