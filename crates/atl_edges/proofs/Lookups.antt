-- Looking up a number or a name in a list.
use Rattle.std.proofs.Common.{◌≡◌, ℕ, ◌<◌, Bool, true, false, List, [], ◌∷◌, length, get_or, zero, suc, refl, sym, ap, arith, cond, Some, ◌∙◌}
use Rattle.std.proofs.lemmas.Grind.{common_steps}
use Rattle.std.specs.Prelude.{◌==◌, bytes_eq, find}
use Rattle.std.specs.List.{list_any}
use Rattle.std.specs.Option.{option_map}
use Rattle.std.specs.declared.option.Option.{Option}
use Rattle.std.specs.declared.string.String.{String}
use Rattle.std.specs.declared.vec.Vec.{Vec}
use Rattle.std.specs.String.{string_bytes}
use Rattle.atl_edges.specs.Holdings.{Entry, content_of, entry_of, entries_of}

-- no number of a list of smaller ones is this one
pub is_listed_past : (numbers : List ℕ) (bound : ℕ) → ((k : ℕ) → k < length numbers → get_or numbers k 0 < bound)
    → list_any (λ number. number == bound) numbers ≡ false
is_listed_past [] bound below = refl
is_listed_past (number ∷ numbers) bound below =
    let first : number < bound = below zero (omega arith) in
    let rest = is_listed_past numbers bound (λ k within. below (suc k) (omega arith)) in
    grind (arith, common_steps)

-- a choice under a function
pub option_map_cond : {A B : Type 0} (f : A → B) (test : Bool) (x y : Option A) → option_map f (cond test x y) ≡ cond test (option_map f x) (option_map f y)
option_map_cond f true x y = refl
option_map_cond f false x y = refl

module _ {A B : Type 0} where
  -- the content of the first pair of this name
  abbrev pub content_of_pairs : List (String A × Vec ℕ B) → List ℕ → Option (List ℕ)
  content_of_pairs pairs name = option_map (λ pair. pair.1.items) (find (λ pair. bytes_eq (string_bytes pair.0) name) pairs)

  -- it is the content of the first entry
  pub content_of_entries : (pairs : List (String A × Vec ℕ B)) (name : List ℕ) → content_of_pairs pairs name ≡ content_of (entries_of pairs) name
  content_of_entries [] name = refl
  content_of_entries (pair ∷ pairs) name =
      let test : Bool = bytes_eq (string_bytes pair.0) name in
      option_map_cond (λ (p : String A × Vec ℕ B). p.1.items) test (Some pair) (find (λ p. bytes_eq (string_bytes p.0) name) pairs)
      ∙ ap (λ (rest : Option (List ℕ)). cond test (Some pair.1.items) rest) (content_of_entries pairs name)
      ∙ sym (option_map_cond (λ (entry : Entry). entry.content) test (Some (entry_of pair)) (find (λ entry. bytes_eq entry.name name) (entries_of pairs)))

  -- what is found of the first pair of this name is the content of the first entry
  pub content_of_found : (found : Option (String A × Vec ℕ B)) (pairs : List (String A × Vec ℕ B)) (name : List ℕ)
      → found ≡ find (λ pair. bytes_eq (string_bytes pair.0) name) pairs → option_map (λ pair. pair.1.items) found ≡ content_of (entries_of pairs) name
  content_of_found found pairs name is = ap (λ (pair : Option (String A × Vec ℕ B)). option_map (λ p. p.1.items) pair) is ∙ content_of_entries pairs name
