-- The text of versions.
use Rattle.std.specs.Prelude.{◌≡◌, ℕ, ◌+◌, List, [], ◌∷◌, ◌++◌, codes, decimal}
use Rattle.text_tokens.specs.Kinds.{Text}
use Rattle.term_tree.specs.declared.term.Module.{Module}
use Rattle.atl_printer.specs.Canonical.{ReadsBack, canonical_module}

-- the line above the text of a version
abbrev pub version_line : ℕ → Text
version_line v = codes "# version " ++ (decimal v ++ 10 ∷ [])

-- a version below its line
abbrev pub block : ℕ → Module → Text
block v m = version_line v ++ canonical_module m

-- versions one after another, numbered from here on
abbrev pub stages_from : ℕ → List Module → Text
stages_from v [] = []
stages_from v (m ∷ ms) = block v m ++ stages_from (v + 1) ms

-- all versions, numbered from 0
abbrev pub stages : List Module → Text
stages ms = stages_from 0 ms

-- a text begins with the line of this version and a text of this module, and of no other; the rest stands behind it
pub record BeginsWith (v : ℕ) (m : Module) (text rest : Text) : Type 0 where
  pub below : Text
  pub stands : text ≡ version_line v ++ (below ++ rest)
  pub reads : ReadsBack below m

-- a text is one block for each version, numbered from here on, and nothing else
abbrev pub AreBlocks : ℕ → List Module → Text → Type 0
AreBlocks v [] text = text ≡ []
AreBlocks v (m ∷ ms) text = (rest : Text) × BeginsWith v m text rest × AreBlocks (v + 1) ms rest
