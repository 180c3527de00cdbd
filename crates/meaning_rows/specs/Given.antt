-- Tensors of words.
use Rattle.std.specs.Prelude.{ℕ, List, [], ◌∷◌}
use Rattle.term_tree.specs.Shaped.{HasShape, HasWords}
use Rattle.term_tree.specs.Tensors.{Tensor}

-- words, of these extents
abbrev pub IsGiven : List ℕ → Tensor → Type 0
IsGiven ds t = HasShape ds t × HasWords t

-- each is words, of these extents
abbrev pub AreGiven : List ℕ → List Tensor → Type 0
AreGiven ds [] = Unit {0}
AreGiven ds (t ∷ ts) = IsGiven ds t × AreGiven ds ts
