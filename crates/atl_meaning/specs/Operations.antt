-- Operations on words and on rows.
use Rattle.std.specs.Prelude.{ℕ, ◌+◌, ◌-◌, ◌*◌, ◌%◌, ◌^◌, List, [], ◌∷◌}
use Rattle.term_tree.specs.Tensors.{Tensor, by_places}
use Rattle.atl_meaning.specs.declared.operation.Operation.{Operation}
use Rattle.atl_meaning.specs.declared.operation.Operation.TheVariants.{Plus, Minus, Times}

-- what an operation gives, modulo 2^64
abbrev pub on_words : Operation → ℕ → ℕ → ℕ
on_words Plus v w = (v + w) % 2 ^ 64
on_words Minus v w = (v + (2 ^ 64 - w)) % 2 ^ 64
on_words Times v w = (v * w) % 2 ^ 64

-- row by row, up to the end of the shorter list
abbrev pub rows_by_places : (ℕ → ℕ → ℕ) → List Tensor → List Tensor → List Tensor
rows_by_places f [] ys = []
rows_by_places f (x ∷ xs) [] = []
rows_by_places f (x ∷ xs) (y ∷ ys) = by_places f x y ∷ rows_by_places f xs ys
