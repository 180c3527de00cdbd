-- Rows of tensors.
use Rattle.std.proofs.Common.{◌≡◌, List, [], ◌∷◌, refl}
use Rattle.term_tree.specs.Tensors.{Tensor, rows_of, from_rows}

pub rows_of-from_rows : (xs : List Tensor) → rows_of (from_rows xs) ≡ xs
rows_of-from_rows [] = refl
rows_of-from_rows (x ∷ xs) = λ i. x ∷ rows_of-from_rows xs i
