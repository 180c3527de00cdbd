-- The shape rule of each operator, given the shapes of its operands.
use Rattle.std.specs.Prelude.{ℕ, ◌∷◌, pos, Ok}
use Rattle.affine_index.specs.declared.form.Items.{Items}
use Rattle.affine_index.specs.Form.{literal_form}
use Rattle.affine_index.specs.Sum.{sum_of, difference_of}
use Rattle.affine_index.specs.Product.{product_of}
use Rattle.term_tree.specs.Shape.{Extents, Shaped, limited, of_first, of_two, tiles}

-- a row
abbrev pub row_shape : Extents → Shaped
row_shape ns = of_first ns (λ n rest. Ok rest)

-- n rows
abbrev pub rows_shape : Items → Extents → Shaped
rows_shape n ns = limited (n ∷ ns)

-- the operand's own
abbrev pub same_shape : Extents → Shaped
same_shape ns = Ok ns

-- the rows of the rows
abbrev pub flat_shape : Extents → Shaped
flat_shape ns = of_two ns (λ n m rest. limited (product_of n m ∷ rest))

-- chunks of k rows
abbrev pub tiled_shape : ℕ → Extents → Shaped
tiled_shape k ns = of_first ns (λ n rest. limited (tiles k n ∷ literal_form (pos k) ∷ rest))

-- the columns
abbrev pub columns_shape : Extents → Shaped
columns_shape ns = of_two ns (λ n m rest. Ok (m ∷ n ∷ rest))

-- a rows fewer
abbrev pub fewer_shape : Items → Extents → Shaped
fewer_shape a ns = of_first ns (λ n rest. limited (difference_of n a ∷ rest))

-- a rows more
abbrev pub more_shape : Items → Extents → Shaped
more_shape a ns = of_first ns (λ n rest. limited (sum_of n a ∷ rest))
