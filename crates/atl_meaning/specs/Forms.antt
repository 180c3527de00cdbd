-- The extents that each operator gives, as forms, without limits; none where the rank of its operand is too small.
use Rattle.std.specs.Prelude.{ℕ, Bool, true, ◌&&◌, List, [], ◌∷◌, map, pos}
use Rattle.affine_index.specs.declared.form.Items.{Items}
use Rattle.affine_index.specs.Form.{literal_form}
use Rattle.affine_index.specs.Product.{product_of}
use Rattle.affine_index.specs.Sum.{difference_of, sum_of}
use Rattle.term_tree.specs.Modules.{extents_scoped}
use Rattle.term_tree.specs.declared.term.InputDecl.{InputDecl}
use Rattle.term_tree.specs.Shape.{Extents, each_fits, each_short, tiles}

abbrev pub concatenated_forms : Extents → Extents → Extents
concatenated_forms [] ms = []
concatenated_forms (n ∷ ns) [] = []
concatenated_forms (n ∷ ns) (m ∷ ms) = sum_of n m ∷ ns

abbrev pub flattened_forms : Extents → Extents
flattened_forms (n ∷ m ∷ ns) = product_of n m ∷ ns
flattened_forms _ = []

abbrev pub chunked_forms : ℕ → Extents → Extents
chunked_forms k [] = []
chunked_forms k (n ∷ ns) = tiles k n ∷ literal_form (pos k) ∷ ns

abbrev pub transposed_forms : Extents → Extents
transposed_forms (n ∷ m ∷ ns) = m ∷ n ∷ ns
transposed_forms _ = []

abbrev pub shortened_forms : Items → Extents → Extents
shortened_forms a [] = []
shortened_forms a (n ∷ ns) = difference_of n a ∷ ns

abbrev pub lengthened_forms : Items → Extents → Extents
lengthened_forms a [] = []
lengthened_forms a (n ∷ ns) = sum_of n a ∷ ns

-- each form is within the limits
abbrev pub each_within : Extents → Bool
each_within ns = each_fits ns && each_short ns

-- all extents of all name sizes alone
abbrev pub each_scoped : ℕ → List Extents → Bool
each_scoped sizes [] = true
each_scoped sizes (ns ∷ ts) = extents_scoped sizes ns && each_scoped sizes ts

-- the extents of the inputs
abbrev pub shapes_of : List InputDecl → List Extents
shapes_of ds = map (λ d. d.extents) ds
