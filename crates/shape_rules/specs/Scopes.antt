-- The shapes of the tensor variables in scope.
use Rattle.std.specs.Prelude.{◌≡◌, ℕ, List, [], ◌∷◌, ◌++◌, length, reverse, Bool, true, ◌&&◌, not}
use Rattle.affine_index.specs.Normal.{holds_var}
use Rattle.term_tree.specs.Shape.{Extents}
use Rattle.term_tree.specs.Scope.{term_scoped}
use Rattle.term_tree.specs.declared.term.Term.{Term}
use Rattle.shape_rules.specs.declared.shapes.Shapes.{Shapes}

-- the tensor variables under given shapes, from the innermost: the lets, then the inputs
abbrev pub given : Shapes → List Extents
given shapes = shapes.lets ++ shapes.inputs

-- these lets, the last of which is the innermost, within given shapes
abbrev pub scope : Shapes → List Extents → List Extents
scope shapes bound = reverse bound ++ given shapes

-- no extent holds an index variable
abbrev pub each_free : Extents → Bool
each_free [] = true
each_free (n ∷ ns) = not (holds_var n) && each_free ns

-- no extent of any shape holds an index variable
abbrev pub all_free : List Extents → Bool
all_free [] = true
all_free (ns ∷ rest) = each_free ns && all_free rest

-- the term is well scoped over some sizes and index variables, and these tensor variables
abbrev pub IsScoped : Shapes → Term → Type 0
IsScoped shapes e = (sizes : ℕ) × (vars : ℕ) × (term_scoped sizes e vars (length (given shapes)) ≡ true)
