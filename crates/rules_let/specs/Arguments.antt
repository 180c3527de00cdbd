-- Arguments of the rules of lets.
use Rattle.std.specs.Prelude.{ℕ, List, [], ◌∷◌, Bool, false, ◌&&◌, ◌||◌, ◌==◌, ℤ, pos, Option, Some, None, if◌then◌else◌}
use Rattle.affine_index.specs.declared.form.Atom.{Atom}
use Rattle.affine_index.specs.declared.form.Item.{Item}
use Rattle.path_focus.specs.Outcome.{Meant, Unfit}
use Rattle.path_focus.specs.declared.place.BoundLet.{BoundLet}
use Rattle.path_focus.specs.declared.rule.Arg.{Arg}
use Rattle.path_focus.specs.declared.rule.Arg.TheVariants as arg
use Rattle.term_equality.specs.Equality.{same_term}
use Rattle.term_tree.specs.declared.term.Term.{Term}

-- the number of a form without items that is at least 0
abbrev pub literal_of : List (Item Atom) → ℤ → Option ℕ
literal_of [] (pos n) = Some n
literal_of _ _ = None

-- the number that is the one argument
abbrev pub number_of : List Arg → Option ℕ
number_of (arg.Ix x ∷ []) = literal_of x.terms x.constant
number_of _ = None

-- the tensor variable that is the one argument
abbrev pub variable_of : List Arg → Option ℕ
variable_of (arg.TensorVar q ∷ []) = Some q
variable_of _ = None

-- what is made of a number, where there is one
abbrev pub with_number : Option ℕ → (ℕ → Meant) → Meant
with_number (Some j) f = f j
with_number None f = Unfit

-- where arguments fit
abbrev pub fitting : Bool → Meant → Meant
fitting b m = if b then m else Unfit

-- whether a let is that of this variable, and the term its definition
abbrev pub is_bound : ℕ → Term → BoundLet → Bool
is_bound q e b = (b.var == q) && same_term b.term e

-- whether one of them is
abbrev pub is_definition : ℕ → Term → List BoundLet → Bool
is_definition q e [] = false
is_definition q e (b ∷ bs) = is_bound q e b || is_definition q e bs
