-- The sides of laws: a term of another form is one that the argument does not fit.
use Rattle.std.specs.Prelude.{ℕ}
use Rattle.path_focus.specs.Outcome.{Meant, Unfit}
use Rattle.term_tree.specs.Syntax.{add, sub, mul}
use Rattle.term_tree.specs.declared.term.Term.{Term, Lit}

abbrev pub fits_add : Term → (Term → Term → Meant) → Meant
fits_add (add a b) f = f a b
fits_add _ f = Unfit

abbrev pub fits_sub : Term → (Term → Term → Meant) → Meant
fits_sub (sub a b) f = f a b
fits_sub _ f = Unfit

abbrev pub fits_mul : Term → (Term → Term → Meant) → Meant
fits_mul (mul a b) f = f a b
fits_mul _ f = Unfit

abbrev pub fits_lit : Term → (ℕ → Meant) → Meant
fits_lit (Lit w) f = f w
fits_lit _ f = Unfit
