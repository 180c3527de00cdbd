-- What a rule makes of a side of a law.
use Rattle.std.proofs.Common.{◌≡◌, ℕ, refl}
use Rattle.path_focus.specs.Outcome.{Meant, MeantKeeps}
use Rattle.path_focus.specs.declared.place.Focus.{Focus}
use Rattle.rules_shape.specs.Patterns.{fits_add, fits_lit, fits_mul, fits_sub}
use Rattle.term_tree.specs.Syntax.{add, mul, sub}
use Rattle.term_tree.specs.declared.term.Term.{Term, Lit}

-- what is made keeps what it keeps for each term of the form
module _ (f : Focus) where
  pub kept_add : (e : Term) (g : Term → Term → Meant) → ((a b : Term) → e ≡ add a b → MeantKeeps f (g a b)) → MeantKeeps f (fits_add e g)
  kept_add (add a b) g h = h a b refl
  kept_add _ g h = tt

  pub kept_sub : (e : Term) (g : Term → Term → Meant) → ((a b : Term) → e ≡ sub a b → MeantKeeps f (g a b)) → MeantKeeps f (fits_sub e g)
  kept_sub (sub a b) g h = h a b refl
  kept_sub _ g h = tt

  pub kept_mul : (e : Term) (g : Term → Term → Meant) → ((a b : Term) → e ≡ mul a b → MeantKeeps f (g a b)) → MeantKeeps f (fits_mul e g)
  kept_mul (mul a b) g h = h a b refl
  kept_mul _ g h = tt

  pub kept_lit : (e : Term) (g : ℕ → Meant) → ((w : ℕ) → e ≡ Lit w → MeantKeeps f (g w)) → MeantKeeps f (fits_lit e g)
  kept_lit (Lit w) g h = h w refl
  kept_lit _ g h = tt
