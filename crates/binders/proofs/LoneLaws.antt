-- A form that is a variable and nothing else.
use Rattle.std.proofs.Common.{◌≡◌, ℕ, Bool, true, false, ◌||◌, ◌==◌, List, [], ◌∷◌, refl, ap, sym, ◌∙◌, eq-eqb, arith, Option, Some, None, Result, Ok, Err}
use Rattle.std.proofs.lemmas.Bool.{or_left}
use Rattle.std.proofs.lemmas.Int.{ints}
use Rattle.std.specs.Prelude.{ℤ, pos, ◌+ℤ◌, ◌*ℤ◌}
use Rattle.affine_index.specs.Form.{literal_form, var_form}
use Rattle.affine_index.specs.Normal.{coefficients_fit, is_short}
use Rattle.affine_index.specs.Put.{put_all}
use Rattle.affine_index.specs.Sum.{scaled, scaled_terms, sum_of}
use Rattle.affine_index.specs.declared.form.Atom.{Atom}
use Rattle.affine_index.specs.declared.form.Item.{Item}
use Rattle.affine_index.specs.declared.form.Items.{Items}
use Rattle.affine_index.proofs.PutLaws.{put-Var, put-items}
use Rattle.binders.specs.Answers.{IsForm, Reach, Refusals, form_beyond, form_causes, form_refused, is_memory, is_refusal}
use Rattle.binders.specs.Maps.{Replacement, put_at}
use Rattle.binders.specs.Uses.{form_has, uses}
use Rattle.binders.specs.declared.refusal.MapRefusal.{MapRefusal}
use Rattle.binders.proofs.AnswerLaws.{within_reach}
use Rattle.binders.proofs.HasLaws.{has-Var, has-items}

once : (z : ℤ) → (pos 1 *ℤ z) ≡ z
once z = omega (arith, ints)

plus_nothing : (z : ℤ) → (pos 0 +ℤ z) ≡ z
plus_nothing z = omega (arith, ints)

once_terms : (ts : List (Item Atom)) → scaled_terms (pos 1) ts ≡ ts
once_terms [] = refl
once_terms (t ∷ ts) = λ j. record { atom = t.atom; coefficient = once t.coefficient j } ∷ once_terms ts j

once_form : (i : Items) → sum_of (literal_form (pos 0)) (scaled (pos 1) i) ≡ i
once_form i = λ j. record { terms = once_terms i.terms j; constant = (plus_nothing (pos 1 *ℤ i.constant) ∙ once i.constant) j }

-- what is put for it
put-lone : (f : ℕ → Items) (v : ℕ) → put_all f (var_form v) ≡ f v
put-lone f v = put-items f (var_form v) ∙ ap (λ i. sum_of (literal_form (pos 0)) (scaled (pos 1) i)) (put-Var f v) ∙ once_form (f v)

or_false : (b : Bool) → (b || false) ≡ b
or_false true = refl
or_false false = refl

has-lone : (p : ℕ → Bool) (v : ℕ) → form_has p (var_form v) ≡ p v
has-lone p v = has-items p (var_form v) ∙ or_false _ ∙ has-Var p v

-- the variable may be asked for
pub lone_reach : (d : Reach) (i j : ℕ) (x : Items) (v : ℕ) → x ≡ var_form v → form_beyond d i j x ≡ false → d.has_index i j v ≡ true
lone_reach d i j x v e h = within_reach d i j x v h (ap (uses v) e ∙ has-lone (λ w. w == v) v ∙ eq-eqb v v refl)

module _ (m : Replacement) (r : Refusals) (i j : ℕ) (x : Items) (v : ℕ) (e : x ≡ var_form v) where
  put_is : put_at m i j x ≡ m.for_index i j v
  unfolding put_at
  put_is = ap (put_all (m.for_index i j)) e ∙ put-lone (m.for_index i j) v

  refused_is : (d : MapRefusal) → is_refusal d (r.at_index i j v) ≡ true → form_causes m r d i j x ≡ true
  unfolding form_causes
  refused_is d h = or_left _ _ (ap (form_refused r d i j) e ∙ has-lone (λ w. is_refusal d (r.at_index i j w)) v ∙ h)

  handed : (b c d : Bool) → (c ≡ true → d ≡ true) → (b || c) ≡ true → (b || d) ≡ true
  handed true c d f h = refl
  handed false c d f h = f h

  -- what the map answers for the variable is the form with it
  pub lone_is : (a : Result (Option Items) MapRefusal) → IsForm (m.for_index i j v) (λ d. is_refusal d (r.at_index i j v)) a
      → IsForm (put_at m i j x) (λ d. form_causes m r d i j x) a
  lone_is (Ok (Some y)) h = (h.0 ∙ sym put_is, ap coefficients_fit put_is ∙ h.1, ap is_short put_is ∙ h.2)
  lone_is (Ok None) h = (ap coefficients_fit put_is ∙ h.0, ap is_short put_is ∙ h.1)
  lone_is (Err d) h = handed (is_memory d) (is_refusal d (r.at_index i j v)) (form_causes m r d i j x) (refused_is d) h
