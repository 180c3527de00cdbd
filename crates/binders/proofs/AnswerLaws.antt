-- What a map answers, and the causes of its refusals.
use Rattle.std.proofs.Common.{◌≡◌, ℕ, ◌+◌, ◌<◌, ◌≤◌, ◌⊎◌, inl, inr, ⊎_elim, List, [], ◌∷◌, ◌++◌, length, map, refl, ap, sym, ◌∙◌, subst, arith, Bool, true}
use Rattle.std.proofs.Common.{false, not, ◌||◌, ◌==◌, eqb-true, eq-eqb, Option, Some, None, Result, Ok, Err}
use Rattle.std.proofs.lemmas.Bool.{cases_lt, or_cases, or_left, or_right}
use Rattle.std.proofs.lemmas.List.{get_or_append_left, get_or_push}
use Rattle.std.specs.Prelude.{pos}
use Rattle.affine_index.specs.Form.{literal_form}
use Rattle.affine_index.specs.Normal.{any_true, coefficients_fit, is_short}
use Rattle.affine_index.specs.Put.{given, put_all}
use Rattle.affine_index.specs.declared.cond.Cmp.{Cmp}
use Rattle.affine_index.specs.declared.cond.Cmp.TheVariants.{Ge, Eq}
use Rattle.affine_index.specs.declared.form.Atom.{Atom}
use Rattle.affine_index.specs.declared.form.Item.{Item}
use Rattle.affine_index.specs.declared.form.Items.{Items}
use Rattle.affine_index.proofs.Induction.{Each, EachTerm, for_items}
use Rattle.binders.specs.Answers.{AreReplacements, IsAnswer, IsCmp, IsForm, Reach, Refusals, breaks, form_beyond, form_causes, form_refused, is_memory}
use Rattle.binders.specs.Answers.{is_refusal, same_refusal, tensor_refused}
use Rattle.binders.specs.Maps.{Replacement, put_at, put_cmp}
use Rattle.binders.specs.Uses.{atom_has, form_has, terms_have, uses}
use Rattle.binders.specs.declared.refusal.MapRefusal.{MapRefusal}
use Rattle.binders.specs.declared.refusal.MapRefusal.TheVariants.{CoefficientTooLarge, IndexTooLong, NotAffine, TooManyNodes, Memory}
use Rattle.binders.proofs.HasLaws.{has-Size, has-Var, has-Div, has-Mul, has-items}

module _ (p : ℕ → Bool) (v : ℕ) (yes : p v ≡ true) where
  abbrev AtomHas : Atom → Type 0
  AtomHas a = atom_has (λ w. w == v) a ≡ true → atom_has p a ≡ true

  abbrev FormHas : Items → Type 0
  FormHas i = uses v i ≡ true → form_has p i ≡ true

  factors_have : (fs : List Atom) → Each AtomHas fs → any_true (map (atom_has (λ w. w == v)) fs) ≡ true → any_true (map (atom_has p) fs) ≡ true
  factors_have [] h u = u
  factors_have (f ∷ fs) h u = ⊎_elim (λ o. or_left _ _ (h.0 o)) (λ o. or_right _ _ (factors_have fs h.1 o)) (or_cases (atom_has (λ w. w == v) f) _ u)

  terms_too : (ts : List (Item Atom)) → EachTerm AtomHas ts → terms_have (λ w. w == v) ts ≡ true → terms_have p ts ≡ true
  terms_too [] h u = u
  terms_too (t ∷ ts) h u = ⊎_elim (λ o. or_left _ _ (h.0 o)) (λ o. or_right _ _ (terms_too ts h.1 o)) (or_cases (atom_has (λ w. w == v) t.atom) _ u)

  -- a variable that occurs and passes a test
  pub has-used : (i : Items) → FormHas i
  has-used = for_items AtomHas FormHas
      (λ s u. absurd (let f = sym (has-Size (λ w. w == v) s) ∙ u in cc))
      (λ w u. has-Var p w ∙ ap p (eqb-true w v (sym (has-Var (λ n. n == v) w) ∙ u)) ∙ yes)
      (λ i k h u. has-Div p i k ∙ h (sym (has-Div (λ w. w == v) i k) ∙ u))
      (λ fs h u. has-Mul p fs ∙ factors_have fs h (sym (has-Mul (λ w. w == v) fs) ∙ u))
      (λ ts c h u.
      let i : Items = record { terms = ts; constant = c } in
      has-items p i ∙ terms_too ts h (sym (has-items (λ w. w == v) i) ∙ u))

-- a variable that occurs in a form within reach may be asked for
pub within_reach : (d : Reach) (i j : ℕ) (x : Items) (v : ℕ) → form_beyond d i j x ≡ false → uses v x ≡ true → d.has_index i j v ≡ true
unfolding form_beyond
within_reach d i j x v h u = by (d.has_index i j v) refl
  where
    by : (b : Bool) → d.has_index i j v ≡ b → b ≡ true
    by true e = refl
    by false e = let bad = has-used (λ w. not (d.has_index i j w)) v (ap not e) x u in absurd (cc)

same_itself : (e : MapRefusal) → same_refusal e e ≡ true
same_itself CoefficientTooLarge = refl
same_itself IndexTooLong = refl
same_itself NotAffine = refl
same_itself (TooManyNodes n) = eq-eqb n n refl
same_itself Memory = refl

pub is_refusal-some : (e : MapRefusal) (o : Option MapRefusal) → o ≡ Some e → is_refusal e o ≡ true
is_refusal-some e o h = ap (is_refusal e) h ∙ same_itself e

-- a refusal at a variable that occurs
pub refused_at : (r : Refusals) (e : MapRefusal) (i j v : ℕ) (x : Items) → r.at_index i j v ≡ Some e → uses v x ≡ true → form_refused r e i j x ≡ true
refused_at r e i j v x h u = has-used (λ w. is_refusal e (r.at_index i j w)) v (is_refusal-some e (r.at_index i j v) h) x u

-- one more replacement
pub given_more : (by by' : List Items) (x : Items) (n : ℕ) (f : ℕ → Items) (form : Items) → length by ≡ n → by' ≡ by ++ (x ∷ []) →
    ((v : ℕ) → v < n → uses v form ≡ true → given by v ≡ f v) → (uses n form ≡ true → x ≡ f n) →
    (v : ℕ) → v < n + 1 → uses v form ≡ true → given by' v ≡ f v
given_more by by' x n f form many e h new v l u = either (cases_lt v n)
  where
    either : (v < n) ⊎ (n ≤ v) → given by' v ≡ f v
    either (inl below) = ap (λ ys. given ys v) e ∙ get_or_append_left by (x ∷ []) (literal_form (pos 0)) v (omega (arith, below, many)) ∙ h v below u
    either (inr above) =
        let at : v ≡ n = omega (arith, l, above) in
        ap (λ ys. given ys v) e ∙ get_or_push by x (literal_form (pos 0)) v (omega (arith, at, many)) ∙ new (ap (λ k. uses k form) (sym at) ∙ u) ∙ ap f (sym at)

-- a refusal at a variable that occurs is one of the replacements
pub refusal_of : (m : Replacement) (r : Refusals) (i j v : ℕ) (x : Items) (e : MapRefusal) →
    IsAnswer (m.for_index i j v) (r.at_index i j v) (Err e) → uses v x ≡ true → AreReplacements m r i j x (Err e)
refusal_of m r i j v x CoefficientTooLarge h u = refused_at r CoefficientTooLarge i j v x h u
refusal_of m r i j v x IndexTooLong h u = refused_at r IndexTooLong i j v x h u
refusal_of m r i j v x NotAffine h u = refused_at r NotAffine i j v x h u
refusal_of m r i j v x (TooManyNodes n) h u = refused_at r (TooManyNodes n) i j v x h u
refusal_of m r i j v x Memory h u = tt

-- what is put by the forms of a list is what the map puts
pub put_is : (m : Replacement) (r : Refusals) (i j : ℕ) (x raw : Items) (a : Result (Option Items) MapRefusal) → raw ≡ put_all (m.for_index i j) x →
    IsForm raw (λ e. breaks e raw) a → IsForm (put_at m i j x) (λ e. form_causes m r e i j x) a
unfolding put_at form_causes
put_is m r i j x raw (Ok (Some y)) e h = (h.0 ∙ e, ap coefficients_fit (sym e) ∙ h.1, ap is_short (sym e) ∙ h.2)
put_is m r i j x raw (Ok None) e h = (ap coefficients_fit (sym e) ∙ h.0, ap is_short (sym e) ∙ h.1)
put_is m r i j x raw (Err CoefficientTooLarge) e h = or_right _ _ (ap (breaks CoefficientTooLarge) (sym e) ∙ h)
put_is m r i j x raw (Err IndexTooLong) e h = absurd (cc)
put_is m r i j x raw (Err NotAffine) e h = absurd (cc)
put_is m r i j x raw (Err (TooManyNodes n)) e h = absurd (cc)
put_is m r i j x raw (Err Memory) e h = refl

-- a refusal of the replacements is one of the form
pub refused_is : (m : Replacement) (r : Refusals) (i j : ℕ) (x : Items) (e : MapRefusal) → AreReplacements m r i j x (Err e) →
    (is_memory e || form_causes m r e i j x) ≡ true
unfolding form_causes
refused_is m r i j x CoefficientTooLarge h = or_left _ _ h
refused_is m r i j x IndexTooLong h = or_left _ _ h
refused_is m r i j x NotAffine h = or_left _ _ h
refused_is m r i j x (TooManyNodes n) h = or_left _ _ h
refused_is m r i j x Memory h = refl

-- a refusal at a tensor variable
pub tensor_cause : (m : Replacement) (r : Refusals) (i j q : ℕ) (e : MapRefusal) → IsAnswer (m.for_tensor i j q) (r.at_tensor i j q) (Err e)
    → (is_memory e || tensor_refused r e i j q) ≡ true
unfolding tensor_refused
tensor_cause m r i j q CoefficientTooLarge h = is_refusal-some CoefficientTooLarge (r.at_tensor i j q) h
tensor_cause m r i j q IndexTooLong h = is_refusal-some IndexTooLong (r.at_tensor i j q) h
tensor_cause m r i j q NotAffine h = is_refusal-some NotAffine (r.at_tensor i j q) h
tensor_cause m r i j q (TooManyNodes n) h = is_refusal-some (TooManyNodes n) (r.at_tensor i j q) h
tensor_cause m r i j q Memory h = refl

-- a refusal at an index variable
pub index_cause : (m : Replacement) (r : Refusals) (i j v : ℕ) (e : MapRefusal) → IsAnswer (m.for_index i j v) (r.at_index i j v) (Err e)
    → (is_memory e || is_refusal e (r.at_index i j v)) ≡ true
index_cause m r i j v CoefficientTooLarge h = is_refusal-some CoefficientTooLarge (r.at_index i j v) h
index_cause m r i j v IndexTooLong h = is_refusal-some IndexTooLong (r.at_index i j v) h
index_cause m r i j v NotAffine h = is_refusal-some NotAffine (r.at_index i j v) h
index_cause m r i j v (TooManyNodes n) h = is_refusal-some (TooManyNodes n) (r.at_index i j v) h
index_cause m r i j v Memory h = refl

-- a comparison with what is put for its variables, from its form
module _ (m : Replacement) (i j : ℕ) (c : Cmp) (x : Items) (o : Option Items) (k : MapRefusal → Bool) (h : IsForm (put_at m i j x) k (Ok o)) where
  abbrev AnswersCmp : Option Cmp → Type 0
  AnswersCmp a = IsCmp (put_cmp (m.for_index i j) c) k (Ok a)

  pub ge_some : (y : Items) → c ≡ Ge x → o ≡ Some y → AnswersCmp (Some (Ge y))
  unfolding put_at
  ge_some y e s =
      let p = subst (λ o. IsForm (put_all (m.for_index i j) x) k (Ok o)) s h in
      subst (λ z. IsCmp (put_cmp (m.for_index i j) z) k (Ok (Some (Ge y)))) (sym e) (ap Ge p.0, p.1, p.2)

  pub ge_none : c ≡ Ge x → o ≡ None → AnswersCmp None
  unfolding put_at
  ge_none e s =
      let p = subst (λ o. IsForm (put_all (m.for_index i j) x) k (Ok o)) s h in
      subst (λ z. IsCmp (put_cmp (m.for_index i j) z) k (Ok None)) (sym e) p

  pub eq_some : (y : Items) → c ≡ Eq x → o ≡ Some y → AnswersCmp (Some (Eq y))
  unfolding put_at
  eq_some y e s =
      let p = subst (λ o. IsForm (put_all (m.for_index i j) x) k (Ok o)) s h in
      subst (λ z. IsCmp (put_cmp (m.for_index i j) z) k (Ok (Some (Eq y)))) (sym e) (ap Eq p.0, p.1, p.2)

  pub eq_none : c ≡ Eq x → o ≡ None → AnswersCmp None
  unfolding put_at
  eq_none e s =
      let p = subst (λ o. IsForm (put_all (m.for_index i j) x) k (Ok o)) s h in
      subst (λ z. IsCmp (put_cmp (m.for_index i j) z) k (Ok None)) (sym e) p
