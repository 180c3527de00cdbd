-- The refusals of the parts of a mapped term are those of the whole.
use Rattle.std.proofs.Common.{◌≡◌, ℕ, suc, ◌+◌, ◌⊎◌, inl, inr, List, [], ◌∷◌, map, refl, ap, sym, ◌∙◌, subst, add-one, Bool, true, false, not, ◌||◌, ◌&&◌}
use Rattle.std.proofs.Common.{Option, Some, None, Result, Ok, Err, IfOk}
use Rattle.std.proofs.lemmas.Bool.{and_parts}
use Rattle.affine_index.specs.Condition.{cmp_form}
use Rattle.affine_index.specs.Normal.{any_true}
use Rattle.affine_index.specs.Normal.{coefficients_fit as form_fits}
use Rattle.affine_index.specs.Put.{put_all}
use Rattle.affine_index.specs.declared.cond.Cmp.{Cmp}
use Rattle.affine_index.specs.declared.cond.Cmp.TheVariants.{Ge, Eq}
use Rattle.affine_index.specs.declared.form.Atom.{Atom}
use Rattle.affine_index.specs.declared.form.Item.{Item}
use Rattle.affine_index.specs.declared.form.Items.{Items}
use Rattle.affine_index.proofs.Induction.{Each, EachTerm, for_items}
use Rattle.term_tree.specs.declared.term.Term.{Term, Lit, TVar, WordOf}
use Rattle.term_tree.specs.Syntax.{index, gen, sum, guard, let_in, add, sub, mul, concat, flatten, split, transpose, trunc_l, trunc_r, pad_l, pad_r}
use Rattle.term_tree.specs.Limits.{coefficients_fit, each_cmp, form_step, forms_short}
use Rattle.term_tree.proofs.Folds.{fold-word_of, fold-index, fold-gen, fold-sum, fold-guard, fold-let_in, fold-add, fold-sub, fold-mul, fold-concat}
use Rattle.term_tree.proofs.Folds.{fold-flatten, fold-split, fold-transpose, fold-trunc_l, fold-trunc_r, fold-pad_l, fold-pad_r}
use Rattle.binders.specs.Answers.{IsMapped, IsPartOf, IsWithinLimits, NeverRefuses, Refusals, form_causes, form_refused, is_memory, is_refusal, no_refusals}
use Rattle.binders.specs.Answers.{part_causes, refused, some_place, tensor_refused}
use Rattle.binders.specs.Maps.{Keeps, Replacement, map_fold, mapped, put_cmp}
use Rattle.binders.specs.Uses.{any_cmp, atom_has, form_has, terms_have}
use Rattle.binders.specs.declared.refusal.MapRefusal.{MapRefusal}
use Rattle.binders.specs.declared.refusal.MapRefusal.TheVariants.{CoefficientTooLarge, IndexTooLong, NotAffine, TooManyNodes, Memory}
use Rattle.binders.proofs.HasLaws.{has-Size, has-Var, has-Div, has-Mul, has-items}
use Rattle.binders.proofs.MapFold.{map_fold-is}
use Rattle.binders.proofs.PlaceFold.{place_fold-is}
use Rattle.binders.proofs.Substitution.{AllOrdered, mapped_keeps}

or_false : (b : Bool) → (b || false) ≡ b
or_false true = refl
or_false false = refl

or_not : (a b : Bool) → b ≡ true → (a || not b) ≡ a
or_not a true h = or_false a
or_not a false h = absurd (cc)

-- where each mapped coefficient fits, the causes are the map's own
module _ (m : Replacement) (own : ℕ → ℕ → Items → Bool) (q : ℕ → ℕ → ℕ → Bool) where
  abbrev causes : ℕ → ℕ → Items → Bool
  causes i j x = own i j x || not (form_fits (put_all (m.for_index i j) x))

  own_cmps : (i j : ℕ) (cs : List Cmp) → each_cmp form_fits (map (put_cmp (m.for_index i j)) cs) ≡ true → any_cmp (causes i j) cs ≡ any_cmp (own i j) cs
  own_cmps i j [] h = refl
  own_cmps i j (Ge x ∷ cs) h =
      let f = and_parts (form_fits (put_all (m.for_index i j) x)) (each_cmp form_fits (map (put_cmp (m.for_index i j)) cs)) h in
      λ t. or_not (own i j x) (form_fits (put_all (m.for_index i j) x)) f.0 t || own_cmps i j cs f.1 t
  own_cmps i j (Eq x ∷ cs) h =
      let f = and_parts (form_fits (put_all (m.for_index i j) x)) (each_cmp form_fits (map (put_cmp (m.for_index i j)) cs)) h in
      λ t. or_not (own i j x) (form_fits (put_all (m.for_index i j) x)) f.0 t || own_cmps i j cs f.1 t

  abbrev Fits : Term → ℕ → ℕ → Type 0
  Fits e i j = coefficients_fit (mapped m i j e) ≡ true

  both : (a b : Term) (i j k : ℕ) → (coefficients_fit (mapped m i j a) && coefficients_fit (mapped m i k b)) ≡ true → Fits a i j × Fits b i k
  both a b i j k h = and_parts (coefficients_fit (mapped m i j a)) (coefficients_fit (mapped m i k b)) h

  pub own_causes : (e : Term) (i j : ℕ) → Fits e i j → some_place causes q e i j ≡ some_place own q e i j
  own_causes (Lit w) i j h = refl
  own_causes (TVar v) i j h = refl
  own_causes (WordOf x) i j h =
      or_not (own i j x) (form_fits (put_all (m.for_index i j) x)) (sym (fold-word_of Bool (form_step form_fits) (put_all (m.for_index i j) x)) ∙ h)
  own_causes (index e x) i j h =
      let f = and_parts (coefficients_fit (mapped m i j e)) (form_fits (put_all (m.for_index i j) x)) (sym (fold-index Bool (form_step form_fits) _ _) ∙ h) in
      λ t. own_causes e i j f.0 t || or_not (own i j x) (form_fits (put_all (m.for_index i j) x)) f.1 t
  own_causes (gen n e) i j h =
      let f = and_parts (form_fits n) (coefficients_fit (mapped m (suc i) j e)) (sym (fold-gen Bool (form_step form_fits) _ _) ∙ h) in
      own_causes e (i + 1) j (ap (λ k. coefficients_fit (mapped m k j e)) (add-one i) ∙ f.1)
  own_causes (sum n e) i j h =
      let f = and_parts (form_fits n) (coefficients_fit (mapped m (suc i) j e)) (sym (fold-sum Bool (form_step form_fits) _ _) ∙ h) in
      own_causes e (i + 1) j (ap (λ k. coefficients_fit (mapped m k j e)) (add-one i) ∙ f.1)
  own_causes (guard c e) i j h =
      let f = and_parts (each_cmp form_fits (map (put_cmp (m.for_index i j)) c.all)) (coefficients_fit (mapped m i j e))
      (sym (fold-guard Bool (form_step form_fits) _ _) ∙ h) in
      λ t. own_cmps i j c.all f.0 t || own_causes e i j f.1 t
  own_causes (let_in a b) i j h =
      let f = both a b i j (suc j) (sym (fold-let_in Bool (form_step form_fits) _ _) ∙ h) in
      let g : Fits b i (j + 1) = ap (λ k. coefficients_fit (mapped m i k b)) (add-one j) ∙ f.1 in
      λ t. own_causes a i j f.0 t || own_causes b i (j + 1) g t
  own_causes (add a b) i j h = let f = both a b i j j (sym (fold-add Bool (form_step form_fits) _ _) ∙ h) in
      λ t. own_causes a i j f.0 t || own_causes b i j f.1 t
  own_causes (sub a b) i j h = let f = both a b i j j (sym (fold-sub Bool (form_step form_fits) _ _) ∙ h) in
      λ t. own_causes a i j f.0 t || own_causes b i j f.1 t
  own_causes (mul a b) i j h = let f = both a b i j j (sym (fold-mul Bool (form_step form_fits) _ _) ∙ h) in
      λ t. own_causes a i j f.0 t || own_causes b i j f.1 t
  own_causes (concat a b) i j h = let f = both a b i j j (sym (fold-concat Bool (form_step form_fits) _ _) ∙ h) in
      λ t. own_causes a i j f.0 t || own_causes b i j f.1 t
  own_causes (flatten e) i j h = own_causes e i j (sym (fold-flatten Bool (form_step form_fits) _) ∙ h)
  own_causes (split k e) i j h = own_causes e i j (sym (fold-split Bool (form_step form_fits) k _) ∙ h)
  own_causes (transpose e) i j h = own_causes e i j (sym (fold-transpose Bool (form_step form_fits) _) ∙ h)
  own_causes (trunc_l n e) i j h =
      own_causes e i j (and_parts (form_fits n) (coefficients_fit (mapped m i j e)) (sym (fold-trunc_l Bool (form_step form_fits) _ _) ∙ h)).1
  own_causes (trunc_r n e) i j h =
      own_causes e i j (and_parts (form_fits n) (coefficients_fit (mapped m i j e)) (sym (fold-trunc_r Bool (form_step form_fits) _ _) ∙ h)).1
  own_causes (pad_l n e) i j h =
      own_causes e i j (and_parts (form_fits n) (coefficients_fit (mapped m i j e)) (sym (fold-pad_l Bool (form_step form_fits) _ _) ∙ h)).1
  own_causes (pad_r n e) i j h =
      own_causes e i j (and_parts (form_fits n) (coefficients_fit (mapped m i j e)) (sym (fold-pad_r Bool (form_step form_fits) _ _) ∙ h)).1

-- a refusal of the whole walk is a coefficient that is too large, or one of the map at a variable of the term
module _ (m : Replacement) (r : Refusals) (term : Term) where
  abbrev whole : Term
  whole = mapped m 0 0 term

  cause_of : (e : MapRefusal) → part_causes m r term 0 0 e ≡ true → some_place (form_causes m r e) (tensor_refused r e) term 0 0 ≡ true
  cause_of e h = sym (place_fold-is (form_causes m r e) (tensor_refused r e) term 0 0) ∙ h

  too_large : (b : Bool) → coefficients_fit whole ≡ b → part_causes m r term 0 0 CoefficientTooLarge ≡ true → (coefficients_fit whole ≡ false)
      ⊎ (refused r term CoefficientTooLarge ≡ true)
  unfolding form_causes
  too_large false f h = inl f
  too_large true f h =
      inr (sym (own_causes m (form_refused r CoefficientTooLarge) (tensor_refused r CoefficientTooLarge) term 0 0 f) ∙ cause_of CoefficientTooLarge h)

  own_refusal : (e : MapRefusal) → ((i j : ℕ) (x : Items) → form_causes m r e i j x ≡ form_refused r e i j x) → part_causes m r term 0 0 e ≡ true
      → refused r term e ≡ true
  own_refusal e same h =
      sym (λ t. some_place (λ i j x. same i j x t) (tensor_refused r e) term 0 0) ∙ cause_of e h

  pub refusal_is : (e : MapRefusal) → (is_memory e || part_causes m r term 0 0 e) ≡ true → IsMapped whole (refused r term) (Err e)
  unfolding form_causes
  refusal_is CoefficientTooLarge h = too_large (coefficients_fit whole) refl h
  refusal_is IndexTooLong h = inr (own_refusal IndexTooLong (λ i j x. or_false (form_refused r IndexTooLong i j x)) h)
  refusal_is NotAffine h = own_refusal NotAffine (λ i j x. or_false (form_refused r NotAffine i j x)) h
  refusal_is (TooManyNodes n) h = inr (own_refusal (TooManyNodes n) (λ i j x. or_false (form_refused r (TooManyNodes n) i j x)) h)
  refusal_is Memory h = tt

  pub some_part : (o : Option Term) (x : Term) → o ≡ Some x → IsPartOf (map_fold m term 0 0) (part_causes m r term 0 0) (Ok o) → x ≡ whole
  some_part o x s p = (subst (λ o. IsPartOf (map_fold m term 0 0) (part_causes m r term 0 0) (Ok o)) s p).0 ∙ map_fold-is m term 0 0

  pub too_long_of : (o : Option Term) → o ≡ None → IsPartOf (map_fold m term 0 0) (part_causes m r term 0 0) (Ok o)
      → IsMapped whole (refused r term) (Err IndexTooLong)
  too_long_of o s p =
      let q = subst (λ o. IsPartOf (map_fold m term 0 0) (part_causes m r term 0 0) (Ok o)) s p in
      let e = sym (map_fold-is m term 0 0) in
      inl (ap coefficients_fit e ∙ q.0, ap forms_short e ∙ q.1)

pub keeps_of : (m : Replacement) (e : Term) (own : MapRefusal → Bool) (a : Result Term MapRefusal) → AllOrdered e → IsMapped (mapped m 0 0 e) own a
    → IfOk a (Keeps m e)
keeps_of m e own (Ok x) ok h = subst (Keeps m e) (sym h.0) (mapped_keeps m e ok)
keeps_of m e own (Err x) ok h = tt

abbrev none : ℕ → Bool
none v = false

none_factors : (fs : List Atom) → Each (λ a. atom_has none a ≡ false) fs → any_true (map (atom_has none) fs) ≡ false
none_factors [] h = refl
none_factors (f ∷ fs) h = λ t. h.0 t || none_factors fs h.1 t

none_terms : (ts : List (Item Atom)) → EachTerm (λ a. atom_has none a ≡ false) ts → terms_have none ts ≡ false
none_terms [] h = refl
none_terms (u ∷ ts) h = λ t. h.0 t || none_terms ts h.1 t

pub has-none : (x : Items) → form_has none x ≡ false
has-none = for_items (λ a. atom_has none a ≡ false) (λ i. form_has none i ≡ false)
    (λ s. has-Size none s) (λ v. has-Var none v) (λ i k h. has-Div none i k ∙ h) (λ fs h. has-Mul none fs ∙ none_factors fs h)
    (λ ts c h. has-items none (record { terms = ts; constant = c }) ∙ none_terms ts h)

-- no place passes a test that none does
module _ (p : ℕ → ℕ → Items → Bool) (q : ℕ → ℕ → ℕ → Bool) (no_form : (i j : ℕ) (x : Items) → p i j x ≡ false) (no_var : (i j v : ℕ) → q i j v ≡ false) where
  no_cmps : (i j : ℕ) (cs : List Cmp) → any_cmp (p i j) cs ≡ false
  no_cmps i j [] = refl
  no_cmps i j (c ∷ cs) = λ t. no_form i j (cmp_form c) t || no_cmps i j cs t

  pub no_place : (e : Term) (i j : ℕ) → some_place p q e i j ≡ false
  no_place (Lit w) i j = refl
  no_place (TVar v) i j = no_var i j v
  no_place (WordOf x) i j = no_form i j x
  no_place (index e x) i j = λ t. no_place e i j t || no_form i j x t
  no_place (gen n e) i j = no_place e (i + 1) j
  no_place (sum n e) i j = no_place e (i + 1) j
  no_place (guard c e) i j = λ t. no_cmps i j c.all t || no_place e i j t
  no_place (let_in a b) i j = λ t. no_place a i j t || no_place b i (j + 1) t
  no_place (add a b) i j = λ t. no_place a i j t || no_place b i j t
  no_place (sub a b) i j = λ t. no_place a i j t || no_place b i j t
  no_place (mul a b) i j = λ t. no_place a i j t || no_place b i j t
  no_place (concat a b) i j = λ t. no_place a i j t || no_place b i j t
  no_place (flatten e) i j = no_place e i j
  no_place (split k e) i j = no_place e i j
  no_place (transpose e) i j = no_place e i j
  no_place (trunc_l n e) i j = no_place e i j
  no_place (trunc_r n e) i j = no_place e i j
  no_place (pad_l n e) i j = no_place e i j
  no_place (pad_r n e) i j = no_place e i j

never_refused : (r : Refusals) (e : MapRefusal) (term : Term) → NeverRefuses r → refused r term e ≡ false
unfolding tensor_refused
never_refused r e term h = no_place (form_refused r e) (tensor_refused r e)
    (λ i j x. (λ t. form_has (λ v. is_refusal e (h.at_index i j v t)) x) ∙ has-none x) (λ i j q. ap (is_refusal e) (h.at_tensor i j q)) term 0 0

left : {A : Type 0} (b : Bool) → b ≡ false → A ⊎ (b ≡ true) → A
left b h (inl a) = a
left b h (inr k) = absurd (cc)

-- where a map never refuses and each mapped coefficient fits, want of memory is the one refusal on the way
pub memory_left : (m : Replacement) (r : Refusals) (term : Term) (e : MapRefusal) → NeverRefuses r → coefficients_fit (mapped m 0 0 term) ≡ true
    → (is_memory e || part_causes m r term 0 0 e) ≡ true → e ≡ Memory
unfolding form_causes
memory_left m r term CoefficientTooLarge n f h =
    let no = left (refused r term CoefficientTooLarge) (never_refused r CoefficientTooLarge term n) (too_large m r term true f h) in absurd (cc)
memory_left m r term IndexTooLong n f h =
    let yes = own_refusal m r term IndexTooLong (λ i j x. or_false (form_refused r IndexTooLong i j x)) h in
    let no = never_refused r IndexTooLong term n in absurd (cc)
memory_left m r term NotAffine n f h =
    let yes = own_refusal m r term NotAffine (λ i j x. or_false (form_refused r NotAffine i j x)) h in
    let no = never_refused r NotAffine term n in absurd (cc)
memory_left m r term (TooManyNodes k) n f h =
    let yes = own_refusal m r term (TooManyNodes k) (λ i j x. or_false (form_refused r (TooManyNodes k) i j x)) h in
    let no = never_refused r (TooManyNodes k) term n in absurd (cc)
memory_left m r term Memory n f h = refl

-- a map that never refuses leaves the limits alone
pub limits_alone : (raw term : Term) (r : Refusals) (a : Result Term MapRefusal) → NeverRefuses r → IsMapped raw (refused r term) a → IsWithinLimits raw a
limits_alone raw term r (Ok e) n h = h
limits_alone raw term r (Err CoefficientTooLarge) n h = left (refused r term CoefficientTooLarge) (never_refused r CoefficientTooLarge term n) h
limits_alone raw term r (Err IndexTooLong) n h = left (refused r term IndexTooLong) (never_refused r IndexTooLong term n) h
limits_alone raw term r (Err NotAffine) n h = let no = never_refused r NotAffine term n in absurd (cc)
limits_alone raw term r (Err (TooManyNodes k)) n h = left (refused r term (TooManyNodes k)) (never_refused r (TooManyNodes k) term n) h
limits_alone raw term r (Err Memory) n h = h

pub never-no_refusals : NeverRefuses no_refusals
never-no_refusals = record { at_index = λ i j v. refl; at_tensor = λ i j q. refl }
