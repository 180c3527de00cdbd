-- Replacements in scope leave a term well scoped, and those of the three plain maps are in scope.
use Rattle.std.proofs.Common.{◌≡◌, ℕ, suc, ◌+◌, ◌-◌, ◌<◌, ◌≤◌, List, [], ◌∷◌, length, map, refl, ap, sym, ◌∙◌, arith, Bool, true, false, not, ◌&&◌, cond}
use Rattle.std.proofs.Common.{nat_lt, if◌then◌else◌, Result, Ok, Err, IfOk, subst}
use Rattle.std.proofs.lemmas.Bool.{and_from, and_parts, lt-ltb, ltb-true, ltb-false}
use Rattle.affine_index.specs.Condition.{all_scoped}
use Rattle.affine_index.specs.Form.{var_form}
use Rattle.affine_index.specs.Limited.{items_scoped}
use Rattle.affine_index.specs.Put.{given, moved, put_all, shifted}
use Rattle.affine_index.specs.declared.cond.Cmp.{Cmp}
use Rattle.affine_index.specs.declared.cond.Cmp.TheVariants.{Ge, Eq}
use Rattle.affine_index.specs.declared.form.Atom.TheVariants.{Var}
use Rattle.affine_index.specs.declared.form.Items.{Items}
use Rattle.affine_index.proofs.ReadyLaws.{scoped-Var}
use Rattle.term_tree.specs.declared.term.Term.{Term, Lit, TVar, WordOf}
use Rattle.term_tree.specs.Scope.{cond_scoped, is_empty, term_scoped}
use Rattle.term_tree.specs.Syntax.{index, gen, sum, guard, let_in, add, sub, mul, concat, flatten, split, transpose, trunc_l, trunc_r, pad_l, pad_r}
use Rattle.binders.specs.Answers.{IsMapped}
use Rattle.binders.specs.Maps.{Replacement, mapped, put_cmp}
use Rattle.binders.specs.PlainMaps.{shift_map}
use Rattle.binders.specs.Scoped.{KeepsScope, ScopesPutIndex, ScopesPutTensor, ScopesShift, SendsScope}
use Rattle.binders.specs.declared.refusal.MapRefusal.{MapRefusal}
use Rattle.binders.proofs.ScopedForms.{of_atom-scoped, put_all-scoped}

module _ (m : Replacement) (sizes v t v' t' : ℕ) (sends : SendsScope m sizes v t v' t') where
  form-scoped : (x : Items) (i j : ℕ) → items_scoped sizes (v + i) x ≡ true → items_scoped sizes (v' + i) (put_all (m.for_index i j) x) ≡ true
  form-scoped x i j h = put_all-scoped sizes (v' + i) (v + i) (m.for_index i j) (λ k l. sends.index_scoped i j k l) x h

  cmps-scoped : (cs : List Cmp) (i j : ℕ) → all_scoped sizes (v + i) cs ≡ true → all_scoped sizes (v' + i) (map (put_cmp (m.for_index i j)) cs) ≡ true
  cmps-scoped [] i j h = refl
  cmps-scoped (Ge x ∷ cs) i j h = let p = and_parts (items_scoped sizes (v + i) x) _ h in and_from _ _ (form-scoped x i j p.0) (cmps-scoped cs i j p.1)
  cmps-scoped (Eq x ∷ cs) i j h = let p = and_parts (items_scoped sizes (v + i) x) _ h in and_from _ _ (form-scoped x i j p.0) (cmps-scoped cs i j p.1)

  some_cmp : (cs : List Cmp) (i j : ℕ) → not (is_empty cs) ≡ true → not (is_empty (map (put_cmp (m.for_index i j)) cs)) ≡ true
  some_cmp [] i j h = h
  some_cmp (c ∷ cs) i j h = refl

  abbrev ScopedAt : Term → ℕ → ℕ → Type 0
  ScopedAt e i j = term_scoped sizes e (v + i) (t + j) ≡ true → term_scoped sizes (mapped m i j e) (v' + i) (t' + j) ≡ true

  both : (a b : Term) (i j : ℕ) → ScopedAt a i j → ScopedAt b i j → (term_scoped sizes a (v + i) (t + j) && term_scoped sizes b (v + i) (t + j)) ≡ true
      → (term_scoped sizes (mapped m i j a) (v' + i) (t' + j) && term_scoped sizes (mapped m i j b) (v' + i) (t' + j)) ≡ true
  both a b i j f g h = let p = and_parts (term_scoped sizes a (v + i) (t + j)) (term_scoped sizes b (v + i) (t + j)) h in and_from _ _ (f p.0) (g p.1)

  kept : (e : Term) (b : Bool) (i j : ℕ) → ScopedAt e i j → (b && term_scoped sizes e (v + i) (t + j)) ≡ true
      → (b && term_scoped sizes (mapped m i j e) (v' + i) (t' + j)) ≡ true
  kept e b i j f h = let p = and_parts b (term_scoped sizes e (v + i) (t + j)) h in and_from b _ p.0 (f p.1)

  under_index : (e : Term) (b : Bool) (i j : ℕ) → ScopedAt e (suc i) j → (b && term_scoped sizes e (v + i + 1) (t + j)) ≡ true
      → (b && term_scoped sizes (mapped m (suc i) j e) (v' + i + 1) (t' + j)) ≡ true
  under_index e b i j f h =
      let p = and_parts b (term_scoped sizes e (v + i + 1) (t + j)) h in
      let at : v + suc i ≡ v + i + 1 = omega arith in
      let at' : v' + suc i ≡ v' + i + 1 = omega arith in
      and_from b _ p.0 (ap (λ n. term_scoped sizes (mapped m (suc i) j e) n (t' + j)) (sym at') ∙ f (ap (λ n. term_scoped sizes e n (t + j)) at ∙ p.1))

  under_tensor : (e : Term) (b c : Bool) (i j : ℕ) → (b ≡ true → c ≡ true) → ScopedAt e i (suc j) → (b && term_scoped sizes e (v + i) (t + j + 1)) ≡ true
      → (c && term_scoped sizes (mapped m i (suc j) e) (v' + i) (t' + j + 1)) ≡ true
  under_tensor e b c i j d f h =
      let p = and_parts b (term_scoped sizes e (v + i) (t + j + 1)) h in
      let at : t + suc j ≡ t + j + 1 = omega arith in
      let at' : t' + suc j ≡ t' + j + 1 = omega arith in
      and_from c _ (d p.0) (ap (λ n. term_scoped sizes (mapped m i (suc j) e) (v' + i) n) (sym at') ∙ f (ap (λ n. term_scoped sizes e (v + i) n) at ∙ p.1))

  pub mapped-scoped : (e : Term) (i j : ℕ) → ScopedAt e i j
  mapped-scoped (Lit w) i j h = refl
  mapped-scoped (TVar q) i j h = sends.tensor_scoped i j q (ltb-true q (t + j) h)
  mapped-scoped (WordOf x) i j h = form-scoped x i j h
  mapped-scoped (index e x) i j h =
      let p = and_parts (term_scoped sizes e (v + i) (t + j)) (items_scoped sizes (v + i) x) h in and_from _ _ (mapped-scoped e i j p.0) (form-scoped x i j p.1)
  mapped-scoped (gen n e) i j h = under_index e (items_scoped sizes 0 n) i j (mapped-scoped e (suc i) j) h
  mapped-scoped (sum n e) i j h = under_index e (items_scoped sizes 0 n) i j (mapped-scoped e (suc i) j) h
  mapped-scoped (guard c e) i j h =
      let p = and_parts (cond_scoped sizes (v + i) c) (term_scoped sizes e (v + i) (t + j)) h in
      let q = and_parts (not (is_empty c.all)) (all_scoped sizes (v + i) c.all) p.0 in
      and_from _ _ (and_from _ _ (some_cmp c.all i j q.0) (cmps-scoped c.all i j q.1)) (mapped-scoped e i j p.1)
  mapped-scoped (let_in a b) i j h = under_tensor b (term_scoped sizes a (v + i) (t + j)) _ i j (mapped-scoped a i j) (mapped-scoped b i (suc j)) h
  mapped-scoped (add a b) i j h = both a b i j (mapped-scoped a i j) (mapped-scoped b i j) h
  mapped-scoped (sub a b) i j h = both a b i j (mapped-scoped a i j) (mapped-scoped b i j) h
  mapped-scoped (mul a b) i j h = both a b i j (mapped-scoped a i j) (mapped-scoped b i j) h
  mapped-scoped (concat a b) i j h = both a b i j (mapped-scoped a i j) (mapped-scoped b i j) h
  mapped-scoped (flatten e) i j h = mapped-scoped e i j h
  mapped-scoped (split k e) i j h = kept e _ i j (mapped-scoped e i j) h
  mapped-scoped (transpose e) i j h = mapped-scoped e i j h
  mapped-scoped (trunc_l n e) i j h = kept e (items_scoped sizes 0 n) i j (mapped-scoped e i j) h
  mapped-scoped (trunc_r n e) i j h = kept e (items_scoped sizes 0 n) i j (mapped-scoped e i j) h
  mapped-scoped (pad_l n e) i j h = kept e (items_scoped sizes 0 n) i j (mapped-scoped e i j) h
  mapped-scoped (pad_r n e) i j h = kept e (items_scoped sizes 0 n) i j (mapped-scoped e i j) h

-- the mapped term
pub mapped_scope : (m : Replacement) (e : Term) → KeepsScope m e (mapped m 0 0 e)
mapped_scope m e sizes v t v' t' sends h =
    let none : (n : ℕ) → n + 0 ≡ n = λ n. omega arith in
    sym (λ k. term_scoped sizes (mapped m 0 0 e) (none v' k) (none t' k))
    ∙ mapped-scoped m sizes v t v' t' sends e 0 0 ((λ k. term_scoped sizes e (none v k) (none t k)) ∙ h)

-- what a map answers
pub scope_of : (m : Replacement) (e : Term) (own : MapRefusal → Bool) (a : Result Term MapRefusal) → IsMapped (mapped m 0 0 e) own a → IfOk a (KeepsScope m e)
scope_of m e own (Ok x) h = subst (KeepsScope m e) (sym h.0) (mapped_scope m e)
scope_of m e own (Err x) h = tt

var-scoped : (sizes w k : ℕ) → k < w → items_scoped sizes w (var_form k) ≡ true
var-scoped sizes w k h = of_atom-scoped sizes w (Var k) (scoped-Var sizes w k ∙ lt-ltb k w h)

-- a variable number, moved
moved_below : (a from n k : ℕ) (b : Bool) → nat_lt k from ≡ b → from ≤ n → k < n → cond b k (k + a) < n + a
moved_below a from n k true e f h = omega (arith, h)
moved_below a from n k false e f h = omega (arith, h)

moved-scoped : (sizes a from n w k : ℕ) → w ≡ n + a → k < n → from ≤ n → items_scoped sizes w (moved from a k) ≡ true
moved-scoped sizes a from n w k e h f =
    let l = moved_below a from n k (nat_lt k from) refl f h in
    var-scoped sizes w (cond (nat_lt k from) k (k + a)) (omega (arith, l, e))

pub scopes_shift : (a b : ℕ) → ScopesShift a b
scopes_shift a b sizes v t = record {
  index_scoped = λ i j w h. moved-scoped sizes a i (v + i) (v + a + i) w (omega arith) h (omega arith);
  tensor_scoped = λ i j q h.
      let l = moved_below b j (t + j) q (nat_lt q j) refl (omega arith) h in
      lt-ltb (cond (nat_lt q j) q (q + b)) (t + b + j) (omega (arith, l));
}

-- a form under more binders
lifted-scoped : (sizes w i : ℕ) (x : Items) → items_scoped sizes w x ≡ true → items_scoped sizes (w + i) (shifted 0 i x) ≡ true
lifted-scoped sizes w i x h = put_all-scoped sizes (w + i) w (moved 0 i) (λ k l. moved-scoped sizes i 0 w (w + i) k refl l (omega arith)) x h

pub scopes_put_index : (by : List Items) (under : ℕ) → ScopesPutIndex by under
scopes_put_index by under sizes v t forms = record { index_scoped = λ i j w h. first i w h (nat_lt w i) refl; tensor_scoped = λ i j q h. lt-ltb q (t + j) h }
  where
    second : (i w : ℕ) → w < length by + v + i → i ≤ w → (b : Bool) → nat_lt (w - i) (length by) ≡ b
        → items_scoped sizes (under + v + i) (if b then shifted 0 i (given by (w - i)) else var_form (w - length by + under)) ≡ true
    second i w h l true c = lifted-scoped sizes (under + v) i (given by (w - i)) (forms (w - i) (ltb-true (w - i) (length by) c))
    second i w h l false c =
        let k = ltb-false (w - i) (length by) c in
        var-scoped sizes (under + v + i) (w - length by + under) (omega (arith, h, l, k))

    first : (i w : ℕ) → w < length by + v + i → (b : Bool) → nat_lt w i ≡ b
        → items_scoped sizes (under + v + i)
        (if b then var_form w else (if nat_lt (w - i) (length by) then shifted 0 i (given by (w - i)) else var_form (w - length by + under))) ≡ true
    first i w h true c = let k = ltb-true w i c in var-scoped sizes (under + v + i) w (omega (arith, k))
    first i w h false c = second i w h (ltb-false w i c) (nat_lt (w - i) (length by)) refl

pub scopes_put_tensor : (by : Term) (under : ℕ) → ScopesPutTensor by under
scopes_put_tensor by under sizes v t scoped =
    record { index_scoped = λ i j w h. var-scoped sizes (v + i) w h; tensor_scoped = λ i j q h. first i j q h (nat_lt q j) refl }
  where
    shifted_by : (i j : ℕ) → term_scoped sizes (mapped (shift_map i j) 0 0 by) (v + i) (under + t + j) ≡ true
    shifted_by i j = mapped_scope (shift_map i j) by sizes v (under + t) (v + i) (under + t + j) (scopes_shift i j sizes v (under + t)) scoped

    second : (i j q : ℕ) → q < t + 1 + j → (b : Bool) → nat_lt j q ≡ b
        → term_scoped sizes (if b then TVar (q - 1 + under) else mapped (shift_map i j) 0 0 by) (v + i) (under + t + j) ≡ true
    second i j q h true c = let k = ltb-true j q c in lt-ltb (q - 1 + under) (under + t + j) (omega (arith, h, k))
    second i j q h false c = shifted_by i j

    first : (i j q : ℕ) → q < t + 1 + j → (b : Bool) → nat_lt q j ≡ b
        → term_scoped sizes (if b then TVar q else (if nat_lt j q then TVar (q - 1 + under) else mapped (shift_map i j) 0 0 by)) (v + i) (under + t + j) ≡ true
    first i j q h true c = let k = ltb-true q j c in lt-ltb q (under + t + j) (omega (arith, k))
    first i j q h false c = second i j q h (nat_lt j q) refl
