-- A well scoped term is within the reach of a map whose reach has the variables in scope.
use Rattle.std.proofs.Common.{◌≡◌, ℕ, ◌+◌, ◌-◌, ◌^◌, ◌<◌, ◌≤◌, List, [], ◌∷◌, length, map, refl, ap, sym, ◌∙◌, arith, Bool, true, false, not, ◌||◌, ◌&&◌}
use Rattle.std.proofs.Common.{nat_le, nat_lt, if◌then◌else◌}
use Rattle.std.proofs.lemmas.Bool.{and_from, and_parts, le-leb, leb-true, lt-ltb, ltb-false, ltb-true, not-true, or_right}
use Rattle.affine_index.specs.Condition.{all_scoped}
use Rattle.affine_index.specs.Every.{atom_every, atoms_every, terms_every}
use Rattle.affine_index.specs.Limited.{all_firsts, all_true, atom_scoped, items_scoped}
use Rattle.affine_index.specs.Normal.{any_true}
use Rattle.affine_index.specs.Put.{given, number_fits, numbers_fit}
use Rattle.affine_index.specs.declared.cond.Cmp.{Cmp}
use Rattle.affine_index.specs.declared.cond.Cmp.TheVariants.{Ge, Eq}
use Rattle.affine_index.specs.declared.form.Atom.{Atom, out-Atom}
use Rattle.affine_index.specs.declared.form.Atom.TheVariants.{Div, Mul}
use Rattle.affine_index.specs.declared.form.Atom.TheOpen.{Atom-F}
use Rattle.affine_index.specs.declared.form.Item.{Item}
use Rattle.affine_index.specs.declared.form.Items.{Items}
use Rattle.affine_index.proofs.Induction.{Each, EachTerm, for_items}
use Rattle.affine_index.proofs.EveryLaws.{every-Size, every-Var, every-Div, every-Mul, every-items}
use Rattle.affine_index.proofs.ReadyLaws.{out-Size, out-Var, out-Div, out-Mul, scoped-Div, scoped-Mul, scoped-Var, scoped-items, scoped_term}
use Rattle.term_tree.specs.declared.term.Term.{Term, Lit, TVar, WordOf}
use Rattle.term_tree.specs.Counts.{node_depth}
use Rattle.term_tree.specs.Scope.{cond_scoped, is_empty, term_scoped}
use Rattle.term_tree.specs.Syntax.{index, gen, sum, guard, let_in, add, sub, mul, concat, flatten, split, transpose, trunc_l, trunc_r, pad_l, pad_r}
use Rattle.binders.specs.Answers.{IsWithinReach, Reach, form_beyond, is_beyond, some_place}
use Rattle.binders.specs.PlainMaps.{may_shift, put_index_reach, put_tensor_reach, shift_reach}
use Rattle.binders.specs.Uses.{any_cmp, atom_has, form_has, terms_have}
use Rattle.binders.proofs.RefusalLaws.{has-none, no_place}
use Rattle.binders.proofs.HasLaws.{has-Size, has-Var, has-Div, has-Mul, has-items}

-- no variable of a well scoped form fails a test that each variable in scope passes
module _ (p : ℕ → Bool) (sizes vars : ℕ) (inside : (v : ℕ) → v < vars → p v ≡ true) where
  abbrev fails : ℕ → Bool
  fails v = not (p v)

  abbrev AtomInside : Atom → Type 0
  AtomInside a = atom_scoped sizes vars a ≡ true → atom_has fails a ≡ false

  abbrev FormInside : Items → Type 0
  FormInside x = items_scoped sizes vars x ≡ true → form_has fails x ≡ false

  factors_inside : (fs : List Atom) → Each AtomInside fs → all_true (map (atom_scoped sizes vars) fs) ≡ true → any_true (map (atom_has fails) fs) ≡ false
  factors_inside [] h s = refl
  factors_inside (f ∷ fs) h s =
      let parts = and_parts (atom_scoped sizes vars f) _ s in
      λ t. h.0 parts.0 t || factors_inside fs h.1 parts.1 t

  terms_inside : (ts : List (Item Atom)) → EachTerm AtomInside ts → all_firsts (map (scoped_term sizes vars) ts) ≡ true → terms_have fails ts ≡ false
  terms_inside [] h s = refl
  terms_inside (u ∷ ts) h s =
      let parts = and_parts (atom_scoped sizes vars u.atom) _ s in
      λ t. h.0 parts.0 t || terms_inside ts h.1 parts.1 t

  pub form_inside : (x : Items) → FormInside x
  form_inside = for_items AtomInside FormInside
      (λ k s. has-Size fails k)
      (λ v s. has-Var fails v ∙ ap not (inside v (ltb-true v vars (sym (scoped-Var sizes vars v) ∙ s))))
      (λ x k h s. has-Div fails x k ∙ h (sym (scoped-Div sizes vars x k) ∙ s))
      (λ fs h s. has-Mul fails fs ∙ factors_inside fs h (sym (scoped-Mul sizes vars fs) ∙ s))
      (λ ts c h s.
      let x : Items = record { terms = ts; constant = c } in
      has-items fails x ∙ terms_inside ts h (sym (scoped-items sizes vars x) ∙ s))

module _ (d : Reach) (sizes vars tensors most : ℕ)
    (at_index : (i j v : ℕ) → i ≤ most → j ≤ most → v < vars + i → d.has_index i j v ≡ true)
    (at_tensor : (i j q : ℕ) → i ≤ most → j ≤ most → q < tensors + j → d.has_tensor i j q ≡ true) where
  abbrev beyond : Term → ℕ → ℕ → Bool
  beyond e i j = some_place (form_beyond d) (λ i j q. not (d.has_tensor i j q)) e i j

  abbrev Scoped : Term → ℕ → ℕ → Type 0
  Scoped e i j = term_scoped sizes e (vars + i) (tensors + j) ≡ true

  form_within : (x : Items) (i j : ℕ) → i ≤ most → j ≤ most → items_scoped sizes (vars + i) x ≡ true → form_beyond d i j x ≡ false
  unfolding form_beyond
  form_within x i j a b s = form_inside (λ v. d.has_index i j v) sizes (vars + i) (λ v l. at_index i j v a b l) x s

  cmps_within : (cs : List Cmp) (i j : ℕ) → i ≤ most → j ≤ most → all_scoped sizes (vars + i) cs ≡ true → any_cmp (form_beyond d i j) cs ≡ false
  cmps_within [] i j a b s = refl
  cmps_within (Ge x ∷ cs) i j a b s =
      let parts = and_parts (items_scoped sizes (vars + i) x) _ s in
      λ t. form_within x i j a b parts.0 t || cmps_within cs i j a b parts.1 t
  cmps_within (Eq x ∷ cs) i j a b s =
      let parts = and_parts (items_scoped sizes (vars + i) x) _ s in
      λ t. form_within x i j a b parts.0 t || cmps_within cs i j a b parts.1 t

  under_index : (e : Term) (i j : ℕ) → term_scoped sizes e (vars + i + 1) (tensors + j) ≡ true → Scoped e (i + 1) j
  under_index e i j s = let at : vars + (i + 1) ≡ vars + i + 1 = omega arith in ap (λ n. term_scoped sizes e n (tensors + j)) at ∙ s

  under_tensor : (e : Term) (i j : ℕ) → term_scoped sizes e (vars + i) (tensors + j + 1) ≡ true → Scoped e i (j + 1)
  under_tensor e i j s = let at : tensors + (j + 1) ≡ tensors + j + 1 = omega arith in ap (λ n. term_scoped sizes e (vars + i) n) at ∙ s

  abbrev Within : Term → Type 0
  Within e = (i j : ℕ) → i + node_depth e ≤ most → j + node_depth e ≤ most → Scoped e i j → beyond e i j ≡ false

  two : (e f : Term) (i j : ℕ) → Within e → Within f → i + node_depth e + 1 ≤ most → j + node_depth e + 1 ≤ most → i + node_depth f + 1 ≤ most
      → j + node_depth f + 1 ≤ most
      → (term_scoped sizes e (vars + i) (tensors + j) && term_scoped sizes f (vars + i) (tensors + j)) ≡ true → (beyond e i j || beyond f i j) ≡ false
  two e f i j g h a b c k s =
      let parts = and_parts (term_scoped sizes e (vars + i) (tensors + j)) (term_scoped sizes f (vars + i) (tensors + j)) s in
      λ t. g i j (omega arith) (omega arith) parts.0 t || h i j (omega arith) (omega arith) parts.1 t

  pub within : (e : Term) → Within e
  within (Lit w) i j a b s = refl
  within (TVar q) i j a b s = ap not (at_tensor i j q (omega arith) (omega arith) (ltb-true q (tensors + j) s))
  within (WordOf x) i j a b s = form_within x i j (omega arith) (omega arith) s
  within (index e x) i j a b s =
      let parts = and_parts (term_scoped sizes e (vars + i) (tensors + j)) (items_scoped sizes (vars + i) x) s in
      λ t. within e i j (omega arith) (omega arith) parts.0 t || form_within x i j (omega arith) (omega arith) parts.1 t
  within (gen n e) i j a b s = within e (i + 1) j (omega arith) (omega arith) (under_index e i j (and_parts (items_scoped sizes 0 n) _ s).1)
  within (sum n e) i j a b s = within e (i + 1) j (omega arith) (omega arith) (under_index e i j (and_parts (items_scoped sizes 0 n) _ s).1)
  within (guard c e) i j a b s =
      let parts = and_parts (cond_scoped sizes (vars + i) c) (term_scoped sizes e (vars + i) (tensors + j)) s in
      let cmps = and_parts (not (is_empty c.all)) (all_scoped sizes (vars + i) c.all) parts.0 in
      λ t. cmps_within c.all i j (omega arith) (omega arith) cmps.1 t || within e i j (omega arith) (omega arith) parts.1 t
  within (let_in e f) i j a b s =
      let parts = and_parts (term_scoped sizes e (vars + i) (tensors + j)) (term_scoped sizes f (vars + i) (tensors + j + 1)) s in
      λ t. within e i j (omega arith) (omega arith) parts.0 t || within f i (j + 1) (omega arith) (omega arith) (under_tensor f i j parts.1) t
  within (add e f) i j a b s = two e f i j (within e) (within f) (omega arith) (omega arith) (omega arith) (omega arith) s
  within (sub e f) i j a b s = two e f i j (within e) (within f) (omega arith) (omega arith) (omega arith) (omega arith) s
  within (mul e f) i j a b s = two e f i j (within e) (within f) (omega arith) (omega arith) (omega arith) (omega arith) s
  within (concat e f) i j a b s = two e f i j (within e) (within f) (omega arith) (omega arith) (omega arith) (omega arith) s
  within (flatten e) i j a b s = within e i j (omega arith) (omega arith) s
  within (split k e) i j a b s = within e i j (omega arith) (omega arith) (and_parts _ (term_scoped sizes e (vars + i) (tensors + j)) s).1
  within (transpose e) i j a b s = within e i j (omega arith) (omega arith) s
  within (trunc_l n e) i j a b s = within e i j (omega arith) (omega arith) (and_parts (items_scoped sizes 0 n) _ s).1
  within (trunc_r n e) i j a b s = within e i j (omega arith) (omega arith) (and_parts (items_scoped sizes 0 n) _ s).1
  within (pad_l n e) i j a b s = within e i j (omega arith) (omega arith) (and_parts (items_scoped sizes 0 n) _ s).1
  within (pad_r n e) i j a b s = within e i j (omega arith) (omega arith) (and_parts (items_scoped sizes 0 n) _ s).1

  -- the condition on what a map is asked for
  pub within_reach_of : (e : Term) → node_depth e ≤ most → term_scoped sizes e vars tensors ≡ true → IsWithinReach d e
  within_reach_of e h s =
      let zero_more : (n : ℕ) → n + 0 ≡ n = λ n. omega arith in
      within e 0 0 (omega arith) (omega arith) ((λ t. term_scoped sizes e (zero_more vars t) (zero_more tensors t)) ∙ s)

-- the numbers of a well scoped form can be moved up
module _ (from by sizes vars : ℕ) (room : vars + by ≤ 2 ^ 32) where
  abbrev can : Atom → Bool
  can a = number_fits from by (out-Atom a)

  abbrev AtomFits : Atom → Type 0
  AtomFits a = atom_scoped sizes vars a ≡ true → atom_every can (λ i. true) a ≡ true

  abbrev FormFits : Items → Type 0
  FormFits x = items_scoped sizes vars x ≡ true → numbers_fit from by x ≡ true

  factors_fit : (fs : List Atom) → Each AtomFits fs → all_true (map (atom_scoped sizes vars) fs) ≡ true → atoms_every can (λ i. true) fs ≡ true
  factors_fit [] h s = refl
  factors_fit (f ∷ fs) h s =
      let parts = and_parts (atom_scoped sizes vars f) _ s in
      and_from (atom_every can (λ i. true) f) _ (h.0 parts.0) (factors_fit fs h.1 parts.1)

  terms_fit : (ts : List (Item Atom)) → EachTerm AtomFits ts → all_firsts (map (scoped_term sizes vars) ts) ≡ true → terms_every can (λ i. true) ts ≡ true
  terms_fit [] h s = refl
  terms_fit (u ∷ ts) h s =
      let parts = and_parts (atom_scoped sizes vars u.atom) _ s in
      and_from (atom_every can (λ i. true) u.atom) _ (h.0 parts.0) (terms_fit ts h.1 parts.1)

  var_fits : (v : ℕ) → v < vars → number_fits from by (Atom-F.Var v) ≡ true
  var_fits v l = or_right (nat_lt v from) (nat_lt (v + by) (2 ^ 32)) (lt-ltb (v + by) (2 ^ 32) (omega (arith, l, room)))

  pub numbers_fit-scoped : (x : Items) → FormFits x
  numbers_fit-scoped = for_items AtomFits FormFits
      (λ k s. every-Size can (λ i. true) k ∙ ap (number_fits from by) (out-Size k))
      (λ v s. every-Var can (λ i. true) v ∙ ap (number_fits from by) (out-Var v) ∙ var_fits v (ltb-true v vars (sym (scoped-Var sizes vars v) ∙ s)))
      (λ x k h s. every-Div can (λ i. true) x k ∙ and_from (can (Div x k)) _ (ap (number_fits from by) (out-Div x k)) (h (sym (scoped-Div sizes vars x k) ∙ s)))
      (λ fs h s. every-Mul can (λ i. true) fs
      ∙ and_from (can (Mul fs)) _ (ap (number_fits from by) (out-Mul fs)) (factors_fit fs h (sym (scoped-Mul sizes vars fs) ∙ s)))
      (λ ts c h s.
      let x : Items = record { terms = ts; constant = c } in
      every-items can (λ i. true) x ∙ terms_fit ts h (sym (scoped-items sizes vars x) ∙ s))

-- a well scoped term may be moved up
pub shift_within : (a b sizes vars tensors : ℕ) (e : Term) → vars + node_depth e + a ≤ 2 ^ 32 → tensors + node_depth e + b ≤ 2 ^ 32
    → term_scoped sizes e vars tensors ≡ true → IsWithinReach (shift_reach a b) e
shift_within a b sizes vars tensors e f g s =
    within_reach_of (shift_reach a b) sizes vars tensors (node_depth e)
    (λ i j v k l h. or_right (nat_lt v i) (nat_lt (v + a) (2 ^ 32)) (lt-ltb (v + a) (2 ^ 32) (omega (arith, f, k, h))))
    (λ i j q k l h. or_right (nat_lt q j) (nat_lt (q + b) (2 ^ 32)) (lt-ltb (q + b) (2 ^ 32) (omega (arith, g, l, h)))) e (omega arith) s

-- well scoped forms may be put for the first variables
pub put_index_within : (by : List Items) (under w sizes vars tensors : ℕ) (e : Term) → ((k : ℕ) → k < length by → items_scoped sizes w (given by k) ≡ true)
    → w + node_depth e ≤ 2 ^ 32 → vars + node_depth e + under ≤ 2 ^ 32 → term_scoped sizes e vars tensors ≡ true → IsWithinReach (put_index_reach by under) e
put_index_within by under w sizes vars tensors e forms f g s =
    within_reach_of (put_index_reach by under) sizes vars tensors (node_depth e) (λ i j v k l h. first i v k h (nat_lt v i) refl) (λ i j q k l h. refl) e
    (omega arith) s
  where
    second : (i v : ℕ) → i ≤ node_depth e → v < vars + i → i ≤ v → (b : Bool) → nat_lt (v - i) (length by) ≡ b
        → (if b then numbers_fit 0 i (given by (v - i)) else nat_lt (v - length by + under) (2 ^ 32)) ≡ true
    second i v k h l true c = numbers_fit-scoped 0 i sizes w (omega (arith, f, k)) (given by (v - i)) (forms (v - i) (ltb-true (v - i) (length by) c))
    second i v k h l false c = lt-ltb (v - length by + under) (2 ^ 32) (omega (arith, g, k, h))

    first : (i v : ℕ) → i ≤ node_depth e → v < vars + i → (b : Bool) → nat_lt v i ≡ b
        → (if b then true else (if nat_lt (v - i) (length by) then numbers_fit 0 i (given by (v - i)) else nat_lt (v - length by + under) (2 ^ 32))) ≡ true
    first i v k h true c = refl
    first i v k h false c = second i v k h (ltb-false v i c) (nat_lt (v - i) (length by)) refl

-- a well scoped term may be put for the first tensor variable
pub put_tensor_within : (by : Term) (under w u sizes vars tensors : ℕ) (e : Term) → term_scoped sizes by w u ≡ true → node_depth by ≤ 2147483647
    → w + node_depth by + node_depth e ≤ 2 ^ 32 → u + node_depth by + node_depth e ≤ 2 ^ 32 → tensors + node_depth e + under ≤ 2 ^ 32
    → term_scoped sizes e vars tensors ≡ true → IsWithinReach (put_tensor_reach by under) e
unfolding may_shift
put_tensor_within by under w u sizes vars tensors e scoped deep f g h s =
    within_reach_of (put_tensor_reach by under) sizes vars tensors (node_depth e) (λ i j v k l b. refl) (λ i j q k l b. first i j q k l b (nat_lt q j) refl) e
    (omega arith) s
  where
    shifted_by : (i j : ℕ) → i ≤ node_depth e → j ≤ node_depth e → may_shift i j by ≡ true
    shifted_by i j k l =
        and_from (nat_le (node_depth by) 2147483647) _ (le-leb (node_depth by) 2147483647 deep)
        (ap not (shift_within i j sizes w u by (omega (arith, f, k)) (omega (arith, g, l)) scoped))

    second : (i j q : ℕ) → i ≤ node_depth e → j ≤ node_depth e → q < tensors + j → (b : Bool)
        → (if b then nat_lt (q - 1 + under) (2 ^ 32) else may_shift i j by) ≡ true
    second i j q k l m true = lt-ltb (q - 1 + under) (2 ^ 32) (omega (arith, h, l, m))
    second i j q k l m false = shifted_by i j k l

    first : (i j q : ℕ) → i ≤ node_depth e → j ≤ node_depth e → q < tensors + j → (b : Bool) → nat_lt q j ≡ b
        → (if b then true else (if nat_lt j q then nat_lt (q - 1 + under) (2 ^ 32) else may_shift i j by)) ≡ true
    first i j q k l m true c = refl
    first i j q k l m false c = second i j q k l m (nat_lt j q)

-- what is known of a term that may be moved
pub may_shift-parts : (i j : ℕ) (e : Term) → may_shift i j e ≡ true → (node_depth e ≤ 2147483647) × IsWithinReach (shift_reach i j) e
unfolding may_shift
may_shift-parts i j e h =
    let parts = and_parts (nat_le (node_depth e) 2147483647) (not (is_beyond (shift_reach i j) e)) h in
    (leb-true (node_depth e) 2147483647 parts.0, not-true (is_beyond (shift_reach i j) e) parts.1)

-- a map that may be asked for each variable
pub within_everywhere : (d : Reach) → ((i j v : ℕ) → d.has_index i j v ≡ true) → ((i j q : ℕ) → d.has_tensor i j q ≡ true) → (e : Term) → IsWithinReach d e
unfolding form_beyond
within_everywhere d h k e =
    no_place (form_beyond d) (λ i j q. not (d.has_tensor i j q)) (λ i j x. (λ t. form_has (λ v. not (h i j v t)) x) ∙ has-none x) (λ i j q. ap not (k i j q)) e
    0 0
