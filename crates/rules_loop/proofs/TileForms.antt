-- The forms of tiles: their values, their scopes and that they are in order.
use Rattle.std.proofs.Common.{◌≡◌, ℕ, ◌+◌, ◌-◌, ◌*◌, ◌/◌, ◌%◌, ◌<◌, ◌≤◌, List, [], ◌∷◌, map, refl, ap, sym, ◌∙◌, arith, true}
use Rattle.std.proofs.Common.{nat_lt}
use Rattle.std.specs.Prelude.{ℤ, pos, negsuc, ◌+ℤ◌, ◌*ℤ◌}
use Rattle.std.specs.Int.{int_div_euclid, int_rem_euclid}
use Rattle.std.proofs.lemmas.Bool.{and_from, and_parts, le-ltb, lt-ltb}
use Rattle.std.proofs.lemmas.Int.{ints}
use Rattle.affine_index.specs.Condition.{at_least_zero}
use Rattle.affine_index.specs.Form.{literal_form, var_form}
use Rattle.affine_index.specs.Limited.{all_firsts, all_true, atom_scoped, items_scoped}
use Rattle.affine_index.specs.Normal.{atom_good, is_ordered, items_good, layer_good}
use Rattle.affine_index.specs.Quotient.{quotient_of, remainder_of}
use Rattle.affine_index.specs.Sum.{difference_of, scaled, sum_of}
use Rattle.affine_index.specs.Value.{items_value}
use Rattle.affine_index.specs.declared.form.Atom.{Atom}
use Rattle.affine_index.specs.declared.form.Atom.TheVariants.{Var}
use Rattle.affine_index.specs.declared.form.Item.{Item}
use Rattle.affine_index.specs.declared.form.Items.{Items}
use Rattle.affine_index.proofs.EveryLaws.{every-Var}
use Rattle.affine_index.proofs.FormScopes.{difference-form, form-of, of-form, quotient-form, remainder-form, scaled-form, sum-form}
use Rattle.affine_index.proofs.Induction.{Each, EachTerm, for_items}
use Rattle.affine_index.proofs.OrderedLaws.{atom-ordered, difference-ordered, literal-ordered, quotient-ordered, scaled-ordered}
use Rattle.affine_index.proofs.ReadyLaws.{out-Var, scoped-Div, scoped-Mul, scoped-Size, scoped-Var, scoped-items, scoped_term}
use Rattle.affine_index.proofs.RemainderLaws.{value-remainder}
use Rattle.affine_index.proofs.Sorted.{sum-ordered}
use Rattle.affine_index.proofs.SumValue.{sum_of-value}
use Rattle.affine_index.proofs.Values.{value-literal, value-quotient}
use Rattle.binders.proofs.PlainLaws.{value-var_form}
use Rattle.term_tree.specs.Shape.{tiles}
use Rattle.path_focus.specs.Making.{rest_below, tile_rest}
use Rattle.path_focus.proofs.MakingLaws.{value-in_tile, value-rest_below, value-tile_rest}
use Rattle.rules_loop.specs.Tilings.{tile_place}
use Rattle.rules_loop.proofs.SwapLaws.{var-scoped}

-- what is over sizes alone is in any scope
module _ (sizes v : ℕ) where
  abbrev AtomMore : Atom → Type 0
  AtomMore a = atom_scoped sizes 0 a ≡ true → atom_scoped sizes v a ≡ true

  abbrev FormMore : Items → Type 0
  FormMore i = items_scoped sizes 0 i ≡ true → items_scoped sizes v i ≡ true

  factors_more : (fs : List Atom) → Each AtomMore fs → all_true (map (atom_scoped sizes 0) fs) ≡ true → all_true (map (atom_scoped sizes v) fs) ≡ true
  factors_more [] e h = refl
  factors_more (f ∷ fs) e h = let p = and_parts (atom_scoped sizes 0 f) (all_true (map (atom_scoped sizes 0) fs)) h in and_from _ _ (e.0 p.0)
      (factors_more fs e.1 p.1)

  terms_more : (ts : List (Item Atom)) → EachTerm AtomMore ts → all_firsts (map (scoped_term sizes 0) ts) ≡ true
      → all_firsts (map (scoped_term sizes v) ts) ≡ true
  terms_more [] e h = refl
  terms_more (t ∷ ts) e h = let p = and_parts (atom_scoped sizes 0 t.atom) (all_firsts (map (scoped_term sizes 0) ts)) h in and_from _ _ (e.0 p.0)
      (terms_more ts e.1 p.1)

  pub more : (i : Items) → FormMore i
  more = for_items AtomMore FormMore (λ k h. scoped-Size sizes v k ∙ sym (scoped-Size sizes 0 k) ∙ h)
      (λ k h. absurd (grind (arith, sym (scoped-Var sizes 0 k) ∙ h)))
      (λ i k f h. scoped-Div sizes v i k ∙ f (sym (scoped-Div sizes 0 i k) ∙ h))
      (λ fs e h. scoped-Mul sizes v fs ∙ factors_more fs e (sym (scoped-Mul sizes 0 fs) ∙ h))
      (λ ts c e h. scoped-items sizes v (record { terms = ts; constant = c })
      ∙ terms_more ts e (sym (scoped-items sizes 0 (record { terms = ts; constant = c })) ∙ h))

-- scopes
module _ (sizes : ℕ) where
  pub literal-scoped : (w : ℕ) (z : ℤ) → items_scoped sizes w (literal_form z) ≡ true
  literal-scoped w z = of-form sizes w (literal_form z) tt

  pub quotient-scoped : (w k : ℕ) (n : Items) → items_scoped sizes w n ≡ true → items_scoped sizes w (quotient_of n k) ≡ true
  quotient-scoped w k n h = of-form sizes w (quotient_of n k) (quotient-form sizes w n k (form-of sizes w n h))

  pub remainder-scoped : (w k : ℕ) (n : Items) → items_scoped sizes w n ≡ true → items_scoped sizes w (remainder_of n k) ≡ true
  remainder-scoped w k n h = of-form sizes w (remainder_of n k) (remainder-form sizes w n k (form-of sizes w n h))

  pub scaled-scoped : (w : ℕ) (c : ℤ) (n : Items) → items_scoped sizes w n ≡ true → items_scoped sizes w (scaled c n) ≡ true
  scaled-scoped w c n h = of-form sizes w (scaled c n) (scaled-form sizes w c n (form-of sizes w n h))

  sum-scoped : (w : ℕ) (a b : Items) → items_scoped sizes w a ≡ true → items_scoped sizes w b ≡ true → items_scoped sizes w (sum_of a b) ≡ true
  sum-scoped w a b h g = of-form sizes w (sum_of a b) (sum-form sizes w a b (form-of sizes w a h) (form-of sizes w b g))

  difference-scoped : (w : ℕ) (a b : Items) → items_scoped sizes w a ≡ true → items_scoped sizes w b ≡ true → items_scoped sizes w (difference_of a b) ≡ true
  difference-scoped w a b h g = of-form sizes w (difference_of a b) (difference-form sizes w a b (form-of sizes w a h) (form-of sizes w b g))

  pub tiles-scoped : (w k : ℕ) (n : Items) → items_scoped sizes w n ≡ true → items_scoped sizes w (tiles k n) ≡ true
  tiles-scoped w k n h = quotient-scoped w k (sum_of n (literal_form (pos (k - 1))))
      (sum-scoped w n (literal_form (pos (k - 1))) h (literal-scoped w (pos (k - 1))))

  pub rest-scoped : (w k : ℕ) (n : Items) → items_scoped sizes w n ≡ true → items_scoped sizes w (tile_rest k n) ≡ true
  rest-scoped w k n h = difference-scoped w (scaled (pos k) (tiles k n)) n (scaled-scoped w (pos k) (tiles k n) (tiles-scoped w k n h)) h

  pub place-scoped : (w k : ℕ) → 1 < w → items_scoped sizes w (tile_place k) ≡ true
  place-scoped w k h = sum-scoped w (scaled (pos k) (var_form 1)) (var_form 0) (scaled-scoped w (pos k) (var_form 1) (var-scoped sizes w 1 h))
      (var-scoped sizes w 0 (omega (arith, h)))

  pub below-scoped : (w : ℕ) (n x : Items) → items_scoped sizes w n ≡ true → items_scoped sizes w x ≡ true → items_scoped sizes w (rest_below n x) ≡ true
  below-scoped w n x h g = difference-scoped w n (sum_of x (literal_form (pos 1))) h (sum-scoped w x (literal_form (pos 1)) g (literal-scoped w (pos 1)))

-- in order
pub var-ordered : (v : ℕ) → is_ordered (var_form v) ≡ true
var-ordered v = atom-ordered (Var v) (every-Var atom_good items_good v ∙ ap layer_good (out-Var v))

pub place-ordered : (k : ℕ) → is_ordered (tile_place k) ≡ true
place-ordered k = sum-ordered (scaled (pos k) (var_form 1)) (var_form 0) (scaled-ordered (pos k) (var_form 1) (var-ordered 1)) (var-ordered 0)

pub tiles-ordered : (k : ℕ) (n : Items) → 0 < k → k ≤ 2147483647 → is_ordered n ≡ true → is_ordered (tiles k n) ≡ true
tiles-ordered k n p l o = quotient-ordered (sum_of n (literal_form (pos (k - 1)))) k p l
    (sum-ordered n (literal_form (pos (k - 1))) o (literal-ordered (pos (k - 1))))

pub remainder-ordered : (k : ℕ) (x : Items) → 0 < k → k ≤ 2147483647 → is_ordered x ≡ true → is_ordered (remainder_of x k) ≡ true
remainder-ordered k x p l o = difference-ordered x (scaled (pos k) (quotient_of x k)) o
    (scaled-ordered (pos k) (quotient_of x k) (quotient-ordered x k p l o))

-- values
pub value-place : (s r : List ℕ) (k p q : ℕ) → items_value s (q ∷ p ∷ r) (tile_place k) ≡ pos (k * p + q)
value-place s r k p q =
    value-in_tile s (q ∷ p ∷ r) k (var_form 1) (var_form 0)
    ∙ (λ i. (pos k *ℤ value-var_form s (q ∷ p ∷ r) 1 i) +ℤ value-var_form s (q ∷ p ∷ r) 0 i)

-- so many tiles of k hold m turns
abbrev pub tile_count : ℕ → ℕ → ℕ
tile_count k m = (m + k - 1) / k

pub covers : (k m : ℕ) → 0 < k → m ≤ k * tile_count k m
covers k m h = omega arith

module _ (s : List ℕ) (k m : ℕ) (n : Items) (positive : 0 < k) (value : items_value s [] n ≡ pos m) where
  last-is : (a k : ℕ) → 0 < k → a + (k - 1) ≡ a + k - 1
  last-is a k h = omega arith

  pub value-tiles : items_value s [] (tiles k n) ≡ pos (tile_count k m)
  value-tiles =
      value-quotient s [] (sum_of n (literal_form (pos (k - 1)))) k positive
      ∙ ap (λ z. int_div_euclid z (pos k))
      (sum_of-value s [] n (literal_form (pos (k - 1))) ∙ (λ i. value i +ℤ value-literal s [] (pos (k - 1)) i))
      ∙ (λ i. pos (last-is m k positive i / k))

  back : (z : ℤ) (a b : ℕ) → z +ℤ pos a ≡ pos b → a ≤ b → z ≡ pos (b - a)
  back (pos c) a b e h = let f : c + a ≡ b = plain (c + a) b e in ap pos (omega (arith, f))
    where
      plain : (x y : ℕ) → pos x ≡ pos y → x ≡ y
      plain x y e = cc
  back (negsuc c) a b e h = absurd (omega (arith, ints, e))

  pub value-rest : items_value s [] (tile_rest k n) ≡ pos (k * tile_count k m - m)
  value-rest = back (items_value s [] (tile_rest k n)) m (k * tile_count k m)
      (ap (λ z. items_value s [] (tile_rest k n) +ℤ z) (sym value) ∙ value-tile_rest s [] k n ∙ ap (λ z. pos k *ℤ z) value-tiles) (covers k m positive)

tested : (z : ℤ) (x m : ℕ) → z +ℤ (pos x +ℤ pos 1) ≡ pos m → at_least_zero z ≡ nat_lt x m
tested (pos c) x m e = sym (lt-ltb x m (omega (arith, ints, e)))
tested (negsuc c) x m e = sym (le-ltb x m (omega (arith, ints, e)))

-- the condition that a turn is below n
pub value-below : (s r : List ℕ) (n x : Items) (v m : ℕ) → items_value s r n ≡ pos m → items_value s r x ≡ pos v
    → at_least_zero (items_value s r (rest_below n x)) ≡ nat_lt v m
value-below s r n x v m e h =
    tested (items_value s r (rest_below n x)) v m ((λ i. items_value s r (rest_below n x) +ℤ (sym h i +ℤ pos 1)) ∙ value-rest_below s r n x ∙ e)

pub value-part : (s r : List ℕ) (k v : ℕ) → 0 < k → items_value s (v ∷ r) (quotient_of (var_form 0) k) ≡ pos (v / k)
value-part s r k v h = value-quotient s (v ∷ r) (var_form 0) k h ∙ ap (λ z. int_div_euclid z (pos k)) (value-var_form s (v ∷ r) 0)

pub value-left : (s r : List ℕ) (k v : ℕ) → 0 < k → items_value s (v ∷ r) (remainder_of (var_form 0) k) ≡ pos (v % k)
value-left s r k v h = value-remainder s (v ∷ r) (var_form 0) k h ∙ ap (λ z. int_rem_euclid z (pos k)) (value-var_form s (v ∷ r) 0)
