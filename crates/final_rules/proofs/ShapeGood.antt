-- Extents of terms are over sizes alone, and none is negative, where no number is that must not be.
use Rattle.std.proofs.Common.{◌≡◌, ℕ, zero, suc, ◌+◌, ◌-◌, ◌<◌, List, [], ◌∷◌, ◌++◌, length, get_or, refl, sym, ap, ◌∙◌, subst, arith, Bool, true, false, ◌&&◌}
use Rattle.std.proofs.Common.{not, nat_lt, nat_le, ◌==◌, if◌then◌else◌, Ok, Err}
use Rattle.std.specs.Prelude.{ℤ, pos, negsuc, ◌*ℤ◌, ◌≤ℤ◌}
use Rattle.std.specs.Int.{int_div_euclid}
use Rattle.std.proofs.lemmas.Bool.{and_parts}
use Rattle.std.proofs.lemmas.Int.{ints}
use Rattle.affine_index.specs.Condition.{at_least_zero}
use Rattle.affine_index.specs.declared.form.Items.{Items}
use Rattle.affine_index.specs.Form.{literal_form}
use Rattle.affine_index.specs.Limited.{items_scoped}
use Rattle.affine_index.specs.Product.{product_of}
use Rattle.affine_index.specs.Quotient.{quotient_of}
use Rattle.affine_index.specs.Sum.{difference_of, sum_of}
use Rattle.affine_index.specs.Value.{items_value}
use Rattle.affine_index.proofs.SumValue.{sum_of-value}
use Rattle.affine_index.proofs.Values.{value-literal, value-product, value-quotient}
use Rattle.term_tree.specs.declared.term.Term.{Term, Lit, TVar, WordOf}
use Rattle.term_tree.specs.Syntax.{index, gen, sum, guard, let_in, add, sub, mul, concat, flatten, split, transpose, trunc_l, trunc_r, pad_l, pad_r}
use Rattle.term_tree.specs.Goals.{extents_or_none, rest_after, term_goals}
use Rattle.term_tree.specs.Scope.{cond_scoped, largest_tile, term_scoped}
use Rattle.term_tree.specs.Shape.{Extents, Misfit, Shaped, here, each_fits, each_short, largest_rank, limited, of_concat, of_equal, of_first, of_two, of_words}
use Rattle.term_tree.specs.Shape.{same_forms, shape_of, tiles, with_child}
use Rattle.term_tree.specs.declared.cause.Cause.{Cause}
use Rattle.term_tree.specs.declared.cause.Cause.TheVariants.{RankMismatch, ShapesDiffer, RankTooLarge, CoefficientTooLarge, IndexTooLong}
use Rattle.affine_index.proofs.FormScopes.{form-of, of-form, sum-form, difference-form, product-form, quotient-form}
use Rattle.final_rules.proofs.Walk.{Every, every_parts}

-- a child of a term with a shape has one
pub child_ok : (child : ℕ) (r : Shaped) (rule : Extents → Shaped) (ms : Extents) → with_child child r rule ≡ Ok ms
    → (ns : Extents) × (r ≡ Ok ns) × (rule ns ≡ Ok ms)
child_ok child (Ok ns) rule ms h = (ns, refl, h)
child_ok child (Err m) rule ms h = absurd (cc)

abbrev ok : Extents → Shaped
ok x = Ok x

abbrev err : Misfit → Shaped
err x = Err x

err_ok : {A : Type 0} {x : Misfit} {y : Extents} → err x ≡ ok y → A
err_ok e = cc

pub ok_is : {x y : Extents} → ok x ≡ ok y → x ≡ y
ok_is e = cc

if_err : (b : Bool) (w : Cause) (r : Shaped) (ms : Extents) → (if not b then here w else r) ≡ Ok ms → r ≡ Ok ms
if_err true w r ms h = h
if_err false w r ms h = err_ok h

pub limited_ok : (ns ms : Extents) → limited ns ≡ Ok ms → ns ≡ ms
limited_ok ns ms h =
    let a = if_err (nat_le (length ns) largest_rank) RankTooLarge (if not (each_fits ns) then here CoefficientTooLarge else
    (if not (each_short ns) then here IndexTooLong else Ok ns)) ms h in
    let b = if_err (each_fits ns) CoefficientTooLarge (if not (each_short ns) then here IndexTooLong else Ok ns) ms a in
    ok_is (if_err (each_short ns) IndexTooLong (Ok ns) ms b)

pub equal_ok : (ns ms ks : Extents) → of_equal ns ms ≡ Ok ks → ns ≡ ks
equal_ok ns ms ks h =
    let a = if_err (length ns == length ms) RankMismatch (if not (same_forms ns ms) then here ShapesDiffer else limited ns) ks h in
    limited_ok ns ks (if_err (same_forms ns ms) ShapesDiffer (limited ns) ks a)

pub words_ok : (ns ms ks : Extents) → of_words ns ms ≡ Ok ks → (ns ≡ []) × (ms ≡ []) × (ks ≡ [])
words_ok [] [] ks h = (refl, refl, sym (ok_is h))
words_ok [] (m ∷ ms) ks h = err_ok h
words_ok (n ∷ ns) [] ks h = err_ok h
words_ok (n ∷ ns) (m ∷ ms) ks h = err_ok h

pub first_ok : (ns : Extents) (f : Items → Extents → Shaped) (ks : Extents) → of_first ns f ≡ Ok ks
    → (n : Items) × (rest : Extents) × (ns ≡ n ∷ rest) × (f n rest ≡ Ok ks)
first_ok [] f ks h = err_ok h
first_ok (n ∷ ns) f ks h = (n, ns, refl, h)

pub two_ok : (ns : Extents) (f : Items → Items → Extents → Shaped) (ks : Extents) → of_two ns f ≡ Ok ks
    → (n m : Items) × (rest : Extents) × (ns ≡ n ∷ m ∷ rest) × (f n m rest ≡ Ok ks)
two_ok [] f ks h = err_ok h
two_ok (n ∷ []) f ks h = err_ok h
two_ok (n ∷ m ∷ ns) f ks h = (n, m, ns, refl, h)

pub concat_ok : (as' bs ks : Extents) → of_concat as' bs ≡ Ok ks → (n m : Items) × (ns ms : Extents) × (as' ≡ n ∷ ns) × (bs ≡ m ∷ ms) × (sum_of n m ∷ ns ≡ ks)
concat_ok [] bs ks h = err_ok h
concat_ok (n ∷ ns) [] ks h = err_ok h
concat_ok (n ∷ ns) (m ∷ ms) ks h =
    let a = if_err (length ns == length ms) RankMismatch (if not (same_forms ns ms) then here ShapesDiffer else limited (sum_of n m ∷ ns)) ks h in
    (n, m, ns, ms, refl, refl, limited_ok (sum_of n m ∷ ns) ks (if_err (same_forms ns ms) ShapesDiffer (limited (sum_of n m ∷ ns)) ks a))

module _ (sizes : ℕ) (s : List ℕ) where
  abbrev pub Zeroth : Items → Type 0
  Zeroth n = pos 0 ≤ℤ items_value s [] n

  -- over sizes alone, and not negative
  abbrev pub Good : Items → Type 0
  Good n = (items_scoped sizes 0 n ≡ true) × Zeroth n

  abbrev pub GoodShape : Extents → Type 0
  GoodShape = Every Good

  at_least : (z : ℤ) → at_least_zero z ≡ true → pos 0 ≤ℤ z
  at_least (pos n) h = omega (arith, ints)
  at_least (negsuc n) h = absurd (cc)

  -- no number that must not be negative is
  abbrev pub NoneBelow : List Items → Type 0
  NoneBelow = Every Zeroth

  pub good-sum : (a b : Items) → Good a → Good b → Good (sum_of a b)
  good-sum a b h g = (
    of-form sizes 0 (sum_of a b) (sum-form sizes 0 a b (form-of sizes 0 a h.0) (form-of sizes 0 b g.0)),
    omega (
      arith,
      ints,
      sum_of-value s [] a b,
      h.1,
      g.1,
    ),
  )

  times-least : (a b : ℤ) → pos 0 ≤ℤ a → pos 0 ≤ℤ b → pos 0 ≤ℤ (a *ℤ b)
  times-least (pos a) (pos b) h g = omega (arith, ints)
  times-least (pos a) (negsuc b) h g = absurd (omega (arith, ints, g))
  times-least (negsuc a) b h g = absurd (omega (arith, ints, h))

  pub good-product : (a b : Items) → Good a → Good b → Good (product_of a b)
  good-product a b h g = (
    of-form sizes 0 (product_of a b) (product-form sizes 0 a b (form-of sizes 0 a h.0) (form-of sizes 0 b g.0)),
    subst (λ z. pos 0 ≤ℤ z) (sym (value-product s [] a b)) (times-least (items_value s [] a) (items_value s [] b) h.1 g.1),
  )

  good-difference : (a b : Items) → items_scoped sizes 0 a ≡ true → items_scoped sizes 0 b ≡ true → Zeroth (difference_of a b) → Good (difference_of a b)
  good-difference a b h g l = (of-form sizes 0 (difference_of a b) (difference-form sizes 0 a b (form-of sizes 0 a h) (form-of sizes 0 b g)), l)

  pub good-literal : (n : ℕ) → Good (literal_form (pos n))
  good-literal n = (of-form sizes 0 (literal_form (pos n)) tt, subst (λ z. pos 0 ≤ℤ z) (sym (value-literal s [] (pos n))) (omega (arith, ints)))

  div-least : (z : ℤ) (k : ℕ) → pos 0 ≤ℤ z → pos 0 ≤ℤ int_div_euclid z (pos k)
  div-least (pos n) k h = omega (arith, ints)
  div-least (negsuc n) k h = absurd (omega (arith, ints, h))

  good-quotient : (a : Items) (k : ℕ) → 0 < k → Good a → Good (quotient_of a k)
  good-quotient a k l h = (
    of-form sizes 0 (quotient_of a k) (quotient-form sizes 0 a k (form-of sizes 0 a h.0)),
    subst (λ z. pos 0 ≤ℤ z) (sym (value-quotient s [] a k l)) (div-least (items_value s [] a) k h.1),
  )

  good-tiles : (k : ℕ) (n : Items) → 0 < k → Good n → Good (tiles k n)
  good-tiles k n l h = good-quotient (sum_of n (literal_form (pos (k - 1)))) k l (good-sum n (literal_form (pos (k - 1))) h (good-literal (k - 1)))

  good-at : (ts : List Extents) (q : ℕ) → Every GoodShape ts → GoodShape (get_or ts q [])
  good-at [] q h = tt
  good-at (t ∷ ts) zero h = h.0
  good-at (t ∷ ts) (suc q) h = good-at ts q h.1

  above-zero : (k : ℕ) → (nat_lt 0 k && nat_le k largest_tile) ≡ true → 0 < k
  above-zero k h = lt k (and_parts (nat_lt 0 k) (nat_le k largest_tile) h).0
    where
      lt : (k : ℕ) → nat_lt 0 k ≡ true → 0 < k
      lt k h = grind arith

  fewer : (a : Items) (e : Term) (v t : ℕ) (ts : List Extents) (ns : Extents) → (items_scoped sizes 0 a && term_scoped sizes e v t) ≡ true
      → with_child 0 (shape_of e ts) (λ ns. of_first ns (λ n rest. limited (difference_of n a ∷ rest))) ≡ Ok ns
      → NoneBelow (a ∷ (rest_after a (extents_or_none (shape_of e ts)) ++ term_goals e ts)) → ((ms : Extents) → term_scoped sizes e v t ≡ true
      → shape_of e ts ≡ Ok ms → GoodShape ms) → GoodShape ns
  fewer a e v t ts ns c h g f =
      let p = child_ok 0 (shape_of e ts) (λ ns. of_first ns (λ n rest. limited (difference_of n a ∷ rest))) ns h in
      let q = first_ok p.0 (λ n rest. limited (difference_of n a ∷ rest)) ns p.2 in
      let cs = and_parts (items_scoped sizes 0 a) (term_scoped sizes e v t) c in
      let all = subst GoodShape q.2 (f p.0 cs.1 p.1) in
      let left : NoneBelow (rest_after a (extents_or_none (shape_of e ts))) = (every_parts Zeroth (rest_after a (extents_or_none (shape_of e ts)))
      (term_goals e ts) g.1).0 in
      let is : extents_or_none (shape_of e ts) ≡ q.0 ∷ q.1 = ap extents_or_none p.1 ∙ q.2 in
      let low : NoneBelow (difference_of q.0 a ∷ []) = subst (λ ns. NoneBelow (rest_after a ns)) is left in
      subst GoodShape (limited_ok (difference_of q.0 a ∷ q.1) ns q.3) (good-difference q.0 a all.0.0 cs.0 low.0, all.1)

  wider : (a : Items) (e : Term) (v t : ℕ) (ts : List Extents) (ns : Extents) → (items_scoped sizes 0 a && term_scoped sizes e v t) ≡ true
      → with_child 0 (shape_of e ts) (λ ns. of_first ns (λ n rest. limited (sum_of n a ∷ rest))) ≡ Ok ns
      → NoneBelow (a ∷ term_goals e ts) → ((ms : Extents) → term_scoped sizes e v t ≡ true → shape_of e ts ≡ Ok ms → GoodShape ms) → GoodShape ns
  wider a e v t ts ns c h g f =
      let p = child_ok 0 (shape_of e ts) (λ ns. of_first ns (λ n rest. limited (sum_of n a ∷ rest))) ns h in
      let q = first_ok p.0 (λ n rest. limited (sum_of n a ∷ rest)) ns p.2 in
      let cs = and_parts (items_scoped sizes 0 a) (term_scoped sizes e v t) c in
      let all = subst GoodShape q.2 (f p.0 cs.1 p.1) in
      subst GoodShape (limited_ok (sum_of q.0 a ∷ q.1) ns q.3) (good-sum q.0 a all.0 (cs.0, g.0), all.1)

  pub shape-good : (e : Term) (v t : ℕ) (ts : List Extents) (ns : Extents) → term_scoped sizes e v t ≡ true → shape_of e ts ≡ Ok ns
      → NoneBelow (term_goals e ts) → Every GoodShape ts → GoodShape ns
  shape-good (Lit w) v t ts ns c h g b = subst GoodShape (ok_is h) tt
  shape-good (TVar q) v t ts ns c h g b = subst GoodShape (limited_ok (get_or ts q []) ns h) (good-at ts q b)
  shape-good (WordOf x) v t ts ns c h g b = subst GoodShape (ok_is h) tt
  shape-good (index e x) v t ts ns c h g b =
      let p = child_ok 0 (shape_of e ts) (λ ns. of_first ns (λ n rest. Ok rest)) ns h in
      let q = first_ok p.0 (λ n rest. Ok rest) ns p.2 in
      subst GoodShape (ok_is q.3) (subst GoodShape q.2 (shape-good e v t ts p.0 (and_parts (term_scoped sizes e v t) (items_scoped sizes v x) c).0 p.1 g b)).1
  shape-good (gen n e) v t ts ns c h g b =
      let p = child_ok 0 (shape_of e ts) (λ ns. limited (n ∷ ns)) ns h in
      let cs = and_parts (items_scoped sizes 0 n) (term_scoped sizes e (v + 1) t) c in
      subst GoodShape (limited_ok (n ∷ p.0) ns p.2) ((cs.0, g.0), shape-good e (v + 1) t ts p.0 cs.1 p.1 g.1 b)
  shape-good (sum n e) v t ts ns c h g b =
      let p = child_ok 0 (shape_of e ts) (λ ns. Ok ns) ns h in
      subst GoodShape (ok_is p.2) (shape-good e (v + 1) t ts p.0 (and_parts (items_scoped sizes 0 n) (term_scoped sizes e (v + 1) t) c).1 p.1 g.1 b)
  shape-good (guard d e) v t ts ns c h g b =
      let p = child_ok 0 (shape_of e ts) (λ ns. Ok ns) ns h in
      subst GoodShape (ok_is p.2) (shape-good e v t ts p.0 (and_parts (cond_scoped sizes v d) (term_scoped sizes e v t) c).1 p.1 g b)
  shape-good (let_in a e) v t ts ns c h g b =
      let p = child_ok 0 (shape_of a ts) (λ ns. with_child 1 (shape_of e (ns ∷ ts)) (λ ms. Ok ms)) ns h in
      let q = child_ok 1 (shape_of e (p.0 ∷ ts)) (λ ms. Ok ms) ns p.2 in
      let cs = and_parts (term_scoped sizes a v t) (term_scoped sizes e v (t + 1)) c in
      let gs = every_parts Zeroth (term_goals a ts) (term_goals e (extents_or_none (shape_of a ts) ∷ ts)) g in
      let first = shape-good a v t ts p.0 cs.0 p.1 gs.0 b in
      subst GoodShape (ok_is q.2) (shape-good e v (t + 1) (p.0 ∷ ts) q.0 cs.1 q.1 (subst (λ r. NoneBelow (term_goals e (extents_or_none r ∷ ts))) p.1 gs.1)
      (first, b))
  shape-good (add a e) v t ts ns c h g b =
      let p = child_ok 0 (shape_of a ts) (λ ns. with_child 1 (shape_of e ts) (λ ms. of_equal ns ms)) ns h in
      let q = child_ok 1 (shape_of e ts) (λ ms. of_equal p.0 ms) ns p.2 in
      subst GoodShape (equal_ok p.0 q.0 ns q.2) (shape-good a v t ts p.0 (and_parts (term_scoped sizes a v t) (term_scoped sizes e v t) c).0 p.1
      (every_parts Zeroth (term_goals a ts) (term_goals e ts) g).0 b)
  shape-good (sub a e) v t ts ns c h g b =
      let p = child_ok 0 (shape_of a ts) (λ ns. with_child 1 (shape_of e ts) (λ ms. of_equal ns ms)) ns h in
      let q = child_ok 1 (shape_of e ts) (λ ms. of_equal p.0 ms) ns p.2 in
      subst GoodShape (equal_ok p.0 q.0 ns q.2) (shape-good a v t ts p.0 (and_parts (term_scoped sizes a v t) (term_scoped sizes e v t) c).0 p.1
      (every_parts Zeroth (term_goals a ts) (term_goals e ts) g).0 b)
  shape-good (mul a e) v t ts ns c h g b =
      let p = child_ok 0 (shape_of a ts) (λ ns. with_child 1 (shape_of e ts) (λ ms. of_words ns ms)) ns h in
      let q = child_ok 1 (shape_of e ts) (λ ms. of_words p.0 ms) ns p.2 in
      subst GoodShape (sym (words_ok p.0 q.0 ns q.2).2) tt
  shape-good (concat a e) v t ts ns c h g b =
      let p = child_ok 0 (shape_of a ts) (λ ns. with_child 1 (shape_of e ts) (λ ms. of_concat ns ms)) ns h in
      let q = child_ok 1 (shape_of e ts) (λ ms. of_concat p.0 ms) ns p.2 in
      let o = concat_ok p.0 q.0 ns q.2 in
      let cs = and_parts (term_scoped sizes a v t) (term_scoped sizes e v t) c in
      let gs = every_parts Zeroth (term_goals a ts) (term_goals e ts) g in
      let left = subst GoodShape o.4 (shape-good a v t ts p.0 cs.0 p.1 gs.0 b) in
      let right = subst GoodShape o.5 (shape-good e v t ts q.0 cs.1 q.1 gs.1 b) in
      subst GoodShape o.6 (good-sum o.0 o.1 left.0 right.0, left.1)
  shape-good (flatten e) v t ts ns c h g b =
      let p = child_ok 0 (shape_of e ts) (λ ns. of_two ns (λ n m rest. limited (product_of n m ∷ rest))) ns h in
      let q = two_ok p.0 (λ n m rest. limited (product_of n m ∷ rest)) ns p.2 in
      let all = subst GoodShape q.3 (shape-good e v t ts p.0 c p.1 g b) in
      subst GoodShape (limited_ok (product_of q.0 q.1 ∷ q.2) ns q.4) (good-product q.0 q.1 all.0 all.1.0, all.1.1)
  shape-good (split k e) v t ts ns c h g b =
      let p = child_ok 0 (shape_of e ts) (λ ns. of_first ns (λ n rest. limited (tiles k n ∷ literal_form (pos k) ∷ rest))) ns h in
      let q = first_ok p.0 (λ n rest. limited (tiles k n ∷ literal_form (pos k) ∷ rest)) ns p.2 in
      let cs = and_parts (nat_lt 0 k && nat_le k largest_tile) (term_scoped sizes e v t) c in
      let all = subst GoodShape q.2 (shape-good e v t ts p.0 cs.1 p.1 g b) in
      subst GoodShape (limited_ok (tiles k q.0 ∷ literal_form (pos k) ∷ q.1) ns q.3) (good-tiles k q.0 (above-zero k cs.0) all.0, (good-literal k, all.1))
  shape-good (transpose e) v t ts ns c h g b =
      let p = child_ok 0 (shape_of e ts) (λ ns. of_two ns (λ n m rest. Ok (m ∷ n ∷ rest))) ns h in
      let q = two_ok p.0 (λ n m rest. Ok (m ∷ n ∷ rest)) ns p.2 in
      let all = subst GoodShape q.3 (shape-good e v t ts p.0 c p.1 g b) in
      subst GoodShape (ok_is q.4) (all.1.0, (all.0, all.1.1))
  shape-good (trunc_l a e) v t ts ns c h g b = fewer a e v t ts ns c h g (λ ns k d. shape-good e v t ts ns k d
      (every_parts Zeroth (rest_after a (extents_or_none (shape_of e ts))) (term_goals e ts) g.1).1 b)
  shape-good (trunc_r a e) v t ts ns c h g b = fewer a e v t ts ns c h g (λ ns k d. shape-good e v t ts ns k d
      (every_parts Zeroth (rest_after a (extents_or_none (shape_of e ts))) (term_goals e ts) g.1).1 b)
  shape-good (pad_l a e) v t ts ns c h g b = wider a e v t ts ns c h g (λ ns k d. shape-good e v t ts ns k d g.1 b)
  shape-good (pad_r a e) v t ts ns c h g b = wider a e v t ts ns c h g (λ ns k d. shape-good e v t ts ns k d g.1 b)
