-- Forms that are not large are exact at values within the maxima.
use Rattle.std.proofs.Common.{◌≡◌, ℕ, zero, suc, ◌-◌, ◌^◌, ◌<◌, ◌≤◌, List, [], ◌∷◌, length, Bool, true, false, ◌||◌, not, nat_le, nat_lt, max, Option, Some}
use Rattle.std.proofs.Common.{None, refl, ap, sym, ◌∙◌, subst, arith, if◌then◌else◌}
use Rattle.std.specs.Prelude.{ℤ, pos, negsuc, is_some}
use Rattle.std.specs.Int.RustNames.{unsigned_abs}
use Rattle.std.proofs.lemmas.Bool.{and_from, and_parts, lt-ltb, ltb-true, or_parts, true≢false}
use Rattle.std.proofs.lemmas.Bool.Decides.{nat_tests}
use Rattle.std.proofs.lemmas.List.{length-map}
use Rattle.affine_index.specs.Condition.{all_scoped, cmp_form}
use Rattle.affine_index.specs.Limited.{items_scoped, limited_value}
use Rattle.affine_index.specs.Magnitude.{magnitude}
use Rattle.affine_index.specs.Normal.{is_normal, is_ordered}
use Rattle.affine_index.specs.Printed.{WithinMaxima}
use Rattle.affine_index.specs.Value.{items_value}
use Rattle.affine_index.specs.declared.cond.Cmp.{Cmp}
use Rattle.affine_index.specs.declared.form.Items.{Items}
use Rattle.term_tree.specs.Meaning.{count_of, extent}
use Rattle.term_tree.specs.Modules.{extents_scoped}
use Rattle.term_tree.specs.Shape.{Extents}
use Rattle.term_tree.specs.declared.term.InputDecl.{InputDecl}
use Rattle.term_tree.specs.Modules.{inputs_scoped}
use Rattle.atl_meaning.specs.Exact.{all_below, all_counted, all_exact, inputs_counted, is_counted, is_exact}
use Rattle.atl_meaning.specs.Words.{any_large, any_large_comparison, at_least_one, first_big_input, first_of, is_large, largest_index, too_big, words_at}
use Rattle.atl_meaning.specs.Words.{words_of}
use Rattle.atl_meaning.proofs.FormBounds.{form-fits}
use Rattle.affine_index.proofs.MagnitudeBounds.{form-most}

pub below-at : (n : ℕ) (f : ℕ → Bool) (i : ℕ) → all_below n f ≡ true → i < n → f i ≡ true
below-at zero f i h l = absurd (omega (arith, l))
below-at (suc n) f i h l = by (nat_lt i n) refl (below-at n f i (and_parts (all_below n f) (f n) h).0)
  where
    last : (a b : ℕ) → nat_lt a b ≡ false → a < suc b → b ≡ a
    last a b h l = grind (arith, nat_tests)

    by : (b : Bool) → nat_lt i n ≡ b → (i < n → f i ≡ true) → f i ≡ true
    by true e earlier = earlier (ltb-true i n e)
    by false e earlier = subst (λ (k : ℕ). f k ≡ true) (last i n e l) (and_parts (all_below n f) (f n) h).1

pub below-all : (n : ℕ) (f : ℕ → Bool) → ((i : ℕ) → i < n → f i ≡ true) → all_below n f ≡ true
below-all zero f h = refl
below-all (suc n) f h = and_from (all_below n f) (f n) (below-all n f (λ i l. h i (omega (arith, l)))) (h n (omega arith))

within-floor : (s : List ℕ) → WithinMaxima s (at_least_one s)
within-floor [] k h = absurd (omega (arith, h))
within-floor (n ∷ s) zero h = (omega arith, omega arith)
within-floor (n ∷ s) (suc k) h = within-floor s k (omega (arith, h))

pub within-more : (r vars : List ℕ) (i m : ℕ) → i ≤ m → 1 ≤ m → WithinMaxima r vars → WithinMaxima (i ∷ r) (m ∷ vars)
within-more r vars i m p q w zero h = (p, q)
within-more r vars i m p q w (suc k) h = w k (omega (arith, h))

pub within-none : WithinMaxima [] []
within-none k h = absurd (omega (arith, h))

small-of : (m : ℕ) → nat_le (2 ^ 63) m ≡ false → m < 2 ^ 63
small-of m h = grind (arith, nat_tests)

count-most : (z : ℤ) → count_of z ≤ unsigned_abs z
count-most (pos n) = omega arith
count-most (negsuc n) = omega arith

module _ (s : List ℕ) where
  floor-length : length (at_least_one s) ≡ length s
  floor-length = length-map s (λ n. max n 1)

  -- the sizes and index variables that a form names are among the maxima
  scoped-there : (r vars : List ℕ) (x : Items) → length r ≡ length vars → items_scoped (length s) (length r) x ≡ true
      → items_scoped (length (at_least_one s)) (length vars) x ≡ true
  scoped-there r vars x same g = ap (λ k. items_scoped k (length vars) x) floor-length ∙ ap (λ k. items_scoped (length s) k x) (sym same) ∙ g

  pub exact-of : (r vars : List ℕ) (x : Items) → length r ≡ length vars → WithinMaxima r vars → items_scoped (length s) (length r) x ≡ true
      → is_large (at_least_one s) vars x ≡ false → is_exact s r x ≡ true
  exact-of r vars x same w g l = and_from (items_scoped (length s) (length r) x) (not (is_normal x) || is_some (limited_value s r x)) g (by (is_normal x) refl)
    where
      room : 2 ^ 63 < 2 ^ 120
      room = omega arith

      most : (m : ℕ) → nat_le (2 ^ 63) m ≡ false → m ≤ 2 ^ 63
      most m h = let p = small-of m h in omega (arith, p)

      by : (b : Bool) → is_normal x ≡ b → (not b || is_some (limited_value s r x)) ≡ true
      by false e = refl
      by true e = ap is_some (form-fits (2 ^ 63) room s r (at_least_one s) vars (within-floor s) w x (and_parts (is_ordered x) _ e).0
          (scoped-there r vars x same g) (most (magnitude (at_least_one s) vars x) l))

  extent-most : (n : Items) → items_scoped (length s) 0 n ≡ true → extent n s ≤ magnitude (at_least_one s) [] n
  extent-most n g = omega (
    arith,
    count-most (items_value s [] n),
    form-most s [] (at_least_one s) [] (within-floor s) within-none n (scoped-there [] [] n refl g),
  )

  pub extent-small : (n : Items) → items_scoped (length s) 0 n ≡ true → is_large (at_least_one s) [] n ≡ false → extent n s < 2 ^ 63
  extent-small n g l = omega (arith, extent-most n g, small-of (magnitude (at_least_one s) [] n) l)

  pub counted-of : (n : Items) → items_scoped (length s) 0 n ≡ true → is_large (at_least_one s) [] n ≡ false → is_counted s n ≡ true
  counted-of n g l =
      and_from (is_exact s [] n) (nat_lt (extent n s) (2 ^ 63)) (exact-of [] [] n refl within-none g l)
      (lt-ltb (extent n s) (2 ^ 63) (extent-small n g l))

  -- a value below an extent is within the maximum of its index variable
  pub index-within : (n : Items) (i : ℕ) → items_scoped (length s) 0 n ≡ true → is_large (at_least_one s) [] n ≡ false → i < extent n s
      → (i ≤ largest_index s n) × (1 ≤ largest_index s n)
  index-within n i g l h =
      let a = extent-most n g in
      let b = small-of (magnitude (at_least_one s) [] n) l in
      (omega (arith, a, b, h), omega (arith, a, b, h))

  pub all-exact-of : (r vars : List ℕ) (cs : List Cmp) → length r ≡ length vars → WithinMaxima r vars → all_scoped (length s) (length r) cs ≡ true
      → any_large_comparison (at_least_one s) vars cs ≡ false → all_exact s r cs ≡ true
  all-exact-of r vars [] same w g l = refl
  all-exact-of r vars (c ∷ cs) same w g l =
      let p = and_parts (items_scoped (length s) (length r) (cmp_form c)) (all_scoped (length s) (length r) cs) g in
      let q = or_parts (is_large (at_least_one s) vars (cmp_form c)) (any_large_comparison (at_least_one s) vars cs) l in
      and_from (is_exact s r (cmp_form c)) (all_exact s r cs) (exact-of r vars (cmp_form c) same w p.0 q.0) (all-exact-of r vars cs same w p.1 q.1)

  pub all-counted-of : (ns : Extents) → extents_scoped (length s) ns ≡ true → any_large (at_least_one s) ns ≡ false → all_counted s ns ≡ true
  all-counted-of [] g l = refl
  all-counted-of (n ∷ ns) g l =
      let p = and_parts (items_scoped (length s) 0 n) (extents_scoped (length s) ns) g in
      let q = or_parts (is_large (at_least_one s) [] n) (any_large (at_least_one s) ns) l in
      and_from (is_counted s n) (all_counted s ns) (counted-of n p.0 q.0) (all-counted-of ns p.1 q.1)

  large-words : (b : Bool) (ns : List ℕ) → nat_lt (2 ^ 24) (if b then 2 ^ 64 - 1 else words_of ns) ≡ false → b ≡ false
  large-words true ns h = absurd (true≢false h)
  large-words false ns h = refl

  none-by : (b : Bool) (w : ℕ) (later : Option ℕ) → (if b then Some w else later) ≡ None → (b ≡ false) × (later ≡ None)
  none-by true w later h = absurd (cc)
  none-by false w later h = (refl, h)

  -- where neither a node nor a later one is too big, nothing in the node is large
  pub none-at : (ns : Extents) (large : Bool) (later : Option ℕ) → too_big (words_at s ns large) later ≡ None → (large ≡ false)
      × (any_large (at_least_one s) ns ≡ false) × (later ≡ None)
  none-at ns large later h =
      let p = none-by (nat_lt (2 ^ 24) (words_at s ns large)) (words_at s ns large) later h in
      let q = or_parts large (any_large (at_least_one s) ns) (large-words (large || any_large (at_least_one s) ns) _ p.0) in
      (q.0, q.1, p.1)

  pub first-none : (a b : Option ℕ) → first_of a b ≡ None → (a ≡ None) × (b ≡ None)
  first-none (Some w) b h = absurd (cc)
  first-none None b h = (refl, h)

  pub inputs-counted-of : (ds : List InputDecl) → inputs_scoped (length s) ds ≡ true → first_big_input ds s ≡ None → inputs_counted s ds ≡ true
  inputs-counted-of [] g h = refl
  inputs-counted-of (d ∷ ds) g h =
      let p = and_parts (extents_scoped (length s) d.extents) (inputs_scoped (length s) ds) g in
      let q = none-at d.extents false (first_big_input ds s) h in
      and_from (all_counted s d.extents) (inputs_counted s ds) (all-counted-of d.extents p.0 q.1) (inputs-counted-of ds p.1 q.2)
