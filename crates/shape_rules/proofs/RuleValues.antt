-- The shape rule of each operator at values.
use Rattle.std.proofs.Common.{◌≡◌, ℕ, zero, suc, ◌+◌, ◌-◌, ◌*◌, ◌/◌, ◌<◌, List, [], ◌∷◌, ◌++◌, length, get_or, refl, ap, subst, sym, ◌∙◌, arith, Bool, true}
use Rattle.std.proofs.Common.{false, not, nat_le, ◌==◌, if◌then◌else◌, Ok}
use Rattle.std.specs.Prelude.{ℤ, pos, negsuc, ◌+ℤ◌, ◌*ℤ◌}
use Rattle.std.specs.Int.{int_div_euclid}
use Rattle.affine_index.specs.Condition.{at_least_zero}
use Rattle.affine_index.specs.Form.{literal_form}
use Rattle.affine_index.specs.Product.{product_of}
use Rattle.affine_index.specs.Sum.{difference_of, sum_of}
use Rattle.affine_index.specs.Value.{items_value}
use Rattle.affine_index.specs.declared.form.Items.{Items}
use Rattle.affine_index.proofs.SumValue.{sum_of-value}
use Rattle.affine_index.proofs.Values.{value-difference, value-literal, value-product, value-quotient}
use Rattle.term_tree.specs.Meaning.{count_of, extent, head_of, tail_of}
use Rattle.term_tree.specs.Goals.{rest_after}
use Rattle.term_tree.specs.declared.cause.Cause.{Cause}
use Rattle.term_tree.specs.Shape.{Extents, Shaped, each_fits, each_short, here, largest_rank, limited, of_concat, of_equal, of_words, same_forms, tiles}
use Rattle.shape_rules.specs.Fits.{HasFirst, HasTwo}
use Rattle.shape_rules.specs.Rules.{columns_shape, fewer_shape, flat_shape, more_shape, row_shape, rows_shape, same_shape, tiled_shape}
use Rattle.shape_rules.specs.Values.{AllHaveValues, HaveValues, NoneNegative}
use Rattle.shape_rules.proofs.SameLaws.{same_forms-equal}

otherwise : (b : Bool) (cause : Cause) (x : Shaped) (ms : Extents) → (if b then here cause else x) ≡ Ok ms → x ≡ Ok ms
otherwise true cause x ms h = absurd (cc)
otherwise false cause x ms h = h

inside : (ns ms : Extents) → same_shape ns ≡ Ok ms → ns ≡ ms
inside ns ms h = cc

pub limited_same : (ns ms : Extents) → limited ns ≡ Ok ms → ns ≡ ms
limited_same ns ms h =
    inside ns ms (otherwise (not (each_short ns)) _ _ ms (otherwise (not (each_fits ns)) _ _ ms (otherwise (not (nat_le (length ns) largest_rank)) _ _ ms h)))

pub not_negative : (z : ℤ) → at_least_zero z ≡ true → z ≡ pos (count_of z)
not_negative (pos n) h = refl
not_negative (negsuc n) h = absurd (cc)

pos_same : (m n : ℕ) → pos m ≡ pos n → m ≡ n
pos_same m n h = cc

times_pos : (m n : ℕ) → pos m *ℤ pos n ≡ pos (m * n)
times_pos m n = refl

plus_pos : (m n : ℕ) → pos m +ℤ pos n ≡ pos (m + n)
plus_pos m n = refl

less_pos : (z : ℤ) (a d : ℕ) → at_least_zero z ≡ true → z +ℤ pos a ≡ pos d → z ≡ pos (d - a)
less_pos (pos n) a d h e = let f : n + a ≡ d = pos_same (n + a) d e in ap pos (omega (arith, f))
less_pos (negsuc n) a d h e = absurd (cc)

tiles_pos : (z : ℤ) (d k : ℕ) → 0 < k → z ≡ pos d +ℤ pos (k - 1) → int_div_euclid z (pos k) ≡ pos ((d + k - 1) / k)
tiles_pos z d k h e =
    let f : d + (k - 1) ≡ d + k - 1 = omega arith in
    ap (λ x. int_div_euclid x (pos k)) e ∙ (λ i. pos (f i / k))

module _ (s : List ℕ) where
  pub extent_pos : (a : Items) → at_least_zero (items_value s [] a) ≡ true → items_value s [] a ≡ pos (extent a s)
  extent_pos a h = not_negative (items_value s [] a) h

  pub negative_parts : (xs ys : List Items) → NoneNegative s (xs ++ ys) → NoneNegative s xs × NoneNegative s ys
  negative_parts [] ys h = (tt, h)
  negative_parts (x ∷ xs) ys h = let p = negative_parts xs ys h.1 in ((h.0, p.0), p.1)

  pub variable_values : (ts : List Extents) (ds : List (List ℕ)) (q : ℕ) → AllHaveValues s ts ds → HaveValues s (get_or ts q []) (get_or ds q [])
  variable_values [] [] q h = tt
  variable_values [] (d ∷ ds) q h = absurd h
  variable_values (ns ∷ ts) [] q h = absurd h
  variable_values (ns ∷ ts) (d ∷ ds) zero h = h.0
  variable_values (ns ∷ ts) (d ∷ ds) (suc q) h = variable_values ts ds q h.1

  same_values : (ns : Extents) (d e : List ℕ) → HaveValues s ns d → HaveValues s ns e → d ≡ e
  same_values [] [] [] h k = refl
  same_values [] [] (b ∷ e) h k = absurd k
  same_values [] (a ∷ d) e h k = absurd h
  same_values (n ∷ ns) [] e h k = absurd h
  same_values (n ∷ ns) (a ∷ d) [] h k = absurd k
  same_values (n ∷ ns) (a ∷ d) (b ∷ e) h k =
      let p = pos_same a b (sym h.0 ∙ k.0) in let q = same_values ns d e h.1 k.1 in λ i. p i ∷ q i

  moved : (ns ms : Extents) (d : List ℕ) → ns ≡ ms → HaveValues s ns d → HaveValues s ms d
  moved ns ms d e h = subst (λ (xs : Extents). HaveValues s xs d) e h

  limited_values : (ns ms : Extents) (d : List ℕ) → limited ns ≡ Ok ms → HaveValues s ns d → HaveValues s ms d
  limited_values ns ms d e h = moved ns ms d (limited_same ns ms e) h

  pub limited_variable : (ts : List Extents) (ds : List (List ℕ)) (q : ℕ) (ms : Extents) → AllHaveValues s ts ds → limited (get_or ts q []) ≡ Ok ms
      → HaveValues s ms (get_or ds q [])
  limited_variable ts ds q ms h e = limited_values (get_or ts q []) ms (get_or ds q []) e (variable_values ts ds q h)

  pub same_shape_values : (ns : Extents) (d : List ℕ) (ms : Extents) → HaveValues s ns d → same_shape ns ≡ Ok ms → HaveValues s ms d
  same_shape_values ns d ms h e = moved ns ms d (inside ns ms e) h

  pub row_values : (ns : Extents) (d : List ℕ) (ms : Extents) → HaveValues s ns d → row_shape ns ≡ Ok ms → HaveValues s ms (tail_of d) × HasFirst d
  row_values [] d ms h e = absurd (cc)
  row_values (n ∷ ns) [] ms h e = absurd h
  row_values (n ∷ ns) (a ∷ d) ms h e = (moved ns ms d (inside ns ms e) h.1, tt)

  pub rows_values : (n : Items) (ns : Extents) (d : List ℕ) (ms : Extents) → at_least_zero (items_value s [] n) ≡ true → HaveValues s ns d
      → rows_shape n ns ≡ Ok ms → HaveValues s ms (extent n s ∷ d)
  rows_values n ns d ms g h e = limited_values (n ∷ ns) ms (extent n s ∷ d) e (extent_pos n g, h)

  pub flat_values : (ns : Extents) (d : List ℕ) (ms : Extents) → HaveValues s ns d → flat_shape ns ≡ Ok ms
      → HaveValues s ms ((head_of d * head_of (tail_of d)) ∷ tail_of (tail_of d)) × HasTwo d
  flat_values [] d ms h e = absurd (cc)
  flat_values (n ∷ []) d ms h e = absurd (cc)
  flat_values (n ∷ m ∷ ns) [] ms h e = absurd h
  flat_values (n ∷ m ∷ ns) (a ∷ []) ms h e = absurd h.1
  flat_values (n ∷ m ∷ ns) (a ∷ b ∷ d) ms h e = (
    limited_values (product_of n m ∷ ns) ms ((a * b) ∷ d) e
        (value-product s [] n m ∙ (λ i. h.0 i *ℤ h.1.0 i) ∙ times_pos a b, h.1.1),
    tt,
  )

  tiles_value : (k : ℕ) (n : Items) (a : ℕ) → 0 < k → items_value s [] n ≡ pos a → items_value s [] (tiles k n) ≡ pos ((a + k - 1) / k)
  tiles_value k n a p h =
      value-quotient s [] (sum_of n (literal_form (pos (k - 1)))) k p
      ∙ tiles_pos (items_value s [] (sum_of n (literal_form (pos (k - 1))))) a k p
      (sum_of-value s [] n (literal_form (pos (k - 1))) ∙ (λ i. h i +ℤ value-literal s [] (pos (k - 1)) i))

  pub tiled_values : (k : ℕ) (ns : Extents) (d : List ℕ) (ms : Extents) → 0 < k → HaveValues s ns d → tiled_shape k ns ≡ Ok ms
      → HaveValues s ms (((head_of d + k - 1) / k) ∷ k ∷ tail_of d) × HasFirst d
  tiled_values k [] d ms p h e = absurd (cc)
  tiled_values k (n ∷ ns) [] ms p h e = absurd h
  tiled_values k (n ∷ ns) (a ∷ d) ms p h e = (
    limited_values (tiles k n ∷ literal_form (pos k) ∷ ns) ms (((a + k - 1) / k) ∷ k ∷ d) e
        (tiles_value k n a p h.0, (value-literal s [] (pos k), h.1)),
    tt,
  )

  pub columns_values : (ns : Extents) (d : List ℕ) (ms : Extents) → HaveValues s ns d → columns_shape ns ≡ Ok ms
      → HaveValues s ms (head_of (tail_of d) ∷ head_of d ∷ tail_of (tail_of d)) × HasTwo d
  columns_values [] d ms h e = absurd (cc)
  columns_values (n ∷ []) d ms h e = absurd (cc)
  columns_values (n ∷ m ∷ ns) [] ms h e = absurd h
  columns_values (n ∷ m ∷ ns) (a ∷ []) ms h e = absurd h.1
  columns_values (n ∷ m ∷ ns) (a ∷ b ∷ d) ms h e = (moved (m ∷ n ∷ ns) ms (b ∷ a ∷ d) (inside (m ∷ n ∷ ns) ms e) (h.1.0, (h.0, h.1.1)), tt)

  less_value : (n x : Items) (a : ℕ) → at_least_zero (items_value s [] x) ≡ true → at_least_zero (items_value s [] (difference_of n x)) ≡ true
      → items_value s [] n ≡ pos a → items_value s [] (difference_of n x) ≡ pos (a - extent x s)
  less_value n x a p q h =
      less_pos (items_value s [] (difference_of n x)) (extent x s) a q
      (ap (λ z. items_value s [] (difference_of n x) +ℤ z) (sym (extent_pos x p)) ∙ value-difference s [] n x ∙ h)

  pub fewer_values : (x : Items) (ns : Extents) (d : List ℕ) (ms : Extents) → at_least_zero (items_value s [] x) ≡ true → NoneNegative s (rest_after x ns)
      → HaveValues s ns d → fewer_shape x ns ≡ Ok ms
      → HaveValues s ms ((head_of d - extent x s) ∷ tail_of d) × HasFirst d
  fewer_values x [] d ms p q h e = absurd (cc)
  fewer_values x (n ∷ ns) [] ms p q h e = absurd h
  fewer_values x (n ∷ ns) (a ∷ d) ms p q h e =
      (limited_values (difference_of n x ∷ ns) ms ((a - extent x s) ∷ d) e (less_value n x a p q.0 h.0, h.1), tt)

  pub more_values : (x : Items) (ns : Extents) (d : List ℕ) (ms : Extents) → at_least_zero (items_value s [] x) ≡ true → HaveValues s ns d
      → more_shape x ns ≡ Ok ms
      → HaveValues s ms ((head_of d + extent x s) ∷ tail_of d) × HasFirst d
  more_values x [] d ms p h e = absurd (cc)
  more_values x (n ∷ ns) [] ms p h e = absurd h
  more_values x (n ∷ ns) (a ∷ d) ms p h e =
      (limited_values (sum_of n x ∷ ns) ms ((a + extent x s) ∷ d) e (sum_of-value s [] n x ∙ (λ i. h.0 i +ℤ extent_pos x p i), h.1), tt)

  same_of : (b : Bool) (ns ms : Extents) → same_forms ns ms ≡ b → not b ≡ false → ns ≡ ms
  same_of true ns ms e h = same_forms-equal ns ms e
  same_of false ns ms e h = absurd (cc)

  refused : (b : Bool) (cause : Cause) (x : Shaped) (ms : Extents) → (if b then here cause else x) ≡ Ok ms → b ≡ false
  refused true cause x ms h = absurd (cc)
  refused false cause x ms h = refl

  pub equal_values : (ns ks : Extents) (d e : List ℕ) (ms : Extents) → HaveValues s ns d → HaveValues s ks e → of_equal ns ks ≡ Ok ms → HaveValues s ms d
      × (e ≡ d)
  equal_values ns ks d e ms h k f =
      let g = otherwise (not (length ns == length ks)) _ _ ms f in
      let same = same_of (same_forms ns ks) ns ks refl (refused (not (same_forms ns ks)) _ _ ms g) in
      (limited_values ns ms d (otherwise (not (same_forms ns ks)) _ _ ms g) h, same_values ks e d k (moved ns ks d same h))

  none_values : (ns : Extents) (d : List ℕ) → ns ≡ [] → HaveValues s ns d → d ≡ []
  none_values ns [] e h = refl
  none_values [] (a ∷ d) e h = absurd h
  none_values (n ∷ ns) (a ∷ d) e h = absurd (cc)

  pub words_values : (ns ks : Extents) (d e : List ℕ) (ms : Extents) → HaveValues s ns d → HaveValues s ks e → of_words ns ks ≡ Ok ms → HaveValues s ms []
      × (d ≡ []) × (e ≡ [])
  words_values [] [] d e ms h k f = (moved [] ms [] (inside [] ms f) tt, none_values [] d refl h, none_values [] e refl k)
  words_values [] (m ∷ ks) d e ms h k f = absurd (cc)
  words_values (n ∷ ns) ks d e ms h k f = absurd (cc)

  pub concat_values : (ns ks : Extents) (d e : List ℕ) (ms : Extents) → HaveValues s ns d → HaveValues s ks e → of_concat ns ks ≡ Ok ms
      → HaveValues s ms ((head_of d + head_of e) ∷ tail_of d) × HasFirst d × HasFirst e × (tail_of e ≡ tail_of d)
  concat_values [] ks d e ms h k f = absurd (cc)
  concat_values (n ∷ ns) [] d e ms h k f = absurd (cc)
  concat_values (n ∷ ns) (m ∷ ks) [] e ms h k f = absurd h
  concat_values (n ∷ ns) (m ∷ ks) (a ∷ d) [] ms h k f = absurd k
  concat_values (n ∷ ns) (m ∷ ks) (a ∷ d) (b ∷ e) ms h k f =
      let g = otherwise (not (length ns == length ks)) _ _ ms f in
      let same = same_of (same_forms ns ks) ns ks refl (refused (not (same_forms ns ks)) _ _ ms g) in (
        limited_values (sum_of n m ∷ ns) ms ((a + b) ∷ d) (otherwise (not (same_forms ns ks)) _ _ ms g) (sum_of-value s [] n m ∙ (λ i. h.0 i +ℤ k.0 i), h.1),
        tt,
        tt,
        same_values ks e d k.1 (moved ns ks d same h.1),
      )
