-- What rules make: room for the numbers of raw forms, their values, and what a body with a form for its variable means.
use Rattle.std.proofs.Common.{◌≡◌, ℕ, zero, suc, ◌+◌, ◌*◌, ◌^◌, ◌<◌, ◌≤◌, List, [], ◌∷◌, refl, ap, sym, ◌∙◌, subst, arith, true}
use Rattle.std.specs.Prelude.{ℤ, pos, negsuc, ◌+ℤ◌, ◌*ℤ◌, ◌≤ℤ◌, unsigned_abs}
use Rattle.std.proofs.lemmas.Int.{ints}
use Rattle.affine_index.specs.Form.{literal_form}
use Rattle.affine_index.specs.Normal.{is_normal, is_ordered}
use Rattle.affine_index.specs.Limited.{items_scoped}
use Rattle.affine_index.specs.Put.{given as given_form}
use Rattle.affine_index.specs.Quotient.{quotient_of}
use Rattle.affine_index.specs.Sum.{difference_of, scaled, sum_of}
use Rattle.affine_index.specs.Value.{items_value}
use Rattle.affine_index.specs.Wide.{norm}
use Rattle.affine_index.specs.declared.form.Items.{Items}
use Rattle.affine_index.proofs.ArithmeticLaws.{normal-ordered}
use Rattle.affine_index.proofs.NormLaws.{scaled-norm, sum-norm}
use Rattle.affine_index.proofs.OrderedLaws.{difference-ordered, quotient-ordered, scaled-ordered}
use Rattle.affine_index.proofs.RemainderLaws.{quotient-norm}
use Rattle.affine_index.proofs.PutNorm.{normal-norm}
use Rattle.affine_index.proofs.Sorted.{sum-ordered}
use Rattle.affine_index.proofs.SumValue.{sum_of-value}
use Rattle.affine_index.proofs.Values.{value-difference, value-literal, value-scaled}
use Rattle.binders.specs.PlainMaps.{put_index_map}
use Rattle.binders.proofs.Environments.{one_put}
use Rattle.binders.proofs.ScopeLaws.{mapped_scope, scopes_put_index}
use Rattle.binders.proofs.Substitution.{AllOrdered}
use Rattle.term_tree.specs.Meaning.{Bound, count_of, den, dims}
use Rattle.term_tree.specs.Scope.{term_scoped}
use Rattle.term_tree.specs.Shape.{Extents, shape_of, tiles}
use Rattle.term_tree.specs.declared.term.Term.{Term}
use Rattle.path_focus.specs.Numbers.{GoalsFit}
use Rattle.path_focus.proofs.PutLaws.{put_extents, put_goals, put_shape}
use Rattle.path_focus.specs.Making.{in_tile, rest_below, tile_rest, with_index}

pub taken-room : (x one a b : Items) → a ≡ x → b ≡ one → is_normal x ≡ true → is_normal one ≡ true → norm a + norm b < 2 ^ 127
taken-room x one a b e f p q = omega (arith, ap norm e, ap norm f, normal-norm x p, normal-norm one q)

pub minus-room : (x one t : Items) → t ≡ sum_of x one → is_normal x ≡ true → is_normal one ≡ true → unsigned_abs (negsuc 0) * norm t < 2 ^ 127
minus-room x one t e p q = omega (arith, ap norm e, sum-norm x one, normal-norm x p, normal-norm one q)

pub rest-room : (n x one a m : Items) → a ≡ n → m ≡ scaled (negsuc 0) (sum_of x one) → is_normal n ≡ true → is_normal x ≡ true → is_normal one ≡ true
    → norm a + norm m < 2 ^ 127
rest-room n x one a m e f p q r =
    omega (arith, ap norm e, ap norm f, normal-norm n p, normal-norm x q, normal-norm one r, sum-norm x one, scaled-norm (negsuc 0) (sum_of x one))

pub rest-ordered : (n x one t : Items) → t ≡ difference_of n (sum_of x one) → is_normal n ≡ true → is_normal x ≡ true → is_normal one ≡ true
    → is_ordered t ≡ true
rest-ordered n x one t e p q r =
    ap is_ordered e ∙ difference-ordered n (sum_of x one) (normal-ordered n p) (sum-ordered x one (normal-ordered x q) (normal-ordered one r))

pub minus-one-room : (n a : Items) → a ≡ n → is_normal n ≡ true → unsigned_abs (negsuc 0) * norm a < 2 ^ 127
minus-one-room n a e p = omega (arith, ap norm e, normal-norm n p)

most : (a b c d : ℕ) → a ≤ b → c ≤ d → a * c ≤ b * d
most a b c d p q = grind arith

times_norm : (k : ℕ) (p : Items) → k ≤ 4294967295 → is_normal p ≡ true → k * norm p ≤ 2 ^ 32 * 2 ^ 48
times_norm k p l h = most k (2 ^ 32) (norm p) (2 ^ 48) (omega (arith, l)) (normal-norm p h)

pub begun-room : (k : ℕ) (p a : Items) → k ≤ 4294967295 → a ≡ p → is_normal p ≡ true → k * norm a < 2 ^ 127
begun-room k p a l e h = omega (arith, ap (λ z. k * norm z) e, times_norm k p l h)

pub in_tile-room : (k : ℕ) (p q b a : Items) → k ≤ 4294967295 → b ≡ scaled (pos k) p → a ≡ q → is_normal p ≡ true → is_normal q ≡ true
    → norm b + norm a < 2 ^ 127
in_tile-room k p q b a l e f h g =
    omega (arith, ap norm e, ap norm f, scaled-norm (pos k) p, times_norm k p l h, normal-norm q g)

pub in_tile-ordered : (k : ℕ) (p q t : Items) → t ≡ in_tile k p q → is_normal p ≡ true → is_normal q ≡ true → is_ordered t ≡ true
in_tile-ordered k p q t e h g =
    ap is_ordered e ∙ sum-ordered (scaled (pos k) p) q (scaled-ordered (pos k) p (normal-ordered p h)) (normal-ordered q g)

module _ (k : ℕ) (positive : 0 < k) (limit : k ≤ 2147483647) (n more : Items) (normal : is_normal n ≡ true) (normal_more : is_normal more ≡ true) where
  last_norm : norm (sum_of n more) ≤ 2 ^ 49
  last_norm = omega (arith, sum-norm n more, normal-norm n normal, normal-norm more normal_more)

  tiles_norm : norm (quotient_of (sum_of n more) k) ≤ 2 ^ 50
  tiles_norm = omega (arith, quotient-norm (sum_of n more) k positive, last_norm)

  rows_norm : k * norm (quotient_of (sum_of n more) k) ≤ 2 ^ 31 * 2 ^ 50
  rows_norm = most k (2 ^ 31) (norm (quotient_of (sum_of n more) k)) (2 ^ 50) (omega (arith, limit)) tiles_norm

  pub last-room : (x : Items) → x ≡ sum_of n more → norm x + 1 < 2 ^ 127
  last-room x e = omega (arith, ap norm e, last_norm)

  pub tiles-room : (x : Items) → x ≡ quotient_of (sum_of n more) k → k * norm x < 2 ^ 127
  tiles-room x e = omega (arith, ap (λ z. k * norm z) e, rows_norm)

  pub rows-room : (x y : Items) → x ≡ scaled (pos k) (quotient_of (sum_of n more) k) → y ≡ scaled (negsuc 0) n → norm x + norm y < 2 ^ 127
  rows-room x y e f =
      omega (arith, ap norm e, ap norm f, scaled-norm (pos k) (quotient_of (sum_of n more) k), rows_norm, scaled-norm (negsuc 0) n, normal-norm n normal)

  pub tile_rest-ordered : (t : Items) → t ≡ difference_of (scaled (pos k) (quotient_of (sum_of n more) k)) n → is_ordered t ≡ true
  tile_rest-ordered t e =
      ap is_ordered e ∙ difference-ordered (scaled (pos k) (quotient_of (sum_of n more) k)) n
      (scaled-ordered (pos k) (quotient_of (sum_of n more) k)
      (quotient-ordered (sum_of n more) k positive limit (sum-ordered n more (normal-ordered n normal) (normal-ordered more normal_more))))
      (normal-ordered n normal)

-- values of the raw forms
pub value-rest_below : (s r : List ℕ) (n x : Items) → items_value s r (rest_below n x) +ℤ (items_value s r x +ℤ pos 1) ≡ items_value s r n
value-rest_below s r n x =
    (λ i. items_value s r (rest_below n x) +ℤ (sym (sum_of-value s r x (literal_form (pos 1))
    ∙ ap (λ z. items_value s r x +ℤ z) (value-literal s r (pos 1))))
    i)
    ∙ value-difference s r n (sum_of x (literal_form (pos 1)))

pub value-in_tile : (s r : List ℕ) (k : ℕ) (p q : Items) → items_value s r (in_tile k p q) ≡ (pos k *ℤ items_value s r p) +ℤ items_value s r q
value-in_tile s r k p q = sum_of-value s r (scaled (pos k) p) q ∙ ap (λ z. z +ℤ items_value s r q) (value-scaled s r (pos k) p)

pub value-tile_rest : (s r : List ℕ) (k : ℕ) (n : Items) → items_value s r (tile_rest k n) +ℤ items_value s r n ≡ pos k *ℤ items_value s r (tiles k n)
value-tile_rest s r k n = value-difference s r (scaled (pos k) (tiles k n)) n ∙ value-scaled s r (pos k) (tiles k n)

-- an index that is at least 0, and n - 1 - x too, is one of n rows
pub below_rest : (z n x : ℤ) → z +ℤ (x +ℤ pos 1) ≡ n → pos 0 ≤ℤ z → pos 0 ≤ℤ x → (v : ℕ) × (x ≡ pos v) × (v < count_of n)
below_rest (pos k) (pos m) (pos v) e h g = (v, refl, omega (arith, ints, e))
below_rest (pos k) (negsuc m) (pos v) e h g = absurd (omega (arith, ints, e))
below_rest (pos k) n (negsuc v) e h g = absurd (omega (arith, ints, g))
below_rest (negsuc k) n x e h g = absurd (omega (arith, ints, h))

-- a form in scope put for the variable leaves the body in scope
pub with_index-scoped : (sizes vars tensors : ℕ) (x : Items) (b : Term) → items_scoped sizes vars x ≡ true → term_scoped sizes b (vars + 1) tensors ≡ true
    → term_scoped sizes (with_index x b) vars tensors ≡ true
with_index-scoped sizes vars tensors x b h g =
    subst (λ (v : ℕ). term_scoped sizes (with_index x b) v tensors ≡ true) (front vars)
    (mapped_scope (put_index_map (x ∷ []) 0) b sizes (1 + vars) tensors (0 + vars) tensors
    (scopes_put_index (x ∷ []) 0 sizes vars tensors given_scope)
    (subst (λ (v : ℕ). term_scoped sizes b v tensors ≡ true) (turned vars) g))
  where
    front : (v : ℕ) → 0 + v ≡ v
    front v = omega arith

    turned : (v : ℕ) → v + 1 ≡ 1 + v
    turned v = omega arith

    given_scope : (k : ℕ) → k < 1 → items_scoped sizes (0 + vars) (given_form (x ∷ []) k) ≡ true
    given_scope zero l = subst (λ (v : ℕ). items_scoped sizes v x ≡ true) (sym (front vars)) h
    given_scope (suc k) l = absurd (omega (arith, l))

-- it means what the body does where the variable has the form's value
pub with_index-means : (b : Term) → AllOrdered b → (s : List ℕ) (x : Items) → is_ordered x ≡ true → (v : ℕ) (r : List ℕ) (t : List Bound)
    → items_value s r x ≡ pos v
    → den (with_index x b) s r t ≡ den b s (v ∷ r) t
with_index-means b o s x p v r t e = (one_put b o s x p v [] r t e).1

-- and has the extents, the shape and the goals of the body
pub with_index-extents : (x : Items) (b : Term) (s : List ℕ) (ds : List (List ℕ)) → dims (with_index x b) s ds ≡ dims b s ds
with_index-extents x b s ds = put_extents (x ∷ []) 0 s b 0 0 ds

pub with_index-shape : (x : Items) (b : Term) (ts : List Extents) → shape_of (with_index x b) ts ≡ shape_of b ts
with_index-shape x b ts = put_shape (x ∷ []) 0 [] b 0 0 ts

pub with_index-goals : (x : Items) (b : Term) (s : List ℕ) (ds : List (List ℕ)) → GoalsFit b s ds → GoalsFit (with_index x b) s ds
with_index-goals x b s ds g = put_goals (x ∷ []) 0 s b 0 0 ds g
