-- The extents of a shape hold declared sizes alone.
use Rattle.std.proofs.Common.{◌≡◌, ℕ, zero, suc, ◌+◌, ◌-◌, List, [], ◌∷◌, length, get_or, refl, Bool, true, false, ◌&&◌, not, nat_lt, nat_le, ◌==◌}
use Rattle.std.proofs.Common.{if◌then◌else◌, IfOk, Ok, Err}
use Rattle.std.specs.Prelude.{ℤ, pos}
use Rattle.std.proofs.lemmas.Bool.{and_from, and_parts}
use Rattle.affine_index.specs.Form.{literal_form}
use Rattle.affine_index.specs.Limited.{items_scoped}
use Rattle.affine_index.specs.Product.{product_of}
use Rattle.affine_index.specs.Sum.{sum_of, difference_of}
use Rattle.affine_index.specs.declared.form.Items.{Items}
use Rattle.affine_index.proofs.FormScopes.{difference-form, form-of, of-form, product-form, quotient-form, sum-form}
use Rattle.term_tree.specs.declared.term.Term.{Term, Lit, TVar, WordOf}
use Rattle.term_tree.specs.Modules.{extents_scoped}
use Rattle.term_tree.specs.Syntax.{index, gen, sum, guard, let_in, add, sub, mul, concat, flatten, split, transpose, trunc_l, trunc_r, pad_l, pad_r}
use Rattle.term_tree.specs.Scope.{cond_scoped, largest_tile, term_scoped}
use Rattle.term_tree.specs.Shape.{Extents, Shaped, each_fits, each_short, largest_rank, limited, of_concat, of_equal, of_first, of_two, of_words, same_forms}
use Rattle.term_tree.specs.Shape.{shape_of, tiles, with_child}
use Rattle.path_focus.specs.Focus.{shapes_scoped}

module _ (sizes : ℕ) where
  -- a form over sizes alone
  abbrev In : Items → Type 0
  In n = items_scoped sizes 0 n ≡ true

  in_literal : (z : ℤ) → In (literal_form z)
  in_literal z = of-form sizes 0 (literal_form z) tt

  in_sum : (a b : Items) → In a → In b → In (sum_of a b)
  in_sum a b h k = of-form sizes 0 (sum_of a b) (sum-form sizes 0 a b (form-of sizes 0 a h) (form-of sizes 0 b k))

  in_difference : (a b : Items) → In a → In b → In (difference_of a b)
  in_difference a b h k = of-form sizes 0 (difference_of a b) (difference-form sizes 0 a b (form-of sizes 0 a h) (form-of sizes 0 b k))

  in_product : (a b : Items) → In a → In b → In (product_of a b)
  in_product a b h k = of-form sizes 0 (product_of a b) (product-form sizes 0 a b (form-of sizes 0 a h) (form-of sizes 0 b k))

  in_tiles : (k : ℕ) (n : Items) → In n → In (tiles k n)
  in_tiles k n h = of-form sizes 0 (tiles k n) (quotient-form sizes 0 (sum_of n (literal_form (pos (k - 1)))) k
      (form-of sizes 0 (sum_of n (literal_form (pos (k - 1)))) (in_sum n (literal_form (pos (k - 1))) h (in_literal (pos (k - 1))))))

  -- a shape, if there is one, of extents over sizes alone
  abbrev pub ScopedShape : Shaped → Type 0
  ScopedShape r = IfOk r (λ ns. extents_scoped sizes ns ≡ true)

  child_scope : (c : ℕ) (r : Shaped) (f : Extents → Shaped) → ScopedShape r → ((ns : Extents) → extents_scoped sizes ns ≡ true → ScopedShape (f ns))
      → ScopedShape (with_child c r f)
  child_scope c (Ok ns) f h k = k ns h
  child_scope c (Err m) f h k = tt

  chosen : (b : Bool) (x y : Shaped) → ScopedShape x → ScopedShape y → ScopedShape (if b then x else y)
  chosen true x y h k = h
  chosen false x y h k = k

  limited_scope : (ns : Extents) → extents_scoped sizes ns ≡ true → ScopedShape (limited ns)
  limited_scope ns h =
      chosen (not (nat_le (length ns) largest_rank)) _ _ tt (chosen (not (each_fits ns)) _ _ tt (chosen (not (each_short ns)) _ _ tt h))

  put_first : (n : Items) (ns : Extents) → In n → extents_scoped sizes ns ≡ true → extents_scoped sizes (n ∷ ns) ≡ true
  put_first n ns h k = and_from (items_scoped sizes 0 n) (extents_scoped sizes ns) h k

  parts : (n : Items) (ns : Extents) → extents_scoped sizes (n ∷ ns) ≡ true → In n × (extents_scoped sizes ns ≡ true)
  parts n ns h = and_parts (items_scoped sizes 0 n) (extents_scoped sizes ns) h

  first_scope : (ns : Extents) (f : Items → Extents → Shaped) → extents_scoped sizes ns ≡ true
      → ((n : Items) (rest : Extents) → In n → extents_scoped sizes rest ≡ true → ScopedShape (f n rest)) → ScopedShape (of_first ns f)
  first_scope [] f h k = tt
  first_scope (n ∷ ns) f h k = let p = parts n ns h in k n ns p.0 p.1

  two_scope : (ns : Extents) (f : Items → Items → Extents → Shaped) → extents_scoped sizes ns ≡ true
      → ((n m : Items) (rest : Extents) → In n → In m → extents_scoped sizes rest ≡ true → ScopedShape (f n m rest)) → ScopedShape (of_two ns f)
  two_scope ns f h k = first_scope ns (λ n rest. of_first rest (f n)) h (λ n rest p q. first_scope rest (f n) q (λ m more a b. k n m more p a b))

  equal_scope : (ns ms : Extents) → extents_scoped sizes ns ≡ true → ScopedShape (of_equal ns ms)
  equal_scope ns ms h = chosen (not (length ns == length ms)) _ _ tt (chosen (not (same_forms ns ms)) _ _ tt (limited_scope ns h))

  words_scope : (ns ms : Extents) → ScopedShape (of_words ns ms)
  words_scope [] [] = refl
  words_scope [] (m ∷ ms) = tt
  words_scope (n ∷ ns) ms = tt

  concat_scope : (ns ms : Extents) → extents_scoped sizes ns ≡ true → extents_scoped sizes ms ≡ true → ScopedShape (of_concat ns ms)
  concat_scope ns ms h k =
      first_scope ns _ h (λ n rest p q. first_scope ms _ k (λ m more a b.
      chosen (not (length rest == length more)) _ _ tt (chosen (not (same_forms rest more)) _ _ tt
      (limited_scope (sum_of n m ∷ rest) (put_first (sum_of n m) rest (in_sum n m p a) q)))))

  variable_scope : (ts : List Extents) (q : ℕ) → shapes_scoped sizes ts ≡ true → extents_scoped sizes (get_or ts q []) ≡ true
  variable_scope [] q h = refl
  variable_scope (ns ∷ ts) zero h = (and_parts (extents_scoped sizes ns) (shapes_scoped sizes ts) h).0
  variable_scope (ns ∷ ts) (suc q) h = variable_scope ts q (and_parts (extents_scoped sizes ns) (shapes_scoped sizes ts) h).1

  -- of a term in scope
  pub shape_scope : (e : Term) (v t : ℕ) (ts : List Extents) → term_scoped sizes e v t ≡ true → shapes_scoped sizes ts ≡ true → ScopedShape (shape_of e ts)
  shape_scope (Lit w) v t ts h g = refl
  shape_scope (TVar q) v t ts h g = limited_scope (get_or ts q []) (variable_scope ts q g)
  shape_scope (WordOf x) v t ts h g = refl
  shape_scope (index e x) v t ts h g = child_scope 0 (shape_of e ts) _
      (shape_scope e v t ts (and_parts (term_scoped sizes e v t) (items_scoped sizes v x) h).0 g) (λ ns a. first_scope ns _ a (λ n rest p q. q))
  shape_scope (gen n e) v t ts h g =
      let p = and_parts (items_scoped sizes 0 n) (term_scoped sizes e (v + 1) t) h in
      child_scope 0 (shape_of e ts) _ (shape_scope e (v + 1) t ts p.1 g) (λ ns a. limited_scope (n ∷ ns) (put_first n ns p.0 a))
  shape_scope (sum n e) v t ts h g = child_scope 0 (shape_of e ts) _
      (shape_scope e (v + 1) t ts (and_parts (items_scoped sizes 0 n) (term_scoped sizes e (v + 1) t) h).1 g) (λ ns a. a)
  shape_scope (guard c e) v t ts h g = child_scope 0 (shape_of e ts) _
      (shape_scope e v t ts (and_parts (cond_scoped sizes v c) (term_scoped sizes e v t) h).1 g) (λ ns a. a)
  shape_scope (let_in a b) v t ts h g =
      let p = and_parts (term_scoped sizes a v t) (term_scoped sizes b v (t + 1)) h in
      child_scope 0 (shape_of a ts) _ (shape_scope a v t ts p.0 g)
      (λ ns c. child_scope 1 (shape_of b (ns ∷ ts)) _ (shape_scope b v (t + 1) (ns ∷ ts) p.1 (and_from (extents_scoped sizes ns) (shapes_scoped sizes ts) c g))
      (λ ms d. d))
  shape_scope (add a b) v t ts h g =
      let p = and_parts (term_scoped sizes a v t) (term_scoped sizes b v t) h in
      child_scope 0 (shape_of a ts) _ (shape_scope a v t ts p.0 g)
      (λ ns c. child_scope 1 (shape_of b ts) _ (shape_scope b v t ts p.1 g) (λ ms d. equal_scope ns ms c))
  shape_scope (sub a b) v t ts h g =
      let p = and_parts (term_scoped sizes a v t) (term_scoped sizes b v t) h in
      child_scope 0 (shape_of a ts) _ (shape_scope a v t ts p.0 g)
      (λ ns c. child_scope 1 (shape_of b ts) _ (shape_scope b v t ts p.1 g) (λ ms d. equal_scope ns ms c))
  shape_scope (mul a b) v t ts h g =
      let p = and_parts (term_scoped sizes a v t) (term_scoped sizes b v t) h in
      child_scope 0 (shape_of a ts) _ (shape_scope a v t ts p.0 g)
      (λ ns c. child_scope 1 (shape_of b ts) _ (shape_scope b v t ts p.1 g) (λ ms d. words_scope ns ms))
  shape_scope (concat a b) v t ts h g =
      let p = and_parts (term_scoped sizes a v t) (term_scoped sizes b v t) h in
      child_scope 0 (shape_of a ts) _ (shape_scope a v t ts p.0 g)
      (λ ns c. child_scope 1 (shape_of b ts) _ (shape_scope b v t ts p.1 g) (λ ms d. concat_scope ns ms c d))
  shape_scope (flatten e) v t ts h g =
      child_scope 0 (shape_of e ts) _ (shape_scope e v t ts h g)
      (λ ns a. two_scope ns _ a (λ n m rest p q r. limited_scope (product_of n m ∷ rest) (put_first (product_of n m) rest (in_product n m p q) r)))
  shape_scope (split k e) v t ts h g =
      child_scope 0 (shape_of e ts) _ (shape_scope e v t ts (and_parts (nat_lt 0 k && nat_le k largest_tile) (term_scoped sizes e v t) h).1 g)
      (λ ns a. first_scope ns _ a (λ n rest c d.
      limited_scope (tiles k n ∷ literal_form (pos k) ∷ rest)
      (put_first (tiles k n) (literal_form (pos k) ∷ rest) (in_tiles k n c) (put_first (literal_form (pos k)) rest (in_literal (pos k)) d))))
  shape_scope (transpose e) v t ts h g = child_scope 0 (shape_of e ts) _ (shape_scope e v t ts h g)
      (λ ns a. two_scope ns _ a (λ n m rest p q r. put_first m (n ∷ rest) q (put_first n rest p r)))
  shape_scope (trunc_l n e) v t ts h g =
      let p = and_parts (items_scoped sizes 0 n) (term_scoped sizes e v t) h in
      child_scope 0 (shape_of e ts) _ (shape_scope e v t ts p.1 g)
      (λ ns a. first_scope ns _ a (λ m rest c d. limited_scope (difference_of m n ∷ rest) (put_first (difference_of m n) rest (in_difference m n c p.0) d)))
  shape_scope (trunc_r n e) v t ts h g =
      let p = and_parts (items_scoped sizes 0 n) (term_scoped sizes e v t) h in
      child_scope 0 (shape_of e ts) _ (shape_scope e v t ts p.1 g)
      (λ ns a. first_scope ns _ a (λ m rest c d. limited_scope (difference_of m n ∷ rest) (put_first (difference_of m n) rest (in_difference m n c p.0) d)))
  shape_scope (pad_l n e) v t ts h g =
      let p = and_parts (items_scoped sizes 0 n) (term_scoped sizes e v t) h in
      child_scope 0 (shape_of e ts) _ (shape_scope e v t ts p.1 g)
      (λ ns a. first_scope ns _ a (λ m rest c d. limited_scope (sum_of m n ∷ rest) (put_first (sum_of m n) rest (in_sum m n c p.0) d)))
  shape_scope (pad_r n e) v t ts h g =
      let p = and_parts (items_scoped sizes 0 n) (term_scoped sizes e v t) h in
      child_scope 0 (shape_of e ts) _ (shape_scope e v t ts p.1 g)
      (λ ns a. first_scope ns _ a (λ m rest c d. limited_scope (sum_of m n ∷ rest) (put_first (sum_of m n) rest (in_sum m n c p.0) d)))
