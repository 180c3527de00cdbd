-- The body of a let with a term for its variable: its shape, extents, goals, scope, and room for its numbers.
use Rattle.std.proofs.Common.{◌≡◌, ℕ, suc, ◌+◌, ◌-◌, ◌*◌, ◌/◌, ◌<◌, ◌≤◌, List, [], ◌∷◌, ◌++◌, length, get_or, refl, ap, sym, ◌∙◌, subst, arith, Bool, true}
use Rattle.std.proofs.Common.{false, nat_lt, if◌then◌else◌, Ok}
use Rattle.std.proofs.lemmas.Bool.{ltb-false, ltb-true}
use Rattle.binders.specs.Answers.{IsWithinReach}
use Rattle.binders.specs.Maps.{mapped}
use Rattle.binders.specs.PlainMaps.{put_tensor_map, put_tensor_reach, shift_map}
use Rattle.binders.proofs.PlainLaws.{get_or_front, get_or_skip}
use Rattle.binders.proofs.ReachLaws.{put_tensor_within}
use Rattle.binders.proofs.ScopeLaws.{mapped_scope, scopes_put_tensor}
use Rattle.path_focus.specs.Numbers.{AtMost, GoalsFit}
use Rattle.path_focus.proofs.CountLaws.{depth_nodes}
use Rattle.path_focus.proofs.MovedLaws.{moved_extents, moved_numbers, moved_shape}
use Rattle.shape_rules.specs.Rules.{columns_shape, fewer_shape, flat_shape, more_shape, row_shape, rows_shape, same_shape, tiled_shape}
use Rattle.term_tree.specs.Counts.{node_count, node_depth}
use Rattle.term_tree.specs.Meaning.{dims, extent, head_of, tail_of}
use Rattle.term_tree.specs.Scope.{term_scoped}
use Rattle.term_tree.specs.Shape.{Extents, limited, of_concat, of_equal, of_words, shape_of, with_child}
use Rattle.term_tree.specs.Syntax.{index, gen, sum, guard, let_in, add, sub, mul, concat, flatten, split, transpose, trunc_l, trunc_r, pad_l, pad_r}
use Rattle.term_tree.specs.declared.term.Term.{Term, Lit, TVar, WordOf}

-- a variable below the one that is put, above it, or that one
module _ {A : Type 0} (d : A) (is new ts : List A) (x : A) (q : ℕ) where
  below_put : nat_lt q (length is) ≡ true → get_or (is ++ (new ++ ts)) q d ≡ get_or (is ++ (x ∷ ts)) q d
  below_put e = get_or_front d is (new ++ ts) (x ∷ ts) q (ltb-true _ _ e)

  above_put : nat_lt (length is) q ≡ true → get_or (is ++ (new ++ ts)) (q - 1 + length new) d ≡ get_or (is ++ (x ∷ ts)) q d
  above_put e =
      let h : length is < q = ltb-true _ _ e in
      let n : ℕ = q - 1 - length is in
      get_or_skip d is (new ++ ts) (q - 1 + length new) (length new + n) (omega (arith, h))
      ∙ get_or_skip d new ts (length new + n) n refl
      ∙ sym (get_or_skip d is (x ∷ ts) q (suc n) (omega (arith, h)))

  at_put : nat_lt q (length is) ≡ false → nat_lt (length is) q ≡ false → get_or (is ++ (x ∷ ts)) q d ≡ x
  at_put e g =
      let h : length is ≤ q = ltb-false _ _ e in
      let k : q ≤ length is = ltb-false _ _ g in
      get_or_skip d is (x ∷ ts) q 0 (omega (arith, h, k))

module _ (by : Term) (new ts : List Extents) (ns : Extents) (there : shape_of by (new ++ ts) ≡ limited ns) where
  variable_shape : (i : ℕ) (is : List Extents) (q : ℕ) (b c : Bool) → nat_lt q (length is) ≡ b → nat_lt (length is) q ≡ c
      → shape_of (if b then TVar q else (if c then TVar (q - 1 + length new) else mapped (shift_map i (length is)) 0 0 by)) (is ++ (new ++ ts))
      ≡ limited (get_or (is ++ (ns ∷ ts)) q [])
  variable_shape i is q true c e g = ap limited (below_put [] is new ts ns q e)
  variable_shape i is q false true e g = ap limited (above_put [] is new ts ns q g)
  variable_shape i is q false false e g = moved_shape i is (new ++ ts) 0 [] by ∙ there ∙ sym (ap limited (at_put [] is new ts ns q e g))

  pub put_shape : (i : ℕ) (is : List Extents) (e : Term) → shape_of (mapped (put_tensor_map by (length new)) i (length is) e) (is ++ (new ++ ts))
      ≡ shape_of e (is ++ (ns ∷ ts))
  put_shape i is (Lit y) = refl
  put_shape i is (TVar q) = variable_shape i is q (nat_lt q (length is)) (nat_lt (length is) q) refl refl
  put_shape i is (WordOf x) = refl
  put_shape i is (index e x) = ap (λ r. with_child 0 r row_shape) (put_shape i is e)
  put_shape i is (gen n e) = ap (λ r. with_child 0 r (rows_shape n)) (put_shape (suc i) is e)
  put_shape i is (sum n e) = ap (λ r. with_child 0 r same_shape) (put_shape (suc i) is e)
  put_shape i is (guard c e) = ap (λ r. with_child 0 r same_shape) (put_shape i is e)
  put_shape i is (flatten e) = ap (λ r. with_child 0 r flat_shape) (put_shape i is e)
  put_shape i is (split k e) = ap (λ r. with_child 0 r (tiled_shape k)) (put_shape i is e)
  put_shape i is (transpose e) = ap (λ r. with_child 0 r columns_shape) (put_shape i is e)
  put_shape i is (trunc_l n e) = ap (λ r. with_child 0 r (fewer_shape n)) (put_shape i is e)
  put_shape i is (trunc_r n e) = ap (λ r. with_child 0 r (fewer_shape n)) (put_shape i is e)
  put_shape i is (pad_l n e) = ap (λ r. with_child 0 r (more_shape n)) (put_shape i is e)
  put_shape i is (pad_r n e) = ap (λ r. with_child 0 r (more_shape n)) (put_shape i is e)
  put_shape i is (let_in a b) = λ h. with_child 0 (put_shape i is a h) (λ ns. with_child 1 (put_shape i (ns ∷ is) b h) (λ ms. Ok ms))
  put_shape i is (add a b) = λ h. with_child 0 (put_shape i is a h) (λ ns. with_child 1 (put_shape i is b h) (of_equal ns))
  put_shape i is (sub a b) = λ h. with_child 0 (put_shape i is a h) (λ ns. with_child 1 (put_shape i is b h) (of_equal ns))
  put_shape i is (mul a b) = λ h. with_child 0 (put_shape i is a h) (λ ns. with_child 1 (put_shape i is b h) (of_words ns))
  put_shape i is (concat a b) = λ h. with_child 0 (put_shape i is a h) (λ ns. with_child 1 (put_shape i is b h) (of_concat ns))

module _ (by : Term) (s : List ℕ) (new ds : List (List ℕ)) where
  abbrev own : List ℕ
  own = dims by s (new ++ ds)

  variable_extents : (i : ℕ) (is : List (List ℕ)) (q : ℕ) (b c : Bool) → nat_lt q (length is) ≡ b → nat_lt (length is) q ≡ c
      → dims (if b then TVar q else (if c then TVar (q - 1 + length new) else mapped (shift_map i (length is)) 0 0 by)) s (is ++ (new ++ ds))
      ≡ get_or (is ++ (own ∷ ds)) q []
  variable_extents i is q true c e g = below_put [] is new ds own q e
  variable_extents i is q false true e g = above_put [] is new ds own q g
  variable_extents i is q false false e g = moved_extents i s is (new ++ ds) 0 [] by ∙ sym (at_put [] is new ds own q e g)

  pub put_extents : (i : ℕ) (is : List (List ℕ)) (e : Term) → dims (mapped (put_tensor_map by (length new)) i (length is) e) s (is ++ (new ++ ds))
      ≡ dims e s (is ++ (own ∷ ds))
  put_extents i is (Lit y) = refl
  put_extents i is (TVar q) = variable_extents i is q (nat_lt q (length is)) (nat_lt (length is) q) refl refl
  put_extents i is (WordOf x) = refl
  put_extents i is (index e x) = ap tail_of (put_extents i is e)
  put_extents i is (gen n e) = ap (λ d. extent n s ∷ d) (put_extents (suc i) is e)
  put_extents i is (sum n e) = put_extents (suc i) is e
  put_extents i is (guard c e) = put_extents i is e
  put_extents i is (flatten e) = ap (λ d. (head_of d * head_of (tail_of d)) ∷ tail_of (tail_of d)) (put_extents i is e)
  put_extents i is (split k e) = ap (λ d. ((head_of d + k - 1) / k) ∷ k ∷ tail_of d) (put_extents i is e)
  put_extents i is (transpose e) = ap (λ d. head_of (tail_of d) ∷ head_of d ∷ tail_of (tail_of d)) (put_extents i is e)
  put_extents i is (trunc_l n e) = ap (λ d. (head_of d - extent n s) ∷ tail_of d) (put_extents i is e)
  put_extents i is (trunc_r n e) = ap (λ d. (head_of d - extent n s) ∷ tail_of d) (put_extents i is e)
  put_extents i is (pad_l n e) = ap (λ d. (head_of d + extent n s) ∷ tail_of d) (put_extents i is e)
  put_extents i is (pad_r n e) = ap (λ d. (head_of d + extent n s) ∷ tail_of d) (put_extents i is e)
  put_extents i is (let_in a b) =
      (λ h. dims (mapped (put_tensor_map by (length new)) i (suc (length is)) b) s (put_extents i is a h ∷ (is ++ (new ++ ds))))
      ∙ put_extents i (dims a s (is ++ (own ∷ ds)) ∷ is) b
  put_extents i is (add a b) = put_extents i is a
  put_extents i is (sub a b) = put_extents i is a
  put_extents i is (mul a b) = refl
  put_extents i is (concat a b) = λ h. (head_of (put_extents i is a h) + head_of (put_extents i is b h)) ∷ tail_of (put_extents i is a h)

  module _ (fits : GoalsFit by s (new ++ ds)) where
    variable_goals : (i : ℕ) (is : List (List ℕ)) (q : ℕ) (b c : Bool)
        → GoalsFit (if b then TVar q else (if c then TVar (q - 1 + length new) else mapped (shift_map i (length is)) 0 0 by)) s (is ++ (new ++ ds))
    variable_goals i is q true c = tt
    variable_goals i is q false true = tt
    variable_goals i is q false false = moved_numbers i s is (new ++ ds) 0 [] by fits

    pub put_goals : (i : ℕ) (is : List (List ℕ)) (e : Term) → GoalsFit e s (is ++ (own ∷ ds))
        → GoalsFit (mapped (put_tensor_map by (length new)) i (length is) e) s (is ++ (new ++ ds))
    put_goals i is (Lit y) g = tt
    put_goals i is (TVar q) g = variable_goals i is q (nat_lt q (length is)) (nat_lt (length is) q)
    put_goals i is (WordOf x) g = tt
    put_goals i is (index e x) g = put_goals i is e g
    put_goals i is (gen n e) g = (g.0, put_goals (suc i) is e g.1)
    put_goals i is (sum n e) g = (g.0, put_goals (suc i) is e g.1)
    put_goals i is (guard c e) g = put_goals i is e g
    put_goals i is (flatten e) g = put_goals i is e g
    put_goals i is (split k e) g = put_goals i is e g
    put_goals i is (transpose e) g = put_goals i is e g
    put_goals i is (trunc_l n e) g = (g.0, subst (AtMost n s) (sym (put_extents i is e)) g.1, put_goals i is e g.2)
    put_goals i is (trunc_r n e) g = (g.0, subst (AtMost n s) (sym (put_extents i is e)) g.1, put_goals i is e g.2)
    put_goals i is (pad_l n e) g = (g.0, put_goals i is e g.1)
    put_goals i is (pad_r n e) g = (g.0, put_goals i is e g.1)
    put_goals i is (let_in a b) g = (
      put_goals i is a g.0,
      subst (λ (d : List ℕ). GoalsFit (mapped (put_tensor_map by (length new)) i (suc (length is)) b) s (d ∷ (is ++ (new ++ ds)))) (sym (put_extents i is a))
          (put_goals i (dims a s (is ++ (own ∷ ds)) ∷ is) b g.1),
    )
    put_goals i is (add a b) g = (put_goals i is a g.0, put_goals i is b g.1)
    put_goals i is (sub a b) g = (put_goals i is a g.0, put_goals i is b g.1)
    put_goals i is (mul a b) g = (put_goals i is a g.0, put_goals i is b g.1)
    put_goals i is (concat a b) g = (put_goals i is a g.0, put_goals i is b g.1)

module _ (by : Term) (under sizes vars tensors : ℕ) (b : Term) (scoped_by : term_scoped sizes by vars (under + tensors) ≡ true)
    (scoped_body : term_scoped sizes b vars (tensors + 1) ≡ true) where
  -- it is in scope where both are
  pub put_scoped : term_scoped sizes (mapped (put_tensor_map by under) 0 0 b) vars (under + tensors) ≡ true
  put_scoped =
      mapped_scope (put_tensor_map by under) b sizes vars (tensors + 1) vars (under + tensors) (scopes_put_tensor by under sizes vars tensors scoped_by)
      scoped_body

  -- and the term may be put
  pub put_reach : vars ≤ 2147523647 → tensors ≤ 2147523647 → under ≤ 2 → node_count by ≤ 20000 → node_count b ≤ 20000
      → (node_depth b ≤ 2147483647) × IsWithinReach (put_tensor_reach by under) b
  put_reach v t u small_by small =
      let d = depth_nodes b in
      let k = depth_nodes by in (
        omega (arith, d, small),
        put_tensor_within by under vars (under + tensors) sizes vars (tensors + 1) b scoped_by (omega (arith, k, small_by))
            (omega (arith, d, k, small, small_by, v)) (omega (arith, d, k, small, small_by, t, u)) (omega (arith, d, small, t, u)) scoped_body,
      )
