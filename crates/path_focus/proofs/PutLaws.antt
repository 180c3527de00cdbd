-- A term with forms for its index variables has the extents, the shape and the goals of the term.
use Rattle.std.proofs.Common.{◌≡◌, ℕ, suc, ◌+◌, ◌-◌, ◌*◌, ◌/◌, List, ◌∷◌, refl, ap, sym, ◌∙◌, subst, Ok}
use Rattle.affine_index.specs.declared.form.Items.{Items}
use Rattle.binders.specs.Maps.{mapped}
use Rattle.binders.specs.PlainMaps.{put_index_map}
use Rattle.path_focus.specs.Numbers.{AtMost, GoalsFit}
use Rattle.term_tree.specs.Meaning.{dims, extent, head_of, tail_of}
use Rattle.shape_rules.specs.Rules.{columns_shape, fewer_shape, flat_shape, more_shape, row_shape, rows_shape, same_shape, tiled_shape}
use Rattle.term_tree.specs.Shape.{Extents, of_concat, of_equal, of_words, shape_of, with_child}
use Rattle.term_tree.specs.Syntax.{index, gen, sum, guard, let_in, add, sub, mul, concat, flatten, split, transpose, trunc_l, trunc_r, pad_l, pad_r}
use Rattle.term_tree.specs.declared.term.Term.{Term, Lit, TVar, WordOf}

module _ (by : List Items) (under : ℕ) (s : List ℕ) where
  pub put_extents : (e : Term) (i j : ℕ) (ds : List (List ℕ)) → dims (mapped (put_index_map by under) i j e) s ds ≡ dims e s ds
  put_extents (Lit y) i j ds = refl
  put_extents (TVar q) i j ds = refl
  put_extents (WordOf x) i j ds = refl
  put_extents (index e x) i j ds = ap tail_of (put_extents e i j ds)
  put_extents (gen n e) i j ds = λ h. extent n s ∷ (put_extents e (suc i) j ds) h
  put_extents (sum n e) i j ds = put_extents e (suc i) j ds
  put_extents (guard c e) i j ds = put_extents e i j ds
  put_extents (flatten e) i j ds = ap (λ d. (head_of d * head_of (tail_of d)) ∷ tail_of (tail_of d)) (put_extents e i j ds)
  put_extents (split k e) i j ds = ap (λ d. ((head_of d + k - 1) / k) ∷ k ∷ tail_of d) (put_extents e i j ds)
  put_extents (transpose e) i j ds = ap (λ d. head_of (tail_of d) ∷ head_of d ∷ tail_of (tail_of d)) (put_extents e i j ds)
  put_extents (trunc_l n e) i j ds = ap (λ d. (head_of d - extent n s) ∷ tail_of d) (put_extents e i j ds)
  put_extents (trunc_r n e) i j ds = ap (λ d. (head_of d - extent n s) ∷ tail_of d) (put_extents e i j ds)
  put_extents (pad_l n e) i j ds = ap (λ d. (head_of d + extent n s) ∷ tail_of d) (put_extents e i j ds)
  put_extents (pad_r n e) i j ds = ap (λ d. (head_of d + extent n s) ∷ tail_of d) (put_extents e i j ds)
  put_extents (let_in a b) i j ds = (λ h. dims (mapped (put_index_map by under) i (suc j) b) s (put_extents a i j ds h ∷ ds))
      ∙ put_extents b i (suc j) (dims a s ds ∷ ds)
  put_extents (add a b) i j ds = put_extents a i j ds
  put_extents (sub a b) i j ds = put_extents a i j ds
  put_extents (mul a b) i j ds = refl
  put_extents (concat a b) i j ds = λ h. (head_of (put_extents a i j ds h) + head_of (put_extents b i j ds h)) ∷ tail_of (put_extents a i j ds h)

  pub put_goals : (e : Term) (i j : ℕ) (ds : List (List ℕ)) → GoalsFit e s ds → GoalsFit (mapped (put_index_map by under) i j e) s ds
  put_goals (Lit y) i j ds g = tt
  put_goals (TVar q) i j ds g = tt
  put_goals (WordOf x) i j ds g = tt
  put_goals (index e x) i j ds g = put_goals e i j ds g
  put_goals (gen n e) i j ds g = (g.0, put_goals e (suc i) j ds g.1)
  put_goals (sum n e) i j ds g = (g.0, put_goals e (suc i) j ds g.1)
  put_goals (guard c e) i j ds g = put_goals e i j ds g
  put_goals (flatten e) i j ds g = put_goals e i j ds g
  put_goals (split k e) i j ds g = put_goals e i j ds g
  put_goals (transpose e) i j ds g = put_goals e i j ds g
  put_goals (trunc_l n e) i j ds g = (g.0, subst (AtMost n s) (sym (put_extents e i j ds)) g.1, put_goals e i j ds g.2)
  put_goals (trunc_r n e) i j ds g = (g.0, subst (AtMost n s) (sym (put_extents e i j ds)) g.1, put_goals e i j ds g.2)
  put_goals (pad_l n e) i j ds g = (g.0, put_goals e i j ds g.1)
  put_goals (pad_r n e) i j ds g = (g.0, put_goals e i j ds g.1)
  put_goals (let_in a b) i j ds g = (
    put_goals a i j ds g.0,
    subst (λ (d : List ℕ). GoalsFit (mapped (put_index_map by under) i (suc j) b) s (d ∷ ds)) (sym (put_extents a i j ds))
        (put_goals b i (suc j) (dims a s ds ∷ ds) g.1),
  )
  put_goals (add a b) i j ds g = (put_goals a i j ds g.0, put_goals b i j ds g.1)
  put_goals (sub a b) i j ds g = (put_goals a i j ds g.0, put_goals b i j ds g.1)
  put_goals (mul a b) i j ds g = (put_goals a i j ds g.0, put_goals b i j ds g.1)
  put_goals (concat a b) i j ds g = (put_goals a i j ds g.0, put_goals b i j ds g.1)

  pub put_shape : (e : Term) (i j : ℕ) (ts : List Extents) → shape_of (mapped (put_index_map by under) i j e) ts ≡ shape_of e ts
  put_shape (Lit y) i j ts = refl
  put_shape (TVar q) i j ts = refl
  put_shape (WordOf x) i j ts = refl
  put_shape (index e x) i j ts = ap (λ r. with_child 0 r row_shape) (put_shape e i j ts)
  put_shape (gen n e) i j ts = ap (λ r. with_child 0 r (rows_shape n)) (put_shape e (suc i) j ts)
  put_shape (sum n e) i j ts = ap (λ r. with_child 0 r same_shape) (put_shape e (suc i) j ts)
  put_shape (guard c e) i j ts = ap (λ r. with_child 0 r same_shape) (put_shape e i j ts)
  put_shape (flatten e) i j ts = ap (λ r. with_child 0 r flat_shape) (put_shape e i j ts)
  put_shape (split k e) i j ts = ap (λ r. with_child 0 r (tiled_shape k)) (put_shape e i j ts)
  put_shape (transpose e) i j ts = ap (λ r. with_child 0 r columns_shape) (put_shape e i j ts)
  put_shape (trunc_l n e) i j ts = ap (λ r. with_child 0 r (fewer_shape n)) (put_shape e i j ts)
  put_shape (trunc_r n e) i j ts = ap (λ r. with_child 0 r (fewer_shape n)) (put_shape e i j ts)
  put_shape (pad_l n e) i j ts = ap (λ r. with_child 0 r (more_shape n)) (put_shape e i j ts)
  put_shape (pad_r n e) i j ts = ap (λ r. with_child 0 r (more_shape n)) (put_shape e i j ts)
  put_shape (let_in a b) i j ts = λ h. with_child 0 (put_shape a i j ts h) (λ ns. with_child 1 (put_shape b i (suc j) (ns ∷ ts) h) (λ ms. Ok ms))
  put_shape (add a b) i j ts = λ h. with_child 0 (put_shape a i j ts h) (λ ns. with_child 1 (put_shape b i j ts h) (of_equal ns))
  put_shape (sub a b) i j ts = λ h. with_child 0 (put_shape a i j ts h) (λ ns. with_child 1 (put_shape b i j ts h) (of_equal ns))
  put_shape (mul a b) i j ts = λ h. with_child 0 (put_shape a i j ts h) (λ ns. with_child 1 (put_shape b i j ts h) (of_words ns))
  put_shape (concat a b) i j ts = λ h. with_child 0 (put_shape a i j ts h) (λ ns. with_child 1 (put_shape b i j ts h) (of_concat ns))
