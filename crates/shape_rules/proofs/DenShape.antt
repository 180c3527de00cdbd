-- A term in which the shape rules hold denotes a tensor of its extents.
use Rattle.std.proofs.Common.{◌≡◌, ℕ, zero, suc, List, [], ◌∷◌, get_or, subst, Bool, true, false, if◌then◌else◌}
use Rattle.affine_index.specs.Condition.{all_hold}
use Rattle.affine_index.specs.Value.{items_value}
use Rattle.term_tree.specs.declared.term.Term.{Term, Lit, TVar, WordOf}
use Rattle.term_tree.specs.Syntax.{index, gen, sum, guard, let_in, add, sub, mul, concat, flatten, split, transpose, trunc_l, trunc_r, pad_l, pad_r}
use Rattle.term_tree.specs.Tensors.{Tensor}
use Rattle.term_tree.specs.Meaning.{dims, den, extent, Bound, no_bound, extents_of}
use Rattle.term_tree.specs.Shaped.{HasShape}
use Rattle.shape_rules.specs.Fits.{AllShaped, ShapesFit}
use Rattle.shape_rules.proofs.RowShapes.{listed_rows, listed_tabulate, zeros_shape, places_shape, total_shape, row_shape, concat_shape, flatten_shape}
use Rattle.shape_rules.proofs.RowShapes.{split_shape, transpose_shape, drop_shape, drop_last_shape, pad_l_shape, pad_r_shape}

variable_shape : (t : List Bound) (q : ℕ) → AllShaped t → HasShape (get_or (extents_of t) q []) (get_or t q no_bound).1
variable_shape [] q h = tt
variable_shape (b ∷ t) zero h = h.0
variable_shape (b ∷ t) (suc q) h = variable_shape t q h.1

chosen : (d : List ℕ) (b : Bool) (x y : Tensor) → HasShape d x → HasShape d y → HasShape d (if b then x else y)
chosen d true x y h k = h
chosen d false x y h k = k

at_extents : (d e : List ℕ) (x : Tensor) → d ≡ e → HasShape d x → HasShape e x
at_extents d e x p h = subst (λ (d : List ℕ). HasShape d x) p h

-- the tensor of a term has its extents, where the shape rules hold for them and the tensor variables have theirs
pub den_shape : (e : Term) (s r : List ℕ) (t : List Bound) → ShapesFit e s (extents_of t) → AllShaped t → HasShape (dims e s (extents_of t)) (den e s r t)
den_shape (Lit w) s r t f h = tt
den_shape (TVar q) s r t f h = variable_shape t q h
den_shape (WordOf x) s r t f h = tt
den_shape (index e x) s r t f h = row_shape (dims e s (extents_of t)) _ (items_value s r x) f.0 (den_shape e s r t f.1 h)
den_shape (gen n e) s r t f h =
    let d = dims e s (extents_of t) in
    listed_rows (HasShape d) (extent n s) _ (listed_tabulate (HasShape d) (extent n s) (λ i. den e s (i ∷ r) t) (λ i. den_shape e s (i ∷ r) t f h))
den_shape (sum n e) s r t f h = total_shape (dims e s (extents_of t)) (extent n s) (λ i. den e s (i ∷ r) t) (λ i. den_shape e s (i ∷ r) t f h)
den_shape (guard c e) s r t f h = chosen _ (all_hold s r c.all) _ _ (den_shape e s r t f h) (zeros_shape (dims e s (extents_of t)))
den_shape (let_in a b) s r t f h = den_shape b s r ((dims a s (extents_of t), den a s r t) ∷ t) f.1 (den_shape a s r t f.0 h, h)
den_shape (add a b) s r t f h = places_shape _ (dims a s (extents_of t)) _ _ (den_shape a s r t f.1 h) (at_extents _ _ _ f.0 (den_shape b s r t f.2 h))
den_shape (sub a b) s r t f h = places_shape _ (dims a s (extents_of t)) _ _ (den_shape a s r t f.1 h) (at_extents _ _ _ f.0 (den_shape b s r t f.2 h))
den_shape (mul a b) s r t f h = places_shape _ [] _ _ (at_extents _ _ _ f.0.0 (den_shape a s r t f.1 h)) (at_extents _ _ _ f.0.1 (den_shape b s r t f.2 h))
den_shape (concat a b) s r t f h =
    concat_shape (dims a s (extents_of t)) (dims b s (extents_of t)) _ _ f.0.0 f.0.1 f.0.2 (den_shape a s r t f.1 h) (den_shape b s r t f.2 h)
den_shape (flatten e) s r t f h = flatten_shape (dims e s (extents_of t)) _ f.0 (den_shape e s r t f.1 h)
den_shape (split k e) s r t f h = split_shape k (dims e s (extents_of t)) _ f.0 (den_shape e s r t f.1 h)
den_shape (transpose e) s r t f h = transpose_shape (dims e s (extents_of t)) _ f.0 (den_shape e s r t f.1 h)
den_shape (trunc_l n e) s r t f h = drop_shape (extent n s) (dims e s (extents_of t)) _ f.0 (den_shape e s r t f.1 h)
den_shape (trunc_r n e) s r t f h = drop_last_shape (extent n s) (dims e s (extents_of t)) _ f.0 (den_shape e s r t f.1 h)
den_shape (pad_l n e) s r t f h = pad_l_shape (extent n s) (dims e s (extents_of t)) _ f.0 (den_shape e s r t f.1 h)
den_shape (pad_r n e) s r t f h = pad_r_shape (extent n s) (dims e s (extents_of t)) _ f.0 (den_shape e s r t f.1 h)
