-- The shape rules: the extents of a term as normal forms, or its first node that breaks a rule.
use Rattle.std.specs.Prelude.{ℕ, zero, suc, ◌+◌, ◌-◌, Bool, true, false, ◌&&◌, if◌then◌else◌, not, nat_le, ◌==◌, List, [], ◌∷◌, length, get_or, ℤ, pos, Result}
use Rattle.std.specs.Prelude.{Ok, Err}
use Rattle.std.specs.Ordering.{is_eq}
use Rattle.affine_index.specs.declared.form.Items.{Items}
use Rattle.affine_index.specs.Form.{literal_form}
use Rattle.affine_index.specs.Sum.{sum_of, difference_of}
use Rattle.affine_index.specs.Product.{product_of}
use Rattle.affine_index.specs.Quotient.{quotient_of}
use Rattle.affine_index.specs.Normal.{coefficients_fit, is_short}
use Rattle.affine_index.specs.Order.{items_order}
use Rattle.term_tree.specs.declared.cause.Cause.{Cause}
use Rattle.term_tree.specs.declared.cause.Cause.TheVariants.{RankMismatch, ShapesDiffer, RankTooLarge, CoefficientTooLarge, IndexTooLong}
use Rattle.term_tree.specs.declared.term.Term.{Term, Lit, TVar, WordOf}
use Rattle.term_tree.specs.Syntax.{index, gen, sum, guard, let_in, add, sub, mul, concat, flatten, split, transpose, trunc_l, trunc_r, pad_l, pad_r}

-- the node, by the numbers of the children that lead to it, and what is wrong there
pub record Misfit : Type 0 where
  pub steps : List ℕ
  pub cause : Cause

abbrev pub Extents : Type 0
Extents = List Items

abbrev pub Shaped : Type 0
Shaped = Result Extents Misfit

abbrev pub here : Cause → Shaped
here cause = Err (record { steps = []; cause = cause })

abbrev pub largest_rank : ℕ
largest_rank = 8

abbrev pub each_fits : Extents → Bool
each_fits [] = true
each_fits (n ∷ ns) = coefficients_fit n && each_fits ns

abbrev pub each_short : Extents → Bool
each_short [] = true
each_short (n ∷ ns) = is_short n && each_short ns

-- the shape of a node, where its rank and its forms are within the limits
abbrev pub limited : Extents → Shaped
limited ns =
    if not (nat_le (length ns) largest_rank) then here RankTooLarge
    else (if not (each_fits ns) then here CoefficientTooLarge
    else (if not (each_short ns) then here IndexTooLong else Ok ns))

-- the misfit of a child, seen from its parent
abbrev pub under : ℕ → Misfit → Misfit
under child misfit = record misfit { steps = child ∷ misfit.steps }

-- the shape of a child, or its misfit
abbrev pub with_child : ℕ → Shaped → (Extents → Shaped) → Shaped
with_child child (Ok ns) f = f ns
with_child child (Err misfit) f = Err (under child misfit)

abbrev pub same_form : Items → Items → Bool
same_form x y = is_eq (items_order x y)

abbrev pub same_forms : Extents → Extents → Bool
same_forms [] [] = true
same_forms [] (m ∷ ms) = false
same_forms (n ∷ ns) [] = false
same_forms (n ∷ ns) (m ∷ ms) = same_form n m && same_forms ns ms

-- equal extents, of equal rank
abbrev pub of_equal : Extents → Extents → Shaped
of_equal ns ms =
    if not (length ns == length ms) then here RankMismatch
    else (if not (same_forms ns ms) then here ShapesDiffer else limited ns)

abbrev pub of_words : Extents → Extents → Shaped
of_words [] [] = Ok []
of_words _ _ = here RankMismatch

-- rank 1 or more
abbrev pub of_first : Extents → (Items → Extents → Shaped) → Shaped
of_first [] f = here RankMismatch
of_first (n ∷ ns) f = f n ns

-- rank 2 or more
abbrev pub of_two : Extents → (Items → Items → Extents → Shaped) → Shaped
of_two ns f = of_first ns (λ n rest. of_first rest (f n))

abbrev pub of_concat : Extents → Extents → Shaped
of_concat as' bs = of_first as' (λ n ns. of_first bs (λ m ms.
    if not (length ns == length ms) then here RankMismatch
    else (if not (same_forms ns ms) then here ShapesDiffer else limited (sum_of n m ∷ ns))))

-- how many chunks of k hold n rows
abbrev pub tiles : ℕ → Items → Items
tiles k n = quotient_of (sum_of n (literal_form (pos (k - 1)))) k

-- the shape of a term under the shapes of its tensor variables, from the innermost: its children in order first
abbrev pub shape_of : Term → List Extents → Shaped
shape_of (Lit w) ts = Ok []
shape_of (TVar q) ts = limited (get_or ts q [])
shape_of (WordOf x) ts = Ok []
shape_of (index e x) ts = with_child 0 (shape_of e ts) (λ ns. of_first ns (λ n rest. Ok rest))
shape_of (gen n e) ts = with_child 0 (shape_of e ts) (λ ns. limited (n ∷ ns))
shape_of (sum n e) ts = with_child 0 (shape_of e ts) (λ ns. Ok ns)
shape_of (guard c e) ts = with_child 0 (shape_of e ts) (λ ns. Ok ns)
shape_of (let_in a b) ts = with_child 0 (shape_of a ts) (λ ns. with_child 1 (shape_of b (ns ∷ ts)) (λ ms. Ok ms))
shape_of (add a b) ts = with_child 0 (shape_of a ts) (λ ns. with_child 1 (shape_of b ts) (λ ms. of_equal ns ms))
shape_of (sub a b) ts = with_child 0 (shape_of a ts) (λ ns. with_child 1 (shape_of b ts) (λ ms. of_equal ns ms))
shape_of (mul a b) ts = with_child 0 (shape_of a ts) (λ ns. with_child 1 (shape_of b ts) (λ ms. of_words ns ms))
shape_of (concat a b) ts = with_child 0 (shape_of a ts) (λ ns. with_child 1 (shape_of b ts) (λ ms. of_concat ns ms))
shape_of (flatten e) ts = with_child 0 (shape_of e ts) (λ ns. of_two ns (λ n m rest. limited (product_of n m ∷ rest)))
shape_of (split k e) ts = with_child 0 (shape_of e ts) (λ ns. of_first ns (λ n rest. limited (tiles k n ∷ literal_form (pos k) ∷ rest)))
shape_of (transpose e) ts = with_child 0 (shape_of e ts) (λ ns. of_two ns (λ n m rest. Ok (m ∷ n ∷ rest)))
shape_of (trunc_l a e) ts = with_child 0 (shape_of e ts) (λ ns. of_first ns (λ n rest. limited (difference_of n a ∷ rest)))
shape_of (trunc_r a e) ts = with_child 0 (shape_of e ts) (λ ns. of_first ns (λ n rest. limited (difference_of n a ∷ rest)))
shape_of (pad_l a e) ts = with_child 0 (shape_of e ts) (λ ns. of_first ns (λ n rest. limited (sum_of n a ∷ rest)))
shape_of (pad_r a e) ts = with_child 0 (shape_of e ts) (λ ns. of_first ns (λ n rest. limited (sum_of n a ∷ rest)))
