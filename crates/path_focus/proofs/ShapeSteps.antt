-- Shapes that stay or break a limit: from the steps of a shape, and from the place of a change to the whole.
use Rattle.std.proofs.Common.{◌≡◌, ℕ, List, [], ◌∷◌, ◌++◌, length, refl, ap, sym, ◌∙◌, subst, arith, Bool, true, false, not, nat_le, ◌==◌}
use Rattle.std.proofs.Common.{if◌then◌else◌, Ok, Err, IsOk}
use Rattle.shape_rules.proofs.SameLaws.{same_forms-equal, same_forms-same}
use Rattle.term_tree.specs.Goals.{extents_or_none}
use Rattle.term_tree.specs.Shape.{Extents, Shaped, each_fits, each_short, here, largest_rank, limited, of_equal, same_forms, shape_of, with_child}
use Rattle.term_tree.specs.declared.cause.Cause.{Cause}
use Rattle.term_tree.specs.declared.cause.Cause.TheVariants.{RankMismatch, ShapesDiffer, RankTooLarge, CoefficientTooLarge, IndexTooLong}
use Rattle.term_tree.specs.declared.term.Term.{Term}
use Rattle.path_focus.specs.Focus.{SameOrLimit}
use Rattle.path_focus.specs.Frames.{Frame, OfIndex, OfGen, OfSum, OfGuard, OfDefinition, OfBody, AddLeft, AddRight, SubLeft, SubRight, MulLeft, MulRight}
use Rattle.path_focus.specs.Frames.{ConcatLeft, ConcatRight, OfFlatten, OfSplit, OfTranspose, OfTruncL, OfTruncR, OfPadL, OfPadR, filled, refilled}
use Rattle.path_focus.specs.Places.{Around, at_end, below}
use Rattle.path_focus.proofs.ChildLaws.{child_shaped, inner_shapes}
use Rattle.path_focus.proofs.EndLaws.{below_shapes}

-- a shape that is there stays
pub same_there : (ms : Extents) (z : Shaped) → z ≡ Ok ms → SameOrLimit (Ok ms) z
same_there ms z h = subst (SameOrLimit (Ok ms)) (sym h) refl

-- so does an equal one
pub same_shape_there : (x y : Shaped) → IsOk x → y ≡ x → SameOrLimit x y
same_shape_there (Ok ms) y h e = same_there ms y e
same_shape_there (Err m) y h e = absurd (let q : IsOk {T = Extents} (Err m) = h in cc)

-- the old shape by what it is
pub old_is : (x : Shaped) (ms : Extents) (y : Shaped) → x ≡ Ok ms → SameOrLimit (Ok ms) y → SameOrLimit x y
old_is x ms y h p = subst (λ z. SameOrLimit z y) (sym h) p

-- the new one by what it is
pub new_is : (x y z : Shaped) → y ≡ z → SameOrLimit x z → SameOrLimit x y
new_is x y z h p = subst (SameOrLimit x) (sym h) p

-- a shape within the limits is there, or breaks a limit
pub limited_or : (ns : Extents) → SameOrLimit (Ok ns) (limited ns)
limited_or ns = by (not (nat_le (length ns) largest_rank)) (not (each_fits ns)) (not (each_short ns))
  where
    by : (a b c : Bool)
        → SameOrLimit (Ok ns) (if a then here RankTooLarge else (if b then here CoefficientTooLarge else (if c then here IndexTooLong else Ok ns)))
    by true b c = tt
    by false true c = tt
    by false false true = tt
    by false false false = refl

passed : (b : Bool) (cause : Cause) (z : Shaped) → IsOk (if b then here cause else z) → (b ≡ false) × IsOk z
passed true cause z h = absurd (let q : IsOk {T = Extents} (here cause) = h in cc)
passed false cause z h = (refl, h)

not_false : (b : Bool) → not b ≡ false → b ≡ true
not_false true h = refl
not_false false h = absurd (cc)

same_count : (n : ℕ) → (n == n) ≡ true
same_count n = grind arith

-- extents that may be added are equal
pub equal_extents : (ns ms : Extents) → IsOk (of_equal ns ms) → ms ≡ ns
equal_extents ns ms h =
    let a = passed (not (length ns == length ms)) RankMismatch (if not (same_forms ns ms) then here ShapesDiffer else limited ns) h in
    let b = passed (not (same_forms ns ms)) ShapesDiffer (limited ns) a.1 in
    sym (same_forms-equal ns ms (not_false (same_forms ns ms) b.0))

-- of equal extents
pub equal_or : (ns : Extents) → SameOrLimit (Ok ns) (of_equal ns ns)
equal_or ns =
    new_is (Ok ns) (of_equal ns ns) (limited ns) (λ i. if not (same_count (length ns) i) then here RankMismatch
    else (if not (same_forms-same ns i) then here ShapesDiffer else limited ns)) (limited_or ns)

-- one step of a shape after another
pub next : (k : ℕ) (y : Shaped) (g : Extents → Shaped) (ns ms : Extents) → SameOrLimit (Ok ns) y → SameOrLimit (Ok ms) (g ns)
    → SameOrLimit (Ok ms) (with_child k y g)
next k (Ok xs) g ns ms p q = let e : ns ≡ xs = cc in subst (λ xs. SameOrLimit (Ok ms) (g xs)) e q
next k (Err m) g ns ms p q = p

-- the steps above a part whose shape stays or breaks a limit
pub above : (k : ℕ) (x y : Shaped) (g : Extents → Shaped) (ms : Extents) → with_child k x g ≡ Ok ms → SameOrLimit x y
    → SameOrLimit (with_child k x g) (with_child k y g)
above k (Ok ns) y g ms h p = old_is (g ns) ms (with_child k y g) h (next k y g ns ms p (same_there ms (g ns) h))
above k (Err m) y g ms h p = absurd (cc)

-- so of the second part
pub above_second : (a x y : Shaped) (g : Extents → Extents → Shaped) (ms : Extents) → with_child 0 a (λ ns. with_child 1 x (g ns)) ≡ Ok ms → SameOrLimit x y
    → SameOrLimit (with_child 0 a (λ ns. with_child 1 x (g ns))) (with_child 0 a (λ ns. with_child 1 y (g ns)))
above_second (Ok ns) x y g ms h p = above 1 x y (g ns) ms h p
above_second (Err m) x y g ms h p = absurd (cc)

-- and of the body of a let
pub above_body : (a : Shaped) (x y : Extents → Shaped) (ms : Extents) → with_child 0 a (λ ns. with_child 1 (x ns) (λ ms. Ok ms)) ≡ Ok ms
    → SameOrLimit (x (extents_or_none a)) (y (extents_or_none a))
    → SameOrLimit (with_child 0 a (λ ns. with_child 1 (x ns) (λ ms. Ok ms))) (with_child 0 a (λ ns. with_child 1 (y ns) (λ ms. Ok ms)))
above_body (Ok ns) x y ms h p = above 1 (x ns) (y ns) (λ ms. Ok ms) ms h p
above_body (Err m) x y ms h p = absurd (cc)

module _ (e new : Term) (ts : List Extents) where
  -- a node above a change
  filled_shape : (f : Frame) (ms : Extents) → shape_of (filled f e) ts ≡ Ok ms → SameOrLimit (shape_of e (inner_shapes f ts)) (shape_of new (inner_shapes f ts))
      → SameOrLimit (shape_of (filled f e) ts) (shape_of (filled f new) ts)
  filled_shape (OfIndex x) ms h p = above 0 (shape_of e ts) (shape_of new ts) _ ms h p
  filled_shape (OfGen n) ms h p = above 0 (shape_of e ts) (shape_of new ts) _ ms h p
  filled_shape (OfSum n) ms h p = above 0 (shape_of e ts) (shape_of new ts) _ ms h p
  filled_shape (OfGuard c) ms h p = above 0 (shape_of e ts) (shape_of new ts) _ ms h p
  filled_shape (OfDefinition b) ms h p = above 0 (shape_of e ts) (shape_of new ts) _ ms h p
  filled_shape (OfBody a) ms h p = above_body (shape_of a ts) (λ ns. shape_of e (ns ∷ ts)) (λ ns. shape_of new (ns ∷ ts)) ms h p
  filled_shape (AddLeft b) ms h p = above 0 (shape_of e ts) (shape_of new ts) _ ms h p
  filled_shape (AddRight a) ms h p = above_second (shape_of a ts) (shape_of e ts) (shape_of new ts) _ ms h p
  filled_shape (SubLeft b) ms h p = above 0 (shape_of e ts) (shape_of new ts) _ ms h p
  filled_shape (SubRight a) ms h p = above_second (shape_of a ts) (shape_of e ts) (shape_of new ts) _ ms h p
  filled_shape (MulLeft b) ms h p = above 0 (shape_of e ts) (shape_of new ts) _ ms h p
  filled_shape (MulRight a) ms h p = above_second (shape_of a ts) (shape_of e ts) (shape_of new ts) _ ms h p
  filled_shape (ConcatLeft b) ms h p = above 0 (shape_of e ts) (shape_of new ts) _ ms h p
  filled_shape (ConcatRight a) ms h p = above_second (shape_of a ts) (shape_of e ts) (shape_of new ts) _ ms h p
  filled_shape OfFlatten ms h p = above 0 (shape_of e ts) (shape_of new ts) _ ms h p
  filled_shape (OfSplit k) ms h p = above 0 (shape_of e ts) (shape_of new ts) _ ms h p
  filled_shape OfTranspose ms h p = above 0 (shape_of e ts) (shape_of new ts) _ ms h p
  filled_shape (OfTruncL n) ms h p = above 0 (shape_of e ts) (shape_of new ts) _ ms h p
  filled_shape (OfTruncR n) ms h p = above 0 (shape_of e ts) (shape_of new ts) _ ms h p
  filled_shape (OfPadL n) ms h p = above 0 (shape_of e ts) (shape_of new ts) _ ms h p
  filled_shape (OfPadR n) ms h p = above 0 (shape_of e ts) (shape_of new ts) _ ms h p

-- the whole above a change
pub refilled_shape : (inputs : List Extents) (e new : Term) (fs : List Frame) (z : Around) (ms : Extents) → shape_of (refilled fs e) (z.lets ++ inputs) ≡ Ok ms
    → SameOrLimit (shape_of e ((at_end inputs fs z).lets ++ inputs)) (shape_of new ((at_end inputs fs z).lets ++ inputs))
    → SameOrLimit (shape_of (refilled fs e) (z.lets ++ inputs)) (shape_of (refilled fs new) (z.lets ++ inputs))
refilled_shape inputs e new [] z ms h p = p
refilled_shape inputs e new (f ∷ fs) z ms h p =
    let ts = z.lets ++ inputs in
    let c = (child_shaped (refilled fs e) ts f ms h).0 in
    filled_shape (refilled fs e) (refilled fs new) ts f ms h
    (subst (λ (xs : List Extents). SameOrLimit (shape_of (refilled fs e) xs) (shape_of (refilled fs new) xs)) (below_shapes inputs f z)
    (refilled_shape inputs e new fs (below inputs f z) c.0 (ap (shape_of (refilled fs e)) (below_shapes inputs f z) ∙ c.1) p))
