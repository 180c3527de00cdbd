-- Numbers of lets, of nodes on a way, and of variables.
use Rattle.std.proofs.Common.{◌≡◌, ◌≢◌, ℕ, zero, suc, ◌+◌, ◌<◌, ◌≤◌, List, [], ◌∷◌, ◌++◌, length, refl, ap, ◌∙◌, arith, true}
use Rattle.affine_index.specs.Limited.{items_scoped}
use Rattle.affine_index.specs.Put.{given as given_form}
use Rattle.affine_index.specs.declared.form.Items.{Items}
use Rattle.binders.specs.Answers.{IsWithinReach}
use Rattle.binders.specs.PlainMaps.{put_index_reach, shift_reach}
use Rattle.binders.proofs.ReachLaws.{put_index_within, shift_within}
use Rattle.fact_list.specs.Facts.{binders}
use Rattle.fact_list.specs.declared.facts.PathFact.{PathFact}
use Rattle.fact_list.specs.declared.facts.PathFact.TheVariants.{Bound as Below, Holds}
use Rattle.shape_rules.specs.Scopes.{given}
use Rattle.term_tree.specs.Counts.{node_count, node_depth}
use Rattle.term_tree.specs.Scope.{term_scoped}
use Rattle.term_tree.specs.Shape.{Extents}
use Rattle.term_tree.specs.Syntax.{index, gen, sum, guard, let_in, add, sub, mul, concat, flatten, split, transpose, trunc_l, trunc_r, pad_l, pad_r}
use Rattle.term_tree.specs.declared.term.Term.{Term, Lit, TVar, WordOf}
use Rattle.path_focus.specs.Focus.{AllApart, Each, IsFew}
use Rattle.path_focus.specs.Frames.{Frame, OfIndex, OfGen, OfSum, OfGuard, OfDefinition, OfBody, AddLeft, AddRight, SubLeft, SubRight, MulLeft, MulRight}
use Rattle.path_focus.specs.Frames.{ConcatLeft, ConcatRight, OfFlatten, OfSplit, OfTranspose, OfTruncL, OfTruncR, OfPadL, OfPadR, filled, refilled}
use Rattle.path_focus.specs.Places.{Around, Definition, at_end, below, moved_lets, under_index}
use Rattle.path_focus.specs.declared.place.Focus.{Focus}

-- a node has more nodes than its child
pub child_fewer : (e : Term) (f : Frame) → suc (node_count e) ≤ node_count (filled f e)
child_fewer e (OfIndex x) = omega arith
child_fewer e (OfGen n) = omega arith
child_fewer e (OfSum n) = omega arith
child_fewer e (OfGuard c) = omega arith
child_fewer e (OfDefinition b) = omega arith
child_fewer e (OfBody a) = omega arith
child_fewer e (AddLeft b) = omega arith
child_fewer e (AddRight a) = omega arith
child_fewer e (SubLeft b) = omega arith
child_fewer e (SubRight a) = omega arith
child_fewer e (MulLeft b) = omega arith
child_fewer e (MulRight a) = omega arith
child_fewer e (ConcatLeft b) = omega arith
child_fewer e (ConcatRight a) = omega arith
child_fewer e OfFlatten = omega arith
child_fewer e (OfSplit k) = omega arith
child_fewer e OfTranspose = omega arith
child_fewer e (OfTruncL n) = omega arith
child_fewer e (OfTruncR n) = omega arith
child_fewer e (OfPadL n) = omega arith
child_fewer e (OfPadR n) = omega arith

-- as many nodes as stand on a way are in the whole, beside those of what stands at its end
pub way_fewer : (e : Term) (fs : List Frame) → length fs + node_count e ≤ node_count (refilled fs e)
way_fewer e [] = omega arith
way_fewer e (f ∷ fs) = let h = way_fewer e fs in let k = child_fewer (refilled fs e) f in omega (arith, h, k)

under_many : (ds : List Definition) → length (under_index ds) ≡ length ds
under_many [] = refl
under_many (d ∷ ds) = ap suc (under_many ds)

below_many : (inputs : List Extents) (f : Frame) (z : Around) → length z.definitions ≡ length z.lets
    → length (below inputs f z).definitions ≡ length (below inputs f z).lets
below_many inputs (OfGen n) z h = under_many z.definitions ∙ h
below_many inputs (OfSum n) z h = under_many z.definitions ∙ h
below_many inputs (OfBody a) z h = ap suc h
below_many inputs _ z h = h

-- as many definitions as lets
pub end_many : (inputs : List Extents) (fs : List Frame) (z : Around) → length z.definitions ≡ length z.lets
    → length (at_end inputs fs z).definitions ≡ length (at_end inputs fs z).lets
end_many inputs [] z h = h
end_many inputs (f ∷ fs) z h = end_many inputs fs (below inputs f z) (below_many inputs f z h)

one_more : {A : Type 0} (xs : List A) (x : A) → length (xs ++ x ∷ []) ≡ suc (length xs)
one_more [] x = refl
one_more (y ∷ xs) x = ap suc (one_more xs x)

-- one node on a way adds one fact, or one let, or nothing
below_path : (inputs : List Extents) (f : Frame) (z : Around) → length (below inputs f z).path ≤ suc (length z.path)
below_path inputs (OfGen n) z = let h = one_more z.path (Below n) in omega (arith, h)
below_path inputs (OfSum n) z = let h = one_more z.path (Below n) in omega (arith, h)
below_path inputs (OfGuard c) z = let h = one_more z.path (Holds c) in omega (arith, h)
below_path inputs _ z = omega arith

below_lets : (inputs : List Extents) (f : Frame) (z : Around) → length (below inputs f z).lets ≤ suc (length z.lets)
below_lets inputs (OfBody a) z = omega arith
below_lets inputs _ z = omega arith

pub end_path : (inputs : List Extents) (fs : List Frame) (z : Around) → length (at_end inputs fs z).path ≤ length z.path + length fs
end_path inputs [] z = omega arith
end_path inputs (f ∷ fs) z = let h = end_path inputs fs (below inputs f z) in let k = below_path inputs f z in omega (arith, h, k)

pub end_lets : (inputs : List Extents) (fs : List Frame) (z : Around) → length (at_end inputs fs z).lets ≤ length z.lets + length fs
end_lets inputs [] z = omega arith
end_lets inputs (f ∷ fs) z = let h = end_lets inputs fs (below inputs f z) in let k = below_lets inputs f z in omega (arith, h, k)

-- the moved definitions stand for different lets
pub moved_below : (q k : ℕ) (ds : List Definition) → q + length ds ≤ k → Each (λ b. b.var < k) (moved_lets q ds)
moved_below q k [] h = tt
moved_below q k (d ∷ ds) h = (omega (arith, h), moved_below (suc q) k ds (omega (arith, h)))

moved_above : (v q : ℕ) (ds : List Definition) → v < q → Each (λ c. c.var ≢ v) (moved_lets q ds)
moved_above v q [] h = tt
moved_above v q (d ∷ ds) h = ((λ e. absurd (omega (arith, h, e))), moved_above v (suc q) ds (omega (arith, h)))

pub moved_apart : (q : ℕ) (ds : List Definition) → AllApart (moved_lets q ds)
moved_apart q [] = tt
moved_apart q (d ∷ ds) = (moved_above q (suc q) ds (omega arith), moved_apart (suc q) ds)

-- a term is less deep than it has nodes
pub depth_nodes : (e : Term) → suc (node_depth e) ≤ node_count e
depth_nodes (Lit y) = omega arith
depth_nodes (TVar q) = omega arith
depth_nodes (WordOf x) = omega arith
depth_nodes (index e x) = let h = depth_nodes e in omega (arith, h)
depth_nodes (gen n e) = let h = depth_nodes e in omega (arith, h)
depth_nodes (sum n e) = let h = depth_nodes e in omega (arith, h)
depth_nodes (guard c e) = let h = depth_nodes e in omega (arith, h)
depth_nodes (flatten e) = let h = depth_nodes e in omega (arith, h)
depth_nodes (split k e) = let h = depth_nodes e in omega (arith, h)
depth_nodes (transpose e) = let h = depth_nodes e in omega (arith, h)
depth_nodes (trunc_l n e) = let h = depth_nodes e in omega (arith, h)
depth_nodes (trunc_r n e) = let h = depth_nodes e in omega (arith, h)
depth_nodes (pad_l n e) = let h = depth_nodes e in omega (arith, h)
depth_nodes (pad_r n e) = let h = depth_nodes e in omega (arith, h)
depth_nodes (let_in a b) = let h = depth_nodes a in let k = depth_nodes b in grind (arith, h, k)
depth_nodes (add a b) = let h = depth_nodes a in let k = depth_nodes b in grind (arith, h, k)
depth_nodes (sub a b) = let h = depth_nodes a in let k = depth_nodes b in grind (arith, h, k)
depth_nodes (mul a b) = let h = depth_nodes a in let k = depth_nodes b in grind (arith, h, k)
depth_nodes (concat a b) = let h = depth_nodes a in let k = depth_nodes b in grind (arith, h, k)

-- a form in scope may be put for the variable of a gen or sum
pub one_put : (sizes vars tensors : ℕ) (x : Items) (b : Term) → vars ≤ 2147483647 → node_count b ≤ 20000 → items_scoped sizes vars x ≡ true
    → term_scoped sizes b (vars + 1) tensors ≡ true
    → (node_depth b ≤ 2147483647) × IsWithinReach (put_index_reach (x ∷ []) 0) b
one_put sizes vars tensors x b few small h k =
    let d = depth_nodes b in
    (omega (arith, d, small), put_index_within (x ∷ []) 0 vars sizes (vars + 1) tensors b forms (omega (arith, d, small, few)) (omega (arith, d, small, few)) k)
  where
    forms : (j : ℕ) → j < 1 → items_scoped sizes vars (given_form (x ∷ []) j) ≡ true
    forms zero l = h
    forms (suc j) l = absurd (omega (arith, l))

-- a term in scope may be moved under more variables
pub moved_reach : (a b sizes vars tensors : ℕ) (e : Term) → a ≤ 20000 → b ≤ 20000 → vars ≤ 2147523647 → tensors ≤ 2147523647 → node_count e ≤ 20000
    → term_scoped sizes e vars tensors ≡ true
    → (node_depth e ≤ 2147483647) × IsWithinReach (shift_reach a b) e
moved_reach a b sizes vars tensors e f g u t small h =
    let d = depth_nodes e in
    (omega (arith, d, small), shift_within a b sizes vars tensors e (omega (arith, d, small, f, u)) (omega (arith, d, small, g, t)) h)

-- no more binders than facts
pub binders_few : (ps : List PathFact) → binders ps ≤ length ps
binders_few [] = omega arith
binders_few (Below n ∷ ps) = let h = binders_few ps in omega (arith, h)
binders_few (Holds c ∷ ps) = let h = binders_few ps in omega (arith, h)

length_both : (xs ys : List Extents) → length (xs ++ ys) ≡ length xs + length ys
length_both [] ys = omega arith
length_both (x ∷ xs) ys = let h = length_both xs ys in omega (arith, h)

-- the variables of a focus, and its tensor variables
pub vars_few : (f : Focus) → IsFew f → binders f.facts.path ≤ 2147483647
vars_few f h = let k = binders_few f.facts.path in omega (arith, k, h.path)

pub given_few : (f : Focus) → IsFew f → length (given f.shapes) ≤ 2147503647
given_few f h = let k = length_both f.shapes.lets f.shapes.inputs in omega (arith, k, h.lets, h.inputs)
