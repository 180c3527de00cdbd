-- Numbers of nodes of a module with another term at a place.
use Rattle.std.proofs.Common.{◌≡◌, ℕ, zero, suc, ◌+◌, ◌-◌, ◌≤◌, true, List, [], ◌∷◌, length, ap, arith, Some, Bool, nat_le}
use Rattle.std.specs.Prelude.{All, ◌&&◌, min, slice_get}
use Rattle.path_focus.specs.Focus.{with_term}
use Rattle.path_focus.specs.Frames.{Frame, OfIndex, OfGen, OfSum, OfGuard, OfDefinition, OfBody, AddLeft, AddRight, SubLeft, SubRight, MulLeft, MulRight}
use Rattle.path_focus.specs.Frames.{ConcatLeft, ConcatRight, OfFlatten, OfSplit, OfTranspose, OfTruncL, OfTruncR, OfPadL, OfPadR, filled, refilled}
use Rattle.path_focus.proofs.CountLaws.{depth_nodes, way_fewer}
use Rattle.schedule_run.specs.Verdict.{are_shallow}
use Rattle.source_grammar.specs.Source.{AreShallow, nodes}
use Rattle.term_tree.specs.Counts.{node_count, node_depth}
use Rattle.term_tree.specs.declared.term.OutputDecl.{OutputDecl}
use Rattle.term_tree.specs.declared.term.Term.{Term}

pub saturated : (total n rest most : ℕ) → min (min (total + min n most) most + rest) most ≡ min (total + (n + rest)) most
saturated total n rest most = omega arith

-- another child adds as many nodes to a node as it has more than the old one
filled_nodes : (f : Frame) (d e : Term) (i j : ℕ) → node_count d + j ≡ node_count e + i → node_count (filled f d) + j ≡ node_count (filled f e) + i
filled_nodes (OfIndex x) d e i j h = omega (arith, h)
filled_nodes (OfGen n) d e i j h = omega (arith, h)
filled_nodes (OfSum n) d e i j h = omega (arith, h)
filled_nodes (OfGuard c) d e i j h = omega (arith, h)
filled_nodes (OfDefinition b) d e i j h = omega (arith, h)
filled_nodes (OfBody a) d e i j h = omega (arith, h)
filled_nodes (AddLeft b) d e i j h = omega (arith, h)
filled_nodes (AddRight a) d e i j h = omega (arith, h)
filled_nodes (SubLeft b) d e i j h = omega (arith, h)
filled_nodes (SubRight a) d e i j h = omega (arith, h)
filled_nodes (MulLeft b) d e i j h = omega (arith, h)
filled_nodes (MulRight a) d e i j h = omega (arith, h)
filled_nodes (ConcatLeft b) d e i j h = omega (arith, h)
filled_nodes (ConcatRight a) d e i j h = omega (arith, h)
filled_nodes OfFlatten d e i j h = omega (arith, h)
filled_nodes (OfSplit k) d e i j h = omega (arith, h)
filled_nodes OfTranspose d e i j h = omega (arith, h)
filled_nodes (OfTruncL n) d e i j h = omega (arith, h)
filled_nodes (OfTruncR n) d e i j h = omega (arith, h)
filled_nodes (OfPadL n) d e i j h = omega (arith, h)
filled_nodes (OfPadR n) d e i j h = omega (arith, h)

-- and so on a way
refilled_nodes : (fs : List Frame) (d e : Term) → node_count (refilled fs d) + node_count e ≡ node_count (refilled fs e) + node_count d
refilled_nodes [] d e = omega arith
refilled_nodes (f ∷ fs) d e = filled_nodes f (refilled fs d) (refilled fs e) (node_count d) (node_count e) (refilled_nodes fs d e)

with_nodes : (os : List OutputDecl) (k : ℕ) (o : OutputDecl) (e : Term) → slice_get os k ≡ Some o
    → nodes (with_term os k e) + node_count o.term ≡ nodes os + node_count e
with_nodes [] k o e h = absurd (cc)
with_nodes (x ∷ os) zero o e h = let same : x ≡ o = cc in omega (arith, ap (λ (o : OutputDecl). node_count o.term) same)
with_nodes (x ∷ os) (suc k) o e h = omega (arith, with_nodes os k o e h)

-- an output has at most as many nodes as all
one_of : (os : List OutputDecl) (k : ℕ) (o : OutputDecl) → slice_get os k ≡ Some o → node_count o.term ≤ nodes os
one_of [] k o h = absurd (cc)
one_of (x ∷ os) zero o h = let same : x ≡ o = cc in omega (arith, ap (λ (o : OutputDecl). node_count o.term) same)
one_of (x ∷ os) (suc k) o h = omega (arith, one_of os k o h)

-- what stands at the end of a way has at most as many nodes as the module
pub end_fewer : (os : List OutputDecl) (k : ℕ) (o : OutputDecl) (fs : List Frame) (e : Term) → slice_get os k ≡ Some o → refilled fs e ≡ o.term
    → node_count e ≤ nodes os
end_fewer os k o fs e h r = omega (arith, one_of os k o h, way_fewer e fs, ap node_count r)

-- with another term there the module has the nodes outside and those of the term
pub nodes_with : (os : List OutputDecl) (k : ℕ) (o : OutputDecl) (fs : List Frame) (d e : Term) → slice_get os k ≡ Some o → refilled fs e ≡ o.term
    → nodes (with_term os k (refilled fs d)) ≡ (nodes os - node_count e) + node_count d
nodes_with os k o fs d e h r = omega
    (arith, with_nodes os k o (refilled fs d) h, refilled_nodes fs d e, ap node_count r, one_of os k o h, way_fewer e fs)

-- each output has few nodes, and there are few outputs
pub each_few : (os : List OutputDecl) (n : ℕ) → nodes os ≤ n → All (λ o. node_count o.term ≤ n) os
each_few [] n h k d q = absurd (omega (arith, q))
each_few (o ∷ os) n h zero d q = omega (arith, h)
each_few (o ∷ os) n h (suc k) d q = each_few os n (omega (arith, h)) k d (omega (arith, q))

pub fewer_outputs : (os : List OutputDecl) → length os ≤ nodes os
fewer_outputs [] = omega arith
fewer_outputs (o ∷ os) = omega (arith, fewer_outputs os, depth_nodes o.term)

within_depth : (n : ℕ) (b : Bool) → nat_le n 200 && b ≡ true → (n ≤ 200) × (b ≡ true)
within_depth n b h = grind arith

-- that no term is too deep, as a fact
pub shallow_of : (os : List OutputDecl) → are_shallow os ≡ true → AreShallow os
shallow_of [] h = tt
shallow_of (o ∷ os) h = let p = within_depth (node_depth o.term) (are_shallow os) h in (p.0, shallow_of os p.1)
