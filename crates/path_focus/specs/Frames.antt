-- The nodes on the way to a place: each a node with one child left out.
use Rattle.std.specs.Prelude.{ℕ, List, [], ◌∷◌, Option, Some, None, ◌==◌, if◌then◌else◌}
use Rattle.affine_index.specs.declared.aff.Aff.{Aff}
use Rattle.affine_index.specs.declared.cond.Cond.{Cond}
use Rattle.std.specs.Option.{option_and_then, option_map}
use Rattle.term_tree.specs.declared.term.Term.{Term, out-Term}
use Rattle.term_tree.specs.declared.term.Term.TheOpen.{Term-F}
use Rattle.term_tree.specs.Syntax.{index, gen, sum, guard, let_in, add, sub, mul, concat, flatten, split, transpose, trunc_l, trunc_r, pad_l, pad_r}

-- a node without one of its children
pub data Frame : Type 0 where
  OfIndex : Aff → Frame
  OfGen : Aff → Frame
  OfSum : Aff → Frame
  OfGuard : Cond → Frame
  OfDefinition : Term → Frame
  OfBody : Term → Frame
  AddLeft : Term → Frame
  AddRight : Term → Frame
  SubLeft : Term → Frame
  SubRight : Term → Frame
  MulLeft : Term → Frame
  MulRight : Term → Frame
  ConcatLeft : Term → Frame
  ConcatRight : Term → Frame
  OfFlatten : Frame
  OfSplit : ℕ → Frame
  OfTranspose : Frame
  OfTruncL : Aff → Frame
  OfTruncR : Aff → Frame
  OfPadL : Aff → Frame
  OfPadR : Aff → Frame

-- the node with a term as that child
abbrev pub filled : Frame → Term → Term
filled (OfIndex x) e = index e x
filled (OfGen n) e = gen n e
filled (OfSum n) e = sum n e
filled (OfGuard c) e = guard c e
filled (OfDefinition b) e = let_in e b
filled (OfBody a) e = let_in a e
filled (AddLeft b) e = add e b
filled (AddRight a) e = add a e
filled (SubLeft b) e = sub e b
filled (SubRight a) e = sub a e
filled (MulLeft b) e = mul e b
filled (MulRight a) e = mul a e
filled (ConcatLeft b) e = concat e b
filled (ConcatRight a) e = concat a e
filled OfFlatten e = flatten e
filled (OfSplit k) e = split k e
filled OfTranspose e = transpose e
filled (OfTruncL n) e = trunc_l n e
filled (OfTruncR n) e = trunc_r n e
filled (OfPadL n) e = pad_l n e
filled (OfPadR n) e = pad_r n e

-- a node without one of its children, and that child
pub record Opened : Type 0 where
  pub frame : Frame
  pub child : Term

-- the one child has number 0
abbrev pub open_only : Frame → Term → ℕ → Option Opened
open_only f e k = if k == 0 then Some (record { frame = f; child = e }) else None

-- the first of two has number 0, the second 1
abbrev pub open_either : Frame → Term → Frame → Term → ℕ → Option Opened
open_either f a g b k = if k == 0 then Some (record { frame = f; child = a }) else (if k == 1 then Some (record { frame = g; child = b }) else None)

-- one level of a term opened at the child of this number; a let has its definition as child 0 and its body as child 1
abbrev pub opened_level : Term-F Term → ℕ → Option Opened
opened_level (Term-F.Lit w) k = None
opened_level (Term-F.TVar q) k = None
opened_level (Term-F.WordOf x) k = None
opened_level (Term-F.Index e x) k = open_only (OfIndex x) e k
opened_level (Term-F.Gen n e) k = open_only (OfGen n) e k
opened_level (Term-F.Sum n e) k = open_only (OfSum n) e k
opened_level (Term-F.Guard c e) k = open_only (OfGuard c) e k
opened_level (Term-F.Flatten e) k = open_only OfFlatten e k
opened_level (Term-F.Split m e) k = open_only (OfSplit m) e k
opened_level (Term-F.Transpose e) k = open_only OfTranspose e k
opened_level (Term-F.TruncL n e) k = open_only (OfTruncL n) e k
opened_level (Term-F.TruncR n e) k = open_only (OfTruncR n) e k
opened_level (Term-F.PadL n e) k = open_only (OfPadL n) e k
opened_level (Term-F.PadR n e) k = open_only (OfPadR n) e k
opened_level (Term-F.Let a b) k = open_either (OfDefinition b) a (OfBody a) b k
opened_level (Term-F.Add a b) k = open_either (AddLeft b) a (AddRight a) b k
opened_level (Term-F.Sub a b) k = open_either (SubLeft b) a (SubRight a) b k
opened_level (Term-F.Mul a b) k = open_either (MulLeft b) a (MulRight a) b k
opened_level (Term-F.Concat a b) k = open_either (ConcatLeft b) a (ConcatRight a) b k

-- a node opened at a child
abbrev pub opened : Term → ℕ → Option Opened
opened e k = opened_level (out-Term e) k

-- the nodes on the way to a place, from outside, and what stands there
pub record Way : Type 0 where
  pub frames : List Frame
  pub term : Term

abbrev pub behind : Frame → Way → Way
behind f w = record { frames = f ∷ w.frames; term = w.term }

-- the way along the numbers of children
abbrev pub way : Term → List ℕ → Option Way
way e [] = Some (record { frames = []; term = e })
way e (k ∷ ks) = option_and_then (λ o. option_map (behind o.frame) (way o.child ks)) (opened e k)

-- the term with another at the end of a way
abbrev pub refilled : List Frame → Term → Term
refilled [] e = e
refilled (f ∷ fs) e = filled f (refilled fs e)

-- the term with another at a place
abbrev pub plugged : Term → List ℕ → Term → Option Term
plugged e ks new = option_map (λ w. refilled w.frames new) (way e ks)
