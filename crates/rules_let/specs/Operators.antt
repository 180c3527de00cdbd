-- Operators over which a let may be moved, and their children.
use Rattle.std.specs.Prelude.{ℕ, ◌≤◌, Option, Some, None, Bool, true, false}
use Rattle.binders.specs.Answers.{IsWithinReach}
use Rattle.binders.specs.PlainMaps.{shift_reach}
use Rattle.path_focus.specs.Frames.{Frame, Opened, AddLeft, AddRight, SubLeft, SubRight, MulLeft, MulRight, ConcatLeft, ConcatRight}
use Rattle.path_focus.specs.Making.{under_let}
use Rattle.path_focus.specs.Outcome.{Meant, Unfit}
use Rattle.path_focus.specs.Trail.{first_of, second_of}
use Rattle.term_tree.specs.Counts.{node_count, node_depth}
use Rattle.term_tree.specs.Syntax.{let_in}
use Rattle.term_tree.specs.declared.term.Term.{Term, out-Term}
use Rattle.term_tree.specs.declared.term.Term.TheOpen.{Term-F}
use Rattle.term_tree.specs.declared.term.Term.TheVariants as variant

-- the operators of words and of tensors, by one level of a term
abbrev pub operator_level : Term-F Term → Bool
operator_level (Term-F.Add a b) = true
operator_level (Term-F.Sub a b) = true
operator_level (Term-F.Mul a b) = true
operator_level (Term-F.Concat a b) = true
operator_level (Term-F.Flatten e) = true
operator_level (Term-F.Split k e) = true
operator_level (Term-F.Transpose e) = true
operator_level (Term-F.TruncL n e) = true
operator_level (Term-F.TruncR n e) = true
operator_level (Term-F.PadL n e) = true
operator_level (Term-F.PadR n e) = true
operator_level _ = false

abbrev pub is_operator : Term → Bool
is_operator e = operator_level (out-Term e)

-- an operator without one child under one more let
abbrev pub under_one_more : Frame → Frame
under_one_more (AddLeft b) = AddLeft (under_let b)
under_one_more (AddRight a) = AddRight (under_let a)
under_one_more (SubLeft b) = SubLeft (under_let b)
under_one_more (SubRight a) = SubRight (under_let a)
under_one_more (MulLeft b) = MulLeft (under_let b)
under_one_more (MulRight a) = MulRight (under_let a)
under_one_more (ConcatLeft b) = ConcatLeft (under_let b)
under_one_more (ConcatRight a) = ConcatRight (under_let a)
under_one_more g = g

-- what is made of a child and the node around it, where there is such a child
abbrev pub with_opened : Option Opened → (Frame → Term → Meant) → Meant
with_opened (Some o) f = f o.frame o.child
with_opened None f = Unfit

-- what is made of the parts of a let, where it is one
abbrev pub with_let : Term → (Term → Term → Meant) → Meant
with_let (let_in a b) f = f a b
with_let _ f = Unfit

-- one level of an operator under one more let, with another child of this number
abbrev pub operator_around : Term-F Term → ℕ → Term → Term
operator_around (Term-F.Add a b) k new = variant.Add (first_of k new (under_let a)) (second_of k new (under_let b))
operator_around (Term-F.Sub a b) k new = variant.Sub (first_of k new (under_let a)) (second_of k new (under_let b))
operator_around (Term-F.Mul a b) k new = variant.Mul (first_of k new (under_let a)) (second_of k new (under_let b))
operator_around (Term-F.Concat a b) k new = variant.Concat (first_of k new (under_let a)) (second_of k new (under_let b))
operator_around (Term-F.Flatten e) k new = variant.Flatten new
operator_around (Term-F.Split m e) k new = variant.Split m new
operator_around (Term-F.Transpose e) k new = variant.Transpose new
operator_around (Term-F.TruncL n e) k new = variant.TruncL n new
operator_around (Term-F.TruncR n e) k new = variant.TruncR n new
operator_around (Term-F.PadL n e) k new = variant.PadL n new
operator_around (Term-F.PadR n e) k new = variant.PadR n new
operator_around _ k new = new

-- a term that may be moved under one more let
pub record MayMove (a : Term) : Type 0 where
  pub deep : node_depth a ≤ 2147483647
  pub small : node_count a ≤ 20000
  pub within : IsWithinReach (shift_reach 0 1) a

-- so both children of an operator of two
abbrev pub BothMayMove : Term-F Term → Type 0
BothMayMove (Term-F.Add a b) = MayMove a × MayMove b
BothMayMove (Term-F.Sub a b) = MayMove a × MayMove b
BothMayMove (Term-F.Mul a b) = MayMove a × MayMove b
BothMayMove (Term-F.Concat a b) = MayMove a × MayMove b
BothMayMove _ = Unit {0}
