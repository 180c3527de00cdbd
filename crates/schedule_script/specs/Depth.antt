-- How deep index trees are.
use Rattle.std.specs.Prelude.{ℕ, ◌+◌, max, nat_lt, if◌then◌else◌, Result, Ok, Err}
use Rattle.reader_laws.specs.declared.fault.Fault.{Fault}
use Rattle.reader_laws.specs.declared.fault.Fault.TheVariants.{IndexTooLong}
use Rattle.schedule_script.specs.declared.tree.IxTree.{IxTree, Num, Name}
use Rattle.schedule_script.specs.Syntax as tree

-- how deep a tree is; a number and a name have depth 0
abbrev pub tree_depth : IxTree → ℕ
tree_depth (Num n) = 0
tree_depth (Name t) = 0
tree_depth (tree.negation a) = tree_depth a + 1
tree_depth (tree.sum a b) = max (tree_depth a) (tree_depth b) + 1
tree_depth (tree.difference a b) = max (tree_depth a) (tree_depth b) + 1
tree_depth (tree.product a b) = max (tree_depth a) (tree_depth b) + 1
tree_depth (tree.quotient a k) = tree_depth a + 1
tree_depth (tree.remainder a k) = tree_depth a + 1

-- what an operator makes, which is at most 1,000 deep
abbrev pub limited : IxTree → Result IxTree Fault
limited x = if nat_lt 1000 (tree_depth x) then Err IndexTooLong else Ok x
