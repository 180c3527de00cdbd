-- Numbers of nodes, by which the recursive functions end.
use Rattle.std.specs.Prelude.{ℕ, ◌+◌}
use Rattle.schedule_script.specs.declared.tree.IxTree.{IxTree}
use Rattle.schedule_script.specs.declared.tree.IxTree.TheOpen.{IxTree-F}
use Rattle.schedule_script.specs.declared.tree.IxTree.TheFolds.{fold-IxTree}

abbrev pub index_nodes_step : IxTree-F ℕ → ℕ
index_nodes_step (IxTree-F.Num n) = 1
index_nodes_step (IxTree-F.Name t) = 1
index_nodes_step (IxTree-F.Neg a) = a + 1
index_nodes_step (IxTree-F.Add a b) = a + b + 1
index_nodes_step (IxTree-F.Sub a b) = a + b + 1
index_nodes_step (IxTree-F.Mul a b) = a + b + 1
index_nodes_step (IxTree-F.Div a k) = a + 1
index_nodes_step (IxTree-F.Rem a k) = a + 1

-- the nodes of an index
abbrev pub index_nodes : IxTree → ℕ
index_nodes = fold-IxTree ℕ index_nodes_step
