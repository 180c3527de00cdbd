-- Numbers of nodes, by which the recursive functions end.
use Rattle.std.specs.Prelude.{ℕ, ◌+◌}
use Rattle.loop_lang.specs.declared.index.Iexp.{Iexp}
use Rattle.loop_lang.specs.declared.index.Iexp.TheOpen.{Iexp-F}
use Rattle.loop_lang.specs.declared.index.Iexp.TheFolds.{fold-Iexp}

abbrev pub index_nodes_step : Iexp-F ℕ → ℕ
index_nodes_step (Iexp-F.Lit n) = 1
index_nodes_step (Iexp-F.Size k) = 1
index_nodes_step (Iexp-F.Loop d) = 1
index_nodes_step (Iexp-F.Add a b) = a + b + 1
index_nodes_step (Iexp-F.Sub a b) = a + b + 1
index_nodes_step (Iexp-F.Mul a b) = a + b + 1
index_nodes_step (Iexp-F.Div a k) = a + 1
index_nodes_step (Iexp-F.Rem a k) = a + 1
index_nodes_step (Iexp-F.Larger a b) = a + b + 1

-- the nodes of an index
abbrev pub index_nodes : Iexp → ℕ
index_nodes = fold-Iexp ℕ index_nodes_step
