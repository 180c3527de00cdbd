use Rattle.std.proofs.Common.{◌≡◌, ◌≤◌, drop}
use Rattle.fact_list.specs.Scoped.{path_scoped}
use Rattle.fact_list.proofs.scoped.path_scoped.Given as goal

abbrev pub invariant-loop-fact : goal.invariant-loop-fact
invariant-loop-fact l = record {
  few : l.depth ≤ l.fact-index;
  rest : path_scoped l.sizes l.depth (drop l.fact-index l.path) ≡ path_scoped l.sizes 0 l.path;
}
