use Rattle.std.proofs.Common.{◌≡◌, ◌++◌, drop, true}
use Rattle.fact_list.specs.Facts.{binders, moves_fit, path_facts}
use Rattle.fact_list.proofs.declared.path_facts.Given as goal

abbrev pub invariant-loop-fact : goal.invariant-loop-fact
invariant-loop-fact l = record {
  after : l.after ≡ binders (drop l.fact-index l.path);
  fit : moves_fit (drop l.fact-index l.path) ≡ true;
  rest : l.list ++ path_facts (drop l.fact-index l.path) ≡ l.fn.list ++ path_facts l.path;
}
