use Rattle.std.proofs.Common.{◌≡◌, drop}
use Rattle.fact_list.specs.Facts.{binders, extent_at}
use Rattle.fact_list.proofs.limits.extent_at.Given as goal

abbrev pub invariant-loop-fact : goal.invariant-loop-fact
invariant-loop-fact l = record {
  after : l.after ≡ binders (drop l.fact-index l.path);
  rest : extent_at (drop l.fact-index l.path) l.var ≡ extent_at l.path l.var;
}
