use Rattle.std.proofs.Common.{◌≡◌, ◌+◌, ◌≤◌, drop}
use Rattle.fact_list.specs.Facts.{binders}
use Rattle.facts_text.proofs.block.binders.Given as goal

abbrev pub invariant-loop-fact : goal.invariant-loop-fact
invariant-loop-fact l = record {
  few : l.count ≤ l.fact-index;
  rest : l.count + binders (drop l.fact-index l.path) ≡ binders l.path;
}
