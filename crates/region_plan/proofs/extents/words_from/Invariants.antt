use Rattle.std.proofs.Common.{◌≡◌, true, drop}
use Rattle.shape_rules.specs.Scopes.{each_free}
use Rattle.region_plan.specs.Needed.{words_from}
use Rattle.region_plan.proofs.extents.words_from.Given as goal

abbrev pub invariant-loop-extent : goal.invariant-loop-extent
invariant-loop-extent l = record {
  free : each_free (drop l.extent-index l.extents) ≡ true;
  rest : words_from l.words (drop l.extent-index l.extents) ≡ words_from l.fn.first l.extents;
}
