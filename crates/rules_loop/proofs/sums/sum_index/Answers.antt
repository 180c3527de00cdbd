use Rattle.std.proofs.Common.{sym, ◌∙◌}
use Rattle.rules_loop.proofs.ReachLaws.{row_fits}
use Rattle.rules_loop.proofs.sums.sum_index.Goals as goal

pub raised_form-requires : goal.raised_form-requires
raised_form-requires c = row_fits c.args.focus.now c.requires c.in-Some.array.now c.in-Some.x.now (sym c.get.ensures ∙ c.in-Some.ensures)
