use Rattle.std.proofs.Common.{sym, ◌∙◌}
use Rattle.rules_guard.proofs.InwardLaws.{cond_fits}
use Rattle.rules_guard.proofs.inward.guard_gen.Goals as goal

pub raised-requires : goal.raised-requires
raised-requires c = cond_fits c.args.focus.now c.requires c.in-Some.cond.now c.in-Some.rows.now (sym c.get.ensures ∙ c.in-Some.ensures)
