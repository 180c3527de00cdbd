use Rattle.path_focus.proofs.FocusMeaning.{facts_listed}
use Rattle.focus_rows.proofs.tests.are_facts.Goals as goal

pub list-requires-clause-fit : goal.list-requires-clause-fit
list-requires-clause-fit c = (facts_listed c.args.focus.now c.requires).2
