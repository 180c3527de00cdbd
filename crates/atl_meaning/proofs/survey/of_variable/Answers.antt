use Rattle.std.proofs.Common.{◌∙◌, [], sym}
use Rattle.atl_meaning.proofs.ScopeLists.{at-missing}
use Rattle.atl_meaning.proofs.survey.of_variable.Goals as goal

pub returns-in-None : goal.returns-in-None
returns-in-None c = c.new.ensures ∙ sym (at-missing c.args.shapes.now c.args.var [] (sym c.in-None.ensures))
