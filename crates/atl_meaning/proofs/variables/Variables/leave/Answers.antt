use Rattle.std.proofs.Common.{◌∙◌, ap}
use Rattle.atl_meaning.specs.Lists.{rest_of}
use Rattle.atl_meaning.proofs.ListLaws.{rest_of-drop}
use Rattle.atl_meaning.proofs.variables.Variables.leave.Goals as goal

pub returns-then-self-len : goal.returns-then-self-len
returns-then-self-len c = rest_of-drop c.self.inside.start c.self.inside.cells.items ∙ ap rest_of c.self.view_is
