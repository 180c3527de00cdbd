use Rattle.std.proofs.Common.{rules}
use Rattle.term_tree.specs.Shape.{with_child}
use Rattle.shape_rules.specs.Faults.{IsTrouble}
use Rattle.shape_rules.specs.Rules.{row_shape}
use Rattle.shape_rules.proofs.rules.row.Goals as goal

pub returns-in_err-rest-clause-shape : goal.returns-in_err-rest-clause-shape
returns-in_err-rest-clause-shape c shape h =
    let f : IsTrouble (with_child 0 shape row_shape) c.in_err-rest.field-0.0 = c.in_err-rest.ensures.err shape row_shape h in search rules
