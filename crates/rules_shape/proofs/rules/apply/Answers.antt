use Rattle.std.proofs.Common.{rules, ◌≡◌, true}
use Rattle.affine_index.specs.Normal.{is_normal}
use Rattle.path_focus.specs.Outcome.{IsOutcome}
use Rattle.term_tree.specs.Limits.{every_form}
use Rattle.rules_shape.specs.Rules.{rule_of}
use Rattle.rules_shape.proofs.ApplyLaws.{rule_keeps, rule_listed}
use Rattle.rules_shape.proofs.rules.apply.Goals as goal

pub finish-requires : goal.finish-requires
finish-requires c =
    let o : IsOutcome (rule_of c.args.focus.now c.args.rule c.args.args.now) c.in-Ok.outcome = search rules in
    rule_listed c.args.focus.now c.args.rule c.args.args.now c.in-Ok.outcome c.requires o

pub returns-in-Ok-clause-keeps : goal.returns-in-Ok-clause-keeps
returns-in-Ok-clause-keeps c =
    let o : IsOutcome (rule_of c.args.focus.now c.args.rule c.args.args.now) c.in-Ok.outcome = search rules in
    let t : every_form is_normal c.args.focus.now.term ≡ true = search rules in
    c.finish.ensures.keeps (rule_of c.args.focus.now c.args.rule c.args.args.now) o c.args.focus.now
    (rule_keeps c.args.focus.now c.args.rule c.args.args.now c.requires t c.shapes_told.ensures)
