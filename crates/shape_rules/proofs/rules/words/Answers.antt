use Rattle.std.proofs.Common.{rules}
use Rattle.term_tree.specs.Shape.{of_words, with_child}
use Rattle.shape_rules.specs.Faults.{IsTrouble}
use Rattle.shape_rules.proofs.AnswerLaws.{none_ruled}
use Rattle.shape_rules.proofs.rules.words.Goals as goal

pub returns-in_err-first-clause-shape : goal.returns-in_err-first-clause-shape
returns-in_err-first-clause-shape c a b h =
    let f : IsTrouble (with_child 0 a (λ ns. with_child 1 b (of_words ns))) c.in_err-first.field-0.0 =
    none_ruled a b of_words c.args.operands c.in_err-first.field-0.0 (c.in_err-first.was {u = tt}) h in search rules
