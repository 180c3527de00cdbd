use Rattle.std.proofs.Common.{rules, ◌≡◌, length, true, arith}
use Rattle.term_tree.specs.Shape.{of_concat, same_forms, with_child}
use Rattle.shape_rules.specs.Faults.{IsTrouble}
use Rattle.shape_rules.proofs.AnswerLaws.{both_ruled, concat_answer, none_ruled}
use Rattle.shape_rules.proofs.rules.followed.Goals as goal

pub returns-in_err-first-clause-shape : goal.returns-in_err-first-clause-shape
returns-in_err-first-clause-shape c a b h =
    let f : IsTrouble (with_child 0 a (λ ns. with_child 1 b (of_concat ns))) c.in_err-first.field-0.0 =
    none_ruled a b of_concat c.args.operands c.in_err-first.field-0.0 (c.in_err-first.was {u = tt}) h in search rules

pub returns-clause-shape : goal.returns-clause-shape
returns-clause-shape c a b h =
    let n = c.in-Some.n in
    let m = c.in-Some-take_first.m in
    let e : length c.take_first.new.items ≡ length c.take_first-2.new.items = omega arith in
    let g : same_forms c.take_first.new.items c.take_first-2.new.items ≡ true = cc in
    both_ruled a b of_concat c.args.operands c.in_ok-first.field-0 _ _ c.with_first.result (c.in_ok-first.was {u = tt}) c.in-Some.ensures
    c.in-Some-take_first.ensures h
    (concat_answer n m _ _ c.with_first.result e g (c.with_first.ensures _ c.add.ensures.form))
