use Rattle.std.proofs.Common.{◌≡◌, ◌≢◌, Some, None, Ok, Err, sym, ap, ◌∙◌, rules}
use Rattle.text_tokens.specs.Words.{next}
use Rattle.reader_laws.specs.declared.fault.ReadError.TheVariants.{Memory}
use Rattle.reader_laws.specs.Steps.{kind}
use Rattle.schedule_script.specs.Index.{index}
use Rattle.schedule_script.specs.Arguments.{relation, condition_after, argument}
use Rattle.schedule_script.proofs.Parts.{reads_err, argument_index, argument_condition, argument_over, argument_fell}
use Rattle.schedule_script.proofs.arguments.argument.Goals as goal

pub returns-in_default : goal.returns-in_default
returns-in_default c =
    let first : index c.args.levels c.args.tokens.now ≡ Ok (c.in_ok-left.left, c.index.new.tokens) = search rules in
    let none : relation (kind c.index.new.tokens) ≡ None = search rules in
    argument_index c.args.levels c.args.tokens.now c.index.new.tokens c.in_ok-left.left first none

pub returns-in_err-condition : goal.returns-in_err-condition
returns-in_err-condition c =
    let first : index c.args.levels c.args.tokens.now ≡ Ok (c.in_ok-left.left, c.index.new.tokens) = search rules in
    let some : relation (kind c.index.new.tokens) ≡ Some c.in-Some.rel = search rules in
    let error = c.in_err-condition.field-0.0 in
    let reads : error ≢ Memory → condition_after c.args.levels c.in_ok-left.left c.in-Some.rel (next c.index.new.tokens) ≡ Err error = search rules in
    let is : c.from_residual-in_err-condition.result ≡ Err error = search rules in
    reads_err (argument c.args.levels c.args.tokens.now) c.from_residual-in_err-condition.result error c.condition_after.new.tokens is
    (λ not. argument_fell c.args.levels c.args.tokens.now c.index.new.tokens c.in_ok-left.left c.in-Some.rel error first some (reads not))

pub returns-in-None : goal.returns-in-None
returns-in-None c =
    let first : index c.args.levels c.args.tokens.now ≡ Ok (c.in_ok-left.left, c.index.new.tokens) = search rules in
    let some : relation (kind c.index.new.tokens) ≡ Some c.in-Some.rel = search rules in
    let reads : condition_after c.args.levels c.in_ok-left.left c.in-Some.rel (next c.index.new.tokens) ≡ Ok
    (c.in_ok-condition.condition, c.condition_after.new.tokens) = search rules in
    let none : relation (kind c.condition_after.new.tokens) ≡ None = search rules in
    argument_condition c.args.levels c.args.tokens.now c.index.new.tokens c.condition_after.new.tokens c.in_ok-left.left c.in-Some.rel
    c.in_ok-condition.condition first some reads none

pub returns-in-Some-relation : goal.returns-in-Some-relation
returns-in-Some-relation c = λ _.
    let first : index c.args.levels c.args.tokens.now ≡ Ok (c.in_ok-left.left, c.index.new.tokens) = search rules in
    let some : relation (kind c.index.new.tokens) ≡ Some c.in-Some.rel = search rules in
    let reads : condition_after c.args.levels c.in_ok-left.left c.in-Some.rel (next c.index.new.tokens) ≡ Ok
    (c.in_ok-condition.condition, c.condition_after.new.tokens) = search rules in
    let more : relation (kind c.condition_after.new.tokens) ≡ Some c.in-Some-relation.field-0 = search rules in
    argument_over c.args.levels c.args.tokens.now c.index.new.tokens c.condition_after.new.tokens c.in_ok-left.left c.in-Some.rel c.in-Some-relation.field-0
    c.in_ok-condition.condition first some reads more
    ∙ ap (λ e. Err e) (sym c.refuse.ensures)
