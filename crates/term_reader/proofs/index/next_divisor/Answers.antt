use Rattle.std.proofs.Common.{rules, ◌≡◌}
use Rattle.source_grammar.specs.declared.operator.Operator.TheVariants as op
use Rattle.term_reader.proofs.CodeLaws.{over_gives, modulo_gives}
use Rattle.term_reader.proofs.index.next_divisor.Goals as goal

pub returns-in-Over : goal.returns-in-Over
returns-in-Over c =
    let over : c.args.operator ≡ op.Over = search rules in
    over_gives c.args.levels c.args.place c.args.left c.args.operator c.args.tokens.now c.divisor.new.tokens c.in_ok-by.by c.divided.result over
    c.in_ok-by.ensures.reads c.divided.ensures

pub returns-in_default : goal.returns-in_default
returns-in_default c =
    let modulo : c.args.operator ≡ op.Modulo = search rules in
    modulo_gives c.args.levels c.args.place c.args.left c.args.operator c.args.tokens.now c.divisor.new.tokens c.in_ok-by.by c.rest.result modulo
    c.in_ok-by.ensures.reads c.rest.ensures
