use Rattle.std.proofs.Common.{rules, ◌≡◌, Some}
use Rattle.c_text.specs.Expression.{OfIndex, Over, join}
use Rattle.loop_lang.specs.declared.index.Iexp.TheVariants as index
use Rattle.c_expression_reader.specs.Values.{divisor_of}
use Rattle.c_expression_reader.proofs.KindLaws.{made_gives, quotient_made}
use Rattle.c_expression_reader.proofs.joins.quotient.Goals as goal

pub returns-in-Some : goal.returns-in-Some
returns-in-Some c =
    let by : divisor_of c.args.right ≡ Some c.in-Some.by = search rules in
    made_gives c.index.result (join Over (OfIndex c.args.left) (OfIndex c.args.right)) c.args.place (OfIndex (index.Div c.args.left c.in-Some.by))
    (quotient_made c.args.left c.args.right c.in-Some.by by) c.index.ensures
