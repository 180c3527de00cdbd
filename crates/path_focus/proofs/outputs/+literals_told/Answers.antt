use Rattle.path_focus.proofs.LiteralLaws.{let_literals, one_literals, two_literals}
use Rattle.path_focus.proofs.outputs.+literals_told.Goals as goal

pub returns-in-Let : goal.returns-in-Let
returns-in-Let t c =
    let_literals c.args.term.now c.in-Let.a c.in-Let.b c.get.result.now c.get-in-Let.result.now c.get.ensures c.get-in-Let.ensures c.in-Let.is
    c.literals_told.ensures c.literals_told-in-Let.ensures

pub returns-in-Add : goal.returns-in-Add
returns-in-Add t c =
    two_literals c.args.term.now c.in-Add.a c.in-Add.b c.get-in-Add.result.now c.get-in-Add-2.result.now c.get-in-Add.ensures c.get-in-Add-2.ensures c.in-Add.is
    c.literals_told-in-Add.ensures c.literals_told-in-Add-2.ensures

pub returns-in-Index : goal.returns-in-Index
returns-in-Index t c =
    one_literals c.args.term.now c.in-Index.e c.get-in-Index.result.now c.get-in-Index.ensures c.in-Index.is c.literals_told-in-Index.ensures
