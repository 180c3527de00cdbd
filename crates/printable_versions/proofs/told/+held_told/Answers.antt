use Rattle.printable_versions.proofs.HeldLaws.{guard_held, one_held, two_held}
use Rattle.printable_versions.proofs.told.+held_told.Goals as goal

pub returns-in-Guard : goal.returns-in-Guard
returns-in-Guard t c =
    guard_held c.args.term.now c.in-Guard.c c.in-Guard.e c.get.result.now c.as_slice.result.now c.in-Guard.is c.as_slice.ensures c.comparisons_told.ensures
    c.get.ensures c.held_told.ensures

pub returns-in-Let : goal.returns-in-Let
returns-in-Let t c =
    two_held c.args.term.now c.in-Let.a c.in-Let.b c.get-in-Let.result.now c.get-in-Let-2.result.now c.get-in-Let.ensures c.get-in-Let-2.ensures c.in-Let.is
    c.held_told-in-Let.ensures c.held_told-in-Let-2.ensures

pub returns-in-Index : goal.returns-in-Index
returns-in-Index t c =
    one_held c.args.term.now c.in-Index.e c.get-in-Index.result.now c.get-in-Index.ensures c.in-Index.is c.held_told-in-Index.ensures
