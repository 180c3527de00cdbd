use Rattle.rules_narrow.proofs.AtomLaws.{its_dividend_normal}
use Rattle.rules_narrow.proofs.quotients.zero_in_index.Goals as goal

pub is_zero-requires : goal.is_zero-requires
is_zero-requires c =
    its_dividend_normal c.args.args.now c.in-Some.atom.now c.in-Some.dividend.now c.in-Some.divisor c.in-Some.ensures.0 c.in-Some.ensures.1
