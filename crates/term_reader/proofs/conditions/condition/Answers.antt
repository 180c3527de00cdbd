use Rattle.term_reader.specs.Names.{named}
use Rattle.term_reader.proofs.ConditionCode.{condition_is}
use Rattle.term_reader.proofs.conditions.condition.Goals as goal

pub returns : goal.returns
returns c =
    condition_is (named c.args.names.now) c.args.levels c.in_ok-first.first c.in_ok-found.found c.in_ok-all.all c.args.tokens.now c.comparison.new.tokens
    c.more_comparisons.new.tokens
    c.in_ok-first.ensures c.in_ok-found.ensures c.in_ok-all.ensures
