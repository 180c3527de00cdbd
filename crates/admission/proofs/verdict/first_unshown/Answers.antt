use Rattle.std.proofs.Common.{◌≡◌, ◌∙◌, true, false, sym, Some, ap, arith, rules}
use Rattle.admission.specs.Admission.{is_shown_alone}
use Rattle.admission.proofs.KeptLaws.{walked_here, walked_on}
use Rattle.admission.proofs.verdict.first_unshown.Goals as goal

pub returns-in-Ok-false : goal.returns-in-Ok-false
returns-in-Ok-false c =
    let fails : is_shown_alone c.args.facts.now c.index-goals-at.result ≡ false = search rules in
    sym (walked_here (is_shown_alone c.args.facts.now) c.args.goals.now 1 c.loop-at.at c.index-goals-at.result c.loop-at-test.true c.index-goals-at.is
    c.loop-at.invariant fails
    ∙ ap Some (omega arith))

pub loop-at-preserved : goal.loop-at-preserved
loop-at-preserved c =
    let holds : is_shown_alone c.args.facts.now c.index-goals-at.result ≡ true = search rules in
    walked_on (is_shown_alone c.args.facts.now) c.args.goals.now 1 c.loop-at.at c.index-goals-at.result c.loop-at-test.true c.index-goals-at.is
    c.loop-at.invariant holds
