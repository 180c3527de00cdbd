use Rattle.std.proofs.Common.{subst}
use Rattle.final_rules.specs.Printing.{Counts, Sized}
use Rattle.final_rules.proofs.PrintingLaws.{word-is}
use Rattle.final_rules.proofs.printing.word_indices.Goals as goal

pub returns : goal.returns
returns c p h =
    subst (λ (due : Sized). Counts due c.word.result)
    (word-is c.args.maxima.now c.args.vars.now c.args.scene.now c.args.term.now p c.args.number h) c.word.ensures
