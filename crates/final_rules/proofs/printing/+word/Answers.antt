use Rattle.std.proofs.Common.{subst}
use Rattle.final_rules.specs.Printing.{Counts, Sized}
use Rattle.final_rules.proofs.WordForms.{falls, guard-less, guard-ready, guard-sized, index-ready, two-less, two-ready, two-sized}
use Rattle.final_rules.proofs.printing.+word.Goals as goal

pub word-guarded-requires : goal.word-guarded-requires
word-guarded-requires t c =
    let p = guard-ready c.args.maxima.now c.args.vars.now c.args.scene.now c.args.term.now c.in-Guard.cond c.in-Guard.part c.get.result.now c.get.ensures
    c.in-Guard.is c.requires in
    (falls c.decreases (guard-less c.args.term.now c.in-Guard.cond c.in-Guard.part c.get.result.now c.get.ensures c.in-Guard.is), (p.0, p.1))

pub word-returns-in-Guard : goal.word-returns-in-Guard
word-returns-in-Guard t c =
    subst (λ (due : Sized). Counts due c.guarded.result)
    (guard-sized c.args.maxima.now c.args.vars.now c.args.scene.now c.args.number c.args.term.now c.in-Guard.cond c.in-Guard.part c.get.result.now c.get.ensures
    c.in-Guard.is)
    c.guarded.ensures

pub word-read_term-requires : goal.word-read_term-requires
word-read_term-requires t c = index-ready c.args.maxima.now c.args.vars.now c.args.scene.now c.args.term.now c.in-TVar.is c.requires

pub word-words-requires : goal.word-words-requires
word-words-requires t c =
    let p = two-ready c.args.maxima.now c.args.vars.now c.args.scene.now c.args.term.now c.in-Add.a c.in-Add.b c.get-in-Add.result.now c.get-in-Add-2.result.now
    c.get-in-Add.ensures c.get-in-Add-2.ensures c.in-Add.is c.requires in (
      falls c.decreases (two-less c.args.term.now c.in-Add.a c.in-Add.b c.get-in-Add.result.now c.get-in-Add-2.result.now c.get-in-Add.ensures
          c.get-in-Add-2.ensures c.in-Add.is),
      (p.0, p.1),
    )

pub word-returns-in-Add : goal.word-returns-in-Add
word-returns-in-Add t c =
    subst (λ (due : Sized). Counts due c.words.result)
    (two-sized c.args.maxima.now c.args.vars.now c.args.scene.now c.args.number c.args.term.now c.in-Add.a c.in-Add.b c.get-in-Add.result.now
    c.get-in-Add-2.result.now c.get-in-Add.ensures c.get-in-Add-2.ensures c.in-Add.is)
    c.words.ensures
