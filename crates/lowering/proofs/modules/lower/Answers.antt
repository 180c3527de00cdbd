use Rattle.std.proofs.Common.{◌≡◌, IfOk, subst, sym}
use Rattle.loop_lang.specs.Form.{IsWellFormed}
use Rattle.loop_lang.specs.declared.stmt.Prog.{Prog}
use Rattle.lowering_laws.specs.Correct.{HasLengths, IsCorrect}
use Rattle.lowering_laws.specs.Lowered.{loops_of, program_of}
use Rattle.lowering_laws.specs.Nest.{module_nest, nests_of_program}
use Rattle.lowering_laws.proofs.Joined.{lengths_are_right, loops_are_right}
use Rattle.lowering_laws.proofs.PrintedBack.{nests_agree}
use Rattle.lowering_laws.proofs.WellFormed.{accepted_is_formed}
use Rattle.lowering.specs.Outputs.{ModuleReady}
use Rattle.lowering.proofs.LiteralLaws.{each-output}
use Rattle.lowering.proofs.OutputLaws.{if-ok-as, lowerable-ready}
use Rattle.lowering.proofs.modules.lower.Goals as goal

pub program-requires-clause-ready : goal.program-requires-clause-ready
program-requires-clause-ready c =
    subst ModuleReady (sym c.last-module.ensures) (lowerable-ready c.args.last.now.0 c.args.last.now.1 c.args.last.now.2 c.told.ensures)

pub returns-clause-loops : goal.returns-clause-loops
unfolding loops_of
returns-clause-loops c =
    subst (λ (q : Prog). IfOk c.program.result (λ p. p ≡ q)) (λ i. program_of (c.last-module.ensures i) (c.parallel.ensures i)) c.program.ensures

pub returns-clause-formed : goal.returns-clause-formed
unfolding loops_of
returns-clause-formed c =
    if-ok-as c.program.result (program_of c.args.last.now.0 c.args.last.now.2) IsWellFormed
    (subst (λ (q : Prog). IfOk c.program.result (λ p. p ≡ q)) (λ i. program_of (c.last-module.ensures i) (c.parallel.ensures i)) c.program.ensures)
    (accepted_is_formed c.args.last.now.0 c.args.last.now.1 c.args.last.now.2 c.told.ensures)

pub returns-clause-lengths : goal.returns-clause-lengths
returns-clause-lengths c =
    if-ok-as c.program.result (program_of c.args.last.now.0 c.args.last.now.2) (HasLengths c.args.last.now.0)
    (subst (λ (q : Prog). IfOk c.program.result (λ p. p ≡ q)) (λ i. program_of (c.last-module.ensures i) (c.parallel.ensures i)) c.program.ensures)
    (lengths_are_right c.args.last.now.0 c.args.last.now.1 c.args.last.now.2 c.told.ensures)

pub returns-clause-correct : goal.returns-clause-correct
returns-clause-correct c =
    if-ok-as c.program.result (program_of c.args.last.now.0 c.args.last.now.2) (IsCorrect c.args.last.now.0)
    (subst (λ (q : Prog). IfOk c.program.result (λ p. p ≡ q)) (λ i. program_of (c.last-module.ensures i) (c.parallel.ensures i)) c.program.ensures)
    (loops_are_right c.args.last.now.0 c.args.last.now.1 c.args.last.now.2 c.told.ensures
    (each-output c.args.last.now.0 c.last-module.result.now c.as_slice.result.now c.last-module.ensures c.as_slice.ensures c.told_from.ensures))

pub returns-clause-literals : goal.returns-clause-literals
returns-clause-literals c =
    each-output c.args.last.now.0 c.last-module.result.now c.as_slice.result.now c.last-module.ensures c.as_slice.ensures c.told_from.ensures

pub returns-clause-nests : goal.returns-clause-nests
returns-clause-nests c =
    if-ok-as c.program.result (program_of c.args.last.now.0 c.args.last.now.2)
    (λ p. nests_of_program p ≡ module_nest c.args.last.now.0 c.args.last.now.2)
    (subst (λ (q : Prog). IfOk c.program.result (λ p. p ≡ q)) (λ i. program_of (c.last-module.ensures i) (c.parallel.ensures i)) c.program.ensures)
    (nests_agree c.args.last.now.0 c.args.last.now.1 c.args.last.now.2 c.told.ensures)
