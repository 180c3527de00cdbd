use Rattle.std.proofs.Common.{◌≡◌, ◌≤◌, ◌∙◌, length, true, ap, subst, sym}
use Rattle.loop_lang.specs.Form.{IsWellFormed}
use Rattle.loop_lang.specs.declared.stmt.Prog.{Prog}
use Rattle.lowering_laws.specs.Correct.{HasLengths, IsCorrect}
use Rattle.std.specs.Prelude.{All}
use Rattle.term_tree.specs.Counts.{node_count}
use Rattle.term_tree.specs.Modules.{module_scoped}
use Rattle.term_tree.specs.declared.term.Module.{Module}
use Rattle.term_tree.specs.declared.term.OutputDecl.{OutputDecl}
use Rattle.version_run.specs.VersionRun.{AreBounded}
use Rattle.atl_driver.specs.Asked.{errand_of}
use Rattle.atl_driver.proofs.RunLaws.{loops_inputs, of_program_answers, of_program_told, of_program_refused}
use Rattle.atl_driver.proofs.last_run.run_of.Goals as goal

pub program_text-text-requires-clause-formed : goal.program_text-text-requires-clause-formed
program_text-text-requires-clause-formed c = subst IsWellFormed (sym c.get.ensures) c.in-Ok.ensures.formed

pub program_text-text-requires-clause-scoped : goal.program_text-text-requires-clause-scoped
program_text-text-requires-clause-scoped c = subst (λ (m : Module). module_scoped m ≡ true) (sym c.last.ensures) c.told.ensures.sound.scoped

pub program_text-text-requires-clause-sizes : goal.program_text-text-requires-clause-sizes
program_text-text-requires-clause-sizes c = subst (λ (m : Module). length m.sizes ≤ 2147483647) (sym c.last.ensures) c.requires.sizes

pub program_text-text-requires-clause-bounded : goal.program_text-text-requires-clause-bounded
program_text-text-requires-clause-bounded c = subst (λ (m : Module). AreBounded m.sizes) (sym c.last.ensures) c.requires.bounded

pub program_text-text-requires-clause-inputs : goal.program_text-text-requires-clause-inputs
program_text-text-requires-clause-inputs c =
    ap (λ (p : Prog). p.inputs) c.get.ensures ∙ loops_inputs c.args.last.now.0 c.args.last.now.2 c.in-Ok.program c.in-Ok.ensures.loops
    ∙ ap (λ (m : Module). length m.inputs) (sym c.last.ensures)

pub program_text-text-requires-clause-outputs : goal.program_text-text-requires-clause-outputs
program_text-text-requires-clause-outputs c = subst (λ (m : Module). length m.outputs ≤ 2147483647) (sym c.last.ensures) c.requires.outputs

pub program_text-text-requires-clause-nodes : goal.program_text-text-requires-clause-nodes
program_text-text-requires-clause-nodes c =
    subst (λ (m : Module). All (λ (o : OutputDecl). node_count o.term ≤ 20000) m.outputs) (sym c.last.ensures) c.requires.nodes

pub program_text-text-requires-clause-lengths : goal.program_text-text-requires-clause-lengths
program_text-text-requires-clause-lengths c =
    subst (λ (m : Module). HasLengths m c.get.result.now) (sym c.last.ensures)
    (subst (λ (p : Prog). HasLengths c.args.last.now.0 p) (sym c.get.ensures) c.in-Ok.ensures.lengths)

pub program_text-text-requires-clause-correct : goal.program_text-text-requires-clause-correct
program_text-text-requires-clause-correct c =
    subst (λ (m : Module). IsCorrect m c.get.result.now) (sym c.last.ensures)
    (subst (λ (p : Prog). IsCorrect c.args.last.now.0 p) (sym c.get.ensures) c.in-Ok.ensures.correct)

pub returns-in-Ok-clause-answers : goal.returns-in-Ok-clause-answers
returns-in-Ok-clause-answers c =
    of_program_answers (errand_of c.args.task) c.last.result.now c.args.last.now.0 c.get.result.now _ c.program_text-text.result c.last.ensures
    (c.get.ensures ∙ c.in-Ok.ensures.loops) c.program_text-text.ensures.answers

pub returns-in-Ok-clause-told : goal.returns-in-Ok-clause-told
returns-in-Ok-clause-told c =
    of_program_told (errand_of c.args.task) c.last.result.now c.args.last.now.0 c.get.result.now _ c.program_text-text.result c.last.ensures
    (c.get.ensures ∙ c.in-Ok.ensures.loops) c.program_text-text.ensures.told

pub returns-in-Ok-clause-refused : goal.returns-in-Ok-clause-refused
returns-in-Ok-clause-refused c =
    of_program_refused (errand_of c.args.task) c.last.result.now c.args.last.now.0 c.get.result.now _ c.program_text-text.result c.last.ensures
    (c.get.ensures ∙ c.in-Ok.ensures.loops) c.program_text-text.ensures.refused
