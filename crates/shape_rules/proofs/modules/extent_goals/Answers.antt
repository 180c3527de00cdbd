use Rattle.std.proofs.Common.{rules, ◌≡◌, ◌∙◌, ap, subst, sym, List}
use Rattle.std.specs.Prelude.{All}
use Rattle.term_tree.specs.declared.term.OutputDecl.{OutputDecl}
use Rattle.term_tree.specs.Modules.{input_shapes}
use Rattle.shape_rules.specs.Faults.{FailsFirst, IsModuleFault, RankFits}
use Rattle.shape_rules.specs.Plain.{all_plain}
use Rattle.shape_rules.specs.Scopes.{scope}
use Rattle.shape_rules.specs.Admitted.{each_normal}
use Rattle.shape_rules.proofs.AdmittedLaws.{sound_by_lines}
use Rattle.shape_rules.proofs.ModuleLaws.{goals_are, inputs_in_scope, module_fault, module_free, module_plain, shapes_hold, sound_by_goals}
use Rattle.shape_rules.proofs.modules.extent_goals.Goals as goal

pub walk_outputs-requires-clause-plain : goal.walk_outputs-requires-clause-plain
walk_outputs-requires-clause-plain c = ap all_plain c.as_slice.ensures ∙ module_plain c.args.module.now c.requires.scoped

pub walk_outputs-requires-clause-free : goal.walk_outputs-requires-clause-free
walk_outputs-requires-clause-free c =
    let shapes : c.in_ok-input_shapes.field-0 ≡ input_shapes c.args.module.now = search rules in
    module_free c.args.module.now _
    (inputs_in_scope c.args.module.now c.new.result c.new-2.result c.in_ok-input_shapes.field-0 c.new.ensures c.new-2.ensures shapes) c.requires.scoped

pub returns-in_err-walk_outputs-clause-goals : goal.returns-in_err-walk_outputs-clause-goals
returns-in_err-walk_outputs-clause-goals c =
    let shapes : c.in_ok-input_shapes.field-0 ≡ input_shapes c.args.module.now = search rules in
    let ranks : All RankFits c.as_slice-inputs.result.now = c.in_default.ensures in
    let f : IsModuleFault c.args.module.now c.in_err-walk_outputs.field-0.0 =
    module_fault c.args.module.now _ c.in_err-walk_outputs.field-0.0
    (inputs_in_scope c.args.module.now c.new.result c.new-2.result c.in_ok-input_shapes.field-0 c.new.ensures c.new-2.ensures shapes)
    (subst (All RankFits) c.as_slice-inputs.ensures ranks)
    (subst (λ (os : List OutputDecl). FailsFirst (scope (record { lets = c.new.result; inputs = c.in_ok-input_shapes.field-0 }) c.new-2.result) os
    c.in_err-walk_outputs.field-0.0) c.as_slice.ensures c.in_err-walk_outputs.ensures.fault) in
    search rules

pub returns-clause-sound : goal.returns-clause-sound
returns-clause-sound c =
    let m = c.args.module.now in
    let told = c.in_ok-walk_outputs.ensures {u = tt} in
    let shapes : c.in_ok-input_shapes.field-0 ≡ input_shapes m = search rules in
    let alone = inputs_in_scope m c.new.result c.new-2.result c.in_ok-input_shapes.field-0 c.new.ensures c.new-2.ensures shapes in
    let ranks : All RankFits c.as_slice-inputs.result.now = c.in_default.ensures in
    sound_by_goals m c.walk_outputs.new.progress.goals
    (goals_are m c.in_ok-input_goals.field-0 c.walk_outputs.new.progress.goals _ c.as_slice-inputs.result.now c.as_slice.result.now told.goals
    (c.in_ok-input_goals.ensures {u = tt})
    c.as_slice-inputs.ensures c.as_slice.ensures alone)
    c.requires.scoped (shapes_hold m _ c.as_slice-inputs.result.now c.as_slice.result.now c.as_slice-inputs.ensures c.as_slice.ensures alone ranks told.shaped)

pub returns-clause-admitted : goal.returns-clause-admitted
returns-clause-admitted c =
    let goals = c.walk_outputs.new.progress.goals in
    sound_by_lines c.args.module.now goals (ap each_normal (sym c.as_slice-2.ensures) ∙ c.normal_told.ensures) (returns-clause-sound c)
