use Rattle.std.proofs.Common.{Global, ◌≤◌, length, map, List, ℕ, subst, sym, arith}
use Rattle.std.specs.declared.vec.Vec.{Vec}
use Rattle.atl_driver.specs.Asked.{Facts, Versions}
use Rattle.atl_driver.specs.Form.{IsInRange}
use Rattle.atl_driver.specs.declared.command.Verb.TheVariants.{Compile, Exec, Plain, Stages, Trial, Facts as FactsOf, Run as RunOf}
use Rattle.atl_driver.proofs.Contents.{answers_on, decided_compile, decided_facts, decided_run, decided_stages, decided_trial, decided_under, fault_compile}
use Rattle.atl_driver.proofs.Contents.{fault_on, fault_run, fault_under, right_compile, right_on, right_run, right_under, script_within, within_reader}
use Rattle.atl_driver.proofs.Contents.{decided_plain, fault_plain, right_plain}
use Rattle.atl_driver.proofs.ExecLaws.{decided_exec, fault_exec, right_exec}
use Rattle.atl_driver.proofs.compile.compile_all.Goals as goal

abbrev texts_in : List (Vec ℕ Global) → List (List ℕ)
texts_in contents = map (λ (content : Vec ℕ Global). content.items) contents

pub compile_bytes-requires-clause-source : goal.compile_bytes-requires-clause-source
compile_bytes-requires-clause-source c =
    let within = subst (λ (z : List ℕ). length z ≤ 1048576) (sym c.first_of.ensures) c.requires.first in omega (arith, within)

pub compile_bytes-requires-clause-script : goal.compile_bytes-requires-clause-script
compile_bytes-requires-clause-script c =
    within_reader _ _ c.second_of.ensures c.requires.second

pub stages_bytes-requires-clause-source : goal.stages_bytes-requires-clause-source
stages_bytes-requires-clause-source c =
    let within = subst (λ (z : List ℕ). length z ≤ 1048576) (sym c.first_of-in-Stages.ensures) c.requires.first in omega (arith, within)

pub stages_bytes-requires-clause-script : goal.stages_bytes-requires-clause-script
stages_bytes-requires-clause-script c =
    let within = subst (λ (z : List ℕ). length z ≤ 1048576) (sym c.script_in.ensures) (script_within _ c.requires.second) in omega (arith, within)

pub facts_bytes-requires-clause-source : goal.facts_bytes-requires-clause-source
facts_bytes-requires-clause-source c =
    let within = subst (λ (z : List ℕ). length z ≤ 1048576) (sym c.first_of-in-Facts.ensures) c.requires.first in omega (arith, within)

pub facts_bytes-requires-clause-script : goal.facts_bytes-requires-clause-script
facts_bytes-requires-clause-script c =
    let within = subst (λ (z : List ℕ). length z ≤ 1048576) (sym c.script_in-in-Facts.ensures) (script_within _ c.requires.second) in omega (arith, within)

pub run_bytes-requires-clause-source : goal.run_bytes-requires-clause-source
run_bytes-requires-clause-source c =
    let within = subst (λ (z : List ℕ). length z ≤ 1048576) (sym c.first_of-in-Run.ensures) c.requires.first in omega (arith, within)

pub run_bytes-requires-clause-script : goal.run_bytes-requires-clause-script
run_bytes-requires-clause-script c =
    let within = subst (λ (z : List ℕ). length z ≤ 1048576) (sym c.script_in-in-Run.ensures) (script_within _ c.requires.second) in omega (arith, within)

pub run_bytes-requires-clause-given : goal.run_bytes-requires-clause-given
run_bytes-requires-clause-given c =
    let within = subst (λ (z : List ℕ). length z ≤ 1048576) (sym c.given_in.ensures) c.requires.third in omega (arith, within)

pub exec_text-requires : goal.exec_text-requires
exec_text-requires c =
    let within = subst (λ (z : List ℕ). length z ≤ 1048576) (sym c.script_in-in-Exec.ensures) (script_within _ c.requires.second) in omega (arith, within)

pub trial_bytes-requires : goal.trial_bytes-requires
trial_bytes-requires c =
    subst IsInRange c.in-Trial.is c.requires.range

pub returns-in-Compile-clause-answers : goal.returns-in-Compile-clause-answers
returns-in-Compile-clause-answers c =
    decided_under c.args.verb Compile _ c.compile_bytes.result c.in-Compile.is
    (decided_compile c.first_of.result.now _
    (texts_in c.args.contents.now) c.compile_bytes.result c.first_of.ensures c.second_of.ensures c.compile_bytes.ensures.answers)

pub returns-in-Compile-clause-correct : goal.returns-in-Compile-clause-correct
returns-in-Compile-clause-correct c =
    right_under c.args.verb Compile _ c.compile_bytes.result c.in-Compile.is
    (right_compile c.first_of.result.now _
    (texts_in c.args.contents.now) c.compile_bytes.result c.first_of.ensures c.second_of.ensures c.compile_bytes.ensures.correct)

pub returns-in-Compile-clause-refused : goal.returns-in-Compile-clause-refused
returns-in-Compile-clause-refused c =
    fault_under c.args.verb Compile _ c.compile_bytes.result c.in-Compile.is
    (fault_compile c.first_of.result.now _
    (texts_in c.args.contents.now) c.compile_bytes.result c.first_of.ensures c.second_of.ensures c.compile_bytes.ensures.refused)

pub returns-in-Stages-clause-answers : goal.returns-in-Stages-clause-answers
returns-in-Stages-clause-answers c =
    decided_under c.args.verb Stages _ c.stages_bytes.result c.in-Stages.is
    (decided_stages _ c.stages_bytes.result
    (answers_on Versions c.first_of-in-Stages.result.now _ c.script_in.result.now _ c.stages_bytes.result c.first_of-in-Stages.ensures c.script_in.ensures
    c.stages_bytes.ensures.answers))

pub returns-in-Stages-clause-correct : goal.returns-in-Stages-clause-correct
returns-in-Stages-clause-correct c =
    right_under c.args.verb Stages _ c.stages_bytes.result c.in-Stages.is
    (right_on Versions c.first_of-in-Stages.result.now _ c.script_in.result.now _ c.stages_bytes.result c.first_of-in-Stages.ensures c.script_in.ensures
    c.stages_bytes.ensures.correct)

pub returns-in-Stages-clause-refused : goal.returns-in-Stages-clause-refused
returns-in-Stages-clause-refused c =
    fault_under c.args.verb Stages _ c.stages_bytes.result c.in-Stages.is
    (fault_on Versions c.first_of-in-Stages.result.now _ c.script_in.result.now _ c.stages_bytes.result c.first_of-in-Stages.ensures c.script_in.ensures
    c.stages_bytes.ensures.refused)

pub returns-in-Facts-clause-answers : goal.returns-in-Facts-clause-answers
returns-in-Facts-clause-answers c =
    decided_under c.args.verb FactsOf _ c.facts_bytes.result c.in-Facts.is
    (decided_facts _ c.facts_bytes.result
    (answers_on Facts c.first_of-in-Facts.result.now _ c.script_in-in-Facts.result.now _ c.facts_bytes.result c.first_of-in-Facts.ensures
    c.script_in-in-Facts.ensures c.facts_bytes.ensures.answers))

pub returns-in-Facts-clause-correct : goal.returns-in-Facts-clause-correct
returns-in-Facts-clause-correct c =
    right_under c.args.verb FactsOf _ c.facts_bytes.result c.in-Facts.is
    (right_on Facts c.first_of-in-Facts.result.now _ c.script_in-in-Facts.result.now _ c.facts_bytes.result c.first_of-in-Facts.ensures
    c.script_in-in-Facts.ensures c.facts_bytes.ensures.correct)

pub returns-in-Facts-clause-refused : goal.returns-in-Facts-clause-refused
returns-in-Facts-clause-refused c =
    fault_under c.args.verb FactsOf _ c.facts_bytes.result c.in-Facts.is
    (fault_on Facts c.first_of-in-Facts.result.now _ c.script_in-in-Facts.result.now _ c.facts_bytes.result c.first_of-in-Facts.ensures
    c.script_in-in-Facts.ensures c.facts_bytes.ensures.refused)

pub returns-in-Run-clause-answers : goal.returns-in-Run-clause-answers
returns-in-Run-clause-answers c =
    decided_under c.args.verb RunOf _ c.run_bytes.result c.in-Run.is
    (decided_run c.first_of-in-Run.result.now c.script_in-in-Run.result.now c.given_in.result.now
    (texts_in c.args.contents.now) c.run_bytes.result c.first_of-in-Run.ensures c.script_in-in-Run.ensures c.given_in.ensures
    c.run_bytes.ensures.answers)

pub returns-in-Run-clause-correct : goal.returns-in-Run-clause-correct
returns-in-Run-clause-correct c =
    right_under c.args.verb RunOf _ c.run_bytes.result c.in-Run.is
    (right_run c.first_of-in-Run.result.now c.script_in-in-Run.result.now c.given_in.result.now
    (texts_in c.args.contents.now) c.run_bytes.result c.first_of-in-Run.ensures c.script_in-in-Run.ensures c.given_in.ensures
    c.run_bytes.ensures.correct)

pub returns-in-Run-clause-refused : goal.returns-in-Run-clause-refused
returns-in-Run-clause-refused c =
    fault_under c.args.verb RunOf _ c.run_bytes.result c.in-Run.is
    (fault_run c.first_of-in-Run.result.now c.script_in-in-Run.result.now c.given_in.result.now
    (texts_in c.args.contents.now) c.run_bytes.result c.first_of-in-Run.ensures c.script_in-in-Run.ensures c.given_in.ensures
    c.run_bytes.ensures.refused)

pub plain_bytes-requires-clause-source : goal.plain_bytes-requires-clause-source
plain_bytes-requires-clause-source c =
    let within = subst (λ (z : List ℕ). length z ≤ 1048576) (sym c.first_of-in-Plain.ensures) c.requires.first in omega (arith, within)

pub plain_bytes-requires-clause-script : goal.plain_bytes-requires-clause-script
plain_bytes-requires-clause-script c =
    let within = subst (λ (z : List ℕ). length z ≤ 1048576) (sym c.script_in-in-Plain.ensures) (script_within _ c.requires.second) in omega (arith, within)

pub plain_bytes-requires-clause-given : goal.plain_bytes-requires-clause-given
plain_bytes-requires-clause-given c =
    let within = subst (λ (z : List ℕ). length z ≤ 1048576) (sym c.given_in-in-Plain.ensures) c.requires.third in omega (arith, within)

pub returns-in-Plain-clause-answers : goal.returns-in-Plain-clause-answers
returns-in-Plain-clause-answers c =
    decided_under c.args.verb Plain _ c.plain_bytes.result c.in-Plain.is
    (decided_plain c.first_of-in-Plain.result.now c.script_in-in-Plain.result.now c.given_in-in-Plain.result.now (texts_in c.args.contents.now)
    c.plain_bytes.result c.first_of-in-Plain.ensures c.script_in-in-Plain.ensures c.given_in-in-Plain.ensures c.plain_bytes.ensures.answers)

pub returns-in-Plain-clause-correct : goal.returns-in-Plain-clause-correct
returns-in-Plain-clause-correct c =
    right_under c.args.verb Plain _ c.plain_bytes.result c.in-Plain.is
    (right_plain c.first_of-in-Plain.result.now c.script_in-in-Plain.result.now c.given_in-in-Plain.result.now (texts_in c.args.contents.now)
    c.plain_bytes.result c.first_of-in-Plain.ensures c.script_in-in-Plain.ensures c.given_in-in-Plain.ensures c.plain_bytes.ensures.correct)

pub returns-in-Plain-clause-refused : goal.returns-in-Plain-clause-refused
returns-in-Plain-clause-refused c =
    fault_under c.args.verb Plain _ c.plain_bytes.result c.in-Plain.is
    (fault_plain c.first_of-in-Plain.result.now c.script_in-in-Plain.result.now c.given_in-in-Plain.result.now (texts_in c.args.contents.now)
    c.plain_bytes.result c.first_of-in-Plain.ensures c.script_in-in-Plain.ensures c.given_in-in-Plain.ensures c.plain_bytes.ensures.refused)

pub returns-in-Exec-clause-answers : goal.returns-in-Exec-clause-answers
returns-in-Exec-clause-answers c =
    decided_under c.args.verb Exec _ c.exec_text.result c.in-Exec.is
    (decided_exec c.first_of-in-Exec.result.now c.script_in-in-Exec.result.now
    (texts_in c.args.contents.now) c.exec_text.result c.first_of-in-Exec.ensures c.script_in-in-Exec.ensures c.exec_text.ensures.answers)

pub returns-in-Exec-clause-correct : goal.returns-in-Exec-clause-correct
returns-in-Exec-clause-correct c =
    right_under c.args.verb Exec _ c.exec_text.result c.in-Exec.is
    (right_exec c.first_of-in-Exec.result.now c.script_in-in-Exec.result.now
    (texts_in c.args.contents.now) c.exec_text.result c.first_of-in-Exec.ensures c.script_in-in-Exec.ensures c.exec_text.ensures.correct)

pub returns-in-Exec-clause-refused : goal.returns-in-Exec-clause-refused
returns-in-Exec-clause-refused c =
    fault_under c.args.verb Exec _ c.exec_text.result c.in-Exec.is
    (fault_exec c.first_of-in-Exec.result.now c.script_in-in-Exec.result.now
    (texts_in c.args.contents.now) c.exec_text.result c.first_of-in-Exec.ensures c.script_in-in-Exec.ensures c.exec_text.ensures.refused)

pub returns-in-Trial-clause-answers : goal.returns-in-Trial-clause-answers
returns-in-Trial-clause-answers c =
    decided_under c.args.verb (Trial c.in-Trial.steps) _ c.trial_bytes.result c.in-Trial.is
    (decided_trial c.in-Trial.steps _ c.trial_bytes.result c.trial_bytes.ensures.answers)

pub returns-in-Trial-clause-correct : goal.returns-in-Trial-clause-correct
returns-in-Trial-clause-correct c =
    right_under c.args.verb (Trial c.in-Trial.steps) _ c.trial_bytes.result c.in-Trial.is
    (c.trial_bytes.ensures.correct)

pub returns-in-Trial-clause-refused : goal.returns-in-Trial-clause-refused
returns-in-Trial-clause-refused c =
    fault_under c.args.verb (Trial c.in-Trial.steps) _ c.trial_bytes.result c.in-Trial.is
    (c.trial_bytes.ensures.refused)
