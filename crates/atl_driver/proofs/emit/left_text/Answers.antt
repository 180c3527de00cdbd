use Rattle.std.proofs.Common.{Global, ℕ, subst, sym}
use Rattle.std.specs.Prelude.{◌≤◌}
use Rattle.atl_driver.specs.Asked.{errand_of}
use Rattle.atl_driver.proofs.HasOutputs.{each-few, each-shallow}
use Rattle.atl_driver.proofs.RunLaws.{bounded_version, left_answers, left_refused, left_told, refused_unstaged, unstaged_left}
use Rattle.atl_driver.proofs.ScheduleLaws.{version_outputs, version_some}
use Rattle.atl_driver.proofs.emit.left_text.Goals as goal

pub last_run-text-requires-clause-sound : goal.last_run-text-requires-clause-sound
last_run-text-requires-clause-sound c = c.in-Ok.ensures.version.runs.sound

pub last_run-text-requires-clause-some : goal.last_run-text-requires-clause-some
last_run-text-requires-clause-some c = version_some c.args.origin c.in-Ok.last c.in-Ok.ensures.version c.requires.some

pub last_run-text-requires-clause-sizes : goal.last_run-text-requires-clause-sizes
last_run-text-requires-clause-sizes c = c.in-Ok.ensures.version.runs.sizes

pub last_run-text-requires-clause-bounded : goal.last_run-text-requires-clause-bounded
last_run-text-requires-clause-bounded c = bounded_version c.args.origin c.in-Ok.last c.in-Ok.ensures.version c.requires.printable.bounds

pub last_run-text-requires-clause-inputs : goal.last_run-text-requires-clause-inputs
last_run-text-requires-clause-inputs c = c.in-Ok.ensures.version.runs.inputs

pub last_run-text-requires-clause-outputs : goal.last_run-text-requires-clause-outputs
last_run-text-requires-clause-outputs c =
    subst (λ (n : ℕ). n ≤ 2147483647) (sym (version_outputs c.args.origin c.in-Ok.last c.in-Ok.ensures.version)) c.requires.outputs

pub last_run-text-requires-clause-nodes : goal.last_run-text-requires-clause-nodes
last_run-text-requires-clause-nodes c = each-few c.in-Ok.last.outputs 20000 c.in-Ok.ensures.version.runs.few

pub last_run-text-requires-clause-depths : goal.last_run-text-requires-clause-depths
last_run-text-requires-clause-depths c = each-shallow c.in-Ok.last.outputs (c.in-Ok.ensures.version.shallow c.requires.shallow)

pub returns-in-Ok-clause-answers : goal.returns-in-Ok-clause-answers
returns-in-Ok-clause-answers c =
    left_answers c.args.origin c.in-Ok.last c.args.schedule.now c.as_slice-finals.result.now c.as_slice.result.now (errand_of c.args.task)
    c.last_run-text.result
    c.in-Ok.ensures.answers c.in-Ok.ensures.version c.as_slice-finals.ensures c.as_slice.ensures c.last_run-text.ensures.answers

pub returns-in-Ok-clause-left : goal.returns-in-Ok-clause-left
returns-in-Ok-clause-left c =
    left_told c.args.origin c.in-Ok.last c.args.schedule.now c.as_slice-finals.result.now c.as_slice.result.now (errand_of c.args.task) c.last_run-text.result
    c.in-Ok.ensures.answers c.in-Ok.ensures.version c.as_slice-finals.ensures c.as_slice.ensures c.last_run-text.ensures.accepted
    c.last_run-text.ensures.told

pub returns-in-Ok-clause-refused : goal.returns-in-Ok-clause-refused
returns-in-Ok-clause-refused c =
    left_refused c.args.origin c.in-Ok.last c.args.schedule.now c.as_slice-finals.result.now c.as_slice.result.now (errand_of c.args.task)
    c.last_run-text.result
    c.in-Ok.ensures.answers c.in-Ok.ensures.version c.as_slice-finals.ensures c.as_slice.ensures c.last_run-text.ensures.answers
    c.last_run-text.ensures.refused

pub returns-in-Err-clause-answers : goal.returns-in-Err-clause-answers
returns-in-Err-clause-answers c =
    unstaged_left Global c.args.origin c.args.schedule.now (errand_of c.args.task) c.in-Err.fault c.unstaged.result c.in-Err.ensures.answers c.unstaged.ensures

pub returns-in-Err-clause-refused : goal.returns-in-Err-clause-refused
returns-in-Err-clause-refused c =
    refused_unstaged Global c.args.origin c.args.schedule.now (errand_of c.args.task) c.in-Err.fault c.unstaged.result c.in-Err.ensures.answers
    c.unstaged.ensures
