use Rattle.std.proofs.Common.{Global, subst, sym}
use Rattle.std.specs.Prelude.{◌≤◌}
use Rattle.std.proofs.Common.{ℕ}
use Rattle.atl_driver.proofs.HasOutputs.{each-few, each-shallow}
use Rattle.atl_driver.proofs.ScheduleLaws.{staged_answers, staged_loops, unstaged_answers, version_outputs, version_some}
use Rattle.atl_driver.proofs.emit.staged_text.Goals as goal

pub last_text-text-requires-clause-sound : goal.last_text-text-requires-clause-sound
last_text-text-requires-clause-sound c = c.in-Ok.ensures.version.runs.sound

pub last_text-text-requires-clause-some : goal.last_text-text-requires-clause-some
last_text-text-requires-clause-some c = version_some c.args.origin c.in-Ok.last c.in-Ok.ensures.version c.requires.some

pub last_text-text-requires-clause-sizes : goal.last_text-text-requires-clause-sizes
last_text-text-requires-clause-sizes c = c.in-Ok.ensures.version.runs.sizes

pub last_text-text-requires-clause-inputs : goal.last_text-text-requires-clause-inputs
last_text-text-requires-clause-inputs c = c.in-Ok.ensures.version.runs.inputs

pub last_text-text-requires-clause-outputs : goal.last_text-text-requires-clause-outputs
last_text-text-requires-clause-outputs c =
    subst (λ (n : ℕ). n ≤ 2147483647) (sym (version_outputs c.args.origin c.in-Ok.last c.in-Ok.ensures.version)) c.requires.outputs

pub last_text-text-requires-clause-nodes : goal.last_text-text-requires-clause-nodes
last_text-text-requires-clause-nodes c = each-few c.in-Ok.last.outputs 20000 c.in-Ok.ensures.version.runs.few

pub last_text-text-requires-clause-depths : goal.last_text-text-requires-clause-depths
last_text-text-requires-clause-depths c = each-shallow c.in-Ok.last.outputs (c.in-Ok.ensures.version.shallow c.requires.shallow)

pub returns-in-Ok-clause-answers : goal.returns-in-Ok-clause-answers
returns-in-Ok-clause-answers c =
    staged_answers c.args.origin c.in-Ok.last c.args.schedule.now c.as_slice-finals.result.now c.as_slice.result.now c.last_text-text.result
    c.in-Ok.ensures.answers c.as_slice-finals.ensures c.as_slice.ensures c.last_text-text.ensures.answers

pub returns-in-Ok-clause-loops : goal.returns-in-Ok-clause-loops
returns-in-Ok-clause-loops c =
    staged_loops c.args.origin c.in-Ok.last c.args.schedule.now c.as_slice-finals.result.now c.as_slice.result.now c.last_text-text.result
    c.in-Ok.ensures.answers c.in-Ok.ensures.version c.as_slice-finals.ensures c.as_slice.ensures c.last_text-text.ensures.loops

pub returns-in-Err-clause-answers : goal.returns-in-Err-clause-answers
returns-in-Err-clause-answers c =
    unstaged_answers Global c.args.origin c.args.schedule.now c.in-Err.fault c.unstaged.result c.in-Err.ensures.answers c.unstaged.ensures
