use Rattle.std.proofs.Common.{◌∙◌, Result, Ok, ap}
use Rattle.loop_lang.specs.Actions.{program_acts}
use Rattle.loop_run.specs.Buffers.{Held}
use Rattle.loop_run.specs.declared.refusal.MakeRefusal.{MakeRefusal}
use Rattle.program_run.specs.declared.run.Ran.{Ran}
use Rattle.program_run.proofs.RunLaws.{kept, run-err, run-ok}
use Rattle.program_run.proofs.run.run_on.Goals as goal

pub returns-in-Ok : goal.returns-in-Ok
returns-in-Ok c =
    let held = c.args.buffers in
    let new = c.go.new.buffers in
    let Left : Held → Result Ran MakeRefusal = λ h. Ok (record { buffers = h; stores = c.in-Ok.counted.stores }) in
    ap Left (kept new held _ c.go.ensures.left)
    ∙ run-ok held (program_acts c.args.prog.now held.sizes) c.in-Ok.counted new.memory c.in-Ok.ensures.answer c.in-Ok.ensures.ended

pub returns-in-Err : goal.returns-in-Err
returns-in-Err c = run-err c.args.buffers (program_acts c.args.prog.now c.args.buffers.sizes) c.in-Err.stuck c.in-Err.ensures.answer
