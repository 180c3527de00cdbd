use Rattle.std.proofs.Common.{◌∙◌, ◌<◌, ◌^◌, ℕ, Ok, Err, arith}
use Rattle.loop_lang.specs.Actions.{program_acts}
use Rattle.loop_run.specs.Limited.{Halts, Goes, started}
use Rattle.loop_run.specs.Held.{halt_of, memory_of, state_of}
use Rattle.loop_run.proofs.ExactLaws.{run-answer, run-ended, run-left, run-within}
use Rattle.loop_run.proofs.StatementJoin.{program-joined}
use Rattle.loop_run.proofs.buffers.run_body.Goals as goal

short : (limit : ℕ) → limit < 18446744073709551615 → limit < 2 ^ 64
short limit h = omega (arith, h)

pub returns-in-Ok-clause-answer : goal.returns-in-Ok-clause-answer
returns-in-Ok-clause-answer c =
    let limit = c.args.limit in
    let xs = program_acts c.args.prog.now c.args.sizes.now in
    let m = memory_of c.args.machine.now.contents in
    let is = c.in-Ok.ensures.done ∙ program-joined limit c.args.prog.now c.args.sizes.now c.requires.fits c.requires.formed (started m) in
    let answer = run-answer limit xs m (short limit c.requires.limit) (Goes (state_of c.run.new.machine)) is in
    answer

pub returns-in-Ok-clause-left : goal.returns-in-Ok-clause-left
returns-in-Ok-clause-left c =
    let limit = c.args.limit in
    let xs = program_acts c.args.prog.now c.args.sizes.now in
    let m = memory_of c.args.machine.now.contents in
    let is = c.in-Ok.ensures.done ∙ program-joined limit c.args.prog.now c.args.sizes.now c.requires.fits c.requires.formed (started m) in
    run-left limit xs m (short limit c.requires.limit) (Goes (state_of c.run.new.machine)) is

pub returns-in-Ok-clause-ended : goal.returns-in-Ok-clause-ended
returns-in-Ok-clause-ended c =
    let limit = c.args.limit in
    let xs = program_acts c.args.prog.now c.args.sizes.now in
    let m = memory_of c.args.machine.now.contents in
    let is = c.in-Ok.ensures.done ∙ program-joined limit c.args.prog.now c.args.sizes.now c.requires.fits c.requires.formed (started m) in
    let answer = run-answer limit xs m (short limit c.requires.limit) (Goes (state_of c.run.new.machine)) is in
    run-ended limit xs m (short limit c.requires.limit) (Goes (state_of c.run.new.machine)) is (Ok c.run.new.machine.counted) answer

pub returns-in-Ok-clause-within : goal.returns-in-Ok-clause-within
returns-in-Ok-clause-within c =
    let limit = c.args.limit in
    let xs = program_acts c.args.prog.now c.args.sizes.now in
    let m = memory_of c.args.machine.now.contents in
    let is = c.in-Ok.ensures.done ∙ program-joined limit c.args.prog.now c.args.sizes.now c.requires.fits c.requires.formed (started m) in
    let answer = run-answer limit xs m (short limit c.requires.limit) (Goes (state_of c.run.new.machine)) is in
    λ n ends few. run-within limit xs m (short limit c.requires.limit) (Goes (state_of c.run.new.machine)) is (Ok c.run.new.machine.counted) answer n ends few

pub returns-in-Err-clause-answer : goal.returns-in-Err-clause-answer
returns-in-Err-clause-answer c =
    let limit = c.args.limit in
    let xs = program_acts c.args.prog.now c.args.sizes.now in
    let m = memory_of c.args.machine.now.contents in
    let is = c.in-Err.ensures.done ∙ program-joined limit c.args.prog.now c.args.sizes.now c.requires.fits c.requires.formed (started m) in
    let answer = c.stuck_of.ensures (memory_of c.run.new.machine.contents)
    ∙ run-answer limit xs m (short limit c.requires.limit) (Halts (halt_of c.in-Err.halt) (memory_of c.run.new.machine.contents)) is in
    answer

pub returns-in-Err-clause-left : goal.returns-in-Err-clause-left
returns-in-Err-clause-left c =
    let limit = c.args.limit in
    let xs = program_acts c.args.prog.now c.args.sizes.now in
    let m = memory_of c.args.machine.now.contents in
    let is = c.in-Err.ensures.done ∙ program-joined limit c.args.prog.now c.args.sizes.now c.requires.fits c.requires.formed (started m) in
    run-left limit xs m (short limit c.requires.limit) (Halts (halt_of c.in-Err.halt) (memory_of c.run.new.machine.contents)) is

pub returns-in-Err-clause-within : goal.returns-in-Err-clause-within
returns-in-Err-clause-within c =
    let limit = c.args.limit in
    let xs = program_acts c.args.prog.now c.args.sizes.now in
    let m = memory_of c.args.machine.now.contents in
    let is = c.in-Err.ensures.done ∙ program-joined limit c.args.prog.now c.args.sizes.now c.requires.fits c.requires.formed (started m) in
    let answer = c.stuck_of.ensures (memory_of c.run.new.machine.contents)
    ∙ run-answer limit xs m (short limit c.requires.limit) (Halts (halt_of c.in-Err.halt) (memory_of c.run.new.machine.contents)) is in
    λ n ends few. run-within limit xs m (short limit c.requires.limit) (Halts (halt_of c.in-Err.halt) (memory_of c.run.new.machine.contents)) is
    (Err c.stuck_of.result) answer n ends few
