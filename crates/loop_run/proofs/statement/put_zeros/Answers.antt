use Rattle.std.proofs.Common.{◌∙◌, ◌+◌, ◌-◌, ap, arith, sym, to_z, of_z, w64}
use Rattle.loop_run.specs.Held.{state_of}
use Rattle.loop_run.specs.Limited.{next}
use Rattle.loop_run.specs.Statements.{zeros_put}
use Rattle.loop_run.proofs.StepLaws.{zeros-next}
use Rattle.loop_run.proofs.statement.put_zeros.Goals as goal

pub loop-further-preserved : goal.loop-further-preserved
loop-further-preserved c =
    let limit = c.args.limit in
    let at = to_z w64 (of_z w64 c.args.at) in
    let i = c.loop-further.further in
    let n = c.args.count in
    let rest = zeros_put limit c.args.buffer at (i + 1) (n - (i + 1)) in
    sym (zeros-next limit c.args.buffer at i n (state_of c.loop-further.machine) (omega arith) ∙ ap (λ p. next p rest) (sym c.in_ok-put_zero.ensures))
    ∙ c.loop-further.invariant
