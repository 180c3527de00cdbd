use Rattle.std.proofs.Common.{◌≡◌, drop}
use Rattle.loop_run.specs.Fits.{all_fit}
use Rattle.run_rows.proofs.runs.all_fit.Given as goal

abbrev pub invariant-loop-number : goal.invariant-loop-number
invariant-loop-number l = all_fit (drop l.number-index l.numbers) ≡ all_fit l.numbers
