use Rattle.std.proofs.Common.{◌≡◌, drop}
use Rattle.affine_index.specs.declared.form.Items.{Items}
use Rattle.linear_cert.specs.Shown.{lines_good}
use Rattle.linear_cert.proofs.given.lines_good.Given as goal

abbrev pub invariant-loop-i : goal.invariant-loop-i
invariant-loop-i l = (goal : Items) → lines_good l.facts goal (drop l.i l.lines) ≡ lines_good l.facts goal l.lines
