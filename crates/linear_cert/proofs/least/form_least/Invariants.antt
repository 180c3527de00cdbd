use Rattle.std.proofs.Common.{◌≡◌, drop}
use Rattle.linear_cert.specs.DefaultLines.{lesser, terms_least}
use Rattle.linear_cert.proofs.least.form_least.Given as goal

abbrev pub invariant-loop-at : goal.invariant-loop-at
invariant-loop-at l = lesser l.least (terms_least (drop l.at l.form.terms)) ≡ terms_least l.form.terms
