use Rattle.std.proofs.Common.{◌≡◌, drop}
use Rattle.std.specs.List.{find}
use Rattle.std.specs.Option.{is_some}
use Rattle.linear_cert.specs.DefaultLines.{atom_least}
use Rattle.linear_cert.proofs.choice.first_with_var.Given as goal

abbrev pub invariant-loop-factor : goal.invariant-loop-factor
invariant-loop-factor l = find (λ a. is_some (atom_least a)) (drop l.factor-index l.factors) ≡ find (λ a. is_some (atom_least a)) l.factors
