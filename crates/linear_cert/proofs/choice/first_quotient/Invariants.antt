use Rattle.std.proofs.Common.{◌≡◌, drop}
use Rattle.std.specs.List.{find}
use Rattle.affine_index.specs.declared.form.Atom.{out-Atom}
use Rattle.linear_cert.specs.DefaultLines.{layer_is_quotient}
use Rattle.linear_cert.proofs.choice.first_quotient.Given as goal

abbrev pub invariant-loop-factor : goal.invariant-loop-factor
invariant-loop-factor l = find (λ a. layer_is_quotient (out-Atom a)) (drop l.factor-index l.factors) ≡ find (λ a. layer_is_quotient (out-Atom a)) l.factors
