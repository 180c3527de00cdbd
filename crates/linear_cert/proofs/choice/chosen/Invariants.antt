use Rattle.std.proofs.Common.{◌≡◌, ◌≤◌, take, length}
use Rattle.std.specs.Prelude.{reverse}
use Rattle.std.specs.List.{find}
use Rattle.linear_cert.specs.DefaultLines.{atom_least, chosen_item, form_least, same_var}
use Rattle.linear_cert.proofs.choice.chosen.Given as goal

abbrev pub invariant-loop-at : goal.invariant-loop-at
invariant-loop-at l = record {
  within : l.at ≤ length l.form.terms;
  rest : find (λ t. same_var (atom_least t.atom) (form_least l.form)) (reverse (take l.at l.form.terms)) ≡ chosen_item l.form;
}

abbrev pub decreases-loop-at : goal.decreases-loop-at
decreases-loop-at l = l.at
