use Rattle.std.proofs.Common.{◌≡◌, ◌≤◌, ◌+◌, drop}
use Rattle.affine_index.specs.Product.{atom_products, atom_times}
use Rattle.affine_index.specs.Sum.{add_up}
use Rattle.affine_index.specs.Wide.{norm, terms_norm}
use Rattle.affine_index.proofs.product.atom_times.Given as goal

abbrev pub invariant-loop-at : goal.invariant-loop-at
invariant-loop-at l = record {
  room : norm l.total + terms_norm (drop l.at l.form.terms) ≤ norm l.form;
  rest : add_up (atom_products l.atom (drop l.at l.form.terms)) l.total ≡ atom_times l.atom l.form;
}
