use Rattle.std.proofs.Common.{◌≡◌, ◌≤◌, ◌+◌, ◌*◌, drop}
use Rattle.affine_index.specs.Product.{product_of, term_products}
use Rattle.affine_index.specs.Sum.{add_up}
use Rattle.affine_index.specs.Wide.{norm, terms_norm}
use Rattle.affine_index.proofs.product.product.Given as goal

abbrev pub invariant-loop-at : goal.invariant-loop-at
invariant-loop-at l = record {
  room : norm l.total + terms_norm (drop l.at l.a.terms) * norm l.b ≤ norm l.a * norm l.b;
  rest : add_up (term_products (drop l.at l.a.terms) l.b) l.total ≡ product_of l.a l.b;
}
