use Rattle.std.proofs.Common.{◌≡◌, ◌≤◌, ◌+◌, ◌^◌, drop, length, map}
use Rattle.affine_index.specs.Form.{literal_form}
use Rattle.affine_index.specs.Product.{product_of_all}
use Rattle.affine_index.specs.Put.{put_atom, put_terms}
use Rattle.affine_index.specs.Puts.{what_put}
use Rattle.affine_index.specs.Wide.{norm}
use Rattle.affine_index.proofs.PutSteps.{room}
use Rattle.affine_index.proofs.put.+put.Given as goal

abbrev pub invariant-put_factors-loop-left : goal.invariant-put_factors-loop-left
invariant-put_factors-loop-left l = record {
  within : l.left ≤ length l.factors;
  rest : l.forms ≡ product_of_all (map (put_atom (what_put l.by)) (drop l.left l.factors));
}

abbrev pub decreases-put_factors-loop-left : goal.decreases-put_factors-loop-left
decreases-put_factors-loop-left l = l.left

abbrev pub invariant-put_terms-loop-term : goal.invariant-put_terms-loop-term
invariant-put_terms-loop-term l = record {
  room : norm l.total + room (drop l.term-index l.terms) ≤ 2 ^ 40 + room l.terms;
  rest : put_terms (what_put l.by) (drop l.term-index l.terms) l.total ≡ put_terms (what_put l.by) l.terms (literal_form l.constant);
}
