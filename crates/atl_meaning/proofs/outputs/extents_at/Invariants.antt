use Rattle.std.proofs.Common.{◌≡◌, drop, take, true}
use Rattle.term_tree.specs.Modules.{extents_at}
use Rattle.atl_meaning.specs.Exact.{all_counted}
use Rattle.atl_meaning.proofs.outputs.extents_at.Given as goal

abbrev pub invariant-loop-form : goal.invariant-loop-form
invariant-loop-form l = record {
  counted : all_counted l.sizes (drop l.form-index l.extents) ≡ true;
  numbers : l.numbers ≡ extents_at (take l.form-index l.extents) l.sizes;
}
