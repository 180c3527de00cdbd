use Rattle.std.proofs.Common.{◌≡◌, ◌*◌, ◌-◌, ◌^◌, ◌≤◌, drop, min, true}
use Rattle.term_tree.specs.Modules.{extents_at}
use Rattle.atl_meaning.specs.Exact.{all_counted}
use Rattle.atl_meaning.specs.Words.{word_product, words_of}
use Rattle.atl_meaning.proofs.words.product.Given as goal

abbrev pub invariant-loop-form : goal.invariant-loop-form
invariant-loop-form l = record {
  counted : all_counted l.sizes (drop l.form-index l.extents) ≡ true;
  most : l.words ≤ 2 ^ 64 - 1;
  words : min (l.words * word_product (extents_at (drop l.form-index l.extents) l.sizes)) (2 ^ 64 - 1) ≡ words_of (extents_at l.extents l.sizes);
}
