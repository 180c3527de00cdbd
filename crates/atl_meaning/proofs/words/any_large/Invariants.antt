use Rattle.std.proofs.Common.{◌≡◌, drop, length, true}
use Rattle.term_tree.specs.Modules.{extents_scoped}
use Rattle.atl_meaning.specs.Words.{any_large}
use Rattle.atl_meaning.proofs.words.any_large.Given as goal

abbrev pub invariant-loop-form : goal.invariant-loop-form
invariant-loop-form l = record {
  scoped : extents_scoped (length l.sizes) (drop l.form-index l.extents) ≡ true;
  rest : any_large l.sizes (drop l.form-index l.extents) ≡ any_large l.sizes l.extents;
}
