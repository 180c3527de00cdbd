use Rattle.std.proofs.Common.{◌≡◌, drop, length, take, true}
use Rattle.term_tree.specs.Modules.{extents_at, extents_scoped}
use Rattle.atl_meaning.specs.Words.{any_large}
use Rattle.plain_run.proofs.shapes.extents.Given as goal

abbrev pub invariant-loop-form : goal.invariant-loop-form
invariant-loop-form l = record {
  scoped : extents_scoped (length l.sizes) (drop l.form-index l.forms) ≡ true;
  rest : any_large l.floor (drop l.form-index l.forms) ≡ any_large l.floor l.forms;
  numbers : l.numbers ≡ extents_at (take l.form-index l.forms) l.sizes;
}
