use Rattle.std.proofs.Common.{◌≡◌, List, ℕ, true, subst}
use Rattle.loop_run.specs.Fits.{all_fit}
use Rattle.version_run.proofs.SizeLaws.{within-fit}
use Rattle.version_run.proofs.version.run_given.Goals as goal

pub run_checked-requires-clause-sizes : goal.run_checked-requires-clause-sizes
run_checked-requires-clause-sizes c = λ none.
    let fits : all_fit c.as_slice.result.now ≡ true =
    within-fit c.args.module.now.sizes c.as_slice.result.now (c.broken_constraint-broken.ensures.allowed none).within c.requires.bounded in
    subst (λ (ns : List ℕ). all_fit ns ≡ true) c.as_slice.ensures fits
