use Rattle.std.proofs.Common.{◌≡◌, List, ℕ, true, subst}
use Rattle.loop_run.specs.Fits.{all_fit}
use Rattle.version_run.proofs.SizeLaws.{within-fit}
use Rattle.trial_run.proofs.summed.run_checked.Goals as goal

pub run_summed-requires-clause-sizes : goal.run_summed-requires-clause-sizes
run_summed-requires-clause-sizes c =
    let fits : all_fit c.as_slice.result.now ≡ true =
    within-fit c.args.module.now.sizes c.as_slice.result.now (c.broken_constraint.ensures.allowed c.in-None.is).within c.requires.bounded in
    subst (λ (ns : List ℕ). all_fit ns ≡ true) c.as_slice.ensures fits
