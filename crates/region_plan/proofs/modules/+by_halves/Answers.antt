use Rattle.std.proofs.Common.{◌≡◌, ◌≤◌, ◌-◌, ◌/◌, ◌+◌, ◌%◌, ◌∙◌, ap, take, arith, refl, subst}
use Rattle.std.specs.Prelude.{MatchResult}
use Rattle.affine_index.specs.declared.refusal.AffRefusal.TheVariants.{Memory}
use Rattle.region_plan.specs.Needed.{by_halves}
use Rattle.region_plan.specs.declared.length.Length.{Length}
use Rattle.region_plan.proofs.OutputLaws.{halves_step}
use Rattle.region_plan.proofs.modules.+by_halves.Goals as goal

pub returns-clause-larger : goal.returns-clause-larger
returns-clause-larger t c =
    let half = c.args.count / 2 + c.args.count % 2 in
    let two : 2 ≤ c.args.count = omega (arith, c.if-count-eq0.false, c.if-count-eq1.false) in
    let step = halves_step c.args.room c.args.count half c.args.lengths.now c.in_ok-first.first c.in_ok-second.second two c.requires.there c.requires.room refl
    c.in_ok-first.ensures.larger
    (c.in_ok-second.ensures.larger ∙ ap (λ ls. by_halves (c.args.room - 1) (take (c.args.count - half) ls)) c.in_ok-first.ensures.rest) in
    subst (λ (l : Length). MatchResult c.larger_of.result (λ r. r ≡ l) (λ e. e ≡ Memory)) step c.larger_of.ensures
