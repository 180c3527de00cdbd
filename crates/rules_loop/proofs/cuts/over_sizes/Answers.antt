use Rattle.std.proofs.Common.{rules, ◌≡◌, ap, ◌∙◌, length, get_or, false}
use Rattle.affine_index.specs.Limited.{items_scoped}
use Rattle.path_focus.specs.declared.rule.Arg.TheVariants.{Ix}
use Rattle.rules_loop.specs.Cuts.{with_cut}
use Rattle.rules_loop.proofs.CutArguments.{one_item, over_variables}
use Rattle.rules_loop.proofs.cuts.over_sizes.Goals as goal

pub returns-else-is_scoped : goal.returns-else-is_scoped
returns-else-is_scoped c =
    let many : length c.args.args.now ≡ 1 = search rules in
    let first : get_or c.args.args.now 0 c.only-item.result ≡ Ix c.in-Ix.x = search rules in
    let one = one_item c.args.args.now (Ix c.in-Ix.x) c.only-item.result many first in
    let out : items_scoped c.args.sizes 0 c.in-Ix.x ≡ false = search rules in
    λ f e g. ap (λ as'. with_cut f as' g) one ∙ over_variables f c.in-Ix.x g (ap (λ k. items_scoped k 0 c.in-Ix.x) e ∙ out)
