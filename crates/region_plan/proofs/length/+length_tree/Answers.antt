use Rattle.std.proofs.Common.{rules, ◌≡◌}
use Rattle.region_plan.specs.Length.{length_tree}
use Rattle.region_plan.proofs.Forms.{tree_of}
use Rattle.region_plan.proofs.length.+length_tree.Goals as goal

pub returns-in_ok-second-in-Topped : goal.returns-in_ok-second-in-Topped
returns-in_ok-second-in-Topped t c =
    let f : c.in_ok-first-in-Topped.first ≡ length_tree c.in-Topped.a = search rules in
    let g : c.in_ok-second-in-Topped.second ≡ length_tree c.in-Topped.b = search rules in
    tree_of c.args.length.now c.in-Topped.x c.in-Topped.a c.in-Topped.b c.in_ok-first-in-Topped.first c.in_ok-second-in-Topped.second
    c.tree_after-in-Topped.result c.in-Topped.is f g c.tree_after-in-Topped.ensures.tree
