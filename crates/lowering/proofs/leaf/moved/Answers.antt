use Rattle.std.proofs.Common.{◌≡◌, rules, true}
use Rattle.affine_index.specs.Limited.{items_scoped}
use Rattle.lowering.proofs.FormLaws.{moved-fits}
use Rattle.lowering.proofs.leaf.moved.Goals as goal

pub shift-requires : goal.shift-requires
shift-requires c =
    let small : items_scoped 2147483647 2147483647 c.args.index.now ≡ true = search rules in moved-fits c.args.index.now small
