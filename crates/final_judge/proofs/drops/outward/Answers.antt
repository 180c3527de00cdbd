use Rattle.std.proofs.Common.{◌∙◌, ap, sym}
use Rattle.final_judge.specs.Ready.{step_ready}
use Rattle.final_judge.proofs.DropLaws.{ready-under}
use Rattle.final_judge.proofs.drops.outward.Goals as goal

pub after-requires : goal.after-requires
after-requires c = ap step_ready c.in_ok-frame.ensures ∙ sym (ready-under c.args.loops c.args.node.now) ∙ c.requires
