use Rattle.std.proofs.Common.{subst}
use Rattle.affine_index.specs.declared.form.Items.{Items}
use Rattle.reindexer.specs.Limited.{Answers, Limited}
use Rattle.final_rules.proofs.PrintingLaws.{sited-is}
use Rattle.lowering.proofs.forms.sited.Goals as goal

pub returns : goal.returns
returns c =
    subst (λ (due : Limited Items). Answers due c.behind.result)
    (sited-is c.args.scene.now c.args.var c.args.indices.now c.in_ok-offset.offset c.extents_at-extents.result.now c.requires.there c.in_ok-offset.ensures
    c.extents_at-extents.ensures)
    c.behind.ensures
