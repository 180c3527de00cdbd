use Rattle.std.proofs.Common.{◌∙◌, ap, refl, length}
use Rattle.term_tree.specs.Scope.{term_scoped}
use Rattle.shape_rows.proofs.RowLaws.{one_more, one_output, one_size_scoped}
use Rattle.shape_rows.proofs.tests.module.Goals as goal

pub returns : goal.returns
returns c =
    let sizes = c.push.new.self in
    let outputs = c.push-2.new.self in
    let one_size = (c.in_ok-push.ensures {u = tt}).ok in
    let same = (c.in_ok-push-2.ensures {u = tt}).ok in (
      one_size_scoped c.new.result sizes c.args.inputs outputs c.new.ensures (one_more c.new-sizes.result sizes _ one_size c.new-sizes.ensures)
          c.requires.inputs
          (one_output 1 (length c.args.inputs) c.new-outputs.result outputs _ same c.new-outputs.ensures
          (ap (λ e. term_scoped 1 e 0 (length c.args.inputs)) c.into_inner.ensures ∙ c.requires.term)),
      refl,
      one_more c.new-outputs.result outputs _ same c.new-outputs.ensures,
    )
