use Rattle.std.proofs.Common.{◌≡◌, true, subst, sym, arith}
use Rattle.term_tree.specs.Modules.{outputs_scoped}
use Rattle.shape_rows.proofs.RowLaws.{one_size_scoped}
use Rattle.focus_rows.proofs.tests.module.Goals as goal

pub returns-clause-scoped : goal.returns-clause-scoped
returns-clause-scoped c =
    let inputs = c.in_ok-inputs.ensures {u = tt} in
    one_size_scoped c.new.result c.in_ok-sizes.sizes c.in_ok-inputs.inputs c.in_ok-outputs.outputs c.new.ensures (c.in_ok-sizes.ensures {u = tt}) inputs.0
    (subst (λ n. outputs_scoped 1 n c.in_ok-outputs.outputs ≡ true) (sym inputs.1) (c.in_ok-outputs.ensures {u = tt}).0)

pub returns-clause-limited : goal.returns-clause-limited
returns-clause-limited c = record {
  nodes = (c.in_ok-outputs.ensures {u = tt}).2;
  sizes = omega (arith, c.in_ok-sizes.ensures {u = tt});
  inputs = omega (arith, (c.in_ok-inputs.ensures {u = tt}).1);
}
