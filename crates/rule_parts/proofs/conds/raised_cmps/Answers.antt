use Rattle.std.proofs.Common.{◌≡◌, sym, subst, true}
use Rattle.affine_index.specs.Condition.{cmp_form}
use Rattle.affine_index.specs.Put.{numbers_fit}
use Rattle.affine_index.specs.declared.cond.Cmp.{Cmp}
use Rattle.rule_parts.proofs.conds.raised_cmps.Goals as goal

pub raised_cmp-requires : goal.raised_cmp-requires
raised_cmp-requires c =
    subst (λ (x : Cmp). numbers_fit 0 1 (cmp_form x) ≡ true) (sym c.cmp-item.is) (c.requires c.loop-cmp.cmp-index c.cmp-item.result c.loop-cmp-test.true)
