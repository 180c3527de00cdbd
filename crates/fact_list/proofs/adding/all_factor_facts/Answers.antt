use Rattle.affine_index.proofs.Factors.{mul_parts}
use Rattle.fact_list.proofs.AddLaws.{each-at}
use Rattle.fact_list.proofs.CodeLaws.{factors-normal}
use Rattle.fact_list.proofs.OrderedAtoms.{sorted-slice}
use Rattle.fact_list.specs.Facts.{NormalAtom}
use Rattle.fact_list.proofs.adding.all_factor_facts.Goals as goal

pub begins-requires : goal.begins-requires
begins-requires c =
    let fs = c.args.factors.now in
    sorted-slice fs c.loop-i.i c.index-factors-i.result c.loop-i-test.true c.index-factors-i.is (mul_parts fs c.requires.normal.0).good.sorted

pub factor_facts-requires-clause-factor : goal.factor_facts-requires-clause-factor
factor_facts-requires-clause-factor c =
    let fs = c.args.factors.now in
    each-at NormalAtom fs c.loop-i.i c.index-factors-i-in-loop-i.result c.loop-i-test.true c.index-factors-i-in-loop-i.is (factors-normal fs c.requires.normal)
