use Rattle.fact_list.proofs.OrderedAtoms.{first-same, none-stands}
use Rattle.fact_list.proofs.search.begins.Goals as goal

pub returns-then-list-eq0 : goal.returns-then-list-eq0
returns-then-list-eq0 c = none-stands c.args.atom.now c.args.list.now c.if-list-eq0.true

pub returns : goal.returns
returns c = first-same c.args.atom.now c.args.list.now c.index-list-0.result c.same_atoms.result c.if-list-eq0.false c.index-list-0.is c.requires
    c.same_atoms.ensures
