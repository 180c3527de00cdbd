use Rattle.std.proofs.Common.{◌∙◌, ap, sym, subst}
use Rattle.affine_index.proofs.Factors.{SortedFactors}
use Rattle.fact_list.proofs.OrderedAtoms.{slice-sorted, stands-slice}
use Rattle.fact_list.specs.Atoms.{stands_in}
use Rattle.fact_list.proofs.met.MetAtoms.contains.Goals as goal

pub begins-requires : goal.begins-requires
begins-requires c =
    slice-sorted c.args.atom.now c.as_slice-list.result.now c.place-at.result (subst SortedFactors (sym c.as_slice-list.ensures.value) c.self.invariant.sorted)
    c.place-at.ensures.after

pub returns : goal.returns
returns c =
    c.begins.ensures ∙ stands-slice c.args.atom.now c.as_slice-list.result.now c.place-at.result c.place-at.ensures.before
    ∙ ap (stands_in c.args.atom.now) c.as_slice-list.ensures.value
    ∙ c.self.invariant.same c.args.atom.now ∙ ap (stands_in c.args.atom.now) c.self.view_is
