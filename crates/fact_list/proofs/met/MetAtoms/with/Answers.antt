use Rattle.std.proofs.Common.{List, subst}
use Rattle.affine_index.specs.declared.form.Atom.{Atom}
use Rattle.fact_list.proofs.OrderedAtoms.{known-with}
use Rattle.fact_list.specs.Sorted.{Splits}
use Rattle.fact_list.proofs.met.MetAtoms.with.Goals as goal

pub invariant_of-result : goal.invariant_of-result
invariant_of-result c =
    let a = c.args.atom.now in
    let splits = subst (λ (xs : List Atom). Splits a xs c.place-at.result) c.as_slice.ensures.value c.place-at.ensures in
    known-with c.self.inside.met c.self.inside.sorted.items c.push.new.self c.insert.new.self.items a _ _ c.place-at.result c.self.invariant splits
    c.in_ok-push.ensures.ok (c.in_ok-copy_atom.ensures {u = tt}) c.in-Ok.ensures.items
    (c.in_ok-copy_atom-2.ensures {u = tt})
