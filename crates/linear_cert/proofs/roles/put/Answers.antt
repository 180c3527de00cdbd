use Rattle.std.proofs.Common.{ℕ, List, ap, arith, sym, subst, ◌∙◌}
use Rattle.fact_list.specs.Sorted.{Splits}
use Rattle.linear_cert.proofs.RoleLaws.{keys-length, mapped-known, mapped-more}
use Rattle.linear_cert.specs.Roles.{first_place, keys, role_atom, wanted_role}
use Rattle.linear_cert.proofs.roles.put.Goals as goal

pub insert-requires : goal.insert-requires
insert-requires c = omega (arith, c.in-Err.ensures.splits.within, keys-length c.args.facts.now c.as_slice.result.now, c.as_slice.ensures.len)

pub returns-in-Ok : goal.returns-in-Ok
returns-in-Ok c =
    let facts = c.args.facts.now in
    let r = wanted_role c.args.wanted in
    mapped-known facts c.args.places.items c.args.at _ r c.requires.within c.requires.role
    (sym (ap (first_place facts r) c.as_slice.ensures.value) ∙ c.in-Ok.ensures.found) c.requires.mapped

pub returns-in-Ok-insert : goal.returns-in-Ok-insert
returns-in-Ok-insert c =
    let facts = c.args.facts.now in
    let r = wanted_role c.args.wanted in
    let n = c.in-Err.n in
    let splits = subst (λ (ps : List ℕ). Splits (role_atom r) (keys facts ps) n) c.as_slice.ensures.value c.in-Err.ensures.splits in
    mapped-more facts c.args.places.items c.insert.new.self.items c.args.at n r c.requires.within c.requires.role
    (sym (ap (first_place facts r) c.as_slice.ensures.value) ∙ c.in-Err.ensures.none)
    splits c.requires.mapped c.in-Ok-insert.ensures.items
