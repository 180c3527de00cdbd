use Rattle.std.proofs.Common.{rules, arith, length}
use Rattle.std.proofs.lemmas.Int.{to_z-of_z}
use Rattle.affine_index.specs.declared.form.Atom.TheViews.{the_lemmas}
use Rattle.affine_index.proofs.LimitedLaws.{ready-items, ready-Mul, value-items}
use Rattle.affine_index.proofs.value.+value.Goals as goal

pub items_value-added_all-total-requires : goal.items_value-added_all-total-requires
items_value-added_all-total-requires t c = (search (rules, the_lemmas), cc (ready-items (length c.args.sizes.now) (length c.args.vars.now) c.args.items.now))

pub items_value-returns : goal.items_value-returns
items_value-returns t c = grind (arith, to_z-of_z, value-items c.args.sizes.now c.args.vars.now c.args.items.now)

pub times-times_all-requires : goal.times-times_all-requires
times-times_all-requires t c = (search (rules, the_lemmas), cc (ready-Mul (length c.args.sizes.now) (length c.args.vars.now) c.in-Mul.factors))
