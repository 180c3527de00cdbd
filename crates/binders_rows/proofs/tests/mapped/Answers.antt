use Rattle.std.proofs.Common.{arith, refl, true}
use Rattle.binders.proofs.ReachLaws.{within_everywhere}
use Rattle.binders_rows.proofs.tests.mapped.Goals as goal

pub map_term-requires : goal.map_term-requires
map_term-requires c = record {
  deep = omega (arith, c.requires);
  within = within_everywhere (record { has_index = λ i j v. true; has_tensor = λ i j q. true }) (λ i j v. refl) (λ i j q. refl) c.args.term.now;
}
