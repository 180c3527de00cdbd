use Rattle.std.proofs.Common.{◌≡◌, ◌-◌, ◌^◌, ◌+◌, ◌≤◌, min, map, drop}
use Rattle.affine_index.specs.Count.{atom_count, total, terms_count}
use Rattle.affine_index.proofs.count.+count.Given as goal

abbrev pub invariant-count_atoms-loop-atom : goal.invariant-count_atoms-loop-atom
invariant-count_atoms-loop-atom l = record {
  fits : l.total ≤ 2 ^ 64 - 1;
  rest : min (l.total + total (map atom_count (drop l.atom-index l.atoms))) (2 ^ 64 - 1) ≡ min (total (map atom_count l.atoms)) (2 ^ 64 - 1);
}

abbrev pub invariant-count_terms-loop-term : goal.invariant-count_terms-loop-term
invariant-count_terms-loop-term l = record {
  fits : l.total ≤ 2 ^ 64 - 1;
  rest : min (l.total + terms_count (drop l.term-index l.terms)) (2 ^ 64 - 1) ≡ min (terms_count l.terms) (2 ^ 64 - 1);
}
