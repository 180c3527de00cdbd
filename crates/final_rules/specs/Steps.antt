-- Where the part of a node with one part stands, within the same buffer.
use Rattle.std.specs.Prelude.{List}
use Rattle.term_tree.specs.declared.term.Term.{Term}
use Rattle.term_tree.specs.Syntax.{gen, sum, guard, flatten, split, transpose, trunc_l, trunc_r, pad_l}
use Rattle.term_tree.specs.Shape.{Extents}
use Rattle.fact_list.specs.declared.facts.PathFact.TheVariants.{Bound, Holds}
use Rattle.final_rules.specs.declared.spot.Around.TheVariants.{Swapped, Tiled, Later, Without}
use Rattle.final_rules.specs.declared.spot.Spot.{Spot}
use Rattle.final_rules.specs.Places.{before_end, inside, joined_by, on_path, one_gen}

abbrev pub child_spot : Term → List Extents → Spot → Spot
child_spot (gen n e) ts q = one_gen n q
child_spot (sum n e) ts q = on_path (Bound n) q
child_spot (guard c e) ts q = on_path (Holds c) q
child_spot (flatten e) ts q = inside (joined_by e ts) q
child_spot (split k e) ts q = inside (Tiled k) q
child_spot (transpose e) ts q = inside Swapped q
child_spot (trunc_l a e) ts q = inside (Without a) q
child_spot (trunc_r a e) ts q = inside (before_end a e ts) q
child_spot (pad_l a e) ts q = inside (Later a) q
child_spot _ ts q = q
