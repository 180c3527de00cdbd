-- In a module that may be lowered each printed form is the normal form of its tree, so that the loops are those of the version.
use Rattle.std.proofs.Common.{ℕ, List, [], ◌∷◌, length}
use Rattle.final_rules.specs.Printed.{Printed}
use Rattle.final_rules.specs.Rules.{body_printed}
use Rattle.final_rules.proofs.Walk.{Every}
use Rattle.lowering_laws.specs.Correct.{NestsAgree}
use Rattle.lowering_laws.proofs.NestLaws.{Back, module_nest_is}
use Rattle.lowering_laws.proofs.PrintedHeld.{Held, accepted_held}
use Rattle.lowering_laws.proofs.TreeForms.{tree_back}

all_back : (sizes : ℕ) (is : List Printed) → Every (Held sizes) is → Every Back is
all_back sizes [] h = tt
all_back sizes (i ∷ is) h = ((h.0.0, h.0.1, tree_back (length i.scope) sizes h.0.0 h.0.2 h.0.3), all_back sizes is h.1)

pub nests_agree : NestsAgree
nests_agree m finals marks low =
    let held = accepted_held m finals marks low in module_nest_is m marks (all_back (length m.sizes) (body_printed m m.outputs) held.body)
