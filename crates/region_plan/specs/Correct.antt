-- What a plan promises.
use Rattle.std.specs.Prelude.{◌≡◌, ℕ, List, [], map, pos, Ok, Err, Result}
use Rattle.affine_index.specs.declared.refusal.AffRefusal.TheVariants as aff
use Rattle.index_trees.specs.Value.{tree_value}
use Rattle.reindexer.specs.Limited.{Limited}
use Rattle.shape_rules.specs.Meant.{input_extents}
use Rattle.shape_rules.specs.Values.{HaveValues}
use Rattle.term_tree.specs.declared.term.Module.{Module}
use Rattle.term_tree.specs.Modules.{Allowed}
use Rattle.region_plan.specs.declared.length.Length.{Length}
use Rattle.region_plan.specs.Length.{length_tree, length_value}
use Rattle.region_plan.specs.Need.{module_need}
use Rattle.region_plan.specs.Ranges.{OutputsLieApart, module_ranges}
use Rattle.region_plan.specs.declared.region.Plan.{Plan}
use Rattle.region_plan.specs.declared.refusal.PlanRefusal.{PlanRefusal}
use Rattle.region_plan.specs.declared.refusal.PlanRefusal.TheVariants as refusal
use Rattle.region_plan.specs.declared.planned.Planned.{Planned}

-- the answer is the plan, or the limit that the first form breaks; want of memory may come in its place
abbrev pub IsPlan : Limited Planned → Result Plan PlanRefusal → Type 0
IsPlan due (Ok plan) = (p : Planned) × (due ≡ Ok p) × (plan.offsets ≡ p.offsets) × (plan.length ≡ length_tree p.need)
IsPlan due (Err refusal.CoefficientTooLarge) = due ≡ Err aff.CoefficientTooLarge
IsPlan due (Err refusal.IndexTooLong) = due ≡ Err aff.IndexTooLong
IsPlan due (Err refusal.Memory) = Unit {0}

-- at sizes s the length is the need of the module, the offsets are where its lets lie, and these lie within the length, each
-- apart from each let inside its definition or its body
pub record FitsAt (m : Module) (plan : Plan) (s : List ℕ) : Type 0 where
  pub length : tree_value plan.length s [] ≡ pos (module_need m s)
  pub offsets : HaveValues s plan.offsets (map (λ x. x.at) (module_ranges m s))
  pub apart : OutputsLieApart m.outputs s (input_extents m s) (module_need m s)

-- so at all allowed sizes
abbrev pub IsRight : Module → Plan → Type 0
IsRight m plan = (s : List ℕ) → Allowed m s → FitsAt m plan s

-- at all allowed sizes the length has the value of what the module needs
abbrev pub IsNeed : Module → Length → Type 0
IsNeed m l = (s : List ℕ) → Allowed m s → length_value s l ≡ pos (module_need m s)
