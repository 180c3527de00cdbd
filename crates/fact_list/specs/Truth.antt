-- When facts hold at sizes and index values, and what that says of a goal.
use Rattle.std.specs.Prelude.{◌≡◌, ℕ, suc, ◌≤◌, List, [], ◌∷◌, drop, slice_index, pos, ◌≤ℤ◌, true}
use Rattle.affine_index.specs.Condition.{all_hold, cmp_holds}
use Rattle.affine_index.specs.Normal.{is_normal}
use Rattle.affine_index.specs.Value.{items_value}
use Rattle.affine_index.specs.declared.form.Items.{Items}
use Rattle.fact_list.specs.Facts.{binders, declared_facts, facts_of}
use Rattle.fact_list.specs.Normal.{PathNormal}
use Rattle.fact_list.specs.declared.facts.Facts.{Facts}
use Rattle.fact_list.specs.declared.facts.PathFact.{PathFact}
use Rattle.fact_list.specs.declared.facts.PathFact.TheVariants.{Bound, Holds}
use Rattle.fact_list.specs.declared.facts.SizeBounds.{SizeBounds}
use Rattle.fact_list.specs.declared.role.Fact.{Fact}

-- a fact holds
abbrev pub FactTrue : List ℕ → List ℕ → Fact → Type 0
FactTrue s r x = cmp_holds s r x.cmp ≡ true

-- all facts hold
abbrev pub AllTrue : List ℕ → List ℕ → List Fact → Type 0
AllTrue s r [] = Unit {0}
AllTrue s r (x ∷ xs) = FactTrue s r x × AllTrue s r xs

module _ (s : List ℕ) where
  -- each size, from a number on, is within its bounds, both included
  abbrev pub SizesWithin : ℕ → List SizeBounds → Type 0
  SizesWithin k [] = Unit {0}
  SizesWithin k (b ∷ bs) = (b.low ≤ slice_index s k) × (slice_index s k ≤ b.high) × SizesWithin (suc k) bs

  -- along a path from outside each variable is below its extent, and each guard holds at the variables before it; the innermost variable stands first
  abbrev pub PathHolds : List ℕ → List PathFact → Type 0
  PathHolds r [] = Unit {0}
  PathHolds r (Bound n ∷ ps) = (pos (suc (slice_index r (binders ps))) ≤ℤ items_value s r n) × PathHolds r ps
  PathHolds r (Holds c ∷ ps) = (all_hold s (drop (binders ps) r) c.all ≡ true) × PathHolds r ps

-- the sizes are within their bounds, and the assumes and the path hold
abbrev pub FactsHold : Facts → List ℕ → List ℕ → Type 0
FactsHold f s r = SizesWithin s 0 f.sizes × (all_hold s r f.assumes ≡ true) × PathHolds s r f.path

-- a goal is at least 0 wherever sizes, assumes and path are as the facts say
abbrev pub HoldsAtPlace : Facts → Items → Type 0
HoldsAtPlace f goal = (s r : List ℕ) → FactsHold f s r → pos 0 ≤ℤ items_value s r goal

-- a goal is at least 0 at all sizes and index values at which the bounds of the sizes, the assumes and the facts of the path hold
abbrev pub HoldsWithFacts : Facts → Items → Type 0
HoldsWithFacts f goal = (s r : List ℕ) → AllTrue s r (declared_facts f) → pos 0 ≤ℤ items_value s r goal

-- the declared facts hold wherever sizes, assumes and path are as the facts say
abbrev pub DeclaredFactsHold : Type 0
DeclaredFactsHold = (f : Facts) → PathNormal f.path → (s r : List ℕ) → FactsHold f s r → AllTrue s r (declared_facts f)

-- each fact of the list of a goal in normal form holds where the declared facts do
abbrev pub ListedFactsHold : Type 0
ListedFactsHold = (f : Facts) (goal : Items) → is_normal goal ≡ true → (s r : List ℕ) → AllTrue s r (declared_facts f) → AllTrue s r (facts_of f goal)
