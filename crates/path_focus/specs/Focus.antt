-- What holds at a focus, and when a term may stand in place of another there.
use Rattle.std.specs.Prelude.{◌≡◌, ◌≢◌, ℕ, zero, suc, ◌≤◌, ◌<◌, List, [], ◌∷◌, length, map, get_or, Bool, true, ◌&&◌, IsOk, Ok, Err, Option}
use Rattle.std.specs.Prelude.{Some, None, slice_get}
use Rattle.std.specs.Option.{option_and_then, option_map}
use Rattle.affine_index.specs.Condition.{all_hold}
use Rattle.affine_index.specs.declared.form.Items.{Items}
use Rattle.fact_list.specs.Facts.{binders}
use Rattle.fact_list.specs.Scoped.{facts_scoped}
use Rattle.fact_list.specs.Truth.{FactsHold, HoldsAtPlace, SizesWithin}
use Rattle.fact_list.specs.declared.facts.Facts.{Facts}
use Rattle.shape_rules.specs.Fits.{AllShaped, AllWords, LiteralsFit}
use Rattle.shape_rules.specs.Scopes.{all_free, given}
use Rattle.shape_rules.specs.Values.{AllHaveValues, NoneNegative}
use Rattle.term_tree.specs.Counts.{node_count}
use Rattle.term_tree.specs.Goals.{term_goals}
use Rattle.term_tree.specs.Meaning.{dims, den, Bound, no_bound, extents_of}
use Rattle.term_tree.specs.Modules.{extents_scoped, input_shapes}
use Rattle.term_tree.specs.Scope.{term_scoped}
use Rattle.term_tree.specs.Shape.{Extents, Shaped, shape_of}
use Rattle.term_tree.specs.declared.cause.Cause.{Cause}
use Rattle.term_tree.specs.declared.cause.Cause.TheVariants.{RankTooLarge, CoefficientTooLarge, IndexTooLong}
use Rattle.term_tree.specs.declared.term.Module.{Module}
use Rattle.term_tree.specs.declared.term.OutputDecl.{OutputDecl}
use Rattle.term_tree.specs.declared.term.Path.{Path}
use Rattle.term_tree.specs.declared.term.Term.{Term}
use Rattle.path_focus.specs.Frames.{Way, plugged, way}
use Rattle.path_focus.specs.Numbers.{GoalsFit}
use Rattle.path_focus.specs.Places.{at_end, moved_lets, no_way}
use Rattle.path_focus.specs.declared.place.BoundLet.{BoundLet}
use Rattle.path_focus.specs.declared.place.Focus.{Focus}
use Rattle.path_focus.specs.declared.rule.Condition.{Condition}

-- the focus at the end of a way, within the term of an output
abbrev pub focus_at : Module → Way → Focus
focus_at m w =
    let a = at_end (input_shapes m) w.frames no_way in
    record {
      facts = record { sizes = map (λ d. record { low = d.low; high = d.high }) m.sizes; assumes = m.assumes; path = a.path };
      shapes = record { lets = a.lets; inputs = input_shapes m };
      bound = moved_lets 0 a.definitions;
      term = w.term;
    }

-- the way to a place of a module
abbrev pub way_to : Module → Path → Option Way
way_to m p = option_and_then (λ o. way o.term p.steps) (slice_get m.outputs p.output)

-- the focus at a place of a module
abbrev pub focus_of : Module → Path → Option Focus
focus_of m p = option_map (focus_at m) (way_to m p)

-- outputs with another term for one of them
abbrev pub with_term : List OutputDecl → ℕ → Term → List OutputDecl
with_term [] k e = []
with_term (o ∷ os) zero e = record o { term = e } ∷ os
with_term (o ∷ os) (suc k) e = o ∷ with_term os k e

-- the module with another term at a place
abbrev pub plugged_in : Module → Path → Term → Option Module
plugged_in m p new =
    option_and_then (λ o. option_map (λ e. record m { outputs = with_term m.outputs p.output e }) (plugged o.term p.steps new)) (slice_get m.outputs p.output)

-- one number for each size, within its bounds, at which the assumes hold
abbrev pub AllowedBy : Facts → List ℕ → Type 0
AllowedBy f s = (length s ≡ length f.sizes) × SizesWithin s 0 f.sizes × (all_hold s [] f.assumes ≡ true)

-- the variable of a let has the extents and the value of its definition
abbrev pub LetHolds : List ℕ → List ℕ → List Bound → BoundLet → Type 0
LetHolds s r t b = (dims b.term s (extents_of t) ≡ (get_or t b.var no_bound).0) × (den b.term s r t ≡ (get_or t b.var no_bound).1)

-- so for each let
abbrev pub LetsHold : List ℕ → List ℕ → List Bound → List BoundLet → Type 0
LetsHold s r t [] = Unit {0}
LetsHold s r t (b ∷ bs) = LetHolds s r t b × LetsHold s r t bs

-- what holds wherever the term of the focus is computed
pub record Reached (f : Focus) (s r : List ℕ) (t : List Bound) : Type 0 where
  pub facts : FactsHold f.facts s r
  pub extents : AllHaveValues s (given f.shapes) (extents_of t)
  pub shaped : AllShaped t
  pub words : AllWords t
  pub lets : LetsHold s r t f.bound

-- a term may stand in place of the term of the focus
pub record KeepsMeaning (f : Focus) (new : Term) : Type 0 where
  pub scoped : term_scoped (length f.facts.sizes) new (binders f.facts.path) (length (given f.shapes)) ≡ true
  pub extents : (s : List ℕ) (ds : List (List ℕ)) → AllowedBy f.facts s → AllHaveValues s (given f.shapes) ds → dims new s ds ≡ dims f.term s ds
  pub goals : (s : List ℕ) (ds : List (List ℕ)) → AllowedBy f.facts s → AllHaveValues s (given f.shapes) ds → GoalsFit new s ds
  pub meaning : (s r : List ℕ) (t : List Bound) → AllowedBy f.facts s → Reached f s r t → den new s r t ≡ den f.term s r t

-- the cause is a limit of ranks or forms
abbrev pub IsLimitCause : Cause → Type 0
IsLimitCause RankTooLarge = Unit {0}
IsLimitCause CoefficientTooLarge = Unit {0}
IsLimitCause IndexTooLong = Unit {0}
IsLimitCause _ = ⊥

-- a new shape is the old one, or a limit is broken on the way to it
abbrev pub SameOrLimit : Shaped → Shaped → Type 0
SameOrLimit old (Ok ns) = old ≡ Ok ns
SameOrLimit old (Err m) = IsLimitCause m.cause

-- the new term has the shape of the term of the focus, or breaks a limit; no rank in it is wrong, and no two shapes in it differ
abbrev pub KeepsShape : Focus → Term → Type 0
KeepsShape f new = SameOrLimit (shape_of f.term (given f.shapes)) (shape_of new (given f.shapes))

-- a definition has the shape of its variable, few nodes, the scope of the focus, and literals below 2^64
pub record DefinitionFits (f : Focus) (b : BoundLet) : Type 0 where
  pub shaped : shape_of b.term (given f.shapes) ≡ Ok (get_or (given f.shapes) b.var [])
  pub small : node_count b.term ≤ 20000
  pub scoped : term_scoped (length f.facts.sizes) b.term (binders f.facts.path) (length (given f.shapes)) ≡ true
  pub literals : LiteralsFit b.term

-- so for each
abbrev pub Each : (BoundLet → Type 0) → List BoundLet → Type 0
Each P [] = Unit {0}
Each P (b ∷ bs) = P b × Each P bs

-- no number of shapes is negative
abbrev pub EachNotNegative : List ℕ → List Extents → Type 0
EachNotNegative s [] = Unit {0}
EachNotNegative s (ns ∷ ts) = NoneNegative s ns × EachNotNegative s ts

-- no two stand for one variable
abbrev pub AllApart : List BoundLet → Type 0
AllApart [] = Unit {0}
AllApart (b ∷ bs) = Each (λ c. c.var ≢ b.var) bs × AllApart bs

-- few enough sizes, nodes on the path, lets and inputs for their numbers to be moved; lets and inputs together, too
pub record IsFew (f : Focus) : Type 0 where
  pub sizes : length f.facts.sizes ≤ 2147483647
  pub path : length f.facts.path ≤ 2147483647
  pub lets : length f.shapes.lets ≤ 20000
  pub inputs : length f.shapes.inputs ≤ 2147483647

-- the extents of shapes hold so many sizes alone
abbrev pub shapes_scoped : ℕ → List Extents → Bool
shapes_scoped sizes [] = true
shapes_scoped sizes (ns ∷ ts) = extents_scoped sizes ns && shapes_scoped sizes ts

-- what a rule may take of a focus
pub record IsProper (f : Focus) : Type 0 where
  pub shaped : IsOk (shape_of f.term (given f.shapes))
  pub small : node_count f.term ≤ 20000
  pub literals : LiteralsFit f.term
  pub definitions : Each (DefinitionFits f) f.bound
  pub extents : (s : List ℕ) → AllowedBy f.facts s → EachNotNegative s (given f.shapes)
  pub goals : (s : List ℕ) → AllowedBy f.facts s → NoneNegative s (term_goals f.term (given f.shapes))
  pub definition_goals : (s : List ℕ) → AllowedBy f.facts s → Each (λ b. NoneNegative s (term_goals b.term (given f.shapes))) f.bound
  pub scoped : facts_scoped f.facts ≡ true
  pub term_scope : term_scoped (length f.facts.sizes) f.term (binders f.facts.path) (length (given f.shapes)) ≡ true
  pub free : all_free (given f.shapes) ≡ true
  pub shapes : shapes_scoped (length f.facts.sizes) (given f.shapes) ≡ true
  pub lets : Each (λ b. b.var < length f.shapes.lets) f.bound
  pub apart : AllApart f.bound
  pub few : IsFew f

-- a goal is at least 0 wherever facts hold
abbrev pub GoalTrue : Facts → Option Items → Type 0
GoalTrue f None = ⊥
GoalTrue f (Some g) = HoldsAtPlace f g

-- the condition has a goal, which is at least 0 wherever its facts hold
abbrev pub IsTrueGoal : Condition → Type 0
IsTrueGoal c = GoalTrue c.facts c.goal
