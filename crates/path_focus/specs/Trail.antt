-- The way down to a place, one node at a time: what is known there, and on the way back the definitions of the lets above.
use Rattle.std.specs.Prelude.{◌≡◌, ℕ, ◌+◌, ◌≤◌, List, [], ◌∷◌, ◌++◌, length, map, true, IsOk, Ok, Err, Result, Option, Some, None, ◌==◌, if◌then◌else◌}
use Rattle.binders.specs.Answers.{IsWithinReach}
use Rattle.binders.specs.Maps.{mapped}
use Rattle.binders.specs.PlainMaps.{shift_map, shift_reach}
use Rattle.fact_list.specs.Facts.{binders}
use Rattle.fact_list.specs.declared.facts.PathFact.{PathFact}
use Rattle.fact_list.specs.declared.facts.PathFact.TheVariants.{Bound, Holds}
use Rattle.shape_rules.specs.Scopes.{IsScoped, all_free, given}
use Rattle.term_tree.specs.Counts.{node_count, node_depth}
use Rattle.term_tree.specs.Goals.{extents_or_none}
use Rattle.term_tree.specs.Scope.{term_scoped}
use Rattle.term_tree.specs.Shape.{Extents, shape_of}
use Rattle.term_tree.specs.declared.term.Module.{Module}
use Rattle.term_tree.specs.declared.term.Term.{Term}
use Rattle.term_tree.specs.declared.term.Term.TheOpen.{Term-F}
use Rattle.term_tree.specs.declared.term.Term.TheVariants as variant
use Rattle.path_focus.specs.Frames.{Frame, OfGen, OfSum, OfGuard, OfBody, Way}
use Rattle.path_focus.specs.declared.place.BoundLet.{BoundLet}
use Rattle.path_focus.specs.declared.place.Focus.{Focus}
use Rattle.path_focus.specs.declared.place.PathRefusal.{PathRefusal}
use Rattle.path_focus.specs.declared.place.PathRefusal.TheVariants.{NoSuchPath, Memory}
use Rattle.path_focus.specs.declared.trail.Trail.{Trail}

-- one fact more
abbrev pub with_fact : PathFact → Trail → Trail
with_fact p z = record z { path = z.path ++ p ∷ [] }

-- one let more, with the shape of its definition
abbrev pub with_let : Term → Trail → Trail
with_let a z = record z { shapes = record { lets = extents_or_none (shape_of a (given z.shapes)) ∷ z.shapes.lets; inputs = z.shapes.inputs } }

-- the definition of the next let above, moved to the place
abbrev pub moved_let : Trail → Term → BoundLet
moved_let z a = record { var = length z.bound; term = mapped (shift_map z.over (length z.bound + 1)) 0 0 a }

-- on the way down below one node
abbrev pub entered : Frame → Trail → Trail
entered (OfGen n) z = with_fact (Bound n) z
entered (OfSum n) z = with_fact (Bound n) z
entered (OfGuard c) z = with_fact (Holds c) z
entered (OfBody a) z = with_let a z
entered _ z = z

-- on the way back above it
abbrev pub left : Frame → Trail → Trail
left (OfGen n) z = record z { over = z.over + 1 }
left (OfSum n) z = record z { over = z.over + 1 }
left (OfBody a) z = record z { bound = z.bound ++ moved_let z a ∷ [] }
left _ z = z

-- down a whole way and back
abbrev pub trailed : List Frame → Trail → Trail
trailed [] z = z
trailed (f ∷ fs) z = left f (trailed fs (entered f z))

-- the same of one level of a term, below the child of this number
abbrev pub entered_level : Term-F Term → ℕ → Trail → Trail
entered_level (Term-F.Gen n e) k z = with_fact (Bound n) z
entered_level (Term-F.Sum n e) k z = with_fact (Bound n) z
entered_level (Term-F.Guard c e) k z = with_fact (Holds c) z
entered_level (Term-F.Let a b) k z = if k == 0 then z else with_let a z
entered_level _ k z = z

abbrev pub left_level : Term-F Term → ℕ → Trail → Trail
left_level (Term-F.Gen n e) k z = record z { over = z.over + 1 }
left_level (Term-F.Sum n e) k z = record z { over = z.over + 1 }
left_level (Term-F.Let a b) k z = if k == 0 then z else record z { bound = z.bound ++ moved_let z a ∷ [] }
left_level _ k z = z

-- the first of two children, where the one of this number is new; and the second
abbrev pub first_of : ℕ → Term → Term → Term
first_of k new a = if k == 0 then new else a

abbrev pub second_of : ℕ → Term → Term → Term
second_of k new b = if k == 0 then b else new

-- one level of a term with another child of this number; a leaf has none
abbrev pub filled_level : Term-F Term → ℕ → Term → Term
filled_level (Term-F.Lit w) k new = variant.Lit w
filled_level (Term-F.TVar q) k new = variant.TVar q
filled_level (Term-F.WordOf x) k new = variant.WordOf x
filled_level (Term-F.Index e x) k new = variant.Index new x
filled_level (Term-F.Gen n e) k new = variant.Gen n new
filled_level (Term-F.Sum n e) k new = variant.Sum n new
filled_level (Term-F.Guard c e) k new = variant.Guard c new
filled_level (Term-F.Let a b) k new = variant.Let (first_of k new a) (second_of k new b)
filled_level (Term-F.Add a b) k new = variant.Add (first_of k new a) (second_of k new b)
filled_level (Term-F.Sub a b) k new = variant.Sub (first_of k new a) (second_of k new b)
filled_level (Term-F.Mul a b) k new = variant.Mul (first_of k new a) (second_of k new b)
filled_level (Term-F.Concat a b) k new = variant.Concat (first_of k new a) (second_of k new b)
filled_level (Term-F.Flatten e) k new = variant.Flatten new
filled_level (Term-F.Split m e) k new = variant.Split m new
filled_level (Term-F.Transpose e) k new = variant.Transpose new
filled_level (Term-F.TruncL n e) k new = variant.TruncL n new
filled_level (Term-F.TruncR n e) k new = variant.TruncR n new
filled_level (Term-F.PadL n e) k new = variant.PadL n new
filled_level (Term-F.PadR n e) k new = variant.PadR n new

-- a definition whose shape may be asked for
pub record MayShape (z : Trail) (a : Term) : Type 0 where
  pub scoped : IsScoped z.shapes a
  pub free : all_free (given z.shapes) ≡ true
  pub shaped : IsOk (shape_of a (given z.shapes))

-- a definition that may be moved to the place
pub record MayMove (z : Trail) (a : Term) : Type 0 where
  pub over : z.over ≤ 20000
  pub lets : length z.bound ≤ 20000
  pub deep : node_depth a ≤ 2147483647
  pub small : node_count a ≤ 20000
  pub within : IsWithinReach (shift_reach z.over (length z.bound + 1)) a

-- what a level asks on the way down
abbrev pub MayEnter : Term-F Term → Trail → Type 0
MayEnter (Term-F.Let a b) z = MayShape z a
MayEnter _ z = Unit {0}

-- what it asks on the way back
abbrev pub MayLeave : Term-F Term → Trail → Type 0
MayLeave (Term-F.Gen n e) z = z.over ≤ 20000
MayLeave (Term-F.Sum n e) z = z.over ≤ 20000
MayLeave (Term-F.Let a b) z = MayMove z a
MayLeave _ z = Unit {0}

-- the way may go down into the term: it has a shape, is in scope, and is small
pub record MayGo (z : Trail) (e : Term) : Type 0 where
  pub sizes : ℕ
  pub scoped : term_scoped sizes e (binders z.path) (length (given z.shapes)) ≡ true
  pub shaped : IsOk (shape_of e (given z.shapes))
  pub free : all_free (given z.shapes) ≡ true
  pub index : binders z.path + node_count e ≤ 20000
  pub tensor : length (given z.shapes) + node_count e ≤ 2147503647
  pub room : z.over + length z.bound + node_count e ≤ 20000

-- what stands at the end of a way, and what the way down and back has told
abbrev pub Reaches : Option Way → Trail → Trail → Term → Type 0
Reaches None z z' e = ⊥
Reaches (Some w) z z' e = (e ≡ w.term) × (z' ≡ trailed w.frames z)

-- the place is reached, or there is none
abbrev pub Goes : Option Way → Trail → Trail → Result Term PathRefusal → Type 0
Goes w z z' (Ok e) = Reaches w z z' e
Goes w z z' (Err NoSuchPath) = w ≡ None
Goes w z z' (Err Memory) = Unit {0}

-- the trail that a place begins with, over the shapes of the inputs
abbrev pub start_of : List Extents → Trail
start_of inputs = record { path = []; shapes = record { lets = []; inputs = inputs }; over = 0; bound = [] }

-- what a trail has told of a module, and the term that it has reached
abbrev pub focus_by : Module → Trail → Term → Focus
focus_by m z e = record {
  facts = record { sizes = map (λ d. record { low = d.low; high = d.high }) m.sizes; assumes = m.assumes; path = z.path };
  shapes = z.shapes;
  bound = z.bound;
  term = e;
}
