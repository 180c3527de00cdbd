-- What the walk of printed indices asks: each name is in scope, and amounts and extents hold no index variable.
use Rattle.std.specs.Prelude.{◌≡◌, ℕ, ◌<◌, List, [], ◌∷◌, Bool, true, ◌&&◌, length, map, get_or, Option, Some, None, Ok}
use Rattle.affine_index.specs.Limited.{items_scoped}
use Rattle.affine_index.specs.Put.{numbers_fit}
use Rattle.affine_index.specs.declared.form.Items.{Items}
use Rattle.reindexer.specs.Ready.{extents_ready, frames_ready}
use Rattle.region_plan.specs.Length.{zero_form}
use Rattle.shape_rules.specs.Scopes.{given}
use Rattle.term_tree.specs.Modules.{extents_scoped}
use Rattle.term_tree.specs.Scope.{term_scoped}
use Rattle.term_tree.specs.Shape.{Extents}
use Rattle.term_tree.specs.declared.term.OutputDecl.{OutputDecl}
use Rattle.term_tree.specs.declared.term.Term.{Term}
use Rattle.final_rules.specs.Places.{frame_of}
use Rattle.final_rules.specs.Printed.{Printed, full_read_printed, greatest, printed_of, scope_of}
use Rattle.final_rules.specs.Printing.{WordReady}
use Rattle.final_rules.specs.declared.printing.Scene.{Scene}
use Rattle.final_rules.specs.declared.read.Read.{Read}
use Rattle.final_rules.specs.declared.spot.Spot.{Spot}
use Rattle.index_limits.specs.Modules.{output_printed}
use Rattle.index_limits.specs.Places.{place_at, stored_at}
use Rattle.index_limits.specs.declared.stores.Target.{Target}

-- each name in a form is that of one of so many sizes, or of a variable of its scope
abbrev pub InScope : ℕ → Printed → Type 0
InScope sizes i = (x : Items) → i.form ≡ Ok x → items_scoped sizes (length i.scope) x ≡ true

abbrev pub AllInScope : ℕ → List Printed → Type 0
AllInScope sizes [] = Unit {0}
AllInScope sizes (i ∷ is) = InScope sizes i × AllInScope sizes is

-- the amounts of the nodes around hold no index variable, and tile sizes are within their limits, under however many loops
abbrev pub around_ready : Spot → Bool
around_ready q = frames_ready (map (frame_of 0) q.around)

-- indices that can be seen from under one more binder
abbrev pub indices_move : List Items → Bool
indices_move [] = true
indices_move (x ∷ xs) = numbers_fit 0 1 x && indices_move xs

abbrev pub indices_scoped : ℕ → ℕ → List Items → Bool
indices_scoped sizes vars [] = true
indices_scoped sizes vars (x ∷ xs) = items_scoped sizes vars x && indices_scoped sizes vars xs

-- extents over so many sizes alone
abbrev pub shapes_scoped : ℕ → List Extents → Bool
shapes_scoped sizes [] = true
shapes_scoped sizes (ns ∷ ts) = extents_scoped sizes ns && shapes_scoped sizes ts

-- of a place in a target
pub record StoreReady (maxima vars : List ℕ) (target : Target) (spot : Spot) : Type 0 where
  pub within : (x : Items) → stored_at target spot ≡ Ok x → items_scoped (length maxima) (length vars) x ≡ true
  pub around : around_ready spot ≡ true
  pub extents : extents_ready target.extents ≡ true

-- of a leaf
pub record LeafReady (maxima vars : List ℕ) (scene : Scene) (target : Target) (spot : Spot) (e : Term) : Type 0 where
  pub store : StoreReady maxima vars target spot
  pub word : WordReady maxima vars scene e
  pub most : greatest maxima (scope_of spot.path) ≡ vars

-- of a read that is stored whole
pub record FullReady (maxima vars : List ℕ) (scene : Scene) (target : Target) (ns : Extents) (d : Read) (spot : Spot) : Type 0 where
  pub within : AllInScope (length maxima) (full_read_printed ns d (place_at scene target zero_form spot))
  pub bounds : extents_scoped (length maxima) ns ≡ true
  pub indices : indices_scoped (length maxima) (length vars) d.indices ≡ true
  pub there : d.var < length (given scene.shapes)
  pub shape : extents_ready (get_or (given scene.shapes) d.var []) ≡ true
  pub around : around_ready spot ≡ true
  pub extents : extents_ready target.extents ≡ true
  pub most : greatest maxima (scope_of spot.path) ≡ vars

abbrev pub FullReadyIf : List ℕ → List ℕ → Scene → Target → Extents → Option Read → Spot → Type 0
FullReadyIf maxima vars scene target ns None spot = Unit {0}
FullReadyIf maxima vars scene target ns (Some d) spot = FullReady maxima vars scene target ns d spot

-- of a term in a store position
pub record Ready (maxima vars : List ℕ) (scene : Scene) (target : Target) (free : Items) (spot : Spot) (e : Term) : Type 0 where
  pub scoped : term_scoped (length maxima) e (length vars) (length (given scene.shapes)) ≡ true
  pub shapes : shapes_scoped (length maxima) (given scene.shapes) ≡ true
  pub within : AllInScope (length maxima) (printed_of e (place_at scene target free spot))
  pub around : around_ready spot ≡ true
  pub extents : extents_ready target.extents ≡ true
  pub most : greatest maxima (scope_of spot.path) ≡ vars

-- of an output
pub record OutputReady (maxima : List ℕ) (scene : Scene) (o : OutputDecl) : Type 0 where
  pub scoped : term_scoped (length maxima) o.term 0 (length (given scene.shapes)) ≡ true
  pub shapes : shapes_scoped (length maxima) (given scene.shapes) ≡ true
  pub within : AllInScope (length maxima) (output_printed scene o)

abbrev pub OutputsReady : List ℕ → Scene → List OutputDecl → Type 0
OutputsReady maxima scene [] = Unit {0}
OutputsReady maxima scene (o ∷ os) = OutputReady maxima scene o × OutputsReady maxima scene os
