-- What the walk of goals asks of a node, and of what stands around it.
use Rattle.std.specs.Prelude.{◌≡◌, ℕ, ◌+◌, ◌≤◌, Bool, true, ◌&&◌, List, [], ◌∷◌, length, not, nat_lt, nat_le, IsOk, Option, Some, None}
use Rattle.affine_index.specs.Limited.{items_scoped}
use Rattle.affine_index.specs.Normal.{holds_var}
use Rattle.affine_index.specs.Put.{numbers_fit}
use Rattle.affine_index.specs.declared.form.Items.{Items}
use Rattle.shape_rules.specs.Scopes.{all_free, given}
use Rattle.shape_rules.specs.declared.shapes.Shapes.{Shapes}
use Rattle.term_tree.specs.declared.term.OutputDecl.{OutputDecl}
use Rattle.term_tree.specs.declared.term.Term.{Term}
use Rattle.term_tree.specs.Counts.{node_count}
use Rattle.term_tree.specs.Scope.{largest_tile, term_scoped}
use Rattle.term_tree.specs.Shape.{Extents, shape_of}
use Rattle.reindexer.specs.declared.frame.Frame.{Frame}
use Rattle.reindexer.specs.declared.frame.Frame.TheVariants.{Flatten, Split}
use Rattle.final_rules.specs.Places.{frame_of}
use Rattle.final_rules.specs.declared.read.Read.{Read}
use Rattle.final_rules.specs.declared.spot.Around.{Around}
use Rattle.final_rules.specs.declared.spot.Spot.{Spot}

-- an extent that joins two indices holds no index variable, and a tile size is within its limits
abbrev pub step_ready : Frame → Bool
step_ready (Flatten m) = not (holds_var m)
step_ready (Split k) = nat_lt 0 k && nat_le k largest_tile
step_ready _ = true

-- so of each node, under however many loops
abbrev pub all_ready : List Around → Bool
all_ready [] = true
all_ready (f ∷ fs) = step_ready (frame_of 0 f) && all_ready fs

-- the variable numbers of each form stay below 2^32 under one more binder
abbrev pub EachMoves : List Items → Type 0
EachMoves [] = Unit {0}
EachMoves (x ∷ xs) = (numbers_fit 0 1 x ≡ true) × EachMoves xs

-- a node where it stands: it is well scoped over tensors whose extents hold no index variable, and has a shape; the path to it has room for the
-- facts inside it and those of a read
pub record Stands (shapes : Shapes) (spot : Spot) (e : Term) : Type 0 where
  pub sizes : ℕ
  pub vars : ℕ
  pub scoped : term_scoped sizes e vars (length (given shapes)) ≡ true
  pub shaped : IsOk (shape_of e (given shapes))
  pub free : all_free (given shapes) ≡ true
  pub room : vars + node_count e ≤ 2147483639
  pub few : length spot.path + node_count e ≤ 2147483639
  pub ready : all_ready spot.around ≡ true

-- the terms of outputs where these stand
abbrev pub EachStands : Shapes → Spot → List OutputDecl → Type 0
EachStands shapes spot [] = Unit {0}
EachStands shapes spot (o ∷ os) = Stands shapes spot o.term × EachStands shapes spot os

-- whether forms are over so many sizes and index variables
abbrev pub each_scoped : ℕ → ℕ → List Items → Bool
each_scoped sizes vars [] = true
each_scoped sizes vars (x ∷ xs) = items_scoped sizes vars x && each_scoped sizes vars xs

-- a read that is stored whole, under as many more gens as there are extents
pub record ReadStands (extents : Extents) (read : Read) (spot : Spot) : Type 0 where
  pub sizes : ℕ
  pub vars : ℕ
  pub indices : each_scoped sizes vars read.indices ≡ true
  pub room : vars + length extents ≤ 2147483647
  pub few : length spot.path + length extents ≤ 2147483647
  pub ready : all_ready spot.around ≡ true

abbrev pub ReadStandsIf : Extents → Option Read → Spot → Type 0
ReadStandsIf extents None spot = Unit {0}
ReadStandsIf extents (Some d) spot = ReadStands extents d spot
