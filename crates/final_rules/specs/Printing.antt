-- How far the printed indices are small.
use Rattle.std.specs.Prelude.{◌≡◌, ℕ, ◌+◌, ◌<◌, List, [], ◌∷◌, Bool, true, if◌then◌else◌, length, get_or, pos, Option, Some, None, Result, Ok, Err}
use Rattle.affine_index.specs.Condition.{all_scoped, cmp_form}
use Rattle.affine_index.specs.declared.cond.Cmp.{Cmp}
use Rattle.affine_index.specs.declared.cond.Cond.{Cond}
use Rattle.affine_index.specs.Form.{literal_form}
use Rattle.affine_index.specs.Limited.{items_scoped}
use Rattle.affine_index.specs.declared.form.Items.{Items}
use Rattle.reindexer.specs.Limited.{Answers, Limited, limited}
use Rattle.reindexer.specs.Places.{row_place}
use Rattle.reindexer.specs.Ready.{extents_ready}
use Rattle.shape_rules.specs.Scopes.{given}
use Rattle.term_tree.specs.Shape.{Extents}
use Rattle.term_tree.specs.declared.term.Term.{Term, TVar, WordOf}
use Rattle.term_tree.specs.Syntax.{index, guard, add, sub, mul}
use Rattle.final_rules.specs.Form.{read_under}
use Rattle.final_rules.specs.Places.{Place, Site, nowhere}
use Rattle.final_rules.specs.declared.read.Read.{Read}
use Rattle.final_rules.specs.Printed.{Printed, behind, form_small, greatest, is_small, scope_of, word_printed}
use Rattle.final_rules.specs.declared.printing.Scene.{Scene}
use Rattle.final_rules.specs.declared.printing.Stop.{Stop}
use Rattle.final_rules.specs.declared.printing.Stop.TheVariants.{Large, Memory}

-- the number of the next index, or that of the first that is not small
abbrev pub Sized : Type 0
Sized = Result ℕ ℕ

-- one index
abbrev pub next : Bool → ℕ → Sized
next small k = if small then Ok (k + 1) else Err k

-- what comes first, then the rest
abbrev pub and_then : Sized → (ℕ → Sized) → Sized
and_then (Ok k) f = f k
and_then (Err k) f = Err k

-- indices in order, of which the first has the number
abbrev pub sized : List ℕ → List Printed → ℕ → Sized
sized maxima [] k = Ok k
sized maxima (i ∷ is) k = and_then (next (is_small maxima i) k) (sized maxima is)

-- comparisons in order, under variables of these greatest values
abbrev pub compared : List ℕ → List ℕ → List Cmp → ℕ → Sized
compared maxima vars [] k = Ok k
compared maxima vars (c ∷ cs) k = and_then (next (form_small maxima vars (limited (cmp_form c))) k) (compared maxima vars cs)

-- the answer is the one that is due; want of memory may come in its place
abbrev pub Counts : Sized → Result ℕ Stop → Type 0
Counts due (Ok k) = due ≡ Ok k
Counts due (Err (Large k)) = due ≡ Err k
Counts due (Err Memory) = Unit {0}

-- a form, the limit that is broken on the way to it, or want of memory: never a product of two index variables
abbrev pub IsDue : Limited Items → Type 0
IsDue form = (due : Limited Items) × Answers due form

-- the tensor variables, from the innermost: lets at their offsets, and inputs alone
abbrev pub sites_of : List Extents → List Items → List Site
sites_of [] os = []
sites_of (ns ∷ ts) [] = record { extents = ns; offset = literal_form (pos 0) } ∷ sites_of ts []
sites_of (ns ∷ ts) (o ∷ os) = record { extents = ns; offset = o } ∷ sites_of ts os

-- those of a scene
abbrev pub scene_sites : Scene → List Site
scene_sites scene = sites_of (given scene.shapes) scene.offsets

-- the place of indices in a tensor variable, behind its offset
abbrev pub sited : Scene → ℕ → List Items → Limited Items
sited scene q xs = behind (get_or (scene_sites scene) q nowhere).offset (row_place (get_or (scene_sites scene) q nowhere).extents xs)

-- a read is of a tensor in scope, whose extents hold no index variable, and its place is over the sizes and variables that have greatest values
abbrev pub ReadReady : List ℕ → List ℕ → Scene → Option Read → Type 0
ReadReady maxima vars scene None = Unit {0}
ReadReady maxima vars scene (Some d) =
    (d.var < length (given scene.shapes)) × (extents_ready (get_or (given scene.shapes) d.var []) ≡ true)
    × ((x : Items) → sited scene d.var d.indices ≡ Ok x → items_scoped (length maxima) (length vars) x ≡ true)

-- at greatest values of sizes and variables
module _ (maxima vars : List ℕ) (scene : Scene) where
  -- a read, if there is one
  abbrev pub read_sized : Option Read → ℕ → Sized
  read_sized None k = Ok k
  read_sized (Some d) k = next (form_small maxima vars (sited scene d.var d.indices)) k

  -- the indices of a word, from left to right
  abbrev pub word_sized : Term → ℕ → Sized
  word_sized (WordOf x) k = next (form_small maxima vars (limited x)) k
  word_sized (TVar q) k = read_sized (read_under (TVar q) []) k
  word_sized (index e x) k = read_sized (read_under (index e x) []) k
  word_sized (guard c e) k = and_then (compared maxima vars c.all k) (word_sized e)
  word_sized (add a b) k = and_then (word_sized a k) (word_sized b)
  word_sized (sub a b) k = and_then (word_sized a k) (word_sized b)
  word_sized (mul a b) k = and_then (word_sized a k) (word_sized b)
  word_sized _ k = Ok k

  -- what a word asks for: each form is over the sizes and variables, and each read is ready
  abbrev pub WordReady : Term → Type 0
  WordReady (WordOf x) = items_scoped (length maxima) (length vars) x ≡ true
  WordReady (TVar q) = ReadReady maxima vars scene (read_under (TVar q) [])
  WordReady (index e x) = ReadReady maxima vars scene (read_under (index e x) [])
  WordReady (guard c e) = (all_scoped (length maxima) (length vars) c.all ≡ true) × WordReady e
  WordReady (add a b) = WordReady a × WordReady b
  WordReady (sub a b) = WordReady a × WordReady b
  WordReady (mul a b) = WordReady a × WordReady b
  WordReady _ = Unit {0}

  -- of a choice, whose comparisons come first
  abbrev pub guarded_sized : Cond → Term → ℕ → Sized
  guarded_sized c e k = and_then (compared maxima vars c.all k) (word_sized e)

  -- of two words
  abbrev pub words_sized : Term → Term → ℕ → Sized
  words_sized a b k = and_then (word_sized a k) (word_sized b)

-- a place at which the tensors of the scene are in scope, and variables of these greatest values
pub record Stands (maxima vars : List ℕ) (scene : Scene) (p : Place) : Type 0 where
  pub sites : p.sites ≡ scene_sites scene
  pub most : greatest maxima (scope_of p.spot.path) ≡ vars

-- the answer counts the printed indices of a word at each such place
abbrev pub CountsWord : List ℕ → List ℕ → Scene → Term → ℕ → Result ℕ Stop → Type 0
CountsWord maxima vars scene e k result = (p : Place) → Stands maxima vars scene p → Counts (sized maxima (word_printed e p) k) result
