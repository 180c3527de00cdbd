-- The fill of a let.
use Rattle.std.specs.Prelude.{◌≡◌, ℕ, List, true, length, Result, Ok, Err}
use Rattle.affine_index.specs.Limited.{items_scoped}
use Rattle.affine_index.specs.declared.form.Items.{Items}
use Rattle.reindexer.specs.Limited.{limited}
use Rattle.region_plan.specs.Needed.{words_form}
use Rattle.term_tree.specs.Shape.{Extents}
use Rattle.final_rules.specs.Printed.{form_small}
use Rattle.final_rules.specs.Printing.{Sized, and_then, next}
use Rattle.final_rules.specs.declared.printing.Stop.{Stop}
use Rattle.final_rules.specs.declared.printing.Stop.TheVariants.{Large, Memory}
use Rattle.index_limits.specs.declared.walk.Filled.{Filled}

-- its place, and then its length
abbrev pub fill_sized : List ℕ → List ℕ → Items → Extents → ℕ → Sized
fill_sized maxima vars free ns k = and_then (next (form_small maxima vars (limited free)) k) (next (form_small maxima vars (words_form ns)))

-- the tensor stands at its place, and scratch is free behind its words; or the number is that of the index that is not small
abbrev pub Fills : Sized → Items → Extents → Result Filled Stop → Type 0
Fills next free ns (Ok f) =
    (next ≡ Ok f.number) × (f.site ≡ record { extents = ns; offset = free }) × (f.after.base ≡ free) × (words_form ns ≡ Ok f.after.above)
Fills next free ns (Err (Large j)) = next ≡ Err j
Fills next free ns (Err Memory) = Unit {0}

-- a form, where it is within the limits, is over so many sizes and variables
abbrev pub LengthReady : List ℕ → List ℕ → Extents → Type 0
LengthReady maxima vars ns = (x : Items) → words_form ns ≡ Ok x → items_scoped (length maxima) (length vars) x ≡ true

abbrev pub FillReady : List ℕ → List ℕ → Items → Extents → Type 0
FillReady maxima vars free ns = ((x : Items) → limited free ≡ Ok x → items_scoped (length maxima) (length vars) x ≡ true) × LengthReady maxima vars ns
