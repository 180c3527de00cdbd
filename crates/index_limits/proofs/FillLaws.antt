-- The fill of a let, part by part.
use Rattle.std.proofs.Common.{◌≡◌, ℕ, List, [], sym, subst, Ok, Err}
use Rattle.std.specs.Prelude.{Result}
use Rattle.affine_index.specs.declared.form.Items.{Items}
use Rattle.reindexer.specs.Limited.{Limited, limited}
use Rattle.reindexer.proofs.IndexLaws.{limited_is}
use Rattle.term_tree.specs.Shape.{Extents}
use Rattle.region_plan.specs.Needed.{words_form}
use Rattle.final_rules.specs.Places.{length_form}
use Rattle.final_rules.specs.Printed.{form_small}
use Rattle.final_rules.proofs.Raw.{words-raw}
use Rattle.affine_index.specs.Sum.{sum_of}
use Rattle.final_rules.specs.Printing.{Counts, Sized, and_then, next}
use Rattle.final_rules.specs.declared.printing.Stop.{Stop}
use Rattle.final_rules.specs.declared.printing.Stop.TheVariants.{Large, Memory}
use Rattle.index_limits.specs.Fills.{Fills}
use Rattle.index_limits.specs.Kept.{Enters, Keeps}
use Rattle.index_limits.specs.Places.{free_of}
use Rattle.index_limits.specs.declared.stores.Room.{Room}
use Rattle.index_limits.specs.declared.walk.Filled.{Filled}
use Rattle.index_limits.proofs.CountLaws.{stop}

pub keep-stop : (next : Sized) (due : Limited Items) (e : Stop) → Keeps next due (Err e) → Counts next (Err e)
keep-stop next due (Large k) h = h
keep-stop next due Memory h = tt

fills : (next : Sized) (free : Items) (ns : Extents) (e : Stop) → Counts next (Err e) → Fills next free ns (Err e)
fills next free ns (Large k) h = h
fills next free ns Memory h = tt

-- a place or a length that is not small
pub fill-stop : (next : Sized) (free : Items) (ns : Extents) (r : Result Filled Stop) (e : Stop) → r ≡ Err e → Counts next (Err e) → Fills next free ns r
fill-stop next free ns r e is h = subst (λ (s : Result Filled Stop). Fills next free ns s) (sym is) (fills next free ns e h)

-- the length, after a place that is small
pub fill-then : (first : Sized) (rest : ℕ → Sized) (j : ℕ) (free form : Items) (ns : Extents) (r : Result Filled Stop) → first ≡ Ok j → limited free ≡ Ok form
    → Fills (rest j) form ns r → Fills (and_then first rest) free ns r
fill-then first rest j free form ns r e f h =
    subst (λ (s : Sized). Fills (and_then s rest) free ns r) (sym e) (subst (λ (x : Items). Fills (rest j) x ns r) (sym (limited_is free form f)) h)

pub fill-none : (first : Sized) (rest : ℕ → Sized) (free : Items) (ns : Extents) (r : Result Filled Stop) (e : Stop) → r ≡ Err e → Counts first (Err e)
    → Fills (and_then first rest) free ns r
fill-none first rest free ns r e is h = fill-stop (and_then first rest) free ns r e is (stop first rest e h)

-- a fill that is not small
pub fill-counts : (next : Sized) (free : Items) (ns : Extents) (e : Stop) → Fills next free ns (Err e) → Counts next (Err e)
fill-counts next free ns (Large k) h = h
fill-counts next free ns Memory h = tt

-- a bound that is not small
pub enter-stop : (maxima vars : List ℕ) (n : Items) (k : ℕ) (e : Stop) → Enters maxima vars n k (Err e)
    → Counts (next (form_small maxima [] (limited n)) k) (Err e)
enter-stop maxima vars n k (Large j) h = h
enter-stop maxima vars n k Memory h = tt

-- where scratch is free behind a let
pub room-behind : (free : Items) (ns : Extents) (room : Room) → room.base ≡ free → words_form ns ≡ Ok room.above → free_of room ≡ sum_of free (length_form ns)
room-behind free ns room e f = λ i. sum_of (e i) (sym (words-raw ns room.above f) i)
