-- Printed forms that are used again: what is known of them where they are small.
use Rattle.std.specs.Prelude.{◌≡◌, ℕ, ◌∷◌, List, [], Result, Ok, Err}
use Rattle.affine_index.specs.Magnitude.{magnitude}
use Rattle.affine_index.specs.declared.form.Items.{Items}
use Rattle.reindexer.specs.Limited.{Limited, limited}
use Rattle.final_rules.specs.Printed.{at_least_one, form_small}
use Rattle.final_rules.specs.Printing.{Sized, next}
use Rattle.final_rules.specs.declared.printing.Stop.{Stop}
use Rattle.final_rules.specs.declared.printing.Stop.TheVariants.{Large, Memory}
use Rattle.index_limits.specs.declared.forms.Inner.{Inner}
use Rattle.index_limits.specs.declared.forms.Kept.{Kept}

-- the number of the next index and the form that is due, or the number of the index that is not small
abbrev pub Keeps : Sized → Limited Items → Result Kept Stop → Type 0
Keeps next due (Ok kept) = (next ≡ Ok kept.number) × (due ≡ Ok kept.form)
Keeps next due (Err (Large k)) = next ≡ Err k
Keeps next due (Err Memory) = Unit {0}

-- inside a binder of an extent: its variable has the magnitude of the extent, counted as at least 1
abbrev pub inner_vars : List ℕ → List ℕ → Items → List ℕ
inner_vars maxima vars n = at_least_one (magnitude maxima [] n) ∷ vars

-- the bound of a binder is small, or is the index that is not
abbrev pub Enters : List ℕ → List ℕ → Items → ℕ → Result Inner Stop → Type 0
Enters maxima vars n k (Ok inner) = (next (form_small maxima [] (limited n)) k ≡ Ok inner.number) × (inner.vars ≡ inner_vars maxima vars n)
Enters maxima vars n k (Err (Large j)) = next (form_small maxima [] (limited n)) k ≡ Err j
Enters maxima vars n k (Err Memory) = Unit {0}
