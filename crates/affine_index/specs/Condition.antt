-- Whether comparisons hold at given sizes and variables.
use Rattle.std.specs.Prelude.{ℕ, List, [], ◌∷◌, ℤ, pos, negsuc, Bool, true, false, ◌&&◌, Option, Some}
use Rattle.std.specs.Option.{option_and_then, option_map}
use Rattle.std.specs.Ordering.{int_eq}
use Rattle.affine_index.specs.Limited.{items_scoped, limited_value}
use Rattle.affine_index.specs.Value.{items_value}
use Rattle.affine_index.specs.declared.cond.Cmp.{Cmp}
use Rattle.affine_index.specs.declared.cond.Cmp.TheVariants.{Ge, Eq}
use Rattle.affine_index.specs.declared.form.Items.{Items}

-- the form that a comparison compares with 0
abbrev pub cmp_form : Cmp → Items
cmp_form (Ge x) = x
cmp_form (Eq x) = x

-- at least 0
abbrev pub at_least_zero : ℤ → Bool
at_least_zero (pos n) = true
at_least_zero (negsuc n) = false

-- whether a comparison holds where its form has a value
abbrev pub cmp_at : Cmp → ℤ → Bool
cmp_at (Ge x) z = at_least_zero z
cmp_at (Eq x) z = int_eq z (pos 0)

module _ (sizes vars : List ℕ) where
  -- whether a comparison holds
  abbrev pub cmp_holds : Cmp → Bool
  cmp_holds c = cmp_at c (items_value sizes vars (cmp_form c))

  -- whether all comparisons hold
  abbrev pub all_hold : List Cmp → Bool
  all_hold [] = true
  all_hold (c ∷ cs) = cmp_holds c && all_hold cs

  -- whether a comparison holds, where no partial result of its value is too large
  abbrev pub cmp_limited : Cmp → Option Bool
  cmp_limited c = option_map (cmp_at c) (limited_value sizes vars (cmp_form c))

  -- whether all comparisons hold, where no partial result of any value is too large
  abbrev pub all_limited : List Cmp → Option Bool
  all_limited [] = Some true
  all_limited (c ∷ cs) = option_and_then (λ first. option_map (λ rest. first && rest) (all_limited cs)) (cmp_limited c)

-- whether each number of a size and of a variable in the comparisons is below these
abbrev pub all_scoped : ℕ → ℕ → List Cmp → Bool
all_scoped sizes vars [] = true
all_scoped sizes vars (c ∷ cs) = items_scoped sizes vars (cmp_form c) && all_scoped sizes vars cs
