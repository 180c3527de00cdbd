-- Whether a length of scratch is small.
use Rattle.std.specs.Prelude.{◌≡◌, ℕ, Bool, true, ◌&&◌, Ok}
use Rattle.affine_index.specs.Limited.{items_scoped}
use Rattle.region_plan.specs.declared.length.Length.{Length, Plain}
use Rattle.region_plan.specs.Needed.{module_needed}
use Rattle.region_plan.specs.Syntax.{topped}
use Rattle.term_tree.specs.declared.term.Module.{Module}

-- a length over so many sizes alone
abbrev pub over_sizes : ℕ → Length → Bool
over_sizes sizes (Plain x) = items_scoped sizes 0 x
over_sizes sizes (topped x a b) = items_scoped sizes 0 x && (over_sizes sizes a && over_sizes sizes b)

-- what a module needs is over so many sizes alone
abbrev pub NeedOverSizes : ℕ → Module → Type 0
NeedOverSizes sizes m = (l : Length) → module_needed m ≡ Ok l → over_sizes sizes l ≡ true
