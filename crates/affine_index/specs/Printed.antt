-- The value of a form as its text is computed: the items with positive coefficients in order and a positive constant are added, then the others taken away,
-- each item its coefficient's size and then its factors.
use Rattle.std.specs.Prelude.{ℕ, ◌<◌, ◌≤◌, length, List, [], ◌∷◌, slice_index, ℤ, pos, negsuc, ◌+ℤ◌, ◌-ℤ◌, ◌*ℤ◌, Option, Some, None, Bool, false, if◌then◌else◌}
use Rattle.std.specs.Prelude.{nat_le}
use Rattle.std.specs.Option.{option_and_then}
use Rattle.std.specs.Int.{int_div_euclid}
use Rattle.std.specs.Int.RustNames.{unsigned_abs}
use Rattle.affine_index.specs.declared.form.Atom.{Atom}
use Rattle.affine_index.specs.declared.form.Items.{Items}
use Rattle.affine_index.specs.declared.form.Item.{Item}
use Rattle.affine_index.specs.declared.form.Atom.TheOpen.{Atom-F, Items-F}
use Rattle.affine_index.specs.declared.form.Atom.TheFolds.{fold-Atom, fold-Items}

-- whether a number is above 0
abbrev pub is_positive : ℤ → Bool
is_positive (pos n) = nat_le 1 n
is_positive (negsuc n) = false

module _ (limit : ℕ) where
  -- a number at most the limit in size
  abbrev pub within : ℤ → Option ℤ
  within z = if nat_le (unsigned_abs z) limit then Some z else None

  -- a number taken through each factor in turn
  abbrev pub through_all : List (ℤ → Option ℤ) → ℤ → Option ℤ
  through_all [] c = Some c
  through_all (f ∷ fs) c = option_and_then (through_all fs) (f c)

  -- a number added
  abbrev pub plus : ℤ → Option ℤ → Option ℤ
  plus total None = None
  plus total (Some v) = within (total +ℤ v)

  -- a number taken away
  abbrev pub minus : ℤ → Option ℤ → Option ℤ
  minus total None = None
  minus total (Some v) = within (total -ℤ v)

  -- the items with positive coefficients, added in order
  abbrev pub add_positive : List (Item (ℤ → Option ℤ)) → ℤ → Option ℤ
  add_positive [] total = Some total
  add_positive (t ∷ ts) total =
      option_and_then (add_positive ts) (if is_positive t.coefficient then plus total (t.atom (pos (unsigned_abs t.coefficient))) else Some total)

  -- the other items, taken away in order
  abbrev pub take_others : List (Item (ℤ → Option ℤ)) → ℤ → Option ℤ
  take_others [] total = Some total
  take_others (t ∷ ts) total =
      option_and_then (take_others ts) (if is_positive t.coefficient then Some total else minus total (t.atom (pos (unsigned_abs t.coefficient))))

  -- a positive constant, added
  abbrev pub add_constant : ℤ → ℤ → Option ℤ
  add_constant c total = if is_positive c then plus total (Some (pos (unsigned_abs c))) else Some total

  -- another constant, taken away
  abbrev pub take_constant : ℤ → ℤ → Option ℤ
  take_constant c total = if is_positive c then Some total else minus total (Some (pos (unsigned_abs c)))

  module _ (sizes vars : List ℕ) where
    -- a number times an atom
    abbrev pub printed_step : Atom-F (ℤ → Option ℤ) (Option ℤ) → ℤ → Option ℤ
    printed_step (Atom-F.Size s) c = within (c *ℤ pos (slice_index sizes s))
    printed_step (Atom-F.Var v) c = within (c *ℤ pos (slice_index vars v))
    printed_step (Atom-F.Div items k) c = option_and_then (λ v. within (c *ℤ int_div_euclid v (pos k))) items
    printed_step (Atom-F.Mul factors) c = through_all factors c

    -- the items and the constant in the order of the text
    abbrev pub printed_items_step : Items-F (ℤ → Option ℤ) (Option ℤ) → Option ℤ
    printed_items_step i =
        option_and_then (λ a. option_and_then (λ b. option_and_then (λ c. take_constant i.constant c) (take_others i.terms b)) (add_constant i.constant a))
        (add_positive i.terms (pos 0))

    -- a number times an atom, where no partial result passes the limit
    abbrev pub printed_times : Atom → ℤ → Option ℤ
    printed_times = fold-Atom (ℤ → Option ℤ) (Option ℤ) printed_step printed_items_step

    -- the value of a form as its text is computed, or None where a partial result passes the limit in size
    abbrev pub printed_value : Items → Option ℤ
    printed_value = fold-Items (ℤ → Option ℤ) (Option ℤ) printed_step printed_items_step

-- each value is at most its maximum, which is at least 1
abbrev pub WithinMaxima : List ℕ → List ℕ → Type 0
WithinMaxima values maxima = (k : ℕ) → k < length maxima → (slice_index values k ≤ slice_index maxima k) × (1 ≤ slice_index maxima k)
