-- Shapes of nodes within nodes, where each is there or breaks a limit.
use Rattle.std.proofs.Common.{◌≡◌, [], ◌∷◌, refl, ap, sym, ◌∙◌, subst, Ok, Err, IsOk}
use Rattle.affine_index.specs.declared.form.Items.{Items}
use Rattle.shape_rules.proofs.RuleValues.{limited_same}
use Rattle.term_tree.specs.Shape.{Extents, Shaped, limited, of_equal, of_first, of_two, with_child}
use Rattle.path_focus.specs.Focus.{SameOrLimit}
use Rattle.rule_parts.proofs.Replacing.{never}
use Rattle.rule_parts.proofs.ShapeLaws.{both_on, first_ok, handed_on, on_rows, row, row_on, rows_on}
use Rattle.path_focus.proofs.ShapeSteps.{equal_extents, equal_or, limited_or, next, old_is, same_shape_there}

-- a shape within the limits, as it stands
pub within : (ns : Extents) → IsOk (limited ns) → limited ns ≡ Ok ns
within ns h = by (limited ns) refl h
  where
    by : (z : Shaped) → limited ns ≡ z → IsOk z → limited ns ≡ Ok ns
    by (Ok ms) e h = e ∙ (λ i. Ok (sym (limited_same ns ms e) i))
    by (Err m) e h = absurd (never h)

-- equal extents that are there
pub equal_is : (ns ms : Extents) → IsOk (of_equal ns ms) → of_equal ns ms ≡ Ok ns
equal_is ns ms h =
    let e = equal_extents ns ms h in
    by (of_equal ns ms) refl h (subst (λ xs. SameOrLimit (Ok ns) (of_equal ns xs)) (sym e) (equal_or ns))
  where
    by : (z : Shaped) → of_equal ns ms ≡ z → IsOk z → SameOrLimit (Ok ns) z → of_equal ns ms ≡ Ok ns
    by (Ok xs) q h p = q ∙ sym p
    by (Err m) q h p = absurd (never h)

-- of n rows of m rows
abbrev pub rows_of_rows : Items → Items → Shaped → Shaped
rows_of_rows n m x = with_child 0 (with_child 0 x (λ ns. limited (m ∷ ns))) (λ ns. limited (n ∷ ns))

rows_of_rows-is : (n m : Items) (ns : Extents) → IsOk (rows_of_rows n m (Ok ns)) → rows_of_rows n m (Ok ns) ≡ Ok (n ∷ m ∷ ns)
rows_of_rows-is n m ns h =
    let e = within (m ∷ ns) (first_ok (limited (m ∷ ns)) (λ ns. limited (n ∷ ns)) h) in
    let g : rows_of_rows n m (Ok ns) ≡ limited (n ∷ m ∷ ns) = λ i. with_child 0 (e i) (λ ns. limited (n ∷ ns)) in
    g ∙ within (n ∷ m ∷ ns) (subst IsOk g h)

-- with the first two extents in the other order
abbrev pub turned : Shaped → Shaped
turned x = with_child 0 x (λ ns. of_two ns (λ n m rest. Ok (m ∷ n ∷ rest)))

pub turned_rows : (n m : Items) (x : Shaped) → IsOk (rows_of_rows n m x) → SameOrLimit (rows_of_rows n m x) (turned (rows_of_rows m n x))
turned_rows n m (Err e) h = absurd (never h)
turned_rows n m (Ok ns) h =
    old_is (rows_of_rows n m (Ok ns)) (n ∷ m ∷ ns) (turned (rows_of_rows m n (Ok ns))) (rows_of_rows-is n m ns h)
    (next 0 (rows_of_rows m n (Ok ns)) (λ ns. of_two ns (λ n m rest. Ok (m ∷ n ∷ rest))) (m ∷ n ∷ ns) (n ∷ m ∷ ns)
    (next 0 (limited (n ∷ ns)) (λ ns. limited (m ∷ ns)) (n ∷ ns) (m ∷ n ∷ ns) (limited_or (n ∷ ns)) (limited_or (m ∷ n ∷ ns))) refl)

-- the rows of a sum, and the sum of rows
abbrev pub summed : Shaped → Shaped
summed x = with_child 0 x (λ ns. Ok ns)

abbrev pub rows : Items → Shaped → Shaped
rows m x = with_child 0 x (λ ns. limited (m ∷ ns))

pub summed_rows : (m : Items) (x : Shaped) → IsOk (summed (rows m x)) → SameOrLimit (summed (rows m x)) (rows m (summed x))
summed_rows m x h = same_shape_there (summed (rows m x)) (rows m (summed x)) h (rows_on m x h)

pub rows_summed : (m : Items) (x : Shaped) → IsOk (rows m (summed x)) → SameOrLimit (rows m (summed x)) (summed (rows m x))
rows_summed m x h = same_shape_there (rows m (summed x)) (summed (rows m x)) h (on_rows m x h)

-- of two of equal shape
abbrev pub equals : Shaped → Shaped → Shaped
equals x y = with_child 0 x (λ ns. with_child 1 y (λ ms. of_equal ns ms))

-- the shapes of the sum of sums, and of the sum of a sum
pub both_sums : (x y : Shaped) → IsOk (summed (equals x y)) → SameOrLimit (summed (equals x y)) (equals (summed x) (summed y))
both_sums x y h = same_shape_there (summed (equals x y)) (equals (summed x) (summed y)) h (both_on of_equal x y h)

pub one_sum : (x y : Shaped) → IsOk (equals (summed x) (summed y)) → SameOrLimit (equals (summed x) (summed y)) (summed (equals x y))
one_sum (Ok ns) (Ok ms) h = same_shape_there (of_equal ns ms) (summed (of_equal ns ms)) h (sym (handed_on (of_equal ns ms) h))
one_sum (Ok ns) (Err m) h = absurd (never h)
one_sum (Err m) y h = absurd (never h)

-- rows of two of equal shape
equal_rows : (ns ms : Extents) → ms ≡ ns → of_equal ns ms ≡ Ok ns → IsOk (row (Ok ns))
    → SameOrLimit (row (of_equal ns ms)) (with_child 0 (row (Ok ns)) (λ ns. with_child 1 (row (Ok ms)) (λ ms. of_equal ns ms)))
equal_rows [] ms q e h = absurd (never h)
equal_rows (n ∷ ns) ms q e h =
    old_is (row (of_equal (n ∷ ns) ms)) ns _ (ap row e)
    (subst (λ (xs : Extents). SameOrLimit (Ok ns) (with_child 0 (row (Ok (n ∷ ns))) (λ ns. with_child 1 (row (Ok xs)) (λ ms. of_equal ns ms)))) (sym q)
    (equal_or ns))

pub rows_of_equal : (x y : Shaped) → IsOk (row (equals x y)) → SameOrLimit (row (equals x y)) (equals (row x) (row y))
rows_of_equal (Err m) y h = absurd (never h)
rows_of_equal (Ok ns) (Err m) h = absurd (never h)
rows_of_equal (Ok ns) (Ok ms) h =
    let k = first_ok (of_equal ns ms) (λ ns. of_first ns (λ n rest. Ok rest)) h in
    let e = equal_is ns ms k in
    equal_rows ns ms (equal_extents ns ms k) e (subst (λ z. IsOk (row z)) e h)

-- a row of a sum, and the sum of a row
pub summed_row : (x : Shaped) → IsOk (row (summed x)) → SameOrLimit (row (summed x)) (summed (row x))
summed_row x h = same_shape_there (row (summed x)) (summed (row x)) h (row_on x h)
