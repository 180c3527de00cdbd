-- Shapes of gens and sums in tiles: the shape of before, or a limit that breaks on the way.
use Rattle.std.proofs.Common.{◌≡◌, ℕ, ◌<◌, ◌≤◌, ◌∷◌, length, refl, ap, sym, ◌∙◌, subst, Bool, true, false, not, nat_le, if◌then◌else◌, Ok, Err, IsOk}
use Rattle.std.specs.Prelude.{pos}
use Rattle.affine_index.specs.Form.{literal_form}
use Rattle.affine_index.specs.Normal.{is_ordered}
use Rattle.affine_index.specs.Product.{product_of}
use Rattle.affine_index.specs.Quotient.{quotient_of}
use Rattle.affine_index.specs.Sum.{difference_of, scaled}
use Rattle.affine_index.specs.declared.form.Items.{Items}
use Rattle.affine_index.proofs.OrderedLaws.{quotient-ordered, scaled-ordered}
use Rattle.path_focus.specs.Focus.{IsLimitCause, SameOrLimit}
use Rattle.path_focus.specs.Making.{tile_rest}
use Rattle.term_tree.specs.Shape.{Extents, Shaped, each_fits, each_short, here, largest_rank, limited, of_first, of_two, tiles, with_child}
use Rattle.term_tree.specs.declared.cause.Cause.TheVariants.{RankTooLarge, CoefficientTooLarge, IndexTooLong}
use Rattle.rules_loop.proofs.Coefficients.{product-literal, taken-twice, whole-again}
use Rattle.rule_parts.proofs.Replacing.{never}
use Rattle.rules_loop.proofs.ShapeLaws.{within}
use Rattle.rules_loop.proofs.TileForms.{tiles-ordered}
use Rattle.rules_loop.specs.Tilings.{divides}

-- these extents, or a limit that breaks
abbrev pub Becomes : Extents → Shaped → Type 0
Becomes ns (Ok ms) = ms ≡ ns
Becomes ns (Err m) = IsLimitCause m.cause

-- a shape is there, and the new one is it or breaks a limit
abbrev pub Remains : Shaped → Shaped → Type 0
Remains old new = (ns : Extents) × (old ≡ Ok ns) × Becomes ns new

pub remains_or : (old new : Shaped) → Remains old new → SameOrLimit old new
remains_or old (Ok ms) h = h.1 ∙ ap Ok (sym h.2)
remains_or old (Err m) h = h.2

pub limited_becomes : (ns : Extents) → Becomes ns (limited ns)
limited_becomes ns = by (not (nat_le (length ns) largest_rank)) (not (each_fits ns)) (not (each_short ns))
  where
    by : (a b c : Bool) → Becomes ns (if a then here RankTooLarge else (if b then here CoefficientTooLarge else (if c then here IndexTooLong else Ok ns)))
    by true b c = tt
    by false true c = tt
    by false false true = tt
    by false false false = refl

-- one node around another
pub around : (child : ℕ) (z : Shaped) (ns ms : Extents) (g : Extents → Shaped) → Becomes ns z → Becomes ms (g ns) → Becomes ms (with_child child z g)
around child (Ok xs) ns ms g h k = subst (λ (ys : Extents). Becomes ms (g ys)) (sym h) k
around child (Err m) ns ms g h k = h

-- the shape of the body of a gen that has one, and of a sum
pub gen_shape : (n : Items) (y : Shaped) → IsOk (with_child 0 y (λ ns. limited (n ∷ ns)))
    → (ns : Extents) × (y ≡ Ok ns) × (with_child 0 y (λ ns. limited (n ∷ ns)) ≡ Ok (n ∷ ns))
gen_shape n (Ok ns) h = (ns, refl, within (n ∷ ns) h)
gen_shape n (Err m) h = absurd (never h)

pub sum_shape : (y : Shaped) → IsOk (with_child 0 y (λ ns. Ok ns)) → (ns : Extents) × (y ≡ Ok ns) × (with_child 0 y (λ ns. Ok ns) ≡ Ok ns)
sum_shape (Ok ns) h = (ns, refl, refl)
sum_shape (Err m) h = absurd (never h)

-- the shape of a guard, and of two gens around it
abbrev pub guard_of : Shaped → Shaped
guard_of y = with_child 0 y (λ ns. Ok ns)

abbrev pub gen_of : Items → Shaped → Shaped
gen_of n y = with_child 0 y (λ ns. limited (n ∷ ns))

abbrev pub flat_of : Shaped → Shaped
flat_of y = with_child 0 y (λ ns. of_two ns (λ n m rest. limited (product_of n m ∷ rest)))

abbrev pub cut_of : Items → Shaped → Shaped
cut_of a y = with_child 0 y (λ ns. of_first ns (λ n rest. limited (difference_of n a ∷ rest)))

becomes_of : (ns : Extents) (y : Shaped) → y ≡ Ok ns → Becomes ns y
becomes_of ns y e = subst (Becomes ns) (sym e) refl

gens_become : (n m : Items) (ns : Extents) (y : Shaped) → Becomes ns y → Becomes (n ∷ m ∷ ns) (gen_of n (gen_of m y))
gens_become n m ns y h =
    around 0 (gen_of m y) (m ∷ ns) (n ∷ m ∷ ns) (λ ns. limited (n ∷ ns)) (around 0 y ns (m ∷ ns) (λ ns. limited (m ∷ ns)) h (limited_becomes (m ∷ ns)))
    (limited_becomes (n ∷ m ∷ ns))

flat_becomes : (n m : Items) (ns : Extents) (y : Shaped) → Becomes (n ∷ m ∷ ns) y → Becomes (product_of n m ∷ ns) (flat_of y)
flat_becomes n m ns y h =
    around 0 y (n ∷ m ∷ ns) (product_of n m ∷ ns) (λ ns. of_two ns (λ n m rest. limited (product_of n m ∷ rest))) h (limited_becomes (product_of n m ∷ ns))

module _ (k : ℕ) (positive : 0 < k) (high : k ≤ 2147483647) (n : Items) (ordered : is_ordered n ≡ true) where
  -- the rows of all tiles but those that are cut
  cut_rows : difference_of (product_of (tiles k n) (literal_form (pos k))) (tile_rest k n) ≡ n
  cut_rows =
      let t = tiles-ordered k n positive high ordered in
      (λ i. difference_of (product-literal (tiles k n) (pos k) t i) (tile_rest k n))
      ∙ taken-twice (scaled (pos k) (tiles k n)) n (scaled-ordered (pos k) (tiles k n) t) ordered

  exact_rows : divides k n ≡ true → product_of (quotient_of n k) (literal_form (pos k)) ≡ n
  exact_rows h = product-literal (quotient_of n k) (pos k) (quotient-ordered n k positive high ordered) ∙ whole-again k n positive high ordered h

  pub split_gen_shape : (y z : Shaped) → z ≡ y → IsOk (gen_of n y)
      → Remains (gen_of n y) (cut_of (tile_rest k n) (flat_of (gen_of (tiles k n) (gen_of (literal_form (pos k)) (guard_of z)))))
  split_gen_shape y z e h =
      let old = gen_shape n y h in
      let ns = old.0 in
      let rows = flat_becomes (tiles k n) (literal_form (pos k)) ns (gen_of (tiles k n) (gen_of (literal_form (pos k)) (guard_of z)))
      (gens_become (tiles k n) (literal_form (pos k)) ns (guard_of z) (around 0 z ns ns (λ ns. Ok ns) (becomes_of ns z (e ∙ old.1)) refl)) in
      let all = product_of (tiles k n) (literal_form (pos k)) in (
        n ∷ ns,
        old.2,
        around 0 (flat_of (gen_of (tiles k n) (gen_of (literal_form (pos k)) (guard_of z)))) (all ∷ ns) (n ∷ ns)
            (λ ns. of_first ns (λ m rest. limited (difference_of m (tile_rest k n) ∷ rest))) rows
            (subst (λ (m : Items). Becomes (m ∷ ns) (limited (difference_of all (tile_rest k n) ∷ ns))) cut_rows
            (limited_becomes (difference_of all (tile_rest k n) ∷ ns))),
      )

  pub split_sum_shape : (y z : Shaped) → z ≡ y → IsOk (guard_of y) → Remains (guard_of y) (guard_of (guard_of (guard_of z)))
  split_sum_shape y z e h =
      let old = sum_shape y h in
      (old.0, old.2, subst (λ (x : Shaped). Becomes old.0 (guard_of (guard_of (guard_of x)))) (sym (e ∙ old.1)) refl)

  pub exact_shape : divides k n ≡ true → (y z : Shaped) → z ≡ y → IsOk (gen_of n y)
      → Remains (gen_of n y) (flat_of (gen_of (quotient_of n k) (gen_of (literal_form (pos k)) z)))
  exact_shape d y z e h =
      let old = gen_shape n y h in
      let ns = old.0 in
      let rows = flat_becomes (quotient_of n k) (literal_form (pos k)) ns (gen_of (quotient_of n k) (gen_of (literal_form (pos k)) z))
      (gens_become (quotient_of n k) (literal_form (pos k)) ns z (becomes_of ns z (e ∙ old.1))) in
      (n ∷ ns, old.2, subst (λ (m : Items). Becomes (m ∷ ns) (flat_of (gen_of (quotient_of n k) (gen_of (literal_form (pos k)) z)))) (exact_rows d) rows)

  pub fuse_shape : (y z : Shaped) → z ≡ y → IsOk (flat_of (gen_of n (gen_of (literal_form (pos k)) y)))
      → Remains (flat_of (gen_of n (gen_of (literal_form (pos k)) y))) (gen_of (scaled (pos k) n) z)
  fuse_shape (Ok ns) z e h =
      let m = literal_form (pos k) in
      let all = becomes_old (flat_of (gen_of n (gen_of m (Ok ns)))) (product_of n m ∷ ns) h
      (flat_becomes n m ns (gen_of n (gen_of m (Ok ns))) (gens_become n m ns (Ok ns) refl)) in
      let rows = product-literal n (pos k) ordered in (
        scaled (pos k) n ∷ ns,
        all ∙ (λ i. Ok (rows i ∷ ns)),
        around 0 z ns (scaled (pos k) n ∷ ns) (λ ns. limited (scaled (pos k) n ∷ ns)) (becomes_of ns z e) (limited_becomes (scaled (pos k) n ∷ ns)),
      )
    where
      becomes_old : (x : Shaped) (ms : Extents) → IsOk x → Becomes ms x → x ≡ Ok ms
      becomes_old (Ok xs) ms g b = ap Ok b
      becomes_old (Err c) ms g b = absurd (never g)
  fuse_shape (Err c) z e h = absurd (never h)
