-- The equations of the magnitude, and its stop.
use Rattle.std.proofs.Common.{◌≡◌, ℕ, suc, ◌+◌, ◌*◌, ◌<◌, ◌≤◌, List, [], ◌∷◌, ◌⊎◌, inl, inr, true, false, nat_le, zero, length, drop, get_or, map, min, refl}
use Rattle.std.proofs.Common.{ap, sym, ◌∙◌, arith}
use Rattle.std.specs.Prelude.{slice_index}
use Rattle.std.specs.Int.RustNames.{unsigned_abs}
use Rattle.affine_index.specs.Magnitude.{atom_magnitude, factors_magnitude, magnitude, magnitude_items_step, magnitude_step, product_of_magnitudes}
use Rattle.affine_index.specs.Magnitude.{sum_of_magnitudes, terms_magnitude}
use Rattle.affine_index.proofs.LimitedLaws.{ready-Size, ready-Var, ready-Div, ready-Mul, ready-items}
use Rattle.affine_index.proofs.Lists.{drop-item}
use Rattle.affine_index.specs.declared.form.Atom.{Atom}
use Rattle.affine_index.specs.declared.form.Atom.TheVariants.{Size, Var, Div, Mul, rolls-Size, rolls-Var, rolls-Mul, rolls-Div}
use Rattle.affine_index.specs.declared.form.Item.{Item}
use Rattle.affine_index.specs.declared.form.Items.{Items}
use Rattle.affine_index.specs.declared.form.Atom.TheOpen.{Atom-F}
use Rattle.affine_index.specs.declared.form.Atom.TheFolds.{fold-roll-Atom, fold_out-Items}

module _ (s v : List ℕ) where
  pub mag-Size : (k : ℕ) → atom_magnitude s v (Size k) ≡ slice_index s k
  mag-Size k = ap (atom_magnitude s v) (sym (rolls-Size k)) ∙ fold-roll-Atom ℕ ℕ (magnitude_step s v) (magnitude_items_step s v) (Atom-F.Size k)

  pub mag-Var : (k : ℕ) → atom_magnitude s v (Var k) ≡ slice_index v k
  mag-Var k = ap (atom_magnitude s v) (sym (rolls-Var k)) ∙ fold-roll-Atom ℕ ℕ (magnitude_step s v) (magnitude_items_step s v) (Atom-F.Var k)

  pub mag-Div : (i : Items) (k : ℕ) → atom_magnitude s v (Div i k) ≡ magnitude s v i
  mag-Div i k = ap (atom_magnitude s v) (sym (rolls-Div i k)) ∙ fold-roll-Atom ℕ ℕ (magnitude_step s v) (magnitude_items_step s v) (Atom-F.Div i k)

  product_map : (fs : List Atom) → product_of_magnitudes (map (atom_magnitude s v) fs) ≡ factors_magnitude s v fs
  product_map [] = refl
  product_map (f ∷ fs) = ap (λ x. atom_magnitude s v f * x) (product_map fs)

  pub mag-Mul : (fs : List Atom) → atom_magnitude s v (Mul fs) ≡ factors_magnitude s v fs
  mag-Mul fs = ap (atom_magnitude s v) (sym (rolls-Mul fs)) ∙ fold-roll-Atom ℕ ℕ (magnitude_step s v) (magnitude_items_step s v) (Atom-F.Mul fs)
      ∙ product_map fs

  sum_map : (ts : List (Item Atom))
      → sum_of_magnitudes (map (λ t. record { atom = atom_magnitude s v t.atom; coefficient = t.coefficient }) ts) ≡ terms_magnitude s v ts
  sum_map [] = refl
  sum_map (t ∷ ts) = ap (λ x. unsigned_abs t.coefficient * atom_magnitude s v t.atom + x) (sum_map ts)

  pub mag-items : (i : Items) → magnitude s v i ≡ terms_magnitude s v i.terms + unsigned_abs i.constant
  mag-items i = fold_out-Items ℕ ℕ (magnitude_step s v) (magnitude_items_step s v) i ∙ ap (λ x. x + unsigned_abs i.constant) (sum_map i.terms)

pub ruleset mag_laws = (mag-Size, mag-Var, mag-Div, mag-Mul, mag-items, ready-Size, ready-Var, ready-Div, ready-Mul, ready-items)

-- a product stops where a factor does, unless the other is 0
stopped : (a c l : ℕ) → min (min a l * c) l ≡ min (a * c) l
stopped a c l = by (le_or a l)
  where
    le_or : (a l : ℕ) → (a ≤ l) ⊎ (l ≤ a)
    le_or a l = elim (nat_le a l) as (λ b. nat_le a l ≡ b → (a ≤ l) ⊎ (l ≤ a)) [ true ↦ λ e. inl (yes a l e) | false ↦ λ e. inr (no a l e) ] refl
      where
        yes : (a l : ℕ) → nat_le a l ≡ true → a ≤ l
        yes a l e = grind arith

        no : (a l : ℕ) → nat_le a l ≡ false → l ≤ a
        no a l e = grind arith

    within : (a l : ℕ) → a ≤ l → min a l ≡ a
    within a l h = omega arith

    past : (a l : ℕ) → l ≤ a → min a l ≡ l
    past a l h = omega arith

    both : (a c l : ℕ) → l ≤ a → min (l * c) l ≡ min (a * c) l
    both a zero l h = omega arith
    both a (suc n) l h = omega (arith, more l n, more a n)
      where
        more : (m n : ℕ) → m ≤ m * suc n
        more m n = grind arith

    by : (a ≤ l) ⊎ (l ≤ a) → min (min a l * c) l ≡ min (a * c) l
    by (inl h) = ap (λ x. min (x * c) l) (within a l h)
    by (inr h) = ap (λ x. min (x * c) l) (past a l h) ∙ both a c l h

turn : (a b : ℕ) → a * b ≡ b * a
turn a b = grind arith

swap : (p m r : ℕ) → (p * m) * r ≡ m * (p * r)
swap p m r = omega arith

pub stop-times : (p m r l : ℕ) → min (min (p * min m l) l * r) l ≡ min (p * (m * r)) l
stop-times p m r l =
    stopped (p * min m l) r l ∙ ap (λ x. min x l) (swap p (min m l) r) ∙ stopped m (p * r) l ∙ ap (λ x. min x l) (back p m r)
  where
    back : (p m r : ℕ) → m * (p * r) ≡ p * (m * r)
    back p m r = omega arith

pub factors-next : (s v : List ℕ) (fs : List Atom) (at : ℕ) (x : Atom) → at < length fs → x ≡ get_or fs at x
    → factors_magnitude s v (drop at fs) ≡ atom_magnitude s v x * factors_magnitude s v (drop (at + 1) fs)
factors-next s v fs at x h e = ap (factors_magnitude s v) (drop-item fs at x h e)
