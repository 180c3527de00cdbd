-- The equations of the magnitude.
use Rattle.std.proofs.Common.{◌≡◌, ℕ, ◌+◌, ◌*◌, List, [], ◌∷◌, map, refl, ap, sym, ◌∙◌}
use Rattle.std.specs.Prelude.{slice_index}
use Rattle.std.specs.Int.RustNames.{unsigned_abs}
use Rattle.affine_index.specs.Magnitude.{atom_magnitude, factors_magnitude, magnitude, magnitude_items_step, magnitude_step, product_of_magnitudes}
use Rattle.affine_index.specs.Magnitude.{sum_of_magnitudes, terms_magnitude}
use Rattle.affine_index.specs.declared.form.Atom.{Atom}
use Rattle.affine_index.specs.declared.form.Items.{Items}
use Rattle.affine_index.specs.declared.form.Item.{Item}
use Rattle.affine_index.specs.declared.form.Atom.TheOpen.{Atom-F}
use Rattle.affine_index.specs.declared.form.Atom.TheVariants.{Size, Var, Div, Mul, rolls-Size, rolls-Var, rolls-Mul, rolls-Div}
use Rattle.affine_index.specs.declared.form.Atom.TheFolds.{fold-roll-Atom, fold_out-Items}

module _ (maxima vars : List ℕ) where
  pub magnitude-Size : (k : ℕ) → atom_magnitude maxima vars (Size k) ≡ slice_index maxima k
  magnitude-Size k = ap (atom_magnitude maxima vars) (sym (rolls-Size k))
      ∙ fold-roll-Atom ℕ ℕ (magnitude_step maxima vars) (magnitude_items_step maxima vars) (Atom-F.Size k)

  pub magnitude-Var : (k : ℕ) → atom_magnitude maxima vars (Var k) ≡ slice_index vars k
  magnitude-Var k = ap (atom_magnitude maxima vars) (sym (rolls-Var k))
      ∙ fold-roll-Atom ℕ ℕ (magnitude_step maxima vars) (magnitude_items_step maxima vars) (Atom-F.Var k)

  pub magnitude-Div : (i : Items) (k : ℕ) → atom_magnitude maxima vars (Div i k) ≡ magnitude maxima vars i
  magnitude-Div i k = ap (atom_magnitude maxima vars) (sym (rolls-Div i k))
      ∙ fold-roll-Atom ℕ ℕ (magnitude_step maxima vars) (magnitude_items_step maxima vars) (Atom-F.Div i k)

  factors_map : (fs : List Atom) → product_of_magnitudes (map (atom_magnitude maxima vars) fs) ≡ factors_magnitude maxima vars fs
  factors_map [] = refl
  factors_map (f ∷ fs) = ap (λ n. atom_magnitude maxima vars f * n) (factors_map fs)

  pub magnitude-Mul : (fs : List Atom) → atom_magnitude maxima vars (Mul fs) ≡ factors_magnitude maxima vars fs
  magnitude-Mul fs = ap (atom_magnitude maxima vars) (sym (rolls-Mul fs))
      ∙ fold-roll-Atom ℕ ℕ (magnitude_step maxima vars) (magnitude_items_step maxima vars) (Atom-F.Mul fs) ∙ factors_map fs

  terms_map : (ts : List (Item Atom))
      → sum_of_magnitudes (map (λ t. record { atom = atom_magnitude maxima vars t.atom; coefficient = t.coefficient }) ts) ≡ terms_magnitude maxima vars ts
  terms_map [] = refl
  terms_map (t ∷ ts) = ap (λ n. unsigned_abs t.coefficient * atom_magnitude maxima vars t.atom + n) (terms_map ts)

  pub magnitude-items : (i : Items) → magnitude maxima vars i ≡ terms_magnitude maxima vars i.terms + unsigned_abs i.constant
  magnitude-items i = fold_out-Items ℕ ℕ (magnitude_step maxima vars) (magnitude_items_step maxima vars) i
      ∙ ap (λ n. n + unsigned_abs i.constant) (terms_map i.terms)

pub ruleset magnitude_laws = (magnitude-Size, magnitude-Var, magnitude-Div, magnitude-Mul, magnitude-items)
