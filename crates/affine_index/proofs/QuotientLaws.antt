-- One step of a quotient.
use Rattle.std.proofs.Common.{◌≡◌, ℕ, ◌+◌, ◌<◌, ◌^◌, List, ◌∷◌, length, drop, get_or, ap, arith, true, false}
use Rattle.std.specs.Prelude.{ℤ, pos}
use Rattle.std.specs.Int.{int_div_euclid}
use Rattle.std.specs.Ordering.{int_eq}
use Rattle.affine_index.specs.Quotient.{item_of, quotient_atom, rest_part, whole_part, whole_terms}
use Rattle.affine_index.specs.Sum.{item_if}
use Rattle.affine_index.specs.Wide.{norm}
use Rattle.affine_index.proofs.NormLaws.{quotient_atom-norm, whole-most}
use Rattle.affine_index.proofs.Lists.{drop-item}
use Rattle.affine_index.specs.declared.form.Atom.{Atom}
use Rattle.affine_index.specs.declared.form.Item.{Item}
use Rattle.affine_index.specs.declared.form.Items.{Items}

pub item_of-zero : (a : Atom) (c : ℤ) (rest : List (Item Atom)) → int_eq c (pos 0) ≡ true → item_of a c rest ≡ rest
item_of-zero a c rest e = ap (λ z. item_if z (record { atom = a; coefficient = c }) rest) e

pub item_of-other : (a : Atom) (c : ℤ) (rest : List (Item Atom)) → int_eq c (pos 0) ≡ false → item_of a c rest ≡ record { atom = a; coefficient = c } ∷ rest
item_of-other a c rest e = ap (λ z. item_if z (record { atom = a; coefficient = c }) rest) e

pub whole-step : (k : ℕ) (ts : List (Item Atom)) (at : ℕ) (t : Item Atom) → at < length ts → t ≡ get_or ts at t
    → whole_terms k (drop at ts) ≡ item_of t.atom (int_div_euclid t.coefficient (pos k)) (whole_terms k (drop (at + 1) ts))
whole-step k ts at t h e = ap (whole_terms k) (drop-item ts at t h e)

pub ruleset quotient_laws = (item_of-zero, item_of-other)

pub quotient-room : (i x y : Items) (k : ℕ) → 0 < k → x ≡ whole_part i k → y ≡ quotient_atom (rest_part i k).terms (rest_part i k).constant k
    → norm i + 1 < 2 ^ 127 → norm x + norm y < 2 ^ 127
quotient-room i x y k h e f p = omega (arith, ap norm e, ap norm f, whole-most i k h, quotient_atom-norm (rest_part i k).terms (rest_part i k).constant k, p)
