-- Multiples of forms: what a product of two numbers takes.
use Rattle.std.proofs.Common.{◌≡◌, ℕ, ◌*◌, ◌<◌, ◌≤◌, ◌^◌, [], refl, ap, arith, false}
use Rattle.std.specs.Prelude.{ℤ, pos, ◌*ℤ◌}
use Rattle.std.specs.Ordering.{int_eq}
use Rattle.affine_index.specs.Sum.{scaled, scaled_if, scaled_terms}
use Rattle.affine_index.proofs.PutFree.{scaled-atom}
use Rattle.affine_index.specs.declared.form.Items.{Items}

pub part_fits : (a m n : ℕ) → m ≤ n → a * n < 2 ^ 127 → a * m < 2 ^ 127
part_fits a m n p h = grind arith

pub scaled-zero : (i : Items) → scaled (pos 0) i ≡ record { terms = []; constant = pos 0 }
scaled-zero i = refl

pub scaled-other : (c : ℤ) (i : Items) → int_eq c (pos 0) ≡ false → scaled c i ≡ record { terms = scaled_terms c i.terms; constant = c *ℤ i.constant }
scaled-other c i h = ap (λ z. scaled_if z c i) h

pub ruleset multiple_laws = (scaled-zero, scaled-other, scaled-atom)
