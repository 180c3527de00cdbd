-- Products of numbers that are at least 0, and atoms of normal forms, are at least 0.
use Rattle.std.proofs.Common.{ℕ, List, sym, subst, arith}
use Rattle.std.specs.Prelude.{ℤ, pos, negsuc, ◌*ℤ◌, ◌≤ℤ◌}
use Rattle.std.proofs.lemmas.Int.{ints}
use Rattle.affine_index.specs.Value.{atom_value}
use Rattle.affine_index.proofs.Factors.{Ordered}
use Rattle.affine_index.proofs.ZeroLaws.{atom_natural}
use Rattle.affine_index.specs.declared.form.Atom.{Atom}

pub times-not_negative : (x y : ℤ) → pos 0 ≤ℤ x → pos 0 ≤ℤ y → pos 0 ≤ℤ (x *ℤ y)
times-not_negative (pos x) (pos y) h l = omega (arith, ints)
times-not_negative (pos x) (negsuc y) h l = absurd (omega (arith, ints))
times-not_negative (negsuc x) y h l = absurd (omega (arith, ints))

natural-not_negative : (n : ℕ) → pos 0 ≤ℤ pos n
natural-not_negative n = omega (arith, ints)

-- an atom of a normal form is at least 0
pub atom-not_negative : (s r : List ℕ) (a : Atom) → Ordered a → pos 0 ≤ℤ atom_value s r a
atom-not_negative s r a o = let u = atom_natural s r a o in subst (λ (z : ℤ). pos 0 ≤ℤ z) (sym u.1) (natural-not_negative u.0)
