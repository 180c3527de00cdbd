-- At values within the maxima the value of a form is within its magnitude.
use Rattle.std.proofs.Common.{◌≡◌, ℕ, ◌+◌, ◌*◌, ◌≤◌, List, [], ◌∷◌, length, ap, arith, sym, ◌∙◌, true}
use Rattle.std.specs.Prelude.{ℤ, pos, negsuc, ◌+ℤ◌, ◌*ℤ◌, slice_index}
use Rattle.std.specs.Int.{int_div_euclid}
use Rattle.std.specs.Int.RustNames.{unsigned_abs}
use Rattle.std.proofs.lemmas.Bool.{and_parts, ltb-true}
use Rattle.std.proofs.lemmas.Int.{ints, unsigned_abs-mul}
use Rattle.std.proofs.Math.Nat.{div-le_self}
use Rattle.affine_index.specs.Limited.{atom_scoped, atoms_scoped, items_scoped, terms_scoped}
use Rattle.affine_index.specs.Magnitude.{atom_magnitude, factors_magnitude, magnitude, terms_magnitude}
use Rattle.affine_index.specs.Printed.{WithinMaxima}
use Rattle.affine_index.specs.Value.{atom_value, items_value, terms_value}
use Rattle.affine_index.proofs.Induction.{Each, EachTerm, for_items}
use Rattle.affine_index.proofs.MagLaws.{mag-Size, mag-Var, mag-Div, mag-Mul, mag-items}
use Rattle.affine_index.proofs.ReadyLaws.{scoped-Size, scoped-Var, scoped-Div}
use Rattle.affine_index.proofs.ScopeLaws.{scope-Mul, scope-items}
use Rattle.affine_index.proofs.SumValue.{items_value-is}
use Rattle.affine_index.proofs.Values.{factors_value, value-Size, value-Var, value-Div, value-Mul}
use Rattle.affine_index.specs.declared.form.Atom.{Atom}
use Rattle.affine_index.specs.declared.form.Atom.TheVariants.{Size, Var, Div, Mul}
use Rattle.affine_index.specs.declared.form.Item.{Item}
use Rattle.affine_index.specs.declared.form.Items.{Items}

pub both : (a b c d : ℕ) → a ≤ b → c ≤ d → a * c ≤ b * d
both a b c d p q = grind arith

pub abs-sum : (a b : ℤ) → unsigned_abs (a +ℤ b) ≤ unsigned_abs a + unsigned_abs b
abs-sum a b = grind (arith, ints)

-- a quotient is no larger than its dividend
quotient-most : (z : ℤ) (k : ℕ) → unsigned_abs (int_div_euclid z (pos k)) ≤ unsigned_abs z
quotient-most (pos n) k = div-le_self n k
quotient-most (negsuc n) k = omega (arith, div-le_self n k)

product-most : (x y : ℤ) (m n : ℕ) → unsigned_abs x ≤ m → unsigned_abs y ≤ n → unsigned_abs (x *ℤ y) ≤ m * n
product-most x y m n p q = omega (arith, unsigned_abs-mul x y, both (unsigned_abs x) m (unsigned_abs y) n p q)

at-most : (z : ℤ) (n m : ℕ) → z ≡ pos n → n ≤ m → unsigned_abs z ≤ m
at-most z n m e h = omega (arith, ap unsigned_abs e, h)

module _ (s v maxima most : List ℕ) (ws : WithinMaxima s maxima) (wv : WithinMaxima v most) where
  abbrev sizes : ℕ
  sizes = length maxima

  abbrev vars : ℕ
  vars = length most

  abbrev AtomMost : Atom → Type 0
  AtomMost a = atom_scoped sizes vars a ≡ true → unsigned_abs (atom_value s v a) ≤ atom_magnitude maxima most a

  abbrev FormMost : Items → Type 0
  FormMost i = items_scoped (length maxima) (length most) i ≡ true → unsigned_abs (items_value s v i) ≤ magnitude maxima most i

  size_most : (k : ℕ) → AtomMost (Size k)
  size_most k g =
      let w = ws k (ltb-true k sizes (sym (scoped-Size sizes vars k) ∙ g)) in
      at-most (atom_value s v (Size k)) (slice_index s k) (atom_magnitude maxima most (Size k)) (value-Size s v k) (omega (arith, w.0, mag-Size maxima most k))

  var_most : (k : ℕ) → AtomMost (Var k)
  var_most k g =
      let w = wv k (ltb-true k vars (sym (scoped-Var sizes vars k) ∙ g)) in
      at-most (atom_value s v (Var k)) (slice_index v k) (atom_magnitude maxima most (Var k)) (value-Var s v k) (omega (arith, w.0, mag-Var maxima most k))

  div_most : (i : Items) (k : ℕ) → FormMost i → AtomMost (Div i k)
  div_most i k h g =
      let dividend = h (sym (scoped-Div sizes vars i k) ∙ g) in
      omega (arith, ap unsigned_abs (value-Div s v i k), quotient-most (items_value s v i) k, dividend, mag-Div maxima most i k)

  factors-most : (fs : List Atom) → Each AtomMost fs → atoms_scoped sizes vars fs ≡ true
      → unsigned_abs (factors_value s v fs) ≤ factors_magnitude maxima most fs
  factors-most [] h g = omega arith
  factors-most (f ∷ fs) h g =
      let gs = and_parts (atom_scoped sizes vars f) (atoms_scoped sizes vars fs) g in
      let m = atom_magnitude maxima most f in
      product-most (atom_value s v f) (factors_value s v fs) m (factors_magnitude maxima most fs) (h.0 gs.0) (factors-most fs h.1 gs.1)

  mul_most : (fs : List Atom) → Each AtomMost fs → AtomMost (Mul fs)
  mul_most fs h g =
      let factors = factors-most fs h (sym (scope-Mul sizes vars fs) ∙ g) in
      omega (arith, ap unsigned_abs (value-Mul s v fs), factors, mag-Mul maxima most fs)

  terms-most : (ts : List (Item Atom)) → EachTerm AtomMost ts → terms_scoped sizes vars ts ≡ true
      → unsigned_abs (terms_value s v ts) ≤ terms_magnitude maxima most ts
  terms-most [] h g = omega arith
  terms-most (t ∷ ts) h g =
      let gs = and_parts (atom_scoped sizes vars t.atom) (terms_scoped sizes vars ts) g in
      let c = t.coefficient in
      let x = atom_value s v t.atom in
      let item = product-most c x (unsigned_abs c) (atom_magnitude maxima most t.atom) (omega arith) (h.0 gs.0) in
      omega (arith, abs-sum (c *ℤ x) (terms_value s v ts), item, terms-most ts h.1 gs.1)

  form_most : (ts : List (Item Atom)) (c : ℤ) → EachTerm AtomMost ts → FormMost (record { terms = ts; constant = c })
  form_most ts c h g =
      let i : Items = record { terms = ts; constant = c } in
      let items = terms-most ts h (sym (scope-items sizes vars i) ∙ g) in
      omega (arith, ap unsigned_abs (items_value-is s v i), abs-sum (terms_value s v ts) c, items, mag-items maxima most i)

  -- the value of a form is within its magnitude
  pub form-most : (i : Items) → FormMost i
  form-most = for_items AtomMost FormMost size_most var_most div_most mul_most form_most
