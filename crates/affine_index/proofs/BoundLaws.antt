-- Atoms are at least 0, and at values within the maxima at most their magnitudes.
use Rattle.std.proofs.Common.{◌≡◌, ℕ, ◌+◌, ◌*◌, ◌/◌, ◌<◌, ◌≤◌, List, [], ◌∷◌, length, map, refl, ap, sym, ◌∙◌, arith, true, false, nat_le, nat_lt}
use Rattle.std.specs.Prelude.{ℤ, pos, negsuc, ◌+ℤ◌, ◌*ℤ◌, slice_index}
use Rattle.std.specs.Int.{int_div_euclid}
use Rattle.std.specs.Int.RustNames.{unsigned_abs}
use Rattle.std.specs.Ordering.{int_eq}
use Rattle.std.proofs.lemmas.Bool.{and_parts}
use Rattle.std.proofs.lemmas.Int.{ints}
use Rattle.std.proofs.Math.Nat.{div-le_self}
use Rattle.affine_index.specs.Limited.{all_firsts, all_true, atom_scoped, items_scoped}
use Rattle.affine_index.specs.Magnitude.{atom_magnitude, factors_magnitude, magnitude, terms_magnitude}
use Rattle.affine_index.specs.Normal.{all_remainders, has_items, is_ordered, is_remainder}
use Rattle.affine_index.specs.Printed.{WithinMaxima}
use Rattle.affine_index.specs.Value.{atom_value, items_value, terms_value}
use Rattle.affine_index.proofs.Factors.{Ordered, mul_parts}
use Rattle.affine_index.proofs.Induction.{Each, EachTerm, for_atoms}
use Rattle.affine_index.proofs.MagLaws.{mag-Size, mag-Var, mag-Div, mag-Mul, mag-items}
use Rattle.affine_index.proofs.ReadyLaws.{ordered-Div, scoped-Size, scoped-Var, scoped-Div, scoped-Mul, scoped-items, scoped_term}
use Rattle.affine_index.proofs.Sorted.{EachItem, GoodItem, ordered-terms}
use Rattle.affine_index.proofs.SumValue.{items_value-is}
use Rattle.affine_index.proofs.Values.{factors_value, value-Size, value-Var, value-Div, value-Mul}
use Rattle.affine_index.specs.declared.form.Atom.{Atom}
use Rattle.affine_index.specs.declared.form.Atom.TheVariants.{Size, Var, Div, Mul}
use Rattle.affine_index.specs.declared.form.Item.{Item}
use Rattle.affine_index.specs.declared.form.Items.{Items}

-- a value that is a number up to another, which is at least 1
pub record UpTo (z : ℤ) (m : ℕ) : Type 0 where
  pub number : ℕ
  pub is : z ≡ pos number
  pub most : number ≤ m
  pub positive : 1 ≤ m

below : (n k : ℕ) → nat_lt n k ≡ true → n < k
below n k h = grind arith

product-up : (x y : ℤ) (m n : ℕ) → UpTo x m → UpTo y n → UpTo (x *ℤ y) (m * n)
product-up x y m n a b = record {
  number = a.number * b.number;
  is = λ i. a.is i *ℤ b.is i;
  most = both a.number m b.number n a.most b.most;
  positive = least m n a.positive b.positive;
}
  where
    both : (a b c d : ℕ) → a ≤ b → c ≤ d → a * c ≤ b * d
    both a b c d p q = grind arith

    least : (m n : ℕ) → 1 ≤ m → 1 ≤ n → 1 ≤ m * n
    least m n p q = grind arith

-- a sum of items that are at least 0
record Part (z : ℤ) (m : ℕ) : Type 0 where
  number : ℕ
  is : z ≡ pos number
  most : number ≤ m

module _ (s v maxima most : List ℕ) (ws : WithinMaxima s maxima) (wv : WithinMaxima v most) where
  abbrev pub AtomUp : Atom → Type 0
  AtomUp a = Ordered a → atom_scoped (length maxima) (length most) a ≡ true → UpTo (atom_value s v a) (atom_magnitude maxima most a)

  abbrev FormUp : Items → Type 0
  FormUp i = is_ordered i ≡ true → items_scoped (length maxima) (length most) i ≡ true → (k : ℕ) → all_remainders k i.terms ≡ true
      → is_remainder k i.constant ≡ true → has_items i.terms ≡ true
      → UpTo (items_value s v i) (magnitude maxima most i)

  size_up : (k : ℕ) → AtomUp (Size k)
  size_up k o h =
      let w = ws k (below k (length maxima) (sym (scoped-Size (length maxima) (length most) k) ∙ h)) in
      record {
        number = slice_index s k;
        is = value-Size s v k;
        most = omega (arith, w.0, mag-Size maxima most k);
        positive =
            omega (arith, w.1, mag-Size maxima most k);
      }

  var_up : (k : ℕ) → AtomUp (Var k)
  var_up k o h =
      let w = wv k (below k (length most) (sym (scoped-Var (length maxima) (length most) k) ∙ h)) in
      record {
        number = slice_index v k;
        is = value-Var s v k;
        most = omega (arith, w.0, mag-Var maxima most k);
        positive =
            omega (arith, w.1, mag-Var maxima most k);
      }

  quotient-least : (n k : ℕ) → n / k ≤ n
  quotient-least n k = div-le_self n k

  div_up : (i : Items) (k : ℕ) → FormUp i → AtomUp (Div i k)
  div_up i k h o g =
      let parts = ordered-Div i k o in
      let a = and_parts (nat_le 2 k) _ parts.0 in
      let b = and_parts (nat_le k 2147483647) _ a.1 in
      let c = and_parts (has_items i.terms) _ b.1 in
      let d = and_parts (all_remainders k i.terms) (is_remainder k i.constant) c.1 in
      let u = h parts.1 (sym (scoped-Div (length maxima) (length most) i k) ∙ g) k d.0 d.1 c.0 in
      record {
        number = u.number / k;
        is = value-Div s v i k ∙ ap (λ z. int_div_euclid z (pos k)) u.is;
        most = omega (arith, quotient-least u.number k, u.most, mag-Div maxima most i k);
        positive = omega (arith, u.positive, mag-Div maxima most i k);
      }

  factors_up : (fs : List Atom) → Each AtomUp fs → Each Ordered fs → all_true (map (atom_scoped (length maxima) (length most)) fs) ≡ true
      → UpTo (factors_value s v fs) (factors_magnitude maxima most fs)
  factors_up [] h o g = record { number = 1; is = refl; most = omega arith; positive = omega arith }
  factors_up (f ∷ fs) h o g =
      let gs = and_parts (atom_scoped (length maxima) (length most) f) (all_true (map (atom_scoped (length maxima) (length most)) fs)) g in
      product-up (atom_value s v f) (factors_value s v fs) (atom_magnitude maxima most f) (factors_magnitude maxima most fs) (h.0 o.0 gs.0)
      (factors_up fs h.1 o.1 gs.1)

  mul_up : (fs : List Atom) → Each AtomUp fs → AtomUp (Mul fs)
  mul_up fs h o g =
      let u = factors_up fs h (mul_parts fs o).good.ordered (sym (scoped-Mul (length maxima) (length most) fs) ∙ g) in
      record {
        number = u.number;
        is = value-Mul s v fs ∙ u.is;
        most = omega (arith, u.most, mag-Mul maxima most fs);
        positive =
            omega (arith, u.positive, mag-Mul maxima most fs);
      }

  item_up : (k : ℕ) (c : ℤ) (x : ℤ) (m : ℕ) → is_remainder k c ≡ true → UpTo x m → Part (c *ℤ x) (unsigned_abs c * m)
  item_up k (pos n) x m r u = record { number = n * u.number; is = ap (λ z. pos n *ℤ z) u.is; most = both n u.number m u.most }
    where
      both : (n a b : ℕ) → a ≤ b → n * a ≤ n * b
      both n a b p = grind arith
  item_up k (negsuc n) x m r u = absurd (cc)

  terms_up : (k : ℕ) (ts : List (Item Atom)) → EachTerm AtomUp ts → EachItem GoodItem ts
      → all_firsts (map (scoped_term (length maxima) (length most)) ts) ≡ true → all_remainders k ts ≡ true
      → Part (terms_value s v ts) (terms_magnitude maxima most ts)
  terms_up k [] h o g r = record { number = 0; is = refl; most = omega arith }
  terms_up k (t ∷ ts) h o g r =
      let gs = and_parts (atom_scoped (length maxima) (length most) t.atom) (all_firsts (map (scoped_term (length maxima) (length most)) ts)) g in
      let rs = and_parts (is_remainder k t.coefficient) (all_remainders k ts) r in
      let a = item_up k t.coefficient (atom_value s v t.atom) (atom_magnitude maxima most t.atom) rs.0 (h.0 o.0.0 gs.0) in
      let b = terms_up k ts h.1 o.1 gs.1 rs.1 in
      record { number = a.number + b.number; is = λ i. a.is i +ℤ b.is i; most = omega (arith, a.most, b.most) }

  some_positive : (ts : List (Item Atom)) → EachTerm AtomUp ts → EachItem GoodItem ts → all_firsts (map (scoped_term (length maxima) (length most)) ts) ≡ true
      → has_items ts ≡ true → 1 ≤ terms_magnitude maxima most ts
  some_positive [] h o g n = absurd (cc)
  some_positive (t ∷ ts) h o g n =
      let gs = and_parts (atom_scoped (length maxima) (length most) t.atom) (all_firsts (map (scoped_term (length maxima) (length most)) ts)) g in
      omega (arith, least (unsigned_abs t.coefficient) (atom_magnitude maxima most t.atom) (nonzero t.coefficient o.0.1) (h.0 o.0.0 gs.0).positive)
    where
      nonzero : (c : ℤ) → int_eq c (pos 0) ≡ false → 1 ≤ unsigned_abs c
      nonzero c e = grind (arith, ints)

      least : (m n : ℕ) → 1 ≤ m → 1 ≤ n → 1 ≤ m * n
      least m n p q = grind arith

  constant_up : (k : ℕ) (c : ℤ) → is_remainder k c ≡ true → c ≡ pos (unsigned_abs c)
  constant_up k (pos n) r = refl
  constant_up k (negsuc n) r = absurd (cc)

  form_up : (ts : List (Item Atom)) (c : ℤ) → EachTerm AtomUp ts → FormUp (record { terms = ts; constant = c })
  form_up ts c h o g k rs r n =
      let i : Items = record { terms = ts; constant = c } in
      let goods = (ordered-terms i o).1 in
      let sc = sym (scoped-items (length maxima) (length most) i) ∙ g in
      let a = terms_up k ts h goods sc rs in
      record {
        number = a.number + unsigned_abs c;
        is = items_value-is s v i ∙ (λ j. a.is j +ℤ constant_up k c r j);
        most = omega (arith, a.most, mag-items maxima most i);
        positive = omega (arith, some_positive ts h goods sc n, mag-items maxima most i);
      }

  -- an atom is at least 0, and at most its magnitude
  pub atom_up : (a : Atom) → AtomUp a
  atom_up = for_atoms AtomUp FormUp size_up var_up div_up mul_up form_up
