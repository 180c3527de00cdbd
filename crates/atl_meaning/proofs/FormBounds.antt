-- Where the magnitude is small, the value is computed without passing 2^120.
use Rattle.std.proofs.Common.{◌≡◌, ℕ, ◌+◌, ◌*◌, ◌^◌, ◌<◌, ◌≤◌, List, [], ◌∷◌, length, map, ap, sym, ◌∙◌, arith, true, false, Some}
use Rattle.std.specs.Prelude.{ℤ, pos, ◌+ℤ◌, ◌*ℤ◌}
use Rattle.std.specs.Option.{option_and_then}
use Rattle.std.specs.Int.{int_div_euclid}
use Rattle.std.specs.Int.RustNames.{unsigned_abs}
use Rattle.std.specs.Ordering.{int_eq}
use Rattle.std.proofs.lemmas.Bool.{and_parts}
use Rattle.std.proofs.lemmas.Int.{ints, unsigned_abs-mul}
use Rattle.affine_index.specs.Limited.{added_all, all_firsts, all_true, atom_scoped, items_scoped, limited, limited_value, plus, times, times_all}
use Rattle.affine_index.specs.Magnitude.{atom_magnitude, factors_magnitude, magnitude, terms_magnitude}
use Rattle.affine_index.specs.Normal.{is_ordered}
use Rattle.affine_index.specs.Printed.{WithinMaxima}
use Rattle.affine_index.specs.Value.{atom_value, items_value, terms_value}
use Rattle.affine_index.proofs.BoundLaws.{UpTo, atom_up}
use Rattle.affine_index.proofs.Factors.{Ordered, mul_parts}
use Rattle.affine_index.proofs.Induction.{Each, EachTerm, for_items}
use Rattle.affine_index.proofs.LimitedLaws.{times-Size, times-Var, times-Div, times-Mul, value-items}
use Rattle.affine_index.proofs.MagLaws.{mag-Div, mag-Mul, mag-items}
use Rattle.affine_index.proofs.ReadyLaws.{ordered-Div, scoped-Div, scoped-Mul, scoped-items, scoped_term}
use Rattle.affine_index.proofs.Ring.{*ℤ_assoc}
use Rattle.affine_index.proofs.Sorted.{EachItem, GoodItem, ordered-terms}
use Rattle.affine_index.proofs.SumValue.{items_value-is}
use Rattle.affine_index.proofs.Values.{factors_value, value-Size, value-Var, value-Div, value-Mul}
use Rattle.affine_index.specs.declared.form.Atom.{Atom}
use Rattle.affine_index.specs.declared.form.Atom.TheVariants.{Size, Var, Div, Mul}
use Rattle.affine_index.specs.declared.form.Item.{Item}
use Rattle.affine_index.specs.declared.form.Items.{Items}
use Rattle.affine_index.proofs.MagnitudeBounds.{abs-sum, both, form-most}

limited-is : (z : ℤ) → unsigned_abs z < 2 ^ 120 → limited z ≡ Some z
limited-is z h = grind arith

up-size : (x : ℤ) (m : ℕ) → UpTo x m → unsigned_abs x ≤ m
up-size x m u = omega (arith, ap unsigned_abs u.is, u.most)

least : (m n : ℕ) → 1 ≤ m → 1 ≤ n → 1 ≤ m * n
least m n p q = grind arith

product-size : (c x : ℤ) (b m : ℕ) → unsigned_abs c ≤ b → UpTo x m → unsigned_abs (c *ℤ x) ≤ b * m
product-size c x b m p u = omega (arith, unsigned_abs-mul c x, both (unsigned_abs c) b (unsigned_abs x) m p (up-size x m u))

first-part : (b m n : ℕ) → 1 ≤ n → b * m ≤ b * (m * n)
first-part b m n h = more b m (m * n) (part m n h)
  where
    part : (m n : ℕ) → 1 ≤ n → m ≤ m * n
    part m n h = grind arith

    more : (b m n : ℕ) → m ≤ n → b * m ≤ b * n
    more b m n h = grind arith

alone : (b m : ℕ) → 1 ≤ b → m ≤ b * m
alone b m h = grind arith

nonzero : (c : ℤ) → int_eq c (pos 0) ≡ false → 1 ≤ unsigned_abs c
nonzero c e = grind (arith, ints)

-- a limit of magnitudes, below that of values
module _ (limit : ℕ) (small : limit < 2 ^ 120) (s v maxima most : List ℕ) (ws : WithinMaxima s maxima) (wv : WithinMaxima v most) where
  abbrev Scoped : Atom → Type 0
  Scoped a = atom_scoped (length maxima) (length most) a ≡ true

  abbrev AtomFits : Atom → Type 0
  AtomFits a = Ordered a → Scoped a → (c : ℤ) (b : ℕ) → 1 ≤ b → unsigned_abs c ≤ b → b * atom_magnitude maxima most a ≤ limit
      → times s v a c ≡ Some (c *ℤ atom_value s v a)

  abbrev FormFits : Items → Type 0
  FormFits i = is_ordered i ≡ true → items_scoped (length maxima) (length most) i ≡ true → magnitude maxima most i ≤ limit
      → limited_value s v i ≡ Some (items_value s v i)

  up : (a : Atom) → Ordered a → Scoped a → UpTo (atom_value s v a) (atom_magnitude maxima most a)
  up = atom_up s v maxima most ws wv

  plain : (a : Atom) (c : ℤ) (b : ℕ) → Ordered a → Scoped a → unsigned_abs c ≤ b → b * atom_magnitude maxima most a ≤ limit
      → limited (c *ℤ atom_value s v a) ≡ Some (c *ℤ atom_value s v a)
  plain a c b o g p q = limited-is (c *ℤ atom_value s v a)
      (omega (arith, product-size c (atom_value s v a) b (atom_magnitude maxima most a) p (up a o g), q, small))

  size_fits : (k : ℕ) → AtomFits (Size k)
  size_fits k o g c b one p q = times-Size s v k c ∙ ap (λ x. limited (c *ℤ x)) (sym (value-Size s v k)) ∙ plain (Size k) c b o g p q

  var_fits : (k : ℕ) → AtomFits (Var k)
  var_fits k o g c b one p q = times-Var s v k c ∙ ap (λ x. limited (c *ℤ x)) (sym (value-Var s v k)) ∙ plain (Var k) c b o g p q

  div_fits : (i : Items) (k : ℕ) → FormFits i → AtomFits (Div i k)
  div_fits i k h o g c b one p q =
      let inside : magnitude maxima most i ≤ limit = omega (arith, alone b (atom_magnitude maxima most (Div i k)) one, q, mag-Div maxima most i k) in
      times-Div s v i k c
      ∙ ap (option_and_then (λ w. limited (c *ℤ int_div_euclid w (pos k))))
      (h (ordered-Div i k o).1 (sym (scoped-Div (length maxima) (length most) i k) ∙ g) inside)
      ∙ ap (λ x. limited (c *ℤ x)) (sym (value-Div s v i k)) ∙ plain (Div i k) c b o g p q

  abbrev ScopedAll : List Atom → Type 0
  ScopedAll fs = all_true (map (atom_scoped (length maxima) (length most)) fs) ≡ true

  factors-one : (fs : List Atom) → Each Ordered fs → ScopedAll fs → 1 ≤ factors_magnitude maxima most fs
  factors-one [] o g = omega arith
  factors-one (f ∷ fs) o g =
      let gs = and_parts (atom_scoped (length maxima) (length most) f) (all_true (map (atom_scoped (length maxima) (length most)) fs)) g in
      least (atom_magnitude maxima most f) (factors_magnitude maxima most fs) (up f o.0 gs.0).positive (factors-one fs o.1 gs.1)

  through-fits : (fs : List Atom) → Each AtomFits fs → Each Ordered fs → ScopedAll fs → (c : ℤ) (b : ℕ) → 1 ≤ b → unsigned_abs c ≤ b
      → b * factors_magnitude maxima most fs ≤ limit
      → times_all s v fs c ≡ Some (c *ℤ factors_value s v fs)
  through-fits [] h o g c b one p q = ap Some (back c)
    where
      back : (c : ℤ) → c ≡ c *ℤ pos 1
      back c = omega (arith, ints)
  through-fits (f ∷ fs) h o g c b one p q =
      let gs = and_parts (atom_scoped (length maxima) (length most) f) (all_true (map (atom_scoped (length maxima) (length most)) fs)) g in
      let m = atom_magnitude maxima most f in
      let n = factors_magnitude maxima most fs in
      let u = up f o.0 gs.0 in
      let first : b * m ≤ limit = omega (arith, first-part b m n (factors-one fs o.1 gs.1), q) in
      let rest : (b * m) * n ≤ limit = omega (arith, q) in
      ap (option_and_then (times_all s v fs)) (h.0 o.0 gs.0 c b one p first)
      ∙ through-fits fs h.1 o.1 gs.1 (c *ℤ atom_value s v f) (b * m) (least b m one u.positive) (product-size c (atom_value s v f) b m p u) rest
      ∙ ap Some (*ℤ_assoc c (atom_value s v f) (factors_value s v fs))

  mul_fits : (fs : List Atom) → Each AtomFits fs → AtomFits (Mul fs)
  mul_fits fs h o g c b one p q =
      times-Mul s v fs c
      ∙ through-fits fs h (mul_parts fs o).good.ordered (sym (scoped-Mul (length maxima) (length most) fs) ∙ g) c b one p
      (omega (arith, ap (λ n. b * n) (mag-Mul maxima most fs), q))
      ∙ ap (λ x. Some (c *ℤ x)) (sym (value-Mul s v fs))

  abbrev ScopedTerms : List (Item Atom) → Type 0
  ScopedTerms ts = all_firsts (map (scoped_term (length maxima) (length most)) ts) ≡ true

  abbrev item : Item Atom → ℤ
  item t = t.coefficient *ℤ atom_value s v t.atom

  abbrev item_size : Item Atom → ℕ
  item_size t = unsigned_abs t.coefficient * atom_magnitude maxima most t.atom

  item-most : (t : Item Atom) → Ordered t.atom → Scoped t.atom → unsigned_abs (item t) ≤ item_size t
  item-most t o g = product-size t.coefficient (atom_value s v t.atom) (unsigned_abs t.coefficient) (atom_magnitude maxima most t.atom) (omega arith)
      (up t.atom o g)

  item-fits : (t : Item Atom) → AtomFits t.atom → GoodItem t → Scoped t.atom → item_size t ≤ limit → times s v t.atom t.coefficient ≡ Some (item t)
  item-fits t h o g q = h o.0 g t.coefficient (unsigned_abs t.coefficient) (nonzero t.coefficient o.1) (omega arith) q

  again : (a b c : ℤ) → (a +ℤ b) +ℤ c ≡ a +ℤ (b +ℤ c)
  again a b c = omega (arith, ints)

  same : (z : ℤ) → z ≡ z +ℤ pos 0
  same z = omega (arith, ints)

  added-fits : (ts : List (Item Atom)) (total : ℤ) → EachTerm AtomFits ts → EachItem GoodItem ts → ScopedTerms ts
      → unsigned_abs total + terms_magnitude maxima most ts ≤ limit
      → added_all s v ts total ≡ Some (total +ℤ terms_value s v ts)
  added-fits [] total h o g q = ap Some (same total)
  added-fits (t ∷ ts) total h o g q =
      let gs = and_parts (atom_scoped (length maxima) (length most) t.atom) (all_firsts (map (scoped_term (length maxima) (length most)) ts)) g in
      let x = item t in
      let size = item-most t o.0.0 gs.0 in
      let sum = abs-sum total x in
      let one : limited (total +ℤ x) ≡ Some (total +ℤ x) = limited-is (total +ℤ x) (omega (arith, sum, size, q, small)) in
      ap (λ y. option_and_then (added_all s v ts) (plus total y)) (item-fits t h.0 o.0 gs.0 (omega (arith, q)))
      ∙ ap (option_and_then (added_all s v ts)) one
      ∙ added-fits ts (total +ℤ x) h.1 o.1 gs.1 (omega (arith, sum, size, q))
      ∙ ap Some (again total x (terms_value s v ts))

  swap : (a b : ℤ) → a +ℤ b ≡ b +ℤ a
  swap a b = omega (arith, ints)

  form_fits : (ts : List (Item Atom)) (c : ℤ) → EachTerm AtomFits ts → FormFits (record { terms = ts; constant = c })
  form_fits ts c h o g q =
      let i : Items = record { terms = ts; constant = c } in
      let goods = (ordered-terms i o).1 in
      let sc = sym (scoped-items (length maxima) (length most) i) ∙ g in
      let x = terms_value s v ts in
      let room : terms_magnitude maxima most ts + unsigned_abs c ≤ limit = omega (arith, mag-items maxima most i, q) in
      let start : pos 0 +ℤ x ≡ x = omega (arith, ints) in
      let value : items_value s v i ≡ x +ℤ c = items_value-is s v i in
      let bound = form-most s v maxima most ws wv i g in
      value-items s v i
      ∙ ap (plus c) (added-fits ts (pos 0) h goods sc (omega (arith, room)) ∙ ap Some start)
      ∙ ap limited (swap c x ∙ sym value) ∙ limited-is (items_value s v i) (omega (arith, bound, q, small))

  pub form-fits : (i : Items) → FormFits i
  form-fits = for_items AtomFits FormFits size_fits var_fits div_fits mul_fits form_fits
