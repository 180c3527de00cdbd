-- Where the magnitude is within the limit, no partial result of the text passes it, also from a sum so far where both are within the limit together.
use Rattle.std.proofs.Common.{◌≡◌, ℕ, zero, suc, ◌+◌, ◌*◌, ◌<◌, ◌≤◌, List, [], ◌∷◌, length, map, refl, ap, sym, ◌∙◌, arith, Bool, true, false, nat_le, Option}
use Rattle.std.proofs.Common.{Some}
use Rattle.std.specs.Prelude.{ℤ, pos, negsuc, ◌+ℤ◌, ◌-ℤ◌, ◌*ℤ◌, slice_index, if◌then◌else◌}
use Rattle.std.specs.Option.{option_and_then}
use Rattle.std.specs.Int.{int_div_euclid}
use Rattle.std.specs.Int.RustNames.{unsigned_abs}
use Rattle.std.specs.Ordering.{int_eq}
use Rattle.std.proofs.lemmas.Bool.{and_parts}
use Rattle.std.proofs.lemmas.Int.{ints, unsigned_abs-mul}
use Rattle.std.proofs.Math.IntN.{zero-*ℤ}
use Rattle.affine_index.specs.Limited.{all_firsts, all_true, atom_scoped, items_scoped}
use Rattle.affine_index.specs.Magnitude.{atom_magnitude, factors_magnitude, magnitude, terms_magnitude}
use Rattle.affine_index.specs.Normal.{is_ordered}
use Rattle.affine_index.specs.Printed.{WithinMaxima, add_constant, add_positive, is_positive, minus, plus, printed_items_step, printed_step, printed_times}
use Rattle.affine_index.specs.Printed.{printed_value, take_constant, take_others, through_all, within}
use Rattle.affine_index.specs.Value.{atom_value, items_value, terms_value}
use Rattle.affine_index.proofs.BoundLaws.{UpTo, atom_up}
use Rattle.affine_index.proofs.Factors.{Ordered, mul_parts}
use Rattle.affine_index.proofs.Induction.{Each, EachTerm, for_atoms, for_items}
use Rattle.affine_index.proofs.MagnitudeBounds.{abs-sum, both}
use Rattle.affine_index.proofs.MagLaws.{mag-Div, mag-Mul, mag-items}
use Rattle.affine_index.proofs.ReadyLaws.{ordered-Div, scoped-Div, scoped-Mul, scoped-items, scoped_term}
use Rattle.affine_index.proofs.Ring.{*ℤ_assoc, *ℤ_distrib}
use Rattle.affine_index.proofs.Sorted.{EachItem, GoodItem, ordered-terms}
use Rattle.affine_index.proofs.SumValue.{items_value-is}
use Rattle.affine_index.proofs.Values.{factors_value, value-Size, value-Var, value-Div, value-Mul}
use Rattle.affine_index.specs.declared.form.Atom.{Atom}
use Rattle.affine_index.specs.declared.form.Atom.TheVariants.{Size, Var, Div, Mul, rolls-Size, rolls-Var, rolls-Mul, rolls-Div}
use Rattle.affine_index.specs.declared.form.Atom.TheOpen.{Atom-F}
use Rattle.affine_index.specs.declared.form.Atom.TheFolds.{fold-roll-Atom, fold_out-Items}
use Rattle.affine_index.specs.declared.form.Item.{Item}
use Rattle.affine_index.specs.declared.form.Items.{Items}

within-is : (limit : ℕ) (z : ℤ) → unsigned_abs z ≤ limit → within limit z ≡ Some z
within-is limit z h = grind arith

up-size : (x : ℤ) (m : ℕ) → UpTo x m → unsigned_abs x ≤ m
up-size x m u = omega (arith, ap unsigned_abs u.is, u.most)

least : (m n : ℕ) → 1 ≤ m → 1 ≤ n → 1 ≤ m * n
least m n p q = grind arith

product-size : (c x : ℤ) (b m : ℕ) → unsigned_abs c ≤ b → UpTo x m → unsigned_abs (c *ℤ x) ≤ b * m
product-size c x b m p u = omega (arith, unsigned_abs-mul c x, both (unsigned_abs c) b (unsigned_abs x) m p (up-size x m u))

first-part : (b m n : ℕ) → 1 ≤ n → b * m ≤ b * (m * n)
first-part b m n h = more b m (m * n) (part m n h)
  where
    part : (m n : ℕ) → 1 ≤ n → m ≤ m * n
    part m n h = grind arith

    more : (b m n : ℕ) → m ≤ n → b * m ≤ b * n
    more b m n h = grind arith

alone : (b m : ℕ) → 1 ≤ b → m ≤ b * m
alone b m h = grind arith

module _ (limit : ℕ) (s v maxima most : List ℕ) (ws : WithinMaxima s maxima) (wv : WithinMaxima v most) where
  abbrev Scoped : Atom → Type 0
  Scoped a = atom_scoped (length maxima) (length most) a ≡ true

  -- a number times an atom, as printed
  abbrev pub times : Atom → ℤ → Option ℤ
  times = printed_times limit s v

  times-Size : (k : ℕ) (c : ℤ) → times (Size k) c ≡ within limit (c *ℤ pos (slice_index s k))
  times-Size k c = ap (λ a. times a c) (sym (rolls-Size k))
      ∙ ap (λ f. f c) (fold-roll-Atom (ℤ → Option ℤ) (Option ℤ) (printed_step limit s v) (printed_items_step limit s v) (Atom-F.Size k))

  times-Var : (k : ℕ) (c : ℤ) → times (Var k) c ≡ within limit (c *ℤ pos (slice_index v k))
  times-Var k c = ap (λ a. times a c) (sym (rolls-Var k))
      ∙ ap (λ f. f c) (fold-roll-Atom (ℤ → Option ℤ) (Option ℤ) (printed_step limit s v) (printed_items_step limit s v) (Atom-F.Var k))

  times-Div : (i : Items) (k : ℕ) (c : ℤ) → times (Div i k) c ≡ option_and_then (λ w. within limit (c *ℤ int_div_euclid w (pos k))) (printed_value limit s v i)
  times-Div i k c = ap (λ a. times a c) (sym (rolls-Div i k))
      ∙ ap (λ f. f c) (fold-roll-Atom (ℤ → Option ℤ) (Option ℤ) (printed_step limit s v) (printed_items_step limit s v) (Atom-F.Div i k))

  times-Mul : (fs : List Atom) (c : ℤ) → times (Mul fs) c ≡ through_all limit (map times fs) c
  times-Mul fs c = ap (λ a. times a c) (sym (rolls-Mul fs))
      ∙ ap (λ f. f c) (fold-roll-Atom (ℤ → Option ℤ) (Option ℤ) (printed_step limit s v) (printed_items_step limit s v) (Atom-F.Mul fs))

  -- an item of which the atom takes its number through its factors
  abbrev pub printed_term : Item Atom → Item (ℤ → Option ℤ)
  printed_term t = record { atom = times t.atom; coefficient = t.coefficient }

  abbrev AtomPrints : Atom → Type 0
  AtomPrints a = Ordered a → Scoped a → (c : ℤ) (b : ℕ) → 1 ≤ b → unsigned_abs c ≤ b → b * atom_magnitude maxima most a ≤ limit
      → times a c ≡ Some (c *ℤ atom_value s v a)

  abbrev FormPrints : Items → Type 0
  FormPrints i = is_ordered i ≡ true → items_scoped (length maxima) (length most) i ≡ true → magnitude maxima most i ≤ limit
      → printed_value limit s v i ≡ Some (items_value s v i)

  up : (a : Atom) → Ordered a → Scoped a → UpTo (atom_value s v a) (atom_magnitude maxima most a)
  up = atom_up s v maxima most ws wv

  plain : (a : Atom) (c : ℤ) (b : ℕ) → Ordered a → Scoped a → unsigned_abs c ≤ b → b * atom_magnitude maxima most a ≤ limit
      → within limit (c *ℤ atom_value s v a) ≡ Some (c *ℤ atom_value s v a)
  plain a c b o g p q = within-is limit (c *ℤ atom_value s v a)
      (omega (arith, product-size c (atom_value s v a) b (atom_magnitude maxima most a) p (up a o g), q))

  size_prints : (k : ℕ) → AtomPrints (Size k)
  size_prints k o g c b one p q = times-Size k c ∙ ap (λ x. within limit (c *ℤ x)) (sym (value-Size s v k)) ∙ plain (Size k) c b o g p q

  var_prints : (k : ℕ) → AtomPrints (Var k)
  var_prints k o g c b one p q = times-Var k c ∙ ap (λ x. within limit (c *ℤ x)) (sym (value-Var s v k)) ∙ plain (Var k) c b o g p q

  div_prints : (i : Items) (k : ℕ) → FormPrints i → AtomPrints (Div i k)
  div_prints i k h o g c b one p q =
      let inside : magnitude maxima most i ≤ limit = omega (arith, alone b (atom_magnitude maxima most (Div i k)) one, q, mag-Div maxima most i k) in
      times-Div i k c
      ∙ ap (option_and_then (λ w. within limit (c *ℤ int_div_euclid w (pos k))))
      (h (ordered-Div i k o).1 (sym (scoped-Div (length maxima) (length most) i k) ∙ g) inside)
      ∙ ap (λ x. within limit (c *ℤ x)) (sym (value-Div s v i k)) ∙ plain (Div i k) c b o g p q

  factors-one : (fs : List Atom) → Each Ordered fs → all_true (map (atom_scoped (length maxima) (length most)) fs) ≡ true → 1 ≤ factors_magnitude maxima most fs
  factors-one [] o g = omega arith
  factors-one (f ∷ fs) o g =
      let gs = and_parts (atom_scoped (length maxima) (length most) f) (all_true (map (atom_scoped (length maxima) (length most)) fs)) g in
      least (atom_magnitude maxima most f) (factors_magnitude maxima most fs) (up f o.0 gs.0).positive (factors-one fs o.1 gs.1)

  through-prints : (fs : List Atom) → Each AtomPrints fs → Each Ordered fs → all_true (map (atom_scoped (length maxima) (length most)) fs) ≡ true
      → (c : ℤ) (b : ℕ) → 1 ≤ b → unsigned_abs c ≤ b → b * factors_magnitude maxima most fs ≤ limit
      → through_all limit (map times fs) c ≡ Some (c *ℤ factors_value s v fs)
  through-prints [] h o g c b one p q = ap Some (back c)
    where
      back : (c : ℤ) → c ≡ c *ℤ pos 1
      back c = omega (arith, ints)
  through-prints (f ∷ fs) h o g c b one p q =
      let gs = and_parts (atom_scoped (length maxima) (length most) f) (all_true (map (atom_scoped (length maxima) (length most)) fs)) g in
      let m = atom_magnitude maxima most f in
      let n = factors_magnitude maxima most fs in
      let u = up f o.0 gs.0 in
      let first : b * m ≤ limit = omega (arith, first-part b m n (factors-one fs o.1 gs.1), q) in
      let rest : (b * m) * n ≤ limit = omega (arith, q) in
      ap (option_and_then (through_all limit (map times fs))) (h.0 o.0 gs.0 c b one p first)
      ∙ through-prints fs h.1 o.1 gs.1 (c *ℤ atom_value s v f) (b * m) (least b m one u.positive) (product-size c (atom_value s v f) b m p u) rest
      ∙ ap Some (*ℤ_assoc c (atom_value s v f) (factors_value s v fs))

  mul_prints : (fs : List Atom) → Each AtomPrints fs → AtomPrints (Mul fs)
  mul_prints fs h o g c b one p q =
      times-Mul fs c
      ∙ through-prints fs h (mul_parts fs o).good.ordered (sym (scoped-Mul (length maxima) (length most) fs) ∙ g) c b one p
      (omega (arith, ap (λ n. b * n) (mag-Mul maxima most fs), q))
      ∙ ap (λ x. Some (c *ℤ x)) (sym (value-Mul s v fs))

  -- of the items with positive coefficients, and of the others: the sum of the values, and of the magnitudes
  abbrev chosen : Bool → ℤ → ℤ
  chosen true z = z
  chosen false z = pos 0

  abbrev counted : Bool → ℕ → ℕ
  counted true n = n
  counted false n = 0

  abbrev other : Bool → Bool
  other true = false
  other false = true

  abbrev item : Item Atom → ℤ
  item t = t.coefficient *ℤ atom_value s v t.atom

  abbrev item_size : Item Atom → ℕ
  item_size t = unsigned_abs t.coefficient * atom_magnitude maxima most t.atom

  abbrev positives : List (Item Atom) → ℤ
  positives [] = pos 0
  positives (t ∷ ts) = chosen (is_positive t.coefficient) (item t) +ℤ positives ts

  abbrev others : List (Item Atom) → ℤ
  others [] = pos 0
  others (t ∷ ts) = chosen (other (is_positive t.coefficient)) (item t) +ℤ others ts

  abbrev positives_size : List (Item Atom) → ℕ
  positives_size [] = 0
  positives_size (t ∷ ts) = counted (is_positive t.coefficient) (item_size t) + positives_size ts

  abbrev others_size : List (Item Atom) → ℕ
  others_size [] = 0
  others_size (t ∷ ts) = counted (other (is_positive t.coefficient)) (item_size t) + others_size ts

  halves : (b : Bool) (z : ℤ) → chosen b z +ℤ chosen (other b) z ≡ z
  halves true z = omega (arith, ints)
  halves false z = omega (arith, ints)

  half_sizes : (b : Bool) (n : ℕ) → counted b n + counted (other b) n ≡ n
  half_sizes true n = omega arith
  half_sizes false n = omega arith

  both_values : (ts : List (Item Atom)) → positives ts +ℤ others ts ≡ terms_value s v ts
  both_values [] = refl
  both_values (t ∷ ts) = omega (arith, ints, both_values ts, halves (is_positive t.coefficient) (item t))

  both_sizes : (ts : List (Item Atom)) → positives_size ts + others_size ts ≡ terms_magnitude maxima most ts
  both_sizes [] = refl
  both_sizes (t ∷ ts) = omega (arith, both_sizes ts, half_sizes (is_positive t.coefficient) (item_size t))

  abbrev ScopedTerms : List (Item Atom) → Type 0
  ScopedTerms ts = all_firsts (map (scoped_term (length maxima) (length most)) ts) ≡ true

  chosen-size : (b : Bool) (z : ℤ) (n : ℕ) → unsigned_abs z ≤ n → unsigned_abs (chosen b z) ≤ counted b n
  chosen-size true z n h = h
  chosen-size false z n h = omega arith

  item-most : (t : Item Atom) → Ordered t.atom → Scoped t.atom → unsigned_abs (item t) ≤ item_size t
  item-most t o g = product-size t.coefficient (atom_value s v t.atom) (unsigned_abs t.coefficient) (atom_magnitude maxima most t.atom) (omega arith)
      (up t.atom o g)

  positives-most : (ts : List (Item Atom)) → EachItem GoodItem ts → ScopedTerms ts → unsigned_abs (positives ts) ≤ positives_size ts
  positives-most [] o g = omega arith
  positives-most (t ∷ ts) o g =
      let gs = and_parts (atom_scoped (length maxima) (length most) t.atom) (all_firsts (map (scoped_term (length maxima) (length most)) ts)) g in
      let b = is_positive t.coefficient in
      omega (arith, abs-sum (chosen b (item t)) (positives ts), chosen-size b (item t) (item_size t) (item-most t o.0.0 gs.0), positives-most ts o.1 gs.1)

  others-most : (ts : List (Item Atom)) → EachItem GoodItem ts → ScopedTerms ts → unsigned_abs (others ts) ≤ others_size ts
  others-most [] o g = omega arith
  others-most (t ∷ ts) o g =
      let gs = and_parts (atom_scoped (length maxima) (length most) t.atom) (all_firsts (map (scoped_term (length maxima) (length most)) ts)) g in
      let b = other (is_positive t.coefficient) in
      omega (arith, abs-sum (chosen b (item t)) (others ts), chosen-size b (item t) (item_size t) (item-most t o.0.0 gs.0), others-most ts o.1 gs.1)

  nonzero : (c : ℤ) → int_eq c (pos 0) ≡ false → 1 ≤ unsigned_abs c
  nonzero c e = grind (arith, ints)

  positive-is : (c : ℤ) → is_positive c ≡ true → c ≡ pos (unsigned_abs c)
  positive-is (pos n) h = refl
  positive-is (negsuc n) h = absurd (cc)

  other-is : (c : ℤ) → is_positive c ≡ false → c +ℤ pos (unsigned_abs c) ≡ pos 0
  other-is (pos zero) h = refl
  other-is (pos (suc n)) h = absurd (omega (arith, one n h))
    where
      one : (n : ℕ) → nat_le 1 (suc n) ≡ false → suc n < 1
      one n h = grind arith
  other-is (negsuc n) h = omega (arith, ints)

  -- an item's size times its atom
  item-prints : (t : Item Atom) → AtomPrints t.atom → GoodItem t → Scoped t.atom → item_size t ≤ limit
      → times t.atom (pos (unsigned_abs t.coefficient)) ≡ Some (pos (unsigned_abs t.coefficient) *ℤ atom_value s v t.atom)
  item-prints t h o g q = h o.0 g (pos (unsigned_abs t.coefficient)) (unsigned_abs t.coefficient) (nonzero t.coefficient o.1) (omega arith) q

  add-step : (t : Item Atom) (total : ℤ) (b : Bool) → is_positive t.coefficient ≡ b → AtomPrints t.atom → GoodItem t → Scoped t.atom
      → unsigned_abs total + counted b (item_size t) ≤ limit
      → (if b then plus limit total (times t.atom (pos (unsigned_abs t.coefficient))) else Some total) ≡ Some (total +ℤ chosen b (item t))
  add-step t total true e h o g q =
      let p : item t ≡ pos (unsigned_abs t.coefficient) *ℤ atom_value s v t.atom = ap (λ c. c *ℤ atom_value s v t.atom) (positive-is t.coefficient e) in
      ap (plus limit total) (item-prints t h o g (omega (arith, q)) ∙ ap Some (sym p))
      ∙ within-is limit (total +ℤ item t) (omega (arith, abs-sum total (item t), item-most t o.0 g, q))
  add-step t total false e h o g q = ap Some (same total)
    where
      same : (z : ℤ) → z ≡ z +ℤ pos 0
      same z = omega (arith, ints)

  take-step : (t : Item Atom) (total : ℤ) (b : Bool) → is_positive t.coefficient ≡ b → AtomPrints t.atom → GoodItem t → Scoped t.atom
      → unsigned_abs total + counted (other b) (item_size t) ≤ limit
      → (if b then Some total else minus limit total (times t.atom (pos (unsigned_abs t.coefficient)))) ≡ Some (total +ℤ chosen (other b) (item t))
  take-step t total true e h o g q = ap Some (same total)
    where
      same : (z : ℤ) → z ≡ z +ℤ pos 0
      same z = omega (arith, ints)
  take-step t total false e h o g q =
      let x = atom_value s v t.atom in
      let z = pos (unsigned_abs t.coefficient) *ℤ x in
      let opposite : item t +ℤ z ≡ pos 0 = sym (*ℤ_distrib t.coefficient (pos (unsigned_abs t.coefficient)) x) ∙ ap (λ c. c *ℤ x) (other-is t.coefficient e)
      ∙ zero-*ℤ x in
      let turned : total -ℤ z ≡ total +ℤ item t = omega (arith, ints, opposite) in
      ap (minus limit total) (item-prints t h o g (omega (arith, q)))
      ∙ ap (within limit) turned
      ∙ within-is limit (total +ℤ item t) (omega (arith, abs-sum total (item t), item-most t o.0 g, q))

  add-prints : (ts : List (Item Atom)) (total : ℤ) → EachTerm AtomPrints ts → EachItem GoodItem ts → ScopedTerms ts
      → unsigned_abs total + positives_size ts ≤ limit
      → add_positive limit (map printed_term ts) total ≡ Some (total +ℤ positives ts)
  add-prints [] total h o g q = ap Some (same total)
    where
      same : (z : ℤ) → z ≡ z +ℤ pos 0
      same z = omega (arith, ints)
  add-prints (t ∷ ts) total h o g q =
      let gs = and_parts (atom_scoped (length maxima) (length most) t.atom) (all_firsts (map (scoped_term (length maxima) (length most)) ts)) g in
      let b = is_positive t.coefficient in
      let x = chosen b (item t) in
      ap (option_and_then (add_positive limit (map printed_term ts))) (add-step t total b refl h.0 o.0 gs.0 (omega (arith, q)))
      ∙ add-prints ts (total +ℤ x) h.1 o.1 gs.1 (omega (arith, abs-sum total x, chosen-size b (item t) (item_size t) (item-most t o.0.0 gs.0), q))
      ∙ ap Some (again total x (positives ts))
    where
      again : (a b c : ℤ) → (a +ℤ b) +ℤ c ≡ a +ℤ (b +ℤ c)
      again a b c = omega (arith, ints)

  take-prints : (ts : List (Item Atom)) (total : ℤ) → EachTerm AtomPrints ts → EachItem GoodItem ts → ScopedTerms ts
      → unsigned_abs total + others_size ts ≤ limit
      → take_others limit (map printed_term ts) total ≡ Some (total +ℤ others ts)
  take-prints [] total h o g q = ap Some (same total)
    where
      same : (z : ℤ) → z ≡ z +ℤ pos 0
      same z = omega (arith, ints)
  take-prints (t ∷ ts) total h o g q =
      let gs = and_parts (atom_scoped (length maxima) (length most) t.atom) (all_firsts (map (scoped_term (length maxima) (length most)) ts)) g in
      let b = is_positive t.coefficient in
      let x = chosen (other b) (item t) in
      ap (option_and_then (take_others limit (map printed_term ts))) (take-step t total b refl h.0 o.0 gs.0 (omega (arith, q)))
      ∙ take-prints ts (total +ℤ x) h.1 o.1 gs.1 (omega (arith, abs-sum total x, chosen-size (other b) (item t) (item_size t) (item-most t o.0.0 gs.0), q))
      ∙ ap Some (again total x (others ts))
    where
      again : (a b c : ℤ) → (a +ℤ b) +ℤ c ≡ a +ℤ (b +ℤ c)
      again a b c = omega (arith, ints)

  add-constant : (c total : ℤ) (b : Bool) → is_positive c ≡ b → unsigned_abs total + counted b (unsigned_abs c) ≤ limit
      → (if b then plus limit total (Some (pos (unsigned_abs c))) else Some total) ≡ Some (total +ℤ chosen b c)
  add-constant c total true e q =
      ap (λ z. within limit (total +ℤ z)) (sym (positive-is c e)) ∙ within-is limit (total +ℤ c) (omega (arith, abs-sum total c, q))
  add-constant c total false e q = ap Some (same total)
    where
      same : (z : ℤ) → z ≡ z +ℤ pos 0
      same z = omega (arith, ints)

  take-constant : (c total : ℤ) (b : Bool) → is_positive c ≡ b → unsigned_abs total + counted (other b) (unsigned_abs c) ≤ limit
      → (if b then Some total else minus limit total (Some (pos (unsigned_abs c)))) ≡ Some (total +ℤ chosen (other b) c)
  take-constant c total true e q = ap Some (same total)
    where
      same : (z : ℤ) → z ≡ z +ℤ pos 0
      same z = omega (arith, ints)
  take-constant c total false e q =
      let turned : total -ℤ pos (unsigned_abs c) ≡ total +ℤ c = omega (arith, ints, other-is c e) in
      ap (within limit) turned ∙ within-is limit (total +ℤ c) (omega (arith, abs-sum total c, q))

  -- the text of a form, computed from a sum so far
  abbrev pub printed_from : Items → ℤ → Option ℤ
  printed_from i u =
      option_and_then
      (λ a. option_and_then (λ d. option_and_then (λ e. take_constant limit i.constant e) (take_others limit (map printed_term i.terms) d))
      (add_constant limit i.constant a))
      (add_positive limit (map printed_term i.terms) u)

  abbrev PrintsFrom : Items → ℤ → Type 0
  PrintsFrom i u = is_ordered i ≡ true → items_scoped (length maxima) (length most) i ≡ true → unsigned_abs u + magnitude maxima most i ≤ limit
      → printed_from i u ≡ Some (u +ℤ items_value s v i)

  terms_print : (ts : List (Item Atom)) (c u : ℤ) → EachTerm AtomPrints ts → PrintsFrom (record { terms = ts; constant = c }) u
  terms_print ts c u h o g q =
      let i : Items = record { terms = ts; constant = c } in
      let goods = (ordered-terms i o).1 in
      let sc = sym (scoped-items (length maxima) (length most) i) ∙ g in
      let b = is_positive c in
      let p = u +ℤ positives ts in
      let x = chosen b c in
      let y = others ts in
      let first = positives_size ts in
      let second = others_size ts in
      let sizes : first + second + (counted b (unsigned_abs c) + counted (other b) (unsigned_abs c)) ≡ magnitude maxima most i =
      omega (arith, both_sizes ts, half_sizes b (unsigned_abs c), mag-items maxima most i) in
      let room : unsigned_abs u + (first + second + (counted b (unsigned_abs c) + counted (other b) (unsigned_abs c))) ≤ limit = omega (arith, sizes, q) in
      let size-p : unsigned_abs p ≤ unsigned_abs u + first = omega (arith, abs-sum u (positives ts), positives-most ts goods sc) in
      let size-x = chosen-size b c (unsigned_abs c) (omega arith) in
      let size-y = others-most ts goods sc in
      let size-px = abs-sum p x in
      ap (option_and_then (λ a. option_and_then (λ d. option_and_then (λ e. take_constant limit c e) (take_others limit (map printed_term ts) d))
      (add_constant limit c a)))
      (add-prints ts u h goods sc (omega (arith, room)))
      ∙ ap (option_and_then (λ d. option_and_then (λ e. take_constant limit c e) (take_others limit (map printed_term ts) d)))
      (add-constant c p b refl (omega (arith, room, size-p)))
      ∙ ap (option_and_then (λ e. take_constant limit c e)) (take-prints ts (p +ℤ x) h goods sc (omega (arith, room, size-p, size-x, size-px)))
      ∙ take-constant c ((p +ℤ x) +ℤ y) b refl (omega (arith, room, size-p, size-x, size-y, size-px, abs-sum (p +ℤ x) y))
      ∙ ap Some (omega (arith, ints, both_values ts, halves b c, items_value-is s v i))

  form_prints : (ts : List (Item Atom)) (c : ℤ) → EachTerm AtomPrints ts → FormPrints (record { terms = ts; constant = c })
  form_prints ts c h o g q =
      let i : Items = record { terms = ts; constant = c } in
      fold_out-Items (ℤ → Option ℤ) (Option ℤ) (printed_step limit s v) (printed_items_step limit s v) i
      ∙ terms_print ts c (pos 0) h o g (omega (arith, q))
      ∙ ap Some (from_none (items_value s v i))
    where
      from_none : (z : ℤ) → pos 0 +ℤ z ≡ z
      from_none z = omega (arith, ints)

  -- the text of a normal form computes its value, and no partial result passes the limit
  pub printed : (i : Items) → FormPrints i
  printed = for_items AtomPrints FormPrints size_prints var_prints div_prints mul_prints form_prints

  each_prints : (ts : List (Item Atom)) → EachTerm AtomPrints ts
  each_prints [] = tt
  each_prints (t ∷ ts) = (for_atoms AtomPrints FormPrints size_prints var_prints div_prints mul_prints form_prints t.atom, each_prints ts)

  -- the same from a sum so far, where it and the magnitude are within the limit together
  pub prints_from : (i : Items) (u : ℤ) → PrintsFrom i u
  prints_from i u = terms_print i.terms i.constant u (each_prints i.terms)
