-- The tree of a form computes its value where no partial result of the text passes a limit below 2^63.
use Rattle.std.proofs.Common.{◌≡◌, ℕ, zero, suc, ◌-◌, ◌*◌, ◌/◌, ◌^◌, ◌<◌, ◌≤◌, List, [], ◌∷◌, length, map, refl, ap, sym, ◌∙◌, subst, arith, Bool, true, false}
use Rattle.std.proofs.Common.{◌==◌, nat_le, nat_lt, Option, Some, None, if◌then◌else◌}
use Rattle.std.specs.Prelude.{ℤ, pos, negsuc, ◌+ℤ◌, ◌-ℤ◌, ◌*ℤ◌, slice_index}
use Rattle.std.specs.Option.{option_and_then}
use Rattle.std.specs.Int.{int_div_euclid}
use Rattle.std.specs.Int.RustNames.{unsigned_abs}
use Rattle.std.proofs.lemmas.Bool.{and_parts, lt-ltb}
use Rattle.std.proofs.lemmas.Int.{ints}
use Rattle.affine_index.specs.Limited.{all_firsts, all_true, atom_scoped, items_scoped}
use Rattle.affine_index.specs.Normal.{is_ordered}
use Rattle.affine_index.specs.Printed.{add_constant, add_positive, is_positive, minus, plus, printed_items_step, printed_step, printed_times, printed_value}
use Rattle.affine_index.specs.Printed.{take_constant, take_others, through_all, within}
use Rattle.affine_index.specs.Value.{atom_value, items_value, terms_value}
use Rattle.affine_index.proofs.Factors.{Ordered, mul_parts}
use Rattle.affine_index.proofs.Induction.{Each, EachTerm, for_atoms, for_items}
use Rattle.affine_index.proofs.PrintedLaws.{printed}
use Rattle.affine_index.proofs.ReadyLaws.{ordered-Div, scoped-Div, scoped-Var, scoped-Mul, scoped-items, scoped_term}
use Rattle.affine_index.proofs.Ring.{*ℤ_assoc, *ℤ_distrib}
use Rattle.std.proofs.Math.IntN.{zero-*ℤ}
use Rattle.affine_index.proofs.Sorted.{EachItem, GoodItem, ordered-terms}
use Rattle.affine_index.proofs.SumValue.{items_value-is}
use Rattle.affine_index.proofs.ZeroLaws.{atom_natural}
use Rattle.affine_index.proofs.Values.{factors_value, value-Size, value-Var, value-Div, value-Mul}
use Rattle.affine_index.specs.declared.form.Atom.{Atom}
use Rattle.affine_index.specs.declared.form.Atom.TheVariants.{Size, Var, Div, Mul, rolls-Size, rolls-Var, rolls-Mul, rolls-Div}
use Rattle.affine_index.specs.declared.form.Atom.TheOpen.{Atom-F}
use Rattle.affine_index.specs.declared.form.Atom.TheFolds.{fold-roll-Atom, fold_out-Items}
use Rattle.affine_index.specs.declared.form.Item.{Item}
use Rattle.affine_index.specs.declared.form.Items.{Items}
use Rattle.loop_lang.specs.declared.index.Iexp.{Iexp}
use Rattle.loop_lang.specs.declared.index.Iexp.TheVariants as index
use Rattle.loop_lang.specs.Reckoning.{Value, Fails, Overflow, reckon, checked, on_both, with_value, of_dividend}
use Rattle.loop_lang.proofs.IndexForms.{index_sum-is, index_difference-is, index_product-is, index_quotient-is}
use Rattle.index_trees.specs.Tree.{with_factor, with_summand, or_number, leading, item_tree, plus_item, minus_item, plus_constant, minus_constant, joined_atom}
use Rattle.index_trees.specs.Tree.{joined_atoms, plus_terms, minus_terms, index_tree}
use Rattle.index_trees.specs.Tree.{is_negative as takes}
use Rattle.index_trees.specs.Exact.{PrintedTreesReckon, TreesAreExact}
use Rattle.index_trees.specs.Value.{AreTurns}
use Rattle.index_trees.proofs.TreeLaws.{tree-Size, tree-Var, tree-Div, tree-Mul, tree-items}

some_some : {A : Type 0} {x y : A} → Some x ≡ Some y → x ≡ y
some_some e = cc

none_some : {A B : Type 0} {x : A} → None ≡ Some x → B
none_some e = cc

-- what a chain came from
and_then_some : {A B : Type 0} (g : A → Option B) (o : Option A) (z : B) → option_and_then g o ≡ Some z → (w : A) × (o ≡ Some w) × (g w ≡ Some z)
and_then_some g None z h = none_some h
and_then_some g (Some w) z h = (w, refl, h)

-- a quotient that is not negative has a dividend that is not
dividend_is : (z : ℤ) (k n : ℕ) → int_div_euclid z (pos k) ≡ pos n → (m : ℕ) × (z ≡ pos m) × (n ≡ m / k)
dividend_is (pos m) k n h = (m, refl, cc)
dividend_is (negsuc m) k n h = absurd (cc)

module _ (limit : ℕ) (room : limit < 2 ^ 63) (s y r : List ℕ) (turns : AreTurns r y) (sizes : ℕ) where
  abbrev pub times : Atom → ℤ → Option ℤ
  times = printed_times limit s y

  kept : (z w : ℤ) → within limit z ≡ Some w → (w ≡ z) × (unsigned_abs z ≤ limit)
  kept z w h = by (nat_le (unsigned_abs z) limit) refl h
    where
      by : (b : Bool) → nat_le (unsigned_abs z) limit ≡ b → (if b then Some z else None) ≡ Some w → (w ≡ z) × (unsigned_abs z ≤ limit)
      by true e g = (cc, grind arith)
      by false e g = none_some g

  fits : (z : ℤ) → unsigned_abs z ≤ limit → checked z ≡ Value z
  fits (pos n) h = ap (λ b. if b then Value (pos n) else Fails Overflow) (lt-ltb n (2 ^ 63) (omega arith))
  fits (negsuc n) h = ap (λ b. if b then Value (negsuc n) else Fails Overflow) (lt-ltb n (2 ^ 63) (omega arith))

  -- a product so far computes n
  abbrev pub So : Option Iexp → ℕ → Type 0
  So None n = n ≡ 1
  So (Some x) n = reckon x s r ≡ Value (pos n)

  -- a product of atoms so far, times an atom
  pub record Computed (o : Option Iexp) (c : ℕ) (v z : ℤ) : Type 0 where
    pub number : ℕ
    pub is : z ≡ pos number
    pub value : z ≡ pos c *ℤ v
    pub so : So o number

  product_step : (p : Option Iexp) (c : ℕ) (x : Iexp) (m : ℕ) → So p c → reckon x s r ≡ Value (pos m) → unsigned_abs (pos c *ℤ pos m) ≤ limit
      → So (with_factor p x) (c * m)
  product_step None c x m h g l = let e : m ≡ c * m = omega (arith, ap (λ k. k * m) h) in g ∙ ap (λ k. Value (pos k)) e
  product_step (Some a) c x m h g l =
      ap (λ t. reckon t s r) (index_product-is a x) ∙ (λ i. on_both (λ u v. checked (u *ℤ v)) (h i) (g i)) ∙ fits (pos c *ℤ pos m) l

  -- one factor
  factor_step : (p : Option Iexp) (c : ℕ) (x : Iexp) (m : ℕ) (v z : ℤ) → v ≡ pos m → So p c → reckon x s r ≡ Value (pos m) → within limit (pos c *ℤ v) ≡ Some z
      → Computed (with_factor p x) c v z
  factor_step p c x m v z e h g w =
      let k = kept (pos c *ℤ v) z w in
      record {
        number = c * m;
        is = k.0 ∙ ap (λ u. pos c *ℤ u) e;
        value = k.0;
        so = product_step p c x m h g (subst (λ u. unsigned_abs (pos c *ℤ u) ≤ limit) e k.1);
      }

  times-Size : (k : ℕ) (c : ℤ) → times (Size k) c ≡ within limit (c *ℤ pos (slice_index s k))
  times-Size k c = ap (λ a. times a c) (sym (rolls-Size k))
      ∙ ap (λ f. f c) (fold-roll-Atom (ℤ → Option ℤ) (Option ℤ) (printed_step limit s y) (printed_items_step limit s y) (Atom-F.Size k))

  times-Var : (k : ℕ) (c : ℤ) → times (Var k) c ≡ within limit (c *ℤ pos (slice_index y k))
  times-Var k c = ap (λ a. times a c) (sym (rolls-Var k))
      ∙ ap (λ f. f c) (fold-roll-Atom (ℤ → Option ℤ) (Option ℤ) (printed_step limit s y) (printed_items_step limit s y) (Atom-F.Var k))

  times-Div : (i : Items) (k : ℕ) (c : ℤ) → times (Div i k) c ≡ option_and_then (λ w. within limit (c *ℤ int_div_euclid w (pos k))) (printed_value limit s y i)
  times-Div i k c = ap (λ a. times a c) (sym (rolls-Div i k))
      ∙ ap (λ f. f c) (fold-roll-Atom (ℤ → Option ℤ) (Option ℤ) (printed_step limit s y) (printed_items_step limit s y) (Atom-F.Div i k))

  times-Mul : (fs : List Atom) (c : ℤ) → times (Mul fs) c ≡ through_all limit (map times fs) c
  times-Mul fs c = ap (λ a. times a c) (sym (rolls-Mul fs))
      ∙ ap (λ f. f c) (fold-roll-Atom (ℤ → Option ℤ) (Option ℤ) (printed_step limit s y) (printed_items_step limit s y) (Atom-F.Mul fs))

  abbrev pub Scoped : Atom → Type 0
  Scoped a = atom_scoped sizes (length r) a ≡ true

  abbrev pub AtomExact : Atom → Type 0
  AtomExact a = Ordered a → Scoped a → (p : Option Iexp) (c : ℕ) (z : ℤ) → So p c → times a (pos c) ≡ Some z
      → Computed (joined_atom (length r) a p) c (atom_value s y a) z

  abbrev pub FormExact : Items → Type 0
  FormExact i = is_ordered i ≡ true → items_scoped sizes (length r) i ≡ true → (z : ℤ) → printed_value limit s y i ≡ Some z → (z ≡ items_value s y i)
      × (reckon (index_tree (length r) i) s r ≡ Value z)

  size_exact : (k : ℕ) → AtomExact (Size k)
  size_exact k o g p c z h t =
      subst (λ q. Computed q c (atom_value s y (Size k)) z) (sym (tree-Size (length r) k p))
      (factor_step p c (index.Size k) (slice_index s k) (atom_value s y (Size k)) z (value-Size s y k) h refl
      (ap (λ u. within limit (pos c *ℤ u)) (value-Size s y k) ∙ sym (times-Size k (pos c)) ∙ t))

  below : (n k : ℕ) → nat_lt n k ≡ true → n < k
  below n k h = grind arith

  var_exact : (k : ℕ) → AtomExact (Var k)
  var_exact k o g p c z h t =
      let l : k < length r = below k (length r) (sym (scoped-Var sizes (length r) k) ∙ g) in
      subst (λ q. Computed q c (atom_value s y (Var k)) z) (sym (tree-Var (length r) k p))
      (factor_step p c (index.Loop (length r - 1 - k)) (slice_index y k) (atom_value s y (Var k)) z (value-Var s y k) h
      (ap (λ n. Value (pos n)) (sym (turns k l))) (ap (λ u. within limit (pos c *ℤ u)) (value-Var s y k) ∙ sym (times-Var k (pos c)) ∙ t))

  div_exact : (i : Items) (k : ℕ) → FormExact i → AtomExact (Div i k)
  div_exact i k f o g p c z h t =
      let v = and_then_some (λ w. within limit (pos c *ℤ int_div_euclid w (pos k))) (printed_value limit s y i) z (sym (times-Div i k (pos c)) ∙ t) in
      let inside = f (ordered-Div i k o).1 (sym (scoped-Div sizes (length r) i k) ∙ g) v.0 v.1 in
      let q : atom_value s y (Div i k) ≡ int_div_euclid v.0 (pos k) = value-Div s y i k ∙ ap (λ w. int_div_euclid w (pos k)) (sym inside.0) in
      let n = atom_natural s y (Div i k) o in
      let d = dividend_is v.0 k n.0 (sym q ∙ n.1) in
      let computed : reckon (index.Div (index_tree (length r) i) k) s r ≡ Value (pos n.0) =
      ap (λ x. reckon x s r) (index_quotient-is (index_tree (length r) i) k) ∙ ap (λ x. with_value x (of_dividend (λ m. m / k))) (inside.1 ∙ ap Value d.1)
      ∙ ap (λ m. Value (pos m)) (sym d.2) in
      subst (λ u. Computed u c (atom_value s y (Div i k)) z) (sym (tree-Div (length r) i k p))
      (factor_step p c (index.Div (index_tree (length r) i) k) n.0 (atom_value s y (Div i k)) z n.1 h computed (ap (λ u. within limit (pos c *ℤ u)) q ∙ v.2))

  through_exact : (fs : List Atom) → Each AtomExact fs → Each Ordered fs → all_true (map (atom_scoped sizes (length r)) fs) ≡ true
      → (p : Option Iexp) (c : ℕ) (z : ℤ) → So p c → through_all limit (map times fs) (pos c) ≡ Some z
      → Computed (joined_atoms (length r) fs p) c (factors_value s y fs) z
  through_exact [] e o g p c z h t = record { number = c; is = sym (some_some t); value = sym (some_some t) ∙ once (pos c); so = h }
    where
      once : (z : ℤ) → z ≡ z *ℤ pos 1
      once z = omega (arith, ints)
  through_exact (f ∷ fs) e o g p c z h t =
      let gs = and_parts (atom_scoped sizes (length r) f) (all_true (map (atom_scoped sizes (length r)) fs)) g in
      let v = and_then_some (through_all limit (map times fs)) (times f (pos c)) z t in
      let one = e.0 o.0 gs.0 p c v.0 h v.1 in
      let rest = through_exact fs e.1 o.1 gs.1 (joined_atom (length r) f p) one.number z one.so (ap (through_all limit (map times fs)) (sym one.is) ∙ v.2) in
      record {
        number = rest.number;
        is = rest.is;
        value = rest.value ∙ ap (λ u. u *ℤ factors_value s y fs) (sym one.is ∙ one.value) ∙ *ℤ_assoc (pos c) (atom_value s y f) (factors_value s y fs);
        so = rest.so;
      }

  mul_exact : (fs : List Atom) → Each AtomExact fs → AtomExact (Mul fs)
  mul_exact fs e o g p c z h t =
      let all = through_exact fs e (mul_parts fs o).good.ordered (sym (scoped-Mul sizes (length r) fs) ∙ g) p c z h (sym (times-Mul fs (pos c)) ∙ t) in
      subst (λ q. Computed q c (atom_value s y (Mul fs)) z) (sym (tree-Mul (length r) fs p))
      (subst (λ v. Computed (joined_atoms (length r) fs p) c v z) (sym (value-Mul s y fs)) all)

  leading_is : (n : ℕ) → So (leading n) n
  leading_is n = go (n == 1) refl
    where
      go : (b : Bool) → (n == 1) ≡ b → So (if b then None else Some (index.Lit (pos n))) n
      go true e = grind arith
      go false e = refl

  or_one : (p : Option Iexp) (n : ℕ) → So p n → reckon (or_number (pos 1) p) s r ≡ Value (pos n)
  or_one None n h = ap (λ k. Value (pos k)) (sym h)
  or_one (Some x) n h = h

  -- an item's tree
  item_exact : (a : Atom) (c z : ℤ) → AtomExact a → Ordered a → Scoped a → times a (pos (unsigned_abs c)) ≡ Some z
      → (z ≡ pos (unsigned_abs c) *ℤ atom_value s y a) × (reckon (item_tree c (joined_atom (length r) a)) s r ≡ Value z)
  item_exact a c z e o g t =
      let n = unsigned_abs c in
      let one = e o g (leading n) n z (leading_is n) t in
      (one.value, or_one (joined_atom (length r) a (leading n)) one.number one.so ∙ ap Value (sym one.is))

  -- a sum so far computes z
  abbrev pub Sums : Option Iexp → ℤ → Type 0
  Sums None z = z ≡ pos 0
  Sums (Some x) z = reckon x s r ≡ Value z

  summand_step : (a : Option Iexp) (t : ℤ) (x : Iexp) (v w : ℤ) → Sums a t → reckon x s r ≡ Value v → within limit (t +ℤ v) ≡ Some w → Sums (with_summand a x) w
  summand_step None t x v w h g e =
      let z : v ≡ t +ℤ v = zero_plus v ∙ ap (λ u. u +ℤ v) (sym h) in g ∙ ap Value (z ∙ sym (kept (t +ℤ v) w e).0)
    where
      zero_plus : (v : ℤ) → v ≡ pos 0 +ℤ v
      zero_plus v = omega (arith, ints)
  summand_step (Some a) t x v w h g e =
      let k = kept (t +ℤ v) w e in
      ap (λ u. reckon u s r) (index_sum-is a x) ∙ (λ i. on_both (λ u v. checked (u +ℤ v)) (h i) (g i)) ∙ fits (t +ℤ v) k.1 ∙ ap Value (sym k.0)

  minus_step : (a : Iexp) (t : ℤ) (x : Iexp) (v w : ℤ) → reckon a s r ≡ Value t → reckon x s r ≡ Value v → within limit (t -ℤ v) ≡ Some w
      → reckon (index.Sub a x) s r ≡ Value w
  minus_step a t x v w h g e =
      let k = kept (t -ℤ v) w e in
      ap (λ u. reckon u s r) (index_difference-is a x) ∙ (λ i. on_both (λ u v. checked (u -ℤ v)) (h i) (g i)) ∙ fits (t -ℤ v) k.1 ∙ ap Value (sym k.0)

  abbrev pub printed_term : Item Atom → Item (ℤ → Option ℤ)
  printed_term t = record { atom = times t.atom; coefficient = t.coefficient }

  abbrev pub ScopedTerms : List (Item Atom) → Type 0
  ScopedTerms ts = all_firsts (map (scoped_term sizes (length r)) ts) ≡ true

  abbrev chosen : Bool → ℤ → ℤ
  chosen true z = z
  chosen false z = pos 0

  abbrev other : Bool → Bool
  other true = false
  other false = true

  abbrev item : Item Atom → ℤ
  item t = t.coefficient *ℤ atom_value s y t.atom

  abbrev positives : List (Item Atom) → ℤ
  positives [] = pos 0
  positives (t ∷ ts) = chosen (is_positive t.coefficient) (item t) +ℤ positives ts

  abbrev others : List (Item Atom) → ℤ
  others [] = pos 0
  others (t ∷ ts) = chosen (other (is_positive t.coefficient)) (item t) +ℤ others ts

  halves : (b : Bool) (z : ℤ) → chosen b z +ℤ chosen (other b) z ≡ z
  halves true z = omega (arith, ints)
  halves false z = omega (arith, ints)

  both_values : (ts : List (Item Atom)) → positives ts +ℤ others ts ≡ terms_value s y ts
  both_values [] = refl
  both_values (t ∷ ts) = omega (arith, ints, both_values ts, halves (is_positive t.coefficient) (item t))

  positive-is : (c : ℤ) → is_positive c ≡ true → c ≡ pos (unsigned_abs c)
  positive-is (pos n) h = refl
  positive-is (negsuc n) h = absurd (cc)

  other-is : (c : ℤ) → is_positive c ≡ false → c +ℤ pos (unsigned_abs c) ≡ pos 0
  other-is (pos zero) h = refl
  other-is (pos (suc n)) h = absurd (omega (arith, one n h))
    where
      one : (n : ℕ) → nat_le 1 (suc n) ≡ false → suc n < 1
      one n h = grind arith
  other-is (negsuc n) h = omega (arith, ints)

  taken-not : (c : ℤ) → is_positive c ≡ true → takes c ≡ false
  taken-not (pos n) h = refl
  taken-not (negsuc n) h = absurd (cc)

  nothing : (c : ℤ) → is_positive c ≡ false → takes c ≡ false → pos (unsigned_abs c) ≡ pos 0
  nothing (pos zero) h g = refl
  nothing (pos (suc n)) h g = absurd (omega (arith, one n h))
    where
      one : (n : ℕ) → nat_le 1 (suc n) ≡ false → suc n < 1
      one n h = grind arith
  nothing (negsuc n) h g = absurd (cc)

  plus_some : (u w : ℤ) (o : Option ℤ) → plus limit u o ≡ Some w → (v : ℤ) × (o ≡ Some v) × (within limit (u +ℤ v) ≡ Some w)
  plus_some u w None h = none_some h
  plus_some u w (Some v) h = (v, refl, h)

  minus_some : (u w : ℤ) (o : Option ℤ) → minus limit u o ≡ Some w → (v : ℤ) × (o ≡ Some v) × (within limit (u -ℤ v) ≡ Some w)
  minus_some u w None h = none_some h
  minus_some u w (Some v) h = (v, refl, h)

  plus_none : (z : ℤ) → z ≡ z +ℤ pos 0
  plus_none z = omega (arith, ints)

  -- what is added: x computes v, which is the value c
  add_some : (a : Option Iexp) (u w : ℤ) (c v : ℤ) (x : Iexp) (b : Bool) → Sums a u → (b ≡ true → (c ≡ v) × (reckon x s r ≡ Value v))
      → (if b then within limit (u +ℤ v) else Some u) ≡ Some w → (w ≡ u +ℤ chosen b c) × Sums (if b then with_summand a x else a) w
  add_some a u w c v x true h g e = ((kept (u +ℤ v) w e).0 ∙ ap (λ z. u +ℤ z) (sym (g refl).0), summand_step a u x v w h (g refl).1 e)
  add_some a u w c v x false h g e = (sym (some_some e) ∙ plus_none u, subst (Sums a) (some_some e) h)

  add_item : (t : Item Atom) (a : Option Iexp) (u w : ℤ) (b : Bool) → is_positive t.coefficient ≡ b → AtomExact t.atom → Ordered t.atom → Scoped t.atom
      → Sums a u
      → (if b then plus limit u (times t.atom (pos (unsigned_abs t.coefficient))) else Some u) ≡ Some w
      → (w ≡ u +ℤ chosen b (item t)) × Sums (if b then with_summand a (item_tree t.coefficient (joined_atom (length r) t.atom)) else a) w
  add_item t a u w true e x o g h q =
      let v = plus_some u w (times t.atom (pos (unsigned_abs t.coefficient))) q in
      let one = item_exact t.atom t.coefficient v.0 x o g v.1 in
      add_some a u w (item t) v.0 (item_tree t.coefficient (joined_atom (length r) t.atom)) true h
      (λ _. (ap (λ c. c *ℤ atom_value s y t.atom) (positive-is t.coefficient e) ∙ sym one.0, one.1)) v.2
  add_item t a u w false e x o g h q = (sym (some_some q) ∙ plus_none u, subst (Sums a) (some_some q) h)

  again : (a b c : ℤ) → (a +ℤ b) +ℤ c ≡ a +ℤ (b +ℤ c)
  again a b c = omega (arith, ints)

  add_exact : (ts : List (Item Atom)) (a : Option Iexp) (u w : ℤ) → EachTerm AtomExact ts → EachItem GoodItem ts → ScopedTerms ts → Sums a u
      → add_positive limit (map printed_term ts) u ≡ Some w
      → (w ≡ u +ℤ positives ts) × Sums (plus_terms (length r) ts a) w
  add_exact [] a u w x o g h q = (sym (some_some q) ∙ plus_none u, subst (Sums a) (some_some q) h)
  add_exact (t ∷ ts) a u w x o g h q =
      let gs = and_parts (atom_scoped sizes (length r) t.atom) (all_firsts (map (scoped_term sizes (length r)) ts)) g in
      let b = is_positive t.coefficient in
      let v = and_then_some (add_positive limit (map printed_term ts)) (if b then plus limit u (times t.atom (pos (unsigned_abs t.coefficient))) else Some u) w
      q in
      let one = add_item t a u v.0 b refl x.0 o.0.0 gs.0 h v.1 in
      let rest = add_exact ts (plus_item t.coefficient (joined_atom (length r) t.atom) a) v.0 w x.1 o.1 gs.1 one.1 v.2 in
      (rest.0 ∙ ap (λ z. z +ℤ positives ts) one.0 ∙ again u (chosen b (item t)) (positives ts), rest.1)

  -- what is taken away: x computes the size of c times z
  take_some : (a : Iexp) (u w c z v : ℤ) (x : Iexp) (b d : Bool) → is_positive c ≡ b → takes c ≡ d → reckon a s r ≡ Value u
      → (b ≡ false → (v ≡ pos (unsigned_abs c) *ℤ z) × (reckon x s r ≡ Value v))
      → (if b then Some u else within limit (u -ℤ v)) ≡ Some w
      → (w ≡ u +ℤ chosen (other b) (c *ℤ z)) × (reckon (if d then index.Sub a x else a) s r ≡ Value w)
  take_some a u w c z v x true true e f h g q = absurd (yes_no (sym f ∙ taken-not c e))
    where
      yes_no : true ≡ false → ⊥
      yes_no e = cc
  take_some a u w c z v x true false e f h g q = (sym (some_some q) ∙ plus_none u, h ∙ ap Value (some_some q))
  take_some a u w c z v x false d e f h g q = (k.0 ∙ turned, by d f)
    where
      k : (w ≡ u -ℤ v) × (unsigned_abs (u -ℤ v) ≤ limit)
      k = kept (u -ℤ v) w q

      opposite : (c *ℤ z) +ℤ v ≡ pos 0
      opposite = ap (λ n. (c *ℤ z) +ℤ n) (g refl).0 ∙ sym (*ℤ_distrib c (pos (unsigned_abs c)) z) ∙ ap (λ n. n *ℤ z) (other-is c e) ∙ zero-*ℤ z

      turned : u -ℤ v ≡ u +ℤ (c *ℤ z)
      turned = omega (arith, ints, opposite)

      by : (d : Bool) → takes c ≡ d → reckon (if d then index.Sub a x else a) s r ≡ Value w
      by true f = minus_step a u x v w h (g refl).1 q
      by false f =
          let n : v ≡ pos 0 = (g refl).0 ∙ ap (λ n. n *ℤ z) (nothing c e f) ∙ zero-*ℤ z in
          let m : u ≡ u -ℤ v = omega (arith, ints, n) in
          h ∙ ap Value (m ∙ sym k.0)

  take_item : (t : Item Atom) (a : Iexp) (u w : ℤ) (b : Bool) → is_positive t.coefficient ≡ b → AtomExact t.atom → Ordered t.atom → Scoped t.atom
      → reckon a s r ≡ Value u
      → (if b then Some u else minus limit u (times t.atom (pos (unsigned_abs t.coefficient)))) ≡ Some w
      → (w ≡ u +ℤ chosen (other b) (item t)) × (reckon (minus_item t.coefficient (joined_atom (length r) t.atom) a) s r ≡ Value w)
  take_item t a u w true e x o g h q =
      take_some a u w t.coefficient (atom_value s y t.atom) (pos 0) (item_tree t.coefficient (joined_atom (length r) t.atom)) true (takes t.coefficient) e refl
      h (λ i. absurd (yes_no i)) q
    where
      yes_no : true ≡ false → ⊥
      yes_no e = cc
  take_item t a u w false e x o g h q =
      let v = minus_some u w (times t.atom (pos (unsigned_abs t.coefficient))) q in
      take_some a u w t.coefficient (atom_value s y t.atom) v.0 (item_tree t.coefficient (joined_atom (length r) t.atom)) false (takes t.coefficient) e refl h
      (λ _. item_exact t.atom t.coefficient v.0 x o g v.1) v.2

  take_exact : (ts : List (Item Atom)) (a : Iexp) (u w : ℤ) → EachTerm AtomExact ts → EachItem GoodItem ts → ScopedTerms ts → reckon a s r ≡ Value u
      → take_others limit (map printed_term ts) u ≡ Some w
      → (w ≡ u +ℤ others ts) × (reckon (minus_terms (length r) ts a) s r ≡ Value w)
  take_exact [] a u w x o g h q = (sym (some_some q) ∙ plus_none u, h ∙ ap Value (some_some q))
  take_exact (t ∷ ts) a u w x o g h q =
      let gs = and_parts (atom_scoped sizes (length r) t.atom) (all_firsts (map (scoped_term sizes (length r)) ts)) g in
      let b = is_positive t.coefficient in
      let v = and_then_some (take_others limit (map printed_term ts)) (if b then Some u else minus limit u (times t.atom (pos (unsigned_abs t.coefficient)))) w
      q in
      let one = take_item t a u v.0 b refl x.0 o.0.0 gs.0 h v.1 in
      let rest = take_exact ts (minus_item t.coefficient (joined_atom (length r) t.atom) a) v.0 w x.1 o.1 gs.1 one.1 v.2 in
      (rest.0 ∙ ap (λ z. z +ℤ others ts) one.0 ∙ again u (chosen (other b) (item t)) (others ts), rest.1)

  or_zero : (a : Option Iexp) (z : ℤ) → Sums a z → reckon (or_number (pos 0) a) s r ≡ Value z
  or_zero None z h = ap Value (sym h)
  or_zero (Some x) z h = h

  constant_added : (c : ℤ) (a : Option Iexp) (u w : ℤ) (b : Bool) → is_positive c ≡ b → Sums a u
      → (if b then plus limit u (Some (pos (unsigned_abs c))) else Some u) ≡ Some w
      → (w ≡ u +ℤ chosen b c) × Sums (if b then with_summand a (index.Lit c) else a) w
  constant_added c a u w true e h q = add_some a u w c (pos (unsigned_abs c)) (index.Lit c) true h (λ _. (positive-is c e, ap Value (positive-is c e))) q
  constant_added c a u w false e h q = (sym (some_some q) ∙ plus_none u, subst (Sums a) (some_some q) h)

  constant_taken : (c : ℤ) (a : Iexp) (u w : ℤ) (b : Bool) → is_positive c ≡ b → reckon a s r ≡ Value u
      → (if b then Some u else minus limit u (Some (pos (unsigned_abs c)))) ≡ Some w → (w ≡ u +ℤ chosen (other b) c)
      × (reckon (minus_constant c a) s r ≡ Value w)
  constant_taken c a u w b e h q =
      let one = by b e q in (one.0 ∙ ap (λ z. u +ℤ chosen (other b) z) (once c), one.1)
    where
      once : (z : ℤ) → z *ℤ pos 1 ≡ z
      once z = omega (arith, ints)

      back : (z : ℤ) → z ≡ z *ℤ pos 1
      back z = omega (arith, ints)

      by : (b : Bool) → is_positive c ≡ b → (if b then Some u else minus limit u (Some (pos (unsigned_abs c)))) ≡ Some w
          → (w ≡ u +ℤ chosen (other b) (c *ℤ pos 1)) × (reckon (minus_constant c a) s r ≡ Value w)
      by true e q = take_some a u w c (pos 1) (pos (unsigned_abs c)) (index.Lit (pos (unsigned_abs c))) true (takes c) e refl h
          (λ _. (back (pos (unsigned_abs c)), refl)) q
      by false e q = take_some a u w c (pos 1) (pos (unsigned_abs c)) (index.Lit (pos (unsigned_abs c))) false (takes c) e refl h
          (λ _. (back (pos (unsigned_abs c)), refl)) q

  -- what is printed of a form after a sum so far
  abbrev pub tree_from : List (Item Atom) → ℤ → Option Iexp → Iexp
  tree_from ts c a = minus_constant c (minus_terms (length r) ts (or_number (pos 0) (plus_constant c (plus_terms (length r) ts a))))

  -- its value as the text is computed
  abbrev pub value_from : List (Item Atom) → ℤ → ℤ → Option ℤ
  value_from ts c u = option_and_then (λ a. option_and_then (λ d. option_and_then (λ e. take_constant limit c e) (take_others limit (map printed_term ts) d))
      (add_constant limit c a)) (add_positive limit (map printed_term ts) u)

  pub from_exact : (ts : List (Item Atom)) (c : ℤ) (a : Option Iexp) (u z : ℤ) → EachTerm AtomExact ts → EachItem GoodItem ts → ScopedTerms ts → Sums a u
      → value_from ts c u ≡ Some z
      → (z ≡ (u +ℤ terms_value s y ts) +ℤ c) × (reckon (tree_from ts c a) s r ≡ Value z)
  from_exact ts c a u z x goods sc h whole =
      let b = is_positive c in
      let first = and_then_some (λ a. option_and_then (λ d. option_and_then (λ e. take_constant limit c e) (take_others limit (map printed_term ts) d))
      (add_constant limit c a)) (add_positive limit (map printed_term ts) u) z whole in
      let second = and_then_some (λ d. option_and_then (λ e. take_constant limit c e) (take_others limit (map printed_term ts) d))
      (add_constant limit c first.0) z first.2 in
      let third = and_then_some (λ e. take_constant limit c e) (take_others limit (map printed_term ts) second.0) z second.2 in
      let p = add_exact ts a u first.0 x goods sc h first.1 in
      let d = constant_added c (plus_terms (length r) ts a) first.0 second.0 b refl p.1 second.1 in
      let e = take_exact ts (or_number (pos 0) (plus_constant c (plus_terms (length r) ts a))) second.0 third.0 x goods sc
      (or_zero (plus_constant c (plus_terms (length r) ts a)) second.0 d.1) third.1 in
      let f = constant_taken c (minus_terms (length r) ts (or_number (pos 0) (plus_constant c (plus_terms (length r) ts a)))) third.0 z b refl e.1 third.2 in
      (omega (arith, ints, both_values ts, halves b c, p.0, d.0, e.0, f.0), f.1)

  form_exact : (ts : List (Item Atom)) (c : ℤ) → EachTerm AtomExact ts → FormExact (record { terms = ts; constant = c })
  form_exact ts c x o g z q =
      let i : Items = record { terms = ts; constant = c } in
      let sc = sym (scoped-items sizes (length r) i) ∙ g in
      let whole = sym (fold_out-Items (ℤ → Option ℤ) (Option ℤ) (printed_step limit s y) (printed_items_step limit s y) i) ∙ q in
      let f = from_exact ts c None (pos 0) z x (ordered-terms i o).1 sc refl whole in
      (omega (arith, ints, items_value-is s y i, f.0), ap (λ t. reckon t s r) (tree-items (length r) i) ∙ f.1)

  atom_exact : (a : Atom) → AtomExact a
  atom_exact = for_atoms AtomExact FormExact size_exact var_exact div_exact mul_exact form_exact

  pub each_exact : (ts : List (Item Atom)) → EachTerm AtomExact ts
  each_exact [] = tt
  each_exact (t ∷ ts) = (atom_exact t.atom, each_exact ts)

  pub exact : (i : Items) → FormExact i
  exact = for_items AtomExact FormExact size_exact var_exact div_exact mul_exact form_exact

pub printed-reckons : PrintedTreesReckon
printed-reckons limit room i o sizes s v r turns g z q = (exact limit room s v r turns sizes i o g z q).1

pub trees-exact : TreesAreExact
trees-exact i o s v r maxima most turns ws wv same g q =
    let p = printed (2 ^ 62) s v maxima most ws wv i o g q in
    printed-reckons (2 ^ 62) (omega arith) i o (length maxima) s v r turns (subst (λ n. items_scoped (length maxima) n i ≡ true) same g) (items_value s v i) p
