-- How many levels and how long chains the tree of a normal form has.
use Rattle.std.proofs.Common.{◌≡◌, ℕ, ◌+◌, ◌*◌, ◌-◌, ◌≤◌, List, [], ◌∷◌, length, map, sym, subst, arith, Bool, true, false, ◌==◌, if◌then◌else◌}
use Rattle.std.proofs.Common.{Option, Some, None, nat_le}
use Rattle.std.specs.Prelude.{ℤ, pos, unsigned_abs}
use Rattle.affine_index.specs.Count.{atom_count, items_count, terms_count, total}
use Rattle.affine_index.specs.Normal.{is_normal, is_ordered}
use Rattle.affine_index.specs.Printed.{is_positive}
use Rattle.affine_index.proofs.CountLaws.{count-Size, count-Var, count-Div, count-Mul, count-items}
use Rattle.affine_index.proofs.Factors.{Ordered, mul_parts}
use Rattle.affine_index.proofs.Induction.{Each, EachTerm, for_atoms}
use Rattle.affine_index.proofs.PutNorm.{normal_parts}
use Rattle.affine_index.proofs.ReadyLaws.{ordered-Div}
use Rattle.affine_index.proofs.Sorted.{EachItem, GoodItem, ordered-terms}
use Rattle.affine_index.specs.declared.form.Atom.{Atom}
use Rattle.affine_index.specs.declared.form.Atom.TheVariants.{Size, Var, Div, Mul}
use Rattle.affine_index.specs.declared.form.Item.{Item}
use Rattle.affine_index.specs.declared.form.Items.{Items}
use Rattle.loop_lang.specs.declared.index.Iexp.{Iexp, Lit, Loop}
use Rattle.loop_lang.specs.declared.index.Iexp as form
use Rattle.loop_lang.specs.declared.index.Iexp.TheVariants as index
use Rattle.loop_lang.specs.Syntax.{index_sum, index_difference, index_product, index_quotient, index_remainder, index_larger}
use Rattle.loop_lang.proofs.IndexForms.{index_sum-is, index_difference-is, index_product-is, index_quotient-is}
use Rattle.index_trees.specs.Tree.{with_factor, with_summand, or_number, leading, item_tree, plus_item, minus_item, plus_constant, minus_constant}
use Rattle.index_trees.specs.Tree.{is_negative, joined_atom, joined_atoms, plus_terms, minus_terms, index_tree, tree_after}
use Rattle.index_trees.proofs.TreeLaws.{tree-Size, tree-Var, tree-Div, tree-Mul, tree-items}
use Rattle.c_print.specs.declared.level.Level.TheVariants.{Choice, Sum, Product, Part}
use Rattle.c_text.specs.Levels.{index_levels, index_longest, most}
use Rattle.c_text.specs.Printable.{index_chain}

pub most-least : (a b l : ℕ) → a ≤ l → b ≤ l → most a b ≤ l
most-least a b l h g = by (nat_le a b)
  where
    by : (t : Bool) → (if t then b else a) ≤ l
    by true = g
    by false = h

-- places

pub sum-product : (t : Iexp) → index_levels t Sum ≤ index_levels t Product
sum-product (Lit n) = omega arith
sum-product (form.Size n) = omega arith
sum-product (Loop n) = omega arith
sum-product (index_sum a b) = omega arith
sum-product (index_difference a b) = omega arith
sum-product (index_product a b) = omega arith
sum-product (index_quotient a n) = omega arith
sum-product (index_remainder a n) = omega arith
sum-product (index_larger a b) = omega arith

pub product-sum : (t : Iexp) → index_levels t Product ≤ index_levels t Sum + 1
product-sum (Lit n) = omega arith
product-sum (form.Size n) = omega arith
product-sum (Loop n) = omega arith
product-sum (index_sum a b) = omega arith
product-sum (index_difference a b) = omega arith
product-sum (index_product a b) = omega arith
product-sum (index_quotient a n) = omega arith
product-sum (index_remainder a n) = omega arith
product-sum (index_larger a b) = omega arith

pub choice-sum : (t : Iexp) → index_levels t Choice ≤ index_levels t Sum
choice-sum (Lit n) = omega arith
choice-sum (form.Size n) = omega arith
choice-sum (Loop n) = omega arith
choice-sum (index_sum a b) = omega arith
choice-sum (index_difference a b) = omega arith
choice-sum (index_product a b) = omega arith
choice-sum (index_quotient a n) = omega arith
choice-sum (index_remainder a n) = omega arith
choice-sum (index_larger a b) = omega arith

-- a product so far: its levels, its chain, and the chains in it
pub record ProductWithin (b c : ℕ) (x : Iexp) : Type 0 where
  pub levels : index_levels x Product ≤ b
  pub chain : index_chain Product x ≤ c
  pub none : index_chain Sum x ≤ 0
  pub longest : index_longest x ≤ 600

abbrev Factors : ℕ → ℕ → Option Iexp → Type 0
Factors b c None = Unit {0}
Factors b c (Some x) = ProductWithin b c x

-- a sum so far
pub record SumWithin (b c k : ℕ) (x : Iexp) : Type 0 where
  pub levels : index_levels x Sum ≤ b
  pub chain : index_chain Sum x ≤ c
  pub product : index_chain Product x ≤ k
  pub longest : index_longest x ≤ 600

abbrev pub Summands : ℕ → ℕ → ℕ → Option Iexp → Type 0
Summands b c k None = Unit {0}
Summands b c k (Some x) = SumWithin b c k x

-- a factor
record FactorWithin (b c : ℕ) (x : Iexp) : Type 0 where
  whole : ProductWithin b c x
  part : index_levels x Part + 1 ≤ b

product-within : (a x : Iexp) (b c : ℕ) → c + 1 ≤ 600 → ProductWithin b c a → index_levels x Part + 1 ≤ b → index_longest x ≤ 600
    → ProductWithin b (c + 1) (index.Mul a x)
product-within a x b c n h p l = subst (ProductWithin b (c + 1)) (sym (index_product-is a x)) (record {
  levels = most-least (index_levels a Product) (index_levels x Part + 1) b h.levels p;
  chain = omega (arith, h.chain);
  none = omega arith;
  longest = most-least (index_chain Product a + 1) (most (index_longest a) (index_longest x)) 600 (omega (arith, h.chain, n))
      (most-least (index_longest a) (index_longest x) 600 h.longest l);
})

factor-within : (p : Option Iexp) (x : Iexp) (b c d : ℕ) → c + d ≤ 600 → 1 ≤ d → Factors b c p → FactorWithin b d x → Factors b (c + d) (with_factor p x)
factor-within None x b c d n o h f = record {
  levels = f.whole.levels;
  chain = omega (arith, f.whole.chain);
  none = f.whole.none;
  longest = f.whole.longest;
}
factor-within (Some a) x b c d n o h f =
    let q = product-within a x b c (omega (arith, n, o)) h f.part f.whole.longest in record {
      levels = q.levels;
      chain = omega (arith, q.chain, o);
      none = q.none;
      longest = q.longest;
    }

sum-within : (a x : Iexp) (b c k : ℕ) → c + 1 ≤ 600 → SumWithin b c k a → index_levels x Product + 1 ≤ b → index_longest x ≤ 600
    → SumWithin b (c + 1) k (index.Add a x)
sum-within a x b c k n h p l = subst (SumWithin b (c + 1) k) (sym (index_sum-is a x)) (record {
  levels = most-least (index_levels a Sum) (index_levels x Product + 1) b h.levels p;
  chain = omega (arith, h.chain);
  product = omega arith;
  longest = most-least (index_chain Sum a + 1) (most (index_longest a) (index_longest x)) 600 (omega (arith, h.chain, n))
      (most-least (index_longest a) (index_longest x) 600 h.longest l);
})

difference-within : (a x : Iexp) (b c k : ℕ) → c + 1 ≤ 600 → SumWithin b c k a → index_levels x Product + 1 ≤ b → index_longest x ≤ 600
    → SumWithin b (c + 1) k (index.Sub a x)
difference-within a x b c k n h p l = subst (SumWithin b (c + 1) k) (sym (index_difference-is a x)) (record {
  levels = most-least (index_levels a Sum) (index_levels x Product + 1) b h.levels p;
  chain = omega (arith, h.chain);
  product = omega arith;
  longest = most-least (index_chain Sum a + 1) (most (index_longest a) (index_longest x)) 600 (omega (arith, h.chain, n))
      (most-least (index_longest a) (index_longest x) 600 h.longest l);
})

-- an item of a sum
record ItemWithin (b k : ℕ) (x : Iexp) : Type 0 where
  levels : index_levels x Product + 1 ≤ b
  chain : index_chain Product x ≤ k
  none : index_chain Sum x ≤ 0
  longest : index_longest x ≤ 600

longer-within : (b c d k : ℕ) (x : Iexp) → c ≤ d → SumWithin b c k x → SumWithin b d k x
longer-within b c d k x n h = record { levels = h.levels; chain = omega (arith, h.chain, n); product = h.product; longest = h.longest }

longer-summands : (b c d k : ℕ) (p : Option Iexp) → c ≤ d → Summands b c k p → Summands b d k p
longer-summands b c d k None n h = tt
longer-summands b c d k (Some x) n h = longer-within b c d k x n h

summand-within : (p : Option Iexp) (x : Iexp) (b c k : ℕ) → c + 1 ≤ 600 → Summands b c k p → ItemWithin b k x → Summands b (c + 1) k (with_summand p x)
summand-within None x b c k n h i = record {
  levels = omega (arith, sum-product x, i.levels);
  chain = omega (arith, i.none);
  product = i.chain;
  longest = i.longest;
}
summand-within (Some a) x b c k n h i = sum-within a x b c k n h i.levels i.longest

number-within : (n : ℤ) (b k : ℕ) → 2 ≤ b → ItemWithin b k (Lit n)
number-within n b k h = record { levels = omega (arith, h); chain = omega arith; none = omega arith; longest = omega arith }

module _ (loops : ℕ) where
  abbrev AtomWithin : Atom → Type 0
  AtomWithin a =
      Ordered a → atom_count a ≤ 128
      → (1 ≤ atom_count a)
      × ((b c : ℕ) (p : Option Iexp) → 4 * atom_count a + 1 ≤ b → c + atom_count a ≤ 600 → Factors b c p → Factors b (c + atom_count a) (joined_atom loops a p))

  abbrev FormWithin : Items → Type 0
  FormWithin i = is_ordered i ≡ true → items_count i ≤ 128 → SumWithin (4 * items_count i + 2) 300 (items_count i) (index_tree loops i)

  one-within : (a : Atom) (x : Iexp) → atom_count a ≡ 1 → ((p : Option Iexp) → joined_atom loops a p ≡ with_factor p x) → FactorWithin 5 1 x → AtomWithin a
  one-within a x e j f o n = (
    omega (arith, e),
    λ b c p l m h. let g : Factors b (c + 1) (with_factor p x) = factor-within p x b c 1 (omega (arith, m, e)) (omega arith) h (record {
      whole = record {
        levels = omega (arith, f.whole.levels, l, e);
        chain = f.whole.chain;
        none = f.whole.none;
        longest = f.whole.longest;
      };
      part = omega (arith, f.part, l, e);
    }) in subst (λ q. Factors b (c + atom_count a) q) (sym (j p)) (subst (λ n. Factors b (c + n) (with_factor p x)) (sym e) g),
  )

  size_within : (s : ℕ) → AtomWithin (Size s)
  size_within s = one-within (Size s) (form.Size s) (count-Size s) (tree-Size loops s) (record {
    whole = record { levels = omega arith; chain = omega arith; none = omega arith; longest = omega arith };
    part = omega arith;
  })

  var_within : (v : ℕ) → AtomWithin (Var v)
  var_within v = one-within (Var v) (Loop (loops - 1 - v)) (count-Var v) (tree-Var loops v) (record {
    whole = record { levels = omega arith; chain = omega arith; none = omega arith; longest = omega arith };
    part = omega arith;
  })

  quotient-within : (t : Iexp) (k n b : ℕ) → n ≤ 128 → 4 * n + 5 ≤ b → SumWithin (4 * n + 2) 300 n t → FactorWithin b (n + 1) (index.Div t k)
  quotient-within t k n b few l h = subst (FactorWithin b (n + 1)) (sym (index_quotient-is t k)) (record {
    whole = record {
      levels = most-least (index_levels t Product) 2 b (omega (arith, product-sum t, h.levels, l)) (omega (arith, l));
      chain = omega (arith, h.product);
      none = omega arith;
      longest = most-least (index_chain Product t + 1) (index_longest t) 600 (omega (arith, h.product, few)) h.longest;
    };
    part = let m = most-least (index_levels t Product) 2 (4 * n + 3) (omega (arith, product-sum t, h.levels)) (omega arith) in omega (arith, m, l);
  })

  div_within : (i : Items) (k : ℕ) → FormWithin i → AtomWithin (Div i k)
  div_within i k g o n =
      let e = count-Div i k in
      let h = g (ordered-Div i k o).1 (omega (arith, e, n)) in (
        omega (arith, e),
        λ b c p l m f.
            let q : Factors b (c + (items_count i + 1)) (with_factor p (index.Div (index_tree loops i) k)) =
            factor-within p (index.Div (index_tree loops i) k) b c (items_count i + 1) (omega (arith, m, e)) (omega arith) f
            (quotient-within (index_tree loops i) k (items_count i) b (omega (arith, e, n)) (omega (arith, l, e)) h) in
            subst (λ r. Factors b (c + atom_count (Div i k)) r) (sym (tree-Div loops i k p))
            (subst (λ n. Factors b (c + n) (with_factor p (index.Div (index_tree loops i) k))) (sym e) q),
      )

  all_within : (fs : List Atom) → Each AtomWithin fs → Each Ordered fs → total (map atom_count fs) ≤ 128
      → (length fs ≤ total (map atom_count fs))
      × ((b c : ℕ) (p : Option Iexp) → 4 * total (map atom_count fs) + 1 ≤ b → c + total (map atom_count fs) ≤ 600 → Factors b c p
      → Factors b (c + total (map atom_count fs)) (joined_atoms loops fs p))
  all_within [] h o n = (
    omega arith,
    λ b c p l m f. let e : c ≡ c + 0 = omega arith in subst (λ n. Factors b n p) e f,
  )
  all_within (a ∷ as') h o n =
      let one = h.0 o.0 (omega (arith, n)) in
      let rest = all_within as' h.1 o.1 (omega (arith, n)) in (
        omega (arith, one.0, rest.0),
        λ b c p l m f.
            let first = one.1 b c p (omega (arith, l)) (omega (arith, m)) f in
            let e : c + atom_count a + total (map atom_count as') ≡ c + (atom_count a + total (map atom_count as')) = omega arith in
            subst (λ n. Factors b n (joined_atoms loops as' (joined_atom loops a p))) e
            (rest.1 b (c + atom_count a) (joined_atom loops a p) (omega (arith, l)) (omega (arith, m)) first),
      )

  mul_within : (fs : List Atom) → Each AtomWithin fs → AtomWithin (Mul fs)
  mul_within fs h o n =
      let parts = mul_parts fs o in
      let e = count-Mul fs in
      let all = all_within fs h parts.good.ordered (omega (arith, e, n)) in (
        omega (arith, e, all.0, parts.two),
        λ b c p l m f.
            subst (λ r. Factors b (c + atom_count (Mul fs)) r) (sym (tree-Mul loops fs p))
            (subst (λ n. Factors b (c + n) (joined_atoms loops fs p)) (sym e) (all.1 b c p (omega (arith, l, e)) (omega (arith, m, e)) f)),
      )

  leading-within : (n b : ℕ) → 1 ≤ b → Factors b 0 (leading n)
  leading-within n b l = by (n == 1)
    where
      by : (t : Bool) → Factors b 0 (if t then None else Some (index.Lit (pos n)))
      by true = tt
      by false = record { levels = omega (arith, l); chain = omega arith; none = omega arith; longest = omega arith }

  number-item : (p : Option Iexp) (b n k : ℕ) → 2 ≤ b → n + 1 ≤ b → Factors n k p → ItemWithin b k (or_number (pos 1) p)
  number-item None b n k two l h = number-within (pos 1) b k two
  number-item (Some x) b n k two l h = record { levels = omega (arith, h.levels, l); chain = h.chain; none = h.none; longest = h.longest }

  abbrev ItemsWithin : ℕ → ℕ → List (Item Atom) → Type 0
  ItemsWithin b k [] = Unit {0}
  ItemsWithin b k (t ∷ ts) = (1 ≤ atom_count t.atom) × ItemWithin b k (item_tree t.coefficient (joined_atom loops t.atom)) × ItemsWithin b k ts

  items-within : (b k : ℕ) (ts : List (Item Atom)) → EachTerm AtomWithin ts → EachItem GoodItem ts → terms_count ts ≤ 128 → 4 * terms_count ts + 2 ≤ b
      → terms_count ts ≤ k → ItemsWithin b k ts
  items-within b k [] h g n l m = tt
  items-within b k (t ∷ ts) h g n l m =
      let one = h.0 g.0.0 (omega (arith, n)) in
      let first = one.1 (4 * atom_count t.atom + 1) 0 (leading (unsigned_abs t.coefficient)) (omega arith) (omega (arith, n))
      (leading-within (unsigned_abs t.coefficient) (4 * atom_count t.atom + 1) (omega arith)) in
      let i = number-item (joined_atom loops t.atom (leading (unsigned_abs t.coefficient))) b (4 * atom_count t.atom + 1) (0 + atom_count t.atom)
      (omega (arith, l)) (omega (arith, l)) first in (
        one.0,
        record { levels = i.levels; chain = omega (arith, i.chain, m); none = i.none; longest = i.longest },
        items-within b k ts h.1 g.1 (omega (arith, n)) (omega (arith, l)) (omega (arith, m)),
      )

  plus-within : (b k : ℕ) (ts : List (Item Atom)) → ItemsWithin b k ts → (c : ℕ) (p : Option Iexp) → c + terms_count ts ≤ 600 → Summands b c k p
      → Summands b (c + terms_count ts) k (plus_terms loops ts p)
  plus-within b k [] h c p n f = let e : c ≡ c + 0 = omega arith in subst (λ n. Summands b n k p) e f
  plus-within b k (t ∷ ts) h c p n f =
      let e : c + atom_count t.atom + terms_count ts ≡ c + (atom_count t.atom + terms_count ts) = omega arith in
      subst (λ n. Summands b n k (plus_terms loops ts (plus_item t.coefficient (joined_atom loops t.atom) p))) e
      (plus-within b k ts h.2 (c + atom_count t.atom) (plus_item t.coefficient (joined_atom loops t.atom) p) (omega (arith, n))
      (by (is_positive t.coefficient)))
    where
      by : (z : Bool) → Summands b (c + atom_count t.atom) k (if z then with_summand p (item_tree t.coefficient (joined_atom loops t.atom)) else p)
      by true = longer-summands b (c + 1) (c + atom_count t.atom) k (with_summand p (item_tree t.coefficient (joined_atom loops t.atom))) (omega (arith, h.0))
          (summand-within p (item_tree t.coefficient (joined_atom loops t.atom)) b c k (omega (arith, n, h.0)) f h.1)
      by false = longer-summands b c (c + atom_count t.atom) k p (omega arith) f

  minus-within : (b k : ℕ) (ts : List (Item Atom)) → ItemsWithin b k ts → (c : ℕ) (x : Iexp) → c + terms_count ts ≤ 600 → SumWithin b c k x
      → SumWithin b (c + terms_count ts) k (minus_terms loops ts x)
  minus-within b k [] h c x n f = let e : c ≡ c + 0 = omega arith in subst (λ n. SumWithin b n k x) e f
  minus-within b k (t ∷ ts) h c x n f =
      let e : c + atom_count t.atom + terms_count ts ≡ c + (atom_count t.atom + terms_count ts) = omega arith in
      subst (λ n. SumWithin b n k (minus_terms loops ts (minus_item t.coefficient (joined_atom loops t.atom) x))) e
      (minus-within b k ts h.2 (c + atom_count t.atom) (minus_item t.coefficient (joined_atom loops t.atom) x) (omega (arith, n))
      (by (is_negative t.coefficient)))
    where
      by : (z : Bool) → SumWithin b (c + atom_count t.atom) k (if z then index.Sub x (item_tree t.coefficient (joined_atom loops t.atom)) else x)
      by true = longer-within b (c + 1) (c + atom_count t.atom) k (index.Sub x (item_tree t.coefficient (joined_atom loops t.atom))) (omega (arith, h.0))
          (difference-within x (item_tree t.coefficient (joined_atom loops t.atom)) b c k (omega (arith, n, h.0)) f h.1.levels h.1.longest)
      by false = longer-within b c (c + atom_count t.atom) k x (omega arith) f

  plus-last : (b k c : ℕ) (z : ℤ) (p : Option Iexp) → 2 ≤ b → c + 1 ≤ 600 → Summands b c k p → Summands b (c + 1) k (plus_constant z p)
  plus-last b k c z p two n f = by (is_positive z)
    where
      by : (t : Bool) → Summands b (c + 1) k (if t then with_summand p (index.Lit z) else p)
      by true = summand-within p (index.Lit z) b c k n f (number-within z b k two)
      by false = longer-summands b c (c + 1) k p (omega arith) f

  minus-last : (b k c : ℕ) (z : ℤ) (x : Iexp) → 2 ≤ b → c + 1 ≤ 600 → SumWithin b c k x → SumWithin b (c + 1) k (minus_constant z x)
  minus-last b k c z x two n f = by (is_negative z)
    where
      i : ItemWithin b k (Lit (pos (unsigned_abs z)))
      i = number-within (pos (unsigned_abs z)) b k two

      by : (t : Bool) → SumWithin b (c + 1) k (if t then index.Sub x (index.Lit (pos (unsigned_abs z))) else x)
      by true = difference-within x (index.Lit (pos (unsigned_abs z))) b c k n f i.levels i.longest
      by false = longer-within b c (c + 1) k x (omega arith) f

  zero-or : (b k c : ℕ) (p : Option Iexp) → 2 ≤ b → Summands b c k p → SumWithin b c k (or_number (pos 0) p)
  zero-or b k c None two f = record { levels = omega (arith, two); chain = omega arith; product = omega arith; longest = omega arith }
  zero-or b k c (Some x) two f = f

  -- the tree of a form behind a first summand
  after-within : (i : Items) → EachTerm AtomWithin i.terms → is_ordered i ≡ true → terms_count i.terms ≤ 128 → (b k : ℕ) → 4 * terms_count i.terms + 2 ≤ b
      → terms_count i.terms ≤ k → (p : Option Iexp) → Summands b 0 k p → SumWithin b 300 k (tree_after loops p i)
  after-within i h o n b k l m p f =
      let c = terms_count i.terms in
      let each = items-within b k i.terms h (ordered-terms i o).1 n l m in
      let two : 2 ≤ b = omega (arith, l) in
      let a = plus-within b k i.terms each 0 p (omega (arith, n)) f in
      let q = plus-last b k (0 + c) i.constant (plus_terms loops i.terms p) two (omega (arith, n)) a in
      let z = zero-or b k (0 + c + 1) (plus_constant i.constant (plus_terms loops i.terms p)) two q in
      let d = minus-within b k i.terms each (0 + c + 1) (or_number (pos 0) (plus_constant i.constant (plus_terms loops i.terms p))) (omega (arith, n)) z in
      let e = minus-last b k (0 + c + 1 + c) i.constant
      (minus_terms loops i.terms (or_number (pos 0) (plus_constant i.constant (plus_terms loops i.terms p)))) two (omega (arith, n)) d in
      longer-within b (0 + c + 1 + c + 1) 300 k (tree_after loops p i) (omega (arith, n)) e

  form_within : (ts : List (Item Atom)) (c : ℤ) → EachTerm AtomWithin ts → FormWithin (record { terms = ts; constant = c })
  form_within ts c h o n =
      let i : Items = record { terms = ts; constant = c } in
      let e = count-items i in
      subst (λ x. SumWithin (4 * items_count i + 2) 300 (items_count i) x) (sym (tree-items loops i))
      (after-within i h o (omega (arith, e, n)) (4 * items_count i + 2) (items_count i) (omega (arith, e)) (omega (arith, e)) None tt)

  each_within : (ts : List (Item Atom)) → EachTerm AtomWithin ts
  each_within [] = tt
  each_within (t ∷ ts) = (for_atoms AtomWithin FormWithin size_within var_within div_within mul_within form_within t.atom, each_within ts)

  -- the tree of a normal form behind a first summand, if any, of these levels and no chain of products or sums
  pub tree_after_within : (i : Items) → is_normal i ≡ true → (b : ℕ) → 514 ≤ b → (p : Option Iexp) → Summands b 0 128 p
      → SumWithin b 300 128 (tree_after loops p i)
  tree_after_within i n b l p f =
      let parts = normal_parts i n in
      after-within i (each_within i.terms) parts.ordered parts.short b 128 (omega (arith, parts.short, l)) parts.short p f

  -- the tree of a normal form
  pub tree_within : (i : Items) → is_normal i ≡ true → SumWithin 514 300 128 (index_tree loops i)
  tree_within i n = subst (λ x. SumWithin 514 300 128 x) (sym (tree-items loops i)) (tree_after_within i n 514 (omega arith) None tt)
