-- The tree of a form stands for its value.
use Rattle.std.proofs.Common.{◌≡◌, ℕ, zero, suc, ◌-◌, ◌<◌, List, [], ◌∷◌, get_or, length, map, refl, ap, sym, ◌∙◌, subst, arith, Bool, true, false}
use Rattle.std.proofs.Common.{◌||◌, not, ◌==◌, if◌then◌else◌, nat_lt, Option, Some, None, Result, Ok, Err, IfOk}
use Rattle.std.proofs.lemmas.Bool.{and_parts}
use Rattle.std.proofs.lemmas.Int.{ints}
use Rattle.std.specs.Prelude.{slice_index, unsigned_abs, ℤ, pos, negsuc, ◌+ℤ◌, ◌-ℤ◌, ◌*ℤ◌}
use Rattle.std.specs.Int.{int_div_euclid}
use Rattle.std.proofs.Math.IntN.{zero-*ℤ}
use Rattle.affine_index.specs.Limited.{atom_scoped, items_scoped, all_true, all_firsts}
use Rattle.affine_index.specs.Normal.{any_holds, any_term_holds, atom_holds_var, holds_var}
use Rattle.affine_index.proofs.VarLaws.{vars-Var, vars-Div, vars-Mul, vars-items}
use Rattle.affine_index.specs.Printed.{is_positive}
use Rattle.affine_index.specs.Value.{atom_value, items_value, terms_value}
use Rattle.affine_index.proofs.Induction.{Each, EachTerm, for_atoms, for_items}
use Rattle.affine_index.proofs.ReadyLaws.{scoped-Var, scoped-Div, scoped-Mul, scoped-items, scoped_term}
use Rattle.affine_index.proofs.Ring.{*ℤ_assoc, *ℤ_distrib}
use Rattle.affine_index.proofs.SumValue.{items_value-is}
use Rattle.affine_index.proofs.Values.{factors_value, value-Size, value-Var, value-Div, value-Mul}
use Rattle.affine_index.specs.declared.form.Atom.{Atom}
use Rattle.affine_index.specs.declared.form.Atom.TheVariants.{Size, Var, Div, Mul}
use Rattle.affine_index.specs.declared.form.Item.{Item}
use Rattle.affine_index.specs.declared.form.Items.{Items}
use Rattle.loop_lang.specs.declared.index.Iexp.{Iexp}
use Rattle.loop_lang.specs.declared.index.Iexp.TheVariants as index
use Rattle.loop_lang.proofs.IndexForms.{index_sum-is, index_difference-is, index_product-is, index_quotient-is}
use Rattle.index_trees.specs.Tree.{with_factor, with_summand, or_number, leading, item_tree, plus_item, minus_item, plus_constant, minus_constant}
use Rattle.index_trees.specs.Tree.{joined_atom, joined_atoms, plus_terms, minus_terms, index_tree, tree_after}
use Rattle.index_trees.specs.Value.{AreTurns, Computes, ComputesSum, summand_value, tree_value}
use Rattle.index_trees.proofs.TreeLaws.{tree-Size, tree-Var, tree-Div, tree-Mul, tree-items}

one-times : (a : ℤ) → pos 1 *ℤ a ≡ a
one-times a = grind (arith, ints)

one_is : (n : ℕ) → (n == 1) ≡ true → n ≡ 1
one_is n h = grind arith

positive_is : (n : ℕ) → is_positive (pos (suc n)) ≡ true
positive_is n = grind arith

-- what of a number is added, and what is taken away
abbrev upper : ℤ → ℤ
upper (pos n) = pos n
upper (negsuc n) = pos 0

abbrev lower : ℤ → ℤ
lower (pos n) = pos 0
lower (negsuc n) = pos (suc n)

both : (c : ℤ) → upper c ≡ c +ℤ lower c
both (pos n) = omega (arith, ints)
both (negsuc n) = omega (arith, ints)

-- the test holds of each atom, and of the atom of each item
abbrev pub AllOf : (Atom → Bool) → List Atom → Type 0
AllOf ok [] = Unit {0}
AllOf ok (f ∷ fs) = (ok f ≡ true) × AllOf ok fs

abbrev pub AllTermsOf : (Atom → Bool) → List (Item Atom) → Type 0
AllTermsOf ok [] = Unit {0}
AllTermsOf ok (t ∷ ts) = (ok t.atom ≡ true) × AllTermsOf ok ts

-- a test of atoms and forms that goes down to their parts, and of whose variables the loops have the values
pub record Covers (s r v : List ℕ) (loops : ℕ) (ok : Atom → Bool) (form : Items → Bool) : Type 0 where
  pub at_var : (k : ℕ) → ok (Var k) ≡ true → get_or r (loops - 1 - k) 0 ≡ slice_index v k
  pub at_div : (i : Items) (k : ℕ) → ok (Div i k) ≡ true → form i ≡ true
  pub at_mul : (fs : List Atom) → ok (Mul fs) ≡ true → AllOf ok fs
  pub at_form : (i : Items) → form i ≡ true → AllTermsOf ok i.terms

module _ (s r v : List ℕ) (loops : ℕ) (ok : Atom → Bool) (form : Items → Bool) (covers : Covers s r v loops ok form) where
  abbrev value : Iexp → ℤ
  value t = tree_value t s r

  -- of a product so far, and of a sum so far
  abbrev product_value : Option Iexp → ℤ
  product_value None = pos 1
  product_value (Some t) = value t

  abbrev pub sum_value : Option Iexp → ℤ
  sum_value o = summand_value o s r

  factor_value : (p : Option Iexp) (x : Iexp) → product_value (with_factor p x) ≡ product_value p *ℤ value x
  factor_value None x = sym (one-times (value x))
  factor_value (Some a) x = ap value (index_product-is a x)

  summand_added : (p : Option Iexp) (x : Iexp) → sum_value (with_summand p x) ≡ sum_value p +ℤ value x
  summand_added None x = omega (arith, ints)
  summand_added (Some a) x = ap value (index_sum-is a x)

  less_value : (x y : Iexp) → value (index.Sub x y) +ℤ value y ≡ value x
  less_value x y = let e : value (index.Sub x y) ≡ value x -ℤ value y = ap value (index_difference-is x y) in omega (arith, ints, e)

  one_value : (o : Option Iexp) → value (or_number (pos 1) o) ≡ product_value o
  one_value None = refl
  one_value (Some t) = refl

  zero_value : (o : Option Iexp) → value (or_number (pos 0) o) ≡ sum_value o
  zero_value None = refl
  zero_value (Some t) = refl

  leading_by : (b : Bool) (n : ℕ) → (b ≡ true → n ≡ 1) → product_value (if b then None else Some (index.Lit (pos n))) ≡ pos n
  leading_by true n h = ap pos (sym (h refl))
  leading_by false n h = refl

  leading_value : (n : ℕ) → product_value (leading n) ≡ pos n
  leading_value n = leading_by (n == 1) n (one_is n)

  abbrev AtomTree : Atom → Type 0
  AtomTree a = ok a ≡ true → (p : Option Iexp) → product_value (joined_atom loops a p) ≡ product_value p *ℤ atom_value s v a

  abbrev FormTree : Items → Type 0
  FormTree i = form i ≡ true → value (index_tree loops i) ≡ items_value s v i

  size_tree : (k : ℕ) → AtomTree (Size k)
  size_tree k h p = ap product_value (tree-Size loops k p) ∙ factor_value p (index.Size k) ∙ ap (λ z. product_value p *ℤ z) (sym (value-Size s v k))

  var_tree : (k : ℕ) → AtomTree (Var k)
  var_tree k h p =
      ap product_value (tree-Var loops k p) ∙ factor_value p (index.Loop (loops - 1 - k))
      ∙ ap (λ z. product_value p *ℤ z) (ap pos (covers.at_var k h) ∙ sym (value-Var s v k))

  div_tree : (i : Items) (k : ℕ) → FormTree i → AtomTree (Div i k)
  div_tree i k q h p =
      let e : value (index.Div (index_tree loops i) k) ≡ int_div_euclid (value (index_tree loops i)) (pos k) = ap value
      (index_quotient-is (index_tree loops i) k) in
      ap product_value (tree-Div loops i k p) ∙ factor_value p (index.Div (index_tree loops i) k)
      ∙ ap (λ z. product_value p *ℤ z) (e ∙ ap (λ z. int_div_euclid z (pos k)) (q (covers.at_div i k h)) ∙ sym (value-Div s v i k))

  factors_tree : (fs : List Atom) → Each AtomTree fs → AllOf ok fs → (p : Option Iexp)
      → product_value (joined_atoms loops fs p) ≡ product_value p *ℤ factors_value s v fs
  factors_tree [] q h p = grind (arith, ints)
  factors_tree (f ∷ fs) q h p =
      factors_tree fs q.1 h.1 (joined_atom loops f p) ∙ ap (λ z. z *ℤ factors_value s v fs) (q.0 h.0 p)
      ∙ *ℤ_assoc (product_value p) (atom_value s v f) (factors_value s v fs)

  mul_tree : (fs : List Atom) → Each AtomTree fs → AtomTree (Mul fs)
  mul_tree fs q h p = ap product_value (tree-Mul loops fs p) ∙ factors_tree fs q (covers.at_mul fs h) p
      ∙ ap (λ z. product_value p *ℤ z) (sym (value-Mul s v fs))

  -- an item's tree
  item_value : (c : ℤ) (a : Atom) → AtomTree a → ok a ≡ true → value (item_tree c (joined_atom loops a)) ≡ pos (unsigned_abs c) *ℤ atom_value s v a
  item_value c a q h =
      one_value (joined_atom loops a (leading (unsigned_abs c))) ∙ q h (leading (unsigned_abs c))
      ∙ ap (λ z. z *ℤ atom_value s v a) (leading_value (unsigned_abs c))

  plus_item_value : (c : ℤ) (a : Atom) (o : Option Iexp) → AtomTree a → ok a ≡ true
      → sum_value (plus_item c (joined_atom loops a) o) ≡ sum_value o +ℤ (upper c *ℤ atom_value s v a)
  plus_item_value (pos zero) a o q h = let z : pos 0 *ℤ atom_value s v a ≡ pos 0 = zero-*ℤ (atom_value s v a) in omega (arith, ints, z)
  plus_item_value (pos (suc n)) a o q h =
      ap (λ b. sum_value (if b then with_summand o (item_tree (pos (suc n)) (joined_atom loops a)) else o)) (positive_is n)
      ∙ summand_added o (item_tree (pos (suc n)) (joined_atom loops a)) ∙ ap (λ z. sum_value o +ℤ z) (item_value (pos (suc n)) a q h)
  plus_item_value (negsuc n) a o q h = let z : pos 0 *ℤ atom_value s v a ≡ pos 0 = zero-*ℤ (atom_value s v a) in omega (arith, ints, z)

  minus_item_value : (c : ℤ) (a : Atom) (t : Iexp) → AtomTree a → ok a ≡ true → value (minus_item c (joined_atom loops a) t) +ℤ (lower c *ℤ atom_value s v a)
      ≡ value t
  minus_item_value (pos n) a t q h = let z : pos 0 *ℤ atom_value s v a ≡ pos 0 = zero-*ℤ (atom_value s v a) in omega (arith, ints, z)
  minus_item_value (negsuc n) a t q h =
      ap (λ z. value (index.Sub t (item_tree (negsuc n) (joined_atom loops a))) +ℤ z) (sym (item_value (negsuc n) a q h))
      ∙ less_value t (item_tree (negsuc n) (joined_atom loops a))

  abbrev uppers : List (Item Atom) → ℤ
  uppers [] = pos 0
  uppers (t ∷ ts) = (upper t.coefficient *ℤ atom_value s v t.atom) +ℤ uppers ts

  abbrev lowers : List (Item Atom) → ℤ
  lowers [] = pos 0
  lowers (t ∷ ts) = (lower t.coefficient *ℤ atom_value s v t.atom) +ℤ lowers ts

  plus_value : (ts : List (Item Atom)) (o : Option Iexp) → EachTerm AtomTree ts → AllTermsOf ok ts
      → sum_value (plus_terms loops ts o) ≡ sum_value o +ℤ uppers ts
  plus_value [] o q h = omega (arith, ints)
  plus_value (t ∷ ts) o q h =
      let a = plus_value ts (plus_item t.coefficient (joined_atom loops t.atom) o) q.1 h.1 in
      let b = plus_item_value t.coefficient t.atom o q.0 h.0 in omega (arith, ints, a, b)

  minus_value : (ts : List (Item Atom)) (x : Iexp) → EachTerm AtomTree ts → AllTermsOf ok ts → value (minus_terms loops ts x) +ℤ lowers ts ≡ value x
  minus_value [] x q h = omega (arith, ints)
  minus_value (t ∷ ts) x q h =
      let a = minus_value ts (minus_item t.coefficient (joined_atom loops t.atom) x) q.1 h.1 in
      let b = minus_item_value t.coefficient t.atom x q.0 h.0 in omega (arith, ints, a, b)

  sides : (ts : List (Item Atom)) → uppers ts ≡ terms_value s v ts +ℤ lowers ts
  sides [] = omega (arith, ints)
  sides (t ∷ ts) =
      let a = ap (λ z. z *ℤ atom_value s v t.atom) (both t.coefficient) ∙ *ℤ_distrib t.coefficient (lower t.coefficient) (atom_value s v t.atom) in
      let b = sides ts in omega (arith, ints, a, b)

  plus_constant_value : (c : ℤ) (o : Option Iexp) → sum_value (plus_constant c o) ≡ sum_value o +ℤ upper c
  plus_constant_value (pos zero) o = omega (arith, ints)
  plus_constant_value (pos (suc n)) o = ap (λ b. sum_value (if b then with_summand o (index.Lit (pos (suc n))) else o)) (positive_is n)
      ∙ summand_added o (index.Lit (pos (suc n)))
  plus_constant_value (negsuc n) o = omega (arith, ints)

  minus_constant_value : (c : ℤ) (t : Iexp) → value (minus_constant c t) +ℤ lower c ≡ value t
  minus_constant_value (pos n) t = omega (arith, ints)
  minus_constant_value (negsuc n) t = less_value t (index.Lit (pos (suc n)))

  -- the tree of a form behind a first summand
  after_value : (ts : List (Item Atom)) (c : ℤ) (o : Option Iexp) → EachTerm AtomTree ts → AllTermsOf ok ts
      → value (tree_after loops o (record { terms = ts; constant = c })) ≡ sum_value o +ℤ (terms_value s v ts +ℤ c)
  after_value ts c o q h =
      let sum = plus_terms loops ts o in
      let x = or_number (pos 0) (plus_constant c sum) in
      let a = plus_value ts o q h in
      let b = plus_constant_value c sum in
      let d = zero_value (plus_constant c sum) in
      let e = minus_value ts x q h in
      let f = minus_constant_value c (minus_terms loops ts x) in
      let g = sides ts in
      let i = both c in
      omega (arith, ints, a, b, d, e, f, g, i)

  form_tree : (ts : List (Item Atom)) (c : ℤ) → EachTerm AtomTree ts → FormTree (record { terms = ts; constant = c })
  form_tree ts c q h =
      let i : Items = record { terms = ts; constant = c } in
      let a = after_value ts c None q (covers.at_form i h) in
      let b = items_value-is s v i in
      ap value (tree-items loops i) ∙ omega (arith, ints, a, b)

  pub tree_is : (i : Items) → FormTree i
  tree_is = for_items AtomTree FormTree size_tree var_tree div_tree mul_tree form_tree

  abbrev AfterTree : Items → Type 0
  AfterTree i = form i ≡ true → (o : Option Iexp) → value (tree_after loops o i) ≡ sum_value o +ℤ items_value s v i

  after_form : (ts : List (Item Atom)) (c : ℤ) → EachTerm AtomTree ts → AfterTree (record { terms = ts; constant = c })
  after_form ts c q h o =
      let i : Items = record { terms = ts; constant = c } in
      let a = after_value ts c o q (covers.at_form i h) in
      let b = items_value-is s v i in omega (arith, ints, a, b)

  pub after_is : (i : Items) → AfterTree i
  after_is i h o = after_form i.terms i.constant (each_tree i.terms) h o
    where
      each_tree : (ts : List (Item Atom)) → EachTerm AtomTree ts
      each_tree [] = tt
      each_tree (t ∷ ts) = (for_atoms AtomTree FormTree size_tree var_tree div_tree mul_tree form_tree t.atom, each_tree ts)

-- a test of atoms whose parts are tested by a list of Booleans
all_of : (ok : Atom → Bool) (fs : List Atom) → all_true (map ok fs) ≡ true → AllOf ok fs
all_of ok [] h = tt
all_of ok (f ∷ fs) h = let p = and_parts (ok f) (all_true (map ok fs)) h in (p.0, all_of ok fs p.1)

all_terms_of : (sizes loops : ℕ) (ts : List (Item Atom)) → all_firsts (map (scoped_term sizes loops) ts) ≡ true → AllTermsOf (atom_scoped sizes loops) ts
all_terms_of sizes loops [] h = tt
all_terms_of sizes loops (t ∷ ts) h = let p = and_parts (atom_scoped sizes loops t.atom) (all_firsts (map (scoped_term sizes loops) ts)) h in
    (p.0, all_terms_of sizes loops ts p.1)

below : (k n : ℕ) → nat_lt k n ≡ true → k < n
below k n e = grind arith

-- forms over so many loops
scoped_covers : (s r v : List ℕ) (sizes loops : ℕ) → length r ≡ loops → AreTurns r v → Covers s r v loops (atom_scoped sizes loops) (items_scoped sizes loops)
scoped_covers s r v sizes loops e turns = record {
  at_var = λ k h. ap (λ n. get_or r (n - 1 - k) 0) (sym e) ∙ sym (turns k (subst (λ n. k < n) (sym e) (below k loops (sym (scoped-Var sizes loops k) ∙ h))));
  at_div = λ i k h. sym (scoped-Div sizes loops i k) ∙ h;
  at_mul = λ fs h. all_of (atom_scoped sizes loops) fs (sym (scoped-Mul sizes loops fs) ∙ h);
  at_form = λ i h. all_terms_of sizes loops i.terms (sym (scoped-items sizes loops i) ∙ h);
}

-- forms without index variables
free_parts : (a b : Bool) → not (a || b) ≡ true → (not a ≡ true) × (not b ≡ true)
free_parts true b h = absurd (cc)
free_parts false b h = (refl, h)

free_all : (fs : List Atom) → not (any_holds fs) ≡ true → AllOf (λ a. not (atom_holds_var a)) fs
free_all [] h = tt
free_all (f ∷ fs) h = let p = free_parts (atom_holds_var f) (any_holds fs) h in (p.0, free_all fs p.1)

free_terms : (ts : List (Item Atom)) → not (any_term_holds ts) ≡ true → AllTermsOf (λ a. not (atom_holds_var a)) ts
free_terms [] h = tt
free_terms (t ∷ ts) h = let p = free_parts (atom_holds_var t.atom) (any_term_holds ts) h in (p.0, free_terms ts p.1)

no_variable : (k : ℕ) → not (atom_holds_var (Var k)) ≡ true → ⊥
no_variable k h = let e : not true ≡ true = ap not (sym (vars-Var k)) ∙ h in absurd (cc)

pub free_covers : (s r v : List ℕ) (loops : ℕ) → Covers s r v loops (λ a. not (atom_holds_var a)) (λ i. not (holds_var i))
free_covers s r v loops = record {
  at_var = λ k h. absurd (no_variable k h);
  at_div = λ i k h. ap not (sym (vars-Div i k)) ∙ h;
  at_mul = λ fs h. free_all fs (ap not (sym (vars-Mul fs)) ∙ h);
  at_form = λ i h. free_terms i.terms (ap not (sym (vars-items i)) ∙ h);
}

-- the tree of a form without index variables behind a first summand
pub free_after : (s r : List ℕ) (loops : ℕ) (i : Items) (o : Option Iexp) → not (holds_var i) ≡ true
    → tree_value (tree_after loops o i) s r ≡ summand_value o s r +ℤ items_value s [] i
free_after s r loops i o h = after_is s r [] loops (λ a. not (atom_holds_var a)) (λ i. not (holds_var i)) (free_covers s r [] loops) i h o

pub computes : (loops : ℕ) (i : Items) → Computes loops i (index_tree loops i)
computes loops i sizes s r v e turns h = tree_is s r v loops (atom_scoped sizes loops) (items_scoped sizes loops) (scoped_covers s r v sizes loops e turns) i h

pub computes-sum : (loops : ℕ) (o : Option Iexp) (i : Items) → ComputesSum loops o i (tree_after loops o i)
computes-sum loops o i sizes s r v e turns h = after_is s r v loops (atom_scoped sizes loops) (items_scoped sizes loops)
    (scoped_covers s r v sizes loops e turns) i h o

-- the same of answers
pub answer-computes : (loops : ℕ) (i : Items) {E : Type 0} (r : Result Iexp E) → IfOk r (λ t. t ≡ index_tree loops i) → IfOk r (λ t. Computes loops i t)
answer-computes loops i (Ok t) h = subst (Computes loops i) (sym h) (computes loops i)
answer-computes loops i (Err e) h = tt

pub answer-computes-sum : (loops : ℕ) (o : Option Iexp) (i : Items) {E : Type 0} (r : Result Iexp E) → IfOk r (λ t. t ≡ tree_after loops o i)
    → IfOk r (λ t. ComputesSum loops o i t)
answer-computes-sum loops o i (Ok t) h = subst (ComputesSum loops o i) (sym h) (computes-sum loops o i)
answer-computes-sum loops o i (Err e) h = tt
