-- How many operators the tree of a normal form has: fewer than four for each atom, and one.
use Rattle.std.proofs.Common.{◌≡◌, ℕ, ◌+◌, ◌*◌, ◌-◌, ◌≤◌, List, [], ◌∷◌, length, map, refl, ap, arith, Bool, true, false, ◌==◌, if◌then◌else◌, nat_lt}
use Rattle.std.proofs.Common.{Option, Some, None}
use Rattle.std.specs.Prelude.{ℤ, pos, negsuc, unsigned_abs}
use Rattle.affine_index.specs.Count.{atom_count, items_count, terms_count, total}
use Rattle.affine_index.specs.Normal.{is_normal, is_ordered}
use Rattle.affine_index.proofs.CountLaws.{count-Size, count-Var, count-Div, count-Mul, count-items}
use Rattle.affine_index.proofs.Factors.{Ordered, mul_parts}
use Rattle.affine_index.proofs.Induction.{Each, EachTerm, for_items}
use Rattle.affine_index.proofs.PutNorm.{normal_parts}
use Rattle.affine_index.proofs.ReadyLaws.{ordered-Div}
use Rattle.affine_index.proofs.Sorted.{EachItem, GoodItem, ordered-terms}
use Rattle.affine_index.specs.declared.form.Atom.{Atom}
use Rattle.affine_index.specs.declared.form.Atom.TheVariants.{Size, Var, Div, Mul}
use Rattle.affine_index.specs.declared.form.Item.{Item}
use Rattle.affine_index.specs.declared.form.Items.{Items}
use Rattle.loop_lang.specs.declared.index.Iexp.{Iexp}
use Rattle.loop_lang.specs.declared.index.Iexp.TheVariants as index
use Rattle.loop_lang.proofs.IndexForms.{index_sum-is, index_difference-is, index_product-is, index_quotient-is}
use Rattle.index_trees.specs.Tree.{with_factor, with_summand, or_number, leading, item_tree, plus_item, minus_item, plus_constant, minus_constant}
use Rattle.index_trees.specs.Tree.{is_negative, joined_atom, joined_atoms, plus_terms, minus_terms, index_tree}
use Rattle.affine_index.specs.Printed.{is_positive}
use Rattle.atl_printer.specs.IndexTokens.{operators}
use Rattle.index_trees.proofs.TreeLaws.{tree-Size, tree-Var, tree-Div, tree-Mul, tree-items}

-- those of what is joined so far
abbrev so_far : Option Iexp → ℕ
so_far None = 0
so_far (Some t) = operators t

factor-most : (p : Option Iexp) (x : Iexp) → so_far (with_factor p x) ≤ so_far p + operators x + 1
factor-most None x = omega arith
factor-most (Some a) x = omega (arith, ap operators (index_product-is a x))

summand-most : (p : Option Iexp) (x : Iexp) → so_far (with_summand p x) ≤ so_far p + operators x + 1
summand-most None x = omega arith
summand-most (Some a) x = omega (arith, ap operators (index_sum-is a x))

number-most : (n : ℕ) (p : Option Iexp) → operators (or_number (pos n) p) ≤ so_far p
number-most n None = omega arith
number-most n (Some t) = omega arith

leading-none : (n : ℕ) → so_far (leading n) ≡ 0
leading-none n = by (n == 1)
  where
    by : (b : Bool) → so_far (if b then None else Some (index.Lit (pos n))) ≡ 0
    by true = refl
    by false = refl

-- one or none
abbrev one_if : Bool → ℕ → ℕ
one_if true n = n
one_if false n = 0

not_both : (c : ℤ) (n : ℕ) → one_if (is_positive c) n + one_if (is_negative c) n ≤ n
not_both (pos m) n = by (nat_lt 0 m)
  where
    by : (b : Bool) → one_if b n + 0 ≤ n
    by true = omega arith
    by false = omega arith
not_both (negsuc m) n = omega arith

module _ (loops : ℕ) where
  abbrev AtomFew : Atom → Type 0
  AtomFew a = Ordered a → (p : Option Iexp) → so_far (joined_atom loops a p) + 1 ≤ so_far p + 4 * atom_count a

  abbrev FormFew : Items → Type 0
  FormFew i = is_ordered i ≡ true → operators (index_tree loops i) ≤ 4 * items_count i + 1

  size_few : (s : ℕ) → AtomFew (Size s)
  size_few s o p = omega (arith, ap so_far (tree-Size loops s p), factor-most p (index.Size s), count-Size s)

  var_few : (v : ℕ) → AtomFew (Var v)
  var_few v o p = omega (arith, ap so_far (tree-Var loops v p), factor-most p (index.Loop (loops - 1 - v)), count-Var v)

  div_few : (i : Items) (k : ℕ) → FormFew i → AtomFew (Div i k)
  div_few i k h o p =
      omega (
        arith,
        ap so_far (tree-Div loops i k p),
        factor-most p (index.Div (index_tree loops i) k),
        ap operators
            (index_quotient-is (index_tree loops i) k),
        h (ordered-Div i k o).1,
        count-Div i k,
      )

  all_few : (fs : List Atom) → Each AtomFew fs → Each Ordered fs → (p : Option Iexp)
      → so_far (joined_atoms loops fs p) + length fs ≤ so_far p + 4 * total (map atom_count fs)
  all_few [] h o p = omega arith
  all_few (f ∷ fs) h o p = omega (arith, all_few fs h.1 o.1 (joined_atom loops f p), h.0 o.0 p)

  mul_few : (fs : List Atom) → Each AtomFew fs → AtomFew (Mul fs)
  mul_few fs h o p =
      let parts = mul_parts fs o in
      omega (arith, ap so_far (tree-Mul loops fs p), all_few fs h parts.good.ordered p, parts.two, count-Mul fs)

  item_few : (t : Item Atom) → AtomFew t.atom → Ordered t.atom → operators (item_tree t.coefficient (joined_atom loops t.atom)) + 1 ≤ 4 * atom_count t.atom
  item_few t h o =
      let first = leading (unsigned_abs t.coefficient) in
      omega (arith, number-most 1 (joined_atom loops t.atom first), h o first, leading-none (unsigned_abs t.coefficient))

  -- four for each atom of the items with positive coefficient, or with negative
  abbrev plus_room : List (Item Atom) → ℕ
  plus_room [] = 0
  plus_room (t ∷ ts) = one_if (is_positive t.coefficient) (4 * atom_count t.atom) + plus_room ts

  abbrev minus_room : List (Item Atom) → ℕ
  minus_room [] = 0
  minus_room (t ∷ ts) = one_if (is_negative t.coefficient) (4 * atom_count t.atom) + minus_room ts

  both_rooms : (ts : List (Item Atom)) → plus_room ts + minus_room ts ≤ 4 * terms_count ts
  both_rooms [] = omega arith
  both_rooms (t ∷ ts) = omega (arith, both_rooms ts, not_both t.coefficient (4 * atom_count t.atom))

  plus_few : (ts : List (Item Atom)) (p : Option Iexp) → EachTerm AtomFew ts → EachItem GoodItem ts → so_far (plus_terms loops ts p) ≤ so_far p + plus_room ts
  plus_few [] p h g = omega arith
  plus_few (t ∷ ts) p h g = omega (arith, plus_few ts (plus_item t.coefficient (joined_atom loops t.atom) p) h.1 g.1, by (is_positive t.coefficient))
    where
      by : (b : Bool) → so_far (if b then with_summand p (item_tree t.coefficient (joined_atom loops t.atom)) else p) ≤ so_far p + one_if b
          (4 * atom_count t.atom)
      by true = omega (arith, summand-most p (item_tree t.coefficient (joined_atom loops t.atom)), item_few t h.0 g.0.0)
      by false = omega arith

  minus_few : (ts : List (Item Atom)) (x : Iexp) → EachTerm AtomFew ts → EachItem GoodItem ts → operators (minus_terms loops ts x) ≤ operators x + minus_room ts
  minus_few [] x h g = omega arith
  minus_few (t ∷ ts) x h g = omega (arith, minus_few ts (minus_item t.coefficient (joined_atom loops t.atom) x) h.1 g.1, by (is_negative t.coefficient))
    where
      by : (b : Bool) → operators (if b then index.Sub x (item_tree t.coefficient (joined_atom loops t.atom)) else x) ≤ operators x + one_if b
          (4 * atom_count t.atom)
      by true = omega (arith, ap operators (index_difference-is x (item_tree t.coefficient (joined_atom loops t.atom))), item_few t h.0 g.0.0)
      by false = omega arith

  plus_one : (c : ℤ) (p : Option Iexp) → so_far (plus_constant c p) ≤ so_far p + one_if (is_positive c) 1
  plus_one c p = by (is_positive c)
    where
      by : (b : Bool) → so_far (if b then with_summand p (index.Lit c) else p) ≤ so_far p + one_if b 1
      by true = omega (arith, summand-most p (index.Lit c))
      by false = omega arith

  minus_one : (c : ℤ) (x : Iexp) → operators (minus_constant c x) ≤ operators x + one_if (is_negative c) 1
  minus_one c x = by (is_negative c)
    where
      by : (b : Bool) → operators (if b then index.Sub x (index.Lit (pos (unsigned_abs c))) else x) ≤ operators x + one_if b 1
      by true = omega (arith, ap operators (index_difference-is x (index.Lit (pos (unsigned_abs c)))))
      by false = omega arith

  form_few : (ts : List (Item Atom)) (c : ℤ) → EachTerm AtomFew ts → FormFew (record { terms = ts; constant = c })
  form_few ts c h o =
      let i : Items = record { terms = ts; constant = c } in
      let goods = (ordered-terms i o).1 in
      let a = plus_terms loops ts None in
      let b = or_number (pos 0) (plus_constant c a) in
      omega (
        arith,
        ap operators (tree-items loops i),
        minus_one c (minus_terms loops ts b),
        minus_few ts b h goods,
        number-most 0 (plus_constant c a),
        plus_one c a,
        plus_few ts None h goods,
        both_rooms ts,
        not_both c 1,
        count-items i,
      )

  pub tree-operators : (i : Items) → is_ordered i ≡ true → operators (index_tree loops i) ≤ 4 * items_count i + 1
  tree-operators = for_items AtomFew FormFew size_few var_few div_few mul_few form_few

  pub normal-operators : (i : Items) → is_normal i ≡ true → operators (index_tree loops i) ≤ 513
  normal-operators i n = let p = normal_parts i n in omega (arith, tree-operators i p.ordered, p.short, count-items i)
