-- The tree that a normal form prints as reads as that form, and no operator on the way breaks a limit.
use Rattle.std.proofs.Common.{◌≡◌, ℕ, zero, suc, ◌+◌, ◌-◌, ◌<◌, ◌≤◌, ◌⊎◌, inl, inr, List, [], ◌∷◌, ◌++◌, length, map, refl, ap, sym, ◌∙◌, subst, arith}
use Rattle.std.proofs.Common.{Bool, true, false, ◌&&◌, ◌||◌, ◌==◌, nat_le, nat_lt, if◌then◌else◌, Option, Some, None, Result, Ok, Err, append_assoc}
use Rattle.std.specs.Prelude.{ℤ, pos, negsuc, unsigned_abs}
use Rattle.std.specs.Ordering.{int_eq}
use Rattle.std.proofs.lemmas.Bool.{and_from, and_parts}
use Rattle.affine_index.specs.Count.{atom_count, items_count, terms_count, total}
use Rattle.affine_index.specs.Form.{literal_form, of_atom}
use Rattle.affine_index.specs.Limited.{all_firsts, all_true, atom_scoped, items_scoped}
use Rattle.affine_index.specs.Normal.{any_holds, atom_holds_var, coefficient_fits, coefficients_fit, holds_var, is_normal, is_ordered, is_short, terms_fit}
use Rattle.affine_index.specs.Product.{factors_of, product_of}
use Rattle.affine_index.specs.Quotient.{quotient_of}
use Rattle.affine_index.specs.Sum.{difference_of, sum_of}
use Rattle.affine_index.proofs.CountLaws.{count-Mul, count-items}
use Rattle.affine_index.proofs.Factors.{Base, NoVar, OneVar, Ordered, SortedFactors, base_factors, factors-Size, factors-Var, factors-Div, factors-Mul}
use Rattle.affine_index.proofs.Factors.{good_factors, one_factors, mul_parts, none-any}
use Rattle.affine_index.proofs.Induction.{Each, EachTerm, for_items}
use Rattle.affine_index.proofs.PutFree.{quotient-same}
use Rattle.affine_index.proofs.PutOrdered.{divisor_bounds}
use Rattle.affine_index.proofs.PutSteps.{dividend-normal, form-terms}
use Rattle.affine_index.proofs.ReadyLaws.{ordered-Div, scoped-Size, scoped-Div, scoped-Mul, scoped-Var, scoped-items, scoped_term}
use Rattle.affine_index.proofs.Sorted.{Before, EachItem, GoodItem, Sorted, ordered-terms}
use Rattle.affine_index.proofs.TotalOrder.{by_kind}
use Rattle.affine_index.proofs.VarLaws.{vars-Mul, vars-items}
use Rattle.affine_index.specs.declared.form.Atom.{Atom}
use Rattle.affine_index.specs.declared.form.Atom.TheVariants.{Size, Var, Div, Mul}
use Rattle.affine_index.specs.declared.form.Item.{Item}
use Rattle.affine_index.specs.declared.form.Items.{Items}
use Rattle.loop_lang.specs.declared.index.Iexp.{Iexp}
use Rattle.loop_lang.specs.declared.index.Iexp.TheVariants as index
use Rattle.loop_lang.proofs.IndexForms.{index_sum-is, index_difference-is, index_product-is, index_quotient-is}
use Rattle.reader_laws.specs.declared.fault.Fault.{Fault}
use Rattle.reader_laws.specs.declared.fault.Fault.TheVariants.{NumberTooLarge, NotAffine, CoefficientTooLarge, IndexTooLong, BadSyntax}
use Rattle.index_trees.specs.Tree.{with_factor, with_summand, or_number, leading, item_tree, plus_constant, minus_constant, is_negative, joined_atom}
use Rattle.index_trees.specs.Tree.{joined_atoms, plus_terms, minus_terms, index_tree}
use Rattle.affine_index.specs.Printed.{is_positive}
use Rattle.source_grammar.specs.Limits.{tested, multiplied}
use Rattle.atl_printer.specs.ReadTree.{if_divisor, on_both, on_one, read_tree}
use Rattle.atl_printer.proofs.FormSteps.{alone, partial, product-factor, sum-item, difference-item, sum-constant, difference-constant, before_last}
use Rattle.atl_printer.proofs.FormSteps.{after_last, append-nil}
use Rattle.index_trees.proofs.TreeLaws.{tree-Size, tree-Var, tree-Div, tree-Mul, tree-items}

-- ---- limits

short_from : (n : ℕ) → n ≤ 128 → nat_le n 128 ≡ true
short_from n h = grind arith

tested-ok : (i : Items) → coefficients_fit i ≡ true → terms_count i.terms ≤ 128 → tested i ≡ Ok i
tested-ok i f n =
    (λ j. if f j then (if short j then Ok i else Err IndexTooLong) else Err CoefficientTooLarge)
  where
    short : is_short i ≡ true
    short = short_from (items_count i) (omega (arith, count-items i, n))

one_fits : coefficient_fits (pos 1) ≡ true
one_fits = refl

-- each coefficient is within its limit
abbrev Fits : List (Item Atom) → Type 0
Fits ts = EachItem (λ t. coefficient_fits t.coefficient ≡ true) ts

fits-each : (ts : List (Item Atom)) → terms_fit ts ≡ true → Fits ts
fits-each [] h = tt
fits-each (t ∷ ts) h = let p = and_parts (coefficient_fits t.coefficient) (terms_fit ts) h in (p.0, fits-each ts p.1)

each-fits : (ts : List (Item Atom)) → Fits ts → terms_fit ts ≡ true
each-fits [] h = refl
each-fits (t ∷ ts) h = and_from (coefficient_fits t.coefficient) (terms_fit ts) h.0 (each-fits ts h.1)

each-append : (P : Item Atom → Type 0) (xs ys : List (Item Atom)) → EachItem P xs → EachItem P ys → EachItem P (xs ++ ys)
each-append P [] ys h g = g
each-append P (x ∷ xs) ys h g = (h.0, each-append P xs ys h.1 g)

count-append : (xs ys : List (Item Atom)) → terms_count (xs ++ ys) ≡ terms_count xs + terms_count ys
count-append [] ys = omega arith
count-append (x ∷ xs) ys = omega (arith, count-append xs ys)

total-append : (xs ys : List Atom) → total (map atom_count (xs ++ ys)) ≡ total (map atom_count xs) + total (map atom_count ys)
total-append [] ys = omega arith
total-append (x ∷ xs) ys = omega (arith, total-append xs ys)

-- the items with positive coefficient
abbrev kept : Bool → Item Atom → List (Item Atom) → List (Item Atom)
kept true t ts = t ∷ ts
kept false t ts = ts

abbrev positives : List (Item Atom) → List (Item Atom)
positives [] = []
positives (t ∷ ts) = kept (is_positive t.coefficient) t (positives ts)

kept-each : (P : Item Atom → Type 0) (b : Bool) (t : Item Atom) (ts : List (Item Atom)) → P t → EachItem P ts → EachItem P (kept b t ts)
kept-each P true t ts h g = (h, g)
kept-each P false t ts h g = g

positives-each : (P : Item Atom → Type 0) (ts : List (Item Atom)) → EachItem P ts → EachItem P (positives ts)
positives-each P [] h = tt
positives-each P (t ∷ ts) h = kept-each P (is_positive t.coefficient) t (positives ts) h.0 (positives-each P ts h.1)

kept-count : (b : Bool) (t : Item Atom) (ts : List (Item Atom)) → terms_count (kept b t ts) ≤ atom_count t.atom + terms_count ts
kept-count true t ts = omega arith
kept-count false t ts = omega arith

positives-count : (ts : List (Item Atom)) → terms_count (positives ts) ≤ terms_count ts
positives-count [] = omega arith
positives-count (t ∷ ts) = omega (arith, kept-count (is_positive t.coefficient) t (positives ts), positives-count ts)

sums-fit : (pre ts : List (Item Atom)) (k : ℤ) → Fits pre → Fits ts → coefficient_fits k ≡ true
    → coefficients_fit (record { terms = pre ++ ts; constant = k }) ≡ true
sums-fit pre ts k h g c = and_from (terms_fit (pre ++ ts)) (coefficient_fits k) (each-fits (pre ++ ts) (each-append _ pre ts h g)) c

module _ (size_value loop_value : ℕ → Result Items Fault) (loops : ℕ) where
  -- a tree reads as a form
  abbrev Reads : Iexp → Items → Type 0
  Reads t x = read_tree size_value loop_value t ≡ Ok x

  -- ---- an item

  -- a product so far: a number, which is 1 where nothing is printed, and factors
  abbrev SoFar : Option Iexp → ℕ → List Atom → Type 0
  SoFar None c fs = (c ≡ 1) × (fs ≡ [])
  SoFar (Some t) c fs = Reads t (partial c fs)

  -- a base atom has a tree, which reads as it
  record BaseReads (f : Atom) : Type 0 where
    tree : Iexp
    joined : (p : Option Iexp) → joined_atom loops f p ≡ with_factor p tree
    reads : Reads tree (of_atom f)

  -- what the limits ask of a product: its number fits, and it has few atoms
  record Room (c : ℕ) (fs : List Atom) : Type 0 where
    some : 0 < c
    fits : coefficient_fits (pos c) ≡ true
    few : total (map atom_count fs) ≤ 128

  partial-ok : (c : ℕ) (fs : List Atom) → Room c fs → tested (partial c fs) ≡ Ok (partial c fs)
  partial-ok c [] r = tested-ok (partial c []) r.fits (omega arith)
  partial-ok c (f ∷ []) r = tested-ok (partial c (f ∷ [])) (and_from _ _ (and_from _ _ r.fits refl) refl) (omega (arith, r.few))
  partial-ok c (f ∷ g ∷ gs) r = tested-ok (partial c (f ∷ g ∷ gs)) (and_from _ _ (and_from _ _ r.fits refl) refl) (omega (arith, count-Mul (f ∷ g ∷ gs), r.few))

  -- what is asked of the factors of an atom
  record Factors (c : ℕ) (fs : List Atom) : Type 0 where
    room : Room c fs
    base : Each Base fs
    sorted : SortedFactors fs
    one : OneVar fs

  or_false : (b : Bool) → (b || false) ≡ b
  or_false true = refl
  or_false false = refl

  holds-atom : (g : Atom) → holds_var (of_atom g) ≡ atom_holds_var g
  holds-atom g = vars-items (of_atom g) ∙ or_false (atom_holds_var g)

  holds-partial : (c : ℕ) (fs : List Atom) → holds_var (partial c fs) ≡ any_holds fs
  holds-partial c [] = vars-items (partial c [])
  holds-partial c (f ∷ []) = vars-items (partial c (f ∷ []))
  holds-partial c (f ∷ g ∷ gs) = vars-items (partial c (f ∷ g ∷ gs)) ∙ ap (λ b. b || false) (vars-Mul (f ∷ g ∷ gs)) ∙ or_false (any_holds (f ∷ g ∷ gs))

  none_at : (fs : List Atom) (g : Atom) (gs : List Atom) → Each NoVar (fs ++ g ∷ gs) → NoVar g
  none_at [] g gs h = h.0
  none_at (f ∷ fs) g gs h = none_at fs g gs h.1

  none_before : (fs : List Atom) (g : Atom) (gs : List Atom) → OneVar (fs ++ g ∷ gs) → atom_holds_var g ≡ true → Each NoVar fs
  none_before [] g gs h e = tt
  none_before (f ∷ fs) g gs h e = (by h.0, none_before fs g gs h.1 e)
    where
      by : (NoVar f ⊎ Each NoVar (fs ++ g ∷ gs)) → NoVar f
      by (inl n) = n
      by (inr n) = let m = none_at fs g gs n in absurd (cc)

  apart : (fs : List Atom) (g : Atom) (gs : List Atom) → OneVar (fs ++ g ∷ gs) → (any_holds fs && atom_holds_var g) ≡ false
  apart fs g gs h = by (atom_holds_var g) refl
    where
      and_false : (b : Bool) → (b && false) ≡ false
      and_false true = refl
      and_false false = refl

      by : (b : Bool) → atom_holds_var g ≡ b → (any_holds fs && b) ≡ false
      by true e = ap (λ b. b && true) (none-any fs (none_before fs g gs h e))
      by false e = and_false (any_holds fs)

  room-front : (c : ℕ) (fs gs : List Atom) → Room c (fs ++ gs) → Room c fs
  room-front c fs gs r = record { some = r.some; fits = r.fits; few = omega (arith, r.few, total-append fs gs) }

  room-next : (c : ℕ) (fs : List Atom) (g : Atom) (gs : List Atom) → Room c (fs ++ g ∷ gs) → Room c (fs ++ g ∷ [])
  room-next c fs g gs r = record { some = r.some; fits = r.fits; few = omega (arith, r.few, total-append fs (g ∷ gs), total-append fs (g ∷ [])) }

  multiplied-ok : (c : ℕ) (fs : List Atom) (g : Atom) (gs : List Atom) → Factors c (fs ++ g ∷ gs)
      → multiplied (partial c fs) (of_atom g) ≡ Ok (partial c (fs ++ g ∷ []))
  multiplied-ok c fs g gs h =
      (λ j. if holds-partial c fs j && holds-atom g j then Err NotAffine else tested (product_of (partial c fs) (of_atom g)))
      ∙ (λ j. if apart fs g gs h.one j then Err NotAffine else tested (product_of (partial c fs) (of_atom g)))
      ∙ ap tested (product-factor c fs g gs h.room.some h.base h.sorted)
      ∙ partial-ok c (fs ++ g ∷ []) (room-next c fs g gs h.room)

  factor-step : (c : ℕ) (fs : List Atom) (g : Atom) (gs : List Atom) (o : Option Iexp) → SoFar o c fs → (r : BaseReads g) → Factors c (fs ++ g ∷ gs)
      → SoFar (with_factor o r.tree) c (fs ++ g ∷ [])
  factor-step c fs g gs None h r k = r.reads ∙ (λ j. Ok (partial (sym h.0 j) (sym h.1 j ++ g ∷ [])))
  factor-step c fs g gs (Some t) h r k =
      ap (read_tree size_value loop_value) (index_product-is t r.tree) ∙ (λ j. on_both multiplied (h j) (r.reads j)) ∙ multiplied-ok c fs g gs k

  append-none : (xs : List Atom) → xs ≡ xs ++ []
  append-none [] = refl
  append-none (x ∷ xs) = ap (λ r. x ∷ r) (append-none xs)

  factors-read : (c : ℕ) (pre fs : List Atom) (o : Option Iexp) → SoFar o c pre → Each BaseReads fs → Factors c (pre ++ fs)
      → SoFar (joined_atoms loops fs o) c (pre ++ fs)
  factors-read c pre [] o h r k = subst (SoFar o c) (append-none pre) h
  factors-read c pre (f ∷ fs) o h r k =
      let on = append_assoc pre (f ∷ []) fs in
      let one = factor-step c pre f fs o h r.0 k in
      let step = subst (λ p. SoFar p c (pre ++ f ∷ [])) (sym (r.0.joined o)) one in
      subst (SoFar (joined_atoms loops (f ∷ fs) o) c) on (factors-read c (pre ++ f ∷ []) fs (joined_atom loops f o) step r.1 (subst (Factors c) (sym on) k))

  leading-so : (c : ℕ) → coefficient_fits (pos c) ≡ true → SoFar (leading c) c []
  leading-so c f = by (c == 1) refl
    where
      by : (b : Bool) → (c == 1) ≡ b → SoFar (if b then None else Some (index.Lit (pos c))) c []
      by true e = (grind arith, refl)
      by false e = λ j. if f j then Ok (literal_form (pos c)) else Err NumberTooLarge

  or-one : (o : Option Iexp) (c : ℕ) (fs : List Atom) → SoFar o c fs → Reads (or_number (pos 1) o) (partial c fs)
  or-one None c fs h = λ j. Ok (partial (sym h.0 j) (sym h.1 j))
  or-one (Some t) c fs h = h

  joins : (a : Atom) (o : Option Iexp) → joined_atom loops a o ≡ joined_atoms loops (factors_of a) o
  joins a o = by_kind (λ a. joined_atom loops a o ≡ joined_atoms loops (factors_of a) o)
      (λ s. ap (λ fs. joined_atoms loops fs o) (sym (factors-Size s)))
      (λ v. ap (λ fs. joined_atoms loops fs o) (sym (factors-Var v)))
      (λ i k. ap (λ fs. joined_atoms loops fs o) (sym (factors-Div i k)))
      (λ fs. tree-Mul loops fs o ∙ ap (λ gs. joined_atoms loops gs o) (sym (factors-Mul fs))) a

  whole : (a : Atom) (c : ℕ) → Ordered a → partial c (factors_of a) ≡ alone a (pos c)
  whole a c = by_kind (λ a. Ordered a → partial c (factors_of a) ≡ alone a (pos c))
      (λ s o. ap (partial c) (factors-Size s)) (λ v o. ap (partial c) (factors-Var v)) (λ i k o. ap (partial c) (factors-Div i k))
      (λ fs o. ap (partial c) (factors-Mul fs) ∙ two fs (mul_parts fs o).two) a
    where
      two : (fs : List Atom) → 2 ≤ length fs → partial c fs ≡ alone (Mul fs) (pos c)
      two [] h = absurd (omega (arith, h))
      two (f ∷ []) h = absurd (omega (arith, h))
      two (f ∷ g ∷ gs) h = refl

  few-factors : (a : Atom) → total (map atom_count (factors_of a)) ≡ atom_count a
  few-factors = by_kind (λ a. total (map atom_count (factors_of a)) ≡ atom_count a)
      (λ s. ap (λ fs. total (map atom_count fs)) (factors-Size s) ∙ omega arith)
      (λ v. ap (λ fs. total (map atom_count fs)) (factors-Var v) ∙ omega arith)
      (λ i k. ap (λ fs. total (map atom_count fs)) (factors-Div i k) ∙ omega arith)
      (λ fs. ap (λ gs. total (map atom_count gs)) (factors-Mul fs) ∙ sym (count-Mul fs))

  -- an item's tree reads as that item alone, with the size of its coefficient
  item-reads : (a : Atom) (z : ℤ) → Each BaseReads (factors_of a) → Ordered a → atom_count a ≤ 128 → 0 < unsigned_abs z
      → coefficient_fits (pos (unsigned_abs z)) ≡ true
      → Reads (item_tree z (joined_atom loops a)) (alone a (pos (unsigned_abs z)))
  item-reads a z r o few some fits =
      let c = unsigned_abs z in
      let good = good_factors a o in
      let room : Room c (factors_of a) = record { some = some; fits = fits; few = omega (arith, few-factors a, few) } in
      let factors : Factors c (factors_of a) = record { room = room; base = good.base; sorted = good.sorted; one = one_factors a o } in
      let all = factors-read c [] (factors_of a) (leading c) (leading-so c fits) r factors in
      ap (λ p. read_tree size_value loop_value (or_number (pos 1) p)) (joins a (leading c))
      ∙ or-one (joined_atoms loops (factors_of a) (leading c)) c (factors_of a) all
      ∙ ap (λ x. Ok x) (whole a c o)

  -- ---- a form

  -- a sum so far: items, of which nothing is printed where there is none
  abbrev SumSoFar : Option Iexp → List (Item Atom) → Type 0
  SumSoFar None ts = ts ≡ []
  SumSoFar (Some t) ts = Reads t (record { terms = ts; constant = pos 0 })

  abbrev form : List (Item Atom) → ℤ → Items
  form ts k = record { terms = ts; constant = k }

  -- an item whose tree reads as it
  abbrev ItemReads : Item Atom → Type 0
  ItemReads t = Reads (item_tree t.coefficient (joined_atom loops t.atom)) (alone t.atom (pos (unsigned_abs t.coefficient)))

  -- what is known of the items of a form
  record Parts (ts : List (Item Atom)) : Type 0 where
    sorted : Sorted ts
    nonzero : EachItem (λ t. int_eq t.coefficient (pos 0) ≡ false) ts
    fits : Fits ts
    few : terms_count ts ≤ 128

  form-ok : (pre ts : List (Item Atom)) (k : ℤ) → Fits pre → Fits ts → coefficient_fits k ≡ true → terms_count pre + terms_count ts ≤ 128
      → tested (form (pre ++ ts) k) ≡ Ok (form (pre ++ ts) k)
  form-ok pre ts k f g c n = tested-ok (form (pre ++ ts) k) (sums-fit pre ts k f g c) (omega (arith, n, count-append pre ts))

  positive-is : (c : ℤ) → is_positive c ≡ true → pos (unsigned_abs c) ≡ c
  positive-is (pos n) h = refl
  positive-is (negsuc n) h = absurd (cc)

  not-negative : (c : ℤ) → is_positive c ≡ true → is_negative c ≡ false
  not-negative (pos n) h = refl
  not-negative (negsuc n) h = absurd (cc)

  other-is : (c : ℤ) → is_positive c ≡ false → int_eq c (pos 0) ≡ false → (n : ℕ) × (c ≡ negsuc n)
  other-is (pos zero) h g = absurd (cc)
  other-is (pos (suc n)) h g = absurd (let e : is_positive (pos (suc n)) ≡ true = above n in cc)
    where
      above : (n : ℕ) → nat_lt 0 (suc n) ≡ true
      above n = grind arith
  other-is (negsuc n) h g = (n, refl)

  fits-front : (pre ts : List (Item Atom)) → Fits (pre ++ ts) → Fits pre × Fits ts
  fits-front [] ts h = (tt, h)
  fits-front (p ∷ pre) ts h = let r = fits-front pre ts h.1 in ((h.0, r.0), r.1)

  part-at : (P : Item Atom → Type 0) (pre : List (Item Atom)) (t : Item Atom) (ts : List (Item Atom)) → EachItem P (pre ++ t ∷ ts) → P t
  part-at P [] t ts h = h.0
  part-at P (p ∷ pre) t ts h = part-at P pre t ts h.1

  summand-step : (pre : List (Item Atom)) (t : Item Atom) (ts : List (Item Atom)) (o : Option Iexp) → SumSoFar o pre → ItemReads t → Parts (pre ++ t ∷ ts)
      → is_positive t.coefficient ≡ true
      → SumSoFar (with_summand o (item_tree t.coefficient (joined_atom loops t.atom))) (pre ++ t ∷ [])
  summand-step pre t ts None h r k e = r ∙ (λ j. Ok (form (sym h j ++ record { atom = t.atom; coefficient = positive-is t.coefficient e j } ∷ []) (pos 0)))
  summand-step pre t ts (Some a) h r k e =
      let fits = fits-front pre (t ∷ ts) k.fits in
      let x = item_tree t.coefficient (joined_atom loops t.atom) in
      ap (read_tree size_value loop_value) (index_sum-is a x)
      ∙ (λ j. on_both (λ x y. tested (sum_of x y)) (h j) (r j))
      ∙ (λ j. tested (sum_of (form (sym (append-nil pre) j) (pos 0)) (alone t.atom (positive-is t.coefficient e j))))
      ∙ ap tested (sum-item pre t [] (pos 0) (before_last pre t ts k.sorted) tt)
      ∙ form-ok pre (t ∷ []) (pos 0) fits.0 (fits.1.0, tt) refl (omega (arith, k.few, count-append pre (t ∷ ts)))

  each-without : (P : Item Atom → Type 0) (pre : List (Item Atom)) (t : Item Atom) (ts : List (Item Atom)) → EachItem P (pre ++ t ∷ ts) → EachItem P (pre ++ ts)
  each-without P [] t ts h = h.1
  each-without P (p ∷ pre) t ts h = (h.0, each-without P pre t ts h.1)

  sorted-without : (pre : List (Item Atom)) (t : Item Atom) (ts : List (Item Atom)) → Sorted (pre ++ t ∷ ts) → Sorted (pre ++ ts)
  sorted-without [] t ts h = h.1
  sorted-without (p ∷ pre) t ts h = (each-without (Before p.atom) pre t ts h.0, sorted-without pre t ts h.1)

  -- the items without one
  without : (pre : List (Item Atom)) (t : Item Atom) (ts : List (Item Atom)) → Parts (pre ++ t ∷ ts) → Parts (pre ++ ts)
  without pre t ts k = record {
    sorted = sorted-without pre t ts k.sorted;
    nonzero = each-without _ pre t ts k.nonzero;
    fits = each-without _ pre t ts k.fits;
    few = omega (arith, k.few, count-append pre (t ∷ ts), count-append pre ts);
  }

  plus-read : (pre ts : List (Item Atom)) (o : Option Iexp) → SumSoFar o pre → EachItem ItemReads ts → Parts (pre ++ ts)
      → SumSoFar (plus_terms loops ts o) (pre ++ positives ts)
  plus-read pre [] o h r k = subst (SumSoFar o) (sym (append-nil pre)) h
  plus-read pre (t ∷ ts) o h r k =
      let on = append_assoc pre (t ∷ []) ts in
      let x = item_tree t.coefficient (joined_atom loops t.atom) in
      let added : is_positive t.coefficient ≡ true → SumSoFar (plus_terms loops ts (with_summand o x)) (pre ++ t ∷ positives ts) =
      λ e. subst (SumSoFar (plus_terms loops ts (with_summand o x))) (append_assoc pre (t ∷ []) (positives ts))
      (plus-read (pre ++ t ∷ []) ts (with_summand o x) (summand-step pre t ts o h r.0 k e) r.1 (subst Parts (sym on) k)) in
      by (is_positive t.coefficient) refl added (plus-read pre ts o h r.1 (without pre t ts k))
    where
      by : (b : Bool) → is_positive t.coefficient ≡ b
          → (is_positive t.coefficient ≡ true → SumSoFar (plus_terms loops ts (with_summand o (item_tree t.coefficient (joined_atom loops t.atom))))
          (pre ++ t ∷ positives ts))
          → SumSoFar (plus_terms loops ts o) (pre ++ positives ts)
          → SumSoFar (plus_terms loops ts (if b then with_summand o (item_tree t.coefficient (joined_atom loops t.atom)) else o))
          (pre ++ kept b t (positives ts))
      by true e there away = there e
      by false e there away = away

  negative-is : (c : ℤ) (n : ℕ) → c ≡ negsuc n → is_negative c ≡ true
  negative-is c n e = ap is_negative e

  taken-step : (pre : List (Item Atom)) (t : Item Atom) (ts : List (Item Atom)) (k : ℤ) (x : Iexp) → coefficient_fits k ≡ true
      → Reads x (form (pre ++ positives ts) k) → ItemReads t → Parts (pre ++ t ∷ ts) → is_positive t.coefficient ≡ false
      → Reads (index.Sub x (item_tree t.coefficient (joined_atom loops t.atom))) (form (pre ++ t ∷ positives ts) k)
  taken-step pre t ts k x f h r p e =
      let n = other-is t.coefficient e (part-at _ pre t ts p.nonzero) in
      let fits = fits-front pre (t ∷ ts) p.fits in
      let y = item_tree t.coefficient (joined_atom loops t.atom) in
      ap (read_tree size_value loop_value) (index_difference-is x y)
      ∙ (λ j. on_both (λ x y. tested (difference_of x y)) (h j) (r j))
      ∙ ap tested (difference-item pre t n.0 (positives ts) k n.1 (before_last pre t ts p.sorted)
      (positives-each (Before t.atom) ts (after_last pre t ts p.sorted)))
      ∙ form-ok pre (t ∷ positives ts) k fits.0 (fits.1.0, positives-each _ ts fits.1.1) f (omega (arith, p.few, count-append pre (t ∷ ts), positives-count ts))

  minus-read : (pre ts : List (Item Atom)) (k : ℤ) (x : Iexp) → coefficient_fits k ≡ true → Reads x (form (pre ++ positives ts) k) → EachItem ItemReads ts
      → Parts (pre ++ ts) → Reads (minus_terms loops ts x) (form (pre ++ ts) k)
  minus-read pre [] k x f h r p = h
  minus-read pre (t ∷ ts) k x f h r p =
      let on = append_assoc pre (t ∷ []) ts in
      let y = item_tree t.coefficient (joined_atom loops t.atom) in
      let next : (z : Iexp) → Reads z (form (pre ++ t ∷ positives ts) k) → Reads (minus_terms loops ts z) (form (pre ++ t ∷ ts) k) =
      λ z g. subst (λ us. Reads (minus_terms loops ts z) (form us k)) on
      (minus-read (pre ++ t ∷ []) ts k z f (subst (λ us. Reads z (form us k)) (sym (append_assoc pre (t ∷ []) (positives ts))) g) r.1 (subst Parts (sym on) p))
      in
      by (is_positive t.coefficient) refl next h
    where
      y : Iexp
      y = item_tree t.coefficient (joined_atom loops t.atom)

      by : (b : Bool) → is_positive t.coefficient ≡ b → ((z : Iexp) → Reads z (form (pre ++ t ∷ positives ts) k)
          → Reads (minus_terms loops ts z) (form (pre ++ t ∷ ts) k))
          → Reads x (form (pre ++ kept b t (positives ts)) k)
          → Reads (minus_terms loops ts (if is_negative t.coefficient then index.Sub x (item_tree t.coefficient (joined_atom loops t.atom)) else x))
          (form (pre ++ t ∷ ts) k)
      by true e next g = subst (λ b. Reads (minus_terms loops ts (if b then index.Sub x (item_tree t.coefficient (joined_atom loops t.atom)) else x))
          (form (pre ++ t ∷ ts) k)) (sym (not-negative t.coefficient e)) (next x g)
      by false e next g =
          let n = other-is t.coefficient e (part-at _ pre t ts p.nonzero) in
          subst (λ b. Reads (minus_terms loops ts (if b then index.Sub x (item_tree t.coefficient (joined_atom loops t.atom)) else x)) (form (pre ++ t ∷ ts) k))
          (sym (negative-is t.coefficient n.0 n.1))
          (next (index.Sub x (item_tree t.coefficient (joined_atom loops t.atom))) (taken-step pre t ts k x f g r.0 p e))

  -- ---- the constant

  literal-reads : (n : ℕ) → coefficient_fits (pos n) ≡ true → Reads (index.Lit (pos n)) (literal_form (pos n))
  literal-reads n f = λ j. if f j then Ok (literal_form (pos n)) else Err NumberTooLarge

  size-fits : (c : ℤ) → coefficient_fits c ≡ true → coefficient_fits (pos (unsigned_abs c)) ≡ true
  size-fits c h = h

  -- the constant where it is positive, else 0
  abbrev added : ℤ → ℤ
  added (pos n) = pos n
  added (negsuc n) = pos 0

  added-fits : (c : ℤ) → coefficient_fits c ≡ true → coefficient_fits (added c) ≡ true
  added-fits (pos n) h = h
  added-fits (negsuc n) h = refl

  none-read : (o : Option Iexp) (ts : List (Item Atom)) → SumSoFar o ts → Reads (or_number (pos 0) o) (form ts (pos 0))
  none-read None ts h = λ j. Ok (form (sym h j) (pos 0))
  none-read (Some t) ts h = h

  constant-step : (n : ℕ) (o : Option Iexp) (ts : List (Item Atom)) → coefficient_fits (pos n) ≡ true → SumSoFar o ts → Parts ts
      → Reads (or_number (pos 0) (with_summand o (index.Lit (pos n)))) (form ts (pos n))
  constant-step n None ts f h p = literal-reads n f ∙ (λ j. Ok (form (sym h j) (pos n)))
  constant-step n (Some t) ts f h p =
      ap (read_tree size_value loop_value) (index_sum-is t (index.Lit (pos n)))
      ∙ (λ j. on_both (λ x y. tested (sum_of x y)) (h j) (literal-reads n f j))
      ∙ ap tested (sum-constant ts (pos n))
      ∙ tested-ok (form ts (pos n)) (and_from (terms_fit ts) (coefficient_fits (pos n)) (each-fits ts p.fits) f) p.few

  constant-read : (c : ℤ) (o : Option Iexp) (ts : List (Item Atom)) → coefficient_fits c ≡ true → SumSoFar o ts → Parts ts
      → Reads (or_number (pos 0) (plus_constant c o)) (form ts (added c))
  constant-read (pos n) o ts f h p = by (nat_lt 0 n) refl
    where
      zero-is : nat_lt 0 n ≡ false → pos 0 ≡ pos n
      zero-is e = ap pos (zero_nat n e)
        where
          zero_nat : (n : ℕ) → nat_lt 0 n ≡ false → 0 ≡ n
          zero_nat n e = grind arith

      by : (b : Bool) → nat_lt 0 n ≡ b → Reads (or_number (pos 0) (if b then with_summand o (index.Lit (pos n)) else o)) (form ts (pos n))
      by true e = constant-step n o ts f h p
      by false e = none-read o ts h ∙ (λ j. Ok (form ts (zero-is e j)))
  constant-read (negsuc n) o ts f h p = none-read o ts h

  taken-read : (c : ℤ) (ts : List (Item Atom)) (x : Iexp) → coefficient_fits c ≡ true → Reads x (form ts (added c)) → Parts ts
      → Reads (minus_constant c x) (form ts c)
  taken-read (pos n) ts x f h p = h
  taken-read (negsuc n) ts x f h p =
      let y = index.Lit (pos (suc n)) in
      ap (read_tree size_value loop_value) (index_difference-is x y)
      ∙ (λ j. on_both (λ x y. tested (difference_of x y)) (h j) (literal-reads (suc n) f j))
      ∙ ap tested (difference-constant ts (negsuc n) n refl)
      ∙ tested-ok (form ts (negsuc n)) (and_from (terms_fit ts) (coefficient_fits (negsuc n)) (each-fits ts p.fits) f) p.few

  form-reads : (ts : List (Item Atom)) (c : ℤ) → coefficient_fits c ≡ true → Parts ts → EachItem ItemReads ts → Reads (index_tree loops (form ts c)) (form ts c)
  form-reads ts c f p r =
      let ps : Parts (positives ts) = record {
        sorted = sorted_positives ts p.sorted;
        nonzero = positives-each _ ts p.nonzero;
        fits = positives-each _ ts
            p.fits;
        few = omega (arith, p.few, positives-count ts);
      } in
      let first = plus-read [] ts None refl r p in
      let second = constant-read c (plus_terms loops ts None) (positives ts) f first ps in
      let third = minus-read [] ts (added c) (or_number (pos 0) (plus_constant c (plus_terms loops ts None))) (added-fits c f) second r p in
      ap (read_tree size_value loop_value) (tree-items loops (form ts c))
      ∙ taken-read c ts (minus_terms loops ts (or_number (pos 0) (plus_constant c (plus_terms loops ts None)))) f third p
    where
      kept-sorted : (b : Bool) (t : Item Atom) (ts : List (Item Atom)) → EachItem (Before t.atom) ts → Sorted ts → Sorted (kept b t ts)
      kept-sorted true t ts h s = (h, s)
      kept-sorted false t ts h s = s

      sorted_positives : (ts : List (Item Atom)) → Sorted ts → Sorted (positives ts)
      sorted_positives [] s = tt
      sorted_positives (t ∷ ts) s = kept-sorted (is_positive t.coefficient) t (positives ts) (positives-each (Before t.atom) ts s.0) (sorted_positives ts s.1)

  -- ---- induction over atoms and forms
  module _ (sizes : ℕ) (size_is : (s : ℕ) → s < sizes → size_value s ≡ Ok (of_atom (Size s)))
      (loop_is : (v : ℕ) → v < loops → loop_value (loops - 1 - v) ≡ Ok (of_atom (Var v))) where
    abbrev AtomReads : Atom → Type 0
    AtomReads a = Ordered a → atom_scoped sizes loops a ≡ true → atom_count a ≤ 128 → Each BaseReads (factors_of a)

    abbrev FormReads : Items → Type 0
    FormReads i = is_normal i ≡ true → items_scoped sizes loops i ≡ true → Reads (index_tree loops i) i

    scope : (v n : ℕ) → nat_lt v n ≡ true → v < n
    scope v n h = grind arith

    size_reads : (s : ℕ) → AtomReads (Size s)
    size_reads s o g n = subst (Each BaseReads) (sym (factors-Size s))
        (record { tree = index.Size s; joined = tree-Size loops s; reads = size_is s (scope s sizes (sym (scoped-Size sizes loops s) ∙ g)) }, tt)

    var_reads : (v : ℕ) → AtomReads (Var v)
    var_reads v o g n =
        subst (Each BaseReads) (sym (factors-Var v)) (
          record {
            tree = index.Loop (loops - 1 - v);
            joined = tree-Var loops v;
            reads = loop_is v
                (scope v loops (sym (scoped-Var sizes loops v) ∙ g));
          },
          tt,
        )

    div_reads : (i : Items) (k : ℕ) → FormReads i → AtomReads (Div i k)
    div_reads i k h o g n =
        let parts = ordered-Div i k o in
        let bounds = divisor_bounds i k parts.0 in
        let inner = h (dividend-normal i k o n) (sym (scoped-Div sizes loops i k) ∙ g) in
        let reads : Reads (index.Div (index_tree loops i) k) (of_atom (Div i k)) =
        ap (read_tree size_value loop_value) (index_quotient-is (index_tree loops i) k)
        ∙ ap (on_one (λ x. if_divisor k (tested (quotient_of x k)))) inner
        ∙ (λ j. if divisor_is k bounds.0 bounds.1 j then tested (quotient_of i k) else Err BadSyntax)
        ∙ ap tested (quotient-same i k parts.0 parts.1)
        ∙ tested-ok (of_atom (Div i k)) refl (omega (arith, n)) in
        subst (Each BaseReads) (sym (factors-Div i k)) (record { tree = index.Div (index_tree loops i) k; joined = tree-Div loops i k; reads = reads }, tt)
      where
        divisor_is : (k : ℕ) → 0 < k → k ≤ 2147483647 → (nat_le 1 k && nat_le k 2147483647) ≡ true
        divisor_is k p q = and_from (nat_le 1 k) (nat_le k 2147483647) (one k p) (high k q)
          where
            one : (k : ℕ) → 0 < k → nat_le 1 k ≡ true
            one k p = grind arith

            high : (k : ℕ) → k ≤ 2147483647 → nat_le k 2147483647 ≡ true
            high k q = grind arith

    all_read : (fs : List Atom) → Each AtomReads fs → Each Base fs → Each Ordered fs → all_true (map (atom_scoped sizes loops) fs) ≡ true
        → total (map atom_count fs) ≤ 128 → Each BaseReads fs
    all_read [] h b o g n = tt
    all_read (f ∷ fs) h b o g n =
        let gs = and_parts (atom_scoped sizes loops f) (all_true (map (atom_scoped sizes loops) fs)) g in
        let own = h.0 o.0 gs.0 (omega (arith, n)) in
        ((subst (Each BaseReads) (base_factors f b.0) own).0, all_read fs h.1 b.1 o.1 gs.1 (omega (arith, n)))

    mul_reads : (fs : List Atom) → Each AtomReads fs → AtomReads (Mul fs)
    mul_reads fs h o g n =
        let good = (mul_parts fs o).good in
        subst (Each BaseReads) (sym (factors-Mul fs)) (all_read fs h good.base good.ordered (sym (scoped-Mul sizes loops fs) ∙ g)
        (omega (arith, n, count-Mul fs)))

    each_reads : (ts : List (Item Atom)) → EachTerm AtomReads ts → EachItem GoodItem ts → Fits ts → all_firsts (map (scoped_term sizes loops) ts) ≡ true
        → terms_count ts ≤ 128 → EachItem ItemReads ts
    each_reads [] h g f s n = tt
    each_reads (t ∷ ts) h g f s n =
        let ss = and_parts (atom_scoped sizes loops t.atom) (all_firsts (map (scoped_term sizes loops) ts)) s in
        let few : atom_count t.atom ≤ 128 = omega (arith, n) in (
          item-reads t.atom t.coefficient (h.0 g.0.0 ss.0 few) g.0.0 few (some t.coefficient g.0.1) (size-fits t.coefficient f.0),
          each_reads ts h.1 g.1 f.1 ss.1
              (omega (arith, n)),
        )
      where
        some : (c : ℤ) → int_eq c (pos 0) ≡ false → 0 < unsigned_abs c
        some c e = grind arith

    only_nonzero : (ts : List (Item Atom)) → EachItem GoodItem ts → EachItem (λ t. int_eq t.coefficient (pos 0) ≡ false) ts
    only_nonzero [] g = tt
    only_nonzero (t ∷ ts) g = (g.0.1, only_nonzero ts g.1)

    form_case : (ts : List (Item Atom)) (c : ℤ) → EachTerm AtomReads ts → FormReads (form ts c)
    form_case ts c h n s =
        let known = form-terms (form ts c) n in
        let terms = ordered-terms (form ts c) (and_parts (is_ordered (form ts c)) _ n).0 in
        let fits = fits-each ts known.1 in
        form-reads ts c known.2 (record { sorted = terms.0; nonzero = only_nonzero ts terms.1; fits = fits; few = known.3 })
        (each_reads ts h terms.1 fits (sym (scoped-items sizes loops (form ts c)) ∙ s) known.3)

    -- the tree that a normal form prints as reads as that form
    pub tree-reads : (i : Items) → is_normal i ≡ true → items_scoped sizes loops i ≡ true → read_tree size_value loop_value (index_tree loops i) ≡ Ok i
    tree-reads = for_items AtomReads FormReads size_reads var_reads div_reads mul_reads form_case
