-- Products of atoms: lists of factors in order, at most one of which holds an index variable.
use Rattle.std.proofs.Common.{◌≡◌, ℕ, suc, ◌+◌, ◌≤◌, ◌⊎◌, inl, inr, List, [], ◌∷◌, length, refl, ap, sym, ◌∙◌, subst, arith, Bool, true, false, ◌||◌, nat_le}
use Rattle.std.proofs.Common.{not}
use Rattle.std.specs.Ordering.{is_le, ordering_reverse}
use Rattle.std.specs.declared.cmp.Ordering.{Ordering}
use Rattle.std.specs.declared.cmp.Ordering.TheVariants.{Less, Equal, Greater}
use Rattle.std.proofs.lemmas.Bool.{and_from, and_parts}
use Rattle.affine_index.specs.Every.{atoms_every}
use Rattle.affine_index.specs.Normal.{all_base, atom_good, atom_holds_var, atom_is_ordered, base_layer, factor_before, factors_in_order, items_good, no_vars}
use Rattle.affine_index.specs.Normal.{one_var}
use Rattle.affine_index.specs.Order.{atom_order}
use Rattle.affine_index.specs.Product.{atom_product, factor_onto, factor_onto_by, factors_of, layer_factors, merged_factors}
use Rattle.affine_index.proofs.EqualLaws.{atom_order-Equal}
use Rattle.affine_index.proofs.EveryLaws.{every-Mul}
use Rattle.affine_index.proofs.Induction.{Each}
use Rattle.affine_index.proofs.ReadyLaws.{good-Mul, ordered-Mul, out-Size, out-Var, out-Div, out-Mul}
use Rattle.affine_index.proofs.TotalOrder.{by_kind, order-reverse, order-trans}
use Rattle.affine_index.proofs.VarLaws.{vars-Mul}
use Rattle.affine_index.specs.Normal.{any_holds}
use Rattle.affine_index.specs.declared.form.Atom.{Atom, out-Atom}
use Rattle.affine_index.specs.declared.form.Atom.TheVariants.{Size, Var, Div, Mul}
use Rattle.affine_index.specs.declared.form.Items.{Items}

-- a fact of each factor of two lists is one of those of both
module _ (P : Atom → Type 0) where
  pub factor_onto-each : (a : Atom) (as' bs : List Atom) → P a → Each P bs → ((cs : List Atom) → Each P cs → Each P (merged_factors as' cs))
      → Each P (factor_onto a (merged_factors as') bs)
  factor_onto-each a as' [] pa pb h = (pa, h [] tt)
  factor_onto-each a as' (b ∷ bs) pa pb h = by_order (atom_order a b) (factor_onto-each a as' bs pa pb.1 h)
    where
      by_order : (o : Ordering) → Each P (factor_onto a (merged_factors as') bs)
          → Each P (factor_onto_by o a (merged_factors as') b bs (factor_onto a (merged_factors as') bs))
      by_order Less later = (pa, h (b ∷ bs) pb)
      by_order Equal later = (pa, h (b ∷ bs) pb)
      by_order Greater later = (pb.0, later)

  pub factors-each : (as' bs : List Atom) → Each P as' → Each P bs → Each P (merged_factors as' bs)
  factors-each [] bs pa pb = pb
  factors-each (a ∷ as') bs pa pb = factor_onto-each a as' bs pa.0 pb (λ cs pc. factors-each as' cs pa.1 pc)

-- not after
abbrev pub AtMost : Atom → Atom → Type 0
AtMost a b = is_le (atom_order a b) ≡ true

at_most-trans : (a b c : Atom) → AtMost a b → AtMost b c → AtMost a c
at_most-trans a b c p q = by (atom_order a b) (atom_order b c) refl refl p q
  where
    by : (o u : Ordering) → atom_order a b ≡ o → atom_order b c ≡ u → is_le o ≡ true → is_le u ≡ true → AtMost a c
    by Less Less e f p q = ap is_le (order-trans a b c e f)
    by Less Equal e f p q = ap is_le (subst (λ (x : Atom). atom_order a x ≡ Less) (atom_order-Equal b c f) e)
    by Equal u e f p q = subst (λ (x : Atom). AtMost x c) (sym (atom_order-Equal a b e)) (ap is_le f ∙ q)
    by Less Greater e f p q = absurd (cc)
    by Greater u e f p q = absurd (cc)

-- no factor after a later one
abbrev pub SortedFactors : List Atom → Type 0
SortedFactors [] = Unit {0}
SortedFactors (f ∷ fs) = Each (AtMost f) fs × SortedFactors fs

each_weaken : (P Q : Atom → Type 0) → ((a : Atom) → P a → Q a) → (fs : List Atom) → Each P fs → Each Q fs
each_weaken P Q g [] h = tt
each_weaken P Q g (f ∷ fs) h = (g f h.0, each_weaken P Q g fs h.1)

after_all : (x y : Atom) (fs : List Atom) → AtMost x y → Each (AtMost y) fs → Each (AtMost x) fs
after_all x y fs e = each_weaken (AtMost y) (AtMost x) (λ a h. at_most-trans x y a e h) fs

turned : (a b : Atom) → atom_order a b ≡ Greater → AtMost b a
turned a b e = ap is_le (order-reverse b a ∙ ap ordering_reverse e)

factor_onto-sorted : (a : Atom) (as' bs : List Atom) → Each (AtMost a) as' → SortedFactors bs
    → ((cs : List Atom) → SortedFactors cs → SortedFactors (merged_factors as' cs)) → SortedFactors (factor_onto a (merged_factors as') bs)
factor_onto-sorted a as' [] sa sb h = (factors-each (AtMost a) as' [] sa tt, h [] tt)
factor_onto-sorted a as' (b ∷ bs) sa sb h = by_order (atom_order a b) refl (factor_onto-sorted a as' bs sa sb.1 h)
  where
    a_first : AtMost a b → Each (AtMost a) (merged_factors as' (b ∷ bs))
    a_first e = factors-each (AtMost a) as' (b ∷ bs) sa (e, after_all a b bs e sb.0)

    by_order : (o : Ordering) → atom_order a b ≡ o → SortedFactors (factor_onto a (merged_factors as') bs)
        → SortedFactors (factor_onto_by o a (merged_factors as') b bs (factor_onto a (merged_factors as') bs))
    by_order Less e later = (a_first (ap is_le e), h (b ∷ bs) sb)
    by_order Equal e later = (a_first (ap is_le e), h (b ∷ bs) sb)
    by_order Greater e later =
        let f : AtMost b a = turned a b e in
        (factor_onto-each (AtMost b) a as' bs f sb.0 (λ cs hc. factors-each (AtMost b) as' cs (after_all b a as' f sa) hc), later)

factors-sorted : (as' bs : List Atom) → SortedFactors as' → SortedFactors bs → SortedFactors (merged_factors as' bs)
factors-sorted [] bs sa sb = sb
factors-sorted (a ∷ as') bs sa sb = factor_onto-sorted a as' bs sa.0 sb (λ cs hc. factors-sorted as' cs sa.1 hc)

before_all : (x : Atom) (fs : List Atom) → factor_before x fs ≡ true → SortedFactors fs → Each (AtMost x) fs
before_all x [] h s = tt
before_all x (f ∷ fs) h s = (h, after_all x f fs h s.0)

pub in_order-factors : (fs : List Atom) → factors_in_order fs ≡ true → SortedFactors fs
in_order-factors [] h = tt
in_order-factors (f ∷ fs) h =
    let parts = and_parts (factor_before f fs) (factors_in_order fs) h in
    let rest = in_order-factors fs parts.1 in
    (before_all f fs parts.0 rest, rest)

first_is : (x : Atom) (fs : List Atom) → Each (AtMost x) fs → factor_before x fs ≡ true
first_is x [] h = refl
first_is x (f ∷ fs) h = h.0

factors-in_order : (fs : List Atom) → SortedFactors fs → factors_in_order fs ≡ true
factors-in_order [] s = refl
factors-in_order (f ∷ fs) s = and_from (factor_before f fs) (factors_in_order fs) (first_is f fs s.0) (factors-in_order fs s.1)

length_onto : (a : Atom) (as' bs : List Atom) → ((cs : List Atom) → length (merged_factors as' cs) ≡ length as' + length cs)
    → length (factor_onto a (merged_factors as') bs) ≡ suc (length as' + length bs)
length_onto a as' [] h = ap suc (h [])
length_onto a as' (b ∷ bs) h = by_order (atom_order a b) (length_onto a as' bs h)
  where
    by_order : (o : Ordering) → length (factor_onto a (merged_factors as') bs) ≡ suc (length as' + length bs)
        → length (factor_onto_by o a (merged_factors as') b bs (factor_onto a (merged_factors as') bs)) ≡ suc (length as' + length (b ∷ bs))
    by_order Less later = ap suc (h (b ∷ bs))
    by_order Equal later = ap suc (h (b ∷ bs))
    by_order Greater later = omega (arith, later)

pub factors-length : (as' bs : List Atom) → length (merged_factors as' bs) ≡ length as' + length bs
factors-length [] bs = omega arith
factors-length (a ∷ as') bs = length_onto a as' bs (factors-length as') ∙ omega arith

-- holds no index variable
abbrev pub NoVar : Atom → Type 0
NoVar a = atom_holds_var a ≡ false

-- at most one holds an index variable
abbrev pub OneVar : List Atom → Type 0
OneVar [] = Unit {0}
OneVar (f ∷ fs) = (NoVar f ⊎ Each NoVar fs) × OneVar fs

one_onto-left : (a : Atom) (as' bs : List Atom) → NoVar a → Each NoVar as' → OneVar bs → ((cs : List Atom) → OneVar cs → OneVar (merged_factors as' cs))
    → OneVar (factor_onto a (merged_factors as') bs)
one_onto-left a as' [] na ns ob h = (inl na, h [] tt)
one_onto-left a as' (b ∷ bs) na ns ob h = by_order (atom_order a b) (one_onto-left a as' bs na ns ob.1 h)
  where
    b_first : (NoVar b ⊎ Each NoVar bs) → NoVar b ⊎ Each NoVar (factor_onto a (merged_factors as') bs)
    b_first (inl n) = inl n
    b_first (inr n) = inr (factor_onto-each NoVar a as' bs na n (λ cs hc. factors-each NoVar as' cs ns hc))

    by_order : (o : Ordering) → OneVar (factor_onto a (merged_factors as') bs)
        → OneVar (factor_onto_by o a (merged_factors as') b bs (factor_onto a (merged_factors as') bs))
    by_order Less later = (inl na, h (b ∷ bs) ob)
    by_order Equal later = (inl na, h (b ∷ bs) ob)
    by_order Greater later = (b_first ob.0, later)

one-left : (as' bs : List Atom) → Each NoVar as' → OneVar bs → OneVar (merged_factors as' bs)
one-left [] bs na ob = ob
one-left (a ∷ as') bs na ob = one_onto-left a as' bs na.0 na.1 ob (λ cs hc. one-left as' cs na.1 hc)

one_onto-right : (a : Atom) (as' bs : List Atom) → (NoVar a ⊎ Each NoVar as') → Each NoVar bs
    → ((cs : List Atom) → Each NoVar cs → OneVar (merged_factors as' cs)) → OneVar (factor_onto a (merged_factors as') bs)
one_onto-right a as' bs oa nb h = by_list bs nb
  where
    a_first : (cs : List Atom) → (NoVar a ⊎ Each NoVar as') → Each NoVar cs → NoVar a ⊎ Each NoVar (merged_factors as' cs)
    a_first cs (inl n) nc = inl n
    a_first cs (inr n) nc = inr (factors-each NoVar as' cs n nc)

    by_list : (cs : List Atom) → Each NoVar cs → OneVar (factor_onto a (merged_factors as') cs)
    by_list [] nc = (a_first [] oa tt, h [] tt)
    by_list (c ∷ cs) nc = by_order (atom_order a c) (by_list cs nc.1)
      where
        by_order : (o : Ordering) → OneVar (factor_onto a (merged_factors as') cs)
            → OneVar (factor_onto_by o a (merged_factors as') c cs (factor_onto a (merged_factors as') cs))
        by_order Less later = (a_first (c ∷ cs) oa nc, h (c ∷ cs) nc)
        by_order Equal later = (a_first (c ∷ cs) oa nc, h (c ∷ cs) nc)
        by_order Greater later = (inl nc.0, later)

one-right : (as' bs : List Atom) → OneVar as' → Each NoVar bs → OneVar (merged_factors as' bs)
one-right [] bs oa nb = none_one bs nb
  where
    none_one : (cs : List Atom) → Each NoVar cs → OneVar cs
    none_one [] n = tt
    none_one (c ∷ cs) n = (inl n.0, none_one cs n.1)
one-right (a ∷ as') bs oa nb = one_onto-right a as' bs oa.0 nb (λ cs hc. one-right as' cs oa.1 hc)

no_vars-each : (fs : List Atom) → no_vars fs ≡ true → Each NoVar fs
no_vars-each [] h = tt
no_vars-each (f ∷ fs) h = let parts = and_parts (not (atom_holds_var f)) (no_vars fs) h in (from_not (atom_holds_var f) parts.0, no_vars-each fs parts.1)
  where
    from_not : (b : Bool) → not b ≡ true → b ≡ false
    from_not true e = absurd (cc)
    from_not false e = refl

each-no_vars : (fs : List Atom) → Each NoVar fs → no_vars fs ≡ true
each-no_vars [] h = refl
each-no_vars (f ∷ fs) h = and_from (not (atom_holds_var f)) (no_vars fs) (ap not h.0) (each-no_vars fs h.1)

pub one_var-is : (fs : List Atom) → one_var fs ≡ true → OneVar fs
one_var-is [] h = tt
one_var-is (f ∷ fs) h =
    let parts = and_parts (no_vars fs || not (atom_holds_var f)) (one_var fs) h in
    (by (no_vars fs) (atom_holds_var f) refl refl parts.0, one_var-is fs parts.1)
  where
    by : (m n : Bool) → no_vars fs ≡ m → atom_holds_var f ≡ n → (m || not n) ≡ true → NoVar f ⊎ Each NoVar fs
    by true n e g h = inr (no_vars-each fs e)
    by false true e g h = absurd (cc)
    by false false e g h = inl g

one_var-from : (fs : List Atom) → OneVar fs → one_var fs ≡ true
one_var-from [] h = refl
one_var-from (f ∷ fs) h = and_from (no_vars fs || not (atom_holds_var f)) (one_var fs) (by h.0 (no_vars fs) (atom_holds_var f) refl refl) (one_var-from fs h.1)
  where
    by : (NoVar f ⊎ Each NoVar fs) → (m n : Bool) → no_vars fs ≡ m → atom_holds_var f ≡ n → (m || not n) ≡ true
    by s true n e g = refl
    by s false false e g = refl
    by (inl x) false true e g = absurd (cc)
    by (inr x) false true e g = let y = each-no_vars fs x in absurd (cc)

-- is a size, a variable or a quotient
abbrev pub Base : Atom → Type 0
Base a = base_layer (out-Atom a) ≡ true

base-each : (fs : List Atom) → all_base fs ≡ true → Each Base fs
base-each [] h = tt
base-each (f ∷ fs) h = let parts = and_parts (base_layer (out-Atom f)) (all_base fs) h in (parts.0, base-each fs parts.1)

each-base : (fs : List Atom) → Each Base fs → all_base fs ≡ true
each-base [] h = refl
each-base (f ∷ fs) h = and_from (base_layer (out-Atom f)) (all_base fs) h.0 (each-base fs h.1)

-- an atom of a normal form
abbrev pub Ordered : Atom → Type 0
Ordered a = atom_is_ordered a ≡ true

pub every-each : (fs : List Atom) → atoms_every atom_good items_good fs ≡ true → Each Ordered fs
every-each [] h = tt
every-each (f ∷ fs) h = let parts = and_parts (atom_is_ordered f) (atoms_every atom_good items_good fs) h in (parts.0, every-each fs parts.1)

each-every : (fs : List Atom) → Each Ordered fs → atoms_every atom_good items_good fs ≡ true
each-every [] h = refl
each-every (f ∷ fs) h = and_from (atom_is_ordered f) (atoms_every atom_good items_good fs) h.0 (each-every fs h.1)

-- factors in order, each a base atom of a normal form
pub record GoodFactors (fs : List Atom) : Type 0 where
  pub some : 1 ≤ length fs
  pub base : Each Base fs
  pub sorted : SortedFactors fs
  pub ordered : Each Ordered fs

pub factors-Size : (s : ℕ) → factors_of (Size s) ≡ Size s ∷ []
factors-Size s = ap (layer_factors (Size s)) (out-Size s)

pub factors-Var : (v : ℕ) → factors_of (Var v) ≡ Var v ∷ []
factors-Var v = ap (layer_factors (Var v)) (out-Var v)

pub factors-Div : (i : Items) (k : ℕ) → factors_of (Div i k) ≡ Div i k ∷ []
factors-Div i k = ap (layer_factors (Div i k)) (out-Div i k)

pub factors-Mul : (fs : List Atom) → factors_of (Mul fs) ≡ fs
factors-Mul fs = ap (layer_factors (Mul fs)) (out-Mul fs)

-- the factors of a base atom
pub base_factors : (a : Atom) → Base a → factors_of a ≡ a ∷ []
base_factors = by_kind (λ a. Base a → factors_of a ≡ a ∷ []) (λ s b. factors-Size s) (λ v b. factors-Var v) (λ i k b. factors-Div i k)
    (λ fs b. absurd (let e = ap base_layer (out-Mul fs) in cc))

one_good : (a : Atom) (fs : List Atom) → fs ≡ a ∷ [] → Base a → Ordered a → GoodFactors fs
one_good a fs e b o = subst GoodFactors (sym e) (record { some = omega arith; base = (b, tt); sorted = (tt, tt); ordered = (o, tt) })

pub record MulParts (fs : List Atom) : Type 0 where
  pub two : 2 ≤ length fs
  pub good : GoodFactors fs
  pub one : OneVar fs

two_is : (n : ℕ) → nat_le 2 n ≡ true → 2 ≤ n
two_is n h = grind arith

pub mul_parts : (fs : List Atom) → Ordered (Mul fs) → MulParts fs
mul_parts fs o =
    let parts = ordered-Mul fs o in
    let a = and_parts (nat_le 2 (length fs)) _ parts.0 in
    let b = and_parts (all_base fs) _ a.1 in
    let c = and_parts (factors_in_order fs) (one_var fs) b.1 in
    let two = two_is (length fs) a.0 in
    record {
      two = two;
      good = record { some = omega (arith, two); base = base-each fs b.0; sorted = in_order-factors fs c.0; ordered = every-each fs parts.1 };
      one = one_var-is fs c.1;
    }

pub good_factors : (a : Atom) → Ordered a → GoodFactors (factors_of a)
good_factors = by_kind (λ a. Ordered a → GoodFactors (factors_of a))
    (λ s o. one_good (Size s) _ (factors-Size s) (ap base_layer (out-Size s)) o)
    (λ v o. one_good (Var v) _ (factors-Var v) (ap base_layer (out-Var v)) o)
    (λ i k o. one_good (Div i k) _ (factors-Div i k) (ap base_layer (out-Div i k)) o)
    (λ fs o. subst GoodFactors (sym (factors-Mul fs)) (mul_parts fs o).good)

pub one_factors : (a : Atom) → Ordered a → OneVar (factors_of a)
one_factors = by_kind (λ a. Ordered a → OneVar (factors_of a))
    (λ s o. subst OneVar (sym (factors-Size s)) (inr tt, tt))
    (λ v o. subst OneVar (sym (factors-Var v)) (inr tt, tt))
    (λ i k o. subst OneVar (sym (factors-Div i k)) (inr tt, tt))
    (λ fs o. subst OneVar (sym (factors-Mul fs)) (mul_parts fs o).one)

pub any-none : (fs : List Atom) → any_holds fs ≡ false → Each NoVar fs
any-none [] h = tt
any-none (f ∷ fs) h = by (atom_holds_var f) (any_holds fs) refl refl h (any-none fs)
  where
    by : (m n : Bool) → atom_holds_var f ≡ m → any_holds fs ≡ n → (m || n) ≡ false → (any_holds fs ≡ false → Each NoVar fs) → NoVar f × Each NoVar fs
    by false false e g h rest = (e, rest g)
    by false true e g h rest = absurd (cc)
    by true n e g h rest = absurd (cc)

pub none-any : (fs : List Atom) → Each NoVar fs → any_holds fs ≡ false
none-any [] h = refl
none-any (f ∷ fs) h = (λ k. h.0 k || none-any fs h.1 k)

pub no_var-factors : (a : Atom) → NoVar a → Each NoVar (factors_of a)
no_var-factors = by_kind (λ a. NoVar a → Each NoVar (factors_of a))
    (λ s n. subst (Each NoVar) (sym (factors-Size s)) (n, tt))
    (λ v n. subst (Each NoVar) (sym (factors-Var v)) (n, tt))
    (λ i k n. subst (Each NoVar) (sym (factors-Div i k)) (n, tt))
    (λ fs n. subst (Each NoVar) (sym (factors-Mul fs)) (any-none fs (sym (vars-Mul fs) ∙ n)))

pub no_var-product : (a b : Atom) → NoVar a → NoVar b → NoVar (atom_product a b)
no_var-product a b p q = vars-Mul _ ∙ none-any _ (factors-each NoVar (factors_of a) (factors_of b) (no_var-factors a p) (no_var-factors b q))

one_product : (a b : Atom) → Ordered a → Ordered b → (NoVar a ⊎ NoVar b) → OneVar (merged_factors (factors_of a) (factors_of b))
one_product a b oa ob (inl n) = one-left (factors_of a) (factors_of b) (no_var-factors a n) (one_factors b ob)
one_product a b oa ob (inr n) = one-right (factors_of a) (factors_of b) (one_factors a oa) (no_var-factors b n)

two_from : (n : ℕ) → 2 ≤ n → nat_le 2 n ≡ true
two_from n h = grind arith

-- the product of two atoms of normal forms is one, where not both hold an index variable
pub product-ordered : (a b : Atom) → Ordered a → Ordered b → (NoVar a ⊎ NoVar b) → Ordered (atom_product a b)
product-ordered a b oa ob n =
    let fs = merged_factors (factors_of a) (factors_of b) in
    let ga = good_factors a oa in
    let gb = good_factors b ob in
    let two : 2 ≤ length fs = omega (arith, factors-length (factors_of a) (factors_of b), ga.some, gb.some) in
    every-Mul atom_good items_good fs ∙ and_from (atom_good (Mul fs)) (atoms_every atom_good items_good fs)
    (good-Mul fs ∙ and_from (nat_le 2 (length fs)) _ (two_from (length fs) two)
    (and_from (all_base fs) _ (each-base fs (factors-each Base (factors_of a) (factors_of b) ga.base gb.base))
    (and_from (factors_in_order fs) (one_var fs) (factors-in_order fs (factors-sorted (factors_of a) (factors_of b) ga.sorted gb.sorted))
    (one_var-from fs (one_product a b oa ob n)))))
    (each-every fs (factors-each Ordered (factors_of a) (factors_of b) ga.ordered gb.ordered))
