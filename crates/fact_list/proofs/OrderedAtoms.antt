-- Atoms in order, and where one stands among them.
use Rattle.std.proofs.Common.{◌≡◌, ℕ, zero, suc, ◌+◌, ◌-◌, ◌<◌, List, [], ◌∷◌, ◌++◌, length, drop, take, get_or, refl, ap, sym, ◌∙◌, subst, Bool, true, false}
use Rattle.std.proofs.Common.{◌||◌, arith}
use Rattle.std.specs.List.{insert}
use Rattle.std.specs.Ordering.{is_eq, is_le, is_lt, ordering_reverse}
use Rattle.std.specs.declared.cmp.Ordering.{Ordering}
use Rattle.std.specs.declared.cmp.Ordering.TheVariants.{Less, Equal, Greater}
use Rattle.affine_index.specs.Order.{atom_order}
use Rattle.affine_index.proofs.EqualLaws.{atom_order-Equal}
use Rattle.affine_index.proofs.Factors.{AtMost, SortedFactors}
use Rattle.affine_index.proofs.Induction.{Each}
use Rattle.affine_index.proofs.TotalOrder.{order-reverse, order-trans}
use Rattle.affine_index.specs.declared.form.Atom.{Atom}
use Rattle.fact_list.proofs.Appending.{drop-item, take-all}
use Rattle.std.proofs.lemmas.List.{length-drop}
use Rattle.fact_list.specs.Atoms.{same_atoms, stands_in}
use Rattle.fact_list.specs.Sorted.{Known, less_than, Splits}

pub less-at_most : (x y z : Atom) → atom_order x y ≡ Less → AtMost y z → atom_order x z ≡ Less
less-at_most x y z l m = by (atom_order y z) refl m
  where
    by : (o : Ordering) → atom_order y z ≡ o → is_le o ≡ true → atom_order x z ≡ Less
    by Less e m = order-trans x y z l e
    by Equal e m = subst (λ (a : Atom). atom_order x a ≡ Less) (atom_order-Equal y z e) l
    by Greater e m = absurd (cc)

at_most-less : (x y z : Atom) → AtMost x y → atom_order y z ≡ Less → atom_order x z ≡ Less
at_most-less x y z m l = by (atom_order x y) refl m
  where
    by : (o : Ordering) → atom_order x y ≡ o → is_le o ≡ true → atom_order x z ≡ Less
    by Less e m = order-trans x y z e l
    by Equal e m = subst (λ (a : Atom). atom_order a z ≡ Less) (sym (atom_order-Equal x y e)) l
    by Greater e m = absurd (cc)

at_most-both : (x y z : Atom) → AtMost x y → AtMost y z → AtMost x z
at_most-both x y z m n = by (atom_order x y) refl m
  where
    by : (o : Ordering) → atom_order x y ≡ o → is_le o ≡ true → AtMost x z
    by Less e m = ap is_le (less-at_most x y z e n)
    by Equal e m = subst (λ (a : Atom). AtMost a z) (sym (atom_order-Equal x y e)) n
    by Greater e m = absurd (cc)

-- none before is not after
not-before : (x y : Atom) → is_lt (atom_order x y) ≡ false → AtMost y x
not-before x y h = ap is_le (order-reverse y x) ∙ by (atom_order x y) h
  where
    by : (o : Ordering) → is_lt o ≡ false → is_le (ordering_reverse o) ≡ true
    by Less h = absurd (cc)
    by Equal h = refl
    by Greater h = refl

before-is : (x y : Atom) → is_lt (atom_order x y) ≡ true → atom_order x y ≡ Less
before-is x y h = by (atom_order x y) h
  where
    by : (o : Ordering) → is_lt o ≡ true → o ≡ Less
    by Less h = refl
    by Equal h = absurd (cc)
    by Greater h = absurd (cc)

-- none of the atoms after a greater one
none-after : (x y : Atom) (ys : List Atom) → atom_order x y ≡ Less → Each (AtMost y) ys → stands_in x ys ≡ false
none-after x y [] l h = refl
none-after x y (z ∷ ys) l h = (λ k. ap is_eq (less-at_most x y z l h.0) k || none-after x y ys l h.1 k)

-- an atom that stands in a list in order, none of which it comes after, is the first
pub first-stands : (x y : Atom) (ys : List Atom) → SortedFactors (x ∷ y ∷ ys) → same_atoms x y ≡ stands_in x (y ∷ ys)
first-stands x y ys s = by (atom_order x y) refl s.0.0
  where
    by : (o : Ordering) → atom_order x y ≡ o → is_le o ≡ true → same_atoms x y ≡ (same_atoms x y || stands_in x ys)
    by Less e m = ap is_eq e ∙ sym (λ k. ap is_eq e k || none-after x y ys e s.1.0 k)
    by Equal e m = ap is_eq e ∙ sym (ap (λ b. b || stands_in x ys) (ap is_eq e))
    by Greater e m = absurd (cc)

pub sorted-drop : (xs : List Atom) (n : ℕ) → SortedFactors xs → SortedFactors (drop n xs)
sorted-drop xs zero s = s
sorted-drop [] (suc n) s = tt
sorted-drop (x ∷ xs) (suc n) s = sorted-drop xs n s.1

-- an atom and those after it
pub sorted-from : (xs : List Atom) (n : ℕ) (x : Atom) → n < length xs → x ≡ get_or xs n x → SortedFactors xs → SortedFactors (x ∷ drop (n + 1) xs)
sorted-from xs n x h e s = subst SortedFactors (drop-item xs n x h e) (sorted-drop xs n s)

each-at_most : (x y : Atom) (ys : List Atom) → AtMost x y → Each (AtMost y) ys → Each (AtMost x) ys
each-at_most x y [] m h = tt
each-at_most x y (z ∷ ys) m h = (at_most-both x y z m h.0, each-at_most x y ys m h.1)

-- what a comparison with one atom of a list in order tells of those before it, and of it and those after it
pub before-more : (a : Atom) (xs : List Atom) (n : ℕ) (x : Atom) → n < length xs → x ≡ get_or xs n x → SortedFactors xs → is_lt (atom_order x a) ≡ true
    → Each (less_than a) (take (n + 1) xs)
before-more a xs n x h e s l = subst (λ (m : ℕ). Each (less_than a) (take m xs)) (turn n) (by xs n h e s)
  where
    turn : (n : ℕ) → suc n ≡ n + 1
    turn n = omega arith

    at : (y : Atom) (ys : List Atom) (n : ℕ) → n < length ys → x ≡ get_or ys n x → Each (AtMost y) ys → AtMost y x
    at y [] n h e m = absurd (omega arith)
    at y (z ∷ ys) zero h e m = subst (AtMost y) (sym e) m.0
    at y (z ∷ ys) (suc n) h e m = at y ys n (omega arith) e m.1

    by : (xs : List Atom) (n : ℕ) → n < length xs → x ≡ get_or xs n x → SortedFactors xs → Each (less_than a) (take (suc n) xs)
    by [] n h e s = absurd (omega arith)
    by (y ∷ ys) zero h e s = (subst (λ (z : Atom). atom_order z a ≡ Less) e (before-is x a l), tt)
    by (y ∷ ys) (suc n) h e s = (at_most-less y x a (at y ys n (omega arith) e s.0) (before-is x a l), by ys n (omega arith) e s.1)

pub after-more : (a : Atom) (xs : List Atom) (n : ℕ) (x : Atom) → n < length xs → x ≡ get_or xs n x → SortedFactors xs → is_lt (atom_order x a) ≡ false
    → Each (AtMost a) (drop n xs)
after-more a xs n x h e s l =
    let m = not-before x a l in
    subst (Each (AtMost a)) (sym (drop-item xs n x h e)) (m, each-at_most a x (drop (n + 1) xs) m (sorted-from xs n x h e s).0)

greater-same : (a b : Atom) → atom_order b a ≡ Less → same_atoms a b ≡ false
greater-same a b l = ap is_eq (order-reverse a b ∙ ap ordering_reverse l)

-- an atom stands in a list where it stands after those that are less
pub stands-split : (a : Atom) (xs : List Atom) (n : ℕ) → Each (less_than a) (take n xs) → stands_in a (drop n xs) ≡ stands_in a xs
stands-split a xs zero h = refl
stands-split a [] (suc n) h = refl
stands-split a (x ∷ xs) (suc n) h = stands-split a xs n h.1 ∙ sym (ap (λ b. b || stands_in a xs) (greater-same a x h.0))

-- a list in order with one atom more
each-put : (P : Atom → Type 0) (a : Atom) (xs : List Atom) (n : ℕ) → P a → Each P xs → Each P (take n xs ++ a ∷ drop n xs)
each-put P a xs zero p h = (p, h)
each-put P a [] (suc n) p h = (p, tt)
each-put P a (x ∷ xs) (suc n) p h = (h.0, each-put P a xs n p h.1)

pub sorted-put : (a : Atom) (xs : List Atom) (n : ℕ) → SortedFactors xs → Each (less_than a) (take n xs) → Each (AtMost a) (drop n xs)
    → SortedFactors (take n xs ++ a ∷ drop n xs)
sorted-put a xs zero s b c = (c, s)
sorted-put a [] (suc n) s b c = (tt, tt)
sorted-put a (x ∷ xs) (suc n) s b c = (each-put (AtMost x) a xs n (ap is_le b.0) s.0, sorted-put a xs n s.1 b.1 c)

or-turn : (a b c : Bool) → (a || (b || c)) ≡ (b || (a || c))
or-turn true true c = refl
or-turn true false c = refl
or-turn false b c = refl

stands-put : (b a : Atom) (xs : List Atom) (n : ℕ) → stands_in b (take n xs ++ a ∷ drop n xs) ≡ (same_atoms b a || stands_in b xs)
stands-put b a xs zero = refl
stands-put b a [] (suc n) = refl
stands-put b a (x ∷ xs) (suc n) = ap (λ c. same_atoms b x || c) (stands-put b a xs n) ∙ or-turn (same_atoms b x) (same_atoms b a) (stands_in b xs)

stands-more : (b a : Atom) (xs : List Atom) → stands_in b (xs ++ a ∷ []) ≡ (same_atoms b a || stands_in b xs)
stands-more b a [] = refl
stands-more b a (x ∷ xs) = ap (λ c. same_atoms b x || c) (stands-more b a xs) ∙ or-turn (same_atoms b x) (same_atoms b a) (stands_in b xs)

-- an atom more is known
known-more : (met sorted : List Atom) (a : Atom) (n : ℕ) → Known met sorted → Splits a sorted n → Known (met ++ a ∷ []) (take n sorted ++ a ∷ drop n sorted)
known-more met sorted a n k p = record {
  sorted = sorted-put a sorted n k.sorted p.before p.after;
  same = λ b. stands-put b a sorted n ∙ ap (λ c. same_atoms b a || c) (k.same b) ∙ sym (stands-more b a met);
}

pub known-with : (met list more put : List Atom) (a x y : Atom) (n : ℕ) → Known met list → Splits a list n → more ≡ met ++ x ∷ [] → x ≡ a
    → put ≡ insert list n y → y ≡ a → Known more put
known-with met list more put a x y n k p m e q f =
    subst (λ (xs : List Atom). Known xs put) (sym (m ∙ ap (λ (z : Atom). met ++ z ∷ []) e))
    (subst (λ (xs : List Atom). Known (met ++ a ∷ []) xs) (sym (q ∙ ap (insert list n) f)) (known-more met list a n k p))

-- an atom before a list in order stands in it where it is the first
pub first-same : (a : Atom) (xs : List Atom) (x : Atom) (r : Bool) → (length xs ≡ 0 → ⊥) → x ≡ get_or xs 0 x → SortedFactors (a ∷ xs) → r ≡ same_atoms a x
    → r ≡ stands_in a xs
first-same a [] x r n e s h = absurd (n refl)
first-same a (y ∷ ys) x r n e s h = h ∙ ap (same_atoms a) e ∙ first-stands a y ys s

pub none-stands : (a : Atom) (xs : List Atom) → length xs ≡ 0 → false ≡ stands_in a xs
none-stands a [] h = refl
none-stands a (y ∷ ys) h = absurd (omega arith)

-- an atom and those after it, as a slice
pub sorted-slice : (xs : List Atom) (n : ℕ) (x : Atom) → n < length xs → x ≡ get_or xs n x → SortedFactors xs
    → SortedFactors (x ∷ take (length xs - (n + 1)) (drop (n + 1) xs))
sorted-slice xs n x h e s =
    subst (λ (ys : List Atom). SortedFactors (x ∷ ys)) (sym (take-all (length xs - (n + 1)) (drop (n + 1) xs) (omega (arith, length-drop (n + 1) xs))))
    (sorted-from xs n x h e s)

-- an atom and those that it does not come after, as a slice
pub slice-sorted : (a : Atom) (xs : List Atom) (n : ℕ) → SortedFactors xs → Each (AtMost a) (drop n xs) → SortedFactors (a ∷ take (length xs - n) (drop n xs))
slice-sorted a xs n s m =
    subst (λ (ys : List Atom). SortedFactors (a ∷ ys)) (sym (take-all (length xs - n) (drop n xs) (omega (arith, length-drop n xs)))) (m, sorted-drop xs n s)

pub stands-slice : (a : Atom) (xs : List Atom) (n : ℕ) → Each (less_than a) (take n xs) → stands_in a (take (length xs - n) (drop n xs)) ≡ stands_in a xs
stands-slice a xs n b = ap (stands_in a) (take-all (length xs - n) (drop n xs) (omega (arith, length-drop n xs))) ∙ stands-split a xs n b
