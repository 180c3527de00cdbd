-- Where no variable is held, nothing changes when forms are put for variables.
use Rattle.std.proofs.Common.{◌≡◌, ℕ, ◌≤◌, ◌<◌, List, [], ◌∷◌, ◌++◌, length, map, refl, ap, sym, ◌∙◌, subst, arith, true, false, nat_le, nat_lt, append_assoc}
use Rattle.std.specs.Prelude.{ℤ, pos, negsuc, ◌+ℤ◌, ◌*ℤ◌}
use Rattle.std.specs.Int.{int_div_euclid, int_rem_euclid}
use Rattle.std.specs.Ordering.{int_eq, is_le}
use Rattle.std.specs.declared.cmp.Ordering.{Ordering}
use Rattle.std.specs.declared.cmp.Ordering.TheVariants.{Less, Equal, Greater}
use Rattle.std.proofs.lemmas.Bool.{and_parts}
use Rattle.std.proofs.lemmas.Int.{ints}
use Rattle.std.proofs.Math.IntN.{*ℤ-zero}
use Rattle.std.proofs.Math.Nat.{div-eq_of_lt, mod-eq_of_lt}
use Rattle.affine_index.specs.Form.{literal_form, of_atom}
use Rattle.affine_index.specs.Normal.{all_remainders, has_items, holds_var, is_ordered, is_remainder, layer_good}
use Rattle.affine_index.specs.Order.{atom_order}
use Rattle.affine_index.specs.Product.{factor_onto, factor_onto_by, factors_of, merged_factors, product_of, product_of_all}
use Rattle.affine_index.specs.Put.{put_all, put_atom, put_terms}
use Rattle.affine_index.specs.Quotient.{item_of, quotient_atom, quotient_of, rest_terms, whole_terms}
use Rattle.affine_index.specs.Sum.{item_if, merged, onto, onto_by, scaled, scaled_if, sum_of}
use Rattle.affine_index.proofs.Factors.{AtMost, Base, NoVar, Ordered, SortedFactors, any-none, base_factors, factors-Mul, mul_parts}
use Rattle.affine_index.proofs.Induction.{Each, EachTerm, for_atoms, for_items}
use Rattle.affine_index.proofs.ProductOrdered.{FreeTerms, free-is}
use Rattle.affine_index.proofs.PutLaws.{put-Size, put-Div, put-Mul, put-items}
use Rattle.affine_index.proofs.ReadyLaws.{ordered-Div}
use Rattle.affine_index.proofs.Sorted.{Before, EachItem, GoodItem, Sorted, ordered-terms}
use Rattle.affine_index.proofs.VarLaws.{vars-Var, vars-Div, vars-Mul}
use Rattle.affine_index.specs.declared.form.Atom.{Atom}
use Rattle.affine_index.specs.declared.form.Atom.TheVariants.{Var, Div, Mul}
use Rattle.affine_index.specs.declared.form.Atom.TheOpen.{Atom-F}
use Rattle.affine_index.specs.declared.form.Item.{Item}
use Rattle.affine_index.specs.declared.form.Items.{Items}

below_is : (n k : ℕ) → nat_lt n k ≡ true → n < k
below_is n k h = grind arith

-- a remainder has no whole part, and is its own rest
whole-none : (k : ℕ) (c : ℤ) → is_remainder k c ≡ true → int_div_euclid c (pos k) ≡ pos 0
whole-none k (pos n) h = ap pos (div-eq_of_lt (below_is n k h))
whole-none k (negsuc n) h = absurd (cc)

rest-same : (k : ℕ) (c : ℤ) → is_remainder k c ≡ true → int_rem_euclid c (pos k) ≡ c
rest-same k (pos n) h = ap pos (mod-eq_of_lt (below_is n k h))
rest-same k (negsuc n) h = absurd (cc)

item_of-zero : (a : Atom) (c : ℤ) (rest : List (Item Atom)) → c ≡ pos 0 → item_of a c rest ≡ rest
item_of-zero a c rest e = ap (λ z. item_of a z rest) e

item_of-one : (a : Atom) (c : ℤ) (rest : List (Item Atom)) → int_eq c (pos 0) ≡ false → item_of a c rest ≡ record { atom = a; coefficient = c } ∷ rest
item_of-one a c rest e = ap (λ z. item_if z (record { atom = a; coefficient = c }) rest) e

whole-terms-none : (k : ℕ) (ts : List (Item Atom)) → all_remainders k ts ≡ true → whole_terms k ts ≡ []
whole-terms-none k [] h = refl
whole-terms-none k (t ∷ ts) h =
    let parts = and_parts (is_remainder k t.coefficient) (all_remainders k ts) h in
    item_of-zero t.atom (int_div_euclid t.coefficient (pos k)) (whole_terms k ts) (whole-none k t.coefficient parts.0) ∙ whole-terms-none k ts parts.1

rest-terms-same : (k : ℕ) (ts : List (Item Atom)) → all_remainders k ts ≡ true → EachItem GoodItem ts → rest_terms k ts ≡ ts
rest-terms-same k [] h g = refl
rest-terms-same k (t ∷ ts) h g =
    let parts = and_parts (is_remainder k t.coefficient) (all_remainders k ts) h in
    let e = rest-same k t.coefficient parts.0 in
    (λ i. item_of t.atom (e i) (rest-terms-same k ts parts.1 g.1 i)) ∙ item_of-one t.atom t.coefficient ts g.0.1

quotient_atom-some : (ts : List (Item Atom)) (c : ℤ) (k : ℕ) → has_items ts ≡ true
    → quotient_atom ts c k ≡ of_atom (Div (record { terms = ts; constant = c }) k)
quotient_atom-some [] c k h = absurd (cc)
quotient_atom-some (t ∷ ts) c k h = refl

-- a quotient of a normal form is the quotient of its dividend
pub quotient-same : (i : Items) (k : ℕ) → layer_good (Atom-F.Div i k) ≡ true → is_ordered i ≡ true → quotient_of i k ≡ of_atom (Div i k)
quotient-same i k h o =
    let a = and_parts (nat_le 2 k) _ h in
    let b = and_parts (nat_le k 2147483647) _ a.1 in
    let c = and_parts (has_items i.terms) _ b.1 in
    let d = and_parts (all_remainders k i.terms) (is_remainder k i.constant) c.1 in
    let goods = (ordered-terms i o).1 in
    (λ j. sum_of (record { terms = whole-terms-none k i.terms d.0 j; constant = whole-none k i.constant d.1 j })
    (quotient_atom (rest-terms-same k i.terms d.0 goods j) (rest-same k i.constant d.1 j) k))
    ∙ ap (sum_of (literal_form (pos 0))) (quotient_atom-some i.terms i.constant k c.0)

-- the product of base atoms in order
abbrev as_atom : Atom → List Atom → Atom
as_atom f [] = f
as_atom f (g ∷ gs) = Mul (f ∷ g ∷ gs)

merged-first : (f g : Atom) (gs : List Atom) → AtMost f g → merged_factors (f ∷ []) (g ∷ gs) ≡ f ∷ g ∷ gs
merged-first f g gs h = by (atom_order f g) refl
  where
    by : (o : Ordering) → atom_order f g ≡ o → merged_factors (f ∷ []) (g ∷ gs) ≡ f ∷ g ∷ gs
    by Less e = ap (λ o. factor_onto_by o f (merged_factors []) g gs (factor_onto f (merged_factors []) gs)) e
    by Equal e = ap (λ o. factor_onto_by o f (merged_factors []) g gs (factor_onto f (merged_factors []) gs)) e
    by Greater e = let bad : is_le (atom_order f g) ≡ false = ap is_le e in absurd (cc)

as_atom-factors : (g : Atom) (gs : List Atom) → Base g → factors_of (as_atom g gs) ≡ g ∷ gs
as_atom-factors g [] b = base_factors g b
as_atom-factors g (h ∷ hs) b = factors-Mul (g ∷ h ∷ hs)

products-same : (f : Atom) (fs : List Atom) → Each Base (f ∷ fs) → SortedFactors (f ∷ fs) → product_of_all (map of_atom (f ∷ fs)) ≡ of_atom (as_atom f fs)
products-same f [] b s = refl
products-same f (g ∷ gs) b s =
    ap (product_of (of_atom f)) (products-same g gs b.1 s.1)
    ∙ ap (λ x. of_atom (Mul x)) ((λ j. merged_factors (base_factors f b.0 j) (as_atom-factors g gs b.1.0 j)) ∙ merged-first f g gs s.0.0)

map-same : (f : ℕ → Items) (fs : List Atom) → Each (λ a. Ordered a → NoVar a → put_atom f a ≡ of_atom a) fs → Each Ordered fs → Each NoVar fs
    → map (put_atom f) fs ≡ map of_atom fs
map-same f [] h o n = refl
map-same f (g ∷ gs) h o n = λ j. h.0 o.0 n.0 j ∷ map-same f gs h.1 o.1 n.1 j

pub product-is : (fs : List Atom) → 2 ≤ length fs → Each Base fs → SortedFactors fs → product_of_all (map of_atom fs) ≡ of_atom (Mul fs)
product-is [] h b s = open_two h
  where
    open_two : {P : Type 0} → 2 ≤ 0 → P
    open_two h = absurd (omega (arith, h))
product-is (f ∷ []) h b s = open_one h
  where
    open_one : {P : Type 0} → 2 ≤ 1 → P
    open_one h = absurd (omega (arith, h))
product-is (f ∷ g ∷ gs) h b s = products-same f (g ∷ gs) b s

product-same : (fs : List Atom) → Ordered (Mul fs) → product_of_all (map of_atom fs) ≡ of_atom (Mul fs)
product-same fs o = product-is fs (mul_parts fs o).two (mul_parts fs o).good.base (mul_parts fs o).good.sorted

-- an item after all others is added at the end
merged-last : (ts : List (Item Atom)) (u : Item Atom) → EachItem (λ t. Before t.atom u) ts → merged ts (u ∷ []) ≡ ts ++ (u ∷ [])
merged-last [] u h = refl
merged-last (t ∷ ts) u h = ap (λ o. onto_by o t (merged ts) u [] (onto t (merged ts) [])) h.0 ∙ ap (λ r. t ∷ r) (merged-last ts u h.1)

times_one : (c : ℤ) → c *ℤ pos 1 ≡ c
times_one c = omega (arith, ints)

pub scaled-atom : (c : ℤ) (a : Atom) → int_eq c (pos 0) ≡ false
    → scaled c (of_atom a) ≡ record { terms = record { atom = a; coefficient = c } ∷ []; constant = pos 0 }
scaled-atom c a n = ap (λ z. scaled_if z c (of_atom a)) n
    ∙ (λ j. record { terms = record { atom = a; coefficient = times_one c j } ∷ []; constant = *ℤ-zero c j })

plus_zero : (c : ℤ) → c +ℤ pos 0 ≡ c
plus_zero c = omega (arith, ints)

before_last : (pre : List (Item Atom)) (u : Item Atom) (ts : List (Item Atom)) → Sorted (pre ++ (u ∷ ts)) → EachItem (λ t. Before t.atom u) pre
before_last [] u ts s = tt
before_last (p ∷ pre) u ts s = (first pre s.0, before_last pre u ts s.1)
  where
    first : (qs : List (Item Atom)) → EachItem (Before p.atom) (qs ++ (u ∷ ts)) → Before p.atom u
    first [] h = h.0
    first (q ∷ qs) h = first qs h.1

-- each item with another atom
abbrev pub with_atoms : (Atom → Atom) → List (Item Atom) → List (Item Atom)
with_atoms g ts = map (λ t. record { atom = g t.atom; coefficient = t.coefficient }) ts

-- where an atom is put for each atom, and the order stays, the items are those with the new atoms
pub terms-put : (f : ℕ → Items) (g : Atom → Atom) (pre ts : List (Item Atom)) (c : ℤ) → Sorted (pre ++ with_atoms g ts) → EachItem GoodItem ts
    → EachItem (λ t. put_atom f t.atom ≡ of_atom (g t.atom)) ts
    → put_terms f ts (record { terms = pre; constant = c }) ≡ record { terms = pre ++ with_atoms g ts; constant = c }
terms-put f g pre [] c s good h = λ j. record { terms = append_nil pre j; constant = c }
  where
    append_nil : (xs : List (Item Atom)) → xs ≡ xs ++ []
    append_nil [] = refl
    append_nil (x ∷ xs) = ap (λ r. x ∷ r) (append_nil xs)
terms-put f g pre (t ∷ ts) c s good h =
    let u : Item Atom = record { atom = g t.atom; coefficient = t.coefficient } in
    ap (put_terms f ts)
    (ap (sum_of (record { terms = pre; constant = c })) (ap (scaled t.coefficient) h.0 ∙ scaled-atom t.coefficient (g t.atom) good.0.1)
    ∙ (λ j. record { terms = merged-last pre u (before_last pre u (with_atoms g ts) s) j; constant = plus_zero c j }))
    ∙ terms-put f g (pre ++ (u ∷ [])) ts c (subst Sorted (sym (append_assoc pre (u ∷ []) (with_atoms g ts))) s) good.1 h.1
    ∙ (λ j. record { terms = append_assoc pre (u ∷ []) (with_atoms g ts) j; constant = c })

with_itself : (ts : List (Item Atom)) → with_atoms (λ a. a) ts ≡ ts
with_itself [] = refl
with_itself (t ∷ ts) = ap (λ us. t ∷ us) (with_itself ts)

module _ (f : ℕ → Items) where
  abbrev AtomStays : Atom → Type 0
  AtomStays a = Ordered a → NoVar a → put_atom f a ≡ of_atom a

  abbrev FormStays : Items → Type 0
  FormStays i = is_ordered i ≡ true → holds_var i ≡ false → put_all f i ≡ i

  var_stays : (v : ℕ) → AtomStays (Var v)
  var_stays v o n = absurd (let e = sym (vars-Var v) ∙ n in cc)

  div_stays : (i : Items) (k : ℕ) → FormStays i → AtomStays (Div i k)
  div_stays i k h o n =
      let parts = ordered-Div i k o in
      put-Div f i k ∙ ap (λ j. quotient_of j k) (h parts.1 (sym (vars-Div i k) ∙ n)) ∙ quotient-same i k parts.0 parts.1

  mul_stays : (fs : List Atom) → Each AtomStays fs → AtomStays (Mul fs)
  mul_stays fs h o n =
      put-Mul f fs ∙ ap product_of_all (map-same f fs h (mul_parts fs o).good.ordered (any-none fs (sym (vars-Mul fs) ∙ n))) ∙ product-same fs o

  each_stays : (ts : List (Item Atom)) → EachTerm AtomStays ts → EachItem GoodItem ts → FreeTerms ts → EachItem (λ t. put_atom f t.atom ≡ of_atom t.atom) ts
  each_stays [] h g n = tt
  each_stays (t ∷ ts) h g n = (h.0 g.0.0 n.0, each_stays ts h.1 g.1 n.1)

  form_stays : (ts : List (Item Atom)) (c : ℤ) → EachTerm AtomStays ts → FormStays (record { terms = ts; constant = c })
  form_stays ts c h o n =
      let i : Items = record { terms = ts; constant = c } in
      let terms = ordered-terms i o in
      put-items f i ∙ terms-put f (λ a. a) [] ts c (subst Sorted (sym (with_itself ts)) terms.0) terms.1 (each_stays ts h terms.1 (free-is i n))
      ∙ ap (λ us. record { terms = us; constant = c }) (with_itself ts)

  pub put_atom-free : (a : Atom) → AtomStays a
  put_atom-free = for_atoms AtomStays FormStays (λ s o n. put-Size f s) var_stays div_stays mul_stays form_stays

  pub put_all-free : (i : Items) → FormStays i
  put_all-free = for_items AtomStays FormStays (λ s o n. put-Size f s) var_stays div_stays mul_stays form_stays
