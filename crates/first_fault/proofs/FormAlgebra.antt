-- Adding a form and taking it away again, and what 0 and 1 do.
use Rattle.std.proofs.Common.{◌≡◌, ◌&&◌, cond, Result, Ok, Err, List, [], ◌∷◌, refl, ap, sym, subst, ◌∙◌, arith, Bool, true, false}
use Rattle.std.specs.Prelude.{ℤ, pos, negsuc, ◌+ℤ◌, ◌*ℤ◌}
use Rattle.std.specs.Int.{int_div_euclid, int_rem_euclid}
use Rattle.std.specs.Ordering.{int_eq, ordering_reverse}
use Rattle.std.specs.declared.cmp.Ordering.{Ordering}
use Rattle.std.specs.declared.cmp.Ordering.TheVariants.{Less, Equal, Greater}
use Rattle.std.proofs.lemmas.Int.{ints}
use Rattle.affine_index.specs.Form.{literal_form}
use Rattle.affine_index.specs.Order.{atom_order}
use Rattle.affine_index.specs.Normal.{holds_var, is_ordered}
use Rattle.affine_index.specs.Product.{product_of, term_products, atom_times}
use Rattle.affine_index.specs.Quotient.{quotient_of, remainder_of, whole_terms, rest_terms, whole_part, rest_part, quotient_atom, item_of}
use Rattle.affine_index.specs.Sum.{add_up, combined, difference_of, item_if, merged, onto, onto_by, scaled, scaled_terms, sum_of}
use Rattle.affine_index.proofs.EqualLaws.{atom_order-Equal}
use Rattle.affine_index.proofs.Sorted.{Before, EachItem, GoodItem, Sorted, before-closed, merged-each, ordered-terms}
use Rattle.affine_index.proofs.TotalOrder.{order-reverse, order-same}
use Rattle.affine_index.specs.declared.form.Atom.{Atom}
use Rattle.affine_index.specs.declared.form.Item.{Item}
use Rattle.affine_index.specs.declared.form.Items.{Items}
use Rattle.affine_index.proofs.VarLaws.{vars-items}
use Rattle.reader_laws.specs.declared.fault.Fault.{Fault}
use Rattle.reader_laws.specs.declared.fault.Fault.TheVariants.{NotAffine}
use Rattle.source_grammar.specs.Limits.{tested, multiplied}
use Rattle.source_grammar.proofs.NormalForms.{Normal, tested_ok, zero_form, zero_normal}

-- the sum of the items of one atom
abbrev added : Item Atom → Item Atom → Item Atom
added a b = record { atom = a.atom; coefficient = a.coefficient +ℤ b.coefficient }

abbrev minus : List (Item Atom) → List (Item Atom)
minus ts = scaled_terms (negsuc 0) ts

abbrev opposite : Item Atom → Item Atom
opposite t = record { atom = t.atom; coefficient = negsuc 0 *ℤ t.coefficient }

merged-nothing : (ts : List (Item Atom)) → merged ts [] ≡ ts
merged-nothing [] = refl
merged-nothing (t ∷ ts) = ap (λ l. t ∷ l) (merged-nothing ts)

gone : (c : ℤ) → int_eq (c +ℤ (negsuc 0 *ℤ c)) (pos 0) ≡ true
gone c = grind (arith, ints)

kept : (a b : ℤ) → (a +ℤ b) +ℤ (negsuc 0 *ℤ b) ≡ a
kept a b = omega (arith, ints)

turned : (a b : ℤ) → int_eq (a +ℤ b) (pos 0) ≡ true → negsuc 0 *ℤ b ≡ a
turned a b h = grind (arith, ints)

abbrev NonZero : Item Atom → Type 0
NonZero t = int_eq t.coefficient (pos 0) ≡ false

-- two items of one atom that cancel
drop-both : (t : Item Atom) (rest : List (Item Atom)) → combined t (opposite t) rest ≡ rest
drop-both t rest = ap (λ z. item_if z (added t (opposite t)) rest) (gone t.coefficient)

cancel-all : (ts : List (Item Atom)) → merged ts (minus ts) ≡ []
cancel-all [] = refl
cancel-all (t ∷ ts) =
    ap (λ o. onto_by o t (merged ts) (opposite t) (minus ts) (onto t (merged ts) (minus ts))) (order-same t.atom)
    ∙ drop-both t (merged ts (minus ts)) ∙ cancel-all ts

-- an item before all others of a list
merged-first : (u : Item Atom) (ts us : List (Item Atom)) → EachItem (Before u.atom) ts → merged ts (u ∷ us) ≡ u ∷ merged ts us
merged-first u [] us h = refl
merged-first u (t ∷ ts) us h = ap (λ o. onto_by o t (merged ts) u us (onto t (merged ts) us)) (order-reverse t.atom u.atom ∙ ap ordering_reverse h.0)

back-onto : (a : Item Atom) (as' bs : List (Item Atom)) → NonZero a → EachItem (Before a.atom) as' → Sorted bs
    → ((cs : List (Item Atom)) → Sorted cs → merged (merged as' cs) (minus cs) ≡ as')
    → merged (onto a (merged as') bs) (minus bs) ≡ a ∷ as'
back-onto a as' [] n sa sb h = merged-nothing (a ∷ merged as' []) ∙ ap (λ l. a ∷ l) (merged-nothing as')
back-onto a as' (b ∷ bs) n sa sb h = by_order (atom_order a.atom b.atom) refl (back-onto a as' bs n sa sb.1 h)
  where
    sum_gone : (z : Bool) → int_eq (a.coefficient +ℤ b.coefficient) (pos 0) ≡ z → atom_order a.atom b.atom ≡ Equal
        → merged (item_if z (added a b) (merged as' bs)) (opposite b ∷ minus bs) ≡ a ∷ as'
    sum_gone true z e =
        let same : b.atom ≡ a.atom = sym (atom_order-Equal a.atom b.atom e) in
        let after : EachItem (Before b.atom) (merged as' bs) =
        merged-each (Before b.atom) (before-closed b.atom) as' bs (subst (λ (x : Atom). EachItem (Before x) as') (sym same) sa) sb.0 in
        let is : opposite b ≡ a = (λ j. record { atom = same j; coefficient = turned a.coefficient b.coefficient z j }) in
        merged-first (opposite b) (merged as' bs) (minus bs) after ∙ ap (λ l. opposite b ∷ l) (h bs sb.1) ∙ ap (λ t. t ∷ as') is
    sum_gone false z e =
        let c : (a.coefficient +ℤ b.coefficient) +ℤ (negsuc 0 *ℤ b.coefficient) ≡ a.coefficient = kept a.coefficient b.coefficient in
        ap (λ o. onto_by o (added a b) (merged (merged as' bs)) (opposite b) (minus bs) (onto (added a b) (merged (merged as' bs)) (minus bs))) e
        ∙ ap (λ (k : ℤ). item_if (int_eq k (pos 0)) (record { atom = a.atom; coefficient = k }) (merged (merged as' bs) (minus bs))) c
        ∙ ap (λ y. item_if y a (merged (merged as' bs) (minus bs))) n
        ∙ ap (λ l. a ∷ l) (h bs sb.1)

    by_order : (o : Ordering) → atom_order a.atom b.atom ≡ o → merged (onto a (merged as') bs) (minus bs) ≡ a ∷ as'
        → merged (onto_by o a (merged as') b bs (onto a (merged as') bs)) (opposite b ∷ minus bs) ≡ a ∷ as'
    by_order Less e later =
        ap (λ o. onto_by o a (merged (merged as' (b ∷ bs))) (opposite b) (minus bs) (onto a (merged (merged as' (b ∷ bs))) (minus bs))) e
        ∙ ap (λ l. a ∷ l) (h (b ∷ bs) sb)
    by_order Greater e later =
        ap (λ o. onto_by o b (merged (onto a (merged as') bs)) (opposite b) (minus bs) (onto b (merged (onto a (merged as') bs)) (minus bs)))
        (order-same b.atom)
        ∙ drop-both b (merged (onto a (merged as') bs) (minus bs)) ∙ later
    by_order Equal e later = sum_gone (int_eq (a.coefficient +ℤ b.coefficient) (pos 0)) refl e

back-terms : (as' bs : List (Item Atom)) → Sorted as' → EachItem NonZero as' → Sorted bs → merged (merged as' bs) (minus bs) ≡ as'
back-terms [] bs sa n sb = cancel-all bs
back-terms (a ∷ as') bs sa n sb = back-onto a as' bs n.0 sa.0 sb (λ cs sc. back-terms as' cs sa.1 n.1 sc)

nonzero-all : (ts : List (Item Atom)) → EachItem GoodItem ts → EachItem NonZero ts
nonzero-all [] h = tt
nonzero-all (t ∷ ts) h = (h.0.1, nonzero-all ts h.1)

minus-before : (x : Atom) (ts : List (Item Atom)) → EachItem (Before x) ts → EachItem (Before x) (minus ts)
minus-before x [] h = tt
minus-before x (t ∷ ts) h = (h.0, minus-before x ts h.1)

minus-sorted : (ts : List (Item Atom)) → Sorted ts → Sorted (minus ts)
minus-sorted [] s = tt
minus-sorted (t ∷ ts) s = (minus-before t.atom ts s.0, minus-sorted ts s.1)

minus-twice : (c : ℤ) → negsuc 0 *ℤ (negsuc 0 *ℤ c) ≡ c
minus-twice c = omega (arith, ints)

twice : (ts : List (Item Atom)) → minus (minus ts) ≡ ts
twice [] = refl
twice (t ∷ ts) = λ j. record { atom = t.atom; coefficient = minus-twice t.coefficient j } ∷ twice ts j

plus-minus : (a b : ℤ) → (a +ℤ b) +ℤ (negsuc 0 *ℤ b) ≡ a
plus-minus a b = omega (arith, ints)

minus-plus : (a b : ℤ) → (a +ℤ (negsuc 0 *ℤ b)) +ℤ b ≡ a
minus-plus a b = omega (arith, ints)

-- a form that was added is taken away
pub taken-back : (a b : Items) → is_ordered a ≡ true → is_ordered b ≡ true → difference_of (sum_of a b) b ≡ a
taken-back a b oa ob =
    let ta = ordered-terms a oa in
    let tb = ordered-terms b ob in
    λ j. record { terms = back-terms a.terms b.terms ta.0 (nonzero-all a.terms ta.1) tb.0 j; constant = plus-minus a.constant b.constant j }

-- a form that was taken away is added
pub given-back : (a b : Items) → is_ordered a ≡ true → is_ordered b ≡ true → sum_of (difference_of a b) b ≡ a
given-back a b oa ob =
    let ta = ordered-terms a oa in
    let tb = ordered-terms b ob in
    let terms : merged (merged a.terms (minus b.terms)) b.terms ≡ a.terms =
    ap (merged (merged a.terms (minus b.terms))) (sym (twice b.terms))
    ∙ back-terms a.terms (minus b.terms) ta.0 (nonzero-all a.terms ta.1) (minus-sorted b.terms tb.0) in
    λ j. record { terms = terms j; constant = minus-plus a.constant b.constant j }

minus-self : (a : ℤ) → a +ℤ (negsuc 0 *ℤ a) ≡ pos 0
minus-self a = omega (arith, ints)

pub minus-itself : (a : Items) → difference_of a a ≡ literal_form (pos 0)
minus-itself a = λ j. record { terms = cancel-all a.terms j; constant = minus-self a.constant j }

plus-zero : (c : ℤ) → c +ℤ pos 0 ≡ c
plus-zero c = omega (arith, ints)

pub sum-zero : (a : Items) → sum_of a (literal_form (pos 0)) ≡ a
sum-zero a = λ j. record { terms = merged-nothing a.terms j; constant = plus-zero a.constant j }

minus-zero : (c : ℤ) → c +ℤ (negsuc 0 *ℤ pos 0) ≡ c
minus-zero c = omega (arith, ints)

pub difference-zero : (a : Items) → difference_of a (literal_form (pos 0)) ≡ a
difference-zero a = λ j. record { terms = merged-nothing a.terms j; constant = minus-zero a.constant j }

-- ---- times 0

abbrev nothing : Items
nothing = literal_form (pos 0)

times-zero : (c : ℤ) → c *ℤ pos 0 ≡ pos 0
times-zero c = omega (arith, ints)

scaled-nothing : (c : ℤ) → scaled c nothing ≡ nothing
scaled-nothing c = go (int_eq c (pos 0)) refl
  where
    go : (z : Bool) → int_eq c (pos 0) ≡ z → scaled c nothing ≡ nothing
    go true e = rw e refl
    go false e = rw e (λ j. record { terms = []; constant = times-zero c j })

products-nothing : (ts : List (Item Atom)) (start : Items) → start ≡ nothing → add_up (term_products ts nothing) start ≡ nothing
products-nothing [] start e = e
products-nothing (t ∷ ts) start e = products-nothing ts (sum_of start (scaled t.coefficient (atom_times t.atom nothing)))
    ((λ j. sum_of (e j) (scaled-nothing t.coefficient j)) ∙ refl)

pub product-zero : (a : Items) → product_of a (literal_form (pos 0)) ≡ literal_form (pos 0)
product-zero a = products-nothing a.terms (scaled a.constant nothing) (scaled-nothing a.constant)

-- ---- divided by 1

divided : (c : ℤ) → int_div_euclid c (pos 1) ≡ c
divided (pos n) = omega (arith, ints)
divided (negsuc n) = omega (arith, ints)

left_over : (c : ℤ) → int_rem_euclid c (pos 1) ≡ pos 0
left_over (pos n) = omega (arith, ints)
left_over (negsuc n) = omega (arith, ints)

whole-one : (ts : List (Item Atom)) → EachItem NonZero ts → whole_terms 1 ts ≡ ts
whole-one [] h = refl
whole-one (t ∷ ts) h =
    ap (λ (c : ℤ). item_of t.atom c (whole_terms 1 ts)) (divided t.coefficient) ∙ ap (λ z. item_if z t (whole_terms 1 ts)) h.0
    ∙ ap (λ l. t ∷ l) (whole-one ts h.1)

rest-one : (ts : List (Item Atom)) → rest_terms 1 ts ≡ []
rest-one [] = refl
rest-one (t ∷ ts) = ap (λ (c : ℤ). item_of t.atom c (rest_terms 1 ts)) (left_over t.coefficient) ∙ rest-one ts

pub quotient-one : (a : Items) → is_ordered a ≡ true → quotient_of a 1 ≡ a
quotient-one a o =
    let n = nonzero-all a.terms (ordered-terms a o).1 in
    let whole : whole_part a 1 ≡ a = (λ j. record { terms = whole-one a.terms n j; constant = divided a.constant j }) in
    let rest : quotient_atom (rest_part a 1).terms (rest_part a 1).constant 1 ≡ nothing = ap
    (λ (ts : List (Item Atom)). quotient_atom ts (rest_part a 1).constant 1) (rest-one a.terms) in
    (λ j. sum_of (whole j) (rest j)) ∙ sum-zero a

times-one : (c : ℤ) → pos 1 *ℤ c ≡ c
times-one c = omega (arith, ints)

scaled-one-terms : (ts : List (Item Atom)) → scaled_terms (pos 1) ts ≡ ts
scaled-one-terms [] = refl
scaled-one-terms (t ∷ ts) = λ j. record { atom = t.atom; coefficient = times-one t.coefficient j } ∷ scaled-one-terms ts j

scaled-one : (a : Items) → scaled (pos 1) a ≡ a
scaled-one a = λ j. record { terms = scaled-one-terms a.terms j; constant = times-one a.constant j }

pub remainder-one : (a : Items) → is_ordered a ≡ true → remainder_of a 1 ≡ literal_form (pos 0)
remainder-one a o = ap (λ (q : Items). difference_of a (scaled (pos 1) q)) (quotient-one a o) ∙ ap (difference_of a) (scaled-one a) ∙ minus-itself a

-- ---- 0 as an operand

pub plus_zero_is : (a : Items) → Normal a → tested (sum_of a zero_form) ≡ Ok a
plus_zero_is a p = ap tested (sum-zero a) ∙ tested_ok a p

pub minus_zero_is : (a : Items) → Normal a → tested (difference_of a zero_form) ≡ Ok a
minus_zero_is a p = ap tested (difference-zero a) ∙ tested_ok a p

and_false : (b : Bool) → (b && false) ≡ false
and_false true = refl
and_false false = refl

pub times_zero_is : (a : Items) → multiplied a zero_form ≡ Ok zero_form
times_zero_is a =
    let free : (holds_var a && holds_var zero_form) ≡ false = ap (λ b. holds_var a && b) (vars-items zero_form) ∙ and_false (holds_var a) in
    ap (λ b. cond b (let r : Result Items Fault = Err NotAffine in r) (tested (product_of a zero_form))) free ∙ ap tested (product-zero a)
    ∙ tested_ok zero_form zero_normal

-- ---- 1 and -1 against the 1 of a strict comparison

one-less : (c : ℤ) → (pos 1 +ℤ (negsuc 0 *ℤ c)) +ℤ (negsuc 0 *ℤ pos 1) ≡ pos 0 +ℤ (negsuc 0 *ℤ c)
one-less c = omega (arith, ints)

pub less-than-one : (a : Items) → difference_of (difference_of (literal_form (pos 1)) a) (literal_form (pos 1)) ≡ difference_of (literal_form (pos 0)) a
less-than-one a = λ j. record { terms = merged-nothing (minus a.terms) j; constant = one-less a.constant j }

one-more : (c : ℤ) → (c +ℤ (negsuc 0 *ℤ negsuc 0)) +ℤ (negsuc 0 *ℤ pos 1) ≡ c
one-more c = omega (arith, ints)

pub more-than-minus-one : (a : Items) → difference_of (difference_of a (literal_form (negsuc 0))) (literal_form (pos 1)) ≡ a
more-than-minus-one a = (λ j. record { terms = merged-nothing (merged a.terms []) j; constant = one-more a.constant j })
    ∙ (λ j. record { terms = merged-nothing a.terms j; constant = a.constant })
