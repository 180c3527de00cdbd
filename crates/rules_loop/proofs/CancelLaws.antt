-- A form less another, and the other added: the form.
use Rattle.std.proofs.Common.{◌≡◌, List, [], ◌∷◌, refl, ap, sym, ◌∙◌, subst, arith, Bool, true, false}
use Rattle.std.specs.Prelude.{ℤ, pos, negsuc, ◌+ℤ◌, ◌*ℤ◌}
use Rattle.std.specs.Ordering.{int_eq, ordering_reverse}
use Rattle.std.specs.declared.cmp.Ordering.{Ordering}
use Rattle.std.specs.declared.cmp.Ordering.TheVariants.{Less, Equal, Greater}
use Rattle.std.proofs.lemmas.Int.{ints}
use Rattle.affine_index.specs.Normal.{is_ordered}
use Rattle.affine_index.specs.Order.{atom_order}
use Rattle.affine_index.specs.Sum.{difference_of, item_if, merged, onto_by, scaled_terms, sum_of}
use Rattle.affine_index.specs.declared.form.Atom.{Atom}
use Rattle.affine_index.specs.declared.form.Item.{Item}
use Rattle.affine_index.specs.declared.form.Items.{Items}
use Rattle.affine_index.proofs.EqualLaws.{atom_order-Equal}
use Rattle.affine_index.proofs.Sorted.{Before, EachItem, GoodItem, Sorted, before-closed, merged-each, ordered-terms}
use Rattle.affine_index.proofs.TotalOrder.{order-reverse, order-same}

abbrev Terms : Type 0
Terms = List (Item Atom)

-- each coefficient with the other sign
abbrev minus : Terms → Terms
minus = scaled_terms (negsuc 0)

-- one step of a sum, where it is known how the first atoms stand
merged-by : (a b : Item Atom) (as' bs : Terms) (o : Ordering) → atom_order a.atom b.atom ≡ o
    → merged (a ∷ as') (b ∷ bs) ≡ onto_by o a (merged as') b bs (merged (a ∷ as') bs)
merged-by a b as' bs o e = ap (λ o. onto_by o a (merged as') b bs (merged (a ∷ as') bs)) e

item_if-by : (z w : Bool) (t : Item Atom) (rest : Terms) → z ≡ w → item_if z t rest ≡ item_if w t rest
item_if-by z w t rest e = ap (λ z. item_if z t rest) e

-- in front of what stands after it
merged-front : (a : Item Atom) (as' bs : Terms) → EachItem (Before a.atom) bs → merged (a ∷ as') bs ≡ a ∷ merged as' bs
merged-front a as' [] h = refl
merged-front a as' (b ∷ bs) h = merged-by a b as' bs Less h.0

minus-before : (x : Atom) (ts : Terms) → EachItem (Before x) ts → EachItem (Before x) (minus ts)
minus-before x [] h = tt
minus-before x (t ∷ ts) h = (h.0, minus-before x ts h.1)

zero-cancels : (a : ℤ) → int_eq (a +ℤ (negsuc 0 *ℤ a)) (pos 0) ≡ true
zero-cancels a = grind (arith, ints)

same-left : (a b : ℤ) → a +ℤ (b +ℤ (negsuc 0 *ℤ a)) ≡ b
same-left a b = omega (arith, ints)

nothing-left : (a b : ℤ) → int_eq (b +ℤ (negsuc 0 *ℤ a)) (pos 0) ≡ true → a ≡ b
nothing-left a b h = grind (arith, ints)

turned : (a b : Atom) (o : Ordering) → atom_order a b ≡ o → atom_order b a ≡ ordering_reverse o
turned a b o e = order-reverse b a ∙ ap ordering_reverse e

-- an item onto itself with the other sign
gone : (a : Item Atom) (as' bs : Terms) → merged (a ∷ as') (record { atom = a.atom; coefficient = negsuc 0 *ℤ a.coefficient } ∷ bs) ≡ merged as' bs
gone a as' bs =
    merged-by a (record { atom = a.atom; coefficient = negsuc 0 *ℤ a.coefficient }) as' bs Equal (order-same a.atom)
    ∙ item_if-by (int_eq (a.coefficient +ℤ (negsuc 0 *ℤ a.coefficient)) (pos 0)) true _ (merged as' bs) (zero-cancels a.coefficient)

-- an item with the coefficients of two
abbrev rest_item : Item Atom → Item Atom → Item Atom
rest_item a b = record { atom = b.atom; coefficient = b.coefficient +ℤ (negsuc 0 *ℤ a.coefficient) }

given_back : (a b : Item Atom) (as' bs : Terms) → a.atom ≡ b.atom → int_eq b.coefficient (pos 0) ≡ false
    → merged (a ∷ as') (rest_item a b ∷ bs) ≡ b ∷ merged as' bs
given_back a b as' bs e h =
    merged-by a (rest_item a b) as' bs Equal (ap (λ x. atom_order a.atom x) (sym e) ∙ order-same a.atom)
    ∙ item_if-by _ false _ (merged as' bs) (ap (λ z. int_eq z (pos 0)) (same-left a.coefficient b.coefficient) ∙ h)
    ∙ (λ i. record { atom = e i; coefficient = same-left a.coefficient b.coefficient i } ∷ merged as' bs)

-- an item with the other sign
abbrev less : Item Atom → Item Atom
less a = record { atom = a.atom; coefficient = negsuc 0 *ℤ a.coefficient }

-- equal atoms, which leave nothing or a rest
equal_atoms : (a b : Item Atom) (as' bs : Terms) (z : Bool) → EachItem (Before a.atom) as' → Sorted (b ∷ bs) → int_eq b.coefficient (pos 0) ≡ false
    → merged as' (merged bs (minus as')) ≡ bs → a.atom ≡ b.atom → int_eq (b.coefficient +ℤ (negsuc 0 *ℤ a.coefficient)) (pos 0) ≡ z
    → merged (a ∷ as') (item_if z (rest_item a b) (merged bs (minus as'))) ≡ b ∷ bs
equal_atoms a b as' bs false sa sb g inside e h = given_back a b as' (merged bs (minus as')) e g ∙ ap (λ t. b ∷ t) inside
equal_atoms a b as' bs true sa sb g inside e h =
    let after = subst (λ (x : Atom). EachItem (Before x) bs) (sym e) sb.0 in
    merged-front a as' (merged bs (minus as')) (merged-each (Before a.atom) (before-closed a.atom) bs (minus as') after (minus-before a.atom as' sa))
    ∙ (λ i. record { atom = e i; coefficient = nothing-left a.coefficient b.coefficient h i } ∷ inside i)

cancels_onto : (a : Item Atom) (as' bs : Terms) → EachItem (Before a.atom) as'
    → ((cs : Terms) → Sorted cs → EachItem GoodItem cs → merged as' (merged cs (minus as')) ≡ cs) → Sorted bs → EachItem GoodItem bs
    → merged (a ∷ as') (merged bs (less a ∷ minus as')) ≡ bs
cancels_onto a as' [] sa h sb g = gone a as' (minus as') ∙ h [] tt tt
cancels_onto a as' (b ∷ bs) sa h sb g = by_order (atom_order a.atom b.atom) refl (cancels_onto a as' bs sa h sb.1 g.1)
  where
    by_order : (o : Ordering) → atom_order a.atom b.atom ≡ o → merged (a ∷ as') (merged bs (less a ∷ minus as')) ≡ bs
        → merged (a ∷ as') (merged (b ∷ bs) (less a ∷ minus as')) ≡ b ∷ bs
    by_order Less e later =
        ap (merged (a ∷ as')) (merged-by b (less a) bs (minus as') Greater (turned a.atom b.atom Less e))
        ∙ gone a as' (merged (b ∷ bs) (minus as')) ∙ h (b ∷ bs) sb g
    by_order Greater e later =
        ap (merged (a ∷ as')) (merged-by b (less a) bs (minus as') Less (turned a.atom b.atom Greater e))
        ∙ merged-by a b as' (merged bs (less a ∷ minus as')) Greater e ∙ ap (λ t. b ∷ t) later
    by_order Equal e later =
        ap (merged (a ∷ as')) (merged-by b (less a) bs (minus as') Equal (turned a.atom b.atom Equal e))
        ∙ equal_atoms a b as' bs (int_eq (b.coefficient +ℤ (negsuc 0 *ℤ a.coefficient)) (pos 0)) sa sb g.0.1 (h bs sb.1 g.1)
        (atom_order-Equal a.atom b.atom e) refl

nil-merged : (bs : Terms) → merged bs [] ≡ bs
nil-merged [] = refl
nil-merged (b ∷ bs) = ap (λ t. b ∷ t) (nil-merged bs)

cancels : (as' bs : Terms) → Sorted as' → Sorted bs → EachItem GoodItem bs → merged as' (merged bs (minus as')) ≡ bs
cancels [] bs sa sb g = nil-merged bs
cancels (a ∷ as') bs sa sb g = cancels_onto a as' bs sa.0 (λ cs sc gc. cancels as' cs sa.1 sc gc) sb g

-- x + (n - x) is n
pub sum-difference : (n x : Items) → is_ordered n ≡ true → is_ordered x ≡ true → sum_of x (difference_of n x) ≡ n
sum-difference n x p q =
    let tn = ordered-terms n p in
    let tx = ordered-terms x q in
    (λ i. record { terms = cancels x.terms n.terms tx.0 tn.0 tn.1 i; constant = same-left x.constant n.constant i })
