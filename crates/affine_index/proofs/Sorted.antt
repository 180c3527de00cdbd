-- Lists of items in order, each atom before all that follow.
use Rattle.std.proofs.Common.{◌≡◌, List, [], ◌∷◌, refl, ap, sym, ◌∙◌, subst, Bool, true, false}
use Rattle.std.specs.Prelude.{pos, ◌+ℤ◌}
use Rattle.std.specs.Ordering.{int_eq, is_lt, ordering_reverse}
use Rattle.std.specs.declared.cmp.Ordering.{Ordering}
use Rattle.std.specs.declared.cmp.Ordering.TheVariants.{Less, Equal, Greater}
use Rattle.std.proofs.lemmas.Bool.{and_from, and_parts}
use Rattle.affine_index.specs.Normal.{atom_good, atom_is_ordered, is_ordered, items_good, none_zero, stands_before, terms_in_order}
use Rattle.affine_index.specs.Every.{terms_every}
use Rattle.affine_index.specs.Order.{atom_order}
use Rattle.affine_index.specs.Sum.{item_if, merged, onto, onto_by, sum_of}
use Rattle.affine_index.proofs.EqualLaws.{atom_order-Equal}
use Rattle.affine_index.proofs.EveryLaws.{every-items}
use Rattle.affine_index.proofs.ReadyLaws.{ordered-items}
use Rattle.affine_index.proofs.TotalOrder.{order-reverse, order-trans}
use Rattle.affine_index.specs.declared.form.Atom.{Atom}
use Rattle.affine_index.specs.declared.form.Item.{Item}
use Rattle.affine_index.specs.declared.form.Items.{Items}

-- a fact of each item of a list
abbrev pub EachItem : (Item Atom → Type 0) → List (Item Atom) → Type 0
EachItem Q [] = Unit {0}
EachItem Q (t ∷ ts) = Q t × EachItem Q ts

pub weaken : (P Q : Item Atom → Type 0) → ((t : Item Atom) → P t → Q t) → (ts : List (Item Atom)) → EachItem P ts → EachItem Q ts
weaken P Q f [] h = tt
weaken P Q f (t ∷ ts) h = (f t h.0, weaken P Q f ts h.1)

-- the sum of the items of one atom
abbrev added : Item Atom → Item Atom → Item Atom
added a b = record { atom = a.atom; coefficient = a.coefficient +ℤ b.coefficient }

abbrev Closed : (Item Atom → Type 0) → Type 0
Closed Q = (a b : Item Atom) → Q a → Q b → int_eq (a.coefficient +ℤ b.coefficient) (pos 0) ≡ false → Q (added a b)

module _ (Q : Item Atom → Type 0) (closed : Closed Q) where
  item_if-each : (z : Bool) (t : Item Atom) (rest : List (Item Atom)) → (z ≡ false → Q t) → EachItem Q rest → EachItem Q (item_if z t rest)
  item_if-each true t rest q h = h
  item_if-each false t rest q h = (q refl, h)

  pub onto-each : (a : Item Atom) (as' bs : List (Item Atom)) → Q a → EachItem Q bs → ((cs : List (Item Atom)) → EachItem Q cs → EachItem Q (merged as' cs))
      → EachItem Q (onto a (merged as') bs)
  onto-each a as' [] qa hb h = (qa, h [] tt)
  onto-each a as' (b ∷ bs) qa hb h = by_order (atom_order a.atom b.atom) (onto-each a as' bs qa hb.1 h)
    where
      by_order : (o : Ordering) → EachItem Q (onto a (merged as') bs) → EachItem Q (onto_by o a (merged as') b bs (onto a (merged as') bs))
      by_order Less later = (qa, h (b ∷ bs) hb)
      by_order Greater later = (hb.0, later)
      by_order Equal later = item_if-each (int_eq (a.coefficient +ℤ b.coefficient) (pos 0)) (added a b) (merged as' bs) (closed a b qa hb.0) (h bs hb.1)

  pub merged-each : (as' bs : List (Item Atom)) → EachItem Q as' → EachItem Q bs → EachItem Q (merged as' bs)
  merged-each [] bs ha hb = hb
  merged-each (a ∷ as') bs ha hb = onto-each a as' bs ha.0 hb (λ cs hc. merged-each as' cs ha.1 hc)

-- an atom before that of an item
abbrev pub Before : Atom → Item Atom → Type 0
Before x t = atom_order x t.atom ≡ Less

-- each atom before all that follow
abbrev pub Sorted : List (Item Atom) → Type 0
Sorted [] = Unit {0}
Sorted (t ∷ ts) = EachItem (Before t.atom) ts × Sorted ts

pub before-closed : (x : Atom) → Closed (Before x)
before-closed x a b qa qb n = qa

turned : (a b : Atom) → atom_order a b ≡ Greater → atom_order b a ≡ Less
turned a b e = order-reverse b a ∙ ap ordering_reverse e

pub all_after : (x y : Atom) (ts : List (Item Atom)) → atom_order x y ≡ Less → EachItem (Before y) ts → EachItem (Before x) ts
all_after x y ts e = weaken (Before y) (Before x) (λ t h. order-trans x y t.atom e h) ts

item_if-sorted : (z : Bool) (t : Item Atom) (rest : List (Item Atom)) → EachItem (Before t.atom) rest → Sorted rest → Sorted (item_if z t rest)
item_if-sorted true t rest q h = h
item_if-sorted false t rest q h = (q, h)

onto-sorted : (a : Item Atom) (as' bs : List (Item Atom)) → EachItem (Before a.atom) as' → Sorted bs
    → ((cs : List (Item Atom)) → Sorted cs → Sorted (merged as' cs)) → Sorted (onto a (merged as') bs)
onto-sorted a as' [] sa sb h = (merged-each (Before a.atom) (before-closed a.atom) as' [] sa tt, h [] tt)
onto-sorted a as' (b ∷ bs) sa sb h = by_order (atom_order a.atom b.atom) refl (onto-sorted a as' bs sa sb.1 h)
  where
    by_order : (o : Ordering) → atom_order a.atom b.atom ≡ o → Sorted (onto a (merged as') bs) → Sorted (onto_by o a (merged as') b bs (onto a (merged as') bs))
    by_order Less e later =
        (merged-each (Before a.atom) (before-closed a.atom) as' (b ∷ bs) sa (e, all_after a.atom b.atom bs e sb.0), h (b ∷ bs) sb)
    by_order Greater e later =
        let f : atom_order b.atom a.atom ≡ Less = turned a.atom b.atom e in (
          onto-each (Before b.atom) (before-closed b.atom) a as' bs f sb.0
              (λ cs hc. merged-each (Before b.atom) (before-closed b.atom) as' cs (all_after b.atom a.atom as' f sa) hc),
          later,
        )
    by_order Equal e later =
        let same : b.atom ≡ a.atom = sym (atom_order-Equal a.atom b.atom e) in
        item_if-sorted (int_eq (a.coefficient +ℤ b.coefficient) (pos 0)) (added a b) (merged as' bs)
        (merged-each (Before a.atom) (before-closed a.atom) as' bs sa (subst (λ (x : Atom). EachItem (Before x) bs) same sb.0)) (h bs sb.1)

pub merged-sorted : (as' bs : List (Item Atom)) → Sorted as' → Sorted bs → Sorted (merged as' bs)
merged-sorted [] bs sa sb = sb
merged-sorted (a ∷ as') bs sa sb = onto-sorted a as' bs sa.0 sb (λ cs hc. merged-sorted as' cs sa.1 hc)

is_lt-Less : (o : Ordering) → is_lt o ≡ true → o ≡ Less
is_lt-Less Less e = refl
is_lt-Less Equal e = absurd (cc)
is_lt-Less Greater e = absurd (cc)

first_before : (x : Atom) (ts : List (Item Atom)) → stands_before x ts ≡ true → Sorted ts → EachItem (Before x) ts
first_before x [] h s = tt
first_before x (t ∷ ts) h s = let e = is_lt-Less (atom_order x t.atom) h in (e, all_after x t.atom ts e s.0)

in_order-sorted : (ts : List (Item Atom)) → terms_in_order ts ≡ true → Sorted ts
in_order-sorted [] h = tt
in_order-sorted (t ∷ ts) h =
    let parts = and_parts (stands_before t.atom ts) (terms_in_order ts) h in
    let rest = in_order-sorted ts parts.1 in
    (first_before t.atom ts parts.0 rest, rest)

each-first : (x : Atom) (ts : List (Item Atom)) → EachItem (Before x) ts → stands_before x ts ≡ true
each-first x [] h = refl
each-first x (t ∷ ts) h = ap is_lt h.0

sorted-in_order : (ts : List (Item Atom)) → Sorted ts → terms_in_order ts ≡ true
sorted-in_order [] s = refl
sorted-in_order (t ∷ ts) s = and_from (stands_before t.atom ts) (terms_in_order ts) (each-first t.atom ts s.0) (sorted-in_order ts s.1)

-- an item of a normal form: its atom is one, and its coefficient not 0
abbrev pub GoodItem : Item Atom → Type 0
GoodItem t = (atom_is_ordered t.atom ≡ true) × (int_eq t.coefficient (pos 0) ≡ false)

pub good-closed : Closed GoodItem
good-closed a b qa qb n = (qa.0, n)

-- the items of a normal form
abbrev pub OrderedTerms : List (Item Atom) → Type 0
OrderedTerms ts = Sorted ts × EachItem GoodItem ts

not-true : (b : Bool) → (b ≡ false) → (elim b as (λ _. Bool) [ true ↦ false | false ↦ true ]) ≡ true
not-true true h = absurd (cc)
not-true false h = refl

both_good : (ts : List (Item Atom)) → terms_every atom_good items_good ts ≡ true → none_zero ts ≡ true → EachItem GoodItem ts
both_good [] e n = tt
both_good (t ∷ ts) e n =
    let es = and_parts (atom_is_ordered t.atom) (terms_every atom_good items_good ts) e in
    let ns = and_parts _ (none_zero ts) n in
    ((es.0, from_not (int_eq t.coefficient (pos 0)) ns.0), both_good ts es.1 ns.1)
  where
    from_not : (b : Bool) → (elim b as (λ _. Bool) [ true ↦ false | false ↦ true ]) ≡ true → b ≡ false
    from_not true h = absurd (cc)
    from_not false h = refl

pub ordered-terms : (i : Items) → is_ordered i ≡ true → OrderedTerms i.terms
ordered-terms i h =
    let parts = ordered-items i h in
    let goods = and_parts (terms_in_order i.terms) (none_zero i.terms) parts.0 in
    (in_order-sorted i.terms goods.0, both_good i.terms parts.1 goods.1)

good-every : (ts : List (Item Atom)) → EachItem GoodItem ts → terms_every atom_good items_good ts ≡ true
good-every [] h = refl
good-every (t ∷ ts) h = and_from (atom_is_ordered t.atom) (terms_every atom_good items_good ts) h.0.0 (good-every ts h.1)

good-nonzero : (ts : List (Item Atom)) → EachItem GoodItem ts → none_zero ts ≡ true
good-nonzero [] h = refl
good-nonzero (t ∷ ts) h = and_from _ (none_zero ts) (not-true (int_eq t.coefficient (pos 0)) h.0.1) (good-nonzero ts h.1)

pub terms-ordered : (i : Items) → OrderedTerms i.terms → is_ordered i ≡ true
terms-ordered i o =
    every-items atom_good items_good i
    ∙ and_from (items_good i) (terms_every atom_good items_good i.terms)
    (and_from (terms_in_order i.terms) (none_zero i.terms) (sorted-in_order i.terms o.0) (good-nonzero i.terms o.1)) (good-every i.terms o.1)

-- the sum of two normal forms is one, but for the limits
pub sum-ordered : (a b : Items) → is_ordered a ≡ true → is_ordered b ≡ true → is_ordered (sum_of a b) ≡ true
sum-ordered a b oa ob =
    let ta = ordered-terms a oa in
    let tb = ordered-terms b ob in
    terms-ordered (sum_of a b) (merged-sorted a.terms b.terms ta.0 tb.0, merged-each GoodItem good-closed a.terms b.terms ta.1 tb.1)
