-- What equality of atoms, and forms made of items, rest on.
use Rattle.std.proofs.Common.{◌≡◌, ◌↔◌, ℕ, zero, suc, ◌+◌, ◌<◌, List, [], ◌∷◌, ◌++◌, length, take, get_or, refl, ap, sym, ◌∙◌, subst, Bool, true, false, ◌&&◌}
use Rattle.std.proofs.Common.{not, IsTrue, arith}
use Rattle.std.specs.Prelude.{pos}
use Rattle.std.specs.Ordering.{int_eq, is_eq}
use Rattle.std.specs.declared.cmp.Ordering.{Ordering}
use Rattle.std.specs.declared.cmp.Ordering.TheVariants.{Less, Equal, Greater}
use Rattle.std.proofs.lemmas.Bool.{and_parts}
use Rattle.affine_index.specs.Form.{of_atom}
use Rattle.affine_index.specs.Normal.{is_normal, is_ordered, none_zero}
use Rattle.affine_index.specs.Order.{atom_order}
use Rattle.affine_index.specs.Sum.{scaled}
use Rattle.affine_index.proofs.ArithmeticLaws.{normal-ordered}
use Rattle.affine_index.proofs.EqualLaws.{atom_order-Equal}
use Rattle.affine_index.proofs.PutFree.{scaled-atom}
use Rattle.affine_index.proofs.Sorted.{EachItem, GoodItem, ordered-terms}
use Rattle.affine_index.proofs.TotalOrder.{order-same}
use Rattle.affine_index.specs.declared.form.Atom.{Atom}
use Rattle.affine_index.specs.declared.form.Item.{Item}
use Rattle.affine_index.specs.declared.form.Items.{Items}
use Rattle.fact_list.specs.Atoms.{same_atoms}

-- atoms that compare equal are equal
pub same-is : (a b : Atom) → same_atoms a b ≡ true → a ≡ b
same-is a b h = by (atom_order a b) refl h
  where
    by : (o : Ordering) → atom_order a b ≡ o → is_eq o ≡ true → a ≡ b
    by Less e h = absurd (cc)
    by Equal e h = atom_order-Equal a b e
    by Greater e h = absurd (cc)

pub same-self : (a : Atom) → same_atoms a a ≡ true
same-self a = ap is_eq (order-same a)

-- a test that answers whether atoms are equal
pub same-test : (r : Bool) (a b : Atom) → (IsTrue r ↔ (a ≡ b)) → r ≡ same_atoms a b
same-test r a b h = by r (same_atoms a b) refl refl
  where
    by : (x y : Bool) → r ≡ x → same_atoms a b ≡ y → x ≡ y
    by true true e f = refl
    by false false e f = refl
    by true false e f = sym (subst (λ z. same_atoms a z ≡ true) (h.0 e) (same-self a)) ∙ f
    by false true e f = sym e ∙ h.1 (same-is a b f)

-- the items of a normal form have coefficients
nonzero : (ts : List (Item Atom)) → none_zero ts ≡ true → (i : ℕ) (x : Item Atom) → i < length ts → x ≡ get_or ts i x → int_eq x.coefficient (pos 0) ≡ false
nonzero [] n i x h e = absurd (omega arith)
nonzero (t ∷ ts) n zero x h e = ap (λ (y : Item Atom). int_eq y.coefficient (pos 0)) e
    ∙ from_not (int_eq t.coefficient (pos 0)) (and_parts (not (int_eq t.coefficient (pos 0))) (none_zero ts) n).0
  where
    from_not : (b : Bool) → not b ≡ true → b ≡ false
    from_not true h = absurd (cc)
    from_not false h = refl
nonzero (t ∷ ts) n (suc i) x h e = nonzero ts (and_parts (not (int_eq t.coefficient (pos 0))) (none_zero ts) n).1 i x (omega arith) e

one_item : (x : Item Atom) → int_eq x.coefficient (pos 0) ≡ false → (scaled x.coefficient (of_atom x.atom)).terms ≡ x ∷ []
one_item x n = ap (λ (f : Items). f.terms) (scaled-atom x.coefficient x.atom n)

take_more : (ts : List (Item Atom)) (i : ℕ) (x : Item Atom) → i < length ts → x ≡ get_or ts i x → take i ts ++ x ∷ [] ≡ take (suc i) ts
take_more [] i x h e = absurd (omega arith)
take_more (t ∷ ts) zero x h e = ap (λ (y : Item Atom). y ∷ []) e
take_more (t ∷ ts) (suc i) x h e = ap (λ (us : List (Item Atom)). t ∷ us) (take_more ts i x (omega arith) e)

-- one item more
pub item-next : (ts : List (Item Atom)) (i : ℕ) (x : Item Atom) (some one more : List (Item Atom)) (f : Items) → none_zero ts ≡ true → i < length ts
    → x ≡ get_or ts i x
    → some ≡ take i ts → f ≡ scaled x.coefficient (of_atom x.atom) → one ≡ f.terms → more ≡ some ++ one → more ≡ take (i + 1) ts
item-next ts i x some one more f n h e a b c d =
    d ∙ (λ k. a k ++ (c ∙ ap (λ (g : Items). g.terms) b ∙ one_item x (nonzero ts n i x h e)) k) ∙ take_more ts i x h e ∙ ap (λ (m : ℕ). take m ts) (turn i)
  where
    turn : (i : ℕ) → suc i ≡ i + 1
    turn i = omega arith

pub normal-nonzero : (i : Items) → is_normal i ≡ true → none_zero i.terms ≡ true
normal-nonzero i h = by i.terms (ordered-terms i (and_parts (is_ordered i) _ h).0).1
  where
    to_not : (b : Bool) → b ≡ false → not b ≡ true
    to_not true h = absurd (cc)
    to_not false h = refl

    by : (ts : List (Item Atom)) → EachItem GoodItem ts → none_zero ts ≡ true
    by [] g = refl
    by (t ∷ ts) g = (λ k. to_not (int_eq t.coefficient (pos 0)) g.0.1 k && none_zero ts) ∙ by ts g.1

pub ruleset item_laws = (normal-nonzero, normal-ordered)
