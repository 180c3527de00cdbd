-- The equations of the order.
use Rattle.std.proofs.Common.{◌≡◌, ℕ, zero, suc, ◌≤◌, min, length, drop, arith, List, [], ◌∷◌, map, refl, ap, sym, ◌∙◌}
use Rattle.std.specs.Ordering.{nat_cmp, int_cmp, ordering_then}
use Rattle.std.specs.declared.cmp.Ordering.{Ordering}
use Rattle.affine_index.specs.Order.{factors_against, terms_against, against, atom_against, items_against, atom_order, items_order, factors_order, terms_order}
use Rattle.affine_index.specs.declared.form.Atom.{Atom, out-Atom}
use Rattle.affine_index.specs.declared.form.Item.{Item}
use Rattle.affine_index.specs.declared.form.Items.{Items}
use Rattle.affine_index.specs.declared.form.Atom.TheOpen.{Atom-F}
use Rattle.affine_index.specs.declared.form.Atom.TheViews.{out-roll-Atom}
use Rattle.affine_index.specs.declared.form.Atom.TheVariants.{Mul, rolls-Mul}
use Rattle.affine_index.specs.declared.form.Atom.TheFolds.{fold-roll-Atom, fold_out-Atom, fold_out-Items, map-Atom}

factors_map : (fs gs : List Atom) → factors_against (map atom_order fs) gs ≡ factors_order fs gs
factors_map [] [] = refl
factors_map [] (g ∷ gs) = refl
factors_map (f ∷ fs) [] = refl
factors_map (f ∷ fs) (g ∷ gs) = ap (ordering_then (atom_order f g)) (factors_map fs gs)

terms_map : (fs gs : List (Item Atom)) → terms_against (map (λ t. record { atom = atom_order t.atom; coefficient = t.coefficient }) fs) gs ≡ terms_order fs gs
terms_map [] [] = refl
terms_map [] (g ∷ gs) = refl
terms_map (f ∷ fs) [] = refl
terms_map (f ∷ fs) (g ∷ gs) = ap (ordering_then (ordering_then (atom_order f.atom g.atom) (int_cmp f.coefficient g.coefficient))) (terms_map fs gs)

-- the order of two levels
abbrev pub levels : Atom-F Atom Items → Atom-F Atom Items → Ordering
levels x y = against (map-Atom Atom Items (Atom → Ordering) (Items → Ordering) atom_order items_order x) y

pub order-out : (a b : Atom) → atom_order a b ≡ levels (out-Atom a) (out-Atom b)
order-out a b = ap (λ f. f b) (fold_out-Atom (Atom → Ordering) (Items → Ordering) atom_against items_against a)

pub order-items : (i j : Items) → items_order i j ≡ ordering_then (terms_order i.terms j.terms) (int_cmp i.constant j.constant)
order-items i j = ap (λ f. f j) (fold_out-Items (Atom → Ordering) (Items → Ordering) atom_against items_against i)
    ∙ ap (λ o. ordering_then o (int_cmp i.constant j.constant)) (terms_map i.terms j.terms)

pub order-factors : (fs gs : List Atom) → factors_against (map atom_order fs) gs ≡ factors_order fs gs
order-factors = factors_map

-- where one of two equal lists has ended
pub factors-end : (i : ℕ) (a b : List Atom) → i ≤ length a → i ≤ length b → min (length a) (length b) ≤ i
    → factors_order (drop i a) (drop i b) ≡ nat_cmp (length a) (length b)
factors-end zero [] [] p q e = refl
factors-end zero [] (b ∷ bs) p q e = grind arith
factors-end zero (a ∷ as') [] p q e = grind arith
factors-end zero (a ∷ as') (b ∷ bs) p q e = absurd (omega arith)
factors-end (suc i) [] b p q e = absurd (omega arith)
factors-end (suc i) (a ∷ as') [] p q e = absurd (omega arith)
factors-end (suc i) (a ∷ as') (b ∷ bs) p q e = factors-end i as' bs (omega arith) (omega arith) (omega arith) ∙ grind arith

pub terms-end : (i : ℕ) (a b : List (Item Atom)) → i ≤ length a → i ≤ length b → min (length a) (length b) ≤ i
    → terms_order (drop i a) (drop i b) ≡ nat_cmp (length a) (length b)
terms-end zero [] [] p q e = refl
terms-end zero [] (b ∷ bs) p q e = grind arith
terms-end zero (a ∷ as') [] p q e = grind arith
terms-end zero (a ∷ as') (b ∷ bs) p q e = absurd (omega arith)
terms-end (suc i) [] b p q e = absurd (omega arith)
terms-end (suc i) (a ∷ as') [] p q e = absurd (omega arith)
terms-end (suc i) (a ∷ as') (b ∷ bs) p q e = terms-end i as' bs (omega arith) (omega arith) (omega arith) ∙ grind arith

pub ruleset order_laws = (order-items, order-factors)

pub order-Mul : (fs gs : List Atom) → atom_order (Mul fs) (Mul gs) ≡ factors_order fs gs
order-Mul fs gs = ap (λ f. f (Mul gs))
    (ap atom_order (sym (rolls-Mul fs)) ∙ fold-roll-Atom (Atom → Ordering) (Items → Ordering) atom_against items_against (Atom-F.Mul fs))
    ∙ ap (against (Atom-F.Mul (map atom_order fs))) (ap out-Atom (sym (rolls-Mul gs)) ∙ out-roll-Atom (Atom-F.Mul gs)) ∙ factors_map fs gs
