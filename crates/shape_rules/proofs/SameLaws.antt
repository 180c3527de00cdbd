-- Extents are the same forms exactly where they are equal.
use Rattle.std.proofs.Common.{◌≡◌, [], ◌∷◌, refl, ap, subst, sym, ◌∙◌, Bool, true, false, ◌↔◌}
use Rattle.std.specs.Prelude.{IsTrue}
use Rattle.std.specs.Ordering.{is_eq}
use Rattle.std.specs.declared.cmp.Ordering.{Ordering}
use Rattle.std.specs.declared.cmp.Ordering.TheVariants.{Less, Equal, Greater}
use Rattle.std.proofs.lemmas.Bool.{and_from, and_parts}
use Rattle.affine_index.specs.Order.{atom_order, items_order}
use Rattle.affine_index.specs.declared.form.Items.{Items}
use Rattle.affine_index.specs.declared.form.Atom.{Atom, out-Atom}
use Rattle.affine_index.specs.declared.form.Atom.TheVariants.{Div}
use Rattle.affine_index.specs.declared.form.Atom.TheOpen.{Atom-F}
use Rattle.affine_index.proofs.EqualLaws.{atom_order-Equal}
use Rattle.affine_index.proofs.OrderLaws.{levels, order-out}
use Rattle.affine_index.proofs.ReadyLaws.{out-Div}
use Rattle.affine_index.proofs.TotalOrder.{order-same}
use Rattle.term_tree.specs.Shape.{Extents, same_form, same_forms}

-- quotients by one divisor are ordered as their dividends
order_Div : (i j : Items) → atom_order (Div i 2) (Div j 2) ≡ items_order i j
order_Div i j = order-out (Div i 2) (Div j 2) ∙ (λ k. levels (out-Div i 2 k) (out-Div j 2 k))

abbrev dividend : Atom-F Atom Items → Items → Items
dividend (Atom-F.Size s) d = d
dividend (Atom-F.Var v) d = d
dividend (Atom-F.Div i k) d = i
dividend (Atom-F.Mul fs) d = d

equal : (o : Ordering) → is_eq o ≡ true → o ≡ Equal
equal Less h = absurd (cc)
equal Equal h = refl
equal Greater h = absurd (cc)

pub same_form-equal : (i j : Items) → same_form i j ≡ true → i ≡ j
same_form-equal i j h =
    let e = atom_order-Equal (Div i 2) (Div j 2) (order_Div i j ∙ equal (items_order i j) h) in
    ap (λ x. dividend x i) (sym (out-Div i 2) ∙ ap out-Atom e ∙ out-Div j 2)

pub same_form-same : (i : Items) → same_form i i ≡ true
same_form-same i = ap is_eq (sym (order_Div i i) ∙ order-same (Div i 2))

pub same_forms-equal : (ns ms : Extents) → same_forms ns ms ≡ true → ns ≡ ms
same_forms-equal [] [] h = refl
same_forms-equal [] (m ∷ ms) h = absurd (cc)
same_forms-equal (n ∷ ns) [] h = absurd (cc)
same_forms-equal (n ∷ ns) (m ∷ ms) h =
    let p = and_parts (same_form n m) (same_forms ns ms) h in
    let a = same_form-equal n m p.0 in let b = same_forms-equal ns ms p.1 in λ i. a i ∷ b i

pub same_forms-same : (ns : Extents) → same_forms ns ns ≡ true
same_forms-same [] = refl
same_forms-same (n ∷ ns) = and_from (same_form n n) (same_forms ns ns) (same_form-same n) (same_forms-same ns)

-- a test that tells whether extents are equal is this one
pub same_forms-is : (b : Bool) (ns ms : Extents) → (IsTrue b ↔ (ns ≡ ms)) → b ≡ same_forms ns ms
same_forms-is true ns ms h =
    let e : ns ≡ ms = h.0 refl in subst (λ (ks : Extents). true ≡ same_forms ns ks) e (sym (same_forms-same ns))
same_forms-is false ns ms h = by (same_forms ns ms) refl
  where
    by : (s : Bool) → same_forms ns ms ≡ s → false ≡ same_forms ns ms
    by true e = let f : false ≡ true = h.1 (same_forms-equal ns ms e) in absurd (cc)
    by false e = sym e
