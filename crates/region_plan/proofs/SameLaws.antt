-- Forms are the same exactly where they are equal.
use Rattle.std.proofs.Common.{◌≡◌, refl, ap, subst, sym, ◌∙◌, Bool, true, false, ◌↔◌}
use Rattle.std.specs.Prelude.{IsTrue}
use Rattle.std.specs.Ordering.{is_eq}
use Rattle.std.specs.declared.cmp.Ordering.{Ordering}
use Rattle.std.specs.declared.cmp.Ordering.TheVariants.{Less, Equal, Greater}
use Rattle.affine_index.specs.Order.{atom_order, items_order}
use Rattle.affine_index.specs.declared.form.Items.{Items}
use Rattle.affine_index.specs.declared.form.Atom.{Atom, out-Atom}
use Rattle.affine_index.specs.declared.form.Atom.TheVariants.{Div}
use Rattle.affine_index.specs.declared.form.Atom.TheOpen.{Atom-F}
use Rattle.affine_index.proofs.EqualLaws.{atom_order-Equal}
use Rattle.affine_index.proofs.OrderLaws.{levels, order-out}
use Rattle.affine_index.proofs.ReadyLaws.{out-Div}
use Rattle.affine_index.proofs.TotalOrder.{order-same}
use Rattle.term_tree.specs.Shape.{same_form}

-- quotients by one divisor are ordered as their dividends
order_Div : (i j : Items) → atom_order (Div i 2) (Div j 2) ≡ items_order i j
order_Div i j = order-out (Div i 2) (Div j 2) ∙ (λ k. levels (out-Div i 2 k) (out-Div j 2 k))

abbrev dividend : Atom-F Atom Items → Items → Items
dividend (Atom-F.Size s) d = d
dividend (Atom-F.Var v) d = d
dividend (Atom-F.Div i k) d = i
dividend (Atom-F.Mul fs) d = d

equal : (o : Ordering) → is_eq o ≡ true → o ≡ Equal
equal Less h = absurd (cc)
equal Equal h = refl
equal Greater h = absurd (cc)

pub same_form-equal : (i j : Items) → same_form i j ≡ true → i ≡ j
same_form-equal i j h =
    let e = atom_order-Equal (Div i 2) (Div j 2) (order_Div i j ∙ equal (items_order i j) h) in
    ap (λ x. dividend x i) (sym (out-Div i 2) ∙ ap out-Atom e ∙ out-Div j 2)

pub same_form-same : (i : Items) → same_form i i ≡ true
same_form-same i = ap is_eq (sym (order_Div i i) ∙ order-same (Div i 2))

-- a test that tells whether forms are equal is this one
pub same_form-is : (b : Bool) (i j : Items) → (IsTrue b ↔ (i ≡ j)) → b ≡ same_form i j
same_form-is true i j h =
    let e : i ≡ j = h.0 refl in subst (λ (k : Items). true ≡ same_form i k) e (sym (same_form-same i))
same_form-is false i j h = by (same_form i j) refl
  where
    by : (s : Bool) → same_form i j ≡ s → false ≡ same_form i j
    by true e = let f : false ≡ true = h.1 (same_form-equal i j e) in absurd (cc)
    by false e = sym e
