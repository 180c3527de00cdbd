-- The quotients and products within a normal form are those of normal forms.
use Rattle.std.proofs.Common.{◌≡◌, List, [], ◌∷◌, ◌++◌, sym, subst, true}
use Rattle.affine_index.specs.Normal.{is_ordered}
use Rattle.affine_index.proofs.Factors.{Ordered, mul_parts}
use Rattle.affine_index.proofs.Induction.{Each, EachTerm, for_items}
use Rattle.affine_index.proofs.ReadyLaws.{ordered-Div}
use Rattle.affine_index.proofs.Sorted.{EachItem, GoodItem, ordered-terms}
use Rattle.fact_list.proofs.WithinLaws.{parts-Size, parts-Var, parts-Div, parts-Mul, parts-items}
use Rattle.fact_list.specs.Within.{atom_parts, form_parts, list_parts, terms_parts}
use Rattle.affine_index.specs.declared.form.Atom.{Atom}
use Rattle.affine_index.specs.declared.form.Item.{Item}
use Rattle.affine_index.specs.declared.form.Items.{Items}

pub each-append : (P : Atom → Type 0) (as' bs : List Atom) → Each P as' → Each P bs → Each P (as' ++ bs)
each-append P [] bs h g = g
each-append P (a ∷ as') bs h g = (h.0, each-append P as' bs h.1 g)

abbrev AtomParts : Atom → Type 0
AtomParts a = Ordered a → Each Ordered (atom_parts a)

abbrev FormParts : Items → Type 0
FormParts i = is_ordered i ≡ true → Each Ordered (form_parts i)

list-parts : (fs : List Atom) → Each AtomParts fs → Each Ordered fs → Each Ordered (list_parts fs)
list-parts [] h o = tt
list-parts (f ∷ fs) h o = each-append Ordered (atom_parts f) (list_parts fs) (h.0 o.0) (list-parts fs h.1 o.1)

terms-parts : (ts : List (Item Atom)) → EachTerm AtomParts ts → EachItem GoodItem ts → Each Ordered (terms_parts ts)
terms-parts [] h o = tt
terms-parts (t ∷ ts) h o = each-append Ordered (atom_parts t.atom) (terms_parts ts) (h.0 o.0.0) (terms-parts ts h.1 o.1)

pub parts-ordered : (i : Items) → FormParts i
parts-ordered = for_items AtomParts FormParts
    (λ s o. subst (Each Ordered) (sym (parts-Size s)) tt)
    (λ v o. subst (Each Ordered) (sym (parts-Var v)) tt)
    (λ i k h o. subst (Each Ordered) (sym (parts-Div i k)) (o, h (ordered-Div i k o).1))
    (λ fs h o. subst (Each Ordered) (sym (parts-Mul fs)) (o, list-parts fs h (mul_parts fs o).good.ordered))
    (λ ts c h o. subst (Each Ordered) (sym (parts-items (record { terms = ts; constant = c })))
    (terms-parts ts h (ordered-terms (record { terms = ts; constant = c }) o).1))
