-- Induction over atoms and forms, with the list of what holds of each part.
use Rattle.std.proofs.Common.{ℕ, List, [], ◌∷◌, map, subst, sym}
use Rattle.std.specs.Prelude.{ℤ}
use Rattle.affine_index.specs.declared.form.Atom.{Atom}
use Rattle.affine_index.specs.declared.form.Item.{Item}
use Rattle.affine_index.specs.declared.form.Items.{Items}
use Rattle.affine_index.specs.declared.form.Atom.TheVariants.{Size, Var, Div, Mul, rolls-Size, rolls-Var, rolls-Mul, rolls-Div}
use Rattle.affine_index.specs.declared.form.Atom.TheOpen.{Atom-F, Items-F}
use Rattle.affine_index.specs.declared.form.Atom.TheViews.{roll-Atom, roll-Items}
use Rattle.affine_index.specs.declared.form.Atom.TheFolds.{map-Atom, map-Items, ind-Atom, ind-Items}

-- a fact of each atom of a list
abbrev pub Each : (Atom → Type 0) → List Atom → Type 0
Each P [] = Unit {0}
Each P (a ∷ as') = P a × Each P as'

-- a fact of the atom of each item of a list
abbrev pub EachTerm : (Atom → Type 0) → List (Item Atom) → Type 0
EachTerm P [] = Unit {0}
EachTerm P (t ∷ ts) = P t.atom × EachTerm P ts

module _ (P : Atom → Type 0) (Q : Items → Type 0)
    (at_size : (s : ℕ) → P (Size s)) (at_var : (v : ℕ) → P (Var v)) (at_div : (i : Items) (k : ℕ) → Q i → P (Div i k))
    (at_mul : (fs : List Atom) → Each P fs → P (Mul fs)) (at_form : (ts : List (Item Atom)) (c : ℤ) → EachTerm P ts → Q (record { terms = ts; constant = c }))
  where
    abbrev GoodAtom : Type 0
    GoodAtom = (a : Atom) × P a

    abbrev GoodItems : Type 0
    GoodItems = (i : Items) × Q i

    abbrev with_atom : {A B : Type 0} → (A → B) → Item A → Item B
    with_atom f t = record { atom = f t.atom; coefficient = t.coefficient }

    each_of : (ps : List GoodAtom) → Each P (map (λ p. p.0) ps)
    each_of [] = tt
    each_of (p ∷ ps) = (p.1, each_of ps)

    each_term_of : (ts : List (Item GoodAtom)) → EachTerm P (map (with_atom (λ p. p.0)) ts)
    each_term_of [] = tt
    each_term_of (t ∷ ts) = (t.atom.1, each_term_of ts)

    atom_case : (y : Atom-F GoodAtom GoodItems) → P (roll-Atom (map-Atom GoodAtom GoodItems Atom Items (λ e. e.0) (λ e. e.0) y))
    atom_case (Atom-F.Size s) = subst P (sym (rolls-Size s)) (at_size s)
    atom_case (Atom-F.Var v) = subst P (sym (rolls-Var v)) (at_var v)
    atom_case (Atom-F.Div i k) = subst P (sym (rolls-Div i.0 k)) (at_div i.0 k i.1)
    atom_case (Atom-F.Mul fs) = subst P (sym (rolls-Mul (map (λ p. p.0) fs))) (at_mul (map (λ p. p.0) fs) (each_of fs))

    items_case : (y : Items-F GoodAtom GoodItems) → Q (roll-Items (map-Items GoodAtom GoodItems Atom Items (λ e. e.0) (λ e. e.0) y))
    items_case y = at_form (map (with_atom (λ p. p.0)) y.terms) y.constant (each_term_of y.terms)

    pub for_atoms : (a : Atom) → P a
    for_atoms = ind-Atom P Q (λ x y is. subst (λ z. P (roll-Atom z)) is (atom_case y)) (λ x y is. subst (λ z. Q (roll-Items z)) is (items_case y))

    pub for_items : (i : Items) → Q i
    for_items = ind-Items P Q (λ x y is. subst (λ z. P (roll-Atom z)) is (atom_case y)) (λ x y is. subst (λ z. Q (roll-Items z)) is (items_case y))
