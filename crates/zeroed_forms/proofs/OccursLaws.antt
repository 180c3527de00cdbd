-- The equations of whether a quotient or product stands within a form.
use Rattle.std.proofs.Common.{◌≡◌, ℕ, List, [], ◌∷◌, ◌++◌, refl, ap, ◌∙◌, Bool, true, false, ◌||◌}
use Rattle.affine_index.specs.declared.form.Atom.{Atom}
use Rattle.affine_index.specs.declared.form.Atom.TheVariants.{Size, Var, Div, Mul}
use Rattle.affine_index.specs.declared.form.Item.{Item}
use Rattle.affine_index.specs.declared.form.Items.{Items}
use Rattle.fact_list.specs.Atoms.{same_atoms, stands_in}
use Rattle.fact_list.specs.Within.{atom_parts, list_parts, terms_parts}
use Rattle.fact_list.proofs.WithinLaws.{parts-Div, parts-Mul, parts-Size, parts-Var, parts-items}
use Rattle.zeroed_forms.specs.Occurs.{atom_has, atoms_have, occurs, terms_have}

or_again : (a b c : Bool) → (a || (b || c)) ≡ ((a || b) || c)
or_again true b c = refl
or_again false b c = refl

module _ (z : Atom) where
  stands-append : (xs ys : List Atom) → stands_in z (xs ++ ys) ≡ (stands_in z xs || stands_in z ys)
  stands-append [] ys = refl
  stands-append (x ∷ xs) ys = ap (λ b. same_atoms z x || b) (stands-append xs ys) ∙ or_again (same_atoms z x) (stands_in z xs) (stands_in z ys)

  list_has : (fs : List Atom) → stands_in z (list_parts fs) ≡ atoms_have z fs
  list_has [] = refl
  list_has (f ∷ fs) = stands-append (atom_parts f) (list_parts fs) ∙ ap (λ b. atom_has z f || b) (list_has fs)

  items_has : (ts : List (Item Atom)) → stands_in z (terms_parts ts) ≡ terms_have z ts
  items_has [] = refl
  items_has (t ∷ ts) = stands-append (atom_parts t.atom) (terms_parts ts) ∙ ap (λ b. atom_has z t.atom || b) (items_has ts)

  pub has-Size : (s : ℕ) → atom_has z (Size s) ≡ false
  has-Size s = ap (stands_in z) (parts-Size s)

  pub has-Var : (v : ℕ) → atom_has z (Var v) ≡ false
  has-Var v = ap (stands_in z) (parts-Var v)

  pub has-Div : (i : Items) (k : ℕ) → atom_has z (Div i k) ≡ (same_atoms z (Div i k) || occurs z i)
  has-Div i k = ap (stands_in z) (parts-Div i k)

  pub has-Mul : (fs : List Atom) → atom_has z (Mul fs) ≡ (same_atoms z (Mul fs) || atoms_have z fs)
  has-Mul fs = ap (stands_in z) (parts-Mul fs) ∙ ap (λ b. same_atoms z (Mul fs) || b) (list_has fs)

  pub has-items : (i : Items) → occurs z i ≡ terms_have z i.terms
  has-items i = ap (stands_in z) (parts-items i) ∙ items_has i.terms

pub ruleset occurs_laws = (has-Size, has-Var, has-Div, has-Mul, has-items)
