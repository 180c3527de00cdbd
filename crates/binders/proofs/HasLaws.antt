-- The equations of whether a variable in a form passes a test.
use Rattle.std.proofs.Common.{◌≡◌, ℕ, List, [], ◌∷◌, map, refl, ap, sym, ◌∙◌, Bool, false, ◌||◌}
use Rattle.affine_index.specs.Normal.{any_first, any_true}
use Rattle.affine_index.specs.declared.form.Atom.{Atom}
use Rattle.affine_index.specs.declared.form.Atom.TheVariants.{Size, Var, Div, Mul, rolls-Size, rolls-Var, rolls-Mul, rolls-Div}
use Rattle.affine_index.specs.declared.form.Item.{Item}
use Rattle.affine_index.specs.declared.form.Items.{Items}
use Rattle.affine_index.specs.declared.form.Atom.TheOpen.{Atom-F}
use Rattle.affine_index.specs.declared.form.Atom.TheFolds.{fold-roll-Atom, fold_out-Items}
use Rattle.binders.specs.Uses.{atom_has, form_has, has_items_step, has_step, terms_have}

module _ (p : ℕ → Bool) where
  pub has-Size : (s : ℕ) → atom_has p (Size s) ≡ false
  has-Size s = ap (atom_has p) (sym (rolls-Size s)) ∙ fold-roll-Atom Bool Bool (has_step p) (has_items_step p) (Atom-F.Size s)

  pub has-Var : (v : ℕ) → atom_has p (Var v) ≡ p v
  has-Var v = ap (atom_has p) (sym (rolls-Var v)) ∙ fold-roll-Atom Bool Bool (has_step p) (has_items_step p) (Atom-F.Var v)

  pub has-Div : (i : Items) (k : ℕ) → atom_has p (Div i k) ≡ form_has p i
  has-Div i k = ap (atom_has p) (sym (rolls-Div i k)) ∙ fold-roll-Atom Bool Bool (has_step p) (has_items_step p) (Atom-F.Div i k)

  pub has-Mul : (fs : List Atom) → atom_has p (Mul fs) ≡ any_true (map (atom_has p) fs)
  has-Mul fs = ap (atom_has p) (sym (rolls-Mul fs)) ∙ fold-roll-Atom Bool Bool (has_step p) (has_items_step p) (Atom-F.Mul fs)

  terms_map : (ts : List (Item Atom)) → any_first (map (λ t. record { atom = atom_has p t.atom; coefficient = t.coefficient }) ts) ≡ terms_have p ts
  terms_map [] = refl
  terms_map (t ∷ ts) = ap (λ b. atom_has p t.atom || b) (terms_map ts)

  pub has-items : (i : Items) → form_has p i ≡ terms_have p i.terms
  has-items i = fold_out-Items Bool Bool (has_step p) (has_items_step p) i ∙ terms_map i.terms

pub ruleset has_laws = (has-Size, has-Var, has-Div, has-Mul, has-items)
