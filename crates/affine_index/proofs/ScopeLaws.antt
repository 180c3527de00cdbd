-- The equations of whether sizes and variables are below given numbers.
use Rattle.std.proofs.Common.{◌≡◌, ℕ, List, [], ◌∷◌, map, refl, ap, ◌∙◌, ◌&&◌}
use Rattle.affine_index.specs.Limited.{all_firsts, all_true, atom_scoped, atoms_scoped, items_scoped, terms_scoped}
use Rattle.affine_index.specs.declared.form.Atom.{Atom}
use Rattle.affine_index.specs.declared.form.Atom.TheVariants.{Mul}
use Rattle.affine_index.specs.declared.form.Item.{Item}
use Rattle.affine_index.specs.declared.form.Items.{Items}
use Rattle.affine_index.proofs.ReadyLaws.{scoped-Size, scoped-Var, scoped-Div, scoped-Mul, scoped-items, scoped_term}

module _ (s v : ℕ) where
  factors_map : (fs : List Atom) → all_true (map (atom_scoped s v) fs) ≡ atoms_scoped s v fs
  factors_map [] = refl
  factors_map (f ∷ fs) = ap (λ b. atom_scoped s v f && b) (factors_map fs)

  terms_map : (ts : List (Item Atom)) → all_firsts (map (scoped_term s v) ts) ≡ terms_scoped s v ts
  terms_map [] = refl
  terms_map (t ∷ ts) = ap (λ b. atom_scoped s v t.atom && b) (terms_map ts)

  pub scope-Mul : (fs : List Atom) → atom_scoped s v (Mul fs) ≡ atoms_scoped s v fs
  scope-Mul fs = scoped-Mul s v fs ∙ factors_map fs

  pub scope-items : (i : Items) → items_scoped s v i ≡ terms_scoped s v i.terms
  scope-items i = scoped-items s v i ∙ terms_map i.terms

pub ruleset scope_laws = (scoped-Size, scoped-Var, scoped-Div, scope-Mul, scope-items)
