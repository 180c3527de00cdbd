-- The equations of whether a form holds an index variable.
use Rattle.std.proofs.Common.{◌≡◌, ℕ, List, [], ◌∷◌, map, refl, ap, sym, ◌∙◌, Bool, true, false, ◌||◌}
use Rattle.affine_index.specs.Normal.{any_first, any_holds, any_term_holds, any_true, atom_holds_var, holds_var, holds_var_items_step, holds_var_step}
use Rattle.affine_index.specs.declared.form.Atom.{Atom}
use Rattle.affine_index.specs.declared.form.Atom.TheVariants.{Size, Var, Div, Mul, rolls-Size, rolls-Var, rolls-Mul, rolls-Div}
use Rattle.affine_index.specs.declared.form.Item.{Item}
use Rattle.affine_index.specs.declared.form.Items.{Items}
use Rattle.affine_index.specs.declared.form.Atom.TheOpen.{Atom-F}
use Rattle.affine_index.specs.declared.form.Atom.TheFolds.{fold-roll-Atom, fold_out-Items}

pub vars-Size : (k : ℕ) → atom_holds_var (Size k) ≡ false
vars-Size k = ap atom_holds_var (sym (rolls-Size k)) ∙ fold-roll-Atom Bool Bool holds_var_step holds_var_items_step (Atom-F.Size k)

pub vars-Var : (k : ℕ) → atom_holds_var (Var k) ≡ true
vars-Var k = ap atom_holds_var (sym (rolls-Var k)) ∙ fold-roll-Atom Bool Bool holds_var_step holds_var_items_step (Atom-F.Var k)

pub vars-Div : (i : Items) (k : ℕ) → atom_holds_var (Div i k) ≡ holds_var i
vars-Div i k = ap atom_holds_var (sym (rolls-Div i k)) ∙ fold-roll-Atom Bool Bool holds_var_step holds_var_items_step (Atom-F.Div i k)

any_map : (fs : List Atom) → any_true (map atom_holds_var fs) ≡ any_holds fs
any_map [] = refl
any_map (f ∷ fs) = ap (λ b. atom_holds_var f || b) (any_map fs)

pub vars-Mul : (fs : List Atom) → atom_holds_var (Mul fs) ≡ any_holds fs
vars-Mul fs = ap atom_holds_var (sym (rolls-Mul fs)) ∙ fold-roll-Atom Bool Bool holds_var_step holds_var_items_step (Atom-F.Mul fs) ∙ any_map fs

any_first_map : (ts : List (Item Atom)) → any_first (map (λ t. record { atom = atom_holds_var t.atom; coefficient = t.coefficient }) ts) ≡ any_term_holds ts
any_first_map [] = refl
any_first_map (t ∷ ts) = ap (λ b. atom_holds_var t.atom || b) (any_first_map ts)

pub vars-items : (i : Items) → holds_var i ≡ any_term_holds i.terms
vars-items i = fold_out-Items Bool Bool holds_var_step holds_var_items_step i ∙ any_first_map i.terms

pub ruleset var_laws = (vars-Size, vars-Var, vars-Div, vars-Mul, vars-items)
