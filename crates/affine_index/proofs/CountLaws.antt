-- The equations of the counts.
use Rattle.std.proofs.Common.{◌≡◌, ℕ, ◌+◌, List, [], ◌∷◌, map, refl, ap, sym, ◌∙◌}
use Rattle.affine_index.specs.Count.{count_step, count_items_step, atom_count, items_count, total, total_of_firsts, terms_count}
use Rattle.affine_index.specs.declared.form.Atom.{Atom}
use Rattle.affine_index.specs.declared.form.Items.{Items}
use Rattle.affine_index.specs.declared.form.Item.{Item}
use Rattle.affine_index.specs.declared.form.Atom.TheOpen.{Atom-F}
use Rattle.affine_index.specs.declared.form.Atom.TheVariants.{Size, Var, Div, Mul, rolls-Size, rolls-Var, rolls-Mul, rolls-Div}
use Rattle.affine_index.specs.declared.form.Atom.TheFolds.{fold-roll-Atom, fold_out-Items}

pub count-Mul : (factors : List Atom) → atom_count (Mul factors) ≡ total (map atom_count factors)
count-Mul factors = ap atom_count (sym (rolls-Mul factors)) ∙ fold-roll-Atom ℕ ℕ count_step count_items_step (Atom-F.Mul factors)

pub count-Div : (items : Items) (k : ℕ) → atom_count (Div items k) ≡ items_count items + 1
count-Div items k = ap atom_count (sym (rolls-Div items k)) ∙ fold-roll-Atom ℕ ℕ count_step count_items_step (Atom-F.Div items k)

pub count-Size : (k : ℕ) → atom_count (Size k) ≡ 1
count-Size k = ap atom_count (sym (rolls-Size k)) ∙ fold-roll-Atom ℕ ℕ count_step count_items_step (Atom-F.Size k)

counts_map : (ts : List (Item Atom)) → total_of_firsts (map (λ t. record { atom = atom_count t.atom; coefficient = t.coefficient }) ts) ≡ terms_count ts
counts_map [] = refl
counts_map (t ∷ ts) = ap (λ n. atom_count t.atom + n) (counts_map ts)

pub count-items : (i : Items) → items_count i ≡ terms_count i.terms
count-items i = fold_out-Items ℕ ℕ count_step count_items_step i ∙ counts_map i.terms

pub count-Var : (k : ℕ) → atom_count (Var k) ≡ 1
count-Var k = ap atom_count (sym (rolls-Var k)) ∙ fold-roll-Atom ℕ ℕ count_step count_items_step (Atom-F.Var k)

pub ruleset count_laws = (count-Size, count-Var, count-Div, count-Mul, count-items)
