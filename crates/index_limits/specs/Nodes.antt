-- Kinds of nodes, with their parts.
use Rattle.std.specs.Prelude.{◌≡◌, ℕ, ◌⊎◌}
use Rattle.affine_index.specs.declared.form.Items.{Items}
use Rattle.term_tree.specs.declared.term.Term.{Term}
use Rattle.term_tree.specs.Syntax.{flatten, gen, pad_l, pad_r, split, sum, transpose, trunc_l, trunc_r}

-- a gen or a sum of this extent
abbrev pub IsBinder : Term → Items → Term → Type 0
IsBinder f n e = (f ≡ gen n e) ⊎ (f ≡ sum n e)

-- a reshape operator with one part
abbrev pub IsReshape : Term → Term → Type 0
IsReshape f e = (f ≡ flatten e) ⊎
    (((k : ℕ) × (f ≡ split k e)) ⊎
    ((f ≡ transpose e) ⊎
    (((x : Items) × (f ≡ trunc_l x e)) ⊎
    (((x : Items) × (f ≡ trunc_r x e)) ⊎
    (((x : Items) × (f ≡ pad_l x e)) ⊎ ((x : Items) × (f ≡ pad_r x e)))))))
