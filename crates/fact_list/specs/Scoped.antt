-- When facts are well scoped.
use Rattle.std.specs.Prelude.{◌≡◌, ℕ, suc, ◌≤◌, List, [], ◌∷◌, length, Bool, true, false, ◌&&◌}
use Rattle.affine_index.specs.Condition.{all_scoped}
use Rattle.affine_index.specs.Limited.{items_scoped}
use Rattle.affine_index.specs.declared.cond.Cmp.{Cmp}
use Rattle.fact_list.specs.Facts.{moves_fit}
use Rattle.fact_list.specs.declared.facts.Facts.{Facts}
use Rattle.fact_list.specs.declared.facts.PathFact.{PathFact}
use Rattle.fact_list.specs.declared.facts.PathFact.TheVariants.{Bound, Holds}

-- whether there is a comparison
abbrev pub has_comparison : List Cmp → Bool
has_comparison [] = false
has_comparison (c ∷ cs) = true

-- whether extents hold declared sizes alone, and guards declared sizes and the variables of the binders before them, of which there are so many
abbrev pub path_scoped : ℕ → ℕ → List PathFact → Bool
path_scoped sizes depth [] = true
path_scoped sizes depth (Bound n ∷ ps) = items_scoped sizes 0 n && path_scoped sizes (suc depth) ps
path_scoped sizes depth (Holds c ∷ ps) = has_comparison c.all && (all_scoped sizes depth c.all && path_scoped sizes depth ps)

-- the same of a node alone
abbrev pub step_scoped : ℕ → ℕ → PathFact → Bool
step_scoped sizes depth (Bound n) = items_scoped sizes 0 n
step_scoped sizes depth (Holds c) = has_comparison c.all && all_scoped sizes depth c.all

-- whether facts are well scoped: the assumes too hold declared sizes alone
abbrev pub facts_scoped : Facts → Bool
facts_scoped f = all_scoped (length f.sizes) 0 f.assumes && path_scoped (length f.sizes) 0 f.path

-- the guards of well scoped facts keep small variable numbers when they are moved to the end of a path
abbrev pub ScopedFactsMove : Type 0
ScopedFactsMove = (f : Facts) → facts_scoped f ≡ true → length f.path ≤ 2147483647 → moves_fit f.path ≡ true
