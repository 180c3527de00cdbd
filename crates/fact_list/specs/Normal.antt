-- Facts and paths whose comparisons are of normal forms.
use Rattle.std.specs.Prelude.{◌≡◌, List, [], ◌∷◌, true}
use Rattle.affine_index.specs.Condition.{cmp_form}
use Rattle.affine_index.specs.Normal.{is_normal}
use Rattle.affine_index.specs.declared.cond.Cmp.{Cmp}
use Rattle.fact_list.specs.declared.facts.PathFact.{PathFact}
use Rattle.fact_list.specs.declared.facts.PathFact.TheVariants.{Bound, Holds}
use Rattle.fact_list.specs.declared.role.Fact.{Fact}

-- facts in normal form
abbrev pub AllNormal : List Fact → Type 0
AllNormal [] = Unit {0}
AllNormal (x ∷ xs) = (is_normal (cmp_form x.cmp) ≡ true) × AllNormal xs

-- comparisons of normal forms
abbrev pub CmpsNormal : List Cmp → Type 0
CmpsNormal [] = Unit {0}
CmpsNormal (c ∷ cs) = (is_normal (cmp_form c) ≡ true) × CmpsNormal cs

-- a path whose guards compare normal forms
abbrev pub PathNormal : List PathFact → Type 0
PathNormal [] = Unit {0}
PathNormal (Bound n ∷ ps) = PathNormal ps
PathNormal (Holds c ∷ ps) = CmpsNormal c.all × PathNormal ps
