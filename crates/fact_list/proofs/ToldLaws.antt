-- What is told of forms, one by one.
use Rattle.std.proofs.Common.{◌≡◌, ℕ, ◌+◌, ◌<◌, ◌≤◌, List, [], ◌∷◌, length, drop, get_or, sym, subst, true}
use Rattle.affine_index.specs.Condition.{cmp_form}
use Rattle.affine_index.specs.Normal.{is_normal}
use Rattle.affine_index.specs.declared.cond.Cmp.{Cmp}
use Rattle.fact_list.proofs.Appending.{drop-all, drop-item}
use Rattle.fact_list.specs.Normal.{CmpsNormal, AllNormal, PathNormal}
use Rattle.fact_list.specs.declared.facts.PathFact.{PathFact}
use Rattle.fact_list.specs.declared.facts.PathFact.TheVariants.{Bound, Holds}
use Rattle.fact_list.specs.declared.role.Fact.{Fact}

pub normal-end : (facts : List Fact) (n : ℕ) → length facts ≤ n → (AllNormal (drop n facts) → AllNormal facts) → AllNormal facts
normal-end facts n h f = f (subst AllNormal (sym (drop-all n facts h)) tt)

pub normal-next : (facts : List Fact) (i : ℕ) (x : Fact) → i < length facts → x ≡ get_or facts i x → is_normal (cmp_form x.cmp) ≡ true
    → (AllNormal (drop i facts) → AllNormal facts) → AllNormal (drop (i + 1) facts) → AllNormal facts
normal-next facts i x h e n f rest = f (subst AllNormal (sym (drop-item facts i x h e)) (n, rest))

pub kept-end : (cs : List Cmp) (n : ℕ) → length cs ≤ n → (CmpsNormal (drop n cs) → CmpsNormal cs) → CmpsNormal cs
kept-end cs n h f = f (subst CmpsNormal (sym (drop-all n cs h)) tt)

pub kept-next : (cs : List Cmp) (i : ℕ) (x : Cmp) → i < length cs → x ≡ get_or cs i x → is_normal (cmp_form x) ≡ true → (CmpsNormal (drop i cs) → CmpsNormal cs)
    → CmpsNormal (drop (i + 1) cs) → CmpsNormal cs
kept-next cs i x h e n f rest = f (subst CmpsNormal (sym (drop-item cs i x h e)) (n, rest))

pub path-end : (ps : List PathFact) (n : ℕ) → length ps ≤ n → (PathNormal (drop n ps) → PathNormal ps) → PathNormal ps
path-end ps n h f = f (subst PathNormal (sym (drop-all n ps h)) tt)

step_kept : (p : PathFact) (ps : List PathFact) → PathNormal (p ∷ []) → PathNormal ps → PathNormal (p ∷ ps)
step_kept (Bound n) ps h g = g
step_kept (Holds c) ps h g = (h.0, g)

pub path-next : (ps : List PathFact) (i : ℕ) (x : PathFact) → i < length ps → x ≡ get_or ps i x → PathNormal (x ∷ []) → (PathNormal (drop i ps) → PathNormal ps)
    → PathNormal (drop (i + 1) ps) → PathNormal ps
path-next ps i x h e n f rest = f (subst PathNormal (sym (drop-item ps i x h e)) (step_kept x (drop (i + 1) ps) n rest))

pub ruleset told_laws = (normal-end, kept-end, path-end)
