-- Conditions that are joined, split and moved: where they hold, and what they name.
use Rattle.std.proofs.Common.{◌≡◌, ℕ, zero, suc, ◌+◌, ◌<◌, ◌≤◌, ◌^◌, List, [], ◌∷◌, ◌++◌, drop, take, length, map, refl, ap, sym, ◌∙◌, arith, Bool, true, false}
use Rattle.std.proofs.Common.{◌&&◌, not}
use Rattle.std.proofs.lemmas.Bool.{and_from, and_parts}
use Rattle.affine_index.specs.Condition.{all_hold, all_scoped, cmp_form, cmp_holds}
use Rattle.affine_index.specs.Limited.{items_scoped}
use Rattle.affine_index.specs.Normal.{is_ordered}
use Rattle.affine_index.specs.Put.{moved}
use Rattle.affine_index.specs.declared.cond.Cmp.{Cmp}
use Rattle.affine_index.specs.declared.cond.Cond.{Cond}
use Rattle.affine_index.proofs.ScopedMoves.{form-fits}
use Rattle.binders.specs.PlainMaps.{shift_map}
use Rattle.binders.proofs.PlainLaws.{shift_sends}
use Rattle.binders.proofs.ScopeLaws.{mapped_scope, scopes_shift}
use Rattle.binders.proofs.Substitution.{AllOrdered, all_same}
use Rattle.rule_parts.specs.Conds.{MayRise, joined, raised}
use Rattle.term_tree.specs.Limits.{each_cmp, every_form, form_step}
use Rattle.term_tree.specs.Scope.{cond_scoped, is_empty, term_scoped}
use Rattle.term_tree.specs.Syntax.{guard}
use Rattle.term_tree.specs.declared.term.Term.{Term, Lit}
use Rattle.term_tree.proofs.Folds.{fold-guard}

and_again : (a b c : Bool) → (a && (b && c)) ≡ ((a && b) && c)
and_again true b c = refl
and_again false b c = refl

-- comparisons that are appended hold where both lists do
pub joined_hold : (s r : List ℕ) (cs ds : List Cmp) → all_hold s r (cs ++ ds) ≡ (all_hold s r cs && all_hold s r ds)
joined_hold s r [] ds = refl
joined_hold s r (c ∷ cs) ds = ap (λ b. cmp_holds s r c && b) (joined_hold s r cs ds) ∙ and_again (cmp_holds s r c) (all_hold s r cs) (all_hold s r ds)

-- and name what both do
pub all_joined : (sizes vars : ℕ) (cs ds : List Cmp) → all_scoped sizes vars (cs ++ ds) ≡ (all_scoped sizes vars cs && all_scoped sizes vars ds)
all_joined sizes vars [] ds = refl
all_joined sizes vars (c ∷ cs) ds =
    ap (λ b. items_scoped sizes vars (cmp_form c) && b) (all_joined sizes vars cs ds)
    ∙ and_again (items_scoped sizes vars (cmp_form c)) (all_scoped sizes vars cs) (all_scoped sizes vars ds)

not_empty : (cs ds : List Cmp) → not (is_empty cs) ≡ true → not (is_empty (cs ++ ds)) ≡ true
not_empty [] ds h = absurd (cc)
not_empty (c ∷ cs) ds h = refl

pub joined_scoped : (sizes vars : ℕ) (c d : Cond) → cond_scoped sizes vars c ≡ true
    → cond_scoped sizes vars d ≡ true → cond_scoped sizes vars (joined c d) ≡ true
joined_scoped sizes vars c d h k =
    let p = and_parts (not (is_empty c.all)) (all_scoped sizes vars c.all) h in
    let q = and_parts (not (is_empty d.all)) (all_scoped sizes vars d.all) k in
    and_from (not (is_empty (c.all ++ d.all))) (all_scoped sizes vars (c.all ++ d.all)) (not_empty c.all d.all p.0)
    (all_joined sizes vars c.all d.all ∙ and_from (all_scoped sizes vars c.all) (all_scoped sizes vars d.all) p.1 q.1)

pub parts_again : (j : ℕ) (cs : List Cmp) → take j cs ++ drop j cs ≡ cs
parts_again zero cs = refl
parts_again (suc j) [] = refl
parts_again (suc j) (c ∷ cs) = ap (λ ds. c ∷ ds) (parts_again j cs)

some_first : (j : ℕ) (cs : List Cmp) → 0 < j → j < length cs → not (is_empty (take j cs)) ≡ true
some_first zero cs h k = absurd (omega (arith, h))
some_first (suc j) [] h k = absurd (omega (arith, k))
some_first (suc j) (c ∷ cs) h k = refl

some_rest : (j : ℕ) (cs : List Cmp) → j < length cs → not (is_empty (drop j cs)) ≡ true
some_rest zero [] k = absurd (omega (arith, k))
some_rest zero (c ∷ cs) k = refl
some_rest (suc j) [] k = absurd (omega (arith, k))
some_rest (suc j) (c ∷ cs) k = some_rest j cs (omega (arith, k))

-- both parts of a condition in scope
pub parts_scoped : (sizes vars j : ℕ) (c : Cond) → 0 < j → j < length c.all → cond_scoped sizes vars c ≡ true
    → (cond_scoped sizes vars (record { all = take j c.all }) ≡ true) × (cond_scoped sizes vars (record { all = drop j c.all }) ≡ true)
parts_scoped sizes vars j c h k g =
    let p = and_parts (not (is_empty c.all)) (all_scoped sizes vars c.all) g in
    let q = and_parts (all_scoped sizes vars (take j c.all)) (all_scoped sizes vars (drop j c.all)) (sym (all_joined sizes vars (take j c.all) (drop j c.all))
    ∙ ap (all_scoped sizes vars) (parts_again j c.all) ∙ p.1) in (
      and_from (not (is_empty (take j c.all))) (all_scoped sizes vars (take j c.all)) (some_first j c.all h k) q.0,
      and_from (not (is_empty (drop j c.all))) (all_scoped sizes vars (drop j c.all)) (some_rest j c.all k) q.1,
    )

-- a condition of normal forms under one more gen or sum
pub raised_holds : (s r : List ℕ) (i : ℕ) (c : Cond) → each_cmp is_ordered c.all ≡ true → all_hold s (i ∷ r) (raised c).all ≡ all_hold s r c.all
raised_holds s r i c o = all_same (moved 0 1) s r (i ∷ r) ((shift_sends s (i ∷ []) r [] []).index_value [] []) c.all o

pub raised_scoped : (sizes vars : ℕ) (c : Cond) → cond_scoped sizes vars c ≡ true → cond_scoped sizes (vars + 1) (raised c) ≡ true
raised_scoped sizes vars c h =
    (and_parts (cond_scoped sizes (vars + 1) (raised c)) true
    (mapped_scope (shift_map 1 0) (guard c (Lit 0)) sizes vars 0 (vars + 1) (0 + 0) (scopes_shift 1 0 sizes vars 0)
    (and_from (cond_scoped sizes vars c) true h refl))).0

-- its numbers are small
pub may_rise : (sizes vars : ℕ) → vars + 1 ≤ 2 ^ 32 → (cs : List Cmp) → all_scoped sizes vars cs ≡ true → MayRise cs
may_rise sizes vars room [] h k d l = absurd (omega (arith, l))
may_rise sizes vars room (c ∷ cs) h zero d l =
    form-fits sizes vars 0 1 room (cmp_form c) (and_parts (items_scoped sizes vars (cmp_form c)) (all_scoped sizes vars cs) h).0
may_rise sizes vars room (c ∷ cs) h (suc k) d l =
    may_rise sizes vars room cs (and_parts (items_scoped sizes vars (cmp_form c)) (all_scoped sizes vars cs) h).1 k d (omega (arith, l))

-- the comparisons of a guard in normal form
pub guard_ordered : (c : Cond) (e : Term) → AllOrdered (guard c e) → each_cmp is_ordered c.all ≡ true
guard_ordered c e o = (and_parts (each_cmp is_ordered c.all) (every_form is_ordered e) (sym (fold-guard Bool (form_step is_ordered) c e) ∙ o)).0

-- no comparison
pub empty_is : (cs : List Cmp) → length cs ≡ 0 → is_empty cs ≡ true
empty_is [] h = refl
empty_is (c ∷ cs) h = absurd (omega (arith, h))
