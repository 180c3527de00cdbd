-- Guards of well scoped facts keep small variable numbers when they are moved to the end of the path.
use Rattle.std.proofs.Common.{◌≡◌, ℕ, suc, ◌+◌, ◌^◌, ◌≤◌, List, [], ◌∷◌, length, refl, ap, sym, ◌∙◌, Bool, true, false, ◌&&◌, nat_lt, arith}
use Rattle.std.proofs.lemmas.Bool.{and_from, and_parts}
use Rattle.affine_index.specs.Condition.{all_scoped, cmp_form}
use Rattle.affine_index.specs.Limited.{items_scoped}
use Rattle.affine_index.specs.Put.{numbers_fit}
use Rattle.affine_index.proofs.ScopedMoves.{form-fits}
use Rattle.affine_index.specs.declared.cond.Cmp.{Cmp}
use Rattle.fact_list.specs.Facts.{binders, cmps_fit, moves_fit}
use Rattle.fact_list.specs.Scoped.{ScopedFactsMove, has_comparison, path_scoped, step_scoped}
use Rattle.fact_list.specs.declared.facts.PathFact.{PathFact}
use Rattle.fact_list.specs.declared.facts.PathFact.TheVariants.{Bound, Holds}

module _ (n d by : ℕ) (room : d + by ≤ 2 ^ 32) where
  scoped-cmps : (cs : List Cmp) → all_scoped n d cs ≡ true → cmps_fit by cs ≡ true
  scoped-cmps [] h = refl
  scoped-cmps (c ∷ cs) h =
      let p = and_parts (items_scoped n d (cmp_form c)) (all_scoped n d cs) h in
      and_from (numbers_fit 0 by (cmp_form c)) (cmps_fit by cs) (form-fits n d 0 by room (cmp_form c) p.0) (scoped-cmps cs p.1)

scoped-path : (n d : ℕ) (ps : List PathFact) → d + length ps ≤ 2147483647 → path_scoped n d ps ≡ true → (moves_fit ps ≡ true) × (binders ps ≤ length ps)
scoped-path n d [] few h = (refl, omega arith)
scoped-path n d (Bound x ∷ ps) few h =
    let p = and_parts (items_scoped n 0 x) (path_scoped n (suc d) ps) h in
    let rest = scoped-path n (suc d) ps (omega arith) p.1 in
    (rest.0, omega (arith, rest.1))
scoped-path n d (Holds c ∷ ps) few h =
    let p = and_parts (has_comparison c.all) (all_scoped n d c.all && path_scoped n d ps) h in
    let q = and_parts (all_scoped n d c.all) (path_scoped n d ps) p.1 in
    let rest = scoped-path n d ps (omega arith) q.1 in
    (and_from (cmps_fit (binders ps) c.all) (moves_fit ps) (scoped-cmps n d (binders ps) (omega (arith, rest.1)) c.all q.0) rest.0, omega (arith, rest.1))

-- the guards of well scoped facts may be moved
pub scoped-fits : ScopedFactsMove
scoped-fits f h few =
    let p = and_parts (all_scoped (length f.sizes) 0 f.assumes) (path_scoped (length f.sizes) 0 f.path) h in
    (scoped-path (length f.sizes) 0 f.path (omega (arith, few)) p.1).0

pub has-some : (cs : List Cmp) → has_comparison cs ≡ nat_lt 0 (length cs)
has-some [] = refl
has-some (c ∷ cs) = some (length cs)
  where
    some : (n : ℕ) → true ≡ nat_lt 0 (suc n)
    some n = grind arith

pub binder-few : (p : PathFact) (count : ℕ) → binders (p ∷ []) ≡ count + 0 → count ≤ 1
binder-few (Bound n) count e = omega (arith, e)
binder-few (Holds c) count e = omega (arith, e)

-- a node of a path, and what follows it
pub step-next : (s d count : ℕ) (p : PathFact) (ps : List PathFact) → binders (p ∷ []) ≡ count + 0 → step_scoped s d p ≡ true
    → path_scoped s (d + count) ps ≡ path_scoped s d (p ∷ ps)
step-next s d count (Bound n) ps e h = ap (λ k. path_scoped s k ps) (turn d count e) ∙ sym (ap (λ b. b && path_scoped s (suc d) ps) h)
  where
    turn : (d count : ℕ) → 1 ≡ count + 0 → d + count ≡ suc d
    turn d count e = omega (arith, e)
step-next s d count (Holds c) ps e h =
    let p = and_parts (has_comparison c.all) (all_scoped s d c.all) h in
    ap (λ k. path_scoped s k ps) (turn d count e) ∙ sym (λ k. p.0 k && (p.1 k && path_scoped s d ps))
  where
    turn : (d count : ℕ) → 0 ≡ count + 0 → d + count ≡ d
    turn d count e = omega (arith, e)

pub step-false : (s d : ℕ) (p : PathFact) (ps : List PathFact) → step_scoped s d p ≡ false → path_scoped s d (p ∷ ps) ≡ false
step-false s d (Bound n) ps h = ap (λ b. b && path_scoped s (suc d) ps) h
step-false s d (Holds c) ps h = by (has_comparison c.all) (all_scoped s d c.all) (path_scoped s d ps) h
  where
    by : (a b r : Bool) → (a && b) ≡ false → (a && (b && r)) ≡ false
    by true b r h = ap (λ x. x && r) h
    by false b r h = refl

pub ruleset scoped_laws = (has-some)
