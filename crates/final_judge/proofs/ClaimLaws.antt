-- The claims of reads as code makes them.
use Rattle.std.proofs.Common.{◌≡◌, ℕ, ◌+◌, ◌<◌, ◌≤◌, ◌^◌, List, [], ◌∷◌, ◌++◌, append_assoc, length, drop, refl, ap, sym, ◌∙◌, arith}
use Rattle.std.proofs.Common.{true, false, ◌&&◌, ◌⊎◌, inl, inr, Option, Some, None}
use Rattle.std.specs.Prelude.{negsuc, pos, if◌then◌else◌}
use Rattle.std.proofs.lemmas.Bool.{and_parts}
use Rattle.std.proofs.lemmas.List.{drop_all}
use Rattle.affine_index.specs.Normal.{coefficients_fit, is_normal, is_ordered, is_short}
use Rattle.affine_index.specs.Sum.{difference_of, scaled}
use Rattle.affine_index.specs.Wide.{norm}
use Rattle.affine_index.specs.declared.form.Items.{Items}
use Rattle.affine_index.proofs.ArithmeticLaws.{normal-ordered}
use Rattle.affine_index.proofs.NormLaws.{scaled-norm, sum-norm}
use Rattle.affine_index.proofs.OrderedLaws.{difference-ordered, literal-ordered}
use Rattle.affine_index.proofs.PutNorm.{normal-norm}
use Rattle.fact_list.specs.declared.facts.Facts.{Facts}
use Rattle.fact_list.specs.declared.facts.PathFact.{PathFact}
use Rattle.reindexer.specs.Limited.{limited}
use Rattle.final_rules.specs.Goals.{Claim, below, goal_of, index_claims, kept_goal, one}
use Rattle.final_rules.specs.Rules.{goals_with}
use Rattle.final_rules.specs.declared.goal.Goal.{Goal}
use Rattle.final_rules.specs.declared.goal.GoalKind.TheVariants.{Read}

-- a form within the limits is kept, and another is not
pub kept-fine : (x : Items) → is_normal x ≡ true → kept_goal (limited x) ≡ Some x
kept-fine x h =
    let p = and_parts (is_ordered x) (coefficients_fit x && is_short x) h in
    let q = and_parts (coefficients_fit x) (is_short x) p.1 in
    rw (q.0, q.1) (λ i. if h i then Some x else None)

pub kept-large : (x : Items) → coefficients_fit x ≡ false → kept_goal (limited x) ≡ None
kept-large x h = rw h refl

pub kept-long : (x : Items) → coefficients_fit x ≡ true → is_short x ≡ false → kept_goal (limited x) ≡ None
kept-long x h k = rw (h, k) refl

-- the forms on the way to n - 1 - x are small, and in order
pub last-room : (n m w : Items) → m ≡ n → w ≡ scaled (negsuc 0) one → is_normal n ≡ true → norm m + norm w < 2 ^ 127
last-room n m w e f h = omega (arith, ap norm e, ap norm f, normal-norm n h, scaled-norm (negsuc 0) one, one-norm)
  where
    one-norm : norm one ≡ 1
    one-norm = refl

pub last-norm : (n : Items) → is_normal n ≡ true → norm (difference_of n one) ≤ 2 ^ 48 + 1
last-norm n h = omega (arith, sum-norm n (scaled (negsuc 0) one), normal-norm n h, scaled-norm (negsuc 0) one, one-norm)
  where
    one-norm : norm one ≡ 1
    one-norm = refl

pub below-room : (n x l m : Items) → is_normal n ≡ true → is_normal x ≡ true → l ≡ difference_of n one → m ≡ scaled (negsuc 0) x → norm l + norm m < 2 ^ 127
below-room n x l m h k e f = omega (arith, ap norm e, ap norm f, last-norm n h, scaled-norm (negsuc 0) x, normal-norm x k)

pub below-ordered : (n x w : Items) → is_normal n ≡ true → is_normal x ≡ true → w ≡ below n x → is_ordered w ≡ true
below-ordered n x w h k e =
    ap is_ordered e
    ∙ difference-ordered (difference_of n one) x (difference-ordered n one (normal-ordered n h) (literal-ordered (pos 1))) (normal-ordered x k)

-- the goal of a claim that a read makes
abbrev pub read_goal : Facts → Option Items → Goal
read_goal f o = record { kind = Read; goal = o; facts = f }

-- two goals that are pushed one after the other are those of an index
pub two-pushed : (f : Facts) (n x y : Items) (o : Option Items) (old new : List Goal) → y ≡ x → is_normal x ≡ true → o ≡ kept_goal (limited (below n x))
    → new ≡ old ++ read_goal f (Some y) ∷ [] → new ++ read_goal f o ∷ [] ≡ old ++ goals_with f (index_claims f.path (x ∷ []) (n ∷ []))
two-pushed f n x y o old new e h k p =
    ap (λ gs. gs ++ read_goal f o ∷ []) p ∙ append_assoc old (read_goal f (Some y) ∷ []) (read_goal f o ∷ [])
    ∙ (λ i. old ++ read_goal f ((ap Some e ∙ sym (kept-fine x h)) i) ∷ read_goal f (k i) ∷ [])

-- goals of claims one after another
pub goals-append : (f : Facts) (cs ds : List Claim) → goals_with f (cs ++ ds) ≡ goals_with f cs ++ goals_with f ds
goals-append f [] ds = refl
goals-append f (c ∷ cs) ds = ap (λ (gs : List Goal). goal_of f c ∷ gs) (goals-append f cs ds)

-- an index without an extent claims nothing
claims-none : (path : List PathFact) (xs : List Items) → index_claims path xs [] ≡ []
claims-none path [] = refl
claims-none path (x ∷ xs) = refl

pub claims-end : (path : List PathFact) (xs ns : List Items) (k : ℕ) → (length xs ≤ k) ⊎ (length ns ≤ k) → index_claims path (drop k xs) (drop k ns) ≡ []
claims-end path xs ns k (inl h) = rw (drop_all k xs h) refl
claims-end path xs ns k (inr h) = rw (drop_all k ns h) (claims-none path (drop k xs))

pub ruleset claim_laws = (kept-fine, kept-large, kept-long, goals-append, claims-end)
