-- How a walk goes on: the shapes in scope, and the goals found so far.
use Rattle.std.proofs.Common.{◌≡◌, ℕ, List, [], ◌∷◌, ◌++◌, length, reverse, append_assoc, refl, ap, subst, sym, ◌∙◌, true, Result, Ok, Err, IfOk, OnOk, IsOk}
use Rattle.std.specs.Prelude.{slice_set}
use Rattle.std.proofs.Math.Seq.{set-append_seam}
use Rattle.std.proofs.lemmas.List.{reverse-append}
use Rattle.std.proofs.lemmas.Bool.{and_from}
use Rattle.affine_index.specs.Sum.{difference_of}
use Rattle.affine_index.specs.declared.form.Items.{Items}
use Rattle.term_tree.specs.declared.term.Term.{Term}
use Rattle.term_tree.specs.Goals.{rest_after, term_goals}
use Rattle.term_tree.specs.Shape.{Extents, Shaped, shape_of, with_child}
use Rattle.shape_rules.specs.Faults.{IsAnswer, IsTrouble}
use Rattle.shape_rules.specs.Plain.{is_plain}
use Rattle.shape_rules.specs.Rules.{fewer_shape}
use Rattle.shape_rules.specs.Scopes.{all_free, each_free, given, scope}
use Rattle.shape_rules.specs.Walked.{cut_goals, walked}
use Rattle.shape_rules.specs.declared.fault.Trouble.{Trouble}
use Rattle.shape_rules.specs.declared.shapes.Shapes.{Shapes}
use Rattle.shape_rules.proofs.AnswerLaws.{ok_shape}
use Rattle.shape_rules.proofs.FreeShapes.{FreeShape, shape_free}
use Rattle.shape_rules.proofs.RuleValues.{limited_same}
use Rattle.shape_rules.proofs.WalkedLaws.{walked_is}

-- one more let
pub scope_push : (shapes : Shapes) (bound : List Extents) (ns : Extents) → scope shapes (bound ++ ns ∷ []) ≡ ns ∷ scope shapes bound
scope_push shapes bound ns = ap (λ bs. bs ++ given shapes) (reverse-append bound (ns ∷ []))

pub push_free : (shapes : Shapes) (bound more : List Extents) (ns : Extents) → more ≡ bound ++ ns ∷ [] → each_free ns ≡ true
    → all_free (scope shapes bound) ≡ true → all_free (scope shapes more) ≡ true
push_free shapes bound more ns e h k =
    ap (λ bs. all_free (scope shapes bs)) e ∙ ap all_free (scope_push shapes bound ns) ∙ and_from (each_free ns) (all_free (scope shapes bound)) h k

answer_free : (shape : Shaped) (r : Result Extents Trouble) → FreeShape shape → IsAnswer shape r → IfOk r (λ ns. each_free ns ≡ true)
answer_free shape (Ok ns) f h = subst FreeShape h f
answer_free shape (Err t) f h = tt

-- the extents that a walk answers hold no index variable
pub walked_free : (e : Term) (ts : List Extents) (r : Result Extents Trouble) → is_plain e ≡ true → all_free ts ≡ true → IsAnswer (walked e ts).shape r
    → IfOk r (λ ns. each_free ns ≡ true)
walked_free e ts r p f h = answer_free (walked e ts).shape r (subst FreeShape (sym (ap (λ w. w.shape) (walked_is e ts))) (shape_free e ts p f)) h

pub free_at : (r : Result Extents Trouble) (ns : Extents) → r ≡ Ok ns → IfOk r (λ ns. each_free ns ≡ true) → each_free ns ≡ true
free_at r ns e h = subst (λ (r : Result Extents Trouble). IfOk r (λ ns. each_free ns ≡ true)) e h

-- a misfit of the second operand
pub second_err : (a b : Shaped) (r : Result Extents Trouble) (ns : Extents) (t : Trouble) → r ≡ Ok ns → IsAnswer a r
    → ((rule : Extents → Shaped) → IsTrouble (with_child 1 b rule) t)
    → (rule : Extents → Extents → Shaped) → IsTrouble (with_child 0 a (λ ns. with_child 1 b (rule ns))) t
second_err a b r ns t e h k rule =
    subst (λ (s : Shaped). IsTrouble (with_child 0 s (λ ns. with_child 1 b (rule ns))) t) (sym (ok_shape a r ns e h)) (k (rule ns))

-- a goal before those of the operand
pub one_goal : (result child : Result Extents Trouble) (g0 g1 g2 ge : List Items) (n : Items) → OnOk result (IsOk child) → OnOk child (g2 ≡ g1 ++ ge)
    → g1 ≡ g0 ++ n ∷ [] → OnOk result (g2 ≡ g0 ++ (n ∷ ge))
one_goal (Ok ms) (Ok ns) g0 g1 g2 ge n h k e = k ∙ ap (λ g. g ++ ge) e ∙ append_assoc g0 (n ∷ []) ge
one_goal (Ok ms) (Err t) g0 g1 g2 ge n h k e = absurd (let q : IsOk {T = Extents} (Err t) = h in cc)
one_goal (Err t) child g0 g1 g2 ge n h k e = tt

set_second : (a d : Items) (g0 g1 g2 g3 ge : List Items) (at : ℕ) → g3 ≡ g2 ++ ge → g1 ≡ g0 ++ a ∷ [] → g2 ≡ g1 ++ a ∷ [] → at ≡ length g1
    → slice_set g3 at d ≡ g0 ++ (a ∷ d ∷ ge)
set_second a d g0 g1 g2 g3 ge at e f g h =
    let k : g3 ≡ g1 ++ (a ∷ ge) = e ∙ ap (λ x. x ++ ge) g ∙ append_assoc g1 (a ∷ []) ge in
    (λ i. slice_set (k i) (h i) d) ∙ set-append_seam g1 a ge d ∙ ap (λ x. x ++ (d ∷ ge)) f ∙ append_assoc g0 (a ∷ []) (d ∷ ge)

cut_first : (a : Items) (ns extents : Extents) (g0 g1 g2 g3 g4 ge : List Items) (at : ℕ) → fewer_shape a ns ≡ Ok extents → g3 ≡ g2 ++ ge → g1 ≡ g0 ++ a ∷ []
    → g2 ≡ g1 ++ a ∷ [] → at ≡ length g1
    → ((n : Items) (rest : Extents) → extents ≡ n ∷ rest → g4 ≡ slice_set g3 at n) → g4 ≡ g0 ++ (a ∷ (rest_after a ns ++ ge))
cut_first a [] extents g0 g1 g2 g3 g4 ge at w e f g h put = absurd (cc)
cut_first a (n ∷ ns) extents g0 g1 g2 g3 g4 ge at w e f g h put =
    put (difference_of n a) ns (sym (limited_same (difference_of n a ∷ ns) extents w)) ∙ set_second a (difference_of n a) g0 g1 g2 g3 ge at e f g h

-- the goals of a truncation, of which the second is put when its operand has been walked
pub cut_goals_are : (shape : Shaped) (child : Result Extents Trouble) (a : Items) (extents : Extents) (g0 g1 g2 g3 g4 ge : List Items) (at : ℕ)
    → IsAnswer shape child → IsOk child
    → with_child 0 shape (fewer_shape a) ≡ Ok extents → OnOk child (g3 ≡ g2 ++ ge) → g1 ≡ g0 ++ a ∷ [] → g2 ≡ g1 ++ a ∷ [] → at ≡ length g1
    → ((n : Items) (rest : Extents) → extents ≡ n ∷ rest → g4 ≡ slice_set g3 at n) → g4 ≡ g0 ++ (cut_goals a shape ++ ge)
cut_goals_are shape (Ok ns) a extents g0 g1 g2 g3 g4 ge at s k w e f g h put =
    let w' = subst (λ (r : Shaped). with_child 0 r (fewer_shape a) ≡ Ok extents) s w in
    subst (λ (r : Shaped). g4 ≡ g0 ++ (cut_goals a r ++ ge)) (sym s) (cut_first a ns extents g0 g1 g2 g3 g4 ge at w' e f g h put)
cut_goals_are shape (Err t) a extents g0 g1 g2 g3 g4 ge at s k w e f g h put = absurd (cc)

-- what a definition owes its body
pub let_owed : (shapes : Shapes) (bound more : List Extents) → more ≡ bound → all_free (scope shapes bound) ≡ true → all_free (scope shapes more) ≡ true
let_owed shapes bound more e h = subst (λ (bs : List Extents). all_free (scope shapes bs) ≡ true) (sym e) h

-- what a walk finds is the shape and the goals
pub walked_ok : (e : Term) (ts : List Extents) (ns : Extents) → (walked e ts).shape ≡ Ok ns → shape_of e ts ≡ Ok ns
walked_ok e ts ns h = sym (ap (λ w. w.shape) (walked_is e ts)) ∙ h

pub ok_is : (r : Shaped) (ns : Extents) → r ≡ Ok ns → IsOk r
ok_is r ns h = subst (λ (r : Shaped). IsOk r) (sym h) refl

pub walked_trouble : (e : Term) (ts : List Extents) (t : Trouble) → IsTrouble (walked e ts).shape t → IsTrouble (shape_of e ts) t
walked_trouble e ts t h = subst (λ (r : Shaped). IsTrouble r t) (ap (λ w. w.shape) (walked_is e ts)) h

pub walked_goals : (e : Term) (ts : List Extents) (g0 g1 : List Items) → g1 ≡ g0 ++ (walked e ts).goals → g1 ≡ g0 ++ term_goals e ts
walked_goals e ts g0 g1 h = h ∙ ap (λ w. g0 ++ w.goals) (walked_is e ts)

pub scope_none : (shapes : Shapes) (bound : List Extents) → bound ≡ [] → scope shapes bound ≡ given shapes
scope_none shapes bound e = ap (λ bs. reverse bs ++ given shapes) e
