-- What the code that lists the declared facts rests on.
use Rattle.std.proofs.Common.{◌≡◌, ℕ, zero, suc, ◌+◌, ◌<◌, ◌≤◌, List, [], ◌∷◌, ◌++◌, length, drop, get_or, append_assoc, refl, ap, sym, ◌∙◌, Bool, true, false}
use Rattle.std.proofs.Common.{Option, Some, None, arith}
use Rattle.std.specs.Prelude.{pos, if◌then◌else◌}
use Rattle.std.proofs.lemmas.Bool.{and_parts}
use Rattle.std.proofs.Math.Seq.{drop-cons}
use Rattle.affine_index.specs.Condition.{cmp_form}
use Rattle.affine_index.specs.Form.{var_form}
use Rattle.affine_index.specs.Normal.{is_normal}
use Rattle.affine_index.specs.Put.{numbers_fit, shifted}
use Rattle.affine_index.specs.declared.cond.Cmp.{Cmp}
use Rattle.affine_index.specs.declared.cond.Cmp.TheVariants.{Ge, Eq}
use Rattle.affine_index.specs.declared.form.Atom.TheVariants.{Size, Var}
use Rattle.affine_index.specs.declared.form.Items.{Items}
use Rattle.fact_list.proofs.Appending.{append-next, drop-item}
use Rattle.fact_list.proofs.CodeLaws.{kept-ok, single-normal, size-less, size-once, var-atom, var-next}
use Rattle.fact_list.specs.Facts.{above_low, below_extent, below_high, binders, bound_facts, cmps_fit, fact_if, where_normal, moved_cmp, moved_facts, moves_fit}
use Rattle.fact_list.specs.Facts.{path_facts, single, size_facts, stated, stated_facts, stated_if, step_facts, step_fits}
use Rattle.fact_list.specs.declared.facts.PathFact.{PathFact}
use Rattle.fact_list.specs.declared.facts.PathFact.TheVariants.{Bound, Holds}
use Rattle.fact_list.specs.declared.facts.SizeBounds.{SizeBounds}
use Rattle.fact_list.specs.declared.role.Fact.{Fact}
use Rattle.fact_list.specs.declared.role.Role.TheVariants.{BoundOf}
use Rattle.fact_list.specs.declared.role.Side.TheVariants.{Lower, Upper}

-- a comparison that is kept
pub stated-kept : (c : Cmp) → is_normal (cmp_form c) ≡ true → stated c ∷ [] ≡ stated_if (is_normal (cmp_form c)) c
stated-kept c e = ap (λ b. stated_if b c) (sym e)

stated_by : (x : Items) (d : Cmp) (b : Bool) → Some x ≡ (if b then Some (cmp_form d) else None) → stated_if b d ≡ stated d ∷ []
stated_by x d true e = refl
stated_by x d false e = absurd (cc)

none_by : (x : Items) (d : Cmp) (b : Bool) → None ≡ (if b then Some x else None) → stated_if b d ≡ []
none_by x d true e = absurd (cc)
none_by x d false e = refl

-- a comparison whose moved form is left out
pub moved-none : (by : ℕ) (c : Cmp) → None ≡ where_normal (shifted 0 by (cmp_form c)) → stated_if (is_normal (cmp_form (moved_cmp by c))) (moved_cmp by c) ≡ []
moved-none by (Ge x) e = none_by (shifted 0 by x) (moved_cmp by (Ge x)) (is_normal (shifted 0 by x)) e
moved-none by (Eq x) e = none_by (shifted 0 by x) (moved_cmp by (Eq x)) (is_normal (shifted 0 by x)) e

some_is : (y x : Items) (b : Bool) → Some y ≡ (if b then Some x else None) → (y ≡ x) × (b ≡ true)
some_is y x true e = (cc, refl)
some_is y x false e = absurd (cc)

-- one whose moved form is kept
pub moved-Ge : (by : ℕ) (x y : Items) → Some y ≡ where_normal (shifted 0 by x)
    → stated_if (is_normal (cmp_form (moved_cmp by (Ge x)))) (moved_cmp by (Ge x)) ≡ stated (Ge y) ∷ []
moved-Ge by x y e =
    let p = some_is y (shifted 0 by x) (is_normal (shifted 0 by x)) e in
    (λ k. stated_if (p.1 k) (Ge (sym p.0 k)))

pub moved-Eq : (by : ℕ) (x y : Items) → Some y ≡ where_normal (shifted 0 by x)
    → stated_if (is_normal (cmp_form (moved_cmp by (Eq x)))) (moved_cmp by (Eq x)) ≡ stated (Eq y) ∷ []
moved-Eq by x y e =
    let p = some_is y (shifted 0 by x) (is_normal (shifted 0 by x)) e in
    (λ k. stated_if (p.1 k) (Eq (sym p.0 k)))

pub var-once : (v : ℕ) → is_normal (single (pos 1) (Var v) (pos 0)) ≡ true
var-once v = single-normal (pos 1) (Var v) (pos 0) (var-atom v) refl refl refl

pub var-kept : (v : ℕ) → Some (single (pos 1) (Var v) (pos 0)) ≡ where_normal (var_form v)
var-kept v = kept-ok (var_form v) (single (pos 1) (Var v) (pos 0)) refl (var-once v)

-- the facts of a path from a binder on
pub path-Bound : (n : Items) (ps : List PathFact) → path_facts (Bound n ∷ ps) ≡ bound_facts (binders ps) n ++ path_facts ps
path-Bound n ps = sym (append_assoc (fact_if _ (where_normal (var_form (binders ps)))) (fact_if _ (where_normal (below_extent (binders ps) n))) (path_facts ps))

pub binders-few : (ps : List PathFact) → binders ps ≤ length ps
binders-few [] = omega arith
binders-few (Bound n ∷ ps) = let h = binders-few ps in omega arith
binders-few (Holds c ∷ ps) = let h = binders-few ps in omega arith

pub path-step : (p : PathFact) (ps : List PathFact) → path_facts (p ∷ ps) ≡ step_facts (binders ps) p ++ path_facts ps
path-step (Bound n) ps = path-Bound n ps
path-step (Holds c) ps = refl

path_fits : (p : PathFact) (ps : List PathFact) → moves_fit (p ∷ ps) ≡ true → (step_fits (binders ps) p ≡ true) × (moves_fit ps ≡ true)
path_fits (Bound n) ps h = (refl, h)
path_fits (Holds c) ps h = and_parts (cmps_fit (binders ps) c.all) (moves_fit ps) h

-- the first node of the rest of a path
pub path-fits : (ps : List PathFact) (i : ℕ) (p : PathFact) → i < length ps → p ≡ get_or ps i p → moves_fit (drop i ps) ≡ true
    → (step_fits (binders (drop (i + 1) ps)) p ≡ true) × (moves_fit (drop (i + 1) ps) ≡ true)
path-fits ps i p h e f = path_fits p (drop (i + 1) ps) (ap moves_fit (sym (drop-item ps i p h e)) ∙ f)

pub path-next : (ps : List PathFact) (i after : ℕ) (p : PathFact) (l m : List Fact) → i < length ps → p ≡ get_or ps i p → after ≡ binders (drop (i + 1) ps)
    → m ≡ l ++ step_facts after p
    → m ++ path_facts (drop (i + 1) ps) ≡ l ++ path_facts (drop i ps)
path-next ps i after p l m h e a q =
    ap (λ y. y ++ path_facts (drop (i + 1) ps)) (q ∙ ap (λ n. l ++ step_facts n p) a)
    ∙ append_assoc l (step_facts (binders (drop (i + 1) ps)) p) (path_facts (drop (i + 1) ps))
    ∙ ap (λ y. l ++ y) (sym (path-step p (drop (i + 1) ps)) ∙ ap path_facts (sym (drop-item ps i p h e)))

pub after-next : (ps : List PathFact) (i after count rest : ℕ) (p : PathFact) → i < length ps → p ≡ get_or ps i p → after ≡ binders (drop i ps)
    → ((qs : List PathFact) → binders (p ∷ qs) ≡ count + binders qs)
    → after ≡ count + binders (drop (i + 1) ps)
after-next ps i after count rest p h e a b = a ∙ ap binders (drop-item ps i p h e) ∙ b (drop (i + 1) ps)

binders-less : (ps : List PathFact) (i : ℕ) → binders (drop i ps) ≤ binders ps
binders-less [] zero = omega arith
binders-less [] (suc i) = omega arith
binders-less (p ∷ ps) zero = omega arith
binders-less (Bound n ∷ ps) (suc i) = let h = binders-less ps i in omega arith
binders-less (Holds c ∷ ps) (suc i) = binders-less ps i

-- the binders of the rest of a path are few
pub rest-few : (ps : List PathFact) (i : ℕ) → binders (drop i ps) ≤ length ps
rest-few ps i = omega (arith, binders-less ps i, binders-few ps)

pub cmps-fit : (by : ℕ) (cs : List Cmp) (i : ℕ) (c : Cmp) → i < length cs → c ≡ get_or cs i c → cmps_fit by (drop i cs) ≡ true
    → (numbers_fit 0 by (cmp_form c) ≡ true) × (cmps_fit by (drop (i + 1) cs) ≡ true)
cmps-fit by cs i c h e f = and_parts (numbers_fit 0 by (cmp_form c)) (cmps_fit by (drop (i + 1) cs)) (ap (cmps_fit by) (sym (drop-item cs i c h e)) ∙ f)

pub moved-next : (by : ℕ) (cs : List Cmp) (i : ℕ) (c : Cmp) (l m : List Fact) → i < length cs → c ≡ get_or cs i c
    → m ≡ l ++ stated_if (is_normal (cmp_form (moved_cmp by c))) (moved_cmp by c)
    → m ++ moved_facts by (drop (i + 1) cs) ≡ l ++ moved_facts by (drop i cs)
moved-next by = append-next (moved_facts by) (λ c. stated_if (is_normal (cmp_form (moved_cmp by c))) (moved_cmp by c)) (λ x xs. refl)

pub stated-next : (cs : List Cmp) (i : ℕ) (c : Cmp) (l m : List Fact) → i < length cs → c ≡ get_or cs i c → m ≡ l ++ stated_if (is_normal (cmp_form c)) c
    → m ++ stated_facts (drop (i + 1) cs) ≡ l ++ stated_facts (drop i cs)
stated-next = append-next stated_facts (λ c. stated_if (is_normal (cmp_form c)) c) (λ x xs. refl)

pub size-next : (bs : List SizeBounds) (i : ℕ) (d : SizeBounds) (x y : Option Items) (l m n : List Fact) → i < length bs
    → x ≡ where_normal (above_low i (get_or bs i d).low) → y ≡ where_normal (below_high i (get_or bs i d).high)
    → m ≡ l ++ fact_if (BoundOf Lower (Size i)) x → n ≡ m ++ fact_if (BoundOf Upper (Size i)) y
    → n ++ size_facts (i + 1) (drop (i + 1) bs) ≡ l ++ size_facts i (drop i bs)
size-next bs i d x y l m n h ex ey em en =
    let b = get_or bs i d in
    let low = fact_if (BoundOf Lower (Size i)) (where_normal (above_low i b.low)) in
    let high = fact_if (BoundOf Upper (Size i)) (where_normal (below_high i b.high)) in
    let rest = size_facts (i + 1) (drop (i + 1) bs) in
    ap (λ z. z ++ rest) (en ∙ (λ k. em k ++ fact_if (BoundOf Upper (Size i)) (ey k)) ∙ ap (λ o. (l ++ fact_if (BoundOf Lower (Size i)) o) ++ high) ex)
    ∙ append_assoc (l ++ low) high rest ∙ append_assoc l low (high ++ rest)
    ∙ ap (λ z. l ++ (low ++ (high ++ size_facts z (drop z bs)))) (turn i) ∙ ap (λ z. l ++ size_facts i z) (sym (drop-cons bs i d h))
  where
    turn : (i : ℕ) → i + 1 ≡ suc i
    turn i = omega arith

pub ruleset declared_laws = (
  stated-kept,
  size-next,
  moved-next,
  stated-next,
  moved-none,
  moved-Ge,
  moved-Eq,
  size-once,
  size-less,
  var-next,
  var-once,
  var-kept,
  path-Bound,
  binders-few,
)
