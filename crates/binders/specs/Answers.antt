-- What a mapped term is, and which refusal comes where.
use Rattle.std.specs.Prelude.{◌≡◌, ◌<◌, ◌≤◌, ◌⊎◌, ◌||◌, ◌==◌, ◌^◌, ◌-◌, ◌+◌, ℕ, Bool, true, false, not, List, Option, Some, None, Result, Ok, Err, min}
use Rattle.affine_index.specs.Condition.{cmp_form}
use Rattle.affine_index.specs.Normal.{is_short}
use Rattle.affine_index.specs.Normal.{coefficients_fit as form_fits}
use Rattle.affine_index.specs.Put.{given, put_all}
use Rattle.affine_index.specs.declared.cond.Cmp.{Cmp}
use Rattle.affine_index.specs.declared.cond.Cond.{Cond}
use Rattle.affine_index.specs.declared.form.Items.{Items}
use Rattle.term_tree.specs.declared.term.Term.{Term, Lit, TVar, WordOf}
use Rattle.term_tree.specs.declared.term.Term.TheOpen.{Term-F}
use Rattle.term_tree.specs.declared.term.Term.TheFolds.{fold-Term}
use Rattle.term_tree.specs.Syntax.{index, gen, sum, guard, let_in, add, sub, mul, concat, flatten, split, transpose, trunc_l, trunc_r, pad_l, pad_r}
use Rattle.term_tree.specs.Counts.{node_count}
use Rattle.term_tree.specs.Limits.{each_cmp, coefficients_fit, forms_short}
use Rattle.binders.specs.Maps.{Replacement}
use Rattle.binders.specs.Uses.{any_cmp, form_has, uses}
use Rattle.binders.specs.declared.refusal.MapRefusal.{MapRefusal}
use Rattle.binders.specs.declared.refusal.MapRefusal.TheVariants.{CoefficientTooLarge, IndexTooLong, NotAffine, TooManyNodes, Memory}

-- the refusal of a map at a variable, if any, under i gens and sums and j lets
pub record Refusals : Type 0 where
  pub at_index : ℕ → ℕ → ℕ → Option MapRefusal
  pub at_tensor : ℕ → ℕ → ℕ → Option MapRefusal

-- the variables that a map may be asked for, under i gens and sums and j lets
pub record Reach : Type 0 where
  pub has_index : ℕ → ℕ → ℕ → Bool
  pub has_tensor : ℕ → ℕ → ℕ → Bool

-- no refusal at any variable
abbrev pub no_refusals : Refusals
no_refusals = record { at_index = λ i j v. None; at_tensor = λ i j q. None }

-- no refusal but want of memory
pub record NeverRefuses (r : Refusals) : Type 0 where
  pub at_index : (i j v : ℕ) → r.at_index i j v ≡ None
  pub at_tensor : (i j q : ℕ) → r.at_tensor i j q ≡ None

-- what a map answers for a variable: its replacement, or its refusal there
abbrev pub IsAnswer : {A : Type 0} → A → Option MapRefusal → Result A MapRefusal → Type 0
IsAnswer replacement refusal (Ok x) = (x ≡ replacement) × (refusal ≡ None)
IsAnswer replacement refusal (Err Memory) = Unit {0}
IsAnswer replacement refusal (Err e) = refusal ≡ Some e

-- whether two refusals are the same
abbrev pub same_refusal : MapRefusal → MapRefusal → Bool
same_refusal CoefficientTooLarge CoefficientTooLarge = true
same_refusal IndexTooLong IndexTooLong = true
same_refusal NotAffine NotAffine = true
same_refusal (TooManyNodes m) (TooManyNodes n) = m == n
same_refusal Memory Memory = true
same_refusal _ _ = false

-- whether it is this refusal
abbrev pub is_refusal : MapRefusal → Option MapRefusal → Bool
is_refusal e None = false
is_refusal e (Some f) = same_refusal e f

-- whether some form that a map reads passes p, or some tensor variable q, each under its binders
module _ (p : ℕ → ℕ → Items → Bool) (q : ℕ → ℕ → ℕ → Bool) where
  abbrev pub some_place : Term → ℕ → ℕ → Bool
  some_place (Lit w) i j = false
  some_place (TVar v) i j = q i j v
  some_place (WordOf x) i j = p i j x
  some_place (index e x) i j = some_place e i j || p i j x
  some_place (gen n e) i j = some_place e (i + 1) j
  some_place (sum n e) i j = some_place e (i + 1) j
  some_place (guard c e) i j = any_cmp (p i j) c.all || some_place e i j
  some_place (let_in a b) i j = some_place a i j || some_place b i (j + 1)
  some_place (add a b) i j = some_place a i j || some_place b i j
  some_place (sub a b) i j = some_place a i j || some_place b i j
  some_place (mul a b) i j = some_place a i j || some_place b i j
  some_place (concat a b) i j = some_place a i j || some_place b i j
  some_place (flatten e) i j = some_place e i j
  some_place (split k e) i j = some_place e i j
  some_place (transpose e) i j = some_place e i j
  some_place (trunc_l n e) i j = some_place e i j
  some_place (trunc_r n e) i j = some_place e i j
  some_place (pad_l n e) i j = some_place e i j
  some_place (pad_r n e) i j = some_place e i j

  -- one level of a term, given its parts
  abbrev pub place_step : Term-F (ℕ → ℕ → Bool) → ℕ → ℕ → Bool
  place_step (Term-F.Lit w) i j = false
  place_step (Term-F.TVar v) i j = q i j v
  place_step (Term-F.WordOf x) i j = p i j x
  place_step (Term-F.Index e x) i j = e i j || p i j x
  place_step (Term-F.Gen n e) i j = e (i + 1) j
  place_step (Term-F.Sum n e) i j = e (i + 1) j
  place_step (Term-F.Guard c e) i j = any_cmp (p i j) c.all || e i j
  place_step (Term-F.Let a b) i j = a i j || b i (j + 1)
  place_step (Term-F.Add a b) i j = a i j || b i j
  place_step (Term-F.Sub a b) i j = a i j || b i j
  place_step (Term-F.Mul a b) i j = a i j || b i j
  place_step (Term-F.Concat a b) i j = a i j || b i j
  place_step (Term-F.Flatten e) i j = e i j
  place_step (Term-F.Split k e) i j = e i j
  place_step (Term-F.Transpose e) i j = e i j
  place_step (Term-F.TruncL n e) i j = e i j
  place_step (Term-F.TruncR n e) i j = e i j
  place_step (Term-F.PadL n e) i j = e i j
  place_step (Term-F.PadR n e) i j = e i j

  -- the same as a fold
  abbrev pub place_fold : Term → ℕ → ℕ → Bool
  place_fold = fold-Term (ℕ → ℕ → Bool) place_step

-- whether a map has this refusal at a variable of a form
abbrev pub form_refused : Refusals → MapRefusal → ℕ → ℕ → Items → Bool
form_refused r e i j x = form_has (λ v. is_refusal e (r.at_index i j v)) x

-- whether a map has this refusal at tensor variable q
unfoldable pub tensor_refused : Refusals → MapRefusal → ℕ → ℕ → ℕ → Bool
tensor_refused r e i j q = is_refusal e (r.at_tensor i j q)

-- whether a map has this refusal at a variable of a term
abbrev pub refused : Refusals → Term → MapRefusal → Bool
refused r term e = some_place (form_refused r e) (tensor_refused r e) term 0 0

-- whether a form holds a variable that a map may not be asked for
unfoldable pub form_beyond : Reach → ℕ → ℕ → Items → Bool
form_beyond d i j x = form_has (λ v. not (d.has_index i j v)) x

-- whether a term holds a variable that a map may not be asked for
abbrev pub is_beyond : Reach → Term → Bool
is_beyond d term = some_place (form_beyond d) (λ i j q. not (d.has_tensor i j q)) term 0 0

-- each variable of a term is one that a map may be asked for
abbrev pub IsWithinReach : Reach → Term → Type 0
IsWithinReach d term = is_beyond d term ≡ false

-- the mapped term where it is within the limits and the map has no refusal, else a limit that it breaks, or a refusal of the map
abbrev pub IsMapped : Term → (MapRefusal → Bool) → Result Term MapRefusal → Type 0
IsMapped raw refused (Ok e) = (e ≡ raw) × (coefficients_fit raw ≡ true) × (forms_short raw ≡ true) × (node_count raw ≤ 20000)
IsMapped raw refused (Err CoefficientTooLarge) = (coefficients_fit raw ≡ false) ⊎ (refused CoefficientTooLarge ≡ true)
IsMapped raw refused (Err IndexTooLong) = ((coefficients_fit raw ≡ true) × (forms_short raw ≡ false)) ⊎ (refused IndexTooLong ≡ true)
IsMapped raw refused (Err NotAffine) = refused NotAffine ≡ true
IsMapped raw refused (Err (TooManyNodes n)) =
    ((coefficients_fit raw ≡ true) × (forms_short raw ≡ true) × (20000 < node_count raw) × (n ≡ min (node_count raw) (2 ^ 64 - 1)))
    ⊎ (refused (TooManyNodes n) ≡ true)
IsMapped raw refused (Err Memory) = Unit {0}

-- the mapped term where it is within the limits, else the first limit that it breaks
abbrev pub IsWithinLimits : Term → Result Term MapRefusal → Type 0
IsWithinLimits raw (Ok e) = (e ≡ raw) × (coefficients_fit raw ≡ true) × (forms_short raw ≡ true) × (node_count raw ≤ 20000)
IsWithinLimits raw (Err CoefficientTooLarge) = coefficients_fit raw ≡ false
IsWithinLimits raw (Err IndexTooLong) = (coefficients_fit raw ≡ true) × (forms_short raw ≡ false)
IsWithinLimits raw (Err NotAffine) = ⊥
IsWithinLimits raw (Err (TooManyNodes n)) =
    (coefficients_fit raw ≡ true) × (forms_short raw ≡ true) × (20000 < node_count raw) × (n ≡ min (node_count raw) (2 ^ 64 - 1))
IsWithinLimits raw (Err Memory) = Unit {0}

-- whether a refusal comes from a mapped form: the map has it at a variable, or it is that a coefficient is too large
abbrev pub breaks : MapRefusal → Items → Bool
breaks CoefficientTooLarge raw = not (form_fits raw)
breaks _ raw = false

-- the same as one word, which proofs open by name
unfoldable pub form_causes : Replacement → Refusals → MapRefusal → ℕ → ℕ → Items → Bool
form_causes m r e i j x = form_refused r e i j x || breaks e (put_all (m.for_index i j) x)

-- what is put for each variable that occurs in a form, or a refusal that the map has at one
abbrev pub AreReplacements : Replacement → Refusals → ℕ → ℕ → Items → Result (List Items) MapRefusal → Type 0
AreReplacements m r i j x (Ok by) = (v : ℕ) → uses v x ≡ true → given by v ≡ m.for_index i j v
AreReplacements m r i j x (Err Memory) = Unit {0}
AreReplacements m r i j x (Err e) = form_refused r e i j x ≡ true

-- whether it is want of memory
abbrev pub is_memory : MapRefusal → Bool
is_memory Memory = true
is_memory _ = false

-- on the way: the value itself, or nothing where some form is too long; a refusal has its cause at once
abbrev pub IsPart : {A : Type 0} → (raw : A) → (fits short : Bool) → (causes : MapRefusal → Bool) → Result (Option A) MapRefusal → Type 0
IsPart raw fits short causes (Ok (Some e)) = (e ≡ raw) × (fits ≡ true) × (short ≡ true)
IsPart raw fits short causes (Ok None) = (fits ≡ true) × (short ≡ false)
IsPart raw fits short causes (Err e) = (is_memory e || causes e) ≡ true

-- both parts of a node, where both are short; the first refusal else
abbrev pub parts_of : {A B : Type 0} → Result (Option A) MapRefusal → Result (Option B) MapRefusal → Result (Option (A × B)) MapRefusal
parts_of (Ok (Some a)) (Ok (Some b)) = Ok (Some (a, b))
parts_of (Ok (Some a)) (Ok None) = Ok None
parts_of (Ok (Some a)) (Err e) = Err e
parts_of (Ok None) (Ok b) = Ok None
parts_of (Ok None) (Err e) = Err e
parts_of (Err e) b = Err e

-- the same of a form, a comparison, a condition and a term
abbrev pub IsForm : Items → (MapRefusal → Bool) → Result (Option Items) MapRefusal → Type 0
IsForm raw causes r = IsPart raw (form_fits raw) (is_short raw) causes r

abbrev pub IsCmp : Cmp → (MapRefusal → Bool) → Result (Option Cmp) MapRefusal → Type 0
IsCmp raw causes r = IsPart raw (form_fits (cmp_form raw)) (is_short (cmp_form raw)) causes r

abbrev pub IsCond : Cond → (MapRefusal → Bool) → Result (Option Cond) MapRefusal → Type 0
IsCond raw causes r = IsPart raw (each_cmp form_fits raw.all) (each_cmp is_short raw.all) causes r

abbrev pub IsPartOf : Term → (MapRefusal → Bool) → Result (Option Term) MapRefusal → Type 0
IsPartOf raw causes r = IsPart raw (coefficients_fit raw) (forms_short raw) causes r

-- a refusal's cause in a term under i gens and sums and j lets
abbrev pub part_causes : Replacement → Refusals → Term → ℕ → ℕ → MapRefusal → Bool
part_causes m r term i j e = place_fold (form_causes m r e) (tensor_refused r e) term i j
