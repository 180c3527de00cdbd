-- Sound modules at allowed sizes.
use Rattle.std.proofs.Common.{◌≡◌, ℕ, zero, suc, ◌+◌, ◌<◌, ◌≤◌, min, List, [], ◌∷◌, ◌++◌, length, map, take, get_or, add-one, arith, refl, ap, sym, ◌∙◌, subst}
use Rattle.std.proofs.Common.{true, ◌&&◌, None}
use Rattle.std.specs.Prelude.{IsOk, All}
use Rattle.std.proofs.lemmas.Bool.{and_parts}
use Rattle.affine_index.specs.Condition.{all_scoped}
use Rattle.term_tree.specs.declared.term.InputDecl.{InputDecl}
use Rattle.term_tree.specs.declared.term.Module.{Module}
use Rattle.term_tree.specs.declared.term.OutputDecl.{OutputDecl}
use Rattle.term_tree.specs.declared.term.SizeDecl.{SizeDecl}
use Rattle.term_tree.specs.Meaning.{Bound, den, extents_of}
use Rattle.term_tree.specs.Modules.{Allowed, AreInputs, IsSound, IsWithin, extents_at, extents_scoped, input_shapes, inputs_bound, inputs_scoped, module_den}
use Rattle.term_tree.specs.Modules.{outputs_scoped}
use Rattle.term_tree.specs.Scope.{term_scoped}
use Rattle.term_tree.specs.Shape.{Extents, shape_of}
use Rattle.term_tree.specs.Tensors.{Tensor}
use Rattle.shape_rules.proofs.ModuleLaws.{bound_extents, inputs_values, sound_goals}
use Rattle.atl_meaning.specs.Denoted.{outputs_fit, outputs_tensors}
use Rattle.atl_meaning.specs.Forms.{each_scoped, shapes_of}
use Rattle.atl_meaning.specs.Scopes.{outputs_ready, placed, sized}
use Rattle.atl_meaning.specs.Surveyed.{outputs_surveyed}
use Rattle.atl_meaning.specs.Turns.{module_turns, outputs_turns, turn_folds}
use Rattle.atl_meaning.specs.Words.{first_big_input, first_big_output, first_of, module_big}
use Rattle.atl_meaning.specs.declared.tensor.Tensor.{Tensor as Value}
use Rattle.atl_meaning.proofs.DenotedLaws.{tensor-is}
use Rattle.atl_meaning.proofs.ExactLaws.{first-none}
use Rattle.atl_meaning.proofs.ExtentBounds.{outputs-fit-of}
use Rattle.atl_meaning.proofs.ScopeLaws.{and-true, placed-of, sized-of}
use Rattle.atl_meaning.proofs.SurveyLaws.{big-is, ok-value}
use Rattle.atl_meaning.proofs.TurnFold.{turns-is}

within-length : (ds : List SizeDecl) (s : List ℕ) → IsWithin ds s → length s ≡ length ds
within-length [] [] h = refl
within-length [] (n ∷ s) h = absurd h
within-length (d ∷ ds) [] h = absurd h
within-length (d ∷ ds) (n ∷ s) h = ap suc (within-length ds s h.2)

pub shapes-scoped : (k : ℕ) (ds : List InputDecl) → inputs_scoped k ds ≡ true → each_scoped k (shapes_of ds) ≡ true
shapes-scoped k [] h = refl
shapes-scoped k (d ∷ ds) h =
    let p = and_parts (extents_scoped k d.extents) (inputs_scoped k ds) h in
    and-true (extents_scoped k d.extents) (each_scoped k (shapes_of ds)) p.0 (shapes-scoped k ds p.1)

module _ (m : Module) (s : List ℕ) (sound : IsSound m) (allowed : Allowed m s) where
  count : length m.sizes ≡ length s
  count = sym (within-length m.sizes s allowed.within)

  scoped : (inputs_scoped (length m.sizes) m.inputs ≡ true) × (outputs_scoped (length m.sizes) (length m.inputs) m.outputs ≡ true)
  scoped =
      let p = and_parts (all_scoped (length m.sizes) 0 m.assumes)
      (inputs_scoped (length m.sizes) m.inputs && outputs_scoped (length m.sizes) (length m.inputs) m.outputs) sound.scoped in
      and_parts (inputs_scoped (length m.sizes) m.inputs) (outputs_scoped (length m.sizes) (length m.inputs) m.outputs) p.1

  pub inputs-ready : inputs_scoped (length s) m.inputs ≡ true
  inputs-ready = subst (λ (k : ℕ). inputs_scoped k m.inputs ≡ true) count scoped.0

  each-ready : (k t : ℕ) (os : List OutputDecl) → outputs_scoped k t os ≡ true → outputs_ready k os ≡ true
  each-ready k t [] h = refl
  each-ready k t (o ∷ os) h =
      let p = and_parts (term_scoped k o.term 0 t) (outputs_scoped k t os) h in
      and-true (sized k o.term && placed k o.term 0) (outputs_ready k os)
      (and-true (sized k o.term) (placed k o.term 0) (sized-of k o.term 0 t p.0) (placed-of k o.term 0 t p.0)) (each-ready k t os p.1)

  pub outputs-ready : outputs_ready (length s) m.outputs ≡ true
  outputs-ready = subst (λ (k : ℕ). outputs_ready k m.outputs ≡ true) count (each-ready (length m.sizes) (length m.inputs) m.outputs scoped.1)

  each-big : (os : List OutputDecl) (ts : List Extents) → All (λ (o : OutputDecl). IsOk (shape_of o.term ts)) os
      → outputs_surveyed s os ts ≡ first_big_output os s ts
  each-big [] ts h = refl
  each-big (o ∷ os) ts h =
      let p = ok-value (shape_of o.term ts) (h 0 o (omega arith)) in
      (λ i. first_of (big-is s o.term [] ts p.0 p.1 i) (each-big os ts (λ k d q. h (suc k) d (omega (arith, q))) i))

  -- the code's first input or node is that of the definition
  pub big-of : first_of (first_big_input m.inputs s) (outputs_surveyed s m.outputs (shapes_of m.inputs)) ≡ module_big m s
  big-of = ap (first_of (first_big_input m.inputs s)) (each-big m.outputs (input_shapes m) sound.shaped)

  -- where nothing is too big, each extent that is reckoned is below 2^64
  pub outputs-fit : (inputs : List Tensor) → AreInputs m.inputs s inputs
      → first_of (first_big_input m.inputs s) (outputs_surveyed s m.outputs (shapes_of m.inputs)) ≡ None
      → outputs_fit s m.outputs (extents_of (inputs_bound m.inputs s inputs)) ≡ true
  outputs-fit inputs are none =
      let goals = sound_goals m sound s allowed in
      let nones = first-none s (first_big_input m.inputs s) (outputs_surveyed s m.outputs (shapes_of m.inputs)) none in
      ap (outputs_fit s m.outputs) (bound_extents s m.inputs inputs are)
      ∙ outputs-fit-of s m.outputs (length m.inputs) (input_shapes m) (map (λ d. extents_at d.extents s) m.inputs)
      (subst (λ (k : ℕ). outputs_scoped k (length m.inputs) m.outputs ≡ true) count scoped.1) sound.shaped goals.1
      (shapes-scoped (length s) m.inputs inputs-ready) (inputs_values s m.inputs goals.0) nones.1

turns-each : (s : List ℕ) (os : List OutputDecl) → turn_folds s os ≡ outputs_turns os s
turns-each s [] = refl
turns-each s (o ∷ os) = (λ i. turns-is o.term s [] i + turns-each s os i)

pub turns-of : (m : Module) (s : List ℕ) → turn_folds s m.outputs ≡ module_turns m s
turns-of m s = turns-each s m.outputs

dens-each : (s : List ℕ) (os : List OutputDecl) (t : List Bound) → outputs_tensors s os t ≡ map (λ o. den o.term s [] t) os
dens-each s [] t = refl
dens-each s (o ∷ os) t = (λ i. tensor-is s o.term [] t i ∷ dens-each s os t i)

pub dens-of : (m : Module) (s : List ℕ) (inputs : List Tensor) → outputs_tensors s m.outputs (inputs_bound m.inputs s inputs) ≡ module_den m s inputs
dens-of m s inputs = dens-each s m.outputs (inputs_bound m.inputs s inputs)

-- one more input
bound-suc : (f : Value → Tensor) (ds : List InputDecl) (s : List ℕ) (vs : List Value) (k : ℕ) (d : InputDecl) (v : Value) → k < length ds → k < length vs
    → inputs_bound (take (suc k) ds) s (map f (take (suc k) vs)) ≡ inputs_bound (take k ds) s (map f (take k vs))
    ++ (extents_at (get_or ds k d).extents s, f (get_or vs k v)) ∷ []
bound-suc f [] s vs k d v p q = absurd (omega (arith, p))
bound-suc f (e ∷ ds) s [] k d v p q = absurd (omega (arith, q))
bound-suc f (e ∷ ds) s (w ∷ vs) zero d v p q = refl
bound-suc f (e ∷ ds) s (w ∷ vs) (suc k) d v p q = ap (λ t. (extents_at e.extents s, f w) ∷ t) (bound-suc f ds s vs k d v (omega (arith, p)) (omega (arith, q)))

pub bound-next : (f : Value → Tensor) (ds : List InputDecl) (s : List ℕ) (vs : List Value) (k : ℕ) (d : InputDecl) (v : Value) → k < length ds → k < length vs
    → d ≡ get_or ds k d → v ≡ get_or vs k v
    → inputs_bound (take (k + 1) ds) s (map f (take (k + 1) vs)) ≡ inputs_bound (take k ds) s (map f (take k vs)) ++ (extents_at d.extents s, f v) ∷ []
bound-next f ds s vs k d v p q a b =
    ap (λ i. inputs_bound (take i ds) s (map f (take i vs))) (add-one k) ∙ bound-suc f ds s vs k d v p q
    ∙ (λ i. inputs_bound (take k ds) s (map f (take k vs)) ++ (extents_at (sym a i).extents s, f (sym b i)) ∷ [])

-- the inputs up to the end of the shorter list are all
pub bound-all : (f : Value → Tensor) (ds : List InputDecl) (s : List ℕ) (vs : List Value) (k : ℕ) → min (length ds) (length vs) ≤ k
    → inputs_bound (take k ds) s (map f (take k vs)) ≡ inputs_bound ds s (map f vs)
bound-all f [] s vs zero h = refl
bound-all f [] s vs (suc k) h = refl
bound-all f (d ∷ ds) s [] zero h = refl
bound-all f (d ∷ ds) s [] (suc k) h = refl
bound-all f (d ∷ ds) s (v ∷ vs) zero h = absurd (omega (arith, h))
bound-all f (d ∷ ds) s (v ∷ vs) (suc k) h = ap (λ t. (extents_at d.extents s, f v) ∷ t) (bound-all f ds s vs k (omega (arith, h)))

pub ruleset shape_laws = (shapes-scoped)
