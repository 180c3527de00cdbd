-- The first fault of the shapes, from what the walk over the module answers.
use Rattle.std.proofs.Common.{◌≡◌, ℕ, zero, suc, ◌+◌, ◌<◌, ◌≤◌, List, [], ◌∷◌, length, map, refl, ap, sym, subst, ◌∙◌, arith, true, false, nat_le, Option, None}
use Rattle.std.proofs.Common.{Some, Ok, Err, IsOk}
use Rattle.std.specs.Prelude.{All, slice_get, ⊤}
use Rattle.std.specs.Option.{option_map}
use Rattle.shape_rules.specs.Faults.{AllBefore, FailsFirst, HasOne, IsFault, IsModuleFault, RankFits, ShapesHold}
use Rattle.shape_rules.specs.declared.fault.ShapeFault.{ShapeFault}
use Rattle.shape_rules.specs.declared.fault.ShapeFault.TheVariants as f
use Rattle.term_tree.specs.Modules.{input_shapes}
use Rattle.term_tree.specs.Shape.{Extents, Shaped, largest_rank, shape_of}
use Rattle.term_tree.specs.declared.term.InputDecl.{InputDecl}
use Rattle.term_tree.specs.declared.term.Module.{Module}
use Rattle.term_tree.specs.declared.term.OutputDecl.{OutputDecl}
use Rattle.admission.specs.Admission.{Tells, first_false, or_else, outputs_fault, rank_fits, refusal_of, shape_fault, shape_or}
use Rattle.admission.specs.declared.fault.AdmissionFault.TheVariants.{Shape}

-- what is told of the first fault of the shapes
abbrev TellsShape : Option ShapeFault → ShapeFault → Type 0
TellsShape due f.Memory = ⊤
TellsShape due fault = due ≡ Some fault

within_rank : (n : ℕ) → n ≤ 8 → nat_le n 8 ≡ true
within_rank n h = grind arith

over_rank : (n : ℕ) → 8 < n → nat_le n 8 ≡ false
over_rank n h = grind arith

-- the first input of a rank over the limit
high_found : (inputs : List InputDecl) (i n : ℕ) (d : InputDecl) → slice_get inputs i ≡ Some d → largest_rank < length d.extents → AllBefore RankFits i inputs
    → first_false n (map rank_fits inputs) ≡ Some (n + i)
high_found [] i n d e h b = absurd (cc)
high_found (x ∷ xs) zero n d e h b =
    let same : x ≡ d = cc in
    ap (λ t. first_false n (t ∷ map rank_fits xs)) (over_rank (length x.extents) (subst (λ (d : InputDecl). 8 < length d.extents) (sym same) h))
    ∙ ap Some (omega arith)
high_found (x ∷ xs) (suc i) n d e h b =
    ap (λ t. first_false n (t ∷ map rank_fits xs)) (within_rank (length x.extents) (b zero x (omega arith)))
    ∙ high_found xs i (suc n) d e h (λ k d q. b (suc k) d (omega (arith, q)))
    ∙ ap Some (omega arith)

-- no input has a rank over the limit
none_high : (inputs : List InputDecl) (n : ℕ) → All RankFits inputs → first_false n (map rank_fits inputs) ≡ None
none_high [] n h = refl
none_high (x ∷ xs) n h =
    ap (λ t. first_false n (t ∷ map rank_fits xs)) (within_rank (length x.extents) (h zero x (omega arith)))
    ∙ none_high xs (suc n) (λ k d q. h (suc k) d (omega (arith, q)))

module _ (ts : List Extents) where
  shaped_on : (shape : Shaped) → IsOk shape → (n : ℕ) (rest : Option ShapeFault) → shape_or n shape rest ≡ rest
  shaped_on (Ok ns) h n rest = refl
  shaped_on (Err e) h n rest = absurd (cc)

  -- the fault of the output itself
  misfit_told : (n : ℕ) (shape : Shaped) (fault : ShapeFault) (rest : Option ShapeFault) → IsFault n shape fault → TellsShape (shape_or n shape rest) fault
  misfit_told n shape (f.InputRank i) rest h = absurd h
  misfit_told n shape (f.RankMismatch p) rest h = ap (λ s. shape_or n s rest) h.1
      ∙ ap (λ o. Some (f.RankMismatch (record { output = o; steps = p.steps }))) (sym h.0)
  misfit_told n shape (f.ShapesDiffer p) rest h = ap (λ s. shape_or n s rest) h.1
      ∙ ap (λ o. Some (f.ShapesDiffer (record { output = o; steps = p.steps }))) (sym h.0)
  misfit_told n shape (f.RankTooLarge p) rest h = ap (λ s. shape_or n s rest) h.1
      ∙ ap (λ o. Some (f.RankTooLarge (record { output = o; steps = p.steps }))) (sym h.0)
  misfit_told n shape (f.CoefficientTooLarge p) rest h = ap (λ s. shape_or n s rest) h.1
      ∙ ap (λ o. Some (f.CoefficientTooLarge (record { output = o; steps = p.steps }))) (sym h.0)
  misfit_told n shape (f.IndexTooLong p) rest h = ap (λ s. shape_or n s rest) h.1
      ∙ ap (λ o. Some (f.IndexTooLong (record { output = o; steps = p.steps }))) (sym h.0)
  misfit_told n shape f.Memory rest h = tt

  -- the fault of the first output without a shape
  output_found : (os : List OutputDecl) (i n : ℕ) (o : OutputDecl) (fault : ShapeFault) → slice_get os i ≡ Some o → AllBefore (HasOne ts) i os
      → IsFault (n + i) (shape_of o.term ts) fault → TellsShape (outputs_fault ts n os) fault
  output_found [] i n o fault e b h = absurd (cc)
  output_found (x ∷ xs) zero n o fault e b h =
      let same : x ≡ o = cc in
      misfit_told n (shape_of x.term ts) fault (outputs_fault ts (suc n) xs)
      (subst (λ (m : ℕ). IsFault m (shape_of x.term ts) fault) (omega arith)
      (subst (λ (o : OutputDecl). IsFault (n + zero) (shape_of o.term ts) fault) (sym same) h))
  output_found (x ∷ xs) (suc i) n o fault e b h =
      subst (λ (due : Option ShapeFault). TellsShape due fault) (sym (shaped_on (shape_of x.term ts) (b zero x (omega arith)) n (outputs_fault ts (suc n) xs)))
      (output_found xs i (suc n) o fault e (λ k d q. b (suc k) d (omega (arith, q))) (subst (λ (m : ℕ). IsFault m (shape_of o.term ts) fault) (omega arith) h))

  all_shaped : (os : List OutputDecl) (n : ℕ) → All (HasOne ts) os → outputs_fault ts n os ≡ None
  all_shaped [] n h = refl
  all_shaped (x ∷ xs) n h = shaped_on (shape_of x.term ts) (h zero x (omega arith)) n (outputs_fault ts (suc n) xs)
      ∙ all_shaped xs (suc n) (λ k d q. h (suc k) d (omega (arith, q)))

-- behind inputs whose ranks fit, what the outputs have
outputs_only : (m : Module) → All RankFits m.inputs → shape_fault m ≡ outputs_fault (input_shapes m) 0 m.outputs
outputs_only m h = ap (λ i. or_else (option_map f.InputRank i) (outputs_fault (input_shapes m) 0 m.outputs)) (none_high m.inputs 0 h)

first_output : (m : Module) (fault : ShapeFault) → All RankFits m.inputs × FailsFirst (input_shapes m) m.outputs fault → TellsShape (shape_fault m) fault
first_output m fault (h, (i, o, e, b, k)) =
    subst (λ (due : Option ShapeFault). TellsShape due fault) (sym (outputs_only m h))
    (output_found (input_shapes m) m.outputs i 0 o fault e b (subst (λ (n : ℕ). IsFault n (shape_of o.term (input_shapes m)) fault) (omega arith) k))

-- what the walk answers is the first fault
pub shape_told : (m : Module) (fault : ShapeFault) → IsModuleFault m fault → Tells (option_map Shape (shape_fault m)) (refusal_of fault)
shape_told m (f.InputRank i) (d, e, h, b) =
    ap (λ i. option_map Shape (or_else (option_map f.InputRank i) (outputs_fault (input_shapes m) 0 m.outputs))) (high_found m.inputs i 0 d e h b
    ∙ ap Some (omega arith))
shape_told m (f.RankMismatch p) h = ap (option_map Shape) (first_output m (f.RankMismatch p) h)
shape_told m (f.ShapesDiffer p) h = ap (option_map Shape) (first_output m (f.ShapesDiffer p) h)
shape_told m (f.RankTooLarge p) h = ap (option_map Shape) (first_output m (f.RankTooLarge p) h)
shape_told m (f.CoefficientTooLarge p) h = ap (option_map Shape) (first_output m (f.CoefficientTooLarge p) h)
shape_told m (f.IndexTooLong p) h = ap (option_map Shape) (first_output m (f.IndexTooLong p) h)
shape_told m f.Memory h = tt

-- where the shape rules hold there is none
pub none_told : (m : Module) → ShapesHold m → shape_fault m ≡ None
none_told m h = outputs_only m h.ranks ∙ all_shaped (input_shapes m) m.outputs 0 h.shaped
