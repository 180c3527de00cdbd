-- The outputs of a module that may be lowered, and its program.
use Rattle.std.proofs.Common.{◌≡◌, ℕ, zero, suc, ◌+◌, List, [], ◌∷◌, ◌++◌, length, map, refl, sym, ap, subst, arith, Bool, true, false, ◌&&◌}
use Rattle.std.proofs.Common.{if◌then◌else◌, None, Ok, Err, IfOk}
use Rattle.std.specs.Prelude.{All, IsOk, Result, pos}
use Rattle.std.proofs.lemmas.Bool.{and_parts}
use Rattle.affine_index.specs.declared.form.Items.{Items}
use Rattle.affine_index.specs.Form.{literal_form}
use Rattle.linear_cert.specs.declared.lines.FinalLine.{FinalLine}
use Rattle.loop_lang.specs.declared.word.Buf.{Buf}
use Rattle.loop_lang.specs.declared.word.Buf.TheVariants.{Input, Output}
use Rattle.loop_lang.specs.Actions.{Puts}
use Rattle.reindexer.specs.Limited.{Limited}
use Rattle.region_plan.specs.declared.length.Length.{Length}
use Rattle.region_plan.specs.Needed.{module_needed}
use Rattle.region_plan.specs.Shaped.{EachShaped}
use Rattle.region_plan.proofs.ModuleLaws.{module_shaped}
use Rattle.shape_rules.proofs.ModuleLaws.{free_extents, module_free}
use Rattle.term_tree.specs.declared.term.InputDecl.{InputDecl}
use Rattle.term_tree.specs.declared.term.Module.{Module}
use Rattle.term_tree.specs.declared.term.OutputDecl.{OutputDecl}
use Rattle.term_tree.specs.declared.term.Path.{Path}
use Rattle.term_tree.specs.Modules.{extents_scoped, input_shapes, inputs_scoped, outputs_scoped}
use Rattle.affine_index.specs.Condition.{all_scoped}
use Rattle.final_rules.specs.Accepted.{IsLowerable}
use Rattle.final_rules.specs.declared.fault.FinalFault.TheVariants.{IndexTooLarge}
use Rattle.final_rules.specs.Places.{Place, Site}
use Rattle.final_rules.specs.Printed.{Printed, form_small, greatest, length_printed, printed_of}
use Rattle.final_rules.specs.Printing.{scene_sites}
use Rattle.final_rules.specs.Rules.{Expression, Index, Scratch, any_let, body_printed, expression_small, form_fault, goal_fault, input_lengths, input_site}
use Rattle.final_rules.specs.Rules.{large_fault}
use Rattle.final_rules.specs.Rules.{length_small, line_fault, mark_fault, maxima, module_goals, nowhere_yet, output_extents, output_lengths, output_place}
use Rattle.final_rules.specs.Rules.{output_spot, printed, scratch_printed}
use Rattle.final_rules.proofs.Accepted.{if_none}
use Rattle.final_rules.proofs.Main.{or_none}
use Rattle.final_rules.proofs.Walk.{Every}
use Rattle.lowering_laws.specs.Lowered.{input_buffers, loops_at, outputs_loops}
use Rattle.lowering_laws.specs.Lowered.{output_spot as output_context}
use Rattle.lowering_laws.specs.Marks.{Marks, output_marks}
use Rattle.lowering.specs.Made.{AllMade, IsMade}
use Rattle.lowering.specs.Nodes.{context_of, free_of, numbered, place_of}
use Rattle.lowering.specs.Outputs.{LengthReady, ModuleReady, OutputReady, cleared_words, no_room, outer_scene, output_node, output_target, outputs_in}
use Rattle.lowering.proofs.ReadyLaws.{made-parts}

-- where outputs stand

outer-sites : (ds : List InputDecl) → scene_sites (outer_scene ds) ≡ map input_site ds
outer-sites [] = refl
outer-sites (d ∷ ds) = ap (λ (xs : List Site). input_site d ∷ xs) (outer-sites ds)

outer-buffers : (k : ℕ) (ds : List InputDecl) → numbered k (map (λ d. d.extents) ds) ≡ input_buffers k ds
outer-buffers k [] = refl
outer-buffers k (d ∷ ds) = ap (λ (bs : List Buf). Input k ∷ bs) (outer-buffers (k + 1) ds)

free-zero : free_of no_room ≡ literal_form (pos 0)
free-zero = refl

module _ (m : Module) where
  place-is : (o : OutputDecl) (j : ℕ) (ms : Marks)
      → place_of (outer_scene m.inputs) (output_target j (output_extents m o)) no_room (output_node ms) ≡ output_place m o
  place-is o j ms = λ i. record {
    spot = output_spot;
    sites = outer-sites m.inputs i;
    target = record { extents = output_extents m o; offset = literal_form (pos 0) };
    free = free-zero i;
  }

  context-is : (o : OutputDecl) (j : ℕ) (ms : Marks)
      → context_of (outer_scene m.inputs) (output_target j (output_extents m o)) no_room (output_node ms) ≡ output_context m o j
  context-is o j ms = λ i. record { place = place-is o j ms i; buffers = outer-buffers 0 m.inputs i; target = Output j; mode = Puts }

  -- the statements of the outputs
  pub outputs-are : (paths : List Path) (os : List OutputDecl) (j : ℕ) → outputs_in (outer_scene m.inputs) paths os j ≡ outputs_loops m paths os j
  outputs-are paths [] j = refl
  outputs-are paths (o ∷ os) j = λ i.
      cleared_words j (output_extents m o)
      ∷ (loops_at o.term (context-is o j (output_marks j paths) i) (output_marks j paths) ++ outputs-are paths os (j + 1) i)

-- what acceptance gives

all-of : {A : Type 0} (P : A → Type 0) (xs : List A) → Every P xs → All P xs
all-of P [] h k d l = absurd (omega (arith, l))
all-of P (x ∷ xs) h zero d l = h.0
all-of P (x ∷ xs) h (suc k) d l = all-of P xs h.1 k d (omega (arith, l))

small-made : (maxima vars : List ℕ) (l : Limited Items) → form_small maxima vars l ≡ true → IsMade l
small-made maxima vars (Ok x) h = tt
small-made maxima vars (Err e) h = absurd (cc)

small-length : (maxima : List ℕ) (l : Limited Length) → length_small maxima l ≡ true → IsOk l
small-length maxima (Ok x) h = refl
small-length maxima (Err e) h = absurd (cc)

module _ (most : List ℕ) where
  first-made : (k : ℕ) (ps : List Printed) (rest : List Expression) → large_fault most k (map Index ps ++ rest) ≡ None
      → AllMade ps × ((j : ℕ) × (large_fault most j rest ≡ None))
  first-made k [] rest h = (tt, (k, h))
  first-made k (p ∷ ps) rest h =
      let q = if_none (expression_small most (Index p)) (large_fault most (k + 1) (map Index ps ++ rest)) (IndexTooLarge k) h in
      let r = first-made (k + 1) ps rest q.1 in ((small-made most (greatest most p.scope) p.form q.0, r.0), r.1)

  last-made : (k : ℕ) (ps : List Printed) → large_fault most k (map Index ps) ≡ None → AllMade ps
  last-made k [] h = tt
  last-made k (p ∷ ps) h =
      let q = if_none (expression_small most (Index p)) (large_fault most (k + 1) (map Index ps)) (IndexTooLarge k) h in
      (small-made most (greatest most p.scope) p.form q.0, last-made (k + 1) ps q.1)

  scratch-made : (b : Bool) (k : ℕ) (l : Limited Length) (rest : List Expression)
      → large_fault most k ((if b then Scratch l ∷ [] else []) ++ rest) ≡ None → (b ≡ true → IsOk l) × ((j : ℕ) × (large_fault most j rest ≡ None))
  scratch-made true k l rest h =
      let q = if_none (length_small most l) (large_fault most (k + 1) rest) (IndexTooLarge k) h in (λ e. small-length most l q.0, (k + 1, q.1))
  scratch-made false k l rest h = (λ e. absurd (cc), (k, h))

module _ (m : Module) where
  inputs-ready : (ds : List InputDecl) → inputs_scoped (length m.sizes) ds ≡ true → AllMade (map (λ d. length_printed d.extents nowhere_yet) ds)
      → Every (λ d. LengthReady d.extents) ds
  inputs-ready [] c h = tt
  inputs-ready (d ∷ ds) c h =
      let p = and_parts (extents_scoped (length m.sizes) d.extents) (inputs_scoped (length m.sizes) ds) c in
      ((free_extents (length m.sizes) d.extents p.0, h.0), inputs-ready ds p.1 h.1)

  outputs-ready : (os : List OutputDecl) → EachShaped (outer_scene m.inputs).shapes os → AllMade (body_printed m os)
      → Every (λ o. OutputReady (outer_scene m.inputs) o.term) os
  outputs-ready [] s h = tt
  outputs-ready (o ∷ os) s h =
      let both = made-parts (printed_of o.term (output_place m o)) (body_printed m os) h.1.1 in (
        record {
          shaped = s.0;
          words = h.1.0;
          made = subst (λ (p : Place). AllMade (printed_of o.term p)) (sym (place-is m o 0 [])) both.0;
        },
        outputs-ready os s.1 both.1,
      )

  -- a module that may be lowered is ready
  pub lowerable-ready : (finals : List FinalLine) (marks : List Path) → IsLowerable m finals marks → ModuleReady m
  lowerable-ready finals marks h =
      let a = or_none (form_fault 0 m.outputs (input_shapes m)) _ h.accepted in
      let b = or_none (line_fault (length (module_goals m)) 0 1 finals) _ a.1 in
      let c = or_none (goal_fault finals 1 (module_goals m)) _ b.1 in
      let d = or_none (large_fault (maxima m) 1 (printed m)) (mark_fault m [] marks) c.1 in
      let lengths = first-made (maxima m) 1 (input_lengths m ++ output_lengths m) (scratch_printed m ++ map Index (body_printed m m.outputs)) d.0 in
      let scratch = scratch-made (maxima m) (any_let m.outputs) lengths.1.0 (module_needed m) (map Index (body_printed m m.outputs)) lengths.1.1 in
      let body = last-made (maxima m) scratch.1.0 (body_printed m m.outputs) scratch.1.1 in
      let p = and_parts (all_scoped (length m.sizes) 0 m.assumes)
      (inputs_scoped (length m.sizes) m.inputs && outputs_scoped (length m.sizes) (length m.inputs) m.outputs) h.sound.scoped in
      let q = and_parts (inputs_scoped (length m.sizes) m.inputs) (outputs_scoped (length m.sizes) (length m.inputs) m.outputs) p.1 in
      record {
        sound = h.sound;
        free = module_free m (input_shapes m) refl h.sound.scoped;
        inputs = all-of (λ d. LengthReady d.extents) m.inputs (inputs-ready m.inputs q.0 (made-parts (input_lengths m) (output_lengths m) lengths.0).0);
        outputs = all-of (λ o. OutputReady (outer_scene m.inputs) o.term) m.outputs
            (outputs-ready m.outputs (module_shaped m (outer_scene m.inputs).shapes h.sound refl) body);
        scratch = scratch.0;
      }

-- what holds of the one value that is answered holds of the answer
pub if-ok-as : {A E : Type 0} (r : Result A E) (x : A) (P : A → Type 0) → IfOk r (λ y. y ≡ x) → P x → IfOk r P
if-ok-as (Ok y) x P e h = subst P (sym e) h
if-ok-as (Err f) x P e h = tt
