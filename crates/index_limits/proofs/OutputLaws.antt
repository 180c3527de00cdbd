-- The printed indices of a module, part by part.
use Rattle.std.proofs.Common.{◌≡◌, ℕ, ◌+◌, ◌<◌, List, [], ◌∷◌, ◌++◌, length, map, drop, drop-cons, add-one, get_or, refl, sym, ap, ◌∙◌, subst, Bool}
use Rattle.std.proofs.Common.{true, false, Ok, Err, Some, if◌then◌else◌}
use Rattle.std.specs.Prelude.{Result, pos}
use Rattle.std.specs.Option.{option_map}
use Rattle.std.proofs.lemmas.Bool.{and_from, and_parts}
use Rattle.affine_index.specs.Limited.{items_scoped}
use Rattle.affine_index.specs.declared.form.Items.{Items}
use Rattle.reindexer.proofs.IndexLaws.{limited_is}
use Rattle.region_plan.specs.Length.{zero_form}
use Rattle.region_plan.specs.Needed.{module_needed, words_form}
use Rattle.shape_rules.specs.Scopes.{all_free, given}
use Rattle.shape_rules.proofs.ModuleLaws.{free_inputs, module_parts}
use Rattle.term_tree.specs.declared.term.InputDecl.{InputDecl}
use Rattle.term_tree.specs.declared.term.Module.{Module}
use Rattle.term_tree.specs.declared.term.OutputDecl.{OutputDecl}
use Rattle.term_tree.specs.Modules.{IsSound, extents_scoped, input_shapes, inputs_scoped, outputs_scoped}
use Rattle.term_tree.specs.Scope.{term_scoped}
use Rattle.term_tree.specs.Shape.{Extents}
use Rattle.final_rules.specs.Lengths.{NeedOverSizes}
use Rattle.final_rules.specs.Places.{Place, Site, extents_under}
use Rattle.final_rules.specs.Printed.{Printed, length_printed, plain, printed_of}
use Rattle.final_rules.specs.Printing.{Counts, Sized, and_then, next, scene_sites, sized, sites_of}
use Rattle.final_rules.specs.Rules.{Expression, Index, Scratch, any_let, body_printed, expression_small, input_lengths, input_site, large_fault}
use Rattle.final_rules.specs.Rules.{length_small, maxima}
use Rattle.final_rules.specs.Rules.{nowhere_yet, output_lengths, output_spot, printed, scratch_printed}
use Rattle.final_rules.specs.declared.fault.FinalFault.TheVariants.{IndexTooLarge}
use Rattle.final_rules.specs.declared.printing.Scene.{Scene}
use Rattle.final_rules.specs.declared.printing.Stop.{Stop}
use Rattle.final_rules.proofs.Accepted.{length-map}
use Rattle.final_rules.proofs.NeedScoped.{module-at}
use Rattle.final_rules.proofs.PrintedScoped.{All0, At, Scoping, SiteAt, extents-at, length-at, literal-at, printed-at, shape-eon, shapes-at}
use Rattle.final_rules.proofs.PrintingLaws.{sized-append}
use Rattle.final_rules.proofs.Raw.{words-raw}
use Rattle.final_rules.proofs.Walk.{Every}
use Rattle.index_limits.specs.Modules.{expressions_sized, first_large, lengths_printed, module_sized, output_printed, output_target, outputs_printed}
use Rattle.index_limits.specs.Modules.{scratch_sized}
use Rattle.index_limits.specs.Places.{place_at}
use Rattle.index_limits.specs.Ready.{AllInScope, OutputReady, OutputsReady, shapes_scoped}
use Rattle.index_limits.proofs.ScopeLaws.{in-every, shapes-all}
use Rattle.index_limits.proofs.CountLaws.{and-all, and-more, and-same, stop-counts, then-counts}

-- a fault is the first expression that is not small

first-next : (b : Bool) (rest : ℕ → Sized) (k : ℕ) → (if b then option_map IndexTooLarge (first_large (rest (k + 1))) else Some (IndexTooLarge k))
    ≡ option_map IndexTooLarge (first_large (and_then (next b k) rest))
first-next true rest k = refl
first-next false rest k = refl

pub fault-is : (maxima : List ℕ) (xs : List Expression) (k : ℕ)
    → large_fault maxima k xs ≡ option_map IndexTooLarge (first_large (expressions_sized maxima xs k))
fault-is maxima [] k = refl
fault-is maxima (x ∷ xs) k =
    ap (λ v. if expression_small maxima x then v else Some (IndexTooLarge k)) (fault-is maxima xs (k + 1))
    ∙ first-next (expression_small maxima x) (expressions_sized maxima xs) k

expressions-append : (maxima : List ℕ) (xs ys : List Expression) (k : ℕ)
    → expressions_sized maxima (xs ++ ys) k ≡ and_then (expressions_sized maxima xs k) (expressions_sized maxima ys)
expressions-append maxima [] ys k = refl
expressions-append maxima (x ∷ xs) ys k =
    and-same (next (expression_small maxima x) k) (expressions_sized maxima (xs ++ ys)) (λ j. and_then (expressions_sized maxima xs j)
    (expressions_sized maxima ys)) (expressions-append maxima xs ys)
    ∙ sym (and-more (next (expression_small maxima x) k) (expressions_sized maxima xs) (expressions_sized maxima ys))

indices-sized : (maxima : List ℕ) (is : List Printed) (k : ℕ) → expressions_sized maxima (map Index is) k ≡ sized maxima is k
indices-sized maxima [] k = refl
indices-sized maxima (i ∷ is) k = and-same (next (expression_small maxima (Index i)) k) (expressions_sized maxima (map Index is)) (sized maxima is)
    (indices-sized maxima is)

scratch-is : (maxima : List ℕ) (m : Module) (w : Bool) (k : ℕ)
    → expressions_sized maxima (if w then Scratch (module_needed m) ∷ [] else []) k ≡ (if w then next (length_small maxima (module_needed m)) k else Ok k)
scratch-is maxima m true k = and-all (next (length_small maxima (module_needed m)) k)
scratch-is maxima m false k = refl

-- the printed expressions of a module, in their parts
pub module-is : (maxima : List ℕ) (m : Module) (k : ℕ) → module_sized maxima m k ≡ expressions_sized maxima (printed m) k
module-is maxima m k =
    let ins = input_lengths m in
    let outs = output_lengths m in
    let body = body_printed m m.outputs in
    let rest : (i : ℕ) → and_then (scratch_sized maxima m i) (sized maxima body) ≡ expressions_sized maxima (scratch_printed m ++ map Index body) i = λ i.
    and-same (scratch_sized maxima m i) (sized maxima body) (expressions_sized maxima (map Index body)) (λ j. sym (indices-sized maxima body j))
    ∙ ap (λ s. and_then s (expressions_sized maxima (map Index body))) (sym (scratch-is maxima m (any_let m.outputs) i))
    ∙ sym (expressions-append maxima (scratch_printed m) (map Index body) i) in
    and-same (sized maxima ins k) (λ j. and_then (sized maxima outs j) (λ i. and_then (scratch_sized maxima m i) (sized maxima body)))
    (λ j. and_then (sized maxima outs j) (expressions_sized maxima (scratch_printed m ++ map Index body)))
    (λ j. and-same (sized maxima outs j) (λ i. and_then (scratch_sized maxima m i) (sized maxima body))
    (expressions_sized maxima (scratch_printed m ++ map Index body)) rest)
    ∙ sym (and-more (sized maxima ins k) (sized maxima outs) (expressions_sized maxima (scratch_printed m ++ map Index body)))
    ∙ ap (λ s. and_then s (expressions_sized maxima (scratch_printed m ++ map Index body))) (sym (sized-append maxima ins outs k))
    ∙ ap (λ s. and_then s (expressions_sized maxima (scratch_printed m ++ map Index body))) (sym (indices-sized maxima (ins ++ outs) k))
    ∙ sym (expressions-append maxima (map Index (ins ++ outs)) (scratch_printed m ++ map Index body) k)

-- the outputs, where the tensors of the inputs are in scope

sites-are : (ds : List InputDecl) → map input_site ds ≡ sites_of (map (λ d. d.extents) ds) []
sites-are [] = refl
sites-are (d ∷ ds) = ap (λ xs. input_site d ∷ xs) (sites-are ds)

module _ (m : Module) (scene : Scene) (e : given scene.shapes ≡ input_shapes m) (f : scene.offsets ≡ []) where
  sites : scene_sites scene ≡ map input_site m.inputs
  sites = (λ i. sites_of (e i) (f i)) ∙ sym (sites-are m.inputs)

  -- where an output stands, on the way from the scene to the module
  abbrev place_on : (ns : Extents) (xs : List Site) → Place
  place_on ns xs = record { spot = output_spot; sites = xs; target = record { extents = ns; offset = zero_form }; free = zero_form }

  pub outputs-are : (os : List OutputDecl) → outputs_printed scene os ≡ body_printed m os
  outputs-are [] = refl
  outputs-are (o ∷ os) = λ i.
      let ns = extents_under o.term (e i) in
      plain zero_form (place_on ns (sites i)) ∷ length_printed ns (place_on ns (sites i)) ∷ (printed_of o.term (place_on ns (sites i)) ++ outputs-are os i)

  pub lengths-are : lengths_printed (given scene.shapes) m.outputs ≡ output_lengths m
  lengths-are = ap (λ ts. lengths_printed ts m.outputs) e

-- the outputs from one of them on
pub outputs-rest : (os : List OutputDecl) (i : ℕ) (o : OutputDecl) → o ≡ get_or os i o → i < length os → drop i os ≡ o ∷ drop (i + 1) os
outputs-rest os i o e l = drop-cons os i o l ∙ (λ j. sym e j ∷ drop (sym (add-one i) j) os)

-- one output, and then those after it
pub output-next : (maxima : List ℕ) (scene : Scene) (os : List OutputDecl) (i : ℕ) (o : OutputDecl) (k : ℕ) → o ≡ get_or os i o → i < length os
    → and_then (sized maxima (output_printed scene o) k) (sized maxima (outputs_printed scene (drop (i + 1) os)))
    ≡ sized maxima (outputs_printed scene (drop i os)) k
output-next maxima scene os i o k e l =
    sym (sized-append maxima (output_printed scene o) (outputs_printed scene (drop (i + 1) os)) k)
    ∙ ap (λ us. sized maxima (outputs_printed scene us) k) (sym (outputs-rest os i o e l))

-- names in scope

module _ (sizes : ℕ) where
  words-in : (ns : Extents) → All0 sizes ns → (z : Items) → words_form ns ≡ Ok z → items_scoped sizes 0 z ≡ true
  words-in ns h z e = subst (At sizes 0) (words-raw ns z e) (length-at sizes ns h)

  pub inputs-ready : (ds : List InputDecl) → inputs_scoped sizes ds ≡ true → AllInScope sizes (map (λ d. length_printed d.extents nowhere_yet) ds)
  inputs-ready [] h = tt
  inputs-ready (d ∷ ds) h = let p = and_parts (extents_scoped sizes d.extents) (inputs_scoped sizes ds) h in (
    words-in d.extents (extents-at sizes d.extents p.0),
    inputs-ready ds p.1,
  )

  pub shapes-ready : (ds : List InputDecl) → inputs_scoped sizes ds ≡ true → shapes_scoped sizes (map (λ d. d.extents) ds) ≡ true
  shapes-ready [] h = refl
  shapes-ready (d ∷ ds) h =
      let p = and_parts (extents_scoped sizes d.extents) (inputs_scoped sizes ds) h in
      and_from (extents_scoped sizes d.extents) (shapes_scoped sizes (map (λ d. d.extents) ds)) p.0 (shapes-ready ds p.1)

  pub lengths-ready : (ts : List Extents) (os : List OutputDecl) → shapes_scoped sizes ts ≡ true → outputs_scoped sizes (length ts) os ≡ true
      → AllInScope sizes (lengths_printed ts os)
  lengths-ready ts [] g h = tt
  lengths-ready ts (o ∷ os) g h = let p = and_parts (term_scoped sizes o.term 0 (length ts)) (outputs_scoped sizes (length ts) os) h in (
    words-in (extents_under o.term ts) (shape-eon sizes o.term 0 (length ts) ts p.0 (shapes-all sizes ts g)),
    lengths-ready ts os g p.1,
  )

  sites-scoped : (ts : List Extents) → shapes_scoped sizes ts ≡ true → Every (SiteAt sizes) (sites_of ts [])
  sites-scoped [] h = tt
  sites-scoped (ns ∷ ts) h = let p = and_parts (extents_scoped sizes ns) (shapes_scoped sizes ts) h in (
    (
      extents-at sizes ns p.0,
      literal-at sizes 0 (pos 0),
    ),
    sites-scoped ts p.1,
  )

  pub need-ready : (m : Module) → inputs_scoped sizes m.inputs ≡ true → outputs_scoped sizes (length m.inputs) m.outputs ≡ true → NeedOverSizes sizes m
  need-ready m h g l e = module-at sizes m l g (shapes-at sizes m.inputs h) e

module _ (maxima : List ℕ) (scene : Scene) (f : scene.offsets ≡ []) (g : shapes_scoped (length maxima) (given scene.shapes) ≡ true) where
  abbrev ts : List Extents
  ts = given scene.shapes

  output-ready : (o : OutputDecl) → term_scoped (length maxima) o.term 0 (length ts) ≡ true → OutputReady maxima scene o
  output-ready o h =
      let ns = extents_under o.term ts in
      let all : All0 (length maxima) ns = shape-eon (length maxima) o.term 0 (length ts) ts h (shapes-all (length maxima) ts g) in
      let p = place_at scene (output_target ns) zero_form output_spot in
      let c : Scoping (length maxima) p 0 = record {
        depth = refl;
        sites = subst (λ os. Every (SiteAt (length maxima)) (sites_of ts os)) (sym f) (sites-scoped (length maxima) ts g);
        target = (all, literal-at (length maxima) 0 (pos 0));
        around = tt;
        free = literal-at (length maxima) 0 (pos 0);
      } in
      record {
        scoped = h;
        shapes = g;
        within = (
          λ x e. subst (At (length maxima) 0) (limited_is zero_form x e) (literal-at (length maxima) 0 (pos 0)),
          (words-in (length maxima) ns all, in-every (length maxima) (printed_of o.term p) (printed-at (length maxima) o.term p 0 (length ts) h c)),
        );
      }

  pub outputs-ready : (os : List OutputDecl) → outputs_scoped (length maxima) (length ts) os ≡ true → OutputsReady maxima scene os
  outputs-ready [] h = tt
  outputs-ready (o ∷ os) h =
      let p = and_parts (term_scoped (length maxima) o.term 0 (length ts)) (outputs_scoped (length maxima) (length ts) os) h in
      (output-ready o p.0, outputs-ready os p.1)

-- a sound module, with the greatest values of its sizes and the tensors of its inputs
module _ (m : Module) (maxima : List ℕ) (scene : Scene) (sound : IsSound m) (z : length maxima ≡ length m.sizes) (e : given scene.shapes ≡ input_shapes m)
    (f : scene.offsets ≡ []) where
  inputs-in : inputs_scoped (length maxima) m.inputs ≡ true
  inputs-in = subst (λ n. inputs_scoped n m.inputs ≡ true) (sym z) (module_parts m sound.scoped).0

  tensors : length (given scene.shapes) ≡ length m.inputs
  tensors = ap length e ∙ length-map (λ d. d.extents) m.inputs

  outputs-in : outputs_scoped (length maxima) (length m.inputs) m.outputs ≡ true
  outputs-in = subst (λ n. outputs_scoped n (length m.inputs) m.outputs ≡ true) (sym z) (module_parts m sound.scoped).1

  outputs-here : outputs_scoped (length maxima) (length (given scene.shapes)) m.outputs ≡ true
  outputs-here = subst (λ t. outputs_scoped (length maxima) t m.outputs ≡ true) (sym tensors) outputs-in

  shapes-here : shapes_scoped (length maxima) (given scene.shapes) ≡ true
  shapes-here = subst (λ ts. shapes_scoped (length maxima) ts ≡ true) (sym e) (shapes-ready (length maxima) m.inputs inputs-in)

  pub ready-inputs : AllInScope (length maxima) (input_lengths m)
  ready-inputs = inputs-ready (length maxima) m.inputs inputs-in

  pub free-inputs : all_free (input_shapes m) ≡ true
  free-inputs = free_inputs (length maxima) m.inputs inputs-in

  pub ready-lengths : AllInScope (length maxima) (lengths_printed (given scene.shapes) m.outputs)
  ready-lengths = lengths-ready (length maxima) (given scene.shapes) m.outputs shapes-here outputs-here

  pub ready-need : NeedOverSizes (length maxima) m
  ready-need = need-ready (length maxima) m inputs-in outputs-in

  pub ready-outputs : OutputsReady maxima scene m.outputs
  ready-outputs = outputs-ready maxima scene f shapes-here m.outputs outputs-here

  abbrev after_lengths : ℕ → Sized
  after_lengths i = and_then (scratch_sized maxima m i) (sized maxima (body_printed m m.outputs))

  abbrev after_inputs : ℕ → Sized
  after_inputs j = and_then (sized maxima (output_lengths m) j) after_lengths

  lengths-here : (j : ℕ) → sized maxima (lengths_printed (given scene.shapes) m.outputs) j ≡ sized maxima (output_lengths m) j
  lengths-here j = ap (λ is. sized maxima is j) (lengths-are m scene e f)

  pub lengths-stop : (j : ℕ) (r : Result ℕ Stop) (error : Stop) → sized maxima (input_lengths m) 1 ≡ Ok j → r ≡ Err error
      → Counts (sized maxima (lengths_printed (given scene.shapes) m.outputs) j) (Err error) → Counts (module_sized maxima m 1) r
  lengths-stop j r error a is h =
      then-counts (sized maxima (input_lengths m) 1) j after_inputs r a
      (stop-counts (sized maxima (output_lengths m) j) after_lengths r error is (subst (λ (s : Sized). Counts s (Err error)) (lengths-here j) h))

  pub scratch-stop : (j i : ℕ) (r : Result ℕ Stop) (error : Stop) → sized maxima (input_lengths m) 1 ≡ Ok j
      → sized maxima (lengths_printed (given scene.shapes) m.outputs) j ≡ Ok i → r ≡ Err error → Counts (scratch_sized maxima m i) (Err error)
      → Counts (module_sized maxima m 1) r
  scratch-stop j i r error a b is h =
      then-counts (sized maxima (input_lengths m) 1) j after_inputs r a
      (then-counts (sized maxima (output_lengths m) j) i after_lengths r (sym (lengths-here j) ∙ b)
      (stop-counts (scratch_sized maxima m i) (sized maxima (body_printed m m.outputs)) r error is h))

  pub module-then : (j i k : ℕ) (r : Result ℕ Stop) → sized maxima (input_lengths m) 1 ≡ Ok j
      → sized maxima (lengths_printed (given scene.shapes) m.outputs) j ≡ Ok i → scratch_sized maxima m i ≡ Ok k
      → Counts (sized maxima (outputs_printed scene m.outputs) k) r → Counts (module_sized maxima m 1) r
  module-then j i k r a b d h =
      then-counts (sized maxima (input_lengths m) 1) j after_inputs r a
      (then-counts (sized maxima (output_lengths m) j) i after_lengths r (sym (lengths-here j) ∙ b)
      (then-counts (scratch_sized maxima m i) k (sized maxima (body_printed m m.outputs)) r d
      (subst (λ (is : List Printed). Counts (sized maxima is k) r) (outputs-are m scene e f m.outputs) h)))

-- the first that is not small, if there is one
pub fault-found : (m : Module) (most : List ℕ) (s : Sized) → most ≡ maxima m → module_sized most m 1 ≡ s
    → large_fault (maxima m) 1 (printed m) ≡ option_map IndexTooLarge (first_large s)
fault-found m most s e h =
    fault-is (maxima m) (printed m) 1
    ∙ ap (λ r. option_map IndexTooLarge (first_large r)) (sym (module-is (maxima m) m 1) ∙ ap (λ v. module_sized v m 1) (sym e) ∙ h)
