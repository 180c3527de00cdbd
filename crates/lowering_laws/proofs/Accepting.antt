-- What an accepted module stays within is what the loops of its outputs are owed.
use Rattle.std.proofs.Common.{◌≡◌, ℕ, zero, suc, ◌+◌, ◌<◌, ◌≤◌, List, [], ◌∷◌, length, map, refl, sym, ap, subst, arith, true, false, Bool}
use Rattle.std.proofs.Common.{Some, None}
use Rattle.std.specs.Prelude.{All, pos}
use Rattle.std.proofs.lemmas.Bool.{and_parts, or_left, or_right}
use Rattle.std.proofs.lemmas.List.{length-map}
use Rattle.affine_index.specs.Form.{literal_form}
use Rattle.affine_index.specs.Normal.{is_normal}
use Rattle.affine_index.proofs.Values.{value-literal}
use Rattle.region_plan.specs.Need.{module_need}
use Rattle.region_plan.specs.Ranges.{OutputsLieApart}
use Rattle.region_plan.proofs.NeedLaws.{part_self, shape_values}
use Rattle.region_plan.proofs.RangeLaws.{outputs_lie_apart}
use Rattle.shape_rules.specs.Fits.{ShapesFit}
use Rattle.shape_rules.specs.Meant.{HasMeaning, input_extents}
use Rattle.shape_rules.specs.Parts.{EachPart}
use Rattle.shape_rules.specs.Scopes.{all_free}
use Rattle.shape_rules.specs.Values.{AllHaveValues, NoneNegative}
use Rattle.shape_rules.proofs.FreeForms.{free_literal}
use Rattle.shape_rules.proofs.ModuleLaws.{module_free, module_parts, sound_goals, sound_shapes}
use Rattle.shape_rules.proofs.RuleValues.{negative_parts}
use Rattle.shape_rules.proofs.ShapeMeaning.{shape_meant}
use Rattle.term_tree.specs.declared.term.InputDecl.{InputDecl}
use Rattle.term_tree.specs.declared.term.Module.{Module}
use Rattle.term_tree.specs.declared.term.OutputDecl.{OutputDecl}
use Rattle.term_tree.specs.Goals.{term_goals}
use Rattle.term_tree.specs.Limits.{every_form}
use Rattle.term_tree.specs.Meaning.{dims}
use Rattle.term_tree.specs.Modules.{Allowed, IsSound, extents_at, input_shapes, outputs_goals, outputs_scoped}
use Rattle.term_tree.specs.Scope.{term_scoped}
use Rattle.term_tree.specs.Shape.{Extents}
use Rattle.final_rules.specs.Accepted.{FormsNormal, OutputsFit, ScratchFits}
use Rattle.final_rules.specs.Form.{Node, outside}
use Rattle.final_rules.specs.Good.{NodesGood}
use Rattle.final_rules.specs.Owed.{Fits}
use Rattle.final_rules.specs.Places.{shapes}
use Rattle.final_rules.specs.Printed.{largest_index}
use Rattle.final_rules.specs.Rules.{any_let, form_fault, has_let, input_site, node_fault, output_place, output_spot}
use Rattle.final_rules.proofs.FramesGood.{sound-frames-good}
use Rattle.final_rules.proofs.Main.{accepted-stays-within, or_none}
use Rattle.lowering_laws.specs.Correct.{AcceptedIsOwed, OutputsOwe, OutputsRoom, OutputsShapesFit, region_words}
use Rattle.lowering_laws.specs.Lowered.{scratch_many}
use Rattle.lowering_laws.specs.Owes.{Owes, Room}
use Rattle.lowering_laws.proofs.Going.{IsCount}
use Rattle.lowering_laws.proofs.Lying.{Lying, Target, count-value, free-shape}
use Rattle.lowering_laws.proofs.Owing.{owes}
use Rattle.lowering_laws.proofs.Rooms.{room}
use Rattle.lowering_laws.proofs.Turning.{Turning}

none-below : (j : ℕ) (o : Node) → node_fault j o ≡ None → o ≡ None
none-below j None h = refl
none-below j (Some ks) h = absurd (cc)

-- the shapes of the sites of inputs
shapes-are : (ds : List InputDecl) → map (λ x. x.extents) (map input_site ds) ≡ map (λ d. d.extents) ds
shapes-are [] = refl
shapes-are (d ∷ ds) = ap (λ xs. d.extents ∷ xs) (shapes-are ds)

region-many : (w : Bool) → w ≡ true → 0 < scratch_many w
region-many true h = omega arith
region-many false h = absurd (cc)

module _ (m : Module) (s : List ℕ) where
  region-long : (w : Bool) → 0 < scratch_many w → module_need m s ≤ region_words m s w
  region-long true h = omega arith
  region-long false h = absurd (omega (arith, h))

  region-most : (w : Bool) → ScratchFits m s w → 0 < scratch_many w → region_words m s w ≤ largest_index
  region-most true h l = h.3
  region-most false h l = absurd (omega (arith, l))

module _ (m : Module) (s : List ℕ) (sound : IsSound m) (allowed : Allowed m s) where
  abbrev sizes : ℕ
  sizes = length m.sizes

  abbrev ds : List (List ℕ)
  ds = input_extents m s

  zero-count : IsCount s (literal_form (pos 0))
  zero-count = (free_literal (pos 0), count-value s (literal_form (pos 0)) 0 (value-literal s [] (pos 0)))

  -- what is known of an output under the shapes of the inputs
  record Known (o : OutputDecl) (ts : List Extents) : Type 0 where
    parts : EachPart (HasMeaning s) o.term ts
    goals : NoneNegative s (term_goals o.term ts)
    form : outside o.term ts ≡ None
    free : all_free ts ≡ true
    values : AllHaveValues s ts ds
    frames : NodesGood s o.term output_spot ts [] ds (dims o.term s ds)

  one-owes : ScratchFits m s (any_let m.outputs) → (o : OutputDecl) → term_scoped sizes o.term 0 (length m.inputs) ≡ true
      → every_form is_normal o.term ≡ true → Known o (input_shapes m)
      → Room s (scratch_many (any_let m.outputs)) (region_words m s (any_let m.outputs)) o.term ds 0 → Fits s o.term (output_place m o) [] []
      → Owes s o.term (output_place m o) [] [] ds
  one-owes most o c n g u f =
      let w = any_let m.outputs in
      let p = output_place m o in
      let h : Known o (shapes p) = subst (Known o) (sym (shapes-are m.inputs)) g in
      let es = dims o.term s ds in
      let target : Target s p.target es = record {
        free = free-shape sizes o.term 0 (length m.inputs) (input_shapes m) c g.free;
        values = shape_values s o.term (input_shapes m) ds g.parts g.values;
        offset = zero-count;
      } in
      let turning : Turning s p.spot [] [] = record { turns = λ k l. absurd (omega (arith, l)); depth = refl; below = tt; amounts = tt } in
      let lying : Lying s p.sites p.target p.free (length m.inputs) ds es 0 = record {
        shapes_free = h.free;
        values = h.values;
        many = length-map m.inputs (λ d. extents_at d.extents s);
        target = target;
        next = free_literal (pos 0);
        next_value = value-literal s [] (pos 0);
      } in
      owes sizes s (scratch_many w) (region_words m s w) (region-most m s w most) o.term p 0 (length m.inputs) [] [] ds es 0 c
      h.parts h.goals h.form n turning lying h.frames u f

  one-shaped : (o : OutputDecl) → term_scoped sizes o.term 0 (length m.inputs) ≡ true → EachPart (HasMeaning s) o.term (input_shapes m)
      → NoneNegative s (term_goals o.term (input_shapes m)) → AllHaveValues s (input_shapes m) ds → ShapesFit o.term s ds
  one-shaped o c e n h =
      let p = part_self (HasMeaning s) o.term (input_shapes m) e in
      (shape_meant s sizes o.term 0 (length m.inputs) (input_shapes m) ds p.0 c p.1 n h).1

  rest-of : {A : Type 0} (P : A → Type 0) (x : A) (xs : List A) → All P (x ∷ xs) → P x × All P xs
  rest-of P x xs h = (h zero x (omega arith), λ k d l. h (suc k) d (omega (arith, l)))

  scoped-parts : (o : OutputDecl) (os : List OutputDecl) → outputs_scoped sizes (length m.inputs) (o ∷ os) ≡ true
      → (term_scoped sizes o.term 0 (length m.inputs) ≡ true) × (outputs_scoped sizes (length m.inputs) os ≡ true)
  scoped-parts o os h = and_parts (term_scoped sizes o.term 0 (length m.inputs)) (outputs_scoped sizes (length m.inputs) os) h

  abbrev HasParts : OutputDecl → Type 0
  HasParts o = EachPart (HasMeaning s) o.term (input_shapes m)

  abbrev HasFrames : OutputDecl → Type 0
  HasFrames o = NodesGood s o.term output_spot (input_shapes m) [] ds (dims o.term s ds)

  all-owe : ScratchFits m s (any_let m.outputs) → (j : ℕ) (os : List OutputDecl) → outputs_scoped sizes (length m.inputs) os ≡ true → FormsNormal os
      → All HasParts os → NoneNegative s (outputs_goals os (input_shapes m)) → form_fault j os (input_shapes m) ≡ None → All HasFrames os
      → OutputsRoom m s os → OutputsFit m s os → OutputsOwe m s os
  all-owe most j [] c n e g f h u q = tt
  all-owe most j (o ∷ os) c n e g f h u q =
      let cs = scoped-parts o os c in
      let es = rest-of HasParts o os e in
      let gs = negative_parts s (term_goals o.term (input_shapes m)) (outputs_goals os (input_shapes m)) g in
      let fs = or_none (node_fault j (outside o.term (input_shapes m))) (form_fault (j + 1) os (input_shapes m)) f in
      let hs = rest-of HasFrames o os h in
      let known : Known o (input_shapes m) = record {
        parts = es.0;
        goals = gs.0;
        form = none-below j (outside o.term (input_shapes m)) fs.0;
        free = module_free m (input_shapes m) refl sound.scoped;
        values = (sound_shapes m sound s allowed).0;
        frames = hs.0;
      } in
      (one-owes most o cs.0 n.0 known u.0 q.1, all-owe most (j + 1) os cs.1 n.1 es.1 gs.1 fs.1 hs.1 u.1 q.2)

  all-shaped : (os : List OutputDecl) → outputs_scoped sizes (length m.inputs) os ≡ true → All HasParts os → NoneNegative s (outputs_goals os (input_shapes m))
      → OutputsShapesFit m s os
  all-shaped [] c e g = tt
  all-shaped (o ∷ os) c e g =
      let cs = scoped-parts o os c in
      let es = rest-of HasParts o os e in
      let gs = negative_parts s (term_goals o.term (input_shapes m)) (outputs_goals os (input_shapes m)) g in
      (one-shaped o cs.0 es.0 gs.0 (sound_shapes m sound s allowed).0, all-shaped os cs.1 es.1 gs.1)

-- each let has its words in the region
some-room : (m : Module) (s : List ℕ) (os : List OutputDecl) → (any_let os ≡ true → any_let m.outputs ≡ true)
    → OutputsLieApart os s (input_extents m s) (module_need m s) → OutputsRoom m s os
some-room m s [] h a = tt
some-room m s (o ∷ os) h a =
    let w = any_let m.outputs in (
      room s (scratch_many w) (module_need m s) (region_words m s w) (region-long m s w) o.term (input_extents m s) 0
          (λ e. region-many w (h (or_left (has_let o.term) (any_let os) e))) a.0,
      some-room m s os (λ e. h (or_right (has_let o.term) (any_let os) e)) a.1,
    )

pub accepted_is_owed : AcceptedIsOwed
accepted_is_owed m finals marks h s allowed =
    let within = accepted-stays-within m finals marks h.sound h.normal h.accepted s allowed in
    let form = or_none (form_fault 0 m.outputs (input_shapes m)) _ h.accepted in
    let scoped = (module_parts m h.sound.scoped).1 in
    let parts = (sound_shapes m h.sound s allowed).1 in
    let goals = (sound_goals m h.sound s allowed).1 in
    let rooms : OutputsRoom m s m.outputs =
    some-room m s m.outputs (λ e. e) (outputs_lie_apart s m.outputs (input_extents m s) (module_need m s) (omega arith)) in
    record {
      owes = all-owe m s h.sound allowed within.scratch 0 m.outputs scoped h.normal parts goals form.0
          (sound-frames-good m h.sound s allowed) rooms within.outputs;
      room = rooms;
      shapes = all-shaped m s h.sound allowed m.outputs scoped parts goals;
    }
