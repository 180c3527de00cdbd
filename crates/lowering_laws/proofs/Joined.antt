-- From what the loops of a module are owed to a run of its program.
use Rattle.std.proofs.Common.{◌≡◌, ℕ, zero, suc, ◌+◌, ◌<◌, ◌≤◌, Bool, true, false, List, [], ◌∷◌, ◌++◌, length, map, get_or, pos, refl, sym, ap, ◌∙◌}
use Rattle.std.proofs.Common.{subst, arith}
use Rattle.std.specs.Prelude.{All}
use Rattle.std.proofs.lemmas.List.{append_assoc, length-map, map-append}
use Rattle.term_tree.specs.declared.term.InputDecl.{InputDecl}
use Rattle.term_tree.specs.declared.term.OutputDecl.{OutputDecl}
use Rattle.term_tree.specs.declared.term.Module.{Module}
use Rattle.term_tree.specs.declared.term.Path.{Path}
use Rattle.term_tree.specs.Tensors.{Tensor}
use Rattle.term_tree.specs.Meaning.{count_of, den, dims, extents_of}
use Rattle.term_tree.specs.Shape.{Extents}
use Rattle.term_tree.specs.Shaped.{flat, word_count}
use Rattle.term_tree.specs.Modules.{Allowed, AreInputs, extents_at, input_shapes, inputs_bound, module_den}
use Rattle.linear_cert.specs.declared.lines.FinalLine.{FinalLine}
use Rattle.shape_rules.specs.Fits.{LiteralsFit, ShapesFit}
use Rattle.shape_rules.specs.Meant.{HasMeaning, input_extents}
use Rattle.shape_rules.specs.Parts.{EachPart}
use Rattle.shape_rules.specs.Values.{AllHaveValues, HaveValues}
use Rattle.shape_rules.proofs.ModuleLaws.{bound_extents, sound_shapes}
use Rattle.loop_lang.specs.declared.index.Iexp.{Iexp}
use Rattle.loop_lang.specs.Reckoning.{Value, reckon}
use Rattle.loop_lang.specs.Memory.{Memory, apply}
use Rattle.loop_lang.specs.Run.{IsMemoryOf, length_of}
use Rattle.loop_lang.proofs.Statements.{acts-seq}
use Rattle.region_plan.specs.Length.{length_tree}
use Rattle.region_plan.proofs.NeedLaws.{shape_values}
use Rattle.final_rules.specs.Accepted.{InputsFit, IsLowerable, OutputsFit, ScratchFits, StaysWithin}
use Rattle.final_rules.specs.Printed.{largest_index}
use Rattle.final_rules.specs.Rules.{any_let, output_extents, output_place}
use Rattle.final_rules.proofs.Main.{accepted-stays-within}
use Rattle.lowering_laws.proofs.Does.{region}
use Rattle.lowering_laws.specs.Correct.{Computed, HasLengths, IsCorrect, IsOwed, LengthsAreRight, LoopsAreRight, OutputsOwe, OutputsRoom, OutputsShapesFit}
use Rattle.lowering_laws.specs.Correct.{region_words, scratch_counts, word_counts}
use Rattle.lowering_laws.specs.Lowered.{outputs_loops, program_of, region_length, scratch_lengths, scratch_many, words_tree}
use Rattle.lowering_laws.specs.Owes.{Owes, Room}
use Rattle.lowering_laws.proofs.Accepting.{accepted_is_owed}
use Rattle.lowering_laws.proofs.Outputs.{AllReady, Prepared, Runs, delivered_at, outputs_run}

rest_all : {X : Type 0} (P : X → Type 0) (x : X) (xs : List X) → All P (x ∷ xs) → All P xs
rest_all P x xs h k d l = h (suc k) d (omega (arith, l))

first_all : {X : Type 0} (P : X → Type 0) (x : X) (xs : List X) → All P (x ∷ xs) → P x
first_all P x xs h = h zero x (omega arith)

-- lists

same_list : {A : Type 0} (d : A) (us vs : List A) → length us ≡ length vs → ((i : ℕ) → i < length us → get_or us i d ≡ get_or vs i d) → us ≡ vs
same_list d [] [] e h = refl
same_list d [] (v ∷ vs) e h = absurd (omega (arith, e))
same_list d (u ∷ us) [] e h = absurd (omega (arith, e))
same_list d (u ∷ us) (v ∷ vs) e h = λ i. h 0 (omega arith) i ∷ same_list d us vs (omega (arith, e)) (λ j l. h (suc j) (omega (arith, l))) i

two_parts : {A : Type 0} (as' bs us vs : List A) → length as' ≡ length bs → as' ++ us ≡ bs ++ vs → (as' ≡ bs) × (us ≡ vs)
two_parts [] [] us vs l e = (refl, e)
two_parts [] (b ∷ bs) us vs l e = absurd (omega (arith, l))
two_parts (a ∷ as') [] us vs l e = absurd (omega (arith, l))
two_parts (a ∷ as') (b ∷ bs) us vs l e =
    let h : a ≡ b = cc in
    let t : as' ++ us ≡ bs ++ vs = cc in
    let p = two_parts as' bs us vs (omega (arith, l)) t in
    ((λ i. h i ∷ p.0 i), p.1)

get_or-map_length : (us : List (List ℕ)) (i : ℕ) → get_or (map length us) i 0 ≡ length (get_or us i [])
get_or-map_length [] i = refl
get_or-map_length (u ∷ us) zero = refl
get_or-map_length (u ∷ us) (suc i) = get_or-map_length us i

-- lengths

computed_append : (s : List ℕ) (xs ys : List Iexp) (ms ns : List ℕ) → Computed s xs ms → Computed s ys ns → Computed s (xs ++ ys) (ms ++ ns)
computed_append s [] ys [] ns h g = g
computed_append s [] ys (m ∷ ms) ns h g = absurd h
computed_append s (x ∷ xs) ys [] ns h g = absurd h
computed_append s (x ∷ xs) ys (m ∷ ms) ns h g = (h.0, computed_append s xs ys ms ns h.1 g)

computed_lengths : (s : List ℕ) (xs : List Iexp) (ns : List ℕ) → Computed s xs ns → map (λ x. length_of (reckon x s [])) xs ≡ ns
computed_lengths s [] [] h = refl
computed_lengths s [] (n ∷ ns) h = absurd h
computed_lengths s (x ∷ xs) [] h = absurd h
computed_lengths s (x ∷ xs) (n ∷ ns) h = λ i. length_of (h.0.0 i) ∷ computed_lengths s xs ns h.1 i

inputs_computed : (s : List ℕ) (ds : List InputDecl) → InputsFit s ds
    → Computed s (map (λ d. words_tree d.extents) ds) (map word_count (map (λ d. extents_at d.extents s) ds))
inputs_computed s [] h = tt
inputs_computed s (d ∷ ds) h = (h.0, inputs_computed s ds h.1)

-- the extents of outputs are those of their meaning
abbrev ExtentsAre : Module → List ℕ → List OutputDecl → Type 0
ExtentsAre m s [] = Unit {0}
ExtentsAre m s (o ∷ os) = (extents_at (output_extents m o) s ≡ dims o.term s (input_extents m s)) × ExtentsAre m s os

values_at : (s : List ℕ) (ns : Extents) (ds : List ℕ) → HaveValues s ns ds → extents_at ns s ≡ ds
values_at s [] [] h = refl
values_at s [] (d ∷ ds) h = absurd h
values_at s (n ∷ ns) [] h = absurd h
values_at s (n ∷ ns) (d ∷ ds) h = λ i. count_of (h.0 i) ∷ values_at s ns ds h.1 i

extents_are : (m : Module) (s : List ℕ) (os : List OutputDecl) → AllHaveValues s (input_shapes m) (input_extents m s)
    → All (λ o. EachPart (HasMeaning s) o.term (input_shapes m)) os → ExtentsAre m s os
extents_are m s [] v h = tt
extents_are m s (o ∷ os) v h = (
  values_at s (output_extents m o) (dims o.term s (input_extents m s))
      (shape_values s o.term (input_shapes m) (input_extents m s) (first_all (λ (o : OutputDecl). EachPart (HasMeaning s) o.term (input_shapes m)) o os h) v),
  extents_are m s os v (rest_all (λ (o : OutputDecl). EachPart (HasMeaning s) o.term (input_shapes m)) o os h),
)

outputs_computed : (m : Module) (s : List ℕ) (os : List OutputDecl) → OutputsFit m s os → ExtentsAre m s os
    → Computed s (map (λ o. words_tree (output_extents m o)) os) (map (λ o. word_count (dims o.term s (input_extents m s))) os)
outputs_computed m s [] h e = tt
outputs_computed m s (o ∷ os) h e = (
  subst (λ ds. (reckon (words_tree (output_extents m o)) s [] ≡ Value (pos (word_count ds))) × (word_count ds ≤ largest_index)) e.0 h.0,
  outputs_computed m s os h.2 e.1,
)

scratch_computed : (m : Module) (s : List ℕ) (b : Bool) → ScratchFits m s b → Computed s (scratch_lengths m b) (scratch_counts m s b)
scratch_computed m s false h = tt
scratch_computed m s true h = ((ap (λ l. reckon (length_tree (region_length l)) s []) h.1 ∙ h.2, h.3), tt)

-- the outputs owed

abbrev ReadyAt : Module → List ℕ → List (List ℕ) → List OutputDecl → Type 0
ReadyAt m s ds [] = Unit {0}
ReadyAt m s ds (o ∷ os) =
    (reckon (words_tree (output_extents m o)) s [] ≡ Value (pos (word_count (dims o.term s ds)))) × (word_count (dims o.term s ds) ≤ largest_index)
    × (extents_at (output_extents m o) s ≡ dims o.term s ds) × Owes s o.term (output_place m o) [] [] ds × ShapesFit o.term s ds × LiteralsFit o.term
    × Room s (scratch_many (any_let m.outputs)) (region_words m s (any_let m.outputs)) o.term ds 0 × ReadyAt m s ds os

ready_here : (m : Module) (s : List ℕ) (os : List OutputDecl) → OutputsFit m s os → ExtentsAre m s os → OutputsOwe m s os → OutputsShapesFit m s os
    → All (λ o. LiteralsFit o.term) os
    → OutputsRoom m s os → ReadyAt m s (input_extents m s) os
ready_here m s [] f e o h l r = tt
ready_here m s (x ∷ xs) f e o h l r =
    let c = subst (λ ds. (reckon (words_tree (output_extents m x)) s [] ≡ Value (pos (word_count ds))) × (word_count ds ≤ largest_index)) e.0 f.0 in (
      c.0,
      c.1,
      e.0,
      o.0,
      h.0,
      first_all (λ (o : OutputDecl). LiteralsFit o.term) x xs l,
      r.0,
      ready_here m s xs f.2 e.1 o.1 h.1
          (rest_all (λ (o : OutputDecl). LiteralsFit o.term) x xs l) r.1,
    )

all_ready : (m : Module) (marks : List Path) (s : List ℕ) (ts : List Tensor) (are : AreInputs m.inputs s ts) (os : List OutputDecl) (j : ℕ)
    → ReadyAt m s (extents_of (inputs_bound m.inputs s ts)) os
    → AllReady m marks s (scratch_many (any_let m.outputs)) (region_words m s (any_let m.outputs)) ts are os j
all_ready m marks s ts are [] j h = tt
all_ready m marks s ts are (o ∷ os) j h = (
  record { computed = h.0; small = omega (arith, h.1); extents = h.2; owed = record { owes = h.3; shapes = h.4; literals = h.5; room = h.6 } },
  all_ready m marks s ts are os (j + 1) h.7,
)

-- buffers of those lengths
prepared_at : (m : Module) (marks : List Path) (s : List ℕ) (many len : ℕ) (ts : List Tensor) (are : AreInputs m.inputs s ts) (os : List OutputDecl) (j : ℕ)
    (n : Memory) → length n.outputs ≡ j + length os
    → ((i : ℕ) → i < length os → length (get_or n.outputs (j + i) []) ≡ get_or
    (map (λ o. word_count (dims o.term s (extents_of (inputs_bound m.inputs s ts)))) os) i 0)
    → Prepared m marks s many len ts are os j n
prepared_at m marks s many len ts are [] j n e h = tt
prepared_at m marks s many len ts are (o ∷ os) j n e h =
    let z : j ≡ j + 0 = omega arith in (
      omega (arith, e),
      ap (λ k. length (get_or n.outputs k [])) z ∙ h 0 (omega arith),
      prepared_at m marks s many len ts are os (j + 1) n (omega (arith, e))
          (λ i l. let g : j + 1 + i ≡ j + suc i = omega arith in ap (λ k. length (get_or n.outputs k [])) g ∙ h (suc i) (omega (arith, l))),
    )

region_is : (m : Module) (s : List ℕ) (b : Bool) → (length (scratch_counts m s b) ≡ scratch_many b) × (get_or (scratch_counts m s b) 0 0 ≡ region_words m s b)
region_is m s true = (refl, refl)
region_is m s false = (refl, refl)

module _ (m : Module) (finals : List FinalLine) (marks : List Path) (low : IsLowerable m finals marks) where
  within : (s : List ℕ) → Allowed m s → StaysWithin m s
  within s a = accepted-stays-within m finals marks low.sound low.normal low.accepted s a

  outputs_extents : (s : List ℕ) → Allowed m s → ExtentsAre m s m.outputs
  outputs_extents s a = let v = sound_shapes m low.sound s a in extents_are m s m.outputs v.0 v.1

  -- each length is the number of words of its buffer
  pub has_lengths : HasLengths m (program_of m marks)
  has_lengths s a =
      let w = within s a in
      computed_append s (map (λ d. words_tree d.extents) m.inputs) _ (map word_count (input_extents m s)) _ (inputs_computed s m.inputs w.inputs)
      (computed_append s (map (λ o. words_tree (output_extents m o)) m.outputs) (scratch_lengths m (any_let m.outputs))
      (map (λ o. word_count (dims o.term s (input_extents m s))) m.outputs)
      (scratch_counts m s (any_let m.outputs)) (outputs_computed m s m.outputs w.outputs (outputs_extents s a))
      (scratch_computed m s (any_let m.outputs) w.scratch))

  record Sized (s : List ℕ) (n : Memory) : Type 0 where
    outputs : map length n.outputs ≡ map (λ o. word_count (dims o.term s (input_extents m s))) m.outputs
    scratch : map length n.scratch ≡ scratch_counts m s (any_let m.outputs)

  sized : (s : List ℕ) → Allowed m s → (n : Memory) → IsMemoryOf (program_of m marks) s n → Sized s n
  sized s a n mem =
      let ins = map word_count (input_extents m s) in
      let outs = map (λ o. word_count (dims o.term s (input_extents m s))) m.outputs in
      let sc = scratch_counts m s (any_let m.outputs) in
      let all : map length n.inputs ++ (map length n.outputs ++ map length n.scratch) ≡ ins ++ (outs ++ sc) =
      ap (λ l. map length n.inputs ++ l) (sym (map-append length n.outputs n.scratch)) ∙ sym (map-append length n.inputs (n.outputs ++ n.scratch))
      ∙ ap (map length) (sym (append_assoc n.inputs n.outputs n.scratch)) ∙ mem.lengths
      ∙ computed_lengths s (program_of m marks).lengths (word_counts m s) (has_lengths s a) in
      let e : length (map length n.inputs) ≡ length ins =
      length-map n.inputs length ∙ mem.inputs ∙ sym (length-map (input_extents m s) word_count ∙ length-map m.inputs (λ d. extents_at d.extents s)) in
      let rest = (two_parts (map length n.inputs) ins (map length n.outputs ++ map length n.scratch) (outs ++ sc) e all).1 in
      let f : length (map length n.outputs) ≡ length outs = length-map n.outputs length ∙ mem.outputs
      ∙ sym (length-map m.outputs (λ o. word_count (dims o.term s (input_extents m s)))) in
      let p = two_parts (map length n.outputs) outs (map length n.scratch) sc f rest in
      record { outputs = p.0; scratch = p.1 }

  -- at all allowed sizes at which its loops are owed what they need, every run of the program is right
  pub is_correct : All (λ o. LiteralsFit o.term) m.outputs → ((s : List ℕ) → Allowed m s → IsOwed m s) → IsCorrect m (program_of m marks)
  is_correct lit owed s a ts are n mem held =
      record {
        after = r.after;
        runs = ap (λ l. apply l n) (acts-seq (outputs_loops m marks m.outputs 0) s []) ∙ r.runs;
        outputs =
            same_list [] r.after.outputs (map flat (module_den m s ts))
            (r.many_outputs ∙ mem.outputs ∙ sym (length-map (module_den m s ts) flat
            ∙ length-map m.outputs (λ o. den o.term s [] (inputs_bound m.inputs s ts))))
            (λ i l. let z : i ≡ 0 + i = omega arith in ap (λ k. get_or r.after.outputs k []) z
            ∙ delivered_at m marks s many len ts are m.outputs 0 i r.after r.delivered (omega (arith, l, r.many_outputs, mem.outputs)));
        inputs_kept = r.inputs;
      }
    where
      many : ℕ
      many = scratch_many (any_let m.outputs)

      len : ℕ
      len = region_words m s (any_let m.outputs)

      same : extents_of (inputs_bound m.inputs s ts) ≡ input_extents m s
      same = bound_extents s m.inputs ts are

      z : Sized s n
      z = sized s a n mem

      o : IsOwed m s
      o = owed s a

      w : StaysWithin m s
      w = within s a

      ready : AllReady m marks s many len ts are m.outputs 0
      ready = all_ready m marks s ts are m.outputs 0 (subst (λ ds. ReadyAt m s ds m.outputs) (sym same)
          (ready_here m s m.outputs w.outputs (outputs_extents s a) o.owes o.shapes lit o.room))

      outs : (ds : List (List ℕ)) → ds ≡ input_extents m s → map length n.outputs ≡ map (λ o. word_count (dims o.term s ds)) m.outputs
      outs ds e = z.outputs ∙ ap (λ ds. map (λ o. word_count (dims o.term s ds)) m.outputs) (sym e)

      prepared : Prepared m marks s many len ts are m.outputs 0 n
      prepared =
          prepared_at m marks s many len ts are m.outputs 0 n (omega (arith, mem.outputs))
          (λ i l. let z : 0 + i ≡ i = omega arith in
          ap (λ k. length (get_or n.outputs k [])) z ∙ sym (get_or-map_length n.outputs i)
          ∙ ap (λ v. get_or v i 0) (outs (extents_of (inputs_bound m.inputs s ts)) same))

      scratch_many_is : length n.scratch ≡ many
      scratch_many_is = sym (length-map n.scratch length) ∙ ap length z.scratch ∙ (region_is m s (any_let m.outputs)).0

      scratch_long_is : length (region n) ≡ len
      scratch_long_is = sym (get_or-map_length n.scratch 0) ∙ ap (λ v. get_or v 0 0) z.scratch ∙ (region_is m s (any_let m.outputs)).1

      r : Runs m marks s many len ts are m.outputs 0 n
      r = outputs_run m marks s many len ts are m.outputs 0 n ready prepared held scratch_many_is scratch_long_is

pub lengths_are_right : LengthsAreRight
lengths_are_right = has_lengths

pub loops_are_right : LoopsAreRight
loops_are_right m finals marks low lit = is_correct m finals marks low lit (accepted_is_owed m finals marks low)
