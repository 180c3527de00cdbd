-- The program of a module that may be lowered is well formed.
use Rattle.std.proofs.Common.{◌≡◌, ◌≢◌, ℕ, ◌+◌, ◌<◌, ◌≤◌, Bool, true, false, ◌&&◌, nat_lt, List, [], ◌∷◌, ◌++◌, length, map, Some, None, refl}
use Rattle.std.proofs.Common.{sym, ap, ◌∙◌, subst}
use Rattle.std.proofs.Common.{arith, length-append}
use Rattle.std.specs.Prelude.{pos}
use Rattle.std.proofs.lemmas.Bool.{and_from, and_parts, lt-ltb, or_left, or_right}
use Rattle.std.proofs.lemmas.List.{length-map}
use Rattle.affine_index.specs.Form.{literal_form}
use Rattle.affine_index.specs.Limited.{items_scoped}
use Rattle.affine_index.specs.Normal.{is_normal}
use Rattle.index_trees.specs.Tree.{index_tree}
use Rattle.loop_lang.specs.Form.{buffer_there, index_formed, lengths_formed}
use Rattle.loop_lang.specs.declared.index.Iexp.{Iexp}
use Rattle.loop_lang.specs.declared.index.Iexp.TheVariants.{Larger}
use Rattle.loop_lang.specs.declared.word.Buf.TheVariants.{Output}
use Rattle.loop_lang.specs.declared.stmt.Prog.{Prog}
use Rattle.loop_lang.proofs.IndexForms.{index_larger-is}
use Rattle.loop_lang.proofs.Statements.{all_formed, formed-zero}
use Rattle.region_plan.specs.Length.{length_tree}
use Rattle.region_plan.specs.Syntax.{topped}
use Rattle.region_plan.specs.declared.length.Length.{Length, Plain}
use Rattle.term_tree.specs.declared.term.InputDecl.{InputDecl}
use Rattle.term_tree.specs.declared.term.Module.{Module}
use Rattle.term_tree.specs.declared.term.OutputDecl.{OutputDecl}
use Rattle.term_tree.specs.declared.term.Path.{Path}
use Rattle.term_tree.specs.Modules.{outputs_scoped}
use Rattle.term_tree.specs.Scope.{term_scoped}
use Rattle.term_tree.specs.Shape.{Extents}
use Rattle.shape_rules.proofs.ModuleLaws.{module_parts}
use Rattle.final_rules.specs.Lengths.{over_sizes}
use Rattle.final_rules.specs.Places.{length_form}
use Rattle.final_rules.specs.Printed.{length_printed, printed_of}
use Rattle.final_rules.specs.Rules.{any_let, body_printed, has_let, length_normal, nowhere_yet, output_extents, output_place}
use Rattle.final_rules.proofs.MarkLaws.{accepted-marks-fit}
use Rattle.final_rules.proofs.Raw.{words-raw}
use Rattle.final_rules.proofs.Walk.{Every, every_parts}
use Rattle.lowering_laws.specs.Correct.{AcceptedIsFormed}
use Rattle.lowering_laws.specs.Lowered.{input_buffers, loops_at, output_spot, outputs_loops, program_of, region_length, scratch_lengths}
use Rattle.lowering_laws.specs.Lowered.{scratch_many}
use Rattle.lowering_laws.specs.Lowered.{words_tree}
use Rattle.lowering_laws.specs.Marks.{output_marks}
use Rattle.lowering_laws.proofs.Apart.{Apart, apart-marks}
use Rattle.lowering_laws.proofs.FormedLoops.{formed-append, loops-formed, seq-formed}
use Rattle.lowering_laws.proofs.FormedWords.{AllThere, here, plain-here}
use Rattle.lowering_laws.proofs.PrintedHeld.{Held, HeldLength, accepted_held}
use Rattle.lowering_laws.proofs.TreeFormed.{tree_after_formed, tree_formed}

-- lengths

lengths-append : (sizes : ℕ) (xs ys : List Iexp) → lengths_formed sizes xs ≡ true → lengths_formed sizes ys ≡ true → lengths_formed sizes (xs ++ ys) ≡ true
lengths-append sizes [] ys h g = g
lengths-append sizes (x ∷ xs) ys h g =
    let p = and_parts (index_formed sizes true x 0) (lengths_formed sizes xs) h in and_from _ _ p.0 (lengths-append sizes xs ys p.1 g)

words-formed : (sizes : ℕ) (ns : Extents) → Held sizes (length_printed ns nowhere_yet) → index_formed sizes true (words_tree ns) 0 ≡ true
words-formed sizes ns h = subst (λ x. index_formed sizes true (index_tree 0 x) 0 ≡ true) (sym (words-raw ns h.0 h.1)) (tree_formed sizes 0 true h.0 h.2 h.3)

inputs-formed : (sizes : ℕ) (ds : List InputDecl) → Every (Held sizes) (map (λ d. length_printed d.extents nowhere_yet) ds)
    → lengths_formed sizes (map (λ d. words_tree d.extents) ds) ≡ true
inputs-formed sizes [] h = refl
inputs-formed sizes (d ∷ ds) h = and_from _ _ (words-formed sizes d.extents h.0) (inputs-formed sizes ds h.1)

outputs-formed : (sizes : ℕ) (m : Module) (os : List OutputDecl) → Every (Held sizes) (map (λ o. length_printed (output_extents m o) nowhere_yet) os)
    → lengths_formed sizes (map (λ o. words_tree (output_extents m o)) os) ≡ true
outputs-formed sizes m [] h = refl
outputs-formed sizes m (o ∷ os) h = and_from _ _ (words-formed sizes (output_extents m o) h.0) (outputs-formed sizes m os h.1)

length-formed : (sizes : ℕ) (l : Length) → length_normal l ≡ true → over_sizes sizes l ≡ true → index_formed sizes true (length_tree l) 0 ≡ true
length-formed sizes (Plain x) n o = tree_after_formed sizes 0 true x n o None tt
length-formed sizes (topped x a b) n o =
    let ns = and_parts (is_normal x) (length_normal a && length_normal b) n in
    let ms = and_parts (length_normal a) (length_normal b) ns.1 in
    let os = and_parts (items_scoped sizes 0 x) (over_sizes sizes a && over_sizes sizes b) o in
    let ps = and_parts (over_sizes sizes a) (over_sizes sizes b) os.1 in
    tree_after_formed sizes 0 true x ns.0 os.0 (Some (Larger (length_tree a) (length_tree b)))
    (ap (λ t. index_formed sizes true t 0) (index_larger-is (length_tree a) (length_tree b))
    ∙ and_from _ _ (length-formed sizes a ms.0 ps.0) (length-formed sizes b ms.1 ps.1))

scratch-formed : (m : Module) (w : Bool) → HeldLength m w → lengths_formed (length m.sizes) (scratch_lengths m w) ≡ true
scratch-formed m false h = refl
scratch-formed m true h =
    ap (λ l. index_formed (length m.sizes) true (length_tree (region_length l)) 0 && true) h.1 ∙ and_from _ _ (length-formed (length m.sizes) h.0 h.2 h.3) refl

scratch-count : (m : Module) (w : Bool) → length (scratch_lengths m w) ≡ scratch_many w
scratch-count m true = refl
scratch-count m false = refl

-- buffers

some-outputs : (os : List OutputDecl) → os ≢ [] → 0 < length os
some-outputs [] h = absurd (h refl)
some-outputs (o ∷ os) h = omega arith

region-there : (w : Bool) → w ≡ true → 0 < scratch_many w
region-there true h = omega arith
region-there false h = absurd (cc)

module _ (m : Module) (marks : List Path) where
  abbrev prog : Prog
  prog = program_of m marks

  inputs-there : (k : ℕ) (ds : List InputDecl) → k + length ds ≤ length m.inputs → AllThere prog (input_buffers k ds)
  inputs-there k [] h = tt
  inputs-there k (d ∷ ds) h = (lt-ltb k (length m.inputs) (omega (arith, h)), inputs-there (k + 1) ds (omega (arith, h)))

  -- the outputs from number j on
  body-formed : (first : buffer_there prog (Output 0) ≡ true) → ((j : ℕ) → Apart (output_marks j marks)) → (os : List OutputDecl) (j : ℕ)
      → j + length os ≡ length m.outputs → outputs_scoped (length m.sizes) (length m.inputs) os ≡ true → (any_let os ≡ true → 0 < prog.scratch)
      → Every (Held (length m.sizes)) (body_printed m os) → all_formed prog (outputs_loops m marks os j) 0 false ≡ true
  body-formed first apart [] j e c r h = refl
  body-formed first apart (o ∷ os) j e c r h =
      let sizes = length m.sizes in
      let p = output_place m o in
      let cs = and_parts (term_scoped sizes o.term 0 (length m.inputs)) (outputs_scoped sizes (length m.inputs) os) c in
      let hs = every_parts (Held sizes) (printed_of o.term p) (body_printed m os) h.1.1 in
      let there : nat_lt j (length m.outputs) ≡ true = lt-ltb j (length m.outputs) (omega (arith, e)) in
      let words = here prog p (length_printed (output_extents m o) p) (length_form (output_extents m o)) refl (words-raw (output_extents m o)) h.1.0 in
      let loops = loops_at o.term (output_spot m o j) (output_marks j marks) in
      and_from _ _
      (formed-zero prog (Output j) (index_tree 0 (literal_form (pos 0))) (words_tree (output_extents m o)) 0 false
      ∙ and_from _ _ there (and_from _ _ (plain-here prog p (literal_form (pos 0)) h.0) words))
      (formed-append prog loops (outputs_loops m marks os (j + 1)) 0 false
      (loops-formed prog first o.term (output_spot m o j) (output_marks j marks) sizes 0 (length m.inputs) false cs.0 (apart j) (λ q. absurd (cc))
      (λ q. r (or_left (has_let o.term) (any_let os) q)) (inputs-there 0 m.inputs (omega arith), there) hs.0)
      (body-formed first apart os (j + 1) (omega (arith, e)) cs.1 (λ q. r (or_right (has_let o.term) (any_let os) q)) hs.1))

pub accepted_is_formed : AcceptedIsFormed
accepted_is_formed m finals marks low =
    let held = accepted_held m finals marks low in
    let fit = accepted-marks-fit m finals marks low.accepted in
    let scoped = (module_parts m low.sound.scoped).1 in
    let ins = map (λ d. words_tree d.extents) m.inputs in
    let outs = map (λ o. words_tree (output_extents m o)) m.outputs in
    let rest = scratch_lengths m (any_let m.outputs) in
    let first : nat_lt 0 (length m.outputs) ≡ true = lt-ltb 0 (length m.outputs) (some-outputs m.outputs low.outputs) in
    record {
      many = omega (
        arith,
        length-append ins (outs ++ rest),
        length-append outs rest,
        length-map m.inputs (λ d. words_tree d.extents),
        length-map m.outputs (λ o. words_tree (output_extents m o)),
        scratch-count m (any_let m.outputs),
      );
      lengths = lengths-append (length m.sizes) ins (outs ++ rest) (inputs-formed (length m.sizes) m.inputs held.inputs)
          (lengths-append (length m.sizes) outs rest (outputs-formed (length m.sizes) m m.outputs held.outputs)
          (scratch-formed m (any_let m.outputs) held.scratch));
      body = seq-formed (program_of m marks) (outputs_loops m marks m.outputs 0) 0 false
          (body-formed m marks first (λ j. apart-marks m j [] marks fit) m.outputs 0 (omega arith) scoped (region-there (any_let m.outputs)) held.body);
    }
