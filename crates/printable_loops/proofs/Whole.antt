-- The program of a module that may be lowered has a text of its own.
use Rattle.std.proofs.Common.{◌≢◌, ℕ, zero, suc, ◌+◌, ◌^◌, ◌<◌, ◌≤◌, Bool, true, false, List, [], ◌∷◌, ◌++◌, length, map}
use Rattle.std.proofs.Common.{refl, sym, subst, arith}
use Rattle.std.specs.Prelude.{pos}
use Rattle.std.specs.Prelude as std
use Rattle.affine_index.specs.Form.{literal_form}
use Rattle.index_trees.specs.Tree.{index_tree}
use Rattle.linear_cert.specs.declared.lines.FinalLine.{FinalLine}
use Rattle.loop_lang.specs.declared.index.Iexp.{Iexp}
use Rattle.loop_lang.specs.declared.word.Buf.TheVariants.{Output}
use Rattle.region_plan.specs.Length.{length_tree}
use Rattle.term_tree.specs.Counts.{node_depth}
use Rattle.term_tree.specs.declared.term.InputDecl.{InputDecl}
use Rattle.term_tree.specs.declared.term.Module.{Module}
use Rattle.term_tree.specs.declared.term.OutputDecl.{OutputDecl}
use Rattle.term_tree.specs.declared.term.Path.{Path}
use Rattle.term_tree.specs.Shape.{Extents}
use Rattle.shape_rules.specs.Fits.{LiteralsFit}
use Rattle.final_rules.specs.Places.{length_form}
use Rattle.final_rules.specs.Printed.{length_printed, printed_of}
use Rattle.final_rules.specs.Rules.{any_let, body_printed, nowhere_yet, output_extents, output_place}
use Rattle.final_rules.proofs.Raw.{words-raw}
use Rattle.final_rules.proofs.Walk.{Every, every_parts}
use Rattle.lowering_laws.specs.Lowered.{loops_at, loops_of, output_spot, outputs_loops, program_of, region_length, scratch_lengths, words_tree}
use Rattle.lowering_laws.specs.Marks.{output_marks}
use Rattle.lowering_laws.proofs.PrintedHeld.{Held, HeldLength, accepted_held}
use Rattle.lowering_laws.proofs.WellFormed.{accepted_is_formed}
use Rattle.c_read.proofs.Alone.{alone}
use Rattle.c_text.specs.Flat.{Flat, IndexWithin, IsFlat}
use Rattle.c_text.specs.Printable.{All}
use Rattle.c_text.proofs.ReadsBack.{reads_back}
use Rattle.printable_loops.specs.Printable.{IsPrintedModule, LoopsAreFlat, TextsAreAlone}
use Rattle.printable_loops.proofs.FlatLengths.{DeepAtMost, length-ok, module-low}
use Rattle.printable_loops.proofs.FlatLoops.{all-append, index-within, loops-flat, zero-flat}
use Rattle.printable_loops.proofs.FlatWords.{plain-ok, printed-ok}

-- lengths

abbrev Short : List Iexp → Type 0
Short xs = All (λ n. IndexWithin n 999) xs

short-append : (xs ys : List Iexp) → Short xs → Short ys → Short (xs ++ ys)
short-append [] ys h g = g
short-append (x ∷ xs) ys h g = (h.0, short-append xs ys h.1 g)

words-short : (sizes : ℕ) (ns : Extents) → Held sizes (length_printed ns nowhere_yet) → IndexWithin (words_tree ns) 999
words-short sizes ns h = index-within (words_tree ns) 999 (omega arith) (printed-ok sizes 0 (length_printed ns nowhere_yet) (length_form ns) (words-raw ns) h)

inputs-short : (sizes : ℕ) (ds : List InputDecl) → Every (Held sizes) (map (λ d. length_printed d.extents nowhere_yet) ds)
    → Short (map (λ d. words_tree d.extents) ds)
inputs-short sizes [] h = tt
inputs-short sizes (d ∷ ds) h = (words-short sizes d.extents h.0, inputs-short sizes ds h.1)

outputs-short : (sizes : ℕ) (m : Module) (os : List OutputDecl) → Every (Held sizes) (map (λ o. length_printed (output_extents m o) nowhere_yet) os)
    → Short (map (λ o. words_tree (output_extents m o)) os)
outputs-short sizes m [] h = tt
outputs-short sizes m (o ∷ os) h = (words-short sizes (output_extents m o) h.0, outputs-short sizes m os h.1)

scratch-short : (m : Module) (w : Bool) → DeepAtMost 200 m.outputs → length m.outputs ≤ 2 ^ 32 → HeldLength m w → Short (scratch_lengths m w)
scratch-short m false d n h = tt
scratch-short m true d n h =
    let t = length-ok h.0 h.2 in
    let low = module-low m h.0 d n h.1 in
    let within : IndexWithin (length_tree h.0) 999 = record { levels = omega (arith, t.levels, low); longest = omega (arith, t.longest) } in
    (subst (λ l. IndexWithin (length_tree (region_length l)) 999) (sym h.1) within, tt)

-- outputs

abbrev LiteralsWithin : List OutputDecl → Type 0
LiteralsWithin [] = Unit {0}
LiteralsWithin (o ∷ os) = LiteralsFit o.term × LiteralsWithin os

body-flat : (m : Module) (marks : List Path) (os : List OutputDecl) (j : ℕ) → DeepAtMost 200 os → LiteralsWithin os
    → Every (Held (length m.sizes)) (body_printed m os) → All (Flat 1000) (outputs_loops m marks os j)
body-flat m marks [] j d f h = tt
body-flat m marks (o ∷ os) j d f h =
    let sizes = length m.sizes in
    let p = output_place m o in
    let hs = every_parts (Held sizes) (printed_of o.term p) (body_printed m os) h.1.1 in (
      zero-flat (Output j) (index_tree 0 (literal_form (pos 0))) (words_tree (output_extents m o)) 1000 (omega arith)
          (plain-ok sizes 0 (literal_form (pos 0)) p h.0)
          (printed-ok sizes 0 (length_printed (output_extents m o) p) (length_form (output_extents m o)) (words-raw (output_extents m o)) h.1.0),
      all-append (Flat 1000) (loops_at o.term (output_spot m o j) (output_marks j marks)) (outputs_loops m marks os (j + 1))
          (loops-flat sizes o.term (output_spot m o j) (output_marks j marks) 1000 d.0 (omega (arith, d.0)) f.0 hs.0)
          (body-flat m marks os (j + 1) d.1 f.1 hs.1),
    )

some-outputs : (os : List OutputDecl) → os ≢ [] → 0 < length os
some-outputs [] h = absurd (h refl)
some-outputs (o ∷ os) h = omega arith

flat : (m : Module) (finals : List FinalLine) (marks : List Path) → (low : IsPrintedModule m finals marks) → DeepAtMost 200 m.outputs
    → LiteralsWithin m.outputs → length m.outputs ≤ 2 ^ 32 → IsFlat (program_of m marks)
flat m finals marks low d f n =
    let held = accepted_held m finals marks low.lowerable in
    let ins = map (λ d. words_tree d.extents) m.inputs in
    let outs = map (λ o. words_tree (output_extents m o)) m.outputs in
    let rest = scratch_lengths m (any_let m.outputs) in
    record {
      some = some-outputs m.outputs low.lowerable.outputs;
      lengths = short-append ins (outs ++ rest) (inputs-short (length m.sizes) m.inputs held.inputs)
          (short-append outs rest (outputs-short (length m.sizes) m m.outputs held.outputs)
          (scratch-short m (any_let m.outputs) d n held.scratch));
      body = outputs_loops m marks m.outputs 0;
      is_body = refl;
      body_flat = body-flat m marks m.outputs 0 d f held.body;
    }

-- std's list of facts, one by one
rest_all : {X : Type 0} (P : X → Type 0) (x : X) (xs : List X) → std.All P (x ∷ xs) → std.All P xs
rest_all P x xs h k d l = h (suc k) d (omega (arith, l))

first_all : {X : Type 0} (P : X → Type 0) (x : X) (xs : List X) → std.All P (x ∷ xs) → P x
first_all P x xs h = h zero x (omega arith)

depths-of : (os : List OutputDecl) → std.All (λ o. node_depth o.term ≤ 200) os → DeepAtMost 200 os
depths-of [] h = tt
depths-of (o ∷ os) h = (
  first_all (λ (o : OutputDecl). node_depth o.term ≤ 200) o os h,
  depths-of os (rest_all (λ (o : OutputDecl). node_depth o.term ≤ 200) o os h),
)

literals-of : (os : List OutputDecl) → std.All (λ o. LiteralsFit o.term) os → LiteralsWithin os
literals-of [] h = tt
literals-of (o ∷ os) h = (first_all (λ (o : OutputDecl). LiteralsFit o.term) o os h, literals-of os (rest_all (λ (o : OutputDecl). LiteralsFit o.term) o os h))

pub loops_are_flat : LoopsAreFlat
unfolding loops_of
loops_are_flat m finals marks low =
    flat m finals marks low (depths-of m.outputs low.depths) (literals-of m.outputs low.literals) (omega (arith, low.numbers.outputs))

pub texts_are_alone : TextsAreAlone
unfolding loops_of
texts_are_alone m finals marks low =
    alone (program_of m marks)
    (reads_back (program_of m marks) low.numbers (accepted_is_formed m finals marks low.lowerable) (loops_are_flat m finals marks low))
