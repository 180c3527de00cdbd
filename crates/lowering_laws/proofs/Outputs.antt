-- The outputs of a program, one after another: each is zeroed and then written.
use Rattle.std.proofs.Common.{◌≡◌, ℕ, zero, suc, ◌+◌, ◌^◌, ◌<◌, List, [], ◌∷◌, ◌++◌, length, map, get_or, pos, refl, sym, ap, ◌∙◌, arith}
use Rattle.std.proofs.Common.{length-set, get_or-set_other}
use Rattle.affine_index.specs.Form.{literal_form}
use Rattle.affine_index.proofs.Values.{value-literal}
use Rattle.term_tree.specs.declared.term.InputDecl.{InputDecl}
use Rattle.term_tree.specs.declared.term.OutputDecl.{OutputDecl}
use Rattle.term_tree.specs.declared.term.Module.{Module}
use Rattle.term_tree.specs.declared.term.Path.{Path}
use Rattle.term_tree.specs.Tensors.{Tensor}
use Rattle.term_tree.specs.Meaning.{Bound, count_of, dims, den, extent, extents_of}
use Rattle.term_tree.specs.Shaped.{flat, word_count}
use Rattle.term_tree.specs.Modules.{AreInputs, extents_at, inputs_bound}
use Rattle.shape_rules.proofs.ModuleLaws.{bound_shaped, bound_words}
use Rattle.loop_lang.specs.declared.word.Buf.TheVariants.{Output}
use Rattle.loop_lang.specs.declared.stmt.Stmt.{Stmt}
use Rattle.loop_lang.specs.Reckoning.{Value, reckon}
use Rattle.loop_lang.specs.Actions.{Action, then_follow, zeroed, fill, acts_all}
use Rattle.loop_lang.specs.Memory.{Memory, Ends, apply}
use Rattle.loop_lang.proofs.Following.{apply-after, then_follow-assoc, acts_all-append}
use Rattle.loop_lang.proofs.Statements.{acts-zero}
use Rattle.index_trees.specs.Tree.{index_tree}
use Rattle.index_trees.proofs.TreeLaws.{tree-items}
use Rattle.final_rules.specs.Rules.{input_site, output_extents}
use Rattle.lowering_laws.proofs.Does.{Area, In, Out, region, Leaves, Does}
use Rattle.lowering_laws.specs.Contexts.{Context}
use Rattle.lowering_laws.specs.Marks.{output_marks}
use Rattle.lowering_laws.specs.Lowered.{loops_at, input_buffers, output_spot, words_tree, outputs_loops}
use Rattle.lowering_laws.proofs.Words.{AllHeld}
use Rattle.lowering_laws.proofs.Right.{Owed}
use Rattle.lowering_laws.proofs.Whole.{output_right}

-- the areas of inputs, of which the first has a number
abbrev pub areas_from : ℕ → List InputDecl → List Area
areas_from k [] = []
areas_from k (d ∷ ds) = In k ∷ areas_from (k + 1) ds

pub extent_zero : (s : List ℕ) → extent (literal_form (pos 0)) s ≡ 0
extent_zero s = ap count_of (value-literal s [] (pos 0))

pub place_zero : (s : List ℕ) → reckon (index_tree 0 (literal_form (pos 0))) s [] ≡ Value (pos 0)
place_zero s = ap (λ x. reckon x s []) (tree-items 0 (literal_form (pos 0)))

-- the inputs stay as they are, whatever is written
pub inputs_held : (s : List ℕ) (k : ℕ) (ds : List InputDecl) (ts : List Tensor) (T : Area) (n : Memory) → AreInputs ds s ts
    → ((i : ℕ) → i < length ts → get_or n.inputs (k + i) [] ≡ get_or (map flat ts) i [])
    → AllHeld s (map input_site ds) (input_buffers k ds) (areas_from k ds) (inputs_bound ds s ts) T 0 n
inputs_held s k [] ts T n h e = tt
inputs_held s k (d ∷ ds) [] T n h e = absurd h
inputs_held s k (d ∷ ds) (t ∷ ts) T n h e =
    let z : k ≡ k + 0 = omega arith in (
      record { extents = refl; offset = extent_zero s; buffer = refl; calm = tt; words_are = ap (λ i. get_or n.inputs i []) z ∙ e 0 (omega arith) },
      inputs_held s (k + 1) ds ts T n h.2 (λ i l. let z : k + 1 + i ≡ k + suc i = omega arith in ap (λ i. get_or n.inputs i []) z
          ∙ e (suc i) (omega (arith, l))),
    )

module _ (m : Module) (marks : List Path) (s : List ℕ) (many len : ℕ) (ts : List Tensor) (are : AreInputs m.inputs s ts) where
  abbrev bounds : List Bound
  bounds = inputs_bound m.inputs s ts

  abbrev output_dims : OutputDecl → List ℕ
  output_dims o = dims o.term s (extents_of bounds)

  -- the length of an output is computed, and its loops are owed what they need
  pub record Ready (o : OutputDecl) (j : ℕ) : Type 0 where
    pub computed : reckon (words_tree (output_extents m o)) s [] ≡ Value (pos (word_count (output_dims o)))
    pub small : word_count (output_dims o) < 2 ^ 63
    pub extents : extents_at (output_extents m o) s ≡ output_dims o
    pub owed : Owed s many len o.term (output_spot m o j) bounds [] [] 0

  abbrev pub AllReady : List OutputDecl → ℕ → Type 0
  AllReady [] j = Unit {0}
  AllReady (o ∷ os) j = Ready o j × AllReady os (j + 1)

  -- each output has its number of words
  abbrev pub Prepared : List OutputDecl → ℕ → Memory → Type 0
  Prepared [] j n = Unit {0}
  Prepared (o ∷ os) j n = (j < length n.outputs) × (length (get_or n.outputs j []) ≡ word_count (output_dims o)) × Prepared os (j + 1) n

  abbrev pub Delivered : List OutputDecl → ℕ → Memory → Type 0
  Delivered [] j n = Unit {0}
  Delivered (o ∷ os) j n = (get_or n.outputs j [] ≡ flat (den o.term s [] bounds)) × Delivered os (j + 1) n

  pub record Runs (os : List OutputDecl) (j : ℕ) (n : Memory) : Type 0 where
    pub after : Memory
    pub runs : apply (acts_all (outputs_loops m marks os j) s []) n ≡ Ends after
    pub delivered : Delivered os j after
    pub before : (i : ℕ) → i < j → get_or after.outputs i [] ≡ get_or n.outputs i []
    pub inputs : after.inputs ≡ n.inputs
    pub many_outputs : length after.outputs ≡ length n.outputs

  prepared_after : (os : List OutputDecl) (i j : ℕ) (n o : Memory) (ws : List ℕ) → i < j → Leaves (Out i) 0 n ws o → Prepared os j n → Prepared os j o
  prepared_after [] i j n o ws l p h = tt
  prepared_after (x ∷ os) i j n o ws l p h =
      let other : get_or o.outputs j [] ≡ get_or n.outputs j [] =
      ap (λ v. get_or v j []) p.outputs ∙ get_or-set_other n.outputs i j ws [] (λ (d : j ≡ i). absurd (omega (arith, l, d))) in
      (omega (arith, h.0, ap length p.outputs, length-set n.outputs i ws), ap length other ∙ h.1, prepared_after os i (j + 1) n o ws (omega (arith, l)) p h.2)

  abbrev Run : List OutputDecl → Type 0
  Run os = (j : ℕ) (n : Memory) → AllReady os j → Prepared os j n → n.inputs ≡ map flat ts → length n.scratch ≡ many → length (region n) ≡ len → Runs os j n

  none_run : Run []
  none_run j n ready prepared held sm sl =
      record { after = n; runs = refl; delivered = tt; before = λ i h. refl; inputs = refl; many_outputs = refl }

  one_run : (o : OutputDecl) (os : List OutputDecl) → Run os → Run (o ∷ os)
  one_run o os ih j n ready prepared held sm sl =
      record {
        after = rest.after;
        runs = ap (λ l. apply l n) actions ∙ apply-after (then_follow zs body) (acts_all others s []) n one.after one.runs ∙ rest.runs;
        delivered = (rest.before j (omega arith) ∙ p.there, rest.delivered);
        before = λ i h.
            rest.before i (omega (arith, h)) ∙ ap (λ v. get_or v i []) p.outputs
            ∙ get_or-set_other n.outputs j i words [] (λ (d : i ≡ j). absurd (omega (arith, h, d)));
        inputs = rest.inputs ∙ p.inputs;
        many_outputs = rest.many_outputs ∙ ap length p.outputs ∙ length-set n.outputs j words;
      }
    where
      spot : Context
      spot = output_spot m o j

      words : List ℕ
      words = flat (den o.term s [] bounds)

      zs : List Action
      zs = zeroed (Output j) (pos 0) 0 (word_count (output_dims o))

      body : List Action
      body = acts_all (loops_at o.term spot (output_marks j marks)) s []

      others : List Stmt
      others = outputs_loops m marks os (j + 1)

      one : Does (then_follow zs body) (Out j) 0 n words
      one =
          output_right s many len m o j (output_marks j marks) (areas_from 0 m.inputs) bounds n prepared.0 prepared.1 ready.0.small ready.0.extents
          (extent_zero s) ready.0.owed
          (inputs_held s 0 m.inputs ts (Out j) n are (λ i l. let z : 0 + i ≡ i = omega arith in ap (λ k. get_or n.inputs k []) z
          ∙ ap (λ v. get_or v i []) held))
          (bound_shaped s m.inputs ts are) (bound_words s m.inputs ts are) sm sl

      p : Leaves (Out j) 0 n words one.after
      p = one.leaves

      rest : Runs os (j + 1) one.after
      rest = ih (j + 1) one.after ready.1 (prepared_after os j (j + 1) n one.after words (omega arith) p prepared.2) (p.inputs ∙ held) (p.many ∙ sm) (p.long
          ∙ sl)

      actions : acts_all (outputs_loops m marks (o ∷ os) j) s [] ≡ then_follow (then_follow zs body) (acts_all others s [])
      actions =
          ap (λ l. then_follow l (acts_all (loops_at o.term spot (output_marks j marks) ++ others) s []))
          (acts-zero (Output j) (index_tree 0 (literal_form (pos 0))) (words_tree (output_extents m o)) s []
          ∙ (λ i. fill (Output j) (place_zero s i) (ready.0.computed i)))
          ∙ ap (then_follow zs) (acts_all-append (loops_at o.term spot (output_marks j marks)) others s [])
          ∙ sym (then_follow-assoc zs body (acts_all others s []))

  pub outputs_run : (os : List OutputDecl) → Run os
  outputs_run [] = none_run
  outputs_run (o ∷ os) = one_run o os (outputs_run os)

  pub delivered_at : (os : List OutputDecl) (j i : ℕ) (n : Memory) → Delivered os j n → i < length os
      → get_or n.outputs (j + i) [] ≡ get_or (map flat (map (λ o. den o.term s [] bounds) os)) i []
  delivered_at [] j i n h l = absurd (omega (arith, l))
  delivered_at (o ∷ os) j zero n h l = let e : j + 0 ≡ j = omega arith in ap (λ k. get_or n.outputs k []) e ∙ h.0
  delivered_at (o ∷ os) j (suc i) n h l =
      let e : j + suc i ≡ j + 1 + i = omega arith in
      ap (λ k. get_or n.outputs k []) e ∙ delivered_at os (j + 1) i n h.1 (omega (arith, l))
