-- What the code reads of a whole text is what the readers of the grammar read.
use Rattle.std.proofs.Common.{◌≡◌, ℕ, ◌==◌, Bool, true, false, List, [], ◌∷◌, ◌++◌, length, Ok, Err, refl, sym, ap, ◌∙◌, append_assoc, append-nil}
use Rattle.text_tokens.specs.declared.kind.Kind.TheVariants as k
use Rattle.text_tokens.specs.Kinds.{Text}
use Rattle.text_tokens.specs.Words.{Input}
use Rattle.affine_index.specs.declared.cond.Cmp.{Cmp}
use Rattle.term_tree.specs.declared.term.SizeDecl.{SizeDecl}
use Rattle.term_tree.specs.declared.term.InputDecl.{InputDecl}
use Rattle.term_tree.specs.declared.term.OutputDecl.{OutputDecl}
use Rattle.term_tree.specs.declared.term.Module.{Module}
use Rattle.reader_laws.specs.Levels.{word_in}
use Rattle.reader_laws.specs.Steps.{Outcome, Parser, and_then, ◌>>=◌, no_value, pure}
use Rattle.reader_laws.specs.Chain.{repeated}
use Rattle.source_grammar.specs.Conditions.{with_last}
use Rattle.source_grammar.specs.ReadSource as spec
use Rattle.source_grammar.specs.Scope.{Scope}
use Rattle.source_grammar.specs.Source.{declared, input_names, module_of, most_lines, output_names, size_names}
use Rattle.term_reader.specs.Frames.{outermost}
use Rattle.declaration_reader.specs.declared.whole.Front.{Front}
use Rattle.declaration_reader.specs.Steps as steps
use Rattle.declaration_reader.proofs.LineLaws.{input_scope, size_scope}

assumes_are : (ds : List SizeDecl) → steps.assumes (declared ds []) ≡ spec.assumes ds
unfolding steps.assume spec.assume
assumes_are ds = refl

inputs_by : (ds : List SizeDecl)
    → (let p : Parser (List InputDecl) = repeated k.Input with_last (λ is. steps.input_line (size_names ds ++ input_names is) (declared ds [])) most_lines [] in
    p) ≡ spec.inputs ds
unfolding steps.input_line steps.extent_of spec.input_line spec.extent_of
inputs_by ds = refl

inputs_are : (ds : List SizeDecl) → steps.inputs (size_names ds) ≡ spec.inputs ds
inputs_are ds =
    ap (λ (s : Scope). let p : Parser (List InputDecl) = repeated k.Input with_last (λ is. steps.input_line (size_names ds ++ input_names is) s) most_lines []
    in p) (size_scope ds) ∙ inputs_by ds

line_is : (ds : List SizeDecl) (is : List InputDecl) (os : List OutputDecl)
    → steps.output_line ((size_names ds ++ input_names is) ++ output_names os) (declared ds is) ≡ spec.output_line ds is os
unfolding steps.output_line spec.output_line
line_is ds is os = ap (λ (names : List Text). let p : Parser OutputDecl = steps.output_line names (declared ds is) in p)
    (append_assoc (size_names ds) (input_names is) (output_names os))

more_are : (one : Bool) (ds : List SizeDecl) (is : List InputDecl) (os : List OutputDecl)
    → steps.outputs_by one (size_names ds ++ input_names is) (declared ds is) os ≡ spec.more_outputs one ds is os
more_are true ds is os = refl
more_are false ds is os = ap (λ (line : List OutputDecl → Parser OutputDecl). repeated k.Output with_last line most_lines os) (λ j. λ os. line_is ds is os j)

outputs_are : (version : ℕ) (ds : List SizeDecl) (is : List InputDecl) → steps.outputs version (size_names ds ++ input_names is) (declared ds is)
    ≡ spec.outputs version ds is
unfolding steps.outputs spec.outputs
outputs_are version ds is =
    let first : steps.output_line (size_names ds ++ input_names is) (declared ds is) ≡ spec.output_line ds is [] =
    ap (λ (names : List Text). steps.output_line names (declared ds is)) (sym (append-nil (size_names ds ++ input_names is))) ∙ line_is ds is [] in
    λ j. word_in 1000 k.Output no_value >>= λ _. (first j >>= λ o. more_are (version == 1) ds is (o ∷ []) j)

module _ (version : ℕ) where
  abbrev made : List SizeDecl → List Cmp → List ℕ → Parser Module
  made ds cs ns = steps.back version (size_names ds) >>= λ b. pure (module_of version ds cs ns b.0 b.1)

  abbrev ends : List SizeDecl → List Cmp → List ℕ → Parser Module
  ends ds cs ns = spec.inputs ds >>= λ is. (spec.outputs version ds is >>= λ os. pure (module_of version ds cs ns is os))

  -- what follows the inputs
  abbrev after : List SizeDecl → List InputDecl → Parser (List InputDecl × List OutputDecl)
  after ds is = steps.outputs version (size_names ds ++ input_names is)
      (outermost (size_names ds ++ input_names is) (length (size_names ds)) (length (input_names is)))
      >>= λ os. pure (is, os)

  -- inputs and outputs
  back_is : (ds : List SizeDecl) (cs : List Cmp) (ns : List ℕ) (i : Input) → made ds cs ns i ≡ ends ds cs ns i
  back_is ds cs ns i =
      ap (λ (p : Parser (List InputDecl)). and_then (and_then (p i) (after ds)) (λ b. pure (module_of version ds cs ns b.0 b.1))) (inputs_are ds)
      ∙ by_inputs (spec.inputs ds i)
    where
      by_outputs : (is : List InputDecl) (r : Outcome (List OutputDecl))
          → and_then (and_then r (λ os. let p : Parser (List InputDecl × List OutputDecl) = pure (is, os) in p))
          (λ b. pure (module_of version ds cs ns b.0 b.1))
          ≡ and_then r (λ os. pure (module_of version ds cs ns is os))
      by_outputs is (Ok p) = refl
      by_outputs is (Err e) = refl

      by_inputs : (r : Outcome (List InputDecl)) → and_then (and_then r (after ds)) (λ b. pure (module_of version ds cs ns b.0 b.1))
          ≡ and_then r (λ is. spec.outputs version ds is >>= λ os. pure (module_of version ds cs ns is os))
      by_inputs (Err e) = refl
      by_inputs (Ok p) =
          ap (λ (s : Scope). and_then
          (and_then (steps.outputs version (size_names ds ++ input_names p.0) s p.1)
          (λ os. let q : Parser (List InputDecl × List OutputDecl) = pure (p.0, os) in q)) (λ b. pure (module_of version ds cs ns b.0 b.1)))
          (input_scope ds p.0)
          ∙ by_outputs p.0 (steps.outputs version (size_names ds ++ input_names p.0) (declared ds p.0) p.1)
          ∙ ap (λ (q : Parser (List OutputDecl)). and_then (q p.1) (λ os. pure (module_of version ds cs ns p.0 os))) (outputs_are version ds p.0)

  abbrev from_front : Front → Parser Module
  from_front f = made f.sizes f.assumes f.example

  by_example : (ds : List SizeDecl) (cs : List Cmp) (r : Outcome (List ℕ))
      → and_then (and_then r (λ ns. let p : Parser Front = pure (record { sizes = ds; assumes = cs; example = ns }) in p)) from_front
      ≡ and_then r (λ ns. ends ds cs ns)
  by_example ds cs (Err e) = refl
  by_example ds cs (Ok p) = back_is ds cs p.0 p.1

  by_assumes : (ds : List SizeDecl) (r : Outcome (List Cmp))
      → and_then (and_then (and_then r (λ cs. let p : Parser (List SizeDecl × List Cmp) = pure (ds, cs) in p))
      (λ b. spec.example b.0 >>= λ ns. let p : Parser Front = pure (record { sizes = b.0; assumes = b.1; example = ns }) in p)) from_front
      ≡ and_then r (λ cs. spec.example ds >>= λ ns. ends ds cs ns)
  by_assumes ds (Err e) = refl
  by_assumes ds (Ok p) = by_example ds p.0 (spec.example ds p.1)

  by_sizes : (r : Outcome (List SizeDecl))
      → and_then (and_then (and_then r
      (λ ds. steps.assumes (outermost (size_names ds) (length (size_names ds)) 0) >>= λ cs. let p : Parser (List SizeDecl × List Cmp) = pure
      (ds, cs) in p)) (λ b. spec.example b.0 >>= λ ns. let p : Parser Front = pure (record { sizes = b.0; assumes = b.1; example = ns }) in p)) from_front
      ≡ and_then r (λ ds. spec.assumes ds >>= λ cs. (spec.example ds >>= λ ns. ends ds cs ns))
  by_sizes (Err e) = refl
  by_sizes (Ok p) =
      by_assumes p.0 (steps.assumes (outermost (size_names p.0) (length (size_names p.0)) 0) p.1)
      ∙ ap (λ (s : Scope). and_then (steps.assumes s p.1) (λ cs. spec.example p.0 >>= λ ns. ends p.0 cs ns)) (size_scope p.0)
      ∙ ap (λ (q : Parser (List Cmp)). and_then (q p.1) (λ cs. spec.example p.0 >>= λ ns. ends p.0 cs ns)) (assumes_are p.0)

  by_header : (r : Outcome (Unit {0}))
      → and_then r (λ _. steps.front >>= from_front)
      ≡ and_then r (λ _. spec.sizes >>= λ ds. (spec.assumes ds >>= λ cs. (spec.example ds >>= λ ns. ends ds cs ns)))
  by_header (Err e) = refl
  by_header (Ok p) = by_sizes (spec.sizes p.1)

  pub whole_is : (i : Input) → spec.source version i ≡ steps.whole version i
  unfolding spec.source
  whole_is i = sym (by_header (spec.header version i))
