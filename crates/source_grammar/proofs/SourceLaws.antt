-- Declarations and modules are read as their grammar says.
use Rattle.std.proofs.Common.{◌≡◌, ◌∷◌, ◌++◌, ℕ, ◌==◌, Bool, true, false, List, [], refl, sym, ap, ◌∙◌}
use Rattle.text_tokens.specs.declared.kind.Kind.{Kind}
use Rattle.text_tokens.specs.declared.kind.Kind.TheVariants as k
use Rattle.text_tokens.specs.Kinds.{same_kind}
use Rattle.text_tokens.specs.Words.{Word, Input}
use Rattle.affine_index.specs.declared.cond.Cmp.{Cmp}
use Rattle.term_tree.specs.declared.term.SizeDecl.{SizeDecl}
use Rattle.term_tree.specs.declared.term.InputDecl.{InputDecl}
use Rattle.term_tree.specs.declared.term.OutputDecl.{OutputDecl}
use Rattle.term_tree.specs.declared.term.Module.{Module}
use Rattle.reader_laws.specs.Steps.{Parser, pure, kind, no_value}
use Rattle.reader_laws.specs.Chain.{repeated}
use Rattle.reader_laws.specs.Grammar.{IsNothing, Both, IsRepeated}
use Rattle.reader_laws.proofs.Outcomes.{ahead, ahead_append}
use Rattle.reader_laws.proofs.Lawful.{Lawful, never, lawful_both, lawful_pure}
use Rattle.reader_laws.proofs.Repeated.{lawful_repeated, repeated_first, both_first}
use Rattle.reader_laws.proofs.Starts.{both_starts, nothing_frees}
use Rattle.source_grammar.specs.Scope.{extent_name}
use Rattle.source_grammar.specs.Index.{Sum}
use Rattle.source_grammar.specs.Conditions.{with_last}
use Rattle.source_grammar.specs.Terms.{Whole, IsTerm}
use Rattle.source_grammar.specs.ReadIndex.{index}
use Rattle.source_grammar.specs.ReadConditions.{condition}
use Rattle.source_grammar.specs.ReadTerms.{term}
use Rattle.source_grammar.specs.Source.{version_value, new_name, same_name, bound, size_names, input_names, output_names, declared, most_lines, with_all}
use Rattle.source_grammar.specs.Source.{module_of, IsHeader, IsSizeLine, AreSizes, IsAssume, AreAssumes, IsExampleOf, AreMoreExamples, IsExample, IsExtentOf}
use Rattle.source_grammar.specs.Source.{IsInputLine, AreInputs, IsOutputLine, AreMoreOutputs, AreOutputs, IsSource}
use Rattle.source_grammar.specs.ReadSource.{header, size_line, sizes, assume, assumes, example_of, more_examples, example, extent_of, input_line, inputs}
use Rattle.source_grammar.specs.ReadSource.{output_line, more_outputs, outputs, source}
use Rattle.reader_laws.proofs.LevelLaws.{lawful_word_in, word_in_then, lawful_closed, lawful_before}
use Rattle.source_grammar.proofs.IndexLaws.{sum_goes_on, lawful_index}
use Rattle.source_grammar.proofs.ConditionLaws.{condition_goes_on, lawful_condition}
use Rattle.source_grammar.proofs.TermLaws.{term_more, lawful_term}

lawful_header : (version : ℕ) → Lawful (header version) (IsHeader version) never
unfolding header
lawful_header version = word_in_then 1000 k.Atl no_value _ _ never (λ (z : k.Atl ≡ k.End). cc)
    (λ _. word_in_then 1000 k.Number (version_value version) _ _ never (λ (z : k.Number ≡ k.End). cc) (λ _.
    lawful_word_in 1000 k.Semi no_value (λ (z : k.Semi ≡ k.End). cc)))

lawful_size_line : (ds : List SizeDecl) → Lawful (size_line ds) (IsSizeLine ds) never
unfolding size_line
lawful_size_line ds =
    word_in_then 1000 k.Name (new_name (size_names ds)) _ _ never (λ (z : k.Name ≡ k.End). cc)
    (λ name. word_in_then 1000 k.In no_value _ _ never (λ (z : k.In ≡ k.End). cc) (λ _.
    word_in_then 1000 k.Number bound _ _ never (λ (z : k.Number ≡ k.End). cc)
    (λ low. word_in_then 1000 k.DotDot no_value _ _ never (λ (z : k.DotDot ≡ k.End). cc) (λ _.
    word_in_then 1000 k.Number bound _ _ never (λ (z : k.Number ≡ k.End). cc)
    (λ high. word_in_then 1000 k.Semi no_value _ _ never (λ (z : k.Semi ≡ k.End). cc) (λ _. lawful_pure _ never))))))

-- a line begins with a word of this kind
abbrev pub on : Kind → Kind → Bool
on a kd = same_kind kd a

lines : {A B : Type 0} (a : Kind) (add : A → B → A) (item : A → Parser B) (rule : A → List Word → B → Type 0) → (a ≡ k.End → ⊥)
    → ((x : A) → Lawful (item x) (rule x) never) → (n : ℕ) (left : A)
    → Lawful (repeated a add item n left) (IsRepeated a add rule n left) (on a)
lines a add item rule some each n left = lawful_repeated a add item rule never (on a) some refl (λ kd e. (e, refl)) each n left

lawful_assume : (ds : List SizeDecl) → Lawful (assume ds) (IsAssume ds) never
unfolding assume
lawful_assume ds = lawful_closed 1000 k.Semi (condition (extent_name (declared ds [])) 1000) _ condition_goes_on (λ (z : k.Semi ≡ k.End). cc) refl
    (lawful_condition (extent_name (declared ds [])) 1000)

lawful_example_of : (d : SizeDecl) → Lawful (example_of d) (IsExampleOf d) never
unfolding example_of
lawful_example_of d = word_in_then 1000 k.Name (same_name d.name) _ _ never (λ (z : k.Name ≡ k.End). cc)
    (λ _. word_in_then 1000 k.Assign no_value _ _ never (λ (z : k.Assign ≡ k.End). cc) (λ _.
    lawful_word_in 1000 k.Number bound (λ (z : k.Number ≡ k.End). cc)))

lawful_more_examples : (ds : List SizeDecl) (numbers : List ℕ) → Lawful (more_examples ds numbers) (AreMoreExamples ds numbers) never
unfolding more_examples
lawful_more_examples [] numbers = word_in_then 1000 k.Semi no_value _ _ never (λ (z : k.Semi ≡ k.End). cc) (λ _. lawful_pure numbers never)
lawful_more_examples (d ∷ ds) numbers = word_in_then 1000 k.Comma no_value _ _ never (λ (z : k.Comma ≡ k.End). cc) (λ _.
    lawful_both (example_of d) (λ n. more_examples ds (with_last numbers n)) (IsExampleOf d) (λ n. AreMoreExamples ds (with_last numbers n)) never never
    (lawful_example_of d) (λ n. lawful_more_examples ds (with_last numbers n)) (λ x ws y j is e. refl))

lawful_example : (ds : List SizeDecl) → Lawful (example ds) (IsExample ds) never
unfolding example
lawful_example [] = lawful_pure [] never
lawful_example (d ∷ ds) = word_in_then 1000 k.Example no_value _ _ never (λ (z : k.Example ≡ k.End). cc) (λ _.
    lawful_both (example_of d) (λ n. more_examples ds (n ∷ [])) (IsExampleOf d) (λ n. AreMoreExamples ds (n ∷ [])) never never (lawful_example_of d)
    (λ n. lawful_more_examples ds (n ∷ [])) (λ x ws y j is e. refl))

lawful_extent_of : (ds : List SizeDecl) → Lawful (extent_of ds) (IsExtentOf ds) never
unfolding extent_of
lawful_extent_of ds = lawful_closed 999 k.RBracket (index (extent_name (declared ds [])) 999 Sum) _ sum_goes_on (λ (z : k.RBracket ≡ k.End). cc) refl
    (lawful_index (extent_name (declared ds [])) 999 Sum)

semi_no_bracket : on k.LBracket k.Semi ≡ false
unfolding same_kind
semi_no_bracket = refl

lawful_input_line : (ds : List SizeDecl) (is : List InputDecl) → Lawful (input_line ds is) (IsInputLine ds is) never
unfolding input_line
lawful_input_line ds is = word_in_then 1000 k.Name (new_name (size_names ds ++ input_names is)) _ _ never (λ (z : k.Name ≡ k.End). cc) (λ name.
    lawful_before 1000 k.Semi (repeated k.LBracket with_last (λ _. extent_of ds) most_lines []) (λ es. pure (record { name = name; extents = es }))
    (IsRepeated k.LBracket with_last (λ _. IsExtentOf ds) most_lines []) (λ es. IsNothing (record { name = name; extents = es }))
    (on k.LBracket) never (λ (z : k.Semi ≡ k.End). cc) semi_no_bracket
    (lines k.LBracket with_last (λ _. extent_of ds) (λ _. IsExtentOf ds) (λ (z : k.LBracket ≡ k.End). cc) (λ _. lawful_extent_of ds) most_lines [])
    (λ es. lawful_pure _ never))

lawful_output_line : (ds : List SizeDecl) (is : List InputDecl) (os : List OutputDecl) → Lawful (output_line ds is os) (IsOutputLine ds is os) never
unfolding output_line
lawful_output_line ds is os = word_in_then 1000 k.Name (new_name (size_names ds ++ (input_names is ++ output_names os))) _ _ never (λ (z : k.Name ≡ k.End). cc)
    (λ name. word_in_then 1000 k.Assign no_value _ _ never (λ (z : k.Assign ≡ k.End). cc) (λ _.
    lawful_before 1000 k.Semi (term 1000 Whole (declared ds is)) (λ t. pure (record { name = name; term = t })) (IsTerm 1000 Whole (declared ds is))
    (λ t. IsNothing (record { name = name; term = t }))
    term_more never (λ (z : k.Semi ≡ k.End). cc) refl (lawful_term 1000 Whole (declared ds is)) (λ t. lawful_pure _ never)))

lawful_more_outputs : (one : Bool) (ds : List SizeDecl) (is : List InputDecl) (os : List OutputDecl)
    → Lawful (more_outputs one ds is os) (AreMoreOutputs one ds is os) (on k.Output)
lawful_more_outputs true ds is os = lawful_pure os (on k.Output)
lawful_more_outputs false ds is os = lines k.Output with_last (output_line ds is) (IsOutputLine ds is) (λ (z : k.Output ≡ k.End). cc) (lawful_output_line ds is)
    most_lines os

lawful_outputs : (version : ℕ) (ds : List SizeDecl) (is : List InputDecl) → Lawful (outputs version ds is) (AreOutputs version ds is) (on k.Output)
unfolding outputs
lawful_outputs version ds is = word_in_then 1000 k.Output no_value _ _ (on k.Output) (λ (z : k.Output ≡ k.End). cc) (λ _.
    lawful_both (output_line ds is []) (λ o. more_outputs (version == 1) ds is (o ∷ [])) (IsOutputLine ds is [])
    (λ o. AreMoreOutputs (version == 1) ds is (o ∷ [])) never (on k.Output)
    (lawful_output_line ds is []) (λ o. lawful_more_outputs (version == 1) ds is (o ∷ [])) (λ x ws y j is e. refl))

-- ---- what each part begins with

module _ (version : ℕ) (ds : List SizeDecl) where
  abbrev Made : List Cmp → List ℕ → List InputDecl → List OutputDecl → Module
  Made cs ns is os = module_of version ds cs ns is os

  abbrev FromOutputs : List Cmp → List ℕ → List InputDecl → List Word → Module → Type 0
  FromOutputs cs ns is = Both (AreOutputs version ds is) (λ os. IsNothing (Made cs ns is os))

  abbrev FromInputs : List Cmp → List ℕ → List Word → Module → Type 0
  FromInputs cs ns = Both (AreInputs ds) (FromOutputs cs ns)

  abbrev FromExample : List Cmp → List Word → Module → Type 0
  FromExample cs = Both (IsExample ds) (FromInputs cs)

  abbrev FromAssumes : List Word → Module → Type 0
  FromAssumes = Both (AreAssumes ds) FromExample

  outputs_first : (f : Kind → Bool) → f k.Output ≡ false → (cs : List Cmp) (ns : List ℕ) (is : List InputDecl) (ws : List Word) (m : Module) (j : Input)
      → FromOutputs cs ns is ws m → f (kind (ahead ws j)) ≡ false
  outputs_first f other cs ns is ws m j b = both_first (AreOutputs version ds is) _ f (λ vs x l h. ap f (both_starts k.Output no_value _ vs x l h) ∙ other) ws m
      j b

  inputs_first : (f : Kind → Bool) → f k.Input ≡ false → f k.Output ≡ false → (cs : List Cmp) (ns : List ℕ) (ws : List Word) (m : Module) (j : Input)
      → FromInputs cs ns ws m → f (kind (ahead ws j)) ≡ false
  inputs_first f no_input no_output cs ns ws m j b =
      ap (λ (l : Input). f (kind l)) (ap (λ (vs : List Word). ahead vs j) b.words ∙ sym (ahead_append b.front b.rest j))
      ∙ repeated_first k.Input with_last (IsInputLine ds) f no_input most_lines [] b.front b.value (ahead b.rest j) b.is_first
      (outputs_first f no_output cs ns b.value b.rest m j b.is_then)

  from_example : (f : Kind → Bool) → f k.Example ≡ false → f k.Input ≡ false → f k.Output ≡ false
      → (es : List SizeDecl) (cs : List Cmp) (front rest : List Word) (ns : List ℕ) (m : Module) (j : Input)
      → IsExample es front ns → FromInputs cs ns rest m → f (kind (ahead (front ++ rest) j)) ≡ false
  from_example f no_example no_input no_output [] cs front rest ns m j is b =
      ap (λ (vs : List Word). f (kind (ahead (vs ++ rest) j))) is.0 ∙ inputs_first f no_input no_output cs ns rest m j b
  from_example f no_example no_input no_output (e ∷ es) cs front rest ns m j is b =
      ap (λ (l : Input). f (kind l)) (sym (ahead_append front rest j)) ∙ ap f (both_starts k.Example no_value _ front ns (ahead rest j) is) ∙ no_example

  example_first : (f : Kind → Bool) → f k.Example ≡ false → f k.Input ≡ false → f k.Output ≡ false → (cs : List Cmp) (ws : List Word) (m : Module) (j : Input)
      → FromExample cs ws m → f (kind (ahead ws j)) ≡ false
  example_first f no_example no_input no_output cs ws m j b = ap (λ (vs : List Word). f (kind (ahead vs j))) b.words
      ∙ from_example f no_example no_input no_output ds cs b.front b.rest b.value m j b.is_first b.is_then

  assumes_first : (f : Kind → Bool) → f k.Assume ≡ false → f k.Example ≡ false → f k.Input ≡ false → f k.Output ≡ false
      → (ws : List Word) (m : Module) (j : Input) → FromAssumes ws m → f (kind (ahead ws j)) ≡ false
  assumes_first f no_assume no_example no_input no_output ws m j b =
      ap (λ (l : Input). f (kind l)) (ap (λ (vs : List Word). ahead vs j) b.words ∙ sym (ahead_append b.front b.rest j))
      ∙ repeated_first k.Assume with_all (λ _. IsAssume ds) f no_assume most_lines [] b.front b.value (ahead b.rest j) b.is_first
      (example_first f no_example no_input no_output b.value b.rest m j b.is_then)

-- a module of this version
pub lawful_source : (version : ℕ) → Lawful (source version) (IsSource version) (on k.Output)
unfolding source same_kind
lawful_source version =
    lawful_both (header version) _ (IsHeader version) _ never (on k.Output) (lawful_header version) (λ _.
    lawful_both sizes _ AreSizes _ (on k.Size) (on k.Output)
    (lines k.Size with_last size_line IsSizeLine (λ (z : k.Size ≡ k.End). cc) lawful_size_line most_lines []) (λ ds.
    lawful_both (assumes ds) _ (AreAssumes ds) _ (on k.Assume) (on k.Output)
    (lines k.Assume with_all (λ _. assume ds) (λ _. IsAssume ds) (λ (z : k.Assume ≡ k.End). cc) (λ _. lawful_assume ds) most_lines []) (λ cs.
    lawful_both (example ds) _ (IsExample ds) _ never (on k.Output) (lawful_example ds) (λ ns.
    lawful_both (inputs ds) _ (AreInputs ds) _ (on k.Input) (on k.Output)
    (lines k.Input with_last (input_line ds) (IsInputLine ds) (λ (z : k.Input ≡ k.End). cc) (lawful_input_line ds) most_lines []) (λ is.
    lawful_both (outputs version ds is) _ (AreOutputs version ds is) _ (on k.Output) (on k.Output) (lawful_outputs version ds is)
    (λ os. lawful_pure _ (on k.Output)) (λ os ws m j n e. nothing_frees (module_of version ds cs ns is os) (on k.Output) ws m j n e))
    (λ is ws m j b e. outputs_first version ds (on k.Input) refl cs ns is ws m j b))
    (λ ns ws m j b e. refl))
    (λ cs ws m j b e. example_first version ds (on k.Assume) refl refl refl cs ws m j b))
    (λ ds ws m j b e. assumes_first version ds (on k.Size) refl refl refl refl ws m j b))
    (λ u ws m j b e. refl)
