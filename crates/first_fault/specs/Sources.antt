-- The grammar of sources whose terms have so many levels, and that faults of whole sources are first.
use Rattle.std.specs.Prelude.{ℕ, Bool, true, false, ◌==◌, List, [], ◌∷◌, ◌++◌}
use Rattle.text_tokens.specs.declared.kind.Kind.TheVariants as k
use Rattle.text_tokens.specs.Words.{Word}
use Rattle.term_tree.specs.declared.term.SizeDecl.{SizeDecl}
use Rattle.term_tree.specs.declared.term.InputDecl.{InputDecl}
use Rattle.term_tree.specs.declared.term.OutputDecl.{OutputDecl}
use Rattle.term_tree.specs.declared.term.Module.{Module}
use Rattle.reader_laws.specs.Steps.{no_value}
use Rattle.reader_laws.specs.Grammar.{IsWordOf, IsNothing, Both, IsRepeated}
use Rattle.source_grammar.specs.Conditions.{with_last}
use Rattle.source_grammar.specs.Terms.{Whole, IsTerm}
use Rattle.source_grammar.specs.Source.{new_name, size_names, input_names, output_names, declared, most_lines, module_of, language}
use Rattle.source_grammar.specs.Source.{IsHeader, AreSizes, AreAssumes, IsExample, AreInputs, IsSource}
use Rattle.source_grammar.specs.ReadSource.{source}
use Rattle.first_fault.specs.First.{FaultsAreFirst}

module _ (levels : ℕ) where
  abbrev pub IsOutputLine : List SizeDecl → List InputDecl → List OutputDecl → List Word → OutputDecl → Type 0
  IsOutputLine sizes inputs outputs =
      Both (IsWordOf k.Name (new_name (size_names sizes ++ (input_names inputs ++ output_names outputs))))
      (λ name. Both (IsWordOf k.Assign no_value) (λ _. Both (IsTerm levels Whole (declared sizes inputs)) (λ t.
      Both (IsWordOf k.Semi no_value) (λ _. IsNothing (record { name = name; term = t })))))

  abbrev pub AreMoreOutputs : Bool → List SizeDecl → List InputDecl → List OutputDecl → List Word → List OutputDecl → Type 0
  AreMoreOutputs true sizes inputs ds = IsNothing ds
  AreMoreOutputs false sizes inputs ds = IsRepeated k.Output with_last (IsOutputLine sizes inputs) most_lines ds

  abbrev pub AreOutputs : ℕ → List SizeDecl → List InputDecl → List Word → List OutputDecl → Type 0
  AreOutputs version sizes inputs = Both (IsWordOf k.Output no_value)
      (λ _. Both (IsOutputLine sizes inputs []) (λ d. AreMoreOutputs (version == 1) sizes inputs (d ∷ [])))

  -- a source of this version; with 1,000 levels it is the source that is read
  abbrev pub IsSourceOf : ℕ → List Word → Module → Type 0
  IsSourceOf version =
      Both (IsHeader version)
      (λ _. Both AreSizes
      (λ ds. Both (AreAssumes ds)
      (λ cs. Both (IsExample ds) (λ ns. Both (AreInputs ds) (λ is. Both (AreOutputs version ds is) (λ os. IsNothing (module_of version ds cs ns is os)))))))

-- of whole sources, with one level more than the 1,000 that may be read
abbrev pub SourceFaultsAreFirst : Type 0
SourceFaultsAreFirst = (version : ℕ) → FaultsAreFirst (language version) (source version) (IsSourceOf 1001 version)

-- with 1,000 levels these are the sources
abbrev pub ThousandLevelsAreTheSources : Type 0
ThousandLevelsAreTheSources = (version : ℕ) (ws : List Word) (m : Module) → (IsSourceOf 1000 version ws m → IsSource version ws m)
    × (IsSource version ws m → IsSourceOf 1000 version ws m)
