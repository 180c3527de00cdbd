-- A version of a printable module is printable.
use Rattle.std.proofs.Common.{◌≡◌, ◌&&◌, ℕ, suc, ◌≤◌, ◌^◌, List, [], ◌∷◌, ◌++◌, length, get_or, true, sym, subst, arith}
use Rattle.std.specs.Prelude.{All}
use Rattle.std.proofs.lemmas.Bool.{and_parts}
use Rattle.affine_index.specs.Condition.{all_scoped}
use Rattle.term_tree.specs.Modules.{inputs_scoped, module_scoped, outputs_scoped}
use Rattle.term_tree.specs.Scope.{term_scoped}
use Rattle.term_tree.specs.declared.term.Module.{Module}
use Rattle.term_tree.specs.declared.term.OutputDecl.{OutputDecl}
use Rattle.text_tokens.specs.Kinds.{Text}
use Rattle.text_tokens.specs.Names.{AreNames}
use Rattle.source_grammar.specs.Source.{input_names, language, size_names}
use Rattle.schedule_run.specs.Versions.{IsVersion}
use Rattle.schedule_run.proofs.VersionLaws.{as_many}
use Rattle.atl_printer.specs.Printable.{HaveNoWordOf}
use Rattle.atl_printer.specs.PrintableModule.{AllNew, AreGoodOutputs, HasOutputs, IsPrintableModule}
use Rattle.atl_printer.proofs.Printing.{printable}
use Rattle.printable_versions.specs.Versions.{IsTold, IsToldModule, VersionsArePrintable}
use Rattle.printable_versions.proofs.StepWords.{without_words}

good_outputs : (sizes inputs : ℕ) (os : List OutputDecl) → outputs_scoped sizes inputs os ≡ true → All IsTold os → AreGoodOutputs sizes inputs os
good_outputs sizes inputs [] s h = tt
good_outputs sizes inputs (o ∷ os) s h =
    let parts = and_parts (term_scoped sizes o.term 0 inputs) (outputs_scoped sizes inputs os) s in
    let first : IsTold o = h 0 o (omega arith) in (
      printable sizes o.term 0 inputs parts.0 first.normal first.held,
      good_outputs sizes inputs os parts.1 (λ k d l. h (suc k) d (omega (arith, l))),
    )

-- as many outputs are as good
outputs_there : (version : ℕ) (os ns : List OutputDecl) → length ns ≡ length os → HasOutputs version os → HasOutputs version ns
outputs_there version [] ns e h = absurd h
outputs_there version (o ∷ os) [] e h = absurd (omega (arith, e))
outputs_there version (o ∷ os) (n ∷ []) e h = tt
outputs_there version (o ∷ []) (n ∷ (k ∷ ns)) e h = absurd (omega (arith, e))
outputs_there version (o ∷ (d ∷ os)) (n ∷ (k ∷ ns)) e h = h

module _ (m : Module) (p : IsPrintableModule m) (v : Module) (is : IsVersion m v) (told : IsToldModule v) where
  -- all but the outputs is as in the module
  abbrev changed : Module
  changed = record m { outputs = v.outputs }

  abbrev named : List Text → List Text
  named names = size_names m.sizes ++ (input_names m.inputs ++ names)

  scoped : outputs_scoped (length m.sizes) (length m.inputs) v.outputs ≡ true
  scoped =
      let whole : module_scoped changed ≡ true = subst (λ (x : Module). module_scoped x ≡ true) is.others is.runs.sound.scoped in
      let parts = and_parts (all_scoped (length m.sizes) 0 m.assumes)
      (inputs_scoped (length m.sizes) m.inputs && outputs_scoped (length m.sizes) (length m.inputs) v.outputs) whole in
      (and_parts (inputs_scoped (length m.sizes) m.inputs) (outputs_scoped (length m.sizes) (length m.inputs) v.outputs) parts.1).1

  few_outputs : length v.outputs ≤ 2 ^ 63
  few_outputs = subst (λ (n : ℕ). n ≤ 2 ^ 63) (sym (as_many m v is)) p.few_outputs

  changed_printable : (m.version ≡ 1 → HaveNoWordOf v.outputs) → IsPrintableModule changed
  changed_printable words = record {
    version = p.version;
    names = subst (λ names. AllNew [] (named names)) (sym is.names) p.names;
    are_names = subst (λ names. AreNames (language m.version) (named names)) (sym is.names) p.are_names;
    bounds = p.bounds;
    assumes = p.assumes;
    example = p.example;
    inputs = p.inputs;
    outputs = good_outputs (length m.sizes) (length m.inputs) v.outputs scoped told;
    words = words;
    has_outputs = outputs_there m.version m.outputs v.outputs (as_many m v is) p.has_outputs;
    shallow = is.shallow p.shallow;
    few = is.runs.few;
    few_sizes = p.few_sizes;
    few_assumes = p.few_assumes;
    few_inputs = p.few_inputs;
    few_outputs = few_outputs;
  }

  version_printable : (m.version ≡ 1 → HaveNoWordOf v.outputs) → IsPrintableModule v
  version_printable words = subst IsPrintableModule (sym is.others) (changed_printable words)

pub versions_printable : VersionsArePrintable
versions_printable m p steps vs e each told k d l =
    version_printable m p (get_or vs k d) (each k d l) (told k d l) (λ one. without_words m steps vs (p.words one) e k d l)
