use Rattle.std.proofs.Common.{◌≡◌, ◌∙◌, ◌++◌, Global, List, ℕ, IfErr, IfOk, length, map, take, drop, string_bytes, ap, sym}
use Rattle.std.specs.declared.string.String.{String}
use Rattle.std.proofs.lemmas.List.{length-map}
use Rattle.text_tokens.specs.Kinds.{Text}
use Rattle.term_tree.specs.declared.term.Module.{Module}
use Rattle.term_tree.specs.declared.term.SizeDecl.{SizeDecl}
use Rattle.source_grammar.specs.Source.{input_names, size_names}
use Rattle.given_text.specs.Answer.{Answers as Reads}
use Rattle.given_text.specs.Answer.{IsRefusedText, read_bytes}
use Rattle.given_text.specs.Given.{GivenText}
use Rattle.run_text.proofs.NamedLaws.{first-names, of-both, rest-names}
use Rattle.plain_run.proofs.read.read.Goals as goal

module _ (names all : List (String Global)) (n : ℕ) (m : Module) (many : n ≡ length m.sizes) (e : all ≡ names)
    (h : map string_bytes names ≡ size_names m.sizes ++ input_names m.inputs) where
  long : length (size_names m.sizes) ≡ n
  long = length-map m.sizes (λ (d : SizeDecl). d.name) ∙ sym many

  named : map string_bytes all ≡ size_names m.sizes ++ input_names m.inputs
  named = ap (λ (ns : List (String Global)). map string_bytes ns) e ∙ h

  of-names : (P : List Text → List Text → Type 0) → P (map string_bytes (take n all)) (map string_bytes (drop n all))
      → P (size_names m.sizes) (input_names m.inputs)
  of-names P is =
      of-both P (map string_bytes (take n all)) (size_names m.sizes) (map string_bytes (drop n all)) (input_names m.inputs)
      (first-names all n (size_names m.sizes) (input_names m.inputs) long named)
      (rest-names all n (size_names m.sizes) (input_names m.inputs) long named) is

pub returns-in-Ok-clause-exact : goal.returns-in-Ok-clause-exact
returns-in-Ok-clause-exact c =
    of-names c.in-Ok.names.items c.deref.result.now c.len.result c.args.module.now c.len.ensures c.deref.ensures.value c.in-Ok.ensures
    (λ (ss is : List Text). Reads c.read_given.result (read_bytes ss is c.args.text.now)) c.read_given.ensures.exact

pub returns-in-Ok-clause-found : goal.returns-in-Ok-clause-found
returns-in-Ok-clause-found c =
    of-names c.in-Ok.names.items c.deref.result.now c.len.result c.args.module.now c.len.ensures c.deref.ensures.value c.in-Ok.ensures
    (λ (ss is : List Text). IfOk c.read_given.result (λ given. GivenText ss is c.args.text.now given)) c.read_given.ensures.found

pub returns-in-Ok-clause-refused : goal.returns-in-Ok-clause-refused
returns-in-Ok-clause-refused c =
    of-names c.in-Ok.names.items c.deref.result.now c.len.result c.args.module.now c.len.ensures c.deref.ensures.value c.in-Ok.ensures
    (λ (ss is : List Text). IfErr c.read_given.result (λ fault. IsRefusedText ss is c.args.text.now fault)) c.read_given.ensures.refused
