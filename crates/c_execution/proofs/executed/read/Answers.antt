use Rattle.std.proofs.Common.{◌≡◌, ◌∙◌, ◌++◌, ◌≤◌, Global, List, ℕ, IfErr, IfOk, length, map, take, drop, string_bytes, ap}
use Rattle.std.specs.declared.string.String.{String}
use Rattle.std.proofs.lemmas.List.FromFn.{length-map-range_with_len}
use Rattle.text_tokens.specs.Kinds.{Text}
use Rattle.c_print.specs.Index.{size_name}
use Rattle.given_text.specs.Answer.{Answers as Reads}
use Rattle.given_text.specs.Answer.{IsRefusedText, read_bytes}
use Rattle.given_text.specs.Given.{GivenText}
use Rattle.run_text.proofs.NamedLaws.{enough-names, first-names, of-both, rest-names}
use Rattle.c_execution.specs.Names.{input_names, size_names}
use Rattle.c_execution.proofs.executed.read.Goals as goal

named : (names all : List (String Global)) (n m : ℕ) → all ≡ names → map string_bytes names ≡ size_names n ++ input_names m
    → map string_bytes all ≡ size_names n ++ input_names m
named names all n m e h = ap (λ (ns : List (String Global)). map string_bytes ns) e ∙ h

module _ (all : List (String Global)) (n m : ℕ) (e : map string_bytes all ≡ size_names n ++ input_names m) where
  long : length (size_names n) ≡ n
  long = length-map-range_with_len size_name 0 n

  enough : n ≤ length all
  enough = enough-names all n (size_names n) (input_names m) long e

  of-names : (P : List Text → List Text → Type 0) → P (map string_bytes (take n all)) (map string_bytes (drop n all)) → P (size_names n) (input_names m)
  of-names P h =
      of-both P (map string_bytes (take n all)) (size_names n) (map string_bytes (drop n all)) (input_names m)
      (first-names all n (size_names n) (input_names m) long e) (rest-names all n (size_names n) (input_names m) long e) h

pub read_given-requires-clause-sizes : goal.read_given-requires-clause-sizes
read_given-requires-clause-sizes c =
    let n = c.args.prog.now.sizes in
    let m = c.args.prog.now.inputs in
    enough c.deref.result.now n m (named c.in-Ok.names.items c.deref.result.now n m c.deref.ensures.value c.in-Ok.ensures)

pub returns-in-Ok-clause-exact : goal.returns-in-Ok-clause-exact
returns-in-Ok-clause-exact c =
    let n = c.args.prog.now.sizes in
    let m = c.args.prog.now.inputs in
    of-names c.deref.result.now n m (named c.in-Ok.names.items c.deref.result.now n m c.deref.ensures.value c.in-Ok.ensures)
    (λ (ss is : List Text). Reads c.read_given.result (read_bytes ss is c.args.text.now)) c.read_given.ensures.exact

pub returns-in-Ok-clause-found : goal.returns-in-Ok-clause-found
returns-in-Ok-clause-found c =
    let n = c.args.prog.now.sizes in
    let m = c.args.prog.now.inputs in
    of-names c.deref.result.now n m (named c.in-Ok.names.items c.deref.result.now n m c.deref.ensures.value c.in-Ok.ensures)
    (λ (ss is : List Text). IfOk c.read_given.result (λ given. GivenText ss is c.args.text.now given)) c.read_given.ensures.found

pub returns-in-Ok-clause-refused : goal.returns-in-Ok-clause-refused
returns-in-Ok-clause-refused c =
    let n = c.args.prog.now.sizes in
    let m = c.args.prog.now.inputs in
    of-names c.deref.result.now n m (named c.in-Ok.names.items c.deref.result.now n m c.deref.ensures.value c.in-Ok.ensures)
    (λ (ss is : List Text). IfErr c.read_given.result (λ fault. IsRefusedText ss is c.args.text.now fault)) c.read_given.ensures.refused
