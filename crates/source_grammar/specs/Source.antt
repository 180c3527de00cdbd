-- The grammar of declarations and modules, and source texts.
use Rattle.std.specs.Prelude.{◌≡◌, ◌⊎◌, ℕ, ◌+◌, ◌^◌, ◌≤◌, Bool, true, false, ◌&&◌, ◌||◌, ◌==◌, if◌then◌else◌, nat_le, List, [], ◌∷◌, ◌++◌, map, Option, Some}
use Rattle.std.specs.Prelude.{None, Result, Ok, Err, codes}
use Rattle.std.specs.Char.{is_ascii_digit}
use Rattle.std.specs.List.{list_all}
use Rattle.std.specs.Str.{IsUtf8, bytes_eq}
use Rattle.text_tokens.specs.declared.kind.Kind.TheVariants as k
use Rattle.text_tokens.specs.declared.kind.Language.{Language}
use Rattle.text_tokens.specs.declared.kind.Language.TheVariants.{SourceOne, SourceTwo}
use Rattle.text_tokens.specs.Kinds.{Text}
use Rattle.text_tokens.specs.Numbers.{number}
use Rattle.text_tokens.specs.Words.{Word, words_of}
use Rattle.affine_index.specs.declared.aff.Aff.{Aff}
use Rattle.affine_index.specs.declared.cond.Cmp.{Cmp}
use Rattle.affine_index.specs.declared.cond.Cond.{Cond}
use Rattle.term_tree.specs.Counts.{node_count, node_depth}
use Rattle.term_tree.specs.declared.term.SizeDecl.{SizeDecl}
use Rattle.term_tree.specs.declared.term.InputDecl.{InputDecl}
use Rattle.term_tree.specs.declared.term.OutputDecl.{OutputDecl}
use Rattle.term_tree.specs.declared.term.Module.{Module}
use Rattle.reader_laws.specs.declared.fault.Fault.{Fault}
use Rattle.reader_laws.specs.declared.fault.Fault.TheVariants.{BadSyntax, NumberTooLarge, ReservedName, NameTwice}
use Rattle.reader_laws.specs.Steps.{no_value, place_from}
use Rattle.reader_laws.specs.Grammar.{IsWordOf, IsNothing, Both, IsRepeated}
use Rattle.source_grammar.specs.declared.sort.Sort.TheVariants.{OfSize, OfTensor}
use Rattle.source_grammar.specs.Scope.{Entry, Scope, extent_name}
use Rattle.source_grammar.specs.Index.{Sum, IsIndex}
use Rattle.source_grammar.specs.Conditions.{IsCondition, with_last}
use Rattle.source_grammar.specs.Terms.{Whole, IsTerm}

-- ---- single words

-- a version, which has one spelling
abbrev pub version_text : ℕ → Text
version_text n = if n == 1 then codes "1" else codes "2"

abbrev pub version_value : ℕ → Text → Result (Unit {0}) Fault
version_value n t = if bytes_eq t (version_text n) then Ok tt else Err BadSyntax

-- a local name of the printed text: `i` or `t`, and then ASCII digits only, at least one
abbrev pub is_reserved : Text → Bool
is_reserved [] = false
is_reserved (c ∷ []) = false
is_reserved (c ∷ d ∷ z) = (c == 105 || c == 116) && list_all is_ascii_digit (d ∷ z)

abbrev pub unless_found : Option ℕ → Text → Result Text Fault
unless_found None t = Ok t
unless_found (Some n) t = Err NameTwice

-- a name that is declared here: it is not reserved, and none of those declared before
abbrev pub new_name : List Text → Text → Result Text Fault
new_name names t = if is_reserved t then Err ReservedName else unless_found (place_from 0 t names) t

-- this very name
abbrev pub same_name : Text → Text → Result (Unit {0}) Fault
same_name wanted t = if bytes_eq t wanted then Ok tt else Err BadSyntax

abbrev pub bound_if : Option ℕ → Result ℕ Fault
bound_if None = Err NumberTooLarge
bound_if (Some n) = if nat_le n (2 ^ 40) then Ok n else Err NumberTooLarge

-- a bound of a size, or a number of the example
abbrev pub bound : Text → Result ℕ Fault
bound t = bound_if (number t)

-- ---- what is declared

abbrev pub size_names : List SizeDecl → List Text
size_names ds = map (λ d. d.name) ds

abbrev pub input_names : List InputDecl → List Text
input_names ds = map (λ d. d.name) ds

abbrev pub output_names : List OutputDecl → List Text
output_names ds = map (λ d. d.name) ds

abbrev pub entries : (Text → Entry) → List Text → Scope
entries f [] = []
entries f (t ∷ ts) = f t ∷ entries f ts

-- the declared names
abbrev pub declared : List SizeDecl → List InputDecl → Scope
declared sizes inputs = entries (λ t. record { name = t; sort = OfSize }) (size_names sizes) ++ entries (λ t. record { name = t; sort = OfTensor })
    (input_names inputs)

-- more lines than a text has
unfoldable pub most_lines : ℕ
most_lines = 2 ^ 63

-- ---- lines

abbrev pub IsHeader : ℕ → List Word → Unit {0} → Type 0
IsHeader version = Both (IsWordOf k.Atl no_value) (λ _. Both (IsWordOf k.Number (version_value version)) (λ _. IsWordOf k.Semi no_value))

abbrev pub IsSizeLine : List SizeDecl → List Word → SizeDecl → Type 0
IsSizeLine sizes =
    Both (IsWordOf k.Name (new_name (size_names sizes)))
    (λ name. Both (IsWordOf k.In no_value)
    (λ _. Both (IsWordOf k.Number bound) (λ low. Both (IsWordOf k.DotDot no_value) (λ _. Both (IsWordOf k.Number bound) (λ high.
    Both (IsWordOf k.Semi no_value) (λ _. IsNothing (record { name = name; low = low; high = high })))))))

abbrev pub AreSizes : List Word → List SizeDecl → Type 0
AreSizes = IsRepeated k.Size with_last IsSizeLine most_lines []

abbrev pub with_all : List Cmp → Cond → List Cmp
with_all cs c = cs ++ c.all

abbrev pub IsAssume : List SizeDecl → List Word → Cond → Type 0
IsAssume sizes = Both (IsCondition (extent_name (declared sizes [])) 1000) (λ c. Both (IsWordOf k.Semi no_value) (λ _. IsNothing c))

abbrev pub AreAssumes : List SizeDecl → List Word → List Cmp → Type 0
AreAssumes sizes = IsRepeated k.Assume with_all (λ _. IsAssume sizes) most_lines []

abbrev pub IsExampleOf : SizeDecl → List Word → ℕ → Type 0
IsExampleOf d = Both (IsWordOf k.Name (same_name d.name)) (λ _. Both (IsWordOf k.Assign no_value) (λ _. IsWordOf k.Number bound))

-- `, NAME = NUM` for each of these sizes, and `;`, after these numbers
abbrev pub AreMoreExamples : List SizeDecl → List ℕ → List Word → List ℕ → Type 0
AreMoreExamples [] numbers = Both (IsWordOf k.Semi no_value) (λ _. IsNothing numbers)
AreMoreExamples (d ∷ ds) numbers = Both (IsWordOf k.Comma no_value) (λ _. Both (IsExampleOf d) (λ n. AreMoreExamples ds (with_last numbers n)))

-- the example of these sizes, which is there exactly where a size is
abbrev pub IsExample : List SizeDecl → List Word → List ℕ → Type 0
IsExample [] = IsNothing []
IsExample (d ∷ ds) = Both (IsWordOf k.Example no_value) (λ _. Both (IsExampleOf d) (λ n. AreMoreExamples ds (n ∷ [])))

abbrev pub IsExtentOf : List SizeDecl → List Word → Aff → Type 0
IsExtentOf sizes = Both (IsIndex (extent_name (declared sizes [])) 999 Sum) (λ x. Both (IsWordOf k.RBracket no_value) (λ _. IsNothing x))

abbrev pub IsInputLine : List SizeDecl → List InputDecl → List Word → InputDecl → Type 0
IsInputLine sizes inputs =
    Both (IsWordOf k.Name (new_name (size_names sizes ++ input_names inputs)))
    (λ name. Both (IsRepeated k.LBracket with_last (λ _. IsExtentOf sizes) most_lines []) (λ es.
    Both (IsWordOf k.Semi no_value) (λ _. IsNothing (record { name = name; extents = es }))))

abbrev pub AreInputs : List SizeDecl → List Word → List InputDecl → Type 0
AreInputs sizes = IsRepeated k.Input with_last (IsInputLine sizes) most_lines []

abbrev pub IsOutputLine : List SizeDecl → List InputDecl → List OutputDecl → List Word → OutputDecl → Type 0
IsOutputLine sizes inputs outputs =
    Both (IsWordOf k.Name (new_name (size_names sizes ++ (input_names inputs ++ output_names outputs))))
    (λ name. Both (IsWordOf k.Assign no_value) (λ _. Both (IsTerm 1000 Whole (declared sizes inputs)) (λ t.
    Both (IsWordOf k.Semi no_value) (λ _. IsNothing (record { name = name; term = t })))))

-- the outputs after the first: none in version 1
abbrev pub AreMoreOutputs : Bool → List SizeDecl → List InputDecl → List OutputDecl → List Word → List OutputDecl → Type 0
AreMoreOutputs true sizes inputs ds = IsNothing ds
AreMoreOutputs false sizes inputs ds = IsRepeated k.Output with_last (IsOutputLine sizes inputs) most_lines ds

-- one output in version 1, and at least one in version 2
abbrev pub AreOutputs : ℕ → List SizeDecl → List InputDecl → List Word → List OutputDecl → Type 0
AreOutputs version sizes inputs = Both (IsWordOf k.Output no_value)
    (λ _. Both (IsOutputLine sizes inputs []) (λ d. AreMoreOutputs (version == 1) sizes inputs (d ∷ [])))

-- ---- the whole

abbrev pub module_of : ℕ → List SizeDecl → List Cmp → List ℕ → List InputDecl → List OutputDecl → Module
module_of version sizes assumes example inputs outputs = record
    { version = version; sizes = sizes; assumes = assumes; example = example; inputs = inputs; outputs = outputs }

abbrev pub IsSource : ℕ → List Word → Module → Type 0
IsSource version =
    Both (IsHeader version)
    (λ _. Both AreSizes
    (λ ds. Both (AreAssumes ds)
    (λ cs. Both (IsExample ds) (λ ns. Both (AreInputs ds) (λ is. Both (AreOutputs version ds is) (λ os. IsNothing (module_of version ds cs ns is os)))))))

-- no term is too deep
abbrev pub AreShallow : List OutputDecl → Type 0
AreShallow [] = Unit {0}
AreShallow (d ∷ ds) = (node_depth d.term ≤ 200) × AreShallow ds

-- the nodes of all terms
abbrev pub nodes : List OutputDecl → ℕ
nodes [] = 0
nodes (d ∷ ds) = node_count d.term + nodes ds

-- the keywords are those of the version
abbrev pub language : ℕ → Language
language version = if version == 1 then SourceOne else SourceTwo

-- the bytes are the text of a source, and this is its module
pub record SourceText (z : Text) (m : Module) : Type 0 where
  pub utf8 : IsUtf8 z
  pub version : (m.version ≡ 1) ⊎ (m.version ≡ 2)
  pub words : IsSource m.version (words_of (language m.version) z) m
  pub shallow : AreShallow m.outputs
  pub few : nodes m.outputs ≤ 20000
