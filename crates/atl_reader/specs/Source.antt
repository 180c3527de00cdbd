-- What reading a source text answers, and the cause of each refusal.
use Rattle.std.specs.Prelude.{◌≡◌, ◌≢◌, ◌⊎◌, ◌<◌, ◌+◌, ◌-◌, ◌^◌, ◌&&◌, ℕ, zero, suc, false, if◌then◌else◌, min, nat_lt, List, [], ◌∷◌, length}
use Rattle.std.specs.Prelude.{Option, Some}
use Rattle.std.specs.Prelude.{None, Result, Ok, Err, codes}
use Rattle.std.specs.Str.{IsUtf8, bytes_eq, is_utf8}
use Rattle.std.specs.Str.Lossy.{utf8_valid_len}
use Rattle.text_tokens.specs.declared.kind.Kind.TheVariants as k
use Rattle.text_tokens.specs.declared.kind.Language.TheVariants.{SourceOne}
use Rattle.text_tokens.specs.Kinds.{Text, same_kind}
use Rattle.text_tokens.specs.Words.{Input, Word, input, next, peek, words_of}
use Rattle.term_tree.specs.Counts.{node_depth}
use Rattle.term_tree.specs.declared.term.OutputDecl.{OutputDecl}
use Rattle.term_tree.specs.declared.term.Module.{Module}
use Rattle.reader_laws.specs.declared.fault.Fault.{Fault}
use Rattle.reader_laws.specs.declared.fault.Fault.TheVariants as f
use Rattle.reader_laws.specs.declared.fault.ReadError.{ReadError}
use Rattle.reader_laws.specs.declared.fault.ReadError.TheVariants as early
use Rattle.reader_laws.specs.Steps.{kind, read_whole, text}
use Rattle.reader_laws.specs.Grammar.{IsRefusedAt}
use Rattle.source_grammar.specs.ReadSource.{source}
use Rattle.source_grammar.specs.Source.{IsSource, language, nodes}
use Rattle.first_fault.specs.First.{IsFirst}
use Rattle.first_fault.specs.Sources.{IsSourceOf}
use Rattle.atl_reader.specs.declared.fault.ReadFault.{ReadFault}
use Rattle.atl_reader.specs.declared.fault.ReadFault.TheVariants.{NotUtf8, BadToken, BadSyntax, TooDeep, UnknownName, NameTwice, ReservedName}
use Rattle.atl_reader.specs.declared.fault.ReadFault.TheVariants.{NumberTooLarge, NotAffine, CoefficientTooLarge, IndexTooLong, TooManyNodes, Memory}

-- ---- the version

-- a text of version 2 begins with `atl 2`
unfoldable pub version_at : Input → ℕ
version_at i = if same_kind (kind i) k.Atl && same_kind (kind (next i)) k.Number && bytes_eq (text (next i)) (codes "2") then 2 else 1

abbrev pub version_of : Text → ℕ
version_of z = version_at (input SourceOne z)

-- ---- faults

abbrev pub fault_at : Fault → ℕ → ReadFault
fault_at f.BadToken at = BadToken at
fault_at f.TooDeep at = TooDeep at
fault_at f.BadSyntax at = BadSyntax at
fault_at f.NumberTooLarge at = NumberTooLarge at
fault_at f.ReservedName at = ReservedName at
fault_at f.NameTwice at = NameTwice at
fault_at f.UnknownName at = UnknownName at
fault_at f.NotAffine at = NotAffine at
fault_at f.CoefficientTooLarge at = CoefficientTooLarge at
fault_at f.IndexTooLong at = IndexTooLong at

abbrev pub fault_of : ReadError → ReadFault
fault_of early.Memory = Memory
fault_of (early.Refused fault at) = fault_at fault at

-- ---- the limits of whole terms

-- the number of the first output whose term is too deep, where the first has this number
abbrev pub deep_from : ℕ → List OutputDecl → Option ℕ
deep_from at [] = None
deep_from at (d ∷ ds) = if nat_lt 200 (node_depth d.term) then Some at else deep_from (at + 1) ds

-- what stands two words on
abbrev pub behind : Input → ℕ
behind i = (peek (next (next i))).place

-- where the term of the output with this number begins, among these words of a text of this length: behind `output NAME =`
abbrev pub term_place_in : ℕ → List Word → ℕ → ℕ
term_place_in end [] n = end
term_place_in end (w ∷ ws) zero = if same_kind w.kind k.Output then behind (record { words = ws; end = end }) else term_place_in end ws zero
term_place_in end (w ∷ ws) (suc n) = if same_kind w.kind k.Output then term_place_in end ws n else term_place_in end ws (suc n)

abbrev pub term_place : ℕ → Input → ℕ
term_place n i = term_place_in i.end i.words n

abbrev pub within : Option ℕ → ℕ → Text → Module → Result Module ReadFault
within (Some n) version z m = Err (TooDeep (term_place n (input (language version) z)))
within None version z m = if nat_lt 20000 (nodes m.outputs) then Err (TooManyNodes (min (nodes m.outputs) (2 ^ 64 - 1))) else Ok m

-- ---- what is answered

-- a module that was read, where its terms are within the limits
abbrev pub checked : ℕ → Text → Result Module ReadError → Result Module ReadFault
checked version z (Ok m) = within (deep_from 0 m.outputs) version z m
checked version z (Err e) = Err (fault_of e)

unfoldable pub read_text : ℕ → Text → Result Module ReadFault
read_text version z = checked version z (read_whole (language version) (source version) z)

-- the module of the bytes, or the first fault at its place
unfoldable pub read_source : Text → Result Module ReadFault
read_source z = if is_utf8 z then read_text (version_of z) z else Err (NotUtf8 (utf8_valid_len z))

-- an answer, which is this one unless memory fails
abbrev pub Answers : Result Module ReadFault → Result Module ReadFault → Type 0
Answers (Ok m) outcome = outcome ≡ Ok m
Answers (Err fault) outcome = fault ≢ Memory → outcome ≡ Err fault

-- ---- causes

-- the words are those of this module, but the term of an output is too deep, and of the first such output it begins here
pub record IsDeep (z : Text) (at : ℕ) : Type 0 where
  pub found : Module
  pub words : IsSource (version_of z) (words_of (language (version_of z)) z) found
  pub output : ℕ
  pub deep : deep_from 0 found.outputs ≡ Some output
  pub place : at ≡ term_place output (input (language (version_of z)) z)

-- the words are those of this module, and no term is too deep, but together they have so many nodes, which are too many
pub record IsLarge (z : Text) (count : ℕ) : Type 0 where
  pub found : Module
  pub words : IsSource (version_of z) (words_of (language (version_of z)) z) found
  pub shallow : deep_from 0 found.outputs ≡ None
  pub large : 20000 < nodes found.outputs
  pub count_is : count ≡ min (nodes found.outputs) (2 ^ 64 - 1)

-- the words as far as the one that decides are the beginning of no source of the version that the text names
abbrev pub IsFaulty : Text → Fault → ℕ → Type 0
IsFaulty z fault at = IsRefusedAt (language (version_of z)) (IsSource (version_of z)) z fault at

-- the cause of a refusal; want of memory has none
abbrev pub IsCause : Text → ReadFault → Type 0
IsCause z (NotUtf8 at) = (is_utf8 z ≡ false) × (at ≡ utf8_valid_len z)
IsCause z (BadToken at) = IsUtf8 z × IsFaulty z f.BadToken at
IsCause z (BadSyntax at) = IsUtf8 z × IsFaulty z f.BadSyntax at
IsCause z (TooDeep at) = IsUtf8 z × (IsFaulty z f.TooDeep at ⊎ IsDeep z at)
IsCause z (UnknownName at) = IsUtf8 z × IsFaulty z f.UnknownName at
IsCause z (NameTwice at) = IsUtf8 z × IsFaulty z f.NameTwice at
IsCause z (ReservedName at) = IsUtf8 z × IsFaulty z f.ReservedName at
IsCause z (NumberTooLarge at) = IsUtf8 z × IsFaulty z f.NumberTooLarge at
IsCause z (NotAffine at) = IsUtf8 z × IsFaulty z f.NotAffine at
IsCause z (CoefficientTooLarge at) = IsUtf8 z × IsFaulty z f.CoefficientTooLarge at
IsCause z (IndexTooLong at) = IsUtf8 z × IsFaulty z f.IndexTooLong at
IsCause z (TooManyNodes count) = IsUtf8 z × IsLarge z count
IsCause z Memory = Unit {0}

-- the words before this place are the beginning of a source of the version that the text names, whose terms may have one level more than are read
abbrev pub BeginsASource : Text → ℕ → Type 0
BeginsASource z at = IsFirst (language (version_of z)) (IsSourceOf 1001 (version_of z)) z at

-- a fault of a word or an operator is the first one
abbrev pub IsFirstFault : Text → ReadFault → Type 0
IsFirstFault z (BadToken at) = BeginsASource z at
IsFirstFault z (BadSyntax at) = BeginsASource z at
IsFirstFault z (TooDeep at) = BeginsASource z at ⊎ IsDeep z at
IsFirstFault z (UnknownName at) = BeginsASource z at
IsFirstFault z (NameTwice at) = BeginsASource z at
IsFirstFault z (ReservedName at) = BeginsASource z at
IsFirstFault z (NumberTooLarge at) = BeginsASource z at
IsFirstFault z (NotAffine at) = BeginsASource z at
IsFirstFault z (CoefficientTooLarge at) = BeginsASource z at
IsFirstFault z (IndexTooLong at) = BeginsASource z at
IsFirstFault z _ = Unit {0}

-- how much is declared
abbrev pub declarations : Module → ℕ
declarations m = length m.sizes + length m.inputs + length m.outputs
