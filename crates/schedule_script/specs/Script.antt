-- Scripts: how they are read, and their grammar.
use Rattle.std.specs.Prelude.{◌≡◌, ◌⊎◌, ℕ, ◌≢◌, if◌then◌else◌, false, List, [], Result, Ok, Err}
use Rattle.std.specs.Str.{IsUtf8, is_utf8}
use Rattle.std.specs.Str.Lossy.{utf8_valid_len}
use Rattle.text_tokens.specs.declared.kind.Kind.TheVariants as k
use Rattle.text_tokens.specs.declared.kind.Language.TheVariants as language
use Rattle.text_tokens.specs.Kinds.{Text}
use Rattle.text_tokens.specs.Words.{Word, words_of}
use Rattle.linear_cert.specs.declared.lines.FinalLine.{FinalLine}
use Rattle.reader_laws.specs.declared.fault.Fault.{Fault}
use Rattle.reader_laws.specs.declared.fault.ReadError.{ReadError}
use Rattle.reader_laws.specs.declared.fault.ReadError.TheVariants as early
use Rattle.reader_laws.specs.Steps.{Parser, ◌>>=◌, pure, a_word, no_value, read_whole}
use Rattle.reader_laws.specs.Chain.{repeated}
use Rattle.reader_laws.specs.Grammar.{IsWordOf, IsNothing, Both, IsRepeated, IsRefusedAt}
use Rattle.schedule_script.specs.declared.fault.ScriptFault.{ScriptFault}
use Rattle.schedule_script.specs.declared.fault.ScriptFault.TheVariants.{ScriptSyntax, Memory}
use Rattle.schedule_script.specs.declared.tree.Step.{Step}
use Rattle.schedule_script.specs.declared.tree.Script.{Script}
use Rattle.schedule_script.specs.Words.{version_one, most_steps, most_items, with_last}
use Rattle.schedule_script.specs.Steps.{step, IsStep, final_line, IsFinalLine}

-- `schedule 1 ;`
unfoldable pub header : Parser (Unit {0})
header = a_word k.Schedule no_value >>= λ _. (a_word k.Number version_one >>= λ _. a_word k.Semi no_value)

abbrev pub IsHeader : List Word → Unit {0} → Type 0
IsHeader = Both (IsWordOf k.Schedule no_value) (λ _. Both (IsWordOf k.Number version_one) (λ _. IsWordOf k.Semi no_value))

-- the steps, each after `at`
abbrev pub steps : Parser (List Step)
steps = repeated k.At with_last (λ _. step) most_steps []

abbrev pub AreSteps : List Word → List Step → Type 0
AreSteps = IsRepeated k.At with_last (λ _. IsStep) most_steps []

-- the final lines, each after `goal`
abbrev pub final_lines : Parser (List FinalLine)
final_lines = repeated k.Goal with_last (λ _. final_line) most_items []

abbrev pub AreFinalLines : List Word → List FinalLine → Type 0
AreFinalLines = IsRepeated k.Goal with_last (λ _. IsFinalLine) most_items []

-- no section of parallel loops is read
unfoldable pub script : Parser Script
script = header >>= λ _. (steps >>= λ ss. (final_lines >>= λ fs. pure (record { steps = ss; finals = fs; parallel = [] })))

-- the words of a script, and the script
abbrev pub IsScript : List Word → Script → Type 0
IsScript = Both IsHeader (λ _. Both AreSteps (λ ss. Both AreFinalLines (λ fs. IsNothing (record { steps = ss; finals = fs; parallel = [] }))))

-- the bytes are the text of this script
abbrev pub ScriptText : Text → Script → Type 0
ScriptText z s = IsUtf8 z × IsScript (words_of language.Script z) s

-- ---- what reading answers

-- each fault is that no script goes on with its word
abbrev pub answered : Result Script ReadError → Result Script ScriptFault
answered (Ok s) = Ok s
answered (Err early.Memory) = Err Memory
answered (Err (early.Refused fault place)) = Err (ScriptSyntax place)

unfoldable pub read_text : Text → Result Script ScriptFault
read_text z = answered (read_whole language.Script script z)

-- the script of the bytes, or the first place at which they are none; what is no UTF-8 is refused before all else
unfoldable pub read_bytes : Text → Result Script ScriptFault
read_bytes z = if is_utf8 z then read_text z else Err (ScriptSyntax (utf8_valid_len z))

-- an answer, which is this one unless memory fails
abbrev pub Answers : Result Script ScriptFault → Result Script ScriptFault → Type 0
Answers (Ok s) outcome = outcome ≡ Ok s
Answers (Err fault) outcome = fault ≢ Memory → outcome ≡ Err fault

-- the words as far as the one that stands here are the beginning of no script
abbrev pub LeavesGrammar : Text → ℕ → Type 0
LeavesGrammar z place = (fault : Fault) × IsRefusedAt language.Script IsScript z fault place

-- the cause of a refusal: the longest front that is UTF-8 ends here, or all is UTF-8 and the words leave the grammar here; want of memory has none
abbrev pub IsRefusedText : Text → ScriptFault → Type 0
IsRefusedText z (ScriptSyntax place) = ((is_utf8 z ≡ false) × (place ≡ utf8_valid_len z)) ⊎ (IsUtf8 z × LeavesGrammar z place)
IsRefusedText z Memory = Unit {0}
