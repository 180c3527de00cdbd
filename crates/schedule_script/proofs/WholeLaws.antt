-- Bytes: what is read is in the grammar, the other way round, and where a refusal stands.
use Rattle.std.proofs.Common.{◌≡◌, inl, inr, Bool, true, false, List, Result, Ok, Err, refl, sym, ap, subst, ◌∙◌}
use Rattle.std.specs.Prelude.{IfOk, IfErr, ◌≢◌}
use Rattle.std.specs.Str.{IsUtf8, is_utf8}
use Rattle.std.specs.Str.Lossy.{utf8_valid_len}
use Rattle.std.proofs.lemmas.Str.{IsUtf8-from_is_utf8, is_utf8-from_IsUtf8}
use Rattle.text_tokens.specs.declared.kind.Language.TheVariants as language
use Rattle.text_tokens.specs.Kinds.{Text}
use Rattle.text_tokens.specs.Words.{Word, words_of}
use Rattle.schedule_script.specs.declared.tree.Script.{Script}
use Rattle.reader_laws.specs.declared.fault.Fault.{Fault}
use Rattle.reader_laws.specs.declared.fault.ReadError.{ReadError}
use Rattle.reader_laws.specs.declared.fault.ReadError.TheVariants as early
use Rattle.reader_laws.specs.Steps.{read_whole}
use Rattle.reader_laws.specs.Grammar.{IsRefusedAt}
use Rattle.reader_laws.proofs.Whole.{whole_read, whole_found, whole_refused}
use Rattle.schedule_script.specs.declared.fault.ScriptFault.{ScriptFault}
use Rattle.schedule_script.specs.declared.fault.ScriptFault.TheVariants.{ScriptSyntax, Memory}
use Rattle.schedule_script.specs.Script.{script, IsScript, ScriptText, answered, read_text, read_bytes, Answers, IsRefusedText}
use Rattle.schedule_script.proofs.ScriptLaws.{script_goes_on, ends, lawful_script}
use Rattle.schedule_script.proofs.Bytes.{by_cases}

abbrev answer : Script → Result Script ScriptFault
answer m = Ok m

same_answer : (m n : Script) → answer m ≡ answer n → m ≡ n
same_answer m n h = cc

abbrev fault : ScriptFault → Result Script ScriptFault
fault e = Err e

same_fault : (e f : ScriptFault) → fault e ≡ fault f → e ≡ f
same_fault e f h = cc

not_answer : (e : ScriptFault) (m : Script) → fault e ≡ answer m → ⊥
not_answer e m h = absurd cc

-- ---- texts

text_ok : (z : Text) (r : Result Script ReadError) (m : Script) → read_whole language.Script script z ≡ r → answered r ≡ Ok m
    → IsScript (words_of language.Script z) m
text_ok z (Ok n) m e h = whole_found language.Script script IsScript script_goes_on lawful_script ends z m (e ∙ ap (λ (x : Script). Ok x) (same_answer n m h))
text_ok z (Err early.Memory) m e h = absurd cc
text_ok z (Err (early.Refused f place)) m e h = absurd cc

text_found : (z : Text) (m : Script) → read_text z ≡ Ok m → IsScript (words_of language.Script z) m
unfolding read_text
text_found z m h = text_ok z (read_whole language.Script script z) m refl h

text_only : (z : Text) (m : Script) → IsScript (words_of language.Script z) m → read_text z ≡ Ok m
unfolding read_text
text_only z m is = ap answered (whole_read language.Script script IsScript script_goes_on lawful_script ends z m is)

-- the cause of an answer that is no script
abbrev IsCause : Text → ScriptFault → Type 0
IsCause z (ScriptSyntax place) = (f : Fault) × IsRefusedAt language.Script IsScript z f place
IsCause z Memory = ⊥

text_err : (z : Text) (r : Result Script ReadError) (e : ScriptFault) → read_whole language.Script script z ≡ r → answered r ≡ Err e → e ≢ Memory → IsCause z e
text_err z (Ok n) e is h not = absurd cc
text_err z (Err early.Memory) e is h not = absurd (not (sym (same_fault Memory e h)))
text_err z (Err (early.Refused f place)) e is h not =
    subst (IsCause z) (same_fault (ScriptSyntax place) e h)
    (f, whole_refused language.Script script IsScript script_goes_on lawful_script ends z (early.Refused f place) is)

text_refused : (z : Text) (e : ScriptFault) → read_text z ≡ Err e → e ≢ Memory → IsCause z e
unfolding read_text
text_refused z e h not = text_err z (read_whole language.Script script z) e refl h not

-- ---- bytes

no_script : (z : Text) (m : Script) → read_bytes z ≡ Ok m → is_utf8 z ≡ false → ⊥
no_script z m h e = absurd (not_answer (ScriptSyntax (utf8_valid_len z)) m (sym (by_cases z false e) ∙ h))

source_found : (z : Text) (m : Script) → read_bytes z ≡ Ok m → ScriptText z m
source_found z m h = go (is_utf8 z) refl
  where
    go : (b : Bool) → is_utf8 z ≡ b → ScriptText z m
    go true e = (IsUtf8-from_is_utf8 z e, text_found z m (sym (by_cases z true e) ∙ h))
    go false e = absurd (no_script z m h e)

pub source_only : (z : Text) (m : Script) → ScriptText z m → read_bytes z ≡ Ok m
source_only z m is = by_cases z true (is_utf8-from_IsUtf8 z is.0) ∙ text_only z m is.1

cause_leaves : (z : Text) (e : ScriptFault) → IsUtf8 z → IsCause z e → IsRefusedText z e
cause_leaves z (ScriptSyntax place) u is = inr (u, is)
cause_leaves z Memory u is = absurd is

source_refused : (z : Text) (e : ScriptFault) → read_bytes z ≡ Err e → e ≢ Memory → IsRefusedText z e
source_refused z e h not = go (is_utf8 z) refl
  where
    go : (b : Bool) → is_utf8 z ≡ b → IsRefusedText z e
    go true u = cause_leaves z e (IsUtf8-from_is_utf8 z u) (text_refused z e (sym (by_cases z true u) ∙ h) not)
    go false u = subst (IsRefusedText z) (same_fault (ScriptSyntax (utf8_valid_len z)) e (sym (by_cases z false u) ∙ h)) (inl (u, refl))

-- ---- answers

pub found : (z : Text) (r : Result Script ScriptFault) → Answers r (read_bytes z) → IfOk r (λ m. ScriptText z m)
found z (Ok m) h = source_found z m h
found z (Err e) h = tt

pub only : (z : Text) (r : Result Script ScriptFault) (m : Script) → Answers r (read_bytes z) → ScriptText z m → Answers r (Ok m)
only z r m h is = subst (λ (o : Result Script ScriptFault). Answers r o) (source_only z m is) h

pub refused : (z : Text) (r : Result Script ScriptFault) → Answers r (read_bytes z) → IfErr r (λ e. IsRefusedText z e)
refused z (Ok m) h = tt
refused z (Err Memory) h = tt
refused z (Err (ScriptSyntax n)) h =
    source_refused z (ScriptSyntax n) (h (λ (x : ScriptSyntax n ≡ Memory). cc)) (λ (x : ScriptSyntax n ≡ Memory). cc)

-- what holds of each script of the grammar holds of what is read
pub of_read : (P : Script → Type 0) (z : Text) (r : Result Script ScriptFault) → Answers r (read_bytes z)
    → ((ws : List Word) (m : Script) → IsScript ws m → P m) → IfOk r (λ m. P m)
of_read P z (Ok m) h each = each (words_of language.Script z) m (source_found z m h).1
of_read P z (Err e) h each = tt
