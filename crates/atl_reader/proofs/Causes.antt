-- Each refusal has its cause.
use Rattle.std.proofs.Common.{◌≡◌, inl, inr, ℕ, ◌<◌, ◌-◌, ◌^◌, nat_lt, Bool, true, false, cond, Option, Some, None, Result, Ok, Err, refl, sym}
use Rattle.std.proofs.Common.{subst, ◌∙◌, arith}
use Rattle.std.specs.Prelude.{IfErr, ◌≢◌, min}
use Rattle.std.specs.Str.{IsUtf8, is_utf8}
use Rattle.std.specs.Str.Lossy.{utf8_valid_len}
use Rattle.std.proofs.lemmas.Str.{IsUtf8-from_is_utf8}
use Rattle.text_tokens.specs.Kinds.{Text}
use Rattle.text_tokens.specs.Words.{input, words_of}
use Rattle.term_tree.specs.declared.term.Module.{Module}
use Rattle.reader_laws.specs.declared.fault.Fault.{Fault}
use Rattle.reader_laws.specs.declared.fault.Fault.TheVariants as f
use Rattle.reader_laws.specs.declared.fault.ReadError.{ReadError}
use Rattle.reader_laws.specs.declared.fault.ReadError.TheVariants as early
use Rattle.reader_laws.specs.Steps.{read_whole}
use Rattle.source_grammar.specs.ReadSource.{source}
use Rattle.source_grammar.specs.Source.{IsSource, language, nodes}
use Rattle.source_grammar.proofs.ModuleLaws.{source_found, source_refused}
use Rattle.atl_reader.specs.declared.fault.ReadFault.{ReadFault}
use Rattle.atl_reader.specs.declared.fault.ReadFault.TheVariants.{NotUtf8, BadToken, BadSyntax, TooDeep, UnknownName, NameTwice, ReservedName}
use Rattle.atl_reader.specs.declared.fault.ReadFault.TheVariants.{NumberTooLarge, NotAffine, CoefficientTooLarge, IndexTooLong, TooManyNodes, Memory}
use Rattle.atl_reader.specs.Source.{Answers, IsCause, IsFaulty, checked, deep_from, fault_at, read_source, read_text, term_place}
use Rattle.atl_reader.specs.Source.{version_of, within}
use Rattle.atl_reader.proofs.Bytes.{by_cases}

abbrev fault : ReadFault → Result Module ReadFault
fault e = Err e

same_fault : (e g : ReadFault) → fault e ≡ fault g → e ≡ g
same_fault e g h = cc

placed : (z : Text) (e : Fault) (at : ℕ) → IsUtf8 z → IsFaulty z e at → IsCause z (fault_at e at)
placed z f.BadToken at u h = (u, h)
placed z f.TooDeep at u h = (u, inl h)
placed z f.BadSyntax at u h = (u, h)
placed z f.NumberTooLarge at u h = (u, h)
placed z f.ReservedName at u h = (u, h)
placed z f.NameTwice at u h = (u, h)
placed z f.UnknownName at u h = (u, h)
placed z f.NotAffine at u h = (u, h)
placed z f.CoefficientTooLarge at u h = (u, h)
placed z f.IndexTooLong at u h = (u, h)

over : (n : ℕ) → nat_lt 20000 n ≡ true → 20000 < n
over n h = grind arith

large : (z : Text) (m : Module) (e : ReadFault) (b : Bool) → nat_lt 20000 (nodes m.outputs) ≡ b → IsUtf8 z
    → IsSource (version_of z) (words_of (language (version_of z)) z) m → deep_from 0 m.outputs ≡ None
    → cond b (fault (TooManyNodes (min (nodes m.outputs) (2 ^ 64 - 1)))) (Ok m) ≡ Err e → IsCause z e
large z m e true is u words s h =
    subst (IsCause z) (same_fault (TooManyNodes (min (nodes m.outputs) (2 ^ 64 - 1))) e h)
    (u, record { found = m; words = words; shallow = s; large = over (nodes m.outputs) is; count_is = refl })
large z m e false is u words s h = absurd cc

limited : (z : Text) (m : Module) (e : ReadFault) (o : Option ℕ) → deep_from 0 m.outputs ≡ o → IsUtf8 z
    → IsSource (version_of z) (words_of (language (version_of z)) z) m → within o (version_of z) z m ≡ Err e → IsCause z e
limited z m e (Some n) is u words h =
    subst (IsCause z) (same_fault (TooDeep (term_place n (input (language (version_of z)) z))) e h)
    (u, inr (record { found = m; words = words; output = n; deep = is; place = refl }))
limited z m e None is u words h = large z m e (nat_lt 20000 (nodes m.outputs)) refl u words is h

text_cause : (z : Text) (e : ReadFault) (r : Result Module ReadError) → IsUtf8 z → read_whole (language (version_of z)) (source (version_of z)) z ≡ r
    → checked (version_of z) z r ≡ Err e → e ≢ Memory → IsCause z e
text_cause z e (Ok m) u is h not = limited z m e (deep_from 0 m.outputs) refl u (source_found (version_of z) z m is) h
text_cause z e (Err early.Memory) u is h not = absurd (not (sym (same_fault Memory e h)))
text_cause z e (Err (early.Refused g at)) u is h not =
    subst (IsCause z) (same_fault (fault_at g at) e h) (placed z g at u (source_refused (version_of z) z (early.Refused g at) is))

read_cause : (z : Text) (e : ReadFault) → IsUtf8 z → read_text (version_of z) z ≡ Err e → e ≢ Memory → IsCause z e
unfolding read_text
read_cause z e u h not = text_cause z e (read_whole (language (version_of z)) (source (version_of z)) z) u refl h not

source_cause : (z : Text) (e : ReadFault) → read_source z ≡ Err e → e ≢ Memory → IsCause z e
source_cause z e h not = go (is_utf8 z) refl
  where
    go : (b : Bool) → is_utf8 z ≡ b → IsCause z e
    go true u = read_cause z e (IsUtf8-from_is_utf8 z u) (sym (by_cases z true u) ∙ h) not
    go false u = subst (IsCause z) (same_fault (NotUtf8 (utf8_valid_len z)) e (sym (by_cases z false u) ∙ h)) (u, refl)

pub refused : (z : Text) (r : Result Module ReadFault) → Answers r (read_source z) → IfErr r (λ e. IsCause z e)
refused z (Ok m) h = tt
refused z (Err Memory) h = tt
refused z (Err (NotUtf8 n)) h = source_cause z (NotUtf8 n) (h (λ (x : NotUtf8 n ≡ Memory). cc)) (λ (x : NotUtf8 n ≡ Memory). cc)
refused z (Err (BadToken n)) h = source_cause z (BadToken n) (h (λ (x : BadToken n ≡ Memory). cc)) (λ (x : BadToken n ≡ Memory). cc)
refused z (Err (BadSyntax n)) h = source_cause z (BadSyntax n) (h (λ (x : BadSyntax n ≡ Memory). cc)) (λ (x : BadSyntax n ≡ Memory). cc)
refused z (Err (TooDeep n)) h = source_cause z (TooDeep n) (h (λ (x : TooDeep n ≡ Memory). cc)) (λ (x : TooDeep n ≡ Memory). cc)
refused z (Err (UnknownName n)) h = source_cause z (UnknownName n) (h (λ (x : UnknownName n ≡ Memory). cc)) (λ (x : UnknownName n ≡ Memory). cc)
refused z (Err (NameTwice n)) h = source_cause z (NameTwice n) (h (λ (x : NameTwice n ≡ Memory). cc)) (λ (x : NameTwice n ≡ Memory). cc)
refused z (Err (ReservedName n)) h = source_cause z (ReservedName n) (h (λ (x : ReservedName n ≡ Memory). cc)) (λ (x : ReservedName n ≡ Memory). cc)
refused z (Err (NumberTooLarge n)) h = source_cause z (NumberTooLarge n) (h (λ (x : NumberTooLarge n ≡ Memory). cc)) (λ (x : NumberTooLarge n ≡ Memory). cc)
refused z (Err (NotAffine n)) h = source_cause z (NotAffine n) (h (λ (x : NotAffine n ≡ Memory). cc)) (λ (x : NotAffine n ≡ Memory). cc)
refused z (Err (CoefficientTooLarge n)) h = source_cause z (CoefficientTooLarge n) (h (λ (x : CoefficientTooLarge n ≡ Memory). cc))
    (λ (x : CoefficientTooLarge n ≡ Memory). cc)
refused z (Err (IndexTooLong n)) h = source_cause z (IndexTooLong n) (h (λ (x : IndexTooLong n ≡ Memory). cc)) (λ (x : IndexTooLong n ≡ Memory). cc)
refused z (Err (TooManyNodes n)) h = source_cause z (TooManyNodes n) (h (λ (x : TooManyNodes n ≡ Memory). cc)) (λ (x : TooManyNodes n ≡ Memory). cc)
