-- Each fault of a word is the first one.
use Rattle.std.proofs.Common.{◌≡◌, inl, inr, ℕ, ◌-◌, ◌^◌, nat_lt, Bool, true, false, cond, Option, Some, None, Result, Ok, Err, refl, sym, subst, ◌∙◌}
use Rattle.std.specs.Prelude.{IfErr, min}
use Rattle.std.specs.Str.{is_utf8}
use Rattle.std.specs.Str.Lossy.{utf8_valid_len}
use Rattle.text_tokens.specs.Kinds.{Text}
use Rattle.text_tokens.specs.Words.{input, words_of}
use Rattle.term_tree.specs.declared.term.Module.{Module}
use Rattle.reader_laws.specs.declared.fault.Fault.{Fault}
use Rattle.reader_laws.specs.declared.fault.Fault.TheVariants as f
use Rattle.reader_laws.specs.declared.fault.ReadError.{ReadError}
use Rattle.reader_laws.specs.declared.fault.ReadError.TheVariants as early
use Rattle.reader_laws.specs.Steps.{read_whole}
use Rattle.source_grammar.specs.ReadSource.{source}
use Rattle.source_grammar.specs.Source.{IsSource, language, nodes}
use Rattle.source_grammar.proofs.ModuleLaws.{source_found}
use Rattle.first_fault.proofs.WholeBegins.{first_of_source}
use Rattle.atl_reader.specs.declared.fault.ReadFault.{ReadFault}
use Rattle.atl_reader.specs.declared.fault.ReadFault.TheVariants.{NotUtf8, BadToken, BadSyntax, TooDeep, UnknownName, NameTwice, ReservedName}
use Rattle.atl_reader.specs.declared.fault.ReadFault.TheVariants.{NumberTooLarge, NotAffine, CoefficientTooLarge, IndexTooLong, TooManyNodes, Memory}
use Rattle.atl_reader.specs.Source.{Answers, BeginsASource, IsFirstFault, checked, deep_from, fault_at, read_source, read_text, term_place}
use Rattle.atl_reader.specs.Source.{version_of, within}
use Rattle.atl_reader.proofs.Bytes.{by_cases}

abbrev fault : ReadFault → Result Module ReadFault
fault e = Err e

same_fault : (e g : ReadFault) → fault e ≡ fault g → e ≡ g
same_fault e g h = cc

placed : (z : Text) (e : Fault) (at : ℕ) → BeginsASource z at → IsFirstFault z (fault_at e at)
placed z f.BadToken at h = h
placed z f.TooDeep at h = inl h
placed z f.BadSyntax at h = h
placed z f.NumberTooLarge at h = h
placed z f.ReservedName at h = h
placed z f.NameTwice at h = h
placed z f.UnknownName at h = h
placed z f.NotAffine at h = h
placed z f.CoefficientTooLarge at h = h
placed z f.IndexTooLong at h = h

large : (z : Text) (m : Module) (e : ReadFault) (b : Bool) → cond b (fault (TooManyNodes (min (nodes m.outputs) (2 ^ 64 - 1)))) (Ok m) ≡ Err e
    → IsFirstFault z e
large z m e true h = subst (IsFirstFault z) (same_fault (TooManyNodes (min (nodes m.outputs) (2 ^ 64 - 1))) e h) tt
large z m e false h = absurd cc

limited : (z : Text) (m : Module) (e : ReadFault) (o : Option ℕ) → deep_from 0 m.outputs ≡ o
    → IsSource (version_of z) (words_of (language (version_of z)) z) m → within o (version_of z) z m ≡ Err e → IsFirstFault z e
limited z m e (Some n) is words h =
    subst (IsFirstFault z) (same_fault (TooDeep (term_place n (input (language (version_of z)) z))) e h)
    (inr (record { found = m; words = words; output = n; deep = is; place = refl }))
limited z m e None is words h = large z m e (nat_lt 20000 (nodes m.outputs)) h

text_first : (z : Text) (e : ReadFault) (r : Result Module ReadError) → read_whole (language (version_of z)) (source (version_of z)) z ≡ r
    → checked (version_of z) z r ≡ Err e → IsFirstFault z e
text_first z e (Ok m) is h = limited z m e (deep_from 0 m.outputs) refl (source_found (version_of z) z m is) h
text_first z e (Err early.Memory) is h = subst (IsFirstFault z) (same_fault Memory e h) tt
text_first z e (Err (early.Refused g at)) is h =
    subst (IsFirstFault z) (same_fault (fault_at g at) e h) (placed z g at (first_of_source (version_of z) z g at is))

read_first : (z : Text) (e : ReadFault) → read_text (version_of z) z ≡ Err e → IsFirstFault z e
unfolding read_text
read_first z e h = text_first z e (read_whole (language (version_of z)) (source (version_of z)) z) refl h

source_first : (z : Text) (e : ReadFault) → read_source z ≡ Err e → IsFirstFault z e
source_first z e h = go (is_utf8 z) refl
  where
    go : (b : Bool) → is_utf8 z ≡ b → IsFirstFault z e
    go true u = read_first z e (sym (by_cases z true u) ∙ h)
    go false u = subst (IsFirstFault z) (same_fault (NotUtf8 (utf8_valid_len z)) e (sym (by_cases z false u) ∙ h)) tt

pub first : (z : Text) (r : Result Module ReadFault) → Answers r (read_source z) → IfErr r (λ e. IsFirstFault z e)
first z (Ok m) h = tt
first z (Err Memory) h = tt
first z (Err (NotUtf8 n)) h = tt
first z (Err (TooManyNodes n)) h = tt
first z (Err (BadToken n)) h = source_first z (BadToken n) (h (λ (x : BadToken n ≡ Memory). cc))
first z (Err (BadSyntax n)) h = source_first z (BadSyntax n) (h (λ (x : BadSyntax n ≡ Memory). cc))
first z (Err (TooDeep n)) h = source_first z (TooDeep n) (h (λ (x : TooDeep n ≡ Memory). cc))
first z (Err (UnknownName n)) h = source_first z (UnknownName n) (h (λ (x : UnknownName n ≡ Memory). cc))
first z (Err (NameTwice n)) h = source_first z (NameTwice n) (h (λ (x : NameTwice n ≡ Memory). cc))
first z (Err (ReservedName n)) h = source_first z (ReservedName n) (h (λ (x : ReservedName n ≡ Memory). cc))
first z (Err (NumberTooLarge n)) h = source_first z (NumberTooLarge n) (h (λ (x : NumberTooLarge n ≡ Memory). cc))
first z (Err (NotAffine n)) h = source_first z (NotAffine n) (h (λ (x : NotAffine n ≡ Memory). cc))
first z (Err (CoefficientTooLarge n)) h = source_first z (CoefficientTooLarge n) (h (λ (x : CoefficientTooLarge n ≡ Memory). cc))
first z (Err (IndexTooLong n)) h = source_first z (IndexTooLong n) (h (λ (x : IndexTooLong n ≡ Memory). cc))
