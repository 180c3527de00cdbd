-- Bytes: what is read is in the grammar, the other way round, and where a refusal stands.
use Rattle.std.proofs.Common.{◌≡◌, inl, inr, ℕ, Bool, true, false, cond, List, length, Result, Ok, Err, refl, sym, ap, subst, ◌∙◌}
use Rattle.std.specs.Prelude.{IfOk, IfErr, ◌≢◌}
use Rattle.std.specs.Str.{IsUtf8, is_utf8}
use Rattle.std.specs.Str.Lossy.{utf8_valid_len}
use Rattle.std.proofs.lemmas.Str.{IsUtf8-from_is_utf8, is_utf8-from_IsUtf8}
use Rattle.text_tokens.specs.declared.kind.Language.TheVariants as language
use Rattle.text_tokens.specs.declared.kind.Kind.TheVariants as k
use Rattle.text_tokens.specs.Kinds.{Text}
use Rattle.text_tokens.specs.Words.{Input, input, peek, next_word, words_of}
use Rattle.reader_laws.specs.declared.fault.Fault.{Fault}
use Rattle.reader_laws.specs.declared.fault.ReadError.{ReadError}
use Rattle.reader_laws.specs.declared.fault.ReadError.TheVariants as early
use Rattle.reader_laws.specs.Steps.{Outcome, value_of, to_end, read_whole}
use Rattle.reader_laws.specs.Grammar.{IsRefusedAt}
use Rattle.reader_laws.proofs.Lawful.{never}
use Rattle.reader_laws.proofs.Whole.{whole_read, whole_found, whole_refused}
use Rattle.loop_run.specs.declared.given.Given.{Given}
use Rattle.given_text.specs.declared.fault.GivenFault.{GivenFault}
use Rattle.given_text.specs.declared.fault.GivenFault.TheVariants.{BadData, Memory}
use Rattle.given_text.specs.Given.{IsGiven, GivenText}
use Rattle.given_text.specs.Reading.{given}
use Rattle.given_text.specs.Answer.{answered, Answers, read_text, read_bytes, LeavesUtf8, IsFirst, IsRefusedText, IsFirstFault}
use Rattle.given_text.proofs.GivenLaws.{lawful_given}
use Rattle.given_text.proofs.Begins.{cut_whole}
use Rattle.given_text.proofs.GivenBegins.{begins_given}

abbrev answer : Given → Result Given GivenFault
answer g = Ok g

same_answer : (g h : Given) → answer g ≡ answer h → g ≡ h
same_answer g h e = cc

abbrev fault : GivenFault → Result Given GivenFault
fault e = Err e

same_fault : (e f : GivenFault) → fault e ≡ fault f → e ≡ f
same_fault e f h = cc

not_answer : (e : GivenFault) (g : Given) → fault e ≡ answer g → ⊥
not_answer e g h = absurd cc

no_text : (z : Text) → ¬ (IsUtf8 z) → is_utf8 z ≡ false
no_text z bad = go (is_utf8 z) refl
  where
    go : (b : Bool) → is_utf8 z ≡ b → is_utf8 z ≡ false
    go true e = absurd (bad (IsUtf8-from_is_utf8 z e))
    go false e = e

-- the same names
pub same_names : (ss ts is js : List Text) (z : Text) (r : Result Given GivenFault) → ss ≡ ts → is ≡ js → Answers r (read_bytes ss is z)
    → Answers r (read_bytes ts js z)
same_names ss ts is js z r a b h = subst (λ (o : Result Given GivenFault). Answers r o) (λ i. read_bytes (a i) (b i) z) h

module _ (ss is : List Text) where
  by_cases : (z : Text) (b : Bool) → is_utf8 z ≡ b → read_bytes ss is z ≡ cond b (read_text ss is z) (Err (BadData (utf8_valid_len z)))
  unfolding read_bytes
  by_cases z b e = ap (λ (v : Bool). cond v (read_text ss is z) (Err (BadData (utf8_valid_len z)))) e

  -- bytes that are text
  pub text_answers : (z t : Text) (r : Result Given GivenFault) → (t ≡ z) × IsUtf8 z → Answers r (read_text ss is t) → Answers r (read_bytes ss is z)
  text_answers z t r e h = subst (λ (o : Result Given GivenFault). Answers r o) (ap (read_text ss is) e.0 ∙ sym (by_cases z true (is_utf8-from_IsUtf8 z e.1))) h

  -- bytes that are none
  pub no_text_answer : (z : Text) (n : ℕ) → ¬ (IsUtf8 z) → n ≡ utf8_valid_len z → read_bytes ss is z ≡ Err (BadData n)
  no_text_answer z n bad e = by_cases z false (no_text z bad) ∙ ap (λ (m : ℕ). Err (BadData m)) (sym e)

  -- ---- texts

  ends : never k.End ≡ false
  ends = refl

  text_ok : (z : Text) (r : Result Given ReadError) (g : Given) → read_whole language.Data (given ss is) z ≡ r → answered r ≡ Ok g
      → IsGiven ss is (words_of language.Data z) g
  text_ok z (Ok h) g e same = whole_found language.Data (given ss is) (IsGiven ss is) never (lawful_given ss is) ends z g
      (e ∙ ap (λ (x : Given). Ok x) (same_answer h g same))
  text_ok z (Err early.Memory) g e same = absurd cc
  text_ok z (Err (early.Refused f place)) g e same = absurd cc

  text_found : (z : Text) (g : Given) → read_text ss is z ≡ Ok g → IsGiven ss is (words_of language.Data z) g
  unfolding read_text
  text_found z g h = text_ok z (read_whole language.Data (given ss is) z) g refl h

  text_only : (z : Text) (g : Given) → IsGiven ss is (words_of language.Data z) g → read_text ss is z ≡ Ok g
  unfolding read_text
  text_only z g of = ap answered (whole_read language.Data (given ss is) (IsGiven ss is) never (lawful_given ss is) ends z g of)

  -- the cause of an answer that is no given text
  abbrev IsCause : Text → GivenFault → Type 0
  IsCause z (BadData place) = ((f : Fault) × IsRefusedAt language.Data (IsGiven ss is) z f place) × IsFirst ss is z place
  IsCause z Memory = ⊥

  -- the words before a refusal go on
  first_at : (z : Text) (f : Fault) (place : ℕ) → read_whole language.Data (given ss is) z ≡ Err (early.Refused f place) → IsFirst ss is z place
  unfolding read_whole peek
  first_at z f place h =
      let i = input language.Data z in
      let c = cut_whole (given ss is) (IsGiven ss is) (lawful_given ss is).sound (begins_given ss is) i f place
      (value_err (to_end (given ss is) i) (early.Refused f place) h) in
      let end_is : length z ≡ c.at.end = ap (λ (m : Input). m.end) c.words in
      record {
        front = c.front;
        rest = c.at.words;
        words = ap (λ (m : Input). m.words) c.words;
        stands = c.stands ∙ ap (λ (n : ℕ). (next_word n c.at.words).place) (sym end_is);
        more = c.goes.rest;
        value = c.goes.value;
        begins = c.goes.is;
      }
    where
      value_err : (r : Outcome Given) (x : ReadError) → value_of r ≡ Err x → r ≡ Err x
      value_err (Ok q) x h = absurd cc
      value_err (Err y) x h = cc

  text_err : (z : Text) (r : Result Given ReadError) (e : GivenFault) → read_whole language.Data (given ss is) z ≡ r → answered r ≡ Err e → e ≢ Memory
      → IsCause z e
  text_err z (Ok g) e same h not = absurd cc
  text_err z (Err early.Memory) e same h not = absurd (not (sym (same_fault Memory e h)))
  text_err z (Err (early.Refused f place)) e same h not =
      subst (IsCause z) (same_fault (BadData place) e h) (
        (f, whole_refused language.Data (given ss is) (IsGiven ss is) never (lawful_given ss is) ends z (early.Refused f place) same),
        first_at z f place same,
      )

  text_refused : (z : Text) (e : GivenFault) → read_text ss is z ≡ Err e → e ≢ Memory → IsCause z e
  unfolding read_text
  text_refused z e h not = text_err z (read_whole language.Data (given ss is) z) e refl h not

  -- ---- bytes

  no_given : (z : Text) (g : Given) → read_bytes ss is z ≡ Ok g → is_utf8 z ≡ false → ⊥
  no_given z g h e = not_answer (BadData (utf8_valid_len z)) g (sym (by_cases z false e) ∙ h)

  bytes_found : (z : Text) (g : Given) → read_bytes ss is z ≡ Ok g → GivenText ss is z g
  bytes_found z g h = go (is_utf8 z) refl
    where
      go : (b : Bool) → is_utf8 z ≡ b → GivenText ss is z g
      go true e = (IsUtf8-from_is_utf8 z e, text_found z g (sym (by_cases z true e) ∙ h))
      go false e = absurd (no_given z g h e)

  bytes_only : (z : Text) (g : Given) → GivenText ss is z g → read_bytes ss is z ≡ Ok g
  bytes_only z g of = by_cases z true (is_utf8-from_IsUtf8 z of.0) ∙ text_only z g of.1

  -- where a refusal stands, and that it is the first
  abbrev Stands : Text → GivenFault → Type 0
  Stands z e = IsRefusedText ss is z e × IsFirstFault ss is z e

  cause_stands : (z : Text) (e : GivenFault) → IsUtf8 z → IsCause z e → Stands z e
  cause_stands z (BadData place) u c = (inr (u, c.0), inr c.1)
  cause_stands z Memory u c = absurd c

  bytes_refused : (z : Text) (e : GivenFault) → read_bytes ss is z ≡ Err e → e ≢ Memory → Stands z e
  bytes_refused z e h not = go (is_utf8 z) refl
    where
      go : (b : Bool) → is_utf8 z ≡ b → Stands z e
      go true u = cause_stands z e (IsUtf8-from_is_utf8 z u) (text_refused z e (sym (by_cases z true u) ∙ h) not)
      go false u =
          let here : LeavesUtf8 ss is z (utf8_valid_len z) = (u, refl) in
          subst (Stands z) (same_fault (BadData (utf8_valid_len z)) e (sym (by_cases z false u) ∙ h)) (inl here, inl here)

  -- ---- answers

  pub found : (z : Text) (r : Result Given GivenFault) → Answers r (read_bytes ss is z) → IfOk r (λ g. GivenText ss is z g)
  found z (Ok g) h = bytes_found z g h
  found z (Err e) h = tt

  pub only : (z : Text) (r : Result Given GivenFault) (g : Given) → Answers r (read_bytes ss is z) → GivenText ss is z g → Answers r (Ok g)
  only z r g h of = subst (λ (o : Result Given GivenFault). Answers r o) (bytes_only z g of) h

  stands : (z : Text) (n : ℕ) → Answers (Err (BadData n)) (read_bytes ss is z) → Stands z (BadData n)
  stands z n h = bytes_refused z (BadData n) (h (λ (x : BadData n ≡ Memory). cc)) (λ (x : BadData n ≡ Memory). cc)

  pub refused : (z : Text) (r : Result Given GivenFault) → Answers r (read_bytes ss is z) → IfErr r (λ e. IsRefusedText ss is z e)
  refused z (Ok g) h = tt
  refused z (Err Memory) h = tt
  refused z (Err (BadData n)) h = (stands z n h).0

  pub first : (z : Text) (r : Result Given GivenFault) → Answers r (read_bytes ss is z) → IfErr r (λ e. IsFirstFault ss is z e)
  first z (Ok g) h = tt
  first z (Err Memory) h = tt
  first z (Err (BadData n)) h = (stands z n h).1
