-- A number of C is read: no number but 0 begins with 0, and it is below a bound.
use Rattle.std.proofs.Common.{◌≡◌, ℕ, ◌<◌, ◌≤◌, ◌^◌, Bool, true, false, ◌&&◌, nat_lt, if◌then◌else◌, List, Result, Ok, Err, refl, sym, ap, ◌∙◌, arith}
use Rattle.std.specs.Prelude.{decimal}
use Rattle.std.specs.Str.{bytes_eq}
use Rattle.std.proofs.lemmas.Bool.{and_from, and_parts}
use Rattle.std.proofs.lemmas.Fmt.{digits_value-decimal}
use Rattle.std.proofs.lemmas.Slice.Eq.{bytes_eq-Decides}
use Rattle.text_tokens.specs.declared.kind.Kind.TheVariants as k
use Rattle.text_tokens.specs.Kinds.{Text}
use Rattle.text_tokens.specs.Numbers.{value_from}
use Rattle.text_tokens.specs.Words.{Word}
use Rattle.reader_laws.specs.declared.fault.Fault.{Fault}
use Rattle.reader_laws.specs.declared.fault.Fault.TheVariants.{BadSyntax}
use Rattle.reader_laws.specs.Steps.{a_word}
use Rattle.reader_laws.specs.Grammar.{IsWordOf}
use Rattle.reader_laws.proofs.Lawful.{Lawful, lawful_as, lawful_word, never}
use Rattle.text_tokens.specs.Spelled.{Token}
use Rattle.c_text.specs.Expression.{IsNumber}
use Rattle.c_text.proofs.Cuts.{own}
use Rattle.c_read.specs.Names.{is_numeral, numeral}

pub record Numeral (limit : ℕ) (t : Text) (n : ℕ) : Type 0 where
  pub is : t ≡ decimal n
  pub below : n < limit

under : (a b : ℕ) → nat_lt a b ≡ true → a < b
under a b h = grind arith

over : (a b : ℕ) → a < b → nat_lt a b ≡ true
over a b h = grind arith

abbrev given : ℕ → Result ℕ Fault
given n = Ok n

ok_is : (m n : ℕ) → given m ≡ given n → m ≡ n
ok_is m n h = cc

pub numeral-is : (limit : ℕ) (t : Text) (n : ℕ) → numeral limit t ≡ Ok n → Numeral limit t n
numeral-is limit t n h = by (is_numeral limit t) refl h
  where
    by : (b : Bool) → is_numeral limit t ≡ b → (if b then Ok (value_from 0 t) else Err BadSyntax) ≡ Ok n → Numeral limit t n
    by true e h =
        let p = and_parts (bytes_eq t (decimal (value_from 0 t))) (nat_lt (value_from 0 t) limit) e in
        let v = ok_is (value_from 0 t) n h in
        record { is = (bytes_eq-Decides t (decimal (value_from 0 t))).0 p.0 ∙ ap decimal v; below = under n limit (ap (λ m. nat_lt m limit) (sym v) ∙ p.1) }
    by false e h = absurd (cc)

pub is-numeral : (limit n : ℕ) → limit ≤ 2 ^ 64 → n < limit → numeral limit (decimal n) ≡ Ok n
is-numeral limit n l h =
    let v = digits_value-decimal own n (omega (arith, h, l)) in
    let same : bytes_eq (decimal n) (decimal (value_from 0 (decimal n))) ≡ true = (bytes_eq-Decides (decimal n) (decimal (value_from 0 (decimal n)))).1
    (ap decimal (sym v)) in
    let small : nat_lt (value_from 0 (decimal n)) limit ≡ true = ap (λ m. nat_lt m limit) v ∙ over n limit h in
    (λ j. if and_from (bytes_eq (decimal n) (decimal (value_from 0 (decimal n)))) (nat_lt (value_from 0 (decimal n)) limit) same small j then Ok
    (value_from 0 (decimal n)) else Err BadSyntax) ∙ ap (λ m. Ok m) v

pub lawful_number : (limit : ℕ) → limit ≤ 2 ^ 64 → (k.Number ≡ k.End → ⊥) → Lawful (a_word k.Number (numeral limit)) (IsNumber limit) never
lawful_number limit l some =
    lawful_as (a_word k.Number (numeral limit)) (IsWordOf k.Number (numeral limit)) (IsNumber limit) never to from (lawful_word k.Number (numeral limit) some)
  where
    to : (ws : List Word) (n : ℕ) → IsWordOf k.Number (numeral limit) ws n → IsNumber limit ws n
    to ws n h =
        let v = numeral-is limit h.word.text n h.reads_as in
        record { word = h.word; words = h.words; is = (λ j. record { kind = h.is j; text = v.is j }); is_allowed = v.below }

    from : (ws : List Word) (n : ℕ) → IsNumber limit ws n → IsWordOf k.Number (numeral limit) ws n
    from ws n h = record {
      word = h.word;
      is = ap (λ (t : Token). t.kind) h.is;
      reads_as = ap (λ (t : Token). numeral limit t.text) h.is
          ∙ is-numeral limit n l h.is_allowed;
      words = h.words;
    }
