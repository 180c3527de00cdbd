-- Texts that are cut into words, piece by piece.
use Rattle.std.proofs.Common.{◌≡◌, ℕ, zero, suc, ◌+◌, ◌-◌, ◌<◌, ◌^◌, Bool, true, false, ◌&&◌, ◌==◌, not}
use Rattle.std.proofs.Common.{List, [], ◌∷◌, ◌++◌, length, take, refl, sym, ap, subst, ◌∙◌, arith, append_assoc, rules}
use Rattle.std.specs.Prelude.{codes, decimal}
use Rattle.std.specs.Fmt.{digits}
use Rattle.text_tokens.specs.Numbers.{value_from}
use Rattle.std.specs.Char.{is_ascii_digit}
use Rattle.std.specs.List.{prefix_len}
use Rattle.std.proofs.lemmas.Bool.{and_parts}
use Rattle.std.proofs.lemmas.Bool.Decides.{nat_tests}
use Rattle.std.proofs.Math.Seq.{take-append_seam}
use Rattle.std.proofs.lemmas.Str.Parse.{IsNumeralModel, numerals_by_fold}
use Rattle.std.proofs.lemmas.Fmt.{decimal_nonempty, digits_decimal}
use Rattle.text_tokens.specs.declared.kind.Kind.TheVariants as k
use Rattle.text_tokens.specs.Kinds.{Text}
use Rattle.text_tokens.specs.Lex.{is_blank}
use Rattle.c_print.specs.Statement.{indentation, line}
use Rattle.text_tokens.specs.Spelled.{Token, tokens_of, name_token, number_token}
use Rattle.c_words.specs.Tokens.{Pragma, pragma_text, sign}
use Rattle.c_words.specs.declared.state.Margin.{Margin}
use Rattle.c_words.specs.declared.state.Margin.TheVariants.{Indented, Taken}
use Rattle.c_words.specs.declared.state.State.{State}
use Rattle.c_words.specs.declared.state.State.TheVariants.{Code}
use Rattle.c_words.specs.Words.{begins_name, continues_name, word, words_from}

-- what follows does not go on with a name or a number
abbrev pub Stops : Text → Type 0
Stops [] = Unit {0}
Stops (c ∷ cs) = continues_name c ≡ false

abbrev pub starts_stop : Text → Bool
starts_stop [] = false
starts_stop (c ∷ cs) = not (continues_name c)

stops-from : (t rest : Text) → starts_stop t ≡ true → Stops (t ++ rest)
stops-from [] rest h = absurd (cc)
stops-from (c ∷ cs) rest h = by (continues_name c) refl h
  where
    by : (b : Bool) → continues_name c ≡ b → not b ≡ true → continues_name c ≡ false
    by true e h = absurd (cc)
    by false e h = e

-- the text is cut into these tokens, where what follows stops its last word
pub record Cuts (t : Text) (ts : List Token) : Type 0 where
  pub cuts : (end : ℕ) (m : Margin) (rest : Text) → Stops rest → tokens_of (words_from end 0 (Code m) (t ++ rest)) ≡ ts ++ tokens_of
      (words_from end 0 (Code Taken) rest)

-- whatever follows
pub record Passes (t : Text) (ts : List Token) : Type 0 where
  pub passes : (end : ℕ) (m : Margin) (rest : Text) → tokens_of (words_from end 0 (Code m) (t ++ rest)) ≡ ts ++ tokens_of (words_from end 0 (Code Taken) rest)

-- from the beginning of a line to that of another
pub record Lines (t : Text) (ts : List Token) : Type 0 where
  pub lines : (end : ℕ) (rest : Text) → tokens_of (words_from end 0 (Code Indented) (t ++ rest)) ≡ ts ++ tokens_of (words_from end 0 (Code Indented) rest)

from : ℕ → Margin → Text → List Token
from end m z = tokens_of (words_from end 0 (Code m) z)

-- ---- one after another

pub cuts_any : {t : Text} {ts : List Token} → Passes t ts → Cuts t ts
cuts_any p = record { cuts = λ end m rest h. p.passes end m rest }

pub cuts_cuts : (t u : Text) (ts us : List Token) → Cuts t ts → Cuts u us → starts_stop u ≡ true → Cuts (t ++ u) (ts ++ us)
unfolding from
cuts_cuts t u ts us p q h = record {
  cuts = λ end m rest s.
      ap (from end m) (append_assoc t u rest) ∙ p.cuts end m (u ++ rest) (stops-from u rest h) ∙ ap (λ vs. ts ++ vs) (q.cuts end Taken rest s)
      ∙ sym (append_assoc ts us (from end Taken rest));
}

pub passes_cuts : (t u : Text) (ts us : List Token) → Passes t ts → Cuts u us → Cuts (t ++ u) (ts ++ us)
unfolding from
passes_cuts t u ts us p q = record {
  cuts = λ end m rest s. ap (from end m) (append_assoc t u rest) ∙ p.passes end m (u ++ rest) ∙ ap (λ vs. ts ++ vs) (q.cuts end Taken rest s)
      ∙ sym (append_assoc ts us (from end Taken rest));
}

pub cuts_passes : (t u : Text) (ts us : List Token) → Cuts t ts → Passes u us → starts_stop u ≡ true → Passes (t ++ u) (ts ++ us)
unfolding from
cuts_passes t u ts us p q h = record {
  passes = λ end m rest.
      ap (from end m) (append_assoc t u rest) ∙ p.cuts end m (u ++ rest) (stops-from u rest h) ∙ ap (λ vs. ts ++ vs) (q.passes end Taken rest)
      ∙ sym (append_assoc ts us (from end Taken rest));
}

pub passes_passes : (t u : Text) (ts us : List Token) → Passes t ts → Passes u us → Passes (t ++ u) (ts ++ us)
unfolding from
passes_passes t u ts us p q = record {
  passes = λ end m rest. ap (from end m) (append_assoc t u rest) ∙ p.passes end m (u ++ rest) ∙ ap (λ vs. ts ++ vs) (q.passes end Taken rest)
      ∙ sym (append_assoc ts us (from end Taken rest));
}

pub lines_lines : (t u : Text) (ts us : List Token) → Lines t ts → Lines u us → Lines (t ++ u) (ts ++ us)
unfolding from
lines_lines t u ts us p q = record {
  lines = λ end rest. ap (from end Indented) (append_assoc t u rest) ∙ p.lines end (u ++ rest) ∙ ap (λ vs. ts ++ vs) (q.lines end rest)
      ∙ sym (append_assoc ts us (from end Indented rest));
}

pub no_lines : Lines [] []
no_lines = record { lines = λ end rest. refl }

-- ---- lines

indented : (level end : ℕ) (z : Text) → tokens_of (words_from end 0 (Code Indented) (indentation level ++ z)) ≡ tokens_of (words_from end 0 (Code Indented) z)
unfolding words_from
indented zero end z = refl
indented (suc level) end z = indented level end z

line_feed : (end : ℕ) (rest : Text) → tokens_of (words_from end 0 (Code Taken) (10 ∷ rest)) ≡ tokens_of (words_from end 0 (Code Indented) rest)
unfolding words_from
line_feed end rest = refl

pub one_line : (level : ℕ) (t : Text) (ts : List Token) → Cuts t ts → Lines (line level t) ts
unfolding from
one_line level t ts p = record {
  lines = λ end rest.
      ap (from end Indented) (append_assoc (indentation level ++ t) (codes "\n") rest ∙ append_assoc (indentation level) t (10 ∷ rest))
      ∙ indented level end (t ++ 10 ∷ rest)
      ∙ p.cuts end Indented (10 ∷ rest) refl
      ∙ ap (λ vs. ts ++ vs) (line_feed end rest);
}

pragma_cut : (end : ℕ) (rest : Text) → tokens_of (words_from end 0 (Code Indented) (pragma_text ++ 10 ∷ rest)) ≡ sign Pragma
    ∷ tokens_of (words_from end 0 (Code Taken) (10 ∷ rest))
unfolding words_from word
pragma_cut end rest = refl

pub pragma_line : (level : ℕ) → Lines (line level pragma_text) (sign Pragma ∷ [])
unfolding from
pragma_line level = record {
  lines = λ end rest.
      ap (from end Indented) (append_assoc (indentation level ++ pragma_text) (codes "\n") rest ∙ append_assoc (indentation level) pragma_text (10 ∷ rest))
      ∙ indented level end (pragma_text ++ 10 ∷ rest)
      ∙ pragma_cut end rest
      ∙ ap (λ vs. sign Pragma ∷ vs) (line_feed end rest);
}

-- ---- names and numbers

abbrev pub AreDigits : Text → Type 0
AreDigits [] = Unit {0}
AreDigits (c ∷ cs) = (is_ascii_digit c ≡ true) × AreDigits cs

abbrev pub continue : Text → Bool
continue [] = true
continue (c ∷ cs) = continues_name c && continue cs

name_len : (cs rest : Text) → continue cs ≡ true → Stops rest → prefix_len continues_name (cs ++ rest) ≡ length cs
name_len [] [] h s = refl
name_len [] (c ∷ cs) h s = rw s refl
name_len (d ∷ ds) rest h s = let p = and_parts (continues_name d) (continue ds) h in let e = name_len ds rest p.1 s in rw p.0 (omega (arith, e))

take_front : (c : ℕ) (cs rest : Text) → take (1 + length cs) (c ∷ cs ++ rest) ≡ c ∷ cs
take_front c cs rest = let e : 1 + length cs ≡ suc (length cs) = omega arith in rw e (take-append_seam (c ∷ cs) rest)

skipped : (end : ℕ) (cs rest : Text) (s : State) → words_from end (length cs) s (cs ++ rest) ≡ words_from end 0 s rest
unfolding words_from
skipped end [] rest s = refl
skipped end (c ∷ cs) rest s = skipped end cs rest s

begins-clear : (c : ℕ) → begins_name c ≡ true → (is_blank c ≡ false) × ((c == 47) ≡ false)
begins-clear c h = (grind (arith, nat_tests), grind (arith, nat_tests))

pub name_cuts : (c : ℕ) (cs : Text) → begins_name c ≡ true → continue cs ≡ true → Cuts (c ∷ cs) (name_token (c ∷ cs) ∷ [])
unfolding words_from word
name_cuts c cs h g = record {
  cuts = λ end m rest s.
      let clear = begins-clear c h in
      let n = name_len cs rest g s in
      let one : 1 + length cs - 1 ≡ length cs = omega arith in
      simp (clear.0, clear.1, h, n, one, take_front c cs rest, skipped end cs rest (Code Taken)) refl;
}

-- a symbol between two texts
pub between : (t p u : Text) (ts : List Token) (x : Token) (us : List Token) → Cuts t ts → Passes p (x ∷ []) → starts_stop p ≡ true → Cuts u us
    → Cuts ((t ++ p) ++ u) (ts ++ x ∷ us)
between t p u ts x us a b h c = subst (Cuts ((t ++ p) ++ u)) (append_assoc ts (x ∷ []) us)
    (passes_cuts (t ++ p) u (ts ++ x ∷ []) us (cuts_passes t p ts (x ∷ []) a b h) c)

-- ---- numbers

pub own : IsNumeralModel AreDigits (value_from 0)
unfolding value_from
own = numerals_by_fold _ (search rules) value_from (search rules)

digits-go : (cs : Text) → AreDigits cs → continue cs ≡ true
digits-go [] h = refl
digits-go (c ∷ cs) h = (λ j. goes c h.0 j && digits-go cs h.1 j)
  where
    goes : (c : ℕ) → is_ascii_digit c ≡ true → continues_name c ≡ true
    goes c h = grind (arith, nat_tests)

-- the digits of a number go on with a name
pub decimal-goes : (n : ℕ) → n < 2 ^ 64 → continue (decimal n) ≡ true
decimal-goes n h = digits-go (decimal n) (digits_decimal own n h)

digits_len : (cs rest : Text) → AreDigits cs → Stops rest → prefix_len is_ascii_digit (cs ++ rest) ≡ length cs
digits_len [] [] h s = refl
digits_len [] (c ∷ cs) h s = rw (none c s) refl
  where
    none : (c : ℕ) → continues_name c ≡ false → is_ascii_digit c ≡ false
    none c h = grind (arith, nat_tests)
digits_len (d ∷ ds) rest h s = let e = digits_len ds rest h.1 s in rw h.0 (omega (arith, e))

record IsDigit (c : ℕ) : Type 0 where
  blank : is_blank c ≡ false
  comment : (c == 47) ≡ false
  begins : begins_name c ≡ false

digit-clear : (c : ℕ) → is_ascii_digit c ≡ true → IsDigit c
digit-clear c h = record { blank = grind (arith, nat_tests); comment = grind (arith, nat_tests); begins = grind (arith, nat_tests) }

digits_cuts : (ds : Text) → 0 < length ds → AreDigits ds → Cuts ds (record { kind = k.Number; text = ds } ∷ [])
unfolding words_from word
digits_cuts [] h g = absurd (omega (arith, h))
digits_cuts (c ∷ cs) h g = record {
  cuts = λ end m rest s.
      let clear = digit-clear c g.0 in
      let n = digits_len cs rest g.1 s in
      let one : 1 + length cs - 1 ≡ length cs = omega arith in
      simp (clear.blank, clear.comment, clear.begins, g.0, n, one, take_front c cs rest, skipped end cs rest (Code Taken)) refl;
}

pub number_cuts : (n : ℕ) → n < 2 ^ 64 → Cuts (decimal n) (number_token n ∷ [])
number_cuts n h = digits_cuts (decimal n) (decimal_nonempty n h) (digits_decimal own n h)

pub decimal-0 : decimal 0 ≡ 48 ∷ []
unfolding digits
decimal-0 = refl

pub decimal-1 : decimal 1 ≡ 49 ∷ []
unfolding digits
decimal-1 = refl
