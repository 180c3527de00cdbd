-- Tokens that are words of the source languages.
use Rattle.std.proofs.Common.{
  ◌≡◌,
  ℕ,
  ◌^◌,
  ◌<◌,
  inl,
  inr,
  [],
  ◌∷◌,
  ◌++◌,
  length,
  Bool,
  true,
  false,
  ◌&&◌,
  ◌||◌,
  ◌==◌,
  nat_lt,
  refl,
  sym,
  ap,
  ◌∙◌,
  subst,
  arith,
  lit<,
}
use Rattle.std.specs.Prelude.{codes, decimal}
use Rattle.std.specs.Char.{is_ascii_alphabetic, is_ascii_alphanumeric, is_ascii_digit}
use Rattle.std.specs.Str.{chars, encode_utf8_all, IsUtf8}
use Rattle.std.proofs.lemmas.Bool.{and_parts}
use Rattle.std.proofs.lemmas.Bool.Decides.{nat_tests}
use Rattle.std.proofs.lemmas.Fmt.{decimal_nonempty}
use Rattle.std.proofs.lemmas.Str.{chars-IsAscii, encodes-chars, IsUtf8-from_ascii}
use Rattle.unicode_ident.proofs.IdentLemmas.{is_xid_start-ascii, is_xid_continue-ascii}
use Rattle.text_tokens.specs.declared.kind.Kind.{Kind}
use Rattle.text_tokens.specs.declared.kind.Kind.TheVariants as k
use Rattle.text_tokens.specs.declared.kind.Language.{Language}
use Rattle.text_tokens.specs.declared.kind.Language.TheVariants.{SourceOne, SourceTwo, Script, Data}
use Rattle.text_tokens.specs.Kinds.{Text, has_symbol, keyword, kind_in}
use Rattle.text_tokens.specs.Lex.{begins_name, continues_name}
use Rattle.text_tokens.specs.Names.{AreOfName, GoOn, IsName}
use Rattle.text_tokens.specs.Spelled.{keyword_text, name_token, number_token, sign, sign_text}
use Rattle.text_tokens.specs.Spelled as printed
use Rattle.text_tokens.proofs.Decimals.{decimal_digits}
use Rattle.text_tokens.proofs.Lexed.{AreDigits, IsToken, all_small, ascii, is_sign, sign_small}

-- ---- ASCII

abbrev are_letters : Text → Bool
are_letters [] = true
are_letters (c ∷ cs) = is_ascii_alphanumeric c && are_letters cs

letter_goes : (c : ℕ) → is_ascii_alphanumeric c ≡ true → continues_name c ≡ true
unfolding continues_name
letter_goes c h =
    let below : c < 128 = grind (arith, nat_tests) in
    is_xid_continue-ascii c below ∙ (λ j. h j || (c == 95))

letters_go : (cs : Text) → are_letters cs ≡ true → GoOn cs
letters_go [] h = tt
letters_go (c ∷ cs) h = let p = and_parts (is_ascii_alphanumeric c) (are_letters cs) h in (letter_goes c p.0, letters_go cs p.1)

letter_small : (c : ℕ) → is_ascii_alphanumeric c ≡ true → nat_lt c 128 ≡ true
letter_small c h = grind (arith, nat_tests)

letters_small : (cs : Text) → are_letters cs ≡ true → all_small cs ≡ true
letters_small [] h = refl
letters_small (c ∷ cs) h = let p = and_parts (is_ascii_alphanumeric c) (are_letters cs) h in (λ j. letter_small c p.0 j && letters_small cs p.1 j)

letter_begins : (c : ℕ) → is_ascii_alphabetic c ≡ true → begins_name c ≡ true
unfolding begins_name
letter_begins c h =
    let below : c < 128 = grind (arith, nat_tests) in
    (λ j. is_xid_start-ascii c below j || (c == 95)) ∙ (λ j. h j || (c == 95))

alphabetic_is : (c : ℕ) → is_ascii_alphabetic c ≡ true → is_ascii_alphanumeric c ≡ true
alphabetic_is c h = grind (arith, nat_tests)

digit_is : (c : ℕ) → is_ascii_digit c ≡ true → is_ascii_alphanumeric c ≡ true
digit_is c h = grind (arith, nat_tests)

digits_letters : (cs : Text) → AreDigits cs → are_letters cs ≡ true
digits_letters [] h = refl
digits_letters (c ∷ cs) h = (λ j. digit_is c h.0 j && digits_letters cs h.1 j)

ascii_chars : (t : Text) → are_letters t ≡ true → chars t ≡ t
ascii_chars t h = chars-IsAscii t (ascii t (letters_small t h))

ascii_utf8 : (t : Text) → are_letters t ≡ true → IsUtf8 t
ascii_utf8 t h = IsUtf8-from_ascii t (ascii t (letters_small t h))

ascii_encoded : (t : Text) → are_letters t ≡ true → encode_utf8_all t ≡ t
ascii_encoded t h = ap encode_utf8_all (sym (ascii_chars t h)) ∙ encodes-chars t (ascii_utf8 t h)

-- ---- keywords

abbrev pub is_keyword : Kind → Bool
is_keyword k.Atl = true
is_keyword k.Size = true
is_keyword k.In = true
is_keyword k.Assume = true
is_keyword k.Example = true
is_keyword k.Input = true
is_keyword k.Output = true
is_keyword k.Gen = true
is_keyword k.Sum = true
is_keyword k.Guard = true
is_keyword k.Let = true
is_keyword k.And = true
is_keyword k.Concat = true
is_keyword k.Flatten = true
is_keyword k.Split = true
is_keyword k.Transpose = true
is_keyword k.TruncL = true
is_keyword k.TruncR = true
is_keyword k.PadL = true
is_keyword k.PadR = true
is_keyword kd = false

record Keyword (kd : Kind) : Type 0 where
  first : ℕ
  rest : Text
  is : keyword_text kd ≡ first ∷ rest
  letter : is_ascii_alphabetic first ≡ true
  letters : are_letters rest ≡ true
  no_sign : is_sign kd ≡ false
  in_one : keyword SourceOne (keyword_text kd) ≡ kd
  in_two : keyword SourceTwo (keyword_text kd) ≡ kd

keyword_of : (kd : Kind) → is_keyword kd ≡ true → Keyword kd
unfolding keyword kind_in
keyword_of k.Atl h = record { first = 97; rest = 116 ∷ 108 ∷ []; is = refl; letter = refl; letters = refl; no_sign = refl; in_one = refl; in_two = refl }
keyword_of k.Size h = record {
  first = 115;
  rest = 105 ∷ 122 ∷ 101 ∷ [];
  is = refl;
  letter = refl;
  letters = refl;
  no_sign = refl;
  in_one = refl;
  in_two =
      refl;
}
keyword_of k.In h = record { first = 105; rest = 110 ∷ []; is = refl; letter = refl; letters = refl; no_sign = refl; in_one = refl; in_two = refl }
keyword_of k.Assume h = record {
  first = 97;
  rest = 115 ∷ 115 ∷ 117 ∷ 109 ∷ 101 ∷ [];
  is = refl;
  letter = refl;
  letters = refl;
  no_sign = refl;
  in_one = refl;
  in_two = refl;
}
keyword_of k.Example h = record {
  first = 101;
  rest = 120 ∷ 97 ∷ 109 ∷ 112 ∷ 108 ∷ 101 ∷ [];
  is = refl;
  letter = refl;
  letters = refl;
  no_sign = refl;
  in_one = refl;
  in_two = refl;
}
keyword_of k.Input h = record {
  first = 105;
  rest = 110 ∷ 112 ∷ 117 ∷ 116 ∷ [];
  is = refl;
  letter = refl;
  letters = refl;
  no_sign = refl;
  in_one = refl;
  in_two = refl;
}
keyword_of k.Output h = record {
  first = 111;
  rest = 117 ∷ 116 ∷ 112 ∷ 117 ∷ 116 ∷ [];
  is = refl;
  letter = refl;
  letters = refl;
  no_sign = refl;
  in_one =
      refl;
  in_two = refl;
}
keyword_of k.Gen h = record { first = 103; rest = 101 ∷ 110 ∷ []; is = refl; letter = refl; letters = refl; no_sign = refl; in_one = refl; in_two = refl }
keyword_of k.Sum h = record { first = 115; rest = 117 ∷ 109 ∷ []; is = refl; letter = refl; letters = refl; no_sign = refl; in_one = refl; in_two = refl }
keyword_of k.Guard h = record {
  first = 103;
  rest = 117 ∷ 97 ∷ 114 ∷ 100 ∷ [];
  is = refl;
  letter = refl;
  letters = refl;
  no_sign = refl;
  in_one = refl;
  in_two = refl;
}
keyword_of k.Let h = record { first = 108; rest = 101 ∷ 116 ∷ []; is = refl; letter = refl; letters = refl; no_sign = refl; in_one = refl; in_two = refl }
keyword_of k.And h = record { first = 97; rest = 110 ∷ 100 ∷ []; is = refl; letter = refl; letters = refl; no_sign = refl; in_one = refl; in_two = refl }
keyword_of k.Concat h = record {
  first = 99;
  rest = 111 ∷ 110 ∷ 99 ∷ 97 ∷ 116 ∷ [];
  is = refl;
  letter = refl;
  letters = refl;
  no_sign = refl;
  in_one = refl;
  in_two = refl;
}
keyword_of k.Flatten h = record {
  first = 102;
  rest = 108 ∷ 97 ∷ 116 ∷ 116 ∷ 101 ∷ 110 ∷ [];
  is = refl;
  letter = refl;
  letters = refl;
  no_sign = refl;
  in_one = refl;
  in_two = refl;
}
keyword_of k.Split h = record {
  first = 115;
  rest = 112 ∷ 108 ∷ 105 ∷ 116 ∷ [];
  is = refl;
  letter = refl;
  letters = refl;
  no_sign = refl;
  in_one = refl;
  in_two = refl;
}
keyword_of k.Transpose h = record {
  first = 116;
  rest = 114 ∷ 97 ∷ 110 ∷ 115 ∷ 112 ∷ 111 ∷ 115 ∷ 101 ∷ [];
  is = refl;
  letter = refl;
  letters = refl;
  no_sign =
      refl;
  in_one = refl;
  in_two = refl;
}
keyword_of k.TruncL h = record {
  first = 116;
  rest = 114 ∷ 117 ∷ 110 ∷ 99 ∷ 108 ∷ [];
  is = refl;
  letter = refl;
  letters = refl;
  no_sign = refl;
  in_one = refl;
  in_two = refl;
}
keyword_of k.TruncR h = record {
  first = 116;
  rest = 114 ∷ 117 ∷ 110 ∷ 99 ∷ 114 ∷ [];
  is = refl;
  letter = refl;
  letters = refl;
  no_sign = refl;
  in_one = refl;
  in_two = refl;
}
keyword_of k.PadL h = record { first = 112; rest = 97 ∷ 100 ∷ 108 ∷ []; is = refl; letter = refl; letters = refl; no_sign = refl; in_one = refl; in_two = refl }
keyword_of k.PadR h = record { first = 112; rest = 97 ∷ 100 ∷ 114 ∷ []; is = refl; letter = refl; letters = refl; no_sign = refl; in_one = refl; in_two = refl }
keyword_of kd h = absurd (cc)

-- a source language
abbrev pub IsSourceLanguage : Language → Type 0
IsSourceLanguage SourceOne = Unit {0}
IsSourceLanguage SourceTwo = Unit {0}
IsSourceLanguage other = ⊥

keyword_in : (language : Language) → IsSourceLanguage language → (kd : Kind) → Keyword kd → keyword language (keyword_text kd) ≡ kd
keyword_in SourceOne h kd p = p.in_one
keyword_in SourceTwo h kd p = p.in_two
keyword_in Script h kd p = absurd h
keyword_in Data h kd p = absurd h

module _ (language : Language) (source : IsSourceLanguage language) where
  -- a word of letters and digits
  word_token : (kd : Kind) (c : ℕ) (cs : Text) → is_ascii_alphabetic c ≡ true → are_letters cs ≡ true → is_sign kd ≡ false → keyword language (c ∷ cs) ≡ kd
      → IsToken language (record { kind = kd; text = c ∷ cs })
  word_token kd c cs a l s e =
      let all : are_letters (c ∷ cs) ≡ true = (λ j. alphabetic_is c a j && l j) in
      record {
        utf8 = ascii_utf8 (c ∷ cs) all;
        spelling = inl (record {
          first = c;
          rest = cs;
          characters = ascii_chars (c ∷ cs) all;
          named =
              record { begins = letter_begins c a; on = letters_go cs l; no_sign = s; keyword_is = ap (keyword language) (ascii_encoded (c ∷ cs) all) ∙ e };
        });
      }

  pub keyword_token : (kd : Kind) → is_keyword kd ≡ true → IsToken language (printed.keyword kd)
  keyword_token kd h =
      let p = keyword_of kd h in
      subst (λ t. IsToken language (record { kind = kd; text = t })) (sym p.is)
      (word_token kd p.first p.rest p.letter p.letters p.no_sign (ap (keyword language) (sym p.is) ∙ keyword_in language source kd p))

  pub number_is : (n : ℕ) → n < 2 ^ 64 → IsToken language (number_token n)
  number_is n small = by (decimal n) (decimal_digits n small) (decimal_nonempty n small)
    where
      by : (t : Text) → AreDigits t → 0 < length t → IsToken language (record { kind = k.Number; text = t })
      by [] d h = absurd (omega (arith, h))
      by (c ∷ cs) d h =
          let all = digits_letters (c ∷ cs) d in
          record {
            utf8 = ascii_utf8 (c ∷ cs) all;
            spelling =
                inr (inl (record { first = c; rest = cs; characters = ascii_chars (c ∷ cs) all; digits = d; kind_is = refl }));
          }

  symbol_in : (language : Language) → IsSourceLanguage language → (kd : Kind) → has_symbol SourceOne kd ≡ true → has_symbol language kd ≡ true
  symbol_in SourceOne s kd h = h
  symbol_in SourceTwo s k.Colon h = absurd (cc)
  symbol_in SourceTwo s k.LBrace h = absurd (cc)
  symbol_in SourceTwo s k.RBrace h = absurd (cc)
  symbol_in SourceTwo s kd h = refl
  symbol_in Script s kd h = absurd s
  symbol_in Data s kd h = absurd s

  pub sign_is : (kd : Kind) → is_sign kd ≡ true → has_symbol SourceOne kd ≡ true → IsToken language (sign kd)
  sign_is kd s h = record {
    utf8 = IsUtf8-from_ascii (sign_text kd) (ascii (sign_text kd) (sign_small kd));
    spelling = inr (inr (record { is = s; has = symbol_in language source kd h; text_is = refl }));
  }

  pub name_is : (t : Text) → IsName language t → IsToken language (name_token t)
  name_is t h = by (chars t) refl h.characters
    where
      by : (z : Text) → chars t ≡ z → AreOfName z → IsToken language (name_token t)
      by [] e a = absurd a
      by (c ∷ cs) e a = record {
        utf8 = h.utf8;
        spelling = inl (record {
          first = c;
          rest = cs;
          characters = e;
          named =
              record {
                begins = a.0;
                on = a.1;
                no_sign = refl;
                keyword_is = ap (λ z. keyword language (encode_utf8_all z)) (sym e)
                    ∙ ap (keyword language) (encodes-chars t h.utf8) ∙ h.no_keyword;
              };
        });
      }

-- no keyword is `i` or `t` and then a digit
digit_not : (c n : ℕ) → is_ascii_digit c ≡ true → 57 < n → (c == n) ≡ false
digit_not c n h l = grind (arith, nat_tests)

var_word : (language : Language) → IsSourceLanguage language → (c : ℕ) (cs : Text) → is_ascii_digit c ≡ true → keyword language (105 ∷ c ∷ cs) ≡ k.Name
unfolding keyword kind_in
var_word SourceOne s c cs h = let n = digit_not c 110 h (lit< tt) in simp (n)
var_word SourceTwo s c cs h = let n = digit_not c 110 h (lit< tt) in simp (n)
var_word Script s c cs h = absurd s
var_word Data s c cs h = absurd s

let_word : (language : Language) → IsSourceLanguage language → (c : ℕ) (cs : Text) → is_ascii_digit c ≡ true → keyword language (116 ∷ c ∷ cs) ≡ k.Name
unfolding keyword kind_in
let_word SourceOne s c cs h = let n = digit_not c 114 h (lit< tt) in simp (n)
let_word SourceTwo s c cs h = let n = digit_not c 114 h (lit< tt) in simp (n)
let_word Script s c cs h = absurd s
let_word Data s c cs h = absurd s

module _ (language : Language) (source : IsSourceLanguage language) where
  pub var_token : (n : ℕ) → n < 2 ^ 64 → IsToken language (name_token (codes "i" ++ decimal n))
  var_token n small = by (decimal n) (decimal_digits n small) (decimal_nonempty n small)
    where
      by : (t : Text) → AreDigits t → 0 < length t → IsToken language (name_token (105 ∷ t))
      by [] d h = absurd (omega (arith, h))
      by (c ∷ cs) d h = word_token language source k.Name 105 (c ∷ cs) refl (digits_letters (c ∷ cs) d) refl (var_word language source c cs d.0)

  pub let_token : (n : ℕ) → n < 2 ^ 64 → IsToken language (name_token (codes "t" ++ decimal n))
  let_token n small = by (decimal n) (decimal_digits n small) (decimal_nonempty n small)
    where
      by : (t : Text) → AreDigits t → 0 < length t → IsToken language (name_token (116 ∷ t))
      by [] d h = absurd (omega (arith, h))
      by (c ∷ cs) d h = word_token language source k.Name 116 (c ∷ cs) refl (digits_letters (c ∷ cs) d) refl (let_word language source c cs d.0)

-- `word` is a keyword of version 2
pub word_keyword : IsToken SourceTwo (printed.keyword k.Word)
unfolding keyword kind_in
word_keyword = word_token SourceTwo tt k.Word 119 (111 ∷ 114 ∷ 100 ∷ []) refl refl refl refl
