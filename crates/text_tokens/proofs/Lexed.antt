-- Tokens that are spelled are cut again.
use Rattle.std.proofs.Common.{
  ◌≡◌,
  ℕ,
  zero,
  suc,
  ◌+◌,
  ◌-◌,
  ◌<◌,
  ◌⊎◌,
  inl,
  inr,
  Bool,
  true,
  false,
  ◌||◌,
  ◌&&◌,
  ◌==◌,
  not,
  nat_lt,
  List,
  [],
  ◌∷◌,
  ◌++◌,
  length,
  take,
  refl,
  sym,
  ap,
  subst,
  ◌∙◌,
  arith,
  lit<,
}
use Rattle.std.specs.Prelude.{slice_index}
use Rattle.std.specs.Char.{is_ascii_digit, is_ascii_alphabetic, is_ascii_alphanumeric}
use Rattle.std.specs.Str.{chars, encode_utf8_all, IsUtf8, IsAscii}
use Rattle.std.proofs.lemmas.Str.{chars-append, chars-nil, chars-IsAscii, encodes-chars, IsUtf8-append, IsUtf8-from_ascii, IsUtf8-nil}
use Rattle.std.proofs.lemmas.Bool.{and_parts}
use Rattle.std.proofs.lemmas.Bool.Decides.{nat_tests}
use Rattle.std.proofs.Math.Seq.{take-append_seam, drop-append_seam}
use Rattle.unicode_ident.proofs.IdentLemmas.{is_xid_start-ascii, is_xid_continue-ascii}
use Rattle.text_tokens.specs.declared.kind.Kind.{Kind}
use Rattle.text_tokens.specs.declared.kind.Kind.TheVariants as k
use Rattle.text_tokens.specs.declared.kind.Language.{Language}
use Rattle.text_tokens.specs.Kinds.{Text, has_symbol, keyword, symbol, symbol_len, symbol_of}
use Rattle.text_tokens.specs.Lex.{is_blank, begins_name, continues_name, name_len, digits_len, word}
use Rattle.text_tokens.specs.Words.{words_from, words_of, first_word}
use Rattle.text_tokens.proofs.WordLaws.{words_drop}
use Rattle.text_tokens.specs.Names.{GoOn}
use Rattle.text_tokens.specs.Spelled.{Token, tokens_of, sign_text, gap_to, spelled}

-- ---- characters

abbrev pub AreDigits : Text → Type 0
AreDigits [] = Unit {0}
AreDigits (c ∷ cs) = (is_ascii_digit c ≡ true) × AreDigits cs

-- a character that begins a symbol
pub record IsMark (c : ℕ) : Type 0 where
  pub begins : begins_name c ≡ false
  pub continues : continues_name c ≡ false
  pub digit : is_ascii_digit c ≡ false
  pub comment : (c == 35) ≡ false
  pub blank : is_blank c ≡ false

mark : (c : ℕ) → c < 128 → is_ascii_alphanumeric c ≡ false → is_ascii_alphabetic c ≡ false → is_ascii_digit c ≡ false → (c == 95) ≡ false → (c == 35) ≡ false
    → is_blank c ≡ false → IsMark c
unfolding begins_name continues_name
mark c below n a d u h b = record {
  begins = (λ j. is_xid_start-ascii c below j || (c == 95)) ∙ (λ j. a j || u j);
  continues = is_xid_continue-ascii c below ∙ (λ j. n j || u j);
  digit = d;
  comment = h;
  blank = b;
}

-- ---- kinds

-- a sign that a further character may make longer, and that character
abbrev pub longer_by : Kind → ℕ → Bool
longer_by k.Dot c = c == 46
longer_by k.Less c = c == 61
longer_by k.Greater c = c == 61
longer_by k.Assign c = c == 61
longer_by kd c = false

abbrev pub may_grow : Kind → Bool
may_grow k.Dot = true
may_grow k.Less = true
may_grow k.Greater = true
may_grow k.Assign = true
may_grow kd = false

abbrev pub is_sign : Kind → Bool
is_sign k.Semi = true
is_sign k.Comma = true
is_sign k.Dot = true
is_sign k.DotDot = true
is_sign k.LBracket = true
is_sign k.RBracket = true
is_sign k.LParen = true
is_sign k.RParen = true
is_sign k.LBrace = true
is_sign k.RBrace = true
is_sign k.Colon = true
is_sign k.Less = true
is_sign k.LessEqual = true
is_sign k.Greater = true
is_sign k.GreaterEqual = true
is_sign k.Equal = true
is_sign k.Assign = true
is_sign k.Plus = true
is_sign k.Minus = true
is_sign k.Star = true
is_sign k.Slash = true
is_sign k.Percent = true
is_sign kd = false

abbrev pub goes_on : Bool → Kind → ℕ → Bool
goes_on true kd c = longer_by kd c
goes_on false kd c = continues_name c || is_ascii_digit c

-- what follows a word of this kind does not make it longer
abbrev pub Ends : Kind → Text → Type 0
Ends kd [] = Unit {0}
Ends kd (c ∷ cs) = goes_on (is_sign kd) kd c ≡ false

-- ---- one word

or_parts : (a b : Bool) → (a || b) ≡ false → (a ≡ false) × (b ≡ false)
or_parts true b h = absurd (cc)
or_parts false b h = (refl, h)

abbrev Breaks : Text → Type 0
Breaks [] = Unit {0}
Breaks (c ∷ cs) = (continues_name c || is_ascii_digit c) ≡ false

digits_len_all : (ds rest : Text) → AreDigits ds → Breaks rest → digits_len (ds ++ rest) ≡ length ds
digits_len_all [] [] are breaks = refl
digits_len_all [] (c ∷ cs) are breaks = rw ((or_parts (continues_name c) (is_ascii_digit c) breaks).1) refl
digits_len_all (d ∷ ds) rest are breaks = let h = digits_len_all ds rest are.1 breaks in rw are.0 (omega arith)

name_len_all : (cs rest : Text) → GoOn cs → Breaks rest → name_len (cs ++ rest) ≡ length cs
name_len_all [] [] are breaks = refl
name_len_all [] (c ∷ cs) are breaks = rw ((or_parts (continues_name c) (is_ascii_digit c) breaks).0) refl
name_len_all (d ∷ ds) rest are breaks = let h = name_len_all ds rest are.1 breaks in rw are.0 (omega arith)

take_front : (c : ℕ) (cs rest : Text) → take (1 + length cs) (c ∷ cs ++ rest) ≡ c ∷ cs
take_front c cs rest = let e : 1 + length cs ≡ suc (length cs) = omega arith in rw e (take-append_seam (c ∷ cs) rest)

-- a character that is none of a symbol, a comment or white space
abbrev pub Clear : ℕ → Type 0
Clear c = ((c == 35) ≡ false) × (is_blank c ≡ false)

digit_clear : (d : ℕ) → is_ascii_digit d ≡ true → Clear d
digit_clear d h = (grind (arith, nat_tests), grind (arith, nat_tests))

digit_begins : (d : ℕ) → is_ascii_digit d ≡ true → begins_name d ≡ false
unfolding begins_name
digit_begins d h =
    let below : d < 128 = grind (arith, nat_tests) in
    let letter : is_ascii_alphabetic d ≡ false = grind (arith, nat_tests) in
    let other : (d == 95) ≡ false = grind (arith, nat_tests) in
    (λ j. is_xid_start-ascii d below j || (d == 95)) ∙ (λ j. letter j || other j)

not_name : (n : ℕ) → begins_name n ≡ false → (c : ℕ) → begins_name c ≡ true → (c == n) ≡ false
not_name n e c h = by (c == n) refl
  where
    by : (b : Bool) → (c == n) ≡ b → b ≡ false
    by true g = let same : c ≡ n = grind (arith, nat_tests) in let f : begins_name c ≡ false = ap begins_name same ∙ e in absurd (cc)
    by false g = refl

none_begins : (n : ℕ) → n < 128 → is_ascii_alphabetic n ≡ false → (n == 95) ≡ false → begins_name n ≡ false
unfolding begins_name
none_begins n below a u = (λ j. is_xid_start-ascii n below j || (n == 95)) ∙ (λ j. a j || u j)

name_clear : (c : ℕ) → begins_name c ≡ true → Clear c
name_clear c h = (
  not_name 35 (none_begins 35 (lit< tt) refl refl) c h,
  (λ j. not_name 32 (none_begins 32 (lit< tt) refl refl) c h j || not_name 9 (none_begins 9 (lit< tt) refl refl) c h j || not_name 13
      (none_begins 13 (lit< tt) refl refl) c h j || not_name 10 (none_begins 10 (lit< tt) refl refl) c h j),
)

mark_37 : IsMark 37
mark_37 = mark 37 (lit< tt) refl refl refl refl refl refl

mark_40 : IsMark 40
mark_40 = mark 40 (lit< tt) refl refl refl refl refl refl

mark_41 : IsMark 41
mark_41 = mark 41 (lit< tt) refl refl refl refl refl refl

mark_42 : IsMark 42
mark_42 = mark 42 (lit< tt) refl refl refl refl refl refl

mark_43 : IsMark 43
mark_43 = mark 43 (lit< tt) refl refl refl refl refl refl

mark_44 : IsMark 44
mark_44 = mark 44 (lit< tt) refl refl refl refl refl refl

mark_45 : IsMark 45
mark_45 = mark 45 (lit< tt) refl refl refl refl refl refl

mark_46 : IsMark 46
mark_46 = mark 46 (lit< tt) refl refl refl refl refl refl

mark_47 : IsMark 47
mark_47 = mark 47 (lit< tt) refl refl refl refl refl refl

mark_58 : IsMark 58
mark_58 = mark 58 (lit< tt) refl refl refl refl refl refl

mark_59 : IsMark 59
mark_59 = mark 59 (lit< tt) refl refl refl refl refl refl

mark_60 : IsMark 60
mark_60 = mark 60 (lit< tt) refl refl refl refl refl refl

mark_61 : IsMark 61
mark_61 = mark 61 (lit< tt) refl refl refl refl refl refl

mark_62 : IsMark 62
mark_62 = mark 62 (lit< tt) refl refl refl refl refl refl

mark_91 : IsMark 91
mark_91 = mark 91 (lit< tt) refl refl refl refl refl refl

mark_93 : IsMark 93
mark_93 = mark 93 (lit< tt) refl refl refl refl refl refl

mark_123 : IsMark 123
mark_123 = mark 123 (lit< tt) refl refl refl refl refl refl

mark_125 : IsMark 125
mark_125 = mark 125 (lit< tt) refl refl refl refl refl refl

-- the first character of a sign
pub record First (kd : Kind) : Type 0 where
  pub first : ℕ
  pub rest : Text
  pub is : sign_text kd ≡ first ∷ rest
  pub is_mark : IsMark first

first_of : (kd : Kind) → is_sign kd ≡ true → First kd
first_of k.Semi s = record { first = 59; rest = []; is = refl; is_mark = mark_59 }
first_of k.Comma s = record { first = 44; rest = []; is = refl; is_mark = mark_44 }
first_of k.Dot s = record { first = 46; rest = []; is = refl; is_mark = mark_46 }
first_of k.DotDot s = record { first = 46; rest = 46 ∷ []; is = refl; is_mark = mark_46 }
first_of k.LBracket s = record { first = 91; rest = []; is = refl; is_mark = mark_91 }
first_of k.RBracket s = record { first = 93; rest = []; is = refl; is_mark = mark_93 }
first_of k.LParen s = record { first = 40; rest = []; is = refl; is_mark = mark_40 }
first_of k.RParen s = record { first = 41; rest = []; is = refl; is_mark = mark_41 }
first_of k.LBrace s = record { first = 123; rest = []; is = refl; is_mark = mark_123 }
first_of k.RBrace s = record { first = 125; rest = []; is = refl; is_mark = mark_125 }
first_of k.Colon s = record { first = 58; rest = []; is = refl; is_mark = mark_58 }
first_of k.Less s = record { first = 60; rest = []; is = refl; is_mark = mark_60 }
first_of k.LessEqual s = record { first = 60; rest = 61 ∷ []; is = refl; is_mark = mark_60 }
first_of k.Greater s = record { first = 62; rest = []; is = refl; is_mark = mark_62 }
first_of k.GreaterEqual s = record { first = 62; rest = 61 ∷ []; is = refl; is_mark = mark_62 }
first_of k.Equal s = record { first = 61; rest = 61 ∷ []; is = refl; is_mark = mark_61 }
first_of k.Assign s = record { first = 61; rest = []; is = refl; is_mark = mark_61 }
first_of k.Plus s = record { first = 43; rest = []; is = refl; is_mark = mark_43 }
first_of k.Minus s = record { first = 45; rest = []; is = refl; is_mark = mark_45 }
first_of k.Star s = record { first = 42; rest = []; is = refl; is_mark = mark_42 }
first_of k.Slash s = record { first = 47; rest = []; is = refl; is_mark = mark_47 }
first_of k.Percent s = record { first = 37; rest = []; is = refl; is_mark = mark_37 }
first_of kd s = absurd (cc)

abbrev pub all_small : Text → Bool
all_small [] = true
all_small (c ∷ cs) = nat_lt c 128 && all_small cs

pub ascii : (xs : Text) → all_small xs ≡ true → IsAscii xs
ascii [] h i = omega arith
ascii (c ∷ cs) h zero = below c (and_parts (nat_lt c 128) (all_small cs) h).0
  where
    below : (c : ℕ) → nat_lt c 128 ≡ true → c < 128
    below c h = grind arith
ascii (c ∷ cs) h (suc i) = ascii cs (and_parts (nat_lt c 128) (all_small cs) h).1 i

pub sign_small : (kd : Kind) → all_small (sign_text kd) ≡ true
sign_small k.Semi = refl
sign_small kd = refl

-- a blank that is written
abbrev pub IsGap : Text → Type 0
IsGap [] = Unit {0}
IsGap (c ∷ cs) = ((c ≡ 32) ⊎ (c ≡ 10)) × IsGap cs

gap_small : (g : Text) → IsGap g → all_small g ≡ true
gap_small [] h = refl
gap_small (c ∷ cs) h = (λ j. one h.0 j && gap_small cs h.1 j)
  where
    one : ((c ≡ 32) ⊎ (c ≡ 10)) → nat_lt c 128 ≡ true
    one (inl e) = ap (λ n. nat_lt n 128) e
    one (inr e) = ap (λ n. nat_lt n 128) e

-- a token of the second kind may follow one of the first without a space: one of them is a symbol, and the first does not grow
abbrev pub touches : Kind → Kind → Bool
touches a b = (is_sign a && not (may_grow a)) || (not (is_sign a) && is_sign b)

no_longer : (kd : Kind) (c : ℕ) → may_grow kd ≡ false → longer_by kd c ≡ false
no_longer k.Dot c h = absurd (cc)
no_longer k.Less c h = absurd (cc)
no_longer k.Greater c h = absurd (cc)
no_longer k.Assign c h = absurd (cc)
no_longer kd c h = refl

module _ (language : Language) where
  -- the characters of a word of this kind
  pub record Named (kd : Kind) (c : ℕ) (cs : Text) : Type 0 where
    pub begins : begins_name c ≡ true
    pub on : GoOn cs
    pub no_sign : is_sign kd ≡ false
    pub keyword_is : keyword language (encode_utf8_all (c ∷ cs)) ≡ kd

  word_number : (d : ℕ) (ds rest : Text) → begins_name d ≡ false → AreDigits (d ∷ ds) → Breaks rest → word language (d ∷ ds ++ rest) ≡ (k.Number, 1 + length ds)
  unfolding word
  word_number d ds rest other are breaks = rw (other, are.0, digits_len_all ds rest are.1 breaks) refl

  word_name : (kd : Kind) (c : ℕ) (cs rest : Text) → Named kd c cs → Breaks rest → word language (c ∷ cs ++ rest) ≡ (kd, 1 + length cs)
  unfolding word
  word_name kd c cs rest is breaks =
      let n = name_len_all cs rest is.on breaks in
      let t = take_front c cs rest in
      rw (is.begins, n, t, is.keyword_is) refl

  word_symbol : (kd : Kind) (c : ℕ) (z : Text) → IsMark c → symbol c (slice_index z 0) ≡ kd → has_symbol language kd ≡ true
      → word language (c ∷ z) ≡ (kd, symbol_len kd)
  unfolding word symbol_of
  word_symbol kd c z m e h = rw (m.begins, m.digit, e, h) refl

  lexed : (end c : ℕ) (cs rest : Text) (kd : Kind) → Clear c → word language (c ∷ cs ++ rest) ≡ (kd, 1 + length cs)
      → tokens_of (words_from language end 0 false (c ∷ cs ++ rest)) ≡ record { kind = kd; text = encode_utf8_all (c ∷ cs) } ∷ tokens_of
      (words_from language end 0 false rest)
  unfolding words_from first_word
  lexed end c cs rest kd clear is =
      let one : 1 + length cs - 1 ≡ length cs = omega arith in
      let on : words_from language end (length cs) false (cs ++ rest) ≡ words_from language end 0 false rest =
      words_drop language end (length cs) (cs ++ rest) ∙ ap (words_from language end 0 false) (drop-append_seam cs rest) in
      simp (clear.0, clear.1, is, take_front c cs rest, one, on) refl

  dot_ends : (rest : Text) → Ends k.Dot rest → symbol 46 (slice_index rest 0) ≡ k.Dot
  unfolding symbol
  dot_ends [] e = refl
  dot_ends (c ∷ cs) e = rw e refl

  less_ends : (rest : Text) → Ends k.Less rest → symbol 60 (slice_index rest 0) ≡ k.Less
  unfolding symbol
  less_ends [] e = refl
  less_ends (c ∷ cs) e = rw e refl

  greater_ends : (rest : Text) → Ends k.Greater rest → symbol 62 (slice_index rest 0) ≡ k.Greater
  unfolding symbol
  greater_ends [] e = refl
  greater_ends (c ∷ cs) e = rw e refl

  assign_ends : (rest : Text) → Ends k.Assign rest → symbol 61 (slice_index rest 0) ≡ k.Assign
  unfolding symbol
  assign_ends [] e = refl
  assign_ends (c ∷ cs) e = rw e refl

  abbrev Cuts : ℕ → Kind → Text → Type 0
  Cuts end kd rest = tokens_of (words_from language end 0 false (sign_text kd ++ rest)) ≡ record { kind = kd; text = sign_text kd } ∷ tokens_of
      (words_from language end 0 false rest)

  sign_lexed : (end : ℕ) (kd : Kind) (rest : Text) → is_sign kd ≡ true → has_symbol language kd ≡ true → Ends kd rest → Cuts end kd rest
  unfolding symbol lib.Utf8.encode
  sign_lexed end k.Semi rest s h e = lexed end 59 [] rest k.Semi (refl, refl) (word_symbol k.Semi 59 rest mark_59 refl h)
  sign_lexed end k.Comma rest s h e = lexed end 44 [] rest k.Comma (refl, refl) (word_symbol k.Comma 44 rest mark_44 refl h)
  sign_lexed end k.Dot rest s h e = lexed end 46 [] rest k.Dot (refl, refl) (word_symbol k.Dot 46 rest mark_46 (dot_ends rest e) h)
  sign_lexed end k.DotDot rest s h e = lexed end 46 (46 ∷ []) rest k.DotDot (refl, refl) (word_symbol k.DotDot 46 (46 ∷ rest) mark_46 refl h)
  sign_lexed end k.LBracket rest s h e = lexed end 91 [] rest k.LBracket (refl, refl) (word_symbol k.LBracket 91 rest mark_91 refl h)
  sign_lexed end k.RBracket rest s h e = lexed end 93 [] rest k.RBracket (refl, refl) (word_symbol k.RBracket 93 rest mark_93 refl h)
  sign_lexed end k.LParen rest s h e = lexed end 40 [] rest k.LParen (refl, refl) (word_symbol k.LParen 40 rest mark_40 refl h)
  sign_lexed end k.RParen rest s h e = lexed end 41 [] rest k.RParen (refl, refl) (word_symbol k.RParen 41 rest mark_41 refl h)
  sign_lexed end k.LBrace rest s h e = lexed end 123 [] rest k.LBrace (refl, refl) (word_symbol k.LBrace 123 rest mark_123 refl h)
  sign_lexed end k.RBrace rest s h e = lexed end 125 [] rest k.RBrace (refl, refl) (word_symbol k.RBrace 125 rest mark_125 refl h)
  sign_lexed end k.Colon rest s h e = lexed end 58 [] rest k.Colon (refl, refl) (word_symbol k.Colon 58 rest mark_58 refl h)
  sign_lexed end k.Less rest s h e = lexed end 60 [] rest k.Less (refl, refl) (word_symbol k.Less 60 rest mark_60 (less_ends rest e) h)
  sign_lexed end k.LessEqual rest s h e = lexed end 60 (61 ∷ []) rest k.LessEqual (refl, refl) (word_symbol k.LessEqual 60 (61 ∷ rest) mark_60 refl h)
  sign_lexed end k.Greater rest s h e = lexed end 62 [] rest k.Greater (refl, refl) (word_symbol k.Greater 62 rest mark_62 (greater_ends rest e) h)
  sign_lexed end k.GreaterEqual rest s h e = lexed end 62 (61 ∷ []) rest k.GreaterEqual (refl, refl) (word_symbol k.GreaterEqual 62 (61 ∷ rest) mark_62 refl h)
  sign_lexed end k.Equal rest s h e = lexed end 61 (61 ∷ []) rest k.Equal (refl, refl) (word_symbol k.Equal 61 (61 ∷ rest) mark_61 refl h)
  sign_lexed end k.Assign rest s h e = lexed end 61 [] rest k.Assign (refl, refl) (word_symbol k.Assign 61 rest mark_61 (assign_ends rest e) h)
  sign_lexed end k.Plus rest s h e = lexed end 43 [] rest k.Plus (refl, refl) (word_symbol k.Plus 43 rest mark_43 refl h)
  sign_lexed end k.Minus rest s h e = lexed end 45 [] rest k.Minus (refl, refl) (word_symbol k.Minus 45 rest mark_45 refl h)
  sign_lexed end k.Star rest s h e = lexed end 42 [] rest k.Star (refl, refl) (word_symbol k.Star 42 rest mark_42 refl h)
  sign_lexed end k.Slash rest s h e = lexed end 47 [] rest k.Slash (refl, refl) (word_symbol k.Slash 47 rest mark_47 refl h)
  sign_lexed end k.Percent rest s h e = lexed end 37 [] rest k.Percent (refl, refl) (word_symbol k.Percent 37 rest mark_37 refl h)
  sign_lexed end kd rest s h e = absurd (cc)

  -- ---- tokens

  -- a name or a keyword
  pub record NameToken (t : Token) : Type 0 where
    pub first : ℕ
    pub rest : Text
    pub characters : chars t.text ≡ first ∷ rest
    pub named : Named t.kind first rest

  pub record NumberToken (t : Token) : Type 0 where
    pub first : ℕ
    pub rest : Text
    pub characters : chars t.text ≡ first ∷ rest
    pub digits : AreDigits (first ∷ rest)
    pub kind_is : t.kind ≡ k.Number

  pub record SignToken (t : Token) : Type 0 where
    pub is : is_sign t.kind ≡ true
    pub has : has_symbol language t.kind ≡ true
    pub text_is : t.text ≡ sign_text t.kind

  -- the text of a token is a word of its kind
  pub record IsToken (t : Token) : Type 0 where
    pub utf8 : IsUtf8 t.text
    pub spelling : NameToken t ⊎ (NumberToken t ⊎ SignToken t)

  ends_word : (kd : Kind) (rest : Text) → is_sign kd ≡ false → Ends kd rest → Breaks rest
  ends_word kd [] s e = tt
  ends_word kd (c ∷ cs) s e = sym (ap (λ b. goes_on b kd c) s) ∙ e

  -- the tokens of what follows this one
  abbrev pub rest_of : ℕ → Text → List Token
  rest_of end rest = tokens_of (words_from language end 0 false rest)

  token_lexed : (end : ℕ) (t : Token) (rest : Text) → IsToken t → Ends t.kind rest → rest_of end (chars t.text ++ rest) ≡ t ∷ rest_of end rest
  token_lexed end t rest is e = by is.spelling
    where
      whole : (c : ℕ) (cs : Text) → chars t.text ≡ c ∷ cs → encode_utf8_all (c ∷ cs) ≡ t.text
      whole c cs h = ap encode_utf8_all (sym h) ∙ encodes-chars t.text is.utf8

      by : NameToken t ⊎ (NumberToken t ⊎ SignToken t) → rest_of end (chars t.text ++ rest) ≡ t ∷ rest_of end rest
      by (inl n) =
          ap (λ z. rest_of end (z ++ rest)) n.characters
          ∙ lexed end n.first n.rest rest t.kind (name_clear n.first n.named.begins)
          (word_name t.kind n.first n.rest rest n.named (ends_word t.kind rest n.named.no_sign e))
          ∙ (λ j. record { kind = t.kind; text = whole n.first n.rest n.characters j } ∷ rest_of end rest)
      by (inr (inl n)) =
          let breaks = ends_word t.kind rest (ap is_sign n.kind_is) e in
          ap (λ z. rest_of end (z ++ rest)) n.characters
          ∙ lexed end n.first n.rest rest k.Number (digit_clear n.first n.digits.0)
          (word_number n.first n.rest rest (digit_begins n.first n.digits.0) n.digits breaks)
          ∙ (λ j. record { kind = sym n.kind_is j; text = whole n.first n.rest n.characters j } ∷ rest_of end rest)
      by (inr (inr n)) =
          ap (λ z. rest_of end (z ++ rest)) (ap chars n.text_is ∙ chars-IsAscii (sign_text t.kind) (ascii (sign_text t.kind) (sign_small t.kind)))
          ∙ sign_lexed end t.kind rest n.is n.has e
          ∙ (λ j. record { kind = t.kind; text = sym n.text_is j } ∷ rest_of end rest)

  gap_skipped : (end : ℕ) (g rest : Text) → IsGap g → rest_of end (g ++ rest) ≡ rest_of end rest
  unfolding words_from
  gap_skipped end [] rest h = refl
  gap_skipped end (c ∷ cs) rest h = by h.0 ∙ gap_skipped end cs rest h.1
    where
      by : ((c ≡ 32) ⊎ (c ≡ 10)) → rest_of end (c ∷ cs ++ rest) ≡ rest_of end (cs ++ rest)
      by (inl e) = ap (λ (n : ℕ). rest_of end (n ∷ cs ++ rest)) e
      by (inr e) = ap (λ (n : ℕ). rest_of end (n ∷ cs ++ rest)) e

  go_blank : (n : ℕ) → n < 128 → is_ascii_alphanumeric n ≡ false → (n == 95) ≡ false → is_ascii_digit n ≡ false → (continues_name n || is_ascii_digit n) ≡ false
  unfolding continues_name
  go_blank n below a u d = (λ j. is_xid_continue-ascii n below j || is_ascii_digit n) ∙ (λ j. (a j || u j) || d j)

  blank_ends : (kd : Kind) (c : ℕ) → ((c ≡ 32) ⊎ (c ≡ 10)) → goes_on (is_sign kd) kd c ≡ false
  blank_ends kd c h = by (is_sign kd) h
    where
      at_32 : (kd : Kind) → longer_by kd 32 ≡ false
      at_32 k.Dot = refl
      at_32 k.Less = refl
      at_32 k.Greater = refl
      at_32 k.Assign = refl
      at_32 kd = refl

      at_10 : (kd : Kind) → longer_by kd 10 ≡ false
      at_10 k.Dot = refl
      at_10 k.Less = refl
      at_10 k.Greater = refl
      at_10 k.Assign = refl
      at_10 kd = refl

      by : (b : Bool) → ((c ≡ 32) ⊎ (c ≡ 10)) → goes_on b kd c ≡ false
      by true (inl e) = ap (longer_by kd) e ∙ at_32 kd
      by true (inr e) = ap (longer_by kd) e ∙ at_10 kd
      by false (inl e) = ap (goes_on false kd) e ∙ go_blank 32 (lit< tt) refl refl refl
      by false (inr e) = ap (goes_on false kd) e ∙ go_blank 10 (lit< tt) refl refl refl

  touch_ends : (a : Kind) (u : Token) (rest : Text) → IsToken u → touches a u.kind ≡ true → Ends a (chars u.text ++ rest)
  touch_ends a u rest is h = by (is_sign a) (may_grow a) refl refl h
    where
      front : First u.kind → chars u.text ≡ sign_text u.kind → (is_sign a ≡ false) → Ends a (chars u.text ++ rest)
      front f e s = subst (λ z. Ends a (z ++ rest)) (sym (e ∙ f.is)) (ap (λ b. goes_on b a f.first) s ∙ (λ j. f.is_mark.continues j || f.is_mark.digit j))

      of_sign : NameToken u ⊎ (NumberToken u ⊎ SignToken u) → is_sign u.kind ≡ true → is_sign a ≡ false → Ends a (chars u.text ++ rest)
      of_sign (inl n) v s = absurd (let w = n.named.no_sign in cc)
      of_sign (inr (inl n)) v s = absurd (let w : is_sign u.kind ≡ false = ap is_sign n.kind_is in cc)
      of_sign (inr (inr n)) v s = front (first_of u.kind v)
          (ap chars n.text_is ∙ chars-IsAscii (sign_text u.kind) (ascii (sign_text u.kind) (sign_small u.kind))) s

      any : (z : Text) → is_sign a ≡ true → may_grow a ≡ false → Ends a z
      any [] s g = tt
      any (c ∷ cs) s g = ap (λ b. goes_on b a c) s ∙ no_longer a c g

      by : (b g : Bool) → is_sign a ≡ b → may_grow a ≡ g → ((b && not g) || (not b && is_sign u.kind)) ≡ true → Ends a (chars u.text ++ rest)
      by true true s g h = absurd (cc)
      by true false s g h = any (chars u.text ++ rest) s g
      by false g s m h = of_sign is.spelling h s

  -- ---- lists of tokens

  abbrev pub AreTokens : List Token → Type 0
  AreTokens [] = Unit {0}
  AreTokens (t ∷ ts) = IsToken t × AreTokens ts

  module _ (gap : Kind → Kind → Text) (blank : (a b : Kind) → IsGap (gap a b)) where
    -- something stands between two tokens, or they may touch
    abbrev pub MayFollow : Text → Kind → Kind → Type 0
    MayFollow [] a b = touches a b ≡ true
    MayFollow (c ∷ cs) a b = Unit {0}

    abbrev pub AreParted : List Token → Type 0
    AreParted [] = Unit {0}
    AreParted (t ∷ []) = Unit {0}
    AreParted (t ∷ (u ∷ us)) = MayFollow (gap t.kind u.kind) t.kind u.kind × AreParted (u ∷ us)

    gap_ascii : (a b : Kind) → IsAscii (gap a b)
    gap_ascii a b = ascii (gap a b) (gap_small (gap a b) (blank a b))

    -- the characters of what follows a token
    following : (kd : Kind) (ts : List Token) → chars (gap_to gap kd ts ++ spelled gap ts) ≡ gap_to gap kd ts ++ chars (spelled gap ts)
    following kd [] = by (gap kd k.End) (gap_ascii kd k.End)
      where
        by : (g : Text) → IsAscii g → chars (g ++ []) ≡ g ++ chars []
        by g a = chars-append g [] (IsUtf8-from_ascii g a) ∙ ap (λ z. z ++ chars []) (chars-IsAscii g a)
    following kd (t ∷ ts) = chars-append (gap kd t.kind) (spelled gap (t ∷ ts)) (IsUtf8-from_ascii (gap kd t.kind) (gap_ascii kd t.kind))
        ∙ ap (λ z. z ++ chars (spelled gap (t ∷ ts))) (chars-IsAscii (gap kd t.kind) (gap_ascii kd t.kind))

    to_blank : (kd : Kind) (ts : List Token) → IsGap (gap_to gap kd ts)
    to_blank kd [] = blank kd k.End
    to_blank kd (t ∷ ts) = blank kd t.kind

    first_ends : (kd : Kind) (g rest : Text) → IsGap g → (g ≡ [] → Ends kd rest) → Ends kd (g ++ rest)
    first_ends kd [] rest h f = f refl
    first_ends kd (c ∷ cs) rest h f = blank_ends kd c h.0

    token_ends : (t : Token) (ts : List Token) → AreTokens ts → AreParted (t ∷ ts) → Ends t.kind (gap_to gap t.kind ts ++ chars (spelled gap ts))
    token_ends t [] are parted = first_ends t.kind (gap t.kind k.End) (chars []) (blank t.kind k.End) (λ e. subst (Ends t.kind) (sym chars-nil) tt)
    token_ends t (u ∷ us) are parted =
        first_ends t.kind (gap t.kind u.kind) (chars (spelled gap (u ∷ us))) (blank t.kind u.kind)
        (λ e. subst (Ends t.kind) (sym (chars-append u.text (gap_to gap u.kind us ++ spelled gap us) are.0.utf8))
        (touch_ends t.kind u (chars (gap_to gap u.kind us ++ spelled gap us)) are.0 (subst (λ (g : Text). MayFollow g t.kind u.kind) e parted.0)))

    parted_rest : (t : Token) (ts : List Token) → AreParted (t ∷ ts) → AreParted ts
    parted_rest t [] h = tt
    parted_rest t (u ∷ us) h = h.1

    none_left : (end : ℕ) → rest_of end [] ≡ []
    unfolding words_from
    none_left end = refl

    pub tokens_lexed : (end : ℕ) (ts : List Token) → AreTokens ts → AreParted ts → rest_of end (chars (spelled gap ts)) ≡ ts
    tokens_lexed end [] are parted = ap (rest_of end) chars-nil ∙ none_left end
    tokens_lexed end (t ∷ ts) are parted =
        let behind = gap_to gap t.kind ts ++ chars (spelled gap ts) in
        ap (rest_of end) (chars-append t.text (gap_to gap t.kind ts ++ spelled gap ts) are.0.utf8 ∙ ap (λ z. chars t.text ++ z) (following t.kind ts))
        ∙ token_lexed end t behind are.0 (token_ends t ts are.1 parted)
        ∙ ap (λ us. t ∷ us) (gap_skipped end (gap_to gap t.kind ts) (chars (spelled gap ts)) (to_blank t.kind ts)
        ∙ tokens_lexed end ts are.1 (parted_rest t ts parted))

    -- tokens that are spelled are cut again
    pub spelled_words : (ts : List Token) → AreTokens ts → AreParted ts → tokens_of (words_of language (spelled gap ts)) ≡ ts
    spelled_words ts are parted = tokens_lexed (length (spelled gap ts)) ts are parted

    pub spelled_utf8 : (ts : List Token) → AreTokens ts → IsUtf8 (spelled gap ts)
    spelled_utf8 [] are = IsUtf8-nil
    spelled_utf8 (t ∷ ts) are = IsUtf8-append t.text _ are.0.utf8
        (IsUtf8-append (gap_to gap t.kind ts) (spelled gap ts) (IsUtf8-from_ascii _ (ascii _ (gap_small (gap_to gap t.kind ts) (to_blank t.kind ts))))
        (spelled_utf8 ts are.1))
