-- Texts that are cut into these tokens, whatever stands behind them.
use Rattle.std.proofs.Common.{◌≡◌, ℕ, suc, ◌+◌, ◌-◌, ◌^◌, ◌<◌, Bool, true, false, ◌||◌, ◌==◌, ◌&&◌, List, [], ◌∷◌, ◌++◌, length, take}
use Rattle.std.proofs.Common.{refl, sym, ap, subst, ◌∙◌, arith, lit<, append_assoc, if◌then◌else◌}
use Rattle.std.specs.Prelude.{slice_index, decimal, nat_lt}
use Rattle.std.specs.Char.{is_ascii_digit, is_ascii_alphabetic, is_ascii_alphanumeric}
use Rattle.std.specs.Str.{chars, encode_utf8_all, IsUtf8}
use Rattle.std.proofs.lemmas.Str.{chars-append, chars-nil, chars-IsAscii, encodes-chars, IsUtf8-append, IsUtf8-from_ascii, IsUtf8-nil}
use Rattle.std.proofs.lemmas.Bool.{and_parts}
use Rattle.std.proofs.lemmas.Bool.Decides.{nat_tests}
use Rattle.std.proofs.lemmas.Fmt.{decimal_nonempty}
use Rattle.std.proofs.Math.Seq.{take-append_seam, drop-append_seam}
use Rattle.unicode_ident.proofs.IdentLemmas.{is_xid_start-ascii, is_xid_continue-ascii}
use Rattle.text_tokens.specs.declared.kind.Kind.{Kind}
use Rattle.text_tokens.specs.declared.kind.Kind.TheVariants as k
use Rattle.text_tokens.specs.declared.kind.Language.TheVariants as language
use Rattle.text_tokens.specs.Kinds.{Text, keyword, symbol, symbol_len, symbol_of}
use Rattle.text_tokens.specs.Lex.{is_blank, begins_name, continues_name, name_len, digits_len, word}
use Rattle.text_tokens.specs.Words.{words_from, first_word}
use Rattle.text_tokens.specs.Names.{GoOn, AreOfName, IsName}
use Rattle.text_tokens.specs.Spelled.{Token, name_token, number_token, sign}
use Rattle.text_tokens.proofs.Decimals.{decimal_digits}
use Rattle.text_tokens.proofs.Lexed.{AreDigits, all_small, ascii, rest_of}
use Rattle.text_tokens.proofs.WordLaws.{words_drop}

-- ---- one word

abbrev tokens_in : ℕ → Text → List Token
tokens_in = rest_of language.Script

-- what ends a name or a number
abbrev pub Breaks : Text → Type 0
Breaks [] = Unit {0}
Breaks (c ∷ cs) = (continues_name c || is_ascii_digit c) ≡ false

or_parts : (a b : Bool) → (a || b) ≡ false → (a ≡ false) × (b ≡ false)
or_parts true b h = absurd (cc)
or_parts false b h = (refl, h)

digits_all : (ds rest : Text) → AreDigits ds → Breaks rest → digits_len (ds ++ rest) ≡ length ds
digits_all [] [] are breaks = refl
digits_all [] (c ∷ cs) are breaks = rw ((or_parts (continues_name c) (is_ascii_digit c) breaks).1) refl
digits_all (d ∷ ds) rest are breaks = let h = digits_all ds rest are.1 breaks in rw are.0 (omega arith)

name_all : (cs rest : Text) → GoOn cs → Breaks rest → name_len (cs ++ rest) ≡ length cs
name_all [] [] are breaks = refl
name_all [] (c ∷ cs) are breaks = rw ((or_parts (continues_name c) (is_ascii_digit c) breaks).0) refl
name_all (d ∷ ds) rest are breaks = let h = name_all ds rest are.1 breaks in rw are.0 (omega arith)

take_front : (c : ℕ) (cs rest : Text) → take (1 + length cs) (c ∷ cs ++ rest) ≡ c ∷ cs
take_front c cs rest = let e : 1 + length cs ≡ suc (length cs) = omega arith in rw e (take-append_seam (c ∷ cs) rest)

-- neither a comment nor white space begins here
abbrev Clear : ℕ → Type 0
Clear c = ((c == 35) ≡ false) × (is_blank c ≡ false)

lexed : (end c : ℕ) (cs rest : Text) (kd : Kind) → Clear c → word language.Script (c ∷ cs ++ rest) ≡ (kd, 1 + length cs)
    → tokens_in end (c ∷ cs ++ rest) ≡ record { kind = kd; text = encode_utf8_all (c ∷ cs) } ∷ tokens_in end rest
unfolding words_from first_word
lexed end c cs rest kd clear is =
    let one : 1 + length cs - 1 ≡ length cs = omega arith in
    let on : words_from language.Script end (length cs) false (cs ++ rest) ≡ words_from language.Script end 0 false rest =
    words_drop language.Script end (length cs) (cs ++ rest) ∙ ap (words_from language.Script end 0 false) (drop-append_seam cs rest) in
    simp (clear.0, clear.1, is, take_front c cs rest, one, on) refl

none_begins : (n : ℕ) → n < 128 → is_ascii_alphabetic n ≡ false → (n == 95) ≡ false → begins_name n ≡ false
unfolding begins_name
none_begins n below a u = (λ j. is_xid_start-ascii n below j || (n == 95)) ∙ (λ j. a j || u j)

not_name : (n : ℕ) → begins_name n ≡ false → (c : ℕ) → begins_name c ≡ true → (c == n) ≡ false
not_name n e c h = by (c == n) refl
  where
    by : (b : Bool) → (c == n) ≡ b → b ≡ false
    by true g = let same : c ≡ n = grind (arith, nat_tests) in let f : begins_name c ≡ false = ap begins_name same ∙ e in absurd (cc)
    by false g = refl

name_clear : (c : ℕ) → begins_name c ≡ true → Clear c
name_clear c h = (
  not_name 35 (none_begins 35 (lit< tt) refl refl) c h,
  (λ j. not_name 32 (none_begins 32 (lit< tt) refl refl) c h j || not_name 9 (none_begins 9 (lit< tt) refl refl) c h j || not_name 13
      (none_begins 13 (lit< tt) refl refl) c h j || not_name 10 (none_begins 10 (lit< tt) refl refl) c h j),
)

named_lexed : (end c : ℕ) (cs rest : Text) (kd : Kind) → begins_name c ≡ true → GoOn cs → keyword language.Script (encode_utf8_all (c ∷ cs)) ≡ kd
    → Breaks rest → tokens_in end (c ∷ cs ++ rest) ≡ record { kind = kd; text = encode_utf8_all (c ∷ cs) } ∷ tokens_in end rest
unfolding word
named_lexed end c cs rest kd begins on is breaks =
    let n = name_all cs rest on breaks in
    let t = take_front c cs rest in
    lexed end c cs rest kd (name_clear c begins) (rw (begins, n, t, is) refl)

digit_clear : (d : ℕ) → is_ascii_digit d ≡ true → Clear d
digit_clear d h = (grind (arith, nat_tests), grind (arith, nat_tests))

digit_begins : (d : ℕ) → is_ascii_digit d ≡ true → begins_name d ≡ false
unfolding begins_name
digit_begins d h =
    let below : d < 128 = grind (arith, nat_tests) in
    let letter : is_ascii_alphabetic d ≡ false = grind (arith, nat_tests) in
    let other : (d == 95) ≡ false = grind (arith, nat_tests) in
    none_begins d below letter other

number_lexed : (end d : ℕ) (ds rest : Text) → AreDigits (d ∷ ds) → Breaks rest
    → tokens_in end (d ∷ ds ++ rest) ≡ record { kind = k.Number; text = encode_utf8_all (d ∷ ds) } ∷ tokens_in end rest
unfolding word
number_lexed end d ds rest are breaks =
    let other = digit_begins d are.0 in
    let n = digits_all ds rest are.1 breaks in
    lexed end d ds rest k.Number (digit_clear d are.0) (rw (other, are.0, n) refl)

-- a symbol of one character that no other makes longer, or of two
sign_lexed : (end c : ℕ) (cs rest : Text) (kd : Kind) → c < 128 → is_ascii_alphabetic c ≡ false → (c == 95) ≡ false → is_ascii_digit c ≡ false → Clear c
    → symbol c (slice_index (cs ++ rest) 0) ≡ kd → symbol_len kd ≡ 1 + length cs
    → tokens_in end (c ∷ cs ++ rest) ≡ record { kind = kd; text = encode_utf8_all (c ∷ cs) } ∷ tokens_in end rest
unfolding word symbol_of
sign_lexed end c cs rest kd small letter low digit clear is len =
    let begins = none_begins c small letter low in
    lexed end c cs rest kd clear (rw (begins, digit, is, len) refl)

-- ---- texts

-- what may follow: all, or what ends a name or a number
abbrev pub May : Bool → Text → Type 0
May true rest = Unit {0}
May false rest = Breaks rest

-- the text is cut into these tokens, whatever follows that may
pub record Cut (all : Bool) (t : Text) (ts : List Token) : Type 0 where
  pub utf8 : IsUtf8 t
  pub cut : (end : ℕ) (rest : Text) → May all rest → tokens_in end (chars t ++ rest) ≡ ts ++ tokens_in end rest

-- so is this one, and it ends a name or a number that stands before it
pub record Tail (all : Bool) (t : Text) (ts : List Token) : Type 0 where
  pub is : Cut all t ts
  pub stops : (rest : Text) → May all rest → Breaks (chars t ++ rest)

chars_both : (a b rest : Text) → IsUtf8 a → chars (a ++ b) ++ rest ≡ chars a ++ (chars b ++ rest)
chars_both a b rest u = ap (λ z. z ++ rest) (chars-append a b u) ∙ append_assoc (chars a) (chars b) rest

joined : (all first : Bool) (a b : Text) (us vs : List Token) → Cut first a us → Cut all b vs → ((rest : Text) → May all rest → May first (chars b ++ rest))
    → Cut all (a ++ b) (us ++ vs)
joined all first a b us vs p q m = record {
  utf8 = IsUtf8-append a b p.utf8 q.utf8;
  cut = λ end rest h.
      ap (tokens_in end) (chars_both a b rest p.utf8) ∙ p.cut end (chars b ++ rest) (m rest h) ∙ ap (λ ts. us ++ ts) (q.cut end rest h)
      ∙ sym (append_assoc us vs (tokens_in end rest));
}

pub cut_tail : {all : Bool} {a b : Text} {us vs : List Token} → Cut false a us → Tail all b vs → Cut all (a ++ b) (us ++ vs)
cut_tail {all = all} {a = a} {b = b} {us = us} {vs = vs} p q = joined all false a b us vs p q.is q.stops

pub sure_cut : {all : Bool} {a b : Text} {us vs : List Token} → Cut true a us → Cut all b vs → Cut all (a ++ b) (us ++ vs)
sure_cut {all = all} {a = a} {b = b} {us = us} {vs = vs} p q = joined all true a b us vs p q (λ rest h. tt)

pub tail_tail : {all : Bool} {a b : Text} {us vs : List Token} → Tail false a us → Tail all b vs → Tail all (a ++ b) (us ++ vs)
tail_tail {all = all} {a = a} {b = b} {us = us} {vs = vs} p q = record {
  is = cut_tail p.is q;
  stops = λ rest h. subst Breaks (sym (chars_both a b rest p.is.utf8)) (p.stops (chars b ++ rest) (q.stops rest h));
}

pub sure_tail : {all : Bool} {a b : Text} {us vs : List Token} → Tail true a us → Cut all b vs → Tail all (a ++ b) (us ++ vs)
sure_tail {all = all} {a = a} {b = b} {us = us} {vs = vs} p q = record {
  is = sure_cut p.is q;
  stops = λ rest h. subst Breaks (sym (chars_both a b rest p.is.utf8)) (p.stops (chars b ++ rest) tt);
}

pub weaker : {t : Text} {ts : List Token} → Cut true t ts → Cut false t ts
weaker p = record { utf8 = p.utf8; cut = λ end rest h. p.cut end rest tt }

pub weaker_tail : {t : Text} {ts : List Token} → Tail true t ts → Tail false t ts
weaker_tail p = record { is = weaker p.is; stops = λ rest h. p.stops rest tt }

pub tail_nil : Tail false [] []
tail_nil = record {
  is = record { utf8 = IsUtf8-nil; cut = λ end rest h. ap (λ z. tokens_in end (z ++ rest)) chars-nil };
  stops = λ rest h. subst (λ (z : Text). Breaks (z ++ rest)) (sym chars-nil) h;
}

-- the same, grouped to the left
pub regroup : {all : Bool} (a b c : Text) {ts : List Token} → Cut all (a ++ (b ++ c)) ts → Cut all ((a ++ b) ++ c) ts
regroup {all = all} a b c {ts = ts} p = subst (λ (z : Text). Cut all z ts) (sym (append_assoc a b c)) p

pub regroup_tail : {all : Bool} (a b c : Text) {ts : List Token} → Tail all (a ++ (b ++ c)) ts → Tail all ((a ++ b) ++ c) ts
regroup_tail {all = all} a b c {ts = ts} p = subst (λ (z : Text). Tail all z ts) (sym (append_assoc a b c)) p

-- ---- single tokens

pub name_cut : (t : Text) → IsName language.Script t → Cut false t (name_token t ∷ [])
name_cut t h = by (chars t) refl h.characters
  where
    by : (z : Text) → chars t ≡ z → AreOfName z → Cut false t (name_token t ∷ [])
    by [] e a = absurd a
    by (c ∷ cs) e a =
        let same : encode_utf8_all (c ∷ cs) ≡ t = ap encode_utf8_all (sym e) ∙ encodes-chars t h.utf8 in
        record {
          utf8 = h.utf8;
          cut = λ end rest b.
              ap (λ z. tokens_in end (z ++ rest)) e
              ∙ named_lexed end c cs rest k.Name a.0 a.1 (ap (keyword language.Script) same ∙ h.no_keyword) b
              ∙ (λ j. record { kind = k.Name; text = same j } ∷ tokens_in end rest);
        }

digits_small : (cs : Text) → AreDigits cs → all_small cs ≡ true
digits_small [] h = refl
digits_small (c ∷ cs) h = (λ j. small c h.0 j && digits_small cs h.1 j)
  where
    small : (c : ℕ) → is_ascii_digit c ≡ true → nat_lt c 128 ≡ true
    small c h = grind (arith, nat_tests)

encoded : (t : Text) → all_small t ≡ true → encode_utf8_all t ≡ t
encoded t h = let are = ascii t h in ap encode_utf8_all (sym (chars-IsAscii t are)) ∙ encodes-chars t (IsUtf8-from_ascii t are)

-- a text of small characters
pub plain : (all : Bool) (t : Text) (ts : List Token) → all_small t ≡ true
    → ((end : ℕ) (rest : Text) → May all rest → tokens_in end (t ++ rest) ≡ ts ++ tokens_in end rest) → Cut all t ts
plain all t ts small p =
    let are = ascii t small in
    record { utf8 = IsUtf8-from_ascii t are; cut = λ end rest h. ap (λ z. tokens_in end (z ++ rest)) (chars-IsAscii t are) ∙ p end rest h }

-- a number
pub digits_cut : (c : ℕ) (cs : Text) → AreDigits (c ∷ cs) → Cut false (c ∷ cs) (record { kind = k.Number; text = c ∷ cs } ∷ [])
digits_cut c cs d =
    let small = digits_small (c ∷ cs) d in
    plain false (c ∷ cs) (record { kind = k.Number; text = c ∷ cs } ∷ []) small
    (λ end rest b. number_lexed end c cs rest d b ∙ (λ j. record { kind = k.Number; text = encoded (c ∷ cs) small j } ∷ tokens_in end rest))

pub number_cut : (n : ℕ) → n < 2 ^ 64 → Cut false (decimal n) (number_token n ∷ [])
number_cut n small = by (decimal n) (decimal_digits n small) (decimal_nonempty n small)
  where
    by : (t : Text) → AreDigits t → 0 < length t → Cut false t (record { kind = k.Number; text = t } ∷ [])
    by [] d h = absurd (omega (arith, h))
    by (c ∷ cs) d h = digits_cut c cs d

pub plain_tail : (all : Bool) (c : ℕ) (t : Text) (ts : List Token) → Cut all (c ∷ t) ts → all_small (c ∷ t) ≡ true
    → is_ascii_alphanumeric c ≡ false → (c == 95) ≡ false → is_ascii_digit c ≡ false → c < 128 → Tail all (c ∷ t) ts
unfolding continues_name
plain_tail all c t ts p small a u d below = record {
  is = p;
  stops = λ rest h. subst (λ (z : Text). Breaks (z ++ rest)) (sym (chars-IsAscii (c ∷ t) (ascii (c ∷ t) small)))
      ((λ j. is_xid_continue-ascii c below j || is_ascii_digit c) ∙ (λ j. (a j || u j) || d j));
}

-- a symbol, where this stands behind it
pub record Mark (c : ℕ) (cs behind : Text) (kd : Kind) : Type 0 where
  pub below : c < 128
  pub letter : is_ascii_alphabetic c ≡ false
  pub either : is_ascii_alphanumeric c ≡ false
  pub low : (c == 95) ≡ false
  pub digit : is_ascii_digit c ≡ false
  pub clear : ((c == 35) ≡ false) × (is_blank c ≡ false)
  pub small : all_small (c ∷ cs) ≡ true
  pub small_behind : all_small (c ∷ cs ++ behind) ≡ true
  pub is : (rest : Text) → symbol c (slice_index (cs ++ (behind ++ rest)) 0) ≡ kd
  pub len : symbol_len kd ≡ 1 + length cs
  pub skips : (end : ℕ) (rest : Text) → tokens_in end (behind ++ rest) ≡ tokens_in end rest

pub mark_tail : (c : ℕ) (cs behind : Text) (kd : Kind) → Mark c cs behind kd → Tail true (c ∷ cs ++ behind) (record { kind = kd; text = c ∷ cs } ∷ [])
mark_tail c cs behind kd m =
    plain_tail true c (cs ++ behind) (record { kind = kd; text = c ∷ cs } ∷ []) (plain true (c ∷ cs ++ behind) (record { kind = kd; text = c ∷ cs } ∷ [])
    m.small_behind
    (λ end rest h. ap (tokens_in end) (append_assoc (c ∷ cs) behind rest)
    ∙ sign_lexed end c cs (behind ++ rest) kd m.below m.letter m.low m.digit m.clear (m.is rest) m.len
    ∙ (λ j. record { kind = kd; text = encoded (c ∷ cs) m.small j } ∷ m.skips end rest j))) m.small_behind m.either m.low m.digit m.below

-- a space
pub space : Tail true (32 ∷ []) []
unfolding words_from
space = plain_tail true 32 [] [] (plain true (32 ∷ []) [] refl (λ end rest h. refl)) refl refl refl refl (lit< tt)

-- ASCII letters
abbrev are_letters : Text → Bool
are_letters [] = true
are_letters (c ∷ cs) = is_ascii_alphanumeric c && are_letters cs

letters_go : (cs : Text) → are_letters cs ≡ true → GoOn cs
unfolding continues_name
letters_go [] h = tt
letters_go (c ∷ cs) h =
    let p = and_parts (is_ascii_alphanumeric c) (are_letters cs) h in
    let letter = p.0 in
    let below : c < 128 = grind (arith, nat_tests) in
    ((λ j. is_xid_continue-ascii c below j) ∙ (λ j. letter j || (c == 95)), letters_go cs p.1)

-- a keyword
pub keyword_cut : (c : ℕ) (cs : Text) (kd : Kind) → c < 128 → is_ascii_alphabetic c ≡ true → are_letters cs ≡ true → all_small (c ∷ cs) ≡ true
    → keyword language.Script (c ∷ cs) ≡ kd → Cut false (c ∷ cs) (record { kind = kd; text = c ∷ cs } ∷ [])
unfolding begins_name
keyword_cut c cs kd below letter letters small is =
    let begins : begins_name c ≡ true = (λ j. is_xid_start-ascii c below j || (c == 95)) ∙ (λ j. letter j || (c == 95)) in
    plain false (c ∷ cs) (record { kind = kd; text = c ∷ cs } ∷ []) small (λ end rest h.
    named_lexed end c cs rest kd begins (letters_go cs letters) (ap (keyword language.Script) (encoded (c ∷ cs) small) ∙ is) h
    ∙ (λ j. record { kind = kd; text = encoded (c ∷ cs) small j } ∷ tokens_in end rest))

not_dot : (c : ℕ) → is_ascii_digit c ≡ true → (c == 46) ≡ false
not_dot c h = grind (arith, nat_tests)

-- a dot and a number
pub position_tail : (n : ℕ) → n < 2 ^ 64 → Tail false (46 ∷ decimal n) (sign k.Dot ∷ number_token n ∷ [])
unfolding symbol
position_tail n small = by (decimal n) (decimal_digits n small) (decimal_nonempty n small)
  where
    by : (t : Text) → AreDigits t → 0 < length t → Tail false (46 ∷ t) (sign k.Dot ∷ record { kind = k.Number; text = t } ∷ [])
    by [] d h = absurd (omega (arith, h))
    by (c ∷ cs) d h =
        let digits = digits_small (c ∷ cs) d in
        let ts : List Token = sign k.Dot ∷ record { kind = k.Number; text = c ∷ cs } ∷ [] in
        plain_tail false 46 (c ∷ cs) ts (plain false (46 ∷ c ∷ cs) ts digits
        (λ end rest b. sign_lexed end 46 [] (c ∷ cs ++ rest) k.Dot (lit< tt) refl refl refl (refl, refl)
        (λ j. if not_dot c d.0 j then k.DotDot else k.Dot) refl
        ∙ (λ j. record { kind = k.Dot; text = encoded (46 ∷ []) refl j } ∷ tokens_in end (c ∷ cs ++ rest))
        ∙ ap (λ (us : List Token). sign k.Dot ∷ us) (number_lexed end c cs rest d b
        ∙ (λ j. record { kind = k.Number; text = encoded (c ∷ cs) digits j } ∷ tokens_in end rest)))) digits refl refl refl (lit< tt)
