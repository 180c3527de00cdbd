-- The words of a source text: those of the kind of names are names, and there are no more words than bytes.
use Rattle.std.proofs.Common.{◌≡◌, ℕ, zero, suc, ◌+◌, ◌-◌, ◌≤◌, Bool, true, false, ◌&&◌, not, ◌==◌, if◌then◌else◌, cond, List, [], ◌∷◌, ◌++◌}
use Rattle.std.proofs.Common.{length, take, refl, sym, ap, subst, ◌∙◌, arith, length-append, Result}
use Rattle.std.specs.Prelude.{slice_index}
use Rattle.std.specs.Char.{is_ascii_digit}
use Rattle.std.specs.Str.{IsUtf8, all_scalars, bytes_eq, chars, encode_utf8_all}
use Rattle.std.proofs.lemmas.Bool.{and_from, and_parts}
use Rattle.std.proofs.lemmas.Str.{chars-encodes, encodes-chars, length-le-encodes, scalars-chars}
use Rattle.text_tokens.specs.declared.kind.Kind.{Kind}
use Rattle.text_tokens.specs.declared.kind.Kind.TheVariants as k
use Rattle.text_tokens.specs.declared.kind.Language.{Language}
use Rattle.text_tokens.specs.declared.kind.Language.TheVariants.{SourceOne}
use Rattle.text_tokens.specs.Kinds.{Table, Text, declaration_words, form_words, has_symbol, keyword, kind_in, reshape_words, symbol, symbol_len, symbol_of}
use Rattle.text_tokens.specs.Lex.{begins_name, continues_name, is_blank, name_len, digits_len, word}
use Rattle.text_tokens.specs.Names.{AreOfName, GoOn, IsName}
use Rattle.reader_laws.specs.declared.fault.Fault.{Fault}
use Rattle.reader_laws.specs.Grammar.{Both, IsWordOf}
use Rattle.text_tokens.specs.Words.{Word, first_word, words_from, words_of}

-- ---- kinds

-- the kinds of words that are spelled as a name and are in question here
abbrev is_named : Kind → Bool
is_named k.Name = true
is_named k.Word = true
is_named kd = false

abbrev is_word : Kind → Bool
is_word k.Word = true
is_word kd = false

either : (b : Bool) (x y : Kind) → is_named x ≡ false → is_named y ≡ false → is_named (if b then x else y) ≡ false
either true x y p q = p
either false x y p q = q

symbol_unnamed : (c next : ℕ) → is_named (symbol c next) ≡ false
unfolding symbol
symbol_unnamed c next =
    either (c == 59) _ _ refl (either (c == 44) _ _ refl
    (either (c == 46) _ _ (either (next == 46) _ _ refl refl)
    (either (c == 91) _ _ refl (either (c == 93) _ _ refl (either (c == 40) _ _ refl (either (c == 41) _ _ refl
    (either (c == 123) _ _ refl (either (c == 125) _ _ refl (either (c == 58) _ _ refl
    (either (c == 60) _ _ (either (next == 61) _ _ refl refl)
    (either (c == 62) _ _ (either (next == 61) _ _ refl refl)
    (either (c == 61) _ _ (either (next == 61) _ _ refl refl)
    (either (c == 43) _ _ refl (either (c == 45) _ _ refl (either (c == 42) _ _ refl (either (c == 47) _ _ refl
    (either (c == 37) _ _ refl refl)))))))))))))))))

symbol_of_unnamed : (language : Language) (c next : ℕ) → is_named (symbol_of language c next) ≡ false
unfolding symbol_of
symbol_of_unnamed language c next = either (has_symbol language (symbol c next)) _ _ (symbol_unnamed c next) refl

abbrev none_word : Table → Bool
none_word [] = true
none_word (row ∷ rows) = not (is_word row.1) && none_word rows

no_word_in : (rows : Table) (t : Text) (other : Kind) → none_word rows ≡ true → is_word other ≡ false → is_word (kind_in rows t other) ≡ false
unfolding kind_in
no_word_in [] t other p q = q
no_word_in (row ∷ rows) t other p q =
    let h = and_parts (not (is_word row.1)) (none_word rows) p in
    by (bytes_eq t row.0) (plain (is_word row.1) h.0) (no_word_in rows t other h.1 q)
  where
    plain : (b : Bool) → not b ≡ true → b ≡ false
    plain true e = absurd cc
    plain false e = refl

    by : (b : Bool) → is_word row.1 ≡ false → is_word (kind_in rows t other) ≡ false → is_word (if b then row.1 else kind_in rows t other) ≡ false
    by true e f = e
    by false e f = f

-- no word of version 1 is `word`
keyword_one : (t : Text) → is_word (keyword SourceOne t) ≡ false
unfolding keyword
keyword_one t =
    no_word_in declaration_words t _ refl (no_word_in form_words t _ refl (no_word_in reshape_words t k.Name refl refl))

-- ---- a word

module _ (language : Language) where
  -- what is asked of a word that is cut from a text
  pub record IsCut (w : Word) : Type 0 where
    pub name : w.kind ≡ k.Name → IsName language w.text
    pub no_word : language ≡ SourceOne → w.kind ≡ k.Word → ⊥

  some_taken : (n : ℕ) (z : Text) → all_scalars z ≡ true → all_scalars (take n z) ≡ true
  some_taken zero z h = refl
  some_taken (suc n) [] h = refl
  some_taken (suc n) (c ∷ z) h =
      let p = and_parts _ (all_scalars z) h in and_from _ (all_scalars (take n z)) p.0 (some_taken n z p.1)

  past : (c : ℕ) (z : Text) → all_scalars (c ∷ z) ≡ true → all_scalars z ≡ true
  past c z h = (and_parts _ (all_scalars z) h).1

  goes_on : (z : Text) → GoOn (take (name_len z) z)
  goes_on [] = tt
  goes_on (c ∷ z) = by (continues_name c) refl (goes_on z)
    where
      by : (b : Bool) → continues_name c ≡ b → GoOn (take (name_len z) z) → GoOn (take (cond b (1 + name_len z) 0) (c ∷ z))
      by true e h = let n : 1 + name_len z ≡ suc (name_len z) = omega arith in subst (λ m. GoOn (take m (c ∷ z))) (sym n) (e, h)
      by false e h = tt

  -- the bytes of a name at the front
  abbrev name_text : ℕ → Text → Text
  name_text c z = encode_utf8_all (take (1 + name_len z) (c ∷ z))

  named_cut : (c : ℕ) (z : Text) (place : ℕ) → all_scalars (c ∷ z) ≡ true → begins_name c ≡ true
      → IsCut (record { kind = keyword language (name_text c z); text = name_text c z; place = place })
  named_cut c z place s b =
      let front = take (1 + name_len z) (c ∷ z) in
      let n : 1 + name_len z ≡ suc (name_len z) = omega arith in
      let scalar = some_taken (1 + name_len z) (c ∷ z) s in
      let of : AreOfName front = subst (λ m. AreOfName (take m (c ∷ z))) (sym n) (b, goes_on z) in
      record {
        name = λ e. record { utf8 = (front, (scalar, refl)); characters = subst AreOfName (sym (chars-encodes front scalar)) of; no_keyword = e };
        no_word = λ one e. clash (keyword language (name_text c z)) (ap (λ l. is_word (keyword l (name_text c z))) one ∙ keyword_one (name_text c z)) e;
      }
    where
      clash : (kd : Kind) → is_word kd ≡ false → kd ≡ k.Word → ⊥
      clash kd e h = let g : is_word k.Word ≡ false = ap is_word (sym h) ∙ e in cc

  other_cut : (w : Word) → is_named w.kind ≡ false → IsCut w
  other_cut w e = record {
    name = λ h. let g : is_named k.Name ≡ false = ap is_named (sym h) ∙ e in absurd cc;
    no_word = λ one h. let g : is_named k.Word ≡ false = ap is_named (sym h) ∙ e in cc;
  }

  first_cut : (end c : ℕ) (z : Text) → all_scalars (c ∷ z) ≡ true → IsCut (first_word language end (c ∷ z))
  unfolding first_word word
  first_cut end c z s = by (begins_name c) (is_ascii_digit c) refl
    where
      place : ℕ
      place = end - length (encode_utf8_all (c ∷ z))

      of : Kind × ℕ → Word
      of p = record { kind = p.0; text = encode_utf8_all (take p.1 (c ∷ z)); place = place }

      by : (a b : Bool) → begins_name c ≡ a
          → IsCut (of (if a then (keyword language (encode_utf8_all (take (1 + name_len z) (c ∷ z))), 1 + name_len z)
          else (if b then (k.Number, 1 + digits_len z) else (symbol_of language c (slice_index z 0), symbol_len (symbol_of language c (slice_index z 0))))))
      by true b e = named_cut c z place s e
      by false true e = other_cut (of (k.Number, 1 + digits_len z)) refl
      by false false e =
          let kd = symbol_of language c (slice_index z 0) in
          other_cut (of (kd, symbol_len kd)) (symbol_of_unnamed language c (slice_index z 0))

  -- ---- all words

  abbrev pub AreCut : List Word → Type 0
  AreCut [] = Unit {0}
  AreCut (w ∷ ws) = IsCut w × AreCut ws

  words_cut : (end left : ℕ) (in_comment : Bool) (z : Text) → all_scalars z ≡ true → AreCut (words_from language end left in_comment z)
  unfolding words_from
  words_cut end left in_comment [] s = tt
  words_cut end (suc left) in_comment (c ∷ z) s = words_cut end left in_comment z (past c z s)
  words_cut end zero true (c ∷ z) s = words_cut end zero (not (c == 10)) z (past c z s)
  words_cut end zero false (c ∷ z) s =
      by (c == 35) (is_blank c) _ _ _ (words_cut end zero true z (past c z s)) (words_cut end zero false z (past c z s))
      (first_cut end c z s, words_cut end ((word language (c ∷ z)).1 - 1) false z (past c z s))
    where
      by : (a b : Bool) (xs ys zs : List Word) → AreCut xs → AreCut ys → AreCut zs → AreCut (if a then xs else (if b then ys else zs))
      by true b xs ys zs p q r = p
      by false true xs ys zs p q r = q
      by false false xs ys zs p q r = r

  few_words : (end left : ℕ) (in_comment : Bool) (z : Text) → length (words_from language end left in_comment z) ≤ length z
  unfolding words_from
  few_words end left in_comment [] = omega arith
  few_words end (suc left) in_comment (c ∷ z) = let h = few_words end left in_comment z in omega (arith, h)
  few_words end zero true (c ∷ z) = let h = few_words end zero (not (c == 10)) z in omega (arith, h)
  few_words end zero false (c ∷ z) =
      let left = (word language (c ∷ z)).1 - 1 in
      by (c == 35) (is_blank c) (words_from language end zero true z) (words_from language end zero false z) (words_from language end left false z)
      (few_words end zero true z) (few_words end zero false z) (few_words end left false z)
    where
      by : (a b : Bool) (xs ys zs : List Word) → length xs ≤ length z → length ys ≤ length z → length zs ≤ length z
          → length (if a then xs else (if b then ys else first_word language end (c ∷ z) ∷ zs)) ≤ length (c ∷ z)
      by true b xs ys zs p q r = omega (arith, p)
      by false true xs ys zs p q r = omega (arith, q)
      by false false xs ys zs p q r = omega (arith, r)

  -- words that stand beside each other in a text
  pub record Cut (ws : List Word) : Type 0 where
    pub all : AreCut ws
    pub few : length ws ≤ 2147483647

  pub text_cut : (z : Text) → IsUtf8 z → length z ≤ 2147483647 → Cut (words_of language z)
  text_cut z u short = record {
    all = words_cut (length z) zero false (chars z) (scalars-chars z u);
    few =
        let h = few_words (length z) zero false (chars z) in
        let g = length-le-encodes (chars z) in
        omega (arith, h, g, ap length (encodes-chars z u), short);
  }

  cut_both : (f r : List Word) → AreCut (f ++ r) → AreCut f × AreCut r
  cut_both [] r h = (tt, h)
  cut_both (w ∷ f) r h = let g = cut_both f r h.1 in ((h.0, g.0), g.1)

  pub before : (ws f r : List Word) → ws ≡ f ++ r → Cut ws → Cut f
  before ws f r e c = record { all = (cut_both f r (subst AreCut e c.all)).0; few = omega (arith, ap length e, length-append f r, c.few) }

  pub after : (ws f r : List Word) → ws ≡ f ++ r → Cut ws → Cut r
  after ws f r e c = record { all = (cut_both f r (subst AreCut e c.all)).1; few = omega (arith, ap length e, length-append f r, c.few) }

  -- the first of two rules, and what comes then
  module _ {A B : Type 0} {first : List Word → A → Type 0} {second : A → List Word → B → Type 0} {ws : List Word} {y : B}
      (is : Both first second ws y) where
    pub front : Cut ws → Cut is.front
    front c = before ws is.front is.rest is.words c

    pub rest : Cut ws → Cut is.rest
    rest c = after ws is.front is.rest is.words c

  -- the word of a rule of one word
  pub only_word : {A : Type 0} {a : Kind} {reads : Text → Result A Fault} {ws : List Word} {x : A} (is : IsWordOf a reads ws x) → Cut ws → IsCut is.word
  only_word is c = (subst AreCut is.words c.all).0
