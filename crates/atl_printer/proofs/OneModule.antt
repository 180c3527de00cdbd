-- A text is the text of one module at most.
use Rattle.std.proofs.Common.{◌≡◌, ◌⊎◌, inl, inr, ℕ, zero, suc, ◌+◌, ◌-◌, List, [], ◌∷◌, ◌++◌, length, take, Bool, true, false, not, ◌==◌, if◌then◌else◌}
use Rattle.std.proofs.Common.{Ok, Err, refl, ap, sym, ◌∙◌, subst, arith}
use Rattle.std.proofs.lemmas.Slice.Eq.{bytes_eq-Decides}
use Rattle.std.specs.Prelude.{codes, slice_index}
use Rattle.std.specs.Char.{is_ascii_digit}
use Rattle.std.specs.Str.{bytes_eq, chars, encode_utf8_all}
use Rattle.text_tokens.specs.declared.kind.Kind.{Kind}
use Rattle.text_tokens.specs.declared.kind.Kind.TheVariants as k
use Rattle.text_tokens.specs.declared.kind.Language.TheVariants.{SourceOne, SourceTwo}
use Rattle.text_tokens.specs.Kinds.{Text, has_symbol, keyword, symbol, symbol_len, symbol_of}
use Rattle.text_tokens.specs.Lex.{begins_name, digits_len, is_blank, name_len, word}
use Rattle.text_tokens.specs.Words.{Word, first_word, words_from, words_of}
use Rattle.term_tree.specs.declared.term.Module.{Module}
use Rattle.reader_laws.specs.declared.fault.Fault.TheVariants.{BadSyntax}
use Rattle.source_grammar.specs.Source.{IsSource, SourceText, language, version_text, version_value}
use Rattle.source_grammar.proofs.ModuleLaws.{source_read}

-- ---- both versions cut a text alike

same_symbols : (kd : Kind) → has_symbol SourceOne kd ≡ has_symbol SourceTwo kd
same_symbols k.Colon = refl
same_symbols k.LBrace = refl
same_symbols k.RBrace = refl
same_symbols kd = refl

same_symbol : (c d : ℕ) → symbol_of SourceOne c d ≡ symbol_of SourceTwo c d
unfolding symbol_of
same_symbol c d = ap (λ b. if b then symbol c d else k.Bad) (same_symbols (symbol c d))

-- a name, a number or a symbol
abbrev chosen : ℕ → ℕ → Kind → Kind → Bool → Bool → Kind × ℕ
chosen m n name sign a b = if a then (name, m) else (if b then (k.Number, n) else (sign, symbol_len sign))

same_chosen : (m n : ℕ) (name name' sign sign' : Kind) (a b : Bool) → sign ≡ sign' → (chosen m n name sign a b).1 ≡ (chosen m n name' sign' a b).1
same_chosen m n name name' sign sign' true b e = refl
same_chosen m n name name' sign sign' false true e = refl
same_chosen m n name name' sign sign' false false e = ap symbol_len e

same_length : (z : Text) → (word SourceOne z).1 ≡ (word SourceTwo z).1
unfolding word
same_length [] = refl
same_length (c ∷ z) =
    let name = encode_utf8_all (take (1 + name_len z) (c ∷ z)) in
    same_chosen (1 + name_len z) (1 + digits_len z) (keyword SourceOne name) (keyword SourceTwo name) (symbol_of SourceOne c (slice_index z 0))
    (symbol_of SourceTwo c (slice_index z 0)) (begins_name c) (is_ascii_digit c) (same_symbol c (slice_index z 0))

abbrev texts : List Word → List Text
texts [] = []
texts (w ∷ ws) = w.text ∷ texts ws

same_either : (p q : Bool) (a a' b b' c c' : List Word) → texts a ≡ texts a' → texts b ≡ texts b' → texts c ≡ texts c'
    → texts (if p then a else (if q then b else c)) ≡ texts (if p then a' else (if q then b' else c'))
same_either true q a a' b b' c c' e f g = e
same_either false true a a' b b' c c' e f g = f
same_either false false a a' b b' c c' e f g = g

same_texts : (z : Text) (end left : ℕ) (b : Bool) → texts (words_from SourceOne end left b z) ≡ texts (words_from SourceTwo end left b z)
unfolding words_from first_word
same_texts [] end left b = refl
same_texts (c ∷ z) end (suc left) b = same_texts z end left b
same_texts (c ∷ z) end zero true = same_texts z end zero (not (c == 10))
same_texts (c ∷ z) end zero false =
    let behind = same_texts z end ((word SourceOne (c ∷ z)).1 - 1) false ∙ ap (λ n. texts (words_from SourceTwo end (n - 1) false z)) (same_length (c ∷ z)) in
    same_either (c == 35) (is_blank c) (words_from SourceOne end zero true z) (words_from SourceTwo end zero true z)
    (words_from SourceOne end zero false z) (words_from SourceTwo end zero false z)
    (first_word SourceOne end (c ∷ z) ∷ words_from SourceOne end ((word SourceOne (c ∷ z)).1 - 1) false z)
    (first_word SourceTwo end (c ∷ z) ∷ words_from SourceTwo end ((word SourceTwo (c ∷ z)).1 - 1) false z)
    (same_texts z end zero true) (same_texts z end zero false) (λ j. encode_utf8_all (take (same_length (c ∷ z) j) (c ∷ z)) ∷ behind j)

-- ---- the version stands in the second word

abbrev second : List Text → Text
second [] = []
second (t ∷ []) = []
second (t ∷ (u ∷ us)) = u

version_is : (v : ℕ) (t : Text) (u : Unit {0}) → version_value v t ≡ Ok u → t ≡ version_text v
version_is v t u h = (bytes_eq-Decides t (version_text v)).0 (by (bytes_eq t (version_text v)) h)
  where
    by : (b : Bool) → (if b then Ok tt else Err BadSyntax) ≡ Ok u → b ≡ true
    by true e = refl
    by false e = absurd (cc)

version_second : (v : ℕ) (ws : List Word) (m : Module) → IsSource v ws m → second (texts ws) ≡ version_text v
version_second v ws m h =
    let a = h.is_first in
    let b = a.is_then in
    let words : ws ≡ a.is_first.word ∷ (b.is_first.word ∷ (b.rest ++ h.rest)) =
    h.words ∙ (λ j. (a.words ∙ (λ i. a.is_first.words i ++ (b.words ∙ (λ l. b.is_first.words l ++ b.rest)) i)) j ++ h.rest) in
    ap (λ x. second (texts x)) words ∙ version_is v b.is_first.word.text b.value b.is_first.reads_as

one_two : codes "1" ≡ codes "2" → ⊥
one_two e = let h : 49 ≡ 50 = ap (λ (t : Text). slice_index t 0) e in omega (arith, h)

module _ (z : Text) where
  of_version : (v : ℕ) (m : Module) → SourceText z m → m.version ≡ v → IsSource v (words_of (language v) z) m
  of_version v m s e = subst (λ w. IsSource w (words_of (language w) z) m) e s.words

  same_version : (v : ℕ) (m n : Module) → SourceText z m → SourceText z n → m.version ≡ v → n.version ≡ v → m ≡ n
  same_version v m n s t e f =
      let a = source_read v z m (of_version v m s e) in
      let b = source_read v z n (of_version v n t f) in
      cc

  apart : (m n : Module) → SourceText z m → SourceText z n → m.version ≡ 1 → n.version ≡ 2 → ⊥
  apart m n s t e f =
      let a : second (texts (words_of SourceOne z)) ≡ codes "1" = version_second 1 (words_of SourceOne z) m (of_version 1 m s e) in
      let b : second (texts (words_of SourceTwo z)) ≡ codes "2" = version_second 2 (words_of SourceTwo z) n (of_version 2 n t f) in
      one_two (sym a ∙ ap second (same_texts (chars z) (length z) zero false) ∙ b)

  pub one_module : (m n : Module) → SourceText z m → SourceText z n → m ≡ n
  one_module m n s t = by s.version t.version
    where
      by : ((m.version ≡ 1) ⊎ (m.version ≡ 2)) → ((n.version ≡ 1) ⊎ (n.version ≡ 2)) → m ≡ n
      by (inl e) (inl f) = same_version 1 m n s t e f
      by (inr e) (inr f) = same_version 2 m n s t e f
      by (inl e) (inr f) = absurd (apart m n s t e f)
      by (inr e) (inl f) = absurd (apart n m t s f e)
