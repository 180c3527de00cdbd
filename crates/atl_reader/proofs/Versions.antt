-- The words of both versions are alike but for one keyword, so a text is of one version.
use Rattle.std.proofs.Common.{◌≡◌, ◌⊎◌, inl, inr, ℕ, zero, suc, ◌+◌, ◌-◌, ◌&&◌, ◌==◌, not, Bool, true, false, cond, List, [], ◌∷◌, ◌++◌, length, take, Ok, Err}
use Rattle.std.proofs.Common.{Result, refl, sym, ap, subst, ◌∙◌}
use Rattle.std.specs.Prelude.{codes, slice_index}
use Rattle.std.specs.Char.{is_ascii_digit}
use Rattle.std.specs.Str.{bytes_eq, chars, encode_utf8_all}
use Rattle.text_tokens.specs.declared.kind.Kind.{Kind}
use Rattle.text_tokens.specs.declared.kind.Kind.TheVariants as k
use Rattle.text_tokens.specs.declared.kind.Language.{Language}
use Rattle.text_tokens.specs.declared.kind.Language.TheVariants.{SourceOne, SourceTwo}
use Rattle.text_tokens.specs.Kinds.{Table, Text, declaration_words, form_words, has_symbol, keyword, kind_in, reshape_words, same_kind, symbol, symbol_len}
use Rattle.text_tokens.specs.Kinds.{symbol_of, version_two_words}
use Rattle.text_tokens.specs.Lex.{begins_name, digits_len, is_blank, name_len, word}
use Rattle.text_tokens.specs.Words.{Input, Word, first_word, input, next, peek, words_from, words_of}
use Rattle.std.proofs.lemmas.Slice.Eq.{bytes_eq-Decides}
use Rattle.term_tree.specs.declared.term.Module.{Module}
use Rattle.reader_laws.specs.declared.fault.Fault.{Fault}
use Rattle.reader_laws.specs.declared.fault.Fault.TheVariants.{BadSyntax}
use Rattle.reader_laws.specs.Steps.{kind, text}
use Rattle.reader_laws.proofs.Outcomes.{same_self}
use Rattle.source_grammar.specs.Source.{IsSource, language, version_text, version_value}
use Rattle.atl_reader.specs.Source.{version_at, version_of}

-- the same kind, but that version 1 has a name where version 2 has the keyword `word`
abbrev pub Alike : Kind → Kind → Type 0
Alike a b = (a ≡ b) ⊎ ((a ≡ k.Name) × (b ≡ k.Word))

in_table : (rows : Table) (t : Text) (a b : Kind) → Alike a b → Alike (kind_in rows t a) (kind_in rows t b)
unfolding kind_in
in_table [] t a b h = h
in_table (row ∷ rows) t a b h = go (bytes_eq t row.0) (in_table rows t a b h)
  where
    go : (v : Bool) → Alike (kind_in rows t a) (kind_in rows t b) → Alike (cond v row.1 (kind_in rows t a)) (cond v row.1 (kind_in rows t b))
    go true g = inl refl
    go false g = g

word_or_name : (t : Text) → Alike k.Name (kind_in version_two_words t k.Name)
unfolding kind_in
word_or_name t = go (bytes_eq t (codes "word"))
  where
    go : (v : Bool) → Alike k.Name (cond v k.Word k.Name)
    go true = inr (refl, refl)
    go false = inl refl

keywords_alike : (t : Text) → Alike (keyword SourceOne t) (keyword SourceTwo t)
unfolding keyword
keywords_alike t =
    in_table declaration_words t (kind_in form_words t (kind_in reshape_words t k.Name))
    (kind_in form_words t (kind_in reshape_words t (kind_in version_two_words t k.Name)))
    (in_table form_words t (kind_in reshape_words t k.Name) (kind_in reshape_words t (kind_in version_two_words t k.Name))
    (in_table reshape_words t k.Name (kind_in version_two_words t k.Name) (word_or_name t)))

same_symbols : (kd : Kind) → has_symbol SourceOne kd ≡ has_symbol SourceTwo kd
same_symbols k.Colon = refl
same_symbols k.LBrace = refl
same_symbols k.RBrace = refl
same_symbols kd = refl

symbols_alike : (c next : ℕ) → symbol_of SourceOne c next ≡ symbol_of SourceTwo c next
unfolding symbol_of
symbols_alike c next = ap (λ b. cond b (symbol c next) k.Bad) (same_symbols (symbol c next))

-- the word at the front: kinds that are alike, and one length
abbrev AlikeWords : Kind × ℕ → Kind × ℕ → Type 0
AlikeWords a b = Alike a.0 b.0 × (a.1 ≡ b.1)

pub word_alike : (z : Text) → AlikeWords (word SourceOne z) (word SourceTwo z)
unfolding word
word_alike [] = (inl refl, refl)
word_alike (c ∷ z) = go (begins_name c) (is_ascii_digit c)
  where
    name : Text
    name = encode_utf8_all (take (1 + name_len z) (c ∷ z))

    sign : Language → Kind
    sign language = symbol_of language c (slice_index z 0)

    go : (a b : Bool) → AlikeWords
        (cond a (keyword SourceOne name, 1 + name_len z) (cond b (k.Number, 1 + digits_len z) (sign SourceOne, symbol_len (sign SourceOne))))
        (cond a (keyword SourceTwo name, 1 + name_len z) (cond b (k.Number, 1 + digits_len z) (sign SourceTwo, symbol_len (sign SourceTwo))))
    go true b = (keywords_alike name, refl)
    go false true = (inl refl, refl)
    go false false = (inl (symbols_alike c (slice_index z 0)), ap symbol_len (symbols_alike c (slice_index z 0)))

-- words of one text, cut in both ways
abbrev pub AreAlike : List Word → List Word → Type 0
AreAlike [] [] = Unit {0}
AreAlike (v ∷ vs) (w ∷ ws) = Alike v.kind w.kind × (v.text ≡ w.text) × AreAlike vs ws
AreAlike vs ws = ⊥

alike_from : (end left : ℕ) (in_comment : Bool) (z : Text) → AreAlike (words_from SourceOne end left in_comment z) (words_from SourceTwo end left in_comment z)
unfolding words_from first_word
alike_from end left in_comment [] = tt
alike_from end (suc left) in_comment (c ∷ z) = alike_from end left in_comment z
alike_from end zero true (c ∷ z) = alike_from end zero (not (c == 10)) z
alike_from end zero false (c ∷ z) = go (c == 35) (is_blank c) (alike_from end zero true z) (alike_from end zero false z)
    (alike_from end ((word SourceOne (c ∷ z)).1 - 1) false z)
  where
    cut : Language → ℕ → List Word
    cut language n = first_word language end (c ∷ z) ∷ words_from language end n false z

    go : (a b : Bool) → AreAlike (words_from SourceOne end zero true z) (words_from SourceTwo end zero true z)
        → AreAlike (words_from SourceOne end zero false z) (words_from SourceTwo end zero false z)
        → AreAlike (words_from SourceOne end ((word SourceOne (c ∷ z)).1 - 1) false z) (words_from SourceTwo end ((word SourceOne (c ∷ z)).1 - 1) false z)
        → AreAlike (cond a (words_from SourceOne end zero true z)
        (cond b (words_from SourceOne end zero false z) (cut SourceOne ((word SourceOne (c ∷ z)).1 - 1))))
        (cond a (words_from SourceTwo end zero true z) (cond b (words_from SourceTwo end zero false z) (cut SourceTwo ((word SourceTwo (c ∷ z)).1 - 1))))
    go true b p q r = p
    go false true p q r = q
    go false false p q r =
        let w = word_alike (c ∷ z) in (
          w.0,
          ap (λ n. encode_utf8_all (take n (c ∷ z))) w.1,
          subst (λ n. AreAlike (words_from SourceOne end ((word SourceOne (c ∷ z)).1 - 1) false z) (words_from SourceTwo end (n - 1) false z)) w.1 r,
        )

pub versions_alike : (z : Text) → AreAlike (words_of SourceOne z) (words_of SourceTwo z)
versions_alike z = alike_from (length z) zero false (chars z)

-- ---- the version that a text names

text_is : (t u : Text) → bytes_eq t u ≡ true → t ≡ u
text_is t u h = (bytes_eq-Decides t u).0 h

version_text_is : (v : ℕ) (t : Text) → version_value v t ≡ Ok tt → t ≡ version_text v
version_text_is v t h = go (bytes_eq t (version_text v)) refl h
  where
    go : (b : Bool) → bytes_eq t (version_text v) ≡ b → cond b (let r : Result (Unit {0}) Fault = Ok tt in r) (Err BadSyntax) ≡ Ok tt → t ≡ version_text v
    go true e h = text_is t (version_text v) e
    go false e h = absurd cc

-- the first two words of a source
record Begins (version : ℕ) (ws : List Word) : Type 0 where
  first : Word
  second : Word
  rest : List Word
  words : ws ≡ first ∷ (second ∷ rest)
  is_atl : first.kind ≡ k.Atl
  is_number : second.kind ≡ k.Number
  text_is : second.text ≡ version_text version

unit_is : {A : Type 0} (r : Result (Unit {0}) A) (u : Unit {0}) → r ≡ Ok u → r ≡ Ok tt
unit_is r u h = h

begun : (version : ℕ) (ws : List Word) (m : Module) → IsSource version ws m → Begins version ws
begun version ws m is =
    let h = is.is_first in
    let a = h.is_first in
    let n = h.is_then.is_first in
    record {
      first = a.word;
      second = n.word;
      rest = h.is_then.rest ++ is.rest;
      words = is.words ∙ ap (λ (vs : List Word). vs ++ is.rest) (h.words ∙ ap (λ (vs : List Word). vs ++ h.rest) a.words
          ∙ ap (λ (vs : List Word). a.word ∷ vs) (h.is_then.words ∙ ap (λ (vs : List Word). vs ++ h.is_then.rest) n.words));
      is_atl = a.is;
      is_number = n.is;
      text_is = version_text_is version n.word.text (unit_is (version_value version n.word.text) h.is_then.value n.reads_as);
    }

two_words : (end : ℕ) (a b : Word) (more : List Word) → let i : Input = record { words = a ∷ (b ∷ more); end = end } in
    version_at i ≡ cond (same_kind a.kind k.Atl && same_kind b.kind k.Number && bytes_eq b.text (codes "2")) 2 1
unfolding version_at peek next
two_words end a b more = refl

in_words : (z : Text) (a b : Word) (more : List Word) → words_of SourceOne z ≡ a ∷ (b ∷ more)
    → version_of z ≡ cond (same_kind a.kind k.Atl && same_kind b.kind k.Number && bytes_eq b.text (codes "2")) 2 1
in_words z a b more e = ap (λ (ws : List Word). let i : Input = record { words = ws; end = length z } in version_at i) e ∙ two_words (length z) a b more

-- a number that is not 2
not_two : (a b : Bool) → (let v : ℕ = cond (a && b && false) 2 1 in v) ≡ 1
not_two true true = refl
not_two true false = refl
not_two false b = refl

one_named : (z : Text) (m : Module) → IsSource 1 (words_of SourceOne z) m → version_of z ≡ 1
one_named z m is =
    let b = begun 1 (words_of SourceOne z) m is in
    let no : bytes_eq b.second.text (codes "2") ≡ false = ap (λ (t : Text). bytes_eq t (codes "2")) b.text_is in
    in_words z b.first b.second b.rest b.words ∙ ap (λ v. cond (same_kind b.first.kind k.Atl && same_kind b.second.kind k.Number && v) 2 1) no
    ∙ not_two (same_kind b.first.kind k.Atl) (same_kind b.second.kind k.Number)

atl_is : (a b : Kind) → Alike a b → b ≡ k.Atl → a ≡ k.Atl
atl_is a b (inl e) h = e ∙ h
atl_is a b (inr e) h = absurd (let bad : k.Word ≡ k.Atl = sym e.1 ∙ h in cc)

number_is : (a b : Kind) → Alike a b → b ≡ k.Number → a ≡ k.Number
number_is a b (inl e) h = e ∙ h
number_is a b (inr e) h = absurd (let bad : k.Word ≡ k.Number = sym e.1 ∙ h in cc)

two_of : (z : Text) (vs : List Word) (a b : Word) (more : List Word) → words_of SourceOne z ≡ vs → AreAlike vs (a ∷ (b ∷ more)) → a.kind ≡ k.Atl
    → b.kind ≡ k.Number → b.text ≡ codes "2" → version_of z ≡ 2
two_of z [] a b more e alike p q t = absurd alike
two_of z (v ∷ []) a b more e alike p q t = absurd alike.2
two_of z (v ∷ (w ∷ ws)) a b more e alike p q t =
    let first : same_kind v.kind k.Atl ≡ true = ap (λ kd. same_kind kd k.Atl) (atl_is v.kind a.kind alike.0 p) ∙ same_self k.Atl in
    let second : same_kind w.kind k.Number ≡ true = ap (λ kd. same_kind kd k.Number) (number_is w.kind b.kind alike.2.0 q) ∙ same_self k.Number in
    let third : bytes_eq w.text (codes "2") ≡ true = ap (λ (u : Text). bytes_eq u (codes "2")) (alike.2.1 ∙ t) in
    in_words z v w ws e ∙ (λ j. cond (first j && second j && third j) 2 1)

two_named : (z : Text) (m : Module) → IsSource 2 (words_of SourceTwo z) m → version_of z ≡ 2
two_named z m is =
    let b = begun 2 (words_of SourceTwo z) m is in
    two_of z (words_of SourceOne z) b.first b.second b.rest refl (subst (AreAlike (words_of SourceOne z)) b.words (versions_alike z)) b.is_atl b.is_number
    b.text_is

-- a source is of the version that its text names
pub named : (version : ℕ) (z : Text) (m : Module) → (version ≡ 1) ⊎ (version ≡ 2) → IsSource version (words_of (language version) z) m → version_of z ≡ version
named version z m (inl e) is = one_named z m (subst (λ v. IsSource v (words_of (language v) z) m) e is) ∙ sym e
named version z m (inr e) is = two_named z m (subst (λ v. IsSource v (words_of (language v) z) m) e is) ∙ sym e

by_test : (b : Bool) (n : ℕ) → n ≡ cond b 2 1 → (n ≡ 1) ⊎ (n ≡ 2)
by_test true n e = inr e
by_test false n e = inl e

pub one_or_two : (z : Text) → (version_of z ≡ 1) ⊎ (version_of z ≡ 2)
unfolding version_at
one_or_two z =
    let i = input SourceOne z in
    by_test (same_kind (kind i) k.Atl && same_kind (kind (next i)) k.Number && bytes_eq (text (next i)) (codes "2")) (version_of z) refl

-- the version of the module that is read
pub version_is : (version : ℕ) (ws : List Word) (m : Module) → IsSource version ws m → m.version ≡ version
version_is version ws m is = ap (λ (n : Module). n.version) is.is_then.is_then.is_then.is_then.is_then.is_then.1
