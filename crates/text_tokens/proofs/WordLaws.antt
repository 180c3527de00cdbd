-- The words of a text whose first word is known.
use Rattle.std.proofs.Common.{◌≡◌, ℕ, zero, suc, ◌+◌, ◌-◌, ◌<◌, ◌≤◌, Bool, true, false, not, ◌==◌, [], ◌∷◌, length, take, drop, ◌⊎◌, refl, inl, inr, ap, ◌∙◌}
use Rattle.std.proofs.Common.{arith}
use Rattle.std.proofs.Math.Seq.{drop-nil}
use Rattle.std.specs.Prelude.{slice_index}
use Rattle.std.specs.Str.{encode_utf8_all}
use Rattle.std.specs.Char.{is_ascii_digit}
use Rattle.text_tokens.specs.declared.kind.Kind.{Kind}
use Rattle.text_tokens.specs.declared.kind.Kind.TheVariants as k
use Rattle.text_tokens.specs.declared.kind.Language.{Language}
use Rattle.text_tokens.specs.Kinds.{Text, keyword, symbol_len, symbol_of}
use Rattle.text_tokens.specs.Lex.{skip, word, is_blank, begins_name, name_len}
use Rattle.text_tokens.specs.Words.{words_from, first_word, next_word, tail, is_nil}

which : (v : Bool) → (v ≡ true) ⊎ (v ≡ false)
which true = inl refl
which false = inr refl

-- cutting what is skipped changes no word
pub words_skip : (language : Language) (end : ℕ) (in_comment : Bool) (z : Text)
    → words_from language end 0 in_comment z ≡ words_from language end 0 false (skip in_comment z)
unfolding words_from
words_skip language end c [] = refl
words_skip language end true (b ∷ z) = words_skip language end (not (b == 10)) z
words_skip language end false (b ∷ z) =
    let h = words_skip language end true z in
    let k = words_skip language end false z in
    elim (which (b == 35)) [
      | inl e ↦ simp e h
      | inr e ↦ elim (which (is_blank b)) [ inl f ↦ simp (e, f) k | inr f ↦ simp (e, f) refl ]
    ]

pub skip_again : (in_comment : Bool) (z : Text) → skip false (skip in_comment z) ≡ skip in_comment z
skip_again c [] = refl
skip_again true (b ∷ z) = skip_again (not (b == 10)) z
skip_again false (b ∷ z) =
    let h = skip_again true z in
    let k = skip_again false z in
    elim (which (b == 35)) [
      | inl e ↦ simp e h
      | inr e ↦ elim (which (is_blank b)) [ inl f ↦ simp (e, f) k | inr f ↦ simp (e, f) refl ]
    ]

pub length_skip : (in_comment : Bool) (z : Text) → length (skip in_comment z) ≤ length z
length_skip c [] = omega arith
length_skip true (b ∷ z) = let h = length_skip (not (b == 10)) z in omega arith
length_skip false (b ∷ z) =
    let h = length_skip true z in
    let k = length_skip false z in
    grind (arith, h, k)

pub words_drop : (language : Language) (end n : ℕ) (z : Text) → words_from language end n false z ≡ words_from language end 0 false (drop n z)
unfolding words_from
words_drop language end zero z = refl
words_drop language end (suc n) [] = refl
words_drop language end (suc n) (b ∷ z) = words_drop language end n z

-- a text that is skipped to begins with its first word
starts : (b : ℕ) (z : Text) → skip false (b ∷ z) ≡ b ∷ z → ((b == 35) ≡ false) × (is_blank b ≡ false)
starts b z e =
    elim (which (b == 35)) [
      | inl f ↦ let g : skip true z ≡ b ∷ z = rw f at e in absurd (omega (arith, length_skip true z, ap length g))
      | inr f ↦ elim (which (is_blank b)) [
        | inl k ↦ let g : skip false z ≡ b ∷ z = rw (f, k) at e in absurd (omega (arith, length_skip false z, ap length g))
        | inr k ↦ (f, k)
      ]
    ]

pub peek_ready : (language : Language) (end : ℕ) (z : Text) → skip false z ≡ z → next_word end (words_from language end 0 false z) ≡ first_word language end z
unfolding words_from first_word word
peek_ready language end [] e = let k : end - 0 ≡ end = omega arith in rw k refl
peek_ready language end (b ∷ z) e = let s = starts b z e in rw (s.0, s.1) refl

pub symbol_some : (kd : Kind) → 0 < symbol_len kd
symbol_some k.DotDot = omega arith
symbol_some k.LessEqual = omega arith
symbol_some k.GreaterEqual = omega arith
symbol_some k.Equal = omega arith
symbol_some kd = omega arith

-- a word has a character
pub word_some : (language : Language) (b : ℕ) (z : Text) → 0 < (word language (b ∷ z)).1
unfolding word
word_some language b z =
    elim (which (begins_name b)) [
      | inl e ↦ rw e (omega arith)
      | inr e ↦ elim (which (is_ascii_digit b)) [ inl f ↦ rw (e, f) (omega arith) | inr f ↦ rw (e, f) (symbol_some (symbol_of language b (slice_index z 0))) ]
    ]

drop_one : (n b : ℕ) (z : Text) → 0 < n → drop (n - 1) z ≡ drop n (b ∷ z)
drop_one zero b z h = absurd (omega arith)
drop_one (suc n) b z h = let e : suc n - 1 ≡ n = omega arith in ap (λ k. drop k z) e

pub next_ready : (language : Language) (end : ℕ) (z : Text) → skip false z ≡ z
    → tail (words_from language end 0 false z) ≡ words_from language end 0 false (drop (word language z).1 z)
unfolding words_from
next_ready language end [] e = rw (drop-nil {A = ℕ} (word language []).1) refl
next_ready language end (b ∷ z) e =
    let s = starts b z e in
    let one : tail (words_from language end 0 false (b ∷ z)) ≡ words_from language end ((word language (b ∷ z)).1 - 1) false z = rw (s.0, s.1) refl in
    one ∙ words_drop language end ((word language (b ∷ z)).1 - 1) z
    ∙ ap (words_from language end 0 false) (drop_one (word language (b ∷ z)).1 b z (word_some language b z))

pub ended_none : (language : Language) (end : ℕ) (z : Text) → z ≡ [] → is_nil (words_from language end 0 false z) ≡ true
unfolding words_from
ended_none language end z e = rw e refl

pub ended_some : (language : Language) (end b : ℕ) (z more : Text) → z ≡ b ∷ more → skip false z ≡ z → is_nil (words_from language end 0 false z) ≡ false
unfolding words_from
ended_some language end b z more e skipped =
    let same : skip false (b ∷ more) ≡ b ∷ more = rw e at skipped in
    let s = starts b more same in
    rw (e, s.0, s.1) refl

-- the kind of a word that begins as a name does
pub word_named : (language : Language) (b : ℕ) (z more : Text) → z ≡ b ∷ more → begins_name b ≡ true
    → (word language z).0 ≡ keyword language (encode_utf8_all (take (1 + name_len more) z))
unfolding word
word_named language b z more e begins = rw (e, begins) refl
