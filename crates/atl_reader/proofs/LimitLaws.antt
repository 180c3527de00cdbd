-- Sums that stop at a number, and where a term begins.
use Rattle.std.proofs.Common.{◌≡◌, ℕ, zero, suc, ◌+◌, ◌<◌, true, false, List, [], ◌∷◌, length, refl, ap, ◌∙◌, arith}
use Rattle.std.specs.Prelude.{min}
use Rattle.text_tokens.specs.Kinds.{same_kind}
use Rattle.text_tokens.specs.declared.kind.Kind.TheVariants as k
use Rattle.text_tokens.specs.Words.{Input, Word, is_nil, next, peek}
use Rattle.reader_laws.specs.Steps.{kind}
use Rattle.atl_reader.specs.Source.{term_place}

pub saturated : (total n rest most : ℕ) → min (min (total + min n most) most + rest) most ≡ min (total + (n + rest)) most
saturated total n rest most = omega arith

-- ---- where the term of an output begins

module _ (end : ℕ) where
  none_in : (n : ℕ) (ws : List Word) → is_nil ws ≡ true → let i : Input = record { words = ws; end = end } in term_place n i ≡ (peek i).place
  unfolding peek
  none_in n [] h = refl
  none_in n (w ∷ ws) h = absurd cc

  other_in : (n : ℕ) (ws : List Word) → is_nil ws ≡ false → let i : Input = record { words = ws; end = end } in same_kind (kind i) k.Output ≡ false
      → term_place n i ≡ term_place n (next i)
  unfolding peek next
  other_in n [] h e = absurd cc
  other_in zero (w ∷ ws) h e = rw e refl
  other_in (suc n) (w ∷ ws) h e = rw e refl

  first_in : (ws : List Word) → is_nil ws ≡ false → let i : Input = record { words = ws; end = end } in same_kind (kind i) k.Output ≡ true
      → term_place 0 i ≡ (peek (next (next (next i)))).place
  unfolding peek next
  first_in [] h e = absurd cc
  first_in (w ∷ ws) h e = rw e refl

  later_in : (n : ℕ) (ws : List Word) → is_nil ws ≡ false → let i : Input = record { words = ws; end = end } in same_kind (kind i) k.Output ≡ true
      → term_place (suc n) i ≡ term_place n (next i)
  unfolding peek next
  later_in n [] h e = absurd cc
  later_in n (w ∷ ws) h e = rw e refl

  shorter_in : (ws : List Word) → is_nil ws ≡ false → let i : Input = record { words = ws; end = end } in length (next i).words < length ws
  unfolding next
  shorter_in [] h = absurd cc
  shorter_in (w ∷ ws) h = omega arith

pub place_none : (n : ℕ) (i : Input) → is_nil i.words ≡ true → term_place n i ≡ (peek i).place
place_none n i h = none_in i.end n i.words h

pub place_other : (n : ℕ) (i : Input) → is_nil i.words ≡ false → same_kind (kind i) k.Output ≡ false → term_place n i ≡ term_place n (next i)
place_other n i h e = other_in i.end n i.words h e

pub place_first : (n : ℕ) (i : Input) → n ≡ 0 → is_nil i.words ≡ false → same_kind (kind i) k.Output ≡ true
    → term_place n i ≡ (peek (next (next (next i)))).place
place_first n i z h e = ap (λ m. term_place m i) z ∙ first_in i.end i.words h e

pub place_later : (n m : ℕ) (i : Input) → m + 1 ≡ n → is_nil i.words ≡ false → same_kind (kind i) k.Output ≡ true → term_place n i ≡ term_place m (next i)
place_later n m i z h e = let s : n ≡ suc m = omega (arith, z) in ap (λ p. term_place p i) s ∙ later_in i.end m i.words h e

pub words_shorter : (i : Input) → is_nil i.words ≡ false → length (next i).words < length i.words
words_shorter i h = shorter_in i.end i.words h
