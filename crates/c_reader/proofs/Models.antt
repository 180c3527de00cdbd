-- The words of another text, one at a time.
use Rattle.std.proofs.Common.{◌≡◌, ◌≢◌, ◌<◌, true, false, List, [], ◌∷◌, length, Ok, Err, refl, ap, ◌∙◌, arith}
use Rattle.text_tokens.specs.Spelled.{token_of, tokens_of}
use Rattle.text_tokens.specs.Words.{Input, Word, is_nil, next, next_word, peek, tail}
use Rattle.reader_laws.specs.declared.fault.ReadError.{ReadError}
use Rattle.reader_laws.specs.declared.fault.ReadError.TheVariants.{Memory}
use Rattle.reader_laws.specs.Steps.{and_then}
use Rattle.c_read.specs.Parts.{exactly, expect_all}

pub model_done : (m i : Input) → is_nil m.words ≡ true → expect_all (tokens_of m.words) i ≡ Ok (tt, i)
model_done m i h = go m.words h
  where
    go : (ws : List Word) → is_nil ws ≡ true → expect_all (tokens_of ws) i ≡ Ok (tt, i)
    go [] h = refl
    go (w ∷ ws) h = absurd cc

-- one word, and then the others
model_turn : (m i : Input) → is_nil m.words ≡ false
    → expect_all (tokens_of m.words) i ≡ and_then (exactly (token_of (peek m)) i) (λ u. expect_all (tokens_of (next m).words))
unfolding peek next
model_turn m i h = go m.words h
  where
    go : (ws : List Word) → is_nil ws ≡ false
        → expect_all (tokens_of ws) i ≡ and_then (exactly (token_of (next_word m.end ws)) i) (λ u. expect_all (tokens_of (tail ws)))
    go [] h = absurd cc
    go (w ∷ ws) h = refl

pub model_went : (m i j : Input) → is_nil m.words ≡ false → exactly (token_of (peek m)) i ≡ Ok (tt, j)
    → expect_all (tokens_of m.words) i ≡ expect_all (tokens_of (next m).words) j
model_went m i j h reads = model_turn m i h ∙ ap (λ r. and_then r (λ u. expect_all (tokens_of (next m).words))) reads

pub model_fell : (m i : Input) (e : ReadError) → is_nil m.words ≡ false → (e ≢ Memory → exactly (token_of (peek m)) i ≡ Err e) → e ≢ Memory
    → expect_all (tokens_of m.words) i ≡ Err e
model_fell m i e h reads other = model_turn m i h ∙ ap (λ r. and_then r (λ u. expect_all (tokens_of (next m).words))) (reads other)

pub model_less : (m : Input) → is_nil m.words ≡ false → length (next m).words < length m.words
unfolding next
model_less m h = go m.words h
  where
    go : (ws : List Word) → is_nil ws ≡ false → length (tail ws) < length ws
    go [] h = absurd cc
    go (w ∷ ws) h = omega arith
