-- Lists of words, taken apart by their tokens.
use Rattle.std.proofs.Common.{◌≡◌, List, [], ◌∷◌, ◌++◌, refl, ap}
use Rattle.text_tokens.specs.Words.{Word}
use Rattle.text_tokens.specs.Spelled.{Token, token_of, tokens_of}

abbrev pub first_or : Token → List Token → Token
first_or d [] = d
first_or d (t ∷ ts) = t

abbrev pub later : List Token → List Token
later [] = []
later (t ∷ ts) = ts

pub heads : (t u : Token) (ts us : List Token) → t ∷ ts ≡ u ∷ us → t ≡ u
heads t u ts us e = ap (first_or t) e

pub tails : (t u : Token) (ts us : List Token) → t ∷ ts ≡ u ∷ us → ts ≡ us
tails t u ts us e = ap later e

-- where words are cut
pub record Cut (ws : List Word) (ts us : List Token) : Type 0 where
  pub front : List Word
  pub rest : List Word
  pub words : ws ≡ front ++ rest
  pub is_front : tokens_of front ≡ ts
  pub is_rest : tokens_of rest ≡ us

pub cut : (ws : List Word) (ts us : List Token) → tokens_of ws ≡ ts ++ us → Cut ws ts us
cut ws [] us e = record { front = []; rest = ws; words = refl; is_front = refl; is_rest = e }
cut [] (t ∷ ts) us e = absurd (cc)
cut (w ∷ ws) (t ∷ ts) us e =
    let r = cut ws ts us (tails (token_of w) t (tokens_of ws) (ts ++ us) e) in
    let h = heads (token_of w) t (tokens_of ws) (ts ++ us) e in
    record { front = w ∷ r.front; rest = r.rest; words = ap (λ vs. w ∷ vs) r.words; is_front = (λ j. h j ∷ r.is_front j); is_rest = r.is_rest }

pub none : (ws : List Word) → tokens_of ws ≡ [] → ws ≡ []
none [] e = refl
none (w ∷ ws) e = absurd (cc)
