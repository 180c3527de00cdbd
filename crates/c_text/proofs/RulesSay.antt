-- What tokens say by the rules that C needs besides.
use Rattle.std.proofs.Common.{◌≡◌, List, [], ◌∷◌, ◌++◌, refl, ap, subst, ◌∙◌}
use Rattle.text_tokens.specs.Words.{Word}
use Rattle.text_tokens.specs.Spelled.{Token, token_of, tokens_of}
use Rattle.c_text.specs.Rules.{Around, Fixed, IsEach, IsToken, Made}
use Rattle.reader_laws.proofs.Says.{Says}
use Rattle.c_text.proofs.Pieces.{cut, heads, tails, none}

pub says_fixed : {A : Type 0} {ts : List Token} {a : A} → Says (Fixed ts a) ts a
says_fixed = record { says = λ ws e. (e, refl) }

pub says_around : {A : Type 0} {rule : List Word → A → Type 0} (before ts after : List Token) {x : A} → Says rule ts x
    → Says (Around before after rule) (before ++ (ts ++ after)) x
says_around before ts after p = record {
  says = λ ws e.
      let c = cut ws before (ts ++ after) e in
      let d = cut c.rest ts after c.is_rest in
      record {
        front = c.front;
        inside = d.front;
        rest = d.rest;
        words = c.words
            ∙ ap (λ us. c.front ++ us) d.words;
        is_front = c.is_front;
        is_inside = p.says d.front d.is_front;
        is_rest = d.is_rest;
      };
}

pub append-nil : {A : Type 0} (xs : List A) → xs ++ [] ≡ xs
append-nil [] = refl
append-nil (x ∷ xs) = ap (λ r. x ∷ r) (append-nil xs)

-- with nothing behind
pub says_behind : {A : Type 0} {rule : List Word → A → Type 0} (before ts : List Token) {x : A} → Says rule ts x → Says (Around before [] rule) (before ++ ts) x
says_behind {rule = rule} before ts {x = x} p = subst (λ us. Says (Around before [] rule) (before ++ us) x) (append-nil ts) (says_around before ts [] p)

pub says_made : {A B : Type 0} (make : A → B) {rule : List Word → A → Type 0} {ts : List Token} (x : A) → Says rule ts x → Says (Made make rule) ts (make x)
says_made make x p = record { says = λ ws e. record { of = x; is = p.says ws e; makes = refl } }

token-is : {A : Type 0} (token : A → Token) (allowed : A → Type 0) (x : A) → allowed x → (ws : List Word) → tokens_of ws ≡ token x ∷ []
    → IsToken token allowed ws x
token-is token allowed x h [] e = absurd (cc)
token-is token allowed x h (w ∷ []) e = record { word = w; words = refl; is = heads (token_of w) (token x) [] [] e; is_allowed = h }
token-is token allowed x h (w ∷ v ∷ vs) e = absurd (let bad = tails (token_of w) (token x) (tokens_of (v ∷ vs)) [] e in cc)

pub says_token : {A : Type 0} {token : A → Token} {allowed : A → Type 0} (x : A) → allowed x → Says (IsToken token allowed) (token x ∷ []) x
says_token {token = token} {allowed = allowed} x h = record { says = token-is token allowed x h }

pub says_none : {A : Type 0} {rule : List Word → A → Type 0} → Says (IsEach rule) [] []
says_none = record { says = none }

pub says_more : {A : Type 0} {rule : List Word → A → Type 0} (ts us : List Token) (x : A) (xs : List A) → Says rule ts x → Says (IsEach rule) us xs
    → Says (IsEach rule) (ts ++ us) (x ∷ xs)
says_more ts us x xs p q = record {
  says = λ ws e.
      let c = cut ws ts us e in
      record { front = c.front; rest = c.rest; words = c.words; is_first = p.says c.front c.is_front; is_then = q.says c.rest c.is_rest };
}
