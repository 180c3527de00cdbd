-- Each outcome depends on the words before it and on the next word alone, and a fault stands at one of these.
use Rattle.std.proofs.Common.{◌≡◌, inl, inr, ◌⊎◌, ℕ, zero, suc, cond, List, [], ◌∷◌, ◌++◌, Option, Some, None, Result, Ok, Err, refl, sym, ap, subst, ◌∙◌}
use Rattle.text_tokens.specs.declared.kind.Kind.{Kind}
use Rattle.text_tokens.specs.declared.kind.Kind.TheVariants as k
use Rattle.text_tokens.specs.Kinds.{Text, same_kind}
use Rattle.text_tokens.specs.Words.{Word, Input, peek, next, is_nil}
use Rattle.reader_laws.specs.declared.fault.Fault.{Fault}
use Rattle.reader_laws.specs.declared.fault.Fault.TheVariants.{BadToken, BadSyntax, TooDeep}
use Rattle.reader_laws.specs.declared.fault.ReadError.{ReadError}
use Rattle.reader_laws.specs.declared.fault.ReadError.TheVariants.{Memory, Refused}
use Rattle.reader_laws.specs.Steps.{Parser, Outcome, and_then, ◌>>=◌, ◌>>◌, pure, refuse, refusal, misplaced, unexpected, kind, take_word, open_level}
use Rattle.reader_laws.specs.Grammar.{IsOfJoining, IsPlaceIn, Stands}
use Rattle.reader_laws.specs.Chain.{Links, joined, go_on, chain}
use Rattle.reader_laws.proofs.Outcomes.{ahead, ahead_append, taken}

-- the next word is the same
pub record Alike (l at : Input) : Type 0 where
  pub word : peek l ≡ peek at
  pub nil : is_nil l.words ≡ is_nil at.words

abbrev pub Nowhere : Fault → ℕ → Type 0
Nowhere fault place = ⊥

-- a fault stands where it may, or where M says
abbrev pub Ends : {A : Type 0} → (Fault → ℕ → Type 0) → Outcome A → List Word → Input → Type 0
Ends M (Ok p) front at = p.1 ≡ at
Ends M (Err Memory) front at = ⊥
Ends M (Err (Refused fault place)) front at = M fault place ⊎ Stands fault place front (peek at)

abbrev pub moved : {A : Type 0} → Outcome A → Input → Outcome A
moved (Ok p) l = Ok (p.0, l)
moved (Err x) l = Err x

-- the outcome at i is decided by the words of front and by the next one
pub record Seen {A : Type 0} (M : Fault → ℕ → Type 0) (p : Parser A) (i : Input) : Type 0 where
  pub front : List Word
  pub at : Input
  pub words : i ≡ ahead front at
  pub ends : Ends M (p i) front at
  pub again : (l : Input) → Alike l at → p (ahead front l) ≡ moved (p i) l

abbrev pub LocalBut : {A : Type 0} → (Fault → ℕ → Type 0) → Parser A → Type 0
LocalBut M p = (i : Input) → Seen M p i

abbrev pub Local : {A : Type 0} → Parser A → Type 0
Local p = LocalBut Nowhere p

-- where the next word is w
abbrev pub LocalOn : {A : Type 0} → (Fault → ℕ → Type 0) → Word → Parser A → Type 0
LocalOn M w p = (i : Input) → peek i ≡ w → Seen M p i

pub alike_ahead : (front : List Word) (l at : Input) → Alike l at → Alike (ahead front l) (ahead front at)
unfolding peek
alike_ahead [] l at h = h
alike_ahead (w ∷ ws) l at h = record { word = refl; nil = refl }

pub local_pure : {A : Type 0} (M : Fault → ℕ → Type 0) (x : A) → LocalBut M (pure x)
local_pure M x i = record { front = []; at = i; words = refl; ends = refl; again = λ l h. refl }

pub local_refuse : {A : Type 0} (M : Fault → ℕ → Type 0) (fault : Fault) → LocalBut M (refuse {A = A} fault)
unfolding refusal
local_refuse M fault i = record {
  front = [];
  at = i;
  words = refl;
  ends = inr (inl refl);
  again = λ l h. ap (λ (w : Word). Err (Refused fault w.place)) h.word;
}

pub local_unexpected : {A : Type 0} (M : Fault → ℕ → Type 0) → LocalBut M (unexpected {A = A})
unfolding refusal misplaced
local_unexpected M i = record {
  front = [];
  at = i;
  words = refl;
  ends = inr (inl refl);
  again = λ l h. ap
      (λ (w : Word). Err (Refused (cond (same_kind w.kind k.Bad) BadToken BadSyntax) w.place)) h.word;
}

-- a fault at a place that is allowed
pub local_back : {A : Type 0} (M : Fault → ℕ → Type 0) (fault : Fault) (place : ℕ) → M fault place → LocalBut {A = A} M (λ i. Err (Refused fault place))
local_back M fault place h i = record { front = []; at = i; words = refl; ends = inl h; again = λ l h. refl }

pub on_take : (M : Fault → ℕ → Type 0) (w : Word) → (w.kind ≡ k.End → ⊥) → LocalOn M w take_word
unfolding peek next
on_take M w some i is = record {
  front = w ∷ [];
  at = next i;
  words = taken i (λ (z : kind i ≡ k.End). some (sym (ap (λ (v : Word). v.kind) is) ∙ z)) ∙ ap (λ (v : Word). ahead (v ∷ []) (next i)) is;
  ends = refl;
  again = λ l h. ap (λ (v : Word). let o : Outcome Text = Ok (v.text, l) in o) (sym is);
}

err_ends : (A B : Type 0) (M : Fault → ℕ → Type 0) (x : ReadError) (front : List Word) (at : Input) → Ends {A = A} M (Err x) front at
    → Ends {A = B} M (Err x) front at
err_ends A B M Memory front at h = h
err_ends A B M (Refused fault place) front at h = h

place_after : (front more : List Word) (place : ℕ) → IsPlaceIn place more → IsPlaceIn place (front ++ more)
place_after [] more place h = h
place_after (v ∷ vs) more place h = inr (place_after vs more place h)

stands_after : (front more : List Word) (fault : Fault) (place : ℕ) (w : Word) → Stands fault place more w → Stands fault place (front ++ more) w
stands_after front more fault place w (inl h) = inl h
stands_after front more fault place w (inr h) = inr (h.0, place_after front more place h.1)

ends_after : {A : Type 0} (M : Fault → ℕ → Type 0) (r : Outcome A) (front more : List Word) (at : Input) → Ends M r more at → Ends M r (front ++ more) at
ends_after M (Ok p) front more at h = h
ends_after M (Err Memory) front more at h = h
ends_after M (Err (Refused fault place)) front more at (inl h) = inl h
ends_after M (Err (Refused fault place)) front more at (inr h) = inr (stands_after front more fault place (peek at) h)

bind_by : {A B : Type 0} (M : Fault → ℕ → Type 0) (p : Parser A) (f : A → Parser B) (i : Input) (r : Outcome A) → p i ≡ r → (front : List Word) (at : Input)
    → i ≡ ahead front at → Ends M r front at
    → ((l : Input) → Alike l at → p (ahead front l) ≡ moved r l) → ((x : A) → LocalBut M (f x)) → Seen M (p >>= f) i
bind_by {A = A} {B = B} M p f i (Err x) is front at words ends again rest = record {
  front = front;
  at = at;
  words = words;
  ends = subst (λ (r : _). Ends M (and_then r f) front at) (sym is) (err_ends A B M x front at ends);
  again = λ l h. ap (λ r. and_then r f) (again l h) ∙ ap (λ r. moved (and_then r f) l) (sym is);
}
bind_by M p f i (Ok v) is front at words ends again rest =
    let s = rest v.0 v.1 in
    let e : at ≡ ahead s.front s.at = sym ends ∙ s.words in
    record {
      front = front ++ s.front;
      at = s.at;
      words = words ∙ ap (ahead front) e ∙ ahead_append front s.front s.at;
      ends = subst (λ r. Ends M (and_then r f) (front ++ s.front) s.at) (sym is) (ends_after M (f v.0 v.1) front s.front s.at s.ends);
      again = λ l h.
          let k : Alike (ahead s.front l) at = subst (λ (z : Input). Alike (ahead s.front l) z) (sym e) (alike_ahead s.front l s.at h) in
          ap (λ (z : Input). and_then (p z) f) (sym (ahead_append front s.front l)) ∙ ap (λ r. and_then r f) (again (ahead s.front l) k) ∙ s.again l h
          ∙ ap (λ r. moved (and_then r f) l) (sym is);
    }

pub bind_at : {A B : Type 0} (M : Fault → ℕ → Type 0) (p : Parser A) (f : A → Parser B) (i : Input) → Seen M p i → ((x : A) → LocalBut M (f x))
    → Seen M (p >>= f) i
bind_at M p f i s rest = bind_by M p f i (p i) refl s.front s.at s.words s.ends s.again rest

pub local_bind : {A B : Type 0} (M : Fault → ℕ → Type 0) (p : Parser A) (f : A → Parser B) → LocalBut M p → ((x : A) → LocalBut M (f x)) → LocalBut M (p >>= f)
local_bind M p f h rest i = bind_at M p f i (h i) rest

pub on_bind : {A B : Type 0} (M : Fault → ℕ → Type 0) (w : Word) (p : Parser A) (f : A → Parser B) → LocalOn M w p → ((x : A) → LocalBut M (f x))
    → LocalOn M w (p >>= f)
on_bind M w p f h rest i is = bind_at M p f i (h i is) rest

pub on_peek : {A : Type 0} (M : Fault → ℕ → Type 0) (f : Word → Parser A) (w : Word) → LocalOn M w (f w) → LocalOn M w (λ i. f (peek i) i)
on_peek M f w h i is =
    let s = h i is in
    record {
      front = s.front;
      at = s.at;
      words = s.words;
      ends = subst (λ (v : Word). Ends M (f v i) s.front s.at) (sym is) s.ends;
      again = λ l a.
          let same : peek (ahead s.front l) ≡ w = (alike_ahead s.front l s.at a).word ∙ ap peek (sym s.words) ∙ is in
          ap (λ (v : Word). f v (ahead s.front l)) same ∙ s.again l a ∙ ap (λ (v : Word). moved (f v i) l) (sym is);
    }

pub local_peek : {A : Type 0} (M : Fault → ℕ → Type 0) (f : Word → Parser A) → ((w : Word) → LocalOn M w (f w)) → LocalBut M (λ i. f (peek i) i)
local_peek M f h i = on_peek M f (peek i) (h (peek i)) i refl

pub on_local : {A : Type 0} (M : Fault → ℕ → Type 0) (w : Word) (p : Parser A) → LocalBut M p → LocalOn M w p
on_local M w p h i is = h i

-- ---- faults that stand before the word that decided them

weaker_ends : {A : Type 0} (M : Fault → ℕ → Type 0) (r : Outcome A) (front : List Word) (at : Input) → Ends Nowhere r front at → Ends M r front at
weaker_ends M (Ok p) front at h = h
weaker_ends M (Err Memory) front at h = h
weaker_ends M (Err (Refused fault place)) front at (inl h) = absurd h
weaker_ends M (Err (Refused fault place)) front at (inr h) = inr h

pub weaker : {A : Type 0} (M : Fault → ℕ → Type 0) (p : Parser A) → Local p → LocalBut M p
weaker M p h i =
    let s = h i in
    record { front = s.front; at = s.at; words = s.words; ends = weaker_ends M (p i) s.front s.at s.ends; again = s.again }

-- where the reading began
abbrev pub AtWord : Word → Fault → ℕ → Type 0
AtWord w fault place = IsOfJoining fault × (place ≡ w.place)

first_stands : (w : Word) (front : List Word) (at : Input) (fault : Fault) (place : ℕ) → peek (ahead front at) ≡ w → AtWord w fault place
    → Stands fault place front (peek at)
unfolding peek
first_stands w [] at fault place is h = inl (h.1 ∙ ap (λ (v : Word). v.place) (sym is))
first_stands w (v ∷ vs) at fault place is h = inr (h.0, inl (h.1 ∙ ap (λ (v : Word). v.place) (sym is)))

found_ends : {A : Type 0} (w : Word) (r : Outcome A) (front : List Word) (at : Input) → peek (ahead front at) ≡ w → Ends (AtWord w) r front at
    → Ends Nowhere r front at
found_ends w (Ok p) front at is h = h
found_ends w (Err Memory) front at is h = h
found_ends w (Err (Refused fault place)) front at is (inl h) = inr (first_stands w front at fault place is h)
found_ends w (Err (Refused fault place)) front at is (inr h) = inr h

-- a fault at the first word is at one of the words that were read
pub stronger : {A : Type 0} (w : Word) (p : Parser A) → LocalOn (AtWord w) w p → LocalOn Nowhere w p
stronger w p h i is =
    let s = h i is in
    record { front = s.front; at = s.at; words = s.words; ends = found_ends w (p i) s.front s.at (ap peek (sym s.words) ∙ is) s.ends; again = s.again }

pub on_open : {A : Type 0} (M : Fault → ℕ → Type 0) (w : Word) (levels : ℕ) (p : Parser A) → LocalOn M w p → LocalOn M w (open_level levels >> p)
on_open M w zero p h = on_local M w (refuse TooDeep) (local_refuse M TooDeep)
on_open M w (suc levels) p h = h

local_joined : {A : Type 0} (w : Word) (r : Result A Fault) (more : A → Parser A) → ((fault : Fault) → r ≡ Err fault → IsOfJoining fault)
    → ((x : A) → Local (more x)) → LocalBut (AtWord w) (joined w r more)
local_joined w (Ok x) more joint h = weaker (AtWord w) (more x) (h x)
local_joined w (Err fault) more joint h = local_back (AtWord w) fault w.place (joint fault refl, refl)

module _ {A B O : Type 0} (links : Links A B O) (operand : ℕ → A → O → Parser B) (no_end : (kd : Kind) (o : O) → links.operator kd ≡ Some o → kd ≡ k.End → ⊥)
    (joint : (o : O) (a : A) (b : B) (fault : Fault) → links.join o a b ≡ Err fault → IsOfJoining fault) (h : (n : ℕ) (a : A) (o : O) → Local (operand n a o))
  where
    pub local_chain : (n : ℕ) (left : A) → Local (chain links operand n left)
    unfolding chain
    local_chain zero left = local_peek Nowhere (λ w. go_on (links.operator w.kind) left (λ _. refuse TooDeep)) (λ w. go w (links.operator w.kind))
      where
        go : (w : Word) (v : Option O) → LocalOn Nowhere w (go_on v left (λ _. refuse TooDeep))
        go w None = on_local Nowhere w (pure left) (local_pure Nowhere left)
        go w (Some o) = on_local Nowhere w (refuse TooDeep) (local_refuse Nowhere TooDeep)
    local_chain (suc n) left =
        local_peek Nowhere (λ w. go_on (links.operator w.kind) left
        (λ o. open_level (links.room n) >> (take_word >> (operand n left o >>= λ right. joined w (links.join o left right) (chain links operand n)))))
        (λ w. go w (links.operator w.kind) refl (λ x. local_chain n x))
      where
        go : (w : Word) (v : Option O) → links.operator w.kind ≡ v → ((x : A) → Local (chain links operand n x))
            → LocalOn Nowhere w (go_on v left
            (λ o. open_level (links.room n) >> (take_word >> (operand n left o >>= λ right. joined w (links.join o left right) (chain links operand n)))))
        go w None is again = on_local Nowhere w (pure left) (local_pure Nowhere left)
        go w (Some o) is again =
            let M = AtWord w in
            let more : B → Parser A = λ right. joined w (links.join o left right) (chain links operand n) in
            let turn : Parser A = take_word >> (operand n left o >>= more) in
            stronger w (open_level (links.room n) >> turn)
            (on_open M w (links.room n) turn (on_bind M w take_word (λ _. operand n left o >>= more) (on_take M w (no_end w.kind o is)) (λ _.
            local_bind M (operand n left o) more (weaker M (operand n left o) (h n left o))
            (λ right. local_joined w (links.join o left right) (chain links operand n) (joint o left right) again))))
