-- The words before the word of a reader's fault go on: how this is put together.
use Rattle.std.proofs.Common.{◌≡◌, ◌⊎◌, inl, inr, ℕ, zero, suc, Bool, true, false, cond, List, [], ◌∷◌, ◌++◌, Option, Some, None, Result, Ok, Err}
use Rattle.std.proofs.Common.{refl, sym, ap, subst, ◌∙◌, append_assoc, append-nil}
use Rattle.text_tokens.specs.declared.kind.Kind.{Kind}
use Rattle.text_tokens.specs.declared.kind.Kind.TheVariants as k
use Rattle.text_tokens.specs.Kinds.{Text, same_kind}
use Rattle.text_tokens.specs.Spelled.{Token, token_of, tokens_of}
use Rattle.text_tokens.specs.Words.{Word, Input, peek, next}
use Rattle.reader_laws.specs.declared.fault.Fault.{Fault}
use Rattle.reader_laws.specs.declared.fault.Fault.TheVariants.{BadSyntax, BadToken, TooDeep}
use Rattle.reader_laws.specs.declared.fault.ReadError.{ReadError}
use Rattle.reader_laws.specs.declared.fault.ReadError.TheVariants.{Refused}
use Rattle.reader_laws.specs.Steps.{Outcome, Parser, and_then, ◌>>=◌, ◌>>◌, a_word, kind, misplaced, open_level, pure, read_as, refusal, refuse, take_word}
use Rattle.reader_laws.specs.Steps.{text, unexpected}
use Rattle.reader_laws.specs.Grammar.{IsWordOf}
use Rattle.reader_laws.proofs.Outcomes.{ahead, ahead_append, ok_input, opened_ok, then_ok}
use Rattle.reader_laws.proofs.Lawful.{Found, lawful_word}
use Rattle.c_text.proofs.Pieces.{none}
use Rattle.c_read.specs.Parts.{around, exactly, expect_all, opened, spelled}
use Rattle.c_read.proofs.Reading.{NoEnd, lawful_exactly, tokens-append}
use Rattle.c_first_fault.specs.Shape.{Around, Spelled, Then}

-- what goes on behind these words
pub record Goes (shape : List Word → Type 0) (front : List Word) : Type 0 where
  pub rest : List Word
  pub is : shape (front ++ rest)

-- the word at this place, and the words before it, which are none or go on
pub record Cut (shape : List Word → Type 0) (i : Input) (place : ℕ) : Type 0 where
  pub front : List Word
  pub at : Input
  pub words : i ≡ ahead front at
  pub stands : place ≡ (peek at).place
  pub goes : (front ≡ []) ⊎ Goes shape front

abbrev pub Begins : {A : Type 0} → Parser A → (List Word → Type 0) → Type 0
Begins p shape = (i : Input) (fault : Fault) (place : ℕ) → p i ≡ Err (Refused fault place) → Cut shape i place

-- what was read
pub record Taken (shape : List Word → Type 0) (i j : Input) : Type 0 where
  pub front : List Word
  pub words : i ≡ ahead front j
  pub is : shape front

pub record Shapes {A : Type 0} (p : Parser A) (shape : List Word → Type 0) : Type 0 where
  pub sound : (i j : Input) (x : A) → p i ≡ Ok (x, j) → Taken shape i j
  pub begins : Begins p shape

-- ---- a fault at the next word

abbrev refused : {A : Type 0} → ReadError → Outcome A
refused e = Err e

abbrev place_of : ReadError → ℕ
place_of (Refused fault place) = place
place_of e = 0

same_error : (A : Type 0) (a b : ReadError) → refused {A = A} a ≡ refused b → a ≡ b
same_error A a b h = cc

pub cut_here : {A : Type 0} (shape : List Word → Type 0) (i : Input) (fault found : Fault) (place : ℕ)
    → refused {A = A} (Refused fault (peek i).place) ≡ Err (Refused found place) → Cut shape i place
cut_here {A = A} shape i fault found place h = record {
  front = [];
  at = i;
  words = refl;
  stands = sym (ap place_of (same_error A (Refused fault (peek i).place) (Refused found place) h));
  goes = inl refl;
}

-- the same words, of a shape that allows more
pub cut_as : (shape other : List Word → Type 0) (i : Input) (place : ℕ) → ((front : List Word) → Goes shape front → Goes other front)
    → Cut shape i place → Cut other i place
cut_as shape other i place h c = record { front = c.front; at = c.at; words = c.words; stands = c.stands; goes = go c.goes }
  where
    go : (c.front ≡ []) ⊎ Goes shape c.front → (c.front ≡ []) ⊎ Goes other c.front
    go (inl e) = inl e
    go (inr g) = inr (h c.front g)

-- words that were read, and then some that were cut
pub cut_after : (shape other : List Word → Type 0) (i at : Input) (place : ℕ) (front : List Word) → i ≡ ahead front at → Goes other front
    → ((more : List Word) → Goes shape more → Goes other (front ++ more)) → Cut shape at place → Cut other i place
cut_after shape other i at place front words none some c = record {
  front = front ++ c.front;
  at = c.at;
  words = words ∙ ap (ahead front) c.words ∙ ahead_append front c.front c.at;
  stands = c.stands;
  goes = inr (go c.goes);
}
  where
    go : (c.front ≡ []) ⊎ Goes shape c.front → Goes other (front ++ c.front)
    go (inl e) = subst (λ (ws : List Word). Goes other (front ++ ws)) (sym e) (subst (λ (ws : List Word). Goes other ws) (sym (append-nil front)) none)
    go (inr g) = some c.front g

-- ---- one reader and then another

pub record Later {A B : Type 0} (r : Outcome A) (f : A → Parser B) (e : ReadError) : Type 0 where
  pub value : A
  pub at : Input
  pub first : r ≡ Ok (value, at)
  pub rest : f value at ≡ Err e

pub which : {A B : Type 0} (r : Outcome A) (f : A → Parser B) (e : ReadError) → and_then r f ≡ Err e → (r ≡ Err e) ⊎ Later r f e
which {B = B} (Err x) f e h = inl (ap (λ (y : ReadError). Err y) (same_error B x e h))
which (Ok p) f e h = inr (record { value = p.0; at = p.1; first = refl; rest = h })

pub begins_bind : {A B : Type 0} (p : Parser A) (f : A → Parser B) (rule : List Word → A → Type 0) (first : List Word → Type 0) (then : A → List Word → Type 0)
    (out : List Word → Type 0)
    → ((i j : Input) (x : A) → p i ≡ Ok (x, j) → Found rule i x j) → Begins p first → ((front : List Word) → Goes first front → Goes out front)
    → ((ws : List Word) (x : A) → rule ws x → Begins (f x) (then x)) → ((ws : List Word) (x : A) → rule ws x → Goes out ws)
    → ((ws more : List Word) (x : A) → rule ws x → Goes (then x) more → Goes out (ws ++ more)) → Begins (p >>= f) out
begins_bind p f rule first then out sound bp goes bf none some = λ i fault place e. go i fault place (which (p i) f (Refused fault place) e)
  where
    go : (i : Input) (fault : Fault) (place : ℕ) → (p i ≡ Err (Refused fault place)) ⊎ Later (p i) f (Refused fault place) → Cut out i place
    go i fault place (inl e) = cut_as first out i place goes (bp i fault place e)
    go i fault place (inr l) =
        let s = sound i l.at l.value l.first in
        cut_after (then l.value) out i l.at place s.front s.words (none s.front l.value s.is) (λ more g. some s.front more l.value s.is g)
        (bf s.front l.value s.is l.at fault place l.rest)

-- one and then the other, in words
pub then_on : (first then : List Word → Type 0) (ws more : List Word) → first ws → Goes then more → Goes (Then first then) (ws ++ more)
then_on first then ws more is g = record {
  rest = g.rest;
  is = record { front = ws; rest = more ++ g.rest; words = append_assoc ws more g.rest; is_first = is; is_then = g.is };
}

pub then_none : (first then : List Word → Type 0) (ws : List Word) → first ws → Goes then [] → Goes (Then first then) ws
then_none first then ws is g = record { rest = g.rest; is = record { front = ws; rest = g.rest; words = refl; is_first = is; is_then = g.is } }

pub then_goes : (first then : List Word → Type 0) (front : List Word) → Goes first front → Goes then [] → Goes (Then first then) front
then_goes first then front g t = record {
  rest = g.rest ++ t.rest;
  is = record { front = front ++ g.rest; rest = t.rest; words = sym (append_assoc front g.rest t.rest); is_first = g.is; is_then = t.is };
}

pub then_some : (first then : List Word → Type 0) → Goes first [] → Goes then [] → Goes (Then first then) []
then_some first then g t = then_goes first then [] g t

abbrev plain : {A : Type 0} → (List Word → Type 0) → List Word → A → Type 0
plain shape ws x = shape ws

found : {A : Type 0} (p : Parser A) (shape : List Word → Type 0) → Shapes p shape → (i j : Input) (x : A) → p i ≡ Ok (x, j) → Found (plain shape) i x j
found p shape l i j x e = let t = l.sound i j x e in record { front = t.front; words = t.words; is = t.is }

-- behind no token
pub behind_none : (shape : List Word → Type 0) (ws : List Word) → Then (Spelled []) shape ws → shape ws
behind_none shape ws h = subst shape (sym (h.words ∙ ap (λ us. us ++ h.rest) (none h.front h.is_first))) h.is_then

pub then_begins : {A B : Type 0} (p : Parser A) (f : A → Parser B) (first then : List Word → Type 0) → Shapes p first → ((x : A) → Begins (f x) then)
    → Goes then [] → Begins (p >>= f) (Then first then)
then_begins p f first then lp bf some = begins_bind p f (plain first) first (λ x. then) (Then first then) (found p first lp) lp.begins
    (λ front g. then_goes first then front g some) (λ ws x is. bf x) (λ ws x is. then_none first then ws is some)
    (λ ws more x is g. then_on first then ws more is g)

pub then_shapes : {A B : Type 0} (p : Parser A) (f : A → Parser B) (first then : List Word → Type 0) → Shapes p first → ((x : A) → Shapes (f x) then)
    → Goes then [] → Shapes (p >>= f) (Then first then)
then_shapes p f first then lp lf some = record {
  sound = λ i j y e.
      let a = then_ok (p i) f y j e in
      let one = lp.sound i a.at a.value a.first in
      let two = (lf a.value).sound a.at j y a.rest in
      record {
        front = one.front ++ two.front;
        words = one.words ∙ ap (ahead one.front) two.words ∙ ahead_append one.front two.front j;
        is = record { front = one.front; rest = two.front; words = refl; is_first = one.is; is_then = two.is };
      };
  begins = then_begins p f first then lp (λ x. (lf x).begins) some;
}

pub shapes_as : {A : Type 0} (p : Parser A) (shape other : List Word → Type 0) → ((ws : List Word) → shape ws → other ws) → Shapes p shape → Shapes p other
shapes_as p shape other h l = record {
  sound = λ i j x e. let t = l.sound i j x e in record { front = t.front; words = t.words; is = h t.front t.is };
  begins = λ i fault place e. cut_as shape other i place
      (λ front g. record { rest = g.rest; is = h (front ++ g.rest) g.is })
      (l.begins i fault place e);
}

-- what is made of a value
pub made_shapes : {A B : Type 0} (p : Parser A) (make : A → B) (shape : List Word → Type 0) → Shapes p shape → Shapes (p >>= (λ x. pure (make x))) shape
made_shapes p make shape l = record {
  sound = λ i j y e.
      let a = then_ok (p i) (λ x. pure (make x)) y j e in
      let one = l.sound i a.at a.value a.first in
      record { front = one.front; words = one.words ∙ ap (ahead one.front) (ok_input (make a.value) y a.at j a.rest); is = one.is };
  begins = λ i fault place e. go i fault place (which (p i) (λ x. pure (make x)) (Refused fault place) e);
}
  where
    go : (i : Input) (fault : Fault) (place : ℕ) → (p i ≡ Err (Refused fault place)) ⊎ Later (p i) (λ x. pure (make x)) (Refused fault place)
        → Cut shape i place
    go i fault place (inl e) = l.begins i fault place e
    go i fault place (inr later) = absurd (let r = later.rest in cc)

pub pure_shapes : {A : Type 0} (x : A) → Shapes (pure x) (λ ws. ws ≡ [])
pure_shapes x = record { sound = λ i j y e. record { front = []; words = ok_input x y i j e; is = refl }; begins = λ i fault place e. absurd cc }

-- no word may come
pub unexpected_shapes : {A : Type 0} (shape : List Word → Type 0) → Shapes (unexpected {A = A}) shape
unfolding misplaced refusal
unexpected_shapes {A = A} shape = record {
  sound = λ i j x e. absurd cc;
  begins = λ i fault place e. cut_here {A = A} shape i (cond (same_kind (kind i) k.Bad) BadToken BadSyntax) fault place e;
}

-- a level for what comes
pub open_shapes : {A : Type 0} (levels : ℕ) (p : Parser A) (shape : List Word → Type 0) → Shapes p shape → Shapes (open_level levels >> p) shape
unfolding refusal
open_shapes {A = A} zero p shape l = record { sound = λ i j x e. absurd cc; begins = λ i fault place e. cut_here {A = A} shape i TooDeep fault place e }
open_shapes (suc levels) p shape l = record { sound = λ i j x e. l.sound i j x e; begins = λ i fault place e. l.begins i fault place e }

-- what the next word chooses
pub chosen_shapes : {A : Type 0} (by : Word → Parser A) (shape : List Word → Type 0) → ((w : Word) → Shapes (by w) shape) → Shapes (λ i. by (peek i) i) shape
chosen_shapes by shape l = record { sound = λ i j x e. (l (peek i)).sound i j x e; begins = λ i fault place e. (l (peek i)).begins i fault place e }

pub if_shapes : {A : Type 0} (b : Bool) (p q : Parser A) (shape : List Word → Type 0) → Shapes p shape → Shapes q shape → Shapes (λ i. cond b (p i) (q i)) shape
if_shapes true p q shape lp lq = record { sound = λ i j x e. lp.sound i j x e; begins = λ i fault place e. lp.begins i fault place e }
if_shapes false p q shape lp lq = record { sound = λ i j x e. lq.sound i j x e; begins = λ i fault place e. lq.begins i fault place e }

-- ---- single words

pub word_cut : {A : Type 0} (shape : List Word → Type 0) (a : Kind) (reads : Text → Result A Fault) (i : Input) (fault : Fault) (place : ℕ)
    → a_word a reads i ≡ Err (Refused fault place) → Cut shape i place
unfolding a_word misplaced refusal
word_cut {A = A} shape a reads i fault place e = go (same_kind (kind i) a) (reads (text i)) e
  where
    go : (b : Bool) (r : Result A Fault)
        → cond b (read_as r i) (Err (Refused (cond (same_kind (kind i) k.Bad) BadToken BadSyntax) (peek i).place)) ≡ Err (Refused fault place)
        → Cut shape i place
    go true (Ok x) e = absurd cc
    go true (Err f) e = cut_here {A = A} shape i f fault place e
    go false r e = cut_here {A = A} shape i (cond (same_kind (kind i) k.Bad) BadToken BadSyntax) fault place e

pub word_shapes : {A : Type 0} (a : Kind) (reads : Text → Result A Fault) → (a ≡ k.End → ⊥) → Shapes (a_word a reads) (λ ws. (x : A) × IsWordOf a reads ws x)
word_shapes {A = A} a reads some = record {
  sound = λ i j x e. let f = (lawful_word a reads some).sound i j x e in record { front = f.front; words = f.words; is = (x, f.is) };
  begins = λ i fault place e. word_cut (λ ws. (x : A) × IsWordOf a reads ws x) a reads i fault place e;
}

-- words of these tokens
abbrev pub word_for : Token → Word
word_for t = record { kind = t.kind; text = t.text; place = 0 }

abbrev pub words_for : List Token → List Word
words_for [] = []
words_for (t ∷ ts) = word_for t ∷ words_for ts

pub words_are : (ts : List Token) → tokens_of (words_for ts) ≡ ts
words_are [] = refl
words_are (t ∷ ts) = ap (λ us. t ∷ us) (words_are ts)

pub some_tokens : (ts : List Token) → Goes (Spelled ts) []
some_tokens ts = record { rest = words_for ts; is = words_are ts }

pub token_shapes : (t : Token) → (t.kind ≡ k.End → ⊥) → Shapes (exactly t) (Spelled (t ∷ []))
token_shapes t some = record {
  sound = λ i j x e. let f = (lawful_exactly t some).sound i j x e in record { front = f.front; words = f.words; is = f.is.0 };
  begins = λ i fault place e. word_cut (Spelled (t ∷ [])) t.kind (spelled t.text) i fault place e;
}

spelled_both : (a b : List Token) (ws : List Word) → Then (Spelled a) (Spelled b) ws → Spelled (a ++ b) ws
spelled_both a b ws h = ap tokens_of h.words ∙ tokens-append h.front h.rest ∙ (λ j. h.is_first j ++ h.is_then j)

pub tokens_shape : (ts : List Token) → NoEnd ts → Shapes (expect_all ts) (Spelled ts)
tokens_shape [] some = shapes_as (pure tt) (λ ws. ws ≡ []) (Spelled []) (λ ws e. ap tokens_of e) (pure_shapes tt)
tokens_shape (t ∷ ts) some = shapes_as (expect_all (t ∷ ts)) (Then (Spelled (t ∷ [])) (Spelled ts)) (Spelled (t ∷ ts)) (spelled_both (t ∷ []) ts)
    (then_shapes (exactly t) (λ u. expect_all ts) (Spelled (t ∷ [])) (Spelled ts) (token_shapes t some.0) (λ u. tokens_shape ts some.1) (some_tokens ts))

-- ---- between tokens

pub some_around : (before after : List Token) (inside : List Word → Type 0) → Goes inside [] → Goes (Around before after inside) []
some_around before after inside g = then_some (Spelled before) (Then inside (Spelled after)) (some_tokens before)
    (then_some inside (Spelled after) g (some_tokens after))

pub around_shapes : {A : Type 0} (before after : List Token) (p : Parser A) (inside : List Word → Type 0) → NoEnd before → NoEnd after → Shapes p inside
    → Goes inside [] → Shapes (around before after p) (Around before after inside)
around_shapes before after p inside a b l some =
    then_shapes (expect_all before) (λ u. p >>= (λ x. expect_all after >>= (λ v. pure x))) (Spelled before) (Then inside (Spelled after))
    (tokens_shape before a)
    (λ u. then_shapes p (λ x. expect_all after >>= (λ v. pure x)) inside (Spelled after) l
    (λ x. made_shapes (expect_all after) (λ v. x) (Spelled after) (tokens_shape after b)) (some_tokens after))
    (then_some inside (Spelled after) some (some_tokens after))

pub opened_shapes : {A : Type 0} (levels : ℕ) (front before after : List Token) (p : Parser A) (inside : List Word → Type 0)
    → NoEnd front → NoEnd before → NoEnd after → Shapes p inside → Goes inside []
    → Shapes (opened levels front before after p) (Then (Spelled front) (Around before after inside))
opened_shapes levels front before after p inside f a b l some =
    then_shapes (expect_all front) (λ u. open_level levels >> around before after p) (Spelled front) (Around before after inside) (tokens_shape front f)
    (λ u. open_shapes levels (around before after p) (Around before after inside) (around_shapes before after p inside a b l some))
    (some_around before after inside some)
