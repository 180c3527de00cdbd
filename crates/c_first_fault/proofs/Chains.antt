-- Chains, choices and what comes any number of times: the words before the word of a fault go on.
use Rattle.std.proofs.Common.{◌≡◌, ◌⊎◌, inl, inr, ℕ, zero, suc, ◌+◌, Bool, true, false, cond, List, [], ◌∷◌, ◌++◌, length, Option, Some, None, Result, Ok, Err}
use Rattle.std.proofs.Common.{refl, sym, ap, subst, ◌∙◌, append_assoc, append-nil}
use Rattle.text_tokens.specs.declared.kind.Kind.{Kind}
use Rattle.text_tokens.specs.declared.kind.Kind.TheVariants as k
use Rattle.text_tokens.specs.Words.{Word, Input, peek, next}
use Rattle.reader_laws.specs.declared.fault.Fault.{Fault}
use Rattle.reader_laws.specs.declared.fault.Fault.TheVariants.{TooDeep}
use Rattle.reader_laws.specs.declared.fault.ReadError.TheVariants.{Refused}
use Rattle.reader_laws.specs.Steps.{Outcome, Parser, and_then, ◌>>=◌, ◌>>◌, kind, open_level, pure, refuse, refusal, take_word}
use Rattle.reader_laws.specs.Chain.{Links, chain, go_on, joined}
use Rattle.reader_laws.proofs.Outcomes.{ahead, ahead_append, ok_input, opened_ok, taken, then_ok}
use Rattle.c_read.specs.Parts.{optional, until, until_by}
use Rattle.c_first_fault.specs.Shape.{Chain, Each, EachBy, Linked, Then}
use Rattle.c_first_fault.proofs.Shapes.{Cut, Goes, Later, Shapes, Taken, cut_after, cut_here, shapes_as, then_shapes, which}

-- ---- chains

module _ {A B O : Type 0} (links : Links A B O) (shape : List Word → Type 0)
    (no_end : (kd : Kind) (o : O) → links.operator kd ≡ Some o → kd ≡ k.End → ⊥) (some : Goes shape []) where
  abbrev Run : ℕ → List Word → Type 0
  Run = Chain links.operator shape

  nothing : (n : ℕ) → Run n []
  nothing zero = refl
  nothing (suc n) = inl refl

  linked : (n : ℕ) (w : Word) (o : O) (front ws : List Word) → links.operator w.kind ≡ Some o → shape front → Run n ws → Run (suc n) (w ∷ front ++ ws)
  linked n w o front ws is operand rest =
      inr (record { word = w; sign = o; front = front; rest = ws; words = refl; is = is; is_operand = operand; is_rest = rest })

  -- an operand that goes on ends the chain
  after : (n : ℕ) (w : Word) (o : O) (front : List Word) → links.operator w.kind ≡ Some o → Goes shape front → Goes (Run (suc n)) (w ∷ front)
  after n w o front is g = record {
    rest = g.rest;
    is = subst (λ (ws : List Word). Run (suc n) (w ∷ ws)) (append-nil (front ++ g.rest))
        (linked n w o (front ++ g.rest) [] is g.is (nothing n));
  }

  further : (n : ℕ) (w : Word) (o : O) (front more : List Word) → links.operator w.kind ≡ Some o → shape front → Goes (Run n) more
      → Goes (Run (suc n)) ((w ∷ front) ++ more)
  further n w o front more is operand g = record {
    rest = g.rest;
    is = subst (λ (ws : List Word). Run (suc n) (w ∷ ws)) (sym (append_assoc front more g.rest))
        (linked n w o front (more ++ g.rest) is operand g.is);
  }

  -- the operator, and what was read behind it
  behind : (i j : Input) (o : O) (front : List Word) → links.operator (kind i) ≡ Some o → next i ≡ ahead front j → i ≡ ahead (peek i ∷ front) j
  behind i j o front is words = taken i (no_end (kind i) o is) ∙ ap (ahead (peek i ∷ [])) words

  module _ (operand : ℕ → A → O → Parser B) (each : (n : ℕ) (a : A) (o : O) → Shapes (operand n a o) shape) where
    chain_sound : (n : ℕ) (left : A) (i j : Input) (x : A) → chain links operand n left i ≡ Ok (x, j) → Taken (Run n) i j
    unfolding chain
    chain_sound zero left i j x e = go (links.operator (peek i).kind) e
      where
        go : (v : Option O) → go_on v left (λ _. refuse TooDeep) i ≡ Ok (x, j) → Taken (Run zero) i j
        go None e = record { front = []; words = ok_input left x i j e; is = refl }
        go (Some o) e = absurd cc
    chain_sound (suc n) left i j x e = go (links.operator (peek i).kind) refl (λ y l m z f. chain_sound n y l m z f) e
      where
        go : (v : Option O) → links.operator (peek i).kind ≡ v
            → ((y : A) (l m : Input) (z : A) → chain links operand n y l ≡ Ok (z, m) → Taken (Run n) l m)
            → go_on v left (λ o. open_level (links.room n) >> (take_word >> (operand n left o >>= λ right. joined (peek i) (links.join o left right)
            (chain links operand n)))) i ≡ Ok (x, j)
            → Taken (Run (suc n)) i j
        go None is again e = record { front = []; words = ok_input left x i j e; is = inl refl }
        go (Some o) is again e =
            let more : B → Parser A = λ right. joined (peek i) (links.join o left right) (chain links operand n) in
            let a = then_ok (open_level (links.room n) i) (λ _. take_word >> (operand n left o >>= more)) x j e in
            let opened = opened_ok (links.room n) i a.at a.value a.first in
            let b = then_ok (operand n left o (next a.at)) more x j a.rest in
            let right = (each n left o).sound (next a.at) b.at b.value b.first in
            joins (links.join o left b.value) b.at right.front (ap (λ (l : Input). next l) opened ∙ right.words) right.is b.rest
          where
            joins : (r : Result A Fault) (at : Input) (front : List Word) → next i ≡ ahead front at → shape front
                → joined (peek i) r (chain links operand n) at ≡ Ok (x, j) → Taken (Run (suc n)) i j
            joins (Err f) at front words operand e = absurd cc
            joins (Ok c) at front words operand e =
                let rest = again c at j x e in
                record {
                  front = peek i ∷ front ++ rest.front;
                  words = behind i at o front is words ∙ ap (ahead (peek i ∷ front)) rest.words ∙ ahead_append (peek i ∷ front) rest.front j;
                  is = linked n (peek i) o front rest.front is operand rest.is;
                }

    begins_chain : (n : ℕ) (left : A) (i : Input) (fault : Fault) (place : ℕ) → chain links operand n left i ≡ Err (Refused fault place) → Cut (Run n) i place
    unfolding chain refusal
    begins_chain zero left i fault place e = go (links.operator (peek i).kind) e
      where
        go : (v : Option O) → go_on v left (λ _. refuse TooDeep) i ≡ Err (Refused fault place) → Cut (Run zero) i place
        go None e = absurd cc
        go (Some o) e = cut_here {A = A} (Run zero) i TooDeep fault place e
    begins_chain (suc n) left i fault place e = go (links.operator (peek i).kind) refl (λ v. begins_chain n v) e
      where
        go : (v : Option O) → links.operator (peek i).kind ≡ v
            → ((y : A) (l : Input) (f : Fault) (at : ℕ) → chain links operand n y l ≡ Err (Refused f at) → Cut (Run n) l at)
            → go_on v left (λ o. open_level (links.room n) >> (take_word >> (operand n left o >>= λ right. joined (peek i) (links.join o left right)
            (chain links operand n)))) i ≡ Err (Refused fault place)
            → Cut (Run (suc n)) i place
        go None is again e = absurd cc
        go (Some o) is again e = opened (links.room n) e
          where
            joins : (r : Result A Fault) (at : Input) (front : List Word) → next i ≡ ahead front at → shape front
                → joined (peek i) r (chain links operand n) at ≡ Err (Refused fault place) → Cut (Run (suc n)) i place
            joins (Err f) at front words operand e = cut_here {A = A} (Run (suc n)) i f fault place e
            joins (Ok c) at front words operand e = cut_after (Run n) (Run (suc n)) i at place (peek i ∷ front) (behind i at o front is words)
                (subst (λ (ws : List Word). Goes (Run (suc n)) ws) (append-nil (peek i ∷ front))
                (further n (peek i) o front [] is operand (record { rest = []; is = nothing n })))
                (λ rest g. further n (peek i) o front rest is operand g) (again c at fault place e)

            turned : (operand n left o (next i) ≡ Err (Refused fault place))
                ⊎ Later (operand n left o (next i)) (λ right. joined (peek i) (links.join o left right) (chain links operand n)) (Refused fault place)
                → Cut (Run (suc n)) i place
            turned (inl e) = cut_after shape (Run (suc n)) i (next i) place (peek i ∷ []) (taken i (no_end (kind i) o is)) (after n (peek i) o [] is some)
                (λ rest g. after n (peek i) o rest is g) ((each n left o).begins (next i) fault place e)
            turned (inr l) =
                let s = (each n left o).sound (next i) l.at l.value l.first in
                joins (links.join o left l.value) l.at s.front s.words s.is l.rest

            opened : (m : ℕ)
                → (open_level m >> (take_word >> (operand n left o >>= (λ right. joined (peek i) (links.join o left right) (chain links operand n))))) i
                ≡ Err (Refused fault place) → Cut (Run (suc n)) i place
            opened zero e = cut_here {A = A} (Run (suc n)) i TooDeep fault place e
            opened (suc m) e = turned (which (operand n left o (next i)) (λ right. joined (peek i) (links.join o left right)
                (chain links operand n)) (Refused fault place) e)

    pub chain_shapes : (n : ℕ) (left : A) → Shapes (chain links operand n left) (Chain links.operator shape n)
    chain_shapes n left = record { sound = λ i j x e. chain_sound n left i j x e; begins = λ i fault place e. begins_chain n left i fault place e }

  -- ---- one operator at most

  module _ (operand : O → Parser B) (each : (o : O) → Shapes (operand o) shape) where
    abbrev Right : O → Parser B
    Right o = open_level (links.room 0) >> (take_word >> operand o)

    right_sound : (o : O) (i j : Input) (x : B) → Right o i ≡ Ok (x, j) → Taken shape (next i) j
    right_sound o i j x e =
        let a = then_ok (open_level (links.room 0) i) (λ _. take_word >> operand o) x j e in
        let opened = opened_ok (links.room 0) i a.at a.value a.first in
        let t = (each o).sound (next a.at) j x a.rest in
        record { front = t.front; words = ap (λ (l : Input). next l) opened ∙ t.words; is = t.is }

    optional_sound : (left : A) (i j : Input) (x : A) → optional links operand left i ≡ Ok (x, j) → Taken (Run 1) i j
    optional_sound left i j x e = go (links.operator (peek i).kind) refl e
      where
        go : (v : Option O) → links.operator (peek i).kind ≡ v
            → go_on v left (λ o. Right o >>= (λ right. joined (peek i) (links.join o left right) pure)) i ≡ Ok (x, j) → Taken (Run 1) i j
        go None is e = record { front = []; words = ok_input left x i j e; is = inl refl }
        go (Some o) is e =
            let a = then_ok (Right o i) (λ right. joined (peek i) (links.join o left right) pure) x j e in
            let t = right_sound o i a.at a.value a.first in
            joins (links.join o left a.value) a.at t a.rest
          where
            joins : (r : Result A Fault) (at : Input) → Taken shape (next i) at → joined (peek i) r pure at ≡ Ok (x, j) → Taken (Run 1) i j
            joins (Err f) at t e = absurd cc
            joins (Ok c) at t e = record {
              front = peek i ∷ t.front ++ [];
              words = behind i at o t.front is t.words ∙ ap (ahead (peek i ∷ t.front)) (ok_input c x at j e) ∙ ahead_append (peek i ∷ t.front) [] j;
              is = linked 0 (peek i) o t.front [] is t.is refl;
            }

    optional_begins : (left : A) (i : Input) (fault : Fault) (place : ℕ) → optional links operand left i ≡ Err (Refused fault place) → Cut (Run 1) i place
    unfolding refusal
    optional_begins left i fault place e = go (links.operator (peek i).kind) refl e
      where
        go : (v : Option O) → links.operator (peek i).kind ≡ v
            → go_on v left (λ o. Right o >>= (λ right. joined (peek i) (links.join o left right) pure)) i ≡ Err (Refused fault place) → Cut (Run 1) i place
        go None is e = absurd cc
        go (Some o) is e = turned (which (Right o i) (λ right. joined (peek i) (links.join o left right) pure) (Refused fault place) e)
          where
            opened : (m : ℕ) → (open_level m >> (take_word >> operand o)) i ≡ Err (Refused fault place) → Cut (Run 1) i place
            opened zero e = cut_here {A = B} (Run 1) i TooDeep fault place e
            opened (suc m) e = cut_after shape (Run 1) i (next i) place (peek i ∷ []) (taken i (no_end (kind i) o is)) (after 0 (peek i) o [] is some)
                (λ rest g. after 0 (peek i) o rest is g) ((each o).begins (next i) fault place e)

            joins : (r : Result A Fault) (at : Input) → joined (peek i) r pure at ≡ Err (Refused fault place) → Cut (Run 1) i place
            joins (Err f) at e = cut_here {A = A} (Run 1) i f fault place e
            joins (Ok c) at e = absurd cc

            turned : (Right o i ≡ Err (Refused fault place)) ⊎ Later (Right o i) (λ right. joined (peek i) (links.join o left right) pure) (Refused fault place)
                → Cut (Run 1) i place
            turned (inl e) = opened (links.room 0) e
            turned (inr l) = joins (links.join o left l.value) l.at l.rest

    pub optional_shapes : (left : A) → Shapes (optional links operand left) (Chain links.operator shape 1)
    optional_shapes left = record {
      sound = λ i j x e. optional_sound left i j x e;
      begins = λ i fault place e. optional_begins left i fault place e;
    }

-- ---- any number of times

pub each_none : (item then : List Word → Type 0) (ws : List Word) → then ws → Then (Each item) then ws
each_none item then ws is = record { front = []; rest = ws; words = refl; is_first = (0, refl); is_then = is }

pub some_each : (item then : List Word → Type 0) → Goes then [] → Goes (Then (Each item) then) []
some_each item then g = record { rest = g.rest; is = each_none item then g.rest g.is }

each_more : (item then : List Word → Type 0) (ws : List Word) → Then item (Then (Each item) then) ws → Then (Each item) then ws
each_more item then ws h = record {
  front = h.front ++ h.is_then.front;
  rest = h.is_then.rest;
  words = h.words ∙ ap (λ us. h.front ++ us) h.is_then.words ∙ sym (append_assoc h.front h.is_then.front h.is_then.rest);
  is_first = (
    suc h.is_then.is_first.0,
    record {
      front = h.front;
      rest = h.is_then.front;
      words = refl;
      is_first = h.is_first;
      is_then = h.is_then.is_first.1;
    },
  );
  is_then = h.is_then.is_then;
}

module _ {A B : Type 0} (goes : Word → Bool) (turn : A → Parser A) (final : A → Parser B) (item then : List Word → Type 0)
    (each : (a : A) → Shapes (turn a) item) (ends : (a : A) → Shapes (final a) then) (some : Goes then []) where
  by_shapes : (n : ℕ) (a : A) → Shapes (until_by goes turn final n a) (Then (Each item) then)
  by_shapes zero a = shapes_as (final a) then (Then (Each item) then) (each_none item then) (ends a)
  by_shapes (suc n) a =
      let rest = then_shapes (turn a) (λ b. until_by goes turn final n b) item (Then (Each item) then) (each a) (λ b. by_shapes n b)
      (some_each item then some) in
      let more = shapes_as (turn a >>= (λ b. until_by goes turn final n b)) (Then item (Then (Each item) then)) (Then (Each item) then)
      (each_more item then) rest in
      let last = shapes_as (final a) then (Then (Each item) then) (each_none item then) (ends a) in
      record { sound = λ i j x e. go i (goes (peek i)) j x more last e; begins = λ i fault place e. stop i (goes (peek i)) fault place more last e }
    where
      go : (i : Input) (b : Bool) (j : Input) (x : B) → Shapes (turn a >>= (λ b. until_by goes turn final n b)) (Then (Each item) then)
          → Shapes (final a) (Then (Each item) then)
          → cond b ((turn a >>= until_by goes turn final n) i) (final a i) ≡ Ok (x, j) → Taken (Then (Each item) then) i j
      go i true j x more last e = more.sound i j x e
      go i false j x more last e = last.sound i j x e

      stop : (i : Input) (b : Bool) (fault : Fault) (place : ℕ) → Shapes (turn a >>= (λ b. until_by goes turn final n b)) (Then (Each item) then)
          → Shapes (final a) (Then (Each item) then)
          → cond b ((turn a >>= until_by goes turn final n) i) (final a i) ≡ Err (Refused fault place) → Cut (Then (Each item) then) i place
      stop i true fault place more last e = more.begins i fault place e
      stop i false fault place more last e = last.begins i fault place e

  pub until_shapes : (a : A) → Shapes (until goes turn final a) (Then (Each item) then)
  until_shapes a = record {
    sound = λ i j x e. (by_shapes (length i.words + 1) a).sound i j x e;
    begins = λ i fault place e. (by_shapes (length i.words + 1) a).begins i fault place e;
  }
