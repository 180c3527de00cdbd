-- A reader that goes on step by step is lawful where its steps and its end are.
use Rattle.std.proofs.Common.{◌≡◌, ◌⊎◌, inl, inr, ℕ, zero, suc, ◌+◌, ◌<◌, ◌≤◌, Bool, true, false, cond}
use Rattle.std.proofs.Common.{List, [], ◌∷◌, ◌++◌, length, Result, Ok, Err, refl, sym, ap, subst, ◌∙◌, arith, length-append}
use Rattle.text_tokens.specs.declared.kind.Kind.{Kind}
use Rattle.text_tokens.specs.Words.{Word, Input, peek}
use Rattle.reader_laws.specs.declared.fault.Fault.{Fault}
use Rattle.reader_laws.specs.declared.fault.ReadError.{ReadError}
use Rattle.reader_laws.specs.declared.fault.ReadError.TheVariants.{Memory, Refused}
use Rattle.reader_laws.specs.Steps.{Outcome, Parser, ◌>>=◌, and_then, kind}
use Rattle.reader_laws.specs.Grammar.{Both, IsPlaceIn, Stands}
use Rattle.reader_laws.proofs.Outcomes.{ahead, ahead_append, then_ok}
use Rattle.reader_laws.proofs.Local.{Alike, Ends, LocalBut, Local, LocalOn, Nowhere, Seen, alike_ahead, moved}
use Rattle.reader_laws.proofs.Lawful.{Found, Lawful}
use Rattle.c_read.specs.Parts.{until, until_by}
use Rattle.c_read.specs.Until.{Until, UntilBy}

-- ---- one reader and then another, which is known to end well behind the first alone

place_after : (front more : List Word) (place : ℕ) → IsPlaceIn place more → IsPlaceIn place (front ++ more)
place_after [] more place h = h
place_after (v ∷ vs) more place h = inr (place_after vs more place h)

stands_after : (front more : List Word) (fault : Fault) (place : ℕ) (w : Word) → Stands fault place more w → Stands fault place (front ++ more) w
stands_after front more fault place w (inl h) = inl h
stands_after front more fault place w (inr h) = inr (h.0, place_after front more place h.1)

ends_after : {A : Type 0} (r : Outcome A) (front more : List Word) (at : Input) → Ends Nowhere r more at → Ends Nowhere r (front ++ more) at
ends_after (Ok p) front more at h = h
ends_after (Err Memory) front more at h = h
ends_after (Err (Refused fault place)) front more at (inl h) = inl h
ends_after (Err (Refused fault place)) front more at (inr h) = inr (stands_after front more fault place (peek at) h)

err_ends : (A B : Type 0) (x : ReadError) (front : List Word) (at : Input) → Ends {A = A} Nowhere (Err x) front at → Ends {A = B} Nowhere (Err x) front at
err_ends A B Memory front at h = h
err_ends A B (Refused fault place) front at h = h

bind_seen : {A B : Type 0} (p : Parser A) (f : A → Parser B) (i : Input) (r : Outcome A) → p i ≡ r → (s : Seen Nowhere p i)
    → ((x : A) (j : Input) → r ≡ Ok (x, j) → Seen Nowhere (f x) j) → Seen Nowhere (p >>= f) i
bind_seen {A = A} {B = B} p f i (Err x) is s rest = record {
  front = s.front;
  at = s.at;
  words = s.words;
  ends = subst (λ (r : _). Ends Nowhere (and_then r f) s.front s.at) (sym is)
      (err_ends A B x s.front s.at (subst (λ (r : _). Ends Nowhere r s.front s.at) is s.ends));
  again = λ l h. ap (λ r. and_then r f) (s.again l h ∙ ap (λ r. moved r l) is) ∙ ap (λ r. moved (and_then r f) l) (sym is);
}
bind_seen p f i (Ok v) is s rest =
    let t = rest v.0 v.1 refl in
    let here : v.1 ≡ s.at = subst (λ (r : _). Ends Nowhere r s.front s.at) is s.ends in
    let e : s.at ≡ ahead t.front t.at = sym here ∙ t.words in
    record {
      front = s.front ++ t.front;
      at = t.at;
      words = s.words ∙ ap (ahead s.front) e ∙ ahead_append s.front t.front t.at;
      ends = subst (λ r. Ends Nowhere (and_then r f) (s.front ++ t.front) t.at) (sym is) (ends_after (f v.0 v.1) s.front t.front t.at t.ends);
      again = λ l h.
          let k : Alike (ahead t.front l) s.at = subst (λ (z : Input). Alike (ahead t.front l) z) (sym e) (alike_ahead t.front l t.at h) in
          ap (λ (z : Input). and_then (p z) f) (sym (ahead_append s.front t.front l))
          ∙ ap (λ r. and_then r f) (s.again (ahead t.front l) k ∙ ap (λ r. moved r (ahead t.front l)) is) ∙ t.again l h
          ∙ ap (λ r. moved (and_then r f) l) (sym is);
    }

-- a reader that looks at the next word first
peek_seen : {A : Type 0} (f : Word → Parser A) (i : Input) → Seen Nowhere (f (peek i)) i → Seen Nowhere (λ l. f (peek l) l) i
peek_seen f i s = record {
  front = s.front;
  at = s.at;
  words = s.words;
  ends = s.ends;
  again = λ l a.
      let same : peek (ahead s.front l) ≡ peek i = (alike_ahead s.front l s.at a).word ∙ ap peek (sym s.words) in
      ap (λ (v : Word). f v (ahead s.front l)) same ∙ s.again l a;
}

module _ {A B : Type 0} (goes : Word → Bool) (turn : A → Parser A) (final : A → Parser B) (turns : A → List Word → A → Type 0)
    (finals : A → List Word → B → Type 0)
    (turn_goes_on goes_on : Kind → Bool)
    (lt : (a : A) → Lawful (turn a) (turns a) turn_goes_on) (lf : (a : A) → Lawful (final a) (finals a) goes_on)
    (some : (a : A) (ws : List Word) (b : A) → turns a ws b → 0 < length ws)
    (starts : (a : A) (ws : List Word) (b : A) (j : Input) → turns a ws b → goes (peek (ahead ws j)) ≡ true)
    (ends : (a : A) (ws : List Word) (y : B) (j : Input) → finals a ws y → goes_on (kind j) ≡ false → goes (peek (ahead ws j)) ≡ false)
    (frees : (w : Word) → goes w ≡ true → turn_goes_on w.kind ≡ false)
    (frees_end : (a : A) (ws : List Word) (y : B) (j : Input) → finals a ws y → goes_on (kind j) ≡ false → turn_goes_on (kind (ahead ws j)) ≡ false) where
  abbrev By : ℕ → A → Parser B
  By = until_by goes turn final

  abbrev Body : (A → Parser B) → A → Parser B
  Body rest = λ a i. cond (goes (peek i)) ((turn a >>= rest) i) (final a i)

  -- ---- what is read is said

  sound_by : (n : ℕ) (a : A) (i j : Input) (y : B) → By n a i ≡ Ok (y, j) → Found (Until turns finals a) i y j
  sound_by zero a i j y h = let f = (lf a).sound i j y h in record { front = f.front; words = f.words; is = (0, f.is) }
  sound_by (suc n) a i j y h = go (goes (peek i)) h (λ b l m z e. sound_by n b l m z e)
    where
      go : (v : Bool) → cond v ((turn a >>= By n) i) (final a i) ≡ Ok (y, j)
          → ((b : A) (l m : Input) (z : B) → By n b l ≡ Ok (z, m) → Found (Until turns finals b) l z m)
          → Found (Until turns finals a) i y j
      go false h again = let f = (lf a).sound i j y h in record { front = f.front; words = f.words; is = (0, f.is) }
      go true h again =
          let t = then_ok (turn a i) (By n) y j h in
          let one = (lt a).sound i t.at t.value t.first in
          let two = again t.value t.at j y t.rest in
          record {
            front = one.front ++ two.front;
            words = one.words ∙ ap (ahead one.front) two.words ∙ ahead_append one.front two.front j;
            is = (suc two.is.0, record { value = t.value; front = one.front; rest = two.front; words = refl; is_first = one.is; is_then = two.is.1 });
          }

  -- ---- what is said is read

  pub first_goes : (n : ℕ) (a : A) (ws : List Word) (y : B) (j : Input) → UntilBy turns finals n a ws y → goes_on (kind j) ≡ false
      → turn_goes_on (kind (ahead ws j)) ≡ false
  first_goes zero a ws y j is e = frees_end a ws y j is e
  first_goes (suc n) a ws y j is e =
      let whole : ahead ws j ≡ ahead is.front (ahead is.rest j) = ap (λ (vs : List Word). ahead vs j) is.words ∙ sym (ahead_append is.front is.rest j) in
      ap (λ (l : Input). turn_goes_on (kind l)) whole
      ∙ frees (peek (ahead is.front (ahead is.rest j))) (starts a is.front is.value (ahead is.rest j) is.is_first)

  count : (n : ℕ) (a : A) (ws : List Word) (y : B) → UntilBy turns finals n a ws y → n ≤ length ws
  count zero a ws y is = omega arith
  count (suc n) a ws y is =
      let one = some a is.front is.value is.is_first in
      let more = count n is.value is.rest y is.is_then in
      let both : length ws ≡ length is.front + length is.rest = ap length is.words ∙ length-append is.front is.rest in
      omega arith

  complete_by : (n m : ℕ) (a : A) (ws : List Word) (y : B) (j : Input) → n < m → UntilBy turns finals n a ws y → goes_on (kind j) ≡ false
      → By m a (ahead ws j) ≡ Ok (y, j)
  complete_by n zero a ws y j l is e = absurd (omega arith)
  complete_by zero (suc m) a ws y j l is e =
      ap (λ (v : Bool). cond v ((turn a >>= By m) (ahead ws j)) (final a (ahead ws j))) (ends a ws y j is e) ∙ (lf a).complete ws y j is e
  complete_by (suc n) (suc m) a ws y j l is e =
      let whole : ahead ws j ≡ ahead is.front (ahead is.rest j) = ap (λ (vs : List Word). ahead vs j) is.words ∙ sym (ahead_append is.front is.rest j) in
      let on : goes (peek (ahead is.front (ahead is.rest j))) ≡ true = starts a is.front is.value (ahead is.rest j) is.is_first in
      let one = (lt a).complete is.front is.value (ahead is.rest j) is.is_first (first_goes n is.value is.rest y j is.is_then e) in
      ap (By (suc m) a) whole
      ∙ ap (λ (v : Bool). cond v ((turn a >>= By m) (ahead is.front (ahead is.rest j))) (final a (ahead is.front (ahead is.rest j)))) on
      ∙ ap (λ r. and_then r (By m)) one
      ∙ complete_by n m is.value is.rest y j (omega (arith, l)) is.is_then e

  -- ---- more steps than words change nothing

  shorter : (a b : A) (i j : Input) → turn a i ≡ Ok (b, j) → length j.words < length i.words
  shorter a b i j h =
      let f = (lt a).sound i j b h in
      let one = some a f.front b f.is in
      let both : length i.words ≡ length f.front + length j.words = ap (λ (l : Input). length l.words) f.words ∙ length-append f.front j.words in
      omega arith

  enough : (n m : ℕ) (a : A) (i : Input) → length i.words < n → length i.words < m → By n a i ≡ By m a i
  enough zero m a i h g = absurd (omega arith)
  enough (suc n) zero a i h g = absurd (omega arith)
  enough (suc n) (suc m) a i h g = go (goes (peek i)) (turn a i) refl (λ b j x y. enough n m b j x y)
    where
      go : (v : Bool) (r : Outcome A) → turn a i ≡ r → ((b : A) (j : Input) → length j.words < n → length j.words < m → By n b j ≡ By m b j)
          → cond v ((turn a >>= By n) i) (final a i) ≡ cond v ((turn a >>= By m) i) (final a i)
      go false r is again = refl
      go true (Err x) is again = ap (λ r. and_then r (By n)) is ∙ ap (λ r. and_then r (By m)) (sym is)
      go true (Ok p) is again =
          let less = shorter a p.0 i p.1 is in
          ap (λ r. and_then r (By n)) is ∙ again p.0 p.1 (omega arith) (omega arith) ∙ ap (λ r. and_then r (By m)) (sym is)

  -- one step, and then the same again
  unrolled : (a : A) (i : Input) → until goes turn final a i ≡ Body (until goes turn final) a i
  unrolled a i = more (length i.words + 1) (omega arith)
    where
      more : (n : ℕ) → length i.words < n → By n a i ≡ Body (until goes turn final) a i
      more zero h = absurd (omega arith)
      more (suc n) h = go (goes (peek i)) (turn a i) refl
        where
          go : (v : Bool) (r : Outcome A) → turn a i ≡ r → cond v ((turn a >>= By n) i) (final a i) ≡ cond v ((turn a >>= until goes turn final) i) (final a i)
          go false r is = refl
          go true (Err x) is = ap (λ r. and_then r (By n)) is ∙ ap (λ r. and_then r (until goes turn final)) (sym is)
          go true (Ok p) is =
              let less = shorter a p.0 i p.1 is in
              ap (λ r. and_then r (By n)) is ∙ enough n (length p.1.words + 1) p.0 p.1 (omega arith) (omega arith)
              ∙ ap (λ r. and_then r (until goes turn final)) (sym is)

  as_body : (a : A) → until goes turn final a ≡ Body (until goes turn final) a
  as_body a = λ j i. unrolled a i j

  local_at : (k : ℕ) (a : A) (i : Input) → length i.words < k → Seen Nowhere (until goes turn final a) i
  local_at zero a i h = absurd (omega arith)
  local_at (suc k) a i h =
      subst (λ (p : Parser B). Seen Nowhere p i) (sym (as_body a))
      (peek_seen (λ w l. cond (goes w) ((turn a >>= until goes turn final) l) (final a l)) i
      (go (goes (peek i)) (λ b j e. local_at k b j (let less = shorter a b i j e in omega arith))))
    where
      go : (v : Bool) → ((b : A) (j : Input) → turn a i ≡ Ok (b, j) → Seen Nowhere (until goes turn final b) j)
          → Seen Nowhere (λ l. cond v ((turn a >>= until goes turn final) l) (final a l)) i
      go false again = (lf a).depends i
      go true again = bind_seen (turn a) (until goes turn final) i (turn a i) refl ((lt a).depends i) again

  pub lawful_until : (a : A) → Lawful (until goes turn final a) (Until turns finals a) goes_on
  lawful_until a = record {
    sound = λ i j y h. sound_by (length i.words + 1) a i j y h;
    complete = λ ws y j is e.
        let few = count is.0 a ws y is.1 in
        let both : length (ws ++ j.words) ≡ length ws + length j.words = length-append ws j.words in
        complete_by is.0 (length (ws ++ j.words) + 1) a ws y j (omega arith) is.1 e;
    depends = λ i. local_at (length i.words + 1) a i (omega arith);
  }
