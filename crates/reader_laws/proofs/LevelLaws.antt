-- Words that open a level are lawful.
use Rattle.std.proofs.Common.{◌≡◌, ℕ, zero, suc, Bool, true, false, cond, List, [], ◌∷◌, Result, Ok, Err, inl, inr, refl, sym, ap, ◌∙◌, arith}
use Rattle.text_tokens.specs.declared.kind.Kind.{Kind}
use Rattle.text_tokens.specs.declared.kind.Kind.TheVariants as k
use Rattle.text_tokens.specs.Kinds.{Text, same_kind}
use Rattle.text_tokens.specs.Words.{Word, Input, peek, next}
use Rattle.reader_laws.specs.Steps.{Parser, ◌>>=◌, pure, refusal, kind, text, read_as, no_value}
use Rattle.reader_laws.specs.declared.fault.Fault.{Fault}
use Rattle.reader_laws.specs.declared.fault.ReadError.TheVariants.{Refused}
use Rattle.reader_laws.specs.Grammar.{IsWordOf, IsNothing, Opened, Both}
use Rattle.reader_laws.proofs.Outcomes.{ahead, taken, is_same, same_self}
use Rattle.reader_laws.proofs.Local.{Local, Nowhere, local_peek, on_local}
use Rattle.reader_laws.proofs.Lawful.{Lawful, Found, never, NoWords, lawful_both, lawful_pure, lawful_as, read_ok, on_read, on_cond}
use Rattle.reader_laws.proofs.Starts.{both_starts}
use Rattle.reader_laws.specs.Levels.{unread, misplaced_in, unexpected_in, word_in, room_for, opening}

pub local_unexpected_in : {A : Type 0} (levels : ℕ) → Local (unexpected_in {A = A} levels)
unfolding refusal misplaced_in
local_unexpected_in levels i = record {
  front = [];
  at = i;
  words = refl;
  ends = inr (inl refl);
  again = λ l h. ap
      (λ (w : Word). Err (Refused (unread levels w.kind) w.place)) h.word;
}

pub lawful_unexpected_in : {A : Type 0} (levels : ℕ) (goes_on : Kind → Bool) → Lawful {A = A} (unexpected_in levels) NoWords goes_on
lawful_unexpected_in levels goes_on = record {
  sound = λ i j x h. absurd cc;
  complete = λ front x j is stops. absurd is;
  depends = local_unexpected_in levels;
}

local_word_in : {A : Type 0} (levels : ℕ) (a : Kind) (reads : Text → Result A Fault) → (a ≡ k.End → ⊥) → Local (word_in levels a reads)
unfolding word_in
local_word_in levels a reads some = local_peek Nowhere (λ w i. cond (same_kind w.kind a) (read_as (reads w.text) i) (unexpected_in levels i)) (λ w.
    on_cond (same_kind w.kind a) w (read_as (reads w.text)) (unexpected_in levels)
    (λ s. on_read w (reads w.text) (λ (z : w.kind ≡ k.End). some (sym (is_same w.kind a s) ∙ z)))
    (on_local Nowhere w (unexpected_in levels) (local_unexpected_in levels)))

word_ok : {A : Type 0} (levels : ℕ) (a : Kind) (reads : Text → Result A Fault) → (a ≡ k.End → ⊥) → (i j : Input) (x : A)
    → word_in levels a reads i ≡ Ok (x, j) → Found (IsWordOf a reads) i x j
unfolding word_in
word_ok levels a reads some i j x h = go (same_kind (kind i) a) refl h
  where
    go : (v : Bool) → same_kind (kind i) a ≡ v → cond v (read_as (reads (text i)) i) (unexpected_in levels i) ≡ Ok (x, j) → Found (IsWordOf a reads) i x j
    go false s h = absurd cc
    go true s h =
        let r = read_ok (reads (text i)) i j x h in
        let is = is_same (kind i) a s in
        record {
          front = peek i ∷ [];
          words = taken i (λ (z : kind i ≡ k.End). some (sym is ∙ z)) ∙ ap (ahead (peek i ∷ [])) r.1;
          is = record { word = peek i; is = is; reads_as = r.0; words = refl };
        }

word_cons : {A : Type 0} (levels : ℕ) (a : Kind) (reads : Text → Result A Fault) (w : Word) (x : A) (i : Input) → w.kind ≡ a → reads w.text ≡ Ok x
    → word_in levels a reads (ahead (w ∷ []) i) ≡ Ok (x, i)
unfolding word_in peek next
word_cons levels a reads w x i is value = rw (is, same_self a, value) refl

pub lawful_word_in : {A : Type 0} (levels : ℕ) (a : Kind) (reads : Text → Result A Fault) → (a ≡ k.End → ⊥)
    → Lawful (word_in levels a reads) (IsWordOf a reads) never
lawful_word_in levels a reads some = record {
  sound = word_ok levels a reads some;
  complete = λ front x j is stops. ap (λ (ws : List Word). word_in levels a reads (ahead ws j)) is.words
      ∙ word_cons levels a reads is.word x j is.is is.reads_as;
  depends = local_word_in levels a reads some;
}

-- a word, and what follows
pub word_in_then : {A B : Type 0} (levels : ℕ) (a : Kind) (reads : Text → Result A Fault) (f : A → Parser B) (then : A → List Word → B → Type 0)
    (goes_on : Kind → Bool) → (a ≡ k.End → ⊥) → ((x : A) → Lawful (f x) (then x) goes_on)
    → Lawful (word_in levels a reads >>= f) (Both (IsWordOf a reads) then) goes_on
word_in_then levels a reads f then goes_on some h = lawful_both (word_in levels a reads) f (IsWordOf a reads) then never goes_on
    (lawful_word_in levels a reads some) h (λ u ws y j is e. refl)

-- a word that opens a level, and what follows
module _ {B : Type 0} (kd : Kind) (then : List Word → B → Type 0) where
  abbrev Roomy : ℕ → List Word → B → Type 0
  Roomy levels = Both (IsWordOf kd (room_for levels)) (λ _. then)

  abbrev Deep : ℕ → List Word → B → Type 0
  Deep levels = Opened levels (Both (IsWordOf kd no_value) (λ _. then))

  to_deep : (levels : ℕ) (ws : List Word) (x : B) → Roomy levels ws x → Deep levels ws x
  to_deep zero ws x is = absurd (none is.is_first.reads_as)
    where
      none : {u : Unit {0}} → room_for zero is.is_first.word.text ≡ Ok u → ⊥
      none h = cc
  to_deep (suc levels) ws x is = (
    omega arith,
    record {
      value = tt;
      front = is.front;
      rest = is.rest;
      words = is.words;
      is_first =
          record { word = is.is_first.word; is = is.is_first.is; reads_as = refl; words = is.is_first.words };
      is_then = is.is_then;
    },
  )

  from_deep : (levels : ℕ) (ws : List Word) (x : B) → Deep levels ws x → Roomy levels ws x
  from_deep zero ws x is = absurd (omega (arith, is.0))
  from_deep (suc levels) ws x is = let b = is.1 in record {
    value = tt;
    front = b.front;
    rest = b.rest;
    words = b.words;
    is_first =
        record { word = b.is_first.word; is = b.is_first.is; reads_as = refl; words = b.is_first.words };
    is_then = b.is_then;
  }

  pub lawful_opening : (levels : ℕ) (f : Parser B) (goes_on : Kind → Bool) → (kd ≡ k.End → ⊥) → Lawful f then goes_on
      → Lawful (opening levels kd >>= λ _. f) (Opened levels (Both (IsWordOf kd no_value) (λ _. then))) goes_on
  lawful_opening levels f goes_on some l = lawful_as (opening levels kd >>= λ _. f) (Roomy levels) (Deep levels) goes_on (to_deep levels) (from_deep levels)
      (word_in_then levels kd (room_for levels) (λ _. f) (λ _. then) goes_on some (λ _. l))

-- what stands before a word of one kind, and what follows that word
pub lawful_before : {A B : Type 0} (levels : ℕ) (a : Kind) (p : Parser A) (f : A → Parser B) (rule : List Word → A → Type 0)
    (then : A → List Word → B → Type 0) (more goes_on : Kind → Bool) → (a ≡ k.End → ⊥) → more a ≡ false
    → Lawful p rule more → ((x : A) → Lawful (f x) (then x) goes_on)
    → Lawful (p >>= λ x. (word_in levels a no_value >>= λ _. f x)) (Both rule (λ x. Both (IsWordOf a no_value) (λ _. then x))) goes_on
lawful_before levels a p f rule then more goes_on some ends l h = lawful_both p (λ x. word_in levels a no_value >>= λ _. f x) rule
    (λ x. Both (IsWordOf a no_value) (λ _. then x)) more goes_on l
    (λ x. word_in_then levels a no_value (λ _. f x) (λ _. then x) goes_on some (λ _. h x))
    (λ x ws y j is e. ap more (both_starts a no_value (λ _. then x) ws y j is) ∙ ends)

-- what stands before a closing word
pub lawful_closed : {A : Type 0} (levels : ℕ) (a : Kind) (p : Parser A) (rule : List Word → A → Type 0) (more : Kind → Bool) → (a ≡ k.End → ⊥)
    → more a ≡ false → Lawful p rule more
    → Lawful (p >>= λ x. (word_in levels a no_value >>= λ _. pure x)) (Both rule (λ x. Both (IsWordOf a no_value) (λ _. IsNothing x))) never
lawful_closed levels a p rule more some ends l = lawful_before levels a p (λ x. pure x) rule (λ x. IsNothing x) more never some ends l
    (λ x. lawful_pure x never)
