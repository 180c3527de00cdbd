-- A reader and the rule of the grammar that it reads, and how both are put together.
use Rattle.std.proofs.Common.{◌≡◌, ℕ, zero, suc, Bool, true, false, cond, List, [], ◌∷◌, ◌++◌, Result, Ok, Err, refl, sym, ap, ◌∙◌, arith, rules}
use Rattle.text_tokens.specs.declared.kind.Kind.{Kind}
use Rattle.text_tokens.specs.declared.kind.Kind.TheVariants as k
use Rattle.text_tokens.specs.Kinds.{Text, same_kind}
use Rattle.text_tokens.specs.Words.{Word, Input, peek, next}
use Rattle.reader_laws.specs.Steps.{Parser, and_then, ◌>>=◌, ◌>>◌, pure, refuse, unexpected, kind, text, take_word, open_level, read_as, a_word}
use Rattle.reader_laws.specs.declared.fault.Fault.{Fault}
use Rattle.reader_laws.specs.Grammar.{IsWordOf, IsNothing, Opened, OneOf, Both}
use Rattle.reader_laws.proofs.Outcomes.{ahead, ahead_append, then_ok, done, ok_value, ok_input, taken, is_same, same_self, open_some}
use Rattle.reader_laws.proofs.Local.{Local, LocalOn, Nowhere, local_bind, local_pure, local_refuse, local_unexpected, local_peek, on_bind, on_take, on_local}
use Rattle.reader_laws.proofs.Local.{on_open}

-- what was read: these words, which stand for this
pub record Found {A : Type 0} (rule : List Word → A → Type 0) (i : Input) (x : A) (j : Input) : Type 0 where
  pub front : List Word
  pub words : i ≡ ahead front j
  pub is : rule front x

-- What is read is in the rule; what is in the rule is read, where the next word does not go on with it; and an outcome depends on no more than it may.
pub record Lawful {A : Type 0} (p : Parser A) (rule : List Word → A → Type 0) (goes_on : Kind → Bool) : Type 0 where
  pub sound : (i j : Input) (x : A) → p i ≡ Ok (x, j) → Found rule i x j
  pub complete : (front : List Word) (x : A) (j : Input) → rule front x → goes_on (kind j) ≡ false → p (ahead front j) ≡ Ok (x, j)
  pub depends : Local p

abbrev pub never : Kind → Bool
never kd = false

-- where the second begins or the whole ends, the first does not go on
abbrev pub Frees : {A B : Type 0} → (A → List Word → B → Type 0) → (Kind → Bool) → (Kind → Bool) → Type 0
Frees {A = A} {B = B} then first_goes_on goes_on = (x : A) (rest : List Word) (y : B) (j : Input) → then x rest y → goes_on (kind j) ≡ false
    → first_goes_on (kind (ahead rest j)) ≡ false

pub lawful_both : {A B : Type 0} (p : Parser A) (f : A → Parser B) (first : List Word → A → Type 0) (then : A → List Word → B → Type 0)
    (first_goes_on goes_on : Kind → Bool)
    → Lawful p first first_goes_on → ((x : A) → Lawful (f x) (then x) goes_on) → Frees then first_goes_on goes_on → Lawful (p >>= f) (Both first then) goes_on
lawful_both p f first then first_goes_on goes_on lp lf frees = record {
  sound = λ i j y h.
      let a = then_ok (p i) f y j h in
      let one = lp.sound i a.at a.value a.first in
      let two = (lf a.value).sound a.at j y a.rest in
      record {
        front = one.front ++ two.front;
        words = one.words ∙ ap (ahead one.front) two.words ∙ ahead_append one.front two.front j;
        is = record { value = a.value; front = one.front; rest = two.front; words = refl; is_first = one.is; is_then = two.is };
      };
  complete = λ front y j is stops.
      let one = lp.complete is.front is.value (ahead is.rest j) is.is_first (frees is.value is.rest y j is.is_then stops) in
      let two = (lf is.value).complete is.rest y j is.is_then stops in
      let whole : ahead front j ≡ ahead is.front (ahead is.rest j) = ap (λ (ws : List Word). ahead ws j) is.words ∙ sym (ahead_append is.front is.rest j) in
      ap (λ (l : Input). and_then (p l) f) whole ∙ ap (λ r. and_then r f) one ∙ two;
  depends = local_bind Nowhere p f lp.depends (λ x. (lf x).depends);
}

-- the same under another statement of the rule
pub lawful_as : {A : Type 0} (p : Parser A) (rule other : List Word → A → Type 0) (goes_on : Kind → Bool)
    → ((ws : List Word) (x : A) → rule ws x → other ws x) → ((ws : List Word) (x : A) → other ws x → rule ws x) → Lawful p rule goes_on → Lawful p other goes_on
lawful_as p rule other goes_on to from l = record {
  sound = λ i j x h. let f = l.sound i j x h in record { front = f.front; words = f.words; is = to f.front x f.is };
  complete = λ front x j is stops. l.complete front x j (from front x is) stops;
  depends = l.depends;
}

-- ---- single words

pub read_ok : {A : Type 0} (r : Result A Fault) (i j : Input) (x : A) → read_as r i ≡ Ok (x, j) → (r ≡ Ok x) × (next i ≡ j)
read_ok (Ok v) i j x h = (ap (λ (y : _). Ok y) (ok_value v x (next i) j h), ok_input v x (next i) j h)
read_ok (Err fault) i j x h = absurd cc

pub on_read : {A : Type 0} (w : Word) (r : Result A Fault) → (w.kind ≡ k.End → ⊥) → LocalOn Nowhere w (read_as r)
on_read w (Ok x) some = on_bind Nowhere w take_word (λ _. pure x) (on_take Nowhere w some) (λ _. local_pure Nowhere x)
on_read w (Err fault) some = on_local Nowhere w (refuse fault) (local_refuse Nowhere fault)

-- a test of the next word
pub on_cond : {A : Type 0} (b : Bool) (w : Word) (p q : Parser A) → (b ≡ true → LocalOn Nowhere w p) → LocalOn Nowhere w q
    → LocalOn Nowhere w (λ i. cond b (p i) (q i))
on_cond true w p q hp hq = hp refl
on_cond false w p q hp hq = hq

local_word : {A : Type 0} (a : Kind) (reads : Text → Result A Fault) → (a ≡ k.End → ⊥) → Local (a_word a reads)
unfolding a_word
local_word a reads some = local_peek Nowhere (λ w i. cond (same_kind w.kind a) (read_as (reads w.text) i) (unexpected i)) (λ w.
    on_cond (same_kind w.kind a) w (read_as (reads w.text)) unexpected
    (λ s. on_read w (reads w.text) (λ (z : w.kind ≡ k.End). some (sym (is_same w.kind a s) ∙ z)))
    (on_local Nowhere w unexpected (local_unexpected Nowhere)))

word_ok : {A : Type 0} (a : Kind) (reads : Text → Result A Fault) → (a ≡ k.End → ⊥) → (i j : Input) (x : A) → a_word a reads i ≡ Ok (x, j)
    → Found (IsWordOf a reads) i x j
unfolding a_word
word_ok a reads some i j x h = go (same_kind (kind i) a) refl h
  where
    go : (v : Bool) → same_kind (kind i) a ≡ v → cond v (read_as (reads (text i)) i) (unexpected i) ≡ Ok (x, j) → Found (IsWordOf a reads) i x j
    go false s h = absurd cc
    go true s h =
        let r = read_ok (reads (text i)) i j x h in
        let is = is_same (kind i) a s in
        record {
          front = peek i ∷ [];
          words = taken i (λ (z : kind i ≡ k.End). some (sym is ∙ z)) ∙ ap (ahead (peek i ∷ [])) r.1;
          is = record { word = peek i; is = is; reads_as = r.0; words = refl };
        }

word_cons : {A : Type 0} (a : Kind) (reads : Text → Result A Fault) (w : Word) (x : A) (i : Input) → w.kind ≡ a → reads w.text ≡ Ok x
    → a_word a reads (ahead (w ∷ []) i) ≡ Ok (x, i)
unfolding a_word peek next
word_cons a reads w x i is value = rw (is, same_self a, value) refl

pub lawful_word : {A : Type 0} (a : Kind) (reads : Text → Result A Fault) → (a ≡ k.End → ⊥) → Lawful (a_word a reads) (IsWordOf a reads) never
lawful_word a reads some = record {
  sound = word_ok a reads some;
  complete = λ front x j is stops. ap (λ (ws : List Word). a_word a reads (ahead ws j)) is.words ∙ word_cons a reads is.word x j is.is is.reads_as;
  depends = local_word a reads some;
}

-- ---- nothing, a level, and a choice

pub lawful_pure : {A : Type 0} (a : A) (goes_on : Kind → Bool) → Lawful (pure a) (IsNothing a) goes_on
lawful_pure a goes_on = record {
  sound = λ i j x h. record { front = []; words = ok_input a x i j h; is = (refl, sym (ok_value a x i j h)) };
  complete = λ front x j is stops. ap (λ (ws : List Word). done a (ahead ws j)) is.0 ∙ ap (λ y. done y j) (sym is.1);
  depends = local_pure Nowhere a;
}

opened_sound : {A : Type 0} (levels : ℕ) (p : Parser A) (rule : List Word → A → Type 0) (i j : Input) (x : A)
    → ((l m : Input) (y : A) → p l ≡ Ok (y, m) → Found rule l y m)
    → and_then (open_level levels i) (λ _. p) ≡ Ok (x, j) → Found (Opened levels rule) i x j
opened_sound zero p rule i j x sound h = absurd cc
opened_sound (suc levels) p rule i j x sound h = let f = sound i j x h in record { front = f.front; words = f.words; is = (omega arith, f.is) }

pub lawful_open : {A : Type 0} (levels : ℕ) (p : Parser A) (rule : List Word → A → Type 0) (goes_on : Kind → Bool) → Lawful p rule goes_on
    → Lawful (open_level levels >> p) (Opened levels rule) goes_on
lawful_open levels p rule goes_on l = record {
  sound = λ i j x h. opened_sound levels p rule i j x l.sound h;
  complete = λ front x j is stops.
      ap (λ r. and_then r (λ _. p)) (open_some levels (ahead front j) is.0) ∙ l.complete front x j is.1 stops;
  depends = λ i. on_open Nowhere (peek i) levels p (on_local Nowhere (peek i) p l.depends) i refl;
}

pub lawful_choice : {A : Type 0} (by : Kind → Parser A) (rules : Kind → List Word → A → Type 0) (goes_on : Kind → Bool)
    → ((kd : Kind) → Lawful (by kd) (rules kd) goes_on) → ((kd : Kind) (ws : List Word) (x : A) (j : Input) → rules kd ws x → kind (ahead ws j) ≡ kd)
    → Lawful (λ i. by (kind i) i) (OneOf rules) goes_on
lawful_choice by rules goes_on h starts = record {
  sound = λ i j x e. let f = (h (kind i)).sound i j x e in record { front = f.front; words = f.words; is = (kind i, f.is) };
  complete = λ front x j is stops.
      ap (λ (kd : Kind). by kd (ahead front j)) (starts is.0 front x j is.1) ∙ (h is.0).complete front x j is.1 stops;
  depends = local_peek Nowhere (λ w. by w.kind) (λ w. on_local Nowhere w (by w.kind) (h w.kind).depends);
}

abbrev pub NoWords : {A : Type 0} → List Word → A → Type 0
NoWords ws x = ⊥

pub lawful_unexpected : {A : Type 0} (goes_on : Kind → Bool) → Lawful {A = A} unexpected NoWords goes_on
lawful_unexpected goes_on = record {
  sound = λ i j x h. absurd cc;
  complete = λ front x j is stops. absurd is;
  depends = local_unexpected Nowhere;
}

-- where nothing goes on, something that never goes on may be asked for less
pub lawful_less : {A : Type 0} (p : Parser A) (rule : List Word → A → Type 0) (goes_on more : Kind → Bool)
    → ((kd : Kind) → more kd ≡ false → goes_on kd ≡ false) → Lawful p rule goes_on → Lawful p rule more
lawful_less p rule goes_on more h l = record {
  sound = l.sound;
  complete = λ front x j is stops. l.complete front x j is (h (kind j) stops);
  depends = l.depends;
}
