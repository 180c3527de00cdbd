-- The words before a fault's word go on: how that is put together.
use Rattle.std.proofs.Common.{◌≡◌, ◌⊎◌, inl, inr, ◌∷◌, ◌++◌, ℕ, zero, suc, ◌+◌, ◌*◌, ◌<◌, ◌≤◌, Bool, true, false, cond, List, [], length, Option, Some, None}
use Rattle.std.proofs.Common.{Result, Ok, Err, refl, sym, ap, subst, ◌∙◌, append_assoc, append-nil, length-append, arith}
use Rattle.text_tokens.specs.declared.kind.Kind.{Kind}
use Rattle.text_tokens.specs.declared.kind.Kind.TheVariants as k
use Rattle.text_tokens.specs.Kinds.{Text, same_kind}
use Rattle.text_tokens.specs.Words.{Word, Input, peek, next}
use Rattle.reader_laws.specs.declared.fault.Fault.{Fault}
use Rattle.reader_laws.specs.declared.fault.Fault.TheVariants.{TooDeep}
use Rattle.reader_laws.specs.declared.fault.ReadError.{ReadError}
use Rattle.reader_laws.specs.declared.fault.ReadError.TheVariants.{Refused}
use Rattle.reader_laws.specs.Steps.{Parser, Outcome, and_then, ◌>>=◌, ◌>>◌, pure, refuse, refusal, kind, text, take_word, open_level, read_as, no_value}
use Rattle.reader_laws.specs.Chain.{Links, joined, go_on, chain}
use Rattle.reader_laws.specs.Grammar.{IsWordOf, IsNothing, Opened, OneOf, Both, IsChain}
use Rattle.reader_laws.proofs.Outcomes.{ahead, ahead_append, taken}
use Rattle.reader_laws.proofs.Lawful.{Found}
use Rattle.reader_laws.specs.Levels.{unread, misplaced_in, unexpected_in, word_in, room_for, opening}
use Rattle.first_fault.specs.First.{Few, Continues}
use Rattle.first_fault.proofs.Begins.{Cut, Begins}
use Rattle.reader_laws.proofs.LevelLaws.{lawful_word_in}

pub few_front : (a b : List Word) → Few (a ++ b) → Few a
few_front a b h = let l = length-append a b in omega (arith, h, l)

pub few_rest : (a b : List Word) → Few (a ++ b) → Few b
few_rest a b h = let l = length-append a b in omega (arith, h, l)

abbrev place_of : ReadError → ℕ
place_of (Refused fault place) = place
place_of _ = 0

abbrev refused : {A : Type 0} → ReadError → Outcome A
refused e = Err e

same_error : (A : Type 0) (a b : ReadError) → refused {A = A} a ≡ refused b → a ≡ b
same_error A a b h = cc

-- a fault at the next word
pub cut_here : {A B : Type 0} (rule : List Word → A → Type 0) (T : A → Type 0) (i : Input) (fault found : Fault) (place : ℕ)
    → refused {A = B} (refusal fault i) ≡ Err (Refused found place) → Cut rule T i place
unfolding refusal
cut_here {B = B} rule T i fault found place h = record {
  front = [];
  at = i;
  words = refl;
  stands = sym
      (ap place_of (same_error B (Refused fault (peek i).place) (Refused found place) h));
  goes = inl refl;
}

-- ---- where the fault of two readers comes from

pub record Later {A B : Type 0} (r : Outcome A) (f : A → Parser B) (e : ReadError) : Type 0 where
  pub value : A
  pub at : Input
  pub first : r ≡ Ok (value, at)
  pub rest : f value at ≡ Err e

pub which : {A B : Type 0} (r : Outcome A) (f : A → Parser B) (e : ReadError) → and_then r f ≡ Err e → (r ≡ Err e) ⊎ Later r f e
which {B = B} (Err x) f e h = inl (ap (λ (y : ReadError). Err y) (same_error B x e h))
which (Ok p) f e h = inr (record { value = p.0; at = p.1; first = refl; rest = h })

-- the same words, of a rule that allows more
pub cut_as : {A B : Type 0} (rule : List Word → A → Type 0) (other : List Word → B → Type 0) (T : A → Type 0) (U : B → Type 0) (i : Input) (place : ℕ)
    → ((front : List Word) → Few front → Continues rule T front → Continues other U front) → Cut rule T i place → Cut other U i place
cut_as rule other T U i place h c = record { front = c.front; at = c.at; words = c.words; stands = c.stands; goes = go c.goes }
  where
    go : (c.front ≡ []) ⊎ (Few c.front → Continues rule T c.front) → (c.front ≡ []) ⊎ (Few c.front → Continues other U c.front)
    go (inl e) = inl e
    go (inr f) = inr (λ few. h c.front few (f few))

-- words that were read, and then a part that was cut
pub cut_after : {A B : Type 0} (rule : List Word → A → Type 0) (other : List Word → B → Type 0) (T : A → Type 0) (U : B → Type 0) (i at : Input) (place : ℕ)
    (front : List Word) → i ≡ ahead front at
    → (Few front → Continues other U front) → ((more : List Word) → Few (front ++ more) → Continues rule T more → Continues other U (front ++ more))
    → Cut rule T at place → Cut other U i place
cut_after rule other T U i at place front words none some c = record {
  front = front ++ c.front;
  at = c.at;
  words = words ∙ ap (ahead front) c.words ∙ ahead_append front c.front c.at;
  stands = c.stands;
  goes = inr (go c.goes);
}
  where
    go : (c.front ≡ []) ⊎ (Few c.front → Continues rule T c.front) → Few (front ++ c.front) → Continues other U (front ++ c.front)
    go (inl e) few = subst (λ (ws : List Word). Continues other U (front ++ ws)) (sym e)
        (subst (λ (ws : List Word). Continues other U ws) (sym (append-nil front)) (none (few_front front c.front few)))
    go (inr f) few = some c.front few (f (few_rest front c.front few))

-- ---- single words

read_cut : {A B : Type 0} (rule : List Word → B → Type 0) (T : B → Type 0) (r : Result A Fault) (i : Input) (fault : Fault) (place : ℕ)
    → read_as r i ≡ Err (Refused fault place) → Cut rule T i place
read_cut rule T (Ok x) i fault place h = absurd cc
read_cut {A = A} rule T (Err f) i fault place h = cut_here {B = A} rule T i f fault place h

pub word_cut : {A B : Type 0} (rule : List Word → B → Type 0) (T : B → Type 0) (levels : ℕ) (a : Kind) (reads : Text → Result A Fault) (i : Input)
    (fault : Fault) (place : ℕ) → word_in levels a reads i ≡ Err (Refused fault place) → Cut rule T i place
unfolding word_in misplaced_in
word_cut {A = A} rule T levels a reads i fault place h = go (same_kind (kind i) a) h
  where
    go : (v : Bool) → cond v (read_as (reads (text i)) i) (unexpected_in levels i) ≡ Err (Refused fault place) → Cut rule T i place
    go true h = read_cut rule T (reads (text i)) i fault place h
    go false h = cut_here {B = A} rule T i (unread levels (kind i)) fault place h

pub begins_word : {A : Type 0} (rule : List Word → A → Type 0) (T : A → Type 0) (levels : ℕ) (a : Kind) (reads : Text → Result A Fault)
    → Begins (word_in levels a reads) rule T
begins_word rule T levels a reads = λ i fault place h. word_cut rule T levels a reads i fault place h

pub begins_nowhere : {A : Type 0} (rule : List Word → A → Type 0) (T : A → Type 0) (levels : ℕ) → Begins (unexpected_in {A = A} levels) rule T
unfolding misplaced_in
begins_nowhere {A = A} rule T levels = λ i fault place h. cut_here {B = A} rule T i (unread levels (kind i)) fault place h

pub begins_choice : {A : Type 0} (by : Kind → Parser A) (rules : Kind → List Word → A → Type 0) (T : A → Type 0)
    → ((kd : Kind) → Begins (by kd) (rules kd) T) → Begins (λ i. by (kind i) i) (OneOf rules) T
begins_choice by rules T h = λ i fault place e.
    cut_as (rules (kind i)) (OneOf rules) T T i place (λ front few c. record { rest = c.rest; value = c.value; is = (kind i, c.is); has = c.has })
    (h (kind i) i fault place e)

-- ---- one after the other

pub both_go : {A B : Type 0} (first : List Word → A → Type 0) (then : A → List Word → B → Type 0) (T : B → Type 0) (front more : List Word) (x : A)
    → first (front ++ more) x → Continues (then x) T [] → Continues (Both first then) T front
both_go first then T front more x is c = record {
  rest = more ++ c.rest;
  value = c.value;
  is = record { value = x; front = front ++ more; rest = c.rest; words = sym (append_assoc front more c.rest); is_first = is; is_then = c.is };
  has = c.has;
}

pub both_on : {A B : Type 0} (first : List Word → A → Type 0) (then : A → List Word → B → Type 0) (T : B → Type 0) (front more : List Word) (x : A)
    → first front x → Continues (then x) T more → Continues (Both first then) T (front ++ more)
both_on first then T front more x is c = record {
  rest = c.rest;
  value = c.value;
  is = record { value = x; front = front; rest = more ++ c.rest; words = append_assoc front more c.rest; is_first = is; is_then = c.is };
  has = c.has;
}

pub begins_both : {A B : Type 0} (p : Parser A) (f : A → Parser B) (first : List Word → A → Type 0) (then : A → List Word → B → Type 0) (U : A → Type 0)
    (T : B → Type 0)
    → ((i j : Input) (x : A) → p i ≡ Ok (x, j) → Found first i x j) → Begins p first U → ((ws : List Word) (x : A) → first ws x → Begins (f x) (then x) T)
    → ((ws : List Word) (x : A) → first ws x → U x → Continues (then x) T []) → ((ws : List Word) (x : A) → first ws x → Few ws → Continues (then x) T [])
    → Begins (p >>= f) (Both first then) T
begins_both {A = A} p f first then U T sound bp bf goes starts = λ i fault place e. go i fault place (which (p i) f (Refused fault place) e)
  where
    go : (i : Input) (fault : Fault) (place : ℕ) → (p i ≡ Err (Refused fault place)) ⊎ Later (p i) f (Refused fault place) → Cut (Both first then) T i place
    go i fault place (inl e) = cut_as first (Both first then) U T i place
        (λ front few c. both_go first then T front c.rest c.value c.is (goes (front ++ c.rest) c.value c.is c.has)) (bp i fault place e)
    go i fault place (inr l) =
        let s = sound i l.at l.value l.first in
        cut_after (then l.value) (Both first then) T T i l.at place s.front s.words
        (λ few. both_go first then T s.front [] l.value (subst (λ (ws : List Word). first ws l.value) (sym (append-nil s.front)) s.is)
        (starts s.front l.value s.is few))
        (λ more few c. both_on first then T s.front more l.value s.is c)
        (bf s.front l.value s.is l.at fault place l.rest)

-- a word that opens a level, and what follows
pub begins_opening : {B : Type 0} (kd : Kind) (then : List Word → B → Type 0) (T : B → Type 0) (levels : ℕ) (f : Parser B) → (kd ≡ k.End → ⊥)
    → (0 < levels → Begins f then T) → (0 < levels → Continues then T [])
    → Begins (opening levels kd >>= λ _. f) (Opened levels (Both (IsWordOf kd no_value) (λ _. then))) T
begins_opening {B = B} kd then T levels f some b starts = λ i fault place e. go i fault place (which (opening levels kd i) (λ _. f) (Refused fault place) e)
  where
    roomy : (n : ℕ) (t : Text) (u : Unit {0}) → room_for n t ≡ Ok u → 0 < n
    roomy zero t u h = absurd cc
    roomy (suc n) t u h = omega arith

    plain : (ws : List Word) (u : Unit {0}) → IsWordOf kd (room_for levels) ws u → IsWordOf kd no_value ws tt
    plain ws u is = record { word = is.word; is = is.is; reads_as = refl; words = is.words }

    go : (i : Input) (fault : Fault) (place : ℕ) → (opening levels kd i ≡ Err (Refused fault place)) ⊎ Later (opening levels kd i) (λ _. f)
        (Refused fault place)
        → Cut (Opened levels (Both (IsWordOf kd no_value) (λ _. then))) T i place
    go i fault place (inl e) = word_cut (Opened levels (Both (IsWordOf kd no_value) (λ _. then))) T levels kd (room_for levels) i fault place e
    go i fault place (inr l) =
        let s = (lawful_word_in levels kd (room_for levels) some).sound i l.at l.value l.first in
        let room = roomy levels s.is.word.text l.value s.is.reads_as in
        let is = plain s.front l.value s.is in
        cut_after then (Opened levels (Both (IsWordOf kd no_value) (λ _. then))) T T i l.at place s.front s.words
        (λ few. let c = both_go (IsWordOf kd no_value) (λ _. then) T s.front [] tt
        (subst (λ (ws : List Word). IsWordOf kd no_value ws tt) (sym (append-nil s.front)) is) (starts room) in
        record { rest = c.rest; value = c.value; is = (room, c.is); has = c.has })
        (λ more few d. let c = both_on (IsWordOf kd no_value)
        (λ _. then) T s.front more tt is d in record { rest = c.rest; value = c.value; is = (room, c.is); has = c.has })
        (b room l.at fault place l.rest)

-- a word of this kind
abbrev pub closing : Kind → Word
closing a = record { kind = a; text = []; place = 0 }

-- what is to be closed goes on
pub close_on : {A : Type 0} (a : Kind) (rule : List Word → A → Type 0) (T : A → Type 0) (front : List Word) → Continues rule T front
    → Continues (Both rule (λ x. Both (IsWordOf a no_value) (λ _. IsNothing x))) T front
close_on a rule T front c = both_go rule (λ x. Both (IsWordOf a no_value) (λ _. IsNothing x)) T front c.rest c.value c.is (record {
  rest = closing a ∷ [];
  value = c.value;
  is = record {
    value = tt;
    front = closing a ∷ [];
    rest = [];
    words = refl;
    is_first = record
        { word = closing a; is = refl; reads_as = refl; words = refl };
    is_then = (refl, refl);
  };
  has = c.has;
})

-- what is made of a value
pub begins_made : {A B : Type 0} (p : Parser A) (make : A → B) (rule : List Word → A → Type 0) (U : A → Type 0) (T : B → Type 0)
    → ((x : A) → U x → T (make x)) → Begins p rule U
    → Begins (p >>= λ x. pure (make x)) (Both rule (λ x. IsNothing (make x))) T
begins_made p make rule U T h b = λ i fault place e. go i fault place (which (p i) (λ x. pure (make x)) (Refused fault place) e)
  where
    go : (i : Input) (fault : Fault) (place : ℕ) → (p i ≡ Err (Refused fault place)) ⊎ Later (p i) (λ x. pure (make x)) (Refused fault place)
        → Cut (Both rule (λ x. IsNothing (make x))) T i place
    go i fault place (inl e) = cut_as rule (Both rule (λ x. IsNothing (make x))) U T i place
        (λ front few c. both_go rule (λ x. IsNothing (make x)) T front c.rest c.value c.is
        (record { rest = []; value = make c.value; is = (refl, refl); has = h c.value c.has })) (b i fault place e)
    go i fault place (inr l) = absurd (let r = l.rest in cc)

-- what stands before a closing word
pub begins_closed : {A : Type 0} (levels : ℕ) (a : Kind) (p : Parser A) (rule : List Word → A → Type 0) (T : A → Type 0)
    → ((i j : Input) (x : A) → p i ≡ Ok (x, j) → Found rule i x j) → Begins p rule T
    → ((ws : List Word) (x : A) → rule ws x → Few ws → Continues rule T ws)
    → Begins (p >>= λ x. (word_in levels a no_value >>= λ _. pure x)) (Both rule (λ x. Both (IsWordOf a no_value) (λ _. IsNothing x))) T
begins_closed {A = A} levels a p rule T sound b extends = λ i fault place e. go i fault place
    (which (p i) (λ x. word_in levels a no_value >>= λ _. pure x) (Refused fault place) e)
  where
    last : (x : A) (i : Input) (fault : Fault) (place : ℕ) → and_then (word_in levels a no_value i) (λ _. pure x) ≡ Err (Refused fault place)
        → word_in levels a no_value i ≡ Err (Refused fault place)
    last x i fault place e = by (which (word_in levels a no_value i) (λ _. pure x) (Refused fault place) e)
      where
        by : (word_in levels a no_value i ≡ Err (Refused fault place)) ⊎ Later (word_in levels a no_value i) (λ _. pure x) (Refused fault place)
            → word_in levels a no_value i ≡ Err (Refused fault place)
        by (inl e) = e
        by (inr l) = absurd (let r = l.rest in cc)

    go : (i : Input) (fault : Fault) (place : ℕ) → (p i ≡ Err (Refused fault place)) ⊎ Later (p i) (λ x. word_in levels a no_value >>= λ _. pure x)
        (Refused fault place)
        → Cut (Both rule (λ x. Both (IsWordOf a no_value) (λ _. IsNothing x))) T i place
    go i fault place (inl e) = cut_as rule (Both rule (λ x. Both (IsWordOf a no_value) (λ _. IsNothing x))) T T i place
        (λ front few c. close_on a rule T front c) (b i fault place e)
    go i fault place (inr l) =
        let s = sound i l.at l.value l.first in
        cut_after (λ (ws : List Word) (x : A). ⊥) (Both rule (λ x. Both (IsWordOf a no_value) (λ _. IsNothing x))) T T i l.at place s.front s.words
        (λ few. close_on a rule T s.front (extends s.front l.value s.is few))
        (λ more few c. absurd c.is)
        (word_cut (λ (ws : List Word) (x : A). ⊥) T levels a no_value l.at fault place (last l.value l.at fault place l.rest))

-- ---- chains that can go back

module _ {A B O : Type 0} (links : Links A B O) (operand : A → O → Parser B) (operands : O → List Word → B → Type 0) (P : A → Type 0) (T : A → A → Type 0)
    (roomy : (n : ℕ) → 0 < links.room n)
    (no_end : (kd : Kind) (o : O) → links.operator kd ≡ Some o → kd ≡ k.End → ⊥)
    (sound : (a : A) (o : O) (i j : Input) (x : B) → operand a o i ≡ Ok (x, j) → Found (operands o) i x j) where
  abbrev pub Run : ℕ → A → List Word → A → Type 0
  Run n left = IsChain links (λ n a o. operands o) n left

  -- an operator and its operand in front of a chain
  pub linked : (n : ℕ) (left value x : A) (w : Word) (o : O) (front ws : List Word) (right : B) → links.operator w.kind ≡ Some o → operands o front right
      → links.join o left right ≡ Ok value
      → Run n value ws x → Run (suc n) left (w ∷ front ++ ws) x
  linked n left value x w o front ws right is reads joins rest = inr (record {
    word = w;
    front = front;
    rest = ws;
    sign = o;
    right = right;
    value = value;
    words = refl;
    is = is;
    room = roomy n;
    is_operand = reads;
    joins = joins;
    is_rest = rest;
  })

  -- room for more operators
  pub longer : (n m : ℕ) (left x : A) (ws : List Word) → n ≤ m → Run n left ws x → Run m left ws x
  longer zero zero left x ws h r = r
  longer zero (suc m) left x ws h r = inl r
  longer (suc n) zero left x ws h r = absurd (omega (arith, h))
  longer (suc n) (suc m) left x ws h (inl r) = inl r
  longer (suc n) (suc m) left x ws h (inr l) = inr (record {
    word = l.word;
    front = l.front;
    rest = l.rest;
    sign = l.sign;
    right = l.right;
    value = l.value;
    words = l.words;
    is = l.is;
    room = roomy m;
    is_operand = l.is_operand;
    joins = l.joins;
    is_rest = longer n m l.value x l.rest (omega (arith, h)) l.is_rest;
  })

  pub go_longer : (n m : ℕ) (left : A) (U : A → Type 0) (ws : List Word) → n ≤ m → Continues (Run n left) U ws → Continues (Run m left) U ws
  go_longer n m left U ws h c = record { rest = c.rest; value = c.value; is = longer n m left c.value (ws ++ c.rest) h c.is; has = c.has }

  abbrev pub count : List Word → ℕ
  count ws = 2 * length ws + 1

  abbrev pub Goes : A → List Word → Type 0
  Goes left ws = Continues (Run (count ws) left) (T left) ws

  pub record ChainCut (left : A) (i : Input) (place : ℕ) : Type 0 where
    pub front : List Word
    pub at : Input
    pub words : i ≡ ahead front at
    pub stands : place ≡ (peek at).place
    pub goes : Few front → Goes left front

  -- where the chain ends, T holds; a join keeps P; an operator goes on; and what goes on after an operator and its operand goes on in the whole
  module _ (nothing : (left : A) → P left → Continues (Run 1 left) (T left) [])
      (kept : (left value : A) (o : O) (w : Word) (front : List Word) (right : B) → P left → links.operator w.kind ≡ Some o → operands o front right
      → links.join o left right ≡ Ok value → P value)
      (cut : (left : A) (o : O) (w : Word) (i : Input) (fault : Fault) (place : ℕ) → P left → links.operator w.kind ≡ Some o
      → operand left o i ≡ Err (Refused fault place)
      → Cut (λ ws x. Run 3 left (w ∷ ws) x) (T left) i place)
      (starts : (left : A) (o : O) (w : Word) → P left → links.operator w.kind ≡ Some o → Continues (Run 3 left) (T left) (w ∷ []))
      (back : (n : ℕ) (left value : A) (o : O) (w : Word) (front rest : List Word) (right : B) → P left → links.operator w.kind ≡ Some o
      → operands o front right → links.join o left right ≡ Ok value
      → Continues (Run n value) (T value) rest → Continues (Run (suc (suc n)) left) (T left) (w ∷ front ++ rest)) where
    none : (left : A) → P left → Goes left []
    none left p = nothing left p

    further : (left value : A) (o : O) (w : Word) (front rest : List Word) (right : B) → P left → links.operator w.kind ≡ Some o → operands o front right
        → links.join o left right ≡ Ok value
        → Goes value rest → Goes left (w ∷ front ++ rest)
    further left value o w front rest right p is reads joins g =
        let l = length-append front rest in
        go_longer (suc (suc (count rest))) (count (w ∷ front ++ rest)) left (T left) (w ∷ front ++ rest) (omega (arith, l))
        (back (count rest) left value o w front rest right p is reads joins g)

    pub extends : (n : ℕ) (left x : A) (ws : List Word) → P left → Run n left ws x → Goes left ws
    extends zero left x ws p r = subst (λ (vs : List Word). Goes left vs) (sym r.0) (none left p)
    extends (suc n) left x ws p (inl r) = subst (λ (vs : List Word). Goes left vs) (sym r.0) (none left p)
    extends (suc n) left x ws p (inr l) = subst (λ (vs : List Word). Goes left vs) (sym l.words)
        (further left l.value l.sign l.word l.front l.rest l.right p l.is l.is_operand l.joins
        (extends n l.value x l.rest (kept left l.value l.sign l.word l.front l.right p l.is l.is_operand l.joins) l.is_rest))

    here : (left : A) (i : Input) (fault found : Fault) (place : ℕ) → P left → refused {A = A} (Refused fault (peek i).place) ≡ Err (Refused found place)
        → ChainCut left i place
    here left i fault found place p e = record {
      front = [];
      at = i;
      words = refl;
      stands = sym
          (ap place_of (same_error A (Refused fault (peek i).place) (Refused found place) e));
      goes = λ few. none left p;
    }

    pub chain_cut : (n : ℕ) (left : A) (i : Input) (fault : Fault) (place : ℕ) → P left
        → chain links (λ n a o. operand a o) n left i ≡ Err (Refused fault place) → ChainCut left i place
    unfolding chain refusal
    chain_cut zero left i fault place p e = go (links.operator (peek i).kind) e
      where
        go : (v : Option O) → go_on v left (λ _. refuse TooDeep) i ≡ Err (Refused fault place) → ChainCut left i place
        go None e = absurd cc
        go (Some o) e = here left i TooDeep fault place p e
    chain_cut (suc n) left i fault place p e = go (links.operator (peek i).kind) refl (λ v j q h. chain_cut n v j fault place q h) e
      where
        join_cut : (o : O) (right : B) (r : Result A Fault) (front : List Word) (j : Input) → links.operator (peek i).kind ≡ Some o
            → links.join o left right ≡ r → operands o front right → i ≡ ahead (peek i ∷ front) j
            → ((v : A) (l : Input) → P v → chain links (λ n a o. operand a o) n v l ≡ Err (Refused fault place) → ChainCut v l place)
            → joined (peek i) r (chain links (λ n a o. operand a o) n) j ≡ Err (Refused fault place) → ChainCut left i place
        join_cut o right (Err f) front j is joins reads words again h = here left i f fault place p h
        join_cut o right (Ok v) front j is joins reads words again h =
            let c = again v j (kept left v o (peek i) front right p is reads joins) h in
            record {
              front = peek i ∷ front ++ c.front;
              at = c.at;
              words = words ∙ ap (ahead (peek i ∷ front)) c.words ∙ ahead_append (peek i ∷ front) c.front c.at;
              stands = c.stands;
              goes = λ few. further left v o (peek i) front c.front right p is reads joins (c.goes (few_rest (peek i ∷ front) c.front few));
            }

        turn_cut : (o : O) → links.operator (peek i).kind ≡ Some o
            → ((v : A) (l : Input) → P v → chain links (λ n a o. operand a o) n v l ≡ Err (Refused fault place) → ChainCut v l place)
            → (operand left o (next i) ≡ Err (Refused fault place)) ⊎ Later (operand left o (next i))
            (λ right. joined (peek i) (links.join o left right) (chain links (λ n a o. operand a o) n)) (Refused fault place) → ChainCut left i place
        turn_cut o is again (inl e) =
            let c = cut left o (peek i) (next i) fault place p is e in
            record {
              front = peek i ∷ c.front;
              at = c.at;
              words = taken i (no_end (kind i) o is) ∙ ap (ahead (peek i ∷ [])) c.words;
              stands = c.stands;
              goes = λ few. go_longer 3 (count (peek i ∷ c.front)) left (T left) (peek i ∷ c.front) (omega arith) (by c.front few c.goes);
            }
          where
            by : (front : List Word) → Few (peek i ∷ front) → (front ≡ []) ⊎ (Few front → Continues (λ ws x. Run 3 left (peek i ∷ ws) x) (T left) front)
                → Continues (Run 3 left) (T left) (peek i ∷ front)
            by front few (inl none) = subst (λ (vs : List Word). Continues (Run 3 left) (T left) (peek i ∷ vs)) (sym none) (starts left o (peek i) p is)
            by front few (inr f) = let d = f (omega (arith, few)) in record { rest = d.rest; value = d.value; is = d.is; has = d.has }
        turn_cut o is again (inr l) =
            let s = sound left o (next i) l.at l.value l.first in
            join_cut o l.value (links.join o left l.value) s.front l.at is refl s.is
            (taken i (no_end (kind i) o is) ∙ ap (ahead (peek i ∷ [])) s.words) again l.rest

        go : (v : Option O) → links.operator (peek i).kind ≡ v
            → ((v : A) (l : Input) → P v → chain links (λ n a o. operand a o) n v l ≡ Err (Refused fault place) → ChainCut v l place)
            → go_on v left (λ o. open_level (links.room n) >>
            (take_word >> (operand left o >>= λ right. joined (peek i) (links.join o left right) (chain links (λ n a o. operand a o) n)))) i ≡ Err
            (Refused fault place) → ChainCut left i place
        go None is again e = absurd cc
        go (Some o) is again e = opened (links.room n) e
          where
            opened : (m : ℕ) → (open_level m >> (take_word >>
                (operand left o >>= λ right. joined (peek i) (links.join o left right) (chain links (λ n a o. operand a o) n)))) i ≡ Err
                (Refused fault place) → ChainCut left i place
            opened zero e = here left i TooDeep fault place p e
            opened (suc m) e = turn_cut o is again (which (operand left o (next i))
                (λ right. joined (peek i) (links.join o left right) (chain links (λ n a o. operand a o) n)) (Refused fault place) e)
