-- Where a reader refuses a word, the words before it are the beginning of something in its rule.
use Rattle.std.proofs.Common.{◌≡◌, ℕ, Bool, true, false, cond, List, [], ◌∷◌, ◌++◌, Result, Ok, Err, refl, sym, ap, subst, ◌∙◌, append_assoc, append-nil}
use Rattle.text_tokens.specs.declared.kind.Kind.{Kind}
use Rattle.text_tokens.specs.declared.kind.Kind.TheVariants as k
use Rattle.text_tokens.specs.Kinds.{Text, same_kind}
use Rattle.text_tokens.specs.Words.{Word, Input, peek, is_nil}
use Rattle.reader_laws.specs.declared.fault.Fault.{Fault}
use Rattle.reader_laws.specs.declared.fault.Fault.TheVariants.{BadToken, BadSyntax}
use Rattle.reader_laws.specs.declared.fault.ReadError.{ReadError}
use Rattle.reader_laws.specs.declared.fault.ReadError.TheVariants.{Refused}
use Rattle.reader_laws.specs.Steps.{Outcome, Parser, and_then, ◌>>=◌, ◌>>◌, pure, finish, misplaced, refusal, kind, text, read_as, to_end}
use Rattle.reader_laws.specs.Levels.{word_in, misplaced_in}
use Rattle.reader_laws.specs.Grammar.{IsWordOf, IsNothing, Both}
use Rattle.reader_laws.proofs.Outcomes.{ahead, ahead_append}
use Rattle.reader_laws.proofs.Lawful.{Found}

-- words that go on after these: both together are in the rule
pub record Continues {A : Type 0} (rule : List Word → A → Type 0) (front : List Word) : Type 0 where
  pub rest : List Word
  pub value : A
  pub is : rule (front ++ rest) value

-- the word at this place, and the words before it, which go on
pub record Cut {A : Type 0} (rule : List Word → A → Type 0) (i : Input) (place : ℕ) : Type 0 where
  pub front : List Word
  pub at : Input
  pub words : i ≡ ahead front at
  pub stands : place ≡ (peek at).place
  pub goes : Continues rule front

-- each refusal stands at a word, and the words before it go on; something is in the rule
pub record Begins {A : Type 0} (p : Parser A) (rule : List Word → A → Type 0) : Type 0 where
  pub cut : (i : Input) (fault : Fault) (place : ℕ) → p i ≡ Err (Refused fault place) → Cut rule i place
  pub some : Continues rule []

refused : {A : Type 0} → Fault → ℕ → Outcome A
refused fault place = Err (Refused fault place)

same_place : {A : Type 0} (f g : Fault) (m n : ℕ) → refused {A = A} f m ≡ refused {A = A} g n → n ≡ m
unfolding refused
same_place f g m n h = cc

-- a refusal at the next word
pub cut_here : {A B : Type 0} (rule : List Word → A → Type 0) (some : Continues rule []) (i : Input) (f fault : Fault) (place : ℕ)
    → (let o : Outcome B = Err (Refused f (peek i).place) in o) ≡ Err (Refused fault place) → Cut rule i place
unfolding refused
cut_here {B = B} rule some i f fault place h =
    record { front = []; at = i; words = refl; stands = same_place {A = B} f fault (peek i).place place h; goes = some }

pub begins_pure : {A : Type 0} (x : A) → Begins (pure x) (IsNothing x)
begins_pure x = record { cut = λ i fault place h. absurd cc; some = record { rest = []; value = x; is = (refl, refl) } }

-- a word of this kind, for which this text is read
pub begins_word : {A : Type 0} (levels : ℕ) (a : Kind) (reads : Text → Result A Fault) (t : Text) (x : A) → reads t ≡ Ok x
    → Begins (word_in levels a reads) (IsWordOf a reads)
unfolding word_in misplaced_in refusal
begins_word {A = A} levels a reads t x e = record {
  cut = λ i fault place h. by i fault place (same_kind (kind i) a) (reads (text i)) h;
  some = some;
}
  where
    some : Continues (IsWordOf a reads) []
    some = record {
      rest = record { kind = a; text = t; place = 0 } ∷ [];
      value = x;
      is = record { word = record { kind = a; text = t; place = 0 }; is = refl; reads_as = e; words = refl };
    }

    by : (i : Input) (fault : Fault) (place : ℕ) (b : Bool) (r : Result A Fault)
        → cond b (read_as r i) (Err (misplaced_in levels i)) ≡ Err (Refused fault place) → Cut (IsWordOf a reads) i place
    by i fault place true (Ok y) h = absurd cc
    by i fault place true (Err f) h = cut_here {B = A} (IsWordOf a reads) some i f fault place h
    by i fault place false r h = cut_here {B = A} (IsWordOf a reads) some i _ fault place h

-- one after the other
module _ {A B : Type 0} (p : Parser A) (f : A → Parser B) (first : List Word → A → Type 0) (then : A → List Word → B → Type 0) where
  joined : (front more : List Word) (x : A) → first front x → Continues (then x) more → Continues (Both first then) (front ++ more)
  joined front more x is c = record {
    rest = c.rest;
    value = c.value;
    is = record { value = x; front = front; rest = more ++ c.rest; words = append_assoc front more c.rest; is_first = is; is_then = c.is };
  }

  after : (front : List Word) (c : Continues first front) → Continues (then c.value) [] → Continues (Both first then) front
  after front c d = record {
    rest = c.rest ++ d.rest;
    value = d.value;
    is = record {
      value = c.value;
      front = front ++ c.rest;
      rest = d.rest;
      words = sym (append_assoc front c.rest d.rest);
      is_first = c.is;
      is_then = d.is;
    };
  }

  cut_both : ((i j : Input) (x : A) → p i ≡ Ok (x, j) → Found first i x j) → Begins p first → ((x : A) → Begins (f x) (then x))
      → (i : Input) (fault : Fault) (place : ℕ) (r : Outcome A) → p i ≡ r → and_then r f ≡ Err (Refused fault place) → Cut (Both first then) i place
  cut_both sound l m i fault place (Ok q) e h =
      let s = sound i q.1 q.0 e in
      let c = (m q.0).cut q.1 fault place h in
      record {
        front = s.front ++ c.front;
        at = c.at;
        words = s.words ∙ ap (ahead s.front) c.words ∙ ahead_append s.front c.front c.at;
        stands = c.stands;
        goes = joined s.front c.front q.0 s.is c.goes;
      }
  cut_both sound l m i fault place (Err x) e h =
      let c = l.cut i fault place (e ∙ same_error x (Refused fault place) h) in
      record { front = c.front; at = c.at; words = c.words; stands = c.stands; goes = after c.front c.goes (m c.goes.value).some }
    where
      same_error : (x y : ReadError) → (let o : Outcome B = Err x in o) ≡ Err y → (let o : Outcome A = Err x in o) ≡ Err y
      same_error x y h = cc

  pub begins_both : ((i j : Input) (x : A) → p i ≡ Ok (x, j) → Found first i x j) → Begins p first → ((x : A) → Begins (f x) (then x))
      → Begins (p >>= f) (Both first then)
  begins_both sound l m = record {
    cut = λ i fault place h. cut_both sound l m i fault place (p i) refl h;
    some = after [] l.some (m l.some.value).some;
  }

-- a whole text
module _ {A : Type 0} (p : Parser A) (rule : List Word → A → Type 0) (sound : (i j : Input) (x : A) → p i ≡ Ok (x, j) → Found rule i x j) (l : Begins p rule)
  where
    cut_end : (i j : Input) (x : A) (fault : Fault) (place : ℕ) → Found rule i x j → (finish >> pure x) j ≡ Err (Refused fault place) → Cut rule i place
    unfolding finish misplaced refusal refused
    cut_end i j x fault place s h = go (is_nil j.words) h
      where
        go : (b : Bool) → and_then (cond b (let o : Outcome (Unit {0}) = Ok (tt, j) in o)
            (Err (Refused (cond (same_kind (kind j) k.Bad) BadToken BadSyntax) (peek j).place))) (λ _. pure x) ≡ Err (Refused fault place) → Cut rule i place
        go true h = absurd cc
        go false h = record {
          front = s.front;
          at = j;
          words = s.words;
          stands = same_place {A = A} (cond (same_kind (kind j) k.Bad) BadToken BadSyntax) fault (peek j).place place h;
          goes = record { rest = []; value = x; is = subst (λ (ws : List Word). rule ws x) (sym (append-nil s.front)) s.is };
        }

    pub cut_whole : (i : Input) (fault : Fault) (place : ℕ) → to_end p i ≡ Err (Refused fault place) → Cut rule i place
    cut_whole i fault place h = go (p i) refl h
      where
        go : (r : Outcome A) → p i ≡ r → and_then r (λ x. finish >> pure x) ≡ Err (Refused fault place) → Cut rule i place
        go (Ok q) e h = cut_end i q.1 q.0 fault place (sound i q.1 q.0 e) h
        go (Err x) e h = l.cut i fault place (e ∙ h)
