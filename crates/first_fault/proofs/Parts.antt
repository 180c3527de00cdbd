-- Readers whose words before a fault go on to any value, and how they are put together; the rule may allow more than is read.
use Rattle.std.proofs.Common.{◌≡◌, ◌⊎◌, inl, inr, ◌∷◌, ◌++◌, ℕ, zero, suc, ◌<◌, Bool, true, false, cond, List, [], Option, Some, None, Result, Ok, Err}
use Rattle.std.proofs.Common.{refl, sym, ap, subst, ◌∙◌, append_assoc, append-nil, arith}
use Rattle.text_tokens.specs.declared.kind.Kind.{Kind}
use Rattle.text_tokens.specs.declared.kind.Kind.TheVariants as k
use Rattle.text_tokens.specs.Kinds.{Text, same_kind}
use Rattle.text_tokens.specs.Words.{Word, Input, peek, next}
use Rattle.reader_laws.specs.declared.fault.Fault.{Fault}
use Rattle.reader_laws.specs.declared.fault.Fault.TheVariants.{TooDeep}
use Rattle.reader_laws.specs.declared.fault.ReadError.TheVariants.{Refused}
use Rattle.reader_laws.specs.Steps.{Parser, ◌>>=◌, ◌>>◌, pure, refuse, kind, take_word, open_level, no_value}
use Rattle.reader_laws.specs.Chain.{Links, joined, go_on, chain, sign, signed, repeated}
use Rattle.reader_laws.specs.Grammar.{IsWordOf, IsNothing, Opened, Both, IsChain, IsRepeated}
use Rattle.reader_laws.specs.Levels.{word_in, unexpected_in, room_for, opening}
use Rattle.reader_laws.proofs.Outcomes.{ahead, ahead_append, is_same, ok_input, ok_value, opened_ok, taken, then_ok}
use Rattle.reader_laws.proofs.Lawful.{Found}
use Rattle.reader_laws.proofs.LevelLaws.{lawful_word_in}
use Rattle.first_fault.specs.First.{Continues, Any}
use Rattle.first_fault.proofs.Begins.{Cut, Begins}
use Rattle.first_fault.proofs.BeginLaws.{which, Later, cut_as, cut_after, cut_here, begins_word, begins_nowhere, begins_both, begins_made, both_go}
use Rattle.first_fault.proofs.Wider.{Wider}

-- What is read is in the rule, the words before the word of each fault go on, and something is in the rule.
pub record Part {A : Type 0} (p : Parser A) (rule : List Word → A → Type 0) : Type 0 where
  pub sound : (i j : Input) (x : A) → p i ≡ Ok (x, j) → Found rule i x j
  pub begins : Begins p rule Any
  pub some : Continues rule Any []

continues_as : {A : Type 0} (rule other : List Word → A → Type 0) (T : A → Type 0) (front : List Word) → Wider rule other → Continues rule T front
    → Continues other Any front
continues_as rule other T front h c = record { rest = c.rest; value = c.value; is = h (front ++ c.rest) c.value c.is; has = tt }

-- from a law of values of one sort, in a rule that allows more
pub part_with : {A : Type 0} (p : Parser A) (rule other : List Word → A → Type 0) (T : A → Type 0)
    → ((i j : Input) (x : A) → p i ≡ Ok (x, j) → Found rule i x j) → Begins p rule T → Wider rule other → Continues other Any [] → Part p other
part_with p rule other T sound begins h some = record {
  sound = λ i j x e. let f = sound i j x e in record { front = f.front; words = f.words; is = h f.front x f.is };
  begins = λ i fault place e. cut_as rule other T Any i place (λ front few c. continues_as rule other T front h c) (begins i fault place e);
  some = some;
}

pub part_of : {A : Type 0} (p : Parser A) (rule other : List Word → A → Type 0) (T : A → Type 0)
    → ((i j : Input) (x : A) → p i ≡ Ok (x, j) → Found rule i x j) → Begins p rule T → Continues rule T [] → Wider rule other → Part p other
part_of p rule other T sound begins some h = part_with p rule other T sound begins h (continues_as rule other T [] h some)

pub part_as : {A : Type 0} (p : Parser A) (rule other : List Word → A → Type 0) → Part p rule → Wider rule other → Part p other
part_as p rule other l h = part_of p rule other Any l.sound l.begins l.some h

pub part_pure : {A : Type 0} (a : A) → Part (pure a) (IsNothing a)
part_pure a = record {
  sound = λ i j x e. record { front = []; words = ok_input a x i j e; is = (refl, sym (ok_value a x i j e)) };
  begins = λ i fault place e. absurd cc;
  some = record { rest = []; value = a; is = (refl, refl); has = tt };
}

-- no word is read, where something is in the rule
pub part_nowhere : {A : Type 0} (levels : ℕ) (rule : List Word → A → Type 0) → Continues rule Any [] → Part (unexpected_in {A = A} levels) rule
part_nowhere levels rule some = record {
  sound = λ i j x e. absurd cc;
  begins = begins_nowhere rule Any levels;
  some = some;
}

pub some_both : {A B : Type 0} (first : List Word → A → Type 0) (then : A → List Word → B → Type 0) → Continues first Any []
    → ((x : A) → Continues (then x) Any []) → Continues (Both first then) Any []
some_both first then c d = both_go first then Any [] c.rest c.value c.is (d c.value)

found_both : {A B : Type 0} (p : Parser A) (f : A → Parser B) (first : List Word → A → Type 0) (then : A → List Word → B → Type 0)
    → ((i j : Input) (x : A) → p i ≡ Ok (x, j) → Found first i x j) → ((x : A) (i j : Input) (y : B) → f x i ≡ Ok (y, j) → Found (then x) i y j)
    → (i j : Input) (y : B) → (p >>= f) i ≡ Ok (y, j) → Found (Both first then) i y j
found_both p f first then l m i j y e =
    let a = then_ok (p i) f y j e in
    let one = l i a.at a.value a.first in
    let two = m a.value a.at j y a.rest in
    record {
      front = one.front ++ two.front;
      words = one.words ∙ ap (ahead one.front) two.words ∙ ahead_append one.front two.front j;
      is = record { value = a.value; front = one.front; rest = two.front; words = refl; is_first = one.is; is_then = two.is };
    }

pub part_both : {A B : Type 0} (p : Parser A) (f : A → Parser B) (first : List Word → A → Type 0) (then : A → List Word → B → Type 0) → Part p first
    → ((x : A) → Part (f x) (then x)) → Part (p >>= f) (Both first then)
part_both p f first then l m = record {
  sound = found_both p f first then l.sound (λ x. (m x).sound);
  begins = begins_both p f first then Any Any l.sound l.begins (λ ws x is. (m x).begins) (λ ws x is any. (m x).some) (λ ws x is few. (m x).some);
  some = some_both first then l.some (λ x. (m x).some);
}

pub part_made : {A B : Type 0} (p : Parser A) (make : A → B) (rule : List Word → A → Type 0) → Part p rule
    → Part (p >>= λ x. pure (make x)) (Both rule (λ x. IsNothing (make x)))
part_made p make rule l = part_both p (λ x. pure (make x)) rule (λ x. IsNothing (make x)) l (λ x. part_pure (make x))

-- a name and what is made of it, beside something else that the rule allows
pub part_named : {A B : Type 0} (levels : ℕ) (reads : Text → Result A Fault) (make : A → B) (other : List Word → B → Type 0)
    → Wider (Both (IsWordOf k.Name reads) (λ x. IsNothing (make x))) other → Continues other Any []
    → Part (word_in levels k.Name reads >>= λ x. pure (make x)) other
part_named levels reads make other h some =
    part_with (word_in levels k.Name reads >>= λ x. pure (make x)) (Both (IsWordOf k.Name reads) (λ x. IsNothing (make x))) other Any
    (found_both (word_in levels k.Name reads) (λ x. pure (make x)) (IsWordOf k.Name reads) (λ x. IsNothing (make x))
    (lawful_word_in levels k.Name reads (λ (z : k.Name ≡ k.End). cc)).sound (λ x. (part_pure (make x)).sound))
    (begins_made (word_in levels k.Name reads) make (IsWordOf k.Name reads) Any Any (λ x any. tt) (begins_word (IsWordOf k.Name reads) Any levels k.Name reads))
    h some

-- ---- words

pub some_word : {A : Type 0} (kd : Kind) (reads : Text → Result A Fault) (t : Text) (x : A) → reads t ≡ Ok x → Continues (IsWordOf kd reads) Any []
some_word kd reads t x e = record {
  rest = record { kind = kd; text = t; place = 0 } ∷ [];
  value = x;
  is = record { word = record { kind = kd; text = t; place = 0 }; is = refl; reads_as = e; words = refl };
  has = tt;
}

-- a word that is read so, as this text shows
pub part_word : {A : Type 0} (levels : ℕ) (kd : Kind) (reads : Text → Result A Fault) (t : Text) (x : A) → (kd ≡ k.End → ⊥) → reads t ≡ Ok x
    → Part (word_in levels kd reads) (IsWordOf kd reads)
part_word levels kd reads t x not_end e = record {
  sound = (lawful_word_in levels kd reads not_end).sound;
  begins = begins_word (IsWordOf kd reads) Any levels kd reads;
  some = some_word kd reads t x e;
}

-- a word that says nothing, and what follows
pub part_after : {B : Type 0} (levels : ℕ) (kd : Kind) (f : Parser B) (then : List Word → B → Type 0) → (kd ≡ k.End → ⊥) → Part f then
    → Part (word_in levels kd no_value >>= λ _. f) (Both (IsWordOf kd no_value) (λ _. then))
part_after levels kd f then not_end l =
    part_both (word_in levels kd no_value) (λ _. f) (IsWordOf kd no_value) (λ _. then) (part_word levels kd no_value [] tt not_end refl) (λ _. l)

-- a word that opens a level, and what follows, where the rule has a level more
pub part_opening : {B : Type 0} (levels : ℕ) (kd : Kind) (f : Parser B) (then : List Word → B → Type 0) → (kd ≡ k.End → ⊥) → Part f then
    → Part (opening levels kd >>= λ _. f) (Opened (suc levels) (Both (IsWordOf kd no_value) (λ _. then)))
part_opening levels kd f then not_end l =
    part_as (opening levels kd >>= λ _. f) (Both (IsWordOf kd no_value) (λ _. then)) (Opened (suc levels) (Both (IsWordOf kd no_value) (λ _. then)))
    (part_both (opening levels kd) (λ _. f) (IsWordOf kd no_value) (λ _. then) opens (λ _. l)) (λ ws x is. (omega arith, is))
  where
    opens : Part (opening levels kd) (IsWordOf kd no_value)
    opens = record {
      sound = λ i j u e. let s = (lawful_word_in levels kd (room_for levels) not_end).sound i j u e in
          record { front = s.front; words = s.words; is = record { word = s.is.word; is = s.is.is; reads_as = refl; words = s.is.words } };
      begins = begins_word (IsWordOf kd no_value) Any levels kd (room_for levels);
      some = some_word kd no_value [] tt refl;
    }

-- in parentheses, one level further in
pub part_parens : {A : Type 0} (levels inner : ℕ) (p : Parser A) (rule : List Word → A → Type 0) → Part p rule
    → Part (opening levels k.LParen >>= λ _. (p >>= λ x. (word_in inner k.RParen no_value >>= λ _. pure x)))
    (Opened (suc levels) (Both (IsWordOf k.LParen no_value) (λ _. Both rule (λ x. Both (IsWordOf k.RParen no_value) (λ _. IsNothing x)))))
part_parens levels inner p rule l = part_opening levels k.LParen (p >>= λ x. (word_in inner k.RParen no_value >>= λ _. pure x)) _ (λ (z : k.LParen ≡ k.End). cc)
    (part_both p (λ x. word_in inner k.RParen no_value >>= λ _. pure x) rule (λ x. Both (IsWordOf k.RParen no_value) (λ _. IsNothing x)) l
    (λ x. part_after inner k.RParen (pure x) (IsNothing x) (λ (z : k.RParen ≡ k.End). cc) (part_pure x)))

-- ---- chains whose joins never fail; the rule has room at each operator

pub no_links : {A B O : Type 0} (links : Links A B O) (operands : ℕ → A → O → List Word → B → Type 0) (n : ℕ) (left : A) → IsChain links operands n left [] left
no_links links operands zero left = (refl, refl)
no_links links operands (suc n) left = inl (refl, refl)

module _ {A B O : Type 0} (links : Links A B O) (wide : ℕ → ℕ) (operand : ℕ → A → O → Parser B) (operands : ℕ → A → O → List Word → B → Type 0)
    (no_end : (kd : Kind) (o : O) → links.operator kd ≡ Some o → kd ≡ k.End → ⊥)
    (roomy : (n : ℕ) → 0 < wide n)
    (joins : (o : O) (a : A) (b : B) → (c : A) × (links.join o a b ≡ Ok c))
    (each : (n : ℕ) (a : A) (o : O) → Part (operand n a o) (operands n a o)) where
  abbrev widened : Links A B O
  widened = record { operator = links.operator; room = wide; join = links.join }

  abbrev Run : ℕ → A → List Word → A → Type 0
  Run = IsChain widened operands

  nothing : (n : ℕ) (left : A) → Run n left [] left
  nothing n left = no_links widened operands n left

  none_more : (n : ℕ) (left : A) → Continues (Run n left) Any []
  none_more n left = record { rest = []; value = left; is = nothing n left; has = tt }

  -- an operator and its operand in front of a chain
  linked : (n : ℕ) (left value x : A) (w : Word) (o : O) (front ws : List Word) (right : B) → links.operator w.kind ≡ Some o → operands n left o front right
      → links.join o left right ≡ Ok value → Run n value ws x → Run (suc n) left (w ∷ front ++ ws) x
  linked n left value x w o front ws right is reads join rest = inr (record {
    word = w;
    front = front;
    rest = ws;
    sign = o;
    right = right;
    value = value;
    words = refl;
    is = is;
    room = roomy n;
    is_operand = reads;
    joins = join;
    is_rest = rest;
  })

  -- an operand that goes on ends the chain
  after : (n : ℕ) (left : A) (w : Word) (o : O) (front : List Word) → links.operator w.kind ≡ Some o → Continues (operands n left o) Any front
      → Continues (Run (suc n) left) Any (w ∷ front)
  after n left w o front is c =
      let j = joins o left c.value in
      let l = linked n left j.0 j.0 w o (front ++ c.rest) [] c.value is c.is j.1 (nothing n j.0) in
      record { rest = c.rest; value = j.0; is = subst (λ (ws : List Word). Run (suc n) left (w ∷ ws) j.0) (append-nil (front ++ c.rest)) l; has = tt }

  further : (n : ℕ) (left value : A) (w : Word) (o : O) (front more : List Word) (right : B) → links.operator w.kind ≡ Some o
      → operands n left o front right → links.join o left right ≡ Ok value → Continues (Run n value) Any more
      → Continues (Run (suc n) left) Any ((w ∷ front) ++ more)
  further n left value w o front more right is reads join c =
      let l = linked n left value c.value w o front (more ++ c.rest) right is reads join c.is in
      record {
        rest = c.rest;
        value = c.value;
        is = subst (λ (ws : List Word). Run (suc n) left (w ∷ ws) c.value) (sym (append_assoc front more c.rest)) l;
        has = tt;
      }

  -- where the operator is followed by what is read
  abbrev turn : ℕ → A → Word → O → Parser A
  turn n left w o = open_level (links.room n) >> (take_word >> (operand n left o >>= λ right. joined w (links.join o left right) (chain links operand n)))

  chain_sound : (n : ℕ) (left : A) (i j : Input) (x : A) → chain links operand n left i ≡ Ok (x, j) → Found (Run n left) i x j
  unfolding chain
  chain_sound zero left i j x e = go (links.operator (peek i).kind) e
    where
      go : (v : Option O) → go_on v left (λ _. refuse TooDeep) i ≡ Ok (x, j) → Found (Run zero left) i x j
      go None e = record { front = []; words = ok_input left x i j e; is = (refl, sym (ok_value left x i j e)) }
      go (Some o) e = absurd cc
  chain_sound (suc n) left i j x e = go (links.operator (peek i).kind) refl (λ y l m z f. chain_sound n y l m z f) e
    where
      go : (v : Option O) → links.operator (peek i).kind ≡ v
          → ((y : A) (l m : Input) (z : A) → chain links operand n y l ≡ Ok (z, m) → Found (Run n y) l z m)
          → go_on v left (turn n left (peek i)) i ≡ Ok (x, j) → Found (Run (suc n) left) i x j
      go None is again e = record { front = []; words = ok_input left x i j e; is = inl (refl, sym (ok_value left x i j e)) }
      go (Some o) is again e =
          let more : B → Parser A = λ right. joined (peek i) (links.join o left right) (chain links operand n) in
          let a = then_ok (open_level (links.room n) i) (λ _. take_word >> (operand n left o >>= more)) x j e in
          let opened = opened_ok (links.room n) i a.at a.value a.first in
          let b = then_ok (operand n left o (next a.at)) more x j a.rest in
          let right = (each n left o).sound (next a.at) b.at b.value b.first in
          let c = joins o left b.value in
          let on : chain links operand n c.0 b.at ≡ Ok (x, j) = subst
          (λ (r : Result A Fault). joined (peek i) r (chain links operand n) b.at ≡ Ok (x, j)) c.1 b.rest in
          let rest = again c.0 b.at j x on in
          record {
            front = peek i ∷ right.front ++ rest.front;
            words = taken i (no_end (kind i) o is) ∙ ap (λ (l : Input). ahead (peek i ∷ []) (next l)) opened
                ∙ ap (ahead (peek i ∷ [])) (right.words ∙ ap (ahead right.front) rest.words ∙ ahead_append right.front rest.front j);
            is = linked n left c.0 x (peek i) o right.front rest.front b.value is right.is c.1 rest.is;
          }

  begins_chain : (n : ℕ) (left : A) → Begins (chain links operand n left) (Run n left) Any
  unfolding chain
  begins_chain zero left = λ i fault place e. go i fault place (links.operator (peek i).kind) e
    where
      go : (i : Input) (fault : Fault) (place : ℕ) (v : Option O) → go_on v left (λ _. refuse TooDeep) i ≡ Err (Refused fault place)
          → Cut (Run zero left) Any i place
      go i fault place None e = absurd cc
      go i fault place (Some o) e = cut_here {B = A} (Run zero left) Any i TooDeep fault place e
  begins_chain (suc n) left = λ i fault place e. go i fault place (links.operator (peek i).kind) refl (λ v. begins_chain n v) e
    where
      turn_cut : (i : Input) (fault : Fault) (place : ℕ) (o : O) → links.operator (peek i).kind ≡ Some o
          → ((v : A) → Begins (chain links operand n v) (Run n v) Any)
          → (operand n left o (next i) ≡ Err (Refused fault place))
          ⊎ Later (operand n left o (next i)) (λ right. joined (peek i) (links.join o left right) (chain links operand n)) (Refused fault place)
          → Cut (Run (suc n) left) Any i place
      turn_cut i fault place o is again (inl e) =
          cut_after (operands n left o) (Run (suc n) left) Any Any i (next i) place (peek i ∷ []) (taken i (no_end (kind i) o is))
          (λ few. after n left (peek i) o [] is (each n left o).some) (λ more few c. after n left (peek i) o more is c)
          ((each n left o).begins (next i) fault place e)
      turn_cut i fault place o is again (inr l) =
          let s = (each n left o).sound (next i) l.at l.value l.first in
          let c = joins o left l.value in
          let words = taken i (no_end (kind i) o is) ∙ ap (ahead (peek i ∷ [])) s.words in
          let on : chain links operand n c.0 l.at ≡ Err (Refused fault place) =
          subst (λ (r : Result A Fault). joined (peek i) r (chain links operand n) l.at ≡ Err (Refused fault place)) c.1 l.rest in
          cut_after (Run n c.0) (Run (suc n) left) Any Any i l.at place (peek i ∷ s.front) words
          (λ few. subst (λ (ws : List Word). Continues (Run (suc n) left) Any ws) (append-nil (peek i ∷ s.front))
          (further n left c.0 (peek i) o s.front [] l.value is s.is c.1 (none_more n c.0)))
          (λ more few d. further n left c.0 (peek i) o s.front more l.value is s.is c.1 d) (again c.0 l.at fault place on)

      go : (i : Input) (fault : Fault) (place : ℕ) (v : Option O) → links.operator (peek i).kind ≡ v
          → ((x : A) → Begins (chain links operand n x) (Run n x) Any)
          → go_on v left (turn n left (peek i)) i ≡ Err (Refused fault place) → Cut (Run (suc n) left) Any i place
      go i fault place None is again e = absurd cc
      go i fault place (Some o) is again e = opened (links.room n) e
        where
          opened : (m : ℕ) → (open_level m >> (take_word >> (operand n left o >>= λ right. joined (peek i) (links.join o left right)
              (chain links operand n)))) i
              ≡ Err (Refused fault place) → Cut (Run (suc n) left) Any i place
          opened zero e = cut_here {B = A} (Run (suc n) left) Any i TooDeep fault place e
          opened (suc m) e = turn_cut i fault place o is again
              (which (operand n left o (next i)) (λ right. joined (peek i) (links.join o left right) (chain links operand n)) (Refused fault place) e)

  pub part_chain : (n : ℕ) (left : A) → Part (chain links operand n left)
      (IsChain (record { operator = links.operator; room = wide; join = links.join }) operands n left)
  part_chain n left = record { sound = chain_sound n left; begins = begins_chain n left; some = none_more n left }

-- ---- items, each after a word of one kind

sign_end : (a kd : Kind) (o : Unit {0}) → (a ≡ k.End → ⊥) → sign a kd ≡ Some o → kd ≡ k.End → ⊥
sign_end a kd o some h = go (same_kind kd a) refl h
  where
    go : (b : Bool) → same_kind kd a ≡ b → cond b (let s : Option (Unit {0}) = Some tt in s) None ≡ Some o → kd ≡ k.End → ⊥
    go true e h z = some (sym (is_same kd a e) ∙ z)
    go false e h z = cc

pub part_repeated : {A B : Type 0} (a : Kind) (add : A → B → A) (item : A → Parser B) (rule : A → List Word → B → Type 0) → (a ≡ k.End → ⊥)
    → ((x : A) → Part (item x) (rule x)) → (n : ℕ) (left : A) → Part (repeated a add item n left) (IsRepeated a add rule n left)
unfolding repeated signed
part_repeated a add item rule not_end each n left = part_chain (signed a add) (λ n. 1) (λ m x o. item x) (λ m x o. rule x) (λ kd o h. sign_end a kd o not_end h)
    (λ n. omega arith) (λ o x y. (add x y, refl)) (λ m x o. each x) n left
