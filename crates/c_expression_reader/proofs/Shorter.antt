-- What readers leave is no longer than what there was.
use Rattle.std.proofs.Common.{◌≡◌, ℕ, zero, suc, ◌+◌, ◌<◌, ◌≤◌, Bool, true, false, cond, List, [], ◌∷◌, length}
use Rattle.std.proofs.Common.{Option, Some, None, Result, Ok, Err, refl, sym, ap, ◌∙◌, arith}
use Rattle.text_tokens.specs.declared.kind.Kind.{Kind}
use Rattle.text_tokens.specs.declared.kind.Kind.TheVariants as k
use Rattle.text_tokens.specs.Kinds.{Text, same_kind}
use Rattle.text_tokens.specs.Spelled.{Token}
use Rattle.text_tokens.specs.Words.{Input, Word, next, peek, tail}
use Rattle.reader_laws.specs.declared.fault.Fault.{Fault}
use Rattle.reader_laws.specs.declared.fault.ReadError.{ReadError}
use Rattle.reader_laws.specs.declared.fault.Fault.TheVariants.{TooDeep}
use Rattle.reader_laws.specs.Steps.{Parser, ◌>>=◌, ◌>>◌, a_word, kind, open_level, pure, read_as, refuse, take_word, text, unexpected}
use Rattle.reader_laws.specs.Chain.{Links, chain, go_on, joined}
use Rattle.reader_laws.proofs.Outcomes.{is_same, ok_input, opened_ok, taken, then_ok}
use Rattle.c_read.specs.Parts.{around, checked, exactly, expect_all, opened, spelled, until, until_by}
use Rattle.c_expression_reader.specs.Values.{placed}
use Rattle.c_expression_reader.specs.Expressions.{answer, checked_at}

abbrev pub Shorter : {A : Type 0} → Parser A → Type 0
Shorter {A = A} p = (i j : Input) (x : A) → p i ≡ Ok (x, j) → length j.words ≤ length i.words

next_short : (i : Input) → length (next i).words ≤ length i.words
unfolding next
next_short i = go i.words
  where
    go : (ws : List Word) → length (tail ws) ≤ length ws
    go [] = omega arith
    go (w ∷ ws) = omega arith

pub same_short : (i j : Input) → i ≡ j → length j.words ≤ length i.words
same_short i j e = let l : length i.words ≡ length j.words = ap (λ (m : Input). length m.words) e in omega (arith, l)

pub shorter_pure : {A : Type 0} (x : A) → Shorter (pure x)
shorter_pure x i j y h = same_short i j (ok_input x y i j h)

pub shorter_then : {A B : Type 0} (p : Parser A) (f : A → Parser B) → Shorter p → ((x : A) → Shorter (f x)) → Shorter (p >>= f)
shorter_then p f sp sf i j y h =
    let a = then_ok (p i) f y j h in
    let one = sp i a.at a.value a.first in
    let two = sf a.value a.at j y a.rest in
    omega (arith, one, two)

pub shorter_none : {A : Type 0} → Shorter (let p : Parser A = unexpected in p)
shorter_none i j x h = absurd cc

pub shorter_open : (levels : ℕ) → Shorter (open_level levels)
shorter_open levels i j u h = same_short i j (opened_ok levels i j u h)

pub shorter_take : Shorter take_word
shorter_take i j t h =
    let e = ok_input (text i) t (next i) j h in
    let one = same_short (next i) j e in
    let two = next_short i in
    omega (arith, one, two)

pub shorter_word : {A : Type 0} (a : Kind) (reads : Text → Result A Fault) → Shorter (a_word a reads)
unfolding a_word
shorter_word {A = A} a reads i j x h = go (same_kind (kind i) a) (reads (text i)) h
  where
    go : (v : Bool) (r : Result A Fault) → cond v (read_as r i) (unexpected i) ≡ Ok (x, j) → length j.words ≤ length i.words
    go true (Ok y) h =
        let e = ok_input y x (next i) j h in
        let one = same_short (next i) j e in
        let two = next_short i in
        omega (arith, one, two)
    go true (Err f) h = absurd cc
    go false r h = absurd cc

pub shorter_answer : {A : Type 0} (r : Result A ReadError) → Shorter (answer r)
shorter_answer (Ok x) i j y h = shorter_pure x i j y h
shorter_answer (Err e) i j y h = absurd cc

pub shorter_checked_at : {A B : Type 0} (f : A → Result B Fault) (p : Parser A) → Shorter p → Shorter (checked_at f p)
shorter_checked_at f p sp i j y h =
    shorter_then p (λ x. answer (placed (peek i).place (f x))) sp (λ x. shorter_answer (placed (peek i).place (f x))) i j y h

pub shorter_joined : {A : Type 0} (w : Word) (r : Result A Fault) → Shorter (joined w r pure)
shorter_joined w (Ok x) i j y h = shorter_pure x i j y h
shorter_joined w (Err f) i j y h = absurd cc

pub shorter_checked : {A B : Type 0} (f : A → Result B Fault) (p : Parser A) → Shorter p → Shorter (checked f p)
shorter_checked f p sp i j y h =
    shorter_then p (λ x. joined (peek i) (f x) pure) sp (λ x. shorter_joined (peek i) (f x)) i j y h

pub shorter_all : (ts : List Token) → Shorter (expect_all ts)
shorter_all [] = shorter_pure tt
shorter_all (t ∷ ts) = shorter_then (exactly t) (λ u. expect_all ts) (shorter_word t.kind (spelled t.text)) (λ u. shorter_all ts)

pub shorter_around : {A : Type 0} (before after : List Token) (p : Parser A) → Shorter p → Shorter (around before after p)
shorter_around before after p sp = shorter_then (expect_all before) _ (shorter_all before) (λ u. shorter_then p _ sp (λ x.
    shorter_then (expect_all after) _ (shorter_all after) (λ v. shorter_pure x)))

pub shorter_opened : {A : Type 0} (levels : ℕ) (front before after : List Token) (p : Parser A) → Shorter p → Shorter (opened levels front before after p)
shorter_opened levels front before after p sp = shorter_then (expect_all front) _ (shorter_all front) (λ u.
    shorter_then (open_level levels) _ (shorter_open levels) (λ v. shorter_around before after p sp))

pub shorter_chain : {A B O : Type 0} (links : Links A B O) (operand : ℕ → A → O → Parser B) → ((n : ℕ) (a : A) (o : O) → Shorter (operand n a o))
    → (n : ℕ) (left : A) → Shorter (chain links operand n left)
unfolding chain
shorter_chain {A = A} {O = O} links operand so zero left i j x h = go (links.operator (kind i)) h
  where
    go : (o : Option O) → go_on o left (λ _. refuse TooDeep) i ≡ Ok (x, j)
        → length j.words ≤ length i.words
    go None h = shorter_pure left i j x h
    go (Some o) h = absurd cc
shorter_chain {A = A} {B = B} {O = O} links operand so (suc n) left i j x h =
    go (links.operator (kind i)) (λ y. shorter_chain links operand so n y) h
  where
    more : (w : Word) (r : Result A Fault) → ((y : A) → Shorter (chain links operand n y)) → Shorter (joined w r (chain links operand n))
    more w (Ok y) again i j x h = again y i j x h
    more w (Err f) again i j x h = absurd cc

    go : (o : Option O) → ((y : A) → Shorter (chain links operand n y)) → go_on o left (λ o. open_level (links.room n) >> (take_word
        >> (operand n left o >>= λ right. joined (peek i) (links.join o left right) (chain links operand n)))) i ≡ Ok (x, j)
        → length j.words ≤ length i.words
    go None again h = shorter_pure left i j x h
    go (Some o) again h = shorter_then (open_level (links.room n)) _ (shorter_open (links.room n)) (λ u.
        shorter_then take_word _ shorter_take (λ t. shorter_then (operand n left o) _ (so n left o) (λ right.
        more (peek i) (links.join o left right) again))) i j x h

pub shorter_until_by : {A B : Type 0} (goes : Word → Bool) (turn : A → Parser A) (final : A → Parser B) → ((a : A) → Shorter (turn a))
    → ((a : A) → Shorter (final a)) → (n : ℕ) (a : A) → Shorter (until_by goes turn final n a)
shorter_until_by {A = A} goes turn final st sf zero a i j x h = sf a i j x h
shorter_until_by {A = A} goes turn final st sf (suc n) a i j x h = go (goes (peek i)) (λ b. shorter_until_by goes turn final st sf n b) h
  where
    go : (v : Bool) → ((b : A) → Shorter (until_by goes turn final n b))
        → cond v ((turn a >>= until_by goes turn final n) i) (final a i) ≡ Ok (x, j) → length j.words ≤ length i.words
    go true again h = shorter_then (turn a) _ (st a) again i j x h
    go false again h = sf a i j x h

pub shorter_until : {A B : Type 0} (goes : Word → Bool) (turn : A → Parser A) (final : A → Parser B) → ((a : A) → Shorter (turn a))
    → ((a : A) → Shorter (final a)) → (a : A) → Shorter (until goes turn final a)
shorter_until goes turn final st sf a i j x h = shorter_until_by goes turn final st sf (length i.words + 1) a i j x h

-- ---- readers that take a word at least

abbrev pub Takes : {A : Type 0} → Parser A → Type 0
Takes {A = A} p = (i j : Input) (x : A) → p i ≡ Ok (x, j) → length j.words < length i.words

pub takes_short : {A : Type 0} (p : Parser A) → Takes p → Shorter p
takes_short p tp i j x h = let one = tp i j x h in omega (arith, one)

pub takes_then : {A B : Type 0} (p : Parser A) (f : A → Parser B) → Takes p → ((x : A) → Shorter (f x)) → Takes (p >>= f)
takes_then p f tp sf i j y h =
    let a = then_ok (p i) f y j h in
    let one = tp i a.at a.value a.first in
    let two = sf a.value a.at j y a.rest in
    omega (arith, one, two)

pub then_takes : {A B : Type 0} (p : Parser A) (f : A → Parser B) → Shorter p → ((x : A) → Takes (f x)) → Takes (p >>= f)
then_takes p f sp tf i j y h =
    let a = then_ok (p i) f y j h in
    let one = sp i a.at a.value a.first in
    let two = tf a.value a.at j y a.rest in
    omega (arith, one, two)

pub takes_word : {A : Type 0} (a : Kind) (reads : Text → Result A Fault) → (a ≡ k.End → ⊥) → Takes (a_word a reads)
unfolding a_word
takes_word {A = A} a reads some i j x h = go (same_kind (kind i) a) (reads (text i)) refl h
  where
    go : (v : Bool) (r : Result A Fault) → same_kind (kind i) a ≡ v → cond v (read_as r i) (unexpected i) ≡ Ok (x, j) → length j.words < length i.words
    go true (Ok y) e h =
        let is = is_same (kind i) a e in
        let front = taken i (λ (z : kind i ≡ k.End). some (sym is ∙ z)) in
        let one = same_short (next i) j (ok_input y x (next i) j h) in
        let l : length i.words ≡ suc (length (next i).words) = ap (λ (m : Input). length m.words) front in
        omega (arith, one, l)
    go true (Err f) e h = absurd cc
    go false r e h = absurd cc

pub takes_all : (t : Token) (ts : List Token) → (t.kind ≡ k.End → ⊥) → Takes (expect_all (t ∷ ts))
takes_all t ts some = takes_then (exactly t) (λ u. expect_all ts) (takes_word t.kind (spelled t.text) some) (λ u. shorter_all ts)
