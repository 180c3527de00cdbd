-- First means first, of whole texts.
use Rattle.std.proofs.Common.{◌≡◌, ◌⊎◌, inl, inr, ℕ, Bool, true, false, cond, List, []}
use Rattle.std.proofs.Common.{◌∷◌, ◌++◌, length, Result, Ok, Err, refl, sym, ap, subst, ◌∙◌, append-nil}
use Rattle.text_tokens.specs.declared.kind.Kind.TheVariants as k
use Rattle.text_tokens.specs.Kinds.{Text, same_kind}
use Rattle.text_tokens.specs.Words.{Word, Input, is_nil, next_word, peek}
use Rattle.loop_lang.specs.declared.stmt.Prog.{Prog}
use Rattle.reader_laws.specs.declared.fault.Fault.{Fault}
use Rattle.reader_laws.specs.declared.fault.Fault.TheVariants.{BadSyntax, BadToken}
use Rattle.reader_laws.specs.declared.fault.ReadError.{ReadError}
use Rattle.reader_laws.specs.declared.fault.ReadError.TheVariants.{Refused}
use Rattle.reader_laws.specs.Steps.{Outcome, Parser, and_then, ◌>>=◌, ◌>>◌, finish, kind, misplaced, pure, refusal, to_end, value_of}
use Rattle.reader_laws.proofs.Outcomes.{ahead, ok_input, then_ok}
use Rattle.reader_laws.proofs.Lawful.{Found}
use Rattle.c_words.specs.Words.{c_words}
use Rattle.c_text.specs.Statement.{CText}
use Rattle.c_read.specs.Units.{c_input, read_text, unit}
use Rattle.c_read.proofs.WholeText.{text_read}
use Rattle.c_first_fault.specs.First.{FaultsAreFirst, IsFirst, TextsAreShaped}
use Rattle.c_first_fault.specs.Shape.{IsShaped}
use Rattle.c_first_fault.proofs.Shapes.{Begins, Cut, Goes, begins_bind, cut_here}
use Rattle.c_first_fault.proofs.Units.{begins_unit, some_text, sound_unit}

abbrev Nothing : List Word → Type 0
Nothing ws = ⊥

finish_begins : (p : Prog) → Begins (finish >> pure p) Nothing
unfolding finish misplaced refusal
finish_begins p = λ i fault place e. go i fault place (is_nil i.words) e
  where
    go : (i : Input) (fault : Fault) (place : ℕ) (b : Bool)
        → and_then (cond b (let o : Outcome (Unit {0}) = Ok (tt, i) in o) (Err (Refused (cond (same_kind (kind i) k.Bad) BadToken BadSyntax) (peek i).place)))
        (λ u. pure p) ≡ Err (Refused fault place) → Cut Nothing i place
    go i fault place true e = absurd cc
    go i fault place false e = cut_here {A = Prog} Nothing i (cond (same_kind (kind i) k.Bad) BadToken BadSyntax) fault place e

text_begins : Begins (to_end unit) IsShaped
text_begins = begins_bind unit (λ p. finish >> pure p) (λ ws p. IsShaped ws) IsShaped (λ p. Nothing) IsShaped
    (λ i j p e. let t = sound_unit i j p e in record { front = t.front; words = t.words; is = t.is }) begins_unit (λ front g. g)
    (λ ws p is. finish_begins p) (λ ws p is. record { rest = []; is = subst IsShaped (sym (append-nil ws)) is })
    (λ ws more p is g. absurd g.is)

value_err : (r : Outcome Prog) (x : ReadError) → value_of r ≡ Err x → r ≡ Err x
value_err (Ok p) x h = absurd cc
value_err (Err y) x h = cc

abbrev whole_value : Prog → Result Prog ReadError
whole_value x = Ok x

same_value : (x y : Prog) → whole_value x ≡ whole_value y → x ≡ y
same_value x y h = cc

value_ok : (r : Outcome Prog) (p : Prog) → value_of r ≡ Ok p → (j : Input) × (r ≡ Ok (p, j))
value_ok (Ok q) p h = (q.1, ap (λ (y : Prog). let o : Outcome Prog = Ok (y, q.1) in o) (same_value q.0 p h))
value_ok (Err e) p h = absurd cc

goes_on : (front : List Word) → (front ≡ []) ⊎ Goes IsShaped front → Goes IsShaped front
goes_on front (inl e) = subst (λ (ws : List Word). Goes IsShaped ws) (sym e) some_text
goes_on front (inr g) = g

pub first : (z : Text) → FaultsAreFirst z
unfolding read_text peek
first z fault place h =
    let c = text_begins (c_input z) fault place (value_err (to_end unit (c_input z)) (Refused fault place) h) in
    let end_is : length z ≡ c.at.end = ap (λ (m : Input). m.end) c.words in
    let g = goes_on c.front c.goes in
    record {
      front = c.front;
      rest = c.at.words;
      words = ap (λ (m : Input). m.words) c.words;
      stands = c.stands ∙ ap (λ (n : ℕ). (next_word n c.at.words).place) (sym end_is);
      more = g.rest;
      goes = g.is;
    }

finish_ok : (i j : Input) (u : Unit {0}) → finish i ≡ Ok (u, j) → i.words ≡ []
unfolding finish
finish_ok i j u h = go i.words h
  where
    go : (ws : List Word) → cond (is_nil ws) (let o : Outcome (Unit {0}) = Ok (tt, i) in o) (Err (misplaced i)) ≡ Ok (u, j) → ws ≡ []
    go [] h = refl
    go (w ∷ ws) h = absurd cc

pub texts : (z : Text) → TextsAreShaped z
unfolding read_text
texts z p is =
    let r = value_ok (to_end unit (c_input z)) p (text_read z p is) in
    let a = then_ok (unit (c_input z)) (λ q. finish >> pure q) p r.0 r.1 in
    let t = sound_unit (c_input z) a.at a.value a.first in
    let b = then_ok (finish a.at) (λ u. pure a.value) p r.0 a.rest in
    let last = finish_ok a.at b.at b.value b.first in
    subst IsShaped (sym (ap (λ (m : Input). m.words) t.words ∙ ap (λ (ws : List Word). t.front ++ ws) last ∙ append-nil t.front)) t.is
