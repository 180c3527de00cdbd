-- A whole C text: what is read is said, what is said is read, no text stands for two programs, and where a text is refused.
use Rattle.std.proofs.Common.{◌≡◌, inl, inr, ℕ, Bool, true, false, cond, List, [], ◌∷◌, ◌++◌, length, Result, Ok, Err, refl, sym, ap, subst, ◌∙◌, append-nil}
use Rattle.text_tokens.specs.declared.kind.Kind.TheVariants as k
use Rattle.text_tokens.specs.Kinds.{Text, same_kind}
use Rattle.text_tokens.specs.Words.{Word, Input, peek, next_word, is_nil}
use Rattle.loop_lang.specs.declared.stmt.Prog.{Prog}
use Rattle.reader_laws.specs.declared.fault.Fault.{Fault}
use Rattle.reader_laws.specs.declared.fault.Fault.TheVariants.{BadToken, BadSyntax}
use Rattle.reader_laws.specs.declared.fault.ReadError.{ReadError}
use Rattle.reader_laws.specs.declared.fault.ReadError.TheVariants.{Memory, Refused}
use Rattle.reader_laws.specs.Steps.{Outcome, Parser, ◌>>◌, finish, kind, misplaced, pure, refusal, to_end, unexpected, value_of}
use Rattle.reader_laws.specs.Grammar.{Stands}
use Rattle.reader_laws.proofs.Outcomes.{ahead, ok_value, then_ok}
use Rattle.reader_laws.proofs.Local.{Alike, Ends, Local, Nowhere, Seen, local_bind, local_pure, moved}
use Rattle.reader_laws.proofs.Lawful.{never}
use Rattle.c_words.specs.Words.{c_words}
use Rattle.c_text.specs.Statement.{CText, IsUnit}
use Rattle.c_read.specs.Refused.{IsRefusedAt}
use Rattle.c_read.specs.Units.{c_input, read_text, unit}
use Rattle.c_read.proofs.TextLaws.{unit_lawful}

local_finish : Local finish
unfolding finish refusal misplaced
local_finish i = go (is_nil i.words) refl
  where
    go : (v : Bool) → is_nil i.words ≡ v → Seen Nowhere finish i
    go true is = record { front = []; at = i; words = refl; ends = rw is refl; again = λ l h. rw (h.nil, is) refl }
    go false is = record {
      front = [];
      at = i;
      words = refl;
      ends = rw is (inr (inl refl));
      again = λ l h. rw (h.nil, is)
          (ap (λ (w : Word). let o : Outcome (Unit {0}) = Err (Refused (cond (same_kind w.kind k.Bad) BadToken BadSyntax) w.place) in o) h.word);
    }

local_end : Local (to_end unit)
local_end = local_bind Nowhere unit (λ x. finish >> pure x) unit_lawful.depends
    (λ x. local_bind Nowhere finish (λ _. pure x) local_finish (λ _. local_pure Nowhere x))

finish_end : (end : ℕ) → let i : Input = record { words = []; end = end } in finish i ≡ Ok (tt, i)
unfolding finish
finish_end end = refl

finish_ok : (i j : Input) (u : Unit {0}) → finish i ≡ Ok (u, j) → i.words ≡ []
unfolding finish
finish_ok i j u h = go i.words h
  where
    go : (ws : List Word) → cond (is_nil ws) (let o : Outcome (Unit {0}) = Ok (tt, i) in o) (unexpected i) ≡ Ok (u, j) → ws ≡ []
    go [] h = refl
    go (w ∷ ws) h = absurd cc

abbrev whole_value : Prog → Result Prog ReadError
whole_value x = Ok x

same_value : (x y : Prog) → whole_value x ≡ whole_value y → x ≡ y
same_value x y h = cc

value_ok : (r : Outcome Prog) (x : Prog) → value_of r ≡ Ok x → (j : Input) × (r ≡ Ok (x, j))
value_ok (Ok p) x h = (p.1, ap (λ (y : Prog). let o : Outcome Prog = Ok (y, p.1) in o) (same_value p.0 x h))
value_ok (Err e) x h = absurd cc

value_err : (r : Outcome Prog) (x : ReadError) → value_of r ≡ Err x → r ≡ Err x
value_err (Ok p) x h = absurd cc
value_err (Err y) x h = cc

both_ways : (r : Result Prog ReadError) (x : Prog) (y : ReadError) → r ≡ Ok x → r ≡ Err y → ⊥
both_ways r x y h g = cc

pub text_read : (z : Text) (p : Prog) → CText z p → read_text z ≡ Ok p
unfolding read_text
text_read z x is =
    let last : Input = record { words = []; end = length z } in
    let whole : c_input z ≡ ahead (c_words z) last = ap (λ (ws : List Word). let j : Input = record { words = ws; end = length z } in j)
    (sym (append-nil (c_words z))) in
    let all = unit_lawful.complete (c_words z) x last is refl in
    let over = finish_end (length z) in
    rw (whole, all, over) refl

pub text_found : (z : Text) (p : Prog) → read_text z ≡ Ok p → CText z p
unfolding read_text
text_found z x h =
    let i = c_input z in
    let r = value_ok (to_end unit i) x h in
    let a = then_ok (unit i) (λ y. finish >> pure y) x r.0 r.1 in
    let f = unit_lawful.sound i a.at a.value a.first in
    let over = then_ok (finish a.at) (λ _. pure a.value) x r.0 a.rest in
    let last = finish_ok a.at over.at over.value over.first in
    let words : c_words z ≡ f.front = ap (λ (m : Input). m.words) f.words ∙ ap (λ (ws : List Word). f.front ++ ws) last ∙ append-nil f.front in
    let is : CText z a.value = subst (λ (ws : List Word). IsUnit ws a.value) (sym words) f.is in
    subst (λ (y : Prog). CText z y) (ok_value a.value x over.at r.0 over.rest) is

-- a text stands for one program at most
pub text_alone : (z : Text) (p q : Prog) → CText z p → CText z q → p ≡ q
text_alone z p q h g = same_value p q (sym (text_read z p h) ∙ text_read z q g)

-- no place is told but those of the words that were read
told : (fault : Fault) (place : ℕ) (front : List Word) (at : Input) → Ends {A = Prog} Nowhere (Err (Refused fault place)) front at
    → Stands fault place front (peek at)
told fault place front at (inl h) = absurd h
told fault place front at (inr h) = h

pub text_refused : (z : Text) (fault : Fault) (place : ℕ) → read_text z ≡ Err (Refused fault place) → IsRefusedAt z fault place
unfolding read_text peek
text_refused z fault place h =
    let i = c_input z in
    let q : Parser Prog = to_end unit in
    let r = value_err (q i) (Refused fault place) h in
    let s = local_end i in
    let at_one : Stands fault place s.front (peek s.at) = told fault place s.front s.at (subst (λ (o : Outcome Prog). Ends Nowhere o s.front s.at) r s.ends) in
    let end_is : length z ≡ s.at.end = ap (λ (m : Input). m.end) s.words in
    record {
      front = s.front;
      rest = s.at.words;
      words = ap (λ (m : Input). m.words) s.words;
      at = subst (λ (n : ℕ). Stands fault place s.front (next_word n s.at.words)) (sym end_is) at_one;
      refused = λ other more is same nil x e.
          let m : Input = record { words = more; end = length other } in
          let like : Alike m s.at = record { word = same ∙ ap (λ (n : ℕ). next_word n s.at.words) end_is; nil = nil } in
          let whole : c_input other ≡ ahead s.front m = ap (λ (ws : List Word). let j : Input = record { words = ws; end = length other } in j) is in
          let bad : q (c_input other) ≡ Err (Refused fault place) = ap q whole ∙ s.again m like ∙ ap (λ (o : Outcome Prog). moved o m) r in
          both_ways (read_text other) x (Refused fault place) (text_read other x e) (ap value_of bad);
    }

-- want of memory is no answer of the reader itself
pub never_memory : (z : Text) → read_text z ≡ Err Memory → ⊥
unfolding read_text
never_memory z h =
    let r = value_err (to_end unit (c_input z)) Memory h in
    let s = local_end (c_input z) in
    subst (λ (o : Outcome Prog). Ends Nowhere o s.front s.at) r s.ends
