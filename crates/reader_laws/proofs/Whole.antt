-- A whole text: what is read is in the rule, the other way round, and where a fault stands.
use Rattle.std.proofs.Common.{◌≡◌, inl, inr, ℕ, Bool, true, false, cond, List, [], ◌∷◌, ◌++◌, length, Result, Ok, Err, refl, sym, ap, subst, ◌∙◌, append-nil}
use Rattle.text_tokens.specs.declared.kind.Kind.{Kind}
use Rattle.text_tokens.specs.declared.kind.Language.{Language}
use Rattle.text_tokens.specs.declared.kind.Kind.TheVariants as k
use Rattle.text_tokens.specs.Kinds.{Text, same_kind}
use Rattle.text_tokens.specs.Words.{Word, Input, input, words_of, peek, next_word, is_nil}
use Rattle.reader_laws.specs.declared.fault.Fault.{Fault}
use Rattle.reader_laws.specs.declared.fault.Fault.TheVariants.{BadToken, BadSyntax}
use Rattle.reader_laws.specs.declared.fault.ReadError.{ReadError}
use Rattle.reader_laws.specs.declared.fault.ReadError.TheVariants.{Memory, Refused}
use Rattle.reader_laws.specs.Steps.{Outcome, Parser, ◌>>◌, pure, unexpected, refusal, misplaced, kind, finish, value_of, to_end, read_whole}
use Rattle.reader_laws.specs.Grammar.{Stands, IsRefused, IsRefusedAt}
use Rattle.reader_laws.proofs.Outcomes.{ahead, then_ok, ok_value}
use Rattle.reader_laws.proofs.Local.{Alike, Ends, moved, Local, Nowhere, Seen, local_bind, local_pure}
use Rattle.reader_laws.proofs.Lawful.{Lawful}

local_finish : Local finish
unfolding finish refusal misplaced
local_finish i = go (is_nil i.words) refl
  where
    go : (v : Bool) → is_nil i.words ≡ v → Seen Nowhere finish i
    go true is = record { front = []; at = i; words = refl; ends = rw is refl; again = λ l h. rw (h.nil, is) refl }
    go false is = record {
      front = [];
      at = i;
      words = refl;
      ends = rw is (inr (inl refl));
      again = λ l h. rw (h.nil, is)
          (ap (λ (w : Word). let o : Outcome (Unit {0}) = Err (Refused (cond (same_kind w.kind k.Bad) BadToken BadSyntax) w.place) in o) h.word);
    }

local_end : {A : Type 0} (p : Parser A) → Local p → Local (to_end p)
local_end p h = local_bind Nowhere p (λ x. finish >> pure x) h (λ x. local_bind Nowhere finish (λ _. pure x) local_finish (λ _. local_pure Nowhere x))

finish_end : (end : ℕ) → let i : Input = record { words = []; end = end } in finish i ≡ Ok (tt, i)
unfolding finish
finish_end end = refl

kind_end : (end : ℕ) → let i : Input = record { words = []; end = end } in kind i ≡ k.End
unfolding peek
kind_end end = refl

finish_ok : (i j : Input) (u : Unit {0}) → finish i ≡ Ok (u, j) → i.words ≡ []
unfolding finish
finish_ok i j u h = go i.words h
  where
    go : (ws : List Word) → cond (is_nil ws) (let o : Outcome (Unit {0}) = Ok (tt, i) in o) (unexpected i) ≡ Ok (u, j) → ws ≡ []
    go [] h = refl
    go (w ∷ ws) h = absurd cc

module _ {A : Type 0} (language : Language) (p : Parser A) (rule : List Word → A → Type 0) (goes_on : Kind → Bool) (l : Lawful p rule goes_on)
    (ends : goes_on k.End ≡ false) where
  abbrev whole_value : A → Result A ReadError
  whole_value x = Ok x

  same_value : (x y : A) → whole_value x ≡ whole_value y → x ≡ y
  same_value x y h = cc

  value_ok : (r : Outcome A) (x : A) → value_of r ≡ Ok x → (j : Input) × (r ≡ Ok (x, j))
  value_ok (Ok p) x h = (p.1, ap (λ (y : A). let o : Outcome A = Ok (y, p.1) in o) (same_value p.0 x h))
  value_ok (Err e) x h = absurd cc

  value_err : (r : Outcome A) (x : ReadError) → value_of r ≡ Err x → r ≡ Err x
  value_err (Ok p) x h = absurd cc
  value_err (Err y) x h = cc

  both_ways : (r : Result A ReadError) (x : A) (y : ReadError) → r ≡ Ok x → r ≡ Err y → ⊥
  both_ways r x y h g = cc

  pub whole_read : (z : Text) (x : A) → rule (words_of language z) x → read_whole language p z ≡ Ok x
  unfolding read_whole
  whole_read z x is =
      let last : Input = record { words = []; end = length z } in
      let whole : input language z ≡ ahead (words_of language z) last = ap (λ (ws : List Word). let j : Input = record { words = ws; end = length z } in j)
      (sym (append-nil (words_of language z))) in
      let stops : goes_on (kind last) ≡ false = ap goes_on (kind_end (length z)) ∙ ends in
      let all = l.complete (words_of language z) x last is stops in
      let over = finish_end (length z) in
      rw (whole, all, over) refl

  pub whole_found : (z : Text) (x : A) → read_whole language p z ≡ Ok x → rule (words_of language z) x
  unfolding read_whole
  whole_found z x h =
      let i = input language z in
      let r = value_ok (to_end p i) x h in
      let a = then_ok (p i) (λ y. finish >> pure y) x r.0 r.1 in
      let f = l.sound i a.at a.value a.first in
      let over = then_ok (finish a.at) (λ _. pure a.value) x r.0 a.rest in
      let last = finish_ok a.at over.at over.value over.first in
      let words : words_of language z ≡ f.front = ap (λ (m : Input). m.words) f.words ∙ ap (λ (ws : List Word). f.front ++ ws) last ∙ append-nil f.front in
      let is : rule (words_of language z) a.value = subst (λ (ws : List Word). rule ws a.value) (sym words) f.is in
      subst (λ (y : A). rule (words_of language z) y) (ok_value a.value x over.at r.0 over.rest) is

  -- no place is told but those of the words that were read
  told : (fault : Fault) (place : ℕ) (front : List Word) (at : Input) → Ends {A = A} Nowhere (Err (Refused fault place)) front at
      → Stands fault place front (peek at)
  told fault place front at (inl h) = absurd h
  told fault place front at (inr h) = h

  refused_at : (z : Text) (fault : Fault) (place : ℕ) → read_whole language p z ≡ Err (Refused fault place) → IsRefusedAt language rule z fault place
  unfolding read_whole peek
  refused_at z fault place h =
      let i = input language z in
      let q : Parser A = to_end p in
      let r = value_err (q i) (Refused fault place) h in
      let s = local_end p l.depends i in
      let at_one : Stands fault place s.front (peek s.at) = told fault place s.front s.at (subst (λ (o : Outcome A). Ends Nowhere o s.front s.at) r s.ends) in
      let end_is : length z ≡ s.at.end = ap (λ (m : Input). m.end) s.words in
      record {
        front = s.front;
        rest = s.at.words;
        words = ap (λ (m : Input). m.words) s.words;
        at = subst (λ (n : ℕ). Stands fault place s.front (next_word n s.at.words)) (sym end_is) at_one;
        refused = λ other more is same nil x e.
            let m : Input = record { words = more; end = length other } in
            let like : Alike m s.at = record { word = same ∙ ap (λ (n : ℕ). next_word n s.at.words) end_is; nil = nil } in
            let whole : input language other ≡ ahead s.front m = ap (λ (ws : List Word). let j : Input = record { words = ws; end = length other } in j) is in
            let bad : q (input language other) ≡ Err (Refused fault place) = ap q whole ∙ s.again m like ∙ ap (λ (o : Outcome A). moved o m) r in
            both_ways (read_whole language p other) x (Refused fault place) (whole_read other x e) (ap value_of bad);
      }

  pub whole_refused : (z : Text) (x : ReadError) → read_whole language p z ≡ Err x → IsRefused language rule z x
  whole_refused z Memory h = tt
  whole_refused z (Refused fault place) h = refused_at z fault place h
