-- Outcomes, taken apart.
use Rattle.std.proofs.Common.{◌≡◌, ℕ, zero, suc, ◌<◌, Bool, true, false, List, [], ◌∷◌, ◌++◌, Ok, Err, refl, sym, ap, append_assoc, arith, rules}
use denote.Enum.Bare.{sameb, same_true, same_false}
use Rattle.text_tokens.specs.contracts.kind.Kind.{the_type}
use Rattle.text_tokens.specs.declared.kind.Kind.{Kind}
use Rattle.text_tokens.specs.declared.kind.Kind.TheVariants as k
use Rattle.text_tokens.specs.Kinds.{same_kind}
use Rattle.text_tokens.specs.Words.{Word, Input, peek, next, next_word, tail}
use Rattle.reader_laws.specs.Steps.{Parser, Outcome, and_then, kind, open_level}

abbrev pub ahead : List Word → Input → Input
ahead ws l = record l { words = ws ++ l.words }

pub ahead_append : (front more : List Word) (l : Input) → ahead front (ahead more l) ≡ ahead (front ++ more) l
ahead_append front more l = ap (λ (ws : List Word). let i : Input = record { words = ws; end = l.end } in i) (sym (append_assoc front more l.words))

pub record Then {A B : Type 0} (r : Outcome A) (f : A → Parser B) (y : B) (j : Input) : Type 0 where
  pub value : A
  pub at : Input
  pub first : r ≡ Ok (value, at)
  pub rest : f value at ≡ Ok (y, j)

pub then_ok : {A B : Type 0} (r : Outcome A) (f : A → Parser B) (y : B) (j : Input) → and_then r f ≡ Ok (y, j) → Then r f y j
then_ok (Ok p) f y j h = record { value = p.0; at = p.1; first = refl; rest = h }
then_ok (Err x) f y j h = absurd cc

abbrev pub done : {A : Type 0} → A → Input → Outcome A
done x i = Ok (x, i)

abbrev both : {A : Type 0} → A → Input → A × Input
both x i = (x, i)

ok_pair : {A : Type 0} (x y : A) (i j : Input) → done x i ≡ done y j → both x i ≡ both y j
ok_pair x y i j h = cc

pub ok_value : {A : Type 0} (x y : A) (i j : Input) → done x i ≡ done y j → x ≡ y
ok_value x y i j h = ap (λ (p : _). p.0) (ok_pair x y i j h)

pub ok_input : {A : Type 0} (x y : A) (i j : Input) → done x i ≡ done y j → i ≡ j
ok_input x y i j h = ap (λ (p : _). p.1) (ok_pair x y i j h)

taken_from : (end : ℕ) (ws : List Word) → ((next_word end ws).kind ≡ k.End → ⊥) → ws ≡ next_word end ws ∷ tail ws
taken_from end [] some = absurd (some refl)
taken_from end (w ∷ ws) some = refl

-- a word that is not the end is the first of the words
pub taken : (i : Input) → (kind i ≡ k.End → ⊥) → i ≡ ahead (peek i ∷ []) (next i)
unfolding peek next
taken i some = let l = taken_from i.end i.words some in ap (λ (ws : List Word). let j : Input = record { words = ws; end = i.end } in j) l

pub is_same : (a b : Kind) → same_kind a b ≡ true → a ≡ b
unfolding same_kind
is_same a b h = same_true the_type (search rules) a b h

pub same_self : (a : Kind) → same_kind a a ≡ true
unfolding same_kind
same_self a = go (sameb the_type a a) refl
  where
    go : (v : Bool) → sameb the_type a a ≡ v → sameb the_type a a ≡ true
    go true e = e
    go false e = absurd (same_false the_type a a e refl)

pub opened_ok : (levels : ℕ) (i j : Input) (u : Unit {0}) → open_level levels i ≡ Ok (u, j) → i ≡ j
opened_ok zero i j u h = absurd cc
opened_ok (suc levels) i j u h = ok_input tt u i j h

pub opened_some : (levels : ℕ) (i j : Input) (u : Unit {0}) → open_level levels i ≡ Ok (u, j) → 0 < levels
opened_some zero i j u h = absurd cc
opened_some (suc levels) i j u h = omega arith

pub open_some : (levels : ℕ) (i : Input) → 0 < levels → open_level levels i ≡ Ok (tt, i)
open_some zero i some = absurd (omega arith)
open_some (suc levels) i some = refl
