-- What goes on, and what is free to follow: rules that end where others begin.
use Rattle.std.proofs.Common.{◌≡◌, ℕ, ◌||◌, Bool, true, false, List, Result, refl, sym, ap, ◌∙◌}
use Rattle.text_tokens.specs.declared.kind.Kind.{Kind}
use Rattle.text_tokens.specs.declared.kind.Kind.TheVariants as k
use Rattle.text_tokens.specs.Kinds.{Text, same_kind}
use Rattle.text_tokens.specs.Words.{Word, Input}
use Rattle.reader_laws.specs.declared.fault.Fault.{Fault}
use Rattle.reader_laws.specs.Steps.{Parser, ◌>>=◌, kind, a_word, no_value}
use Rattle.reader_laws.specs.Grammar.{IsWordOf, IsNothing, Both, IsRepeated}
use Rattle.reader_laws.proofs.Outcomes.{ahead, ahead_append, is_same}
use Rattle.reader_laws.proofs.Lawful.{Lawful, Frees, lawful_both}
use Rattle.reader_laws.proofs.Repeated.{repeated_first}
use Rattle.reader_laws.proofs.Starts.{both_starts, word_then, nothing_frees}

-- goes on with a word of this kind alone
abbrev pub goes_with : Kind → Kind → Bool
goes_with a kd = same_kind kd a

-- goes on with a word of this kind, or as this does
abbrev pub or_with : Kind → (Kind → Bool) → Kind → Bool
or_with a goes_on kd = same_kind kd a || goes_on kd

pub differs : (a b : Kind) → (a ≡ b → ⊥) → same_kind a b ≡ false
differs a b other = go (same_kind a b) refl
  where
    go : (v : Bool) → same_kind a b ≡ v → same_kind a b ≡ false
    go true e = absurd (other (is_same a b e))
    go false e = e

pub first_false : (a b : Bool) → (a || b) ≡ false → a ≡ false
first_false true b h = absurd cc
first_false false b h = refl

pub second_false : (a b : Bool) → (a || b) ≡ false → b ≡ false
second_false true b h = absurd cc
second_false false b h = h

pub both_false : (a b : Bool) → a ≡ false → b ≡ false → (a || b) ≡ false
both_false true b h e = absurd cc
both_false false b h e = e

pub frees_word : {A B C : Type 0} (a : Kind) (reads : Text → Result C Fault) (then : A → C → List Word → B → Type 0) (f g : Kind → Bool) → f a ≡ false
    → Frees (λ x. Both (IsWordOf a reads) (then x)) f g
frees_word a reads then f g ends x ws y j is e = ap f (both_starts a reads (then x) ws y j is) ∙ ends

pub frees_nothing : {A B : Type 0} (v : A → B) (f g : Kind → Bool) → ((kd : Kind) → g kd ≡ false → f kd ≡ false) → Frees (λ x. IsNothing (v x)) f g
frees_nothing v f g less x ws y j is e = nothing_frees (v x) f ws y j is (less (kind j) e)

pub frees_repeated : {A B C : Type 0} (a : Kind) (add : B → C → B) (rule : B → List Word → C → Type 0) (n : ℕ) (left : A → B) (f : Kind → Bool) → f a ≡ false
    → Frees (λ x. IsRepeated a add rule n (left x)) f f
frees_repeated a add rule n left f ends x ws y j is e = repeated_first a add rule f ends n (left x) ws y j is e

pub frees_both : {A B C : Type 0} (first : A → List Word → B → Type 0) (then : A → B → List Word → C → Type 0) (f m g : Kind → Bool) → Frees first f m
    → ((x : A) → Frees (then x) m g) → Frees (λ x. Both (first x) (then x)) f g
frees_both first then f m g one two x ws y j is e =
    ap (λ (l : Input). f (kind l)) (ap (λ (vs : List Word). ahead vs j) is.words ∙ sym (ahead_append is.front is.rest j))
    ∙ one x is.front is.value (ahead is.rest j) is.is_first (two x is.value is.rest y j is.is_then e)

-- what stands before a word of one kind, and what follows that word
pub before_word : {A B : Type 0} (a : Kind) (p : Parser A) (f : A → Parser B) (rule : List Word → A → Type 0) (then : A → List Word → B → Type 0)
    (more goes_on : Kind → Bool) → (a ≡ k.End → ⊥) → more a ≡ false
    → Lawful p rule more → ((x : A) → Lawful (f x) (then x) goes_on)
    → Lawful (p >>= λ x. (a_word a no_value >>= λ _. f x)) (Both rule (λ x. Both (IsWordOf a no_value) (λ _. then x))) goes_on
before_word a p f rule then more goes_on some ends l h =
    lawful_both p (λ x. a_word a no_value >>= λ _. f x) rule (λ x. Both (IsWordOf a no_value) (λ _. then x)) more goes_on l
    (λ x. word_then a no_value (λ _. f x) (λ _. then x) goes_on some (λ _. h x))
    (frees_word a no_value (λ x _. then x) more goes_on ends)
