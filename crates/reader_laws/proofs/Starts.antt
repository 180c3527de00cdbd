-- A reader that begins with a word of one kind.
use Rattle.std.proofs.Common.{◌≡◌, ◌∷◌, ◌++◌, Bool, false, List, [], Result, Ok, refl, sym, ap, subst, ◌∙◌}
use Rattle.text_tokens.specs.declared.kind.Kind.{Kind}
use Rattle.text_tokens.specs.declared.kind.Kind.TheVariants as k
use Rattle.text_tokens.specs.Kinds.{Text}
use Rattle.text_tokens.specs.Words.{Word, Input, peek}
use Rattle.reader_laws.specs.declared.fault.Fault.{Fault}
use Rattle.reader_laws.specs.Steps.{Parser, ◌>>=◌, kind, a_word}
use Rattle.reader_laws.specs.Grammar.{IsWordOf, IsNothing, OneOf, Both, BeginsWith, Starting}
use Rattle.reader_laws.proofs.Outcomes.{ahead}
use Rattle.reader_laws.proofs.Local.{LocalOn, Nowhere, local_peek, on_local}
use Rattle.reader_laws.proofs.Lawful.{Lawful, Found, never, lawful_both, lawful_word}

-- a word, and what follows
pub word_then : {A B : Type 0} (a : Kind) (reads : Text → Result A Fault) (f : A → Parser B) (then : A → List Word → B → Type 0) (goes_on : Kind → Bool)
    → (a ≡ k.End → ⊥) → ((x : A) → Lawful (f x) (then x) goes_on)
    → Lawful (a_word a reads >>= f) (Both (IsWordOf a reads) then) goes_on
word_then a reads f then goes_on some h = lawful_both (a_word a reads) f (IsWordOf a reads) then never goes_on (lawful_word a reads some) h
    (λ u ws y j is e. refl)

-- the kind of the first word
pub word_starts : {A : Type 0} (a : Kind) (reads : Text → Result A Fault) (ws : List Word) (x : A) (j : Input) → IsWordOf a reads ws x → kind (ahead ws j) ≡ a
unfolding peek
word_starts a reads ws x j is = ap (λ (vs : List Word). kind (ahead vs j)) is.words ∙ is.is

pub both_starts : {A B : Type 0} (a : Kind) (reads : Text → Result A Fault) (then : A → List Word → B → Type 0) (ws : List Word) (y : B) (j : Input)
    → Both (IsWordOf a reads) then ws y → kind (ahead ws j) ≡ a
unfolding peek
both_starts a reads then ws y j is = ap (λ (vs : List Word). kind (ahead vs j)) (is.words ∙ ap (λ (vs : List Word). vs ++ is.rest) is.is_first.words)
    ∙ is.is_first.is

-- lawful where the next word is of this kind, of which the rule's first word is
pub record LawfulAt {A : Type 0} (kd : Kind) (p : Parser A) (rule : List Word → A → Type 0) (goes_on : Kind → Bool) : Type 0 where
  pub sound : (i j : Input) (x : A) → kind i ≡ kd → p i ≡ Ok (x, j) → Found rule i x j
  pub complete : (front : List Word) (x : A) (j : Input) → rule front x → goes_on (kind j) ≡ false → p (ahead front j) ≡ Ok (x, j)
  pub depends : (w : Word) → LocalOn Nowhere w p
  pub starts : (ws : List Word) (x : A) (j : Input) → rule ws x → kind (ahead ws j) ≡ kd

pub lawful_choice_at : {A : Type 0} (by : Kind → Parser A) (rules : Kind → List Word → A → Type 0) (goes_on : Kind → Bool)
    → ((kd : Kind) → LawfulAt kd (by kd) (rules kd) goes_on) → Lawful (λ i. by (kind i) i) (OneOf rules) goes_on
lawful_choice_at by rules goes_on h = record {
  sound = λ i j x e. let f = (h (kind i)).sound i j x refl e in record { front = f.front; words = f.words; is = (kind i, f.is) };
  complete = λ front x j is stops.
      ap (λ (kd : Kind). by kd (ahead front j)) ((h is.0).starts front x j is.1) ∙ (h is.0).complete front x j is.1 stops;
  depends = local_peek Nowhere (λ w. by w.kind) (λ w. (h w.kind).depends w);
}

pub at_first : {A : Type 0} (kd : Kind) (p : Parser A) (rule : List Word → A → Type 0) (goes_on : Kind → Bool)
    → ((ws : List Word) (x : A) (j : Input) → rule ws x → kind (ahead ws j) ≡ kd) → Lawful p rule goes_on → LawfulAt kd p rule goes_on
at_first kd p rule goes_on starts l = record {
  sound = λ i j x is e. l.sound i j x e;
  complete = l.complete;
  depends = λ w. on_local Nowhere w p l.depends;
  starts = starts;
}

begins : (kd : Kind) (front : List Word) (i j : Input) → (front ≡ [] → ⊥) → kind i ≡ kd → i ≡ ahead front j → BeginsWith kd front
unfolding peek
begins kd [] i j some is h = absurd (some refl)
begins kd (w ∷ ws) i j some is h = ap kind (sym h) ∙ is

begun : (kd : Kind) (ws : List Word) (j : Input) → BeginsWith kd ws → kind (ahead ws j) ≡ kd
unfolding peek
begun kd [] j h = absurd h
begun kd (w ∷ ws) j h = h

-- any other rule, which takes a word
pub at_kind : {A : Type 0} (kd : Kind) (p : Parser A) (rule : List Word → A → Type 0) (goes_on : Kind → Bool)
    → ((ws : List Word) (x : A) → rule ws x → ws ≡ [] → ⊥) → Lawful p rule goes_on → LawfulAt kd p (Starting kd rule) goes_on
at_kind kd p rule goes_on some l = record {
  sound = λ i j x is e.
      let f = l.sound i j x e in
      record { front = f.front; words = f.words; is = (f.is, begins kd f.front i j (some f.front x f.is) is f.words) };
  complete = λ front x j is stops. l.complete front x j is.0 stops;
  depends = λ w. on_local Nowhere w p l.depends;
  starts = λ ws x j is. begun kd ws j is.1;
}

-- nothing follows
pub nothing_frees : {A : Type 0} (a : A) (more : Kind → Bool) (ws : List Word) (x : A) (j : Input) → IsNothing a ws x → more (kind j) ≡ false
    → more (kind (ahead ws j)) ≡ false
nothing_frees a more ws x j is e = subst (λ (vs : List Word). more (kind (ahead vs j)) ≡ false) (sym is.0) e
