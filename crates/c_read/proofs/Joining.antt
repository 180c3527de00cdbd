-- Readers that judge what they have read, that choose by the next word, and that read one operator at most.
use Rattle.std.proofs.Common.{◌≡◌, inl, inr, ℕ, zero, suc, ◌<◌, Bool, true, false, List, []}
use Rattle.std.proofs.Common.{◌∷◌, ◌++◌, Option, Some, None, Result, Ok, Err, refl, sym, ap, subst, ◌∙◌}
use Rattle.text_tokens.specs.declared.kind.Kind.{Kind}
use Rattle.text_tokens.specs.declared.kind.Kind.TheVariants as k
use Rattle.text_tokens.specs.Words.{Word, Input, peek, next}
use Rattle.reader_laws.specs.declared.fault.Fault.{Fault}
use Rattle.reader_laws.specs.Steps.{Outcome, Parser, ◌>>=◌, ◌>>◌, and_then, kind, open_level, pure, take_word}
use Rattle.reader_laws.specs.Chain.{Links, go_on, joined}
use Rattle.reader_laws.specs.Grammar.{IsChain, IsOfJoining}
use Rattle.reader_laws.proofs.Outcomes.{ahead, done, ok_input, ok_value, open_some, opened_ok, opened_some, taken, then_ok}
use Rattle.reader_laws.proofs.Local.{AtWord, Local, LocalBut, LocalOn, Nowhere, local_back, local_bind}
use Rattle.reader_laws.proofs.Local.{local_peek, local_pure, on_bind, on_local, on_open, on_take, stronger, weaker}
use Rattle.reader_laws.proofs.Lawful.{Found, Lawful}
use Rattle.c_read.specs.Parts.{checked, optional}
use Rattle.c_read.specs.Rules.{Checked, Chosen}

-- every fault of a function is one of joining
abbrev pub Joining : {A B : Type 0} → (A → Result B Fault) → Type 0
Joining {A = A} f = (x : A) (fault : Fault) → f x ≡ Err fault → IsOfJoining fault

judged_ok : {B : Type 0} (w : Word) (r : Result B Fault) (i j : Input) (y : B) → joined w r pure i ≡ Ok (y, j) → (r ≡ Ok y) × (i ≡ j)
judged_ok w (Ok v) i j y h = (ap (λ (z : _). Ok z) (ok_value v y i j h), ok_input v y i j h)
judged_ok w (Err fault) i j y h = absurd cc

local_judged : {B : Type 0} (w : Word) (r : Result B Fault) → ((fault : Fault) → r ≡ Err fault → IsOfJoining fault) → LocalBut (AtWord w) (joined w r pure)
local_judged w (Ok x) joint = weaker (AtWord w) (pure x) (local_pure Nowhere x)
local_judged w (Err fault) joint = local_back (AtWord w) fault w.place (joint fault refl, refl)

module _ {A B : Type 0} (f : A → Result B Fault) (p : Parser A) (rule : List Word → A → Type 0) (goes_on : Kind → Bool) (joint : Joining f)
    (l : Lawful p rule goes_on) where
  checked_sound : (i j : Input) (y : B) → checked f p i ≡ Ok (y, j) → Found (Checked f rule) i y j
  checked_sound i j y h =
      let a = then_ok (p i) (λ x. joined (peek i) (f x) pure) y j h in
      let b = judged_ok (peek i) (f a.value) a.at j y a.rest in
      let one = l.sound i a.at a.value a.first in
      record { front = one.front; words = one.words ∙ ap (ahead one.front) b.1; is = (a.value, one.is, b.0) }

  checked_on : (w : Word) → LocalOn Nowhere w (p >>= (λ x. joined w (f x) pure))
  checked_on w = stronger w (p >>= (λ x. joined w (f x) pure))
      (on_local (AtWord w) w (p >>= (λ x. joined w (f x) pure))
      (local_bind (AtWord w) p (λ x. joined w (f x) pure) (weaker (AtWord w) p l.depends) (λ x. local_judged w (f x) (joint x))))

  pub lawful_checked : Lawful (checked f p) (Checked f rule) goes_on
  lawful_checked = record {
    sound = checked_sound;
    complete = λ ws y j is e.
        ap (λ r. and_then r (λ x. joined (peek (ahead ws j)) (f x) pure)) (l.complete ws is.0 j is.1 e)
        ∙ ap (λ r. joined (peek (ahead ws j)) r pure j) is.2;
    depends = local_peek Nowhere (λ w. p >>= (λ x. joined w (f x) pure)) checked_on;
  }

-- a rule for each form, which the next word tells
pub lawful_chosen : {F A : Type 0} (form_of : Word → F) (by : F → Parser A) (rules : F → List Word → A → Type 0) (goes_on : Kind → Bool)
    → ((form : F) → Lawful (by form) (rules form) goes_on)
    → ((form : F) (ws : List Word) (x : A) (j : Input) → rules form ws x → form_of (peek (ahead ws j)) ≡ form)
    → Lawful (λ i. by (form_of (peek i)) i) (Chosen rules) goes_on
lawful_chosen form_of by rules goes_on h starts = record {
  sound = λ i j x e. let f = (h (form_of (peek i))).sound i j x e in record { front = f.front; words = f.words; is = (form_of (peek i), f.is) };
  complete = λ front x j is stops.
      ap (λ form. by form (ahead front j)) (starts is.0 front x j is.1) ∙ (h is.0).complete front x j is.1 stops;
  depends = local_peek Nowhere (λ w. by (form_of w)) (λ w. on_local Nowhere w (by (form_of w)) (h (form_of w)).depends);
}

-- ---- one operator at most

module _ {A B O : Type 0} (links : Links A B O) (operand : O → Parser B) (operands : O → List Word → B → Type 0) (operand_goes_on goes_on : Kind → Bool)
    (no_end : (kd : Kind) (o : O) → links.operator kd ≡ Some o → kd ≡ k.End → ⊥)
    (stops : (kd : Kind) → goes_on kd ≡ false → (links.operator kd ≡ None) × (operand_goes_on kd ≡ false))
    (joint : (o : O) (a : A) → Joining (links.join o a))
    (h : (o : O) → Lawful (operand o) (operands o) operand_goes_on) where
  abbrev One : A → List Word → A → Type 0
  One = IsChain links (λ n a o. operands o) 1

  abbrev Turn : O → Parser B
  Turn o = open_level (links.room 0) >> (take_word >> operand o)

  abbrev Linked : Word → A → O → Parser A
  Linked w left o = Turn o >>= (λ right. joined w (links.join o left right) pure)

  optional_sound : (left : A) (i j : Input) (x : A) → optional links operand left i ≡ Ok (x, j) → Found (One left) i x j
  optional_sound left i j x e = go (links.operator (peek i).kind) refl e
    where
      go : (v : Option O) → links.operator (peek i).kind ≡ v → go_on v left (Linked (peek i) left) i ≡ Ok (x, j) → Found (One left) i x j
      go None is e = record { front = []; words = ok_input left x i j e; is = inl (refl, sym (ok_value left x i j e)) }
      go (Some o) is e =
          let c = then_ok (Turn o i) (λ y. joined (peek i) (links.join o left y) pure) x j e in
          let b = judged_ok (peek i) (links.join o left c.value) c.at j x c.rest in
          let a = then_ok (open_level (links.room 0) i) (λ _. take_word >> operand o) c.value c.at c.first in
          let same = opened_ok (links.room 0) i a.at a.value a.first in
          let f = (h o).sound (next a.at) c.at c.value a.rest in
          let begun : i ≡ ahead (peek i ∷ []) (next i) = taken i (no_end (peek i).kind o is) in
          record {
            front = peek i ∷ f.front ++ [];
            words = begun ∙ ap (λ (l : Input). ahead (peek i ∷ []) (next l)) same
                ∙ ap (ahead (peek i ∷ [])) (f.words ∙ ap (ahead f.front) b.1 ∙ ap (λ (ws : List Word). ahead ws j) (sym (append_none f.front)));
            is = inr (record {
              word = peek i;
              front = f.front;
              rest = [];
              sign = o;
              right = c.value;
              value = x;
              words = refl;
              is = is;
              room = opened_some (links.room 0) i a.at a.value a.first;
              is_operand = f.is;
              joins = b.0;
              is_rest = (refl, refl);
            });
          }
        where
          append_none : (ws : List Word) → ws ++ [] ≡ ws
          append_none [] = refl
          append_none (w ∷ ws) = ap (λ vs. w ∷ vs) (append_none ws)

  optional_complete : (left : A) (ws : List Word) (x : A) (j : Input) → One left ws x → goes_on (kind j) ≡ false
      → optional links operand left (ahead ws j) ≡ Ok (x, j)
  unfolding peek next
  optional_complete left ws x j (inl is) e =
      ap (λ (vs : List Word). optional links operand left (ahead vs j)) is.0
      ∙ ap (λ v. go_on v left (Linked (peek j) left) j) (stops (kind j) e).0
      ∙ ap (λ (y : A). done y j) (sym is.1)
  optional_complete left ws x j (inr is) e =
      let last : is.rest ≡ [] = is.is_rest.0 in
      let reads = (h is.sign).complete is.front is.right j is.is_operand (stops (kind j) e).1 in
      let whole : ahead ws j ≡ ahead (is.word ∷ is.front) j = ap (λ (vs : List Word). ahead vs j)
      (is.words ∙ ap (λ (vs : List Word). is.word ∷ is.front ++ vs) last ∙ ap (λ (vs : List Word). is.word ∷ vs) (append_nil is.front)) in
      let opens = open_some (links.room 0) (ahead (is.word ∷ is.front) j) is.room in
      ap (optional links operand left) whole ∙ one is.word is.front j is.sign is.right is.value is.is opens reads is.joins
      ∙ ap (λ (y : A). done y j) (sym is.is_rest.1)
    where
      append_nil : (ws : List Word) → ws ++ [] ≡ ws
      append_nil [] = refl
      append_nil (w ∷ ws) = ap (λ vs. w ∷ vs) (append_nil ws)

      one : (w : Word) (front : List Word) (j : Input) (o : O) (right : B) (value : A) → links.operator w.kind ≡ Some o
          → open_level (links.room 0) (ahead (w ∷ front) j) ≡ Ok (tt, ahead (w ∷ front) j)
          → operand o (ahead front j) ≡ Ok (right, j) → links.join o left right ≡ Ok value → optional links operand left (ahead (w ∷ front) j) ≡ Ok (value, j)
      one w front j o right value is opens reads joins = rw (is, opens, reads, joins) refl

  pub lawful_optional : (left : A) → Lawful (optional links operand left) (One left) goes_on
  lawful_optional left = record {
    sound = optional_sound left;
    complete = optional_complete left;
    depends = local_peek Nowhere (λ w. go_on (links.operator w.kind) left (Linked w left)) (λ w. go w (links.operator w.kind) refl);
  }
    where
      go : (w : Word) (v : Option O) → links.operator w.kind ≡ v → LocalOn Nowhere w (go_on v left (Linked w left))
      go w None is = on_local Nowhere w (pure left) (local_pure Nowhere left)
      go w (Some o) is =
          let rest : Parser B = take_word >> operand o in
          stronger w (Turn o >>= (λ y. joined w (links.join o left y) pure))
          (on_bind (AtWord w) w (Turn o) (λ y. joined w (links.join o left y) pure)
          (on_open (AtWord w) w (links.room 0) rest (on_bind (AtWord w) w take_word (λ _. operand o) (on_take (AtWord w) w (no_end w.kind o is))
          (λ _. weaker (AtWord w) (operand o) (h o).depends)))
          (λ y. local_judged w (links.join o left y) (joint o left y)))
