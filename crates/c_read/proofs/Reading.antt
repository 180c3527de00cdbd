-- Readers of the rules that C needs besides, put together from lawful parts.
use Rattle.std.proofs.Common.{◌≡◌, ℕ, append_assoc, Bool, true, false, if◌then◌else◌, List, [], ◌∷◌, ◌++◌, Result, Ok, Err, refl, sym, ap, subst, ◌∙◌}
use Rattle.std.specs.Str.{bytes_eq}
use Rattle.std.proofs.lemmas.Slice.Eq.{bytes_eq-Decides}
use Rattle.text_tokens.specs.declared.kind.Kind.{Kind}
use Rattle.text_tokens.specs.declared.kind.Kind.TheVariants as k
use Rattle.text_tokens.specs.Kinds.{Text}
use Rattle.text_tokens.specs.Words.{Word, Input, peek}
use Rattle.reader_laws.specs.declared.fault.Fault.{Fault}
use Rattle.reader_laws.specs.declared.fault.Fault.TheVariants.{BadSyntax}
use Rattle.reader_laws.specs.Steps.{Parser, ◌>>=◌, ◌>>◌, a_word, kind, open_level, pure}
use Rattle.reader_laws.specs.Grammar.{Both, IsNothing, IsWordOf, Opened}
use Rattle.reader_laws.proofs.Outcomes.{ahead, ahead_append}
use Rattle.reader_laws.proofs.Lawful.{Lawful, lawful_as, lawful_both, lawful_open, lawful_pure, lawful_word, never}
use Rattle.text_tokens.specs.Spelled.{Token, token_of, tokens_of}
use Rattle.c_text.specs.Rules.{Around, Fixed, IsToken, Made}
use Rattle.c_read.specs.Parts.{around, exactly, expect_all, opened, spelled}
use Rattle.c_text.proofs.Pieces.{cut, heads, tails, none}
use Rattle.c_text.proofs.RulesSay.{append-nil}

abbrev pub NoEnd : List Token → Type 0
NoEnd [] = Unit {0}
NoEnd (t ∷ ts) = (t.kind ≡ k.End → ⊥) × NoEnd ts

spelled-is : (t u : Text) (x : Unit {0}) → spelled t u ≡ Ok x → u ≡ t
spelled-is t u x h = by (bytes_eq u t) refl h
  where
    by : (b : Bool) → bytes_eq u t ≡ b → (if b then Ok tt else Err BadSyntax) ≡ Ok x → u ≡ t
    by true e h = (bytes_eq-Decides u t).0 e
    by false e h = absurd (cc)

spelled-same : (t : Text) → spelled t t ≡ Ok tt
spelled-same t = (λ j. if (bytes_eq-Decides t t).1 refl j then Ok tt else Err BadSyntax)

word-fixed : (t : Token) (ws : List Word) (x : Unit {0}) → IsWordOf t.kind (spelled t.text) ws x → Fixed (t ∷ []) tt ws x
word-fixed t ws x h =
    let s = spelled-is t.text h.word.text x h.reads_as in
    let same : token_of h.word ≡ t = λ j. record { kind = h.is j; text = s j } in
    (ap tokens_of h.words ∙ ap (λ u. u ∷ []) same, refl)

fixed-word : (t : Token) (ws : List Word) (x : Unit {0}) → Fixed (t ∷ []) tt ws x → IsWordOf t.kind (spelled t.text) ws x
fixed-word t [] x h = absurd (let e = h.0 in cc)
fixed-word t (w ∷ []) x h =
    let same = heads (token_of w) t [] [] h.0 in
    record { word = w; is = ap (λ (u : Token). u.kind) same; reads_as = ap (λ (u : Token). spelled t.text u.text) same ∙ spelled-same t.text; words = refl }
fixed-word t (w ∷ v ∷ vs) x h = absurd (let bad = tails (token_of w) t (tokens_of (v ∷ vs)) [] h.0 in cc)

pub lawful_exactly : (t : Token) → (t.kind ≡ k.End → ⊥) → Lawful (exactly t) (Fixed (t ∷ []) tt) never
lawful_exactly t some = lawful_as (exactly t) (IsWordOf t.kind (spelled t.text)) (Fixed (t ∷ []) tt) never (word-fixed t) (fixed-word t)
    (lawful_word t.kind (spelled t.text) some)

pub tokens-append : (ws vs : List Word) → tokens_of (ws ++ vs) ≡ tokens_of ws ++ tokens_of vs
tokens-append [] vs = refl
tokens-append (w ∷ ws) vs = ap (λ ts. token_of w ∷ ts) (tokens-append ws vs)

-- these tokens are read, one after another
pub lawful_fixed : (ts : List Token) → NoEnd ts → Lawful (expect_all ts) (Fixed ts tt) never
lawful_fixed [] some = lawful_as (pure tt) (IsNothing tt) (Fixed [] tt) never (λ ws x h. (ap tokens_of h.0, h.1)) (λ ws x h. (none ws h.0, h.1))
    (lawful_pure tt never)
lawful_fixed (t ∷ ts) some =
    lawful_as (expect_all (t ∷ ts)) (Both (Fixed (t ∷ []) tt) (λ u. Fixed ts tt)) (Fixed (t ∷ ts) tt) never
    (λ ws x h. (ap tokens_of h.words ∙ tokens-append h.front h.rest ∙ (λ j. h.is_first.0 j ++ h.is_then.0 j), h.is_then.1))
    (λ ws x h. let c = cut ws (t ∷ []) ts h.0
    in record { value = tt; front = c.front; rest = c.rest; words = c.words; is_first = (c.is_front, refl); is_then = (c.is_rest, h.1) })
    (lawful_both (exactly t) (λ u. expect_all ts) (Fixed (t ∷ []) tt) (λ u. Fixed ts tt) never never (lawful_exactly t some.0) (λ u. lawful_fixed ts some.1)
    (λ x rest y j h e. refl))

first-kind : (t : Token) (ts : List Token) (ws : List Word) (j : Input) → tokens_of ws ≡ t ∷ ts → kind (ahead ws j) ≡ t.kind
unfolding peek
first-kind t ts [] j h = absurd (cc)
first-kind t ts (w ∷ ws) j h = ap (λ (u : Token). u.kind) (heads (token_of w) t (tokens_of ws) ts h)

module _ {A : Type 0} (before : List Token) (t : Token) (ts : List Token) (p : Parser A) (rule : List Word → A → Type 0) where
  abbrev Closing : A → List Word → A → Type 0
  Closing x = Both (Fixed (t ∷ ts) (tt {0})) (λ v. IsNothing x)

  abbrev Inner : List Word → A → Type 0
  Inner = Both rule Closing

  closing-tokens : (x y : A) (ws : List Word) → Closing x ws y → tokens_of ws ≡ t ∷ ts
  closing-tokens x y ws q = ap tokens_of q.words ∙ tokens-append q.front q.rest ∙ (λ j. q.is_first.0 j ++ tokens_of (q.is_then.0 j)) ∙ append-nil (t ∷ ts)

  to-around : (ws : List Word) (x : A) → Both (Fixed before (tt {0})) (λ u. Inner) ws x → Around before (t ∷ ts) rule ws x
  to-around ws x h =
      let r = h.is_then in
      let q = r.is_then in
      record {
        front = h.front;
        inside = r.front;
        rest = r.rest;
        words = h.words ∙ ap (λ us. h.front ++ us) r.words;
        is_front = h.is_first.0;
        is_inside = subst (rule r.front) (sym q.is_then.1) r.is_first;
        is_rest = closing-tokens r.value x r.rest q;
      }

  from-around : (ws : List Word) (x : A) → Around before (t ∷ ts) rule ws x → Both (Fixed before (tt {0})) (λ u. Inner) ws x
  from-around ws x h = record {
    value = tt;
    front = h.front;
    rest = h.inside ++ h.rest;
    words = h.words;
    is_first = (h.is_front, refl);
    is_then = record {
      value = x;
      front = h.inside;
      rest = h.rest;
      words = refl;
      is_first = h.is_inside;
      is_then = record { value = tt; front = h.rest; rest = []; words = sym (append-nil h.rest); is_first = (h.is_rest, refl); is_then = (refl, refl) };
    };
  }

  -- what a rule says between tokens, where what ends it does not go on with it
  pub lawful_around : (goes_on : Kind → Bool) → NoEnd before → NoEnd (t ∷ ts) → goes_on t.kind ≡ false → Lawful p rule goes_on
      → Lawful (around before (t ∷ ts) p) (Around before (t ∷ ts) rule) never
  lawful_around goes_on some end stops l =
      lawful_as _ (Both (Fixed before (tt {0})) (λ u. Inner)) (Around before (t ∷ ts) rule) never to-around from-around
      (lawful_both (expect_all before) (λ u. p >>= (λ x. expect_all (t ∷ ts) >>= (λ v. pure x))) (Fixed before (tt {0}))
      (λ u. Inner) never never (lawful_fixed before some) (λ u.
      lawful_both p (λ x. expect_all (t ∷ ts) >>= (λ v. pure x)) rule Closing goes_on never l (λ x.
      lawful_both (expect_all (t ∷ ts)) (λ v. pure x) (Fixed (t ∷ ts) (tt {0})) (λ v. IsNothing x) never never (lawful_fixed (t ∷ ts) end)
      (λ v. lawful_pure x never) (λ v rest y j h e. refl))
      (λ x rest y j h e. ap goes_on (first-kind t ts rest j (closing-tokens x y rest h)) ∙ stops)) (λ u rest y j h e. refl))

-- what a function makes of what was read
pub lawful_made : {A B : Type 0} (make : A → B) (p : Parser A) (rule : List Word → A → Type 0) (goes_on : Kind → Bool) → Lawful p rule goes_on
    → Lawful (p >>= (λ x. pure (make x))) (Made make rule) goes_on
lawful_made make p rule goes_on l =
    lawful_as _ (Both rule (λ x. IsNothing (make x))) (Made make rule) goes_on
    (λ ws y h. record {
      of = h.value;
      is = subst (λ us. rule us h.value) (sym (h.words ∙ (λ j. h.front ++ h.is_then.0 j) ∙ append-nil h.front)) h.is_first;
      makes = h.is_then.1;
    })
    (λ ws y h. record { value = h.of; front = ws; rest = []; words = sym (append-nil ws); is_first = h.is; is_then = (refl, h.makes) })
    (lawful_both p (λ x. pure (make x)) rule (λ x. IsNothing (make x)) goes_on goes_on l (λ x. lawful_pure (make x) goes_on)
    (λ x rest y j h e. ap (λ (us : List Word). goes_on (kind (ahead us j))) h.0 ∙ e))

-- what a rule says between tokens, of which those behind the first ones begin with one that opens a level
module _ {A : Type 0} (levels : ℕ) (front before : List Token) (t : Token) (ts : List Token) (p : Parser A) (rule : List Word → A → Type 0) where
  abbrev Deep : List Word → A → Type 0
  Deep = Opened levels (Around (front ++ before) (t ∷ ts) rule)

  abbrev Pieces : List Word → A → Type 0
  Pieces = Both (Fixed front (tt {0})) (λ u. Opened levels (Around before (t ∷ ts) rule))

  to-deep : (ws : List Word) (x : A) → Pieces ws x → Deep ws x
  to-deep ws x h =
      let r = h.is_then.1 in (
        h.is_then.0,
        record {
          front = h.front ++ r.front;
          inside = r.inside;
          rest = r.rest;
          words = h.words ∙ ap (λ us. h.front ++ us) r.words ∙ sym (append_assoc h.front r.front (r.inside ++ r.rest));
          is_front = tokens-append h.front r.front ∙ (λ j. h.is_first.0 j ++ r.is_front j);
          is_inside = r.is_inside;
          is_rest = r.is_rest;
        },
      )

  from-deep : (ws : List Word) (x : A) → Deep ws x → Pieces ws x
  from-deep ws x h =
      let r = h.1 in
      let c = cut r.front front before r.is_front in
      record {
        value = tt;
        front = c.front;
        rest = c.rest ++ (r.inside ++ r.rest);
        words = r.words ∙ ap (λ us. us ++ (r.inside ++ r.rest)) c.words ∙ append_assoc c.front c.rest (r.inside ++ r.rest);
        is_first = (c.is_front, refl);
        is_then = (
          h.0,
          record {
            front = c.rest;
            inside = r.inside;
            rest = r.rest;
            words = refl;
            is_front = c.is_rest;
            is_inside = r.is_inside;
            is_rest = r.is_rest;
          },
        );
      }

  pub lawful_opened : (goes_on : Kind → Bool) → NoEnd front → NoEnd before → NoEnd (t ∷ ts) → goes_on t.kind ≡ false → Lawful p rule goes_on
      → Lawful (opened levels front before (t ∷ ts) p) Deep never
  lawful_opened goes_on a b c stops l =
      lawful_as _ Pieces Deep never to-deep from-deep
      (lawful_both (expect_all front) (λ u. open_level levels >> around before (t ∷ ts) p) (Fixed front (tt {0}))
      (λ u. Opened levels (Around before (t ∷ ts) rule)) never never (lawful_fixed front a)
      (λ u. lawful_open levels (around before (t ∷ ts) p) (Around before (t ∷ ts) rule) never (lawful_around before t ts p rule goes_on b c stops l))
      (λ u rest y j h e. refl))

-- what a rule says behind tokens
module _ {A : Type 0} (before : List Token) (p : Parser A) (rule : List Word → A → Type 0) (goes_on : Kind → Bool) where
  pub lawful_behind : NoEnd before → Lawful p rule goes_on → Lawful (expect_all before >>= (λ u. p)) (Around before [] rule) goes_on
  lawful_behind some l =
      lawful_as _ (Both (Fixed before (tt {0})) (λ u. rule)) (Around before [] rule) goes_on
      (λ ws x h. record {
        front = h.front;
        inside = h.rest;
        rest = [];
        words = h.words ∙ ap (λ us. h.front ++ us) (sym (append-nil h.rest));
        is_front = h.is_first.0;
        is_inside = h.is_then;
        is_rest = refl;
      })
      (λ ws x h. record {
        value = tt;
        front = h.front;
        rest = h.inside;
        words = h.words ∙ ap (λ us. h.front ++ us) (ap (λ us. h.inside ++ us) (none h.rest h.is_rest) ∙ append-nil h.inside);
        is_first = (h.is_front, refl);
        is_then = h.is_inside;
      })
      (lawful_both (expect_all before) (λ u. p) (Fixed before (tt {0})) (λ u. rule) never goes_on (lawful_fixed before some) (λ u. l) (λ u rest y j h e. refl))

-- ---- the first word of what begins with a token

pub first_token : (t : Token) (ts : List Token) (ws : List Word) (j : Input) → tokens_of ws ≡ t ∷ ts → token_of (peek (ahead ws j)) ≡ t
unfolding peek
first_token t ts [] j h = absurd (cc)
first_token t ts (w ∷ ws) j h = heads (token_of w) t (tokens_of ws) ts h

pub first_ahead : (front rest : List Word) (j : Input) → peek (ahead (front ++ rest) j) ≡ peek (ahead front (ahead rest j))
first_ahead front rest j = ap peek (sym (ahead_append front rest j))

pub around_first : {A : Type 0} (t : Token) (before after : List Token) (rule : List Word → A → Type 0) (ws : List Word) (x : A) (j : Input)
    → Around (t ∷ before) after rule ws x → token_of (peek (ahead ws j)) ≡ t
around_first t before after rule ws x j h = ap (λ (us : List Word). token_of (peek (ahead us j))) h.words
    ∙ ap token_of (first_ahead h.front (h.inside ++ h.rest) j) ∙ first_token t before h.front (ahead (h.inside ++ h.rest) j) h.is_front

pub both_first : {A B : Type 0} (first : List Word → A → Type 0) (second : A → List Word → B → Type 0) (P : Word → Type 0)
    → ((us : List Word) (y : A) (l : Input) → first us y → P (peek (ahead us l)))
    → (ws : List Word) (x : B) (j : Input) → Both first second ws x → P (peek (ahead ws j))
both_first first second P h ws x j b =
    subst (λ (us : List Word). P (peek (ahead us j))) (sym b.words)
    (subst P (sym (first_ahead b.front b.rest j)) (h b.front b.value (ahead b.rest j) b.is_first))

pub token_first : {A : Type 0} (token : A → Token) (allowed : A → Type 0) (ws : List Word) (x : A) (j : Input) → IsToken token allowed ws x
    → token_of (peek (ahead ws j)) ≡ token x
unfolding peek
token_first token allowed ws x j h = ap (λ (us : List Word). token_of (peek (ahead us j))) h.words ∙ h.is
