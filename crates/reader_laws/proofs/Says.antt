-- What tokens say by a rule of the grammar, wherever they stand in a text; and how what they say is put together.
use Rattle.std.proofs.Common.{
  ◌≡◌,
  ℕ,
  zero,
  suc,
  ◌+◌,
  ◌-◌,
  ◌<◌,
  ◌≤◌,
  inl,
  inr,
  List,
  [],
  ◌∷◌,
  ◌++◌,
  Some,
  Result,
  Ok,
  refl,
  sym,
  ap,
  ◌∙◌,
  subst,
  arith,
  append_assoc,
}
use Rattle.text_tokens.specs.declared.kind.Kind.{Kind}
use Rattle.text_tokens.specs.Kinds.{Text}
use Rattle.text_tokens.specs.Words.{Word}
use Rattle.reader_laws.specs.declared.fault.Fault.{Fault}
use Rattle.reader_laws.specs.Chain.{Links}
use Rattle.reader_laws.specs.Grammar.{Both, IsChain, IsNothing, IsWordOf, OneOf, Opened, Starting}
use Rattle.text_tokens.specs.Spelled.{Token, token_of, tokens_of}

-- the tokens stand for x, by this rule
pub record Says {A : Type 0} (rule : List Word → A → Type 0) (ts : List Token) (x : A) : Type 0 where
  pub says : (ws : List Word) → tokens_of ws ≡ ts → rule ws x

abbrev first_or : Token → List Token → Token
first_or d [] = d
first_or d (t ∷ ts) = t

abbrev later : List Token → List Token
later [] = []
later (t ∷ ts) = ts

heads : (t u : Token) (ts us : List Token) → t ∷ ts ≡ u ∷ us → t ≡ u
heads t u ts us e = ap (first_or t) e

tails : (t u : Token) (ts us : List Token) → t ∷ ts ≡ u ∷ us → ts ≡ us
tails t u ts us e = ap later e

-- where words are cut
record Cut (ws : List Word) (ts us : List Token) : Type 0 where
  front : List Word
  rest : List Word
  words : ws ≡ front ++ rest
  is_front : tokens_of front ≡ ts
  is_rest : tokens_of rest ≡ us

cut : (ws : List Word) (ts us : List Token) → tokens_of ws ≡ ts ++ us → Cut ws ts us
cut ws [] us e = record { front = []; rest = ws; words = refl; is_front = refl; is_rest = e }
cut [] (t ∷ ts) us e = absurd (cc)
cut (w ∷ ws) (t ∷ ts) us e =
    let r = cut ws ts us (tails (token_of w) t (tokens_of ws) (ts ++ us) e) in
    let h = heads (token_of w) t (tokens_of ws) (ts ++ us) e in
    record { front = w ∷ r.front; rest = r.rest; words = ap (λ vs. w ∷ vs) r.words; is_front = (λ j. h j ∷ r.is_front j); is_rest = r.is_rest }

pub says_both : {A B : Type 0} {first : List Word → A → Type 0} {then : A → List Word → B → Type 0} (ts us : List Token) (v : A) {y : B} → Says first ts v
    → Says (then v) us y → Says (Both first then) (ts ++ us) y
says_both ts us v p q = record {
  says = λ ws e.
      let c = cut ws ts us e in
      record { value = v; front = c.front; rest = c.rest; words = c.words; is_first = p.says c.front c.is_front; is_then = q.says c.rest c.is_rest };
}

word_is : {A : Type 0} (a : Kind) (reads : Text → Result A Fault) (text : Text) (x : A) → reads text ≡ Ok x → (ws : List Word)
    → tokens_of ws ≡ record { kind = a; text = text } ∷ [] → IsWordOf a reads ws x
word_is a reads text x h [] e = absurd (cc)
word_is a reads text x h (w ∷ []) e =
    let same = heads (token_of w) (record { kind = a; text = text }) [] [] e in
    record { word = w; is = ap (λ (t : Token). t.kind) same; reads_as = ap (λ (t : Token). reads t.text) same ∙ h; words = refl }
word_is a reads text x h (w ∷ v ∷ vs) e = absurd (let bad = tails (token_of w) (record { kind = a; text = text }) (tokens_of (v ∷ vs)) [] e in cc)

pub says_word : {A : Type 0} {a : Kind} {reads : Text → Result A Fault} {text : Text} {x : A} → reads text ≡ Ok x
    → Says (IsWordOf a reads) (record { kind = a; text = text } ∷ []) x
says_word {a = a} {reads = reads} {text = text} {x = x} h = record { says = word_is a reads text x h }

-- a word, and what follows it
pub says_then : {A B : Type 0} {a : Kind} {reads : Text → Result A Fault} {then : A → List Word → B → Type 0} {text : Text} {us : List Token} (v : A) {y : B}
    → reads text ≡ Ok v → Says (then v) us y
    → Says (Both (IsWordOf a reads) then) (record { kind = a; text = text } ∷ us) y
says_then {a = a} {text = text} {us = us} v h q = says_both (record { kind = a; text = text } ∷ []) us v (says_word h) q

none : (ws : List Word) → tokens_of ws ≡ [] → ws ≡ []
none [] e = refl
none (w ∷ ws) e = absurd (cc)

pub says_nothing : {A : Type 0} {x : A} → Says (IsNothing x) [] x
says_nothing = record { says = λ ws e. (none ws e, refl) }

pub says_opened : {A : Type 0} {levels : ℕ} {rule : List Word → A → Type 0} {ts : List Token} {x : A} → 0 < levels → Says rule ts x
    → Says (Opened levels rule) ts x
says_opened h p = record { says = λ ws e. (h, p.says ws e) }

pub says_one : {A : Type 0} {rules : Kind → List Word → A → Type 0} (kd : Kind) {ts : List Token} {x : A} → Says (rules kd) ts x → Says (OneOf rules) ts x
says_one kd p = record { says = λ ws e. (kd, p.says ws e) }

append-none : (xs : List Token) → xs ++ [] ≡ xs
append-none [] = refl
append-none (x ∷ xs) = ap (λ r. x ∷ r) (append-none xs)

-- the last of several
pub says_end : {A B : Type 0} {first : List Word → A → Type 0} {then : A → List Word → B → Type 0} (ts : List Token) (v : A) {y : B} → Says first ts v
    → Says (then v) [] y → Says (Both first then) ts y
says_end {first = first} {then = then} ts v {y = y} p q = subst (λ (us : List Token). Says (Both first then) us y) (append-none ts) (says_both ts [] v p q)

starting : {A : Type 0} (rule : List Word → A → Type 0) (t : Token) (ts : List Token) (x : A) → Says rule (t ∷ ts) x → (ws : List Word)
    → tokens_of ws ≡ t ∷ ts → Starting t.kind rule ws x
starting rule t ts x p [] e = absurd (cc)
starting rule t ts x p (w ∷ ws) e = (p.says (w ∷ ws) e, ap (λ (u : Token). u.kind) (heads (token_of w) t (tokens_of ws) ts e))

-- what begins with a word of a kind
pub says_starting : {A : Type 0} {rule : List Word → A → Type 0} (t : Token) (ts : List Token) {x : A} → Says rule (t ∷ ts) x
    → Says (Starting t.kind rule) (t ∷ ts) x
says_starting {rule = rule} t ts {x = x} p = record { says = starting rule t ts x p }

-- ---- chains

module _ {A B O : Type 0} (links : Links A B O) (operands : ℕ → A → O → List Word → B → Type 0) where
  stops : (n : ℕ) (x : A) (ws : List Word) → tokens_of ws ≡ [] → IsChain links operands n x ws x
  stops zero x ws e = (none ws e, refl)
  stops (suc n) x ws e = inl (none ws e, refl)

  pub says_stop : (n : ℕ) (x : A) → Says (IsChain links operands n x) [] x
  says_stop n x = record { says = stops n x }

  links_on : (n : ℕ) (left : A) (t : Token) (o : O) (us : List Token) (right : B) (v : A) (rest : List Token) (x : A) → links.operator t.kind ≡ Some o
      → 0 < links.room n → Says (operands n left o) us right → links.join o left right ≡ Ok v
      → Says (IsChain links operands n v) rest x → (ws : List Word) → tokens_of ws ≡ t ∷ us ++ rest → IsChain links operands (suc n) left ws x
  links_on n left t o us right v rest x is room p j q [] e = absurd (cc)
  links_on n left t o us right v rest x is room p j q (w ∷ ws) e =
      let same = heads (token_of w) t (tokens_of ws) (us ++ rest) e in
      let c = cut ws us rest (tails (token_of w) t (tokens_of ws) (us ++ rest) e) in
      inr (record {
        word = w;
        front = c.front;
        rest = c.rest;
        sign = o;
        right = right;
        value = v;
        words = ap (λ vs. w ∷ vs) c.words;
        is = ap (λ (u : Token). links.operator u.kind) same ∙ is;
        room = room;
        is_operand = p.says c.front c.is_front;
        joins = j;
        is_rest = q.says c.rest c.is_rest;
      })

  pub says_link : (n : ℕ) (left : A) (t : Token) (o : O) (us : List Token) (right : B) (v : A) (rest : List Token) (x : A) → links.operator t.kind ≡ Some o
      → 0 < links.room n → Says (operands n left o) us right → links.join o left right ≡ Ok v
      → Says (IsChain links operands n v) rest x → Says (IsChain links operands (suc n) left) (t ∷ us ++ rest) x
  says_link n left t o us right v rest x is room p j q = record { says = links_on n left t o us right v rest x is room p j q }

  -- The tokens are the beginning of a chain, with so many operators, and what has been joined so far is v; `least` is how many operators may still follow at
  -- least.
  abbrev pub Begins : (List Word → A → Type 0) → ℕ → List Token → A → ℕ → Type 0
  Begins first least ts v c = (n m : ℕ) (us : List Token) (x : A) → m ≡ c + n → least ≤ n → Says (IsChain links operands n v) us x
      → Says (Both first (λ y. IsChain links operands m y)) (ts ++ us) x

  pub begins_first : (first : List Word → A → Type 0) (least : ℕ) (ts : List Token) (v : A) → Says first ts v → Begins first least ts v 0
  begins_first first least ts v p n m us x e l q =
      let same : n ≡ m = omega (arith, e) in
      says_both ts us v p (subst (λ (k : ℕ). Says (IsChain links operands k v) us x) same q)

  pub begins_link : (first : List Word → A → Type 0) (least : ℕ) (ts : List Token) (left : A) (c : ℕ) (t : Token) (o : O) (us : List Token) (right : B)
      (v : A) → Begins first least ts left c
      → links.operator t.kind ≡ Some o → ((n : ℕ) → least ≤ n → 0 < links.room n) → ((n : ℕ) → least ≤ n → Says (operands n left o) us right)
      → links.join o left right ≡ Ok v
      → Begins first least (ts ++ t ∷ us) v (c + 1)
  begins_link first least ts left c t o us right v b is room p j n m rest x e l q =
      let more : m ≡ c + suc n = omega (arith, e) in
      let h = b (suc n) m (t ∷ us ++ rest) x more (omega (arith, l)) (says_link n left t o us right v rest x is (room n l) (p n l) j q) in
      subst (λ (z : List Token). Says (Both first (λ y. IsChain links operands m y)) z x) (sym (append_assoc ts (t ∷ us) rest)) h

  -- a chain that ends here
  pub begins_end : (first : List Word → A → Type 0) (least : ℕ) (ts : List Token) (v : A) (c m : ℕ) → Begins first least ts v c → least + c ≤ m
      → Says (Both first (λ y. IsChain links operands m y)) ts v
  begins_end first least ts v c m b l =
      subst (λ (z : List Token). Says (Both first (λ y. IsChain links operands m y)) z v) (append-none ts)
      (b (m - c) m [] v (omega (arith, l)) (omega (arith, l)) (says_stop (m - c) v))
