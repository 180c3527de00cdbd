-- Names of C are read.
use Rattle.std.proofs.Common.{◌≡◌, ℕ, ◌<◌, ◌≤◌, ◌^◌, ◌==◌, Bool, true, false, if◌then◌else◌, List, [], ◌∷◌, Result, Ok, Err, refl, sym, ap, subst, ◌∙◌, arith}
use Rattle.std.specs.Prelude.{decimal}
use Rattle.text_tokens.specs.declared.kind.Kind.TheVariants as k
use Rattle.text_tokens.specs.Kinds.{Text}
use Rattle.text_tokens.specs.Spelled.{Token, name_token}
use Rattle.text_tokens.specs.Words.{Word}
use Rattle.reader_laws.specs.declared.fault.Fault.{Fault}
use Rattle.reader_laws.specs.declared.fault.Fault.TheVariants.{BadSyntax}
use Rattle.reader_laws.specs.Steps.{a_word}
use Rattle.reader_laws.specs.Grammar.{IsWordOf}
use Rattle.reader_laws.proofs.Lawful.{Lawful, lawful_as, lawful_word, never}
use Rattle.loop_lang.specs.declared.word.Buf.{Buf}
use Rattle.loop_lang.specs.declared.word.Buf.TheVariants.{Input, Output, Scratch}
use Rattle.c_print.specs.Index.{loop_name, size_name}
use Rattle.c_print.specs.Word.{buffer_name}
use Rattle.c_text.specs.Expression.{HasBuffer, Scope}
use Rattle.c_text.specs.Statement.{HasTarget}
use Rattle.c_text.specs.Rules.{IsToken}
use Rattle.c_read.specs.Names.{buffer, loop_number, numbered, numeral, size_number, target, with_number}
use Rattle.c_read.proofs.ReadingNumbers.{Numeral, is-numeral, numeral-is}

-- a name's text reads as x
pub record Reads {A : Type 0} (name_of : A → Text) (allowed : A → Type 0) (reads : Text → Result A Fault) : Type 0 where
  pub text : (t : Text) (x : A) → reads t ≡ Ok x → t ≡ name_of x
  pub allows : (t : Text) (x : A) → reads t ≡ Ok x → allowed x
  pub same : (x : A) → allowed x → reads (name_of x) ≡ Ok x

pub lawful_name : {A : Type 0} (name_of : A → Text) (allowed : A → Type 0) (reads : Text → Result A Fault) → (k.Name ≡ k.End → ⊥) → Reads name_of allowed reads
    → Lawful (a_word k.Name reads) (IsToken (λ x. name_token (name_of x)) allowed) never
lawful_name {A = A} name_of allowed reads some r =
    lawful_as (a_word k.Name reads) (IsWordOf k.Name reads) (IsToken (λ x. name_token (name_of x)) allowed) never to from (lawful_word k.Name reads some)
  where
    to : (ws : List Word) (x : A) → IsWordOf k.Name reads ws x → IsToken (λ x. name_token (name_of x)) allowed ws x
    to ws x h =
        let s = r.text h.word.text x h.reads_as in
        record { word = h.word; words = h.words; is = (λ j. record { kind = h.is j; text = s j }); is_allowed = r.allows h.word.text x h.reads_as }

    from : (ws : List Word) (x : A) → IsToken (λ x. name_token (name_of x)) allowed ws x → IsWordOf k.Name reads ws x
    from ws x h = record {
      word = h.word;
      is = ap (λ (t : Token). t.kind) h.is;
      reads_as = ap (λ (t : Token). reads t.text) h.is ∙ r.same x h.is_allowed;
      words = h.words;
    }

-- ---- a letter and a number

pub same_number : (a b : ℕ) → (a == b) ≡ true → a ≡ b
same_number a b h = grind arith

pub equal_self : (a : ℕ) → (a == a) ≡ true
equal_self a = grind arith

record Lettered (letter limit : ℕ) (t : Text) (n : ℕ) : Type 0 where
  is : t ≡ letter ∷ decimal n
  below : n < limit

numbered-is : (letter limit : ℕ) (t : Text) (n : ℕ) → numbered letter limit t ≡ Ok n → Lettered letter limit t n
numbered-is letter limit [] n h = absurd cc
numbered-is letter limit (c ∷ t) n h = by (c == letter) refl h
  where
    by : (b : Bool) → (c == letter) ≡ b → (if b then numeral limit t else Err BadSyntax) ≡ Ok n → Lettered letter limit (c ∷ t) n
    by true e h =
        let v = numeral-is limit t n h in
        record { is = (λ j. same_number c letter e j ∷ v.is j); below = v.below }
    by false e h = absurd cc

is-numbered : (letter limit n : ℕ) → limit ≤ 2 ^ 64 → n < limit → numbered letter limit (letter ∷ decimal n) ≡ Ok n
is-numbered letter limit n l h = (λ j. if equal_self letter j then numeral limit (decimal n) else Err BadSyntax) ∙ is-numeral limit n l h

pub reads_size : (scope : Scope) → scope.sizes ≤ 2 ^ 64 → Reads size_name (λ n. n < scope.sizes) (size_number scope)
unfolding size_name
reads_size scope l = record {
  text = λ t n h. (numbered-is 110 scope.sizes t n h).is;
  allows = λ t n h. (numbered-is 110 scope.sizes t n h).below;
  same = λ n h. is-numbered 110 scope.sizes n l h;
}

pub reads_loop : (scope : Scope) → scope.loops ≤ 2 ^ 64 → Reads loop_name (λ n. n < scope.loops) (loop_number scope)
unfolding loop_name
reads_loop scope l = record {
  text = λ t n h. (numbered-is 105 scope.loops t n h).is;
  allows = λ t n h. (numbered-is 105 scope.loops t n h).below;
  same = λ n h. is-numbered 105 scope.loops n l h;
}

-- ---- buffers

abbrev given_buffer : Buf → Result Buf Fault
given_buffer b = Ok b

same_buffer : (b c : Buf) → given_buffer b ≡ given_buffer c → b ≡ c
same_buffer b c h = cc

record Numbered (make : ℕ → Buf) (limit : ℕ) (t : Text) (b : Buf) : Type 0 where
  number : ℕ
  is : t ≡ decimal number
  below : number < limit
  makes : b ≡ make number

with-number : (make : ℕ → Buf) (limit : ℕ) (t : Text) (b : Buf) → with_number make (numeral limit t) ≡ Ok b → Numbered make limit t b
with-number make limit t b h = by (numeral limit t) refl h
  where
    by : (r : Result ℕ Fault) → numeral limit t ≡ r → with_number make r ≡ Ok b → Numbered make limit t b
    by (Ok n) e h =
        let v = numeral-is limit t n e in
        record { number = n; is = v.is; below = v.below; makes = sym (same_buffer (make n) b h) }
    by (Err fault) e h = absurd cc

record Buffered (allowed : Buf → Type 0) (t : Text) (b : Buf) : Type 0 where
  is : t ≡ buffer_name b
  has : allowed b

named-buffer : (allowed : Buf → Type 0) (make : ℕ → Buf) (letter limit c : ℕ) (t : Text) (b : Buf) → ((n : ℕ) → buffer_name (make n) ≡ letter ∷ decimal n)
    → ((n : ℕ) → n < limit → allowed (make n))
    → c ≡ letter → with_number make (numeral limit t) ≡ Ok b → Buffered allowed (c ∷ t) b
named-buffer allowed make letter limit c t b names has e h =
    let v = with-number make limit t b h in
    record {
      is = (λ j. e j ∷ v.is j) ∙ sym (names v.number) ∙ ap buffer_name (sym v.makes);
      has = subst allowed (sym v.makes) (has v.number v.below);
    }

input-name : (n : ℕ) → buffer_name (Input n) ≡ 97 ∷ decimal n
unfolding buffer_name
input-name n = refl

output-name : (n : ℕ) → buffer_name (Output n) ≡ 98 ∷ decimal n
unfolding buffer_name
output-name n = refl

scratch-name : (n : ℕ) → buffer_name (Scratch n) ≡ 115 ∷ decimal n
unfolding buffer_name
scratch-name n = refl

target-is : (scope : Scope) (t : Text) (b : Buf) → target scope t ≡ Ok b → Buffered (HasTarget scope) t b
target-is scope [] b h = absurd cc
target-is scope (c ∷ t) b h = by (c == 98) refl (c == 115) refl h
  where
    by : (x : Bool) → (c == 98) ≡ x → (y : Bool) → (c == 115) ≡ y
        → (if x then with_number Output (numeral scope.outputs t) else (if y then with_number Scratch (numeral scope.scratch t) else Err BadSyntax)) ≡ Ok b
        → Buffered (HasTarget scope) (c ∷ t) b
    by true e y f h = named-buffer (HasTarget scope) Output 98 scope.outputs c t b output-name (λ n l. (l, tt)) (same_number c 98 e) h
    by false e true f h = named-buffer (HasTarget scope) Scratch 115 scope.scratch c t b scratch-name (λ n l. (l, tt)) (same_number c 115 f) h
    by false e false f h = absurd cc

buffer-is : (scope : Scope) (t : Text) (b : Buf) → buffer scope t ≡ Ok b → Buffered (HasBuffer scope) t b
buffer-is scope [] b h = absurd cc
buffer-is scope (c ∷ t) b h = by (c == 97) refl h
  where
    by : (x : Bool) → (c == 97) ≡ x → (if x then with_number Input (numeral scope.inputs t) else target scope (c ∷ t)) ≡ Ok b
        → Buffered (HasBuffer scope) (c ∷ t) b
    by true e h = named-buffer (HasBuffer scope) Input 97 scope.inputs c t b input-name (λ n l. l) (same_number c 97 e) h
    by false e h = let r = target-is scope (c ∷ t) b h in record { is = r.is; has = r.has.0 }

pub record FewBuffers (scope : Scope) : Type 0 where
  pub inputs : scope.inputs ≤ 2 ^ 64
  pub outputs : scope.outputs ≤ 2 ^ 64
  pub scratch : scope.scratch ≤ 2 ^ 64

is-target : (scope : Scope) → FewBuffers scope → (b : Buf) → HasTarget scope b → target scope (buffer_name b) ≡ Ok b
unfolding buffer_name
is-target scope few (Input n) h = absurd h.1
is-target scope few (Output n) h = ap (with_number Output) (is-numeral scope.outputs n few.outputs h.0)
is-target scope few (Scratch n) h = ap (with_number Scratch) (is-numeral scope.scratch n few.scratch h.0)

is-buffer : (scope : Scope) → FewBuffers scope → (b : Buf) → HasBuffer scope b → buffer scope (buffer_name b) ≡ Ok b
unfolding buffer_name
is-buffer scope few (Input n) h = ap (with_number Input) (is-numeral scope.inputs n few.inputs h)
is-buffer scope few (Output n) h = ap (with_number Output) (is-numeral scope.outputs n few.outputs h)
is-buffer scope few (Scratch n) h = ap (with_number Scratch) (is-numeral scope.scratch n few.scratch h)

pub reads_target : (scope : Scope) → FewBuffers scope → Reads buffer_name (HasTarget scope) (target scope)
reads_target scope few = record { text = λ t b h. (target-is scope t b h).is; allows = λ t b h. (target-is scope t b h).has; same = is-target scope few }

pub reads_buffer : (scope : Scope) → FewBuffers scope → Reads buffer_name (HasBuffer scope) (buffer scope)
reads_buffer scope few = record { text = λ t b h. (buffer-is scope t b h).is; allows = λ t b h. (buffer-is scope t b h).has; same = is-buffer scope few }
