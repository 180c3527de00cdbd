-- The reader of whole texts is lawful.
use Rattle.std.proofs.Common.{◌≡◌, inl, inr, ℕ, zero, suc, ◌+◌, ◌<◌, ◌≤◌, ◌^◌, ◌==◌, ◌&&◌, Bool, true, false, nat_lt}
use Rattle.std.proofs.Common.{if◌then◌else◌, List, [], ◌∷◌, ◌++◌, length, map, Result, Ok, Err, refl, sym, ap, subst, ◌∙◌, append_assoc, arith}
use Rattle.std.specs.Prelude.{codes}
use Rattle.std.specs.List.{flat_map, range_with_len}
use Rattle.std.specs.Str.{bytes_eq}
use Rattle.std.proofs.lemmas.Bool.{and_from, and_parts}
use Rattle.std.proofs.lemmas.Slice.Eq.{bytes_eq-Decides}
use Rattle.text_tokens.specs.declared.kind.Kind.{Kind}
use Rattle.text_tokens.specs.declared.kind.Kind.TheVariants as k
use Rattle.text_tokens.specs.Kinds.{Text, same_kind}
use Rattle.text_tokens.specs.Spelled.{Token, name_token, token_of, tokens_of}
use Rattle.text_tokens.specs.Words.{Word, Input, peek}
use Rattle.loop_lang.specs.declared.index.Iexp.{Iexp}
use Rattle.loop_lang.specs.declared.word.Buf.{Buf}
use Rattle.loop_lang.specs.declared.word.Buf.TheVariants as buf
use Rattle.loop_lang.specs.declared.stmt.Stmt.{Stmt}
use Rattle.loop_lang.specs.declared.stmt.Prog.{Prog}
use Rattle.c_print.specs.declared.level.Level.TheVariants.{Choice}
use Rattle.c_print.specs.Index.{size_name}
use Rattle.c_print.specs.Word.{buffer_name}
use Rattle.c_print.specs.Program.{buffers}
use Rattle.reader_laws.specs.declared.fault.Fault.{Fault}
use Rattle.reader_laws.specs.declared.fault.Fault.TheVariants.{BadSyntax}
use Rattle.reader_laws.specs.Steps.{Parser, ◌>>=◌, a_word, kind, pure, unexpected}
use Rattle.reader_laws.specs.Grammar.{Both, IsNothing}
use Rattle.reader_laws.proofs.Outcomes.{ahead, is_same}
use Rattle.reader_laws.proofs.Lawful.{Lawful, lawful_as, lawful_both, lawful_pure, never}
use Rattle.c_words.specs.Tokens.{sign}
use Rattle.c_text.specs.Rules.{Around, Fixed, Front, IsToken, Made}
use Rattle.c_text.specs.Expression as grammar
use Rattle.c_text.specs.Expression.{IsInner, OfIndex}
use Rattle.c_text.specs.Statement.{AreLengths, HasSmallNumbers, IsBody, IsInnerStatement, IsLength, IsUnit, body_scope, length_scope, max_levels}
use Rattle.c_text.specs.Printed.{after_comma, function_start, heading_words, length_end, length_start, size_parameter, sizes_words}
use Rattle.c_text.proofs.Pieces.{cut, none}
use Rattle.c_text.proofs.RulesSay.{append-nil}
use Rattle.c_read.specs.Parts.{around, checked, expect_all, until}
use Rattle.c_read.specs.Until.{Until, UntilBy}
use Rattle.c_read.specs.Rules.{Checked, Chosen}
use Rattle.c_read.specs.Expressions.{as_index, inner}
use Rattle.c_read.specs.Statements.{block, inner_statement, int_token, is_name}
use Rattle.c_read.specs.Units as reader
use Rattle.c_read.specs.Units.{Counts, Heads, body_of, bump, first_length, fits, follows, function, goes_comma, goes_length, grow, head_of, is_void}
use Rattle.c_read.specs.Units.{length_name, length_value, next_buffer, no_buffers, no_heads, no_sizes}
use Rattle.c_read.specs.Units.{one_length, one_size, program_of, return_words, some_sizes, try, unit}
use Rattle.c_read.proofs.UntilLaws.{first_goes, lawful_until}
use Rattle.c_read.proofs.Joining.{lawful_checked, lawful_chosen}
use Rattle.c_read.proofs.Reading.{NoEnd, around_first, both_first, first_token, lawful_around, lawful_fixed, lawful_made, token_first, tokens-append}
use Rattle.c_read.proofs.ReadingNames.{FewBuffers, Reads, lawful_name, same_number, equal_self}
use Rattle.c_read.proofs.GoesOn
use Rattle.c_read.proofs.ExpressionLaws.{IsReadable, inner_good, lawful_if}
use Rattle.c_read.proofs.StatementLaws.{IsReadableWithin, block_lawful, inner_statement_good}

pub below : (a b : ℕ) → nat_lt a b ≡ true → a < b
below a b h = grind arith

pub is_below : (a b : ℕ) → a < b → nat_lt a b ≡ true
is_below a b h = grind arith

pub zero_is : (a : ℕ) → (a == 0) ≡ true → a ≡ 0
zero_is a h = same_number a 0 h

pub is_zero : (a : ℕ) → a ≡ 0 → (a == 0) ≡ true
is_zero a h = ap (λ n. n == 0) h ∙ refl

-- ---- names of lengths

and_false : (b : Bool) → (b && false) ≡ false
and_false true = refl
and_false false = refl

record Named (c : Counts) (t : Text) (b : Buf) : Type 0 where
  is : t ≡ length_name b
  may : follows c b ≡ true

abbrev given_buffer : Buf → Result Buf Fault
given_buffer b = Ok b

same_buffer : (b d : Buf) → given_buffer b ≡ given_buffer d → b ≡ d
same_buffer b d h = cc

tried : (c : Counts) (b : Buf) (t : Text) (other : Result Buf Fault) (d : Buf) → (other ≡ Ok d → Named c t d) → try c b t other ≡ Ok d → Named c t d
tried c b t other d more h = by (follows c b && bytes_eq t (length_name b)) refl h
  where
    by : (x : Bool) → (follows c b && bytes_eq t (length_name b)) ≡ x → (if x then Ok b else other) ≡ Ok d → Named c t d
    by true e h =
        let p = and_parts (follows c b) (bytes_eq t (length_name b)) e in
        let same = same_buffer b d h in
        record { is = (bytes_eq-Decides t (length_name b)).0 p.1 ∙ ap length_name same; may = ap (follows c) (sym same) ∙ p.0 }
    by false e h = more h

named : (c : Counts) (t : Text) (d : Buf) → next_buffer c t ≡ Ok d → Named c t d
named c t d h = tried c (buf.Input c.inputs) t (try c (buf.Output c.outputs) t (try c (buf.Scratch c.scratch) t (Err BadSyntax))) d
    (λ e. tried c (buf.Output c.outputs) t (try c (buf.Scratch c.scratch) t (Err BadSyntax)) d
    (λ f. tried c (buf.Scratch c.scratch) t (Err BadSyntax) d (λ g. absurd cc) f) e) h

taken : (c : Counts) (b d : Buf) (other : Result Buf Fault) → b ≡ d → follows c d ≡ true → try c b (length_name d) other ≡ Ok d
taken c b d other e h =
    let f : follows c b ≡ true = ap (follows c) e ∙ h in
    let g : bytes_eq (length_name d) (length_name b) ≡ true = (bytes_eq-Decides (length_name d) (length_name b)).1 (ap length_name (sym e)) in
    (λ j. if and_from (follows c b) (bytes_eq (length_name d) (length_name b)) f g j then Ok b else other) ∙ ap given_buffer e

passed : (c : Counts) (b : Buf) (t : Text) (other : Result Buf Fault) → bytes_eq t (length_name b) ≡ false → try c b t other ≡ other
passed c b t other e = (λ j. if follows c b && e j then Ok b else other) ∙ (λ j. if and_false (follows c b) j then Ok b else other)

is_named : (c : Counts) (d : Buf) → follows c d ≡ true → next_buffer c (length_name d) ≡ Ok d
unfolding buffer_name
is_named c (buf.Input n) h =
    let p = and_parts (n == c.inputs) (c.outputs == 0 && (c.scratch == 0 && fits (n + 1))) h in
    taken c (buf.Input c.inputs) (buf.Input n) _ (ap buf.Input (sym (same_number n c.inputs p.0))) h
is_named c (buf.Output n) h =
    let p = and_parts (n == c.outputs) (c.scratch == 0 && fits (n + 1)) h in
    passed c (buf.Input c.inputs) (length_name (buf.Output n)) _ refl
    ∙ taken c (buf.Output c.outputs) (buf.Output n) _ (ap buf.Output (sym (same_number n c.outputs p.0))) h
is_named c (buf.Scratch n) h =
    let p = and_parts (n == c.scratch) (nat_lt 0 c.outputs && fits (n + 1)) h in
    passed c (buf.Input c.inputs) (length_name (buf.Scratch n)) _ refl ∙ passed c (buf.Output c.outputs) (length_name (buf.Scratch n)) _ refl
    ∙ taken c (buf.Scratch c.scratch) (buf.Scratch n) _ (ap buf.Scratch (sym (same_number n c.scratch p.0))) h

abbrev pub IsLengthName : Counts → List Word → Buf → Type 0
IsLengthName c = IsToken (λ b. name_token (length_name b)) (λ b. follows c b ≡ true)

pub name_lawful : (c : Counts) → Lawful (a_word k.Name (next_buffer c)) (IsLengthName c) never
name_lawful c = lawful_name length_name (λ b. follows c b ≡ true) (next_buffer c)
    (λ e. cc) (record { text = λ t b h. (named c t b h).is; allows = λ t b h. (named c t b h).may; same = is_named c })

-- ---- sizes

abbrev OneSize : ℕ → List Word → ℕ → Type 0
OneSize s ws x = (fits (s + 1) ≡ true) × Both (Fixed (sign k.Comma ∷ int_token ∷ name_token (size_name s) ∷ []) (tt {0})) (λ u. IsNothing (s + 1)) ws x

abbrev NoMore : ℕ → List Word → ℕ → Type 0
NoMore s = IsNothing s

abbrev pub comma_goes : Kind → Bool
comma_goes kd = same_kind kd k.Comma

one_size_lawful : (s : ℕ) → Lawful (one_size s) (OneSize s) never
one_size_lawful s = lawful_if (fits (s + 1)) _ (Both (Fixed (sign k.Comma ∷ int_token ∷ name_token (size_name s) ∷ []) (tt {0})) (λ u. IsNothing (s + 1))) never
    (lawful_both (expect_all (sign k.Comma ∷ int_token ∷ name_token (size_name s) ∷ []))
    (λ u. pure (s + 1)) (Fixed (sign k.Comma ∷ int_token ∷ name_token (size_name s) ∷ []) (tt {0})) (λ u. IsNothing (s + 1)) never never
    (lawful_fixed (sign k.Comma ∷ int_token ∷ name_token (size_name s) ∷ []) (λ e. cc, (λ e. cc, (λ e. cc, tt)))) (λ u. lawful_pure (s + 1) never)
    (λ u ws y j p e. refl))

size_tokens : (s x : ℕ) (ws : List Word) → OneSize s ws x → tokens_of ws ≡ sign k.Comma ∷ int_token ∷ name_token (size_name s) ∷ []
size_tokens s x ws p = let b = p.1 in ap tokens_of b.words ∙ tokens-append b.front b.rest ∙ (λ j. b.is_first.0 j ++ tokens_of (b.is_then.0 j))

pub token_some : (t : Token) (ts : List Token) (ws : List Word) → tokens_of ws ≡ t ∷ ts → 0 < length ws
token_some t ts [] e = absurd (cc)
token_some t ts (w ∷ ws) e = omega arith

comma_starts : (s : ℕ) (ws : List Word) (x : ℕ) (j : Input) → OneSize s ws x → goes_comma (peek (ahead ws j)) ≡ true
unfolding same_kind
comma_starts s ws x j p = ap (λ (t : Token). same_kind t.kind k.Comma)
    (first_token (sign k.Comma) (int_token ∷ name_token (size_name s) ∷ []) ws j (size_tokens s x ws p))

comma_ends : (s : ℕ) (ws : List Word) (y : ℕ) (j : Input) → NoMore s ws y → comma_goes (kind j) ≡ false → goes_comma (peek (ahead ws j)) ≡ false
comma_ends s ws y j p e = ap (λ (us : List Word). goes_comma (peek (ahead us j))) p.0 ∙ e

abbrev Sizes' : List Word → ℕ → Type 0
Sizes' = Until OneSize NoMore 1

more_lawful : Lawful (until goes_comma one_size pure 1) Sizes' comma_goes
more_lawful = lawful_until goes_comma one_size pure OneSize NoMore never comma_goes one_size_lawful (λ s. lawful_pure s comma_goes)
    (λ s ws x p. token_some (sign k.Comma) (int_token ∷ name_token (size_name s) ∷ []) ws (size_tokens s x ws p))
    comma_starts comma_ends (λ w e. refl) (λ s ws y j p e. refl) 1

-- further sizes, from this one on
abbrev more_sizes : ℕ → ℕ → List Token
more_sizes s n = flat_map after_comma (map size_parameter (range_with_len s n))

record Ends (s n : ℕ) (ws : List Word) (y : ℕ) : Type 0 where
  tokens : tokens_of ws ≡ more_sizes s n
  is : y ≡ s + n
  small : s < 2 ^ 32 → y < 2 ^ 32

to_ends : (n s : ℕ) (ws : List Word) (y : ℕ) → UntilBy OneSize NoMore n s ws y → Ends s n ws y
to_ends zero s ws y p = record { tokens = ap tokens_of p.0; is = p.1 ∙ (omega arith); small = λ h. subst (λ m. m < 2 ^ 32) (sym p.1) h }
to_ends (suc n) s ws y p =
    let one = p.is_first in
    let v : p.value ≡ s + 1 = one.1.is_then.1 in
    let r = to_ends n p.value p.rest y p.is_then in
    record {
      tokens = ap tokens_of p.words ∙ tokens-append p.front p.rest ∙ (λ j. size_tokens s p.value p.front one j ++ r.tokens j)
          ∙ ap (λ m. (sign k.Comma ∷ int_token ∷ name_token (size_name s) ∷ []) ++ more_sizes m n) v;
      is = let e = r.is in omega arith;
      small = λ h. r.small (let f = below (s + 1) (2 ^ 32) one.0 in omega arith);
    }

from_ends : (n s : ℕ) (ws : List Word) → s + n < 2 ^ 32 → tokens_of ws ≡ more_sizes s n → UntilBy OneSize NoMore n s ws (s + n)
from_ends zero s ws l e = (none ws e, omega arith)
from_ends (suc n) s ws l e =
    let c = cut ws (sign k.Comma ∷ int_token ∷ name_token (size_name s) ∷ []) (more_sizes (s + 1) n) e in
    let same : s + 1 + n ≡ s + suc n = omega arith in
    record {
      value = s + 1;
      front = c.front;
      rest = c.rest;
      words = c.words;
      is_first = (
        is_below (s + 1) (2 ^ 32) (omega (arith, l)),
        record {
          value = tt;
          front = c.front;
          rest = [];
          words = sym (append-nil c.front);
          is_first = (c.is_front, refl);
          is_then = (refl, refl);
        },
      );
      is_then = subst (UntilBy OneSize NoMore n (s + 1) c.rest) same (from_ends n (s + 1) c.rest (omega (arith, l)) c.is_rest);
    }

abbrev pub AreSizes : List Word → ℕ → Type 0
AreSizes ws s = (tokens_of ws ≡ sizes_words s) × (s < 2 ^ 32)

abbrev SizesBy : Bool → List Word → ℕ → Type 0
SizesBy true = Both (Fixed (name_token (codes "void") ∷ []) (tt {0})) (λ u. IsNothing 0)
SizesBy false = Both (Fixed (int_token ∷ name_token (size_name 0) ∷ []) (tt {0})) (λ u. Sizes')

sizes_by : Bool → Parser ℕ
sizes_by b = if b then no_sizes else some_sizes

sizes_by_lawful : (b : Bool) → Lawful (if b then no_sizes else some_sizes) (SizesBy b) comma_goes
sizes_by_lawful true = lawful_both (expect_all (name_token (codes "void") ∷ [])) (λ u. pure 0) (Fixed (name_token (codes "void") ∷ []) (tt {0}))
    (λ u. IsNothing 0) never comma_goes (lawful_fixed (name_token (codes "void") ∷ []) (λ e. cc, tt)) (λ u. lawful_pure 0 comma_goes) (λ u ws y j p e. refl)
sizes_by_lawful false = lawful_both (expect_all (int_token ∷ name_token (size_name 0) ∷ [])) (λ u. until goes_comma one_size pure 1)
    (Fixed (int_token ∷ name_token (size_name 0) ∷ []) (tt {0})) (λ u. Sizes') never comma_goes
    (lawful_fixed (int_token ∷ name_token (size_name 0) ∷ []) (λ e. cc, (λ e. cc, tt))) (λ u. more_lawful) (λ u ws y j p e. refl)

void_starts : (b : Bool) (ws : List Word) (s : ℕ) (j : Input) → SizesBy b ws s → is_void (peek (ahead ws j)) ≡ b
unfolding same_kind
void_starts true ws s j p = both_first (Fixed (name_token (codes "void") ∷ []) (tt {0})) (λ u. IsNothing 0) (λ w. is_void w ≡ true)
    (λ us u l q. ap (is_name (codes "void")) (first_token (name_token (codes "void")) [] us l q.0)) ws s j p
void_starts false ws s j p = both_first (Fixed (int_token ∷ name_token (size_name 0) ∷ []) (tt {0})) (λ u. Sizes') (λ w. is_void w ≡ false)
    (λ us u l q. ap (is_name (codes "void")) (first_token int_token (name_token (size_name 0) ∷ []) us l q.0)) ws s j p

to_sizes : (b : Bool) (ws : List Word) (s : ℕ) → SizesBy b ws s → AreSizes ws s
to_sizes true ws s p =
    let e = ap tokens_of p.words ∙ tokens-append p.front p.rest ∙ (λ j. p.is_first.0 j ++ tokens_of (p.is_then.0 j)) in
    (e ∙ ap sizes_words (sym p.is_then.1), subst (λ m. m < 2 ^ 32) (sym p.is_then.1) (omega arith))
to_sizes false ws s p =
    let r = to_ends p.is_then.0 1 p.rest s p.is_then.1 in
    let same : suc p.is_then.0 ≡ s = (let e = r.is in omega arith) in
    (ap tokens_of p.words ∙ tokens-append p.front p.rest ∙ (λ j. p.is_first.0 j ++ r.tokens j) ∙ ap sizes_words same, r.small (omega arith))

from_sizes : (s : ℕ) (ws : List Word) → AreSizes ws s → Chosen SizesBy ws s
from_sizes zero ws p = (true, record { value = tt; front = ws; rest = []; words = sym (append-nil ws); is_first = (p.0, refl); is_then = (refl, refl) })
from_sizes (suc n) ws p =
    let c = cut ws (int_token ∷ name_token (size_name 0) ∷ []) (more_sizes 1 n) p.0 in
    let same : 1 + n ≡ suc n = omega arith in
    let l = p.1 in (
      false,
      record {
        value = tt;
        front = c.front;
        rest = c.rest;
        words = c.words;
        is_first = (c.is_front, refl);
        is_then = (n, subst (UntilBy OneSize NoMore n 1 c.rest) same (from_ends n 1 c.rest (omega arith) c.is_rest));
      },
    )

pub sizes_lawful : Lawful reader.sizes AreSizes comma_goes
sizes_lawful = lawful_as reader.sizes (Chosen SizesBy) AreSizes comma_goes (λ ws s p. to_sizes p.0 ws s p.1) (λ ws s p. from_sizes s ws p)
    (lawful_chosen is_void (λ b. if b then no_sizes else some_sizes) SizesBy comma_goes sizes_by_lawful void_starts)
