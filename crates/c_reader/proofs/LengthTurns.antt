-- Each length takes a word, so that the lengths can be read one at a time.
use Rattle.std.proofs.Common.{◌≡◌, ◌≢◌, ℕ, ◌<◌, ◌^◌, Bool, true, false, cond, nat_lt, ◌&&◌, [], ◌∷◌, length, Ok, Err, refl, ap, ◌∙◌, arith}
use Rattle.text_tokens.specs.declared.kind.Kind.TheVariants as k
use Rattle.text_tokens.specs.Words.{Input, peek}
use Rattle.reader_laws.specs.declared.fault.ReadError.{ReadError}
use Rattle.reader_laws.specs.declared.fault.ReadError.TheVariants.{Memory}
use Rattle.reader_laws.specs.Steps.{a_word, and_then, unexpected}
use Rattle.c_print.specs.declared.level.Level.TheVariants.{Choice}
use Rattle.c_words.specs.Tokens.{sign}
use Rattle.c_text.specs.Printed.{length_end, sizes_words}
use Rattle.c_text.specs.Statement.{length_scope, max_levels}
use Rattle.c_read.specs.Parts.{checked, expect_all}
use Rattle.c_read.specs.Expressions.{as_index, inner}
use Rattle.c_read.specs.Statements.{int_token}
use Rattle.c_read.specs.Units.{Heads, fits, goes_length, grow, is_complete, length_value, next_buffer, return_words}
use Rattle.c_expression_reader.proofs.Shorter.{Shorter, Takes, shorter_all, shorter_checked, shorter_none, shorter_pure, shorter_then, shorter_word}
use Rattle.c_expression_reader.proofs.Shorter.{takes_all, takes_then}
use Rattle.c_expression_reader.proofs.Reading.{inner_shorter}
use Rattle.c_expression_reader.proofs.Until.{until_stop, until_turn}
use Rattle.c_reader.specs.Units.{before_value, function, measured, more_lengths, one_length}

value_short : (s : ℕ) → Shorter (length_value s)
value_short s = by (fits s)
  where
    by : (b : Bool) → Shorter (cond b (checked as_index (inner (length_scope s) max_levels Choice)) unexpected)
    by true = shorter_checked as_index (inner (length_scope s) max_levels Choice) (inner_shorter (length_scope s) max_levels Choice)
    by false = shorter_none

before_short : (s : ℕ) → Shorter (before_value s)
unfolding before_value
before_short s = shorter_then (expect_all (sign k.LParen ∷ [])) _ (shorter_all (sign k.LParen ∷ [])) (λ u.
    shorter_then (expect_all (sizes_words s)) _ (shorter_all (sizes_words s)) (λ v. shorter_all return_words))

measured_short : (s : ℕ) → Shorter (measured s)
unfolding measured
measured_short s = shorter_then (before_value s) _ (before_short s) (λ u. shorter_then (length_value s) _ (value_short s) (λ n.
    shorter_then (expect_all length_end) _ (shorter_all length_end) (λ v. shorter_pure n)))

length_takes : (h : Heads) → Takes (one_length h)
unfolding one_length
length_takes h = takes_then (expect_all (int_token ∷ [])) _ (takes_all int_token [] (λ e. cc)) (λ u.
    shorter_then (a_word k.Name (next_buffer h.counts)) _ (shorter_word k.Name (next_buffer h.counts)) (λ b.
    shorter_then (measured h.sizes) _ (measured_short h.sizes) (λ n. shorter_pure (grow h b n))))

pub length_less : (h more : Heads) (i j : Input) → one_length h i ≡ Ok (more, j) → length j.words < length i.words
length_less h more i j e = length_takes h i j more e

pub lengths_stop : (h : Heads) (i : Input) → goes_length (peek i) ≡ false → more_lengths h i ≡ function h i
unfolding more_lengths
lengths_stop h i e = until_stop goes_length one_length function length_less h i e

lengths_turn : (h : Heads) (i : Input) → goes_length (peek i) ≡ true → more_lengths h i ≡ and_then (one_length h i) more_lengths
unfolding more_lengths
lengths_turn h i e = until_turn goes_length one_length function length_less h i e

pub lengths_went : (h more : Heads) (i j : Input) → goes_length (peek i) ≡ true → one_length h i ≡ Ok (more, j) → more_lengths h i ≡ more_lengths more j
lengths_went h more i j e reads = lengths_turn h i e ∙ ap (λ r. and_then r more_lengths) reads

pub lengths_fell : (h : Heads) (i : Input) (x : ReadError) → goes_length (peek i) ≡ true → (x ≢ Memory → one_length h i ≡ Err x) → x ≢ Memory
    → more_lengths h i ≡ Err x
lengths_fell h i x e reads other = lengths_turn h i e ∙ ap (λ r. and_then r more_lengths) (reads other)

-- ---- whether the lengths are those of a program

pub complete_not : (h : Heads) → h.counts.outputs ≡ 0 → is_complete h ≡ false
complete_not h e = ap (λ n. nat_lt 0 n && (fits h.sizes && (fits h.counts.inputs && (fits h.counts.outputs && fits h.counts.scratch)))) e

fit : (n : ℕ) → n < 2 ^ 32 → fits n ≡ true
fit n h = grind arith

some : (n : ℕ) → 0 < n → nat_lt 0 n ≡ true
some n h = grind arith

pub complete_is : (h : Heads) → 0 < h.counts.outputs → h.sizes < 2 ^ 32 → h.counts.inputs < 2 ^ 32 → h.counts.outputs < 2 ^ 32 → h.counts.scratch < 2 ^ 32
    → is_complete h ≡ true
complete_is h o a b c d =
    let p = some h.counts.outputs o in
    let q = fit h.sizes a in
    let r = fit h.counts.inputs b in
    let s = fit h.counts.outputs c in
    let t = fit h.counts.scratch d in
    rw (p, q, r, s, t) refl
