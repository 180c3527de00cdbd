-- The reader as code opens it is the reader of whole texts.
use Rattle.std.proofs.Common.{◌≡◌, ℕ, [], ◌∷◌, ◌++◌, ap}
use Rattle.text_tokens.specs.declared.kind.Kind.TheVariants as k
use Rattle.text_tokens.specs.Words.{Input}
use Rattle.reader_laws.specs.Steps.{Parser, ◌>>=◌, a_word, pure, to_end}
use Rattle.c_words.specs.Tokens.{sign}
use Rattle.c_text.specs.Printed.{heading_words, length_end, sizes_words}
use Rattle.c_read.specs.Parts.{around, expect_all, until}
use Rattle.c_read.specs.Statements.{int_token}
use Rattle.c_read.specs.Units as reading
use Rattle.c_read.specs.Units.{Heads, goes_length, grow, length_value, next_buffer, return_words}
use Rattle.c_reader.specs.Units.{first_length, function, length_of, measured, more_lengths, more_sizes, one_length, sizes, some_sizes, unit, whole}
use Rattle.c_reader.proofs.Lists.{before_is}

measured_is : (s : ℕ) → measured s ≡ around (sign k.LParen ∷ (sizes_words s ++ return_words)) length_end (length_value s)
unfolding measured
measured_is s = λ l. before_is s l >>= (λ u. length_value s >>= (λ n. expect_all length_end >>= (λ v. pure n)))

one_is : one_length ≡ reading.one_length
unfolding one_length
one_is = λ l h. expect_all (int_token ∷ []) >>= (λ u. a_word k.Name (next_buffer h.counts) >>= (λ b. measured_is h.sizes l >>= (λ n. pure (grow h b n))))

pub whole_is : (i : Input) → whole i ≡ to_end reading.unit i
unfolding whole unit more_lengths function first_length length_of sizes some_sizes more_sizes
whole_is i =
    ap (λ (turn : Heads → Parser Heads). to_end (expect_all heading_words >>= (λ u. reading.first_length >>= until goes_length turn reading.function)) i) one_is
