-- Each size takes a word, so that the sizes can be read one at a time.
use Rattle.std.proofs.Common.{◌≡◌, ◌≢◌, ℕ, ◌+◌, ◌<◌, Bool, true, false, cond, [], ◌∷◌, length, Ok, Err, ap, ◌∙◌}
use Rattle.text_tokens.specs.declared.kind.Kind.TheVariants as k
use Rattle.text_tokens.specs.Kinds.{same_kind}
use Rattle.text_tokens.specs.Spelled.{name_token}
use Rattle.text_tokens.specs.Words.{Input}
use Rattle.reader_laws.specs.declared.fault.ReadError.{ReadError}
use Rattle.reader_laws.specs.declared.fault.ReadError.TheVariants.{Memory}
use Rattle.reader_laws.specs.Steps.{◌>>=◌, and_then, kind, pure, unexpected}
use Rattle.c_print.specs.Index.{size_name}
use Rattle.c_words.specs.Tokens.{sign}
use Rattle.c_read.specs.Parts.{expect_all}
use Rattle.c_read.specs.Statements.{int_token}
use Rattle.c_read.specs.Units.{fits, goes_comma, one_size}
use Rattle.c_expression_reader.proofs.Shorter.{Takes, shorter_pure, takes_all, takes_then}
use Rattle.c_expression_reader.proofs.Until.{until_stop, until_turn}
use Rattle.c_reader.specs.Units.{more_sizes}

size_takes : (s : ℕ) → Takes (one_size s)
size_takes s = by (fits (s + 1))
  where
    by : (b : Bool) → Takes (cond b (expect_all (sign k.Comma ∷ int_token ∷ name_token (size_name s) ∷ []) >>= (λ u. pure (s + 1))) unexpected)
    by true = takes_then (expect_all (sign k.Comma ∷ int_token ∷ name_token (size_name s) ∷ [])) (λ u. pure (s + 1))
        (takes_all (sign k.Comma) (int_token ∷ name_token (size_name s) ∷ []) (λ e. cc)) (λ u. shorter_pure (s + 1))
    by false = λ i j x h. absurd cc

pub size_less : (s more : ℕ) (i j : Input) → one_size s i ≡ Ok (more, j) → length j.words < length i.words
size_less s more i j h = size_takes s i j more h

pub sizes_stop : (s : ℕ) (i : Input) → same_kind (kind i) k.Comma ≡ false → more_sizes s i ≡ Ok (s, i)
unfolding more_sizes
sizes_stop s i h = until_stop goes_comma one_size pure size_less s i h

sizes_turn : (s : ℕ) (i : Input) → same_kind (kind i) k.Comma ≡ true → more_sizes s i ≡ and_then (one_size s i) more_sizes
unfolding more_sizes
sizes_turn s i h = until_turn goes_comma one_size pure size_less s i h

pub sizes_went : (s more : ℕ) (i j : Input) → same_kind (kind i) k.Comma ≡ true → one_size s i ≡ Ok (more, j) → more_sizes s i ≡ more_sizes more j
sizes_went s more i j h reads = sizes_turn s i h ∙ ap (λ r. and_then r more_sizes) reads

pub sizes_fell : (s : ℕ) (i : Input) (e : ReadError) → same_kind (kind i) k.Comma ≡ true → (e ≢ Memory → one_size s i ≡ Err e) → e ≢ Memory
    → more_sizes s i ≡ Err e
sizes_fell s i e h reads other = sizes_turn s i h ∙ ap (λ r. and_then r more_sizes) (reads other)
