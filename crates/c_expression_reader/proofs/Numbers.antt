-- A number that is read is below the bound that it was read with.
use Rattle.std.proofs.Common.{◌≡◌, ℕ, ◌<◌, Bool, true, false, cond, nat_lt, Result, Ok, Err, refl, ap, sym, ◌∙◌, arith}
use Rattle.std.specs.Str.{bytes_eq}
use Rattle.std.specs.Prelude.{decimal}
use Rattle.std.proofs.lemmas.Bool.{and_parts}
use Rattle.text_tokens.specs.declared.kind.Kind.TheVariants as k
use Rattle.text_tokens.specs.Kinds.{same_kind}
use Rattle.text_tokens.specs.Numbers.{value_from}
use Rattle.text_tokens.specs.Words.{Input, next}
use Rattle.reader_laws.specs.declared.fault.Fault.{Fault}
use Rattle.reader_laws.specs.declared.fault.Fault.TheVariants.{BadSyntax}
use Rattle.reader_laws.specs.Steps.{a_word, kind, read_as, text, unexpected}
use Rattle.reader_laws.proofs.Outcomes.{ok_value}
use Rattle.c_read.specs.Names.{is_numeral, numeral}

under : (a b : ℕ) → nat_lt a b ≡ true → a < b
under a b h = grind arith

pub number_small : (limit n : ℕ) (i j : Input) → a_word k.Number (numeral limit) i ≡ Ok (n, j) → n < limit
unfolding a_word
number_small limit n i j h = go (same_kind (kind i) k.Number) (is_numeral limit (text i)) refl h
  where
    due : Bool → Result ℕ Fault
    due b = cond b (Ok (value_from 0 (text i))) (Err BadSyntax)

    go : (s b : Bool) → is_numeral limit (text i) ≡ b → cond s (read_as (due b) i) (unexpected i) ≡ Ok (n, j) → n < limit
    go false b e h = absurd cc
    go true false e h = absurd cc
    go true true e h =
        let p = and_parts (bytes_eq (text i) (decimal (value_from 0 (text i)))) (nat_lt (value_from 0 (text i)) limit) e in
        let v : value_from 0 (text i) ≡ n = ok_value (value_from 0 (text i)) n (next i) j h in
        under n limit (ap (λ m. nat_lt m limit) (sym v) ∙ p.1)
