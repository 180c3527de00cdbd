-- Numbers of 32 bits, and the levels of C.
use Rattle.std.proofs.Common.{◌≡◌, ℕ, ◌+◌, ◌<◌, ◌^◌, Bool, true, false, cond, refl, sym, ap, ◌∙◌, arith}
use Rattle.text_tokens.specs.Words.{Input}
use Rattle.loop_lang.specs.declared.index.Iexp.{Iexp}
use Rattle.reader_laws.specs.Steps.{Outcome, unexpected}
use Rattle.c_print.specs.declared.level.Level.TheVariants.{Choice}
use Rattle.c_text.specs.Expression.{Scope}
use Rattle.c_text.specs.Statement.{length_scope, max_levels}
use Rattle.c_read.specs.Parts.{checked}
use Rattle.c_read.specs.Expressions.{as_index, inner}
use Rattle.c_read.specs.Units.{fits, length_value}

pub fits_below : (n : ℕ) → n < 4294967295 → fits (n + 1) ≡ true
fits_below n h = grind arith

pub fits_not : (n : ℕ) → n ≡ 4294967295 → fits (n + 1) ≡ false
fits_not n h = rw h refl

pub fits_all : (n : ℕ) → n < 2 ^ 32 → fits n ≡ true
fits_all n h = grind arith

pub levels_are : max_levels ≡ 1000
unfolding max_levels
levels_are = refl

-- the index that a length is, with its levels as a number
pub value_is : (scope : Scope) (s : ℕ) (i : Input) → scope ≡ length_scope s → s < 2 ^ 32 → checked as_index (inner scope 1000 Choice) i ≡ length_value s i
value_is scope s i e h =
    ap (λ (l : Scope). checked as_index (inner l 1000 Choice) i) e
    ∙ ap (λ (levels : ℕ). checked as_index (inner (length_scope s) levels Choice) i) (sym levels_are)
    ∙ ap (λ (b : Bool). let r : Outcome Iexp = (cond b (checked as_index (inner (length_scope s) max_levels Choice)) unexpected) i in r) (sym (fits_all s h))
