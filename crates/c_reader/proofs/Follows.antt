-- Which length may come next, as code tests it.
use Rattle.std.proofs.Common.{◌≡◌, ℕ, ◌+◌, true, ◌&&◌, ◌==◌, nat_lt, ap, ◌∙◌, arith}
use Rattle.loop_lang.specs.declared.word.Buf.TheVariants as buf
use Rattle.c_read.specs.Units.{Counts, fits, follows}

equal : (n : ℕ) → (n == n) ≡ true
equal n = grind arith

fits_is : (n : ℕ) → fits (n + 1) ≡ nat_lt n 4294967295
fits_is n = grind arith

pub input_follows : (c : Counts) → follows c (buf.Input c.inputs) ≡ (c.outputs == 0 && (c.scratch == 0 && nat_lt c.inputs 4294967295))
input_follows c = ap (λ b. b && (c.outputs == 0 && (c.scratch == 0 && fits (c.inputs + 1)))) (equal c.inputs)
    ∙ ap (λ b. c.outputs == 0 && (c.scratch == 0 && b)) (fits_is c.inputs)

pub output_follows : (c : Counts) → follows c (buf.Output c.outputs) ≡ (c.scratch == 0 && nat_lt c.outputs 4294967295)
output_follows c = ap (λ b. b && (c.scratch == 0 && fits (c.outputs + 1))) (equal c.outputs)
    ∙ ap (λ b. c.scratch == 0 && b) (fits_is c.outputs)

pub scratch_follows : (c : Counts) → follows c (buf.Scratch c.scratch) ≡ (nat_lt 0 c.outputs && nat_lt c.scratch 4294967295)
scratch_follows c = ap (λ b. b && (nat_lt 0 c.outputs && fits (c.scratch + 1))) (equal c.scratch)
    ∙ ap (λ b. nat_lt 0 c.outputs && b) (fits_is c.scratch)
