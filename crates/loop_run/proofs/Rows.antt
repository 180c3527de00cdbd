-- Small runs with a limit, worked by the definitions.
use Rattle.std.proofs.Common.{◌≡◌, ℕ, List, [], ◌∷◌, Ok, Err, false, refl}
use Rattle.std.specs.Prelude.{pos}
use Rattle.loop_lang.specs.declared.index.Iexp.{Lit, Size, Loop}
use Rattle.loop_lang.specs.declared.word.Buf.TheVariants.{Input, Output}
use Rattle.loop_lang.specs.declared.word.Wexp.{Wexp, Load}
use Rattle.loop_lang.specs.declared.word.Wexp as word
use Rattle.loop_lang.specs.declared.stmt.Prog.{Prog}
use Rattle.loop_lang.specs.declared.stmt.Stmt.TheVariants.{Seq, For, Put, Zero}
use Rattle.loop_lang.specs.Syntax.{word_product}
use Rattle.loop_lang.specs.Reckoning.{Overflow}
use Rattle.loop_lang.specs.Actions.{Tick, Store, Trip, Puts, Word, program_acts}
use Rattle.loop_lang.specs.Memory.{Memory}
use Rattle.loop_lang.proofs.Statements.{acts-seq, acts-for, acts-if, acts-put, acts-add_to, acts-zero}
use Rattle.loop_run.specs.Limited.{Halts, OverLimit, followed, started}
use Rattle.loop_run.specs.Exact.{decided}
use Rattle.loop_run.specs.declared.refusal.Stuck.TheVariants as stuck

ruleset row_laws = (acts-seq, acts-for, acts-if, acts-put, acts-add_to, acts-zero)

-- fill(b0, 0, n0); for i0 < n0 { b0[i0] = a0[i0] * 2 }
abbrev scaling : Prog
scaling = record {
  sizes = 1;
  inputs = 1;
  outputs = 1;
  scratch = 0;
  lengths = Size 0 ∷ Size 0 ∷ [];
  body = Seq (Zero (Output 0) (Lit (pos 0)) (Size 0)
      ∷ For (Size 0) false (Seq (Put (Output 0) (Loop 0) (word_product (Load (Input 0) (Loop 0)) (word.Lit 2)) ∷ [])) ∷ []);
}

abbrev memory : List ℕ → List ℕ → Memory
memory a b = record { inputs = a ∷ []; outputs = b ∷ []; scratch = [] }

enough : decided 9 (program_acts scaling (3 ∷ [])) (memory (1 ∷ 2 ∷ 3 ∷ []) (7 ∷ 7 ∷ 7 ∷ [])) ≡ Ok (record { steps = 9; stores = 6; loads = 3; products = 3 })
unfolding decided
enough = simp row_laws

one_short : decided 8 (program_acts scaling (3 ∷ [])) (memory (1 ∷ 2 ∷ 3 ∷ []) (7 ∷ 7 ∷ 7 ∷ [])) ≡ Err (stuck.TooMuchWork 9)
unfolding decided
one_short = simp row_laws

-- the last turn has begun, and its store not
left_over : followed 8 (program_acts scaling (3 ∷ [])) (started (memory (1 ∷ 2 ∷ 3 ∷ []) (7 ∷ 7 ∷ 7 ∷ []))) ≡ Halts OverLimit
    (memory (1 ∷ 2 ∷ 3 ∷ []) (2 ∷ 4 ∷ 0 ∷ []))
left_over = simp row_laws

-- too much work before the trouble of the same step
work_first : decided 0 (Store Puts (Output 0) (Word 1) (pos 5) ∷ []) (memory [] (7 ∷ [])) ≡ Err (stuck.TooMuchWork 1)
unfolding decided
work_first = refl

then_outside : decided 1 (Store Puts (Output 0) (Word 1) (pos 5) ∷ []) (memory [] (7 ∷ [])) ≡ Err (stuck.Outside (Output 0) (pos 5))
unfolding decided
then_outside = refl

-- a trouble in a bound begins no step
no_step : decided 0 (Trip Overflow [] ∷ []) (memory [] (7 ∷ [])) ≡ Err stuck.Overflow
unfolding decided
no_step = refl

tick_first : decided 0 (Tick ∷ Trip Overflow [] ∷ []) (memory [] (7 ∷ [])) ≡ Err (stuck.TooMuchWork 1)
unfolding decided
tick_first = refl
