-- One step of a loop of turns and of a fill.
use Rattle.std.proofs.Common.{◌≡◌, ◌<◌, ℕ, suc, ◌+◌, ◌-◌, ap, arith}
use Rattle.std.specs.Prelude.{ℤ}
use Rattle.loop_lang.specs.declared.word.Buf.{Buf}
use Rattle.loop_run.specs.Limited.{State, next, begun}
use Rattle.loop_run.specs.Statements.{Doing, turned, zero_put, zeros_put}

pub turned-next : (limit i n : ℕ) (f : ℕ → Doing) (t : State) → i < n
    → turned limit i (n - i) f t ≡ next (next (begun limit t) (f i)) (turned limit (i + 1) (n - (i + 1)) f)
turned-next limit i n f t h =
    let e : n - i ≡ suc (n - (i + 1)) = omega arith in
    ap (λ k. turned limit i k f t) e

pub zeros-next : (limit : ℕ) (b : Buf) (at : ℤ) (i n : ℕ) (t : State) → i < n
    → zeros_put limit b at i (n - i) t ≡ next (zero_put limit b at i t) (zeros_put limit b at (i + 1) (n - (i + 1)))
zeros-next limit b at i n t h =
    let e : n - i ≡ suc (n - (i + 1)) = omega arith in
    ap (λ k. zeros_put limit b at i k t) e
