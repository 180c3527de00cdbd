-- Which buffers a program and what it is given make, or why none are made.
use Rattle.std.specs.Prelude.{◌≡◌, ℕ, ◌+◌, ◌^◌, if◌then◌else◌, nat_eq, nat_lt, List, [], ◌∷◌, map, length, take, drop, replicate, Result, Ok, Err, Option, Some}
use Rattle.std.specs.Prelude.{None}
use Rattle.loop_lang.specs.declared.index.Iexp.{Iexp}
use Rattle.loop_lang.specs.declared.stmt.Prog.{Prog}
use Rattle.loop_lang.specs.Reckoning.{Trouble, Overflow, NegativeDividend, Reckoned, Value, Fails, reckon}
use Rattle.loop_lang.specs.Run.{length_of}
use Rattle.loop_run.specs.Limited.{capped}
use Rattle.loop_run.specs.Statements.{levels}
use Rattle.loop_run.specs.Buffers.{Held}
use Rattle.loop_run.specs.declared.given.Given.{Given}
use Rattle.loop_run.specs.declared.refusal.Stuck.TheVariants as stuck
use Rattle.loop_run.specs.declared.refusal.MakeRefusal.{MakeRefusal}
use Rattle.loop_run.specs.declared.refusal.MakeRefusal.TheVariants.{Stuck, TooBigToRun, WrongCount, Memory}

abbrev pub refused : Trouble → MakeRefusal
refused Overflow = Stuck stuck.Overflow
refused NegativeDividend = Stuck stuck.NegativeDividend

-- a length, where it is not stuck
abbrev pub length_told : Reckoned → Result ℕ MakeRefusal
length_told (Value z) = Ok (length_of (Value z))
length_told (Fails k) = Err (refused k)

abbrev pub then_told : {A B : Type 0} → Result A MakeRefusal → (A → Result B MakeRefusal) → Result B MakeRefusal
then_told (Ok a) f = f a
then_told (Err e) f = Err e

-- the lengths in order, or the first that is stuck
abbrev pub lengths_told : (Iexp → Reckoned) → List Iexp → Result (List ℕ) MakeRefusal
lengths_told f [] = Ok []
lengths_told f (x ∷ xs) = then_told (length_told (f x)) (λ n. then_told (lengths_told f xs) (λ ns. Ok (n ∷ ns)))

-- a sum that ends at 2^64 - 1
abbrev pub total_from : ℕ → List ℕ → ℕ
total_from a [] = a
total_from a (n ∷ ns) = total_from (capped a n) ns

-- the first input of another count than its length
abbrev pub wrong_count : ℕ → List ℕ → List (List ℕ) → Option MakeRefusal
wrong_count k [] wss = None
wrong_count k (n ∷ ns) [] = None
wrong_count k (n ∷ ns) (ws ∷ wss) = if nat_eq (length ws) n then wrong_count (k + 1) ns wss else Some (WrongCount k n (length ws))

abbrev pub unless : {A : Type 0} → Option MakeRefusal → A → Result A MakeRefusal
unless (Some e) a = Err e
unless None a = Ok a

-- the word that stands at each place of outputs and scratch at the start
abbrev pub start_words : ℕ → List ℕ
start_words n = replicate n 6148914691236517205

module _ (p : Prog) (g : Given) where
  -- the buffers at these lengths
  abbrev pub held_at : List ℕ → Held
  held_at ns = record {
    sizes = g.sizes;
    memory = record {
      inputs = g.inputs;
      outputs = map start_words (take p.outputs (drop p.inputs ns));
      scratch = map start_words (take p.scratch (drop p.outputs (drop p.inputs ns)));
    };
    levels = levels p.body;
  }

  -- too many words, then a wrong count
  abbrev pub made_at : List ℕ → Result Held MakeRefusal
  made_at ns = if nat_lt (2 ^ 24) (total_from 0 ns) then Err (TooBigToRun (total_from 0 ns)) else unless (wrong_count 0 ns g.inputs) (held_at ns)

  -- a stuck length before both
  unfoldable pub made : Result Held MakeRefusal
  made = then_told (lengths_told (λ x. reckon x g.sizes []) p.lengths) made_at

-- an answer, but for want of memory
abbrev pub IsAnswer : {A : Type 0} → Result A MakeRefusal → Result A MakeRefusal → Type 0
IsAnswer (Ok a) x = Ok a ≡ x
IsAnswer (Err (Stuck k)) x = Err (Stuck k) ≡ x
IsAnswer (Err (TooBigToRun n)) x = Err (TooBigToRun n) ≡ x
IsAnswer (Err (WrongCount k n m)) x = Err (WrongCount k n m) ≡ x
IsAnswer (Err Memory) x = Unit {0}
