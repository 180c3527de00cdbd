-- What a read answers.
use Rattle.std.specs.Prelude.{◌≡◌, ℕ, Bool, true, false, List, length, nat_le, min, Ok, Err, MatchResult, IsErrOf, if◌then◌else◌}
use Rattle.std.specs.declared.result.Result.{Result}
use Rattle.std.specs.declared.vec.Vec.{Vec}
use Rattle.atl_edges.specs.declared.refusals.ReadRefusal.{ReadRefusal}
use Rattle.atl_edges.specs.declared.refusals.ReadRefusal.TheVariants.{Failed, TooLong, Memory}

-- a content within the limit of a file, or that it is too long
abbrev pub within_limit : List ℕ → Result (List ℕ) ReadRefusal
within_limit content = if nat_le (length content) 1048576 then Ok content else Err TooLong

-- how many bytes a read takes of a content: no more than show that it is too long
abbrev pub taken_of : List ℕ → ℕ
taken_of content = min (length content) 1048577

module _ {A : Type 0} where
  -- the answer tells a failure
  abbrev pub is_failed : Result A ReadRefusal → Bool
  is_failed (Err Failed) = true
  is_failed (Err TooLong) = false
  is_failed (Err Memory) = false
  is_failed (Ok bytes) = false

module _ {A : Type 0} where
  -- the answer is the wanted one; for a wanted content alone, memory may not have sufficed
  abbrev pub Answers : Result (List ℕ) ReadRefusal → Result (Vec ℕ A) ReadRefusal → Type 0
  Answers (Ok content) answer = MatchResult answer (λ bytes. bytes.items ≡ content) (λ refusal. refusal ≡ Memory)
  Answers (Err refusal) answer = IsErrOf answer refusal
