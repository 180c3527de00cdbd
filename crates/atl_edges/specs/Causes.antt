-- Counts of faults, and when they tell that a call failed.
use Rattle.std.specs.Prelude.{◌≡◌, ℕ, Bool, ◌+◌, ◌-◌, ◌^◌, ◌<◌, ◌⊎◌, ◌==◌, min, List, if◌then◌else◌}
use Rattle.std.specs.List.{list_any}

-- the count is greater than before the call, or stands at the end of a u64
abbrev pub Rose : ℕ → ℕ → Type 0
Rose before now = (before < now) ⊎ (now ≡ 2 ^ 64 - 1)

-- one more, up to the end of a u64
abbrev pub counted : ℕ → ℕ
counted count = min (count + 1) (2 ^ 64 - 1)

-- the count of faults after a call that failed, or did not
abbrev pub faults_after : Bool → ℕ → ℕ
faults_after failed faults = if failed then counted faults else faults

-- after so many calls, the list of call numbers makes the next one fail: the first call has number 1
abbrev pub is_listed : List ℕ → ℕ → Bool
is_listed failing calls = list_any (λ number. number == calls + 1) failing
