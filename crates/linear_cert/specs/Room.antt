-- How large an attempt of the procedure can become, and what one step of it is. Only the code's own clauses speak of these.
use Rattle.std.specs.Prelude.{◌≡◌, ℕ, ◌+◌, ◌*◌, ◌^◌, ◌<◌, ◌≤◌, List, [], ◌∷◌, length, ℤ, pos, ◌+ℤ◌, ◌≤ℤ◌, true}
use Rattle.affine_index.specs.Normal.{is_ordered}
use Rattle.affine_index.specs.Wide.{norm}
use Rattle.fact_list.specs.declared.role.Fact.{Fact}
use Rattle.linear_cert.specs.DefaultLines.{less_fact, limited_attempt, multipliers_fit, replaced}
use Rattle.linear_cert.specs.declared.attempt.Attempt.{Attempt}
use Rattle.linear_cert.specs.declared.attempt.Step.{Step}

-- each multiplier is at least the negated multiplier of the goal
abbrev pub AllAbove : ℕ → List ℤ → Type 0
AllAbove m [] = Unit {0}
AllAbove m (z ∷ zs) = (pos 0 ≤ℤ (z +ℤ pos m)) × AllAbove m zs

-- an attempt after so many replacements: its numbers are small, and its multipliers within their limit
pub record Room (facts : List Fact) (count : ℕ) (a : Attempt) : Type 0 where
  pub small : norm a.left ≤ a.goal_times * (2 ^ 50 + count * 2 ^ 80)
  pub ordered : is_ordered a.left ≡ true
  pub some : 0 < a.goal_times
  pub most : a.goal_times ≤ 2 ^ 31
  pub fit : multipliers_fit a.times ≡ true
  pub above : AllAbove a.goal_times a.times
  pub each : length a.times ≡ length facts

-- a step of an attempt: what is replaced after it, and that its numbers are small
pub record StepOf (facts : List Fact) (a : Attempt) (s : Step) : Type 0 where
  pub within : s.fact < length facts
  pub some : 0 < s.by
  pub product : s.by * a.goal_times ≤ 2 ^ 31
  pub small : s.amount ≤ 2 ^ 32
  pub is : replaced facts a ≡ limited_attempt (less_fact facts a s.by s.amount s.fact)
