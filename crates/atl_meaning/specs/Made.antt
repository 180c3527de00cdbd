-- Answers that are made of another answer.
use Rattle.std.specs.Prelude.{◌≡◌, IfOk, Result, Ok}

-- where there is an answer, there is the one that it is made of, and the two are in this relation
abbrev pub IsOf : {A B E : Type 0} → (A → B → Type 0) → Result A E → Result B E → Type 0
IsOf {A} P before after = IfOk after (λ b. (a : A) × (before ≡ Ok a) × P a b)

-- where there is an answer, it is this function of the one that it is made of
abbrev pub IsMade : {A B E : Type 0} → (A → B) → Result A E → Result B E → Type 0
IsMade f = IsOf (λ a b. b ≡ f a)
