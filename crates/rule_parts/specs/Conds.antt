-- Conditions of guards.
use Rattle.std.specs.Prelude.{All, ◌≡◌, true, ℕ, List, [], ◌∷◌, ◌++◌, drop, take, negsuc, pos}
use Rattle.affine_index.specs.Condition.{cmp_form}
use Rattle.affine_index.specs.Form.{literal_form}
use Rattle.affine_index.specs.Put.{moved, numbers_fit}
use Rattle.affine_index.specs.Sum.{scaled}
use Rattle.affine_index.specs.declared.cond.Cmp.{Cmp}
use Rattle.affine_index.specs.declared.cond.Cmp.TheVariants.{Ge, Eq}
use Rattle.affine_index.specs.declared.cond.Cond.{Cond}
use Rattle.affine_index.specs.declared.form.Items.{Items}
use Rattle.binders.specs.Maps.{put_cond}
use Rattle.binders.specs.PlainMaps.{put_for}
use Rattle.fact_list.specs.declared.facts.Facts.{Facts}
use Rattle.path_focus.specs.Making.{owed, rest_below}
use Rattle.path_focus.specs.declared.rule.Condition.{Condition}

-- both conditions
abbrev pub joined : Cond → Cond → Cond
joined c d = record { all = c.all ++ d.all }

-- the first comparisons, and those behind them
abbrev pub first_of : ℕ → Cond → Cond
first_of j c = record { all = take j c.all }

abbrev pub rest_of : ℕ → Cond → Cond
rest_of j c = record { all = drop j c.all }

-- the condition under one more gen or sum
abbrev pub raised : Cond → Cond
raised c = put_cond (moved 0 1) c

-- no number of a variable becomes too large under one more gen or sum
abbrev pub MayRise : List Cmp → Type 0
MayRise cs = All (λ c. numbers_fit 0 1 (cmp_form c) ≡ true) cs

-- the condition without the innermost gen or sum around it; where it is free of its variable, any form may stand for it
abbrev pub lowered : Cond → Cond
lowered c = put_cond (put_for (literal_form (pos 0) ∷ []) 0 0) c

-- a form is at least 0
abbrev pub at_least : Items → Cond
at_least x = record { all = Ge x ∷ [] }

-- a form is below 0
abbrev pub below_zero : Items → Cond
below_zero x = at_least (rest_below (literal_form (pos 0)) x)

-- two forms are at least 0
abbrev pub both_at_least : Items → Items → Cond
both_at_least x y = record { all = Ge x ∷ (Ge y ∷ []) }

-- 0 <= x < n
abbrev pub within_rows : Items → Items → Cond
within_rows n x = both_at_least x (rest_below n x)

-- that a comparison holds: a number is at least 0, and for an equation its opposite too
abbrev pub goals_of_cmp : Facts → Cmp → List Condition
goals_of_cmp f (Ge x) = owed f x ∷ []
goals_of_cmp f (Eq x) = owed f x ∷ (owed f (scaled (negsuc 0) x) ∷ [])

-- that each comparison holds, in order
abbrev pub goals_of : Facts → List Cmp → List Condition
goals_of f [] = []
goals_of f (c ∷ cs) = goals_of_cmp f c ++ goals_of f cs
