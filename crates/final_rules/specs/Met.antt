-- Whether lines show a goal.
use Rattle.std.specs.Prelude.{◌≤◌, Bool, false, List, [], ◌∷◌, length, IsTrue, Option, Some, None}
use Rattle.fact_list.specs.Facts.{moves_fit}
use Rattle.affine_index.specs.declared.form.Items.{Items}
use Rattle.fact_list.specs.declared.facts.Facts.{Facts}
use Rattle.linear_cert.specs.Shown.{is_shown}
use Rattle.linear_cert.specs.declared.lines.Lines.{Lines}
use Rattle.final_rules.specs.declared.goal.Goal.{Goal}

-- whether lines show a form, if there is one
abbrev pub shows : Facts → Option Items → Lines → Bool
shows f None lines = false
shows f (Some x) lines = is_shown f x lines

abbrev pub is_met : Goal → Lines → Bool
is_met g lines = shows g.facts g.goal lines

-- a goal whose facts lines may be tried on: few enough, with variable numbers that stay small when they are moved
pub record CanBeMet (g : Goal) : Type 0 where
  pub sizes : length g.facts.sizes ≤ 2147483647
  pub path : length g.facts.path ≤ 2147483647
  pub fits : IsTrue (moves_fit g.facts.path)

abbrev pub AllCanBeMet : List Goal → Type 0
AllCanBeMet [] = Unit {0}
AllCanBeMet (g ∷ gs) = CanBeMet g × AllCanBeMet gs
