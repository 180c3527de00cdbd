-- What is to be shown, and how it is told: a block for each claim, up to and with the first that is not shown.
use Rattle.std.specs.Prelude.{◌≤◌, ℕ, ◌+◌, Bool, true, false, ◌&&◌, if◌then◌else◌, List, [], ◌∷◌, ◌++◌, length, codes, decimal, IsTrue}
use Rattle.std.specs.Prelude.{Option, Some, None}
use Rattle.affine_index.specs.declared.cond.Cmp.{Cmp}
use Rattle.affine_index.specs.declared.form.Items.{Items}
use Rattle.fact_list.specs.Facts.{binders, comparisons, facts_of, moves_fit}
use Rattle.fact_list.specs.declared.facts.Facts.{Facts}
use Rattle.linear_cert.specs.Shown.{is_shown}
use Rattle.linear_cert.specs.declared.lines.Lines.{Lines}
use Rattle.term_tree.specs.declared.term.SizeDecl.{SizeDecl}
use Rattle.facts_text.specs.Form.{Text, comparison_text, form_text}
use Rattle.facts_text.specs.declared.block.Title.{Title}
use Rattle.facts_text.specs.declared.block.Title.TheVariants.{Condition, Goal}

-- what is to be shown: a form that is to be at least 0, if it is within the limits of forms, the facts that may show it, and the lines that are to
pub record Claim : Type 0 where
  pub title : Title
  pub goal : Option Items
  pub facts : Facts
  pub lines : Lines

-- whether lines show a form by facts; one that breaks a limit is not shown
abbrev pub shows : Facts → Option Items → Lines → Bool
shows f None ls = false
shows f (Some g) ls = is_shown f g ls

-- whether its lines show a claim
abbrev pub is_met : Claim → Bool
is_met c = shows c.facts c.goal c.lines

-- whether so of each
abbrev pub all_met : List Claim → Bool
all_met [] = true
all_met (c ∷ cs) = is_met c && all_met cs

-- which claim it is: a condition of a step, or a goal of the last version, each counted from 1
abbrev pub title_text : Title → Text
title_text (Condition step condition) = codes "step " ++ decimal step ++ codes " condition " ++ decimal condition
title_text (Goal goal) = codes "goal " ++ decimal goal

-- how it came out
abbrev pub verdict_text : Bool → Text
verdict_text true = codes ": shown\n"
verdict_text false = codes ": not shown\n"

module _ (sizes : List SizeDecl) (vars : ℕ) where
  -- a fact with its number
  abbrev pub fact_line : ℕ → Cmp → Text
  fact_line number c = decimal number ++ codes ": " ++ comparison_text sizes vars c ++ codes "\n"

  -- facts, of which the first has this number
  abbrev pub fact_lines : ℕ → List Cmp → Text
  fact_lines number [] = []
  fact_lines number (c ∷ cs) = fact_line number c ++ fact_lines (number + 1) cs

  -- the form that is to be at least 0
  abbrev pub goal_line : Items → Text
  goal_line g = codes "goal " ++ form_text sizes vars g ++ codes " >= 0\n"

-- the goal and its facts, with the variables of the path
abbrev pub known_text : List SizeDecl → Facts → Items → Text
known_text sizes f g = goal_line sizes (binders f.path) g ++ fact_lines sizes (binders f.path) 1 (comparisons (facts_of f g))

-- nothing where the form breaks a limit
abbrev pub goal_text : List SizeDecl → Facts → Option Items → Text
goal_text sizes f None = []
goal_text sizes f (Some g) = known_text sizes f g

-- the block of a claim
abbrev pub block : List SizeDecl → Claim → Text
block sizes c = title_text c.title ++ verdict_text (is_met c) ++ goal_text sizes c.facts c.goal

-- the blocks of claims in order, up to and with the first that is not shown
abbrev pub blocks : List SizeDecl → List Claim → Text
blocks sizes [] = []
blocks sizes (c ∷ cs) = block sizes c ++ (if is_met c then blocks sizes cs else [])

-- facts that may be listed: few enough, with variable numbers that stay small when they are moved
pub record MayList (f : Facts) : Type 0 where
  pub sizes : length f.sizes ≤ 2147483647
  pub path : length f.path ≤ 2147483647
  pub fits : IsTrue (moves_fit f.path)
