-- Blocks of claims one after another.
use Rattle.std.proofs.Common.{◌≡◌, ℕ, ◌+◌, ◌<◌, Bool, true, false, ◌&&◌, if◌then◌else◌, List, [], ◌∷◌, ◌++◌, length, get_or, drop, refl, ap, sym, ◌∙◌, append_assoc}
use Rattle.std.proofs.lemmas.List.{append-nil, drop_more}
use Rattle.facts_run.specs.Claims.{condition_claim, condition_claims, goal_claim, goal_claims}
use Rattle.facts_text.specs.Block.{Claim, all_met, block, blocks, is_met}
use Rattle.facts_text.specs.Form.{Text}
use Rattle.final_rules.specs.declared.goal.Goal.{Goal}
use Rattle.linear_cert.specs.declared.lines.FinalLine.{FinalLine}
use Rattle.linear_cert.specs.declared.lines.Lines.{Lines}
use Rattle.path_focus.specs.declared.rule.Condition.{Condition}
use Rattle.term_tree.specs.declared.term.SizeDecl.{SizeDecl}

module _ {A : Type 0} where
  -- the items from one on
  from_here : (xs : List A) (i : ℕ) (x : A) → i < length xs → x ≡ get_or xs i x → drop i xs ≡ x ∷ drop (i + 1) xs
  from_here xs i x lt is = drop_more xs i x lt ∙ ap (λ y. y ∷ drop (i + 1) xs) (sym is)

both_true : (a b : Bool) → (a && b) ≡ true → (a ≡ true) × (b ≡ true)
both_true true b h = (refl, h)
both_true false b h = absurd (cc)

module _ (sizes : List SizeDecl) where
  blocks_met : (c : Claim) (cs : List Claim) → is_met c ≡ true → blocks sizes (c ∷ cs) ≡ block sizes c ++ blocks sizes cs
  blocks_met c cs h = ap (λ b. block sizes c ++ (if b then blocks sizes cs else [])) h

  blocks_unmet : (c : Claim) (cs : List Claim) → is_met c ≡ false → blocks sizes (c ∷ cs) ≡ block sizes c
  blocks_unmet c cs h = ap (λ b. block sizes c ++ (if b then blocks sizes cs else [])) h ∙ append-nil (block sizes c)

  -- one block more, after which others may come
  pub one_more : (c : Claim) (cs : List Claim) (old new : Text) → new ≡ old ++ block sizes c → is_met c ≡ true
      → new ++ blocks sizes cs ≡ old ++ blocks sizes (c ∷ cs)
  one_more c cs old new e h =
      ap (λ t. t ++ blocks sizes cs) e
      ∙ append_assoc old (block sizes c) (blocks sizes cs)
      ∙ ap (λ t. old ++ t) (sym (blocks_met c cs h))

  -- the last block
  pub last_one : (c : Claim) (cs : List Claim) (old new : Text) → new ≡ old ++ block sizes c → is_met c ≡ false → new ≡ old ++ blocks sizes (c ∷ cs)
  last_one c cs old new e h = e ∙ ap (λ t. old ++ t) (sym (blocks_unmet c cs h))

  -- where each of the first claims is met
  pub blocks_on : (xs ys : List Claim) → all_met xs ≡ true → blocks sizes (xs ++ ys) ≡ blocks sizes xs ++ blocks sizes ys
  blocks_on [] ys h = refl
  blocks_on (x ∷ xs) ys h =
      let p = both_true (is_met x) (all_met xs) h in
      blocks_met x (xs ++ ys) p.0
      ∙ ap (λ t. block sizes x ++ t) (blocks_on xs ys p.1)
      ∙ sym (append_assoc (block sizes x) (blocks sizes xs) (blocks sizes ys))
      ∙ ap (λ t. t ++ blocks sizes ys) (sym (blocks_met x xs p.0))

  -- the condition at a place, which its lines show, and those behind it
  pub condition_more : (step : ℕ) (ls : List Lines) (cs : List Condition) (i : ℕ) (c : Condition) (old new : Text) → i < length cs → c ≡ get_or cs i c
      → new ≡ old ++ block sizes (condition_claim step ls i c) → is_met (condition_claim step ls i c) ≡ true
      → new ++ blocks sizes (condition_claims step ls (i + 1) (drop (i + 1) cs)) ≡ old ++ blocks sizes (condition_claims step ls i (drop i cs))
  condition_more step ls cs i c old new lt is e h =
      one_more (condition_claim step ls i c) (condition_claims step ls (i + 1) (drop (i + 1) cs)) old new e h
      ∙ ap (λ xs. old ++ blocks sizes (condition_claims step ls i xs)) (sym (from_here cs i c lt is))

  -- the same of one that they do not show
  pub condition_last : (step : ℕ) (ls : List Lines) (cs : List Condition) (i : ℕ) (c : Condition) (old new : Text) → i < length cs → c ≡ get_or cs i c
      → new ≡ old ++ block sizes (condition_claim step ls i c) → is_met (condition_claim step ls i c) ≡ false
      → new ≡ old ++ blocks sizes (condition_claims step ls i (drop i cs))
  condition_last step ls cs i c old new lt is e h =
      last_one (condition_claim step ls i c) (condition_claims step ls (i + 1) (drop (i + 1) cs)) old new e h
      ∙ ap (λ xs. old ++ blocks sizes (condition_claims step ls i xs)) (sym (from_here cs i c lt is))

  -- the goal at a place, which its lines show, and those behind it
  pub goal_more : (finals : List FinalLine) (gs : List Goal) (i : ℕ) (g : Goal) (old new : Text) → i < length gs → g ≡ get_or gs i g
      → new ≡ old ++ block sizes (goal_claim finals (i + 1) g) → is_met (goal_claim finals (i + 1) g) ≡ true
      → new ++ blocks sizes (goal_claims finals (i + 1 + 1) (drop (i + 1) gs)) ≡ old ++ blocks sizes (goal_claims finals (i + 1) (drop i gs))
  goal_more finals gs i g old new lt is e h =
      one_more (goal_claim finals (i + 1) g) (goal_claims finals (i + 1 + 1) (drop (i + 1) gs)) old new e h
      ∙ ap (λ xs. old ++ blocks sizes (goal_claims finals (i + 1) xs)) (sym (from_here gs i g lt is))

  -- the same of one that they do not show
  pub goal_last : (finals : List FinalLine) (gs : List Goal) (i : ℕ) (g : Goal) (old new : Text) → i < length gs → g ≡ get_or gs i g
      → new ≡ old ++ block sizes (goal_claim finals (i + 1) g) → is_met (goal_claim finals (i + 1) g) ≡ false
      → new ≡ old ++ blocks sizes (goal_claims finals (i + 1) (drop i gs))
  goal_last finals gs i g old new lt is e h =
      last_one (goal_claim finals (i + 1) g) (goal_claims finals (i + 1 + 1) (drop (i + 1) gs)) old new e h
      ∙ ap (λ xs. old ++ blocks sizes (goal_claims finals (i + 1) xs)) (sym (from_here gs i g lt is))
