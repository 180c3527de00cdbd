-- The truncations around a leaf as code walks them.
use Rattle.std.proofs.Common.{◌≡◌, ℕ, List, ◌∷◌, ◌++◌, append_assoc, refl, ap, sym, ◌∙◌}
use Rattle.affine_index.specs.declared.form.Items.{Items}
use Rattle.fact_list.specs.declared.facts.Facts.{Facts}
use Rattle.reindexer.specs.Indices.{framed}
use Rattle.fact_list.specs.Facts.{binders}
use Rattle.final_rules.specs.Goals.{drops, kept_by}
use Rattle.final_rules.specs.Places.{frame_of}
use Rattle.final_rules.specs.Rules.{goals_with}
use Rattle.final_rules.specs.declared.goal.Goal.{Goal}
use Rattle.final_rules.specs.declared.spot.Around.{Around}
use Rattle.final_rules.specs.declared.spot.Around.TheVariants.{Loop, Swapped, Joined, Tiled, Later, Without, Before}
use Rattle.final_judge.specs.Ready.{step_ready}
use Rattle.final_judge.proofs.ClaimLaws.{goals-append}

pub ready-under : (loops : ℕ) (f : Around) → step_ready (frame_of 0 f) ≡ step_ready (frame_of loops f)
ready-under loops (Loop k) = refl
ready-under loops Swapped = refl
ready-under loops (Joined m) = refl
ready-under loops (Tiled k) = refl
ready-under loops (Later a) = refl
ready-under loops (Without a) = refl
ready-under loops (Before m) = refl

-- the goals of one more node stand in front of those inside it
pub drops-step : (f : Facts) (a : Around) (as' : List Around) (xs : List Items) (gs : List Goal)
    → goals_with f (drops f.path as' (framed (frame_of (binders f.path) a) xs)) ++ (goals_with f (kept_by a f.path xs) ++ gs)
    ≡ goals_with f (drops f.path (a ∷ as') xs) ++ gs
drops-step f a as' xs gs =
    let inner = drops f.path as' (framed (frame_of (binders f.path) a) xs) in
    sym (append_assoc (goals_with f inner) (goals_with f (kept_by a f.path xs)) gs) ∙ ap (λ hs. hs ++ gs) (sym (goals-append f inner (kept_by a f.path xs)))
