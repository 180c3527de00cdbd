-- Limited runs of lists of actions, one after another.
use Rattle.std.proofs.Common.{◌≡◌, ℕ, zero, suc, ◌+◌, List, [], ◌∷◌, refl, sym, ap, ◌∙◌}
use Rattle.loop_lang.specs.Actions.{Action, Tick, Store, Trip, then_follow, turns}
use Rattle.loop_run.specs.Limited.{State, Progress, Goes, Halts, next, acted, begun, followed}
use Rattle.loop_run.specs.Statements.{turned}

pub next-assoc : (p : Progress) (f g : State → Progress) → next (next p f) g ≡ next p (λ t. next (f t) g)
next-assoc (Goes t) f g = refl
next-assoc (Halts h m) f g = refl

pub followed-then_follow : (limit : ℕ) (xs ys : List Action) (t : State) → followed limit (then_follow xs ys) t ≡ next (followed limit xs t) (followed limit ys)
followed-then_follow limit [] ys t = refl
followed-then_follow limit (Tick ∷ xs) ys t = ap (next (acted limit Tick t)) (λ j u. followed-then_follow limit xs ys u j)
    ∙ sym (next-assoc (acted limit Tick t) (followed limit xs) (followed limit ys))
followed-then_follow limit (Store o b w i ∷ xs) ys t = ap (next (acted limit (Store o b w i) t)) (λ j u. followed-then_follow limit xs ys u j)
    ∙ sym (next-assoc (acted limit (Store o b w i) t) (followed limit xs) (followed limit ys))
followed-then_follow limit (Trip k ls ∷ xs) ys t = refl

pub followed-turns : (limit i n : ℕ) (f : ℕ → List Action) (t : State) → followed limit (turns i n f) t ≡ turned limit i n (λ j. followed limit (f j)) t
followed-turns limit i zero f t = refl
followed-turns limit i (suc n) f t =
    ap (next (begun limit t)) (λ j u.
    (followed-then_follow limit (f i) (turns (i + 1) n f) u ∙ ap (next (followed limit (f i) u)) (λ k v. followed-turns limit (i + 1) n f v k)) j)
    ∙ sym (next-assoc (begun limit t) (followed limit (f i)) (turned limit (i + 1) n (λ j. followed limit (f j))))
