use Rattle.std.proofs.Common.{◌≡◌, ◌+◌, ◌++◌, ◌∷◌, [], subst, sym}
use Rattle.binders.specs.Answers.{IsWithinReach}
use Rattle.binders.specs.PlainMaps.{shift_reach}
use Rattle.path_focus.specs.Trail.{moved_let}
use Rattle.path_focus.proofs.trail.Trail.bind.Goals as goal

pub moved-requires-clause-within : goal.moved-requires-clause-within
moved-requires-clause-within c = subst (λ n. IsWithinReach (shift_reach c.args.self.now.over (n + 1)) c.args.a.now) (sym c.len-var.ensures) c.requires.within

pub returns : goal.returns
returns c =
    let e : c.push.new.self ≡ c.args.self.now.bound ++ moved_let c.args.self.now c.args.a.now
    ∷ [] = cc (c.in_ok-push.ensures.ok, c.in_ok-term.ensures, c.len-var.ensures) in
    λ i. record { path = c.args.self.now.path; shapes = c.args.self.now.shapes; over = c.args.self.now.over; bound = e i }
