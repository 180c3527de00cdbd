use Rattle.std.proofs.Common.{rules}
use Rattle.path_focus.proofs.TrailLaws.{go_on, may_enter, may_return, reaches_steps}
use Rattle.path_focus.proofs.trail.Trail.+go.Goals as goal

pub enter-requires : goal.enter-requires
enter-requires t c = may_enter c.args.self.now c.args.term.now c.requires

pub go-requires : goal.go-requires
go-requires t c = (
  search rules,
  go_on c.args.term.now _ c.args.self.now c.enter.new.self c.in-Some.inside.now c.in-Some.ensures c.in_ok-enter-in-Some.ensures
      c.requires,
)

pub leave-requires : goal.leave-requires
leave-requires t c =
    may_return c.args.term.now _ _ c.args.self.now c.enter.new.self c.go.new.self c.in-Some.inside.now c.in_ok-found-in-Some.found c.in-Some.ensures
    c.in_ok-enter-in-Some.ensures c.requires c.in_ok-found-in-Some.ensures

pub returns-in_ok-leave-in-Some : goal.returns-in_ok-leave-in-Some
returns-in_ok-leave-in-Some t c =
    reaches_steps c.args.term.now c.args.steps.now c.args.self.now c.enter.new.self c.go.new.self c.leave.new.self c.in-Some.inside.now
    c.in_ok-found-in-Some.found c.in-len1-up.len_at_least
    c.in-Some.ensures c.in_ok-enter-in-Some.ensures c.in_ok-found-in-Some.ensures c.in_ok-leave-in-Some.ensures
