use Rattle.std.proofs.Common.{subst, sym, IfOk}
use Rattle.binders.specs.Answers.{IsWithinReach}
use Rattle.binders.specs.PlainMaps.{put_tensor_reach}
use Rattle.path_focus.specs.Outcome.{IsDraft}
use Rattle.rules_let.specs.Table.{inlined}
use Rattle.term_tree.specs.declared.term.Term.{Term}
use Rattle.rules_let.proofs.drafts.inlined.Goals as goal

pub with_tensor-requires-clause-within : goal.with_tensor-requires-clause-within
with_tensor-requires-clause-within c = subst (λ (by : Term). IsWithinReach (put_tensor_reach by 0) c.args.body.now) (sym c.in-Ok.ensures) c.requires.within

pub returns-in-Ok : goal.returns-in-Ok
returns-in-Ok c = subst (λ (by : Term). IfOk c.with_tensor.result (IsDraft (inlined by c.args.body.now))) c.in-Ok.ensures c.with_tensor.ensures
