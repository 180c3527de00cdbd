use Rattle.std.proofs.Common.{◌≡◌, ◌++◌, List, OnOk, subst}
use Rattle.shape_rules.specs.Scopes.{given}
use Rattle.final_rules.specs.Goals.{Claim}
use Rattle.final_rules.specs.Rules.{goals_with}
use Rattle.final_rules.proofs.WordForms.{falls, guard-less, two-less}
use Rattle.final_judge.proofs.WordClaims.{guard-claims, read-claims, two-claims}
use Rattle.final_judge.proofs.reads.+word.Goals as goal

pub word_goals-chosen-requires : goal.word_goals-chosen-requires
word_goals-chosen-requires t c = (
  falls c.decreases (guard-less c.args.term.now c.in-Guard.cond c.in-Guard.part c.get.result.now c.get.ensures c.in-Guard.is),
  tt,
)

pub word_goals-words-requires : goal.word_goals-words-requires
word_goals-words-requires t c = (
  falls c.decreases (two-less c.args.term.now c.in-Add.a c.in-Add.b c.get-in-Add.result.now c.get-in-Add-2.result.now c.get-in-Add.ensures
      c.get-in-Add-2.ensures c.in-Add.is),
  tt,
)

pub word_goals-returns-in-Guard : goal.word_goals-returns-in-Guard
word_goals-returns-in-Guard t c =
    subst (λ (cs : List Claim). OnOk c.chosen.result (c.chosen.new.goals ≡ c.args.goals.now ++ goals_with c.args.facts.now cs))
    (guard-claims c.args.facts.now.path (given c.args.shapes.now) c.args.term.now c.in-Guard.cond c.in-Guard.part c.get.result.now c.get.ensures c.in-Guard.is)
    c.chosen.ensures

pub word_goals-returns-in-TVar : goal.word_goals-returns-in-TVar
word_goals-returns-in-TVar t c =
    subst (λ (cs : List Claim). OnOk c.read_term.result (c.read_term.new.goals ≡ c.args.goals.now ++ goals_with c.args.facts.now cs))
    (read-claims c.args.facts.now.path (given c.args.shapes.now) c.args.term.now c.in-TVar.is) c.read_term.ensures

pub word_goals-returns-in-Add : goal.word_goals-returns-in-Add
word_goals-returns-in-Add t c =
    subst (λ (cs : List Claim). OnOk c.words.result (c.words.new.goals ≡ c.args.goals.now ++ goals_with c.args.facts.now cs))
    (two-claims c.args.facts.now.path (given c.args.shapes.now) c.args.term.now c.in-Add.a c.in-Add.b c.get-in-Add.result.now c.get-in-Add-2.result.now
    c.get-in-Add.ensures c.get-in-Add-2.ensures c.in-Add.is)
    c.words.ensures
