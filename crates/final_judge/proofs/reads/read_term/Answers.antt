use Rattle.std.proofs.Common.{◌≡◌, ◌++◌, [], OnOk, ◌∙◌, ap, subst}
use Rattle.std.specs.Prelude.{Option}
use Rattle.shape_rules.specs.Scopes.{given}
use Rattle.final_rules.specs.Goals.{read_claims_if}
use Rattle.final_rules.specs.Reads.{reading}
use Rattle.final_rules.specs.Rules.{goals_with}
use Rattle.final_rules.specs.declared.read.Read.{Read}
use Rattle.final_rules.proofs.WordForms.{reading-is}
use Rattle.final_judge.proofs.reads.read_term.Goals as goal

pub returns : goal.returns
returns c =
    let f = c.args.facts.now in
    let claims = λ (o : Option Read). read_claims_if o f.path (given c.args.shapes.now) in
    subst (λ (o : Option Read). OnOk c.read_goals_if.result (c.read_goals_if.new.goals ≡ c.args.goals.now ++ goals_with f (claims o)))
    (c.in_ok-read.ensures ∙ ap (reading c.args.term.now) c.new.ensures ∙ reading-is c.args.term.now []) c.read_goals_if.ensures
