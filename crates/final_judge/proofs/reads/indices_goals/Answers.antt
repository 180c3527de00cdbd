use Rattle.std.proofs.Common.{◌++◌, ◌∙◌, ap, append-nil, arith, inr, sym}
use Rattle.final_rules.specs.Rules.{goals_with}
use Rattle.final_judge.proofs.ClaimLaws.{claims-end}
use Rattle.final_judge.proofs.reads.indices_goals.Goals as goal

pub returns-else-at-extents : goal.returns-else-at-extents
returns-else-at-extents c =
    let l = c.loop-at in
    sym (append-nil l.goals)
    ∙ ap (λ cs. l.goals ++ goals_with c.args.facts.now cs)
    (sym (claims-end c.args.facts.now.path c.args.indices.now c.args.extents.now l.at (inr (omega arith))))
    ∙ l.invariant
