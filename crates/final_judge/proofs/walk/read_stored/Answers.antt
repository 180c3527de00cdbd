use Rattle.std.proofs.Common.{◌≡◌, ◌++◌, [], List, OnOk, ◌∙◌, ap, subst}
use Rattle.shape_rules.specs.Scopes.{given}
use Rattle.final_rules.specs.Goals.{Claim, full_read_claims_if}
use Rattle.final_rules.specs.Reads.{reading}
use Rattle.final_rules.specs.Rules.{goals_with}
use Rattle.final_rules.proofs.WordForms.{reading-is}
use Rattle.final_judge.proofs.StandLaws.{stored-stands}
use Rattle.final_judge.proofs.walk.read_stored.Goals as goal

pub full_read_if-requires : goal.full_read_if-requires
full_read_if-requires c =
    stored-stands c.args.shapes.now c.args.spot.now c.args.term.now c.as_slice.result.now c.in_ok-read.read
    (c.as_slice.ensures ∙ c.in_ok-extents.ensures.extents)
    (c.in_ok-read.ensures ∙ ap (reading c.args.term.now) c.new.ensures ∙ reading-is c.args.term.now [])
    c.requires

pub returns : goal.returns
returns c =
    let e = c.in_ok-read.ensures ∙ ap (reading c.args.term.now) c.new.ensures ∙ reading-is c.args.term.now [] in
    let n = c.as_slice.ensures ∙ c.in_ok-extents.ensures.extents in
    subst (λ (cs : List Claim). OnOk c.full_read_if.result (c.full_read_if.new.goals ≡ c.args.goals.now ++ goals_with c.args.facts.now cs))
    (λ i. full_read_claims_if (n i) (e i) c.args.spot.now (given c.args.shapes.now)) c.full_read_if.ensures
