use Rattle.std.proofs.Common.{◌≡◌, ◌++◌, List, OnOk, ◌∙◌, arith, inl, inr, refl, subst, sym}
use Rattle.shape_rules.specs.Scopes.{given}
use Rattle.term_tree.specs.Syntax.{add}
use Rattle.term_tree.proofs.Forms.{Add-is}
use Rattle.region_plan.proofs.WalkLaws.{falls, let_less, one_less, two_less}
use Rattle.final_rules.specs.Goals.{Claim}
use Rattle.final_rules.specs.Rules.{goals_with}
use Rattle.final_rules.specs.Steps.{child_spot}
use Rattle.final_judge.proofs.StandLaws.{concat-stands, let-stands, part-stands}
use Rattle.final_judge.proofs.WalkClaims.{concat-claims, let-claims, part-claims}
use Rattle.final_judge.proofs.walk.+walk.Goals as goal

pub term_goals-let_goals-requires : goal.term_goals-let_goals-requires
term_goals-let_goals-requires t c =
    let l = let_less c.args.term.now c.in-Let.a c.in-Let.b c.get.result.now c.get-in-Let.result.now c.get.ensures c.get-in-Let.ensures c.in-Let.is in
    let s = let-stands c.args.shapes.now c.args.spot.now c.args.term.now c.in-Let.a c.in-Let.b c.get.result.now c.get-in-Let.result.now c.get.ensures
    c.get-in-Let.ensures c.in-Let.is c.requires in
    (falls c.decreases (omega (arith, l)), s)

pub term_goals-sum_goals-requires : goal.term_goals-sum_goals-requires
term_goals-sum_goals-requires t c =
    let l = two_less c.args.term.now c.in-Add.a c.in-Add.b c.get-in-Add.result.now c.get-in-Add-2.result.now c.get-in-Add.ensures c.get-in-Add-2.ensures
    (inl c.in-Add.is) in
    let e = c.in-Add.is ∙ Add-is c.in-Add.a c.in-Add.b ∙ (λ i. add (sym c.get-in-Add.ensures i) (sym c.get-in-Add-2.ensures i)) in
    (falls c.decreases (omega (arith, l)), (e, c.requires))

pub term_goals-joined_goals-requires : goal.term_goals-joined_goals-requires
term_goals-joined_goals-requires t c =
    let l = two_less c.args.term.now c.in-Concat.a c.in-Concat.b c.get-in-Concat.result.now c.get-in-Concat-2.result.now c.get-in-Concat.ensures
    c.get-in-Concat-2.ensures (inr (inr (inr c.in-Concat.is))) in
    let s = concat-stands c.args.shapes.now c.args.spot.now c.args.term.now c.in-Concat.a c.in-Concat.b c.get-in-Concat.result.now
    c.get-in-Concat-2.result.now c.get-in-Concat.ensures c.get-in-Concat-2.ensures c.in-Concat.is c.requires in
    (falls c.decreases (omega (arith, l)), s)

pub term_goals-part_goals-requires : goal.term_goals-part_goals-requires
term_goals-part_goals-requires t c =
    let q = c.args.spot.now in
    let f = c.args.term.now in
    let l = one_less f c.in-Gen.part c.get-in-Gen.result.now c.get-in-Gen.ensures (inr c.in-Gen.is) in
    let s = part-stands c.args.shapes.now q (child_spot f (given c.args.shapes.now) q) f c.in-Gen.part c.get-in-Gen.result.now c.get-in-Gen.ensures c.in-Gen.is
    refl c.requires in
    (falls c.decreases (omega (arith, l)), (c.requires, s))

pub term_goals-returns-in-Let-clause-goals : goal.term_goals-returns-in-Let-clause-goals
term_goals-returns-in-Let-clause-goals t c =
    subst (λ (cs : List Claim). OnOk c.let_goals.result (c.let_goals.new.goals ≡ c.args.goals.now ++ goals_with c.args.facts.now cs))
    (let-claims c.args.spot.now (given c.args.shapes.now) c.args.term.now c.in-Let.a c.in-Let.b c.get.result.now c.get-in-Let.result.now c.get.ensures
    c.get-in-Let.ensures c.in-Let.is)
    c.let_goals.ensures.goals

pub term_goals-returns-in-Concat-clause-goals : goal.term_goals-returns-in-Concat-clause-goals
term_goals-returns-in-Concat-clause-goals t c =
    subst (λ (cs : List Claim). OnOk c.joined_goals.result (c.joined_goals.new.goals ≡ c.args.goals.now ++ goals_with c.args.facts.now cs))
    (concat-claims c.args.spot.now (given c.args.shapes.now) c.args.term.now c.in-Concat.a c.in-Concat.b c.get-in-Concat.result.now
    c.get-in-Concat-2.result.now c.get-in-Concat.ensures c.get-in-Concat-2.ensures c.in-Concat.is)
    c.joined_goals.ensures.goals

pub term_goals-returns-in-Gen-clause-goals : goal.term_goals-returns-in-Gen-clause-goals
term_goals-returns-in-Gen-clause-goals t c =
    subst (λ (cs : List Claim). OnOk c.part_goals.result (c.part_goals.new.goals ≡ c.args.goals.now ++ goals_with c.args.facts.now cs))
    (part-claims c.args.spot.now (given c.args.shapes.now) c.args.term.now c.in-Gen.part c.get-in-Gen.result.now c.get-in-Gen.ensures c.in-Gen.is)
    c.part_goals.ensures.goals
