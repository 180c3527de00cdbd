use Rattle.std.proofs.Common.{Global, Ok}
use Rattle.atl_driver.proofs.FactsLaws.{facts_answers, facts_told, unlowerable_facts, unstaged_facts}
use Rattle.atl_driver.proofs.emit.told_facts.Goals as goal

pub facts-requires : goal.facts-requires
facts-requires c = record { runs = c.requires.may; some = c.requires.some }

pub returns-in-Ok-clause-answers : goal.returns-in-Ok-clause-answers
returns-in-Ok-clause-answers c = facts_answers Global c.args.origin c.args.schedule.now c.in-Ok.text c.in-Ok.ensures

pub returns-in-Ok-clause-told : goal.returns-in-Ok-clause-told
returns-in-Ok-clause-told c =
    facts_told {A = Global} c.args.origin c.args.schedule.now (Ok c.in-Ok.text)
    (facts_answers Global c.args.origin c.args.schedule.now c.in-Ok.text c.in-Ok.ensures)

pub returns-in-Err-Step-clause-answers : goal.returns-in-Err-Step-clause-answers
returns-in-Err-Step-clause-answers c =
    unstaged_facts Global c.args.origin c.args.schedule.now c.in-Err-Step.fault c.unstaged.result
    (rw c.in-Err-Step.field-0-is at c.in-Err-Step.ensures) c.unstaged.ensures

pub returns-in-Err-Final-clause-answers : goal.returns-in-Err-Final-clause-answers
returns-in-Err-Final-clause-answers c =
    unlowerable_facts Global c.args.origin c.args.schedule.now c.in-Err-Final.fault c.unlowerable.result
    (rw c.in-Err-Final.field-0-is at c.in-Err-Final.ensures) c.unlowerable.ensures
