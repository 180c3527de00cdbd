use Rattle.std.proofs.Common.{ap, Bor, List, ℕ, option_copied}
use Rattle.std.specs.declared.option.Option.{Option}
use Rattle.atl_driver.proofs.ScheduleLaws.{scripted_of, unscripted_of}
use Rattle.atl_driver.proofs.module_text.read_schedule.Goals as goal

pub returns-in-Some-clause-reads : goal.returns-in-Some-clause-reads
returns-in-Some-clause-reads c =
    scripted_of c.in-Some.text.now (option_copied c.args.script) c.read_script.result
    (ap (λ (o : Option (Bor (List ℕ))). option_copied o) c.in-Some.is) c.read_script.ensures.found c.read_script.ensures.only

pub returns-in-Some-clause-refused : goal.returns-in-Some-clause-refused
returns-in-Some-clause-refused c =
    unscripted_of c.in-Some.text.now (option_copied c.args.script) c.read_script.result
    (ap (λ (o : Option (Bor (List ℕ))). option_copied o) c.in-Some.is) c.read_script.ensures.refused c.read_script.ensures.only
