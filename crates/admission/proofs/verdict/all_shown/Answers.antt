use Rattle.std.proofs.Common.{rules, ◌≡◌, None}
use Rattle.admission.specs.Admission.{first_false, shown_alone}
use Rattle.shape_rules.specs.Admitted.{module_facts}
use Rattle.admission.proofs.KeptLaws.{each_shown}
use Rattle.admission.proofs.verdict.all_shown.Goals as goal

pub returns-clause-shown : goal.returns-clause-shown
returns-clause-shown c =
    let none : first_false 1 (shown_alone (module_facts c.args.module.now) c.args.goals.now) ≡ None = search rules in
    each_shown (module_facts c.args.module.now) 1 c.args.goals.now none
