use Rattle.std.proofs.Common.{◌∙◌, Err, Ok, ap, map, subst}
use Rattle.final_rules.specs.Printed.{at_least_one}
use Rattle.final_rules.specs.Printing.{Counts}
use Rattle.final_rules.specs.declared.printing.Stop.{Stop}
use Rattle.index_limits.specs.Modules.{module_sized}
use Rattle.index_limits.proofs.OutputLaws.{fault-found}
use Rattle.index_limits.proofs.modules.first_large.Goals as goal

pub returns-in-Ok : goal.returns-in-Ok
returns-in-Ok c =
    fault-found c.args.module.now c.as_slice-2.result.now (Ok c.in-Ok.field-0)
    (c.as_slice-2.ensures ∙ c.in_ok-maxima.ensures ∙ ap (map (λ d. at_least_one d.high)) c.as_slice.ensures) c.in-Ok.ensures

pub returns-in-Err-Large : goal.returns-in-Err-Large
returns-in-Err-Large c =
    fault-found c.args.module.now c.as_slice-2.result.now (Err c.in-Err-Large.number)
    (c.as_slice-2.ensures ∙ c.in_ok-maxima.ensures ∙ ap (map (λ d. at_least_one d.high)) c.as_slice.ensures)
    (subst (λ (s : Stop). Counts (module_sized c.as_slice-2.result.now c.args.module.now 1) (Err s)) c.in-Err-Large.field-0-is c.in-Err-Large.ensures)
