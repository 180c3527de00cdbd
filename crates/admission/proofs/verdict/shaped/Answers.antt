use Rattle.std.proofs.Common.{subst, sym}
use Rattle.std.specs.Option.{option_map}
use Rattle.admission.specs.Admission.{Tells, shape_fault}
use Rattle.admission.specs.declared.fault.AdmissionFault.TheVariants.{Shape}
use Rattle.admission.proofs.ShapeLaws.{none_told, shape_told}
use Rattle.admission.proofs.verdict.shaped.Goals as goal

pub returns-in-Ok-clause-shapes : goal.returns-in-Ok-clause-shapes
returns-in-Ok-clause-shapes c = none_told c.args.module.now c.in-Ok.ensures.shaped

pub returns-in-Err-clause-shapes : goal.returns-in-Err-clause-shapes
returns-in-Err-clause-shapes c =
    let m = c.args.module.now in
    subst (Tells (option_map Shape (shape_fault m))) (sym c.refusal_of.ensures) (shape_told m c.in-Err.fault (c.in-Err.ensures {u = tt}).goals)
