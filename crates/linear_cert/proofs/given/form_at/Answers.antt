use Rattle.std.proofs.Common.{ap, arith}
use Rattle.affine_index.specs.Wide.{norm}
use Rattle.affine_index.proofs.PutNorm.{normal-norm}
use Rattle.linear_cert.proofs.given.form_at.Goals as goal

pub returns-clause-small : goal.returns-clause-small
returns-clause-small c = omega (arith, ap norm c.in_ok-form.ensures.same, normal-norm c.form_of-fact.result.now c.form_of-fact.ensures.normal)
