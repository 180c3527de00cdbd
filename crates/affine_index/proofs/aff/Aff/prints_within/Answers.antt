use Rattle.affine_index.proofs.ArithmeticLaws.{normal-ordered}
use Rattle.affine_index.proofs.PrintedLaws.{printed}
use Rattle.affine_index.proofs.aff.Aff.prints_within.Goals as goal

pub returns : goal.returns
returns c = λ limit s v maxima most ws wv g q. printed limit s v maxima most ws wv c.args.self.now (normal-ordered c.args.self.now c.told.ensures) g q
