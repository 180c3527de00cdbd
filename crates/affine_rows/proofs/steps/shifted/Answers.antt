use Rattle.std.proofs.Common.{arith}
use Rattle.affine_index.proofs.ScopedMoves.{form-fits}
use Rattle.affine_rows.proofs.steps.shifted.Goals as goal

pub shift-requires : goal.shift-requires
shift-requires c = form-fits 1000 1000 c.args.from c.args.by (omega (arith, c.requires.small)) c.args.form.now c.requires.scoped
