use Rattle.std.proofs.Common.{◌≡◌, ap, subst, ◌∙◌, rules}
use Rattle.std.specs.Prelude.{MatchResult}
use Rattle.reader_laws.specs.declared.fault.ReadError.TheVariants.{Memory}
use Rattle.schedule_script.specs.declared.tree.IxTree.{IxTree}
use Rattle.schedule_script.specs.Syntax.{quotient}
use Rattle.schedule_script.proofs.Forms.{quotient_is}
use Rattle.schedule_script.proofs.made.quotient.Goals as goal

pub returns : goal.returns
returns c =
    let same : c.a.inside.tree ≡ c.args.a = search rules in
    subst (λ (t : IxTree). MatchResult c.measured.result (λ made. made ≡ t) (λ e. e ≡ Memory))
    (quotient_is c.a.inside.tree c.args.by ∙ ap (λ (t : IxTree). quotient t c.args.by) same) c.measured.ensures
