use Rattle.std.proofs.Common.{◌≡◌, ap, subst, ◌∙◌, rules}
use Rattle.std.specs.Prelude.{MatchResult}
use Rattle.reader_laws.specs.declared.fault.ReadError.TheVariants.{Memory}
use Rattle.schedule_script.specs.declared.tree.IxTree.{IxTree}
use Rattle.schedule_script.specs.Syntax.{remainder}
use Rattle.schedule_script.proofs.Forms.{remainder_is}
use Rattle.schedule_script.proofs.made.remainder.Goals as goal

pub returns : goal.returns
returns c =
    let same : c.a.inside.tree ≡ c.args.a = search rules in
    subst (λ (t : IxTree). MatchResult c.measured.result (λ made. made ≡ t) (λ e. e ≡ Memory))
    (remainder_is c.a.inside.tree c.args.by ∙ ap (λ (t : IxTree). remainder t c.args.by) same) c.measured.ensures
