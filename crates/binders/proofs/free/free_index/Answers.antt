use Rattle.std.proofs.Common.{◌≡◌, ◌∙◌, ap, sym}
use Rattle.std.proofs.lemmas.Bool.{not-true}
use Rattle.binders.specs.Uses.{index_fold, uses_index}
use Rattle.binders.proofs.UsesFold.{index_fold-is}
use Rattle.binders.proofs.UsesLaws.{ignores_index}
use Rattle.binders.proofs.free.free_index.Goals as goal

pub returns-clause-means : goal.returns-clause-means
returns-clause-means c = λ h.
    let e : c.uses_index.result ≡ uses_index c.args.term.now c.args.var =
    c.uses_index.ensures ∙ ap (index_fold c.args.term.now) c.from.ensures ∙ index_fold-is c.args.term.now c.args.var in
    ignores_index c.args.term.now c.args.var (sym e ∙ not-true c.uses_index.result h)
