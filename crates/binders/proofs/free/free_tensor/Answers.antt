use Rattle.std.proofs.Common.{◌≡◌, ◌∙◌, ap, sym}
use Rattle.std.proofs.lemmas.Bool.{not-true}
use Rattle.binders.specs.Uses.{tensor_fold, uses_tensor}
use Rattle.binders.proofs.UsesFold.{tensor_fold-is}
use Rattle.binders.proofs.UsesLaws.{ignores_tensor}
use Rattle.binders.proofs.free.free_tensor.Goals as goal

pub returns-clause-means : goal.returns-clause-means
returns-clause-means c = λ h.
    let e : c.uses_tensor.result ≡ uses_tensor c.args.term.now c.args.var =
    c.uses_tensor.ensures ∙ ap (tensor_fold c.args.term.now) c.from.ensures ∙ tensor_fold-is c.args.term.now c.args.var in
    ignores_tensor c.args.term.now c.args.var (sym e ∙ not-true c.uses_tensor.result h)
