use Rattle.std.proofs.Common.{◌∙◌, ap}
use Rattle.std.proofs.lemmas.Bool.{and_from}
use Rattle.term_tree.specs.Scope.{term_scoped}
use Rattle.region_rows.proofs.ScopeForms.{scope-Concat}
use Rattle.region_rows.proofs.plans.joined.Goals as goal

pub returns : goal.returns
returns c =
    ap (λ e. term_scoped 2 e 0 c.args.tensors) c.in_ok-term.ensures ∙ scope-Concat 2 0 c.args.tensors c.args.left c.args.right
    ∙ and_from _ _ c.requires.left c.requires.right
