use Rattle.std.proofs.Common.{◌∙◌, ap}
use Rattle.std.proofs.lemmas.Bool.{and_from}
use Rattle.term_tree.specs.Scope.{term_scoped}
use Rattle.region_rows.proofs.ScopeForms.{scope-Gen, scope-Index}
use Rattle.region_rows.proofs.plans.vector.Goals as goal

pub returns : goal.returns
returns c =
    let t = c.args.tensors in
    let read = ap (λ e. term_scoped 2 e 1 t) c.in_ok-read.ensures ∙ c.requires in
    let word = ap (λ e. term_scoped 2 e 1 t) c.in_ok-word.ensures ∙ scope-Index 2 1 t c.in_ok-read.read c.in_ok-index.index
    ∙ and_from _ _ read c.in_ok-index.ensures in
    ap (λ e. term_scoped 2 e 0 t) c.in_ok-term.ensures ∙ scope-Gen 2 0 t c.in_ok-extent.extent c.in_ok-word.word ∙ and_from _ _ c.in_ok-extent.ensures word
