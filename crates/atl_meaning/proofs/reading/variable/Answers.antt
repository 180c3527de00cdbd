use Rattle.std.proofs.Common.{◌∙◌, ap, sym}
use Rattle.term_tree.specs.Meaning.{no_bound}
use Rattle.atl_meaning.specs.Values.{meant}
use Rattle.atl_meaning.proofs.ScopeLists.{missing-at}
use Rattle.atl_meaning.proofs.ValueLaws.{meant-Word}
use Rattle.atl_meaning.proofs.reading.variable.Goals as goal

pub returns-in-None : goal.returns-in-None
returns-in-None c = meant-Word 0
    ∙ sym (ap (λ b. b.1) (missing-at (λ b. (b.extents, meant b.value)) c.args.bindings.now c.args.var no_bound (sym c.in-None.ensures)))
