use Rattle.std.proofs.Common.{◌∙◌, sym}
use Rattle.meaning_rows.proofs.ScopeLaws.{scope_fold-is}
use Rattle.meaning_rows.proofs.scope.output_scoped.Goals as goal

pub returns-then-depth-le-DEEPEST : goal.returns-then-depth-le-DEEPEST
returns-then-depth-le-DEEPEST c h = sym (scope_fold-is c.args.sizes c.args.term.now 0 c.args.tensors) ∙ sym c.term_scoped.ensures ∙ h
