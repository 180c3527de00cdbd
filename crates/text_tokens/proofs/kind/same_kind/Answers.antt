use Rattle.std.proofs.Common.{sym, ◌∙◌, rules}
use denote.Enum.Bare.{same_true}
use Rattle.text_tokens.specs.contracts.kind.Kind.{the_type}
use Rattle.text_tokens.proofs.kind.same_kind.Goals as goal

pub returns-clause-same : goal.returns-clause-same
returns-clause-same c = λ e. same_true the_type (search rules) _ _ (sym c.eq.ensures ∙ e)
