-- What the reader of expressions leaves is no longer than what there was.
use Rattle.std.proofs.Common.{ℕ, suc, subst}
use Rattle.reader_laws.specs.Steps.{Parser}
use Rattle.c_print.specs.declared.level.Level.{Level}
use Rattle.c_print.specs.declared.level.Level.TheVariants.{Choice}
use Rattle.c_text.specs.Expression.{Scope, Value}
use Rattle.c_read.specs.Expressions as reading
use Rattle.c_expression_reader.proofs.Shorter.{Shorter}
use Rattle.c_expression_reader.proofs.Tests.{inner_short}
use Rattle.c_expression_reader.proofs.Same.{inner_same}

pub inner_shorter : (scope : Scope) (levels : ℕ) (place : Level) → Shorter (reading.inner scope levels place)
inner_shorter scope levels place = subst (λ (below : Level → Parser Value). Shorter (below place)) (inner_same scope levels) (inner_short scope levels place)

pub expression_shorter : (scope : Scope) (levels : ℕ) → Shorter (reading.expression scope levels Choice)
expression_shorter scope levels = inner_shorter scope (suc levels) Choice
