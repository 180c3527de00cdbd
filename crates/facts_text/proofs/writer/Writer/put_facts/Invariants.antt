use Rattle.std.proofs.Common.{◌≡◌, ◌+◌, ◌++◌, drop}
use Rattle.facts_text.specs.Block.{fact_lines}
use Rattle.facts_text.proofs.writer.Writer.put_facts.Given as goal

abbrev pub invariant-loop-at : goal.invariant-loop-at
invariant-loop-at l = l.self ++ fact_lines l.sizes l.vars (l.at + 1) (drop l.at l.facts) ≡ l.initial.self ++ fact_lines l.sizes l.vars 1 l.facts
