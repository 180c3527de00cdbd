use Rattle.std.proofs.Common.{◌≡◌, length}
use Rattle.source_grammar.specs.ReadSource as spec
use Rattle.declaration_reader.proofs.sizes.more_examples.Given as goal

abbrev pub invariant-loop-sizes : goal.invariant-loop-sizes
invariant-loop-sizes l = spec.more_examples l.initial.sizes l.initial.numbers l.initial.tokens ≡ spec.more_examples l.sizes l.numbers l.tokens

abbrev pub decreases-loop-sizes : goal.decreases-loop-sizes
decreases-loop-sizes l = length l.sizes
