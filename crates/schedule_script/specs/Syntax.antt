-- The forms of index trees, by names that patterns and clauses share.
use Rattle.std.specs.Prelude.{ℕ}
use Rattle.schedule_script.specs.declared.tree.IxTree.{IxTree, Neg', Add', Sub', Mul', Div', Rem', end_of-IxTree, more_of-IxTree}

pattern abbrev pub negation : IxTree → IxTree
negation a = Neg' tt (more_of-IxTree a end_of-IxTree)

pattern abbrev pub sum : IxTree → IxTree → IxTree
sum a b = Add' tt (more_of-IxTree a end_of-IxTree) tt (more_of-IxTree b end_of-IxTree)

pattern abbrev pub difference : IxTree → IxTree → IxTree
difference a b = Sub' tt (more_of-IxTree a end_of-IxTree) tt (more_of-IxTree b end_of-IxTree)

pattern abbrev pub product : IxTree → IxTree → IxTree
product a b = Mul' tt (more_of-IxTree a end_of-IxTree) tt (more_of-IxTree b end_of-IxTree)

pattern abbrev pub quotient : IxTree → ℕ → IxTree
quotient a k = Div' tt (more_of-IxTree a end_of-IxTree) k

pattern abbrev pub remainder : IxTree → ℕ → IxTree
remainder a k = Rem' tt (more_of-IxTree a end_of-IxTree) k
