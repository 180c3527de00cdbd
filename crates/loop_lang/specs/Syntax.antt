-- Index expressions, words and statements, by names that patterns and clauses share.
use Rattle.std.specs.Prelude.{ℕ, List, Bool}
use Rattle.loop_lang.specs.declared.index.Iexp.{Iexp, Add', Sub', Mul', Div', Rem', Larger', end_of-Iexp, more_of-Iexp}
use Rattle.loop_lang.specs.declared.index.Test.{Test}
use Rattle.loop_lang.specs.declared.word.Wexp.{Wexp, Choose', end_of-Wexp, more_of-Wexp}
use Rattle.loop_lang.specs.declared.word.Wexp as word
use Rattle.loop_lang.specs.declared.stmt.Stmt.{Stmt, For', If', end_of-Stmt, more_of-Stmt}

pattern abbrev pub index_sum : Iexp → Iexp → Iexp
index_sum a b = Add' tt (more_of-Iexp a end_of-Iexp) tt (more_of-Iexp b end_of-Iexp)

pattern abbrev pub index_difference : Iexp → Iexp → Iexp
index_difference a b = Sub' tt (more_of-Iexp a end_of-Iexp) tt (more_of-Iexp b end_of-Iexp)

pattern abbrev pub index_product : Iexp → Iexp → Iexp
index_product a b = Mul' tt (more_of-Iexp a end_of-Iexp) tt (more_of-Iexp b end_of-Iexp)

pattern abbrev pub index_quotient : Iexp → ℕ → Iexp
index_quotient a k = Div' tt (more_of-Iexp a end_of-Iexp) k

pattern abbrev pub index_remainder : Iexp → ℕ → Iexp
index_remainder a k = Rem' tt (more_of-Iexp a end_of-Iexp) k

pattern abbrev pub index_larger : Iexp → Iexp → Iexp
index_larger a b = Larger' tt (more_of-Iexp a end_of-Iexp) tt (more_of-Iexp b end_of-Iexp)

pattern abbrev pub word_sum : Wexp → Wexp → Wexp
word_sum a b = word.Add' tt (more_of-Wexp a end_of-Wexp) tt (more_of-Wexp b end_of-Wexp)

pattern abbrev pub word_difference : Wexp → Wexp → Wexp
word_difference a b = word.Sub' tt (more_of-Wexp a end_of-Wexp) tt (more_of-Wexp b end_of-Wexp)

pattern abbrev pub word_product : Wexp → Wexp → Wexp
word_product a b = word.Mul' tt (more_of-Wexp a end_of-Wexp) tt (more_of-Wexp b end_of-Wexp)

pattern abbrev pub word_choice : List Test → Wexp → Wexp → Wexp
word_choice ts a b = Choose' ts tt (more_of-Wexp a end_of-Wexp) tt (more_of-Wexp b end_of-Wexp)

pattern abbrev pub for_loop : Iexp → Bool → Stmt → Stmt
for_loop n p e = For' n p tt (more_of-Stmt e end_of-Stmt)

pattern abbrev pub if_tests : List Test → Stmt → Stmt
if_tests ts e = If' ts tt (more_of-Stmt e end_of-Stmt)
