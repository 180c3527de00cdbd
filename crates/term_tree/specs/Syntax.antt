-- The forms of terms, by names that patterns and clauses share.
use Rattle.std.specs.Prelude.{ℕ}
use Rattle.affine_index.specs.declared.aff.Aff.{Aff}
use Rattle.affine_index.specs.declared.cond.Cond.{Cond}
use Rattle.term_tree.specs.declared.term.Term.{Term, Index', Gen', Sum', Guard', Let', Add', Sub', Mul', Concat', Flatten', Split', Transpose', TruncL'}
use Rattle.term_tree.specs.declared.term.Term.{TruncR', PadL', PadR', end_of-Term, more_of-Term}

pattern abbrev pub index : Term → Aff → Term
index e x = Index' tt (more_of-Term e end_of-Term) x

pattern abbrev pub gen : Aff → Term → Term
gen n e = Gen' n tt (more_of-Term e end_of-Term)

pattern abbrev pub sum : Aff → Term → Term
sum n e = Sum' n tt (more_of-Term e end_of-Term)

pattern abbrev pub guard : Cond → Term → Term
guard c e = Guard' c tt (more_of-Term e end_of-Term)

pattern abbrev pub let_in : Term → Term → Term
let_in a b = Let' tt (more_of-Term a end_of-Term) tt (more_of-Term b end_of-Term)

pattern abbrev pub add : Term → Term → Term
add a b = Add' tt (more_of-Term a end_of-Term) tt (more_of-Term b end_of-Term)

pattern abbrev pub sub : Term → Term → Term
sub a b = Sub' tt (more_of-Term a end_of-Term) tt (more_of-Term b end_of-Term)

pattern abbrev pub mul : Term → Term → Term
mul a b = Mul' tt (more_of-Term a end_of-Term) tt (more_of-Term b end_of-Term)

pattern abbrev pub concat : Term → Term → Term
concat a b = Concat' tt (more_of-Term a end_of-Term) tt (more_of-Term b end_of-Term)

pattern abbrev pub flatten : Term → Term
flatten e = Flatten' tt (more_of-Term e end_of-Term)

pattern abbrev pub split : ℕ → Term → Term
split k e = Split' k tt (more_of-Term e end_of-Term)

pattern abbrev pub transpose : Term → Term
transpose e = Transpose' tt (more_of-Term e end_of-Term)

pattern abbrev pub trunc_l : Aff → Term → Term
trunc_l n e = TruncL' n tt (more_of-Term e end_of-Term)

pattern abbrev pub trunc_r : Aff → Term → Term
trunc_r n e = TruncR' n tt (more_of-Term e end_of-Term)

pattern abbrev pub pad_l : Aff → Term → Term
pad_l n e = PadL' n tt (more_of-Term e end_of-Term)

pattern abbrev pub pad_r : Aff → Term → Term
pad_r n e = PadR' n tt (more_of-Term e end_of-Term)
