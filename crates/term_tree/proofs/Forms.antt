-- A variant as the code writes it is the form that specs/ matches on.
use Rattle.std.proofs.Common.{◌≡◌, ℕ, refl}
use denote.Hole.Carrier.{hidden}
use Rattle.affine_index.specs.declared.aff.Aff.{Aff}
use Rattle.affine_index.specs.declared.cond.Cond.{Cond}
use Rattle.term_tree.specs.declared.term.Term.{Term}
use Rattle.term_tree.specs.declared.term.Term.TheVariants.{Index, Gen, Sum, Guard, Let, Add, Sub, Mul, Concat, Flatten, Split, Transpose, TruncL, TruncR, PadL}
use Rattle.term_tree.specs.declared.term.Term.TheVariants.{PadR}
use Rattle.term_tree.specs.declared.term.Term.TheBlock.{shape-the_row-Term-0, hidden-the_row-Term-0}
use Rattle.term_tree.specs.Syntax.{index, gen, sum, guard, let_in, add, sub, mul, concat, flatten, split, transpose, trunc_l, trunc_r, pad_l, pad_r}

pub Index-is : (e : Term) (x : Aff) → Index e x ≡ index e x
unfolding shape-the_row-Term-0 hidden-the_row-Term-0 hidden
Index-is e x = refl

pub Gen-is : (n : Aff) (e : Term) → Gen n e ≡ gen n e
unfolding shape-the_row-Term-0 hidden-the_row-Term-0 hidden
Gen-is n e = refl

pub Sum-is : (n : Aff) (e : Term) → Sum n e ≡ sum n e
unfolding shape-the_row-Term-0 hidden-the_row-Term-0 hidden
Sum-is n e = refl

pub Guard-is : (c : Cond) (e : Term) → Guard c e ≡ guard c e
unfolding shape-the_row-Term-0 hidden-the_row-Term-0 hidden
Guard-is c e = refl

pub Let-is : (a : Term) (b : Term) → Let a b ≡ let_in a b
unfolding shape-the_row-Term-0 hidden-the_row-Term-0 hidden
Let-is a b = refl

pub Add-is : (a : Term) (b : Term) → Add a b ≡ add a b
unfolding shape-the_row-Term-0 hidden-the_row-Term-0 hidden
Add-is a b = refl

pub Sub-is : (a : Term) (b : Term) → Sub a b ≡ sub a b
unfolding shape-the_row-Term-0 hidden-the_row-Term-0 hidden
Sub-is a b = refl

pub Mul-is : (a : Term) (b : Term) → Mul a b ≡ mul a b
unfolding shape-the_row-Term-0 hidden-the_row-Term-0 hidden
Mul-is a b = refl

pub Concat-is : (a : Term) (b : Term) → Concat a b ≡ concat a b
unfolding shape-the_row-Term-0 hidden-the_row-Term-0 hidden
Concat-is a b = refl

pub Flatten-is : (e : Term) → Flatten e ≡ flatten e
unfolding shape-the_row-Term-0 hidden-the_row-Term-0 hidden
Flatten-is e = refl

pub Split-is : (k : ℕ) (e : Term) → Split k e ≡ split k e
unfolding shape-the_row-Term-0 hidden-the_row-Term-0 hidden
Split-is k e = refl

pub Transpose-is : (e : Term) → Transpose e ≡ transpose e
unfolding shape-the_row-Term-0 hidden-the_row-Term-0 hidden
Transpose-is e = refl

pub TruncL-is : (n : Aff) (e : Term) → TruncL n e ≡ trunc_l n e
unfolding shape-the_row-Term-0 hidden-the_row-Term-0 hidden
TruncL-is n e = refl

pub TruncR-is : (n : Aff) (e : Term) → TruncR n e ≡ trunc_r n e
unfolding shape-the_row-Term-0 hidden-the_row-Term-0 hidden
TruncR-is n e = refl

pub PadL-is : (n : Aff) (e : Term) → PadL n e ≡ pad_l n e
unfolding shape-the_row-Term-0 hidden-the_row-Term-0 hidden
PadL-is n e = refl

pub PadR-is : (n : Aff) (e : Term) → PadR n e ≡ pad_r n e
unfolding shape-the_row-Term-0 hidden-the_row-Term-0 hidden
PadR-is n e = refl

pub ruleset term_forms = (
  Index-is,
  Gen-is,
  Sum-is,
  Guard-is,
  Let-is,
  Add-is,
  Sub-is,
  Mul-is,
  Concat-is,
  Flatten-is,
  Split-is,
  Transpose-is,
  TruncL-is,
  TruncR-is,
  PadL-is,
  PadR-is,
)
