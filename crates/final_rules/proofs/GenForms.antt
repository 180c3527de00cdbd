-- The body of a gen, at terms as code has them.
use Rattle.std.proofs.Common.{◌≡◌, ℕ, ap, Some, None}
use Rattle.affine_index.specs.declared.aff.Aff.{Aff}
use Rattle.affine_index.specs.declared.cond.Cond.{Cond}
use Rattle.term_tree.specs.declared.term.Term.{Term}
use Rattle.term_tree.specs.declared.term.Term.TheVariants.{Index, Gen, Sum, Guard, Let, Add, Sub, Mul, Concat, Flatten, Split, Transpose, TruncL, TruncR, PadL}
use Rattle.term_tree.specs.declared.term.Term.TheVariants.{PadR}
use Rattle.term_tree.proofs.Forms.{Index-is, Gen-is, Sum-is, Guard-is, Let-is, Add-is, Sub-is, Mul-is, Concat-is, Flatten-is, Split-is, Transpose-is, TruncL-is}
use Rattle.term_tree.proofs.Forms.{TruncR-is, PadL-is, PadR-is}
use Rattle.final_rules.specs.Rules.{gen_body}

pub body-Index : (e : Term) (x : Aff) → gen_body (Index e x) ≡ None
body-Index e x = ap gen_body (Index-is e x)

pub body-Gen : (n : Aff) (e : Term) → gen_body (Gen n e) ≡ Some e
body-Gen n e = ap gen_body (Gen-is n e)

pub body-Sum : (n : Aff) (e : Term) → gen_body (Sum n e) ≡ None
body-Sum n e = ap gen_body (Sum-is n e)

pub body-Guard : (c : Cond) (e : Term) → gen_body (Guard c e) ≡ None
body-Guard c e = ap gen_body (Guard-is c e)

pub body-Let : (a : Term) (b : Term) → gen_body (Let a b) ≡ None
body-Let a b = ap gen_body (Let-is a b)

pub body-Add : (a : Term) (b : Term) → gen_body (Add a b) ≡ None
body-Add a b = ap gen_body (Add-is a b)

pub body-Sub : (a : Term) (b : Term) → gen_body (Sub a b) ≡ None
body-Sub a b = ap gen_body (Sub-is a b)

pub body-Mul : (a : Term) (b : Term) → gen_body (Mul a b) ≡ None
body-Mul a b = ap gen_body (Mul-is a b)

pub body-Concat : (a : Term) (b : Term) → gen_body (Concat a b) ≡ None
body-Concat a b = ap gen_body (Concat-is a b)

pub body-Flatten : (e : Term) → gen_body (Flatten e) ≡ None
body-Flatten e = ap gen_body (Flatten-is e)

pub body-Split : (k : ℕ) (e : Term) → gen_body (Split k e) ≡ None
body-Split k e = ap gen_body (Split-is k e)

pub body-Transpose : (e : Term) → gen_body (Transpose e) ≡ None
body-Transpose e = ap gen_body (Transpose-is e)

pub body-TruncL : (n : Aff) (e : Term) → gen_body (TruncL n e) ≡ None
body-TruncL n e = ap gen_body (TruncL-is n e)

pub body-TruncR : (n : Aff) (e : Term) → gen_body (TruncR n e) ≡ None
body-TruncR n e = ap gen_body (TruncR-is n e)

pub body-PadL : (n : Aff) (e : Term) → gen_body (PadL n e) ≡ None
body-PadL n e = ap gen_body (PadL-is n e)

pub body-PadR : (n : Aff) (e : Term) → gen_body (PadR n e) ≡ None
body-PadR n e = ap gen_body (PadR-is n e)

pub ruleset gen_forms = (
  body-Index,
  body-Gen,
  body-Sum,
  body-Guard,
  body-Let,
  body-Add,
  body-Sub,
  body-Mul,
  body-Concat,
  body-Flatten,
  body-Split,
  body-Transpose,
  body-TruncL,
  body-TruncR,
  body-PadL,
  body-PadR,
)
