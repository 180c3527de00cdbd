-- What the code holds of an expression, and what it stands for.
use Rattle.std.specs.Prelude.{ℕ, suc, pos, Option, Some, None, Result, Ok, Err}
use Rattle.loop_lang.specs.declared.index.Iexp.{Iexp, Lit}
use Rattle.reader_laws.specs.declared.fault.Fault.{Fault}
use Rattle.reader_laws.specs.declared.fault.ReadError.{ReadError}
use Rattle.reader_laws.specs.declared.fault.ReadError.TheVariants.{Refused}
use Rattle.c_text.specs.Expression as expression
use Rattle.c_expression_reader.specs.declared.value.Value.{Value}
use Rattle.c_expression_reader.specs.declared.value.Value.TheVariants as v
use Rattle.c_expression_reader.specs.declared.value.Operator.{Operator}
use Rattle.c_expression_reader.specs.declared.value.Operator.TheVariants as o

-- a value of the grammar
abbrev pub value_of : Value → expression.Value
value_of (v.Index i) = expression.OfIndex i
value_of (v.Word w) = expression.OfWord w
value_of (v.Tests cs) = expression.OfTests cs

-- an operator of the grammar
abbrev pub operator_of : Operator → expression.Operator
operator_of o.Plus = expression.Plus
operator_of o.Minus = expression.Minus
operator_of o.Times = expression.Times
operator_of o.Over = expression.Over
operator_of o.Modulo = expression.Modulo

-- a value, or its fault at a place
abbrev pub placed : {A : Type 0} → ℕ → Result A Fault → Result A ReadError
placed place (Ok x) = Ok x
placed place (Err fault) = Err (Refused fault place)

-- the literal above 0 that divides
abbrev pub divisor_of : Iexp → Option ℕ
divisor_of (Lit (pos (suc n))) = Some (suc n)
divisor_of i = None
