use Rattle.std.proofs.Common.{◌≡◌, Some, arith, rules}
use Rattle.text_tokens.specs.Numbers.{number}
use Rattle.c_read.proofs.Numerals.{numeral_large}
use Rattle.c_read.proofs.words.numeral.Goals as goal

pub returns-then-largest-n-clause-value : goal.returns-then-largest-n-clause-value
returns-then-largest-n-clause-value c =
    let h : number c.args.digits.now ≡ Some c.in_ok-n.n = search rules in
    numeral_large c.args.digits.now c.args.largest c.in_ok-n.n h (omega arith)
