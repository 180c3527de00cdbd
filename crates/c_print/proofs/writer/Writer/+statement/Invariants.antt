use Rattle.std.proofs.Common.{◌≡◌, ◌++◌, take, map}
use Rattle.c_print.specs.Statement.{in_turn, statement_text}
use Rattle.c_print.proofs.writer.Writer.+statement.Given as goal

abbrev pub invariant-put_each-loop-stmt : goal.invariant-put_each-loop-stmt
invariant-put_each-loop-stmt l = l.self ≡ l.initial.self ++ in_turn (map statement_text (take l.stmt-index l.all)) l.level l.depth
