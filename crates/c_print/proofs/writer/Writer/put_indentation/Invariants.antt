use Rattle.std.proofs.Common.{◌≡◌, ◌++◌}
use Rattle.c_print.specs.Statement.{indentation}
use Rattle.c_print.proofs.writer.Writer.put_indentation.Given as goal

abbrev pub invariant-loop-done : goal.invariant-loop-done
invariant-loop-done l = l.self ≡ l.initial.self ++ indentation l._done
