use Rattle.std.proofs.Common.{◌≡◌, ◌++◌, take}
use Rattle.std.specs.List.{flat_map}
use Rattle.c_print.specs.Word.{and_test}
use Rattle.c_print.proofs.writer.Writer.put_further_tests.Given as goal

abbrev pub invariant-loop-test : goal.invariant-loop-test
invariant-loop-test l = l.self ≡ l.initial.self ++ flat_map and_test (take l.test-index l.tests)
