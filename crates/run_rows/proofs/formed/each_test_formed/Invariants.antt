use Rattle.std.proofs.Common.{◌≡◌, drop}
use Rattle.run_rows.specs.Formed.{each_test_fold}
use Rattle.run_rows.proofs.formed.each_test_formed.Given as goal

abbrev pub invariant-loop-test : goal.invariant-loop-test
invariant-loop-test l = each_test_fold l.sizes l.depth (drop l.test-index l.tests) ≡ each_test_fold l.sizes l.depth l.tests
