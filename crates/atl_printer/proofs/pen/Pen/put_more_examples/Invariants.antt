use Rattle.std.proofs.Common.{◌≡◌, drop}
use Rattle.atl_printer.specs.ModulePages.{more_example_pages}
use Rattle.atl_printer.proofs.pen.Pen.put_more_examples.Given as goal

abbrev pub invariant-loop-at : goal.invariant-loop-at
invariant-loop-at l = more_example_pages (drop l.at l.sizes) (drop l.at l.numbers) l.self ≡ more_example_pages l.sizes l.numbers l.fn.self
