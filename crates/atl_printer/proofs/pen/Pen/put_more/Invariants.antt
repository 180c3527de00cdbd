use Rattle.std.proofs.Common.{◌≡◌, drop}
use Rattle.atl_printer.specs.FormPages.{more_pages}
use Rattle.atl_printer.proofs.pen.Pen.put_more.Given as goal

abbrev pub invariant-loop-cmp : goal.invariant-loop-cmp
invariant-loop-cmp l = more_pages l.sizes l.vars (drop l.cmp-index l.cmps) l.self ≡ more_pages l.sizes l.vars l.cmps l.fn.self
