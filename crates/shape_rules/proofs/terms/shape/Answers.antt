use Rattle.std.proofs.Common.{◌≡◌, length, List, Ok, subst}
use Rattle.term_tree.specs.Shape.{Extents, shape_of}
use Rattle.shape_rules.specs.Faults.{IsTrouble}
use Rattle.shape_rules.specs.Scopes.{given, scope}
use Rattle.shape_rules.proofs.PlainLaws.{plain_scoped}
use Rattle.shape_rules.proofs.ProgressLaws.{scope_none, walked_ok, walked_trouble}
use Rattle.shape_rules.proofs.ShapeMeaning.{den_meant}
use Rattle.shape_rules.proofs.terms.shape.Goals as goal

pub walk-requires-clause-plain : goal.walk-requires-clause-plain
walk-requires-clause-plain c = plain_scoped c.requires.scoped.0 c.args.term.now c.requires.scoped.1 (length (given c.args.shapes.now)) c.requires.scoped.2

pub returns-in-Ok-clause-shape : goal.returns-in-Ok-clause-shape
returns-in-Ok-clause-shape c =
    subst (λ (ts : List Extents). shape_of c.args.term.now ts ≡ Ok c.in-Ok.extents) (scope_none c.args.shapes.now c.new.result c.new.ensures)
    (walked_ok c.args.term.now (scope c.args.shapes.now c.new.result) c.in-Ok.extents c.in-Ok.ensures.shape)

pub returns-in-Ok-clause-meant : goal.returns-in-Ok-clause-meant
returns-in-Ok-clause-meant c =
    let ts = given c.args.shapes.now in
    den_meant c.requires.scoped.0 c.args.term.now c.requires.scoped.1 (length ts) ts c.in-Ok.extents c.requires.scoped.2 (returns-in-Ok-clause-shape c)

pub returns-clause-shape : goal.returns-clause-shape
returns-clause-shape c =
    c.fault.ensures (shape_of c.args.term.now (given c.args.shapes.now))
    (subst (λ (ts : List Extents). IsTrouble (shape_of c.args.term.now ts) c.in-Err.trouble) (scope_none c.args.shapes.now c.new.result c.new.ensures)
    (walked_trouble c.args.term.now (scope c.args.shapes.now c.new.result) c.in-Err.trouble c.in-Err.ensures.shape))
