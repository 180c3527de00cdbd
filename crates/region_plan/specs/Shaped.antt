-- What a walk asks of a term.
use Rattle.std.specs.Prelude.{IsOk, List, [], ◌∷◌}
use Rattle.shape_rules.specs.Scopes.{IsScoped, given}
use Rattle.shape_rules.specs.declared.shapes.Shapes.{Shapes}
use Rattle.term_tree.specs.declared.term.OutputDecl.{OutputDecl}
use Rattle.term_tree.specs.declared.term.Term.{Term}
use Rattle.term_tree.specs.Shape.{shape_of}

-- it is well scoped, and the shape rules hold in it
abbrev pub IsShaped : Shapes → Term → Type 0
IsShaped shapes e = IsScoped shapes e × IsOk (shape_of e (given shapes))

-- so are all terms of outputs
abbrev pub EachShaped : Shapes → List OutputDecl → Type 0
EachShaped shapes [] = Unit {0}
EachShaped shapes (o ∷ os) = IsShaped shapes o.term × EachShaped shapes os
