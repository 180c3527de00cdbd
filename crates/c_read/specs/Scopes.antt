-- What may be named, as the code holds it.
use Rattle.c_text.specs.Expression.{Scope}
use Rattle.c_read.specs.declared.scope.Names.{Names}

abbrev pub scope_of : Names → Scope
scope_of n = record { sizes = n.sizes; inputs = n.inputs; outputs = n.outputs; scratch = n.scratch; loops = n.loops; in_length = n.in_length }
