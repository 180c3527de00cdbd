use Rattle.std.proofs.Common.{◌≡◌, length, map}
use Rattle.script_arguments.specs.Forms.{comparisons_of}
use Rattle.script_arguments.specs.Names.{form_named}
use Rattle.script_arguments.proofs.FormLaws.{behind}
use Rattle.script_arguments.proofs.forms.comparisons.Given as goal

abbrev pub invariant-loop-trees : goal.invariant-loop-trees
invariant-loop-trees l =
    let names = form_named (map (λ d. d.name) l.sizes) l.vars in
    behind l.found (comparisons_of names l.trees) ≡ comparisons_of names l.initial.trees

abbrev pub decreases-loop-trees : goal.decreases-loop-trees
decreases-loop-trees l = length l.trees
