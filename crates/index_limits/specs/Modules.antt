-- The printed indices of a module, part by part in the order of the text.
use Rattle.std.specs.Prelude.{ℕ, List, [], ◌∷◌, ◌++◌, map, Option, Some, None, Ok, Err, if◌then◌else◌}
use Rattle.region_plan.specs.Length.{zero_form}
use Rattle.region_plan.specs.Needed.{module_needed}
use Rattle.shape_rules.specs.Scopes.{given}
use Rattle.term_tree.specs.declared.term.Module.{Module}
use Rattle.term_tree.specs.declared.term.OutputDecl.{OutputDecl}
use Rattle.term_tree.specs.Shape.{Extents}
use Rattle.final_rules.specs.Places.{extents_under}
use Rattle.final_rules.specs.Printed.{Printed, length_printed, plain, printed_of}
use Rattle.final_rules.specs.Printing.{Sized, and_then, next, sized}
use Rattle.final_rules.specs.Rules.{Expression, any_let, body_printed, expression_small, input_lengths, length_small, nowhere_yet, output_lengths, output_spot}
use Rattle.final_rules.specs.declared.printing.Scene.{Scene}
use Rattle.index_limits.specs.declared.stores.Target.{Target}
use Rattle.index_limits.specs.Places.{place_at}

-- expressions in order, of which the first has the number
abbrev pub expressions_sized : List ℕ → List Expression → ℕ → Sized
expressions_sized maxima [] k = Ok k
expressions_sized maxima (x ∷ xs) k = and_then (next (expression_small maxima x) k) (expressions_sized maxima xs)

-- the number of the first that is not small, if there is one
abbrev pub first_large : Sized → Option ℕ
first_large (Ok k) = None
first_large (Err k) = Some k

-- an output, which is a buffer of its own
abbrev pub output_target : Extents → Target
output_target ns = record { extents = ns; offset = zero_form }

abbrev pub lengths_printed : List Extents → List OutputDecl → List Printed
lengths_printed ts os = map (λ o. length_printed (extents_under o.term ts) nowhere_yet) os

-- an output has its fill, and then its loops
abbrev pub output_printed : Scene → OutputDecl → List Printed
output_printed scene o =
    let ns = extents_under o.term (given scene.shapes) in
    let p = place_at scene (output_target ns) zero_form output_spot in
    plain zero_form p ∷ length_printed ns p ∷ printed_of o.term p

abbrev pub outputs_printed : Scene → List OutputDecl → List Printed
outputs_printed scene [] = []
outputs_printed scene (o ∷ os) = output_printed scene o ++ outputs_printed scene os

-- the length of the scratch region, where there is a let
abbrev pub scratch_sized : List ℕ → Module → ℕ → Sized
scratch_sized maxima m k = if any_let m.outputs then next (length_small maxima (module_needed m)) k else Ok k

-- the lengths of inputs, outputs and scratch, then the body
abbrev pub module_sized : List ℕ → Module → ℕ → Sized
module_sized maxima m k =
    and_then (sized maxima (input_lengths m) k) (λ j.
    and_then (sized maxima (output_lengths m) j) (λ i.
    and_then (scratch_sized maxima m i) (sized maxima (body_printed m m.outputs))))
