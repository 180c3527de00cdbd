-- An accepted module stays within bounds.
use Rattle.std.specs.Prelude.{◌≡◌, ◌≢◌, ℕ, ◌≤◌, List, [], ◌∷◌, ◌++◌, Some, None, Bool, true, false, pos, Ok}
use Rattle.affine_index.specs.Normal.{is_normal}
use Rattle.linear_cert.specs.declared.lines.FinalLine.{FinalLine}
use Rattle.loop_lang.specs.Reckoning.{Value, reckon}
use Rattle.region_plan.specs.Length.{length_tree}
use Rattle.region_plan.specs.Need.{module_need}
use Rattle.region_plan.specs.declared.length.Length.{Length}
use Rattle.term_tree.specs.declared.term.Module.{Module}
use Rattle.term_tree.specs.declared.term.InputDecl.{InputDecl}
use Rattle.term_tree.specs.declared.term.OutputDecl.{OutputDecl}
use Rattle.term_tree.specs.declared.term.Path.{Path}
use Rattle.term_tree.specs.declared.term.Term.{Term}
use Rattle.term_tree.specs.Syntax.{gen}
use Rattle.affine_index.specs.declared.form.Items.{Items}
use Rattle.term_tree.specs.Limits.{every_form}
use Rattle.term_tree.specs.Modules.{Allowed, IsSound, extents_at}
use Rattle.term_tree.specs.Shaped.{word_count}
use Rattle.region_plan.specs.Needed.{module_needed}
use Rattle.final_rules.specs.Owed.{Fits, Numbered}
use Rattle.final_rules.specs.Places.{length_form}
use Rattle.final_rules.specs.Printed.{largest_index}
use Rattle.final_rules.specs.Rules.{any_let, any_nested, final_fault, has_let, marked_part, output_extents, output_place}

-- each form of the outputs is a normal form within the limits
abbrev pub FormsNormal : List OutputDecl → Type 0
FormsNormal [] = Unit {0}
FormsNormal (o ∷ os) = (every_form is_normal o.term ≡ true) × FormsNormal os

-- a sound module of at least one output that the rules accept
pub record IsLowerable (m : Module) (finals : List FinalLine) (marks : List Path) : Type 0 where
  pub sound : IsSound m
  pub outputs : m.outputs ≢ []
  pub normal : FormsNormal m.outputs
  pub accepted : final_fault m finals marks ≡ None

-- the printed lengths of the inputs are their numbers of words
abbrev pub InputsFit : List ℕ → List InputDecl → Type 0
InputsFit s [] = Unit {0}
InputsFit s (d ∷ ds) = Numbered s (length_form d.extents) (word_count (extents_at d.extents s)) [] [] × InputsFit s ds

-- the printed lengths of the outputs are their numbers of words, and their terms stay within bounds
abbrev pub OutputsFit : Module → List ℕ → List OutputDecl → Type 0
OutputsFit m s [] = Unit {0}
OutputsFit m s (o ∷ os) =
    Numbered s (length_form (output_extents m o)) (word_count (extents_at (output_extents m o) s)) [] [] × Fits s o.term (output_place m o) [] []
    × OutputsFit m s os

-- where there is a let, the printed length of the scratch region is exact: it is what the module needs, and at most 2^62
abbrev pub ScratchFits : Module → List ℕ → Bool → Type 0
ScratchFits m s false = Unit {0}
ScratchFits m s true =
    (l : Length) × (module_needed m ≡ Ok l) × (reckon (length_tree l) s [] ≡ Value (pos (module_need m s))) × (module_need m s ≤ largest_index)

-- a gen stands at a path, with no let inside
abbrev pub IsParallel : Module → Path → Type 0
IsParallel m p = (n : Items) × (e : Term) × (marked_part m p ≡ Some (gen n e)) × (has_let e ≡ false)

-- each path is that of such a gen, which stands at or in none before it in the list, nor has one of these inside
abbrev pub MarksFit : Module → List Path → List Path → Type 0
MarksFit m before [] = Unit {0}
MarksFit m before (p ∷ ps) = IsParallel m p × (any_nested p before ≡ false) × MarksFit m (before ++ p ∷ []) ps

-- what acceptance gives of the marks
abbrev pub AcceptedMarksFit : Type 0
AcceptedMarksFit = (m : Module) (finals : List FinalLine) (marks : List Path) → final_fault m finals marks ≡ None → MarksFit m [] marks

pub record StaysWithin (m : Module) (s : List ℕ) : Type 0 where
  pub scratch : ScratchFits m s (any_let m.outputs)
  pub inputs : InputsFit s m.inputs
  pub outputs : OutputsFit m s m.outputs

-- what acceptance gives at all allowed sizes
abbrev pub AcceptedStaysWithin : Type 0
AcceptedStaysWithin =
    (m : Module) (finals : List FinalLine) (marks : List Path) → IsSound m → FormsNormal m.outputs → final_fault m finals marks ≡ None
    → (s : List ℕ) → Allowed m s → StaysWithin m s
