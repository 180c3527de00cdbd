-- The versions of a printable module are printable.
use Rattle.std.specs.Prelude.{◌≡◌, All, true, List, Ok}
use Rattle.affine_index.specs.Normal.{is_normal}
use Rattle.term_tree.specs.Limits.{every_form}
use Rattle.term_tree.specs.declared.term.Module.{Module}
use Rattle.term_tree.specs.declared.term.OutputDecl.{OutputDecl}
use Rattle.schedule_script.specs.declared.tree.Step.{Step}
use Rattle.schedule_run.specs.Versions.{IsVersion, versions_of}
use Rattle.atl_printer.specs.Held.{IsHeld}
use Rattle.atl_printer.specs.PrintableModule.{IsPrintableModule}

-- the term of an output is within what its types hold: each form is normal, literals and lengths fit into a machine
pub record IsTold (o : OutputDecl) : Type 0 where
  pub normal : every_form is_normal o.term ≡ true
  pub held : IsHeld o.term

-- so is each of a module
abbrev pub IsToldModule : Module → Type 0
IsToldModule m = All IsTold m.outputs

-- the versions that steps make of a printable module are printable, where each is a version within what its types hold
abbrev pub VersionsArePrintable : Type 0
VersionsArePrintable =
    (m : Module) → IsPrintableModule m → (steps : List Step) (versions : List Module) → versions_of m steps ≡ Ok versions
    → All (IsVersion m) versions → All IsToldModule versions → All IsPrintableModule versions
