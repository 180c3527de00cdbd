-- Modules whose program has a text of its own.
use Rattle.std.specs.Prelude.{◌≤◌, All, List}
use Rattle.linear_cert.specs.declared.lines.FinalLine.{FinalLine}
use Rattle.term_tree.specs.Counts.{node_depth}
use Rattle.term_tree.specs.declared.term.Module.{Module}
use Rattle.term_tree.specs.declared.term.Path.{Path}
use Rattle.shape_rules.specs.Fits.{LiteralsFit}
use Rattle.final_rules.specs.Accepted.{IsLowerable}
use Rattle.lowering_laws.specs.Lowered.{loops_of}
use Rattle.c_print.specs.Program.{canonical_text}
use Rattle.c_read.specs.Alone.{IsTextOfAlone}
use Rattle.c_text.specs.Flat.{IsFlat}
use Rattle.c_text.specs.Statement.{HasSmallNumbers}

-- a module that may be lowered, each literal of which is a word, whose terms are at most 200 deep, and whose numbers are of 32 bits
pub record IsPrintedModule (m : Module) (finals : List FinalLine) (marks : List Path) : Type 0 where
  pub lowerable : IsLowerable m finals marks
  pub literals : All (λ o. LiteralsFit o.term) m.outputs
  pub depths : All (λ o. node_depth o.term ≤ 200) m.outputs
  pub numbers : HasSmallNumbers (loops_of m marks)

-- the program of each such module has flat bodies, within the levels of C
abbrev pub LoopsAreFlat : Type 0
LoopsAreFlat = (m : Module) (finals : List FinalLine) (marks : List Path) → IsPrintedModule m finals marks → IsFlat (loops_of m marks)

-- the canonical text of the program of each such module stands for that program and for no other
abbrev pub TextsAreAlone : Type 0
TextsAreAlone =
    (m : Module) (finals : List FinalLine) (marks : List Path) → IsPrintedModule m finals marks
    → IsTextOfAlone (canonical_text (loops_of m marks)) (loops_of m marks)
