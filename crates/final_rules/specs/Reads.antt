-- Reads by one fold, as code walks a term.
use Rattle.std.specs.Prelude.{List, ◌∷◌, Option, Some, None}
use Rattle.affine_index.specs.declared.form.Items.{Items}
use Rattle.term_tree.specs.declared.term.Term.{Term}
use Rattle.term_tree.specs.declared.term.Term.TheOpen.{Term-F}
use Rattle.term_tree.specs.declared.term.Term.TheFolds.{fold-Term}
use Rattle.final_rules.specs.declared.read.Read.{Read}

abbrev pub reading_step : Term-F (List Items → Option Read) → List Items → Option Read
reading_step (Term-F.TVar q) xs = Some (record { var = q; indices = xs })
reading_step (Term-F.Index e x) xs = e (x ∷ xs)
reading_step _ xs = None

-- the read that a term is under more indices, if it is one
abbrev pub reading : Term → List Items → Option Read
reading = fold-Term (List Items → Option Read) reading_step
