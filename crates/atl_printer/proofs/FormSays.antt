-- The tokens of a normal form stand for it.
use Rattle.std.proofs.Common.{◌≡◌, ℕ, ◌-◌, ◌<◌, ◌≤◌, true, Result, Ok, arith}
use Rattle.text_tokens.specs.Kinds.{Text}
use Rattle.affine_index.specs.Form.{of_atom}
use Rattle.affine_index.specs.Limited.{items_scoped}
use Rattle.affine_index.specs.Normal.{is_normal}
use Rattle.affine_index.specs.declared.form.Atom.TheVariants.{Size, Var}
use Rattle.affine_index.specs.declared.form.Items.{Items}
use Rattle.reader_laws.specs.declared.fault.Fault.{Fault}
use Rattle.source_grammar.specs.Index.{Sum, IsIndex}
use Rattle.atl_printer.specs.IndexTokens.{index_tokens}
use Rattle.index_trees.specs.Tree.{index_tree}
use Rattle.atl_printer.proofs.IndexSays.{tree-says}
use Rattle.reader_laws.proofs.Says.{Says}
use Rattle.atl_printer.proofs.TreeOperators.{normal-operators}
use Rattle.atl_printer.proofs.TreeReads.{tree-reads}

-- where the names of sizes and of the variables of loops stand for them
pub form-says : (names : Text → Result Items Fault) (size_text loop_text : ℕ → Text) (loops sizes : ℕ)
    → ((s : ℕ) → s < sizes → names (size_text s) ≡ Ok (of_atom (Size s))) → ((v : ℕ) → v < loops → names (loop_text (loops - 1 - v)) ≡ Ok (of_atom (Var v)))
    → (i : Items) (levels : ℕ) → is_normal i ≡ true → items_scoped sizes loops i ≡ true → 513 ≤ levels
    → Says (IsIndex names levels Sum) (index_tokens size_text loop_text (index_tree loops i) Sum) i
form-says names size_text loop_text loops sizes size_is loop_is i levels n g h =
    let few = normal-operators loops i n in
    tree-says names size_text loop_text (index_tree loops i) i levels
    (tree-reads (λ s. names (size_text s)) (λ d. names (loop_text d)) loops sizes size_is loop_is i n g) (omega (arith, few, h)) (omega (arith, few))
