-- The equations of what a value stands for.
use Rattle.std.proofs.Common.{◌≡◌, ℕ, List, map, ap, sym, ◌∙◌}
use Rattle.term_tree.specs.Tensors.{Tensor, from_rows}
use Rattle.term_tree.specs.Tensors.{Word as word}
use Rattle.atl_meaning.specs.Values.{meant, meant_step}
use Rattle.atl_meaning.specs.declared.tensor.Tensor.{Tensor as Value}
use Rattle.atl_meaning.specs.declared.tensor.Tensor.TheVariants.{Word, Row, rolls-Word, rolls-Row}
use Rattle.atl_meaning.specs.declared.tensor.Tensor.TheOpen.{Tensor-F}
use Rattle.atl_meaning.specs.declared.tensor.Tensor.TheFolds.{fold-roll-Tensor}

pub meant-Word : (w : ℕ) → meant (Word w) ≡ word w
meant-Word w = ap meant (sym (rolls-Word w)) ∙ fold-roll-Tensor Tensor meant_step (Tensor-F.Word w)

pub meant-Row : (rows : List Value) → meant (Row rows) ≡ from_rows (map meant rows)
meant-Row rows = ap meant (sym (rolls-Row rows)) ∙ fold-roll-Tensor Tensor meant_step (Tensor-F.Row rows)

pub ruleset meant_laws = (meant-Word, meant-Row)
