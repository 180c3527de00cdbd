-- The tensors that values of the code stand for.
use Rattle.term_tree.specs.Tensors.{Tensor, Word, from_rows}
use Rattle.atl_meaning.specs.declared.tensor.Tensor.{Tensor as Value}
use Rattle.atl_meaning.specs.declared.tensor.Tensor.TheOpen.{Tensor-F}
use Rattle.atl_meaning.specs.declared.tensor.Tensor.TheFolds.{fold-Tensor}

-- one level of a value
abbrev pub meant_step : Tensor-F Tensor → Tensor
meant_step (Tensor-F.Word w) = Word w
meant_step (Tensor-F.Row rows) = from_rows rows

-- the tensor that a value stands for
abbrev pub meant : Value → Tensor
meant = fold-Tensor Tensor meant_step
