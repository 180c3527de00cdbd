-- The table by the names of the rules.
use Rattle.std.specs.Prelude.{◌≡◌, List, Result, Err}
use Rattle.path_focus.specs.Outcome.{Meant}
use Rattle.path_focus.specs.declared.place.Focus.{Focus}
use Rattle.path_focus.specs.declared.rule.Arg.{Arg}
use Rattle.path_focus.specs.declared.rule.Condition.{Condition}
use Rattle.path_focus.specs.declared.rule.RuleFault.{RuleFault}
use Rattle.path_focus.specs.declared.rule.RuleFault.TheVariants.{Memory}
use Rattle.rules_shape.specs.Indices as indices
use Rattle.rules_shape.specs.Ring as laws
use Rattle.rules_shape_gen.specs.Table as gens
use Rattle.rules_shape_tensor.specs.Rows as rows
use Rattle.rules_shape_tensor.specs.Tensors as tensors
use Rattle.rules_shape.specs.declared.rules.ShapeRule.{ShapeRule}
use Rattle.rules_shape.specs.declared.rules.ShapeRule.TheVariants.{ConcatAssoc, FlattenIndex, FlattenSplit, PadTruncL, PadTruncR, SplitFlatten, SplitIndex}
use Rattle.rules_shape.specs.declared.rules.ShapeRule.TheVariants.{TransposeIndex, TransposeTwice}
use Rattle.rules_shape.specs.declared.rules.ShapeRule.TheVariants.{ConcatGen, FlattenOfGen, PadGenL, PadGenR, SplitOfGen, TruncGenL, TruncGenR}
use Rattle.rules_shape.specs.declared.rules.ShapeRule.TheVariants.{Ring, PadlIndex, PadrIndex, TrunclIndex, TruncrIndex, ConcatIndexLeft, ConcatIndexRight}

-- what a rule makes of a focus and arguments
abbrev pub rule_of : Focus → ShapeRule → List Arg → Meant
rule_of f Ring = laws.ring f
rule_of f PadlIndex = indices.padl_index f
rule_of f PadrIndex = indices.padr_index f
rule_of f TrunclIndex = indices.truncl_index f
rule_of f TruncrIndex = indices.truncr_index f
rule_of f ConcatIndexLeft = indices.concat_index_left f
rule_of f ConcatIndexRight = indices.concat_index_right f
rule_of f TransposeIndex = rows.transpose_index f
rule_of f FlattenIndex = rows.flatten_index f
rule_of f SplitIndex = rows.split_index f
rule_of f TransposeTwice = tensors.transpose_twice f
rule_of f SplitFlatten = tensors.split_flatten f
rule_of f FlattenSplit = tensors.flatten_split f
rule_of f PadTruncL = tensors.pad_trunc_l f
rule_of f PadTruncR = tensors.pad_trunc_r f
rule_of f ConcatAssoc = tensors.concat_assoc f
rule_of f TruncGenL = gens.trunc_gen_l f
rule_of f TruncGenR = gens.trunc_gen_r f
rule_of f PadGenL = gens.pad_gen_l f
rule_of f PadGenR = gens.pad_gen_r f
rule_of f ConcatGen = gens.concat_gen f
rule_of f SplitOfGen = gens.split_of_gen f
rule_of f FlattenOfGen = gens.flatten_of_gen f

-- the conditions, unless memory runs out
abbrev pub IsConditions : Result (List Condition) RuleFault → Result (List Condition) RuleFault → Type 0
IsConditions want (Err Memory) = Unit {0}
IsConditions want r = r ≡ want
