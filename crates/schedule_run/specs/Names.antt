-- Rules by their names in scripts.
use Rattle.std.specs.Prelude.{if◌then◌else◌, bytes_eq, codes, List, [], ◌∷◌, Option, Some, None}
use Rattle.path_focus.specs.Outcome.{Meant}
use Rattle.path_focus.specs.declared.place.Focus.{Focus}
use Rattle.path_focus.specs.declared.rule.Arg.{Arg}
use Rattle.rules_guard.specs.Rules as guard_table
use Rattle.rules_guard.specs.declared.rules.GuardRule.TheVariants as guard
use Rattle.rules_let.specs.Rules as let_table
use Rattle.rules_let.specs.declared.rules.LetRule.TheVariants as lets
use Rattle.rules_loop.specs.Rules as loop_table
use Rattle.rules_loop.specs.declared.rules.LoopRule.TheVariants as loop
use Rattle.rules_shape.specs.Rules as shape_table
use Rattle.rules_shape.specs.declared.rules.ShapeRule.TheVariants as shape
use Rattle.schedule_run.specs.declared.names.Rule.{Rule}
use Rattle.schedule_run.specs.declared.names.Rule.TheVariants.{Loop, Let, Guard, Shape}
use Rattle.script_arguments.specs.Names.{or_else}
use Rattle.text_tokens.specs.Kinds.{Text}

abbrev pub Names : Type 0
Names = List (Text × Rule)

-- rules of gens and sums
abbrev pub loop_rules : Names
loop_rules =
    (codes "beta", Loop loop.Beta)
    ∷ (codes "eta", Loop loop.Eta)
    ∷ (codes "uneta", Loop loop.Uneta)
    ∷ (codes "split_gen", Loop loop.SplitGen)
    ∷ (codes "split_gen_exact", Loop loop.SplitGenExact)
    ∷ (codes "fuse_gen", Loop loop.FuseGen)
    ∷ (codes "swap_gen", Loop loop.SwapGen)
    ∷ (codes "cut_gen", Loop loop.CutGen)
    ∷ (codes "split_sum", Loop loop.SplitSum)
    ∷ (codes "swap_sum", Loop loop.SwapSum)
    ∷ (codes "cut_sum", Loop loop.CutSum)
    ∷ (codes "sum_gen", Loop loop.SumGen)
    ∷ (codes "gen_sum", Loop loop.GenSum)
    ∷ (codes "sum_index", Loop loop.SumIndex)
    ∷ (codes "sum_one", Loop loop.SumOne)
    ∷ (codes "sum_pick", Loop loop.SumPick)
    ∷ (codes "sum_add", Loop loop.SumAdd)
    ∷ (codes "add_sum", Loop loop.AddSum)
    ∷ (codes "mul_into_sum", Loop loop.MulIntoSum)
    ∷ (codes "mul_out_of_sum", Loop loop.MulOutOfSum)
    ∷ (codes "add_index", Loop loop.AddIndex)
    ∷ []

-- rules of lets
abbrev pub let_rules : Names
let_rules =
    (codes "let_intro", Let lets.LetIntro)
    ∷ (codes "let_inline", Let lets.LetInline)
    ∷ (codes "let_use", Let lets.LetUse)
    ∷ (codes "let_out_of_gen", Let lets.LetOutOfGen)
    ∷ (codes "let_lift_gen", Let lets.LetLiftGen)
    ∷ (codes "let_out_of_sum", Let lets.LetOutOfSum)
    ∷ (codes "let_index", Let lets.LetIndex)
    ∷ (codes "let_guard", Let lets.LetGuard)
    ∷ (codes "let_let", Let lets.LetLet)
    ∷ (codes "let_drop", Let lets.LetDrop)
    ∷ (codes "let_op", Let lets.LetOp)
    ∷ []

-- rules of guards
abbrev pub guard_rules : Names
guard_rules =
    (codes "guard_intro", Guard guard.GuardIntro)
    ∷ (codes "guard_elim", Guard guard.GuardElim)
    ∷ (codes "guard_merge", Guard guard.GuardMerge)
    ∷ (codes "guard_part", Guard guard.GuardPart)
    ∷ (codes "guard_gen", Guard guard.GuardGen)
    ∷ (codes "gen_guard", Guard guard.GenGuard)
    ∷ (codes "guard_sum", Guard guard.GuardSum)
    ∷ (codes "guard_add", Guard guard.GuardAdd)
    ∷ (codes "guard_mul", Guard guard.GuardMul)
    ∷ (codes "guard_index", Guard guard.GuardIndex)
    ∷ (codes "guard_cases", Guard guard.GuardCases)
    ∷ (codes "access_guard", Guard guard.AccessGuard)
    ∷ (codes "sum_narrow", Guard guard.SumNarrow)
    ∷ (codes "div_zero", Guard guard.DivZero)
    ∷ []

-- rules of shapes, and laws of arithmetic on words
abbrev pub shape_rules : Names
shape_rules =
    (codes "transpose_index", Shape shape.TransposeIndex)
    ∷ (codes "flatten_index", Shape shape.FlattenIndex)
    ∷ (codes "split_index", Shape shape.SplitIndex)
    ∷ (codes "padl_index", Shape shape.PadlIndex)
    ∷ (codes "padr_index", Shape shape.PadrIndex)
    ∷ (codes "truncl_index", Shape shape.TrunclIndex)
    ∷ (codes "truncr_index", Shape shape.TruncrIndex)
    ∷ (codes "concat_index_left", Shape shape.ConcatIndexLeft)
    ∷ (codes "concat_index_right", Shape shape.ConcatIndexRight)
    ∷ (codes "transpose_twice", Shape shape.TransposeTwice)
    ∷ (codes "split_flatten", Shape shape.SplitFlatten)
    ∷ (codes "flatten_split", Shape shape.FlattenSplit)
    ∷ (codes "pad_trunc_l", Shape shape.PadTruncL)
    ∷ (codes "pad_trunc_r", Shape shape.PadTruncR)
    ∷ (codes "trunc_gen_l", Shape shape.TruncGenL)
    ∷ (codes "trunc_gen_r", Shape shape.TruncGenR)
    ∷ (codes "pad_gen_l", Shape shape.PadGenL)
    ∷ (codes "pad_gen_r", Shape shape.PadGenR)
    ∷ (codes "concat_gen", Shape shape.ConcatGen)
    ∷ (codes "concat_assoc", Shape shape.ConcatAssoc)
    ∷ (codes "split_of_gen", Shape shape.SplitOfGen)
    ∷ (codes "flatten_of_gen", Shape shape.FlattenOfGen)
    ∷ (codes "ring", Shape shape.Ring)
    ∷ []

-- the first rule of this name
abbrev pub among : Names → Text → Option Rule
among [] t = None
among (named ∷ rest) t = if bytes_eq t named.0 then Some named.1 else among rest t

-- the rule of this name, of the four families
abbrev pub rule_named : Text → Option Rule
rule_named t = or_else (among loop_rules t) (or_else (among let_rules t) (or_else (among guard_rules t) (among shape_rules t)))

-- what a rule makes of a focus and arguments
abbrev pub meant_by : Rule → Focus → List Arg → Meant
meant_by (Loop r) f as' = loop_table.rule_of f r as'
meant_by (Let r) f as' = let_table.rule_of f r as'
meant_by (Guard r) f as' = guard_table.rule_of f r as'
meant_by (Shape r) f as' = shape_table.rule_of f r as'
