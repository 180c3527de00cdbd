-- The canonical text of scripts: one step, final line or section a line.
use Rattle.std.specs.Prelude.{ℕ, List, [], ◌∷◌, ◌++◌, codes, decimal, flat_map}
use Rattle.std.specs.Fmt.{signed_decimal}
use Rattle.text_tokens.specs.Kinds.{Text}
use Rattle.affine_index.specs.declared.cond.Rel.{Rel}
use Rattle.affine_index.specs.declared.cond.Rel.TheVariants.{Lt, Le, Gt, Ge, Eq}
use Rattle.term_tree.specs.declared.term.Path.{Path}
use Rattle.linear_cert.specs.declared.lines.Line.{Line}
use Rattle.linear_cert.specs.declared.lines.Lines.{Lines}
use Rattle.linear_cert.specs.declared.lines.Lines.TheVariants.{Default, Given}
use Rattle.linear_cert.specs.declared.lines.FinalLine.{FinalLine}
use Rattle.schedule_script.specs.declared.tree.ArgTree.{ArgTree}
use Rattle.schedule_script.specs.declared.tree.ArgTree.TheVariants.{Ix, Cond}
use Rattle.schedule_script.specs.declared.tree.Comparison.{Comparison}
use Rattle.schedule_script.specs.declared.tree.Step.{Step}
use Rattle.schedule_script.specs.declared.tree.Script.{Script}
use Rattle.script_printer.specs.declared.level.Level.TheVariants.{Sum}
use Rattle.script_printer.specs.Index.{index_text}

-- ---- arguments

abbrev pub relation_text : Rel → Text
relation_text Lt = codes " < "
relation_text Le = codes " <= "
relation_text Gt = codes " > "
relation_text Ge = codes " >= "
relation_text Eq = codes " == "

abbrev pub comparison_text : Comparison → Text
comparison_text c = index_text c.left Sum ++ relation_text c.rel ++ index_text c.right Sum

abbrev pub and_comparison : Comparison → Text
and_comparison c = codes " and " ++ comparison_text c

abbrev pub condition_text : List Comparison → Text
condition_text [] = []
condition_text (c ∷ cs) = comparison_text c ++ flat_map and_comparison cs

abbrev pub argument_text : ArgTree → Text
argument_text (Ix a) = index_text a Sum
argument_text (Cond cs) = condition_text cs

abbrev pub further_argument : ArgTree → Text
further_argument a = codes ", " ++ argument_text a

-- a rule without arguments has no parentheses
abbrev pub arguments_text : List ArgTree → Text
arguments_text [] = []
arguments_text (x ∷ xs) = codes "(" ++ argument_text x ++ flat_map further_argument xs ++ codes ")"

-- ---- certificates

abbrev pub line_text : Line → Text
line_text l = decimal l.fact ++ codes ": " ++ signed_decimal l.multiplier

abbrev pub further_line : Line → Text
further_line l = codes ", " ++ line_text l

abbrev pub lines_text : List Line → Text
lines_text [] = []
lines_text (l ∷ ls) = line_text l ++ flat_map further_line ls

abbrev pub certificate_text : Lines → Text
certificate_text Default = codes " by default"
certificate_text (Given ls) = codes " by {" ++ lines_text ls ++ codes "}"

-- ---- steps

abbrev pub position_text : ℕ → Text
position_text n = codes "." ++ decimal n

abbrev pub path_text : Path → Text
path_text p = decimal p.output ++ flat_map position_text p.steps

abbrev pub step_text : Step → Text
step_text s = codes "at " ++ path_text s.path ++ codes " do " ++ s.rule ++ arguments_text s.args ++ flat_map certificate_text s.lines ++ codes ";\n"

abbrev pub final_text : FinalLine → Text
final_text f = codes "goal " ++ decimal f.goal ++ certificate_text f.lines ++ codes ";\n"

abbrev pub further_path : Path → Text
further_path p = codes ", " ++ path_text p

-- the section of parallel loops, where there is one
abbrev pub parallel_text : List Path → Text
parallel_text [] = []
parallel_text (p ∷ ps) = codes "parallel " ++ path_text p ++ flat_map further_path ps ++ codes ";\n"

-- what follows the first line of a script
abbrev pub body_text : Script → Text
body_text s = flat_map step_text s.steps ++ flat_map final_text s.finals ++ parallel_text s.parallel

-- the canonical text of a script
abbrev pub script_text : Script → Text
script_text s = codes "schedule 1;\n" ++ body_text s
