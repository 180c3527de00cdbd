-- Scripts whose canonical text reads back.
use Rattle.std.specs.Prelude.{ℕ, ◌+◌, ◌^◌, ◌<◌, ◌≤◌, max, Bool, true, false, List, [], ◌∷◌, length}
use Rattle.std.specs.Prelude.{◌≡◌, unsigned_abs}
use Rattle.text_tokens.specs.declared.kind.Language.TheVariants as language
use Rattle.text_tokens.specs.Names.{IsName}
use Rattle.text_tokens.specs.Kinds.{Text}
use Rattle.term_tree.specs.declared.term.Path.{Path}
use Rattle.linear_cert.specs.declared.lines.Line.{Line}
use Rattle.linear_cert.specs.declared.lines.Lines.{Lines}
use Rattle.linear_cert.specs.declared.lines.Lines.TheVariants.{Default, Given}
use Rattle.linear_cert.specs.declared.lines.FinalLine.{FinalLine}
use Rattle.schedule_script.specs.declared.tree.IxTree.{IxTree, Num, Name}
use Rattle.schedule_script.specs.declared.tree.ArgTree.{ArgTree}
use Rattle.schedule_script.specs.declared.tree.ArgTree.TheVariants.{Ix, Cond}
use Rattle.schedule_script.specs.declared.tree.Comparison.{Comparison}
use Rattle.schedule_script.specs.declared.tree.Step.{Step}
use Rattle.schedule_script.specs.declared.tree.Script.{Script}
use Rattle.schedule_script.specs.Syntax.{negation, sum, difference, product, quotient, remainder}
use Rattle.schedule_script.specs.Depth.{tree_depth}
use Rattle.schedule_script.specs.Script.{ScriptText}
use Rattle.schedule_script.specs.Words.{most_steps, most_items}
use Rattle.script_printer.specs.declared.level.Level.{Level}
use Rattle.script_printer.specs.declared.level.Level.TheVariants.{Sum, Product, Part}
use Rattle.script_printer.specs.Index.{is_looser}

-- one level, where a test says so
abbrev pub one_if : Bool → ℕ
one_if true = 1
one_if false = 0

-- how many levels the text of an index opens, where the level is the loosest that may stand: those of its parentheses and of its unary minuses
abbrev pub levels : IxTree → Level → ℕ
levels (Num n) place = 0
levels (Name t) place = 0
levels (negation a) place = levels a Part + 1
levels (sum a b) place = max (levels a Sum) (levels b Product) + one_if (is_looser Sum place)
levels (difference a b) place = max (levels a Sum) (levels b Product) + one_if (is_looser Sum place)
levels (product a b) place = max (levels a Product) (levels b Part) + one_if (is_looser Product place)
levels (quotient a k) place = levels a Product + one_if (is_looser Product place)
levels (remainder a k) place = levels a Product + one_if (is_looser Product place)

-- names are names of scripts, numbers are within their limits, and what an operator makes is at most 1,000 deep
abbrev pub IsGoodTree : IxTree → Type 0
IsGoodTree (Num n) = n < 2 ^ 64
IsGoodTree (Name t) = IsName language.Script t
IsGoodTree (negation a) = IsGoodTree a
IsGoodTree (sum a b) = (tree_depth (sum a b) ≤ 1000) × IsGoodTree a × IsGoodTree b
IsGoodTree (difference a b) = (tree_depth (difference a b) ≤ 1000) × IsGoodTree a × IsGoodTree b
IsGoodTree (product a b) = (tree_depth (product a b) ≤ 1000) × IsGoodTree a × IsGoodTree b
IsGoodTree (quotient a k) = (tree_depth (quotient a k) ≤ 1000) × IsGoodTree a × (0 < k) × (k ≤ 2147483647)
IsGoodTree (remainder a k) = (tree_depth (remainder a k) ≤ 1000) × IsGoodTree a × (0 < k) × (k ≤ 2147483647)

-- an index, which opens at most the 999 levels that are left in the parentheses of a rule
abbrev pub IsGoodIndex : IxTree → Type 0
IsGoodIndex a = IsGoodTree a × (levels a Sum ≤ 999)

-- each item of a list is good, and no list is longer than a machine holds
abbrev pub Each : {A : Type 0} → (A → Type 0) → List A → Type 0
Each P [] = Unit {0}
Each P (x ∷ xs) = P x × Each P xs

abbrev pub AreGood : {A : Type 0} → (A → Type 0) → List A → Type 0
AreGood P xs = (length xs ≤ most_items) × Each P xs

-- items with a separator between two
abbrev pub AreSeparated : {A : Type 0} → (A → Type 0) → List A → Type 0
AreSeparated P [] = Unit {0}
AreSeparated P (x ∷ xs) = P x × AreGood P xs

abbrev pub IsGoodComparison : Comparison → Type 0
IsGoodComparison c = IsGoodIndex c.left × IsGoodIndex c.right

-- a condition has a comparison
abbrev pub IsGoodArgument : ArgTree → Type 0
IsGoodArgument (Ix a) = IsGoodIndex a
IsGoodArgument (Cond cs) = (0 < length cs) × AreSeparated IsGoodComparison cs

abbrev pub IsCount : ℕ → Type 0
IsCount n = n < 2 ^ 32

-- a multiplier is within 2^31
abbrev pub IsGoodLine : Line → Type 0
IsGoodLine l = IsCount l.fact × (unsigned_abs l.multiplier ≤ 2147483648)

abbrev pub IsGoodCertificate : Lines → Type 0
IsGoodCertificate Default = Unit {0}
IsGoodCertificate (Given ls) = AreSeparated IsGoodLine ls

abbrev pub IsGoodPath : Path → Type 0
IsGoodPath p = IsCount p.output × AreGood IsCount p.steps

pub record IsGoodStep (s : Step) : Type 0 where
  pub path : IsGoodPath s.path
  pub rule : IsName language.Script s.rule
  pub args : AreSeparated IsGoodArgument s.args
  pub lines : AreGood IsGoodCertificate s.lines

abbrev pub IsGoodFinal : FinalLine → Type 0
IsGoodFinal f = IsCount f.goal × IsGoodCertificate f.lines

-- at most 1,000 steps, and no section of parallel loops, which is not read yet
pub record IsPrintable (s : Script) : Type 0 where
  pub few : length s.steps ≤ most_steps
  pub steps : Each IsGoodStep s.steps
  pub finals : AreGood IsGoodFinal s.finals
  pub parallel : s.parallel ≡ []

-- the text is one of this script, and of no other
pub record ReadsBack (z : Text) (s : Script) : Type 0 where
  pub reads : ScriptText z s
  pub only : (other : Script) → ScriptText z other → other ≡ s
