-- The canonical text of a script is a text of that script, and of no other.
use Rattle.std.proofs.Common.{◌≡◌, ℕ, suc, ◌≤◌, Bool, true, false, List, [], ◌∷◌, ◌++◌, length, Result, Ok}
use Rattle.std.proofs.Common.{refl, sym, ap, subst, ◌∙◌, arith, lit<, append_assoc}
use Rattle.std.specs.Prelude.{codes, decimal, flat_map, ℤ, pos, negsuc, unsigned_abs}
use Rattle.std.specs.Fmt.{signed_decimal}
use Rattle.std.specs.Str.{chars}
use Rattle.std.proofs.lemmas.List.{append-nil}
use Rattle.std.proofs.lemmas.Str.{chars-nil}
use Rattle.text_tokens.specs.declared.kind.Kind.TheVariants as k
use Rattle.text_tokens.specs.declared.kind.Language.TheVariants as language
use Rattle.text_tokens.specs.Kinds.{Text, keyword, kind_in, symbol}
use Rattle.text_tokens.specs.Words.{words_from, words_of}
use Rattle.text_tokens.specs.Spelled.{Token, number_token, sign, tokens_of}
use Rattle.text_tokens.proofs.Lexed.{rest_of}
use Rattle.affine_index.specs.declared.cond.Rel.{Rel}
use Rattle.affine_index.specs.declared.cond.Rel.TheVariants.{Lt, Le, Gt, Ge, Eq}
use Rattle.term_tree.specs.declared.term.Path.{Path}
use Rattle.linear_cert.specs.declared.lines.Line.{Line}
use Rattle.linear_cert.specs.declared.lines.Lines.{Lines}
use Rattle.linear_cert.specs.declared.lines.Lines.TheVariants.{Default, Given}
use Rattle.linear_cert.specs.declared.lines.FinalLine.{FinalLine}
use Rattle.schedule_script.specs.declared.tree.IxTree.{IxTree, Num, Name}
use Rattle.schedule_script.specs.declared.tree.ArgTree.{ArgTree}
use Rattle.schedule_script.specs.declared.tree.ArgTree.TheVariants.{Ix, Cond}
use Rattle.schedule_script.specs.declared.tree.Comparison.{Comparison}
use Rattle.schedule_script.specs.declared.tree.Step.{Step}
use Rattle.schedule_script.specs.declared.tree.Script.{Script}
use Rattle.schedule_script.specs.declared.fault.ScriptFault.{ScriptFault}
use Rattle.schedule_script.specs.Syntax.{negation, sum, difference, product, quotient, remainder}
use Rattle.schedule_script.specs.Script.{ScriptText}
use Rattle.schedule_script.proofs.WholeLaws.{source_only}
use Rattle.script_printer.specs.declared.level.Level.{Level}
use Rattle.script_printer.specs.declared.level.Level.TheVariants.{Sum, Product, Part}
use Rattle.script_printer.specs.Index as text
use Rattle.script_printer.specs.Index.{is_looser, index_text}
use Rattle.script_printer.specs.Script.{relation_text, comparison_text, and_comparison, argument_text, further_argument, arguments_text}
use Rattle.script_printer.specs.Script.{line_text, further_line, lines_text, certificate_text, position_text, path_text, step_text, final_text, script_text}
use Rattle.script_printer.specs.Script.{parallel_text}
use Rattle.script_printer.specs.Printable.{AreSeparated, Each, IsCount, IsGoodArgument, IsGoodCertificate, IsGoodComparison, IsGoodFinal, IsGoodLine}
use Rattle.script_printer.specs.Printable.{IsGoodPath, IsGoodStep, IsGoodTree, IsPrintable, ReadsBack}
use Rattle.script_printer.proofs.IndexSays.{enclosed, index_tokens}
use Rattle.script_printer.proofs.ScriptSays.{argument_tokens, arguments_tokens, certificate_tokens, comparison_tokens, count_tokens}
use Rattle.script_printer.proofs.ScriptSays.{each_after, final_tokens, line_tokens, multiplier_tokens, path_tokens, script-says}
use Rattle.script_printer.proofs.ScriptSays.{script_tokens, step_tokens, the_and, the_at, the_by, the_default, the_do, the_goal, the_schedule, the_version}
use Rattle.script_printer.proofs.ScriptSays.{relation_kind}
use Rattle.script_printer.proofs.Cuts.{Cut, Tail, cut_tail, digits_cut, keyword_cut, mark_tail, name_cut}
use Rattle.script_printer.proofs.Cuts.{number_cut, position_tail, regroup, regroup_tail, space, sure_cut, sure_tail}
use Rattle.script_printer.proofs.Cuts.{tail_nil, tail_tail, weaker, weaker_tail}

-- ---- symbols, with what stands behind them

open_sign : Tail true (codes "(") (sign k.LParen ∷ [])
unfolding symbol words_from
open_sign = mark_tail 40 [] [] k.LParen (record {
  below = lit< tt;
  letter = refl;
  either = refl;
  low = refl;
  digit = refl;
  clear = (refl, refl);
  small = refl;
  small_behind = refl;
  is = λ rest. refl;
  len = refl;
  skips = λ end rest. refl;
})

close_sign : Tail true (codes ")") (sign k.RParen ∷ [])
unfolding symbol words_from
close_sign = mark_tail 41 [] [] k.RParen (record {
  below = lit< tt;
  letter = refl;
  either = refl;
  low = refl;
  digit = refl;
  clear = (refl, refl);
  small = refl;
  small_behind = refl;
  is = λ rest. refl;
  len = refl;
  skips = λ end rest. refl;
})

minus_sign : Tail true (45 ∷ []) (sign k.Minus ∷ [])
unfolding symbol words_from
minus_sign = mark_tail 45 [] [] k.Minus (record {
  below = lit< tt;
  letter = refl;
  either = refl;
  low = refl;
  digit = refl;
  clear = (refl, refl);
  small = refl;
  small_behind = refl;
  is = λ rest. refl;
  len = refl;
  skips = λ end rest. refl;
})

brace_sign : Tail true (codes "{") (sign k.LBrace ∷ [])
unfolding symbol words_from
brace_sign = mark_tail 123 [] [] k.LBrace (record {
  below = lit< tt;
  letter = refl;
  either = refl;
  low = refl;
  digit = refl;
  clear = (refl, refl);
  small = refl;
  small_behind = refl;
  is = λ rest. refl;
  len = refl;
  skips = λ end rest. refl;
})

end_brace : Tail true (codes "}") (sign k.RBrace ∷ [])
unfolding symbol words_from
end_brace = mark_tail 125 [] [] k.RBrace (record {
  below = lit< tt;
  letter = refl;
  either = refl;
  low = refl;
  digit = refl;
  clear = (refl, refl);
  small = refl;
  small_behind = refl;
  is = λ rest. refl;
  len = refl;
  skips = λ end rest. refl;
})

comma_sign : Tail true (codes ", ") (sign k.Comma ∷ [])
unfolding symbol words_from
comma_sign = mark_tail 44 [] (32 ∷ []) k.Comma (record {
  below = lit< tt;
  letter = refl;
  either = refl;
  low = refl;
  digit = refl;
  clear = (refl, refl);
  small = refl;
  small_behind = refl;
  is = λ rest. refl;
  len = refl;
  skips = λ end rest. refl;
})

colon_sign : Tail true (codes ": ") (sign k.Colon ∷ [])
unfolding symbol words_from
colon_sign = mark_tail 58 [] (32 ∷ []) k.Colon (record {
  below = lit< tt;
  letter = refl;
  either = refl;
  low = refl;
  digit = refl;
  clear = (refl, refl);
  small = refl;
  small_behind = refl;
  is = λ rest. refl;
  len = refl;
  skips = λ end rest. refl;
})

semi_sign : Tail true (codes ";\n") (sign k.Semi ∷ [])
unfolding symbol words_from
semi_sign = mark_tail 59 [] (10 ∷ []) k.Semi (record {
  below = lit< tt;
  letter = refl;
  either = refl;
  low = refl;
  digit = refl;
  clear = (refl, refl);
  small = refl;
  small_behind = refl;
  is = λ rest. refl;
  len = refl;
  skips = λ end rest. refl;
})

plus_spaced : Tail true (43 ∷ 32 ∷ []) (sign k.Plus ∷ [])
unfolding symbol words_from
plus_spaced = mark_tail 43 [] (32 ∷ []) k.Plus (record {
  below = lit< tt;
  letter = refl;
  either = refl;
  low = refl;
  digit = refl;
  clear = (refl, refl);
  small = refl;
  small_behind = refl;
  is = λ rest. refl;
  len = refl;
  skips = λ end rest. refl;
})

minus_spaced : Tail true (45 ∷ 32 ∷ []) (sign k.Minus ∷ [])
unfolding symbol words_from
minus_spaced = mark_tail 45 [] (32 ∷ []) k.Minus (record {
  below = lit< tt;
  letter = refl;
  either = refl;
  low = refl;
  digit = refl;
  clear = (refl, refl);
  small = refl;
  small_behind = refl;
  is = λ rest. refl;
  len = refl;
  skips = λ end rest. refl;
})

star_spaced : Tail true (42 ∷ 32 ∷ []) (sign k.Star ∷ [])
unfolding symbol words_from
star_spaced = mark_tail 42 [] (32 ∷ []) k.Star (record {
  below = lit< tt;
  letter = refl;
  either = refl;
  low = refl;
  digit = refl;
  clear = (refl, refl);
  small = refl;
  small_behind = refl;
  is = λ rest. refl;
  len = refl;
  skips = λ end rest. refl;
})

slash_spaced : Tail true (47 ∷ 32 ∷ []) (sign k.Slash ∷ [])
unfolding symbol words_from
slash_spaced = mark_tail 47 [] (32 ∷ []) k.Slash (record {
  below = lit< tt;
  letter = refl;
  either = refl;
  low = refl;
  digit = refl;
  clear = (refl, refl);
  small = refl;
  small_behind = refl;
  is = λ rest. refl;
  len = refl;
  skips = λ end rest. refl;
})

percent_spaced : Tail true (37 ∷ 32 ∷ []) (sign k.Percent ∷ [])
unfolding symbol words_from
percent_spaced = mark_tail 37 [] (32 ∷ []) k.Percent (record {
  below = lit< tt;
  letter = refl;
  either = refl;
  low = refl;
  digit = refl;
  clear = (refl, refl);
  small = refl;
  small_behind = refl;
  is = λ rest. refl;
  len = refl;
  skips = λ end rest. refl;
})

less_spaced : Tail true (60 ∷ 32 ∷ []) (sign k.Less ∷ [])
unfolding symbol words_from
less_spaced = mark_tail 60 [] (32 ∷ []) k.Less (record {
  below = lit< tt;
  letter = refl;
  either = refl;
  low = refl;
  digit = refl;
  clear = (refl, refl);
  small = refl;
  small_behind = refl;
  is = λ rest. refl;
  len = refl;
  skips = λ end rest. refl;
})

less_equal_spaced : Tail true (60 ∷ 61 ∷ 32 ∷ []) (sign k.LessEqual ∷ [])
unfolding symbol words_from
less_equal_spaced = mark_tail 60 (61 ∷ []) (32 ∷ []) k.LessEqual (record {
  below = lit< tt;
  letter = refl;
  either = refl;
  low = refl;
  digit = refl;
  clear = (refl, refl);
  small = refl;
  small_behind = refl;
  is = λ rest. refl;
  len = refl;
  skips = λ end rest. refl;
})

greater_spaced : Tail true (62 ∷ 32 ∷ []) (sign k.Greater ∷ [])
unfolding symbol words_from
greater_spaced = mark_tail 62 [] (32 ∷ []) k.Greater (record {
  below = lit< tt;
  letter = refl;
  either = refl;
  low = refl;
  digit = refl;
  clear = (refl, refl);
  small = refl;
  small_behind = refl;
  is = λ rest. refl;
  len = refl;
  skips = λ end rest. refl;
})

greater_equal_spaced : Tail true (62 ∷ 61 ∷ 32 ∷ []) (sign k.GreaterEqual ∷ [])
unfolding symbol words_from
greater_equal_spaced = mark_tail 62 (61 ∷ []) (32 ∷ []) k.GreaterEqual (record {
  below = lit< tt;
  letter = refl;
  either = refl;
  low = refl;
  digit = refl;
  clear = (refl, refl);
  small = refl;
  small_behind = refl;
  is = λ rest. refl;
  len = refl;
  skips = λ end rest. refl;
})

equal_spaced : Tail true (61 ∷ 61 ∷ 32 ∷ []) (sign k.Equal ∷ [])
unfolding symbol words_from
equal_spaced = mark_tail 61 (61 ∷ []) (32 ∷ []) k.Equal (record {
  below = lit< tt;
  letter = refl;
  either = refl;
  low = refl;
  digit = refl;
  clear = (refl, refl);
  small = refl;
  small_behind = refl;
  is = λ rest. refl;
  len = refl;
  skips = λ end rest. refl;
})

-- ---- operators

minus_cut : Cut true (codes "-") (sign k.Minus ∷ [])
minus_cut = minus_sign.is

plus_tail : Tail true (codes " + ") (sign k.Plus ∷ [])
plus_tail = sure_tail space plus_spaced.is

minus_tail : Tail true (codes " - ") (sign k.Minus ∷ [])
minus_tail = sure_tail space minus_spaced.is

star_tail : Tail true (codes " * ") (sign k.Star ∷ [])
star_tail = sure_tail space star_spaced.is

slash_tail : Tail true (codes " / ") (sign k.Slash ∷ [])
slash_tail = sure_tail space slash_spaced.is

percent_tail : Tail true (codes " % ") (sign k.Percent ∷ [])
percent_tail = sure_tail space percent_spaced.is

-- ---- keywords

and_word : Cut false (codes "and") (the_and ∷ [])
unfolding keyword kind_in
and_word = keyword_cut 97 (110 ∷ 100 ∷ []) k.And (lit< tt) refl refl refl refl

by_word : Cut false (codes "by") (the_by ∷ [])
unfolding keyword kind_in
by_word = keyword_cut 98 (121 ∷ []) k.By (lit< tt) refl refl refl refl

at_word : Cut false (codes "at") (the_at ∷ [])
unfolding keyword kind_in
at_word = keyword_cut 97 (116 ∷ []) k.At (lit< tt) refl refl refl refl

do_word : Cut false (codes "do") (the_do ∷ [])
unfolding keyword kind_in
do_word = keyword_cut 100 (111 ∷ []) k.Do (lit< tt) refl refl refl refl

goal_word : Cut false (codes "goal") (the_goal ∷ [])
unfolding keyword kind_in
goal_word = keyword_cut 103 (111 ∷ 97 ∷ 108 ∷ []) k.Goal (lit< tt) refl refl refl refl

default_word : Cut false (codes "default") (the_default ∷ [])
unfolding keyword kind_in
default_word = keyword_cut 100 (101 ∷ 102 ∷ 97 ∷ 117 ∷ 108 ∷ 116 ∷ []) k.Default (lit< tt) refl refl refl refl

schedule_word : Cut false (codes "schedule") (the_schedule ∷ [])
unfolding keyword kind_in
schedule_word = keyword_cut 115 (99 ∷ 104 ∷ 101 ∷ 100 ∷ 117 ∷ 108 ∷ 101 ∷ []) k.Schedule (lit< tt) refl refl refl refl

one_word : Cut false (codes "1") (the_version ∷ [])
one_word = digits_cut 49 [] (refl, tt)

and_spaced : Tail true (codes " and ") (the_and ∷ [])
and_spaced = sure_tail space (cut_tail and_word space)

do_spaced : Tail true (codes " do ") (the_do ∷ [])
do_spaced = sure_tail space (cut_tail do_word space)

at_spaced : Cut true (codes "at ") (the_at ∷ [])
at_spaced = cut_tail at_word space

goal_spaced : Cut true (codes "goal ") (the_goal ∷ [])
goal_spaced = cut_tail goal_word space

by_default : Tail false (codes " by default") (the_by ∷ the_default ∷ [])
by_default = sure_tail space (cut_tail by_word (sure_tail space default_word))

by_brace : Tail true (codes " by {") (the_by ∷ sign k.LBrace ∷ [])
by_brace = sure_tail space (cut_tail by_word (sure_tail space brace_sign.is))

header : Cut true (codes "schedule 1;\n") (the_schedule ∷ the_version ∷ sign k.Semi ∷ [])
header = cut_tail schedule_word (sure_tail space (cut_tail one_word semi_sign))

-- ---- lists

-- texts of items, each of which ends a word before it
each_tail : {A : Type 0} (P : A → Type 0) (t : Token) (f : A → Text) (g : A → List Token) → ((x : A) → P x → Tail false (f x) (t ∷ g x)) → (xs : List A)
    → Each P xs → Tail false (flat_map f xs) (each_after t g xs)
each_tail P t f g p [] h = tail_nil
each_tail P t f g p (x ∷ xs) h = tail_tail (p x h.0) (each_tail P t f g p xs h.1)

nothing : Cut true [] []
nothing = record { utf8 = tail_nil.is.utf8; cut = λ end rest h. ap (λ z. rest_of language.Script end (z ++ rest)) chars-nil }

-- texts of items, each of which no text behind it makes longer
each_cut : {A : Type 0} (P : A → Type 0) (t : Token) (f : A → Text) (g : A → List Token) → ((x : A) → P x → Cut true (f x) (t ∷ g x)) → (xs : List A)
    → Each P xs → Cut true (flat_map f xs) (each_after t g xs)
each_cut P t f g p [] h = nothing
each_cut P t f g p (x ∷ xs) h = sure_cut (p x h.0) (each_cut P t f g p xs h.1)

-- ---- indices

enclosed_cut : (b : Bool) (t : Text) (ts : List Token) → Cut false t ts → Cut false (text.enclosed b t) (enclosed b ts)
enclosed_cut true t ts p = weaker (regroup (codes "(") t (codes ")") (sure_cut open_sign.is (cut_tail p close_sign)))
enclosed_cut false t ts p = p

index-cut : (a : IxTree) (place : Level) → IsGoodTree a → Cut false (index_text a place) (index_tokens a place)
index-cut (Num n) place g = number_cut n g
index-cut (Name t) place g = name_cut t g
index-cut (negation a) place g = sure_cut minus_cut (index-cut a Part g)
index-cut (sum a b) place g = enclosed_cut (is_looser Sum place) _ _
    (regroup (index_text a Sum) (codes " + ") (index_text b Product) (cut_tail (index-cut a Sum g.1) (sure_tail plus_tail (index-cut b Product g.2))))
index-cut (difference a b) place g = enclosed_cut (is_looser Sum place) _ _
    (regroup (index_text a Sum) (codes " - ") (index_text b Product) (cut_tail (index-cut a Sum g.1) (sure_tail minus_tail (index-cut b Product g.2))))
index-cut (product a b) place g = enclosed_cut (is_looser Product place) _ _
    (regroup (index_text a Product) (codes " * ") (index_text b Part) (cut_tail (index-cut a Product g.1) (sure_tail star_tail (index-cut b Part g.2))))
index-cut (quotient a n) place g = enclosed_cut (is_looser Product place) _ _
    (regroup (index_text a Product) (codes " / ") (decimal n) (cut_tail (index-cut a Product g.1) (sure_tail slash_tail (number_cut n (omega (arith, g.3))))))
index-cut (remainder a n) place g = enclosed_cut (is_looser Product place) _ _
    (regroup (index_text a Product) (codes " % ") (decimal n) (cut_tail (index-cut a Product g.1) (sure_tail percent_tail (number_cut n (omega (arith, g.3))))))

-- ---- arguments

relation-tail : (r : Rel) → Tail true (relation_text r) (sign (relation_kind r) ∷ [])
relation-tail Lt = sure_tail space less_spaced.is
relation-tail Le = sure_tail space less_equal_spaced.is
relation-tail Gt = sure_tail space greater_spaced.is
relation-tail Ge = sure_tail space greater_equal_spaced.is
relation-tail Eq = sure_tail space equal_spaced.is

comparison-cut : (c : Comparison) → IsGoodComparison c → Cut false (comparison_text c) (comparison_tokens c)
comparison-cut c g = regroup (index_text c.left Sum) (relation_text c.rel) (index_text c.right Sum)
    (cut_tail (index-cut c.left Sum g.0.0) (sure_tail (relation-tail c.rel) (index-cut c.right Sum g.1.0)))

further-comparison : (c : Comparison) → IsGoodComparison c → Tail false (and_comparison c) (the_and ∷ comparison_tokens c)
further-comparison c g = sure_tail and_spaced (comparison-cut c g)

argument-cut : (a : ArgTree) → IsGoodArgument a → Cut false (argument_text a) (argument_tokens a)
argument-cut (Ix a) g = index-cut a Sum g.0
argument-cut (Cond []) g = absurd (omega (arith, g.0))
argument-cut (Cond (c ∷ cs)) g =
    cut_tail (comparison-cut c g.1.0) (each_tail IsGoodComparison the_and and_comparison comparison_tokens further-comparison cs g.1.1.1)

further-argument : (a : ArgTree) → IsGoodArgument a → Tail false (further_argument a) (sign k.Comma ∷ argument_tokens a)
further-argument a g = sure_tail comma_sign (argument-cut a g)

arguments-tail : (xs : List ArgTree) → AreSeparated IsGoodArgument xs → Tail false (arguments_text xs) (arguments_tokens xs)
arguments-tail [] g = tail_nil
arguments-tail (x ∷ xs) g =
    let more = flat_map further_argument xs in
    weaker_tail (regroup_tail (codes "(" ++ argument_text x) more (codes ")") (regroup_tail (codes "(") (argument_text x) (more ++ codes ")")
    (sure_tail open_sign (cut_tail (argument-cut x g.0)
    (tail_tail (each_tail IsGoodArgument (sign k.Comma) further_argument argument_tokens further-argument xs g.1.1) close_sign)))))

-- ---- certificates

count-cut : (n : ℕ) → IsCount n → Cut false (decimal n) (number_token n ∷ [])
count-cut n h = number_cut n (omega (arith, h))

multiplier-cut : (m : ℤ) → unsigned_abs m ≤ 2147483648 → Cut false (signed_decimal m) (multiplier_tokens m)
multiplier-cut (pos n) h = number_cut n (omega (arith, h))
multiplier-cut (negsuc n) h = sure_cut minus_sign.is (number_cut (suc n) (omega (arith, h)))

line-cut : (l : Line) → IsGoodLine l → Cut false (line_text l) (line_tokens l)
line-cut l g = regroup (decimal l.fact) (codes ": ") (signed_decimal l.multiplier)
    (cut_tail (count-cut l.fact g.0) (sure_tail colon_sign (multiplier-cut l.multiplier g.1)))

further-line : (l : Line) → IsGoodLine l → Tail false (further_line l) (sign k.Comma ∷ line_tokens l)
further-line l g = sure_tail comma_sign (line-cut l g)

certificate-tail : (x : Lines) → IsGoodCertificate x → Tail false (certificate_text x) (the_by ∷ certificate_tokens x)
certificate-tail Default g = by_default
certificate-tail (Given []) g = weaker_tail (sure_tail by_brace end_brace.is)
certificate-tail (Given (l ∷ ls)) g =
    let more = each_after (sign k.Comma) line_tokens ls in
    subst (λ (ts : List Token). Tail false (certificate_text (Given (l ∷ ls))) (the_by ∷ sign k.LBrace ∷ ts))
    (append_assoc (line_tokens l) more (sign k.RBrace ∷ []))
    (weaker_tail (regroup_tail (codes " by {") (lines_text (l ∷ ls)) (codes "}") (sure_tail by_brace (cut_tail (cut_tail (line-cut l g.0)
    (each_tail IsGoodLine (sign k.Comma) further_line line_tokens further-line ls g.1.1)) end_brace))))

-- ---- steps

position-tail : (n : ℕ) → IsCount n → Tail false (position_text n) (sign k.Dot ∷ count_tokens n)
position-tail n h = position_tail n (omega (arith, h))

path-cut : (p : Path) → IsGoodPath p → Cut false (path_text p) (path_tokens p)
path-cut p g = cut_tail (count-cut p.output g.0) (each_tail IsCount (sign k.Dot) position_text count_tokens position-tail p.steps g.1.1)

step-cut : (s : Step) → IsGoodStep s → Cut true (step_text s) (the_at ∷ step_tokens s)
step-cut s g =
    let front = codes "at " ++ path_text s.path in
    let args = arguments_text s.args in
    let lines = flat_map certificate_text s.lines in
    let end = codes ";\n" in
    regroup (front ++ codes " do " ++ s.rule ++ args) lines end (regroup (front ++ codes " do " ++ s.rule) args (lines ++ end)
    (regroup (front ++ codes " do ") s.rule (args ++ (lines ++ end)) (regroup front (codes " do ") (s.rule ++ (args ++ (lines ++ end)))
    (regroup (codes "at ") (path_text s.path) (codes " do " ++ (s.rule ++ (args ++ (lines ++ end))))
    (sure_cut at_spaced (cut_tail (path-cut s.path g.path) (sure_tail do_spaced (cut_tail (name_cut s.rule g.rule) (tail_tail (arguments-tail s.args g.args)
    (tail_tail (each_tail IsGoodCertificate the_by certificate_text certificate_tokens certificate-tail s.lines g.lines.1) semi_sign))))))))))

final-cut : (f : FinalLine) → IsGoodFinal f → Cut true (final_text f) (the_goal ∷ final_tokens f)
final-cut f g =
    let lines = certificate_text f.lines in
    let end = codes ";\n" in
    regroup (codes "goal " ++ decimal f.goal) lines end (regroup (codes "goal ") (decimal f.goal) (lines ++ end)
    (sure_cut goal_spaced (cut_tail (count-cut f.goal g.0) (tail_tail (certificate-tail f.lines g.1) semi_sign))))

script-cut : (s : Script) → IsPrintable s → Cut true (script_text s) (script_tokens s)
script-cut s g =
    let finals = each_after the_goal final_tokens s.finals in
    let steps = each_cut IsGoodStep the_at step_text step_tokens step-cut s.steps g.steps in
    let lines = each_cut IsGoodFinal the_goal final_text final_tokens final-cut s.finals g.finals.1 in
    let none : Cut true (parallel_text s.parallel) [] = subst (λ (ps : List Path). Cut true (parallel_text ps) []) (sym g.parallel) nothing in
    subst (λ (ts : List Token). Cut true (script_text s) (the_schedule ∷ the_version ∷ sign k.Semi ∷ each_after the_at step_tokens s.steps ++ ts))
    (append-nil finals) (sure_cut header (regroup (flat_map step_text s.steps) (flat_map final_text s.finals) (parallel_text s.parallel)
    (sure_cut steps (sure_cut lines none))))

-- ---- the whole text

none_left : (end : ℕ) → rest_of language.Script end [] ≡ []
unfolding words_from
none_left end = refl

cut_words : (z : Text) (ts : List Token) → Cut true z ts → tokens_of (words_of language.Script z) ≡ ts
cut_words z ts p =
    ap (rest_of language.Script (length z)) (sym (append-nil (chars z))) ∙ p.cut (length z) [] tt ∙ ap (λ us. ts ++ us) (none_left (length z)) ∙ append-nil ts

-- the canonical text of a script is a text of that script
canonical-text : (s : Script) → IsPrintable s → ScriptText (script_text s) s
canonical-text s g =
    let p = script-cut s g in
    (p.utf8, (script-says s g).says (words_of language.Script (script_text s)) (cut_words (script_text s) (script_tokens s) p))

abbrev the_answer : Script → Result Script ScriptFault
the_answer s = Ok s

same_script : (a b : Script) → the_answer a ≡ the_answer b → a ≡ b
same_script a b h = cc

-- and of no other
pub reads-back : (s : Script) → IsPrintable s → ReadsBack (script_text s) s
reads-back s g =
    let own = canonical-text s g in
    record { reads = own; only = λ other h. same_script other s (sym (source_only (script_text s) other h) ∙ source_only (script_text s) s own) }
