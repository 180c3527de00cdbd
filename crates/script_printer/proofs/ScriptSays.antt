-- The tokens of a script, and that they stand for it.
use Rattle.std.proofs.Common.{◌≡◌, ℕ, zero, suc, ◌≤◌, List, [], ◌∷◌, ◌++◌, length, if◌then◌else◌}
use Rattle.std.proofs.Common.{Some, None, Ok, refl, sym, ap, subst, arith, append_assoc}
use Rattle.std.specs.Prelude.{codes, decimal, ℤ, pos, negsuc, unsigned_abs}
use Rattle.std.proofs.lemmas.List.{append-nil}
use Rattle.text_tokens.specs.declared.kind.Kind.{Kind}
use Rattle.text_tokens.specs.declared.kind.Kind.TheVariants as k
use Rattle.text_tokens.specs.Kinds.{Text}
use Rattle.text_tokens.specs.Words.{Word}
use Rattle.text_tokens.specs.Spelled.{Token, name_token, number_token, sign}
use Rattle.affine_index.specs.declared.cond.Rel.{Rel}
use Rattle.affine_index.specs.declared.cond.Rel.TheVariants.{Lt, Le, Gt, Ge, Eq}
use Rattle.term_tree.specs.declared.term.Path.{Path}
use Rattle.linear_cert.specs.declared.lines.Line.{Line}
use Rattle.linear_cert.specs.declared.lines.Lines.{Lines}
use Rattle.linear_cert.specs.declared.lines.Lines.TheVariants.{Default, Given}
use Rattle.linear_cert.specs.declared.lines.FinalLine.{FinalLine}
use Rattle.reader_laws.specs.Chain.{signed}
use Rattle.reader_laws.specs.Grammar.{Both, IsChain, IsNothing, IsRepeated, IsWordOf, OneOf}
use Rattle.reader_laws.proofs.Outcomes.{same_self}
use Rattle.reader_laws.proofs.Says.{Says, says_both, says_end, says_link, says_nothing, says_one, says_stop, says_then, says_word}
use Rattle.schedule_script.specs.declared.tree.ArgTree.{ArgTree}
use Rattle.schedule_script.specs.declared.tree.ArgTree.TheVariants.{Ix, Cond}
use Rattle.schedule_script.specs.declared.tree.Comparison.{Comparison}
use Rattle.schedule_script.specs.declared.tree.IxTree.{IxTree}
use Rattle.schedule_script.specs.declared.tree.Step.{Step}
use Rattle.schedule_script.specs.declared.tree.Script.{Script}
use Rattle.schedule_script.specs.Index.{IsIndex}
use Rattle.schedule_script.specs.Arguments.{relation, conditions, IsRelation, IsComparison, IsConditionAfter, IsArgument}
use Rattle.schedule_script.specs.Words.{count_value, multiplier_value, most_items, most_steps, with_last}
use Rattle.schedule_script.specs.Steps.{IsPath, IsMultiplierBy, IsLine, IsCertificate, AreArguments}
use Rattle.schedule_script.specs.Steps.{IfArguments, IsStep, IsFinalLine, replaced}
use Rattle.schedule_script.specs.Script.{IsScript}
use Rattle.script_printer.specs.declared.level.Level.TheVariants.{Sum}
use Rattle.script_printer.specs.Printable.{AreSeparated, Each, IsCount, IsGoodArgument}
use Rattle.script_printer.specs.Printable.{IsGoodCertificate, IsGoodComparison, IsGoodFinal, IsGoodIndex, IsGoodLine}
use Rattle.script_printer.specs.Printable.{IsGoodPath, IsGoodStep, IsPrintable}
use Rattle.script_printer.proofs.IndexSays.{index_tokens, index-says, number-says}

-- ---- tokens

-- a keyword
abbrev pub word : Kind → Text → Token
word kd t = record { kind = kd; text = t }

abbrev pub the_and : Token
the_and = word k.And (codes "and")

abbrev pub the_by : Token
the_by = word k.By (codes "by")

abbrev pub the_at : Token
the_at = word k.At (codes "at")

abbrev pub the_do : Token
the_do = word k.Do (codes "do")

abbrev pub the_goal : Token
the_goal = word k.Goal (codes "goal")

abbrev pub the_default : Token
the_default = word k.Default (codes "default")

abbrev pub the_schedule : Token
the_schedule = word k.Schedule (codes "schedule")

abbrev pub the_version : Token
the_version = word k.Number (codes "1")

-- items, each after this token
abbrev pub each_after : {A : Type 0} → Token → (A → List Token) → List A → List Token
each_after t f [] = []
each_after t f (x ∷ xs) = t ∷ f x ++ each_after t f xs

abbrev pub relation_kind : Rel → Kind
relation_kind Lt = k.Less
relation_kind Le = k.LessEqual
relation_kind Gt = k.Greater
relation_kind Ge = k.GreaterEqual
relation_kind Eq = k.Equal

abbrev pub comparison_tokens : Comparison → List Token
comparison_tokens c = index_tokens c.left Sum ++ sign (relation_kind c.rel) ∷ index_tokens c.right Sum

abbrev pub condition_tokens : List Comparison → List Token
condition_tokens [] = []
condition_tokens (c ∷ cs) = comparison_tokens c ++ each_after the_and comparison_tokens cs

abbrev pub argument_tokens : ArgTree → List Token
argument_tokens (Ix a) = index_tokens a Sum
argument_tokens (Cond cs) = condition_tokens cs

abbrev pub arguments_tokens : List ArgTree → List Token
arguments_tokens [] = []
arguments_tokens (x ∷ xs) = sign k.LParen ∷ argument_tokens x ++ (each_after (sign k.Comma) argument_tokens xs ++ sign k.RParen ∷ [])

abbrev pub multiplier_tokens : ℤ → List Token
multiplier_tokens (pos n) = number_token n ∷ []
multiplier_tokens (negsuc n) = sign k.Minus ∷ number_token (suc n) ∷ []

abbrev pub line_tokens : Line → List Token
line_tokens l = number_token l.fact ∷ sign k.Colon ∷ multiplier_tokens l.multiplier

abbrev pub given_tokens : List Line → List Token
given_tokens [] = sign k.RBrace ∷ []
given_tokens (l ∷ ls) = line_tokens l ++ (each_after (sign k.Comma) line_tokens ls ++ sign k.RBrace ∷ [])

abbrev pub certificate_tokens : Lines → List Token
certificate_tokens Default = the_default ∷ []
certificate_tokens (Given ls) = sign k.LBrace ∷ given_tokens ls

abbrev pub count_tokens : ℕ → List Token
count_tokens n = number_token n ∷ []

abbrev pub path_tokens : Path → List Token
path_tokens p = number_token p.output ∷ each_after (sign k.Dot) count_tokens p.steps

abbrev pub rule_tokens : Step → List Token
rule_tokens s = name_token s.rule ∷ arguments_tokens s.args ++ (each_after the_by certificate_tokens s.lines ++ sign k.Semi ∷ [])

abbrev pub step_tokens : Step → List Token
step_tokens s = path_tokens s.path ++ the_do ∷ rule_tokens s

abbrev pub final_tokens : FinalLine → List Token
final_tokens f = number_token f.goal ∷ the_by ∷ certificate_tokens f.lines ++ sign k.Semi ∷ []

abbrev pub script_tokens : Script → List Token
script_tokens s = the_schedule ∷ the_version ∷ sign k.Semi ∷ each_after the_at step_tokens s.steps ++ each_after the_goal final_tokens s.finals

-- ---- lists

-- the tokens of each item stand for it
abbrev EachSays : {A : Type 0} → (List Word → A → Type 0) → (A → List Token) → List A → Type 0
EachSays rule f [] = Unit {0}
EachSays rule f (x ∷ xs) = Says rule (f x) x × EachSays rule f xs

each-says : {A : Type 0} (P : A → Type 0) (rule : List Word → A → Type 0) (f : A → List Token) → ((x : A) → P x → Says rule (f x) x) → (xs : List A)
    → Each P xs → EachSays rule f xs
each-says P rule f p [] h = tt
each-says P rule f p (x ∷ xs) h = (p x h.0, each-says P rule f p xs h.1)

module _ {A : Type 0} (t : Token) (rule : List Word → A → Type 0) (f : A → List Token) where
  repeated-says : (n : ℕ) (left xs : List A) → length xs ≤ n → EachSays rule f xs
      → Says (IsRepeated t.kind with_last (λ _. rule) n left) (each_after t f xs) (left ++ xs)
  unfolding signed
  repeated-says n left [] h p =
      subst (λ (ys : List A). Says (IsRepeated t.kind with_last (λ _. rule) n left) [] ys) (sym (append-nil left)) (says_stop _ _ n left)
  repeated-says zero left (x ∷ xs) h p = absurd (omega (arith, h))
  repeated-says (suc n) left (x ∷ xs) h p =
      subst (λ (ys : List A). Says (IsRepeated t.kind with_last (λ _. rule) (suc n) left) (t ∷ f x ++ each_after t f xs) ys) (append_assoc left (x ∷ []) xs)
      (says_link (signed t.kind with_last) (λ m y o. rule) n left t tt (f x) x (left ++ x ∷ []) (each_after t f xs) ((left ++ x ∷ []) ++ xs)
      (ap (λ b. if b then Some tt else None) (same_self t.kind)) (omega arith) p.0 refl (repeated-says n (left ++ x ∷ []) xs (omega (arith, h)) p.1))

-- ---- arguments

relation-says : (r : Rel) → Says IsRelation (sign (relation_kind r) ∷ []) r
relation-says Lt = says_one k.Less (says_then tt refl says_nothing)
relation-says Le = says_one k.LessEqual (says_then tt refl says_nothing)
relation-says Gt = says_one k.Greater (says_then tt refl says_nothing)
relation-says Ge = says_one k.GreaterEqual (says_then tt refl says_nothing)
relation-says Eq = says_one k.Equal (says_then tt refl says_nothing)

relation-is : (r : Rel) → relation (relation_kind r) ≡ Some r
relation-is Lt = refl
relation-is Le = refl
relation-is Gt = refl
relation-is Ge = refl
relation-is Eq = refl

a_index : (a : IxTree) → IsGoodIndex a → Says (IsIndex 999) (index_tokens a Sum) a
a_index a g = index-says a 999 g.0 g.1

comparison-says : (c : Comparison) → IsGoodComparison c → Says (IsComparison 999) (comparison_tokens c) c
comparison-says c g = says_both (index_tokens c.left Sum) (sign (relation_kind c.rel) ∷ index_tokens c.right Sum) c.left (a_index c.left g.0)
    (says_both (sign (relation_kind c.rel) ∷ []) (index_tokens c.right Sum) c.rel (relation-says c.rel)
    (says_end (index_tokens c.right Sum) c.right (a_index c.right g.1) says_nothing))

append_none : (ts : List Token) → ts ++ [] ≡ ts
append_none ts = append-nil ts

argument-says : (a : ArgTree) → IsGoodArgument a → Says (IsArgument 999) (argument_tokens a) a
unfolding conditions
argument-says (Ix a) g = says_end (index_tokens a Sum) a (a_index a g) (says_stop conditions (λ n x r. IsConditionAfter 999 a r) 1 (Ix a))
argument-says (Cond []) g = absurd (omega (arith, g.0))
argument-says (Cond (c ∷ cs)) g =
    let t = sign (relation_kind c.rel) in
    let right = index_tokens c.right Sum in
    let more = each_after the_and comparison_tokens cs in
    let left = index_tokens c.left Sum in
    let few = g.1.1.0 in
    let behind : Says (IsConditionAfter 999 c.left c.rel) (right ++ more) (Cond (c ∷ cs)) =
    says_both right more c.right (a_index c.right g.1.0.1)
    (says_end more (c ∷ cs) (repeated-says the_and (IsComparison 999) comparison_tokens most_items (c ∷ []) cs (omega (arith, few))
    (each-says IsGoodComparison (IsComparison 999) comparison_tokens comparison-says cs g.1.1.1)) says_nothing) in
    let link = says_link conditions (λ n x r. IsConditionAfter 999 c.left r) 0 (Ix c.left) t c.rel (right ++ more) (Cond (c ∷ cs)) (Cond (c ∷ cs)) []
    (Cond (c ∷ cs)) (relation-is c.rel) (omega arith) behind refl (says_stop conditions (λ n x r. IsConditionAfter 999 c.left r) 0 (Cond (c ∷ cs))) in
    subst (λ (ts : List Token). Says (IsArgument 999) ts (Cond (c ∷ cs))) (sym (append_assoc left (t ∷ right) more))
    (says_both left (t ∷ right ++ more) c.left (a_index c.left g.1.0.0)
    (subst (λ (ts : List Token). Says (IsChain conditions (λ n x r. IsConditionAfter 999 c.left r) 1 (Ix c.left)) (t ∷ ts) (Cond (c ∷ cs)))
    (append_none (right ++ more)) link))

some_arguments : (x : ArgTree) (xs : List ArgTree) → AreSeparated IsGoodArgument (x ∷ xs)
    → Says AreArguments (argument_tokens x ++ (each_after (sign k.Comma) argument_tokens xs ++ sign k.RParen ∷ [])) (x ∷ xs)
some_arguments x xs g =
    let few = g.1.0 in
    says_both (argument_tokens x) (each_after (sign k.Comma) argument_tokens xs ++ sign k.RParen ∷ []) x (argument-says x g.0)
    (says_both (each_after (sign k.Comma) argument_tokens xs) (sign k.RParen ∷ []) (x ∷ xs)
    (repeated-says (sign k.Comma) (IsArgument 999) argument_tokens most_items (x ∷ []) xs (omega (arith, few))
    (each-says IsGoodArgument (IsArgument 999) argument_tokens argument-says xs g.1.1)) (says_then tt refl says_nothing))

arguments-say : (xs : List ArgTree) → AreSeparated IsGoodArgument xs → Says IfArguments (arguments_tokens xs) xs
unfolding signed
arguments-say [] g = says_stop (signed k.LParen replaced) (λ m y o. AreArguments) 1 []
arguments-say (x ∷ xs) g =
    let us = argument_tokens x ++ (each_after (sign k.Comma) argument_tokens xs ++ sign k.RParen ∷ []) in
    subst (λ (ts : List Token). Says IfArguments (sign k.LParen ∷ ts) (x ∷ xs)) (append_none us)
    (says_link (signed k.LParen replaced) (λ m y o. AreArguments) 0 [] (sign k.LParen) tt us (x ∷ xs) (x ∷ xs)
    [] (x ∷ xs) (ap (λ b. if b then Some tt else None) (same_self k.LParen)) (omega arith)
    (some_arguments x xs g) refl (says_stop (signed k.LParen replaced) (λ m y o. AreArguments) 0 (x ∷ xs)))

-- ---- numbers

count-says : (n : ℕ) → IsCount n → count_value (decimal n) ≡ Ok n
count-says n h = number-says 0 4294967295 n (omega arith) (omega (arith, h)) (omega (arith, h))

a_count : (n : ℕ) → IsCount n → Says (IsWordOf k.Number count_value) (count_tokens n) n
a_count n h = says_word (count-says n h)

size-says : (n : ℕ) → n ≤ 2147483648 → multiplier_value (decimal n) ≡ Ok n
size-says n h = number-says 0 2147483648 n (omega arith) h (omega (arith, h))

-- ---- certificates

abbrev Behind : ℕ → List Word → Line → Type 0
Behind n = Both (OneOf IsMultiplierBy) (λ m. IsNothing (record { fact = n; multiplier = m }))

line-says : (l : Line) → IsGoodLine l → Says IsLine (line_tokens l) l
line-says l g = by l.multiplier refl
  where
    by : (m : ℤ) → l.multiplier ≡ m → Says IsLine (number_token l.fact ∷ sign k.Colon ∷ multiplier_tokens l.multiplier) l
    by (pos n) e =
        let small : n ≤ 2147483648 = subst (λ (z : ℤ). unsigned_abs z ≤ 2147483648) e g.1 in
        says_then l.fact (count-says l.fact g.0) (says_then tt refl
        (subst (λ (z : ℤ). Says (Behind l.fact) (multiplier_tokens z) (record { fact = l.fact; multiplier = z })) (sym e)
        (says_end (number_token n ∷ []) (pos n) (says_one k.Number (says_then n (size-says n small) says_nothing)) says_nothing)))
    by (negsuc n) e =
        let small : suc n ≤ 2147483648 = subst (λ (z : ℤ). unsigned_abs z ≤ 2147483648) e g.1 in
        says_then l.fact (count-says l.fact g.0) (says_then tt refl
        (subst (λ (z : ℤ). Says (Behind l.fact) (multiplier_tokens z) (record { fact = l.fact; multiplier = z })) (sym e)
        (says_end (sign k.Minus ∷ number_token (suc n) ∷ []) (negsuc n)
        (says_one k.Minus (says_then tt refl (says_then (suc n) (size-says (suc n) small) says_nothing))) says_nothing)))

certificate-says : (x : Lines) → IsGoodCertificate x → Says IsCertificate (certificate_tokens x) x
certificate-says Default g = says_one k.Default (says_then tt refl says_nothing)
certificate-says (Given []) g = says_one k.LBrace (says_then tt refl (says_one k.RBrace (says_then tt refl says_nothing)))
certificate-says (Given (l ∷ ls)) g =
    let few = g.1.0 in
    says_one k.LBrace (says_then tt refl (says_one k.Number (says_both (line_tokens l) (each_after (sign k.Comma) line_tokens ls ++ sign k.RBrace ∷ []) l
    (line-says l g.0) (says_both (each_after (sign k.Comma) line_tokens ls) (sign k.RBrace ∷ []) (l ∷ ls)
    (repeated-says (sign k.Comma) IsLine line_tokens most_items (l ∷ []) ls (omega (arith, few)) (each-says IsGoodLine IsLine line_tokens line-says ls g.1.1))
    (says_then tt refl says_nothing)))))

-- ---- steps

path-says : (p : Path) → IsGoodPath p → Says IsPath (path_tokens p) p
path-says p g = says_then p.output (count-says p.output g.0) (says_end (each_after (sign k.Dot) count_tokens p.steps) p.steps
    (repeated-says (sign k.Dot) (IsWordOf k.Number count_value) count_tokens most_items [] p.steps g.1.0
    (each-says IsCount (IsWordOf k.Number count_value) count_tokens a_count p.steps g.1.1)) says_nothing)

step-says : (s : Step) → IsGoodStep s → Says IsStep (step_tokens s) s
step-says s g =
    says_both (path_tokens s.path) (the_do ∷ rule_tokens s) s.path (path-says s.path g.path) (says_then tt refl (says_then s.rule refl
    (says_both (arguments_tokens s.args) (each_after the_by certificate_tokens s.lines ++ sign k.Semi ∷ []) s.args (arguments-say s.args g.args)
    (says_both (each_after the_by certificate_tokens s.lines) (sign k.Semi ∷ []) s.lines
    (repeated-says the_by IsCertificate certificate_tokens most_items [] s.lines g.lines.0
    (each-says IsGoodCertificate IsCertificate certificate_tokens certificate-says s.lines g.lines.1)) (says_then tt refl says_nothing)))))

final-says : (f : FinalLine) → IsGoodFinal f → Says IsFinalLine (final_tokens f) f
final-says f g = says_then f.goal (count-says f.goal g.0) (says_then tt refl (says_both (certificate_tokens f.lines) (sign k.Semi ∷ []) f.lines
    (certificate-says f.lines g.1) (says_then tt refl says_nothing)))

-- the tokens of a script stand for it
pub script-says : (s : Script) → IsPrintable s → Says IsScript (script_tokens s) s
script-says s g =
    let steps = each_after the_at step_tokens s.steps in
    let finals = each_after the_goal final_tokens s.finals in
    subst (λ (ps : List Path). Says IsScript (script_tokens s) (record { steps = s.steps; finals = s.finals; parallel = ps })) (sym g.parallel)
    (says_both (the_schedule ∷ the_version ∷ sign k.Semi ∷ []) (steps ++ finals) tt
    (says_then tt refl (says_then tt refl (says_word refl)))
    (says_both steps finals s.steps
    (repeated-says the_at IsStep step_tokens most_steps [] s.steps g.few (each-says IsGoodStep IsStep step_tokens step-says s.steps g.steps))
    (says_end finals s.finals
    (repeated-says the_goal IsFinalLine final_tokens most_items [] s.finals g.finals.0
    (each-says IsGoodFinal IsFinalLine final_tokens final-says s.finals g.finals.1)) says_nothing)))
