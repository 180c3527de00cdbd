-- Steps and final lines are read as their grammar says.
use Rattle.std.proofs.Common.{◌≡◌, ℕ, ℤ, pos, neg_ℤ, Bool, false, List, [], ◌∷◌, refl, sym, ap, ◌∙◌}
use Rattle.text_tokens.specs.declared.kind.Kind.{Kind}
use Rattle.text_tokens.specs.declared.kind.Kind.TheVariants as k
use Rattle.text_tokens.specs.Kinds.{same_kind}
use Rattle.text_tokens.specs.Words.{Word, Input}
use Rattle.term_tree.specs.declared.term.Path.{Path}
use Rattle.linear_cert.specs.declared.lines.Line.{Line}
use Rattle.linear_cert.specs.declared.lines.Lines.{Lines}
use Rattle.linear_cert.specs.declared.lines.Lines.TheVariants.{Default, Given}
use Rattle.linear_cert.specs.declared.lines.FinalLine.{FinalLine}
use Rattle.reader_laws.specs.Steps.{◌>>=◌, pure, kind, a_word, itself, no_value}
use Rattle.reader_laws.specs.Chain.{repeated}
use Rattle.reader_laws.specs.Grammar.{IsWordOf, IsNothing, OneOf, Both, IsRepeated}
use Rattle.reader_laws.proofs.Outcomes.{ahead, ahead_append}
use Rattle.reader_laws.proofs.Lawful.{Lawful, never, lawful_both, lawful_pure, lawful_word, lawful_choice, lawful_unexpected}
use Rattle.reader_laws.proofs.Repeated.{lawful_repeated}
use Rattle.reader_laws.proofs.Starts.{both_starts, word_then}
use Rattle.schedule_script.specs.declared.tree.ArgTree.{ArgTree}
use Rattle.schedule_script.specs.declared.tree.Step.{Step}
use Rattle.schedule_script.specs.Words.{count_value, multiplier_value, most_items, with_last}
use Rattle.schedule_script.specs.Arguments.{argument, IsArgument}
use Rattle.schedule_script.specs.Steps.{path, IsPath, positive, negative, multiplier_by, multiplier, IsMultiplierBy, line, IsLine, no_lines, some_lines}
use Rattle.schedule_script.specs.Steps.{given_by, given, AreGivenBy, by_default, by_lines, certificate_by, certificate, IsCertificateBy, IsCertificate}
use Rattle.schedule_script.specs.Steps.{arguments, AreArguments, replaced, if_arguments, IfArguments, certificates, AreCertificates, rule_at, IsRuleAt, step}
use Rattle.schedule_script.specs.Steps.{IsStep, final_line, IsFinalLine}
use Rattle.schedule_script.proofs.Following.{goes_with, or_with, differs, first_false, second_false, both_false, frees_word, frees_nothing, frees_repeated}
use Rattle.schedule_script.proofs.Following.{frees_both, before_word}
use Rattle.schedule_script.proofs.ArgumentLaws.{argument_goes_on, lawful_argument}

-- items that end with themselves, each after a word of one kind
ends_alone : (a kd : Kind) → goes_with a kd ≡ false → (same_kind kd a ≡ false) × (never kd ≡ false)
ends_alone a kd h = (h, refl)

-- ---- paths

lawful_count : Lawful (a_word k.Number count_value) (IsWordOf k.Number count_value) never
lawful_count = lawful_word k.Number count_value (λ (z : k.Number ≡ k.End). cc)

lawful_path : Lawful path IsPath (goes_with k.Dot)
unfolding path
lawful_path =
    word_then k.Number count_value _ _ (goes_with k.Dot) (λ (z : k.Number ≡ k.End). cc) (λ o.
    let whole : List ℕ → Path = λ ss. record { output = o; steps = ss } in
    lawful_both (repeated k.Dot with_last (λ _. a_word k.Number count_value) most_items []) (λ ss. pure (whole ss))
    (IsRepeated k.Dot with_last (λ _. IsWordOf k.Number count_value) most_items []) (λ ss. IsNothing (whole ss)) (goes_with k.Dot) (goes_with k.Dot)
    (lawful_repeated k.Dot with_last (λ _. a_word k.Number count_value) (λ _. IsWordOf k.Number count_value) never (goes_with k.Dot)
    (λ (z : k.Dot ≡ k.End). cc) refl (ends_alone k.Dot) (λ _. lawful_count) most_items [])
    (λ ss. lawful_pure (whole ss) (goes_with k.Dot))
    (frees_nothing whole (goes_with k.Dot) (goes_with k.Dot) (λ kd e. e)))

-- ---- lines

lawful_positive : Lawful positive (IsMultiplierBy k.Number) never
unfolding positive
lawful_positive = word_then k.Number multiplier_value (λ n. pure (pos n)) (λ n. IsNothing (pos n)) never (λ (z : k.Number ≡ k.End). cc)
    (λ n. lawful_pure (pos n) never)

lawful_negative : Lawful negative (IsMultiplierBy k.Minus) never
unfolding negative
lawful_negative =
    word_then k.Minus no_value _ _ never (λ (z : k.Minus ≡ k.End). cc) (λ _.
    word_then k.Number multiplier_value (λ n. pure (neg_ℤ (pos n))) (λ n. IsNothing (neg_ℤ (pos n))) never (λ (z : k.Number ≡ k.End). cc)
    (λ n. lawful_pure (neg_ℤ (pos n)) never))

multipliers : (kd : Kind) → Lawful (multiplier_by kd) (IsMultiplierBy kd) never
multipliers k.Number = lawful_positive
multipliers k.Minus = lawful_negative
multipliers _ = lawful_unexpected never

multiplier_starts : (kd : Kind) (ws : List Word) (m : ℤ) (j : Input) → IsMultiplierBy kd ws m → kind (ahead ws j) ≡ kd
multiplier_starts k.Number ws m j is = both_starts k.Number multiplier_value _ ws m j is
multiplier_starts k.Minus ws m j is = both_starts k.Minus no_value _ ws m j is
multiplier_starts _ ws m j is = absurd is

lawful_multiplier : Lawful multiplier (OneOf IsMultiplierBy) never
unfolding multiplier
lawful_multiplier = lawful_choice multiplier_by IsMultiplierBy never multipliers multiplier_starts

lawful_line : Lawful line IsLine never
unfolding line
lawful_line =
    word_then k.Number count_value _ _ never (λ (z : k.Number ≡ k.End). cc) (λ f.
    word_then k.Colon no_value _ _ never (λ (z : k.Colon ≡ k.End). cc) (λ _.
    let whole : ℤ → Line = λ m. record { fact = f; multiplier = m } in
    lawful_both multiplier (λ m. pure (whole m)) (OneOf IsMultiplierBy) (λ m. IsNothing (whole m)) never never lawful_multiplier
    (λ m. lawful_pure (whole m) never) (λ m ws y j is e. refl)))

line_starts : (ws : List Word) (l : Line) (j : Input) → IsLine ws l → kind (ahead ws j) ≡ k.Number
line_starts ws l j is = both_starts k.Number count_value _ ws l j is

lawful_no_lines : Lawful no_lines (AreGivenBy k.RBrace) never
unfolding no_lines
lawful_no_lines = word_then k.RBrace no_value (λ _. pure (Given [])) (λ _. IsNothing (Given [])) never (λ (z : k.RBrace ≡ k.End). cc)
    (λ _. lawful_pure (Given []) never)

lawful_some_lines : Lawful some_lines (AreGivenBy k.Number) never
unfolding some_lines
lawful_some_lines =
    lawful_both line (λ l. repeated k.Comma with_last (λ _. line) most_items (l ∷ []) >>= λ ls. (a_word k.RBrace no_value >>= λ _. pure (Given ls))) IsLine
    (λ l. Both (IsRepeated k.Comma with_last (λ _. IsLine) most_items (l ∷ []))
    (λ ls. Both (IsWordOf k.RBrace no_value) (λ _. IsNothing (Given ls)))) never never lawful_line
    (λ l. before_word k.RBrace (repeated k.Comma with_last (λ _. line) most_items (l ∷ [])) (λ ls. pure (Given ls))
    (IsRepeated k.Comma with_last (λ _. IsLine) most_items (l ∷ [])) (λ ls. IsNothing (Given ls)) (goes_with k.Comma) never
    (λ (z : k.RBrace ≡ k.End). cc) (differs k.RBrace k.Comma (λ (z : k.RBrace ≡ k.Comma). cc))
    (lawful_repeated k.Comma with_last (λ _. line) (λ _. IsLine) never (goes_with k.Comma) (λ (z : k.Comma ≡ k.End). cc) refl (ends_alone k.Comma)
    (λ _. lawful_line) most_items (l ∷ []))
    (λ ls. lawful_pure (Given ls) never))
    (λ l ws y j is e. refl)

lines_by : (kd : Kind) → Lawful (given_by kd) (AreGivenBy kd) never
lines_by k.RBrace = lawful_no_lines
lines_by k.Number = lawful_some_lines
lines_by _ = lawful_unexpected never

lines_start : (kd : Kind) (ws : List Word) (ls : Lines) (j : Input) → AreGivenBy kd ws ls → kind (ahead ws j) ≡ kd
lines_start k.RBrace ws ls j is = both_starts k.RBrace no_value _ ws ls j is
lines_start k.Number ws ls j is =
    ap kind (ap (λ (vs : List Word). ahead vs j) is.words ∙ sym (ahead_append is.front is.rest j)) ∙ line_starts is.front is.value (ahead is.rest j) is.is_first
lines_start _ ws ls j is = absurd is

lawful_given : Lawful given (OneOf AreGivenBy) never
unfolding given
lawful_given = lawful_choice given_by AreGivenBy never lines_by lines_start

lawful_by_default : Lawful by_default (IsCertificateBy k.Default) never
unfolding by_default
lawful_by_default = word_then k.Default no_value (λ _. pure Default) (λ _. IsNothing Default) never (λ (z : k.Default ≡ k.End). cc)
    (λ _. lawful_pure Default never)

lawful_by_lines : Lawful by_lines (IsCertificateBy k.LBrace) never
unfolding by_lines
lawful_by_lines = word_then k.LBrace no_value (λ _. given) (λ _. OneOf AreGivenBy) never (λ (z : k.LBrace ≡ k.End). cc) (λ _. lawful_given)

by_kind : (kd : Kind) → Lawful (certificate_by kd) (IsCertificateBy kd) never
by_kind k.Default = lawful_by_default
by_kind k.LBrace = lawful_by_lines
by_kind _ = lawful_unexpected never

starts : (kd : Kind) (ws : List Word) (ls : Lines) (j : Input) → IsCertificateBy kd ws ls → kind (ahead ws j) ≡ kd
starts k.Default ws ls j is = both_starts k.Default no_value _ ws ls j is
starts k.LBrace ws ls j is = both_starts k.LBrace no_value _ ws ls j is
starts _ ws ls j is = absurd is

lawful_certificate : Lawful certificate IsCertificate never
unfolding certificate
lawful_certificate = lawful_choice certificate_by IsCertificateBy never by_kind starts

-- ---- steps

abbrev arguments_go_on : Kind → Bool
arguments_go_on = or_with k.Comma argument_goes_on

lawful_arguments : Lawful arguments AreArguments never
unfolding arguments
lawful_arguments =
    let first : ArgTree → List ArgTree = λ a. a ∷ [] in
    lawful_both (argument 999) (λ a. repeated k.Comma with_last (λ _. argument 999) most_items (first a) >>= λ args.
    (a_word k.RParen no_value >>= λ _. pure args)) (IsArgument 999)
    (λ a. Both (IsRepeated k.Comma with_last (λ _. IsArgument 999) most_items (first a))
    (λ args. Both (IsWordOf k.RParen no_value) (λ _. IsNothing args))) argument_goes_on never (lawful_argument 999)
    (λ a. before_word k.RParen (repeated k.Comma with_last (λ _. argument 999) most_items (first a)) (λ args. pure args)
    (IsRepeated k.Comma with_last (λ _. IsArgument 999) most_items (first a)) (λ args. IsNothing args) arguments_go_on never
    (λ (z : k.RParen ≡ k.End). cc) (both_false _ _ (differs k.RParen k.Comma (λ (z : k.RParen ≡ k.Comma). cc)) paren)
    (lawful_repeated k.Comma with_last (λ _. argument 999) (λ _. IsArgument 999) argument_goes_on arguments_go_on (λ (z : k.Comma ≡ k.End). cc) comma
    (λ kd e. (first_false (same_kind kd k.Comma) (argument_goes_on kd) e, second_false (same_kind kd k.Comma) (argument_goes_on kd) e))
    (λ _. lawful_argument 999) most_items (first a))
    (λ args. lawful_pure args never))
    (frees_both (λ a. IsRepeated k.Comma with_last (λ _. IsArgument 999) most_items (first a))
    (λ a args. Both (IsWordOf k.RParen no_value) (λ _. IsNothing args)) argument_goes_on argument_goes_on never
    (frees_repeated k.Comma with_last (λ _. IsArgument 999) most_items first argument_goes_on comma)
    (λ a. frees_word k.RParen no_value (λ args _. IsNothing args) argument_goes_on never paren))
  where
    paren : argument_goes_on k.RParen ≡ false
    paren = both_false _ _ (differs k.RParen k.And (λ (z : k.RParen ≡ k.And). cc)) refl

    comma : argument_goes_on k.Comma ≡ false
    comma = both_false _ _ (differs k.Comma k.And (λ (z : k.Comma ≡ k.And). cc)) refl

lawful_if_arguments : Lawful if_arguments IfArguments (goes_with k.LParen)
lawful_if_arguments = lawful_repeated k.LParen replaced (λ _. arguments) (λ _. AreArguments) never (goes_with k.LParen) (λ (z : k.LParen ≡ k.End). cc) refl
    (ends_alone k.LParen) (λ _. lawful_arguments) 1 []

lawful_certificates : Lawful certificates AreCertificates (goes_with k.By)
lawful_certificates = lawful_repeated k.By with_last (λ _. certificate) (λ _. IsCertificate) never (goes_with k.By) (λ (z : k.By ≡ k.End). cc) refl
    (ends_alone k.By) (λ _. lawful_certificate) most_items []

lawful_rule_at : (p : Path) → Lawful (rule_at p) (IsRuleAt p) never
unfolding rule_at
lawful_rule_at p =
    word_then k.Name itself _ _ never (λ (z : k.Name ≡ k.End). cc) (λ rule.
    let whole : List ArgTree → List Lines → Step = λ args ls. record { path = p; rule = rule; args = args; lines = ls } in
    lawful_both if_arguments (λ args. certificates >>= λ ls. (a_word k.Semi no_value >>= λ _. pure (whole args ls))) IfArguments
    (λ args. Both AreCertificates (λ ls. Both (IsWordOf k.Semi no_value) (λ _. IsNothing (whole args ls)))) (goes_with k.LParen) never
    lawful_if_arguments
    (λ args. before_word k.Semi certificates (λ ls. pure (whole args ls)) AreCertificates (λ ls. IsNothing (whole args ls)) (goes_with k.By) never
    (λ (z : k.Semi ≡ k.End). cc) (differs k.Semi k.By (λ (z : k.Semi ≡ k.By). cc)) lawful_certificates
    (λ ls. lawful_pure (whole args ls) never))
    (frees_both (λ args. AreCertificates) (λ args ls. Both (IsWordOf k.Semi no_value) (λ _. IsNothing (whole args ls))) (goes_with k.LParen)
    (goes_with k.LParen) never
    (frees_repeated k.By with_last (λ _. IsCertificate) most_items (λ args. []) (goes_with k.LParen) (differs k.By k.LParen (λ (z : k.By ≡ k.LParen). cc)))
    (λ args. frees_word k.Semi no_value (λ ls _. IsNothing (whole args ls)) (goes_with k.LParen) never
    (differs k.Semi k.LParen (λ (z : k.Semi ≡ k.LParen). cc)))))

pub lawful_step : Lawful step IsStep never
unfolding step
lawful_step =
    before_word k.Do path rule_at IsPath IsRuleAt (goes_with k.Dot) never (λ (z : k.Do ≡ k.End). cc)
    (differs k.Do k.Dot (λ (z : k.Do ≡ k.Dot). cc)) lawful_path lawful_rule_at

pub lawful_final_line : Lawful final_line IsFinalLine never
unfolding final_line
lawful_final_line =
    word_then k.Number count_value _ _ never (λ (z : k.Number ≡ k.End). cc) (λ g.
    word_then k.By no_value _ _ never (λ (z : k.By ≡ k.End). cc) (λ _.
    let whole : Lines → FinalLine = λ ls. record { goal = g; lines = ls } in
    before_word k.Semi certificate (λ ls. pure (whole ls)) IsCertificate (λ ls. IsNothing (whole ls)) never never
    (λ (z : k.Semi ≡ k.End). cc) refl lawful_certificate (λ ls. lawful_pure (whole ls) never)))
