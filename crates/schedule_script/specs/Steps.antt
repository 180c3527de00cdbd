-- Paths, lines and steps: how they are read, and their grammar.
use Rattle.std.specs.Prelude.{ℤ, pos, neg_ℤ, List, [], ◌∷◌}
use Rattle.text_tokens.specs.declared.kind.Kind.{Kind}
use Rattle.text_tokens.specs.declared.kind.Kind.TheVariants as k
use Rattle.text_tokens.specs.Words.{Word}
use Rattle.term_tree.specs.declared.term.Path.{Path}
use Rattle.linear_cert.specs.declared.lines.Line.{Line}
use Rattle.linear_cert.specs.declared.lines.Lines.{Lines}
use Rattle.linear_cert.specs.declared.lines.Lines.TheVariants.{Default, Given}
use Rattle.linear_cert.specs.declared.lines.FinalLine.{FinalLine}
use Rattle.reader_laws.specs.Steps.{Parser, ◌>>=◌, pure, unexpected, kind, a_word, itself, no_value}
use Rattle.reader_laws.specs.Chain.{repeated}
use Rattle.reader_laws.specs.Grammar.{IsWordOf, IsNothing, OneOf, Both, IsRepeated}
use Rattle.schedule_script.specs.declared.tree.ArgTree.{ArgTree}
use Rattle.schedule_script.specs.declared.tree.Step.{Step}
use Rattle.schedule_script.specs.Arguments.{argument, IsArgument}
use Rattle.schedule_script.specs.Words.{count_value, multiplier_value, most_items, with_last}

-- ---- paths

unfoldable pub path : Parser Path
path = a_word k.Number count_value >>= λ o.
    (repeated k.Dot with_last (λ _. a_word k.Number count_value) most_items [] >>= λ ss. pure (record { output = o; steps = ss }))

abbrev pub IsPath : List Word → Path → Type 0
IsPath = Both (IsWordOf k.Number count_value)
    (λ o. Both (IsRepeated k.Dot with_last (λ _. IsWordOf k.Number count_value) most_items []) (λ ss. IsNothing (record { output = o; steps = ss })))

-- ---- lines

unfoldable pub positive : Parser ℤ
positive = a_word k.Number multiplier_value >>= λ n. pure (pos n)

unfoldable pub negative : Parser ℤ
negative = a_word k.Minus no_value >>= λ _. (a_word k.Number multiplier_value >>= λ n. pure (neg_ℤ (pos n)))

abbrev pub multiplier_by : Kind → Parser ℤ
multiplier_by k.Number = positive
multiplier_by k.Minus = negative
multiplier_by _ = unexpected

unfoldable pub multiplier : Parser ℤ
multiplier = λ i. multiplier_by (kind i) i

abbrev pub IsMultiplierBy : Kind → List Word → ℤ → Type 0
IsMultiplierBy k.Number = Both (IsWordOf k.Number multiplier_value) (λ n. IsNothing (pos n))
IsMultiplierBy k.Minus = Both (IsWordOf k.Minus no_value) (λ _. Both (IsWordOf k.Number multiplier_value) (λ n. IsNothing (neg_ℤ (pos n))))
IsMultiplierBy _ = λ ws x. ⊥

-- `FACT : MULTIPLIER`
unfoldable pub line : Parser Line
line = a_word k.Number count_value >>= λ f. (a_word k.Colon no_value >>= λ _. (multiplier >>= λ m. pure (record { fact = f; multiplier = m })))

abbrev pub IsLine : List Word → Line → Type 0
IsLine = Both (IsWordOf k.Number count_value)
    (λ f. Both (IsWordOf k.Colon no_value) (λ _. Both (OneOf IsMultiplierBy) (λ m. IsNothing (record { fact = f; multiplier = m }))))

-- what follows `{`: no line, or lines with commas between
unfoldable pub no_lines : Parser Lines
no_lines = a_word k.RBrace no_value >>= λ _. pure (Given [])

unfoldable pub some_lines : Parser Lines
some_lines = line >>= λ l. (repeated k.Comma with_last (λ _. line) most_items (l ∷ []) >>= λ ls. (a_word k.RBrace no_value >>= λ _. pure (Given ls)))

abbrev pub given_by : Kind → Parser Lines
given_by k.RBrace = no_lines
given_by k.Number = some_lines
given_by _ = unexpected

unfoldable pub given : Parser Lines
given = λ i. given_by (kind i) i

abbrev pub AreGivenBy : Kind → List Word → Lines → Type 0
AreGivenBy k.RBrace = Both (IsWordOf k.RBrace no_value) (λ _. IsNothing (Given []))
AreGivenBy k.Number = Both IsLine
    (λ l. Both (IsRepeated k.Comma with_last (λ _. IsLine) most_items (l ∷ [])) (λ ls. Both (IsWordOf k.RBrace no_value) (λ _. IsNothing (Given ls))))
AreGivenBy _ = λ ws x. ⊥

-- what follows `by`
unfoldable pub by_default : Parser Lines
by_default = a_word k.Default no_value >>= λ _. pure Default

unfoldable pub by_lines : Parser Lines
by_lines = a_word k.LBrace no_value >>= λ _. given

abbrev pub certificate_by : Kind → Parser Lines
certificate_by k.Default = by_default
certificate_by k.LBrace = by_lines
certificate_by _ = unexpected

unfoldable pub certificate : Parser Lines
certificate = λ i. certificate_by (kind i) i

abbrev pub IsCertificateBy : Kind → List Word → Lines → Type 0
IsCertificateBy k.Default = Both (IsWordOf k.Default no_value) (λ _. IsNothing Default)
IsCertificateBy k.LBrace = Both (IsWordOf k.LBrace no_value) (λ _. OneOf AreGivenBy)
IsCertificateBy _ = λ ws x. ⊥

abbrev pub IsCertificate : List Word → Lines → Type 0
IsCertificate = OneOf IsCertificateBy

-- ---- steps

-- the parenthesis round the arguments opens the first of 1,000 levels; further arguments come after commas
abbrev pub more_arguments : List ArgTree → Parser (List ArgTree)
more_arguments args = repeated k.Comma with_last (λ _. argument 999) most_items args

abbrev pub AreMoreArguments : List ArgTree → List Word → List ArgTree → Type 0
AreMoreArguments args = IsRepeated k.Comma with_last (λ _. IsArgument 999) most_items args

-- what follows `(`
unfoldable pub arguments : Parser (List ArgTree)
arguments = argument 999 >>= λ a. (more_arguments (a ∷ []) >>= λ args. (a_word k.RParen no_value >>= λ _. pure args))

abbrev pub AreArguments : List Word → List ArgTree → Type 0
AreArguments = Both (IsArgument 999) (λ a. Both (AreMoreArguments (a ∷ [])) (λ args. Both (IsWordOf k.RParen no_value) (λ _. IsNothing args)))

abbrev pub replaced : {A : Type 0} → A → A → A
replaced old new = new

-- at most one list of arguments in parentheses
abbrev pub if_arguments : Parser (List ArgTree)
if_arguments = repeated k.LParen replaced (λ _. arguments) 1 []

abbrev pub IfArguments : List Word → List ArgTree → Type 0
IfArguments = IsRepeated k.LParen replaced (λ _. AreArguments) 1 []

-- certificates, each after `by`
abbrev pub certificates : Parser (List Lines)
certificates = repeated k.By with_last (λ _. certificate) most_items []

abbrev pub AreCertificates : List Word → List Lines → Type 0
AreCertificates = IsRepeated k.By with_last (λ _. IsCertificate) most_items []

-- the rule of a step at this place, with its arguments and certificates
unfoldable pub rule_at : Path → Parser Step
rule_at p = a_word k.Name itself >>= λ rule.
    (if_arguments >>= λ args. (certificates >>= λ ls. (a_word k.Semi no_value >>= λ _. pure (record { path = p; rule = rule; args = args; lines = ls }))))

abbrev pub IsRuleAt : Path → List Word → Step → Type 0
IsRuleAt p = Both (IsWordOf k.Name itself)
    (λ rule. Both IfArguments (λ args. Both AreCertificates (λ ls. Both (IsWordOf k.Semi no_value)
    (λ _. IsNothing (record { path = p; rule = rule; args = args; lines = ls })))))

-- what follows `at`
unfoldable pub step : Parser Step
step = path >>= λ p. (a_word k.Do no_value >>= λ _. rule_at p)

abbrev pub IsStep : List Word → Step → Type 0
IsStep = Both IsPath (λ p. Both (IsWordOf k.Do no_value) (λ _. IsRuleAt p))

-- what follows `goal`
unfoldable pub final_line : Parser FinalLine
final_line = a_word k.Number count_value >>= λ g.
    (a_word k.By no_value >>= λ _. (certificate >>= λ ls. (a_word k.Semi no_value >>= λ _. pure (record { goal = g; lines = ls }))))

abbrev pub IsFinalLine : List Word → FinalLine → Type 0
IsFinalLine = Both (IsWordOf k.Number count_value)
    (λ g. Both (IsWordOf k.By no_value) (λ _. Both IsCertificate (λ ls. Both (IsWordOf k.Semi no_value) (λ _. IsNothing (record { goal = g; lines = ls })))))
