-- The keywords and symbols of each language.
use Rattle.std.specs.Prelude.{ℕ, Bool, true, false, if◌then◌else◌, ◌==◌, List, [], ◌∷◌, codes}
use Rattle.std.specs.Str.{bytes_eq}
use denote.Enum.Bare.{sameb}
use Rattle.text_tokens.specs.contracts.kind.Kind.{the_type}
use Rattle.text_tokens.specs.declared.kind.Kind.{Kind}
use Rattle.text_tokens.specs.declared.kind.Kind.TheVariants as k
use Rattle.text_tokens.specs.declared.kind.Language.{Language}
use Rattle.text_tokens.specs.declared.kind.Language.TheVariants.{SourceOne, SourceTwo, Script, Data}

-- a list of bytes, or of characters
abbrev pub Text : Type 0
Text = List ℕ

-- `==` on kinds
unfoldable pub same_kind : Kind → Kind → Bool
same_kind = sameb the_type

-- a table of keywords
abbrev pub Table : Type 0
Table = List (Text × Kind)

-- the kind that the table gives these bytes, or else the other
unfoldable pub kind_in : Table → Text → Kind → Kind
kind_in [] t other = other
kind_in (row ∷ rows) t other = if bytes_eq t row.0 then row.1 else kind_in rows t other

-- the keywords of a source text that stand in its declarations
abbrev pub declaration_words : Table
declaration_words =
    (codes "atl", k.Atl) ∷ (codes "size", k.Size) ∷ (codes "in", k.In) ∷ (codes "assume", k.Assume) ∷ (codes "example", k.Example) ∷ (codes "input", k.Input) ∷
    (codes "output", k.Output) ∷ []

-- those of the forms that bind or guard
abbrev pub form_words : Table
form_words = (codes "gen", k.Gen) ∷ (codes "sum", k.Sum) ∷ (codes "guard", k.Guard) ∷ (codes "let", k.Let) ∷ (codes "and", k.And) ∷ []

-- those of the operators that reshape a tensor
abbrev pub reshape_words : Table
reshape_words =
    (codes "concat", k.Concat) ∷ (codes "flatten", k.Flatten) ∷ (codes "split", k.Split) ∷ (codes "transpose", k.Transpose)
    ∷ (codes "truncl", k.TruncL) ∷ (codes "truncr", k.TruncR) ∷ (codes "padl", k.PadL) ∷ (codes "padr", k.PadR) ∷ []

-- what version 2 adds
abbrev pub version_two_words : Table
version_two_words = (codes "word", k.Word) ∷ []

-- the keywords of a script
abbrev pub script_words : Table
script_words =
    (codes "schedule", k.Schedule) ∷ (codes "at", k.At) ∷ (codes "do", k.Do) ∷ (codes "by", k.By) ∷ (codes "default", k.Default) ∷ (codes "goal", k.Goal) ∷
    (codes "parallel", k.Parallel) ∷ (codes "and", k.And) ∷ []

-- the keyword that a name of the language is, or else `Name`
unfoldable pub keyword : Language → Text → Kind
keyword SourceOne t = kind_in declaration_words t (kind_in form_words t (kind_in reshape_words t k.Name))
keyword SourceTwo t = kind_in declaration_words t (kind_in form_words t (kind_in reshape_words t (kind_in version_two_words t k.Name)))
keyword Script t = kind_in script_words t k.Name
keyword Data t = k.Name

-- whether a symbol is one of the language
abbrev pub has_symbol : Language → Kind → Bool
has_symbol Script kd = true
has_symbol Data k.Colon = true
has_symbol Data k.Semi = true
has_symbol Data kd = false
has_symbol language k.Colon = false
has_symbol language k.LBrace = false
has_symbol language k.RBrace = false
has_symbol language kd = true

-- the symbol that begins with these two characters, the longest first
unfoldable pub symbol : ℕ → ℕ → Kind
symbol c next =
    if c == 59 then k.Semi else (if c == 44 then k.Comma
    else (if c == 46 then (if next == 46 then k.DotDot else k.Dot)
    else (if c == 91 then k.LBracket else (if c == 93 then k.RBracket else (if c == 40 then k.LParen else (if c == 41 then k.RParen
    else (if c == 123 then k.LBrace else (if c == 125 then k.RBrace else (if c == 58 then k.Colon
    else (if c == 60 then (if next == 61 then k.LessEqual else k.Less)
    else (if c == 62 then (if next == 61 then k.GreaterEqual else k.Greater)
    else (if c == 61 then (if next == 61 then k.Equal else k.Assign)
    else (if c == 43 then k.Plus else
    (if c == 45 then k.Minus else (if c == 42 then k.Star else (if c == 47 then k.Slash else (if c == 37 then k.Percent else k.Bad)))))))))))))))))

-- how many characters a symbol has
abbrev pub symbol_len : Kind → ℕ
symbol_len k.DotDot = 2
symbol_len k.LessEqual = 2
symbol_len k.GreaterEqual = 2
symbol_len k.Equal = 2
symbol_len kd = 1

-- the symbol of the language that begins with these two characters, where it has one
unfoldable pub symbol_of : Language → ℕ → ℕ → Kind
symbol_of language c next = if has_symbol language (symbol c next) then symbol c next else k.Bad
