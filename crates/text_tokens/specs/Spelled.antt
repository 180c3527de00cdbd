-- Lists of tokens and how they are spelled: what stands between two of them.
use Rattle.std.specs.Prelude.{ℕ, Bool, true, false, ◌&&◌, ◌||◌, if◌then◌else◌, List, [], ◌∷◌, ◌++◌, codes, decimal}
use Rattle.text_tokens.specs.declared.kind.Kind.{Kind}
use Rattle.text_tokens.specs.declared.kind.Kind.TheVariants as k
use Rattle.text_tokens.specs.Kinds.{Text}
use Rattle.text_tokens.specs.Words.{Word}

-- a word without its place
pub record Token : Type 0 where
  pub kind : Kind
  -- its bytes
  pub text : Text

abbrev pub token_of : Word → Token
token_of w = record { kind = w.kind; text = w.text }

-- words without their places
abbrev pub tokens_of : List Word → List Token
tokens_of [] = []
tokens_of (w ∷ ws) = token_of w ∷ tokens_of ws

-- the spelling of a symbol
abbrev pub sign_text : Kind → Text
sign_text k.Semi = codes ";"
sign_text k.Comma = codes ","
sign_text k.Dot = codes "."
sign_text k.DotDot = codes ".."
sign_text k.LBracket = codes "["
sign_text k.RBracket = codes "]"
sign_text k.LParen = codes "("
sign_text k.RParen = codes ")"
sign_text k.LBrace = codes "{"
sign_text k.RBrace = codes "}"
sign_text k.Colon = codes ":"
sign_text k.Less = codes "<"
sign_text k.LessEqual = codes "<="
sign_text k.Greater = codes ">"
sign_text k.GreaterEqual = codes ">="
sign_text k.Equal = codes "=="
sign_text k.Assign = codes "="
sign_text k.Plus = codes "+"
sign_text k.Minus = codes "-"
sign_text k.Star = codes "*"
sign_text k.Slash = codes "/"
sign_text k.Percent = codes "%"
sign_text kd = []

-- the token of a symbol
abbrev pub sign : Kind → Token
sign kd = record { kind = kd; text = sign_text kd }

-- the token of a number
abbrev pub number_token : ℕ → Token
number_token n = record { kind = k.Number; text = decimal n }

-- the token of a name
abbrev pub name_token : Text → Token
name_token t = record { kind = k.Name; text = t }

-- the spelling of a keyword of a source
abbrev pub keyword_text : Kind → Text
keyword_text k.Atl = codes "atl"
keyword_text k.Size = codes "size"
keyword_text k.In = codes "in"
keyword_text k.Assume = codes "assume"
keyword_text k.Example = codes "example"
keyword_text k.Input = codes "input"
keyword_text k.Output = codes "output"
keyword_text k.Gen = codes "gen"
keyword_text k.Sum = codes "sum"
keyword_text k.Guard = codes "guard"
keyword_text k.Let = codes "let"
keyword_text k.And = codes "and"
keyword_text k.Concat = codes "concat"
keyword_text k.Flatten = codes "flatten"
keyword_text k.Split = codes "split"
keyword_text k.Transpose = codes "transpose"
keyword_text k.TruncL = codes "truncl"
keyword_text k.TruncR = codes "truncr"
keyword_text k.PadL = codes "padl"
keyword_text k.PadR = codes "padr"
keyword_text k.Word = codes "word"
keyword_text kd = []

-- the token of a keyword
abbrev pub keyword : Kind → Token
keyword kd = record { kind = kd; text = keyword_text kd }

-- what stands between two tokens of these kinds
module _ (gap : Kind → Kind → Text) where
  -- what stands behind a token, before these; behind the last one nothing but what would stand before another line
  abbrev pub gap_to : Kind → List Token → Text
  gap_to kd [] = gap kd k.End
  gap_to kd (t ∷ ts) = gap kd t.kind

  -- the bytes of tokens
  abbrev pub spelled : List Token → Text
  spelled [] = []
  spelled (t ∷ ts) = t.text ++ (gap_to t.kind ts ++ spelled ts)

-- ---- source texts

-- a token that no space follows
abbrev pub opens : Kind → Bool
opens k.LParen = true
opens k.LBracket = true
opens k.DotDot = true
opens kd = false

-- a token before which no space stands
abbrev pub closes : Kind → Bool
closes k.Semi = true
closes k.Comma = true
closes k.Dot = true
closes k.DotDot = true
closes k.LBracket = true
closes k.RBracket = true
closes k.RParen = true
closes kd = false

-- a word that stands before `(` without a space
abbrev pub is_function : Kind → Bool
is_function k.Concat = true
is_function k.Flatten = true
is_function k.Split = true
is_function k.Transpose = true
is_function k.TruncL = true
is_function k.TruncR = true
is_function k.PadL = true
is_function k.PadR = true
is_function k.Word = true
is_function kd = false

abbrev pub is_opening : Kind → Bool
is_opening k.LParen = true
is_opening kd = false

-- behind these tokens: a line feed ends a line, and else a space stands between two tokens
abbrev pub space_behind : Kind → Text
space_behind k.Semi = 10 ∷ []
space_behind kd = codes " "

-- what stands between two tokens of a source
abbrev pub source_gap : Kind → Kind → Text
source_gap a b = if opens a || closes b || (is_function a && is_opening b) then [] else space_behind a
