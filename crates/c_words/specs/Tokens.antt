-- Words of C without their places, and how symbols and keywords are spelled. Keywords are names; the grammar tells them by their text.
use Rattle.std.specs.Prelude.{[], codes}
use Rattle.text_tokens.specs.declared.kind.Kind.{Kind}
use Rattle.text_tokens.specs.declared.kind.Kind.TheVariants as k
use Rattle.text_tokens.specs.Kinds.{Text}
use Rattle.text_tokens.specs.Spelled.{Token}

-- ---- kinds that C has besides (no word of C has these kinds otherwise)

-- `?`
pattern abbrev pub Question : Kind
Question = k.Dot

-- `+=`
pattern abbrev pub PlusAssign : Kind
PlusAssign = k.DotDot

-- `&&`
pattern abbrev pub AndAnd : Kind
AndAnd = k.And

-- the line that includes the integers of fixed width
pattern abbrev pub Include : Kind
Include = k.Input

-- the line that marks a loop
pattern abbrev pub Pragma : Kind
Pragma = k.Parallel

abbrev pub include_text : Text
include_text = codes "#include <stdint.h>"

abbrev pub pragma_text : Text
pragma_text = codes "#pragma omp parallel for"

-- the spelling of a symbol, and of the two lines that are one word each
abbrev pub sign_text : Kind → Text
sign_text k.Semi = codes ";"
sign_text k.Comma = codes ","
sign_text k.LBracket = codes "["
sign_text k.RBracket = codes "]"
sign_text k.LParen = codes "("
sign_text k.RParen = codes ")"
sign_text k.LBrace = codes "{"
sign_text k.RBrace = codes "}"
sign_text k.Colon = codes ":"
sign_text k.Less = codes "<"
sign_text k.LessEqual = codes "<="
sign_text k.Greater = codes ">"
sign_text k.GreaterEqual = codes ">="
sign_text k.Equal = codes "=="
sign_text k.Assign = codes "="
sign_text k.Plus = codes "+"
sign_text k.Minus = codes "-"
sign_text k.Star = codes "*"
sign_text k.Slash = codes "/"
sign_text k.Percent = codes "%"
sign_text Question = codes "?"
sign_text PlusAssign = codes "+="
sign_text AndAnd = codes "&&"
sign_text Include = include_text
sign_text Pragma = pragma_text
sign_text kd = []

-- a symbol
abbrev pub sign : Kind → Token
sign kd = record { kind = kd; text = sign_text kd }
