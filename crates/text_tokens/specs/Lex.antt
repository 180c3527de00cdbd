-- The word at the front of a text, which is seen as its list of characters.
use Rattle.std.specs.Prelude.{ℕ, ◌+◌, Bool, true, false, not, ◌||◌, if◌then◌else◌, ◌==◌, [], ◌∷◌, take, slice_index}
use Rattle.std.specs.Char.{is_ascii_digit}
use Rattle.std.specs.List.{prefix_len}
use Rattle.std.specs.Str.{encode_utf8_all}
use Rattle.unicode_ident.specs.Ident.{is_xid_start, is_xid_continue}
use Rattle.text_tokens.specs.declared.kind.Kind.{Kind}
use Rattle.text_tokens.specs.declared.kind.Kind.TheVariants as k
use Rattle.text_tokens.specs.declared.kind.Language.{Language}
use Rattle.text_tokens.specs.Kinds.{Text, keyword, symbol_of, symbol_len}

-- space, tab, carriage return and line feed
abbrev pub is_blank : ℕ → Bool
is_blank c = c == 32 || c == 9 || c == 13 || c == 10

-- a name begins with a character that may start an identifier, or with `_`
unfoldable pub begins_name : ℕ → Bool
begins_name c = is_xid_start c || c == 95

-- and goes on with all characters that may continue one
unfoldable pub continues_name : ℕ → Bool
continues_name = is_xid_continue

-- how many characters at the front go on with a name
abbrev pub name_len : Text → ℕ
name_len = prefix_len continues_name

-- how many characters at the front are ASCII digits
abbrev pub digits_len : Text → ℕ
digits_len = prefix_len is_ascii_digit

-- the kind and the number of characters of the word at the front of characters that begin with no white space and no comment
unfoldable pub word : Language → Text → Kind × ℕ
word language [] = (k.End, 0)
word language (c ∷ z) =
    if begins_name c then (keyword language (encode_utf8_all (take (1 + name_len z) (c ∷ z))), 1 + name_len z)
    else (if is_ascii_digit c then (k.Number, 1 + digits_len z) else
    (symbol_of language c (slice_index z 0), symbol_len (symbol_of language c (slice_index z 0))))

-- the characters from the first word on; a comment goes to the end of its line
abbrev pub skip : Bool → Text → Text
skip in_comment [] = []
skip true (c ∷ z) = skip (not (c == 10)) z
skip false (c ∷ z) = if c == 35 then skip true z else (if is_blank c then skip false z else c ∷ z)
