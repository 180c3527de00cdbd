-- A C text, which is seen as its bytes, as the list of its words: white space and comments between words are free.
use Rattle.std.specs.Prelude.{ℕ, zero, suc, ◌+◌, ◌-◌, Bool, true, false, ◌&&◌, ◌||◌, if◌then◌else◌}
use Rattle.std.specs.Prelude.{◌==◌, Option, Some, None, List, [], ◌∷◌, length, take, drop, slice_index}
use Rattle.std.specs.Char.{is_ascii_digit, is_ascii_alphabetic, is_ascii_alphanumeric}
use Rattle.std.specs.List.{prefix_len}
use Rattle.std.specs.Str.{bytes_eq}
use Rattle.text_tokens.specs.declared.kind.Kind.{Kind}
use Rattle.text_tokens.specs.declared.kind.Kind.TheVariants as k
use Rattle.text_tokens.specs.Kinds.{Text}
use Rattle.text_tokens.specs.Lex.{is_blank}
use Rattle.text_tokens.specs.Words.{Word}
use Rattle.c_words.specs.declared.state.Margin.{Margin}
use Rattle.c_words.specs.declared.state.Margin.TheVariants.{Blank, Indented, Taken}
use Rattle.c_words.specs.declared.state.State.{State}
use Rattle.c_words.specs.declared.state.State.TheVariants.{Code, Comment, Including, LineComment}
use Rattle.c_words.specs.Tokens.{AndAnd, Include, PlusAssign, Pragma, Question, include_text, pragma_text}

-- ---- single words

-- a letter or `_`
abbrev pub begins_name : ℕ → Bool
begins_name c = is_ascii_alphabetic c || c == 95

-- a letter, a digit or `_`
abbrev pub continues_name : ℕ → Bool
continues_name c = is_ascii_alphanumeric c || c == 95

-- the symbol that begins with these two bytes, the longest first; the second is 0 where the text ends
unfoldable pub symbol : ℕ → ℕ → Kind
symbol c next =
    if c == 59 then k.Semi else (if c == 44 then k.Comma else (if c == 58 then k.Colon else (if c == 63 then Question
    else (if c == 91 then k.LBracket else (if c == 93 then k.RBracket else (if c == 40 then k.LParen else (if c == 41 then k.RParen
    else (if c == 123 then k.LBrace else (if c == 125 then k.RBrace
    else (if c == 60 then (if next == 61 then k.LessEqual else k.Less)
    else (if c == 62 then (if next == 61 then k.GreaterEqual else k.Greater)
    else (if c == 61 then (if next == 61 then k.Equal else k.Assign)
    else (if c == 43 then (if next == 61 then PlusAssign else k.Plus)
    else (if c == 38 then (if next == 38 then AndAnd else k.Bad)
    else (if c == 45 then k.Minus else (if c == 42 then k.Star else (if c == 47 then k.Slash else (if c == 37 then k.Percent else k.Bad))))))))))))))))))

-- how many bytes a symbol has
abbrev pub symbol_len : Kind → ℕ
symbol_len k.LessEqual = 2
symbol_len k.GreaterEqual = 2
symbol_len k.Equal = 2
symbol_len PlusAssign = 2
symbol_len AndAnd = 2
symbol_len kd = 1

-- ---- where a word stands on its line

-- a carriage return is white space that no marked loop has before it
abbrev pub after_return : Margin → Margin
after_return Taken = Taken
after_return m = Blank

abbrev pub after_blank : ℕ → Margin → Margin
after_blank c m = if c == 10 then Indented else (if c == 13 then after_return m else m)

-- whether the text begins with these bytes
abbrev pub begins_with : Text → Text → Bool
begins_with t z = bytes_eq t (take (length t) z)

-- whether nothing but spaces and tabs follows on the line, and a carriage return where one may stand
abbrev pub line_ends : Bool → Text → Bool
line_ends return [] = true
line_ends return (c ∷ z) = c == 10 || (if c == 13 then return && line_ends false z else (c == 32 || c == 9) && line_ends return z)

-- whether the line marks a loop
abbrev pub is_pragma : Text → Bool
is_pragma z = begins_with pragma_text z && line_ends true (drop (length pragma_text) z)

-- A line that begins with `#`: it includes the integers where only white space stands before it, and it marks a loop where it is alone on its line.
abbrev pub directive : Margin → Text → Kind × ℕ
directive Taken z = (k.Bad, 1)
directive Blank z = if begins_with include_text z then (Include, length include_text) else (k.Bad, 1)
directive Indented z =
    if begins_with include_text z then (Include, length include_text)
    else (if is_pragma z then (Pragma, length pragma_text) else (k.Bad, 1))

-- the kind and the number of bytes of the word at the front of bytes that begin with no white space and no comment
unfoldable pub word : Margin → Text → Kind × ℕ
word m [] = (k.End, 0)
word m (c ∷ z) =
    if begins_name c then (k.Name, 1 + prefix_len continues_name z)
    else (if is_ascii_digit c then (k.Number, 1 + prefix_len is_ascii_digit z)
    else (if c == 35 then directive m (c ∷ z) else (symbol c (slice_index z 0), symbol_len (symbol c (slice_index z 0)))))

-- ---- white space and comments

-- whether a comment that has begun ends
abbrev pub has_end : Text → Bool
has_end [] = false
has_end (c ∷ z) = (c == 42 && slice_index z 0 == 47) || has_end z

-- behind a comment that ends at `*/`
abbrev pub behind_comment : Bool → State
behind_comment true = Including
behind_comment false = Code Taken

-- what is in a comment that begins with these bytes, and ends; and how many more bytes its sign has
abbrev pub comment : ℕ → Text → Bool → Option (State × ℕ)
comment c z including =
    if c == 47 then (if slice_index z 0 == 47 then Some (LineComment, 1)
    else (if slice_index z 0 == 42 && has_end (drop 1 z) then Some (Comment including, 1) else None))
    else None

-- what the byte at the front leads to, and how many more bytes are gone over; none where a word begins with it
abbrev pub step : State → ℕ → Text → Option (State × ℕ)
step LineComment c z = Some (if c == 10 then Code Indented else LineComment, 0)
step (Comment including) c z = Some (if c == 42 && slice_index z 0 == 47 then (behind_comment including, 1) else (Comment including, 0))
step Including c z = if c == 10 then Some (Code Indented, 0) else (if is_blank c then Some (Including, 0) else comment c z true)
step (Code m) c z = if is_blank c then Some (Code (after_blank c m), 0) else comment c z false

-- the same of a text
abbrev pub step_at : State → Text → Option (State × ℕ)
step_at s [] = None
step_at s (c ∷ z) = step s c z

-- the word at the front of bytes that begin one; a comment that does not end is bad where it begins, and so is what follows in the line that includes
abbrev pub word_of : State → Text → Kind × ℕ
word_of (Code m) (c ∷ z) = if c == 47 && slice_index z 0 == 42 then (k.Bad, 1) else word m (c ∷ z)
word_of s z = (k.Bad, 1)

-- ---- all words

-- a word at the front of these bytes, in a text that ends at this place
abbrev pub word_at : ℕ → Kind → ℕ → Text → Word
word_at end kd n z = record { kind = kd; text = take n z; place = end - length z }

-- the state behind a word
abbrev pub behind : Kind → State
behind Include = Including
behind kd = Code Taken

abbrev pub is_bad : Kind → Bool
is_bad k.Bad = true
is_bad kd = false

-- what follows a step, or else a word
abbrev pub goes_over : Option (State × ℕ) → (State × ℕ → List Word) → List Word → List Word
goes_over (Some p) follows words = follows p
goes_over None follows words = words

-- The words, in one pass. The number counts the bytes that are left of a word or of the sign of a comment. Behind a bad word nothing is cut.
unfoldable pub words_from : ℕ → ℕ → State → Text → List Word
words_from end left s [] = []
words_from end (suc left) s (c ∷ z) = words_from end left s z
words_from end zero s (c ∷ z) = goes_over (step s c z) (λ p. words_from end p.1 p.0 z)
    (word_at end (word_of s (c ∷ z)).0 (word_of s (c ∷ z)).1 (c ∷ z)
    ∷ (if is_bad (word_of s (c ∷ z)).0 then [] else words_from end ((word_of s (c ∷ z)).1 - 1) (behind (word_of s (c ∷ z)).0) z))

-- the words of a C text
abbrev pub c_words : Text → List Word
c_words z = words_from (length z) zero (Code Indented) z
