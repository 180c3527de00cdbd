-- A text as the list of its words.
use Rattle.std.specs.Prelude.{ℕ, zero, suc, ◌-◌, Bool, true, false, not, if◌then◌else◌, ◌==◌, List, [], ◌∷◌, length, take}
use Rattle.std.specs.Str.{chars, encode_utf8_all}
use Rattle.text_tokens.specs.declared.kind.Kind.{Kind}
use Rattle.text_tokens.specs.declared.kind.Kind.TheVariants.{End}
use Rattle.text_tokens.specs.declared.kind.Language.{Language}
use Rattle.text_tokens.specs.Kinds.{Text}
use Rattle.text_tokens.specs.Lex.{is_blank, word}

pub record Word : Type 0 where
  pub kind : Kind
  -- its bytes
  pub text : Text
  -- how many bytes stand before it
  pub place : ℕ

-- the word at the front of these characters, in a text that ends at this place
unfoldable pub first_word : Language → ℕ → Text → Word
first_word language end z = record { kind = (word language z).0; text = encode_utf8_all (take (word language z).1 z); place = end - length (encode_utf8_all z) }

-- The words, in one pass. The number counts the characters that are left of a word; in_comment is true in a comment.
unfoldable pub words_from : Language → ℕ → ℕ → Bool → Text → List Word
words_from language end left in_comment [] = []
words_from language end (suc left) in_comment (c ∷ z) = words_from language end left in_comment z
words_from language end zero true (c ∷ z) = words_from language end zero (not (c == 10)) z
words_from language end zero false (c ∷ z) =
    if c == 35 then words_from language end zero true z
    else (if is_blank c then words_from language end zero false z
    else first_word language end (c ∷ z) ∷ words_from language end ((word language (c ∷ z)).1 - 1) false z)

-- the words of a text of this language, which is given by its bytes
abbrev pub words_of : Language → Text → List Word
words_of language z = words_from language (length z) zero false (chars z)

pub record Input : Type 0 where
  -- the words that are still to be read
  pub words : List Word
  -- the length of the text in bytes
  pub end : ℕ

-- a text of which nothing has been read
abbrev pub input : Language → Text → Input
input language z = record { words = words_of language z; end = length z }

-- the next word, which at the end of the text is the word `End`
abbrev pub next_word : ℕ → List Word → Word
next_word end [] = record { kind = End; text = []; place = end }
next_word end (w ∷ ws) = w

-- what follows the next word
abbrev pub tail : List Word → List Word
tail [] = []
tail (w ∷ ws) = ws

-- the next word
unfoldable pub peek : Input → Word
peek i = next_word i.end i.words

-- what is left when the next word has been taken
unfoldable pub next : Input → Input
next i = record i { words = tail i.words }

-- no word is left
abbrev pub is_nil : List Word → Bool
is_nil [] = true
is_nil (w ∷ ws) = false
