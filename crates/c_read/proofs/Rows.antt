-- Small texts that stand for nothing.
use Rattle.std.proofs.Common.{◌≡◌, [], ◌∷◌, Err, refl}
use Rattle.std.specs.Prelude.{codes}
use Rattle.text_tokens.specs.Kinds.{same_kind}
use Rattle.text_tokens.specs.Words.{peek, next}
use Rattle.reader_laws.specs.declared.fault.Fault.TheVariants.{BadSyntax, BadToken}
use Rattle.reader_laws.specs.declared.fault.ReadError.TheVariants.{Refused}
use Rattle.reader_laws.specs.Steps.{a_word, misplaced, refusal}
use Rattle.c_words.specs.Words.{symbol, word, words_from}
use Rattle.c_read.specs.Units.{read_text}

-- the empty text, at its beginning
empty : read_text [] ≡ Err (Refused BadSyntax 0)
unfolding read_text words_from a_word misplaced refusal peek next same_kind word symbol
empty = refl

-- a comment that does not end, where it begins
endless : read_text (codes "#include <stdint.h>\n/* static") ≡ Err (Refused BadToken 20)
unfolding read_text words_from a_word misplaced refusal peek next same_kind word symbol
endless = refl

-- a byte over 127 outside of a comment
high : read_text (200 ∷ []) ≡ Err (Refused BadToken 0)
unfolding read_text words_from a_word misplaced refusal peek next same_kind word symbol
high = refl
