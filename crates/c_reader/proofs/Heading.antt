-- The lines that each text begins with, cut into words.
use Rattle.std.proofs.Common.{◌≡◌, [], ◌∷◌, ◌++◌, sym, ◌∙◌}
use Rattle.std.specs.Fmt.{digits}
use Rattle.text_tokens.specs.Words.{Input}
use Rattle.reader_laws.specs.Steps.{and_then}
use Rattle.c_words.specs.Tokens.{Include, sign}
use Rattle.c_words.specs.Words.{symbol, word, words_from}
use Rattle.c_text.specs.Printed.{heading_fill, heading_top, heading_words}
use Rattle.c_read.specs.Parts.{expect_all}
use Rattle.c_reader.specs.Units.{heading_lines}
use Rattle.c_reader.proofs.Lists.{expect_append}

pub heading_is : (i : Input) → heading_lines i ≡ expect_all heading_words i
unfolding heading_lines words_from word symbol digits
heading_is i =
    (λ l. and_then (expect_all (sign Include ∷ []) i) (λ u j. sym (expect_append heading_top heading_fill j) l))
    ∙ sym (expect_append (sign Include ∷ []) (heading_top ++ heading_fill) i)
