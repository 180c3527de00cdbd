-- Small texts and their words, with their places.
use Rattle.std.proofs.Common.{◌≡◌, ℕ, List, [], ◌∷◌, ◌++◌, refl}
use Rattle.std.specs.Prelude.{codes}
use Rattle.text_tokens.specs.declared.kind.Kind.{Kind}
use Rattle.text_tokens.specs.declared.kind.Kind.TheVariants as k
use Rattle.text_tokens.specs.Words.{Word}
use Rattle.c_words.specs.Tokens.{AndAnd, Include, PlusAssign, Pragma}
use Rattle.c_words.specs.Words.{c_words, symbol, word, words_from}

-- kinds and places
abbrev seen : List Word → List (Kind × ℕ)
seen [] = []
seen (w ∷ ws) = (w.kind, w.place) ∷ seen ws

-- comments of both kinds stand between words, and the longest symbol comes first
comments : seen (c_words (codes "a/*x*y**/1u// z\n+=&&<=<")) ≡ (k.Name, 0) ∷ (k.Number, 9) ∷ (k.Name, 10) ∷ (PlusAssign, 16) ∷ (AndAnd, 18)
    ∷ (k.LessEqual, 20) ∷ (k.Less, 22) ∷ []
unfolding words_from word symbol
comments = refl

-- a comment that does not end is bad where it begins
endless : seen (c_words (codes "a /* b */ c /*/ d")) ≡ (k.Name, 0) ∷ (k.Name, 10) ∷ (k.Bad, 12) ∷ []
unfolding words_from word symbol
endless = refl

-- a backslash at the end of a comment joins nothing
no_joining : seen (c_words (codes "// a\\\nb")) ≡ (k.Name, 6) ∷ []
unfolding words_from word symbol
no_joining = refl

-- bytes over 127 stand in comments alone
high_bytes : seen (c_words (codes "/*" ++ 200 ∷ codes "*/ a" ++ 200 ∷ [])) ≡ (k.Name, 6) ∷ (k.Bad, 7) ∷ []
unfolding words_from word symbol
high_bytes = refl

-- the line that includes: white space before it, white space and comments behind it on its line
include_line : seen (c_words (codes "// c\n \r#include <stdint.h> /* x\n */ // y\nz")) ≡ (Include, 7) ∷ (k.Name, 41) ∷ []
unfolding words_from word symbol
include_line = refl

-- no word behind it on its line, and no comment before it
not_alone : seen (c_words (codes "#include <stdint.h> z")) ≡ (Include, 0) ∷ (k.Bad, 20) ∷ []
unfolding words_from word symbol
not_alone = refl

behind_comment : seen (c_words (codes "/* c */ #include <stdint.h>")) ≡ (k.Bad, 8) ∷ []
unfolding words_from word symbol
behind_comment = refl

-- the line that marks: spaces and tabs around it, and one carriage return behind it
mark : seen (c_words (codes ";\n \t#pragma omp parallel for \r\nfor")) ≡ (k.Semi, 0) ∷ (Pragma, 4) ∷ (k.Name, 31) ∷ []
unfolding words_from word symbol
mark = refl

-- and nothing else on its line
return_before : seen (c_words (codes "\r#pragma omp parallel for")) ≡ (k.Bad, 1) ∷ []
unfolding words_from word symbol
return_before = refl

comment_behind : seen (c_words (codes "#pragma omp parallel for //")) ≡ (k.Bad, 0) ∷ []
unfolding words_from word symbol
comment_behind = refl

two_returns : seen (c_words (codes "#pragma omp parallel for\r\r\n")) ≡ (k.Bad, 0) ∷ []
unfolding words_from word symbol
two_returns = refl
