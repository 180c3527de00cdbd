-- How many levels the canonical text of an expression opens, as a number; how long the chains of an index are, and how deep a word is, which bounds its chains.
use Rattle.std.specs.Prelude.{◌<◌, ◌^◌, ℕ, ◌+◌, Bool, true, false, if◌then◌else◌, nat_le, List, [], ◌∷◌}
use Rattle.loop_lang.specs.declared.index.Iexp.{Iexp, Lit, Size, Loop}
use Rattle.loop_lang.specs.declared.index.Test.{Test}
use Rattle.loop_lang.specs.declared.word.Wexp.{Wexp}
use Rattle.loop_lang.specs.declared.word.Wexp as word
use Rattle.loop_lang.specs.Syntax.{index_sum, index_difference, index_product, index_quotient, index_remainder}
use Rattle.loop_lang.specs.Syntax.{index_larger, word_sum, word_difference, word_product, word_choice}
use Rattle.c_print.specs.declared.level.Level.{Level}
use Rattle.c_print.specs.declared.level.Level.TheVariants.{Choice, Sum, Product, Part}
use Rattle.c_print.specs.Level.{is_looser}
use Rattle.c_text.specs.Printable.{index_chain}

-- the larger of two
abbrev pub most : ℕ → ℕ → ℕ
most a b = if nat_le a b then b else a

-- one level more where it stands in parentheses
abbrev pub one_if : Bool → ℕ → ℕ
one_if true n = n + 1
one_if false n = n

abbrev pub index_levels : Iexp → Level → ℕ
index_levels (Lit n) place = 1
index_levels (Size n) place = 0
index_levels (Loop d) place = 0
index_levels (index_sum a b) place = one_if (is_looser Sum place) (most (index_levels a Sum) (index_levels b Product + 1))
index_levels (index_difference a b) place = one_if (is_looser Sum place) (most (index_levels a Sum) (index_levels b Product + 1))
index_levels (index_product a b) place = one_if (is_looser Product place) (most (index_levels a Product) (index_levels b Part + 1))
index_levels (index_quotient a n) place = one_if (is_looser Product place) (most (index_levels a Product) 2)
index_levels (index_remainder a n) place = one_if (is_looser Product place) (most (index_levels a Product) 2)
index_levels (index_larger a b) place = most (index_levels a Choice) (index_levels b Choice) + 1

-- how many operators stand in the longest chain of an index; a larger of two begins new ones
abbrev pub index_longest : Iexp → ℕ
index_longest (Lit n) = 0
index_longest (Size n) = 0
index_longest (Loop d) = 0
index_longest (index_sum a b) = most (index_chain Sum a + 1) (most (index_longest a) (index_longest b))
index_longest (index_difference a b) = most (index_chain Sum a + 1) (most (index_longest a) (index_longest b))
index_longest (index_product a b) = most (index_chain Product a + 1) (most (index_longest a) (index_longest b))
index_longest (index_quotient a n) = most (index_chain Product a + 1) (index_longest a)
index_longest (index_remainder a n) = most (index_chain Product a + 1) (index_longest a)
index_longest (index_larger a b) = most (index_longest a) (index_longest b)

abbrev pub tests_levels : List Test → ℕ
tests_levels [] = 0
tests_levels (c ∷ cs) = most (most (index_levels c.left Sum) (index_levels c.right Sum)) (tests_levels cs)

abbrev pub tests_longest : List Test → ℕ
tests_longest [] = 0
tests_longest (c ∷ cs) = most (most (index_longest c.left) (index_longest c.right)) (tests_longest cs)

abbrev pub word_levels : Wexp → Level → ℕ
word_levels (word.Lit n) place = 1
word_levels (word.Load b i) place = index_levels i Choice + 1
word_levels (word.OfIndex i) place = index_levels i Choice + 1
word_levels (word_sum a b) place = one_if (is_looser Sum place) (most (word_levels a Sum) (word_levels b Product + 1))
word_levels (word_difference a b) place = one_if (is_looser Sum place) (most (word_levels a Sum) (word_levels b Product + 1))
word_levels (word_product a b) place = one_if (is_looser Product place) (most (word_levels a Product) (word_levels b Part + 1))
word_levels (word_choice cs a b) place = one_if (is_looser Choice place) (most (tests_levels cs) (most (word_levels a Choice) (word_levels b Choice) + 1))

-- how deep operators and choices of a word stand, and at least the longest chain of its indices
abbrev pub word_height : Wexp → ℕ
word_height (word.Lit n) = 0
word_height (word.Load b i) = index_longest i
word_height (word.OfIndex i) = index_longest i
word_height (word_sum a b) = most (word_height a) (word_height b) + 1
word_height (word_difference a b) = most (word_height a) (word_height b) + 1
word_height (word_product a b) = most (word_height a) (word_height b) + 1
word_height (word_choice cs a b) = most (tests_longest cs) (most (word_height a) (word_height b) + 1)

-- each word is one of 64 bits
abbrev pub LiteralsFit : Wexp → Type 0
LiteralsFit (word.Lit n) = n < 2 ^ 64
LiteralsFit (word_sum a b) = LiteralsFit a × LiteralsFit b
LiteralsFit (word_difference a b) = LiteralsFit a × LiteralsFit b
LiteralsFit (word_product a b) = LiteralsFit a × LiteralsFit b
LiteralsFit (word_choice cs a b) = LiteralsFit a × LiteralsFit b
LiteralsFit w = Unit {0}

-- how deep operators and choices of a word stand, without its indices
abbrev pub word_depth : Wexp → ℕ
word_depth (word_sum a b) = most (word_depth a) (word_depth b) + 1
word_depth (word_difference a b) = most (word_depth a) (word_depth b) + 1
word_depth (word_product a b) = most (word_depth a) (word_depth b) + 1
word_depth (word_choice cs a b) = most (word_depth a) (word_depth b) + 1
word_depth w = 0

-- the levels of its indices and tests
abbrev pub index_part : Wexp → ℕ
index_part (word.Lit n) = 0
index_part (word.Load b i) = index_levels i Choice
index_part (word.OfIndex i) = index_levels i Choice
index_part (word_sum a b) = most (index_part a) (index_part b)
index_part (word_difference a b) = most (index_part a) (index_part b)
index_part (word_product a b) = most (index_part a) (index_part b)
index_part (word_choice cs a b) = most (tests_levels cs) (most (index_part a) (index_part b))
