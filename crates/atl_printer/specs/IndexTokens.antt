-- The tokens of the tree of an index: in parentheses exactly where it would otherwise read as another tree.
use Rattle.std.specs.Prelude.{ℕ, ◌+◌, Bool, true, false, List, [], ◌∷◌, ◌++◌}
use Rattle.std.specs.Int.RustNames.{unsigned_abs}
use Rattle.text_tokens.specs.declared.kind.Kind.TheVariants as k
use Rattle.text_tokens.specs.Kinds.{Text}
use Rattle.loop_lang.specs.declared.index.Iexp.{Iexp, Lit, Size, Loop}
use Rattle.loop_lang.specs.Syntax.{index_sum, index_difference, index_product, index_quotient, index_remainder, index_larger}
use Rattle.text_tokens.specs.Spelled.{Token, name_token, number_token, sign}
use Rattle.source_grammar.specs.Index.{Level, Sum, Product, Part}

-- in parentheses where a test says so
abbrev pub enclosed : Bool → List Token → List Token
enclosed true ts = sign k.LParen ∷ ts ++ sign k.RParen ∷ []
enclosed false ts = ts

-- whether an operator of the first level reads as another tree where the second is the loosest that may stand
abbrev pub is_looser : Level → Level → Bool
is_looser Sum Sum = false
is_looser Sum place = true
is_looser Product Part = true
is_looser own place = false

-- one level more, where a test says so
abbrev pub one_if : Bool → ℕ
one_if true = 1
one_if false = 0

module _ (size_text loop_text : ℕ → Text) where
  -- the tokens of a tree in a place, where the level is the loosest that may stand
  abbrev pub index_tokens : Iexp → Level → List Token
  index_tokens (Lit n) place = number_token (unsigned_abs n) ∷ []
  index_tokens (Size s) place = name_token (size_text s) ∷ []
  index_tokens (Loop d) place = name_token (loop_text d) ∷ []
  index_tokens (index_sum a b) place = enclosed (is_looser Sum place) (index_tokens a Sum ++ sign k.Plus ∷ index_tokens b Product)
  index_tokens (index_difference a b) place = enclosed (is_looser Sum place) (index_tokens a Sum ++ sign k.Minus ∷ index_tokens b Product)
  index_tokens (index_product a b) place = enclosed (is_looser Product place) (index_tokens a Product ++ sign k.Star ∷ index_tokens b Part)
  index_tokens (index_quotient a d) place = enclosed (is_looser Product place) (index_tokens a Product ++ sign k.Slash ∷ number_token d ∷ [])
  index_tokens (index_remainder a d) place = enclosed (is_looser Product place) (index_tokens a Product ++ sign k.Percent ∷ number_token d ∷ [])
  index_tokens (index_larger a b) place = []

-- how many operators a tree has
abbrev pub operators : Iexp → ℕ
operators (Lit n) = 0
operators (Size s) = 0
operators (Loop d) = 0
operators (index_sum a b) = operators a + operators b + 1
operators (index_difference a b) = operators a + operators b + 1
operators (index_product a b) = operators a + operators b + 1
operators (index_quotient a k) = operators a + 1
operators (index_remainder a k) = operators a + 1
operators (index_larger a b) = operators a + operators b + 1
