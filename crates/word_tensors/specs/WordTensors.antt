-- Tensors from their words.
use Rattle.std.specs.Prelude.{◌≡◌, ℕ, zero, suc, ◌^◌, ◌<◌, List, [], ◌∷◌, length, take, drop}
use Rattle.term_tree.specs.Shaped.{HasShape, HasWords, flat, word_count}
use Rattle.term_tree.specs.Tensors.{Tensor, Word, from_rows}

-- n rows, each made of the next k words
abbrev pub rows_of_words : (List ℕ → Tensor) → ℕ → ℕ → List ℕ → List Tensor
rows_of_words f k zero ws = []
rows_of_words f k (suc n) ws = f (take k ws) ∷ rows_of_words f k n (drop k ws)

abbrev pub first_word : List ℕ → ℕ
first_word [] = 0
first_word (w ∷ ws) = w

-- the tensor of these extents with these words from left to right
abbrev pub tensor_of : List ℕ → List ℕ → Tensor
tensor_of [] ws = Word (first_word ws)
tensor_of (n ∷ ns) ws = from_rows (rows_of_words (tensor_of ns) (word_count ns) n ws)

-- numbers of 64 bits
abbrev pub AreWords : List ℕ → Type 0
AreWords [] = Unit {0}
AreWords (w ∷ ws) = (w < 2 ^ 64) × AreWords ws

-- the tensor has these extents, and where the words are as many as they say, it is one of words, and its words are these
pub record IsOfWords (ds ws : List ℕ) : Type 0 where
  pub shape : HasShape ds (tensor_of ds ws)
  pub words : AreWords ws → HasWords (tensor_of ds ws)
  pub same : length ws ≡ word_count ds → flat (tensor_of ds ws) ≡ ws
