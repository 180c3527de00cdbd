-- Tensors of given extents, and their words from left to right.
use Rattle.std.specs.Prelude.{ℕ, zero, suc, ◌*◌, ◌^◌, ◌<◌, List, [], ◌∷◌, ◌++◌}
use Rattle.term_tree.specs.Tensors.{Tensor, Word, End, Row}

abbrev pub IsWord : Tensor → Type 0
IsWord (Word w) = Unit {0}
IsWord End = ⊥
IsWord (Row a b) = ⊥

-- exactly n rows, each of which P holds of
abbrev pub HasRows : (Tensor → Type 0) → ℕ → Tensor → Type 0
HasRows P zero End = Unit {0}
HasRows P (suc n) (Row a rest) = P a × HasRows P n rest
HasRows P _ _ = ⊥

-- exactly these extents
abbrev pub HasShape : List ℕ → Tensor → Type 0
HasShape [] = IsWord
HasShape (n ∷ ns) = HasRows (HasShape ns) n

-- each word is below 2^64
abbrev pub HasWords : Tensor → Type 0
HasWords (Word w) = w < 2 ^ 64
HasWords End = Unit {0}
HasWords (Row a rest) = HasWords a × HasWords rest

-- the words from left to right
abbrev pub flat : Tensor → List ℕ
flat (Word w) = w ∷ []
flat End = []
flat (Row a rest) = flat a ++ flat rest

-- how many words a tensor of these extents has
abbrev pub word_count : List ℕ → ℕ
word_count [] = 1
word_count (n ∷ ns) = n * word_count ns
