-- Where the words of a tensor go, and a tensor's words added into a buffer, each at the place that a function gives its tuple of indices.
use Rattle.std.specs.Prelude.{ℕ, suc, ◌+◌, ◌*◌, ◌%◌, ◌^◌, List, [], ◌∷◌, get_or, set, Option, Some, None}
use Rattle.term_tree.specs.Shaped.{word_count}
use Rattle.term_tree.specs.Tensors.{Tensor, Word, End, Row}

-- where the word of a tuple of indices goes, if it is not dropped
abbrev pub Placing : Type 0
Placing = List ℕ → Option ℕ

-- the row-order place of a tuple in extents, behind a place
abbrev pub placed : ℕ → List ℕ → Placing
placed at [] ix = Some at
placed at (d ∷ ds) [] = None
placed at (d ∷ ds) (i ∷ ix) = placed (at + i * word_count ds) ds ix

-- one more index in front
abbrev pub under : ℕ → Placing → Placing
under i f ix = f (i ∷ ix)

-- a word added modulo 2^64, where it has a place
abbrev pub add_at : Option ℕ → ℕ → List ℕ → List ℕ
add_at None w ws = ws
add_at (Some p) w ws = set ws p ((get_or ws p 0 + w) % 2 ^ 64)

-- from the second row on
abbrev pub later : Placing → Placing
later f [] = None
later f (i ∷ ix) = f (suc i ∷ ix)

-- each word of the tensor, added at its place
abbrev pub scatter : Tensor → Placing → List ℕ → List ℕ
scatter (Word w) f ws = add_at (f []) w ws
scatter End f ws = ws
scatter (Row a rest) f ws = scatter rest (later f) (scatter a (under 0 f) ws)
