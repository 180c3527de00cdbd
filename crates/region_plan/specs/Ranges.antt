-- Where the lets of terms and modules lie in the one region of scratch.
use Rattle.std.specs.Prelude.{ℕ, ◌+◌, ◌≤◌, List, [], ◌∷◌, ◌++◌}
use Rattle.term_tree.specs.declared.term.Module.{Module}
use Rattle.term_tree.specs.declared.term.OutputDecl.{OutputDecl}
use Rattle.term_tree.specs.declared.term.Term.{Term, Lit, TVar, WordOf}
use Rattle.term_tree.specs.Syntax.{index, gen, sum, guard, let_in, add, sub, mul, concat, flatten, split, transpose, trunc_l, trunc_r, pad_l, pad_r}
use Rattle.term_tree.specs.Meaning.{dims}
use Rattle.term_tree.specs.Shaped.{word_count}
use Rattle.shape_rules.specs.Meant.{input_extents}

-- so many words from a place on
pub record Range : Type 0 where
  pub at : ℕ
  pub words : ℕ

-- the range of a let's tensor
abbrev pub range_at : ℕ → List ℕ → Range
range_at k ds = record { at = k; words = word_count ds }

-- the ranges of the lets of a term in preorder, where scratch is free from k on: a let's own, then those of both its parts
-- behind it
abbrev pub ranges : Term → List ℕ → List (List ℕ) → ℕ → List Range
ranges (Lit w) s ds k = []
ranges (TVar q) s ds k = []
ranges (WordOf x) s ds k = []
ranges (index e x) s ds k = ranges e s ds k
ranges (gen n e) s ds k = ranges e s ds k
ranges (sum n e) s ds k = ranges e s ds k
ranges (guard c e) s ds k = ranges e s ds k
ranges (let_in a b) s ds k = range_at k (dims a s ds) ∷
    (ranges a s ds (k + word_count (dims a s ds)) ++ ranges b s (dims a s ds ∷ ds) (k + word_count (dims a s ds)))
ranges (add a b) s ds k = ranges a s ds k ++ ranges b s ds k
ranges (sub a b) s ds k = ranges a s ds k ++ ranges b s ds k
ranges (mul a b) s ds k = ranges a s ds k ++ ranges b s ds k
ranges (concat a b) s ds k = ranges a s ds k ++ ranges b s ds k
ranges (flatten e) s ds k = ranges e s ds k
ranges (split m e) s ds k = ranges e s ds k
ranges (transpose e) s ds k = ranges e s ds k
ranges (trunc_l n e) s ds k = ranges e s ds k
ranges (trunc_r n e) s ds k = ranges e s ds k
ranges (pad_l n e) s ds k = ranges e s ds k
ranges (pad_r n e) s ds k = ranges e s ds k

-- the ranges of the lets of all outputs in order
abbrev pub outputs_ranges : List OutputDecl → List ℕ → List (List ℕ) → List Range
outputs_ranges [] s ds = []
outputs_ranges (o ∷ os) s ds = ranges o.term s ds 0 ++ outputs_ranges os s ds

abbrev pub module_ranges : Module → List ℕ → List Range
module_ranges m s = outputs_ranges m.outputs s (input_extents m s)

-- a range lies from k to l
abbrev pub Lies : ℕ → ℕ → Range → Type 0
Lies k l x = (k ≤ x.at) × (x.at + x.words ≤ l)

-- so does each of a list
abbrev pub AllLie : ℕ → ℕ → List Range → Type 0
AllLie k l [] = Unit {0}
AllLie k l (x ∷ xs) = Lies k l x × AllLie k l xs

-- each let lies within so many words, and apart from each let inside its definition or its body
abbrev pub LiesApart : Term → List ℕ → List (List ℕ) → ℕ → ℕ → Type 0
LiesApart (Lit w) s ds k l = Unit {0}
LiesApart (TVar q) s ds k l = Unit {0}
LiesApart (WordOf x) s ds k l = Unit {0}
LiesApart (index e x) s ds k l = LiesApart e s ds k l
LiesApart (gen n e) s ds k l = LiesApart e s ds k l
LiesApart (sum n e) s ds k l = LiesApart e s ds k l
LiesApart (guard c e) s ds k l = LiesApart e s ds k l
LiesApart (let_in a b) s ds k l = (k + word_count (dims a s ds) ≤ l)
    × AllLie (k + word_count (dims a s ds)) l (ranges a s ds (k + word_count (dims a s ds)))
    × AllLie (k + word_count (dims a s ds)) l (ranges b s (dims a s ds ∷ ds) (k + word_count (dims a s ds)))
    × LiesApart a s ds (k + word_count (dims a s ds)) l × LiesApart b s (dims a s ds ∷ ds) (k + word_count (dims a s ds)) l
LiesApart (add a b) s ds k l = LiesApart a s ds k l × LiesApart b s ds k l
LiesApart (sub a b) s ds k l = LiesApart a s ds k l × LiesApart b s ds k l
LiesApart (mul a b) s ds k l = LiesApart a s ds k l × LiesApart b s ds k l
LiesApart (concat a b) s ds k l = LiesApart a s ds k l × LiesApart b s ds k l
LiesApart (flatten e) s ds k l = LiesApart e s ds k l
LiesApart (split m e) s ds k l = LiesApart e s ds k l
LiesApart (transpose e) s ds k l = LiesApart e s ds k l
LiesApart (trunc_l n e) s ds k l = LiesApart e s ds k l
LiesApart (trunc_r n e) s ds k l = LiesApart e s ds k l
LiesApart (pad_l n e) s ds k l = LiesApart e s ds k l
LiesApart (pad_r n e) s ds k l = LiesApart e s ds k l

-- so in each output
abbrev pub OutputsLieApart : List OutputDecl → List ℕ → List (List ℕ) → ℕ → Type 0
OutputsLieApart [] s ds l = Unit {0}
OutputsLieApart (o ∷ os) s ds l = LiesApart o.term s ds 0 l × OutputsLieApart os s ds l
