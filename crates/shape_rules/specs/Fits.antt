-- What a term and its tensor variables owe for the term to denote a tensor of its extents.
use Rattle.std.specs.Prelude.{◌≡◌, ℕ, ◌^◌, ◌<◌, List, [], ◌∷◌}
use Rattle.term_tree.specs.Shaped.{HasShape, HasWords}
use Rattle.term_tree.specs.Meaning.{dims, tail_of, Bound}
use Rattle.term_tree.specs.declared.term.Term.{Term, Lit, TVar, WordOf}
use Rattle.term_tree.specs.Syntax.{index, gen, sum, guard, let_in, add, sub, mul, concat, flatten, split, transpose, trunc_l, trunc_r, pad_l, pad_r}

-- each tensor variable has the extents that stand with it
abbrev pub AllShaped : List Bound → Type 0
AllShaped [] = Unit {0}
AllShaped (b ∷ t) = HasShape b.0 b.1 × AllShaped t

-- each tensor variable is one of words below 2^64
abbrev pub AllWords : List Bound → Type 0
AllWords [] = Unit {0}
AllWords (b ∷ t) = HasWords b.1 × AllWords t

-- rank 1 or more
abbrev pub HasFirst : List ℕ → Type 0
HasFirst [] = ⊥
HasFirst (n ∷ ns) = Unit {0}

-- rank 2 or more
abbrev pub HasTwo : List ℕ → Type 0
HasTwo [] = ⊥
HasTwo (n ∷ ns) = HasFirst ns

-- each literal is below 2^64
abbrev pub LiteralsFit : Term → Type 0
LiteralsFit (Lit w) = w < 2 ^ 64
LiteralsFit (TVar q) = Unit {0}
LiteralsFit (WordOf x) = Unit {0}
LiteralsFit (index e x) = LiteralsFit e
LiteralsFit (gen n e) = LiteralsFit e
LiteralsFit (sum n e) = LiteralsFit e
LiteralsFit (guard c e) = LiteralsFit e
LiteralsFit (let_in a b) = LiteralsFit a × LiteralsFit b
LiteralsFit (add a b) = LiteralsFit a × LiteralsFit b
LiteralsFit (sub a b) = LiteralsFit a × LiteralsFit b
LiteralsFit (mul a b) = LiteralsFit a × LiteralsFit b
LiteralsFit (concat a b) = LiteralsFit a × LiteralsFit b
LiteralsFit (flatten e) = LiteralsFit e
LiteralsFit (split k e) = LiteralsFit e
LiteralsFit (transpose e) = LiteralsFit e
LiteralsFit (trunc_l n e) = LiteralsFit e
LiteralsFit (trunc_r n e) = LiteralsFit e
LiteralsFit (pad_l n e) = LiteralsFit e
LiteralsFit (pad_r n e) = LiteralsFit e

-- the shape rules hold for the extents at these sizes and extents of the tensor variables
abbrev pub ShapesFit : Term → List ℕ → List (List ℕ) → Type 0
ShapesFit (Lit w) s ds = Unit {0}
ShapesFit (TVar q) s ds = Unit {0}
ShapesFit (WordOf x) s ds = Unit {0}
ShapesFit (index e x) s ds = HasFirst (dims e s ds) × ShapesFit e s ds
ShapesFit (gen n e) s ds = ShapesFit e s ds
ShapesFit (sum n e) s ds = ShapesFit e s ds
ShapesFit (guard c e) s ds = ShapesFit e s ds
ShapesFit (let_in a b) s ds = ShapesFit a s ds × ShapesFit b s (dims a s ds ∷ ds)
ShapesFit (add a b) s ds = (dims b s ds ≡ dims a s ds) × ShapesFit a s ds × ShapesFit b s ds
ShapesFit (sub a b) s ds = (dims b s ds ≡ dims a s ds) × ShapesFit a s ds × ShapesFit b s ds
ShapesFit (mul a b) s ds = ((dims a s ds ≡ []) × (dims b s ds ≡ [])) × ShapesFit a s ds × ShapesFit b s ds
ShapesFit (concat a b) s ds = (HasFirst (dims a s ds) × HasFirst (dims b s ds) × (tail_of (dims b s ds) ≡ tail_of (dims a s ds))) × ShapesFit a s ds
    × ShapesFit b s ds
ShapesFit (flatten e) s ds = HasTwo (dims e s ds) × ShapesFit e s ds
ShapesFit (split k e) s ds = HasFirst (dims e s ds) × ShapesFit e s ds
ShapesFit (transpose e) s ds = HasTwo (dims e s ds) × ShapesFit e s ds
ShapesFit (trunc_l n e) s ds = HasFirst (dims e s ds) × ShapesFit e s ds
ShapesFit (trunc_r n e) s ds = HasFirst (dims e s ds) × ShapesFit e s ds
ShapesFit (pad_l n e) s ds = HasFirst (dims e s ds) × ShapesFit e s ds
ShapesFit (pad_r n e) s ds = HasFirst (dims e s ds) × ShapesFit e s ds
