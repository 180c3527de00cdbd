-- A fact of a term and of each of its parts, each under the shapes of the tensor variables around it.
use Rattle.std.specs.Prelude.{List, ◌∷◌}
use Rattle.term_tree.specs.declared.term.Term.{Term, Lit, TVar, WordOf}
use Rattle.term_tree.specs.Syntax.{index, gen, sum, guard, let_in, add, sub, mul, concat, flatten, split, transpose, trunc_l, trunc_r, pad_l, pad_r}
use Rattle.term_tree.specs.Goals.{extents_or_none}
use Rattle.term_tree.specs.Shape.{Extents, shape_of}

-- the fact holds of the term and of each of its parts
abbrev pub EachPart : (Term → List Extents → Type 0) → Term → List Extents → Type 0
EachPart P (Lit w) ts = P (Lit w) ts
EachPart P (TVar q) ts = P (TVar q) ts
EachPart P (WordOf x) ts = P (WordOf x) ts
EachPart P (index e x) ts = P (index e x) ts × EachPart P e ts
EachPart P (gen n e) ts = P (gen n e) ts × EachPart P e ts
EachPart P (sum n e) ts = P (sum n e) ts × EachPart P e ts
EachPart P (guard c e) ts = P (guard c e) ts × EachPart P e ts
EachPart P (let_in a b) ts = P (let_in a b) ts × EachPart P a ts × EachPart P b (extents_or_none (shape_of a ts) ∷ ts)
EachPart P (add a b) ts = P (add a b) ts × EachPart P a ts × EachPart P b ts
EachPart P (sub a b) ts = P (sub a b) ts × EachPart P a ts × EachPart P b ts
EachPart P (mul a b) ts = P (mul a b) ts × EachPart P a ts × EachPart P b ts
EachPart P (concat a b) ts = P (concat a b) ts × EachPart P a ts × EachPart P b ts
EachPart P (flatten e) ts = P (flatten e) ts × EachPart P e ts
EachPart P (split k e) ts = P (split k e) ts × EachPart P e ts
EachPart P (transpose e) ts = P (transpose e) ts × EachPart P e ts
EachPart P (trunc_l n e) ts = P (trunc_l n e) ts × EachPart P e ts
EachPart P (trunc_r n e) ts = P (trunc_r n e) ts × EachPart P e ts
EachPart P (pad_l n e) ts = P (pad_l n e) ts × EachPart P e ts
EachPart P (pad_r n e) ts = P (pad_r n e) ts × EachPart P e ts
