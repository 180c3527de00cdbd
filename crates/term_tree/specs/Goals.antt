-- The numbers that must not be negative at allowed sizes: extents, amounts, and what a truncation leaves.
use Rattle.std.specs.Prelude.{ℕ, List, [], ◌∷◌, ◌++◌, Ok, Err}
use Rattle.affine_index.specs.declared.form.Items.{Items}
use Rattle.affine_index.specs.Form.{literal_form}
use Rattle.affine_index.specs.Sum.{difference_of}
use Rattle.term_tree.specs.declared.term.Term.{Term, Lit, TVar, WordOf}
use Rattle.term_tree.specs.Syntax.{index, gen, sum, guard, let_in, add, sub, mul, concat, flatten, split, transpose, trunc_l, trunc_r, pad_l, pad_r}
use Rattle.term_tree.specs.Shape.{Extents, Shaped, shape_of}

-- the extents of a shape, and none where there is no shape
abbrev pub extents_or_none : Shaped → Extents
extents_or_none (Ok ns) = ns
extents_or_none (Err misfit) = []

-- what is left of the first extent after an amount is taken from it
abbrev pub rest_after : Items → Extents → List Items
rest_after a [] = []
rest_after a (n ∷ ns) = difference_of n a ∷ []

-- the goals of a term in preorder, under the shapes of its tensor variables
abbrev pub term_goals : Term → List Extents → List Items
term_goals (Lit w) ts = []
term_goals (TVar q) ts = []
term_goals (WordOf x) ts = []
term_goals (index e x) ts = term_goals e ts
term_goals (gen n e) ts = n ∷ term_goals e ts
term_goals (sum n e) ts = n ∷ term_goals e ts
term_goals (guard c e) ts = term_goals e ts
term_goals (let_in a b) ts = term_goals a ts ++ term_goals b (extents_or_none (shape_of a ts) ∷ ts)
term_goals (add a b) ts = term_goals a ts ++ term_goals b ts
term_goals (sub a b) ts = term_goals a ts ++ term_goals b ts
term_goals (mul a b) ts = term_goals a ts ++ term_goals b ts
term_goals (concat a b) ts = term_goals a ts ++ term_goals b ts
term_goals (flatten e) ts = term_goals e ts
term_goals (split k e) ts = term_goals e ts
term_goals (transpose e) ts = term_goals e ts
term_goals (trunc_l a e) ts = a ∷ (rest_after a (extents_or_none (shape_of e ts)) ++ term_goals e ts)
term_goals (trunc_r a e) ts = a ∷ (rest_after a (extents_or_none (shape_of e ts)) ++ term_goals e ts)
term_goals (pad_l a e) ts = a ∷ term_goals e ts
term_goals (pad_r a e) ts = a ∷ term_goals e ts
