-- The final form of terms: what can be lowered as it stands.
use Rattle.std.specs.Prelude.{ℕ, Bool, true, false, ◌&&◌, List, [], ◌∷◌, ◌++◌, Option, Some, None}
use Rattle.affine_index.specs.declared.form.Items.{Items}
use Rattle.affine_index.specs.Form.{var_form}
use Rattle.affine_index.specs.Put.{shifted}
use Rattle.term_tree.specs.declared.term.Term.{Term, Lit, TVar, WordOf}
use Rattle.term_tree.specs.Syntax.{index, gen, sum, guard, let_in, add, sub, mul, concat, flatten, split, transpose, trunc_l, trunc_r, pad_l, pad_r}
use Rattle.term_tree.specs.Shape.{Extents, shape_of}
use Rattle.term_tree.specs.Goals.{extents_or_none}
use Rattle.final_rules.specs.declared.read.Read.{Read}

-- the read that a term is under more indices, if it is one
abbrev pub read_under : Term → List Items → Option Read
read_under (TVar q) xs = Some (record { var = q; indices = xs })
read_under (index e x) xs = read_under e (x ∷ xs)
read_under _ xs = None

-- the read with one more index, that of one more binder
abbrev pub each_shifted : List Items → List Items
each_shifted [] = []
each_shifted (x ∷ xs) = shifted 0 1 x ∷ each_shifted xs

abbrev pub one_deeper : Read → Read
one_deeper d = record { var = d.var; indices = each_shifted d.indices ++ var_form 0 ∷ [] }

abbrev pub is_read : Term → Bool
is_read (TVar q) = true
is_read (index e x) = is_read e
is_read _ = false

abbrev pub no_extents : Extents → Bool
no_extents [] = true
no_extents (n ∷ ns) = false

-- a node by the numbers of the children that lead to it, if there is one
abbrev pub Node : Type 0
Node = Option (List ℕ)

abbrev pub in_child : ℕ → Node → Node
in_child k None = None
in_child k (Some ks) = Some (k ∷ ks)

abbrev pub first_node : Node → Node → Node
first_node None b = b
first_node (Some ks) b = Some ks

-- this node, unless it is all right
abbrev pub unless : Bool → Node
unless true = None
unless false = Some []

-- the first node in preorder of a scalar position that is outside the final form
abbrev pub outside_word : Term → Node
outside_word (Lit w) = None
outside_word (WordOf x) = None
outside_word (TVar q) = None
outside_word (index e x) = unless (is_read e)
outside_word (guard c e) = in_child 0 (outside_word e)
outside_word (add a b) = first_node (in_child 0 (outside_word a)) (in_child 1 (outside_word b))
outside_word (sub a b) = first_node (in_child 0 (outside_word a)) (in_child 1 (outside_word b))
outside_word (mul a b) = first_node (in_child 0 (outside_word a)) (in_child 1 (outside_word b))
outside_word _ = Some []

abbrev pub both_words : Term → Term → Node
both_words a b = first_node (in_child 0 (outside_word a)) (in_child 1 (outside_word b))

-- the same of a store position, under the shapes of the tensor variables; an add of words is in the form as one of stores
abbrev pub outside : Term → List Extents → Node
outside (Lit w) ts = None
outside (WordOf x) ts = None
outside (TVar q) ts = None
outside (index e x) ts = unless (is_read e)
outside (gen n e) ts = in_child 0 (outside e ts)
outside (sum n e) ts = in_child 0 (outside e ts)
outside (guard c e) ts = in_child 0 (outside e ts)
outside (let_in a b) ts = first_node (in_child 0 (outside a ts)) (in_child 1 (outside b (extents_or_none (shape_of a ts) ∷ ts)))
outside (add a b) ts = first_node (in_child 0 (outside a ts)) (in_child 1 (outside b ts))
outside (sub a b) ts = first_node (unless (no_extents (extents_or_none (shape_of a ts)))) (both_words a b)
outside (mul a b) ts = both_words a b
outside (concat a b) ts = first_node (in_child 0 (outside a ts)) (in_child 1 (outside b ts))
outside (flatten e) ts = in_child 0 (outside e ts)
outside (split k e) ts = in_child 0 (outside e ts)
outside (transpose e) ts = in_child 0 (outside e ts)
outside (trunc_l n e) ts = in_child 0 (outside e ts)
outside (trunc_r n e) ts = in_child 0 (outside e ts)
outside (pad_l n e) ts = in_child 0 (outside e ts)
outside (pad_r n e) ts = in_child 0 (outside e ts)

abbrev pub is_none : Node → Bool
is_none None = true
is_none (Some ks) = false

-- whether an add is one word: it has rank 0 and is wholly scalar
abbrev pub adds_words : Term → Term → List Extents → Bool
adds_words a b ts = no_extents (extents_or_none (shape_of a ts)) && is_none (both_words a b)
