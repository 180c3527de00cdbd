-- How many words count for an input or a node, and the first that is too big.
use Rattle.std.specs.Prelude.{ℕ, ◌-◌, ◌*◌, ◌^◌, max, min, nat_le, nat_lt, Bool, false, ◌||◌, List, [], ◌∷◌, map, Option, Some, None, if◌then◌else◌}
use Rattle.affine_index.specs.Condition.{cmp_form}
use Rattle.affine_index.specs.Magnitude.{magnitude}
use Rattle.affine_index.specs.declared.cond.Cmp.{Cmp}
use Rattle.affine_index.specs.declared.form.Items.{Items}
use Rattle.term_tree.specs.declared.term.InputDecl.{InputDecl}
use Rattle.term_tree.specs.declared.term.Module.{Module}
use Rattle.term_tree.specs.declared.term.OutputDecl.{OutputDecl}
use Rattle.term_tree.specs.declared.term.Term.{Term, Lit, TVar, WordOf}
use Rattle.term_tree.specs.Goals.{extents_or_none}
use Rattle.term_tree.specs.Modules.{extents_at, input_shapes}
use Rattle.term_tree.specs.Shape.{Extents, shape_of}
use Rattle.term_tree.specs.Syntax.{index, gen, sum, guard, let_in, add, sub, mul, concat, flatten, split, transpose, trunc_l, trunc_r, pad_l, pad_r}

-- the sizes, each counted as at least 1
abbrev pub at_least_one : List ℕ → List ℕ
at_least_one s = map (λ n. max n 1) s

-- whether the magnitude of a form at sizes and index variables is 2^63 or more
abbrev pub is_large : List ℕ → List ℕ → Items → Bool
is_large sizes vars x = nat_le (2 ^ 63) (magnitude sizes vars x)

-- whether one of the extents is large
abbrev pub any_large : List ℕ → List Items → Bool
any_large sizes [] = false
any_large sizes (n ∷ ns) = is_large sizes [] n || any_large sizes ns

-- whether one of the comparisons is large
abbrev pub any_large_comparison : List ℕ → List ℕ → List Cmp → Bool
any_large_comparison sizes vars [] = false
any_large_comparison sizes vars (c ∷ cs) = is_large sizes vars (cmp_form c) || any_large_comparison sizes vars cs

-- the product of extents, each counted as at least 1
abbrev pub word_product : List ℕ → ℕ
word_product [] = 1
word_product (n ∷ ns) = max n 1 * word_product ns

-- the same, ended at 2^64 - 1
abbrev pub words_of : List ℕ → ℕ
words_of ns = min (word_product ns) (2 ^ 64 - 1)

-- the words of a node of these extents, which end at 2^64 - 1; as many where an extent, or a form that stands directly in
-- the node, is large
abbrev pub words_at : List ℕ → Extents → Bool → ℕ
words_at s ns large = if large || any_large (at_least_one s) ns then 2 ^ 64 - 1 else words_of (extents_at ns s)

-- the words where they are over 2^24, else what comes later
abbrev pub too_big : ℕ → Option ℕ → Option ℕ
too_big words later = if nat_lt (2 ^ 24) words then Some words else later

-- the first of two that there is
abbrev pub first_of : Option ℕ → Option ℕ → Option ℕ
first_of (Some words) later = Some words
first_of None later = later

-- the magnitude of an index variable, by its extent; from 2^63 on the binder itself is too big
abbrev pub largest_index : List ℕ → Items → ℕ
largest_index s n = min (magnitude (at_least_one s) [] n) (2 ^ 63)

-- a node of a term with these shapes of its tensor variables
abbrev pub node : List ℕ → Term → List Extents → Bool → Option ℕ → Option ℕ
node s e ts large later = too_big (words_at s (extents_or_none (shape_of e ts)) large) later

-- the words of the first node in preorder with over 2^24 of them, at sizes s, under the magnitudes of the index variables
-- and the shapes of the tensor variables
abbrev pub first_big : Term → List ℕ → List ℕ → List Extents → Option ℕ
first_big (Lit w) s vars ts = node s (Lit w) ts false None
first_big (TVar q) s vars ts = node s (TVar q) ts false None
first_big (WordOf x) s vars ts = node s (WordOf x) ts (is_large (at_least_one s) vars x) None
first_big (index e x) s vars ts = node s (index e x) ts (is_large (at_least_one s) vars x) (first_big e s vars ts)
first_big (gen n e) s vars ts = node s (gen n e) ts (is_large (at_least_one s) [] n) (first_big e s (largest_index s n ∷ vars) ts)
first_big (sum n e) s vars ts = node s (sum n e) ts (is_large (at_least_one s) [] n) (first_big e s (largest_index s n ∷ vars) ts)
first_big (guard c e) s vars ts = node s (guard c e) ts (any_large_comparison (at_least_one s) vars c.all) (first_big e s vars ts)
first_big (let_in a b) s vars ts =
    node s (let_in a b) ts false (first_of (first_big a s vars ts) (first_big b s vars (extents_or_none (shape_of a ts) ∷ ts)))
first_big (add a b) s vars ts = node s (add a b) ts false (first_of (first_big a s vars ts) (first_big b s vars ts))
first_big (sub a b) s vars ts = node s (sub a b) ts false (first_of (first_big a s vars ts) (first_big b s vars ts))
first_big (mul a b) s vars ts = node s (mul a b) ts false (first_of (first_big a s vars ts) (first_big b s vars ts))
first_big (concat a b) s vars ts = node s (concat a b) ts false (first_of (first_big a s vars ts) (first_big b s vars ts))
first_big (flatten e) s vars ts = node s (flatten e) ts false (first_big e s vars ts)
first_big (split k e) s vars ts = node s (split k e) ts false (first_big e s vars ts)
first_big (transpose e) s vars ts = node s (transpose e) ts false (first_big e s vars ts)
first_big (trunc_l n e) s vars ts = node s (trunc_l n e) ts (is_large (at_least_one s) [] n) (first_big e s vars ts)
first_big (trunc_r n e) s vars ts = node s (trunc_r n e) ts (is_large (at_least_one s) [] n) (first_big e s vars ts)
first_big (pad_l n e) s vars ts = node s (pad_l n e) ts (is_large (at_least_one s) [] n) (first_big e s vars ts)
first_big (pad_r n e) s vars ts = node s (pad_r n e) ts (is_large (at_least_one s) [] n) (first_big e s vars ts)

-- the first of the inputs
abbrev pub first_big_input : List InputDecl → List ℕ → Option ℕ
first_big_input [] s = None
first_big_input (d ∷ ds) s = too_big (words_at s d.extents false) (first_big_input ds s)

-- the first node of the outputs in order
abbrev pub first_big_output : List OutputDecl → List ℕ → List Extents → Option ℕ
first_big_output [] s ts = None
first_big_output (o ∷ os) s ts = first_of (first_big o.term s [] ts) (first_big_output os s ts)

-- the words of the first input, and then the first node of the outputs in preorder, with over 2^24 of them
abbrev pub module_big : Module → List ℕ → Option ℕ
module_big m s = first_of (first_big_input m.inputs s) (first_big_output m.outputs s (input_shapes m))
