-- Small terms, worked by the definitions.
use Rattle.std.proofs.Common.{◌≡◌, ℕ, List, [], ◌∷◌, map, replicate, refl, ap, sym, ◌∙◌, true, false, arith}
use Rattle.std.specs.Prelude.{◌≤◌, length, ℤ, pos, negsuc, ◌+ℤ◌, ◌*ℤ◌, slice_index, Ok, Err, IsOk, Bool, nat_lt}
use Rattle.std.proofs.lemmas.Bool.{false≢true}
use Rattle.std.proofs.lemmas.List.Elements.{All-from_recursion}
use Rattle.affine_index.proofs.CountLaws.{count-Size, count-Var, count-Div, count-Mul, count-items}
use Rattle.affine_index.proofs.OrderLaws.{order-out, order-items}
use Rattle.affine_index.proofs.ReadyLaws.{out-Size, out-Var, out-Div, out-Mul}
use Rattle.affine_index.specs.Form.{literal_form, size_form, var_form}
use Rattle.affine_index.specs.Sum.{sum_of, difference_of}
use Rattle.affine_index.specs.Condition.{all_hold, at_least_zero}
use Rattle.affine_index.specs.Limited.{all_firsts, atom_scoped, items_scoped, scoped_items_step, scoped_step}
use Rattle.affine_index.specs.Value.{weighted, atom_step, items_step, atom_value, items_value, terms_value}
use Rattle.affine_index.specs.declared.form.Atom.{Atom}
use Rattle.affine_index.specs.declared.form.Atom.TheVariants.{Size, Var, Div, Mul, rolls-Size, rolls-Var}
use Rattle.affine_index.specs.declared.form.Atom.TheOpen.{Atom-F}
use Rattle.affine_index.specs.declared.form.Atom.TheFolds.{fold-roll-Atom, fold_out-Items}
use Rattle.affine_index.specs.declared.form.Item.{Item}
use Rattle.affine_index.specs.declared.form.Items.{Items}
use Rattle.affine_index.specs.declared.cond.Cmp.TheVariants.{Ge, Eq}
use Rattle.term_tree.specs.declared.term.Term.{Term, Lit, TVar, WordOf}
use Rattle.term_tree.specs.Syntax.{index, gen, sum, guard, let_in, add, sub, mul, concat, flatten, split, transpose, trunc_l, trunc_r, pad_l, pad_r}
use Rattle.term_tree.specs.Tensors.{Tensor, Word, End, from_rows}
use Rattle.term_tree.specs.Meaning.{Bound, dims, den}
use Rattle.term_tree.specs.Shaped.{flat, word_count, HasShape}
use Rattle.term_tree.specs.Shape.{Extents, Shaped, shape_of}
use Rattle.term_tree.specs.declared.cause.Cause.{Cause}
use Rattle.term_tree.specs.declared.cause.Cause.TheVariants.{RankMismatch, ShapesDiffer, RankTooLarge, CoefficientTooLarge, IndexTooLong}
use Rattle.term_tree.specs.Counts.{node_count, node_depth}
use Rattle.term_tree.specs.Goals.{term_goals}
use Rattle.term_tree.specs.Scope.{term_scoped}
use Rattle.term_tree.specs.declared.term.Module.{Module}
use Rattle.term_tree.specs.Modules.{Allowed, AreInputs, module_den, extent_goals, IsSound}

module _ (s v : List ℕ) where
  weighted_map : (ts : List (Item Atom)) → weighted (map (λ t. record { atom = atom_value s v t.atom; coefficient = t.coefficient }) ts) ≡ terms_value s v ts
  weighted_map [] = refl
  weighted_map (t ∷ ts) = ap (λ z. (t.coefficient *ℤ atom_value s v t.atom) +ℤ z) (weighted_map ts)

  form_value : (i : Items) → items_value s v i ≡ terms_value s v i.terms +ℤ i.constant
  form_value i = fold_out-Items ℤ ℤ (atom_step s v) (items_step s v) i ∙ ap (λ z. z +ℤ i.constant) (weighted_map i.terms)

  size_value : (k : ℕ) → atom_value s v (Size k) ≡ pos (slice_index s k)
  size_value k = ap (atom_value s v) (sym (rolls-Size k)) ∙ fold-roll-Atom ℤ ℤ (atom_step s v) (items_step s v) (Atom-F.Size k)

  var_value : (k : ℕ) → atom_value s v (Var k) ≡ pos (slice_index v k)
  var_value k = ap (atom_value s v) (sym (rolls-Var k)) ∙ fold-roll-Atom ℤ ℤ (atom_step s v) (items_step s v) (Atom-F.Var k)

ruleset row_laws = (form_value, size_value, var_value)

module _ (s v : ℕ) where
  size_scoped : (k : ℕ) → atom_scoped s v (Size k) ≡ nat_lt k s
  size_scoped k = ap (atom_scoped s v) (sym (rolls-Size k)) ∙ fold-roll-Atom Bool Bool (scoped_step s v) (scoped_items_step s v) (Atom-F.Size k)

  var_scoped : (k : ℕ) → atom_scoped s v (Var k) ≡ nat_lt k v
  var_scoped k = ap (atom_scoped s v) (sym (rolls-Var k)) ∙ fold-roll-Atom Bool Bool (scoped_step s v) (scoped_items_step s v) (Atom-F.Var k)

  form_scoped : (i : Items) → items_scoped s v i ≡ all_firsts (map (λ t. record { atom = atom_scoped s v t.atom; coefficient = t.coefficient }) i.terms)
  form_scoped i = fold_out-Items Bool Bool (scoped_step s v) (scoped_items_step s v) i

ruleset scope_laws = (form_scoped, size_scoped, var_scoped)

ruleset form_laws = (order-items, order-out, out-Size, out-Var, out-Div, out-Mul, count-Size, count-Var, count-Div, count-Mul, count-items)

-- a list of words with its extent
abbrev line : List ℕ → Tensor
line ws = from_rows (map (λ w. Word w) ws)

-- A[i] under binders that leave i at variable v
abbrev entry : ℕ → ℕ → Term
entry q v = index (TVar q) (var_form v)

-- gen i < N. A[i] * 2
abbrev scaling : Term
scaling = gen (size_form 0) (mul (entry 0 0) (Lit 2))

scaled_three : flat (den scaling (3 ∷ []) [] ((3 ∷ [], line (1 ∷ 2 ∷ 3 ∷ [])) ∷ [])) ≡ 2 ∷ 4 ∷ 6 ∷ []
scaled_three = simp row_laws

scaled_none : flat (den scaling (0 ∷ []) [] ((0 ∷ [], End) ∷ [])) ≡ []
scaled_none = simp row_laws

-- rows of words
abbrev table : List (List ℕ) → Tensor
table rows = from_rows (map line rows)

-- gen i < N. sum j < M. A[i][j] * x[j]
abbrev product_with_vector : Term
product_with_vector = gen (size_form 0) (sum (size_form 1) (mul (index (entry 0 1) (var_form 0)) (entry 1 0)))

empty_sum : flat (den product_with_vector (2 ∷ 0 ∷ []) [] ((2 ∷ 0 ∷ [], table ([] ∷ [] ∷ [])) ∷ (0 ∷ [], End) ∷ [])) ≡ 0 ∷ 0 ∷ []
empty_sum = simp row_laws

summed : flat (den product_with_vector (2 ∷ 2 ∷ []) [] ((2 ∷ 2 ∷ [], table ((1 ∷ 2 ∷ []) ∷ (3 ∷ 4 ∷ []) ∷ [])) ∷ (2 ∷ [], line (10 ∷ 1 ∷ [])) ∷ [])) ≡ 12 ∷ 34
    ∷ []
summed = simp row_laws

-- a sum over no index of rows of three words is three zeros
sum_of_rows : den (sum (size_form 0) (TVar 0)) (0 ∷ []) [] ((3 ∷ [], line (1 ∷ 2 ∷ 3 ∷ [])) ∷ []) ≡ line (0 ∷ 0 ∷ 0 ∷ [])
sum_of_rows = simp row_laws

-- gen i < N. A[i] + 1
wraps : flat (den (gen (size_form 0) (add (entry 0 0) (Lit 1))) (2 ∷ []) [] ((2 ∷ [], line (18446744073709551615 ∷ 5 ∷ [])) ∷ [])) ≡ 0 ∷ 6 ∷ []
wraps = simp row_laws

below_zero : den (sub (Lit 1) (Lit 2)) [] [] [] ≡ Word 18446744073709551615
below_zero = refl

product_wraps : den (mul (Lit 18446744073709551615) (Lit 18446744073709551615)) [] [] [] ≡ Word 1
product_wraps = refl

-- (gen i < N. A[i])[N]
past_the_end : den (index (gen (size_form 0) (entry 0 0)) (size_form 0)) (1 ∷ []) [] ((1 ∷ [], line (7 ∷ [])) ∷ []) ≡ Word 0
past_the_end = simp row_laws

-- i - 1
abbrev before : Items
before = record { terms = record { atom = Var 0; coefficient = pos 1 } ∷ []; constant = negsuc 0 }

-- gen i < N. A[i - 1]
before_the_start : flat (den (gen (size_form 0) (index (TVar 0) before)) (3 ∷ []) [] ((3 ∷ [], line (7 ∷ 8 ∷ 9 ∷ [])) ∷ [])) ≡ 0 ∷ 7 ∷ 8 ∷ []
before_the_start = simp row_laws

-- a row past the end of a table is a row of zeros
zero_row : den (index (TVar 0) (size_form 0)) (2 ∷ []) [] ((2 ∷ 3 ∷ [], table ((1 ∷ 2 ∷ 3 ∷ []) ∷ (4 ∷ 5 ∷ 6 ∷ []) ∷ [])) ∷ []) ≡ line (0 ∷ 0 ∷ 0 ∷ [])
zero_row = simp row_laws

-- gen i < 2. word(i - 1)
minus_one : flat (den (gen (literal_form (pos 2)) (WordOf before)) [] [] []) ≡ 18446744073709551615 ∷ 0 ∷ []
minus_one = simp row_laws

-- transpose(gen i < N. gen j < 5. A[i][j])
abbrev columns_first : Term
columns_first = transpose (gen (size_form 0) (gen (literal_form (pos 5)) (index (entry 0 1) (var_form 0))))

no_columns : den columns_first (0 ∷ []) [] ((0 ∷ 5 ∷ [], End) ∷ []) ≡ table ([] ∷ [] ∷ [] ∷ [] ∷ [] ∷ [])
no_columns = simp row_laws

two_columns : flat (den columns_first (2 ∷ []) [] ((2 ∷ 5 ∷ [], table ((1 ∷ 2 ∷ 3 ∷ 4 ∷ 5 ∷ []) ∷ (6 ∷ 7 ∷ 8 ∷ 9 ∷ 10 ∷ []) ∷ [])) ∷ []))
    ≡ 1 ∷ 6 ∷ 2 ∷ 7 ∷ 3 ∷ 8 ∷ 4 ∷ 9 ∷ 5 ∷ 10 ∷ []
two_columns = simp row_laws

-- gen i < 2. let t = guard i == 0. A[0] in t
guarded_let : flat (den (gen (literal_form (pos 2)) (let_in (guard (record { all = Eq (var_form 0) ∷ [] }) (index (TVar 0) (literal_form (pos 0)))) (TVar 0)))
    [] [] ((1 ∷ [], line (7 ∷ [])) ∷ []))
    ≡ 7 ∷ 0 ∷ []
guarded_let = simp row_laws

-- gen i < N. let t = A[0] * 2 in t + A[i]: in the definition A is variable 0, in the body variable 1
let_before_input : flat (den (gen (size_form 0) (let_in (mul (index (TVar 0) (literal_form (pos 0))) (Lit 2)) (add (TVar 0) (entry 1 0)))) (3 ∷ []) []
    ((3 ∷ [], line (1 ∷ 2 ∷ 3 ∷ [])) ∷ []))
    ≡ 3 ∷ 4 ∷ 5 ∷ []
let_before_input = simp row_laws

-- let t = 1 in let u = 2 in t - u
inner_let_first : den (let_in (Lit 1) (let_in (Lit 2) (sub (TVar 1) (TVar 0)))) [] [] [] ≡ Word 18446744073709551615
inner_let_first = refl

-- concat(flatten(A), C)
joined_rows : flat (den (concat (flatten (gen (size_form 0) (gen (size_form 1) (index (entry 0 1) (var_form 0))))) (gen (size_form 2) (entry 1 0)))
    (2 ∷ 2 ∷ 1 ∷ []) []
    ((2 ∷ 2 ∷ [], table ((1 ∷ 2 ∷ []) ∷ (3 ∷ 4 ∷ []) ∷ [])) ∷ (1 ∷ [], line (9 ∷ [])) ∷ [])) ≡ 1 ∷ 2 ∷ 3 ∷ 4 ∷ 9 ∷ []
joined_rows = simp row_laws

abbrev four : List Bound
four = (4 ∷ [], line (1 ∷ 2 ∷ 3 ∷ 4 ∷ [])) ∷ []

without_last : den (trunc_r (literal_form (pos 2)) (gen (size_form 0) (entry 0 0))) (4 ∷ []) [] four ≡ line (1 ∷ 2 ∷ [])
without_last = simp row_laws

without_first : den (trunc_l (literal_form (pos 1)) (TVar 0)) [] [] four ≡ line (2 ∷ 3 ∷ 4 ∷ [])
without_first = simp row_laws

nothing_left : den (trunc_l (literal_form (pos 5)) (TVar 0)) [] [] four ≡ den (trunc_r (literal_form (pos 5)) (TVar 0)) [] [] four
nothing_left = simp row_laws

none_left : den (trunc_r (literal_form (pos 5)) (TVar 0)) [] [] four ≡ End
none_left = simp row_laws

zeros_before : den (pad_l (literal_form (pos 2)) (TVar 0)) [] [] four ≡ line (0 ∷ 0 ∷ 1 ∷ 2 ∷ 3 ∷ 4 ∷ [])
zeros_before = simp row_laws

zeros_after : den (pad_r (literal_form (pos 1)) (TVar 0)) [] [] ((1 ∷ 2 ∷ [], table ((8 ∷ 9 ∷ []) ∷ [])) ∷ []) ≡ table ((8 ∷ 9 ∷ []) ∷ (0 ∷ 0 ∷ []) ∷ [])
zeros_after = simp row_laws

filled_up : den (split 4 (TVar 0)) [] [] ((6 ∷ [], line (1 ∷ 2 ∷ 3 ∷ 4 ∷ 5 ∷ 6 ∷ [])) ∷ []) ≡ table ((1 ∷ 2 ∷ 3 ∷ 4 ∷ []) ∷ (5 ∷ 6 ∷ 0 ∷ 0 ∷ []) ∷ [])
filled_up = refl

one_chunk : den (split 4 (TVar 0)) [] [] four ≡ table ((1 ∷ 2 ∷ 3 ∷ 4 ∷ []) ∷ [])
one_chunk = refl

no_chunk : den (split 4 (TVar 0)) [] [] ((0 ∷ [], End) ∷ []) ≡ End
no_chunk = refl

-- i + j
abbrev both : Items
both = record { terms = record { atom = Var 1; coefficient = pos 1 } ∷ record { atom = Var 0; coefficient = pos 1 } ∷ []; constant = pos 0 }

-- N - K + 1
abbrev windows : Items
windows = record { terms = record { atom = Size 0; coefficient = pos 1 } ∷ record { atom = Size 1; coefficient = negsuc 0 } ∷ []; constant = pos 1 }

-- gen i < N - K + 1. sum j < K. A[i + j] * W[j]
convolved : flat (den (gen windows (sum (size_form 1) (mul (index (TVar 0) both) (entry 1 0)))) (5 ∷ 2 ∷ []) []
    ((5 ∷ [], line (1 ∷ 2 ∷ 3 ∷ 4 ∷ 5 ∷ [])) ∷ (2 ∷ [], line (10 ∷ 1 ∷ [])) ∷ []))
    ≡ 12 ∷ 23 ∷ 34 ∷ 45 ∷ []
convolved = simp row_laws

-- a negative extent counts as 0
no_window : den (gen windows (Lit 1)) (1 ∷ 4 ∷ []) [] [] ≡ End
no_window = simp row_laws

tile_extents : dims (split 4 (TVar 0)) [] ((6 ∷ 3 ∷ []) ∷ []) ≡ 2 ∷ 4 ∷ 3 ∷ []
tile_extents = refl

no_tile : dims (split 4 (TVar 0)) [] ((0 ∷ 3 ∷ []) ∷ []) ≡ 0 ∷ 4 ∷ 3 ∷ []
no_tile = refl

let_extents : dims (let_in (transpose (TVar 1)) (concat (TVar 0) (TVar 1))) [] ((1 ∷ 2 ∷ 3 ∷ []) ∷ (2 ∷ 5 ∷ 3 ∷ []) ∷ []) ≡ 6 ∷ 2 ∷ 3 ∷ []
let_extents = refl

-- the shapes of one vector of N words, and of A and C
abbrev vector : List Extents
vector = (size_form 0 ∷ []) ∷ []

abbrev at_path : List ℕ → Cause → Shaped
at_path steps cause = Err (record { steps = steps; cause = cause })

abbrev eight : Extents
eight = literal_form (pos 1) ∷ literal_form (pos 1) ∷ literal_form (pos 1) ∷ literal_form (pos 1) ∷ literal_form (pos 1) ∷ literal_form (pos 1)
    ∷ literal_form (pos 1) ∷ literal_form (pos 1) ∷ []

-- an input of nine extents, also where a row is taken of it
nine_extents : shape_of (TVar 0) ((literal_form (pos 1) ∷ eight) ∷ []) ≡ at_path [] RankTooLarge
nine_extents = refl

row_of_nine : shape_of (index (TVar 0) (literal_form (pos 0))) ((literal_form (pos 1) ∷ eight) ∷ []) ≡ at_path (0 ∷ []) RankTooLarge
row_of_nine = refl

flatten_vector : shape_of (flatten (TVar 0)) vector ≡ at_path [] RankMismatch
flatten_vector = simp form_laws

below_gen : shape_of (gen (literal_form (pos 2)) (add (Lit 1) (flatten (TVar 0)))) vector ≡ at_path (0 ∷ 1 ∷ []) RankMismatch
below_gen = simp form_laws

abbrev four_and_five : List Extents
four_and_five = (literal_form (pos 4) ∷ []) ∷ (literal_form (pos 5) ∷ []) ∷ []

different : shape_of (add (TVar 0) (TVar 1)) four_and_five ≡ at_path [] ShapesDiffer
different = simp form_laws

-- children in order, before the node itself
child_first : shape_of (flatten (add (TVar 0) (TVar 1))) four_and_five ≡ at_path (0 ∷ []) ShapesDiffer
child_first = simp form_laws

left_first : shape_of (concat (flatten (TVar 0)) (add (TVar 0) (TVar 1))) four_and_five ≡ at_path (0 ∷ []) RankMismatch
left_first = simp form_laws

-- the ranks are compared before the extents
ranks_first : shape_of (add (TVar 0) (gen (literal_form (pos 5)) (TVar 0))) four_and_five ≡ at_path [] RankMismatch
ranks_first = simp form_laws

same_extents : shape_of (sub (TVar 0) (TVar 0)) vector ≡ Ok (size_form 0 ∷ [])
same_extents = simp form_laws

rank_nine : shape_of (split 1 (TVar 0)) (eight ∷ []) ≡ at_path [] RankTooLarge
rank_nine = simp form_laws

gen_rank_nine : shape_of (gen (literal_form (pos 1)) (TVar 0)) (eight ∷ []) ≡ at_path [] RankTooLarge
gen_rank_nine = simp form_laws

rank_eight : shape_of (flatten (TVar 0)) (eight ∷ []) ≡ Ok
    (literal_form (pos 1) ∷ literal_form (pos 1) ∷ literal_form (pos 1) ∷ literal_form (pos 1) ∷ literal_form (pos 1) ∷ literal_form (pos 1)
    ∷ literal_form (pos 1) ∷ [])
rank_eight = simp form_laws

-- N + 3
abbrev three_more : Items
three_more = record { terms = record { atom = Size 0; coefficient = pos 1 } ∷ []; constant = pos 3 }

-- (N + 3)/4 chunks of 4
chunked : shape_of (split 4 (TVar 0)) vector ≡ Ok
    (record { terms = record { atom = Div three_more 4; coefficient = pos 1 } ∷ []; constant = pos 0 } ∷ literal_form (pos 4) ∷ [])
chunked = simp form_laws

-- let t = A in flatten(t), and let t = flatten(A) in 1
in_the_body : shape_of (let_in (TVar 0) (gen (literal_form (pos 2)) (flatten (TVar 0)))) vector ≡ at_path (1 ∷ 0 ∷ []) RankMismatch
in_the_body = simp form_laws

in_the_definition : shape_of (let_in (flatten (TVar 0)) (Lit 1)) vector ≡ at_path (0 ∷ []) RankMismatch
in_the_definition = simp form_laws

-- the tensor of a let stands before the inputs in its body
let_shape : shape_of (let_in (gen (literal_form (pos 5)) (Lit 1)) (gen (size_form 1) (TVar 0))) vector ≡ Ok (size_form 1 ∷ literal_form (pos 5) ∷ [])
let_shape = simp form_laws

product_of_words : shape_of (mul (TVar 0) (Lit 2)) vector ≡ at_path [] RankMismatch
product_of_words = simp form_laws

abbrev grid : List Extents
grid = (size_form 0 ∷ size_form 1 ∷ literal_form (pos 3) ∷ []) ∷ (size_form 1 ∷ []) ∷ []

turned : shape_of (transpose (TVar 0)) grid ≡ Ok (size_form 1 ∷ size_form 0 ∷ literal_form (pos 3) ∷ [])
turned = simp form_laws

-- N * M
flattened : shape_of (flatten (TVar 0)) grid ≡ Ok
    (record { terms = record { atom = Mul (Size 0 ∷ Size 1 ∷ []); coefficient = pos 1 } ∷ []; constant = pos 0 } ∷ literal_form (pos 3) ∷ [])
flattened = simp form_laws

-- N - 2 and N + M
shortened : shape_of (trunc_l (literal_form (pos 2)) (TVar 0)) vector ≡ Ok
    (record { terms = record { atom = Size 0; coefficient = pos 1 } ∷ []; constant = negsuc 1 } ∷ [])
shortened = simp form_laws

padded : shape_of (pad_r (size_form 1) (TVar 0)) vector ≡ Ok
    (record { terms = record { atom = Size 0; coefficient = pos 1 } ∷ record { atom = Size 1; coefficient = pos 1 } ∷ []; constant = pos 0 } ∷ [])
padded = simp form_laws

-- 2^40 words, and one more
large : shape_of (pad_l (literal_form (pos 1)) (TVar 0)) ((literal_form (pos 1099511627775) ∷ []) ∷ []) ≡ Ok (literal_form (pos 1099511627776) ∷ [])
large = simp form_laws

too_large : shape_of (pad_l (literal_form (pos 1)) (TVar 0)) ((literal_form (pos 1099511627776) ∷ []) ∷ []) ≡ at_path [] CoefficientTooLarge
too_large = simp form_laws

-- truncr(a, gen i < N. 1): a, N - a, N
trunc_goals : term_goals (trunc_r (size_form 1) (gen (size_form 0) (Lit 1))) []
    ≡ size_form 1 ∷ record { terms = record { atom = Size 0; coefficient = pos 1 } ∷ record { atom = Size 1; coefficient = negsuc 0 } ∷ []; constant = pos 0 }
    ∷ size_form 0 ∷ []
trunc_goals = simp form_laws

-- let t = gen i < N. 1 in truncl(2, t): those of the definition, then those of the body, where t has N rows
let_goals : term_goals (let_in (gen (size_form 0) (Lit 1)) (trunc_l (literal_form (pos 2)) (TVar 0))) []
    ≡ size_form 0 ∷ literal_form (pos 2) ∷ record { terms = record { atom = Size 0; coefficient = pos 1 } ∷ []; constant = negsuc 1 } ∷ []
let_goals = simp form_laws

pad_goals : term_goals (pad_l (size_form 1) (sum (size_form 0) (gen (size_form 2) (Lit 1)))) [] ≡ size_form 1 ∷ size_form 0 ∷ size_form 2 ∷ []
pad_goals = refl

-- a product of 127 factors and another atom are 128 atoms, one more factor is too many
abbrev power : ℕ → Items
power n = record { terms = record { atom = Mul (replicate n (Size 0)); coefficient = pos 1 } ∷ []; constant = pos 0 }

long : shape_of (pad_l (size_form 0) (TVar 0)) ((power 127 ∷ []) ∷ []) ≡ Ok (sum_of (power 127) (size_form 0) ∷ [])
long = simp form_laws

too_long : shape_of (pad_l (size_form 0) (TVar 0)) ((power 128 ∷ []) ∷ []) ≡ at_path [] IndexTooLong
too_long = simp form_laws

-- N - 1
abbrev less_one : Items
less_one = record { terms = record { atom = Size 0; coefficient = pos 1 } ∷ []; constant = negsuc 0 }

-- size N in 0..8; example N = 3; input A[N]; output B = gen i < N. A[i] * word(i + 1); output C = sum i < N. word(i - 1)
abbrev two_outputs : Module
two_outputs = record {
  version = 2;
  sizes = record { name = []; low = 0; high = 8 } ∷ [];
  assumes = [];
  example = 3 ∷ [];
  inputs = record { name = []; extents = size_form 0 ∷ [] } ∷ [];
  outputs = record {
    name = [];
    term =
        gen (size_form 0) (mul (entry 0 0) (WordOf (record { terms = record { atom = Var 0; coefficient = pos 1 } ∷ []; constant = pos 1 })));
  }
      ∷ record { name = []; term = sum (size_form 0) (WordOf before) } ∷ [];
}

outputs_mean : map flat (module_den two_outputs (3 ∷ []) (line (5 ∷ 6 ∷ 7 ∷ []) ∷ [])) ≡ (5 ∷ 12 ∷ 21 ∷ []) ∷ (0 ∷ []) ∷ []
outputs_mean = simp row_laws

outputs_of_one : map flat (module_den two_outputs (1 ∷ []) (line (5 ∷ []) ∷ [])) ≡ (5 ∷ []) ∷ (18446744073709551615 ∷ []) ∷ []
outputs_of_one = simp row_laws

outputs_have_goals : extent_goals two_outputs ≡ size_form 0 ∷ size_form 0 ∷ size_form 0 ∷ []
outputs_have_goals = refl

greatest_allowed : Allowed two_outputs (8 ∷ [])
greatest_allowed = record { within = (omega arith, omega arith, tt); assumed = refl }

none_above : Allowed two_outputs (9 ∷ []) → ⊥
none_above a = absurd (omega (arith, a.within.1))

three_words : AreInputs two_outputs.inputs (3 ∷ []) (line (5 ∷ 6 ∷ 7 ∷ []) ∷ [])
three_words = simp row_laws ((tt, (tt, (tt, tt))), (omega arith, (omega arith, (omega arith, tt))), tt)

not_negative : (s : List ℕ) → at_least_zero (items_value s [] (size_form 0)) ≡ true
not_negative s = simp row_laws

sound : IsSound two_outputs
sound = record {
  scoped = simp scope_laws;
  ranks = All-from_recursion (λ d. length d.extents ≤ 8) two_outputs.inputs (omega arith, tt);
  shaped = All-from_recursion (λ o. IsOk (shape_of o.term vector)) two_outputs.outputs (simp form_laws refl, (refl, tt));
  positive = λ s a. All-from_recursion (λ n. at_least_zero (items_value s [] n) ≡ true) (extent_goals two_outputs)
      (not_negative s, (not_negative s, (not_negative s, tt)));
}

-- output B = gen i < N - 1. 1, where N may be 0
abbrev unsound : Module
unsound = record {
  version = 1;
  sizes = record { name = []; low = 0; high = 8 } ∷ [];
  assumes = [];
  example = 3 ∷ [];
  inputs = [];
  outputs =
      record { name = []; term = gen less_one (Lit 1) } ∷ [];
}

negative : at_least_zero (items_value (0 ∷ []) [] less_one) ≡ false
negative = simp row_laws

not_sound : IsSound unsound → ⊥
not_sound m =
    let positive : at_least_zero (items_value (0 ∷ []) [] less_one) ≡ true =
    m.positive (0 ∷ []) (record { within = (omega arith, omega arith, tt); assumed = refl }) 0 less_one (omega arith) in
    absurd (false≢true (sym negative ∙ positive))

-- a variable stands in an index and not in an extent
scoped_index : term_scoped 1 (gen (size_form 0) (index (TVar 0) (var_form 0))) 0 1 ≡ true
scoped_index = simp scope_laws

no_such_variable : term_scoped 1 (gen (size_form 0) (index (TVar 0) (var_form 1))) 0 1 ≡ false
no_such_variable = simp scope_laws

variable_in_extent : term_scoped 1 (gen (size_form 0) (gen (var_form 0) (Lit 1))) 0 1 ≡ false
variable_in_extent = simp scope_laws

-- a let is in scope in its body alone
let_in_definition : term_scoped 1 (let_in (TVar 0) (Lit 1)) 0 0 ≡ false
let_in_definition = refl

let_in_body : term_scoped 1 (let_in (Lit 1) (TVar 0)) 0 0 ≡ true
let_in_body = refl

no_comparison : term_scoped 1 (guard (record { all = [] }) (Lit 1)) 0 0 ≡ false
no_comparison = refl

-- N * M + K words, one behind another
concatenated : shape_of (concat (flatten (TVar 0)) (TVar 1)) ((size_form 0 ∷ size_form 1 ∷ []) ∷ (size_form 2 ∷ []) ∷ [])
    ≡ Ok (record {
      terms = record { atom = Size 2; coefficient = pos 1 } ∷ record { atom = Mul (Size 0 ∷ Size 1 ∷ []); coefficient = pos 1 } ∷ [];
      constant =
          pos 0;
    } ∷ [])
concatenated = simp form_laws

unequal_rows : shape_of (concat (TVar 0) (TVar 1)) ((size_form 0 ∷ size_form 1 ∷ []) ∷ (size_form 2 ∷ size_form 0 ∷ []) ∷ []) ≡ at_path [] ShapesDiffer
unequal_rows = simp form_laws

unequal_ranks : shape_of (concat (TVar 0) (TVar 1)) ((size_form 0 ∷ size_form 1 ∷ []) ∷ (size_form 2 ∷ []) ∷ []) ≡ at_path [] RankMismatch
unequal_ranks = simp form_laws

row_of_word : shape_of (index (Lit 1) (literal_form (pos 0))) [] ≡ at_path [] RankMismatch
row_of_word = refl

-- two rows of none is another tensor than none of two
two_of_none : HasShape (2 ∷ 0 ∷ []) (table ([] ∷ [] ∷ []))
two_of_none = (tt, (tt, tt))

none_of_two : HasShape (0 ∷ 2 ∷ []) End
none_of_two = tt

not_none_of_two : HasShape (0 ∷ 2 ∷ []) (table ([] ∷ [] ∷ [])) → ⊥
not_none_of_two h = h

counted : word_count (2 ∷ 0 ∷ 5 ∷ []) ≡ 0
counted = refl

scaling_nodes : node_count scaling ≡ 5
scaling_nodes = refl

scaling_depth : node_depth scaling ≡ 3
scaling_depth = refl

-- let s = gen i < N. gen j < N. sum d < D. Q[i][d] * transpose(K)[d][j] in gen i < N. gen e < D. sum j < N. s[i][j] * V[j][e]
abbrev scores : Term
scores = let_in (gen (size_form 0)
    (gen (size_form 0) (sum (size_form 1) (mul (index (entry 0 2) (var_form 0)) (index (index (transpose (TVar 1)) (var_form 0)) (var_form 1))))))
    (gen (size_form 0) (gen (size_form 1) (sum (size_form 0) (mul (index (entry 0 2) (var_form 0)) (index (entry 3 0) (var_form 1))))))

scored : flat (den scores (2 ∷ 2 ∷ []) [] ((2 ∷ 2 ∷ [], table ((1 ∷ 2 ∷ []) ∷ (3 ∷ 4 ∷ []) ∷ []))
    ∷ (2 ∷ 2 ∷ [], table ((1 ∷ 0 ∷ []) ∷ (0 ∷ 1 ∷ []) ∷ [])) ∷ (2 ∷ 2 ∷ [], table ((1 ∷ 2 ∷ []) ∷ (3 ∷ 4 ∷ []) ∷ [])) ∷ [])) ≡ 7 ∷ 10 ∷ 15 ∷ 22 ∷ []
scored = simp row_laws

-- a coefficient is refused before a length
coefficient_first : shape_of (pad_l (literal_form (pos 1)) (TVar 0))
    ((record { terms = record { atom = Mul (replicate 129 (Size 0)); coefficient = pos 1 } ∷ []; constant = pos 1099511627777 } ∷ []) ∷ []) ≡ at_path (0 ∷ [])
    CoefficientTooLarge
coefficient_first = refl

sum_shape : shape_of (sum (size_form 1) (guard (record { all = Ge (var_form 0) ∷ [] }) (TVar 0))) vector ≡ Ok (size_form 0 ∷ [])
sum_shape = simp form_laws

row_shape : shape_of (index (TVar 0) (var_form 0)) grid ≡ Ok (size_form 1 ∷ literal_form (pos 3) ∷ [])
row_shape = simp form_laws

-- both operands in order, and through a guard, a row, a transposition and tiles
operand_goals : term_goals (concat (mul (gen (size_form 0) (Lit 1)) (sum (size_form 1) (Lit 2)))
    (split 2 (flatten (transpose (guard (record { all = Ge (var_form 0) ∷ [] }) (index (gen (size_form 2) (TVar 0)) (var_form 0))))))) vector
    ≡ size_form 0 ∷ size_form 1 ∷ size_form 2 ∷ []
operand_goals = refl

-- the extents 2, 5, 3 through each operator
abbrev boxes : List (List ℕ)
boxes = (2 ∷ 5 ∷ 3 ∷ []) ∷ []

shortened_extents : dims (trunc_r (literal_form (pos 1)) (trunc_l (literal_form (pos 1)) (TVar 0))) [] boxes ≡ 0 ∷ 5 ∷ 3 ∷ []
shortened_extents = simp row_laws

no_extent_below_zero : dims (trunc_l (literal_form (pos 3)) (TVar 0)) [] boxes ≡ 0 ∷ 5 ∷ 3 ∷ []
no_extent_below_zero = simp row_laws

padded_extents : dims (pad_l (literal_form (pos 4)) (pad_r (size_form 0) (index (TVar 0) (var_form 0)))) (7 ∷ []) boxes ≡ 16 ∷ 3 ∷ []
padded_extents = simp row_laws

flat_extents : dims (flatten (sum (size_form 0) (gen (literal_form (pos 4)) (TVar 0)))) (7 ∷ []) boxes ≡ 8 ∷ 5 ∷ 3 ∷ []
flat_extents = simp row_laws

-- tiles of 1 to 2147483647
no_tile_of_none : term_scoped 0 (split 0 (Lit 1)) 0 0 ≡ false
no_tile_of_none = refl

largest_tile_of_all : term_scoped 0 (split 2147483647 (Lit 1)) 0 0 ≡ true
largest_tile_of_all = refl

no_larger_tile : term_scoped 0 (split 2147483648 (Lit 1)) 0 0 ≡ false
no_larger_tile = refl

-- size N in 1..1000; size K in 1..64; assume N >= K; example N = 5, K = 2; input A[N]; input W[K]; output B = gen i < N - K + 1. sum j < K. A[i + j] * W[j]
abbrev convolution : Module
convolution = record {
  version = 1;
  sizes = record { name = []; low = 1; high = 1000 } ∷ record { name = []; low = 1; high = 64 } ∷ [];
  assumes = Ge (difference_of (size_form 0) (size_form 1)) ∷ [];
  example = 5 ∷ 2 ∷ [];
  inputs = record { name = []; extents = size_form 0 ∷ [] } ∷ record { name = []; extents = size_form 1 ∷ [] } ∷ [];
  outputs = record { name = []; term = gen windows (sum (size_form 1) (mul (index (TVar 0) both) (entry 1 0))) } ∷ [];
}

module_convolved : map flat (module_den convolution (5 ∷ 2 ∷ []) (line (1 ∷ 2 ∷ 3 ∷ 4 ∷ 5 ∷ []) ∷ line (10 ∷ 1 ∷ []) ∷ [])) ≡ (12 ∷ 23 ∷ 34 ∷ 45 ∷ []) ∷ []
module_convolved = simp row_laws

convolution_goals : extent_goals convolution ≡ size_form 0 ∷ size_form 1 ∷ windows ∷ size_form 1 ∷ []
convolution_goals = refl

example_assumed : all_hold (5 ∷ 2 ∷ []) [] convolution.assumes ≡ true
example_assumed = simp (form_laws, row_laws)

not_assumed : all_hold (1 ∷ 2 ∷ []) [] convolution.assumes ≡ false
not_assumed = simp (form_laws, row_laws)

example_allowed : Allowed convolution (5 ∷ 2 ∷ [])
example_allowed = record { within = (omega arith, omega arith, (omega arith, omega arith, tt)); assumed = example_assumed }

against_assume : Allowed convolution (1 ∷ 2 ∷ []) → ⊥
against_assume a = absurd (false≢true (sym not_assumed ∙ a.assumed))

below_bound : Allowed convolution (0 ∷ 0 ∷ []) → ⊥
below_bound a = absurd (omega (arith, a.within.0))

one_size : Allowed convolution (5 ∷ []) → ⊥
one_size a = a.within.2
