-- Well scoped terms: each size and variable is declared or bound.
use Rattle.std.specs.Prelude.{ℕ, ◌+◌, Bool, true, false, ◌&&◌, not, nat_lt, nat_le, List, [], ◌∷◌}
use Rattle.affine_index.specs.declared.cond.Cmp.{Cmp}
use Rattle.affine_index.specs.declared.cond.Cond.{Cond}
use Rattle.affine_index.specs.Condition.{all_scoped}
use Rattle.affine_index.specs.Limited.{items_scoped}
use Rattle.term_tree.specs.declared.term.Term.{Term, Lit, TVar, WordOf}
use Rattle.term_tree.specs.Syntax.{index, gen, sum, guard, let_in, add, sub, mul, concat, flatten, split, transpose, trunc_l, trunc_r, pad_l, pad_r}

abbrev pub is_empty : {A : Type 0} → List A → Bool
is_empty [] = true
is_empty (x ∷ xs) = false

-- the largest divisor and tile size
abbrev pub largest_tile : ℕ
largest_tile = 2147483647

-- there is a comparison, and each names what is there
abbrev pub cond_scoped : ℕ → ℕ → Cond → Bool
cond_scoped sizes vars c = not (is_empty c.all) && all_scoped sizes vars c.all

-- over so many sizes, index variables and tensor variables; extents and amounts hold no index variable
module _ (sizes : ℕ) where
  abbrev pub term_scoped : Term → ℕ → ℕ → Bool
  term_scoped (Lit w) vars tensors = true
  term_scoped (TVar q) vars tensors = nat_lt q tensors
  term_scoped (WordOf x) vars tensors = items_scoped sizes vars x
  term_scoped (index e x) vars tensors = term_scoped e vars tensors && items_scoped sizes vars x
  term_scoped (gen n e) vars tensors = items_scoped sizes 0 n && term_scoped e (vars + 1) tensors
  term_scoped (sum n e) vars tensors = items_scoped sizes 0 n && term_scoped e (vars + 1) tensors
  term_scoped (guard c e) vars tensors = cond_scoped sizes vars c && term_scoped e vars tensors
  term_scoped (let_in a b) vars tensors = term_scoped a vars tensors && term_scoped b vars (tensors + 1)
  term_scoped (add a b) vars tensors = term_scoped a vars tensors && term_scoped b vars tensors
  term_scoped (sub a b) vars tensors = term_scoped a vars tensors && term_scoped b vars tensors
  term_scoped (mul a b) vars tensors = term_scoped a vars tensors && term_scoped b vars tensors
  term_scoped (concat a b) vars tensors = term_scoped a vars tensors && term_scoped b vars tensors
  term_scoped (flatten e) vars tensors = term_scoped e vars tensors
  term_scoped (split k e) vars tensors = (nat_lt 0 k && nat_le k largest_tile) && term_scoped e vars tensors
  term_scoped (transpose e) vars tensors = term_scoped e vars tensors
  term_scoped (trunc_l n e) vars tensors = items_scoped sizes 0 n && term_scoped e vars tensors
  term_scoped (trunc_r n e) vars tensors = items_scoped sizes 0 n && term_scoped e vars tensors
  term_scoped (pad_l n e) vars tensors = items_scoped sizes 0 n && term_scoped e vars tensors
  term_scoped (pad_r n e) vars tensors = items_scoped sizes 0 n && term_scoped e vars tensors
