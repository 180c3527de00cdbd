-- Whether a term is well scoped, as a fold.
use Rattle.std.specs.Prelude.{ℕ, ◌+◌, Bool, true, ◌&&◌, nat_le, nat_lt}
use Rattle.affine_index.specs.Limited.{items_scoped}
use Rattle.term_tree.specs.Scope.{cond_scoped, largest_tile}
use Rattle.term_tree.specs.declared.term.Term.{Term}
use Rattle.term_tree.specs.declared.term.Term.TheOpen.{Term-F}
use Rattle.term_tree.specs.declared.term.Term.TheFolds.{fold-Term}

module _ (sizes : ℕ) where
  -- one level of a term, over so many index variables and tensor variables
  abbrev pub scope_step : Term-F (ℕ → ℕ → Bool) → ℕ → ℕ → Bool
  scope_step (Term-F.Lit w) vars tensors = true
  scope_step (Term-F.TVar q) vars tensors = nat_lt q tensors
  scope_step (Term-F.WordOf x) vars tensors = items_scoped sizes vars x
  scope_step (Term-F.Index e x) vars tensors = e vars tensors && items_scoped sizes vars x
  scope_step (Term-F.Gen n e) vars tensors = items_scoped sizes 0 n && e (vars + 1) tensors
  scope_step (Term-F.Sum n e) vars tensors = items_scoped sizes 0 n && e (vars + 1) tensors
  scope_step (Term-F.Guard c e) vars tensors = cond_scoped sizes vars c && e vars tensors
  scope_step (Term-F.Let a b) vars tensors = a vars tensors && b vars (tensors + 1)
  scope_step (Term-F.Add a b) vars tensors = a vars tensors && b vars tensors
  scope_step (Term-F.Sub a b) vars tensors = a vars tensors && b vars tensors
  scope_step (Term-F.Mul a b) vars tensors = a vars tensors && b vars tensors
  scope_step (Term-F.Concat a b) vars tensors = a vars tensors && b vars tensors
  scope_step (Term-F.Flatten e) vars tensors = e vars tensors
  scope_step (Term-F.Split k e) vars tensors = (nat_lt 0 k && nat_le k largest_tile) && e vars tensors
  scope_step (Term-F.Transpose e) vars tensors = e vars tensors
  scope_step (Term-F.TruncL n e) vars tensors = items_scoped sizes 0 n && e vars tensors
  scope_step (Term-F.TruncR n e) vars tensors = items_scoped sizes 0 n && e vars tensors
  scope_step (Term-F.PadL n e) vars tensors = items_scoped sizes 0 n && e vars tensors
  scope_step (Term-F.PadR n e) vars tensors = items_scoped sizes 0 n && e vars tensors

  abbrev pub scope_fold : Term → ℕ → ℕ → Bool
  scope_fold = fold-Term (ℕ → ℕ → Bool) scope_step
