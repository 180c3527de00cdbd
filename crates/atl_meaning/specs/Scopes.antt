-- Terms whose forms name what is in scope, as folds.
use Rattle.std.specs.Prelude.{ℕ, ◌+◌, Bool, true, ◌&&◌, nat_le, nat_lt, List, [], ◌∷◌}
use Rattle.affine_index.specs.Condition.{all_scoped}
use Rattle.affine_index.specs.Limited.{items_scoped}
use Rattle.term_tree.specs.Scope.{largest_tile}
use Rattle.term_tree.specs.declared.term.OutputDecl.{OutputDecl}
use Rattle.term_tree.specs.declared.term.Term.{Term}
use Rattle.term_tree.specs.declared.term.Term.TheOpen.{Term-F}
use Rattle.term_tree.specs.declared.term.Term.TheFolds.{fold-Term}

module _ (sizes : ℕ) where
  -- each extent and amount names sizes alone, and each tile is within its bounds
  abbrev pub sized_step : Term-F Bool → Bool
  sized_step (Term-F.Lit w) = true
  sized_step (Term-F.TVar q) = true
  sized_step (Term-F.WordOf x) = true
  sized_step (Term-F.Index e x) = e
  sized_step (Term-F.Gen n e) = items_scoped sizes 0 n && e
  sized_step (Term-F.Sum n e) = items_scoped sizes 0 n && e
  sized_step (Term-F.Guard c e) = e
  sized_step (Term-F.Let a b) = a && b
  sized_step (Term-F.Add a b) = a && b
  sized_step (Term-F.Sub a b) = a && b
  sized_step (Term-F.Mul a b) = a && b
  sized_step (Term-F.Concat a b) = a && b
  sized_step (Term-F.Flatten e) = e
  sized_step (Term-F.Split k e) = (nat_lt 0 k && nat_le k largest_tile) && e
  sized_step (Term-F.Transpose e) = e
  sized_step (Term-F.TruncL n e) = items_scoped sizes 0 n && e
  sized_step (Term-F.TruncR n e) = items_scoped sizes 0 n && e
  sized_step (Term-F.PadL n e) = items_scoped sizes 0 n && e
  sized_step (Term-F.PadR n e) = items_scoped sizes 0 n && e

  abbrev pub sized : Term → Bool
  sized = fold-Term Bool sized_step

  -- each index and comparison names sizes and index variables in scope
  abbrev pub placed_step : Term-F (ℕ → Bool) → ℕ → Bool
  placed_step (Term-F.Lit w) vars = true
  placed_step (Term-F.TVar q) vars = true
  placed_step (Term-F.WordOf x) vars = items_scoped sizes vars x
  placed_step (Term-F.Index e x) vars = e vars && items_scoped sizes vars x
  placed_step (Term-F.Gen n e) vars = e (vars + 1)
  placed_step (Term-F.Sum n e) vars = e (vars + 1)
  placed_step (Term-F.Guard c e) vars = all_scoped sizes vars c.all && e vars
  placed_step (Term-F.Let a b) vars = a vars && b vars
  placed_step (Term-F.Add a b) vars = a vars && b vars
  placed_step (Term-F.Sub a b) vars = a vars && b vars
  placed_step (Term-F.Mul a b) vars = a vars && b vars
  placed_step (Term-F.Concat a b) vars = a vars && b vars
  placed_step (Term-F.Flatten e) vars = e vars
  placed_step (Term-F.Split k e) vars = e vars
  placed_step (Term-F.Transpose e) vars = e vars
  placed_step (Term-F.TruncL n e) vars = e vars
  placed_step (Term-F.TruncR n e) vars = e vars
  placed_step (Term-F.PadL n e) vars = e vars
  placed_step (Term-F.PadR n e) vars = e vars

  abbrev pub placed : Term → ℕ → Bool
  placed = fold-Term (ℕ → Bool) placed_step

  -- the same of all outputs
  abbrev pub outputs_ready : List OutputDecl → Bool
  outputs_ready [] = true
  outputs_ready (o ∷ os) = (sized o.term && placed o.term 0) && outputs_ready os
