-- Terms whose forms name what is in scope and are computed within the limits at given values, as folds.
use Rattle.std.specs.Prelude.{ℕ, zero, suc, ◌^◌, Bool, true, ◌&&◌, ◌||◌, not, nat_le, nat_lt, List, [], ◌∷◌, length, is_some}
use Rattle.affine_index.specs.Condition.{cmp_form}
use Rattle.affine_index.specs.Limited.{items_scoped, limited_value}
use Rattle.affine_index.specs.Normal.{is_normal}
use Rattle.affine_index.specs.declared.cond.Cmp.{Cmp}
use Rattle.affine_index.specs.declared.form.Items.{Items}
use Rattle.term_tree.specs.Meaning.{extent}
use Rattle.term_tree.specs.Scope.{largest_tile}
use Rattle.term_tree.specs.declared.term.InputDecl.{InputDecl}
use Rattle.term_tree.specs.declared.term.OutputDecl.{OutputDecl}
use Rattle.term_tree.specs.declared.term.Term.{Term}
use Rattle.term_tree.specs.declared.term.Term.TheOpen.{Term-F}
use Rattle.term_tree.specs.declared.term.Term.TheFolds.{fold-Term}
use Rattle.term_tree.specs.Shape.{Extents}

-- whether a fact holds of 0, 1, .., n - 1
abbrev pub all_below : ℕ → (ℕ → Bool) → Bool
all_below zero f = true
all_below (suc n) f = all_below n f && f n

module _ (s : List ℕ) where
  -- a form names sizes and index variables in scope, and where it is normal no partial result of its value is too large
  abbrev pub is_exact : List ℕ → Items → Bool
  is_exact r x = items_scoped (length s) (length r) x && (not (is_normal x) || is_some (limited_value s r x))

  -- the same of all comparisons
  abbrev pub all_exact : List ℕ → List Cmp → Bool
  all_exact r [] = true
  all_exact r (c ∷ cs) = is_exact r (cmp_form c) && all_exact r cs

  -- an extent or amount is computed so, and below 2^63
  abbrev pub is_counted : Items → Bool
  is_counted n = is_exact [] n && nat_lt (extent n s) (2 ^ 63)

  -- the same of all extents
  abbrev pub all_counted : Extents → Bool
  all_counted [] = true
  all_counted (n ∷ ns) = is_counted n && all_counted ns

  -- each extent and amount is counted, and each tile is within its bounds
  abbrev pub counted_step : Term-F Bool → Bool
  counted_step (Term-F.Lit w) = true
  counted_step (Term-F.TVar q) = true
  counted_step (Term-F.WordOf x) = true
  counted_step (Term-F.Index e x) = e
  counted_step (Term-F.Gen n e) = is_counted n && e
  counted_step (Term-F.Sum n e) = is_counted n && e
  counted_step (Term-F.Guard c e) = e
  counted_step (Term-F.Let a b) = a && b
  counted_step (Term-F.Add a b) = a && b
  counted_step (Term-F.Sub a b) = a && b
  counted_step (Term-F.Mul a b) = a && b
  counted_step (Term-F.Concat a b) = a && b
  counted_step (Term-F.Flatten e) = e
  counted_step (Term-F.Split k e) = (nat_lt 0 k && nat_le k largest_tile) && e
  counted_step (Term-F.Transpose e) = e
  counted_step (Term-F.TruncL n e) = is_counted n && e
  counted_step (Term-F.TruncR n e) = is_counted n && e
  counted_step (Term-F.PadL n e) = is_counted n && e
  counted_step (Term-F.PadR n e) = is_counted n && e

  abbrev pub counted : Term → Bool
  counted = fold-Term Bool counted_step

  -- each index and comparison is exact wherever it is computed, under these values of the index variables
  abbrev pub exact_step : Term-F (List ℕ → Bool) → List ℕ → Bool
  exact_step (Term-F.Lit w) r = true
  exact_step (Term-F.TVar q) r = true
  exact_step (Term-F.WordOf x) r = is_exact r x
  exact_step (Term-F.Index e x) r = e r && is_exact r x
  exact_step (Term-F.Gen n e) r = all_below (extent n s) (λ i. e (i ∷ r))
  exact_step (Term-F.Sum n e) r = all_below (extent n s) (λ i. e (i ∷ r))
  exact_step (Term-F.Guard c e) r = all_exact r c.all && e r
  exact_step (Term-F.Let a b) r = a r && b r
  exact_step (Term-F.Add a b) r = a r && b r
  exact_step (Term-F.Sub a b) r = a r && b r
  exact_step (Term-F.Mul a b) r = a r && b r
  exact_step (Term-F.Concat a b) r = a r && b r
  exact_step (Term-F.Flatten e) r = e r
  exact_step (Term-F.Split k e) r = e r
  exact_step (Term-F.Transpose e) r = e r
  exact_step (Term-F.TruncL n e) r = e r
  exact_step (Term-F.TruncR n e) r = e r
  exact_step (Term-F.PadL n e) r = e r
  exact_step (Term-F.PadR n e) r = e r

  abbrev pub exact : Term → List ℕ → Bool
  exact = fold-Term (List ℕ → Bool) exact_step

  -- a body at each value of the innermost index variable
  abbrev pub exact_below : ℕ → Term → List ℕ → Bool
  exact_below n e r = all_below n (λ i. exact e (i ∷ r))

  -- the same of all outputs
  abbrev pub outputs_exact : List OutputDecl → Bool
  outputs_exact [] = true
  outputs_exact (o ∷ os) = (counted o.term && exact o.term []) && outputs_exact os

  -- the extents of all inputs
  abbrev pub inputs_counted : List InputDecl → Bool
  inputs_counted [] = true
  inputs_counted (d ∷ ds) = all_counted d.extents && inputs_counted ds
