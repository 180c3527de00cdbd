-- Terms whose extents and amounts hold no index variable and whose tile sizes are within their limits.
use Rattle.std.specs.Prelude.{List, [], ◌∷◌, Bool, true, ◌&&◌, not, nat_lt, nat_le}
use Rattle.affine_index.specs.Normal.{holds_var}
use Rattle.term_tree.specs.declared.term.OutputDecl.{OutputDecl}
use Rattle.term_tree.specs.declared.term.Term.{Term}
use Rattle.term_tree.specs.declared.term.Term.TheOpen.{Term-F}
use Rattle.term_tree.specs.declared.term.Term.TheFolds.{fold-Term}
use Rattle.term_tree.specs.Scope.{largest_tile}

-- one level of such a term
abbrev pub plain_step : Term-F Bool → Bool
plain_step (Term-F.Lit w) = true
plain_step (Term-F.TVar q) = true
plain_step (Term-F.WordOf x) = true
plain_step (Term-F.Index e x) = e
plain_step (Term-F.Gen n e) = not (holds_var n) && e
plain_step (Term-F.Sum n e) = not (holds_var n) && e
plain_step (Term-F.Guard c e) = e
plain_step (Term-F.Let a b) = a && b
plain_step (Term-F.Add a b) = a && b
plain_step (Term-F.Sub a b) = a && b
plain_step (Term-F.Mul a b) = a && b
plain_step (Term-F.Concat a b) = a && b
plain_step (Term-F.Flatten e) = e
plain_step (Term-F.Split k e) = (nat_lt 0 k && nat_le k largest_tile) && e
plain_step (Term-F.Transpose e) = e
plain_step (Term-F.TruncL n e) = not (holds_var n) && e
plain_step (Term-F.TruncR n e) = not (holds_var n) && e
plain_step (Term-F.PadL n e) = not (holds_var n) && e
plain_step (Term-F.PadR n e) = not (holds_var n) && e

-- every level is
abbrev pub is_plain : Term → Bool
is_plain = fold-Term Bool plain_step

-- the term of each output is
abbrev pub all_plain : List OutputDecl → Bool
all_plain [] = true
all_plain (o ∷ os) = is_plain o.term && all_plain os
