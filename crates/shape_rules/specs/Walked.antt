-- The shape and the goals of a term as one fold.
use Rattle.std.specs.Prelude.{List, [], ◌∷◌, ◌++◌, Ok}
use Rattle.affine_index.specs.declared.form.Items.{Items}
use Rattle.term_tree.specs.declared.term.Term.{Term}
use Rattle.term_tree.specs.declared.term.Term.TheOpen.{Term-F}
use Rattle.term_tree.specs.declared.term.Term.TheFolds.{fold-Term}
use Rattle.term_tree.specs.Shape.{Extents, Shaped, limited, with_child, of_equal, of_words, of_concat}
use Rattle.term_tree.specs.Goals.{extents_or_none, rest_after}
use Rattle.shape_rules.specs.Rules.{row_shape, rows_shape, same_shape, flat_shape, tiled_shape, columns_shape, fewer_shape, more_shape}
use Rattle.std.specs.Prelude.{get_or}

-- what a walk of a term finds: its shape or misfit, and its goals
pub record Walked : Type 0 where
  pub shape : Shaped
  pub goals : List Items

-- the same under the shapes of the tensor variables
abbrev pub Walking : Type 0
Walking = List Extents → Walked

-- of a term with one operand
abbrev pub one : Walked → (Extents → Shaped) → List Items → Walked
one e rule front = record { shape = with_child 0 e.shape rule; goals = front ++ e.goals }

-- of a term with two
abbrev pub two : Walked → Walked → (Extents → Extents → Shaped) → Walked
two a b rule = record { shape = with_child 0 a.shape (λ ns. with_child 1 b.shape (rule ns)); goals = a.goals ++ b.goals }

-- the goals of a truncation itself
abbrev pub cut_goals : Items → Shaped → List Items
cut_goals a shape = a ∷ rest_after a (extents_or_none shape)

-- one level of a term, given what it finds of its parts
abbrev pub walked_step : Term-F Walking → Walking
walked_step (Term-F.Lit w) ts = record { shape = Ok []; goals = [] }
walked_step (Term-F.TVar q) ts = record { shape = limited (get_or ts q []); goals = [] }
walked_step (Term-F.WordOf x) ts = record { shape = Ok []; goals = [] }
walked_step (Term-F.Index e x) ts = one (e ts) row_shape []
walked_step (Term-F.Gen n e) ts = one (e ts) (rows_shape n) (n ∷ [])
walked_step (Term-F.Sum n e) ts = one (e ts) same_shape (n ∷ [])
walked_step (Term-F.Guard c e) ts = one (e ts) same_shape []
walked_step (Term-F.Let a b) ts = two (a ts) (b (extents_or_none (a ts).shape ∷ ts)) (λ ns ms. Ok ms)
walked_step (Term-F.Add a b) ts = two (a ts) (b ts) of_equal
walked_step (Term-F.Sub a b) ts = two (a ts) (b ts) of_equal
walked_step (Term-F.Mul a b) ts = two (a ts) (b ts) of_words
walked_step (Term-F.Concat a b) ts = two (a ts) (b ts) of_concat
walked_step (Term-F.Flatten e) ts = one (e ts) flat_shape []
walked_step (Term-F.Split k e) ts = one (e ts) (tiled_shape k) []
walked_step (Term-F.Transpose e) ts = one (e ts) columns_shape []
walked_step (Term-F.TruncL a e) ts = one (e ts) (fewer_shape a) (cut_goals a (e ts).shape)
walked_step (Term-F.TruncR a e) ts = one (e ts) (fewer_shape a) (cut_goals a (e ts).shape)
walked_step (Term-F.PadL a e) ts = one (e ts) (more_shape a) (a ∷ [])
walked_step (Term-F.PadR a e) ts = one (e ts) (more_shape a) (a ∷ [])

-- what a walk of a term finds, as a fold
abbrev pub walked : Term → Walking
walked = fold-Term Walking walked_step
