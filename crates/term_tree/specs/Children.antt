-- The children of a term, each under its number of binders.
use Rattle.std.specs.Prelude.{ℕ, ◌+◌, List, [], ◌∷◌}
use Rattle.term_tree.specs.declared.depths.Depths.{Depths}
use Rattle.term_tree.specs.declared.term.Term.{Term, out-Term}
use Rattle.term_tree.specs.declared.term.Term.TheOpen.{Term-F}

-- a term under so many binders
pub record Under : Type 0 where
  pub depths : Depths
  pub term : Term

abbrev pub under : Depths → Term → Under
under d e = record { depths = d; term = e }

-- under one more gen or sum
abbrev pub one_index : Depths → Depths
one_index d = record { index = d.index + 1; tensor = d.tensor }

-- under one more let
abbrev pub one_tensor : Depths → Depths
one_tensor d = record { index = d.index; tensor = d.tensor + 1 }

-- the parts of one level of a term, in order
abbrev pub children_of : Depths → Term-F Term → List Under
children_of d (Term-F.Lit w) = []
children_of d (Term-F.TVar q) = []
children_of d (Term-F.WordOf x) = []
children_of d (Term-F.Index e x) = under d e ∷ []
children_of d (Term-F.Gen n e) = under (one_index d) e ∷ []
children_of d (Term-F.Sum n e) = under (one_index d) e ∷ []
children_of d (Term-F.Guard c e) = under d e ∷ []
children_of d (Term-F.Let a b) = under d a ∷ (under (one_tensor d) b ∷ [])
children_of d (Term-F.Add a b) = under d a ∷ (under d b ∷ [])
children_of d (Term-F.Sub a b) = under d a ∷ (under d b ∷ [])
children_of d (Term-F.Mul a b) = under d a ∷ (under d b ∷ [])
children_of d (Term-F.Concat a b) = under d a ∷ (under d b ∷ [])
children_of d (Term-F.Flatten e) = under d e ∷ []
children_of d (Term-F.Split k e) = under d e ∷ []
children_of d (Term-F.Transpose e) = under d e ∷ []
children_of d (Term-F.TruncL n e) = under d e ∷ []
children_of d (Term-F.TruncR n e) = under d e ∷ []
children_of d (Term-F.PadL n e) = under d e ∷ []
children_of d (Term-F.PadR n e) = under d e ∷ []

-- the children of a term in order; a let has its definition first
abbrev pub children : Depths → Term → List Under
children d e = children_of d (out-Term e)

-- one answer for each child, each right
abbrev pub AreRight : {O : Type 0} → (Depths → Term → O → Type 0) → List Under → List O → Type 0
AreRight right [] [] = Unit {0}
AreRight right [] (o ∷ os) = ⊥
AreRight right (c ∷ cs) [] = ⊥
AreRight right (c ∷ cs) (o ∷ os) = right c.depths c.term o × AreRight right cs os
