-- When replacing variables leaves terms well scoped.
use Rattle.std.specs.Prelude.{◌≡◌, ℕ, ◌+◌, ◌<◌, true, List, length}
use Rattle.affine_index.specs.Limited.{items_scoped}
use Rattle.affine_index.specs.Put.{given}
use Rattle.affine_index.specs.declared.form.Items.{Items}
use Rattle.term_tree.specs.declared.term.Term.{Term}
use Rattle.term_tree.specs.Scope.{term_scoped}
use Rattle.binders.specs.Maps.{Replacement}
use Rattle.binders.specs.PlainMaps.{put_index_map, put_tensor_map, shift_map}

-- under any further binders, what stands for each of v index and t tensor variables is well scoped over v' and t'
pub record SendsScope (m : Replacement) (sizes v t v' t' : ℕ) : Type 0 where
  pub index_scoped : (i j w : ℕ) → w < v + i → items_scoped sizes (v' + i) (m.for_index i j w) ≡ true
  pub tensor_scoped : (i j q : ℕ) → q < t + j → term_scoped sizes (m.for_tensor i j q) (v' + i) (t' + j) ≡ true

-- over whichever numbers of variables the replacement is well scoped, one term is where another was
abbrev pub KeepsScope : Replacement → Term → Term → Type 0
KeepsScope m e e' = (sizes v t v' t' : ℕ) → SendsScope m sizes v t v' t' → term_scoped sizes e v t ≡ true → term_scoped sizes e' v' t' ≡ true

-- with new binders in front
abbrev pub ScopesShift : ℕ → ℕ → Type 0
ScopesShift a b = (sizes v t : ℕ) → SendsScope (shift_map a b) sizes v t (v + a) (t + b)

-- with new binders in place of the first variables, where each form is in scope under them
abbrev pub ScopesPutIndex : List Items → ℕ → Type 0
ScopesPutIndex by under = (sizes v t : ℕ) → ((k : ℕ) → k < length by → items_scoped sizes (under + v) (given by k) ≡ true) →
    SendsScope (put_index_map by under) sizes (length by + v) t (under + v) t

-- with new lets in place of the first tensor variable, where the term is well scoped under them
abbrev pub ScopesPutTensor : Term → ℕ → Type 0
ScopesPutTensor by under = (sizes v t : ℕ) → term_scoped sizes by v (under + t) ≡ true → SendsScope (put_tensor_map by under) sizes v (t + 1) v (under + t)
