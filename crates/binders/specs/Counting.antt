-- The nodes of a mapped term, without the term, and a term that stands for each replacement.
use Rattle.std.specs.Prelude.{◌≡◌, ℕ, ◌+◌, ◌-◌, ◌^◌, Bool, true, ◌||◌, ◌&&◌, min, if◌then◌else◌, Result, Ok, Err}
use Rattle.term_tree.specs.declared.term.Term.{Term, Lit}
use Rattle.term_tree.specs.declared.term.Term.TheOpen.{Term-F}
use Rattle.term_tree.specs.declared.term.Term.TheFolds.{fold-Term}
use Rattle.term_tree.specs.Counts.{node_count}
use Rattle.term_tree.specs.Limits.{coefficients_fit, forms_short}
use Rattle.binders.specs.Answers.{is_memory}
use Rattle.binders.specs.Maps.{Replacement}
use Rattle.binders.specs.declared.refusal.MapRefusal.{MapRefusal}

-- the nodes of one level of a mapped term under i gens and sums and j lets, given those of its parts
abbrev pub nodes_step : Replacement → Term-F (ℕ → ℕ → ℕ) → ℕ → ℕ → ℕ
nodes_step m (Term-F.Lit w) i j = 1
nodes_step m (Term-F.TVar q) i j = node_count (m.for_tensor i j q)
nodes_step m (Term-F.WordOf x) i j = 1
nodes_step m (Term-F.Index e x) i j = e i j + 1
nodes_step m (Term-F.Gen n e) i j = e (i + 1) j + 1
nodes_step m (Term-F.Sum n e) i j = e (i + 1) j + 1
nodes_step m (Term-F.Guard c e) i j = e i j + 1
nodes_step m (Term-F.Let a b) i j = a i j + b i (j + 1) + 1
nodes_step m (Term-F.Add a b) i j = a i j + b i j + 1
nodes_step m (Term-F.Sub a b) i j = a i j + b i j + 1
nodes_step m (Term-F.Mul a b) i j = a i j + b i j + 1
nodes_step m (Term-F.Concat a b) i j = a i j + b i j + 1
nodes_step m (Term-F.Flatten e) i j = e i j + 1
nodes_step m (Term-F.Split k e) i j = e i j + 1
nodes_step m (Term-F.Transpose e) i j = e i j + 1
nodes_step m (Term-F.TruncL n e) i j = e i j + 1
nodes_step m (Term-F.TruncR n e) i j = e i j + 1
nodes_step m (Term-F.PadL n e) i j = e i j + 1
nodes_step m (Term-F.PadR n e) i j = e i j + 1

-- the nodes of a mapped term, as a fold
abbrev pub mapped_nodes : Replacement → Term → ℕ → ℕ → ℕ
mapped_nodes m = fold-Term (ℕ → ℕ → ℕ) (nodes_step m)

-- a count, which stops at 2^64 - 1, or a refusal with its cause
abbrev pub IsCount : ℕ → (MapRefusal → Bool) → Result ℕ MapRefusal → Type 0
IsCount count causes (Ok n) = n ≡ min count (2 ^ 64 - 1)
IsCount count causes (Err e) = (is_memory e || causes e) ≡ true

-- the sum of two counts, or the first refusal
abbrev pub counts_together : Result ℕ MapRefusal → Result ℕ MapRefusal → Result ℕ MapRefusal
counts_together (Ok m) (Ok n) = Ok (min (m + n) (2 ^ 64 - 1))
counts_together (Ok m) (Err e) = Err e
counts_together (Err e) b = Err e

-- 0 in place of a term whose forms are within the limits
abbrev pub hollow : Term → Term
hollow e = if coefficients_fit e && forms_short e then Lit 0 else e

-- the same replacement, with 0 in place of such terms
abbrev pub hollow_map : Replacement → Replacement
hollow_map m = record { for_index = m.for_index; for_tensor = λ i j q. hollow (m.for_tensor i j q) }
