-- Places that are zero before a tensor is put there, and places of different tuples.
use Rattle.std.proofs.Common.{◌≡◌, ℕ, ◌+◌, ◌<◌, ◌≤◌, List, ◌∷◌, get_or, replicate, Some, ◌∙◌, ⊎_elim, arith}
use Rattle.std.proofs.lemmas.Bool.{cases_lt}
use Rattle.std.proofs.lemmas.List.{get_or-replicate, get_or_past, length-replicate}
use Rattle.term_tree.specs.Tensors.{Tensor}
use Rattle.term_tree.specs.Shaped.{HasShape}
use Rattle.loop_lang.specs.Actions.{Mode, Puts, Adds}
use Rattle.lowering_laws.specs.Scatter.{Placing, under, scatter}
use Rattle.lowering_laws.proofs.Algebra.{Within, scatter_other}

pub zero_at : (n p : ℕ) → get_or (replicate {A = ℕ} n 0) p 0 ≡ 0
zero_at n p =
    ⊎_elim (λ (h : p < n). get_or-replicate n p 0 0 h)
    (λ (h : n ≤ p). get_or_past (replicate n 0) p 0 (omega (arith, length-replicate {A = ℕ} n 0)))
    (cases_lt p n)

-- the places of a tensor that is put are zero before
abbrev pub Clear : Mode → List ℕ → Placing → List ℕ → Type 0
Clear Adds ds f ws = Unit {0}
Clear Puts ds f ws = (ix : List ℕ) (p : ℕ) → Within ds ix → f ix ≡ Some p → get_or ws p 0 ≡ 0

-- two tuples have two places
abbrev pub Injective : List ℕ → Placing → Type 0
Injective ds f = (ix jx : List ℕ) (p : ℕ) → Within ds ix → Within ds jx → f ix ≡ Some p → f jx ≡ Some p → ix ≡ jx

-- the places are in the buffer
abbrev pub InRange : List ℕ → Placing → ℕ → Type 0
InRange ds f n = (ix : List ℕ) (p : ℕ) → Within ds ix → f ix ≡ Some p → p < n

-- the same as Clear, from row i on
abbrev pub ClearFrom : Mode → ℕ → List ℕ → Placing → ℕ → List ℕ → Type 0
ClearFrom Adds n ds f i ws = Unit {0}
ClearFrom Puts n ds f i ws = (j : ℕ) (ix : List ℕ) (p : ℕ) → i ≤ j → j < n → Within ds ix → f (j ∷ ix) ≡ Some p → get_or ws p 0 ≡ 0

pub clear_start : (o : Mode) (n : ℕ) (ds : List ℕ) (f : Placing) (ws : List ℕ) → Clear o (n ∷ ds) f ws → ClearFrom o n ds f 0 ws
clear_start Adds n ds f ws h = tt
clear_start Puts n ds f ws h = λ j ix p a b w e. h (j ∷ ix) p (b, w) e

pub clear_row : (o : Mode) (n : ℕ) (ds : List ℕ) (f : Placing) (j : ℕ) (ws : List ℕ) → j < n → ClearFrom o n ds f j ws → Clear o ds (under j f) ws
clear_row Adds n ds f j ws l h = tt
clear_row Puts n ds f j ws l h = λ ix p w e. h j ix p (omega arith) l w e

pub clear_next : (o : Mode) (n : ℕ) (ds : List ℕ) (f : Placing) (j : ℕ) (ws : List ℕ) (t : Tensor) → Injective (n ∷ ds) f → HasShape ds t → j < n
    → ClearFrom o n ds f j ws → ClearFrom o n ds f (j + 1) (scatter t (under j f) ws)
clear_next Adds n ds f j ws t inj shape l c = tt
clear_next Puts n ds f j ws t inj shape l c = λ i ix p a b w e.
    let other : (jx : List ℕ) → Within ds jx → f (j ∷ jx) ≡ Some p → ⊥ =
    λ jx v d. let same : j ∷ jx ≡ i ∷ ix = inj (j ∷ jx) (i ∷ ix) p (l, v) (b, w) d e in
    let js : j ≡ i = cc in absurd (omega arith) in
    scatter_other t ds (under j f) ws p shape other ∙ c i ix p (omega arith) b w e
