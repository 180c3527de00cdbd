-- How the words of tensors are added into a buffer.
use Rattle.std.proofs.Common.{◌≡◌, ℕ, zero, suc, ◌+◌, ◌%◌, ◌^◌, ◌<◌, ◌≤◌, List, [], ◌∷◌, length, get_or, set, Option, Some, None, refl, sym, ap, ◌∙◌, subst}
use Rattle.std.proofs.Common.{⊎_elim, arith, length-set, get_or-set_same, get_or-set_other}
use Rattle.std.proofs.lemmas.List.{set_past}
use Rattle.std.proofs.lemmas.Bool.{cases_lt, cases_eq}
use Rattle.std.proofs.Math.Nat.{mod-lt}
use Rattle.term_tree.specs.Tensors.{Tensor, Word, End, Row, from_rows, tabulate}
use Rattle.term_tree.specs.Shaped.{HasShape}
use Rattle.lowering_laws.specs.Scatter.{Placing, under, add_at, later, scatter}

-- functions that agree are equal
pub ext : {f g : Placing} → ((x : List ℕ) → f x ≡ g x) → f ≡ g
ext h = λ i x. h x i

-- a tuple of indices within extents
abbrev pub Within : List ℕ → List ℕ → Type 0
Within [] [] = Unit {0}
Within [] (i ∷ ix) = ⊥
Within (d ∷ ds) [] = ⊥
Within (d ∷ ds) (i ∷ ix) = (i < d) × Within ds ix

-- each word is below 2^64
abbrev pub Words : List ℕ → Type 0
Words ws = (k : ℕ) → get_or ws k 0 < 2 ^ 64

length-add_at : (o : Option ℕ) (w : ℕ) (ws : List ℕ) → length (add_at o w ws) ≡ length ws
length-add_at None w ws = refl
length-add_at (Some p) w ws = length-set ws p ((get_or ws p 0 + w) % 2 ^ 64)

pub length-scatter : (t : Tensor) (f : Placing) (ws : List ℕ) → length (scatter t f ws) ≡ length ws
length-scatter (Word w) f ws = length-add_at (f []) w ws
length-scatter End f ws = refl
length-scatter (Row a rest) f ws = length-scatter rest (later f) (scatter a (under 0 f) ws) ∙ length-scatter a (under 0 f) ws

Words-add_at : (o : Option ℕ) (w : ℕ) (ws : List ℕ) → Words ws → Words (add_at o w ws)
Words-add_at None w ws h k = h k
Words-add_at (Some p) w ws h k =
    let x = (get_or ws p 0 + w) % 2 ^ 64 in
    ⊎_elim
    (λ (e : k ≡ p).
    ⊎_elim
    (λ (l : p < length ws). subst (λ n. n < 2 ^ 64) (sym (ap (λ j. get_or (set ws p x) j 0) e ∙ get_or-set_same ws p x 0 l))
    (mod-lt (get_or ws p 0 + w) (omega arith)))
    (λ (l : length ws ≤ p). subst (λ xs. get_or xs k 0 < 2 ^ 64) (sym (set_past ws p x l)) (h k))
    (cases_lt p (length ws)))
    (λ (ne : k ≡ p → ⊥). subst (λ n. n < 2 ^ 64) (sym (get_or-set_other ws p k x 0 ne)) (h k))
    (cases_eq k p)

pub Words-scatter : (t : Tensor) (f : Placing) (ws : List ℕ) → Words ws → Words (scatter t f ws)
Words-scatter (Word w) f ws h = Words-add_at (f []) w ws h
Words-scatter End f ws h = h
Words-scatter (Row a rest) f ws h = Words-scatter rest (later f) (scatter a (under 0 f) ws) (Words-scatter a (under 0 f) ws h)

-- a place that f gives to no tuple keeps its word
other_at : (o : Option ℕ) (w : ℕ) (ws : List ℕ) (p : ℕ) → (o ≡ Some p → ⊥) → get_or (add_at o w ws) p 0 ≡ get_or ws p 0
other_at None w ws p h = refl
other_at (Some q) w ws p h = get_or-set_other ws q p _ 0 (λ e. h (ap Some (sym e)))

later_off : (n : ℕ) (ds : List ℕ) (f : Placing) (p : ℕ) → ((ix : List ℕ) → Within (suc n ∷ ds) ix → f ix ≡ Some p → ⊥) → (ix : List ℕ) → Within (n ∷ ds) ix
    → later f ix ≡ Some p → ⊥
later_off n ds f p off [] w e = w
later_off n ds f p off (i ∷ ix) w e = off (suc i ∷ ix) (omega (arith, w.0), w.1) e

pub scatter_other : (t : Tensor) (ds : List ℕ) (f : Placing) (ws : List ℕ) (p : ℕ) → HasShape ds t → ((ix : List ℕ) → Within ds ix → f ix ≡ Some p → ⊥)
    → get_or (scatter t f ws) p 0 ≡ get_or ws p 0
scatter_other (Word w) [] f ws p h off = other_at (f []) w ws p (off [] tt)
scatter_other (Word w) (zero ∷ ds) f ws p h off = absurd h
scatter_other (Word w) (suc n ∷ ds) f ws p h off = absurd h
scatter_other End ds f ws p h off = refl
scatter_other (Row a rest) [] f ws p h off = absurd h
scatter_other (Row a rest) (zero ∷ ds) f ws p h off = absurd h
scatter_other (Row a rest) (suc n ∷ ds) f ws p h off =
    scatter_other rest (n ∷ ds) (later f) (scatter a (under 0 f) ws) p h.1 (later_off n ds f p off)
    ∙ scatter_other a ds (under 0 f) ws p h.0 (λ ix w. off (0 ∷ ix) (omega arith, w))

-- rows i, i + 1, .. of n in all, one after another
abbrev pub scatter_turns : ℕ → ℕ → (ℕ → Tensor) → Placing → List ℕ → List ℕ
scatter_turns i zero g f ws = ws
scatter_turns i (suc n) g f ws = scatter_turns (i + 1) n g f (scatter (g i) (under i f) ws)

pub scatter-rows : (n i : ℕ) (g h : ℕ → Tensor) (f k : Placing) (ws : List ℕ) → ((j : ℕ) → h j ≡ g (i + j))
    → ((j : ℕ) (ix : List ℕ) → k (j ∷ ix) ≡ f ((i + j) ∷ ix)) → scatter (from_rows (tabulate n h)) k ws ≡ scatter_turns i n g f ws
scatter-rows zero i g h f k ws a b = refl
scatter-rows (suc n) i g h f k ws a b =
    let z : i + 0 ≡ i = omega arith in
    let row : h 0 ≡ g i = a 0 ∙ ap g z in
    let place : under 0 k ≡ under i f = ext (λ ix. b 0 ix ∙ ap (λ j. f (j ∷ ix)) z) in
    ap (scatter (from_rows (tabulate n (λ j. h (suc j)))) (later k)) ((λ j. scatter (row j) (place j) ws))
    ∙ scatter-rows n (i + 1) g (λ j. h (suc j)) f (later k) (scatter (g i) (under i f) ws)
    (λ j. let e : i + suc j ≡ i + 1 + j = omega arith in a (suc j) ∙ ap g e)
    (λ j ix. let e : i + suc j ≡ i + 1 + j = omega arith in b (suc j) ix ∙ ap (λ v. f (v ∷ ix)) e)
