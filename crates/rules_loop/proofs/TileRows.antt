-- Rows and sums in tiles.
use Rattle.std.proofs.Common.{◌≡◌, ℕ, ◌+◌, ◌-◌, ◌*◌, ◌/◌, ◌%◌, ◌<◌, ◌≤◌, ap, sym, ◌∙◌, arith, true, ◌&&◌, nat_lt, if◌then◌else◌}
use Rattle.std.proofs.lemmas.Bool.{le-ltb, lt-ltb}
use Rattle.binders.proofs.Rows.{drop_last-tabulate, joined-chunks, same_tabulate}
use Rattle.binders.proofs.Sums.{total-chunks, total-front}
use Rattle.term_tree.specs.Tensors.{Tensor, drop_last, from_rows, joined, plus_places, rows_of, tabulate, total}
use Rattle.term_tree.proofs.TensorLaws.{rows_of-from_rows}

-- row i of the first m, and else another tensor
abbrev pub row_below : ℕ → Tensor → (ℕ → Tensor) → ℕ → Tensor
row_below m z g i = if nat_lt i m && true then g i else z

pub row_within : (m : ℕ) (z : Tensor) (g : ℕ → Tensor) (i : ℕ) → i < m → row_below m z g i ≡ g i
row_within m z g i h = λ j. if lt-ltb i m h j && true then g i else z

pub row_past : (m : ℕ) (z : Tensor) (g : ℕ → Tensor) (i : ℕ) → m ≤ i → row_below m z g i ≡ z
row_past m z g i h = λ j. if le-ltb i m h j && true then g i else z

-- rows in tiles of rows are the rows
pub tiles_joined : (k p : ℕ) (g : ℕ → Tensor)
    → joined (rows_of (from_rows (tabulate p (λ i. from_rows (tabulate k (λ j. g (k * i + j))))))) ≡ tabulate (k * p) g
tiles_joined k p g = ap joined (rows_of-from_rows (tabulate p (λ i. from_rows (tabulate k (λ j. g (k * i + j)))))) ∙ joined-chunks k p g

-- the tiles of the first m rows, without the rows past them
pub tiles_cut : (k p m : ℕ) (z : Tensor) (g : ℕ → Tensor) → m ≤ k * p
    → drop_last (k * p - m) (rows_of (from_rows (joined (rows_of (from_rows (tabulate p (λ i. from_rows (tabulate k (λ j. row_below m z g (k * i + j)))))))))) ≡
    tabulate m g
tiles_cut k p m z g h =
    ap (drop_last (k * p - m)) (rows_of-from_rows (joined (rows_of (from_rows (tabulate p (λ i. from_rows (tabulate k (λ j. row_below m z g (k * i + j)))))))))
    ∙ ap (drop_last (k * p - m)) (tiles_joined k p (row_below m z g))
    ∙ drop_last-tabulate (k * p - m) m (k * p) (row_below m z g) (omega (arith, h))
    ∙ same_tabulate m (row_below m z g) g (row_within m z g)

-- the sum of the sums of the tiles of the first m terms
pub tiles_summed : (k p m : ℕ) (z : Tensor) (g : ℕ → Tensor) → plus_places z z ≡ z → m ≤ k * p
    → total z (tabulate p (λ i. total z (tabulate k (λ j. row_below m z g (k * i + j))))) ≡ total z (tabulate m g)
tiles_summed k p m z g idem h =
    let all : k * p ≡ m + (k * p - m) = omega (arith, h) in
    total-chunks z idem k p (row_below m z g)
    ∙ (λ i. total z (tabulate (all i) (row_below m z g)))
    ∙ total-front z idem m (k * p - m) (row_below m z g) (λ i. row_past m z g (m + i) (omega arith))
    ∙ ap (total z) (same_tabulate m (row_below m z g) g (row_within m z g))

-- place j of tile i
part-is : (k i j : ℕ) → j < k → (k * i + j) / k ≡ i
part-is k i j h = grind arith

left-is : (k i j : ℕ) → j < k → (k * i + j) % k ≡ j
left-is k i j h = grind arith

-- rows of rows, joined, by the parts of their numbers
pub rows_joined : (k m : ℕ) (g : ℕ → ℕ → Tensor)
    → joined (rows_of (from_rows (tabulate m (λ i. from_rows (tabulate k (λ j. g i j)))))) ≡ tabulate (k * m) (λ v. g (v / k) (v % k))
rows_joined k m g =
    (λ l. joined (rows_of (from_rows (tabulate m (λ i. from_rows (same_tabulate k (λ j. g i j) (λ j. g ((k * i + j) / k) ((k * i + j) % k))
    (λ j h. λ n. g (sym (part-is k i j h) n) (sym (left-is k i j h) n)) l))))))
    ∙ tiles_joined k m (λ v. g (v / k) (v % k))
