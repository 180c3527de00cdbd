-- A transposed tensor: its columns, one after another.
use Rattle.std.proofs.Common.{◌≡◌, ℕ, zero, suc, ◌+◌, List, [], ◌∷◌, length, get_or, map, refl, sym, ap, ◌∙◌, arith}
use Rattle.term_tree.specs.Tensors.{Tensor, Word, End, Row, rows_of, from_rows, tabulate}
use Rattle.term_tree.specs.Shaped.{HasRows, HasShape}
use Rattle.term_tree.specs.Meaning.{columns}
use Rattle.lowering_laws.specs.Scatter.{Placing, under, scatter}
use Rattle.lowering_laws.proofs.RowOrder.{rows_many}
use Rattle.reindexer.specs.Sending.{swapped}
use Rattle.lowering_laws.proofs.Scattered.{scatter_comm, scatter_list, scatter_rows, scatter_each}

list_comm : (ts : List Tensor) (i : ℕ) (u : Tensor) (f g : Placing) (ws : List ℕ) → scatter_list ts i f (scatter u g ws) ≡ scatter u g (scatter_list ts i f ws)
list_comm [] i u f g ws = refl
list_comm (t ∷ ts) i u f g ws = ap (scatter_list ts (i + 1) f) (scatter_comm t u (under i f) g ws) ∙ list_comm ts (i + 1) u f g (scatter t (under i f) ws)

module _ (z : Tensor) where
  column : List Tensor → ℕ → List Tensor
  column ts j = map (λ row. get_or (rows_of row) j z) ts

  -- the columns from the j-th on
  abbrev cols : List Tensor → ℕ → ℕ → ℕ → Placing → List ℕ → List ℕ
  cols ts i j zero f ws = ws
  cols ts i j (suc k) f ws = cols ts i (j + 1) k f (scatter_list (map (λ row. get_or (rows_of row) j z) ts) i (under j f) ws)

  -- one row, with its places changed
  abbrev lines : (ℕ → Tensor) → ℕ → ℕ → ℕ → Placing → List ℕ → List ℕ
  lines h i j zero f ws = ws
  lines h i j (suc k) f ws = lines h i (j + 1) k f (scatter (h j) (under i (under j f)) ws)

  cols_are : (ts : List Tensor) (j k : ℕ) (h : ℕ → Tensor) (f : Placing) (ws : List ℕ)
      → ((i : ℕ) → h i ≡ from_rows (map (λ row. get_or (rows_of row) (j + i) z) ts)) → scatter_list (tabulate k h) j f ws ≡ cols ts 0 j k f ws
  cols_are ts j zero h f ws a = refl
  cols_are ts j (suc k) h f ws a =
      let e : j + 0 ≡ j = omega arith in
      ap (λ u. scatter_list (tabulate k (λ i. h (suc i))) (j + 1) f (scatter u (under j f) ws)) (a 0
      ∙ ap (λ n. from_rows (map (λ row. get_or (rows_of row) n z) ts)) e)
      ∙ ap (scatter_list (tabulate k (λ i. h (suc i))) (j + 1) f) (scatter_rows (map (λ row. get_or (rows_of row) j z) ts) (under j f) ws)
      ∙ cols_are ts (j + 1) k (λ i. h (suc i)) f (scatter_list (map (λ row. get_or (rows_of row) j z) ts) 0 (under j f) ws)
      (λ i. let g : j + suc i ≡ j + 1 + i = omega arith in a (suc i) ∙ ap (λ n. from_rows (map (λ row. get_or (rows_of row) n z) ts)) g)

  lines_comm : (h : ℕ → Tensor) (r : List Tensor) (i j k i' : ℕ) (f g : Placing) (ws : List ℕ)
      → lines h i j k f (scatter_list r i' g ws) ≡ scatter_list r i' g (lines h i j k f ws)
  lines_comm h r i j zero i' f g ws = refl
  lines_comm h r i j (suc k) i' f g ws =
      ap (lines h i (j + 1) k f) (sym (list_comm r i' (h j) g (under i (under j f)) ws))
      ∙ lines_comm h r i (j + 1) k i' f g (scatter (h j) (under i (under j f)) ws)

  cols_more : (t : Tensor) (ts : List Tensor) (i j k : ℕ) (f : Placing) (ws : List ℕ)
      → cols (t ∷ ts) i j k f ws ≡ cols ts (i + 1) j k f (lines (λ a. get_or (rows_of t) a z) i j k f ws)
  cols_more t ts i j zero f ws = refl
  cols_more t ts i j (suc k) f ws =
      cols_more t ts i (j + 1) k f (scatter_list (map (λ row. get_or (rows_of row) j z) ts) (i + 1) (under j f)
      (scatter (get_or (rows_of t) j z) (under i (under j f)) ws))
      ∙ ap (cols ts (i + 1) (j + 1) k f) (lines_comm (λ a. get_or (rows_of t) a z) (map (λ row. get_or (rows_of row) j z) ts) i (j + 1) k (i + 1) f (under j f)
      (scatter (get_or (rows_of t) j z) (under i (under j f)) ws))

  lines_are : (vs : List Tensor) (h : ℕ → Tensor) (i j k : ℕ) (f : Placing) (ws : List ℕ) → length vs ≡ k → ((a : ℕ) → h (j + a) ≡ get_or vs a z)
      → lines h i j k f ws ≡ scatter_list vs j (under i (swapped f)) ws
  lines_are [] h i j zero f ws e a = refl
  lines_are [] h i j (suc k) f ws e a = absurd (omega (arith, e))
  lines_are (v ∷ vs) h i j zero f ws e a = absurd (omega (arith, e))
  lines_are (v ∷ vs) h i j (suc k) f ws e a =
      let n : j + 0 ≡ j = omega arith in
      ap (λ u. lines h i (j + 1) k f (scatter u (under i (under j f)) ws)) (ap h (sym n) ∙ a 0)
      ∙ lines_are vs h i (j + 1) k f (scatter v (under i (under j f)) ws) (omega (arith, e)) (λ b. let g : j + 1 + b ≡ j + suc b = omega arith in ap h g
      ∙ a (suc b))

  cols_none : (i j k : ℕ) (f : Placing) (ws : List ℕ) → cols [] i j k f ws ≡ ws
  cols_none i j zero f ws = refl
  cols_none i j (suc k) f ws = cols_none i (j + 1) k f ws

  cols_swapped : (n m i : ℕ) (ds : List ℕ) (x : Tensor) (f : Placing) (ws : List ℕ) → HasRows (HasShape (m ∷ ds)) n x
      → cols (rows_of x) i 0 m f ws ≡ scatter_list (rows_of x) i (swapped f) ws
  cols_swapped zero m i ds (Word w) f ws h = absurd h
  cols_swapped zero m i ds End f ws h = cols_none i 0 m f ws
  cols_swapped zero m i ds (Row a rest) f ws h = absurd h
  cols_swapped (suc n) m i ds (Word w) f ws h = absurd h
  cols_swapped (suc n) m i ds End f ws h = absurd h
  cols_swapped (suc n) m i ds (Row a rest) f ws h =
      cols_more a (rows_of rest) i 0 m f ws
      ∙ cols_swapped n m (i + 1) ds rest f (lines (λ b. get_or (rows_of a) b z) i 0 m f ws) h.1
      ∙ ap (scatter_list (rows_of rest) (i + 1) (swapped f))
      (lines_are (rows_of a) (λ b. get_or (rows_of a) b z) i 0 m f ws (rows_many (HasShape ds) m a h.0)
      (λ b. let e : 0 + b ≡ b = omega arith in ap (λ v. get_or (rows_of a) v z) e)
      ∙ sym (scatter_each m ds a (under i (swapped f)) ws h.0))

  -- the first two indices change places
  pub scatter_transpose : (n m : ℕ) (ds : List ℕ) (x : Tensor) (f : Placing) (ws : List ℕ) → HasShape (n ∷ m ∷ ds) x
      → scatter (from_rows (columns m z (rows_of x))) f ws ≡ scatter x (swapped f) ws
  scatter_transpose n m ds x f ws h =
      scatter_rows (columns m z (rows_of x)) f ws
      ∙ cols_are (rows_of x) 0 m (λ j. from_rows (map (λ row. get_or (rows_of row) j z) (rows_of x))) f ws
      (λ i. let e : i ≡ 0 + i = omega arith in ap (λ v. from_rows (map (λ row. get_or (rows_of row) v z) (rows_of x))) e)
      ∙ cols_swapped n m 0 ds x f ws h
      ∙ sym (scatter_each n (m ∷ ds) x (swapped f) ws h)
