-- The algebra of scattered tensors: sums, zeros, and rows.
use Rattle.std.proofs.Common.{◌≡◌, ℕ, zero, suc, ◌+◌, ◌-◌, ◌*◌, ◌/◌, ◌%◌, ◌^◌, ◌<◌, ◌≤◌, List, [], ◌∷◌, ◌++◌, length, get_or, set, take, drop, if◌then◌else◌}
use Rattle.std.proofs.Common.{Option, Some, None, refl, sym, ap, ◌∙◌, subst, ⊎_elim, arith, get_or-set_same, get_or-set_other}
use Rattle.std.proofs.lemmas.List.{set-set, set_comm, set_past, set-get_or}
use Rattle.std.proofs.lemmas.Bool.{cases_lt, cases_eq, lt-ltb, le-ltb}
use Rattle.std.proofs.Math.Nat.{mod-add-mod, add-mod-mod, mod-eq_of_lt}
use Rattle.term_tree.specs.Tensors.{Tensor, Word, End, Row, rows_of, from_rows, plus_places, copies, zeros, tabulate, joined}
use Rattle.term_tree.specs.Meaning.{chunks}
use Rattle.std.proofs.lemmas.Nat.{div-mul-add, mod-mul-add}
use Rattle.term_tree.specs.Shaped.{HasRows, HasShape}
use Rattle.lowering_laws.specs.Scatter.{Placing, under, add_at, later, scatter}
use Rattle.lowering_laws.proofs.Algebra.{ext, Words, Words-scatter}
use Rattle.lowering_laws.proofs.RowOrder.{rows_many}
use Rattle.reindexer.specs.Sending.{kept, flattened, spread}
use Rattle.lowering_laws.specs.Sending.{shifted, dropped}

-- two words added to one word, in either order
plus_twice : (x v w : ℕ) → ((x + w) % 2 ^ 64 + v) % 2 ^ 64 ≡ ((x + v) % 2 ^ 64 + w) % 2 ^ 64
plus_twice x v w =
    let e : x + w + v ≡ x + v + w = omega arith in
    mod-add-mod (x + w) (2 ^ 64) v ∙ ap (λ n. n % 2 ^ 64) e ∙ sym (mod-add-mod (x + v) (2 ^ 64) w)

add_at_same : (p v w : ℕ) (ws : List ℕ) → p < length ws → add_at (Some p) v (add_at (Some p) w ws) ≡ set ws p (((get_or ws p 0 + w) % 2 ^ 64 + v) % 2 ^ 64)
add_at_same p v w ws h =
    set-set ws p _ _ ∙ ap (λ n. set ws p ((n + v) % 2 ^ 64)) (get_or-set_same ws p ((get_or ws p 0 + w) % 2 ^ 64) 0 h)

add_at_past : (p v : ℕ) (ws : List ℕ) → length ws ≤ p → add_at (Some p) v ws ≡ ws
add_at_past p v ws h = set_past ws p _ h

add_at_comm : (o q : Option ℕ) (v w : ℕ) (ws : List ℕ) → add_at o v (add_at q w ws) ≡ add_at q w (add_at o v ws)
add_at_comm None q v w ws = refl
add_at_comm (Some p) None v w ws = refl
add_at_comm (Some p) (Some q) v w ws =
    ⊎_elim
    (λ (e : p ≡ q).
    ⊎_elim
    (λ (h : p < length ws). subst (λ n. add_at (Some p) v (add_at (Some n) w ws) ≡ add_at (Some n) w (add_at (Some p) v ws)) e
    (add_at_same p v w ws h ∙ ap (set ws p) (plus_twice (get_or ws p 0) v w) ∙ sym (add_at_same p w v ws h)))
    (λ (h : length ws ≤ p). subst (λ n. add_at (Some p) v (add_at (Some n) w ws) ≡ add_at (Some n) w (add_at (Some p) v ws)) e
    (ap (add_at (Some p) v) (add_at_past p w ws h) ∙ add_at_past p v ws h ∙ sym (ap (add_at (Some p) w) (add_at_past p v ws h) ∙ add_at_past p w ws h)))
    (cases_lt p (length ws)))
    (λ (ne : p ≡ q → ⊥).
    let en : q ≡ p → ⊥ = λ e. ne (sym e) in
    ap (λ n. set (set ws q ((get_or ws q 0 + w) % 2 ^ 64)) p ((n + v) % 2 ^ 64)) (get_or-set_other ws q p _ 0 ne)
    ∙ set_comm ws q p _ _ en
    ∙ ap (λ n. set (set ws p ((get_or ws p 0 + v) % 2 ^ 64)) q ((n + w) % 2 ^ 64)) (sym (get_or-set_other ws p q _ 0 en)))
    (cases_eq p q)

add_at_scatter : (t : Tensor) (f : Placing) (o : Option ℕ) (w : ℕ) (ws : List ℕ) → scatter t f (add_at o w ws) ≡ add_at o w (scatter t f ws)
add_at_scatter (Word v) f o w ws = add_at_comm (f []) o v w ws
add_at_scatter End f o w ws = refl
add_at_scatter (Row a rest) f o w ws = ap (scatter rest (later f)) (add_at_scatter a (under 0 f) o w ws)
    ∙ add_at_scatter rest (later f) o w (scatter a (under 0 f) ws)

pub scatter_comm : (t u : Tensor) (f g : Placing) (ws : List ℕ) → scatter t f (scatter u g ws) ≡ scatter u g (scatter t f ws)
scatter_comm (Word v) u f g ws = sym (add_at_scatter u g (f []) v ws)
scatter_comm End u f g ws = refl
scatter_comm (Row a rest) u f g ws = ap (scatter rest (later f)) (scatter_comm a u (under 0 f) g ws)
    ∙ scatter_comm rest u (later f) g (scatter a (under 0 f) ws)

add_at_sum : (o : Option ℕ) (a b : ℕ) (ws : List ℕ) → add_at o ((a + b) % 2 ^ 64) ws ≡ add_at o b (add_at o a ws)
add_at_sum None a b ws = refl
add_at_sum (Some p) a b ws =
    ⊎_elim
    (λ (h : p < length ws).
    let e : get_or ws p 0 + (a + b) ≡ get_or ws p 0 + a + b = omega arith in
    ap (set ws p) (add-mod-mod (get_or ws p 0) (a + b) (2 ^ 64) ∙ ap (λ n. n % 2 ^ 64) e ∙ sym (mod-add-mod (get_or ws p 0 + a) (2 ^ 64) b))
    ∙ sym (add_at_same p b a ws h))
    (λ (h : length ws ≤ p). add_at_past p _ ws h ∙ sym (ap (add_at (Some p) b) (add_at_past p a ws h) ∙ add_at_past p b ws h))
    (cases_lt p (length ws))

-- the words of a sum are added one after another
pub scatter_plus : (t u : Tensor) (ds : List ℕ) (f : Placing) (ws : List ℕ) → HasShape ds t → HasShape ds u
    → scatter (plus_places t u) f ws ≡ scatter u f (scatter t f ws)
scatter_plus (Word a) (Word b) ds f ws h k = add_at_sum (f []) a b ws
scatter_plus (Word a) End [] f ws h k = absurd k
scatter_plus (Word a) End (zero ∷ ds) f ws h k = absurd h
scatter_plus (Word a) End (suc n ∷ ds) f ws h k = absurd h
scatter_plus (Word a) (Row b more) [] f ws h k = absurd k
scatter_plus (Word a) (Row b more) (zero ∷ ds) f ws h k = absurd h
scatter_plus (Word a) (Row b more) (suc n ∷ ds) f ws h k = absurd h
scatter_plus End (Word b) [] f ws h k = absurd h
scatter_plus End (Word b) (zero ∷ ds) f ws h k = absurd k
scatter_plus End (Word b) (suc n ∷ ds) f ws h k = absurd h
scatter_plus End End ds f ws h k = refl
scatter_plus End (Row b more) [] f ws h k = absurd h
scatter_plus End (Row b more) (zero ∷ ds) f ws h k = absurd k
scatter_plus End (Row b more) (suc n ∷ ds) f ws h k = absurd h
scatter_plus (Row a rest) (Word b) [] f ws h k = absurd h
scatter_plus (Row a rest) (Word b) (zero ∷ ds) f ws h k = absurd h
scatter_plus (Row a rest) (Word b) (suc n ∷ ds) f ws h k = absurd k
scatter_plus (Row a rest) End [] f ws h k = absurd h
scatter_plus (Row a rest) End (zero ∷ ds) f ws h k = absurd h
scatter_plus (Row a rest) End (suc n ∷ ds) f ws h k = absurd k
scatter_plus (Row a rest) (Row b more) [] f ws h k = absurd h
scatter_plus (Row a rest) (Row b more) (zero ∷ ds) f ws h k = absurd h
scatter_plus (Row a rest) (Row b more) (suc n ∷ ds) f ws h k =
    ap (scatter (plus_places rest more) (later f)) (scatter_plus a b ds (under 0 f) ws h.0 k.0)
    ∙ scatter_plus rest more (n ∷ ds) (later f) (scatter b (under 0 f) (scatter a (under 0 f) ws)) h.1 k.1
    ∙ ap (scatter more (later f)) (scatter_comm rest b (later f) (under 0 f) (scatter a (under 0 f) ws))

add_at_zero : (o : Option ℕ) (ws : List ℕ) → Words ws → add_at o 0 ws ≡ ws
add_at_zero None ws h = refl
add_at_zero (Some p) ws h =
    let e : get_or ws p 0 + 0 ≡ get_or ws p 0 = omega arith in
    ap (set ws p) (ap (λ n. n % 2 ^ 64) e ∙ mod-eq_of_lt (h p)) ∙ set-get_or ws p 0

copies_nothing : (n : ℕ) (t : Tensor) (f : Placing) (ws : List ℕ) → ((g : Placing) → scatter t g ws ≡ ws) → scatter (from_rows (copies n t)) f ws ≡ ws
copies_nothing zero t f ws h = refl
copies_nothing (suc n) t f ws h = ap (scatter (from_rows (copies n t)) (later f)) (h (under 0 f)) ∙ copies_nothing n t (later f) ws h

-- adding nothing but zeros changes nothing
pub scatter_zeros : (ds : List ℕ) (f : Placing) (ws : List ℕ) → Words ws → scatter (zeros ds) f ws ≡ ws
scatter_zeros [] f ws h = add_at_zero (f []) ws h
scatter_zeros (d ∷ ds) f ws h = copies_nothing d (zeros ds) f ws (λ g. scatter_zeros ds g ws h)

-- rows from the i-th on, one after another
abbrev pub scatter_list : List Tensor → ℕ → Placing → List ℕ → List ℕ
scatter_list [] i f ws = ws
scatter_list (t ∷ ts) i f ws = scatter_list ts (i + 1) f (scatter t (under i f) ws)

list_from : (ts : List Tensor) (i : ℕ) (f k : Placing) (ws : List ℕ) → ((j : ℕ) (ix : List ℕ) → k (j ∷ ix) ≡ f ((i + j) ∷ ix))
    → scatter (from_rows ts) k ws ≡ scatter_list ts i f ws
list_from [] i f k ws b = refl
list_from (t ∷ ts) i f k ws b =
    let z : i + 0 ≡ i = omega arith in
    let place : under 0 k ≡ under i f = ext (λ ix. b 0 ix ∙ ap (λ j. f (j ∷ ix)) z) in
    ap (λ g. scatter (from_rows ts) (later k) (scatter t g ws)) place
    ∙ list_from ts (i + 1) f (later k) (scatter t (under i f) ws) (λ j ix. let e : i + suc j ≡ i + 1 + j = omega arith in b (suc j) ix ∙ ap (λ v. f (v ∷ ix)) e)

pub scatter_rows : (ts : List Tensor) (f : Placing) (ws : List ℕ) → scatter (from_rows ts) f ws ≡ scatter_list ts 0 f ws
scatter_rows ts f ws = list_from ts 0 f f ws (λ j ix. let e : j ≡ 0 + j = omega arith in ap (λ v. f (v ∷ ix)) e)

pub rows_again : (P : Tensor → Type 0) (n : ℕ) (t : Tensor) → HasRows P n t → t ≡ from_rows (rows_of t)
rows_again P zero (Word w) h = absurd h
rows_again P zero End h = refl
rows_again P zero (Row a rest) h = absurd h
rows_again P (suc n) (Word w) h = absurd h
rows_again P (suc n) End h = absurd h
rows_again P (suc n) (Row a rest) h = ap (Row a) (rows_again P n rest h.1)

-- a tensor with rows, row by row
pub scatter_each : (n : ℕ) (ds : List ℕ) (t : Tensor) (f : Placing) (ws : List ℕ) → HasShape (n ∷ ds) t → scatter t f ws ≡ scatter_list (rows_of t) 0 f ws
scatter_each n ds t f ws h = ap (λ u. scatter u f ws) (rows_again (HasShape ds) n t h) ∙ scatter_rows (rows_of t) f ws

scatter_append : (ts us : List Tensor) (i j : ℕ) (f : Placing) (ws : List ℕ) → i + length ts ≡ j
    → scatter_list (ts ++ us) i f ws ≡ scatter_list us j f (scatter_list ts i f ws)
scatter_append [] us i j f ws e = let e' : i ≡ j = omega arith in ap (λ k. scatter_list us k f ws) e'
scatter_append (t ∷ ts) us i j f ws e = scatter_append ts us (i + 1) j f (scatter t (under i f) ws) (omega arith)

scatter_shifted : (ts : List Tensor) (n i j : ℕ) (f : Placing) (ws : List ℕ) → n + i ≡ j → scatter_list ts i (shifted n f) ws ≡ scatter_list ts j f ws
scatter_shifted [] n i j f ws e = refl
scatter_shifted (t ∷ ts) n i j f ws e =
    ap (λ k. scatter_list ts (i + 1) (shifted n f) (scatter t (λ ix. f (k ∷ ix)) ws)) e
    ∙ scatter_shifted ts n (i + 1) (j + 1) f (scatter t (under j f) ws) (omega arith)

-- concat: the right part is moved by the left extent
pub scatter_concat : (n m : ℕ) (ds : List ℕ) (x y : Tensor) (f : Placing) (ws : List ℕ) → HasShape (n ∷ ds) x → HasShape (m ∷ ds) y
    → scatter (from_rows (rows_of x ++ rows_of y)) f ws ≡ scatter y (shifted n f) (scatter x f ws)
scatter_concat n m ds x y f ws h k =
    let c = rows_many (HasShape ds) n x h in
    scatter_rows (rows_of x ++ rows_of y) f ws
    ∙ scatter_append (rows_of x) (rows_of y) 0 n f ws (omega arith)
    ∙ sym (scatter_shifted (rows_of y) n 0 n f (scatter_list (rows_of x) 0 f ws) (omega arith))
    ∙ ap (scatter_list (rows_of y) 0 (shifted n f)) (sym (scatter_each n ds x f ws h))
    ∙ sym (scatter_each m ds y (shifted n f) (scatter x f ws) k)

zero_rows : (a j : ℕ) (ds : List ℕ) (f : Placing) (ws : List ℕ) → Words ws → scatter_list (copies a (zeros ds)) j f ws ≡ ws
zero_rows zero j ds f ws h = refl
zero_rows (suc a) j ds f ws h = ap (scatter_list (copies a (zeros ds)) (j + 1) f) (scatter_zeros ds (under j f) ws h) ∙ zero_rows a (j + 1) ds f ws h

length-copies : (a : ℕ) (t : Tensor) → length (copies a t) ≡ a
length-copies zero t = refl
length-copies (suc a) t = ap (λ n. suc n) (length-copies a t)

-- zero rows behind
pub scatter_pad_r : (a n : ℕ) (ds : List ℕ) (x : Tensor) (f : Placing) (ws : List ℕ) → Words ws → HasShape (n ∷ ds) x
    → scatter (from_rows (rows_of x ++ copies a (zeros ds))) f ws ≡ scatter x f ws
scatter_pad_r a n ds x f ws w h =
    let c = rows_many (HasShape ds) n x h in
    scatter_rows (rows_of x ++ copies a (zeros ds)) f ws
    ∙ scatter_append (rows_of x) (copies a (zeros ds)) 0 n f ws (omega arith)
    ∙ ap (scatter_list (copies a (zeros ds)) n f) (sym (scatter_each n ds x f ws h))
    ∙ zero_rows a n ds f (scatter x f ws) (Words-scatter x f ws w)

-- zero rows before: moved up
pub scatter_pad_l : (a n : ℕ) (ds : List ℕ) (x : Tensor) (f : Placing) (ws : List ℕ) → Words ws → HasShape (n ∷ ds) x
    → scatter (from_rows (copies a (zeros ds) ++ rows_of x)) f ws ≡ scatter x (shifted a f) ws
scatter_pad_l a n ds x f ws w h =
    let c = length-copies a (zeros ds) in
    scatter_rows (copies a (zeros ds) ++ rows_of x) f ws
    ∙ scatter_append (copies a (zeros ds)) (rows_of x) 0 a f ws (omega arith)
    ∙ ap (scatter_list (rows_of x) a f) (zero_rows a 0 ds f ws w)
    ∙ sym (scatter_shifted (rows_of x) a 0 a f ws (omega arith))
    ∙ sym (scatter_each n ds x (shifted a f) ws h)

no_place : Placing
no_place ix = None

off : (t : Tensor) (ws : List ℕ) → scatter t (λ ix. None) ws ≡ ws
off (Word w) ws = refl
off End ws = refl
off (Row a rest) ws = ap (λ g. scatter rest g (scatter a (λ ix. None) ws)) later_none ∙ ap (scatter rest (λ ix. None)) (off a ws) ∙ off rest ws
  where
    later_none : later (λ ix. None) ≡ (λ ix. None)
    later_none = ext one
      where
        one : (ix : List ℕ) → later (λ ix. None) ix ≡ None
        one [] = refl
        one (i ∷ ix) = refl

kept_row : (m i : ℕ) (f : Placing) → i < m → under i (kept m f) ≡ under i f
kept_row m i f h = ext (λ ix. ap (λ b. if b then f (i ∷ ix) else None) (lt-ltb i m h))

kept_no_row : (m i : ℕ) (f : Placing) → m ≤ i → under i (kept m f) ≡ (λ ix. None)
kept_no_row m i f h = ext (λ ix. ap (λ b. if b then f (i ∷ ix) else None) (le-ltb i m h))

kept_none : (ts : List Tensor) (m i : ℕ) (f : Placing) (ws : List ℕ) → m ≤ i → scatter_list ts i (kept m f) ws ≡ ws
kept_none [] m i f ws h = refl
kept_none (t ∷ ts) m i f ws h =
    ap (scatter_list ts (i + 1) (kept m f)) (ap (λ g. scatter t g ws) (kept_no_row m i f h) ∙ off t ws) ∙ kept_none ts m (i + 1) f ws (omega arith)

first_rows : (ts : List Tensor) (n m i : ℕ) (f : Placing) (ws : List ℕ) → i + n ≡ m → scatter_list (take n ts) i f ws ≡ scatter_list ts i (kept m f) ws
first_rows ts zero m i f ws e = sym (kept_none ts m i f ws (omega arith))
first_rows [] (suc n) m i f ws e = refl
first_rows (t ∷ ts) (suc n) m i f ws e =
    first_rows ts n m (i + 1) f (scatter t (under i f) ws) (omega arith)
    ∙ ap (λ g. scatter_list ts (i + 1) (kept m f) (scatter t g ws)) (sym (kept_row m i f (omega arith)))

-- the first rows alone are kept
pub scatter_first : (a n : ℕ) (ds : List ℕ) (x : Tensor) (f : Placing) (ws : List ℕ) → HasShape (n ∷ ds) x
    → scatter (from_rows (take (length (rows_of x) - a) (rows_of x))) f ws ≡ scatter x (kept (n - a) f) ws
scatter_first a n ds x f ws h =
    let c = rows_many (HasShape ds) n x h in
    scatter_rows (take (length (rows_of x) - a) (rows_of x)) f ws
    ∙ first_rows (rows_of x) (length (rows_of x) - a) (n - a) 0 f ws (omega arith)
    ∙ sym (scatter_each n ds x (kept (n - a) f) ws h)

dropped_row : (a i j : ℕ) (f : Placing) → a + j ≡ i → under i (dropped a f) ≡ under j f
dropped_row a i j f e =
    let l : a ≤ i = omega arith in
    let d : i - a ≡ j = omega arith in
    ext (λ ix. ap (λ b. if b then None else f ((i - a) ∷ ix)) (le-ltb i a l) ∙ ap (λ k. f (k ∷ ix)) d)

dropped_no_row : (a i : ℕ) (f : Placing) → i < a → under i (dropped a f) ≡ (λ ix. None)
dropped_no_row a i f h = ext (λ ix. ap (λ b. if b then None else f ((i - a) ∷ ix)) (lt-ltb i a h))

dropped_rest : (ts : List Tensor) (a i j : ℕ) (f : Placing) (ws : List ℕ) → a + j ≡ i → scatter_list ts j f ws ≡ scatter_list ts i (dropped a f) ws
dropped_rest [] a i j f ws e = refl
dropped_rest (t ∷ ts) a i j f ws e =
    dropped_rest ts a (i + 1) (j + 1) f (scatter t (under j f) ws) (omega arith)
    ∙ ap (λ g. scatter_list ts (i + 1) (dropped a f) (scatter t g ws)) (sym (dropped_row a i j f e))

later_rows : (ts : List Tensor) (n a i j : ℕ) (f : Placing) (ws : List ℕ) → i + n ≡ a → j ≡ 0
    → scatter_list (drop n ts) j f ws ≡ scatter_list ts i (dropped a f) ws
later_rows ts zero a i j f ws e z = dropped_rest ts a i j f ws (omega arith)
later_rows [] (suc n) a i j f ws e z = refl
later_rows (t ∷ ts) (suc n) a i j f ws e z =
    later_rows ts n a (i + 1) j f ws (omega arith) z
    ∙ ap (scatter_list ts (i + 1) (dropped a f)) (sym (ap (λ g. scatter t g ws) (dropped_no_row a i f (omega arith)) ∙ off t ws))

-- the first rows are dropped
pub scatter_later : (a n : ℕ) (ds : List ℕ) (x : Tensor) (f : Placing) (ws : List ℕ) → HasShape (n ∷ ds) x
    → scatter (from_rows (drop a (rows_of x))) f ws ≡ scatter x (dropped a f) ws
scatter_later a n ds x f ws h =
    scatter_rows (drop a (rows_of x)) f ws ∙ later_rows (rows_of x) a a 0 0 f ws (omega arith) refl ∙ sym (scatter_each n ds x (dropped a f) ws h)

flatten_row : (us : List Tensor) (m x y j : ℕ) (f : Placing) (ws : List ℕ) → x * m + y ≡ j
    → scatter_list us y (under x (flattened m f)) ws ≡ scatter_list us j f ws
flatten_row [] m x y j f ws e = refl
flatten_row (u ∷ us) m x y j f ws e =
    ap (λ k. scatter_list us (y + 1) (under x (flattened m f)) (scatter u (λ ix. f (k ∷ ix)) ws)) e
    ∙ flatten_row us m x (y + 1) (j + 1) f (scatter u (under j f) ws) (omega arith)

flat_list : (n m : ℕ) (ds : List ℕ) (x : Tensor) (i j : ℕ) (f : Placing) (ws : List ℕ) → HasRows (HasShape (m ∷ ds)) n x → i * m ≡ j
    → scatter_list (rows_of x) i (flattened m f) ws ≡ scatter_list (joined (rows_of x)) j f ws
flat_list zero m ds (Word w) i j f ws h e = absurd h
flat_list zero m ds End i j f ws h e = refl
flat_list zero m ds (Row a rest) i j f ws h e = absurd h
flat_list (suc n) m ds (Word w) i j f ws h e = absurd h
flat_list (suc n) m ds End i j f ws h e = absurd h
flat_list (suc n) m ds (Row a rest) i j f ws h e =
    let c = rows_many (HasShape ds) m a h.0 in
    let z : i * m + 0 ≡ j = omega arith in
    let y : (i + 1) * m ≡ j + m = grind arith in
    ap (scatter_list (rows_of rest) (i + 1) (flattened m f)) (scatter_each m ds a (under i (flattened m f)) ws h.0 ∙ flatten_row (rows_of a) m i 0 j f ws z)
    ∙ flat_list n m ds rest (i + 1) (j + m) f (scatter_list (rows_of a) j f ws) h.1 y
    ∙ sym (scatter_append (rows_of a) (joined (rows_of rest)) j (j + m) f ws (omega arith))

-- the first two indices make one
pub scatter_flatten : (n m : ℕ) (ds : List ℕ) (x : Tensor) (f : Placing) (ws : List ℕ) → HasShape (n ∷ m ∷ ds) x
    → scatter (from_rows (joined (rows_of x))) f ws ≡ scatter x (flattened m f) ws
scatter_flatten n m ds x f ws h =
    let z : 0 * m ≡ 0 = omega arith in
    scatter_rows (joined (rows_of x)) f ws ∙ sym (flat_list n m ds x 0 0 f ws h z) ∙ sym (scatter_each n (m ∷ ds) x (flattened m f) ws h)

zero_places : (n y : ℕ) (ds : List ℕ) (f : Placing) (ws : List ℕ) → Words ws → scatter_list (tabulate n (λ i. get_or [] i (zeros ds))) y f ws ≡ ws
zero_places zero y ds f ws h = refl
zero_places (suc n) y ds f ws h = ap (scatter_list (tabulate n (λ i. get_or [] i (zeros ds))) (y + 1) f) (scatter_zeros ds (under y f) ws h)
    ∙ zero_places n (y + 1) ds f ws h

chunk : (n k c y x : ℕ) (ts : List Tensor) (ds : List ℕ) (f : Placing) (ws : List ℕ) → Words ws → y + n ≤ k → c * k + y ≡ x
    → scatter_list (tabulate n (λ i. get_or ts i (zeros ds))) y (under c f) ws ≡ scatter_list (take n ts) x (spread k f) ws
chunk zero k c y x ts ds f ws h l e = refl
chunk (suc n) k c y x [] ds f ws h l e = zero_places (suc n) y ds (under c f) ws h
chunk (suc n) k c y x (t ∷ ts) ds f ws h l e =
    let below : y < k = omega arith in
    let q : x / k ≡ c = ap (λ v. v / k) (sym e) ∙ div-mul-add c k y below in
    let r : x % k ≡ y = ap (λ v. v % k) (sym e) ∙ mod-mul-add c k y below in
    let same : under y (under c f) ≡ under x (spread k f) = ext (λ ix. ap (λ v. f (v ∷ y ∷ ix)) (sym q) ∙ ap (λ v. f ((x / k) ∷ v ∷ ix)) (sym r)) in
    ap (λ g. scatter_list (tabulate n (λ i. get_or ts i (zeros ds))) (y + 1) (under c f) (scatter t g ws)) same
    ∙ chunk n k c (y + 1) (x + 1) ts ds f (scatter t (under x (spread k f)) ws) (Words-scatter t (under x (spread k f)) ws h) (omega arith) (omega arith)

two_parts : (k i j : ℕ) (ts : List Tensor) (f : Placing) (ws : List ℕ) → i + k ≡ j
    → scatter_list (drop k ts) j f (scatter_list (take k ts) i f ws) ≡ scatter_list ts i f ws
two_parts zero i j ts f ws e = let e' : j ≡ i = omega arith in ap (λ n. scatter_list ts n f ws) e'
two_parts (suc k) i j [] f ws e = refl
two_parts (suc k) i j (t ∷ ts) f ws e = two_parts k (i + 1) j ts f (scatter t (under i f) ws) (omega arith)

length_drop : (k : ℕ) (ts : List Tensor) → length (drop k ts) ≡ length ts - k
length_drop zero ts = omega arith
length_drop (suc k) [] = omega arith
length_drop (suc k) (t ∷ ts) = length_drop k ts ∙ omega arith

words_list : (ts : List Tensor) (i : ℕ) (f : Placing) (ws : List ℕ) → Words ws → Words (scatter_list ts i f ws)
words_list [] i f ws h = h
words_list (t ∷ ts) i f ws h = words_list ts (i + 1) f (scatter t (under i f) ws) (Words-scatter t (under i f) ws h)

chunk_list : (q k c i : ℕ) (ts : List Tensor) (ds : List ℕ) (f : Placing) (ws : List ℕ) → Words ws → length ts ≤ q * k → c * k ≡ i
    → scatter_list (chunks q k (zeros ds) ts) c f ws ≡ scatter_list ts i (spread k f) ws
chunk_list zero k c i [] ds f ws h l e = refl
chunk_list zero k c i (t ∷ ts) ds f ws h l e = absurd (omega (arith, l))
chunk_list (suc q) k c i ts ds f ws h l e =
    let z : c * k + 0 ≡ i = omega arith in
    let y : (c + 1) * k ≡ i + k = grind arith in
    let m : suc q * k ≡ k + q * k = grind arith in
    ap (scatter_list (chunks q k (zeros ds) (drop k ts)) (c + 1) f) (scatter_rows (tabulate k (λ i. get_or ts i (zeros ds))) (under c f) ws
    ∙ chunk k k c 0 i ts ds f ws h (omega arith) z)
    ∙ chunk_list q k (c + 1) (i + k) (drop k ts) ds f (scatter_list (take k ts) i (spread k f) ws) (words_list (take k ts) i (spread k f) ws h)
    (omega (arith, length_drop k ts, l, m)) y
    ∙ two_parts k i (i + k) ts (spread k f) ws refl

-- the first index makes two
pub scatter_split : (n q k : ℕ) (ds : List ℕ) (x : Tensor) (f : Placing) (ws : List ℕ) → Words ws → HasShape (n ∷ ds) x → n ≤ q * k
    → scatter (from_rows (chunks q k (zeros ds) (rows_of x))) f ws ≡ scatter x (spread k f) ws
scatter_split n q k ds x f ws w h l =
    let c = rows_many (HasShape ds) n x h in
    let z : 0 * k ≡ 0 = omega arith in
    scatter_rows (chunks q k (zeros ds) (rows_of x)) f ws ∙ chunk_list q k 0 0 (rows_of x) ds f ws w (omega (arith, c, l)) z
    ∙ sym (scatter_each n ds x (spread k f) ws h)
