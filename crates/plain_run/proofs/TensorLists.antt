-- Lists of tensors, and of their words.
use Rattle.std.proofs.Common.{◌≡◌, ◌∙◌, ℕ, zero, suc, ◌+◌, ◌-◌, ◌<◌, ◌≤◌, ◌^◌, min, List, [], ◌∷◌, ◌++◌, length, map, take, drop, get_or, append_assoc}
use Rattle.std.proofs.Common.{append-nil, refl, ap, sym, arith}
use Rattle.std.proofs.lemmas.List.{drop_min, take_min}
use Rattle.term_tree.specs.Shaped.{flat, word_count}
use Rattle.term_tree.specs.Tensors.{Tensor, from_rows}
use Rattle.word_tensors.specs.WordTensors.{rows_of_words, tensor_of}
use Rattle.atl_meaning.specs.Values.{meant}
use Rattle.atl_meaning.specs.declared.tensor.Tensor.{Tensor as Value}
use Rattle.atl_meaning.proofs.ListLaws.{drop-next, map-last}
use Rattle.plain_run.specs.Shapes.{product_of, tensors_of}
use Rattle.plain_run.proofs.ShapeLaws.{times-most}

-- ---- a front of the words, and the others

module _ (ds ws : List ℕ) (c : ℕ) (few : length ws < 2 ^ 64) (e : c ≡ min (min (product_of 0 ds) (2 ^ 64 - 1)) (length ws)) where
  as_many : c ≡ min (word_count ds) (length ws)
  as_many = omega (arith, few, e, times-most ds)

  pub front-words : take c ws ≡ take (word_count ds) ws
  front-words = ap (λ (n : ℕ). take n ws) as_many ∙ take_min (word_count ds) ws

  pub other-words : drop c ws ≡ drop (word_count ds) ws
  other-words = ap (λ (n : ℕ). drop n ws) as_many ∙ drop_min (word_count ds) ws

-- ---- rows, one by one

-- one more, before those that are still to come
last-then : (found : List Value) (t : Value) (x : Tensor) (rest : List Tensor) → meant t ≡ x → map meant (found ++ t ∷ []) ++ rest ≡ map meant found ++ x ∷ rest
last-then found t x rest e =
    ap (λ (ts : List Tensor). ts ++ rest) (map-last meant found t) ∙ append_assoc (map meant found) (meant t ∷ []) rest
    ∙ ap (λ (y : Tensor). map meant found ++ y ∷ rest) e

pub one-row : (f : List ℕ → Tensor) (k count i : ℕ) (rows : List Value) (t : Value) (left : List ℕ) → i < count → meant t ≡ f (take k left)
    → map meant (rows ++ t ∷ []) ++ rows_of_words f k (count - (i + 1)) (drop k left) ≡ map meant rows ++ rows_of_words f k (count - i) left
one-row f k count i rows t left h e =
    let more : count - i ≡ suc (count - (i + 1)) = omega (arith, h) in
    last-then rows t (f (take k left)) (rows_of_words f k (count - (i + 1)) (drop k left)) e
    ∙ ap (λ (n : ℕ). map meant rows ++ rows_of_words f k n left) (sym more)

pub last-row : (f : List ℕ → Tensor) (k count i : ℕ) (rows : List Value) (left : List ℕ) → count ≤ i
    → map meant rows ++ rows_of_words f k (count - i) left ≡ map meant rows
last-row f k count i rows left h =
    let none : count - i ≡ zero = omega (arith, h) in
    ap (λ (n : ℕ). map meant rows ++ rows_of_words f k n left) none ∙ append-nil (map meant rows)

-- ---- tensors, one by one

pub one-tensor : (dss wss : List (List ℕ)) (at : ℕ) (ds ws : List ℕ) (found : List Value) (t : Value) → at < length dss → at < length wss
    → ds ≡ get_or dss at ds → ws ≡ get_or wss at ws → meant t ≡ tensor_of ds ws
    → map meant (found ++ t ∷ []) ++ tensors_of (drop (at + 1) dss) (drop (at + 1) wss) ≡ map meant found ++ tensors_of (drop at dss) (drop at wss)
one-tensor dss wss at ds ws found t p q a b e =
    let shapes = drop-next dss at ds p a in
    let words = drop-next wss at ws q b in
    last-then found t (tensor_of ds ws) (tensors_of (drop (at + 1) dss) (drop (at + 1) wss)) e
    ∙ (λ i. map meant found ++ tensors_of (sym shapes i) (sym words i))

none-left : (dss wss : List (List ℕ)) (at : ℕ) → min (length dss) (length wss) ≤ at → tensors_of (drop at dss) (drop at wss) ≡ []
none-left [] wss zero h = refl
none-left [] wss (suc at) h = refl
none-left (ds ∷ dss) [] zero h = refl
none-left (ds ∷ dss) [] (suc at) h = by (drop at dss)
  where
    by : (dss : List (List ℕ)) → tensors_of dss [] ≡ []
    by [] = refl
    by (ds ∷ dss) = refl
none-left (ds ∷ dss) (ws ∷ wss) zero h = absurd (omega (arith, h))
none-left (ds ∷ dss) (ws ∷ wss) (suc at) h = none-left dss wss at (omega (arith, h))

pub last-tensor : (dss wss : List (List ℕ)) (at : ℕ) (found : List Value) → min (length dss) (length wss) ≤ at
    → map meant found ++ tensors_of (drop at dss) (drop at wss) ≡ map meant found
last-tensor dss wss at found h = ap (λ (ts : List Tensor). map meant found ++ ts) (none-left dss wss at h) ∙ append-nil (map meant found)

-- ---- words, row by row

pub one-flat : (words next : List ℕ) (rows : List Value) (i : ℕ) (row : Value) → i < length rows → row ≡ get_or rows i row → next ≡ words ++ flat (meant row)
    → next ++ flat (from_rows (map meant (drop (i + 1) rows))) ≡ words ++ flat (from_rows (map meant (drop i rows)))
one-flat words next rows i row h is e =
    let rest = flat (from_rows (map meant (drop (i + 1) rows))) in
    ap (λ (ws : List ℕ). ws ++ rest) e ∙ append_assoc words (flat (meant row)) rest
    ∙ ap (λ (rs : List Value). words ++ flat (from_rows (map meant rs))) (sym (drop-next rows i row h is))
