-- One word, one output and one term more in a sum.
use Rattle.std.proofs.Common.{◌≡◌, ◌∙◌, ℕ, zero, suc, ◌+◌, ◌-◌, ◌*◌, ◌%◌, ◌^◌, ◌<◌, ◌≤◌, List, [], ◌∷◌, length, take, get_or, add-one, ap, arith}
use Rattle.std.specs.Prelude.{All, min}
use Rattle.term_tree.specs.Counts.{node_count}
use Rattle.term_tree.specs.declared.term.OutputDecl.{OutputDecl}
use Rattle.source_grammar.specs.Source.{nodes}
use Rattle.trial_run.specs.TrialRun.{output_sum, total, word_sum}

word-taken : (ws : List ℕ) (i d : ℕ) → i < length ws → word_sum (take (suc i) ws) ≡ word_sum (take i ws) + get_or ws i d
word-taken [] i d h = absurd (omega (arith, h))
word-taken (w ∷ ws) zero d h = omega arith
word-taken (w ∷ ws) (suc i) d h = omega (arith, word-taken ws i d (omega (arith, h)))

sum-on : (sum before word after t : ℕ) → t ≡ (sum + before) % 2 ^ 64 → after ≡ before + word → (t + word) % 2 ^ 64 ≡ (sum + after) % 2 ^ 64
sum-on sum before word after t e f = omega (arith, e, f)

pub word-more : (sum : ℕ) (ws : List ℕ) (i d t : ℕ) → i < length ws → t ≡ (sum + word_sum (take i ws)) % 2 ^ 64
    → (t + get_or ws i d) % 2 ^ 64 ≡ (sum + word_sum (take (i + 1) ws)) % 2 ^ 64
word-more sum ws i d t h e =
    sum-on sum (word_sum (take i ws)) (get_or ws i d) (word_sum (take (i + 1) ws)) t e
    (ap (λ (n : ℕ). word_sum (take n ws)) (add-one i) ∙ word-taken ws i d h)

output-taken : (wss : List (List ℕ)) (i : ℕ) → output_sum (take (suc i) wss) ≡ output_sum (take i wss) + word_sum (get_or wss i [])
output-taken [] zero = omega arith
output-taken [] (suc i) = omega arith
output-taken (ws ∷ wss) zero = omega arith
output-taken (ws ∷ wss) (suc i) = omega (arith, output-taken wss i)

sum-with : (before words after t r : ℕ) → t ≡ before % 2 ^ 64 → r ≡ (t + words) % 2 ^ 64 → after ≡ before + words → r ≡ after % 2 ^ 64
sum-with before words after t r e f g = omega (arith, e, f, g)

pub output-more : (wss : List (List ℕ)) (i t r : ℕ) → t ≡ total (take i wss) → r ≡ (t + word_sum (get_or wss i [])) % 2 ^ 64 → r ≡ total (take (i + 1) wss)
output-more wss i t r e f =
    sum-with (output_sum (take i wss)) (word_sum (get_or wss i [])) (output_sum (take (i + 1) wss)) t r e f
    (ap (λ (n : ℕ). output_sum (take n wss)) (add-one i) ∙ output-taken wss i)

nodes-taken : (ds : List OutputDecl) (i : ℕ) (d : OutputDecl) → i < length ds → nodes (take (suc i) ds) ≡ nodes (take i ds) + node_count (get_or ds i d).term
nodes-taken [] i d h = absurd (omega (arith, h))
nodes-taken (x ∷ ds) zero d h = omega arith
nodes-taken (x ∷ ds) (suc i) d h = omega (arith, nodes-taken ds i d (omega (arith, h)))

module _ (ds : List OutputDecl) (small : All (λ o. node_count o.term ≤ 20000) ds) (few : length ds ≤ 2147483647) where
  nodes-within : (i : ℕ) (d : OutputDecl) → i ≤ length ds → nodes (take i ds) ≤ 20000 * i
  nodes-within zero d h = omega arith
  nodes-within (suc i) d h =
      omega (arith, nodes-taken ds i d (omega (arith, h)), nodes-within i d (omega (arith, h)), small i d (omega (arith, h)))

  nodes-on : (i before here after t n r : ℕ) → i < length ds → before ≤ 20000 * i → here ≤ 20000 → after ≡ before + here → t ≡ before
      → n ≡ min here (2 ^ 64 - 1) → r ≡ min (t + n) (2 ^ 64 - 1) → r ≡ after
  nodes-on i before here after t n r h b s e f g k = omega (arith, h, few, b, s, e, f, g, k)

  pub nodes-more : (i : ℕ) (o : OutputDecl) (t n r : ℕ) → i < length ds → o ≡ get_or ds i o → t ≡ nodes (take i ds) → n ≡ min (node_count o.term) (2 ^ 64 - 1)
      → r ≡ min (t + n) (2 ^ 64 - 1) → r ≡ nodes (take (i + 1) ds)
  nodes-more i o t n r h is e f g =
      nodes-on i (nodes (take i ds)) (node_count (get_or ds i o).term) (nodes (take (i + 1) ds)) t n r h (nodes-within i o (omega (arith, h))) (small i o h)
      (ap (λ (k : ℕ). nodes (take k ds)) (add-one i) ∙ nodes-taken ds i o h) e
      (f ∙ ap (λ (x : OutputDecl). min (node_count x.term) (2 ^ 64 - 1)) is) g
