-- Row-order places: of two tuples within the extents they are different and below the number of words.
use Rattle.std.proofs.Common.{◌≡◌, ℕ, ◌+◌, ◌*◌, ◌<◌, List, [], ◌∷◌, Some, refl, ap, ◌∙◌, subst, arith}
use Rattle.std.proofs.lemmas.Nat.{mul-add-lt, same_from_place}
use Rattle.std.proofs.Math.Nat.{mul_comm}
use Rattle.term_tree.specs.Shaped.{word_count}
use Rattle.reindexer.specs.Sending.{Within, placed, row_order}

pub placed-is : (at : ℕ) (ds ix : List ℕ) → Within ds ix → placed at ds ix ≡ Some (at + row_order ds ix)
placed-is at [] [] h = let e : at ≡ at + 0 = omega arith in ap Some e
placed-is at [] (i ∷ ix) h = absurd h
placed-is at (d ∷ ds) [] h = absurd h
placed-is at (d ∷ ds) (i ∷ ix) h =
    let e : at + i * word_count ds + row_order ds ix ≡ at + (i * word_count ds + row_order ds ix) = omega arith in
    placed-is (at + i * word_count ds) ds ix h.1 ∙ ap Some e

pub place_lt : (ds ix : List ℕ) → Within ds ix → row_order ds ix < word_count ds
place_lt [] [] h = omega arith
place_lt [] (i ∷ ix) h = absurd h
place_lt (d ∷ ds) [] h = absurd h
place_lt (d ∷ ds) (i ∷ ix) h = subst (λ n. i * word_count ds + row_order ds ix < n) (mul_comm (word_count ds) d)
    (mul-add-lt i (word_count ds) (row_order ds ix) d h.0 (place_lt ds ix h.1))

pub place_inj : (ds ix jx : List ℕ) → Within ds ix → Within ds jx → row_order ds ix ≡ row_order ds jx → ix ≡ jx
place_inj [] [] [] h k e = refl
place_inj [] [] (j ∷ jx) h k e = absurd k
place_inj [] (i ∷ ix) jx h k e = absurd h
place_inj (d ∷ ds) [] jx h k e = absurd h
place_inj (d ∷ ds) (i ∷ ix) [] h k e = absurd k
place_inj (d ∷ ds) (i ∷ ix) (j ∷ jx) h k e =
    let both = same_from_place i (row_order ds ix) j (row_order ds jx) (word_count ds) (place_lt ds ix h.1) (place_lt ds jx k.1) e in
    ap (λ n. n ∷ ix) both.0 ∙ ap (λ xs. j ∷ xs) (place_inj ds ix jx h.1 k.1 both.1)
