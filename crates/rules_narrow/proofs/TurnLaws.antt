-- A sum that is zeros before and after some of its turns.
use Rattle.std.proofs.Common.{◌≡◌, ℕ, ◌+◌, ◌<◌, ◌++◌, ◌∙◌, arith, Bool, true, false, if◌then◌else◌, refl}
use Rattle.std.specs.Prelude.{ℤ, pos, negsuc, ◌+ℤ◌, ◌≤ℤ◌}
use Rattle.std.proofs.lemmas.Int.{ints}
use Rattle.binders.proofs.Rows.{same_tabulate, tabulate-add}
use Rattle.binders.proofs.Sums.{plus_comm, total-absorbs, total-append, total-zeros}
use Rattle.term_tree.specs.Meaning.{count_of}
use Rattle.term_tree.specs.Tensors.{Tensor, plus_places, tabulate, total}

module _ (z : Tensor) (idem : plus_places z z ≡ z) where
  zeros_total : (n : ℕ) (g : ℕ → Tensor) → ((i : ℕ) → i < n → g i ≡ z) → total z (tabulate n g) ≡ z
  zeros_total n g h = (λ l. total z (same_tabulate n g (λ i. z) h l)) ∙ total-zeros z idem n

  pub narrow_total : (a m k : ℕ) (g : ℕ → Tensor) → ((i : ℕ) → i < a → g i ≡ z) → ((i : ℕ) → i < k → g (a + (m + i)) ≡ z)
      → total z (tabulate (a + (m + k)) g) ≡ total z (tabulate m (λ i. g (a + i)))
  narrow_total a m k g h t =
      (λ l. total z (tabulate-add a (m + k) g l))
      ∙ total-append z idem (tabulate a g) (tabulate (m + k) (λ i. g (a + i)))
      ∙ (λ l. plus_places (zeros_total a g h l) (total z (tabulate-add m k (λ i. g (a + i)) l)))
      ∙ plus_comm z (total z (tabulate m (λ i. g (a + i)) ++ tabulate k (λ i. g (a + (m + i)))))
      ∙ total-absorbs z idem (tabulate m (λ i. g (a + i)) ++ tabulate k (λ i. g (a + (m + i))))
      ∙ total-append z idem (tabulate m (λ i. g (a + i))) (tabulate k (λ i. g (a + (m + i))))
      ∙ (λ l. plus_places (total z (tabulate m (λ i. g (a + i)))) (zeros_total k (λ i. g (a + (m + i))) t l))
      ∙ total-absorbs z idem (tabulate m (λ i. g (a + i)))

-- a choice that is not taken
pub not_taken : (h : Bool) (x z : Tensor) → (h ≡ true → ⊥) → (if h then x else z) ≡ z
not_taken true x z k = absurd (k refl)
not_taken false x z k = refl

-- turns before, in and after a range
pub counted : (z : ℤ) → pos 0 ≤ℤ z → z ≡ pos (count_of z)
counted (pos n) h = refl
counted (negsuc n) h = absurd (omega (arith, ints, h))

pub three_counts : (a m k n : ℤ) → k +ℤ (a +ℤ m) ≡ n → pos 0 ≤ℤ a → pos 0 ≤ℤ m → pos 0 ≤ℤ k → count_of a + (count_of m + count_of k) ≡ count_of n
three_counts (pos a) (pos m) (pos k) (pos n) e g h l = omega (arith, ints, e)
three_counts (pos a) (pos m) (pos k) (negsuc n) e g h l = absurd (omega (arith, ints, e))
three_counts (negsuc a) m k n e g h l = absurd (omega (arith, ints, g))
three_counts a (negsuc m) k n e g h l = absurd (omega (arith, ints, h))
three_counts a m (negsuc k) n e g h l = absurd (omega (arith, ints, l))
