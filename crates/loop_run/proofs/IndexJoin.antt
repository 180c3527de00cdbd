-- Where all numbers fit, the value of an index expression is that of its meaning.
use Rattle.std.proofs.Common.{◌≡◌, ◌<◌, ℕ, zero, suc, ◌-◌, ◌^◌, min, true, nat_lt, List, [], ◌∷◌, get_or, refl, ap, arith, ◌∙◌, ltb-true}
use Rattle.std.specs.Prelude.{pos, ◌/◌, ◌%◌, ◌+ℤ◌, ◌-ℤ◌, ◌*ℤ◌}
use Rattle.std.proofs.lemmas.Bool.{and_parts}
use Rattle.loop_lang.specs.declared.index.Iexp.{Iexp}
use Rattle.loop_lang.specs.declared.index.Iexp as form
use Rattle.loop_lang.specs.declared.index.Test.{Test}
use Rattle.loop_lang.specs.Syntax.{index_sum, index_difference, index_product, index_quotient, index_remainder, index_larger}
use Rattle.loop_lang.specs.Reckoning.{Reckoned, Value, checked, with_value, on_both, of_dividend, larger, reckon, and_also, compared, tested}
use Rattle.loop_lang.proofs.IndexForms.{fold-lit, fold-size, fold-loop, fold-index_sum, fold-index_difference, fold-index_product, fold-index_quotient}
use Rattle.loop_lang.proofs.IndexForms.{fold-index_remainder, fold-index_larger}
use Rattle.loop_run.specs.Fits.{all_fit}
use Rattle.loop_run.specs.Numbers.{number_at}
use Rattle.loop_run.specs.Indices.{index_step, index_fold}
use Rattle.loop_run.specs.Words.{tests_in}

least-fits : (n : ℕ) → n < 2 ^ 63 → min n (2 ^ 63 - 1) ≡ n
least-fits n h = omega arith

pub number-fits : (ns : List ℕ) (k : ℕ) → all_fit ns ≡ true → number_at ns k ≡ pos (get_or ns k 0)
number-fits [] k h = refl
number-fits (n ∷ ns) zero h = ap pos (least-fits n (ltb-true n (2 ^ 63) (and_parts (nat_lt n (2 ^ 63)) (all_fit ns) h).0))
number-fits (n ∷ ns) (suc k) h = number-fits ns k (and_parts (nat_lt n (2 ^ 63)) (all_fit ns) h).1

module _ (s r : List ℕ) (fs : all_fit s ≡ true) (fr : all_fit r ≡ true) where
  pub index-is : (e : Iexp) → index_fold s r e ≡ reckon e s r
  index-is (form.Lit n) = fold-lit Reckoned (index_step s r) n
  index-is (form.Size k) = fold-size Reckoned (index_step s r) k ∙ ap Value (number-fits s k fs)
  index-is (form.Loop d) = fold-loop Reckoned (index_step s r) d ∙ ap Value (number-fits r d fr)
  index-is (index_sum a b) = fold-index_sum Reckoned (index_step s r) a b ∙ (λ i. on_both (λ x y. checked (x +ℤ y)) (index-is a i) (index-is b i))
  index-is (index_difference a b) = fold-index_difference Reckoned (index_step s r) a b ∙ (λ i. on_both (λ x y. checked (x -ℤ y)) (index-is a i) (index-is b i))
  index-is (index_product a b) = fold-index_product Reckoned (index_step s r) a b ∙ (λ i. on_both (λ x y. checked (x *ℤ y)) (index-is a i) (index-is b i))
  index-is (index_quotient a k) = fold-index_quotient Reckoned (index_step s r) a k ∙ (λ i. with_value (index-is a i) (of_dividend (λ n. n / k)))
  index-is (index_remainder a k) = fold-index_remainder Reckoned (index_step s r) a k ∙ (λ i. with_value (index-is a i) (of_dividend (λ n. n % k)))
  index-is (index_larger a b) = fold-index_larger Reckoned (index_step s r) a b ∙ (λ i. on_both (λ x y. Value (larger x y)) (index-is a i) (index-is b i))

  pub tests-is : (cs : List Test) → tests_in s r cs ≡ tested cs s r
  tests-is [] = refl
  tests-is (c ∷ cs) = λ i. and_also (compared c.rel (index-is c.left i) (index-is c.right i)) (tests-is cs i)
