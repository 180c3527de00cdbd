-- Lengths in order, wrong counts, and answers.
use Rattle.std.proofs.Common.{◌≡◌, ◌≤◌, ℕ, zero, suc, min, true, List, [], ◌∷◌, length, drop, None, Result, Ok}
use Rattle.std.proofs.Common.{Err, refl, ap, arith, subst}
use Rattle.loop_lang.specs.declared.index.Iexp.{Iexp}
use Rattle.loop_lang.specs.Reckoning.{reckon}
use Rattle.loop_run.specs.declared.refusal.MakeRefusal.{MakeRefusal}
use Rattle.loop_run.specs.declared.refusal.MakeRefusal.TheVariants.{Stuck, TooBigToRun, WrongCount, Memory}
use Rattle.loop_run.specs.Fits.{all_fit}
use Rattle.loop_run.specs.Indices.{index_fold}
use Rattle.loop_run.specs.Made.{then_told, lengths_told, wrong_count, IsAnswer}
use Rattle.loop_run.proofs.IndexJoin.{index-is}

no_inputs : (k : ℕ) (ns : List ℕ) → wrong_count k ns [] ≡ None
no_inputs k [] = refl
no_inputs k (n ∷ ns) = refl

pub wrong-end : (k at : ℕ) (ns : List ℕ) (wss : List (List ℕ)) → min (length ns) (length wss) ≤ at → wrong_count k (drop at ns) (drop at wss) ≡ None
wrong-end k zero [] wss h = refl
wrong-end k zero (n ∷ ns) [] h = refl
wrong-end k zero (n ∷ ns) (ws ∷ wss) h = absurd (omega (arith, h))
wrong-end k (suc at) [] wss h = refl
wrong-end k (suc at) (n ∷ ns) [] h = no_inputs k (drop at ns)
wrong-end k (suc at) (n ∷ ns) (ws ∷ wss) h = wrong-end k at ns wss (omega (arith, h))

pub told-fits : (s : List ℕ) (xs : List Iexp) → all_fit s ≡ true → lengths_told (index_fold s []) xs ≡ lengths_told (λ x. reckon x s []) xs
told-fits s xs h = λ i. lengths_told (λ x. index-is s [] h refl x i) xs

-- a refusal of the first part is one of the whole
pub refused-first : {A B : Type 0} → (e : MakeRefusal) (x : Result A MakeRefusal) (g : A → Result B MakeRefusal) → IsAnswer {A = A} (Err e) x
    → IsAnswer {A = B} (Err e) (then_told x g)
refused-first (Stuck k) x g h = ap (λ y. then_told y g) h
refused-first (TooBigToRun n) x g h = ap (λ y. then_told y g) h
refused-first (WrongCount k n m) x g h = ap (λ y. then_told y g) h
refused-first Memory x g h = tt

pub answer-after : {A B : Type 0} → (a : A) (x : Result A MakeRefusal) (g : A → Result B MakeRefusal) (r : Result B MakeRefusal) → Ok a ≡ x → IsAnswer r (g a)
    → IsAnswer r (then_told x g)
answer-after a x g r e h = subst (λ y. IsAnswer r (then_told y g)) e h
