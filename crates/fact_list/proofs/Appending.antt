-- Loops that add what each item of a list gives to the end of another.
use Rattle.std.proofs.Common.{◌≡◌, ℕ, zero, suc, ◌+◌, ◌<◌, ◌≤◌, List, [], ◌∷◌, ◌++◌, length, drop, take, get_or, append_assoc, refl, ap, sym, ◌∙◌, arith}
use Rattle.std.proofs.Math.Seq.{take-suc}
pub use Rattle.affine_index.proofs.Lists.{drop-item}

-- what stands before a place, and the item at it
pub take-item : {A : Type 0} (xs : List A) (i : ℕ) (x : A) → i < length xs → x ≡ get_or xs i x → take (i + 1) xs ≡ take i xs ++ x ∷ []
take-item xs i x h e = ap (λ n. take n xs) (turn i) ∙ take-suc xs i x h ∙ ap (λ y. take i xs ++ y ∷ []) (sym e)
  where
    turn : (i : ℕ) → i + 1 ≡ suc i
    turn i = omega arith

-- one item more of a list that is gone through
pub append-next : {A B : Type 0} (f : List A → List B) (g : A → List B) → ((x : A) (xs : List A) → f (x ∷ xs) ≡ g x ++ f xs)
    → (xs : List A) (i : ℕ) (x : A) (l m : List B) → i < length xs → x ≡ get_or xs i x
    → m ≡ l ++ g x → m ++ f (drop (i + 1) xs) ≡ l ++ f (drop i xs)
append-next f g law xs i x l m h e q =
    ap (λ y. y ++ f (drop (i + 1) xs)) q ∙ append_assoc l (g x) (f (drop (i + 1) xs))
    ∙ ap (λ y. l ++ y) (sym (law x (drop (i + 1) xs)) ∙ ap f (sym (drop-item xs i x h e)))

-- nothing stands after the end
pub drop-all : {A : Type 0} (n : ℕ) (xs : List A) → length xs ≤ n → drop n xs ≡ []
drop-all zero [] h = refl
drop-all zero (x ∷ xs) h = absurd (omega arith)
drop-all (suc n) [] h = refl
drop-all (suc n) (x ∷ xs) h = drop-all n xs (omega arith)

pub no-length : {A : Type 0} (xs : List A) → length xs ≡ 0 → xs ≡ []
no-length [] h = refl
no-length (x ∷ xs) h = absurd (omega arith)

pub append-none : {A : Type 0} (xs : List A) → xs ++ [] ≡ xs
append-none [] = refl
append-none (x ∷ xs) = ap (λ ys. x ∷ ys) (append-none xs)

pub take-all : {A : Type 0} (n : ℕ) (xs : List A) → length xs ≤ n → take n xs ≡ xs
take-all zero [] h = refl
take-all zero (x ∷ xs) h = absurd (omega arith)
take-all (suc n) [] h = refl
take-all (suc n) (x ∷ xs) h = ap (λ ys. x ∷ ys) (take-all n xs (omega arith))
