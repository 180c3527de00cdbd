-- Lists that are gone through from the front.
use Rattle.std.proofs.Common.{◌≡◌, ℕ, ◌+◌, ◌<◌, List, ◌∷◌, length, drop, drop-cons, get_or, add-one, sym, ◌∙◌}

-- the item at a place, and what follows it
pub drop-item : {A : Type 0} (xs : List A) (at : ℕ) (x : A) → at < length xs → x ≡ get_or xs at x → drop at xs ≡ x ∷ drop (at + 1) xs
drop-item xs at x h e = drop-cons xs at x h ∙ (λ k. sym e k ∷ drop (sym (add-one at) k) xs)
