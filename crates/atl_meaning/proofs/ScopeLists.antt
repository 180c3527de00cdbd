-- What stands at a number of a list.
use Rattle.std.proofs.Common.{◌≡◌, ℕ, zero, suc, ◌<◌, ◌≤◌, inl, inr, List, [], ◌∷◌, length, map, get_or, refl, ap, ◌∙◌, arith, Option, Some, None, MatchOption}
use Rattle.std.proofs.Common.{subst}
use Rattle.std.specs.Prelude.{slice_get}
use Rattle.std.proofs.lemmas.List.{get_or_past}
use Rattle.std.proofs.lemmas.Option.{slice_get_cases}

in-map : {A B : Type 0} → (f : A → B) (xs : List A) (i : ℕ) (d : B) (e : A) → i < length xs → get_or (map f xs) i d ≡ f (get_or xs i e)
in-map f [] i d e h = absurd (omega (arith, h))
in-map f (x ∷ xs) zero d e h = refl
in-map f (x ∷ xs) (suc i) d e h = in-map f xs i d e (omega (arith, h))

map-length : {A B : Type 0} → (f : A → B) (xs : List A) → length (map f xs) ≡ length xs
map-length f [] = refl
map-length f (x ∷ xs) = ap suc (map-length f xs)

pub found-at : {A B : Type 0} → (f : A → B) (xs : List A) (i : ℕ) (x : A) (d : B) → slice_get xs i ≡ Some x → get_or (map f xs) i d ≡ f x
found-at f xs i x d h = elim (slice_get_cases xs i).1 [
  | inl p ↦ in-map f xs i d p.0 p.1 ∙ ap f (let e : p.0 ≡ x = cc in p.3 ∙ e)
  | inr p ↦ absurd (cc)
]

past : {A : Type 0} → (xs : List A) (i : ℕ) → slice_get xs i ≡ None → length xs ≤ i
past xs i h = elim (slice_get_cases xs i).1 [ inl p ↦ absurd (cc) | inr p ↦ p.0 ]

pub missing-at : {A B : Type 0} → (f : A → B) (xs : List A) (i : ℕ) (d : B) → slice_get xs i ≡ None → get_or (map f xs) i d ≡ d
missing-at f xs i d h = let p = past xs i h in get_or_past (map f xs) i d (omega (arith, map-length f xs))

pub found-twice : {A B C : Type 0} → (g : B → C) (f : A → B) (xs : List A) (i : ℕ) (x : A) (d : C) → slice_get xs i ≡ Some x
    → get_or (map g (map f xs)) i d ≡ g (f x)
found-twice g f xs i x d h = elim (slice_get_cases xs i).1 [
  | inl p ↦ in-map g (map f xs) i d (f x) (omega (arith, map-length f xs, p.1)) ∙ ap g (found-at f xs i x (f x) h)
  | inr p ↦ absurd (cc)
]

pub missing-twice : {A B C : Type 0} → (g : B → C) (f : A → B) (xs : List A) (i : ℕ) (d : C) → slice_get xs i ≡ None → get_or (map g (map f xs)) i d ≡ d
missing-twice g f xs i d h = let p = past xs i h in get_or_past (map g (map f xs)) i d (omega (arith, map-length f xs, map-length g (map f xs)))

-- what an option in an option holds
pub twice-some : {A : Type 0} → (o : Option (Option A)) (P : Type 0) (Q : A → Type 0) (x : Option A) (v : A) → o ≡ Some x → x ≡ Some v
    → MatchOption o (Unit {0}) (λ y. MatchOption y P Q) → Q v
twice-some o P Q x v e f h = subst (λ y. MatchOption y P Q) f (subst (λ o. MatchOption o (Unit {0}) (λ y. MatchOption y P Q)) e h)

pub twice-none : {A : Type 0} → (o : Option (Option A)) (P : Type 0) (Q : A → Type 0) (x : Option A) → o ≡ Some x → x ≡ None
    → MatchOption o (Unit {0}) (λ y. MatchOption y P Q) → P
twice-none o P Q x e f h = subst (λ y. MatchOption y P Q) f (subst (λ o. MatchOption o (Unit {0}) (λ y. MatchOption y P Q)) e h)

-- another claim of what an option holds
pub match-map : {A : Type 0} → (o : Option A) (P P' : Type 0) (Q Q' : A → Type 0) → (P → P') → ((x : A) → Q x → Q' x) → MatchOption o P Q → MatchOption o P' Q'
match-map None P P' Q Q' f g h = f h
match-map (Some x) P P' Q Q' f g h = g x h

pub at-missing : {A : Type 0} → (xs : List A) (i : ℕ) (d : A) → slice_get xs i ≡ None → get_or xs i d ≡ d
at-missing xs i d h = get_or_past xs i d (past xs i h)
