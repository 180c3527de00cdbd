-- A run of lists of actions, one after another.
use Rattle.std.proofs.Common.{◌≡◌, ℕ, List, [], ◌∷◌, ◌++◌, refl, sym, ap, ◌∙◌}
use Rattle.loop_lang.specs.declared.stmt.Stmt.{Stmt}
use Rattle.loop_lang.specs.Actions.{Action, Tick, Store, Trip, then_follow, acts, acts_all}
use Rattle.loop_lang.specs.Memory.{Memory, Outcome, Ends, Stuck, and_then, apply_one, apply}

and_then-assoc : (o : Outcome) (f g : Memory → Outcome) → and_then (and_then o f) g ≡ and_then o (λ m. and_then (f m) g)
and_then-assoc (Ends m) f g = refl
and_then-assoc (Stuck c) f g = refl

pub apply-then_follow : (xs ys : List Action) (m : Memory) → apply (then_follow xs ys) m ≡ and_then (apply xs m) (apply ys)
apply-then_follow [] ys m = refl
apply-then_follow (Tick ∷ xs) ys m = apply-then_follow xs ys m
apply-then_follow (Store o b t i ∷ xs) ys m = ap (and_then (apply_one (Store o b t i) m)) (λ j n. apply-then_follow xs ys n j)
    ∙ sym (and_then-assoc (apply_one (Store o b t i) m) (apply xs) (apply ys))
apply-then_follow (Trip k ls ∷ xs) ys m = refl

-- a list that ends, and what follows
pub apply-after : (xs ys : List Action) (m n : Memory) → apply xs m ≡ Ends n → apply (then_follow xs ys) m ≡ apply ys n
apply-after xs ys m n h = apply-then_follow xs ys m ∙ ap (λ o. and_then o (apply ys)) h

pub then_follow-assoc : (xs ys zs : List Action) → then_follow (then_follow xs ys) zs ≡ then_follow xs (then_follow ys zs)
then_follow-assoc [] ys zs = refl
then_follow-assoc (Tick ∷ xs) ys zs = ap (λ l. Tick ∷ l) (then_follow-assoc xs ys zs)
then_follow-assoc (Store m b t i ∷ xs) ys zs = ap (λ l. Store m b t i ∷ l) (then_follow-assoc xs ys zs)
then_follow-assoc (Trip k ls ∷ xs) ys zs = refl

pub acts_all-append : (xs ys : List Stmt) (s r : List ℕ) → acts_all (xs ++ ys) s r ≡ then_follow (acts_all xs s r) (acts_all ys s r)
acts_all-append [] ys s r = refl
acts_all-append (x ∷ xs) ys s r = ap (then_follow (acts x s r)) (acts_all-append xs ys s r)
    ∙ sym (then_follow-assoc (acts x s r) (acts_all xs s r) (acts_all ys s r))
