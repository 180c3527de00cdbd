-- Conditions: what a loop over the comparisons keeps, and that they hold by their values.
use Rattle.std.proofs.Common.{◌≡◌, ℕ, List, [], ◌∷◌, refl, ap, sym, ◌∙◌, Bool, true, false, ◌&&◌, Option, Some, None}
use Rattle.std.specs.Prelude.{ℤ, IfSome}
use Rattle.std.specs.Option.{option_and_then, option_map}
use Rattle.affine_index.proofs.ValueLaws.{value-agrees}
use Rattle.affine_index.specs.Condition.{all_hold, all_limited, cmp_at, cmp_form, cmp_holds, cmp_limited}
use Rattle.affine_index.specs.Limited.{limited_value}
use Rattle.affine_index.specs.Value.{items_value}
use Rattle.affine_index.specs.declared.cond.Cmp.{Cmp}

-- comparisons that hold, after some of which it is known
abbrev pub held_after : Bool → Option Bool → Option Bool
held_after held rest = option_map (λ r. held && r) rest

pub held_after-true : (o : Option Bool) → held_after true o ≡ o
held_after-true None = refl
held_after-true (Some b) = refl

and_again : (a b c : Bool) → (a && (b && c)) ≡ ((a && b) && c)
and_again true b c = refl
and_again false b c = refl

twice : (held : Bool) (b : Bool) (o : Option Bool) → held_after held (option_map (λ r. b && r) o) ≡ held_after (held && b) o
twice held b None = refl
twice held b (Some r) = ap Some (and_again held b r)

-- one comparison more that has a value
pub held_after-step : (s v : List ℕ) (held b : Bool) (c : Cmp) (cs : List Cmp) → cmp_limited s v c ≡ Some b
    → held_after held (all_limited s v (c ∷ cs)) ≡ held_after (held && b) (all_limited s v cs)
held_after-step s v held b c cs e = ap (λ o. held_after held (option_and_then (λ first. option_map (λ rest. first && rest) (all_limited s v cs)) o)) e
    ∙ twice held b (all_limited s v cs)

-- one comparison more that has none
pub held_after-none : (s v : List ℕ) (held : Bool) (c : Cmp) (cs : List Cmp) → cmp_limited s v c ≡ None → held_after held (all_limited s v (c ∷ cs)) ≡ None
held_after-none s v held c cs e = ap (λ o. held_after held (option_and_then (λ first. option_map (λ rest. first && rest) (all_limited s v cs)) o)) e

cmp_value : (s v : List ℕ) (c : Cmp) (o : Option ℤ) (b : Bool) → ((x : ℤ) → o ≡ Some x → x ≡ items_value s v (cmp_form c)) → option_map (cmp_at c) o ≡ Some b
    → b ≡ cmp_holds s v c
cmp_value s v c None b h e = absurd (cc)
cmp_value s v c (Some x) b h e = let e2 : b ≡ cmp_at c x = cc in e2 ∙ ap (cmp_at c) (h x refl)

both_values : (s v : List ℕ) (c : Cmp) (cs : List Cmp) (o p : Option Bool) (b : Bool)
    → ((x : Bool) → o ≡ Some x → x ≡ cmp_holds s v c) → ((x : Bool) → p ≡ Some x → x ≡ all_hold s v cs)
    → option_and_then (λ first. option_map (λ rest. first && rest) p) o ≡ Some b → b ≡ (cmp_holds s v c && all_hold s v cs)
both_values s v c cs None p b f g e = absurd (cc)
both_values s v c cs (Some x) None b f g e = absurd (cc)
both_values s v c cs (Some x) (Some y) b f g e = let e2 : b ≡ (x && y) = cc in e2 ∙ (λ k. f x refl k && g y refl k)

-- where no partial result is too large, the comparisons hold by their values
pub all_limited-holds : (s v : List ℕ) (cs : List Cmp) (b : Bool) → all_limited s v cs ≡ Some b → b ≡ all_hold s v cs
all_limited-holds s v [] b e = cc
all_limited-holds s v (c ∷ cs) b e =
    both_values s v c cs (cmp_limited s v c) (all_limited s v cs) b
    (λ x f. cmp_value s v c (limited_value s v (cmp_form c)) x (value-agrees s v (cmp_form c)) f) (all_limited-holds s v cs) e

pub holds-value : (s v : List ℕ) (cs : List Cmp) (o : Option Bool) → o ≡ all_limited s v cs → IfSome o (λ b. b ≡ all_hold s v cs)
holds-value s v cs None e = tt
holds-value s v cs (Some b) e = all_limited-holds s v cs b (sym e)
