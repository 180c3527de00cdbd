-- The lets of a term have room in the region.
use Rattle.std.proofs.Common.{◌≡◌, ℕ, ◌+◌, ◌<◌, ◌≤◌, List, ◌∷◌, ◌∙◌, arith, Bool, true, ◌||◌}
use Rattle.std.proofs.lemmas.Bool.{or_left, or_right}
use Rattle.term_tree.specs.declared.term.Term.{Term, Lit, TVar, WordOf}
use Rattle.term_tree.specs.Syntax.{index, gen, sum, guard, let_in, add, sub, mul, concat, flatten, split, transpose, trunc_l, trunc_r, pad_l, pad_r}
use Rattle.term_tree.specs.Meaning.{dims}
use Rattle.term_tree.specs.Shaped.{word_count}
use Rattle.term_tree.proofs.Folds.{fold-gen, fold-sum, fold-guard, fold-let_in, fold-add, fold-concat, fold-flatten, fold-split, fold-transpose, fold-trunc_l}
use Rattle.term_tree.proofs.Folds.{fold-trunc_r, fold-pad_l, fold-pad_r}
use Rattle.region_plan.specs.Ranges.{LiesApart}
use Rattle.final_rules.specs.Rules.{has_let, let_step}
use Rattle.lowering_laws.specs.Owes.{Room}

module _ (many : ℕ) where
  -- where there is a let, there is a region
  abbrev pub HasRegion : Term → Type 0
  HasRegion e = has_let e ≡ true → 0 < many

  pub region-left : (a b : Term) (c : Bool) → (c ≡ true → 0 < many) → c ≡ (has_let a || has_let b) → HasRegion a
  region-left a b c h e q = h (e ∙ or_left (has_let a) (has_let b) q)

  pub region-right : (a b : Term) (c : Bool) → (c ≡ true → 0 < many) → c ≡ (has_let a || has_let b) → HasRegion b
  region-right a b c h e q = h (e ∙ or_right (has_let a) (has_let b) q)

module _ (s : List ℕ) (many l len : ℕ) (long : 0 < many → l ≤ len) where
  -- what lies apart in so many words has room where the region has them
  pub room : (e : Term) (ds : List (List ℕ)) (k : ℕ) → HasRegion many e → LiesApart e s ds k l → Room s many len e ds k
  room (Lit w) ds k h a = tt
  room (TVar q) ds k h a = tt
  room (WordOf x) ds k h a = tt
  room (index e x) ds k h a = tt
  room (gen n e) ds k h a = room e ds k (λ q. h (fold-gen Bool let_step n e ∙ q)) a
  room (sum n e) ds k h a = room e ds k (λ q. h (fold-sum Bool let_step n e ∙ q)) a
  room (guard c e) ds k h a = room e ds k (λ q. h (fold-guard Bool let_step c e ∙ q)) a
  room (let_in a b) ds k h r =
      let some = h (fold-let_in Bool let_step a b) in
      let n = word_count (dims a s ds) in
      (some, omega (arith, r.0, long some), room a ds (k + n) (λ q. some) r.3, room b (dims a s ds ∷ ds) (k + n) (λ q. some) r.4)
  room (add a b) ds k h r =
      let e = fold-add Bool let_step a b in
      (room a ds k (region-left many a b (has_let (add a b)) h e) r.0, room b ds k (region-right many a b (has_let (add a b)) h e) r.1)
  room (sub a b) ds k h r = tt
  room (mul a b) ds k h r = tt
  room (concat a b) ds k h r =
      let e = fold-concat Bool let_step a b in
      (room a ds k (region-left many a b (has_let (concat a b)) h e) r.0, room b ds k (region-right many a b (has_let (concat a b)) h e) r.1)
  room (flatten e) ds k h a = room e ds k (λ q. h (fold-flatten Bool let_step e ∙ q)) a
  room (split n e) ds k h a = room e ds k (λ q. h (fold-split Bool let_step n e ∙ q)) a
  room (transpose e) ds k h a = room e ds k (λ q. h (fold-transpose Bool let_step e ∙ q)) a
  room (trunc_l n e) ds k h a = room e ds k (λ q. h (fold-trunc_l Bool let_step n e ∙ q)) a
  room (trunc_r n e) ds k h a = room e ds k (λ q. h (fold-trunc_r Bool let_step n e ∙ q)) a
  room (pad_l n e) ds k h a = room e ds k (λ q. h (fold-pad_l Bool let_step n e ∙ q)) a
  room (pad_r n e) ds k h a = room e ds k (λ q. h (fold-pad_r Bool let_step n e ∙ q)) a
