-- A refusal at a child is one at its parent.
use Rattle.std.proofs.Common.{◌≡◌, ℕ, ◌+◌, Bool, true, false, ◌||◌, refl, ap, sym, ◌∙◌, subst, Option, Result, Err}
use Rattle.affine_index.specs.declared.aff.Aff.{Aff}
use Rattle.affine_index.specs.declared.cond.Cond.{Cond}
use Rattle.affine_index.specs.declared.form.Items.{Items}
use Rattle.term_tree.specs.declared.term.Term.{Term}
use Rattle.term_tree.specs.declared.term.Term.TheVariants.{Index, Gen, Sum, Guard, Let, Add, Sub, Mul, Concat, Flatten, Split, Transpose, TruncL, TruncR, PadL}
use Rattle.term_tree.specs.declared.term.Term.TheVariants.{PadR}
use Rattle.term_tree.specs.Syntax.{index, gen, sum, guard, let_in, add, sub, mul, concat, flatten, split, transpose, trunc_l, trunc_r, pad_l, pad_r}
use Rattle.term_tree.proofs.Forms.{Index-is, Gen-is, Sum-is, Guard-is, Let-is, Add-is, Sub-is, Mul-is, Concat-is, Flatten-is, Split-is, Transpose-is, TruncL-is}
use Rattle.term_tree.proofs.Forms.{TruncR-is, PadL-is, PadR-is}
use Rattle.binders.specs.Answers.{IsPartOf, Refusals, form_causes, is_memory, part_causes, place_fold, tensor_refused}
use Rattle.binders.specs.Maps.{Replacement, map_fold}
use Rattle.binders.specs.Uses.{any_cmp}
use Rattle.binders.specs.declared.refusal.MapRefusal.{MapRefusal}
use Rattle.binders.proofs.PlaceFold.{place_fold-is}

-- the fold that looks for a place, at each variant as the code writes it
module _ (p : ℕ → ℕ → Items → Bool) (q : ℕ → ℕ → ℕ → Bool) where
  abbrev place : Term → ℕ → ℕ → Bool
  place = place_fold p q

  pub place-Index : (e : Term) (x : Aff) (i j : ℕ) → place (Index e x) i j ≡ (place e i j || p i j x)
  place-Index e x i j = ap (λ z. place z i j) (Index-is e x) ∙ place_fold-is p q (index e x) i j ∙ (λ t. sym (place_fold-is p q e i j) t || p i j x)

  pub place-Gen : (n : Aff) (e : Term) (i j : ℕ) → place (Gen n e) i j ≡ place e (i + 1) j
  place-Gen n e i j = ap (λ z. place z i j) (Gen-is n e) ∙ place_fold-is p q (gen n e) i j ∙ sym (place_fold-is p q e (i + 1) j)

  pub place-Sum : (n : Aff) (e : Term) (i j : ℕ) → place (Sum n e) i j ≡ place e (i + 1) j
  place-Sum n e i j = ap (λ z. place z i j) (Sum-is n e) ∙ place_fold-is p q (sum n e) i j ∙ sym (place_fold-is p q e (i + 1) j)

  pub place-Guard : (c : Cond) (e : Term) (i j : ℕ) → place (Guard c e) i j ≡ (any_cmp (p i j) c.all || place e i j)
  place-Guard c e i j = ap (λ z. place z i j) (Guard-is c e) ∙ place_fold-is p q (guard c e) i j
      ∙ (λ t. any_cmp (p i j) c.all || sym (place_fold-is p q e i j) t)

  pub place-Let : (a b : Term) (i j : ℕ) → place (Let a b) i j ≡ (place a i j || place b i (j + 1))
  place-Let a b i j = ap (λ z. place z i j) (Let-is a b) ∙ place_fold-is p q (let_in a b) i j
      ∙ (λ t. sym (place_fold-is p q a i j) t || sym (place_fold-is p q b i (j + 1)) t)

  pub place-Add : (a b : Term) (i j : ℕ) → place (Add a b) i j ≡ (place a i j || place b i j)
  place-Add a b i j = ap (λ z. place z i j) (Add-is a b) ∙ place_fold-is p q (add a b) i j
      ∙ (λ t. sym (place_fold-is p q a i j) t || sym (place_fold-is p q b i j) t)

  pub place-Sub : (a b : Term) (i j : ℕ) → place (Sub a b) i j ≡ (place a i j || place b i j)
  place-Sub a b i j = ap (λ z. place z i j) (Sub-is a b) ∙ place_fold-is p q (sub a b) i j
      ∙ (λ t. sym (place_fold-is p q a i j) t || sym (place_fold-is p q b i j) t)

  pub place-Mul : (a b : Term) (i j : ℕ) → place (Mul a b) i j ≡ (place a i j || place b i j)
  place-Mul a b i j = ap (λ z. place z i j) (Mul-is a b) ∙ place_fold-is p q (mul a b) i j
      ∙ (λ t. sym (place_fold-is p q a i j) t || sym (place_fold-is p q b i j) t)

  pub place-Concat : (a b : Term) (i j : ℕ) → place (Concat a b) i j ≡ (place a i j || place b i j)
  place-Concat a b i j = ap (λ z. place z i j) (Concat-is a b) ∙ place_fold-is p q (concat a b) i j
      ∙ (λ t. sym (place_fold-is p q a i j) t || sym (place_fold-is p q b i j) t)

  pub place-Flatten : (e : Term) (i j : ℕ) → place (Flatten e) i j ≡ place e i j
  place-Flatten e i j = ap (λ z. place z i j) (Flatten-is e) ∙ place_fold-is p q (flatten e) i j ∙ sym (place_fold-is p q e i j)

  pub place-Split : (k : ℕ) (e : Term) (i j : ℕ) → place (Split k e) i j ≡ place e i j
  place-Split k e i j = ap (λ z. place z i j) (Split-is k e) ∙ place_fold-is p q (split k e) i j ∙ sym (place_fold-is p q e i j)

  pub place-Transpose : (e : Term) (i j : ℕ) → place (Transpose e) i j ≡ place e i j
  place-Transpose e i j = ap (λ z. place z i j) (Transpose-is e) ∙ place_fold-is p q (transpose e) i j ∙ sym (place_fold-is p q e i j)

  pub place-TruncL : (n : Aff) (e : Term) (i j : ℕ) → place (TruncL n e) i j ≡ place e i j
  place-TruncL n e i j = ap (λ z. place z i j) (TruncL-is n e) ∙ place_fold-is p q (trunc_l n e) i j ∙ sym (place_fold-is p q e i j)

  pub place-TruncR : (n : Aff) (e : Term) (i j : ℕ) → place (TruncR n e) i j ≡ place e i j
  place-TruncR n e i j = ap (λ z. place z i j) (TruncR-is n e) ∙ place_fold-is p q (trunc_r n e) i j ∙ sym (place_fold-is p q e i j)

  pub place-PadL : (n : Aff) (e : Term) (i j : ℕ) → place (PadL n e) i j ≡ place e i j
  place-PadL n e i j = ap (λ z. place z i j) (PadL-is n e) ∙ place_fold-is p q (pad_l n e) i j ∙ sym (place_fold-is p q e i j)

  pub place-PadR : (n : Aff) (e : Term) (i j : ℕ) → place (PadR n e) i j ≡ place e i j
  place-PadR n e i j = ap (λ z. place z i j) (PadR-is n e) ∙ place_fold-is p q (pad_r n e) i j ∙ sym (place_fold-is p q e i j)

pub first : (m a b : Bool) → (m || a) ≡ true → (m || (a || b)) ≡ true
first true a b h = refl
first false true b h = refl
first false false b h = absurd (cc)

pub second : (m a b : Bool) → (m || b) ≡ true → (m || (a || b)) ≡ true
second true a b h = refl
second false true b h = refl
second false false b h = h

module _ (m : Replacement) (r : Refusals) (d : MapRefusal) where
  -- want of memory, or a refusal in a term under i gens and sums and j lets
  abbrev pub Cause : Term → ℕ → ℕ → Type 0
  Cause z i j = (is_memory d || part_causes m r z i j d) ≡ true

  abbrev p : ℕ → ℕ → Items → Bool
  p = form_causes m r d

  abbrev q : ℕ → ℕ → ℕ → Bool
  q = tensor_refused r d

  parent : (z y : Term) (i j : ℕ) (b : Bool) → z ≡ y → place_fold p q y i j ≡ b → (is_memory d || b) ≡ true → Cause z i j
  parent z y i j b s e h = ap (λ x. is_memory d || part_causes m r x i j d) s ∙ ap (λ c. is_memory d || c) e ∙ h

  moved : (e : Term) (i j i' j' : ℕ) → i' ≡ i → j' ≡ j → Cause e i' j' → Cause e i j
  moved e i j i' j' a b h = (λ t. is_memory d || part_causes m r e (sym a t) (sym b t) d) ∙ h

  -- a refusal that is handed on
  pub handed_on : (z : Term) (i j : ℕ) (a : Result (Option Term) MapRefusal) (e : MapRefusal) → a ≡ Err e → e ≡ d → Cause z i j
      → IsPartOf (map_fold m z i j) (part_causes m r z i j) a
  handed_on z i j a e s t h = subst (IsPartOf (map_fold m z i j) (part_causes m r z i j)) (sym (s ∙ ap Err t)) h

  pub of_same : (z y : Term) (i j : ℕ) → z ≡ y → Cause y i j → Cause z i j
  of_same z y i j s h = ap (λ x. is_memory d || part_causes m r x i j d) s ∙ h

  pub of_Index : (z e : Term) (x : Aff) (i j : ℕ) → z ≡ Index e x → Cause e i j → Cause z i j
  of_Index z e x i j s h = parent z (Index e x) i j (place_fold p q e i j || p i j x) s (place-Index p q e x i j) (first (is_memory d) _ _ h)

  pub of_Gen : (z : Term) (n : Aff) (e : Term) (i j i' j' : ℕ) → z ≡ Gen n e → i' ≡ i + 1 → j' ≡ j → Cause e i' j' → Cause z i j
  of_Gen z n e i j i' j' s a b h = parent z (Gen n e) i j (place_fold p q e (i + 1) j) s (place-Gen p q n e i j) (moved e (i + 1) j i' j' a b h)

  pub of_Sum : (z : Term) (n : Aff) (e : Term) (i j i' j' : ℕ) → z ≡ Sum n e → i' ≡ i + 1 → j' ≡ j → Cause e i' j' → Cause z i j
  of_Sum z n e i j i' j' s a b h = parent z (Sum n e) i j (place_fold p q e (i + 1) j) s (place-Sum p q n e i j) (moved e (i + 1) j i' j' a b h)

  pub of_Guard : (z : Term) (c : Cond) (e : Term) (i j : ℕ) → z ≡ Guard c e → Cause e i j → Cause z i j
  of_Guard z c e i j s h = parent z (Guard c e) i j (any_cmp (p i j) c.all || place_fold p q e i j) s (place-Guard p q c e i j) (second (is_memory d) _ _ h)

  pub of_definition : (z a b : Term) (i j : ℕ) → z ≡ Let a b → Cause a i j → Cause z i j
  of_definition z a b i j s h =
      parent z (Let a b) i j (place_fold p q a i j || place_fold p q b i (j + 1)) s (place-Let p q a b i j) (first (is_memory d) _ _ h)

  pub of_body : (z a b : Term) (i j i' j' : ℕ) → z ≡ Let a b → i' ≡ i → j' ≡ j + 1 → Cause b i' j' → Cause z i j
  of_body z a b i j i' j' s e f h =
      parent z (Let a b) i j (place_fold p q a i j || place_fold p q b i (j + 1)) s (place-Let p q a b i j)
      (second (is_memory d) _ _ (moved b i (j + 1) i' j' e f h))

  pub of_first-Add : (z a b : Term) (i j : ℕ) → z ≡ Add a b → Cause a i j → Cause z i j
  of_first-Add z a b i j s h = parent z (Add a b) i j (place_fold p q a i j || place_fold p q b i j) s (place-Add p q a b i j) (first (is_memory d) _ _ h)

  pub of_second-Add : (z a b : Term) (i j : ℕ) → z ≡ Add a b → Cause b i j → Cause z i j
  of_second-Add z a b i j s h = parent z (Add a b) i j (place_fold p q a i j || place_fold p q b i j) s (place-Add p q a b i j) (second (is_memory d) _ _ h)

  pub of_first-Sub : (z a b : Term) (i j : ℕ) → z ≡ Sub a b → Cause a i j → Cause z i j
  of_first-Sub z a b i j s h = parent z (Sub a b) i j (place_fold p q a i j || place_fold p q b i j) s (place-Sub p q a b i j) (first (is_memory d) _ _ h)

  pub of_second-Sub : (z a b : Term) (i j : ℕ) → z ≡ Sub a b → Cause b i j → Cause z i j
  of_second-Sub z a b i j s h = parent z (Sub a b) i j (place_fold p q a i j || place_fold p q b i j) s (place-Sub p q a b i j) (second (is_memory d) _ _ h)

  pub of_first-Mul : (z a b : Term) (i j : ℕ) → z ≡ Mul a b → Cause a i j → Cause z i j
  of_first-Mul z a b i j s h = parent z (Mul a b) i j (place_fold p q a i j || place_fold p q b i j) s (place-Mul p q a b i j) (first (is_memory d) _ _ h)

  pub of_second-Mul : (z a b : Term) (i j : ℕ) → z ≡ Mul a b → Cause b i j → Cause z i j
  of_second-Mul z a b i j s h = parent z (Mul a b) i j (place_fold p q a i j || place_fold p q b i j) s (place-Mul p q a b i j) (second (is_memory d) _ _ h)

  pub of_first-Concat : (z a b : Term) (i j : ℕ) → z ≡ Concat a b → Cause a i j → Cause z i j
  of_first-Concat z a b i j s h =
      parent z (Concat a b) i j (place_fold p q a i j || place_fold p q b i j) s (place-Concat p q a b i j) (first (is_memory d) _ _ h)

  pub of_second-Concat : (z a b : Term) (i j : ℕ) → z ≡ Concat a b → Cause b i j → Cause z i j
  of_second-Concat z a b i j s h =
      parent z (Concat a b) i j (place_fold p q a i j || place_fold p q b i j) s (place-Concat p q a b i j) (second (is_memory d) _ _ h)

  pub of_Flatten : (z : Term) (e : Term) (i j : ℕ) → z ≡ Flatten e → Cause e i j → Cause z i j
  of_Flatten z e i j s h = parent z (Flatten e) i j (place_fold p q e i j) s (place-Flatten p q e i j) h

  pub of_Split : (z : Term) (k : ℕ) (e : Term) (i j : ℕ) → z ≡ Split k e → Cause e i j → Cause z i j
  of_Split z k e i j s h = parent z (Split k e) i j (place_fold p q e i j) s (place-Split p q k e i j) h

  pub of_Transpose : (z : Term) (e : Term) (i j : ℕ) → z ≡ Transpose e → Cause e i j → Cause z i j
  of_Transpose z e i j s h = parent z (Transpose e) i j (place_fold p q e i j) s (place-Transpose p q e i j) h

  pub of_TruncL : (z : Term) (n : Aff) (e : Term) (i j : ℕ) → z ≡ TruncL n e → Cause e i j → Cause z i j
  of_TruncL z n e i j s h = parent z (TruncL n e) i j (place_fold p q e i j) s (place-TruncL p q n e i j) h

  pub of_TruncR : (z : Term) (n : Aff) (e : Term) (i j : ℕ) → z ≡ TruncR n e → Cause e i j → Cause z i j
  of_TruncR z n e i j s h = parent z (TruncR n e) i j (place_fold p q e i j) s (place-TruncR p q n e i j) h

  pub of_PadL : (z : Term) (n : Aff) (e : Term) (i j : ℕ) → z ≡ PadL n e → Cause e i j → Cause z i j
  of_PadL z n e i j s h = parent z (PadL n e) i j (place_fold p q e i j) s (place-PadL p q n e i j) h

  pub of_PadR : (z : Term) (n : Aff) (e : Term) (i j : ℕ) → z ≡ PadR n e → Cause e i j → Cause z i j
  of_PadR z n e i j s h = parent z (PadR n e) i j (place_fold p q e i j) s (place-PadR p q n e i j) h
