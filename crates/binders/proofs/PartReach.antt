-- The parts of a term are within what a walk of the term may reach.
use Rattle.std.proofs.Common.{◌≡◌, ℕ, ◌+◌, ◌^◌, ◌<◌, Bool, true, false, ◌||◌, max, refl, ap, sym, ◌∙◌, arith}
use Rattle.affine_index.specs.declared.aff.Aff.{Aff}
use Rattle.affine_index.specs.declared.cond.Cond.{Cond}
use Rattle.affine_index.specs.declared.form.Items.{Items}
use Rattle.term_tree.specs.Counts.{depth_fold}
use Rattle.term_tree.specs.declared.term.Term.{Term}
use Rattle.term_tree.specs.declared.term.Term.TheVariants.{Index, Gen, Sum, Guard, Let, Add, Sub, Mul, Concat, Flatten, Split, Transpose, TruncL, TruncR, PadL}
use Rattle.term_tree.specs.declared.term.Term.TheVariants.{PadR}
use Rattle.term_tree.specs.Syntax.{index, gen, sum, guard, let_in, add, sub, mul, concat, flatten, split, transpose, trunc_l, trunc_r, pad_l, pad_r}
use Rattle.term_tree.proofs.Forms.{Index-is, Gen-is, Sum-is, Guard-is, Let-is, Add-is, Sub-is, Mul-is, Concat-is, Flatten-is, Split-is, Transpose-is, TruncL-is}
use Rattle.term_tree.proofs.Forms.{TruncR-is, PadL-is, PadR-is}
use Rattle.term_tree.proofs.NodeFold.{node_depth-fold}
use Rattle.binders.specs.Answers.{place_fold}
use Rattle.binders.specs.Uses.{any_cmp}
use Rattle.binders.proofs.CauseLaws.{place-Index, place-Gen, place-Sum, place-Guard, place-Let, place-Add, place-Sub, place-Mul, place-Concat, place-Flatten}
use Rattle.binders.proofs.CauseLaws.{place-Split, place-Transpose, place-TruncL, place-TruncR, place-PadL, place-PadR}

not_first : (a b : Bool) → (a || b) ≡ false → a ≡ false
not_first true b h = absurd (cc)
not_first false b h = refl

not_second : (a b : Bool) → (a || b) ≡ false → b ≡ false
not_second true b h = absurd (cc)
not_second false b h = h

less : (i d e : ℕ) → i + d < 2 ^ 32 → d ≡ e + 1 → i + e < 2 ^ 32
less i d e h s = omega (arith, s)

less_first : (i d e f : ℕ) → i + d < 2 ^ 32 → d ≡ max e f + 1 → i + e < 2 ^ 32
less_first i d e f h s = omega (arith, s)

less_second : (i d e f : ℕ) → i + d < 2 ^ 32 → d ≡ max e f + 1 → i + f < 2 ^ 32
less_second i d e f h s = omega (arith, s)

deeper : (i k d e : ℕ) → i + d < 2 ^ 32 → d ≡ e + 1 → k ≡ i + 1 → k + e < 2 ^ 32
deeper i k d e h s t = omega (arith, s, t)

same_deep : (i k d e : ℕ) → i + d < 2 ^ 32 → d ≡ e + 1 → k ≡ i → k + e < 2 ^ 32
same_deep i k d e h s t = omega (arith, s, t)

deeper_second : (i k d e f : ℕ) → i + d < 2 ^ 32 → d ≡ max e f + 1 → k ≡ i + 1 → k + f < 2 ^ 32
deeper_second i k d e f h s t = omega (arith, s, t)

same_second : (i k d e f : ℕ) → i + d < 2 ^ 32 → d ≡ max e f + 1 → k ≡ i → k + f < 2 ^ 32
same_second i k d e f h s t = omega (arith, s, t)

module _ (p : ℕ → ℕ → Items → Bool) (q : ℕ → ℕ → ℕ → Bool) where
  -- what a walk of a term under i gens and sums and j lets takes
  abbrev pub Reached : Term → ℕ → ℕ → Type 0
  Reached z i j = (i + depth_fold z < 2 ^ 32) × ((j + depth_fold z < 2 ^ 32) × (place_fold p q z i j ≡ false))

  module _ (z : Term) (i j : ℕ) (h : i + depth_fold z < 2 ^ 32) (k : j + depth_fold z < 2 ^ 32) (w : place_fold p q z i j ≡ false) where
    found : (y : Term) (b : Bool) → z ≡ y → place_fold p q y i j ≡ b → b ≡ false
    found y b s e = sym (ap (λ x. place_fold p q x i j) s ∙ e) ∙ w

    pub reach-Index : (x : Aff) (e : Term) → z ≡ Index e x → Reached e i j
    reach-Index x e s =
        let d : depth_fold z ≡ depth_fold e + 1 = ap depth_fold (s ∙ Index-is e x) ∙ sym (node_depth-fold (index e x)) ∙ ap (λ d. d + 1)
        (node_depth-fold e) in (
          less i (depth_fold z) (depth_fold e) h d,
          (
            less j (depth_fold z) (depth_fold e) k d,
            not_first (place_fold p q e i j) (p i j x) (found (Index
                e x) _ s (place-Index p q e x i j)),
          ),
        )

    pub reach-Guard : (x : Cond) (e : Term) → z ≡ Guard x e → Reached e i j
    reach-Guard x e s =
        let d : depth_fold z ≡ depth_fold e + 1 = ap depth_fold (s ∙ Guard-is x e) ∙ sym (node_depth-fold (guard x e)) ∙ ap (λ d. d + 1)
        (node_depth-fold e) in (
          less i (depth_fold z) (depth_fold e) h d,
          (
            less j (depth_fold z) (depth_fold e) k d,
            not_second (any_cmp (p i j) x.all) (place_fold p q e i j)
                (found (Guard x e) _ s (place-Guard p q x e i j)),
          ),
        )

    pub reach-Split : (x : ℕ) (e : Term) → z ≡ Split x e → Reached e i j
    reach-Split x e s =
        let d : depth_fold z ≡ depth_fold e + 1 = ap depth_fold (s ∙ Split-is x e) ∙ sym (node_depth-fold (split x e)) ∙ ap (λ d. d + 1)
        (node_depth-fold e) in (
          less i (depth_fold z) (depth_fold e) h d,
          (
            less j (depth_fold z) (depth_fold e) k d,
            found (Split x e) (place_fold p q e i j) s (place-Split p
                q x e i j),
          ),
        )

    pub reach-TruncL : (x : Aff) (e : Term) → z ≡ TruncL x e → Reached e i j
    reach-TruncL x e s =
        let d : depth_fold z ≡ depth_fold e + 1 = ap depth_fold (s ∙ TruncL-is x e) ∙ sym (node_depth-fold (trunc_l x e)) ∙ ap (λ d. d + 1)
        (node_depth-fold e) in (
          less i (depth_fold z) (depth_fold e) h d,
          (
            less j (depth_fold z) (depth_fold e) k d,
            found (TruncL x e) (place_fold p q e i j) s (place-TruncL
                p q x e i j),
          ),
        )

    pub reach-TruncR : (x : Aff) (e : Term) → z ≡ TruncR x e → Reached e i j
    reach-TruncR x e s =
        let d : depth_fold z ≡ depth_fold e + 1 = ap depth_fold (s ∙ TruncR-is x e) ∙ sym (node_depth-fold (trunc_r x e)) ∙ ap (λ d. d + 1)
        (node_depth-fold e) in (
          less i (depth_fold z) (depth_fold e) h d,
          (
            less j (depth_fold z) (depth_fold e) k d,
            found (TruncR x e) (place_fold p q e i j) s (place-TruncR
                p q x e i j),
          ),
        )

    pub reach-PadL : (x : Aff) (e : Term) → z ≡ PadL x e → Reached e i j
    reach-PadL x e s =
        let d : depth_fold z ≡ depth_fold e + 1 = ap depth_fold (s ∙ PadL-is x e) ∙ sym (node_depth-fold (pad_l x e)) ∙ ap (λ d. d + 1)
        (node_depth-fold e) in (
          less i (depth_fold z) (depth_fold e) h d,
          (
            less j (depth_fold z) (depth_fold e) k d,
            found (PadL x e) (place_fold p q e i j) s (place-PadL p q
                x e i j),
          ),
        )

    pub reach-PadR : (x : Aff) (e : Term) → z ≡ PadR x e → Reached e i j
    reach-PadR x e s =
        let d : depth_fold z ≡ depth_fold e + 1 = ap depth_fold (s ∙ PadR-is x e) ∙ sym (node_depth-fold (pad_r x e)) ∙ ap (λ d. d + 1)
        (node_depth-fold e) in (
          less i (depth_fold z) (depth_fold e) h d,
          (
            less j (depth_fold z) (depth_fold e) k d,
            found (PadR x e) (place_fold p q e i j) s (place-PadR p q
                x e i j),
          ),
        )

    pub reach-Flatten : (e : Term) → z ≡ Flatten e → Reached e i j
    reach-Flatten e s =
        let d : depth_fold z ≡ depth_fold e + 1 = ap depth_fold (s ∙ Flatten-is e) ∙ sym (node_depth-fold (flatten e)) ∙ ap (λ d. d + 1)
        (node_depth-fold e) in (
          less i (depth_fold z) (depth_fold e) h d,
          (
            less j (depth_fold z) (depth_fold e) k d,
            found (Flatten e) (place_fold p q e i j) s (place-Flatten
                p q e i j),
          ),
        )

    pub reach-Transpose : (e : Term) → z ≡ Transpose e → Reached e i j
    reach-Transpose e s =
        let d : depth_fold z ≡ depth_fold e + 1 = ap depth_fold (s ∙ Transpose-is e) ∙ sym (node_depth-fold (transpose e)) ∙ ap (λ d. d + 1)
        (node_depth-fold e) in (
          less i (depth_fold z) (depth_fold e) h d,
          (
            less j (depth_fold z) (depth_fold e) k d,
            found (Transpose e) (place_fold p q e i j) s
                (place-Transpose p q e i j),
          ),
        )

    pub reach-Gen : (x : Aff) (e : Term) (i' j' : ℕ) → i' ≡ i + 1 → j' ≡ j → z ≡ Gen x e → Reached e i' j'
    reach-Gen x e i' j' a b s =
        let d : depth_fold z ≡ depth_fold e + 1 = ap depth_fold (s ∙ Gen-is x e) ∙ sym (node_depth-fold (gen x e)) ∙ ap (λ d. d + 1) (node_depth-fold
        e) in (
          deeper i i' (depth_fold z) (depth_fold e) h d a,
          (
            same_deep j j' (depth_fold z) (depth_fold e) k d b,
            (λ t. place_fold p q e (a t) (b t)) ∙ found (Gen x e) (place_fold p q e (i + 1) j) s
                (place-Gen p q x e i j),
          ),
        )

    pub reach-Sum : (x : Aff) (e : Term) (i' j' : ℕ) → i' ≡ i + 1 → j' ≡ j → z ≡ Sum x e → Reached e i' j'
    reach-Sum x e i' j' a b s =
        let d : depth_fold z ≡ depth_fold e + 1 = ap depth_fold (s ∙ Sum-is x e) ∙ sym (node_depth-fold (sum x e)) ∙ ap (λ d. d + 1) (node_depth-fold
        e) in (
          deeper i i' (depth_fold z) (depth_fold e) h d a,
          (
            same_deep j j' (depth_fold z) (depth_fold e) k d b,
            (λ t. place_fold p q e (a t) (b t)) ∙ found (Sum x e) (place_fold p q e (i + 1) j) s
                (place-Sum p q x e i j),
          ),
        )

    pub reach_first-Add : (x e : Term) → z ≡ Add x e → Reached x i j
    reach_first-Add x e s =
        let d : depth_fold z ≡ max (depth_fold x) (depth_fold e) + 1 =
        ap depth_fold (s ∙ Add-is x e) ∙ sym (node_depth-fold (add x e)) ∙ (λ t. max (node_depth-fold x t) (node_depth-fold e t) + 1) in (
          less_first i (depth_fold z) (depth_fold x) (depth_fold e) h d,
          (
            less_first j (depth_fold z) (depth_fold x) (depth_fold e) k d,
            not_first (place_fold p q x i j) (place_fold p q e i j) (found (Add x e) _ s (place-Add p q x e i j)),
          ),
        )

    pub reach_second-Add : (x e : Term) → z ≡ Add x e → Reached e i j
    reach_second-Add x e s =
        let d : depth_fold z ≡ max (depth_fold x) (depth_fold e) + 1 =
        ap depth_fold (s ∙ Add-is x e) ∙ sym (node_depth-fold (add x e)) ∙ (λ t. max (node_depth-fold x t) (node_depth-fold e t) + 1) in (
          less_second i (depth_fold z) (depth_fold x) (depth_fold e) h d,
          (
            less_second j (depth_fold z) (depth_fold x) (depth_fold e) k d,
            not_second (place_fold p q x i j) (place_fold p q e i j) (found (Add x e) _ s (place-Add p q x e i j)),
          ),
        )

    pub reach_first-Sub : (x e : Term) → z ≡ Sub x e → Reached x i j
    reach_first-Sub x e s =
        let d : depth_fold z ≡ max (depth_fold x) (depth_fold e) + 1 =
        ap depth_fold (s ∙ Sub-is x e) ∙ sym (node_depth-fold (sub x e)) ∙ (λ t. max (node_depth-fold x t) (node_depth-fold e t) + 1) in (
          less_first i (depth_fold z) (depth_fold x) (depth_fold e) h d,
          (
            less_first j (depth_fold z) (depth_fold x) (depth_fold e) k d,
            not_first (place_fold p q x i j) (place_fold p q e i j) (found (Sub x e) _ s (place-Sub p q x e i j)),
          ),
        )

    pub reach_second-Sub : (x e : Term) → z ≡ Sub x e → Reached e i j
    reach_second-Sub x e s =
        let d : depth_fold z ≡ max (depth_fold x) (depth_fold e) + 1 =
        ap depth_fold (s ∙ Sub-is x e) ∙ sym (node_depth-fold (sub x e)) ∙ (λ t. max (node_depth-fold x t) (node_depth-fold e t) + 1) in (
          less_second i (depth_fold z) (depth_fold x) (depth_fold e) h d,
          (
            less_second j (depth_fold z) (depth_fold x) (depth_fold e) k d,
            not_second (place_fold p q x i j) (place_fold p q e i j) (found (Sub x e) _ s (place-Sub p q x e i j)),
          ),
        )

    pub reach_first-Mul : (x e : Term) → z ≡ Mul x e → Reached x i j
    reach_first-Mul x e s =
        let d : depth_fold z ≡ max (depth_fold x) (depth_fold e) + 1 =
        ap depth_fold (s ∙ Mul-is x e) ∙ sym (node_depth-fold (mul x e)) ∙ (λ t. max (node_depth-fold x t) (node_depth-fold e t) + 1) in (
          less_first i (depth_fold z) (depth_fold x) (depth_fold e) h d,
          (
            less_first j (depth_fold z) (depth_fold x) (depth_fold e) k d,
            not_first (place_fold p q x i j) (place_fold p q e i j) (found (Mul x e) _ s (place-Mul p q x e i j)),
          ),
        )

    pub reach_second-Mul : (x e : Term) → z ≡ Mul x e → Reached e i j
    reach_second-Mul x e s =
        let d : depth_fold z ≡ max (depth_fold x) (depth_fold e) + 1 =
        ap depth_fold (s ∙ Mul-is x e) ∙ sym (node_depth-fold (mul x e)) ∙ (λ t. max (node_depth-fold x t) (node_depth-fold e t) + 1) in (
          less_second i (depth_fold z) (depth_fold x) (depth_fold e) h d,
          (
            less_second j (depth_fold z) (depth_fold x) (depth_fold e) k d,
            not_second (place_fold p q x i j) (place_fold p q e i j) (found (Mul x e) _ s (place-Mul p q x e i j)),
          ),
        )

    pub reach_first-Concat : (x e : Term) → z ≡ Concat x e → Reached x i j
    reach_first-Concat x e s =
        let d : depth_fold z ≡ max (depth_fold x) (depth_fold e) + 1 =
        ap depth_fold (s ∙ Concat-is x e) ∙ sym (node_depth-fold (concat x e)) ∙ (λ t. max (node_depth-fold x t) (node_depth-fold e t) + 1) in (
          less_first i (depth_fold z) (depth_fold x) (depth_fold e) h d,
          (
            less_first j (depth_fold z) (depth_fold x) (depth_fold e) k d,
            not_first (place_fold p q x i j) (place_fold p q e i j) (found (Concat x e) _ s (place-Concat p q x e i j)),
          ),
        )

    pub reach_second-Concat : (x e : Term) → z ≡ Concat x e → Reached e i j
    reach_second-Concat x e s =
        let d : depth_fold z ≡ max (depth_fold x) (depth_fold e) + 1 =
        ap depth_fold (s ∙ Concat-is x e) ∙ sym (node_depth-fold (concat x e)) ∙ (λ t. max (node_depth-fold x t) (node_depth-fold e t) + 1) in (
          less_second i (depth_fold z) (depth_fold x) (depth_fold e) h d,
          (
            less_second j (depth_fold z) (depth_fold x) (depth_fold e) k d,
            not_second (place_fold p q x i j) (place_fold p q e i j) (found (Concat x e) _ s (place-Concat p q x e i j)),
          ),
        )

    pub reach_first-Let : (x e : Term) → z ≡ Let x e → Reached x i j
    reach_first-Let x e s =
        let d : depth_fold z ≡ max (depth_fold x) (depth_fold e) + 1 =
        ap depth_fold (s ∙ Let-is x e) ∙ sym (node_depth-fold (let_in x e)) ∙ (λ t. max (node_depth-fold x t) (node_depth-fold e t) + 1) in (
          less_first i (depth_fold z) (depth_fold x) (depth_fold e) h d,
          (
            less_first j (depth_fold z) (depth_fold x) (depth_fold e) k d,
            not_first (place_fold p q x i j) (place_fold p q e i (j + 1)) (found (Let x e) _ s (place-Let p q x e i j)),
          ),
        )

    pub reach_second-Let : (x e : Term) (i' j' : ℕ) → i' ≡ i → j' ≡ j + 1 → z ≡ Let x e → Reached e i' j'
    reach_second-Let x e i' j' a b s =
        let d : depth_fold z ≡ max (depth_fold x) (depth_fold e) + 1 =
        ap depth_fold (s ∙ Let-is x e) ∙ sym (node_depth-fold (let_in x e)) ∙ (λ t. max (node_depth-fold x t) (node_depth-fold e t) + 1) in (
          same_second i i' (depth_fold z) (depth_fold x) (depth_fold e) h d a,
          (
            deeper_second j j' (depth_fold z) (depth_fold x) (depth_fold e) k d b,
            (λ t. place_fold p q e (a t) (b t)) ∙ not_second (place_fold p q x i j) (place_fold p q e i (j + 1)) (found (Let x e) _ s
                (place-Let p q x e i j)),
          ),
        )
