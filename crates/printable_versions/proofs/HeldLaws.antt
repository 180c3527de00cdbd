-- The numbers and lists of a term are those of its parts.
use Rattle.std.proofs.Common.{◌≡◌, ◌≤◌, ◌^◌, ℕ, List, length, sym, ◌∙◌, subst, ◌⊎◌, inl, inr}
use Rattle.affine_index.specs.declared.aff.Aff.{Aff}
use Rattle.affine_index.specs.declared.cond.Cmp.{Cmp}
use Rattle.affine_index.specs.declared.cond.Cond.{Cond}
use Rattle.term_tree.specs.declared.term.Term.{Term}
use Rattle.term_tree.specs.declared.term.Term.TheVariants.{Index, Gen, Sum, Guard, Let, Add, Sub, Mul, Concat, Flatten, Split, Transpose, TruncL, TruncR, PadL}
use Rattle.term_tree.specs.declared.term.Term.TheVariants.{PadR}
use Rattle.term_tree.specs.Syntax.{index, gen, sum, guard, let_in, add, sub, mul, concat, flatten, split, transpose, trunc_l, trunc_r, pad_l, pad_r}
use Rattle.term_tree.proofs.Forms.{Index-is, Gen-is, Sum-is, Guard-is, Let-is, Add-is, Sub-is, Mul-is, Concat-is, Flatten-is, Split-is, Transpose-is, TruncL-is}
use Rattle.term_tree.proofs.Forms.{TruncR-is, PadL-is, PadR-is}
use Rattle.atl_printer.specs.Held.{IsHeld}

-- a term with one part, but for guards
abbrev IsOne : Term → Term → Type 0
IsOne f e = ((x : Aff) × (f ≡ Index e x)) ⊎
    (((x : Aff) × (f ≡ Gen x e)) ⊎
    (((x : Aff) × (f ≡ Sum x e)) ⊎
    ((f ≡ Flatten e) ⊎
    (((x : ℕ) × (f ≡ Split x e)) ⊎
    ((f ≡ Transpose e) ⊎
    (((x : Aff) × (f ≡ TruncL x e)) ⊎ (((x : Aff) × (f ≡ TruncR x e)) ⊎ (((x : Aff) × (f ≡ PadL x e)) ⊎ ((x : Aff) × (f ≡ PadR x e))))))))))

-- a term with two parts
abbrev IsTwo : Term → Term → Term → Type 0
IsTwo f a b = (f ≡ Let a b) ⊎ ((f ≡ Add a b) ⊎ ((f ≡ Sub a b) ⊎ ((f ≡ Mul a b) ⊎ (f ≡ Concat a b))))

-- of a part as it is read
module _ (f : Term) where
  as_is : (e g : Term) → g ≡ e → IsHeld g → IsHeld e
  as_is e g r h = subst IsHeld r h

  made : (d : Term) → f ≡ d → IsHeld d → IsHeld f
  made d q h = subst IsHeld (sym q) h

  pub one_held : (e g : Term) → g ≡ e → IsOne f e → IsHeld g → IsHeld f
  one_held e g r (inl q) h = made (index e q.0) (q.1 ∙ Index-is e q.0) (as_is e g r h)
  one_held e g r (inr (inl q)) h = made (gen q.0 e) (q.1 ∙ Gen-is q.0 e) (as_is e g r h)
  one_held e g r (inr (inr (inl q))) h = made (sum q.0 e) (q.1 ∙ Sum-is q.0 e) (as_is e g r h)
  one_held e g r (inr (inr (inr (inl q)))) h = made (flatten e) (q ∙ Flatten-is e) (as_is e g r h)
  one_held e g r (inr (inr (inr (inr (inl q))))) h = made (split q.0 e) (q.1 ∙ Split-is q.0 e) (as_is e g r h)
  one_held e g r (inr (inr (inr (inr (inr (inl q)))))) h = made (transpose e) (q ∙ Transpose-is e) (as_is e g r h)
  one_held e g r (inr (inr (inr (inr (inr (inr (inl q))))))) h = made (trunc_l q.0 e) (q.1 ∙ TruncL-is q.0 e) (as_is e g r h)
  one_held e g r (inr (inr (inr (inr (inr (inr (inr (inl q)))))))) h = made (trunc_r q.0 e) (q.1 ∙ TruncR-is q.0 e) (as_is e g r h)
  one_held e g r (inr (inr (inr (inr (inr (inr (inr (inr (inl q))))))))) h = made (pad_l q.0 e) (q.1 ∙ PadL-is q.0 e) (as_is e g r h)
  one_held e g r (inr (inr (inr (inr (inr (inr (inr (inr (inr q))))))))) h = made (pad_r q.0 e) (q.1 ∙ PadR-is q.0 e) (as_is e g r h)

  pub guard_held : (c : Cond) (e g : Term) (all : List Cmp) → f ≡ Guard c e → all ≡ c.all → length all ≤ 2 ^ 63 → g ≡ e → IsHeld g → IsHeld f
  guard_held c e g all q same few r h =
      made (guard c e) (q ∙ Guard-is c e) (subst (λ (cs : List Cmp). length cs ≤ 2 ^ 63) same few, as_is e g r h)

  pub two_held : (a b c d : Term) → c ≡ a → d ≡ b → IsTwo f a b → IsHeld c → IsHeld d → IsHeld f
  two_held a b c d r o (inl q) h k = made (let_in a b) (q ∙ Let-is a b) (as_is a c r h, as_is b d o k)
  two_held a b c d r o (inr (inl q)) h k = made (add a b) (q ∙ Add-is a b) (as_is a c r h, as_is b d o k)
  two_held a b c d r o (inr (inr (inl q))) h k = made (sub a b) (q ∙ Sub-is a b) (as_is a c r h, as_is b d o k)
  two_held a b c d r o (inr (inr (inr (inl q)))) h k = made (mul a b) (q ∙ Mul-is a b) (as_is a c r h, as_is b d o k)
  two_held a b c d r o (inr (inr (inr (inr q)))) h k = made (concat a b) (q ∙ Concat-is a b) (as_is a c r h, as_is b d o k)
