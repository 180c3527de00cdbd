-- The literals of a term are those of its parts.
use Rattle.std.proofs.Common.{◌≡◌, ℕ, zero, suc, List, [], ◌∷◌, ap, drop, sym, ◌∙◌, subst, arith, ◌⊎◌, inl, inr}
use Rattle.std.specs.Prelude.{All}
use Rattle.region_plan.proofs.WalkLaws.{GoesDown, IsOne, IsTwo, one_down}
use Rattle.shape_rules.specs.Fits.{LiteralsFit}
use Rattle.term_tree.specs.declared.term.Module.{Module}
use Rattle.term_tree.specs.declared.term.OutputDecl.{OutputDecl}
use Rattle.term_tree.specs.declared.term.Term.{Term, TVar, WordOf}
use Rattle.term_tree.specs.declared.term.Term.TheVariants.{Let}
use Rattle.term_tree.specs.Syntax.{add, sub, mul, concat}
use Rattle.term_tree.proofs.Forms.{Add-is, Sub-is, Mul-is, Concat-is}
use Rattle.affine_index.specs.declared.aff.Aff.{Aff}
use Rattle.lowering.specs.Outputs.{LiteralsEach}
use Rattle.lowering.proofs.NodeForms.{let-of}

-- a term without literals
pub none-literals : (f : Term) → ((q : ℕ) × (f ≡ TVar q)) ⊎ ((x : Aff) × (f ≡ WordOf x)) → LiteralsFit f
none-literals f (inl q) = let h : LiteralsFit (TVar q.0) = tt in subst LiteralsFit (sym q.1) h
none-literals f (inr q) = let h : LiteralsFit (WordOf q.0) = tt in subst LiteralsFit (sym q.1) h

pub one-literals : (f e g : Term) → g ≡ e → IsOne f e → LiteralsFit g → LiteralsFit f
one-literals f e g r o h = one_down (λ d. LiteralsFit d → LiteralsFit f) down f e g r o (λ k. k) h
  where
    down : GoesDown (λ d. LiteralsFit d → LiteralsFit f)
    down = record {
      at_index = λ e x k. k;
      at_gen = λ x e k. k;
      at_sum = λ x e k. k;
      at_guard = λ x e k. k;
      at_flatten = λ e k. k;
      at_split = λ x e k. k;
      at_transpose = λ e k. k;
      at_trunc_l = λ x e k. k;
      at_trunc_r = λ x e k. k;
      at_pad_l = λ x e k. k;
      at_pad_r = λ x e k. k;
    }

pub let-literals : (f a b c d : Term) → c ≡ a → d ≡ b → f ≡ Let a b → LiteralsFit c → LiteralsFit d → LiteralsFit f
let-literals f a b c d r o e h k = subst LiteralsFit (sym (let-of f a b c d r o e)) (h, k)

pub two-literals : (f a b c d : Term) → c ≡ a → d ≡ b → IsTwo f a b → LiteralsFit c → LiteralsFit d → LiteralsFit f
two-literals f a b c d r o (inl q) h k = subst LiteralsFit (sym (q ∙ Add-is a b ∙ (λ i. add (sym r i) (sym o i)))) (h, k)
two-literals f a b c d r o (inr (inl q)) h k = subst LiteralsFit (sym (q ∙ Sub-is a b ∙ (λ i. sub (sym r i) (sym o i)))) (h, k)
two-literals f a b c d r o (inr (inr (inl q))) h k = subst LiteralsFit (sym (q ∙ Mul-is a b ∙ (λ i. mul (sym r i) (sym o i)))) (h, k)
two-literals f a b c d r o (inr (inr (inr q))) h k = subst LiteralsFit (sym (q ∙ Concat-is a b ∙ (λ i. concat (sym r i) (sym o i)))) (h, k)

pub each-literal : (os : List OutputDecl) → LiteralsEach os → All (λ o. LiteralsFit o.term) os
each-literal [] h k d l = absurd (omega (arith, l))
each-literal (o ∷ os) h zero d l = h.0
each-literal (o ∷ os) h (suc k) d l = each-literal os h.1 k d (omega (arith, l))

-- of the outputs of a module
pub each-output : (m n : Module) (os : List OutputDecl) → n ≡ m → os ≡ n.outputs → LiteralsEach (drop 0 os) → All (λ o. LiteralsFit o.term) m.outputs
each-output m n os same is each =
    subst (λ (l : List OutputDecl). All (λ o. LiteralsFit o.term) l) (is ∙ ap (λ (k : Module). k.outputs) same) (each-literal os each)
