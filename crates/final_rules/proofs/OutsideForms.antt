-- The first node outside the form, at terms as code has them.
use Rattle.std.proofs.Common.{◌≡◌, ℕ, List, ◌∷◌, ap, sym, ◌∙◌}
use Rattle.affine_index.specs.declared.aff.Aff.{Aff}
use Rattle.affine_index.specs.declared.cond.Cond.{Cond}
use Rattle.term_tree.specs.declared.term.Term.{Term}
use Rattle.term_tree.specs.declared.term.Term.TheVariants.{Index, Gen, Sum, Guard, Let, Add, Sub, Mul, Concat, Flatten, Split, Transpose, TruncL, TruncR, PadL}
use Rattle.term_tree.specs.declared.term.Term.TheVariants.{PadR}
use Rattle.term_tree.specs.Shape.{Extents}
use Rattle.term_tree.proofs.Forms.{Index-is, Gen-is, Sum-is, Guard-is, Let-is, Add-is, Sub-is, Mul-is, Concat-is, Flatten-is, Split-is, Transpose-is, TruncL-is}
use Rattle.term_tree.proofs.Forms.{TruncR-is, PadL-is, PadR-is}
use Rattle.final_rules.specs.Form.{first_node, in_child, no_extents, outside, outside_word, unless}
use Rattle.final_rules.specs.Places.{extents_under}

module _ (ts : List Extents) where
  pub outside-Index : (e : Term) (x : Aff) → outside (Index e x) ts ≡ outside_word (Index e x)
  outside-Index e x = (λ i. outside (Index-is e x i) ts) ∙ ap outside_word (sym (Index-is e x))

  pub outside-Gen : (n : Aff) (e : Term) → outside (Gen n e) ts ≡ in_child 0 (outside e ts)
  outside-Gen n e = ap (λ f. outside f ts) (Gen-is n e)

  pub outside-Sum : (n : Aff) (e : Term) → outside (Sum n e) ts ≡ in_child 0 (outside e ts)
  outside-Sum n e = ap (λ f. outside f ts) (Sum-is n e)

  pub outside-Guard : (c : Cond) (e : Term) → outside (Guard c e) ts ≡ in_child 0 (outside e ts)
  outside-Guard c e = ap (λ f. outside f ts) (Guard-is c e)

  pub outside-Let : (a : Term) (b : Term) → outside (Let a b) ts ≡ first_node (in_child 0 (outside a ts)) (in_child 1 (outside b (extents_under a ts ∷ ts)))
  outside-Let a b = ap (λ f. outside f ts) (Let-is a b)

  pub outside-Add : (a : Term) (b : Term) → outside (Add a b) ts ≡ first_node (in_child 0 (outside a ts)) (in_child 1 (outside b ts))
  outside-Add a b = ap (λ f. outside f ts) (Add-is a b)

  pub outside-Sub : (a : Term) (b : Term) → outside (Sub a b) ts ≡ first_node (unless (no_extents (extents_under a ts))) (outside_word (Sub a b))
  outside-Sub a b = (λ i. outside (Sub-is a b i) ts) ∙ ap (λ f. first_node (unless (no_extents (extents_under a ts))) (outside_word f)) (sym (Sub-is a b))

  pub outside-Mul : (a : Term) (b : Term) → outside (Mul a b) ts ≡ outside_word (Mul a b)
  outside-Mul a b = (λ i. outside (Mul-is a b i) ts) ∙ ap outside_word (sym (Mul-is a b))

  pub outside-Concat : (a : Term) (b : Term) → outside (Concat a b) ts ≡ first_node (in_child 0 (outside a ts)) (in_child 1 (outside b ts))
  outside-Concat a b = ap (λ f. outside f ts) (Concat-is a b)

  pub outside-Flatten : (e : Term) → outside (Flatten e) ts ≡ in_child 0 (outside e ts)
  outside-Flatten e = ap (λ f. outside f ts) (Flatten-is e)

  pub outside-Split : (k : ℕ) (e : Term) → outside (Split k e) ts ≡ in_child 0 (outside e ts)
  outside-Split k e = ap (λ f. outside f ts) (Split-is k e)

  pub outside-Transpose : (e : Term) → outside (Transpose e) ts ≡ in_child 0 (outside e ts)
  outside-Transpose e = ap (λ f. outside f ts) (Transpose-is e)

  pub outside-TruncL : (n : Aff) (e : Term) → outside (TruncL n e) ts ≡ in_child 0 (outside e ts)
  outside-TruncL n e = ap (λ f. outside f ts) (TruncL-is n e)

  pub outside-TruncR : (n : Aff) (e : Term) → outside (TruncR n e) ts ≡ in_child 0 (outside e ts)
  outside-TruncR n e = ap (λ f. outside f ts) (TruncR-is n e)

  pub outside-PadL : (n : Aff) (e : Term) → outside (PadL n e) ts ≡ in_child 0 (outside e ts)
  outside-PadL n e = ap (λ f. outside f ts) (PadL-is n e)

  pub outside-PadR : (n : Aff) (e : Term) → outside (PadR n e) ts ≡ in_child 0 (outside e ts)
  outside-PadR n e = ap (λ f. outside f ts) (PadR-is n e)

pub ruleset outside_forms = (
  outside-Index,
  outside-Gen,
  outside-Sum,
  outside-Guard,
  outside-Let,
  outside-Add,
  outside-Sub,
  outside-Mul,
  outside-Concat,
  outside-Flatten,
  outside-Split,
  outside-Transpose,
  outside-TruncL,
  outside-TruncR,
  outside-PadL,
  outside-PadR,
)
