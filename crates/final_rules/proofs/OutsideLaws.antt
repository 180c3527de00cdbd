-- The walk that finds the first node outside the final form.
use Rattle.std.proofs.Common.{◌≡◌, ℕ, List, ◌∷◌, ap, sym, ◌∙◌, ◌⊎◌, inl, inr}
use Rattle.affine_index.specs.declared.aff.Aff.{Aff}
use Rattle.affine_index.specs.declared.cond.Cond.{Cond}
use Rattle.region_plan.proofs.WalkLaws.{IsTwo}
use Rattle.term_tree.specs.declared.term.Term.{Term}
use Rattle.term_tree.specs.declared.term.Term.TheVariants.{Index, Gen, Sum, Guard, Let, Add, Sub, Mul, Concat, Flatten, Split, Transpose, TruncL, TruncR, PadL}
use Rattle.term_tree.specs.declared.term.Term.TheVariants.{PadR}
use Rattle.term_tree.specs.Shape.{Extents}
use Rattle.final_rules.specs.Form.{Node, first_node, in_child, no_extents, outside, outside_word, unless}
use Rattle.final_rules.specs.Places.{extents_under}
use Rattle.final_rules.proofs.OutsideForms.{outside-Index, outside-Gen, outside-Sum, outside-Guard, outside-Let, outside-Add, outside-Sub, outside-Mul}
use Rattle.final_rules.proofs.OutsideForms.{outside-Concat, outside-Flatten, outside-Split, outside-Transpose, outside-TruncL, outside-TruncR, outside-PadL}
use Rattle.final_rules.proofs.OutsideForms.{outside-PadR}

-- a term of one part within the same buffer
abbrev pub IsPart : Term → Term → Type 0
IsPart f e = ((x : Aff) × (f ≡ Gen x e)) ⊎ (((x : Aff) × (f ≡ Sum x e)) ⊎ (((x : Cond) × (f ≡ Guard x e)) ⊎ ((f ≡ Flatten e) ⊎ (((x : ℕ) × (f ≡ Split x e)) ⊎
    ((f ≡ Transpose e) ⊎ (((x : Aff) × (f ≡ TruncL x e)) ⊎ (((x : Aff) × (f ≡ TruncR x e)) ⊎ (((x : Aff) × (f ≡ PadL x e)) ⊎
    (((x : Aff) × (f ≡ PadR x e)))))))))))

-- a term of two parts in store positions
abbrev pub IsPair : Term → Term → Term → Type 0
IsPair f a b = (f ≡ Add a b) ⊎ (f ≡ Concat a b)

pub two_of : (f a b : Term) → IsPair f a b → IsTwo f a b
two_of f a b (inl q) = inl q
two_of f a b (inr q) = inr (inr (inr q))

module _ (ts : List Extents) where
  pub one_outside : (f e g : Term) → g ≡ e → IsPart f e → in_child 0 (outside g ts) ≡ outside f ts
  one_outside f e g k (inl q) = ap (λ d. in_child 0 (outside d ts)) k ∙ sym (outside-Gen ts q.0 e) ∙ ap (λ d. outside d ts) (sym q.1)
  one_outside f e g k (inr (inl q)) = ap (λ d. in_child 0 (outside d ts)) k ∙ sym (outside-Sum ts q.0 e) ∙ ap (λ d. outside d ts) (sym q.1)
  one_outside f e g k (inr (inr (inl q))) = ap (λ d. in_child 0 (outside d ts)) k ∙ sym (outside-Guard ts q.0 e) ∙ ap (λ d. outside d ts) (sym q.1)
  one_outside f e g k (inr (inr (inr (inl q)))) = ap (λ d. in_child 0 (outside d ts)) k ∙ sym (outside-Flatten ts e) ∙ ap (λ d. outside d ts) (sym q)
  one_outside f e g k (inr (inr (inr (inr (inl q))))) = ap (λ d. in_child 0 (outside d ts)) k ∙ sym (outside-Split ts q.0 e) ∙ ap (λ d. outside d ts) (sym q.1)
  one_outside f e g k (inr (inr (inr (inr (inr (inl q)))))) = ap (λ d. in_child 0 (outside d ts)) k ∙ sym (outside-Transpose ts e)
      ∙ ap (λ d. outside d ts) (sym q)
  one_outside f e g k (inr (inr (inr (inr (inr (inr (inl q))))))) = ap (λ d. in_child 0 (outside d ts)) k ∙ sym (outside-TruncL ts q.0 e)
      ∙ ap (λ d. outside d ts) (sym q.1)
  one_outside f e g k (inr (inr (inr (inr (inr (inr (inr (inl q)))))))) = ap (λ d. in_child 0 (outside d ts)) k ∙ sym (outside-TruncR ts q.0 e)
      ∙ ap (λ d. outside d ts) (sym q.1)
  one_outside f e g k (inr (inr (inr (inr (inr (inr (inr (inr (inl q))))))))) = ap (λ d. in_child 0 (outside d ts)) k ∙ sym (outside-PadL ts q.0 e)
      ∙ ap (λ d. outside d ts) (sym q.1)
  one_outside f e g k (inr (inr (inr (inr (inr (inr (inr (inr (inr q))))))))) = ap (λ d. in_child 0 (outside d ts)) k ∙ sym (outside-PadR ts q.0 e)
      ∙ ap (λ d. outside d ts) (sym q.1)

  pub word-index : (f e : Term) (x : Aff) → f ≡ Index e x → outside_word f ≡ outside f ts
  word-index f e x i = ap outside_word i ∙ sym (outside-Index ts e x) ∙ ap (λ d. outside d ts) (sym i)

  pub word-mul : (f a b : Term) → f ≡ Mul a b → outside_word f ≡ outside f ts
  word-mul f a b i = ap outside_word i ∙ sym (outside-Mul ts a b) ∙ ap (λ d. outside d ts) (sym i)

  pub sub-node : (f a b : Term) (ns : Extents) (w : Node) → f ≡ Sub a b → ns ≡ extents_under a ts → w ≡ outside_word f
      → first_node (unless (no_extents ns)) w ≡ outside f ts
  sub-node f a b ns w i e q =
      (λ k. first_node (unless (no_extents (e k))) (q k)) ∙ ap (λ d. first_node (unless (no_extents (extents_under a ts))) (outside_word d)) i
      ∙ sym (outside-Sub ts a b) ∙ ap (λ d. outside d ts) (sym i)

  pub let-node : (f a b g h : Term) (first : Node) (us : List Extents) → f ≡ Let a b → g ≡ a → h ≡ b → first ≡ outside g ts → us ≡ extents_under a ts ∷ ts
      → first_node (in_child 0 first) (in_child 1 (outside h us)) ≡ outside f ts
  let-node f a b g h first us i k l e u =
      (λ j. first_node (in_child 0 (e j)) (in_child 1 (outside (l j) (u j))))
      ∙ ap (λ d. first_node (in_child 0 (outside d ts)) (in_child 1 (outside b (extents_under a ts ∷ ts)))) k
      ∙ sym (outside-Let ts a b) ∙ ap (λ d. outside d ts) (sym i)

  pub pair-node : (f a b g h : Term) (first : Node) (us : List Extents) → IsPair f a b → g ≡ a → h ≡ b → first ≡ outside g ts → us ≡ ts
      → first_node (in_child 0 first) (in_child 1 (outside h us)) ≡ outside f ts
  pair-node f a b g h first us (inl i) k l e u =
      (λ j. first_node (in_child 0 (e j)) (in_child 1 (outside (l j) (u j)))) ∙ ap (λ d. first_node (in_child 0 (outside d ts)) (in_child 1 (outside b ts))) k
      ∙ sym (outside-Add ts a b) ∙ ap (λ d. outside d ts) (sym i)
  pair-node f a b g h first us (inr i) k l e u =
      (λ j. first_node (in_child 0 (e j)) (in_child 1 (outside (l j) (u j)))) ∙ ap (λ d. first_node (in_child 0 (outside d ts)) (in_child 1 (outside b ts))) k
      ∙ sym (outside-Concat ts a b) ∙ ap (λ d. outside d ts) (sym i)
