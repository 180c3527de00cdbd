-- The claims of terms, at terms as code walks them.
use Rattle.std.proofs.Common.{◌≡◌, ℕ, List, ◌∷◌, ◌++◌, ap, sym, ◌∙◌, ◌⊎◌, inl, inr}
use Rattle.affine_index.specs.declared.aff.Aff.{Aff}
use Rattle.affine_index.specs.declared.cond.Cond.{Cond}
use Rattle.term_tree.specs.declared.term.Term.{Term}
use Rattle.term_tree.specs.declared.term.Term.TheVariants.{Gen, Sum, Guard, Let, Concat, Flatten, Split, Transpose, TruncL, TruncR, PadL, PadR}
use Rattle.term_tree.specs.Shape.{Extents}
use Rattle.final_rules.specs.declared.spot.Spot.{Spot}
use Rattle.final_rules.specs.Goals.{claims_of}
use Rattle.final_rules.specs.Places.{alone, extents_under, inside, right_of}
use Rattle.final_rules.specs.Steps.{child_spot}
use Rattle.final_rules.proofs.ClaimForms.{claims-Gen, claims-Sum, claims-Guard, claims-Let, claims-Concat, claims-Flatten, claims-Split, claims-Transpose}
use Rattle.final_rules.proofs.ClaimForms.{claims-TruncL, claims-TruncR, claims-PadL, claims-PadR}

-- a node with one part in a store position
abbrev pub IsPart : Term → Term → Type 0
IsPart f e = ((x : Aff) × (f ≡ Gen x e)) ⊎
    (((x : Aff) × (f ≡ Sum x e)) ⊎
    (((x : Cond) × (f ≡ Guard x e)) ⊎
    ((f ≡ Flatten e) ⊎
    (((x : ℕ) × (f ≡ Split x e)) ⊎
    ((f ≡ Transpose e) ⊎
    (((x : Aff) × (f ≡ TruncL x e)) ⊎
    (((x : Aff) × (f ≡ TruncR x e)) ⊎
    (((x : Aff) × (f ≡ PadL x e)) ⊎
    (((x : Aff) × (f ≡ PadR x e)))))))))))

module _ (q : Spot) (ts : List Extents) where
  moved : (f g : Term) → f ≡ g → claims_of g q ts ≡ claims_of f q ts
  moved f g e = ap (λ h. claims_of h q ts) (sym e)

  pub let-claims : (f a b c d : Term) → c ≡ a → d ≡ b → f ≡ Let a b → claims_of c (alone q) ts ++ claims_of d q (extents_under c ts ∷ ts) ≡ claims_of f q ts
  let-claims f a b c d r o e =
      (λ i. claims_of (r i) (alone q) ts ++ claims_of (o i) q (extents_under (r i) ts ∷ ts)) ∙ sym (claims-Let q ts a b) ∙ moved f (Let a b) e

  pub concat-claims : (f a b c d : Term) → c ≡ a → d ≡ b → f ≡ Concat a b
      → claims_of c q ts ++ claims_of d (inside (right_of c ts) q) ts ≡ claims_of f q ts
  concat-claims f a b c d r o e =
      (λ i. claims_of (r i) q ts ++ claims_of (o i) (inside (right_of (r i) ts) q) ts) ∙ sym (claims-Concat q ts a b) ∙ moved f (Concat a b) e

  pub part-claims : (f e g : Term) → g ≡ e → IsPart f e → claims_of g (child_spot f ts q) ts ≡ claims_of f q ts
  part-claims f e g r (inl p) =
      (λ i. claims_of (r i) (child_spot (p.1 i) ts q) ts) ∙ sym (claims-Gen q ts p.0 e) ∙ moved f (Gen p.0 e) p.1
  part-claims f e g r (inr (inl p)) =
      (λ i. claims_of (r i) (child_spot (p.1 i) ts q) ts) ∙ sym (claims-Sum q ts p.0 e) ∙ moved f (Sum p.0 e) p.1
  part-claims f e g r (inr (inr (inl p))) =
      (λ i. claims_of (r i) (child_spot (p.1 i) ts q) ts) ∙ sym (claims-Guard q ts p.0 e) ∙ moved f (Guard p.0 e) p.1
  part-claims f e g r (inr (inr (inr (inl p)))) =
      (λ i. claims_of (r i) (child_spot (p i) ts q) ts) ∙ sym (claims-Flatten q ts e) ∙ moved f (Flatten e) p
  part-claims f e g r (inr (inr (inr (inr (inl p))))) =
      (λ i. claims_of (r i) (child_spot (p.1 i) ts q) ts) ∙ sym (claims-Split q ts p.0 e) ∙ moved f (Split p.0 e) p.1
  part-claims f e g r (inr (inr (inr (inr (inr (inl p)))))) =
      (λ i. claims_of (r i) (child_spot (p i) ts q) ts) ∙ sym (claims-Transpose q ts e) ∙ moved f (Transpose e) p
  part-claims f e g r (inr (inr (inr (inr (inr (inr (inl p))))))) =
      (λ i. claims_of (r i) (child_spot (p.1 i) ts q) ts) ∙ sym (claims-TruncL q ts p.0 e) ∙ moved f (TruncL p.0 e) p.1
  part-claims f e g r (inr (inr (inr (inr (inr (inr (inr (inl p)))))))) =
      (λ i. claims_of (r i) (child_spot (p.1 i) ts q) ts) ∙ sym (claims-TruncR q ts p.0 e) ∙ moved f (TruncR p.0 e) p.1
  part-claims f e g r (inr (inr (inr (inr (inr (inr (inr (inr (inl p))))))))) =
      (λ i. claims_of (r i) (child_spot (p.1 i) ts q) ts) ∙ sym (claims-PadL q ts p.0 e) ∙ moved f (PadL p.0 e) p.1
  part-claims f e g r (inr (inr (inr (inr (inr (inr (inr (inr (inr p))))))))) =
      (λ i. claims_of (r i) (child_spot (p.1 i) ts q) ts) ∙ sym (claims-PadR q ts p.0 e) ∙ moved f (PadR p.0 e) p.1
