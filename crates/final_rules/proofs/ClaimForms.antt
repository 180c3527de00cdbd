-- The claims of terms as code has them.
use Rattle.std.proofs.Common.{◌≡◌, ℕ, List, [], ◌∷◌, ◌++◌, ap, sym, ◌∙◌, if◌then◌else◌}
use Rattle.affine_index.specs.declared.aff.Aff.{Aff}
use Rattle.affine_index.specs.declared.cond.Cond.{Cond}
use Rattle.term_tree.specs.declared.term.Term.{Term}
use Rattle.term_tree.specs.declared.term.Term.TheVariants.{Index, Gen, Sum, Guard, Let, Add, Sub, Mul, Concat, Flatten, Split, Transpose, TruncL, TruncR, PadL}
use Rattle.term_tree.specs.declared.term.Term.TheVariants.{PadR}
use Rattle.term_tree.specs.Shape.{Extents}
use Rattle.term_tree.proofs.Forms.{Index-is, Gen-is, Sum-is, Guard-is, Let-is, Add-is, Sub-is, Mul-is, Concat-is, Flatten-is, Split-is, Transpose-is, TruncL-is}
use Rattle.term_tree.proofs.Forms.{TruncR-is, PadL-is, PadR-is}
use Rattle.final_rules.specs.declared.spot.Spot.{Spot}
use Rattle.final_rules.specs.Form.{adds_words, read_under}
use Rattle.final_rules.specs.Goals.{claims_of, full_read_claims_if, leaf_claims}
use Rattle.final_rules.specs.Places.{alone, extents_under, inside, right_of}
use Rattle.final_rules.specs.Steps.{child_spot}

module _ (q : Spot) (ts : List Extents) where
  pub claims-Index : (e : Term) (x : Aff) → claims_of (Index e x) q ts ≡ full_read_claims_if (extents_under (Index e x) ts) (read_under (Index e x) []) q ts
  claims-Index e x = ap (λ f. claims_of f q ts) (Index-is e x) ∙ ap (λ f. full_read_claims_if (extents_under f ts) (read_under f []) q ts) (sym (Index-is e x))

  pub claims-Gen : (n : Aff) (e : Term) → claims_of (Gen n e) q ts ≡ claims_of e (child_spot (Gen n e) ts q) ts
  claims-Gen n e = ap (λ f. claims_of f q ts) (Gen-is n e) ∙ ap (λ f. claims_of e (child_spot f ts q) ts) (sym (Gen-is n e))

  pub claims-Sum : (n : Aff) (e : Term) → claims_of (Sum n e) q ts ≡ claims_of e (child_spot (Sum n e) ts q) ts
  claims-Sum n e = ap (λ f. claims_of f q ts) (Sum-is n e) ∙ ap (λ f. claims_of e (child_spot f ts q) ts) (sym (Sum-is n e))

  pub claims-Guard : (c : Cond) (e : Term) → claims_of (Guard c e) q ts ≡ claims_of e (child_spot (Guard c e) ts q) ts
  claims-Guard c e = ap (λ f. claims_of f q ts) (Guard-is c e) ∙ ap (λ f. claims_of e (child_spot f ts q) ts) (sym (Guard-is c e))

  pub claims-Let : (a : Term) (b : Term) → claims_of (Let a b) q ts ≡ claims_of a (alone q) ts ++ claims_of b q (extents_under a ts ∷ ts)
  claims-Let a b = ap (λ f. claims_of f q ts) (Let-is a b)

  pub claims-Add : (a : Term) (b : Term)
      → claims_of (Add a b) q ts ≡ (if adds_words a b ts then leaf_claims (Add a b) q ts else (claims_of a q ts ++ claims_of b q ts))
  claims-Add a b = ap (λ f. claims_of f q ts) (Add-is a b) ∙ ap (λ f. if adds_words a b ts then leaf_claims f q ts else (claims_of a q ts ++ claims_of b q ts))
      (sym (Add-is a b))

  pub claims-Sub : (a : Term) (b : Term) → claims_of (Sub a b) q ts ≡ leaf_claims (Sub a b) q ts
  claims-Sub a b = ap (λ f. claims_of f q ts) (Sub-is a b) ∙ ap (λ f. leaf_claims f q ts) (sym (Sub-is a b))

  pub claims-Mul : (a : Term) (b : Term) → claims_of (Mul a b) q ts ≡ leaf_claims (Mul a b) q ts
  claims-Mul a b = ap (λ f. claims_of f q ts) (Mul-is a b) ∙ ap (λ f. leaf_claims f q ts) (sym (Mul-is a b))

  pub claims-Concat : (a : Term) (b : Term) → claims_of (Concat a b) q ts ≡ claims_of a q ts ++ claims_of b (inside (right_of a ts) q) ts
  claims-Concat a b = ap (λ f. claims_of f q ts) (Concat-is a b)

  pub claims-Flatten : (e : Term) → claims_of (Flatten e) q ts ≡ claims_of e (child_spot (Flatten e) ts q) ts
  claims-Flatten e = ap (λ f. claims_of f q ts) (Flatten-is e) ∙ ap (λ f. claims_of e (child_spot f ts q) ts) (sym (Flatten-is e))

  pub claims-Split : (k : ℕ) (e : Term) → claims_of (Split k e) q ts ≡ claims_of e (child_spot (Split k e) ts q) ts
  claims-Split k e = ap (λ f. claims_of f q ts) (Split-is k e) ∙ ap (λ f. claims_of e (child_spot f ts q) ts) (sym (Split-is k e))

  pub claims-Transpose : (e : Term) → claims_of (Transpose e) q ts ≡ claims_of e (child_spot (Transpose e) ts q) ts
  claims-Transpose e = ap (λ f. claims_of f q ts) (Transpose-is e) ∙ ap (λ f. claims_of e (child_spot f ts q) ts) (sym (Transpose-is e))

  pub claims-TruncL : (n : Aff) (e : Term) → claims_of (TruncL n e) q ts ≡ claims_of e (child_spot (TruncL n e) ts q) ts
  claims-TruncL n e = ap (λ f. claims_of f q ts) (TruncL-is n e) ∙ ap (λ f. claims_of e (child_spot f ts q) ts) (sym (TruncL-is n e))

  pub claims-TruncR : (n : Aff) (e : Term) → claims_of (TruncR n e) q ts ≡ claims_of e (child_spot (TruncR n e) ts q) ts
  claims-TruncR n e = ap (λ f. claims_of f q ts) (TruncR-is n e) ∙ ap (λ f. claims_of e (child_spot f ts q) ts) (sym (TruncR-is n e))

  pub claims-PadL : (n : Aff) (e : Term) → claims_of (PadL n e) q ts ≡ claims_of e (child_spot (PadL n e) ts q) ts
  claims-PadL n e = ap (λ f. claims_of f q ts) (PadL-is n e) ∙ ap (λ f. claims_of e (child_spot f ts q) ts) (sym (PadL-is n e))

  pub claims-PadR : (n : Aff) (e : Term) → claims_of (PadR n e) q ts ≡ claims_of e (child_spot (PadR n e) ts q) ts
  claims-PadR n e = ap (λ f. claims_of f q ts) (PadR-is n e) ∙ ap (λ f. claims_of e (child_spot f ts q) ts) (sym (PadR-is n e))

pub ruleset claim_forms = (
  claims-Index,
  claims-Gen,
  claims-Sum,
  claims-Guard,
  claims-Let,
  claims-Add,
  claims-Sub,
  claims-Mul,
  claims-Concat,
  claims-Flatten,
  claims-Split,
  claims-Transpose,
  claims-TruncL,
  claims-TruncR,
  claims-PadL,
  claims-PadR,
)
