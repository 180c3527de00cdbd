-- The claims of words, at terms as code has them.
use Rattle.std.proofs.Common.{◌≡◌, ℕ, List, [], ◌∷◌, ◌++◌, ap, sym, ◌∙◌, inl, inr}
use Rattle.affine_index.specs.declared.aff.Aff.{Aff}
use Rattle.affine_index.specs.declared.cond.Cond.{Cond}
use Rattle.fact_list.specs.declared.facts.PathFact.{PathFact}
use Rattle.fact_list.specs.declared.facts.PathFact.TheVariants.{Holds}
use Rattle.term_tree.specs.declared.term.Term.{Term}
use Rattle.term_tree.specs.declared.term.Term.TheVariants.{Index, Gen, Sum, Guard, Let, Add, Sub, Mul, Concat, Flatten, Split, Transpose, TruncL, TruncR, PadL}
use Rattle.term_tree.specs.declared.term.Term.TheVariants.{PadR}
use Rattle.term_tree.specs.Shape.{Extents}
use Rattle.term_tree.proofs.Forms.{Index-is, Gen-is, Sum-is, Guard-is, Let-is, Add-is, Sub-is, Mul-is, Concat-is, Flatten-is, Split-is, Transpose-is, TruncL-is}
use Rattle.term_tree.proofs.Forms.{TruncR-is, PadL-is, PadR-is}
use Rattle.final_rules.specs.Form.{read_under}
use Rattle.final_rules.specs.Goals.{read_claims_if, word_claims}
use Rattle.final_rules.proofs.WordForms.{IsRead, IsTwo}

module _ (path : List PathFact) (ts : List Extents) where
  pub word-Index : (e : Term) (x : Aff) → word_claims (Index e x) path ts ≡ read_claims_if (read_under (Index e x) []) path ts
  word-Index e x = ap (λ f. word_claims f path ts) (Index-is e x) ∙ ap (λ f. read_claims_if (read_under f []) path ts) (sym (Index-is e x))

  pub word-Guard : (c : Cond) (e : Term) → word_claims (Guard c e) path ts ≡ word_claims e (path ++ Holds c ∷ []) ts
  word-Guard c e = ap (λ f. word_claims f path ts) (Guard-is c e)

  pub word-Add : (a b : Term) → word_claims (Add a b) path ts ≡ word_claims a path ts ++ word_claims b path ts
  word-Add a b = ap (λ f. word_claims f path ts) (Add-is a b)

  pub word-Sub : (a b : Term) → word_claims (Sub a b) path ts ≡ word_claims a path ts ++ word_claims b path ts
  word-Sub a b = ap (λ f. word_claims f path ts) (Sub-is a b)

  pub word-Mul : (a b : Term) → word_claims (Mul a b) path ts ≡ word_claims a path ts ++ word_claims b path ts
  word-Mul a b = ap (λ f. word_claims f path ts) (Mul-is a b)

  pub word-Gen : (n : Aff) (e : Term) → word_claims (Gen n e) path ts ≡ []
  word-Gen n e = ap (λ f. word_claims f path ts) (Gen-is n e)

  pub word-Sum : (n : Aff) (e : Term) → word_claims (Sum n e) path ts ≡ []
  word-Sum n e = ap (λ f. word_claims f path ts) (Sum-is n e)

  pub word-Let : (a b : Term) → word_claims (Let a b) path ts ≡ []
  word-Let a b = ap (λ f. word_claims f path ts) (Let-is a b)

  pub word-Concat : (a b : Term) → word_claims (Concat a b) path ts ≡ []
  word-Concat a b = ap (λ f. word_claims f path ts) (Concat-is a b)

  pub word-Flatten : (e : Term) → word_claims (Flatten e) path ts ≡ []
  word-Flatten e = ap (λ f. word_claims f path ts) (Flatten-is e)

  pub word-Split : (k : ℕ) (e : Term) → word_claims (Split k e) path ts ≡ []
  word-Split k e = ap (λ f. word_claims f path ts) (Split-is k e)

  pub word-Transpose : (e : Term) → word_claims (Transpose e) path ts ≡ []
  word-Transpose e = ap (λ f. word_claims f path ts) (Transpose-is e)

  pub word-TruncL : (n : Aff) (e : Term) → word_claims (TruncL n e) path ts ≡ []
  word-TruncL n e = ap (λ f. word_claims f path ts) (TruncL-is n e)

  pub word-TruncR : (n : Aff) (e : Term) → word_claims (TruncR n e) path ts ≡ []
  word-TruncR n e = ap (λ f. word_claims f path ts) (TruncR-is n e)

  pub word-PadL : (n : Aff) (e : Term) → word_claims (PadL n e) path ts ≡ []
  word-PadL n e = ap (λ f. word_claims f path ts) (PadL-is n e)

  pub word-PadR : (n : Aff) (e : Term) → word_claims (PadR n e) path ts ≡ []
  word-PadR n e = ap (λ f. word_claims f path ts) (PadR-is n e)

  pub guard-claims : (f : Term) (c : Cond) (e g : Term) → g ≡ e → f ≡ Guard c e → word_claims g (path ++ Holds c ∷ []) ts ≡ word_claims f path ts
  guard-claims f c e g r q = (λ i. word_claims (r i) (path ++ Holds c ∷ []) ts) ∙ ap (λ h. word_claims h path ts) (sym (q ∙ Guard-is c e))

  pub read-claims : (f : Term) → IsRead f → read_claims_if (read_under f []) path ts ≡ word_claims f path ts
  read-claims f (inl q) = ap (λ h. read_claims_if (read_under h []) path ts) q.1 ∙ ap (λ h. word_claims h path ts) (sym q.1)
  read-claims f (inr q) =
      let e = q.2 ∙ Index-is q.0 q.1 in ap (λ h. read_claims_if (read_under h []) path ts) e ∙ ap (λ h. word_claims h path ts) (sym e)

  pub two-claims : (f a b c d : Term) → c ≡ a → d ≡ b → IsTwo f a b → word_claims c path ts ++ word_claims d path ts ≡ word_claims f path ts
  two-claims f a b c d r o (inl q) = (λ i. word_claims (r i) path ts ++ word_claims (o i) path ts) ∙ ap (λ h. word_claims h path ts) (sym (q ∙ Add-is a b))
  two-claims f a b c d r o (inr (inl q)) = (λ i. word_claims (r i) path ts ++ word_claims (o i) path ts)
      ∙ ap (λ h. word_claims h path ts) (sym (q ∙ Sub-is a b))
  two-claims f a b c d r o (inr (inr q)) = (λ i. word_claims (r i) path ts ++ word_claims (o i) path ts)
      ∙ ap (λ h. word_claims h path ts) (sym (q ∙ Mul-is a b))

pub ruleset word_claim_forms = (
  word-Index,
  word-Guard,
  word-Add,
  word-Sub,
  word-Mul,
  word-Gen,
  word-Sum,
  word-Let,
  word-Concat,
  word-Flatten,
  word-Split,
  word-Transpose,
  word-TruncL,
  word-TruncR,
  word-PadL,
  word-PadR,
)
