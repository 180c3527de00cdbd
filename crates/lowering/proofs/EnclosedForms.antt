-- Statements around others, at terms as code has them.
use Rattle.std.proofs.Common.{◌≡◌, ℕ, List, [], ◌∷◌, map, ap, false}
use Rattle.affine_index.specs.declared.aff.Aff.{Aff}
use Rattle.affine_index.specs.declared.cond.Cond.{Cond}
use Rattle.fact_list.specs.Facts.{binders}
use Rattle.index_trees.specs.Tree.{index_tree}
use Rattle.loop_lang.specs.declared.stmt.Stmt.{Stmt}
use Rattle.loop_lang.specs.declared.stmt.Stmt.TheVariants.{Seq, For, If}
use Rattle.term_tree.specs.declared.term.Term.{Term}
use Rattle.term_tree.specs.declared.term.Term.TheVariants.{Index, Gen, Sum, Guard, Let, Add, Sub, Mul, Concat, Flatten, Split, Transpose, TruncL, TruncR, PadL}
use Rattle.term_tree.specs.declared.term.Term.TheVariants.{PadR}
use Rattle.term_tree.proofs.Forms.{Index-is, Gen-is, Sum-is, Guard-is, Let-is, Add-is, Sub-is, Mul-is, Concat-is, Flatten-is, Split-is, Transpose-is, TruncL-is}
use Rattle.term_tree.proofs.Forms.{TruncR-is, PadL-is, PadR-is}
use Rattle.final_rules.specs.Owed.{test_of}
use Rattle.lowering_laws.specs.Marks.{is_marked}
use Rattle.lowering.specs.declared.node.Node.{Node}
use Rattle.lowering.specs.Nodes.{enclosed_in}

module _ (nd : Node) (body : List Stmt) where
  pub enclosed-Gen : (n : Aff) (e : Term) → enclosed_in nd (Gen n e) body ≡ For (index_tree (binders nd.spot.path) n) (is_marked nd.marks) (Seq body) ∷ []
  enclosed-Gen n e = ap (λ f. enclosed_in nd f body) (Gen-is n e)

  pub enclosed-Sum : (n : Aff) (e : Term) → enclosed_in nd (Sum n e) body ≡ For (index_tree (binders nd.spot.path) n) false (Seq body) ∷ []
  enclosed-Sum n e = ap (λ f. enclosed_in nd f body) (Sum-is n e)

  pub enclosed-Guard : (c : Cond) (e : Term) → enclosed_in nd (Guard c e) body ≡ If (map (test_of (binders nd.spot.path)) c.all) (Seq body) ∷ []
  enclosed-Guard c e = ap (λ f. enclosed_in nd f body) (Guard-is c e)

  pub enclosed-Flatten : (e : Term) → enclosed_in nd (Flatten e) body ≡ body
  enclosed-Flatten e = ap (λ f. enclosed_in nd f body) (Flatten-is e)

  pub enclosed-Split : (k : ℕ) (e : Term) → enclosed_in nd (Split k e) body ≡ body
  enclosed-Split k e = ap (λ f. enclosed_in nd f body) (Split-is k e)

  pub enclosed-Transpose : (e : Term) → enclosed_in nd (Transpose e) body ≡ body
  enclosed-Transpose e = ap (λ f. enclosed_in nd f body) (Transpose-is e)

  pub enclosed-TruncL : (n : Aff) (e : Term) → enclosed_in nd (TruncL n e) body ≡ body
  enclosed-TruncL n e = ap (λ f. enclosed_in nd f body) (TruncL-is n e)

  pub enclosed-TruncR : (n : Aff) (e : Term) → enclosed_in nd (TruncR n e) body ≡ body
  enclosed-TruncR n e = ap (λ f. enclosed_in nd f body) (TruncR-is n e)

  pub enclosed-PadL : (n : Aff) (e : Term) → enclosed_in nd (PadL n e) body ≡ body
  enclosed-PadL n e = ap (λ f. enclosed_in nd f body) (PadL-is n e)

  pub enclosed-PadR : (n : Aff) (e : Term) → enclosed_in nd (PadR n e) body ≡ body
  enclosed-PadR n e = ap (λ f. enclosed_in nd f body) (PadR-is n e)

  pub enclosed-Index : (e : Term) (x : Aff) → enclosed_in nd (Index e x) body ≡ body
  enclosed-Index e x = ap (λ f. enclosed_in nd f body) (Index-is e x)

  pub enclosed-Let : (a b : Term) → enclosed_in nd (Let a b) body ≡ body
  enclosed-Let a b = ap (λ f. enclosed_in nd f body) (Let-is a b)

  pub enclosed-Add : (a b : Term) → enclosed_in nd (Add a b) body ≡ body
  enclosed-Add a b = ap (λ f. enclosed_in nd f body) (Add-is a b)

  pub enclosed-Sub : (a b : Term) → enclosed_in nd (Sub a b) body ≡ body
  enclosed-Sub a b = ap (λ f. enclosed_in nd f body) (Sub-is a b)

  pub enclosed-Mul : (a b : Term) → enclosed_in nd (Mul a b) body ≡ body
  enclosed-Mul a b = ap (λ f. enclosed_in nd f body) (Mul-is a b)

  pub enclosed-Concat : (a b : Term) → enclosed_in nd (Concat a b) body ≡ body
  enclosed-Concat a b = ap (λ f. enclosed_in nd f body) (Concat-is a b)

pub ruleset enclosed_forms = (
  enclosed-Gen,
  enclosed-Sum,
  enclosed-Guard,
  enclosed-Flatten,
  enclosed-Split,
  enclosed-Transpose,
  enclosed-TruncL,
  enclosed-TruncR,
  enclosed-PadL,
  enclosed-PadR,
  enclosed-Index,
  enclosed-Let,
  enclosed-Add,
  enclosed-Sub,
  enclosed-Mul,
  enclosed-Concat,
)
