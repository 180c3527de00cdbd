-- Where the part of a node with one part stands, at terms as code has them.
use Rattle.std.proofs.Common.{◌≡◌, ℕ, List, ap, sym, ◌∙◌}
use Rattle.affine_index.specs.declared.aff.Aff.{Aff}
use Rattle.affine_index.specs.declared.cond.Cond.{Cond}
use Rattle.term_tree.specs.declared.term.Term.{Term}
use Rattle.term_tree.specs.declared.term.Term.TheVariants.{Gen, Sum, Guard, Flatten, Split, Transpose, TruncL, TruncR, PadL, PadR}
use Rattle.term_tree.specs.Shape.{Extents}
use Rattle.term_tree.proofs.Forms.{Gen-is, Sum-is, Guard-is, Flatten-is, Split-is, Transpose-is, TruncL-is, TruncR-is, PadL-is, PadR-is}
use Rattle.fact_list.specs.declared.facts.PathFact.TheVariants.{Bound, Holds}
use Rattle.final_rules.specs.declared.spot.Around.TheVariants.{Swapped, Tiled, Later, Without, Before}
use Rattle.final_rules.specs.declared.spot.Spot.{Spot}
use Rattle.final_rules.specs.Places.{extents_under, first_of, inside, joined_by, on_path, one_gen}
use Rattle.final_rules.specs.Steps.{child_spot}

module _ (ts : List Extents) (q : Spot) where
  pub child-Gen : (n : Aff) (e : Term) → child_spot (Gen n e) ts q ≡ one_gen n q
  child-Gen n e = ap (λ f. child_spot f ts q) (Gen-is n e)

  pub child-Sum : (n : Aff) (e : Term) → child_spot (Sum n e) ts q ≡ on_path (Bound n) q
  child-Sum n e = ap (λ f. child_spot f ts q) (Sum-is n e)

  pub child-Guard : (c : Cond) (e : Term) → child_spot (Guard c e) ts q ≡ on_path (Holds c) q
  child-Guard c e = ap (λ f. child_spot f ts q) (Guard-is c e)

  pub child-Flatten : (e : Term) → child_spot (Flatten e) ts q ≡ inside (joined_by e ts) q
  child-Flatten e = ap (λ f. child_spot f ts q) (Flatten-is e)

  pub child-Split : (k : ℕ) (e : Term) → child_spot (Split k e) ts q ≡ inside (Tiled k) q
  child-Split k e = ap (λ f. child_spot f ts q) (Split-is k e)

  pub child-Transpose : (e : Term) → child_spot (Transpose e) ts q ≡ inside Swapped q
  child-Transpose e = ap (λ f. child_spot f ts q) (Transpose-is e)

  pub child-TruncL : (n : Aff) (e : Term) → child_spot (TruncL n e) ts q ≡ inside (Without n) q
  child-TruncL n e = ap (λ f. child_spot f ts q) (TruncL-is n e)

  pub child-TruncR : (n : Aff) (e : Term) → child_spot (TruncR n e) ts q ≡ inside (Before (first_of (extents_under (TruncR n e) ts))) q
  child-TruncR n e = ap (λ f. child_spot f ts q) (TruncR-is n e) ∙ ap (λ f. inside (Before (first_of (extents_under f ts))) q) (sym (TruncR-is n e))

  pub child-PadL : (n : Aff) (e : Term) → child_spot (PadL n e) ts q ≡ inside (Later n) q
  child-PadL n e = ap (λ f. child_spot f ts q) (PadL-is n e)

  pub child-PadR : (n : Aff) (e : Term) → child_spot (PadR n e) ts q ≡ q
  child-PadR n e = ap (λ f. child_spot f ts q) (PadR-is n e)

pub ruleset step_forms = (child-Gen, child-Sum, child-Guard, child-Flatten, child-Split, child-Transpose, child-TruncL, child-TruncR, child-PadL, child-PadR)
