-- The limit that the shapes of a module break.
use Rattle.std.proofs.Common.{◌≡◌, ℕ, zero, suc, List, [], ◌∷◌, refl, ap, ◌∙◌, arith, Option, None, Some, Ok, Err, IsOk}
use Rattle.std.specs.Prelude.{All, slice_get}
use Rattle.schedule_run.specs.Verdict.{Tells, broken_limit, limit_of, limit_or, shaped, shaped_as, told_kind}
use Rattle.schedule_run.specs.declared.fault.StepKind.{StepKind}
use Rattle.shape_rules.specs.Faults.{AllBefore, HasOne, IsModuleFault, ShapesHold, misfit_at}
use Rattle.shape_rules.specs.declared.fault.ShapeFault.{ShapeFault}
use Rattle.shape_rules.specs.declared.fault.ShapeFault.TheVariants as f
use Rattle.term_tree.specs.Modules.{input_shapes}
use Rattle.term_tree.specs.Shape.{Extents, Shaped, shape_of}
use Rattle.term_tree.specs.declared.cause.Cause.{Cause}
use Rattle.term_tree.specs.declared.cause.Cause.TheVariants as c
use Rattle.term_tree.specs.declared.term.Module.{Module}
use Rattle.term_tree.specs.declared.term.OutputDecl.{OutputDecl}
use Rattle.term_tree.specs.declared.term.Path.{Path}

shaped_on : (shape : Shaped) → IsOk shape → (rest : Option StepKind) → limit_or shape rest ≡ rest
shaped_on (Ok ns) h rest = refl
shaped_on (Err e) h rest = absurd (cc)

module _ (ts : List Extents) where
  -- the first output without a shape decides
  limit_found : (os : List OutputDecl) (i : ℕ) (o : OutputDecl) (p : Path) (cause : Cause) → slice_get os i ≡ Some o → AllBefore (HasOne ts) i os
      → shape_of o.term ts ≡ misfit_at p cause → broken_limit ts os ≡ Some (limit_of cause)
  limit_found [] i o p cause e b h = absurd (cc)
  limit_found (x ∷ xs) zero o p cause e b h =
      let same : x ≡ o = cc in
      ap (λ (o : OutputDecl). limit_or (shape_of o.term ts) (broken_limit ts xs)) same ∙ ap (λ r. limit_or r (broken_limit ts xs)) h
  limit_found (x ∷ xs) (suc i) o p cause e b h =
      shaped_on (shape_of x.term ts) (b zero x (omega arith)) (broken_limit ts xs)
      ∙ limit_found xs i o p cause e (λ k d q. b (suc k) d (omega (arith, q))) h

  none_found : (os : List OutputDecl) → All (HasOne ts) os → broken_limit ts os ≡ None
  none_found [] h = refl
  none_found (x ∷ xs) h = shaped_on (shape_of x.term ts) (h zero x (omega arith)) (broken_limit ts xs)
      ∙ none_found xs (λ k d q. h (suc k) d (omega (arith, q)))

told_limit : (m : Module) (k : StepKind) → broken_limit (input_shapes m) m.outputs ≡ Some k → shaped m ≡ Err k
told_limit m k h = ap (λ o. shaped_as o m) h

-- what the walk over the module answers tells the limit
pub limit_told : (m : Module) (fault : ShapeFault) → IsModuleFault m fault → Tells (shaped m) (told_kind fault)
limit_told m (f.RankTooLarge p) (ranks, (i, o, e, b, h)) = told_limit m _ (limit_found (input_shapes m) m.outputs i o p c.RankTooLarge e b h.1)
limit_told m (f.CoefficientTooLarge p) (ranks, (i, o, e, b, h)) =
    told_limit m _ (limit_found (input_shapes m) m.outputs i o p c.CoefficientTooLarge e b h.1)
limit_told m (f.IndexTooLong p) (ranks, (i, o, e, b, h)) = told_limit m _ (limit_found (input_shapes m) m.outputs i o p c.IndexTooLong e b h.1)
limit_told m (f.InputRank i) h = tt
limit_told m (f.RankMismatch p) h = tt
limit_told m (f.ShapesDiffer p) h = tt
limit_told m f.Memory h = tt

-- where the shape rules hold there is none
pub none_broken : (m : Module) → ShapesHold m → shaped m ≡ Ok m
none_broken m h = ap (λ o. shaped_as o m) (none_found (input_shapes m) m.outputs h.shaped)
