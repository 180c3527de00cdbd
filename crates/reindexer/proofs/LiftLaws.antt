-- Frames seen from under one more loop send tuples as before.
use Rattle.std.proofs.Common.{◌≡◌, ℕ, List, [], ◌∷◌, refl, ap, arith, true}
use Rattle.std.proofs.lemmas.Bool.{and_parts}
use Rattle.affine_index.specs.Normal.{is_normal}
use Rattle.affine_index.specs.Put.{shifted}
use Rattle.affine_index.specs.Value.{items_value}
use Rattle.affine_index.specs.declared.form.Items.{Items}
use Rattle.affine_index.proofs.ArithmeticLaws.{normal-ordered}
use Rattle.affine_index.proofs.PutValue.{value-shifted}
use Rattle.term_tree.specs.Meaning.{count_of}
use Rattle.reindexer.specs.Lifted.{fixes_normal, lifted}
use Rattle.reindexer.specs.Sending.{Sending, flattened, in_front, kept, moved, sent, spread, swapped}
use Rattle.reindexer.specs.declared.frame.Frame.{Frame}
use Rattle.reindexer.specs.declared.frame.Frame.TheVariants.{Fix, Transpose, Flatten, Split, Shift, Keep}

module _ (s v : List ℕ) (i : ℕ) where
  lifted_value : (x : Items) → is_normal x ≡ true → items_value s (i ∷ v) (shifted 0 1 x) ≡ items_value s v x
  lifted_value x h = value-shifted s (i ∷ v) 0 1 x (omega arith) (normal-ordered x h)

  pub lifted_sent : {A : Type 0} (fs : List Frame) (f : Sending A) → fixes_normal fs ≡ true → sent s (i ∷ v) (lifted fs) f ≡ sent s v fs f
  lifted_sent [] f h = refl
  lifted_sent (Fix x ∷ fs) f h =
      let p = and_parts (is_normal x) (fixes_normal fs) h in
      λ t. in_front (lifted_value x p.0 t) (lifted_sent fs f p.1 t)
  lifted_sent (Transpose ∷ fs) f h = ap swapped (lifted_sent fs f h)
  lifted_sent (Flatten m ∷ fs) f h = ap (flattened (count_of (items_value s [] m))) (lifted_sent fs f h)
  lifted_sent (Split k ∷ fs) f h = ap (spread k) (lifted_sent fs f h)
  lifted_sent (Shift a ∷ fs) f h = ap (moved (items_value s [] a)) (lifted_sent fs f h)
  lifted_sent (Keep m ∷ fs) f h = ap (kept (count_of (items_value s [] m))) (lifted_sent fs f h)
