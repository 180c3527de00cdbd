use Rattle.std.proofs.Common.{◌≡◌, ◌<◌, ℕ, true, length}
use Rattle.affine_index.specs.Put.{given}
use Rattle.binders.specs.Uses.{uses}
use Rattle.binders.proofs.replacement.replacements.Given as goal

abbrev pub invariant-loop-var : goal.invariant-loop-var
invariant-loop-var g l = record {
  many : length l.by ≡ l.var;
  given : (v : ℕ) → v < l.var → uses v l.form ≡ true → given l.by v ≡ (g.M.VarMap.meaning l.map).for_index l.depths.index l.depths.tensor v;
}
