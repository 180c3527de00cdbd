use Rattle.std.proofs.Common.{rules, ◌∙◌, subst, IfOk}
use Rattle.std.proofs.lemmas.Int.{to_z-of_z}
use Rattle.std.specs.Prelude.{ℤ}
use mir.Syntax.{w64}
use mir.Val.{SFits}
use Rattle.affine_index.specs.Sum.{scaled}
use Rattle.rules_loop.specs.Formed.{IsFormed}
use Rattle.rules_loop.proofs.fusing.turns.Goals as goal

pub returns : goal.returns
returns c =
    let wide : SFits w64 c.from.result = search rules in
    let z = to_z-of_z w64 c.from.result wide ∙ c.from.ensures in
    subst (λ (x : ℤ). IfOk c.formed.result (IsFormed (scaled x c.args.n.now))) z (c.formed.ensures _ c.scale.ensures.form)
