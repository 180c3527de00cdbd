use Rattle.std.proofs.Common.{rules, ◌≡◌, sym, subst, Option, IfOk}
use Rattle.std.proofs.lemmas.Int.{to_z-of_z}
use Rattle.std.specs.Prelude.{ℤ}
use mir.Syntax.{w64}
use mir.Val.{SFits, of_z, to_z}
use Rattle.affine_index.specs.Sum.{scaled}
use Rattle.affine_index.specs.declared.form.Items.{Items}
use Rattle.zeroed_forms.specs.Zeroed.{times}
use Rattle.zeroed_forms.proofs.arithmetic.times.Goals as goal

pub returns-in-Some : goal.returns-in-Some
returns-in-Some c =
    let word : SFits w64 c.args.coefficient = search rules in
    let e = to_z-of_z w64 c.args.coefficient word in
    let same = to_z w64 (of_z w64 c.args.coefficient) in
    subst (λ (k : ℤ). IfOk c.if_normal.result (λ o. o ≡ times k c.args.form)) e
    (subst (λ (form : Option Items). IfOk c.if_normal.result (λ o. o ≡ times same form)) (sym c.in-Some.is)
    (c.if_normal.ensures (scaled same c.in-Some.form) c.scale.ensures.form))
