use Rattle.std.proofs.Common.{◌≡◌, ◌∙◌, ◌+◌, ◌-◌, ◌<◌, Bool, ap, sym, arith, length, get_or, take, true}
use Rattle.std.specs.Prelude.{reverse}
use Rattle.std.specs.List.{find}
use Rattle.affine_index.specs.declared.form.Atom.{Atom}
use Rattle.affine_index.specs.declared.form.Item.{Item}
use Rattle.linear_cert.proofs.ChoiceLaws.{last-found, slice-at}
use Rattle.linear_cert.specs.DefaultLines.{atom_least, form_least, same_var}
use Rattle.linear_cert.proofs.choice.chosen.Goals as goal

pub returns-then-same_var-clause-item : goal.returns-then-same_var-clause-item
returns-then-same_var-clause-item c =
    let terms = c.args.form.now.terms in
    let i = c.loop-at.at - 1 in
    let x = c.get.result.now in
    let test : Item Atom → Bool = λ t. same_var (atom_least t.atom) (form_least c.args.form.now) in
    let within : i < length terms = omega (arith, c.loop-at.invariant.within, c.loop-at-test.true) in
    let is : x ≡ get_or terms i x = c.get.ensures ∙ ap (λ ts. get_or ts i x) c.terms-in-loop-at.ensures in
    let passes : test x ≡ true = sym (λ k. same_var ((c.atom_least.ensures ∙ ap atom_least c.atom.ensures) k) (c.form_least-least.ensures k))
    ∙ sym c.same_var.ensures ∙ c.if-same_var.true in
    let turn : i + 1 ≡ c.loop-at.at = omega (arith, c.loop-at-test.true) in
    slice-at terms i x within is ∙ sym (last-found test terms i x within is passes) ∙ ap (λ n. find test (reverse (take n terms))) turn
    ∙ c.loop-at.invariant.rest
