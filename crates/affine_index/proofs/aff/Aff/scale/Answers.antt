use Rattle.std.proofs.Common.{rules, ◌≡◌, ◌∙◌, sym, subst, ℕ, ◌*◌, ◌<◌, ◌^◌, List}
use Rattle.std.proofs.lemmas.Int.{to_z-of_z}
use Rattle.std.specs.Prelude.{◌*ℤ◌, ℤ}
use Rattle.std.specs.Int.RustNames.{unsigned_abs}
use mir.Syntax.{w64, w128}
use mir.Val.{SFits}
use Rattle.affine_index.proofs.ArithmeticLaws.{op_value, ordered-scaled, scale-room, word-most}
use Rattle.affine_index.proofs.Values.{value-scaled}
use Rattle.affine_index.specs.Sum.{scaled}
use Rattle.affine_index.specs.Value.{items_value}
use Rattle.affine_index.specs.Wide.{norm}
use Rattle.affine_index.proofs.aff.Aff.scale.Goals as goal

pub scaled-requires : goal.scaled-requires
scaled-requires c =
    let wide : SFits w128 c.from.result = search rules in
    let word : SFits w64 c.args.by = search rules in
    let e = to_z-of_z w128 c.from.result wide ∙ c.from.ensures ∙ to_z-of_z w64 c.args.by word in
    let by : ℤ → Type 0 = λ z. unsigned_abs z * norm c.in_ok-form.form < 2 ^ 127 in
    subst by (sym e) (scale-room c.args.by c.args.self.now c.in_ok-form.form (word-most c.args.by word) c.in_ok-form.ensures.same c.copied.ensures.normal)

pub within_limits-requires : goal.within_limits-requires
within_limits-requires c =
    let wide : SFits w128 c.from.result = search rules in
    let word : SFits w64 c.args.by = search rules in
    let e = to_z-of_z w128 c.from.result wide ∙ c.from.ensures ∙ to_z-of_z w64 c.args.by word in
    ordered-scaled c.args.by c.args.self.now c.in_ok-product.product (c.in_ok-product.ensures {u = tt} ∙ (λ k. scaled (e k) (c.in_ok-form.ensures.same k)))
    c.copied.ensures.normal

pub returns-clause-value : goal.returns-clause-value
returns-clause-value c =
    let wide : SFits w128 c.from.result = search rules in
    let word : SFits w64 c.args.by = search rules in
    let e = to_z-of_z w128 c.from.result wide ∙ c.from.ensures ∙ to_z-of_z w64 c.args.by word in
    op_value (λ r. (s v : List ℕ) → items_value s v r ≡ c.args.by *ℤ items_value s v c.args.self.now) c.within_limits.result c.in_ok-product.product
    (scaled c.args.by c.args.self.now)
    (c.in_ok-product.ensures {u = tt} ∙ (λ k. scaled (e k) (c.in_ok-form.ensures.same k))) (λ s v. value-scaled s v c.args.by c.args.self.now)
    c.within_limits.ensures
