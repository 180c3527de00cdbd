use Rattle.std.proofs.Common.{rules, ◌≡◌, ◌∙◌, ap}
use Rattle.std.proofs.lemmas.Int.{to_z-of_z}
use Rattle.std.specs.Prelude.{pos}
use Rattle.std.specs.Int.{int_div_euclid, int_rem_euclid}
use mir.Syntax.{w64, w128}
use mir.Val.{SFits}
use Rattle.affine_index.proofs.QuotientLaws.{quotient-room}
use Rattle.affine_index.specs.Quotient.{quotient_atom, rest_part, rest_terms, whole_part, whole_terms}
use Rattle.affine_index.proofs.quotient.quotient.Goals as goal

pub sum-requires : goal.sum-requires
sum-requires c =
    let form = c.args.form in
    let k = c.args.divisor in
    let fits : SFits w128 c.constant.result = search rules in
    let fits-2 : SFits w128 c.constant-2.result = search rules in
    let whole-fits : SFits w128 c.floor.result = search rules in
    let rest-fits : SFits w64 c.remainder-constant.result = search rules in
    let first = to_z-of_z w128 c.constant.result fits ∙ c.constant.ensures in
    let second = to_z-of_z w128 c.constant-2.result fits-2 ∙ c.constant-2.ensures in
    let whole = c.in_ok-whole.ensures {u = tt} ∙ ap (whole_terms k) c.terms.ensures in
    let floor = to_z-of_z w128 c.floor.result whole-fits ∙ c.floor.ensures ∙ ap (λ z. int_div_euclid z (pos k)) first in
    let x : c.new-whole.result ≡ whole_part form k = c.new-whole.ensures ∙ (λ j. record { terms = whole j; constant = floor j }) in
    let rest = c.in_ok-rest.ensures {u = tt} ∙ ap (rest_terms k) c.into_terms.ensures in
    let left = to_z-of_z w64 c.remainder-constant.result rest-fits ∙ c.remainder-constant.ensures ∙ ap (λ z. int_rem_euclid z (pos k)) second in
    let y : c.in_ok-atom.atom ≡ quotient_atom (rest_part form k).terms (rest_part form k).constant k =
    c.in_ok-atom.ensures {u = tt} ∙ (λ j. quotient_atom (rest j) (left j) k) in
    quotient-room form c.new-whole.result c.in_ok-atom.atom k c.requires.positive x y c.requires.room
