use Rattle.std.proofs.Common.{◌≡◌, refl, subst, true}
use Rattle.affine_index.specs.Normal.{is_normal}
use Rattle.rule_parts.proofs.DraftLaws.{whole_is}
use Rattle.term_tree.specs.Limits.{every_form}
use Rattle.term_tree.specs.declared.term.Term.{Term}
use Rattle.rules_shape_tensor.proofs.formed.whole.Goals as goal

pub returns : goal.returns
returns c = whole_is c.args.term c.args.term refl (subst (λ (e : Term). every_form is_normal e ≡ true) c.get.ensures c.told.ensures)
