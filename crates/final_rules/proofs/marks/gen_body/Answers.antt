use Rattle.std.proofs.Common.{◌∙◌, ap, sym, Some}
use Rattle.term_tree.specs.declared.term.Term.{Term}
use Rattle.final_rules.specs.Rules.{gen_body}
use Rattle.final_rules.proofs.GenForms.{body-Gen}
use Rattle.final_rules.proofs.marks.gen_body.Goals as goal

pub returns-in-Gen : goal.returns-in-Gen
returns-in-Gen c = ap (λ (e : Term). Some e) c.get.ensures ∙ sym (body-Gen c.in-Gen.field-0 c.in-Gen.body) ∙ ap gen_body (sym c.in-Gen.is)
