use Rattle.std.proofs.Common.{◌∙◌, sym, subst, IfOk}
use Rattle.path_focus.specs.Outcome.{IsOutcome}
use Rattle.rules_shape.specs.Ring.{folded}
use Rattle.term_tree.specs.Syntax.{add, mul, sub}
use Rattle.term_tree.specs.declared.term.Term.{Term}
use Rattle.term_tree.proofs.Forms.{Add-is, Mul-is, Sub-is}
use Rattle.rules_shape.proofs.folding.fold.Goals as goal

pub returns-in-Add : goal.returns-in-Add
returns-in-Add c =
    let term = c.in-Add.is ∙ Add-is _ _ ∙ (λ i. add (sym c.get.ensures i) (sym c.get-in-Add.ensures i)) in
    subst (λ (t : Term). IfOk c.word_of_sum.result (IsOutcome (folded t))) (sym term) c.word_of_sum.ensures

pub returns-in-Sub : goal.returns-in-Sub
returns-in-Sub c =
    let term = c.in-Sub.is ∙ Sub-is _ _ ∙ (λ i. sub (sym c.get-in-Sub.ensures i) (sym c.get-in-Sub-2.ensures i)) in
    subst (λ (t : Term). IfOk c.word_of_difference.result (IsOutcome (folded t))) (sym term) c.word_of_difference.ensures

pub returns-in-Mul : goal.returns-in-Mul
returns-in-Mul c =
    let term = c.in-Mul.is ∙ Mul-is _ _ ∙ (λ i. mul (sym c.get-in-Mul.ensures i) (sym c.get-in-Mul-2.ensures i)) in
    subst (λ (t : Term). IfOk c.word_of_product.result (IsOutcome (folded t))) (sym term) c.word_of_product.ensures
