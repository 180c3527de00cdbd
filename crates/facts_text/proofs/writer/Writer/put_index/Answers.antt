use Rattle.std.proofs.Common.{◌≡◌, ◌++◌, OnOk, subst, sym}
use Rattle.facts_text.specs.Form.{Text}
use Rattle.facts_text.proofs.Folds.{index_text-fold}
use Rattle.facts_text.proofs.writer.Writer.put_index.Goals as goal

pub returns : goal.returns
returns c = subst (λ (t : Text). OnOk c.put_operand.result (c.put_operand.new.self ≡ c.args.self.now ++ t))
    (sym (index_text-fold c.args.sizes.now c.args.index.now c.args.place)) c.put_operand.ensures
