use Rattle.std.proofs.Common.{sym, ap, ◌∙◌}
use Rattle.term_tree.proofs.Forms.{Gen-is, Sum-is, TruncL-is, TruncR-is, PadL-is, PadR-is}
use Rattle.term_reader.specs.Forms.{sized_term}
use Rattle.term_reader.proofs.forms.sized_term.Goals as goal

pub returns-in-Gen : goal.returns-in-Gen
returns-in-Gen c = Gen-is c.args.size c.args.term ∙ ap (λ f. sized_term f c.args.size c.args.term) (sym c.in-Gen.is)

pub returns-in-Sum : goal.returns-in-Sum
returns-in-Sum c = Sum-is c.args.size c.args.term ∙ ap (λ f. sized_term f c.args.size c.args.term) (sym c.in-Sum.is)

pub returns-in-TruncL : goal.returns-in-TruncL
returns-in-TruncL c = TruncL-is c.args.size c.args.term ∙ ap (λ f. sized_term f c.args.size c.args.term) (sym c.in-TruncL.is)

pub returns-in-TruncR : goal.returns-in-TruncR
returns-in-TruncR c = TruncR-is c.args.size c.args.term ∙ ap (λ f. sized_term f c.args.size c.args.term) (sym c.in-TruncR.is)

pub returns-in-PadL : goal.returns-in-PadL
returns-in-PadL c = PadL-is c.args.size c.args.term ∙ ap (λ f. sized_term f c.args.size c.args.term) (sym c.in-PadL.is)

pub returns-in-PadR : goal.returns-in-PadR
returns-in-PadR c = PadR-is c.args.size c.args.term ∙ ap (λ f. sized_term f c.args.size c.args.term) (sym c.in-PadR.is)
