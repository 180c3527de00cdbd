use Rattle.c_text.specs.Printed as printed
use Rattle.c_read.specs.Parts.{expect_all}
use Rattle.c_expression_reader.proofs.Answered.{reads_same}
use Rattle.c_reader.specs.Units.{counts_of, head_program, start_by}
use Rattle.c_reader.proofs.Lists.{start_is}
use Rattle.c_reader.proofs.parameters.function_start.Goals as goal

pub returns : goal.returns
returns c =
    let counts = counts_of c.args.counts in
    reads_same (λ x. x) (start_by c.args.sizes counts c.args.words.now)
    (expect_all (printed.function_start (head_program c.args.sizes counts)) c.args.words.now) c.start.result c.start.new.words
    (start_is c.args.sizes counts c.args.words.now c.requires) c.start.ensures
