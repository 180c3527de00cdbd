use Rattle.std.proofs.Common.{◌<◌, true, arith}
use Rattle.c_text.specs.Printed.{sizes_words}
use Rattle.c_read.specs.Parts.{expect_all}
use Rattle.c_expression_reader.proofs.Answered.{reads_same}
use Rattle.c_reader.specs.declared.parameters.Group.TheVariants as g
use Rattle.c_reader.specs.Units.{group_tokens, many}
use Rattle.c_reader.proofs.Lists.{sizes_are}
use Rattle.c_reader.proofs.parameters.size_words.Goals as goal

pub returns : goal.returns
returns c =
    let some : 0 < c.args.sizes = omega (arith, c.if-sizes-eq0.false) in
    reads_same (λ x. x) (many (group_tokens g.Sizes) true 0 c.args.sizes c.args.words.now) (expect_all (sizes_words c.args.sizes) c.args.words.now)
    c.many.result c.many.new.words (sizes_are c.args.sizes c.args.words.now some) c.many.ensures
