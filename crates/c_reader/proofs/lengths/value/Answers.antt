use Rattle.std.proofs.Common.{rules, ◌<◌, ◌^◌}
use Rattle.c_print.specs.declared.level.Level.TheVariants.{Choice}
use Rattle.c_read.specs.Parts.{checked}
use Rattle.c_read.specs.Expressions.{as_index, inner}
use Rattle.c_read.specs.Scopes.{scope_of}
use Rattle.c_read.specs.Units.{length_value}
use Rattle.c_expression_reader.proofs.Answered.{reads_same}
use Rattle.c_reader.proofs.Limits.{value_is}
use Rattle.c_reader.proofs.lengths.value.Goals as goal

pub returns : goal.returns
returns c =
    let few : c.args.sizes < 2 ^ 32 = search rules in
    let scope = scope_of c.names_of_length.result in
    reads_same (λ x. x) (checked as_index (inner scope 1000 Choice) c.args.words.now) (length_value c.args.sizes c.args.words.now) c.index_within.result
    c.index_within.new.words (value_is scope c.args.sizes c.args.words.now c.names_of_length.ensures few) c.index_within.ensures
