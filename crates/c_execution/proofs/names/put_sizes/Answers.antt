use Rattle.std.proofs.Common.{◌+◌, map, string_bytes, arith}
use Rattle.std.proofs.lemmas.List.FromFn.{map-range_with_len_more}
use Rattle.c_print.specs.Index.{size_name}
use Rattle.run_text.proofs.NamedLaws.{named-more}
use Rattle.c_execution.specs.Names.{size_names}
use Rattle.c_execution.proofs.names.put_sizes.Goals as goal

pub loop-size-preserved : goal.loop-size-preserved
loop-size-preserved c =
    let i = c.loop-size.size in
    named-more c.loop-size.names.items c.push.new.self.items (map string_bytes c.args.names.now.items) (size_names i) (size_names (i + 1))
    c.in_ok-size_name.field-0 (size_name i) c.loop-size.invariant c.in_ok-push.ensures.items c.in_ok-size_name.ensures
    (map-range_with_len_more size_name 0 i i (omega arith))
