use Rattle.std.proofs.Common.{◌≡◌, drop, map, true}
use Rattle.loop_lang.specs.Form.{each_formed}
use Rattle.run_rows.specs.Formed.{statement_fold}
use Rattle.run_rows.proofs.formed.+statement.Given as goal

abbrev pub invariant-all_formed-loop-part : goal.invariant-all_formed-loop-part
invariant-all_formed-loop-part l = each_formed l.prog (map (statement_fold l.prog) (drop l.part-index l.parts)) l.depth l.inside ≡ true
    → each_formed l.prog (map (statement_fold l.prog) l.parts) l.depth l.inside ≡ true
