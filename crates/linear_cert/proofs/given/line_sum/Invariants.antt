use Rattle.std.proofs.Common.{◌≡◌, drop, true, ◌*◌, ◌+◌, ◌^◌, ◌≤◌}
use Rattle.affine_index.specs.Sum.{add_up}
use Rattle.affine_index.specs.Wide.{norm}
use Rattle.linear_cert.specs.Shown.{line_sum, lines_good, taken}
use Rattle.linear_cert.proofs.given.line_sum.Given as goal

abbrev pub invariant-loop-i : goal.invariant-loop-i
invariant-loop-i l = record {
  good : lines_good l.facts l.goal (drop l.i l.lines) ≡ true;
  room : norm l.total ≤ (l.i + 1) * 2 ^ 112;
  rest : add_up (taken l.facts l.goal (drop l.i l.lines)) l.total ≡ line_sum l.facts l.goal l.lines;
}
