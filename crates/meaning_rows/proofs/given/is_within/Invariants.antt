use Rattle.std.proofs.Common.{◌≡◌, ◌≤◌, drop, length}
use Rattle.term_tree.specs.Modules.{IsWithin}
use Rattle.meaning_rows.proofs.given.is_within.Given as goal

abbrev pub invariant-loop-at : goal.invariant-loop-at
invariant-loop-at l = record {
  same : length l.declared ≡ length l.sizes;
  within : l.at ≤ length l.sizes;
  rest : IsWithin (drop l.at l.declared) (drop l.at l.sizes) → IsWithin l.declared l.sizes;
}
