use Rattle.std.proofs.Common.{◌≡◌, ◌++◌, drop, map}
use Rattle.std.specs.Prelude.{string_bytes}
use Rattle.reader_laws.specs.Steps.{and_then, pure}
use Rattle.given_text.specs.Reading.{inputs}
use Rattle.given_text.proofs.reader.inputs.Given as goal

abbrev pub invariant-loop-name : goal.invariant-loop-name
invariant-loop-name l = and_then (inputs (map string_bytes (drop l.name-index l.names)) l.tokens) (λ more. pure (l.found ++ more))
    ≡ inputs (map string_bytes l.names) l.fn.tokens
