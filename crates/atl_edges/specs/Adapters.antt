-- The adapters over the system, as plain data.
use Rattle.std.specs.Prelude.{ℕ, List}
use Rattle.std.specs.declared.option.Option.{Option}

-- files of the system: how many faults there were, and how many bytes the last call took
pub record ReaderState : Type 0 where
  pub faults : ℕ
  pub taken : ℕ

-- a sink over a writer: what was written, where the writer tells it, and how many faults there were
pub record WriterState : Type 0 where
  pub written : Option (List ℕ)
  pub faults : ℕ
