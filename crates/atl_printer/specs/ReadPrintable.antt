-- What was read is printable.
use Rattle.std.specs.Prelude.{◌≤◌, length}
use Rattle.text_tokens.specs.Kinds.{Text}
use Rattle.term_tree.specs.declared.term.Module.{Module}
use Rattle.source_grammar.specs.Source.{SourceText}
use Rattle.atl_printer.specs.PrintableModule.{IsPrintableModule}

-- a module of which some text is a source
abbrev pub WhatIsReadIsPrintable : Type 0
WhatIsReadIsPrintable = (z : Text) (m : Module) → SourceText z m → length z ≤ 2147483647 → IsPrintableModule m
