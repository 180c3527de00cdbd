-- The names of a scope.
use Rattle.std.specs.Prelude.{ℕ, List, ◌∷◌, ◌++◌, take, drop}
use Rattle.text_tokens.specs.Kinds.{Text}
use Rattle.source_grammar.specs.declared.sort.Sort.TheVariants.{OfSize, OfTensor}
use Rattle.source_grammar.specs.Scope.{Entry}
use Rattle.source_grammar.specs.Scope as names
use Rattle.source_grammar.specs.Source.{entries}
use Rattle.term_reader.specs.declared.scope.Scope.{Scope, Declared, Local'}

-- so many sizes first among these names, and then so many inputs
abbrev pub outermost : List Text → ℕ → ℕ → names.Scope
outermost names sizes inputs =
    entries (λ t. record { name = t; sort = OfSize }) (take sizes names) ++ entries (λ t. record { name = t; sort = OfTensor }) (take inputs (drop sizes names))

-- the names that may be used, the innermost first
abbrev pub entries_of : Scope → List Entry
entries_of (Declared names sizes inputs) = outermost names.now sizes inputs
entries_of (Local' name sort p outer) = record { name = name.now; sort = sort } ∷ entries_of outer
