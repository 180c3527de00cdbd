-- How declarations and modules are read.
use Rattle.std.specs.Prelude.{ℕ, Bool, true, false, ◌==◌, List, [], ◌∷◌, ◌++◌}
use Rattle.text_tokens.specs.declared.kind.Kind.TheVariants as k
use Rattle.affine_index.specs.declared.aff.Aff.{Aff}
use Rattle.affine_index.specs.declared.cond.Cmp.{Cmp}
use Rattle.affine_index.specs.declared.cond.Cond.{Cond}
use Rattle.term_tree.specs.declared.term.SizeDecl.{SizeDecl}
use Rattle.term_tree.specs.declared.term.InputDecl.{InputDecl}
use Rattle.term_tree.specs.declared.term.OutputDecl.{OutputDecl}
use Rattle.term_tree.specs.declared.term.Module.{Module}
use Rattle.reader_laws.specs.Steps.{Parser, ◌>>=◌, pure, no_value}
use Rattle.reader_laws.specs.Chain.{repeated}
use Rattle.source_grammar.specs.Scope.{extent_name}
use Rattle.source_grammar.specs.Index.{Sum}
use Rattle.source_grammar.specs.ReadIndex.{index}
use Rattle.source_grammar.specs.Conditions.{with_last}
use Rattle.source_grammar.specs.ReadConditions.{condition}
use Rattle.reader_laws.specs.Levels.{word_in}
use Rattle.source_grammar.specs.Terms.{Whole}
use Rattle.source_grammar.specs.ReadTerms.{term}
use Rattle.source_grammar.specs.Source.{version_value, new_name, same_name, bound, size_names, input_names, output_names, declared, most_lines, with_all}
use Rattle.source_grammar.specs.Source.{module_of}

unfoldable pub header : ℕ → Parser (Unit {0})
header version = word_in 1000 k.Atl no_value >>= λ _. (word_in 1000 k.Number (version_value version) >>= λ _. word_in 1000 k.Semi no_value)

unfoldable pub size_line : List SizeDecl → Parser SizeDecl
size_line sizes =
    word_in 1000 k.Name (new_name (size_names sizes)) >>= λ name.
    (word_in 1000 k.In no_value >>= λ _.
    (word_in 1000 k.Number bound >>= λ low. (word_in 1000 k.DotDot no_value >>= λ _. (word_in 1000 k.Number bound >>= λ high.
    (word_in 1000 k.Semi no_value >>= λ _. pure (record { name = name; low = low; high = high }))))))

abbrev pub sizes : Parser (List SizeDecl)
sizes = repeated k.Size with_last size_line most_lines []

unfoldable pub assume : List SizeDecl → Parser Cond
assume ds = condition (extent_name (declared ds [])) 1000 >>= λ c. (word_in 1000 k.Semi no_value >>= λ _. pure c)

abbrev pub assumes : List SizeDecl → Parser (List Cmp)
assumes ds = repeated k.Assume with_all (λ _. assume ds) most_lines []

unfoldable pub example_of : SizeDecl → Parser ℕ
example_of d = word_in 1000 k.Name (same_name d.name) >>= λ _. (word_in 1000 k.Assign no_value >>= λ _. word_in 1000 k.Number bound)

unfoldable pub more_examples : List SizeDecl → List ℕ → Parser (List ℕ)
more_examples [] numbers = word_in 1000 k.Semi no_value >>= λ _. pure numbers
more_examples (d ∷ ds) numbers = word_in 1000 k.Comma no_value >>= λ _. (example_of d >>= λ n. more_examples ds (with_last numbers n))

unfoldable pub example : List SizeDecl → Parser (List ℕ)
example [] = pure []
example (d ∷ ds) = word_in 1000 k.Example no_value >>= λ _. (example_of d >>= λ n. more_examples ds (n ∷ []))

unfoldable pub extent_of : List SizeDecl → Parser Aff
extent_of ds = index (extent_name (declared ds [])) 999 Sum >>= λ x. (word_in 999 k.RBracket no_value >>= λ _. pure x)

unfoldable pub input_line : List SizeDecl → List InputDecl → Parser InputDecl
input_line ds is =
    word_in 1000 k.Name (new_name (size_names ds ++ input_names is)) >>= λ name. (repeated k.LBracket with_last (λ _. extent_of ds) most_lines [] >>= λ es.
    (word_in 1000 k.Semi no_value >>= λ _. pure (record { name = name; extents = es })))

abbrev pub inputs : List SizeDecl → Parser (List InputDecl)
inputs ds = repeated k.Input with_last (input_line ds) most_lines []

unfoldable pub output_line : List SizeDecl → List InputDecl → List OutputDecl → Parser OutputDecl
output_line ds is os =
    word_in 1000 k.Name (new_name (size_names ds ++ (input_names is ++ output_names os))) >>= λ name.
    (word_in 1000 k.Assign no_value >>= λ _. (term 1000 Whole (declared ds is) >>= λ t.
    (word_in 1000 k.Semi no_value >>= λ _. pure (record { name = name; term = t }))))

abbrev pub more_outputs : Bool → List SizeDecl → List InputDecl → List OutputDecl → Parser (List OutputDecl)
more_outputs true ds is os = pure os
more_outputs false ds is os = repeated k.Output with_last (output_line ds is) most_lines os

unfoldable pub outputs : ℕ → List SizeDecl → List InputDecl → Parser (List OutputDecl)
outputs version ds is = word_in 1000 k.Output no_value >>= λ _. (output_line ds is [] >>= λ o. more_outputs (version == 1) ds is (o ∷ []))

unfoldable pub source : ℕ → Parser Module
source version =
    header version >>= λ _.
    (sizes >>= λ ds. (assumes ds >>= λ cs.
    (example ds >>= λ ns. (inputs ds >>= λ is. (outputs version ds is >>= λ os. pure (module_of version ds cs ns is os))))))
