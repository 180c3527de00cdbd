-- The lines of a source, over the names that are declared before.
use Rattle.std.specs.Prelude.{ℕ, ◌==◌, List, [], ◌∷◌, ◌++◌, length, Bool, true, false}
use Rattle.text_tokens.specs.declared.kind.Kind.TheVariants as k
use Rattle.text_tokens.specs.Kinds.{Text}
use Rattle.affine_index.specs.declared.aff.Aff.{Aff}
use Rattle.affine_index.specs.declared.cond.Cmp.{Cmp}
use Rattle.affine_index.specs.declared.cond.Cond.{Cond}
use Rattle.term_tree.specs.declared.term.SizeDecl.{SizeDecl}
use Rattle.term_tree.specs.declared.term.InputDecl.{InputDecl}
use Rattle.term_tree.specs.declared.term.OutputDecl.{OutputDecl}
use Rattle.term_tree.specs.declared.term.Module.{Module}
use Rattle.reader_laws.specs.Levels.{word_in}
use Rattle.reader_laws.specs.Steps.{Parser, ◌>>=◌, no_value, pure}
use Rattle.reader_laws.specs.Chain.{repeated}
use Rattle.source_grammar.specs.Conditions.{with_last}
use Rattle.source_grammar.specs.Index.{Sum}
use Rattle.source_grammar.specs.ReadConditions.{condition}
use Rattle.source_grammar.specs.ReadIndex.{index}
use Rattle.source_grammar.specs.ReadSource.{example, header, sizes}
use Rattle.source_grammar.specs.ReadTerms.{term}
use Rattle.source_grammar.specs.Scope.{Scope, extent_name}
use Rattle.source_grammar.specs.Source.{bound, input_names, most_lines, module_of, new_name, output_names, size_names, with_all}
use Rattle.source_grammar.specs.Terms.{Whole}
use Rattle.term_reader.specs.Frames.{outermost}
use Rattle.declaration_reader.specs.declared.whole.Front.{Front}

-- a name that is none of these
abbrev pub declare : List Text → Parser Text
declare names = word_in 1000 k.Name (new_name names)

unfoldable pub size_line : List Text → Parser SizeDecl
size_line names =
    declare names >>= λ name. (word_in 1000 k.In no_value >>= λ _. (word_in 1000 k.Number bound >>= λ low. (word_in 1000 k.DotDot no_value >>= λ _.
    (word_in 1000 k.Number bound >>= λ high. (word_in 1000 k.Semi no_value >>= λ _. pure (record { name = name; low = low; high = high }))))))

unfoldable pub assume : Scope → Parser Cond
assume scope = condition (extent_name scope) 1000 >>= λ c. (word_in 1000 k.Semi no_value >>= λ _. pure c)

abbrev pub assumes : Scope → Parser (List Cmp)
assumes scope = repeated k.Assume with_all (λ _. assume scope) most_lines []

unfoldable pub extent_of : Scope → Parser Aff
extent_of scope = index (extent_name scope) 999 Sum >>= λ x. (word_in 999 k.RBracket no_value >>= λ _. pure x)

abbrev pub extents : Scope → Parser (List Aff)
extents scope = repeated k.LBracket with_last (λ _. extent_of scope) most_lines []

unfoldable pub input_line : List Text → Scope → Parser InputDecl
input_line names scope =
    declare names >>= λ name. (extents scope >>= λ es. (word_in 1000 k.Semi no_value >>= λ _. pure (record { name = name; extents = es })))

-- an input behind these, where these are the names of the sizes
abbrev pub input_behind : List Text → List InputDecl → Parser InputDecl
input_behind names is = input_line (names ++ input_names is) (outermost names (length names) 0)

abbrev pub inputs : List Text → Parser (List InputDecl)
inputs names = repeated k.Input with_last (input_behind names) most_lines []

unfoldable pub output_line : List Text → Scope → Parser OutputDecl
output_line names scope =
    declare names >>= λ name. (word_in 1000 k.Assign no_value >>= λ _. (term 1000 Whole scope >>= λ t. (word_in 1000 k.Semi no_value >>= λ _.
    pure (record { name = name; term = t }))))

-- an output behind these, where these are the names of the sizes and inputs
abbrev pub output_behind : List Text → Scope → List OutputDecl → Parser OutputDecl
output_behind names scope os = output_line (names ++ output_names os) scope

abbrev pub more_outputs : List Text → Scope → List OutputDecl → Parser (List OutputDecl)
more_outputs names scope os = repeated k.Output with_last (output_behind names scope) most_lines os

abbrev pub outputs_by : Bool → List Text → Scope → List OutputDecl → Parser (List OutputDecl)
outputs_by true names scope os = pure os
outputs_by false names scope os = more_outputs names scope os

unfoldable pub outputs : ℕ → List Text → Scope → Parser (List OutputDecl)
outputs version names scope =
    word_in 1000 k.Output no_value >>= λ _. (output_line names scope >>= λ o. outputs_by (version == 1) names scope (o ∷ []))

-- ---- the whole

abbrev pub bounds : Parser (List SizeDecl × List Cmp)
bounds = sizes >>= λ ds. (assumes (outermost (size_names ds) (length (size_names ds)) 0) >>= λ cs. pure (ds, cs))

abbrev pub front : Parser Front
front = bounds >>= λ b. (example b.0 >>= λ ns. pure (record { sizes = b.0; assumes = b.1; example = ns }))

-- inputs and outputs, where these are the names of the sizes
abbrev pub back : ℕ → List Text → Parser (List InputDecl × List OutputDecl)
back version names =
    inputs names >>= λ is. (outputs version (names ++ input_names is) (outermost (names ++ input_names is) (length names) (length (input_names is))) >>= λ os.
    pure (is, os))

abbrev pub whole : ℕ → Parser Module
whole version =
    header version >>= λ _. (front >>= λ f. (back version (size_names f.sizes) >>= λ b. pure (module_of version f.sizes f.assumes f.example b.0 b.1)))
