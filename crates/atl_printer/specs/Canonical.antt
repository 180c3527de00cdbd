-- The canonical text of a module.
use Rattle.std.specs.Prelude.{◌≡◌, ℕ, List, [], ◌∷◌, ◌++◌, get_or}
use Rattle.text_tokens.specs.declared.kind.Kind.TheVariants as k
use Rattle.text_tokens.specs.Kinds.{Text}
use Rattle.affine_index.specs.declared.aff.Aff.{Aff}
use Rattle.affine_index.specs.declared.cond.Cmp.{Cmp}
use Rattle.term_tree.specs.declared.term.SizeDecl.{SizeDecl}
use Rattle.term_tree.specs.declared.term.InputDecl.{InputDecl}
use Rattle.term_tree.specs.declared.term.OutputDecl.{OutputDecl}
use Rattle.term_tree.specs.declared.term.Module.{Module}
use Rattle.text_tokens.specs.Spelled.{Token, source_gap, spelled, name_token, number_token, sign, keyword}
use Rattle.source_grammar.specs.Terms.{Whole}
use Rattle.atl_printer.specs.TermTokens.{cmp_tokens, form_tokens, term_tokens}
use Rattle.source_grammar.specs.Source.{SourceText, input_names, size_names, version_text}

-- for each item a line or a part, each after one token
abbrev pub lines : {A : Type 0} → Token → (A → List Token) → List A → List Token
lines t f [] = []
lines t f (x ∷ xs) = t ∷ (f x ++ lines t f xs)

abbrev pub header_tokens : ℕ → List Token
header_tokens version = keyword k.Atl ∷ record { kind = k.Number; text = version_text version } ∷ sign k.Semi ∷ []

abbrev pub size_tokens : SizeDecl → List Token
size_tokens d = name_token d.name ∷ keyword k.In ∷ number_token d.low ∷ sign k.DotDot ∷ number_token d.high ∷ sign k.Semi ∷ []

abbrev pub sizes_tokens : List SizeDecl → List Token
sizes_tokens = lines (keyword k.Size) size_tokens

abbrev pub example_of_tokens : SizeDecl → ℕ → List Token
example_of_tokens d n = name_token d.name ∷ sign k.Assign ∷ number_token n ∷ []

abbrev pub more_example_tokens : List SizeDecl → List ℕ → List Token
more_example_tokens (d ∷ ds) (n ∷ ns) = sign k.Comma ∷ (example_of_tokens d n ++ more_example_tokens ds ns)
more_example_tokens _ _ = sign k.Semi ∷ []

abbrev pub example_tokens : List SizeDecl → List ℕ → List Token
example_tokens (d ∷ ds) (n ∷ ns) = keyword k.Example ∷ (example_of_tokens d n ++ more_example_tokens ds ns)
example_tokens _ _ = []

module _ (size_text input_text : ℕ → Text) where
  abbrev pub assume_tokens : Cmp → List Token
  assume_tokens c = cmp_tokens size_text input_text 0 c ++ (sign k.Semi ∷ [])

  abbrev pub extent_tokens : Aff → List Token
  extent_tokens x = form_tokens size_text input_text 0 x ++ (sign k.RBracket ∷ [])

  abbrev pub input_tokens : InputDecl → List Token
  input_tokens d = name_token d.name ∷ (lines (sign k.LBracket) extent_tokens d.extents ++ (sign k.Semi ∷ []))

  abbrev pub output_tokens : OutputDecl → List Token
  output_tokens d = name_token d.name ∷ sign k.Assign ∷ (term_tokens size_text input_text d.term Whole 0 0 ++ (sign k.Semi ∷ []))

-- the name of a number
abbrev pub name_of : List Text → ℕ → Text
name_of names n = get_or names n []

abbrev pub module_tokens : Module → List Token
module_tokens m =
    let size_text : ℕ → Text = name_of (size_names m.sizes) in
    let input_text : ℕ → Text = name_of (input_names m.inputs) in
    header_tokens m.version ++ (sizes_tokens m.sizes ++ (lines (keyword k.Assume) (assume_tokens size_text input_text) m.assumes
    ++ (example_tokens m.sizes m.example
    ++ (lines (keyword k.Input) (input_tokens size_text input_text) m.inputs ++ lines (keyword k.Output) (output_tokens size_text input_text) m.outputs))))

-- the canonical text
abbrev pub canonical_module : Module → Text
canonical_module m = spelled source_gap (module_tokens m)

-- the text of this module, and of no other
pub record ReadsBack (z : Text) (m : Module) : Type 0 where
  pub reads : SourceText z m
  pub only : (other : Module) → SourceText z other → other ≡ m
