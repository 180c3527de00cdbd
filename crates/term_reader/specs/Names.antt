-- Which names may stand in an index.
use Rattle.std.specs.Prelude.{ℕ, Option, Some, None, Result, Ok, Err}
use Rattle.text_tokens.specs.Kinds.{Text}
use Rattle.affine_index.specs.Form.{size_form, var_form}
use Rattle.affine_index.specs.declared.form.Items.{Items}
use Rattle.reader_laws.specs.declared.fault.Fault.{Fault}
use Rattle.reader_laws.specs.declared.fault.Fault.TheVariants.{UnknownName}
use Rattle.source_grammar.specs.declared.sort.Sort.{Sort}
use Rattle.source_grammar.specs.Scope.{if_known, index_form, meaning, size_form_of}
use Rattle.term_reader.specs.Frames.{entries_of}
use Rattle.term_reader.specs.declared.names.Known.{Known}
use Rattle.term_reader.specs.declared.names.Known.TheVariants.{Size, Index}
use Rattle.term_reader.specs.declared.names.Names.{Names}
use Rattle.term_reader.specs.declared.names.Over.{Over}
use Rattle.term_reader.specs.declared.names.Over.TheVariants.{Sizes, Indices}

-- the form of what a name means
abbrev pub form_name : Over → Sort → ℕ → Result Items Fault
form_name Sizes = size_form_of
form_name Indices = index_form

-- the form of a name
abbrev pub named : Names → Text → Result Items Fault
named names t = if_known (form_name names.over) (meaning (entries_of names.scope.now) t)

-- the form of a size or an index variable
abbrev pub form_of : Known → Items
form_of (Size n) = size_form n
form_of (Index n) = var_form n

abbrev pub known_form : Option Known → Result Items Fault
known_form None = Err UnknownName
known_form (Some x) = Ok (form_of x)

-- a tensor, or a fault
abbrev pub tensor_if : Option ℕ → Result ℕ Fault
tensor_if None = Err UnknownName
tensor_if (Some n) = Ok n
