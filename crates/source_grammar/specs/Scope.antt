-- What names mean: the innermost meaning counts.
use Rattle.std.specs.Prelude.{ℕ, ◌+◌, Bool, true, false, if◌then◌else◌, List, [], ◌∷◌, Option, Some, None, Result, Ok, Err}
use Rattle.std.specs.Str.{bytes_eq}
use Rattle.text_tokens.specs.Kinds.{Text}
use Rattle.affine_index.specs.Form.{size_form, var_form}
use Rattle.affine_index.specs.declared.form.Items.{Items}
use Rattle.reader_laws.specs.declared.fault.Fault.{Fault}
use Rattle.reader_laws.specs.declared.fault.Fault.TheVariants.{UnknownName}
use Rattle.source_grammar.specs.declared.sort.Sort.{Sort}
use Rattle.source_grammar.specs.declared.sort.Sort.TheVariants.{OfSize, OfIndex, OfTensor}
use Rattle.source_grammar.specs.declared.sort.Meaning.{Meaning}

-- both are of one sort
abbrev pub same_sort : Sort → Sort → Bool
same_sort OfSize OfSize = true
same_sort OfIndex OfIndex = true
same_sort OfTensor OfTensor = true
same_sort _ _ = false

pub record Entry : Type 0 where
  pub name : Text
  pub sort : Sort

-- the names that may be used: local ones, the innermost first, then the declared ones in order
abbrev pub Scope : Type 0
Scope = List Entry

-- a meaning, seen from within one entry more
abbrev pub past : Sort → Option Meaning → Option Meaning
past s None = None
past s (Some m) = Some (record { sort = m.sort; number = if same_sort s m.sort then m.number + 1 else m.number })

-- the innermost meaning of a name
abbrev pub meaning : Scope → Text → Option Meaning
meaning [] t = None
meaning (e ∷ es) t = if bytes_eq t e.name then Some (record { sort = e.sort; number = 0 }) else past e.sort (meaning es t)

abbrev pub index_form : Sort → ℕ → Result Items Fault
index_form OfSize n = Ok (size_form n)
index_form OfIndex n = Ok (var_form n)
index_form OfTensor n = Err UnknownName

abbrev pub size_form_of : Sort → ℕ → Result Items Fault
size_form_of OfSize n = Ok (size_form n)
size_form_of _ n = Err UnknownName

abbrev pub tensor_number : Sort → ℕ → Result ℕ Fault
tensor_number OfTensor n = Ok n
tensor_number _ n = Err UnknownName

abbrev pub if_known : {A : Type 0} → (Sort → ℕ → Result A Fault) → Option Meaning → Result A Fault
if_known f None = Err UnknownName
if_known f (Some m) = f m.sort m.number

-- a name in an index: a size or an index variable
abbrev pub index_name : Scope → Text → Result Items Fault
index_name scope t = if_known index_form (meaning scope t)

-- a name in an extent or an amount: a size
abbrev pub extent_name : Scope → Text → Result Items Fault
extent_name scope t = if_known size_form_of (meaning scope t)

-- a name of a tensor: a let or an input
abbrev pub tensor_name : Scope → Text → Result ℕ Fault
tensor_name scope t = if_known tensor_number (meaning scope t)
