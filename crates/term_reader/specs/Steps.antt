-- The steps that the code takes.
use Rattle.std.specs.Prelude.{ℕ, pos, if◌then◌else◌, ◌==◌, nat_lt, Option, Some, None, Result, Ok, Err}
use Rattle.text_tokens.specs.declared.kind.Kind.TheVariants as k
use Rattle.text_tokens.specs.Kinds.{Text}
use Rattle.text_tokens.specs.Numbers.{number}
use Rattle.affine_index.specs.Form.{literal_form}
use Rattle.affine_index.specs.Sum.{difference_of}
use Rattle.affine_index.specs.declared.cond.Cmp.{Cmp}
use Rattle.affine_index.specs.declared.cond.Cmp.TheVariants.{Ge, Eq}
use Rattle.affine_index.specs.declared.cond.Rel.{Rel}
use Rattle.affine_index.specs.declared.cond.Rel.TheVariants as rel
use Rattle.affine_index.specs.declared.form.Items.{Items}
use Rattle.affine_index.specs.declared.refusal.AffRefusal.{AffRefusal}
use Rattle.affine_index.specs.declared.refusal.AffRefusal.TheVariants as refusal
use Rattle.term_tree.specs.declared.term.Term.{Term, Lit, TVar}
use Rattle.term_tree.specs.Syntax as term
use Rattle.reader_laws.specs.declared.fault.Fault.{Fault}
use Rattle.reader_laws.specs.declared.fault.Fault.TheVariants.{BadSyntax, NumberTooLarge, NotAffine, CoefficientTooLarge, IndexTooLong}
use Rattle.reader_laws.specs.declared.fault.ReadError.{ReadError}
use Rattle.reader_laws.specs.declared.fault.ReadError.TheVariants.{Memory, Refused}
use Rattle.reader_laws.specs.Levels.{word_in}
use Rattle.reader_laws.specs.Steps.{Parser, ◌>>=◌, no_value, pure}
use Rattle.reader_laws.specs.Chain.{chain}
use Rattle.source_grammar.specs.declared.operator.Operator.{Operator}
use Rattle.source_grammar.specs.declared.operator.Operator.TheVariants as op
use Rattle.source_grammar.specs.Index.{Level, divisor_value, join, sums, products}
use Rattle.source_grammar.specs.Index.{Sum as index_sum}
use Rattle.source_grammar.specs.ReadIndex.{index, right_of, product}
use Rattle.source_grammar.specs.ReadTerms.{in_brackets, inner}
use Rattle.source_grammar.specs.Scope.{Scope, index_name, tensor_name}
use Rattle.source_grammar.specs.Terms.{Factor, Product, brackets, word_value}
use Rattle.source_grammar.specs.Terms as terms
use Rattle.term_reader.specs.declared.forms.Sign.{Sign}
use Rattle.term_reader.specs.Forms.{signed_term}

-- a value, or its fault at a place
abbrev pub placed : {A : Type 0} → ℕ → Result A Fault → Result A ReadError
placed place (Ok x) = Ok x
placed place (Err fault) = Err (Refused fault place)

abbrev pub answer : {A : Type 0} → Result A ReadError → Parser A
answer (Ok x) = λ i. Ok (x, i)
answer (Err e) = λ i. Err e

-- an operator of a product, and one whose right side is a divisor
abbrev pub IsOfProduct : Operator → Type 0
IsOfProduct op.Times = Unit {0}
IsOfProduct op.Over = Unit {0}
IsOfProduct op.Modulo = Unit {0}
IsOfProduct _ = ⊥

abbrev pub IsDivision : Operator → Type 0
IsDivision op.Over = Unit {0}
IsDivision op.Modulo = Unit {0}
IsDivision _ = ⊥

-- a divisor to the right of an operator at this place, joined to what stands to its left
unfoldable pub next_divisor : ℕ → ℕ → Items → Operator → Parser Items
next_divisor levels place left o = word_in levels k.Number divisor_value >>= λ right. answer (placed place (join o left right))

module _ (names : Text → Result Items Fault) (inside : Level → Parser Items) (levels : ℕ) where
  -- what stands to the right of an operator at this place, joined to what stands to its left
  unfoldable pub next_part : ℕ → Items → Operator → Parser Items
  next_part place left o = right_of names inside levels o >>= λ right. answer (placed place (join o left right))

  unfoldable pub next_product : ℕ → Items → Operator → Parser Items
  next_product place left o = product names inside levels >>= λ right. answer (placed place (join o left right))

  abbrev pub more_products : ℕ → Items → Parser Items
  more_products n left = chain products (λ n a o. right_of names inside levels o) n left

  abbrev pub more_sums : ℕ → Items → Parser Items
  more_sums n left = chain sums (λ n a o. product names inside levels) n left

-- the answer of index arithmetic, as a reader gives it at a place
abbrev pub located : ℕ → Result Items AffRefusal → Result Items ReadError
located place (Ok x) = Ok x
located place (Err refusal.CoefficientTooLarge) = Err (Refused CoefficientTooLarge place)
located place (Err refusal.IndexTooLong) = Err (Refused IndexTooLong place)
located place (Err refusal.NotAffine) = Err (Refused NotAffine place)
located place (Err refusal.Memory) = Err Memory

-- the number that a divisor is
abbrev pub divisor_number_if : Option ℕ → Result ℕ Fault
divisor_number_if None = Err NumberTooLarge
divisor_number_if (Some n) = if n == 0 then Err BadSyntax else (if nat_lt 2147483647 n then Err NumberTooLarge else Ok n)

abbrev pub divisor_number : Text → Result ℕ Fault
divisor_number t = divisor_number_if (number t)

-- `a - b - 1`
abbrev pub gap_of : Items → Items → Items
gap_of a b = difference_of (difference_of a b) (literal_form (pos 1))

-- what is compared with 0
abbrev pub compared_form : Rel → Items → Items → Items
compared_form rel.Lt a b = gap_of b a
compared_form rel.Le a b = difference_of b a
compared_form rel.Gt a b = gap_of a b
compared_form rel.Ge a b = difference_of a b
compared_form rel.Eq a b = difference_of a b

-- the comparison of a form with 0
abbrev pub comparison_of : Rel → Items → Cmp
comparison_of rel.Eq x = Eq x
comparison_of r x = Ge x

-- `)`, behind what was read
abbrev pub closed : ℕ → Term → Parser Term
closed levels x = word_in levels k.RParen no_value >>= λ _. pure x

abbrev pub literal : ℕ → Parser Term
literal levels = word_in levels k.Number word_value >>= λ w. pure (Lit w)

abbrev pub variable : Scope → ℕ → Parser Term
variable scope levels = word_in levels k.Name (tensor_name scope) >>= λ q. pure (TVar q)

-- ---- chains of a term, behind what is to their left

unfoldable pub next_bracket : Scope → ℕ → Term → Parser Term
next_bracket scope n left = index (index_name scope) n index_sum >>= λ x. (word_in n k.RBracket no_value >>= λ _. pure (term.index left x))

abbrev pub more_brackets : Scope → ℕ → ℕ → Term → Parser Term
more_brackets scope levels n left = chain brackets (λ n a o. in_brackets (inner levels) levels scope n) n left

unfoldable pub next_factor : Scope → ℕ → Term → Parser Term
next_factor scope levels left = inner levels Factor scope >>= λ right. pure (term.mul left right)

abbrev pub more_factors : Scope → ℕ → ℕ → Term → Parser Term
more_factors scope levels n left = chain (terms.products levels) (λ n a o. inner levels Factor scope) n left

unfoldable pub next_term : Scope → ℕ → Term → Sign → Parser Term
next_term scope levels left sign = inner levels Product scope >>= λ right. pure (signed_term sign left right)

abbrev pub more_terms : Scope → ℕ → ℕ → Term → Parser Term
more_terms scope levels n left = chain (terms.sums levels) (λ n a o. inner levels Product scope) n left
