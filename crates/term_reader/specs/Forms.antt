-- The forms of terms that are read alike.
use Rattle.std.specs.Prelude.{Option, Some, None}
use Rattle.text_tokens.specs.declared.kind.Kind.{Kind}
use Rattle.text_tokens.specs.declared.kind.Kind.TheVariants as k
use Rattle.affine_index.specs.declared.aff.Aff.{Aff}
use Rattle.term_tree.specs.declared.term.Term.{Term}
use Rattle.term_tree.specs.Syntax as term
use Rattle.term_reader.specs.declared.forms.Sized.{Sized}
use Rattle.term_reader.specs.declared.forms.Sized.TheVariants as s
use Rattle.term_reader.specs.declared.forms.Turned.{Turned}
use Rattle.term_reader.specs.declared.forms.Turned.TheVariants as t
use Rattle.term_reader.specs.declared.forms.Sign.{Sign}
use Rattle.term_reader.specs.declared.forms.Sign.TheVariants.{Plus, Minus}

-- the keyword of a form
abbrev pub sized_kind : Sized → Kind
sized_kind s.Gen = k.Gen
sized_kind s.Sum = k.Sum
sized_kind s.TruncL = k.TruncL
sized_kind s.TruncR = k.TruncR
sized_kind s.PadL = k.PadL
sized_kind s.PadR = k.PadR

abbrev pub sized_term : Sized → Aff → Term → Term
sized_term s.Gen = term.gen
sized_term s.Sum = term.sum
sized_term s.TruncL = term.trunc_l
sized_term s.TruncR = term.trunc_r
sized_term s.PadL = term.pad_l
sized_term s.PadR = term.pad_r

abbrev pub turned_kind : Turned → Kind
turned_kind t.Flatten = k.Flatten
turned_kind t.Transpose = k.Transpose

abbrev pub turned_term : Turned → Term → Term
turned_term t.Flatten = term.flatten
turned_term t.Transpose = term.transpose

-- what a sign makes of two terms
abbrev pub signed_term : Sign → Term → Term → Term
signed_term Plus = term.add
signed_term Minus = term.sub

abbrev pub signed_by : Option Sign → Option (Term → Term → Term)
signed_by None = None
signed_by (Some sign) = Some (signed_term sign)
