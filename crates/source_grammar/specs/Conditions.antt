-- The grammar of comparisons and conditions.
use Rattle.std.specs.Prelude.{◌≡◌, ℕ, ◌^◌, pos, List, [], ◌∷◌, ◌++◌, Result, Ok, Err}
use Rattle.text_tokens.specs.declared.kind.Kind.{Kind}
use Rattle.text_tokens.specs.declared.kind.Kind.TheVariants as k
use Rattle.text_tokens.specs.Kinds.{Text}
use Rattle.text_tokens.specs.Words.{Word}
use Rattle.affine_index.specs.Form.{literal_form}
use Rattle.affine_index.specs.Sum.{difference_of}
use Rattle.affine_index.specs.declared.cond.Cmp.{Cmp}
use Rattle.affine_index.specs.declared.cond.Cmp.TheVariants.{Ge, Eq}
use Rattle.affine_index.specs.declared.cond.Cond.{Cond}
use Rattle.affine_index.specs.declared.cond.Rel.{Rel}
use Rattle.affine_index.specs.declared.cond.Rel.TheVariants as rel
use Rattle.affine_index.specs.declared.form.Items.{Items}
use Rattle.reader_laws.specs.declared.fault.Fault.{Fault}
use Rattle.reader_laws.specs.Steps.{no_value}
use Rattle.reader_laws.specs.Grammar.{IsWordOf, IsNothing, OneOf, Both, IsRepeated}
use Rattle.source_grammar.specs.Limits.{tested}
use Rattle.source_grammar.specs.Index.{Sum, IsIndex}

abbrev pub if_tested : (Items → Cmp) → Result Items Fault → Result Cmp Fault
if_tested f (Ok x) = Ok (f x)
if_tested f (Err e) = Err e

-- the comparison of two forms, as one of a form with 0
abbrev pub compared : Rel → Items → Items → Result Cmp Fault
compared rel.Lt a b = if_tested Ge (tested (difference_of (difference_of b a) (literal_form (pos 1))))
compared rel.Le a b = if_tested Ge (tested (difference_of b a))
compared rel.Gt a b = if_tested Ge (tested (difference_of (difference_of a b) (literal_form (pos 1))))
compared rel.Ge a b = if_tested Ge (tested (difference_of a b))
compared rel.Eq a b = if_tested Eq (tested (difference_of a b))

-- no word, for what was made
abbrev pub IsMade : {A : Type 0} → Result A Fault → List Word → A → Type 0
IsMade r ws x = (ws ≡ []) × (r ≡ Ok x)

abbrev pub IsRelationBy : Kind → List Word → Rel → Type 0
IsRelationBy k.Less = Both (IsWordOf k.Less no_value) (λ _. IsNothing rel.Lt)
IsRelationBy k.LessEqual = Both (IsWordOf k.LessEqual no_value) (λ _. IsNothing rel.Le)
IsRelationBy k.Greater = Both (IsWordOf k.Greater no_value) (λ _. IsNothing rel.Gt)
IsRelationBy k.GreaterEqual = Both (IsWordOf k.GreaterEqual no_value) (λ _. IsNothing rel.Ge)
IsRelationBy k.Equal = Both (IsWordOf k.Equal no_value) (λ _. IsNothing rel.Eq)
IsRelationBy kd = λ ws x. ⊥

-- more comparisons than a text has
unfoldable pub most_comparisons : ℕ
most_comparisons = 2 ^ 63

abbrev pub with_last : {A : Type 0} → List A → A → List A
with_last xs x = xs ++ x ∷ []

module _ (names : Text → Result Items Fault) (levels : ℕ) where
  abbrev pub IsComparison : List Word → Cmp → Type 0
  IsComparison = Both (IsIndex names levels Sum) (λ a. Both (OneOf IsRelationBy) (λ r. Both (IsIndex names levels Sum) (λ b. IsMade (compared r a b))))

  abbrev pub IsCondition : List Word → Cond → Type 0
  IsCondition = Both IsComparison (λ c. Both (IsRepeated k.And with_last (λ _. IsComparison) most_comparisons (c ∷ [])) (λ cs. IsNothing (record { all = cs })))
