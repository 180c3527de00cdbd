-- How comparisons and conditions are read.
use Rattle.std.specs.Prelude.{ℕ, [], ◌∷◌, Option, Some, None, Result}
use Rattle.text_tokens.specs.declared.kind.Kind.{Kind}
use Rattle.text_tokens.specs.declared.kind.Kind.TheVariants as k
use Rattle.text_tokens.specs.Kinds.{Text}
use Rattle.text_tokens.specs.Words.{peek}
use Rattle.affine_index.specs.declared.cond.Cmp.{Cmp}
use Rattle.affine_index.specs.declared.cond.Cond.{Cond}
use Rattle.affine_index.specs.declared.cond.Rel.{Rel}
use Rattle.affine_index.specs.declared.cond.Rel.TheVariants as rel
use Rattle.affine_index.specs.declared.form.Items.{Items}
use Rattle.reader_laws.specs.declared.fault.Fault.{Fault}
use Rattle.reader_laws.specs.Steps.{Parser, ◌>>=◌, ◌>>◌, pure, take_word}
use Rattle.reader_laws.specs.Chain.{joined, repeated}
use Rattle.reader_laws.specs.Levels.{unexpected_in}
use Rattle.source_grammar.specs.Index.{Sum}
use Rattle.source_grammar.specs.ReadIndex.{index}
use Rattle.source_grammar.specs.Conditions.{compared, with_last, most_comparisons}

abbrev pub relation : Kind → Option Rel
relation k.Less = Some rel.Lt
relation k.LessEqual = Some rel.Le
relation k.Greater = Some rel.Gt
relation k.GreaterEqual = Some rel.Ge
relation k.Equal = Some rel.Eq
relation _ = None

-- the word that a relation must be, and what stands to its right; the fault of what both make stands at the word
abbrev pub needed : {A : Type 0} → ℕ → Option Rel → (Rel → Parser A) → Parser A
needed levels None more = unexpected_in levels
needed levels (Some r) more = more r

module _ (names : Text → Result Items Fault) (levels : ℕ) where
  unfoldable pub against : Items → Parser Cmp
  against a = λ i. needed levels (relation (peek i).kind) (λ r. take_word >> (index names levels Sum >>= λ b. joined (peek i) (compared r a b) pure)) i

  unfoldable pub comparison : Parser Cmp
  comparison = index names levels Sum >>= against

  unfoldable pub condition : Parser Cond
  condition = comparison >>= λ c. (repeated k.And with_last (λ _. comparison) most_comparisons (c ∷ []) >>= λ cs. pure (record { all = cs }))
