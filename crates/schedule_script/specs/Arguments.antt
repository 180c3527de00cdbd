-- Arguments of a step: index expressions and conditions. How they are read, and their grammar.
use Rattle.std.specs.Prelude.{ℕ, List, [], ◌∷◌, Option, Some, None, Ok}
use Rattle.text_tokens.specs.declared.kind.Kind.{Kind}
use Rattle.text_tokens.specs.declared.kind.Kind.TheVariants as k
use Rattle.text_tokens.specs.Words.{Word}
use Rattle.affine_index.specs.declared.cond.Rel.{Rel}
use Rattle.affine_index.specs.declared.cond.Rel.TheVariants as rel
use Rattle.reader_laws.specs.Steps.{Parser, ◌>>=◌, pure, unexpected, kind, a_word, no_value}
use Rattle.reader_laws.specs.Chain.{Links, chain, repeated}
use Rattle.reader_laws.specs.Grammar.{IsWordOf, IsNothing, OneOf, Both, IsChain, IsRepeated}
use Rattle.schedule_script.specs.declared.tree.ArgTree.{ArgTree}
use Rattle.schedule_script.specs.declared.tree.ArgTree.TheVariants.{Ix, Cond}
use Rattle.schedule_script.specs.declared.tree.Comparison.{Comparison}
use Rattle.schedule_script.specs.declared.tree.IxTree.{IxTree}
use Rattle.schedule_script.specs.Index.{index, IsIndex}
use Rattle.schedule_script.specs.Words.{most_items, with_last}

-- ---- relations

abbrev pub relation : Kind → Option Rel
relation k.Less = Some rel.Lt
relation k.LessEqual = Some rel.Le
relation k.Greater = Some rel.Gt
relation k.GreaterEqual = Some rel.Ge
relation k.Equal = Some rel.Eq
relation _ = None

-- a word of this kind, for this relation
unfoldable pub related : Kind → Rel → Parser Rel
related a r = a_word a no_value >>= λ _. pure r

abbrev pub IsRelated : Kind → Rel → List Word → Rel → Type 0
IsRelated a r = Both (IsWordOf a no_value) (λ _. IsNothing r)

abbrev pub relation_by : Kind → Parser Rel
relation_by k.Less = related k.Less rel.Lt
relation_by k.LessEqual = related k.LessEqual rel.Le
relation_by k.Greater = related k.Greater rel.Gt
relation_by k.GreaterEqual = related k.GreaterEqual rel.Ge
relation_by k.Equal = related k.Equal rel.Eq
relation_by _ = unexpected

abbrev pub IsRelationBy : Kind → List Word → Rel → Type 0
IsRelationBy k.Less = IsRelated k.Less rel.Lt
IsRelationBy k.LessEqual = IsRelated k.LessEqual rel.Le
IsRelationBy k.Greater = IsRelated k.Greater rel.Gt
IsRelationBy k.GreaterEqual = IsRelated k.GreaterEqual rel.Ge
IsRelationBy k.Equal = IsRelated k.Equal rel.Eq
IsRelationBy _ = λ ws x. ⊥

unfoldable pub relation_word : Parser Rel
relation_word = λ i. relation_by (kind i) i

abbrev pub IsRelation : List Word → Rel → Type 0
IsRelation = OneOf IsRelationBy

-- ---- arguments, where so many levels are left

-- a relation that may follow an index: the index is the left side of a condition, and no second relation follows
unfoldable pub conditions : Links ArgTree ArgTree Rel
conditions = record { operator = relation; room = λ n. 1; join = λ o a b. Ok b }

module _ (levels : ℕ) where
  -- a relation and its right side, behind this left side
  abbrev pub against : IxTree → Parser Comparison
  against a = relation_word >>= λ r. (index levels >>= λ b. pure (record { left = a; rel = r; right = b }))

  abbrev pub IsAgainst : IxTree → List Word → Comparison → Type 0
  IsAgainst a = Both IsRelation (λ r. Both (IsIndex levels) (λ b. IsNothing (record { left = a; rel = r; right = b })))

  unfoldable pub comparison : Parser Comparison
  comparison = index levels >>= against

  abbrev pub IsComparison : List Word → Comparison → Type 0
  IsComparison = Both (IsIndex levels) IsAgainst

  -- the comparisons that follow the first, each after `and`
  abbrev pub comparisons : List Comparison → Parser (List Comparison)
  comparisons cs = repeated k.And with_last (λ _. comparison) most_items cs

  abbrev pub AreComparisons : List Comparison → List Word → List Comparison → Type 0
  AreComparisons cs = IsRepeated k.And with_last (λ _. IsComparison) most_items cs

  -- what follows the first relation, whose left side is this
  unfoldable pub condition_after : IxTree → Rel → Parser ArgTree
  condition_after a r = index levels >>= λ b. (comparisons (record { left = a; rel = r; right = b } ∷ []) >>= λ cs. pure (Cond cs))

  abbrev pub IsConditionAfter : IxTree → Rel → List Word → ArgTree → Type 0
  IsConditionAfter a r = Both (IsIndex levels) (λ b. Both (AreComparisons (record { left = a; rel = r; right = b } ∷ [])) (λ cs. IsNothing (Cond cs)))

  unfoldable pub argument : Parser ArgTree
  argument = index levels >>= λ a. chain conditions (λ n x r. condition_after a r) 1 (Ix a)

  abbrev pub IsArgument : List Word → ArgTree → Type 0
  IsArgument = Both (IsIndex levels) (λ a. IsChain conditions (λ n x r. IsConditionAfter a r) 1 (Ix a))
