-- How terms are read.
use Rattle.std.specs.Prelude.{ℕ, zero, suc, ◌-◌, ◌∷◌}
use Rattle.text_tokens.specs.declared.kind.Kind.{Kind}
use Rattle.text_tokens.specs.declared.kind.Kind.TheVariants as k
use Rattle.affine_index.specs.declared.aff.Aff.{Aff}
use Rattle.term_tree.specs.declared.term.Term.{Term, Lit, TVar, WordOf}
use Rattle.term_tree.specs.Syntax.{gen, sum, guard, let_in, concat, flatten, split, transpose, trunc_l, trunc_r, pad_l, pad_r}
use Rattle.reader_laws.specs.Steps.{Parser, ◌>>=◌, pure, unexpected, kind, itself, no_value}
use Rattle.reader_laws.specs.Chain.{chain}
use Rattle.reader_laws.specs.Levels.{unexpected_in, word_in, opening}
use Rattle.source_grammar.specs.Scope.{Scope, extent_name, index_name, tensor_name}
use Rattle.source_grammar.specs.ReadIndex.{index}
use Rattle.source_grammar.specs.Index.{Sum as index_sum}
use Rattle.source_grammar.specs.ReadConditions.{condition}
use Rattle.source_grammar.specs.Terms.{Place, Whole, Sum, Product, Factor, word_value, tile_value, sums, products, brackets, max_chain, index_entry}
use Rattle.source_grammar.specs.Terms.{tensor_entry}

-- `inside` reads what a level below holds
module _ (inside : Place → Scope → Parser Term) (levels : ℕ) (scope : Scope) where
  abbrev pub extent : Parser Aff
  extent = index (extent_name scope) (levels - 1) index_sum

  -- ---- forms that bind or guard

  unfoldable pub loop_of : Kind → (Aff → Term → Term) → Parser Term
  loop_of kd make = opening levels kd >>= λ _.
      (word_in (levels - 1) k.Name itself >>= λ name.
      (word_in (levels - 1) k.Less no_value >>= λ _. (extent >>= λ n. (word_in (levels - 1) k.Dot no_value >>= λ _.
      (inside Whole (index_entry name ∷ scope) >>= λ e. pure (make n e))))))

  unfoldable pub guarded : Parser Term
  guarded = opening levels k.Guard >>= λ _.
      (condition (index_name scope) (levels - 1) >>= λ c. (word_in (levels - 1) k.Dot no_value >>= λ _. (inside Whole scope >>= λ e. pure (guard c e))))

  unfoldable pub bound : Parser Term
  bound = opening levels k.Let >>= λ _.
      (word_in (levels - 1) k.Name itself >>= λ name.
      (word_in (levels - 1) k.Assign no_value >>= λ _. (inside Whole scope >>= λ a. (word_in (levels - 1) k.In no_value >>= λ _.
      (inside Whole (tensor_entry name ∷ scope) >>= λ e. pure (let_in a e))))))

  -- ---- what stands alone

  -- `( .. )` one level further in
  abbrev pub in_parens : {A : Type 0} → Parser A → Parser A
  in_parens p = opening levels k.LParen >>= λ _. (p >>= λ x. (word_in (levels - 1) k.RParen no_value >>= λ _. pure x))

  unfoldable pub of_one : Kind → (Term → Term) → Parser Term
  of_one kd make = word_in levels kd no_value >>= λ _. in_parens (inside Whole scope >>= λ e. pure (make e))

  unfoldable pub joint : Parser Term
  joint = word_in levels k.Concat no_value >>= λ _. in_parens
      (inside Whole scope >>= λ a. (word_in (levels - 1) k.Comma no_value >>= λ _. (inside Whole scope >>= λ e. pure (concat a e))))

  unfoldable pub cut : Parser Term
  cut = word_in levels k.Split no_value >>= λ _. in_parens
      (word_in (levels - 1) k.Number tile_value >>= λ d. (word_in (levels - 1) k.Comma no_value >>= λ _. (inside Whole scope >>= λ e. pure (split d e))))

  unfoldable pub trimmed : Kind → (Aff → Term → Term) → Parser Term
  trimmed kd make = word_in levels kd no_value >>= λ _. in_parens
      (extent >>= λ n. (word_in (levels - 1) k.Comma no_value >>= λ _. (inside Whole scope >>= λ e. pure (make n e))))

  unfoldable pub word_form : Parser Term
  word_form = word_in levels k.Word no_value >>= λ _. in_parens (index (index_name scope) (levels - 1) index_sum >>= λ x. pure (WordOf x))

  abbrev pub primary_by : Kind → Parser Term
  primary_by k.Number = word_in levels k.Number word_value >>= λ w. pure (Lit w)
  primary_by k.Name = word_in levels k.Name (tensor_name scope) >>= λ q. pure (TVar q)
  primary_by k.LParen = in_parens (inside Whole scope)
  primary_by k.Flatten = of_one k.Flatten flatten
  primary_by k.Transpose = of_one k.Transpose transpose
  primary_by k.Concat = joint
  primary_by k.Split = cut
  primary_by k.TruncL = trimmed k.TruncL trunc_l
  primary_by k.TruncR = trimmed k.TruncR trunc_r
  primary_by k.PadL = trimmed k.PadL pad_l
  primary_by k.PadR = trimmed k.PadR pad_r
  primary_by k.Word = word_form
  primary_by kd = unexpected_in levels

  unfoldable pub primary : Parser Term
  primary = λ i. primary_by (kind i) i

  -- ---- chains

  abbrev pub in_brackets : ℕ → Parser Aff
  in_brackets n = index (index_name scope) n index_sum >>= λ x. (word_in n k.RBracket no_value >>= λ _. pure x)

  unfoldable pub factor : Parser Term
  factor = primary >>= λ x. chain brackets (λ n a o. in_brackets n) levels x

  unfoldable pub product : Parser Term
  product = factor >>= λ x. chain (products levels) (λ n a o. inside Factor scope) max_chain x

  unfoldable pub total : Parser Term
  total = product >>= λ x. chain (sums levels) (λ n a o. inside Product scope) max_chain x

  -- a form that binds or guards, or else a chain
  abbrev pub whole_by : Kind → Parser Term
  whole_by k.Gen = loop_of k.Gen gen
  whole_by k.Sum = loop_of k.Sum sum
  whole_by k.Guard = guarded
  whole_by k.Let = bound
  whole_by kd = total

  unfoldable pub whole : Parser Term
  whole = λ i. whole_by (kind i) i

  abbrev pub by_place : Place → Parser Term
  by_place Whole = whole
  by_place Sum = total
  by_place Product = product
  by_place Factor = factor

unfoldable pub inner : ℕ → Place → Scope → Parser Term
inner zero place scope = unexpected
inner (suc levels) place scope = by_place (inner levels) levels scope place

-- a term, where so many levels are left
abbrev pub term : ℕ → Place → Scope → Parser Term
term levels place scope = by_place (inner levels) levels scope place
