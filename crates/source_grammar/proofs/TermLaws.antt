-- Terms are read as their grammar says.
use Rattle.std.proofs.Common.{◌≡◌, inl, inr, ◌∷◌, ◌++◌, ℕ, zero, suc, ◌-◌, Bool, true, false, List, [], Some, None, refl, sym, subst}
use Rattle.text_tokens.specs.declared.kind.Kind.{Kind}
use Rattle.text_tokens.specs.declared.kind.Kind.TheVariants as k
use Rattle.text_tokens.specs.Kinds.{Text}
use Rattle.text_tokens.specs.Words.{Word, Input, peek}
use Rattle.affine_index.specs.declared.aff.Aff.{Aff}
use Rattle.term_tree.specs.declared.term.Term.{Term, Lit, TVar, WordOf}
use Rattle.term_tree.specs.Syntax as syntax
use Rattle.reader_laws.specs.Steps.{Parser, ◌>>=◌, pure, kind, itself, no_value}
use Rattle.reader_laws.specs.Chain.{chain}
use Rattle.reader_laws.specs.Grammar.{IsWordOf, IsNothing, Opened, OneOf, Both, IsChain, BeginsWith, Starting}
use Rattle.reader_laws.proofs.Outcomes.{ahead}
use Rattle.reader_laws.proofs.Lawful.{Lawful, never, lawful_both, lawful_pure, lawful_choice, lawful_unexpected, lawful_as}
use Rattle.reader_laws.proofs.Chains.{lawful_chain, rest_frees}
use Rattle.reader_laws.proofs.Starts.{LawfulAt, lawful_choice_at, at_first, at_kind, both_starts, nothing_frees}
use Rattle.reader_laws.specs.Levels.{word_in, opening}
use Rattle.source_grammar.specs.Scope.{Scope, extent_name, index_name, tensor_name}
use Rattle.source_grammar.specs.Index.{IsIndex}
use Rattle.source_grammar.specs.Index.{Sum as index_sum}
use Rattle.source_grammar.specs.Terms.{Place, Whole, Sum, Product, Factor, word_value, tile_value, sum_sign, product_sign, bracket, sums, products, brackets}
use Rattle.source_grammar.specs.Terms.{max_chain, index_entry, tensor_entry, IsLoop, IsGuard, IsLet, IsBinderBy, IsOf, IsJoin, IsSplit, IsTrim, IsWordForm}
use Rattle.source_grammar.specs.Terms.{IsPrimaryBy, IsInBrackets, IsFactor, IsProduct, IsSum, IsWhole, IsByPlace, IsInner, IsTerm}
use Rattle.source_grammar.specs.ReadIndex.{index}
use Rattle.source_grammar.specs.ReadConditions.{condition}
use Rattle.source_grammar.specs.ReadTerms.{loop_of, guarded, bound, of_one, joint, cut, trimmed, word_form, primary_by, primary, in_brackets, factor, product}
use Rattle.source_grammar.specs.ReadTerms.{total, whole_by, whole, by_place, inner, term}
use Rattle.reader_laws.proofs.LevelLaws.{lawful_unexpected_in, lawful_word_in, word_in_then, lawful_opening, lawful_closed, lawful_before}
use Rattle.source_grammar.proofs.IndexLaws.{sum_goes_on, lawful_index}
use Rattle.source_grammar.proofs.ConditionLaws.{condition_goes_on, lawful_condition}

abbrev pub factor_more : Kind → Bool
factor_more k.LBracket = true
factor_more _ = false

abbrev pub product_more : Kind → Bool
product_more k.Star = true
product_more kd = factor_more kd

abbrev pub term_more : Kind → Bool
term_more k.Plus = true
term_more k.Minus = true
term_more kd = product_more kd

abbrev pub more : Place → Kind → Bool
more Whole = term_more
more Sum = term_more
more Product = product_more
more Factor = factor_more

abbrev Sign : Type 0
Sign = Term → Term → Term

bracket_no_end : (kd : Kind) (o : Unit {0}) → bracket kd ≡ Some o → kd ≡ k.End → ⊥
bracket_no_end k.End o h is = cc
bracket_no_end _ o h is = cc

product_no_end : (kd : Kind) (o : Sign) → product_sign kd ≡ Some o → kd ≡ k.End → ⊥
product_no_end k.End o h is = cc
product_no_end _ o h is = cc

sum_no_end : (kd : Kind) (o : Sign) → sum_sign kd ≡ Some o → kd ≡ k.End → ⊥
sum_no_end k.End o h is = cc
sum_no_end _ o h is = cc

bracket_stops : (kd : Kind) → factor_more kd ≡ false → (bracket kd ≡ None) × (never kd ≡ false)
bracket_stops k.LBracket h = absurd cc
bracket_stops _ h = (refl, refl)

product_stops : (kd : Kind) → product_more kd ≡ false → (product_sign kd ≡ None) × (factor_more kd ≡ false)
product_stops k.LBracket h = absurd cc
product_stops k.Star h = absurd cc
product_stops _ h = (refl, refl)

sum_stops : (kd : Kind) → term_more kd ≡ false → (sum_sign kd ≡ None) × (product_more kd ≡ false)
sum_stops k.LBracket h = absurd cc
sum_stops k.Star h = absurd cc
sum_stops k.Plus h = absurd cc
sum_stops k.Minus h = absurd cc
sum_stops _ h = (refl, refl)

product_frees : (kd : Kind) (o : Sign) → product_sign kd ≡ Some o → factor_more kd ≡ false
product_frees k.Star o h = refl
product_frees _ o h = absurd cc

sum_frees : (kd : Kind) (o : Sign) → sum_sign kd ≡ Some o → product_more kd ≡ false
sum_frees k.Plus o h = refl
sum_frees k.Minus o h = refl
sum_frees _ o h = absurd cc

-- ---- small parts

-- what is made of a value, with no word more
lawful_made : {A B : Type 0} (p : Parser A) (make : A → B) (rule : List Word → A → Type 0) (goes_on : Kind → Bool) → Lawful p rule goes_on
    → Lawful (p >>= λ x. pure (make x)) (Both rule (λ x. IsNothing (make x))) goes_on
lawful_made p make rule goes_on l = lawful_both p (λ x. pure (make x)) rule (λ x. IsNothing (make x)) goes_on goes_on l (λ x. lawful_pure (make x) goes_on)
    (λ x ws y j is e. nothing_frees (make x) goes_on ws y j is e)

lawful_in_parens : {A : Type 0} (levels : ℕ) (p : Parser A) (rule : List Word → A → Type 0) (goes_on : Kind → Bool) → goes_on k.RParen ≡ false
    → Lawful p rule goes_on
    → Lawful (opening levels k.LParen >>= λ _. (p >>= λ x. (word_in (levels - 1) k.RParen no_value >>= λ _. pure x)))
    (Opened levels (Both (IsWordOf k.LParen no_value) (λ _. Both rule (λ x. Both (IsWordOf k.RParen no_value) (λ _. IsNothing x))))) never
lawful_in_parens levels p rule goes_on ends l = lawful_opening k.LParen _ levels (p >>= λ x. (word_in (levels - 1) k.RParen no_value >>= λ _. pure x)) never
    (λ (z : k.LParen ≡ k.End). cc)
    (lawful_closed (levels - 1) k.RParen p rule goes_on (λ (z : k.RParen ≡ k.End). cc) ends l)

more_words : (kd : Kind) (front rest : List Word) → BeginsWith kd front → BeginsWith kd (front ++ rest)
more_words kd [] rest h = absurd h
more_words kd (w ∷ ws) rest h = h

-- two parts begin as the first of them
both_begins : {A B : Type 0} (kd : Kind) (first : List Word → A → Type 0) (then : A → List Word → B → Type 0) (ws : List Word) (y : B)
    → ((vs : List Word) (x : A) → first vs x → BeginsWith kd vs) → Both first then ws y → BeginsWith kd ws
both_begins kd first then ws y h b = subst (λ (vs : List Word). BeginsWith kd vs) (sym b.words) (more_words kd b.front b.rest (h b.front b.value b.is_first))

word_begins : {A : Type 0} (kd : Kind) (reads : Text → _) (ws : List Word) (x : A) → IsWordOf kd reads ws x → BeginsWith kd ws
word_begins kd reads ws x is = subst (λ (vs : List Word). BeginsWith kd vs) (sym is.words) is.is

begun : (kd : Kind) (ws : List Word) (j : Input) → BeginsWith kd ws → kind (ahead ws j) ≡ kd
unfolding peek
begun kd [] j h = absurd h
begun kd (w ∷ ws) j h = h

module _ (inside : Place → Scope → Parser Term) (below : Place → Scope → List Word → Term → Type 0) (levels : ℕ) (scope : Scope)
    (h : (place : Place) (s : Scope) → Lawful (inside place s) (below place s) (more place)) where
  lawful_extent : Lawful (index (extent_name scope) (levels - 1) index_sum) (IsIndex (extent_name scope) (levels - 1) index_sum) sum_goes_on
  lawful_extent = lawful_index (extent_name scope) (levels - 1) index_sum

  -- ---- forms that bind or guard

  lawful_loop : (kd : Kind) (make : Aff → Term → Term) → (kd ≡ k.End → ⊥)
      → Lawful (loop_of inside levels scope kd make) (IsLoop below levels scope kd make) term_more
  unfolding loop_of
  lawful_loop kd make some = lawful_opening kd _ levels _ term_more some
      (word_in_then (levels - 1) k.Name itself _ _ term_more (λ (z : k.Name ≡ k.End). cc) (λ name.
      word_in_then (levels - 1) k.Less no_value _ _ term_more (λ (z : k.Less ≡ k.End). cc) (λ _.
      lawful_before (levels - 1) k.Dot (index (extent_name scope) (levels - 1) index_sum)
      (λ n. inside Whole (index_entry name ∷ scope) >>= λ e. pure (make n e)) _
      (λ n. Both (below Whole (index_entry name ∷ scope)) (λ e. IsNothing (make n e)))
      sum_goes_on term_more (λ (z : k.Dot ≡ k.End). cc) refl lawful_extent
      (λ n. lawful_made (inside Whole (index_entry name ∷ scope)) (make n) (below Whole (index_entry name ∷ scope)) term_more
      (h Whole (index_entry name ∷ scope))))))

  lawful_guarded : Lawful (guarded inside levels scope) (IsGuard below levels scope) term_more
  unfolding guarded
  lawful_guarded = lawful_opening k.Guard _ levels _ term_more (λ (z : k.Guard ≡ k.End). cc)
      (lawful_before (levels - 1) k.Dot (condition (index_name scope) (levels - 1)) (λ c. inside Whole scope >>= λ e. pure (syntax.guard c e)) _
      (λ c. Both (below Whole scope) (λ e. IsNothing (syntax.guard c e)))
      condition_goes_on term_more (λ (z : k.Dot ≡ k.End). cc) refl (lawful_condition (index_name scope) (levels - 1))
      (λ c. lawful_made (inside Whole scope) (λ e. syntax.guard c e) (below Whole scope) term_more (h Whole scope)))

  lawful_bound : Lawful (bound inside levels scope) (IsLet below levels scope) term_more
  unfolding bound
  lawful_bound = lawful_opening k.Let _ levels _ term_more (λ (z : k.Let ≡ k.End). cc)
      (word_in_then (levels - 1) k.Name itself _ _ term_more (λ (z : k.Name ≡ k.End). cc) (λ name.
      word_in_then (levels - 1) k.Assign no_value _ _ term_more (λ (z : k.Assign ≡ k.End). cc) (λ _.
      lawful_before (levels - 1) k.In (inside Whole scope) (λ a. inside Whole (tensor_entry name ∷ scope) >>= λ e. pure (syntax.let_in a e)) _
      (λ a. Both (below Whole (tensor_entry name ∷ scope)) (λ e. IsNothing (syntax.let_in a e)))
      term_more term_more (λ (z : k.In ≡ k.End). cc) refl (h Whole scope)
      (λ a. lawful_made (inside Whole (tensor_entry name ∷ scope)) (λ e. syntax.let_in a e) (below Whole (tensor_entry name ∷ scope)) term_more
      (h Whole (tensor_entry name ∷ scope))))))

  -- ---- what stands alone

  lawful_one : (kd : Kind) (make : Term → Term) → (kd ≡ k.End → ⊥) → Lawful (of_one inside levels scope kd make) (IsOf below levels scope kd make) never
  unfolding of_one
  lawful_one kd make some = word_in_then levels kd no_value _ _ never some (λ _.
      lawful_in_parens levels (inside Whole scope >>= λ e. pure (make e)) _ term_more refl
      (lawful_made (inside Whole scope) make (below Whole scope) term_more (h Whole scope)))

  lawful_joint : Lawful (joint inside levels scope) (IsJoin below levels scope) never
  unfolding joint
  lawful_joint = word_in_then levels k.Concat no_value _ _ never (λ (z : k.Concat ≡ k.End). cc) (λ _.
      lawful_in_parens levels _ _ term_more refl
      (lawful_before (levels - 1) k.Comma (inside Whole scope) (λ a. inside Whole scope >>= λ e. pure (syntax.concat a e)) _
      (λ a. Both (below Whole scope) (λ e. IsNothing (syntax.concat a e)))
      term_more term_more (λ (z : k.Comma ≡ k.End). cc) refl (h Whole scope)
      (λ a. lawful_made (inside Whole scope) (λ e. syntax.concat a e) (below Whole scope) term_more (h Whole scope))))

  lawful_cut : Lawful (cut inside levels scope) (IsSplit below levels scope) never
  unfolding cut
  lawful_cut = word_in_then levels k.Split no_value _ _ never (λ (z : k.Split ≡ k.End). cc) (λ _.
      lawful_in_parens levels _ _ term_more refl
      (word_in_then (levels - 1) k.Number tile_value _ _ term_more (λ (z : k.Number ≡ k.End). cc) (λ d.
      word_in_then (levels - 1) k.Comma no_value _ _ term_more (λ (z : k.Comma ≡ k.End). cc) (λ _.
      lawful_made (inside Whole scope) (λ e. syntax.split d e) (below Whole scope) term_more (h Whole scope)))))

  lawful_trimmed : (kd : Kind) (make : Aff → Term → Term) → (kd ≡ k.End → ⊥)
      → Lawful (trimmed inside levels scope kd make) (IsTrim below levels scope kd make) never
  unfolding trimmed
  lawful_trimmed kd make some = word_in_then levels kd no_value _ _ never some (λ _.
      lawful_in_parens levels _ _ term_more refl
      (lawful_before (levels - 1) k.Comma (index (extent_name scope) (levels - 1) index_sum) (λ n. inside Whole scope >>= λ e. pure (make n e)) _
      (λ n. Both (below Whole scope) (λ e. IsNothing (make n e)))
      sum_goes_on term_more (λ (z : k.Comma ≡ k.End). cc) refl lawful_extent
      (λ n. lawful_made (inside Whole scope) (make n) (below Whole scope) term_more (h Whole scope))))

  lawful_word_form : Lawful (word_form inside levels scope) (IsWordForm below levels scope) never
  unfolding word_form
  lawful_word_form = word_in_then levels k.Word no_value _ _ never (λ (z : k.Word ≡ k.End). cc) (λ _.
      lawful_in_parens levels (index (index_name scope) (levels - 1) index_sum >>= λ x. pure (WordOf x)) _ sum_goes_on refl
      (lawful_made (index (index_name scope) (levels - 1) index_sum) (λ x. WordOf x) (IsIndex (index_name scope) (levels - 1) index_sum) sum_goes_on
      (lawful_index (index_name scope) (levels - 1) index_sum)))

  by_kind : (kd : Kind) → Lawful (primary_by inside levels scope kd) (IsPrimaryBy below levels scope kd) never
  by_kind k.Number = lawful_made (word_in levels k.Number word_value) (λ w. Lit w) (IsWordOf k.Number word_value) never
      (lawful_word_in levels k.Number word_value (λ (z : k.Number ≡ k.End). cc))
  by_kind k.Name = lawful_made (word_in levels k.Name (tensor_name scope)) (λ q. TVar q) (IsWordOf k.Name (tensor_name scope)) never
      (lawful_word_in levels k.Name (tensor_name scope) (λ (z : k.Name ≡ k.End). cc))
  by_kind k.LParen = lawful_in_parens levels (inside Whole scope) (below Whole scope) term_more refl (h Whole scope)
  by_kind k.Flatten = lawful_one k.Flatten syntax.flatten (λ (z : k.Flatten ≡ k.End). cc)
  by_kind k.Transpose = lawful_one k.Transpose syntax.transpose (λ (z : k.Transpose ≡ k.End). cc)
  by_kind k.Concat = lawful_joint
  by_kind k.Split = lawful_cut
  by_kind k.TruncL = lawful_trimmed k.TruncL syntax.trunc_l (λ (z : k.TruncL ≡ k.End). cc)
  by_kind k.TruncR = lawful_trimmed k.TruncR syntax.trunc_r (λ (z : k.TruncR ≡ k.End). cc)
  by_kind k.PadL = lawful_trimmed k.PadL syntax.pad_l (λ (z : k.PadL ≡ k.End). cc)
  by_kind k.PadR = lawful_trimmed k.PadR syntax.pad_r (λ (z : k.PadR ≡ k.End). cc)
  by_kind k.Word = lawful_word_form
  by_kind _ = lawful_unexpected_in levels never

  primary_begins : (kd : Kind) (ws : List Word) (x : Term) → IsPrimaryBy below levels scope kd ws x → BeginsWith kd ws
  primary_begins k.Number ws x is = both_begins k.Number _ _ ws x (word_begins k.Number word_value) is
  primary_begins k.Name ws x is = both_begins k.Name _ _ ws x (word_begins k.Name (tensor_name scope)) is
  primary_begins k.LParen ws x is = both_begins k.LParen _ _ ws x (word_begins k.LParen no_value) is.1
  primary_begins k.Flatten ws x is = both_begins k.Flatten _ _ ws x (word_begins k.Flatten no_value) is
  primary_begins k.Transpose ws x is = both_begins k.Transpose _ _ ws x (word_begins k.Transpose no_value) is
  primary_begins k.Concat ws x is = both_begins k.Concat _ _ ws x (word_begins k.Concat no_value) is
  primary_begins k.Split ws x is = both_begins k.Split _ _ ws x (word_begins k.Split no_value) is
  primary_begins k.TruncL ws x is = both_begins k.TruncL _ _ ws x (word_begins k.TruncL no_value) is
  primary_begins k.TruncR ws x is = both_begins k.TruncR _ _ ws x (word_begins k.TruncR no_value) is
  primary_begins k.PadL ws x is = both_begins k.PadL _ _ ws x (word_begins k.PadL no_value) is
  primary_begins k.PadR ws x is = both_begins k.PadR _ _ ws x (word_begins k.PadR no_value) is
  primary_begins k.Word ws x is = both_begins k.Word _ _ ws x (word_begins k.Word no_value) is
  primary_begins _ ws x is = absurd is

  lawful_primary : Lawful (primary inside levels scope) (OneOf (IsPrimaryBy below levels scope)) never
  unfolding primary
  lawful_primary = lawful_choice (primary_by inside levels scope) (IsPrimaryBy below levels scope) never by_kind
      (λ kd ws x j is. begun kd ws j (primary_begins kd ws x is))

  -- ---- chains

  lawful_in_brackets : (n : ℕ) → Lawful (in_brackets inside levels scope n) (IsInBrackets below levels scope n) never
  lawful_in_brackets n = lawful_closed n k.RBracket (index (index_name scope) n index_sum) (IsIndex (index_name scope) n index_sum) sum_goes_on
      (λ (z : k.RBracket ≡ k.End). cc) refl (lawful_index (index_name scope) n index_sum)

  lawful_brackets : (x : Term)
      → Lawful (chain brackets (λ n a o. in_brackets inside levels scope n) levels x) (IsChain brackets (λ n a o. IsInBrackets below levels scope n) levels x)
      factor_more
  unfolding brackets
  lawful_brackets x = lawful_chain brackets (λ n a o. in_brackets inside levels scope n) (λ n a o. IsInBrackets below levels scope n) never factor_more
      bracket_no_end (λ kd o e. refl) bracket_stops (λ o a b fault e. absurd cc) (λ n a o. lawful_in_brackets n) levels x

  lawful_factor : Lawful (factor inside levels scope) (IsFactor below levels scope) factor_more
  unfolding factor
  lawful_factor = lawful_both (primary inside levels scope) (λ x. chain brackets (λ n a o. in_brackets inside levels scope n) levels x)
      (OneOf (IsPrimaryBy below levels scope)) _ never factor_more
      lawful_primary lawful_brackets (λ x ws y j is e. refl)

  lawful_products : (x : Term)
      → Lawful (chain (products levels) (λ n a o. inside Factor scope) max_chain x) (IsChain (products levels) (λ n a o. below Factor scope) max_chain x)
      product_more
  unfolding products
  lawful_products x = lawful_chain (products levels) (λ n a o. inside Factor scope) (λ n a o. below Factor scope) factor_more product_more product_no_end
      product_frees product_stops (λ o a b fault e. absurd cc) (λ n a o. h Factor scope) max_chain x

  products_free : (x : Term) (ws : List Word) (y : Term) (j : Input) → IsChain (products levels) (λ n a o. below Factor scope) max_chain x ws y
      → product_more (kind j) ≡ false → factor_more (kind (ahead ws j)) ≡ false
  unfolding products
  products_free x ws y j is e = rest_frees (products levels) (λ n a o. inside Factor scope) (λ n a o. below Factor scope) factor_more product_more
      product_no_end product_frees product_stops (λ o a b fault e. absurd cc) (λ n a o. h Factor scope) max_chain x ws y j is e

  lawful_product : Lawful (product inside levels scope) (IsProduct below levels scope) product_more
  unfolding product
  lawful_product = lawful_both (factor inside levels scope) (λ x. chain (products levels) (λ n a o. inside Factor scope) max_chain x)
      (IsFactor below levels scope) _ factor_more product_more
      lawful_factor lawful_products products_free

  lawful_sums : (x : Term)
      → Lawful (chain (sums levels) (λ n a o. inside Product scope) max_chain x) (IsChain (sums levels) (λ n a o. below Product scope) max_chain x) term_more
  unfolding sums
  lawful_sums x = lawful_chain (sums levels) (λ n a o. inside Product scope) (λ n a o. below Product scope) product_more term_more sum_no_end sum_frees
      sum_stops (λ o a b fault e. absurd cc) (λ n a o. h Product scope) max_chain x

  sums_free : (x : Term) (ws : List Word) (y : Term) (j : Input) → IsChain (sums levels) (λ n a o. below Product scope) max_chain x ws y
      → term_more (kind j) ≡ false → product_more (kind (ahead ws j)) ≡ false
  unfolding sums
  sums_free x ws y j is e = rest_frees (sums levels) (λ n a o. inside Product scope) (λ n a o. below Product scope) product_more term_more sum_no_end sum_frees
      sum_stops (λ o a b fault e. absurd cc) (λ n a o. h Product scope) max_chain x ws y j is e

  lawful_total : Lawful (total inside levels scope) (IsSum below levels scope) term_more
  unfolding total
  lawful_total = lawful_both (product inside levels scope) (λ x. chain (sums levels) (λ n a o. inside Product scope) max_chain x) (IsProduct below levels scope)
      _ product_more term_more
      lawful_product lawful_sums sums_free

  -- ---- any term

  -- the rule of a term by its first word
  abbrev WholeBy : Kind → List Word → Term → Type 0
  WholeBy k.Gen = IsBinderBy below levels scope k.Gen
  WholeBy k.Sum = IsBinderBy below levels scope k.Sum
  WholeBy k.Guard = IsBinderBy below levels scope k.Guard
  WholeBy k.Let = IsBinderBy below levels scope k.Let
  WholeBy kd = Starting kd (IsSum below levels scope)

  not_nothing : (kd : Kind) (ws : List Word) → BeginsWith kd ws → ws ≡ [] → ⊥
  not_nothing kd [] b e = absurd b
  not_nothing kd (w ∷ ws) b e = cc

  factor_begins : (kd : Kind) (ws : List Word) (x : Term) (b : IsFactor below levels scope ws x) → b.is_first.0 ≡ kd → BeginsWith kd ws
  factor_begins kd ws x b e = subst (λ (vs : List Word). BeginsWith kd vs) (sym b.words)
      (more_words kd b.front b.rest (subst (λ (a : Kind). BeginsWith a b.front) e (primary_begins b.is_first.0 b.front b.value b.is_first.1)))

  -- the primary that a sum begins with
  abbrev first_kind : {ws : List Word} {x : Term} → IsSum below levels scope ws x → Kind
  first_kind b = b.is_first.is_first.is_first.0

  sum_begins : (ws : List Word) (x : Term) (b : IsSum below levels scope ws x) → BeginsWith (first_kind b) ws
  sum_begins ws x b =
      let kd = first_kind b in
      let p = b.is_first in
      let f = factor_begins kd p.front p.value p.is_first refl in
      let q = subst (λ (vs : List Word). BeginsWith kd vs) (sym p.words) (more_words kd p.front p.rest f) in
      subst (λ (vs : List Word). BeginsWith kd vs) (sym b.words) (more_words kd b.front b.rest q)

  sum_some : (ws : List Word) (x : Term) → IsSum below levels scope ws x → ws ≡ [] → ⊥
  sum_some ws x b = not_nothing (first_kind b) ws (sum_begins ws x b)

  at_sum : (kd : Kind) → LawfulAt kd (total inside levels scope) (Starting kd (IsSum below levels scope)) term_more
  at_sum kd = at_kind kd (total inside levels scope) (IsSum below levels scope) term_more sum_some lawful_total

  at_whole : (kd : Kind) → LawfulAt kd (whole_by inside levels scope kd) (WholeBy kd) term_more
  at_whole k.Gen = at_first k.Gen _ _ term_more (λ ws x j is. both_starts k.Gen no_value _ ws x j is.1)
      (lawful_loop k.Gen syntax.gen (λ (z : k.Gen ≡ k.End). cc))
  at_whole k.Sum = at_first k.Sum _ _ term_more (λ ws x j is. both_starts k.Sum no_value _ ws x j is.1)
      (lawful_loop k.Sum syntax.sum (λ (z : k.Sum ≡ k.End). cc))
  at_whole k.Guard = at_first k.Guard _ _ term_more (λ ws x j is. both_starts k.Guard no_value _ ws x j is.1) lawful_guarded
  at_whole k.Let = at_first k.Let _ _ term_more (λ ws x j is. both_starts k.Let no_value _ ws x j is.1) lawful_bound
  at_whole kd = at_sum kd

  to_whole_by : (kd : Kind) (ws : List Word) (x : Term) → WholeBy kd ws x → IsWhole below levels scope ws x
  to_whole_by k.Gen ws x is = inl (k.Gen, is)
  to_whole_by k.Sum ws x is = inl (k.Sum, is)
  to_whole_by k.Guard ws x is = inl (k.Guard, is)
  to_whole_by k.Let ws x is = inl (k.Let, is)
  to_whole_by kd ws x is = inr is.0

  from_binder : (kd : Kind) (ws : List Word) (x : Term) → IsBinderBy below levels scope kd ws x → OneOf WholeBy ws x
  from_binder k.Gen ws x is = (k.Gen, is)
  from_binder k.Sum ws x is = (k.Sum, is)
  from_binder k.Guard ws x is = (k.Guard, is)
  from_binder k.Let ws x is = (k.Let, is)
  from_binder _ ws x is = absurd is

  from_sum : (kd : Kind) (vs ws : List Word) (y x : Term) → IsPrimaryBy below levels scope kd vs y → IsSum below levels scope ws x → BeginsWith kd ws
      → OneOf WholeBy ws x
  from_sum k.Number vs ws y x p is b = (k.Number, (is, b))
  from_sum k.Name vs ws y x p is b = (k.Name, (is, b))
  from_sum k.LParen vs ws y x p is b = (k.LParen, (is, b))
  from_sum k.Flatten vs ws y x p is b = (k.Flatten, (is, b))
  from_sum k.Transpose vs ws y x p is b = (k.Transpose, (is, b))
  from_sum k.Concat vs ws y x p is b = (k.Concat, (is, b))
  from_sum k.Split vs ws y x p is b = (k.Split, (is, b))
  from_sum k.TruncL vs ws y x p is b = (k.TruncL, (is, b))
  from_sum k.TruncR vs ws y x p is b = (k.TruncR, (is, b))
  from_sum k.PadL vs ws y x p is b = (k.PadL, (is, b))
  from_sum k.PadR vs ws y x p is b = (k.PadR, (is, b))
  from_sum k.Word vs ws y x p is b = (k.Word, (is, b))
  from_sum _ vs ws y x p is b = absurd p

  from_whole : (ws : List Word) (x : Term) → IsWhole below levels scope ws x → OneOf WholeBy ws x
  from_whole ws x (inl is) = from_binder is.0 ws x is.1
  from_whole ws x (inr is) = from_sum (first_kind is) is.is_first.is_first.front ws is.is_first.is_first.value x is.is_first.is_first.is_first.1 is
      (sum_begins ws x is)

  lawful_whole : Lawful (whole inside levels scope) (IsWhole below levels scope) term_more
  unfolding whole
  lawful_whole = lawful_as (λ i. whole_by inside levels scope (kind i) i) (OneOf WholeBy) (IsWhole below levels scope) term_more
      (λ ws x is. to_whole_by is.0 ws x is.1) from_whole
      (lawful_choice_at (whole_by inside levels scope) WholeBy term_more at_whole)

  lawful_place : (place : Place) → Lawful (by_place inside levels scope place) (IsByPlace below levels scope place) (more place)
  lawful_place Whole = lawful_whole
  lawful_place Sum = lawful_total
  lawful_place Product = lawful_product
  lawful_place Factor = lawful_factor

pub lawful_inner : (levels : ℕ) (place : Place) (scope : Scope) → Lawful (inner levels place scope) (IsInner levels place scope) (more place)
unfolding inner
lawful_inner zero place scope = lawful_unexpected (more place)
lawful_inner (suc levels) place scope = lawful_place (inner levels) (IsInner levels) levels scope (lawful_inner levels) place

pub lawful_term : (levels : ℕ) (place : Place) (scope : Scope) → Lawful (term levels place scope) (IsTerm levels place scope) (more place)
lawful_term levels place scope = lawful_place (inner levels) (IsInner levels) levels scope (lawful_inner levels) place
