-- The words before the word of a term's fault are the beginning of a term, with one more level allowed.
use Rattle.std.proofs.Common.{◌≡◌, inl, inr, ℕ, zero, suc, ◌-◌, ◌<◌, ◌≤◌, ◌∷◌, cond, List, [], Some, Result, Ok, refl, arith}
use Rattle.text_tokens.specs.declared.kind.Kind.{Kind}
use Rattle.text_tokens.specs.declared.kind.Kind.TheVariants as k
use Rattle.text_tokens.specs.Kinds.{Text, same_kind}
use Rattle.text_tokens.specs.Numbers.{number, value_from}
use Rattle.text_tokens.specs.Words.{Word}
use Rattle.affine_index.specs.declared.aff.Aff.{Aff}
use Rattle.affine_index.specs.declared.form.Items.{Items}
use Rattle.term_tree.specs.declared.term.Term.{Term, Lit, TVar, WordOf}
use Rattle.term_tree.specs.Syntax as syntax
use Rattle.reader_laws.specs.declared.fault.Fault.{Fault}
use Rattle.reader_laws.specs.Steps.{Parser, ◌>>=◌, pure, kind, itself, no_value}
use Rattle.reader_laws.specs.Chain.{Links, chain}
use Rattle.reader_laws.specs.Grammar.{IsWordOf, IsNothing, OneOf, Both, IsChain}
use Rattle.reader_laws.specs.Levels.{word_in}
use Rattle.source_grammar.specs.Scope.{Scope, extent_name, index_name, tensor_name}
use Rattle.source_grammar.specs.Index.{IsIndex}
use Rattle.source_grammar.specs.Index.{Sum as index_sum}
use Rattle.source_grammar.specs.ReadIndex.{index}
use Rattle.source_grammar.specs.Conditions.{IsCondition}
use Rattle.source_grammar.specs.ReadConditions.{condition}
use Rattle.source_grammar.specs.Terms.{Place, Whole, Sum, Product, Factor, word_value, tile_value, sum_sign, product_sign, bracket, sums, products, brackets}
use Rattle.source_grammar.specs.Terms.{max_chain, index_entry, tensor_entry, IsExtent, IsLoop, IsGuard, IsLet, IsBinderBy, IsOf, IsJoin, IsSplit, IsTrim}
use Rattle.source_grammar.specs.Terms.{IsWordForm, IsPrimaryBy, IsInBrackets, IsFactor, IsProduct, IsSum, IsWhole, IsByPlace, IsInner, IsTerm}
use Rattle.source_grammar.specs.ReadTerms.{loop_of, guarded, bound, of_one, joint, cut, trimmed, word_form, primary_by, primary, in_brackets, factor, product}
use Rattle.source_grammar.specs.ReadTerms.{total, whole_by, whole, by_place, inner, term}
use Rattle.source_grammar.proofs.IndexLaws.{lawful_index}
use Rattle.source_grammar.proofs.NormalForms.{Normal}
use Rattle.first_fault.specs.First.{Continues, Any}
use Rattle.first_fault.proofs.IndexBegins.{Zero, begins_index, zero_index}
use Rattle.first_fault.proofs.ConditionBegins.{part_condition}
use Rattle.first_fault.proofs.Named.{index_named, extent_named}
use Rattle.first_fault.proofs.Parts.{Part, part_of, part_as, part_pure, part_nowhere, part_both, part_made, part_word, part_after, part_opening, part_parens}
use Rattle.first_fault.proofs.Parts.{part_chain}
use Rattle.first_fault.proofs.Parts.{no_links, part_named, some_both, some_word}
use Rattle.first_fault.proofs.BeginLaws.{cut_here}
use Rattle.reader_laws.specs.Steps.{misplaced}
use Rattle.reader_laws.specs.declared.fault.Fault.TheVariants.{BadToken, BadSyntax}
use Rattle.first_fault.proofs.Wider.{Wider, wider_index, wider_condition}

abbrev Sign : Type 0
Sign = Term → Term → Term

reads_zero : word_value (48 ∷ []) ≡ Ok 0
unfolding number value_from
reads_zero = refl

reads_tile : tile_value (49 ∷ []) ≡ Ok 1
unfolding number value_from
reads_tile = refl

-- ---- operators

bracket_no_end : (kd : Kind) (o : Unit {0}) → bracket kd ≡ Some o → kd ≡ k.End → ⊥
bracket_no_end k.End o h is = cc
bracket_no_end _ o h is = cc

product_no_end : (kd : Kind) (o : Sign) → product_sign kd ≡ Some o → kd ≡ k.End → ⊥
product_no_end k.End o h is = cc
product_no_end _ o h is = cc

sum_no_end : (kd : Kind) (o : Sign) → sum_sign kd ≡ Some o → kd ≡ k.End → ⊥
sum_no_end k.End o h is = cc
sum_no_end _ o h is = cc

-- ---- an index, extent or condition within a term

pub part_index : (names : Text → Result Items Fault) (named : (t : Text) (x : Items) → names t ≡ Ok x → Normal x) (n m : ℕ) → n ≤ m
    → Part (index names n index_sum) (IsIndex names m index_sum)
part_index names named n m more = part_of (index names n index_sum) (IsIndex names n index_sum) (IsIndex names m index_sum) Zero
    (lawful_index names n index_sum).sound (begins_index names named n index_sum) (zero_index names named n index_sum) (wider_index names n m more index_sum)

one_below : (levels : ℕ) → levels - 1 ≤ suc levels - 1
one_below levels = omega arith

-- where one pair of brackets more may come
one_later : {A B O : Type 0} (links : Links A B O) (roomy : (n : ℕ) → 0 < links.room n) (operands : ℕ → A → O → List Word → B → Type 0) (n : ℕ) (left : A)
    → Wider (IsChain links (λ m. operands (suc m)) n left) (IsChain links operands (suc n) left)
one_later links roomy operands zero left ws x is = inl is
one_later links roomy operands (suc n) left ws x (inl is) = inl is
one_later links roomy operands (suc n) left ws x (inr is) = inr (record {
  word = is.word;
  front = is.front;
  rest = is.rest;
  sign = is.sign;
  right = is.right;
  value = is.value;
  words = is.words;
  is = is.is;
  room = roomy (suc n);
  is_operand = is.is_operand;
  joins = is.joins;
  is_rest = one_later links roomy operands n is.value is.rest x is.is_rest;
})

module _ (inside : Place → Scope → Parser Term) (below : Place → Scope → List Word → Term → Type 0) (levels : ℕ) (scope : Scope)
    (h : (place : Place) (s : Scope) → Part (inside place s) (below place s)) where
  part_extent : Part (index (extent_name scope) (levels - 1) index_sum) (IsExtent below (suc levels) scope)
  part_extent = part_index (extent_name scope) (extent_named scope) (levels - 1) (suc levels - 1) (one_below levels)

  part_form : Part (index (index_name scope) (levels - 1) index_sum) (IsIndex (index_name scope) (suc levels - 1) index_sum)
  part_form = part_index (index_name scope) (index_named scope) (levels - 1) (suc levels - 1) (one_below levels)

  -- a term, and what is made of it
  made_of : (s : Scope) (make : Term → Term) → Part (inside Whole s >>= λ e. pure (make e)) (Both (below Whole s) (λ e. IsNothing (make e)))
  made_of s make = part_made (inside Whole s) make (below Whole s) (h Whole s)

  -- ---- forms that bind or guard

  part_loop : (kd : Kind) (make : Aff → Term → Term) → (kd ≡ k.End → ⊥) → Part (loop_of inside levels scope kd make) (IsLoop below (suc levels) scope kd make)
  unfolding loop_of
  part_loop kd make not_end = part_opening levels kd _ _ not_end
      (part_both (word_in (levels - 1) k.Name itself) _ (IsWordOf k.Name itself) _
      (part_word (levels - 1) k.Name itself [] [] (λ (z : k.Name ≡ k.End). cc) refl) (λ name.
      part_after (levels - 1) k.Less _ _ (λ (z : k.Less ≡ k.End). cc)
      (part_both (index (extent_name scope) (levels - 1) index_sum) _ (IsExtent below (suc levels) scope) _ part_extent (λ n.
      part_after (levels - 1) k.Dot _ _ (λ (z : k.Dot ≡ k.End). cc) (made_of (index_entry name ∷ scope) (make n))))))

  part_guarded : Part (guarded inside levels scope) (IsGuard below (suc levels) scope)
  unfolding guarded
  part_guarded = part_opening levels k.Guard _ _ (λ (z : k.Guard ≡ k.End). cc)
      (part_both (condition (index_name scope) (levels - 1)) _ (IsCondition (index_name scope) (suc levels - 1)) _
      (part_as (condition (index_name scope) (levels - 1)) (IsCondition (index_name scope) (levels - 1)) (IsCondition (index_name scope) (suc levels - 1))
      (part_condition (index_name scope) (index_named scope) (levels - 1))
      (wider_condition (index_name scope) (levels - 1) (suc levels - 1) (one_below levels)))
      (λ c. part_after (levels - 1) k.Dot _ _ (λ (z : k.Dot ≡ k.End). cc) (made_of scope (syntax.guard c))))

  part_bound : Part (bound inside levels scope) (IsLet below (suc levels) scope)
  unfolding bound
  part_bound = part_opening levels k.Let _ _ (λ (z : k.Let ≡ k.End). cc)
      (part_both (word_in (levels - 1) k.Name itself) _ (IsWordOf k.Name itself) _
      (part_word (levels - 1) k.Name itself [] [] (λ (z : k.Name ≡ k.End). cc) refl) (λ name.
      part_after (levels - 1) k.Assign _ _ (λ (z : k.Assign ≡ k.End). cc)
      (part_both (inside Whole scope) _ (below Whole scope) _ (h Whole scope) (λ a.
      part_after (levels - 1) k.In _ _ (λ (z : k.In ≡ k.End). cc) (made_of (tensor_entry name ∷ scope) (syntax.let_in a))))))

  -- ---- what stands alone

  part_one : (kd : Kind) (make : Term → Term) → (kd ≡ k.End → ⊥) → Part (of_one inside levels scope kd make) (IsOf below (suc levels) scope kd make)
  unfolding of_one
  part_one kd make not_end = part_after levels kd _ _ not_end (part_parens levels (levels - 1) _ _ (made_of scope make))

  part_joint : Part (joint inside levels scope) (IsJoin below (suc levels) scope)
  unfolding joint
  part_joint = part_after levels k.Concat _ _ (λ (z : k.Concat ≡ k.End). cc) (part_parens levels (levels - 1) _ _
      (part_both (inside Whole scope) _ (below Whole scope) _ (h Whole scope) (λ a.
      part_after (levels - 1) k.Comma _ _ (λ (z : k.Comma ≡ k.End). cc) (made_of scope (syntax.concat a)))))

  part_cut : Part (cut inside levels scope) (IsSplit below (suc levels) scope)
  unfolding cut
  part_cut = part_after levels k.Split _ _ (λ (z : k.Split ≡ k.End). cc) (part_parens levels (levels - 1) _ _
      (part_both (word_in (levels - 1) k.Number tile_value) _ (IsWordOf k.Number tile_value) _
      (part_word (levels - 1) k.Number tile_value (49 ∷ []) 1 (λ (z : k.Number ≡ k.End). cc) reads_tile) (λ d.
      part_after (levels - 1) k.Comma _ _ (λ (z : k.Comma ≡ k.End). cc) (made_of scope (syntax.split d)))))

  part_trimmed : (kd : Kind) (make : Aff → Term → Term) → (kd ≡ k.End → ⊥)
      → Part (trimmed inside levels scope kd make) (IsTrim below (suc levels) scope kd make)
  unfolding trimmed
  part_trimmed kd make not_end = part_after levels kd _ _ not_end (part_parens levels (levels - 1) _ _
      (part_both (index (extent_name scope) (levels - 1) index_sum) _ (IsExtent below (suc levels) scope) _ part_extent (λ n.
      part_after (levels - 1) k.Comma _ _ (λ (z : k.Comma ≡ k.End). cc) (made_of scope (make n)))))

  part_word_form : Part (word_form inside levels scope) (IsWordForm below (suc levels) scope)
  unfolding word_form
  part_word_form = part_after levels k.Word _ _ (λ (z : k.Word ≡ k.End). cc) (part_parens levels (levels - 1) _ _
      (part_made (index (index_name scope) (levels - 1) index_sum) (λ x. WordOf x) (IsIndex (index_name scope) (suc levels - 1) index_sum) part_form))

  part_number : Part (primary_by inside levels scope k.Number) (IsPrimaryBy below (suc levels) scope k.Number)
  part_number = part_made (word_in levels k.Number word_value) (λ w. Lit w) (IsWordOf k.Number word_value)
      (part_word levels k.Number word_value (48 ∷ []) 0 (λ (z : k.Number ≡ k.End). cc) reads_zero)

  abbrev IsPrimary : List Word → Term → Type 0
  IsPrimary = OneOf (IsPrimaryBy below (suc levels) scope)

  -- a form alone is a primary
  chosen : (kd : Kind) → Part (primary_by inside levels scope kd) (IsPrimaryBy below (suc levels) scope kd) → Part (primary_by inside levels scope kd) IsPrimary
  chosen kd l = part_as (primary_by inside levels scope kd) (IsPrimaryBy below (suc levels) scope kd) IsPrimary l (λ ws x is. (kd, is))

  number_chosen : Part (primary_by inside levels scope k.Number) IsPrimary
  number_chosen = chosen k.Number part_number

  -- the name of a tensor, which a number may replace
  part_name : Part (primary_by inside levels scope k.Name) IsPrimary
  part_name = part_named levels (tensor_name scope) (λ q. TVar q) IsPrimary (λ ws x is. (k.Name, is)) number_chosen.some

  by_kind : (kd : Kind) → Part (primary_by inside levels scope kd) IsPrimary
  by_kind k.Number = number_chosen
  by_kind k.Name = part_name
  by_kind k.LParen = chosen k.LParen (part_parens levels (levels - 1) (inside Whole scope) (below Whole scope) (h Whole scope))
  by_kind k.Flatten = chosen k.Flatten (part_one k.Flatten syntax.flatten (λ (z : k.Flatten ≡ k.End). cc))
  by_kind k.Transpose = chosen k.Transpose (part_one k.Transpose syntax.transpose (λ (z : k.Transpose ≡ k.End). cc))
  by_kind k.Concat = chosen k.Concat part_joint
  by_kind k.Split = chosen k.Split part_cut
  by_kind k.TruncL = chosen k.TruncL (part_trimmed k.TruncL syntax.trunc_l (λ (z : k.TruncL ≡ k.End). cc))
  by_kind k.TruncR = chosen k.TruncR (part_trimmed k.TruncR syntax.trunc_r (λ (z : k.TruncR ≡ k.End). cc))
  by_kind k.PadL = chosen k.PadL (part_trimmed k.PadL syntax.pad_l (λ (z : k.PadL ≡ k.End). cc))
  by_kind k.PadR = chosen k.PadR (part_trimmed k.PadR syntax.pad_r (λ (z : k.PadR ≡ k.End). cc))
  by_kind k.Word = chosen k.Word part_word_form
  by_kind _ = part_nowhere levels IsPrimary number_chosen.some

  part_primary : Part (primary inside levels scope) IsPrimary
  unfolding primary
  part_primary = record {
    sound = λ i j x e. (by_kind (kind i)).sound i j x e;
    begins = λ i fault place e. (by_kind (kind i)).begins i fault place e;
    some = number_chosen.some;
  }

  -- ---- chains

  part_in_brackets : (n : ℕ) → Part (in_brackets inside levels scope n) (IsInBrackets below (suc levels) scope (suc n))
  part_in_brackets n = part_both (index (index_name scope) n index_sum) (λ x. word_in n k.RBracket no_value >>= λ _. pure x)
      (IsIndex (index_name scope) (suc n) index_sum) _ (part_index (index_name scope) (index_named scope) n (suc n) (omega arith))
      (λ x. part_after n k.RBracket (pure x) (IsNothing x) (λ (z : k.RBracket ≡ k.End). cc) (part_pure x))

  part_brackets : (x : Term)
      → Part (chain brackets (λ n a o. in_brackets inside levels scope n) levels x)
      (IsChain brackets (λ n a o. IsInBrackets below (suc levels) scope n) (suc levels) x)
  unfolding brackets
  part_brackets x = part_as (chain brackets (λ n a o. in_brackets inside levels scope n) levels x)
      (IsChain brackets (λ n a o. IsInBrackets below (suc levels) scope (suc n)) levels x)
      (IsChain brackets (λ n a o. IsInBrackets below (suc levels) scope n) (suc levels) x)
      (part_chain brackets (λ n. suc n) (λ n a o. in_brackets inside levels scope n) (λ n a o. IsInBrackets below (suc levels) scope (suc n)) bracket_no_end
      (λ n. omega arith) (λ o a b. (syntax.index a b, refl)) (λ n a o. part_in_brackets n) levels x)
      (one_later brackets (λ n. omega arith) (λ n a o. IsInBrackets below (suc levels) scope n) levels x)

  part_factor : Part (factor inside levels scope) (IsFactor below (suc levels) scope)
  unfolding factor
  part_factor = part_both (primary inside levels scope) (λ x. chain brackets (λ n a o. in_brackets inside levels scope n) levels x) IsPrimary _
      part_primary part_brackets

  part_products : (x : Term)
      → Part (chain (products levels) (λ n a o. inside Factor scope) max_chain x) (IsChain (products (suc levels)) (λ n a o. below Factor scope) max_chain x)
  unfolding products
  part_products x = part_chain (products levels) (λ n. suc levels) (λ n a o. inside Factor scope) (λ n a o. below Factor scope) product_no_end
      (λ n. omega arith)
      (λ o a b. (o a b, refl)) (λ n a o. h Factor scope) max_chain x

  part_product : Part (product inside levels scope) (IsProduct below (suc levels) scope)
  unfolding product
  part_product = part_both (factor inside levels scope) (λ x. chain (products levels) (λ n a o. inside Factor scope) max_chain x)
      (IsFactor below (suc levels) scope) _ part_factor part_products

  part_sums : (x : Term)
      → Part (chain (sums levels) (λ n a o. inside Product scope) max_chain x) (IsChain (sums (suc levels)) (λ n a o. below Product scope) max_chain x)
  unfolding sums
  part_sums x = part_chain (sums levels) (λ n. suc levels) (λ n a o. inside Product scope) (λ n a o. below Product scope) sum_no_end (λ n. omega arith)
      (λ o a b. (o a b, refl)) (λ n a o. h Product scope) max_chain x

  part_total : Part (total inside levels scope) (IsSum below (suc levels) scope)
  unfolding total
  part_total = part_both (product inside levels scope) (λ x. chain (sums levels) (λ n a o. inside Product scope) max_chain x)
      (IsProduct below (suc levels) scope) _ part_product part_sums

  -- ---- any term

  abbrev Any_whole : List Word → Term → Type 0
  Any_whole = IsWhole below (suc levels) scope

  binder : (kd : Kind) (p : Parser Term) → Part p (IsBinderBy below (suc levels) scope kd) → Part p Any_whole
  binder kd p l = part_as p (IsBinderBy below (suc levels) scope kd) Any_whole l (λ ws x is. inl (kd, is))

  chained : Part (total inside levels scope) Any_whole
  chained = part_as (total inside levels scope) (IsSum below (suc levels) scope) Any_whole part_total (λ ws x is. inr is)

  whole_kind : (kd : Kind) → Part (whole_by inside levels scope kd) Any_whole
  whole_kind k.Gen = binder k.Gen (loop_of inside levels scope k.Gen syntax.gen) (part_loop k.Gen syntax.gen (λ (z : k.Gen ≡ k.End). cc))
  whole_kind k.Sum = binder k.Sum (loop_of inside levels scope k.Sum syntax.sum) (part_loop k.Sum syntax.sum (λ (z : k.Sum ≡ k.End). cc))
  whole_kind k.Guard = binder k.Guard (guarded inside levels scope) part_guarded
  whole_kind k.Let = binder k.Let (bound inside levels scope) part_bound
  whole_kind _ = chained

  part_whole : Part (whole inside levels scope) Any_whole
  unfolding whole
  part_whole = record {
    sound = λ i j x e. (whole_kind (kind i)).sound i j x e;
    begins = λ i fault place e. (whole_kind (kind i)).begins i fault place e;
    some = chained.some;
  }

  part_place : (place : Place) → Part (by_place inside levels scope place) (IsByPlace below (suc levels) scope place)
  part_place Whole = part_whole
  part_place Sum = part_total
  part_place Product = part_product
  part_place Factor = part_factor

-- ---- all levels

-- a number stands wherever a term does
module _ (below : Place → Scope → List Word → Term → Type 0) (levels : ℕ) (scope : Scope) where
  some_primary : Continues (OneOf (IsPrimaryBy below levels scope)) Any []
  some_primary = let c = some_both (IsWordOf k.Number word_value) (λ w. IsNothing (Lit w)) (some_word k.Number word_value (48 ∷ []) 0 reads_zero) (λ w.
      record { rest = []; value = Lit w; is = (refl, refl); has = tt }) in
      record { rest = c.rest; value = c.value; is = (k.Number, c.is); has = tt }

  ended : {A O : Type 0} (links : Links Term A O) (operands : ℕ → Term → O → List Word → A → Type 0) (n : ℕ) (x : Term)
      → Continues (IsChain links operands n x) Any []
  ended links operands n x = record { rest = []; value = x; is = no_links links operands n x; has = tt }

  some_factor : Continues (IsFactor below levels scope) Any []
  some_factor = some_both (OneOf (IsPrimaryBy below levels scope)) _ some_primary (ended brackets (λ n a o. IsInBrackets below levels scope n) levels)

  some_product : Continues (IsProduct below levels scope) Any []
  some_product = some_both (IsFactor below levels scope) _ some_factor (ended (products levels) (λ n a o. below Factor scope) max_chain)

  some_sum : Continues (IsSum below levels scope) Any []
  some_sum = some_both (IsProduct below levels scope) _ some_product (ended (sums levels) (λ n a o. below Product scope) max_chain)

  some_place : (place : Place) → Continues (IsByPlace below levels scope place) Any []
  some_place Whole = let c = some_sum in record { rest = c.rest; value = c.value; is = inr c.is; has = tt }
  some_place Sum = some_sum
  some_place Product = some_product
  some_place Factor = some_factor

-- a level below, where none may be left to read it
part_inner : (levels : ℕ) (place : Place) (scope : Scope) → Part (inner levels place scope) (IsInner (suc levels) place scope)
unfolding inner misplaced
part_inner zero place scope = record {
  sound = λ i j x e. absurd cc;
  begins = λ i fault place_of e. cut_here {B = Term} (IsInner 1 place scope) Any i (cond (same_kind (kind i) k.Bad) BadToken BadSyntax) fault place_of e;
  some = some_place (IsInner 0) 0 scope place;
}
part_inner (suc levels) place scope = part_place (inner levels) (IsInner (suc levels)) levels scope (part_inner levels) place

-- The words before the word of a fault are the beginning of a term with one level more.
pub part_term : (levels : ℕ) (place : Place) (scope : Scope) → Part (term levels place scope) (IsTerm (suc levels) place scope)
part_term levels place scope = part_place (inner levels) (IsInner (suc levels)) levels scope (part_inner levels) place
