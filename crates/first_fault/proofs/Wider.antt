-- What stands for an index or a condition where so many levels are left stands for it where more are.
use Rattle.std.proofs.Common.{inl, inr, ℕ, zero, suc, ◌≤◌, List, [], ◌∷◌, Result, arith}
use Rattle.text_tokens.specs.declared.kind.Kind.{Kind}
use Rattle.text_tokens.specs.declared.kind.Kind.TheVariants as k
use Rattle.text_tokens.specs.Kinds.{Text}
use Rattle.text_tokens.specs.Words.{Word}
use Rattle.affine_index.specs.declared.form.Items.{Items}
use Rattle.reader_laws.specs.declared.fault.Fault.{Fault}
use Rattle.reader_laws.specs.Chain.{Links}
use Rattle.reader_laws.specs.Grammar.{Both, IsChain}
use Rattle.source_grammar.specs.declared.operator.Operator.{Operator}
use Rattle.source_grammar.specs.declared.operator.Operator.TheVariants.{Over, Modulo}
use Rattle.source_grammar.specs.Index.{Level, Sum, Product, Part, sums, products, max_text, IsPartBy, IsPart, IsRight, IsProduct, IsSum, IsByLevel, IsInner}
use Rattle.source_grammar.specs.Index.{IsIndex}
use Rattle.source_grammar.specs.Conditions.{IsComparison, IsCondition}

-- what is in the one rule is in the other
abbrev pub Wider : {A : Type 0} → (List Word → A → Type 0) → (List Word → A → Type 0) → Type 0
Wider {A = A} rule other = (ws : List Word) (x : A) → rule ws x → other ws x

pub both_wider : {A B : Type 0} (first other : List Word → A → Type 0) (then after : A → List Word → B → Type 0) → Wider first other
    → ((x : A) → Wider (then x) (after x)) → Wider (Both first then) (Both other after)
both_wider first other then after h g ws y is = record {
  value = is.value;
  front = is.front;
  rest = is.rest;
  words = is.words;
  is_first = h is.front is.value is.is_first;
  is_then = g is.value is.rest y is.is_then;
}

pub chain_wider : {A B O : Type 0} (links : Links A B O) (operands others : ℕ → A → O → List Word → B → Type 0)
    → ((n : ℕ) (a : A) (o : O) → Wider (operands n a o) (others n a o)) → (n : ℕ) (left : A)
    → Wider (IsChain links operands n left) (IsChain links others n left)
chain_wider links operands others h zero left ws x is = is
chain_wider links operands others h (suc n) left ws x (inl is) = inl is
chain_wider links operands others h (suc n) left ws x (inr is) = inr (record {
  word = is.word;
  front = is.front;
  rest = is.rest;
  sign = is.sign;
  right = is.right;
  value = is.value;
  words = is.words;
  is = is.is;
  room = is.room;
  is_operand = h n left is.sign is.front is.right is.is_operand;
  joins = is.joins;
  is_rest = chain_wider links operands others h n is.value is.rest x is.is_rest;
})

module _ (names : Text → Result Items Fault) (below under : Level → List Word → Items → Type 0) (n m : ℕ) (more : n ≤ m)
    (h : (level : Level) → Wider (below level) (under level)) where
  by_kind : (kd : Kind) → Wider (IsPartBy names below n kd) (IsPartBy names under m kd)
  by_kind k.Number ws x is = is
  by_kind k.Name ws x is = is
  by_kind k.LParen ws x is = (
    (let room = is.0 in omega (arith, more, room)),
    both_wider _ _ _ _ (λ vs u b. b) (λ u. both_wider (below Sum) (under Sum) _ _ (h Sum) (λ y vs z b. b)) ws x is.1,
  )
  by_kind k.Minus ws x is = (
    (let room = is.0 in omega (arith, more, room)),
    both_wider _ _ _ _ (λ vs u b. b) (λ u. both_wider (below Part) (under Part) _ _ (h Part) (λ y vs z b. b)) ws x is.1,
  )
  by_kind _ ws x is = absurd is

  wider_part : Wider (IsPart names below n) (IsPart names under m)
  wider_part ws x is = (is.0, by_kind is.0 ws x is.1)

  wider_right : (o : Operator) → Wider (IsRight names below n o) (IsRight names under m o)
  wider_right Over ws x is = is
  wider_right Modulo ws x is = is
  wider_right _ ws x is = wider_part ws x is

  wider_product : Wider (IsProduct names below n) (IsProduct names under m)
  wider_product = both_wider (IsPart names below n) (IsPart names under m) _ _ wider_part
      (λ y. chain_wider products (λ l a o. IsRight names below n o) (λ l a o. IsRight names under m o) (λ l a o. wider_right o) max_text y)

  wider_sum : Wider (IsSum names below n) (IsSum names under m)
  wider_sum = both_wider (IsProduct names below n) (IsProduct names under m) _ _ wider_product
      (λ y. chain_wider sums (λ l a o. IsProduct names below n) (λ l a o. IsProduct names under m) (λ l a o. wider_product) max_text y)

  wider_level : (level : Level) → Wider (IsByLevel names below n level) (IsByLevel names under m level)
  wider_level Sum = wider_sum
  wider_level Product = wider_product
  wider_level Part = wider_part

module _ (names : Text → Result Items Fault) where
  wider_inner : (n m : ℕ) → n ≤ m → (level : Level) → Wider (IsInner names n level) (IsInner names m level)
  wider_inner zero m more level ws x is = absurd is
  wider_inner (suc n) zero more level ws x is = absurd (omega (arith, more))
  wider_inner (suc n) (suc m) more level ws x is =
      let less : n ≤ m = omega (arith, more) in
      wider_level names (IsInner names n) (IsInner names m) n m less (wider_inner n m less) level ws x is

  pub wider_index : (n m : ℕ) → n ≤ m → (level : Level) → Wider (IsIndex names n level) (IsIndex names m level)
  wider_index n m more level = wider_level names (IsInner names n) (IsInner names m) n m more (wider_inner n m more) level

  wider_comparison : (n m : ℕ) → n ≤ m → Wider (IsComparison names n) (IsComparison names m)
  wider_comparison n m more =
      let w = wider_index n m more Sum in
      both_wider (IsIndex names n Sum) (IsIndex names m Sum) _ _ w (λ a. both_wider _ _ _ _ (λ ws r b. b)
      (λ r. both_wider (IsIndex names n Sum) (IsIndex names m Sum) _ _ w (λ b ws x c. c)))

  pub wider_condition : (n m : ℕ) → n ≤ m → Wider (IsCondition names n) (IsCondition names m)
  wider_condition n m more =
      let w = wider_comparison n m more in
      both_wider (IsComparison names n) (IsComparison names m) _ _ w (λ c. both_wider _ _ _ _
      (chain_wider _ (λ l a o. IsComparison names n) (λ l a o. IsComparison names m) (λ l a o. w) _ (c ∷ [])) (λ cs ws x d. d))
