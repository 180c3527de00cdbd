-- Items, each after a word of one kind: beside the loop that reads them, and as their grammar says.
use Rattle.std.proofs.Common.{◌≡◌, ℕ, zero, suc, ◌+◌, ◌-◌, ◌<◌, ◌≤◌, Bool, true, false, cond, inl, inr, List, length, Option, Some, None, Result, Ok, Err, refl}
use Rattle.std.proofs.Common.{sym, ap, subst, ◌∙◌, arith}
use Rattle.text_tokens.specs.declared.kind.Kind.{Kind}
use Rattle.text_tokens.specs.declared.kind.Kind.TheVariants as k
use Rattle.text_tokens.specs.Kinds.{same_kind}
use Rattle.text_tokens.specs.Words.{Word, Input, peek, next}
use Rattle.reader_laws.specs.declared.fault.Fault.{Fault}
use Rattle.reader_laws.specs.declared.fault.Fault.TheVariants.{TooDeep}
use Rattle.reader_laws.specs.declared.fault.ReadError.{ReadError}
use Rattle.reader_laws.specs.Steps.{Parser, refusal, kind}
use Rattle.reader_laws.specs.Chain.{sign, signed, repeated}
use Rattle.reader_laws.specs.Grammar.{Both, IsRepeated}
use Rattle.reader_laws.proofs.Outcomes.{ahead, ahead_append, is_same}
use Rattle.reader_laws.proofs.Lawful.{Lawful}
use Rattle.reader_laws.proofs.Chains.{lawful_chain}
use Rattle.reader_laws.proofs.Loops.{chain_stop, chain_went, chain_fell, chain_full}

abbrev signs : Bool → Option (Unit {0})
signs b = cond b (Some tt) None

sign_is : (a kd : Kind) (b : Bool) → same_kind kd a ≡ b → sign a kd ≡ signs b
sign_is a kd b h = ap signs h

sign_kind : (a kd : Kind) (o : Unit {0}) → sign a kd ≡ Some o → kd ≡ a
sign_kind a kd o h = go (same_kind kd a) refl h
  where
    go : (b : Bool) → same_kind kd a ≡ b → signs b ≡ Some o → kd ≡ a
    go true e h = is_same kd a e
    go false e h = absurd cc

abbrev joins_to : {A : Type 0} → A → Result A Fault
joins_to v = Ok v

same : {A : Type 0} (v w : A) → joins_to v ≡ joins_to w → v ≡ w
same v w h = cc

module _ {A B : Type 0} (a : Kind) (add : A → B → A) (item : A → Parser B) where
  pub stop : (n : ℕ) (left : A) (i : Input) → same_kind (kind i) a ≡ false → repeated a add item n left i ≡ Ok (left, i)
  unfolding repeated signed
  stop n left i e = chain_stop (signed a add) (λ m x o. item x) n left i (sign_is a (kind i) false e)

  pub went : (n at : ℕ) (left : A) (right : B) (i j : Input) → at < n → same_kind (kind i) a ≡ true → item left (next i) ≡ Ok (right, j)
      → repeated a add item (n - at) left i ≡ repeated a add item (n - (at + 1)) (add left right) j
  unfolding repeated signed
  went n at left right i j below e reads = chain_went (signed a add) (λ m x o. item x) n at left (add left right) right tt i j below (omega arith)
      (sign_is a (kind i) true e) reads refl

  pub fell : (n at : ℕ) (left : A) (i : Input) (x : ReadError) → at < n → same_kind (kind i) a ≡ true → item left (next i) ≡ Err x
      → repeated a add item (n - at) left i ≡ Err x
  unfolding repeated signed
  fell n at left i x below e reads = chain_fell (signed a add) (λ m x o. item x) n at left tt i x below (omega arith) (sign_is a (kind i) true e) reads

  pub full : (n at : ℕ) (left : A) (i : Input) → n ≤ at → same_kind (kind i) a ≡ true → repeated a add item (n - at) left i ≡ Err (refusal TooDeep i)
  unfolding repeated signed
  full n at left i done e = chain_full (signed a add) (λ m x o. item x) n at left tt i done (sign_is a (kind i) true e)

  -- an item ends where the next begins, and where all end
  pub lawful_repeated : (rule : A → List Word → B → Type 0) (item_goes_on goes_on : Kind → Bool) → (a ≡ k.End → ⊥) → item_goes_on a ≡ false
      → ((kd : Kind) → goes_on kd ≡ false → (same_kind kd a ≡ false) × (item_goes_on kd ≡ false)) → ((x : A) → Lawful (item x) (rule x) item_goes_on)
      → (n : ℕ) (left : A) → Lawful (repeated a add item n left) (IsRepeated a add rule n left) goes_on
  unfolding repeated signed
  lawful_repeated rule item_goes_on goes_on some ends stops each n left =
      lawful_chain (signed a add) (λ m x o. item x) (λ m x o. rule x) item_goes_on goes_on
      (λ kd o e z. some (sym (sign_kind a kd o e) ∙ z))
      (λ kd o e. ap item_goes_on (sign_kind a kd o e) ∙ ends)
      (λ kd e. (sign_is a kd false (stops kd e).0, (stops kd e).1))
      (λ o x y fault e. absurd cc)
      (λ m x o. each x) n left

-- what the first word of the items is not, where what follows is not
pub repeated_first : {A B : Type 0} (a : Kind) (add : A → B → A) (rule : A → List Word → B → Type 0) (f : Kind → Bool) → f a ≡ false
    → (n : ℕ) (left : A) (ws : List Word) (x : A) (j : Input)
    → IsRepeated a add rule n left ws x → f (kind j) ≡ false → f (kind (ahead ws j)) ≡ false
unfolding signed peek
repeated_first a add rule f other zero left ws x j is e = subst (λ (vs : List Word). f (kind (ahead vs j)) ≡ false) (sym is.0) e
repeated_first a add rule f other (suc n) left ws x j (inl is) e = subst (λ (vs : List Word). f (kind (ahead vs j)) ≡ false) (sym is.0) e
repeated_first a add rule f other (suc n) left ws x j (inr is) e =
    subst (λ (vs : List Word). f (kind (ahead vs j)) ≡ false) (sym is.words) (ap f (sign_kind a is.word.kind is.sign is.is) ∙ other)

-- what holds at the beginning, and is kept by each item, holds at the end
pub repeated_keeps : {A B : Type 0} (a : Kind) (add : A → B → A) (rule : A → List Word → B → Type 0) (P : A → Type 0)
    → ((x : A) (ws : List Word) (y : B) → rule x ws y → P x → P (add x y)) → (n : ℕ) (left : A) (ws : List Word) (x : A) → P left
    → IsRepeated a add rule n left ws x → P x
unfolding signed
repeated_keeps a add rule P kept zero left ws x p is = subst P (sym is.1) p
repeated_keeps a add rule P kept (suc n) left ws x p (inl is) = subst P (sym is.1) p
repeated_keeps {A = A} a add rule P kept (suc n) left ws x p (inr is) =
    repeated_keeps a add rule P kept n is.value is.rest x (subst P (same (add left is.right) is.value is.joins) (kept left is.front is.right is.is_operand p))
    is.is_rest

-- at most so many items come
pub repeated_length : {B : Type 0} (a : Kind) (add : List B → B → List B) (rule : List B → List Word → B → Type 0)
    → ((xs : List B) (y : B) → length (add xs y) ≡ length xs + 1)
    → (n : ℕ) (left : List B) (ws : List Word) (x : List B) → IsRepeated a add rule n left ws x → length x ≤ length left + n
unfolding signed
repeated_length a add rule one zero left ws x is = omega (arith, ap length is.1)
repeated_length a add rule one (suc n) left ws x (inl is) = omega (arith, ap length is.1)
repeated_length {B = B} a add rule one (suc n) left ws x (inr is) =
    let h = repeated_length a add rule one n is.value is.rest x is.is_rest in
    let e : length is.value ≡ length left + 1 = ap length (sym (same (add left is.right) is.value is.joins)) ∙ one left is.right in
    omega arith

-- the first of two begins the whole
pub both_first : {A B : Type 0} (first : List Word → A → Type 0) (then : A → List Word → B → Type 0) (f : Kind → Bool)
    → ((ws : List Word) (x : A) (j : Input) → first ws x → f (kind (ahead ws j)) ≡ false)
    → (ws : List Word) (y : B) (j : Input) → Both first then ws y → f (kind (ahead ws j)) ≡ false
both_first first then f begins ws y j is =
    ap (λ (l : Input). f (kind l)) (ap (λ (vs : List Word). ahead vs j) is.words ∙ sym (ahead_append is.front is.rest j))
    ∙ begins is.front is.value (ahead is.rest j) is.is_first
