-- A chain is lawful where its operands are.
use Rattle.std.proofs.Common.{◌≡◌, inl, inr, ℕ, zero, suc, ◌<◌, Bool, true, false, List, [], ◌∷◌, ◌++◌, Option, Some, None, Result, Ok, Err, refl, sym, ap}
use Rattle.std.proofs.Common.{subst, ◌∙◌}
use Rattle.text_tokens.specs.declared.kind.Kind.{Kind}
use Rattle.text_tokens.specs.declared.kind.Kind.TheVariants as k
use Rattle.text_tokens.specs.Words.{Word, Input, peek, next}
use Rattle.reader_laws.specs.declared.fault.Fault.{Fault}
use Rattle.reader_laws.specs.declared.fault.Fault.TheVariants.{TooDeep}
use Rattle.reader_laws.specs.Steps.{Parser, ◌>>=◌, ◌>>◌, refuse, kind, take_word, open_level}
use Rattle.reader_laws.specs.Chain.{Links, joined, go_on, chain}
use Rattle.reader_laws.specs.Grammar.{IsOfJoining, IsChain}
use Rattle.reader_laws.proofs.Outcomes.{ahead, ahead_append, then_ok, done, ok_value, ok_input, taken, open_some, opened_ok, opened_some}
use Rattle.reader_laws.proofs.Local.{local_chain}
use Rattle.reader_laws.proofs.Lawful.{Lawful, Found}

pub record Joins {A : Type 0} (w : Word) (r : Result A Fault) (more : A → Parser A) (i : Input) (x : A) (j : Input) : Type 0 where
  pub value : A
  pub joins : r ≡ Ok value
  pub rest : more value i ≡ Ok (x, j)

joined_ok : {A : Type 0} (w : Word) (r : Result A Fault) (more : A → Parser A) (i : Input) (x : A) (j : Input) → joined w r more i ≡ Ok (x, j)
    → Joins w r more i x j
joined_ok w (Ok v) more i x j h = record { value = v; joins = refl; rest = h }
joined_ok w (Err fault) more i x j h = absurd cc

abbrev pub is_none : {O : Type 0} → Option O → Bool
is_none None = true
is_none (Some o) = false

none_is : {O : Type 0} (v : Option O) → is_none v ≡ true → v ≡ None
none_is None h = refl
none_is (Some o) h = absurd cc

module _ {A B O : Type 0} (links : Links A B O) (operand : ℕ → A → O → Parser B) (operands : ℕ → A → O → List Word → B → Type 0) (operand_goes_on goes_on : Kind
    → Bool)
    (no_end : (kd : Kind) (o : O) → links.operator kd ≡ Some o → kd ≡ k.End → ⊥)
    (frees : (kd : Kind) (o : O) → links.operator kd ≡ Some o → operand_goes_on kd ≡ false)
    (stops : (kd : Kind) → goes_on kd ≡ false → (links.operator kd ≡ None) × (operand_goes_on kd ≡ false))
    (joint : (o : O) (a : A) (b : B) (fault : Fault) → links.join o a b ≡ Err fault → IsOfJoining fault)
    (h : (n : ℕ) (a : A) (o : O) → Lawful (operand n a o) (operands n a o) operand_goes_on) where
  -- nothing was read
  nothing : (n : ℕ) (left x : A) (i j : Input) → done left i ≡ Ok (x, j) → IsChain links operands n left [] x
  nothing zero left x i j e = (refl, sym (ok_value left x i j e))
  nothing (suc n) left x i j e = inl (refl, sym (ok_value left x i j e))

  kept : (n : ℕ) (left x : A) (i j : Input) → done left i ≡ Ok (x, j) → Found (λ ws y. IsChain links operands n left ws y) i x j
  kept n left x i j e = record { front = []; words = ok_input left x i j e; is = nothing n left x i j e }

  chain_sound : (n : ℕ) (left : A) (i j : Input) (x : A) → chain links operand n left i ≡ Ok (x, j) → Found (λ ws y. IsChain links operands n left ws y) i x j
  unfolding chain
  chain_sound zero left i j x e = go (links.operator (peek i).kind) e
    where
      go : (v : Option O) → go_on v left (λ _. refuse TooDeep) i ≡ Ok (x, j) → Found (λ ws y. IsChain links operands zero left ws y) i x j
      go None e = kept zero left x i j e
      go (Some o) e = absurd cc
  chain_sound (suc n) left i j x e = go (links.operator (peek i).kind) refl (λ y l m z f. chain_sound n y l m z f) e
    where
      go : (v : Option O) → links.operator (peek i).kind ≡ v
          → ((y : A) (l m : Input) (z : A) → chain links operand n y l ≡ Ok (z, m) → Found (λ ws u. IsChain links operands n y ws u) l z m)
          → go_on v left (λ o. open_level (links.room n) >>
          (take_word >> (operand n left o >>= λ right. joined (peek i) (links.join o left right) (chain links operand n)))) i ≡ Ok (x, j)
          → Found (λ ws y. IsChain links operands (suc n) left ws y) i x j
      go None is again e = kept (suc n) left x i j e
      go (Some o) is again e =
          let more : B → Parser A = λ right. joined (peek i) (links.join o left right) (chain links operand n) in
          let a = then_ok (open_level (links.room n) i) (λ _. take_word >> (operand n left o >>= more)) x j e in
          let opened = opened_ok (links.room n) i a.at a.value a.first in
          let b = then_ok (operand n left o (next a.at)) more x j a.rest in
          let right = (h n left o).sound (next a.at) b.at b.value b.first in
          let c = joined_ok (peek i) (links.join o left b.value) (chain links operand n) b.at x j b.rest in
          let rest = again c.value b.at j x c.rest in
          record {
            front = peek i ∷ right.front ++ rest.front;
            words = taken i (no_end (kind i) o is) ∙ ap (λ (l : Input). ahead (peek i ∷ []) (next l)) opened
                ∙ ap (ahead (peek i ∷ [])) (right.words ∙ ap (ahead right.front) rest.words ∙ ahead_append right.front rest.front j);
            is = inr (record {
              word = peek i;
              front = right.front;
              rest = rest.front;
              sign = o;
              right = b.value;
              value = c.value;
              words = refl;
              is = is;
              room = opened_some (links.room n) i a.at a.value a.first;
              is_operand = right.is;
              joins = c.joins;
              is_rest = rest.is;
            });
          }

  stopped : (n : ℕ) (x : A) (j : Input) → goes_on (kind j) ≡ false → chain links operand n x j ≡ Ok (x, j)
  unfolding chain
  stopped zero x j e = let s = (stops (kind j) e).0 in rw s refl
  stopped (suc n) x j e = let s = (stops (kind j) e).0 in rw s refl

  -- an operand ends where the chain goes on, and where it ends
  pub rest_frees : (n : ℕ) (left : A) (ws : List Word) (x : A) (j : Input) → IsChain links operands n left ws x → goes_on (kind j) ≡ false
      → operand_goes_on (kind (ahead ws j)) ≡ false
  unfolding peek
  rest_frees zero left ws x j is e = subst (λ (vs : List Word). operand_goes_on (kind (ahead vs j)) ≡ false) (sym is.0) (stops (kind j) e).1
  rest_frees (suc n) left ws x j (inl is) e = subst (λ (vs : List Word). operand_goes_on (kind (ahead vs j)) ≡ false) (sym is.0) (stops (kind j) e).1
  rest_frees (suc n) left ws x j (inr is) e = subst (λ (vs : List Word). operand_goes_on (kind (ahead vs j)) ≡ false) (sym is.words)
      (frees is.word.kind is.sign is.is)

  one_turn : (n : ℕ) (left : A) (w : Word) (l m : Input) (o : O) (right : B) (value : A) → links.operator w.kind ≡ Some o → 0 < links.room n
      → operand n left o l ≡ Ok (right, m)
      → links.join o left right ≡ Ok value → chain links operand (suc n) left (ahead (w ∷ []) l) ≡ chain links operand n value m
  unfolding chain peek next
  one_turn n left w l m o right value is room reads joins =
      let opens = open_some (links.room n) (ahead (w ∷ []) l) room in
      rw (is, opens, reads, joins) refl

  chain_complete : (n : ℕ) (left : A) (ws : List Word) (x : A) (j : Input) → IsChain links operands n left ws x → goes_on (kind j) ≡ false
      → chain links operand n left (ahead ws j) ≡ Ok (x, j)
  chain_complete zero left ws x j is e =
      ap (λ (vs : List Word). chain links operand zero left (ahead vs j)) is.0 ∙ stopped zero left j e ∙ ap (λ (y : A). done y j) (sym is.1)
  chain_complete (suc n) left ws x j (inl is) e =
      ap (λ (vs : List Word). chain links operand (suc n) left (ahead vs j)) is.0 ∙ stopped (suc n) left j e ∙ ap (λ (y : A). done y j) (sym is.1)
  chain_complete (suc n) left ws x j (inr is) e =
      let reads = (h n left is.sign).complete is.front is.right (ahead is.rest j) is.is_operand (rest_frees n is.value is.rest x j is.is_rest e) in
      let whole : ahead ws j ≡ ahead (is.word ∷ []) (ahead is.front (ahead is.rest j)) =
      ap (λ (vs : List Word). ahead vs j) is.words ∙ ap (ahead (is.word ∷ [])) (sym (ahead_append is.front is.rest j)) in
      ap (chain links operand (suc n) left) whole
      ∙ one_turn n left is.word (ahead is.front (ahead is.rest j)) (ahead is.rest j) is.sign is.right is.value is.is is.room reads is.joins
      ∙ chain_complete n is.value is.rest x j is.is_rest e

  pub lawful_chain : (n : ℕ) (left : A) → Lawful (chain links operand n left) (IsChain links operands n left) goes_on
  lawful_chain n left = record {
    sound = λ i j x e. chain_sound n left i j x e;
    complete = λ front x j is e. chain_complete n left front x j is e;
    depends = local_chain links operand no_end joint (λ n a o. (h n a o).depends) n left;
  }

-- what holds of the first value, and is kept by each join, holds of what the chain makes
pub chain_keeps : {A B O : Type 0} (links : Links A B O) (operands : ℕ → A → O → List Word → B → Type 0) (P : A → Type 0) (Q : B → Type 0)
    → ((n : ℕ) (a : A) (o : O) (ws : List Word) (b : B) → operands n a o ws b → Q b)
    → ((o : O) (a : A) (b : B) (c : A) → P a → Q b → links.join o a b ≡ Ok c → P c)
    → (n : ℕ) (left : A) (ws : List Word) (x : A) → P left → IsChain links operands n left ws x → P x
chain_keeps links operands P Q each kept zero left ws x p is = subst P (sym is.1) p
chain_keeps links operands P Q each kept (suc n) left ws x p (inl is) = subst P (sym is.1) p
chain_keeps links operands P Q each kept (suc n) left ws x p (inr is) =
    chain_keeps links operands P Q each kept n is.value is.rest x
    (kept is.sign left is.right is.value p (each n left is.sign is.front is.right is.is_operand) is.joins) is.is_rest
