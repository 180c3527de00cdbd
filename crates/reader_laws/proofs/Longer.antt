-- A chain with one more operator at its end, as printing builds it; and that a rule gives a text one value.
use Rattle.std.proofs.Common.{◌≡◌, inl, inr, ℕ, zero, suc, ◌<◌, ◌∷◌, ◌++◌, List, [], Bool, false, sym, ap, subst, ◌∙◌, append_assoc}
use Rattle.text_tokens.specs.declared.kind.Kind.{Kind}
use Rattle.text_tokens.specs.declared.kind.Kind.TheVariants as k
use Rattle.text_tokens.specs.Words.{Word, Input, peek}
use Rattle.reader_laws.specs.Steps.{Parser, kind}
use Rattle.reader_laws.specs.Chain.{Links}
use Rattle.reader_laws.specs.Grammar.{Link, IsChain}
use Rattle.reader_laws.proofs.Outcomes.{ok_value}
use Rattle.reader_laws.proofs.Lawful.{Lawful}

module _ {A B O : Type 0} (links : Links A B O) (operands : ℕ → A → O → List Word → B → Type 0)
    (same_room : (n m : ℕ) → 0 < links.room n → 0 < links.room m) (same : (n m : ℕ) (a : A) (o : O) (ws : List Word) (y : B) → operands n a o ws y
    → operands m a o ws y) where
  abbrev pub Last : A → List Word → A → Type 0
  Last x more y = Link links operands zero (λ v ws z. (ws ≡ []) × (z ≡ v)) x more y

  nothing : (n : ℕ) (v : A) (ws : List Word) (z : A) → (ws ≡ []) × (z ≡ v) → IsChain links operands n v ws z
  nothing zero v ws z h = h
  nothing (suc n) v ws z h = inl h

  first : (n : ℕ) (x : A) (more : List Word) (y : A) → Last x more y → IsChain links operands (suc n) x more y
  first n x more y l = inr (record {
    word = l.word;
    front = l.front;
    rest = l.rest;
    sign = l.sign;
    right = l.right;
    value = l.value;
    words = l.words;
    is = l.is;
    room = same_room zero n l.room;
    is_operand = same zero n x l.sign l.front l.right l.is_operand;
    joins = l.joins;
    is_rest = nothing n l.value l.rest y l.is_rest;
  })

  none_before : (n : ℕ) (left : A) (ws : List Word) (x : A) (more : List Word) (y : A) → (ws ≡ []) × (x ≡ left) → Last x more y
      → IsChain links operands (suc n) left (ws ++ more) y
  none_before n left ws x more y is l =
      let a = subst (λ (v : A). IsChain links operands (suc n) v more y) is.1 (first n x more y l) in
      subst (λ (vs : List Word). IsChain links operands (suc n) left (vs ++ more) y) (sym is.0) a

  pub chain_more : (n : ℕ) (left : A) (ws : List Word) (x : A) (more : List Word) (y : A) → IsChain links operands n left ws x → Last x more y
      → IsChain links operands (suc n) left (ws ++ more) y
  chain_more zero left ws x more y is l = none_before zero left ws x more y is l
  chain_more (suc n) left ws x more y (inl is) l = none_before (suc n) left ws x more y is l
  chain_more (suc n) left ws x more y (inr is) l = inr (record {
    word = is.word;
    front = is.front;
    rest = is.rest ++ more;
    sign = is.sign;
    right = is.right;
    value = is.value;
    words = ap (λ (vs : List Word). vs ++ more) is.words ∙ ap (λ (vs : List Word). is.word ∷ vs) (append_assoc is.front is.rest more);
    is = is.is;
    room = same_room n (suc n) is.room;
    is_operand = same n (suc n) left is.sign is.front is.right is.is_operand;
    joins = is.joins;
    is_rest = chain_more n is.value is.rest x more y is.is_rest l;
  })

end_stops : (goes_on : Kind → Bool) → goes_on k.End ≡ false → let i : Input = record { words = []; end = 0 } in goes_on (kind i) ≡ false
unfolding peek
end_stops goes_on h = h

-- the same words stand for one value
pub one_value : {A : Type 0} (p : Parser A) (rule : List Word → A → Type 0) (goes_on : Kind → Bool) → Lawful p rule goes_on → goes_on k.End ≡ false
    → (ws : List Word) (x y : A) → rule ws x → rule ws y → x ≡ y
one_value p rule goes_on l ends ws x y hx hy =
    let last : Input = record { words = []; end = 0 } in
    let stops = end_stops goes_on ends in
    ok_value x y last last (sym (l.complete ws x last hx stops) ∙ l.complete ws y last hy stops)
