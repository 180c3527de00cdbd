-- The words before the word of an index's fault go on: they are the beginning of an index.
use Rattle.std.proofs.Common.{◌≡◌, ◌⊎◌, inl, inr, ◌∷◌, ◌++◌, ℕ, zero, suc, ◌-◌, ◌+◌, ◌*◌, ◌<◌, ◌≤◌, pos, List, [], length, Some, Result, Ok, Err, refl, sym}
use Rattle.std.proofs.Common.{ap, subst, ◌∙◌, append_assoc, append-nil, length-append, arith}
use Rattle.std.specs.Int.RustNames.{unsigned_abs}
use Rattle.text_tokens.specs.declared.kind.Kind.{Kind}
use Rattle.text_tokens.specs.declared.kind.Kind.TheVariants as k
use Rattle.text_tokens.specs.Kinds.{Text}
use Rattle.text_tokens.specs.Numbers.{number, value_from}
use Rattle.text_tokens.specs.Words.{Word, Input}
use Rattle.affine_index.specs.Form.{literal_form}
use Rattle.affine_index.specs.Quotient.{quotient_of, remainder_of}
use Rattle.affine_index.specs.Sum.{difference_of, sum_of}
use Rattle.affine_index.specs.declared.form.Items.{Items}
use Rattle.reader_laws.specs.declared.fault.Fault.{Fault}
use Rattle.reader_laws.specs.declared.fault.ReadError.TheVariants.{Refused}
use Rattle.reader_laws.specs.Steps.{Parser, ◌>>=◌, pure, no_value}
use Rattle.reader_laws.specs.Chain.{chain}
use Rattle.reader_laws.specs.Grammar.{IsWordOf, IsNothing}
use Rattle.reader_laws.proofs.Outcomes.{ahead, ahead_append}
use Rattle.reader_laws.proofs.Lawful.{Lawful, Found}
use Rattle.reader_laws.proofs.Longer.{chain_more}
use Rattle.source_grammar.specs.Limits.{tested, multiplied}
use Rattle.reader_laws.specs.Levels.{word_in}
use Rattle.first_fault.specs.First.{Few, Continues}
use Rattle.first_fault.proofs.Begins.{Cut, Begins}
use Rattle.source_grammar.specs.declared.operator.Operator.{Operator}
use Rattle.source_grammar.specs.declared.operator.Operator.TheVariants.{Plus, Minus, Times, Over, Modulo}
use Rattle.source_grammar.specs.Index.{Level, Sum, Product, Part, join, literal_value, divisor_value, sum_operator, product_operator, sums, products}
use Rattle.source_grammar.specs.Index.{max_text, IsParenthesized, IsNegated, IsPartBy, IsPart, IsRight, IsProduct, IsSum, IsByLevel, IsInner, IsIndex}
use Rattle.source_grammar.specs.ReadIndex.{parenthesized, negated, part_by, part, right_of, product, sum, by_level, inner, index}
use Rattle.source_grammar.proofs.IndexLaws.{goes_on, product_no_end, sum_no_end, lawful_part, lawful_right, lawful_product, lawful_inner}
use Rattle.first_fault.proofs.FormAlgebra.{taken-back, given-back, minus-itself, quotient-one, remainder-one, plus_zero_is, minus_zero_is, times_zero_is}
use Rattle.source_grammar.proofs.NormalForms.{Normal, ordered, tested_ok, tested_is, zero_form, zero_normal, literal_is_normal, divisor_is, sum_normal}
use Rattle.source_grammar.proofs.NormalForms.{difference_normal, product_normal, quotient_normal, remainder_normal, negated_normal}
use Rattle.first_fault.proofs.BeginLaws.{few_rest, which, Later, cut_as, word_cut, begins_word, begins_nowhere, begins_choice, both_go, both_on}
use Rattle.first_fault.proofs.BeginLaws.{begins_opening, begins_made, begins_closed, close_on, Run, linked, longer, go_longer, count, ChainCut, extends}
use Rattle.first_fault.proofs.BeginLaws.{chain_cut}

abbrev pub Zero : Items → Type 0
Zero x = x ≡ zero_form

abbrev Same : Items → Items → Type 0
Same left x = x ≡ left

-- ---- words

abbrev zero_word : Word
zero_word = record { kind = k.Number; text = 48 ∷ []; place = 0 }

abbrev one_word : Word
one_word = record { kind = k.Number; text = 49 ∷ []; place = 0 }

abbrev star : Word
star = record { kind = k.Star; text = []; place = 0 }

abbrev pub signed_word : Kind → Word
signed_word a = record { kind = a; text = []; place = 0 }

reads_zero : literal_value (48 ∷ []) ≡ Ok zero_form
unfolding number value_from
reads_zero = refl

reads_unit : literal_value (49 ∷ []) ≡ Ok (literal_form (pos 1))
unfolding number value_from
reads_unit = refl

reads_one : divisor_value (49 ∷ []) ≡ Ok (literal_form (pos 1))
unfolding number value_from
reads_one = refl

is_one : IsWordOf k.Number divisor_value (one_word ∷ []) (literal_form (pos 1))
is_one = record { word = one_word; is = refl; reads_as = reads_one; words = refl }

module _ (names : Text → Result Items Fault) (named : (t : Text) (x : Items) → names t ≡ Ok x → Normal x) (inside : Level → Parser Items)
    (below : Level → List Word → Items → Type 0) (levels : ℕ)
    (h : (level : Level) → Lawful (inside level) (below level) (goes_on level))
    (normal_below : (level : Level) (ws : List Word) (x : Items) → below level ws x → Normal x)
    (zero_below : 0 < levels → (level : Level) → Continues (below level) Zero [])
    (extends_below : (ws : List Word) (x : Items) → below Sum ws x → Few ws → Continues (below Sum) Zero ws)
    (b : 0 < levels → (level : Level) → Begins (inside level) (below level) Zero) where
  -- ---- parts

  normal_by : (kd : Kind) (ws : List Word) (x : Items) → IsPartBy names below levels kd ws x → Normal x
  normal_by k.Number ws x is = literal_is_normal is.word.text x is.reads_as
  normal_by k.Name ws x is = named is.word.text x is.reads_as
  normal_by k.LParen ws x is =
      let inner = is.1.is_then in
      subst Normal (sym inner.is_then.is_then.1) (normal_below Sum inner.front inner.value inner.is_first)
  normal_by k.Minus ws x is =
      let inner = is.1.is_then in
      subst Normal (sym inner.is_then.1) (negated_normal inner.value (normal_below Part inner.front inner.value inner.is_first))
  normal_by _ ws x is = absurd is

  normal_part : (ws : List Word) (x : Items) → IsPart names below levels ws x → Normal x
  normal_part ws x is = normal_by is.0 ws x is.1

  is_zero_part : IsPart names below levels (zero_word ∷ []) zero_form
  is_zero_part = (k.Number, record { word = zero_word; is = refl; reads_as = reads_zero; words = refl })

  zero_part : Continues (IsPart names below levels) Zero []
  zero_part = record { rest = zero_word ∷ []; value = zero_form; is = is_zero_part; has = refl }

  begins_parenthesized : Begins (parenthesized names inside levels) (IsParenthesized names below levels) Zero
  unfolding parenthesized
  begins_parenthesized = begins_opening k.LParen _ Zero levels (inside Sum >>= λ x. (word_in (levels - 1) k.RParen no_value >>= λ _. pure x))
      (λ (z : k.LParen ≡ k.End). cc)
      (λ room. begins_closed (levels - 1) k.RParen (inside Sum) (below Sum) Zero (h Sum).sound (b room Sum) extends_below)
      (λ room. close_on k.RParen (below Sum) Zero [] (zero_below room Sum))

  turned_zero : (x : Items) → Zero x → Zero (difference_of (literal_form (pos 0)) x)
  turned_zero x z = ap (difference_of (literal_form (pos 0))) z ∙ minus-itself zero_form

  begins_negated : Begins (negated names inside levels) (IsNegated names below levels) Zero
  unfolding negated
  begins_negated =
      let turn : Items → Items = λ x. difference_of (literal_form (pos 0)) x in
      begins_opening k.Minus _ Zero levels (inside Part >>= λ x. pure (turn x)) (λ (z : k.Minus ≡ k.End). cc)
      (λ room. begins_made (inside Part) turn (below Part) Zero Zero turned_zero (b room Part))
      (λ room. let c = zero_below room Part in both_go (below Part) (λ x. IsNothing (turn x)) Zero [] c.rest c.value c.is
      (record { rest = []; value = turn c.value; is = (refl, refl); has = turned_zero c.value c.has }))

  begins_by : (kd : Kind) → Begins (part_by names inside levels kd) (IsPartBy names below levels kd) Zero
  begins_by k.Number = begins_word (IsPartBy names below levels k.Number) Zero levels k.Number literal_value
  begins_by k.Name = begins_word (IsPartBy names below levels k.Name) Zero levels k.Name names
  begins_by k.LParen = begins_parenthesized
  begins_by k.Minus = begins_negated
  begins_by _ = begins_nowhere (λ ws x. ⊥) Zero levels

  begins_part : Begins (part names inside levels) (IsPart names below levels) Zero
  unfolding part
  begins_part = begins_choice (part_by names inside levels) (IsPartBy names below levels) Zero begins_by

  -- ---- products

  abbrev right_part : Items → Operator → Parser Items
  right_part a o = right_of names inside levels o

  roomy : (n : ℕ) → 0 < products.room n
  unfolding products
  roomy n = omega arith

  ends : (kd : Kind) (o : Operator) → products.operator kd ≡ Some o → kd ≡ k.End → ⊥
  unfolding products
  ends kd o e = product_no_end kd o e

  right_sound : (a : Items) (o : Operator) (i j : Input) (x : Items) → right_part a o i ≡ Ok (x, j) → Found (IsRight names below levels o) i x j
  right_sound a o i j x e = (lawful_right names inside below levels h o).sound i j x e

  abbrev Products : ℕ → Items → List Word → Items → Type 0
  Products = Run products right_part (IsRight names below levels) Normal (λ left x. Zero x) roomy ends right_sound

  times_zero : (left : Items) → Normal left → Continues (Products 1 left) Zero []
  unfolding products
  times_zero left p = record {
    rest = star ∷ zero_word ∷ [];
    value = zero_form;
    is = linked products right_part (IsRight names below levels) Normal (λ left x. Zero x) roomy ends right_sound zero left zero_form zero_form star Times
        (zero_word ∷ []) [] zero_form refl is_zero_part (times_zero_is left) (refl, refl);
    has = refl;
  }

  product_kept : (left value : Items) (o : Operator) (w : Word) (front : List Word) (right : Items) → Normal left → products.operator w.kind ≡ Some o
      → IsRight names below levels o front right → products.join o left right ≡ Ok value → Normal value
  unfolding products
  product_kept left value Times w front right p at is e = product_normal left right value p (normal_part front right is) e
  product_kept left value Plus w front right p at is e = sum_normal left right value p (normal_part front right is) e
  product_kept left value Minus w front right p at is e = difference_normal left right value p (normal_part front right is) e
  product_kept left value Over w front right p at is e =
      let d = divisor_is is.word.text right is.reads_as in
      quotient_normal left value d.number d.some d.most p (subst (λ (r : Items). tested (quotient_of left (unsigned_abs r.constant)) ≡ Ok value) d.is e)
  product_kept left value Modulo w front right p at is e =
      let d = divisor_is is.word.text right is.reads_as in
      remainder_normal left value d.number d.some d.most p (subst (λ (r : Items). tested (remainder_of left (unsigned_abs r.constant)) ≡ Ok value) d.is e)

  no_plus : (kd : Kind) → product_operator kd ≡ Some Plus → ⊥
  no_plus k.Star e = cc
  no_plus k.Slash e = cc
  no_plus k.Percent e = cc
  no_plus _ e = cc

  no_minus : (kd : Kind) → product_operator kd ≡ Some Minus → ⊥
  no_minus k.Star e = cc
  no_minus k.Slash e = cc
  no_minus k.Percent e = cc
  no_minus _ e = cc

  -- a part that goes on, after a star
  times_part : (left : Items) (w : Word) (front : List Word) → Normal left → product_operator w.kind ≡ Some Times
      → Continues (IsPart names below levels) Zero front → Continues (λ ws x. Products 3 left (w ∷ ws) x) Zero front
  unfolding products
  times_part left w front p is c =
      let joins : multiplied left c.value ≡ Ok zero_form = ap (multiplied left) c.has ∙ times_zero_is left in
      let l = linked products right_part (IsRight names below levels) Normal (λ left x. Zero x) roomy ends right_sound 2 left zero_form zero_form w Times
      (front ++ c.rest) [] c.value is c.is joins (inl (refl, refl)) in
      record {
        rest = c.rest;
        value = zero_form;
        is = subst (λ (ws : List Word). Products 3 left (w ∷ ws) zero_form)
            (append-nil (front ++ c.rest)) l;
        has = refl;
      }

  product_cut : (left : Items) (o : Operator) (w : Word) (i : Input) (fault : Fault) (place : ℕ) → Normal left → products.operator w.kind ≡ Some o
      → right_part left o i ≡ Err (Refused fault place)
      → Cut (λ ws x. Products 3 left (w ∷ ws) x) Zero i place
  unfolding products
  product_cut left Times w i fault place p is e = cut_as (IsPart names below levels) (λ ws x. Products 3 left (w ∷ ws) x) Zero Zero i place
      (λ front few c. times_part left w front p is c) (begins_part i fault place e)
  product_cut left Over w i fault place p is e = word_cut (λ ws x. Products 3 left (w ∷ ws) x) Zero levels k.Number divisor_value i fault place e
  product_cut left Modulo w i fault place p is e = word_cut (λ ws x. Products 3 left (w ∷ ws) x) Zero levels k.Number divisor_value i fault place e
  product_cut left Plus w i fault place p is e = absurd (no_plus w.kind is)
  product_cut left Minus w i fault place p is e = absurd (no_minus w.kind is)

  product_starts : (left : Items) (o : Operator) (w : Word) → Normal left → products.operator w.kind ≡ Some o → Continues (Products 3 left) Zero (w ∷ [])
  unfolding products
  product_starts left Times w p is = let c = times_part left w [] p is zero_part in record { rest = c.rest; value = c.value; is = c.is; has = c.has }
  product_starts left Over w p is =
      let z = times_zero left p in
      let same : tested (quotient_of left 1) ≡ Ok left = ap tested (quotient-one left (ordered left p)) ∙ tested_ok left p in
      record {
        rest = one_word ∷ z.rest;
        value = z.value;
        is = linked products right_part (IsRight names below levels) Normal (λ left x. Zero x) roomy ends right_sound 2 left left z.value w Over
            (one_word ∷ []) z.rest (literal_form (pos 1)) is is_one same
            (longer products right_part (IsRight names below levels) Normal (λ left x. Zero x) roomy ends right_sound 1 2 left z.value z.rest
            (omega arith) z.is);
        has = z.has;
      }
  product_starts left Modulo w p is =
      let none : tested (remainder_of left 1) ≡ Ok zero_form = ap tested (remainder-one left (ordered left p)) ∙ tested_ok zero_form zero_normal in
      record {
        rest = one_word ∷ [];
        value = zero_form;
        is = linked products right_part (IsRight names below levels) Normal (λ left x. Zero x) roomy ends right_sound 2 left zero_form zero_form w Modulo
            (one_word ∷ []) [] (literal_form (pos 1)) is is_one none (inl (refl, refl));
        has = refl;
      }
  product_starts left Plus w p is = absurd (no_plus w.kind is)
  product_starts left Minus w p is = absurd (no_minus w.kind is)

  product_back : (n : ℕ) (left value : Items) (o : Operator) (w : Word) (front rest : List Word) (right : Items) → Normal left
      → products.operator w.kind ≡ Some o → IsRight names below levels o front right
      → products.join o left right ≡ Ok value → Continues (Products n value) Zero rest → Continues (Products (suc (suc n)) left) Zero (w ∷ front ++ rest)
  product_back n left value o w front rest right p is reads joins c =
      let l = linked products right_part (IsRight names below levels) Normal (λ left x. Zero x) roomy ends right_sound n left value c.value w o front
      (rest ++ c.rest) right is reads joins c.is in
      let m = longer products right_part (IsRight names below levels) Normal (λ left x. Zero x) roomy ends right_sound (suc n) (suc (suc n)) left c.value
      (w ∷ front ++ (rest ++ c.rest)) (omega arith) l in
      record {
        rest = c.rest;
        value = c.value;
        is = subst (λ (ws : List Word). Products (suc (suc n)) left (w ∷ ws) c.value)
            (sym (append_assoc front rest c.rest)) m;
        has = c.has;
      }

  products_cut : (n : ℕ) (left : Items) (i : Input) (fault : Fault) (place : ℕ) → Normal left
      → chain products (λ n a o. right_part a o) n left i ≡ Err (Refused fault place)
      → ChainCut products right_part (IsRight names below levels) Normal (λ left x. Zero x) roomy ends right_sound left i place
  products_cut n left i fault place p e = chain_cut products right_part (IsRight names below levels) Normal
      (λ left x. Zero x) roomy ends right_sound times_zero product_kept product_cut product_starts product_back n left i fault place p e

  product_normal_is : (ws : List Word) (x : Items) → IsProduct names below levels ws x → Normal x
  product_normal_is ws x is = go max_text is.value is.rest x (normal_part is.front is.value is.is_first) is.is_then
    where
      go : (n : ℕ) (left : Items) (vs : List Word) (y : Items) → Normal left → Products n left vs y → Normal y
      go zero left vs y p r = subst Normal (sym r.1) p
      go (suc n) left vs y p (inl r) = subst Normal (sym r.1) p
      go (suc n) left vs y p (inr l) = go n l.value l.rest y (product_kept left l.value l.sign l.word l.front l.right p l.is l.is_operand l.joins) l.is_rest

  -- a part alone is a product
  alone : (x : Items) → Products max_text x [] x
  unfolding max_text
  alone x = inl (refl, refl)

  zero_product : Continues (IsProduct names below levels) Zero []
  zero_product = both_go (IsPart names below levels) (λ x. Products max_text x) Zero [] (zero_word ∷ []) zero_form is_zero_part
      (record { rest = []; value = zero_form; is = alone zero_form; has = refl })

  room_for_few : (front rest : List Word) → Few (front ++ rest) → (2 * length rest + 1 ≤ max_text) × (2 * length rest + 2 ≤ max_text)
  unfolding max_text
  room_for_few front rest few = let l = length-append front rest in (omega (arith, few, l), omega (arith, few, l))

  begins_product : Begins (product names inside levels) (IsProduct names below levels) Zero
  unfolding product
  begins_product = λ i fault place e. go i fault place (which (part names inside levels i)
      (λ x. chain products (λ n a o. right_of names inside levels o) max_text x) (Refused fault place) e)
    where
      go : (i : Input) (fault : Fault) (place : ℕ) → (part names inside levels i ≡ Err (Refused fault place)) ⊎ Later (part names inside levels i)
          (λ x. chain products (λ n a o. right_of names inside levels o) max_text x) (Refused fault place)
          → Cut (IsProduct names below levels) Zero i place
      go i fault place (inl e) = cut_as (IsPart names below levels) (IsProduct names below levels) Zero Zero i place
          (λ front few c. both_go (IsPart names below levels) (λ x. Products max_text x) Zero front c.rest c.value c.is
          (record { rest = []; value = c.value; is = alone c.value; has = c.has })) (begins_part i fault place e)
      go i fault place (inr l) =
          let s = (lawful_part names inside below levels h).sound i l.at l.value l.first in
          let c = products_cut max_text l.value l.at fault place (normal_part s.front l.value s.is) l.rest in
          record {
            front = s.front ++ c.front;
            at = c.at;
            words = s.words ∙ ap (ahead s.front) c.words ∙ ahead_append s.front c.front c.at;
            stands = c.stands;
            goes = inr (λ few. both_on (IsPart names below levels) (λ x. Products max_text x) Zero s.front c.front l.value s.is
                (go_longer products right_part (IsRight names below levels) Normal (λ left x. Zero x) roomy ends right_sound
                (2 * length c.front + 1) max_text l.value Zero c.front (room_for_few s.front c.front few).0 (c.goes (few_rest s.front c.front few))));
          }

  -- ---- sums

  abbrev right_product : Items → Operator → Parser Items
  right_product a o = product names inside levels

  abbrev IsTerm : Operator → List Word → Items → Type 0
  IsTerm o = IsProduct names below levels

  sum_roomy : (n : ℕ) → 0 < sums.room n
  unfolding sums
  sum_roomy n = omega arith

  sum_ends : (kd : Kind) (o : Operator) → sums.operator kd ≡ Some o → kd ≡ k.End → ⊥
  unfolding sums
  sum_ends kd o e = sum_no_end kd o e

  sum_sound : (a : Items) (o : Operator) (i j : Input) (x : Items) → right_product a o i ≡ Ok (x, j) → Found (IsTerm o) i x j
  sum_sound a o i j x e = (lawful_product names inside below levels h).sound i j x e

  abbrev Sums : ℕ → Items → List Word → Items → Type 0
  Sums = Run sums right_product IsTerm Normal Same sum_roomy sum_ends sum_sound

  stays : (left : Items) → Normal left → Continues (Sums 1 left) (Same left) []
  stays left p = record { rest = []; value = left; is = inl (refl, refl); has = refl }

  no_times : (kd : Kind) → sum_operator kd ≡ Some Times → ⊥
  no_times k.Plus e = cc
  no_times k.Minus e = cc
  no_times _ e = cc

  no_over : (kd : Kind) → sum_operator kd ≡ Some Over → ⊥
  no_over k.Plus e = cc
  no_over k.Minus e = cc
  no_over _ e = cc

  no_modulo : (kd : Kind) → sum_operator kd ≡ Some Modulo → ⊥
  no_modulo k.Plus e = cc
  no_modulo k.Minus e = cc
  no_modulo _ e = cc

  sum_kept_by : (o : Operator) (w : Word) (left value right : Items) → sum_operator w.kind ≡ Some o → Normal left → Normal right
      → join o left right ≡ Ok value → Normal value
  sum_kept_by Plus w left value right is p q e = sum_normal left right value p q e
  sum_kept_by Minus w left value right is p q e = difference_normal left right value p q e
  sum_kept_by Times w left value right is p q e = absurd (no_times w.kind is)
  sum_kept_by Over w left value right is p q e = absurd (no_over w.kind is)
  sum_kept_by Modulo w left value right is p q e = absurd (no_modulo w.kind is)

  -- 0 added or taken away
  adds_zero : (o : Operator) (w : Word) (left : Items) → sum_operator w.kind ≡ Some o → Normal left → join o left zero_form ≡ Ok left
  adds_zero Plus w left is p = plus_zero_is left p
  adds_zero Minus w left is p = minus_zero_is left p
  adds_zero Times w left is p = absurd (no_times w.kind is)
  adds_zero Over w left is p = absurd (no_over w.kind is)
  adds_zero Modulo w left is p = absurd (no_modulo w.kind is)

  sum_kept : (left value : Items) (o : Operator) (w : Word) (front : List Word) (right : Items) → Normal left → sums.operator w.kind ≡ Some o
      → IsTerm o front right → sums.join o left right ≡ Ok value → Normal value
  unfolding sums
  sum_kept left value o w front right p is reads e = sum_kept_by o w left value right is p (product_normal_is front right reads) e

  -- a product that goes on, after a sign
  sign_product : (left : Items) (o : Operator) (w : Word) (front : List Word) → Normal left → sum_operator w.kind ≡ Some o
      → Continues (IsProduct names below levels) Zero front → Continues (λ ws x. Sums 3 left (w ∷ ws) x) (Same left) front
  unfolding sums
  sign_product left o w front p is c =
      let joins : join o left c.value ≡ Ok left = ap (join o left) c.has ∙ adds_zero o w left is p in
      let l = linked sums right_product IsTerm Normal Same sum_roomy sum_ends sum_sound 2 left left left w o (front ++ c.rest) [] c.value is c.is joins
      (inl (refl, refl)) in
      record { rest = c.rest; value = left; is = subst (λ (ws : List Word). Sums 3 left (w ∷ ws) left) (append-nil (front ++ c.rest)) l; has = refl }

  sum_cut : (left : Items) (o : Operator) (w : Word) (i : Input) (fault : Fault) (place : ℕ) → Normal left → sums.operator w.kind ≡ Some o
      → right_product left o i ≡ Err (Refused fault place)
      → Cut (λ ws x. Sums 3 left (w ∷ ws) x) (Same left) i place
  unfolding sums
  sum_cut left o w i fault place p is e = cut_as (IsProduct names below levels) (λ ws x. Sums 3 left (w ∷ ws) x) Zero (Same left) i place
      (λ front few c. sign_product left o w front p is c) (begins_product i fault place e)

  sum_starts : (left : Items) (o : Operator) (w : Word) → Normal left → sums.operator w.kind ≡ Some o → Continues (Sums 3 left) (Same left) (w ∷ [])
  unfolding sums
  sum_starts left o w p is = let c = sign_product left o w [] p is zero_product in record { rest = c.rest; value = c.value; is = c.is; has = c.has }

  -- the sign that takes back what this one gave
  abbrev Undoes : Operator → Items → Items → Items → Type 0
  Undoes o left value right = (w : Word) × ((p : Operator) × ((sum_operator w.kind ≡ Some p) × (join p value right ≡ Ok left)))

  undo : (o : Operator) (w : Word) (left value right : Items) → sum_operator w.kind ≡ Some o → Normal left → Normal right → join o left right ≡ Ok value
      → Undoes o left value right
  undo Plus w left value right is p q e =
      let same = (tested_is (sum_of left right) value e).same in (
        signed_word k.Minus,
        (
          Minus,
          (
            refl,
            ap (λ (v : Items). tested (difference_of v right)) same
                ∙ ap tested (taken-back left right (ordered left p) (ordered right q)) ∙ tested_ok left p,
          ),
        ),
      )
  undo Minus w left value right is p q e =
      let same = (tested_is (difference_of left right) value e).same in (
        signed_word k.Plus,
        (
          Plus,
          (
            refl,
            ap (λ (v : Items). tested (sum_of v right)) same
                ∙ ap tested (given-back left right (ordered left p) (ordered right q)) ∙ tested_ok left p,
          ),
        ),
      )
  undo Times w left value right is p q e = absurd (no_times w.kind is)
  undo Over w left value right is p q e = absurd (no_over w.kind is)
  undo Modulo w left value right is p q e = absurd (no_modulo w.kind is)

  -- one sign and product more at the end
  append_one : (n : ℕ) (left x y : Items) (ws front : List Word) (w : Word) (o : Operator) (right : Items) → Sums n left ws x → sum_operator w.kind ≡ Some o
      → IsProduct names below levels front right → join o x right ≡ Ok y
      → Sums (suc n) left (ws ++ (w ∷ front ++ [])) y
  unfolding sums
  append_one n left x y ws front w o right r is reads joins = chain_more sums (λ n a o. IsTerm o) (λ n m room. omega arith)
      (λ n m a o ws y h. h) n left ws x (w ∷ front ++ []) y r (record {
        word = w;
        front = front;
        rest = [];
        sign = o;
        right = right;
        value = y;
        words = refl;
        is = is;
        room = omega arith;
        is_operand = reads;
        joins = joins;
        is_rest = (refl, refl);
      })

  sum_back : (n : ℕ) (left value : Items) (o : Operator) (w : Word) (front rest : List Word) (right : Items) → Normal left → sums.operator w.kind ≡ Some o
      → IsTerm o front right → sums.join o left right ≡ Ok value
      → Continues (Sums n value) (Same value) rest → Continues (Sums (suc (suc n)) left) (Same left) (w ∷ front ++ rest)
  unfolding sums
  sum_back n left value o w front rest right p is reads joins c =
      let u = undo o w left value right is p (product_normal_is front right reads) joins in
      let more : List Word = u.0 ∷ front ++ [] in
      let back : join u.1.0 c.value right ≡ Ok left = ap (λ (v : Items). join u.1.0 v right) c.has ∙ u.1.1.1 in
      let r = append_one n value c.value left (rest ++ c.rest) front u.0 u.1.0 right c.is u.1.1.0 reads back in
      let l = linked sums right_product IsTerm Normal Same sum_roomy sum_ends sum_sound (suc n) left value left w o front
      ((rest ++ c.rest) ++ more) right is reads joins r in
      let same : front ++ ((rest ++ c.rest) ++ more) ≡ (front ++ rest) ++ (c.rest ++ more) = ap (λ (ws : List Word). front ++ ws)
      (append_assoc rest c.rest more) ∙ sym (append_assoc front rest (c.rest ++ more)) in
      record { rest = c.rest ++ more; value = left; is = subst (λ (ws : List Word). Sums (suc (suc n)) left (w ∷ ws) left) same l; has = refl }

  sums_cut : (n : ℕ) (left : Items) (i : Input) (fault : Fault) (place : ℕ) → Normal left
      → chain sums (λ n a o. right_product a o) n left i ≡ Err (Refused fault place)
      → ChainCut sums right_product IsTerm Normal Same sum_roomy sum_ends sum_sound left i place
  sums_cut n left i fault place p e = chain_cut sums right_product IsTerm Normal Same sum_roomy sum_ends sum_sound stays sum_kept sum_cut sum_starts
      sum_back n left i fault place p e

  sums_extend : (n : ℕ) (left x : Items) (ws : List Word) → Normal left → Sums n left ws x
      → Continues (Sums (count sums right_product IsTerm Normal Same sum_roomy sum_ends sum_sound ws) left) (Same left) ws
  sums_extend n left x ws p r = extends sums right_product IsTerm Normal Same sum_roomy sum_ends sum_sound stays sum_kept sum_cut sum_starts sum_back n left
      x ws p r

  pub sum_normal_is : (ws : List Word) (x : Items) → IsSum names below levels ws x → Normal x
  sum_normal_is ws x is = go max_text is.value is.rest x (product_normal_is is.front is.value is.is_first) is.is_then
    where
      go : (n : ℕ) (left : Items) (vs : List Word) (y : Items) → Normal left → Sums n left vs y → Normal y
      go zero left vs y p r = subst Normal (sym r.1) p
      go (suc n) left vs y p (inl r) = subst Normal (sym r.1) p
      go (suc n) left vs y p (inr l) = go n l.value l.rest y (sum_kept left l.value l.sign l.word l.front l.right p l.is l.is_operand l.joins) l.is_rest

  one_product : (x : Items) → Sums max_text x [] x
  unfolding max_text
  one_product x = inl (refl, refl)

  zero_sum : Continues (IsSum names below levels) Zero []
  zero_sum = let c = zero_product in both_go (IsProduct names below levels) (λ x. Sums max_text x) Zero [] c.rest c.value c.is
      (record { rest = []; value = c.value; is = one_product c.value; has = c.has })

  -- what comes back to the first product ends in 0 when that is taken away
  ends_in_zero : (x : Items) (front more : List Word) → Normal x → IsProduct names below levels front x → Few (front ++ more)
      → Continues (Sums (2 * length more + 1) x) (Same x) more → Continues (Sums max_text x) Zero more
  ends_in_zero x front more p is few c =
      let none : join Minus c.value x ≡ Ok zero_form = ap (λ (v : Items). tested (difference_of v x)) c.has ∙ ap tested (minus-itself x)
      ∙ tested_ok zero_form zero_normal in
      let r = append_one (2 * length more + 1) x c.value zero_form (more ++ c.rest) front (signed_word k.Minus) Minus x c.is refl is none in
      let m = longer sums right_product IsTerm Normal Same sum_roomy sum_ends sum_sound (suc (2 * length more + 1)) max_text x zero_form
      ((more ++ c.rest) ++ (signed_word k.Minus ∷ front ++ [])) (let s = (room_for_few front more few).1 in omega (arith, s)) r in
      record {
        rest = c.rest ++ (signed_word k.Minus ∷ front ++ []);
        value = zero_form;
        is = subst (λ (ws : List Word). Sums max_text x ws zero_form)
            (append_assoc more c.rest (signed_word k.Minus ∷ front ++ [])) m;
        has = refl;
      }

  begins_sum : Begins (sum names inside levels) (IsSum names below levels) Zero
  unfolding sum
  begins_sum = λ i fault place e. go i fault place (which (product names inside levels i)
      (λ x. chain sums (λ n a o. product names inside levels) max_text x) (Refused fault place) e)
    where
      go : (i : Input) (fault : Fault) (place : ℕ) → (product names inside levels i ≡ Err (Refused fault place)) ⊎ Later (product names inside levels i)
          (λ x. chain sums (λ n a o. product names inside levels) max_text x) (Refused fault place)
          → Cut (IsSum names below levels) Zero i place
      go i fault place (inl e) = cut_as (IsProduct names below levels) (IsSum names below levels) Zero Zero i place
          (λ front few c. both_go (IsProduct names below levels) (λ x. Sums max_text x) Zero front c.rest c.value c.is
          (record { rest = []; value = c.value; is = one_product c.value; has = c.has })) (begins_product i fault place e)
      go i fault place (inr l) =
          let s = (lawful_product names inside below levels h).sound i l.at l.value l.first in
          let p = product_normal_is s.front l.value s.is in
          let c = sums_cut max_text l.value l.at fault place p l.rest in
          record {
            front = s.front ++ c.front;
            at = c.at;
            words = s.words ∙ ap (ahead s.front) c.words ∙ ahead_append s.front c.front c.at;
            stands = c.stands;
            goes = inr (λ few. both_on (IsProduct names below levels) (λ x. Sums max_text x) Zero s.front c.front l.value s.is
                (ends_in_zero l.value s.front c.front p s.is few (c.goes (few_rest s.front c.front few))));
          }

  extends_sum : (ws : List Word) (x : Items) → IsSum names below levels ws x → Few ws → Continues (IsSum names below levels) Zero ws
  extends_sum ws x is few =
      let p = product_normal_is is.front is.value is.is_first in
      let some : Few (is.front ++ is.rest) = subst Few is.words few in
      let c = both_on (IsProduct names below levels) (λ y. Sums max_text y) Zero is.front is.rest is.value is.is_first
      (ends_in_zero is.value is.front is.rest p is.is_first some (sums_extend max_text is.value x is.rest p is.is_then)) in
      subst (λ (vs : List Word). Continues (IsSum names below levels) Zero vs) (sym is.words) c

  -- ---- sums that end in 1 or in -1

  is_one_product : IsProduct names below levels (one_word ∷ []) (literal_form (pos 1))
  is_one_product = record {
    value = literal_form (pos 1);
    front = one_word ∷ [];
    rest = [];
    words = refl;
    is_first =
        (k.Number, record { word = one_word; is = refl; reads_as = reads_unit; words = refl });
    is_then = alone (literal_form (pos 1));
  }

  -- a sign and 1 after what is 0
  unit_after : (n : ℕ) (left x t : Items) (ws : List Word) (o : Operator) (w : Word) → sum_operator w.kind ≡ Some o
      → join o zero_form (literal_form (pos 1)) ≡ Ok t → Zero x → Sums n left ws x → Sums (suc n) left (ws ++ (w ∷ (one_word ∷ []) ++ [])) t
  unit_after n left x t ws o w is joins z r = append_one n left x t ws (one_word ∷ []) w o (literal_form (pos 1)) r is is_one_product
      (ap (λ (v : Items). join o v (literal_form (pos 1))) z ∙ joins)

  more_room : (front rest : List Word) → Few (front ++ rest) → 2 * length rest + 3 ≤ max_text
  unfolding max_text
  more_room front rest few = let l = length-append front rest in omega (arith, few, l)

  one_at_most : 1 ≤ max_text
  unfolding max_text
  one_at_most = omega arith

  module _ (t : Items) (o : Operator) (w : Word) (is : sum_operator w.kind ≡ Some o) (joins : join o zero_form (literal_form (pos 1)) ≡ Ok t) where
    abbrev Target : Items → Type 0
    Target x = x ≡ t

    first_to : (front : List Word) → Continues (IsProduct names below levels) Zero front → Continues (IsSum names below levels) Target front
    first_to front c = both_go (IsProduct names below levels) (λ x. Sums max_text x) Target front c.rest c.value c.is (record {
      rest = w ∷ (one_word ∷ []) ++ [];
      value = t;
      is = longer sums right_product IsTerm Normal Same sum_roomy sum_ends sum_sound 1 max_text c.value t (w ∷ (one_word ∷ []) ++ []) one_at_most
          (unit_after zero c.value c.value t [] o w is joins c.has (refl, refl));
      has = refl;
    })

    pub some_to : Continues (IsSum names below levels) Target []
    some_to = first_to [] zero_product

    ends_in_unit : (x : Items) (front more : List Word) → Normal x → IsProduct names below levels front x → Few (front ++ more)
        → Continues (Sums (2 * length more + 1) x) (Same x) more → Continues (Sums max_text x) Target more
    ends_in_unit x front more p reads few c =
        let none : join Minus c.value x ≡ Ok zero_form = ap (λ (v : Items). tested (difference_of v x)) c.has ∙ ap tested (minus-itself x)
        ∙ tested_ok zero_form zero_normal in
        let back : List Word = signed_word k.Minus ∷ front ++ [] in
        let last : List Word = w ∷ (one_word ∷ []) ++ [] in
        let r = append_one (2 * length more + 1) x c.value zero_form (more ++ c.rest) front (signed_word k.Minus) Minus x c.is refl reads none in
        let u = unit_after (suc (2 * length more + 1)) x zero_form t ((more ++ c.rest) ++ back) o w is joins refl r in
        let m = longer sums right_product IsTerm Normal Same sum_roomy sum_ends sum_sound (suc (suc (2 * length more + 1))) max_text x t
        (((more ++ c.rest) ++ back) ++ last) (let s = more_room front more few in omega (arith, s)) u in
        let same : ((more ++ c.rest) ++ back) ++ last ≡ more ++ (c.rest ++ (back ++ last)) = append_assoc (more ++ c.rest) back last
        ∙ append_assoc more c.rest (back ++ last) in
        record { rest = c.rest ++ (back ++ last); value = t; is = subst (λ (ws : List Word). Sums max_text x ws t) same m; has = refl }

    pub begins_to : Begins (sum names inside levels) (IsSum names below levels) Target
    unfolding sum
    begins_to = λ i fault place e. go i fault place (which (product names inside levels i)
        (λ x. chain sums (λ n a o. product names inside levels) max_text x) (Refused fault place) e)
      where
        go : (i : Input) (fault : Fault) (place : ℕ) → (product names inside levels i ≡ Err (Refused fault place)) ⊎ Later (product names inside levels i)
            (λ x. chain sums (λ n a o. product names inside levels) max_text x) (Refused fault place)
            → Cut (IsSum names below levels) Target i place
        go i fault place (inl e) = cut_as (IsProduct names below levels) (IsSum names below levels) Zero Target i place (λ front few c. first_to front c)
            (begins_product i fault place e)
        go i fault place (inr l) =
            let s = (lawful_product names inside below levels h).sound i l.at l.value l.first in
            let p = product_normal_is s.front l.value s.is in
            let c = sums_cut max_text l.value l.at fault place p l.rest in
            record {
              front = s.front ++ c.front;
              at = c.at;
              words = s.words ∙ ap (ahead s.front) c.words ∙ ahead_append s.front c.front c.at;
              stands = c.stands;
              goes = inr (λ few. both_on (IsProduct names below levels) (λ x. Sums max_text x) Target s.front c.front l.value s.is
                  (ends_in_unit l.value s.front c.front p s.is few (c.goes (few_rest s.front c.front few))));
            }

  -- ---- all levels

  normal_level : (level : Level) (ws : List Word) (x : Items) → IsByLevel names below levels level ws x → Normal x
  normal_level Sum ws x is = sum_normal_is ws x is
  normal_level Product ws x is = product_normal_is ws x is
  normal_level Part ws x is = normal_part ws x is

  zero_level : (level : Level) → Continues (IsByLevel names below levels level) Zero []
  zero_level Sum = zero_sum
  zero_level Product = zero_product
  zero_level Part = zero_part

  begins_level : (level : Level) → Begins (by_level names inside levels level) (IsByLevel names below levels level) Zero
  begins_level Sum = begins_sum
  begins_level Product = begins_product
  begins_level Part = begins_part

-- what holds of the rules of one level and their readers
record Good (inside : Level → Parser Items) (rules : Level → List Word → Items → Type 0) : Type 0 where
  normal : (level : Level) (ws : List Word) (x : Items) → rules level ws x → Normal x
  zero : (level : Level) → Continues (rules level) Zero []
  extends : (ws : List Word) (x : Items) → rules Sum ws x → Few ws → Continues (rules Sum) Zero ws
  begins : (level : Level) → Begins (inside level) (rules level) Zero

-- the same of the level below, which is there only where a level is left
record Under (levels : ℕ) (inside : Level → Parser Items) (rules : Level → List Word → Items → Type 0) : Type 0 where
  normal : (level : Level) (ws : List Word) (x : Items) → rules level ws x → Normal x
  zero : 0 < levels → (level : Level) → Continues (rules level) Zero []
  extends : (ws : List Word) (x : Items) → rules Sum ws x → Few ws → Continues (rules Sum) Zero ws
  begins : 0 < levels → (level : Level) → Begins (inside level) (rules level) Zero

no_room : 0 < zero → ⊥
no_room room = omega (arith, room)

module _ (names : Text → Result Items Fault) (named : (t : Text) (x : Items) → names t ≡ Ok x → Normal x) where
  over : (levels : ℕ) → Under levels (inner names levels) (IsInner names levels) → Good (index names levels) (IsIndex names levels)
  over levels u =
      let inside : Level → Parser Items = inner names levels in
      let below : Level → List Word → Items → Type 0 = IsInner names levels in
      record {
        normal = normal_level names named inside below levels (lawful_inner names levels) u.normal u.zero u.extends u.begins;
        zero = zero_level names named inside below levels (lawful_inner names levels) u.normal u.zero u.extends u.begins;
        extends = extends_sum names named inside below levels (lawful_inner names levels) u.normal u.zero u.extends u.begins;
        begins = begins_level names named inside below levels (lawful_inner names levels) u.normal u.zero u.extends u.begins;
      }

  under : (levels : ℕ) → Under levels (inner names levels) (IsInner names levels)
  unfolding inner
  under zero = record {
    normal = λ level ws x is. absurd is;
    zero = λ room level. absurd (no_room room);
    extends = λ ws x is few. absurd is;
    begins = λ room level. absurd (no_room room);
  }
  under (suc levels) =
      let g = over levels (under levels) in
      record { normal = g.normal; zero = λ room level. g.zero level; extends = g.extends; begins = λ room level. g.begins level }

  good : (levels : ℕ) → Good (index names levels) (IsIndex names levels)
  good levels = over levels (under levels)

  -- The words before the word of a fault are the beginning of an index, and of one that is 0.
  pub begins_index : (levels : ℕ) (level : Level) → Begins (index names levels level) (IsIndex names levels level) Zero
  begins_index levels level = (good levels).begins level

  pub zero_index : (levels : ℕ) (level : Level) → Continues (IsIndex names levels level) Zero []
  zero_index levels level = (good levels).zero level

  pub normal_index : (levels : ℕ) (level : Level) (ws : List Word) (x : Items) → IsIndex names levels level ws x → Normal x
  normal_index levels level ws x is = (good levels).normal level ws x is

  -- The same for 1 or -1, which a last sign and 1 make of 0.
  module _ (levels : ℕ) (t : Items) (o : Operator) (w : Word) (is : sum_operator w.kind ≡ Some o) (joins : join o zero_form (literal_form (pos 1)) ≡ Ok t) where
    abbrev inside : Level → Parser Items
    inside = inner names levels

    abbrev below : Level → List Word → Items → Type 0
    below = IsInner names levels

    pub begins_index_to : Begins (index names levels Sum) (IsIndex names levels Sum) (λ x. x ≡ t)
    begins_index_to = let u = under levels in
        begins_to names named inside below levels (lawful_inner names levels) u.normal u.zero u.extends u.begins t o w is joins

    pub index_to : Continues (IsIndex names levels Sum) (λ x. x ≡ t) []
    index_to = let u = under levels in
        some_to names named inside below levels (lawful_inner names levels) u.normal u.zero u.extends u.begins t o w is joins
