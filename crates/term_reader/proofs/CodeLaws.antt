-- Chains of an index, beside the loops that read them.
use Rattle.std.proofs.Common.{◌≡◌, ℕ, zero, suc, ◌+◌, ◌-◌, ◌<◌, ◌≤◌, ◌==◌, nat_lt, pos, cond, Bool, true, false, Option, Some, None, Result, Ok, Err, ◌≢◌, refl}
use Rattle.std.proofs.Common.{sym, ap, subst, ◌∙◌, arith}
use Rattle.text_tokens.specs.declared.kind.Kind.{Kind}
use Rattle.text_tokens.specs.declared.kind.Kind.TheVariants as k
use Rattle.text_tokens.specs.Numbers.{number}
use Rattle.text_tokens.specs.Kinds.{Text, same_kind}
use Rattle.affine_index.specs.Form.{literal_form}
use Rattle.reader_laws.specs.declared.fault.Fault.TheVariants.{BadSyntax, NumberTooLarge}
use Rattle.reader_laws.proofs.Outcomes.{ok_value, ok_input}
use Rattle.reader_laws.specs.Levels.{word_in, misplaced_in, unexpected_in}
use Rattle.text_tokens.specs.Words.{Word, Input, peek, next}
use Rattle.affine_index.specs.declared.form.Items.{Items}
use Rattle.reader_laws.specs.declared.fault.Fault.{Fault}
use Rattle.reader_laws.specs.declared.fault.Fault.TheVariants.{TooDeep}
use Rattle.reader_laws.specs.declared.fault.ReadError.{ReadError}
use Rattle.reader_laws.specs.declared.fault.ReadError.TheVariants.{Memory}
use Rattle.affine_index.specs.Quotient.{quotient_of, remainder_of}
use Rattle.source_grammar.specs.Limits.{tested}
use Rattle.source_grammar.specs.declared.operator.Operator.TheVariants.{Times, Over, Modulo}
use Rattle.reader_laws.specs.Steps.{Parser, Outcome, and_then, refusal, kind, text, read_as, Reads, Gives}
use Rattle.reader_laws.specs.Chain.{joined, chain}
use Rattle.reader_laws.proofs.Loops.{chain_stop, chain_go, chain_full}
use Rattle.source_grammar.specs.declared.operator.Operator.{Operator}
use Rattle.source_grammar.specs.Index.{divisor_if, divisor_value, Level, Sum, Part, join, sum_operator, product_operator, sums, products, max_text}
use Rattle.source_grammar.specs.ReadIndex.{right_of, part, product, sum, inner}
use Rattle.term_reader.specs.Steps.{IsOfProduct, placed, answer, next_divisor, next_part, next_product, more_products, more_sums, divisor_number, divisor_number_if}

-- a join and what follows, as one step and then what follows
stepped : {A : Type 0} (w : Word) (r : Result A Fault) (more : A → Parser A) (i : Input) → joined w r more i ≡ and_then (answer (placed w.place r) i) more
stepped w (Ok x) more i = refl
stepped w (Err fault) more i = refl

stepped_all : {A B : Type 0} (w : Word) (r : Outcome B) (join : B → Result A Fault) (more : A → Parser A)
    → and_then r (λ right. joined w (join right) more) ≡ and_then (and_then r (λ right. answer (placed w.place (join right)))) more
stepped_all w (Ok p) join more = stepped w (join p.0) more p.1
stepped_all w (Err e) join more = refl

module _ (names : Text → Result Items Fault) (inside : Level → Parser Items) (levels : ℕ) where
  abbrev pub Products : ℕ → Items → Parser Items
  Products n left = chain products (λ n a o. right_of names inside levels o) n left

  abbrev pub Sums : ℕ → Items → Parser Items
  Sums n left = chain sums (λ n a o. product names inside levels) n left

  pub products_stop : (n : ℕ) (left : Items) (i : Input) → product_operator (kind i) ≡ None → Products n left i ≡ Ok (left, i)
  unfolding products
  products_stop n left i e = chain_stop products (λ n a o. right_of names inside levels o) n left i e

  pub products_turn : (n at place : ℕ) (left : Items) (o : Operator) (i : Input) → place ≡ (peek i).place → at < n → product_operator (kind i) ≡ Some o
      → Products (n - at) left i ≡ and_then (next_part names inside levels place left o (next i)) (Products (n - (at + 1)))
  unfolding products next_part
  products_turn n at place left o i stands below e =
      chain_go products (λ n a o. right_of names inside levels o) n at left o i (right_of names inside levels o (next i)) below (omega arith) e refl
      ∙ stepped_all (peek i) (right_of names inside levels o (next i)) (join o left) (Products (n - (at + 1)))
      ∙ ap (λ (p : ℕ). and_then (and_then (right_of names inside levels o (next i)) (λ right. answer (placed p (join o left right)))) (Products (n - (at + 1))))
      (sym stands)

  pub products_went : (n at place : ℕ) (left value : Items) (o : Operator) (i j : Input) → place ≡ (peek i).place → at < n → product_operator (kind i) ≡ Some o
      → next_part names inside levels place left o (next i) ≡ Ok (value, j) → Products (n - at) left i ≡ Products (n - (at + 1)) value j
  products_went n at place left value o i j stands below e reads = products_turn n at place left o i stands below e
      ∙ ap (λ r. and_then r (Products (n - (at + 1)))) reads

  pub products_fell : (n at place : ℕ) (left : Items) (o : Operator) (i : Input) (x : ReadError) → place ≡ (peek i).place → at < n
      → product_operator (kind i) ≡ Some o
      → next_part names inside levels place left o (next i) ≡ Err x → Products (n - at) left i ≡ Err x
  products_fell n at place left o i x stands below e reads = products_turn n at place left o i stands below e
      ∙ ap (λ r. and_then r (Products (n - (at + 1)))) reads

  pub products_full : (n at : ℕ) (left : Items) (o : Operator) (i : Input) → n ≤ at → product_operator (kind i) ≡ Some o
      → Products (n - at) left i ≡ Err (refusal TooDeep i)
  unfolding products
  products_full n at left o i done e = chain_full products (λ n a o. right_of names inside levels o) n at left o i done e

  pub sums_stop : (n : ℕ) (left : Items) (i : Input) → sum_operator (kind i) ≡ None → Sums n left i ≡ Ok (left, i)
  unfolding sums
  sums_stop n left i e = chain_stop sums (λ n a o. product names inside levels) n left i e

  pub sums_turn : (n at place : ℕ) (left : Items) (o : Operator) (i : Input) → place ≡ (peek i).place → at < n → sum_operator (kind i) ≡ Some o
      → Sums (n - at) left i ≡ and_then (next_product names inside levels place left o (next i)) (Sums (n - (at + 1)))
  unfolding sums next_product
  sums_turn n at place left o i stands below e =
      chain_go sums (λ n a o. product names inside levels) n at left o i (product names inside levels (next i)) below (omega arith) e refl
      ∙ stepped_all (peek i) (product names inside levels (next i)) (join o left) (Sums (n - (at + 1)))
      ∙ ap (λ (p : ℕ). and_then (and_then (product names inside levels (next i)) (λ right. answer (placed p (join o left right)))) (Sums (n - (at + 1))))
      (sym stands)

  pub sums_went : (n at place : ℕ) (left value : Items) (o : Operator) (i j : Input) → place ≡ (peek i).place → at < n → sum_operator (kind i) ≡ Some o
      → next_product names inside levels place left o (next i) ≡ Ok (value, j) → Sums (n - at) left i ≡ Sums (n - (at + 1)) value j
  sums_went n at place left value o i j stands below e reads = sums_turn n at place left o i stands below e ∙ ap (λ r. and_then r (Sums (n - (at + 1)))) reads

  pub sums_fell : (n at place : ℕ) (left : Items) (o : Operator) (i : Input) (x : ReadError) → place ≡ (peek i).place → at < n → sum_operator (kind i) ≡ Some o
      → next_product names inside levels place left o (next i) ≡ Err x → Sums (n - at) left i ≡ Err x
  sums_fell n at place left o i x stands below e reads = sums_turn n at place left o i stands below e ∙ ap (λ r. and_then r (Sums (n - (at + 1)))) reads

  pub sums_full : (n at : ℕ) (left : Items) (o : Operator) (i : Input) → n ≤ at → sum_operator (kind i) ≡ Some o
      → Sums (n - at) left i ≡ Err (refusal TooDeep i)
  unfolding sums
  sums_full n at left o i done e = chain_full sums (λ n a o. product names inside levels) n at left o i done e

pub inner_sum : (names : Text → Result Items Fault) (levels : ℕ) (i : Input) → 0 < levels
    → inner names levels Sum i ≡ sum names (inner names (levels - 1)) (levels - 1) i
unfolding inner
inner_sum names zero i some = absurd (omega arith)
inner_sum names (suc levels) i some = let e : suc levels - 1 ≡ levels = omega arith in rw e refl

pub inner_part : (names : Text → Result Items Fault) (levels : ℕ) (i : Input) → 0 < levels
    → inner names levels Part i ≡ part names (inner names (levels - 1)) (levels - 1) i
unfolding inner
inner_part names zero i some = absurd (omega arith)
inner_part names (suc levels) i some = let e : suc levels - 1 ≡ levels = omega arith in rw e refl

pub text_limit : max_text ≡ 9223372036854775808
unfolding max_text
text_limit = refl

-- ---- a divisor's number, beside its form

abbrev failed : ReadError → Outcome ℕ
failed e = Err e

same_error : (a b : ReadError) → failed a ≡ failed b → a ≡ b
same_error a b h = cc

numbers : (n : ℕ) (a b : Bool) (i j : Input) (m : ℕ) → read_as (cond a (let r : Result ℕ Fault = Err BadSyntax in r) (cond b (Err NumberTooLarge) (Ok n))) i
    ≡ Ok (m, j)
    → read_as (cond a (let r : Result Items Fault = Err BadSyntax in r) (cond b (Err NumberTooLarge) (Ok (literal_form (pos n))))) i
    ≡ Ok (literal_form (pos m), j)
numbers n true b i j m h = absurd cc
numbers n false true i j m h = absurd cc
numbers n false false i j m h = λ d. Ok (literal_form (pos (ok_value n m (next i) j h d)), ok_input n m (next i) j h d)

faults : (n : ℕ) (a b : Bool) (i : Input) (x : ReadError) → read_as (cond a (let r : Result ℕ Fault = Err BadSyntax in r) (cond b (Err NumberTooLarge) (Ok n)))
    i ≡ Err x
    → read_as (cond a (let r : Result Items Fault = Err BadSyntax in r) (cond b (Err NumberTooLarge) (Ok (literal_form (pos n))))) i ≡ Err x
faults n true b i x h = ap (λ (e : ReadError). let o : Outcome Items = Err e in o) (same_error (refusal BadSyntax i) x h)
faults n false true i x h = ap (λ (e : ReadError). let o : Outcome Items = Err e in o) (same_error (refusal NumberTooLarge i) x h)
faults n false false i x h = absurd cc

pub divisor_ok : (levels : ℕ) (i j : Input) (m : ℕ) → word_in levels k.Number divisor_number i ≡ Ok (m, j)
    → word_in levels k.Number divisor_value i ≡ Ok (literal_form (pos m), j)
unfolding word_in
divisor_ok levels i j m h = go (same_kind (kind i) k.Number) (number (text i)) h
  where
    go : (s : Bool) (v : Option ℕ) → cond s (read_as (divisor_number_if v) i) (unexpected_in levels i) ≡ Ok (m, j)
        → cond s (read_as (divisor_if v) i) (unexpected_in levels i) ≡ Ok (literal_form (pos m), j)
    go false v h = absurd cc
    go true None h = absurd cc
    go true (Some n) h = numbers n (n == 0) (nat_lt 2147483647 n) i j m h

pub divisor_err : (levels : ℕ) (i : Input) (x : ReadError) → word_in levels k.Number divisor_number i ≡ Err x → word_in levels k.Number divisor_value i ≡ Err x
unfolding word_in
divisor_err levels i x h = go (same_kind (kind i) k.Number) (number (text i)) h
  where
    go : (s : Bool) (v : Option ℕ) → cond s (read_as (divisor_number_if v) i) (unexpected_in levels i) ≡ Err x
        → cond s (read_as (divisor_if v) i) (unexpected_in levels i) ≡ Err x
    go false v h = ap (λ (e : ReadError). let o : Outcome Items = Err e in o) (same_error (misplaced_in levels i) x h)
    go true None h = ap (λ (e : ReadError). let o : Outcome Items = Err e in o) (same_error (refusal NumberTooLarge i) x h)
    go true (Some n) h = faults n (n == 0) (nat_lt 2147483647 n) i x h

-- ---- answers

pub answered : {A : Type 0} (r due : Result A ReadError) (j : Input) → Gives (λ x. x) r due → Reads (λ x. x) (answer due j) r j
answered {A = A} (Ok a) due j h = ap (λ (d : Result A ReadError). answer d j) h
answered {A = A} (Err e) due j h = λ n. ap (λ (d : Result A ReadError). answer d j) (h n)

module _ (names : Text → Result Items Fault) (inside : Level → Parser Items) (levels : ℕ) where
  pub products_fails : (n at place : ℕ) (left : Items) (o : Operator) (i : Input) (x : ReadError) → place ≡ (peek i).place → at < n
      → product_operator (kind i) ≡ Some o
      → (x ≢ Memory → next_part names inside levels place left o (next i) ≡ Err x) → x ≢ Memory → more_products names inside levels (n - at) left i ≡ Err x
  products_fails n at place left o i x stands below e reads = λ not. products_fell names inside levels n at place left o i x stands below e (reads not)

  pub sums_fails : (n at place : ℕ) (left : Items) (o : Operator) (i : Input) (x : ReadError) → place ≡ (peek i).place → at < n → sum_operator (kind i) ≡ Some o
      → (x ≢ Memory → next_product names inside levels place left o (next i) ≡ Err x) → x ≢ Memory → more_sums names inside levels (n - at) left i ≡ Err x
  sums_fails n at place left o i x stands below e reads = λ not. sums_fell names inside levels n at place left o i x stands below e (reads not)

-- ---- divisors

module _ (levels : ℕ) where
  over_gives_so : (place : ℕ) (left : Items) (i j : Input) (by : ℕ) (r : Result Items ReadError) → word_in levels k.Number divisor_number i ≡ Ok (by, j)
      → Gives (λ x. x) r (placed place (tested (quotient_of left by))) → Reads (λ x. x) (next_divisor levels place left Over i) r j
  unfolding next_divisor
  over_gives_so place left i j by r reads h =
      subst (λ (o : Outcome Items). Reads (λ x. x) (and_then o (λ right. answer (placed place (join Over left right)))) r j)
      (sym (divisor_ok levels i j by reads)) (answered r (placed place (tested (quotient_of left by))) j h)

  modulo_gives_so : (place : ℕ) (left : Items) (i j : Input) (by : ℕ) (r : Result Items ReadError) → word_in levels k.Number divisor_number i ≡ Ok (by, j)
      → Gives (λ x. x) r (placed place (tested (remainder_of left by))) → Reads (λ x. x) (next_divisor levels place left Modulo i) r j
  unfolding next_divisor
  modulo_gives_so place left i j by r reads h =
      subst (λ (o : Outcome Items). Reads (λ x. x) (and_then o (λ right. answer (placed place (join Modulo left right)))) r j)
      (sym (divisor_ok levels i j by reads)) (answered r (placed place (tested (remainder_of left by))) j h)

  pub over_gives : (place : ℕ) (left : Items) (o : Operator) (i j : Input) (by : ℕ) (r : Result Items ReadError) → o ≡ Over
      → word_in levels k.Number divisor_number i ≡ Ok (by, j) → Gives (λ x. x) r (placed place (tested (quotient_of left by)))
      → Reads (λ x. x) (next_divisor levels place left o i) r j
  over_gives place left o i j by r is reads h = subst (λ (p : Operator). Reads (λ x. x) (next_divisor levels place left p i) r j) (sym is)
      (over_gives_so place left i j by r reads h)

  pub modulo_gives : (place : ℕ) (left : Items) (o : Operator) (i j : Input) (by : ℕ) (r : Result Items ReadError) → o ≡ Modulo
      → word_in levels k.Number divisor_number i ≡ Ok (by, j) → Gives (λ x. x) r (placed place (tested (remainder_of left by)))
      → Reads (λ x. x) (next_divisor levels place left o i) r j
  modulo_gives place left o i j by r is reads h = subst (λ (p : Operator). Reads (λ x. x) (next_divisor levels place left p i) r j) (sym is)
      (modulo_gives_so place left i j by r reads h)

same_operator : (a b : Operator) → (let f : Option Operator = Some a in f) ≡ Some b → a ≡ b
same_operator a b h = cc

-- an operator of a product is one
pub is_of_product : (kd : Kind) (o : Operator) → product_operator kd ≡ Some o → IsOfProduct o
is_of_product k.Star o e = subst IsOfProduct (same_operator Times o e) tt
is_of_product k.Slash o e = subst IsOfProduct (same_operator Over o e) tt
is_of_product k.Percent o e = subst IsOfProduct (same_operator Modulo o e) tt
is_of_product _ o e = absurd cc

pub reads_err : {A : Type 0} (due : Outcome A) (r : Result A ReadError) (x : ReadError) (j : Input) → r ≡ Err x → (x ≢ Memory → due ≡ Err x)
    → Reads (λ x. x) due r j
reads_err {A = A} due r x j is h = subst (λ (s : Result A ReadError). Reads (λ y. y) due s j) (sym is) h
