-- Indices and conditions that are read are of normal forms, and a condition has no more comparisons than words.
use Rattle.std.proofs.Common.{◌≡◌, inl, inr, ℕ, zero, suc, ◌+◌, ◌≤◌, ◌&&◌, nat_le, true, List, [], ◌∷◌, ◌++◌, length, Option, Some, None}
use Rattle.std.proofs.Common.{Result, Ok, Err, refl, sym, ap, subst, ◌∙◌, arith, length-append}
use Rattle.std.specs.Prelude.{pos}
use Rattle.std.specs.Int.RustNames.{unsigned_abs}
use Rattle.std.proofs.lemmas.Bool.{and_from, and_parts}
use Rattle.text_tokens.specs.declared.kind.Kind.{Kind}
use Rattle.text_tokens.specs.declared.kind.Kind.TheVariants as k
use Rattle.text_tokens.specs.Kinds.{Text}
use Rattle.text_tokens.specs.Words.{Word}
use Rattle.affine_index.specs.Condition.{cmp_form}
use Rattle.affine_index.specs.Count.{items_count, atom_count}
use Rattle.affine_index.specs.Form.{literal_form, size_form, var_form, of_atom}
use Rattle.affine_index.specs.Normal.{atom_good, atom_is_ordered, items_good, layer_good, is_normal, is_ordered, coefficients_fit, is_short}
use Rattle.affine_index.specs.Quotient.{quotient_of, remainder_of}
use Rattle.affine_index.specs.Sum.{difference_of}
use Rattle.affine_index.specs.declared.cond.Cmp.{Cmp}
use Rattle.affine_index.specs.declared.cond.Cmp.TheVariants.{Ge, Eq}
use Rattle.affine_index.specs.declared.cond.Cond.{Cond}
use Rattle.affine_index.specs.declared.cond.Rel.{Rel}
use Rattle.affine_index.specs.declared.cond.Rel.TheVariants as rel
use Rattle.affine_index.specs.declared.form.Atom.{Atom}
use Rattle.affine_index.specs.declared.form.Atom.TheVariants.{Size, Var}
use Rattle.affine_index.specs.declared.form.Items.{Items}
use Rattle.affine_index.proofs.CountLaws.{count-items, count-Size, count-Var}
use Rattle.affine_index.proofs.EveryLaws.{every-Size, every-Var}
use Rattle.affine_index.proofs.OrderedLaws.{atom-ordered, difference-ordered, literal-ordered}
use Rattle.affine_index.proofs.ReadyLaws.{out-Size, out-Var}
use Rattle.term_tree.specs.Limits.{each_cmp}
use Rattle.reader_laws.specs.declared.fault.Fault.{Fault}
use Rattle.reader_laws.specs.Chain.{signed}
use Rattle.reader_laws.specs.Grammar.{IsChain, IsRepeated}
use Rattle.reader_laws.proofs.Repeated.{repeated_keeps}
use Rattle.source_grammar.specs.declared.operator.Operator.{Operator}
use Rattle.source_grammar.specs.declared.operator.Operator.TheVariants.{Plus, Minus, Times, Over, Modulo}
use Rattle.source_grammar.specs.declared.sort.Meaning.{Meaning}
use Rattle.source_grammar.specs.declared.sort.Sort.{Sort}
use Rattle.source_grammar.specs.declared.sort.Sort.TheVariants.{OfSize, OfIndex, OfTensor}
use Rattle.source_grammar.specs.Conditions.{IsComparison, IsCondition, compared, if_tested, with_last}
use Rattle.source_grammar.specs.Index.{IsByLevel, IsIndex, IsInner, IsPartBy, IsProduct, IsRight, IsSign, IsSum, Level, Part, Product, Sum, join, products}
use Rattle.source_grammar.specs.Index.{sum_operator, sums}
use Rattle.source_grammar.specs.Limits.{tested}
use Rattle.source_grammar.specs.Scope.{Scope, meaning, if_known, index_form, size_form_of, index_name, extent_name}
use Rattle.source_grammar.proofs.NormalForms.{Normal, difference_normal, divisor_is, literal_is_normal, negated_normal, ordered, product_normal}
use Rattle.source_grammar.proofs.NormalForms.{quotient_normal, remainder_normal, sum_normal, tested_normal}

-- ---- the forms of names

atom_normal : (a : Atom) → atom_is_ordered a ≡ true → atom_count a ≡ 1 → Normal (of_atom a)
atom_normal a good one =
    let count : items_count (of_atom a) ≡ 1 = count-items (of_atom a) ∙ ap (λ n. n + 0) one in
    and_from (is_ordered (of_atom a)) (coefficients_fit (of_atom a) && is_short (of_atom a)) (atom-ordered a good)
    (and_from (coefficients_fit (of_atom a)) (is_short (of_atom a)) refl (ap (λ n. nat_le n 128) count))

size_normal : (n : ℕ) → Normal (size_form n)
size_normal n = atom_normal (Size n) (every-Size atom_good items_good n ∙ ap layer_good (out-Size n)) (count-Size n)

var_normal : (n : ℕ) → Normal (var_form n)
var_normal n = atom_normal (Var n) (every-Var atom_good items_good n ∙ ap layer_good (out-Var n)) (count-Var n)

abbrev ok : Items → Result Items Fault
ok i = Ok i

same_form : (a b : Items) → ok a ≡ ok b → a ≡ b
same_form a b h = cc

form_normal : (s : Sort) (n : ℕ) (x : Items) → index_form s n ≡ Ok x → Normal x
form_normal OfSize n x h = subst Normal (same_form (size_form n) x h) (size_normal n)
form_normal OfIndex n x h = subst Normal (same_form (var_form n) x h) (var_normal n)
form_normal OfTensor n x h = absurd cc

extent_normal : (s : Sort) (n : ℕ) (x : Items) → size_form_of s n ≡ Ok x → Normal x
extent_normal OfSize n x h = subst Normal (same_form (size_form n) x h) (size_normal n)
extent_normal OfIndex n x h = absurd cc
extent_normal OfTensor n x h = absurd cc

pub index_named : (scope : Scope) (t : Text) (x : Items) → index_name scope t ≡ Ok x → Normal x
index_named scope t x h = go (meaning scope t) h
  where
    go : (m : Option Meaning) → if_known index_form m ≡ Ok x → Normal x
    go None h = absurd cc
    go (Some m) h = form_normal m.sort m.number x h

pub extent_named : (scope : Scope) (t : Text) (x : Items) → extent_name scope t ≡ Ok x → Normal x
extent_named scope t x h = go (meaning scope t) h
  where
    go : (m : Option Meaning) → if_known size_form_of m ≡ Ok x → Normal x
    go None h = absurd cc
    go (Some m) h = extent_normal m.sort m.number x h

-- ---- what is repeated

abbrev joins_to : {A : Type 0} → A → Result A Fault
joins_to v = Ok v

same : {A : Type 0} (v w : A) → joins_to v ≡ joins_to w → v ≡ w
same v w h = cc

-- what grows by no more than the words of each item is no larger than the words of all
pub repeated_few : {A B : Type 0} (a : Kind) (add : A → B → A) (rule : A → List Word → B → Type 0) (size : A → ℕ)
    → ((x : A) (ws : List Word) (y : B) → rule x ws y → size (add x y) ≤ size x + length ws + 1) → (n : ℕ) (left : A) (ws : List Word) (x : A)
    → IsRepeated a add rule n left ws x → size x ≤ size left + length ws
unfolding signed
repeated_few a add rule size grows zero left ws x is = omega (arith, ap size is.1)
repeated_few a add rule size grows (suc n) left ws x (inl is) = omega (arith, ap size is.1)
repeated_few {A = A} a add rule size grows (suc n) left ws x (inr is) =
    let h = repeated_few a add rule size grows n is.value is.rest x is.is_rest in
    let g = grows left is.front is.right is.is_operand in
    let e : size (add left is.right) ≡ size is.value = ap size (same (add left is.right) is.value is.joins) in
    let w : length ws ≡ suc (length (is.front ++ is.rest)) = ap length is.words in
    omega (arith, h, g, e, w, length-append is.front is.rest)

-- ---- index expressions

same_operator : (a b : Operator) → (let f : Option Operator = Some a in f) ≡ Some b → a ≡ b
same_operator a b h = cc

is_sign : (kd : Kind) (o : Operator) → sum_operator kd ≡ Some o → IsSign o
is_sign k.Plus o e = subst IsSign (same_operator Plus o e) tt
is_sign k.Minus o e = subst IsSign (same_operator Minus o e) tt
is_sign _ o e = absurd cc

module _ (names : Text → Result Items Fault) (named : (t : Text) (x : Items) → names t ≡ Ok x → Normal x) where
  module _ (below : Level → List Word → Items → Type 0) (levels : ℕ) (h : (level : Level) (ws : List Word) (x : Items) → below level ws x → Normal x) where
    part_normal : (kd : Kind) (ws : List Word) (x : Items) → IsPartBy names below levels kd ws x → Normal x
    part_normal k.Number ws x is = literal_is_normal is.word.text x is.reads_as
    part_normal k.Name ws x is = named is.word.text x is.reads_as
    part_normal k.LParen ws x is = let b = is.1.is_then in subst Normal (sym b.is_then.is_then.1) (h Sum b.front b.value b.is_first)
    part_normal k.Minus ws x is = let b = is.1.is_then in subst Normal (sym b.is_then.1) (negated_normal b.value (h Part b.front b.value b.is_first))
    part_normal _ ws x is = absurd is

    product_kept : (o : Operator) (left : Items) (front : List Word) (right value : Items) → Normal left → IsRight names below levels o front right
        → join o left right ≡ Ok value → Normal value
    product_kept Times left front right value p is e = product_normal left right value p (part_normal is.0 front right is.1) e
    product_kept Plus left front right value p is e = sum_normal left right value p (part_normal is.0 front right is.1) e
    product_kept Minus left front right value p is e = difference_normal left right value p (part_normal is.0 front right is.1) e
    product_kept Over left front right value p is e =
        let d = divisor_is is.word.text right is.reads_as in
        quotient_normal left value d.number d.some d.most p (subst (λ (r : Items). tested (quotient_of left (unsigned_abs r.constant)) ≡ Ok value) d.is e)
    product_kept Modulo left front right value p is e =
        let d = divisor_is is.word.text right is.reads_as in
        remainder_normal left value d.number d.some d.most p (subst (λ (r : Items). tested (remainder_of left (unsigned_abs r.constant)) ≡ Ok value) d.is e)

    products_normal : (n : ℕ) (left : Items) (ws : List Word) (x : Items) → Normal left → IsChain products (λ n a o. IsRight names below levels o) n left ws x
        → Normal x
    unfolding products
    products_normal zero left ws x p is = subst Normal (sym is.1) p
    products_normal (suc n) left ws x p (inl is) = subst Normal (sym is.1) p
    products_normal (suc n) left ws x p (inr is) =
        products_normal n is.value is.rest x (product_kept is.sign left is.front is.right is.value p is.is_operand is.joins) is.is_rest

    product_is : (ws : List Word) (x : Items) → IsProduct names below levels ws x → Normal x
    product_is ws x is = products_normal _ is.value is.rest x (part_normal is.is_first.0 is.front is.value is.is_first.1) is.is_then

    sum_kept : (o : Operator) (left right value : Items) → IsSign o → Normal left → Normal right → join o left right ≡ Ok value → Normal value
    sum_kept Plus left right value s p q e = sum_normal left right value p q e
    sum_kept Minus left right value s p q e = difference_normal left right value p q e
    sum_kept _ left right value s p q e = absurd s

    sums_normal : (n : ℕ) (left : Items) (ws : List Word) (x : Items) → Normal left → IsChain sums (λ n a o. IsProduct names below levels) n left ws x
        → Normal x
    unfolding sums
    sums_normal zero left ws x p is = subst Normal (sym is.1) p
    sums_normal (suc n) left ws x p (inl is) = subst Normal (sym is.1) p
    sums_normal (suc n) left ws x p (inr is) =
        sums_normal n is.value is.rest x
        (sum_kept is.sign left is.right is.value (is_sign is.word.kind is.sign is.is) p (product_is is.front is.right is.is_operand) is.joins) is.is_rest

    sum_is : (ws : List Word) (x : Items) → IsSum names below levels ws x → Normal x
    sum_is ws x is = sums_normal _ is.value is.rest x (product_is is.front is.value is.is_first) is.is_then

    level_normal : (level : Level) (ws : List Word) (x : Items) → IsByLevel names below levels level ws x → Normal x
    level_normal Sum ws x is = sum_is ws x is
    level_normal Product ws x is = product_is ws x is
    level_normal Part ws x is = part_normal is.0 ws x is.1

  inner_normal : (levels : ℕ) (level : Level) (ws : List Word) (x : Items) → IsInner names levels level ws x → Normal x
  inner_normal zero level ws x is = absurd is
  inner_normal (suc levels) level ws x is = level_normal (IsInner names levels) levels (inner_normal levels) level ws x is

  pub index_normal : (levels : ℕ) (level : Level) (ws : List Word) (x : Items) → IsIndex names levels level ws x → Normal x
  index_normal levels level ws x is = level_normal (IsInner names levels) levels (inner_normal levels) level ws x is

  -- ---- conditions

  abbrev ok_cmp : Cmp → Result Cmp Fault
  ok_cmp c = Ok c

  same_cmp : (a b : Cmp) → ok_cmp a ≡ ok_cmp b → a ≡ b
  same_cmp a b h = cc

  made_normal : (f : Items → Cmp) (i : Items) (c : Cmp) → ((x : Items) → cmp_form (f x) ≡ x) → is_ordered i ≡ true → if_tested f (tested i) ≡ Ok c
      → Normal (cmp_form c)
  made_normal f i c form p h = go (tested i) refl h
    where
      go : (r : Result Items Fault) → tested i ≡ r → if_tested f r ≡ Ok c → Normal (cmp_form c)
      go (Err e) is h = absurd cc
      go (Ok x) is h = subst (λ (d : Cmp). Normal (cmp_form d)) (same_cmp (f x) c h) (subst Normal (sym (form x)) (tested_normal i x p is))

  less : (a b : Items) → Normal a → Normal b → is_ordered (difference_of b a) ≡ true
  less a b p q = difference-ordered b a (ordered b q) (ordered a p)

  less_one : (a b : Items) → Normal a → Normal b → is_ordered (difference_of (difference_of b a) (literal_form (pos 1))) ≡ true
  less_one a b p q = difference-ordered (difference_of b a) (literal_form (pos 1)) (less a b p q) (literal-ordered (pos 1))

  compared_normal : (r : Rel) (a b : Items) (c : Cmp) → Normal a → Normal b → compared r a b ≡ Ok c → Normal (cmp_form c)
  compared_normal rel.Lt a b c p q h = made_normal Ge (difference_of (difference_of b a) (literal_form (pos 1))) c (λ x. refl) (less_one a b p q) h
  compared_normal rel.Le a b c p q h = made_normal Ge (difference_of b a) c (λ x. refl) (less a b p q) h
  compared_normal rel.Gt a b c p q h = made_normal Ge (difference_of (difference_of a b) (literal_form (pos 1))) c (λ x. refl) (less_one b a q p) h
  compared_normal rel.Ge a b c p q h = made_normal Ge (difference_of a b) c (λ x. refl) (less b a q p) h
  compared_normal rel.Eq a b c p q h = made_normal Eq (difference_of a b) c (λ x. refl) (less b a q p) h

  comparison_normal : (levels : ℕ) (ws : List Word) (c : Cmp) → IsComparison names levels ws c → Normal (cmp_form c)
  comparison_normal levels ws c is =
      let b = is.is_then.is_then in
      compared_normal is.is_then.value is.value b.value c (index_normal levels Sum is.front is.value is.is_first)
      (index_normal levels Sum b.front b.value b.is_first) b.is_then.1

  abbrev AreNormal : List Cmp → Type 0
  AreNormal cs = each_cmp is_normal cs ≡ true

  last_normal : (cs : List Cmp) (c : Cmp) → AreNormal cs → Normal (cmp_form c) → AreNormal (cs ++ c ∷ [])
  last_normal [] c p q = and_from (is_normal (cmp_form c)) true q refl
  last_normal (d ∷ cs) c p q =
      let h = and_parts (is_normal (cmp_form d)) (each_cmp is_normal cs) p in
      and_from (is_normal (cmp_form d)) (each_cmp is_normal (cs ++ c ∷ [])) h.0 (last_normal cs c h.1 q)

  pub condition_normal : (levels : ℕ) (ws : List Word) (c : Cond) → IsCondition names levels ws c → each_cmp is_normal c.all ≡ true
  condition_normal levels ws c is =
      let start = last_normal [] is.value refl (comparison_normal levels is.front is.value is.is_first) in
      let all = repeated_keeps k.And with_last (λ _. IsComparison names levels) AreNormal
      (λ cs us d r p. last_normal cs d p (comparison_normal levels us d r)) _ (is.value ∷ []) is.is_then.front is.is_then.value start is.is_then.is_first in
      subst (λ (d : Cond). AreNormal d.all) (sym is.is_then.is_then.1) all

  pub condition_few : (levels : ℕ) (ws : List Word) (c : Cond) → IsCondition names levels ws c → length c.all ≤ length ws + 1
  condition_few levels ws c is =
      let more = is.is_then in
      let h = repeated_few k.And with_last (λ _. IsComparison names levels) (λ cs. length cs)
      (λ cs us d r. omega (arith, length-append cs (d ∷ []))) _ (is.value ∷ []) more.front more.value more.is_first in
      omega (
        arith,
        h,
        ap length is.words,
        length-append is.front is.rest,
        ap length more.words,
        length-append more.front more.rest,
        ap (λ (d : Cond). length d.all) more.is_then.1,
      )
