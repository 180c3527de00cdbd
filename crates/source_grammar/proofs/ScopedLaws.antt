-- What is read names only what is there.
use Rattle.std.proofs.Common.{◌≡◌, ℕ, zero, suc, ◌==◌, not, nat_le, nat_lt, Bool, true, false, cond, List, [], ◌∷◌, ◌++◌}
use Rattle.std.proofs.Common.{Option, Some, None, Result, Ok, Err, refl, sym, subst}
use Rattle.std.specs.Prelude.{pos}
use Rattle.std.specs.Int.RustNames.{unsigned_abs}
use Rattle.std.proofs.lemmas.Bool.{and_from, and_parts}
use Rattle.text_tokens.specs.declared.kind.Kind.{Kind}
use Rattle.text_tokens.specs.declared.kind.Kind.TheVariants as k
use Rattle.text_tokens.specs.Kinds.{Text}
use Rattle.text_tokens.specs.Numbers.{number}
use Rattle.text_tokens.specs.Words.{Word}
use Rattle.affine_index.specs.Condition.{all_scoped, cmp_form}
use Rattle.affine_index.specs.Form.{literal_form}
use Rattle.affine_index.specs.Limited.{items_scoped}
use Rattle.affine_index.specs.Product.{product_of}
use Rattle.affine_index.specs.Quotient.{quotient_of, remainder_of}
use Rattle.affine_index.specs.Sum.{difference_of, sum_of}
use Rattle.affine_index.specs.declared.cond.Cmp.{Cmp}
use Rattle.affine_index.specs.declared.cond.Cmp.TheVariants.{Ge, Eq}
use Rattle.affine_index.specs.declared.cond.Cond.{Cond}
use Rattle.affine_index.specs.declared.cond.Rel.{Rel}
use Rattle.affine_index.specs.declared.cond.Rel.TheVariants as rel
use Rattle.affine_index.specs.declared.form.Items.{Items}
use Rattle.affine_index.proofs.FormScopes.{Form, difference-form, of-form, product-form, quotient-form, remainder-form, sum-form}
use Rattle.term_tree.specs.Scope.{cond_scoped, is_empty}
use Rattle.reader_laws.specs.declared.fault.Fault.{Fault}
use Rattle.reader_laws.specs.declared.fault.Fault.TheVariants.{BadSyntax, NumberTooLarge}
use Rattle.reader_laws.proofs.Chains.{chain_keeps}
use Rattle.reader_laws.proofs.Repeated.{repeated_keeps}
use Rattle.source_grammar.specs.declared.operator.Operator.{Operator}
use Rattle.source_grammar.specs.declared.operator.Operator.TheVariants.{Plus, Minus, Times, Over, Modulo}
use Rattle.source_grammar.specs.Conditions.{IsComparison, IsCondition, compared, if_tested, with_last}
use Rattle.source_grammar.specs.Index.{IsByLevel, IsIndex, IsInner, IsPartBy, IsProduct, IsRight, IsSum, Level, Part, Product, Sum, divisor_if}
use Rattle.source_grammar.specs.Index.{join, literal_if, products, sums}
use Rattle.source_grammar.specs.Limits.{tested}
use Rattle.source_grammar.proofs.NormalForms.{multiplied_is, tested_is}

-- ---- index expressions

module _ (s v : ℕ) where
  abbrev ok : Items → Result Items Fault
  ok x = Ok x

  same_form : (a b : Items) → ok a ≡ ok b → a ≡ b
  same_form a b h = cc

  free : (n : ℕ) (x : Items) → ok (literal_form (pos n)) ≡ Ok x → Form s v x
  free n x h = subst (Form s v) (same_form (literal_form (pos n)) x h) tt

  literal_by : (n : ℕ) (b : Bool) (x : Items) → cond b (ok (literal_form (pos n))) (Err NumberTooLarge) ≡ Ok x → Form s v x
  literal_by n true x h = free n x h
  literal_by n false x h = absurd cc

  literal_free : (o : Option ℕ) (x : Items) → literal_if o ≡ Ok x → Form s v x
  literal_free None x h = absurd cc
  literal_free (Some n) x h = literal_by n (nat_le n 1099511627776) x h

  divisor_by : (n : ℕ) (a b : Bool) (x : Items)
      → cond a (let r : Result Items Fault = Err BadSyntax in r) (cond b (Err NumberTooLarge) (Ok (literal_form (pos n)))) ≡ Ok x → Form s v x
  divisor_by n true b x h = absurd cc
  divisor_by n false true x h = absurd cc
  divisor_by n false false x h = free n x h

  divisor_free : (o : Option ℕ) (x : Items) → divisor_if o ≡ Ok x → Form s v x
  divisor_free None x h = absurd cc
  divisor_free (Some n) x h = divisor_by n (n == 0) (nat_lt 2147483647 n) x h

  tested_form : (i x : Items) → tested i ≡ Ok x → Form s v i → Form s v x
  tested_form i x h f = subst (Form s v) (sym (tested_is i x h).same) f

  joined_form : (o : Operator) (a b x : Items) → Form s v a → Form s v b → join o a b ≡ Ok x → Form s v x
  joined_form Plus a b x p q h = tested_form (sum_of a b) x h (sum-form s v a b p q)
  joined_form Minus a b x p q h = tested_form (difference_of a b) x h (difference-form s v a b p q)
  joined_form Times a b x p q h = tested_form (product_of a b) x (multiplied_is a b x h).1 (product-form s v a b p q)
  joined_form Over a b x p q h = tested_form (quotient_of a (unsigned_abs b.constant)) x h (quotient-form s v a (unsigned_abs b.constant) p)
  joined_form Modulo a b x p q h = tested_form (remainder_of a (unsigned_abs b.constant)) x h (remainder-form s v a (unsigned_abs b.constant) p)

  module _ (names : Text → Result Items Fault) (good : (t : Text) (x : Items) → names t ≡ Ok x → Form s v x) where
    module _ (below : Level → List Word → Items → Type 0) (levels : ℕ) (h : (level : Level) (ws : List Word) (x : Items) → below level ws x → Form s v x) where
      part_form : (kd : Kind) (ws : List Word) (x : Items) → IsPartBy names below levels kd ws x → Form s v x
      part_form k.Number ws x is = literal_free (number is.word.text) x is.reads_as
      part_form k.Name ws x is = good is.word.text x is.reads_as
      part_form k.LParen ws x is = let b = is.1.is_then in subst (Form s v) (sym b.is_then.is_then.1) (h Sum b.front b.value b.is_first)
      part_form k.Minus ws x is =
          let b = is.1.is_then in
          subst (Form s v) (sym b.is_then.1) (difference-form s v (literal_form (pos 0)) b.value tt (h Part b.front b.value b.is_first))
      part_form _ ws x is = absurd is

      right_form : (o : Operator) (ws : List Word) (x : Items) → IsRight names below levels o ws x → Form s v x
      right_form Over ws x is = divisor_free (number is.word.text) x is.reads_as
      right_form Modulo ws x is = divisor_free (number is.word.text) x is.reads_as
      right_form Plus ws x is = part_form is.0 ws x is.1
      right_form Minus ws x is = part_form is.0 ws x is.1
      right_form Times ws x is = part_form is.0 ws x is.1

      product_form : (ws : List Word) (x : Items) → IsProduct names below levels ws x → Form s v x
      unfolding products
      product_form ws x is =
          chain_keeps products (λ n a o. IsRight names below levels o) (Form s v) (Form s v) (λ n a o us b r. right_form o us b r) joined_form _ is.value
          is.rest x
          (part_form is.is_first.0 is.front is.value is.is_first.1) is.is_then

      sum_form : (ws : List Word) (x : Items) → IsSum names below levels ws x → Form s v x
      unfolding sums
      sum_form ws x is =
          chain_keeps sums (λ n a o. IsProduct names below levels) (Form s v) (Form s v) (λ n a o us b r. product_form us b r) joined_form _ is.value is.rest x
          (product_form is.front is.value is.is_first) is.is_then

      level_form : (level : Level) (ws : List Word) (x : Items) → IsByLevel names below levels level ws x → Form s v x
      level_form Sum ws x is = sum_form ws x is
      level_form Product ws x is = product_form ws x is
      level_form Part ws x is = part_form is.0 ws x is.1

    inner_form : (levels : ℕ) (level : Level) (ws : List Word) (x : Items) → IsInner names levels level ws x → Form s v x
    inner_form zero level ws x is = absurd is
    inner_form (suc levels) level ws x is = level_form (IsInner names levels) levels (inner_form levels) level ws x is

    pub index_scoped : (levels : ℕ) (level : Level) (ws : List Word) (x : Items) → IsIndex names levels level ws x → Form s v x
    index_scoped levels level ws x is = level_form (IsInner names levels) levels (inner_form levels) level ws x is

    -- ---- conditions

    abbrev ok_cmp : Cmp → Result Cmp Fault
    ok_cmp c = Ok c

    same_cmp : (a b : Cmp) → ok_cmp a ≡ ok_cmp b → a ≡ b
    same_cmp a b h = cc

    made_form : (f : Items → Cmp) (i : Items) (c : Cmp) → ((x : Items) → cmp_form (f x) ≡ x) → Form s v i → if_tested f (tested i) ≡ Ok c
        → Form s v (cmp_form c)
    made_form f i c form p h = go (tested i) refl h
      where
        go : (r : Result Items Fault) → tested i ≡ r → if_tested f r ≡ Ok c → Form s v (cmp_form c)
        go (Err e) is h = absurd cc
        go (Ok x) is h = subst (λ (d : Cmp). Form s v (cmp_form d)) (same_cmp (f x) c h) (subst (Form s v) (sym (form x)) (tested_form i x is p))

    compared_form : (r : Rel) (a b : Items) (c : Cmp) → Form s v a → Form s v b → compared r a b ≡ Ok c → Form s v (cmp_form c)
    compared_form rel.Lt a b c p q h = made_form Ge (difference_of (difference_of b a) (literal_form (pos 1))) c (λ x. refl)
        (difference-form s v (difference_of b a) (literal_form (pos 1)) (difference-form s v b a q p) tt) h
    compared_form rel.Le a b c p q h = made_form Ge (difference_of b a) c (λ x. refl) (difference-form s v b a q p) h
    compared_form rel.Gt a b c p q h = made_form Ge (difference_of (difference_of a b) (literal_form (pos 1))) c (λ x. refl)
        (difference-form s v (difference_of a b) (literal_form (pos 1)) (difference-form s v a b p q) tt) h
    compared_form rel.Ge a b c p q h = made_form Ge (difference_of a b) c (λ x. refl) (difference-form s v a b p q) h
    compared_form rel.Eq a b c p q h = made_form Eq (difference_of a b) c (λ x. refl) (difference-form s v a b p q) h

    comparison_scoped : (levels : ℕ) (ws : List Word) (c : Cmp) → IsComparison names levels ws c → items_scoped s v (cmp_form c) ≡ true
    comparison_scoped levels ws c is =
        let b = is.is_then.is_then in
        of-form s v (cmp_form c)
        (compared_form is.is_then.value is.value b.value c (index_scoped levels Sum is.front is.value is.is_first)
        (index_scoped levels Sum b.front b.value b.is_first) b.is_then.1)

    -- comparisons, of which there is one
    abbrev AreScoped : List Cmp → Type 0
    AreScoped cs = (not (is_empty cs) ≡ true) × (all_scoped s v cs ≡ true)

    last_scoped : (cs : List Cmp) (c : Cmp) → all_scoped s v cs ≡ true → items_scoped s v (cmp_form c) ≡ true → all_scoped s v (cs ++ c ∷ []) ≡ true
    last_scoped [] c p q = and_from (items_scoped s v (cmp_form c)) true q refl
    last_scoped (d ∷ cs) c p q =
        let h = and_parts (items_scoped s v (cmp_form d)) (all_scoped s v cs) p in
        and_from (items_scoped s v (cmp_form d)) (all_scoped s v (cs ++ c ∷ [])) h.0 (last_scoped cs c h.1 q)

    some_last : (cs : List Cmp) (c : Cmp) → not (is_empty (cs ++ c ∷ [])) ≡ true
    some_last [] c = refl
    some_last (d ∷ cs) c = refl

    pub condition_scoped : (levels : ℕ) (ws : List Word) (c : Cond) → IsCondition names levels ws c → cond_scoped s v c ≡ true
    condition_scoped levels ws c is =
        let first = comparison_scoped levels is.front is.value is.is_first in
        let start : AreScoped (is.value ∷ []) = (refl, last_scoped [] is.value refl first) in
        let all = repeated_keeps k.And with_last (λ _. IsComparison names levels) AreScoped
        (λ cs us d r p. (some_last cs d, last_scoped cs d p.1 (comparison_scoped levels us d r))) _ (is.value ∷ []) is.is_then.front is.is_then.value start
        is.is_then.is_first in
        subst (λ (d : Cond). cond_scoped s v d ≡ true) (sym is.is_then.is_then.1)
        (and_from (not (is_empty is.is_then.value)) (all_scoped s v is.is_then.value) all.0 all.1)
