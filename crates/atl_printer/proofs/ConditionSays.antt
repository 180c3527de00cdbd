-- The tokens of comparisons and conditions stand for them.
use Rattle.std.proofs.Common.{◌≡◌, ℕ, zero, suc, ◌^◌, ◌<◌, ◌≤◌, List, [], ◌∷◌, ◌++◌, length, true, if◌then◌else◌, Some, None, Result, Ok, Err, refl, ap}
use Rattle.std.proofs.Common.{◌∙◌, subst, arith, append_assoc}
use Rattle.std.specs.Prelude.{ℤ, pos, ◌+ℤ◌}
use Rattle.std.proofs.lemmas.Bool.{and_parts}
use Rattle.std.proofs.lemmas.Int.{ints}
use Rattle.text_tokens.specs.declared.kind.Kind.TheVariants as k
use Rattle.text_tokens.specs.Kinds.{Text}
use Rattle.text_tokens.specs.Words.{Word}
use Rattle.affine_index.specs.Condition.{cmp_form}
use Rattle.affine_index.specs.Form.{literal_form}
use Rattle.affine_index.specs.Normal.{coefficients_fit, is_normal, is_ordered, is_short}
use Rattle.affine_index.specs.Sum.{difference_of}
use Rattle.affine_index.specs.declared.cond.Cmp.{Cmp}
use Rattle.affine_index.specs.declared.cond.Cmp.TheVariants.{Ge, Eq}
use Rattle.affine_index.specs.declared.cond.Cond.{Cond}
use Rattle.affine_index.specs.declared.cond.Rel.TheVariants as rel
use Rattle.affine_index.specs.declared.form.Items.{Items}
use Rattle.reader_laws.specs.declared.fault.Fault.{Fault}
use Rattle.reader_laws.specs.declared.fault.Fault.TheVariants.{CoefficientTooLarge, IndexTooLong}
use Rattle.reader_laws.specs.Chain.{signed}
use Rattle.reader_laws.specs.Grammar.{IsRepeated}
use Rattle.reader_laws.proofs.Outcomes.{same_self}
use Rattle.loop_lang.specs.declared.index.Iexp.{Lit}
use Rattle.source_grammar.specs.Limits.{tested}
use Rattle.text_tokens.specs.Spelled.{Token, number_token, sign, keyword}
use Rattle.source_grammar.specs.Index.{Sum, IsIndex}
use Rattle.source_grammar.specs.Conditions.{IsMade, IsComparison, IsCondition, compared, if_tested, most_comparisons, with_last}
use Rattle.atl_printer.specs.TermTokens.{all_tokens, cmp_tokens, form_tokens, more_tokens}
use Rattle.atl_printer.proofs.FormSteps.{merged-nothing}
use Rattle.atl_printer.proofs.IndexSays.{tree-says}
use Rattle.reader_laws.proofs.Says.{Says, says_both, says_end, says_link, says_nothing, says_one, says_stop, says_then}

none : (ws : List Word) → Rattle.text_tokens.specs.Spelled.tokens_of ws ≡ [] → ws ≡ []
none [] e = refl
none (w ∷ ws) e = absurd (cc)

pub says_made : {A : Type 0} {r : Result A Fault} {x : A} → r ≡ Ok x → Says (IsMade r) [] x
says_made h = record { says = λ ws e. (none ws e, h) }

tested-normal : (x : Items) → is_normal x ≡ true → tested x ≡ Ok x
tested-normal x n =
    let a = and_parts (is_ordered x) _ n in
    let b = and_parts (coefficients_fit x) (is_short x) a.1 in
    (λ j. if b.0 j then (if b.1 j then Ok x else Err IndexTooLong) else Err CoefficientTooLarge)

plus_zero : (c : ℤ) → c +ℤ pos 0 ≡ c
plus_zero c = omega (arith, ints)

minus-nothing : (x : Items) → difference_of x (literal_form (pos 0)) ≡ x
minus-nothing x = λ j. record { terms = merged-nothing x.terms j; constant = plus_zero x.constant j }

made-ge : (x : Items) → is_normal x ≡ true → compared rel.Ge x (literal_form (pos 0)) ≡ Ok (Ge x)
made-ge x n = ap (λ y. if_tested Ge (tested y)) (minus-nothing x) ∙ ap (if_tested Ge) (tested-normal x n)

made-eq : (x : Items) → is_normal x ≡ true → compared rel.Eq x (literal_form (pos 0)) ≡ Ok (Eq x)
made-eq x n = ap (λ y. if_tested Eq (tested y)) (minus-nothing x) ∙ ap (if_tested Eq) (tested-normal x n)

module _ (size_text input_text : ℕ → Text) (names : Text → Result Items Fault) (levels vars : ℕ) where
  -- the tokens of a form stand for it
  abbrev FormSays : Items → Type 0
  FormSays x = Says (IsIndex names levels Sum) (form_tokens size_text input_text vars x) x

  zero-says : Says (IsIndex names levels Sum) (number_token 0 ∷ []) (literal_form (pos 0))
  zero-says = tree-says names size_text size_text (Lit (pos 0)) (literal_form (pos 0)) levels refl (omega arith) (omega arith)

  cmp-says : (c : Cmp) → is_normal (cmp_form c) ≡ true → FormSays (cmp_form c) → Says (IsComparison names levels) (cmp_tokens size_text input_text vars c) c
  cmp-says (Ge x) n p =
      says_both (form_tokens size_text input_text vars x) (sign k.GreaterEqual ∷ number_token 0 ∷ []) x p
      (says_both (sign k.GreaterEqual ∷ []) (number_token 0 ∷ []) rel.Ge (says_one k.GreaterEqual (says_then tt refl says_nothing))
      (says_end (number_token 0 ∷ []) (literal_form (pos 0)) zero-says (says_made (made-ge x n))))
  cmp-says (Eq x) n p =
      says_both (form_tokens size_text input_text vars x) (sign k.Equal ∷ number_token 0 ∷ []) x p
      (says_both (sign k.Equal ∷ []) (number_token 0 ∷ []) rel.Eq (says_one k.Equal (says_then tt refl says_nothing))
      (says_end (number_token 0 ∷ []) (literal_form (pos 0)) zero-says (says_made (made-eq x n))))

  -- comparisons of normal forms whose tokens stand for them
  abbrev pub CmpsSay : List Cmp → Type 0
  CmpsSay [] = Unit {0}
  CmpsSay (c ∷ cs) = ((is_normal (cmp_form c) ≡ true) × FormSays (cmp_form c)) × CmpsSay cs

  append-nothing : (xs : List Cmp) → xs ≡ xs ++ []
  append-nothing [] = refl
  append-nothing (x ∷ xs) = ap (λ r. x ∷ r) (append-nothing xs)

  more-say : (cs : List Cmp) (n : ℕ) (left : List Cmp) → length cs ≤ n → CmpsSay cs
      → Says (IsRepeated k.And with_last (λ _. IsComparison names levels) n left) (more_tokens size_text input_text vars cs) (left ++ cs)
  unfolding signed
  more-say [] n left h p = subst (λ (x : List Cmp). Says (IsRepeated k.And with_last (λ _. IsComparison names levels) n left) [] x) (append-nothing left)
      (says_stop _ _ n left)
  more-say (c ∷ cs) zero left h p = absurd (omega (arith, h))
  more-say (c ∷ cs) (suc n) left h p =
      subst (λ (x : List Cmp). Says (IsRepeated k.And with_last (λ _. IsComparison names levels) (suc n) left)
      (more_tokens size_text input_text vars (c ∷ cs)) x) (append_assoc left (c ∷ []) cs)
      (says_link (signed k.And with_last) (λ m x o. IsComparison names levels) n left (keyword k.And) tt (cmp_tokens size_text input_text vars c) c
      (left ++ c ∷ []) (more_tokens size_text input_text vars cs) ((left ++ c ∷ []) ++ cs)
      (ap (λ b. if b then Some tt else None) (same_self k.And)) (omega arith) (cmp-says c p.0.0 p.0.1) refl
      (more-say cs n (left ++ c ∷ []) (omega (arith, h)) p.1))

  pub cond-says : (c : Cond) → 0 < length c.all → length c.all ≤ 2 ^ 63 → CmpsSay c.all
      → Says (IsCondition names levels) (all_tokens size_text input_text vars c.all) c
  unfolding most_comparisons
  cond-says c some most p = by c.all some most p
    where
      by : (cs : List Cmp) → 0 < length cs → length cs ≤ 2 ^ 63 → CmpsSay cs
          → Says (IsCondition names levels) (all_tokens size_text input_text vars cs) (record { all = cs })
      by [] some most p = absurd (omega (arith, some))
      by (d ∷ ds) some most p =
          says_both (cmp_tokens size_text input_text vars d) (more_tokens size_text input_text vars ds) d (cmp-says d p.0.0 p.0.1)
          (says_end (more_tokens size_text input_text vars ds) (d ∷ ds) (more-say ds most_comparisons (d ∷ []) (omega (arith, most)) p.1) says_nothing)
