-- The words before the word of a condition's fault are the beginning of a condition.
use Rattle.std.proofs.Common.{◌≡◌, ◌⊎◌, inl, inr, ◌∷◌, ◌++◌, ℕ, pos, negsuc, List, [], Option, Some, None, Result, Ok, Err, refl, sym, ap, ◌∙◌}
use Rattle.std.proofs.Common.{append-nil}
use Rattle.text_tokens.specs.declared.kind.Kind.{Kind}
use Rattle.text_tokens.specs.declared.kind.Kind.TheVariants as k
use Rattle.text_tokens.specs.Kinds.{Text}
use Rattle.text_tokens.specs.Words.{Word, Input, peek, next}
use Rattle.affine_index.specs.Form.{literal_form}
use Rattle.affine_index.specs.Sum.{difference_of}
use Rattle.affine_index.specs.declared.cond.Cmp.{Cmp}
use Rattle.affine_index.specs.declared.cond.Cmp.TheVariants.{Ge, Eq}
use Rattle.affine_index.specs.declared.cond.Cond.{Cond}
use Rattle.affine_index.specs.declared.cond.Rel.{Rel}
use Rattle.affine_index.specs.declared.cond.Rel.TheVariants as rel
use Rattle.affine_index.specs.declared.form.Items.{Items}
use Rattle.reader_laws.specs.declared.fault.Fault.{Fault}
use Rattle.reader_laws.specs.declared.fault.ReadError.TheVariants.{Refused}
use Rattle.reader_laws.specs.Steps.{Parser, ◌>>=◌, ◌>>◌, pure, refusal, take_word, kind, no_value}
use Rattle.reader_laws.specs.Chain.{joined, repeated}
use Rattle.reader_laws.specs.Levels.{unread, misplaced_in}
use Rattle.reader_laws.specs.Grammar.{IsWordOf, IsNothing, OneOf, Both}
use Rattle.reader_laws.proofs.Outcomes.{taken}
use Rattle.source_grammar.specs.Limits.{tested}
use Rattle.source_grammar.specs.Index.{Sum, join, IsIndex}
use Rattle.source_grammar.specs.ReadIndex.{index}
use Rattle.source_grammar.specs.Conditions.{if_tested, compared, IsMade, IsRelationBy, most_comparisons, with_last, IsComparison, IsCondition}
use Rattle.source_grammar.specs.ReadConditions.{relation, needed, against, comparison, condition}
use Rattle.source_grammar.specs.declared.operator.Operator.TheVariants.{Plus, Minus}
use Rattle.source_grammar.proofs.IndexLaws.{lawful_index}
use Rattle.source_grammar.proofs.ConditionLaws.{lawful_comparison}
use Rattle.source_grammar.proofs.NormalForms.{Normal, tested_ok, zero_form, zero_normal, literal_normal, negated_normal}
use Rattle.first_fault.specs.First.{Continues, Any}
use Rattle.first_fault.proofs.Begins.{Cut, Begins}
use Rattle.first_fault.proofs.BeginLaws.{which, Later, cut_after, cut_here, both_go, begins_both, closing}
use Rattle.first_fault.proofs.FormAlgebra.{minus_zero_is, minus-itself, less-than-one, more-than-minus-one}
use Rattle.first_fault.proofs.IndexBegins.{signed_word, begins_index, zero_index, normal_index, begins_index_to, index_to}
use Rattle.first_fault.proofs.Parts.{Part, part_both, part_made, part_repeated}

-- ---- the word of a relation

no_end : (kd : Kind) (r : Rel) → relation kd ≡ Some r → kd ≡ k.End → ⊥
no_end k.End r h is = cc
no_end _ r h is = cc

one_word : (a : Kind) (r s : Rel) (w : Word) → w.kind ≡ a → relation a ≡ Some r → relation a ≡ Some s → Both (IsWordOf a no_value) (λ _. IsNothing r) (w ∷ []) s
one_word a r s w is e h = record {
  value = tt;
  front = w ∷ [];
  rest = [];
  words = refl;
  is_first = record { word = w; is = is; reads_as = refl; words = refl };
  is_then = (refl, cc);
}

related_by : (kd : Kind) (w : Word) (s : Rel) → w.kind ≡ kd → relation kd ≡ Some s → IsRelationBy kd (w ∷ []) s
related_by k.Less w s is e = one_word k.Less rel.Lt s w is refl e
related_by k.LessEqual w s is e = one_word k.LessEqual rel.Le s w is refl e
related_by k.Greater w s is e = one_word k.Greater rel.Gt s w is refl e
related_by k.GreaterEqual w s is e = one_word k.GreaterEqual rel.Ge s w is refl e
related_by k.Equal w s is e = one_word k.Equal rel.Eq s w is refl e
related_by _ w s is e = absurd cc

-- ---- what a comparison is completed to

abbrev one : Items
one = literal_form (pos 1)

abbrev minus_one : Items
minus_one = literal_form (negsuc 0)

-- the right side that keeps every left side within the limits
abbrev fitting : Rel → Items
fitting rel.Lt = one
fitting rel.Le = zero_form
fitting rel.Gt = minus_one
fitting rel.Ge = zero_form
fitting rel.Eq = zero_form

record Fits (r : Rel) (a b : Items) : Type 0 where
  made : Cmp
  is : compared r a b ≡ Ok made

fits : (r : Rel) (a : Items) → Normal a → Fits r a (fitting r)
fits rel.Lt a p = record {
  made = Ge (difference_of zero_form a);
  is = ap (λ (i : Items). if_tested Ge (tested i)) (less-than-one a) ∙ ap (if_tested Ge) (tested_ok (difference_of zero_form a) (negated_normal a p));
}
fits rel.Le a p = record { made = Ge (difference_of zero_form a); is = ap (if_tested Ge) (tested_ok (difference_of zero_form a) (negated_normal a p)) }
fits rel.Gt a p = record { made = Ge a; is = ap (λ (i : Items). if_tested Ge (tested i)) (more-than-minus-one a) ∙ ap (if_tested Ge) (tested_ok a p) }
fits rel.Ge a p = record { made = Ge a; is = ap (if_tested Ge) (minus_zero_is a p) }
fits rel.Eq a p = record { made = Eq a; is = ap (if_tested Eq) (minus_zero_is a p) }

abbrev all_of : List Cmp → Cond
all_of cs = record { all = cs }

makes_one : join Plus zero_form one ≡ Ok one
makes_one = tested_ok one (literal_normal 1 refl)

makes_minus_one : join Minus zero_form one ≡ Ok minus_one
makes_minus_one = tested_ok minus_one (negated_normal one (literal_normal 1 refl))

module _ (names : Text → Result Items Fault) (named : (t : Text) (x : Items) → names t ≡ Ok x → Normal x) (levels : ℕ) where
  abbrev right : Parser Items
  right = index names levels Sum

  abbrev IsRight : List Word → Items → Type 0
  IsRight = IsIndex names levels Sum

  begins_right : (r : Rel) → Begins right IsRight (λ x. x ≡ fitting r)
  begins_right rel.Lt = begins_index_to names named levels one Plus (signed_word k.Plus) refl makes_one
  begins_right rel.Le = begins_index names named levels Sum
  begins_right rel.Gt = begins_index_to names named levels minus_one Minus (signed_word k.Minus) refl makes_minus_one
  begins_right rel.Ge = begins_index names named levels Sum
  begins_right rel.Eq = begins_index names named levels Sum

  some_right : (r : Rel) → Continues IsRight (λ x. x ≡ fitting r) []
  some_right rel.Lt = index_to names named levels one Plus (signed_word k.Plus) refl makes_one
  some_right rel.Le = zero_index names named levels Sum
  some_right rel.Gt = index_to names named levels minus_one Minus (signed_word k.Minus) refl makes_minus_one
  some_right rel.Ge = zero_index names named levels Sum
  some_right rel.Eq = zero_index names named levels Sum

  abbrev Against : Items → List Word → Cmp → Type 0
  Against a = Both (OneOf IsRelationBy) (λ r. Both IsRight (λ b. IsMade (compared r a b)))

  -- a right side that goes on to what fits, after the word of a relation
  goes_on : (a : Items) (w : Word) (r : Rel) (front : List Word) → Normal a → relation w.kind ≡ Some r → Continues IsRight (λ x. x ≡ fitting r) front
      → Continues (Against a) Any (w ∷ front)
  goes_on a w r front p is c =
      let f = fits r a p in
      record {
        rest = c.rest;
        value = f.made;
        is = record {
          value = r;
          front = w ∷ [];
          rest = front ++ c.rest;
          words = refl;
          is_first = (w.kind, related_by w.kind w r refl is);
          is_then = record {
            value = c.value;
            front = front ++ c.rest;
            rest = [];
            words = sym (append-nil (front ++ c.rest));
            is_first = c.is;
            is_then = (refl, ap (compared r a) c.has ∙ f.is);
          };
        };
        has = tt;
      }

  joined_cut : (a : Items) (i j : Input) (r : Result Cmp Fault) (fault : Fault) (place : ℕ) → joined (peek i) r pure j ≡ Err (Refused fault place)
      → Cut (Against a) Any i place
  unfolding refusal
  joined_cut a i j (Ok x) fault place e = absurd cc
  joined_cut a i j (Err f) fault place e = cut_here {B = Cmp} (Against a) Any i f fault place e

  begins_against : (a : Items) → Normal a → Begins (against names levels a) (Against a) Any
  unfolding against misplaced_in
  begins_against a p = λ i fault place e. go i fault place (relation (peek i).kind) refl e
    where
      turn : (i : Input) (fault : Fault) (place : ℕ) (r : Rel) → relation (peek i).kind ≡ Some r
          → (right (next i) ≡ Err (Refused fault place)) ⊎ Later (right (next i)) (λ b. joined (peek i) (compared r a b) pure) (Refused fault place)
          → Cut (Against a) Any i place
      turn i fault place r is (inl e) =
          cut_after IsRight (Against a) (λ x. x ≡ fitting r) Any i (next i) place (peek i ∷ []) (taken i (no_end (kind i) r is))
          (λ few. goes_on a (peek i) r [] p is (some_right r)) (λ more few c. goes_on a (peek i) r more p is c)
          (begins_right r (next i) fault place e)
      turn i fault place r is (inr l) = joined_cut a i l.at (compared r a l.value) fault place l.rest

      go : (i : Input) (fault : Fault) (place : ℕ) (v : Option Rel) → relation (peek i).kind ≡ v
          → needed levels v (λ r. take_word >> (right >>= λ b. joined (peek i) (compared r a b) pure)) i ≡ Err (Refused fault place)
          → Cut (Against a) Any i place
      go i fault place None is e = cut_here {B = Cmp} (Against a) Any i (unread levels (kind i)) fault place e
      go i fault place (Some r) is e =
          turn i fault place r is (which (right (next i)) (λ b. joined (peek i) (compared r a b) pure) (Refused fault place) e)

  -- an index is equal to itself
  equal_to_itself : (ws : List Word) (a : Items) → IsRight ws a → Continues (Against a) Any []
  equal_to_itself ws a is = record {
    rest = closing k.Equal ∷ ws;
    value = Eq zero_form;
    is = record {
      value = rel.Eq;
      front = closing k.Equal ∷ [];
      rest = ws;
      words = refl;
      is_first = (k.Equal, related_by k.Equal (closing k.Equal) rel.Eq refl refl);
      is_then = record {
        value = a;
        front = ws;
        rest = [];
        words = sym (append-nil ws);
        is_first = is;
        is_then = (refl, ap (λ (i : Items). if_tested Eq (tested i)) (minus-itself a) ∙ ap (if_tested Eq) (tested_ok zero_form zero_normal));
      };
    };
    has = tt;
  }

  part_comparison : Part (comparison names levels) (IsComparison names levels)
  unfolding comparison
  part_comparison = record {
    sound = (lawful_comparison names levels).sound;
    begins = begins_both right (against names levels) IsRight Against (λ x. x ≡ zero_form) Any (lawful_index names levels Sum).sound
        (begins_index names named levels Sum) (λ ws x is. begins_against x (normal_index names named levels Sum ws x is))
        (λ ws x is z. equal_to_itself ws x is) (λ ws x is few. equal_to_itself ws x is);
    some = let c = zero_index names named levels Sum in both_go IsRight Against Any [] c.rest c.value c.is (equal_to_itself c.rest c.value c.is);
  }

  pub part_condition : Part (condition names levels) (IsCondition names levels)
  unfolding condition
  part_condition =
      let more : Cmp → Parser (List Cmp) = λ c. repeated k.And with_last (λ _. comparison names levels) most_comparisons (c ∷ []) in
      part_both (comparison names levels) (λ c. more c >>= λ cs. pure (all_of cs)) (IsComparison names levels) _ part_comparison
      (λ c. part_made (more c) all_of _
      (part_repeated k.And with_last (λ _. comparison names levels) (λ _. IsComparison names levels) (λ (z : k.And ≡ k.End). cc) (λ _. part_comparison)
      most_comparisons (c ∷ [])))
