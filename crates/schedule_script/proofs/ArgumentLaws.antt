-- Arguments are read as their grammar says.
use Rattle.std.proofs.Common.{◌≡◌, ℕ, Bool, true, false, List, [], ◌∷◌, Some, None, Result, Ok, Err, refl, ap, ◌∙◌}
use Rattle.text_tokens.specs.declared.kind.Kind.{Kind}
use Rattle.text_tokens.specs.declared.kind.Kind.TheVariants as k
use Rattle.text_tokens.specs.Kinds.{same_kind}
use Rattle.text_tokens.specs.Words.{Word, Input}
use Rattle.affine_index.specs.declared.cond.Rel.{Rel}
use Rattle.affine_index.specs.declared.cond.Rel.TheVariants as rel
use Rattle.reader_laws.specs.declared.fault.Fault.{Fault}
use Rattle.reader_laws.specs.Steps.{Parser, ◌>>=◌, pure, kind, no_value}
use Rattle.reader_laws.specs.Chain.{chain}
use Rattle.reader_laws.specs.Grammar.{IsOfJoining, IsNothing, Both, IsChain}
use Rattle.reader_laws.proofs.Outcomes.{ahead}
use Rattle.reader_laws.proofs.Lawful.{Lawful, Frees, never, lawful_both, lawful_pure, lawful_choice, lawful_unexpected}
use Rattle.reader_laws.proofs.Chains.{lawful_chain, rest_frees}
use Rattle.reader_laws.proofs.Repeated.{lawful_repeated}
use Rattle.reader_laws.proofs.Starts.{both_starts, word_then}
use Rattle.schedule_script.specs.declared.tree.ArgTree.{ArgTree}
use Rattle.schedule_script.specs.declared.tree.ArgTree.TheVariants.{Ix, Cond}
use Rattle.schedule_script.specs.declared.tree.Comparison.{Comparison}
use Rattle.schedule_script.specs.declared.tree.IxTree.{IxTree}
use Rattle.schedule_script.specs.Words.{most_items, with_last}
use Rattle.schedule_script.specs.Index.{index, IsIndex}
use Rattle.schedule_script.specs.Arguments.{relation, related, IsRelated, relation_by, IsRelationBy, relation_word, IsRelation, conditions, comparison}
use Rattle.schedule_script.specs.Arguments.{IsComparison, comparisons, AreComparisons, condition_after, IsConditionAfter, argument, IsArgument}
use Rattle.schedule_script.proofs.Following.{or_with, first_false, second_false, both_false, differs, frees_nothing, frees_repeated, frees_both}
use Rattle.schedule_script.proofs.IndexLaws.{sum_goes_on, lawful_index}

lawful_related : (a : Kind) (r : Rel) → (a ≡ k.End → ⊥) → Lawful (related a r) (IsRelated a r) never
unfolding related
lawful_related a r some = word_then a no_value (λ _. pure r) (λ _. IsNothing r) never some (λ _. lawful_pure r never)

by_kind : (kd : Kind) → Lawful (relation_by kd) (IsRelationBy kd) never
by_kind k.Less = lawful_related k.Less rel.Lt (λ (z : k.Less ≡ k.End). cc)
by_kind k.LessEqual = lawful_related k.LessEqual rel.Le (λ (z : k.LessEqual ≡ k.End). cc)
by_kind k.Greater = lawful_related k.Greater rel.Gt (λ (z : k.Greater ≡ k.End). cc)
by_kind k.GreaterEqual = lawful_related k.GreaterEqual rel.Ge (λ (z : k.GreaterEqual ≡ k.End). cc)
by_kind k.Equal = lawful_related k.Equal rel.Eq (λ (z : k.Equal ≡ k.End). cc)
by_kind _ = lawful_unexpected never

starts : (kd : Kind) (ws : List Word) (r : Rel) (j : Input) → IsRelationBy kd ws r → kind (ahead ws j) ≡ kd
starts k.Less ws r j is = both_starts k.Less no_value _ ws r j is
starts k.LessEqual ws r j is = both_starts k.LessEqual no_value _ ws r j is
starts k.Greater ws r j is = both_starts k.Greater no_value _ ws r j is
starts k.GreaterEqual ws r j is = both_starts k.GreaterEqual no_value _ ws r j is
starts k.Equal ws r j is = both_starts k.Equal no_value _ ws r j is
starts _ ws r j is = absurd is

lawful_relation : Lawful relation_word IsRelation never
unfolding relation_word
lawful_relation = lawful_choice relation_by IsRelationBy never by_kind starts

-- no index goes on with a relation
no_sum : (kd : Kind) (ws : List Word) (r : Rel) → IsRelationBy kd ws r → sum_goes_on kd ≡ false
no_sum k.Less ws r is = refl
no_sum k.LessEqual ws r is = refl
no_sum k.Greater ws r is = refl
no_sum k.GreaterEqual ws r is = refl
no_sum k.Equal ws r is = refl
no_sum _ ws r is = absurd is

abbrev pub condition_goes_on : Kind → Bool
condition_goes_on = or_with k.And sum_goes_on

abbrev pub argument_goes_on : Kind → Bool
argument_goes_on k.Less = true
argument_goes_on k.LessEqual = true
argument_goes_on k.Greater = true
argument_goes_on k.GreaterEqual = true
argument_goes_on k.Equal = true
argument_goes_on kd = condition_goes_on kd

no_end : (kd : Kind) (r : Rel) → relation kd ≡ Some r → kd ≡ k.End → ⊥
no_end k.End r h is = cc
no_end _ r h is = cc

relation_frees : (kd : Kind) (r : Rel) → relation kd ≡ Some r → condition_goes_on kd ≡ false
relation_frees k.Less r h = both_false _ _ (differs k.Less k.And (λ (z : k.Less ≡ k.And). cc)) refl
relation_frees k.LessEqual r h = both_false _ _ (differs k.LessEqual k.And (λ (z : k.LessEqual ≡ k.And). cc)) refl
relation_frees k.Greater r h = both_false _ _ (differs k.Greater k.And (λ (z : k.Greater ≡ k.And). cc)) refl
relation_frees k.GreaterEqual r h = both_false _ _ (differs k.GreaterEqual k.And (λ (z : k.GreaterEqual ≡ k.And). cc)) refl
relation_frees k.Equal r h = both_false _ _ (differs k.Equal k.And (λ (z : k.Equal ≡ k.And). cc)) refl
relation_frees _ r h = absurd cc

argument_stops : (kd : Kind) → argument_goes_on kd ≡ false → (relation kd ≡ None) × (condition_goes_on kd ≡ false)
argument_stops k.Less h = absurd cc
argument_stops k.LessEqual h = absurd cc
argument_stops k.Greater h = absurd cc
argument_stops k.GreaterEqual h = absurd cc
argument_stops k.Equal h = absurd cc
argument_stops _ h = (refl, h)

-- joining has no fault
unjoined : (x : ArgTree) (fault : Fault) → (let r : Result ArgTree Fault = Ok x in r) ≡ Err fault → IsOfJoining fault
unjoined x fault h = absurd cc

module _ (levels : ℕ) where
  abbrev compared : IxTree → Rel → IxTree → Comparison
  compared a r b = record { left = a; rel = r; right = b }

  lawful_right : (a : IxTree) (r : Rel)
      → Lawful (index levels >>= λ b. pure (compared a r b)) (Both (IsIndex levels) (λ b. IsNothing (compared a r b))) sum_goes_on
  lawful_right a r = lawful_both (index levels) (λ b. pure (compared a r b)) (IsIndex levels) (λ b. IsNothing (compared a r b)) sum_goes_on sum_goes_on
      (lawful_index levels) (λ b. lawful_pure (compared a r b) sum_goes_on)
      (frees_nothing (λ b. compared a r b) sum_goes_on sum_goes_on (λ kd e. e))

  lawful_comparison : Lawful (comparison levels) (IsComparison levels) sum_goes_on
  unfolding comparison
  lawful_comparison = lawful_both (index levels) (λ a. relation_word >>= λ r. (index levels >>= λ b. pure (compared a r b))) (IsIndex levels)
      (λ a. Both IsRelation (λ r. Both (IsIndex levels) (λ b. IsNothing (compared a r b)))) sum_goes_on sum_goes_on
      (lawful_index levels)
      (λ a. lawful_both relation_word (λ r. index levels >>= λ b. pure (compared a r b)) IsRelation
      (λ r. Both (IsIndex levels) (λ b. IsNothing (compared a r b))) never sum_goes_on lawful_relation (lawful_right a) (λ r ws y j is e. refl))
      (frees_both (λ a. IsRelation) (λ a r. Both (IsIndex levels) (λ b. IsNothing (compared a r b))) sum_goes_on never sum_goes_on
      (λ a ws r j is e. ap sum_goes_on (starts is.0 ws r j is.1) ∙ no_sum is.0 ws r is.1) (λ a r ws y j is e. refl))

  lawful_comparisons : (cs : List Comparison) → Lawful (comparisons levels cs) (AreComparisons levels cs) condition_goes_on
  lawful_comparisons cs = lawful_repeated k.And with_last (λ _. comparison levels) (λ _. IsComparison levels) sum_goes_on condition_goes_on
      (λ (z : k.And ≡ k.End). cc) refl
      (λ kd e. (first_false (same_kind kd k.And) (sum_goes_on kd) e, second_false (same_kind kd k.And) (sum_goes_on kd) e))
      (λ _. lawful_comparison) most_items cs

  lawful_condition_after : (a : IxTree) (r : Rel) → Lawful (condition_after levels a r) (IsConditionAfter levels a r) condition_goes_on
  unfolding condition_after
  lawful_condition_after a r =
      let first : IxTree → List Comparison = λ b. compared a r b ∷ [] in
      lawful_both (index levels) (λ b. comparisons levels (first b) >>= λ cs. pure (Cond cs)) (IsIndex levels)
      (λ b. Both (AreComparisons levels (first b)) (λ cs. IsNothing (Cond cs))) sum_goes_on condition_goes_on
      (lawful_index levels)
      (λ b. lawful_both (comparisons levels (first b)) (λ cs. pure (Cond cs)) (AreComparisons levels (first b))
      (λ cs. IsNothing (Cond cs)) condition_goes_on condition_goes_on (lawful_comparisons (first b)) (λ cs. lawful_pure (Cond cs) condition_goes_on)
      (frees_nothing (λ cs. Cond cs) condition_goes_on condition_goes_on (λ kd e. e)))
      (frees_both (λ b. AreComparisons levels (first b)) (λ b cs. IsNothing (Cond cs)) sum_goes_on sum_goes_on condition_goes_on
      (frees_repeated k.And with_last (λ _. IsComparison levels) most_items first sum_goes_on refl)
      (λ b. frees_nothing (λ cs. Cond cs) sum_goes_on condition_goes_on (λ kd e. second_false (same_kind kd k.And) (sum_goes_on kd) e)))

  abbrev after : IxTree → Parser ArgTree
  after a = chain conditions (λ n x r. condition_after levels a r) 1 (Ix a)

  abbrev IsAfter : IxTree → List Word → ArgTree → Type 0
  IsAfter a = IsChain conditions (λ n x r. IsConditionAfter levels a r) 1 (Ix a)

  lawful_after : (a : IxTree) → Lawful (after a) (IsAfter a) argument_goes_on
  unfolding conditions
  lawful_after a = lawful_chain conditions (λ n x r. condition_after levels a r)
      (λ n x r. IsConditionAfter levels a r) condition_goes_on argument_goes_on no_end relation_frees argument_stops (λ o x y fault e. unjoined y fault e)
      (λ n x r. lawful_condition_after a r) 1 (Ix a)

  after_frees : Frees IsAfter sum_goes_on argument_goes_on
  unfolding conditions
  after_frees a ws y j is e =
      let free = rest_frees conditions (λ n x r. condition_after levels a r)
      (λ n x r. IsConditionAfter levels a r) condition_goes_on argument_goes_on no_end relation_frees argument_stops (λ o x z fault h. unjoined z fault h)
      (λ n x r. lawful_condition_after a r) 1 (Ix a) ws y j is e in
      second_false (same_kind (kind (ahead ws j)) k.And) (sum_goes_on (kind (ahead ws j))) free

  pub lawful_argument : Lawful (argument levels) (IsArgument levels) argument_goes_on
  unfolding argument
  lawful_argument = lawful_both (index levels) after (IsIndex levels) IsAfter sum_goes_on argument_goes_on (lawful_index levels) lawful_after after_frees
