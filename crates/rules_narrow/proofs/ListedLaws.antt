-- The facts of the conditions of the rule may be listed.
use Rattle.std.proofs.Common.{◌≡◌, zero, suc, ◌≤◌, List, [], ◌∷◌, ◌++◌, length, refl, arith, Bool, true, false, ◌&&◌, Some, None, if◌then◌else◌, nat_le}
use Rattle.std.proofs.lemmas.Bool.{and_parts, leb-true}
use Rattle.affine_index.specs.Limited.{items_scoped}
use Rattle.affine_index.specs.Normal.{is_normal}
use Rattle.affine_index.specs.declared.cond.Cond.{Cond}
use Rattle.affine_index.specs.declared.form.Items.{Items}
use Rattle.fact_list.specs.Facts.{binders}
use Rattle.rules_narrow.specs.Narrow.{fitting, further, inside, is_range, made, moved_to, range_within, start, sum_narrow, turns_within, with_form, with_two}
use Rattle.rules_narrow.proofs.PlaceLaws.{inside_listed}
use Rattle.path_focus.specs.Focus.{IsProper}
use Rattle.path_focus.specs.Outcome.{AllListed, Makes, Meant, Unfit, Unlike}
use Rattle.path_focus.specs.declared.place.Focus.{Focus}
use Rattle.path_focus.specs.declared.rule.Arg.{Arg}
use Rattle.path_focus.specs.declared.rule.Arg.TheVariants.{Ix}
use Rattle.path_focus.proofs.FocusMeaning.{facts_listed}
use Rattle.rule_parts.specs.Patterns.{on_guard}
use Rattle.term_tree.specs.Syntax.{guard, sum}
use Rattle.term_tree.specs.declared.term.Term.{Term}

-- the facts of its conditions may be listed
abbrev pub MeantListed : Meant → Type 0
MeantListed Unlike = Unit {0}
MeantListed Unfit = Unit {0}
MeantListed (Makes raw cs) = AllListed cs

module _ (f : Focus) (p : IsProper f) (n : Items) (c : Cond) (b : Term) (q : f.term ≡ sum n (guard c b)) (a m : Items) where
  conditions_listed : length f.facts.path ≤ 2147483645 → AllListed (range_within f.facts n a m ++ turns_within (inside f.facts n c) (start a) m)
  conditions_listed room zero d l = facts_listed f p
  conditions_listed room (suc zero) d l = (p.few.sizes, omega arith, refl)
  conditions_listed room (suc (suc zero)) d l = facts_listed f p
  conditions_listed room (suc (suc (suc zero))) d l = inside_listed f p n c b q room
  conditions_listed room (suc (suc (suc (suc zero)))) d l = inside_listed f p n c b q room
  conditions_listed room (suc (suc (suc (suc (suc k))))) d l = absurd (omega (arith, l))

  in_limits : length f.facts.path ≤ 2147483645 → (k : Bool) → MeantListed (with_form (if k then Some (further (start a)) else None)
      (λ x. Makes (sum m (moved_to x (guard c b))) (range_within f.facts n a m ++ turns_within (inside f.facts n c) (start a) m)))
  in_limits room true = conditions_listed room
  in_limits room false = tt

  in_range : (k : Bool) → is_range f.facts a m ≡ k → MeantListed (fitting k (made f.facts n c (guard c b) a m))
  in_range false e = tt
  in_range true e =
      let sizes = length f.facts.sizes in
      let scopes = items_scoped sizes (binders f.facts.path) a && items_scoped sizes 0 m in
      let k = and_parts (is_normal a) (nat_le (length f.facts.path) 2147483645 && scopes) e in
      let l = and_parts (nat_le (length f.facts.path) 2147483645) scopes k.1 in
      in_limits (leb-true (length f.facts.path) 2147483645 l.0) (is_normal (further (start a)))

with_both : (f : Focus) (p : IsProper f) (n : Items) (c : Cond) (b : Term) → f.term ≡ sum n (guard c b) → (as' : List Arg)
    → MeantListed (with_two as' (λ a m. fitting (is_range f.facts a m) (made f.facts n c (guard c b) a m)))
with_both f p n c b q (Ix a ∷ (Ix m ∷ [])) = in_range f p n c b q a m (is_range f.facts a m) refl
with_both f p n c b q _ = tt

of_row : (f : Focus) (p : IsProper f) (n : Items) (e : Term) → f.term ≡ sum n e → (as' : List Arg)
    → MeantListed (on_guard e (λ c b. with_two as' (λ a m. fitting (is_range f.facts a m) (made f.facts n c (guard c b) a m))))
of_row f p n (guard c b) q as' = with_both f p n c b q as'
of_row f p n _ q as' = tt

of_term : (f : Focus) (p : IsProper f) (e : Term) → f.term ≡ e → (as' : List Arg) → MeantListed (sum_narrow (record f { term = e }) as')
of_term f p (sum n e) q as' = of_row f p n e q as'
of_term f p _ q as' = tt

pub narrow_listed : (f : Focus) → IsProper f → (as' : List Arg) → MeantListed (sum_narrow f as')
narrow_listed f p as' = of_term f p f.term refl as'
