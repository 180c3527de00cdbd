-- The rules of narrowed sums and of quotients that are 0 make no index a word.
use Rattle.std.proofs.Common.{ℕ, List, [], ◌∷◌, Bool, true, false}
use Rattle.std.specs.Prelude.{Option, Some, None}
use Rattle.affine_index.specs.declared.cond.Cmp.{Cmp}
use Rattle.affine_index.specs.declared.cond.Cond.{Cond}
use Rattle.affine_index.specs.declared.form.Atom.{Atom, out-Atom}
use Rattle.affine_index.specs.declared.form.Atom.TheOpen.{Atom-F}
use Rattle.affine_index.specs.declared.form.Items.{Items}
use Rattle.fact_list.specs.Facts.{where_normal}
use Rattle.path_focus.specs.Outcome.{Meant}
use Rattle.path_focus.specs.declared.place.Focus.{Focus}
use Rattle.path_focus.specs.declared.rule.Arg.{Arg}
use Rattle.path_focus.specs.declared.rule.Arg.TheVariants as arg
use Rattle.rules_narrow.specs.Narrow.{fitting, further, is_range, start, sum_narrow, with_form, with_two}
use Rattle.rules_narrow.specs.Quotients.{atom_of, by_layer, cmps_have, cmps_zeroed, div_zero, guard_zeroed, index_zeroed, on_either, with_cmps, with_quotient}
use Rattle.term_tree.specs.Syntax.{guard, index}
use Rattle.term_tree.specs.declared.term.Term.{Term}
use Rattle.zeroed_forms.specs.Occurs.{occurs}
use Rattle.zeroed_forms.specs.Zeroed.{zeroed}
use Rattle.atl_printer.specs.Printable.{HasNoWordOf}
use Rattle.printable_versions.proofs.Words.{MakesNoWord, at_guard, at_sum, put_words}

two_given : (as' : List Arg) (g : Items → Items → Meant) → ((a m : Items) → MakesNoWord (g a m)) → MakesNoWord (with_two as' g)
two_given (arg.Ix a ∷ (arg.Ix m ∷ [])) g h = h a m
two_given _ g h = tt

if_fitting : (b : Bool) (m : Meant) → MakesNoWord m → MakesNoWord (fitting b m)
if_fitting true m h = h
if_fitting false m h = tt

form_given : (o : Option Items) (g : Items → Meant) → ((x : Items) → MakesNoWord (g x)) → MakesNoWord (with_form o g)
form_given (Some x) g h = h x
form_given None g h = tt

cmps_given : (o : Option (List Cmp)) (g : List Cmp → Meant) → ((cs : List Cmp) → MakesNoWord (g cs)) → MakesNoWord (with_cmps o g)
cmps_given (Some cs) g h = h cs
cmps_given None g h = tt

layer_given : (l : Atom-F Atom Items) (g : Items → ℕ → Meant) → ((r : Items) (k : ℕ) → MakesNoWord (g r k)) → MakesNoWord (by_layer l g)
layer_given (Atom-F.Div r k) g h = h r k
layer_given _ g h = tt

quotient_given : (o : Option Atom) (g : Atom → Items → ℕ → Meant) → ((z : Atom) (r : Items) (k : ℕ) → MakesNoWord (g z r k)) → MakesNoWord (with_quotient o g)
quotient_given (Some z) g h = layer_given (out-Atom z) (g z) (h z)
quotient_given None g h = tt

at_either : (t : Term) (g : Term → Items → Meant) (k : Cond → Term → Meant) → HasNoWordOf t → ((e : Term) (x : Items) → HasNoWordOf e → MakesNoWord (g e x))
    → ((c : Cond) (e : Term) → HasNoWordOf e → MakesNoWord (k c e)) → MakesNoWord (on_either t g k)
at_either (index e x) g k p h l = h e x p
at_either (guard c e) g k p h l = l c e p
at_either _ g k p h l = tt

module _ (f : Focus) (as' : List Arg) (p : HasNoWordOf f.term) where
  pub sum_narrow_words : MakesNoWord (sum_narrow f as')
  sum_narrow_words = at_sum f.term _ p (λ n e h. at_guard e _ h (λ c b k. two_given as' _ (λ a m. if_fitting (is_range f.facts a m) _
      (form_given (where_normal (further (start a))) _ (λ x. put_words (x ∷ []) 1 (guard c b) k)))))

  pub div_zero_words : MakesNoWord (div_zero f as')
  div_zero_words = at_either f.term (index_zeroed f.facts as') (guard_zeroed f.facts as') p
      (λ e x h. quotient_given (atom_of as') _ (λ z r k. if_fitting (occurs z x) _ (form_given (zeroed z x) _ (λ y. h))))
      (λ c e h. quotient_given (atom_of as') _ (λ z r k. if_fitting (cmps_have z c.all) _ (cmps_given (cmps_zeroed z c.all) _ (λ cs. h))))
