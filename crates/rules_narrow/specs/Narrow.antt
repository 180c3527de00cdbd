-- The sum over the turns at which a guard may hold: what it becomes, and under which conditions.
use Rattle.std.specs.Prelude.{List, [], ◌∷◌, ◌++◌, length, Bool, ◌&&◌, nat_le, Option, Some, None, if◌then◌else◌}
use Rattle.affine_index.specs.Form.{var_form}
use Rattle.affine_index.specs.Limited.{items_scoped}
use Rattle.affine_index.specs.Normal.{is_normal}
use Rattle.affine_index.specs.Put.{shifted}
use Rattle.affine_index.specs.Sum.{difference_of, sum_of}
use Rattle.affine_index.specs.declared.cond.Cond.{Cond}
use Rattle.affine_index.specs.declared.form.Items.{Items}
use Rattle.binders.specs.Maps.{mapped}
use Rattle.binders.specs.PlainMaps.{put_index_map}
use Rattle.fact_list.specs.Facts.{binders, where_normal}
use Rattle.fact_list.specs.declared.facts.Facts.{Facts}
use Rattle.fact_list.specs.declared.facts.PathFact.TheVariants.{Bound, Holds}
use Rattle.path_focus.specs.Making.{owed, rest_below}
use Rattle.path_focus.specs.Outcome.{Makes, Meant, Unfit}
use Rattle.path_focus.specs.declared.place.Focus.{Focus}
use Rattle.path_focus.specs.declared.rule.Arg.{Arg}
use Rattle.path_focus.specs.declared.rule.Arg.TheVariants as arg
use Rattle.path_focus.specs.declared.rule.Condition.{Condition}
use Rattle.rule_parts.specs.Patterns.{on_guard, on_sum}
use Rattle.term_tree.specs.Syntax.{guard, sum}
use Rattle.term_tree.specs.declared.term.Term.{Term}

-- what is known of sizes alone
abbrev pub outside : Facts → Facts
outside f = record f { path = [] }

-- what is known within a sum
abbrev pub in_turn : Facts → Items → Facts
in_turn f n = record f { path = f.path ++ Bound n ∷ [] }

-- what is known within a guard
abbrev pub in_guard : Facts → Cond → Facts
in_guard f c = record f { path = f.path ++ Holds c ∷ [] }

-- what is known of a term within a guard within a sum
abbrev pub inside : Facts → Items → Cond → Facts
inside f n c = in_guard (in_turn f n) c

-- a under one more sum
abbrev pub start : Items → Items
start a = shifted 0 1 a

-- i + x, with i the innermost variable
abbrev pub further : Items → Items
further x = sum_of (var_form 0) x

-- a term with a form for i, the innermost variable, under another in its place
abbrev pub moved_to : Items → Term → Term
moved_to x b = mapped (put_index_map (x ∷ []) 1) 0 0 b

-- n - a - m
abbrev pub behind : Items → Items → Items → Items
behind n a m = difference_of n (sum_of a m)

-- i - x
abbrev pub since : Items → Items
since x = difference_of (var_form 0) x

-- x + m - 1 - i
abbrev pub until : Items → Items → Items
until x m = rest_below (sum_of x m) (var_form 0)

-- m >= 0 by what is known of sizes alone
abbrev pub some_turns : Facts → Items → Condition
some_turns f m = owed (outside f) m

-- a + m <= n
abbrev pub ends_within : Facts → Items → Items → Items → Condition
ends_within f n a m = owed f (behind n a m)

-- m turns from a on are turns of a sum
abbrev pub range_within : Facts → Items → Items → Items → List Condition
range_within f n a m = owed f a ∷ (some_turns f m ∷ (ends_within f n a m ∷ []))

-- x <= i < x + m, by what is known where the guard holds
abbrev pub turns_within : Facts → Items → Items → List Condition
turns_within known x m = owed known (since x) ∷ (owed known (until x m) ∷ [])

-- a normal form a of what is there and m over sizes, on a path with room for two more facts
abbrev pub is_range : Facts → Items → Items → Bool
is_range f a m =
    is_normal a && (nat_le (length f.path) 2147483645 && (items_scoped (length f.sizes) (binders f.path) a && items_scoped (length f.sizes) 0 m))

-- what is made of the two indices that are the arguments
abbrev pub with_two : List Arg → (Items → Items → Meant) → Meant
with_two (arg.Ix a ∷ (arg.Ix m ∷ [])) g = g a m
with_two _ g = Unfit

-- where arguments fit
abbrev pub fitting : Bool → Meant → Meant
fitting b m = if b then m else Unfit

-- what is made of a form, where there is one within the limits
abbrev pub with_form : Option Items → (Items → Meant) → Meant
with_form (Some x) g = g x
with_form None g = Unfit

-- the sum of m turns from a on, where i + a is within the limits, of a row that is a guard
abbrev pub made : Facts → Items → Cond → Term → Items → Items → Meant
made f n c row a m = with_form (where_normal (further (start a)))
    (λ x. Makes (sum m (moved_to x row)) (range_within f n a m ++ turns_within (inside f n c) (start a) m))

-- sum i < n. guard c. b becomes sum i < m. (guard c. b){i + a}
abbrev pub sum_narrow : Focus → List Arg → Meant
sum_narrow f as' =
    on_sum f.term (λ n e. on_guard e (λ c b. with_two as' (λ a m. fitting (is_range f.facts a m) (made f.facts n c (guard c b) a m))))
