-- What a gen or sum that is cut at an index becomes, and under which conditions.
use Rattle.std.specs.Prelude.{List, [], ◌∷◌, length, ◌&&◌, if◌then◌else◌}
use Rattle.affine_index.specs.Form.{var_form}
use Rattle.affine_index.specs.Limited.{items_scoped}
use Rattle.affine_index.specs.Normal.{is_normal}
use Rattle.affine_index.specs.Sum.{difference_of, sum_of}
use Rattle.affine_index.specs.declared.form.Items.{Items}
use Rattle.binders.specs.Maps.{mapped}
use Rattle.binders.specs.PlainMaps.{put_index_map}
use Rattle.fact_list.specs.declared.facts.Facts.{Facts}
use Rattle.path_focus.specs.Making.{owed}
use Rattle.path_focus.specs.Outcome.{Meant, Unfit}
use Rattle.path_focus.specs.declared.place.Focus.{Focus}
use Rattle.path_focus.specs.declared.rule.Arg.{Arg}
use Rattle.path_focus.specs.declared.rule.Arg.TheVariants.{Ix}
use Rattle.path_focus.specs.declared.rule.Condition.{Condition}
use Rattle.term_tree.specs.declared.term.Term.{Term}

-- i + x, with i the innermost variable
abbrev pub further : Items → Items
further x = sum_of (var_form 0) x

-- a body with i + x for i, the innermost variable
abbrev pub moved_by : Items → Term → Term
moved_by x b = mapped (put_index_map (further x ∷ []) 1) 0 0 b

-- what is known of sizes alone
abbrev pub outside : Facts → Facts
outside f = record f { path = [] }

-- 0 <= x <= n, by what is known of sizes alone
abbrev pub within_extent : Facts → Items → Items → List Condition
within_extent f n x = owed (outside f) x ∷ (owed (outside f) (difference_of n x) ∷ [])

-- one argument, a normal form over sizes for which i + x is within the limits
abbrev pub with_cut : Focus → List Arg → (Items → Meant) → Meant
with_cut f (Ix x ∷ []) g = if items_scoped (length f.facts.sizes) 0 x && (is_normal x && is_normal (further x)) then g x else Unfit
with_cut f _ g = Unfit
