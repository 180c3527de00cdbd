-- What rules make: a body with a form for its variable, a term under more variables, raw forms, and conditions of a number that is to be at least 0.
use Rattle.std.specs.Prelude.{ℕ, List, [], ◌∷◌, pos}
use Rattle.affine_index.specs.Form.{literal_form}
use Rattle.affine_index.specs.Sum.{difference_of, scaled, sum_of}
use Rattle.affine_index.specs.declared.form.Items.{Items}
use Rattle.binders.specs.Maps.{mapped}
use Rattle.binders.specs.PlainMaps.{put_index_map, shift_map}
use Rattle.fact_list.specs.Facts.{where_normal}
use Rattle.fact_list.specs.declared.facts.Facts.{Facts}
use Rattle.term_tree.specs.Shape.{tiles}
use Rattle.term_tree.specs.declared.term.Term.{Term}
use Rattle.path_focus.specs.declared.rule.Condition.{Condition}

-- the body of a gen or sum with a form for its variable
abbrev pub with_index : Items → Term → Term
with_index x b = mapped (put_index_map (x ∷ []) 0) 0 0 b

-- the body without its gen or sum; where it is free of the variable, any form may stand for it
abbrev pub lowered : Term → Term
lowered b = with_index (literal_form (pos 0)) b

-- a term under one more gen or sum
abbrev pub raised : Term → Term
raised e = mapped (shift_map 1 0) 0 0 e

-- a term under one more let
abbrev pub under_let : Term → Term
under_let e = mapped (shift_map 0 1) 0 0 e

-- n - 1 - x
abbrev pub rest_below : Items → Items → Items
rest_below n x = difference_of n (sum_of x (literal_form (pos 1)))

-- k*p + q
abbrev pub in_tile : ℕ → Items → Items → Items
in_tile k p q = sum_of (scaled (pos k) p) q

-- k*D - n, where D tiles of k hold n
abbrev pub tile_rest : ℕ → Items → Items
tile_rest k n = difference_of (scaled (pos k) (tiles k n)) n

-- a number is at least 0 by these facts
abbrev pub owed : Facts → Items → Condition
owed f x = record { goal = where_normal x; facts = f }

-- 0 <= x < n
abbrev pub one_of_rows : Facts → Items → Items → List Condition
one_of_rows f n x = owed f x ∷ (owed f (rest_below n x) ∷ [])
