-- Where a node is lowered: its place, the buffers that are read and written there, and whether its leaves add.
use Rattle.std.specs.Prelude.{ℕ, List, ◌∷◌, get_or}
use Rattle.affine_index.specs.declared.cond.Cond.{Cond}
use Rattle.affine_index.specs.declared.form.Items.{Items}
use Rattle.term_tree.specs.declared.term.Term.{Term}
use Rattle.fact_list.specs.Facts.{binders}
use Rattle.loop_lang.specs.declared.index.Iexp.{Iexp}
use Rattle.loop_lang.specs.declared.word.Buf.{Buf}
use Rattle.loop_lang.specs.declared.word.Buf.TheVariants.{Output, Scratch}
use Rattle.loop_lang.specs.Actions.{Mode, Puts, Adds}
use Rattle.index_trees.specs.Tree.{index_tree}
use Rattle.final_rules.specs.declared.spot.Around.{Around}
use Rattle.final_rules.specs.Places.{Place, in_gen, in_sum, in_guard, under_node, in_definition, in_body, on_right, in_flatten, in_truncr}

pub record Context : Type 0 where
  pub place : Place
  -- of the tensor variables, from the innermost
  pub buffers : List Buf
  -- the buffer that is stored in
  pub target : Buf
  -- whether leaves put or add
  pub mode : Mode

abbrev pub buffer_at : Context → ℕ → Buf
buffer_at p q = get_or p.buffers q (Output 0)

-- the number of loops around
abbrev pub depth : Context → ℕ
depth p = binders p.place.spot.path

-- the tree that a form prints as there
abbrev pub tree_at : Context → Items → Iexp
tree_at p x = index_tree (depth p) x

-- the same context at another place
abbrev pub placed_at : Place → Context → Context
placed_at q p = record p { place = q }

-- in a gen, a sum, a guard
abbrev pub into_gen : Items → Context → Context
into_gen n p = record p { place = in_gen n p.place }

abbrev pub into_sum : Items → Context → Context
into_sum n p = record p { place = in_sum n p.place; mode = Adds }

abbrev pub into_guard : Cond → Context → Context
into_guard c p = record p { place = in_guard c p.place }

-- a part of a sum of stores adds
abbrev pub adding : Context → Context
adding p = record p { mode = Adds }

-- the one scratch region
abbrev pub region : Buf
region = Scratch 0

-- a definition is put there, and the body reads it
abbrev pub into_definition : Term → Context → Context
into_definition a p = record { place = in_definition a p.place; buffers = p.buffers; target = region; mode = Puts }

abbrev pub into_body : Term → Context → Context
into_body a p = record p { place = in_body a p.place; buffers = region ∷ p.buffers }

-- in a part of a reshape operator
abbrev pub onto_right : Term → Context → Context
onto_right a p = record p { place = on_right a p.place }

abbrev pub under_frame : Around → Context → Context
under_frame f p = record p { place = under_node f p.place }

abbrev pub into_flatten : Term → Context → Context
into_flatten e p = record p { place = in_flatten e p.place }

abbrev pub into_truncr : Items → Term → Context → Context
into_truncr a e p = record p { place = in_truncr a e p.place }
