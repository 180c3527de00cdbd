-- Where a node stands: what is known there, where tensors lie, and how its indices become a place in the buffer that it is stored in.
use Rattle.std.specs.Prelude.{ℕ, ◌-◌, List, [], ◌∷◌, ◌++◌, map, get_or, pos, negsuc}
use Rattle.affine_index.specs.declared.cond.Cond.{Cond}
use Rattle.affine_index.specs.declared.form.Items.{Items}
use Rattle.affine_index.specs.Form.{literal_form, var_form}
use Rattle.affine_index.specs.Product.{product_of}
use Rattle.affine_index.specs.Sum.{scaled, sum_of}
use Rattle.term_tree.specs.declared.term.Term.{Term}
use Rattle.term_tree.specs.Syntax.{trunc_r}
use Rattle.term_tree.specs.Shape.{Extents, shape_of}
use Rattle.term_tree.specs.Goals.{extents_or_none}
use Rattle.fact_list.specs.declared.facts.PathFact.{PathFact}
use Rattle.fact_list.specs.Facts.{binders}
use Rattle.fact_list.specs.declared.facts.PathFact.TheVariants.{Bound, Holds}
use Rattle.reindexer.specs.Indices.{indices_after}
use Rattle.reindexer.specs.declared.frame.Frame.{Frame}
use Rattle.reindexer.specs.declared.frame.Frame.TheVariants.{Fix, Transpose, Flatten, Split, Shift, Keep}
use Rattle.final_rules.specs.declared.spot.Around.{Around}
use Rattle.final_rules.specs.declared.spot.Around.TheVariants.{Loop, Swapped, Joined, Tiled, Later, Without, Before}
use Rattle.final_rules.specs.declared.spot.Spot.{Spot}
use Rattle.final_rules.specs.declared.read.Read.{Read}

-- one binder or one guard further in

abbrev pub on_path : PathFact → Spot → Spot
on_path f q = record { path = q.path ++ f ∷ []; around = q.around }

-- inside one more node of the same buffer
abbrev pub inside : Around → Spot → Spot
inside f q = record { path = q.path; around = f ∷ q.around }

-- a gen is a loop, whose variable comes in front of the indices
abbrev pub one_gen : Items → Spot → Spot
one_gen n q = record { path = q.path ++ Bound n ∷ []; around = Loop (binders q.path) ∷ q.around }

-- a tensor of its own
abbrev pub alone : Spot → Spot
alone q = record { path = q.path; around = [] }

-- the extents of a term under the shapes of its tensor variables
abbrev pub extents_under : Term → List Extents → Extents
extents_under e ts = extents_or_none (shape_of e ts)

abbrev pub first_of : Extents → Items
first_of [] = literal_form (pos 0)
first_of (n ∷ ns) = n

abbrev pub rest_of : Extents → Extents
rest_of [] = []
rest_of (n ∷ ns) = ns

-- the right part of a concat is moved by the first extent of the left one
abbrev pub right_of : Term → List Extents → Around
right_of a ts = Later (first_of (extents_under a ts))

-- the first two indices become one by the second extent
abbrev pub joined_by : Term → List Extents → Around
joined_by e ts = Joined (first_of (rest_of (extents_under e ts)))

-- so many rows as the first extent of a truncation are kept
abbrev pub before_end : Items → Term → List Extents → Around
before_end a e ts = Before (first_of (extents_under (trunc_r a e) ts))

-- the frame of a node, seen from under so many loops
abbrev pub frame_of : ℕ → Around → Frame
frame_of loops (Loop k) = Fix (var_form (loops - 1 - k))
frame_of loops Swapped = Transpose
frame_of loops (Joined m) = Flatten m
frame_of loops (Tiled k) = Split k
frame_of loops (Later a) = Shift a
frame_of loops (Without a) = Shift (scaled (negsuc 0) a)
frame_of loops (Before m) = Keep m

abbrev pub frames_of : Spot → List Frame
frames_of q = map (frame_of (binders q.path)) q.around

-- where the words of a tensor lie: in row order from an offset on
pub record Site : Type 0 where
  pub extents : Extents
  pub offset : Items

pub record Place : Type 0 where
  pub spot : Spot
  -- of the tensor variables, from the innermost
  pub sites : List Site
  -- the buffer that is stored in
  pub target : Site
  -- where the scratch buffer is free
  pub free : Items

abbrev pub nowhere : Site
nowhere = record { extents = []; offset = literal_form (pos 0) }

abbrev pub site_at : Place → ℕ → Site
site_at p q = get_or p.sites q nowhere

abbrev pub shapes : Place → List Extents
shapes p = map (λ x. x.extents) p.sites

-- the extents of a term there
abbrev pub shape_at : Term → Place → Extents
shape_at e p = extents_under e (shapes p)

-- the number of words of a tensor, from its first extent
abbrev pub length_from : Items → Extents → Items
length_from x [] = x
length_from x (d ∷ ds) = length_from (product_of x d) ds

abbrev pub length_form : Extents → Items
length_form [] = literal_form (pos 1)
length_form (d ∷ ds) = length_from d ds

abbrev pub at_spot : Spot → Place → Place
at_spot q p = record p { spot = q }

abbrev pub in_gen : Items → Place → Place
in_gen n p = at_spot (one_gen n p.spot) p

abbrev pub in_sum : Items → Place → Place
in_sum n p = at_spot (on_path (Bound n) p.spot) p

abbrev pub in_guard : Cond → Place → Place
in_guard c p = at_spot (on_path (Holds c) p.spot) p

abbrev pub under_node : Around → Place → Place
under_node f p = at_spot (inside f p.spot) p

-- the tensor of a let stands where scratch is free; its two parts are planned behind it
abbrev pub let_site : Term → Place → Site
let_site a p = record { extents = shape_at a p; offset = p.free }

abbrev pub free_after : Term → Place → Items
free_after a p = sum_of p.free (length_form (shape_at a p))

abbrev pub in_definition : Term → Place → Place
in_definition a p = record p { spot = alone p.spot; target = let_site a p; free = free_after a p }

abbrev pub in_body : Term → Place → Place
in_body a p = record p { sites = let_site a p ∷ p.sites; free = free_after a p }

abbrev pub on_right : Term → Place → Place
on_right a p = under_node (right_of a (shapes p)) p

abbrev pub in_flatten : Term → Place → Place
in_flatten e p = under_node (joined_by e (shapes p)) p

abbrev pub in_truncr : Items → Term → Place → Place
in_truncr a e p = under_node (before_end a e (shapes p)) p

abbrev pub frames_at : Place → List Frame
frames_at p = frames_of p.spot

-- the row-order place of indices in extents, without limits: a place so far, and more indices in more extents
abbrev pub row_from : Items → List Items → List Items → Items
row_from x [] ys = x
row_from x (d ∷ ds) [] = x
row_from x (d ∷ ds) (y ∷ ys) = row_from (sum_of (product_of x d) y) ds ys

abbrev pub row_form : List Items → List Items → Items
row_form [] xs = literal_form (pos 0)
row_form (d ∷ ds) [] = literal_form (pos 0)
row_form (d ∷ ds) (x ∷ xs) = row_from x ds xs

-- the place of indices at a site, behind its offset
abbrev pub place_form : Site → List Items → Items
place_form b xs = sum_of (row_form b.extents xs) b.offset

abbrev pub read_form : Read → Place → Items
read_form d p = place_form (site_at p d.var) d.indices

abbrev pub store_form : Place → Items
store_form p = place_form p.target (indices_after (frames_at p) [])
