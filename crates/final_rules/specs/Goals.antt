-- What a term in final form has to show: that its reads are in range, and that what is left out is never stored.
use Rattle.std.specs.Prelude.{if◌then◌else◌, List, [], ◌∷◌, ◌++◌, get_or, Option, Some, None, pos, Ok, Err}
use Rattle.affine_index.specs.declared.form.Items.{Items}
use Rattle.affine_index.specs.Form.{literal_form}
use Rattle.affine_index.specs.Sum.{difference_of}
use Rattle.term_tree.specs.declared.term.Term.{Term, Lit, TVar, WordOf}
use Rattle.term_tree.specs.Syntax.{index, gen, sum, guard, let_in, add, sub, mul, concat, flatten, split, transpose, trunc_l, trunc_r, pad_l, pad_r}
use Rattle.term_tree.specs.Shape.{Extents}
use Rattle.fact_list.specs.declared.facts.Facts.{Facts}
use Rattle.fact_list.specs.declared.facts.PathFact.{PathFact}
use Rattle.fact_list.specs.declared.facts.PathFact.TheVariants.{Bound, Holds}
use Rattle.fact_list.specs.Facts.{binders, where_normal}
use Rattle.reindexer.specs.Indices.{framed}
use Rattle.reindexer.specs.Limited.{Limited, limited}
use Rattle.final_rules.specs.declared.goal.Goal.{Goal}
use Rattle.final_rules.specs.declared.goal.GoalKind.{GoalKind}
use Rattle.final_rules.specs.declared.goal.GoalKind.TheVariants.{Read as OfRead, Drop as OfDrop}
use Rattle.final_rules.specs.declared.spot.Around.{Around}
use Rattle.final_rules.specs.declared.spot.Around.TheVariants.{Swapped, Tiled, Later, Without, Before}
use Rattle.final_rules.specs.declared.spot.Spot.{Spot}
use Rattle.final_rules.specs.declared.read.Read.{Read}
use Rattle.final_rules.specs.Form.{read_under, one_deeper, adds_words}
use Rattle.final_rules.specs.Places.{Place, shapes, on_path, inside, one_gen, alone, extents_under, right_of, joined_by, before_end, frame_of}

-- a form that has to be at least 0 where the path holds, unless it breaks a limit
pub record Claim : Type 0 where
  pub kind : GoalKind
  pub form : Limited Items
  pub path : List PathFact

abbrev pub one : Items
one = literal_form (pos 1)

-- n - 1 - x
abbrev pub below : Items → Items → Items
below n x = difference_of (difference_of n one) x

abbrev pub read_claim : List PathFact → Items → Claim
read_claim path x = record { kind = OfRead; form = limited x; path = path }

-- each index is at least 0 and below its extent
abbrev pub index_claims : List PathFact → List Items → Extents → List Claim
index_claims path [] ns = []
index_claims path (x ∷ xs) [] = []
index_claims path (x ∷ xs) (n ∷ ns) = read_claim path x ∷ read_claim path (below n x) ∷ index_claims path xs ns

abbrev pub read_claims : Read → List PathFact → List Extents → List Claim
read_claims d path ts = index_claims path d.indices (get_or ts d.var [])

abbrev pub read_claims_if : Option Read → List PathFact → List Extents → List Claim
read_claims_if None path ts = []
read_claims_if (Some d) path ts = read_claims d path ts

-- in a scalar position, from left to right
abbrev pub word_claims : Term → List PathFact → List Extents → List Claim
word_claims (TVar q) path ts = read_claims_if (read_under (TVar q) []) path ts
word_claims (index e x) path ts = read_claims_if (read_under (index e x) []) path ts
word_claims (guard c e) path ts = word_claims e (path ++ Holds c ∷ []) ts
word_claims (add a b) path ts = word_claims a path ts ++ word_claims b path ts
word_claims (sub a b) path ts = word_claims a path ts ++ word_claims b path ts
word_claims (mul a b) path ts = word_claims a path ts ++ word_claims b path ts
word_claims _ path ts = []

-- what the first index has to show, where there is one
abbrev pub of_first_index : (Items → Items) → List Items → Limited Items
of_first_index f [] = Ok (literal_form (pos 0))
of_first_index f (x ∷ xs) = limited (f x)

abbrev pub drop_claim : List PathFact → List Items → (Items → Items) → Claim
drop_claim path xs f = record { kind = OfDrop; form = of_first_index f xs; path = path }

-- the first index that a truncation is given is one that it keeps
abbrev pub kept_by : Around → List PathFact → List Items → List Claim
kept_by (Without a) path xs = drop_claim path xs (λ x. difference_of x a) ∷ []
kept_by (Before m) path xs = drop_claim path xs (below m) ∷ []
kept_by f path xs = []

-- so at each truncation around a leaf, the outermost first; forms on the way to an index have no limits
abbrev pub drops : List PathFact → List Around → List Items → List Claim
drops path [] xs = []
drops path (f ∷ fs) xs = drops path fs (framed (frame_of (binders path) f) xs) ++ kept_by f path xs

abbrev pub drop_claims : Spot → List Claim
drop_claims q = drops q.path q.around []

abbrev pub leaf_claims : Term → Spot → List Extents → List Claim
leaf_claims e q ts = drop_claims q ++ word_claims e q.path ts

-- a read of rank r counts as r gens around a full read
abbrev pub full_read_claims : Extents → Read → Spot → List Extents → List Claim
full_read_claims [] d q ts = drop_claims q ++ read_claims d q.path ts
full_read_claims (n ∷ ns) d q ts = full_read_claims ns (one_deeper d) (one_gen n q) ts

abbrev pub full_read_claims_if : Extents → Option Read → Spot → List Extents → List Claim
full_read_claims_if ns None q ts = []
full_read_claims_if ns (Some d) q ts = full_read_claims ns d q ts

-- in a store position, in preorder
abbrev pub claims_of : Term → Spot → List Extents → List Claim
claims_of (Lit w) q ts = leaf_claims (Lit w) q ts
claims_of (WordOf x) q ts = leaf_claims (WordOf x) q ts
claims_of (TVar v) q ts = full_read_claims_if (extents_under (TVar v) ts) (read_under (TVar v) []) q ts
claims_of (index e x) q ts = full_read_claims_if (extents_under (index e x) ts) (read_under (index e x) []) q ts
claims_of (gen n e) q ts = claims_of e (one_gen n q) ts
claims_of (sum n e) q ts = claims_of e (on_path (Bound n) q) ts
claims_of (guard c e) q ts = claims_of e (on_path (Holds c) q) ts
claims_of (let_in a b) q ts = claims_of a (alone q) ts ++ claims_of b q (extents_under a ts ∷ ts)
claims_of (add a b) q ts = if adds_words a b ts then leaf_claims (add a b) q ts else (claims_of a q ts ++ claims_of b q ts)
claims_of (sub a b) q ts = leaf_claims (sub a b) q ts
claims_of (mul a b) q ts = leaf_claims (mul a b) q ts
claims_of (concat a b) q ts = claims_of a q ts ++ claims_of b (inside (right_of a ts) q) ts
claims_of (flatten e) q ts = claims_of e (inside (joined_by e ts) q) ts
claims_of (split k e) q ts = claims_of e (inside (Tiled k) q) ts
claims_of (transpose e) q ts = claims_of e (inside Swapped q) ts
claims_of (trunc_l a e) q ts = claims_of e (inside (Without a) q) ts
claims_of (trunc_r a e) q ts = claims_of e (inside (before_end a e ts) q) ts
claims_of (pad_l a e) q ts = claims_of e (inside (Later a) q) ts
claims_of (pad_r a e) q ts = claims_of e q ts

abbrev pub claims_at : Term → Place → List Claim
claims_at e p = claims_of e p.spot (shapes p)

-- the form of a goal, if it is one of normal forms within the limits
abbrev pub kept_goal : Limited Items → Option Items
kept_goal (Ok x) = where_normal x
kept_goal (Err e) = None

-- the goal of a claim, with these facts along its path
abbrev pub goal_of : Facts → Claim → Goal
goal_of f c = record { kind = c.kind; goal = kept_goal c.form; facts = record { sizes = f.sizes; assumes = f.assumes; path = c.path } }
