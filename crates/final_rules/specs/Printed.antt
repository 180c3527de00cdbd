-- The index expressions of the C text of a term in final form, in the order of the text.
use Rattle.std.specs.Prelude.{ℕ, ◌^◌, Bool, false, ◌&&◌, nat_le, if◌then◌else◌, List, [], ◌∷◌, ◌++◌, map, Option, Some, None, Ok, Err}
use Rattle.affine_index.specs.Condition.{cmp_form}
use Rattle.affine_index.specs.declared.cond.Cmp.{Cmp}
use Rattle.affine_index.specs.declared.form.Items.{Items}
use Rattle.affine_index.specs.Magnitude.{magnitude}
use Rattle.affine_index.specs.Normal.{is_normal}
use Rattle.affine_index.specs.Sum.{sum_of}
use Rattle.term_tree.specs.declared.term.Term.{Term, Lit, TVar, WordOf}
use Rattle.term_tree.specs.Syntax.{index, gen, sum, guard, let_in, add, sub, mul, concat, flatten, split, transpose, trunc_l, trunc_r, pad_l, pad_r}
use Rattle.term_tree.specs.Shape.{Extents}
use Rattle.fact_list.specs.declared.facts.PathFact.{PathFact}
use Rattle.fact_list.specs.declared.facts.PathFact.TheVariants.{Bound, Holds}
use Rattle.reindexer.specs.Limited.{Limited, and_then, limited}
use Rattle.reindexer.specs.Places.{limited_place, row_place}
use Rattle.region_plan.specs.Needed.{words_form}
use Rattle.final_rules.specs.declared.spot.Around.TheVariants.{Swapped, Tiled, Later, Without}
use Rattle.final_rules.specs.declared.read.Read.{Read}
use Rattle.final_rules.specs.Form.{read_under, one_deeper, adds_words}
use Rattle.final_rules.specs.Places.{Place, site_at, shapes, shape_at, in_gen, in_sum, in_guard, under_node, in_definition, in_body, on_right, in_flatten}
use Rattle.final_rules.specs.Places.{in_truncr, frames_at}

-- an index that is printed, taken form by form, and the extents of the variables in scope, from the innermost
pub record Printed : Type 0 where
  pub form : Limited Items
  pub scope : Extents

-- the extents of the variables on a path, from the innermost
abbrev pub scope_onto : Extents → List PathFact → Extents
scope_onto ns [] = ns
scope_onto ns (Bound n ∷ ps) = scope_onto (n ∷ ns) ps
scope_onto ns (Holds c ∷ ps) = scope_onto ns ps

abbrev pub scope_of : List PathFact → Extents
scope_of ps = scope_onto [] ps

abbrev pub printed_at : Place → Limited Items → Printed
printed_at p x = record { form = x; scope = scope_of p.spot.path }

-- a form that is printed as it stands
abbrev pub plain : Items → Place → Printed
plain x p = printed_at p (limited x)

abbrev pub comparisons : List Cmp → Place → List Printed
comparisons [] p = []
comparisons (c ∷ cs) p = plain (cmp_form c) p ∷ comparisons cs p

-- a place in a tensor, behind the offset of the tensor
abbrev pub behind : Items → Limited Items → Limited Items
behind offset x = and_then x (λ y. limited (sum_of y offset))

abbrev pub read_place : Read → Place → Printed
read_place d p = printed_at p (behind (site_at p d.var).offset (row_place (site_at p d.var).extents d.indices))

abbrev pub store_place : Place → Printed
store_place p = printed_at p (behind p.target.offset (limited_place (frames_at p) p.target.extents))

abbrev pub read_place_if : Option Read → Place → List Printed
read_place_if None p = []
read_place_if (Some d) p = read_place d p ∷ []

-- of a word, from left to right; a choice has its comparisons first
abbrev pub word_printed : Term → Place → List Printed
word_printed (WordOf x) p = plain x p ∷ []
word_printed (TVar q) p = read_place_if (read_under (TVar q) []) p
word_printed (index e x) p = read_place_if (read_under (index e x) []) p
word_printed (guard c e) p = comparisons c.all p ++ word_printed e (in_guard c p)
word_printed (add a b) p = word_printed a p ++ word_printed b p
word_printed (sub a b) p = word_printed a p ++ word_printed b p
word_printed (mul a b) p = word_printed a p ++ word_printed b p
word_printed _ p = []

abbrev pub leaf_printed : Term → Place → List Printed
leaf_printed e p = store_place p ∷ word_printed e p

abbrev pub full_read_printed : Extents → Read → Place → List Printed
full_read_printed [] d p = store_place p ∷ read_place d p ∷ []
full_read_printed (n ∷ ns) d p = plain n p ∷ full_read_printed ns (one_deeper d) (in_gen n p)

abbrev pub full_read_printed_if : Extents → Option Read → Place → List Printed
full_read_printed_if ns None p = []
full_read_printed_if ns (Some d) p = full_read_printed ns d p

abbrev pub length_printed : Extents → Place → Printed
length_printed ns p = printed_at p (words_form ns)

-- of a term in a store position
abbrev pub printed_of : Term → Place → List Printed
printed_of (Lit w) p = leaf_printed (Lit w) p
printed_of (WordOf x) p = leaf_printed (WordOf x) p
printed_of (TVar q) p = full_read_printed_if (shape_at (TVar q) p) (read_under (TVar q) []) p
printed_of (index e x) p = full_read_printed_if (shape_at (index e x) p) (read_under (index e x) []) p
printed_of (gen n e) p = plain n p ∷ printed_of e (in_gen n p)
printed_of (sum n e) p = plain n p ∷ printed_of e (in_sum n p)
printed_of (guard c e) p = comparisons c.all p ++ printed_of e (in_guard c p)
printed_of (let_in a b) p = plain p.free p ∷ length_printed (shape_at a p) p ∷ (printed_of a (in_definition a p) ++ printed_of b (in_body a p))
printed_of (add a b) p = if adds_words a b (shapes p) then leaf_printed (add a b) p else (printed_of a p ++ printed_of b p)
printed_of (sub a b) p = leaf_printed (sub a b) p
printed_of (mul a b) p = leaf_printed (mul a b) p
printed_of (concat a b) p = printed_of a p ++ printed_of b (on_right a p)
printed_of (flatten e) p = printed_of e (in_flatten e p)
printed_of (split k e) p = printed_of e (under_node (Tiled k) p)
printed_of (transpose e) p = printed_of e (under_node Swapped p)
printed_of (trunc_l a e) p = printed_of e (under_node (Without a) p)
printed_of (trunc_r a e) p = printed_of e (in_truncr a e p)
printed_of (pad_l a e) p = printed_of e (under_node (Later a) p)
printed_of (pad_r a e) p = printed_of e p

abbrev pub at_least_one : ℕ → ℕ
at_least_one n = if nat_le 1 n then n else 1

-- the greatest value of each variable: the magnitude of its extent, counted as at least 1
abbrev pub greatest : List ℕ → Extents → List ℕ
greatest maxima ns = map (λ n. at_least_one (magnitude maxima [] n)) ns

-- the greatest magnitude of a printed index
abbrev pub largest_index : ℕ
largest_index = 2 ^ 62

-- a normal form within the limits, as all on the way to it are, and of a magnitude of at most 2^62
abbrev pub form_small : List ℕ → List ℕ → Limited Items → Bool
form_small maxima vars (Ok x) = is_normal x && nat_le (magnitude maxima vars x) largest_index
form_small maxima vars (Err e) = false

abbrev pub is_small : List ℕ → Printed → Bool
is_small maxima i = form_small maxima (greatest maxima i.scope) i.form
