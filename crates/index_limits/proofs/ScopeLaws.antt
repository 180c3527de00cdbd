-- Scopes of paths, shapes of scenes, and frames under however many loops.
use Rattle.std.proofs.Common.{◌≡◌, ℕ, zero, suc, ◌-◌, ◌≤◌, List, [], ◌∷◌, ◌++◌, length, map, get_or, take, drop, refl, sym, ap, ◌∙◌, arith, true}
use Rattle.std.proofs.Common.{◌&&◌, not, Ok, Err, IfOk}
use Rattle.std.specs.Prelude.{pos, negsuc}
use Rattle.std.specs.Ordering.{int_eq}
use Rattle.std.proofs.lemmas.Bool.{and_from, and_parts}
use Rattle.std.proofs.lemmas.List.{take_all}
use Rattle.affine_index.specs.declared.form.Items.{Items}
use Rattle.affine_index.specs.Limited.{items_scoped}
use Rattle.affine_index.specs.Normal.{holds_var}
use Rattle.affine_index.specs.Sum.{scaled}
use Rattle.affine_index.proofs.FormScopes.{form-of, of-form, scaled_if-scoped}
use Rattle.fact_list.specs.declared.facts.PathFact.{PathFact}
use Rattle.fact_list.specs.declared.facts.PathFact.TheVariants.{Bound, Holds}
use Rattle.fact_list.specs.Facts.{binders}
use Rattle.reindexer.specs.Ready.{extents_ready, frame_ready, frames_ready}
use Rattle.shape_rules.specs.Scopes.{all_free, each_free, given}
use Rattle.shape_rules.proofs.FreeForms.{free_literal, scoped_free}
use Rattle.shape_rules.proofs.FreeShapes.{shape_free}
use Rattle.shape_rules.proofs.PlainLaws.{plain_scoped}
use Rattle.term_tree.specs.Goals.{extents_or_none}
use Rattle.term_tree.specs.Modules.{extents_scoped}
use Rattle.term_tree.specs.Scope.{term_scoped}
use Rattle.term_tree.specs.Shape.{Extents, Shaped, shape_of}
use Rattle.term_tree.specs.declared.term.Term.{Term}
use Rattle.final_rules.specs.declared.spot.Around.{Around}
use Rattle.final_rules.specs.declared.spot.Around.TheVariants.{Loop, Swapped, Joined, Tiled, Later, Without, Before}
use Rattle.final_rules.specs.declared.printing.Scene.{Scene}
use Rattle.final_rules.specs.declared.spot.Spot.{Spot}
use Rattle.final_rules.specs.Places.{extents_under, first_of, frame_of, frames_of, rest_of, shapes}
use Rattle.final_rules.specs.Printed.{Printed, at_least_one, greatest, scope_of, scope_onto}
use Rattle.affine_index.specs.Magnitude.{magnitude}
use Rattle.final_rules.specs.Printing.{sites_of}
use Rattle.final_rules.proofs.Accepted.{length-map}
use Rattle.final_rules.proofs.PrintedScoped.{All0, extents-at, shape-eon}
use Rattle.final_rules.proofs.Walk.{Every, scope-length}
use Rattle.index_limits.specs.Places.{place_at}
use Rattle.index_limits.specs.Ready.{AllInScope, InScope, around_ready, shapes_scoped}
use Rattle.index_limits.specs.declared.stores.Target.{Target}

scope-onto-bound : (ps : List PathFact) (n : Items) (acc : Extents) → scope_onto acc (ps ++ Bound n ∷ []) ≡ n ∷ scope_onto acc ps
scope-onto-bound [] n acc = refl
scope-onto-bound (Bound m ∷ ps) n acc = scope-onto-bound ps n (m ∷ acc)
scope-onto-bound (Holds c ∷ ps) n acc = scope-onto-bound ps n acc

-- the greatest values inside a binder
pub greatest-bound : (maxima vars : List ℕ) (ps : List PathFact) (n : Items) → greatest maxima (scope_of ps) ≡ vars
    → greatest maxima (scope_of (ps ++ Bound n ∷ [])) ≡ at_least_one (magnitude maxima [] n) ∷ vars
greatest-bound maxima vars ps n h = ap (greatest maxima) (scope-onto-bound ps n []) ∙ ap (λ vs. at_least_one (magnitude maxima [] n) ∷ vs) h

binders-most : (ps : List PathFact) → binders ps ≤ length ps
binders-most [] = omega arith
binders-most (Bound n ∷ ps) = omega (arith, binders-most ps)
binders-most (Holds c ∷ ps) = omega (arith, binders-most ps)

-- as many variables as the path has binders
pub vars-scope : (maxima vars : List ℕ) (ps : List PathFact) → greatest maxima (scope_of ps) ≡ vars → length (scope_of ps) ≡ length vars
vars-scope maxima vars ps h = sym (length-map (λ n. at_least_one (magnitude maxima [] n)) (scope_of ps)) ∙ ap length h

pub vars-few : (maxima vars : List ℕ) (ps : List PathFact) → greatest maxima (scope_of ps) ≡ vars → length ps ≤ 2147483647 → length vars ≤ 2147483647
vars-few maxima vars ps h few = omega (arith, vars-scope maxima vars ps h, scope-length ps [], binders-most ps, few)

-- the tensors in scope at a place
sites-shapes : (ts : List Extents) (os : List Items) → map (λ x. x.extents) (sites_of ts os) ≡ ts
sites-shapes [] os = refl
sites-shapes (ns ∷ ts) [] = ap (λ us. ns ∷ us) (sites-shapes ts [])
sites-shapes (ns ∷ ts) (o ∷ os) = ap (λ us. ns ∷ us) (sites-shapes ts os)

pub shapes-at : (scene : Scene) (t : Target) (free : Items) (q : Spot) → shapes (place_at scene t free q) ≡ given scene.shapes
shapes-at scene t free q = sites-shapes (given scene.shapes) scene.offsets

pub in-parts : (sizes : ℕ) (xs ys : List Printed) → AllInScope sizes (xs ++ ys) → AllInScope sizes xs × AllInScope sizes ys
in-parts sizes [] ys h = (tt, h)
in-parts sizes (x ∷ xs) ys h = let p = in-parts sizes xs ys h.1 in ((h.0, p.0), p.1)

pub in-every : (sizes : ℕ) (xs : List Printed) → Every (InScope sizes) xs → AllInScope sizes xs
in-every sizes [] h = tt
in-every sizes (x ∷ xs) h = (h.0, in-every sizes xs h.1)

-- frames

pub free-ready : (ns : Extents) → each_free ns ≡ true → extents_ready ns ≡ true
free-ready [] h = refl
free-ready (n ∷ ns) h =
    let p = and_parts (not (holds_var n)) (each_free ns) h in and_from (not (holds_var n)) (extents_ready ns) p.0 (free-ready ns p.1)

frame-any : (k : ℕ) (f : Around) → frame_ready (frame_of 0 f) ≡ frame_ready (frame_of k f)
frame-any k (Loop d) = refl
frame-any k Swapped = refl
frame-any k (Joined m) = refl
frame-any k (Tiled q) = refl
frame-any k (Later a) = refl
frame-any k (Without a) = refl
frame-any k (Before m) = refl

frames-any : (k : ℕ) (fs : List Around) → frames_ready (map (frame_of 0) fs) ≡ frames_ready (map (frame_of k) fs)
frames-any k [] = refl
frames-any k (f ∷ fs) = λ i. frame-any k f i && frames-any k fs i

pub frames-ready : (q : Spot) → around_ready q ≡ true → frames_ready (frames_of q) ≡ true
frames-ready q h = sym (frames-any (binders q.path) q.around) ∙ h

-- extents

pub first-free : (ns : Extents) → each_free ns ≡ true → not (holds_var (first_of ns)) ≡ true
first-free [] h = free_literal (pos 0)
first-free (n ∷ ns) h = (and_parts (not (holds_var n)) (each_free ns) h).0

pub rest-free : (ns : Extents) → each_free ns ≡ true → each_free (rest_of ns) ≡ true
rest-free [] h = refl
rest-free (n ∷ ns) h = (and_parts (not (holds_var n)) (each_free ns) h).1

pub variable-free : (ts : List Extents) (q : ℕ) → all_free ts ≡ true → each_free (get_or ts q []) ≡ true
variable-free [] q h = refl
variable-free (ns ∷ ts) zero h = (and_parts (each_free ns) (all_free ts) h).0
variable-free (ns ∷ ts) (suc q) h = variable-free ts q (and_parts (each_free ns) (all_free ts) h).1

free-or-none : (r : Shaped) → IfOk r (λ ns. each_free ns ≡ true) → each_free (extents_or_none r) ≡ true
free-or-none (Ok ns) h = h
free-or-none (Err m) h = refl

module _ (sizes : ℕ) where
  pub shape-free : (e : Term) (v t : ℕ) (ts : List Extents) → term_scoped sizes e v t ≡ true → all_free ts ≡ true → each_free (extents_under e ts) ≡ true
  shape-free e v t ts c g = free-or-none (shape_of e ts) (shape_free e ts (plain_scoped sizes e v t c) g)

  pub opposite-free : (a : Items) → items_scoped sizes 0 a ≡ true → not (holds_var (scaled (negsuc 0) a)) ≡ true
  opposite-free a h = scoped_free sizes (scaled (negsuc 0) a) (of-form sizes 0 (scaled (negsuc 0) a)
      (scaled_if-scoped sizes 0 (int_eq (negsuc 0) (pos 0)) (negsuc 0) a (form-of sizes 0 a h)))

  all-extents : (ns : Extents) → All0 sizes ns → extents_scoped sizes ns ≡ true
  all-extents [] h = refl
  all-extents (n ∷ ns) h = and_from (items_scoped sizes 0 n) (extents_scoped sizes ns) h.0 (all-extents ns h.1)

  pub shapes-all : (ts : List Extents) → shapes_scoped sizes ts ≡ true → Every (All0 sizes) ts
  shapes-all [] h = tt
  shapes-all (ns ∷ ts) h = let p = and_parts (extents_scoped sizes ns) (shapes_scoped sizes ts) h in (extents-at sizes ns p.0, shapes-all ts p.1)

  -- the extents of a term are over sizes alone
  pub shape-scoped : (e : Term) (v t : ℕ) (ts : List Extents) → term_scoped sizes e v t ≡ true → shapes_scoped sizes ts ≡ true
      → extents_scoped sizes (extents_under e ts) ≡ true
  shape-scoped e v t ts c g = all-extents (extents_under e ts) (shape-eon sizes e v t ts c (shapes-all ts g))

-- a list by its first item and the others, as code cuts it
pub front : (xs : Extents) (x : Items) → 1 ≤ length xs → x ≡ get_or xs 0 x → xs ≡ x ∷ take (length xs - 1) (drop 1 xs)
front [] x l e = absurd (omega (arith, l))
front (y ∷ ys) x l e =
    let k : length (y ∷ ys) - 1 ≡ length ys = omega arith in
    λ i. sym e i ∷ (sym (take_all (length ys) ys (omega arith)) ∙ ap (λ n. take n ys) (sym k)) i
