-- Reads: their tensors and indices are in scope, and so they are under one more binder.
use Rattle.std.proofs.Common.{◌≡◌, ℕ, suc, ◌<◌, ◌≤◌, List, [], ◌∷◌, ◌++◌, length, get_or, refl, sym, ap, subst, arith, true, nat_lt, Option, Some, None}
use Rattle.std.proofs.lemmas.Bool.{and_from, and_parts}
use Rattle.affine_index.specs.declared.form.Items.{Items}
use Rattle.affine_index.specs.Form.{var_form}
use Rattle.affine_index.specs.Limited.{items_scoped}
use Rattle.affine_index.specs.Put.{numbers_fit}
use Rattle.affine_index.proofs.ScopedMoves.{form-fits}
use Rattle.reindexer.specs.Ready.{extents_ready}
use Rattle.region_plan.specs.Length.{zero_form}
use Rattle.shape_rules.specs.Scopes.{all_free, given}
use Rattle.term_tree.specs.declared.term.Term.{Term, Lit, TVar, WordOf}
use Rattle.term_tree.specs.Modules.{extents_scoped}
use Rattle.term_tree.specs.Scope.{term_scoped}
use Rattle.term_tree.specs.Shape.{Extents}
use Rattle.term_tree.specs.Syntax.{index, gen, sum, guard, let_in, add, sub, mul, concat, flatten, split, transpose, trunc_l, trunc_r, pad_l, pad_r}
use Rattle.final_rules.specs.Form.{each_shifted, one_deeper, read_under}
use Rattle.final_rules.specs.Places.{one_gen}
use Rattle.final_rules.specs.Printed.{full_read_printed, full_read_printed_if, greatest, plain, scope_of}
use Rattle.final_rules.specs.Printing.{ReadReady}
use Rattle.final_rules.specs.declared.printing.Scene.{Scene}
use Rattle.final_rules.specs.declared.read.Read.{Read}
use Rattle.final_rules.specs.declared.spot.Spot.{Spot}
use Rattle.final_rules.proofs.PrintedScoped.{At, shifted-at}
use Rattle.final_rules.proofs.Walk.{Every}
use Rattle.index_limits.specs.Kept.{inner_vars}
use Rattle.index_limits.specs.Places.{place_at}
use Rattle.index_limits.specs.Ready.{AllInScope, FullReady, FullReadyIf, StoreReady, around_ready, indices_move, indices_scoped}
use Rattle.index_limits.specs.declared.stores.Target.{Target}
use Rattle.index_limits.proofs.ScopeLaws.{free-ready, greatest-bound, variable-free, vars-few, vars-scope}

module _ (sizes : ℕ) where
  indices-every : (v : ℕ) (xs : List Items) → indices_scoped sizes v xs ≡ true → Every (At sizes v) xs
  indices-every v [] h = tt
  indices-every v (x ∷ xs) h = let p = and_parts (items_scoped sizes v x) (indices_scoped sizes v xs) h in (p.0, indices-every v xs p.1)

  every-indices : (v : ℕ) (xs : List Items) → Every (At sizes v) xs → indices_scoped sizes v xs ≡ true
  every-indices v [] h = refl
  every-indices v (x ∷ xs) h = and_from (items_scoped sizes v x) (indices_scoped sizes v xs) h.0 (every-indices v xs h.1)

  -- indices under one more binder
  pub deeper-scoped : (v : ℕ) (xs : List Items) → indices_scoped sizes v xs ≡ true → indices_scoped sizes (suc v) (each_shifted xs ++ var_form 0 ∷ []) ≡ true
  deeper-scoped v xs h = every-indices (suc v) (each_shifted xs ++ var_form 0 ∷ []) (shifted-at sizes v xs (indices-every v xs h))

  pub all-move : (v : ℕ) (xs : List Items) → v ≤ 2147483647 → indices_scoped sizes v xs ≡ true → indices_move xs ≡ true
  all-move v [] few h = refl
  all-move v (x ∷ xs) few h =
      let p = and_parts (items_scoped sizes v x) (indices_scoped sizes v xs) h in
      and_from (numbers_fit 0 1 x) (indices_move xs) (form-fits sizes v 0 1 (omega (arith, few)) x p.0) (all-move v xs few p.1)

  -- a read of a tensor in scope, under indices in scope
  abbrev pub ReadIn : ℕ → ℕ → Option Read → Type 0
  ReadIn v t None = Unit {0}
  ReadIn v t (Some d) = (d.var < t) × (indices_scoped sizes v d.indices ≡ true)

  lt-of : (k n : ℕ) → nat_lt k n ≡ true → k < n
  lt-of k n h = grind (arith, h)

  pub read-in : (e : Term) (xs : List Items) (v t : ℕ) → term_scoped sizes e v t ≡ true → indices_scoped sizes v xs ≡ true → ReadIn v t (read_under e xs)
  read-in (TVar q) xs v t c h = (lt-of q t c, h)
  read-in (index e x) xs v t c h =
      let p = and_parts (term_scoped sizes e v t) (items_scoped sizes v x) c in
      read-in e (x ∷ xs) v t p.0 (and_from (items_scoped sizes v x) (indices_scoped sizes v xs) p.1 h)
  read-in (Lit w) xs v t c h = tt
  read-in (WordOf x) xs v t c h = tt
  read-in (gen n e) xs v t c h = tt
  read-in (sum n e) xs v t c h = tt
  read-in (guard d e) xs v t c h = tt
  read-in (let_in a b) xs v t c h = tt
  read-in (add a b) xs v t c h = tt
  read-in (sub a b) xs v t c h = tt
  read-in (mul a b) xs v t c h = tt
  read-in (concat a b) xs v t c h = tt
  read-in (flatten e) xs v t c h = tt
  read-in (split k e) xs v t c h = tt
  read-in (transpose e) xs v t c h = tt
  read-in (trunc_l a e) xs v t c h = tt
  read-in (trunc_r a e) xs v t c h = tt
  read-in (pad_l a e) xs v t c h = tt
  read-in (pad_r a e) xs v t c h = tt

-- the place of scratch that is free prints nothing in a read that is stored
pub full-free : (scene : Scene) (target : Target) (f g : Items) (ns : Extents) (d : Read) (q : Spot)
    → full_read_printed ns d (place_at scene target f q) ≡ full_read_printed ns d (place_at scene target g q)
full-free scene target f g [] d q = refl
full-free scene target f g (n ∷ ns) d q = ap (λ ps. plain n (place_at scene target f q) ∷ ps) (full-free scene target f g ns (one_deeper d) (one_gen n q))

module _ (maxima vars : List ℕ) (scene : Scene) (target : Target) where
  pub full-store : (d : Read) (q : Spot) → FullReady maxima vars scene target [] d q → StoreReady maxima vars target q
  full-store d q h = record {
    within = λ x e. subst (λ k. items_scoped (length maxima) k x ≡ true) (vars-scope maxima vars q.path h.most) (h.within.0 x e);
    around = h.around;
    extents = h.extents;
  }

  pub full-place : (d : Read) (q : Spot) → FullReady maxima vars scene target [] d q → ReadReady maxima vars scene (Some d)
  full-place d q h = (
    h.there,
    h.shape,
    λ x e. subst (λ k. items_scoped (length maxima) k x ≡ true) (vars-scope maxima vars q.path h.most) (h.within.1.0 x e),
  )

  full-bound : (n : Items) (ns : Extents) (d : Read) (q : Spot) → FullReady maxima vars scene target (n ∷ ns) d q → items_scoped (length maxima) 0 n ≡ true
  full-bound n ns d q h = (and_parts (items_scoped (length maxima) 0 n) (extents_scoped (length maxima) ns) h.bounds).0

  pub full-bound-of : (ms : Extents) (n : Items) (ns : Extents) (d : Read) (q : Spot) → ms ≡ n ∷ ns → FullReady maxima vars scene target ms d q
      → items_scoped (length maxima) 0 n ≡ true
  full-bound-of ms n ns d q p h = full-bound n ns d q (subst (λ (us : Extents). FullReady maxima vars scene target us d q) p h)

  pub full-moves : (ns : Extents) (d : Read) (q : Spot) → length q.path ≤ 2147483647 → FullReady maxima vars scene target ns d q
      → indices_move d.indices ≡ true
  full-moves ns d q few h = all-move (length maxima) (length vars) d.indices (vars-few maxima vars q.path h.most few) h.indices

  deeper : (n : Items) (ns : Extents) (d : Read) (q : Spot) → FullReady maxima vars scene target (n ∷ ns) d q
      → FullReady maxima (inner_vars maxima vars n) scene target ns (one_deeper d) (one_gen n q)
  deeper n ns d q h = record {
    within = h.within.1;
    bounds = (and_parts (items_scoped (length maxima) 0 n) (extents_scoped (length maxima) ns) h.bounds).1;
    indices = deeper-scoped (length maxima) (length vars) d.indices h.indices;
    there = h.there;
    shape = h.shape;
    around = h.around;
    extents = h.extents;
    most = greatest-bound maxima vars q.path n h.most;
  }

  full-deeper : (n : Items) (ns : Extents) (d below : Read) (q inner : Spot) (more : List ℕ) → more ≡ inner_vars maxima vars n → below ≡ one_deeper d
      → inner ≡ one_gen n q → FullReady maxima vars scene target (n ∷ ns) d q → FullReady maxima more scene target ns below inner
  full-deeper n ns d below q inner more e f g h =
      subst (λ vs. FullReady maxima vs scene target ns below inner) (sym e)
      (subst (λ b. FullReady maxima (inner_vars maxima vars n) scene target ns b inner) (sym f)
      (subst (λ s. FullReady maxima (inner_vars maxima vars n) scene target ns (one_deeper d) s) (sym g) (deeper n ns d q h)))

  -- the same of extents that begin with that of the gen
  pub full-step : (ms : Extents) (n : Items) (ns : Extents) (d below : Read) (q inner : Spot) (more : List ℕ) → ms ≡ n ∷ ns → more ≡ inner_vars maxima vars n
      → below ≡ one_deeper d → inner ≡ one_gen n q → FullReady maxima vars scene target ms d q → FullReady maxima more scene target ns below inner
  full-step ms n ns d below q inner more p e f g h =
      full-deeper n ns d below q inner more e f g (subst (λ (us : Extents). FullReady maxima vars scene target us d q) p h)

  -- what is known of one at a node
  pub record FullParts (ns : Extents) (o : Option Read) (q : Spot) : Type 0 where
    pub within : AllInScope (length maxima) (full_read_printed_if ns o (place_at scene target zero_form q))
    pub around : around_ready q ≡ true
    pub extents : extents_ready target.extents ≡ true
    pub most : greatest maxima (scope_of q.path) ≡ vars

  pub full-ready : (ns : Extents) (o : Option Read) (q : Spot) → all_free (given scene.shapes) ≡ true
      → ReadIn (length maxima) (length vars) (length (given scene.shapes)) o
      → extents_scoped (length maxima) ns ≡ true → FullParts ns o q → FullReadyIf maxima vars scene target ns o q
  full-ready ns None q g r b h = tt
  full-ready ns (Some d) q g r b h = record {
    within = h.within;
    bounds = b;
    indices = r.1;
    there = r.0;
    shape = free-ready (get_or (given scene.shapes) d.var []) (variable-free (given scene.shapes) d.var g);
    around = h.around;
    extents = h.extents;
    most = h.most;
  }
