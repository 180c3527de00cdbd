-- Words in scope have what the walk of words asks for.
use Rattle.std.proofs.Common.{◌≡◌, ℕ, List, [], length, get_or, refl, ap, ◌∙◌, subst, true, not, Option, Some, None}
use Rattle.std.proofs.lemmas.Bool.{and_parts}
use Rattle.affine_index.specs.declared.cond.Cond.{Cond}
use Rattle.affine_index.specs.declared.form.Items.{Items}
use Rattle.affine_index.specs.Condition.{all_scoped}
use Rattle.affine_index.specs.Limited.{items_scoped}
use Rattle.fact_list.specs.declared.facts.PathFact.TheVariants.{Holds}
use Rattle.reindexer.specs.Ready.{extents_ready}
use Rattle.shape_rules.specs.Scopes.{all_free, given}
use Rattle.term_tree.specs.declared.term.Term.{Term, Lit, TVar, WordOf}
use Rattle.term_tree.specs.Scope.{cond_scoped, is_empty, term_scoped}
use Rattle.term_tree.specs.Syntax.{index, gen, sum, guard, let_in, add, sub, mul, concat, flatten, split, transpose, trunc_l, trunc_r, pad_l, pad_r}
use Rattle.final_rules.specs.Form.{read_under}
use Rattle.final_rules.specs.Places.{on_path}
use Rattle.final_rules.specs.Printed.{comparisons, greatest, leaf_printed, read_place_if, scope_of, word_printed}
use Rattle.final_rules.specs.Printing.{ReadReady, WordReady}
use Rattle.final_rules.specs.declared.printing.Scene.{Scene}
use Rattle.final_rules.specs.declared.read.Read.{Read}
use Rattle.final_rules.specs.declared.spot.Spot.{Spot}
use Rattle.final_rules.proofs.Walk.{scope-holds}
use Rattle.index_limits.specs.Places.{place_at}
use Rattle.index_limits.specs.Ready.{AllInScope, LeafReady, around_ready}
use Rattle.index_limits.specs.declared.stores.Target.{Target}
use Rattle.index_limits.proofs.ReadLaws.{ReadIn, read-in}
use Rattle.index_limits.proofs.ScopeLaws.{free-ready, in-parts, variable-free, vars-scope}

pub cond-parts : (sizes v : ℕ) (c : Cond) → cond_scoped sizes v c ≡ true → all_scoped sizes v c.all ≡ true
cond-parts sizes v c h = (and_parts (not (is_empty c.all)) (all_scoped sizes v c.all) h).1

module _ (maxima vars : List ℕ) (scene : Scene) (target : Target) (free : Items) (g : all_free (given scene.shapes) ≡ true) where
  abbrev sizes : ℕ
  sizes = length maxima

  abbrev tensors : ℕ
  tensors = length (given scene.shapes)

  pub greatest-holds : (q : Spot) (c : Cond) → greatest maxima (scope_of q.path) ≡ vars → greatest maxima (scope_of (on_path (Holds c) q).path) ≡ vars
  greatest-holds q c h = ap (greatest maxima) (scope-holds q.path c []) ∙ h

  read-ready : (o : Option Read) (q : Spot) → greatest maxima (scope_of q.path) ≡ vars → ReadIn sizes (length vars) tensors o
      → AllInScope sizes (read_place_if o (place_at scene target free q)) → ReadReady maxima vars scene o
  read-ready None q m r w = tt
  read-ready (Some d) q m r w = (
    r.0,
    free-ready (get_or (given scene.shapes) d.var []) (variable-free (given scene.shapes) d.var g),
    λ x e. subst (λ k. items_scoped sizes k x ≡ true) (vars-scope maxima vars q.path m) (w.0 x e),
  )

  pub word-ready : (e : Term) (q : Spot) → greatest maxima (scope_of q.path) ≡ vars → term_scoped sizes e (length vars) tensors ≡ true
      → AllInScope sizes (word_printed e (place_at scene target free q)) → WordReady maxima vars scene e
  word-ready (WordOf x) q m c w = c
  word-ready (TVar v) q m c w = read-ready (read_under (TVar v) []) q m (read-in sizes (TVar v) [] (length vars) tensors c refl) w
  word-ready (index e x) q m c w = read-ready (read_under (index e x) []) q m (read-in sizes (index e x) [] (length vars) tensors c refl) w
  word-ready (guard d e) q m c w =
      let p = and_parts (cond_scoped sizes (length vars) d) (term_scoped sizes e (length vars) tensors) c in
      let i = in-parts sizes (comparisons d.all (place_at scene target free q)) (word_printed e (place_at scene target free (on_path (Holds d) q))) w in
      (cond-parts sizes (length vars) d p.0, word-ready e (on_path (Holds d) q) (greatest-holds q d m) p.1 i.1)
  word-ready (add a b) q m c w =
      let p = and_parts (term_scoped sizes a (length vars) tensors) (term_scoped sizes b (length vars) tensors) c in
      let i = in-parts sizes (word_printed a (place_at scene target free q)) (word_printed b (place_at scene target free q)) w in
      (word-ready a q m p.0 i.0, word-ready b q m p.1 i.1)
  word-ready (sub a b) q m c w =
      let p = and_parts (term_scoped sizes a (length vars) tensors) (term_scoped sizes b (length vars) tensors) c in
      let i = in-parts sizes (word_printed a (place_at scene target free q)) (word_printed b (place_at scene target free q)) w in
      (word-ready a q m p.0 i.0, word-ready b q m p.1 i.1)
  word-ready (mul a b) q m c w =
      let p = and_parts (term_scoped sizes a (length vars) tensors) (term_scoped sizes b (length vars) tensors) c in
      let i = in-parts sizes (word_printed a (place_at scene target free q)) (word_printed b (place_at scene target free q)) w in
      (word-ready a q m p.0 i.0, word-ready b q m p.1 i.1)
  word-ready (Lit k) q m c w = tt
  word-ready (gen n e) q m c w = tt
  word-ready (sum n e) q m c w = tt
  word-ready (let_in a b) q m c w = tt
  word-ready (concat a b) q m c w = tt
  word-ready (flatten e) q m c w = tt
  word-ready (split k e) q m c w = tt
  word-ready (transpose e) q m c w = tt
  word-ready (trunc_l n e) q m c w = tt
  word-ready (trunc_r n e) q m c w = tt
  word-ready (pad_l n e) q m c w = tt
  word-ready (pad_r n e) q m c w = tt

  pub leaf-ready : (e : Term) (q : Spot) → greatest maxima (scope_of q.path) ≡ vars → term_scoped sizes e (length vars) tensors ≡ true
      → AllInScope sizes (leaf_printed e (place_at scene target free q)) → around_ready q ≡ true → extents_ready target.extents ≡ true
      → LeafReady maxima vars scene target q e
  leaf-ready e q m c w a x = record {
    store = record {
      within = λ y h. subst (λ k. items_scoped sizes k y ≡ true) (vars-scope maxima vars q.path m) (w.0 y h);
      around = a;
      extents = x;
    };
    word = word-ready e q m c w.1;
    most = m;
  }
