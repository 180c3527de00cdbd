-- Lines may be tried on each goal of a sound module: the facts of its path are few and well scoped.
use Rattle.std.proofs.Common.{◌≡◌, ℕ, zero, suc, ◌+◌, ◌≤◌, List, [], ◌∷◌, ◌++◌, length, get_or, refl, sym, ap, ◌∙◌, subst, arith, Bool, true, false}
use Rattle.std.proofs.Common.{◌&&◌, not, nat_le, nat_lt, Option, Some, None, if◌then◌else◌, Ok, Err}
use Rattle.std.specs.Prelude.{All}
use Rattle.std.proofs.lemmas.Bool.{and_from, and_parts}
use Rattle.std.proofs.lemmas.List.{length-map}
use Rattle.affine_index.specs.Condition.{all_scoped}
use Rattle.affine_index.specs.Limited.{items_scoped}
use Rattle.affine_index.specs.declared.cond.Cmp.{Cmp}
use Rattle.affine_index.specs.declared.cond.Cond.{Cond}
use Rattle.affine_index.specs.declared.form.Items.{Items}
use Rattle.fact_list.specs.Facts.{binders}
use Rattle.fact_list.specs.Scoped.{has_comparison, path_scoped}
use Rattle.fact_list.specs.declared.facts.Facts.{Facts}
use Rattle.fact_list.specs.declared.facts.PathFact.{PathFact}
use Rattle.fact_list.specs.declared.facts.PathFact.TheVariants.{Bound, Holds}
use Rattle.fact_list.specs.declared.facts.SizeBounds.{SizeBounds}
use Rattle.fact_list.proofs.ScopedLaws.{scoped-fits}
use Rattle.shape_rules.specs.Admitted.{module_facts}
use Rattle.reindexer.specs.Indices.{framed}
use Rattle.term_tree.specs.declared.cause.Cause.{Cause}
use Rattle.term_tree.specs.declared.cause.Cause.TheVariants.{CoefficientTooLarge, IndexTooLong, RankTooLarge}
use Rattle.term_tree.specs.declared.term.Module.{Module}
use Rattle.term_tree.specs.declared.term.OutputDecl.{OutputDecl}
use Rattle.term_tree.specs.declared.term.Term.{Term, Lit, TVar, WordOf}
use Rattle.term_tree.specs.Syntax.{index, gen, sum, guard, let_in, add, sub, mul, concat, flatten, split, transpose, trunc_l, trunc_r, pad_l, pad_r}
use Rattle.term_tree.specs.Counts.{node_count}
use Rattle.term_tree.specs.Goals.{extents_or_none}
use Rattle.term_tree.specs.Modules.{IsSound, input_shapes, inputs_scoped, outputs_scoped}
use Rattle.term_tree.specs.Scope.{cond_scoped, is_empty, largest_tile, term_scoped}
use Rattle.term_tree.specs.Shape.{Extents, Shaped, each_fits, each_short, here, limited, of_first, shape_of, with_child}
use Rattle.final_rules.specs.declared.read.Read.{Read}
use Rattle.final_rules.specs.declared.spot.Around.{Around}
use Rattle.final_rules.specs.declared.spot.Around.TheVariants.{Loop, Swapped, Joined, Tiled, Later, Without, Before}
use Rattle.final_rules.specs.declared.spot.Spot.{Spot}
use Rattle.final_rules.specs.Form.{adds_words, one_deeper, read_under}
use Rattle.final_rules.specs.Goals.{Claim, claims_of, drop_claims, drops, full_read_claims, full_read_claims_if, index_claims, kept_by, leaf_claims}
use Rattle.final_rules.specs.Goals.{read_claims, read_claims_if, word_claims}
use Rattle.final_rules.specs.Met.{AllCanBeMet}
use Rattle.final_rules.specs.Places.{alone, before_end, extents_under, frame_of, inside, joined_by, on_path, one_gen, right_of}
use Rattle.final_rules.specs.Rules.{goals_with, module_goals, output_spot, outputs_claims}
use Rattle.final_rules.proofs.PrintedScoped.{All0, shape-eon, shapes-at}
use Rattle.final_rules.proofs.Walk.{Every, binders-bound, binders-holds}

-- one fact more

pub one-longer : (ps : List PathFact) (f : PathFact) → length (ps ++ f ∷ []) ≡ length ps + 1
one-longer [] f = refl
one-longer (p ∷ ps) f = omega (arith, one-longer ps f)

bound-scoped : (sizes depth : ℕ) (ps : List PathFact) (n : Items) → path_scoped sizes depth ps ≡ true → items_scoped sizes 0 n ≡ true
    → path_scoped sizes depth (ps ++ Bound n ∷ []) ≡ true
bound-scoped sizes depth [] n h g = and_from (items_scoped sizes 0 n) true g refl
bound-scoped sizes depth (Bound m ∷ ps) n h g =
    let p = and_parts (items_scoped sizes 0 m) (path_scoped sizes (suc depth) ps) h in
    and_from (items_scoped sizes 0 m) (path_scoped sizes (suc depth) (ps ++ Bound n ∷ [])) p.0 (bound-scoped sizes (suc depth) ps n p.1 g)
bound-scoped sizes depth (Holds c ∷ ps) n h g =
    let p = and_parts (has_comparison c.all) (all_scoped sizes depth c.all && path_scoped sizes depth ps) h in
    let q = and_parts (all_scoped sizes depth c.all) (path_scoped sizes depth ps) p.1 in
    and_from (has_comparison c.all) (all_scoped sizes depth c.all && path_scoped sizes depth (ps ++ Bound n ∷ [])) p.0
    (and_from (all_scoped sizes depth c.all) (path_scoped sizes depth (ps ++ Bound n ∷ [])) q.0 (bound-scoped sizes depth ps n q.1 g))

compared : (cs : List Cmp) → not (is_empty cs) ≡ true → has_comparison cs ≡ true
compared [] h = h
compared (c ∷ cs) h = refl

guard-scoped : (sizes depth : ℕ) (ps : List PathFact) (c : Cond) → path_scoped sizes depth ps ≡ true → cond_scoped sizes (depth + binders ps) c ≡ true
    → path_scoped sizes depth (ps ++ Holds c ∷ []) ≡ true
guard-scoped sizes depth [] c h g =
    let p = and_parts (not (is_empty c.all)) (all_scoped sizes (depth + 0) c.all) g in
    and_from (has_comparison c.all) (all_scoped sizes depth c.all && true) (compared c.all p.0)
    (and_from (all_scoped sizes depth c.all) true (ap (λ (v : ℕ). all_scoped sizes v c.all) (sym (no-more depth)) ∙ p.1) refl)
  where
    no-more : (v : ℕ) → v + 0 ≡ v
    no-more v = omega arith
guard-scoped sizes depth (Bound m ∷ ps) c h g =
    let p = and_parts (items_scoped sizes 0 m) (path_scoped sizes (suc depth) ps) h in
    and_from (items_scoped sizes 0 m) (path_scoped sizes (suc depth) (ps ++ Holds c ∷ [])) p.0
    (guard-scoped sizes (suc depth) ps c p.1 (ap (λ (v : ℕ). cond_scoped sizes v c) (one-more depth (binders ps)) ∙ g))
  where
    one-more : (v w : ℕ) → suc v + w ≡ v + suc w
    one-more v w = omega arith
guard-scoped sizes depth (Holds d ∷ ps) c h g =
    let p = and_parts (has_comparison d.all) (all_scoped sizes depth d.all && path_scoped sizes depth ps) h in
    let q = and_parts (all_scoped sizes depth d.all) (path_scoped sizes depth ps) p.1 in
    and_from (has_comparison d.all) (all_scoped sizes depth d.all && path_scoped sizes depth (ps ++ Holds c ∷ [])) p.0
    (and_from (all_scoped sizes depth d.all) (path_scoped sizes depth (ps ++ Holds c ∷ [])) q.0 (guard-scoped sizes depth ps c q.1 g))

-- the rank of a read

abbrev Few : Shaped → Type 0
Few r = length (extents_or_none r) ≤ 8

few-if : (b : Bool) (w : Cause) (r : Shaped) → (b ≡ true → Few r) → Few (if not b then here w else r)
few-if true w r h = h refl
few-if false w r h = omega arith

few-limited : (ns : Extents) → Few (limited ns)
few-limited ns =
    few-if (nat_le (length ns) 8) RankTooLarge (if not (each_fits ns) then here CoefficientTooLarge else
    (if not (each_short ns) then here IndexTooLong else Ok ns))
    (λ h. few-if (each_fits ns) CoefficientTooLarge (if not (each_short ns) then here IndexTooLong else Ok ns)
    (λ k. few-if (each_short ns) IndexTooLong (Ok ns) (λ l. most (length ns) h)))
  where
    most : (n : ℕ) → nat_le n 8 ≡ true → n ≤ 8
    most n h = grind arith

few-child : (r : Shaped) → Few r → Few (with_child 0 r (λ ns. of_first ns (λ n rest. Ok rest)))
few-child (Ok []) h = omega arith
few-child (Ok (n ∷ ns)) h = omega (arith, h)
few-child (Err m) h = omega arith

few-read : (e : Term) (ts : List Extents) (xs : List Items) (d : Read) → read_under e xs ≡ Some d → Few (shape_of e ts)
few-read (TVar q) ts xs d h = few-limited (get_or ts q [])
few-read (index e x) ts xs d h = few-child (shape_of e ts) (few-read e ts (x ∷ xs) d h)
few-read (Lit w) ts xs d h = absurd (cc)
few-read (WordOf x) ts xs d h = absurd (cc)
few-read (gen n e) ts xs d h = absurd (cc)
few-read (sum n e) ts xs d h = absurd (cc)
few-read (guard c e) ts xs d h = absurd (cc)
few-read (let_in a b) ts xs d h = absurd (cc)
few-read (add a b) ts xs d h = absurd (cc)
few-read (sub a b) ts xs d h = absurd (cc)
few-read (mul a b) ts xs d h = absurd (cc)
few-read (concat a b) ts xs d h = absurd (cc)
few-read (flatten e) ts xs d h = absurd (cc)
few-read (split k e) ts xs d h = absurd (cc)
few-read (transpose e) ts xs d h = absurd (cc)
few-read (trunc_l a e) ts xs d h = absurd (cc)
few-read (trunc_r a e) ts xs d h = absurd (cc)
few-read (pad_l a e) ts xs d h = absurd (cc)
few-read (pad_r a e) ts xs d h = absurd (cc)

-- each read has few extents where it stands
abbrev pub FewUnder : Term → List Extents → Option Read → Type 0
FewUnder e ts None = Unit {0}
FewUnder e ts (Some d) = Few (shape_of e ts)

pub few-under : (e : Term) (ts : List Extents) (o : Option Read) → read_under e [] ≡ o → FewUnder e ts o
few-under e ts None h = tt
few-under e ts (Some d) h = few-read e ts [] d h

module _ (sizes : ℕ) where
  -- a path with few facts that are well scoped
  abbrev Kept : List PathFact → Type 0
  Kept path = (path_scoped sizes 0 path ≡ true) × (length path ≤ 2147483647)

  abbrev AllKept : List Claim → Type 0
  AllKept = Every (λ (c : Claim). Kept c.path)

  -- a path under so many binders, with room for so many facts and those of a read
  record Roomy (path : List PathFact) (v room : ℕ) : Type 0 where
    pub scoped : path_scoped sizes 0 path ≡ true
    pub vars : binders path ≡ v
    pub few : length path + room ≤ 2147483639

  joined : (cs ds : List Claim) → AllKept cs → AllKept ds → AllKept (cs ++ ds)
  joined [] ds h g = g
  joined (c ∷ cs) ds h g = (h.0, joined cs ds h.1 g)

  kept : (path : List PathFact) (v room : ℕ) → Roomy path v room → Kept path
  kept path v room h = (h.scoped, omega (arith, h.few))

  less : (path : List PathFact) (v room more : ℕ) → room ≤ more → Roomy path v more → Roomy path v room
  less path v room more l h = record { scoped = h.scoped; vars = h.vars; few = omega (arith, l, h.few) }

  bound : (path : List PathFact) (v room : ℕ) (n : Items) → items_scoped sizes 0 n ≡ true → Roomy path v (room + 1)
      → Roomy (path ++ Bound n ∷ []) (v + 1) room
  bound path v room n k h = record {
    scoped = bound-scoped sizes 0 path n h.scoped k;
    vars = binders-bound path n ∙ (omega (arith, h.vars));
    few = omega (arith, one-longer path (Bound n), h.few);
  }

  held : (path : List PathFact) (v room : ℕ) (c : Cond) → cond_scoped sizes v c ≡ true → Roomy path v (room + 1) → Roomy (path ++ Holds c ∷ []) v room
  held path v room c k h = record {
    scoped =
        let z : 0 + binders path ≡ binders path = omega arith in
        guard-scoped sizes 0 path c h.scoped (ap (λ (n : ℕ). cond_scoped sizes n c) (z ∙ h.vars) ∙ k);
    vars = binders-holds path c ∙ h.vars;
    few = omega (arith, one-longer path (Holds c), h.few);
  }

  indices-kept : (path : List PathFact) (xs : List Items) (ns : Extents) → Kept path → AllKept (index_claims path xs ns)
  indices-kept path [] ns h = tt
  indices-kept path (x ∷ xs) [] h = tt
  indices-kept path (x ∷ xs) (n ∷ ns) h = (h, (h, indices-kept path xs ns h))

  read-kept : (o : Option Read) (path : List PathFact) (ts : List Extents) → Kept path → AllKept (read_claims_if o path ts)
  read-kept None path ts h = tt
  read-kept (Some d) path ts h = indices-kept path d.indices (get_or ts d.var []) h

  word-kept : (e : Term) (path : List PathFact) (v t : ℕ) (ts : List Extents) → term_scoped sizes e v t ≡ true → Roomy path v (node_count e)
      → AllKept (word_claims e path ts)
  word-kept (TVar q) path v t ts c h = read-kept (read_under (TVar q) []) path ts (kept path v 1 h)
  word-kept (index e x) path v t ts c h = read-kept (read_under (index e x) []) path ts (kept path v (node_count e + 1) h)
  word-kept (guard d e) path v t ts c h =
      let p = and_parts (cond_scoped sizes v d) (term_scoped sizes e v t) c in
      word-kept e (path ++ Holds d ∷ []) v t ts p.1 (held path v (node_count e) d p.0 h)
  word-kept (add a b) path v t ts c h =
      let p = and_parts (term_scoped sizes a v t) (term_scoped sizes b v t) c in
      joined (word_claims a path ts) (word_claims b path ts)
      (word-kept a path v t ts p.0 (less path v (node_count a) (node_count a + node_count b + 1) (omega arith) h))
      (word-kept b path v t ts p.1 (less path v (node_count b) (node_count a + node_count b + 1) (omega arith) h))
  word-kept (sub a b) path v t ts c h =
      let p = and_parts (term_scoped sizes a v t) (term_scoped sizes b v t) c in
      joined (word_claims a path ts) (word_claims b path ts)
      (word-kept a path v t ts p.0 (less path v (node_count a) (node_count a + node_count b + 1) (omega arith) h))
      (word-kept b path v t ts p.1 (less path v (node_count b) (node_count a + node_count b + 1) (omega arith) h))
  word-kept (mul a b) path v t ts c h =
      let p = and_parts (term_scoped sizes a v t) (term_scoped sizes b v t) c in
      joined (word_claims a path ts) (word_claims b path ts)
      (word-kept a path v t ts p.0 (less path v (node_count a) (node_count a + node_count b + 1) (omega arith) h))
      (word-kept b path v t ts p.1 (less path v (node_count b) (node_count a + node_count b + 1) (omega arith) h))
  word-kept (Lit w) path v t ts c h = tt
  word-kept (WordOf x) path v t ts c h = tt
  word-kept (gen n e) path v t ts c h = tt
  word-kept (sum n e) path v t ts c h = tt
  word-kept (let_in a b) path v t ts c h = tt
  word-kept (concat a b) path v t ts c h = tt
  word-kept (flatten e) path v t ts c h = tt
  word-kept (split k e) path v t ts c h = tt
  word-kept (transpose e) path v t ts c h = tt
  word-kept (trunc_l a e) path v t ts c h = tt
  word-kept (trunc_r a e) path v t ts c h = tt
  word-kept (pad_l a e) path v t ts c h = tt
  word-kept (pad_r a e) path v t ts c h = tt

  one-kept : (f : Around) (path : List PathFact) (xs : List Items) → Kept path → AllKept (kept_by f path xs)
  one-kept (Loop k) path xs h = tt
  one-kept Swapped path xs h = tt
  one-kept (Joined m) path xs h = tt
  one-kept (Tiled k) path xs h = tt
  one-kept (Later a) path xs h = tt
  one-kept (Without a) path xs h = (h, tt)
  one-kept (Before m) path xs h = (h, tt)

  drops-kept : (path : List PathFact) (fs : List Around) (xs : List Items) → Kept path → AllKept (drops path fs xs)
  drops-kept path [] xs h = tt
  drops-kept path (f ∷ fs) xs h =
      let ys = framed (frame_of (binders path) f) xs in
      joined (drops path fs ys) (kept_by f path xs) (drops-kept path fs ys h) (one-kept f path xs h)

  leaf-kept : (e : Term) (q : Spot) (v t : ℕ) (ts : List Extents) → term_scoped sizes e v t ≡ true → Roomy q.path v (node_count e)
      → AllKept (leaf_claims e q ts)
  leaf-kept e q v t ts c h =
      joined (drop_claims q) (word_claims e q.path ts) (drops-kept q.path q.around [] (kept q.path v (node_count e) h)) (word-kept e q.path v t ts c h)

  full-kept : (ns : Extents) (d : Read) (q : Spot) (ts : List Extents) → All0 sizes ns → path_scoped sizes 0 q.path ≡ true
      → length q.path + length ns ≤ 2147483647 → AllKept (full_read_claims ns d q ts)
  full-kept [] d q ts k c h =
      let p : Kept q.path = (c, omega (arith, h)) in
      joined (drop_claims q) (read_claims d q.path ts) (drops-kept q.path q.around [] p) (indices-kept q.path d.indices (get_or ts d.var []) p)
  full-kept (n ∷ ns) d q ts k c h =
      full-kept ns (one_deeper d) (one_gen n q) ts k.1 (bound-scoped sizes 0 q.path n c k.0) (omega (arith, one-longer q.path (Bound n), h))

  full-kept-if : (e : Term) (o : Option Read) (q : Spot) (v : ℕ) (ts : List Extents) → FewUnder e ts o → All0 sizes (extents_under e ts)
      → Roomy q.path v (node_count e) → AllKept (full_read_claims_if (extents_under e ts) o q ts)
  full-kept-if e None q v ts f k h = tt
  full-kept-if e (Some d) q v ts f k h = full-kept (extents_under e ts) d q ts k h.scoped (omega (arith, f, h.few))

  add-kept : (a b : Term) (q : Spot) (ts : List Extents) (w : Bool) → AllKept (leaf_claims (add a b) q ts) → AllKept (claims_of a q ts)
      → AllKept (claims_of b q ts) → AllKept (if w then leaf_claims (add a b) q ts else (claims_of a q ts ++ claims_of b q ts))
  add-kept a b q ts true h l r = h
  add-kept a b q ts false h l r = joined (claims_of a q ts) (claims_of b q ts) l r

  claims-kept : (e : Term) (q : Spot) (v t : ℕ) (ts : List Extents) → term_scoped sizes e v t ≡ true → Every (All0 sizes) ts
      → Roomy q.path v (node_count e) → AllKept (claims_of e q ts)
  claims-kept (Lit w) q v t ts c b h = leaf-kept (Lit w) q v t ts c h
  claims-kept (WordOf x) q v t ts c b h = leaf-kept (WordOf x) q v t ts c h
  claims-kept (TVar k) q v t ts c b h =
      full-kept-if (TVar k) (read_under (TVar k) []) q v ts (few-under (TVar k) ts (read_under (TVar k) []) refl) (shape-eon sizes (TVar k) v t ts c b) h
  claims-kept (index e x) q v t ts c b h =
      full-kept-if (index e x) (read_under (index e x) []) q v ts (few-under (index e x) ts (read_under (index e x) []) refl)
      (shape-eon sizes (index e x) v t ts c b) h
  claims-kept (gen n e) q v t ts c b h =
      let p = and_parts (items_scoped sizes 0 n) (term_scoped sizes e (v + 1) t) c in
      claims-kept e (one_gen n q) (v + 1) t ts p.1 b (bound q.path v (node_count e) n p.0 h)
  claims-kept (sum n e) q v t ts c b h =
      let p = and_parts (items_scoped sizes 0 n) (term_scoped sizes e (v + 1) t) c in
      claims-kept e (on_path (Bound n) q) (v + 1) t ts p.1 b (bound q.path v (node_count e) n p.0 h)
  claims-kept (guard d e) q v t ts c b h =
      let p = and_parts (cond_scoped sizes v d) (term_scoped sizes e v t) c in
      claims-kept e (on_path (Holds d) q) v t ts p.1 b (held q.path v (node_count e) d p.0 h)
  claims-kept (let_in a e) q v t ts c b h =
      let p = and_parts (term_scoped sizes a v t) (term_scoped sizes e v (t + 1)) c in
      let ns = extents_under a ts in
      joined (claims_of a (alone q) ts) (claims_of e q (ns ∷ ts))
      (claims-kept a (alone q) v t ts p.0 b (less q.path v (node_count a) (node_count a + node_count e + 1) (omega arith) h))
      (claims-kept e q v (t + 1) (ns ∷ ts) p.1 (shape-eon sizes a v t ts p.0 b, b)
      (less q.path v (node_count e) (node_count a + node_count e + 1) (omega arith) h))
  claims-kept (add a e) q v t ts c b h =
      let p = and_parts (term_scoped sizes a v t) (term_scoped sizes e v t) c in
      add-kept a e q ts (adds_words a e ts) (leaf-kept (add a e) q v t ts c h)
      (claims-kept a q v t ts p.0 b (less q.path v (node_count a) (node_count a + node_count e + 1) (omega arith) h))
      (claims-kept e q v t ts p.1 b (less q.path v (node_count e) (node_count a + node_count e + 1) (omega arith) h))
  claims-kept (sub a e) q v t ts c b h = leaf-kept (sub a e) q v t ts c h
  claims-kept (mul a e) q v t ts c b h = leaf-kept (mul a e) q v t ts c h
  claims-kept (concat a e) q v t ts c b h =
      let p = and_parts (term_scoped sizes a v t) (term_scoped sizes e v t) c in
      joined (claims_of a q ts) (claims_of e (inside (right_of a ts) q) ts)
      (claims-kept a q v t ts p.0 b (less q.path v (node_count a) (node_count a + node_count e + 1) (omega arith) h))
      (claims-kept e (inside (right_of a ts) q) v t ts p.1 b (less q.path v (node_count e) (node_count a + node_count e + 1) (omega arith) h))
  claims-kept (flatten e) q v t ts c b h =
      claims-kept e (inside (joined_by e ts) q) v t ts c b (less q.path v (node_count e) (node_count e + 1) (omega arith) h)
  claims-kept (split k e) q v t ts c b h =
      claims-kept e (inside (Tiled k) q) v t ts (and_parts (nat_lt 0 k && nat_le k largest_tile) (term_scoped sizes e v t) c).1 b
      (less q.path v (node_count e) (node_count e + 1) (omega arith) h)
  claims-kept (transpose e) q v t ts c b h =
      claims-kept e (inside Swapped q) v t ts c b (less q.path v (node_count e) (node_count e + 1) (omega arith) h)
  claims-kept (trunc_l a e) q v t ts c b h =
      claims-kept e (inside (Without a) q) v t ts (and_parts (items_scoped sizes 0 a) (term_scoped sizes e v t) c).1 b
      (less q.path v (node_count e) (node_count e + 1) (omega arith) h)
  claims-kept (trunc_r a e) q v t ts c b h =
      claims-kept e (inside (before_end a e ts) q) v t ts (and_parts (items_scoped sizes 0 a) (term_scoped sizes e v t) c).1 b
      (less q.path v (node_count e) (node_count e + 1) (omega arith) h)
  claims-kept (pad_l a e) q v t ts c b h =
      claims-kept e (inside (Later a) q) v t ts (and_parts (items_scoped sizes 0 a) (term_scoped sizes e v t) c).1 b
      (less q.path v (node_count e) (node_count e + 1) (omega arith) h)
  claims-kept (pad_r a e) q v t ts c b h =
      claims-kept e q v t ts (and_parts (items_scoped sizes 0 a) (term_scoped sizes e v t) c).1 b
      (less q.path v (node_count e) (node_count e + 1) (omega arith) h)

  outputs-kept : (os : List OutputDecl) (t : ℕ) (ts : List Extents) → outputs_scoped sizes t os ≡ true → Every (All0 sizes) ts
      → All (λ o. node_count o.term ≤ 20000) os → AllKept (outputs_claims os ts)
  outputs-kept [] t ts c b h = tt
  outputs-kept (o ∷ os) t ts c b h =
      let p = and_parts (term_scoped sizes o.term 0 t) (outputs_scoped sizes t os) c in
      let few : node_count o.term ≤ 20000 = h zero o (omega arith) in
      joined (claims_of o.term output_spot ts) (outputs_claims os ts)
      (claims-kept o.term output_spot 0 t ts p.0 b (record { scoped = refl; vars = refl; few = omega (arith, few) }))
      (outputs-kept os t ts p.1 b (λ k d l. h (suc k) d (omega (arith, l))))

-- lines may be tried on the goals of claims on such paths
goals-met : (m : Module) (cs : List Claim) → all_scoped (length m.sizes) 0 m.assumes ≡ true → length m.sizes ≤ 2147483647 → AllKept (length m.sizes) cs
    → AllCanBeMet (goals_with (module_facts m) cs)
goals-met m [] a s h = tt
goals-met m (c ∷ cs) a s h =
    let f = module_facts m in
    let here : Facts = record { sizes = f.sizes; assumes = f.assumes; path = c.path } in
    let same : length m.sizes ≡ length f.sizes = sym (length-map m.sizes (λ d. let b : SizeBounds = record { low = d.low; high = d.high } in b)) in
    let scoped = subst (λ (n : ℕ). (all_scoped n 0 m.assumes && path_scoped n 0 c.path) ≡ true) same
    (and_from (all_scoped (length m.sizes) 0 m.assumes) (path_scoped (length m.sizes) 0 c.path) a h.0.0) in (
      record { sizes = subst (λ (n : ℕ). n ≤ 2147483647) same s; path = h.0.1; fits = scoped-fits here scoped h.0.1 },
      goals-met m cs a s h.1,
    )

-- so on those of a sound module within its limits
pub module-met : (m : Module) → IsSound m → length m.sizes ≤ 2147483647 → All (λ o. node_count o.term ≤ 20000) m.outputs → AllCanBeMet (module_goals m)
module-met m sound s few =
    let n = length m.sizes in
    let p = and_parts (all_scoped n 0 m.assumes) (inputs_scoped n m.inputs && outputs_scoped n (length m.inputs) m.outputs) sound.scoped in
    let q = and_parts (inputs_scoped n m.inputs) (outputs_scoped n (length m.inputs) m.outputs) p.1 in
    goals-met m (outputs_claims m.outputs (input_shapes m)) p.0 s
    (outputs-kept n m.outputs (length m.inputs) (input_shapes m) q.1 (shapes-at n m.inputs q.0) few)
