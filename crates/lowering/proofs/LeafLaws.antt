-- Leaves and reads at a node.
use Rattle.std.proofs.Common.{◌+◌, add-one, drop, drop-cons}
use Rattle.std.proofs.Common.{◌≡◌, ℕ, zero, suc, ◌<◌, List, [], ◌∷◌, ◌++◌, length, map, get_or, refl, sym, ap, ◌∙◌, subst, Bool, true, false}
use Rattle.std.proofs.Common.{Option, Some, None, ◌⊎◌, inl, inr, if◌then◌else◌}
use Rattle.std.proofs.lemmas.Bool.{and_parts, ltb-true}
use Rattle.affine_index.specs.declared.aff.Aff.{Aff}
use Rattle.affine_index.specs.declared.cond.Cmp.{Cmp}
use Rattle.affine_index.specs.declared.form.Items.{Items}
use Rattle.affine_index.specs.Limited.{items_scoped}
use Rattle.fact_list.specs.Facts.{binders}
use Rattle.index_trees.specs.Tree.{index_tree}
use Rattle.loop_lang.specs.declared.index.Test.{Test}
use Rattle.loop_lang.specs.declared.stmt.Stmt.{Stmt}
use Rattle.loop_lang.specs.declared.stmt.Stmt.TheVariants.{Seq, For}
use Rattle.loop_lang.specs.declared.word.Buf.TheVariants.{Output}
use Rattle.loop_lang.specs.declared.word.Wexp.TheVariants as word
use Rattle.reindexer.specs.Places.{row_place}
use Rattle.shape_rules.specs.Scopes.{all_free, each_free, given}
use Rattle.term_tree.specs.declared.term.Term.{Term, Lit, TVar, WordOf}
use Rattle.term_tree.specs.declared.term.Term.TheVariants.{Sub, Mul}
use Rattle.term_tree.specs.Syntax.{index, gen, sum, guard, let_in, add, sub, mul, concat, flatten, split, transpose, trunc_l, trunc_r, pad_l, pad_r}
use Rattle.term_tree.proofs.Forms.{Index-is, Sub-is, Mul-is}
use Rattle.term_tree.specs.Scope.{cond_scoped, term_scoped}
use Rattle.term_tree.specs.Shape.{Extents}
use Rattle.final_rules.specs.declared.printing.Scene.{Scene}
use Rattle.final_rules.specs.declared.read.Read.{Read}
use Rattle.final_rules.specs.Form.{adds_words, one_deeper, read_under}
use Rattle.final_rules.specs.Owed.{test_of, tests_of}
use Rattle.final_rules.specs.Places.{Place, Site, extents_under, in_guard, nowhere, one_gen, place_form, shapes}
use Rattle.final_rules.specs.Printed.{behind, comparisons, full_read_printed, full_read_printed_if, leaf_printed, printed_of, read_place_if, word_printed}
use Rattle.final_rules.specs.Printing.{scene_sites}
use Rattle.final_rules.proofs.Walk.{binders-holds}
use Rattle.lowering_laws.specs.Contexts.{Context, depth, into_guard}
use Rattle.lowering_laws.specs.Lowered.{full_read, full_read_if, leaf, loaded_if, loops_at, word_at}
use Rattle.lowering_laws.specs.Marks.{Marks}
use Rattle.lowering.specs.declared.node.Node.{Node}
use Rattle.lowering.specs.declared.node.Room.{Room}
use Rattle.lowering.specs.declared.node.Target.{Target}
use Rattle.lowering.specs.Leaves.{full_read_if_in, full_read_in, leaf_in, stored_in}
use Rattle.lowering.specs.Made.{AllMade, FullReadMade, FullReadMadeIf, IsMade, ReadMadeIf, Ready, StoreMade, WordMade}
use Rattle.lowering.specs.Nodes.{context_of, loops_in, place_of, scene_buffers}
use Rattle.lowering.specs.Words.{loaded_if_in, word_in}
use Rattle.lowering.proofs.FormLaws.{free-ready}
use Rattle.lowering.proofs.ReadyLaws.{made-parts, shapes-of}
use Rattle.lowering.proofs.WordForms.{IsRead}

-- what is left of a list at one of its items
pub rest_at : {A : Type 0} (ts : List A) (i : ℕ) (t : A) → t ≡ get_or ts i t → i < length ts → drop i ts ≡ t ∷ drop (i + 1) ts
rest_at ts i t e l = drop-cons ts i t l ∙ (λ j. sym e j ∷ drop (sym (add-one i) j) ts)

-- a tensor variable that a read names is in scope
abbrev ThereIf : ℕ → Option Read → Type 0
ThereIf t None = Unit {0}
ThereIf t (Some d) = d.var < t

there : (e : Term) (xs : List Items) (sizes v t : ℕ) → term_scoped sizes e v t ≡ true → ThereIf t (read_under e xs)
there (TVar q) xs sizes v t h = ltb-true q t h
there (index e x) xs sizes v t h = there e (x ∷ xs) sizes v t (and_parts (term_scoped sizes e v t) (items_scoped sizes v x) h).0
there (Lit w) xs sizes v t h = tt
there (WordOf x) xs sizes v t h = tt
there (gen n e) xs sizes v t h = tt
there (sum n e) xs sizes v t h = tt
there (guard c e) xs sizes v t h = tt
there (let_in a b) xs sizes v t h = tt
there (add a b) xs sizes v t h = tt
there (sub a b) xs sizes v t h = tt
there (mul a b) xs sizes v t h = tt
there (concat a b) xs sizes v t h = tt
there (flatten e) xs sizes v t h = tt
there (split k e) xs sizes v t h = tt
there (transpose e) xs sizes v t h = tt
there (trunc_l a e) xs sizes v t h = tt
there (trunc_r a e) xs sizes v t h = tt
there (pad_l a e) xs sizes v t h = tt
there (pad_r a e) xs sizes v t h = tt

variable-free : (ts : List Extents) (q : ℕ) → all_free ts ≡ true → each_free (get_or ts q []) ≡ true
variable-free [] q h = refl
variable-free (ns ∷ ts) zero h = (and_parts (each_free ns) (all_free ts) h).0
variable-free (ns ∷ ts) (suc q) h = variable-free ts q (and_parts (each_free ns) (all_free ts) h).1

module _ (sc : Scene) (free : all_free (given sc.shapes) ≡ true) where
  read-ready : (o : Option Read) → ThereIf (length (given sc.shapes)) o → (p : Place) → p.sites ≡ scene_sites sc → AllMade (read_place_if o p) → ReadMadeIf sc o
  read-ready None l p e h = tt
  read-ready (Some d) l p e h = (
    l,
    free-ready (get_or (given sc.shapes) d.var []) (variable-free (given sc.shapes) d.var free),
    subst (λ (xs : List Site). IsMade (behind (get_or xs d.var nowhere).offset (row_place (get_or xs d.var nowhere).extents d.indices))) e h.0,
  )

  word-ready : (e : Term) (sizes v : ℕ) → term_scoped sizes e v (length (given sc.shapes)) ≡ true → (p : Place) → p.sites ≡ scene_sites sc
      → AllMade (word_printed e p) → WordMade sc e
  word-ready (Lit w) sizes v c p s h = tt
  word-ready (WordOf x) sizes v c p s h = tt
  word-ready (TVar q) sizes v c p s h = read-ready (read_under (TVar q) []) (there (TVar q) [] sizes v (length (given sc.shapes)) c) p s h
  word-ready (index e x) sizes v c p s h = read-ready (read_under (index e x) []) (there (index e x) [] sizes v (length (given sc.shapes)) c) p s h
  word-ready (guard d e) sizes v c p s h =
      let q = and_parts (cond_scoped sizes v d) (term_scoped sizes e v (length (given sc.shapes))) c in
      word-ready e sizes v q.1 (in_guard d p) s (made-parts (comparisons d.all p) (word_printed e (in_guard d p)) h).1
  word-ready (add a b) sizes v c p s h =
      let q = and_parts (term_scoped sizes a v (length (given sc.shapes))) (term_scoped sizes b v (length (given sc.shapes))) c in
      let k = made-parts (word_printed a p) (word_printed b p) h in (word-ready a sizes v q.0 p s k.0, word-ready b sizes v q.1 p s k.1)
  word-ready (sub a b) sizes v c p s h =
      let q = and_parts (term_scoped sizes a v (length (given sc.shapes))) (term_scoped sizes b v (length (given sc.shapes))) c in
      let k = made-parts (word_printed a p) (word_printed b p) h in (word-ready a sizes v q.0 p s k.0, word-ready b sizes v q.1 p s k.1)
  word-ready (mul a b) sizes v c p s h =
      let q = and_parts (term_scoped sizes a v (length (given sc.shapes))) (term_scoped sizes b v (length (given sc.shapes))) c in
      let k = made-parts (word_printed a p) (word_printed b p) h in (word-ready a sizes v q.0 p s k.0, word-ready b sizes v q.1 p s k.1)
  word-ready (gen n e) sizes v c p s h = tt
  word-ready (sum n e) sizes v c p s h = tt
  word-ready (let_in a b) sizes v c p s h = tt
  word-ready (concat a b) sizes v c p s h = tt
  word-ready (flatten e) sizes v c p s h = tt
  word-ready (split k e) sizes v c p s h = tt
  word-ready (transpose e) sizes v c p s h = tt
  word-ready (trunc_l a e) sizes v c p s h = tt
  word-ready (trunc_r a e) sizes v c p s h = tt
  word-ready (pad_l a e) sizes v c p s h = tt
  word-ready (pad_r a e) sizes v c p s h = tt

  full-ready : (tg : Target) (r : Room) (nd : Node) (ns : Extents) (d : Read) → d.var < length (given sc.shapes)
      → AllMade (full_read_printed ns d (place_of sc tg r nd)) → FullReadMade sc tg nd.spot ns d
  full-ready tg r nd [] d l h = (
    h.0,
    (l, free-ready (get_or (given sc.shapes) d.var []) (variable-free (given sc.shapes) d.var free), h.1.0),
  )
  full-ready tg r nd (n ∷ ns) d l h = full-ready tg r (record { adds = nd.adds; spot = one_gen n nd.spot; marks = nd.marks }) ns (one_deeper d) l h.1

  full-ready-if : (tg : Target) (r : Room) (nd : Node) (ns : Extents) (o : Option Read) → ThereIf (length (given sc.shapes)) o
      → AllMade (full_read_printed_if ns o (place_of sc tg r nd)) → FullReadMadeIf sc tg nd.spot ns o
  full-ready-if tg r nd ns None l h = tt
  full-ready-if tg r nd ns (Some d) l h = full-ready tg r nd ns d l h

-- leaves

-- a term that is stored as one word, by its outermost node
abbrev pub IsLeaf : Term → Type 0
IsLeaf f = ((w : ℕ) × (f ≡ Lit w)) ⊎ (((x : Aff) × (f ≡ WordOf x)) ⊎ (((a : Term) × (b : Term) × (f ≡ Sub a b)) ⊎ ((a : Term) × (b : Term) × (f ≡ Mul a b))))

at-leaf : (P : Term → Type 0) → ((w : ℕ) → P (Lit w)) → ((x : Aff) → P (WordOf x)) → ((a b : Term) → P (sub a b)) → ((a b : Term) → P (mul a b))
    → (f : Term) → IsLeaf f → P f
at-leaf P h k l m f (inl q) = subst P (sym q.1) (h q.0)
at-leaf P h k l m f (inr (inl q)) = subst P (sym q.1) (k q.0)
at-leaf P h k l m f (inr (inr (inl q))) = subst P (sym (q.2 ∙ Sub-is q.0 q.1)) (l q.0 q.1)
at-leaf P h k l m f (inr (inr (inr q))) = subst P (sym (q.2 ∙ Mul-is q.0 q.1)) (m q.0 q.1)

leaf-printed : (p : Place) (f : Term) → IsLeaf f → printed_of f p ≡ leaf_printed f p
leaf-printed p = at-leaf (λ f. printed_of f p ≡ leaf_printed f p) (λ w. refl) (λ x. refl) (λ a b. refl) (λ a b. refl)

leaf-loops : (c : Context) (ms : Marks) (f : Term) → IsLeaf f → loops_at f c ms ≡ leaf f c
leaf-loops c ms = at-leaf (λ f. loops_at f c ms ≡ leaf f c) (λ w. refl) (λ x. refl) (λ a b. refl) (λ a b. refl)

at-read : (P : Term → Type 0) → ((q : ℕ) → P (TVar q)) → ((e : Term) (x : Aff) → P (index e x)) → (f : Term) → IsRead f → P f
at-read P h k f (inl q) = subst P (sym q.1) (h q.0)
at-read P h k f (inr q) = subst P (sym (q.2 ∙ Index-is q.0 q.1)) (k q.0 q.1)

-- tests

pub tests-map : (loops : ℕ) (cs : List Cmp) → tests_of loops cs ≡ map (test_of loops) cs
tests-map loops [] = refl
tests-map loops (c ∷ cs) = ap (λ (ts : List Test). test_of loops c ∷ ts) (tests-map loops cs)

-- words

module _ (sc : Scene) where
  read-word : (o : Option Read) (c : Context) (loops : ℕ) → c.place.sites ≡ scene_sites sc → c.buffers ≡ scene_buffers sc → depth c ≡ loops
      → loaded_if o c ≡ loaded_if_in sc loops o
  read-word None c loops s b d = refl
  read-word (Some x) c loops s b d =
      λ i. word.Load (get_or (b i) x.var (Output 0)) (index_tree (d i) (place_form (get_or (s i) x.var nowhere) x.indices))

  pub word-is : (e : Term) (c : Context) (loops : ℕ) → c.place.sites ≡ scene_sites sc → c.buffers ≡ scene_buffers sc → depth c ≡ loops
      → word_at e c ≡ word_in sc loops e
  word-is (Lit w) c loops s b d = refl
  word-is (WordOf x) c loops s b d = λ i. word.OfIndex (index_tree (d i) x)
  word-is (TVar q) c loops s b d = read-word (read_under (TVar q) []) c loops s b d
  word-is (index e x) c loops s b d = read-word (read_under (index e x) []) c loops s b d
  word-is (guard g e) c loops s b d =
      let rest = word-is e (into_guard g c) loops s b (binders-holds c.place.spot.path g ∙ d) in
      let ts : tests_of (depth c) g.all ≡ map (test_of loops) g.all = ap (λ k. tests_of k g.all) d ∙ tests-map loops g.all in
      λ i. word.Choose (ts i) (rest i) (word.Lit 0)
  word-is (add x y) c loops s b d = λ i. word.Add (word-is x c loops s b d i) (word-is y c loops s b d i)
  word-is (sub x y) c loops s b d = λ i. word.Sub (word-is x c loops s b d i) (word-is y c loops s b d i)
  word-is (mul x y) c loops s b d = λ i. word.Mul (word-is x c loops s b d i) (word-is y c loops s b d i)
  word-is (gen n e) c loops s b d = refl
  word-is (sum n e) c loops s b d = refl
  word-is (let_in x y) c loops s b d = refl
  word-is (concat x y) c loops s b d = refl
  word-is (flatten e) c loops s b d = refl
  word-is (split k e) c loops s b d = refl
  word-is (transpose e) c loops s b d = refl
  word-is (trunc_l a e) c loops s b d = refl
  word-is (trunc_r a e) c loops s b d = refl
  word-is (pad_l a e) c loops s b d = refl
  word-is (pad_r a e) c loops s b d = refl

  full-is : (tg : Target) (r : Room) (nd : Node) (ns : Extents) (d : Read) → full_read ns d (context_of sc tg r nd) ≡ full_read_in sc tg nd.adds nd.spot ns d
  full-is tg r nd [] d = refl
  full-is tg r nd (n ∷ ns) d = ap (λ (body : List Stmt). For (index_tree (binders nd.spot.path) n) false (Seq body) ∷ [])
      (full-is tg r (record { adds = nd.adds; spot = one_gen n nd.spot; marks = nd.marks }) ns (one_deeper d))

  full-is-if : (tg : Target) (r : Room) (nd : Node) (ns : Extents) (o : Option Read)
      → full_read_if ns o (context_of sc tg r nd) ≡ full_read_if_in sc tg nd.adds nd.spot ns o
  full-is-if tg r nd ns None = refl
  full-is-if tg r nd ns (Some d) = full-is tg r nd ns d

module _ (sc : Scene) (tg : Target) (r : Room) (nd : Node) where
  -- a leaf that is stored as one word
  whole-leaf : (f : Term) → leaf f (context_of sc tg r nd) ≡ leaf_in sc tg nd.adds nd.spot f
  whole-leaf f = ap (stored_in tg nd.adds nd.spot) (word-is sc f (context_of sc tg r nd) (binders nd.spot.path) refl refl refl)

  whole-made : (f : Term) → AllMade (leaf_printed f (place_of sc tg r nd)) → Ready sc tg r nd f → StoreMade tg nd.spot × WordMade sc f
  whole-made f m h = (m.0, word-ready sc h.free f h.shaped.0.0 h.shaped.0.1 h.shaped.0.2 (place_of sc tg r nd) refl m.1)

  pub leaf-is : (f : Term) → IsLeaf f → leaf_in sc tg nd.adds nd.spot f ≡ loops_in sc tg r nd f
  leaf-is f is = sym (whole-leaf f) ∙ sym (leaf-loops (context_of sc tg r nd) nd.marks f is)

  pub leaf-made : (f : Term) → IsLeaf f → Ready sc tg r nd f → StoreMade tg nd.spot × WordMade sc f
  leaf-made f is h = whole-made f (subst AllMade (leaf-printed (place_of sc tg r nd) f is) h.made) h

  -- a sum that is stored as one word
  adds-loops : (a b : Term) → adds_words a b (given sc.shapes) ≡ true → loops_in sc tg r nd (add a b) ≡ leaf (add a b) (context_of sc tg r nd)
  adds-loops a b w = rw (ap (adds_words a b) (shapes-of sc) ∙ w) refl

  pub sum-is : (a b : Term) → adds_words a b (given sc.shapes) ≡ true → leaf_in sc tg nd.adds nd.spot (add a b) ≡ loops_in sc tg r nd (add a b)
  sum-is a b w = sym (whole-leaf (add a b)) ∙ sym (adds-loops a b w)

  adds-made : (a b : Term) (w : Bool) → w ≡ true
      → AllMade (if w then leaf_printed (add a b) (place_of sc tg r nd) else (printed_of a (place_of sc tg r nd) ++ printed_of b (place_of sc tg r nd)))
      → AllMade (leaf_printed (add a b) (place_of sc tg r nd))
  adds-made a b true e h = h
  adds-made a b false e h = absurd (cc)

  pub sum-made : (a b : Term) → adds_words a b (given sc.shapes) ≡ true → Ready sc tg r nd (add a b) → StoreMade tg nd.spot × WordMade sc (add a b)
  sum-made a b w h = whole-made (add a b) (adds-made a b (adds_words a b (shapes (place_of sc tg r nd))) (ap (adds_words a b) (shapes-of sc) ∙ w) h.made) h

  -- a read that is stored whole
  pub read-is : (f : Term) → IsRead f → full_read_if_in sc tg nd.adds nd.spot (extents_under f (given sc.shapes)) (read_under f []) ≡ loops_in sc tg r nd f
  read-is = at-read (λ f. full_read_if_in sc tg nd.adds nd.spot (extents_under f (given sc.shapes)) (read_under f []) ≡ loops_in sc tg r nd f)
      (λ q. back (TVar q)) (λ e x. back (index e x))
    where
      back : (f : Term) → full_read_if_in sc tg nd.adds nd.spot (extents_under f (given sc.shapes)) (read_under f [])
          ≡ full_read_if (extents_under f (shapes (place_of sc tg r nd))) (read_under f []) (context_of sc tg r nd)
      back f = sym (full-is-if sc tg r nd (extents_under f (given sc.shapes)) (read_under f []))
          ∙ ap (λ (ts : List Extents). full_read_if (extents_under f ts) (read_under f []) (context_of sc tg r nd)) (sym (shapes-of sc))

  pub read-made : (f : Term) → IsRead f → Ready sc tg r nd f → FullReadMadeIf sc tg nd.spot (extents_under f (given sc.shapes)) (read_under f [])
  read-made f is h =
      full-ready-if sc h.free tg r nd (extents_under f (given sc.shapes)) (read_under f [])
      (there f [] h.shaped.0.0 h.shaped.0.1 (length (given sc.shapes)) h.shaped.0.2)
      (subst (λ (ts : List Extents). AllMade (full_read_printed_if (extents_under f ts) (read_under f []) (place_of sc tg r nd))) (shapes-of sc)
      (subst AllMade (printed f is) h.made))
    where
      printed : (f : Term) → IsRead f
          → printed_of f (place_of sc tg r nd) ≡ full_read_printed_if (extents_under f (shapes (place_of sc tg r nd))) (read_under f []) (place_of sc tg r nd)
      printed = at-read (λ f. printed_of f (place_of sc tg r nd) ≡ full_read_printed_if (extents_under f (shapes (place_of sc tg r nd))) (read_under f [])
          (place_of sc tg r nd)) (λ q. refl) (λ e x. refl)
