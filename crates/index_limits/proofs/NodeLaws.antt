-- What the walk asks of a node it has of its parts.
use Rattle.std.proofs.Common.{◌≡◌, ℕ, suc, ◌+◌, List, [], ◌∷◌, length, refl, sym, ap, ◌∙◌, subst, arith, true, false, ◌&&◌, nat_lt, nat_le, Ok, ◌⊎◌, inl, inr}
use Rattle.std.proofs.lemmas.Bool.{and_from, and_parts}
use Rattle.affine_index.specs.Condition.{all_scoped}
use Rattle.affine_index.specs.Limited.{items_scoped}
use Rattle.affine_index.specs.Sum.{sum_of}
use Rattle.affine_index.specs.declared.aff.Aff.{Aff}
use Rattle.affine_index.specs.declared.cond.Cond.{Cond}
use Rattle.affine_index.specs.declared.form.Items.{Items}
use Rattle.fact_list.specs.declared.facts.PathFact.TheVariants.{Holds}
use Rattle.reindexer.specs.Ready.{frame_ready}
use Rattle.region_plan.specs.Shaped.{IsShaped}
use Rattle.shape_rules.specs.Scopes.{all_free, each_free, given}
use Rattle.shape_rules.proofs.FreeForms.{scoped_free}
use Rattle.term_tree.specs.declared.term.Term.{Term}
use Rattle.term_tree.specs.declared.term.Term.TheVariants.{Gen, Sum, Flatten, Split, Transpose, TruncL, TruncR, PadL, PadR}
use Rattle.term_tree.proofs.Forms.{Gen-is, Sum-is, Flatten-is, Split-is, Transpose-is, TruncL-is, TruncR-is, PadL-is, PadR-is}
use Rattle.region_plan.proofs.WalkLaws.{IsOne, body_shaped}
use Rattle.term_tree.specs.Modules.{extents_scoped}
use Rattle.term_tree.specs.Scope.{cond_scoped, largest_tile, term_scoped}
use Rattle.term_tree.specs.Shape.{Extents, shape_of}
use Rattle.term_tree.specs.Syntax.{gen, sum, guard, let_in, add, concat, flatten, split, transpose, trunc_l, trunc_r, pad_l, pad_r}
use Rattle.final_rules.specs.Form.{adds_words, read_under}
use Rattle.final_rules.specs.Places.{alone, before_end, extents_under, frame_of, inside, joined_by, length_form, on_path, rest_of, right_of, shapes}
use Rattle.final_rules.specs.Printed.{comparisons, greatest, printed_of, scope_of}
use Rattle.final_rules.specs.Steps.{child_spot}
use Rattle.final_rules.specs.declared.printing.Scene.{Scene}
use Rattle.final_rules.specs.declared.spot.Around.{Around}
use Rattle.final_rules.specs.declared.spot.Around.TheVariants.{Swapped, Tiled, Later, Without}
use Rattle.final_rules.specs.declared.spot.Spot.{Spot}
use Rattle.final_rules.proofs.Walk.{scope-holds}
use Rattle.final_rules.proofs.WordForms.{IsRead}
use Rattle.index_limits.specs.Fills.{FillReady}
use Rattle.index_limits.specs.Kept.{inner_vars}
use Rattle.index_limits.specs.Nodes.{IsBinder, IsReshape}
use Rattle.index_limits.specs.Places.{place_at, under}
use Rattle.index_limits.specs.Ready.{AllInScope, FullReadyIf, LeafReady, Ready, around_ready, shapes_scoped}
use Rattle.index_limits.specs.declared.stores.Target.{Target}
use Rattle.index_limits.proofs.ReadLaws.{full-ready, read-in}
use Rattle.index_limits.proofs.ScopeLaws.{first-free, free-ready, greatest-bound, in-parts, opposite-free, rest-free, shape-free, shape-scoped}
use Rattle.index_limits.proofs.ScopeLaws.{shapes-at, vars-scope}
use Rattle.index_limits.proofs.TextLaws.{IsLeaf, concat-text, leaf-text, read-text, reshape-text, stores-text, words-text}
use Rattle.index_limits.proofs.WordLaws.{cond-parts, leaf-ready}

-- nodes as code has them

pub binder-of : (f g e : Term) (n : Aff) → g ≡ e → (f ≡ Gen n e) ⊎ (f ≡ Sum n e) → IsBinder f n g
binder-of f g e n k (inl p) = inl (p ∙ Gen-is n e ∙ ap (gen n) (sym k))
binder-of f g e n k (inr p) = inr (p ∙ Sum-is n e ∙ ap (sum n) (sym k))

pub binder-one : (f e : Term) (n : Aff) → (f ≡ Gen n e) ⊎ (f ≡ Sum n e) → IsOne f e
binder-one f e n (inl p) = inr (inl (n, p))
binder-one f e n (inr p) = inr (inr (inl (n, p)))

abbrev pub IsCut : Term → Term → Type 0
IsCut f e = (f ≡ Flatten e) ⊎
    (((x : ℕ) × (f ≡ Split x e)) ⊎
    ((f ≡ Transpose e) ⊎
    (((x : Aff) × (f ≡ TruncL x e)) ⊎ (((x : Aff) × (f ≡ TruncR x e)) ⊎ (((x : Aff) × (f ≡ PadL x e)) ⊎ ((x : Aff) × (f ≡ PadR x e)))))))

pub reshape-of : (f g e : Term) → g ≡ e → IsCut f e → IsReshape f g
reshape-of f g e k (inl p) = inl (p ∙ Flatten-is e ∙ ap flatten (sym k))
reshape-of f g e k (inr (inl p)) = inr (inl (p.0, p.1 ∙ Split-is p.0 e ∙ ap (split p.0) (sym k)))
reshape-of f g e k (inr (inr (inl p))) = inr (inr (inl (p ∙ Transpose-is e ∙ ap transpose (sym k))))
reshape-of f g e k (inr (inr (inr (inl p)))) = inr (inr (inr (inl (p.0, p.1 ∙ TruncL-is p.0 e ∙ ap (trunc_l p.0) (sym k)))))
reshape-of f g e k (inr (inr (inr (inr (inl p))))) = inr (inr (inr (inr (inl (p.0, p.1 ∙ TruncR-is p.0 e ∙ ap (trunc_r p.0) (sym k))))))
reshape-of f g e k (inr (inr (inr (inr (inr (inl p)))))) = inr (inr (inr (inr (inr (inl (p.0, p.1 ∙ PadL-is p.0 e ∙ ap (pad_l p.0) (sym k)))))))
reshape-of f g e k (inr (inr (inr (inr (inr (inr p)))))) = inr (inr (inr (inr (inr (inr (p.0, p.1 ∙ PadR-is p.0 e ∙ ap (pad_r p.0) (sym k)))))))

module _ (maxima vars : List ℕ) (scene : Scene) (target : Target) (free : Items) where
  abbrev sizes : ℕ
  sizes = length maxima

  abbrev ts : List Extents
  ts = given scene.shapes

  abbrev At : Spot → Term → Type 0
  At q e = Ready maxima vars scene target free q e

  abbrev Scoped : Term → Type 0
  Scoped e = term_scoped sizes e (length vars) (length ts) ≡ true

  -- a part at another spot with the same variables
  part-ready : (f e : Term) (q r : Spot) → AllInScope sizes (printed_of e (place_at scene target free r)) → Scoped e → around_ready r ≡ true
      → greatest maxima (scope_of r.path) ≡ vars → At q f → At r e
  part-ready f e q r w s a m h = record { scoped = s; shapes = h.shapes; within = w; around = a; extents = h.extents; most = m }

  under-node : (f e : Term) (q : Spot) (c : Around) → printed_of f (place_at scene target free q) ≡ printed_of e (place_at scene target free (inside c q))
      → Scoped e → frame_ready (frame_of 0 c) ≡ true → At q f → At (inside c q) e
  under-node f e q c t s a h =
      part-ready f e q (inside c q) (subst (AllInScope sizes) t h.within) s (and_from (frame_ready (frame_of 0 c)) (around_ready q) a h.around) h.most h

  each-free : (e : Term) → Scoped e → all_free ts ≡ true → each_free (extents_under e ts) ≡ true
  each-free e s g = shape-free sizes e (length vars) (length ts) ts s g

  reshaped : (f e : Term) (q : Spot) → IsReshape f e → all_free ts ≡ true → At q f → At (child_spot f ts q) e
  reshaped f e q (inl r) g h =
      let k = subst (At q) r h in
      subst (λ (d : Term). At (child_spot d ts q) e) (sym r)
      (under-node (flatten e) e q (joined_by e ts) (reshape-text maxima scene target free q (flatten e) e (inl refl)) k.scoped
      (first-free (rest_of (extents_under e ts)) (rest-free (extents_under e ts) (each-free e k.scoped g))) k)
  reshaped f e q (inr (inl p)) g h =
      let k = subst (At q) p.1 h in
      let s = and_parts (nat_lt 0 p.0 && nat_le p.0 largest_tile) (term_scoped sizes e (length vars) (length ts)) k.scoped in
      subst (λ (d : Term). At (child_spot d ts q) e) (sym p.1)
      (under-node (split p.0 e) e q (Tiled p.0) (reshape-text maxima scene target free q (split p.0 e) e (inr (inl (p.0, refl)))) s.1 s.0 k)
  reshaped f e q (inr (inr (inl r))) g h =
      let k = subst (At q) r h in
      subst (λ (d : Term). At (child_spot d ts q) e) (sym r)
      (under-node (transpose e) e q Swapped (reshape-text maxima scene target free q (transpose e) e (inr (inr (inl refl)))) k.scoped refl k)
  reshaped f e q (inr (inr (inr (inl p)))) g h =
      let k = subst (At q) p.1 h in
      let s = and_parts (items_scoped sizes 0 p.0) (term_scoped sizes e (length vars) (length ts)) k.scoped in
      subst (λ (d : Term). At (child_spot d ts q) e) (sym p.1)
      (under-node (trunc_l p.0 e) e q (Without p.0) (reshape-text maxima scene target free q (trunc_l p.0 e) e (inr (inr (inr (inl (p.0, refl)))))) s.1
      (opposite-free sizes p.0 s.0) k)
  reshaped f e q (inr (inr (inr (inr (inl p))))) g h =
      let k = subst (At q) p.1 h in
      let s = and_parts (items_scoped sizes 0 p.0) (term_scoped sizes e (length vars) (length ts)) k.scoped in
      subst (λ (d : Term). At (child_spot d ts q) e) (sym p.1)
      (under-node (trunc_r p.0 e) e q (before_end p.0 e ts) (reshape-text maxima scene target free q (trunc_r p.0 e) e (inr (inr (inr (inr (inl (
        p.0,
        refl,
      )))))))
      s.1 (first-free (extents_under (trunc_r p.0 e) ts) (each-free (trunc_r p.0 e) k.scoped g)) k)
  reshaped f e q (inr (inr (inr (inr (inr (inl p)))))) g h =
      let k = subst (At q) p.1 h in
      let s = and_parts (items_scoped sizes 0 p.0) (term_scoped sizes e (length vars) (length ts)) k.scoped in
      subst (λ (d : Term). At (child_spot d ts q) e) (sym p.1)
      (under-node (pad_l p.0 e) e q (Later p.0) (reshape-text maxima scene target free q (pad_l p.0 e) e (inr (inr (inr (inr (inr (inl (p.0, refl)))))))) s.1
      (scoped_free sizes p.0 s.0) k)
  reshaped f e q (inr (inr (inr (inr (inr (inr p)))))) g h =
      let k = subst (At q) p.1 h in
      let s = and_parts (items_scoped sizes 0 p.0) (term_scoped sizes e (length vars) (length ts)) k.scoped in
      subst (λ (d : Term). At (child_spot d ts q) e) (sym p.1) (part-ready (pad_r p.0 e) e q q k.within s.1 k.around k.most k)

  pub reshape-ready : (f e : Term) (q below : Spot) → IsReshape f e → below ≡ child_spot f ts q → all_free ts ≡ true → At q f → At below e
  reshape-ready f e q below k b g h = subst (λ (s : Spot). At s e) (sym b) (reshaped f e q k g h)

  pub binder-scoped : (f : Term) (n : Items) (e : Term) (q : Spot) → IsBinder f n e → At q f → items_scoped sizes 0 n ≡ true
  binder-scoped f n e q (inl r) h = (and_parts (items_scoped sizes 0 n) (term_scoped sizes e (length vars + 1) (length ts)) (subst Scoped r h.scoped)).0
  binder-scoped f n e q (inr r) h = (and_parts (items_scoped sizes 0 n) (term_scoped sizes e (length vars + 1) (length ts)) (subst Scoped r h.scoped)).0

  one-more : (e : Term) → term_scoped sizes e (length vars + 1) (length ts) ≡ true → term_scoped sizes e (suc (length vars)) (length ts) ≡ true
  one-more e h = let k : length vars + 1 ≡ suc (length vars) = omega arith in subst (λ n. term_scoped sizes e n (length ts) ≡ true) k h

  abbrev Inner : Items → Spot → Term → Type 0
  Inner n q e = Ready maxima (inner_vars maxima vars n) scene target free q e

  bound : (f : Term) (n : Items) (e : Term) (q : Spot) → IsBinder f n e → At q f → Inner n (child_spot f ts q) e
  bound f n e q (inl r) h =
      let k = subst (At q) r h in
      let s = and_parts (items_scoped sizes 0 n) (term_scoped sizes e (length vars + 1) (length ts)) k.scoped in
      subst (λ (d : Term). Inner n (child_spot d ts q) e) (sym r) (record {
        scoped = one-more e s.1;
        shapes = k.shapes;
        within = k.within.1;
        around = k.around;
        extents = k.extents;
        most = greatest-bound maxima vars q.path n k.most;
      })
  bound f n e q (inr r) h =
      let k = subst (At q) r h in
      let s = and_parts (items_scoped sizes 0 n) (term_scoped sizes e (length vars + 1) (length ts)) k.scoped in
      subst (λ (d : Term). Inner n (child_spot d ts q) e) (sym r) (record {
        scoped = one-more e s.1;
        shapes = k.shapes;
        within = k.within.1;
        around = k.around;
        extents = k.extents;
        most = greatest-bound maxima vars q.path n k.most;
      })

  pub binder-ready : (f : Term) (n : Items) (e : Term) (q below : Spot) (more : List ℕ) → IsBinder f n e → more ≡ inner_vars maxima vars n
      → below ≡ child_spot f ts q → At q f → Ready maxima more scene target free below e
  binder-ready f n e q below more k m b h =
      subst (λ (vs : List ℕ). Ready maxima vs scene target free below e) (sym m) (subst (λ (s : Spot). Inner n s e) (sym b) (bound f n e q k h))

  pub guard-ready : (c : Cond) (e : Term) (q below : Spot) → below ≡ on_path (Holds c) q → At q (guard c e)
      → (all_scoped sizes (length vars) c.all ≡ true) × At below e
  guard-ready c e q below b h =
      let s = and_parts (cond_scoped sizes (length vars) c) (term_scoped sizes e (length vars) (length ts)) h.scoped in
      let w = in-parts sizes (comparisons c.all (place_at scene target free q)) (printed_of e (place_at scene target free (on_path (Holds c) q))) h.within in (
        cond-parts sizes (length vars) c s.0,
        subst (λ (s : Spot). At s e) (sym b) (part-ready (guard c e) e q (on_path (Holds c) q) w.1 s.1 h.around
            (ap (greatest maxima) (scope-holds q.path c []) ∙ h.most) h),
      )

  pub concat-ready : (a b : Term) (q right : Spot) → right ≡ inside (right_of a ts) q → all_free ts ≡ true → At q (concat a b) → At q a × At right b
  concat-ready a b q right e g h =
      let s = and_parts (term_scoped sizes a (length vars) (length ts)) (term_scoped sizes b (length vars) (length ts)) h.scoped in
      let w = in-parts sizes (printed_of a (place_at scene target free q)) (printed_of b (place_at scene target free (inside (right_of a ts) q)))
      (subst (AllInScope sizes) (concat-text maxima scene target free q a b) h.within) in (
        part-ready (concat a b) a q q w.0 s.0 h.around h.most h,
        subst (λ (s : Spot). At s b) (sym e) (part-ready (concat a b) b q (inside (right_of a ts) q) w.1 s.1
            (and_from (frame_ready (frame_of 0 (right_of a ts))) (around_ready q) (first-free (extents_under a ts) (each-free a s.0 g)) h.around) h.most h),
      )

  pub stores-ready : (a b : Term) (q : Spot) → adds_words a b ts ≡ false → At q (add a b) → At q a × At q b
  stores-ready a b q e h =
      let s = and_parts (term_scoped sizes a (length vars) (length ts)) (term_scoped sizes b (length vars) (length ts)) h.scoped in
      let w = in-parts sizes (printed_of a (place_at scene target free q)) (printed_of b (place_at scene target free q))
      (subst (AllInScope sizes) (stores-text maxima scene target free q a b e) h.within) in
      (part-ready (add a b) a q q w.0 s.0 h.around h.most h, part-ready (add a b) b q q w.1 s.1 h.around h.most h)

  pub words-ready : (a b : Term) (q : Spot) → all_free ts ≡ true → adds_words a b ts ≡ true → At q (add a b) → LeafReady maxima vars scene target q (add a b)
  words-ready a b q g e h =
      leaf-ready maxima vars scene target free g (add a b) q h.most h.scoped (subst (AllInScope sizes) (words-text maxima scene target free q a b e) h.within)
      h.around h.extents

  pub one-ready : (f : Term) (q : Spot) → IsLeaf f → all_free ts ≡ true → At q f → LeafReady maxima vars scene target q f
  one-ready f q k g h =
      leaf-ready maxima vars scene target free g f q h.most h.scoped (subst (AllInScope sizes) (leaf-text maxima scene target free q f k) h.within)
      h.around h.extents

  pub read-ready : (f : Term) (q : Spot) → IsRead f → all_free ts ≡ true → At q f
      → FullReadyIf maxima vars scene target (extents_under f ts) (read_under f []) q
  read-ready f q k g h =
      full-ready maxima vars scene target (extents_under f ts) (read_under f []) q g (read-in sizes f [] (length vars) (length ts) h.scoped refl)
      (shape-scoped sizes f (length vars) (length ts) ts h.scoped h.shapes) (record {
        within = subst (AllInScope sizes) (read-text maxima scene target free q f k) h.within;
        around = h.around;
        extents = h.extents;
        most = h.most;
      })

  -- lets

  abbrev LetReady : Term → Term → Spot → Extents → Type 0
  LetReady a b q ns =
      let site : Target = record { extents = ns; offset = free } in
      let after = sum_of free (length_form ns) in
      FillReady maxima vars free ns
      × AllInScope sizes (printed_of a (place_at scene site after (alone q))) × AllInScope sizes (printed_of b (place_at (under site scene) target after q))

  let-here : (a b : Term) (q : Spot) → At q (let_in a b) → LetReady a b q (extents_under a (shapes (place_at scene target free q)))
  let-here a b q h =
      let ns = extents_under a (shapes (place_at scene target free q)) in
      let site : Target = record { extents = ns; offset = free } in
      let after = sum_of free (length_form ns) in
      let w = in-parts sizes (printed_of a (place_at scene site after (alone q))) (printed_of b (place_at (under site scene) target after q)) h.within.1.1 in (
        (
          λ x e. subst (λ k. items_scoped sizes k x ≡ true) (vars-scope maxima vars q.path h.most) (h.within.0 x e),
          λ x e. subst (λ k. items_scoped sizes k x ≡ true) (vars-scope maxima vars q.path h.most) (h.within.1.0 x e),
        ),
        w.0,
        w.1,
      )

  let-parts : (a b : Term) (q : Spot) → At q (let_in a b) → LetReady a b q (extents_under a ts)
  let-parts a b q h = subst (λ (us : List Extents). LetReady a b q (extents_under a us)) (shapes-at scene target free q) (let-here a b q h)

  let-scoped : (a b : Term) (q : Spot) → At q (let_in a b) → Scoped a × (term_scoped sizes b (length vars) (suc (length ts)) ≡ true)
  let-scoped a b q h =
      let s = and_parts (term_scoped sizes a (length vars) (length ts)) (term_scoped sizes b (length vars) (length ts + 1)) h.scoped in
      let k : length ts + 1 ≡ suc (length ts) = omega arith in (s.0, subst (λ n. term_scoped sizes b (length vars) n ≡ true) k s.1)

  pub fill-ready : (a b : Term) (q : Spot) (ns : Extents) → ns ≡ extents_under a ts → At q (let_in a b) → FillReady maxima vars free ns
  fill-ready a b q ns e h = subst (λ (us : Extents). FillReady maxima vars free us) (sym e) (let-parts a b q h).0

  -- the tensor of a let, and where scratch is free behind it
  abbrev pub HasLet : Term → Extents → Target → Items → Type 0
  HasLet a ns site after = (ns ≡ extents_under a ts) × (site ≡ record { extents = ns; offset = free }) × (after ≡ sum_of free (length_form ns))

  abbrev whole : Term → Target
  whole a = record { extents = extents_under a ts; offset = free }

  abbrev behind : Term → Items
  behind a = sum_of free (length_form (extents_under a ts))

  pub let-is : (a : Term) (ns : Extents) (site : Target) (after : Items) → HasLet a ns site after → (site ≡ whole a) × (after ≡ behind a)
  let-is a ns site after h = (
    h.1 ∙ (λ i. record { extents = h.0 i; offset = free }),
    h.2 ∙ (λ i. sum_of free (length_form (h.0 i))),
  )

  definition : (a b : Term) (q : Spot) → all_free ts ≡ true → At q (let_in a b) → Ready maxima vars scene (whole a) (behind a) (alone q) a
  definition a b q g h = record {
    scoped = (let-scoped a b q h).0;
    shapes = h.shapes;
    within = (let-parts a b q h).1;
    around = refl;
    extents = free-ready (extents_under a ts) (each-free a (let-scoped a b q h).0 g);
    most = h.most;
  }

  body : (a b : Term) (q : Spot) → At q (let_in a b) → Ready maxima vars (under (whole a) scene) target (behind a) q b
  body a b q h = record {
    scoped = (let-scoped a b q h).1;
    shapes = and_from (extents_scoped sizes (extents_under a ts)) (shapes_scoped sizes ts)
        (shape-scoped sizes a (length vars) (length ts) ts (let-scoped a b q h).0 h.shapes) h.shapes;
    within = (let-parts a b q h).2;
    around = h.around;
    extents = h.extents;
    most = h.most;
  }

  pub definition-ready : (a b : Term) (q : Spot) (ns : Extents) (site : Target) (after : Items) → HasLet a ns site after → all_free ts ≡ true
      → At q (let_in a b) → Ready maxima vars scene site after (alone q) a
  definition-ready a b q ns site after l g h =
      let e = let-is a ns site after l in
      subst (λ (t : Target). Ready maxima vars scene t after (alone q) a) (sym e.0)
      (subst (λ (x : Items). Ready maxima vars scene (whole a) x (alone q) a) (sym e.1) (definition a b q g h))

  pub body-ready : (a b : Term) (q : Spot) (ns : Extents) (site : Target) (after : Items) → HasLet a ns site after → At q (let_in a b)
      → Ready maxima vars (under site scene) target after q b
  body-ready a b q ns site after l h =
      let e = let-is a ns site after l in
      subst (λ (t : Target). Ready maxima vars (under t scene) target after q b) (sym e.0)
      (subst (λ (x : Items). Ready maxima vars (under (whole a) scene) target x q b) (sym e.1) (body a b q h))

  -- the body under the tensor of a let is in the form of terms
  pub body-shaped : (a b : Term) (ns : Extents) (site : Target) → IsShaped scene.shapes (let_in a b) → all_free ts ≡ true → shape_of a ts ≡ Ok ns
      → each_free ns ≡ true → site ≡ record { extents = ns; offset = free }
      → IsShaped (under site scene).shapes b × (all_free (given (under site scene).shapes) ≡ true)
  body-shaped a b ns site h g e f s =
      body_shaped scene.shapes scene.shapes (under site scene).shapes a b ns h g refl e f
      (λ i. record { lets = (s i).extents ∷ scene.shapes.lets; inputs = scene.shapes.inputs })
