-- The printed indices of nodes, where the tensors of a scene are in scope.
use Rattle.std.proofs.Common.{◌≡◌, ℕ, List, [], ◌∷◌, ◌++◌, length, refl, sym, ap, ◌∙◌, subst, Bool, true, false, Ok, Err, Option, Some, None}
use Rattle.std.proofs.Common.{if◌then◌else◌, ◌⊎◌, inl, inr}
use Rattle.std.specs.Prelude.{Result}
use Rattle.affine_index.specs.Condition.{cmp_form}
use Rattle.affine_index.specs.Limited.{items_scoped}
use Rattle.affine_index.specs.Sum.{sum_of}
use Rattle.affine_index.specs.declared.aff.Aff.{Aff}
use Rattle.affine_index.specs.declared.cond.Cmp.{Cmp}
use Rattle.affine_index.specs.declared.cond.Cond.{Cond}
use Rattle.affine_index.specs.declared.form.Items.{Items}
use Rattle.fact_list.specs.declared.facts.PathFact.TheVariants.{Holds}
use Rattle.reindexer.specs.Limited.{limited}
use Rattle.reindexer.proofs.IndexLaws.{limited_is}
use Rattle.region_plan.specs.Length.{zero_form}
use Rattle.region_plan.specs.Needed.{words_form}
use Rattle.shape_rules.specs.Scopes.{given}
use Rattle.term_tree.specs.declared.term.Term.{Term, Lit, TVar, WordOf}
use Rattle.term_tree.specs.declared.term.Term.TheVariants.{Sub, Mul}
use Rattle.term_tree.specs.Shape.{Extents}
use Rattle.term_tree.specs.Syntax.{index, gen, sum, guard, let_in, add, concat}
use Rattle.term_tree.proofs.Forms.{Index-is, Mul-is, Sub-is}
use Rattle.final_rules.specs.Form.{adds_words, read_under}
use Rattle.final_rules.specs.Places.{Place, alone, before_end, extents_under, inside, joined_by, length_form, on_path, right_of, shapes}
use Rattle.final_rules.specs.Printed.{Printed, comparisons, form_small, full_read_printed_if, greatest, leaf_printed, printed_of, scope_of}
use Rattle.final_rules.specs.Printing.{Counts, Sized, and_then, compared, next, sized}
use Rattle.final_rules.specs.Steps.{child_spot}
use Rattle.final_rules.specs.declared.printing.Scene.{Scene}
use Rattle.final_rules.specs.declared.printing.Stop.{Stop}
use Rattle.final_rules.specs.declared.read.Read.{Read}
use Rattle.final_rules.specs.declared.spot.Spot.{Spot}
use Rattle.final_rules.proofs.PrintingLaws.{sized-append}
use Rattle.final_rules.proofs.WordForms.{IsRead}
use Rattle.index_limits.specs.Fills.{fill_sized}
use Rattle.index_limits.specs.Nodes.{IsBinder, IsReshape}
use Rattle.index_limits.specs.Places.{place_at, under}
use Rattle.index_limits.specs.declared.stores.Target.{Target}
use Rattle.index_limits.proofs.CountLaws.{and-more, and-same, stop-counts, then-counts}
use Rattle.index_limits.proofs.MagnitudeLaws.{small-free}
use Rattle.index_limits.proofs.ReadLaws.{full-free}
use Rattle.index_limits.proofs.ScopeLaws.{shapes-at}

-- a leaf, by its node
abbrev pub IsLeaf : Term → Type 0
IsLeaf f = ((w : ℕ) × (f ≡ Lit w)) ⊎ (((x : Aff) × (f ≡ WordOf x)) ⊎ (((a : Term) × (b : Term) × (f ≡ Sub a b)) ⊎ ((a : Term) × (b : Term) × (f ≡ Mul a b))))

module _ (maxima : List ℕ) (scene : Scene) (target : Target) (free : Items) (q : Spot) where
  abbrev at : Spot → Place
  at s = place_at scene target free s

  abbrev tensors : List Extents
  tensors = given scene.shapes

  same : shapes (at q) ≡ tensors
  same = shapes-at scene target free q

  pub leaf-text : (f : Term) → IsLeaf f → printed_of f (at q) ≡ leaf_printed f (at q)
  leaf-text f (inl p) = subst (λ (g : Term). printed_of g (at q) ≡ leaf_printed g (at q)) (sym p.1) refl
  leaf-text f (inr (inl p)) = subst (λ (g : Term). printed_of g (at q) ≡ leaf_printed g (at q)) (sym p.1) refl
  leaf-text f (inr (inr (inl p))) = subst (λ (g : Term). printed_of g (at q) ≡ leaf_printed g (at q)) (sym (p.2 ∙ Sub-is p.0 p.1)) refl
  leaf-text f (inr (inr (inr p))) = subst (λ (g : Term). printed_of g (at q) ≡ leaf_printed g (at q)) (sym (p.2 ∙ Mul-is p.0 p.1)) refl

  abbrev ReadText : Term → Type 0
  ReadText g = printed_of g (at q) ≡ full_read_printed_if (extents_under g tensors) (read_under g []) (place_at scene target zero_form q)

  full_if-free : (ns : Extents) (o : Option Read) → full_read_printed_if ns o (at q) ≡ full_read_printed_if ns o (place_at scene target zero_form q)
  full_if-free ns None = refl
  full_if-free ns (Some d) = full-free scene target free zero_form ns d q

  pub read-text : (f : Term) → IsRead f → ReadText f
  read-text f (inl p) =
      subst ReadText (sym p.1) ((λ i. full_read_printed_if (extents_under (TVar p.0) (same i)) (read_under (TVar p.0) []) (at q))
      ∙ full_if-free (extents_under (TVar p.0) tensors) (read_under (TVar p.0) []))
  read-text f (inr p) =
      subst ReadText (sym (p.2 ∙ Index-is p.0 p.1)) (
      (λ i. full_read_printed_if (extents_under (index p.0 p.1) (same i)) (read_under (index p.0 p.1) []) (at q))
      ∙ full_if-free (extents_under (index p.0 p.1) tensors) (read_under (index p.0 p.1) []))

  pub reshape-text : (f e : Term) → IsReshape f e → printed_of f (at q) ≡ printed_of e (at (child_spot f tensors q))
  reshape-text f e (inl r) = subst (λ (g : Term). printed_of g (at q) ≡ printed_of e (at (child_spot g tensors q))) (sym r)
      (λ i. printed_of e (at (inside (joined_by e (same i)) q)))
  reshape-text f e (inr (inl p)) = subst (λ (g : Term). printed_of g (at q) ≡ printed_of e (at (child_spot g tensors q))) (sym p.1) refl
  reshape-text f e (inr (inr (inl r))) = subst (λ (g : Term). printed_of g (at q) ≡ printed_of e (at (child_spot g tensors q))) (sym r) refl
  reshape-text f e (inr (inr (inr (inl p)))) = subst (λ (g : Term). printed_of g (at q) ≡ printed_of e (at (child_spot g tensors q))) (sym p.1) refl
  reshape-text f e (inr (inr (inr (inr (inl p))))) = subst (λ (g : Term). printed_of g (at q) ≡ printed_of e (at (child_spot g tensors q))) (sym p.1)
      (λ i. printed_of e (at (inside (before_end p.0 e (same i)) q)))
  reshape-text f e (inr (inr (inr (inr (inr (inl p)))))) = subst (λ (g : Term). printed_of g (at q) ≡ printed_of e (at (child_spot g tensors q))) (sym p.1) refl
  reshape-text f e (inr (inr (inr (inr (inr (inr p)))))) = subst (λ (g : Term). printed_of g (at q) ≡ printed_of e (at (child_spot g tensors q))) (sym p.1) refl

  pub concat-text : (a b : Term) → printed_of (concat a b) (at q) ≡ printed_of a (at q) ++ printed_of b (at (inside (right_of a tensors) q))
  concat-text a b = λ i. printed_of a (at q) ++ printed_of b (at (inside (right_of a (same i)) q))

  -- the parts of a concat one after the other
  pub concat-counted : (a b : Term) (k : ℕ) (right : Spot) (r : Result ℕ Stop) → right ≡ inside (right_of a tensors) q
      → Counts (and_then (sized maxima (printed_of a (at q)) k) (sized maxima (printed_of b (at right)))) r
      → Counts (sized maxima (printed_of (concat a b) (at q)) k) r
  concat-counted a b k right r e h =
      subst (λ (ps : List Printed). Counts (sized maxima ps k) r) (sym (concat-text a b))
      (subst (λ (s : Sized). Counts s r) (sym (sized-append maxima (printed_of a (at q)) (printed_of b (at (inside (right_of a tensors) q))) k))
      (subst (λ (s : Spot). Counts (and_then (sized maxima (printed_of a (at q)) k) (sized maxima (printed_of b (at s)))) r) e h))

  abbrev sum_text : Term → Term → Bool → List Printed
  sum_text a b w = if w then leaf_printed (add a b) (at q) else (printed_of a (at q) ++ printed_of b (at q))

  pub words-text : (a b : Term) → adds_words a b tensors ≡ true → printed_of (add a b) (at q) ≡ leaf_printed (add a b) (at q)
  words-text a b h = ap (sum_text a b) (ap (adds_words a b) same ∙ h)

  pub stores-text : (a b : Term) → adds_words a b tensors ≡ false → printed_of (add a b) (at q) ≡ printed_of a (at q) ++ printed_of b (at q)
  stores-text a b h = ap (sum_text a b) (ap (adds_words a b) same ∙ h)

  -- two stores that are added, one after the other
  pub stores-counted : (a b : Term) (k : ℕ) (r : Result ℕ Stop) → adds_words a b tensors ≡ false
      → Counts (and_then (sized maxima (printed_of a (at q)) k) (sized maxima (printed_of b (at q)))) r
      → Counts (sized maxima (printed_of (add a b) (at q)) k) r
  stores-counted a b k r e h =
      subst (λ (ps : List Printed). Counts (sized maxima ps k) r) (sym (stores-text a b e))
      (subst (λ (s : Sized). Counts s r) (sym (sized-append maxima (printed_of a (at q)) (printed_of b (at q)) k)) h)

  pub bound-small : (n : Items) → items_scoped (length maxima) 0 n ≡ true
      → form_small maxima [] (limited n) ≡ form_small maxima (greatest maxima (scope_of q.path)) (limited n)
  bound-small n h = sym (small-free (length maxima) maxima (greatest maxima (scope_of q.path)) (limited n)
      (λ x e. subst (λ y. items_scoped (length maxima) 0 y ≡ true) (limited_is n x e) h))

  abbrev BinderText : Items → Term → ℕ → Term → Type 0
  BinderText n e k g = and_then (next (form_small maxima [] (limited n)) k) (sized maxima (printed_of e (at (child_spot g tensors q))))
      ≡ sized maxima (printed_of g (at q)) k

  pub binder-text : (f : Term) (n : Items) (e : Term) (k : ℕ) → IsBinder f n e → items_scoped (length maxima) 0 n ≡ true → BinderText n e k f
  binder-text f n e k (inl r) h = subst (BinderText n e k) (sym r)
      (λ i. and_then (next (bound-small n h i) k) (sized maxima (printed_of e (at (child_spot (gen n e) tensors q)))))
  binder-text f n e k (inr r) h = subst (BinderText n e k) (sym r)
      (λ i. and_then (next (bound-small n h i) k) (sized maxima (printed_of e (at (child_spot (sum n e) tensors q)))))

  -- a binder: its bound is not small, or is, and then its part
  pub binder-stop : (f : Term) (n : Items) (e : Term) (k : ℕ) (r : Result ℕ Stop) (error : Stop) → IsBinder f n e → items_scoped (length maxima) 0 n ≡ true
      → r ≡ Err error → Counts (next (form_small maxima [] (limited n)) k) (Err error) → Counts (sized maxima (printed_of f (at q)) k) r
  binder-stop f n e k r error b h is c =
      subst (λ (s : Sized). Counts s r) (binder-text f n e k b h)
      (stop-counts (next (form_small maxima [] (limited n)) k) (sized maxima (printed_of e (at (child_spot f tensors q)))) r error is c)

  pub binder-then : (f : Term) (n : Items) (e : Term) (k j : ℕ) (below : Spot) (r : Result ℕ Stop) → IsBinder f n e → items_scoped (length maxima) 0 n ≡ true
      → below ≡ child_spot f tensors q → next (form_small maxima [] (limited n)) k ≡ Ok j → Counts (sized maxima (printed_of e (at below)) j) r
      → Counts (sized maxima (printed_of f (at q)) k) r
  binder-then f n e k j below r b h g is c =
      subst (λ (s : Sized). Counts s r) (binder-text f n e k b h)
      (then-counts (next (form_small maxima [] (limited n)) k) j (sized maxima (printed_of e (at (child_spot f tensors q)))) r is
      (subst (λ (s : Spot). Counts (sized maxima (printed_of e (at s)) j) r) g c))

  -- the part of a reshape operator
  pub reshape-counted : (f e : Term) (k : ℕ) (below : Spot) (r : Result ℕ Stop) → IsReshape f e → below ≡ child_spot f tensors q
      → Counts (sized maxima (printed_of e (at below)) k) r → Counts (sized maxima (printed_of f (at q)) k) r
  reshape-counted f e k below r p b h =
      subst (λ (ps : List Printed). Counts (sized maxima ps k) r) (sym (reshape-text f e p))
      (subst (λ (s : Spot). Counts (sized maxima (printed_of e (at s)) k) r) b h)

  module _ (vars : List ℕ) (most : greatest maxima (scope_of q.path) ≡ vars) where
    compared-text : (cs : List Cmp) (k : ℕ) → compared maxima vars cs k ≡ sized maxima (comparisons cs (at q)) k
    compared-text [] k = refl
    compared-text (c ∷ cs) k =
        ap (λ v. and_then (next (form_small maxima v (limited (cmp_form c))) k) (compared maxima vars cs)) (sym most)
        ∙ and-same (next (form_small maxima (greatest maxima (scope_of q.path)) (limited (cmp_form c))) k) (compared maxima vars cs)
        (sized maxima (comparisons cs (at q))) (λ j. compared-text cs j)

    pub guard-text : (c : Cond) (e : Term) (k : ℕ)
        → and_then (compared maxima vars c.all k) (sized maxima (printed_of e (at (on_path (Holds c) q)))) ≡ sized maxima (printed_of (guard c e) (at q)) k
    guard-text c e k =
        ap (λ s. and_then s (sized maxima (printed_of e (at (on_path (Holds c) q))))) (compared-text c.all k)
        ∙ sym (sized-append maxima (comparisons c.all (at q)) (printed_of e (at (on_path (Holds c) q))) k)

    -- a guard: its comparisons are not small, or are, and then its part
    pub guard-stop : (c : Cond) (e : Term) (k : ℕ) (cs : List Cmp) (r : Result ℕ Stop) (error : Stop) → cs ≡ c.all → r ≡ Err error
        → Counts (compared maxima vars cs k) (Err error) → Counts (sized maxima (printed_of (guard c e) (at q)) k) r
    guard-stop c e k cs r error p is h =
        subst (λ (s : Sized). Counts s r) (guard-text c e k)
        (stop-counts (compared maxima vars c.all k) (sized maxima (printed_of e (at (on_path (Holds c) q)))) r error is
        (subst (λ (ds : List Cmp). Counts (compared maxima vars ds k) (Err error)) p h))

    pub guard-then : (c : Cond) (e : Term) (k j : ℕ) (cs : List Cmp) (below : Spot) (r : Result ℕ Stop) → cs ≡ c.all → below ≡ on_path (Holds c) q
        → compared maxima vars cs k ≡ Ok j → Counts (sized maxima (printed_of e (at below)) j) r → Counts (sized maxima (printed_of (guard c e) (at q)) k) r
    guard-then c e k j cs below r p b is h =
        subst (λ (s : Sized). Counts s r) (guard-text c e k)
        (then-counts (compared maxima vars c.all k) j (sized maxima (printed_of e (at (on_path (Holds c) q)))) r
        (ap (λ ds. compared maxima vars ds k) (sym p) ∙ is) (subst (λ (s : Spot). Counts (sized maxima (printed_of e (at s)) j) r) b h))

    -- of a let: its fill, its definition, its body
    abbrev let_sized : Term → Term → Extents → ℕ → Sized
    let_sized a b ns k =
        let site : Target = record { extents = ns; offset = free } in
        let after = sum_of free (length_form ns) in
        and_then (fill_sized maxima vars free ns k) (λ j.
        and_then (sized maxima (printed_of a (place_at scene site after (alone q))) j) (sized maxima (printed_of b (place_at (under site scene) target
        after q))))

    let-here : (a b : Term) (k : ℕ) → let_sized a b (extents_under a (shapes (at q))) k ≡ sized maxima (printed_of (let_in a b) (at q)) k
    let-here a b k =
        let ns = extents_under a (shapes (at q)) in
        let site : Target = record { extents = ns; offset = free } in
        let after = sum_of free (length_form ns) in
        let first = printed_of a (place_at scene site after (alone q)) in
        let second = printed_of b (place_at (under site scene) target after q) in
        let inner : (j : ℕ) → and_then (sized maxima first j) (sized maxima second) ≡ sized maxima (first ++ second) j = λ j. sym
        (sized-append maxima first second j) in
        ap (λ v. and_then (fill_sized maxima v free ns k) (λ j. and_then (sized maxima first j) (sized maxima second))) (sym most)
        ∙ filled ns (λ j. and_then (sized maxima first j) (sized maxima second)) (sized maxima (first ++ second)) inner
      where
        filled : (ns : Extents) (f g : ℕ → Sized) → ((j : ℕ) → f j ≡ g j) → and_then (fill_sized maxima (greatest maxima (scope_of q.path)) free ns k) f
            ≡ and_then (next (form_small maxima (greatest maxima (scope_of q.path)) (limited free)) k)
            (λ j. and_then (next (form_small maxima (greatest maxima (scope_of q.path)) (words_form ns)) j) g)
        filled ns f g h =
            let v = greatest maxima (scope_of q.path) in
            and-more (next (form_small maxima v (limited free)) k) (next (form_small maxima v (words_form ns))) f
            ∙ and-same (next (form_small maxima v (limited free)) k) (λ j. and_then (next (form_small maxima v (words_form ns)) j) f)
            (λ j. and_then (next (form_small maxima v (words_form ns)) j) g) (λ j. and-same (next (form_small maxima v (words_form ns)) j) f g h)

    pub let-text : (a b : Term) (k : ℕ) → let_sized a b (extents_under a tensors) k ≡ sized maxima (printed_of (let_in a b) (at q)) k
    let-text a b k = (λ i. let_sized a b (extents_under a (sym same i)) k) ∙ let-here a b k

    -- the same of a tensor and a place behind it
    pub let-counted : (a b : Term) (k : ℕ) (ns : Extents) (site : Target) (after : Items) → ns ≡ extents_under a tensors
        → site ≡ record { extents = ns; offset = free } → after ≡ sum_of free (length_form ns)
        → and_then (fill_sized maxima vars free ns k) (λ j.
        and_then (sized maxima (printed_of a (place_at scene site after (alone q))) j)
        (sized maxima (printed_of b (place_at (under site scene) target after q))))
        ≡ sized maxima (printed_of (let_in a b) (at q)) k
    let-counted a b k ns site after e f g =
        (λ i. and_then (fill_sized maxima vars free ns k) (λ j.
        and_then (sized maxima (printed_of a (place_at scene (f i) (g i) (alone q))) j)
        (sized maxima (printed_of b (place_at (under (f i) scene) target (g i) q)))))
        ∙ ap (λ us. let_sized a b us k) e ∙ let-text a b k

    -- a fill that is not small
    pub let-none : (a b : Term) (k : ℕ) (ns : Extents) (r : Result ℕ Stop) (e : Stop) → ns ≡ extents_under a tensors → r ≡ Err e
        → Counts (fill_sized maxima vars free ns k) (Err e) → Counts (sized maxima (printed_of (let_in a b) (at q)) k) r
    let-none a b k ns r e p is h =
        let site : Target = record { extents = ns; offset = free } in
        let after = sum_of free (length_form ns) in
        subst (λ (s : Sized). Counts s r) (ap (λ us. let_sized a b us k) p ∙ let-text a b k)
        (stop-counts (fill_sized maxima vars free ns k) (λ j.
        and_then (sized maxima (printed_of a (place_at scene site after (alone q))) j) (sized maxima (printed_of b (place_at (under site scene) target
        after q))))
        r e is h)

    module _ (a b : Term) (k j : ℕ) (ns : Extents) (site : Target) (after : Items) (p : ns ≡ extents_under a tensors)
        (f : site ≡ record { extents = ns; offset = free }) (g : after ≡ sum_of free (length_form ns)) (small : fill_sized maxima vars free ns k ≡ Ok j) where
      abbrev first : List Printed
      first = printed_of a (place_at scene site after (alone q))

      abbrev second : List Printed
      second = printed_of b (place_at (under site scene) target after q)

      -- a definition with an index that is not small
      pub let-stop : (r : Result ℕ Stop) (e : Stop) → r ≡ Err e → Counts (sized maxima first j) (Err e)
          → Counts (sized maxima (printed_of (let_in a b) (at q)) k) r
      let-stop r e is h =
          subst (λ (s : Sized). Counts s r) (let-counted a b k ns site after p f g)
          (then-counts (fill_sized maxima vars free ns k) j (λ i. and_then (sized maxima first i) (sized maxima second)) r small
          (stop-counts (sized maxima first j) (sized maxima second) r e is h))

      -- the definition, and then the body
      pub let-then : (i : ℕ) (r : Result ℕ Stop) → sized maxima first j ≡ Ok i → Counts (sized maxima second i) r
          → Counts (sized maxima (printed_of (let_in a b) (at q)) k) r
      let-then i r is h =
          subst (λ (s : Sized). Counts s r) (let-counted a b k ns site after p f g)
          (then-counts (fill_sized maxima vars free ns k) j (λ i. and_then (sized maxima first i) (sized maxima second)) r small
          (then-counts (sized maxima first j) i (sized maxima second) r is h))
