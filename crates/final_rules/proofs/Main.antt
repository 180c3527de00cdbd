-- An accepted module stays within bounds.
use Rattle.std.proofs.Common.{◌≡◌, ℕ, zero, suc, ◌+◌, ◌≤◌, nat_le, List, [], ◌∷◌, ◌++◌, length, map, refl, sym, ap, ◌∙◌, subst, arith, Bool, true, false, ◌&&◌}
use Rattle.std.proofs.Common.{Some, None, if◌then◌else◌, Ok, Err}
use Rattle.std.specs.Prelude.{All, IsOk, ℤ, pos, negsuc, ◌≤ℤ◌}
use Rattle.std.proofs.lemmas.Bool.{and_parts}
use Rattle.std.proofs.lemmas.Int.{ints}
use Rattle.std.proofs.lemmas.List.{append-nil}
use Rattle.affine_index.specs.Condition.{at_least_zero, all_scoped}
use Rattle.affine_index.specs.declared.form.Items.{Items}
use Rattle.affine_index.specs.Limited.{items_scoped}
use Rattle.affine_index.specs.Value.{items_value}
use Rattle.term_tree.specs.declared.term.Module.{Module}
use Rattle.term_tree.specs.declared.term.InputDecl.{InputDecl}
use Rattle.term_tree.specs.declared.term.OutputDecl.{OutputDecl}
use Rattle.term_tree.specs.Goals.{extents_or_none, term_goals}
use Rattle.term_tree.specs.Modules.{Allowed, IsSound, extents_scoped, extent_goals, input_goals, input_shapes, inputs_scoped, outputs_goals, outputs_scoped}
use Rattle.term_tree.specs.Scope.{term_scoped}
use Rattle.term_tree.specs.Shape.{Extents, Shaped, shape_of}
use Rattle.final_rules.specs.Accepted.{AcceptedStaysWithin, FormsNormal, InputsFit, OutputsFit, ScratchFits}
use Rattle.final_rules.specs.Form.{Node, outside}
use Rattle.final_rules.specs.Goals.{claims_of}
use Rattle.final_rules.specs.declared.fault.FinalFault.TheVariants.{IndexTooLarge}
use Rattle.reindexer.specs.Limited.{Limited, limited}
use Rattle.reindexer.proofs.IndexLaws.{limited_is}
use Rattle.affine_index.specs.Form.{literal_form}
use Rattle.region_plan.specs.declared.length.Length.{Length}
use Rattle.region_plan.specs.Length.{length_value}
use Rattle.region_plan.specs.Need.{module_need}
use Rattle.region_plan.specs.Needed.{module_needed, words_form}
use Rattle.region_plan.proofs.ModuleLaws.{needed_is}
use Rattle.term_tree.specs.Modules.{extents_at}
use Rattle.term_tree.specs.Shaped.{word_count}
use Rattle.std.specs.Int.RustNames.{unsigned_abs}
use Rattle.final_rules.specs.Places.{length_form}
use Rattle.final_rules.proofs.Raw.{words-raw}
use Rattle.final_rules.specs.Owed.{Exactly, Numbered}
use Rattle.final_rules.specs.Places.{shapes}
use Rattle.final_rules.specs.Printed.{Printed, at_least_one, largest_index, length_printed, printed_of}
use Rattle.affine_index.specs.Magnitude.{magnitude}
use Rattle.final_rules.specs.Rules.{Expression, Index, Scratch, Verdict, or_else, node_fault, form_fault, input_site, output_spot, output_extents, output_place}
use Rattle.final_rules.specs.Rules.{outputs_claims, module_goals, line_fault, goal_fault, maxima, large_fault, expression_small, length_small, length_magnitude}
use Rattle.final_rules.specs.Rules.{length_normal, nowhere_yet, any_let, printed, scratch_printed, input_lengths, output_lengths, body_printed, mark_fault}
use Rattle.final_rules.proofs.Accepted.{claims-hold, maxima-within, printed-hold, if_none, length-map, small_le}
use Rattle.final_rules.proofs.AptLaws.{apt}
use Rattle.final_rules.proofs.PlaceValues.{Counts, length-value}
use Rattle.loop_lang.specs.Reckoning.{Value}
use Rattle.term_tree.specs.Meaning.{count_of}
use Rattle.final_rules.proofs.LengthExact.{length-exact, length-most}
use Rattle.final_rules.specs.Lengths.{over_sizes}
use Rattle.final_rules.proofs.NeedScoped.{module-at}
use Rattle.final_rules.proofs.PrintedScoped.{Scoping, SiteAt, All0, extents-at, shapes-at, printed-at, length-at, shape-eon, every-append, literal-at}
use Rattle.final_rules.proofs.ShapeGood.{Good, GoodShape, good-literal, shape-good, NoneBelow, Zeroth}
use Rattle.final_rules.proofs.Walk.{Every, every_parts, ClaimHolds, PrintedHolds, Here, fits, numbered}

every-of : {A : Type 0} (P : A → Type 0) (xs : List A) → All P xs → Every P xs
every-of P [] h = tt
every-of P (x ∷ xs) h = (h zero x (omega arith), every-of P xs (λ k d l. h (suc k) d (omega (arith, l))))

ok-of : (r : Shaped) → IsOk r → (ns : Extents) × (r ≡ Ok ns)
ok-of (Ok ns) h = (ns, refl)
ok-of (Err m) h = absurd (cc)

pub or_none : (a b : Verdict) → or_else a b ≡ None → (a ≡ None) × (b ≡ None)
or_none None b h = (refl, h)
or_none (Some e) b h = absurd (cc)

node_none : (j : ℕ) (o : Node) → node_fault j o ≡ None → o ≡ None
node_none j None h = refl
node_none j (Some ks) h = absurd (cc)

split-printed : (m : Module) (xs ys : List Printed) (zs : List Expression) → large_fault (maxima m) 1 (map Index (xs ++ ys) ++ zs) ≡ None
    → large_fault (maxima m) 1 (map Index xs ++ (map Index ys ++ zs)) ≡ None
split-printed m xs ys zs h = subst (λ (es : List Expression). large_fault (maxima m) 1 es ≡ None) (again xs) h
  where
    again : (xs : List Printed) → map Index (xs ++ ys) ++ zs ≡ map Index xs ++ (map Index ys ++ zs)
    again [] = refl
    again (x ∷ xs) = ap (λ (es : List Expression). Index x ∷ es) (again xs)

-- what follows in the order of the text
rest_small : (maxima : List ℕ) (k : ℕ) (xs ys : List Expression) → large_fault maxima k (xs ++ ys) ≡ None → (j : ℕ) × (large_fault maxima j ys ≡ None)
rest_small maxima k [] ys h = (k, h)
rest_small maxima k (x ∷ xs) ys h = rest_small maxima (k + 1) xs ys (if_none (expression_small maxima x) (large_fault maxima (k + 1) (xs ++ ys))
    (IndexTooLarge k) h).1

least : (z : ℤ) → at_least_zero z ≡ true → pos 0 ≤ℤ z
least (pos n) h = omega (arith, ints)
least (negsuc n) h = absurd (cc)

module _ (m : Module) (s : List ℕ) (a : Allowed m s) (sound : IsSound m) where
  abbrev sizes : ℕ
  sizes = length m.sizes

  none_below : (xs : List Items) → Every (λ n. at_least_zero (items_value s [] n) ≡ true) xs → NoneBelow sizes s xs
  none_below [] h = tt
  none_below (x ∷ xs) h = (least (items_value s [] x) h.0, none_below xs h.1)

  goals : NoneBelow sizes s (extent_goals m)
  goals = none_below (extent_goals m) (every-of (λ n. at_least_zero (items_value s [] n) ≡ true) (extent_goals m) (sound.positive s a))

  good_extents : (ns : Extents) → extents_scoped sizes ns ≡ true → NoneBelow sizes s ns → GoodShape sizes s ns
  good_extents [] c h = tt
  good_extents (n ∷ ns) c h = let p = and_parts (items_scoped sizes 0 n) (extents_scoped sizes ns) c in ((p.0, h.0), good_extents ns p.1 h.1)

  good_inputs : (ds : List InputDecl) → inputs_scoped sizes ds ≡ true → NoneBelow sizes s (input_goals ds) → Every (GoodShape sizes s) (map (λ d. d.extents) ds)
  good_inputs [] c h = tt
  good_inputs (d ∷ ds) c h =
      let p = and_parts (extents_scoped sizes d.extents) (inputs_scoped sizes ds) c in
      let q = every_parts (Zeroth sizes s) d.extents (input_goals ds) h in
      (good_extents d.extents p.0 q.0, good_inputs ds p.1 q.1)

  scoped_parts : (all_scoped sizes 0 m.assumes ≡ true) × (inputs_scoped sizes m.inputs ≡ true) × (outputs_scoped sizes (length m.inputs) m.outputs ≡ true)
  scoped_parts =
      let p = and_parts (all_scoped sizes 0 m.assumes) (inputs_scoped sizes m.inputs && outputs_scoped sizes (length m.inputs) m.outputs) sound.scoped in
      let q = and_parts (inputs_scoped sizes m.inputs) (outputs_scoped sizes (length m.inputs) m.outputs) p.1 in
      (p.0, q.0, q.1)

  goal_parts : NoneBelow sizes s (input_goals m.inputs) × NoneBelow sizes s (outputs_goals m.outputs (input_shapes m))
  goal_parts = every_parts (Zeroth sizes s) (input_goals m.inputs) (outputs_goals m.outputs (input_shapes m)) goals

  good_sites : (ds : List InputDecl) → inputs_scoped sizes ds ≡ true → NoneBelow sizes s (input_goals ds)
      → Every (λ x. GoodShape sizes s x.extents × Good sizes s x.offset) (map input_site ds)
  good_sites [] c h = tt
  good_sites (d ∷ ds) c h =
      let p = and_parts (extents_scoped sizes d.extents) (inputs_scoped sizes ds) c in
      let q = every_parts (Zeroth sizes s) d.extents (input_goals ds) h in
      ((good_extents d.extents p.0 q.0, good-literal sizes s 0), good_sites ds p.1 q.1)

  sites-at : (ds : List InputDecl) → inputs_scoped sizes ds ≡ true → Every (SiteAt sizes) (map input_site ds)
  sites-at [] c = tt
  sites-at (d ∷ ds) c = let p = and_parts (extents_scoped sizes d.extents) (inputs_scoped sizes ds) c in (
    (
      extents-at sizes d.extents p.0,
      literal-at sizes 0 (pos 0),
    ),
    sites-at ds p.1,
  )

  -- the shapes of the sites of inputs
  shapes-are : (ds : List InputDecl) → map (λ x. x.extents) (map input_site ds) ≡ map (λ d. d.extents) ds
  shapes-are [] = refl
  shapes-are (d ∷ ds) = ap (λ xs. d.extents ∷ xs) (shapes-are ds)

  output_at : (o : OutputDecl) → term_scoped sizes o.term 0 (length m.inputs) ≡ true → All0 sizes (output_extents m o)
  output_at o c = shape-eon sizes o.term 0 (length m.inputs) (input_shapes m) c (shapes-at sizes m.inputs scoped_parts.1)

  scoping : (o : OutputDecl) → term_scoped sizes o.term 0 (length m.inputs) ≡ true → Scoping sizes (output_place m o) 0
  scoping o c = record {
    depth = refl;
    sites = sites-at m.inputs scoped_parts.1;
    target = (
      output_at o c,
      literal-at sizes 0 (pos 0),
    );
    around = tt;
    free = literal-at sizes 0 (pos 0);
  }

  abbrev InScope : Printed → Type 0
  InScope i = (x : Items) → i.form ≡ Ok x → items_scoped sizes (length i.scope) x ≡ true

  plain-at : (x : Items) → items_scoped sizes 0 x ≡ true → (z : Items) → limited x ≡ Ok z → items_scoped sizes 0 z ≡ true
  plain-at x h z e = subst (λ y. items_scoped sizes 0 y ≡ true) (limited_is x z e) h

  words-at : (ns : Extents) → All0 sizes ns → (z : Items) → words_form ns ≡ Ok z → items_scoped sizes 0 z ≡ true
  words-at ns h z e = subst (λ y. items_scoped sizes 0 y ≡ true) (words-raw ns z e) (length-at sizes ns h)

  body-at : (os : List OutputDecl) → outputs_scoped sizes (length m.inputs) os ≡ true → Every InScope (body_printed m os)
  body-at [] c = tt
  body-at (o ∷ os) c =
      let p = and_parts (term_scoped sizes o.term 0 (length m.inputs)) (outputs_scoped sizes (length m.inputs) os) c in (
        plain-at (literal_form (pos 0)) (literal-at sizes 0 (pos 0)),
        (
          words-at (output_extents m o) (output_at o p.0),
          every-append sizes InScope (printed_of o.term (output_place m o)) (body_printed m os) (printed-at sizes o.term (output_place m o) 0
              (length m.inputs) p.0 (scoping o p.0)) (body-at os p.1),
        ),
      )

  inputs-at : (ds : List InputDecl) → inputs_scoped sizes ds ≡ true → Every InScope (map (λ d. length_printed d.extents nowhere_yet) ds)
  inputs-at [] c = tt
  inputs-at (d ∷ ds) c = let p = and_parts (extents_scoped sizes d.extents) (inputs_scoped sizes ds) c in (
    words-at d.extents (extents-at sizes d.extents p.0),
    inputs-at ds p.1,
  )

  here : (o : OutputDecl) → Here s (maxima m) (output_place m o) [] []
  here o = record { holds = tt; kept = tt; closed = tt; turns = λ v l. absurd (omega (arith, l)); depth = refl; within = λ k l. absurd (omega (arith, l)) }

  at-start : (i : Printed) (raw : Items) (k : ℕ) → ((x : Items) → i.form ≡ Ok x → raw ≡ x) → PrintedHolds s (maxima m) i → i.scope ≡ []
      → items_value s [] raw ≡ pos k → Numbered s raw k [] []
  at-start i raw k same h z v =
      let e : Exactly s h.0 [] [] = h.2 [] [] (λ v l. absurd (omega (arith, l)))
      (λ k l. absurd (omega (arith, l, ap length (ap (λ ns. map (λ n. at_least_one (magnitude (maxima m) [] n)) ns) z)))) (ap length z) in
      numbered s (maxima m) raw k [] [] (subst (λ x. Exactly s x [] []) (sym (same h.0 h.1)) e) v

  counts : (ns : Extents) → GoodShape sizes s ns → Counts s ns []
  counts [] h = tt
  counts (n ∷ ns) h = (positive (items_value s [] n) h.0.1, counts ns h.1)
    where
      positive : (z : ℤ) → pos 0 ≤ℤ z → z ≡ pos (count_of z)
      positive (pos n) h = refl
      positive (negsuc n) h = absurd (omega (arith, ints, h))

  inputs-fit : (ds : List InputDecl) → Every (GoodShape sizes s) (map (λ d. d.extents) ds)
      → Every (PrintedHolds s (maxima m)) (map (λ d. length_printed d.extents nowhere_yet) ds) → InputsFit s ds
  inputs-fit [] g h = tt
  inputs-fit (d ∷ ds) g h = (
    at-start (length_printed d.extents nowhere_yet) (length_form d.extents) (word_count (extents_at d.extents s))
        (words-raw d.extents) h.0 refl (length-value s [] d.extents (counts d.extents g.0)),
    inputs-fit ds g.1 h.1,
  )

  outputs-fit : (j : ℕ) (os : List OutputDecl) → outputs_scoped sizes (length m.inputs) os ≡ true → Every (λ o. IsOk (shape_of o.term (input_shapes m))) os
      → NoneBelow sizes s (outputs_goals os (input_shapes m)) → FormsNormal os → form_fault j os (input_shapes m) ≡ None
      → Every (ClaimHolds s (maxima m)) (outputs_claims os (input_shapes m)) → Every (PrintedHolds s (maxima m)) (body_printed m os) → OutputsFit m s os
  outputs-fit j [] c k g n f h q = tt
  outputs-fit j (o ∷ os) c k g n f h q =
      let cs = and_parts (term_scoped sizes o.term 0 (length m.inputs)) (outputs_scoped sizes (length m.inputs) os) c in
      let ok = ok-of (shape_of o.term (input_shapes m)) k.0 in
      let gs = every_parts (Zeroth sizes s) (term_goals o.term (input_shapes m)) (outputs_goals os (input_shapes m)) g in
      let fs = or_none (node_fault j (outside o.term (input_shapes m))) (form_fault (j + 1) os (input_shapes m)) f in
      let hs = every_parts (ClaimHolds s (maxima m)) (claims_of o.term output_spot (input_shapes m)) (outputs_claims os (input_shapes m)) h in
      let qs = every_parts (PrintedHolds s (maxima m)) (printed_of o.term (output_place m o)) (body_printed m os) q.1.1 in
      let p = output_place m o in
      let is : input_shapes m ≡ shapes p = sym (shapes-are m.inputs) in
      let good : GoodShape sizes s (output_extents m o) = subst (GoodShape sizes s) (sym (ap extents_or_none ok.1)) (shape-good sizes s o.term 0
      (length m.inputs) (input_shapes m) ok.0 cs.0 ok.1 gs.0 (good_inputs m.inputs scoped_parts.1 goal_parts.0)) in
      let aptly = apt sizes s (maxima m) (maxima-within m s a sound.scoped) (sym (length-map (λ d. at_least_one d.high) m.sizes)) o.term p 0
      (length m.inputs) ok.0 cs.0 n.0
      (subst (λ (ts : List Extents). shape_of o.term ts ≡ Ok ok.0) is ok.1) (subst (λ (ts : List Extents). NoneBelow sizes s (term_goals o.term ts)) is gs.0)
      (subst (λ (ts : List Extents). outside o.term ts ≡ None) is (node_none j (outside o.term (input_shapes m)) fs.0))
      (good_sites m.inputs scoped_parts.1 goal_parts.0, good-literal sizes s 0) in (
        at-start (length_printed (output_extents m o) p) (length_form (output_extents m o)) (word_count (extents_at (output_extents m o) s))
            (words-raw (output_extents m o)) q.1.0 refl (length-value s [] (output_extents m o) (counts (output_extents m o) good)),
        fits s (maxima m) o.term p (length ok.0) [] [] aptly tt (subst (λ (ts : List Extents). Every (ClaimHolds s (maxima m))
            (claims_of o.term output_spot ts)) is hs.0) qs.0 (here o),
        outputs-fit (j + 1) os cs.1 k.1 gs.1 n.1 fs.1 hs.1 qs.1,
      )

  scratch-fits : (w : Bool) (k : ℕ) (xs : List Expression) → large_fault (maxima m) k ((if w then Scratch (module_needed m) ∷ [] else []) ++ xs) ≡ None
      → ScratchFits m s w
  scratch-fits false k xs h = tt
  scratch-fits true k xs h = by (module_needed m) refl (if_none (length_small (maxima m) (module_needed m)) (large_fault (maxima m) (k + 1) xs)
      (IndexTooLarge k) h).0
    where
      by : (o : Limited Length) → module_needed m ≡ o → length_small (maxima m) o ≡ true → ScratchFits m s true
      by (Err f) q e = absurd (cc)
      by (Ok l) q e =
          let p = and_parts (length_normal l) (nat_le (length_magnitude (maxima m) l) largest_index) e in
          let le = small_le (length_magnitude (maxima m) l) largest_index p.1 in
          let ws = maxima-within m s a sound.scoped in
          let at : over_sizes (length (maxima m)) l ≡ true = subst (λ (k : ℕ). over_sizes k l ≡ true)
          (sym (length-map (λ d. at_least_one d.high) m.sizes))
          (module-at sizes m l scoped_parts.2 (shapes-at sizes m.inputs scoped_parts.1) q) in
          let value : length_value s l ≡ pos (module_need m s) = needed_is m l sound q s a in
          let most : unsigned_abs (length_value s l) ≤ largest_index = omega (arith, length-most s (maxima m) ws l at, le) in
          (l, q, length-exact s (maxima m) ws l at p.0 le ∙ ap Value value, subst (λ z. unsigned_abs z ≤ largest_index) value most)

pub accepted-stays-within : AcceptedStaysWithin
accepted-stays-within m finals marks sound normal h s a =
    let e1 = or_none (form_fault 0 m.outputs (input_shapes m)) _ h in
    let e2 = or_none (line_fault (length (module_goals m)) 0 1 finals) _ e1.1 in
    let e3 = or_none (goal_fault finals 1 (module_goals m)) _ e2.1 in
    let e4 = or_none (large_fault (maxima m) 1 (printed m)) (mark_fault m [] marks) e3.1 in
    let c = scoped_parts m s a sound in
    let body = body_printed m m.outputs in
    let claims = claims-hold m s a sound.scoped finals 1 (outputs_claims m.outputs (input_shapes m)) e3.0 in
    let ins = printed-hold m s a sound.scoped 1 (input_lengths m) (map Index (output_lengths m) ++ (scratch_printed m ++ map Index body))
    (inputs-at m s a sound m.inputs c.1)
    (split-printed m (input_lengths m) (output_lengths m) (scratch_printed m ++ map Index body) e4.0) in
    let r1 = rest_small (maxima m) 1 (map Index (input_lengths m ++ output_lengths m)) (scratch_printed m ++ map Index body) e4.0 in
    let r2 = rest_small (maxima m) r1.0 (scratch_printed m) (map Index body) r1.1 in
    let out = printed-hold m s a sound.scoped r2.0 body [] (body-at m s a sound m.outputs c.2) (subst (λ (es : List Expression). large_fault (maxima m) r2.0 es
    ≡ None) (sym (append-nil (map Index body))) r2.1) in
    record {
      scratch = scratch-fits m s a sound (any_let m.outputs) r1.0 (map Index body) r1.1;
      inputs = inputs-fit m s a sound m.inputs (good_inputs m s a sound m.inputs c.1 (goal_parts m s a sound).0) ins;
      outputs = outputs-fit m s a sound 0 m.outputs c.2 (every-of (λ o. IsOk (shape_of o.term (input_shapes m))) m.outputs sound.shaped)
          (goal_parts m s a sound).1 normal e1.0 claims out;
    }
