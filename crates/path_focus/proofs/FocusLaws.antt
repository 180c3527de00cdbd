-- The focus of a sound module is proper.
use Rattle.std.proofs.Common.{◌≡◌, ℕ, zero, suc, ◌≤◌, List, [], ◌∷◌, ◌++◌, length, map, append_assoc, refl, ap, sym, subst, arith, true, ◌&&◌}
use Rattle.std.specs.Prelude.{ℤ, pos, slice_index}
use Rattle.std.proofs.Math.Seq.{get_or-append_seam}
use Rattle.std.proofs.lemmas.Bool.{and_from, and_parts}
use Rattle.affine_index.specs.Condition.{all_scoped, at_least_zero}
use Rattle.affine_index.specs.Value.{items_value}
use Rattle.fact_list.specs.Facts.{binders}
use Rattle.fact_list.specs.Scoped.{path_scoped}
use Rattle.fact_list.specs.Truth.{SizesWithin}
use Rattle.term_tree.specs.Counts.{node_count}
use Rattle.term_tree.specs.Goals.{term_goals}
use Rattle.term_tree.specs.Modules.{Allowed, IsSound, IsWithin, extents_scoped, input_shapes, inputs_scoped, outputs_scoped}
use Rattle.term_tree.specs.Scope.{term_scoped}
use Rattle.term_tree.specs.Shape.{Extents, shape_of}
use Rattle.term_tree.specs.declared.term.Module.{Module}
use Rattle.term_tree.specs.declared.term.InputDecl.{InputDecl}
use Rattle.term_tree.specs.declared.term.OutputDecl.{OutputDecl}
use Rattle.term_tree.specs.declared.term.Path.{Path}
use Rattle.term_tree.specs.declared.term.SizeDecl.{SizeDecl}
use Rattle.term_tree.specs.declared.term.Term.{Term}
use Rattle.shape_rules.specs.Fits.{LiteralsFit}
use Rattle.shape_rules.specs.Values.{AllHaveValues, HaveValues, NoneNegative}
use Rattle.shape_rules.proofs.ModuleLaws.{module_free, sound_goals}
use Rattle.shape_rules.proofs.ProgressLaws.{ok_is}
use Rattle.path_focus.specs.Focus.{AllowedBy, Each, EachNotNegative, focus_at, shapes_scoped}
use Rattle.path_focus.specs.Frames.{Way, refilled}
use Rattle.path_focus.specs.Laws.{FocusIsProper, IsLimited}
use Rattle.path_focus.specs.Places.{at_end, no_way}
use Rattle.path_focus.specs.declared.place.BoundLet.{BoundLet}
use Rattle.path_focus.proofs.CountLaws.{end_lets, end_many, end_path, moved_apart, moved_below, way_fewer}
use Rattle.path_focus.proofs.ModuleLaws.{Found, bounds_length, bounds_of, found_words, length-map, output_goals, settled, some_at, there_valued, way_found}
use Rattle.path_focus.proofs.ProperLaws.{all_fit, fine_end}
use Rattle.path_focus.proofs.WordLaws.{end_definitions, end_literals}

length_more : (xs : List ℕ) (n : ℕ) → length (xs ++ n ∷ []) ≡ suc (length xs)
length_more [] n = refl
length_more (x ∷ xs) n = ap suc (length_more xs n)

same_length : (m n : ℕ) → suc m ≡ suc n → m ≡ n
same_length m n h = omega (arith, h)

no_length : (n : ℕ) → suc n ≡ zero → ⊥
no_length n h = absurd (omega (arith, h))

-- one number for each size, each within its bounds
within_from : (ds : List SizeDecl) (ns before : List ℕ) → length ns ≡ length (bounds_of ds) → SizesWithin (before ++ ns) (length before) (bounds_of ds)
    → IsWithin ds ns
within_from [] [] before e h = tt
within_from [] (n ∷ ns) before e h = absurd (no_length (length ns) e)
within_from (d ∷ ds) [] before e h = absurd (no_length (length (bounds_of ds)) (sym e))
within_from (d ∷ ds) (n ∷ ns) before e h =
    let q : slice_index (before ++ n ∷ ns) (length before) ≡ n = get_or-append_seam before n ns 0 in (
      subst (λ (x : ℕ). d.low ≤ x) q h.0,
      subst (λ (x : ℕ). x ≤ d.high) q h.1,
      within_from ds ns (before ++ n ∷ []) (same_length (length ns) (length (bounds_of ds)) e)
          (subst (λ (k : ℕ). SizesWithin ((before ++ n ∷ []) ++ ns) k (bounds_of ds)) (sym (length_more before n))
          (subst (λ (xs : List ℕ). SizesWithin xs (suc (length before)) (bounds_of ds)) (sym (append_assoc before (n ∷ []) ns)) h.2)),
    )

pub allowed_from : (m : Module) (w : Way) (s : List ℕ) → AllowedBy (focus_at m w).facts s → Allowed m s
allowed_from m w s a = record { within = within_from m.sizes s [] a.0 a.1; assumed = a.2 }

not_negative : (z : ℤ) (n : ℕ) → z ≡ pos n → at_least_zero z ≡ true
not_negative z n h = ap at_least_zero h

none_negative : (s : List ℕ) (ns : Extents) (d : List ℕ) → HaveValues s ns d → NoneNegative s ns
none_negative s [] d h = tt
none_negative s (n ∷ ns) [] h = absurd h
none_negative s (n ∷ ns) (k ∷ d) h = (not_negative (items_value s [] n) k h.0, none_negative s ns d h.1)

each_not_negative : (s : List ℕ) (ts : List Extents) (ds : List (List ℕ)) → AllHaveValues s ts ds → EachNotNegative s ts
each_not_negative s [] ds h = tt
each_not_negative s (ns ∷ ts) [] h = absurd h
each_not_negative s (ns ∷ ts) (d ∷ ds) h = (none_negative s ns d h.0, each_not_negative s ts ds h.1)

each_of : (P Q : BoundLet → Type 0) (bs : List BoundLet) → ((b : BoundLet) → P b → Q b) → Each P bs → Each Q bs
each_of P Q [] f h = tt
each_of P Q (b ∷ bs) f h = (f b h.0, each_of P Q bs f h.1)

each_both : (P Q R : BoundLet → Type 0) (bs : List BoundLet) → ((b : BoundLet) → P b → Q b → R b) → Each P bs → Each Q bs → Each R bs
each_both P Q R [] f h k = tt
each_both P Q R (b ∷ bs) f h k = (f b h.0 k.0, each_both P Q R bs f h.1 k.1)

inputs_scope : (sizes : ℕ) (ds : List InputDecl) → inputs_scoped sizes ds ≡ true → shapes_scoped sizes (map (λ d. d.extents) ds) ≡ true
inputs_scope sizes [] h = refl
inputs_scope sizes (d ∷ ds) h =
    let p = and_parts (extents_scoped sizes d.extents) (inputs_scoped sizes ds) h in
    and_from (extents_scoped sizes d.extents) (shapes_scoped sizes (map (λ d. d.extents) ds)) p.0 (inputs_scope sizes ds p.1)

declared : (m : Module) → IsSound m → inputs_scoped (length m.sizes) m.inputs ≡ true
declared m sound =
    let p = and_parts (all_scoped (length m.sizes) 0 m.assumes)
    (inputs_scoped (length m.sizes) m.inputs && outputs_scoped (length m.sizes) (length m.inputs) m.outputs) sound.scoped in
    (and_parts (inputs_scoped (length m.sizes) m.inputs) (outputs_scoped (length m.sizes) (length m.inputs) m.outputs) p.1).0

whole_small : (m : Module) → IsLimited m → (p : Path) (w : Way) → Found m p w → node_count (refilled w.frames w.term) ≤ 20000
whole_small m limited p w g = subst (λ (e : Term). node_count e ≤ 20000) (sym g.whole)
    (some_at (λ (o : OutputDecl). node_count o.term ≤ 20000) m.outputs p.output g.output g.stands limited.nodes)

pub focus_is_proper : FocusIsProper
focus_is_proper m sound ordered literals limited p w h =
    let g = way_found m p w h in
    let f = fine_end (length m.sizes) 20000 (Allowed m) (input_shapes m) w.term w.frames no_way (record {
      settled = settled m sound ordered p.output g.output g.stands w g.whole;
      small = subst (λ (e : Term). node_count e ≤ 20000) (sym g.whole)
          (some_at (λ (o : OutputDecl). node_count o.term ≤ 20000) m.outputs p.output g.output g.stands limited.nodes);
      goals = λ s a. subst (λ (e : Term). NoneNegative s (term_goals e (input_shapes m))) (sym g.whole)
          (output_goals s m.outputs (input_shapes m) p.output g.output g.stands (sound_goals m sound s a).1);
      placed = tt;
      free = module_free m (input_shapes m) refl sound.scoped;
      shapes = inputs_scope (length m.sizes) m.inputs (declared m sound);
    }) in
    let z = at_end (input_shapes m) w.frames no_way in
    let fits = all_fit (length m.sizes) 20000 (Allowed m) (binders z.path) (z.lets ++ input_shapes m) 0 z.definitions f.placed in
    let same = sym (bounds_length m.sizes) in
    let words : LiteralsFit (refilled w.frames w.term) = subst LiteralsFit (sym g.whole) (found_words m literals p w g) in
    record {
      shaped = ok_is (shape_of w.term (z.lets ++ input_shapes m)) f.settled.shape.0 f.settled.shape.1;
      small = f.small;
      literals = end_literals w.term w.frames words;
      definitions = each_both _ (λ b. LiteralsFit b.term) _ (focus_at m w).bound (λ b k l. record {
        shaped = k.shaped;
        small = k.small;
        scoped = subst (λ n. term_scoped n b.term (binders z.path) (length (z.lets ++ input_shapes m)) ≡ true) same k.scoped;
        literals = l;
      }) fits (end_definitions (input_shapes m) w.term w.frames no_way words tt);
      extents = λ s a. each_not_negative s (z.lets ++ input_shapes m) _
          (there_valued m sound ordered p.output g.output g.stands w g.whole s (allowed_from m w s a)).values;
      goals = λ s a. f.goals s (allowed_from m w s a);
      definition_goals = λ s a. each_of _ _ (focus_at m w).bound (λ b k. k.goals s (allowed_from m w s a)) fits;
      scoped =
          let q = (and_parts (all_scoped (length m.sizes) 0 m.assumes)
          (inputs_scoped (length m.sizes) m.inputs && outputs_scoped (length m.sizes) (length m.inputs) m.outputs) sound.scoped).0 in
          subst (λ n. (all_scoped n 0 m.assumes && path_scoped n 0 z.path) ≡ true) same
          (and_from (all_scoped (length m.sizes) 0 m.assumes) (path_scoped (length m.sizes) 0 z.path) q f.settled.path);
      term_scope = subst (λ n. term_scoped n w.term (binders z.path) (length (z.lets ++ input_shapes m)) ≡ true) same f.settled.scoped;
      free = f.free;
      shapes = subst (λ n. shapes_scoped n (z.lets ++ input_shapes m) ≡ true) same f.shapes;
      lets = moved_below 0 (length z.lets) z.definitions (omega (arith, end_many (input_shapes m) w.frames no_way refl));
      apart = moved_apart 0 z.definitions;
      few =
          let nodes : length w.frames ≤ 20000 = omega (arith, way_fewer w.term w.frames, whole_small m limited p w g) in
          record {
            sizes = subst (λ n. n ≤ 2147483647) same limited.sizes;
            path = omega (arith, end_path (input_shapes m) w.frames no_way, nodes);
            lets = omega (arith, end_lets (input_shapes m) w.frames no_way, nodes);
            inputs = subst (λ n. n ≤ 2147483647) (sym (length-map (λ d. d.extents) m.inputs)) limited.inputs;
          };
    }
