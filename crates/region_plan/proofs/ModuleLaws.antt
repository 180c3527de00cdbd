-- The plan of a module at allowed sizes.
use Rattle.std.proofs.Common.{◌≡◌, ℕ, ◌+◌, List, [], ◌∷◌, ◌++◌, length, map, refl, ap, sym, subst, ◌∙◌, zero, suc, take, drop, ◌/◌, IfOk, IsOk, arith, true, Ok}
use Rattle.std.proofs.Common.{Err, Result, append_assoc}
use Rattle.std.proofs.lemmas.List.{append-nil}
use Rattle.std.specs.Prelude.{max, pos, All}
use Rattle.std.proofs.lemmas.Bool.{and_parts}
use Rattle.affine_index.proofs.Values.{value-literal}
use Rattle.index_trees.specs.Value.{tree_value}
use Rattle.reindexer.specs.Limited.{Limited, and_then}
use Rattle.reindexer.proofs.IndexLaws.{first_ok}
use Rattle.shape_rules.specs.Meant.{HasMeaning, input_extents}
use Rattle.shape_rules.specs.Parts.{EachPart}
use Rattle.shape_rules.specs.Scopes.{all_free}
use Rattle.shape_rules.specs.Values.{AllHaveValues, HaveValues}
use Rattle.shape_rules.proofs.FreeForms.{free_literal}
use Rattle.shape_rules.proofs.ModuleLaws.{module_free, module_parts, sound_shapes}
use Rattle.term_tree.specs.declared.term.Module.{Module}
use Rattle.term_tree.specs.declared.term.OutputDecl.{OutputDecl}
use Rattle.term_tree.specs.Modules.{IsSound, input_shapes, outputs_scoped}
use Rattle.term_tree.specs.Scope.{term_scoped}
use Rattle.term_tree.specs.Shape.{Extents}
use Rattle.region_plan.specs.Need.{module_need, need, outputs_need}
use Rattle.region_plan.specs.Ranges.{Range, module_ranges, outputs_ranges, ranges}
use Rattle.region_plan.specs.declared.length.Length.{Length}
use Rattle.region_plan.specs.declared.region.Plan.{Plan}
use Rattle.region_plan.specs.declared.planned.Outputs.{Outputs}
use Rattle.region_plan.specs.declared.planned.Planned.{Planned}
use Rattle.region_plan.specs.declared.refusal.PlanRefusal.{PlanRefusal}
use Rattle.region_plan.proofs.RangeLaws.{outputs_lie_apart}
use Rattle.std.proofs.lemmas.List.{length-map}
use Rattle.shape_rules.specs.Scopes.{given}
use Rattle.shape_rules.specs.declared.shapes.Shapes.{Shapes}
use Rattle.term_tree.specs.Shape.{shape_of}
use Rattle.region_plan.specs.Correct.{IsNeed, IsPlan, IsRight}
use Rattle.region_plan.specs.Length.{length_tree, length_value, zero_form}
use Rattle.region_plan.specs.Needed.{by_halves, largest_of, module_needed, needed, needs_after}
use Rattle.region_plan.specs.Planned.{module_planned, no_outputs, outputs_after, planned, whole, with_output}
use Rattle.region_plan.specs.Shaped.{EachShaped}
use Rattle.region_plan.proofs.LengthLaws.{HaveLengths, LengthFree, halves_length, largest, tree_stands}
use Rattle.region_plan.proofs.NeedLaws.{larger_free, needed_free, needed_value}
use Rattle.region_plan.proofs.PlanLaws.{both_values, planned_needed, planned_right, places, places_are, same_planned}

abbrev ok_outputs : Outputs → Limited Outputs
ok_outputs p = Ok p

same_outputs : (p q : Outputs) → ok_outputs p ≡ ok_outputs q → p ≡ q
same_outputs p q h = cc

abbrev ok_needs : List Length → Limited (List Length)
ok_needs ls = Ok ls

same_needs : (ls ms : List Length) → ok_needs ls ≡ ok_needs ms → ls ≡ ms
same_needs ls ms h = cc

abbrev ok_need : Length → Limited Length
ok_need l = Ok l

same_need : (l k : Length) → ok_need l ≡ ok_need k → l ≡ k
same_need l k h = cc

rest_all : {X : Type 0} (P : X → Type 0) (x : X) (xs : List X) → All P (x ∷ xs) → All P xs
rest_all P x xs h k d l = h (suc k) d (omega (arith, l))

first_all : {X : Type 0} (P : X → Type 0) (x : X) (xs : List X) → All P (x ∷ xs) → P x
first_all P x xs h = h zero x (omega arith)

-- each output has a meaning
abbrev EachMeant : List ℕ → List Extents → List OutputDecl → Type 0
EachMeant s ts [] = Unit {0}
EachMeant s ts (o ∷ os) = EachPart (HasMeaning s) o.term ts × EachMeant s ts os

each_meant : (s : List ℕ) (ts : List Extents) (os : List OutputDecl) → All (λ o. EachPart (HasMeaning s) o.term ts) os → EachMeant s ts os
each_meant s ts [] h = tt
each_meant s ts (o ∷ os) h = (
  first_all (λ (o : OutputDecl). EachPart (HasMeaning s) o.term ts) o os h,
  each_meant s ts os
      (rest_all (λ (o : OutputDecl). EachPart (HasMeaning s) o.term ts) o os h),
)

-- the terms of the outputs of a sound module are well scoped, and have shapes
each_shaped : (sh : Shapes) (sizes : ℕ) (os : List OutputDecl) → outputs_scoped sizes (length (given sh)) os ≡ true
    → All (λ o. IsOk (shape_of o.term (given sh))) os → EachShaped sh os
each_shaped sh sizes [] c h = tt
each_shaped sh sizes (o ∷ os) c h =
    let cs = and_parts (term_scoped sizes o.term 0 (length (given sh))) (outputs_scoped sizes (length (given sh)) os) c in (
      ((sizes, 0, cs.0), first_all (λ (o : OutputDecl). IsOk (shape_of o.term (given sh))) o os h),
      each_shaped sh sizes os cs.1 (rest_all (λ (o : OutputDecl). IsOk (shape_of o.term (given sh))) o os h),
    )

pub module_shaped : (m : Module) (sh : Shapes) → IsSound m → given sh ≡ input_shapes m → EachShaped sh m.outputs
module_shaped m sh sound e =
    let many : length (given sh) ≡ length m.inputs = ap length e ∙ length-map m.inputs (λ d. d.extents) in
    each_shaped sh (length m.sizes) m.outputs (subst (λ n. outputs_scoped (length m.sizes) n m.outputs ≡ true) (sym many) (module_parts m sound.scoped).1)
    (subst (λ ts. All (λ o. IsOk (shape_of o.term ts)) m.outputs) (sym e) sound.shaped)

module _ (s : List ℕ) where
  abbrev needs : List OutputDecl → List (List ℕ) → List ℕ
  needs [] ds = []
  needs (o ∷ os) ds = need o.term s ds ∷ needs os ds

  largest_need : (os : List OutputDecl) (ds : List (List ℕ)) → largest s (needs os ds) ≡ outputs_need os s ds
  largest_need [] ds = refl
  largest_need (o ∷ os) ds = ap (max (need o.term s ds)) (largest_need os ds)

  more_lengths : (ls : List Length) (ns : List ℕ) (l : Length) (n : ℕ) → HaveLengths s ls ns → length_value s l ≡ pos n
      → HaveLengths s (ls ++ l ∷ []) (ns ++ n ∷ [])
  more_lengths [] [] l n h k = (k, tt)
  more_lengths [] (m ∷ ns) l n h k = absurd h
  more_lengths (m ∷ ls) [] l n h k = absurd h
  more_lengths (m ∷ ls) (o ∷ ns) l n h k = (h.0, more_lengths ls ns l n h.1 k)

  -- what the outputs need
  needs_right : (os : List OutputDecl) (ts : List Extents) (ds : List (List ℕ)) (ls z : List Length) (ns : List ℕ) → needs_after ls os ts ≡ Ok z
      → EachMeant s ts os → AllHaveValues s ts ds
      → HaveLengths s ls ns → HaveLengths s z (ns ++ needs os ds)
  needs_right [] ts ds ls z ns h c f r = subst (λ a. HaveLengths s a (ns ++ [])) (same_needs ls z h) (subst (HaveLengths s ls) (sym (append-nil ns)) r)
  needs_right (o ∷ os) ts ds ls z ns h c f r =
      let p = first_ok (needed o.term ts) (λ l. needs_after (ls ++ l ∷ []) os ts) z h in
      let n = need o.term s ds in
      subst (HaveLengths s z) (append_assoc ns (n ∷ []) (needs os ds))
      (needs_right os ts ds (ls ++ p.0 ∷ []) z (ns ++ n ∷ []) p.2 c.1 f (more_lengths ls ns p.0 n r (needed_value s o.term ts ds p.0 p.1 c.0 f)))

  places_join : (xs ys : List Range) → places s (xs ++ ys) ≡ places s xs ++ places s ys
  places_join [] ys = refl
  places_join (x ∷ xs) ys = ap (λ l. x.at ∷ l) (places_join xs ys)

  -- where the lets of the outputs lie
  outputs_right : (os : List OutputDecl) (ts : List Extents) (ds : List (List ℕ)) (all z : Outputs) (xs : List Range) → outputs_after all os ts ≡ Ok z
      → EachMeant s ts os → AllHaveValues s ts ds
      → HaveValues s all.offsets (places s xs) → HaveValues s z.offsets (places s (xs ++ outputs_ranges os s ds))
  outputs_right [] ts ds all z xs h c f r =
      subst (λ a. HaveValues s a.offsets (places s (xs ++ []))) (same_outputs all z h)
      (subst (λ ys. HaveValues s all.offsets (places s ys)) (sym (append-nil xs)) r)
  outputs_right (o ∷ os) ts ds all z xs h c f r =
      let p = first_ok (planned o.term ts zero_form) (λ p. outputs_after (with_output all p) os ts) z h in
      let here = ranges o.term s ds 0 in
      let q = planned_right s o.term ts ds zero_form 0 p.0 p.1 c.0 f (value-literal s [] (pos 0)) in
      let offsets : HaveValues s (all.offsets ++ p.0.offsets) (places s (xs ++ here)) =
      subst (HaveValues s (all.offsets ++ p.0.offsets)) (sym (places_join xs here)) (both_values s all.offsets p.0.offsets (places s xs) (places s here) r q) in
      subst (λ ys. HaveValues s z.offsets (places s ys)) (append_assoc xs here (outputs_ranges os s ds))
      (outputs_right os ts ds (with_output all p.0) z (xs ++ here) p.2 c.1 f offsets)

-- no length of a list holds an index variable
abbrev AllLengthsFree : List Length → Type 0
AllLengthsFree [] = Unit {0}
AllLengthsFree (l ∷ ls) = LengthFree l × AllLengthsFree ls

more_free : (ls : List Length) (l : Length) → AllLengthsFree ls → LengthFree l → AllLengthsFree (ls ++ l ∷ [])
more_free [] l h k = (k, tt)
more_free (m ∷ ls) l h k = (h.0, more_free ls l h.1 k)

needs_free : (sizes tensors : ℕ) (os : List OutputDecl) (ts : List Extents) (ls z : List Length) → needs_after ls os ts ≡ Ok z
    → outputs_scoped sizes tensors os ≡ true → all_free ts ≡ true → AllLengthsFree ls → AllLengthsFree z
needs_free sizes tensors [] ts ls z h c g r = subst AllLengthsFree (same_needs ls z h) r
needs_free sizes tensors (o ∷ os) ts ls z h c g r =
    let cs = and_parts (term_scoped sizes o.term 0 tensors) (outputs_scoped sizes tensors os) c in
    let p = first_ok (needed o.term ts) (λ l. needs_after (ls ++ l ∷ []) os ts) z h in
    needs_free sizes tensors os ts (ls ++ p.0 ∷ []) z p.2 cs.1 g (more_free ls p.0 r (needed_free sizes o.term 0 tensors ts p.0 cs.0 g p.1))

take_free : (h : ℕ) (ls : List Length) → AllLengthsFree ls → AllLengthsFree (take h ls)
take_free zero ls q = tt
take_free (suc h) [] q = tt
take_free (suc h) (l ∷ ls) q = (q.0, take_free h ls q.1)

drop_free : (h : ℕ) (ls : List Length) → AllLengthsFree ls → AllLengthsFree (drop h ls)
drop_free zero ls q = q
drop_free (suc h) [] q = tt
drop_free (suc h) (l ∷ ls) q = drop_free h ls q.1

halves_free : (room : ℕ) (ls : List Length) → AllLengthsFree ls → LengthFree (by_halves room ls)
halves_free room [] h = free_literal (pos 0)
halves_free room (l ∷ []) h = h.0
halves_free zero (l ∷ m ∷ ls) h = h.0
halves_free (suc room) (l ∷ m ∷ ls) h =
    let all = l ∷ m ∷ ls in
    let half = (length all + 1) / 2 in
    larger_free (by_halves room (take half all)) (by_halves room (drop half all)) (halves_free room (take half all) (take_free half all h))
    (halves_free room (drop half all) (drop_free half all h))

-- the length is the need at allowed sizes
pub needed_is : (m : Module) (l : Length) → IsSound m → module_needed m ≡ Ok l → IsNeed m l
needed_is m l sound h s allowed =
    let shapes = sound_shapes m sound s allowed in
    let ds = input_extents m s in
    let q = first_ok (needs_after [] m.outputs (input_shapes m)) (λ ls. ok_need (largest_of ls)) l h in
    let right = needs_right s m.outputs (input_shapes m) ds [] q.0 [] q.1 (each_meant s (input_shapes m) m.outputs shapes.1) shapes.0 tt in
    sym (ap (length_value s) (same_need (largest_of q.0) l q.2)) ∙ halves_length s (length q.0) q.0 (needs s m.outputs ds) (omega arith) right
    ∙ ap pos (largest_need s m.outputs ds)

-- it holds no index variable
pub module_needed_free : (m : Module) (l : Length) → IsSound m → module_needed m ≡ Ok l → LengthFree l
module_needed_free m l sound h =
    let q = first_ok (needs_after [] m.outputs (input_shapes m)) (λ ls. ok_need (largest_of ls)) l h in
    subst LengthFree (same_need (largest_of q.0) l q.2)
    (halves_free (length q.0) q.0
    (needs_free (length m.sizes) (length m.inputs) m.outputs (input_shapes m) [] q.0 q.1 (module_parts m sound.scoped).1
    (module_free m (input_shapes m) refl sound.scoped) tt))

-- the length of a plan is what the module needs without offsets
outputs_needed : (os : List OutputDecl) (ts : List Extents) (all z : Outputs) → outputs_after all os ts ≡ Ok z → needs_after all.needs os ts ≡ Ok z.needs
outputs_needed [] ts all z h = ap (λ a. ok_needs a.needs) (same_outputs all z h)
outputs_needed (o ∷ os) ts all z h =
    let p = first_ok (planned o.term ts zero_form) (λ p. outputs_after (with_output all p) os ts) z h in
    (λ i. and_then (planned_needed o.term ts zero_form p.0 p.1 i) (λ l. needs_after (all.needs ++ l ∷ []) os ts))
    ∙ outputs_needed os ts (with_output all p.0) z p.2

plan_needed : (m : Module) (p : Planned) → module_planned m ≡ Ok p → module_needed m ≡ Ok p.need
plan_needed m p h =
    let q = first_ok (outputs_after no_outputs m.outputs (input_shapes m)) (λ all. Ok (whole all)) p h in
    (λ i. and_then (outputs_needed m.outputs (input_shapes m) no_outputs q.0 q.1 i) (λ ls. ok_need (largest_of ls)))
    ∙ ap (λ r. ok_need r.need) (same_planned (whole q.0) p q.2)

-- the plan is right at allowed sizes
pub plan_fits : (m : Module) (plan : Plan) (p : Planned) → IsSound m → module_planned m ≡ Ok p → plan.offsets ≡ p.offsets → plan.length ≡ length_tree p.need
    → IsRight m plan
plan_fits m plan p sound h e f s allowed =
    let shapes = sound_shapes m sound s allowed in
    let ds = input_extents m s in
    let q = first_ok (outputs_after no_outputs m.outputs (input_shapes m)) (λ all. Ok (whole all)) p h in
    let right = outputs_right s m.outputs (input_shapes m) ds no_outputs q.0 [] q.1 (each_meant s (input_shapes m) m.outputs shapes.1) shapes.0 tt in
    let length_is = plan_needed m p h in
    record {
      length = ap (λ t. tree_value t s []) f ∙ tree_stands s p.need (module_needed_free m p.need sound length_is)
          ∙ needed_is m p.need sound length_is s allowed;
      offsets =
          subst (λ xs. HaveValues s xs (map (λ x. x.at) (module_ranges m s))) (ap (λ r. r.offsets) (same_planned (whole q.0) p q.2) ∙ sym e)
          (subst (HaveValues s q.0.offsets) (places_are s (module_ranges m s)) right);
      apart = outputs_lie_apart s m.outputs ds (module_need m s) (omega arith);
    }

-- so where the answer is a plan, or a length
pub answer_right : (m : Module) (r : Result Plan PlanRefusal) → IsSound m → IsPlan (module_planned m) r → IfOk r (IsRight m)
answer_right m (Ok plan) sound h = plan_fits m plan h.0 sound h.1 h.2 h.3
answer_right m (Err e) sound h = tt

-- what the walks of the outputs give together
pub needed_from : (m : Module) (os : List OutputDecl) (ts : List Extents) (ls : List Length) (l : Length) → os ≡ m.outputs → ts ≡ input_shapes m
    → needs_after [] os ts ≡ Ok ls
    → l ≡ largest_of ls → module_needed m ≡ Ok l
needed_from m os ts ls l a b h e =
    (λ i. and_then (needs_after [] (sym a i) (sym b i)) (λ ls. ok_need (largest_of ls))) ∙ (λ i. and_then (h i) (λ ls. ok_need (largest_of ls)))
    ∙ ap ok_need (sym e)
