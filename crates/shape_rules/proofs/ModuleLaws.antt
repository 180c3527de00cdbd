-- Modules: first faults, goals, and what a sound module has.
use Rattle.std.proofs.Common.{◌≡◌, ℕ, zero, suc, ◌+◌, ◌<◌, List, [], ◌∷◌, ◌++◌, length, map, get_or, drop, drop-cons, add-one, append_assoc, reverse, refl, ap}
use Rattle.std.proofs.Common.{subst, sym, ◌∙◌, arith, true, ◌&&◌, Some, Ok, Err, IsOk}
use Rattle.std.specs.Prelude.{slice_get, All}
use Rattle.std.proofs.lemmas.Bool.{and_from, and_parts}
use borrow.Author.Count.{below_more}
use Rattle.affine_index.specs.Condition.{all_scoped, at_least_zero}
use Rattle.affine_index.specs.Limited.{items_scoped}
use Rattle.affine_index.specs.Value.{items_value}
use Rattle.affine_index.specs.declared.form.Items.{Items}
use Rattle.term_tree.specs.declared.term.InputDecl.{InputDecl}
use Rattle.term_tree.specs.declared.term.Module.{Module}
use Rattle.term_tree.specs.declared.term.OutputDecl.{OutputDecl}
use Rattle.term_tree.specs.Goals.{term_goals}
use Rattle.term_tree.specs.Meaning.{extents_of}
use Rattle.term_tree.specs.Modules.{Allowed, AreInputs, IsSound, extent_goals, extents_at, extents_scoped, input_goals, input_shapes, inputs_bound}
use Rattle.term_tree.specs.Modules.{inputs_scoped, module_scoped, outputs_goals, outputs_scoped}
use Rattle.term_tree.specs.Scope.{term_scoped}
use Rattle.term_tree.specs.Shape.{Extents, Shaped, shape_of}
use Rattle.term_tree.specs.Tensors.{Tensor}
use Rattle.shape_rules.specs.Faults.{AllBefore, FailsFirst, HasOne, IsModuleFault, RankFits, ShapesHold}
use Rattle.shape_rules.specs.Fits.{AllShaped, AllWords}
use Rattle.shape_rules.specs.Meant.{SoundByGoals, SoundShapes, SoundTensors, input_extents}
use Rattle.shape_rules.specs.Plain.{all_plain, is_plain}
use Rattle.shape_rules.specs.Scopes.{all_free, each_free, scope}
use Rattle.shape_rules.specs.Values.{AllHaveValues, HaveValues, NoneNegative}
use Rattle.shape_rules.specs.declared.fault.ShapeFault.{ShapeFault}
use Rattle.shape_rules.specs.declared.fault.ShapeFault.TheVariants as f
use Rattle.shape_rules.proofs.FreeForms.{scoped_free}
use Rattle.shape_rules.proofs.PartLaws.{each_part}
use Rattle.shape_rules.proofs.PlainLaws.{plain_scoped}
use Rattle.shape_rules.proofs.RuleValues.{extent_pos, negative_parts}
use Rattle.shape_rules.proofs.ShapeMeaning.{den_meant}

-- lists by their places
module _ {X : Type 0} where
  same_get : (xs : List X) (i : ℕ) (d e : X) → i < length xs → get_or xs i d ≡ get_or xs i e
  same_get [] i d e h = absurd (omega (arith, h))
  same_get (x ∷ xs) zero d e h = refl
  same_get (x ∷ xs) (suc i) d e h = same_get xs i d e (omega (arith, h))

  pub get_some : (xs : List X) (i : ℕ) (x : X) → i < length xs → x ≡ get_or xs i x → slice_get xs i ≡ Some x
  get_some [] i x h e = absurd (omega (arith, h))
  get_some (y ∷ xs) zero x h e = ap Some (sym e)
  get_some (y ∷ xs) (suc i) x h e = get_some xs i x (omega (arith, h)) e

  pub before_none : (P : X → Type 0) (xs : List X) → AllBefore P 0 xs
  before_none P xs k d h = absurd (omega (arith, h))

  pub before_more : (P : X → Type 0) (xs : List X) (i : ℕ) (x : X) → i < length xs → x ≡ get_or xs i x → P x → AllBefore P i xs → AllBefore P (i + 1) xs
  before_more P xs i x h e p b k d q =
      below_more (λ (k : ℕ). (d : X) → P (get_or xs k d)) i (λ k l d. b k d l) (λ d. subst P (e ∙ same_get xs i x d h) p) k q d

  rest_all : (P : X → Type 0) (x : X) (xs : List X) → All P (x ∷ xs) → All P xs
  rest_all P x xs h k d l = h (suc k) d (omega (arith, l))

  first_all : (P : X → Type 0) (x : X) (xs : List X) → All P (x ∷ xs) → P x
  first_all P x xs h = h zero x (omega arith)

  pub all_here : (P : X → Type 0) (xs : List X) (i : ℕ) → i ≡ length xs → AllBefore P i xs → All P xs
  all_here P xs i e b k d h = b k d (omega (arith, e, h))

-- goals
module _ (s : List ℕ) where
  none_of : (xs : List Items) → All (λ n. at_least_zero (items_value s [] n) ≡ true) xs → NoneNegative s xs
  none_of [] h = tt
  none_of (x ∷ xs) h = let P : Items → Type 0 = λ n. at_least_zero (items_value s [] n) ≡ true in (first_all P x xs h, none_of xs (rest_all P x xs h))

  all_of : (xs : List Items) → NoneNegative s xs → All (λ n. at_least_zero (items_value s [] n) ≡ true) xs
  all_of [] h k d l = absurd (omega (arith, l))
  all_of (x ∷ xs) h zero d l = h.0
  all_of (x ∷ xs) h (suc k) d l = all_of xs h.1 k d (omega (arith, l))

  pub extents_values : (ns : Extents) → NoneNegative s ns → HaveValues s ns (extents_at ns s)
  extents_values [] h = tt
  extents_values (n ∷ ns) h = (extent_pos s n h.0, extents_values ns h.1)

  pub inputs_values : (ds : List InputDecl) → NoneNegative s (input_goals ds) → AllHaveValues s (map (λ d. d.extents) ds) (map (λ d. extents_at d.extents s) ds)
  inputs_values [] h = tt
  inputs_values (d ∷ ds) h = let p = negative_parts s d.extents (input_goals ds) h in (extents_values d.extents p.0, inputs_values ds p.1)

  pub output_goals : (os : List OutputDecl) (ts : List Extents) (k : ℕ) (d : OutputDecl) → k < length os → NoneNegative s (outputs_goals os ts)
      → NoneNegative s (term_goals (get_or os k d).term ts)
  output_goals [] ts k d l h = absurd (omega (arith, l))
  output_goals (o ∷ os) ts zero d l h = (negative_parts s (term_goals o.term ts) (outputs_goals os ts) h).0
  output_goals (o ∷ os) ts (suc k) d l h = output_goals os ts k d (omega (arith, l)) (negative_parts s (term_goals o.term ts) (outputs_goals os ts) h).1

  pub bound_extents : (ds : List InputDecl) (inputs : List Tensor) → AreInputs ds s inputs
      → extents_of (inputs_bound ds s inputs) ≡ map (λ d. extents_at d.extents s) ds
  bound_extents [] [] h = refl
  bound_extents [] (x ∷ xs) h = absurd h
  bound_extents (d ∷ ds) [] h = absurd h
  bound_extents (d ∷ ds) (x ∷ xs) h = ap (λ es. extents_at d.extents s ∷ es) (bound_extents ds xs h.2)

  pub bound_shaped : (ds : List InputDecl) (inputs : List Tensor) → AreInputs ds s inputs → AllShaped (inputs_bound ds s inputs)
  bound_shaped [] [] h = tt
  bound_shaped [] (x ∷ xs) h = absurd h
  bound_shaped (d ∷ ds) [] h = absurd h
  bound_shaped (d ∷ ds) (x ∷ xs) h = (h.0, bound_shaped ds xs h.2)

  pub bound_words : (ds : List InputDecl) (inputs : List Tensor) → AreInputs ds s inputs → AllWords (inputs_bound ds s inputs)
  bound_words [] [] h = tt
  bound_words [] (x ∷ xs) h = absurd h
  bound_words (d ∷ ds) [] h = absurd h
  bound_words (d ∷ ds) (x ∷ xs) h = (h.1, bound_words ds xs h.2)

pub output_scoped : (sizes tensors : ℕ) (os : List OutputDecl) (k : ℕ) (d : OutputDecl) → k < length os → outputs_scoped sizes tensors os ≡ true
    → term_scoped sizes (get_or os k d).term 0 tensors ≡ true
output_scoped sizes tensors [] k d l h = absurd (omega (arith, l))
output_scoped sizes tensors (o ∷ os) zero d l h = (and_parts (term_scoped sizes o.term 0 tensors) (outputs_scoped sizes tensors os) h).0
output_scoped sizes tensors (o ∷ os) (suc k) d l h =
    output_scoped sizes tensors os k d (omega (arith, l)) (and_parts (term_scoped sizes o.term 0 tensors) (outputs_scoped sizes tensors os) h).1

pub module_parts : (m : Module) → module_scoped m ≡ true → (inputs_scoped (length m.sizes) m.inputs ≡ true)
    × (outputs_scoped (length m.sizes) (length m.inputs) m.outputs ≡ true)
module_parts m h =
    let p = and_parts (all_scoped (length m.sizes) 0 m.assumes)
    (inputs_scoped (length m.sizes) m.inputs && outputs_scoped (length m.sizes) (length m.inputs) m.outputs) h in
    and_parts (inputs_scoped (length m.sizes) m.inputs) (outputs_scoped (length m.sizes) (length m.inputs) m.outputs) p.1

has_shape : (r : Shaped) → IsOk r → (ns : Extents) × (r ≡ Ok ns)
has_shape (Ok ns) h = (ns, refl)
has_shape (Err e) h = absurd (let q : IsOk {T = Extents} (Err e) = h in cc)

-- the goals of a sound module at allowed sizes: those of its inputs, then those of its outputs
pub sound_goals : (m : Module) → IsSound m → (s : List ℕ) → Allowed m s → NoneNegative s (input_goals m.inputs)
    × NoneNegative s (outputs_goals m.outputs (input_shapes m))
sound_goals m sound s a = negative_parts s (input_goals m.inputs) (outputs_goals m.outputs (input_shapes m)) (none_of s (extent_goals m) (sound.positive s a))

pub sound_shapes : SoundShapes
sound_shapes m sound s a =
    let gs = sound_goals m sound s a in (
      inputs_values s m.inputs gs.0,
      λ k d l.
          let o = get_or m.outputs k d in
          let w = has_shape (shape_of o.term (input_shapes m)) (sound.shaped k d l) in
          each_part s (length m.sizes) o.term 0 (length m.inputs) (input_shapes m) w.0
          (output_scoped (length m.sizes) (length m.inputs) m.outputs k d l (module_parts m sound.scoped).1) w.1
          (output_goals s m.outputs (input_shapes m) k d l gs.1),
    )

pub sound_tensors : SoundTensors
sound_tensors m sound s a inputs h k d l =
    let gs = sound_goals m sound s a in
    let o = get_or m.outputs k d in
    let w = has_shape (shape_of o.term (input_shapes m)) (sound.shaped k d l) in
    let meant = den_meant (length m.sizes) o.term 0 (length m.inputs) (input_shapes m) w.0
    (output_scoped (length m.sizes) (length m.inputs) m.outputs k d l (module_parts m sound.scoped).1) w.1
    s (output_goals s m.outputs (input_shapes m) k d l gs.1) (input_extents m s) (inputs_values s m.inputs gs.0) in
    meant.1 [] (inputs_bound m.inputs s inputs) (bound_extents s m.inputs inputs h) (bound_shaped s m.inputs inputs h)

pub sound_by_goals : (m : Module) (goals : Extents) → goals ≡ extent_goals m → module_scoped m ≡ true → ShapesHold m → SoundByGoals m goals
sound_by_goals m goals e c h p = record {
  scoped = c;
  ranks = h.ranks;
  shaped = h.shaped;
  positive = λ s a. all_of s (extent_goals m) (subst (λ (xs : Extents). NoneNegative s xs) e (p s a));
}

-- what a walk of the outputs takes
plain_outputs : (sizes tensors : ℕ) (os : List OutputDecl) → outputs_scoped sizes tensors os ≡ true → all_plain os ≡ true
plain_outputs sizes tensors [] h = refl
plain_outputs sizes tensors (o ∷ os) h =
    let p = and_parts (term_scoped sizes o.term 0 tensors) (outputs_scoped sizes tensors os) h in
    and_from (is_plain o.term) (all_plain os) (plain_scoped sizes o.term 0 tensors p.0) (plain_outputs sizes tensors os p.1)

pub free_extents : (sizes : ℕ) (ns : Extents) → extents_scoped sizes ns ≡ true → each_free ns ≡ true
free_extents sizes [] h = refl
free_extents sizes (n ∷ ns) h =
    let p = and_parts (items_scoped sizes 0 n) (extents_scoped sizes ns) h in
    and_from _ (each_free ns) (scoped_free sizes n p.0) (free_extents sizes ns p.1)

pub free_inputs : (sizes : ℕ) (ds : List InputDecl) → inputs_scoped sizes ds ≡ true → all_free (map (λ d. d.extents) ds) ≡ true
free_inputs sizes [] h = refl
free_inputs sizes (d ∷ ds) h =
    let p = and_parts (extents_scoped sizes d.extents) (inputs_scoped sizes ds) h in
    and_from (each_free d.extents) (all_free (map (λ d. d.extents) ds)) (free_extents sizes d.extents p.0) (free_inputs sizes ds p.1)

pub module_plain : (m : Module) → module_scoped m ≡ true → all_plain m.outputs ≡ true
module_plain m h = plain_outputs (length m.sizes) (length m.inputs) m.outputs (module_parts m h).1

pub module_free : (m : Module) (ts : List Extents) → ts ≡ input_shapes m → module_scoped m ≡ true → all_free ts ≡ true
module_free m ts e h = ap all_free e ∙ free_inputs (length m.sizes) m.inputs (module_parts m h).0

rest_from : (os : List OutputDecl) (i : ℕ) (o : OutputDecl) → i < length os → o ≡ get_or os i o → drop i os ≡ o ∷ drop (i + 1) os
rest_from os i o h e = drop-cons os i o h ∙ (λ k. sym e k ∷ drop (sym (add-one i) k) os)

-- one output more
pub outputs_step : (os : List OutputDecl) (ts : List Extents) (i : ℕ) (o : OutputDecl) (g0 g1 whole : List Items) → i < length os → o ≡ get_or os i o
    → g1 ≡ g0 ++ term_goals o.term ts
    → g0 ++ outputs_goals (drop i os) ts ≡ whole → g1 ++ outputs_goals (drop (i + 1) os) ts ≡ whole
outputs_step os ts i o g0 g1 whole h e q w =
    let c : drop i os ≡ o ∷ drop (i + 1) os = rest_from os i o h e in
    ap (λ g. g ++ outputs_goals (drop (i + 1) os) ts) q ∙ append_assoc g0 (term_goals o.term ts) (outputs_goals (drop (i + 1) os) ts)
    ∙ ap (λ xs. g0 ++ outputs_goals xs ts) (sym c) ∙ w

-- a fault of the outputs is one of the module
pub module_fault : (m : Module) (ts : List Extents) (fault : ShapeFault) → ts ≡ input_shapes m → All RankFits m.inputs → FailsFirst ts m.outputs fault
    → IsModuleFault m fault
module_fault m ts fault e r h = by fault (subst (λ (ts : List Extents). FailsFirst ts m.outputs fault) e h)
  where
    by : (fault : ShapeFault) → FailsFirst (input_shapes m) m.outputs fault → IsModuleFault m fault
    by (f.InputRank i) w = absurd w.4
    by (f.RankMismatch p) w = (r, w)
    by (f.ShapesDiffer p) w = (r, w)
    by (f.RankTooLarge p) w = (r, w)
    by (f.CoefficientTooLarge p) w = (r, w)
    by (f.IndexTooLong p) w = (r, w)
    by f.Memory w = tt

-- the inputs alone are in scope
pub inputs_in_scope : (m : Module) (lets bound inputs : List Extents) → lets ≡ [] → bound ≡ [] → inputs ≡ input_shapes m
    → scope (record { lets = lets; inputs = inputs }) bound ≡ input_shapes m
inputs_in_scope m lets bound inputs e f g = λ i. reverse (f i) ++ (e i ++ g i)

pub goals_are : (m : Module) (g0 g1 : List Items) (ts : List Extents) (ins : List InputDecl) (outs : List OutputDecl) → g1 ≡ g0 ++ outputs_goals outs ts
    → g0 ≡ input_goals ins → ins ≡ m.inputs → outs ≡ m.outputs
    → ts ≡ input_shapes m → g1 ≡ extent_goals m
goals_are m g0 g1 ts ins outs h e f g k = h ∙ (λ i. e i ++ outputs_goals (g i) (k i)) ∙ ap (λ ds. input_goals ds ++ outputs_goals m.outputs (input_shapes m)) f

pub plain_step : (os : List OutputDecl) (i : ℕ) (o : OutputDecl) → i < length os → o ≡ get_or os i o → all_plain (drop i os) ≡ true
    → all_plain (drop (i + 1) os) ≡ true
plain_step os i o h e p =
    (and_parts (is_plain o.term) (all_plain (drop (i + 1) os)) (sym (ap all_plain (rest_from os i o h e)) ∙ p)).1

pub shapes_hold : (m : Module) (ts : List Extents) (ins : List InputDecl) (outs : List OutputDecl) → ins ≡ m.inputs → outs ≡ m.outputs → ts ≡ input_shapes m
    → All RankFits ins → All (HasOne ts) outs → ShapesHold m
shapes_hold m ts ins outs e f g r h = record {
  ranks = subst (All RankFits) e r;
  shaped = subst (λ (ts : List Extents). All (HasOne ts) m.outputs) g (subst (All (HasOne ts)) f h);
}
