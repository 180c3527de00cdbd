-- What versions keep of a module.
use Rattle.std.proofs.Common.{◌≡◌, ◌≢◌, ℕ, zero, suc, ◌≤◌, List, [], ◌∷◌, length, map, true}
use Rattle.std.proofs.Common.{refl, ap, sym, subst, ◌∙◌, arith, Option, None, Some, Ok, Err, IsOk}
use Rattle.std.specs.Prelude.{All, slice_get}
use Rattle.std.specs.Option.{option_and_then, option_map}
use Rattle.path_focus.specs.Focus.{KeepsMeaning, KeepsShape, SameOrLimit, plugged_in, with_term}
use Rattle.path_focus.specs.Frames.{plugged}
use Rattle.path_focus.specs.Laws.{IsKept, IsLimited, IsOrdered, KeepsModule, KeepsShapes, OutputsKeep, SameExtents, ShapesKept}
use Rattle.path_focus.specs.declared.place.Focus.{Focus}
use Rattle.schedule_run.specs.Verdict.{are_shallow}
use Rattle.schedule_run.specs.Versions.{IsVersion, MayPlace, MayRun}
use Rattle.schedule_run.proofs.CountLaws.{each_few, fewer_outputs, shallow_of}
use Rattle.schedule_run.proofs.StepLaws.{Led}
use Rattle.shape_rules.specs.Faults.{ShapesHold}
use Rattle.shape_rules.specs.Meant.{input_extents}
use Rattle.source_grammar.specs.Source.{nodes}
use Rattle.term_tree.specs.Counts.{node_count}
use Rattle.term_tree.specs.Meaning.{dims}
use Rattle.term_tree.specs.Modules.{Allowed, AreInputs, input_shapes}
use Rattle.term_tree.specs.Shape.{Extents, Shaped, shape_of}
use Rattle.term_tree.specs.declared.term.Module.{Module}
use Rattle.term_tree.specs.declared.term.OutputDecl.{OutputDecl}
use Rattle.term_tree.specs.declared.term.Path.{Path}
use Rattle.term_tree.specs.declared.term.Term.{Term}

-- ---- for callers

pub nodes_each : (m : Module) → MayRun m → All (λ o. node_count o.term ≤ 20000) m.outputs
nodes_each m h = each_few m.outputs 20000 h.few

pub outputs_few : (m : Module) → MayRun m → length m.outputs ≤ 2147483647
outputs_few m h = omega (arith, fewer_outputs m.outputs, h.few)

pub may_focus : (m : Module) → MayRun m → IsLimited m
may_focus m h = record { nodes = nodes_each m h; sizes = h.sizes; inputs = h.inputs }

pub as_many : (m v : Module) → IsVersion m v → length v.outputs ≡ length m.outputs
as_many m v h = sym (mapped_length v.outputs) ∙ ap length h.names ∙ mapped_length m.outputs
  where
    mapped_length : (os : List OutputDecl) → length (map (λ (o : OutputDecl). o.name) os) ≡ length os
    mapped_length [] = refl
    mapped_length (o ∷ os) = ap suc (mapped_length os)

pub some_outputs : (m v : Module) → IsVersion m v → m.outputs ≢ [] → v.outputs ≢ []
some_outputs m v h some none = some (no_length m.outputs (sym (as_many m v h) ∙ ap length none))
  where
    no_length : (os : List OutputDecl) → length os ≡ 0 → os ≡ []
    no_length [] e = refl
    no_length (o ∷ os) e = absurd (omega (arith, e))

-- sizes that a module allows are those that its versions allow
pub allowed_after : (m v : Module) → v ≡ record m { outputs = v.outputs } → (s : List ℕ) → Allowed m s → Allowed v s
allowed_after m v h s a =
    let b : Allowed (record m { outputs = v.outputs }) s = record { within = a.within; assumed = a.assumed } in
    subst (λ (x : Module). Allowed x s) (sym h) b

pub allowed_version : (m v : Module) → IsVersion m v → (s : List ℕ) → Allowed m s → Allowed v s
allowed_version m v h = allowed_after m v h.others

-- ---- versions of versions

-- a module is a version of itself
pub first_version : (m : Module) → MayRun m → IsOrdered m → IsVersion m m
first_version m h o = record {
  others = refl;
  names = refl;
  runs = h;
  ordered = o;
  shallow = λ q. q;
  shapes = refl;
  extents = λ s a. refl;
  meaning = λ s a inputs i. refl;
}

-- a version of a version is one of the module
pub next_version : (m v n : Module) → IsVersion m v → IsVersion v n → IsVersion m n
next_version m v n h k = record {
  others = k.others ∙ ap (λ (x : Module). record x { outputs = n.outputs }) h.others;
  names = k.names ∙ h.names;
  runs = k.runs;
  ordered = k.ordered;
  shallow = λ q. k.shallow (h.shallow q);
  shapes = shapes_by (input_shapes v) (ap input_shapes h.others) k.shapes;
  extents = λ s a. by s a (input_extents v s) (ap (λ (x : Module). input_extents x s) h.others) (k.extents s (allowed_version m v h s a));
  meaning = λ s a inputs i.
      k.meaning s (allowed_version m v h s a) inputs (subst (λ ds. AreInputs ds s inputs) (sym (ap (λ (x : Module). x.inputs) h.others)) i)
      ∙ h.meaning s a inputs i;
}
  where
    shapes_by : (ts : List Extents) → ts ≡ input_shapes m
        → map (λ (o : OutputDecl). shape_of o.term ts) n.outputs ≡ map (λ (o : OutputDecl). shape_of o.term ts) v.outputs
        → map (λ (o : OutputDecl). shape_of o.term (input_shapes m)) n.outputs ≡ map (λ (o : OutputDecl). shape_of o.term (input_shapes m)) m.outputs
    shapes_by ts e q =
        subst (λ (ts : List Extents). map (λ (o : OutputDecl). shape_of o.term ts) n.outputs ≡ map (λ (o : OutputDecl). shape_of o.term ts) v.outputs) e q
        ∙ h.shapes

    by : (s : List ℕ) → Allowed m s → (ds : List (List ℕ)) → ds ≡ input_extents m s
        → map (λ (o : OutputDecl). dims o.term s ds) n.outputs ≡ map (λ (o : OutputDecl). dims o.term s ds) v.outputs → SameExtents m n s
    by s a ds e q =
        subst (λ (ds : List (List ℕ)). map (λ (o : OutputDecl). dims o.term s ds) n.outputs ≡ map (λ (o : OutputDecl). dims o.term s ds) v.outputs) e q
        ∙ h.extents s a

-- ---- a term put at a place

with_names : (os : List OutputDecl) (k : ℕ) (e : Term) → map (λ (o : OutputDecl). o.name) (with_term os k e) ≡ map (λ (o : OutputDecl). o.name) os
with_names [] k e = refl
with_names (o ∷ os) zero e = refl
with_names (o ∷ os) (suc k) e = ap (λ ns. o.name ∷ ns) (with_names os k e)

-- nothing but the outputs changes, and they keep their names
pub record Around (m n : Module) : Type 0 where
  pub others : n ≡ record m { outputs = n.outputs }
  pub names : map (λ o. o.name) n.outputs ≡ map (λ o. o.name) m.outputs

pub around : (m : Module) (p : Path) (new : Term) (n : Module) → plugged_in m p new ≡ Some n → Around m n
around m p new n h = in_output (slice_get m.outputs p.output) h
  where
    in_term : (x : Option Term) → option_map (λ (e : Term). record m { outputs = with_term m.outputs p.output e }) x ≡ Some n → Around m n
    in_term None q = absurd (cc)
    in_term (Some e) q =
        let same : record m { outputs = with_term m.outputs p.output e } ≡ n = cc in
        record {
          others = subst (λ (x : Module). x ≡ record m { outputs = x.outputs }) same refl;
          names = subst (λ (x : Module). map (λ o. o.name) x.outputs ≡ map (λ o. o.name) m.outputs) same (with_names m.outputs p.output e);
        }

    in_output : (x : Option OutputDecl)
        → option_and_then (λ (o : OutputDecl). option_map (λ e. record m { outputs = with_term m.outputs p.output e }) (plugged o.term p.steps new)) x ≡ Some n
        → Around m n
    in_output None q = absurd (cc)
    in_output (Some o) q = in_term (plugged o.term p.steps new) q

same_shape : (x y : Shaped) → SameOrLimit x y → IsOk y → y ≡ x
same_shape x (Ok ns) h k = sym h
same_shape x (Err e) h k = absurd (cc)

-- where the outputs have shapes, these are those of before
kept_shapes : (ts : List Extents) (os ns : List OutputDecl) → OutputsKeep ts os ns → All (λ (o : OutputDecl). IsOk (shape_of o.term ts)) ns
    → map (λ (o : OutputDecl). shape_of o.term ts) ns ≡ map (λ (o : OutputDecl). shape_of o.term ts) os
kept_shapes ts [] [] h k = refl
kept_shapes ts [] (n ∷ ns) h k = absurd h
kept_shapes ts (o ∷ os) [] h k = absurd h
kept_shapes ts (o ∷ os) (n ∷ ns) h k =
    ap (λ x. x ∷ map (λ (o : OutputDecl). shape_of o.term ts) ns) (same_shape (shape_of o.term ts) (shape_of n.term ts) h.0 (k zero n (omega arith)))
    ∙ ap (λ xs. shape_of o.term ts ∷ xs) (kept_shapes ts os ns h.1 (λ i d q. k (suc i) d (omega (arith, q))))

-- the module with a term that keeps the meaning is a version, where it is within the limits
pub placed_version : (m : Module) (p : Path) (new : Term) (n : Module) → MayRun m → plugged_in m p new ≡ Some n → IsKept m n → ShapesKept m n
    → IsOrdered n → nodes n.outputs ≤ 20000 → are_shallow n.outputs ≡ true → ShapesHold n → IsVersion m n
placed_version m p new n may h kept same ordered few shallow shapes =
    let a = around m p new n h in
    record {
      others = a.others;
      names = a.names;
      runs = record {
        sound = kept.sound shapes;
        few = few;
        sizes = subst (λ (k : ℕ). k ≤ 2147483647) (sym (ap (λ (x : Module). length x.sizes) a.others)) may.sizes;
        inputs = subst (λ (k : ℕ). k ≤ 2147483647) (sym (ap (λ (x : Module). length x.inputs) a.others)) may.inputs;
      };
      ordered = ordered;
      shallow = λ q. shallow_of n.outputs shallow;
      shapes = kept_shapes (input_shapes m) m.outputs n.outputs same.outputs
          (subst (λ (ts : List Extents). All (λ (o : OutputDecl). IsOk (shape_of o.term ts)) n.outputs) (ap input_shapes a.others) shapes.shaped);
      extents = kept.extents;
      meaning = kept.meaning;
    }

pub inputs_after : (m : Module) (p : Path) (new : Term) (n : Module) → MayRun m → plugged_in m p new ≡ Some n → length n.inputs ≤ 2147483647
inputs_after m p new n may h = subst (λ (k : ℕ). k ≤ 2147483647) (sym (ap (λ (x : Module). length x.inputs) (around m p new n h).others)) may.inputs

-- what keeps the meaning at a focus may be put at its place
pub may_place : (m : Module) (p : Path) (f : Focus) (new : Term) → Led m p f → KeepsMeaning f new → KeepsShape f new → MayPlace m p new
may_place m p f new l k h = record {
  leads = l.leads;
  there = l.there;
  keeps = subst (λ (f : Focus). KeepsMeaning f new) (sym l.same) k;
  shape = subst (λ (f : Focus). KeepsShape f new) (sym l.same) h;
}

pub kept_there : (m : Module) (p : Path) (new : Term) (n : Module) → MayRun m → MayPlace m p new → KeepsModule m p new n → IsKept m n
kept_there m p new n may place keeps = keeps may.sound place.leads place.there place.keeps

pub shapes_there : (m : Module) (p : Path) (new : Term) (n : Module) → MayRun m → MayPlace m p new → KeepsShapes m p new n → ShapesKept m n
shapes_there m p new n may place keeps = keeps may.sound place.leads place.there place.shape
