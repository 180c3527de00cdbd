-- What the calls answer, from what their parts do.
use Rattle.std.proofs.Common.{◌≡◌, ℕ, zero, suc, ◌+◌, ◌<◌, ◌≤◌, ◌-◌, List, [], ◌∷◌, ◌++◌, length, get_or, take, drop, append_assoc, add-one, refl, ap, sym}
use Rattle.std.proofs.Common.{◌∙◌, subst, arith, Some, None, Ok, Err, IsOk, IfOk}
use Rattle.std.specs.Prelude.{MatchResult, Option, Result, slice_get}
use Rattle.std.specs.Option.{option_and_then, option_map}
use Rattle.shape_rules.proofs.ModuleLaws.{module_free, module_parts}
use Rattle.term_tree.specs.Counts.{node_count}
use Rattle.term_tree.specs.Modules.{IsSound, input_shapes}
use Rattle.term_tree.specs.Scope.{term_scoped}
use Rattle.term_tree.specs.Shape.{shape_of}
use Rattle.term_tree.specs.declared.term.Module.{Module}
use Rattle.term_tree.specs.declared.term.OutputDecl.{OutputDecl}
use Rattle.term_tree.specs.declared.term.Path.{Path}
use Rattle.term_tree.specs.declared.term.Term.{Term, out-Term}
use Rattle.path_focus.specs.Focus.{IsProper, focus_at, focus_of, plugged_in, way_to, with_term}
use Rattle.path_focus.specs.Frames.{Opened, Way, behind, filled, opened, plugged, refilled, way}
use Rattle.path_focus.specs.Laws.{IsLimited, IsOfWords, IsOrdered, IsThere, KeepsModule, KeepsShapes}
use Rattle.path_focus.specs.Trail.{MayGo, Reaches, filled_level, focus_by, start_of, trailed}
use Rattle.path_focus.specs.declared.place.Focus.{Focus}
use Rattle.path_focus.specs.declared.place.PathRefusal.{PathRefusal}
use Rattle.path_focus.specs.declared.place.PathRefusal.TheVariants.{Memory}
use Rattle.path_focus.specs.declared.trail.Trail.{Trail}
use Rattle.path_focus.proofs.FocusLaws.{focus_is_proper}
use Rattle.path_focus.proofs.ModuleLaws.{length-map, output_scope, plug_keeps, plug_shapes, some_at}
use Rattle.path_focus.proofs.TrailLaws.{focus_told, goes_on, opened_at, opened_filled, reached_way, steps_are}

-- the trail may go into the term of an output
pub may_start : (m : Module) → IsSound m → IsLimited m → (k : ℕ) (o : OutputDecl) → slice_get m.outputs k ≡ Some o → MayGo (start_of (input_shapes m)) o.term
may_start m sound limited k o found =
    let tensors : length (input_shapes m) ≡ length m.inputs = length-map (λ d. d.extents) m.inputs in
    let small : node_count o.term ≤ 20000 = some_at (λ (x : OutputDecl). node_count x.term ≤ 20000) m.outputs k o found limited.nodes in
    record {
      sizes = length m.sizes;
      scoped = ap (term_scoped (length m.sizes) o.term 0) tensors
          ∙ output_scope (length m.sizes) (length m.inputs) m.outputs k o found (module_parts m sound.scoped).1;
      shaped = some_at (λ (x : OutputDecl). IsOk (shape_of x.term (input_shapes m))) m.outputs k o found sound.shaped;
      free = module_free m (input_shapes m) refl sound.scoped;
      index = omega (arith, small);
      tensor = omega (arith, tensors, small, limited.inputs);
      room = omega (arith, small);
    }

-- a trail that has reached the place tells its focus
pub told_there : (m : Module) (v : Option Way) (z y : Trail) (e : Term) (f : Focus) → z ≡ start_of (input_shapes m) → Reaches v z y e → f ≡ focus_by m y e
    → option_map (focus_at m) v ≡ Some f
told_there m v z y e f s r h =
    let w = reached_way v z y e r in
    ap (option_map (focus_at m)) w.1 ∙ ap Some (sym (h ∙ focus_told m w.0 y e (w.3 ∙ ap (trailed w.0.frames) s) w.2))

pub none_there : (m : Module) (v : Option Way) → v ≡ None → option_map (focus_at m) v ≡ None
none_there m v h = ap (option_map (focus_at m)) h

-- in the term of an output, or where there is none
pub in_output : (m : Module) (p : Path) (o : OutputDecl) (r : Result Focus PathRefusal) → slice_get m.outputs p.output ≡ Some o
    → IsThere (option_map (focus_at m) (way o.term p.steps)) r → IsThere (focus_of m p) r
in_output m p o r h g = subst (λ (x : Option Focus). IsThere x r)
    (sym (ap (λ x. option_map (focus_at m) (option_and_then (λ (o : OutputDecl). way o.term p.steps) x)) h)) g

pub no_output : (m : Module) (p : Path) → slice_get m.outputs p.output ≡ None → focus_of m p ≡ None
no_output m p h = ap (λ x. option_map (focus_at m) (option_and_then (λ (o : OutputDecl). way o.term p.steps) x)) h

proper_of : (m : Module) → IsSound m → IsOrdered m → IsOfWords m → IsLimited m → (p : Path) (x : Option Way) → way_to m p ≡ x → (f : Focus)
    → option_map (focus_at m) x ≡ Some f → IsProper f
proper_of m sound ordered literals limited p (Some w) h f e =
    let q : focus_at m w ≡ f = cc in subst IsProper q (focus_is_proper m sound ordered literals limited p w h)
proper_of m sound ordered literals limited p None h f e = absurd (cc)

pub proper_there : (m : Module) (p : Path) (r : Result Focus PathRefusal) → IsSound m → IsOrdered m → IsOfWords m → IsLimited m → IsThere (focus_of m p) r
    → IfOk r IsProper
proper_there m p (Ok f) sound ordered literals limited h = proper_of m sound ordered literals limited p (way_to m p) refl f h
proper_there m p (Err e) sound ordered literals limited h = tt

-- one node more in front of a way with a new term at its end
module _ (new : Term) where
  abbrev filling : Way → Term
  filling w = refilled w.frames new

  on_filled : (o : Opened) (v : Option Way) (x y : Term) → option_map filling v ≡ Some x → y ≡ filled o.frame x
      → option_map filling (option_map (behind o.frame) v) ≡ Some y
  on_filled o (Some w) x y h g = let q : filling w ≡ x = cc in ap Some (ap (filled o.frame) q ∙ sym g)
  on_filled o None x y h g = absurd (cc)

  on_none : (o : Opened) (v : Option Way) → option_map filling v ≡ None → option_map filling (option_map (behind o.frame) v) ≡ None
  on_none o (Some w) h = absurd (cc)
  on_none o None h = refl

  pub plugged_on : (e : Term) (k : ℕ) (ks : List ℕ) (c x y : Term) → Some c ≡ option_map (λ o. o.child) (opened e k) → plugged c ks new ≡ Some x
      → y ≡ filled_level (out-Term e) k x → plugged e (k ∷ ks) new ≡ Some y
  plugged_on e k ks c x y h p f =
      let o = opened_at (opened e k) c h in
      ap (option_map filling) (goes_on e k ks o.0 o.1) ∙ on_filled o.0 (way o.0.child ks) x y (ap (λ (t : Term). plugged t ks new) o.2 ∙ p)
      (f ∙ opened_filled e k o.0 x o.1)

  pub plugged_nowhere : (e : Term) (k : ℕ) (ks : List ℕ) (c : Term) → Some c ≡ option_map (λ o. o.child) (opened e k) → plugged c ks new ≡ None
      → plugged e (k ∷ ks) new ≡ None
  plugged_nowhere e k ks c h p =
      let o = opened_at (opened e k) c h in
      ap (option_map filling) (goes_on e k ks o.0 o.1) ∙ on_none o.0 (way o.0.child ks) (ap (λ (t : Term). plugged t ks new) o.2 ∙ p)

pub plugged_steps : (new e : Term) (ls : List ℕ) (c x y : Term) → 1 ≤ length ls → Some c ≡ option_map (λ o. o.child) (opened e (get_or ls 0 0))
    → plugged c (take (length ls - 1) (drop 1 ls)) new ≡ Some x
    → y ≡ filled_level (out-Term e) (get_or ls 0 0) x → plugged e ls new ≡ Some y
plugged_steps new e ls c x y l h p f = ap (λ ks. plugged e ks new) (steps_are ls l)
    ∙ plugged_on new e (get_or ls 0 0) (take (length ls - 1) (drop 1 ls)) c x y h p f

-- what filling a node with a plugged child answers
pub filled_there : (new e : Term) (ls : List ℕ) (c x : Term) (r : Result Term PathRefusal) → 1 ≤ length ls
    → Some c ≡ option_map (λ o. o.child) (opened e (get_or ls 0 0))
    → plugged c (take (length ls - 1) (drop 1 ls)) new ≡ Some x → MatchResult r (λ y. y ≡ filled_level (out-Term e) (get_or ls 0 0) x) (λ w. w ≡ Memory)
    → IsThere (plugged e ls new) r
filled_there new e ls c x (Ok y) l h p f = plugged_steps new e ls c x y l h p f
filled_there new e ls c x (Err w) l h p f = subst (λ (w : PathRefusal). IsThere (plugged e ls new) (Err w)) (sym f) tt

-- what is told of a place that is reached
pub focus_there : (m : Module) (v : Option Way) (z y : Trail) (e : Term) (r : Result Focus PathRefusal) → z ≡ start_of (input_shapes m) → Reaches v z y e
    → MatchResult r (λ f. f ≡ focus_by m y e) (λ w. w ≡ Memory)
    → IsThere (option_map (focus_at m) v) r
focus_there m v z y e (Ok f) s g h = told_there m v z y e f s g h
focus_there m v z y e (Err w) s g h = subst (λ (w : PathRefusal). IsThere (option_map (focus_at m) v) (Err w)) (sym h) tt

-- outputs with another term, in parts
pub with_parts : (os : List OutputDecl) (k : ℕ) (d : OutputDecl) (e : Term) → k < length os → with_term os k e ≡ take k os
    ++ record (get_or os k d) { term = e } ∷ drop (suc k) os
with_parts [] k d e h = absurd (omega (arith, h))
with_parts (o ∷ os) zero d e h = refl
with_parts (o ∷ os) (suc k) d e h = ap (λ rest. o ∷ rest) (with_parts os k d e (omega (arith, h)))

pub with_joined : (os : List OutputDecl) (k : ℕ) (d : OutputDecl) (e : Term) (x : OutputDecl) (before after pushed joined : List OutputDecl) → k < length os
    → d ≡ get_or os k d → x ≡ record d { term = e }
    → before ≡ take k os → after ≡ drop (k + 1) os → pushed ≡ before ++ x ∷ [] → joined ≡ pushed ++ after → joined ≡ with_term os k e
with_joined os k d e x before after pushed joined h i c b a p j =
    j ∙ ap (λ l. l ++ after) p ∙ append_assoc before (x ∷ []) after
    ∙ (λ n. b n ++ (c ∙ ap (λ (o : OutputDecl). record o { term = e }) i) n ∷ (a ∙ ap (λ (m : ℕ). drop m os) (add-one k)) n)
    ∙ sym (with_parts os k d e h)

-- a module with a term at a place of an output
pub plugged_there : (m : Module) (p : Path) (o : OutputDecl) (new e : Term) (m' : Module) → slice_get m.outputs p.output ≡ Some o
    → plugged o.term p.steps new ≡ Some e
    → m' ≡ record m { outputs = with_term m.outputs p.output e } → plugged_in m p new ≡ Some m'
plugged_there m p o new e m' h g i =
    ap (option_and_then (λ o. option_map (λ e. record m { outputs = with_term m.outputs p.output e }) (plugged o.term p.steps new))) h
    ∙ ap (option_map (λ e. record m { outputs = with_term m.outputs p.output e })) g
    ∙ ap Some (sym i)

pub unplugged : (m : Module) (p : Path) (o : OutputDecl) (new : Term) → slice_get m.outputs p.output ≡ Some o → plugged o.term p.steps new ≡ None
    → plugged_in m p new ≡ None
unplugged m p o new h g =
    ap (option_and_then (λ o. option_map (λ e. record m { outputs = with_term m.outputs p.output e }) (plugged o.term p.steps new))) h
    ∙ ap (option_map (λ e. record m { outputs = with_term m.outputs p.output e })) g

pub unplugged_output : (m : Module) (p : Path) (new : Term) → slice_get m.outputs p.output ≡ None → plugged_in m p new ≡ None
unplugged_output m p new h = ap (option_and_then (λ o. option_map (λ e. record m { outputs = with_term m.outputs p.output e }) (plugged o.term p.steps new))) h

pub keeps_there : (m : Module) (p : Path) (new : Term) (r : Result Module PathRefusal) → IsOrdered m → IsOfWords m → IsThere (plugged_in m p new) r
    → IfOk r (KeepsModule m p new)
keeps_there m p new (Ok m') ordered literals h = λ sound w way keeps. plug_keeps m sound ordered literals p w way new keeps m' h
keeps_there m p new (Err e) ordered literals h = tt

pub shapes_there : (m : Module) (p : Path) (new : Term) (r : Result Module PathRefusal) → IsOrdered m → IsThere (plugged_in m p new) r
    → IfOk r (KeepsShapes m p new)
shapes_there m p new (Ok m') ordered h = λ sound w way keeps. plug_shapes m sound ordered p w way new keeps m' h
shapes_there m p new (Err e) ordered h = tt
