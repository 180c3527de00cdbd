-- The code's way down to a place and back, level by level, is that of the definitions.
use Rattle.std.proofs.Common.{◌≡◌, ℕ, suc, ◌+◌, ◌≤◌, ◌-◌, List, [], ◌∷◌, ◌++◌, length, get_or, take, drop, append_assoc, refl, ap, sym, ◌∙◌, subst}
use Rattle.std.proofs.Common.{arith, add-one, Some, None, Err, IsOk, Bool, true, false, ◌==◌, if◌then◌else◌}
use Rattle.std.specs.Prelude.{Option, IfSome, map}
use Rattle.std.proofs.lemmas.List.{append-nil}
use Rattle.std.specs.Option.{option_and_then, option_map}
use Rattle.affine_index.specs.Normal.{is_normal}
use Rattle.binders.specs.Answers.{IsWithinLimits, NeverRefuses, no_refusals}
use Rattle.binders.specs.Maps.{mapped}
use Rattle.binders.specs.PlainMaps.{shift_map}
use Rattle.binders.specs.declared.refusal.MapRefusal.{MapRefusal}
use Rattle.binders.specs.declared.refusal.MapRefusal.TheVariants as refusal
use Rattle.binders.proofs.ReachLaws.{shift_within}
use Rattle.binders.proofs.ShiftLaws.{shift-fits, shift-short}
use Rattle.fact_list.specs.Facts.{binders}
use Rattle.shape_rules.specs.Scopes.{all_free, given}
use Rattle.term_tree.specs.Counts.{node_count}
use Rattle.term_tree.specs.Limits.{every_form}
use Rattle.term_tree.specs.Modules.{input_shapes}
use Rattle.term_tree.specs.Scope.{term_scoped}
use Rattle.term_tree.specs.Shape.{Extents, shape_of}
use Rattle.term_tree.specs.Syntax.{let_in}
use Rattle.term_tree.specs.declared.term.Module.{Module}
use Rattle.term_tree.specs.declared.term.Term.{Term, out-Term}
use Rattle.term_tree.specs.declared.term.Term.TheOpen.{Term-F}
use Rattle.term_tree.specs.declared.term.Term.TheViews.{roll-Term, roll-out-Term}
use Rattle.term_tree.specs.declared.term.Term.TheVariants.{rolls-Let}
use Rattle.term_tree.specs.declared.term.Term.TheVariants as variant
use Rattle.term_tree.proofs.Forms.{Index-is, Gen-is, Sum-is, Guard-is, Let-is, Add-is, Sub-is, Mul-is, Concat-is, Flatten-is, Split-is, Transpose-is, TruncL-is}
use Rattle.term_tree.proofs.Forms.{TruncR-is, PadL-is, PadR-is}
use Rattle.path_focus.specs.Frames.{Frame, OfIndex, OfGen, OfSum, OfGuard, OfDefinition, OfBody, AddLeft, AddRight, SubLeft, SubRight, MulLeft, MulRight}
use Rattle.path_focus.specs.Frames.{ConcatLeft, ConcatRight, OfFlatten, OfSplit, OfTranspose, OfTruncL, OfTruncR, OfPadL, OfPadR}
use Rattle.path_focus.specs.Frames.{filled, Opened, opened, opened_level, Way, behind, way, refilled}
use Rattle.path_focus.specs.Places.{Around, Definition, at_end, below, moved_lets, no_way, under_index}
use Rattle.path_focus.specs.Trail.{MayEnter, MayGo, MayLeave, Reaches, entered, entered_level, filled_level, focus_by, left, left_level}
use Rattle.path_focus.specs.Trail.{moved_let, start_of, trailed}
use Rattle.path_focus.specs.Focus.{focus_at}
use Rattle.path_focus.specs.declared.trail.Trail.{Trail}
use Rattle.path_focus.proofs.ChildLaws.{child_scoped, child_shaped, tensors_in, vars_in}
use Rattle.path_focus.proofs.CountLaws.{child_fewer, depth_nodes, way_fewer}
use Rattle.path_focus.proofs.EndLaws.{below_binders, below_shapes, shapes_count}
use Rattle.path_focus.proofs.ModuleLaws.{has_shape}
use Rattle.path_focus.proofs.MovedLaws.{moved_count}
use Rattle.path_focus.proofs.ProperLaws.{free_child}
use Rattle.path_focus.proofs.WayLaws.{opened_whole, way_whole}

abbrev some : Frame → Term → Option Opened
some f c = Some (record { frame = f; child = c })

-- what holds of a level opened at its one child, or at either of two
only : (P : Opened → Type 0) (b : Bool) (f : Frame) (c : Term) → P (record { frame = f; child = c }) → IfSome (if b then some f c else None) P
only P true f c h = h
only P false f c h = tt

module _ (z : Trail) where
  -- the definition of a let is entered as it is, its body with the let
  let_entered : (b d : Bool) (x y : Term) (u : Trail) → u ≡ entered (OfBody x) z
      → IfSome (if b then some (OfDefinition y) x else (if d then some (OfBody x) y else None)) (λ o. (if b then z else u) ≡ entered o.frame z)
  let_entered true d x y u h = refl
  let_entered false true x y u h = h
  let_entered false false x y u h = tt

  let_left : (b d : Bool) (x y : Term) (u : Trail) → u ≡ left (OfBody x) z
      → IfSome (if b then some (OfDefinition y) x else (if d then some (OfBody x) y else None)) (λ o. (if b then z else u) ≡ left o.frame z)
  let_left true d x y u h = refl
  let_left false true x y u h = h
  let_left false false x y u h = tt

  either : (P : Opened → Type 0) (b d : Bool) (f g : Frame) (x y : Term) → P (record { frame = f; child = x }) → P (record { frame = g; child = y })
      → IfSome (if b then some f x else (if d then some g y else None)) P
  either P true d f g x y h k = h
  either P false true f g x y h k = k
  either P false false f g x y h k = tt

  level_entered : (l : Term-F Term) (k : ℕ) → IfSome (opened_level l k) (λ o. entered_level l k z ≡ entered o.frame z)
  level_entered (Term-F.Lit w) k = tt
  level_entered (Term-F.TVar q) k = tt
  level_entered (Term-F.WordOf x) k = tt
  level_entered (Term-F.Index e x) k = only (λ o. entered_level (Term-F.Index e x) k z ≡ entered o.frame z) (k == 0) (OfIndex x) e refl
  level_entered (Term-F.Gen n e) k = only (λ o. entered_level (Term-F.Gen n e) k z ≡ entered o.frame z) (k == 0) (OfGen n) e refl
  level_entered (Term-F.Sum n e) k = only (λ o. entered_level (Term-F.Sum n e) k z ≡ entered o.frame z) (k == 0) (OfSum n) e refl
  level_entered (Term-F.Guard c e) k = only (λ o. entered_level (Term-F.Guard c e) k z ≡ entered o.frame z) (k == 0) (OfGuard c) e refl
  level_entered (Term-F.Flatten e) k = only (λ o. entered_level (Term-F.Flatten e) k z ≡ entered o.frame z) (k == 0) OfFlatten e refl
  level_entered (Term-F.Split m e) k = only (λ o. entered_level (Term-F.Split m e) k z ≡ entered o.frame z) (k == 0) (OfSplit m) e refl
  level_entered (Term-F.Transpose e) k = only (λ o. entered_level (Term-F.Transpose e) k z ≡ entered o.frame z) (k == 0) OfTranspose e refl
  level_entered (Term-F.TruncL n e) k = only (λ o. entered_level (Term-F.TruncL n e) k z ≡ entered o.frame z) (k == 0) (OfTruncL n) e refl
  level_entered (Term-F.TruncR n e) k = only (λ o. entered_level (Term-F.TruncR n e) k z ≡ entered o.frame z) (k == 0) (OfTruncR n) e refl
  level_entered (Term-F.PadL n e) k = only (λ o. entered_level (Term-F.PadL n e) k z ≡ entered o.frame z) (k == 0) (OfPadL n) e refl
  level_entered (Term-F.PadR n e) k = only (λ o. entered_level (Term-F.PadR n e) k z ≡ entered o.frame z) (k == 0) (OfPadR n) e refl
  level_entered (Term-F.Let a b) k = let_entered (k == 0) (k == 1) a b (entered (OfBody a) z) refl
  level_entered (Term-F.Add a b) k = either (λ o. z ≡ entered o.frame z) (k == 0) (k == 1) (AddLeft b) (AddRight a) a b refl refl
  level_entered (Term-F.Sub a b) k = either (λ o. z ≡ entered o.frame z) (k == 0) (k == 1) (SubLeft b) (SubRight a) a b refl refl
  level_entered (Term-F.Mul a b) k = either (λ o. z ≡ entered o.frame z) (k == 0) (k == 1) (MulLeft b) (MulRight a) a b refl refl
  level_entered (Term-F.Concat a b) k = either (λ o. z ≡ entered o.frame z) (k == 0) (k == 1) (ConcatLeft b) (ConcatRight a) a b refl refl

  level_left : (l : Term-F Term) (k : ℕ) → IfSome (opened_level l k) (λ o. left_level l k z ≡ left o.frame z)
  level_left (Term-F.Lit w) k = tt
  level_left (Term-F.TVar q) k = tt
  level_left (Term-F.WordOf x) k = tt
  level_left (Term-F.Index e x) k = only (λ o. left_level (Term-F.Index e x) k z ≡ left o.frame z) (k == 0) (OfIndex x) e refl
  level_left (Term-F.Gen n e) k = only (λ o. left_level (Term-F.Gen n e) k z ≡ left o.frame z) (k == 0) (OfGen n) e refl
  level_left (Term-F.Sum n e) k = only (λ o. left_level (Term-F.Sum n e) k z ≡ left o.frame z) (k == 0) (OfSum n) e refl
  level_left (Term-F.Guard c e) k = only (λ o. left_level (Term-F.Guard c e) k z ≡ left o.frame z) (k == 0) (OfGuard c) e refl
  level_left (Term-F.Flatten e) k = only (λ o. left_level (Term-F.Flatten e) k z ≡ left o.frame z) (k == 0) OfFlatten e refl
  level_left (Term-F.Split m e) k = only (λ o. left_level (Term-F.Split m e) k z ≡ left o.frame z) (k == 0) (OfSplit m) e refl
  level_left (Term-F.Transpose e) k = only (λ o. left_level (Term-F.Transpose e) k z ≡ left o.frame z) (k == 0) OfTranspose e refl
  level_left (Term-F.TruncL n e) k = only (λ o. left_level (Term-F.TruncL n e) k z ≡ left o.frame z) (k == 0) (OfTruncL n) e refl
  level_left (Term-F.TruncR n e) k = only (λ o. left_level (Term-F.TruncR n e) k z ≡ left o.frame z) (k == 0) (OfTruncR n) e refl
  level_left (Term-F.PadL n e) k = only (λ o. left_level (Term-F.PadL n e) k z ≡ left o.frame z) (k == 0) (OfPadL n) e refl
  level_left (Term-F.PadR n e) k = only (λ o. left_level (Term-F.PadR n e) k z ≡ left o.frame z) (k == 0) (OfPadR n) e refl
  level_left (Term-F.Let a b) k = let_left (k == 0) (k == 1) a b (left (OfBody a) z) refl
  level_left (Term-F.Add a b) k = either (λ o. z ≡ left o.frame z) (k == 0) (k == 1) (AddLeft b) (AddRight a) a b refl refl
  level_left (Term-F.Sub a b) k = either (λ o. z ≡ left o.frame z) (k == 0) (k == 1) (SubLeft b) (SubRight a) a b refl refl
  level_left (Term-F.Mul a b) k = either (λ o. z ≡ left o.frame z) (k == 0) (k == 1) (MulLeft b) (MulRight a) a b refl refl
  level_left (Term-F.Concat a b) k = either (λ o. z ≡ left o.frame z) (k == 0) (k == 1) (ConcatLeft b) (ConcatRight a) a b refl refl

two_filled : (make : Term → Term → Term) (b d : Bool) (f g : Frame) (x y new : Term) → make new y ≡ filled f new → make x new ≡ filled g new
    → IfSome (if b then some f x else (if d then some g y else None)) (λ o. make (if b then new else x) (if b then y else new) ≡ filled o.frame new)
two_filled make true d f g x y new h k = h
two_filled make false true f g x y new h k = k
two_filled make false false f g x y new h k = tt

level_filled : (l : Term-F Term) (k : ℕ) (new : Term) → IfSome (opened_level l k) (λ o. filled_level l k new ≡ filled o.frame new)
level_filled (Term-F.Lit w) k new = tt
level_filled (Term-F.TVar q) k new = tt
level_filled (Term-F.WordOf x) k new = tt
level_filled (Term-F.Index e x) k new = only (λ o. filled_level (Term-F.Index e x) k new ≡ filled o.frame new) (k == 0) (OfIndex x) e (Index-is new x)
level_filled (Term-F.Gen n e) k new = only (λ o. filled_level (Term-F.Gen n e) k new ≡ filled o.frame new) (k == 0) (OfGen n) e (Gen-is n new)
level_filled (Term-F.Sum n e) k new = only (λ o. filled_level (Term-F.Sum n e) k new ≡ filled o.frame new) (k == 0) (OfSum n) e (Sum-is n new)
level_filled (Term-F.Guard c e) k new = only (λ o. filled_level (Term-F.Guard c e) k new ≡ filled o.frame new) (k == 0) (OfGuard c) e (Guard-is c new)
level_filled (Term-F.Flatten e) k new = only (λ o. filled_level (Term-F.Flatten e) k new ≡ filled o.frame new) (k == 0) OfFlatten e (Flatten-is new)
level_filled (Term-F.Split m e) k new = only (λ o. filled_level (Term-F.Split m e) k new ≡ filled o.frame new) (k == 0) (OfSplit m) e (Split-is m new)
level_filled (Term-F.Transpose e) k new = only (λ o. filled_level (Term-F.Transpose e) k new ≡ filled o.frame new) (k == 0) OfTranspose e (Transpose-is new)
level_filled (Term-F.TruncL n e) k new = only (λ o. filled_level (Term-F.TruncL n e) k new ≡ filled o.frame new) (k == 0) (OfTruncL n) e (TruncL-is n new)
level_filled (Term-F.TruncR n e) k new = only (λ o. filled_level (Term-F.TruncR n e) k new ≡ filled o.frame new) (k == 0) (OfTruncR n) e (TruncR-is n new)
level_filled (Term-F.PadL n e) k new = only (λ o. filled_level (Term-F.PadL n e) k new ≡ filled o.frame new) (k == 0) (OfPadL n) e (PadL-is n new)
level_filled (Term-F.PadR n e) k new = only (λ o. filled_level (Term-F.PadR n e) k new ≡ filled o.frame new) (k == 0) (OfPadR n) e (PadR-is n new)
level_filled (Term-F.Let a b) k new = two_filled variant.Let (k == 0) (k == 1) (OfDefinition b) (OfBody a) a b new (Let-is new b) (Let-is a new)
level_filled (Term-F.Add a b) k new = two_filled variant.Add (k == 0) (k == 1) (AddLeft b) (AddRight a) a b new (Add-is new b) (Add-is a new)
level_filled (Term-F.Sub a b) k new = two_filled variant.Sub (k == 0) (k == 1) (SubLeft b) (SubRight a) a b new (Sub-is new b) (Sub-is a new)
level_filled (Term-F.Mul a b) k new = two_filled variant.Mul (k == 0) (k == 1) (MulLeft b) (MulRight a) a b new (Mul-is new b) (Mul-is a new)
level_filled (Term-F.Concat a b) k new = two_filled variant.Concat (k == 0) (k == 1) (ConcatLeft b) (ConcatRight a) a b new (Concat-is new b) (Concat-is a new)

-- of a node opened at a child
at_opened : (P : Opened → Type 0) (x : Option Opened) (o : Opened) → x ≡ Some o → IfSome x P → P o
at_opened P (Some p) o e h = let q : p ≡ o = cc in subst P q h
at_opened P None o e h = absurd (cc)

pub opened_entered : (e : Term) (k : ℕ) (o : Opened) (z : Trail) → opened e k ≡ Some o → entered_level (out-Term e) k z ≡ entered o.frame z
opened_entered e k o z h = at_opened (λ p. entered_level (out-Term e) k z ≡ entered p.frame z) (opened e k) o h (level_entered z (out-Term e) k)

pub opened_left : (e : Term) (k : ℕ) (o : Opened) (z : Trail) → opened e k ≡ Some o → left_level (out-Term e) k z ≡ left o.frame z
opened_left e k o z h = at_opened (λ p. left_level (out-Term e) k z ≡ left p.frame z) (opened e k) o h (level_left z (out-Term e) k)

pub opened_filled : (e : Term) (k : ℕ) (o : Opened) (new : Term) → opened e k ≡ Some o → filled_level (out-Term e) k new ≡ filled o.frame new
opened_filled e k o new h = at_opened (λ p. filled_level (out-Term e) k new ≡ filled p.frame new) (opened e k) o h (level_filled (out-Term e) k new)

pub opened_is : (e : Term) (k : ℕ) (o : Opened) → opened e k ≡ Some o → filled o.frame o.child ≡ e
opened_is e k o h = at_opened (λ p. filled p.frame p.child ≡ e) (opened e k) o h (opened_whole e k)

pub way_is : (ks : List ℕ) (e : Term) (w : Way) → way e ks ≡ Some w → refilled w.frames w.term ≡ e
way_is ks e w h = by (way e ks) h (way_whole ks e)
  where
    by : (x : Option Way) → x ≡ Some w → IfSome x (λ v. refilled v.frames v.term ≡ e) → refilled w.frames w.term ≡ e
    by (Some v) q k = let r : v ≡ w = cc in subst (λ (v : Way). refilled v.frames v.term ≡ e) r k
    by None q k = absurd (cc)

-- what a level asks on the way down and back, of a trail that may go into the term
module _ (z : Trail) where
  level_may_enter : (l : Term-F Term) → MayGo z (roll-Term l) → MayEnter l z
  level_may_enter (Term-F.Let a b) h =
      let g : MayGo z (let_in a b) = subst (MayGo z) (rolls-Let a b ∙ Let-is a b) h in
      let ts = given z.shapes in
      let s = has_shape (shape_of (let_in a b) ts) g.shaped in
      let c = child_scoped g.sizes b (OfBody a) (binders z.path) (length ts) g.scoped in
      let d = child_shaped b ts (OfBody a) s.0 s.1 in
      record {
        scoped = (g.sizes, binders z.path, c.1);
        free = g.free;
        shaped = subst IsOk (sym d.1.1) refl;
      }
  level_may_enter _ h = tt

  pub may_enter : (e : Term) → MayGo z e → MayEnter (out-Term e) z
  may_enter e h = level_may_enter (out-Term e) (subst (MayGo z) (sym (roll-out-Term e)) h)

  level_may_leave : (l : Term-F Term) (y : Trail) → y.over + length y.bound ≤ 20000 → MayGo z (roll-Term l) → MayLeave l y
  level_may_leave (Term-F.Gen n e) y k h = omega (arith, k)
  level_may_leave (Term-F.Sum n e) y k h = omega (arith, k)
  level_may_leave (Term-F.Let a b) y k h =
      let g : MayGo z (let_in a b) = subst (MayGo z) (rolls-Let a b ∙ Let-is a b) h in
      let c = child_scoped g.sizes b (OfBody a) (binders z.path) (length (given z.shapes)) g.scoped in
      let few : node_count a ≤ 20000 = omega (arith, g.index) in
      let d = depth_nodes a in
      record {
        over = omega (arith, k);
        lets = omega (arith, k);
        deep = omega (arith, d, few);
        small = few;
        within = shift_within y.over (length y.bound + 1) g.sizes (binders z.path) (length (given z.shapes)) a (omega (arith, k, d, g.index))
            (omega (arith, k, d, g.tensor)) c.1;
      }
  level_may_leave _ y k h = tt

  pub may_leave : (e : Term) (y : Trail) → y.over + length y.bound ≤ 20000 → MayGo z e → MayLeave (out-Term e) y
  may_leave e y k h = level_may_leave (out-Term e) y k (subst (MayGo z) (sym (roll-out-Term e)) h)

one_more : {A : Type 0} (xs : List A) (x : A) → length (xs ++ x ∷ []) ≡ suc (length xs)
one_more [] x = refl
one_more (y ∷ xs) x = ap suc (one_more xs x)

-- a trail as what surrounds a place
abbrev pub as_around : Trail → List Definition → Around
as_around z ds = record { path = z.path; lets = z.shapes.lets; definitions = ds }

pub entered_inputs : (f : Frame) (z : Trail) → (entered f z).shapes.inputs ≡ z.shapes.inputs
entered_inputs (OfGen n) z = refl
entered_inputs (OfSum n) z = refl
entered_inputs (OfGuard c) z = refl
entered_inputs (OfBody a) z = refl
entered_inputs _ z = refl

pub entered_below : (f : Frame) (z : Trail) (ds : List Definition)
    → as_around (entered f z) (below z.shapes.inputs f (as_around z ds)).definitions ≡ below z.shapes.inputs f (as_around z ds)
entered_below (OfGen n) z ds = refl
entered_below (OfSum n) z ds = refl
entered_below (OfGuard c) z ds = refl
entered_below (OfBody a) z ds = refl
entered_below _ z ds = refl

entered_room : (f : Frame) (z : Trail) → ((entered f z).over ≡ z.over) × ((entered f z).bound ≡ z.bound)
entered_room (OfGen n) z = (refl, refl)
entered_room (OfSum n) z = (refl, refl)
entered_room (OfGuard c) z = (refl, refl)
entered_room (OfBody a) z = (refl, refl)
entered_room _ z = (refl, refl)

entered_given : (f : Frame) (z : Trail) → given (entered f z).shapes ≡ (below z.shapes.inputs f (as_around z [])).lets ++ z.shapes.inputs
entered_given f z = (λ i. (entered f z).shapes.lets ++ entered_inputs f z i) ∙ ap (λ a. a.lets ++ z.shapes.inputs) (entered_below f z [])

entered_path : (f : Frame) (z : Trail) → (entered f z).path ≡ (below z.shapes.inputs f (as_around z [])).path
entered_path f z = ap (λ a. a.path) (entered_below f z [])

more_vars : (f : Frame) (v : ℕ) → vars_in f v ≤ v + 1
more_vars (OfGen n) v = omega arith
more_vars (OfSum n) v = omega arith
more_vars _ v = omega arith

more_tensors : (f : Frame) (v : ℕ) → tensors_in f v ≤ v + 1
more_tensors (OfBody a) v = omega arith
more_tensors _ v = omega arith

-- the trail may go on into the child
child_may_go : (e : Term) (f : Frame) (z : Trail) → MayGo z (filled f e) → MayGo (entered f z) e
child_may_go e f z h =
    let ts = given z.shapes in
    let s = has_shape (shape_of (filled f e) ts) h.shaped in
    let c = child_scoped h.sizes e f (binders z.path) (length ts) h.scoped in
    let d = child_shaped e ts f s.0 s.1 in
    let fewer = child_fewer e f in
    let inner : given (entered f z).shapes ≡ _ = entered_given f z ∙ below_shapes z.shapes.inputs f (as_around z []) in
    let vars : binders (entered f z).path ≡ vars_in f (binders z.path) = ap binders (entered_path f z) ∙ below_binders z.shapes.inputs f (as_around z []) in
    let count : length (given (entered f z).shapes) ≡ tensors_in f (length ts) = ap length inner ∙ shapes_count f ts in
    let room = entered_room f z in
    record {
      sizes = h.sizes;
      scoped = (λ i. term_scoped h.sizes e (vars i) (count i)) ∙ c.0;
      shaped = subst IsOk (sym (ap (shape_of e) inner ∙ d.0.1)) refl;
      free = ap all_free inner ∙ free_child h.sizes 20000 (λ s. Unit {0}) f (binders z.path) (length ts) ts c.1 d.1 h.free;
      index = omega (arith, fewer, vars, more_vars f (binders z.path), h.index);
      tensor = omega (arith, fewer, count, more_tensors f (length ts), h.tensor);
      room = omega (arith, fewer, room.0, ap length room.1, h.room);
    }

pub may_go : (e : Term) (k : ℕ) (o : Opened) (z : Trail) → opened e k ≡ Some o → MayGo z e → MayGo (entered o.frame z) o.child
may_go e k o z h g = child_may_go o.child o.frame z (subst (MayGo z) (sym (opened_is e k o h)) g)

-- the numbers on the way back
left_room : (f : Frame) (z : Trail) → (left f z).over + length (left f z).bound ≤ z.over + length z.bound + 1
left_room (OfGen n) z = omega arith
left_room (OfSum n) z = omega arith
left_room (OfBody a) z = let h = one_more z.bound (moved_let z a) in omega (arith, h)
left_room _ z = omega arith

trailed_room : (fs : List Frame) (z : Trail) → (trailed fs z).over + length (trailed fs z).bound ≤ z.over + length z.bound + length fs
trailed_room [] z = omega arith
trailed_room (f ∷ fs) z =
    let h = trailed_room fs (entered f z) in
    let k = left_room f (trailed fs (entered f z)) in
    let r = entered_room f z in
    omega (arith, h, k, r.0, ap length r.1)

pub way_room : (ks : List ℕ) (e : Term) (w : Way) (z : Trail) → way e ks ≡ Some w → MayGo z e
    → (trailed w.frames z).over + length (trailed w.frames z).bound ≤ 20000
way_room ks e w z h g =
    let t = trailed_room w.frames z in
    let f = way_fewer w.term w.frames in
    omega (arith, t, f, ap node_count (way_is ks e w h), g.room)

-- one node more in front of a way
pub goes_on : (e : Term) (k : ℕ) (ks : List ℕ) (o : Opened) → opened e k ≡ Some o → way e (k ∷ ks) ≡ option_map (behind o.frame) (way o.child ks)
goes_on e k ks o h = ap (option_and_then (λ o. option_map (behind o.frame) (way o.child ks))) h

pub goes_nowhere : (e : Term) (k : ℕ) (ks : List ℕ) → opened e k ≡ None → way e (k ∷ ks) ≡ None
goes_nowhere e k ks h = ap (option_and_then (λ o. option_map (behind o.frame) (way o.child ks))) h

pub reaches_on : (o : Opened) (v : Option Way) (z y : Trail) (e : Term) → Reaches v (entered o.frame z) y e
    → Reaches (option_map (behind o.frame) v) z (left o.frame y) e
reaches_on o (Some w) z y e h = (h.0, ap (left o.frame) h.1)
reaches_on o None z y e h = absurd h

pub reached_way : (v : Option Way) (z y : Trail) (e : Term) → Reaches v z y e → (w : Way) × (v ≡ Some w) × (e ≡ w.term) × (y ≡ trailed w.frames z)
reached_way (Some w) z y e h = (w, refl, h.0, h.1)
reached_way None z y e h = absurd h

-- a child that is there stands in an opened node
pub opened_at : (x : Option Opened) (e : Term) → Some e ≡ option_map (λ o. o.child) x → (o : Opened) × (x ≡ Some o) × (o.child ≡ e)
opened_at (Some o) e h = (o, refl, (let q : o.child ≡ e = cc in q))
opened_at None e h = absurd (cc)

-- the recursion of the code: on into a child, and back
pub go_on : (e : Term) (k : ℕ) (z y : Trail) (x : Term) → Some x ≡ option_map (λ o. o.child) (opened e k) → y ≡ entered_level (out-Term e) k z → MayGo z e
    → MayGo y x
go_on e k z y x h i g =
    let o = opened_at (opened e k) x h in
    subst (λ (p : Trail × Term). MayGo p.0 p.1) (λ j. (sym (i ∙ opened_entered e k o.0 z o.1) j, o.2 j)) (may_go e k o.0 z o.1 g)

pub may_return : (e : Term) (k : ℕ) (ks : List ℕ) (z y y' : Trail) (x found : Term) → Some x ≡ option_map (λ o. o.child) (opened e k)
    → y ≡ entered_level (out-Term e) k z
    → MayGo z e → Reaches (way x ks) y y' found → MayLeave (out-Term e) y'
may_return e k ks z y y' x found h i g r =
    let w = reached_way (way x ks) y y' found r in
    let room = way_room ks x w.0 y w.1 (go_on e k z y x h i g) in
    may_leave z e y' (subst (λ (u : Trail). u.over + length u.bound ≤ 20000) (sym w.3) room) g

pub reaches : (e : Term) (k : ℕ) (ks : List ℕ) (z y y' y2 : Trail) (x found : Term) → Some x ≡ option_map (λ o. o.child) (opened e k)
    → y ≡ entered_level (out-Term e) k z
    → Reaches (way x ks) y y' found → y2 ≡ left_level (out-Term e) k y' → Reaches (way e (k ∷ ks)) z y2 found
reaches e k ks z y y' y2 x found h i r l =
    let o = opened_at (opened e k) x h in
    let inside : Reaches (way o.0.child ks) (entered o.0.frame z) y' found =
    subst (λ (p : Term × Trail). Reaches (way p.0 ks) p.1 y' found) (λ j. (sym o.2 j, (i ∙ opened_entered e k o.0 z o.1) j)) r in
    subst (λ (p : Option Way × Trail). Reaches p.0 z p.1 found) (λ j. (sym (goes_on e k ks o.0 o.1) j, sym (l ∙ opened_left e k o.0 y' o.1) j))
    (reaches_on o.0 (way o.0.child ks) z y' found inside)

nothing_opened : (x : Option Opened) → None ≡ option_map (λ o. o.child) x → x ≡ None
nothing_opened (Some o) h = absurd (cc)
nothing_opened None h = refl

pub nowhere : (e : Term) (k : ℕ) (ks : List ℕ) → None ≡ option_map (λ o. o.child) (opened e k) → way e (k ∷ ks) ≡ None
nowhere e k ks h = goes_nowhere e k ks (nothing_opened (opened e k) h)

pub nowhere_on : (e : Term) (k : ℕ) (ks : List ℕ) (x : Term) → Some x ≡ option_map (λ o. o.child) (opened e k) → way x ks ≡ None → way e (k ∷ ks) ≡ None
nowhere_on e k ks x h n =
    let o = opened_at (opened e k) x h in
    goes_on e k ks o.0 o.1 ∙ ap (option_map (behind o.0.frame)) (ap (λ (y : Term). way y ks) o.2 ∙ n)

-- the definitions on the way back are those that surround the place
abbrev raised : ℕ → List Definition → List Definition
raised k [] = []
raised k (d ∷ ds) = record { term = d.term; over = d.over + k } ∷ raised k ds

raised_none : (ds : List Definition) → raised 0 ds ≡ ds
raised_none [] = refl
raised_none (d ∷ ds) = let e : d.over + 0 ≡ d.over = omega arith in λ i. record { term = d.term; over = e i } ∷ raised_none ds i

raised_under : (k : ℕ) (ds : List Definition) → raised k (under_index ds) ≡ raised (k + 1) ds
raised_under k [] = refl
raised_under k (d ∷ ds) = let e : d.over + 1 + k ≡ d.over + (k + 1) = omega arith in λ i. record { term = d.term; over = e i } ∷ raised_under k ds i

told_let : (y : Trail) (a : Term) (ds : List Definition) → y.bound
    ++ moved_lets (length y.bound) (raised y.over (record { term = a; over = 0 } ∷ ds)) ≡ (left (OfBody a) y).bound
    ++ moved_lets (length (left (OfBody a) y).bound) (raised y.over ds)
told_let y a ds =
    let n = length y.bound in
    let first : record { var = n; term = mapped (shift_map (0 + y.over) (suc n)) 0 0 a } ≡ moved_let y a =
    (let e : 0 + y.over ≡ y.over = omega arith in λ i. record { var = n; term = mapped (shift_map (e i) (sym (add-one n) i)) 0 0 a }) in
    (λ i. y.bound ++ first i ∷ moved_lets (suc n) (raised y.over ds))
    ∙ sym (append_assoc y.bound (moved_let y a ∷ []) (moved_lets (suc n) (raised y.over ds)))
    ∙ ap (λ k. (y.bound ++ moved_let y a ∷ []) ++ moved_lets k (raised y.over ds)) (sym (one_more y.bound (moved_let y a)))

told_frame : (f : Frame) (inputs : List Extents) (z y : Trail) (ds : List Definition) → y.bound
    ++ moved_lets (length y.bound) (raised y.over (below inputs f (as_around z ds)).definitions)
    ≡ (left f y).bound ++ moved_lets (length (left f y).bound) (raised (left f y).over ds)
told_frame (OfGen n) inputs z y ds = ap (λ es. y.bound ++ moved_lets (length y.bound) es) (raised_under y.over ds)
told_frame (OfSum n) inputs z y ds = ap (λ es. y.bound ++ moved_lets (length y.bound) es) (raised_under y.over ds)
told_frame (OfBody a) inputs z y ds = told_let y a ds
told_frame _ inputs z y ds = refl

trailed_lets : (fs : List Frame) (z : Trail) (ds : List Definition) → z.bound ≡ [] → z.over ≡ 0
    → moved_lets 0 (at_end z.shapes.inputs fs (as_around z ds)).definitions ≡ (trailed fs z).bound
    ++ moved_lets (length (trailed fs z).bound) (raised (trailed fs z).over ds)
trailed_lets [] z ds b o = ap (moved_lets 0) (sym (raised_none ds)) ∙ (λ i. sym b i ++ moved_lets (length (sym b i)) (raised (sym o i) ds))
trailed_lets (f ∷ fs) z ds b o =
    let y = trailed fs (entered f z) in
    let r = entered_room f z in
    let inner = below z.shapes.inputs f (as_around z ds) in
    (λ i. moved_lets 0 (at_end (sym (entered_inputs f z) i) fs (sym (entered_below f z ds) i)).definitions)
    ∙ trailed_lets fs (entered f z) inner.definitions (r.1 ∙ b) (r.0 ∙ o)
    ∙ told_frame f z.shapes.inputs z y ds

left_rest : (f : Frame) (z : Trail) → ((left f z).path ≡ z.path) × ((left f z).shapes ≡ z.shapes)
left_rest (OfGen n) z = (refl, refl)
left_rest (OfSum n) z = (refl, refl)
left_rest (OfBody a) z = (refl, refl)
left_rest _ z = (refl, refl)

-- what the way down has told is what surrounds the place
trailed_end : (fs : List Frame) (z : Trail) (ds : List Definition) → let a = at_end z.shapes.inputs fs (as_around z ds) in
    ((trailed fs z).path ≡ a.path) × ((trailed fs z).shapes ≡ record { lets = a.lets; inputs = z.shapes.inputs })
trailed_end [] z ds = (refl, refl)
trailed_end (f ∷ fs) z ds =
    let l = left_rest f (trailed fs (entered f z)) in
    let inner = below z.shapes.inputs f (as_around z ds) in
    let h = trailed_end fs (entered f z) inner.definitions in
    let same : at_end (entered f z).shapes.inputs fs (as_around (entered f z) inner.definitions) ≡ at_end z.shapes.inputs fs inner = λ i. at_end
    (entered_inputs f z i) fs (entered_below f z ds i) in
    (l.0 ∙ h.0 ∙ ap (λ (a : Around). a.path) same, l.1 ∙ h.1 ∙ (λ i. record { lets = (same i).lets; inputs = entered_inputs f z i }))

pub focus_told : (m : Module) (w : Way) (y : Trail) (e : Term) → y ≡ trailed w.frames (start_of (input_shapes m)) → e ≡ w.term
    → focus_by m y e ≡ focus_at m w
focus_told m w y e h t =
    let z = start_of (input_shapes m) in
    let p = trailed_end w.frames z [] in
    let b = trailed_lets w.frames z [] refl refl in
    let lets : (trailed w.frames z).bound ≡ moved_lets 0 (at_end (input_shapes m) w.frames no_way).definitions = sym (append-nil (trailed w.frames z).bound)
    ∙ sym b in
    λ i. record {
      facts = record { sizes = map (λ d. record { low = d.low; high = d.high }) m.sizes; assumes = m.assumes; path = (ap (λ (u : Trail). u.path) h ∙ p.0) i };
      shapes = (ap (λ (u : Trail). u.shapes) h ∙ p.1) i;
      bound = (ap (λ (u : Trail). u.bound) h ∙ lets) i;
      term = t i;
    }

pub never : NeverRefuses no_refusals
never = record { at_index = λ i j v. refl; at_tensor = λ i j q. refl }

bool_not : (b : Bool) → b ≡ true → b ≡ false → ⊥
bool_not b h k = absurd (cc)

-- a map that moves variables refuses for want of memory alone
pub moved_refusal : (a b : ℕ) (e : Term) (r : MapRefusal) → every_form is_normal e ≡ true → node_count e ≤ 20000
    → IsWithinLimits (mapped (shift_map a b) 0 0 e) (Err r) → r ≡ refusal.Memory
moved_refusal a b e refusal.CoefficientTooLarge n s h = absurd (bool_not _ (shift-fits a b e n) h)
moved_refusal a b e refusal.IndexTooLong n s h = absurd (bool_not _ (shift-short a b e n) h.1)
moved_refusal a b e refusal.NotAffine n s h = absurd h
moved_refusal a b e (refusal.TooManyNodes k) n s h = absurd (omega (arith, h.2, moved_count a b 0 0 e, s))
moved_refusal a b e refusal.Memory n s h = refl

all_taken : (ks : List ℕ) (n : ℕ) → n ≡ length ks → take n ks ≡ ks
all_taken [] n h = ap (λ m. take m []) h
all_taken (k ∷ ks) n h = ap (λ m. take m (k ∷ ks)) h ∙ ap (λ rest. k ∷ rest) (all_taken ks (length ks) refl)

-- the first step of a way, and the further ones as the code takes them
pub steps_are : (ls : List ℕ) → 1 ≤ length ls → ls ≡ get_or ls 0 0 ∷ take (length ls - 1) (drop 1 ls)
steps_are [] h = absurd (omega (arith, h))
steps_are (k ∷ ks) h = ap (λ rest. k ∷ rest) (sym (all_taken ks (suc (length ks) - 1) (omega arith)))

pub reaches_steps : (e : Term) (ls : List ℕ) (z y y' y2 : Trail) (x found : Term) → 1 ≤ length ls
    → Some x ≡ option_map (λ o. o.child) (opened e (get_or ls 0 0)) → y ≡ entered_level (out-Term e) (get_or ls 0 0) z
    → Reaches (way x (take (length ls - 1) (drop 1 ls))) y y' found → y2 ≡ left_level (out-Term e) (get_or ls 0 0) y' → Reaches (way e ls) z y2 found
reaches_steps e ls z y y' y2 x found l h i r g =
    subst (λ ks. Reaches (way e ks) z y2 found) (sym (steps_are ls l)) (reaches e (get_or ls 0 0) (take (length ls - 1) (drop 1 ls)) z y y' y2 x found h i r g)
