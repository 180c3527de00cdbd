-- A node opened at a child is the frame filled with that child.
use Rattle.std.proofs.Common.{◌≡◌, ℕ, List, [], ◌∷◌, refl, ap, sym, ◌∙◌, Some, None, Bool, true, false, ◌==◌, if◌then◌else◌}
use Rattle.std.specs.Prelude.{Option, IfSome}
use Rattle.std.specs.Option.{option_and_then, option_map}
use Rattle.term_tree.specs.declared.term.Term.{Term, out-Term}
use Rattle.term_tree.specs.declared.term.Term.TheOpen.{Term-F}
use Rattle.term_tree.specs.declared.term.Term.TheViews.{roll-Term, roll-out-Term}
use Rattle.term_tree.specs.declared.term.Term.TheVariants.{rolls-Index, rolls-Gen, rolls-Sum, rolls-Guard, rolls-Let, rolls-Add, rolls-Sub, rolls-Mul}
use Rattle.term_tree.specs.declared.term.Term.TheVariants.{rolls-Concat, rolls-Flatten, rolls-Split, rolls-Transpose, rolls-TruncL, rolls-TruncR, rolls-PadL}
use Rattle.term_tree.specs.declared.term.Term.TheVariants.{rolls-PadR}
use Rattle.term_tree.proofs.Forms.{Index-is, Gen-is, Sum-is, Guard-is, Let-is, Add-is, Sub-is, Mul-is, Concat-is, Flatten-is, Split-is, Transpose-is, TruncL-is}
use Rattle.term_tree.proofs.Forms.{TruncR-is, PadL-is, PadR-is}
use Rattle.path_focus.specs.Frames.{Frame, OfIndex, OfGen, OfSum, OfGuard, OfDefinition, OfBody, AddLeft, AddRight, SubLeft, SubRight, MulLeft, MulRight}
use Rattle.path_focus.specs.Frames.{ConcatLeft, ConcatRight, OfFlatten, OfSplit, OfTranspose, OfTruncL, OfTruncR, OfPadL, OfPadR}
use Rattle.path_focus.specs.Frames.{filled, Opened, opened, opened_level, Way, behind, way, refilled}

abbrev some : Frame → Term → Option Opened
some f c = Some (record { frame = f; child = c })

only : (b : Bool) (f : Frame) (c e : Term) → filled f c ≡ e → IfSome (if b then some f c else None) (λ o. filled o.frame o.child ≡ e)
only true f c e h = h
only false f c e h = tt

either : (b d : Bool) (f g : Frame) (x y e : Term) → filled f x ≡ e → filled g y ≡ e
    → IfSome (if b then some f x else (if d then some g y else None)) (λ o. filled o.frame o.child ≡ e)
either true d f g x y e h k = h
either false true f g x y e h k = k
either false false f g x y e h k = tt

-- one level filled again
level_whole : (l : Term-F Term) (k : ℕ) → IfSome (opened_level l k) (λ o. filled o.frame o.child ≡ roll-Term l)
level_whole (Term-F.Lit y) k = tt
level_whole (Term-F.TVar q) k = tt
level_whole (Term-F.WordOf x) k = tt
level_whole (Term-F.Index e x) k = only (k == 0) (OfIndex x) e (roll-Term (Term-F.Index e x)) (sym (rolls-Index e x ∙ Index-is e x))
level_whole (Term-F.Gen n e) k = only (k == 0) (OfGen n) e (roll-Term (Term-F.Gen n e)) (sym (rolls-Gen n e ∙ Gen-is n e))
level_whole (Term-F.Sum n e) k = only (k == 0) (OfSum n) e (roll-Term (Term-F.Sum n e)) (sym (rolls-Sum n e ∙ Sum-is n e))
level_whole (Term-F.Guard c e) k = only (k == 0) (OfGuard c) e (roll-Term (Term-F.Guard c e)) (sym (rolls-Guard c e ∙ Guard-is c e))
level_whole (Term-F.Flatten e) k = only (k == 0) OfFlatten e (roll-Term (Term-F.Flatten e)) (sym (rolls-Flatten e ∙ Flatten-is e))
level_whole (Term-F.Split m e) k = only (k == 0) (OfSplit m) e (roll-Term (Term-F.Split m e)) (sym (rolls-Split m e ∙ Split-is m e))
level_whole (Term-F.Transpose e) k = only (k == 0) OfTranspose e (roll-Term (Term-F.Transpose e)) (sym (rolls-Transpose e ∙ Transpose-is e))
level_whole (Term-F.TruncL n e) k = only (k == 0) (OfTruncL n) e (roll-Term (Term-F.TruncL n e)) (sym (rolls-TruncL n e ∙ TruncL-is n e))
level_whole (Term-F.TruncR n e) k = only (k == 0) (OfTruncR n) e (roll-Term (Term-F.TruncR n e)) (sym (rolls-TruncR n e ∙ TruncR-is n e))
level_whole (Term-F.PadL n e) k = only (k == 0) (OfPadL n) e (roll-Term (Term-F.PadL n e)) (sym (rolls-PadL n e ∙ PadL-is n e))
level_whole (Term-F.PadR n e) k = only (k == 0) (OfPadR n) e (roll-Term (Term-F.PadR n e)) (sym (rolls-PadR n e ∙ PadR-is n e))
level_whole (Term-F.Let a b) k = let h = sym (rolls-Let a b ∙ Let-is a b) in either (k == 0) (k == 1) (OfDefinition b) (OfBody a) a b
    (roll-Term (Term-F.Let a b)) h h
level_whole (Term-F.Add a b) k = let h = sym (rolls-Add a b ∙ Add-is a b) in either (k == 0) (k == 1) (AddLeft b) (AddRight a) a b (roll-Term (Term-F.Add a b))
    h h
level_whole (Term-F.Sub a b) k = let h = sym (rolls-Sub a b ∙ Sub-is a b) in either (k == 0) (k == 1) (SubLeft b) (SubRight a) a b (roll-Term (Term-F.Sub a b))
    h h
level_whole (Term-F.Mul a b) k = let h = sym (rolls-Mul a b ∙ Mul-is a b) in either (k == 0) (k == 1) (MulLeft b) (MulRight a) a b (roll-Term (Term-F.Mul a b))
    h h
level_whole (Term-F.Concat a b) k = let h = sym (rolls-Concat a b ∙ Concat-is a b) in either (k == 0) (k == 1) (ConcatLeft b) (ConcatRight a) a b
    (roll-Term (Term-F.Concat a b)) h h

if_same : (x : Option Opened) (a b : Term) → a ≡ b → IfSome x (λ o. filled o.frame o.child ≡ a) → IfSome x (λ o. filled o.frame o.child ≡ b)
if_same (Some o) a b e h = h ∙ e
if_same None a b e h = tt

pub opened_whole : (e : Term) (k : ℕ) → IfSome (opened e k) (λ o. filled o.frame o.child ≡ e)
opened_whole e k = if_same (opened e k) (roll-Term (out-Term e)) e (roll-out-Term e) (level_whole (out-Term e) k)

-- what holds of the child's way holds of the whole one
from_child : (o : Opened) (e : Term) → filled o.frame o.child ≡ e → (w : Option Way) → IfSome w (λ v. refilled v.frames v.term ≡ o.child)
    → IfSome (option_map (behind o.frame) w) (λ v. refilled v.frames v.term ≡ e)
from_child o e h (Some v) k = ap (filled o.frame) k ∙ h
from_child o e h None k = tt

-- a way filled with what stands at its end is the whole term
by_opened : (ks : List ℕ) → ((e : Term) → IfSome (way e ks) (λ w. refilled w.frames w.term ≡ e)) → (e : Term) (x : Option Opened)
    → IfSome x (λ o. filled o.frame o.child ≡ e)
    → IfSome (option_and_then (λ o. option_map (behind o.frame) (way o.child ks)) x) (λ w. refilled w.frames w.term ≡ e)
by_opened ks rest e (Some o) h = from_child o e h (way o.child ks) (rest o.child)
by_opened ks rest e None h = tt

pub way_whole : (ks : List ℕ) (e : Term) → IfSome (way e ks) (λ w. refilled w.frames w.term ≡ e)
way_whole [] e = refl
way_whole (k ∷ ks) e = by_opened ks (way_whole ks) e (opened e k) (opened_whole e k)
