-- Frames seen from under one more loop.
use Rattle.std.specs.Prelude.{◌≡◌, ℕ, List, [], ◌∷◌, Bool, true, ◌&&◌}
use Rattle.affine_index.specs.Normal.{is_normal}
use Rattle.affine_index.specs.Put.{shifted}
use Rattle.reindexer.specs.Sending.{Sending, sent}
use Rattle.reindexer.specs.declared.frame.Frame.{Frame}
use Rattle.reindexer.specs.declared.frame.Frame.TheVariants.{Fix}

-- each variable of an index has one number more
abbrev pub lifted_frame : Frame → Frame
lifted_frame (Fix x) = Fix (shifted 0 1 x)
lifted_frame f = f

abbrev pub lifted : List Frame → List Frame
lifted [] = []
lifted (f ∷ fs) = lifted_frame f ∷ lifted fs

-- the index of each Fix is a normal form
abbrev pub fixes_normal : List Frame → Bool
fixes_normal [] = true
fixes_normal (Fix x ∷ fs) = is_normal x && fixes_normal fs
fixes_normal (f ∷ fs) = fixes_normal fs

-- whether tuples go to tuples or to places
abbrev pub LiftedSend : Type 0 → Type 0
LiftedSend A =
    (s v : List ℕ) (i : ℕ) (fs : List Frame) (f : Sending A) → fixes_normal fs ≡ true
    → sent s (i ∷ v) (lifted fs) f ≡ sent s v fs f

abbrev pub LiftedFramesSendAlike : Type 0
LiftedFramesSendAlike = LiftedSend (List ℕ) × LiftedSend ℕ
