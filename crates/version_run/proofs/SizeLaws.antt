-- Allowed sizes fit 64 signed bits.
use Rattle.std.proofs.Common.{◌≡◌, ℕ, ◌^◌, ◌<◌, ◌≤◌, Bool, true, ◌&&◌, nat_lt, List, [], ◌∷◌, refl, arith}
use Rattle.std.proofs.lemmas.Bool.{lt-ltb}
use Rattle.term_tree.specs.Modules.{IsWithin}
use Rattle.term_tree.specs.declared.term.SizeDecl.{SizeDecl}
use Rattle.loop_run.specs.Fits.{all_fit}
use Rattle.version_run.specs.VersionRun.{AreBounded}

both_true : (a b : Bool) → a ≡ true → b ≡ true → (a && b) ≡ true
both_true a b p q = cc

below : (n high most : ℕ) → n ≤ high → high < most → n < most
below n high most h l = omega arith

pub within-fit : (ds : List SizeDecl) (ns : List ℕ) → IsWithin ds ns → AreBounded ds → all_fit ns ≡ true
within-fit [] [] h b = refl
within-fit [] (n ∷ ns) h b = absurd h
within-fit (d ∷ ds) [] h b = absurd h
within-fit (d ∷ ds) (n ∷ ns) h b =
    both_true (nat_lt n (2 ^ 63)) (all_fit ns) (lt-ltb n (2 ^ 63) (below n d.high (2 ^ 63) h.1 b.0)) (within-fit ds ns h.2 b.1)
