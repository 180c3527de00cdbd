-- Shapes that are there.
use Rattle.std.proofs.Common.{◌≡◌, refl, sym, subst, Ok, Err, IsOk}
use Rattle.rule_parts.proofs.Replacing.{never}
use Rattle.term_tree.specs.Shape.{Extents, Shaped}

-- a shape of these extents
abbrev pub IsShape : Shaped → Extents → Type 0
IsShape z ns = z ≡ Ok ns

-- a shape that is there
pub is_there : (z : Shaped) → IsOk z → (ns : Extents) × (z ≡ Ok ns)
is_there (Ok ns) h = (ns, refl)
is_there (Err m) h = absurd (never h)

pub there : (z : Shaped) (ns : Extents) → z ≡ Ok ns → IsOk z
there z ns h = subst IsOk (sym h) refl
