-- Modules whose goals are shown by default lines.
use Rattle.std.specs.Prelude.{◌≡◌, List, [], ◌∷◌, map, Bool, true, ◌&&◌}
use Rattle.affine_index.specs.Normal.{is_normal}
use Rattle.affine_index.specs.declared.form.Items.{Items}
use Rattle.fact_list.specs.declared.facts.Facts.{Facts}
use Rattle.linear_cert.specs.Shown.{is_shown}
use Rattle.linear_cert.specs.declared.lines.Lines.TheVariants.{Default}
use Rattle.term_tree.specs.declared.term.Module.{Module}
use Rattle.term_tree.specs.Modules.{IsSound}
use Rattle.term_tree.specs.Shape.{Extents}

-- each form is a normal form within its limits
abbrev pub each_normal : Extents → Bool
each_normal [] = true
each_normal (n ∷ ns) = is_normal n && each_normal ns

-- the declared bounds and the assumes, outside all gens, sums and guards
abbrev pub module_facts : Module → Facts
module_facts m = record { sizes = map (λ d. record { low = d.low; high = d.high }) m.sizes; assumes = m.assumes; path = [] }

-- default lines show each goal
abbrev pub AllShown : Facts → List Items → Type 0
AllShown f [] = Unit {0}
AllShown f (g ∷ gs) = (is_shown f g Default ≡ true) × AllShown f gs

-- where default lines show each of these goals from the bounds and assumes alone, the module is sound
abbrev pub SoundByLines : Module → Extents → Type 0
SoundByLines m goals = AllShown (module_facts m) goals → IsSound m
