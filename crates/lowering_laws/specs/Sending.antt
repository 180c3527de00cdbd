-- Where the nodes around a term send tuples of indices.
use Rattle.std.specs.Prelude.{ℕ, ◌+◌, ◌-◌, List, [], ◌∷◌, get_or, None, nat_lt, if◌then◌else◌}
use Rattle.term_tree.specs.Meaning.{extent}
use Rattle.reindexer.specs.Sending.{Sending, swapped, flattened, spread, kept}
use Rattle.final_rules.specs.declared.spot.Around.{Around}
use Rattle.final_rules.specs.declared.spot.Around.TheVariants.{Loop, Swapped, Joined, Tiled, Later, Without, Before}
use Rattle.lowering_laws.specs.Scatter.{Placing, placed}

-- one more index in front
abbrev pub fixed : {A : Type 0} → ℕ → Sending A → Sending A
fixed i f ix = f (i ∷ ix)

-- the first index is moved up
abbrev pub shifted : {A : Type 0} → ℕ → Sending A → Sending A
shifted a f [] = None
shifted a f (i ∷ ix) = f ((a + i) ∷ ix)

-- the first rows are left out
abbrev pub dropped : {A : Type 0} → ℕ → Sending A → Sending A
dropped a f [] = None
dropped a f (i ∷ ix) = if nat_lt i a then None else f ((i - a) ∷ ix)

-- at sizes s and loop variables r from the outermost
module _ (s r : List ℕ) where
  -- through the nodes, from the innermost, and then on
  abbrev pub goes : {A : Type 0} → List Around → Sending A → Sending A
  goes [] f = f
  goes (Loop d ∷ fs) f = fixed (get_or r d 0) (goes fs f)
  goes (Swapped ∷ fs) f = swapped (goes fs f)
  goes (Joined m ∷ fs) f = flattened (extent m s) (goes fs f)
  goes (Tiled k ∷ fs) f = spread k (goes fs f)
  goes (Later a ∷ fs) f = shifted (extent a s) (goes fs f)
  goes (Without a ∷ fs) f = dropped (extent a s) (goes fs f)
  goes (Before m ∷ fs) f = kept (extent m s) (goes fs f)

-- to the row-order place in a buffer of extents es
abbrev pub sends : List ℕ → List ℕ → List ℕ → List Around → Placing
sends es s r fs = goes s r fs (placed 0 es)
