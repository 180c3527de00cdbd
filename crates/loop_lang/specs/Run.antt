-- Runs of a program, and what is counted of them.
use Rattle.std.specs.Prelude.{◌≡◌, ℕ, ◌+◌, pos, negsuc, List, [], ◌∷◌, ◌++◌, length, map}
use Rattle.loop_lang.specs.declared.stmt.Prog.{Prog}
use Rattle.loop_lang.specs.Reckoning.{Reckoned, Value, Fails, reckon}
use Rattle.loop_lang.specs.Actions.{Tree, Word, At, Sum, Difference, Product, loads, Action, Tick, Store, Trip, program_acts}
use Rattle.loop_lang.specs.Memory.{Memory, Outcome, apply}

-- a length: below 0 it counts as 0
abbrev pub length_of : Reckoned → ℕ
length_of (Value (pos n)) = n
length_of (Value (negsuc n)) = 0
length_of (Fails k) = 0

-- the length of each buffer at sizes: inputs first, then outputs, then scratch
abbrev pub lengths_at : Prog → List ℕ → List ℕ
lengths_at p s = map (λ x. length_of (reckon x s [])) p.lengths

-- a memory has the program's buffers, each with the length that the program gives at sizes
pub record IsMemoryOf (p : Prog) (s : List ℕ) (m : Memory) : Type 0 where
  pub inputs : length m.inputs ≡ p.inputs
  pub outputs : length m.outputs ≡ p.outputs
  pub scratch : length m.scratch ≡ p.scratch
  pub lengths : map length (m.inputs ++ m.outputs ++ m.scratch) ≡ lengths_at p s

-- a run at sizes, from a memory
abbrev pub run : Prog → List ℕ → Memory → Outcome
run p s m = apply (program_acts p s) m

abbrev pub products : Tree → ℕ
products (Word w) = 0
products (At b i) = 0
products (Sum a b) = products a + products b
products (Difference a b) = products a + products b
products (Product a b) = products a + products b + 1

-- the store actions alone
abbrev pub stores_of : List Action → List Action
stores_of [] = []
stores_of (Tick ∷ xs) = stores_of xs
stores_of (Store m b t i ∷ xs) = Store m b t i ∷ stores_of xs
stores_of (Trip k ls ∷ xs) = stores_of xs

-- numbers of steps (ticks and stores), stores, loads and products
pub record Counts : Type 0 where
  pub steps : ℕ
  pub stores : ℕ
  pub loads : ℕ
  pub products : ℕ

abbrev pub counts_one : Action → Counts → Counts
counts_one Tick c = record c { steps = c.steps + 1 }
counts_one (Store m b t i) c = record { steps = c.steps + 1; stores = c.stores + 1; loads = c.loads + length (loads t); products = c.products + products t }
counts_one (Trip k ls) c = c

abbrev pub counts_of : List Action → Counts
counts_of [] = record { steps = 0; stores = 0; loads = 0; products = 0 }
counts_of (x ∷ xs) = counts_one x (counts_of xs)
