-- What actions do to the words of the buffers.
use Rattle.std.specs.Prelude.{ℕ, ◌+◌, ◌-◌, ◌*◌, ◌%◌, ◌^◌, ℤ, pos, negsuc, if◌then◌else◌, nat_lt, List, [], ◌∷◌, length, get_or, set}
use Rattle.loop_lang.specs.declared.word.Buf.{Buf}
use Rattle.loop_lang.specs.declared.word.Buf.TheVariants.{Input, Output, Scratch}
use Rattle.loop_lang.specs.Reckoning.{Trouble}
use Rattle.loop_lang.specs.Actions.{Tree, Word, At, Sum, Difference, Product, Place, Mode, Puts, Adds, Action, Tick, Store, Trip}

-- the words of each buffer
pub record Memory : Type 0 where
  pub inputs : List (List ℕ)
  pub outputs : List (List ℕ)
  pub scratch : List (List ℕ)

abbrev pub words : Memory → Buf → List ℕ
words m (Input k) = get_or m.inputs k []
words m (Output k) = get_or m.outputs k []
words m (Scratch k) = get_or m.scratch k []

abbrev pub with_words : Memory → Buf → List ℕ → Memory
with_words m (Input k) ws = record m { inputs = set m.inputs k ws }
with_words m (Output k) ws = record m { outputs = set m.outputs k ws }
with_words m (Scratch k) ws = record m { scratch = set m.scratch k ws }

-- why a run is stuck
pub data Cause : Type 0 where
  -- a load or store outside its buffer
  Outside : Buf → ℤ → Cause
  Met : Trouble → Cause

pub data Loaded : Type 0 where
  Found : ℕ → Loaded
  Lost : Cause → Loaded

abbrev pub load : List ℕ → Buf → ℤ → Loaded
load ws b (pos i) = if nat_lt i (length ws) then Found (get_or ws i 0) else Lost (Outside b (pos i))
load ws b (negsuc i) = Lost (Outside b (negsuc i))

abbrev pub word_of_two : (ℕ → ℕ → ℕ) → Loaded → Loaded → Loaded
word_of_two f (Found a) (Found b) = Found (f a b)
word_of_two f (Found a) (Lost c) = Lost c
word_of_two f (Lost c) y = Lost c

-- the word that a tree gives in a memory, modulo 2^64
abbrev pub word_of : Tree → Memory → Loaded
word_of (Word w) m = Found w
word_of (At b i) m = load (words m b) b i
word_of (Sum x y) m = word_of_two (λ a b. (a + b) % 2 ^ 64) (word_of x m) (word_of y m)
word_of (Difference x y) m = word_of_two (λ a b. (a + (2 ^ 64 - b)) % 2 ^ 64) (word_of x m) (word_of y m)
word_of (Product x y) m = word_of_two (λ a b. (a * b) % 2 ^ 64) (word_of x m) (word_of y m)

pub data Outcome : Type 0 where
  Ends : Memory → Outcome
  Stuck : Cause → Outcome

abbrev pub and_then : Outcome → (Memory → Outcome) → Outcome
and_then (Ends m) f = f m
and_then (Stuck c) f = Stuck c

-- a word written over the old one, or added to it modulo 2^64
abbrev pub stored : Mode → ℕ → ℕ → ℕ
stored Puts old w = w
stored Adds old w = (old + w) % 2 ^ 64

abbrev pub write : Mode → Buf → ℤ → Loaded → Memory → Outcome
write mode b i (Lost c) m = Stuck c
write mode b (negsuc i) (Found w) m = Stuck (Outside b (negsuc i))
write mode b (pos i) (Found w) m =
    if nat_lt i (length (words m b))
    then Ends (with_words m b (set (words m b) i (stored mode (get_or (words m b) i 0) w)))
    else Stuck (Outside b (pos i))

abbrev pub lost_or : Loaded → Cause → Cause
lost_or (Found w) c = c
lost_or (Lost d) c = d

-- the first of the loads that is outside its buffer, or else the trouble
abbrev pub tripped : Trouble → List Place → Memory → Cause
tripped k [] m = Met k
tripped k (p ∷ ps) m = lost_or (load (words m p.buffer) p.buffer p.index) (tripped k ps m)

abbrev pub apply_one : Action → Memory → Outcome
apply_one Tick m = Ends m
apply_one (Store mode b t i) m = write mode b i (word_of t m) m
apply_one (Trip k ls) m = Stuck (tripped k ls m)

-- the actions in order, up to the first that is stuck
abbrev pub apply : List Action → Memory → Outcome
apply [] m = Ends m
apply (x ∷ xs) m = and_then (apply_one x m) (apply xs)
