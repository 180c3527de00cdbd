-- The extents of inputs, how many words they have, and their tensors.
use Rattle.std.specs.Prelude.{◌≡◌, ℕ, ◌+◌, ◌-◌, ◌*◌, ◌^◌, max, min, nat_eq, Bool, List, [], ◌∷◌, length, Option, Some, None, Result, Ok, Err, if◌then◌else◌, ⊤}
use Rattle.term_tree.specs.Tensors.{Tensor}
use Rattle.word_tensors.specs.WordTensors.{AreWords, tensor_of}
use Rattle.plain_run.specs.declared.fault.PlainFault.{PlainFault}
use Rattle.plain_run.specs.declared.fault.PlainFault.TheVariants as f

-- the product of numbers, each counted as at least so much
abbrev pub product_of : ℕ → List ℕ → ℕ
product_of least [] = 1
product_of least (n ∷ ns) = max n least * product_of least ns

-- the number of words of a tensor of these extents, which ends at 2^64 - 1
abbrev pub capped_count : List ℕ → ℕ
capped_count ns = min (product_of 0 ns) (2 ^ 64 - 1)

-- these, but for this
abbrev pub found_unless : Bool → List ℕ → Option (List ℕ)
found_unless b ns = if b then None else Some ns

-- these are found where nothing is too big; else how many words the first has that is; want of memory anywhere
abbrev pub IsShaped : {A : Type 0} → Option ℕ → A → Result A PlainFault → Type 0
IsShaped big due (Ok found) = (big ≡ None) × (found ≡ due)
IsShaped big due (Err (f.TooBigToRun words)) = big ≡ Some words
IsShaped big due (Err f.Memory) = ⊤
IsShaped big due (Err other) = ⊥

-- the first of the inputs, the first of them having this number, with another number of words than this
abbrev pub wrong_count : ℕ → List ℕ → List (List ℕ) → Option PlainFault
wrong_count k [] wss = None
wrong_count k (n ∷ ns) [] = None
wrong_count k (n ∷ ns) (ws ∷ wss) = if nat_eq (length ws) n then wrong_count (k + 1) ns wss else Some (f.WrongCount k n (length ws))

-- the tensor of each of these extents with its words
abbrev pub tensors_of : List (List ℕ) → List (List ℕ) → List Tensor
tensors_of [] wss = []
tensors_of (ds ∷ dss) [] = []
tensors_of (ds ∷ dss) (ws ∷ wss) = tensor_of ds ws ∷ tensors_of dss wss

-- each of these lists is one of words
abbrev pub EachWords : List (List ℕ) → Type 0
EachWords [] = Unit {0}
EachWords (ws ∷ wss) = AreWords ws × EachWords wss
