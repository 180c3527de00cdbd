-- The list of actions that a statement gives, from left to right. Control depends on sizes and loop variables alone,
-- so no word of memory is needed for it.
use Rattle.std.specs.Prelude.{ℕ, zero, suc, ◌+◌, ◌^◌, ℤ, pos, negsuc, ◌+ℤ◌, unsigned_abs, List, [], ◌∷◌, ◌++◌}
use Rattle.std.specs.Int.{int_rem_euclid}
use Rattle.loop_lang.specs.declared.word.Buf.{Buf}
use Rattle.loop_lang.specs.declared.word.Wexp.{Wexp, Lit, Load, OfIndex}
use Rattle.loop_lang.specs.declared.stmt.Stmt.{Stmt}
use Rattle.loop_lang.specs.declared.stmt.Stmt.TheOpen.{Stmt-F}
use Rattle.loop_lang.specs.declared.stmt.Stmt.TheFolds.{fold-Stmt}
use Rattle.loop_lang.specs.declared.stmt.Prog.{Prog}
use Rattle.loop_lang.specs.Syntax.{word_sum, word_difference, word_product, word_choice}
use Rattle.loop_lang.specs.Reckoning.{Trouble, Reckoned, Value, Fails, checked, reckon, Verdict, Holds, IsFalse, Breaks, tested}

-- a word expression in which each index is computed and each choice made
pub data Tree : Type 0 where
  Word : ℕ → Tree
  At : Buf → ℤ → Tree
  Sum : Tree → Tree → Tree
  Difference : Tree → Tree → Tree
  Product : Tree → Tree → Tree

pub record Place : Type 0 where
  pub buffer : Buf
  pub index : ℤ

-- the loads of a tree, in the order in which they are computed
abbrev pub loads : Tree → List Place
loads (Word w) = []
loads (At b i) = record { buffer = b; index = i } ∷ []
loads (Sum a b) = loads a ++ loads b
loads (Difference a b) = loads a ++ loads b
loads (Product a b) = loads a ++ loads b

-- a tree, or a trouble and the loads that were computed before it
pub data Grown : Type 0 where
  Whole : Tree → Grown
  Broken : Trouble → List Place → Grown

-- a whole number modulo 2^64
abbrev pub word_of_index : ℤ → ℕ
word_of_index i = unsigned_abs (int_rem_euclid i (pos (2 ^ 64)))

abbrev pub grown_from : Reckoned → (ℤ → Tree) → Grown
grown_from (Value i) f = Whole (f i)
grown_from (Fails k) f = Broken k []

abbrev pub after_left : Tree → (Tree → Tree) → Grown → Grown
after_left a f (Whole b) = Whole (f b)
after_left a f (Broken k ls) = Broken k (loads a ++ ls)

-- an operator: the left operand, then the right one
abbrev pub grown_of_two : (Tree → Tree → Tree) → Grown → Grown → Grown
grown_of_two f (Whole a) y = after_left a (f a) y
grown_of_two f (Broken k ls) y = Broken k ls

abbrev pub chosen : Verdict → Grown → Grown → Grown
chosen Holds a b = a
chosen IsFalse a b = b
chosen (Breaks k) a b = Broken k []

-- the tree of a word, for sizes s and loop variables r from the outermost
abbrev pub grow : Wexp → List ℕ → List ℕ → Grown
grow (Lit w) s r = Whole (Word w)
grow (Load b i) s r = grown_from (reckon i s r) (At b)
grow (OfIndex i) s r = grown_from (reckon i s r) (λ z. Word (word_of_index z))
grow (word_sum a b) s r = grown_of_two Sum (grow a s r) (grow b s r)
grow (word_difference a b) s r = grown_of_two Difference (grow a s r) (grow b s r)
grow (word_product a b) s r = grown_of_two Product (grow a s r) (grow b s r)
grow (word_choice cs a b) s r = chosen (tested cs s r) (grow a s r) (grow b s r)

pub data Mode : Type 0 where
  Puts : Mode
  Adds : Mode

pub data Action : Type 0 where
  -- a turn of a loop or an if begins, or a store that then meets a trouble
  Tick : Action
  -- a word put or added at a place
  Store : Mode → Buf → Tree → ℤ → Action
  -- a trouble, and the loads of its store that were computed before it
  Trip : Trouble → List Place → Action

-- one list after another, where nothing follows a trouble
abbrev pub then_follow : List Action → List Action → List Action
then_follow [] ys = ys
then_follow (Tick ∷ xs) ys = Tick ∷ then_follow xs ys
then_follow (Store m b t i ∷ xs) ys = Store m b t i ∷ then_follow xs ys
then_follow (Trip k ls ∷ xs) ys = Trip k ls ∷ []

-- n turns from turn i on
abbrev pub turns : ℕ → ℕ → (ℕ → List Action) → List Action
turns i zero f = []
turns i (suc n) f = Tick ∷ then_follow (f i) (turns (i + 1) n f)

-- a turn for each number below the bound
abbrev pub turns_below : Reckoned → (ℕ → List Action) → List Action
turns_below (Value (pos n)) f = turns 0 n f
turns_below (Value (negsuc n)) f = []
turns_below (Fails k) f = Trip k [] ∷ []

abbrev pub if_holds : Verdict → List Action → List Action
if_holds Holds xs = Tick ∷ xs
if_holds IsFalse xs = Tick ∷ []
if_holds (Breaks k) xs = Tick ∷ Trip k [] ∷ []

abbrev pub store_at : Mode → Buf → Tree → Reckoned → List Action
store_at m b t (Value i) = Store m b t i ∷ []
store_at m b t (Fails k) = Tick ∷ Trip k (loads t) ∷ []

-- a store: the word, then the place
abbrev pub store : Mode → Buf → Grown → Reckoned → List Action
store m b (Whole t) i = store_at m b t i
store m b (Broken k ls) i = Tick ∷ Trip k ls ∷ []

-- n words put to 0, from the k-th behind a place on
abbrev pub zeroed : Buf → ℤ → ℕ → ℕ → List Action
zeroed b at k zero = []
zeroed b at k (suc n) = then_follow (store_at Puts b (Word 0) (checked (at +ℤ pos k))) (zeroed b at (k + 1) n)

-- a fill: the place, then the length
abbrev pub fill : Buf → Reckoned → Reckoned → List Action
fill b (Fails k) n = Trip k [] ∷ []
fill b (Value at) (Fails k) = Trip k [] ∷ []
fill b (Value at) (Value (negsuc n)) = []
fill b (Value at) (Value (pos n)) = zeroed b at 0 n

-- what a statement does at sizes and at loop variables from the outermost
abbrev pub Doing : Type 0
Doing = List ℕ → List ℕ → List Action

abbrev pub in_turn : List Doing → Doing
in_turn [] s r = []
in_turn (f ∷ fs) s r = then_follow (f s r) (in_turn fs s r)

-- the actions of a statement, given those of its parts
abbrev pub acts_step : Stmt-F Doing → Doing
acts_step (Stmt-F.Seq fs) s r = in_turn fs s r
acts_step (Stmt-F.For n marked f) s r = turns_below (reckon n s r) (λ i. f s (r ++ i ∷ []))
acts_step (Stmt-F.If cs f) s r = if_holds (tested cs s r) (f s r)
acts_step (Stmt-F.Put b i w) s r = store Puts b (grow w s r) (reckon i s r)
acts_step (Stmt-F.AddTo b i w) s r = store Adds b (grow w s r) (reckon i s r)
acts_step (Stmt-F.Zero b i n) s r = fill b (reckon i s r) (reckon n s r)

-- the actions of a statement
abbrev pub acts : Stmt → Doing
acts = fold-Stmt Doing acts_step

-- the same of statements one after another
abbrev pub acts_all : List Stmt → Doing
acts_all [] s r = []
acts_all (x ∷ xs) s r = then_follow (acts x s r) (acts_all xs s r)

-- the actions of a program at sizes
abbrev pub program_acts : Prog → List ℕ → List Action
program_acts p s = acts p.body s []
