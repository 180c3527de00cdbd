-- Which programs have a text: everything is in range, and no more than the levels of C are opened.
use Rattle.std.specs.Prelude.{◌≡◌, ◌<◌, ◌^◌, ◌+◌, ℕ, zero, suc, Bool, true, false, List, [], ◌∷◌, length}
use Rattle.loop_lang.specs.declared.index.Iexp.{Iexp, Lit, Size}
use Rattle.loop_lang.specs.declared.index.Iexp as index
use Rattle.loop_lang.specs.declared.index.Test.{Test}
use Rattle.loop_lang.specs.declared.word.Buf.{Buf}
use Rattle.loop_lang.specs.declared.word.Wexp.{Wexp}
use Rattle.loop_lang.specs.declared.stmt.Stmt.{Stmt}
use Rattle.loop_lang.specs.declared.stmt.Stmt.TheVariants as stmt
use Rattle.loop_lang.specs.declared.stmt.Prog.{Prog}
use Rattle.loop_lang.specs.declared.word.Wexp as word
use Rattle.loop_lang.specs.Form.{is_literal, is_divisor}
use Rattle.loop_lang.specs.Syntax.{index_sum, index_difference, index_product, index_quotient, index_remainder}
use Rattle.loop_lang.specs.Syntax.{index_larger, word_sum, word_difference, word_product, word_choice}
use Rattle.c_print.specs.declared.level.Level.{Level}
use Rattle.c_print.specs.declared.level.Level.TheVariants.{Choice, Sum, Product, Part}
use Rattle.c_print.specs.Level.{is_looser}
use Rattle.c_print.specs.Program.{buffers}
use Rattle.c_text.specs.Expression.{HasBuffer, Scope}
use Rattle.c_text.specs.Statement.{AddTo, Fill, Guarded, HasTarget, Loop, MayMark}
use Rattle.c_text.specs.Statement.{Put, StatementForm, either, inside_loop, max_levels, body_scope, length_scope}

-- all of a list
abbrev pub All : {A : Type 0} → (A → Type 0) → List A → Type 0
All P [] = Unit {0}
All P (x ∷ xs) = P x × All P xs

-- one level further in
abbrev pub Below : ℕ → (ℕ → Type 0) → Type 0
Below zero fits = ⊥
Below (suc levels) fits = fits levels

-- likewise, where it stands in parentheses
abbrev pub Enclosed : Bool → (ℕ → Type 0) → ℕ → Type 0
Enclosed true fits levels = Below levels fits
Enclosed false fits levels = fits levels

-- ---- how many operators stand in a chain

-- in the chain of sums, where this is the loosest that may stand
abbrev pub in_sums : Level → ℕ → ℕ
in_sums Sum n = n
in_sums place n = 0

-- in the chain of products
abbrev pub in_products : Level → ℕ → ℕ
in_products Product n = n
in_products place n = 0

abbrev pub index_chain : Level → Iexp → ℕ
index_chain place (index_sum a b) = in_sums place (index_chain Sum a + 1)
index_chain place (index_difference a b) = in_sums place (index_chain Sum a + 1)
index_chain place (index_product a b) = in_products place (index_chain Product a + 1)
index_chain place (index_quotient a n) = in_products place (index_chain Product a + 1)
index_chain place (index_remainder a n) = in_products place (index_chain Product a + 1)
index_chain place t = 0

abbrev pub word_chain : Level → Wexp → ℕ
word_chain place (word_sum a b) = in_sums place (word_chain Sum a + 1)
word_chain place (word_difference a b) = in_sums place (word_chain Sum a + 1)
word_chain place (word_product a b) = in_products place (word_chain Product a + 1)
word_chain place w = 0

-- ---- expressions

module _ (scope : Scope) where
  -- an index that stands in a place where so many levels are left
  abbrev pub IndexFits : Iexp → Level → ℕ → Type 0
  IndexFits (Lit n) place l = (is_literal n ≡ true) × (0 < l)
  IndexFits (Size n) place l = n < scope.sizes
  IndexFits (index.Loop d) place l = d < scope.loops
  IndexFits (index_sum a b) place l = Enclosed (is_looser Sum place) (λ m. IndexFits a Sum m × Below m (IndexFits b Product) × (index_chain Sum a < 1000)) l
  IndexFits (index_difference a b) place l = Enclosed (is_looser Sum place)
      (λ m. IndexFits a Sum m × Below m (IndexFits b Product) × (index_chain Sum a < 1000)) l
  IndexFits (index_product a b) place l = Enclosed (is_looser Product place)
      (λ m. IndexFits a Product m × Below m (IndexFits b Part) × (index_chain Product a < 1000)) l
  IndexFits (index_quotient a n) place l = Enclosed (is_looser Product place)
      (λ m. IndexFits a Product m × Below m (λ r. 0 < r) × (is_divisor n ≡ true) × (index_chain Product a < 1000)) l
  IndexFits (index_remainder a n) place l = Enclosed (is_looser Product place)
      (λ m. IndexFits a Product m × Below m (λ r. 0 < r) × (is_divisor n ≡ true) × (index_chain Product a < 1000)) l
  IndexFits (index_larger a b) place l = (scope.in_length ≡ true) × Below l (λ m. IndexFits a Choice m × IndexFits b Choice m)

  abbrev pub TestFits : Test → ℕ → Type 0
  TestFits c l = IndexFits c.left Sum l × IndexFits c.right Sum l

  abbrev pub EachTestFits : List Test → ℕ → Type 0
  EachTestFits [] l = Unit {0}
  EachTestFits (c ∷ cs) l = TestFits c l × EachTestFits cs l

  -- there is a test, and each fits
  abbrev pub TestsFit : List Test → ℕ → Type 0
  TestsFit cs l = (0 < length cs) × EachTestFits cs l

  -- a word that stands in a place where so many levels are left
  abbrev pub WordFits : Wexp → Level → ℕ → Type 0
  WordFits (word.Lit n) place l = (n < 2 ^ 64) × (0 < l)
  WordFits (word.Load b i) place l = HasBuffer scope b × Below l (IndexFits i Choice)
  WordFits (word.OfIndex i) place l = Below l (IndexFits i Choice)
  WordFits (word_sum a b) place l = Enclosed (is_looser Sum place) (λ m. WordFits a Sum m × Below m (WordFits b Product) × (word_chain Sum a < 1000)) l
  WordFits (word_difference a b) place l = Enclosed (is_looser Sum place) (λ m. WordFits a Sum m × Below m (WordFits b Product) × (word_chain Sum a < 1000)) l
  WordFits (word_product a b) place l = Enclosed (is_looser Product place)
      (λ m. WordFits a Product m × Below m (WordFits b Part) × (word_chain Product a < 1000)) l
  WordFits (word_choice cs a b) place l = Enclosed (is_looser Choice place) (λ m. TestsFit cs m × Below m (λ r. WordFits a Choice r × WordFits b Choice r)) l

-- ---- statements

-- where a loop stands, three levels are opened by its header, one by its bound's place, one by its block
pub record ForFits (below : Scope → Bool → Stmt → Type 0) (l : ℕ) (scope : Scope) (marked : Bool) (s : Stmt) : Type 0 where
  pub bound : Iexp
  pub mark : Bool
  pub body : List Stmt
  pub is : s ≡ stmt.For bound mark (stmt.Seq body)
  pub deep : 2 < l
  pub may_mark : MayMark mark marked
  pub bound_fits : Below l (IndexFits scope bound Choice)
  pub body_fits : All (below (inside_loop scope) (either mark marked)) body

pub record IfFits (below : Scope → Bool → Stmt → Type 0) (l : ℕ) (scope : Scope) (marked : Bool) (s : Stmt) : Type 0 where
  pub tests : List Test
  pub body : List Stmt
  pub is : s ≡ stmt.If tests (stmt.Seq body)
  pub deep : 0 < l
  pub tests_fit : Below l (TestsFit scope tests)
  pub body_fits : All (below scope marked) body

pub record StoreFits (make : Buf → Iexp → Wexp → Stmt) (l : ℕ) (scope : Scope) (s : Stmt) : Type 0 where
  pub buffer : Buf
  pub place : Iexp
  pub word : Wexp
  pub is : s ≡ make buffer place word
  pub target : HasTarget scope buffer
  pub place_fits : Below l (IndexFits scope place Choice)
  pub word_fits : WordFits scope word Choice l

pub record FillFits (l : ℕ) (scope : Scope) (s : Stmt) : Type 0 where
  pub buffer : Buf
  pub place : Iexp
  pub count : Iexp
  pub is : s ≡ stmt.Zero buffer place count
  pub target : HasTarget scope buffer
  pub place_fits : Below l (IndexFits scope place Choice)
  pub count_fits : Below l (IndexFits scope count Choice)

abbrev pub FitsBy : (Scope → Bool → Stmt → Type 0) → ℕ → Scope → Bool → StatementForm → Stmt → Type 0
FitsBy below l scope marked Loop s = ForFits below l scope marked s
FitsBy below l scope marked Guarded s = IfFits below l scope marked s
FitsBy below l scope marked Put s = StoreFits stmt.Put l scope s
FitsBy below l scope marked AddTo s = StoreFits stmt.AddTo l scope s
FitsBy below l scope marked Fill s = FillFits l scope s

-- a statement inside a block, where so many levels are left before the block opens
abbrev pub StatementFits : ℕ → Scope → Bool → Stmt → Type 0
StatementFits zero scope marked s = ⊥
StatementFits (suc l) scope marked s = (form : StatementForm) × FitsBy (StatementFits l) l scope marked form s

-- ---- programs

-- one length for each buffer, none of which opens too many levels
abbrev pub LengthsFit : ℕ → List Buf → List Iexp → Type 0
LengthsFit sizes (b ∷ bs) (n ∷ ns) = Below max_levels (IndexFits (length_scope sizes) n Choice) × LengthsFit sizes bs ns
LengthsFit sizes [] [] = Unit {0}
LengthsFit sizes bs ns = ⊥

-- a program that has a text
pub record IsPrintable (p : Prog) : Type 0 where
  pub some : 0 < p.outputs
  pub lengths : LengthsFit p.sizes (buffers p) p.lengths
  -- the statements of the body, none of which is a sequence
  pub body : List Stmt
  pub is_body : p.body ≡ stmt.Seq body
  pub body_fits : All (StatementFits max_levels (body_scope p) false) body
