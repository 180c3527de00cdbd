-- The grammar of the subset of C where kinds, levels and numbers of 32 bits do not count: which words may stand one after another.
use Rattle.std.specs.Prelude.{◌≡◌, ◌⊎◌, ◌<◌, ◌^◌, ℕ, zero, suc, Bool, true, false, List, [], ◌∷◌, ◌++◌, Option, Some, codes}
use Rattle.text_tokens.specs.declared.kind.Kind.{Kind}
use Rattle.text_tokens.specs.declared.kind.Kind.TheVariants as k
use Rattle.text_tokens.specs.Spelled.{Token, name_token, tokens_of}
use Rattle.text_tokens.specs.Words.{Word}
use Rattle.loop_lang.specs.declared.word.Buf.{Buf}
use Rattle.loop_lang.specs.declared.word.Buf.TheVariants as buf
use Rattle.loop_lang.specs.declared.stmt.Stmt.TheVariants.{Seq}
use Rattle.loop_lang.specs.declared.stmt.Prog.{Prog}
use Rattle.c_print.specs.declared.level.Level.{Level}
use Rattle.c_print.specs.declared.level.Level.TheVariants.{Choice, Sum, Product, Part}
use Rattle.reader_laws.specs.Grammar.{IsWordOf}
use Rattle.reader_laws.specs.Steps.{no_value}
use Rattle.c_words.specs.Tokens.{AndAnd, PlusAssign, sign}
use Rattle.c_text.specs.Expression.{PartForm, IndexLiteral, WordLiteral, SizeName, LoopName, Element, Larger, Parenthesized, Converted}
use Rattle.c_text.specs.Expression.{Scope, choice_sign, max_chain, product_operator, relation, sum_operator}
use Rattle.c_text.specs.Statement.{StatementForm, Fill, Loop, Guarded, Put, AddTo, MayMark, either, inside_loop}
use Rattle.c_text.specs.Statement.{body_scope, length_scope}
use Rattle.c_text.specs.Printed.{fill_end, for_end, for_start, function_start, heading_words, length_end, length_start, mark_words}
use Rattle.c_read.specs.Names.{buffer, loop_number, numeral, size_number, target}
use Rattle.c_read.specs.Units.{Counts, bump, no_buffers}

-- ---- words one after another

-- one and then the other
pub record Then (first then : List Word → Type 0) (ws : List Word) : Type 0 where
  pub front : List Word
  pub rest : List Word
  pub words : ws ≡ front ++ rest
  pub is_first : first front
  pub is_then : then rest

-- these tokens
abbrev pub Spelled : List Token → List Word → Type 0
Spelled ts ws = tokens_of ws ≡ ts

-- between these tokens
abbrev pub Around : List Token → List Token → (List Word → Type 0) → List Word → Type 0
Around before after inside = Then (Spelled before) (Then inside (Spelled after))

-- so many, one after another
abbrev pub EachBy : (List Word → Type 0) → ℕ → List Word → Type 0
EachBy item zero ws = ws ≡ []
EachBy item (suc n) ws = Then item (EachBy item n) ws

-- any number, one after another
abbrev pub Each : (List Word → Type 0) → List Word → Type 0
Each item ws = (n : ℕ) × EachBy item n ws

-- an operator with its operand, and what follows
pub record Linked {O : Type 0} (operator : Kind → Option O) (operand follows : List Word → Type 0) (ws : List Word) : Type 0 where
  pub word : Word
  pub sign : O
  pub front : List Word
  pub rest : List Word
  pub words : ws ≡ word ∷ front ++ rest
  pub is : operator word.kind ≡ Some sign
  pub is_operand : operand front
  pub is_rest : follows rest

-- operators with their operands, so many at most
abbrev pub Chain : {O : Type 0} → (Kind → Option O) → (List Word → Type 0) → ℕ → List Word → Type 0
Chain operator operand zero ws = ws ≡ []
Chain operator operand (suc n) ws = (ws ≡ []) ⊎ Linked operator operand (Chain operator operand n) ws

-- a number below a bound
abbrev pub Number : ℕ → List Word → Type 0
Number limit ws = (n : ℕ) × IsWordOf k.Number (numeral limit) ws n

-- ---- expressions; `below` is what stands one level further in

module _ (scope : Scope) (below : Level → List Word → Type 0) where
  abbrev pub InBrackets : List Word → Type 0
  InBrackets = Around (sign k.LBracket ∷ []) (sign k.RBracket ∷ []) (below Choice)

  abbrev pub InParens : (List Word → Type 0) → List Word → Type 0
  InParens = Around (sign k.LParen ∷ []) (sign k.RParen ∷ [])

  abbrev pub Two : List Word → Type 0
  Two = Then (below Choice) (Then (Spelled (sign k.Comma ∷ [])) (below Choice))

  abbrev pub PartBy : PartForm → List Word → Type 0
  PartBy IndexLiteral ws = Then (Spelled (name_token (codes "INT64_C") ∷ [])) (InParens (Number (2 ^ 63))) ws
  PartBy WordLiteral ws = Then (Spelled (name_token (codes "UINT64_C") ∷ [])) (InParens (Number (2 ^ 64))) ws
  PartBy SizeName ws = (n : ℕ) × IsWordOf k.Name (size_number scope) ws n
  PartBy LoopName ws = (n : ℕ) × IsWordOf k.Name (loop_number scope) ws n
  PartBy Element ws = Then (λ us. (b : Buf) × IsWordOf k.Name (buffer scope) us b) InBrackets ws
  PartBy Larger ws = (scope.in_length ≡ true) × Then (Spelled (name_token (codes "top") ∷ [])) (InParens Two) ws
  PartBy Parenthesized ws = InParens (below Choice) ws
  PartBy Converted ws =
      Then (Spelled (sign k.LParen ∷ [])) (Around (name_token (codes "uint64_t") ∷ sign k.RParen ∷ sign k.LParen ∷ []) (sign k.RParen ∷ []) (below Choice)) ws

  abbrev pub APart : List Word → Type 0
  APart ws = (form : PartForm) × PartBy form ws

  abbrev pub AProduct : List Word → Type 0
  AProduct = Then APart (Chain product_operator (below Part) max_chain)

  abbrev pub ASum : List Word → Type 0
  ASum = Then AProduct (Chain sum_operator (below Product) max_chain)

  abbrev pub ARelation : List Word → Type 0
  ARelation = Then ASum (Chain relation ASum 1)

  abbrev pub OneMore : List Word → Type 0
  OneMore = Then (λ us. (u : Unit {0}) × IsWordOf AndAnd no_value us u) ARelation

  abbrev pub Tests : List Word → Type 0
  Tests = Then ARelation (Each OneMore)

  abbrev pub Sides : List Word → Type 0
  Sides = Then (below Choice) (Then (Spelled (sign k.Colon ∷ [])) (below Choice))

  abbrev pub AChoice : List Word → Type 0
  AChoice = Then Tests (Chain choice_sign Sides 1)

  abbrev pub ByLevel : Level → List Word → Type 0
  ByLevel Choice = AChoice
  ByLevel Sum = ASum
  ByLevel Product = AProduct
  ByLevel Part = APart

-- an expression, with others within it at most so deep
abbrev pub Expression : Scope → ℕ → Level → List Word → Type 0
Expression scope zero place ws = ⊥
Expression scope (suc depth) place ws = ByLevel scope (Expression scope depth) place ws

-- ---- statements; `below` is what stands in the block of one, and `depth` is how deep expressions are in it

module _ (below : Scope → Bool → List Word → Type 0) (depth : ℕ) (scope : Scope) (marked : Bool) where
  abbrev pub Index : List Word → Type 0
  Index = Expression scope depth Choice

  abbrev pub Block : Scope → Bool → List Word → Type 0
  Block inner inside = Around (sign k.LBrace ∷ []) (sign k.RBrace ∷ []) (Each (below inner inside))

  abbrev pub Target : List Word → Type 0
  Target ws = (b : Buf) × IsWordOf k.Name (target scope) ws b

  abbrev pub LoopBy : Bool → List Word → Type 0
  LoopBy m = Then (Spelled (mark_words m)) (Then (Around (for_start scope.loops) (for_end scope.loops) Index) (Block (inside_loop scope) (either m marked)))

  abbrev pub FillParts : List Word → Type 0
  FillParts = Then Target (Then (Around (sign k.Comma ∷ []) (sign k.Comma ∷ []) Index) Index)

  abbrev pub Stored : Kind → List Word → Type 0
  Stored kd = Then (Then Target (InBrackets scope (Expression scope depth)))
      (Around (sign kd ∷ []) (sign k.Semi ∷ []) (ByLevel scope (Expression scope depth) Choice))

  abbrev pub StatementBy : StatementForm → List Word → Type 0
  StatementBy Fill ws = Then (Spelled (name_token (codes "fill") ∷ [])) (Around (sign k.LParen ∷ []) fill_end FillParts) ws
  StatementBy Loop ws = (m : Bool) × (MayMark m marked × LoopBy m ws)
  StatementBy Guarded ws =
      Then (Then (Spelled (name_token (codes "if") ∷ [])) (Around (sign k.LParen ∷ []) (sign k.RParen ∷ []) Index)) (Block scope marked) ws
  StatementBy Put ws = Stored k.Assign ws
  StatementBy AddTo ws = Stored PlusAssign ws

  abbrev pub AStatement : List Word → Type 0
  AStatement ws = (form : StatementForm) × StatementBy form ws

-- a statement, with others within it at most so deep
abbrev pub Statement : ℕ → Scope → Bool → List Word → Type 0
Statement zero scope marked ws = ⊥
Statement (suc depth) scope marked ws = AStatement (Statement depth) depth scope marked ws

-- ---- whole texts

-- whether the length of this buffer may come next: inputs, then at least one output, then scratch
abbrev pub MayCome : Counts → Buf → Type 0
MayCome c (buf.Input n) = (n ≡ c.inputs) × ((c.outputs ≡ 0) × (c.scratch ≡ 0))
MayCome c (buf.Output n) = (n ≡ c.outputs) × (c.scratch ≡ 0)
MayCome c (buf.Scratch n) = (n ≡ c.scratch) × (0 < c.outputs)

-- a program of these sizes and buffers
abbrev pub skeleton : ℕ → Counts → Prog
skeleton sizes c = record { sizes = sizes; inputs = c.inputs; outputs = c.outputs; scratch = c.scratch; lengths = []; body = Seq [] }

module _ (depth sizes : ℕ) where
  abbrev pub ALength : Buf → List Word → Type 0
  ALength b = Around (length_start sizes b) length_end (Expression (length_scope sizes) depth Choice)

  abbrev pub AFunction : Counts → List Word → Type 0
  AFunction c ws =
      (0 < c.outputs)
      × Then (Spelled (function_start (skeleton sizes c)))
      (Block (Statement depth) depth (body_scope (skeleton sizes c)) false (body_scope (skeleton sizes c)) false) ws

  -- so many lengths, each of which may come next, and then the function
  abbrev pub Lengths : ℕ → Counts → List Word → Type 0
  Lengths zero c ws = AFunction c ws
  Lengths (suc n) c ws = (b : Buf) × (MayCome c b × Then (ALength b) (Lengths n (bump c b)) ws)

-- the words of a whole text, with expressions and statements at most so deep, so many sizes and so many lengths
pub record IsShaped (ws : List Word) : Type 0 where
  pub depth : ℕ
  pub sizes : ℕ
  pub lengths : ℕ
  pub is : Then (Spelled heading_words) (Lengths depth sizes lengths no_buffers) ws
