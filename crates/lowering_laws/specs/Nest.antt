-- The loops of a version and the loops of a program, without places and fills.
use Rattle.std.specs.Prelude.{ℕ, suc, ◌+◌, ◌-◌, Bool, false, if◌then◌else◌, List, [], ◌∷◌, Option, Some, None, pos}
use Rattle.affine_index.specs.declared.cond.Cmp.{Cmp}
use Rattle.affine_index.specs.declared.cond.Cmp.TheVariants.{Ge, Eq}
use Rattle.affine_index.specs.declared.cond.Rel.{Rel}
use Rattle.affine_index.specs.declared.cond.Rel.TheVariants as rel
use Rattle.affine_index.specs.declared.form.Items.{Items}
use Rattle.affine_index.specs.declared.form.Atom.TheOpen.{Atom-F, Items-F}
use Rattle.affine_index.specs.declared.form.Atom.TheFolds.{fold-Items}
use Rattle.affine_index.specs.Form.{literal_form, size_form, var_form}
use Rattle.affine_index.specs.Sum.{add_up, sum_of, difference_of}
use Rattle.affine_index.specs.Product.{product_of, product_of_all}
use Rattle.affine_index.specs.Quotient.{quotient_of, remainder_of}
use Rattle.term_tree.specs.declared.term.Term.{Term, Lit, TVar, WordOf}
use Rattle.term_tree.specs.Syntax.{index, gen, sum, guard, let_in, add, sub, mul, concat, flatten, split, transpose, trunc_l, trunc_r, pad_l, pad_r}
use Rattle.term_tree.specs.declared.term.OutputDecl.{OutputDecl}
use Rattle.term_tree.specs.declared.term.Module.{Module}
use Rattle.term_tree.specs.declared.term.Path.{Path}
use Rattle.term_tree.specs.Shape.{Extents}
use Rattle.loop_lang.specs.declared.index.Iexp.{Iexp}
use Rattle.loop_lang.specs.declared.index.Iexp as tree
use Rattle.loop_lang.specs.declared.index.Test.{Test}
use Rattle.loop_lang.specs.declared.word.Buf.{Buf}
use Rattle.loop_lang.specs.declared.word.Buf.TheVariants.{Input, Output, Scratch}
use Rattle.loop_lang.specs.declared.word.Wexp.{Wexp}
use Rattle.loop_lang.specs.declared.word.Wexp as word
use Rattle.loop_lang.specs.declared.stmt.Stmt.{Stmt}
use Rattle.loop_lang.specs.declared.stmt.Stmt.TheOpen.{Stmt-F}
use Rattle.loop_lang.specs.declared.stmt.Stmt.TheFolds.{fold-Stmt}
use Rattle.loop_lang.specs.declared.stmt.Prog.{Prog}
use Rattle.loop_lang.specs.Actions.{Mode, Puts, Adds}
use Rattle.loop_lang.specs.Syntax.{index_sum, index_difference, index_product, index_quotient, index_remainder, index_larger, word_sum, word_difference}
use Rattle.loop_lang.specs.Syntax.{word_product, word_choice}
use Rattle.final_rules.specs.declared.read.Read.{Read}
use Rattle.final_rules.specs.Form.{read_under, one_deeper, adds_words}
use Rattle.final_rules.specs.declared.spot.Around.TheVariants.{Swapped, Tiled, Later, Without}
use Rattle.final_rules.specs.Places.{shapes, shape_at}
use Rattle.lowering_laws.specs.Marks.{Marks, output_marks, through_child, is_marked}
use Rattle.lowering_laws.specs.Contexts.{Context, buffer_at, depth, into_gen, into_sum, into_guard, adding, into_definition, into_body, onto_right, under_frame}
use Rattle.lowering_laws.specs.Contexts.{into_flatten, into_truncr}
use Rattle.lowering_laws.specs.Lowered.{output_spot}

-- a buffer without the number of a scratch buffer
pub data Side : Type 0 where
  OfInput : ℕ → Side
  OfOutput : ℕ → Side
  OfScratch : Side

-- two forms that are compared
pub record Compared : Type 0 where
  pub left : Items
  pub rel : Rel
  pub right : Items

pub data NestWord : Type 0 where
  Fixed : ℕ → NestWord
  Load : Side → NestWord
  OfForm : Items → NestWord
  Plus : NestWord → NestWord → NestWord
  Minus : NestWord → NestWord → NestWord
  Times : NestWord → NestWord → NestWord
  Choice : List Compared → NestWord → NestWord → NestWord

mutual
  pub data Nest : Type 0 where
    Loop : Items → Bool → Nests → Nest
    When : List Compared → Nests → Nest
    Leaf : Side → Mode → NestWord → Nest

  pub data Nests : Type 0 where
    none : Nests
    next : Nest → Nests → Nests

-- one after the other
abbrev pub chained : Nests → Nests → Nests
chained none ys = ys
chained (next x xs) ys = next x (chained xs ys)

abbrev pub alone : Nest → Nests
alone x = next x none

abbrev pub side_of : Buf → Side
side_of (Input k) = OfInput k
side_of (Output k) = OfOutput k
side_of (Scratch k) = OfScratch

-- index expressions under so many loops
module _ (loops : ℕ) where
  abbrev pub outside_atom : Atom-F Items Items → Items
  outside_atom (Atom-F.Size s) = size_form s
  outside_atom (Atom-F.Var v) = var_form (loops - 1 - v)
  outside_atom (Atom-F.Div r k) = quotient_of r k
  outside_atom (Atom-F.Mul fs) = product_of_all fs

  abbrev pub outside_items : Items-F Items Items → Items
  outside_items i = add_up i.terms (literal_form i.constant)

  -- a form whose variables are numbered from the innermost, with numbers from the outside
  abbrev pub from_outside : Items → Items
  from_outside = fold-Items Items Items outside_atom outside_items

  -- the normal form of a tree, its variables numbered from the innermost; a larger stands in lengths alone
  abbrev pub tree_form : Iexp → Items
  tree_form (tree.Lit n) = literal_form n
  tree_form (tree.Size k) = size_form k
  tree_form (tree.Loop k) = var_form (loops - 1 - k)
  tree_form (index_sum a b) = sum_of (tree_form a) (tree_form b)
  tree_form (index_difference a b) = difference_of (tree_form a) (tree_form b)
  tree_form (index_product a b) = product_of (tree_form a) (tree_form b)
  tree_form (index_quotient a k) = quotient_of (tree_form a) k
  tree_form (index_remainder a k) = remainder_of (tree_form a) k
  tree_form (index_larger a b) = tree_form a

  -- of a program

  abbrev pub form_of : Iexp → Items
  form_of t = from_outside (tree_form t)

  abbrev pub compared_of : List Test → List Compared
  compared_of [] = []
  compared_of (c ∷ cs) = record { left = form_of c.left; rel = c.rel; right = form_of c.right } ∷ compared_of cs

  abbrev pub word_of : Wexp → NestWord
  word_of (word.Lit w) = Fixed w
  word_of (word.Load b i) = Load (side_of b)
  word_of (word.OfIndex i) = OfForm (form_of i)
  word_of (word_sum a b) = Plus (word_of a) (word_of b)
  word_of (word_difference a b) = Minus (word_of a) (word_of b)
  word_of (word_product a b) = Times (word_of a) (word_of b)
  word_of (word_choice cs a b) = Choice (compared_of cs) (word_of a) (word_of b)

-- nests under so many loops
abbrev pub Under : Type 0
Under = ℕ → Nests

abbrev pub all_chained : List Under → Under
all_chained [] d = none
all_chained (x ∷ xs) d = chained (x d) (all_chained xs d)

-- sequences are flattened, and fills left out
abbrev pub nests_step : Stmt-F Under → Under
nests_step (Stmt-F.Seq fs) d = all_chained fs d
nests_step (Stmt-F.For n marked f) d = alone (Loop (form_of d n) marked (f (suc d)))
nests_step (Stmt-F.If cs f) d = alone (When (compared_of d cs) (f d))
nests_step (Stmt-F.Put b i w) d = alone (Leaf (side_of b) Puts (word_of d w))
nests_step (Stmt-F.AddTo b i w) d = alone (Leaf (side_of b) Adds (word_of d w))
nests_step (Stmt-F.Zero b i n) d = none

abbrev pub nests_of : Stmt → Under
nests_of = fold-Stmt Under nests_step

abbrev pub all_nests : List Stmt → Under
all_nests [] d = none
all_nests (x ∷ xs) d = chained (nests_of x d) (all_nests xs d)

abbrev pub nests_of_program : Prog → Nests
nests_of_program p = nests_of p.body 0

-- of a version

-- a form there
abbrev pub form_at : Context → Items → Items
form_at p x = from_outside (depth p) x

-- a comparison with 0
abbrev pub compared_with : Rel → Context → Items → Compared
compared_with r p x = record { left = form_at p x; rel = r; right = form_at p (literal_form (pos 0)) }

abbrev pub comparison_at : Context → Cmp → Compared
comparison_at p (Ge x) = compared_with rel.Ge p x
comparison_at p (Eq x) = compared_with rel.Eq p x

abbrev pub comparisons_at : Context → List Cmp → List Compared
comparisons_at p [] = []
comparisons_at p (c ∷ cs) = comparison_at p c ∷ comparisons_at p cs

abbrev pub load_if : Option Read → Context → NestWord
load_if None p = Fixed 0
load_if (Some d) p = Load (side_of (buffer_at p d.var))

abbrev pub nest_word : Term → Context → NestWord
nest_word (Lit w) p = Fixed w
nest_word (WordOf x) p = OfForm (form_at p x)
nest_word (TVar q) p = load_if (read_under (TVar q) []) p
nest_word (index e x) p = load_if (read_under (index e x) []) p
nest_word (guard c e) p = Choice (comparisons_at p c.all) (nest_word e (into_guard c p)) (Fixed 0)
nest_word (add a b) p = Plus (nest_word a p) (nest_word b p)
nest_word (sub a b) p = Minus (nest_word a p) (nest_word b p)
nest_word (mul a b) p = Times (nest_word a p) (nest_word b p)
nest_word _ p = Fixed 0

abbrev pub leaf_nest : NestWord → Context → Nests
leaf_nest w p = alone (Leaf (side_of p.target) p.mode w)

-- a read of these extents has a loop for each
abbrev pub read_nest : Extents → Read → Context → Nests
read_nest [] d p = leaf_nest (Load (side_of (buffer_at p d.var))) p
read_nest (n ∷ ns) d p = alone (Loop (form_at p n) false (read_nest ns (one_deeper d) (into_gen n p)))

abbrev pub read_nest_if : Extents → Option Read → Context → Nests
read_nest_if ns None p = none
read_nest_if ns (Some d) p = read_nest ns d p

abbrev pub nest_at : Term → Context → Marks → Nests
nest_at (Lit w) p ms = leaf_nest (nest_word (Lit w) p) p
nest_at (WordOf x) p ms = leaf_nest (nest_word (WordOf x) p) p
nest_at (TVar q) p ms = read_nest_if (shape_at (TVar q) p.place) (read_under (TVar q) []) p
nest_at (index e x) p ms = read_nest_if (shape_at (index e x) p.place) (read_under (index e x) []) p
nest_at (gen n e) p ms = alone (Loop (form_at p n) (is_marked ms) (nest_at e (into_gen n p) (through_child 0 ms)))
nest_at (sum n e) p ms = alone (Loop (form_at p n) false (nest_at e (into_sum n p) (through_child 0 ms)))
nest_at (guard c e) p ms = alone (When (comparisons_at p c.all) (nest_at e (into_guard c p) (through_child 0 ms)))
nest_at (let_in a b) p ms = chained (nest_at a (into_definition a p) (through_child 0 ms)) (nest_at b (into_body a p) (through_child 1 ms))
nest_at (add a b) p ms =
    if adds_words a b (shapes p.place) then leaf_nest (nest_word (add a b) p) p
    else chained (nest_at a (adding p) (through_child 0 ms)) (nest_at b (adding p) (through_child 1 ms))
nest_at (sub a b) p ms = leaf_nest (nest_word (sub a b) p) p
nest_at (mul a b) p ms = leaf_nest (nest_word (mul a b) p) p
nest_at (concat a b) p ms = chained (nest_at a p (through_child 0 ms)) (nest_at b (onto_right a p) (through_child 1 ms))
nest_at (flatten e) p ms = nest_at e (into_flatten e p) (through_child 0 ms)
nest_at (split k e) p ms = nest_at e (under_frame (Tiled k) p) (through_child 0 ms)
nest_at (transpose e) p ms = nest_at e (under_frame Swapped p) (through_child 0 ms)
nest_at (trunc_l a e) p ms = nest_at e (under_frame (Without a) p) (through_child 0 ms)
nest_at (trunc_r a e) p ms = nest_at e (into_truncr a e p) (through_child 0 ms)
nest_at (pad_l a e) p ms = nest_at e (under_frame (Later a) p) (through_child 0 ms)
nest_at (pad_r a e) p ms = nest_at e p (through_child 0 ms)

abbrev pub outputs_nest : Module → List Path → List OutputDecl → ℕ → Nests
outputs_nest m marks [] j = none
outputs_nest m marks (o ∷ os) j = chained (nest_at o.term (output_spot m o j) (output_marks j marks)) (outputs_nest m marks os (j + 1))

-- the nest of a version with its marks
abbrev pub module_nest : Module → List Path → Nests
module_nest m marks = outputs_nest m marks m.outputs 0
