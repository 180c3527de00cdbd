-- The loops of the program are the loops of the version, and no others.
use Rattle.std.proofs.Common.{◌≡◌, ℕ, suc, ◌+◌, Bool, true, false, if◌then◌else◌, List, [], ◌∷◌, ◌++◌, length, map, Option, Some, None, Ok, pos, refl, sym, ap}
use Rattle.std.proofs.Common.{◌∙◌, subst, arith}
use Rattle.affine_index.specs.declared.cond.Cmp.{Cmp}
use Rattle.affine_index.specs.declared.cond.Cmp.TheVariants.{Ge, Eq}
use Rattle.affine_index.specs.declared.cond.Rel.{Rel}
use Rattle.affine_index.specs.declared.cond.Rel.TheVariants as rel
use Rattle.affine_index.specs.declared.form.Items.{Items}
use Rattle.affine_index.specs.Form.{literal_form}
use Rattle.term_tree.specs.declared.term.Term.{Term, Lit, TVar, WordOf}
use Rattle.term_tree.specs.Syntax.{index, gen, sum, guard, let_in, add, sub, mul, concat, flatten, split, transpose, trunc_l, trunc_r, pad_l, pad_r}
use Rattle.term_tree.specs.declared.term.OutputDecl.{OutputDecl}
use Rattle.term_tree.specs.declared.term.Module.{Module}
use Rattle.term_tree.specs.declared.term.Path.{Path}
use Rattle.term_tree.specs.Shape.{Extents}
use Rattle.loop_lang.specs.declared.index.Iexp.{Iexp}
use Rattle.loop_lang.specs.declared.word.Buf.{Buf}
use Rattle.loop_lang.specs.declared.word.Buf.TheVariants.{Output}
use Rattle.loop_lang.specs.declared.word.Wexp.{Wexp}
use Rattle.loop_lang.specs.declared.word.Wexp.TheVariants as word
use Rattle.loop_lang.specs.declared.stmt.Stmt.{Stmt}
use Rattle.loop_lang.specs.declared.stmt.Stmt.TheVariants.{Seq, For, If, Put, AddTo, Zero}
use Rattle.loop_lang.specs.Actions.{Mode, Puts, Adds}
use Rattle.loop_lang.proofs.WordForms.{word_sum-is, word_difference-is, word_product-is, word_choice-is}
use Rattle.loop_lang.proofs.StatementForms.{fold-seq, fold-for, fold-if, fold-put, fold-add_to, fold-zero}
use Rattle.fact_list.specs.Facts.{binders}
use Rattle.final_rules.specs.Printed.{Printed, comparisons, full_read_printed, full_read_printed_if, leaf_printed, plain, printed_of, scope_of, word_printed}
use Rattle.final_rules.specs.Rules.{body_printed, output_extents, output_place}
use Rattle.final_rules.proofs.Raw.{plain-raw}
use Rattle.final_rules.proofs.Walk.{Every, binders-bound, binders-holds, every_parts, scope-length}
use Rattle.index_trees.specs.Tree.{index_tree}
use Rattle.final_rules.specs.declared.read.Read.{Read}
use Rattle.final_rules.specs.Form.{read_under, one_deeper, adds_words}
use Rattle.final_rules.specs.Owed.{tests_of}
use Rattle.final_rules.specs.declared.spot.Around.TheVariants.{Swapped, Tiled, Later, Without}
use Rattle.final_rules.specs.Places.{Place, shapes, shape_at, length_form}
use Rattle.lowering_laws.specs.Marks.{Marks, output_marks, through_child, is_marked}
use Rattle.lowering_laws.specs.Contexts.{Context, region, depth, tree_at, into_gen, into_sum, into_guard, adding, into_definition, into_body, onto_right}
use Rattle.lowering_laws.specs.Contexts.{under_frame, into_flatten, into_truncr}
use Rattle.lowering_laws.specs.Lowered.{words_tree, loaded, loaded_if, word_at, stored_by, leaf, loop_to, full_read, full_read_if, loops_at, output_spot}
use Rattle.lowering_laws.specs.Lowered.{outputs_loops, program_of}
use Rattle.lowering_laws.specs.Nest.{Fixed, Choice, Plus, Minus, Times, OfForm, Loop, When, Leaf, Nests, Under, none, next, chained, alone, side_of, tree_form}
use Rattle.lowering_laws.specs.Nest.{form_of, compared_of, word_of, all_chained, nests_step, nests_of, all_nests, nests_of_program, from_outside, form_at}
use Rattle.lowering_laws.specs.Nest.{compared_with, comparisons_at, load_if, nest_word, leaf_nest, read_nest, read_nest_if, nest_at, outputs_nest, module_nest}

chained_none : (xs : Nests) → chained xs none ≡ xs
chained_none none = refl
chained_none (next x xs) = ap (next x) (chained_none xs)

chained_assoc : (xs ys zs : Nests) → chained (chained xs ys) zs ≡ chained xs (chained ys zs)
chained_assoc none ys zs = refl
chained_assoc (next x xs) ys zs = ap (next x) (chained_assoc xs ys zs)

nests_append : (xs ys : List Stmt) (d : ℕ) → all_nests (xs ++ ys) d ≡ chained (all_nests xs d) (all_nests ys d)
nests_append [] ys d = refl
nests_append (x ∷ xs) ys d = ap (chained (nests_of x d)) (nests_append xs ys d) ∙ sym (chained_assoc (nests_of x d) (all_nests xs d) (all_nests ys d))

chained_map : (xs : List Stmt) (d : ℕ) → all_chained (map nests_of xs) d ≡ all_nests xs d
chained_map [] d = refl
chained_map (x ∷ xs) d = ap (chained (nests_of x d)) (chained_map xs d)

nests_seq : (xs : List Stmt) (d : ℕ) → nests_of (Seq xs) d ≡ all_nests xs d
nests_seq xs d = (λ i. fold-seq Under nests_step xs i d) ∙ chained_map xs d

stored_nest : (o : Mode) (b : Buf) (i : Iexp) (w : Wexp) (d : ℕ) → all_nests (stored_by o b i w ∷ []) d ≡ alone (Leaf (side_of b) o (word_of d w))
stored_nest Puts b i w d = chained_none (nests_of (Put b i w) d) ∙ (λ j. fold-put Under nests_step b i w j d)
stored_nest Adds b i w d = chained_none (nests_of (AddTo b i w) d) ∙ (λ j. fold-add_to Under nests_step b i w j d)

after_fill : (b : Buf) (i n : Iexp) (xs : List Stmt) (d : ℕ) → all_nests (Zero b i n ∷ xs) d ≡ all_nests xs d
after_fill b i n xs d = ap (λ v. chained v (all_nests xs d)) (λ j. fold-zero Under nests_step b i n j d)

-- a printed form is the normal form of its tree
abbrev pub Back : Printed → Type 0
Back i = (x : Items) × (i.form ≡ Ok x) × (tree_form (length i.scope) (index_tree (length i.scope) x) ≡ x)

back_here : (p : Place) (n : Items) → Back (plain n p) → tree_form (binders p.spot.path) (index_tree (binders p.spot.path) n) ≡ n
back_here p n h =
    let d : length (scope_of p.spot.path) ≡ binders p.spot.path = omega (arith, scope-length p.spot.path []) in
    subst (λ k. tree_form k (index_tree k n) ≡ n) d
    (subst (λ x. tree_form (length (scope_of p.spot.path)) (index_tree (length (scope_of p.spot.path)) x) ≡ x) (sym (plain-raw n h.0 h.1)) h.2)

form_is : (p : Context) (n : Items) → Back (plain n p.place) → form_of (depth p) (tree_at p n) ≡ form_at p n
form_is p n h = ap (from_outside (depth p)) (back_here p.place n h)

loop_nest : (n : Items) (marked : Bool) (p : Context) (body : List Stmt) (e : Nests) → Back (plain n p.place) → all_nests body (suc (depth p)) ≡ e
    → all_nests (loop_to n marked p body) (depth p) ≡ alone (Loop (form_at p n) marked e)
loop_nest n marked p body e b h =
    chained_none (nests_of (For (tree_at p n) marked (Seq body)) (depth p))
    ∙ (λ i. fold-for Under nests_step (tree_at p n) marked (Seq body) i (depth p))
    ∙ (λ i. alone (Loop (form_is p n b i) marked ((nests_seq body (suc (depth p)) ∙ h) i)))

one_test : (r : Rel) (p : Context) (x : Items) → Back (plain x p.place)
    → record { left = form_of (depth p) (tree_at p x); rel = r; right = form_at p (literal_form (pos 0)) } ≡ compared_with r p x
one_test r p x h = ap (λ l. record { left = l; rel = r; right = form_at p (literal_form (pos 0)) }) (form_is p x h)

tests_nest : (cs : List Cmp) (p : Context) → Every Back (comparisons cs p.place) → compared_of (depth p) (tests_of (depth p) cs) ≡ comparisons_at p cs
tests_nest [] p h = refl
tests_nest (Ge x ∷ cs) p h = λ i. one_test rel.Ge p x h.0 i ∷ tests_nest cs p h.1 i
tests_nest (Eq x ∷ cs) p h = λ i. one_test rel.Eq p x h.0 i ∷ tests_nest cs p h.1 i

load_nest : (d : Option Read) (p : Context) → word_of (depth p) (loaded_if d p) ≡ load_if d p
load_nest None p = refl
load_nest (Some d) p = refl

word_nest : (e : Term) (p : Context) → Every Back (word_printed e p.place) → word_of (depth p) (word_at e p) ≡ nest_word e p
word_nest (Lit w) p h = refl
word_nest (WordOf x) p h = ap OfForm (form_is p x h.0)
word_nest (TVar q) p h = load_nest (read_under (TVar q) []) p
word_nest (index e x) p h = load_nest (read_under (index e x) []) p
word_nest (guard c e) p h =
    let hs = every_parts Back (comparisons c.all p.place) (word_printed e (into_guard c p).place) h in
    let inner : word_of (depth p) (word_at e (into_guard c p)) ≡ nest_word e (into_guard c p) =
    subst (λ d. word_of d (word_at e (into_guard c p)) ≡ nest_word e (into_guard c p)) (binders-holds p.place.spot.path c)
    (word_nest e (into_guard c p) hs.1) in
    ap (word_of (depth p)) (word_choice-is (tests_of (depth p) c.all) (word_at e (into_guard c p)) (word.Lit 0))
    ∙ (λ i. Choice (tests_nest c.all p hs.0 i) (inner i) (Fixed 0))
word_nest (add a b) p h =
    let hs = every_parts Back (word_printed a p.place) (word_printed b p.place) h in
    ap (word_of (depth p)) (word_sum-is (word_at a p) (word_at b p)) ∙ (λ i. Plus (word_nest a p hs.0 i) (word_nest b p hs.1 i))
word_nest (sub a b) p h =
    let hs = every_parts Back (word_printed a p.place) (word_printed b p.place) h in
    ap (word_of (depth p)) (word_difference-is (word_at a p) (word_at b p)) ∙ (λ i. Minus (word_nest a p hs.0 i) (word_nest b p hs.1 i))
word_nest (mul a b) p h =
    let hs = every_parts Back (word_printed a p.place) (word_printed b p.place) h in
    ap (word_of (depth p)) (word_product-is (word_at a p) (word_at b p)) ∙ (λ i. Times (word_nest a p hs.0 i) (word_nest b p hs.1 i))
word_nest (gen n e) p h = refl
word_nest (sum n e) p h = refl
word_nest (let_in a b) p h = refl
word_nest (concat a b) p h = refl
word_nest (flatten e) p h = refl
word_nest (split k e) p h = refl
word_nest (transpose e) p h = refl
word_nest (trunc_l n e) p h = refl
word_nest (trunc_r n e) p h = refl
word_nest (pad_l n e) p h = refl
word_nest (pad_r n e) p h = refl

leaf_is : (e : Term) (p : Context) → Every Back (leaf_printed e p.place) → all_nests (leaf e p) (depth p) ≡ leaf_nest (nest_word e p) p
leaf_is e p h = stored_nest p.mode p.target _ (word_at e p) (depth p) ∙ ap (λ w. leaf_nest w p) (word_nest e p h.1)

read_is : (ns : Extents) (d : Read) (p : Context) → Every Back (full_read_printed ns d p.place) → all_nests (full_read ns d p) (depth p) ≡ read_nest ns d p
read_is [] d p h = stored_nest p.mode p.target _ (loaded d p) (depth p)
read_is (n ∷ ns) d p h =
    loop_nest n false p (full_read ns (one_deeper d) (into_gen n p)) _ h.0
    (subst (λ k. all_nests (full_read ns (one_deeper d) (into_gen n p)) k ≡ read_nest ns (one_deeper d) (into_gen n p)) (binders-bound p.place.spot.path n)
    (read_is ns (one_deeper d) (into_gen n p) h.1))

read_if_is : (ns : Extents) (d : Option Read) (p : Context) → Every Back (full_read_printed_if ns d p.place)
    → all_nests (full_read_if ns d p) (depth p) ≡ read_nest_if ns d p
read_if_is ns None p h = refl
read_if_is ns (Some d) p h = read_is ns d p h

two_nests : (xs ys : List Stmt) (d : ℕ) (u v : Nests) → all_nests xs d ≡ u → all_nests ys d ≡ v → all_nests (xs ++ ys) d ≡ chained u v
two_nests xs ys d u v g h = nests_append xs ys d ∙ (λ i. chained (g i) (h i))

add_nest : (a b : Term) (p : Context) (ms : Marks) → (Every Back (printed_of a p.place)
    → all_nests (loops_at a (adding p) (through_child 0 ms)) (depth p) ≡ nest_at a (adding p) (through_child 0 ms))
    → (Every Back (printed_of b p.place) → all_nests (loops_at b (adding p) (through_child 1 ms)) (depth p) ≡ nest_at b (adding p) (through_child 1 ms))
    → (c : Bool) → Every Back (if c then leaf_printed (add a b) p.place else (printed_of a p.place ++ printed_of b p.place))
    → all_nests (if c then leaf (add a b) p else (loops_at a (adding p) (through_child 0 ms) ++ loops_at b (adding p) (through_child 1 ms))) (depth p)
    ≡ (if c then leaf_nest (nest_word (add a b) p) p else chained (nest_at a (adding p) (through_child 0 ms)) (nest_at b (adding p) (through_child 1 ms)))
add_nest a b p ms left right true h = leaf_is (add a b) p h
add_nest a b p ms left right false h =
    let hs = every_parts Back (printed_of a p.place) (printed_of b p.place) h in
    two_nests _ _ (depth p) _ _ (left hs.0) (right hs.1)

pub nest_is : (e : Term) (p : Context) (ms : Marks) → Every Back (printed_of e p.place) → all_nests (loops_at e p ms) (depth p) ≡ nest_at e p ms
nest_is (Lit w) p ms h = leaf_is (Lit w) p h
nest_is (WordOf x) p ms h = leaf_is (WordOf x) p h
nest_is (TVar q) p ms h = read_if_is (shape_at (TVar q) p.place) (read_under (TVar q) []) p h
nest_is (index e x) p ms h = read_if_is (shape_at (index e x) p.place) (read_under (index e x) []) p h
nest_is (gen n e) p ms h =
    loop_nest n (is_marked ms) p _ _ h.0
    (subst (λ k. all_nests (loops_at e (into_gen n p) (through_child 0 ms)) k ≡ nest_at e (into_gen n p) (through_child 0 ms))
    (binders-bound p.place.spot.path n)
    (nest_is e (into_gen n p) (through_child 0 ms) h.1))
nest_is (sum n e) p ms h =
    loop_nest n false p _ _ h.0
    (subst (λ k. all_nests (loops_at e (into_sum n p) (through_child 0 ms)) k ≡ nest_at e (into_sum n p) (through_child 0 ms))
    (binders-bound p.place.spot.path n)
    (nest_is e (into_sum n p) (through_child 0 ms) h.1))
nest_is (guard c e) p ms h =
    let hs = every_parts Back (comparisons c.all p.place) (printed_of e (into_guard c p).place) h in
    let xs = loops_at e (into_guard c p) (through_child 0 ms) in
    let inner : all_nests xs (depth p) ≡ nest_at e (into_guard c p) (through_child 0 ms) =
    subst (λ k. all_nests xs k ≡ nest_at e (into_guard c p) (through_child 0 ms)) (binders-holds p.place.spot.path c)
    (nest_is e (into_guard c p) (through_child 0 ms) hs.1) in
    chained_none (nests_of (If (tests_of (depth p) c.all) (Seq xs)) (depth p))
    ∙ (λ i. fold-if Under nests_step (tests_of (depth p) c.all) (Seq xs) i (depth p))
    ∙ (λ i. alone (When (tests_nest c.all p hs.0 i) ((nests_seq xs (depth p) ∙ inner) i)))
nest_is (let_in a b) p ms h =
    let hs = every_parts Back (printed_of a (into_definition a p).place) (printed_of b (into_body a p).place) h.1.1 in
    after_fill region (tree_at p p.place.free) (tree_at p (length_form (shape_at a p.place)))
    (loops_at a (into_definition a p) (through_child 0 ms) ++ loops_at b (into_body a p) (through_child 1 ms)) (depth p)
    ∙ two_nests _ _ (depth p) _ _ (nest_is a (into_definition a p) (through_child 0 ms) hs.0) (nest_is b (into_body a p) (through_child 1 ms) hs.1)
nest_is (add a b) p ms h =
    add_nest a b p ms (nest_is a (adding p) (through_child 0 ms)) (nest_is b (adding p) (through_child 1 ms)) (adds_words a b (shapes p.place)) h
nest_is (sub a b) p ms h = leaf_is (sub a b) p h
nest_is (mul a b) p ms h = leaf_is (mul a b) p h
nest_is (concat a b) p ms h =
    let hs = every_parts Back (printed_of a p.place) (printed_of b (onto_right a p).place) h in
    two_nests _ _ (depth p) _ _ (nest_is a p (through_child 0 ms) hs.0) (nest_is b (onto_right a p) (through_child 1 ms) hs.1)
nest_is (flatten e) p ms h = nest_is e (into_flatten e p) (through_child 0 ms) h
nest_is (split k e) p ms h = nest_is e (under_frame (Tiled k) p) (through_child 0 ms) h
nest_is (transpose e) p ms h = nest_is e (under_frame Swapped p) (through_child 0 ms) h
nest_is (trunc_l a e) p ms h = nest_is e (under_frame (Without a) p) (through_child 0 ms) h
nest_is (trunc_r a e) p ms h = nest_is e (into_truncr a e p) (through_child 0 ms) h
nest_is (pad_l a e) p ms h = nest_is e (under_frame (Later a) p) (through_child 0 ms) h
nest_is (pad_r a e) p ms h = nest_is e p (through_child 0 ms) h

outputs_nest_is : (m : Module) (marks : List Path) (os : List OutputDecl) (j : ℕ) → Every Back (body_printed m os)
    → all_nests (outputs_loops m marks os j) 0 ≡ outputs_nest m marks os j
outputs_nest_is m marks [] j h = refl
outputs_nest_is m marks (o ∷ os) j h =
    let hs = every_parts Back (printed_of o.term (output_place m o)) (body_printed m os) h.1.1 in
    after_fill (Output j) (index_tree 0 (literal_form (pos 0))) (words_tree (output_extents m o))
    (loops_at o.term (output_spot m o j) (output_marks j marks) ++ outputs_loops m marks os (j + 1)) 0
    ∙ two_nests _ _ 0 _ _ (nest_is o.term (output_spot m o j) (output_marks j marks) hs.0) (outputs_nest_is m marks os (j + 1) hs.1)

pub module_nest_is : (m : Module) (marks : List Path) → Every Back (body_printed m m.outputs) → nests_of_program (program_of m marks) ≡ module_nest m marks
module_nest_is m marks h = nests_seq (outputs_loops m marks m.outputs 0) 0 ∙ outputs_nest_is m marks m.outputs 0 h
