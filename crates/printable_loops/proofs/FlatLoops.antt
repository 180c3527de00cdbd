-- The statements of a term are flat, within the levels of C: two for each node on the way, and those of an index.
use Rattle.std.proofs.Common.{◌≡◌, ℕ, zero, suc, ◌+◌, ◌*◌, ◌≤◌, Bool, true, false, not, nat_le, List, [], ◌∷◌, ◌++◌, length, get_or}
use Rattle.std.proofs.Common.{Option, Some, None, Ok, Err, if◌then◌else◌, arith}
use Rattle.affine_index.specs.declared.form.Items.{Items}
use Rattle.loop_lang.specs.Actions.{Mode, Puts, Adds}
use Rattle.loop_lang.specs.declared.index.Iexp.{Iexp}
use Rattle.loop_lang.specs.declared.index.Test.{Test}
use Rattle.loop_lang.specs.declared.word.Buf.{Buf}
use Rattle.loop_lang.specs.declared.word.Wexp.{Wexp}
use Rattle.loop_lang.specs.declared.stmt.Stmt.{Stmt}
use Rattle.loop_lang.specs.declared.stmt.Stmt.TheVariants as stmt
use Rattle.term_tree.specs.Counts.{node_depth}
use Rattle.term_tree.specs.declared.term.Term.{Term, Lit, TVar, WordOf}
use Rattle.term_tree.specs.Syntax.{index, gen, sum, guard, let_in, add, sub, mul, concat, flatten, split, transpose, trunc_l, trunc_r, pad_l, pad_r}
use Rattle.term_tree.specs.Goals.{extents_or_none}
use Rattle.term_tree.specs.Shape.{Extents, Shaped, each_fits, each_short, here, largest_rank, limited, of_first, shape_of, with_child}
use Rattle.term_tree.specs.declared.cause.Cause.TheVariants.{CoefficientTooLarge, IndexTooLong, RankTooLarge}
use Rattle.shape_rules.specs.Fits.{LiteralsFit}
use Rattle.final_rules.specs.declared.read.Read.{Read}
use Rattle.final_rules.specs.declared.spot.Around.TheVariants.{Swapped, Tiled, Later, Without}
use Rattle.final_rules.specs.Form.{adds_words, one_deeper, read_under}
use Rattle.final_rules.specs.Owed.{tests_of}
use Rattle.final_rules.specs.Places.{extents_under, in_body, in_definition, in_guard, length_form, on_right, shape_at, shapes, store_form}
use Rattle.final_rules.specs.Printed.{comparisons, full_read_printed, full_read_printed_if, leaf_printed, length_printed, printed_of, store_place}
use Rattle.final_rules.proofs.Raw.{store-raw, words-raw}
use Rattle.final_rules.proofs.Walk.{Every, every_parts}
use Rattle.lowering_laws.specs.Contexts.{Context, adding, depth, into_body, into_definition, into_flatten, into_gen, into_guard, into_sum, into_truncr}
use Rattle.lowering_laws.specs.Contexts.{onto_right, region, tree_at, under_frame}
use Rattle.lowering_laws.specs.Lowered.{full_read, full_read_if, leaf, loaded, loops_at, stored, stored_by, word_at}
use Rattle.lowering_laws.specs.Marks.{Marks, is_marked, through_child}
use Rattle.lowering_laws.proofs.PrintedHeld.{Held}
use Rattle.c_print.specs.declared.level.Level.TheVariants.{Choice}
use Rattle.c_text.specs.Flat.{Flat, FlatBy, IndexWithin, TestsWithin, WordWithin}
use Rattle.c_text.specs.Printable.{All}
use Rattle.c_text.specs.Statement.{AddTo, Fill, Guarded, Loop, Put, StatementForm}
use Rattle.c_text.proofs.WordLevels.{levels-most}
use Rattle.printable_loops.proofs.FlatWords.{IndexOk, WordOk, left-most, plain-ok, printed-ok, read-ok, right-most, tests-ok, word-ok}

pub all-append : (P : Stmt → Type 0) (xs ys : List Stmt) → All P xs → All P ys → All P (xs ++ ys)
all-append P [] ys h g = g
all-append P (x ∷ xs) ys h g = (h.0, all-append P xs ys h.1 g)

pub index-within : (x : Iexp) (l : ℕ) → 514 ≤ l → IndexOk x → IndexWithin x l
index-within x l n h = record { levels = omega (arith, h.whole, n); longest = omega (arith, h.longest) }

word-within : (n l : ℕ) (w : Wexp) → n ≤ 200 → 2 * n + 516 ≤ l → WordOk n w → WordWithin w l
word-within n l w m k h = record {
  levels = omega (arith, levels-most w Choice, h.depth, h.part, k);
  height = omega (arith, h.height, m);
  literals = h.literals;
}

-- a statement in a block, where levels are left
abbrev Fits : ℕ → Stmt → Type 0
Fits k s = (form : StatementForm) × FlatBy (Flat (suc k)) k form s

flat-from : (l : ℕ) (s : Stmt) → 2 ≤ l → ((k : ℕ) → k + 2 ≡ l → Fits k s) → Flat l s
flat-from zero s n f = absurd (omega (arith, n))
flat-from (suc zero) s n f = absurd (omega (arith, n))
flat-from (suc (suc k)) s n f = f k (omega arith)

pub zero-flat : (b : Buf) (i n : Iexp) (l : ℕ) → 516 ≤ l → IndexOk i → IndexOk n → Flat l (stmt.Zero b i n)
zero-flat b i n l m h g = flat-from l (stmt.Zero b i n) (omega (arith, m)) (λ k e. (
  Fill,
  record {
    buffer = b;
    place = i;
    count = n;
    is = λ j. stmt.Zero b i n;
    place_within = index-within i k (omega (arith, e, m)) h;
    count_within = index-within n k (omega (arith, e, m)) g;
  },
))

stored-flat : (o : Mode) (b : Buf) (i : Iexp) (w : Wexp) (n l : ℕ) → n ≤ 200 → 2 * n + 524 ≤ l → IndexOk i → WordOk n w → Flat l (stored_by o b i w)
stored-flat Puts b i w n l few m h g = flat-from l (stmt.Put b i w) (omega (arith, m)) (λ k e. (
  Put,
  record {
    buffer = b;
    place = i;
    word = w;
    is = λ j. stmt.Put b i w;
    place_within = index-within i k (omega (arith, e, m)) h;
    word_within = word-within n (k + 1) w few (omega (arith, e, m)) g;
  },
))
stored-flat Adds b i w n l few m h g = flat-from l (stmt.AddTo b i w) (omega (arith, m)) (λ k e. (
  AddTo,
  record {
    buffer = b;
    place = i;
    word = w;
    is = λ j. stmt.AddTo b i w;
    place_within = index-within i k (omega (arith, e, m)) h;
    word_within = word-within n (k + 1) w few (omega (arith, e, m)) g;
  },
))

loop-flat : (n : Iexp) (marked : Bool) (body : List Stmt) (l : ℕ) → 516 ≤ l → IndexOk n → ((k : ℕ) → k + 1 ≡ l → All (Flat k) body)
    → Flat l (stmt.For n marked (stmt.Seq body))
loop-flat n marked body l m h f = flat-from l (stmt.For n marked (stmt.Seq body)) (omega (arith, m)) (λ k e. (
  Loop,
  record {
    bound = n;
    mark = marked;
    body = body;
    is = λ j. stmt.For n marked (stmt.Seq body);
    deep = omega (arith, e, m);
    bound_within = index-within n k (omega (arith, e, m)) h;
    body_flat = f (suc k) (omega (arith, e));
  },
))

if-flat : (ts : List Test) (body : List Stmt) (l : ℕ) → 2 ≤ l → ((k : ℕ) → k + 2 ≡ l → TestsWithin ts k) → ((k : ℕ) → k + 1 ≡ l → All (Flat k) body)
    → Flat l (stmt.If ts (stmt.Seq body))
if-flat ts body l m h f = flat-from l (stmt.If ts (stmt.Seq body)) m (λ k e. (
  Guarded,
  record {
    tests = ts;
    body = body;
    is = λ j. stmt.If ts (stmt.Seq body);
    tests_within = h k e;
    body_flat = f (suc k) (omega (arith, e));
  },
))

-- ranks

rank-if : (a b c : Bool) (ns : Extents) → (a ≡ true → length ns ≤ 8)
    → length (extents_or_none (if not a then here RankTooLarge else (if b then here CoefficientTooLarge else (if c then here IndexTooLong else Ok ns)))) ≤ 8
rank-if false b c ns h = omega arith
rank-if true true c ns h = omega arith
rank-if true false true ns h = omega arith
rank-if true false false ns h = h (λ j. true)

low-rank : (n : ℕ) → nat_le n largest_rank ≡ true → n ≤ 8
low-rank n h = grind arith

limited-rank : (ns : Extents) → length (extents_or_none (limited ns)) ≤ 8
limited-rank ns = rank-if (nat_le (length ns) largest_rank) (not (each_fits ns)) (not (each_short ns)) ns (low-rank (length ns))

first-rank : (s : Shaped) → length (extents_or_none s) ≤ 8 → length (extents_or_none (with_child 0 s (λ ns. of_first ns (λ n rest. Ok rest)))) ≤ 8
first-rank (Ok []) h = omega arith
first-rank (Ok (n ∷ ns)) h = omega (arith, h)
first-rank (Err m) h = omega arith

-- a read has a rank of at most 8
read-rank : (e : Term) (xs : List Items) (ts : List Extents) (d : Read) → read_under e xs ≡ Some d → length (extents_under e ts) ≤ 8
read-rank (TVar q) xs ts d h = limited-rank (get_or ts q [])
read-rank (index e x) xs ts d h = first-rank (shape_of e ts) (read-rank e (x ∷ xs) ts d h)
read-rank (Lit w) xs ts d h = absurd (cc)
read-rank (WordOf x) xs ts d h = absurd (cc)
read-rank (gen n e) xs ts d h = absurd (cc)
read-rank (sum n e) xs ts d h = absurd (cc)
read-rank (guard c e) xs ts d h = absurd (cc)
read-rank (let_in a b) xs ts d h = absurd (cc)
read-rank (add a b) xs ts d h = absurd (cc)
read-rank (sub a b) xs ts d h = absurd (cc)
read-rank (mul a b) xs ts d h = absurd (cc)
read-rank (concat a b) xs ts d h = absurd (cc)
read-rank (flatten e) xs ts d h = absurd (cc)
read-rank (split k e) xs ts d h = absurd (cc)
read-rank (transpose e) xs ts d h = absurd (cc)
read-rank (trunc_l a e) xs ts d h = absurd (cc)
read-rank (trunc_r a e) xs ts d h = absurd (cc)
read-rank (pad_l a e) xs ts d h = absurd (cc)
read-rank (pad_r a e) xs ts d h = absurd (cc)

module _ (sizes : ℕ) where
  place-flat : (p : Context) (w : Wexp) (n l : ℕ) → n ≤ 200 → 2 * n + 524 ≤ l → Held sizes (store_place p.place) → WordOk n w → All (Flat l) (stored p w)
  place-flat p w n l few m h g = (
    stored-flat p.mode p.target (tree_at p (store_form p.place)) w n l few m
        (printed-ok sizes (depth p) (store_place p.place) (store_form p.place) (store-raw p.place) h) g,
    tt,
  )

  leaf-flat : (e : Term) (p : Context) (l : ℕ) → node_depth e ≤ 200 → 2 * node_depth e + 524 ≤ l → LiteralsFit e → Every (Held sizes) (leaf_printed e p.place)
      → All (Flat l) (leaf e p)
  leaf-flat e p l few m f h = place-flat p (word_at e p) (node_depth e) l few m h.0 (word-ok sizes e p f h.1)

  -- a read has a loop for each extent; its word is one load
  read-flat : (ns : Extents) (d : Read) (p : Context) (l : ℕ) → length ns + 524 ≤ l → Every (Held sizes) (full_read_printed ns d p.place)
      → All (Flat l) (full_read ns d p)
  read-flat [] d p l m h = place-flat p (loaded d p) 0 l (omega arith) (omega (arith, m)) h.0 (read-ok sizes 0 d p h.1.0)
  read-flat (n ∷ ns) d p l m h = (
    loop-flat (tree_at p n) false (full_read ns (one_deeper d) (into_gen n p)) l (omega (arith, m)) (plain-ok sizes (depth p) n p.place h.0)
        (λ k e. read-flat ns (one_deeper d) (into_gen n p) k (omega (arith, e, m)) h.1),
    tt,
  )

  read-flat-if : (ns : Extents) (o : Option Read) (p : Context) (l : ℕ) → ((d : Read) → o ≡ Some d → length ns ≤ 8) → 532 ≤ l
      → Every (Held sizes) (full_read_printed_if ns o p.place) → All (Flat l) (full_read_if ns o p)
  read-flat-if ns None p l r m h = tt
  read-flat-if ns (Some d) p l r m h = read-flat ns d p l (omega (arith, r d (λ j. Some d), m)) h

  add-flat : (a e : Term) (p : Context) (ms : Marks) (l : ℕ) → node_depth (add a e) ≤ 200 → 2 * node_depth (add a e) + 532 ≤ l → LiteralsFit (add a e)
      → (Every (Held sizes) (printed_of a p.place) → All (Flat l) (loops_at a (adding p) (through_child 0 ms)))
      → (Every (Held sizes) (printed_of e p.place) → All (Flat l) (loops_at e (adding p) (through_child 1 ms))) → (w : Bool)
      → Every (Held sizes) (if w then leaf_printed (add a e) p.place else (printed_of a p.place ++ printed_of e p.place))
      → All (Flat l) (if w then leaf (add a e) p else (loops_at a (adding p) (through_child 0 ms) ++ loops_at e (adding p) (through_child 1 ms)))
  add-flat a e p ms l few m f left right true h = leaf-flat (add a e) p l few (omega (arith, m)) f h
  add-flat a e p ms l few m f left right false h =
      let hs = every_parts (Held sizes) (printed_of a p.place) (printed_of e p.place) h in
      all-append (Flat l) (loops_at a (adding p) (through_child 0 ms)) (loops_at e (adding p) (through_child 1 ms)) (left hs.0) (right hs.1)

  -- the statements of a term
  pub loops-flat : (e : Term) (p : Context) (ms : Marks) (l : ℕ) → node_depth e ≤ 200 → 2 * node_depth e + 532 ≤ l → LiteralsFit e
      → Every (Held sizes) (printed_of e p.place) → All (Flat l) (loops_at e p ms)
  loops-flat (Lit w) p ms l few m f h = leaf-flat (Lit w) p l few (omega (arith, m)) f h
  loops-flat (WordOf x) p ms l few m f h = leaf-flat (WordOf x) p l few (omega (arith, m)) f h
  loops-flat (TVar q) p ms l few m f h =
      read-flat-if (shape_at (TVar q) p.place) (read_under (TVar q) []) p l (λ d e. read-rank (TVar q) [] (shapes p.place) d e) (omega (arith, m)) h
  loops-flat (index e x) p ms l few m f h =
      read-flat-if (shape_at (index e x) p.place) (read_under (index e x) []) p l (λ d k. read-rank (index e x) [] (shapes p.place) d k) (omega (arith, m)) h
  loops-flat (sub b e) p ms l few m f h = leaf-flat (sub b e) p l few (omega (arith, m)) f h
  loops-flat (mul b e) p ms l few m f h = leaf-flat (mul b e) p l few (omega (arith, m)) f h
  loops-flat (gen n e) p ms l few m f h = (
    loop-flat (tree_at p n) (is_marked ms) (loops_at e (into_gen n p) (through_child 0 ms)) l (omega (arith, m)) (plain-ok sizes (depth p) n p.place h.0)
        (λ k q. loops-flat e (into_gen n p) (through_child 0 ms) k (omega (arith, few)) (omega (arith, q, m)) f h.1),
    tt,
  )
  loops-flat (sum n e) p ms l few m f h = (
    loop-flat (tree_at p n) false (loops_at e (into_sum n p) (through_child 0 ms)) l (omega (arith, m)) (plain-ok sizes (depth p) n p.place h.0)
        (λ k q. loops-flat e (into_sum n p) (through_child 0 ms) k (omega (arith, few)) (omega (arith, q, m)) f h.1),
    tt,
  )
  loops-flat (guard d e) p ms l few m f h =
      let hs = every_parts (Held sizes) (comparisons d.all p.place) (printed_of e (in_guard d p.place)) h in
      let t = tests-ok sizes (depth p) d.all p.place hs.0 in (
        if-flat (tests_of (depth p) d.all) (loops_at e (into_guard d p) (through_child 0 ms)) l (omega (arith, m))
            (λ k q. record { levels = omega (arith, t.levels, q, m); longest = omega (arith, t.longest) })
            (λ k q. loops-flat e (into_guard d p) (through_child 0 ms) k (omega (arith, few)) (omega (arith, q, m)) f hs.1),
        tt,
      )
  loops-flat (let_in b e) p ms l few m f h =
      let hs = every_parts (Held sizes) (printed_of b (in_definition b p.place)) (printed_of e (in_body b p.place)) h.1.1 in
      let x = left-most (node_depth b) (node_depth e) in
      let y = right-most (node_depth b) (node_depth e) in
      let ns = shape_at b p.place in (
        zero-flat region (tree_at p p.place.free) (tree_at p (length_form (shape_at b p.place))) l (omega (arith, m))
            (plain-ok sizes (depth p) p.place.free p.place h.0)
            (printed-ok sizes (depth p) (length_printed ns p.place) (length_form ns) (words-raw ns) h.1.0),
        all-append (Flat l) (loops_at b (into_definition b p) (through_child 0 ms)) (loops_at e (into_body b p) (through_child 1 ms))
            (loops-flat b (into_definition b p) (through_child 0 ms) l (omega (arith, few, x)) (omega (arith, m, x)) f.0 hs.0)
            (loops-flat e (into_body b p) (through_child 1 ms) l (omega (arith, few, y)) (omega (arith, m, y)) f.1 hs.1),
      )
  loops-flat (add b e) p ms l few m f h =
      let x = left-most (node_depth b) (node_depth e) in
      let y = right-most (node_depth b) (node_depth e) in
      add-flat b e p ms l few m f
      (λ hs. loops-flat b (adding p) (through_child 0 ms) l (omega (arith, few, x)) (omega (arith, m, x)) f.0 hs)
      (λ hs. loops-flat e (adding p) (through_child 1 ms) l (omega (arith, few, y)) (omega (arith, m, y)) f.1 hs) (adds_words b e (shapes p.place)) h
  loops-flat (concat b e) p ms l few m f h =
      let hs = every_parts (Held sizes) (printed_of b p.place) (printed_of e (on_right b p.place)) h in
      let x = left-most (node_depth b) (node_depth e) in
      let y = right-most (node_depth b) (node_depth e) in
      all-append (Flat l) (loops_at b p (through_child 0 ms)) (loops_at e (onto_right b p) (through_child 1 ms))
      (loops-flat b p (through_child 0 ms) l (omega (arith, few, x)) (omega (arith, m, x)) f.0 hs.0)
      (loops-flat e (onto_right b p) (through_child 1 ms) l (omega (arith, few, y)) (omega (arith, m, y)) f.1 hs.1)
  loops-flat (flatten e) p ms l few m f h = loops-flat e (into_flatten e p) (through_child 0 ms) l (omega (arith, few)) (omega (arith, m)) f h
  loops-flat (split k e) p ms l few m f h = loops-flat e (under_frame (Tiled k) p) (through_child 0 ms) l (omega (arith, few)) (omega (arith, m)) f h
  loops-flat (transpose e) p ms l few m f h = loops-flat e (under_frame Swapped p) (through_child 0 ms) l (omega (arith, few)) (omega (arith, m)) f h
  loops-flat (trunc_l n e) p ms l few m f h = loops-flat e (under_frame (Without n) p) (through_child 0 ms) l (omega (arith, few)) (omega (arith, m)) f h
  loops-flat (trunc_r n e) p ms l few m f h = loops-flat e (into_truncr n e p) (through_child 0 ms) l (omega (arith, few)) (omega (arith, m)) f h
  loops-flat (pad_l n e) p ms l few m f h = loops-flat e (under_frame (Later n) p) (through_child 0 ms) l (omega (arith, few)) (omega (arith, m)) f h
  loops-flat (pad_r n e) p ms l few m f h = loops-flat e p (through_child 0 ms) l (omega (arith, few)) (omega (arith, m)) f h
