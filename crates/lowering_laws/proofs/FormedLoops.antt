-- The statements of a term are well formed.
use Rattle.std.proofs.Common.{◌≡◌, ℕ, suc, ◌+◌, ◌<◌, Bool, true, false, ◌&&◌, nat_lt, nat_le, List, [], ◌∷◌, ◌++◌, Option, Some, None}
use Rattle.std.proofs.Common.{refl, ap, ◌∙◌}
use Rattle.std.proofs.Common.{subst, arith, if◌then◌else◌}
use Rattle.std.proofs.lemmas.Bool.{and_from, and_parts, lt-ltb}
use Rattle.affine_index.specs.Limited.{items_scoped}
use Rattle.affine_index.specs.declared.form.Items.{Items}
use Rattle.loop_lang.specs.Actions.{Mode, Puts, Adds}
use Rattle.loop_lang.specs.Form.{Formed, buffer_there, either, formed_step, mark_formed, stmt_formed, store_formed, target_there}
use Rattle.loop_lang.specs.Form.{tests_formed}
use Rattle.loop_lang.specs.Form.{word_formed}
use Rattle.loop_lang.specs.declared.index.Iexp.{Iexp}
use Rattle.loop_lang.specs.declared.index.Test.{Test}
use Rattle.loop_lang.specs.declared.word.Buf.{Buf}
use Rattle.loop_lang.specs.declared.word.Buf.TheVariants.{Output}
use Rattle.loop_lang.specs.declared.word.Wexp.{Wexp}
use Rattle.loop_lang.specs.declared.stmt.Prog.{Prog}
use Rattle.loop_lang.specs.declared.stmt.Stmt.{Stmt}
use Rattle.loop_lang.specs.declared.stmt.Stmt.TheVariants.{Seq, If}
use Rattle.loop_lang.proofs.StatementForms.{fold-if}
use Rattle.loop_lang.proofs.Statements.{all_formed, formed-add_to, formed-for, formed-put, formed-seq, formed-zero}
use Rattle.term_tree.specs.declared.term.Term.{Term, Lit, TVar, WordOf}
use Rattle.term_tree.specs.Syntax.{index, gen, sum, guard, let_in, add, sub, mul, concat, flatten, split, transpose, trunc_l, trunc_r, pad_l, pad_r}
use Rattle.term_tree.specs.Scope.{cond_scoped, largest_tile, term_scoped}
use Rattle.term_tree.specs.Shape.{Extents}
use Rattle.term_tree.proofs.Folds.{fold-gen, fold-sum, fold-guard, fold-let_in, fold-add, fold-concat, fold-flatten, fold-split, fold-transpose, fold-trunc_l}
use Rattle.term_tree.proofs.Folds.{fold-trunc_r, fold-pad_l, fold-pad_r}
use Rattle.final_rules.specs.declared.read.Read.{Read}
use Rattle.final_rules.specs.declared.spot.Around.TheVariants.{Swapped, Tiled, Later, Without}
use Rattle.final_rules.specs.Form.{adds_words, one_deeper, read_under}
use Rattle.final_rules.specs.Owed.{tests_of}
use Rattle.final_rules.specs.Places.{in_body, in_definition, in_guard, length_form, on_right, shape_at, shapes}
use Rattle.final_rules.specs.Places.{store_form}
use Rattle.final_rules.specs.Printed.{comparisons, full_read_printed, full_read_printed_if, leaf_printed, length_printed, plain, printed_of, store_place}
use Rattle.final_rules.specs.Rules.{has_let, let_step}
use Rattle.final_rules.proofs.Raw.{store-raw, words-raw}
use Rattle.final_rules.proofs.Walk.{Every, binders-bound, binders-holds, every_parts}
use Rattle.lowering_laws.specs.Contexts.{Context, adding, depth, into_body, into_definition, into_flatten, into_gen, into_guard, into_sum, into_truncr}
use Rattle.lowering_laws.specs.Contexts.{onto_right}
use Rattle.lowering_laws.specs.Contexts.{region, tree_at, under_frame}
use Rattle.lowering_laws.specs.Lowered.{full_read, full_read_if, leaf, loaded, loop_to, loops_at, stored, stored_by, word_at}
use Rattle.lowering_laws.specs.Marks.{Marks, is_marked, through_child}
use Rattle.lowering_laws.proofs.Apart.{Apart, apart-through, marked-alone}
use Rattle.lowering_laws.proofs.FormedWords.{AllThere, here, load-formed, plain-here, tests-here, word-formed}
use Rattle.lowering_laws.proofs.PrintedHeld.{Held}
use Rattle.lowering_laws.proofs.Rooms.{HasRegion, region-left, region-right}

module _ (prog : Prog) where
  pub formed-append : (xs ys : List Stmt) (d : ℕ) (inside : Bool) → all_formed prog xs d inside ≡ true → all_formed prog ys d inside ≡ true
      → all_formed prog (xs ++ ys) d inside ≡ true
  formed-append [] ys d inside h g = g
  formed-append (x ∷ xs) ys d inside h g =
      let p = and_parts (stmt_formed prog x d inside) (all_formed prog xs d inside) h in
      and_from _ _ p.0 (formed-append xs ys d inside p.1 g)

  one-formed : (x : Stmt) (d : ℕ) (inside : Bool) → stmt_formed prog x d inside ≡ true → all_formed prog (x ∷ []) d inside ≡ true
  one-formed x d inside h = and_from _ _ h refl

  pub seq-formed : (xs : List Stmt) (d : ℕ) (inside : Bool) → all_formed prog xs d inside ≡ true → stmt_formed prog (Seq xs) d inside ≡ true
  seq-formed xs d inside h = (λ i. formed-seq prog xs i d inside) ∙ h

  if-formed : (cs : List Test) (x : Stmt) (d : ℕ) (inside : Bool) → tests_formed prog.sizes cs d ≡ true → stmt_formed prog x d inside ≡ true
      → stmt_formed prog (If cs x) d inside ≡ true
  if-formed cs x d inside h g = (λ i. fold-if (Formed prog) (formed_step prog) cs x i d inside) ∙ and_from _ _ h g

  stored-formed : (o : Mode) (b : Buf) (i : Iexp) (w : Wexp) (d : ℕ) (inside : Bool) → store_formed prog b i w d ≡ true
      → stmt_formed prog (stored_by o b i w) d inside ≡ true
  stored-formed Puts b i w d inside h = formed-put prog b i w d inside ∙ h
  stored-formed Adds b i w d inside h = formed-add_to prog b i w d inside ∙ h

  -- what is read is there, and so is what is stored in
  abbrev pub Fine : Context → Type 0
  Fine p = AllThere prog p.buffers × (target_there prog p.target ≡ true)

  pub place-formed : (p : Context) (w : Wexp) (inside : Bool) → target_there prog p.target ≡ true → Held prog.sizes (store_place p.place)
      → word_formed prog w (depth p) ≡ true → all_formed prog (stored p w) (depth p) inside ≡ true
  place-formed p w inside t h g =
      one-formed (stored_by p.mode p.target (tree_at p (store_form p.place)) w) (depth p) inside
      (stored-formed p.mode p.target (tree_at p (store_form p.place)) w (depth p) inside
      (and_from _ _ t (and_from _ _ (here prog p.place (store_place p.place) (store_form p.place) refl (store-raw p.place) h) g)))

  loop-formed : (n : Items) (marked : Bool) (p : Context) (body : List Stmt) (inside : Bool) → Held prog.sizes (plain n p.place)
      → mark_formed prog marked inside ≡ true → all_formed prog body (suc (depth p)) (either prog marked inside) ≡ true
      → all_formed prog (loop_to n marked p body) (depth p) inside ≡ true
  loop-formed n marked p body inside h m g =
      let more : suc (depth p) ≡ depth p + 1 = omega arith in
      one-formed _ (depth p) inside
      (formed-for prog (tree_at p n) marked (Seq body) (depth p) inside
      ∙ and_from _ _ (plain-here prog p.place n h) (and_from _ _ m
      (seq-formed body (depth p + 1) (either prog marked inside) (subst (λ d. all_formed prog body d (either prog marked inside) ≡ true) more g))))

  module _ (first : buffer_there prog (Output 0) ≡ true) where
    leaf-formed : (e : Term) (p : Context) (sizes v t : ℕ) (inside : Bool) → term_scoped sizes e v t ≡ true → Fine p
        → Every (Held prog.sizes) (leaf_printed e p.place) → all_formed prog (leaf e p) (depth p) inside ≡ true
    leaf-formed e p sizes v t inside c f h = place-formed p (word_at e p) inside f.1 h.0 (word-formed prog first e p sizes v t c f.0 h.1)

    read-formed : (ns : Extents) (d : Read) (p : Context) (inside : Bool) → Fine p → Every (Held prog.sizes) (full_read_printed ns d p.place)
        → all_formed prog (full_read ns d p) (depth p) inside ≡ true
    read-formed [] d p inside f h = place-formed p (loaded d p) inside f.1 h.0 (load-formed prog first d p f.0 h.1.0)
    read-formed (n ∷ ns) d p inside f h =
        loop-formed n false p (full_read ns (one_deeper d) (into_gen n p)) inside h.0 refl
        (subst (λ k. all_formed prog (full_read ns (one_deeper d) (into_gen n p)) k inside ≡ true) (binders-bound p.place.spot.path n)
        (read-formed ns (one_deeper d) (into_gen n p) inside f h.1))

    read-formed-if : (ns : Extents) (o : Option Read) (p : Context) (inside : Bool) → Fine p → Every (Held prog.sizes) (full_read_printed_if ns o p.place)
        → all_formed prog (full_read_if ns o p) (depth p) inside ≡ true
    read-formed-if ns None p inside f h = refl
    read-formed-if ns (Some d) p inside f h = read-formed ns d p inside f h

    -- under a marked loop nothing is marked
    abbrev pub Unmarked : Bool → Marks → Type 0
    Unmarked inside ms = inside ≡ true → ms ≡ []

    inner : (k : ℕ) (inside : Bool) (ms : Marks) → Unmarked inside ms → Unmarked inside (through_child k ms)
    inner k inside ms h e = ap (through_child k) (h e)

    mark-fits : (marked inside : Bool) (ms : Marks) → is_marked ms ≡ marked → Unmarked inside ms → mark_formed prog marked inside ≡ true
    mark-fits true true ms e h = absurd (let none : is_marked ms ≡ false = ap is_marked (h refl) in cc)
    mark-fits true false ms e h = refl
    mark-fits false inside ms e h = refl

    under-mark : (marked inside : Bool) (ms : Marks) → is_marked ms ≡ marked → Apart ms → Unmarked inside ms
        → Unmarked (either prog marked inside) (through_child 0 ms)
    under-mark true inside ms e a h q = marked-alone 0 ms a e
    under-mark false inside ms e a h q = inner 0 inside ms h q

    add-formed : (a e : Term) (p : Context) (ms : Marks) (sizes v t : ℕ) (inside : Bool) → term_scoped sizes (add a e) v t ≡ true → Fine p
        → (Every (Held prog.sizes) (printed_of a p.place) → all_formed prog (loops_at a (adding p) (through_child 0 ms)) (depth p) inside ≡ true)
        → (Every (Held prog.sizes) (printed_of e p.place) → all_formed prog (loops_at e (adding p) (through_child 1 ms)) (depth p) inside ≡ true) → (w : Bool)
        → Every (Held prog.sizes) (if w then leaf_printed (add a e) p.place else (printed_of a p.place ++ printed_of e p.place))
        → all_formed prog (if w then leaf (add a e) p else (loops_at a (adding p) (through_child 0 ms) ++ loops_at e (adding p) (through_child 1 ms)))
        (depth p) inside ≡ true
    add-formed a e p ms sizes v t inside c f left right true h = leaf-formed (add a e) p sizes v t inside c f h
    add-formed a e p ms sizes v t inside c f left right false h =
        let hs = every_parts (Held prog.sizes) (printed_of a p.place) (printed_of e p.place) h in
        formed-append (loops_at a (adding p) (through_child 0 ms)) (loops_at e (adding p) (through_child 1 ms)) (depth p) inside (left hs.0) (right hs.1)

    pub loops-formed : (e : Term) (p : Context) (ms : Marks) (sizes v t : ℕ) (inside : Bool) → term_scoped sizes e v t ≡ true → Apart ms → Unmarked inside ms
        → HasRegion prog.scratch e → Fine p → Every (Held prog.sizes) (printed_of e p.place) → all_formed prog (loops_at e p ms) (depth p) inside ≡ true
    loops-formed (Lit w) p ms sizes v t inside c a u r f h = leaf-formed (Lit w) p sizes v t inside c f h
    loops-formed (WordOf x) p ms sizes v t inside c a u r f h = leaf-formed (WordOf x) p sizes v t inside c f h
    loops-formed (TVar q) p ms sizes v t inside c a u r f h = read-formed-if (shape_at (TVar q) p.place) (read_under (TVar q) []) p inside f h
    loops-formed (index e x) p ms sizes v t inside c a u r f h = read-formed-if (shape_at (index e x) p.place) (read_under (index e x) []) p inside f h
    loops-formed (sub b e) p ms sizes v t inside c a u r f h = leaf-formed (sub b e) p sizes v t inside c f h
    loops-formed (mul b e) p ms sizes v t inside c a u r f h = leaf-formed (mul b e) p sizes v t inside c f h
    loops-formed (gen n e) p ms sizes v t inside c a u r f h =
        let cs = and_parts (items_scoped sizes 0 n) (term_scoped sizes e (v + 1) t) c in
        let w = is_marked ms in
        let body = loops_at e (into_gen n p) (through_child 0 ms) in
        loop-formed n w p body inside h.0 (mark-fits w inside ms refl u)
        (subst (λ k. all_formed prog body k (either prog w inside) ≡ true) (binders-bound p.place.spot.path n)
        (loops-formed e (into_gen n p) (through_child 0 ms) sizes (v + 1) t (either prog w inside) cs.1 (apart-through 0 ms a) (under-mark w inside ms refl a u)
        (λ q. r (fold-gen Bool let_step n e ∙ q)) f h.1))
    loops-formed (sum n e) p ms sizes v t inside c a u r f h =
        let cs = and_parts (items_scoped sizes 0 n) (term_scoped sizes e (v + 1) t) c in
        let body = loops_at e (into_sum n p) (through_child 0 ms) in
        loop-formed n false p body inside h.0 refl
        (subst (λ k. all_formed prog body k inside ≡ true) (binders-bound p.place.spot.path n)
        (loops-formed e (into_sum n p) (through_child 0 ms) sizes (v + 1) t inside cs.1 (apart-through 0 ms a) (inner 0 inside ms u)
        (λ q. r (fold-sum Bool let_step n e ∙ q)) f h.1))
    loops-formed (guard d e) p ms sizes v t inside c a u r f h =
        let cs = and_parts (cond_scoped sizes v d) (term_scoped sizes e v t) c in
        let hs = every_parts (Held prog.sizes) (comparisons d.all p.place) (printed_of e (in_guard d p.place)) h in
        let body = loops_at e (into_guard d p) (through_child 0 ms) in
        one-formed (If (tests_of (depth p) d.all) (Seq body)) (depth p) inside
        (if-formed (tests_of (depth p) d.all) (Seq body) (depth p) inside (tests-here prog d p.place sizes v cs.0 hs.0)
        (seq-formed body (depth p) inside (subst (λ k. all_formed prog body k inside ≡ true) (binders-holds p.place.spot.path d)
        (loops-formed e (into_guard d p) (through_child 0 ms) sizes v t inside cs.1 (apart-through 0 ms a) (inner 0 inside ms u)
        (λ q. r (fold-guard Bool let_step d e ∙ q)) f hs.1))))
    loops-formed (let_in b e) p ms sizes v t inside c a u r f h =
        let cs = and_parts (term_scoped sizes b v t) (term_scoped sizes e v (t + 1)) c in
        let hs = every_parts (Held prog.sizes) (printed_of b (in_definition b p.place)) (printed_of e (in_body b p.place)) h.1.1 in
        let some : 0 < prog.scratch = r (fold-let_in Bool let_step b e) in
        let there : nat_lt 0 prog.scratch ≡ true = lt-ltb 0 prog.scratch some in
        let la = loops_at b (into_definition b p) (through_child 0 ms) in
        let lb = loops_at e (into_body b p) (through_child 1 ms) in
        let ns = shape_at b p.place in
        let words = here prog p.place (length_printed ns p.place) (length_form ns) refl (words-raw ns) h.1.0 in
        and_from _ _
        (formed-zero prog region (tree_at p p.place.free) (tree_at p (length_form (shape_at b p.place))) (depth p) inside
        ∙ and_from _ _ there (and_from _ _ (plain-here prog p.place p.place.free h.0) words))
        (formed-append la lb (depth p) inside
        (loops-formed b (into_definition b p) (through_child 0 ms) sizes v t inside cs.0 (apart-through 0 ms a) (inner 0 inside ms u) (λ q. some)
        (f.0, there) hs.0)
        (loops-formed e (into_body b p) (through_child 1 ms) sizes v (t + 1) inside cs.1 (apart-through 1 ms a) (inner 1 inside ms u) (λ q. some)
        ((there, f.0), f.1) hs.1))
    loops-formed (add b e) p ms sizes v t inside c a u r f h =
        let cs = and_parts (term_scoped sizes b v t) (term_scoped sizes e v t) c in
        let q = fold-add Bool let_step b e in
        add-formed b e p ms sizes v t inside c f
        (λ g. loops-formed b (adding p) (through_child 0 ms) sizes v t inside cs.0 (apart-through 0 ms a) (inner 0 inside ms u)
        (region-left prog.scratch b e (has_let (add b e)) r q) f g)
        (λ g. loops-formed e (adding p) (through_child 1 ms) sizes v t inside cs.1 (apart-through 1 ms a) (inner 1 inside ms u)
        (region-right prog.scratch b e (has_let (add b e)) r q) f g)
        (adds_words b e (shapes p.place)) h
    loops-formed (concat b e) p ms sizes v t inside c a u r f h =
        let cs = and_parts (term_scoped sizes b v t) (term_scoped sizes e v t) c in
        let hs = every_parts (Held prog.sizes) (printed_of b p.place) (printed_of e (on_right b p.place)) h in
        let q = fold-concat Bool let_step b e in
        formed-append (loops_at b p (through_child 0 ms)) (loops_at e (onto_right b p) (through_child 1 ms)) (depth p) inside
        (loops-formed b p (through_child 0 ms) sizes v t inside cs.0 (apart-through 0 ms a) (inner 0 inside ms u)
        (region-left prog.scratch b e (has_let (concat b e)) r q) f hs.0)
        (loops-formed e (onto_right b p) (through_child 1 ms) sizes v t inside cs.1 (apart-through 1 ms a) (inner 1 inside ms u)
        (region-right prog.scratch b e (has_let (concat b e)) r q) f hs.1)
    loops-formed (flatten e) p ms sizes v t inside c a u r f h =
        loops-formed e (into_flatten e p) (through_child 0 ms) sizes v t inside c (apart-through 0 ms a) (inner 0 inside ms u)
        (λ q. r (fold-flatten Bool let_step e ∙ q)) f h
    loops-formed (split k e) p ms sizes v t inside c a u r f h =
        loops-formed e (under_frame (Tiled k) p) (through_child 0 ms) sizes v t inside
        (and_parts (nat_lt 0 k && nat_le k largest_tile) (term_scoped sizes e v t) c).1
        (apart-through 0 ms a) (inner 0 inside ms u) (λ q. r (fold-split Bool let_step k e ∙ q)) f h
    loops-formed (transpose e) p ms sizes v t inside c a u r f h =
        loops-formed e (under_frame Swapped p) (through_child 0 ms) sizes v t inside c (apart-through 0 ms a) (inner 0 inside ms u)
        (λ q. r (fold-transpose Bool let_step e ∙ q)) f h
    loops-formed (trunc_l n e) p ms sizes v t inside c a u r f h =
        loops-formed e (under_frame (Without n) p) (through_child 0 ms) sizes v t inside (and_parts (items_scoped sizes 0 n) (term_scoped sizes e v t) c).1
        (apart-through 0 ms a) (inner 0 inside ms u) (λ q. r (fold-trunc_l Bool let_step n e ∙ q)) f h
    loops-formed (trunc_r n e) p ms sizes v t inside c a u r f h =
        loops-formed e (into_truncr n e p) (through_child 0 ms) sizes v t inside (and_parts (items_scoped sizes 0 n) (term_scoped sizes e v t) c).1
        (apart-through 0 ms a) (inner 0 inside ms u) (λ q. r (fold-trunc_r Bool let_step n e ∙ q)) f h
    loops-formed (pad_l n e) p ms sizes v t inside c a u r f h =
        loops-formed e (under_frame (Later n) p) (through_child 0 ms) sizes v t inside (and_parts (items_scoped sizes 0 n) (term_scoped sizes e v t) c).1
        (apart-through 0 ms a) (inner 0 inside ms u) (λ q. r (fold-pad_l Bool let_step n e ∙ q)) f h
    loops-formed (pad_r n e) p ms sizes v t inside c a u r f h =
        loops-formed e p (through_child 0 ms) sizes v t inside (and_parts (items_scoped sizes 0 n) (term_scoped sizes e v t) c).1
        (apart-through 0 ms a) (inner 0 inside ms u) (λ q. r (fold-pad_r Bool let_step n e ∙ q)) f h
