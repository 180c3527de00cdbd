-- The words that are stored are well formed.
use Rattle.std.proofs.Common.{◌≡◌, ℕ, zero, suc, true, false, not, List, [], ◌∷◌, length, get_or, Option, Some, None, Ok}
use Rattle.std.proofs.Common.{refl, sym, ap, ◌∙◌, subst, arith}
use Rattle.std.proofs.lemmas.Bool.{and_from, and_parts}
use Rattle.affine_index.specs.declared.cond.Cmp.{Cmp}
use Rattle.affine_index.specs.declared.cond.Cmp.TheVariants.{Ge, Eq}
use Rattle.affine_index.specs.declared.cond.Cond.{Cond}
use Rattle.affine_index.specs.declared.form.Items.{Items}
use Rattle.fact_list.specs.Facts.{binders}
use Rattle.index_trees.specs.Tree.{index_tree}
use Rattle.loop_lang.specs.Form.{buffer_there, each_test_formed, index_formed, is_empty, tests_formed, word_formed}
use Rattle.loop_lang.specs.declared.word.Buf.{Buf}
use Rattle.loop_lang.specs.declared.word.Buf.TheVariants.{Output}
use Rattle.loop_lang.specs.declared.stmt.Prog.{Prog}
use Rattle.loop_lang.proofs.WordForms.{word_sum-is, word_difference-is, word_product-is, word_choice-is}
use Rattle.loop_lang.specs.declared.word.Wexp.TheVariants as word
use Rattle.term_tree.specs.declared.term.Term.{Term, Lit, TVar, WordOf}
use Rattle.term_tree.specs.Syntax.{index, gen, sum, guard, let_in, add, sub, mul, concat, flatten, split, transpose, trunc_l, trunc_r, pad_l, pad_r}
use Rattle.term_tree.specs.Scope.{cond_scoped, term_scoped}
use Rattle.term_tree.specs.Scope.{is_empty as none_at_all}
use Rattle.affine_index.specs.Condition.{all_scoped}
use Rattle.final_rules.specs.declared.read.Read.{Read}
use Rattle.final_rules.specs.Form.{read_under}
use Rattle.final_rules.specs.Owed.{tests_of}
use Rattle.final_rules.specs.Places.{Place, in_guard, read_form}
use Rattle.final_rules.specs.Printed.{Printed, comparisons, plain, read_place, read_place_if, scope_of, word_printed}
use Rattle.final_rules.proofs.Raw.{plain-raw, read-raw}
use Rattle.final_rules.proofs.Walk.{Every, binders-holds, every_parts, scope-length}
use Rattle.lowering_laws.specs.Contexts.{Context, depth, into_guard}
use Rattle.lowering_laws.specs.Lowered.{loaded, loaded_if, word_at}
use Rattle.lowering_laws.proofs.PrintedHeld.{Held}
use Rattle.lowering_laws.proofs.TreeFormed.{tree_formed}

module _ (prog : Prog) where
  -- a form that is printed at a place
  pub here : (p : Place) (i : Printed) (raw : Items) → i.scope ≡ scope_of p.spot.path → ((x : Items) → i.form ≡ Ok x → raw ≡ x) → Held prog.sizes i
      → index_formed prog.sizes false (index_tree (binders p.spot.path) raw) (binders p.spot.path) ≡ true
  here p i raw e same h =
      let d : length i.scope ≡ binders p.spot.path = ap length e ∙ scope-length p.spot.path [] ∙ omega arith in
      subst (λ k. index_formed prog.sizes false (index_tree k raw) k ≡ true) d
      (subst (λ x. index_formed prog.sizes false (index_tree (length i.scope) x) (length i.scope) ≡ true) (sym (same h.0 h.1))
      (tree_formed prog.sizes (length i.scope) false h.0 h.2 h.3))

  pub plain-here : (p : Place) (x : Items) → Held prog.sizes (plain x p)
      → index_formed prog.sizes false (index_tree (binders p.spot.path) x) (binders p.spot.path) ≡ true
  plain-here p x h = here p (plain x p) x refl (plain-raw x) h

  each-test : (cs : List Cmp) (p : Place) → Every (Held prog.sizes) (comparisons cs p)
      → each_test_formed prog.sizes (tests_of (binders p.spot.path) cs) (binders p.spot.path) ≡ true
  each-test [] p h = refl
  each-test (Ge x ∷ cs) p h = and_from _ _ (plain-here p x h.0) (each-test cs p h.1)
  each-test (Eq x ∷ cs) p h = and_from _ _ (plain-here p x h.0) (each-test cs p h.1)

  some-tests : (cs : List Cmp) (loops : ℕ) → not (none_at_all cs) ≡ true → not (is_empty (tests_of loops cs)) ≡ true
  some-tests [] loops h = h
  some-tests (c ∷ cs) loops h = refl

  pub tests-here : (c : Cond) (p : Place) (sizes v : ℕ) → cond_scoped sizes v c ≡ true → Every (Held prog.sizes) (comparisons c.all p)
      → tests_formed prog.sizes (tests_of (binders p.spot.path) c.all) (binders p.spot.path) ≡ true
  tests-here c p sizes v k h =
      let some = (and_parts (not (none_at_all c.all)) (all_scoped sizes v c.all) k).0 in
      and_from _ _ (some-tests c.all (binders p.spot.path) some) (each-test c.all p h)

  -- each buffer that is read is there
  abbrev pub AllThere : List Buf → Type 0
  AllThere = Every (λ b. buffer_there prog b ≡ true)

  there-at : (bs : List Buf) (q : ℕ) → AllThere bs → buffer_there prog (Output 0) ≡ true → buffer_there prog (get_or bs q (Output 0)) ≡ true
  there-at [] q h d = d
  there-at (b ∷ bs) zero h d = h.0
  there-at (b ∷ bs) (suc q) h d = there-at bs q h.1 d

  module _ (first : buffer_there prog (Output 0) ≡ true) where
    pub load-formed : (d : Read) (p : Context) → AllThere p.buffers → Held prog.sizes (read_place d p.place) → word_formed prog (loaded d p) (depth p) ≡ true
    load-formed d p b h =
        and_from _ _ (there-at p.buffers d.var b first) (here p.place (read_place d p.place) (read_form d p.place) refl (read-raw d p.place) h)

    load-formed-if : (o : Option Read) (p : Context) → AllThere p.buffers → Every (Held prog.sizes) (read_place_if o p.place)
        → word_formed prog (loaded_if o p) (depth p) ≡ true
    load-formed-if None p b h = refl
    load-formed-if (Some d) p b h = load-formed d p b h.0

    pub word-formed : (e : Term) (p : Context) (sizes v t : ℕ) → term_scoped sizes e v t ≡ true → AllThere p.buffers
        → Every (Held prog.sizes) (word_printed e p.place) → word_formed prog (word_at e p) (depth p) ≡ true
    word-formed (Lit w) p sizes v t c b h = refl
    word-formed (WordOf x) p sizes v t c b h = plain-here p.place x h.0
    word-formed (TVar q) p sizes v t c b h = load-formed-if (read_under (TVar q) []) p b h
    word-formed (index e x) p sizes v t c b h = load-formed-if (read_under (index e x) []) p b h
    word-formed (guard d e) p sizes v t c b h =
        let cs = and_parts (cond_scoped sizes v d) (term_scoped sizes e v t) c in
        let hs = every_parts (Held prog.sizes) (comparisons d.all p.place) (word_printed e (in_guard d p.place)) h in
        let inner = subst (λ k. word_formed prog (word_at e (into_guard d p)) k ≡ true) (binders-holds p.place.spot.path d)
        (word-formed e (into_guard d p) sizes v t cs.1 b hs.1) in
        ap (λ w. word_formed prog w (depth p)) (word_choice-is (tests_of (depth p) d.all) (word_at e (into_guard d p)) (word.Lit 0))
        ∙ and_from _ _ (tests-here d p.place sizes v cs.0 hs.0) (and_from _ _ inner refl)
    word-formed (add a e) p sizes v t c b h =
        let cs = and_parts (term_scoped sizes a v t) (term_scoped sizes e v t) c in
        let hs = every_parts (Held prog.sizes) (word_printed a p.place) (word_printed e p.place) h in
        ap (λ w. word_formed prog w (depth p)) (word_sum-is (word_at a p) (word_at e p))
        ∙ and_from _ _ (word-formed a p sizes v t cs.0 b hs.0) (word-formed e p sizes v t cs.1 b hs.1)
    word-formed (sub a e) p sizes v t c b h =
        let cs = and_parts (term_scoped sizes a v t) (term_scoped sizes e v t) c in
        let hs = every_parts (Held prog.sizes) (word_printed a p.place) (word_printed e p.place) h in
        ap (λ w. word_formed prog w (depth p)) (word_difference-is (word_at a p) (word_at e p))
        ∙ and_from _ _ (word-formed a p sizes v t cs.0 b hs.0) (word-formed e p sizes v t cs.1 b hs.1)
    word-formed (mul a e) p sizes v t c b h =
        let cs = and_parts (term_scoped sizes a v t) (term_scoped sizes e v t) c in
        let hs = every_parts (Held prog.sizes) (word_printed a p.place) (word_printed e p.place) h in
        ap (λ w. word_formed prog w (depth p)) (word_product-is (word_at a p) (word_at e p))
        ∙ and_from _ _ (word-formed a p sizes v t cs.0 b hs.0) (word-formed e p sizes v t cs.1 b hs.1)
    word-formed (gen n e) p sizes v t c b h = refl
    word-formed (sum n e) p sizes v t c b h = refl
    word-formed (let_in a e) p sizes v t c b h = refl
    word-formed (concat a e) p sizes v t c b h = refl
    word-formed (flatten e) p sizes v t c b h = refl
    word-formed (split k e) p sizes v t c b h = refl
    word-formed (transpose e) p sizes v t c b h = refl
    word-formed (trunc_l a e) p sizes v t c b h = refl
    word-formed (trunc_r a e) p sizes v t c b h = refl
    word-formed (pad_l a e) p sizes v t c b h = refl
    word-formed (pad_r a e) p sizes v t c b h = refl
