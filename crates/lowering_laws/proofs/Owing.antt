-- What an accepted term stays within is what its loops are owed.
use Rattle.std.proofs.Common.{◌≡◌, ℕ, ◌+◌, ◌<◌, ◌≤◌, List, [], ◌∷◌, ◌++◌, Option, Some, None, refl, sym, ap, ◌∙◌, subst, arith}
use Rattle.std.proofs.Common.{Bool, true, false, ◌&&◌, nat_lt, nat_le}
use Rattle.std.specs.Prelude.{pos, negsuc}
use Rattle.std.proofs.lemmas.Bool.{and_parts}
use Rattle.affine_index.specs.Condition.{at_least_zero}
use Rattle.affine_index.specs.Limited.{items_scoped}
use Rattle.affine_index.specs.Normal.{is_normal}
use Rattle.affine_index.specs.Sum.{scaled}
use Rattle.affine_index.specs.Value.{items_value}
use Rattle.affine_index.specs.declared.form.Items.{Items}
use Rattle.affine_index.proofs.ArithmeticLaws.{normal-ordered}
use Rattle.affine_index.proofs.FormScopes.{form-of, of-form, scaled-form}
use Rattle.loop_lang.specs.Reckoning.{Value}
use Rattle.reindexer.specs.Good.{GoodFrames}
use Rattle.reindexer.proofs.SendLaws.{below_is, tile_positive}
use Rattle.region_plan.proofs.NeedLaws.{shape_values}
use Rattle.shape_rules.specs.Meant.{HasMeaning}
use Rattle.shape_rules.specs.Parts.{EachPart}
use Rattle.shape_rules.specs.Values.{HaveValues, NoneNegative}
use Rattle.shape_rules.proofs.FreeForms.{IsFree, scoped_free}
use Rattle.shape_rules.proofs.RuleValues.{extent_pos, negative_parts}
use Rattle.term_tree.specs.declared.term.Term.{Term, Lit, TVar, WordOf}
use Rattle.term_tree.specs.Syntax.{index, gen, sum, guard, let_in, add, sub, mul, concat, flatten, split, transpose, trunc_l, trunc_r, pad_l, pad_r}
use Rattle.term_tree.specs.Goals.{rest_after, term_goals}
use Rattle.term_tree.specs.Limits.{each_cmp, every_form, form_step}
use Rattle.term_tree.specs.Meaning.{count_of, dims, extent, head_of, tail_of}
use Rattle.term_tree.specs.Modules.{extents_at}
use Rattle.term_tree.specs.Scope.{cond_scoped, largest_tile, term_scoped}
use Rattle.term_tree.specs.Shape.{Extents}
use Rattle.term_tree.specs.Shaped.{word_count}
use Rattle.term_tree.proofs.Folds.{fold-index, fold-gen, fold-sum, fold-guard, fold-let_in, fold-add, fold-concat, fold-flatten, fold-split, fold-transpose}
use Rattle.term_tree.proofs.Folds.{fold-trunc_l, fold-trunc_r, fold-pad_l, fold-pad_r}
use Rattle.final_rules.specs.declared.read.Read.{Read}
use Rattle.final_rules.specs.declared.spot.Around.TheVariants.{Swapped, Tiled, Later, Without}
use Rattle.final_rules.specs.Form.{Node, adds_words, both_words, first_node, in_child, is_none, no_extents, one_deeper, outside, read_under, unless}
use Rattle.final_rules.specs.Good.{FramesHere, NodesGood}
use Rattle.final_rules.specs.Owed.{Fits, FullReadFits, FullReadFitsIf, LeafFits, Numbered, either}
use Rattle.final_rules.specs.Places.{Place, before_end, first_of, free_after, frames_of, in_body, in_definition, in_flatten, in_gen, in_guard}
use Rattle.final_rules.specs.Places.{in_sum, in_truncr, joined_by, length_form, on_right, rest_of, right_of, shape_at, shapes, under_node}
use Rattle.final_rules.specs.Printed.{largest_index}
use Rattle.lowering_laws.specs.Owes.{AllOrdered, FullReadOwes, FullReadOwesIf, LeafOwes, LetOwes, Owes, ReadOwes, Room, VarsThere}
use Rattle.lowering_laws.specs.Sending.{goes}
use Rattle.lowering_laws.proofs.Going.{IsCount}
use Rattle.lowering_laws.proofs.Lying.{Lying, Target, after-value, extents-are, first-counts, first-value, free-first, free-rest, free-shape, in-body}
use Rattle.lowering_laws.proofs.Lying.{in-definition, let-values, no-extents, rest-values}
use Rattle.lowering_laws.proofs.Storing.{store-placed}
use Rattle.lowering_laws.proofs.Turning.{Lands, Turning, gen-lands, good-lands, turn-alone, turn-gen, turn-guard, turn-inside, turn-sum}

child-none : (k : ℕ) (o : Node) → in_child k o ≡ None → o ≡ None
child-none k None h = refl
child-none k (Some ks) h = absurd (cc)

both-none : (a b : Node) → first_node a b ≡ None → (a ≡ None) × (b ≡ None)
both-none None b h = (refl, h)
both-none (Some ks) b h = absurd (cc)

unless-true : (b : Bool) → unless b ≡ None → b ≡ true
unless-true true h = refl
unless-true false h = absurd (cc)

no-extents-nil : (ns : Extents) → no_extents ns ≡ true → ns ≡ []
no-extents-nil [] h = refl
no-extents-nil (n ∷ ns) h = absurd (cc)

-- the tensor variables of words are there
pub vars-there : (sizes : ℕ) (e : Term) (v t : ℕ) → term_scoped sizes e v t ≡ true → VarsThere e t
vars-there sizes (Lit w) v t h = tt
vars-there sizes (TVar q) v t h = below_is q t h
vars-there sizes (WordOf x) v t h = tt
vars-there sizes (index e x) v t h = vars-there sizes e v t (and_parts (term_scoped sizes e v t) (items_scoped sizes v x) h).0
vars-there sizes (gen n e) v t h = tt
vars-there sizes (sum n e) v t h = tt
vars-there sizes (guard c e) v t h = vars-there sizes e v t (and_parts (cond_scoped sizes v c) (term_scoped sizes e v t) h).1
vars-there sizes (let_in a b) v t h = tt
vars-there sizes (add a b) v t h =
    let p = and_parts (term_scoped sizes a v t) (term_scoped sizes b v t) h in (vars-there sizes a v t p.0, vars-there sizes b v t p.1)
vars-there sizes (sub a b) v t h =
    let p = and_parts (term_scoped sizes a v t) (term_scoped sizes b v t) h in (vars-there sizes a v t p.0, vars-there sizes b v t p.1)
vars-there sizes (mul a b) v t h =
    let p = and_parts (term_scoped sizes a v t) (term_scoped sizes b v t) h in (vars-there sizes a v t p.0, vars-there sizes b v t p.1)
vars-there sizes (concat a b) v t h = tt
vars-there sizes (flatten e) v t h = tt
vars-there sizes (split k e) v t h = tt
vars-there sizes (transpose e) v t h = tt
vars-there sizes (trunc_l n e) v t h = tt
vars-there sizes (trunc_r n e) v t h = tt
vars-there sizes (pad_l n e) v t h = tt
vars-there sizes (pad_r n e) v t h = tt

abbrev Normal : Term → Type 0
Normal e = every_form is_normal e ≡ true

-- the indices of a read are normal forms
abbrev IndicesOrdered : Option Read → Type 0
IndicesOrdered None = Unit {0}
IndicesOrdered (Some d) = AllOrdered d.indices

indices-ordered : (e : Term) (xs : List Items) → Normal e → AllOrdered xs → IndicesOrdered (read_under e xs)
indices-ordered (Lit w) xs n h = tt
indices-ordered (TVar q) xs n h = h
indices-ordered (WordOf x) xs n h = tt
indices-ordered (index e x) xs n h =
    let p = and_parts (every_form is_normal e) (is_normal x) (sym (fold-index Bool (form_step is_normal) e x) ∙ n) in
    indices-ordered e (x ∷ xs) p.0 (normal-ordered x p.1, h)
indices-ordered (gen m e) xs n h = tt
indices-ordered (sum m e) xs n h = tt
indices-ordered (guard c e) xs n h = tt
indices-ordered (let_in a b) xs n h = tt
indices-ordered (add a b) xs n h = tt
indices-ordered (sub a b) xs n h = tt
indices-ordered (mul a b) xs n h = tt
indices-ordered (concat a b) xs n h = tt
indices-ordered (flatten e) xs n h = tt
indices-ordered (split k e) xs n h = tt
indices-ordered (transpose e) xs n h = tt
indices-ordered (trunc_l a e) xs n h = tt
indices-ordered (trunc_r a e) xs n h = tt
indices-ordered (pad_l a e) xs n h = tt
indices-ordered (pad_r a e) xs n h = tt

module _ (sizes : ℕ) (s : List ℕ) where
  leaf : (e : Term) (p : Place) (v t : ℕ) (r y : List ℕ) (ds : List (List ℕ)) (es : List ℕ) (k : ℕ) → term_scoped sizes e v t ≡ true → dims e s ds ≡ []
      → Turning s p.spot r y → Lying s p.sites p.target p.free t ds es k → FramesHere s e p.spot y ds es → LeafFits s e p r y → LeafOwes s e p r y ds
  leaf e p v t r y ds es k c d g h q f =
      let good : GoodFrames s y (frames_of p.spot) [] es = subst (λ d. GoodFrames s y (frames_of p.spot) d es) d q in (
        store-placed s p r y es g h.target (good-lands s p.spot r y [] es g good) f.0,
        f.1,
        d,
        subst (VarsThere e) (sym h.many) (vars-there sizes e v t c),
      )

  -- a loop for each extent, and the full read inside
  full-read : (ns : Extents) (d : Read) (p : Place) (r y es : List ℕ) → Turning s p.spot r y → Target s p.target es
      → Lands s es (extents_at ns s) (goes s r p.spot.around Some) → FullReadFits s ns d p r y → FullReadOwes s ns d p r y
  full-read [] d p r y es g h l f = (store-placed s p r y es g h l f.0, f.1)
  full-read (n ∷ ns) d p r y es g h l f = (
    f.0.0,
    λ i low. full-read ns (one_deeper d) (in_gen n p) (r ++ i ∷ []) (i ∷ y) es (turn-gen s p.spot n r y i g) h
        (gen-lands s p.spot n r y (extents_at ns s) es i g low l) (f.1 i low),
  )

  full-read-if : (ns : Extents) (o : Option Read) (p : Place) (r y es : List ℕ) → Turning s p.spot r y → Target s p.target es
      → Lands s es (extents_at ns s) (goes s r p.spot.around Some) → IndicesOrdered o → FullReadFitsIf s ns o p r y → FullReadOwesIf s ns o p r y
  full-read-if ns None p r y es g h l i f = f
  full-read-if ns (Some d) p r y es g h l i f = (i, full-read ns d p r y es g h l f)

  read : (e : Term) (p : Place) (v t : ℕ) (r y : List ℕ) (ds : List (List ℕ)) (es : List ℕ) (k : ℕ) → term_scoped sizes e v t ≡ true
      → EachPart (HasMeaning s) e (shapes p) → Normal e → Turning s p.spot r y → Lying s p.sites p.target p.free t ds es k → FramesHere s e p.spot y ds es
      → FullReadFitsIf s (shape_at e p) (read_under e []) p r y → ReadOwes s e p r y ds
  read e p v t r y ds es k c m n g h q f =
      let same : extents_at (shape_at e p) s ≡ dims e s ds = extents-are s (shape_at e p) (dims e s ds) (shape_values s e (shapes p) ds m h.values) in
      let good : GoodFrames s y (frames_of p.spot) (extents_at (shape_at e p) s) es = subst (λ d. GoodFrames s y (frames_of p.spot) d es) (sym same) q in (
        same,
        subst (VarsThere e) (sym h.many) (vars-there sizes e v t c),
        full-read-if (shape_at e p) (read_under e []) p r y es g h.target (good-lands s p.spot r y (extents_at (shape_at e p) s) es g good)
            (indices-ordered e [] n tt) f,
      )

  let-owes : (a : Term) (p : Place) (v t : ℕ) (r y : List ℕ) (ds : List (List ℕ)) (es : List ℕ) (k : ℕ) (l : ℕ) (c : term_scoped sizes a v t ≡ true)
      (m : EachPart (HasMeaning s) a (shapes p)) (h : Lying s p.sites p.target p.free t ds es k) → k + word_count (dims a s ds) ≤ l → l ≤ largest_index
      → Numbered s p.free (extent p.free s) r y × Numbered s (length_form (shape_at a p)) (word_count (extents_at (shape_at a p) s)) r y → LetOwes s a p r ds
  let-owes a p v t r y ds es k l c m h room most f =
      let same : extents_at (shape_at a p) s ≡ dims a s ds = extents-are s (shape_at a p) (dims a s ds) (let-values s sizes a p v t ds es k c m h) in
      let n = word_count (dims a s ds) in
      let first : extent p.free s ≡ k = ap count_of h.next_value in
      let next : extent (free_after a p) s ≡ k + n = ap count_of (after-value s sizes a p v t ds es k c m h) in (
        f.0.0,
        f.1.0 ∙ ap (λ d. Value (pos (word_count d))) same,
        same,
        next ∙ ap (λ q. q + n) (sym first),
        omega (arith, first, room, most),
      )

  -- amounts that nodes have
  amount : (a : Items) → items_scoped sizes 0 a ≡ true → at_least_zero (items_value s [] a) ≡ true → IsCount s a
  amount a c h = (scoped_free sizes a c, extent_pos s a h)

  opposite-free : (a : Items) → items_scoped sizes 0 a ≡ true → IsFree (scaled (negsuc 0) a)
  opposite-free a c = scoped_free sizes (scaled (negsuc 0) a) (of-form sizes 0 (scaled (negsuc 0) a) (scaled-form sizes 0 (negsuc 0) a (form-of sizes 0 a c)))

  first-extent : (e : Term) (p : Place) (ds : List (List ℕ)) → HaveValues s (shape_at e p) (dims e s ds)
      → extent (first_of (shape_at e p)) s ≡ head_of (dims e s ds)
  first-extent e p ds h = ap count_of (first-value s (shape_at e p) (dims e s ds) h)

  no-dims : (a : Term) (p : Place) (t : ℕ) (ds : List (List ℕ)) (es : List ℕ) (k : ℕ) → EachPart (HasMeaning s) a (shapes p)
      → Lying s p.sites p.target p.free t ds es k → no_extents (shape_at a p) ≡ true → dims a s ds ≡ []
  no-dims a p t ds es k m h e =
      no-extents s (dims a s ds) (subst (λ (ns : Extents). HaveValues s ns (dims a s ds)) (no-extents-nil (shape_at a p) e)
      (shape_values s a (shapes p) ds m h.values))

  add-owes : (a e : Term) (p : Place) (v t : ℕ) (r y : List ℕ) (ds : List (List ℕ)) (es : List ℕ) (k : ℕ) → term_scoped sizes (add a e) v t ≡ true
      → EachPart (HasMeaning s) a (shapes p) → Turning s p.spot r y → Lying s p.sites p.target p.free t ds es k → FramesHere s (add a e) p.spot y ds es
      → (Fits s a p r y → Owes s a p r y ds) → (Fits s e p r y → Owes s e p r y ds) → (w : Bool) → adds_words a e (shapes p) ≡ w
      → either w (LeafFits s (add a e) p r y) (Fits s a p r y × Fits s e p r y)
      → either w (LeafOwes s (add a e) p r y ds) (Owes s a p r y ds × Owes s e p r y ds)
  add-owes a e p v t r y ds es k c m g h q left right true w f =
      let none = (and_parts (no_extents (shape_at a p)) (is_none (both_words a e)) w).0 in
      leaf (add a e) p v t r y ds es k c (no-dims a p t ds es k m h none) g h q f
  add-owes a e p v t r y ds es k c m g h q left right false w f = (left f.0, right f.1)

  module _ (many l : ℕ) (most : 0 < many → l ≤ largest_index) where
    pub owes : (e : Term) (p : Place) (v t : ℕ) (r y : List ℕ) (ds : List (List ℕ)) (es : List ℕ) (k : ℕ) → term_scoped sizes e v t ≡ true
        → EachPart (HasMeaning s) e (shapes p) → NoneNegative s (term_goals e (shapes p)) → outside e (shapes p) ≡ None → Normal e → Turning s p.spot r y
        → Lying s p.sites p.target p.free t ds es k → NodesGood s e p.spot (shapes p) y ds es → Room s many l e ds k → Fits s e p r y → Owes s e p r y ds
    owes (Lit w) p v t r y ds es k c m b o n g h q u f = leaf (Lit w) p v t r y ds es k c refl g h q f
    owes (WordOf x) p v t r y ds es k c m b o n g h q u f = leaf (WordOf x) p v t r y ds es k c refl g h q f
    owes (TVar x) p v t r y ds es k c m b o n g h q u f = read (TVar x) p v t r y ds es k c m n g h q f
    owes (index e x) p v t r y ds es k c m b o n g h q u f = read (index e x) p v t r y ds es k c m n g h q f
    owes (gen x e) p v t r y ds es k c m b o n g h q u f =
        let cs = and_parts (items_scoped sizes 0 x) (term_scoped sizes e (v + 1) t) c in
        let ns = and_parts (is_normal x) (every_form is_normal e) (sym (fold-gen Bool (form_step is_normal) x e) ∙ n) in (
          f.0.0,
          λ i low. owes e (in_gen x p) (v + 1) t (r ++ i ∷ []) (i ∷ y) ds es k cs.1 m.1 b.1 (child-none 0 (outside e (shapes p)) o) ns.1
              (turn-gen s p.spot x r y i g) h (q.1 i low) u (f.1 i low),
        )
    owes (sum x e) p v t r y ds es k c m b o n g h q u f =
        let cs = and_parts (items_scoped sizes 0 x) (term_scoped sizes e (v + 1) t) c in
        let ns = and_parts (is_normal x) (every_form is_normal e) (sym (fold-sum Bool (form_step is_normal) x e) ∙ n) in (
          f.0.0,
          λ i low. owes e (in_sum x p) (v + 1) t (r ++ i ∷ []) (i ∷ y) ds es k cs.1 m.1 b.1 (child-none 0 (outside e (shapes p)) o) ns.1
              (turn-sum s p.spot x r y i g) h (q.1 i low) u (f.1 i low),
        )
    owes (guard x e) p v t r y ds es k c m b o n g h q u f =
        let cs = and_parts (cond_scoped sizes v x) (term_scoped sizes e v t) c in
        let ns = and_parts (each_cmp is_normal x.all) (every_form is_normal e) (sym (fold-guard Bool (form_step is_normal) x e) ∙ n) in (
          f.0,
          λ holds. owes e (in_guard x p) v t r y ds es k cs.1 m.1 b (child-none 0 (outside e (shapes p)) o) ns.1 (turn-guard s p.spot x r y g) h q.1 u
              (f.1 holds),
        )
    owes (let_in a e) p v t r y ds es k c m b o n g h q u f =
        let cs = and_parts (term_scoped sizes a v t) (term_scoped sizes e v (t + 1)) c in
        let bs = negative_parts s (term_goals a (shapes p)) (term_goals e (shape_at a p ∷ shapes p)) b in
        let os = both-none (in_child 0 (outside a (shapes p))) (in_child 1 (outside e (shape_at a p ∷ shapes p))) o in
        let ns = and_parts (every_form is_normal a) (every_form is_normal e) (sym (fold-let_in Bool (form_step is_normal) a e) ∙ n) in
        let k' = k + word_count (dims a s ds) in (
          let-owes a p v t r y ds es k l cs.0 m.1 h u.1 (most u.0) f.0,
          owes a (in_definition a p) v t r y ds (dims a s ds) k' cs.0 m.1 bs.0 (child-none 0 (outside a (shapes p)) os.0) ns.0
              (turn-alone s p.spot r y g) (in-definition s sizes a p v t ds es k cs.0 m.1 h) q.1 u.2 f.1,
          owes e (in_body a p) v (t + 1) r y (dims a s ds ∷ ds) es k' cs.1 m.2 bs.1 (child-none 1 (outside e (shape_at a p ∷ shapes p)) os.1) ns.1 g
              (in-body s sizes a p v t ds es k cs.0 m.1 h) q.2 u.3 f.2,
        )
    owes (add a e) p v t r y ds es k c m b o n g h q u f =
        let cs = and_parts (term_scoped sizes a v t) (term_scoped sizes e v t) c in
        let bs = negative_parts s (term_goals a (shapes p)) (term_goals e (shapes p)) b in
        let os = both-none (in_child 0 (outside a (shapes p))) (in_child 1 (outside e (shapes p))) o in
        let ns = and_parts (every_form is_normal a) (every_form is_normal e) (sym (fold-add Bool (form_step is_normal) a e) ∙ n) in
        add-owes a e p v t r y ds es k c m.1 g h q.0
        (λ f. owes a p v t r y ds es k cs.0 m.1 bs.0 (child-none 0 (outside a (shapes p)) os.0) ns.0 g h q.1 u.0 f)
        (λ f. owes e p v t r y ds es k cs.1 m.2 bs.1 (child-none 1 (outside e (shapes p)) os.1) ns.1 g h q.2 u.1 f)
        (adds_words a e (shapes p)) refl f
    owes (sub a e) p v t r y ds es k c m b o n g h q u f =
        let os = both-none (unless (no_extents (shape_at a p))) (both_words a e) o in
        leaf (sub a e) p v t r y ds es k c (no-dims a p t ds es k m.1 h (unless-true (no_extents (shape_at a p)) os.0)) g h q f
    owes (mul a e) p v t r y ds es k c m b o n g h q u f = leaf (mul a e) p v t r y ds es k c refl g h q f
    owes (concat a e) p v t r y ds es k c m b o n g h q u f =
        let cs = and_parts (term_scoped sizes a v t) (term_scoped sizes e v t) c in
        let bs = negative_parts s (term_goals a (shapes p)) (term_goals e (shapes p)) b in
        let os = both-none (in_child 0 (outside a (shapes p))) (in_child 1 (outside e (shapes p))) o in
        let ns = and_parts (every_form is_normal a) (every_form is_normal e) (sym (fold-concat Bool (form_step is_normal) a e) ∙ n) in
        let values = shape_values s a (shapes p) ds m.1 h.values in
        let count = first-counts s (shape_at a p) (dims a s ds) (free-shape sizes a v t (shapes p) cs.0 h.shapes_free) values in (
          first-extent a p ds values,
          owes a p v t r y ds es k cs.0 m.1 bs.0 (child-none 0 (outside a (shapes p)) os.0) ns.0 g h q.1 u.0 f.0,
          owes e (on_right a p) v t r y ds es k cs.1 m.2 bs.1 (child-none 1 (outside e (shapes p)) os.1) ns.1
              (turn-inside s (right_of a (shapes p)) p.spot r y g.below (count, g.amounts) g) h q.2 u.1 f.1,
        )
    owes (flatten e) p v t r y ds es k c m b o n g h q u f =
        let values = rest-values s (shape_at e p) (dims e s ds) (shape_values s e (shapes p) ds m.1 h.values) in
        let free = free-rest (shape_at e p) (free-shape sizes e v t (shapes p) c h.shapes_free) in
        let count = first-counts s (rest_of (shape_at e p)) (tail_of (dims e s ds)) free values in (
          ap count_of (first-value s (rest_of (shape_at e p)) (tail_of (dims e s ds)) values),
          owes e (in_flatten e p) v t r y ds es k c m.1 b (child-none 0 (outside e (shapes p)) o) (sym (fold-flatten Bool (form_step is_normal) e) ∙ n)
              (turn-inside s (joined_by e (shapes p)) p.spot r y g.below (count, g.amounts) g) h q.1 u f,
        )
    owes (split x e) p v t r y ds es k c m b o n g h q u f =
        let cs = and_parts (nat_lt 0 x && nat_le x largest_tile) (term_scoped sizes e v t) c in (
          tile_positive x (nat_le x largest_tile) cs.0,
          owes e (under_node (Tiled x) p) v t r y ds es k cs.1 m.1 b (child-none 0 (outside e (shapes p)) o)
              (sym (fold-split Bool (form_step is_normal) x e) ∙ n) (turn-inside s (Tiled x) p.spot r y g.below (cs.0, g.amounts) g) h q.1 u f,
        )
    owes (transpose e) p v t r y ds es k c m b o n g h q u f =
        owes e (under_node Swapped p) v t r y ds es k c m.1 b (child-none 0 (outside e (shapes p)) o) (sym (fold-transpose Bool (form_step is_normal) e) ∙ n)
        (turn-inside s Swapped p.spot r y g.below g.amounts g) h q.1 u f
    owes (trunc_l a e) p v t r y ds es k c m b o n g h q u f =
        let cs = and_parts (items_scoped sizes 0 a) (term_scoped sizes e v t) c in
        let bs = negative_parts s (rest_after a (shape_at e p)) (term_goals e (shapes p)) b.1 in
        let ns = and_parts (is_normal a) (every_form is_normal e) (sym (fold-trunc_l Bool (form_step is_normal) a e) ∙ n) in
        owes e (under_node (Without a) p) v t r y ds es k cs.1 m.1 bs.1 (child-none 0 (outside e (shapes p)) o) ns.1
        (turn-inside s (Without a) p.spot r y g.below ((opposite-free a cs.0, extent_pos s a b.0), g.amounts) g) h q.1 u f
    owes (trunc_r a e) p v t r y ds es k c m b o n g h q u f =
        let cs = and_parts (items_scoped sizes 0 a) (term_scoped sizes e v t) c in
        let bs = negative_parts s (rest_after a (shape_at e p)) (term_goals e (shapes p)) b.1 in
        let ns = and_parts (is_normal a) (every_form is_normal e) (sym (fold-trunc_r Bool (form_step is_normal) a e) ∙ n) in
        let free = free-first (shape_at (trunc_r a e) p) (free-shape sizes (trunc_r a e) v t (shapes p) c h.shapes_free) in (
          first-extent (trunc_r a e) p ds (shape_values s (trunc_r a e) (shapes p) ds m h.values),
          owes e (in_truncr a e p) v t r y ds es k cs.1 m.1 bs.1 (child-none 0 (outside e (shapes p)) o) ns.1
              (turn-inside s (before_end a e (shapes p)) p.spot r y g.below (free, g.amounts) g) h q.1 u f,
        )
    owes (pad_l a e) p v t r y ds es k c m b o n g h q u f =
        let cs = and_parts (items_scoped sizes 0 a) (term_scoped sizes e v t) c in
        let ns = and_parts (is_normal a) (every_form is_normal e) (sym (fold-pad_l Bool (form_step is_normal) a e) ∙ n) in
        owes e (under_node (Later a) p) v t r y ds es k cs.1 m.1 b.1 (child-none 0 (outside e (shapes p)) o) ns.1
        (turn-inside s (Later a) p.spot r y g.below (amount a cs.0 b.0, g.amounts) g) h q.1 u f
    owes (pad_r a e) p v t r y ds es k c m b o n g h q u f =
        let cs = and_parts (items_scoped sizes 0 a) (term_scoped sizes e v t) c in
        let ns = and_parts (is_normal a) (every_form is_normal e) (sym (fold-pad_r Bool (form_step is_normal) a e) ∙ n) in
        owes e p v t r y ds es k cs.1 m.1 b.1 (child-none 0 (outside e (shapes p)) o) ns.1 g h q.1 u f
