-- The shape of a term has the values of its extents, where no number that must not be negative is.
use Rattle.std.proofs.Common.{◌≡◌, ℕ, ◌+◌, ◌<◌, List, [], ◌∷◌, refl, subst, sym, arith, Bool, true, ◌&&◌, nat_lt, nat_le, Ok, Err}
use Rattle.std.proofs.lemmas.Bool.{and_parts}
use Rattle.affine_index.specs.Limited.{items_scoped}
use Rattle.term_tree.specs.declared.term.Term.{Term, Lit, TVar, WordOf}
use Rattle.term_tree.specs.Syntax.{index, gen, sum, guard, let_in, add, sub, mul, concat, flatten, split, transpose, trunc_l, trunc_r, pad_l, pad_r}
use Rattle.term_tree.specs.Goals.{extents_or_none, rest_after, term_goals}
use Rattle.term_tree.specs.Meaning.{den, dims}
use Rattle.term_tree.specs.Scope.{cond_scoped, largest_tile, term_scoped}
use Rattle.term_tree.specs.Shape.{Extents, Shaped, of_concat, of_equal, of_words, shape_of, with_child}
use Rattle.term_tree.specs.Shaped.{HasShape}
use Rattle.shape_rules.specs.Fits.{ShapesFit}
use Rattle.shape_rules.specs.Meant.{IsMeant}
use Rattle.shape_rules.specs.Rules.{columns_shape, fewer_shape, flat_shape, more_shape, row_shape, rows_shape, same_shape, tiled_shape}
use Rattle.shape_rules.specs.Values.{AllHaveValues, HaveValues, NoneNegative}
use Rattle.shape_rules.proofs.DenShape.{den_shape}
use Rattle.shape_rules.proofs.RuleValues.{columns_values, concat_values, equal_values, fewer_values, flat_values, limited_variable, more_values, negative_parts}
use Rattle.shape_rules.proofs.RuleValues.{row_values, rows_values, same_shape_values, tiled_values, words_values}

tile_positive : (k : ℕ) (b : Bool) → (nat_lt 0 k && b) ≡ true → 0 < k
tile_positive k b h = let p : nat_lt 0 k ≡ true = (and_parts (nat_lt 0 k) b h).0 in grind arith

module _ (s : List ℕ) where
  -- the extents have these values, and the shape rules hold for them
  abbrev Meant : Extents → List ℕ → Type 0 → Type 0
  Meant ns d F = HaveValues s ns d × F

  one_meant : (r : Shaped) (rule : Extents → Shaped) (ms : Extents) (d d' : List ℕ) (F G : Type 0) → with_child 0 r rule ≡ Ok ms
      → ((ns : Extents) → r ≡ Ok ns → Meant ns d F)
      → ((ns : Extents) → r ≡ Ok ns → HaveValues s ns d → rule ns ≡ Ok ms → Meant ms d' G) → HaveValues s ms d' × (G × F)
  one_meant (Ok ns) rule ms d d' F G h k l = let p = k ns refl in let q = l ns refl p.0 h in (q.0, (q.1, p.1))
  one_meant (Err m) rule ms d d' F G h k l = absurd (cc)

  own_meant : (r : Shaped) (rule : Extents → Shaped) (ms : Extents) (d d' : List ℕ) (F : Type 0) → with_child 0 r rule ≡ Ok ms
      → ((ns : Extents) → r ≡ Ok ns → Meant ns d F)
      → ((ns : Extents) → HaveValues s ns d → rule ns ≡ Ok ms → HaveValues s ms d') → HaveValues s ms d' × F
  own_meant (Ok ns) rule ms d d' F h k l = let p = k ns refl in (l ns p.0 h, p.1)
  own_meant (Err m) rule ms d d' F h k l = absurd (cc)

  two_meant : (a b : Shaped) (rule : Extents → Extents → Shaped) (ms : Extents) (da db d' : List ℕ) (F G H : Type 0)
      → with_child 0 a (λ ns. with_child 1 b (rule ns)) ≡ Ok ms
      → ((ns : Extents) → a ≡ Ok ns → Meant ns da F) → ((ns : Extents) → b ≡ Ok ns → Meant ns db G)
      → ((ns ks : Extents) → HaveValues s ns da → HaveValues s ks db → rule ns ks ≡ Ok ms → Meant ms d' H) → HaveValues s ms d' × (H × F × G)
  two_meant (Ok ns) (Ok ks) rule ms da db d' F G H h k l q =
      let p = k ns refl in let o = l ks refl in let z = q ns ks p.0 o.0 h in (z.0, (z.1, p.1, o.1))
  two_meant (Ok ns) (Err m) rule ms da db d' F G H h k l q = absurd (cc)
  two_meant (Err m) b rule ms da db d' F G H h k l q = absurd (cc)

  let_meant : (a : Shaped) (b : Extents → Shaped) (ms : Extents) (da d' : List ℕ) (F G : Type 0)
      → with_child 0 a (λ ns. with_child 1 (b ns) (λ ms. Ok ms)) ≡ Ok ms
      → ((ns : Extents) → a ≡ Ok ns → Meant ns da F) → ((ns : Extents) → a ≡ Ok ns → HaveValues s ns da → b ns ≡ Ok ms → Meant ms d' G) → HaveValues s ms d'
      × (F × G)
  let_meant (Ok ns) b ms da d' F G h k l = let p = k ns refl in let q = l ns refl p.0 (body (b ns) h) in (q.0, (p.1, q.1))
    where
      body : (r : Shaped) → with_child 1 r same_shape ≡ Ok ms → r ≡ Ok ms
      body (Ok ks) h = h
      body (Err m) h = absurd (cc)
  let_meant (Err m) b ms da d' F G h k l = absurd (cc)

  module _ (sizes : ℕ) where
    -- under the same premises the extents have these values, and the shape rules hold for them
    pub shape_meant : (e : Term) (v t : ℕ) (ts : List Extents) (ds : List (List ℕ)) (ms : Extents) → term_scoped sizes e v t ≡ true → shape_of e ts ≡ Ok ms
        → NoneNegative s (term_goals e ts)
        → AllHaveValues s ts ds → Meant ms (dims e s ds) (ShapesFit e s ds)
    shape_meant (Lit w) v t ts ds ms c h g f = (same_shape_values s [] [] ms tt h, tt)
    shape_meant (TVar q) v t ts ds ms c h g f = (limited_variable s ts ds q ms f h, tt)
    shape_meant (WordOf x) v t ts ds ms c h g f = (same_shape_values s [] [] ms tt h, tt)
    shape_meant (index e x) v t ts ds ms c h g f =
        one_meant (shape_of e ts) row_shape ms (dims e s ds) _ _ _ h
        (λ ns q. shape_meant e v t ts ds ns (and_parts (term_scoped sizes e v t) (items_scoped sizes v x) c).0 q g f)
        (λ ns q p k. row_values s ns (dims e s ds) ms p k)
    shape_meant (gen n e) v t ts ds ms c h g f =
        own_meant (shape_of e ts) (rows_shape n) ms (dims e s ds) _ _ h
        (λ ns q. shape_meant e (v + 1) t ts ds ns (and_parts (items_scoped sizes 0 n) (term_scoped sizes e (v + 1) t) c).1 q g.1 f)
        (λ ns p k. rows_values s n ns (dims e s ds) ms g.0 p k)
    shape_meant (sum n e) v t ts ds ms c h g f =
        own_meant (shape_of e ts) same_shape ms (dims e s ds) _ _ h
        (λ ns q. shape_meant e (v + 1) t ts ds ns (and_parts (items_scoped sizes 0 n) (term_scoped sizes e (v + 1) t) c).1 q g.1 f)
        (λ ns p k. same_shape_values s ns (dims e s ds) ms p k)
    shape_meant (guard b e) v t ts ds ms c h g f =
        own_meant (shape_of e ts) same_shape ms (dims e s ds) _ _ h
        (λ ns q. shape_meant e v t ts ds ns (and_parts (cond_scoped sizes v b) (term_scoped sizes e v t) c).1 q g f)
        (λ ns p k. same_shape_values s ns (dims e s ds) ms p k)
    shape_meant (let_in a b) v t ts ds ms c h g f =
        let gs = negative_parts s (term_goals a ts) (term_goals b (extents_or_none (shape_of a ts) ∷ ts)) g in
        let cs = and_parts (term_scoped sizes a v t) (term_scoped sizes b v (t + 1)) c in
        let_meant (shape_of a ts) (λ ns. shape_of b (ns ∷ ts)) ms (dims a s ds) _ _ _ h (λ ns q. shape_meant a v t ts ds ns cs.0 q gs.0 f)
        (λ ns q p k. shape_meant b v (t + 1) (ns ∷ ts) (dims a s ds ∷ ds) ms cs.1 k
        (subst (λ (r : Shaped). NoneNegative s (term_goals b (extents_or_none r ∷ ts))) q gs.1) (p, f))
    shape_meant (add a b) v t ts ds ms c h g f =
        let gs = negative_parts s (term_goals a ts) (term_goals b ts) g in
        let cs = and_parts (term_scoped sizes a v t) (term_scoped sizes b v t) c in
        two_meant (shape_of a ts) (shape_of b ts) of_equal ms (dims a s ds) (dims b s ds) _ _ _ _ h (λ ns q. shape_meant a v t ts ds ns cs.0 q gs.0 f)
        (λ ns q. shape_meant b v t ts ds ns cs.1 q gs.1 f)
        (λ ns ks p o k. equal_values s ns ks (dims a s ds) (dims b s ds) ms p o k)
    shape_meant (sub a b) v t ts ds ms c h g f =
        let gs = negative_parts s (term_goals a ts) (term_goals b ts) g in
        let cs = and_parts (term_scoped sizes a v t) (term_scoped sizes b v t) c in
        two_meant (shape_of a ts) (shape_of b ts) of_equal ms (dims a s ds) (dims b s ds) _ _ _ _ h (λ ns q. shape_meant a v t ts ds ns cs.0 q gs.0 f)
        (λ ns q. shape_meant b v t ts ds ns cs.1 q gs.1 f)
        (λ ns ks p o k. equal_values s ns ks (dims a s ds) (dims b s ds) ms p o k)
    shape_meant (mul a b) v t ts ds ms c h g f =
        let gs = negative_parts s (term_goals a ts) (term_goals b ts) g in
        let cs = and_parts (term_scoped sizes a v t) (term_scoped sizes b v t) c in
        two_meant (shape_of a ts) (shape_of b ts) of_words ms (dims a s ds) (dims b s ds) _ _ _ _ h (λ ns q. shape_meant a v t ts ds ns cs.0 q gs.0 f)
        (λ ns q. shape_meant b v t ts ds ns cs.1 q gs.1 f)
        (λ ns ks p o k. let w = words_values s ns ks (dims a s ds) (dims b s ds) ms p o k in (w.0, (w.1, w.2)))
    shape_meant (concat a b) v t ts ds ms c h g f =
        let gs = negative_parts s (term_goals a ts) (term_goals b ts) g in
        let cs = and_parts (term_scoped sizes a v t) (term_scoped sizes b v t) c in
        two_meant (shape_of a ts) (shape_of b ts) of_concat ms (dims a s ds) (dims b s ds) _ _ _ _ h (λ ns q. shape_meant a v t ts ds ns cs.0 q gs.0 f)
        (λ ns q. shape_meant b v t ts ds ns cs.1 q gs.1 f)
        (λ ns ks p o k. let w = concat_values s ns ks (dims a s ds) (dims b s ds) ms p o k in (w.0, (w.1, w.2, w.3)))
    shape_meant (flatten e) v t ts ds ms c h g f =
        one_meant (shape_of e ts) flat_shape ms (dims e s ds) _ _ _ h (λ ns q. shape_meant e v t ts ds ns c q g f)
        (λ ns q p k. flat_values s ns (dims e s ds) ms p k)
    shape_meant (split k e) v t ts ds ms c h g f =
        let cs = and_parts (nat_lt 0 k && nat_le k largest_tile) (term_scoped sizes e v t) c in
        one_meant (shape_of e ts) (tiled_shape k) ms (dims e s ds) _ _ _ h (λ ns q. shape_meant e v t ts ds ns cs.1 q g f)
        (λ ns q p l. tiled_values s k ns (dims e s ds) ms (tile_positive k (nat_le k largest_tile) cs.0) p l)
    shape_meant (transpose e) v t ts ds ms c h g f =
        one_meant (shape_of e ts) columns_shape ms (dims e s ds) _ _ _ h (λ ns q. shape_meant e v t ts ds ns c q g f)
        (λ ns q p k. columns_values s ns (dims e s ds) ms p k)
    shape_meant (trunc_l n e) v t ts ds ms c h g f =
        let gs = negative_parts s (rest_after n (extents_or_none (shape_of e ts))) (term_goals e ts) g.1 in
        one_meant (shape_of e ts) (fewer_shape n) ms (dims e s ds) _ _ _ h
        (λ ns q. shape_meant e v t ts ds ns (and_parts (items_scoped sizes 0 n) (term_scoped sizes e v t) c).1 q gs.1 f)
        (λ ns q p k. fewer_values s n ns (dims e s ds) ms g.0 (subst (λ (r : Shaped). NoneNegative s (rest_after n (extents_or_none r))) q gs.0) p k)
    shape_meant (trunc_r n e) v t ts ds ms c h g f =
        let gs = negative_parts s (rest_after n (extents_or_none (shape_of e ts))) (term_goals e ts) g.1 in
        one_meant (shape_of e ts) (fewer_shape n) ms (dims e s ds) _ _ _ h
        (λ ns q. shape_meant e v t ts ds ns (and_parts (items_scoped sizes 0 n) (term_scoped sizes e v t) c).1 q gs.1 f)
        (λ ns q p k. fewer_values s n ns (dims e s ds) ms g.0 (subst (λ (r : Shaped). NoneNegative s (rest_after n (extents_or_none r))) q gs.0) p k)
    shape_meant (pad_l n e) v t ts ds ms c h g f =
        one_meant (shape_of e ts) (more_shape n) ms (dims e s ds) _ _ _ h
        (λ ns q. shape_meant e v t ts ds ns (and_parts (items_scoped sizes 0 n) (term_scoped sizes e v t) c).1 q g.1 f)
        (λ ns q p k. more_values s n ns (dims e s ds) ms g.0 p k)
    shape_meant (pad_r n e) v t ts ds ms c h g f =
        one_meant (shape_of e ts) (more_shape n) ms (dims e s ds) _ _ _ h
        (λ ns q. shape_meant e v t ts ds ns (and_parts (items_scoped sizes 0 n) (term_scoped sizes e v t) c).1 q g.1 f)
        (λ ns q p k. more_values s n ns (dims e s ds) ms g.0 p k)

-- the tensor of a term has the extents that its shape tells
pub den_meant : (sizes : ℕ) (e : Term) (v t : ℕ) (ts : List Extents) (ms : Extents) → term_scoped sizes e v t ≡ true → shape_of e ts ≡ Ok ms → IsMeant ts e ms
den_meant sizes e v t ts ms c h s g ds f =
    let m = shape_meant s sizes e v t ts ds ms c h g f in (
      m.0,
      λ r bs q k. subst (λ (ds : List (List ℕ)). HasShape (dims e s ds) (den e s r bs)) q
          (den_shape e s r bs (subst (λ (ds : List (List ℕ)). ShapesFit e s ds) (sym q) m.1) k),
    )
