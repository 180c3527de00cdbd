-- Each part of a term with a shape has one, which is that of the meaning.
use Rattle.std.proofs.Common.{◌≡◌, ℕ, ◌+◌, List, ◌∷◌, refl, subst, sym, true, ◌&&◌, nat_lt, nat_le, Ok, Err}
use Rattle.std.proofs.lemmas.Bool.{and_parts}
use Rattle.affine_index.specs.Limited.{items_scoped}
use Rattle.term_tree.specs.declared.term.Term.{Term, Lit, TVar, WordOf}
use Rattle.term_tree.specs.Syntax.{index, gen, sum, guard, let_in, add, sub, mul, concat, flatten, split, transpose, trunc_l, trunc_r, pad_l, pad_r}
use Rattle.term_tree.specs.Goals.{extents_or_none, rest_after, term_goals}
use Rattle.term_tree.specs.Scope.{cond_scoped, largest_tile, term_scoped}
use Rattle.term_tree.specs.Shape.{Extents, Shaped, of_concat, of_equal, of_words, shape_of, with_child}
use Rattle.shape_rules.specs.Meant.{HasMeaning}
use Rattle.shape_rules.specs.Parts.{EachPart}
use Rattle.shape_rules.specs.Rules.{columns_shape, fewer_shape, flat_shape, more_shape, row_shape, rows_shape, same_shape, tiled_shape}
use Rattle.shape_rules.specs.Values.{NoneNegative}
use Rattle.shape_rules.proofs.RuleValues.{negative_parts}
use Rattle.shape_rules.proofs.ShapeMeaning.{den_meant}

-- a child of a term with a shape has one
child_ok : (child : ℕ) (r : Shaped) (rule : Extents → Shaped) (ms : Extents) → with_child child r rule ≡ Ok ms → (ns : Extents) × (r ≡ Ok ns)
    × (rule ns ≡ Ok ms)
child_ok child (Ok ns) rule ms h = (ns, refl, h)
child_ok child (Err m) rule ms h = absurd (cc)

module _ (s : List ℕ) (sizes : ℕ) where
  whole : (e : Term) (v t : ℕ) (ts : List Extents) (ms : Extents) → term_scoped sizes e v t ≡ true → shape_of e ts ≡ Ok ms → NoneNegative s (term_goals e ts)
      → HasMeaning s e ts
  whole e v t ts ms c h g = (ms, h, den_meant sizes e v t ts ms c h s g)

  pub each_part : (e : Term) (v t : ℕ) (ts : List Extents) (ms : Extents) → term_scoped sizes e v t ≡ true → shape_of e ts ≡ Ok ms
      → NoneNegative s (term_goals e ts) → EachPart (HasMeaning s) e ts
  each_part (Lit w) v t ts ms c h g = whole (Lit w) v t ts ms c h g
  each_part (TVar q) v t ts ms c h g = whole (TVar q) v t ts ms c h g
  each_part (WordOf x) v t ts ms c h g = whole (WordOf x) v t ts ms c h g
  each_part (index e x) v t ts ms c h g =
      let p = child_ok 0 (shape_of e ts) row_shape ms h in
      (whole (index e x) v t ts ms c h g, each_part e v t ts p.0 (and_parts (term_scoped sizes e v t) (items_scoped sizes v x) c).0 p.1 g)
  each_part (gen n e) v t ts ms c h g =
      let p = child_ok 0 (shape_of e ts) (rows_shape n) ms h in
      (whole (gen n e) v t ts ms c h g, each_part e (v + 1) t ts p.0 (and_parts (items_scoped sizes 0 n) (term_scoped sizes e (v + 1) t) c).1 p.1 g.1)
  each_part (sum n e) v t ts ms c h g =
      let p = child_ok 0 (shape_of e ts) same_shape ms h in
      (whole (sum n e) v t ts ms c h g, each_part e (v + 1) t ts p.0 (and_parts (items_scoped sizes 0 n) (term_scoped sizes e (v + 1) t) c).1 p.1 g.1)
  each_part (guard b e) v t ts ms c h g =
      let p = child_ok 0 (shape_of e ts) same_shape ms h in
      (whole (guard b e) v t ts ms c h g, each_part e v t ts p.0 (and_parts (cond_scoped sizes v b) (term_scoped sizes e v t) c).1 p.1 g)
  each_part (let_in a b) v t ts ms c h g =
      let cs = and_parts (term_scoped sizes a v t) (term_scoped sizes b v (t + 1)) c in
      let gs = negative_parts s (term_goals a ts) (term_goals b (extents_or_none (shape_of a ts) ∷ ts)) g in
      let p = child_ok 0 (shape_of a ts) (λ ns. with_child 1 (shape_of b (ns ∷ ts)) same_shape) ms h in
      let q = child_ok 1 (shape_of b (p.0 ∷ ts)) same_shape ms p.2 in (
        whole (let_in a b) v t ts ms c h g,
        each_part a v t ts p.0 cs.0 p.1 gs.0,
        each_part b v (t + 1) (extents_or_none (shape_of a ts) ∷ ts) q.0 cs.1
            (subst (λ (r : Shaped). shape_of b (extents_or_none r ∷ ts) ≡ Ok q.0) (sym p.1) q.1) gs.1,
      )
  each_part (add a b) v t ts ms c h g =
      let cs = and_parts (term_scoped sizes a v t) (term_scoped sizes b v t) c in
      let gs = negative_parts s (term_goals a ts) (term_goals b ts) g in
      let p = child_ok 0 (shape_of a ts) (λ ns. with_child 1 (shape_of b ts) (of_equal ns)) ms h in
      let q = child_ok 1 (shape_of b ts) (of_equal p.0) ms p.2 in
      (whole (add a b) v t ts ms c h g, each_part a v t ts p.0 cs.0 p.1 gs.0, each_part b v t ts q.0 cs.1 q.1 gs.1)
  each_part (sub a b) v t ts ms c h g =
      let cs = and_parts (term_scoped sizes a v t) (term_scoped sizes b v t) c in
      let gs = negative_parts s (term_goals a ts) (term_goals b ts) g in
      let p = child_ok 0 (shape_of a ts) (λ ns. with_child 1 (shape_of b ts) (of_equal ns)) ms h in
      let q = child_ok 1 (shape_of b ts) (of_equal p.0) ms p.2 in
      (whole (sub a b) v t ts ms c h g, each_part a v t ts p.0 cs.0 p.1 gs.0, each_part b v t ts q.0 cs.1 q.1 gs.1)
  each_part (mul a b) v t ts ms c h g =
      let cs = and_parts (term_scoped sizes a v t) (term_scoped sizes b v t) c in
      let gs = negative_parts s (term_goals a ts) (term_goals b ts) g in
      let p = child_ok 0 (shape_of a ts) (λ ns. with_child 1 (shape_of b ts) (of_words ns)) ms h in
      let q = child_ok 1 (shape_of b ts) (of_words p.0) ms p.2 in
      (whole (mul a b) v t ts ms c h g, each_part a v t ts p.0 cs.0 p.1 gs.0, each_part b v t ts q.0 cs.1 q.1 gs.1)
  each_part (concat a b) v t ts ms c h g =
      let cs = and_parts (term_scoped sizes a v t) (term_scoped sizes b v t) c in
      let gs = negative_parts s (term_goals a ts) (term_goals b ts) g in
      let p = child_ok 0 (shape_of a ts) (λ ns. with_child 1 (shape_of b ts) (of_concat ns)) ms h in
      let q = child_ok 1 (shape_of b ts) (of_concat p.0) ms p.2 in
      (whole (concat a b) v t ts ms c h g, each_part a v t ts p.0 cs.0 p.1 gs.0, each_part b v t ts q.0 cs.1 q.1 gs.1)
  each_part (flatten e) v t ts ms c h g =
      let p = child_ok 0 (shape_of e ts) flat_shape ms h in (whole (flatten e) v t ts ms c h g, each_part e v t ts p.0 c p.1 g)
  each_part (split k e) v t ts ms c h g =
      let p = child_ok 0 (shape_of e ts) (tiled_shape k) ms h in
      (whole (split k e) v t ts ms c h g, each_part e v t ts p.0 (and_parts (nat_lt 0 k && nat_le k largest_tile) (term_scoped sizes e v t) c).1 p.1 g)
  each_part (transpose e) v t ts ms c h g =
      let p = child_ok 0 (shape_of e ts) columns_shape ms h in (whole (transpose e) v t ts ms c h g, each_part e v t ts p.0 c p.1 g)
  each_part (trunc_l n e) v t ts ms c h g =
      let p = child_ok 0 (shape_of e ts) (fewer_shape n) ms h in (
        whole (trunc_l n e) v t ts ms c h g,
        each_part e v t ts p.0 (and_parts (items_scoped sizes 0 n) (term_scoped sizes e v t) c).1 p.1
            (negative_parts s (rest_after n (extents_or_none (shape_of e ts))) (term_goals e ts) g.1).1,
      )
  each_part (trunc_r n e) v t ts ms c h g =
      let p = child_ok 0 (shape_of e ts) (fewer_shape n) ms h in (
        whole (trunc_r n e) v t ts ms c h g,
        each_part e v t ts p.0 (and_parts (items_scoped sizes 0 n) (term_scoped sizes e v t) c).1 p.1
            (negative_parts s (rest_after n (extents_or_none (shape_of e ts))) (term_goals e ts) g.1).1,
      )
  each_part (pad_l n e) v t ts ms c h g =
      let p = child_ok 0 (shape_of e ts) (more_shape n) ms h in
      (whole (pad_l n e) v t ts ms c h g, each_part e v t ts p.0 (and_parts (items_scoped sizes 0 n) (term_scoped sizes e v t) c).1 p.1 g.1)
  each_part (pad_r n e) v t ts ms c h g =
      let p = child_ok 0 (shape_of e ts) (more_shape n) ms h in
      (whole (pad_r n e) v t ts ms c h g, each_part e v t ts p.0 (and_parts (items_scoped sizes 0 n) (term_scoped sizes e v t) c).1 p.1 g.1)
