-- The length of the scratch region is over sizes alone.
use Rattle.std.proofs.Common.{◌≡◌, ℕ, zero, suc, ◌+◌, ◌/◌, List, [], ◌∷◌, ◌++◌, length, take, drop, subst, Bool, true, false, ◌&&◌, nat_lt, nat_le}
use Rattle.std.proofs.Common.{if◌then◌else◌, Ok}
use Rattle.std.specs.Prelude.{pos}
use Rattle.std.proofs.lemmas.Bool.{and_from, and_parts}
use Rattle.affine_index.specs.declared.form.Items.{Items}
use Rattle.affine_index.specs.Limited.{items_scoped}
use Rattle.affine_index.specs.Sum.{sum_of}
use Rattle.reindexer.specs.Limited.{Limited, and_then, limited}
use Rattle.reindexer.proofs.IndexLaws.{first_ok, limited_is}
use Rattle.region_plan.specs.declared.length.Length.{Length, Plain}
use Rattle.region_plan.specs.Length.{is_nothing, larger_of, longer, same_length, zero_form}
use Rattle.region_plan.specs.Needed.{both_needed, by_halves, largest_of, module_needed, needed, needs_after, no_words, words_form}
use Rattle.region_plan.specs.Syntax.{topped}
use Rattle.term_tree.specs.declared.term.Module.{Module}
use Rattle.term_tree.specs.declared.term.OutputDecl.{OutputDecl}
use Rattle.term_tree.specs.declared.term.Term.{Term, Lit, TVar, WordOf}
use Rattle.term_tree.specs.Syntax.{index, gen, sum, guard, let_in, add, sub, mul, concat, flatten, split, transpose, trunc_l, trunc_r, pad_l, pad_r}
use Rattle.term_tree.specs.Goals.{extents_or_none}
use Rattle.term_tree.specs.Modules.{input_shapes, outputs_scoped}
use Rattle.term_tree.specs.Scope.{cond_scoped, largest_tile, term_scoped}
use Rattle.term_tree.specs.Shape.{Extents, shape_of}
use Rattle.final_rules.specs.Lengths.{over_sizes}
use Rattle.final_rules.proofs.PrintedScoped.{All0, At, length-at, literal-at, shape-eon, sum-at}
use Rattle.final_rules.proofs.Raw.{words-raw}
use Rattle.final_rules.proofs.Walk.{Every}

abbrev ok_length : Length → Limited Length
ok_length l = Ok l

same_length-is : (k l : Length) → ok_length k ≡ Ok l → k ≡ l
same_length-is k l h = cc

abbrev ok_lengths : List Length → Limited (List Length)
ok_lengths l = Ok l

same_lengths : (k l : List Length) → ok_lengths k ≡ Ok l → k ≡ l
same_lengths k l h = cc

module _ (sizes : ℕ) where
  abbrev pub LengthAt : Length → Type 0
  LengthAt l = over_sizes sizes l ≡ true

  if-at : (b : Bool) (k l : Length) → LengthAt k → LengthAt l → LengthAt (if b then k else l)
  if-at true k l h g = h
  if-at false k l h g = g

  top-at : (x : Items) (k l : Length) → At sizes 0 x → LengthAt k → LengthAt l → LengthAt (topped x k l)
  top-at x k l p h g = and_from (items_scoped sizes 0 x) (over_sizes sizes k && over_sizes sizes l) p (and_from (over_sizes sizes k)
      (over_sizes sizes l) h g)

  larger-at : (k l : Length) → LengthAt k → LengthAt l → LengthAt (larger_of k l)
  larger-at k l h g =
      if-at (same_length k l) k (if is_nothing k then l else (if is_nothing l then k else topped zero_form k l)) h
      (if-at (is_nothing k) l (if is_nothing l then k else topped zero_form k l) g
      (if-at (is_nothing l) k (topped zero_form k l) h (top-at zero_form k l (literal-at sizes 0 (pos 0)) h g)))

  longer-at : (x : Items) (k l : Length) → At sizes 0 x → LengthAt k → longer x k ≡ Ok l → LengthAt l
  longer-at x (Plain y) l p h e =
      let q = first_ok (limited (sum_of x y)) (λ z. ok_length (Plain z)) l e in
      subst LengthAt (same_length-is (Plain q.0) l q.2) (subst (At sizes 0) (limited_is (sum_of x y) q.0 q.1) (sum-at sizes 0 x y p h))
  longer-at x (topped y a b) l p h e =
      let q = first_ok (limited (sum_of x y)) (λ z. ok_length (topped z a b)) l e in
      let g = and_parts (items_scoped sizes 0 y) (over_sizes sizes a && over_sizes sizes b) h in
      let r = and_parts (over_sizes sizes a) (over_sizes sizes b) g.1 in
      subst LengthAt (same_length-is (topped q.0 a b) l q.2) (top-at q.0 a b (subst (At sizes 0) (limited_is (sum_of x y) q.0 q.1)
      (sum-at sizes 0 x y p g.0)) r.0 r.1)

  none-at : (l : Length) → ok_length no_words ≡ Ok l → LengthAt l
  none-at l e = subst LengthAt (same_length-is no_words l e) (literal-at sizes 0 (pos 0))

  both-at : (x y : Limited Length) (l : Length) → ((k : Length) → x ≡ Ok k → LengthAt k) → ((k : Length) → y ≡ Ok k → LengthAt k) → both_needed x y ≡ Ok l
      → LengthAt l
  both-at x y l f g e =
      let p = first_ok x (λ p. and_then y (λ q. ok_length (larger_of p q))) l e in
      let q = first_ok y (λ q. ok_length (larger_of p.0 q)) l p.2 in
      subst LengthAt (same_length-is (larger_of p.0 q.0) l q.2) (larger-at p.0 q.0 (f p.0 p.1) (g q.0 q.1))

  two-at : (a b : Term) (v t : ℕ) (ts : List Extents) (l : Length) → (term_scoped sizes a v t && term_scoped sizes b v t) ≡ true
      → ((k : Length) → term_scoped sizes a v t ≡ true → needed a ts ≡ Ok k → LengthAt k)
      → ((k : Length) → term_scoped sizes b v t ≡ true → needed b ts ≡ Ok k → LengthAt k) → both_needed (needed a ts) (needed b ts) ≡ Ok l → LengthAt l
  two-at a b v t ts l c f g e = let p = and_parts (term_scoped sizes a v t) (term_scoped sizes b v t) c in both-at (needed a ts) (needed b ts) l (λ k. f k p.0)
      (λ k. g k p.1) e

  pub need-at : (e : Term) (v t : ℕ) (ts : List Extents) (l : Length) → term_scoped sizes e v t ≡ true → Every (All0 sizes) ts → needed e ts ≡ Ok l → LengthAt l
  need-at (Lit w) v t ts l c b h = none-at l h
  need-at (WordOf x) v t ts l c b h = none-at l h
  need-at (TVar q) v t ts l c b h = none-at l h
  need-at (index e x) v t ts l c b h = need-at e v t ts l (and_parts (term_scoped sizes e v t) (items_scoped sizes v x) c).0 b h
  need-at (gen n e) v t ts l c b h = need-at e (v + 1) t ts l (and_parts (items_scoped sizes 0 n) (term_scoped sizes e (v + 1) t) c).1 b h
  need-at (sum n e) v t ts l c b h = need-at e (v + 1) t ts l (and_parts (items_scoped sizes 0 n) (term_scoped sizes e (v + 1) t) c).1 b h
  need-at (guard d e) v t ts l c b h = need-at e v t ts l (and_parts (cond_scoped sizes v d) (term_scoped sizes e v t) c).1 b h
  need-at (flatten e) v t ts l c b h = need-at e v t ts l c b h
  need-at (split k e) v t ts l c b h = need-at e v t ts l (and_parts (nat_lt 0 k && nat_le k largest_tile) (term_scoped sizes e v t) c).1 b h
  need-at (transpose e) v t ts l c b h = need-at e v t ts l c b h
  need-at (trunc_l n e) v t ts l c b h = need-at e v t ts l (and_parts (items_scoped sizes 0 n) (term_scoped sizes e v t) c).1 b h
  need-at (trunc_r n e) v t ts l c b h = need-at e v t ts l (and_parts (items_scoped sizes 0 n) (term_scoped sizes e v t) c).1 b h
  need-at (pad_l n e) v t ts l c b h = need-at e v t ts l (and_parts (items_scoped sizes 0 n) (term_scoped sizes e v t) c).1 b h
  need-at (pad_r n e) v t ts l c b h = need-at e v t ts l (and_parts (items_scoped sizes 0 n) (term_scoped sizes e v t) c).1 b h
  need-at (let_in a e) v t ts l c b h =
      let p = and_parts (term_scoped sizes a v t) (term_scoped sizes e v (t + 1)) c in
      let ns = extents_or_none (shape_of a ts) in
      let s = shape-eon sizes a v t ts p.0 b in
      let w = first_ok (words_form ns) (λ words. and_then (needed a ts) (λ p. and_then (needed e (ns ∷ ts)) (λ q. longer words (larger_of p q)))) l h in
      let f = first_ok (needed a ts) (λ p. and_then (needed e (ns ∷ ts)) (λ q. longer w.0 (larger_of p q))) l w.2 in
      let g = first_ok (needed e (ns ∷ ts)) (λ q. longer w.0 (larger_of f.0 q)) l f.2 in
      longer-at w.0 (larger_of f.0 g.0) l (subst (At sizes 0) (words-raw ns w.0 w.1) (length-at sizes ns s)) (larger-at f.0 g.0 (need-at a v t ts f.0 p.0 b f.1)
      (need-at e v (t + 1) (ns ∷ ts) g.0 p.1 (s, b) g.1)) g.2
  need-at (add a e) v t ts l c b h = two-at a e v t ts l c (λ k d g. need-at a v t ts k d b g) (λ k d g. need-at e v t ts k d b g) h
  need-at (sub a e) v t ts l c b h = two-at a e v t ts l c (λ k d g. need-at a v t ts k d b g) (λ k d g. need-at e v t ts k d b g) h
  need-at (mul a e) v t ts l c b h = two-at a e v t ts l c (λ k d g. need-at a v t ts k d b g) (λ k d g. need-at e v t ts k d b g) h
  need-at (concat a e) v t ts l c b h = two-at a e v t ts l c (λ k d g. need-at a v t ts k d b g) (λ k d g. need-at e v t ts k d b g) h

  take-at : (n : ℕ) (ls : List Length) → Every LengthAt ls → Every LengthAt (take n ls)
  take-at zero ls h = tt
  take-at (suc n) [] h = tt
  take-at (suc n) (l ∷ ls) h = (h.0, take-at n ls h.1)

  drop-at : (n : ℕ) (ls : List Length) → Every LengthAt ls → Every LengthAt (drop n ls)
  drop-at zero ls h = h
  drop-at (suc n) [] h = tt
  drop-at (suc n) (l ∷ ls) h = drop-at n ls h.1

  halves-at : (n : ℕ) (ls : List Length) → Every LengthAt ls → LengthAt (by_halves n ls)
  halves-at n [] h = literal-at sizes 0 (pos 0)
  halves-at n (l ∷ []) h = h.0
  halves-at zero (l ∷ k ∷ ls) h = h.0
  halves-at (suc n) (l ∷ k ∷ ls) h =
      let all = l ∷ k ∷ ls in
      let m = (length all + 1) / 2 in
      larger-at (by_halves n (take m all)) (by_halves n (drop m all)) (halves-at n (take m all) (take-at m all h)) (halves-at n (drop m all) (drop-at m all h))

  more-at : (ls : List Length) (l : Length) → Every LengthAt ls → LengthAt l → Every LengthAt (ls ++ l ∷ [])
  more-at [] l h g = (g, tt)
  more-at (k ∷ ls) l h g = (h.0, more-at ls l h.1 g)

  needs-at : (tensors : ℕ) (ts : List Extents) (os : List OutputDecl) (ls ks : List Length) → outputs_scoped sizes tensors os ≡ true → Every (All0 sizes) ts
      → Every LengthAt ls → needs_after ls os ts ≡ Ok ks → Every LengthAt ks
  needs-at tensors ts [] ls ks c b h e = subst (Every LengthAt) (same_lengths ls ks e) h
  needs-at tensors ts (o ∷ os) ls ks c b h e =
      let p = and_parts (term_scoped sizes o.term 0 tensors) (outputs_scoped sizes tensors os) c in
      let q = first_ok (needed o.term ts) (λ l. needs_after (ls ++ l ∷ []) os ts) ks e in
      needs-at tensors ts os (ls ++ q.0 ∷ []) ks p.1 b (more-at ls q.0 h (need-at o.term 0 tensors ts q.0 p.0 b q.1)) q.2

  pub module-at : (m : Module) (l : Length) → outputs_scoped sizes (length m.inputs) m.outputs ≡ true → Every (All0 sizes) (input_shapes m)
      → module_needed m ≡ Ok l → LengthAt l
  module-at m l c b e =
      let q = first_ok (needs_after [] m.outputs (input_shapes m)) (λ ls. ok_length (largest_of ls)) l e in
      subst LengthAt (same_length-is (largest_of q.0) l q.2) (halves-at (length q.0) q.0 (needs-at (length m.inputs)
      (input_shapes m) m.outputs [] q.0 c b tt q.1))
