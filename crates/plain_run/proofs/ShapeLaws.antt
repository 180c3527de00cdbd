-- Products that end at 2^64 - 1, and inputs that are not too big.
use Rattle.std.proofs.Common.{◌≡◌, ◌∙◌, ℕ, zero, suc, ◌-◌, ◌*◌, ◌<◌, ◌≤◌, ◌^◌, max, min, Bool, true, false, ◌||◌, nat_lt, if◌then◌else◌}
use Rattle.std.proofs.Common.{List, [], ◌∷◌, length, map, drop, Option, Some, None, refl, ap, sym, arith}
use Rattle.std.proofs.lemmas.Bool.{lt-ltb}
use Rattle.std.proofs.lemmas.Bool.Decides.{nat_tests}
use Rattle.affine_index.proofs.MagnitudeBounds.{both}
use Rattle.term_tree.specs.Modules.{extents_at}
use Rattle.term_tree.specs.Shape.{Extents}
use Rattle.term_tree.specs.Shaped.{word_count}
use Rattle.term_tree.specs.declared.term.InputDecl.{InputDecl}
use Rattle.atl_meaning.specs.Words.{any_large, at_least_one, first_big_input, too_big, word_product, words_at, words_of}
use Rattle.atl_meaning.proofs.ExactLaws.{none-at}
use Rattle.atl_meaning.proofs.WordLaws.{product-next}
use Rattle.plain_run.specs.Shapes.{capped_count, found_unless, product_of, wrong_count}

-- ---- products

nothing : (w m cap r : ℕ) → min (r * 0) cap ≡ min (w * (m * 0)) cap
nothing w m cap r = omega arith

-- a product that ended may be multiplied on
pub times-next : (w m p cap r : ℕ) → r ≡ min (w * m) cap → min (r * p) cap ≡ min (w * (m * p)) cap
times-next w m zero cap r e = nothing w m cap r
times-next w m (suc p) cap r e = product-next w m (suc p) cap r e (omega arith)

pub times-least : (ns : List ℕ) → product_of 1 ns ≡ word_product ns
times-least [] = refl
times-least (n ∷ ns) = ap (λ (p : ℕ). max n 1 * p) (times-least ns)

no_least : (n : ℕ) → max n 0 ≡ n
no_least n = omega arith

pub times-most : (ns : List ℕ) → product_of 0 ns ≡ word_count ns
times-most [] = refl
times-most (n ∷ ns) = (λ i. no_least n i * times-most ns i)

fewer : (ns : List ℕ) → word_count ns ≤ word_product ns
fewer [] = omega arith
fewer (n ∷ ns) = both n (max n 1) (word_count ns) (word_product ns) (omega arith) (fewer ns)

over_of : (n : ℕ) → nat_lt (2 ^ 24) n ≡ false → n ≤ 2 ^ 24
over_of n h = grind (arith, nat_tests)

not_over : (n : ℕ) → n ≤ 2 ^ 24 → nat_lt (2 ^ 24) n ≡ false
not_over n h = grind (arith, nat_tests)

-- the number of words, where it is within the limit also with each extent counted as at least 1
counted : (ns : List ℕ) → words_of ns ≤ 2 ^ 24 → capped_count ns ≡ word_count ns
counted ns h = omega (arith, h, times-most ns, fewer ns)

-- ---- inputs that are not too big

abbrev shape_so : List ℕ → Option (List ℕ)
shape_so ns = Some ns

same_shape : (ns ms : List ℕ) → shape_so ns ≡ shape_so ms → ms ≡ ns
same_shape ns ms e = cc

pub found-some : (b : Bool) (ns shape : List ℕ) → found_unless b ns ≡ Some shape → (b ≡ false) × (shape ≡ ns)
found-some true ns shape h = absurd cc
found-some false ns shape h = (refl, same_shape ns shape h)

module _ (s : List ℕ) where
  large-words : (ns : Extents) (b : Bool) → any_large (at_least_one s) ns ≡ b
      → words_at s ns false ≡ (if b then 2 ^ 64 - 1 else words_of (extents_at ns s))
  large-words ns b e = ap (λ (x : Bool). if false || x then 2 ^ 64 - 1 else words_of (extents_at ns s)) e

  over_large : nat_lt (2 ^ 24) (2 ^ 64 - 1) ≡ true
  over_large = refl

  -- a large extent makes the input too big
  pub big-large : (ns : Extents) → any_large (at_least_one s) ns ≡ true → too_big (words_at s ns false) None ≡ Some (2 ^ 64 - 1)
  big-large ns e = ap (λ (w : ℕ). too_big w None) (large-words ns true e)

  pub big-many : (ns : Extents) (w : ℕ) → any_large (at_least_one s) ns ≡ false → w ≡ min (product_of 1 (extents_at ns s)) (2 ^ 64 - 1) → 2 ^ 24 < w
      → too_big (words_at s ns false) None ≡ Some w
  big-many ns w e is h =
      let words : words_at s ns false ≡ w = large-words ns false e ∙ ap (λ (p : ℕ). min p (2 ^ 64 - 1)) (sym (times-least (extents_at ns s))) ∙ sym is in
      ap (λ (x : ℕ). too_big x None) words ∙ ap (λ (b : Bool). if b then Some w else None) (lt-ltb (2 ^ 24) w h)

  pub big-few : (ns : Extents) (w : ℕ) → any_large (at_least_one s) ns ≡ false → w ≡ min (product_of 1 (extents_at ns s)) (2 ^ 64 - 1) → w ≤ 2 ^ 24
      → too_big (words_at s ns false) None ≡ None
  big-few ns w e is h =
      let words : words_at s ns false ≡ w = large-words ns false e ∙ ap (λ (p : ℕ). min p (2 ^ 64 - 1)) (sym (times-least (extents_at ns s))) ∙ sym is in
      ap (λ (x : ℕ). too_big x None) words ∙ ap (λ (b : Bool). if b then Some w else None) (not_over w h)

  some_first : (b : Bool) (w v : ℕ) (later : Option ℕ) → (if b then Some w else None) ≡ Some v → (if b then Some w else later) ≡ Some v
  some_first true w v later h = h
  some_first false w v later h = absurd cc

  none_first : (b : Bool) (w : ℕ) (later : Option ℕ) → (if b then Some w else None) ≡ None → (if b then Some w else later) ≡ later
  none_first true w later h = absurd cc
  none_first false w later h = refl

  none_over : (b : Bool) (w : ℕ) (later : Option ℕ) → (if b then Some w else later) ≡ None → b ≡ false
  none_over true w later h = absurd cc
  none_over false w later h = refl

  -- the first that is too big, whatever comes later
  pub big-first : (w v : ℕ) (later : Option ℕ) → too_big w None ≡ Some v → too_big w later ≡ Some v
  big-first w v later h = some_first (nat_lt (2 ^ 24) w) w v later h

  pub big-later : (w : ℕ) (later : Option ℕ) → too_big w None ≡ None → too_big w later ≡ later
  big-later w later h = none_first (nat_lt (2 ^ 24) w) w later h

  counted-one : (ns : Extents) (later : Option ℕ) → too_big (words_at s ns false) later ≡ None → capped_count (extents_at ns s) ≡ word_count (extents_at ns s)
  counted-one ns later h =
      let fits = over_of (words_at s ns false) (none_over (nat_lt (2 ^ 24) (words_at s ns false)) (words_at s ns false) later h) in
      let words = large-words ns false (none-at s ns false later h).1 in
      counted (extents_at ns s) (omega (arith, fits, words))

  -- where no input is too big, no number of words ends
  pub counts-are : (ds : List InputDecl) → first_big_input ds s ≡ None
      → map capped_count (map (λ (d : InputDecl). extents_at d.extents s) ds) ≡ map word_count (map (λ (d : InputDecl). extents_at d.extents s) ds)
  counts-are [] h = refl
  counts-are (d ∷ ds) h =
      let here = counted-one d.extents (first_big_input ds s) h in
      let rest = counts-are ds (none-at s d.extents false (first_big_input ds s) h).2 in
      λ i. here i ∷ rest i

-- ---- wrong counts

no_inputs : (k : ℕ) (ns : List ℕ) → wrong_count k ns [] ≡ None
no_inputs k [] = refl
no_inputs k (n ∷ ns) = refl

pub wrong-end : (k at : ℕ) (dss wss : List (List ℕ)) → min (length dss) (length wss) ≤ at
    → wrong_count k (map capped_count (drop at dss)) (drop at wss) ≡ None
wrong-end k zero [] wss h = refl
wrong-end k zero (ds ∷ dss) [] h = refl
wrong-end k zero (ds ∷ dss) (ws ∷ wss) h = absurd (omega (arith, h))
wrong-end k (suc at) [] wss h = refl
wrong-end k (suc at) (ds ∷ dss) [] h = no_inputs k (map capped_count (drop at dss))
wrong-end k (suc at) (ds ∷ dss) (ws ∷ wss) h = wrong-end k at dss wss (omega (arith, h))
