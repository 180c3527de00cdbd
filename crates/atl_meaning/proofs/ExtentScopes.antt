-- The extents that operators give name what their operands name.
use Rattle.std.proofs.Common.{◌≡◌, ℕ, zero, suc, ◌-◌, [], ◌∷◌, List, get_or, refl, true}
use Rattle.std.specs.Prelude.{pos}
use Rattle.std.proofs.lemmas.Bool.{and_from, and_parts}
use Rattle.affine_index.specs.Form.{literal_form}
use Rattle.affine_index.specs.Limited.{items_scoped}
use Rattle.affine_index.specs.Product.{product_of}
use Rattle.affine_index.specs.Sum.{difference_of, sum_of}
use Rattle.affine_index.specs.declared.form.Items.{Items}
use Rattle.affine_index.proofs.FormScopes.{Form, form-of, of-form, sum-form, difference-form, product-form, quotient-form}
use Rattle.term_tree.specs.Modules.{extents_scoped}
use Rattle.term_tree.specs.Shape.{Extents, tiles}
use Rattle.atl_meaning.specs.Forms.{chunked_forms, concatenated_forms, each_scoped, flattened_forms, lengthened_forms, shortened_forms, transposed_forms}
use Rattle.atl_meaning.specs.Lists.{rest_of}

module _ (s : ℕ) where
  tiles-form : (k : ℕ) (n : Items) → Form s 0 n → Form s 0 (tiles k n)
  tiles-form k n h = quotient-form s 0 (sum_of n (literal_form (pos (k - 1)))) k (sum-form s 0 n (literal_form (pos (k - 1))) h tt)

  -- a list of extents, by its first
  first-scoped : (n : Items) (ns : Extents) → extents_scoped s (n ∷ ns) ≡ true → (Form s 0 n) × (extents_scoped s ns ≡ true)
  first-scoped n ns h = let p = and_parts (items_scoped s 0 n) (extents_scoped s ns) h in (form-of s 0 n p.0, p.1)

  in_front-scoped : (n : Items) (ns : Extents) → Form s 0 n → extents_scoped s ns ≡ true → extents_scoped s (n ∷ ns) ≡ true
  in_front-scoped n ns p q = and_from (items_scoped s 0 n) (extents_scoped s ns) (of-form s 0 n p) q

  pub rows-scoped : (n : Items) (ns : Extents) → items_scoped s 0 n ≡ true → extents_scoped s ns ≡ true → extents_scoped s (n ∷ ns) ≡ true
  rows-scoped n ns p q = and_from (items_scoped s 0 n) (extents_scoped s ns) p q

  pub rest-extents : (ns : Extents) → extents_scoped s ns ≡ true → extents_scoped s (rest_of ns) ≡ true
  rest-extents [] h = h
  rest-extents (n ∷ ns) h = (first-scoped n ns h).1

  pub concatenated-scoped : (ns ms : Extents) → extents_scoped s ns ≡ true → extents_scoped s ms ≡ true → extents_scoped s (concatenated_forms ns ms) ≡ true
  concatenated-scoped [] ms p q = refl
  concatenated-scoped (n ∷ ns) [] p q = refl
  concatenated-scoped (n ∷ ns) (m ∷ ms) p q =
      let a = first-scoped n ns p in let b = first-scoped m ms q in
      in_front-scoped (sum_of n m) ns (sum-form s 0 n m a.0 b.0) a.1

  pub flattened-scoped : (ns : Extents) → extents_scoped s ns ≡ true → extents_scoped s (flattened_forms ns) ≡ true
  flattened-scoped [] p = refl
  flattened-scoped (n ∷ []) p = refl
  flattened-scoped (n ∷ m ∷ ns) p =
      let a = first-scoped n (m ∷ ns) p in let b = first-scoped m ns a.1 in
      in_front-scoped (product_of n m) ns (product-form s 0 n m a.0 b.0) b.1

  pub chunked-scoped : (k : ℕ) (ns : Extents) → extents_scoped s ns ≡ true → extents_scoped s (chunked_forms k ns) ≡ true
  chunked-scoped k [] p = refl
  chunked-scoped k (n ∷ ns) p =
      let a = first-scoped n ns p in
      in_front-scoped (tiles k n) (literal_form (pos k) ∷ ns) (tiles-form k n a.0) (in_front-scoped (literal_form (pos k)) ns tt a.1)

  pub transposed-scoped : (ns : Extents) → extents_scoped s ns ≡ true → extents_scoped s (transposed_forms ns) ≡ true
  transposed-scoped [] p = refl
  transposed-scoped (n ∷ []) p = refl
  transposed-scoped (n ∷ m ∷ ns) p =
      let a = first-scoped n (m ∷ ns) p in let b = first-scoped m ns a.1 in
      in_front-scoped m (n ∷ ns) b.0 (in_front-scoped n ns a.0 b.1)

  pub shortened-scoped : (a : Items) (ns : Extents) → items_scoped s 0 a ≡ true → extents_scoped s ns ≡ true → extents_scoped s (shortened_forms a ns) ≡ true
  shortened-scoped a [] p q = refl
  shortened-scoped a (n ∷ ns) p q = let b = first-scoped n ns q in in_front-scoped (difference_of n a) ns (difference-form s 0 n a b.0 (form-of s 0 a p)) b.1

  pub lengthened-scoped : (a : Items) (ns : Extents) → items_scoped s 0 a ≡ true → extents_scoped s ns ≡ true → extents_scoped s (lengthened_forms a ns) ≡ true
  lengthened-scoped a [] p q = refl
  lengthened-scoped a (n ∷ ns) p q = let b = first-scoped n ns q in in_front-scoped (sum_of n a) ns (sum-form s 0 n a b.0 (form-of s 0 a p)) b.1

  pub shape-scoped : (ts : List Extents) (q : ℕ) → each_scoped s ts ≡ true → extents_scoped s (get_or ts q []) ≡ true
  shape-scoped [] q h = refl
  shape-scoped (ns ∷ ts) zero h = (and_parts (extents_scoped s ns) (each_scoped s ts) h).0
  shape-scoped (ns ∷ ts) (suc q) h = shape-scoped ts q (and_parts (extents_scoped s ns) (each_scoped s ts) h).1

  pub under-scoped : (ns : Extents) (ts : List Extents) → extents_scoped s ns ≡ true → each_scoped s ts ≡ true → each_scoped s (ns ∷ ts) ≡ true
  under-scoped ns ts p q = and_from (extents_scoped s ns) (each_scoped s ts) p q

pub ruleset scope_laws = (
  rows-scoped,
  rest-extents,
  concatenated-scoped,
  flattened-scoped,
  chunked-scoped,
  transposed-scoped,
  shortened-scoped,
  lengthened-scoped,
  shape-scoped,
  under-scoped,
)
