-- Where tensors lie at a node: shapes have values, offsets are over sizes alone.
use Rattle.std.proofs.Common.{◌≡◌, ℕ, ◌+◌, List, [], ◌∷◌, length, map, refl, sym, ap, ◌∙◌, arith, true, not, Ok, Err, IfOk}
use Rattle.std.specs.Prelude.{pos, ◌+ℤ◌}
use Rattle.std.proofs.lemmas.Bool.{and_from, and_parts}
use Rattle.affine_index.specs.Normal.{holds_var}
use Rattle.affine_index.specs.Product.{product_of}
use Rattle.affine_index.specs.Value.{items_value}
use Rattle.affine_index.specs.declared.form.Items.{Items}
use Rattle.affine_index.proofs.SumValue.{sum_of-value}
use Rattle.affine_index.proofs.Values.{value-literal}
use Rattle.reindexer.proofs.FreeValue.{free_value}
use Rattle.reindexer.proofs.SendLaws.{not_false}
use Rattle.region_plan.proofs.NeedLaws.{shape_values}
use Rattle.shape_rules.specs.Meant.{HasMeaning}
use Rattle.shape_rules.specs.Parts.{EachPart}
use Rattle.shape_rules.specs.Scopes.{all_free, each_free}
use Rattle.shape_rules.specs.Values.{AllHaveValues, HaveValues}
use Rattle.shape_rules.proofs.FreeForms.{IsFree, free_literal, free_product, free_sum}
use Rattle.shape_rules.proofs.FreeShapes.{shape_free}
use Rattle.shape_rules.proofs.PlainLaws.{plain_scoped}
use Rattle.term_tree.specs.declared.term.Term.{Term}
use Rattle.term_tree.specs.Goals.{extents_or_none}
use Rattle.term_tree.specs.Meaning.{count_of, dims, extent, head_of, tail_of}
use Rattle.term_tree.specs.Modules.{extents_at}
use Rattle.term_tree.specs.Scope.{term_scoped}
use Rattle.term_tree.specs.Shape.{Extents, Shaped, shape_of}
use Rattle.term_tree.specs.Shaped.{word_count}
use Rattle.final_rules.specs.Places.{Place, Site, extents_under, first_of, free_after, length_form, length_from, let_site, rest_of, shape_at, shapes}
use Rattle.final_rules.proofs.PlaceValues.{Counts, length-value}
use Rattle.lowering_laws.proofs.Going.{IsCount}

-- the first extent, and the others
pub free-first : (ns : Extents) → each_free ns ≡ true → IsFree (first_of ns)
free-first [] h = free_literal (pos 0)
free-first (n ∷ ns) h = (and_parts (not (holds_var n)) (each_free ns) h).0

pub free-rest : (ns : Extents) → each_free ns ≡ true → each_free (rest_of ns) ≡ true
free-rest [] h = refl
free-rest (n ∷ ns) h = (and_parts (not (holds_var n)) (each_free ns) h).1

free-from : (x : Items) (ns : Extents) → IsFree x → each_free ns ≡ true → IsFree (length_from x ns)
free-from x [] h g = h
free-from x (n ∷ ns) h g =
    let p = and_parts (not (holds_var n)) (each_free ns) g in
    free-from (product_of x n) ns (free_product x n h p.0) p.1

free-length : (ns : Extents) → each_free ns ≡ true → IsFree (length_form ns)
free-length [] h = free_literal (pos 1)
free-length (n ∷ ns) h = let p = and_parts (not (holds_var n)) (each_free ns) h in free-from n ns p.0 p.1

free-or-none : (r : Shaped) → IfOk r (λ ns. each_free ns ≡ true) → each_free (extents_or_none r) ≡ true
free-or-none (Ok ns) h = h
free-or-none (Err m) h = refl

-- the extents of a term are over sizes alone
pub free-shape : (sizes : ℕ) (e : Term) (v t : ℕ) (ts : List Extents) → term_scoped sizes e v t ≡ true → all_free ts ≡ true
    → each_free (extents_under e ts) ≡ true
free-shape sizes e v t ts h g = free-or-none (shape_of e ts) (shape_free e ts (plain_scoped sizes e v t h) g)

module _ (s : List ℕ) where
  -- a number that has a value counts as it
  pub count-value : (n : Items) (k : ℕ) → items_value s [] n ≡ pos k → items_value s [] n ≡ pos (extent n s)
  count-value n k h = h ∙ ap pos (sym (ap count_of h))

  -- under all variables
  pub free-value : (n : Items) (k : ℕ) (y : List ℕ) → IsFree n → items_value s [] n ≡ pos k → items_value s y n ≡ pos k
  free-value n k y f h = free_value s y [] n (not_false (holds_var n) f) ∙ h

  pub extents-are : (ns : Extents) (ds : List ℕ) → HaveValues s ns ds → extents_at ns s ≡ ds
  extents-are [] [] h = refl
  extents-are [] (d ∷ ds) h = absurd h
  extents-are (n ∷ ns) [] h = absurd h
  extents-are (n ∷ ns) (d ∷ ds) h = λ i. count_of (h.0 i) ∷ extents-are ns ds h.1 i

  pub all-count : (y : List ℕ) (ns : Extents) (ds : List ℕ) → each_free ns ≡ true → HaveValues s ns ds → Counts s ns y
  all-count y [] [] f h = tt
  all-count y [] (d ∷ ds) f h = absurd h
  all-count y (n ∷ ns) [] f h = absurd h
  all-count y (n ∷ ns) (d ∷ ds) f h =
      let p = and_parts (not (holds_var n)) (each_free ns) f in
      (free-value n (extent n s) y p.0 (count-value n d h.0), all-count y ns ds p.1 h.1)

  -- where there is none, it counts as 0
  pub first-value : (ns : Extents) (ds : List ℕ) → HaveValues s ns ds → items_value s [] (first_of ns) ≡ pos (head_of ds)
  first-value [] [] h = value-literal s [] (pos 0)
  first-value [] (d ∷ ds) h = absurd h
  first-value (n ∷ ns) [] h = absurd h
  first-value (n ∷ ns) (d ∷ ds) h = h.0

  pub rest-values : (ns : Extents) (ds : List ℕ) → HaveValues s ns ds → HaveValues s (rest_of ns) (tail_of ds)
  rest-values [] [] h = tt
  rest-values [] (d ∷ ds) h = absurd h
  rest-values (n ∷ ns) [] h = absurd h
  rest-values (n ∷ ns) (d ∷ ds) h = h.1

  pub first-counts : (ns : Extents) (ds : List ℕ) → each_free ns ≡ true → HaveValues s ns ds → IsCount s (first_of ns)
  first-counts ns ds f h = (free-first ns f, count-value (first_of ns) (head_of ds) (first-value ns ds h))

  pub no-extents : (ds : List ℕ) → HaveValues s [] ds → ds ≡ []
  no-extents [] h = refl
  no-extents (d ∷ ds) h = absurd h

  -- a tensor of these extents
  pub record Target (b : Site) (es : List ℕ) : Type 0 where
    pub free : each_free b.extents ≡ true
    pub values : HaveValues s b.extents es
    pub offset : IsCount s b.offset

  -- the tensor variables, of which there are so many, have the extents ds, the tensor that is stored in es, and scratch is free from the k-th word on
  pub record Lying (xs : List Site) (b : Site) (free : Items) (t : ℕ) (ds : List (List ℕ)) (es : List ℕ) (k : ℕ) : Type 0 where
    pub shapes_free : all_free (map (λ x. x.extents) xs) ≡ true
    pub values : AllHaveValues s (map (λ x. x.extents) xs) ds
    pub many : length ds ≡ t
    pub target : Target b es
    pub next : IsFree free
    pub next_value : items_value s [] free ≡ pos k

  -- the words of the tensor of a let
  pub words-value : (ns : Extents) (ds : List ℕ) → each_free ns ≡ true → HaveValues s ns ds → items_value s [] (length_form ns) ≡ pos (word_count ds)
  words-value ns ds f h = length-value s [] ns (all-count [] ns ds f h) ∙ ap (λ d. pos (word_count d)) (extents-are ns ds h)

  module _ (sizes : ℕ) (a : Term) (p : Place) (v t : ℕ) (ds : List (List ℕ)) (es : List ℕ) (k : ℕ) (c : term_scoped sizes a v t ≡ true)
      (m : EachPart (HasMeaning s) a (shapes p)) (h : Lying p.sites p.target p.free t ds es k) where
    let-free : each_free (shape_at a p) ≡ true
    let-free = free-shape sizes a v t (shapes p) c h.shapes_free

    pub let-values : HaveValues s (shape_at a p) (dims a s ds)
    let-values = shape_values s a (shapes p) ds m h.values

    pub let-target : Target (let_site a p) (dims a s ds)
    let-target = record { free = let-free; values = let-values; offset = (h.next, count-value p.free k h.next_value) }

    next-free : IsFree (free_after a p)
    next-free = free_sum p.free (length_form (shape_at a p)) h.next (free-length (shape_at a p) let-free)

    pub after-value : items_value s [] (free_after a p) ≡ pos (k + word_count (dims a s ds))
    after-value =
        sum_of-value s [] p.free (length_form (shape_at a p))
        ∙ (λ i. h.next_value i +ℤ words-value (shape_at a p) (dims a s ds) let-free let-values i)

    pub in-definition : Lying p.sites (let_site a p) (free_after a p) t ds (dims a s ds) (k + word_count (dims a s ds))
    in-definition = record {
      shapes_free = h.shapes_free;
      values = h.values;
      many = h.many;
      target = let-target;
      next = next-free;
      next_value = after-value;
    }

    pub in-body : Lying (let_site a p ∷ p.sites) p.target (free_after a p) (t + 1) (dims a s ds ∷ ds) es (k + word_count (dims a s ds))
    in-body = record {
      shapes_free = and_from (each_free (shape_at a p)) (all_free (shapes p)) let-free h.shapes_free;
      values = (let-values, h.values);
      many = omega (arith, h.many);
      target = h.target;
      next = next-free;
      next_value = after-value;
    }
