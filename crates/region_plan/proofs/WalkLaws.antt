-- A walk of a term: its parts are well scoped, and its plan is that of its parts.
use Rattle.std.proofs.Common.{◌≡◌, ℕ, suc, ◌+◌, ◌*◌, ◌<◌, List, ◌∷◌, length, refl, ap, sym, subst, ◌∙◌, arith, true, ◌&&◌, nat_lt, nat_le, Ok, Err, IfOk, IsOk}
use Rattle.std.proofs.Common.{◌⊎◌, inl, inr}
use Rattle.std.proofs.lemmas.Bool.{and_from, and_parts}
use Rattle.affine_index.specs.declared.aff.Aff.{Aff}
use Rattle.affine_index.specs.declared.cond.Cond.{Cond}
use Rattle.affine_index.specs.declared.form.Items.{Items}
use Rattle.affine_index.specs.Limited.{items_scoped}
use Rattle.term_tree.specs.declared.term.Term.{Term}
use Rattle.term_tree.specs.declared.term.Term.TheVariants.{Index, Gen, Sum, Guard, Let, Add, Sub, Mul, Concat, Flatten, Split, Transpose, TruncL, TruncR, PadL}
use Rattle.term_tree.specs.declared.term.Term.TheVariants.{PadR}
use Rattle.term_tree.specs.Scope.{cond_scoped, largest_tile, term_scoped}
use Rattle.term_tree.specs.Counts.{node_count}
use Rattle.term_tree.specs.Shape.{Extents, shape_of}
use Rattle.term_tree.specs.Syntax.{index, gen, sum, guard, let_in, add, sub, mul, concat, flatten, split, transpose, trunc_l, trunc_r, pad_l, pad_r}
use Rattle.term_tree.proofs.Forms.{Index-is, Gen-is, Sum-is, Guard-is, Let-is, Add-is, Sub-is, Mul-is, Concat-is, Flatten-is, Split-is, Transpose-is, TruncL-is}
use Rattle.term_tree.proofs.Forms.{TruncR-is, PadL-is, PadR-is}
use Rattle.shape_rules.specs.declared.shapes.Shapes.{Shapes}
use Rattle.shape_rules.specs.Scopes.{IsScoped, all_free, each_free, given}
use Rattle.shape_rules.proofs.FreeShapes.{shape_free}
use Rattle.shape_rules.proofs.PlainLaws.{plain_scoped}
use Rattle.term_tree.specs.Shape.{Shaped, with_child}
use Rattle.region_plan.specs.Needed.{needed, two_needs}
use Rattle.region_plan.specs.Planned.{planned, two_parts}
use Rattle.region_plan.specs.Shaped.{IsShaped}

-- the shape of a definition holds no index variable
pub free_definition : (sh : Shapes) (e : Term) (ns : Extents) → IsShaped sh e → all_free (given sh) ≡ true → shape_of e (given sh) ≡ Ok ns → each_free ns ≡ true
free_definition sh e ns h g k = subst (λ r. IfOk r (λ ns. each_free ns ≡ true)) k
    (shape_free e (given sh) (plain_scoped h.0.0 e h.0.1 (length (given sh)) h.0.2) g)

module _ (sh : Shapes) where
  -- the part of a term with one is well scoped
  down_index : (e : Term) (x : Aff) → IsScoped sh (index e x) → IsScoped sh e
  down_index e x h = (h.0, h.1, (and_parts (term_scoped h.0 e h.1 (length (given sh))) (items_scoped h.0 h.1 x) h.2).0)

  down_gen : (x : Aff) (e : Term) → IsScoped sh (gen x e) → IsScoped sh e
  down_gen x e h = (h.0, h.1 + 1, (and_parts (items_scoped h.0 0 x) (term_scoped h.0 e (h.1 + 1) (length (given sh))) h.2).1)

  down_sum : (x : Aff) (e : Term) → IsScoped sh (sum x e) → IsScoped sh e
  down_sum x e h = (h.0, h.1 + 1, (and_parts (items_scoped h.0 0 x) (term_scoped h.0 e (h.1 + 1) (length (given sh))) h.2).1)

  down_guard : (x : Cond) (e : Term) → IsScoped sh (guard x e) → IsScoped sh e
  down_guard x e h = (h.0, h.1, (and_parts (cond_scoped h.0 h.1 x) (term_scoped h.0 e h.1 (length (given sh))) h.2).1)

  down_flatten : (e : Term) → IsScoped sh (flatten e) → IsScoped sh e
  down_flatten e h = h

  down_split : (x : ℕ) (e : Term) → IsScoped sh (split x e) → IsScoped sh e
  down_split x e h = (h.0, h.1, (and_parts (nat_lt 0 x && nat_le x largest_tile) (term_scoped h.0 e h.1 (length (given sh))) h.2).1)

  down_transpose : (e : Term) → IsScoped sh (transpose e) → IsScoped sh e
  down_transpose e h = h

  down_trunc_l : (x : Aff) (e : Term) → IsScoped sh (trunc_l x e) → IsScoped sh e
  down_trunc_l x e h = (h.0, h.1, (and_parts (items_scoped h.0 0 x) (term_scoped h.0 e h.1 (length (given sh))) h.2).1)

  down_trunc_r : (x : Aff) (e : Term) → IsScoped sh (trunc_r x e) → IsScoped sh e
  down_trunc_r x e h = (h.0, h.1, (and_parts (items_scoped h.0 0 x) (term_scoped h.0 e h.1 (length (given sh))) h.2).1)

  down_pad_l : (x : Aff) (e : Term) → IsScoped sh (pad_l x e) → IsScoped sh e
  down_pad_l x e h = (h.0, h.1, (and_parts (items_scoped h.0 0 x) (term_scoped h.0 e h.1 (length (given sh))) h.2).1)

  down_pad_r : (x : Aff) (e : Term) → IsScoped sh (pad_r x e) → IsScoped sh e
  down_pad_r x e h = (h.0, h.1, (and_parts (items_scoped h.0 0 x) (term_scoped h.0 e h.1 (length (given sh))) h.2).1)

  -- both parts of a term with two, neither inside the other
  two_parts_shaped : (a b : Term) → (sizes : ℕ) × (vars : ℕ)
      × ((term_scoped sizes a vars (length (given sh)) && term_scoped sizes b vars (length (given sh))) ≡ true)
      → IsOk (shape_of a (given sh)) × IsOk (shape_of b (given sh)) → IsShaped sh a × IsShaped sh b
  two_parts_shaped a b h o =
      let q = and_parts (term_scoped h.0 a h.1 (length (given sh))) (term_scoped h.0 b h.1 (length (given sh))) h.2 in
      (((h.0, h.1, q.0), o.0), ((h.0, h.1, q.1), o.1))

abbrev the_shapes : List Extents → List Extents → Shapes
the_shapes lets inputs = record { lets = lets; inputs = inputs }

-- a term with one part
abbrev pub IsOne : Term → Term → Type 0
IsOne f e = ((x : Aff) × (f ≡ Index e x)) ⊎
    (((x : Aff) × (f ≡ Gen x e)) ⊎
    (((x : Aff) × (f ≡ Sum x e)) ⊎
    (((x : Cond) × (f ≡ Guard x e)) ⊎
    ((f ≡ Flatten e) ⊎
    (((x : ℕ) × (f ≡ Split x e)) ⊎
    ((f ≡ Transpose e) ⊎
    (((x : Aff) × (f ≡ TruncL x e)) ⊎ (((x : Aff) × (f ≡ TruncR x e)) ⊎ (((x : Aff) × (f ≡ PadL x e)) ⊎ (((x : Aff) × (f ≡ PadR x e))))))))))))

-- a term with two parts, neither inside the other
abbrev pub IsTwo : Term → Term → Term → Type 0
IsTwo f a b = (f ≡ Add a b) ⊎ ((f ≡ Sub a b) ⊎ ((f ≡ Mul a b) ⊎ (f ≡ Concat a b)))

-- a property of terms that goes down to the part of a term with one
pub record GoesDown (P : Term → Type 0) : Type 0 where
  pub at_index : (e : Term) (x : Aff) → P (index e x) → P e
  pub at_gen : (x : Aff) (e : Term) → P (gen x e) → P e
  pub at_sum : (x : Aff) (e : Term) → P (sum x e) → P e
  pub at_guard : (x : Cond) (e : Term) → P (guard x e) → P e
  pub at_flatten : (e : Term) → P (flatten e) → P e
  pub at_split : (x : ℕ) (e : Term) → P (split x e) → P e
  pub at_transpose : (e : Term) → P (transpose e) → P e
  pub at_trunc_l : (x : Aff) (e : Term) → P (trunc_l x e) → P e
  pub at_trunc_r : (x : Aff) (e : Term) → P (trunc_r x e) → P e
  pub at_pad_l : (x : Aff) (e : Term) → P (pad_l x e) → P e
  pub at_pad_r : (x : Aff) (e : Term) → P (pad_r x e) → P e

pub one_down : (P : Term → Type 0) → GoesDown P → (f e g : Term) → g ≡ e → IsOne f e → P f → P g
one_down P d f e g k (inl q) h = subst P (sym k) (d.at_index e q.0 (subst P (q.1 ∙ Index-is e q.0) h))
one_down P d f e g k (inr (inl q)) h = subst P (sym k) (d.at_gen q.0 e (subst P (q.1 ∙ Gen-is q.0 e) h))
one_down P d f e g k (inr (inr (inl q))) h = subst P (sym k) (d.at_sum q.0 e (subst P (q.1 ∙ Sum-is q.0 e) h))
one_down P d f e g k (inr (inr (inr (inl q)))) h = subst P (sym k) (d.at_guard q.0 e (subst P (q.1 ∙ Guard-is q.0 e) h))
one_down P d f e g k (inr (inr (inr (inr (inl q))))) h = subst P (sym k) (d.at_flatten e (subst P (q ∙ Flatten-is e) h))
one_down P d f e g k (inr (inr (inr (inr (inr (inl q)))))) h = subst P (sym k) (d.at_split q.0 e (subst P (q.1 ∙ Split-is q.0 e) h))
one_down P d f e g k (inr (inr (inr (inr (inr (inr (inl q))))))) h = subst P (sym k) (d.at_transpose e (subst P (q ∙ Transpose-is e) h))
one_down P d f e g k (inr (inr (inr (inr (inr (inr (inr (inl q)))))))) h = subst P (sym k) (d.at_trunc_l q.0 e (subst P (q.1 ∙ TruncL-is q.0 e) h))
one_down P d f e g k (inr (inr (inr (inr (inr (inr (inr (inr (inl q))))))))) h = subst P (sym k) (d.at_trunc_r q.0 e (subst P (q.1 ∙ TruncR-is q.0 e) h))
one_down P d f e g k (inr (inr (inr (inr (inr (inr (inr (inr (inr (inl q)))))))))) h = subst P (sym k) (d.at_pad_l q.0 e (subst P (q.1 ∙ PadL-is q.0 e) h))
one_down P d f e g k (inr (inr (inr (inr (inr (inr (inr (inr (inr (inr q)))))))))) h = subst P (sym k) (d.at_pad_r q.0 e (subst P (q.1 ∙ PadR-is q.0 e) h))

pub one_planned : (f e g : Term) (ts : List Extents) (k : Items) → g ≡ e → IsOne f e → planned g ts k ≡ planned f ts k
one_planned f e g ts k r o = one_down (λ d. planned d ts k ≡ planned f ts k) down f e g r o refl
  where
    down : GoesDown (λ d. planned d ts k ≡ planned f ts k)
    down = record {
      at_index = λ e x h. h;
      at_gen = λ x e h. h;
      at_sum = λ x e h. h;
      at_guard = λ x e h. h;
      at_flatten = λ e h. h;
      at_split = λ x e h. h;
      at_transpose = λ e h. h;
      at_trunc_l = λ x e h. h;
      at_trunc_r = λ x e h. h;
      at_pad_l = λ x e h. h;
      at_pad_r = λ x e h. h;
    }

pub one_needed : (f e g : Term) (ts : List Extents) → g ≡ e → IsOne f e → needed g ts ≡ needed f ts
one_needed f e g ts r o = one_down (λ d. needed d ts ≡ needed f ts) down f e g r o refl
  where
    down : GoesDown (λ d. needed d ts ≡ needed f ts)
    down = record {
      at_index = λ e x h. h;
      at_gen = λ x e h. h;
      at_sum = λ x e h. h;
      at_guard = λ x e h. h;
      at_flatten = λ e h. h;
      at_split = λ x e h. h;
      at_transpose = λ e h. h;
      at_trunc_l = λ x e h. h;
      at_trunc_r = λ x e h. h;
      at_pad_l = λ x e h. h;
      at_pad_r = λ x e h. h;
    }

-- a child with a shape, where its parent has one
child_ok : (k : ℕ) (r : Shaped) (f : Extents → Shaped) → IsOk (with_child k r f) → IsOk r
child_ok k (Ok ns) f h = refl
child_ok k (Err m) f h = absurd (cc)

both_ok : (r q : Shaped) (f : Extents → Extents → Shaped) → IsOk (with_child 0 r (λ ns. with_child 1 q (f ns))) → IsOk r × IsOk q
both_ok (Ok ns) q f h = (refl, child_ok 1 q (f ns) h)
both_ok (Err m) q f h = absurd (cc)

pub body_ok : (r : Shaped) (b : Term) (ns : Extents) (ts : List Extents) → r ≡ Ok ns
    → IsOk (with_child 0 r (λ ns. with_child 1 (shape_of b (ns ∷ ts)) (λ ms. Ok ms))) → IsOk (shape_of b (ns ∷ ts))
body_ok r b ns ts e h = child_ok 1 (shape_of b (ns ∷ ts)) (λ ms. Ok ms)
    (subst (λ (s : Shaped). IsOk (with_child 0 s (λ ns. with_child 1 (shape_of b (ns ∷ ts)) (λ ms. Ok ms)))) e h)

module _ (sh : Shapes) where
  -- a part of a term with one is well scoped and has a shape
  shaped_down : GoesDown (IsShaped sh)
  shaped_down = record {
    at_index = λ e x h. (down_index sh e x h.0, child_ok 0 (shape_of e (given sh)) _ h.1);
    at_gen = λ x e h. (down_gen sh x e h.0, child_ok 0 (shape_of e (given sh)) _ h.1);
    at_sum = λ x e h. (down_sum sh x e h.0, child_ok 0 (shape_of e (given sh)) _ h.1);
    at_guard = λ x e h. (down_guard sh x e h.0, child_ok 0 (shape_of e (given sh)) _ h.1);
    at_flatten = λ e h. (down_flatten sh e h.0, child_ok 0 (shape_of e (given sh)) _ h.1);
    at_split = λ x e h. (down_split sh x e h.0, child_ok 0 (shape_of e (given sh)) _ h.1);
    at_transpose = λ e h. (down_transpose sh e h.0, child_ok 0 (shape_of e (given sh)) _ h.1);
    at_trunc_l = λ x e h. (down_trunc_l sh x e h.0, child_ok 0 (shape_of e (given sh)) _ h.1);
    at_trunc_r = λ x e h. (down_trunc_r sh x e h.0, child_ok 0 (shape_of e (given sh)) _ h.1);
    at_pad_l = λ x e h. (down_pad_l sh x e h.0, child_ok 0 (shape_of e (given sh)) _ h.1);
    at_pad_r = λ x e h. (down_pad_r sh x e h.0, child_ok 0 (shape_of e (given sh)) _ h.1);
  }

  pub one_shaped : (f e g : Term) → g ≡ e → IsOne f e → IsShaped sh f → IsShaped sh g
  one_shaped f e g k o h = one_down (IsShaped sh) shaped_down f e g k o h

  two_add : (a b : Term) → IsShaped sh (add a b) → IsShaped sh a × IsShaped sh b
  two_add a b h = two_parts_shaped sh a b h.0 (both_ok (shape_of a (given sh)) (shape_of b (given sh)) _ h.1)

  two_sub : (a b : Term) → IsShaped sh (sub a b) → IsShaped sh a × IsShaped sh b
  two_sub a b h = two_parts_shaped sh a b h.0 (both_ok (shape_of a (given sh)) (shape_of b (given sh)) _ h.1)

  two_mul : (a b : Term) → IsShaped sh (mul a b) → IsShaped sh a × IsShaped sh b
  two_mul a b h = two_parts_shaped sh a b h.0 (both_ok (shape_of a (given sh)) (shape_of b (given sh)) _ h.1)

  two_concat : (a b : Term) → IsShaped sh (concat a b) → IsShaped sh a × IsShaped sh b
  two_concat a b h = two_parts_shaped sh a b h.0 (both_ok (shape_of a (given sh)) (shape_of b (given sh)) _ h.1)

  pub two_shaped : (f a b c d : Term) → c ≡ a → d ≡ b → IsTwo f a b → IsShaped sh f → IsShaped sh c × IsShaped sh d
  two_shaped f a b c d k l (inl q) h = let p = two_add a b (subst (IsShaped sh) (q ∙ Add-is a b) h) in
      (subst (IsShaped sh) (sym k) p.0, subst (IsShaped sh) (sym l) p.1)
  two_shaped f a b c d k l (inr (inl q)) h = let p = two_sub a b (subst (IsShaped sh) (q ∙ Sub-is a b) h) in
      (subst (IsShaped sh) (sym k) p.0, subst (IsShaped sh) (sym l) p.1)
  two_shaped f a b c d k l (inr (inr (inl q))) h = let p = two_mul a b (subst (IsShaped sh) (q ∙ Mul-is a b) h) in
      (subst (IsShaped sh) (sym k) p.0, subst (IsShaped sh) (sym l) p.1)
  two_shaped f a b c d k l (inr (inr (inr q))) h = let p = two_concat a b (subst (IsShaped sh) (q ∙ Concat-is a b) h) in
      (subst (IsShaped sh) (sym k) p.0, subst (IsShaped sh) (sym l) p.1)

  -- the definition of a let
  pub definition_shaped : (a b : Term) → IsShaped sh (let_in a b) → IsShaped sh a
  definition_shaped a b h =
      let q = and_parts (term_scoped h.0.0 a h.0.1 (length (given sh))) (term_scoped h.0.0 b h.0.1 (length (given sh) + 1)) h.0.2 in
      ((h.0.0, h.0.1, q.0), child_ok 0 (shape_of a (given sh)) _ h.1)

pub two_planned : (f a b c d : Term) (ts : List Extents) (k : Items) → c ≡ a → d ≡ b → IsTwo f a b → two_parts c d ts k ≡ planned f ts k
two_planned f a b c d ts k r o (inl q) = (λ i. two_parts (r i) (o i) ts k) ∙ ap (λ g. planned g ts k) (sym (q ∙ Add-is a b))
two_planned f a b c d ts k r o (inr (inl q)) = (λ i. two_parts (r i) (o i) ts k) ∙ ap (λ g. planned g ts k) (sym (q ∙ Sub-is a b))
two_planned f a b c d ts k r o (inr (inr (inl q))) = (λ i. two_parts (r i) (o i) ts k) ∙ ap (λ g. planned g ts k) (sym (q ∙ Mul-is a b))
two_planned f a b c d ts k r o (inr (inr (inr q))) = (λ i. two_parts (r i) (o i) ts k) ∙ ap (λ g. planned g ts k) (sym (q ∙ Concat-is a b))

pub two_needed : (f a b c d : Term) (ts : List Extents) → c ≡ a → d ≡ b → IsTwo f a b → two_needs c d ts ≡ needed f ts
two_needed f a b c d ts r o (inl q) = (λ i. two_needs (r i) (o i) ts) ∙ ap (λ g. needed g ts) (sym (q ∙ Add-is a b))
two_needed f a b c d ts r o (inr (inl q)) = (λ i. two_needs (r i) (o i) ts) ∙ ap (λ g. needed g ts) (sym (q ∙ Sub-is a b))
two_needed f a b c d ts r o (inr (inr (inl q))) = (λ i. two_needs (r i) (o i) ts) ∙ ap (λ g. needed g ts) (sym (q ∙ Mul-is a b))
two_needed f a b c d ts r o (inr (inr (inr q))) = (λ i. two_needs (r i) (o i) ts) ∙ ap (λ g. needed g ts) (sym (q ∙ Concat-is a b))

pub let_shaped : (sh : Shapes) (f a b c d : Term) → c ≡ a → d ≡ b → f ≡ Let a b → IsShaped sh f → IsShaped sh (let_in c d)
let_shaped sh f a b c d k l e h = subst (IsShaped sh) (e ∙ Let-is a b ∙ (λ i. let_in (sym k i) (sym l i))) h

pub let_planned : (f a b c d : Term) (ts : List Extents) (k : Items) → c ≡ a → d ≡ b → f ≡ Let a b → planned (let_in c d) ts k ≡ planned f ts k
let_planned f a b c d ts k r o e = ap (λ g. planned g ts k) ((λ i. let_in (r i) (o i)) ∙ sym (Let-is a b) ∙ sym e)

pub let_needed : (f a b c d : Term) (ts : List Extents) → c ≡ a → d ≡ b → f ≡ Let a b → needed (let_in c d) ts ≡ needed f ts
let_needed f a b c d ts r o e = ap (λ g. needed g ts) ((λ i. let_in (r i) (o i)) ∙ sym (Let-is a b) ∙ sym e)

-- the body of a let under its shape
pub body_shaped : (sh after under : Shapes) (a b : Term) (ns : Extents) → IsShaped sh (let_in a b) → all_free (given sh) ≡ true → after ≡ sh
    → shape_of a (given sh) ≡ Ok ns → each_free ns ≡ true
    → under ≡ record { lets = ns ∷ after.lets; inputs = after.inputs } → IsShaped under b × (all_free (given under) ≡ true)
body_shaped sh after under a b ns h g r k f e =
    let q = and_parts (term_scoped h.0.0 a h.0.1 (length (given sh))) (term_scoped h.0.0 b h.0.1 (length (given sh) + 1)) h.0.2 in
    let more : length (given sh) + 1 ≡ suc (length (given sh)) = omega arith in
    let full = e ∙ (λ i. the_shapes (ns ∷ (r i).lets) (r i).inputs) in
    subst (λ u. IsShaped u b × (all_free (given u) ≡ true)) (sym full) (
      ((h.0.0, h.0.1, subst (λ t. term_scoped h.0.0 b h.0.1 t ≡ true) more q.1), body_ok (shape_of a (given sh)) b ns (given sh) k h.1),
      and_from (each_free ns)
          (all_free (given sh)) f g,
    )

pub one_less : (f e g : Term) → g ≡ e → IsOne f e → 2 * node_count g < 2 * node_count f
one_less f e g r (inl q) = let n : node_count f ≡ node_count e + 1 = ap node_count (q.1 ∙ Index-is e q.0) in omega (arith, n, ap node_count r)
one_less f e g r (inr (inl q)) = let n : node_count f ≡ node_count e + 1 = ap node_count (q.1 ∙ Gen-is q.0 e) in omega (arith, n, ap node_count r)
one_less f e g r (inr (inr (inl q))) = let n : node_count f ≡ node_count e + 1 = ap node_count (q.1 ∙ Sum-is q.0 e) in omega (arith, n, ap node_count r)
one_less f e g r (inr (inr (inr (inl q)))) = let n : node_count f ≡ node_count e + 1 = ap node_count (q.1 ∙ Guard-is q.0 e) in omega (arith, n, ap node_count r)
one_less f e g r (inr (inr (inr (inr (inl q))))) = let n : node_count f ≡ node_count e + 1 = ap node_count (q ∙ Flatten-is e) in omega
    (arith, n, ap node_count r)
one_less f e g r (inr (inr (inr (inr (inr (inl q)))))) = let n : node_count f ≡ node_count e + 1 = ap node_count (q.1 ∙ Split-is q.0 e) in omega
    (arith, n, ap node_count r)
one_less f e g r (inr (inr (inr (inr (inr (inr (inl q))))))) = let n : node_count f ≡ node_count e + 1 = ap node_count (q ∙ Transpose-is e) in omega
    (arith, n, ap node_count r)
one_less f e g r (inr (inr (inr (inr (inr (inr (inr (inl q)))))))) = let n : node_count f ≡ node_count e + 1 = ap node_count (q.1 ∙ TruncL-is q.0 e) in omega
    (arith, n, ap node_count r)
one_less f e g r (inr (inr (inr (inr (inr (inr (inr (inr (inl q))))))))) = let n : node_count f ≡ node_count e + 1 = ap node_count (q.1 ∙ TruncR-is q.0 e) in
    omega (arith, n, ap node_count r)
one_less f e g r (inr (inr (inr (inr (inr (inr (inr (inr (inr (inl q)))))))))) = let n : node_count f ≡ node_count e + 1 = ap node_count (q.1 ∙ PadL-is q.0 e)
    in omega (arith, n, ap node_count r)
one_less f e g r (inr (inr (inr (inr (inr (inr (inr (inr (inr (inr q)))))))))) = let n : node_count f ≡ node_count e + 1 = ap node_count (q.1 ∙ PadR-is q.0 e)
    in omega (arith, n, ap node_count r)

pub two_less : (f a b c d : Term) → c ≡ a → d ≡ b → IsTwo f a b → 2 * (node_count c + node_count d) + 1 < 2 * node_count f
two_less f a b c d r o (inl q) = let n : node_count f ≡ node_count a + node_count b + 1 = ap node_count (q ∙ Add-is a b) in omega
    (arith, n, ap node_count r, ap node_count o)
two_less f a b c d r o (inr (inl q)) = let n : node_count f ≡ node_count a + node_count b + 1 = ap node_count (q ∙ Sub-is a b) in omega
    (arith, n, ap node_count r, ap node_count o)
two_less f a b c d r o (inr (inr (inl q))) = let n : node_count f ≡ node_count a + node_count b + 1 = ap node_count (q ∙ Mul-is a b) in omega
    (arith, n, ap node_count r, ap node_count o)
two_less f a b c d r o (inr (inr (inr q))) = let n : node_count f ≡ node_count a + node_count b + 1 = ap node_count (q ∙ Concat-is a b) in omega
    (arith, n, ap node_count r, ap node_count o)

pub let_less : (f a b c d : Term) → c ≡ a → d ≡ b → f ≡ Let a b → 2 * (node_count c + node_count d) + 1 < 2 * node_count f
let_less f a b c d r o q = let n : node_count f ≡ node_count a + node_count b + 1 = ap node_count (q ∙ Let-is a b) in omega
    (arith, n, ap node_count r, ap node_count o)

pub first_less : (a b : Term) → 2 * node_count a < 2 * (node_count a + node_count b) + 1
first_less a b = omega arith

pub second_less : (a b : Term) → 2 * node_count b < 2 * (node_count a + node_count b) + 1
second_less a b = omega arith

pub falls : {m n t : ℕ} → n ≡ t → m < n → m < t
falls {m} e l = subst (λ k. m < k) e l
