-- A term in which a variable does not occur means the same whatever the value of the variable.
use Rattle.std.proofs.Common.{◌≡◌, ℕ, zero, suc, ◌+◌, ◌-◌, ◌*◌, ◌/◌, ◌%◌, ◌^◌, List, [], ◌∷◌, ◌++◌, length, drop, get_or, refl, ap, sym, ◌∙◌, arith, false}
use Rattle.std.proofs.Common.{◌&&◌, ◌==◌, if◌then◌else◌, eq-eqb}
use Rattle.std.proofs.lemmas.Bool.{or_parts}
use Rattle.std.specs.Prelude.{slice_index}
use Rattle.affine_index.specs.Value.{items_value}
use Rattle.affine_index.specs.Condition.{all_hold, cmp_at, cmp_form}
use Rattle.affine_index.specs.declared.form.Items.{Items}
use Rattle.affine_index.specs.declared.cond.Cmp.{Cmp}
use Rattle.term_tree.specs.declared.term.Term.{Term, Lit, TVar, WordOf}
use Rattle.term_tree.specs.Syntax.{index, gen, sum, guard, let_in, add, sub, mul, concat, flatten, split, transpose, trunc_l, trunc_r, pad_l, pad_r}
use Rattle.term_tree.specs.Meaning.{word_of, extent, head_of, tail_of, dims, den, row_at, chunks, columns, Bound, no_bound, extents_of}
use Rattle.term_tree.specs.Tensors.{Word, rows_of, from_rows, by_places, copies, zeros, tabulate, total, joined, drop_last}
use Rattle.binders.specs.Uses.{IgnoresIndex, IgnoresTensor, any_cmp, uses, uses_index, uses_tensor}
use Rattle.binders.proofs.Agreement.{value-agrees_at}

pub get_or-extents_of : (t : List Bound) (q : ℕ) → get_or (extents_of t) q [] ≡ (get_or t q no_bound).0
get_or-extents_of [] q = refl
get_or-extents_of (b ∷ t) zero = refl
get_or-extents_of (b ∷ t) (suc q) = get_or-extents_of t q

-- environments that differ at one variable at most
abbrev pub AgreeBut : ℕ → List ℕ → List ℕ → Type 0
AgreeBut v r r' = (w : ℕ) → (w ≡ v → ⊥) → slice_index r w ≡ slice_index r' w

agree_under : (v k : ℕ) (r r' : List ℕ) → AgreeBut v r r' → AgreeBut (v + 1) (k ∷ r) (k ∷ r')
agree_under v k r r' h zero n = refl
agree_under v k r r' h (suc w) n = h w (λ e. n (omega (arith, e)))

agree_one : (is r : List ℕ) (a b : ℕ) → AgreeBut (length is) (is ++ (a ∷ r)) (is ++ (b ∷ r))
agree_one [] r a b zero n = absurd (n refl)
agree_one [] r a b (suc w) n = refl
agree_one (i ∷ is) r a b zero n = refl
agree_one (i ∷ is) r a b (suc w) n = agree_one is r a b w (λ e. n (ap suc e))

value_ignores : (s r r' : List ℕ) (v : ℕ) → AgreeBut v r r' → (x : Items) → uses v x ≡ false → items_value s r x ≡ items_value s r' x
value_ignores s r r' v h x free = value-agrees_at s r r' x (λ w u. h w (λ e. let f = ap (λ z. uses z x) e in absurd (cc)))

all_ignore : (s r r' : List ℕ) (v : ℕ) → AgreeBut v r r' → (cs : List Cmp) → any_cmp (uses v) cs ≡ false → all_hold s r cs ≡ all_hold s r' cs
all_ignore s r r' v h [] free = refl
all_ignore s r r' v h (c ∷ cs) free =
    let f = or_parts (uses v (cmp_form c)) (any_cmp (uses v) cs) free in
    λ i. cmp_at c (value_ignores s r r' v h (cmp_form c) f.0 i) && all_ignore s r r' v h cs f.1 i

pub index_same : (e : Term) (v : ℕ) (s r r' : List ℕ) (t : List Bound) → AgreeBut v r r' → uses_index e v ≡ false → den e s r t ≡ den e s r' t
index_same (Lit w) v s r r' t h free = refl
index_same (TVar q) v s r r' t h free = refl
index_same (WordOf x) v s r r' t h free = λ i. Word (word_of (value_ignores s r r' v h x free i))
index_same (index e x) v s r r' t h free =
    let f = or_parts (uses_index e v) (uses v x) free in
    λ i. row_at (rows_of (index_same e v s r r' t h f.0 i)) (value_ignores s r r' v h x f.1 i) (zeros (tail_of (dims e s (extents_of t))))
index_same (gen n e) v s r r' t h free =
    let f = or_parts (uses v n) (uses_index e (v + 1)) free in
    λ i. from_rows (tabulate (extent n s) (λ k. index_same e (v + 1) s (k ∷ r) (k ∷ r') t (agree_under v k r r' h) f.1 i))
index_same (sum n e) v s r r' t h free =
    let f = or_parts (uses v n) (uses_index e (v + 1)) free in
    λ i. total (zeros (dims e s (extents_of t))) (tabulate (extent n s) (λ k. index_same e (v + 1) s (k ∷ r) (k ∷ r') t (agree_under v k r r' h) f.1 i))
index_same (guard c e) v s r r' t h free =
    let f = or_parts (any_cmp (uses v) c.all) (uses_index e v) free in
    λ i. if all_ignore s r r' v h c.all f.0 i then index_same e v s r r' t h f.1 i else zeros (dims e s (extents_of t))
index_same (let_in a b) v s r r' t h free =
    let f = or_parts (uses_index a v) (uses_index b v) free in
    (λ i. den b s r ((dims a s (extents_of t), index_same a v s r r' t h f.0 i) ∷ t))
    ∙ index_same b v s r r' ((dims a s (extents_of t), den a s r' t) ∷ t) h f.1
index_same (add a b) v s r r' t h free = let f = or_parts (uses_index a v) (uses_index b v) free in
    λ i. by_places (λ v w. (v + w) % 2 ^ 64) (index_same a v s r r' t h f.0 i) (index_same b v s r r' t h f.1 i)
index_same (sub a b) v s r r' t h free = let f = or_parts (uses_index a v) (uses_index b v) free in
    λ i. by_places (λ v w. (v + (2 ^ 64 - w)) % 2 ^ 64) (index_same a v s r r' t h f.0 i) (index_same b v s r r' t h f.1 i)
index_same (mul a b) v s r r' t h free = let f = or_parts (uses_index a v) (uses_index b v) free in
    λ i. by_places (λ v w. (v * w) % 2 ^ 64) (index_same a v s r r' t h f.0 i) (index_same b v s r r' t h f.1 i)
index_same (concat a b) v s r r' t h free = let f = or_parts (uses_index a v) (uses_index b v) free in
    λ i. from_rows (rows_of (index_same a v s r r' t h f.0 i) ++ rows_of (index_same b v s r r' t h f.1 i))
index_same (flatten e) v s r r' t h free = λ i. from_rows (joined (rows_of (index_same e v s r r' t h free i)))
index_same (split k e) v s r r' t h free = λ i. let d = dims e s (extents_of t) in
    from_rows (chunks ((head_of d + k - 1) / k) k (zeros (tail_of d)) (rows_of (index_same e v s r r' t h free i)))
index_same (transpose e) v s r r' t h free = λ i. let d = dims e s (extents_of t) in
    from_rows (columns (head_of (tail_of d)) (zeros (tail_of (tail_of d))) (rows_of (index_same e v s r r' t h free i)))
index_same (trunc_l n e) v s r r' t h free = let f = or_parts (uses v n) (uses_index e v) free in
    λ i. from_rows (drop (extent n s) (rows_of (index_same e v s r r' t h f.1 i)))
index_same (trunc_r n e) v s r r' t h free = let f = or_parts (uses v n) (uses_index e v) free in
    λ i. from_rows (drop_last (extent n s) (rows_of (index_same e v s r r' t h f.1 i)))
index_same (pad_l n e) v s r r' t h free = let f = or_parts (uses v n) (uses_index e v) free in
    λ i. from_rows (copies (extent n s) (zeros (tail_of (dims e s (extents_of t)))) ++ rows_of (index_same e v s r r' t h f.1 i))
index_same (pad_r n e) v s r r' t h free = let f = or_parts (uses v n) (uses_index e v) free in
    λ i. from_rows (rows_of (index_same e v s r r' t h f.1 i) ++ copies (extent n s) (zeros (tail_of (dims e s (extents_of t)))))

pub ignores_index : (e : Term) (v : ℕ) → uses_index e v ≡ false → IgnoresIndex e v
ignores_index e v free s is r a b t n =
    index_same e (length is) s (is ++ (a ∷ r)) (is ++ (b ∷ r)) t (agree_one is r a b) (ap (uses_index e) n ∙ free)

-- tensors that differ at one variable at most
abbrev pub TensorsAgreeBut : ℕ → List Bound → List Bound → Type 0
TensorsAgreeBut v t t' = (w : ℕ) → (w ≡ v → ⊥) → get_or t w no_bound ≡ get_or t' w no_bound

tensors_agree_under : (v : ℕ) (x : Bound) (t t' : List Bound) → TensorsAgreeBut v t t' → TensorsAgreeBut (v + 1) (x ∷ t) (x ∷ t')
tensors_agree_under v x t t' h zero n = refl
tensors_agree_under v x t t' h (suc w) n = h w (λ e. n (omega (arith, e)))

tensors_agree_one : (ts t : List Bound) (a b : Bound) → TensorsAgreeBut (length ts) (ts ++ (a ∷ t)) (ts ++ (b ∷ t))
tensors_agree_one [] t a b zero n = absurd (n refl)
tensors_agree_one [] t a b (suc w) n = refl
tensors_agree_one (x ∷ ts) t a b zero n = refl
tensors_agree_one (x ∷ ts) t a b (suc w) n = tensors_agree_one ts t a b w (λ e. n (ap suc e))

-- equal extents and equal tensors of a term at two lists of tensor variables
pub record Same (e : Term) (s r : List ℕ) (t t' : List Bound) : Type 0 where
  pub extents : dims e s (extents_of t) ≡ dims e s (extents_of t')
  pub meaning : den e s r t ≡ den e s r t'

other : (q v : ℕ) → (q == v) ≡ false → q ≡ v → ⊥
other q v h e = let same = eq-eqb q v e in absurd (cc)

pub tensor_same : (e : Term) (v : ℕ) (s r : List ℕ) (t t' : List Bound) → TensorsAgreeBut v t t' → uses_tensor e v ≡ false → Same e s r t t'
tensor_same (Lit w) v s r t t' h free = record { extents = refl; meaning = refl }
tensor_same (TVar q) v s r t t' h free =
    let same = h q (other q v free) in
    record {
      extents = get_or-extents_of t q ∙ ap (λ (b : Bound). b.0) same ∙ sym (get_or-extents_of t' q);
      meaning = ap (λ (b : Bound). b.1) same;
    }
tensor_same (WordOf x) v s r t t' h free = record { extents = refl; meaning = refl }
tensor_same (index e x) v s r t t' h free = let g = tensor_same e v s r t t' h free in record {
  extents = ap tail_of g.extents;
  meaning = λ i. row_at (rows_of (g.meaning i)) (items_value s r x) (zeros (tail_of (g.extents i)));
}
tensor_same (gen n e) v s r t t' h free = record {
  extents = λ i. extent n s ∷ (tensor_same e v s (0 ∷ r) t t' h free).extents i;
  meaning = λ i. from_rows (tabulate (extent n s) (λ k. (tensor_same e v s (k ∷ r) t t' h free).meaning i));
}
tensor_same (sum n e) v s r t t' h free = record {
  extents = (tensor_same e v s (0 ∷ r) t t' h free).extents;
  meaning = λ i. total (zeros ((tensor_same e v s (0 ∷ r) t t' h free).extents i))
      (tabulate (extent n s) (λ k. (tensor_same e v s (k ∷ r) t t' h free).meaning i));
}
tensor_same (guard c e) v s r t t' h free = let g = tensor_same e v s r t t' h free in record {
  extents = g.extents;
  meaning = λ i. if all_hold s r c.all then g.meaning i else zeros (g.extents i);
}
tensor_same (let_in a b) v s r t t' h free =
    let f = or_parts (uses_tensor a v) (uses_tensor b (v + 1)) free in
    let g = tensor_same a v s r t t' h f.0 in
    let x : Bound = (dims a s (extents_of t'), den a s r t') in
    let k = tensor_same b (v + 1) s r (x ∷ t) (x ∷ t') (tensors_agree_under v x t t' h) f.1 in
    record {
      extents = (λ i. dims b s (g.extents i ∷ extents_of t)) ∙ k.extents;
      meaning = (λ i. den b s r ((g.extents i, g.meaning i) ∷ t)) ∙ k.meaning;
    }
tensor_same (add a b) v s r t t' h free = let f = or_parts (uses_tensor a v) (uses_tensor b v) free in let g = tensor_same a v s r t t' h f.0 in let k =
    tensor_same b v s r t t' h f.1 in record { extents = g.extents; meaning = λ i. by_places (λ v w. (v + w) % 2 ^ 64) (g.meaning i) (k.meaning i) }
tensor_same (sub a b) v s r t t' h free = let f = or_parts (uses_tensor a v) (uses_tensor b v) free in let g = tensor_same a v s r t t' h f.0 in let k =
    tensor_same b v s r t t' h f.1 in record { extents = g.extents; meaning = λ i. by_places (λ v w. (v + (2 ^ 64 - w)) % 2 ^ 64) (g.meaning i) (k.meaning i) }
tensor_same (mul a b) v s r t t' h free = let f = or_parts (uses_tensor a v) (uses_tensor b v) free in let g = tensor_same a v s r t t' h f.0 in let k =
    tensor_same b v s r t t' h f.1 in record { extents = refl; meaning = λ i. by_places (λ v w. (v * w) % 2 ^ 64) (g.meaning i) (k.meaning i) }
tensor_same (concat a b) v s r t t' h free = let f = or_parts (uses_tensor a v) (uses_tensor b v) free in let g = tensor_same a v s r t t' h f.0 in let k =
    tensor_same b v s r t t' h f.1 in
    record {
      extents = λ i. (head_of (g.extents i) + head_of (k.extents i)) ∷ tail_of (g.extents i);
      meaning =
          λ i. from_rows (rows_of (g.meaning i) ++ rows_of (k.meaning i));
    }
tensor_same (flatten e) v s r t t' h free = let g = tensor_same e v s r t t' h free in record {
  extents = ap (λ d. (head_of d * head_of (tail_of d)) ∷ tail_of (tail_of d)) g.extents;
  meaning = λ i. from_rows (joined (rows_of (g.meaning i)));
}
tensor_same (split k e) v s r t t' h free = let g = tensor_same e v s r t t' h free in record {
  extents = ap (λ d. ((head_of d + k - 1) / k) ∷ k ∷ tail_of d) g.extents;
  meaning = λ i. from_rows (chunks ((head_of (g.extents i) + k - 1) / k) k (zeros (tail_of (g.extents i))) (rows_of (g.meaning i)));
}
tensor_same (transpose e) v s r t t' h free = let g = tensor_same e v s r t t' h free in record {
  extents = ap (λ d. head_of (tail_of d) ∷ head_of d ∷ tail_of (tail_of d)) g.extents;
  meaning = λ i. from_rows (columns (head_of (tail_of (g.extents i))) (zeros (tail_of (tail_of (g.extents i)))) (rows_of (g.meaning i)));
}
tensor_same (trunc_l n e) v s r t t' h free = let g = tensor_same e v s r t t' h free in record {
  extents = ap (λ d. (head_of d - extent n s) ∷ tail_of d) g.extents;
  meaning = λ i. from_rows (drop (extent n s) (rows_of (g.meaning i)));
}
tensor_same (trunc_r n e) v s r t t' h free = let g = tensor_same e v s r t t' h free in record {
  extents = ap (λ d. (head_of d - extent n s) ∷ tail_of d) g.extents;
  meaning = λ i. from_rows (drop_last (extent n s) (rows_of (g.meaning i)));
}
tensor_same (pad_l n e) v s r t t' h free = let g = tensor_same e v s r t t' h free in record {
  extents = ap (λ d. (head_of d + extent n s) ∷ tail_of d) g.extents;
  meaning = λ i. from_rows (copies (extent n s) (zeros (tail_of (g.extents i))) ++ rows_of (g.meaning i));
}
tensor_same (pad_r n e) v s r t t' h free = let g = tensor_same e v s r t t' h free in record {
  extents = ap (λ d. (head_of d + extent n s) ∷ tail_of d) g.extents;
  meaning = λ i. from_rows (rows_of (g.meaning i) ++ copies (extent n s) (zeros (tail_of (g.extents i))));
}

pub ignores_tensor : (e : Term) (v : ℕ) → uses_tensor e v ≡ false → IgnoresTensor e v
ignores_tensor e v free s r ts t a b n =
    let h = tensor_same e (length ts) s r (ts ++ (a ∷ t)) (ts ++ (b ∷ t)) (tensors_agree_one ts t a b) (ap (uses_tensor e) n ∙ free) in
    (h.extents, h.meaning)
