-- A replacement that sends values keeps the extents and the meaning of a term.
use Rattle.std.proofs.Common.{◌≡◌, ℕ, suc, ◌+◌, ◌-◌, ◌*◌, ◌/◌, ◌%◌, ◌^◌, List, [], ◌∷◌, ◌++◌, length, map, drop, refl, ap, sym, ◌∙◌, Bool, true, ◌&&◌}
use Rattle.std.proofs.Common.{if◌then◌else◌}
use Rattle.std.specs.Prelude.{slice_index, pos}
use Rattle.std.proofs.lemmas.Bool.{and_parts}
use Rattle.affine_index.specs.Value.{items_value}
use Rattle.affine_index.specs.Condition.{all_hold, cmp_at, cmp_form, cmp_holds}
use Rattle.affine_index.specs.Normal.{is_ordered}
use Rattle.affine_index.specs.Put.{put_all}
use Rattle.affine_index.proofs.PutValue.{value-put_all}
use Rattle.affine_index.specs.declared.form.Items.{Items}
use Rattle.affine_index.specs.declared.cond.Cmp.{Cmp}
use Rattle.affine_index.specs.declared.cond.Cmp.TheVariants.{Ge, Eq}
use Rattle.term_tree.specs.Limits.{each_cmp, every_form, form_step}
use Rattle.term_tree.specs.declared.term.Term.{Term, Lit, TVar, WordOf}
use Rattle.term_tree.specs.Syntax.{index, gen, sum, guard, let_in, add, sub, mul, concat, flatten, split, transpose, trunc_l, trunc_r, pad_l, pad_r}
use Rattle.term_tree.proofs.Folds.{fold-word_of, fold-index, fold-gen, fold-sum, fold-guard, fold-let_in, fold-add, fold-sub, fold-mul, fold-concat}
use Rattle.term_tree.proofs.Folds.{fold-flatten, fold-split, fold-transpose, fold-trunc_l, fold-trunc_r, fold-pad_l, fold-pad_r}
use Rattle.term_tree.specs.Meaning.{word_of, extent, head_of, tail_of, dims, den, row_at, chunks, columns, Bound, extents_of}
use Rattle.term_tree.specs.Tensors.{Word, rows_of, from_rows, by_places, copies, zeros, tabulate, total, joined, drop_last}
use Rattle.binders.specs.Maps.{Replacement, put_cmp, mapped, Sends, Keeps}
use Rattle.binders.proofs.UsesLaws.{get_or-extents_of}

module _ (f : ℕ → Items) (s r r' : List ℕ) (law : (v : ℕ) → items_value s r' (f v) ≡ pos (slice_index r v)) where
  cmp_same : (c : Cmp) → is_ordered (cmp_form c) ≡ true → cmp_holds s r' (put_cmp f c) ≡ cmp_holds s r c
  cmp_same (Ge x) ok = ap (cmp_at (Ge x)) (value-put_all s r r' f law x ok)
  cmp_same (Eq x) ok = ap (cmp_at (Eq x)) (value-put_all s r r' f law x ok)

  pub all_same : (cs : List Cmp) → each_cmp is_ordered cs ≡ true → all_hold s r' (map (put_cmp f) cs) ≡ all_hold s r cs
  all_same [] ok = refl
  all_same (c ∷ cs) ok =
      let parts = and_parts (is_ordered (cmp_form c)) (each_cmp is_ordered cs) ok in
      λ i. cmp_same c parts.0 i && all_same cs parts.1 i

-- each form in a term is normal, but for the limits
abbrev pub AllOrdered : Term → Type 0
AllOrdered e = every_form is_ordered e ≡ true

module _ (m : Replacement) (s r : List ℕ) (t : List Bound) (r' : List ℕ) (t' : List Bound) (law : Sends m s r t r' t') where
  -- what a term and its image have in common, under binders
  pub record Same (e : Term) (is : List ℕ) (ts : List Bound) : Type 0 where
    pub extents : dims (mapped m (length is) (length ts) e) s (extents_of (ts ++ t')) ≡ dims e s (extents_of (ts ++ t))
    pub meaning : den (mapped m (length is) (length ts) e) s (is ++ r') (ts ++ t') ≡ den e s (is ++ r) (ts ++ t)

  index_same : (is : List ℕ) (ts : List Bound) (x : Items) → is_ordered x ≡ true
      → items_value s (is ++ r') (put_all (m.for_index (length is) (length ts)) x) ≡ items_value s (is ++ r) x
  index_same is ts x ok = value-put_all s (is ++ r) (is ++ r') (m.for_index (length is) (length ts)) (law.index_value is ts) x ok

  pub mapped_same : (e : Term) → AllOrdered e → (is : List ℕ) (ts : List Bound) → Same e is ts
  mapped_same (Lit w) ok is ts = record { extents = refl; meaning = refl }
  mapped_same (TVar q) ok is ts = record {
    extents = law.tensor_extents is ts q ∙ sym (get_or-extents_of (ts ++ t) q);
    meaning = law.tensor_value is ts q;
  }
  mapped_same (WordOf x) ok is ts =
      let f : is_ordered x ≡ true = sym (fold-word_of Bool (form_step is_ordered) x) ∙ ok in
      record { extents = refl; meaning = λ i. Word (word_of (index_same is ts x f i)) }
  mapped_same (index e x) ok is ts =
      let f = and_parts (every_form is_ordered e) (is_ordered x) (sym (fold-index Bool (form_step is_ordered) e x) ∙ ok) in
      let h = mapped_same e f.0 is ts in
      record {
        extents = ap tail_of h.extents;
        meaning = λ i. row_at (rows_of (h.meaning i)) (index_same is ts x f.1 i) (zeros (tail_of (h.extents i)));
      }
  mapped_same (gen n e) ok is ts =
      let f = and_parts (is_ordered n) (every_form is_ordered e) (sym (fold-gen Bool (form_step is_ordered) n e) ∙ ok) in
      record {
        extents = λ i. extent n s ∷ (mapped_same e f.1 (0 ∷ is) ts).extents i;
        meaning = λ i. from_rows (tabulate (extent n s) (λ k. (mapped_same e f.1 (k ∷ is) ts).meaning i));
      }
  mapped_same (sum n e) ok is ts =
      let f = and_parts (is_ordered n) (every_form is_ordered e) (sym (fold-sum Bool (form_step is_ordered) n e) ∙ ok) in
      record {
        extents = (mapped_same e f.1 (0 ∷ is) ts).extents;
        meaning = λ i. total (zeros ((mapped_same e f.1 (0 ∷ is) ts).extents i)) (tabulate (extent n s) (λ k. (mapped_same e f.1 (k ∷ is) ts).meaning i));
      }
  mapped_same (guard c e) ok is ts =
      let f = and_parts (each_cmp is_ordered c.all) (every_form is_ordered e) (sym (fold-guard Bool (form_step is_ordered) c e) ∙ ok) in
      let h = mapped_same e f.1 is ts in
      record {
        extents = h.extents;
        meaning = λ i. if all_same (m.for_index (length is) (length ts)) s (is ++ r) (is ++ r') (law.index_value is ts) c.all f.0 i then h.meaning i else zeros
            (h.extents i);
      }
  mapped_same (let_in a b) ok is ts =
      let f = and_parts (every_form is_ordered a) (every_form is_ordered b) (sym (fold-let_in Bool (form_step is_ordered) a b) ∙ ok) in
      let g = mapped_same a f.0 is ts in
      let h = mapped_same b f.1 is ((dims a s (extents_of (ts ++ t)), den a s (is ++ r) (ts ++ t)) ∷ ts) in
      record {
        extents = (λ i. dims (mapped m (length is) (suc (length ts)) b) s (g.extents i ∷ extents_of (ts ++ t'))) ∙ h.extents;
        meaning = (λ i. den (mapped m (length is) (suc (length ts)) b) s (is ++ r') ((g.extents i, g.meaning i) ∷ (ts ++ t'))) ∙ h.meaning;
      }
  mapped_same (add a b) ok is ts =
      let f = and_parts (every_form is_ordered a) (every_form is_ordered b) (sym (fold-add Bool (form_step is_ordered) a b) ∙ ok) in
      let g = mapped_same a f.0 is ts in
      let h = mapped_same b f.1 is ts in
      record {
        extents = g.extents;
        meaning = λ i. by_places (λ v w. (v + w) % 2 ^ 64) (g.meaning i) (h.meaning i);
      }
  mapped_same (sub a b) ok is ts =
      let f = and_parts (every_form is_ordered a) (every_form is_ordered b) (sym (fold-sub Bool (form_step is_ordered) a b) ∙ ok) in
      let g = mapped_same a f.0 is ts in
      let h = mapped_same b f.1 is ts in
      record {
        extents = g.extents;
        meaning = λ i. by_places (λ v w. (v + (2 ^ 64 - w)) % 2 ^ 64) (g.meaning i) (h.meaning i);
      }
  mapped_same (mul a b) ok is ts =
      let f = and_parts (every_form is_ordered a) (every_form is_ordered b) (sym (fold-mul Bool (form_step is_ordered) a b) ∙ ok) in
      let g = mapped_same a f.0 is ts in
      let h = mapped_same b f.1 is ts in
      record {
        extents = refl;
        meaning = λ i. by_places (λ v w. (v * w) % 2 ^ 64) (g.meaning i) (h.meaning i);
      }
  mapped_same (concat a b) ok is ts =
      let f = and_parts (every_form is_ordered a) (every_form is_ordered b) (sym (fold-concat Bool (form_step is_ordered) a b) ∙ ok) in
      let g = mapped_same a f.0 is ts in
      let h = mapped_same b f.1 is ts in
      record {
        extents = λ i. (head_of (g.extents i) + head_of (h.extents i)) ∷ tail_of (g.extents i);
        meaning = λ i. from_rows (rows_of (g.meaning i) ++ rows_of (h.meaning i));
      }
  mapped_same (flatten e) ok is ts =
      let f : every_form is_ordered e ≡ true = sym (fold-flatten Bool (form_step is_ordered) e) ∙ ok in
      let h = mapped_same e f is ts in
      record {
        extents = ap (λ d. (head_of d * head_of (tail_of d)) ∷ tail_of (tail_of d)) h.extents;
        meaning = λ i. from_rows (joined (rows_of (h.meaning i)));
      }
  mapped_same (split k e) ok is ts =
      let f : every_form is_ordered e ≡ true = sym (fold-split Bool (form_step is_ordered) k e) ∙ ok in
      let h = mapped_same e f is ts in
      record {
        extents = ap (λ d. ((head_of d + k - 1) / k) ∷ k ∷ tail_of d) h.extents;
        meaning = λ i. from_rows (chunks ((head_of (h.extents i) + k - 1) / k) k (zeros (tail_of (h.extents i))) (rows_of (h.meaning i)));
      }
  mapped_same (transpose e) ok is ts =
      let f : every_form is_ordered e ≡ true = sym (fold-transpose Bool (form_step is_ordered) e) ∙ ok in
      let h = mapped_same e f is ts in
      record {
        extents = ap (λ d. head_of (tail_of d) ∷ head_of d ∷ tail_of (tail_of d)) h.extents;
        meaning = λ i. from_rows (columns (head_of (tail_of (h.extents i))) (zeros (tail_of (tail_of (h.extents i)))) (rows_of (h.meaning i)));
      }
  mapped_same (trunc_l n e) ok is ts =
      let f = and_parts (is_ordered n) (every_form is_ordered e) (sym (fold-trunc_l Bool (form_step is_ordered) n e) ∙ ok) in
      let h = mapped_same e f.1 is ts in
      record {
        extents = ap (λ d. (head_of d - extent n s) ∷ tail_of d) h.extents;
        meaning = λ i. from_rows (drop (extent n s) (rows_of (h.meaning i)));
      }
  mapped_same (trunc_r n e) ok is ts =
      let f = and_parts (is_ordered n) (every_form is_ordered e) (sym (fold-trunc_r Bool (form_step is_ordered) n e) ∙ ok) in
      let h = mapped_same e f.1 is ts in
      record {
        extents = ap (λ d. (head_of d - extent n s) ∷ tail_of d) h.extents;
        meaning = λ i. from_rows (drop_last (extent n s) (rows_of (h.meaning i)));
      }
  mapped_same (pad_l n e) ok is ts =
      let f = and_parts (is_ordered n) (every_form is_ordered e) (sym (fold-pad_l Bool (form_step is_ordered) n e) ∙ ok) in
      let h = mapped_same e f.1 is ts in
      record {
        extents = ap (λ d. (head_of d + extent n s) ∷ tail_of d) h.extents;
        meaning = λ i. from_rows (copies (extent n s) (zeros (tail_of (h.extents i))) ++ rows_of (h.meaning i));
      }
  mapped_same (pad_r n e) ok is ts =
      let f = and_parts (is_ordered n) (every_form is_ordered e) (sym (fold-pad_r Bool (form_step is_ordered) n e) ∙ ok) in
      let h = mapped_same e f.1 is ts in
      record {
        extents = ap (λ d. (head_of d + extent n s) ∷ tail_of d) h.extents;
        meaning = λ i. from_rows (rows_of (h.meaning i) ++ copies (extent n s) (zeros (tail_of (h.extents i))));
      }

-- the substitution theorem
pub mapped_keeps : (m : Replacement) (e : Term) → AllOrdered e → Keeps m e (mapped m 0 0 e)
mapped_keeps m e ok s r t r' t' law = let h = mapped_same m s r t r' t' law e ok [] [] in (h.extents, h.meaning)
