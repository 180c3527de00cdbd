-- The count of a mapped term's nodes is that of the term, and a map that keeps no term breaks the same limits.
use Rattle.std.proofs.Common.{◌≡◌, ℕ, suc, ◌+◌, ◌-◌, ◌^◌, ◌<◌, ◌≤◌, refl, ap, sym, ◌∙◌, arith, add-one, Bool, true, false, ◌||◌, ◌&&◌, min, if◌then◌else◌}
use Rattle.std.proofs.Common.{Option, Some, None, Result, Ok, Err, subst, inl}
use Rattle.std.proofs.lemmas.Bool.{and_parts}
use Rattle.affine_index.specs.Normal.{is_normal, is_short}
use Rattle.affine_index.specs.Normal.{coefficients_fit as form_fits}
use Rattle.affine_index.specs.Put.{put_all}
use Rattle.affine_index.specs.declared.aff.Aff.{Aff}
use Rattle.affine_index.specs.declared.cond.Cond.{Cond}
use Rattle.term_tree.specs.declared.term.Term.{Term, Lit, TVar, WordOf}
use Rattle.term_tree.specs.declared.term.Term.TheVariants.{Index, Gen, Sum, Guard, Let, Add, Sub, Mul, Concat, Flatten, Split, Transpose, TruncL, TruncR, PadL}
use Rattle.term_tree.specs.declared.term.Term.TheVariants.{PadR}
use Rattle.term_tree.specs.Counts.{node_count}
use Rattle.term_tree.specs.Limits.{coefficients_fit, each_cmp, every_form, form_step, forms_short}
use Rattle.term_tree.specs.Syntax.{index, gen, sum, guard, let_in, add, sub, mul, concat, flatten, split, transpose, trunc_l, trunc_r, pad_l, pad_r}
use Rattle.term_tree.proofs.Forms.{Index-is, Gen-is, Sum-is, Guard-is, Let-is, Add-is, Sub-is, Mul-is, Concat-is, Flatten-is, Split-is, Transpose-is, TruncL-is}
use Rattle.term_tree.proofs.Forms.{TruncR-is, PadL-is, PadR-is}
use Rattle.term_tree.proofs.Folds.{fold-lit, fold-t_var, fold-word_of, fold-index, fold-gen, fold-sum, fold-guard, fold-let_in, fold-add, fold-sub, fold-mul}
use Rattle.term_tree.proofs.Folds.{fold-concat, fold-flatten, fold-split, fold-transpose, fold-trunc_l, fold-trunc_r, fold-pad_l, fold-pad_r}
use Rattle.term_tree.proofs.FormLaws.{every_form-weaker}
use Rattle.binders.specs.Answers.{IsMapped, IsPartOf, Refusals, form_causes, is_memory, part_causes, refused}
use Rattle.binders.specs.Counting.{IsCount, counts_together, hollow, hollow_map, mapped_nodes, nodes_step}
use Rattle.binders.specs.Maps.{Replacement, map_fold, mapped, put_cond}
use Rattle.binders.specs.declared.refusal.MapRefusal.{MapRefusal}
use Rattle.binders.specs.declared.refusal.MapRefusal.TheVariants.{IndexTooLong, TooManyNodes}
use Rattle.binders.proofs.CauseLaws.{Cause, of_Index, of_Gen, of_Sum, of_Guard, of_definition, of_body, of_first-Add, of_second-Add, of_first-Sub}
use Rattle.binders.proofs.CauseLaws.{of_second-Sub, of_first-Mul, of_second-Mul, of_first-Concat, of_second-Concat, of_Flatten, of_Split, of_Transpose}
use Rattle.binders.proofs.CauseLaws.{of_TruncL, of_TruncR, of_PadL, of_PadR}
use Rattle.binders.proofs.MapFold.{map_fold-is}
use Rattle.binders.proofs.NormalLaws.{fits_of, short_of}
use Rattle.binders.proofs.RefusalLaws.{refusal_is}

module _ (m : Replacement) where
  -- the count is that of the mapped term
  pub mapped_nodes-is : (e : Term) (i j : ℕ) → mapped_nodes m e i j ≡ node_count (mapped m i j e)
  mapped_nodes-is (Lit w) i j = ap (λ f. f i j) (fold-lit (ℕ → ℕ → ℕ) (nodes_step m) w)
  mapped_nodes-is (TVar q) i j = ap (λ f. f i j) (fold-t_var (ℕ → ℕ → ℕ) (nodes_step m) q)
  mapped_nodes-is (WordOf x) i j = ap (λ f. f i j) (fold-word_of (ℕ → ℕ → ℕ) (nodes_step m) x)
  mapped_nodes-is (index e x) i j = ap (λ f. f i j) (fold-index (ℕ → ℕ → ℕ) (nodes_step m) e x) ∙ ap (λ n. n + 1) (mapped_nodes-is e i j)
  mapped_nodes-is (guard c e) i j = ap (λ f. f i j) (fold-guard (ℕ → ℕ → ℕ) (nodes_step m) c e) ∙ ap (λ n. n + 1) (mapped_nodes-is e i j)
  mapped_nodes-is (flatten e) i j = ap (λ f. f i j) (fold-flatten (ℕ → ℕ → ℕ) (nodes_step m) e) ∙ ap (λ n. n + 1) (mapped_nodes-is e i j)
  mapped_nodes-is (split k e) i j = ap (λ f. f i j) (fold-split (ℕ → ℕ → ℕ) (nodes_step m) k e) ∙ ap (λ n. n + 1) (mapped_nodes-is e i j)
  mapped_nodes-is (transpose e) i j = ap (λ f. f i j) (fold-transpose (ℕ → ℕ → ℕ) (nodes_step m) e) ∙ ap (λ n. n + 1) (mapped_nodes-is e i j)
  mapped_nodes-is (trunc_l n e) i j = ap (λ f. f i j) (fold-trunc_l (ℕ → ℕ → ℕ) (nodes_step m) n e) ∙ ap (λ n. n + 1) (mapped_nodes-is e i j)
  mapped_nodes-is (trunc_r n e) i j = ap (λ f. f i j) (fold-trunc_r (ℕ → ℕ → ℕ) (nodes_step m) n e) ∙ ap (λ n. n + 1) (mapped_nodes-is e i j)
  mapped_nodes-is (pad_l n e) i j = ap (λ f. f i j) (fold-pad_l (ℕ → ℕ → ℕ) (nodes_step m) n e) ∙ ap (λ n. n + 1) (mapped_nodes-is e i j)
  mapped_nodes-is (pad_r n e) i j = ap (λ f. f i j) (fold-pad_r (ℕ → ℕ → ℕ) (nodes_step m) n e) ∙ ap (λ n. n + 1) (mapped_nodes-is e i j)
  mapped_nodes-is (gen n e) i j = ap (λ f. f i j) (fold-gen (ℕ → ℕ → ℕ) (nodes_step m) n e)
      ∙ ap (λ n. n + 1) (mapped_nodes-is e (i + 1) j ∙ ap (λ k. node_count (mapped m k j e)) (add-one i))
  mapped_nodes-is (sum n e) i j = ap (λ f. f i j) (fold-sum (ℕ → ℕ → ℕ) (nodes_step m) n e)
      ∙ ap (λ n. n + 1) (mapped_nodes-is e (i + 1) j ∙ ap (λ k. node_count (mapped m k j e)) (add-one i))
  mapped_nodes-is (let_in a b) i j = ap (λ f. f i j) (fold-let_in (ℕ → ℕ → ℕ) (nodes_step m) a b)
      ∙ (λ t. mapped_nodes-is a i j t + (mapped_nodes-is b i (j + 1) ∙ ap (λ k. node_count (mapped m i k b)) (add-one j)) t + 1)
  mapped_nodes-is (add a b) i j = ap (λ f. f i j) (fold-add (ℕ → ℕ → ℕ) (nodes_step m) a b) ∙ (λ t. mapped_nodes-is a i j t + mapped_nodes-is b i j t + 1)
  mapped_nodes-is (sub a b) i j = ap (λ f. f i j) (fold-sub (ℕ → ℕ → ℕ) (nodes_step m) a b) ∙ (λ t. mapped_nodes-is a i j t + mapped_nodes-is b i j t + 1)
  mapped_nodes-is (mul a b) i j = ap (λ f. f i j) (fold-mul (ℕ → ℕ → ℕ) (nodes_step m) a b) ∙ (λ t. mapped_nodes-is a i j t + mapped_nodes-is b i j t + 1)
  mapped_nodes-is (concat a b) i j = ap (λ f. f i j) (fold-concat (ℕ → ℕ → ℕ) (nodes_step m) a b) ∙ (λ t. mapped_nodes-is a i j t + mapped_nodes-is b i j t + 1)

sum_of_counts : (n l x y : ℕ) → n ≡ min (x + 1) (2 ^ 64 - 1) → l ≡ min y (2 ^ 64 - 1) → min (n + l) (2 ^ 64 - 1) ≡ min (x + y + 1) (2 ^ 64 - 1)
sum_of_counts n l x y f g = omega (arith, f, g)

module _ (m : Replacement) (r : Refusals) where
  abbrev Counts : Term → ℕ → ℕ → Result ℕ MapRefusal → Type 0
  Counts z i j a = IsCount (mapped_nodes m z i j) (part_causes m r z i j) a

  -- the count of a node of one child, and of two, from what is answered for them
  one_child : (z e : Term) (i j i' j' : ℕ) (a : Result ℕ MapRefusal) → mapped_nodes m e i' j' + 1 ≡ mapped_nodes m z i j
      → ((d : MapRefusal) → Cause m r d e i' j' → Cause m r d z i j)
      → IsCount (mapped_nodes m e i' j' + 1) (part_causes m r e i' j') a → Counts z i j a
  one_child z e i j i' j' (Ok n) k c h = h ∙ ap (λ n. min n (2 ^ 64 - 1)) k
  one_child z e i j i' j' (Err d) k c h = c d h

  abbrev More : Term → ℕ → ℕ → Result ℕ MapRefusal → Type 0
  More e i j a = IsCount (mapped_nodes m e i j + 1) (part_causes m r e i j) a

  two_children : (z x y : Term) (i j i' j' : ℕ) (a b : Result ℕ MapRefusal) → mapped_nodes m x i j + mapped_nodes m y i' j' + 1 ≡ mapped_nodes m z i j
      → ((d : MapRefusal) → Cause m r d x i j → Cause m r d z i j) → ((d : MapRefusal) → Cause m r d y i' j' → Cause m r d z i j)
      → More x i j a → Counts y i' j' b → Counts z i j (counts_together a b)
  two_children z x y i j i' j' (Ok n) (Ok l) k c d g h =
      sum_of_counts n l (mapped_nodes m x i j) (mapped_nodes m y i' j') g h ∙ ap (λ n. min n (2 ^ 64 - 1)) k
  two_children z x y i j i' j' (Ok n) (Err e) k c d g h = d e h
  two_children z x y i j i' j' (Err e) b k c d g h = c e g

  pub count-Index : (z : Term) (e : Term) (x : Aff) (i j : ℕ) (a : Result ℕ MapRefusal) → z ≡ Index e x
      → IsCount (mapped_nodes m e i j + 1) (part_causes m r e i j) a → Counts z i j a
  count-Index z e x i j a s h =
      one_child z e i j i j a (sym (ap (λ y. mapped_nodes m y i j) (s ∙ Index-is e x) ∙ ap (λ f. f i j) (fold-index (ℕ → ℕ → ℕ) (nodes_step m) e x)))
      (λ d. of_Index m r d z e x i j s) h

  pub count-Guard : (z : Term) (c : Cond) (e : Term) (i j : ℕ) (a : Result ℕ MapRefusal) → z ≡ Guard c e
      → IsCount (mapped_nodes m e i j + 1) (part_causes m r e i j) a → Counts z i j a
  count-Guard z c e i j a s h =
      one_child z e i j i j a (sym (ap (λ y. mapped_nodes m y i j) (s ∙ Guard-is c e) ∙ ap (λ f. f i j) (fold-guard (ℕ → ℕ → ℕ) (nodes_step m) c e)))
      (λ d. of_Guard m r d z c e i j s) h

  pub count-Flatten : (z : Term) (e : Term) (i j : ℕ) (a : Result ℕ MapRefusal) → z ≡ Flatten e → IsCount (mapped_nodes m e i j + 1) (part_causes m r e i j) a
      → Counts z i j a
  count-Flatten z e i j a s h =
      one_child z e i j i j a (sym (ap (λ y. mapped_nodes m y i j) (s ∙ Flatten-is e) ∙ ap (λ f. f i j) (fold-flatten (ℕ → ℕ → ℕ) (nodes_step m) e)))
      (λ d. of_Flatten m r d z e i j s) h

  pub count-Split : (z : Term) (k : ℕ) (e : Term) (i j : ℕ) (a : Result ℕ MapRefusal) → z ≡ Split k e
      → IsCount (mapped_nodes m e i j + 1) (part_causes m r e i j) a → Counts z i j a
  count-Split z k e i j a s h =
      one_child z e i j i j a (sym (ap (λ y. mapped_nodes m y i j) (s ∙ Split-is k e) ∙ ap (λ f. f i j) (fold-split (ℕ → ℕ → ℕ) (nodes_step m) k e)))
      (λ d. of_Split m r d z k e i j s) h

  pub count-Transpose : (z : Term) (e : Term) (i j : ℕ) (a : Result ℕ MapRefusal) → z ≡ Transpose e
      → IsCount (mapped_nodes m e i j + 1) (part_causes m r e i j) a → Counts z i j a
  count-Transpose z e i j a s h =
      one_child z e i j i j a (sym (ap (λ y. mapped_nodes m y i j) (s ∙ Transpose-is e) ∙ ap (λ f. f i j) (fold-transpose (ℕ → ℕ → ℕ) (nodes_step m) e)))
      (λ d. of_Transpose m r d z e i j s) h

  pub count-TruncL : (z : Term) (n : Aff) (e : Term) (i j : ℕ) (a : Result ℕ MapRefusal) → z ≡ TruncL n e
      → IsCount (mapped_nodes m e i j + 1) (part_causes m r e i j) a → Counts z i j a
  count-TruncL z n e i j a s h =
      one_child z e i j i j a (sym (ap (λ y. mapped_nodes m y i j) (s ∙ TruncL-is n e) ∙ ap (λ f. f i j) (fold-trunc_l (ℕ → ℕ → ℕ) (nodes_step m) n e)))
      (λ d. of_TruncL m r d z n e i j s) h

  pub count-TruncR : (z : Term) (n : Aff) (e : Term) (i j : ℕ) (a : Result ℕ MapRefusal) → z ≡ TruncR n e
      → IsCount (mapped_nodes m e i j + 1) (part_causes m r e i j) a → Counts z i j a
  count-TruncR z n e i j a s h =
      one_child z e i j i j a (sym (ap (λ y. mapped_nodes m y i j) (s ∙ TruncR-is n e) ∙ ap (λ f. f i j) (fold-trunc_r (ℕ → ℕ → ℕ) (nodes_step m) n e)))
      (λ d. of_TruncR m r d z n e i j s) h

  pub count-PadL : (z : Term) (n : Aff) (e : Term) (i j : ℕ) (a : Result ℕ MapRefusal) → z ≡ PadL n e
      → IsCount (mapped_nodes m e i j + 1) (part_causes m r e i j) a → Counts z i j a
  count-PadL z n e i j a s h =
      one_child z e i j i j a (sym (ap (λ y. mapped_nodes m y i j) (s ∙ PadL-is n e) ∙ ap (λ f. f i j) (fold-pad_l (ℕ → ℕ → ℕ) (nodes_step m) n e)))
      (λ d. of_PadL m r d z n e i j s) h

  pub count-PadR : (z : Term) (n : Aff) (e : Term) (i j : ℕ) (a : Result ℕ MapRefusal) → z ≡ PadR n e
      → IsCount (mapped_nodes m e i j + 1) (part_causes m r e i j) a → Counts z i j a
  count-PadR z n e i j a s h =
      one_child z e i j i j a (sym (ap (λ y. mapped_nodes m y i j) (s ∙ PadR-is n e) ∙ ap (λ f. f i j) (fold-pad_r (ℕ → ℕ → ℕ) (nodes_step m) n e)))
      (λ d. of_PadR m r d z n e i j s) h

  pub count-Gen : (z : Term) (n : Aff) (e : Term) (i j i' j' : ℕ) (a : Result ℕ MapRefusal) → z ≡ Gen n e → i' ≡ i + 1 → j' ≡ j
      → IsCount (mapped_nodes m e i' j' + 1) (part_causes m r e i' j') a → Counts z i j a
  count-Gen z n e i j i' j' a s p q h =
      one_child z e i j i' j' a
      ((λ t. mapped_nodes m e (p t) (q t) + 1)
      ∙ sym (ap (λ y. mapped_nodes m y i j) (s ∙ Gen-is n e) ∙ ap (λ f. f i j) (fold-gen (ℕ → ℕ → ℕ) (nodes_step m) n e)))
      (λ d. of_Gen m r d z n e i j i' j' s p q) h

  pub count-Sum : (z : Term) (n : Aff) (e : Term) (i j i' j' : ℕ) (a : Result ℕ MapRefusal) → z ≡ Sum n e → i' ≡ i + 1 → j' ≡ j
      → IsCount (mapped_nodes m e i' j' + 1) (part_causes m r e i' j') a → Counts z i j a
  count-Sum z n e i j i' j' a s p q h =
      one_child z e i j i' j' a
      ((λ t. mapped_nodes m e (p t) (q t) + 1)
      ∙ sym (ap (λ y. mapped_nodes m y i j) (s ∙ Sum-is n e) ∙ ap (λ f. f i j) (fold-sum (ℕ → ℕ → ℕ) (nodes_step m) n e)))
      (λ d. of_Sum m r d z n e i j i' j' s p q) h

  pub count-Let : (z x y : Term) (i j i' j' : ℕ) (a b c : Result ℕ MapRefusal) → z ≡ Let x y → i' ≡ i → j' ≡ j + 1 → c ≡ counts_together a b → More x i j a
      → Counts y i' j' b → Counts z i j c
  count-Let z x y i j i' j' a b c s p q e g h =
      subst (Counts z i j) (sym e) (two_children z x y i j i' j' a b ((λ t. mapped_nodes m x i j + mapped_nodes m y (p t) (q t) + 1)
      ∙ sym (ap (λ y. mapped_nodes m y i j) (s ∙ Let-is x y) ∙ ap (λ f. f i j) (fold-let_in (ℕ → ℕ → ℕ) (nodes_step m) x y)))
      (λ d. of_definition m r d z x y i j s) (λ d. of_body m r d z x y i j i' j' s p q) g h)

  pub count-Add : (z x y : Term) (i j : ℕ) (a b c : Result ℕ MapRefusal) → z ≡ Add x y → c ≡ counts_together a b → More x i j a → Counts y i j b
      → Counts z i j c
  count-Add z x y i j a b c s e g h =
      subst (Counts z i j) (sym e)
      (two_children z x y i j i j a b (sym (ap (λ y. mapped_nodes m y i j) (s ∙ Add-is x y) ∙ ap (λ f. f i j) (fold-add (ℕ → ℕ → ℕ) (nodes_step m) x y)))
      (λ d. of_first-Add m r d z x y i j s) (λ d. of_second-Add m r d z x y i j s) g h)

  pub count-Sub : (z x y : Term) (i j : ℕ) (a b c : Result ℕ MapRefusal) → z ≡ Sub x y → c ≡ counts_together a b → More x i j a → Counts y i j b
      → Counts z i j c
  count-Sub z x y i j a b c s e g h =
      subst (Counts z i j) (sym e)
      (two_children z x y i j i j a b (sym (ap (λ y. mapped_nodes m y i j) (s ∙ Sub-is x y) ∙ ap (λ f. f i j) (fold-sub (ℕ → ℕ → ℕ) (nodes_step m) x y)))
      (λ d. of_first-Sub m r d z x y i j s) (λ d. of_second-Sub m r d z x y i j s) g h)

  pub count-Mul : (z x y : Term) (i j : ℕ) (a b c : Result ℕ MapRefusal) → z ≡ Mul x y → c ≡ counts_together a b → More x i j a → Counts y i j b
      → Counts z i j c
  count-Mul z x y i j a b c s e g h =
      subst (Counts z i j) (sym e)
      (two_children z x y i j i j a b (sym (ap (λ y. mapped_nodes m y i j) (s ∙ Mul-is x y) ∙ ap (λ f. f i j) (fold-mul (ℕ → ℕ → ℕ) (nodes_step m) x y)))
      (λ d. of_first-Mul m r d z x y i j s) (λ d. of_second-Mul m r d z x y i j s) g h)

  pub count-Concat : (z x y : Term) (i j : ℕ) (a b c : Result ℕ MapRefusal) → z ≡ Concat x y → c ≡ counts_together a b → More x i j a → Counts y i j b
      → Counts z i j c
  count-Concat z x y i j a b c s e g h =
      subst (Counts z i j) (sym e)
      (two_children z x y i j i j a b
      (sym (ap (λ y. mapped_nodes m y i j) (s ∙ Concat-is x y) ∙ ap (λ f. f i j) (fold-concat (ℕ → ℕ → ℕ) (nodes_step m) x y)))
      (λ d. of_first-Concat m r d z x y i j s) (λ d. of_second-Concat m r d z x y i j s) g h)

-- a term whose limits are those of what it stands for
module _ (p : Aff → Bool) where
  pub hollow-passes : (e : Term) → ((coefficients_fit e && forms_short e) ≡ true → every_form p e ≡ true) → every_form p (hollow e) ≡ every_form p e
  hollow-passes e h = by (coefficients_fit e && forms_short e) refl
    where
      by : (b : Bool) → (coefficients_fit e && forms_short e) ≡ b → every_form p (if b then Lit 0 else e) ≡ every_form p e
      by true k = fold-lit Bool (form_step p) 0 ∙ sym (h k)
      by false k = refl

  module _ (m : Replacement) (same : (e : Term) → every_form p (hollow e) ≡ every_form p e) where
    pub mapped-hollow : (e : Term) (i j : ℕ) → every_form p (mapped (hollow_map m) i j e) ≡ every_form p (mapped m i j e)
    mapped-hollow (Lit w) i j = refl
    mapped-hollow (TVar q) i j = same (m.for_tensor i j q)
    mapped-hollow (WordOf x) i j = refl
    mapped-hollow (index e x) i j = fold-index Bool (form_step p) _ _ ∙ (λ t. mapped-hollow e i j t && p (put_all (m.for_index i j) x))
        ∙ sym (fold-index Bool (form_step p) _ _)
    mapped-hollow (guard c e) i j = fold-guard Bool (form_step p) _ _ ∙ (λ t. each_cmp p (put_cond (m.for_index i j) c).all && mapped-hollow e i j t)
        ∙ sym (fold-guard Bool (form_step p) _ _)
    mapped-hollow (gen n e) i j = fold-gen Bool (form_step p) _ _ ∙ (λ t. p n && mapped-hollow e (suc i) j t) ∙ sym (fold-gen Bool (form_step p) _ _)
    mapped-hollow (sum n e) i j = fold-sum Bool (form_step p) _ _ ∙ (λ t. p n && mapped-hollow e (suc i) j t) ∙ sym (fold-sum Bool (form_step p) _ _)
    mapped-hollow (let_in a b) i j = fold-let_in Bool (form_step p) _ _ ∙ (λ t. mapped-hollow a i j t && mapped-hollow b i (suc j) t)
        ∙ sym (fold-let_in Bool (form_step p) _ _)
    mapped-hollow (add a b) i j = fold-add Bool (form_step p) _ _ ∙ (λ t. mapped-hollow a i j t && mapped-hollow b i j t)
        ∙ sym (fold-add Bool (form_step p) _ _)
    mapped-hollow (sub a b) i j = fold-sub Bool (form_step p) _ _ ∙ (λ t. mapped-hollow a i j t && mapped-hollow b i j t)
        ∙ sym (fold-sub Bool (form_step p) _ _)
    mapped-hollow (mul a b) i j = fold-mul Bool (form_step p) _ _ ∙ (λ t. mapped-hollow a i j t && mapped-hollow b i j t)
        ∙ sym (fold-mul Bool (form_step p) _ _)
    mapped-hollow (concat a b) i j = fold-concat Bool (form_step p) _ _ ∙ (λ t. mapped-hollow a i j t && mapped-hollow b i j t)
        ∙ sym (fold-concat Bool (form_step p) _ _)
    mapped-hollow (flatten e) i j = fold-flatten Bool (form_step p) _ ∙ mapped-hollow e i j ∙ sym (fold-flatten Bool (form_step p) _)
    mapped-hollow (split k e) i j = fold-split Bool (form_step p) k _ ∙ mapped-hollow e i j ∙ sym (fold-split Bool (form_step p) k _)
    mapped-hollow (transpose e) i j = fold-transpose Bool (form_step p) _ ∙ mapped-hollow e i j ∙ sym (fold-transpose Bool (form_step p) _)
    mapped-hollow (trunc_l n e) i j = fold-trunc_l Bool (form_step p) _ _ ∙ (λ t. p n && mapped-hollow e i j t) ∙ sym (fold-trunc_l Bool (form_step p) _ _)
    mapped-hollow (trunc_r n e) i j = fold-trunc_r Bool (form_step p) _ _ ∙ (λ t. p n && mapped-hollow e i j t) ∙ sym (fold-trunc_r Bool (form_step p) _ _)
    mapped-hollow (pad_l n e) i j = fold-pad_l Bool (form_step p) _ _ ∙ (λ t. p n && mapped-hollow e i j t) ∙ sym (fold-pad_l Bool (form_step p) _ _)
    mapped-hollow (pad_r n e) i j = fold-pad_r Bool (form_step p) _ _ ∙ (λ t. p n && mapped-hollow e i j t) ∙ sym (fold-pad_r Bool (form_step p) _ _)

hollow_fits : (m : Replacement) (e : Term) → coefficients_fit (mapped (hollow_map m) 0 0 e) ≡ coefficients_fit (mapped m 0 0 e)
hollow_fits m e = mapped-hollow form_fits m (λ e. hollow-passes form_fits e (λ h. (and_parts (coefficients_fit e) (forms_short e) h).0)) e 0 0

hollow_short : (m : Replacement) (e : Term) → forms_short (mapped (hollow_map m) 0 0 e) ≡ forms_short (mapped m 0 0 e)
hollow_short m e = mapped-hollow is_short m (λ e. hollow-passes is_short e (λ h. (and_parts (coefficients_fit e) (forms_short e) h).1)) e 0 0

-- 0 stands for a term of normal forms
hollow-normal : (e : Term) → coefficients_fit e ≡ true → forms_short e ≡ true → Lit 0 ≡ hollow e
hollow-normal e f s = λ t. if (sym f t && sym s t) then Lit 0 else e

pub hollow-told : (x e : Term) → x ≡ e → every_form is_normal x ≡ true → Lit 0 ≡ hollow e
hollow-told x e s h =
    subst (λ y. Lit 0 ≡ hollow y) s (hollow-normal x (every_form-weaker is_normal form_fits fits_of x h) (every_form-weaker is_normal is_short short_of x h))

module _ (m : Replacement) (r : Refusals) (term : Term) (count : ℕ) where
  abbrev whole : Term
  whole = mapped m 0 0 term

  abbrev HollowPart : Option Term → Type 0
  HollowPart o = IsPartOf (map_fold (hollow_map m) term 0 0) (part_causes (hollow_map m) r term 0 0) (Ok o)

  -- why a term of too many nodes is refused, as the map that keeps no term tells
  pub hollow-refused : (e : MapRefusal) → (is_memory e || part_causes (hollow_map m) r term 0 0 e) ≡ true → IsMapped whole (refused r term) (Err e)
  unfolding form_causes
  hollow-refused e h = refusal_is m r term e h

  pub hollow-too_long : (o : Option Term) → o ≡ None → HollowPart o → IsMapped whole (refused r term) (Err IndexTooLong)
  hollow-too_long o s p =
      let q = subst HollowPart s p in
      let e = sym (map_fold-is (hollow_map m) term 0 0) in
      inl (sym (hollow_fits m term) ∙ ap coefficients_fit e ∙ q.0, sym (hollow_short m term) ∙ ap forms_short e ∙ q.1)

  pub hollow-too_many : (o : Option Term) (x : Term) → o ≡ Some x → HollowPart o → count ≡ min (node_count whole) (2 ^ 64 - 1) → 20000 < count
      → IsMapped whole (refused r term) (Err (TooManyNodes count))
  hollow-too_many o x s p c l =
      let q = subst HollowPart s p in
      let e = sym (map_fold-is (hollow_map m) term 0 0) in
      inl (sym (hollow_fits m term) ∙ ap coefficients_fit e ∙ q.1, sym (hollow_short m term) ∙ ap forms_short e ∙ q.2, omega (arith, c, l), c)

  -- a term of few enough nodes
  pub few_nodes : (o : Option Term) (x : Term) → o ≡ Some x → IsPartOf (map_fold m term 0 0) (part_causes m r term 0 0) (Ok o)
      → count ≡ min (node_count whole) (2 ^ 64 - 1) → count ≤ 20000
      → IsMapped whole (refused r term) (Ok x)
  few_nodes o x s p c l =
      let q = subst (λ o. IsPartOf (map_fold m term 0 0) (part_causes m r term 0 0) (Ok o)) s p in
      let e = sym (map_fold-is m term 0 0) in
      (q.0 ∙ sym e, ap coefficients_fit e ∙ q.1, ap forms_short e ∙ q.2, omega (arith, c, l))
