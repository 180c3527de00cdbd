-- A test that every form passes, and a weaker one.
use Rattle.std.proofs.Common.{◌≡◌, Bool, true, false, ◌&&◌, List, [], ◌∷◌, refl, sym, ◌∙◌}
use Rattle.affine_index.specs.declared.aff.Aff.{Aff}
use Rattle.affine_index.specs.declared.cond.Cmp.{Cmp}
use Rattle.term_tree.specs.declared.term.Term.{Term, Lit, TVar, WordOf}
use Rattle.affine_index.specs.Condition.{cmp_form}
use Rattle.term_tree.specs.Limits.{each_cmp, form_step, every_form}
use Rattle.term_tree.specs.Syntax.{index, gen, sum, guard, let_in, add, sub, mul, concat, flatten, split, transpose, trunc_l, trunc_r, pad_l, pad_r}
use Rattle.term_tree.proofs.Folds.{fold-lit, fold-t_var, fold-word_of, fold-index, fold-gen, fold-sum, fold-guard, fold-let_in, fold-add, fold-sub, fold-mul}
use Rattle.term_tree.proofs.Folds.{fold-concat, fold-flatten, fold-split, fold-transpose, fold-trunc_l, fold-trunc_r, fold-pad_l, fold-pad_r}

split_and : {P : Type 0} (a b : Bool) → (a && b) ≡ true → (a ≡ true → b ≡ true → P) → P
split_and true b h k = k refl h
split_and false b h k = absurd (cc)

join_and : (a b : Bool) → a ≡ true → b ≡ true → (a && b) ≡ true
join_and true b h k = k
join_and false b h k = h

module _ (p q : Aff → Bool) (weaker : (x : Aff) → p x ≡ true → q x ≡ true) where
  each_cmp-weaker : (cs : List Cmp) → each_cmp p cs ≡ true → each_cmp q cs ≡ true
  each_cmp-weaker [] h = refl
  each_cmp-weaker (c ∷ cs) h = split_and (p (cmp_form c)) (each_cmp p cs) h (λ a b. join_and _ _ (weaker (cmp_form c) a) (each_cmp-weaker cs b))

  pub every_form-weaker : (e : Term) → every_form p e ≡ true → every_form q e ≡ true
  every_form-weaker (Lit w) h = fold-lit Bool (form_step q) w
  every_form-weaker (TVar v) h = fold-t_var Bool (form_step q) v
  every_form-weaker (WordOf x) h = fold-word_of Bool (form_step q) x ∙ weaker x (sym (fold-word_of Bool (form_step p) x) ∙ h)
  every_form-weaker (index e x) h =
      fold-index Bool (form_step q) e x
      ∙ split_and (every_form p e) (p x) (sym (fold-index Bool (form_step p) e x) ∙ h) (λ f g. join_and _ _ (every_form-weaker e f) (weaker x g))
  every_form-weaker (gen n e) h =
      fold-gen Bool (form_step q) n e
      ∙ split_and (p n) (every_form p e) (sym (fold-gen Bool (form_step p) n e) ∙ h) (λ f g. join_and _ _ (weaker n f) (every_form-weaker e g))
  every_form-weaker (sum n e) h =
      fold-sum Bool (form_step q) n e
      ∙ split_and (p n) (every_form p e) (sym (fold-sum Bool (form_step p) n e) ∙ h) (λ f g. join_and _ _ (weaker n f) (every_form-weaker e g))
  every_form-weaker (guard c e) h =
      fold-guard Bool (form_step q) c e
      ∙ split_and (each_cmp p c.all) (every_form p e) (sym (fold-guard Bool (form_step p) c e) ∙ h)
      (λ f g. join_and _ _ (each_cmp-weaker c.all f) (every_form-weaker e g))
  every_form-weaker (let_in a b) h =
      fold-let_in Bool (form_step q) a b
      ∙ split_and (every_form p a) (every_form p b) (sym (fold-let_in Bool (form_step p) a b) ∙ h)
      (λ f g. join_and _ _ (every_form-weaker a f) (every_form-weaker b g))
  every_form-weaker (add a b) h =
      fold-add Bool (form_step q) a b
      ∙ split_and (every_form p a) (every_form p b) (sym (fold-add Bool (form_step p) a b) ∙ h)
      (λ f g. join_and _ _ (every_form-weaker a f) (every_form-weaker b g))
  every_form-weaker (sub a b) h =
      fold-sub Bool (form_step q) a b
      ∙ split_and (every_form p a) (every_form p b) (sym (fold-sub Bool (form_step p) a b) ∙ h)
      (λ f g. join_and _ _ (every_form-weaker a f) (every_form-weaker b g))
  every_form-weaker (mul a b) h =
      fold-mul Bool (form_step q) a b
      ∙ split_and (every_form p a) (every_form p b) (sym (fold-mul Bool (form_step p) a b) ∙ h)
      (λ f g. join_and _ _ (every_form-weaker a f) (every_form-weaker b g))
  every_form-weaker (concat a b) h =
      fold-concat Bool (form_step q) a b
      ∙ split_and (every_form p a) (every_form p b) (sym (fold-concat Bool (form_step p) a b) ∙ h)
      (λ f g. join_and _ _ (every_form-weaker a f) (every_form-weaker b g))
  every_form-weaker (flatten e) h = fold-flatten Bool (form_step q) e ∙ every_form-weaker e (sym (fold-flatten Bool (form_step p) e) ∙ h)
  every_form-weaker (split k e) h = fold-split Bool (form_step q) k e ∙ every_form-weaker e (sym (fold-split Bool (form_step p) k e) ∙ h)
  every_form-weaker (transpose e) h = fold-transpose Bool (form_step q) e ∙ every_form-weaker e (sym (fold-transpose Bool (form_step p) e) ∙ h)
  every_form-weaker (trunc_l n e) h =
      fold-trunc_l Bool (form_step q) n e
      ∙ split_and (p n) (every_form p e) (sym (fold-trunc_l Bool (form_step p) n e) ∙ h) (λ f g. join_and _ _ (weaker n f) (every_form-weaker e g))
  every_form-weaker (trunc_r n e) h =
      fold-trunc_r Bool (form_step q) n e
      ∙ split_and (p n) (every_form p e) (sym (fold-trunc_r Bool (form_step p) n e) ∙ h) (λ f g. join_and _ _ (weaker n f) (every_form-weaker e g))
  every_form-weaker (pad_l n e) h =
      fold-pad_l Bool (form_step q) n e
      ∙ split_and (p n) (every_form p e) (sym (fold-pad_l Bool (form_step p) n e) ∙ h) (λ f g. join_and _ _ (weaker n f) (every_form-weaker e g))
  every_form-weaker (pad_r n e) h =
      fold-pad_r Bool (form_step q) n e
      ∙ split_and (p n) (every_form p e) (sym (fold-pad_r Bool (form_step p) n e) ∙ h) (λ f g. join_and _ _ (weaker n f) (every_form-weaker e g))
