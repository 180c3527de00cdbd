-- Terms are the same exactly where they are equal.
use Rattle.std.proofs.Common.{◌≡◌, ◌∙◌, refl, sym, ap, subst, Bool, true, false, ◌&&◌, ◌↔◌}
use Rattle.std.specs.Prelude.{IsTrue, ◌==◌}
use Rattle.std.proofs.lemmas.Bool.{and_from, and_parts, eq-eqb, eqb-true}
use Rattle.affine_index.specs.declared.cond.Cond.{Cond}
use Rattle.affine_index.specs.declared.form.Items.{Items}
use Rattle.shape_rules.proofs.SameLaws.{same_form-equal, same_form-same}
use Rattle.term_tree.specs.Shape.{same_form}
use Rattle.term_tree.specs.Syntax.{index, gen, sum, guard, let_in, add, sub, mul, concat, flatten, split, transpose, trunc_l, trunc_r, pad_l, pad_r}
use Rattle.term_tree.specs.declared.term.Term.{Term, Lit, TVar, WordOf}
use Rattle.term_equality.proofs.ConditionLaws.{same_cond-equal, same_cond-same}
use Rattle.term_equality.proofs.PartLaws.{of_lit, of_t_var, of_word_of, of_index, of_gen, of_sum, of_guard, of_let_in, of_add, of_sub, of_mul, of_concat}
use Rattle.term_equality.proofs.PartLaws.{of_flatten, of_split, of_transpose, of_trunc_l, of_trunc_r, of_pad_l, of_pad_r}
use Rattle.term_equality.specs.Equality.{SameConditionsAreEqual, SameFormsAreEqual, SameTermsAreEqual, same_cond, same_term}

same_parts : {A B C : Type 0} {a c : A} {b d : B} (f : A → B → C) → a ≡ c → b ≡ d → f a b ≡ f c d
same_parts f p q = λ i. f (p i) (q i)

pub same_term-equal : (a b : Term) → same_term a b ≡ true → a ≡ b
same_term-equal (Lit k) other h =
    of_lit other (λ l. k == l) h (λ l is pass.
    let p = eqb-true k l pass in ap (λ z. Lit z) p ∙ sym is)
same_term-equal (TVar k) other h =
    of_t_var other (λ l. k == l) h (λ l is pass.
    let p = eqb-true k l pass in ap (λ z. TVar z) p ∙ sym is)
same_term-equal (WordOf x) other h =
    of_word_of other (λ y. same_form x y) h (λ y is pass.
    let p = same_form-equal x y pass in ap (λ z. WordOf z) p ∙ sym is)
same_term-equal (index e x) other h =
    of_index other (λ f y. same_term e f && same_form x y) h (λ f y is pass.
    let both = and_parts (same_term e f) (same_form x y) pass in
    same_parts (λ z w. index z w) (same_term-equal e f both.0) (same_form-equal x y both.1) ∙ sym is)
same_term-equal (gen x e) other h =
    of_gen other (λ y f. same_form x y && same_term e f) h (λ y f is pass.
    let both = and_parts (same_form x y) (same_term e f) pass in
    same_parts (λ z w. gen z w) (same_form-equal x y both.0) (same_term-equal e f both.1) ∙ sym is)
same_term-equal (sum x e) other h =
    of_sum other (λ y f. same_form x y && same_term e f) h (λ y f is pass.
    let both = and_parts (same_form x y) (same_term e f) pass in
    same_parts (λ z w. sum z w) (same_form-equal x y both.0) (same_term-equal e f both.1) ∙ sym is)
same_term-equal (guard c e) other h =
    of_guard other (λ d f. same_cond c d && same_term e f) h (λ d f is pass.
    let both = and_parts (same_cond c d) (same_term e f) pass in
    same_parts (λ z w. guard z w) (same_cond-equal c d both.0) (same_term-equal e f both.1) ∙ sym is)
same_term-equal (let_in a b) other h =
    of_let_in other (λ c d. same_term a c && same_term b d) h (λ c d is pass.
    let both = and_parts (same_term a c) (same_term b d) pass in
    same_parts (λ z w. let_in z w) (same_term-equal a c both.0) (same_term-equal b d both.1) ∙ sym is)
same_term-equal (add a b) other h =
    of_add other (λ c d. same_term a c && same_term b d) h (λ c d is pass.
    let both = and_parts (same_term a c) (same_term b d) pass in
    same_parts (λ z w. add z w) (same_term-equal a c both.0) (same_term-equal b d both.1) ∙ sym is)
same_term-equal (sub a b) other h =
    of_sub other (λ c d. same_term a c && same_term b d) h (λ c d is pass.
    let both = and_parts (same_term a c) (same_term b d) pass in
    same_parts (λ z w. sub z w) (same_term-equal a c both.0) (same_term-equal b d both.1) ∙ sym is)
same_term-equal (mul a b) other h =
    of_mul other (λ c d. same_term a c && same_term b d) h (λ c d is pass.
    let both = and_parts (same_term a c) (same_term b d) pass in
    same_parts (λ z w. mul z w) (same_term-equal a c both.0) (same_term-equal b d both.1) ∙ sym is)
same_term-equal (concat a b) other h =
    of_concat other (λ c d. same_term a c && same_term b d) h (λ c d is pass.
    let both = and_parts (same_term a c) (same_term b d) pass in
    same_parts (λ z w. concat z w) (same_term-equal a c both.0) (same_term-equal b d both.1) ∙ sym is)
same_term-equal (flatten e) other h =
    of_flatten other (λ f. same_term e f) h (λ f is pass.
    let p = same_term-equal e f pass in ap (λ z. flatten z) p ∙ sym is)
same_term-equal (split k e) other h =
    of_split other (λ l f. (k == l) && same_term e f) h (λ l f is pass.
    let both = and_parts (k == l) (same_term e f) pass in
    same_parts (λ z w. split z w) (eqb-true k l both.0) (same_term-equal e f both.1) ∙ sym is)
same_term-equal (transpose e) other h =
    of_transpose other (λ f. same_term e f) h (λ f is pass.
    let p = same_term-equal e f pass in ap (λ z. transpose z) p ∙ sym is)
same_term-equal (trunc_l x e) other h =
    of_trunc_l other (λ y f. same_form x y && same_term e f) h (λ y f is pass.
    let both = and_parts (same_form x y) (same_term e f) pass in
    same_parts (λ z w. trunc_l z w) (same_form-equal x y both.0) (same_term-equal e f both.1) ∙ sym is)
same_term-equal (trunc_r x e) other h =
    of_trunc_r other (λ y f. same_form x y && same_term e f) h (λ y f is pass.
    let both = and_parts (same_form x y) (same_term e f) pass in
    same_parts (λ z w. trunc_r z w) (same_form-equal x y both.0) (same_term-equal e f both.1) ∙ sym is)
same_term-equal (pad_l x e) other h =
    of_pad_l other (λ y f. same_form x y && same_term e f) h (λ y f is pass.
    let both = and_parts (same_form x y) (same_term e f) pass in
    same_parts (λ z w. pad_l z w) (same_form-equal x y both.0) (same_term-equal e f both.1) ∙ sym is)
same_term-equal (pad_r x e) other h =
    of_pad_r other (λ y f. same_form x y && same_term e f) h (λ y f is pass.
    let both = and_parts (same_form x y) (same_term e f) pass in
    same_parts (λ z w. pad_r z w) (same_form-equal x y both.0) (same_term-equal e f both.1) ∙ sym is)

pub same_term-same : (a : Term) → same_term a a ≡ true
same_term-same (Lit k) = eq-eqb k k refl
same_term-same (TVar k) = eq-eqb k k refl
same_term-same (WordOf x) = same_form-same x
same_term-same (index e x) = and_from (same_term e e) (same_form x x) (same_term-same e) (same_form-same x)
same_term-same (gen x e) = and_from (same_form x x) (same_term e e) (same_form-same x) (same_term-same e)
same_term-same (sum x e) = and_from (same_form x x) (same_term e e) (same_form-same x) (same_term-same e)
same_term-same (guard c e) = and_from (same_cond c c) (same_term e e) (same_cond-same c) (same_term-same e)
same_term-same (let_in a b) = and_from (same_term a a) (same_term b b) (same_term-same a) (same_term-same b)
same_term-same (add a b) = and_from (same_term a a) (same_term b b) (same_term-same a) (same_term-same b)
same_term-same (sub a b) = and_from (same_term a a) (same_term b b) (same_term-same a) (same_term-same b)
same_term-same (mul a b) = and_from (same_term a a) (same_term b b) (same_term-same a) (same_term-same b)
same_term-same (concat a b) = and_from (same_term a a) (same_term b b) (same_term-same a) (same_term-same b)
same_term-same (flatten e) = same_term-same e
same_term-same (split k e) = and_from (k == k) (same_term e e) (eq-eqb k k refl) (same_term-same e)
same_term-same (transpose e) = same_term-same e
same_term-same (trunc_l x e) = and_from (same_form x x) (same_term e e) (same_form-same x) (same_term-same e)
same_term-same (trunc_r x e) = and_from (same_form x x) (same_term e e) (same_form-same x) (same_term-same e)
same_term-same (pad_l x e) = and_from (same_form x x) (same_term e e) (same_form-same x) (same_term-same e)
same_term-same (pad_r x e) = and_from (same_form x x) (same_term e e) (same_form-same x) (same_term-same e)

-- a test that tells whether terms are equal is this one
pub same_term-is : (r : Bool) (a b : Term) → (IsTrue r ↔ (a ≡ b)) → r ≡ same_term a b
same_term-is true a b h = let e : a ≡ b = h.0 refl in subst (λ (t : Term). true ≡ same_term a t) e (sym (same_term-same a))
same_term-is false a b h = by (same_term a b) refl
  where
    by : (s : Bool) → same_term a b ≡ s → false ≡ same_term a b
    by true e = h.1 (same_term-equal a b e) ∙ sym e
    by false e = sym e

pub forms_law : SameFormsAreEqual
forms_law x y = (same_form-equal x y, λ e. subst (λ (z : Items). same_form x z ≡ true) e (same_form-same x))

pub conditions_law : SameConditionsAreEqual
conditions_law c d = (same_cond-equal c d, λ e. subst (λ (z : Cond). same_cond c z ≡ true) e (same_cond-same c))

pub terms_law : SameTermsAreEqual
terms_law a b = (same_term-equal a b, λ e. subst (λ (z : Term). same_term a z ≡ true) e (same_term-same a))
