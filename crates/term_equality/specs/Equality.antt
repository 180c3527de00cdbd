-- Equality of conditions and terms as a Boolean: part by part.
use Rattle.std.specs.Prelude.{ℕ, Bool, true, false, ◌&&◌, ◌==◌, List, [], ◌∷◌, ◌≡◌, ◌↔◌, IsTrue}
use Rattle.affine_index.specs.declared.cond.Cmp.{Cmp}
use Rattle.affine_index.specs.declared.cond.Cmp.TheVariants.{Ge, Eq}
use Rattle.affine_index.specs.declared.cond.Cond.{Cond}
use Rattle.affine_index.specs.declared.form.Items.{Items}
use Rattle.term_tree.specs.Shape.{same_form}
use Rattle.term_tree.specs.Syntax.{index, gen, sum, guard, let_in, add, sub, mul, concat, flatten, split, transpose, trunc_l, trunc_r, pad_l, pad_r}
use Rattle.term_tree.specs.declared.term.Term.{Term, Lit, TVar, WordOf}

-- both at least 0, or both 0, of one form
abbrev pub same_cmp : Cmp → Cmp → Bool
same_cmp (Ge x) (Ge y) = same_form x y
same_cmp (Ge x) (Eq y) = false
same_cmp (Eq x) (Ge y) = false
same_cmp (Eq x) (Eq y) = same_form x y

-- the same comparisons in the same order
abbrev pub same_cmps : List Cmp → List Cmp → Bool
same_cmps [] [] = true
same_cmps [] (d ∷ ds) = false
same_cmps (c ∷ cs) [] = false
same_cmps (c ∷ cs) (d ∷ ds) = same_cmp c d && same_cmps cs ds

abbrev pub same_cond : Cond → Cond → Bool
same_cond c d = same_cmps c.all d.all

-- Each of these tests the parts of a term of its form; a term of another form does not pass.
abbrev pub on_lit : Term → (ℕ → Bool) → Bool
on_lit (Lit k) test = test k
on_lit _ test = false

abbrev pub on_t_var : Term → (ℕ → Bool) → Bool
on_t_var (TVar k) test = test k
on_t_var _ test = false

abbrev pub on_word_of : Term → (Items → Bool) → Bool
on_word_of (WordOf x) test = test x
on_word_of _ test = false

abbrev pub on_index : Term → (Term → Items → Bool) → Bool
on_index (index e x) test = test e x
on_index _ test = false

abbrev pub on_gen : Term → (Items → Term → Bool) → Bool
on_gen (gen x e) test = test x e
on_gen _ test = false

abbrev pub on_sum : Term → (Items → Term → Bool) → Bool
on_sum (sum x e) test = test x e
on_sum _ test = false

abbrev pub on_guard : Term → (Cond → Term → Bool) → Bool
on_guard (guard c e) test = test c e
on_guard _ test = false

abbrev pub on_let_in : Term → (Term → Term → Bool) → Bool
on_let_in (let_in a b) test = test a b
on_let_in _ test = false

abbrev pub on_add : Term → (Term → Term → Bool) → Bool
on_add (add a b) test = test a b
on_add _ test = false

abbrev pub on_sub : Term → (Term → Term → Bool) → Bool
on_sub (sub a b) test = test a b
on_sub _ test = false

abbrev pub on_mul : Term → (Term → Term → Bool) → Bool
on_mul (mul a b) test = test a b
on_mul _ test = false

abbrev pub on_concat : Term → (Term → Term → Bool) → Bool
on_concat (concat a b) test = test a b
on_concat _ test = false

abbrev pub on_flatten : Term → (Term → Bool) → Bool
on_flatten (flatten e) test = test e
on_flatten _ test = false

abbrev pub on_split : Term → (ℕ → Term → Bool) → Bool
on_split (split k e) test = test k e
on_split _ test = false

abbrev pub on_transpose : Term → (Term → Bool) → Bool
on_transpose (transpose e) test = test e
on_transpose _ test = false

abbrev pub on_trunc_l : Term → (Items → Term → Bool) → Bool
on_trunc_l (trunc_l x e) test = test x e
on_trunc_l _ test = false

abbrev pub on_trunc_r : Term → (Items → Term → Bool) → Bool
on_trunc_r (trunc_r x e) test = test x e
on_trunc_r _ test = false

abbrev pub on_pad_l : Term → (Items → Term → Bool) → Bool
on_pad_l (pad_l x e) test = test x e
on_pad_l _ test = false

abbrev pub on_pad_r : Term → (Items → Term → Bool) → Bool
on_pad_r (pad_r x e) test = test x e
on_pad_r _ test = false

-- terms of one form with the same parts
abbrev pub same_term : Term → Term → Bool
same_term (Lit k) other = on_lit other (λ l. k == l)
same_term (TVar k) other = on_t_var other (λ l. k == l)
same_term (WordOf x) other = on_word_of other (λ y. same_form x y)
same_term (index e x) other = on_index other (λ f y. same_term e f && same_form x y)
same_term (gen x e) other = on_gen other (λ y f. same_form x y && same_term e f)
same_term (sum x e) other = on_sum other (λ y f. same_form x y && same_term e f)
same_term (guard c e) other = on_guard other (λ d f. same_cond c d && same_term e f)
same_term (let_in a b) other = on_let_in other (λ c d. same_term a c && same_term b d)
same_term (add a b) other = on_add other (λ c d. same_term a c && same_term b d)
same_term (sub a b) other = on_sub other (λ c d. same_term a c && same_term b d)
same_term (mul a b) other = on_mul other (λ c d. same_term a c && same_term b d)
same_term (concat a b) other = on_concat other (λ c d. same_term a c && same_term b d)
same_term (flatten e) other = on_flatten other (λ f. same_term e f)
same_term (split k e) other = on_split other (λ l f. (k == l) && same_term e f)
same_term (transpose e) other = on_transpose other (λ f. same_term e f)
same_term (trunc_l x e) other = on_trunc_l other (λ y f. same_form x y && same_term e f)
same_term (trunc_r x e) other = on_trunc_r other (λ y f. same_form x y && same_term e f)
same_term (pad_l x e) other = on_pad_l other (λ y f. same_form x y && same_term e f)
same_term (pad_r x e) other = on_pad_r other (λ y f. same_form x y && same_term e f)

-- forms are the same exactly where they are equal
abbrev pub SameFormsAreEqual : Type 0
SameFormsAreEqual = (x y : Items) → IsTrue (same_form x y) ↔ (x ≡ y)

-- conditions are the same exactly where they are equal
abbrev pub SameConditionsAreEqual : Type 0
SameConditionsAreEqual = (c d : Cond) → IsTrue (same_cond c d) ↔ (c ≡ d)

-- terms are the same exactly where they are equal
abbrev pub SameTermsAreEqual : Type 0
SameTermsAreEqual = (a b : Term) → IsTrue (same_term a b) ↔ (a ≡ b)
