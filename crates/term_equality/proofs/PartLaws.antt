-- A term that passes a test of its parts has the form that the test asks for.
use Rattle.std.proofs.Common.{◌≡◌, ℕ, Bool, true, refl}
use Rattle.std.proofs.lemmas.Bool.{false≢true}
use Rattle.affine_index.specs.declared.cond.Cond.{Cond}
use Rattle.affine_index.specs.declared.form.Items.{Items}
use Rattle.term_tree.specs.Syntax.{index, gen, sum, guard, let_in, add, sub, mul, concat, flatten, split, transpose, trunc_l, trunc_r, pad_l, pad_r}
use Rattle.term_tree.specs.declared.term.Term.{Term, Lit, TVar, WordOf}
use Rattle.term_equality.specs.Equality.{on_lit, on_t_var, on_word_of, on_index, on_gen, on_sum, on_guard, on_let_in, on_add, on_sub, on_mul, on_concat}
use Rattle.term_equality.specs.Equality.{on_flatten, on_split, on_transpose, on_trunc_l, on_trunc_r, on_pad_l, on_pad_r}

module _ {P : Type 0} where
  pub of_lit : (t : Term) (test : ℕ → Bool) → on_lit t test ≡ true
      → ((l : ℕ) → t ≡ Lit l → test l ≡ true → P) → P
  of_lit (Lit k) test h so = so k refl h
  of_lit _ test h so = absurd (false≢true h)

  pub of_t_var : (t : Term) (test : ℕ → Bool) → on_t_var t test ≡ true
      → ((l : ℕ) → t ≡ TVar l → test l ≡ true → P) → P
  of_t_var (TVar k) test h so = so k refl h
  of_t_var _ test h so = absurd (false≢true h)

  pub of_word_of : (t : Term) (test : Items → Bool) → on_word_of t test ≡ true
      → ((y : Items) → t ≡ WordOf y → test y ≡ true → P) → P
  of_word_of (WordOf x) test h so = so x refl h
  of_word_of _ test h so = absurd (false≢true h)

  pub of_index : (t : Term) (test : Term → Items → Bool) → on_index t test ≡ true
      → ((f : Term) (y : Items) → t ≡ index f y → test f y ≡ true → P) → P
  of_index (index e x) test h so = so e x refl h
  of_index _ test h so = absurd (false≢true h)

  pub of_gen : (t : Term) (test : Items → Term → Bool) → on_gen t test ≡ true
      → ((y : Items) (f : Term) → t ≡ gen y f → test y f ≡ true → P) → P
  of_gen (gen x e) test h so = so x e refl h
  of_gen _ test h so = absurd (false≢true h)

  pub of_sum : (t : Term) (test : Items → Term → Bool) → on_sum t test ≡ true
      → ((y : Items) (f : Term) → t ≡ sum y f → test y f ≡ true → P) → P
  of_sum (sum x e) test h so = so x e refl h
  of_sum _ test h so = absurd (false≢true h)

  pub of_guard : (t : Term) (test : Cond → Term → Bool) → on_guard t test ≡ true
      → ((d : Cond) (f : Term) → t ≡ guard d f → test d f ≡ true → P) → P
  of_guard (guard c e) test h so = so c e refl h
  of_guard _ test h so = absurd (false≢true h)

  pub of_let_in : (t : Term) (test : Term → Term → Bool) → on_let_in t test ≡ true
      → ((c d : Term) → t ≡ let_in c d → test c d ≡ true → P) → P
  of_let_in (let_in a b) test h so = so a b refl h
  of_let_in _ test h so = absurd (false≢true h)

  pub of_add : (t : Term) (test : Term → Term → Bool) → on_add t test ≡ true
      → ((c d : Term) → t ≡ add c d → test c d ≡ true → P) → P
  of_add (add a b) test h so = so a b refl h
  of_add _ test h so = absurd (false≢true h)

  pub of_sub : (t : Term) (test : Term → Term → Bool) → on_sub t test ≡ true
      → ((c d : Term) → t ≡ sub c d → test c d ≡ true → P) → P
  of_sub (sub a b) test h so = so a b refl h
  of_sub _ test h so = absurd (false≢true h)

  pub of_mul : (t : Term) (test : Term → Term → Bool) → on_mul t test ≡ true
      → ((c d : Term) → t ≡ mul c d → test c d ≡ true → P) → P
  of_mul (mul a b) test h so = so a b refl h
  of_mul _ test h so = absurd (false≢true h)

  pub of_concat : (t : Term) (test : Term → Term → Bool) → on_concat t test ≡ true
      → ((c d : Term) → t ≡ concat c d → test c d ≡ true → P) → P
  of_concat (concat a b) test h so = so a b refl h
  of_concat _ test h so = absurd (false≢true h)

  pub of_flatten : (t : Term) (test : Term → Bool) → on_flatten t test ≡ true
      → ((f : Term) → t ≡ flatten f → test f ≡ true → P) → P
  of_flatten (flatten e) test h so = so e refl h
  of_flatten _ test h so = absurd (false≢true h)

  pub of_split : (t : Term) (test : ℕ → Term → Bool) → on_split t test ≡ true
      → ((l : ℕ) (f : Term) → t ≡ split l f → test l f ≡ true → P) → P
  of_split (split k e) test h so = so k e refl h
  of_split _ test h so = absurd (false≢true h)

  pub of_transpose : (t : Term) (test : Term → Bool) → on_transpose t test ≡ true
      → ((f : Term) → t ≡ transpose f → test f ≡ true → P) → P
  of_transpose (transpose e) test h so = so e refl h
  of_transpose _ test h so = absurd (false≢true h)

  pub of_trunc_l : (t : Term) (test : Items → Term → Bool) → on_trunc_l t test ≡ true
      → ((y : Items) (f : Term) → t ≡ trunc_l y f → test y f ≡ true → P) → P
  of_trunc_l (trunc_l x e) test h so = so x e refl h
  of_trunc_l _ test h so = absurd (false≢true h)

  pub of_trunc_r : (t : Term) (test : Items → Term → Bool) → on_trunc_r t test ≡ true
      → ((y : Items) (f : Term) → t ≡ trunc_r y f → test y f ≡ true → P) → P
  of_trunc_r (trunc_r x e) test h so = so x e refl h
  of_trunc_r _ test h so = absurd (false≢true h)

  pub of_pad_l : (t : Term) (test : Items → Term → Bool) → on_pad_l t test ≡ true
      → ((y : Items) (f : Term) → t ≡ pad_l y f → test y f ≡ true → P) → P
  of_pad_l (pad_l x e) test h so = so x e refl h
  of_pad_l _ test h so = absurd (false≢true h)

  pub of_pad_r : (t : Term) (test : Items → Term → Bool) → on_pad_r t test ≡ true
      → ((y : Items) (f : Term) → t ≡ pad_r y f → test y f ≡ true → P) → P
  of_pad_r (pad_r x e) test h so = so x e refl h
  of_pad_r _ test h so = absurd (false≢true h)
