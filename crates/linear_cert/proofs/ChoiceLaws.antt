-- What the choice of an atom and of its bound rests on.
use Rattle.std.proofs.Common.{◌≡◌, ℕ, zero, suc, ◌+◌, ◌<◌, List, [], ◌∷◌, length, drop, take, get_or, ap, sym, ◌∙◌, Bool, true, false, cond, Some, arith}
use Rattle.std.specs.Prelude.{reverse, slice_get}
use Rattle.std.specs.List.{find}
use Rattle.std.proofs.lemmas.List.{reverse-append}
use Rattle.affine_index.proofs.ReadyLaws.{out-Size, out-Var, out-Div, out-Mul}
use Rattle.affine_index.specs.declared.form.Atom.{Atom, out-Atom}
use Rattle.affine_index.specs.declared.form.Atom.TheVariants.{Size, Var, Div, Mul}
use Rattle.affine_index.specs.declared.form.Items.{Items}
use Rattle.fact_list.proofs.Appending.{drop-item, take-item}
use Rattle.fact_list.specs.declared.role.Role.TheVariants.{BoundOf, FactorOf, ProductOf}
use Rattle.fact_list.specs.declared.role.Side.{Side}
use Rattle.fact_list.specs.declared.role.Side.TheVariants.{Lower, Upper}
use Rattle.linear_cert.specs.DefaultLines.{atom_or, chosen_factor, chosen_of, divisor_of, factor_role, layer_chosen, layer_divisor, layer_is_quotient}
use Rattle.linear_cert.specs.DefaultLines.{layer_role, role_for}

module _ {A : Type 0} (test : A → Bool) where
  first-true : (x : A) (xs : List A) → test x ≡ true → find test (x ∷ xs) ≡ Some x
  first-true x xs h = ap (λ b. cond b (Some x) (find test xs)) h

  first-false : (x : A) (xs : List A) → test x ≡ false → find test (x ∷ xs) ≡ find test xs
  first-false x xs h = ap (λ b. cond b (Some x) (find test xs)) h

  -- the first item of the rest of a list passes the test, or it does not
  pub found : (xs : List A) (i : ℕ) (x : A) → i < length xs → x ≡ get_or xs i x → test x ≡ true → find test (drop i xs) ≡ Some x
  found xs i x h e t = ap (find test) (drop-item xs i x h e) ∙ first-true x (drop (i + 1) xs) t

  pub skipped : (xs : List A) (i : ℕ) (x : A) → i < length xs → x ≡ get_or xs i x → test x ≡ false → find test (drop (i + 1) xs) ≡ find test (drop i xs)
  skipped xs i x h e t = sym (ap (find test) (drop-item xs i x h e) ∙ first-false x (drop (i + 1) xs) t)

  turned : (xs : List A) (i : ℕ) (x : A) → i < length xs → x ≡ get_or xs i x → reverse (take (i + 1) xs) ≡ x ∷ reverse (take i xs)
  turned xs i x h e = ap reverse (take-item xs i x h e) ∙ reverse-append (take i xs) (x ∷ [])

  -- the same from the end
  pub last-found : (xs : List A) (i : ℕ) (x : A) → i < length xs → x ≡ get_or xs i x → test x ≡ true → find test (reverse (take (i + 1) xs)) ≡ Some x
  last-found xs i x h e t = ap (find test) (turned xs i x h e) ∙ first-true x (reverse (take i xs)) t

  pub last-skipped : (xs : List A) (i : ℕ) (x : A) → i < length xs → x ≡ get_or xs i x → test x ≡ false
      → find test (reverse (take i xs)) ≡ find test (reverse (take (i + 1) xs))
  last-skipped xs i x h e t = sym (ap (find test) (turned xs i x h e) ∙ first-false x (reverse (take i xs)) t)

pub slice-at : {A : Type 0} (xs : List A) (i : ℕ) (x : A) → i < length xs → x ≡ get_or xs i x → slice_get xs i ≡ Some x
slice-at [] i x h e = absurd (omega arith)
slice-at (y ∷ xs) zero x h e = ap Some (sym e)
slice-at (y ∷ xs) (suc i) x h e = slice-at xs i x (omega arith) e

-- the factor to bound, by the kind of the atom
pub factor-Size : (k : ℕ) → chosen_factor (Size k) ≡ Size k
factor-Size k = ap (layer_chosen (Size k)) (out-Size k)

pub factor-Var : (k : ℕ) → chosen_factor (Var k) ≡ Var k
factor-Var k = ap (layer_chosen (Var k)) (out-Var k)

pub factor-Div : (i : Items) (k : ℕ) → chosen_factor (Div i k) ≡ Div i k
factor-Div i k = ap (layer_chosen (Div i k)) (out-Div i k)

pub factor-Mul : (fs : List Atom) → chosen_factor (Mul fs) ≡ atom_or (Mul fs) (chosen_of fs)
factor-Mul fs = ap (layer_chosen (Mul fs)) (out-Mul fs)

pub divisor-Size : (k : ℕ) → divisor_of (Size k) ≡ 1
divisor-Size k = ap layer_divisor (out-Size k)

pub divisor-Var : (k : ℕ) → divisor_of (Var k) ≡ 1
divisor-Var k = ap layer_divisor (out-Var k)

pub divisor-Div : (i : Items) (k : ℕ) → divisor_of (Div i k) ≡ k
divisor-Div i k = ap layer_divisor (out-Div i k)

pub divisor-Mul : (fs : List Atom) → divisor_of (Mul fs) ≡ 1
divisor-Mul fs = ap layer_divisor (out-Mul fs)

pub quotient-Size : (k : ℕ) → layer_is_quotient (out-Atom (Size k)) ≡ false
quotient-Size k = ap layer_is_quotient (out-Size k)

pub quotient-Var : (k : ℕ) → layer_is_quotient (out-Atom (Var k)) ≡ false
quotient-Var k = ap layer_is_quotient (out-Var k)

pub quotient-Div : (i : Items) (k : ℕ) → layer_is_quotient (out-Atom (Div i k)) ≡ true
quotient-Div i k = ap layer_is_quotient (out-Div i k)

pub quotient-Mul : (fs : List Atom) → layer_is_quotient (out-Atom (Mul fs)) ≡ false
quotient-Mul fs = ap layer_is_quotient (out-Mul fs)

-- the bound to use, by the kinds of the atom and of its factor
pub role-Size : (s : Side) (k : ℕ) (f : Atom) → role_for s (Size k) f ≡ BoundOf s (Size k)
role-Size s k f = ap (layer_role s (Size k) f) (out-Size k)

pub role-Var : (s : Side) (k : ℕ) (f : Atom) → role_for s (Var k) f ≡ BoundOf s (Var k)
role-Var s k f = ap (layer_role s (Var k) f) (out-Var k)

pub role-Div : (s : Side) (i : Items) (k : ℕ) (f : Atom) → role_for s (Div i k) f ≡ BoundOf s (Div i k)
role-Div s i k f = ap (layer_role s (Div i k) f) (out-Div i k)

role-Mul : (s : Side) (fs : List Atom) (f : Atom) → role_for s (Mul fs) f ≡ factor_role s f (Mul fs) (out-Atom f)
role-Mul s fs f = ap (layer_role s (Mul fs) f) (out-Mul fs)

pub role-Mul-Size : (s : Side) (fs : List Atom) (k : ℕ) → role_for s (Mul fs) (Size k) ≡ FactorOf s (Size k) (Mul fs)
role-Mul-Size Lower fs k = role-Mul Lower fs (Size k) ∙ ap (factor_role Lower (Size k) (Mul fs)) (out-Size k)
role-Mul-Size Upper fs k = role-Mul Upper fs (Size k) ∙ ap (factor_role Upper (Size k) (Mul fs)) (out-Size k)

pub role-Mul-Div : (s : Side) (fs : List Atom) (i : Items) (k : ℕ) → role_for s (Mul fs) (Div i k) ≡ FactorOf s (Div i k) (Mul fs)
role-Mul-Div Lower fs i k = role-Mul Lower fs (Div i k) ∙ ap (factor_role Lower (Div i k) (Mul fs)) (out-Div i k)
role-Mul-Div Upper fs i k = role-Mul Upper fs (Div i k) ∙ ap (factor_role Upper (Div i k) (Mul fs)) (out-Div i k)

pub role-Mul-Mul : (s : Side) (fs gs : List Atom) → role_for s (Mul fs) (Mul gs) ≡ FactorOf s (Mul gs) (Mul fs)
role-Mul-Mul Lower fs gs = role-Mul Lower fs (Mul gs) ∙ ap (factor_role Lower (Mul gs) (Mul fs)) (out-Mul gs)
role-Mul-Mul Upper fs gs = role-Mul Upper fs (Mul gs) ∙ ap (factor_role Upper (Mul gs) (Mul fs)) (out-Mul gs)

pub role-lower-var : (fs : List Atom) (v : ℕ) → role_for Lower (Mul fs) (Var v) ≡ ProductOf (Mul fs)
role-lower-var fs v = role-Mul Lower fs (Var v) ∙ ap (factor_role Lower (Var v) (Mul fs)) (out-Var v)

pub role-upper-var : (fs : List Atom) (v : ℕ) → role_for Upper (Mul fs) (Var v) ≡ FactorOf Upper (Var v) (Mul fs)
role-upper-var fs v = role-Mul Upper fs (Var v) ∙ ap (factor_role Upper (Var v) (Mul fs)) (out-Var v)

pub ruleset choice_laws = (
  factor-Size,
  factor-Var,
  factor-Div,
  factor-Mul,
  divisor-Size,
  divisor-Var,
  divisor-Div,
  divisor-Mul,
  quotient-Size,
  quotient-Var,
  quotient-Div,
  quotient-Mul,
  role-Size,
  role-Var,
  role-Div,
  role-Mul-Size,
  role-Mul-Div,
  role-Mul-Mul,
  role-lower-var,
  role-upper-var,
)
