-- What is put for variables is normal.
use Rattle.std.proofs.Common.{◌≡◌, ℕ, zero, suc, ◌+◌, ◌-◌, ◌<◌, List, [], ◌∷◌, length, get_or, refl, ap, ◌∙◌, arith, true, cond, nat_lt}
use Rattle.std.specs.Prelude.{pos}
use Rattle.std.specs.Ordering.{nat_cmp}
use Rattle.std.specs.declared.cmp.Ordering.{Ordering}
use Rattle.std.specs.declared.cmp.Ordering.TheVariants.{Less, Equal, Greater}
use Rattle.affine_index.specs.Form.{literal_form, var_form}
use Rattle.affine_index.specs.Normal.{coefficients_fit, is_normal, is_ordered, is_short}
use Rattle.affine_index.specs.Put.{given, moved, one_by, one_given}
use Rattle.std.proofs.lemmas.Bool.{and_from}
use Rattle.affine_index.proofs.CountLaws.{count-Var, count-items}
use Rattle.affine_index.proofs.EveryLaws.{every-Var}
use Rattle.affine_index.proofs.OrderedLaws.{atom-ordered, literal-ordered}
use Rattle.affine_index.proofs.ReadyLaws.{out-Var}
use Rattle.affine_index.specs.Normal.{atom_good, items_good, layer_good}
use Rattle.affine_index.specs.declared.form.Atom.TheVariants.{Var}
use Rattle.affine_index.specs.declared.form.Items.{Items}

pub var-normal : (v : ℕ) → is_normal (var_form v) ≡ true
var-normal v =
    and_from (is_ordered (var_form v)) _ (atom-ordered (Var v) (every-Var atom_good items_good v ∙ ap layer_good (out-Var v)))
    (and_from (coefficients_fit (var_form v)) (is_short (var_form v)) refl (simp (count-items, count-Var)))

pub zero-normal : is_normal (literal_form (pos 0)) ≡ true
zero-normal = and_from (is_ordered (literal_form (pos 0))) _ (literal-ordered (pos 0))
    (and_from (coefficients_fit (literal_form (pos 0))) (is_short (literal_form (pos 0))) refl (simp (count-items)))

pub given-normal : (forms : List Items) → ((k : ℕ) (d : Items) → k < length forms → is_normal (get_or forms k d) ≡ true) → (v : ℕ)
    → is_normal (given forms v) ≡ true
given-normal [] h v = zero-normal
given-normal (i ∷ is) h zero = h 0 (literal_form (pos 0)) (omega arith)
given-normal (i ∷ is) h (suc v) = given-normal is (λ k d lt. h (suc k) d (omega arith)) v

pub one-normal : (at : ℕ) (by : Items) → is_normal by ≡ true → (v : ℕ) → is_normal (one_given at by v) ≡ true
one-normal at by h v = choose (nat_cmp v at)
  where
    choose : (o : Ordering) → is_normal (one_by o by v) ≡ true
    choose Less = var-normal v
    choose Equal = h
    choose Greater = var-normal (v - 1)

pub moved-normal : (from by v : ℕ) → is_normal (moved from by v) ≡ true
moved-normal from by v = var-normal (cond (nat_lt v from) v (v + by))
