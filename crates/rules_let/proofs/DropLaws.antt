-- Where the variable of a let does not occur, whatever is put for it leaves the same body.
use Rattle.std.proofs.Common.{◌≡◌, ℕ, suc, ◌+◌, ◌-◌, ◌≤◌, refl, ap, ◌∙◌, arith, Bool, true, false, ◌||◌, ◌==◌, nat_lt, if◌then◌else◌}
use Rattle.std.proofs.lemmas.Bool.{eq-eqb, ltb-false}
use Rattle.affine_index.specs.Form.{var_form}
use Rattle.affine_index.specs.Put.{put_all}
use Rattle.binders.specs.Maps.{mapped, put_cond}
use Rattle.binders.specs.PlainMaps.{put_tensor_map, shift_map}
use Rattle.binders.specs.Uses.{uses_tensor}
use Rattle.rules_let.specs.Rules.{DropsAlike}
use Rattle.term_tree.specs.Syntax.{index, gen, sum, guard, let_in, add, sub, mul, concat, flatten, split, transpose, trunc_l, trunc_r, pad_l, pad_r}
use Rattle.term_tree.specs.declared.term.Term.{Term, Lit, TVar, WordOf}

neither : (a b : Bool) → (a || b) ≡ false → (a ≡ false) × (b ≡ false)
neither false b h = (refl, h)
neither true b h = absurd (cc)

next : (j : ℕ) → suc j ≡ j + 1
next j = omega arith

apart : (q j : ℕ) → q ≡ j → (q == j) ≡ false → ⊥
apart q j e h = let same = eq-eqb q j e in absurd (cc)

module _ (a c : Term) where
  variable_alike : (i j q : ℕ) (x y : Bool) → nat_lt q j ≡ x → nat_lt j q ≡ y → (q == j) ≡ false
      → (if x then TVar q else (if y then TVar (q - 1 + 0) else mapped (shift_map i j) 0 0 a))
      ≡ (if x then TVar q else (if y then TVar (q - 1 + 0) else mapped (shift_map i j) 0 0 c))
  variable_alike i j q true y e g h = refl
  variable_alike i j q false true e g h = refl
  variable_alike i j q false false e g h =
      let l : j ≤ q = ltb-false _ _ e in
      let k : q ≤ j = ltb-false _ _ g in
      absurd (apart q j (omega (arith, l, k)) h)

  put_alike : (e : Term) (i j : ℕ) → uses_tensor e j ≡ false → mapped (put_tensor_map a 0) i j e ≡ mapped (put_tensor_map c 0) i j e
  put_alike (Lit w) i j h = refl
  put_alike (TVar q) i j h = variable_alike i j q (nat_lt q j) (nat_lt j q) refl refl h
  put_alike (WordOf x) i j h = refl
  put_alike (index e x) i j h = λ k. index (put_alike e i j h k) (put_all (λ v. var_form v) x)
  put_alike (gen n e) i j h = λ k. gen n (put_alike e (suc i) j h k)
  put_alike (sum n e) i j h = λ k. sum n (put_alike e (suc i) j h k)
  put_alike (guard d e) i j h = λ k. guard (put_cond (λ v. var_form v) d) (put_alike e i j h k)
  put_alike (flatten e) i j h = λ k. flatten (put_alike e i j h k)
  put_alike (split m e) i j h = λ k. split m (put_alike e i j h k)
  put_alike (transpose e) i j h = λ k. transpose (put_alike e i j h k)
  put_alike (trunc_l n e) i j h = λ k. trunc_l n (put_alike e i j h k)
  put_alike (trunc_r n e) i j h = λ k. trunc_r n (put_alike e i j h k)
  put_alike (pad_l n e) i j h = λ k. pad_l n (put_alike e i j h k)
  put_alike (pad_r n e) i j h = λ k. pad_r n (put_alike e i j h k)
  put_alike (let_in x y) i j h =
      let p = neither (uses_tensor x j) (uses_tensor y (j + 1)) h in
      λ k. let_in (put_alike x i j p.0 k) (put_alike y i (suc j) (ap (uses_tensor y) (next j) ∙ p.1) k)
  put_alike (add x y) i j h = let p = neither (uses_tensor x j) (uses_tensor y j) h in λ k. add (put_alike x i j p.0 k) (put_alike y i j p.1 k)
  put_alike (sub x y) i j h = let p = neither (uses_tensor x j) (uses_tensor y j) h in λ k. sub (put_alike x i j p.0 k) (put_alike y i j p.1 k)
  put_alike (mul x y) i j h = let p = neither (uses_tensor x j) (uses_tensor y j) h in λ k. mul (put_alike x i j p.0 k) (put_alike y i j p.1 k)
  put_alike (concat x y) i j h = let p = neither (uses_tensor x j) (uses_tensor y j) h in λ k. concat (put_alike x i j p.0 k) (put_alike y i j p.1 k)

pub drops_alike : DropsAlike
drops_alike a c b h = put_alike a c b 0 0 h
