-- One more comparison of a condition, and all of them.
use Rattle.std.proofs.Common.{◌≡◌, ℕ, ◌≤◌, List, [], ◌∷◌, ◌++◌, length, map, drop, refl, ap, sym, ◌∙◌, append_assoc, Bool, true, false, ◌&&◌}
use Rattle.std.proofs.lemmas.List.{drop_all}
use Rattle.affine_index.specs.Condition.{cmp_form}
use Rattle.affine_index.specs.declared.cond.Cmp.{Cmp}
use Rattle.affine_index.specs.declared.cond.Cond.{Cond}
use Rattle.affine_index.specs.declared.form.Items.{Items}
use Rattle.term_tree.specs.Limits.{each_cmp}

and_false : (b : Bool) → (b && false) ≡ false
and_false true = refl
and_false false = refl

module _ (f : Cmp → Cmp) (items rest back : List Cmp) (c : Cmp) (e : back ≡ c ∷ rest) where
  pub more_fit : (p : Items → Bool) → p (cmp_form (f c)) ≡ true → each_cmp p (map f back) ≡ each_cmp p (map f items)
      → each_cmp p (map f rest) ≡ each_cmp p (map f items)
  more_fit p h k = sym (ap (λ b. b && each_cmp p (map f rest)) h) ∙ ap (λ cs. each_cmp p (map f cs)) (sym e) ∙ k

  pub more_short : (p : Items → Bool) (short : Bool) → p (cmp_form (f c)) ≡ true → (short && each_cmp p (map f back)) ≡ each_cmp p (map f items)
      → (short && each_cmp p (map f rest)) ≡ each_cmp p (map f items)
  more_short p short h k = sym (ap (λ b. short && (b && each_cmp p (map f rest))) h) ∙ ap (λ cs. short && each_cmp p (map f cs)) (sym e) ∙ k

  pub too_long : (p : Items → Bool) (short : Bool) → p (cmp_form (f c)) ≡ false → (short && each_cmp p (map f back)) ≡ each_cmp p (map f items)
      → false ≡ each_cmp p (map f items)
  too_long p short h k = sym (and_false short) ∙ sym (ap (λ b. short && (b && each_cmp p (map f rest))) h) ∙ ap (λ cs. short && each_cmp p (map f cs)) (sym e)
      ∙ k

  pub more_mapped : (all all' : List Cmp) (y : Cmp) → all' ≡ all ++ (y ∷ []) → y ≡ f c → all ++ map f back ≡ map f items → all' ++ map f rest ≡ map f items
  more_mapped all all' y is same k =
      ap (λ cs. cs ++ map f rest) is ∙ append_assoc all (y ∷ []) (map f rest) ∙ ap (λ z. all ++ (z ∷ map f rest)) same ∙ ap (λ cs. all ++ map f cs) (sym e) ∙ k

and_true : (b : Bool) → (b && true) ≡ b
and_true true = refl
and_true false = refl

append_none : (cs : List Cmp) → cs ++ [] ≡ cs
append_none [] = refl
append_none (c ∷ cs) = ap (λ ds. c ∷ ds) (append_none cs)

pub cond_of : (all cs : List Cmp) → all ≡ cs → ◌≡◌ {A = Cond} (record { all = all }) (record { all = cs })
cond_of all cs e = λ i. record { all = e i }

module _ (f : Cmp → Cmp) (items : List Cmp) (n : ℕ) (over : length items ≤ n) where
  pub done_fit : (p : Items → Bool) → each_cmp p (map f (drop n items)) ≡ each_cmp p (map f items) → each_cmp p (map f items) ≡ true
  done_fit p k = sym k ∙ ap (λ cs. each_cmp p (map f cs)) (drop_all n items over)

  pub done_short : (p : Items → Bool) (short : Bool) → (short && each_cmp p (map f (drop n items))) ≡ each_cmp p (map f items)
      → each_cmp p (map f items) ≡ short
  done_short p short k = sym k ∙ ap (λ cs. short && each_cmp p (map f cs)) (drop_all n items over) ∙ and_true short

  pub done_all : (all : List Cmp) → all ++ map f (drop n items) ≡ map f items → all ≡ map f items
  done_all all k = sym (append_none all) ∙ ap (λ cs. all ++ map f cs) (sym (drop_all n items over)) ∙ k
