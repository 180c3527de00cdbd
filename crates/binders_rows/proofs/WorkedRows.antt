-- Small terms, mapped by the definitions, and that a map may be asked for their variables.
use Rattle.std.proofs.Common.{◌≡◌, ℕ, zero, suc, ◌<◌, ◌≤◌, List, [], ◌∷◌, refl, ap, sym, ◌∙◌, subst, arith, true}
use Rattle.affine_index.specs.Form.{size_form, var_form}
use Rattle.affine_index.specs.Limited.{items_scoped}
use Rattle.affine_index.specs.Put.{given, put_all}
use Rattle.affine_index.specs.Sum.{sum_of}
use Rattle.affine_index.specs.declared.form.Items.{Items}
use Rattle.affine_index.proofs.OrderLaws.{order-out}
use Rattle.affine_index.proofs.PutLaws.{put-Var, put-items}
use Rattle.affine_index.proofs.ReadyLaws.{out-Var, scoped-Size, scoped-Var, scoped-items}
use Rattle.term_tree.specs.declared.term.Term.{Term, Lit, TVar}
use Rattle.term_tree.specs.declared.term.Term.TheVariants.{Add, Gen, Index, Let}
use Rattle.term_tree.specs.Counts.{node_depth}
use Rattle.term_tree.specs.Scope.{term_scoped}
use Rattle.term_tree.specs.Syntax.{add, gen, index, let_in}
use Rattle.term_tree.proofs.Forms.{Add-is, Gen-is, Index-is, Let-is}
use Rattle.binders.specs.Answers.{IsWithinReach}
use Rattle.binders.specs.Maps.{mapped}
use Rattle.binders.specs.PlainMaps.{may_shift, put_for, put_index_map, put_index_reach, put_tensor_map, put_tensor_reach, shift_map, shift_reach}
use Rattle.binders.proofs.ReachLaws.{put_index_within}

-- `gen j < N. A[x + j]`
abbrev gathered : ℕ → Term
gathered x = gen (size_form 0) (index (TVar 0) (sum_of (var_form x) (var_form 0)))

-- the outer i, put for x, is variable 1 under the gen
form_of_outer : put_all (put_for (var_form 0 ∷ []) 1 1) (sum_of (var_form 1) (var_form 0)) ≡ sum_of (var_form 1) (var_form 0)
form_of_outer = simp (put-items, put-Var, order-out, out-Var)

outer_is_put : mapped (put_index_map (var_form 0 ∷ []) 1) 0 0 (gathered 1) ≡ gathered 1
outer_is_put = ap (λ x. gen (size_form 0) (index (TVar 0) x)) form_of_outer

form_of_next : put_all (put_for (var_form 1 ∷ []) 2 1) (sum_of (var_form 1) (var_form 0)) ≡ sum_of (var_form 2) (var_form 0)
form_of_next = simp (put-items, put-Var, order-out, out-Var)

next_is_put : mapped (put_index_map (var_form 1 ∷ []) 2) 0 0 (gathered 1) ≡ gathered 2
next_is_put = ap (λ x. gen (size_form 0) (index (TVar 0) x)) form_of_next

-- `let t = 1 in t + input`
abbrev added : ℕ → Term
added q = let_in (Lit 1) (add (TVar 0) (TVar q))

-- under the let the tensor variable is 1, and what is put for it is moved by one
five_is_put : mapped (put_tensor_map (TVar 5) 0) 0 0 (added 1) ≡ added 6
five_is_put = refl

moved_by_two : mapped (shift_map 3 2) 0 0 (added 1) ≡ added 3
moved_by_two = refl

gathered-is : (x : ℕ) → Gen (size_form 0) (Index (TVar 0) (sum_of (var_form x) (var_form 0))) ≡ gathered x
gathered-is x = ap (Gen (size_form 0)) (Index-is (TVar 0) (sum_of (var_form x) (var_form 0)))
    ∙ Gen-is (size_form 0) (index (TVar 0) (sum_of (var_form x) (var_form 0)))

added-is : (q : ℕ) → Let (Lit 1) (Add (TVar 0) (TVar q)) ≡ added q
added-is q = ap (Let (Lit 1)) (Add-is (TVar 0) (TVar q)) ∙ Let-is (Lit 1) (add (TVar 0) (TVar q))

gathered_scoped : term_scoped 1 (gathered 1) 2 1 ≡ true
gathered_scoped = simp (scoped-items, scoped-Size, scoped-Var, order-out, out-Var)

one_form : (v k : ℕ) → v < 2 → k < 1 → items_scoped 1 2 (given (var_form v ∷ []) k) ≡ true
one_form zero zero g h = simp (scoped-items, scoped-Var)
one_form (suc zero) zero g h = simp (scoped-items, scoped-Var)
one_form (suc (suc v)) zero g h = absurd (omega (arith, g))
one_form v (suc k) g h = absurd (omega (arith, h))

-- what a call of a map on such a term asks
abbrev pub MayBeMapped : (Term → Type 0) → Term → Type 0
MayBeMapped within e = (node_depth e ≤ 2147483647) × within e

pub may_put_outer : (v : ℕ) (by : List Items) (e : Term) → v < 2 → by ≡ var_form v ∷ []
    → e ≡ Gen (size_form 0) (Index (TVar 0) (sum_of (var_form 1) (var_form 0)))
    → MayBeMapped (IsWithinReach (put_index_reach by 2)) e
may_put_outer v by e l b s =
    let h : MayBeMapped (IsWithinReach (put_index_reach (var_form v ∷ []) 2)) (gathered 1) =
    (omega arith, put_index_within (var_form v ∷ []) 2 2 1 2 1 (gathered 1) (λ k. one_form v k l) (omega arith) (omega arith) gathered_scoped) in
    subst (λ y. MayBeMapped (IsWithinReach (put_index_reach y 2)) e) (sym b)
    (subst (MayBeMapped (IsWithinReach (put_index_reach (var_form v ∷ []) 2))) (sym (s ∙ gathered-is 1)) h)

pub may_put_five : (e : Term) → e ≡ Let (Lit 1) (Add (TVar 0) (TVar 1)) → MayBeMapped (IsWithinReach (put_tensor_reach (TVar 5) 0)) e
unfolding may_shift
may_put_five e s =
    let h : MayBeMapped (IsWithinReach (put_tensor_reach (TVar 5) 0)) (added 1) = (omega arith, refl) in
    subst (MayBeMapped (IsWithinReach (put_tensor_reach (TVar 5) 0))) (sym (s ∙ added-is 1)) h

pub may_move : (e : Term) → e ≡ Let (Lit 1) (Add (TVar 0) (TVar 1)) → MayBeMapped (IsWithinReach (shift_reach 3 2)) e
may_move e s =
    let h : MayBeMapped (IsWithinReach (shift_reach 3 2)) (added 1) = (omega arith, refl) in
    subst (MayBeMapped (IsWithinReach (shift_reach 3 2))) (sym (s ∙ added-is 1)) h
