-- The terms and the module of the tests are well scoped.
use Rattle.std.proofs.Common.{◌≡◌, ℕ, ◌+◌, List, [], ◌∷◌, ◌++◌, length, refl, ap, sym, ◌∙◌, subst, true, zero, suc, arith, ◌≤◌}
use Rattle.std.specs.Prelude.{All}
use Rattle.std.proofs.lemmas.Bool.{and_from, lt-ltb}
use Rattle.affine_index.specs.Form.{size_form, var_form}
use Rattle.affine_index.specs.Limited.{items_scoped}
use Rattle.affine_index.specs.declared.form.Atom.TheVariants.{Size, Var}
use Rattle.affine_index.proofs.ReadyLaws.{scoped-Size, scoped-Var}
use Rattle.affine_index.proofs.ScopedForms.{of_atom-scoped}
use Rattle.term_tree.specs.Counts.{node_count}
use Rattle.term_tree.specs.Modules.{extents_scoped, inputs_scoped, outputs_scoped}
use Rattle.term_tree.specs.Scope.{term_scoped}
use Rattle.term_tree.specs.Syntax.{gen, index, let_in}
use Rattle.term_tree.specs.declared.term.InputDecl.{InputDecl}
use Rattle.term_tree.specs.declared.term.OutputDecl.{OutputDecl}
use Rattle.term_tree.specs.declared.term.Term.{Term}
use Rattle.term_tree.specs.declared.term.Term.TheVariants as variant
use Rattle.term_tree.proofs.Forms.{Gen-is, Index-is, Let-is}

pub size_in : items_scoped 1 0 (size_form 0) ≡ true
size_in = of_atom-scoped 1 0 (Size 0) (scoped-Size 1 0 0)

var_in : (v : ℕ) → items_scoped 1 (suc v) (var_form 0) ≡ true
var_in v = of_atom-scoped 1 (suc v) (Var 0) (scoped-Var 1 (suc v) 0 ∙ lt-ltb 0 (suc v) (omega arith))

-- N rows of a tensor variable, and rows around them
abbrev pub array : ℕ → Term
array q = variant.Gen (size_form 0) (variant.Index (variant.TVar q) (var_form 0))

array_is : (q : ℕ) → array q ≡ gen (size_form 0) (index (variant.TVar q) (var_form 0))
array_is q = Gen-is (size_form 0) (variant.Index (variant.TVar q) (var_form 0)) ∙ ap (gen (size_form 0)) (Index-is (variant.TVar q) (var_form 0))

array_in : (q v t : ℕ) → term_scoped 1 (variant.TVar q) (v + 1) t ≡ true → term_scoped 1 (gen (size_form 0) (index (variant.TVar q) (var_form 0))) v t ≡ true
array_in q v t h = and_from (items_scoped 1 0 (size_form 0)) _ size_in (and_from (term_scoped 1 (variant.TVar q) (v + 1) t) _ h
    (ap (λ (w : ℕ). items_scoped 1 w (var_form 0)) (one v) ∙ var_in v))
  where
    one : (v : ℕ) → v + 1 ≡ suc v
    one v = omega arith

abbrev pub copied : Term
copied = variant.Gen (size_form 0) (variant.Index (array 0) (var_form 0))

abbrev pub named : Term
named = variant.Let (variant.TVar 0) (array 0)

copied_is : copied ≡ gen (size_form 0) (index (gen (size_form 0) (index (variant.TVar 0) (var_form 0))) (var_form 0))
copied_is = Gen-is (size_form 0) (variant.Index (array 0) (var_form 0)) ∙ ap (gen (size_form 0)) (Index-is (array 0) (var_form 0)
    ∙ ap (λ (a : Term). index a (var_form 0)) (array_is 0))

named_is : named ≡ let_in (variant.TVar 0) (gen (size_form 0) (index (variant.TVar 0) (var_form 0)))
named_is = Let-is (variant.TVar 0) (array 0) ∙ ap (let_in (variant.TVar 0)) (array_is 0)

pub copied_in : term_scoped 1 copied 0 1 ≡ true
copied_in =
    ap (λ (e : Term). term_scoped 1 e 0 1) copied_is
    ∙ and_from (items_scoped 1 0 (size_form 0)) _ size_in (and_from (term_scoped 1 (gen (size_form 0) (index (variant.TVar 0) (var_form 0))) 1 1) _
    (array_in 0 1 1 refl) (var_in 0))

pub named_in : term_scoped 1 named 0 1 ≡ true
named_in =
    ap (λ (e : Term). term_scoped 1 e 0 1) named_is
    ∙ and_from (term_scoped 1 (variant.TVar 0) 0 1) _ refl (array_in 0 0 2 refl)

pub copied_small : node_count copied ≤ 20000
copied_small = subst (λ n. n ≤ 20000) (sym (ap node_count copied_is)) (omega arith)

pub named_small : node_count named ≤ 20000
named_small = subst (λ n. n ≤ 20000) (sym (ap node_count named_is)) (omega arith)

-- one output of few nodes
pub one_small : (os : List OutputDecl) (o : OutputDecl) → os ≡ o ∷ [] → node_count o.term ≤ 20000 → All (λ (o : OutputDecl). node_count o.term ≤ 20000) os
one_small os o e h = subst (All (λ (o : OutputDecl). node_count o.term ≤ 20000)) (sym e) each
  where
    each : All (λ (o : OutputDecl). node_count o.term ≤ 20000) (o ∷ [])
    each zero d l = h
    each (suc k) d l = absurd (omega (arith, l))

-- lists of one entry
pub one_is : {A : Type 0} (xs ys : List A) (x : A) → ys ≡ xs ++ x ∷ [] → xs ≡ [] → ys ≡ x ∷ []
one_is xs ys x e f = e ∙ ap (λ zs. zs ++ x ∷ []) f

pub one_input : (ds : List InputDecl) (d : InputDecl) → ds ≡ d ∷ [] → d.extents ≡ size_form 0 ∷ [] → (inputs_scoped 1 ds ≡ true) × (length ds ≡ 1)
one_input ds d e f = (
  ap (inputs_scoped 1) e ∙ and_from (extents_scoped 1 d.extents) _ (ap (extents_scoped 1) f ∙ and_from (items_scoped 1 0 (size_form 0)) _ size_in refl) refl,
  ap length e,
)

pub one_term : (os : List OutputDecl) (o : OutputDecl) (e : Term) → os ≡ o ∷ [] → o.term ≡ e → term_scoped 1 e 0 1 ≡ true → node_count e ≤ 20000
    → (outputs_scoped 1 1 os ≡ true) × (length os ≡ 1) × All (λ (o : OutputDecl). node_count o.term ≤ 20000) os
one_term os o e q i h k = (
  ap (outputs_scoped 1 1) q ∙ and_from (term_scoped 1 o.term 0 1) _ (ap (λ (x : Term). term_scoped 1 x 0 1) i ∙ h) refl,
  ap length q,
  one_small os o q (subst (λ (x : Term). node_count x ≤ 20000) (sym i) k),
)
