-- The extents, terms and modules of the tests are well scoped.
use Rattle.std.proofs.Common.{◌≡◌, ℕ, List, [], ◌∷◌, ◌++◌, length, refl, ap, ◌∙◌, true, ◌&&◌, not}
use Rattle.std.specs.Prelude.{ℤ, pos}
use Rattle.std.proofs.lemmas.Bool.{and_from, and_parts}
use Rattle.affine_index.specs.Condition.{all_scoped}
use Rattle.affine_index.specs.Form.{literal_form, size_form}
use Rattle.affine_index.specs.Limited.{items_scoped}
use Rattle.affine_index.specs.Normal.{holds_var}
use Rattle.affine_index.specs.Sum.{difference_of}
use Rattle.affine_index.specs.declared.cond.Cmp.{Cmp}
use Rattle.affine_index.specs.declared.form.Items.{Items}
use Rattle.affine_index.proofs.ReadyLaws.{scoped-Size, scoped-items}
use Rattle.term_tree.specs.Modules.{extents_scoped, inputs_scoped, outputs_scoped}
use Rattle.term_tree.specs.Scope.{term_scoped}
use Rattle.term_tree.specs.Shape.{Extents}
use Rattle.term_tree.specs.declared.term.InputDecl.{InputDecl}
use Rattle.term_tree.specs.declared.term.OutputDecl.{OutputDecl}
use Rattle.term_tree.specs.declared.term.SizeDecl.{SizeDecl}
use Rattle.shape_rules.specs.Scopes.{each_free}
use Rattle.shape_rules.proofs.FreeForms.{free_literal}

pub literal_scoped : (sizes : ℕ) (z : ℤ) → items_scoped sizes 0 (literal_form z) ≡ true
literal_scoped sizes z = scoped-items sizes 0 (literal_form z)

free_push : (ns : Extents) (n : Items) → not (holds_var n) ≡ true → each_free ns ≡ true → each_free (ns ++ n ∷ []) ≡ true
free_push [] n h k = and_from (not (holds_var n)) true h refl
free_push (m ∷ ns) n h k = let p = and_parts (not (holds_var m)) (each_free ns) k in
    and_from (not (holds_var m)) (each_free (ns ++ n ∷ [])) p.0 (free_push ns n h p.1)

scoped_push : (sizes : ℕ) (ns : Extents) (n : Items) → items_scoped sizes 0 n ≡ true → extents_scoped sizes ns ≡ true
    → extents_scoped sizes (ns ++ n ∷ []) ≡ true
scoped_push sizes [] n h k = and_from (items_scoped sizes 0 n) true h refl
scoped_push sizes (m ∷ ns) n h k =
    let p = and_parts (items_scoped sizes 0 m) (extents_scoped sizes ns) k in
    and_from (items_scoped sizes 0 m) (extents_scoped sizes (ns ++ n ∷ [])) p.0 (scoped_push sizes ns n h p.1)

-- one more literal
pub literal_push : (ns ms : Extents) (n : Items) (z : ℤ) → ms ≡ ns ++ n ∷ [] → n ≡ literal_form z → (each_free ns ≡ true) × (extents_scoped 1 ns ≡ true)
    → (each_free ms ≡ true) × (extents_scoped 1 ms ≡ true)
literal_push ns ms n z e f h = (
  ap each_free e ∙ free_push ns n (ap (λ n. not (holds_var n)) f ∙ free_literal z) h.0,
  ap (extents_scoped 1) e
      ∙ scoped_push 1 ns n (ap (items_scoped 1 0) f ∙ literal_scoped 1 z) h.1,
)

-- N - 1 over one size
pub less_one_scoped : items_scoped 1 0 (difference_of (size_form 0) (literal_form (pos 1))) ≡ true
less_one_scoped = scoped-items 1 0 (difference_of (size_form 0) (literal_form (pos 1))) ∙ ap (λ b. b && true) (scoped-Size 1 0 0)

-- a list that was empty has one entry more
pub one_more : {A : Type 0} (xs ys : List A) (x : A) → ys ≡ xs ++ x ∷ [] → xs ≡ [] → length ys ≡ 1
one_more xs ys x e f = ap length e ∙ ap (λ xs. length (xs ++ x ∷ [])) f

pub one_output : (sizes tensors : ℕ) (before os : List OutputDecl) (o : OutputDecl) → os ≡ before ++ o ∷ [] → before ≡ []
    → term_scoped sizes o.term 0 tensors ≡ true
    → outputs_scoped sizes tensors os ≡ true
one_output sizes tensors before os o e f h =
    ap (outputs_scoped sizes tensors) (e ∙ ap (λ os. os ++ o ∷ []) f) ∙ and_from (term_scoped sizes o.term 0 tensors) true h refl

-- a module of one size without assumes
pub one_size_scoped : (assumes : List Cmp) (sizes : List SizeDecl) (inputs : List InputDecl) (outputs : List OutputDecl) → assumes ≡ [] → length sizes ≡ 1
    → inputs_scoped 1 inputs ≡ true
    → outputs_scoped 1 (length inputs) outputs ≡ true
    → (all_scoped (length sizes) 0 assumes && (inputs_scoped (length sizes) inputs && outputs_scoped (length sizes) (length inputs) outputs)) ≡ true
one_size_scoped assumes sizes inputs outputs a s i o =
    (λ j. all_scoped (length sizes) 0 (a j) && (inputs_scoped (s j) inputs && outputs_scoped (s j) (length inputs) outputs))
    ∙ and_from (inputs_scoped 1 inputs) (outputs_scoped 1 (length inputs) outputs) i o
