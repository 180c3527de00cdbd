-- A module that is read is well scoped.
use Rattle.std.proofs.Common.{◌≡◌, ℕ, ◌+◌, ◌==◌, ◌&&◌, if◌then◌else◌, Bool, true, false, List, [], ◌∷◌, ◌++◌, length, map, Ok, refl, sym, ap, subst}
use Rattle.std.proofs.Common.{◌∙◌, arith}
use Rattle.std.proofs.lemmas.Bool.{and_from, and_parts}
use Rattle.text_tokens.specs.declared.kind.Kind.TheVariants as k
use Rattle.text_tokens.specs.Kinds.{Text}
use Rattle.text_tokens.specs.Words.{Word}
use Rattle.affine_index.specs.Condition.{all_scoped, cmp_form}
use Rattle.affine_index.specs.Limited.{items_scoped}
use Rattle.affine_index.specs.declared.aff.Aff.{Aff}
use Rattle.affine_index.specs.declared.cond.Cmp.{Cmp}
use Rattle.affine_index.specs.declared.cond.Cond.{Cond}
use Rattle.affine_index.specs.declared.form.Items.{Items}
use Rattle.affine_index.proofs.FormScopes.{Form, of-form}
use Rattle.term_tree.specs.Modules.{extents_scoped, inputs_scoped, module_scoped, outputs_scoped}
use Rattle.term_tree.specs.Scope.{term_scoped}
use Rattle.term_tree.specs.declared.term.SizeDecl.{SizeDecl}
use Rattle.term_tree.specs.declared.term.InputDecl.{InputDecl}
use Rattle.term_tree.specs.declared.term.OutputDecl.{OutputDecl}
use Rattle.term_tree.specs.declared.term.Module.{Module}
use Rattle.reader_laws.proofs.Repeated.{repeated_keeps}
use Rattle.source_grammar.specs.declared.sort.Sort.{Sort}
use Rattle.source_grammar.specs.declared.sort.Sort.TheVariants.{OfSize, OfIndex, OfTensor}
use Rattle.source_grammar.specs.Conditions.{with_last}
use Rattle.source_grammar.specs.Index.{Sum}
use Rattle.source_grammar.specs.Scope.{Scope, extent_name, same_sort}
use Rattle.source_grammar.specs.Source.{AreAssumes, AreInputs, AreMoreOutputs, AreOutputs, IsAssume, IsExtentOf, IsInputLine, IsOutputLine, IsSource, declared}
use Rattle.source_grammar.specs.Source.{entries, input_names, size_names, with_all}
use Rattle.source_grammar.specs.Terms.{Whole}
use Rattle.source_grammar.proofs.ScopedLaws.{condition_scoped, index_scoped}
use Rattle.source_grammar.proofs.ScopedSources.{count, extent_good, term_fits}

-- ---- how many names there are of each sort

abbrev of_sort : Sort → List Text → Scope
of_sort s ts = entries (λ t. record { name = t; sort = s }) ts

counted : (s : Sort) (ts : List Text) → same_sort s s ≡ true → count s (of_sort s ts) ≡ length ts
counted s [] h = refl
counted s (t ∷ ts) h = let again = counted s ts h in ap (λ b. if b then count s (of_sort s ts) + 1 else count s (of_sort s ts)) h ∙ omega (arith, again)

none_counted : (s o : Sort) (ts : List Text) → same_sort o s ≡ false → count s (of_sort o ts) ≡ 0
none_counted s o [] h = refl
none_counted s o (t ∷ ts) h = ap (λ b. if b then count s (of_sort o ts) + 1 else count s (of_sort o ts)) h ∙ none_counted s o ts h

joined : (s : Sort) (xs ys : Scope) → count s (xs ++ ys) ≡ count s xs + count s ys
joined s [] ys = omega arith
joined s (e ∷ xs) ys = go (same_sort e.sort s) (joined s xs ys)
  where
    go : (b : Bool) → count s (xs ++ ys) ≡ count s xs + count s ys → (if b then count s (xs ++ ys) + 1 else count s (xs ++ ys))
        ≡ (if b then count s xs + 1 else count s xs) + count s ys
    go true h = omega (arith, h)
    go false h = h

mapped : {A : Type 0} (f : A → Text) (xs : List A) → length (map f xs) ≡ length xs
mapped f [] = refl
mapped f (x ∷ xs) = let h = mapped f xs in omega (arith, h)

module _ (ds : List SizeDecl) (is : List InputDecl) where
  abbrev names : Scope
  names = declared ds is

  pub sizes_are : count OfSize names ≡ length ds
  sizes_are =
      let a = joined OfSize (of_sort OfSize (size_names ds)) (of_sort OfTensor (input_names is)) in
      let b = counted OfSize (size_names ds) refl in
      let c = none_counted OfSize OfTensor (input_names is) refl in
      let d = mapped (λ (d : SizeDecl). d.name) ds in
      omega (arith, a, b, c, d)

  pub indices_are : count OfIndex names ≡ 0
  indices_are =
      let a = joined OfIndex (of_sort OfSize (size_names ds)) (of_sort OfTensor (input_names is)) in
      let b = none_counted OfIndex OfSize (size_names ds) refl in
      let c = none_counted OfIndex OfTensor (input_names is) refl in
      omega (arith, a, b, c)

  pub tensors_are : count OfTensor names ≡ length is
  tensors_are =
      let a = joined OfTensor (of_sort OfSize (size_names ds)) (of_sort OfTensor (input_names is)) in
      let b = none_counted OfTensor OfSize (size_names ds) refl in
      let c = counted OfTensor (input_names is) refl in
      let d = mapped (λ (d : InputDecl). d.name) is in
      omega (arith, a, b, c, d)

-- ---- lines

module _ (ds : List SizeDecl) where
  over_sizes : (t : Text) (x : Items) → extent_name (declared ds []) t ≡ Ok x → Form (length ds) 0 x
  over_sizes t x h = subst (λ n. Form n 0 x) (sizes_are ds []) (extent_good (declared ds []) t x h)

  all_joined : (cs es : List Cmp) → all_scoped (length ds) 0 cs ≡ true → all_scoped (length ds) 0 es ≡ true → all_scoped (length ds) 0 (cs ++ es) ≡ true
  all_joined [] es p q = q
  all_joined (c ∷ cs) es p q =
      let h = and_parts (items_scoped (length ds) 0 (cmp_form c)) (all_scoped (length ds) 0 cs) p in
      and_from (items_scoped (length ds) 0 (cmp_form c)) (all_scoped (length ds) 0 (cs ++ es)) h.0 (all_joined cs es h.1 q)

  assume_scoped : (ws : List Word) (c : Cond) → IsAssume ds ws c → all_scoped (length ds) 0 c.all ≡ true
  assume_scoped ws c is =
      let h = condition_scoped (length ds) 0 (extent_name (declared ds [])) over_sizes 1000 is.front is.value is.is_first in
      subst (λ (d : Cond). all_scoped (length ds) 0 d.all ≡ true) (sym is.is_then.is_then.1) (and_parts _ (all_scoped (length ds) 0 is.value.all) h).1

  assumes_scoped : (ws : List Word) (cs : List Cmp) → AreAssumes ds ws cs → all_scoped (length ds) 0 cs ≡ true
  assumes_scoped ws cs is = repeated_keeps k.Assume with_all (λ _. IsAssume ds) (λ cs. all_scoped (length ds) 0 cs ≡ true)
      (λ x us c r p. all_joined x c.all p (assume_scoped us c r)) _ [] ws cs refl is

  extents_joined : (ns : List Aff) (n : Aff) → extents_scoped (length ds) ns ≡ true → items_scoped (length ds) 0 n ≡ true
      → extents_scoped (length ds) (ns ++ n ∷ []) ≡ true
  extents_joined [] n p q = and_from (items_scoped (length ds) 0 n) true q refl
  extents_joined (m ∷ ns) n p q =
      let h = and_parts (items_scoped (length ds) 0 m) (extents_scoped (length ds) ns) p in
      and_from (items_scoped (length ds) 0 m) (extents_scoped (length ds) (ns ++ n ∷ [])) h.0 (extents_joined ns n h.1 q)

  extent_scoped : (ws : List Word) (x : Aff) → IsExtentOf ds ws x → items_scoped (length ds) 0 x ≡ true
  extent_scoped ws x is =
      subst (λ (y : Items). items_scoped (length ds) 0 y ≡ true) (sym is.is_then.is_then.1)
      (of-form (length ds) 0 is.value (index_scoped (length ds) 0 (extent_name (declared ds [])) over_sizes 999 Sum is.front is.value is.is_first))

  input_scoped : (is : List InputDecl) (ws : List Word) (d : InputDecl) → IsInputLine ds is ws d → extents_scoped (length ds) d.extents ≡ true
  input_scoped is ws d l =
      let es = l.is_then in
      let h = repeated_keeps k.LBracket with_last (λ _. IsExtentOf ds) (λ ns. extents_scoped (length ds) ns ≡ true)
      (λ ns us n r p. extents_joined ns n p (extent_scoped us n r)) _ [] es.front es.value refl es.is_first in
      subst (λ (e : InputDecl). extents_scoped (length ds) e.extents ≡ true) (sym es.is_then.is_then.1) h

  inputs_joined : (is : List InputDecl) (d : InputDecl) → inputs_scoped (length ds) is ≡ true → extents_scoped (length ds) d.extents ≡ true
      → inputs_scoped (length ds) (is ++ d ∷ []) ≡ true
  inputs_joined [] d p q = and_from (extents_scoped (length ds) d.extents) true q refl
  inputs_joined (e ∷ is) d p q =
      let h = and_parts (extents_scoped (length ds) e.extents) (inputs_scoped (length ds) is) p in
      and_from (extents_scoped (length ds) e.extents) (inputs_scoped (length ds) (is ++ d ∷ [])) h.0 (inputs_joined is d h.1 q)

  all_inputs_scoped : (ws : List Word) (is : List InputDecl) → AreInputs ds ws is → inputs_scoped (length ds) is ≡ true
  all_inputs_scoped ws is l = repeated_keeps k.Input with_last (IsInputLine ds) (λ x. inputs_scoped (length ds) x ≡ true)
      (λ x us d r p. inputs_joined x d p (input_scoped x us d r)) _ [] ws is refl l

  module _ (is : List InputDecl) where
    abbrev OutputsScoped : List OutputDecl → Type 0
    OutputsScoped os = outputs_scoped (length ds) (length is) os ≡ true

    output_scoped : (os : List OutputDecl) (ws : List Word) (d : OutputDecl) → IsOutputLine ds is os ws d → term_scoped (length ds) d.term 0 (length is) ≡ true
    output_scoped os ws d l =
        let t = l.is_then.is_then in
        let h = term_fits 1000 Whole (declared ds is) t.front t.value t.is_first in
        let g = subst (λ n. term_scoped n t.value (count OfIndex (declared ds is)) (count OfTensor (declared ds is)) ≡ true) (sizes_are ds is) h in
        let f = subst (λ n. term_scoped (length ds) t.value n (count OfTensor (declared ds is)) ≡ true) (indices_are ds is) g in
        let e = subst (λ n. term_scoped (length ds) t.value 0 n ≡ true) (tensors_are ds is) f in
        subst (λ (o : OutputDecl). term_scoped (length ds) o.term 0 (length is) ≡ true) (sym t.is_then.is_then.1) e

    outputs_joined : (os : List OutputDecl) (d : OutputDecl) → OutputsScoped os → term_scoped (length ds) d.term 0 (length is) ≡ true
        → OutputsScoped (os ++ d ∷ [])
    outputs_joined [] d p q = and_from (term_scoped (length ds) d.term 0 (length is)) true q refl
    outputs_joined (o ∷ os) d p q =
        let h = and_parts (term_scoped (length ds) o.term 0 (length is)) (outputs_scoped (length ds) (length is) os) p in
        and_from (term_scoped (length ds) o.term 0 (length is)) (outputs_scoped (length ds) (length is) (os ++ d ∷ [])) h.0 (outputs_joined os d h.1 q)

    more_scoped : (one : Bool) (left : List OutputDecl) (ws : List Word) (os : List OutputDecl) → OutputsScoped left → AreMoreOutputs one ds is left ws os
        → OutputsScoped os
    more_scoped true left ws os p l = subst OutputsScoped (sym l.1) p
    more_scoped false left ws os p l = repeated_keeps k.Output with_last (IsOutputLine ds is) OutputsScoped
        (λ x us d r q. outputs_joined x d q (output_scoped x us d r)) _ left ws os p l

    all_outputs_scoped : (version : ℕ) (ws : List Word) (os : List OutputDecl) → AreOutputs version ds is ws os → OutputsScoped os
    all_outputs_scoped version ws os l =
        let d = l.is_then in
        more_scoped (version == 1) (d.value ∷ []) d.rest os (outputs_joined [] d.value refl (output_scoped [] d.front d.value d.is_first)) d.is_then

-- each size, variable and tensor of a source is declared or bound
pub source_scoped : (version : ℕ) (ws : List Word) (m : Module) → IsSource version ws m → module_scoped m ≡ true
source_scoped version ws m s =
    let a = s.is_then in
    let b = a.is_then in
    let d = b.is_then.is_then in
    let e = d.is_then in
    let n = length a.value in
    subst (λ (x : Module). module_scoped x ≡ true) (sym e.is_then.1)
    (and_from (all_scoped n 0 b.value) (inputs_scoped n d.value && outputs_scoped n (length d.value) e.value)
    (assumes_scoped a.value b.front b.value b.is_first)
    (and_from (inputs_scoped n d.value) (outputs_scoped n (length d.value) e.value) (all_inputs_scoped a.value d.front d.value d.is_first)
    (all_outputs_scoped a.value d.value version e.front e.value e.is_first)))
