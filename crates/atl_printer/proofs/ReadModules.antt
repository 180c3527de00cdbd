-- A module that is read is printable.
use Rattle.std.proofs.Common.{◌≡◌, ◌⊎◌, inl, inr, ℕ, zero, suc, ◌+◌, ◌<◌, ◌≤◌, ◌^◌, ◌&&◌, ◌==◌, nat_le, Bool, true, false, cond, List, [], ◌∷◌, ◌++◌, length}
use Rattle.std.proofs.Common.{map, Option, Some, None, Result, Ok, Err, refl, sym, ap, subst, ◌∙◌, arith, append_assoc, append-nil, length-append}
use Rattle.std.proofs.lemmas.Bool.{and_from, and_parts}
use Rattle.text_tokens.specs.declared.kind.Kind.{Kind}
use Rattle.text_tokens.specs.declared.kind.Kind.TheVariants as k
use Rattle.text_tokens.specs.declared.kind.Language.{Language}
use Rattle.text_tokens.specs.declared.kind.Language.TheVariants.{SourceOne}
use Rattle.text_tokens.specs.Kinds.{Text}
use Rattle.text_tokens.specs.Names.{AreNames, IsName}
use Rattle.text_tokens.specs.Numbers.{number}
use Rattle.text_tokens.specs.Words.{Word, words_of}
use Rattle.affine_index.specs.Condition.{all_scoped, cmp_form}
use Rattle.affine_index.specs.Limited.{items_scoped}
use Rattle.affine_index.specs.Normal.{is_normal}
use Rattle.affine_index.specs.declared.aff.Aff.{Aff}
use Rattle.affine_index.specs.declared.cond.Cmp.{Cmp}
use Rattle.affine_index.specs.declared.cond.Cond.{Cond}
use Rattle.term_tree.specs.Limits.{each_cmp}
use Rattle.term_tree.specs.Modules.{extents_scoped, inputs_scoped, module_scoped, outputs_scoped}
use Rattle.term_tree.specs.Scope.{term_scoped}
use Rattle.term_tree.specs.declared.term.SizeDecl.{SizeDecl}
use Rattle.term_tree.specs.declared.term.InputDecl.{InputDecl}
use Rattle.term_tree.specs.declared.term.OutputDecl.{OutputDecl}
use Rattle.term_tree.specs.declared.term.Module.{Module}
use Rattle.reader_laws.specs.declared.fault.Fault.{Fault}
use Rattle.reader_laws.specs.declared.fault.Fault.TheVariants.{NumberTooLarge, ReservedName}
use Rattle.reader_laws.specs.Chain.{signed}
use Rattle.reader_laws.specs.Grammar.{IsRepeated, IsWordOf}
use Rattle.reader_laws.specs.Steps.{place_from}
use Rattle.source_grammar.specs.Conditions.{with_last}
use Rattle.source_grammar.specs.Index.{Sum}
use Rattle.source_grammar.specs.Scope.{extent_name}
use Rattle.source_grammar.specs.Source.{AreAssumes, AreInputs, AreMoreExamples, AreMoreOutputs, AreOutputs, AreShallow, AreSizes, IsAssume, IsExample}
use Rattle.source_grammar.specs.Source.{IsExtentOf, IsInputLine, IsOutputLine, IsSizeLine, IsSource, bound, bound_if, declared, input_names, is_reserved}
use Rattle.source_grammar.specs.Source.{language, module_of, new_name, nodes, output_names, size_names, unless_found, with_all}
use Rattle.source_grammar.specs.Terms.{Whole}
use Rattle.source_grammar.proofs.NormalForms.{Normal}
use Rattle.source_grammar.proofs.ScopedModules.{source_scoped}
use Rattle.atl_printer.specs.Printable.{HaveNoWordOf}
use Rattle.atl_printer.specs.PrintableModule.{AllNew, AreBounded, AreExtents, AreGoodInputs, AreGoodOutputs, HasOutputs, IsExampleFor, IsPrintableModule}
use Rattle.atl_printer.specs.ReadPrintable.{WhatIsReadIsPrintable}
use Rattle.atl_printer.proofs.Printing.{good_forms, printable}
use Rattle.atl_printer.proofs.ReadForms.{condition_few, condition_normal, extent_named, index_normal, repeated_few}
use Rattle.atl_printer.proofs.ReadTerms.{IsRead, term_is}
use Rattle.atl_printer.proofs.ReadWords.{Cut, after, before, front, only_word, rest, text_cut}

-- ---- single words

abbrev text_ok : Text → Result Text Fault
text_ok t = Ok t

same_text : (a b : Text) → text_ok a ≡ text_ok b → a ≡ b
same_text a b h = cc

-- a new name is the word itself
new_same : (seen : List Text) (t x : Text) → new_name seen t ≡ Ok x → t ≡ x
new_same seen t x h = by (is_reserved t) (place_from 0 t seen) h
  where
    by : (b : Bool) (o : Option ℕ) → cond b (let r : Result Text Fault = Err ReservedName in r) (unless_found o t) ≡ Ok x → t ≡ x
    by true o h = absurd cc
    by false None h = same_text t x h
    by false (Some n) h = absurd cc

abbrev number_ok : ℕ → Result ℕ Fault
number_ok n = Ok n

same_number : (a b : ℕ) → number_ok a ≡ number_ok b → a ≡ b
same_number a b h = cc

bounded : (t : Text) (n : ℕ) → bound t ≡ Ok n → n ≤ 2 ^ 40
bounded t n h = go (number t) h
  where
    by : (m : ℕ) (b : Bool) → nat_le m (2 ^ 40) ≡ b → cond b (number_ok m) (Err NumberTooLarge) ≡ Ok n → n ≤ 2 ^ 40
    by m true e h = let l : m ≤ 2 ^ 40 = grind (arith, e) in subst (λ i. i ≤ 2 ^ 40) (same_number m n h) l
    by m false e h = absurd cc

    go : (o : Option ℕ) → bound_if o ≡ Ok n → n ≤ 2 ^ 40
    go None h = absurd cc
    go (Some m) h = by m (nat_le m (2 ^ 40)) refl h

-- ---- lists that grow at their end

names_last : {A : Type 0} (f : A → Text) (xs : List A) (x : A) → map f (xs ++ x ∷ []) ≡ map f xs ++ f x ∷ []
names_last f [] x = refl
names_last f (y ∷ xs) x = ap (λ ts. f y ∷ ts) (names_last f xs x)

new_last : (seen ts : List Text) (t : Text) → AllNew seen ts → new_name (seen ++ ts) t ≡ Ok t → AllNew seen (ts ++ t ∷ [])
new_last seen [] t h e = (subst (λ us. new_name us t ≡ Ok t) (append-nil seen) e, tt)
new_last seen (u ∷ ts) t h e =
    (h.0, new_last (seen ++ u ∷ []) ts t h.1 (subst (λ us. new_name us t ≡ Ok t) (sym (append_assoc seen (u ∷ []) ts)) e))

bounded_last : (ds : List SizeDecl) (d : SizeDecl) → AreBounded ds → (d.low ≤ 2 ^ 40) × (d.high ≤ 2 ^ 40) → AreBounded (ds ++ d ∷ [])
bounded_last [] d p q = (q, tt)
bounded_last (e ∷ ds) d p q = (p.0, bounded_last ds d p.1 q)

example_last : (ds : List SizeDecl) (ns : List ℕ) (d : SizeDecl) (n : ℕ) → IsExampleFor ds ns → n ≤ 2 ^ 40 → IsExampleFor (ds ++ d ∷ []) (ns ++ n ∷ [])
example_last [] [] d n p q = (q, tt)
example_last [] (m ∷ ns) d n p q = absurd p
example_last (e ∷ ds) [] d n p q = absurd p
example_last (e ∷ ds) (m ∷ ns) d n p q = (p.0, example_last ds ns d n p.1 q)

cmps_joined : (cs es : List Cmp) → each_cmp is_normal cs ≡ true → each_cmp is_normal es ≡ true → each_cmp is_normal (cs ++ es) ≡ true
cmps_joined [] es p q = q
cmps_joined (c ∷ cs) es p q =
    let h = and_parts (is_normal (cmp_form c)) (each_cmp is_normal cs) p in
    and_from (is_normal (cmp_form c)) (each_cmp is_normal (cs ++ es)) h.0 (cmps_joined cs es h.1 q)

abbrev AllNormal : List Aff → Type 0
AllNormal [] = Unit {0}
AllNormal (x ∷ xs) = Normal x × AllNormal xs

normal_last : (xs : List Aff) (x : Aff) → AllNormal xs → Normal x → AllNormal (xs ++ x ∷ [])
normal_last [] x p q = (q, tt)
normal_last (y ∷ xs) x p q = (p.0, normal_last xs x p.1 q)

abbrev AreInputsNormal : List InputDecl → Type 0
AreInputsNormal [] = Unit {0}
AreInputsNormal (d ∷ ds) = ((length d.extents ≤ 2 ^ 63) × AllNormal d.extents) × AreInputsNormal ds

inputs_last : (ds : List InputDecl) (d : InputDecl) → AreInputsNormal ds → (length d.extents ≤ 2 ^ 63) × AllNormal d.extents → AreInputsNormal (ds ++ d ∷ [])
inputs_last [] d p q = (q, tt)
inputs_last (e ∷ ds) d p q = (p.0, inputs_last ds d p.1 q)

-- ---- what is in scope besides

extents_good : (sizes : ℕ) (xs : List Aff) → extents_scoped sizes xs ≡ true → AllNormal xs → AreExtents sizes xs
extents_good sizes [] s n = tt
extents_good sizes (x ∷ xs) s n =
    let p = and_parts (items_scoped sizes 0 x) (extents_scoped sizes xs) s in
    ((n.0, p.0), extents_good sizes xs p.1 n.1)

inputs_good : (sizes : ℕ) (ds : List InputDecl) → inputs_scoped sizes ds ≡ true → AreInputsNormal ds → AreGoodInputs sizes ds
inputs_good sizes [] s n = tt
inputs_good sizes (d ∷ ds) s n =
    let p = and_parts (extents_scoped sizes d.extents) (inputs_scoped sizes ds) s in
    ((n.0.0, extents_good sizes d.extents p.0 n.0.1), inputs_good sizes ds p.1 n.1)

one_more : {A : Type 0} (xs : List A) (x : A) (n : ℕ) → length (with_last xs x) ≤ length xs + n + 1
one_more xs x n = omega (arith, length-append xs (x ∷ []))

many_have : (version : ℕ) (os : List OutputDecl) → version ≡ 2 → 0 < length os → HasOutputs version os
many_have version [] e h = absurd (omega (arith, h))
many_have version (d ∷ []) e h = tt
many_have version (d ∷ (o ∷ os)) e h = e

module _ (l : Language) where
  -- what holds at the beginning, and is kept by each item, holds at the end
  repeated_cut : {A B : Type 0} (a : Kind) (add : A → B → A) (rule : A → List Word → B → Type 0) (P : A → Type 0)
      → ((x : A) (ws : List Word) (y : B) → rule x ws y → Cut l ws → P x → P (add x y)) → (n : ℕ) (left : A) (ws : List Word) (x : A) → P left
      → IsRepeated a add rule n left ws x → Cut l ws → P x
  unfolding signed
  repeated_cut a add rule P kept zero left ws x p is c = subst P (sym is.1) p
  repeated_cut a add rule P kept (suc n) left ws x p (inl is) c = subst P (sym is.1) p
  repeated_cut {A = A} a add rule P kept (suc n) left ws x p (inr is) c =
      let more = after l ws (is.word ∷ []) (is.front ++ is.rest) is.words c in
      let next = kept left is.front is.right is.is_operand (before l (is.front ++ is.rest) is.front is.rest refl more) p in
      repeated_cut a add rule P kept n is.value is.rest x (subst P (same (add left is.right) is.value is.joins) next) is.is_rest
      (after l (is.front ++ is.rest) is.front is.rest refl more)
    where
      joins_to : A → Result A Fault
      joins_to v = Ok v

      same : (v w : A) → joins_to v ≡ joins_to w → v ≡ w
      same v w h = cc

  -- ---- names

  -- names that are declared one after the other
  abbrev AreDeclared : List Text → Type 0
  AreDeclared ts = AllNew [] ts × AreNames l ts

  are_last : (ts : List Text) (t : Text) → AreNames l ts → IsName l t → AreNames l (ts ++ t ∷ [])
  are_last [] t p q = (q, tt)
  are_last (u ∷ ts) t p q = (p.0, are_last ts t p.1 q)

  declared_last : (ts : List Text) (ws : List Word) (t : Text) → AreDeclared ts → IsWordOf k.Name (new_name ts) ws t → Cut l ws → AreDeclared (ts ++ t ∷ [])
  declared_last ts ws t p is c =
      let e = new_same ts is.word.text t is.reads_as in
      let n = (only_word l is c).name is.is in
      (new_last [] ts t p.0 (subst (λ u. new_name ts u ≡ Ok t) e is.reads_as), are_last ts t p.1 (subst (IsName l) e n))

  -- ---- lines

  abbrev AreSizesGood : List SizeDecl → Type 0
  AreSizesGood ds = AreDeclared (size_names ds) × AreBounded ds

  size_line : (ds : List SizeDecl) (ws : List Word) (d : SizeDecl) → IsSizeLine ds ws d → Cut l ws → AreSizesGood ds → AreSizesGood (with_last ds d)
  size_line ds ws d is c p =
      let low = is.is_then.is_then in
      let high = low.is_then.is_then in
      let r : SizeDecl = record { name = is.value; low = low.value; high = high.value } in
      subst (λ e. AreSizesGood (with_last ds e)) (sym high.is_then.is_then.1) (
        subst AreDeclared (sym (names_last (λ (e : SizeDecl). e.name) ds r)) (declared_last (size_names ds) is.front is.value p.0 is.is_first (front l is c)),
        bounded_last ds r p.1 (
          bounded low.is_first.word.text low.value low.is_first.reads_as,
          bounded high.is_first.word.text high.value high.is_first.reads_as,
        ),
      )

  sizes_good : (ws : List Word) (ds : List SizeDecl) → AreSizes ws ds → Cut l ws → AreSizesGood ds
  sizes_good ws ds is c = repeated_cut k.Size with_last IsSizeLine AreSizesGood size_line _ [] ws ds ((tt, tt), tt) is c

  sizes_few : (ws : List Word) (ds : List SizeDecl) → AreSizes ws ds → Cut l ws → length ds ≤ 2 ^ 63
  sizes_few ws ds is c =
      let h = repeated_few k.Size with_last IsSizeLine (λ xs. length xs) (λ xs us x r. one_more xs x (length us)) _ [] ws ds is in omega (arith, h, c.few)

  module _ (ds : List SizeDecl) where
    assume_normal : (ws : List Word) (c : Cond) → IsAssume ds ws c → each_cmp is_normal c.all ≡ true
    assume_normal ws c is = subst (λ (d : Cond). each_cmp is_normal d.all ≡ true) (sym is.is_then.is_then.1)
        (condition_normal (extent_name (declared ds [])) (extent_named (declared ds [])) 1000 is.front is.value is.is_first)

    assume_few : (ws : List Word) (c : Cond) → IsAssume ds ws c → length c.all ≤ length ws + 1
    assume_few ws c is =
        let h = condition_few (extent_name (declared ds [])) (extent_named (declared ds [])) 1000 is.front is.value is.is_first in
        omega (arith, h, ap (λ (d : Cond). length d.all) is.is_then.is_then.1, ap length is.words, length-append is.front is.rest)

    assumes_normal : (ws : List Word) (cs : List Cmp) → AreAssumes ds ws cs → Cut l ws → each_cmp is_normal cs ≡ true
    assumes_normal ws cs is c = repeated_cut k.Assume with_all (λ _. IsAssume ds) (λ es. each_cmp is_normal es ≡ true)
        (λ es us d r g p. cmps_joined es d.all p (assume_normal us d r)) _ [] ws cs refl is c

    assumes_few : (ws : List Word) (cs : List Cmp) → AreAssumes ds ws cs → Cut l ws → length cs ≤ 2 ^ 63
    assumes_few ws cs is c =
        let h = repeated_few k.Assume with_all (λ _. IsAssume ds) (λ es. length es)
        (λ es us d r. omega (arith, assume_few us d r, length-append es d.all)) _ [] ws cs is in
        omega (arith, h, c.few)

    more_examples : (done left : List SizeDecl) (ns : List ℕ) (ws : List Word) (x : List ℕ) → IsExampleFor done ns → AreMoreExamples left ns ws x
        → IsExampleFor (done ++ left) x
    more_examples done [] ns ws x p is = subst (λ es. IsExampleFor es x) (sym (append-nil done)) (subst (IsExampleFor done) (sym is.is_then.1) p)
    more_examples done (d ∷ left) ns ws x p is =
        let n = is.is_then in
        let b = n.is_first.is_then.is_then in
        subst (λ es. IsExampleFor es x) (append_assoc done (d ∷ []) left)
        (more_examples (done ++ d ∷ []) left (with_last ns n.value) n.rest x (example_last done ns d n.value p (bounded b.word.text n.value b.reads_as))
        n.is_then)

    example_good : (es : List SizeDecl) (ws : List Word) (ns : List ℕ) → IsExample es ws ns → IsExampleFor es ns
    example_good [] ws ns is = subst (IsExampleFor []) (sym is.1) tt
    example_good (d ∷ es) ws ns is =
        let n = is.is_then in
        let b = n.is_first.is_then.is_then in
        more_examples (d ∷ []) es (n.value ∷ []) n.rest ns (bounded b.word.text n.value b.reads_as, tt) n.is_then

    extent_is : (ws : List Word) (x : Aff) → IsExtentOf ds ws x → Normal x
    extent_is ws x is = subst Normal (sym is.is_then.is_then.1)
        (index_normal (extent_name (declared ds [])) (extent_named (declared ds [])) 999 Sum is.front is.value is.is_first)

    abbrev AreInputsGood : List InputDecl → Type 0
    AreInputsGood is = AreDeclared (size_names ds ++ input_names is) × AreInputsNormal is

    input_line : (is : List InputDecl) (ws : List Word) (d : InputDecl) → IsInputLine ds is ws d → Cut l ws → AreInputsGood is → AreInputsGood (with_last is d)
    input_line is ws d r c p =
        let es = r.is_then in
        let made : InputDecl = record { name = r.value; extents = es.value } in
        let normal = repeated_cut k.LBracket with_last (λ _. IsExtentOf ds) AllNormal (λ xs us x q g n. normal_last xs x n (extent_is us x q)) _ [] es.front
        es.value tt es.is_first (front l es (rest l r c)) in
        let few = repeated_few k.LBracket with_last (λ _. IsExtentOf ds) (λ xs. length xs) (λ xs us x q. one_more xs x (length us)) _ [] es.front es.value
        es.is_first in
        let short : length es.value ≤ 2 ^ 63 = omega (arith, few, (front l es (rest l r c)).few) in
        let names = declared_last (size_names ds ++ input_names is) r.front r.value p.0 r.is_first (front l r c) in
        subst (λ e. AreInputsGood (with_last is e)) (sym es.is_then.is_then.1) (
          subst AreDeclared (append_assoc (size_names ds) (input_names is) (r.value ∷ [])
              ∙ ap (λ ts. size_names ds ++ ts) (sym (names_last (λ (e : InputDecl). e.name) is made))) names,
          inputs_last is made p.1 (short, normal),
        )

    inputs_are : (ws : List Word) (is : List InputDecl) → AreDeclared (size_names ds) → AreInputs ds ws is → Cut l ws → AreInputsGood is
    inputs_are ws is p r c = repeated_cut k.Input with_last (IsInputLine ds) AreInputsGood input_line _ [] ws is
        (subst AreDeclared (sym (append-nil (size_names ds))) p, tt) r c

    inputs_few : (ws : List Word) (is : List InputDecl) → AreInputs ds ws is → Cut l ws → length is ≤ 2 ^ 63
    inputs_few ws is r c =
        let h = repeated_few k.Input with_last (IsInputLine ds) (λ xs. length xs) (λ xs us x q. one_more xs x (length us)) _ [] ws is r in
        omega (arith, h, c.few)

    module _ (is : List InputDecl) where
      abbrev AreRead : List OutputDecl → Type 0
      AreRead [] = Unit {0}
      AreRead (d ∷ os) = IsRead l d.term × AreRead os

      read_last : (os : List OutputDecl) (d : OutputDecl) → AreRead os → IsRead l d.term → AreRead (os ++ d ∷ [])
      read_last [] d p q = (q, tt)
      read_last (o ∷ os) d p q = (p.0, read_last os d p.1 q)

      abbrev AreOutputsGood : List OutputDecl → Type 0
      AreOutputsGood os = AreDeclared (size_names ds ++ (input_names is ++ output_names os)) × AreRead os

      output_line : (os : List OutputDecl) (ws : List Word) (d : OutputDecl) → IsOutputLine ds is os ws d → Cut l ws → AreOutputsGood os
          → AreOutputsGood (with_last os d)
      output_line os ws d r c p =
          let t = r.is_then.is_then in
          let made : OutputDecl = record { name = r.value; term = t.value } in
          let read = term_is l 1000 Whole (declared ds is) t.front t.value t.is_first (front l t (rest l r.is_then (rest l r c))) in
          let names = declared_last (size_names ds ++ (input_names is ++ output_names os)) r.front r.value p.0 r.is_first (front l r c) in
          subst (λ e. AreOutputsGood (with_last os e)) (sym t.is_then.is_then.1) (
            subst AreDeclared (append_assoc (size_names ds) (input_names is ++ output_names os) (r.value ∷ [])
                ∙ ap (λ ts. size_names ds ++ ts) (append_assoc (input_names is) (output_names os) (r.value ∷ [])
                ∙ ap (λ ts. input_names is ++ ts) (sym (names_last (λ (e : OutputDecl). e.name) os made)))) names,
            read_last os made p.1 read,
          )

      more_good : (one : Bool) (left : List OutputDecl) (ws : List Word) (os : List OutputDecl) → AreOutputsGood left → AreMoreOutputs one ds is left ws os
          → Cut l ws → AreOutputsGood os
      more_good true left ws os p r c = subst AreOutputsGood (sym r.1) p
      more_good false left ws os p r c = repeated_cut k.Output with_last (IsOutputLine ds is) AreOutputsGood output_line _ left ws os p r c

      outputs_are : (version : ℕ) (ws : List Word) (os : List OutputDecl) → AreDeclared (size_names ds ++ input_names is) → AreOutputs version ds is ws os
          → Cut l ws → AreOutputsGood os
      outputs_are version ws os p r c =
          let d = r.is_then in
          let none : AreOutputsGood [] = (subst AreDeclared (ap (λ ts. size_names ds ++ ts) (sym (append-nil (input_names is)))) p, tt) in
          more_good (version == 1) (d.value ∷ []) d.rest os (output_line [] d.front d.value d.is_first (front l d (rest l r c)) none) d.is_then
          (rest l d (rest l r c))

      more_few : (one : Bool) (left : List OutputDecl) (ws : List Word) (os : List OutputDecl) → AreMoreOutputs one ds is left ws os
          → length os ≤ length left + length ws
      more_few true left ws os r = omega (arith, ap length r.1)
      more_few false left ws os r =
          repeated_few k.Output with_last (IsOutputLine ds is) (λ xs. length xs) (λ xs us x q. one_more xs x (length us)) _ left ws os r

      outputs_few : (version : ℕ) (ws : List Word) (os : List OutputDecl) → AreOutputs version ds is ws os → Cut l ws → length os ≤ 2 ^ 63
      outputs_few version ws os r c =
          let d = r.is_then in
          let h = more_few (version == 1) (d.value ∷ []) d.rest os d.is_then in
          omega (arith, h, (rest l d (rest l r c)).few)

      more_some : (left : List OutputDecl) (ws : List Word) (os : List OutputDecl) → 0 < length left → AreMoreOutputs false ds is left ws os → Cut l ws
          → 0 < length os
      more_some left ws os p r c = repeated_cut k.Output with_last (IsOutputLine ds is) (λ xs. 0 < length xs)
          (λ xs us x q g n. omega (arith, length-append xs (x ∷ []))) _ left ws os p r c

      has_outputs : (version : ℕ) (ws : List Word) (os : List OutputDecl) → (version ≡ 1) ⊎ (version ≡ 2) → AreOutputs version ds is ws os → Cut l ws
          → HasOutputs version os
      has_outputs version ws os v r c = by (version == 1) refl v r.is_then.is_then
        where
          by : (b : Bool) → (version == 1) ≡ b → (version ≡ 1) ⊎ (version ≡ 2) → AreMoreOutputs b ds is (r.is_then.value ∷ []) r.is_then.rest os
              → HasOutputs version os
          by true e v m = subst (HasOutputs version) (sym m.1) tt
          by false e (inl one) m = absurd (let g : (1 == 1) ≡ false = ap (λ n. n == 1) (sym one) ∙ e in cc)
          by false e (inr two) m =
              many_have version os two (more_some (r.is_then.value ∷ []) r.is_then.rest os (omega arith) m (rest l r.is_then (rest l r c)))

      outputs_good : (sizes inputs : ℕ) (os : List OutputDecl) → outputs_scoped sizes inputs os ≡ true → AreRead os → AreGoodOutputs sizes inputs os
      outputs_good sizes inputs [] s p = tt
      outputs_good sizes inputs (d ∷ os) s p =
          let h = and_parts (term_scoped sizes d.term 0 inputs) (outputs_scoped sizes inputs os) s in
          (printable sizes d.term 0 inputs h.0 p.0.normal p.0.held, outputs_good sizes inputs os h.1 p.1)

      no_words : l ≡ SourceOne → (os : List OutputDecl) → AreRead os → HaveNoWordOf os
      no_words e [] p = tt
      no_words e (d ∷ os) p = (p.0.plain e, no_words e os p.1)

source_printable : (version : ℕ) (ws : List Word) (m : Module) → (version ≡ 1) ⊎ (version ≡ 2) → IsSource version ws m → Cut (language version) ws
    → AreShallow m.outputs → nodes m.outputs ≤ 20000 → IsPrintableModule m
source_printable version ws m v s c0 shallow few =
    let l = language version in
    let a = s.is_then in
    let b = a.is_then in
    let e = b.is_then in
    let i = e.is_then in
    let o = i.is_then in
    let ca = rest l s c0 in
    let cb = rest l a ca in
    let ce = rest l b cb in
    let ci = rest l e ce in
    let co = rest l i ci in
    let ds = a.value in
    let is = i.value in
    let n = length ds in
    let made = module_of version ds b.value e.value is o.value in
    let same : m ≡ made = o.is_then.1 in
    let scoped : module_scoped made ≡ true = subst (λ (x : Module). module_scoped x ≡ true) same (source_scoped version ws m s) in
    let parts = and_parts (all_scoped n 0 b.value) (inputs_scoped n is && outputs_scoped n (length is) o.value) scoped in
    let more = and_parts (inputs_scoped n is) (outputs_scoped n (length is) o.value) parts.1 in
    let sizes = sizes_good l a.front ds a.is_first (front l a ca) in
    let inputs = inputs_are l ds i.front is sizes.0 i.is_first (front l i ci) in
    let outputs = outputs_are l ds is version o.front o.value inputs.0 o.is_first (front l o co) in
    subst IsPrintableModule (sym same)
    (record {
      version = v;
      names = outputs.0.0;
      are_names = outputs.0.1;
      bounds = sizes.1;
      assumes = good_forms n 0 b.value parts.0 (assumes_normal l ds b.front b.value b.is_first (front l b cb));
      example = example_good l ds ds e.front e.value e.is_first;
      inputs = inputs_good n is more.0 inputs.1;
      outputs = outputs_good l ds is n (length is) o.value more.1 outputs.1;
      words = λ one. no_words l ds is (ap language one) o.value outputs.1;
      has_outputs = has_outputs l ds is version o.front o.value v o.is_first (front l o co);
      shallow = subst (λ (x : Module). AreShallow x.outputs) same shallow;
      few = subst (λ (x : Module). nodes x.outputs ≤ 20000) same few;
      few_sizes = sizes_few l a.front ds a.is_first (front l a ca);
      few_assumes = assumes_few l ds b.front b.value b.is_first (front l b cb);
      few_inputs = inputs_few l ds i.front is i.is_first (front l i ci);
      few_outputs = outputs_few l ds is version o.front o.value o.is_first (front l o co);
    })

pub read-is-printable : WhatIsReadIsPrintable
read-is-printable z m s short =
    source_printable m.version (words_of (language m.version) z) m s.version s.words (text_cut (language m.version) z s.utf8 short) s.shallow s.few
