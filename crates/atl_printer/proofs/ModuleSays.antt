-- The tokens of a module stand for it.
use Rattle.std.proofs.Common.{◌≡◌, ℕ, zero, suc, ◌-◌, ◌^◌, ◌<◌, ◌≤◌, List, [], ◌∷◌, ◌++◌, length, map, Bool, true, false, ◌==◌, eqb-true, if◌then◌else◌}
use Rattle.std.proofs.Common.{nat_le, nat_lt, Some, None, Ok, Err, refl, sym, ap, ◌∙◌, subst, arith, append_assoc}
use Rattle.std.specs.Prelude.{decimal}
use Rattle.text_tokens.specs.declared.kind.Kind.{Kind}
use Rattle.text_tokens.specs.declared.kind.Kind.TheVariants as k
use Rattle.text_tokens.specs.Kinds.{Text}
use Rattle.text_tokens.specs.Words.{Word}
use Rattle.affine_index.specs.Condition.{cmp_form}
use Rattle.affine_index.specs.declared.aff.Aff.{Aff}
use Rattle.affine_index.specs.declared.cond.Cmp.{Cmp}
use Rattle.affine_index.specs.declared.cond.Cond.{Cond}
use Rattle.term_tree.specs.declared.term.SizeDecl.{SizeDecl}
use Rattle.term_tree.specs.declared.term.InputDecl.{InputDecl}
use Rattle.term_tree.specs.declared.term.OutputDecl.{OutputDecl}
use Rattle.term_tree.specs.declared.term.Module.{Module}
use Rattle.reader_laws.specs.declared.fault.Fault.TheVariants.{BadSyntax, NumberTooLarge}
use Rattle.reader_laws.specs.Chain.{signed}
use Rattle.reader_laws.specs.Grammar.{IsRepeated}
use Rattle.reader_laws.proofs.Outcomes.{same_self}
use Rattle.source_grammar.specs.Scope.{extent_name, if_known, meaning, size_form_of}
use Rattle.text_tokens.specs.Spelled.{Token, sign, keyword}
use Rattle.source_grammar.specs.Index.{IsIndex, Sum}
use Rattle.source_grammar.specs.Conditions.{with_last}
use Rattle.source_grammar.specs.Terms.{Whole}
use Rattle.atl_printer.specs.TermTokens.{cmp_tokens, form_tokens, let_text, term_tokens, var_text}
use Rattle.atl_printer.specs.Printable.{AreGoodForms, IsGoodForm}
use Rattle.source_grammar.specs.Source.{AreAssumes, AreInputs, AreMoreExamples, AreMoreOutputs, AreOutputs, AreShallow, AreSizes, IsAssume, IsExample}
use Rattle.source_grammar.specs.Source.{IsExtentOf, IsHeader, IsInputLine, IsOutputLine, IsSizeLine, IsSource, bound, bound_if, declared, input_names}
use Rattle.source_grammar.specs.Source.{most_lines, output_names, same_name, size_names, version_text, version_value, with_all}
use Rattle.atl_printer.specs.Canonical.{assume_tokens, example_of_tokens, example_tokens, extent_tokens, header_tokens, input_tokens, lines, module_tokens}
use Rattle.atl_printer.specs.Canonical.{more_example_tokens, name_of, output_tokens, size_tokens, sizes_tokens}
use Rattle.atl_printer.specs.PrintableModule.{AllNew, AreBounded, AreExtents, AreGoodInputs, AreGoodOutputs, HasOutputs, IsExampleFor, IsPrintableModule}
use Rattle.atl_printer.proofs.ConditionSays.{cond-says}
use Rattle.atl_printer.proofs.Declared.{AllApart, Each, apart_front, each_at, new_apart, new_plain, plain_is, sizes_mean, tensors_mean}
use Rattle.atl_printer.proofs.FormSays.{form-says}
use Rattle.atl_printer.proofs.IndexSays.{number_decimal}
use Rattle.reader_laws.proofs.Says.{Says, says_both, says_end, says_link, says_nothing, says_stop, says_then, says_word}
use Rattle.atl_printer.proofs.Scopes.{IsPlain, Named, bytes_same}
use Rattle.atl_printer.proofs.TermSays.{term-says}

-- ---- items, each after a word of one kind

module _ {A B C : Type 0} (kd : Kind) (add : A → B → A) (rule : A → List Word → B → Type 0) (text : Text) (tok : C → List Token) (val : C → B) where
  abbrev total : A → List C → A
  total left [] = left
  total left (c ∷ cs) = total (add left (val c)) cs

  -- the tokens of each item stand for it, after those before it
  abbrev Steps : A → List C → Type 0
  Steps left [] = Unit {0}
  Steps left (c ∷ cs) = Says (rule left) (tok c) (val c) × Steps (add left (val c)) cs

  says_repeated : (n : ℕ) (left : A) (cs : List C) → length cs ≤ n → Steps left cs
      → Says (IsRepeated kd add rule n left) (lines (record { kind = kd; text = text }) tok cs) (total left cs)
  unfolding signed
  says_repeated n left [] h p = says_stop _ _ n left
  says_repeated zero left (c ∷ cs) h p = absurd (omega (arith, h))
  says_repeated (suc n) left (c ∷ cs) h p =
      says_link (signed kd add) (λ m x o. rule x) n left (record { kind = kd; text = text }) tt (tok c) (val c) (add left (val c))
      (lines (record { kind = kd; text = text }) tok cs) (total (add left (val c)) cs)
      (ap (λ b. if b then Some tt else None) (same_self kd)) (omega arith) p.0 refl (says_repeated n (add left (val c)) cs (omega (arith, h)) p.1)

-- ---- single words

bound-says : (n : ℕ) → n ≤ 2 ^ 40 → bound (decimal n) ≡ Ok n
bound-says n h = ap bound_if (number_decimal n (omega (arith, h))) ∙ (λ j. if below n h j then Ok n else Err NumberTooLarge)
  where
    below : (n : ℕ) → n ≤ 2 ^ 40 → nat_le n (2 ^ 40) ≡ true
    below n h = grind arith

same-says : (t : Text) → same_name t t ≡ Ok tt
same-says t = λ j. if bytes_same t j then Ok tt else Err BadSyntax

version-says : (n : ℕ) → version_value n (version_text n) ≡ Ok tt
version-says n = λ j. if bytes_same (version_text n) j then Ok tt else Err BadSyntax

-- ---- names

names_append : {A : Type 0} (f : A → Text) (xs ys : List A) → map f (xs ++ ys) ≡ map f xs ++ map f ys
names_append f [] ys = refl
names_append f (x ∷ xs) ys = ap (λ r. f x ∷ r) (names_append f xs ys)

-- the names before some of them, and after
new_front : (seen xs ys : List Text) → AllNew seen (xs ++ ys) → AllNew seen xs × AllNew (seen ++ xs) ys
new_front seen [] ys h = (tt, subst (λ zs. AllNew zs ys) (append_nothing seen) h)
  where
    append_nothing : (xs : List Text) → xs ≡ xs ++ []
    append_nothing [] = refl
    append_nothing (x ∷ xs) = ap (λ r. x ∷ r) (append_nothing xs)
new_front seen (x ∷ xs) ys h =
    let r = new_front (seen ++ x ∷ []) xs ys h.1 in
    ((h.0, r.0), subst (λ zs. AllNew zs ys) (append_assoc seen (x ∷ []) xs) r.1)

append-none : {A : Type 0} (xs : List A) → xs ++ [] ≡ xs
append-none [] = refl
append-none (x ∷ xs) = ap (λ r. x ∷ r) (append-none xs)

-- ---- sizes

sizes-steps : (left ds : List SizeDecl) → AllNew (size_names left) (size_names ds) → AreBounded ds
    → Steps k.Size with_last IsSizeLine (keyword k.Size).text size_tokens (λ d. d) left ds
sizes-steps left [] h b = tt
sizes-steps left (d ∷ ds) h b = (
  says_then d.name h.0 (says_then tt refl (says_then d.low (bound-says d.low b.0.0)
      (says_then tt refl (says_then d.high (bound-says d.high b.0.1) (says_then tt refl says_nothing))))),
  sizes-steps (left ++ d ∷ []) ds (subst (λ ns. AllNew ns (size_names ds)) (sym (names_append (λ (e : SizeDecl). e.name) left (d ∷ []))) h.1) b.1,
)

total-last : {A : Type 0} (kd : Kind) (rule : List A → List Word → A → Type 0) (text : Text) (tok : A → List Token) (left ds : List A)
    → total kd with_last rule text tok (λ d. d) left ds ≡ left ++ ds
total-last kd rule text tok left [] = sym (append-none left)
total-last kd rule text tok left (d ∷ ds) = total-last kd rule text tok (left ++ d ∷ []) ds ∙ append_assoc left (d ∷ []) ds

sizes-say : (ds : List SizeDecl) → AllNew [] (size_names ds) → AreBounded ds → length ds ≤ 2 ^ 63 → Says AreSizes (sizes_tokens ds) ds
unfolding most_lines
sizes-say ds h b few =
    subst (λ (x : List SizeDecl). Says AreSizes (sizes_tokens ds) x) (total-last k.Size IsSizeLine (keyword k.Size).text size_tokens [] ds)
    (says_repeated k.Size with_last IsSizeLine (keyword k.Size).text size_tokens (λ d. d) most_lines [] ds (omega (arith, few)) (sizes-steps [] ds h b))

-- ---- the example

more-examples : (ds : List SizeDecl) (ns left : List ℕ) → IsExampleFor ds ns → Says (AreMoreExamples ds left) (more_example_tokens ds ns) (left ++ ns)
more-examples [] [] left h = subst (λ (x : List ℕ). Says (AreMoreExamples [] left) (sign k.Semi ∷ []) x) (sym (append-none left))
    (says_then tt refl says_nothing)
more-examples [] (n ∷ ns) left h = absurd h
more-examples (d ∷ ds) [] left h = absurd h
more-examples (d ∷ ds) (n ∷ ns) left h =
    subst (λ (x : List ℕ). Says (AreMoreExamples (d ∷ ds) left) (more_example_tokens (d ∷ ds) (n ∷ ns)) x) (append_assoc left (n ∷ []) ns)
    (says_then tt refl (says_both (example_of_tokens d n) (more_example_tokens ds ns) n
    (says_then tt (same-says d.name) (says_then tt refl (says_word (bound-says n h.0)))) (more-examples ds ns (left ++ n ∷ []) h.1)))

example-says : (ds : List SizeDecl) (ns : List ℕ) → IsExampleFor ds ns → Says (IsExample ds) (example_tokens ds ns) ns
example-says [] [] h = says_nothing
example-says [] (n ∷ ns) h = absurd h
example-says (d ∷ ds) [] h = absurd h
example-says (d ∷ ds) (n ∷ ns) h =
    says_then tt refl (says_both (example_of_tokens d n) (more_example_tokens ds ns) n
    (says_then tt (same-says d.name) (says_then tt refl (says_word (bound-says n h.0)))) (more-examples ds ns (n ∷ []) h.1))

module _ (sizes : List SizeDecl) (input_text : ℕ → Text) (apart : AllApart (size_names sizes)) where
  abbrev size_text : ℕ → Text
  size_text = name_of (size_names sizes)

  -- ---- forms over sizes

  count_names : {A : Type 0} (f : A → Text) (xs : List A) → length (map f xs) ≡ length xs
  count_names f [] = refl
  count_names f (x ∷ xs) = ap suc (count_names f xs)

  none_below : (v : ℕ) → v < 0 → ⊥
  none_below v h = omega (arith, h)

  form-say : (x : Aff) (l : ℕ) → IsGoodForm (length sizes) 0 x → 513 ≤ l
      → Says (IsIndex (extent_name (declared sizes [])) l Sum) (form_tokens size_text input_text 0 x) x
  form-say x l g r =
      form-says (extent_name (declared sizes [])) size_text var_text 0 (length sizes)
      (λ s q. ap (if_known size_form_of) (sizes_mean (size_names sizes) [] s apart (omega (arith, q, count_names (λ (d : SizeDecl). d.name) sizes))))
      (λ v q. absurd (none_below v q)) x l g.0 g.1 r

  -- ---- assumes

  abbrev of_cmp : Cmp → Cond
  of_cmp c = record { all = c ∷ [] }

  assumes-steps : (left cs : List Cmp) → AreGoodForms (length sizes) 0 cs
      → Steps k.Assume with_all (λ _. IsAssume sizes) (keyword k.Assume).text (assume_tokens size_text input_text) of_cmp left cs
  assumes-steps left [] g = tt
  assumes-steps left (c ∷ cs) g =
      let own = cond-says size_text input_text (extent_name (declared sizes [])) 1000 0 (of_cmp c) (omega arith) (omega arith)
      ((g.0.0, form-say (cmp_form c) 1000 g.0 (omega arith)), tt) in
      let plain = subst (λ (ts : List Token). Says (Rattle.source_grammar.specs.Conditions.IsCondition (extent_name (declared sizes [])) 1000) ts (of_cmp c))
      (append-none (cmp_tokens size_text input_text 0 c)) own in (
        says_both (cmp_tokens size_text input_text 0 c) (sign k.Semi ∷ []) (of_cmp c) plain (says_then tt refl says_nothing),
        assumes-steps
            (left ++ c ∷ []) cs g.1,
      )

  total-all : (left cs : List Cmp) → total k.Assume with_all (λ _. IsAssume sizes) (keyword k.Assume).text
      (assume_tokens size_text input_text) of_cmp left cs ≡ left ++ cs
  total-all left [] = sym (append-none left)
  total-all left (c ∷ cs) = total-all (left ++ c ∷ []) cs ∙ append_assoc left (c ∷ []) cs

  assumes-say : (cs : List Cmp) → AreGoodForms (length sizes) 0 cs → length cs ≤ 2 ^ 63
      → Says (AreAssumes sizes) (lines (keyword k.Assume) (assume_tokens size_text input_text) cs) cs
  unfolding most_lines
  assumes-say cs g few =
      subst (λ (x : List Cmp). Says (AreAssumes sizes) (lines (keyword k.Assume) (assume_tokens size_text input_text) cs) x) (total-all [] cs)
      (says_repeated k.Assume with_all (λ _. IsAssume sizes) (keyword k.Assume).text (assume_tokens size_text input_text) of_cmp most_lines [] cs
      (omega (arith, few)) (assumes-steps [] cs g))

  -- ---- inputs

  extents-steps : (left xs : List Aff) → AreExtents (length sizes) xs
      → Steps k.LBracket with_last (λ _. IsExtentOf sizes) (sign k.LBracket).text (extent_tokens size_text input_text) (λ x. x) left xs
  extents-steps left [] g = tt
  extents-steps left (x ∷ xs) g = (
    says_both (form_tokens size_text input_text 0 x) (sign k.RBracket ∷ []) x (form-say x 999 g.0 (omega arith))
        (says_then tt refl says_nothing),
    extents-steps (left ++ x ∷ []) xs g.1,
  )

  extents-say : (xs : List Aff) → AreExtents (length sizes) xs → length xs ≤ 2 ^ 63
      → Says (IsRepeated k.LBracket with_last (λ _. IsExtentOf sizes) most_lines []) (lines (sign k.LBracket) (extent_tokens size_text input_text) xs) xs
  unfolding most_lines
  extents-say xs g few =
      subst (λ (x : List Aff). Says (IsRepeated k.LBracket with_last (λ _. IsExtentOf sizes) most_lines [])
      (lines (sign k.LBracket) (extent_tokens size_text input_text) xs) x)
      (total-last k.LBracket (λ _. IsExtentOf sizes) (sign k.LBracket).text (extent_tokens size_text input_text) [] xs)
      (says_repeated k.LBracket with_last (λ _. IsExtentOf sizes) (sign k.LBracket).text (extent_tokens size_text input_text) (λ x. x) most_lines [] xs
      (omega (arith, few)) (extents-steps [] xs g))

  inputs-steps : (left ds : List InputDecl) → AllNew (size_names sizes ++ input_names left) (input_names ds) → AreGoodInputs (length sizes) ds
      → Steps k.Input with_last (IsInputLine sizes) (keyword k.Input).text (input_tokens size_text input_text) (λ d. d) left ds
  inputs-steps left [] h g = tt
  inputs-steps left (d ∷ ds) h g =
      let names : (size_names sizes ++ input_names left) ++ d.name ∷ [] ≡ size_names sizes ++ input_names (left ++ d ∷ []) =
      append_assoc (size_names sizes) (input_names left) (d.name ∷ [])
      ∙ ap (λ ns. size_names sizes ++ ns) (sym (names_append (λ (e : InputDecl). e.name) left (d ∷ []))) in (
        says_then d.name h.0 (says_both (lines (sign k.LBracket) (extent_tokens size_text input_text) d.extents) (sign k.Semi ∷ []) d.extents
            (extents-say d.extents g.0.1 g.0.0) (says_then tt refl says_nothing)),
        inputs-steps (left ++ d ∷ []) ds (subst (λ ns. AllNew ns (input_names ds)) names h.1) g.1,
      )

  inputs-say : (ds : List InputDecl) → AllNew (size_names sizes ++ []) (input_names ds) → AreGoodInputs (length sizes) ds → length ds ≤ 2 ^ 63
      → Says (AreInputs sizes) (lines (keyword k.Input) (input_tokens size_text input_text) ds) ds
  unfolding most_lines
  inputs-say ds h g few =
      subst (λ (x : List InputDecl). Says (AreInputs sizes) (lines (keyword k.Input) (input_tokens size_text input_text) ds) x)
      (total-last k.Input (IsInputLine sizes) (keyword k.Input).text (input_tokens size_text input_text) [] ds)
      (says_repeated k.Input with_last (IsInputLine sizes) (keyword k.Input).text (input_tokens size_text input_text) (λ d. d) most_lines [] ds
      (omega (arith, few)) (inputs-steps [] ds h g))

module _ (sizes : List SizeDecl) (inputs : List InputDecl) (fresh : AllNew [] (size_names sizes ++ input_names inputs)) where
  abbrev size_name : ℕ → Text
  size_name = name_of (size_names sizes)

  abbrev input_name : ℕ → Text
  input_name = name_of (input_names inputs)

  how_many : {A : Type 0} (f : A → Text) (xs : List A) → length (map f xs) ≡ length xs
  how_many f [] = refl
  how_many f (x ∷ xs) = ap suc (how_many f xs)

  each_split : (P : Text → Type 0) (xs ys : List Text) → Each P (xs ++ ys) → Each P xs × Each P ys
  each_split P [] ys h = (tt, h)
  each_split P (x ∷ xs) ys h = let r = each_split P xs ys h.1 in ((h.0, r.0), r.1)

  all_plain : (s : ℕ) → s < length sizes → IsPlain (size_name s)
  all_plain s l = plain_is (size_name s) (each_at _ (size_names sizes) s
      (each_split _ (size_names sizes) (input_names inputs) (new_plain [] (size_names sizes ++ input_names inputs) fresh)).0
      (omega (arith, l, how_many (λ (d : SizeDecl). d.name) sizes)))

  all_plain_inputs : (q : ℕ) → q < length inputs → IsPlain (input_name q)
  all_plain_inputs q l = plain_is (input_name q) (each_at _ (input_names inputs) q
      (each_split _ (size_names sizes) (input_names inputs) (new_plain [] (size_names sizes ++ input_names inputs) fresh)).1
      (omega (arith, l, how_many (λ (d : InputDecl). d.name) inputs)))

  -- where no variable is bound, each name means what it stands for
  start : Named size_name input_name (length sizes) (length inputs) all_plain all_plain_inputs (declared sizes inputs) 0 0
  start =
      let parts = apart_front (size_names sizes) (input_names inputs) (new_apart [] (size_names sizes ++ input_names inputs) fresh) in
      record {
        size_is = λ s l. sizes_mean (size_names sizes) (input_names inputs) s parts.0 (omega (arith, l, how_many (λ (d : SizeDecl). d.name) sizes));
        var_is = λ v l. absurd (nothing v l);
        tensor_is = λ q l. (λ j. meaning (declared sizes inputs) (if none_less q j then let_text (0 - 1 - q) else input_name (same q j)))
            ∙ tensors_mean (size_names sizes) (input_names inputs) q parts.1 parts.2 (omega (arith, l, how_many (λ (d : InputDecl). d.name) inputs));
      }
    where
      nothing : (v : ℕ) → v < 0 → ⊥
      nothing v h = omega (arith, h)

      same : (q : ℕ) → q - 0 ≡ q
      same q = omega arith

      none_less : (q : ℕ) → nat_lt q 0 ≡ false
      none_less q = grind arith

  outputs-steps : (left ds : List OutputDecl) → AllNew (size_names sizes ++ (input_names inputs ++ output_names left)) (output_names ds)
      → AreGoodOutputs (length sizes) (length inputs) ds → AreShallow ds
      → Steps k.Output with_last (IsOutputLine sizes inputs) (keyword k.Output).text (output_tokens size_name input_name) (λ d. d) left ds
  outputs-steps left [] h g s = tt
  outputs-steps left (d ∷ ds) h g s =
      let names : (size_names sizes ++ (input_names inputs ++ output_names left)) ++ d.name ∷ [] ≡ size_names sizes
      ++ (input_names inputs ++ output_names (left ++ d ∷ [])) =
      append_assoc (size_names sizes) (input_names inputs ++ output_names left) (d.name ∷ [])
      ∙ ap (λ ns. size_names sizes ++ ns) (append_assoc (input_names inputs) (output_names left) (d.name ∷ [])
      ∙ ap (λ ns. input_names inputs ++ ns) (sym (names_append (λ (e : OutputDecl). e.name) left (d ∷ [])))) in
      let own = term-says size_name input_name (length sizes) (length inputs) all_plain all_plain_inputs d.term (declared sizes inputs) start g.0 s.0 1000
      (omega arith) in (
        says_then d.name h.0 (says_then tt refl (says_both (term_tokens size_name input_name d.term Whole 0 0) (sign k.Semi ∷ []) d.term own
            (says_then tt refl says_nothing))),
        outputs-steps (left ++ d ∷ []) ds (subst (λ ns. AllNew ns (output_names ds)) names h.1) g.1 s.1,
      )

  -- the outputs after the first one
  more-outputs : (b : Bool) (version : ℕ) (d : OutputDecl) (ds : List OutputDecl) → (version == 1) ≡ b → HasOutputs version (d ∷ ds) → length ds ≤ 2 ^ 63
      → Steps k.Output with_last (IsOutputLine sizes inputs) (keyword k.Output).text (output_tokens size_name input_name) (λ e. e) (d ∷ []) ds
      → Says (AreMoreOutputs b sizes inputs (d ∷ [])) (lines (keyword k.Output) (output_tokens size_name input_name) ds) (d ∷ ds)
  unfolding most_lines
  more-outputs true version d [] e o few p = says_nothing
  more-outputs true version d (x ∷ xs) e o few p = absurd (omega (arith, eqb-true version 1 e, o))
  more-outputs false version d ds e o few p =
      subst (λ (x : List OutputDecl). Says (AreMoreOutputs false sizes inputs (d ∷ [])) (lines (keyword k.Output) (output_tokens size_name input_name) ds) x)
      (total-last k.Output (IsOutputLine sizes inputs) (keyword k.Output).text (output_tokens size_name input_name) (d ∷ []) ds)
      (says_repeated k.Output with_last (IsOutputLine sizes inputs) (keyword k.Output).text (output_tokens size_name input_name) (λ e. e) most_lines (d ∷ []) ds
      (omega (arith, few)) p)

  outputs-say : (version : ℕ) (ds : List OutputDecl) → HasOutputs version ds → AllNew (size_names sizes ++ (input_names inputs ++ [])) (output_names ds)
      → AreGoodOutputs (length sizes) (length inputs) ds → AreShallow ds → length ds ≤ 2 ^ 63
      → Says (AreOutputs version sizes inputs) (lines (keyword k.Output) (output_tokens size_name input_name) ds) ds
  outputs-say version [] o h g s few = absurd o
  outputs-say version (d ∷ ds) o h g s few =
      let steps = outputs-steps [] (d ∷ ds) h g s in
      says_then tt refl
      (says_both (output_tokens size_name input_name d) (lines (keyword k.Output) (output_tokens size_name input_name) ds) d steps.0
      (more-outputs (version == 1) version d ds refl o (omega (arith, few)) steps.1))

header-says : (n : ℕ) → Says (IsHeader n) (header_tokens n) tt
header-says n = says_then tt refl (says_then tt (version-says n) (says_word refl))

-- the tokens of a module stand for it
pub module-says : (m : Module) → IsPrintableModule m → Says (IsSource m.version) (module_tokens m) m
module-says m p =
    let size_text : ℕ → Text = name_of (size_names m.sizes) in
    let input_text : ℕ → Text = name_of (input_names m.inputs) in
    let some = new_front [] (size_names m.sizes) (input_names m.inputs ++ output_names m.outputs) p.names in
    let more = new_front (size_names m.sizes) (input_names m.inputs) (output_names m.outputs) some.1 in
    let both : AllNew [] (size_names m.sizes ++ input_names m.inputs) =
    (new_front [] (size_names m.sizes ++ input_names m.inputs) (output_names m.outputs)
    (subst (AllNew []) (sym (append_assoc (size_names m.sizes) (input_names m.inputs) (output_names m.outputs))) p.names)).0 in
    let apart = new_apart [] (size_names m.sizes) some.0 in
    let for_inputs = subst (λ ns. AllNew ns (input_names m.inputs)) (sym (append-none (size_names m.sizes))) more.0 in
    let for_outputs = subst (λ ns. AllNew (size_names m.sizes ++ ns) (output_names m.outputs)) (sym (append-none (input_names m.inputs))) more.1 in
    let outputs = lines (keyword k.Output) (output_tokens size_text input_text) m.outputs in
    let inputs = lines (keyword k.Input) (input_tokens size_text input_text) m.inputs in
    let examples = example_tokens m.sizes m.example in
    let assumes = lines (keyword k.Assume) (assume_tokens size_text input_text) m.assumes in
    says_both (header_tokens m.version) (sizes_tokens m.sizes ++ (assumes ++ (examples ++ (inputs ++ outputs)))) tt (header-says m.version)
    (says_both (sizes_tokens m.sizes) (assumes ++ (examples ++ (inputs ++ outputs))) m.sizes (sizes-say m.sizes some.0 p.bounds p.few_sizes)
    (says_both assumes (examples ++ (inputs ++ outputs)) m.assumes (assumes-say m.sizes input_text apart m.assumes p.assumes p.few_assumes)
    (says_both examples (inputs ++ outputs) m.example (example-says m.sizes m.example p.example)
    (says_both inputs outputs m.inputs (inputs-say m.sizes input_text apart m.inputs for_inputs p.inputs p.few_inputs)
    (says_end outputs m.outputs (outputs-say m.sizes m.inputs both m.version m.outputs p.has_outputs for_outputs p.outputs p.shallow p.few_outputs)
    says_nothing)))))
