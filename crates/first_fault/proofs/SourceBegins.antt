-- The words before the word of a source's fault are the beginning of a source whose terms may have one level more.
use Rattle.std.proofs.Common.{◌≡◌, ◌∷◌, ◌++◌, ◌+◌, ◌<◌, ◌==◌, ℕ, zero, suc, Bool, true, false, List, [], length, None, Ok}
use Rattle.std.proofs.Common.{refl, ap, arith}
use Rattle.std.specs.Str.{bytes_eq}
use Rattle.std.proofs.lemmas.Slice.Eq.{bytes_eq-Decides}
use Rattle.text_tokens.specs.declared.kind.Kind.TheVariants as k
use Rattle.text_tokens.specs.Kinds.{Text}
use Rattle.text_tokens.specs.Numbers.{number, value_from}
use Rattle.text_tokens.specs.Words.{Word}
use Rattle.term_tree.specs.declared.term.SizeDecl.{SizeDecl}
use Rattle.term_tree.specs.declared.term.InputDecl.{InputDecl}
use Rattle.term_tree.specs.declared.term.OutputDecl.{OutputDecl}
use Rattle.reader_laws.specs.Steps.{Parser, ◌>>=◌, pure, no_value, place_from}
use Rattle.reader_laws.specs.Chain.{repeated}
use Rattle.reader_laws.specs.Grammar.{IsWordOf, IsNothing, Both, IsRepeated}
use Rattle.reader_laws.specs.Levels.{word_in}
use Rattle.source_grammar.specs.Scope.{extent_name}
use Rattle.source_grammar.specs.Index.{IsIndex}
use Rattle.source_grammar.specs.Index.{Sum as index_sum}
use Rattle.source_grammar.specs.ReadIndex.{index}
use Rattle.source_grammar.specs.Conditions.{with_last, IsCondition}
use Rattle.source_grammar.specs.ReadConditions.{condition}
use Rattle.source_grammar.specs.Terms.{Whole, IsTerm}
use Rattle.source_grammar.specs.ReadTerms.{term}
use Rattle.source_grammar.specs.Source.{version_text, version_value, unless_found, is_reserved, new_name, same_name, bound, size_names, input_names}
use Rattle.source_grammar.specs.Source.{output_names, declared}
use Rattle.source_grammar.specs.Source.{most_lines, with_all, module_of, IsHeader, IsSizeLine, AreSizes, IsAssume, AreAssumes, IsExampleOf, AreMoreExamples}
use Rattle.source_grammar.specs.Source.{IsExample}
use Rattle.source_grammar.specs.Source.{IsExtentOf, IsInputLine, AreInputs, IsSource}
use Rattle.source_grammar.specs.Source as grammar
use Rattle.first_fault.proofs.Wider.{Wider, both_wider}
use Rattle.source_grammar.specs.ReadSource.{header, size_line, sizes, assume, assumes, example_of, more_examples, example, extent_of, input_line, inputs}
use Rattle.source_grammar.specs.ReadSource.{output_line, more_outputs, outputs, source}
use Rattle.first_fault.specs.Sources.{IsOutputLine, AreMoreOutputs, AreOutputs, IsSourceOf}
use Rattle.first_fault.proofs.ConditionBegins.{part_condition}
use Rattle.first_fault.proofs.Named.{extent_named}
use Rattle.first_fault.proofs.Parts.{Part, part_pure, part_both, part_made, part_word, part_after, part_repeated}
use Rattle.first_fault.proofs.TermBegins.{part_index, part_term}

-- ---- texts that single words may have

same_bytes : (t : Text) → bytes_eq t t ≡ true
same_bytes t = (bytes_eq-Decides t t).1 refl

same_read : (t : Text) → same_name t t ≡ Ok tt
same_read t = rw (same_bytes t) refl

version_read : (n : ℕ) → version_value n (version_text n) ≡ Ok tt
version_read n = rw (same_bytes (version_text n)) refl

bound_read : bound (48 ∷ []) ≡ Ok 0
unfolding number value_from
bound_read = refl

-- a name that is longer than all of these together
abbrev bytes_in : List Text → ℕ
bytes_in [] = 0
bytes_in (t ∷ ts) = length t + bytes_in ts

abbrev letters : ℕ → Text
letters zero = []
letters (suc n) = 97 ∷ letters n

letters_long : (n : ℕ) → length (letters n) ≡ n
letters_long zero = refl
letters_long (suc n) = ap suc (letters_long n)

abbrev fresh : List Text → Text
fresh names = letters (suc (bytes_in names))

longer_differs : (t u : Text) → length u < length t → bytes_eq t u ≡ false
longer_differs t u h = go (bytes_eq t u) refl
  where
    go : (b : Bool) → bytes_eq t u ≡ b → bytes_eq t u ≡ false
    go true e = absurd (let same = ap length ((bytes_eq-Decides t u).0 e) in omega (arith, h, same))
    go false e = e

not_there : (at : ℕ) (t : Text) (names : List Text) → bytes_in names < length t → place_from at t names ≡ None
not_there at t [] h = refl
not_there at t (u ∷ us) h =
    let differs = longer_differs t u (omega (arith, h)) in
    let rest = not_there (at + 1) t us (omega (arith, h)) in
    rw (differs, rest) refl

letters_free : (n : ℕ) → is_reserved (letters (suc n)) ≡ false
letters_free zero = refl
letters_free (suc n) = refl

fresh_read : (names : List Text) → new_name names (fresh names) ≡ Ok (fresh names)
fresh_read names =
    let free = letters_free (bytes_in names) in
    let long = letters_long (suc (bytes_in names)) in
    let none = not_there 0 (fresh names) names (omega (arith, long)) in
    rw (free, none) refl

-- ---- words of lines

after_name : {B : Type 0} (names : List Text) (f : Text → Parser B) (then : Text → List Word → B → Type 0) → ((t : Text) → Part (f t) (then t))
    → Part (word_in 1000 k.Name (new_name names) >>= f) (Both (IsWordOf k.Name (new_name names)) then)
after_name names f then l = part_both (word_in 1000 k.Name (new_name names)) f (IsWordOf k.Name (new_name names)) then
    (part_word 1000 k.Name (new_name names) (fresh names) (fresh names) (λ (z : k.Name ≡ k.End). cc) (fresh_read names)) l

a_bound : Part (word_in 1000 k.Number bound) (IsWordOf k.Number bound)
a_bound = part_word 1000 k.Number bound (48 ∷ []) 0 (λ (z : k.Number ≡ k.End). cc) bound_read

after_bound : {B : Type 0} (f : ℕ → Parser B) (then : ℕ → List Word → B → Type 0) → ((n : ℕ) → Part (f n) (then n))
    → Part (word_in 1000 k.Number bound >>= f) (Both (IsWordOf k.Number bound) then)
after_bound f then l = part_both (word_in 1000 k.Number bound) f (IsWordOf k.Number bound) then a_bound l

-- the semicolon of a line, and what the line makes
line_end : {A : Type 0} (x : A) → Part (word_in 1000 k.Semi no_value >>= λ _. pure x) (Both (IsWordOf k.Semi no_value) (λ _. IsNothing x))
line_end x = part_after 1000 k.Semi (pure x) (IsNothing x) (λ (z : k.Semi ≡ k.End). cc) (part_pure x)

-- ---- lines

part_header : (version : ℕ) → Part (header version) (IsHeader version)
unfolding header
part_header version = part_after 1000 k.Atl _ _ (λ (z : k.Atl ≡ k.End). cc)
    (part_both (word_in 1000 k.Number (version_value version)) _ (IsWordOf k.Number (version_value version)) _
    (part_word 1000 k.Number (version_value version) (version_text version) tt (λ (z : k.Number ≡ k.End). cc) (version_read version))
    (λ _. part_word 1000 k.Semi no_value [] tt (λ (z : k.Semi ≡ k.End). cc) refl))

part_size_line : (ds : List SizeDecl) → Part (size_line ds) (IsSizeLine ds)
unfolding size_line
part_size_line ds = after_name (size_names ds) _ _ (λ name. part_after 1000 k.In _ _ (λ (z : k.In ≡ k.End). cc)
    (after_bound _ _ (λ low. part_after 1000 k.DotDot _ _ (λ (z : k.DotDot ≡ k.End). cc) (after_bound _ _ (λ high. line_end _)))))

part_assume : (ds : List SizeDecl) → Part (assume ds) (IsAssume ds)
unfolding assume
part_assume ds = part_both (condition (extent_name (declared ds [])) 1000) _ (IsCondition (extent_name (declared ds [])) 1000) _
    (part_condition (extent_name (declared ds [])) (extent_named (declared ds [])) 1000) (λ c. line_end c)

part_example_of : (d : SizeDecl) → Part (example_of d) (IsExampleOf d)
unfolding example_of
part_example_of d = part_both (word_in 1000 k.Name (same_name d.name)) _ (IsWordOf k.Name (same_name d.name)) _
    (part_word 1000 k.Name (same_name d.name) d.name tt (λ (z : k.Name ≡ k.End). cc) (same_read d.name))
    (λ _. part_after 1000 k.Assign _ _ (λ (z : k.Assign ≡ k.End). cc) a_bound)

part_more_examples : (ds : List SizeDecl) (numbers : List ℕ) → Part (more_examples ds numbers) (AreMoreExamples ds numbers)
unfolding more_examples
part_more_examples [] numbers = line_end numbers
part_more_examples (d ∷ ds) numbers = part_after 1000 k.Comma _ _ (λ (z : k.Comma ≡ k.End). cc)
    (part_both (example_of d) _ (IsExampleOf d) _ (part_example_of d) (λ n. part_more_examples ds (with_last numbers n)))

part_example : (ds : List SizeDecl) → Part (example ds) (IsExample ds)
unfolding example
part_example [] = part_pure []
part_example (d ∷ ds) = part_after 1000 k.Example _ _ (λ (z : k.Example ≡ k.End). cc)
    (part_both (example_of d) _ (IsExampleOf d) _ (part_example_of d) (λ n. part_more_examples ds (n ∷ [])))

part_extent_of : (ds : List SizeDecl) → Part (extent_of ds) (IsExtentOf ds)
unfolding extent_of
part_extent_of ds = part_both (index (extent_name (declared ds [])) 999 index_sum) _ (IsIndex (extent_name (declared ds [])) 999 index_sum) _
    (part_index (extent_name (declared ds [])) (extent_named (declared ds [])) 999 999 (omega arith))
    (λ x. part_after 999 k.RBracket (pure x) (IsNothing x) (λ (z : k.RBracket ≡ k.End). cc) (part_pure x))

part_input_line : (ds : List SizeDecl) (is : List InputDecl) → Part (input_line ds is) (IsInputLine ds is)
unfolding input_line
part_input_line ds is = after_name (size_names ds ++ input_names is) _ _ (λ name.
    part_both (repeated k.LBracket with_last (λ _. extent_of ds) most_lines []) _ (IsRepeated k.LBracket with_last (λ _. IsExtentOf ds) most_lines []) _
    (part_repeated k.LBracket with_last (λ _. extent_of ds) (λ _. IsExtentOf ds) (λ (z : k.LBracket ≡ k.End). cc) (λ _. part_extent_of ds) most_lines [])
    (λ es. line_end _))

part_output_line : (ds : List SizeDecl) (is : List InputDecl) (os : List OutputDecl) → Part (output_line ds is os) (IsOutputLine 1001 ds is os)
unfolding output_line
part_output_line ds is os = after_name (size_names ds ++ (input_names is ++ output_names os)) _ _ (λ name.
    part_after 1000 k.Assign _ _ (λ (z : k.Assign ≡ k.End). cc)
    (part_both (term 1000 Whole (declared ds is)) _ (IsTerm 1001 Whole (declared ds is)) _ (part_term 1000 Whole (declared ds is)) (λ t. line_end _)))

part_more_outputs : (one : Bool) (ds : List SizeDecl) (is : List InputDecl) (os : List OutputDecl)
    → Part (more_outputs one ds is os) (AreMoreOutputs 1001 one ds is os)
part_more_outputs true ds is os = part_pure os
part_more_outputs false ds is os = part_repeated k.Output with_last (output_line ds is) (IsOutputLine 1001 ds is) (λ (z : k.Output ≡ k.End). cc)
    (part_output_line ds is) most_lines os

part_outputs : (version : ℕ) (ds : List SizeDecl) (is : List InputDecl) → Part (outputs version ds is) (AreOutputs 1001 version ds is)
unfolding outputs
part_outputs version ds is = part_after 1000 k.Output _ _ (λ (z : k.Output ≡ k.End). cc)
    (part_both (output_line ds is []) _ (IsOutputLine 1001 ds is []) _ (part_output_line ds is [])
    (λ o. part_more_outputs (version == 1) ds is (o ∷ [])))

-- The words before the word of a fault are the beginning of a source.
pub part_source : (version : ℕ) → Part (source version) (IsSourceOf 1001 version)
unfolding source
part_source version = part_both (header version) _ (IsHeader version) _ (part_header version) (λ _.
    part_both sizes _ AreSizes _ (part_repeated k.Size with_last size_line IsSizeLine (λ (z : k.Size ≡ k.End). cc) part_size_line most_lines []) (λ ds.
    part_both (assumes ds) _ (AreAssumes ds) _
    (part_repeated k.Assume with_all (λ _. assume ds) (λ _. IsAssume ds) (λ (z : k.Assume ≡ k.End). cc) (λ _. part_assume ds) most_lines []) (λ cs.
    part_both (example ds) _ (IsExample ds) _ (part_example ds) (λ ns.
    part_both (inputs ds) _ (AreInputs ds) _
    (part_repeated k.Input with_last (input_line ds) (IsInputLine ds) (λ (z : k.Input ≡ k.End). cc) (part_input_line ds) most_lines []) (λ is.
    part_made (outputs version ds is) (module_of version ds cs ns is) (AreOutputs 1001 version ds is) (part_outputs version ds is))))))

-- ---- 1,000 levels

same : {A : Type 0} (rule : List Word → A → Type 0) → Wider rule rule
same rule ws x is = is

to_outputs : (one : Bool) (ds : List SizeDecl) (is : List InputDecl) (os : List OutputDecl)
    → Wider (AreMoreOutputs 1000 one ds is os) (grammar.AreMoreOutputs one ds is os)
to_outputs true ds is os ws x h = h
to_outputs false ds is os ws x h = h

from_outputs : (one : Bool) (ds : List SizeDecl) (is : List InputDecl) (os : List OutputDecl)
    → Wider (grammar.AreMoreOutputs one ds is os) (AreMoreOutputs 1000 one ds is os)
from_outputs true ds is os ws x h = h
from_outputs false ds is os ws x h = h

pub to_source : (version : ℕ) → Wider (IsSourceOf 1000 version) (IsSource version)
to_source version = both_wider _ _ _ _ (same (IsHeader version)) (λ _. both_wider _ _ _ _ (same AreSizes) (λ ds. both_wider _ _ _ _ (same (AreAssumes ds))
    (λ cs. both_wider _ _ _ _ (same (IsExample ds)) (λ ns. both_wider _ _ _ _ (same (AreInputs ds)) (λ is.
    both_wider (AreOutputs 1000 version ds is) (grammar.AreOutputs version ds is) _ _
    (both_wider _ _ _ _ (same (IsWordOf k.Output no_value))
    (λ _. both_wider _ _ _ _ (same (IsOutputLine 1000 ds is [])) (λ d. to_outputs (version == 1) ds is (d ∷ []))))
    (λ os. same (IsNothing (module_of version ds cs ns is os))))))))

pub from_source : (version : ℕ) → Wider (IsSource version) (IsSourceOf 1000 version)
from_source version = both_wider _ _ _ _ (same (IsHeader version)) (λ _. both_wider _ _ _ _ (same AreSizes) (λ ds. both_wider _ _ _ _ (same (AreAssumes ds))
    (λ cs. both_wider _ _ _ _ (same (IsExample ds)) (λ ns. both_wider _ _ _ _ (same (AreInputs ds)) (λ is.
    both_wider (grammar.AreOutputs version ds is) (AreOutputs 1000 version ds is) _ _
    (both_wider _ _ _ _ (same (IsWordOf k.Output no_value))
    (λ _. both_wider _ _ _ _ (same (IsOutputLine 1000 ds is [])) (λ d. from_outputs (version == 1) ds is (d ∷ []))))
    (λ os. same (IsNothing (module_of version ds cs ns is os))))))))
