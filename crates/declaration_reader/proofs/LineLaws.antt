-- The names that lines see, beside those that code keeps.
use Rattle.std.proofs.Common.{◌≡◌, ℕ, ◌+◌, ◌≤◌, List, [], ◌∷◌, ◌++◌, length, map, take, drop, refl, sym, ap, ◌∙◌, arith, length-drop}
use Rattle.std.proofs.lemmas.List.{drop-append-le, take-append-le}
use Rattle.std.proofs.Math.Seq.{take-append_seam, drop-append_seam, take-length}
use Rattle.text_tokens.specs.Kinds.{Text}
use Rattle.text_tokens.specs.Words.{Input}
use Rattle.term_tree.specs.declared.term.SizeDecl.{SizeDecl}
use Rattle.term_tree.specs.declared.term.InputDecl.{InputDecl}
use Rattle.term_tree.specs.declared.term.OutputDecl.{OutputDecl}
use Rattle.source_grammar.specs.declared.sort.Sort.TheVariants.{OfSize, OfTensor}
use Rattle.source_grammar.specs.ReadSource as spec
use Rattle.source_grammar.specs.Scope.{Entry}
use Rattle.source_grammar.specs.Source.{declared, entries, input_names, most_lines, output_names, size_names}
use Rattle.term_reader.specs.Frames.{outermost}
use Rattle.declaration_reader.specs.Steps as steps

pub lines : most_lines ≡ 9223372036854775808
unfolding most_lines
lines = refl

pub size_line_is : (ds : List SizeDecl) (i : Input) → spec.size_line ds i ≡ steps.size_line (size_names ds) i
unfolding spec.size_line steps.size_line
size_line_is ds i = refl

pub all_taken : (names : List Text) (n : ℕ) → n ≡ length names → take n names ≡ names
all_taken names n e = ap (λ k. take k names) e ∙ take-length names

abbrev tensors : List Text → List Entry
tensors = entries (λ t. record { name = t; sort = OfTensor })

abbrev sizes_of : List Text → List Entry
sizes_of = entries (λ t. record { name = t; sort = OfSize })

-- names that are declared later change nothing
pub declared_stay : (names more : List Text) (sizes inputs : ℕ) → sizes + inputs ≤ length names
    → outermost (names ++ more) sizes inputs ≡ outermost names sizes inputs
declared_stay names more sizes inputs h =
    let left : length (drop sizes names) + sizes ≡ length names = drops sizes names (omega (arith, h)) in
    let first = take-append-le sizes names more (omega (arith, h)) in
    let second = drop-append-le sizes names more (omega (arith, h)) in
    let third = take-append-le inputs (drop sizes names) more (omega (arith, h, left)) in
    λ j. sizes_of (first j) ++ tensors ((ap (take inputs) second ∙ third) j)
  where
    drops : (n : ℕ) (xs : List Text) → n ≤ length xs → length (drop n xs) + n ≡ length xs
    drops n xs h = let e = length-drop n xs in omega (arith, e, h)

pub sizes_stay : (names : List Text) (t : Text) (sizes : ℕ) → sizes ≤ length names → outermost (names ++ t ∷ []) sizes 0 ≡ outermost names sizes 0
sizes_stay names t sizes h = declared_stay names (t ∷ []) sizes 0 (omega (arith, h))

-- ---- the scopes of a source

seam : (ss ts : List Text) → outermost (ss ++ ts) (length ss) (length ts) ≡ sizes_of ss ++ tensors ts
seam ss ts =
    let first = take-append_seam ss ts in
    let second = drop-append_seam ss ts in
    λ j. sizes_of (first j) ++ tensors ((ap (take (length ts)) second ∙ take-length ts) j)

none_taken : (names : List Text) → take 0 names ≡ []
none_taken [] = refl
none_taken (t ∷ ts) = refl

pub size_scope : (ds : List SizeDecl) → outermost (size_names ds) (length (size_names ds)) 0 ≡ declared ds []
size_scope ds =
    let first = take-length (size_names ds) in
    λ j. sizes_of (first j) ++ tensors (none_taken (drop (length (size_names ds)) (size_names ds)) j)

pub input_scope : (ds : List SizeDecl) (is : List InputDecl)
    → outermost (size_names ds ++ input_names is) (length (size_names ds)) (length (input_names is)) ≡ declared ds is
input_scope ds is = seam (size_names ds) (input_names is)

-- ---- one line more

last_named : {A : Type 0} (f : A → Text) (xs : List A) (x : A) → map f (xs ++ x ∷ []) ≡ map f xs ++ f x ∷ []
last_named f [] x = refl
last_named f (y ∷ xs) x = ap (λ ts. f y ∷ ts) (last_named f xs x)

pub sizes_named : (ds : List SizeDecl) (d : SizeDecl) → size_names (ds ++ d ∷ []) ≡ size_names ds ++ d.name ∷ []
sizes_named ds d = last_named (λ d. d.name) ds d

pub inputs_named : (ds : List InputDecl) (d : InputDecl) → input_names (ds ++ d ∷ []) ≡ input_names ds ++ d.name ∷ []
inputs_named ds d = last_named (λ d. d.name) ds d

pub outputs_named : (ds : List OutputDecl) (d : OutputDecl) → output_names (ds ++ d ∷ []) ≡ output_names ds ++ d.name ∷ []
outputs_named ds d = last_named (λ d. d.name) ds d

-- the line of an input, where the code keeps these names
pub input_line_is : (names kept : List Text) (sizes : ℕ) (is : List InputDecl) (i : Input) → sizes ≡ length names → kept ≡ names ++ input_names is
    → steps.input_behind names is i ≡ steps.input_line kept (outermost kept sizes 0) i
input_line_is names kept sizes is i e h =
    let scope : outermost kept sizes 0 ≡ outermost names (length names) 0 =
    ap (λ ns. outermost ns sizes 0) h ∙ declared_stay names (input_names is) sizes 0 (omega (arith, e)) ∙ ap (λ n. outermost names n 0) e in
    λ j. steps.input_line (sym h j) (sym scope j) i

-- the line of an output
pub output_line_is : (names kept base : List Text) (sizes inputs : ℕ) (os : List OutputDecl) (i : Input) → base ≡ take (sizes + inputs) names
    → sizes + inputs ≤ length base
    → kept ≡ base ++ output_names os → outermost base sizes inputs ≡ outermost names sizes inputs
    → steps.output_behind base (outermost names sizes inputs) os i ≡ steps.output_line kept (outermost kept sizes inputs) i
output_line_is names kept base sizes inputs os i b l h s =
    let scope : outermost kept sizes inputs ≡ outermost names sizes inputs = ap (λ ns. outermost ns sizes inputs) h
    ∙ declared_stay base (output_names os) sizes inputs l ∙ s in
    λ j. steps.output_line (sym h j) (sym scope j) i

-- names that were kept at the beginning
pub base_scope : (names rest : List Text) (sizes inputs : ℕ) → names ≡ take (sizes + inputs) names ++ rest
    → sizes + inputs ≤ length (take (sizes + inputs) names)
    → outermost (take (sizes + inputs) names) sizes inputs ≡ outermost names sizes inputs
base_scope names rest sizes inputs h l = sym (declared_stay (take (sizes + inputs) names) rest sizes inputs l) ∙ ap (λ ns. outermost ns sizes inputs) (sym h)

-- the names before the first output
pub before_first : (names : List Text) (t : Text) (n : ℕ) → n ≡ length names → take n (names ++ t ∷ []) ≡ names
before_first names t n e = take-append-le n names (t ∷ []) (omega (arith, e)) ∙ all_taken names n e
