-- The canonical text of a module is a text of that module.
use Rattle.std.proofs.Common.{◌≡◌, ◌⊎◌, ℕ, zero, suc, ◌+◌, ◌^◌, ◌<◌, ◌≤◌, inl, inr, List, [], ◌∷◌, ◌++◌, length, map, get_or, Bool, true, false, ◌&&◌, ◌==◌}
use Rattle.std.proofs.Common.{if◌then◌else◌, refl, sym, ap, subst, arith}
use Rattle.std.specs.Prelude.{codes}
use Rattle.std.proofs.lemmas.Str.{chars-IsAscii, IsUtf8-from_ascii}
use Rattle.text_tokens.specs.declared.kind.Kind.{Kind}
use Rattle.text_tokens.specs.declared.kind.Kind.TheVariants as k
use Rattle.text_tokens.specs.declared.kind.Language.{Language}
use Rattle.text_tokens.specs.declared.kind.Language.TheVariants.{SourceOne, SourceTwo}
use Rattle.text_tokens.specs.Kinds.{Text}
use Rattle.text_tokens.specs.Words.{words_of}
use Rattle.affine_index.specs.declared.aff.Aff.{Aff}
use Rattle.affine_index.specs.declared.cond.Cmp.{Cmp}
use Rattle.term_tree.specs.declared.term.SizeDecl.{SizeDecl}
use Rattle.term_tree.specs.declared.term.InputDecl.{InputDecl}
use Rattle.term_tree.specs.declared.term.OutputDecl.{OutputDecl}
use Rattle.term_tree.specs.declared.term.Module.{Module}
use Rattle.text_tokens.specs.Names.{AreNames, IsName}
use Rattle.atl_printer.specs.Printable.{HasNoWordOf, HaveNoWordOf, AreGoodForms, IsPrintable}
use Rattle.text_tokens.specs.Spelled.{Token, source_gap, name_token, sign, keyword}
use Rattle.source_grammar.specs.Terms.{Whole}
use Rattle.atl_printer.specs.TermTokens.{cmp_tokens, form_tokens, term_tokens}
use Rattle.source_grammar.specs.Source.{AreShallow, SourceText, input_names, language, output_names, size_names, version_text}
use Rattle.atl_printer.specs.Canonical.{ReadsBack, assume_tokens, canonical_module, example_of_tokens, example_tokens, extent_tokens, input_tokens, lines}
use Rattle.atl_printer.specs.Canonical.{module_tokens, more_example_tokens, name_of, output_tokens, size_tokens}
use Rattle.atl_printer.specs.PrintableModule.{AreBounded, AreExtents, AreGoodInputs, AreGoodOutputs, IsExampleFor, IsPrintableModule}
use Rattle.text_tokens.proofs.Lexed.{AreTokens, IsToken, ascii, may_grow, spelled_utf8, spelled_words}
use Rattle.atl_printer.proofs.ModuleSays.{module-says}
use Rattle.atl_printer.proofs.OneModule.{one_module}
use Rattle.text_tokens.proofs.Solid.{Follows, Linked, after_any, follows, follows_nil, linked-parted, linked-tokens, onto, solid_closed, source_blank}
use Rattle.atl_printer.proofs.TermSolid.{cmp_fine, form_fine, term_fine}
use Rattle.text_tokens.proofs.SourceWords.{IsSourceLanguage, keyword_token, name_is, number_is, sign_is, word_keyword}

names_front : (l : Language) (xs ys : List Text) → AreNames l (xs ++ ys) → AreNames l xs × AreNames l ys
names_front l [] ys h = (tt, h)
names_front l (x ∷ xs) ys h = let r = names_front l xs ys h.1 in ((h.0, r.0), r.1)

name_at : (l : Language) (ts : List Text) (n : ℕ) → AreNames l ts → n < length ts → IsName l (get_or ts n [])
name_at l [] n h q = absurd (omega (arith, q))
name_at l (t ∷ ts) zero h q = h.0
name_at l (t ∷ ts) (suc n) h q = name_at l ts n h.1 (omega (arith, q))

module _ (l : Language) (source : IsSourceLanguage l) where
  sign_token : IsToken l (sign k.Semi)
  sign_token = sign_is l source k.Semi refl refl

  follows_append : (xs ys : List Token) → Follows l xs → Follows l ys → Follows l (xs ++ ys)
  follows_append xs ys f g b h = onto l b xs ys (f b h) g

  -- a fact of each item
  abbrev EachLinked : {A : Type 0} → Kind → (A → List Token) → List A → Type 0
  EachLinked kd f [] = Unit {0}
  EachLinked kd f (x ∷ xs) = Linked l kd (f x) × EachLinked kd f xs

  lines_follow : {A : Type 0} (t : Token) (f : A → List Token) (xs : List A) → IsToken l t → EachLinked t.kind f xs → Follows l (lines t f xs)
  lines_follow t f [] is h = follows_nil l
  lines_follow t f (x ∷ xs) is h = follows l t (f x ++ lines t f xs) is (onto l t.kind (f x) (lines t f xs) h.0 (lines_follow t f xs is h.1))

  digit_token : (v : ℕ) → IsToken l (record { kind = k.Number; text = version_text v })
  digit_token v = by (v == 1)
    where
      by : (b : Bool) → IsToken l (record { kind = k.Number; text = if b then codes "1" else codes "2" })
      by true = record {
        utf8 = IsUtf8-from_ascii (49 ∷ []) (ascii (49 ∷ []) refl);
        spelling = inr
            (inl (record { first = 49; rest = []; characters = chars-IsAscii (49 ∷ []) (ascii (49 ∷ []) refl); digits = (refl, tt); kind_is = refl }));
      }
      by false = record {
        utf8 = IsUtf8-from_ascii (50 ∷ []) (ascii (50 ∷ []) refl);
        spelling = inr
            (inl (record { first = 50; rest = []; characters = chars-IsAscii (50 ∷ []) (ascii (50 ∷ []) refl); digits = (refl, tt); kind_is = refl }));
      }

  sizes_linked : (ds : List SizeDecl) → AreNames l (size_names ds) → AreBounded ds → EachLinked k.Size size_tokens ds
  sizes_linked [] h b = tt
  sizes_linked (d ∷ ds) h b = (
    (
      name_is l source d.name h.0,
      refl,
      (
        keyword_token l source k.In refl,
        refl,
        (
          number_is l source d.low (omega (arith, b.0.0)),
          refl,
          (
            sign_is l source k.DotDot refl refl,
            refl,
            (number_is l source d.high (omega (arith, b.0.1)), refl, (sign_token, refl, refl)),
          ),
        ),
      ),
    ),
    sizes_linked ds h.1 b.1,
  )

  example_linked : (kd : Kind) (d : SizeDecl) (n : ℕ) → (may_grow kd && false) ≡ false → IsName l d.name → n ≤ 2 ^ 40 → Linked l kd (example_of_tokens d n)
  example_linked kd d n e h b = (
    name_is l source d.name h,
    e,
    (sign_is l source k.Assign refl refl, refl, (number_is l source n (omega (arith, b)), refl, refl)),
  )

  more_follow : (ds : List SizeDecl) (ns : List ℕ) → AreNames l (size_names ds) → IsExampleFor ds ns → Follows l (more_example_tokens ds ns)
  more_follow [] [] h e = follows l (sign k.Semi) [] sign_token refl
  more_follow [] (n ∷ ns) h e = absurd e
  more_follow (d ∷ ds) [] h e = absurd e
  more_follow (d ∷ ds) (n ∷ ns) h e =
      follows l (sign k.Comma) (example_of_tokens d n ++ more_example_tokens ds ns) (sign_is l source k.Comma refl refl)
      (onto l k.Comma (example_of_tokens d n) (more_example_tokens ds ns) (example_linked k.Comma d n refl h.0 e.0) (more_follow ds ns h.1 e.1))

  example_follow : (ds : List SizeDecl) (ns : List ℕ) → AreNames l (size_names ds) → IsExampleFor ds ns → Follows l (example_tokens ds ns)
  example_follow [] [] h e = follows_nil l
  example_follow [] (n ∷ ns) h e = absurd e
  example_follow (d ∷ ds) [] h e = absurd e
  example_follow (d ∷ ds) (n ∷ ns) h e =
      follows l (keyword k.Example) (example_of_tokens d n ++ more_example_tokens ds ns) (keyword_token l source k.Example refl)
      (onto l k.Example (example_of_tokens d n) (more_example_tokens ds ns) (example_linked k.Example d n refl h.0 e.0) (more_follow ds ns h.1 e.1))

  module _ (size_text input_text : ℕ → Text) (sizes inputs : ℕ) (are_sizes : (s : ℕ) → s < sizes → IsToken l (name_token (size_text s)))
      (are_inputs : (q : ℕ) → q < inputs → IsToken l (name_token (input_text q))) where
    assumes_linked : (cs : List Cmp) → AreGoodForms sizes 0 cs → EachLinked k.Assume (assume_tokens size_text input_text) cs
    assumes_linked [] g = tt
    assumes_linked (c ∷ cs) g = (
      after_any l k.Assume (assume_tokens size_text input_text c) (solid_closed l source (cmp_tokens size_text input_text 0 c) (sign k.Semi)
          (cmp_fine l source size_text input_text sizes inputs are_sizes are_inputs 0 c (omega arith) g.0) sign_token refl),
      assumes_linked cs g.1,
    )

    extents_linked : (xs : List Aff) → AreExtents sizes xs → EachLinked k.LBracket (extent_tokens size_text input_text) xs
    extents_linked [] g = tt
    extents_linked (x ∷ xs) g = (
      after_any l k.LBracket (extent_tokens size_text input_text x)
          (solid_closed l source (form_tokens size_text input_text 0 x) (sign k.RBracket)
          (form_fine l source size_text input_text sizes inputs are_sizes are_inputs 0 x (omega arith) g.0) (sign_is l source k.RBracket refl refl) refl),
      extents_linked xs g.1,
    )

    inputs_linked : (ds : List InputDecl) → AreNames l (input_names ds) → AreGoodInputs sizes ds → EachLinked k.Input (input_tokens size_text input_text) ds
    inputs_linked [] h g = tt
    inputs_linked (d ∷ ds) h g =
        let extents = lines_follow (sign k.LBracket) (extent_tokens size_text input_text) d.extents (sign_is l source k.LBracket refl refl)
        (extents_linked d.extents g.0.1) in
        let rest = follows_append (lines (sign k.LBracket) (extent_tokens size_text input_text) d.extents) (sign k.Semi ∷ []) extents
        (follows l (sign k.Semi) [] sign_token refl) in
        ((name_is l source d.name h.0, refl, rest k.Name refl), inputs_linked ds h.1 g.1)

    abbrev WordsFit : List OutputDecl → Type 0
    WordsFit ds = IsToken l (keyword k.Word) ⊎ HaveNoWordOf ds

    first_words : (d : OutputDecl) (ds : List OutputDecl) → WordsFit (d ∷ ds) → (IsToken l (keyword k.Word) ⊎ HasNoWordOf d.term) × WordsFit ds
    first_words d ds (inl h) = (inl h, inl h)
    first_words d ds (inr h) = (inr h.0, inr h.1)

    zero_plus : (n : ℕ) → n ≡ 0 + n
    zero_plus n = omega arith

    outputs_linked : (ds : List OutputDecl) → AreNames l (output_names ds) → AreGoodOutputs sizes inputs ds → AreShallow ds → WordsFit ds
        → EachLinked k.Output (output_tokens size_text input_text) ds
    outputs_linked [] h g s w = tt
    outputs_linked (d ∷ ds) h g s w =
        let ws = first_words d ds w in
        let term = term_fine l source size_text input_text sizes inputs are_sizes are_inputs d.term Whole 0 0
        (subst (λ n. IsPrintable sizes d.term 0 n) (zero_plus inputs) g.0) (omega (arith, s.0)) ws.0 in (
          (
            name_is l source d.name h.0,
            refl,
            (
              sign_is l source k.Assign refl refl,
              refl,
              after_any l k.Assign (term_tokens size_text input_text d.term Whole 0 0 ++ (sign k.Semi ∷ []))
                  (solid_closed l source (term_tokens size_text input_text d.term Whole 0 0) (sign k.Semi) term sign_token refl),
            ),
          ),
          outputs_linked ds h.1 g.1 s.1 ws.1,
        )

source_is : (v : ℕ) → IsSourceLanguage (language v)
source_is v = by (v == 1)
  where
    by : (b : Bool) → IsSourceLanguage (if b then SourceOne else SourceTwo)
    by true = tt
    by false = tt

words_fit : (m : Module) → IsPrintableModule m → IsToken (language m.version) (keyword k.Word) ⊎ HaveNoWordOf m.outputs
words_fit m p = by p.version
  where
    by : ((m.version ≡ 1) ⊎ (m.version ≡ 2)) → IsToken (language m.version) (keyword k.Word) ⊎ HaveNoWordOf m.outputs
    by (inl e) = inr (p.words e)
    by (inr e) = inl (subst (λ v. IsToken (language v) (keyword k.Word)) (sym e) word_keyword)

how_many : {A : Type 0} (f : A → Text) (xs : List A) → length (map f xs) ≡ length xs
how_many f [] = refl
how_many f (x ∷ xs) = ap suc (how_many f xs)

-- the canonical text of a module is a text of that module
pub canonical-text : (m : Module) → IsPrintableModule m → SourceText (canonical_module m) m
canonical-text m p =
    let l = language m.version in
    let source = source_is m.version in
    let size_text : ℕ → Text = name_of (size_names m.sizes) in
    let input_text : ℕ → Text = name_of (input_names m.inputs) in
    let some = names_front l (size_names m.sizes) (input_names m.inputs ++ output_names m.outputs) p.are_names in
    let more = names_front l (input_names m.inputs) (output_names m.outputs) some.1 in
    let are_sizes : (s : ℕ) → s < length m.sizes → IsToken l (name_token (size_text s)) =
    λ s q. name_is l source (size_text s) (name_at l (size_names m.sizes) s some.0 (omega (arith, q, how_many (λ (d : SizeDecl). d.name) m.sizes))) in
    let are_inputs : (q : ℕ) → q < length m.inputs → IsToken l (name_token (input_text q)) =
    λ n q. name_is l source (input_text n) (name_at l (input_names m.inputs) n more.0 (omega (arith, q, how_many (λ (d : InputDecl). d.name) m.inputs))) in
    let outputs = lines (keyword k.Output) (output_tokens size_text input_text) m.outputs in
    let inputs = lines (keyword k.Input) (input_tokens size_text input_text) m.inputs in
    let examples = example_tokens m.sizes m.example in
    let assumes = lines (keyword k.Assume) (assume_tokens size_text input_text) m.assumes in
    let sizes = lines (keyword k.Size) size_tokens m.sizes in
    let f_outputs = lines_follow l source (keyword k.Output) (output_tokens size_text input_text) m.outputs (keyword_token l source k.Output refl)
    (outputs_linked l source size_text input_text (length m.sizes) (length m.inputs) are_sizes are_inputs m.outputs more.1 p.outputs p.shallow
    (words_fit m p)) in
    let f_inputs = lines_follow l source (keyword k.Input) (input_tokens size_text input_text) m.inputs (keyword_token l source k.Input refl)
    (inputs_linked l source size_text input_text (length m.sizes) (length m.inputs) are_sizes are_inputs m.inputs more.0 p.inputs) in
    let f_assumes = lines_follow l source (keyword k.Assume) (assume_tokens size_text input_text) m.assumes (keyword_token l source k.Assume refl)
    (assumes_linked l source size_text input_text (length m.sizes) (length m.inputs) are_sizes are_inputs m.assumes p.assumes) in
    let f_sizes = lines_follow l source (keyword k.Size) size_tokens m.sizes (keyword_token l source k.Size refl)
    (sizes_linked l source m.sizes some.0 p.bounds) in
    let rest : Follows l (sizes ++ (assumes ++ (examples ++ (inputs ++ outputs)))) =
    follows_append l source sizes (assumes ++ (examples ++ (inputs ++ outputs))) f_sizes
    (follows_append l source assumes (examples ++ (inputs ++ outputs)) f_assumes
    (follows_append l source examples (inputs ++ outputs) (example_follow l source m.sizes m.example some.0 p.example)
    (follows_append l source inputs outputs f_inputs f_outputs))) in
    let behind : List Token = record { kind = k.Number; text = version_text m.version } ∷ sign k.Semi
    ∷ (sizes ++ (assumes ++ (examples ++ (inputs ++ outputs)))) in
    let linked : Linked l k.Atl behind = (digit_token l source m.version, refl, (sign_token l source, refl, rest k.Semi refl)) in
    let are : AreTokens l (module_tokens m) = (keyword_token l source k.Atl refl, linked-tokens l k.Atl behind linked) in
    record {
      utf8 = spelled_utf8 l source_gap source_blank (module_tokens m) are;
      words = (module-says m p).says (words_of l (canonical_module m))
          (spelled_words l source_gap source_blank (module_tokens m) are (linked-parted l (keyword k.Atl) behind linked));
      version = p.version;
      shallow = p.shallow;
      few = p.few;
    }

-- and of no other
pub reads-back : (m : Module) → IsPrintableModule m → ReadsBack (canonical_module m) m
reads-back m p =
    let own = canonical-text m p in
    record { reads = own; only = λ other s. one_module (canonical_module m) other m s own }
