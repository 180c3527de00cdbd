-- A text has more bytes than its module has declarations.
use Rattle.std.proofs.Common.{◌≡◌, inl, inr, ℕ, zero, suc, ◌+◌, ◌-◌, ◌<◌, ◌≤◌, ◌==◌, not, Bool, true, false, cond, List, [], ◌∷◌, ◌++◌, length, Result, Ok}
use Rattle.std.proofs.Common.{sym}
use Rattle.std.proofs.Common.{ap, ◌∙◌, arith, length-append}
use Rattle.std.specs.Str.{IsUtf8, chars}
use Rattle.std.proofs.lemmas.Str.{encodes-chars, length-le-encodes}
use Rattle.text_tokens.specs.declared.kind.Kind.{Kind}
use Rattle.text_tokens.specs.declared.kind.Kind.TheVariants as k
use Rattle.text_tokens.specs.declared.kind.Language.{Language}
use Rattle.text_tokens.specs.Kinds.{Text}
use Rattle.text_tokens.specs.Lex.{is_blank, word}
use Rattle.text_tokens.specs.Words.{Word, first_word, words_from, words_of}
use Rattle.term_tree.specs.declared.term.SizeDecl.{SizeDecl}
use Rattle.term_tree.specs.declared.term.InputDecl.{InputDecl}
use Rattle.term_tree.specs.declared.term.OutputDecl.{OutputDecl}
use Rattle.term_tree.specs.declared.term.Module.{Module}
use Rattle.reader_laws.specs.declared.fault.Fault.{Fault}
use Rattle.reader_laws.specs.Chain.{signed}
use Rattle.reader_laws.specs.Grammar.{IsRepeated}
use Rattle.source_grammar.specs.Conditions.{with_last}
use Rattle.source_grammar.specs.Source.{AreMoreExamples, AreMoreOutputs, AreOutputs, IsExample, IsInputLine, IsOutputLine, IsSizeLine, IsSource, SourceText}
use Rattle.source_grammar.specs.Source.{language, most_lines}
use Rattle.atl_reader.specs.Source.{declarations}

-- ---- words

words_few : (language : Language) (end left : ℕ) (in_comment : Bool) (z : Text) → length (words_from language end left in_comment z) ≤ length z
unfolding words_from
words_few language end left in_comment [] = omega arith
words_few language end (suc left) in_comment (c ∷ z) = let h = words_few language end left in_comment z in omega (arith, h)
words_few language end zero true (c ∷ z) = let h = words_few language end zero (not (c == 10)) z in omega (arith, h)
words_few language end zero false (c ∷ z) =
    go (c == 35) (is_blank c) (words_few language end zero true z) (words_few language end zero false z)
    (words_few language end ((word language (c ∷ z)).1 - 1) false z)
  where
    go : (a b : Bool) → length (words_from language end zero true z) ≤ length z → length (words_from language end zero false z) ≤ length z
        → length (words_from language end ((word language (c ∷ z)).1 - 1) false z) ≤ length z
        → length (cond a (words_from language end zero true z)
        (cond b (words_from language end zero false z) (first_word language end (c ∷ z) ∷ words_from language end ((word language (c ∷ z)).1 - 1) false z)))
        ≤ length (c ∷ z)
    go true b p q r = omega (arith, p)
    go false true p q r = omega (arith, q)
    go false false p q r = omega (arith, r)

pub words_within : (language : Language) (z : Text) → IsUtf8 z → length (words_of language z) ≤ length z
words_within language z u =
    let a = words_few language (length z) zero false (chars z) in
    let b = length-le-encodes (chars z) in
    let c = ap length (encodes-chars z u) in
    omega (arith, a, b, c)

-- ---- declarations

-- each item takes a word
items_few : {B : Type 0} (a : Kind) (rule : List B → List Word → B → Type 0) (n : ℕ) (left : List B) (ws : List Word) (x : List B)
    → IsRepeated a with_last rule n left ws x → length x ≤ length left + length ws
unfolding signed
items_few a rule zero left ws x is = let e = ap length is.1 in omega (arith, e)
items_few a rule (suc n) left ws x (inl is) = let e = ap length is.1 in omega (arith, e)
items_few {B = B} a rule (suc n) left ws x (inr is) =
    let h = items_few a rule n is.value is.rest x is.is_rest in
    let value : is.value ≡ left ++ is.right ∷ [] = same (left ++ is.right ∷ []) is.value is.joins in
    let e = ap length value in
    let f = length-append left (is.right ∷ []) in
    let w = ap length is.words in
    let v = length-append is.front is.rest in
    omega (arith, h, e, f, w, v)
  where
    same : (y z : List B) → (let r : Result (List B) Fault = Ok y in r) ≡ Ok z → z ≡ y
    same y z h = cc

more_few : (one : Bool) (ds : List SizeDecl) (is : List InputDecl) (left : List OutputDecl) (ws : List Word) (os : List OutputDecl)
    → AreMoreOutputs one ds is left ws os → length os ≤ length left + length ws
more_few true ds is left ws os l = let e = ap length l.1 in omega (arith, e)
more_few false ds is left ws os l = items_few k.Output (IsOutputLine ds is) _ left ws os l

outputs_few : (version : ℕ) (ds : List SizeDecl) (is : List InputDecl) (ws : List Word) (os : List OutputDecl) → AreOutputs version ds is ws os
    → length os ≤ length ws
outputs_few version ds is ws os l =
    let d = l.is_then in
    let h = more_few (version == 1) ds is (d.value ∷ []) d.rest os d.is_then in
    let a = ap length l.words in
    let b = length-append l.front l.rest in
    let c = ap length d.words in
    let e = length-append d.front d.rest in
    let f = ap length l.is_first.words in
    omega (arith, h, a, b, c, e, f)

few : (version : ℕ) (ws : List Word) (m : Module) → IsSource version ws m → declarations m < length ws
few version ws m s =
    let a = s.is_then in
    let b = a.is_then in
    let c = b.is_then in
    let d = c.is_then in
    let e = d.is_then in
    let head = s.is_first.is_first in
    let sizes = items_few k.Size IsSizeLine most_lines [] a.front a.value a.is_first in
    let inputs = items_few k.Input (IsInputLine a.value) most_lines [] d.front d.value d.is_first in
    let outputs = outputs_few version a.value d.value e.front e.value e.is_first in
    let words = ap length s.words ∙ length-append s.front s.rest in
    let words_a = ap length a.words ∙ length-append a.front a.rest in
    let words_b = ap length b.words ∙ length-append b.front b.rest in
    let words_c = ap length c.words ∙ length-append c.front c.rest in
    let words_d = ap length d.words ∙ length-append d.front d.rest in
    let words_e = ap length e.words ∙ length-append e.front e.rest in
    let header = ap length s.is_first.words ∙ length-append s.is_first.front s.is_first.rest in
    let atl = ap length head.words in
    let same = ap declarations e.is_then.1 in
    omega (arith, sizes, inputs, outputs, words, words_a, words_b, words_c, words_d, words_e, header, atl, same)

pub declarations_few : (z : Text) (m : Module) → SourceText z m → declarations m < length z
declarations_few z m is =
    let a = few m.version (words_of (language m.version) z) m is.words in
    let b = words_within (language m.version) z is.utf8 in
    omega (arith, a, b)

-- ---- the example

more_examples_long : (ds : List SizeDecl) (numbers : List ℕ) (ws : List Word) (ns : List ℕ) → AreMoreExamples ds numbers ws ns
    → length ns ≡ length numbers + length ds
more_examples_long [] numbers ws ns is = let e = ap length is.is_then.1 in omega (arith, e)
more_examples_long (d ∷ ds) numbers ws ns is =
    let b = is.is_then in
    let h = more_examples_long ds (numbers ++ b.value ∷ []) b.rest ns b.is_then in
    let e = length-append numbers (b.value ∷ []) in
    omega (arith, h, e)

example_long : (ds : List SizeDecl) (ws : List Word) (ns : List ℕ) → IsExample ds ws ns → length ns ≡ length ds
example_long [] ws ns is = ap length is.1
example_long (d ∷ ds) ws ns is =
    let b = is.is_then in
    let h = more_examples_long ds (b.value ∷ []) b.rest ns b.is_then in
    omega (arith, h)

source_example : (version : ℕ) (ws : List Word) (m : Module) → IsSource version ws m → length m.example ≡ length m.sizes
source_example version ws m s =
    let a = s.is_then in
    let c = a.is_then.is_then in
    let made = c.is_then.is_then.is_then.1 in
    ap (λ (x : Module). length x.example) made ∙ example_long a.value c.front c.value c.is_first ∙ ap (λ (x : Module). length x.sizes) (sym made)

-- the example has one number for each size
pub example_whole : (z : Text) (m : Module) → SourceText z m → length m.example ≡ length m.sizes
example_whole z m is = source_example m.version (words_of (language m.version) z) m is.words
