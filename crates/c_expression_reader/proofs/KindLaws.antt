-- What operators make of values, kind by kind.
use Rattle.std.proofs.Common.{◌≡◌, ℕ, zero, suc, ◌<◌, ℤ, pos, negsuc, ◌≤ℤ◌, List, Some, None, Result, Ok, Err, MatchResult, refl, sym, ap, ◌∙◌, arith}
use Rattle.std.proofs.lemmas.Int.{ints}
use Rattle.loop_lang.specs.declared.index.Iexp.{Iexp, Lit}
use Rattle.loop_lang.specs.declared.index.Test.{Test}
use Rattle.loop_lang.specs.declared.word.Wexp.{Wexp}
use Rattle.loop_lang.specs.declared.index.Iexp.TheVariants as index
use Rattle.loop_lang.specs.declared.word.Wexp.TheVariants as word
use Rattle.loop_lang.specs.Syntax.{index_sum, index_difference, index_product, index_quotient, index_remainder, index_larger}
use Rattle.loop_lang.specs.Syntax.{word_sum, word_difference, word_product, word_choice}
use Rattle.loop_lang.proofs.IndexForms as forms
use Rattle.loop_lang.proofs.WordForms as words
use Rattle.c_text.specs.Expression.{Value, OfIndex, OfWord, OfTests, Operator, Plus, Minus, Times, Over, Modulo, WrongKind, chosen, join}
use Rattle.reader_laws.specs.declared.fault.Fault.{Fault}
use Rattle.reader_laws.specs.declared.fault.ReadError.{ReadError}
use Rattle.reader_laws.specs.declared.fault.ReadError.TheVariants.{Memory}
use Rattle.reader_laws.specs.Steps.{Gives}
use Rattle.c_expression_reader.specs.declared.value.Value as code
use Rattle.c_expression_reader.specs.declared.value.Value.TheVariants as v
use Rattle.c_expression_reader.specs.Values.{divisor_of, placed, value_of}

pub divisor_some : (z : ℤ) (n : ℕ) → z ≡ pos n → 0 < n → divisor_of (Lit z) ≡ Some n
divisor_some (pos zero) n e h = absurd (omega (arith, ints))
divisor_some (pos (suc m)) n e h = cc
divisor_some (negsuc m) n e h = absurd cc

pub divisor_none : (z : ℤ) → z ≤ℤ pos 0 → divisor_of (Lit z) ≡ None
divisor_none (pos zero) h = refl
divisor_none (pos (suc m)) h = absurd (omega (arith, ints))
divisor_none (negsuc m) h = refl

pub over_some : (a b : Iexp) (n : ℕ) → divisor_of b ≡ Some n → join Over (OfIndex a) (OfIndex b) ≡ Ok (OfIndex (index_quotient a n))
over_some a (Lit (pos (suc m))) n h = cc
over_some a b n h = absurd cc

pub over_none : (a b : Iexp) → divisor_of b ≡ None → join Over (OfIndex a) (OfIndex b) ≡ Err WrongKind
over_none a (Lit (pos (suc m))) h = absurd cc
over_none a b h = refl

pub modulo_some : (a b : Iexp) (n : ℕ) → divisor_of b ≡ Some n → join Modulo (OfIndex a) (OfIndex b) ≡ Ok (OfIndex (index_remainder a n))
modulo_some a (Lit (pos (suc m))) n h = cc
modulo_some a b n h = absurd cc

pub modulo_none : (a b : Iexp) → divisor_of b ≡ None → join Modulo (OfIndex a) (OfIndex b) ≡ Err WrongKind
modulo_none a (Lit (pos (suc m))) h = absurd cc
modulo_none a b h = refl

pub index_word : (o : Operator) (a : Iexp) (w : Wexp) → join o (OfIndex a) (OfWord w) ≡ Err WrongKind
index_word Plus a w = refl
index_word Minus a w = refl
index_word Times a w = refl
index_word Over a w = refl
index_word Modulo a w = refl

pub index_tests : (o : Operator) (a : Iexp) (cs : List Test) → join o (OfIndex a) (OfTests cs) ≡ Err WrongKind
index_tests Plus a cs = refl
index_tests Minus a cs = refl
index_tests Times a cs = refl
index_tests Over a cs = refl
index_tests Modulo a cs = refl

pub word_index : (o : Operator) (w : Wexp) (a : Iexp) → join o (OfWord w) (OfIndex a) ≡ Err WrongKind
word_index Plus w a = refl
word_index Minus w a = refl
word_index Times w a = refl
word_index Over w a = refl
word_index Modulo w a = refl

pub word_tests : (o : Operator) (w : Wexp) (cs : List Test) → join o (OfWord w) (OfTests cs) ≡ Err WrongKind
word_tests Plus w cs = refl
word_tests Minus w cs = refl
word_tests Times w cs = refl
word_tests Over w cs = refl
word_tests Modulo w cs = refl

pub tests_any : (o : Operator) (cs : List Test) (v : Value) → join o (OfTests cs) v ≡ Err WrongKind
tests_any Plus cs v = refl
tests_any Minus cs v = refl
tests_any Times cs v = refl
tests_any Over cs v = refl
tests_any Modulo cs v = refl

-- ---- trees as code makes them

pub index_sum_is : (a b : Iexp) → index.Add a b ≡ index_sum a b
index_sum_is = forms.index_sum-is

pub index_difference_is : (a b : Iexp) → index.Sub a b ≡ index_difference a b
index_difference_is = forms.index_difference-is

pub index_product_is : (a b : Iexp) → index.Mul a b ≡ index_product a b
index_product_is = forms.index_product-is

pub index_larger_is : (a b : Iexp) → index.Larger a b ≡ index_larger a b
index_larger_is = forms.index_larger-is

pub index_quotient_is : (a : Iexp) (k : ℕ) → index.Div a k ≡ index_quotient a k
index_quotient_is = forms.index_quotient-is

pub index_remainder_is : (a : Iexp) (k : ℕ) → index.Rem a k ≡ index_remainder a k
index_remainder_is = forms.index_remainder-is

pub word_sum_is : (a b : Wexp) → word.Add a b ≡ word_sum a b
word_sum_is = words.word_sum-is

pub word_difference_is : (a b : Wexp) → word.Sub a b ≡ word_difference a b
word_difference_is = words.word_difference-is

pub word_product_is : (a b : Wexp) → word.Mul a b ≡ word_product a b
word_product_is = words.word_product-is

pub word_choice_is : (cs : List Test) (a b : Wexp) → word.Choose cs a b ≡ word_choice cs a b
word_choice_is = words.word_choice-is

-- ---- what is made, beside what an operator makes

pub made_gives : (r : Result code.Value ReadError) (due : Result Value Fault) (place : ℕ) (x : Value) → due ≡ Ok x
    → MatchResult r (λ v. value_of v ≡ x) (λ e. e ≡ Memory) → Gives value_of r (placed place due)
made_gives (Ok v) due place x e h = ap (λ (d : Result Value Fault). placed place d) e ∙ ap (λ (y : Value). let o : Result Value ReadError = Ok y in o) (sym h)
made_gives (Err f) due place x e h = λ no. absurd (no h)

pub quotient_made : (a b : Iexp) (n : ℕ) → divisor_of b ≡ Some n → join Over (OfIndex a) (OfIndex b) ≡ Ok (OfIndex (index.Div a n))
quotient_made a b n h = over_some a b n h ∙ ap (λ (i : Iexp). let o : Result Value Fault = Ok (OfIndex i) in o) (sym (index_quotient_is a n))

pub remainder_made : (a b : Iexp) (n : ℕ) → divisor_of b ≡ Some n → join Modulo (OfIndex a) (OfIndex b) ≡ Ok (OfIndex (index.Rem a n))
remainder_made a b n h = modulo_some a b n h ∙ ap (λ (i : Iexp). let o : Result Value Fault = Ok (OfIndex i) in o) (sym (index_remainder_is a n))

pub choice_made : (cs : List Test) (first second : code.Value) (a b : Wexp) → first ≡ v.Word a → second ≡ v.Word b
    → chosen (OfTests cs) (value_of first, value_of second) ≡ Ok (OfWord (word.Choose cs a b))
choice_made cs first second a b e f =
    ap (λ (x : code.Value). chosen (OfTests cs) (value_of x, value_of second)) e ∙ ap (λ (x : code.Value). chosen (OfTests cs) (OfWord a, value_of x)) f
    ∙ ap (λ (w : Wexp). let o : Result Value Fault = Ok (OfWord w) in o) (sym (word_choice_is cs a b))
