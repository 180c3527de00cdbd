-- The numbers of a given text are words.
use Rattle.std.proofs.Common.{◌≡◌, ℕ, ◌^◌, ◌<◌, Bool, true, false, nat_lt, if◌then◌else◌, List, [], ◌∷◌, Some, None, Result, Ok, refl, sym, subst}
use Rattle.std.proofs.lemmas.Bool.{ltb-true}
use Rattle.text_tokens.specs.Kinds.{Text}
use Rattle.text_tokens.specs.Numbers.{number, value_from}
use Rattle.text_tokens.specs.Words.{Word}
use Rattle.reader_laws.specs.declared.fault.Fault.{Fault}
use Rattle.loop_run.specs.declared.given.Given.{Given}
use Rattle.given_text.specs.Given.{AreInputs, AreNumbers, GivenText, if_fitting, word_value}
use Rattle.word_tensors.specs.WordTensors.{AreWords}
use Rattle.plain_run.specs.Shapes.{EachWords}

abbrev value_so : ℕ → Result ℕ Fault
value_so n = Ok n

same_value : (n k : ℕ) → value_so n ≡ value_so k → n ≡ k
same_value n k e = cc

fitting-value : (b : Bool) (v n : ℕ) → nat_lt v (2 ^ 64) ≡ b → if_fitting (if b then Some v else None) ≡ Ok n → n < 2 ^ 64
fitting-value true v n t e = subst (λ (k : ℕ). k < 2 ^ 64) (same_value v n e) (ltb-true v (2 ^ 64) t)
fitting-value false v n t e = absurd cc

value-below : (t : Text) (n : ℕ) → word_value t ≡ Ok n → n < 2 ^ 64
unfolding number
value-below t n e = fitting-value (nat_lt (value_from 0 t) (2 ^ 64)) (value_from 0 t) n refl e

numbers-words : (ws : List Word) (ns : List ℕ) → AreNumbers ws ns → AreWords ns
numbers-words [] [] h = tt
numbers-words [] (n ∷ ns) h = absurd h
numbers-words (w ∷ ws) [] h = absurd h
numbers-words (w ∷ ws) (n ∷ ns) h = (value-below w.text n h.1, numbers-words ws ns h.2)

inputs-words : (ts : List Text) (ws : List Word) (nss : List (List ℕ)) → AreInputs ts ws nss → EachWords nss
inputs-words [] ws nss h = subst EachWords (sym h.1) tt
inputs-words (t ∷ ts) ws nss h =
    let numbers = h.is_first.is_then in
    let here : AreWords h.value = subst AreWords (sym numbers.is_then.is_then.1) (numbers-words numbers.front numbers.value numbers.is_first) in
    let rest = h.is_then in
    let both : EachWords (h.value ∷ rest.value) = (here, inputs-words ts rest.front rest.value rest.is_first) in
    subst EachWords (sym rest.is_then.1) both

-- the inputs that a text gives are words
pub given-words : (ss is : List Text) (z : Text) (g : Given) → GivenText ss is z g → EachWords g.inputs
given-words ss is z g h =
    let rest = h.1.is_then in
    let there : EachWords rest.value = inputs-words is rest.front rest.value rest.is_first in
    subst (λ (x : Given). EachWords x.inputs) (sym rest.is_then.1) there
