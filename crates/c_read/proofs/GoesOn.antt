-- After which words an expression goes on, and what an operator joins.
use Rattle.std.proofs.Common.{◌≡◌, ℕ, zero, suc, Bool, true, false, List, Option, Some, None, Result, Ok, Err, refl, sym, ap, subst, ◌∙◌}
use Rattle.std.specs.Prelude.{pos, negsuc}
use Rattle.affine_index.specs.declared.cond.Rel.{Rel}
use Rattle.text_tokens.specs.declared.kind.Kind.{Kind}
use Rattle.text_tokens.specs.declared.kind.Kind.TheVariants as k
use Rattle.text_tokens.specs.Kinds.{same_kind}
use Rattle.loop_lang.specs.declared.index.Iexp.{Iexp, Lit}
use Rattle.loop_lang.specs.declared.index.Test.{Test}
use Rattle.loop_lang.specs.declared.word.Wexp.{Wexp}
use Rattle.c_print.specs.declared.level.Level.{Level}
use Rattle.c_print.specs.declared.level.Level.TheVariants.{Choice, Sum, Product, Part}
use Rattle.reader_laws.specs.declared.fault.Fault.{Fault}
use Rattle.reader_laws.specs.Grammar.{IsOfJoining}
use Rattle.reader_laws.proofs.Outcomes.{is_same}
use Rattle.reader_laws.proofs.Lawful.{never}
use Rattle.c_words.specs.Tokens.{AndAnd, Question}
use Rattle.c_text.specs.Expression.{Value, OfIndex, OfWord, OfTests, Operator, Plus, Minus, Times, Over, Modulo}
use Rattle.c_text.specs.Expression.{WrongKind, and_sign, by_literal, choice_sign, chosen, compared, join, joined, product_operator, relation, sum_operator}
use Rattle.c_read.specs.Expressions.{as_index, as_tests, as_word}

abbrev pub product_goes : Kind → Bool
product_goes k.Star = true
product_goes k.Slash = true
product_goes k.Percent = true
product_goes kd = false

abbrev pub sum_goes : Kind → Bool
sum_goes k.Plus = true
sum_goes k.Minus = true
sum_goes kd = product_goes kd

abbrev pub relation_goes : Kind → Bool
relation_goes k.Less = true
relation_goes k.LessEqual = true
relation_goes k.Greater = true
relation_goes k.GreaterEqual = true
relation_goes k.Equal = true
relation_goes kd = sum_goes kd

abbrev pub and_goes : Kind → Bool
and_goes AndAnd = true
and_goes kd = relation_goes kd

abbrev pub choice_goes : Kind → Bool
choice_goes Question = true
choice_goes kd = and_goes kd

-- after an expression that stands in this place
abbrev pub goes_on : Level → Kind → Bool
goes_on Choice = choice_goes
goes_on Sum = sum_goes
goes_on Product = product_goes
goes_on Part = never

-- ---- products

pub product_no_end : (kd : Kind) (o : Operator) → product_operator kd ≡ Some o → kd ≡ k.End → ⊥
product_no_end k.End o h e = absurd cc
product_no_end kd o h e = absurd cc

pub product_frees : (kd : Kind) (o : Operator) → product_operator kd ≡ Some o → never kd ≡ false
product_frees kd o h = refl

pub product_stops : (kd : Kind) → product_goes kd ≡ false → (product_operator kd ≡ None) × (never kd ≡ false)
product_stops k.Star h = absurd cc
product_stops k.Slash h = absurd cc
product_stops k.Percent h = absurd cc
product_stops kd h = (refl, refl)

-- ---- sums

pub sum_no_end : (kd : Kind) (o : Operator) → sum_operator kd ≡ Some o → kd ≡ k.End → ⊥
sum_no_end kd o h e = absurd cc

pub sum_frees : (kd : Kind) (o : Operator) → sum_operator kd ≡ Some o → product_goes kd ≡ false
sum_frees k.Plus o h = refl
sum_frees k.Minus o h = refl
sum_frees kd o h = absurd cc

pub sum_stops : (kd : Kind) → sum_goes kd ≡ false → (sum_operator kd ≡ None) × (product_goes kd ≡ false)
sum_stops k.Plus h = absurd cc
sum_stops k.Minus h = absurd cc
sum_stops k.Star h = absurd cc
sum_stops k.Slash h = absurd cc
sum_stops k.Percent h = absurd cc
sum_stops kd h = (refl, refl)

-- ---- comparisons

pub relation_no_end : (kd : Kind) (o : Rel) → relation kd ≡ Some o → kd ≡ k.End → ⊥
relation_no_end kd o h e = absurd cc

pub relation_frees : (kd : Kind) (o : Rel) → relation kd ≡ Some o → sum_goes kd ≡ false
relation_frees k.Less o h = refl
relation_frees k.LessEqual o h = refl
relation_frees k.Greater o h = refl
relation_frees k.GreaterEqual o h = refl
relation_frees k.Equal o h = refl
relation_frees kd o h = absurd cc

pub relation_stops : (kd : Kind) → relation_goes kd ≡ false → (relation kd ≡ None) × (sum_goes kd ≡ false)
relation_stops k.Less h = absurd cc
relation_stops k.LessEqual h = absurd cc
relation_stops k.Greater h = absurd cc
relation_stops k.GreaterEqual h = absurd cc
relation_stops k.Equal h = absurd cc
relation_stops k.Plus h = absurd cc
relation_stops k.Minus h = absurd cc
relation_stops k.Star h = absurd cc
relation_stops k.Slash h = absurd cc
relation_stops k.Percent h = absurd cc
relation_stops kd h = (refl, refl)

-- ---- tests

pub and_frees : (kd : Kind) → same_kind kd AndAnd ≡ true → relation_goes kd ≡ false
and_frees kd h = ap relation_goes (is_same kd AndAnd h)

pub and_within : (kd : Kind) → and_goes kd ≡ false → relation_goes kd ≡ false
and_within AndAnd h = refl
and_within kd h = h

pub and_ends : (kd : Kind) → and_goes kd ≡ false → same_kind kd AndAnd ≡ false
and_ends kd h = by (same_kind kd AndAnd) refl
  where
    by : (b : Bool) → same_kind kd AndAnd ≡ b → same_kind kd AndAnd ≡ false
    by true e = absurd (let g = ap and_goes (is_same kd AndAnd e) in cc)
    by false e = e

-- ---- choices

pub choice_no_end : (kd : Kind) (o : Unit {0}) → choice_sign kd ≡ Some o → kd ≡ k.End → ⊥
choice_no_end kd o h e = absurd cc

pub choice_frees : (kd : Kind) (o : Unit {0}) → choice_sign kd ≡ Some o → and_goes kd ≡ false
choice_frees Question o h = refl
choice_frees kd o h = absurd cc

pub choice_stops : (kd : Kind) → choice_goes kd ≡ false → (choice_sign kd ≡ None) × (choice_goes kd ≡ false)
choice_stops Question h = absurd cc
choice_stops kd h = (refl, h)

pub choice_within : (kd : Kind) → choice_goes kd ≡ false → and_goes kd ≡ false
choice_within Question h = refl
choice_within kd h = h

-- ---- what is joined

abbrev fault_of : {A : Type 0} → Fault → Result A Fault
fault_of fault = Err fault

wrong : {A : Type 0} (fault : Fault) → fault_of {A = A} WrongKind ≡ fault_of fault → IsOfJoining fault
wrong fault h = let e : WrongKind ≡ fault = cc in subst IsOfJoining e tt

pub join_joint : (o : Operator) (a b : Value) (fault : Fault) → join o a b ≡ Err fault → IsOfJoining fault
join_joint Plus (OfIndex a) (OfIndex b) fault h = absurd cc
join_joint Minus (OfIndex a) (OfIndex b) fault h = absurd cc
join_joint Times (OfIndex a) (OfIndex b) fault h = absurd cc
join_joint Plus (OfWord a) (OfWord b) fault h = absurd cc
join_joint Minus (OfWord a) (OfWord b) fault h = absurd cc
join_joint Times (OfWord a) (OfWord b) fault h = absurd cc
join_joint Over (OfIndex a) (OfIndex (Lit (pos (suc n)))) fault h = absurd cc
join_joint Modulo (OfIndex a) (OfIndex (Lit (pos (suc n)))) fault h = absurd cc
join_joint o a b fault h = wrong fault h

pub compared_joint : (r : Rel) (a b : Value) (fault : Fault) → compared r a b ≡ Err fault → IsOfJoining fault
compared_joint r (OfIndex a) (OfIndex b) fault h = absurd cc
compared_joint r a b fault h = wrong fault h

pub joined_joint : (a b : Value) (fault : Fault) → joined a b ≡ Err fault → IsOfJoining fault
joined_joint (OfTests a) (OfTests b) fault h = absurd cc
joined_joint a b fault h = wrong fault h

pub chosen_joint : (c : Value) (p : Value × Value) (fault : Fault) → chosen c p ≡ Err fault → IsOfJoining fault
chosen_joint (OfTests cs) (OfWord a, OfWord b) fault h = absurd cc
chosen_joint c p fault h = wrong fault h

pub index_joint : (v : Value) (fault : Fault) → as_index v ≡ Err fault → IsOfJoining fault
index_joint (OfIndex i) fault h = absurd cc
index_joint v fault h = wrong fault h

pub word_joint : (v : Value) (fault : Fault) → as_word v ≡ Err fault → IsOfJoining fault
word_joint (OfWord w) fault h = absurd cc
word_joint v fault h = wrong fault h

pub tests_joint : (v : Value) (fault : Fault) → as_tests v ≡ Err fault → IsOfJoining fault
tests_joint (OfTests cs) fault h = absurd cc
tests_joint v fault h = wrong fault h

pub is_index : (v : Value) (i : Iexp) → as_index v ≡ Ok i → v ≡ OfIndex i
is_index (OfIndex j) i h = cc
is_index (OfWord w) i h = absurd cc
is_index (OfTests cs) i h = absurd cc

pub is_word : (v : Value) (w : Wexp) → as_word v ≡ Ok w → v ≡ OfWord w
is_word (OfIndex j) w h = absurd cc
is_word (OfWord u) w h = cc
is_word (OfTests cs) w h = absurd cc

pub are_tests : (v : Value) (cs : List Test) → as_tests v ≡ Ok cs → v ≡ OfTests cs
are_tests (OfIndex j) cs h = absurd cc
are_tests (OfWord w) cs h = absurd cc
are_tests (OfTests ds) cs h = cc
