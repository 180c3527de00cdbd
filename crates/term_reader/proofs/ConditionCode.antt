-- Comparisons, beside the code that reads them.
use Rattle.std.proofs.Common.{◌≡◌, ◌≢◌, ℕ, List, [], ◌∷◌, Result, Ok, Err, refl, sym, ap, subst, ◌∙◌}
use Rattle.text_tokens.specs.declared.kind.Kind.TheVariants as k
use Rattle.text_tokens.specs.Kinds.{Text}
use Rattle.text_tokens.specs.Words.{Word, Input}
use Rattle.affine_index.specs.declared.cond.Cmp.{Cmp}
use Rattle.affine_index.specs.declared.cond.Cond.{Cond}
use Rattle.affine_index.specs.declared.cond.Rel.{Rel}
use Rattle.affine_index.specs.declared.cond.Rel.TheVariants as rel
use Rattle.affine_index.specs.declared.form.Items.{Items}
use Rattle.reader_laws.specs.declared.fault.Fault.{Fault}
use Rattle.reader_laws.specs.declared.fault.ReadError.{ReadError}
use Rattle.reader_laws.specs.declared.fault.ReadError.TheVariants.{Memory}
use Rattle.reader_laws.specs.Steps.{Outcome, Parser, Reads, Gives, and_then, ◌>>=◌, pure}
use Rattle.reader_laws.specs.Chain.{joined, repeated}
use Rattle.source_grammar.specs.Conditions.{compared, if_tested, most_comparisons, with_last}
use Rattle.source_grammar.specs.Limits.{tested}
use Rattle.source_grammar.specs.ReadConditions.{comparison, condition}
use Rattle.term_reader.specs.Steps.{answer, comparison_of, compared_form, placed}
use Rattle.term_reader.proofs.CodeLaws.{answered}

pub comparison_limit : most_comparisons ≡ 9223372036854775808
unfolding most_comparisons
comparison_limit = refl

by_form : (r : Rel) (a b : Items) → compared r a b ≡ if_tested (comparison_of r) (tested (compared_form r a b))
by_form rel.Lt a b = refl
by_form rel.Le a b = refl
by_form rel.Gt a b = refl
by_form rel.Ge a b = refl
by_form rel.Eq a b = refl

abbrev given : Result Items ReadError → (Items → Cmp) → Result Cmp ReadError
given (Ok x) f = Ok (f x)
given (Err e) f = Err e

of_form : (place : ℕ) (f : Items → Cmp) (v : Result Items Fault) → placed place (if_tested f v) ≡ given (placed place v) f
of_form place f (Ok x) = refl
of_form place f (Err e) = refl

pub compared_ok : (place : ℕ) (r : Rel) (a b x : Items) → placed place (tested (compared_form r a b)) ≡ Ok x
    → placed place (compared r a b) ≡ Ok (comparison_of r x)
compared_ok place r a b x h = ap (placed place) (by_form r a b) ∙ of_form place (comparison_of r) (tested (compared_form r a b))
    ∙ ap (λ v. given v (comparison_of r)) h

pub compared_err : (place : ℕ) (r : Rel) (a b : Items) (e : ReadError) → (e ≢ Memory → placed place (tested (compared_form r a b)) ≡ Err e)
    → e ≢ Memory → placed place (compared r a b) ≡ Err e
compared_err place r a b e h = λ not. ap (placed place) (by_form r a b) ∙ of_form place (comparison_of r) (tested (compared_form r a b))
    ∙ ap (λ v. given v (comparison_of r)) (h not)

stands : {A : Type 0} (w : Word) (v : Result A Fault) (i : Input) → joined w v pure i ≡ answer (placed w.place v) i
stands w (Ok x) i = refl
stands w (Err fault) i = refl

pub against_gives : (w : Word) (due : Result Cmp Fault) (place : ℕ) (r : Result Cmp ReadError) (j : Input) → place ≡ w.place
    → Gives (λ x. x) r (placed place due) → Reads (λ x. x) (joined w due pure j) r j
against_gives w due place r j e h =
    subst (λ (o : Outcome Cmp). Reads (λ x. x) o r j) (sym (stands w due j))
    (subst (λ (p : ℕ). Reads (λ x. x) (answer (placed p due) j) r j) e (answered r (placed place due) j h))

pub condition_is : (names : Text → Result Items Fault) (levels : ℕ) (first : Cmp) (found all : List Cmp) (i j l : Input)
    → comparison names levels i ≡ Ok (first, j) → found ≡ first ∷ []
    → repeated k.And with_last (λ _. comparison names levels) most_comparisons found j ≡ Ok (all, l) → condition names levels i ≡ Ok (record { all = all }, l)
unfolding condition
condition_is names levels first found all i j l e f h =
    let made : List Cmp → Parser Cond = λ cs. pure (record { all = cs }) in
    let more : List Cmp → Parser (List Cmp) = λ cs. repeated k.And with_last (λ _. comparison names levels) most_comparisons cs in
    ap (λ (r : Outcome Cmp). and_then r (λ c. more (c ∷ []) >>= made)) e ∙ ap (λ (cs : List Cmp). and_then (more cs j) made) (sym f)
    ∙ ap (λ (r : Outcome (List Cmp)). and_then r made) h
