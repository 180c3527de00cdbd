-- What is known without reading, beside what code answers.
use Rattle.std.proofs.Common.{◌≡◌, ◌≢◌, ℕ, Result, Ok, Err, ap, sym, subst, ◌∙◌}
use Rattle.text_tokens.specs.Words.{Input, peek}
use Rattle.reader_laws.specs.declared.fault.Fault.{Fault}
use Rattle.reader_laws.specs.declared.fault.ReadError.{ReadError}
use Rattle.reader_laws.specs.declared.fault.ReadError.TheVariants.{Memory}
use Rattle.reader_laws.specs.Steps.{Gives, Outcome, Parser, Reads, and_then}
use Rattle.c_text.specs.Expression.{Value}
use Rattle.c_expression_reader.specs.Values.{placed}
use Rattle.c_expression_reader.specs.Expressions.{answer, checked_at}

pub answered : {A B : Type 0} (view : A → B) (r : Result A ReadError) (due : Result B ReadError) (j : Input) → Gives view r due → Reads view (answer due j) r j
answered {B = B} view (Ok a) due j h = ap (λ (d : Result B ReadError). answer d j) h
answered {B = B} view (Err e) due j h = λ n. ap (λ (d : Result B ReadError). answer d j) (h n)

-- an error is handed on
pub reads_err : {A B : Type 0} (view : A → B) (due : Outcome B) (r : Result A ReadError) (x : ReadError) (j : Input) → r ≡ Err x → (x ≢ Memory → due ≡ Err x)
    → Reads view due r j
reads_err {A = A} view due r x j is h = subst (λ (s : Result A ReadError). Reads view due s j) (sym is) h

-- what reads another outcome that is the same
pub reads_same : {A B : Type 0} (view : A → B) (a b : Outcome B) (r : Result A ReadError) (j : Input) → a ≡ b → Reads view a r j → Reads view b r j
reads_same view a b r j e h = subst (λ (o : Outcome _). Reads view o r j) e h

-- what is made of what has been read
pub checked_reads : {B : Type 0} (f : Value → Result B Fault) (p : Parser Value) (i j : Input) (x : Value) (place : ℕ) (r : Result B ReadError)
    → p i ≡ Ok (x, j) → place ≡ (peek i).place → Gives (λ y. y) r (placed place (f x)) → Reads (λ y. y) (checked_at f p i) r j
checked_reads f p i j x place r reads stands h =
    reads_same (λ y. y) (answer (placed place (f x)) j) (checked_at f p i) r j
    (ap (λ (q : ℕ). answer (placed q (f x)) j) stands ∙ sym (ap (λ o. and_then o (λ x. answer (placed (peek i).place (f x)))) reads))
    (answered (λ y. y) r (placed place (f x)) j h)
