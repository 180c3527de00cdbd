-- Counts one after another.
use Rattle.std.proofs.Common.{◌≡◌, ℕ, refl, sym, ap, subst, true, Ok, Err, IfOk}
use Rattle.std.specs.Prelude.{Result}
use Rattle.affine_index.specs.Limited.{items_scoped}
use Rattle.affine_index.specs.declared.form.Items.{Items}
use Rattle.reindexer.specs.Limited.{Answers, Limited}
use Rattle.final_rules.specs.Printing.{Counts, Sized, and_then}
use Rattle.final_rules.specs.declared.printing.Stop.{Stop}
use Rattle.final_rules.specs.declared.printing.Stop.TheVariants.{Large, Memory}

-- what comes first is small, and the rest is counted from there on
pub then-counts : (first : Sized) (j : ℕ) (rest : ℕ → Sized) (r : Result ℕ Stop) → first ≡ Ok j → Counts (rest j) r → Counts (and_then first rest) r
then-counts first j rest r e h = subst (λ (s : Sized). Counts (and_then s rest) r) (sym e) h

-- what comes first is not small
pub stop : (first : Sized) (rest : ℕ → Sized) (e : Stop) → Counts first (Err e) → Counts (and_then first rest) (Err e)
stop first rest (Large k) h = ap (λ s. and_then s rest) h
stop first rest Memory h = tt

pub stop-counts : (first : Sized) (rest : ℕ → Sized) (r : Result ℕ Stop) (e : Stop) → r ≡ Err e → Counts first (Err e) → Counts (and_then first rest) r
stop-counts first rest r e is h = subst (λ (s : Result ℕ Stop). Counts (and_then first rest) s) (sym is) (stop first rest e h)

-- a form that is due is in scope where it is there
pub due-scoped : (sizes vars : ℕ) (due r : Limited Items) → ((x : Items) → due ≡ Ok x → items_scoped sizes vars x ≡ true) → Answers due r
    → IfOk r (λ x. items_scoped sizes vars x ≡ true)
due-scoped sizes vars due (Ok x) h a = h x a
due-scoped sizes vars due (Err e) h a = tt

pub and-same : (s : Sized) (f g : ℕ → Sized) → ((j : ℕ) → f j ≡ g j) → and_then s f ≡ and_then s g
and-same (Ok j) f g h = h j
and-same (Err j) f g h = refl

pub and-more : (s : Sized) (f g : ℕ → Sized) → and_then (and_then s f) g ≡ and_then s (λ j. and_then (f j) g)
and-more (Ok j) f g = refl
and-more (Err j) f g = refl

pub and-all : (s : Sized) → and_then s (λ j. Ok j) ≡ s
and-all (Ok j) = refl
and-all (Err j) = refl
