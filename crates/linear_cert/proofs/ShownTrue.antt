-- What is shown is true.
use Rattle.std.proofs.Common.{◌≡◌, List, [], ◌∷◌, Option, Some, None, true}
use Rattle.std.specs.Prelude.{ℕ, pos, ◌≤ℤ◌}
use Rattle.std.specs.Option.{is_some}
use Rattle.affine_index.specs.Normal.{is_normal}
use Rattle.affine_index.specs.Value.{items_value}
use Rattle.affine_index.specs.declared.form.Items.{Items}
use Rattle.fact_list.proofs.FactsTrue.{AllGood, facts-good, good-true}
use Rattle.fact_list.proofs.PlaceTrue.{declared-true}
use Rattle.fact_list.specs.Facts.{facts_of}
use Rattle.fact_list.specs.Normal.{AllNormal, PathNormal}
use Rattle.fact_list.specs.Truth.{AllTrue, HoldsAtPlace, HoldsWithFacts}
use Rattle.fact_list.specs.declared.facts.Facts.{Facts}
use Rattle.fact_list.specs.declared.role.Fact.{Fact}
use Rattle.linear_cert.proofs.DefaultShown.{Show, default-shows}
use Rattle.linear_cert.proofs.LinesTrue.{lines-true}
use Rattle.linear_cert.specs.DefaultLines.{default_lines_of}
use Rattle.linear_cert.specs.Shown.{is_shown}
use Rattle.linear_cert.specs.declared.lines.Line.{Line}
use Rattle.linear_cert.specs.declared.lines.Lines.{Lines}
use Rattle.linear_cert.specs.declared.lines.Lines.TheVariants.{Default, Given}

good-normal : (s r : List ℕ) (xs : List Fact) → AllGood s r xs → AllNormal xs
good-normal s r [] h = tt
good-normal s r (x ∷ xs) h = (h.0.0, good-normal s r xs h.1)

default-true : (s r : List ℕ) (facts : List Fact) (goal : Items) → AllTrue s r facts → (normal : AllNormal facts) (n : is_normal goal ≡ true)
    → (o : Option (List Line)) → Show facts goal normal n o → is_some o ≡ true → pos 0 ≤ℤ items_value s r goal
default-true s r facts goal h normal n None m e = absurd (cc)
default-true s r facts goal h normal n (Some ls) m e = lines-true s r facts goal h ls m

-- a goal that lines show holds at all sizes and index values at which the declared facts hold
pub shown-true : (f : Facts) (goal : Items) (lines : Lines) → is_normal goal ≡ true → is_shown f goal lines ≡ true → HoldsWithFacts f goal
shown-true f goal Default n u s r h =
    let facts = facts_of f goal in
    let good = facts-good s r f h goal n in
    let normal = good-normal s r facts good in
    default-true s r facts goal (good-true s r facts good) normal n (default_lines_of facts goal) (default-shows facts goal normal n) u
shown-true f goal (Given ls) n u s r h = lines-true s r (facts_of f goal) goal (good-true s r (facts_of f goal) (facts-good s r f h goal n)) ls u

-- it holds wherever sizes, assumes and path are as the facts say
pub shown-at-place : (f : Facts) (goal : Items) (lines : Lines) → is_normal goal ≡ true → PathNormal f.path → is_shown f goal lines ≡ true → HoldsAtPlace f goal
shown-at-place f goal lines n k u s r h = shown-true f goal lines n u s r (declared-true s r f k h)
