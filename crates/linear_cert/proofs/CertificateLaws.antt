-- What the calls of the crate rest on.
use Rattle.std.proofs.Common.{◌≡◌, List, sym, subst, Some, true}
use Rattle.affine_index.specs.Normal.{is_normal}
use Rattle.affine_index.specs.declared.form.Items.{Items}
use Rattle.fact_list.specs.Facts.{facts_of}
use Rattle.fact_list.specs.Normal.{AllNormal}
use Rattle.fact_list.specs.declared.facts.Facts.{Facts}
use Rattle.fact_list.specs.declared.role.Fact.{Fact}
use Rattle.linear_cert.proofs.DefaultShown.{Show, default-shows}
use Rattle.linear_cert.specs.DefaultLines.{default_lines_of}
use Rattle.linear_cert.specs.Shown.{lines_show}
use Rattle.linear_cert.specs.declared.lines.Line.{Line}

-- these lines show the goal
pub lines-given : (f : Facts) (goal : Items) (facts : List Fact) (lines : List Line) → facts ≡ facts_of f goal → AllNormal facts → is_normal goal ≡ true
    → Some lines ≡ default_lines_of (facts_of f goal) goal → lines_show (facts_of f goal) goal lines ≡ true
lines-given f goal facts lines e normal n s =
    let known = subst AllNormal e normal in
    subst (Show (facts_of f goal) goal known n) (sym s) (default-shows (facts_of f goal) goal known n)
