-- Comparisons and conditions are the same exactly where they are equal.
use Rattle.std.proofs.Common.{◌≡◌, refl, true, List, [], ◌∷◌}
use Rattle.std.proofs.lemmas.Bool.{and_from, and_parts, false≢true}
use Rattle.affine_index.specs.declared.cond.Cmp.{Cmp}
use Rattle.affine_index.specs.declared.cond.Cmp.TheVariants.{Ge, Eq}
use Rattle.affine_index.specs.declared.cond.Cond.{Cond}
use Rattle.shape_rules.proofs.SameLaws.{same_form-equal, same_form-same}
use Rattle.term_equality.specs.Equality.{same_cmp, same_cmps, same_cond}

same_cmp-equal : (c d : Cmp) → same_cmp c d ≡ true → c ≡ d
same_cmp-equal (Ge x) (Ge y) h = let e = same_form-equal x y h in λ i. Ge (e i)
same_cmp-equal (Ge x) (Eq y) h = absurd (false≢true h)
same_cmp-equal (Eq x) (Ge y) h = absurd (false≢true h)
same_cmp-equal (Eq x) (Eq y) h = let e = same_form-equal x y h in λ i. Eq (e i)

same_cmp-same : (c : Cmp) → same_cmp c c ≡ true
same_cmp-same (Ge x) = same_form-same x
same_cmp-same (Eq x) = same_form-same x

same_cmps-equal : (cs ds : List Cmp) → same_cmps cs ds ≡ true → cs ≡ ds
same_cmps-equal [] [] h = refl
same_cmps-equal [] (d ∷ ds) h = absurd (false≢true h)
same_cmps-equal (c ∷ cs) [] h = absurd (false≢true h)
same_cmps-equal (c ∷ cs) (d ∷ ds) h =
    let p = and_parts (same_cmp c d) (same_cmps cs ds) h in
    let a = same_cmp-equal c d p.0 in let b = same_cmps-equal cs ds p.1 in λ i. a i ∷ b i

same_cmps-same : (cs : List Cmp) → same_cmps cs cs ≡ true
same_cmps-same [] = refl
same_cmps-same (c ∷ cs) = and_from (same_cmp c c) (same_cmps cs cs) (same_cmp-same c) (same_cmps-same cs)

pub same_cond-equal : (c d : Cond) → same_cond c d ≡ true → c ≡ d
same_cond-equal c d h = let e = same_cmps-equal c.all d.all h in λ i. record { all = e i }

pub same_cond-same : (c : Cond) → same_cond c c ≡ true
same_cond-same c = same_cmps-same c.all
