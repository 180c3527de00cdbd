-- Rows of given extents, and goals that are shown.
use Rattle.std.proofs.Common.{◌≡◌, ℕ, ◌+◌, ◌<◌, List, [], ◌∷◌, length, map, drop, drop-cons, add-one, get_or, true, ap, subst, sym, ◌∙◌}
use Rattle.std.proofs.lemmas.List.{length-map}
use Rattle.affine_index.specs.declared.aff.Aff.{Aff}
use Rattle.affine_index.specs.declared.form.Items.{Items}
use Rattle.linear_cert.specs.Shown.{is_shown}
use Rattle.fact_list.specs.declared.facts.Facts.{Facts}
use Rattle.linear_cert.specs.declared.lines.Lines.TheVariants.{Default}
use Rattle.shape_rules.specs.Admitted.{AllShown}
use Rattle.term_tree.specs.Meaning.{extent}
use Rattle.term_tree.specs.Modules.{extents_at}
use Rattle.term_tree.specs.Tensors.{Tensor, from_rows}
use Rattle.atl_meaning.proofs.ValueLaws.{meant-Row, meant-Word}
use Rattle.atl_meaning.specs.Values.{meant}
use Rattle.atl_meaning.specs.declared.tensor.Tensor.{Tensor as Value}
use Rattle.atl_meaning.specs.declared.tensor.Tensor.TheVariants.{Row}
use Rattle.meaning_rows.specs.Given.{AreGiven, IsGiven}

rows-given : (ds : List ℕ) (ts : List Tensor) → AreGiven ds ts → IsGiven (length ts ∷ ds) (from_rows ts)
rows-given ds [] h = (tt, tt)
rows-given ds (t ∷ ts) h = let r = rows-given ds ts h.1 in ((h.0.0, r.0), (h.0.1, r.1))

-- rows of the extents behind the first, as many as the first
pub row-given : (s : List ℕ) (es : List Aff) (n : Aff) (ns : List Aff) (v : Value) (rows : List Value) → es ≡ n ∷ ns → v ≡ Row rows → extent n s ≡ length rows
    → AreGiven (extents_at ns s) (map meant rows) → IsGiven (extents_at es s) (meant v)
row-given s es n ns v rows e r k h =
    let g = rows-given (extents_at ns s) (map meant rows) h in
    let ds : length (map meant rows) ∷ extents_at ns s ≡ extents_at es s = (λ i. (length-map rows meant ∙ sym k) i ∷ extents_at ns s)
    ∙ sym (ap (λ es. extents_at es s) e) in
    subst (λ (ds : List ℕ). IsGiven ds (meant v)) ds
    (subst (λ (t : Tensor). IsGiven (length (map meant rows) ∷ extents_at ns s) t) (sym (ap meant r ∙ meant-Row rows)) g)

pub shown-next : (f : Facts) (gs : List Items) (k : ℕ) (g : Items) → k < length gs → g ≡ get_or gs k g → is_shown f g Default ≡ true
    → AllShown f (drop (k + 1) gs) → AllShown f (drop k gs)
shown-next f gs k g b e h rest =
    let d : drop k gs ≡ g ∷ drop (k + 1) gs = drop-cons gs k g b ∙ (λ i. sym e i ∷ drop (sym (add-one k) i) gs) in
    subst (λ (gs : List Items). AllShown f gs) (sym d) (h, rest)

pub ruleset given_laws = (meant-Word)
