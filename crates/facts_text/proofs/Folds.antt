-- The text of indices as a fold.
use Rattle.std.proofs.Common.{◌≡◌, List, sym, ◌∙◌}
use Rattle.loop_lang.specs.declared.index.Iexp.{Iexp}
use Rattle.loop_lang.specs.declared.index.Iexp as form
use Rattle.loop_lang.specs.declared.index.Iexp.TheOpen.{Iexp-F}
use Rattle.loop_lang.specs.Syntax.{index_sum, index_difference, index_product, index_quotient, index_remainder, index_larger}
use Rattle.loop_lang.proofs.IndexForms as of_index
use Rattle.term_tree.specs.declared.term.SizeDecl.{SizeDecl}
use Rattle.facts_text.specs.declared.level.Level.{Level}
use Rattle.facts_text.specs.Form.{Text, index_text, index_step, index_fold}

abbrev Given : Type 0
Given = Level → Text

pub index_text-fold : (sizes : List SizeDecl) (e : Iexp) (place : Level) → index_text sizes e place ≡ index_fold sizes e place
index_text-fold sizes (form.Lit n) place = sym (λ j. of_index.fold-lit Given (index_step sizes) n j place)
index_text-fold sizes (form.Size k) place = sym (λ j. of_index.fold-size Given (index_step sizes) k j place)
index_text-fold sizes (form.Loop d) place = sym (λ j. of_index.fold-loop Given (index_step sizes) d j place)
index_text-fold sizes (index_sum a b) place =
    (λ j. index_step sizes (Iexp-F.Add (λ l. index_text-fold sizes a l j) (λ l. index_text-fold sizes b l j)) place)
    ∙ sym (λ j. of_index.fold-index_sum Given (index_step sizes) a b j place)
index_text-fold sizes (index_difference a b) place =
    (λ j. index_step sizes (Iexp-F.Sub (λ l. index_text-fold sizes a l j) (λ l. index_text-fold sizes b l j)) place)
    ∙ sym (λ j. of_index.fold-index_difference Given (index_step sizes) a b j place)
index_text-fold sizes (index_product a b) place =
    (λ j. index_step sizes (Iexp-F.Mul (λ l. index_text-fold sizes a l j) (λ l. index_text-fold sizes b l j)) place)
    ∙ sym (λ j. of_index.fold-index_product Given (index_step sizes) a b j place)
index_text-fold sizes (index_quotient a k) place =
    (λ j. index_step sizes (Iexp-F.Div (λ l. index_text-fold sizes a l j) k) place)
    ∙ sym (λ j. of_index.fold-index_quotient Given (index_step sizes) a k j place)
index_text-fold sizes (index_remainder a k) place =
    (λ j. index_step sizes (Iexp-F.Rem (λ l. index_text-fold sizes a l j) k) place)
    ∙ sym (λ j. of_index.fold-index_remainder Given (index_step sizes) a k j place)
index_text-fold sizes (index_larger a b) place = sym (λ j. of_index.fold-index_larger Given (index_step sizes) a b j place)
