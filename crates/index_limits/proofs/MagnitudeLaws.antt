-- A form over sizes alone has one magnitude, whatever the greatest values of variables are.
use Rattle.std.proofs.Common.{◌≡◌, ℕ, ◌+◌, ◌*◌, List, [], ◌∷◌, map, refl, sym, ap, ◌∙◌, arith, true, ◌&&◌, nat_le, Ok, Err}
use Rattle.std.specs.Int.RustNames.{unsigned_abs}
use Rattle.std.proofs.lemmas.Bool.{and_parts}
use Rattle.affine_index.specs.Limited.{all_firsts, all_true, atom_scoped, items_scoped}
use Rattle.affine_index.specs.Magnitude.{atom_magnitude, factors_magnitude, magnitude, terms_magnitude}
use Rattle.affine_index.specs.Normal.{is_normal}
use Rattle.affine_index.proofs.Induction.{Each, EachTerm, for_items}
use Rattle.affine_index.proofs.MagLaws.{mag-Size, mag-Div, mag-Mul, mag-items}
use Rattle.affine_index.proofs.ReadyLaws.{scoped-Var, scoped-Div, scoped-Mul, scoped-items, scoped_term}
use Rattle.affine_index.specs.declared.form.Atom.{Atom}
use Rattle.affine_index.specs.declared.form.Atom.TheVariants.{Var}
use Rattle.affine_index.specs.declared.form.Item.{Item}
use Rattle.affine_index.specs.declared.form.Items.{Items}
use Rattle.reindexer.specs.Limited.{Limited}
use Rattle.final_rules.specs.Printed.{form_small, largest_index}

module _ (n : ℕ) (maxima vars : List ℕ) where
  abbrev AtomFree : Atom → Type 0
  AtomFree a = atom_scoped n 0 a ≡ true → atom_magnitude maxima vars a ≡ atom_magnitude maxima [] a

  abbrev FormFree : Items → Type 0
  FormFree i = items_scoped n 0 i ≡ true → magnitude maxima vars i ≡ magnitude maxima [] i

  var_free : (v : ℕ) → AtomFree (Var v)
  var_free v h = absurd (grind (arith, sym (scoped-Var n 0 v) ∙ h))

  factors_free : (fs : List Atom) → Each AtomFree fs → all_true (map (atom_scoped n 0) fs) ≡ true
      → factors_magnitude maxima vars fs ≡ factors_magnitude maxima [] fs
  factors_free [] e h = refl
  factors_free (f ∷ fs) e h =
      let p = and_parts (atom_scoped n 0 f) (all_true (map (atom_scoped n 0) fs)) h in λ i. e.0 p.0 i * factors_free fs e.1 p.1 i

  terms_free : (ts : List (Item Atom)) → EachTerm AtomFree ts → all_firsts (map (scoped_term n 0) ts) ≡ true
      → terms_magnitude maxima vars ts ≡ terms_magnitude maxima [] ts
  terms_free [] e h = refl
  terms_free (t ∷ ts) e h =
      let p = and_parts (atom_scoped n 0 t.atom) (all_firsts (map (scoped_term n 0) ts)) h in
      λ i. unsigned_abs t.coefficient * e.0 p.0 i + terms_free ts e.1 p.1 i

  pub magnitude-free : (i : Items) → FormFree i
  magnitude-free =
      for_items AtomFree FormFree (λ k h. mag-Size maxima vars k ∙ sym (mag-Size maxima [] k)) var_free
      (λ i k f h. mag-Div maxima vars i k ∙ f (sym (scoped-Div n 0 i k) ∙ h) ∙ sym (mag-Div maxima [] i k))
      (λ fs e h. mag-Mul maxima vars fs ∙ factors_free fs e (sym (scoped-Mul n 0 fs) ∙ h) ∙ sym (mag-Mul maxima [] fs))
      (λ ts c e h.
      let i : Items = record { terms = ts; constant = c } in
      mag-items maxima vars i ∙ ap (λ m. m + unsigned_abs c) (terms_free ts e (sym (scoped-items n 0 i) ∙ h)) ∙ sym (mag-items maxima [] i))

  -- so it is small under variables where it is small under none
  pub small-free : (l : Limited Items) → ((x : Items) → l ≡ Ok x → items_scoped n 0 x ≡ true) → form_small maxima vars l ≡ form_small maxima [] l
  small-free (Ok x) h = ap (λ m. is_normal x && nat_le m largest_index) (magnitude-free x (h x refl))
  small-free (Err e) h = refl
