-- The equations of what is put.
use Rattle.std.proofs.Common.{◌≡◌, ℕ, List, [], ◌∷◌, map, refl, ap, sym, ◌∙◌}
use Rattle.affine_index.specs.Form.{literal_form, size_form}
use Rattle.affine_index.specs.Product.{product_of_all}
use Rattle.affine_index.specs.Put.{put_all, put_atom, put_items_step, put_step, put_terms}
use Rattle.affine_index.specs.Quotient.{quotient_of}
use Rattle.affine_index.specs.Sum.{add_up, scaled, sum_of}
use Rattle.affine_index.specs.declared.form.Atom.{Atom}
use Rattle.affine_index.specs.declared.form.Atom.TheVariants.{Size, Var, Div, Mul, rolls-Size, rolls-Var, rolls-Mul, rolls-Div}
use Rattle.affine_index.specs.declared.form.Item.{Item}
use Rattle.affine_index.specs.declared.form.Items.{Items}
use Rattle.affine_index.specs.declared.form.Atom.TheOpen.{Atom-F}
use Rattle.affine_index.specs.declared.form.Atom.TheFolds.{fold-roll-Atom, fold_out-Items}

module _ (f : ℕ → Items) where
  pub put-Size : (k : ℕ) → put_atom f (Size k) ≡ size_form k
  put-Size k = ap (put_atom f) (sym (rolls-Size k)) ∙ fold-roll-Atom Items Items (put_step f) put_items_step (Atom-F.Size k)

  pub put-Var : (k : ℕ) → put_atom f (Var k) ≡ f k
  put-Var k = ap (put_atom f) (sym (rolls-Var k)) ∙ fold-roll-Atom Items Items (put_step f) put_items_step (Atom-F.Var k)

  pub put-Div : (i : Items) (k : ℕ) → put_atom f (Div i k) ≡ quotient_of (put_all f i) k
  put-Div i k = ap (put_atom f) (sym (rolls-Div i k)) ∙ fold-roll-Atom Items Items (put_step f) put_items_step (Atom-F.Div i k)

  pub put-Mul : (fs : List Atom) → put_atom f (Mul fs) ≡ product_of_all (map (put_atom f) fs)
  put-Mul fs = ap (put_atom f) (sym (rolls-Mul fs)) ∙ fold-roll-Atom Items Items (put_step f) put_items_step (Atom-F.Mul fs)

  added_map : (ts : List (Item Atom)) (start : Items)
      → add_up (map (λ t. record { atom = put_atom f t.atom; coefficient = t.coefficient }) ts) start ≡ put_terms f ts start
  added_map [] start = refl
  added_map (t ∷ ts) start = added_map ts (sum_of start (scaled t.coefficient (put_atom f t.atom)))

  pub put-items : (i : Items) → put_all f i ≡ put_terms f i.terms (literal_form i.constant)
  put-items i = fold_out-Items Items Items (put_step f) put_items_step i ∙ added_map i.terms (literal_form i.constant)

pub ruleset put_laws = (put-Size, put-Var, put-Div, put-Mul, put-items)
