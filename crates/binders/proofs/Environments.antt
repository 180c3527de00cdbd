-- What a term means under new binders, and with forms or a term put for its innermost variables.
use Rattle.std.proofs.Common.{◌≡◌, ℕ, zero, suc, ◌<◌, List, [], ◌∷◌, ◌++◌, length, refl, ap, ◌∙◌, arith, true}
use Rattle.std.specs.Prelude.{pos}
use Rattle.affine_index.specs.Form.{var_form}
use Rattle.affine_index.specs.Normal.{atom_good, is_ordered, items_good, layer_good}
use Rattle.affine_index.specs.Put.{given}
use Rattle.affine_index.specs.Value.{items_value}
use Rattle.affine_index.specs.declared.form.Atom.TheVariants.{Var}
use Rattle.affine_index.specs.declared.form.Items.{Items}
use Rattle.affine_index.proofs.EveryLaws.{every-Var}
use Rattle.affine_index.proofs.OrderedLaws.{atom-ordered}
use Rattle.affine_index.proofs.ReadyLaws.{out-Var}
use Rattle.term_tree.specs.declared.term.Term.{Term}
use Rattle.term_tree.specs.Meaning.{Bound, den, dims, extents_of}
use Rattle.binders.specs.Maps.{mapped}
use Rattle.binders.specs.PlainMaps.{HaveValues, put_index_map, put_tensor_map, shift_map}
use Rattle.binders.proofs.PlainLaws.{sends_put_index, sends_put_tensor, shift_sends, value-var_form}
use Rattle.binders.proofs.Substitution.{AllOrdered, mapped_keeps}

var-ordered : (v : ℕ) → is_ordered (var_form v) ≡ true
var-ordered v = atom-ordered (Var v) (every-Var atom_good items_good v ∙ ap layer_good (out-Var v))

-- one term has at r' and t' the extents and the meaning that another has at r and t
abbrev pub Means : Term → Term → (s r' : List ℕ) → List Bound → List ℕ → List Bound → Type 0
Means e' e s r' t' r t = (dims e' s (extents_of t') ≡ dims e s (extents_of t)) × (den e' s r' t' ≡ den e s r t)

module _ (e : Term) (ok : AllOrdered e) (s : List ℕ) where
  pub under_new : (new r : List ℕ) (lets t : List Bound) → Means (mapped (shift_map (length new) (length lets)) 0 0 e) e s (new ++ r) (lets ++ t) r t
  under_new new r lets t = mapped_keeps (shift_map (length new) (length lets)) e ok s r t (new ++ r) (lets ++ t) (shift_sends s new r lets t)

  -- a form for the innermost variable, under new binders
  pub one_put : (x : Items) → is_ordered x ≡ true → (v : ℕ) (new r : List ℕ) (t : List Bound) → items_value s (new ++ r) x ≡ pos v
      → Means (mapped (put_index_map (x ∷ []) (length new)) 0 0 e) e s (new ++ r) t (v ∷ r) t
  one_put x o v new r t h =
      mapped_keeps (put_index_map (x ∷ []) (length new)) e ok s (v ∷ r) t (new ++ r) t
      (sends_put_index (x ∷ []) (length new) ordered s new r (v ∷ []) t refl refl values)
    where
      ordered : (k : ℕ) → k < 1 → is_ordered (given (x ∷ []) k) ≡ true
      ordered zero l = o
      ordered (suc k) l = absurd (omega (arith, l))

      values : HaveValues s (new ++ r) (x ∷ []) (v ∷ [])
      values zero l = h
      values (suc k) l = absurd (omega (arith, l))

  -- two forms for the two innermost variables
  pub two_put : (x y : Items) → is_ordered x ≡ true → is_ordered y ≡ true → (v w : ℕ) (new r : List ℕ) (t : List Bound)
      → items_value s (new ++ r) x ≡ pos v → items_value s (new ++ r) y ≡ pos w
      → Means (mapped (put_index_map (x ∷ y ∷ []) (length new)) 0 0 e) e s (new ++ r) t (v ∷ w ∷ r) t
  two_put x y o p v w new r t h k =
      mapped_keeps (put_index_map (x ∷ y ∷ []) (length new)) e ok s (v ∷ w ∷ r) t (new ++ r) t
      (sends_put_index (x ∷ y ∷ []) (length new) ordered s new r (v ∷ w ∷ []) t refl refl values)
    where
      ordered : (k : ℕ) → k < 2 → is_ordered (given (x ∷ y ∷ []) k) ≡ true
      ordered zero l = o
      ordered (suc zero) l = p
      ordered (suc (suc k)) l = absurd (omega (arith, l))

      values : HaveValues s (new ++ r) (x ∷ y ∷ []) (v ∷ w ∷ [])
      values zero l = h
      values (suc zero) l = k
      values (suc (suc k)) l = absurd (omega (arith, l))

  -- the two innermost variables swapped
  pub swapped : (i j : ℕ) (r : List ℕ) (t : List Bound) → Means (mapped (put_index_map (var_form 1 ∷ var_form 0 ∷ []) 2) 0 0 e) e s (i ∷ j ∷ r) t (j ∷ i ∷ r) t
  swapped i j r t =
      two_put (var_form 1) (var_form 0) (var-ordered 1) (var-ordered 0) j i (i ∷ j ∷ []) r t (value-var_form s (i ∷ j ∷ r) 1) (value-var_form s (i ∷ j ∷ r) 0)

  -- a term for the innermost tensor variable, under new lets
  pub tensor_put : (by : Term) → AllOrdered by → (r : List ℕ) (lets t : List Bound)
      → Means (mapped (put_tensor_map by (length lets)) 0 0 e) e s r (lets ++ t) r ((dims by s (extents_of (lets ++ t)), den by s r (lets ++ t)) ∷ t)
  tensor_put by o r lets t =
      mapped_keeps (put_tensor_map by (length lets)) e ok s r ((dims by s (extents_of (lets ++ t)), den by s r (lets ++ t)) ∷ t) r (lets ++ t)
      (sends_put_tensor by (length lets) o s r lets t refl)
