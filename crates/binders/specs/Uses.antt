-- Which variables occur in a form and in a term.
use Rattle.std.specs.Prelude.{◌≡◌, ℕ, ◌+◌, Bool, false, ◌||◌, ◌==◌, List, [], ◌∷◌, ◌++◌, length}
use Rattle.affine_index.specs.Condition.{cmp_form}
use Rattle.affine_index.specs.Normal.{any_first, any_true}
use Rattle.affine_index.specs.declared.form.Atom.{Atom}
use Rattle.affine_index.specs.declared.form.Item.{Item}
use Rattle.affine_index.specs.declared.form.Items.{Items}
use Rattle.affine_index.specs.declared.form.Atom.TheOpen.{Atom-F, Items-F}
use Rattle.affine_index.specs.declared.form.Atom.TheFolds.{fold-Atom, fold-Items}
use Rattle.affine_index.specs.declared.cond.Cmp.{Cmp}
use Rattle.term_tree.specs.declared.term.Term.{Term, Lit, TVar, WordOf}
use Rattle.term_tree.specs.declared.term.Term.TheOpen.{Term-F}
use Rattle.term_tree.specs.declared.term.Term.TheFolds.{fold-Term}
use Rattle.term_tree.specs.Syntax.{index, gen, sum, guard, let_in, add, sub, mul, concat, flatten, split, transpose, trunc_l, trunc_r, pad_l, pad_r}
use Rattle.term_tree.specs.Meaning.{dims, den, Bound, extents_of}

module _ (p : ℕ → Bool) where
  -- a variable that passes the test, or a part that holds one
  abbrev pub has_step : Atom-F Bool Bool → Bool
  has_step (Atom-F.Size s) = false
  has_step (Atom-F.Var v) = p v
  has_step (Atom-F.Div i k) = i
  has_step (Atom-F.Mul factors) = any_true factors

  -- an atom that holds one
  abbrev pub has_items_step : Items-F Bool Bool → Bool
  has_items_step i = any_first i.terms

  -- whether some variable in an atom, at any depth, passes the test
  abbrev pub atom_has : Atom → Bool
  atom_has = fold-Atom Bool Bool has_step has_items_step

  -- whether some variable in a form, at any depth, passes the test
  abbrev pub form_has : Items → Bool
  form_has = fold-Items Bool Bool has_step has_items_step

  -- whether some variable in the atom of an item passes the test
  abbrev pub terms_have : List (Item Atom) → Bool
  terms_have [] = false
  terms_have (t ∷ ts) = atom_has t.atom || terms_have ts

-- whether variable v occurs in a form
abbrev pub uses : ℕ → Items → Bool
uses v = form_has (λ w. w == v)

-- whether some form that is compared passes a test
abbrev pub any_cmp : (Items → Bool) → List Cmp → Bool
any_cmp p [] = false
any_cmp p (c ∷ cs) = p (cmp_form c) || any_cmp p cs

-- whether index variable v occurs in a term; the extent of a gen or sum stands outside its binder
abbrev pub uses_index : Term → ℕ → Bool
uses_index (Lit w) v = false
uses_index (TVar q) v = false
uses_index (WordOf x) v = uses v x
uses_index (index e x) v = uses_index e v || uses v x
uses_index (gen n e) v = uses v n || uses_index e (v + 1)
uses_index (sum n e) v = uses v n || uses_index e (v + 1)
uses_index (guard c e) v = any_cmp (uses v) c.all || uses_index e v
uses_index (let_in a b) v = uses_index a v || uses_index b v
uses_index (add a b) v = uses_index a v || uses_index b v
uses_index (sub a b) v = uses_index a v || uses_index b v
uses_index (mul a b) v = uses_index a v || uses_index b v
uses_index (concat a b) v = uses_index a v || uses_index b v
uses_index (flatten e) v = uses_index e v
uses_index (split k e) v = uses_index e v
uses_index (transpose e) v = uses_index e v
uses_index (trunc_l n e) v = uses v n || uses_index e v
uses_index (trunc_r n e) v = uses v n || uses_index e v
uses_index (pad_l n e) v = uses v n || uses_index e v
uses_index (pad_r n e) v = uses v n || uses_index e v

-- one level of a term, given its parts
abbrev pub index_step : Term-F (ℕ → Bool) → ℕ → Bool
index_step (Term-F.Lit w) v = false
index_step (Term-F.TVar q) v = false
index_step (Term-F.WordOf x) v = uses v x
index_step (Term-F.Index e x) v = e v || uses v x
index_step (Term-F.Gen n e) v = uses v n || e (v + 1)
index_step (Term-F.Sum n e) v = uses v n || e (v + 1)
index_step (Term-F.Guard c e) v = any_cmp (uses v) c.all || e v
index_step (Term-F.Let a b) v = a v || b v
index_step (Term-F.Add a b) v = a v || b v
index_step (Term-F.Sub a b) v = a v || b v
index_step (Term-F.Mul a b) v = a v || b v
index_step (Term-F.Concat a b) v = a v || b v
index_step (Term-F.Flatten e) v = e v
index_step (Term-F.Split k e) v = e v
index_step (Term-F.Transpose e) v = e v
index_step (Term-F.TruncL n e) v = uses v n || e v
index_step (Term-F.TruncR n e) v = uses v n || e v
index_step (Term-F.PadL n e) v = uses v n || e v
index_step (Term-F.PadR n e) v = uses v n || e v

-- the same as a fold
abbrev pub index_fold : Term → ℕ → Bool
index_fold = fold-Term (ℕ → Bool) index_step

-- whether tensor variable v occurs in a term
abbrev pub uses_tensor : Term → ℕ → Bool
uses_tensor (Lit w) v = false
uses_tensor (TVar q) v = q == v
uses_tensor (WordOf x) v = false
uses_tensor (index e x) v = uses_tensor e v
uses_tensor (gen n e) v = uses_tensor e v
uses_tensor (sum n e) v = uses_tensor e v
uses_tensor (guard c e) v = uses_tensor e v
uses_tensor (let_in a b) v = uses_tensor a v || uses_tensor b (v + 1)
uses_tensor (add a b) v = uses_tensor a v || uses_tensor b v
uses_tensor (sub a b) v = uses_tensor a v || uses_tensor b v
uses_tensor (mul a b) v = uses_tensor a v || uses_tensor b v
uses_tensor (concat a b) v = uses_tensor a v || uses_tensor b v
uses_tensor (flatten e) v = uses_tensor e v
uses_tensor (split k e) v = uses_tensor e v
uses_tensor (transpose e) v = uses_tensor e v
uses_tensor (trunc_l n e) v = uses_tensor e v
uses_tensor (trunc_r n e) v = uses_tensor e v
uses_tensor (pad_l n e) v = uses_tensor e v
uses_tensor (pad_r n e) v = uses_tensor e v

-- one level of a term, given its parts
abbrev pub tensor_step : Term-F (ℕ → Bool) → ℕ → Bool
tensor_step (Term-F.Lit w) v = false
tensor_step (Term-F.TVar q) v = q == v
tensor_step (Term-F.WordOf x) v = false
tensor_step (Term-F.Index e x) v = e v
tensor_step (Term-F.Gen n e) v = e v
tensor_step (Term-F.Sum n e) v = e v
tensor_step (Term-F.Guard c e) v = e v
tensor_step (Term-F.Let a b) v = a v || b (v + 1)
tensor_step (Term-F.Add a b) v = a v || b v
tensor_step (Term-F.Sub a b) v = a v || b v
tensor_step (Term-F.Mul a b) v = a v || b v
tensor_step (Term-F.Concat a b) v = a v || b v
tensor_step (Term-F.Flatten e) v = e v
tensor_step (Term-F.Split k e) v = e v
tensor_step (Term-F.Transpose e) v = e v
tensor_step (Term-F.TruncL n e) v = e v
tensor_step (Term-F.TruncR n e) v = e v
tensor_step (Term-F.PadL n e) v = e v
tensor_step (Term-F.PadR n e) v = e v

-- the same as a fold
abbrev pub tensor_fold : Term → ℕ → Bool
tensor_fold = fold-Term (ℕ → Bool) tensor_step

-- the value of the index variable is without effect
abbrev pub IgnoresIndex : Term → ℕ → Type 0
IgnoresIndex e v = (s is r : List ℕ) (a b : ℕ) (t : List Bound) → length is ≡ v → den e s (is ++ (a ∷ r)) t ≡ den e s (is ++ (b ∷ r)) t

-- the value and the extents of the tensor variable are without effect
abbrev pub IgnoresTensor : Term → ℕ → Type 0
IgnoresTensor e v = (s r : List ℕ) (ts t : List Bound) (a b : Bound) → length ts ≡ v →
    (dims e s (extents_of (ts ++ (a ∷ t))) ≡ dims e s (extents_of (ts ++ (b ∷ t)))) × (den e s r (ts ++ (a ∷ t)) ≡ den e s r (ts ++ (b ∷ t)))
