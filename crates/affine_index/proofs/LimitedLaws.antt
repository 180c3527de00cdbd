-- The equations of the value that gives up at 2^120, and of scopes.
use Rattle.std.proofs.Common.{◌≡◌, ℕ, List, [], ◌∷◌, map, refl, ap, sym, ◌∙◌, Bool, ◌&&◌, nat_lt, Option, Some, None}
use Rattle.std.specs.Prelude.{ℤ, pos, ◌*ℤ◌, slice_index}
use Rattle.std.specs.Option.{option_and_then}
use Rattle.std.specs.Int.{int_div_euclid}
use Rattle.affine_index.specs.Limited.{limited, through, plus, added, times_step, total_step, times, limited_value, times_all, added_all, ready_step}
use Rattle.affine_index.specs.Limited.{scoped_items_step, atom_ready, items_ready, atoms_ready, terms_ready, all_true, all_firsts}
use Rattle.affine_index.specs.declared.form.Atom.{Atom}
use Rattle.affine_index.specs.declared.form.Items.{Items}
use Rattle.affine_index.specs.declared.form.Item.{Item}
use Rattle.affine_index.specs.declared.form.Atom.TheOpen.{Atom-F}
use Rattle.affine_index.specs.declared.form.Atom.TheVariants.{Size, Var, Div, Mul, rolls-Size, rolls-Var, rolls-Mul, rolls-Div}
use Rattle.affine_index.specs.declared.form.Atom.TheFolds.{fold-roll-Atom, fold_out-Items}

and_then-same : {A B : Type 0} (f g : A → Option B) → ((x : A) → f x ≡ g x) → (o : Option A) → option_and_then f o ≡ option_and_then g o
and_then-same f g e None = refl
and_then-same f g e (Some x) = e x

module _ (s v : List ℕ) where
  pub times-Size : (k : ℕ) (c : ℤ) → times s v (Size k) c ≡ limited (c *ℤ pos (slice_index s k))
  times-Size k c = ap (λ a. times s v a c) (sym (rolls-Size k))
      ∙ ap (λ f. f c) (fold-roll-Atom (ℤ → Option ℤ) (Option ℤ) (times_step s v) (total_step s v) (Atom-F.Size k))

  pub times-Var : (k : ℕ) (c : ℤ) → times s v (Var k) c ≡ limited (c *ℤ pos (slice_index v k))
  times-Var k c = ap (λ a. times s v a c) (sym (rolls-Var k))
      ∙ ap (λ f. f c) (fold-roll-Atom (ℤ → Option ℤ) (Option ℤ) (times_step s v) (total_step s v) (Atom-F.Var k))

  pub times-Div : (i : Items) (k : ℕ) (c : ℤ) → times s v (Div i k) c ≡ option_and_then (λ w. limited (c *ℤ int_div_euclid w (pos k))) (limited_value s v i)
  times-Div i k c = ap (λ a. times s v a c) (sym (rolls-Div i k))
      ∙ ap (λ f. f c) (fold-roll-Atom (ℤ → Option ℤ) (Option ℤ) (times_step s v) (total_step s v) (Atom-F.Div i k))

  through_map : (fs : List Atom) (c : ℤ) → through (map (times s v) fs) c ≡ times_all s v fs c
  through_map [] c = refl
  through_map (f ∷ fs) c = and_then-same _ _ (through_map fs) (times s v f c)

  pub times-Mul : (fs : List Atom) (c : ℤ) → times s v (Mul fs) c ≡ times_all s v fs c
  times-Mul fs c = ap (λ a. times s v a c) (sym (rolls-Mul fs))
      ∙ ap (λ f. f c) (fold-roll-Atom (ℤ → Option ℤ) (Option ℤ) (times_step s v) (total_step s v) (Atom-F.Mul fs)) ∙ through_map fs c

  added_map : (ts : List (Item Atom)) (total : ℤ)
      → added (map (λ t. record { atom = times s v t.atom; coefficient = t.coefficient }) ts) total ≡ added_all s v ts total
  added_map [] total = refl
  added_map (t ∷ ts) total = and_then-same _ _ (added_map ts) (plus total (times s v t.atom t.coefficient))

  pub value-items : (i : Items) → limited_value s v i ≡ plus i.constant (added_all s v i.terms (pos 0))
  value-items i = fold_out-Items (ℤ → Option ℤ) (Option ℤ) (times_step s v) (total_step s v) i
      ∙ ap (plus i.constant) (added_map i.terms (pos 0))

module _ (s v : ℕ) where
  pub ready-Size : (k : ℕ) → atom_ready s v (Size k) ≡ nat_lt k s
  ready-Size k = ap (atom_ready s v) (sym (rolls-Size k)) ∙ fold-roll-Atom Bool Bool (ready_step s v) (scoped_items_step s v) (Atom-F.Size k)

  pub ready-Var : (k : ℕ) → atom_ready s v (Var k) ≡ nat_lt k v
  ready-Var k = ap (atom_ready s v) (sym (rolls-Var k)) ∙ fold-roll-Atom Bool Bool (ready_step s v) (scoped_items_step s v) (Atom-F.Var k)

  pub ready-Div : (i : Items) (k : ℕ) → atom_ready s v (Div i k) ≡ (nat_lt 0 k && items_ready s v i)
  ready-Div i k = ap (atom_ready s v) (sym (rolls-Div i k)) ∙ fold-roll-Atom Bool Bool (ready_step s v) (scoped_items_step s v) (Atom-F.Div i k)

  all_map : (fs : List Atom) → all_true (map (atom_ready s v) fs) ≡ atoms_ready s v fs
  all_map [] = refl
  all_map (f ∷ fs) = ap (λ b. atom_ready s v f && b) (all_map fs)

  pub ready-Mul : (fs : List Atom) → atom_ready s v (Mul fs) ≡ atoms_ready s v fs
  ready-Mul fs = ap (atom_ready s v) (sym (rolls-Mul fs)) ∙ fold-roll-Atom Bool Bool (ready_step s v) (scoped_items_step s v) (Atom-F.Mul fs) ∙ all_map fs

  firsts_map : (ts : List (Item Atom)) → all_firsts (map (λ t. record { atom = atom_ready s v t.atom; coefficient = t.coefficient }) ts) ≡ terms_ready s v ts
  firsts_map [] = refl
  firsts_map (t ∷ ts) = ap (λ b. atom_ready s v t.atom && b) (firsts_map ts)

  pub ready-items : (i : Items) → items_ready s v i ≡ terms_ready s v i.terms
  ready-items i = fold_out-Items Bool Bool (ready_step s v) (scoped_items_step s v) i ∙ firsts_map i.terms

pub ruleset value_laws = (times-Size, times-Var, times-Div, times-Mul, value-items, ready-Size, ready-Var, ready-Div, ready-Mul, ready-items)
