-- A value below the limit is the value.
use Rattle.std.proofs.Common.{◌≡◌, ℕ, List, [], ◌∷◌, map, refl, ap, sym, ◌∙◌, subst, Option, Some, None, arith}
use Rattle.std.specs.Prelude.{ℤ, pos, ◌+ℤ◌, ◌*ℤ◌, IfSome}
use Rattle.std.specs.Int.{int_div_euclid}
use Rattle.std.proofs.lemmas.Option.{option_and_then_some}
use Rattle.std.proofs.lemmas.Int.{ints}
use Rattle.std.proofs.Math.IntN.{*ℤ-one}
use Rattle.affine_index.proofs.Ring.{*ℤ_assoc}
use Rattle.affine_index.specs.Value.{product, weighted, atom_step, items_step, atom_value, items_value}
use Rattle.affine_index.specs.Limited.{limited, through, plus, added, times_step, total_step, times, limited_value}
use Rattle.affine_index.specs.declared.form.Atom.{Atom}
use Rattle.affine_index.specs.declared.form.Items.{Items}
use Rattle.affine_index.specs.declared.form.Item.{Item}
use Rattle.affine_index.specs.declared.form.Atom.TheOpen.{Atom-F, Items-F}
use Rattle.affine_index.specs.declared.form.Atom.TheViews.{roll-Atom, roll-Items}
use Rattle.affine_index.specs.declared.form.Atom.TheFolds.{fold-roll-Atom, fold-roll-Items, map-Atom, map-Items, ind-Items}

limited-some : (z x : ℤ) → limited z ≡ Some x → x ≡ z
limited-some z x e = grind arith

plus-some : {P : Type 0} (c : ℤ) (o : Option ℤ) (y : ℤ) → plus c o ≡ Some y → ((w : ℤ) → o ≡ Some w → y ≡ c +ℤ w → P) → P
plus-some c None y e k = absurd (cc)
plus-some c (Some w) y e k = k w refl (limited-some (c +ℤ w) y e)

module _ (s v : List ℕ) where
  abbrev AtomAgrees : Atom → Type 0
  AtomAgrees a = (c x : ℤ) → times s v a c ≡ Some x → x ≡ c *ℤ atom_value s v a

  abbrev ItemsAgree : Items → Type 0
  ItemsAgree i = (x : ℤ) → limited_value s v i ≡ Some x → x ≡ items_value s v i

  abbrev GoodAtom : Type 0
  GoodAtom = (a : Atom) × AtomAgrees a

  abbrev GoodItems : Type 0
  GoodItems = (i : Items) × ItemsAgree i

  through-some : (ps : List GoodAtom) (c x : ℤ) → through (map (times s v) (map (λ p. p.0) ps)) c ≡ Some x
      → x ≡ c *ℤ product (map (atom_value s v) (map (λ p. p.0) ps))
  through-some [] c x e = grind (arith, *ℤ-one c)
  through-some (p ∷ ps) c x e =
      option_and_then_some (through (map (times s v) (map (λ q. q.0) ps))) (times s v p.0 c) x e
      (λ y first rest. through-some ps y x rest ∙ ap (λ w. w *ℤ product (map (atom_value s v) (map (λ q. q.0) ps))) (p.1 c y first)
      ∙ *ℤ_assoc c (atom_value s v p.0) (product (map (atom_value s v) (map (λ q. q.0) ps))))

  abbrev with_atom : {A B : Type 0} → (A → B) → Item A → Item B
  with_atom f t = record { atom = f t.atom; coefficient = t.coefficient }

  added-some : (ts : List (Item GoodAtom)) (c x : ℤ)
      → added (map (with_atom (times s v)) (map (with_atom (λ p. p.0)) ts)) c ≡ Some x
      → x ≡ c +ℤ weighted (map (with_atom (atom_value s v)) (map (with_atom (λ p. p.0)) ts))
  added-some [] c x e = grind (arith, ints)
  added-some (t ∷ ts) c x e =
      option_and_then_some (added (map (with_atom (times s v)) (map (with_atom (λ p. p.0)) ts))) (plus c (times s v t.atom.0 t.coefficient)) x e
      (λ y first rest. plus-some c (times s v t.atom.0 t.coefficient) y first
      (λ w is sum. let a = t.atom.1 t.coefficient w is in let b = added-some ts y x rest in omega (arith, ints, a, b, sum)))

  atom_case : (y : Atom-F GoodAtom GoodItems) → AtomAgrees (roll-Atom (map-Atom GoodAtom GoodItems Atom Items (λ e. e.0) (λ e. e.0) y))
  atom_case (Atom-F.Size k) c x e =
      rw (fold-roll-Atom _ _ (atom_step s v) (items_step s v) (Atom-F.Size k))
      (limited-some _ x (ap (λ f. f c) (sym (fold-roll-Atom _ _ (times_step s v) (total_step s v) (Atom-F.Size k))) ∙ e))
  atom_case (Atom-F.Var k) c x e =
      rw (fold-roll-Atom _ _ (atom_step s v) (items_step s v) (Atom-F.Var k))
      (limited-some _ x (ap (λ f. f c) (sym (fold-roll-Atom _ _ (times_step s v) (total_step s v) (Atom-F.Var k))) ∙ e))
  atom_case (Atom-F.Div i k) c x e =
      rw (fold-roll-Atom _ _ (atom_step s v) (items_step s v) (Atom-F.Div i.0 k))
      (option_and_then_some (λ w. limited (c *ℤ int_div_euclid w (pos k))) (limited_value s v i.0) x
      (ap (λ f. f c) (sym (fold-roll-Atom _ _ (times_step s v) (total_step s v) (Atom-F.Div i.0 k))) ∙ e)
      (λ w is last. limited-some _ x last ∙ ap (λ z. c *ℤ int_div_euclid z (pos k)) (i.1 w is)))
  atom_case (Atom-F.Mul fs) c x e =
      rw (fold-roll-Atom _ _ (atom_step s v) (items_step s v) (Atom-F.Mul (map (λ p. p.0) fs)))
      (through-some fs c x (ap (λ f. f c) (sym (fold-roll-Atom _ _ (times_step s v) (total_step s v) (Atom-F.Mul (map (λ p. p.0) fs)))) ∙ e))

  items_case : (y : Items-F GoodAtom GoodItems) → ItemsAgree (roll-Items (map-Items GoodAtom GoodItems Atom Items (λ e. e.0) (λ e. e.0) y))
  items_case y x e =
      rw (fold-roll-Items _ _ (atom_step s v) (items_step s v) (map-Items GoodAtom GoodItems Atom Items (λ p. p.0) (λ p. p.0) y))
      (plus-some y.constant (added (map (with_atom (times s v)) (map (with_atom (λ p. p.0)) y.terms)) (pos 0)) x
      (sym (fold-roll-Items _ _ (times_step s v) (total_step s v) (map-Items GoodAtom GoodItems Atom Items (λ p. p.0) (λ p. p.0) y)) ∙ e)
      (λ w is sum. let b = added-some y.terms (pos 0) w is in omega (arith, ints, b, sum)))

  pub value-agrees : (i : Items) (x : ℤ) → limited_value s v i ≡ Some x → x ≡ items_value s v i
  value-agrees = ind-Items AtomAgrees ItemsAgree (λ x y is. subst (λ z. AtomAgrees (roll-Atom z)) is (atom_case y))
      (λ x y is. subst (λ z. ItemsAgree (roll-Items z)) is (items_case y))

pub value-is : (s v : List ℕ) (i : Items) (o : Option ℤ) → o ≡ limited_value s v i → IfSome o (λ x. x ≡ items_value s v i)
value-is s v i None e = tt
value-is s v i (Some x) e = value-agrees s v i x (sym e)
