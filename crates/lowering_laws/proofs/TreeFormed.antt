-- The tree that a normal form prints as is well formed.
use Rattle.std.proofs.Common.{◌≡◌, ℕ, ◌-◌, ◌^◌, ◌<◌, List, [], ◌∷◌, map, Bool, true, false, ◌&&◌, ◌==◌, nat_lt, Option, Some, None, if◌then◌else◌}
use Rattle.std.proofs.Common.{sym, ap, ◌∙◌, subst, arith}
use Rattle.std.specs.Prelude.{ℤ, pos, negsuc, unsigned_abs}
use Rattle.std.proofs.lemmas.Bool.{and_from, and_parts, lt-ltb}
use Rattle.affine_index.specs.Limited.{all_firsts, all_true, atom_scoped, items_scoped}
use Rattle.affine_index.specs.Normal.{is_normal}
use Rattle.affine_index.specs.Printed.{is_positive}
use Rattle.affine_index.specs.declared.form.Atom.{Atom}
use Rattle.affine_index.specs.declared.form.Atom.TheVariants.{Size, Var, Div, Mul}
use Rattle.affine_index.specs.declared.form.Item.{Item}
use Rattle.affine_index.specs.declared.form.Items.{Items}
use Rattle.affine_index.proofs.Induction.{Each, EachTerm, for_atoms, for_items}
use Rattle.affine_index.proofs.ReadyLaws.{scoped_term, scoped-Size, scoped-Var, scoped-Div, scoped-Mul, scoped-items}
use Rattle.loop_lang.specs.declared.index.Iexp.{Iexp}
use Rattle.loop_lang.specs.declared.index.Iexp.TheVariants as index
use Rattle.loop_lang.specs.Form.{index_formed, is_divisor}
use Rattle.loop_lang.proofs.IndexForms.{index_sum-is, index_difference-is, index_product-is, index_quotient-is}
use Rattle.index_trees.specs.Tree.{with_factor, with_summand, or_number, leading, item_tree, plus_item, minus_item, plus_constant, minus_constant}
use Rattle.index_trees.specs.Tree.{is_negative, joined_atom, joined_atoms}
use Rattle.index_trees.specs.Tree.{plus_terms, minus_terms, index_tree, tree_after, number_fits, atom_fits, form_fits, atoms_fit, terms_fit}
use Rattle.index_trees.proofs.TreeLaws.{tree-Size, tree-Var, tree-Div, tree-Mul, tree-items, fits-Div, fits-Mul, fits-items}
use Rattle.index_trees.proofs.TreeFits.{normal-fits}

module _ (sizes loops : ℕ) (in_length : Bool) where
  abbrev Good : Iexp → Type 0
  Good x = index_formed sizes in_length x loops ≡ true

  -- a product or a sum so far
  abbrev pub Fine : Option Iexp → Type 0
  Fine None = Unit {0}
  Fine (Some x) = index_formed sizes in_length x loops ≡ true

  factor_fine : (p : Option Iexp) (x : Iexp) → Fine p → Good x → Fine (with_factor p x)
  factor_fine None x h g = g
  factor_fine (Some a) x h g = ap (λ t. index_formed sizes in_length t loops) (index_product-is a x) ∙ and_from _ _ h g

  summand_fine : (p : Option Iexp) (x : Iexp) → Fine p → Good x → Fine (with_summand p x)
  summand_fine None x h g = g
  summand_fine (Some a) x h g = ap (λ t. index_formed sizes in_length t loops) (index_sum-is a x) ∙ and_from _ _ h g

  difference_good : (a x : Iexp) → Good a → Good x → Good (index.Sub a x)
  difference_good a x h g = ap (λ t. index_formed sizes in_length t loops) (index_difference-is a x) ∙ and_from _ _ h g

  or_fine : (n : ℕ) → n < 2 ^ 63 → (p : Option Iexp) → Fine p → Good (or_number (pos n) p)
  or_fine n l None h = lt-ltb n (2 ^ 63) l
  or_fine n l (Some x) h = h

  fits_is : (c : ℤ) → number_fits c ≡ true → unsigned_abs c < 2 ^ 63
  fits_is c h = grind arith

  leading_fine : (n : ℕ) → n < 2 ^ 63 → Fine (leading n)
  leading_fine n l = go (n == 1)
    where
      go : (b : Bool) → Fine (if b then None else Some (index.Lit (pos n)))
      go true = tt
      go false = lt-ltb n (2 ^ 63) l

  -- more factors of an atom
  abbrev AtomFine : Atom → Type 0
  AtomFine a = atom_fits a ≡ true → atom_scoped sizes loops a ≡ true → (p : Option Iexp) → Fine p → Fine (joined_atom loops a p)

  abbrev FormFine : Items → Type 0
  FormFine i = form_fits i ≡ true → items_scoped sizes loops i ≡ true → Good (index_tree loops i)

  size_fine : (s : ℕ) → AtomFine (Size s)
  size_fine s f c p h = subst Fine (sym (tree-Size loops s p)) (factor_fine p (index.Size s) h (sym (scoped-Size sizes loops s) ∙ c))

  var_fine : (v : ℕ) → AtomFine (Var v)
  var_fine v f c p h = subst Fine (sym (tree-Var loops v p)) (factor_fine p (index.Loop (loops - 1 - v)) h
      (lt-ltb (loops - 1 - v) loops (below v loops (sym (scoped-Var sizes loops v) ∙ c))))
    where
      inside : (v n : ℕ) → nat_lt v n ≡ true → v < n
      inside v n e = grind arith

      below : (v n : ℕ) → nat_lt v n ≡ true → n - 1 - v < n
      below v n e = omega (arith, inside v n e)

  div_fine : (i : Items) (k : ℕ) → FormFine i → AtomFine (Div i k)
  div_fine i k g f c p h =
      let fs = and_parts (is_divisor k) (form_fits i) (sym (fits-Div i k) ∙ f) in
      let inner : Good (index_tree loops i) = g fs.1 (sym (scoped-Div sizes loops i k) ∙ c) in
      let whole : Good (index.Div (index_tree loops i) k) = ap (λ t. index_formed sizes in_length t loops) (index_quotient-is (index_tree loops i) k)
      ∙ and_from _ _ inner fs.0 in
      subst Fine (sym (tree-Div loops i k p)) (factor_fine p (index.Div (index_tree loops i) k) h whole)

  factors_fine : (fs : List Atom) → Each AtomFine fs → atoms_fit fs ≡ true → all_true (map (atom_scoped sizes loops) fs) ≡ true → (p : Option Iexp) → Fine p
      → Fine (joined_atoms loops fs p)
  factors_fine [] e f c p h = h
  factors_fine (a ∷ as') e f c p h =
      let fs = and_parts (atom_fits a) (atoms_fit as') f in
      let cs = and_parts (atom_scoped sizes loops a) (all_true (map (atom_scoped sizes loops) as')) c in
      factors_fine as' e.1 fs.1 cs.1 (joined_atom loops a p) (e.0 fs.0 cs.0 p h)

  mul_fine : (fs : List Atom) → Each AtomFine fs → AtomFine (Mul fs)
  mul_fine fs e f c p h = subst Fine (sym (tree-Mul loops fs p)) (factors_fine fs e (sym (fits-Mul fs) ∙ f) (sym (scoped-Mul sizes loops fs) ∙ c) p h)

  -- items whose trees are well formed
  abbrev EachGood : List (Item Atom) → Type 0
  EachGood [] = Unit {0}
  EachGood (t ∷ ts) = Good (item_tree t.coefficient (joined_atom loops t.atom)) × EachGood ts

  items_good : (ts : List (Item Atom)) → EachTerm AtomFine ts → terms_fit ts ≡ true → all_firsts (map (scoped_term sizes loops) ts) ≡ true → EachGood ts
  items_good [] e f c = tt
  items_good (t ∷ ts) e f c =
      let fs = and_parts (number_fits t.coefficient && atom_fits t.atom) (terms_fit ts) f in
      let gs = and_parts (number_fits t.coefficient) (atom_fits t.atom) fs.0 in
      let cs = and_parts (atom_scoped sizes loops t.atom) (all_firsts (map (scoped_term sizes loops) ts)) c in
      let n = unsigned_abs t.coefficient in (
        or_fine 1 (omega arith) (joined_atom loops t.atom (leading n)) (e.0 gs.1 cs.0 (leading n) (leading_fine n (fits_is t.coefficient gs.0))),
        items_good ts e.1 fs.1 cs.1,
      )

  plus_fine : (ts : List (Item Atom)) → EachGood ts → (a : Option Iexp) → Fine a → Fine (plus_terms loops ts a)
  plus_fine [] g a h = h
  plus_fine (t ∷ ts) g a h = plus_fine ts g.1 (plus_item t.coefficient (joined_atom loops t.atom) a) (go (is_positive t.coefficient))
    where
      go : (b : Bool) → Fine (if b then with_summand a (item_tree t.coefficient (joined_atom loops t.atom)) else a)
      go true = summand_fine a (item_tree t.coefficient (joined_atom loops t.atom)) h g.0
      go false = h

  minus_good : (ts : List (Item Atom)) → EachGood ts → (a : Iexp) → Good a → Good (minus_terms loops ts a)
  minus_good [] g a h = h
  minus_good (t ∷ ts) g a h = minus_good ts g.1 (minus_item t.coefficient (joined_atom loops t.atom) a) (go (is_negative t.coefficient))
    where
      go : (b : Bool) → Good (if b then index.Sub a (item_tree t.coefficient (joined_atom loops t.atom)) else a)
      go true = difference_good a (item_tree t.coefficient (joined_atom loops t.atom)) h g.0
      go false = h

  plus_last : (c : ℤ) → number_fits c ≡ true → (a : Option Iexp) → Fine a → Fine (plus_constant c a)
  plus_last (negsuc n) f a h = h
  plus_last (pos n) f a h = go (is_positive (pos n))
    where
      go : (b : Bool) → Fine (if b then with_summand a (index.Lit (pos n)) else a)
      go true = summand_fine a (index.Lit (pos n)) h (lt-ltb n (2 ^ 63) (fits_is (pos n) f))
      go false = h

  minus_last : (c : ℤ) → number_fits c ≡ true → (a : Iexp) → Good a → Good (minus_constant c a)
  minus_last c f a h = go (is_negative c)
    where
      go : (b : Bool) → Good (if b then index.Sub a (index.Lit (pos (unsigned_abs c))) else a)
      go true = difference_good a (index.Lit (pos (unsigned_abs c))) h (lt-ltb (unsigned_abs c) (2 ^ 63) (fits_is c f))
      go false = h

  -- the tree of a form behind a first summand
  after_good : (i : Items) → EachTerm AtomFine i.terms → form_fits i ≡ true → items_scoped sizes loops i ≡ true → (a : Option Iexp) → Fine a
      → Good (tree_after loops a i)
  after_good i e f c a h =
      let fs = and_parts (number_fits i.constant) (terms_fit i.terms) (sym (fits-items i) ∙ f) in
      let each = items_good i.terms e fs.1 (sym (scoped-items sizes loops i) ∙ c) in
      minus_last i.constant fs.0 _
      (minus_good i.terms each _ (or_fine 0 (omega arith) (plus_constant i.constant (plus_terms loops i.terms a))
      (plus_last i.constant fs.0 (plus_terms loops i.terms a) (plus_fine i.terms each a h))))

  form_fine : (ts : List (Item Atom)) (c : ℤ) → EachTerm AtomFine ts → FormFine (record { terms = ts; constant = c })
  form_fine ts c e f s =
      let i : Items = record { terms = ts; constant = c } in
      ap (λ t. index_formed sizes in_length t loops) (tree-items loops i) ∙ after_good i e f s None tt

  atom_fine : (ts : List (Item Atom)) → EachTerm AtomFine ts
  atom_fine [] = tt
  atom_fine (t ∷ ts) = (for_atoms AtomFine FormFine size_fine var_fine div_fine mul_fine form_fine t.atom, atom_fine ts)

  -- the tree of a normal form over so many sizes, under so many loops
  pub tree_formed : (i : Items) → is_normal i ≡ true → items_scoped sizes loops i ≡ true → index_formed sizes in_length (index_tree loops i) loops ≡ true
  tree_formed i n s = for_items AtomFine FormFine size_fine var_fine div_fine mul_fine form_fine i (normal-fits i n) s

  -- and behind a first summand
  pub tree_after_formed : (i : Items) → is_normal i ≡ true → items_scoped sizes loops i ≡ true → (a : Option Iexp) → Fine a
      → index_formed sizes in_length (tree_after loops a i) loops ≡ true
  tree_after_formed i n s a h = after_good i (atom_fine i.terms) (normal-fits i n) s a h
