-- A scoped normal form can be computed.
use Rattle.std.proofs.Common.{◌≡◌, ℕ, List, [], ◌∷◌, map, refl, ap, sym, ◌∙◌, arith, Bool, true, nat_lt, nat_le, ◌+◌, ◌<◌, length, drop, get_or}
use Rattle.std.specs.Prelude.{ℤ}
use Rattle.std.proofs.lemmas.Bool.{and_from, and_parts}
use Rattle.affine_index.specs.Every.{atoms_every, terms_every}
use Rattle.affine_index.specs.Limited.{scoped_step, scoped_items_step, atom_scoped, items_scoped, atom_ready, items_ready, atoms_ready, terms_ready, all_true}
use Rattle.affine_index.specs.Limited.{all_firsts}
use Rattle.affine_index.specs.Normal.{atom_good, atom_is_ordered, is_normal, is_ordered, items_good, layer_good}
use Rattle.affine_index.proofs.EveryLaws.{every-Div, every-Mul, every-items}
use Rattle.affine_index.proofs.Induction.{Each, EachTerm, for_items}
use Rattle.affine_index.proofs.LimitedLaws.{ready-Size, ready-Var, ready-Div, ready-Mul, ready-items}
use Rattle.affine_index.proofs.Lists.{drop-item}
use Rattle.affine_index.specs.declared.form.Atom.{Atom, out-Atom}
use Rattle.affine_index.specs.declared.form.Item.{Item}
use Rattle.affine_index.specs.declared.form.Items.{Items}
use Rattle.affine_index.specs.declared.form.Atom.TheVariants.{Size, Var, Div, Mul, rolls-Size, rolls-Var, rolls-Mul, rolls-Div}
use Rattle.affine_index.specs.declared.form.Atom.TheOpen.{Atom-F}
use Rattle.affine_index.specs.declared.form.Atom.TheViews.{out-roll-Atom}
use Rattle.affine_index.specs.declared.form.Atom.TheFolds.{fold-roll-Atom, fold_out-Items}

-- one level of an atom, by its name
pub out-Size : (s : ℕ) → out-Atom (Size s) ≡ Atom-F.Size s
out-Size s = ap out-Atom (sym (rolls-Size s)) ∙ out-roll-Atom (Atom-F.Size s)

pub out-Var : (v : ℕ) → out-Atom (Var v) ≡ Atom-F.Var v
out-Var v = ap out-Atom (sym (rolls-Var v)) ∙ out-roll-Atom (Atom-F.Var v)

pub out-Div : (i : Items) (k : ℕ) → out-Atom (Div i k) ≡ Atom-F.Div i k
out-Div i k = ap out-Atom (sym (rolls-Div i k)) ∙ out-roll-Atom (Atom-F.Div i k)

pub out-Mul : (fs : List Atom) → out-Atom (Mul fs) ≡ Atom-F.Mul fs
out-Mul fs = ap out-Atom (sym (rolls-Mul fs)) ∙ out-roll-Atom (Atom-F.Mul fs)

pub good-Div : (i : Items) (k : ℕ) → atom_good (Div i k) ≡ layer_good (Atom-F.Div i k)
good-Div i k = ap layer_good (out-Div i k)

pub good-Mul : (fs : List Atom) → atom_good (Mul fs) ≡ layer_good (Atom-F.Mul fs)
good-Mul fs = ap layer_good (out-Mul fs)

-- an ordered quotient's divisor and dividend
pub ordered-Div : (i : Items) (k : ℕ) → atom_is_ordered (Div i k) ≡ true → (layer_good (Atom-F.Div i k) ≡ true) × (is_ordered i ≡ true)
ordered-Div i k h =
    let parts = and_parts (atom_good (Div i k)) (is_ordered i) (sym (every-Div atom_good items_good i k) ∙ h) in
    (sym (good-Div i k) ∙ parts.0, parts.1)

pub ordered-Mul : (fs : List Atom) → atom_is_ordered (Mul fs) ≡ true → (layer_good (Atom-F.Mul fs) ≡ true) × (atoms_every atom_good items_good fs ≡ true)
ordered-Mul fs h =
    let parts = and_parts (atom_good (Mul fs)) (atoms_every atom_good items_good fs) (sym (every-Mul atom_good items_good fs) ∙ h) in
    (sym (good-Mul fs) ∙ parts.0, parts.1)

pub ordered-items : (i : Items) → is_ordered i ≡ true → (items_good i ≡ true) × (terms_every atom_good items_good i.terms ≡ true)
ordered-items i h = and_parts (items_good i) (terms_every atom_good items_good i.terms) (sym (every-items atom_good items_good i) ∙ h)

pub divisor_at_least_2 : (i : Items) (k : ℕ) → layer_good (Atom-F.Div i k) ≡ true → nat_le 2 k ≡ true
divisor_at_least_2 i k h = (and_parts (nat_le 2 k) _ h).0

positive : (k : ℕ) → nat_le 2 k ≡ true → nat_lt 0 k ≡ true
positive k h = grind arith

module _ (s v : ℕ) where
  pub scoped-Size : (k : ℕ) → atom_scoped s v (Size k) ≡ nat_lt k s
  scoped-Size k = ap (atom_scoped s v) (sym (rolls-Size k)) ∙ fold-roll-Atom Bool Bool (scoped_step s v) (scoped_items_step s v) (Atom-F.Size k)

  pub scoped-Var : (k : ℕ) → atom_scoped s v (Var k) ≡ nat_lt k v
  scoped-Var k = ap (atom_scoped s v) (sym (rolls-Var k)) ∙ fold-roll-Atom Bool Bool (scoped_step s v) (scoped_items_step s v) (Atom-F.Var k)

  pub scoped-Div : (i : Items) (k : ℕ) → atom_scoped s v (Div i k) ≡ items_scoped s v i
  scoped-Div i k = ap (atom_scoped s v) (sym (rolls-Div i k)) ∙ fold-roll-Atom Bool Bool (scoped_step s v) (scoped_items_step s v) (Atom-F.Div i k)

  pub scoped-Mul : (fs : List Atom) → atom_scoped s v (Mul fs) ≡ all_true (map (atom_scoped s v) fs)
  scoped-Mul fs = ap (atom_scoped s v) (sym (rolls-Mul fs)) ∙ fold-roll-Atom Bool Bool (scoped_step s v) (scoped_items_step s v) (Atom-F.Mul fs)

  abbrev pub scoped_term : Item Atom → Item Bool
  scoped_term t = record { atom = atom_scoped s v t.atom; coefficient = t.coefficient }

  pub scoped-items : (i : Items) → items_scoped s v i ≡ all_firsts (map scoped_term i.terms)
  scoped-items i = fold_out-Items Bool Bool (scoped_step s v) (scoped_items_step s v) i

  abbrev AtomReady : Atom → Type 0
  AtomReady a = atom_is_ordered a ≡ true → atom_scoped s v a ≡ true → atom_ready s v a ≡ true

  abbrev FormReady : Items → Type 0
  FormReady i = is_ordered i ≡ true → items_scoped s v i ≡ true → items_ready s v i ≡ true

  size_ready : (k : ℕ) → AtomReady (Size k)
  size_ready k o h = ready-Size s v k ∙ sym (scoped-Size k) ∙ h

  var_ready : (k : ℕ) → AtomReady (Var k)
  var_ready k o h = ready-Var s v k ∙ sym (scoped-Var k) ∙ h

  div_ready : (i : Items) (k : ℕ) → FormReady i → AtomReady (Div i k)
  div_ready i k r o h =
      let parts = ordered-Div i k o in
      ready-Div s v i k ∙ and_from _ _ (positive k (divisor_at_least_2 i k parts.0)) (r parts.1 (sym (scoped-Div i k) ∙ h))

  all_ready : (fs : List Atom) → Each AtomReady fs → atoms_every atom_good items_good fs ≡ true → all_true (map (atom_scoped s v) fs) ≡ true
      → atoms_ready s v fs ≡ true
  all_ready [] r o h = refl
  all_ready (f ∷ fs) r o h =
      let os = and_parts (atom_is_ordered f) (atoms_every atom_good items_good fs) o in
      let hs = and_parts (atom_scoped s v f) (all_true (map (atom_scoped s v) fs)) h in
      and_from _ _ (r.0 os.0 hs.0) (all_ready fs r.1 os.1 hs.1)

  mul_ready : (fs : List Atom) → Each AtomReady fs → AtomReady (Mul fs)
  mul_ready fs r o h = ready-Mul s v fs ∙ all_ready fs r (ordered-Mul fs o).1 (sym (scoped-Mul fs) ∙ h)

  all_terms_ready : (ts : List (Item Atom)) → EachTerm AtomReady ts → terms_every atom_good items_good ts ≡ true → all_firsts (map scoped_term ts) ≡ true
      → terms_ready s v ts ≡ true
  all_terms_ready [] r o h = refl
  all_terms_ready (t ∷ ts) r o h =
      let os = and_parts (atom_is_ordered t.atom) (terms_every atom_good items_good ts) o in
      let hs = and_parts (atom_scoped s v t.atom) (all_firsts (map scoped_term ts)) h in
      and_from _ _ (r.0 os.0 hs.0) (all_terms_ready ts r.1 os.1 hs.1)

  form_ready : (ts : List (Item Atom)) (c : ℤ) → EachTerm AtomReady ts → FormReady (record { terms = ts; constant = c })
  form_ready ts c r o h =
      let form : Items = record { terms = ts; constant = c } in
      ready-items s v form ∙ all_terms_ready ts r (ordered-items form o).1 (sym (scoped-items form) ∙ h)

  ordered-ready : (i : Items) → FormReady i
  ordered-ready = for_items AtomReady FormReady size_ready var_ready div_ready mul_ready form_ready

  -- a scoped normal form can be computed
  pub normal-ready : (i : Items) → is_normal i ≡ true → items_scoped s v i ≡ true → items_ready s v i ≡ true
  normal-ready i n = ordered-ready i (and_parts (is_ordered i) _ n).0

pub atoms-ready-next : (s v : ℕ) (fs : List Atom) (at : ℕ) (x : Atom) → at < length fs → x ≡ get_or fs at x → atoms_ready s v (drop at fs) ≡ true
    → atoms_ready s v (drop (at + 1) fs) ≡ true
atoms-ready-next s v fs at x h e r =
    let d : drop at fs ≡ x ∷ drop (at + 1) fs = drop-item fs at x h e in
    (and_parts (atom_ready s v x) (atoms_ready s v (drop (at + 1) fs)) (sym (ap (atoms_ready s v) d) ∙ r)).1
