-- Where the tensors of a scene stand, and how far printed indices are small.
use Rattle.std.proofs.Common.{◌≡◌, ℕ, zero, suc, ◌+◌, ◌<◌, List, [], ◌∷◌, ◌++◌, length, get_or, drop, drop-cons, add-one, refl, ap, sym, ◌∙◌, arith}
use Rattle.std.proofs.Common.{Ok, Err, IfOk, Option, Some, None, true}
use Rattle.std.specs.Prelude.{pos}
use Rattle.std.proofs.lemmas.Bool.{and_parts}
use Rattle.affine_index.specs.Condition.{all_scoped, cmp_form}
use Rattle.affine_index.specs.declared.cond.Cmp.{Cmp}
use Rattle.affine_index.specs.Form.{literal_form}
use Rattle.affine_index.specs.Limited.{items_scoped}
use Rattle.affine_index.specs.declared.form.Items.{Items}
use Rattle.affine_index.specs.declared.cond.Cond.{Cond}
use Rattle.reindexer.specs.Limited.{Answers, Limited, limited}
use Rattle.reindexer.specs.Places.{row_place}
use Rattle.shape_rules.specs.Scopes.{given}
use Rattle.term_tree.specs.Shape.{Extents}
use Rattle.term_tree.specs.declared.term.Term.{Term, Lit, TVar, WordOf}
use Rattle.term_tree.specs.Syntax.{index, gen, sum, guard, let_in, add, sub, mul, concat, flatten, split, transpose, trunc_l, trunc_r, pad_l, pad_r}
use Rattle.final_rules.specs.Form.{read_under}
use Rattle.final_rules.specs.Places.{Place, in_guard, nowhere}
use Rattle.final_rules.specs.Printed.{Printed, behind, comparisons, form_small, greatest, is_small, plain, printed_at, read_place, read_place_if}
use Rattle.final_rules.specs.Printed.{word_printed}
use Rattle.final_rules.specs.Printing.{ReadReady, Sized, Stands, and_then, compared, next, read_sized, sited, sites_of, sized, word_sized}
use Rattle.final_rules.proofs.Walk.{scope-holds}
use Rattle.final_rules.specs.declared.printing.Scene.{Scene}
use Rattle.final_rules.specs.declared.read.Read.{Read}

pub site-extents : (ts : List Extents) (os : List Items) (q : ℕ) → (get_or (sites_of ts os) q nowhere).extents ≡ get_or ts q []
site-extents [] os q = refl
site-extents (ns ∷ ts) [] zero = refl
site-extents (ns ∷ ts) (o ∷ os) zero = refl
site-extents (ns ∷ ts) [] (suc q) = site-extents ts [] q
site-extents (ns ∷ ts) (o ∷ os) (suc q) = site-extents ts os q

pub site-offset : (ts : List Extents) (os : List Items) (q : ℕ) → q < length ts
    → (get_or (sites_of ts os) q nowhere).offset ≡ get_or os q (literal_form (pos 0))
site-offset [] os q l = absurd (omega (arith, l))
site-offset (ns ∷ ts) [] zero l = refl
site-offset (ns ∷ ts) (o ∷ os) zero l = refl
site-offset (ns ∷ ts) [] (suc q) l = site-offset ts [] q (omega (arith, l))
site-offset (ns ∷ ts) (o ∷ os) (suc q) l = site-offset ts os q (omega (arith, l))

pub sited-is : (scene : Scene) (q : ℕ) (xs : List Items) (offset : Items) (extents : Extents) → q < length (given scene.shapes)
    → offset ≡ get_or scene.offsets q (literal_form (pos 0))
    → extents ≡ get_or (given scene.shapes) q [] → behind offset (row_place extents xs) ≡ sited scene q xs
sited-is scene q xs offset extents l e f i =
    behind ((e ∙ sym (site-offset (given scene.shapes) scene.offsets q l)) i) (row_place ((f ∙ sym (site-extents (given scene.shapes) scene.offsets q)) i) xs)

-- the first indices, then the others
pub sized-append : (maxima : List ℕ) (xs ys : List Printed) (k : ℕ) → sized maxima (xs ++ ys) k ≡ and_then (sized maxima xs k) (sized maxima ys)
sized-append maxima [] ys k = refl
sized-append maxima (x ∷ xs) ys k = by (next (is_small maxima x) k) (sized-append maxima xs ys)
  where
    by : (s : Sized) → ((j : ℕ) → sized maxima (xs ++ ys) j ≡ and_then (sized maxima xs j) (sized maxima ys))
        → and_then s (sized maxima (xs ++ ys)) ≡ and_then (and_then s (sized maxima xs)) (sized maxima ys)
    by (Ok j) rest = rest j
    by (Err j) rest = refl

-- the place of a read that is ready is over the sizes and variables
pub read-scoped : (maxima vars : List ℕ) (scene : Scene) (d : Read) (r : Limited Items) → ReadReady maxima vars scene (Some d)
    → Answers (sited scene d.var d.indices) r
    → IfOk r (λ x. items_scoped (length maxima) (length vars) x ≡ true)
read-scoped maxima vars scene d (Ok x) h a = h.2 x a
read-scoped maxima vars scene d (Err e) h a = tt

-- the rest of comparisons from one of them on
pub comparison-here : (sizes vars : ℕ) (cs : List Cmp) (i : ℕ) (c : Cmp) → c ≡ get_or cs i c → i < length cs → all_scoped sizes vars (drop i cs) ≡ true
    → (items_scoped sizes vars (cmp_form c) ≡ true) × (all_scoped sizes vars (drop (i + 1) cs) ≡ true)
comparison-here sizes vars cs i c e l h =
    let rest : drop i cs ≡ c ∷ drop (i + 1) cs = drop-cons cs i c l ∙ (λ j. sym e j ∷ drop (sym (add-one i) j) cs) in
    and_parts (items_scoped sizes vars (cmp_form c)) (all_scoped sizes vars (drop (i + 1) cs)) (ap (all_scoped sizes vars) (sym rest) ∙ h)

-- what is next is all
and-done : (s : Sized) → s ≡ and_then s (λ j. Ok j)
and-done (Ok j) = refl
and-done (Err j) = refl

and-same : (s : Sized) (f g : ℕ → Sized) → ((j : ℕ) → f j ≡ g j) → and_then s f ≡ and_then s g
and-same (Ok j) f g h = h j
and-same (Err j) f g h = refl

module _ (maxima vars : List ℕ) (scene : Scene) where
  small-is : (p : Place) (l : Limited Items) → Stands maxima vars scene p → form_small maxima vars l ≡ is_small maxima (printed_at p l)
  small-is p l h = ap (λ v. form_small maxima v l) (sym h.most)

  compared-is : (cs : List Cmp) (p : Place) (k : ℕ) → Stands maxima vars scene p → compared maxima vars cs k ≡ sized maxima (comparisons cs p) k
  compared-is [] p k h = refl
  compared-is (c ∷ cs) p k h =
      ap (λ b. and_then (next b k) (compared maxima vars cs)) (small-is p (limited (cmp_form c)) h)
      ∙ and-same (next (is_small maxima (plain (cmp_form c) p)) k) (compared maxima vars cs) (sized maxima (comparisons cs p)) (λ j. compared-is cs p j h)

  read-is : (o : Option Read) (p : Place) (k : ℕ) → Stands maxima vars scene p → read_sized maxima vars scene o k ≡ sized maxima (read_place_if o p) k
  read-is None p k h = refl
  read-is (Some d) p k h =
      ap (λ xs. next (form_small maxima vars (behind (get_or xs d.var nowhere).offset (row_place (get_or xs d.var nowhere).extents d.indices))) k) (sym h.sites)
      ∙ ap (λ b. next b k) (small-is p (read_place d p).form h) ∙ and-done (next (is_small maxima (read_place d p)) k)

  guard-stands : (p : Place) (c : Cond) → Stands maxima vars scene p → Stands maxima vars scene (in_guard c p)
  guard-stands p c h = record { sites = h.sites; most = ap (greatest maxima) (scope-holds p.spot.path c []) ∙ h.most }

  -- the indices of a word are small as far as the walk of it says
  pub word-is : (e : Term) (p : Place) (k : ℕ) → Stands maxima vars scene p → word_sized maxima vars scene e k ≡ sized maxima (word_printed e p) k
  word-is (Lit w) p k h = refl
  word-is (WordOf x) p k h = ap (λ b. next b k) (small-is p (limited x) h) ∙ and-done (next (is_small maxima (plain x p)) k)
  word-is (TVar q) p k h = read-is (read_under (TVar q) []) p k h
  word-is (index e x) p k h = read-is (read_under (index e x) []) p k h
  word-is (guard c e) p k h =
      ap (λ s. and_then s (word_sized maxima vars scene e)) (compared-is c.all p k h)
      ∙ and-same (sized maxima (comparisons c.all p) k) (word_sized maxima vars scene e) (sized maxima (word_printed e (in_guard c p)))
      (λ j. word-is e (in_guard c p) j (guard-stands p c h))
      ∙ sym (sized-append maxima (comparisons c.all p) (word_printed e (in_guard c p)) k)
  word-is (add a b) p k h =
      ap (λ s. and_then s (word_sized maxima vars scene b)) (word-is a p k h)
      ∙ and-same (sized maxima (word_printed a p) k) (word_sized maxima vars scene b) (sized maxima (word_printed b p)) (λ j. word-is b p j h)
      ∙ sym (sized-append maxima (word_printed a p) (word_printed b p) k)
  word-is (sub a b) p k h =
      ap (λ s. and_then s (word_sized maxima vars scene b)) (word-is a p k h)
      ∙ and-same (sized maxima (word_printed a p) k) (word_sized maxima vars scene b) (sized maxima (word_printed b p)) (λ j. word-is b p j h)
      ∙ sym (sized-append maxima (word_printed a p) (word_printed b p) k)
  word-is (mul a b) p k h =
      ap (λ s. and_then s (word_sized maxima vars scene b)) (word-is a p k h)
      ∙ and-same (sized maxima (word_printed a p) k) (word_sized maxima vars scene b) (sized maxima (word_printed b p)) (λ j. word-is b p j h)
      ∙ sym (sized-append maxima (word_printed a p) (word_printed b p) k)
  word-is (gen n e) p k h = refl
  word-is (sum n e) p k h = refl
  word-is (let_in a b) p k h = refl
  word-is (concat a b) p k h = refl
  word-is (flatten e) p k h = refl
  word-is (split m e) p k h = refl
  word-is (transpose e) p k h = refl
  word-is (trunc_l n e) p k h = refl
  word-is (trunc_r n e) p k h = refl
  word-is (pad_l n e) p k h = refl
  word-is (pad_r n e) p k h = refl
