-- A sum of one term is that term.
use Rattle.std.proofs.Common.{◌≡◌, ℕ, zero, suc, ◌+◌, ◌%◌, ◌^◌, ◌<◌, List, [], ◌∷◌, length, refl, ap, sym, ◌∙◌, subst, arith, Bool, true, false, Ok}
use Rattle.std.specs.Prelude.{pos}
use Rattle.std.proofs.lemmas.Bool.{and_parts}
use Rattle.affine_index.specs.Form.{literal_form}
use Rattle.affine_index.specs.Limited.{items_scoped}
use Rattle.affine_index.specs.Normal.{is_ordered}
use Rattle.affine_index.specs.declared.form.Items.{Items}
use Rattle.affine_index.proofs.OrderedLaws.{literal-ordered}
use Rattle.affine_index.proofs.ReadyLaws.{scoped-items}
use Rattle.affine_index.proofs.Values.{value-literal}
use Rattle.binders.proofs.Substitution.{AllOrdered}
use Rattle.fact_list.specs.Facts.{binders}
use Rattle.shape_rules.specs.Fits.{LiteralsFit}
use Rattle.shape_rules.specs.Scopes.{given}
use Rattle.shape_rules.proofs.DenShape.{den_shape}
use Rattle.shape_rules.proofs.DenWords.{den_words}
use Rattle.shape_rules.proofs.SameLaws.{same_form-equal}
use Rattle.term_tree.specs.Limits.{every_form, form_step}
use Rattle.term_tree.specs.Meaning.{Bound, count_of, den, dims, extent, extents_of}
use Rattle.term_tree.specs.Scope.{term_scoped}
use Rattle.term_tree.specs.Shape.{same_form, shape_of}
use Rattle.term_tree.specs.Shaped.{HasRows, HasShape, HasWords}
use Rattle.term_tree.specs.Syntax.{sum}
use Rattle.term_tree.specs.Tensors.{End, Row, Tensor, Word, copies, from_rows, plus_places, tabulate, total, zeros}
use Rattle.term_tree.specs.declared.term.Term.{Term}
use Rattle.term_tree.proofs.Folds.{fold-sum}
use Rattle.path_focus.specs.Focus.{IsProper, Reached}
use Rattle.path_focus.specs.Making.{lowered}
use Rattle.path_focus.specs.Outcome.{Makes, MeantKeeps, RuleKeeps, without_arguments}
use Rattle.path_focus.specs.declared.place.Focus.{Focus}
use Rattle.path_focus.specs.declared.rule.Arg.{Arg}
use Rattle.path_focus.proofs.MakingLaws.{with_index-extents, with_index-goals, with_index-means, with_index-scoped, with_index-shape}
use Rattle.path_focus.proofs.ShapeSteps.{same_shape_there}
use Rattle.rule_parts.proofs.Replacing.{Replaces, Stands, anywhere, replaced_anywhere}
use Rattle.rule_parts.proofs.ShapeLaws.{first_ok, handed_on}
use Rattle.rule_parts.specs.Patterns.{provided}
use Rattle.rules_loop.specs.OneTurn.{sum_one}

word_plus_none : (w : ℕ) → w < 2 ^ 64 → (w + 0) % 2 ^ 64 ≡ w
word_plus_none w h = omega (arith, h)

-- zeros added to a tensor of words
module _ (z : Tensor) (P : Tensor → Type 0) (each : (x : Tensor) → P x → HasWords x → plus_places x z ≡ x) where
  rows_plus : (n : ℕ) (x : Tensor) → HasRows P n x → HasWords x → plus_places x (from_rows (copies n z)) ≡ x
  rows_plus zero End h w = refl
  rows_plus zero (Word v) h w = absurd h
  rows_plus zero (Row a b) h w = absurd h
  rows_plus (suc n) End h w = absurd h
  rows_plus (suc n) (Word v) h w = absurd h
  rows_plus (suc n) (Row a b) h w = λ i. Row (each a h.0 w.0 i) (rows_plus n b h.1 w.1 i)

pub plus_zeros : (d : List ℕ) (x : Tensor) → HasShape d x → HasWords x → plus_places x (zeros d) ≡ x
plus_zeros [] (Word w) h k = ap Word (word_plus_none w k)
plus_zeros [] End h k = absurd h
plus_zeros [] (Row a b) h k = absurd h
plus_zeros (n ∷ ds) x h k = rows_plus (zeros ds) (HasShape ds) (plus_zeros ds) n x h k

-- a literal in scope
pub literal-scoped : (sizes vars k : ℕ) → items_scoped sizes vars (literal_form (pos k)) ≡ true
literal-scoped sizes vars k = scoped-items sizes vars (literal_form (pos k))

one_extent : (s : List ℕ) → extent (literal_form (pos 1)) s ≡ 1
one_extent s = ap count_of (value-literal s [] (pos 1))

abbrev nothing : Items
nothing = literal_form (pos 0)

module _ (f : Focus) (b : Term) (ordered : AllOrdered b) (literals : LiteralsFit b) where
  abbrev once : Term
  once = sum (literal_form (pos 1)) b

  one_turn : (s r : List ℕ) (t : List Bound) → Reached f s r t → Stands f once s (extents_of t) → den (lowered b) s r t ≡ den once s r t
  one_turn s r t h w =
      let d = dims b s (extents_of t) in
      with_index-means b ordered s nothing (literal-ordered (pos 0)) 0 r t (value-literal s r (pos 0))
      ∙ sym ((λ i. total (zeros d) (tabulate (one_extent s i) (λ k. den b s (k ∷ r) t)))
      ∙ plus_zeros d (den b s (0 ∷ r) t) (den_shape b s (0 ∷ r) t w.fits h.shaped)
      (den_words b s (0 ∷ r) t literals h.words))

  one_replaced : Replaces f anywhere once (lowered b)
  one_replaced = record {
    scoped = λ c.
        let sizes = length f.facts.sizes in
        let vars = binders f.facts.path in
        let tensors = length (given f.shapes) in
        with_index-scoped sizes vars tensors nothing b (literal-scoped sizes vars 0)
        (and_parts (items_scoped sizes 0 (literal_form (pos 1))) (term_scoped sizes b (vars + 1) tensors) c).1;
    extents = λ s ds w. with_index-extents nothing b s ds;
    goals = λ s ds w. with_index-goals nothing b s ds w.goals.1;
    meaning = λ s r t k h w. one_turn s r t h w;
    shape = λ h.
        let x = shape_of b (given f.shapes) in
        same_shape_there (shape_of once (given f.shapes)) (shape_of (lowered b) (given f.shapes)) h
        (with_index-shape nothing b (given f.shapes) ∙ handed_on x (first_ok x (λ ns. Ok ns) h));
  }

term_ordered : (n : Items) (b : Term) → AllOrdered (sum n b) → AllOrdered b
term_ordered n b o = (and_parts (is_ordered n) (every_form is_ordered b) (sym (fold-sum Bool (form_step is_ordered) n b) ∙ o)).1

sum_one_if : (f : Focus) → IsProper f → AllOrdered f.term → (n : Items) (b : Term) → f.term ≡ sum n b → (as' : List Arg) (c : Bool)
    → same_form n (literal_form (pos 1)) ≡ c → MeantKeeps f (provided c (without_arguments as' (Makes (lowered b) [])))
sum_one_if f p o n b q [] true e =
    let g : n ≡ literal_form (pos 1) = same_form-equal n (literal_form (pos 1)) e in
    replaced_anywhere f p (sum (literal_form (pos 1)) b) (lowered b) (q ∙ (λ i. sum (g i) b))
    (one_replaced f b (term_ordered n b (subst AllOrdered q o)) (subst LiteralsFit q p.literals))
sum_one_if f p o n b q (x ∷ as') true e = tt
sum_one_if f p o n b q as' false e = tt

sum_one_at : (f : Focus) → IsProper f → AllOrdered f.term → (e : Term) → f.term ≡ e → (as' : List Arg) → MeantKeeps f (sum_one (record f { term = e }) as')
sum_one_at f p o (sum n b) q as' = sum_one_if f p o n b q as' (same_form n (literal_form (pos 1))) refl
sum_one_at f p o _ q as' = tt

pub sum_one_keeps : RuleKeeps sum_one
sum_one_keeps f p o as' = sum_one_at f p o f.term refl as'
