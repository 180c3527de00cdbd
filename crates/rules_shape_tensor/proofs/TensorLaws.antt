-- Tensors that are transposed, padded, cut, joined or split twice.
use Rattle.std.proofs.Common.{◌≡◌, ℕ, ◌+◌, ◌-◌, List, [], ◌∷◌, ◌++◌, append_assoc, drop, length, refl, ap, sym, ◌∙◌, subst, arith}
use Rattle.std.proofs.Common.{Bool, true, false, ◌&&◌, not, ◌==◌, if◌then◌else◌, IfOk, IsOk, Ok, Err}
use Rattle.std.proofs.lemmas.Bool.{and_from, and_parts}
use Rattle.affine_index.specs.Limited.{items_scoped}
use Rattle.affine_index.specs.Normal.{is_ordered}
use Rattle.affine_index.specs.Sum.{difference_of, sum_of}
use Rattle.affine_index.specs.declared.form.Items.{Items}
use Rattle.fact_list.specs.Facts.{binders}
use Rattle.path_focus.specs.Focus.{IsProper, SameOrLimit}
use Rattle.path_focus.specs.Outcome.{RuleKeeps}
use Rattle.path_focus.specs.declared.place.Focus.{Focus}
use Rattle.path_focus.proofs.ShapeSteps.{limited_or, new_is, next, old_is, same_there}
use Rattle.rule_parts.proofs.Replacing.{Replaces, anywhere, never, replaced_anywhere}
use Rattle.rules_shape_tensor.specs.Tensors.{KeepsInOrder, all_ordered, concat_assoc, each_ordered, pad_trunc_l, pad_trunc_r, transpose_twice}
use Rattle.rules_shape_tensor.proofs.FormSums.{sums-grouped, taken-again}
use Rattle.rules_shape_tensor.proofs.KeptLaws.{IsSame, kept_concat, kept_pad_l, kept_pad_r, kept_provided, kept_transpose, kept_trunc_l, kept_trunc_r}
use Rattle.rules_shape_tensor.proofs.KeptLaws.{kept_without, same_kept}
use Rattle.rules_shape_tensor.proofs.Lists.{dropped_copies, last_copies, rows_back, transposed_twice}
use Rattle.rules_shape_tensor.proofs.ReachLaws.{term_scope}
use Rattle.rules_shape_tensor.proofs.ShapeLaws.{IsShape, is_there}
use Rattle.rules_shape_tensor.proofs.ShapeOrders.{ordered_shape}
use Rattle.shape_rules.specs.Fits.{HasFirst, HasTwo}
use Rattle.shape_rules.specs.Rules.{columns_shape, fewer_shape, more_shape}
use Rattle.shape_rules.specs.Scopes.{given}
use Rattle.shape_rules.proofs.DenShape.{den_shape}
use Rattle.shape_rules.proofs.PlainLaws.{plain_scoped}
use Rattle.shape_rules.proofs.RuleValues.{limited_same}
use Rattle.shape_rules.proofs.SameLaws.{same_form-equal, same_forms-equal, same_forms-same}
use Rattle.term_tree.specs.Limits.{every_form, form_step}
use Rattle.term_tree.specs.Meaning.{columns, den, dims, extent, extents_of, head_of, tail_of}
use Rattle.term_tree.specs.Scope.{term_scoped}
use Rattle.term_tree.specs.Shape.{Extents, Shaped, here, limited, of_concat, same_forms, shape_of, with_child}
use Rattle.term_tree.specs.Shaped.{HasShape}
use Rattle.term_tree.specs.Syntax.{concat, pad_l, pad_r, transpose, trunc_l, trunc_r}
use Rattle.term_tree.specs.Tensors.{Tensor, copies, drop_last, from_rows, rows_of, zeros}
use Rattle.term_tree.specs.declared.cause.Cause.TheVariants.{RankMismatch, ShapesDiffer}
use Rattle.term_tree.specs.declared.term.Term.{Term}
use Rattle.term_tree.proofs.Folds.{fold-concat, fold-pad_l, fold-pad_r, fold-trunc_l, fold-trunc_r}
use Rattle.term_tree.proofs.TensorLaws.{rows_of-from_rows}

-- transpose(transpose(e)) and e
two_again : (d : List ℕ) → HasTwo d → head_of d ∷ head_of (tail_of d) ∷ tail_of (tail_of d) ≡ d
two_again [] h = absurd h
two_again (n ∷ []) h = absurd h
two_again (n ∷ m ∷ ns) h = refl

columns_twice : (d : List ℕ) (x : Tensor) → HasTwo d → HasShape d x
    → from_rows (columns (head_of d) (zeros (tail_of (tail_of d)))
    (rows_of (from_rows (columns (head_of (tail_of d)) (zeros (tail_of (tail_of d))) (rows_of x))))) ≡ x
columns_twice [] x f h = absurd f
columns_twice (n ∷ []) x f h = absurd f
columns_twice (n ∷ m ∷ ns) x f h = transposed_twice (HasShape ns) n m x (zeros ns) (zeros ns) h

turned_twice : (z : Shaped) (ks : Extents) → with_child 0 (with_child 0 z columns_shape) columns_shape ≡ Ok ks → IsShape z ks
turned_twice (Ok (n ∷ m ∷ ns)) ks h = h
turned_twice (Ok (n ∷ [])) ks h = absurd (cc)
turned_twice (Ok []) ks h = absurd (cc)
turned_twice (Err m) ks h = absurd (cc)

transposed_is : (e : Term) → IsSame (transpose (transpose e)) e
transposed_is e = record {
  scoped = λ sizes vars tensors c. c;
  extents = λ s ds w. sym (two_again (dims e s ds) w.1.0);
  goals = λ s ds g. g;
  meaning = λ s r t h k l w. sym (columns_twice (dims e s (extents_of t)) (den e s r t) w.1.0 (den_shape e s r t w.1.1 h));
  shape = λ ts ks h. same_there ks (shape_of e ts) (turned_twice (shape_of e ts) ks h);
}

pub transpose_twice_keeps : RuleKeeps transpose_twice
transpose_twice_keeps f p o as' = kept_transpose f f.term _ (λ d q. kept_transpose f d _ (λ e h. kept_without f as' _
    (same_kept f p (transpose (transpose e)) e (q ∙ (λ i. transpose (h i))) (transposed_is e))))

-- what is padded and cut
first_again : (d : List ℕ) (k : ℕ) → HasFirst d → ((head_of d + k) - k) ∷ tail_of d ≡ d
first_again [] k h = absurd h
first_again (n ∷ ns) k h = let e : (n + k) - k ≡ n = omega arith in λ i. e i ∷ ns

rows_again : (d : List ℕ) (x : Tensor) → HasFirst d → HasShape d x → from_rows (rows_of x) ≡ x
rows_again [] x f h = absurd f
rows_again (n ∷ ns) x f h = rows_back (HasShape ns) n x h

-- a shape, if there is one, of extents in order
abbrev InOrder : Shaped → Type 0
InOrder z = IfOk z (λ ns. each_ordered ns ≡ true)

pad_cut : (a : Items) → is_ordered a ≡ true → (z : Shaped) → InOrder z → (ks : Extents)
    → with_child 0 (with_child 0 z (more_shape a)) (fewer_shape a) ≡ Ok ks → IsShape z ks
pad_cut a o (Err m) g ks h = absurd (cc)
pad_cut a o (Ok []) g ks h = absurd (cc)
pad_cut a o (Ok (n ∷ ns)) g ks h = by (limited (sum_of n a ∷ ns)) refl h
  where
    on : is_ordered n ≡ true
    on = (and_parts (is_ordered n) (each_ordered ns) g).0

    by : (w : Shaped) → limited (sum_of n a ∷ ns) ≡ w → with_child 0 w (fewer_shape a) ≡ Ok ks → IsShape (Ok (n ∷ ns)) ks
    by (Ok ms) e k =
        let cut : limited (difference_of (sum_of n a) a ∷ ns) ≡ Ok ks =
        subst (λ (ms : Extents). fewer_shape a ms ≡ Ok ks) (sym (limited_same (sum_of n a ∷ ns) ms e)) k in
        (λ i. Ok (sym (taken-again n a on o) i ∷ ns)) ∙ ap (λ (xs : Extents). Ok xs) (limited_same (difference_of (sum_of n a) a ∷ ns) ks cut)
    by (Err c) e k = absurd (cc)

module _ (f : Focus) (p : IsProper f) (ordered : all_ordered (given f.shapes) ≡ true) where
  abbrev sizes : ℕ
  sizes = length f.facts.sizes

  abbrev vars : ℕ
  vars = binders f.facts.path

  abbrev tensors : ℕ
  tensors = length (given f.shapes)

  pub shape_in_order : (e : Term) → every_form is_ordered e ≡ true → term_scoped sizes e vars tensors ≡ true → InOrder (shape_of e (given f.shapes))
  shape_in_order e o c = ordered_shape e (given f.shapes) o (plain_scoped sizes e vars tensors c) ordered p.free

  -- a new shape by the old one
  pub same_or : (z w : Shaped) → ((ks : Extents) → z ≡ Ok ks → IsShape w ks) → IsOk z → SameOrLimit z w
  same_or z w g h = let k = is_there z h in old_is z k.0 w k.1 (same_there k.0 w (g k.0 k.1))

  module _ (a : Items) (e : Term) where
    inner_scope : (items_scoped sizes 0 a && (items_scoped sizes 0 a && term_scoped sizes e vars tensors)) ≡ true → term_scoped sizes e vars tensors ≡ true
    inner_scope c =
        (and_parts (items_scoped sizes 0 a) (term_scoped sizes e vars tensors)
        (and_parts (items_scoped sizes 0 a) (items_scoped sizes 0 a && term_scoped sizes e vars tensors) c).1).1

    cut_l : is_ordered a ≡ true → every_form is_ordered e ≡ true → term_scoped sizes e vars tensors ≡ true → Replaces f anywhere (trunc_l a (pad_l a e)) e
    cut_l oa oe c = record {
      scoped = inner_scope;
      extents = λ s ds w. sym (first_again (dims e s ds) (extent a s) w.fits.1.0);
      goals = λ s ds w. w.goals.2.1;
      meaning = λ s r t k h w.
          let d = dims e s (extents_of t) in
          let xs = rows_of (den e s r t) in
          let n = extent a s in
          let z = zeros (tail_of d) in
          sym ((λ i. from_rows (drop n (rows_of-from_rows (copies n z ++ xs) i))) ∙ ap from_rows (dropped_copies n z xs)
          ∙ rows_again d (den e s r t) w.fits.1.0 (den_shape e s r t w.fits.1.1 h.shaped));
      shape = λ h.
          let z = shape_of e (given f.shapes) in
          same_or (with_child 0 (with_child 0 z (more_shape a)) (fewer_shape a)) z (pad_cut a oa z (shape_in_order e oe c)) h;
    }

    cut_r : is_ordered a ≡ true → every_form is_ordered e ≡ true → term_scoped sizes e vars tensors ≡ true → Replaces f anywhere (trunc_r a (pad_r a e)) e
    cut_r oa oe c = record {
      scoped = inner_scope;
      extents = λ s ds w. sym (first_again (dims e s ds) (extent a s) w.fits.1.0);
      goals = λ s ds w. w.goals.2.1;
      meaning = λ s r t k h w.
          let d = dims e s (extents_of t) in
          let xs = rows_of (den e s r t) in
          let n = extent a s in
          let z = zeros (tail_of d) in
          sym ((λ i. from_rows (drop_last n (rows_of-from_rows (xs ++ copies n z) i))) ∙ ap from_rows (last_copies n z xs)
          ∙ rows_again d (den e s r t) w.fits.1.0 (den_shape e s r t w.fits.1.1 h.shaped));
      shape = λ h.
          let z = shape_of e (given f.shapes) in
          same_or (with_child 0 (with_child 0 z (more_shape a)) (fewer_shape a)) z (pad_cut a oa z (shape_in_order e oe c)) h;
    }

-- the forms of a term that is padded and cut
cut_forms_l : (a : Items) (e : Term) → every_form is_ordered (trunc_l a (pad_l a e)) ≡ true → (is_ordered a ≡ true) × (every_form is_ordered e ≡ true)
cut_forms_l a e o =
    let p = and_parts (is_ordered a) (every_form is_ordered (pad_l a e)) (sym (fold-trunc_l Bool (form_step is_ordered) a (pad_l a e)) ∙ o) in
    and_parts (is_ordered a) (every_form is_ordered e) (sym (fold-pad_l Bool (form_step is_ordered) a e) ∙ p.1)

cut_forms_r : (a : Items) (e : Term) → every_form is_ordered (trunc_r a (pad_r a e)) ≡ true → (is_ordered a ≡ true) × (every_form is_ordered e ≡ true)
cut_forms_r a e o =
    let p = and_parts (is_ordered a) (every_form is_ordered (pad_r a e)) (sym (fold-trunc_r Bool (form_step is_ordered) a (pad_r a e)) ∙ o) in
    and_parts (is_ordered a) (every_form is_ordered e) (sym (fold-pad_r Bool (form_step is_ordered) a e) ∙ p.1)

pub pad_trunc_l_keeps : KeepsInOrder pad_trunc_l
pad_trunc_l_keeps f p o g as' = kept_trunc_l f f.term _ (λ a d q. kept_pad_l f d _ (λ b e h. kept_provided f _ _ (λ same. kept_without f as' _
    (let all = q ∙ (λ i. trunc_l a (h i)) ∙ (λ i. trunc_l a (pad_l (sym (same_form-equal a b same) i) e)) in
    let forms = cut_forms_l a e (subst (λ (e : Term). every_form is_ordered e ≡ true) all o) in
    replaced_anywhere f p (trunc_l a (pad_l a e)) e all
    (cut_l f p g a e forms.0 forms.1 (inner_scope f p g a e (term_scope f p (trunc_l a (pad_l a e)) all)))))))

pub pad_trunc_r_keeps : KeepsInOrder pad_trunc_r
pad_trunc_r_keeps f p o g as' = kept_trunc_r f f.term _ (λ a d q. kept_pad_r f d _ (λ b e h. kept_provided f _ _ (λ same. kept_without f as' _
    (let all = q ∙ (λ i. trunc_r a (h i)) ∙ (λ i. trunc_r a (pad_r (sym (same_form-equal a b same) i) e)) in
    let forms = cut_forms_r a e (subst (λ (e : Term). every_form is_ordered e ≡ true) all o) in
    replaced_anywhere f p (trunc_r a (pad_r a e)) e all
    (cut_r f p g a e forms.0 forms.1 (inner_scope f p g a e (term_scope f p (trunc_r a (pad_r a e)) all)))))))

-- concat(concat(a, b), c) and concat(a, concat(b, c))
abbrev joined_shape : Shaped → Shaped → Shaped
joined_shape x y = with_child 0 x (λ ns. with_child 1 y (λ ms. of_concat ns ms))

-- the shapes of both parts of a shape that is there
record Both (x y : Shaped) (ks : Extents) : Type 0 where
  n : Items
  m : Items
  rest : Extents
  left : x ≡ Ok (n ∷ rest)
  right : y ≡ Ok (m ∷ rest)
  whole : sum_of n m ∷ rest ≡ ks

not_false : (b : Bool) → not b ≡ false → b ≡ true
not_false true h = refl
not_false false h = absurd (never (sym h))

both_of : (x y : Shaped) (ks : Extents) → joined_shape x y ≡ Ok ks → Both x y ks
both_of (Err m) y ks h = absurd (cc)
both_of (Ok ns) (Err m) ks h = absurd (cc)
both_of (Ok []) (Ok ms) ks h = absurd (cc)
both_of (Ok (n ∷ ns)) (Ok []) ks h = absurd (cc)
both_of (Ok (n ∷ ns)) (Ok (m ∷ ms)) ks h = by (not (length ns == length ms)) (not (same_forms ns ms)) refl h
  where
    by : (u v : Bool) → not (same_forms ns ms) ≡ v
        → (if u then here RankMismatch else (if v then here ShapesDiffer else limited (sum_of n m ∷ ns))) ≡ Ok ks → Both (Ok (n ∷ ns)) (Ok (m ∷ ms)) ks
    by true v e k = absurd (cc)
    by false true e k = absurd (cc)
    by false false e k = record {
      n = n;
      m = m;
      rest = ns;
      left = refl;
      right = ap (λ (xs : Extents). Ok (m ∷ xs)) (sym (same_forms-equal ns ms (not_false (same_forms ns ms) e)));
      whole = limited_same (sum_of n m ∷ ns) ks k;
    }

of_both : (n m : Items) (rest : Extents) → of_concat (n ∷ rest) (m ∷ rest) ≡ limited (sum_of n m ∷ rest)
of_both n m rest =
    (λ i. if not (same_count (length rest) i) then here RankMismatch
    else (if not (same_forms rest rest) then here ShapesDiffer else limited (sum_of n m ∷ rest)))
    ∙ (λ i. if not (same_forms-same rest i) then here ShapesDiffer else limited (sum_of n m ∷ rest))
  where
    same_count : (n : ℕ) → (n == n) ≡ true
    same_count n = grind arith

both_same : (n m : Items) (ns ms : Extents) → n ∷ ns ≡ m ∷ ms → (n ≡ m) × (ns ≡ ms)
both_same n m ns ms h = (cc, cc)

of_three : (n m l : Items) (rest : Extents) → is_ordered n ≡ true → is_ordered m ≡ true → is_ordered l ≡ true
    → SameOrLimit (Ok (sum_of (sum_of n m) l ∷ rest)) (joined_shape (Ok (n ∷ rest)) (joined_shape (Ok (m ∷ rest)) (Ok (l ∷ rest))))
of_three n m l rest on om ol =
    let ks = sum_of (sum_of n m) l ∷ rest in
    let last : of_concat (n ∷ rest) (sum_of m l ∷ rest) ≡ limited ks =
    of_both n (sum_of m l) rest ∙ (λ i. limited (sym (sums-grouped n m l on om ol) i ∷ rest)) in
    new_is (Ok ks) (with_child 1 (of_concat (m ∷ rest) (l ∷ rest)) (λ ms. of_concat (n ∷ rest) ms))
    (with_child 1 (limited (sum_of m l ∷ rest)) (λ ms. of_concat (n ∷ rest) ms))
    (λ i. with_child 1 (of_both m l rest i) (λ ms. of_concat (n ∷ rest) ms))
    (next 1 (limited (sum_of m l ∷ rest)) (λ ms. of_concat (n ∷ rest) ms) (sum_of m l ∷ rest) ks (limited_or (sum_of m l ∷ rest))
    (new_is (Ok ks) (of_concat (n ∷ rest) (sum_of m l ∷ rest)) (limited ks) last (limited_or ks)))

first_in_order : (n : Items) (ns : Extents) (z : Shaped) → z ≡ Ok (n ∷ ns) → InOrder z → is_ordered n ≡ true
first_in_order n ns z e h = (and_parts (is_ordered n) (each_ordered ns) (subst InOrder e h)).0

grouped_shape : (x y z : Shaped) → InOrder x → InOrder y → InOrder z → (ks : Extents) → joined_shape (joined_shape x y) z ≡ Ok ks
    → SameOrLimit (Ok ks) (joined_shape x (joined_shape y z))
grouped_shape x y z ox oy oz ks h =
    let outer = both_of (joined_shape x y) z ks h in
    let inner = both_of x y (outer.n ∷ outer.rest) outer.left in
    let same = both_same (sum_of inner.n inner.m) outer.n inner.rest outer.rest inner.whole in
    let right : z ≡ Ok (outer.m ∷ inner.rest) = outer.right ∙ (λ i. Ok (outer.m ∷ sym same.1 i)) in
    let whole : sum_of (sum_of inner.n inner.m) outer.m ∷ inner.rest ≡ ks = (λ i. sum_of (same.0 i) outer.m ∷ same.1 i) ∙ outer.whole in
    subst (λ (ks : Extents). SameOrLimit (Ok ks) (joined_shape x (joined_shape y z))) whole
    (new_is (Ok (sum_of (sum_of inner.n inner.m) outer.m ∷ inner.rest)) (joined_shape x (joined_shape y z))
    (joined_shape (Ok (inner.n ∷ inner.rest)) (joined_shape (Ok (inner.m ∷ inner.rest)) (Ok (outer.m ∷ inner.rest))))
    (λ i. joined_shape (inner.left i) (joined_shape (inner.right i) (right i)))
    (of_three inner.n inner.m outer.m inner.rest (first_in_order inner.n inner.rest x inner.left ox) (first_in_order inner.m inner.rest y inner.right oy)
    (first_in_order outer.m inner.rest z right oz)))

module _ (f : Focus) (p : IsProper f) (ordered : all_ordered (given f.shapes) ≡ true) (a b c : Term)
    (forms : every_form is_ordered (concat (concat a b) c) ≡ true)
    (scope : term_scoped (length f.facts.sizes) (concat (concat a b) c) (binders f.facts.path) (length (given f.shapes)) ≡ true) where
  three_scopes : (x y z : Bool) → ((x && y) && z) ≡ true → (x ≡ true) × (y ≡ true) × (z ≡ true)
  three_scopes x y z h = let u = and_parts (x && y) z h in let v = and_parts x y u.0 in (v.0, v.1, u.1)

  abbrev InScope : Term → Type 0
  InScope e = term_scoped (length f.facts.sizes) e (binders f.facts.path) (length (given f.shapes)) ≡ true

  scopes : InScope a × InScope b × InScope c
  scopes = three_scopes (term_scoped (length f.facts.sizes) a (binders f.facts.path) (length (given f.shapes)))
      (term_scoped (length f.facts.sizes) b (binders f.facts.path) (length (given f.shapes)))
      (term_scoped (length f.facts.sizes) c (binders f.facts.path) (length (given f.shapes))) scope

  each_forms : (every_form is_ordered a ≡ true) × (every_form is_ordered b ≡ true) × (every_form is_ordered c ≡ true)
  each_forms = three_scopes (every_form is_ordered a) (every_form is_ordered b) (every_form is_ordered c)
      ((λ i. sym (fold-concat Bool (form_step is_ordered) a b) i && every_form is_ordered c)
      ∙ sym (fold-concat Bool (form_step is_ordered) (concat a b) c) ∙ forms)

  three_sum : (x y z : ℕ) → x + (y + z) ≡ (x + y) + z
  three_sum x y z = omega arith

  three_grouped : Replaces f anywhere (concat (concat a b) c) (concat a (concat b c))
  three_grouped = record {
    scoped = λ h. and_from _ _ scopes.0 (and_from _ _ scopes.1 scopes.2);
    extents = λ s ds w. λ i. three_sum (head_of (dims a s ds)) (head_of (dims b s ds)) (head_of (dims c s ds)) i ∷ tail_of (dims a s ds);
    goals = λ s ds w. (w.goals.0.0, (w.goals.0.1, w.goals.1));
    meaning = λ s r t k h w.
        let xs = rows_of (den a s r t) in
        let ys = rows_of (den b s r t) in
        let zs = rows_of (den c s r t) in
        (λ i. from_rows (xs ++ rows_of-from_rows (ys ++ zs) i)) ∙ ap from_rows (sym (append_assoc xs ys zs))
        ∙ (λ i. from_rows (sym (rows_of-from_rows (xs ++ ys)) i ++ zs));
    shape = λ h.
        let x = shape_of a (given f.shapes) in
        let y = shape_of b (given f.shapes) in
        let z = shape_of c (given f.shapes) in
        let k = is_there (joined_shape (joined_shape x y) z) h in
        old_is (joined_shape (joined_shape x y) z) k.0 (joined_shape x (joined_shape y z)) k.1
        (grouped_shape x y z (shape_in_order f p ordered a each_forms.0 scopes.0) (shape_in_order f p ordered b each_forms.1 scopes.1)
        (shape_in_order f p ordered c each_forms.2 scopes.2) k.0 k.1);
  }

pub concat_assoc_keeps : KeepsInOrder concat_assoc
concat_assoc_keeps f p o g as' = kept_concat f f.term _ (λ d c q. kept_concat f d _ (λ a b h. kept_without f as' _
    (let all = q ∙ (λ i. concat (h i) c) in
    replaced_anywhere f p (concat (concat a b) c) (concat a (concat b c)) all
    (three_grouped f p g a b c (subst (λ (e : Term). every_form is_ordered e ≡ true) all o) (term_scope f p (concat (concat a b) c) all)))))
