-- Rows under guards that say that there is such a row.
use Rattle.std.proofs.Common.{◌≡◌, ℕ, zero, suc, ◌≤◌, List, [], ◌∷◌, get_or, length, map, refl, sym, ◌∙◌, subst, arith, Bool, true, false, ◌&&◌}
use Rattle.std.proofs.Common.{if◌then◌else◌, nat_lt, Ok, Err}
use Rattle.std.specs.Prelude.{ℤ, pos, negsuc, ◌+ℤ◌}
use Rattle.std.proofs.lemmas.Bool.{and_from, and_parts, ltb-true}
use Rattle.std.proofs.lemmas.Int.{ints}
use Rattle.affine_index.specs.Condition.{at_least_zero}
use Rattle.affine_index.specs.Form.{literal_form}
use Rattle.affine_index.specs.Limited.{all_firsts, all_true, atom_scoped, items_scoped}
use Rattle.affine_index.specs.Normal.{is_normal, is_short}
use Rattle.affine_index.specs.Normal.{coefficients_fit as form_fits}
use Rattle.affine_index.specs.Sum.{sum_of}
use Rattle.affine_index.specs.Value.{items_value}
use Rattle.affine_index.specs.declared.form.Atom.{Atom}
use Rattle.affine_index.specs.declared.form.Item.{Item}
use Rattle.affine_index.specs.declared.form.Items.{Items}
use Rattle.affine_index.proofs.FormScopes.{difference-form, form-of, of-form, sum-form}
use Rattle.affine_index.proofs.Induction.{Each, EachTerm, for_items}
use Rattle.affine_index.proofs.ReadyLaws.{scoped-Div, scoped-Mul, scoped-Size, scoped-Var, scoped-items, scoped_term}
use Rattle.fact_list.specs.Facts.{binders}
use Rattle.shape_rules.specs.Scopes.{IsScoped, given}
use Rattle.shape_rules.specs.Values.{AllHaveValues, HaveValues, NoneNegative}
use Rattle.shape_rules.proofs.DenShape.{den_shape}
use Rattle.shape_rules.proofs.ShapeMeaning.{shape_meant}
use Rattle.term_tree.specs.Goals.{term_goals}
use Rattle.term_tree.specs.Limits.{every_form, form_step}
use Rattle.term_tree.specs.Meaning.{Bound, den, dims, extents_of, row_at, tail_of}
use Rattle.term_tree.specs.Modules.{extents_scoped}
use Rattle.term_tree.specs.Scope.{cond_scoped, term_scoped}
use Rattle.term_tree.specs.Shape.{Extents, Shaped, shape_of}
use Rattle.term_tree.specs.Shaped.{HasRows, HasShape}
use Rattle.term_tree.specs.Syntax.{guard, index}
use Rattle.term_tree.specs.Tensors.{End, Row, Tensor, Word, rows_of, zeros}
use Rattle.term_tree.specs.declared.term.Term.{Term}
use Rattle.term_tree.proofs.Folds.{fold-guard, fold-index}
use Rattle.term_tree.proofs.FormLaws.{every_form-weaker}
use Rattle.path_focus.specs.Focus.{AllowedBy, IsProper}
use Rattle.path_focus.specs.Making.{rest_below}
use Rattle.path_focus.specs.Outcome.{IsDraft, Makes, MeantKeeps, RuleKeeps, without_arguments}
use Rattle.path_focus.specs.declared.outcome.Draft.TheVariants.{TooLarge, TooLong}
use Rattle.path_focus.specs.declared.place.Focus.{Focus}
use Rattle.path_focus.specs.declared.rule.Arg.{Arg}
use Rattle.path_focus.proofs.MakingLaws.{value-rest_below}
use Rattle.path_focus.proofs.ShapeScopes.{ScopedShape, shape_scope}
use Rattle.path_focus.proofs.SteadyLaws.{steady_of}
use Rattle.binders.proofs.NormalLaws.{fits_of, short_of}
use Rattle.rule_parts.specs.Conds.{within_rows}
use Rattle.rule_parts.specs.Patterns.{first_extent, on_form}
use Rattle.rule_parts.proofs.Replacing.{Replaces, anywhere, replaced_anywhere}
use Rattle.path_focus.proofs.ShapeSteps.{same_shape_there}
use Rattle.rule_parts.proofs.ShapeLaws.{handed_on}
use Rattle.rules_guard.specs.Table.{access_guard}

-- no row past the last
past : (P : Tensor → Type 0) (n : ℕ) (x : Tensor) (i : ℕ) (z : Tensor) → HasRows P n x → n ≤ i → get_or (rows_of x) i z ≡ z
past P zero (Word w) i z h l = absurd h
past P zero End i z h l = refl
past P zero (Row a rest) i z h l = absurd h
past P (suc n) (Word w) i z h l = absurd h
past P (suc n) End i z h l = absurd h
past P (suc n) (Row a rest) zero z h l = absurd (omega (arith, l))
past P (suc n) (Row a rest) (suc i) z h l = past P n rest i z h.1 (omega (arith, l))

-- a row that is not there is of zeros
row_or_zeros : (k : ℕ) (ks : List ℕ) (x : Tensor) (v y : ℤ) → HasShape (k ∷ ks) x → y +ℤ (v +ℤ pos 1) ≡ pos k
    → (if at_least_zero v && (at_least_zero y && true) then row_at (rows_of x) v (zeros ks) else zeros ks) ≡ row_at (rows_of x) v (zeros ks)
row_or_zeros k ks x (negsuc i) y h e = refl
row_or_zeros k ks x (pos i) (pos j) h e = refl
row_or_zeros k ks x (pos i) (negsuc j) h e = sym (past (HasShape ks) k x i (zeros ks) h (omega (arith, ints, e)))

-- what is in scope stays so under more binders
module _ (sizes v w : ℕ) (more : v ≤ w) where
  abbrev AtomStays : Atom → Type 0
  AtomStays a = atom_scoped sizes v a ≡ true → atom_scoped sizes w a ≡ true

  abbrev FormStays : Items → Type 0
  FormStays x = items_scoped sizes v x ≡ true → items_scoped sizes w x ≡ true

  factors_stay : (fs : List Atom) → Each AtomStays fs → all_true (map (atom_scoped sizes v) fs) ≡ true → all_true (map (atom_scoped sizes w) fs) ≡ true
  factors_stay [] h k = refl
  factors_stay (f ∷ fs) h k =
      let p = and_parts (atom_scoped sizes v f) (all_true (map (atom_scoped sizes v) fs)) k in
      and_from (atom_scoped sizes w f) (all_true (map (atom_scoped sizes w) fs)) (h.0 p.0) (factors_stay fs h.1 p.1)

  terms_stay : (ts : List (Item Atom)) → EachTerm AtomStays ts → all_firsts (map (scoped_term sizes v) ts) ≡ true
      → all_firsts (map (scoped_term sizes w) ts) ≡ true
  terms_stay [] h k = refl
  terms_stay (t ∷ ts) h k =
      let p = and_parts (atom_scoped sizes v t.atom) (all_firsts (map (scoped_term sizes v) ts)) k in
      and_from (atom_scoped sizes w t.atom) (all_firsts (map (scoped_term sizes w) ts)) (h.0 p.0) (terms_stay ts h.1 p.1)

  var_stays : (k : ℕ) → nat_lt k v ≡ true → nat_lt k w ≡ true
  var_stays k h = let l = ltb-true k v h in grind (arith, l, more)

  pub form_stays : (x : Items) → FormStays x
  form_stays = for_items AtomStays FormStays
      (λ s u. scoped-Size sizes w s ∙ sym (scoped-Size sizes v s) ∙ u)
      (λ k u. scoped-Var sizes w k ∙ var_stays k (sym (scoped-Var sizes v k) ∙ u))
      (λ i k h u. scoped-Div sizes w i k ∙ h (sym (scoped-Div sizes v i k) ∙ u))
      (λ fs h u. scoped-Mul sizes w fs ∙ factors_stay fs h (sym (scoped-Mul sizes v fs) ∙ u))
      (λ ts c h u.
      let i : Items = record { terms = ts; constant = c } in
      scoped-items sizes w i ∙ terms_stay ts h (sym (scoped-items sizes v i) ∙ u))

-- no constant names anything
pub constant_scoped : (sizes vars k : ℕ) → items_scoped sizes vars (literal_form (pos k)) ≡ true
constant_scoped sizes vars k = scoped-items sizes vars (literal_form (pos k))

pub rest_scoped : (sizes vars : ℕ) (n x : Items) → items_scoped sizes 0 n ≡ true → items_scoped sizes vars x ≡ true
    → items_scoped sizes vars (rest_below n x) ≡ true
rest_scoped sizes vars n x h k =
    of-form sizes vars (rest_below n x) (difference-form sizes vars n (sum_of x (literal_form (pos 1)))
    (form-of sizes vars n (form_stays sizes 0 vars (omega arith) n h))
    (sum-form sizes vars x (literal_form (pos 1)) (form-of sizes vars x k) (form-of sizes vars (literal_form (pos 1)) (constant_scoped sizes vars 1))))

-- the extents of a term that has this shape
first_is : (s : List ℕ) (n : Items) (ms : Extents) (d : List ℕ) → HaveValues s (n ∷ ms) d → (k : ℕ) × (d ≡ k ∷ tail_of d) × (items_value s [] n ≡ pos k)
first_is s n ms [] h = absurd h
first_is s n ms (k ∷ ks) h = (k, refl, h.0)

module _ (f : Focus) (p : IsProper f) (e : Term) (x : Items) (q : f.term ≡ index e x) (n : Items) (ms : Extents) (shaped : shape_of e (given f.shapes) ≡ Ok
    (n ∷ ms)) where
  abbrev sizes : ℕ
  sizes = length f.facts.sizes

  abbrev vars : ℕ
  vars = binders f.facts.path

  abbrev tensors : ℕ
  tensors = length (given f.shapes)

  scope : (term_scoped sizes e vars tensors ≡ true) × (items_scoped sizes vars x ≡ true)
  scope = and_parts (term_scoped sizes e vars tensors) (items_scoped sizes vars x)
      (subst (λ (e : Term). term_scoped sizes e vars tensors ≡ true) q p.term_scope)

  extent_scope : items_scoped sizes 0 n ≡ true
  extent_scope =
      let h : ScopedShape sizes (Ok (n ∷ ms)) = subst (ScopedShape sizes) shaped (shape_scope sizes e vars tensors (given f.shapes) scope.0 p.shapes) in
      (and_parts (items_scoped sizes 0 n) (extents_scoped sizes ms) h).0

  extent_value : (s : List ℕ) (ds : List (List ℕ)) → AllowedBy f.facts s → AllHaveValues s (given f.shapes) ds
      → (k : ℕ) × (dims e s ds ≡ k ∷ tail_of (dims e s ds)) × (items_value s [] n ≡ pos k)
  extent_value s ds a h =
      let goals : NoneNegative s (term_goals (index e x) (given f.shapes)) =
      subst (λ (e : Term). NoneNegative s (term_goals e (given f.shapes))) q (p.goals s a) in
      first_is s n ms (dims e s ds) (shape_meant s sizes e vars tensors (given f.shapes) ds (n ∷ ms) scope.0 shaped goals h).0

  same_row : (s r : List ℕ) (t : List Bound) (k : ℕ) → dims e s (extents_of t) ≡ k ∷ tail_of (dims e s (extents_of t)) → items_value s [] n ≡ pos k
      → HasShape (dims e s (extents_of t)) (den e s r t) → den (guard (within_rows n x) (index e x)) s r t ≡ den (index e x) s r t
  same_row s r t k d v h =
      row_or_zeros k (tail_of (dims e s (extents_of t))) (den e s r t) (items_value s r x) (items_value s r (rest_below n x))
      (subst (λ (d : List ℕ). HasShape d (den e s r t)) d h)
      (value-rest_below s r n x ∙ steady_of sizes s n extent_scope r ∙ v)

  row_within : Replaces f anywhere (index e x) (guard (within_rows n x) (index e x))
  row_within = record {
    scoped = λ h. and_from (cond_scoped sizes vars (within_rows n x)) (term_scoped sizes (index e x) vars tensors)
        (and_from (items_scoped sizes vars x) (items_scoped sizes vars (rest_below n x) && true) scope.1
        (and_from (items_scoped sizes vars (rest_below n x)) true (rest_scoped sizes vars n x extent_scope scope.1) refl)) h;
    extents = λ s ds w. refl;
    goals = λ s ds w. w.goals;
    meaning = λ s r t k h w.
        let v = extent_value s (extents_of t) w.allowed w.values in
        same_row s r t v.0 v.1 v.2 (den_shape e s r t w.fits.1 h.shaped);
    shape = λ h. same_shape_there (shape_of (index e x) (given f.shapes)) (shape_of (guard (within_rows n x) (index e x)) (given f.shapes)) h
        (sym (handed_on (shape_of (index e x) (given f.shapes)) h));
  }

access_of : (f : Focus) → IsProper f → (e : Term) (x : Items) → f.term ≡ index e x → (as' : List Arg) (z : Shaped) → shape_of e (given f.shapes) ≡ z
    → MeantKeeps f (on_form (first_extent z) (λ n. without_arguments as' (Makes (guard (within_rows n x) (index e x)) [])))
access_of f p e x q as' (Err m) h = tt
access_of f p e x q as' (Ok []) h = tt
access_of f p e x q [] (Ok (n ∷ ms)) h = replaced_anywhere f p (index e x) (guard (within_rows n x) (index e x)) q (row_within f p e x q n ms h)
access_of f p e x q (a ∷ as') (Ok (n ∷ ms)) h = tt

access_at : (f : Focus) → IsProper f → (e : Term) → f.term ≡ e → (as' : List Arg) → MeantKeeps f (access_guard (record f { term = e }) as')
access_at f p (index e x) q as' = access_of f p e x q as' (shape_of e (given f.shapes)) refl
access_at f p _ q as' = tt

pub access_guard_keeps : RuleKeeps access_guard
access_guard_keeps f p o as' = access_at f p f.term refl as'

-- the array is in scope
pub array_scoped : (f : Focus) → IsProper f → (e : Term) (x : Items) → f.term ≡ index e x → IsScoped f.shapes e
array_scoped f p e x q = (
  length f.facts.sizes,
  binders f.facts.path,
  (and_parts (term_scoped (length f.facts.sizes) e (binders f.facts.path) (length
      (given f.shapes))) (items_scoped (length f.facts.sizes) (binders f.facts.path) x)
      (subst (λ (e : Term). term_scoped (length f.facts.sizes) e (binders f.facts.path) (length (given f.shapes)) ≡ true) q p.term_scope)).0,
)

-- which limit a guarded row breaks is that which the rest of the rows behind it breaks
last_of : (a b c d : Bool) → a ≡ true → c ≡ true → d ≡ true → ((a && (b && true)) && (c && d)) ≡ b
last_of true true true true h k l = refl
last_of true false c d h k l = refl
last_of false b c d h k l = absurd (cc)
last_of true true false d h k l = absurd (cc)
last_of true true true false h k l = absurd (cc)

module _ (n x : Items) (e : Term) (normal : is_normal x ≡ true) (normal_array : every_form is_normal e ≡ true) where
  of_rest : (t : Items → Bool) → ((x : Items) → is_normal x ≡ true → t x ≡ true)
      → every_form t (guard (within_rows n x) (index e x)) ≡ t (rest_below n x)
  of_rest t weaker =
      fold-guard Bool (form_step t) (within_rows n x) (index e x)
      ∙ (λ i. (t x && (t (rest_below n x) && true)) && fold-index Bool (form_step t) e x i)
      ∙ last_of (t x) (t (rest_below n x)) (every_form t e) (t x) (weaker x normal) (every_form-weaker is_normal t weaker e normal_array) (weaker x normal)

  pub row_large : form_fits (rest_below n x) ≡ false → IsDraft (guard (within_rows n x) (index e x)) TooLarge
  row_large h = of_rest form_fits fits_of ∙ h

  pub row_long : (form_fits (rest_below n x) ≡ true) × (is_short (rest_below n x) ≡ false) → IsDraft (guard (within_rows n x) (index e x)) TooLong
  row_long h = (of_rest form_fits fits_of ∙ h.0, of_rest is_short short_of ∙ h.1)

pub ruleset row_limits = (row_large, row_long)
