-- Lets moved out of operators.
use Rattle.std.proofs.Common.{◌≡◌, ℕ, ◌+◌, ◌-◌, ◌*◌, ◌%◌, ◌^◌, List, [], ◌∷◌, ◌++◌, length, refl, sym, ◌∙◌, subst, arith, Bool, true, false, ◌&&◌}
use Rattle.std.proofs.Common.{nat_le, nat_lt, Ok}
use Rattle.std.specs.Prelude.{Option, Some, None}
use Rattle.std.proofs.lemmas.Bool.{and_from, and_parts}
use Rattle.affine_index.specs.Limited.{items_scoped}
use Rattle.affine_index.specs.Normal.{is_ordered}
use Rattle.affine_index.specs.declared.form.Items.{Items}
use Rattle.binders.proofs.Environments.{under_new}
use Rattle.binders.proofs.Substitution.{AllOrdered}
use Rattle.fact_list.specs.Facts.{binders}
use Rattle.shape_rules.specs.Rules.{columns_shape, fewer_shape, flat_shape, more_shape, tiled_shape}
use Rattle.shape_rules.specs.Scopes.{given}
use Rattle.term_tree.specs.Limits.{every_form, form_step}
use Rattle.term_tree.specs.Meaning.{Bound, den, dims, extents_of, head_of, tail_of}
use Rattle.term_tree.specs.Scope.{largest_tile, term_scoped}
use Rattle.term_tree.specs.Shape.{Extents, Shaped, of_concat, of_equal, of_words, shape_of, with_child}
use Rattle.term_tree.specs.Syntax.{add, concat, flatten, let_in, mul, pad_l, pad_r, split, sub, transpose, trunc_l, trunc_r}
use Rattle.term_tree.specs.Tensors.{by_places, from_rows, rows_of}
use Rattle.term_tree.specs.declared.term.Term.{Term}
use Rattle.term_tree.proofs.Folds.{fold-add, fold-concat, fold-mul, fold-sub}
use Rattle.path_focus.specs.Focus.{IsProper}
use Rattle.path_focus.specs.Frames.{Frame, Opened, OfIndex, OfGen, OfSum, OfGuard, OfDefinition, OfBody, AddLeft, AddRight, SubLeft, SubRight, MulLeft}
use Rattle.path_focus.specs.Frames.{MulRight, ConcatLeft, ConcatRight, OfFlatten, OfSplit, OfTranspose, OfTruncL, OfTruncR, OfPadL, OfPadR, filled, opened}
use Rattle.path_focus.specs.Making.{under_let}
use Rattle.path_focus.specs.Outcome.{Makes, MeantKeeps, RuleKeeps}
use Rattle.path_focus.specs.declared.place.Focus.{Focus}
use Rattle.path_focus.specs.declared.rule.Arg.{Arg}
use Rattle.path_focus.proofs.MovedLaws.{moved_extents, moved_numbers, moved_scoped, moved_shape}
use Rattle.path_focus.proofs.ShapeSteps.{same_shape_there}
use Rattle.path_focus.proofs.TrailLaws.{opened_is}
use Rattle.rule_parts.specs.Patterns.{provided}
use Rattle.rule_parts.proofs.Replacing.{Replaces, anywhere, replaced_anywhere}
use Rattle.rules_let.proofs.MovingLaws.{out_of}
use Rattle.rules_let.proofs.OperatorFrames.{opened_known, operates}
use Rattle.rules_let.proofs.ShapeLaws.{over_let, over_second}
use Rattle.rules_let.specs.Arguments.{number_of, with_number}
use Rattle.rules_let.specs.Operators.{is_operator, under_one_more, with_let, with_opened}
use Rattle.rules_let.specs.Table.{let_op}

-- scopes
first_out : (a b c d : Bool) → (c ≡ true → d ≡ true) → ((a && b) && c) ≡ true → (a && (b && d)) ≡ true
first_out a b c d g h =
    let p = and_parts (a && b) c h in
    let q = and_parts a b p.0 in
    and_from a (b && d) q.0 (and_from b d q.1 (g p.1))

second_out : (a b c d : Bool) → (c ≡ true → d ≡ true) → (c && (a && b)) ≡ true → (a && (d && b)) ≡ true
second_out a b c d g h =
    let p = and_parts c (a && b) h in
    let q = and_parts a b p.1 in
    and_from a (d && b) q.0 (and_from d b (g p.0) q.1)

zero_more : (v : ℕ) → v + 0 ≡ v
zero_more v = omega arith

module _ (f : Focus) (a b : Term) where
  abbrev sizes : ℕ
  sizes = length f.facts.sizes

  abbrev vars : ℕ
  vars = binders f.facts.path

  abbrev tensors : ℕ
  tensors = length (given f.shapes)

  abbrev ts : List Extents
  ts = given f.shapes

  abbrev A : Bool
  A = term_scoped sizes a vars tensors

  abbrev B : Bool
  B = term_scoped sizes b vars (tensors + 1)

  abbrev body_shape : Extents → Shaped
  body_shape ns = shape_of b (ns ∷ ts)

  flatten_moved : Replaces f anywhere (flatten (let_in a b)) (let_in a (flatten b))
  flatten_moved = record {
    scoped = λ h. h;
    extents = λ s ds w. refl;
    goals = λ s ds w. w.goals;
    meaning = λ s r t k h w. refl;
    shape = λ h. same_shape_there (shape_of (flatten (let_in a b)) ts) (shape_of (let_in a (flatten b)) ts) h
        (over_let (shape_of a ts) body_shape flat_shape h);
  }

  split_moved : (k : ℕ) → Replaces f anywhere (split k (let_in a b)) (let_in a (split k b))
  split_moved k = record {
    scoped = λ h. out_of (nat_lt 0 k && nat_le k largest_tile) A B h;
    extents = λ s ds w. refl;
    goals = λ s ds w. w.goals;
    meaning = λ s r t k h w. refl;
    shape = λ h. same_shape_there (shape_of (split k (let_in a b)) ts) (shape_of (let_in a (split k b)) ts) h
        (over_let (shape_of a ts) body_shape (tiled_shape k) h);
  }

  transpose_moved : Replaces f anywhere (transpose (let_in a b)) (let_in a (transpose b))
  transpose_moved = record {
    scoped = λ h. h;
    extents = λ s ds w. refl;
    goals = λ s ds w. w.goals;
    meaning = λ s r t k h w. refl;
    shape = λ h. same_shape_there (shape_of (transpose (let_in a b)) ts) (shape_of (let_in a (transpose b)) ts) h
        (over_let (shape_of a ts) body_shape columns_shape h);
  }

  trunc_l_moved : (n : Items) → Replaces f anywhere (trunc_l n (let_in a b)) (let_in a (trunc_l n b))
  trunc_l_moved n = record {
    scoped = λ h. out_of (items_scoped sizes 0 n) A B h;
    extents = λ s ds w. refl;
    goals = λ s ds w. (w.goals.2.0, (w.goals.0, w.goals.1, w.goals.2.1));
    meaning = λ s r t k h w. refl;
    shape = λ h. same_shape_there (shape_of (trunc_l n (let_in a b)) ts) (shape_of (let_in a (trunc_l n b)) ts) h
        (over_let (shape_of a ts) body_shape (fewer_shape n) h);
  }

  trunc_r_moved : (n : Items) → Replaces f anywhere (trunc_r n (let_in a b)) (let_in a (trunc_r n b))
  trunc_r_moved n = record {
    scoped = λ h. out_of (items_scoped sizes 0 n) A B h;
    extents = λ s ds w. refl;
    goals = λ s ds w. (w.goals.2.0, (w.goals.0, w.goals.1, w.goals.2.1));
    meaning = λ s r t k h w. refl;
    shape = λ h. same_shape_there (shape_of (trunc_r n (let_in a b)) ts) (shape_of (let_in a (trunc_r n b)) ts) h
        (over_let (shape_of a ts) body_shape (fewer_shape n) h);
  }

  pad_l_moved : (n : Items) → Replaces f anywhere (pad_l n (let_in a b)) (let_in a (pad_l n b))
  pad_l_moved n = record {
    scoped = λ h. out_of (items_scoped sizes 0 n) A B h;
    extents = λ s ds w. refl;
    goals = λ s ds w. (w.goals.1.0, (w.goals.0, w.goals.1.1));
    meaning = λ s r t k h w. refl;
    shape = λ h. same_shape_there (shape_of (pad_l n (let_in a b)) ts) (shape_of (let_in a (pad_l n b)) ts) h
        (over_let (shape_of a ts) body_shape (more_shape n) h);
  }

  pad_r_moved : (n : Items) → Replaces f anywhere (pad_r n (let_in a b)) (let_in a (pad_r n b))
  pad_r_moved n = record {
    scoped = λ h. out_of (items_scoped sizes 0 n) A B h;
    extents = λ s ds w. refl;
    goals = λ s ds w. (w.goals.1.0, (w.goals.0, w.goals.1.1));
    meaning = λ s r t k h w. refl;
    shape = λ h. same_shape_there (shape_of (pad_r n (let_in a b)) ts) (shape_of (let_in a (pad_r n b)) ts) h
        (over_let (shape_of a ts) body_shape (more_shape n) h);
  }

  -- the other child, under the let
  module _ (c : Term) where
    other_scope : term_scoped sizes c vars tensors ≡ true → term_scoped sizes (under_let c) vars (tensors + 1) ≡ true
    other_scope h = subst (λ (v : ℕ). term_scoped sizes (under_let c) v (tensors + 1) ≡ true) (zero_more vars) (moved_scoped 0 1 sizes vars tensors c h)

    other_extents : (s : List ℕ) (ds : List (List ℕ)) → dims (under_let c) s (dims a s ds ∷ ds) ≡ dims c s ds
    other_extents s ds = moved_extents 0 s (dims a s ds ∷ []) ds 0 [] c

    other_shape : (ns : Extents) → shape_of (under_let c) (ns ∷ ts) ≡ shape_of c ts
    other_shape ns = moved_shape 0 (ns ∷ []) ts 0 [] c

    abbrev inner : List ℕ → List ℕ → List Bound → List Bound
    inner s r t = (dims a s (extents_of t), den a s r t) ∷ t

    module _ (ordered : AllOrdered c) where
      other_means : (s r : List ℕ) (t : List Bound) → den (under_let c) s r (inner s r t) ≡ den c s r t
      other_means s r t = (under_new c ordered s [] r ((dims a s (extents_of t), den a s r t) ∷ []) t).1

      add_left : Replaces f anywhere (add (let_in a b) c) (let_in a (add b (under_let c)))
      add_left = record {
        scoped = first_out A B (term_scoped sizes c vars tensors) (term_scoped sizes (under_let c) vars (tensors + 1)) other_scope;
        extents = λ s ds w. refl;
        goals = λ s ds w. (w.goals.0.0, (w.goals.0.1, moved_numbers 0 s (dims a s ds ∷ []) ds 0 [] c w.goals.1));
        meaning = λ s r t k h w. λ j. by_places (λ v w. (v + w) % 2 ^ 64) (den b s r (inner s r t)) (other_means s r t j);
        shape = λ h. same_shape_there (shape_of (add (let_in a b) c) ts) (shape_of (let_in a (add b (under_let c))) ts) h
            ((λ i. with_child 0 (shape_of a ts) (λ ns. with_child 1 (with_child 0 (body_shape ns) (λ ks. with_child 1 (other_shape ns i) (of_equal ks)))
            (λ ms. Ok ms)))
            ∙ over_let (shape_of a ts) body_shape (λ ks. with_child 1 (shape_of c ts) (of_equal ks)) h);
      }

      add_right : Replaces f anywhere (add c (let_in a b)) (let_in a (add (under_let c) b))
      add_right = record {
        scoped = second_out A B (term_scoped sizes c vars tensors) (term_scoped sizes (under_let c) vars (tensors + 1)) other_scope;
        extents = λ s ds w. other_extents s ds;
        goals = λ s ds w. (w.goals.1.0, (moved_numbers 0 s (dims a s ds ∷ []) ds 0 [] c w.goals.0, w.goals.1.1));
        meaning = λ s r t k h w. λ j. by_places (λ v w. (v + w) % 2 ^ 64) (other_means s r t j) (den b s r (inner s r t));
        shape = λ h. same_shape_there (shape_of (add c (let_in a b)) ts) (shape_of (let_in a (add (under_let c) b)) ts) h
            ((λ i. with_child 0 (shape_of a ts) (λ ns. with_child 1 (with_child 0 (other_shape ns i) (λ ks. with_child 1 (body_shape ns) (of_equal ks)))
            (λ ms. Ok ms)))
            ∙ over_second (shape_of c ts) (shape_of a ts) body_shape of_equal h);
      }

      sub_left : Replaces f anywhere (sub (let_in a b) c) (let_in a (sub b (under_let c)))
      sub_left = record {
        scoped = first_out A B (term_scoped sizes c vars tensors) (term_scoped sizes (under_let c) vars (tensors + 1)) other_scope;
        extents = λ s ds w. refl;
        goals = λ s ds w. (w.goals.0.0, (w.goals.0.1, moved_numbers 0 s (dims a s ds ∷ []) ds 0 [] c w.goals.1));
        meaning = λ s r t k h w. λ j. by_places (λ v w. (v + (2 ^ 64 - w)) % 2 ^ 64) (den b s r (inner s r t)) (other_means s r t j);
        shape = λ h. same_shape_there (shape_of (sub (let_in a b) c) ts) (shape_of (let_in a (sub b (under_let c))) ts) h
            ((λ i. with_child 0 (shape_of a ts) (λ ns. with_child 1 (with_child 0 (body_shape ns) (λ ks. with_child 1 (other_shape ns i) (of_equal ks)))
            (λ ms. Ok ms)))
            ∙ over_let (shape_of a ts) body_shape (λ ks. with_child 1 (shape_of c ts) (of_equal ks)) h);
      }

      sub_right : Replaces f anywhere (sub c (let_in a b)) (let_in a (sub (under_let c) b))
      sub_right = record {
        scoped = second_out A B (term_scoped sizes c vars tensors) (term_scoped sizes (under_let c) vars (tensors + 1)) other_scope;
        extents = λ s ds w. other_extents s ds;
        goals = λ s ds w. (w.goals.1.0, (moved_numbers 0 s (dims a s ds ∷ []) ds 0 [] c w.goals.0, w.goals.1.1));
        meaning = λ s r t k h w. λ j. by_places (λ v w. (v + (2 ^ 64 - w)) % 2 ^ 64) (other_means s r t j) (den b s r (inner s r t));
        shape = λ h. same_shape_there (shape_of (sub c (let_in a b)) ts) (shape_of (let_in a (sub (under_let c) b)) ts) h
            ((λ i. with_child 0 (shape_of a ts) (λ ns. with_child 1 (with_child 0 (other_shape ns i) (λ ks. with_child 1 (body_shape ns) (of_equal ks)))
            (λ ms. Ok ms)))
            ∙ over_second (shape_of c ts) (shape_of a ts) body_shape of_equal h);
      }

      mul_left : Replaces f anywhere (mul (let_in a b) c) (let_in a (mul b (under_let c)))
      mul_left = record {
        scoped = first_out A B (term_scoped sizes c vars tensors) (term_scoped sizes (under_let c) vars (tensors + 1)) other_scope;
        extents = λ s ds w. refl;
        goals = λ s ds w. (w.goals.0.0, (w.goals.0.1, moved_numbers 0 s (dims a s ds ∷ []) ds 0 [] c w.goals.1));
        meaning = λ s r t k h w. λ j. by_places (λ v w. (v * w) % 2 ^ 64) (den b s r (inner s r t)) (other_means s r t j);
        shape = λ h. same_shape_there (shape_of (mul (let_in a b) c) ts) (shape_of (let_in a (mul b (under_let c))) ts) h
            ((λ i. with_child 0 (shape_of a ts) (λ ns. with_child 1 (with_child 0 (body_shape ns) (λ ks. with_child 1 (other_shape ns i) (of_words ks)))
            (λ ms. Ok ms)))
            ∙ over_let (shape_of a ts) body_shape (λ ks. with_child 1 (shape_of c ts) (of_words ks)) h);
      }

      mul_right : Replaces f anywhere (mul c (let_in a b)) (let_in a (mul (under_let c) b))
      mul_right = record {
        scoped = second_out A B (term_scoped sizes c vars tensors) (term_scoped sizes (under_let c) vars (tensors + 1)) other_scope;
        extents = λ s ds w. refl;
        goals = λ s ds w. (w.goals.1.0, (moved_numbers 0 s (dims a s ds ∷ []) ds 0 [] c w.goals.0, w.goals.1.1));
        meaning = λ s r t k h w. λ j. by_places (λ v w. (v * w) % 2 ^ 64) (other_means s r t j) (den b s r (inner s r t));
        shape = λ h. same_shape_there (shape_of (mul c (let_in a b)) ts) (shape_of (let_in a (mul (under_let c) b)) ts) h
            ((λ i. with_child 0 (shape_of a ts) (λ ns. with_child 1 (with_child 0 (other_shape ns i) (λ ks. with_child 1 (body_shape ns) (of_words ks)))
            (λ ms. Ok ms)))
            ∙ over_second (shape_of c ts) (shape_of a ts) body_shape of_words h);
      }

      concat_left : Replaces f anywhere (concat (let_in a b) c) (let_in a (concat b (under_let c)))
      concat_left = record {
        scoped = first_out A B (term_scoped sizes c vars tensors) (term_scoped sizes (under_let c) vars (tensors + 1)) other_scope;
        extents = λ s ds w. (λ j. (head_of (dims b s (dims a s ds ∷ ds)) + head_of (other_extents s ds j)) ∷ tail_of (dims b s (dims a s ds ∷ ds)));
        goals = λ s ds w. (w.goals.0.0, (w.goals.0.1, moved_numbers 0 s (dims a s ds ∷ []) ds 0 [] c w.goals.1));
        meaning = λ s r t k h w. λ j. from_rows (rows_of (den b s r (inner s r t)) ++ rows_of (other_means s r t j));
        shape = λ h. same_shape_there (shape_of (concat (let_in a b) c) ts) (shape_of (let_in a (concat b (under_let c))) ts) h
            ((λ i. with_child 0 (shape_of a ts) (λ ns. with_child 1 (with_child 0 (body_shape ns) (λ ks. with_child 1 (other_shape ns i) (of_concat ks)))
            (λ ms. Ok ms)))
            ∙ over_let (shape_of a ts) body_shape (λ ks. with_child 1 (shape_of c ts) (of_concat ks)) h);
      }

      concat_right : Replaces f anywhere (concat c (let_in a b)) (let_in a (concat (under_let c) b))
      concat_right = record {
        scoped = second_out A B (term_scoped sizes c vars tensors) (term_scoped sizes (under_let c) vars (tensors + 1)) other_scope;
        extents = λ s ds w. (λ j. (head_of (other_extents s ds j) + head_of (dims b s (dims a s ds ∷ ds))) ∷ tail_of (other_extents s ds j));
        goals = λ s ds w. (w.goals.1.0, (moved_numbers 0 s (dims a s ds ∷ []) ds 0 [] c w.goals.0, w.goals.1.1));
        meaning = λ s r t k h w. λ j. from_rows (rows_of (other_means s r t j) ++ rows_of (den b s r (inner s r t)));
        shape = λ h. same_shape_there (shape_of (concat c (let_in a b)) ts) (shape_of (let_in a (concat (under_let c) b)) ts) h
            ((λ i. with_child 0 (shape_of a ts) (λ ns. with_child 1 (with_child 0 (other_shape ns i) (λ ks. with_child 1 (body_shape ns) (of_concat ks)))
            (λ ms. Ok ms)))
            ∙ over_second (shape_of c ts) (shape_of a ts) body_shape of_concat h);
      }

-- the other child of an operator of two, in order
add_ordered : (a b : Term) → AllOrdered (add a b) → AllOrdered a × AllOrdered b
add_ordered a b o = and_parts (every_form is_ordered a) (every_form is_ordered b) (sym (fold-add Bool (form_step is_ordered) a b) ∙ o)

sub_ordered : (a b : Term) → AllOrdered (sub a b) → AllOrdered a × AllOrdered b
sub_ordered a b o = and_parts (every_form is_ordered a) (every_form is_ordered b) (sym (fold-sub Bool (form_step is_ordered) a b) ∙ o)

mul_ordered : (a b : Term) → AllOrdered (mul a b) → AllOrdered a × AllOrdered b
mul_ordered a b o = and_parts (every_form is_ordered a) (every_form is_ordered b) (sym (fold-mul Bool (form_step is_ordered) a b) ∙ o)

concat_ordered : (a b : Term) → AllOrdered (concat a b) → AllOrdered a × AllOrdered b
concat_ordered a b o = and_parts (every_form is_ordered a) (every_form is_ordered b) (sym (fold-concat Bool (form_step is_ordered) a b) ∙ o)

moved_over : (f : Focus) (g : Frame) → operates g ≡ true → (a b : Term) → AllOrdered (filled g (let_in a b))
    → Replaces f anywhere (filled g (let_in a b)) (let_in a (filled (under_one_more g) b))
moved_over f (OfIndex x) h a' b' o = absurd (cc)
moved_over f (OfGen n) h a' b' o = absurd (cc)
moved_over f (OfSum n) h a' b' o = absurd (cc)
moved_over f (OfGuard c) h a' b' o = absurd (cc)
moved_over f (OfDefinition b) h a' b' o = absurd (cc)
moved_over f (OfBody a) h a' b' o = absurd (cc)
moved_over f (AddLeft c) h a b o = add_left f a b c (add_ordered (let_in a b) c o).1
moved_over f (AddRight c) h a b o = add_right f a b c (add_ordered c (let_in a b) o).0
moved_over f (SubLeft c) h a b o = sub_left f a b c (sub_ordered (let_in a b) c o).1
moved_over f (SubRight c) h a b o = sub_right f a b c (sub_ordered c (let_in a b) o).0
moved_over f (MulLeft c) h a b o = mul_left f a b c (mul_ordered (let_in a b) c o).1
moved_over f (MulRight c) h a b o = mul_right f a b c (mul_ordered c (let_in a b) o).0
moved_over f (ConcatLeft c) h a b o = concat_left f a b c (concat_ordered (let_in a b) c o).1
moved_over f (ConcatRight c) h a b o = concat_right f a b c (concat_ordered c (let_in a b) o).0
moved_over f OfFlatten h a b o = flatten_moved f a b
moved_over f (OfSplit k) h a b o = split_moved f a b k
moved_over f OfTranspose h a b o = transpose_moved f a b
moved_over f (OfTruncL n) h a b o = trunc_l_moved f a b n
moved_over f (OfTruncR n) h a b o = trunc_r_moved f a b n
moved_over f (OfPadL n) h a b o = pad_l_moved f a b n
moved_over f (OfPadR n) h a b o = pad_r_moved f a b n

module _ (f : Focus) (p : IsProper f) (o : AllOrdered f.term) where
  op_let : (g : Frame) (e : Term) → f.term ≡ filled g e → operates g ≡ true
      → MeantKeeps f (with_let e (λ a b. Makes (let_in a (filled (under_one_more g) b)) []))
  op_let g (let_in a b) q h =
      replaced_anywhere f p (filled g (let_in a b)) (let_in a (filled (under_one_more g) b)) q (moved_over f g h a b (subst AllOrdered q o))
  op_let g _ q h = tt

  op_opened : is_operator f.term ≡ true → (j : ℕ) (x : Option Opened) → opened f.term j ≡ x
      → MeantKeeps f (with_opened x (λ g e. with_let e (λ a b. Makes (let_in a (filled (under_one_more g) b)) [])))
  op_opened u j (Some c) h = op_let c.frame c.child (sym (opened_is f.term j c h)) (opened_known f.term j f.term c u h).0
  op_opened u j None h = tt

  op_number : is_operator f.term ≡ true → (x : Option ℕ)
      → MeantKeeps f (with_number x (λ j. with_opened (opened f.term j) (λ g e. with_let e (λ a b. Makes (let_in a (filled (under_one_more g) b)) []))))
  op_number u (Some j) = op_opened u j (opened f.term j) refl
  op_number u None = tt

  op_if : (as' : List Arg) (u : Bool) → is_operator f.term ≡ u
      → MeantKeeps f (provided u (with_number (number_of as') (λ j.
      with_opened (opened f.term j) (λ g e. with_let e (λ a b. Makes (let_in a (filled (under_one_more g) b)) [])))))
  op_if as' true h = op_number h (number_of as')
  op_if as' false h = tt

pub let_op_keeps : RuleKeeps let_op
let_op_keeps f p o as' = op_if f p o as' (is_operator f.term) refl
