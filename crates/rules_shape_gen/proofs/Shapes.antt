-- Shapes of gens within other nodes, where they are there.
use Rattle.std.proofs.Common.{◌≡◌, ℕ, List, [], ◌∷◌, length, refl, sym, ◌∙◌, subst, arith, Bool, true, false, not, ◌==◌, if◌then◌else◌, IsOk, Ok, Err}
use Rattle.std.specs.Prelude.{ℤ, pos, ◌*ℤ◌}
use Rattle.std.proofs.lemmas.Int.{ints}
use Rattle.affine_index.specs.Form.{literal_form}
use Rattle.affine_index.specs.Product.{product_of}
use Rattle.affine_index.specs.Sum.{scaled_terms, sum_of}
use Rattle.affine_index.specs.declared.form.Atom.{Atom}
use Rattle.affine_index.specs.declared.form.Item.{Item}
use Rattle.affine_index.specs.declared.form.Items.{Items}
use Rattle.path_focus.specs.Focus.{SameOrLimit}
use Rattle.path_focus.proofs.ShapeSteps.{equal_or, limited_or, new_is, next, old_is}
use Rattle.rule_parts.proofs.Replacing.{never}
use Rattle.rule_parts.proofs.ShapeLaws.{first_ok}
use Rattle.rules_loop.proofs.ShapeLaws.{equals, rows, summed, within}
use Rattle.shape_rules.proofs.SameLaws.{same_forms-equal}
use Rattle.shape_rules.specs.Rules.{more_shape}
use Rattle.term_tree.specs.Shape.{Extents, Shaped, here, limited, of_concat, of_first, of_two, same_forms, tiles, with_child}
use Rattle.term_tree.specs.declared.cause.Cause.{Cause}
use Rattle.term_tree.specs.declared.cause.Cause.TheVariants.{RankMismatch, ShapesDiffer}

-- what is made of the extents of a gen
pub on_gen_rows : (n : Items) (g : Extents → Shaped) (y : Shaped) → IsOk (with_child 0 (rows n y) g)
    → with_child 0 (rows n y) g ≡ with_child 0 y (λ ns. g (n ∷ ns))
on_gen_rows n g (Ok ns) h = λ i. with_child 0 (within (n ∷ ns) (first_ok (limited (n ∷ ns)) g h) i) g
on_gen_rows n g (Err m) h = absurd (never h)

-- the same as a shape that is there
pub same_as : (x y : Shaped) → IsOk x → x ≡ y → SameOrLimit x y
same_as (Ok ns) y h e = subst (SameOrLimit (Ok ns)) e refl
same_as (Err m) y h e = absurd (never h)

passed : (b : Bool) (cause : Cause) (z : Shaped) → IsOk (if b then here cause else z) → (b ≡ false) × IsOk z
passed true cause z h = absurd (never h)
passed false cause z h = (refl, h)

not_false : (b : Bool) → not b ≡ false → b ≡ true
not_false true h = refl
not_false false h = absurd (never (sym h))

-- extents that may be joined
pub concat_is : (n m : Items) (ns ms : Extents) → IsOk (of_concat (n ∷ ns) (m ∷ ms)) → (ms ≡ ns) × (of_concat (n ∷ ns) (m ∷ ms) ≡ Ok (sum_of n m ∷ ns))
concat_is n m ns ms h =
    let a = passed (not (length ns == length ms)) RankMismatch (if not (same_forms ns ms) then here ShapesDiffer else limited (sum_of n m ∷ ns)) h in
    let b = passed (not (same_forms ns ms)) ShapesDiffer (limited (sum_of n m ∷ ns)) a.1 in (
      sym (same_forms-equal ns ms (not_false (same_forms ns ms) b.0)),
      (λ i. if a.0 i then here RankMismatch else (if not (same_forms ns ms) then here ShapesDiffer else limited (sum_of n m ∷ ns)))
          ∙ (λ i. if b.0 i then here ShapesDiffer else limited (sum_of n m ∷ ns)) ∙ within (sum_of n m ∷ ns) b.1,
    )

-- of two gens, one behind the other
abbrev pub joined_rows : Items → Items → Shaped → Shaped → Shaped
joined_rows n m y z = with_child 0 (rows n y) (λ ns. with_child 1 (rows m z) (λ ms. of_concat ns ms))

joined_there : (n m : Items) (ns ms : Extents) → IsOk (joined_rows n m (Ok ns) (Ok ms))
    → (IsOk (rows m (Ok ms))) × (ms ≡ ns) × (joined_rows n m (Ok ns) (Ok ms) ≡ Ok (sum_of n m ∷ ns))
joined_there n m ns ms h =
    let a = within (n ∷ ns) (first_ok (limited (n ∷ ns)) (λ ns. with_child 1 (limited (m ∷ ms)) (λ ms. of_concat ns ms)) h) in
    let first : joined_rows n m (Ok ns) (Ok ms) ≡ with_child 1 (limited (m ∷ ms)) (λ ms. of_concat (n ∷ ns) ms) =
    λ i. with_child 0 (a i) (λ ns. with_child 1 (limited (m ∷ ms)) (λ ms. of_concat ns ms)) in
    let k = second_ok (limited (m ∷ ms)) (subst IsOk first h) in
    let b = within (m ∷ ms) k in
    let second : with_child 1 (limited (m ∷ ms)) (λ ms. of_concat (n ∷ ns) ms) ≡ of_concat (n ∷ ns) (m ∷ ms) =
    λ i. with_child 1 (b i) (λ ms. of_concat (n ∷ ns) ms) in
    let both = concat_is n m ns ms (subst IsOk (first ∙ second) h) in
    (k, both.0, first ∙ second ∙ both.1)
  where
    second_ok : (z : Shaped) → IsOk (with_child 1 z (λ ms. of_concat (n ∷ ns) ms)) → IsOk z
    second_ok (Ok xs) h = refl
    second_ok (Err c) h = absurd (never h)

-- the second is there
pub second_there : (n m : Items) (y z : Shaped) → IsOk (joined_rows n m y z) → IsOk (rows m z)
second_there n m (Ok ns) (Ok ms) h = (joined_there n m ns ms h).0
second_there n m (Ok ns) (Err c) h = absurd (by (limited (n ∷ ns)) h)
  where
    by : (x : Shaped) → IsOk (with_child 0 x (λ ns. with_child 1 (rows m (Err c)) (λ ms. of_concat ns ms))) → ⊥
    by (Ok xs) h = never h
    by (Err d) h = never h
second_there n m (Err c) z h = absurd (never h)

-- the rows of both, added under guards
pub concat_shape : (n m : Items) (y z w : Shaped) → w ≡ z → IsOk (joined_rows n m y z)
    → SameOrLimit (joined_rows n m y z) (rows (sum_of n m) (equals (summed y) (summed w)))
concat_shape n m (Ok ns) (Ok ms) w e h =
    let j = joined_there n m ns ms h in
    let k = sum_of n m in
    old_is (joined_rows n m (Ok ns) (Ok ms)) (k ∷ ns) (rows k (equals (summed (Ok ns)) (summed w))) j.2
    (new_is (Ok (k ∷ ns)) (rows k (equals (summed (Ok ns)) (summed w))) (rows k (equals (summed (Ok ns)) (summed (Ok ns))))
    ((λ i. rows k (equals (summed (Ok ns)) (summed (e i)))) ∙ (λ i. rows k (equals (summed (Ok ns)) (summed (Ok (j.1 i))))))
    (next 0 (equals (summed (Ok ns)) (summed (Ok ns))) (λ ns. limited (k ∷ ns)) ns (k ∷ ns) (equal_or ns) (limited_or (k ∷ ns))))
concat_shape n m (Ok ns) (Err c) w e h = absurd (never (second_there n m (Ok ns) (Err c) h))
concat_shape n m (Err c) z w e h = absurd (never h)

-- of a gen with more rows, those of which are guarded
pub padded_shape : (n a : Items) (y z : Shaped) → z ≡ y → IsOk (with_child 0 (rows n y) (more_shape a))
    → SameOrLimit (with_child 0 (rows n y) (more_shape a)) (rows (sum_of n a) (summed z))
padded_shape n a (Ok ns) z e h =
    same_as (with_child 0 (rows n (Ok ns)) (more_shape a)) (rows (sum_of n a) (summed z)) h
    (on_gen_rows n (more_shape a) (Ok ns) h ∙ (λ i. rows (sum_of n a) (summed (sym e i))))
padded_shape n a (Err c) z e h = absurd (never h)

-- of a gen in tiles of k
abbrev pub tiled : ℕ → Shaped → Shaped
tiled k y = with_child 0 y (λ ns. of_first ns (λ n rest. limited (tiles k n ∷ literal_form (pos k) ∷ rest)))

pub split_shape : (k : ℕ) (n : Items) (y z : Shaped) → z ≡ y → IsOk (tiled k (rows n y))
    → SameOrLimit (tiled k (rows n y)) (rows (tiles k n) (rows (literal_form (pos k)) (summed z)))
split_shape k n (Ok ns) z e h =
    let count = tiles k n in
    let width = literal_form (pos k) in
    let old : tiled k (rows n (Ok ns)) ≡ limited (count ∷ width ∷ ns) =
    on_gen_rows n (λ ns. of_first ns (λ n rest. limited (tiles k n ∷ literal_form (pos k) ∷ rest))) (Ok ns) h in
    old_is (tiled k (rows n (Ok ns))) (count ∷ width ∷ ns) (rows count (rows width (summed z))) (old ∙ within (count ∷ width ∷ ns) (subst IsOk old h))
    (new_is (Ok (count ∷ width ∷ ns)) (rows count (rows width (summed z))) (rows count (rows width (summed (Ok ns))))
    (λ i. rows count (rows width (summed (e i))))
    (next 0 (limited (width ∷ ns)) (λ ns. limited (count ∷ ns)) (width ∷ ns) (count ∷ width ∷ ns) (limited_or (width ∷ ns))
    (limited_or (count ∷ width ∷ ns))))
split_shape k n (Err c) z e h = absurd (never h)

-- a form once
once : (z : ℤ) → pos 1 *ℤ z ≡ z
once z = omega (arith, ints)

once_terms : (ts : List (Item Atom)) → scaled_terms (pos 1) ts ≡ ts
once_terms [] = refl
once_terms (t ∷ ts) = λ i. record { atom = t.atom; coefficient = once t.coefficient i } ∷ once_terms ts i

product_once : (m : Items) → product_of (literal_form (pos 1)) m ≡ m
product_once m = λ i. record { terms = once_terms m.terms i; constant = once m.constant i }

-- of a gen of one row that is flattened
abbrev pub flat : Shaped → Shaped
flat y = with_child 0 y (λ ns. of_two ns (λ n m rest. limited (product_of n m ∷ rest)))

pub flat_shape : (y z : Shaped) → z ≡ y → IsOk (flat (rows (literal_form (pos 1)) y)) → SameOrLimit (flat (rows (literal_form (pos 1)) y)) z
flat_shape (Ok []) z e h =
    absurd (never (subst IsOk (on_gen_rows (literal_form (pos 1)) (λ ns. of_two ns (λ n m rest. limited (product_of n m ∷ rest))) (Ok []) h) h))
flat_shape (Ok (m ∷ ms)) z e h =
    let old : flat (rows (literal_form (pos 1)) (Ok (m ∷ ms))) ≡ limited (m ∷ ms) =
    on_gen_rows (literal_form (pos 1)) (λ ns. of_two ns (λ n m rest. limited (product_of n m ∷ rest))) (Ok (m ∷ ms)) h
    ∙ (λ i. limited (product_once m i ∷ ms)) in
    same_as (flat (rows (literal_form (pos 1)) (Ok (m ∷ ms)))) z h (old ∙ within (m ∷ ms) (subst IsOk old h) ∙ sym e)
flat_shape (Err c) z e h = absurd (never h)
