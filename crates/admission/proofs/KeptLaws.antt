-- Constraints that an example keeps, and goals that are shown.
use Rattle.std.proofs.Common.{◌≡◌, ℕ, suc, ◌+◌, ◌<◌, List, [], ◌∷◌, ◌++◌, length, map, drop, drop-cons, add-one, get_or, refl, ap, sym, ◌∙◌, arith, Bool, true}
use Rattle.std.proofs.Common.{false, ◌&&◌, nat_le, Option, None, Some}
use Rattle.std.specs.Option.{option_map}
use Rattle.std.specs.Prelude.{ℤ}
use Rattle.std.proofs.lemmas.Bool.{and_from, and_parts, leb-true}
use Rattle.affine_index.proofs.ValueLaws.{value-agrees}
use Rattle.affine_index.specs.Condition.{all_hold, cmp_at, cmp_form, cmp_holds}
use Rattle.affine_index.specs.Limited.{limited_value}
use Rattle.affine_index.specs.Value.{items_value}
use Rattle.affine_index.specs.declared.cond.Cmp.{Cmp}
use Rattle.affine_index.specs.declared.form.Items.{Items}
use Rattle.fact_list.specs.declared.facts.Facts.{Facts}
use Rattle.shape_rules.specs.Admitted.{AllShown}
use Rattle.term_tree.specs.Modules.{Allowed, IsWithin}
use Rattle.term_tree.specs.declared.term.Module.{Module}
use Rattle.term_tree.specs.declared.term.SizeDecl.{SizeDecl}
use Rattle.admission.specs.Admission.{assume_holds, broken, first_false, is_held, is_shown_alone, shown_alone, within}

-- all hold where none is the first that does not
none_false : (n : ℕ) (b : Bool) (bs : List Bool) → first_false n (b ∷ bs) ≡ None → (b ≡ true) × (first_false (suc n) bs ≡ None)
none_false n true bs h = (refl, h)
none_false n false bs h = absurd (cc)

-- the first that does not hold, of two lists one behind another
pub first_in_front : (n m : ℕ) (bs cs : List Bool) → first_false n bs ≡ Some m → first_false n (bs ++ cs) ≡ Some m
first_in_front n m [] cs h = absurd (cc)
first_in_front n m (true ∷ bs) cs h = first_in_front (suc n) m bs cs h
first_in_front n m (false ∷ bs) cs h = h

pub first_behind : (n : ℕ) (bs cs : List Bool) → first_false n bs ≡ None → first_false n (bs ++ cs) ≡ first_false (n + length bs) cs
first_behind n [] cs h = ap (λ k. first_false k cs) (omega arith)
first_behind n (true ∷ bs) cs h = first_behind (suc n) bs cs h ∙ ap (λ k. first_false k cs) (omega arith)
first_behind n (false ∷ bs) cs h = absurd (cc)

-- one more that holds
first_step : (n : ℕ) (b : Bool) (bs : List Bool) → b ≡ true → first_false n (b ∷ bs) ≡ first_false (suc n) bs
first_step n true bs h = refl
first_step n false bs h = absurd (cc)

first_here : (n : ℕ) (b : Bool) (bs : List Bool) → b ≡ false → first_false n (b ∷ bs) ≡ Some n
first_here n true bs h = absurd (cc)
first_here n false bs h = refl

-- a list that is walked, each item with a test
module _ {X : Type 0} (test : X → Bool) (xs : List X) (first at : ℕ) (x : X) (few : at < length xs) (is : x ≡ get_or xs at x)
    (before : first_false first (map test xs) ≡ first_false (first + at) (map test (drop at xs))) where
  rest : drop at xs ≡ x ∷ drop (at + 1) xs
  rest = drop-cons xs at x few ∙ (λ i. sym is i ∷ drop (sym (add-one at) i) xs)

  pub walked_on : test x ≡ true → first_false first (map test xs) ≡ first_false (first + (at + 1)) (map test (drop (at + 1) xs))
  walked_on holds =
      before ∙ ap (λ xs. first_false (first + at) (map test xs)) rest ∙ first_step (first + at) (test x) (map test (drop (at + 1) xs)) holds
      ∙ ap (λ n. first_false n (map test (drop (at + 1) xs))) (omega arith)

  pub walked_here : test x ≡ false → first_false first (map test xs) ≡ Some (first + at)
  walked_here fails = before ∙ ap (λ xs. first_false (first + at) (map test xs)) rest ∙ first_here (first + at) (test x) (map test (drop (at + 1) xs)) fails

-- goals that are shown
pub each_shown : (facts : Facts) (n : ℕ) (goals : List Items) → first_false n (shown_alone facts goals) ≡ None → AllShown facts goals
each_shown facts n [] h = tt
each_shown facts n (g ∷ gs) h = let p = none_false n (is_shown_alone facts g) (shown_alone facts gs) h in (p.0, each_shown facts (suc n) gs p.1)

-- sizes and their numbers
pub within-length : (ds : List SizeDecl) (ns : List ℕ) → length (within ds ns) ≡ length ds
within-length [] ns = refl
within-length (d ∷ ds) [] = ap suc (within-length ds [])
within-length (d ∷ ds) (n ∷ ns) = ap suc (within-length ds ns)

within_bounds : (m : ℕ) (ds : List SizeDecl) (ns : List ℕ) → length ds ≡ length ns → first_false m (within ds ns) ≡ None → IsWithin ds ns
within_bounds m [] [] e h = tt
within_bounds m [] (n ∷ ns) e h = absurd (omega (arith, e))
within_bounds m (d ∷ ds) [] e h = absurd (omega (arith, e))
within_bounds m (d ∷ ds) (n ∷ ns) e h =
    let p = none_false m (nat_le d.low n && nat_le n d.high) (within ds ns) h in
    let b = and_parts (nat_le d.low n) (nat_le n d.high) p.0 in
    (leb-true d.low n b.0, leb-true n d.high b.1, within_bounds (suc m) ds ns (omega (arith, e)) p.1)

-- an assume that holds as far as it is computed holds
held : (s : List ℕ) (c : Cmp) (o : Option ℤ) → ((x : ℤ) → o ≡ Some x → x ≡ items_value s [] (cmp_form c)) → is_held (option_map (cmp_at c) o) ≡ true
    → cmp_holds s [] c ≡ true
held s c None value h = absurd (cc)
held s c (Some x) value h = ap (cmp_at c) (sym (value x refl)) ∙ h

assumes_hold : (n : ℕ) (s : List ℕ) (cs : List Cmp) → first_false n (map (assume_holds s) cs) ≡ None → all_hold s [] cs ≡ true
assumes_hold n s [] h = refl
assumes_hold n s (c ∷ cs) h =
    let p = none_false n (assume_holds s c) (map (assume_holds s) cs) h in
    and_from (cmp_holds s [] c) (all_hold s [] cs) (held s c (limited_value s [] (cmp_form c)) (value-agrees s [] (cmp_form c)) p.0)
    (assumes_hold (suc n) s cs p.1)

-- sizes that keep each constraint are allowed
pub sizes_allowed : (m : Module) (sizes : List ℕ) → length sizes ≡ length m.sizes → broken m sizes ≡ None → Allowed m sizes
sizes_allowed m sizes e h =
    let bs = within m.sizes sizes in
    let cs = map (assume_holds sizes) m.assumes in
    let front : first_false 1 bs ≡ None = none_in_front 1 bs cs h in
    record {
      within = within_bounds 1 m.sizes sizes (sym e) front;
      assumed = assumes_hold (1 + length bs) sizes m.assumes (sym (first_behind 1 bs cs front) ∙ h);
    }
  where
    none_in_front : (n : ℕ) (bs cs : List Bool) → first_false n (bs ++ cs) ≡ None → first_false n bs ≡ None
    none_in_front n [] cs h = refl
    none_in_front n (true ∷ bs) cs h = none_in_front (suc n) bs cs h
    none_in_front n (false ∷ bs) cs h = absurd (cc)
