-- In an accepted module each claim holds where its path does, and each printed form is exact.
use Rattle.std.proofs.Common.{◌≡◌, ℕ, zero, suc, ◌+◌, ◌≤◌, List, [], ◌∷◌, ◌++◌, length, map, append_assoc, refl, ap, sym, ◌∙◌, subst, arith, Bool, true, false}
use Rattle.std.proofs.Common.{◌&&◌, nat_le, Some, None, if◌then◌else◌, Ok, Err}
use Rattle.std.specs.Prelude.{slice_index}
use Rattle.std.proofs.Math.Seq.{get_or-append_seam}
use Rattle.std.proofs.lemmas.Bool.{and_parts}
use Rattle.affine_index.specs.Condition.{all_scoped}
use Rattle.affine_index.specs.Limited.{items_scoped}
use Rattle.affine_index.specs.Magnitude.{magnitude}
use Rattle.affine_index.specs.Normal.{coefficients_fit, is_normal, is_ordered, is_short}
use Rattle.affine_index.specs.Printed.{WithinMaxima}
use Rattle.fact_list.specs.Truth.{FactsHold, PathHolds, SizesWithin}
use Rattle.fact_list.specs.declared.facts.SizeBounds.{SizeBounds}
use Rattle.linear_cert.specs.declared.lines.FinalLine.{FinalLine}
use Rattle.linear_cert.specs.declared.lines.Lines.{Lines}
use Rattle.linear_cert.specs.Shown.{is_shown}
use Rattle.linear_cert.proofs.ShownTrue.{shown-at-place}
use Rattle.term_tree.specs.declared.term.Module.{Module}
use Rattle.term_tree.specs.declared.term.SizeDecl.{SizeDecl}
use Rattle.term_tree.specs.Modules.{Allowed, IsWithin, module_scoped}
use Rattle.affine_index.specs.declared.form.Items.{Items}
use Rattle.affine_index.proofs.MagnitudeBounds.{form-most}
use Rattle.reindexer.specs.Limited.{Limited}
use Rattle.shape_rules.specs.Admitted.{module_facts}
use Rattle.final_rules.specs.declared.fault.FinalFault.{FinalFault}
use Rattle.final_rules.specs.declared.fault.FinalFault.TheVariants.{IndexTooLarge}
use Rattle.final_rules.specs.Goals.{Claim, goal_of, kept_goal}
use Rattle.final_rules.specs.Met.{is_met, shows}
use Rattle.final_rules.specs.Printed.{Printed, at_least_one, form_small, greatest, is_small, largest_index}
use Rattle.final_rules.specs.Rules.{Expression, Index, Verdict, goals_with, lines_of, not_shown, goal_fault, maxima, large_fault}
use Rattle.final_rules.proofs.Closed.{hold-closed}
use Rattle.index_trees.proofs.TreeExact.{trees-exact}
use Rattle.final_rules.proofs.Walk.{Every, ClaimHolds, PrintedHolds}

abbrev bounds_of : List SizeDecl → List SizeBounds
bounds_of ds = map (λ d. record { low = d.low; high = d.high }) ds

length_more : (xs : List ℕ) (n : ℕ) → length (xs ++ n ∷ []) ≡ suc (length xs)
length_more [] n = refl
length_more (x ∷ xs) n = ap suc (length_more xs n)

-- sizes within their bounds, by their numbers
within_at : (ds : List SizeDecl) (ns before : List ℕ) → IsWithin ds ns → SizesWithin (before ++ ns) (length before) (bounds_of ds)
within_at [] [] before h = tt
within_at [] (n ∷ ns) before h = absurd h
within_at (d ∷ ds) [] before h = absurd h
within_at (d ∷ ds) (n ∷ ns) before h =
    let e : slice_index (before ++ n ∷ ns) (length before) ≡ n = get_or-append_seam before n ns 0 in
    let rest = within_at ds ns (before ++ n ∷ []) h.2 in (
      subst (λ (x : ℕ). d.low ≤ x) (sym e) h.0,
      subst (λ (x : ℕ). x ≤ d.high) (sym e) h.1,
      subst (λ (xs : List ℕ). SizesWithin xs (suc (length before)) (bounds_of ds)) (append_assoc before (n ∷ []) ns)
          (subst (λ (k : ℕ). SizesWithin ((before ++ n ∷ []) ++ ns) k (bounds_of ds)) (length_more before n) rest),
    )

one_more : (n : ℕ) → n ≤ at_least_one n
one_more n = grind arith

one_least : (n : ℕ) → 1 ≤ at_least_one n
one_least n = grind arith

sizes_within : (ds : List SizeDecl) (ns : List ℕ) → IsWithin ds ns → WithinMaxima ns (map (λ d. at_least_one d.high) ds)
sizes_within [] [] h k l = absurd (omega (arith, l))
sizes_within [] (n ∷ ns) h k l = absurd h
sizes_within (d ∷ ds) [] h k l = absurd h
sizes_within (d ∷ ds) (n ∷ ns) h zero l = (omega (arith, h.1, one_more d.high), one_least d.high)
sizes_within (d ∷ ds) (n ∷ ns) h (suc k) l = sizes_within ds ns h.2 k (omega (arith, l))

pub length-map : {A B : Type 0} (f : A → B) (xs : List A) → length (map f xs) ≡ length xs
length-map f [] = refl
length-map f (x ∷ xs) = ap suc (length-map f xs)

none_some : {A B : Type 0} {x : A} → Some x ≡ None → B
none_some e = cc

pub if_none : (b : Bool) (rest : Verdict) (f : FinalFault) → (if b then rest else Some f) ≡ None → (b ≡ true) × (rest ≡ None)
if_none true rest f e = (refl, e)
if_none false rest f e = none_some e

pub small_le : (n k : ℕ) → nat_le n k ≡ true → n ≤ k
small_le n k h = grind arith

module _ (m : Module) (s : List ℕ) (a : Allowed m s) (scoped : module_scoped m ≡ true) where
  facts-hold : (c : Claim) (y : List ℕ) → PathHolds s y c.path → FactsHold (goal_of (module_facts m) c).facts s y
  facts-hold c y h = (
    within_at m.sizes s [] a.within,
    hold-closed (length m.sizes) s y m.assumes (and_parts (all_scoped (length m.sizes) 0 m.assumes) _ scoped).0 ∙ a.assumed,
    h,
  )

  met-holds : (c : Claim) (lines : Lines) → is_met (goal_of (module_facts m) c) lines ≡ true → ClaimHolds s (maxima m) c
  met-holds c lines e = by c.form refl e
    where
      shown : (x : Items) (b : Bool) → is_normal x ≡ b → shows (goal_of (module_facts m) c).facts (if b then Some x else None) lines ≡ true
          → (is_normal x ≡ true) × (is_shown (goal_of (module_facts m) c).facts x lines ≡ true)
      shown x true n h = (n, h)
      shown x false n h = absurd (cc)

      by : (l : Limited Items) → c.form ≡ l → shows (goal_of (module_facts m) c).facts (kept_goal l) lines ≡ true → ClaimHolds s (maxima m) c
      by (Ok x) q h =
          let p = shown x (is_normal x) refl h in
          (x, q, λ y k g. shown-at-place (goal_of (module_facts m) c).facts x lines p.0 k p.1 s y (facts-hold c y g))
      by (Err f) q h = absurd (cc)

  pub claims-hold : (finals : List FinalLine) (k : ℕ) (cs : List Claim) → goal_fault finals k (goals_with (module_facts m) cs) ≡ None
      → Every (ClaimHolds s (maxima m)) cs
  claims-hold finals k [] e = tt
  claims-hold finals k (c ∷ cs) e =
      let g = goal_of (module_facts m) c in
      let p = if_none (is_met g (lines_of k finals)) (goal_fault finals (k + 1) (goals_with (module_facts m) cs)) (not_shown k g.kind) e in
      (met-holds c (lines_of k finals) p.0, claims-hold finals (k + 1) cs p.1)

  pub maxima-within : WithinMaxima s (maxima m)
  maxima-within = sizes_within m.sizes s a.within

  -- each name in a printed form is in scope
  abbrev pub InScope : Printed → Type 0
  InScope i = (x : Items) → i.form ≡ Ok x → items_scoped (length m.sizes) (length i.scope) x ≡ true

  form-holds : (i : Printed) (x : Items) → i.form ≡ Ok x → items_scoped (length m.sizes) (length i.scope) x ≡ true
      → (is_normal x && nat_le (magnitude (maxima m) (greatest (maxima m) i.scope) x) largest_index) ≡ true → PrintedHolds s (maxima m) i
  form-holds i x e c h = (
    x,
    e,
    λ r y turns within l.
        let most = greatest (maxima m) i.scope in
        let q = and_parts (is_normal x) (nat_le (magnitude (maxima m) most x) largest_index) h in
        let o = and_parts (is_ordered x) (coefficients_fit x && is_short x) q.0 in
        let ls : length m.sizes ≡ length (maxima m) = sym (length-map (λ d. at_least_one d.high) m.sizes) in
        let lv : length i.scope ≡ length most = sym (length-map (λ n. at_least_one (magnitude (maxima m) [] n)) i.scope) in
        let d = subst (λ (k : ℕ). items_scoped k (length most) x ≡ true) ls (subst (λ (k : ℕ). items_scoped (length m.sizes) k x ≡ true) lv c) in
        let le = small_le (magnitude (maxima m) most x) largest_index q.1 in (
          trees-exact x o.0 s y r (maxima m) most turns maxima-within within (sym lv ∙ l) d le,
          omega (arith, form-most s y (maxima m) most maxima-within within x d, le),
        ),
  )

  small-holds : (i : Printed) → InScope i → is_small (maxima m) i ≡ true → PrintedHolds s (maxima m) i
  small-holds i c e = by i.form refl e
    where
      by : (l : Limited Items) → i.form ≡ l → form_small (maxima m) (greatest (maxima m) i.scope) l ≡ true → PrintedHolds s (maxima m) i
      by (Ok x) q h = form-holds i x q (c x q) h
      by (Err f) q h = absurd (cc)

  pub printed-hold : (k : ℕ) (is : List Printed) (xs : List Expression) → Every InScope is → large_fault (maxima m) k (map Index is ++ xs) ≡ None
      → Every (PrintedHolds s (maxima m)) is
  printed-hold k [] xs c e = tt
  printed-hold k (i ∷ is) xs c e =
      let p = if_none (is_small (maxima m) i) (large_fault (maxima m) (k + 1) (map Index is ++ xs)) (IndexTooLarge k) e in (
        small-holds i c.0 p.0,
        printed-hold (k + 1) is xs c.1 p.1,
      )
