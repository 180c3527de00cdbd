-- A module whose goals are shown by default lines is sound.
use Rattle.std.proofs.Common.{◌≡◌, ℕ, suc, ◌≤◌, List, [], ◌∷◌, ◌++◌, length, map, append_assoc, refl, ap, subst, sym, arith, true}
use Rattle.std.specs.Prelude.{ℤ, pos, negsuc, ◌≤ℤ◌, slice_index}
use Rattle.std.proofs.Math.Seq.{get_or-append_seam}
use Rattle.std.proofs.lemmas.Bool.{and_parts}
use Rattle.std.proofs.lemmas.Int.{ints}
use Rattle.affine_index.specs.Condition.{at_least_zero}
use Rattle.affine_index.specs.Normal.{is_normal}
use Rattle.affine_index.specs.Value.{items_value}
use Rattle.fact_list.specs.Truth.{FactsHold, SizesWithin}
use Rattle.fact_list.specs.declared.facts.SizeBounds.{SizeBounds}
use Rattle.linear_cert.specs.declared.lines.Lines.TheVariants.{Default}
use Rattle.linear_cert.proofs.ShownTrue.{shown-at-place}
use Rattle.term_tree.specs.declared.term.Module.{Module}
use Rattle.term_tree.specs.declared.term.SizeDecl.{SizeDecl}
use Rattle.term_tree.specs.Modules.{Allowed, IsWithin}
use Rattle.term_tree.specs.Shape.{Extents}
use Rattle.shape_rules.specs.Admitted.{AllShown, SoundByLines, each_normal, module_facts}
use Rattle.shape_rules.specs.Meant.{SoundByGoals}
use Rattle.shape_rules.specs.Values.{NoneNegative}

abbrev bounds_of : List SizeDecl → List SizeBounds
bounds_of ds = map (λ d. record { low = d.low; high = d.high }) ds

length_more : (xs : List ℕ) (n : ℕ) → length (xs ++ n ∷ []) ≡ suc (length xs)
length_more [] n = refl
length_more (x ∷ xs) n = ap suc (length_more xs n)

-- sizes within their bounds, by their numbers
within_at : (ds : List SizeDecl) (ns before : List ℕ) → IsWithin ds ns → SizesWithin (before ++ ns) (length before) (bounds_of ds)
within_at [] [] before h = tt
within_at [] (n ∷ ns) before h = absurd h
within_at (d ∷ ds) [] before h = absurd h
within_at (d ∷ ds) (n ∷ ns) before h =
    let e : slice_index (before ++ n ∷ ns) (length before) ≡ n = get_or-append_seam before n ns 0 in
    let rest = within_at ds ns (before ++ n ∷ []) h.2 in (
      subst (λ (x : ℕ). d.low ≤ x) (sym e) h.0,
      subst (λ (x : ℕ). x ≤ d.high) (sym e) h.1,
      subst (λ (xs : List ℕ). SizesWithin xs (suc (length before)) (bounds_of ds)) (append_assoc before (n ∷ []) ns)
          (subst (λ (k : ℕ). SizesWithin ((before ++ n ∷ []) ++ ns) k (bounds_of ds)) (length_more before n) rest),
    )

facts_hold : (m : Module) (s : List ℕ) → Allowed m s → FactsHold (module_facts m) s []
facts_hold m s a = (within_at m.sizes s [] a.within, a.assumed, tt)

at_least : (z : ℤ) → pos 0 ≤ℤ z → at_least_zero z ≡ true
at_least (pos n) h = refl
at_least (negsuc n) h = absurd (omega (arith, ints, h))

shown_positive : (m : Module) (s : List ℕ) → Allowed m s → (goals : Extents) → each_normal goals ≡ true → AllShown (module_facts m) goals → NoneNegative s goals
shown_positive m s a [] n h = tt
shown_positive m s a (g ∷ gs) n h =
    let p = and_parts (is_normal g) (each_normal gs) n in
    (at_least (items_value s [] g) (shown-at-place (module_facts m) g Default p.0 tt h.0 s [] (facts_hold m s a)), shown_positive m s a gs p.1 h.1)

pub sound_by_lines : (m : Module) (goals : Extents) → each_normal goals ≡ true → SoundByGoals m goals → SoundByLines m goals
sound_by_lines m goals n sound h = sound (λ s a. shown_positive m s a goals n h)
