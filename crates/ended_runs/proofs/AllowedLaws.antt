-- Sizes that break no constraint are allowed.
use Rattle.std.proofs.Common.{◌≡◌, ◌∙◌, ℕ, suc, ◌+◌, List, [], ◌∷◌, ◌++◌, length, map, refl, ap, sym, arith, Bool, true, false, ◌&&◌, nat_le}
use Rattle.std.proofs.Common.{Option, None, Some}
use Rattle.std.specs.Option.{option_map}
use Rattle.std.specs.Prelude.{ℤ}
use Rattle.std.proofs.lemmas.Bool.{and_from, and_parts, leb-true}
use Rattle.affine_index.proofs.ValueLaws.{value-agrees}
use Rattle.affine_index.specs.Condition.{all_hold, cmp_at, cmp_form, cmp_holds}
use Rattle.affine_index.specs.Limited.{limited_value}
use Rattle.affine_index.specs.Value.{items_value}
use Rattle.affine_index.specs.declared.cond.Cmp.{Cmp}
use Rattle.term_tree.specs.Modules.{Allowed, IsWithin}
use Rattle.term_tree.specs.declared.term.Module.{Module}
use Rattle.term_tree.specs.declared.term.SizeDecl.{SizeDecl}
use Rattle.admission.specs.Admission.{assume_holds, broken, first_false, is_held, within}

none_false : (n : ℕ) (b : Bool) (bs : List Bool) → first_false n (b ∷ bs) ≡ None → (b ≡ true) × (first_false (suc n) bs ≡ None)
none_false n true bs h = (refl, h)
none_false n false bs h = absurd (cc)

none_in_front : (n : ℕ) (bs cs : List Bool) → first_false n (bs ++ cs) ≡ None → first_false n bs ≡ None
none_in_front n [] cs h = refl
none_in_front n (true ∷ bs) cs h = none_in_front (suc n) bs cs h
none_in_front n (false ∷ bs) cs h = absurd (cc)

-- those behind are counted on
none_behind : (n : ℕ) (bs cs : List Bool) → first_false n (bs ++ cs) ≡ None → first_false (n + length bs) cs ≡ None
none_behind n [] cs h = ap (λ k. first_false k cs) (omega arith) ∙ h
none_behind n (true ∷ bs) cs h = ap (λ k. first_false k cs) (omega arith) ∙ none_behind (suc n) bs cs h
none_behind n (false ∷ bs) cs h = absurd (cc)

within_bounds : (k : ℕ) (ds : List SizeDecl) (ns : List ℕ) → length ds ≡ length ns → first_false k (within ds ns) ≡ None → IsWithin ds ns
within_bounds k [] [] e h = tt
within_bounds k [] (n ∷ ns) e h = absurd (omega (arith, e))
within_bounds k (d ∷ ds) [] e h = absurd (omega (arith, e))
within_bounds k (d ∷ ds) (n ∷ ns) e h =
    let p = none_false k (nat_le d.low n && nat_le n d.high) (within ds ns) h in
    let b = and_parts (nat_le d.low n) (nat_le n d.high) p.0 in
    (leb-true d.low n b.0, leb-true n d.high b.1, within_bounds (suc k) ds ns (omega (arith, e)) p.1)

-- an assume that holds as far as it is computed holds
held : (s : List ℕ) (c : Cmp) (o : Option ℤ) → ((x : ℤ) → o ≡ Some x → x ≡ items_value s [] (cmp_form c)) → is_held (option_map (cmp_at c) o) ≡ true
    → cmp_holds s [] c ≡ true
held s c None value h = absurd (cc)
held s c (Some x) value h = ap (cmp_at c) (sym (value x refl)) ∙ h

assumes_hold : (n : ℕ) (s : List ℕ) (cs : List Cmp) → first_false n (map (assume_holds s) cs) ≡ None → all_hold s [] cs ≡ true
assumes_hold n s [] h = refl
assumes_hold n s (c ∷ cs) h =
    let p = none_false n (assume_holds s c) (map (assume_holds s) cs) h in
    and_from (cmp_holds s [] c) (all_hold s [] cs) (held s c (limited_value s [] (cmp_form c)) (value-agrees s [] (cmp_form c)) p.0)
    (assumes_hold (suc n) s cs p.1)

pub sizes_allowed : (m : Module) (s : List ℕ) → length s ≡ length m.sizes → broken m s ≡ None → Allowed m s
sizes_allowed m s e h =
    let bounds = within m.sizes s in
    let assumes = map (assume_holds s) m.assumes in
    record {
      within = within_bounds 1 m.sizes s (sym e) (none_in_front 1 bounds assumes h);
      assumed = assumes_hold (1 + length bounds) s m.assumes (none_behind 1 bounds assumes h);
    }
