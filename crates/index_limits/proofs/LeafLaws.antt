-- The printed indices of leaves and of reads that are stored whole.
use Rattle.std.proofs.Common.{◌≡◌, ℕ, List, [], ◌∷◌, refl, sym, ap, ◌∙◌, subst, true, length, Ok, Err, Some}
use Rattle.std.specs.Prelude.{Result}
use Rattle.affine_index.specs.Limited.{items_scoped}
use Rattle.affine_index.specs.declared.form.Items.{Items}
use Rattle.reindexer.specs.Limited.{limited}
use Rattle.region_plan.specs.Length.{zero_form}
use Rattle.term_tree.specs.declared.term.Term.{Term}
use Rattle.term_tree.specs.Shape.{Extents}
use Rattle.final_rules.specs.Form.{one_deeper}
use Rattle.final_rules.specs.Places.{Place, one_gen}
use Rattle.final_rules.specs.Printed.{form_small, full_read_printed, greatest, is_small, leaf_printed, read_place, scope_of, word_printed}
use Rattle.final_rules.specs.Printing.{Counts, Sized, Stands, and_then, next, read_sized, sized}
use Rattle.final_rules.specs.declared.printing.Scene.{Scene}
use Rattle.final_rules.specs.declared.printing.Stop.{Stop}
use Rattle.final_rules.specs.declared.read.Read.{Read}
use Rattle.final_rules.specs.declared.spot.Spot.{Spot}
use Rattle.index_limits.specs.Places.{place_at, stored_at}
use Rattle.index_limits.specs.declared.stores.Target.{Target}
use Rattle.index_limits.proofs.CountLaws.{and-all, and-same, stop-counts, then-counts}
use Rattle.index_limits.proofs.TextLaws.{bound-small}

module _ (maxima vars : List ℕ) (scene : Scene) (target : Target) (q : Spot) where
  abbrev at : Items → Place
  at free = place_at scene target free q

  -- the bound of the outermost gen around a read, and then the others
  pub full-next : (n : Items) (ns : Extents) (d : Read) (k : ℕ) → items_scoped (length maxima) 0 n ≡ true
      → and_then (next (form_small maxima [] (limited n)) k) (sized maxima (full_read_printed ns (one_deeper d) (place_at scene target zero_form
      (one_gen n q))))
      ≡ sized maxima (full_read_printed (n ∷ ns) d (at zero_form)) k
  full-next n ns d k h = ap (λ b. and_then (next b k) (sized maxima (full_read_printed ns (one_deeper d) (place_at scene target zero_form (one_gen n q)))))
      (bound-small maxima scene target zero_form q n h)

  -- where the bound is not small, and where it is
  pub full-stop : (ms : Extents) (n : Items) (ns : Extents) (d : Read) (k : ℕ) (r : Result ℕ Stop) (e : Stop) → ms ≡ n ∷ ns
      → items_scoped (length maxima) 0 n ≡ true
      → r ≡ Err e → Counts (next (form_small maxima [] (limited n)) k) (Err e) → Counts (sized maxima (full_read_printed ms d (at zero_form)) k) r
  full-stop ms n ns d k r e p h is c =
      subst (λ (us : Extents). Counts (sized maxima (full_read_printed us d (at zero_form)) k) r) (sym p) (subst (λ (s : Sized). Counts s r) (full-next
      n ns d k h)
      (stop-counts (next (form_small maxima [] (limited n)) k) (sized maxima (full_read_printed ns (one_deeper d) (place_at scene target zero_form
      (one_gen n q))))
      r e is c))

  pub full-then : (ms : Extents) (n : Items) (ns : Extents) (d below : Read) (inner : Spot) (k j : ℕ) (r : Result ℕ Stop) → ms ≡ n ∷ ns
      → items_scoped (length maxima) 0 n ≡ true → below ≡ one_deeper d → inner ≡ one_gen n q → next (form_small maxima [] (limited n)) k ≡ Ok j
      → Counts (sized maxima (full_read_printed ns below (place_at scene target zero_form inner)) j) r
      → Counts (sized maxima (full_read_printed ms d (at zero_form)) k) r
  full-then ms n ns d below inner k j r p h f g e c =
      subst (λ (us : Extents). Counts (sized maxima (full_read_printed us d (at zero_form)) k) r) (sym p) (subst (λ (s : Sized). Counts s r) (full-next
      n ns d k h)
      (then-counts (next (form_small maxima [] (limited n)) k) j
      (sized maxima (full_read_printed ns (one_deeper d) (place_at scene target zero_form (one_gen n q)))) r e
      (subst (λ (b : Read). Counts (sized maxima (full_read_printed ns b (place_at scene target zero_form (one_gen n q))) j) r) f
      (subst (λ (s : Spot). Counts (sized maxima (full_read_printed ns below (place_at scene target zero_form s)) j) r) g c))))

  module _ (most : greatest maxima (scope_of q.path) ≡ vars) where
    pub stands : (free : Items) → Stands maxima vars scene (at free)
    stands free = record { sites = refl; most = most }

    -- the place of a leaf, and then its word
    pub leaf-first : (free : Items) (e : Term) (k : ℕ)
        → and_then (next (form_small maxima vars (stored_at target q)) k) (sized maxima (word_printed e (at free))) ≡ sized maxima (leaf_printed e (at free)) k
    leaf-first free e k = ap (λ v. and_then (next (form_small maxima v (stored_at target q)) k) (sized maxima (word_printed e (at free)))) (sym most)

    -- the place of a leaf, and then that of its read
    pub read-first : (d : Read) (k : ℕ)
        → and_then (next (form_small maxima vars (stored_at target q)) k) (read_sized maxima vars scene (Some d))
        ≡ sized maxima (full_read_printed [] d (at zero_form)) k
    read-first d k =
        ap (λ v. and_then (next (form_small maxima v (stored_at target q)) k) (read_sized maxima v scene (Some d))) (sym most)
        ∙ and-same (next (form_small maxima (greatest maxima (scope_of q.path)) (stored_at target q)) k)
        (read_sized maxima (greatest maxima (scope_of q.path)) scene (Some d)) (sized maxima (read_place d (at zero_form) ∷ []))
        (λ j. sym (and-all (next (is_small maxima (read_place d (at zero_form))) j)))
