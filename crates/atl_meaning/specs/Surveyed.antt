-- The extents of a term and its first node that is too big, as one fold.
use Rattle.std.specs.Prelude.{ℕ, Bool, false, List, [], ◌∷◌, get_or, Option, None}
use Rattle.term_tree.specs.declared.term.OutputDecl.{OutputDecl}
use Rattle.term_tree.specs.declared.term.Term.{Term}
use Rattle.term_tree.specs.declared.term.Term.TheOpen.{Term-F}
use Rattle.term_tree.specs.declared.term.Term.TheFolds.{fold-Term}
use Rattle.term_tree.specs.Shape.{Extents}
use Rattle.atl_meaning.specs.declared.found.Found.{Found}
use Rattle.atl_meaning.specs.Forms.{chunked_forms, concatenated_forms, flattened_forms, lengthened_forms, shortened_forms, transposed_forms}
use Rattle.atl_meaning.specs.Lists.{rest_of}
use Rattle.atl_meaning.specs.Words.{any_large_comparison, at_least_one, first_of, is_large, largest_index, too_big, words_at}

-- under the magnitudes of the index variables and the shapes of the tensor variables
abbrev pub Survey : Type 0
Survey = List ℕ → List Extents → Found

module _ (s : List ℕ) where
  -- a node of these extents
  abbrev pub found_at : Extents → Bool → Option ℕ → Found
  found_at ns large later = record { extents = ns; big = too_big (words_at s ns large) later }

  -- one level of a term
  abbrev pub surveyed_step : Term-F Survey → Survey
  surveyed_step (Term-F.Lit w) vars ts = found_at [] false None
  surveyed_step (Term-F.TVar q) vars ts = found_at (get_or ts q []) false None
  surveyed_step (Term-F.WordOf x) vars ts = found_at [] (is_large (at_least_one s) vars x) None
  surveyed_step (Term-F.Index e x) vars ts = found_at (rest_of (e vars ts).extents) (is_large (at_least_one s) vars x) (e vars ts).big
  surveyed_step (Term-F.Gen n e) vars ts =
      let f = e (largest_index s n ∷ vars) ts in found_at (n ∷ f.extents) (is_large (at_least_one s) [] n) f.big
  surveyed_step (Term-F.Sum n e) vars ts =
      let f = e (largest_index s n ∷ vars) ts in found_at f.extents (is_large (at_least_one s) [] n) f.big
  surveyed_step (Term-F.Guard c e) vars ts = found_at (e vars ts).extents (any_large_comparison (at_least_one s) vars c.all) (e vars ts).big
  surveyed_step (Term-F.Let a b) vars ts =
      let f = a vars ts in let g = b vars (f.extents ∷ ts) in found_at g.extents false (first_of f.big g.big)
  surveyed_step (Term-F.Add a b) vars ts = found_at (a vars ts).extents false (first_of (a vars ts).big (b vars ts).big)
  surveyed_step (Term-F.Sub a b) vars ts = found_at (a vars ts).extents false (first_of (a vars ts).big (b vars ts).big)
  surveyed_step (Term-F.Mul a b) vars ts = found_at [] false (first_of (a vars ts).big (b vars ts).big)
  surveyed_step (Term-F.Concat a b) vars ts =
      found_at (concatenated_forms (a vars ts).extents (b vars ts).extents) false (first_of (a vars ts).big (b vars ts).big)
  surveyed_step (Term-F.Flatten e) vars ts = found_at (flattened_forms (e vars ts).extents) false (e vars ts).big
  surveyed_step (Term-F.Split k e) vars ts = found_at (chunked_forms k (e vars ts).extents) false (e vars ts).big
  surveyed_step (Term-F.Transpose e) vars ts = found_at (transposed_forms (e vars ts).extents) false (e vars ts).big
  surveyed_step (Term-F.TruncL n e) vars ts = found_at (shortened_forms n (e vars ts).extents) (is_large (at_least_one s) [] n) (e vars ts).big
  surveyed_step (Term-F.TruncR n e) vars ts = found_at (shortened_forms n (e vars ts).extents) (is_large (at_least_one s) [] n) (e vars ts).big
  surveyed_step (Term-F.PadL n e) vars ts = found_at (lengthened_forms n (e vars ts).extents) (is_large (at_least_one s) [] n) (e vars ts).big
  surveyed_step (Term-F.PadR n e) vars ts = found_at (lengthened_forms n (e vars ts).extents) (is_large (at_least_one s) [] n) (e vars ts).big

  abbrev pub surveyed : Term → Survey
  surveyed = fold-Term Survey surveyed_step

  -- a let whose definition and body are found
  abbrev pub under_found : Found → Found → Found
  under_found f g = found_at g.extents false (first_of f.big g.big)

  -- the first node of the outputs
  abbrev pub outputs_surveyed : List OutputDecl → List Extents → Option ℕ
  outputs_surveyed [] ts = None
  outputs_surveyed (o ∷ os) ts = first_of (surveyed o.term [] ts).big (outputs_surveyed os ts)
