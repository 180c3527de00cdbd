-- From goals that hold where their paths do, and printed forms that are exact, to what a term owes its loops.
use Rattle.std.proofs.Common.{◌≡◌, ℕ, zero, suc, ◌+◌, ◌-◌, ◌<◌, ◌≤◌, List, [], ◌∷◌, ◌++◌, length, map, drop, get_or, refl, ap, sym, ◌∙◌, subst, arith}
use Rattle.std.proofs.Common.{length-append, Bool, true, false, Option, Some, None, if◌then◌else◌, Ok}
use Rattle.std.specs.Prelude.{ℤ, pos, negsuc, ◌+ℤ◌, ◌-ℤ◌, ◌*ℤ◌, ◌≤ℤ◌, slice_index}
use Rattle.std.specs.Int.{int_div_euclid, int_rem_euclid}
use Rattle.std.specs.Int.RustNames.{unsigned_abs}
use Rattle.term_tree.specs.Modules.{extents_at}
use Rattle.term_tree.specs.Shaped.{word_count}
use Rattle.reindexer.specs.Sending.{row_order}
use Rattle.loop_lang.specs.Reckoning.{Value}
use Rattle.std.proofs.lemmas.Int.{ints}
use Rattle.std.proofs.lemmas.List.{get_or_append_left, get_or_at}
use Rattle.affine_index.specs.Condition.{all_hold, at_least_zero, cmp_form}
use Rattle.affine_index.specs.declared.cond.Cmp.{Cmp}
use Rattle.affine_index.specs.declared.cond.Cond.{Cond}
use Rattle.affine_index.specs.declared.form.Items.{Items}
use Rattle.affine_index.specs.declared.form.Atom.TheVariants.{Var}
use Rattle.affine_index.specs.Form.{var_form}
use Rattle.affine_index.specs.Magnitude.{magnitude}
use Rattle.affine_index.specs.Printed.{WithinMaxima}
use Rattle.affine_index.specs.Product.{product_of}
use Rattle.affine_index.specs.Quotient.{quotient_of, remainder_of}
use Rattle.affine_index.specs.Sum.{difference_of, scaled, sum_of}
use Rattle.affine_index.specs.Value.{items_value}
use Rattle.affine_index.proofs.RemainderLaws.{value-remainder}
use Rattle.affine_index.proofs.SumValue.{items_value-is, sum_of-value}
use Rattle.affine_index.proofs.Values.{value-difference, value-product, value-quotient, value-of_atom, value-scaled, value-Var}
use Rattle.term_tree.specs.declared.term.Term.{Term, Lit, TVar, WordOf}
use Rattle.term_tree.specs.Syntax.{index, gen, sum, guard, let_in, add, sub, mul, concat, flatten, split, transpose, trunc_l, trunc_r, pad_l, pad_r}
use Rattle.term_tree.specs.Meaning.{count_of, extent}
use Rattle.term_tree.specs.Shape.{Extents}
use Rattle.fact_list.specs.declared.facts.PathFact.{PathFact}
use Rattle.fact_list.specs.Facts.{binders}
use Rattle.fact_list.specs.Truth.{PathHolds}
use Rattle.fact_list.specs.Normal.{CmpsNormal}
use Rattle.fact_list.specs.Normal.{PathNormal}
use Rattle.fact_list.specs.declared.facts.PathFact.TheVariants.{Bound, Holds}
use Rattle.index_trees.specs.Value.{AreTurns}
use Rattle.final_rules.proofs.PlaceValues.{InRange, Counts, length-value, place-value}
use Rattle.reindexer.specs.Drops.{NoneDropped}
use Rattle.final_rules.specs.declared.read.Read.{Read}
use Rattle.final_rules.specs.Form.{read_under, one_deeper, each_shifted, adds_words}
use Rattle.final_rules.specs.declared.spot.Around.{Around}
use Rattle.final_rules.specs.declared.spot.Around.TheVariants.{Loop, Swapped, Joined, Tiled, Later, Without, Before}
use Rattle.final_rules.specs.Places.{Place, Site, nowhere, site_at, shapes, shape_at, first_of, rest_of, length_form, in_gen, in_sum, in_guard, under_node}
use Rattle.final_rules.specs.Places.{in_definition, in_body, on_right, in_flatten, in_truncr, frame_of, read_form, store_form}
use Rattle.final_rules.specs.Goals.{Claim, one, below, index_claims, read_claim, read_claims, word_claims, drop_claim, kept_by, drops}
use Rattle.final_rules.specs.Goals.{drop_claims, leaf_claims, full_read_claims, full_read_claims_if, claims_at, read_claims_if}
use Rattle.final_rules.proofs.Raw.{plain-raw, read-raw, store-raw, words-raw}
use Rattle.reindexer.specs.Indices.{framed}
use Rattle.reindexer.proofs.IndexLaws.{limited_is}
use Rattle.final_rules.specs.Printed.{Printed, largest_index, read_place_if, length_printed, scope_onto, scope_of, plain, comparisons, read_place, store_place}
use Rattle.final_rules.specs.Printed.{word_printed, leaf_printed, full_read_printed, full_read_printed_if, printed_of, at_least_one, greatest}
use Rattle.final_rules.specs.Owed.{either, Exactly, EachExactly, Numbered, ReadFits, ReadFitsIf, WordFits, StoreFits, LeafFits, FullReadFits, FullReadFitsIf}
use Rattle.final_rules.specs.Owed.{Fits}

-- a fact of each entry of a list
abbrev pub Every : {A : Type 0} → (A → Type 0) → List A → Type 0
Every P [] = Unit {0}
Every P (x ∷ xs) = P x × Every P xs

pub every_parts : {A : Type 0} (P : A → Type 0) (xs ys : List A) → Every P (xs ++ ys) → Every P xs × Every P ys
every_parts P [] ys h = (tt, h)
every_parts P (x ∷ xs) ys h = let rest = every_parts P xs ys h.1 in ((h.0, rest.0), rest.1)

pub site-shape : (xs : List Site) (q : ℕ) → (get_or xs q nowhere).extents ≡ get_or (map (λ x. x.extents) xs) q []
site-shape [] q = refl
site-shape (x ∷ xs) zero = refl
site-shape (x ∷ xs) (suc q) = site-shape xs q

-- the path grows

pub binders-bound : (ps : List PathFact) (n : Items) → binders (ps ++ Bound n ∷ []) ≡ suc (binders ps)
binders-bound [] n = refl
binders-bound (Bound m ∷ ps) n = ap suc (binders-bound ps n)
binders-bound (Holds c ∷ ps) n = binders-bound ps n

pub binders-holds : (ps : List PathFact) (c : Cond) → binders (ps ++ Holds c ∷ []) ≡ binders ps
binders-holds [] c = refl
binders-holds (Bound m ∷ ps) c = ap suc (binders-holds ps c)
binders-holds (Holds d ∷ ps) c = binders-holds ps c

kept-bound : (ps : List PathFact) (n : Items) → PathNormal ps → PathNormal (ps ++ Bound n ∷ [])
kept-bound [] n h = tt
kept-bound (Bound m ∷ ps) n h = kept-bound ps n h
kept-bound (Holds c ∷ ps) n h = (h.0, kept-bound ps n h.1)

kept-holds : (ps : List PathFact) (c : Cond) → CmpsNormal c.all → PathNormal ps → PathNormal (ps ++ Holds c ∷ [])
kept-holds [] c k h = (k, tt)
kept-holds (Bound m ∷ ps) c k h = kept-holds ps c k h
kept-holds (Holds d ∷ ps) c k h = (h.0, kept-holds ps c k h.1)

scope-bound : (ps : List PathFact) (n : Items) (acc : Extents) → scope_onto acc (ps ++ Bound n ∷ []) ≡ n ∷ scope_onto acc ps
scope-bound [] n acc = refl
scope-bound (Bound m ∷ ps) n acc = scope-bound ps n (m ∷ acc)
scope-bound (Holds c ∷ ps) n acc = scope-bound ps n acc

pub scope-holds : (ps : List PathFact) (c : Cond) (acc : Extents) → scope_onto acc (ps ++ Holds c ∷ []) ≡ scope_onto acc ps
scope-holds [] c acc = refl
scope-holds (Bound m ∷ ps) c acc = scope-holds ps c (m ∷ acc)
scope-holds (Holds d ∷ ps) c acc = scope-holds ps c acc

pub scope-length : (ps : List PathFact) (acc : Extents) → length (scope_onto acc ps) ≡ binders ps + length acc
scope-length [] acc = omega arith
scope-length (Bound m ∷ ps) acc = omega (arith, scope-length ps (m ∷ acc))
scope-length (Holds d ∷ ps) acc = scope-length ps acc

module _ (s maxima : List ℕ) where
  -- a form over sizes alone
  abbrev pub Closed : Items → Type 0
  Closed n = (y : List ℕ) → items_value s y n ≡ items_value s [] n

  -- the extent of a loop: over sizes alone, and at most its greatest value
  abbrev pub Counted : Items → Type 0
  Counted n = Closed n × (items_value s [] n ≡ pos (extent n s))

  abbrev pub SizeForm : Items → Type 0
  SizeForm n = Counted n × (extent n s ≤ at_least_one (magnitude maxima [] n)) × (1 ≤ at_least_one (magnitude maxima [] n))

  abbrev pub NotNegative : Items → Type 0
  NotNegative a = (y : List ℕ) → pos 0 ≤ℤ items_value s y a

  abbrev pub PathClosed : List PathFact → Type 0
  PathClosed [] = Unit {0}
  PathClosed (Bound n ∷ ps) = Closed n × PathClosed ps
  PathClosed (Holds c ∷ ps) = PathClosed ps

  closed-bound : (ps : List PathFact) (n : Items) → Closed n → PathClosed ps → PathClosed (ps ++ Bound n ∷ [])
  closed-bound [] n k h = (k, tt)
  closed-bound (Bound m ∷ ps) n k h = (h.0, closed-bound ps n k h.1)
  closed-bound (Holds c ∷ ps) n k h = closed-bound ps n k h

  closed-holds : (ps : List PathFact) (c : Cond) → PathClosed ps → PathClosed (ps ++ Holds c ∷ [])
  closed-holds [] c h = tt
  closed-holds (Bound m ∷ ps) c h = (h.0, closed-holds ps c h.1)
  closed-holds (Holds d ∷ ps) c h = closed-holds ps c h

  -- a turn of a loop is reached where the loop is
  pub path-turn : (ps : List PathFact) (n : Items) (i : ℕ) (y : List ℕ) → PathClosed ps → PathHolds s y ps → pos (suc i) ≤ℤ items_value s (i ∷ y) n
      → PathHolds s (i ∷ y) (ps ++ Bound n ∷ [])
  path-turn [] n i y k h l = (l, tt)
  path-turn (Bound m ∷ ps) n i y k h l =
      let v : slice_index (i ∷ y) (binders (ps ++ Bound n ∷ [])) ≡ slice_index y (binders ps) = ap (slice_index (i ∷ y)) (binders-bound ps n) in (
        subst (λ z. pos (suc z) ≤ℤ items_value s (i ∷ y) m) (sym v) (subst (λ z. pos (suc (slice_index y (binders ps))) ≤ℤ z) (k.0 y ∙ sym (k.0 (i ∷ y))) h.0),
        path-turn ps n i y k.1 h.1 l,
      )
  path-turn (Holds c ∷ ps) n i y k h l =
      (ap (λ d. all_hold s (drop d (i ∷ y)) c.all) (binders-bound ps n) ∙ h.0, path-turn ps n i y k h.1 l)

  pub path-guard : (ps : List PathFact) (c : Cond) (y : List ℕ) → PathHolds s y ps → all_hold s y c.all ≡ true → PathHolds s y (ps ++ Holds c ∷ [])
  path-guard [] c y h l = (l, tt)
  path-guard (Bound m ∷ ps) c y h l = (subst (λ d. pos (suc (slice_index y d)) ≤ℤ items_value s y m) (sym (binders-holds ps c)) h.0, path-guard ps c y h.1 l)
  path-guard (Holds d ∷ ps) c y h l = (ap (λ k. all_hold s (drop k y) d.all) (binders-holds ps c) ∙ h.0, path-guard ps c y h.1 l)

  -- a claim is a form within the limits that holds wherever its path does
  abbrev pub ClaimHolds : Claim → Type 0
  ClaimHolds c = (x : Items) × (c.form ≡ Ok x) × ((y : List ℕ) → PathNormal c.path → PathHolds s y c.path → pos 0 ≤ℤ items_value s y x)

  -- a printed form is within the limits, and exact wherever the variables in scope are within their greatest values
  abbrev pub PrintedHolds : Printed → Type 0
  PrintedHolds i =
      (x : Items) × (i.form ≡ Ok x) × ((r y : List ℕ) → AreTurns r y → WithinMaxima y (greatest maxima i.scope) → length i.scope ≡ length r → Exactly s x r y)

  -- what a claim says of the form that it is taken to
  claim_holds : (c : Claim) (raw : Items) → ((x : Items) → c.form ≡ Ok x → raw ≡ x) → ClaimHolds c → (y : List ℕ) → PathNormal c.path → PathHolds s y c.path
      → pos 0 ≤ℤ items_value s y raw
  claim_holds c raw same f y k h = subst (λ z. pos 0 ≤ℤ items_value s y z) (sym (same f.0 f.1)) (f.2 y k h)

  -- a place is reached
  pub record Here (p : Place) (r y : List ℕ) : Type 0 where
    pub holds : PathHolds s y p.spot.path
    pub kept : PathNormal p.spot.path
    pub closed : PathClosed p.spot.path
    pub turns : AreTurns r y
    pub depth : length r ≡ binders p.spot.path
    pub within : WithinMaxima y (greatest maxima (scope_of p.spot.path))

  -- frames find the indices that they need, of which there are so many, and amounts that move up are not negative
  abbrev pub Ready : List Around → ℕ → Type 0
  Ready [] k = Unit {0}
  Ready (Loop d ∷ fs) k = Ready fs (suc k)
  Ready (Swapped ∷ fs) (suc (suc k)) = Ready fs (suc (suc k))
  Ready (Joined m ∷ fs) (suc (suc k)) = NotNegative m × Ready fs (suc k)
  Ready (Tiled q ∷ fs) (suc k) = (0 < q) × Ready fs (suc (suc k))
  Ready (Later a ∷ fs) (suc k) = NotNegative a × Ready fs (suc k)
  Ready (Without a ∷ fs) (suc k) = Ready fs (suc k)
  Ready (Before m ∷ fs) (suc k) = Ready fs (suc k)
  Ready (f ∷ fs) k = ⊥

  above : (z : ℤ) → pos 0 ≤ℤ z → at_least_zero z ≡ true
  above (pos n) h = refl
  above (negsuc n) h = absurd (omega (arith, ints, h))

  count-below : (i : ℕ) (z : ℤ) → i < count_of z → pos (suc i) ≤ℤ z
  count-below i (pos n) h = omega (arith, ints, h)
  count-below i (negsuc n) h = absurd (omega (arith, h))

  -- the turns of one more loop
  turn-here : (p : Place) (q : Place) (n : Items) (r y : List ℕ) (i : ℕ) → q.spot.path ≡ p.spot.path ++ Bound n ∷ [] → SizeForm n → i < extent n s → Here p r y
      → Here q (r ++ i ∷ []) (i ∷ y)
  turn-here p q n r y i e f l h = record {
    holds = subst (PathHolds s (i ∷ y)) (sym e) (path-turn p.spot.path n i y h.closed h.holds (subst (λ z. pos (suc i) ≤ℤ z) (sym (f.0.0 (i ∷ y)))
        (count-below i (items_value s [] n) l)));
    kept = subst PathNormal (sym e) (kept-bound p.spot.path n h.kept);
    closed = subst PathClosed (sym e) (closed-bound p.spot.path n f.0.0 h.closed);
    turns = turned;
    depth = length-append r (i ∷ []) ∙ (omega (arith, h.depth, binders-bound p.spot.path n)) ∙ ap binders (sym e);
    within = subst (λ ns. WithinMaxima (i ∷ y) (greatest maxima ns)) (sym (scope-bound p.spot.path n []) ∙ ap scope_of (sym e)) more;
  }
    where
      turned : AreTurns (r ++ i ∷ []) (i ∷ y)
      turned zero g = sym (get_or_at r i [] 0 (length (r ++ i ∷ []) - 1 - 0) (omega (arith, length-append r (i ∷ []))))
      turned (suc v) g =
          let l : v < length r = omega (arith, g, length-append r (i ∷ [])) in
          let d : length (r ++ i ∷ []) - 1 - suc v ≡ length r - 1 - v = omega (arith, length-append r (i ∷ [])) in
          h.turns v l ∙ sym (get_or_append_left r (i ∷ []) 0 (length r - 1 - v) (omega (arith, l))) ∙ ap (λ k. get_or (r ++ i ∷ []) k 0) (sym d)

      more : WithinMaxima (i ∷ y) (greatest maxima (n ∷ scope_of p.spot.path))
      more zero g = (omega (arith, l, f.1), f.2)
      more (suc k) g = h.within k (omega (arith, g))

  guard-here : (p : Place) (c : Cond) (r y : List ℕ) → CmpsNormal c.all → all_hold s y c.all ≡ true → Here p r y → Here (in_guard c p) r y
  guard-here p c r y k l h = record {
    holds = path-guard p.spot.path c y h.holds l;
    kept = kept-holds p.spot.path c k h.kept;
    closed = closed-holds p.spot.path c h.closed;
    turns = h.turns;
    depth = h.depth ∙ sym (binders-holds p.spot.path c);
    within = subst (λ ns. WithinMaxima y (greatest maxima ns)) (sym (scope-holds p.spot.path c [])) h.within;
  }

  -- elsewhere on the same path
  same-here : (p q : Place) (r y : List ℕ) → q.spot.path ≡ p.spot.path → Here p r y → Here q r y
  same-here p q r y e h = record {
    holds = subst (PathHolds s y) (sym e) h.holds;
    kept = subst PathNormal (sym e) h.kept;
    closed = subst PathClosed (sym e) h.closed;
    turns = h.turns;
    depth = h.depth ∙ ap binders (sym e);
    within = subst (λ ps. WithinMaxima y (greatest maxima (scope_of ps))) (sym e) h.within;
  }

  -- a printed form is exact here
  exact-here : (p : Place) (r y : List ℕ) (i : Printed) (raw : Items) → i.scope ≡ scope_of p.spot.path → ((x : Items) → i.form ≡ Ok x → raw ≡ x)
      → PrintedHolds i → Here p r y → Exactly s raw r y
  exact-here p r y i raw e same f h =
      subst (λ z. Exactly s z r y) (sym (same f.0 f.1))
      (f.2 r y h.turns (subst (λ ns. WithinMaxima y (greatest maxima ns)) (sym e) h.within) (ap length e ∙ scope-length p.spot.path []
      ∙ (omega (arith, h.depth))))

  -- so is a number
  pub numbered : (raw : Items) (k : ℕ) (r y : List ℕ) → Exactly s raw r y → items_value s y raw ≡ pos k → Numbered s raw k r y
  numbered raw k r y e v = (e.0 ∙ ap Value v, subst (λ z. unsigned_abs z ≤ largest_index) v e.1)

  -- a number over sizes is exact here
  number-here : (p : Place) (r y : List ℕ) (n : Items) → Counted n → PrintedHolds (plain n p) → Here p r y → Numbered s n (extent n s) r y
  number-here p r y n c f h = numbered n (extent n s) r y (exact-here p r y (plain n p) n refl (plain-raw n) f h) (c.0 y ∙ c.1)

  exact-comparisons : (cs : List Cmp) (p : Place) (r y : List ℕ) → Every PrintedHolds (comparisons cs p) → Here p r y → EachExactly s cs r y
  exact-comparisons [] p r y f h = tt
  exact-comparisons (c ∷ cs) p r y f h = (
    exact-here p r y (plain (cmp_form c) p) (cmp_form c) refl (plain-raw (cmp_form c)) f.0 h,
    exact-comparisons cs p r y f.1 h,
  )

  -- indices in range

  difference-is : (y : List ℕ) (a b : Items) → items_value s y (difference_of a b) ≡ items_value s y a -ℤ items_value s y b
  difference-is y a b = omega (arith, ints, value-difference s y a b)

  below-is : (y : List ℕ) (n x : Items) → items_value s y (below n x) ≡ (items_value s y n -ℤ pos 1) -ℤ items_value s y x
  below-is y n x = difference-is y (difference_of n one) x ∙ ap (λ z. z -ℤ items_value s y x) (difference-is y n one
      ∙ ap (λ z. items_value s y n -ℤ z) (items_value-is s y one))

  in-count : (x n : ℤ) → pos 0 ≤ℤ x → pos 0 ≤ℤ ((n -ℤ pos 1) -ℤ x) → (i : ℕ) × (x ≡ pos i) × (i < count_of n)
  in-count (pos i) (pos n) h g = (i, refl, omega (arith, ints, g))
  in-count (pos i) (negsuc n) h g = absurd (omega (arith, ints, g))
  in-count (negsuc i) n h g = absurd (omega (arith, ints, h))

  in_range : (path : List PathFact) (xs : List Items) (ns : Extents) (y : List ℕ) → length xs ≡ length ns → Every Closed ns
      → Every ClaimHolds (index_claims path xs ns) → PathNormal path → PathHolds s y path → InRange s xs ns y
  in_range path [] [] y e c f k h = tt
  in_range path [] (n ∷ ns) y e c f k h = absurd (omega (arith, e))
  in_range path (x ∷ xs) [] y e c f k h = absurd (omega (arith, e))
  in_range path (x ∷ xs) (n ∷ ns) y e c f k h =
      let low = claim_holds (read_claim path x) x (plain-raw x) f.0 y k h in
      let high : pos 0 ≤ℤ ((items_value s [] n -ℤ pos 1) -ℤ items_value s y x) = subst (λ z. pos 0 ≤ℤ z) (below-is y n x
      ∙ ap (λ z. (z -ℤ pos 1) -ℤ items_value s y x) (c.0 y)) (claim_holds (read_claim path (below n x)) (below n x) (plain-raw (below n x)) f.1.0 y k h) in
      (in-count (items_value s y x) (items_value s [] n) low high, in_range path xs ns y (omega (arith, e)) c.1 f.1.1 k h)

  -- words

  -- a read with so many indices more has as many as its tensor has extents, which are over sizes alone
  abbrev pub ReadApt : Read → ℕ → Place → Type 0
  ReadApt d k p = (length d.indices + k ≡ length (site_at p d.var).extents) × Every Counted (site_at p d.var).extents × Counted (site_at p d.var).offset

  abbrev pub ReadAptIf : Option Read → ℕ → Place → Type 0
  ReadAptIf None k p = ⊥
  ReadAptIf (Some d) k p = ReadApt d k p

  -- a word in the final form, whose conditions are of normal forms
  abbrev pub WordApt : Term → Place → Type 0
  WordApt (Lit w) p = Unit {0}
  WordApt (WordOf x) p = Unit {0}
  WordApt (TVar q) p = ReadAptIf (read_under (TVar q) []) 0 p
  WordApt (index e x) p = ReadAptIf (read_under (index e x) []) 0 p
  WordApt (guard c e) p = CmpsNormal c.all × WordApt e (in_guard c p)
  WordApt (add a b) p = WordApt a p × WordApt b p
  WordApt (sub a b) p = WordApt a p × WordApt b p
  WordApt (mul a b) p = WordApt a p × WordApt b p
  WordApt _ p = ⊥

  all-closed : (ns : Extents) → Every Counted ns → Every Closed ns
  all-closed [] h = tt
  all-closed (n ∷ ns) h = (h.0.0, all-closed ns h.1)

  pub all-counts : (y : List ℕ) (ns : Extents) → Every Counted ns → Counts s ns y
  all-counts y [] h = tt
  all-counts y (n ∷ ns) h = (h.0.0 y ∙ h.0.1, all-counts y ns h.1)

  read_fits : (d : Read) (p : Place) (r y : List ℕ) → ReadApt d 0 p → Every ClaimHolds (read_claims d p.spot.path (shapes p)) → PrintedHolds (read_place d p)
      → Here p r y → ReadFits s d p r y
  read_fits d p r y a g f h =
      let b = site_at p d.var in
      let e : length d.indices ≡ length b.extents = omega (arith, a.0) in
      let range = in_range p.spot.path d.indices b.extents y e (all-closed b.extents a.1)
      (subst (λ ns. Every ClaimHolds (index_claims p.spot.path d.indices ns)) (sym (site-shape p.sites d.var)) g) h.kept h.holds in
      let v = place-value s y b d.indices (extent b.offset s) (all-counts y b.extents a.1) (a.2.0 y ∙ a.2.1) range in (
        v.0,
        v.1,
        v.2,
        numbered (read_form d p) (extent b.offset s + row_order (extents_at b.extents s) v.0) r y (exact-here p r y (read_place d p)
            (read_form d p) refl (read-raw d p) f h) v.3,
      )

  read_fits_if : (o : Option Read) (p : Place) (r y : List ℕ) → ReadAptIf o 0 p → Every ClaimHolds (read_claims_if o p.spot.path (shapes p))
      → Every PrintedHolds (read_place_if o p) → Here p r y → ReadFitsIf s o p r y
  read_fits_if None p r y a g f h = a
  read_fits_if (Some d) p r y a g f h = read_fits d p r y a g f.0 h

  pub word_fits : (e : Term) (p : Place) (r y : List ℕ) → WordApt e p → Every ClaimHolds (word_claims e p.spot.path (shapes p))
      → Every PrintedHolds (word_printed e p) → Here p r y → WordFits s e p r y
  word_fits (Lit w) p r y a g f h = tt
  word_fits (WordOf x) p r y a g f h = exact-here p r y (plain x p) x refl (plain-raw x) f.0 h
  word_fits (TVar q) p r y a g f h = read_fits_if (read_under (TVar q) []) p r y a g f h
  word_fits (index e x) p r y a g f h = read_fits_if (read_under (index e x) []) p r y a g f h
  word_fits (guard c e) p r y a g f h =
      let fs = every_parts PrintedHolds (comparisons c.all p) (word_printed e (in_guard c p)) f in
      (exact-comparisons c.all p r y fs.0 h, λ l. word_fits e (in_guard c p) r y a.1 g fs.1 (guard-here p c r y a.0 l h))
  word_fits (add a b) p r y k g f h =
      let gs = every_parts ClaimHolds (word_claims a p.spot.path (shapes p)) (word_claims b p.spot.path (shapes p)) g in
      let fs = every_parts PrintedHolds (word_printed a p) (word_printed b p) f in
      (word_fits a p r y k.0 gs.0 fs.0 h, word_fits b p r y k.1 gs.1 fs.1 h)
  word_fits (sub a b) p r y k g f h =
      let gs = every_parts ClaimHolds (word_claims a p.spot.path (shapes p)) (word_claims b p.spot.path (shapes p)) g in
      let fs = every_parts PrintedHolds (word_printed a p) (word_printed b p) f in
      (word_fits a p r y k.0 gs.0 fs.0 h, word_fits b p r y k.1 gs.1 fs.1 h)
  word_fits (mul a b) p r y k g f h =
      let gs = every_parts ClaimHolds (word_claims a p.spot.path (shapes p)) (word_claims b p.spot.path (shapes p)) g in
      let fs = every_parts PrintedHolds (word_printed a p) (word_printed b p) f in
      (word_fits a p r y k.0 gs.0 fs.0 h, word_fits b p r y k.1 gs.1 fs.1 h)
  word_fits (gen n e) p r y k g f h = absurd k
  word_fits (sum n e) p r y k g f h = absurd k
  word_fits (let_in a b) p r y k g f h = absurd k
  word_fits (concat a b) p r y k g f h = absurd k
  word_fits (flatten e) p r y k g f h = absurd k
  word_fits (split q e) p r y k g f h = absurd k
  word_fits (transpose e) p r y k g f h = absurd k
  word_fits (trunc_l a e) p r y k g f h = absurd k
  word_fits (trunc_r a e) p r y k g f h = absurd k
  word_fits (pad_l a e) p r y k g f h = absurd k
  word_fits (pad_r a e) p r y k g f h = absurd k

  -- frames that drop nothing

  abbrev NonNeg : List ℕ → Items → Type 0
  NonNeg y x = pos 0 ≤ℤ items_value s y x

  var-nonneg : (y : List ℕ) (v : ℕ) → NonNeg y (var_form v)
  var-nonneg y v = let a = value-of_atom s y (Var v) in let b = value-Var s y v in omega (arith, ints)

  sum-nonneg : (y : List ℕ) (a b : Items) → NonNeg y a → NonNeg y b → NonNeg y (sum_of a b)
  sum-nonneg y a b h g = omega (arith, ints, sum_of-value s y a b, h, g)

  times-nonneg : (a b : ℤ) → pos 0 ≤ℤ a → pos 0 ≤ℤ b → pos 0 ≤ℤ (a *ℤ b)
  times-nonneg (pos a) (pos b) h g = omega (arith, ints)
  times-nonneg (pos a) (negsuc b) h g = absurd (omega (arith, ints, g))
  times-nonneg (negsuc a) b h g = absurd (omega (arith, ints, h))

  product-nonneg : (y : List ℕ) (a b : Items) → NonNeg y a → NonNeg y b → NonNeg y (product_of a b)
  product-nonneg y a b h g = subst (λ z. pos 0 ≤ℤ z) (sym (value-product s y a b)) (times-nonneg (items_value s y a) (items_value s y b) h g)

  div-nonneg : (z : ℤ) (k : ℕ) → pos 0 ≤ℤ z → pos 0 ≤ℤ int_div_euclid z (pos k)
  div-nonneg (pos n) k h = omega (arith, ints)
  div-nonneg (negsuc n) k h = absurd (omega (arith, ints, h))

  rem-nonneg : (z : ℤ) (k : ℕ) → pos 0 ≤ℤ z → pos 0 ≤ℤ int_rem_euclid z (pos k)
  rem-nonneg (pos n) k h = omega (arith, ints)
  rem-nonneg (negsuc n) k h = absurd (omega (arith, ints, h))

  quotient-nonneg : (y : List ℕ) (x : Items) (k : ℕ) → 0 < k → NonNeg y x → NonNeg y (quotient_of x k)
  quotient-nonneg y x k l h = subst (λ z. pos 0 ≤ℤ z) (sym (value-quotient s y x k l)) (div-nonneg (items_value s y x) k h)

  remainder-nonneg : (y : List ℕ) (x : Items) (k : ℕ) → 0 < k → NonNeg y x → NonNeg y (remainder_of x k)
  remainder-nonneg y x k l h = subst (λ z. pos 0 ≤ℤ z) (sym (value-remainder s y x k l)) (rem-nonneg (items_value s y x) k h)

  less-is : (y : List ℕ) (x a : Items) → items_value s y (sum_of x (scaled (negsuc 0) a)) ≡ items_value s y (difference_of x a)
  less-is y x a = sum_of-value s y x (scaled (negsuc 0) a) ∙ ap (λ z. items_value s y x +ℤ z) (value-scaled s y (negsuc 0) a)
      ∙ minus (items_value s y x) (items_value s y a) ∙ sym (difference-is y x a)
    where
      minus : (a b : ℤ) → a +ℤ (negsuc 0 *ℤ b) ≡ a -ℤ b
      minus a b = omega (arith, ints)

  -- what a truncation claims of the first of these indices
  drop-holds : (path : List PathFact) (y : List ℕ) (x : Items) (xs : List Items) (f : Items → Items) → ClaimHolds (drop_claim path (x ∷ xs) f) → PathNormal path
      → PathHolds s y path → NonNeg y (f x)
  drop-holds path y x xs f g k h = claim_holds (drop_claim path (x ∷ xs) f) (f x) (limited_is (f x)) g y k h

  pub none_dropped : (path : List PathFact) (y : List ℕ) → PathNormal path → PathHolds s y path → (fs : List Around) (xs : List Items) → Ready fs (length xs)
      → Every (NonNeg y) xs → Every ClaimHolds (drops path fs xs) → NoneDropped s y (map (frame_of (binders path)) fs) xs
  none_dropped path y k h [] xs w n g = tt
  none_dropped path y k h (f ∷ fs) xs w n g =
      let gs = every_parts ClaimHolds (drops path fs (framed (frame_of (binders path) f) xs)) (kept_by f path xs) g in
      by f xs w n (none_dropped path y k h fs) gs.0 gs.1
    where
      by : (f : Around) (xs : List Items) → Ready (f ∷ fs) (length xs) → Every (NonNeg y) xs
          → ((zs : List Items) → Ready fs (length zs) → Every (NonNeg y) zs → Every ClaimHolds (drops path fs zs)
          → NoneDropped s y (map (frame_of (binders path)) fs) zs)
          → Every ClaimHolds (drops path fs (framed (frame_of (binders path) f) xs)) → Every ClaimHolds (kept_by f path xs)
          → NoneDropped s y (map (frame_of (binders path)) (f ∷ fs)) xs
      by (Loop d) xs w n rest g c =
          let v = var_form (binders path - 1 - d) in
          let u = var-nonneg y (binders path - 1 - d) in
          (above (items_value s y v) u, rest (v ∷ xs) w (u, n) g)
      by Swapped [] w n rest g c = absurd w
      by Swapped (x ∷ []) w n rest g c = absurd w
      by Swapped (x ∷ z ∷ xs) w n rest g c = rest (z ∷ x ∷ xs) w (n.1.0, (n.0, n.1.1)) g
      by (Joined m) [] w n rest g c = absurd w
      by (Joined m) (x ∷ []) w n rest g c = absurd w
      by (Joined m) (x ∷ z ∷ xs) w n rest g c =
          rest (sum_of (product_of x m) z ∷ xs) w.1 (sum-nonneg y (product_of x m) z (product-nonneg y x m n.0 (w.0 y)) n.1.0, n.1.1) g
      by (Tiled q) [] w n rest g c = absurd w
      by (Tiled q) (x ∷ xs) w n rest g c =
          rest (quotient_of x q ∷ remainder_of x q ∷ xs) w.1 (quotient-nonneg y x q w.0 n.0, (remainder-nonneg y x q w.0 n.0, n.1)) g
      by (Later a) [] w n rest g c = absurd w
      by (Later a) (x ∷ xs) w n rest g c =
          let v = sum-nonneg y x a n.0 (w.0 y) in
          (above (items_value s y (sum_of x a)) v, rest (sum_of x a ∷ xs) w.1 (v, n.1) g)
      by (Without a) [] w n rest g c = absurd w
      by (Without a) (x ∷ xs) w n rest g c =
          let z = sum_of x (scaled (negsuc 0) a) in
          let v : NonNeg y z = drop-holds path y x xs (λ u. difference_of u a) c.0 k h in
          (above (items_value s y z) v, rest (z ∷ xs) w (v, n.1) g)
      by (Before m) [] w n rest g c = absurd w
      by (Before m) (x ∷ xs) w n rest g c = (above (items_value s y (below m x)) (drop-holds path y x xs (below m) c.0 k h), rest (x ∷ xs) w n g)

  store_fits : (p : Place) (r y : List ℕ) → Ready p.spot.around 0 → Every ClaimHolds (drop_claims p.spot) → PrintedHolds (store_place p) → Here p r y
      → StoreFits s p r y
  store_fits p r y w g f h = (
    none_dropped p.spot.path y h.kept h.holds p.spot.around [] w tt g,
    exact-here p r y (store_place p) (store_form p) refl (store-raw p) f h,
  )

  leaf_fits : (e : Term) (p : Place) (r y : List ℕ) → WordApt e p → Ready p.spot.around 0 → Every ClaimHolds (leaf_claims e p.spot (shapes p))
      → Every PrintedHolds (leaf_printed e p) → Here p r y → LeafFits s e p r y
  leaf_fits e p r y a w g f h =
      let gs = every_parts ClaimHolds (drop_claims p.spot) (word_claims e p.spot.path (shapes p)) g in
      (store_fits p r y w gs.0 f.0 h, word_fits e p r y a gs.1 f.1 h)

  shifted-length : (xs : List Items) → length (each_shifted xs ++ var_form 0 ∷ []) ≡ suc (length xs)
  shifted-length [] = refl
  shifted-length (x ∷ xs) = ap suc (shifted-length xs)

  full_read_fits : (ns : Extents) (d : Read) (p : Place) (r y : List ℕ) → Every SizeForm ns → ReadApt d (length ns) p → Ready p.spot.around (length ns)
      → Every ClaimHolds (full_read_claims ns d p.spot (shapes p)) → Every PrintedHolds (full_read_printed ns d p) → Here p r y → FullReadFits s ns d p r y
  full_read_fits [] d p r y b a w g f h =
      let gs = every_parts ClaimHolds (drop_claims p.spot) (read_claims d p.spot.path (shapes p)) g in
      (store_fits p r y w gs.0 f.0 h, read_fits d p r y a gs.1 f.1.0 h)
  full_read_fits (n ∷ ns) d p r y b a w g f h = (
    number-here p r y n b.0.0 f.0 h,
    λ i l.
        full_read_fits ns (one_deeper d) (in_gen n p) (r ++ i ∷ []) (i ∷ y) b.1 (
          omega (arith, a.0, shifted-length d.indices),
          a.1,
          a.2,
        ) w g f.1 (turn-here p (in_gen n p) n r y i refl b.0 l h),
  )

  full_read_fits_if : (ns : Extents) (o : Option Read) (p : Place) (r y : List ℕ) → Every SizeForm ns → ReadAptIf o (length ns) p
      → Ready p.spot.around (length ns) → Every ClaimHolds (full_read_claims_if ns o p.spot (shapes p)) → Every PrintedHolds (full_read_printed_if ns o p)
      → Here p r y → FullReadFitsIf s ns o p r y
  full_read_fits_if ns None p r y b a w g f h = a
  full_read_fits_if ns (Some d) p r y b a w g f h = full_read_fits ns d p r y b a w g f h

  -- a term in the final form of so many extents, whose amounts and extents are as a sound module has them
  abbrev pub Apt : Term → Place → ℕ → Type 0
  Apt (Lit w) p k = k ≡ 0
  Apt (WordOf x) p k = k ≡ 0
  Apt (TVar q) p k = Every SizeForm (shape_at (TVar q) p) × ReadAptIf (read_under (TVar q) []) (length (shape_at (TVar q) p)) p
      × (k ≡ length (shape_at (TVar q) p))
  Apt (index e x) p k = Every SizeForm (shape_at (index e x) p) × ReadAptIf (read_under (index e x) []) (length (shape_at (index e x) p)) p
      × (k ≡ length (shape_at (index e x) p))
  Apt (gen n e) p k = SizeForm n × ((j : ℕ) × (k ≡ suc j) × Apt e (in_gen n p) j)
  Apt (sum n e) p k = SizeForm n × Apt e (in_sum n p) k
  Apt (guard c e) p k = CmpsNormal c.all × Apt e (in_guard c p) k
  Apt (let_in a b) p k = ((j : ℕ) × Apt a (in_definition a p) j) × Apt b (in_body a p) k × Counted p.free × Every Counted (shape_at a p)
  Apt (add a b) p k = either (adds_words a b (shapes p)) ((k ≡ 0) × WordApt (add a b) p) (Apt a p k × Apt b p k)
  Apt (sub a b) p k = (k ≡ 0) × WordApt (sub a b) p
  Apt (mul a b) p k = (k ≡ 0) × WordApt (mul a b) p
  Apt (concat a b) p k = NotNegative (first_of (shape_at a p)) × ((j : ℕ) × (k ≡ suc j)) × Apt a p k × Apt b (on_right a p) k
  Apt (flatten e) p k = NotNegative (first_of (rest_of (shape_at e p))) × ((j : ℕ) × (k ≡ suc j) × Apt e (in_flatten e p) (suc (suc j)))
  Apt (split q e) p k = (0 < q) × ((j : ℕ) × (k ≡ suc (suc j)) × Apt e (under_node (Tiled q) p) (suc j))
  Apt (transpose e) p k = (j : ℕ) × (k ≡ suc (suc j)) × Apt e (under_node Swapped p) k
  Apt (trunc_l a e) p k = (j : ℕ) × (k ≡ suc j) × Apt e (under_node (Without a) p) k
  Apt (trunc_r a e) p k = (j : ℕ) × (k ≡ suc j) × Apt e (in_truncr a e p) k
  Apt (pad_l a e) p k = NotNegative a × ((j : ℕ) × (k ≡ suc j) × Apt e (under_node (Later a) p) k)
  Apt (pad_r a e) p k = Apt e p k

  add_fits : (a b : Term) (p : Place) (k : ℕ) (r y : List ℕ) → (Apt a p k → Every ClaimHolds (claims_at a p) → Every PrintedHolds (printed_of a p)
      → Fits s a p r y) → (Apt b p k → Every ClaimHolds (claims_at b p) → Every PrintedHolds (printed_of b p) → Fits s b p r y) → (c : Bool)
      → either c ((k ≡ 0) × WordApt (add a b) p) (Apt a p k × Apt b p k) → Ready p.spot.around k
      → Every ClaimHolds (if c then leaf_claims (add a b) p.spot (shapes p) else (claims_at a p ++ claims_at b p))
      → Every PrintedHolds (if c then leaf_printed (add a b) p else (printed_of a p ++ printed_of b p)) → Here p r y
      → either c (LeafFits s (add a b) p r y) (Fits s a p r y × Fits s b p r y)
  add_fits a b p k r y left right true m d g f h = leaf_fits (add a b) p r y m.1 (subst (Ready p.spot.around) m.0 d) g f h
  add_fits a b p k r y left right false m d g f h =
      let gs = every_parts ClaimHolds (claims_at a p) (claims_at b p) g in
      let fs = every_parts PrintedHolds (printed_of a p) (printed_of b p) f in
      (left m.0 gs.0 fs.0, right m.1 gs.1 fs.1)

  -- what goals and printed forms say is what the loops are owed
  pub fits : (e : Term) (p : Place) (k : ℕ) (r y : List ℕ) → Apt e p k → Ready p.spot.around k → Every ClaimHolds (claims_at e p)
      → Every PrintedHolds (printed_of e p) → Here p r y → Fits s e p r y
  fits (Lit w) p k r y a d g f h = leaf_fits (Lit w) p r y tt (subst (Ready p.spot.around) a d) g f h
  fits (WordOf x) p k r y a d g f h = leaf_fits (WordOf x) p r y tt (subst (Ready p.spot.around) a d) g f h
  fits (TVar q) p k r y a d g f h = full_read_fits_if (shape_at (TVar q) p) (read_under (TVar q) []) p r y a.0 a.1 (subst (Ready p.spot.around) a.2 d) g f h
  fits (index e x) p k r y a d g f h = full_read_fits_if (shape_at (index e x) p) (read_under (index e x) []) p r y a.0 a.1
      (subst (Ready p.spot.around) a.2 d) g f h
  fits (gen n e) p k r y a d g f h = (
    number-here p r y n a.0.0 f.0 h,
    λ i l. fits e (in_gen n p) a.1.0 (r ++ i ∷ []) (i ∷ y) a.1.2 (subst (Ready p.spot.around) a.1.1 d) g f.1
        (turn-here p (in_gen n p) n r y i refl a.0 l h),
  )
  fits (sum n e) p k r y a d g f h =
      (number-here p r y n a.0.0 f.0 h, λ i l. fits e (in_sum n p) k (r ++ i ∷ []) (i ∷ y) a.1 d g f.1 (turn-here p (in_sum n p) n r y i refl a.0 l h))
  fits (guard c e) p k r y a d g f h =
      let fs = every_parts PrintedHolds (comparisons c.all p) (printed_of e (in_guard c p)) f in
      (exact-comparisons c.all p r y fs.0 h, λ l. fits e (in_guard c p) k r y a.1 d g fs.1 (guard-here p c r y a.0 l h))
  fits (let_in a b) p k r y m d g f h =
      let gs = every_parts ClaimHolds (claims_at a (in_definition a p)) (claims_at b (in_body a p)) g in
      let fs = every_parts PrintedHolds (printed_of a (in_definition a p)) (printed_of b (in_body a p)) f.1.1 in (
        (
          number-here p r y p.free m.2 f.0 h,
          numbered (length_form (shape_at a p)) (word_count (extents_at (shape_at a p) s)) r y
              (exact-here p r y (length_printed (shape_at a p) p) (length_form (shape_at a p)) refl (words-raw (shape_at a p)) f.1.0 h)
              (length-value s y (shape_at a p) (all-counts y (shape_at a p) m.3)),
        ),
        fits a (in_definition a p) m.0.0 r y m.0.1 tt gs.0 fs.0 (same-here p (in_definition a p) r y refl h),
        fits b (in_body a p) k r y m.1 d gs.1 fs.1 (same-here p (in_body a p) r y refl h),
      )
  fits (add a b) p k r y m d g f h = add_fits a b p k r y (λ m g f. fits a p k r y m d g f h) (λ m g f. fits b p k r y m d g f h)
      (adds_words a b (shapes p)) m d g f h
  fits (sub a b) p k r y m d g f h = leaf_fits (sub a b) p r y m.1 (subst (Ready p.spot.around) m.0 d) g f h
  fits (mul a b) p k r y m d g f h = leaf_fits (mul a b) p r y m.1 (subst (Ready p.spot.around) m.0 d) g f h
  fits (concat a b) p k r y m d g f h =
      let gs = every_parts ClaimHolds (claims_at a p) (claims_at b (on_right a p)) g in
      let fs = every_parts PrintedHolds (printed_of a p) (printed_of b (on_right a p)) f in
      let later : Ready (Later (first_of (shape_at a p)) ∷ p.spot.around) k = subst (Ready (Later (first_of (shape_at a p)) ∷ p.spot.around)) (sym m.1.1) (
        m.0,
        subst (Ready p.spot.around) m.1.1 d,
      ) in
      (fits a p k r y m.2 d gs.0 fs.0 h, fits b (on_right a p) k r y m.3 later gs.1 fs.1 (same-here p (on_right a p) r y refl h))
  fits (flatten e) p k r y m d g f h = fits e (in_flatten e p) (suc (suc m.1.0)) r y m.1.2 (
    m.0,
    subst (Ready p.spot.around) m.1.1 d,
  ) g f (same-here p (in_flatten e p) r y refl h)
  fits (split q e) p k r y m d g f h = fits e (under_node (Tiled q) p) (suc m.1.0) r y m.1.2 (
    m.0,
    subst (Ready p.spot.around) m.1.1 d,
  ) g f (same-here p (under_node (Tiled q) p) r y refl h)
  fits (transpose e) p k r y m d g f h =
      fits e (under_node Swapped p) k r y m.2 (subst (Ready (Swapped ∷ p.spot.around)) (sym m.1) (subst (Ready p.spot.around) m.1 d)) g f
      (same-here p (under_node Swapped p) r y refl h)
  fits (trunc_l a e) p k r y m d g f h =
      fits e (under_node (Without a) p) k r y m.2 (subst (Ready (Without a ∷ p.spot.around)) (sym m.1) (subst (Ready p.spot.around) m.1 d)) g f
      (same-here p (under_node (Without a) p) r y refl h)
  fits (trunc_r a e) p k r y m d g f h =
      fits e (in_truncr a e p) k r y m.2 (subst (Ready (Before (first_of (shape_at (trunc_r a e) p)) ∷ p.spot.around)) (sym m.1)
      (subst (Ready p.spot.around) m.1 d)) g f (same-here p (in_truncr a e p) r y refl h)
  fits (pad_l a e) p k r y m d g f h =
      fits e (under_node (Later a) p) k r y m.1.2 (subst (Ready (Later a ∷ p.spot.around)) (sym m.1.1) (m.0, subst (Ready p.spot.around) m.1.1 d)) g f
      (same-here p (under_node (Later a) p) r y refl h)
  fits (pad_r a e) p k r y m d g f h = fits e p k r y m d g f h
