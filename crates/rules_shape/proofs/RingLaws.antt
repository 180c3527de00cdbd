-- Both sides of a law of words are the same words.
use Rattle.std.proofs.Common.{◌≡◌, ℕ, ◌+◌, ◌-◌, ◌*◌, ◌%◌, ◌^◌, ◌<◌, ◌==◌, List, [], ◌∷◌, length, refl, ap, sym, ◌∙◌, subst, arith, Bool, true, false, ◌&&◌}
use Rattle.std.proofs.Common.{Ok, Err, Option, Some, None}
use Rattle.std.proofs.lemmas.Bool.{and_from, and_parts}
use Rattle.std.proofs.lemmas.Nat.{mul-mod_second}
use Rattle.binders.proofs.Sums.{plus_assoc, plus_comm}
use Rattle.fact_list.specs.Facts.{binders}
use Rattle.path_focus.specs.Focus.{IsProper}
use Rattle.path_focus.specs.Outcome.{MeantKeeps, RuleKeeps}
use Rattle.path_focus.specs.declared.place.Focus.{Focus}
use Rattle.path_focus.specs.declared.rule.Law.{Law}
use Rattle.path_focus.specs.declared.rule.Law.TheVariants.{AddComm, AddAssoc, AddAssocBack, MulComm, MulAssoc, MulAssocBack, Distrib, Undistrib}
use Rattle.path_focus.specs.declared.rule.Law.TheVariants.{AddZero, MulOne, MulZero, SubAdd, Fold}
use Rattle.path_focus.proofs.ShapeSteps.{old_is, same_there}
use Rattle.rule_parts.proofs.Replacing.{Replaces, Stands, anywhere, never, replaced_anywhere}
use Rattle.rules_shape.specs.Ring.{folded, is_operator, is_word, law_given, law_of, ring, with_law}
use Rattle.rules_shape.proofs.KeptLaws.{kept_add, kept_lit, kept_mul, kept_sub}
use Rattle.rules_shape_tensor.proofs.KeptLaws.{IsSame, kept_fitting, kept_provided, same_kept}
use Rattle.rules_shape.proofs.ShapeLaws.{product_or, product_parts, sum_or, sum_parts}
use Rattle.shape_rules.specs.Fits.{AllShaped, AllWords, LiteralsFit, ShapesFit}
use Rattle.shape_rules.specs.Scopes.{given}
use Rattle.shape_rules.specs.Values.{HaveValues, NoneNegative}
use Rattle.shape_rules.proofs.DenShape.{den_shape}
use Rattle.shape_rules.proofs.DenWords.{den_words}
use Rattle.shape_rules.proofs.ShapeMeaning.{shape_meant}
use Rattle.term_equality.proofs.EqualityLaws.{same_term-equal}
use Rattle.term_equality.specs.Equality.{same_term}
use Rattle.term_tree.specs.Goals.{term_goals}
use Rattle.term_tree.specs.Meaning.{Bound, den, dims, extents_of}
use Rattle.term_tree.specs.Scope.{term_scoped}
use Rattle.term_tree.specs.Shape.{Shaped, shape_of}
use Rattle.term_tree.specs.Shaped.{HasShape, HasWords, IsWord}
use Rattle.term_tree.specs.Syntax.{add, mul, sub}
use Rattle.term_tree.specs.Tensors.{Tensor, Word, End, Row, by_places, plus_places}
use Rattle.term_tree.specs.declared.term.Term.{Term, Lit}

-- the products of places
abbrev times_places : Tensor → Tensor → Tensor
times_places = by_places (λ v w. (v * w) % 2 ^ 64)

-- a tensor of no extents is a word
word_is : (x : Tensor) → IsWord x → (w : ℕ) × (x ≡ Word w)
word_is (Word w) h = (w, refl)
word_is End h = absurd h
word_is (Row a b) h = absurd h

word_at : (e : Term) (s r : List ℕ) (t : List Bound) → AllShaped t → ShapesFit e s (extents_of t) → dims e s (extents_of t) ≡ []
    → (w : ℕ) × (den e s r t ≡ Word w)
word_at e s r t h w d = word_is (den e s r t) (subst (λ (d : List ℕ). HasShape d (den e s r t)) d (den_shape e s r t w h))

below : (e : Term) (s r : List ℕ) (t : List Bound) (w : ℕ) → AllWords t → LiteralsFit e → den e s r t ≡ Word w → w < 2 ^ 64
below e s r t w h l d = subst HasWords d (den_words e s r t l h)

-- arithmetic modulo 2^64
times_comm : (a b : ℕ) → (a * b) % 2 ^ 64 ≡ (b * a) % 2 ^ 64
times_comm a b = ap (λ n. n % 2 ^ 64) (turned a b)
  where
    turned : (a b : ℕ) → a * b ≡ b * a
    turned a b = grind arith

times_again : (a b c : ℕ) → (a * ((b * c) % 2 ^ 64)) % 2 ^ 64 ≡ (((a * b) % 2 ^ 64) * c) % 2 ^ 64
times_again a b c =
    mul-mod_second a (b * c) (2 ^ 64) ∙ ap (λ n. n % 2 ^ 64) (grouped a b c) ∙ sym (mul-mod_second c (a * b) (2 ^ 64))
    ∙ times_comm c ((a * b) % 2 ^ 64)
  where
    grouped : (a b c : ℕ) → a * (b * c) ≡ c * (a * b)
    grouped a b c = grind arith

distributes : (a b c : ℕ) → (a * ((b + c) % 2 ^ 64)) % 2 ^ 64 ≡ ((a * b) % 2 ^ 64 + (a * c) % 2 ^ 64) % 2 ^ 64
distributes a b c = mul-mod_second a (b + c) (2 ^ 64) ∙ ap (λ n. n % 2 ^ 64) (times_sum a b c) ∙ added (a * b) (a * c)
  where
    times_sum : (a b c : ℕ) → a * (b + c) ≡ a * b + a * c
    times_sum a b c = grind arith

    added : (m n : ℕ) → (m + n) % 2 ^ 64 ≡ (m % 2 ^ 64 + n % 2 ^ 64) % 2 ^ 64
    added m n = omega arith

plus_none : (a : ℕ) → a < 2 ^ 64 → (a + 0) % 2 ^ 64 ≡ a
plus_none a h = omega (arith, h)

times_one : (a : ℕ) → a < 2 ^ 64 → (a * 1) % 2 ^ 64 ≡ a
times_one a h = omega (arith, h)

times_none : (a : ℕ) → (a * 0) % 2 ^ 64 ≡ 0
times_none a = omega arith

times_minus_one : (a b : ℕ) → b < 2 ^ 64 → (a + (b * (2 ^ 64 - 1)) % 2 ^ 64) % 2 ^ 64 ≡ (a + (2 ^ 64 - b)) % 2 ^ 64
times_minus_one a b h = omega (arith, h)

-- scopes
and_turned : (a b : Bool) → (a && b) ≡ true → (b && a) ≡ true
and_turned true true h = refl
and_turned true false h = absurd (cc)
and_turned false b h = absurd (cc)

and_right : (a b c : Bool) → ((a && b) && c) ≡ true → (a && (b && c)) ≡ true
and_right true b c h = h
and_right false b c h = absurd (cc)

and_left : (a b c : Bool) → (a && (b && c)) ≡ true → ((a && b) && c) ≡ true
and_left true b c h = h
and_left false b c h = absurd (cc)

and_apart : (a b c : Bool) → (a && (b && c)) ≡ true → ((a && b) && (a && c)) ≡ true
and_apart true b c h = h
and_apart false b c h = absurd (cc)

and_together : (a b c : Bool) → ((a && b) && (a && c)) ≡ true → (a && (b && c)) ≡ true
and_together true b c h = h
and_together false b c h = absurd (cc)

sums_turned : (a b : Term) → IsSame (add a b) (add b a)
sums_turned a b = record {
  scoped = λ sizes vars tensors c. and_turned (term_scoped sizes a vars tensors) (term_scoped sizes b vars tensors) c;
  extents = λ s ds w. w.0;
  goals = λ s ds g. (g.1, g.0);
  meaning = λ s r t h k l w. plus_comm (den b s r t) (den a s r t);
  shape = λ ts ns h.
      let p = sum_parts (shape_of a ts) (shape_of b ts) ns h in
      sum_or ns (shape_of b ts) (shape_of a ts) (same_there ns (shape_of b ts) p.1) (same_there ns (shape_of a ts) p.0);
}

sums_right : (a b c : Term) → IsSame (add (add a b) c) (add a (add b c))
sums_right a b c = record {
  scoped = λ sizes vars tensors k.
      and_right (term_scoped sizes a vars tensors) (term_scoped sizes b vars tensors) (term_scoped sizes c vars tensors) k;
  extents = λ s ds w. refl;
  goals = λ s ds g. (g.0.0, (g.0.1, g.1));
  meaning = λ s r t h k l w. sym (plus_assoc (den a s r t) (den b s r t) (den c s r t));
  shape = λ ts ns h.
      let x = shape_of a ts in
      let y = shape_of b ts in
      let z = shape_of c ts in
      let p = sum_parts (shape_of (add a b) ts) z ns h in
      let q = sum_parts x y ns p.0 in
      sum_or ns x (shape_of (add b c) ts) (same_there ns x q.0) (sum_or ns y z (same_there ns y q.1) (same_there ns z p.1));
}

sums_left : (a b c : Term) → IsSame (add a (add b c)) (add (add a b) c)
sums_left a b c = record {
  scoped = λ sizes vars tensors k.
      and_left (term_scoped sizes a vars tensors) (term_scoped sizes b vars tensors) (term_scoped sizes c vars tensors) k;
  extents = λ s ds w. refl;
  goals = λ s ds g. ((g.0, g.1.0), g.1.1);
  meaning = λ s r t h k l w. plus_assoc (den a s r t) (den b s r t) (den c s r t);
  shape = λ ts ns h.
      let x = shape_of a ts in
      let y = shape_of b ts in
      let z = shape_of c ts in
      let p = sum_parts x (shape_of (add b c) ts) ns h in
      let q = sum_parts y z ns p.1 in
      sum_or ns (shape_of (add a b) ts) z (sum_or ns x y (same_there ns x p.0) (same_there ns y q.0)) (same_there ns z q.1);
}

products_turned : (a b : Term) → IsSame (mul a b) (mul b a)
products_turned a b = record {
  scoped = λ sizes vars tensors c. and_turned (term_scoped sizes a vars tensors) (term_scoped sizes b vars tensors) c;
  extents = λ s ds w. refl;
  goals = λ s ds g. (g.1, g.0);
  meaning = λ s r t h k l w.
      let v = word_at a s r t h w.1 w.0.0 in
      let u = word_at b s r t h w.2 w.0.1 in
      (λ i. times_places (u.1 i) (v.1 i)) ∙ ap Word (times_comm u.0 v.0) ∙ sym (λ i. times_places (v.1 i) (u.1 i));
  shape = λ ts ns h.
      let p = product_parts (shape_of a ts) (shape_of b ts) ns h in
      old_is (Ok ns) [] (shape_of (mul b a) ts) p.0
      (product_or (shape_of b ts) (shape_of a ts) (same_there [] (shape_of b ts) p.2) (same_there [] (shape_of a ts) p.1));
}

products_right : (a b c : Term) → IsSame (mul (mul a b) c) (mul a (mul b c))
products_right a b c = record {
  scoped = λ sizes vars tensors k.
      and_right (term_scoped sizes a vars tensors) (term_scoped sizes b vars tensors) (term_scoped sizes c vars tensors) k;
  extents = λ s ds w. refl;
  goals = λ s ds g. (g.0.0, (g.0.1, g.1));
  meaning = λ s r t h k l w.
      let u = word_at a s r t h w.1.1 w.1.0.0 in
      let v = word_at b s r t h w.1.2 w.1.0.1 in
      let x = word_at c s r t h w.2 w.0.1 in
      (λ i. times_places (u.1 i) (times_places (v.1 i) (x.1 i))) ∙ ap Word (times_again u.0 v.0 x.0)
      ∙ sym (λ i. times_places (times_places (u.1 i) (v.1 i)) (x.1 i));
  shape = λ ts ns h.
      let x = shape_of a ts in
      let y = shape_of b ts in
      let z = shape_of c ts in
      let p = product_parts (shape_of (mul a b) ts) z ns h in
      let q = product_parts x y [] p.1 in
      old_is (Ok ns) [] (shape_of (mul a (mul b c)) ts) p.0
      (product_or x (shape_of (mul b c) ts) (same_there [] x q.1) (product_or y z (same_there [] y q.2) (same_there [] z p.2)));
}

products_left : (a b c : Term) → IsSame (mul a (mul b c)) (mul (mul a b) c)
products_left a b c = record {
  scoped = λ sizes vars tensors k.
      and_left (term_scoped sizes a vars tensors) (term_scoped sizes b vars tensors) (term_scoped sizes c vars tensors) k;
  extents = λ s ds w. refl;
  goals = λ s ds g. ((g.0, g.1.0), g.1.1);
  meaning = λ s r t h k l w.
      let u = word_at a s r t h w.1 w.0.0 in
      let v = word_at b s r t h w.2.1 w.2.0.0 in
      let x = word_at c s r t h w.2.2 w.2.0.1 in
      (λ i. times_places (times_places (u.1 i) (v.1 i)) (x.1 i)) ∙ ap Word (sym (times_again u.0 v.0 x.0))
      ∙ sym (λ i. times_places (u.1 i) (times_places (v.1 i) (x.1 i)));
  shape = λ ts ns h.
      let x = shape_of a ts in
      let y = shape_of b ts in
      let z = shape_of c ts in
      let p = product_parts x (shape_of (mul b c) ts) ns h in
      let q = product_parts y z [] p.2 in
      old_is (Ok ns) [] (shape_of (mul (mul a b) c) ts) p.0
      (product_or (shape_of (mul a b) ts) z (product_or x y (same_there [] x p.1) (same_there [] y q.1)) (same_there [] z q.2));
}

products_apart : (a b c : Term) → IsSame (mul a (add b c)) (add (mul a b) (mul a c))
products_apart a b c = record {
  scoped = λ sizes vars tensors k.
      and_apart (term_scoped sizes a vars tensors) (term_scoped sizes b vars tensors) (term_scoped sizes c vars tensors) k;
  extents = λ s ds w. refl;
  goals = λ s ds g. ((g.0, g.1.0), (g.0, g.1.1));
  meaning = λ s r t h k l w.
      let u = word_at a s r t h w.1 w.0.0 in
      let v = word_at b s r t h w.2.1 w.0.1 in
      let x = word_at c s r t h w.2.2 (w.2.0 ∙ w.0.1) in
      (λ i. plus_places (times_places (u.1 i) (v.1 i)) (times_places (u.1 i) (x.1 i))) ∙ ap Word (sym (distributes u.0 v.0 x.0))
      ∙ sym (λ i. times_places (u.1 i) (plus_places (v.1 i) (x.1 i)));
  shape = λ ts ns h.
      let x = shape_of a ts in
      let y = shape_of b ts in
      let z = shape_of c ts in
      let p = product_parts x (shape_of (add b c) ts) ns h in
      let q = sum_parts y z [] p.2 in
      let u = same_there [] x p.1 in
      old_is (Ok ns) [] (shape_of (add (mul a b) (mul a c)) ts) p.0
      (sum_or [] (shape_of (mul a b) ts) (shape_of (mul a c) ts) (product_or x y u (same_there [] y q.0)) (product_or x z u (same_there [] z q.1)));
}

products_together : (a b c : Term) → IsSame (add (mul a b) (mul a c)) (mul a (add b c))
products_together a b c = record {
  scoped = λ sizes vars tensors k.
      and_together (term_scoped sizes a vars tensors) (term_scoped sizes b vars tensors) (term_scoped sizes c vars tensors) k;
  extents = λ s ds w. refl;
  goals = λ s ds g. (g.0.0, (g.0.1, g.1.1));
  meaning = λ s r t h k l w.
      let u = word_at a s r t h w.1.1 w.1.0.0 in
      let v = word_at b s r t h w.1.2 w.1.0.1 in
      let x = word_at c s r t h w.2.2 w.2.0.1 in
      (λ i. times_places (u.1 i) (plus_places (v.1 i) (x.1 i))) ∙ ap Word (distributes u.0 v.0 x.0)
      ∙ sym (λ i. plus_places (times_places (u.1 i) (v.1 i)) (times_places (u.1 i) (x.1 i)));
  shape = λ ts ns h.
      let x = shape_of a ts in
      let y = shape_of b ts in
      let z = shape_of c ts in
      let p = sum_parts (shape_of (mul a b) ts) (shape_of (mul a c) ts) ns h in
      let q = product_parts x y ns p.0 in
      let k = product_parts x z ns p.1 in
      old_is (Ok ns) [] (shape_of (mul a (add b c)) ts) q.0
      (product_or x (shape_of (add b c) ts) (same_there [] x q.1) (sum_or [] y z (same_there [] y q.2) (same_there [] z k.2)));
}

nothing_added : (a : Term) → IsSame (add a (Lit 0)) a
nothing_added a = record {
  scoped = λ sizes vars tensors k. (and_parts (term_scoped sizes a vars tensors) true k).0;
  extents = λ s ds w. refl;
  goals = λ s ds g. g.0;
  meaning = λ s r t h k l w.
      let u = word_at a s r t h w.1 (sym w.0) in
      u.1 ∙ ap Word (sym (plus_none u.0 (below a s r t u.0 k l.0 u.1))) ∙ sym (λ i. plus_places (u.1 i) (Word 0));
  shape = λ ts ns h. same_there ns (shape_of a ts) (sum_parts (shape_of a ts) (Ok []) ns h).0;
}

times_one_same : (a : Term) → IsSame (mul a (Lit 1)) a
times_one_same a = record {
  scoped = λ sizes vars tensors k. (and_parts (term_scoped sizes a vars tensors) true k).0;
  extents = λ s ds w. w.0.0;
  goals = λ s ds g. g.0;
  meaning = λ s r t h k l w.
      let u = word_at a s r t h w.1 w.0.0 in
      u.1 ∙ ap Word (sym (times_one u.0 (below a s r t u.0 k l.0 u.1))) ∙ sym (λ i. times_places (u.1 i) (Word 1));
  shape = λ ts ns h.
      let p = product_parts (shape_of a ts) (Ok []) ns h in
      old_is (Ok ns) [] (shape_of a ts) p.0 (same_there [] (shape_of a ts) p.1);
}

times_zero_same : (a : Term) → IsSame (mul a (Lit 0)) (Lit 0)
times_zero_same a = record {
  scoped = λ sizes vars tensors k. refl;
  extents = λ s ds w. refl;
  goals = λ s ds g. tt;
  meaning = λ s r t h k l w.
      let u = word_at a s r t h w.1 w.0.0 in
      ap Word (sym (times_none u.0)) ∙ sym (λ i. times_places (u.1 i) (Word 0));
  shape = λ ts ns h. (product_parts (shape_of a ts) (Ok []) ns h).0;
}

sum_folded : (v w : ℕ) → IsSame (add (Lit v) (Lit w)) (Lit ((v + w) % 2 ^ 64))
sum_folded v w = record {
  scoped = λ sizes vars tensors k. refl;
  extents = λ s ds w. refl;
  goals = λ s ds g. tt;
  meaning = λ s r t h k l w. refl;
  shape = λ ts ns h. sym h;
}

difference_folded : (v w : ℕ) → IsSame (sub (Lit v) (Lit w)) (Lit ((v + (2 ^ 64 - w)) % 2 ^ 64))
difference_folded v w = record {
  scoped = λ sizes vars tensors k. refl;
  extents = λ s ds w. refl;
  goals = λ s ds g. tt;
  meaning = λ s r t h k l w. refl;
  shape = λ ts ns h. sym h;
}

product_folded : (v w : ℕ) → IsSame (mul (Lit v) (Lit w)) (Lit ((v * w) % 2 ^ 64))
product_folded v w = record {
  scoped = λ sizes vars tensors k. refl;
  extents = λ s ds w. refl;
  goals = λ s ds g. tt;
  meaning = λ s r t h k l w. refl;
  shape = λ ts ns h. sym h;
}

-- a difference of words
no_extents : (s : List ℕ) (d : List ℕ) → HaveValues s [] d → d ≡ []
no_extents s [] h = refl
no_extents s (k ∷ ks) h = absurd h

is_word-is : (z : Shaped) → is_word z ≡ true → z ≡ Ok []
is_word-is (Ok []) h = refl
is_word-is (Ok (n ∷ ns)) h = absurd (never h)
is_word-is (Err m) h = absurd (never h)

module _ (f : Focus) (p : IsProper f) (a b : Term) (q : f.term ≡ sub a b) (shaped : shape_of (sub a b) (given f.shapes) ≡ Ok []) where
  abbrev sizes : ℕ
  sizes = length f.facts.sizes

  abbrev vars : ℕ
  vars = binders f.facts.path

  abbrev tensors : ℕ
  tensors = length (given f.shapes)

  no_rows : (s : List ℕ) (ds : List (List ℕ)) → Stands f (sub a b) s ds → dims a s ds ≡ []
  no_rows s ds w =
      let c = subst (λ (e : Term). term_scoped sizes e vars tensors ≡ true) q p.term_scope in
      let g : NoneNegative s (term_goals (sub a b) (given f.shapes)) =
      subst (λ (e : Term). NoneNegative s (term_goals e (given f.shapes))) q (p.goals s w.allowed) in
      no_extents s (dims a s ds) (shape_meant s sizes (sub a b) vars tensors (given f.shapes) ds [] c shaped g w.values).0

  minus_made : Replaces f anywhere (sub a b) (add a (mul b (Lit (2 ^ 64 - 1))))
  minus_made = record {
    scoped = λ c.
        let k = and_parts (term_scoped sizes a vars tensors) (term_scoped sizes b vars tensors) c in
        and_from (term_scoped sizes a vars tensors) (term_scoped sizes b vars tensors && true) k.0 (and_from (term_scoped sizes b vars tensors) true k.1 refl);
    extents = λ s ds w. refl;
    goals = λ s ds w. (w.goals.0, (w.goals.1, tt));
    meaning = λ s r t k h w.
        let l : LiteralsFit (sub a b) = subst LiteralsFit q p.literals in
        let d = no_rows s (extents_of t) w in
        let u = word_at a s r t h.shaped w.fits.1 d in
        let v = word_at b s r t h.shaped w.fits.2 (w.fits.0 ∙ d) in
        (λ i. plus_places (u.1 i) (times_places (v.1 i) (Word (2 ^ 64 - 1))))
        ∙ ap Word (times_minus_one u.0 v.0 (below b s r t v.0 h.words l.1 v.1))
        ∙ sym (λ i. by_places (λ v w. (v + (2 ^ 64 - w)) % 2 ^ 64) (u.1 i) (v.1 i));
    shape = λ h.
        let x = shape_of a (given f.shapes) in
        let y = shape_of b (given f.shapes) in
        let k = sum_parts x y [] shaped in
        old_is (shape_of (sub a b) (given f.shapes)) [] (shape_of (add a (mul b (Lit (2 ^ 64 - 1)))) (given f.shapes)) shaped
        (sum_or [] x (shape_of (mul b (Lit (2 ^ 64 - 1))) (given f.shapes)) (same_there [] x k.0) (product_or y (Ok []) (same_there [] y k.1) refl));
  }

folded_kept : (f : Focus) → IsProper f → (e : Term) → f.term ≡ e → MeantKeeps f (folded e)
folded_kept f p (add a b) q =
    kept_lit f a _ (λ v h. kept_lit f b _ (λ w k.
    same_kept f p (add (Lit v) (Lit w)) (Lit ((v + w) % 2 ^ 64)) (q ∙ (λ i. add (h i) (k i))) (sum_folded v w)))
folded_kept f p (sub a b) q =
    kept_lit f a _ (λ v h. kept_lit f b _ (λ w k.
    same_kept f p (sub (Lit v) (Lit w)) (Lit ((v + (2 ^ 64 - w)) % 2 ^ 64)) (q ∙ (λ i. sub (h i) (k i))) (difference_folded v w)))
folded_kept f p (mul a b) q =
    kept_lit f a _ (λ v h. kept_lit f b _ (λ w k.
    same_kept f p (mul (Lit v) (Lit w)) (Lit ((v * w) % 2 ^ 64)) (q ∙ (λ i. mul (h i) (k i))) (product_folded v w)))
folded_kept f p _ q = tt

is_zero : (w : ℕ) → (w == 0) ≡ true → w ≡ 0
is_zero w h = grind (arith, h)

is_one : (w : ℕ) → (w == 1) ≡ true → w ≡ 1
is_one w h = grind (arith, h)

law_kept : (f : Focus) → IsProper f → (l : Law) → MeantKeeps f (law_of f l)
law_kept f p AddComm = kept_add f f.term _ (λ a b q. same_kept f p (add a b) (add b a) q (sums_turned a b))
law_kept f p AddAssoc = kept_add f f.term _ (λ d c q. kept_add f d _ (λ a b h.
    same_kept f p (add (add a b) c) (add a (add b c)) (q ∙ (λ i. add (h i) c)) (sums_right a b c)))
law_kept f p AddAssocBack = kept_add f f.term _ (λ a d q. kept_add f d _ (λ b c h.
    same_kept f p (add a (add b c)) (add (add a b) c) (q ∙ (λ i. add a (h i))) (sums_left a b c)))
law_kept f p MulComm = kept_mul f f.term _ (λ a b q. same_kept f p (mul a b) (mul b a) q (products_turned a b))
law_kept f p MulAssoc = kept_mul f f.term _ (λ d c q. kept_mul f d _ (λ a b h.
    same_kept f p (mul (mul a b) c) (mul a (mul b c)) (q ∙ (λ i. mul (h i) c)) (products_right a b c)))
law_kept f p MulAssocBack = kept_mul f f.term _ (λ a d q. kept_mul f d _ (λ b c h.
    same_kept f p (mul a (mul b c)) (mul (mul a b) c) (q ∙ (λ i. mul a (h i))) (products_left a b c)))
law_kept f p Distrib = kept_mul f f.term _ (λ a d q. kept_add f d _ (λ b c h.
    same_kept f p (mul a (add b c)) (add (mul a b) (mul a c)) (q ∙ (λ i. mul a (h i))) (products_apart a b c)))
law_kept f p Undistrib = kept_add f f.term _ (λ x y q. kept_mul f x _ (λ a b h. kept_mul f y _ (λ d c k. kept_fitting f (same_term a d) _ (λ e.
    let same : d ≡ a = sym (same_term-equal a d e) in
    same_kept f p (add (mul a b) (mul a c)) (mul a (add b c)) (q ∙ (λ i. add (h i) (k i)) ∙ (λ i. add (mul a b) (mul (same i) c)))
    (products_together a b c)))))
law_kept f p AddZero = kept_add f f.term _ (λ a b q. kept_lit f b _ (λ w h. kept_fitting f (w == 0) _ (λ e.
    same_kept f p (add a (Lit 0)) a (q ∙ (λ i. add a (h i)) ∙ (λ i. add a (Lit (is_zero w e i)))) (nothing_added a))))
law_kept f p MulOne = kept_mul f f.term _ (λ a b q. kept_lit f b _ (λ w h. kept_fitting f (w == 1) _ (λ e.
    same_kept f p (mul a (Lit 1)) a (q ∙ (λ i. mul a (h i)) ∙ (λ i. mul a (Lit (is_one w e i)))) (times_one_same a))))
law_kept f p MulZero = kept_mul f f.term _ (λ a b q. kept_lit f b _ (λ w h. kept_fitting f (w == 0) _ (λ e.
    same_kept f p (mul a (Lit 0)) (Lit 0) (q ∙ (λ i. mul a (h i)) ∙ (λ i. mul a (Lit (is_zero w e i)))) (times_zero_same a))))
law_kept f p SubAdd = kept_sub f f.term _ (λ a b q. kept_fitting f (is_word (shape_of f.term (given f.shapes))) _ (λ e.
    replaced_anywhere f p (sub a b) (add a (mul b (Lit (2 ^ 64 - 1)))) q
    (minus_made f p a b q (ap (λ (e : Term). shape_of e (given f.shapes)) (sym q) ∙ is_word-is (shape_of f.term (given f.shapes)) e))))
law_kept f p Fold = folded_kept f p f.term refl

with_law_kept : (f : Focus) → IsProper f → (o : Option Law) → MeantKeeps f (with_law o (law_of f))
with_law_kept f p (Some l) = law_kept f p l
with_law_kept f p None = tt

pub ring_keeps : RuleKeeps ring
ring_keeps f p o as' = kept_provided f (is_operator f.term) (with_law (law_given as') (law_of f)) (λ e. with_law_kept f p (law_given as'))
