-- The frames that terms put in front of good frames are good again.
use Rattle.std.proofs.Common.{◌≡◌, ℕ, ◌+◌, ◌-◌, List, [], ◌∷◌, Some, ap, sym, subst, ◌∙◌, arith}
use Rattle.std.specs.Prelude.{ℤ, pos, negsuc, ◌+ℤ◌, ◌*ℤ◌}
use Rattle.std.proofs.lemmas.Int.{ints}
use Rattle.affine_index.specs.Form.{var_form}
use Rattle.affine_index.specs.Sum.{scaled}
use Rattle.affine_index.specs.Value.{items_value}
use Rattle.affine_index.specs.declared.form.Atom.TheVariants.{Var}
use Rattle.affine_index.proofs.Values.{value-Var, value-of_atom, value-scaled}
use Rattle.term_tree.specs.Meaning.{count_of}
use Rattle.reindexer.specs.Good.{GoodFrames, IsGood}
use Rattle.reindexer.specs.Lifted.{lifted}
use Rattle.reindexer.specs.Sending.{Sending, Within, flattened, in_front, kept, send}
use Rattle.reindexer.specs.Steps.{TermFramesAreGood, TermsKeepGood}
use Rattle.reindexer.specs.declared.frame.Frame.{Frame}
use Rattle.reindexer.proofs.GoodLaws.{keeps_good, places_good}
use Rattle.reindexer.proofs.LiftLaws.{lifted_sent}

-- what is left of n after b
left_over : (y : ℤ) (n b : ℕ) → y +ℤ pos b ≡ pos n → count_of y ≡ n - b
left_over (pos k) n b h = omega (arith, ints, h)
left_over (negsuc k) n b h = omega (arith, ints, h)

minus_count : (n b : ℕ) (z : ℤ) → z ≡ negsuc 0 *ℤ pos b → count_of (pos n +ℤ z) ≡ n - b
minus_count n b z e = left_over (pos n +ℤ z) n b (back (negsuc 0 *ℤ pos b) minus_is)
  where
    minus_is : (negsuc 0 *ℤ pos b) +ℤ pos b ≡ pos 0
    minus_is = grind (arith, ints)

    back : (y : ℤ) → y +ℤ pos b ≡ pos 0 → (pos n +ℤ z) +ℤ pos b ≡ pos n
    back y h = let f : z +ℤ pos b ≡ pos 0 = ap (λ x. x +ℤ pos b) e ∙ minus_is in omega (arith, ints, f)

module _ (s v : List ℕ) (fs : List Frame) (es : List ℕ) where
  same_good : (ds : List ℕ) (f g : Sending (List ℕ)) → f ≡ g → IsGood (Within es) ds f → IsGood (Within es) ds g
  same_good ds f g e h = subst (IsGood (Within es) ds) e h

  pub terms_keep : TermsKeepGood s v fs es
  terms_keep = record {
    gen = λ i n ds r l h.
        let x : items_value s (i ∷ v) (var_form 0) ≡ pos i = value-of_atom s (i ∷ v) (Var 0) ∙ value-Var s (i ∷ v) 0 in
        same_good ds (in_front (pos i) (send s v fs)) (in_front (items_value s (i ∷ v) (var_form 0)) (send s (i ∷ v) (lifted fs)))
        (λ t. in_front (sym x t) (sym (lifted_sent s v i fs Some r) t)) ((keeps_good (Within es) (send s v fs)).fix n i ds l h);
    sum = λ i ds r h. same_good ds (send s v fs) (send s (i ∷ v) (lifted fs)) (sym (lifted_sent s v i fs Some r)) h;
    transpose = λ n m ds h. (keeps_good (Within es) (send s v fs)).transpose n m ds h;
    flatten = λ a n m ds e h.
        same_good (n ∷ m ∷ ds) (flattened m (send s v fs)) (flattened (count_of (items_value s [] a)) (send s v fs))
        (ap (λ k. flattened (count_of k) (send s v fs)) (sym e))
        ((keeps_good (Within es) (send s v fs)).flatten n m ds h);
    split = λ n k ds p h. (keeps_good (Within es) (send s v fs)).split n k ds p h;
    pad_l = λ a n b ds e h.
        let c : count_of (pos n +ℤ items_value s [] a) ≡ n + b = ap (λ z. count_of (pos n +ℤ z)) e in
        (keeps_good (Within es) (send s v fs)).shift n (items_value s [] a) ds (subst (λ m. GoodFrames s v fs (m ∷ ds) es) (sym c) h);
    pad_r = λ n b ds h. (keeps_good (Within es) (send s v fs)).wider n b ds h;
    trunc_l = λ a n b ds e h.
        let z = items_value s [] (scaled (negsuc 0) a) in
        let c : count_of (pos n +ℤ z) ≡ n - b = minus_count n b z (value-scaled s [] (negsuc 0) a ∙ ap (λ y. negsuc 0 *ℤ y) e) in
        (keeps_good (Within es) (send s v fs)).shift n z ds (subst (λ m. GoodFrames s v fs (m ∷ ds) es) (sym c) h);
    trunc_r = λ m n b ds e h.
        same_good (n ∷ ds) (kept (n - b) (send s v fs)) (kept (count_of (items_value s [] m)) (send s v fs)) (ap (λ k. kept (count_of k) (send s v fs)) (sym e))
        ((keeps_good (Within es) (send s v fs)).keep n (n - b) ds h);
  }

pub term_frames : TermFramesAreGood
term_frames = record {
  none = λ s v es. places_good.tuples es;
  steps = terms_keep;
}
