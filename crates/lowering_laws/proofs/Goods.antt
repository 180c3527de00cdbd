-- Changes of places that keep two tuples apart.
use Rattle.std.proofs.Common.{◌≡◌, ℕ, ◌+◌, ◌-◌, ◌*◌, ◌/◌, ◌%◌, ◌<◌, ◌≤◌, if◌then◌else◌, List, [], ◌∷◌, get_or, Option, Some, None, refl, sym, ap, ◌∙◌, subst}
use Rattle.std.proofs.Common.{⊎_elim, arith}
use Rattle.std.proofs.lemmas.Bool.{lt-ltb, le-ltb, cases_lt}
use Rattle.std.proofs.lemmas.Nat.{mul-add-lt, same_from_place, div-add-mod'}
use Rattle.std.proofs.Math.Nat.{mod-lt, mul_comm, mul-le-mul_right}
use Rattle.loop_lang.specs.Actions.{Mode, Puts, Adds}
use Rattle.lowering_laws.proofs.Algebra.{Within}
use Rattle.lowering_laws.proofs.Clear.{Clear, Injective}
use Rattle.reindexer.specs.Sending.{kept, swapped, flattened, spread}
use Rattle.lowering_laws.specs.Sending.{shifted, dropped}

-- how many chunks of k hold n rows
abbrev pub chunks : ℕ → ℕ → ℕ
chunks n k = (n + k - 1) / k

-- a place that no tuple of the first part has
pub clear_through : (o : Mode) (ds cs : List ℕ) (f g : List ℕ → Option ℕ) (ws vs : List ℕ)
    → ((ix : List ℕ) (p : ℕ) → Within cs ix → g ix ≡ Some p → (jx : List ℕ) × Within ds jx × (f jx ≡ Some p) × (get_or vs p 0 ≡ get_or ws p 0))
    → Clear o ds f ws → Clear o cs g vs
clear_through Adds ds cs f g ws vs h c = tt
clear_through Puts ds cs f g ws vs h c = λ ix p w e. let a = h ix p w e in a.3 ∙ c a.0 p a.1 a.2

pub widen : (n m : ℕ) (ds ix : List ℕ) → Within (n ∷ ds) ix → Within ((n + m) ∷ ds) ix
widen n m ds [] w = w
widen n m ds (i ∷ ix) w = (omega (arith, w.0), w.1)

pub shift_in : (n m : ℕ) (ds ix : List ℕ) (p : ℕ) (f : List ℕ → Option ℕ) → Within (m ∷ ds) ix → shifted n f ix ≡ Some p
    → (i : ℕ) × (jx : List ℕ) × (ix ≡ i ∷ jx) × Within ((n + m) ∷ ds) ((n + i) ∷ jx) × (f ((n + i) ∷ jx) ≡ Some p)
shift_in n m ds [] p f w e = absurd w
shift_in n m ds (i ∷ ix) p f w e = (i, ix, refl, (omega (arith, w.0), w.1), e)

pub shifted_inj : (n m : ℕ) (ds : List ℕ) (f : List ℕ → Option ℕ) → Injective ((n + m) ∷ ds) f → Injective (m ∷ ds) (shifted n f)
shifted_inj n m ds f inj [] jx p w v a b = absurd w
shifted_inj n m ds f inj (i ∷ ix) [] p w v a b = absurd v
shifted_inj n m ds f inj (i ∷ ix) (j ∷ jx) p w v a b =
    let same : (n + i) ∷ ix ≡ (n + j) ∷ jx = inj ((n + i) ∷ ix) ((n + j) ∷ jx) p (omega (arith, w.0), w.1) (omega (arith, v.0), v.1) a b in
    let heads : n + i ≡ n + j = cc in
    let e : i ≡ j = omega arith in
    let tails : ix ≡ jx = cc in
    cc

pub apart_rows : (n m : ℕ) (ds : List ℕ) (f : List ℕ → Option ℕ) (i p : ℕ) (ix jx : List ℕ) → Injective ((n + m) ∷ ds) f → Within ((n + m) ∷ ds) ((n + i) ∷ ix)
    → f ((n + i) ∷ ix) ≡ Some p → Within (n ∷ ds) jx → f jx ≡ Some p → ⊥
apart_rows n m ds f i p ix [] inj w e v c = absurd v
apart_rows n m ds f i p ix (j ∷ jx) inj w e v c =
    let same : (n + i) ∷ ix ≡ j ∷ jx = inj ((n + i) ∷ ix) (j ∷ jx) p w (omega (arith, v.0), v.1) e c in
    let heads : n + i ≡ j = cc in
    absurd (omega (arith, v.0))

pub kept_in : (m n : ℕ) (ds : List ℕ) (f : List ℕ → Option ℕ) (ix : List ℕ) (p : ℕ) → Within (n ∷ ds) ix → kept m f ix ≡ Some p
    → Within (m ∷ ds) ix × (f ix ≡ Some p)
kept_in m n ds f [] p w e = absurd w
kept_in m n ds f (i ∷ ix) p w e =
    ⊎_elim
    (λ (l : i < m). ((l, w.1), ap (λ b. if b then f (i ∷ ix) else None) (sym (lt-ltb i m l)) ∙ e))
    (λ (l : m ≤ i). let no : None ≡ Some p = ap (λ b. if b then f (i ∷ ix) else None) (sym (le-ltb i m l)) ∙ e in cc)
    (cases_lt i m)

pub swapped_in : (n m : ℕ) (ds : List ℕ) (f : List ℕ → Option ℕ) (ix : List ℕ) (p : ℕ) → Within (n ∷ m ∷ ds) ix → swapped f ix ≡ Some p
    → (x : ℕ) × (y : ℕ) × (jx : List ℕ) × (ix ≡ x ∷ y ∷ jx) × Within (m ∷ n ∷ ds) (y ∷ x ∷ jx) × (f (y ∷ x ∷ jx) ≡ Some p)
swapped_in n m ds f [] p w e = absurd w
swapped_in n m ds f (x ∷ []) p w e = absurd w.1
swapped_in n m ds f (x ∷ y ∷ jx) p w e = (x, y, jx, refl, (w.1.0, (w.0, w.1.1)), e)

pub swapped_inj : (n m : ℕ) (ds : List ℕ) (f : List ℕ → Option ℕ) → Injective (m ∷ n ∷ ds) f → Injective (n ∷ m ∷ ds) (swapped f)
swapped_inj n m ds f inj ix jx p w v a b =
    let i = swapped_in n m ds f ix p w a in
    let j = swapped_in n m ds f jx p v b in
    let same : i.1 ∷ i.0 ∷ i.2 ≡ j.1 ∷ j.0 ∷ j.2 = inj (i.1 ∷ i.0 ∷ i.2) (j.1 ∷ j.0 ∷ j.2) p i.4 j.4 i.5 j.5 in
    let x : i.0 ≡ j.0 = cc in
    let y : i.1 ≡ j.1 = cc in
    let z : i.2 ≡ j.2 = cc in
    i.3 ∙ ap (λ a. a ∷ i.1 ∷ i.2) x ∙ ap (λ a. j.0 ∷ a ∷ i.2) y ∙ ap (λ a. j.0 ∷ j.1 ∷ a) z ∙ sym j.3

-- g sends the tuples of ds that it does not drop where f sends those of es, two to two
pub record Good (es : List ℕ) (f : List ℕ → Option ℕ) (ds : List ℕ) (g : List ℕ → Option ℕ) : Type 0 where
  pub back : (ix : List ℕ) (p : ℕ) → Within ds ix → g ix ≡ Some p → (jx : List ℕ) × Within es jx × (f jx ≡ Some p)
  pub apart : Injective es f → Injective ds g

pub good_kept : (m n : ℕ) (ds : List ℕ) (f : List ℕ → Option ℕ) → Good (m ∷ ds) f (n ∷ ds) (kept m f)
good_kept m n ds f = record {
  back = λ ix p w e. let i = kept_in m n ds f ix p w e in (ix, i.0, i.1);
  apart = λ inj ix jx p w v a c. let i = kept_in m n ds f ix p w a in let j = kept_in m n ds f jx p v c in inj ix jx p i.0 j.0 i.1 j.1;
}

pub good_swapped : (n m : ℕ) (ds : List ℕ) (f : List ℕ → Option ℕ) → Good (m ∷ n ∷ ds) f (n ∷ m ∷ ds) (swapped f)
good_swapped n m ds f = record {
  back = λ ix p w e. let i = swapped_in n m ds f ix p w e in (i.1 ∷ i.0 ∷ i.2, i.4, i.5);
  apart = swapped_inj n m ds f;
}

pub good_shifted : (a n : ℕ) (ds : List ℕ) (f : List ℕ → Option ℕ) → Good ((a + n) ∷ ds) f (n ∷ ds) (shifted a f)
good_shifted a n ds f = record {
  back = λ ix p w e. let i = shift_in a n ds ix p f w e in ((a + i.0) ∷ i.1, i.3, i.4);
  apart = shifted_inj a n ds f;
}

pub good_wide : (n a : ℕ) (ds : List ℕ) (f : List ℕ → Option ℕ) → Good ((n + a) ∷ ds) f (n ∷ ds) f
good_wide n a ds f = record {
  back = λ ix p w e. (ix, widen n a ds ix w, e);
  apart = λ inj ix jx p w v a' c. inj ix jx p (widen n a ds ix w) (widen n a ds jx v) a' c;
}

pub dropped_in : (a n : ℕ) (ds : List ℕ) (f : List ℕ → Option ℕ) (ix : List ℕ) (p : ℕ) → Within (n ∷ ds) ix → dropped a f ix ≡ Some p
    → (i : ℕ) × (jx : List ℕ) × (ix ≡ i ∷ jx) × (a ≤ i) × Within ((n - a) ∷ ds) ((i - a) ∷ jx) × (f ((i - a) ∷ jx) ≡ Some p)
dropped_in a n ds f [] p w e = absurd w
dropped_in a n ds f (i ∷ ix) p w e =
    ⊎_elim
    (λ (l : i < a). let no : None ≡ Some p = ap (λ b. if b then None else f ((i - a) ∷ ix)) (sym (lt-ltb i a l)) ∙ e in cc)
    (λ (l : a ≤ i). (i, ix, refl, l, (omega (arith, w.0), w.1), ap (λ b. if b then None else f ((i - a) ∷ ix)) (sym (le-ltb i a l)) ∙ e))
    (cases_lt i a)

pub good_dropped : (a n : ℕ) (ds : List ℕ) (f : List ℕ → Option ℕ) → Good ((n - a) ∷ ds) f (n ∷ ds) (dropped a f)
good_dropped a n ds f = record {
  back = λ ix p w e. let i = dropped_in a n ds f ix p w e in ((i.0 - a) ∷ i.1, i.4, i.5);
  apart = λ inj ix jx p w v b c.
      let i = dropped_in a n ds f ix p w b in
      let j = dropped_in a n ds f jx p v c in
      let same : (i.0 - a) ∷ i.1 ≡ (j.0 - a) ∷ j.1 = inj ((i.0 - a) ∷ i.1) ((j.0 - a) ∷ j.1) p i.4 j.4 i.5 j.5 in
      let heads : i.0 - a ≡ j.0 - a = cc in
      let e : i.0 ≡ j.0 = omega (arith, i.3, j.3) in
      let tails : i.1 ≡ j.1 = cc in
      i.2 ∙ ap (λ x. x ∷ i.1) e ∙ ap (λ xs. j.0 ∷ xs) tails ∙ sym j.2;
}

pub flat_in : (n m : ℕ) (ds : List ℕ) (f : List ℕ → Option ℕ) (ix : List ℕ) (p : ℕ) → Within (n ∷ m ∷ ds) ix → flattened m f ix ≡ Some p
    → (x : ℕ) × (y : ℕ) × (jx : List ℕ) × (ix ≡ x ∷ y ∷ jx) × (y < m) × Within ((n * m) ∷ ds) ((x * m + y) ∷ jx) × (f ((x * m + y) ∷ jx) ≡ Some p)
flat_in n m ds f [] p w e = absurd w
flat_in n m ds f (x ∷ []) p w e = absurd w.1
flat_in n m ds f (x ∷ y ∷ jx) p w e = (x, y, jx, refl, w.1.0, (subst (λ v. x * m + y < v) (mul_comm m n) (mul-add-lt x m y n w.0 w.1.0), w.1.1), e)

pub good_flat : (n m : ℕ) (ds : List ℕ) (f : List ℕ → Option ℕ) → Good ((n * m) ∷ ds) f (n ∷ m ∷ ds) (flattened m f)
good_flat n m ds f = record {
  back = λ ix p w e. let i = flat_in n m ds f ix p w e in ((i.0 * m + i.1) ∷ i.2, i.5, i.6);
  apart = λ inj ix jx p w v b c.
      let i = flat_in n m ds f ix p w b in
      let j = flat_in n m ds f jx p v c in
      let same : (i.0 * m + i.1) ∷ i.2 ≡ (j.0 * m + j.1) ∷ j.2 = inj ((i.0 * m + i.1) ∷ i.2) ((j.0 * m + j.1) ∷ j.2) p i.5 j.5 i.6 j.6 in
      let heads : i.0 * m + i.1 ≡ j.0 * m + j.1 = cc in
      let both = same_from_place i.0 i.1 j.0 j.1 m i.4 j.4 heads in
      let tails : i.2 ≡ j.2 = cc in
      i.3 ∙ ap (λ a. a ∷ i.1 ∷ i.2) both.0 ∙ ap (λ a. j.0 ∷ a ∷ i.2) both.1 ∙ ap (λ a. j.0 ∷ j.1 ∷ a) tails ∙ sym j.3;
}

-- chunks hold all rows
pub chunks_hold : (n k : ℕ) → 0 < k → n ≤ chunks n k * k
chunks_hold n k h =
    let d = div-add-mod' (n + k - 1) k in
    let l : (n + k - 1) % k < k = mod-lt (n + k - 1) h in
    omega arith

pub chunk_of : (n k i : ℕ) → 0 < k → i < n → i / k < chunks n k
chunk_of n k i h l =
    let d = div-add-mod' i k in
    let e = chunks_hold n k h in
    ⊎_elim (λ (g : i / k < chunks n k). g)
    (λ (g : chunks n k ≤ i / k). let less : chunks n k * k ≤ i / k * k = mul-le-mul_right k g in absurd (omega arith))
    (cases_lt (i / k) (chunks n k))

pub spread_in : (n k : ℕ) (ds : List ℕ) (f : List ℕ → Option ℕ) (ix : List ℕ) (p : ℕ) → 0 < k → Within (n ∷ ds) ix → spread k f ix ≡ Some p
    → (i : ℕ) × (jx : List ℕ) × (ix ≡ i ∷ jx) × Within (chunks n k ∷ k ∷ ds) ((i / k) ∷ (i % k) ∷ jx) × (f ((i / k) ∷ (i % k) ∷ jx) ≡ Some p)
spread_in n k ds f [] p h w e = absurd w
spread_in n k ds f (i ∷ ix) p h w e = (i, ix, refl, (chunk_of n k i h w.0, (mod-lt i h, w.1)), e)

pub good_spread : (n k : ℕ) (ds : List ℕ) (f : List ℕ → Option ℕ) → 0 < k → Good (chunks n k ∷ k ∷ ds) f (n ∷ ds) (spread k f)
good_spread n k ds f h = record {
  back = λ ix p w e. let i = spread_in n k ds f ix p h w e in ((i.0 / k) ∷ (i.0 % k) ∷ i.1, i.3, i.4);
  apart = λ inj ix jx p w v b c.
      let i = spread_in n k ds f ix p h w b in
      let j = spread_in n k ds f jx p h v c in
      let same : (i.0 / k) ∷ (i.0 % k) ∷ i.1 ≡ (j.0 / k) ∷ (j.0 % k) ∷ j.1 = inj ((i.0 / k) ∷ (i.0 % k) ∷ i.1)
      ((j.0 / k) ∷ (j.0 % k) ∷ j.1) p i.3 j.3 i.4 j.4 in
      let q : i.0 / k ≡ j.0 / k = cc in
      let u : i.0 % k ≡ j.0 % k = cc in
      let e : i.0 ≡ j.0 = sym (div-add-mod' i.0 k) ∙ ap (λ v. v * k + i.0 % k) q ∙ ap (λ v. j.0 / k * k + v) u ∙ div-add-mod' j.0 k in
      let tails : i.1 ≡ j.1 = cc in
      i.2 ∙ ap (λ x. x ∷ i.1) e ∙ ap (λ xs. j.0 ∷ xs) tails ∙ sym j.2;
}
