-- Marks none of which is inside another: at most the node itself, or only nodes inside it.
use Rattle.std.proofs.Common.{◌≡◌, ℕ, ◌==◌, Bool, true, false, ◌&&◌, ◌||◌, if◌then◌else◌, List, [], ◌∷◌, ◌++◌, refl, sym, ap, ◌∙◌, arith}
use Rattle.std.proofs.lemmas.Bool.{or_from, or_parts}
use Rattle.term_tree.specs.declared.term.Module.{Module}
use Rattle.term_tree.specs.declared.term.Path.{Path}
use Rattle.final_rules.specs.Accepted.{MarksFit}
use Rattle.final_rules.specs.Rules.{any_nested, begins, nested}
use Rattle.lowering_laws.specs.Marks.{Marks, is_marked, output_marks, through_child}

-- neither of two begins the other
abbrev pub AreApart : List ℕ → List ℕ → Type 0
AreApart m k = (begins m k || begins k m) ≡ false

abbrev pub ApartFrom : List ℕ → Marks → Type 0
ApartFrom m [] = Unit {0}
ApartFrom m (k ∷ ks) = AreApart m k × ApartFrom m ks

abbrev pub Apart : Marks → Type 0
Apart [] = Unit {0}
Apart (m ∷ ms) = ApartFrom m ms × Apart ms

same-number : (a b : ℕ) → (a == b) ≡ true → a ≡ b
same-number a b h = grind arith

equal-itself : (a : ℕ) → (a == a) ≡ true
equal-itself a = grind arith

both-false : (a b c d : Bool) → a ≡ true → c ≡ true → ((a && b) || (c && d)) ≡ false → (b || d) ≡ false
both-false true b true d p q h = h
both-false true b false d p q h = absurd (cc)
both-false false b c d p q h = absurd (cc)

-- in one child
apart-inside : (j i : ℕ) (js is : List ℕ) → j ≡ i → AreApart (j ∷ js) (i ∷ is) → AreApart js is
apart-inside j i js is e h =
    both-false (j == i) (begins js is) (i == j) (begins is js) (ap (λ k. k == i) e ∙ equal-itself i) (ap (λ k. i == k) e ∙ equal-itself i) h

more-inside : (j k i : ℕ) (js is : List ℕ) (ms : Marks) (b : Bool) → (i == k) ≡ b → j ≡ k → AreApart (j ∷ js) (i ∷ is) → ApartFrom js (through_child k ms)
    → ApartFrom js (if b then is ∷ through_child k ms else through_child k ms)
more-inside j k i js is ms true q e h rest = (apart-inside j i js is (e ∙ sym (same-number i k q)) h, rest)
more-inside j k i js is ms false q e h rest = rest

from-inside : (j k : ℕ) (js : List ℕ) (ms : Marks) → j ≡ k → ApartFrom (j ∷ js) ms → ApartFrom js (through_child k ms)
from-inside j k js [] e h = tt
from-inside j k js ([] ∷ ms) e h = from-inside j k js ms e h.1
from-inside j k js ((i ∷ is) ∷ ms) e h = more-inside j k i js is ms (i == k) refl e h.0 (from-inside j k js ms e h.1)

one-inside : (j k : ℕ) (js : List ℕ) (ms : Marks) (b : Bool) → (j == k) ≡ b → ApartFrom (j ∷ js) ms → Apart (through_child k ms)
    → Apart (if b then js ∷ through_child k ms else through_child k ms)
one-inside j k js ms true q h rest = (from-inside j k js ms (same-number j k q) h, rest)
one-inside j k js ms false q h rest = rest

-- those through a child are apart
pub apart-through : (k : ℕ) (ms : Marks) → Apart ms → Apart (through_child k ms)
apart-through k [] h = tt
apart-through k ([] ∷ ms) h = apart-through k ms h.1
apart-through k ((j ∷ js) ∷ ms) h = one-inside j k js ms (j == k) refl h.0 (apart-through k ms h.1)

unmarked : (j : ℕ) (js : List ℕ) (ms : Marks) → ApartFrom (j ∷ js) ms → is_marked ms ≡ false
unmarked j js [] h = refl
unmarked j js ([] ∷ ms) h = let e : true ≡ false = h.0 in absurd (cc)
unmarked j js ((i ∷ is) ∷ ms) h = unmarked j js ms h.1

alone-here : (k : ℕ) (ms : Marks) → ApartFrom [] ms → through_child k ms ≡ []
alone-here k [] h = refl
alone-here k (m ∷ ms) h = let e : true ≡ false = h.0 in absurd (cc)

-- where a node is marked, nothing inside it is
pub marked-alone : (k : ℕ) (ms : Marks) → Apart ms → is_marked ms ≡ true → through_child k ms ≡ []
marked-alone k [] h e = refl
marked-alone k ([] ∷ ms) h e = alone-here k ms h.0
marked-alone k ((j ∷ js) ∷ ms) h e = absurd (let no : is_marked ms ≡ false = unmarked j js ms h.0 in cc)

-- marks of an accepted module

any-first : (q : Path) (before : List Path) (p : Path) → any_nested q (before ++ p ∷ []) ≡ false → any_nested q before ≡ false
any-first q [] p h = refl
any-first q (b ∷ bs) p h =
    let r = or_parts (nested q b) (any_nested q (bs ++ p ∷ [])) h in
    or_from (nested q b) (any_nested q bs) r.0 (any-first q bs p r.1)

any-last : (q : Path) (before : List Path) (p : Path) → any_nested q (before ++ p ∷ []) ≡ false → nested q p ≡ false
any-last q [] p h = (or_parts (nested q p) false h).0
any-last q (b ∷ bs) p h = any-last q bs p (or_parts (nested q b) (any_nested q (bs ++ p ∷ [])) h).1

turned : (a b : Bool) → (a || b) ≡ false → (b || a) ≡ false
turned a b h = let r = or_parts a b h in or_from b a r.1 r.0

of-outputs : (q p : Path) (j : ℕ) → q.output ≡ j → p.output ≡ j → nested q p ≡ false → AreApart p.steps q.steps
of-outputs q p j a b h = turned (begins q.steps p.steps) (begins p.steps q.steps) (by (q.output == p.output) same h)
  where
    same : (q.output == p.output) ≡ true
    same = ap (λ k. k == p.output) (a ∙ sym b) ∙ equal-itself p.output

    by : (c : Bool) → c ≡ true → (c && (begins q.steps p.steps || begins p.steps q.steps)) ≡ false → (begins q.steps p.steps || begins p.steps q.steps) ≡ false
    by true e h = h
    by false e h = absurd (cc)

-- what is nested in none of these is not nested in p
abbrev Covers : List Path → Path → Type 0
Covers before p = (q : Path) → any_nested q before ≡ false → nested q p ≡ false

from-later : (j : ℕ) (p q : Path) (qs : List Path) (b : Bool) → (q.output == j) ≡ b → p.output ≡ j → nested q p ≡ false
    → ApartFrom p.steps (output_marks j qs) → ApartFrom p.steps (if b then q.steps ∷ output_marks j qs else output_marks j qs)
from-later j p q qs true e a h rest = (of-outputs q p j (same-number q.output j e) a h, rest)
from-later j p q qs false e a h rest = rest

apart-later : (m : Module) (j : ℕ) (before : List Path) (p : Path) (qs : List Path) → Covers before p → p.output ≡ j → MarksFit m before qs
    → ApartFrom p.steps (output_marks j qs)
apart-later m j before p [] c a h = tt
apart-later m j before p (q ∷ qs) c a h =
    from-later j p q qs (q.output == j) refl a (c q h.1)
    (apart-later m j (before ++ q ∷ []) p qs (λ r e. c r (any-first r before q e)) a h.2)

one-more : (m : Module) (j : ℕ) (before : List Path) (p : Path) (ps : List Path) (b : Bool) → (p.output == j) ≡ b → MarksFit m (before ++ p ∷ []) ps
    → Apart (output_marks j ps) → Apart (if b then p.steps ∷ output_marks j ps else output_marks j ps)
one-more m j before p ps true e h rest =
    (apart-later m j (before ++ p ∷ []) p ps (λ q n. any-last q before p n) (same-number p.output j e) h, rest)
one-more m j before p ps false e h rest = rest

-- the marks of an output
pub apart-marks : (m : Module) (j : ℕ) (before ps : List Path) → MarksFit m before ps → Apart (output_marks j ps)
apart-marks m j before [] h = tt
apart-marks m j before (p ∷ ps) h = one-more m j before p ps (p.output == j) refl h.2 (apart-marks m j (before ++ p ∷ []) ps h.2)
