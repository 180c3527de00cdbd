-- What lists of actions do to the words of one tensor, while scratch from some word on is free.
use Rattle.std.proofs.Common.{◌≡◌, ℕ, zero, suc, ◌+◌, ◌^◌, ◌<◌, ◌≤◌, List, [], ◌∷◌, ◌++◌, length, get_or, set, take, replicate, pos, ◌+ℤ◌, ◌⊎◌, inl}
use Rattle.std.proofs.Common.{if◌then◌else◌, refl, sym, ap, ◌∙◌, subst, ⊎_elim, arith, append_assoc, length-set, get_or-set_same, get_or-set_other}
use Rattle.std.proofs.lemmas.Bool.{lt-ltb}
use Rattle.std.proofs.lemmas.List.{append-nil, set-set, set-get_or, take_all, take_more_set}
use Rattle.term_tree.specs.Tensors.{Tensor}
use Rattle.loop_lang.specs.declared.word.Buf.{Buf}
use Rattle.loop_lang.specs.declared.word.Buf.TheVariants.{Input, Output, Scratch}
use Rattle.loop_lang.specs.Reckoning.{Value, Fails, Overflow, checked}
use Rattle.loop_lang.specs.Actions.{Tree, Mode, Puts, Action, Tick, Store, then_follow, turns, store_at, zeroed}
use Rattle.loop_lang.specs.Actions.{Word as TreeWord}
use Rattle.loop_lang.specs.Memory.{Memory, with_words, Outside, Found, Ends, Stuck, and_then, stored, write, word_of, apply}
use Rattle.loop_lang.proofs.Following.{apply-after}
use Rattle.lowering_laws.specs.Scatter.{Placing, under, scatter}
use Rattle.lowering_laws.proofs.Algebra.{scatter_turns}

-- a number that fits 64 signed bits
pub checked_ok : (n : ℕ) → n < 2 ^ 63 → checked (pos n) ≡ Value (pos n)
checked_ok n h = ap (λ b. if b then Value (pos n) else Fails Overflow) (lt-ltb n (2 ^ 63) h)

-- the words of the scratch buffer
abbrev pub region : Memory → List ℕ
region m = get_or m.scratch 0 []

-- where the words of a tensor lie: in an input, in an output, or so many words of scratch from a place on
pub data Area : Type 0 where
  In : ℕ → Area
  Out : ℕ → Area
  Part : ℕ → ℕ → Area

-- n words from the p-th on
abbrev pub read : ℕ → ℕ → List ℕ → List ℕ
read p zero ws = []
read p (suc n) ws = get_or ws p 0 ∷ read (p + 1) n ws

abbrev pub part : Memory → Area → List ℕ
part m (In j) = get_or m.inputs j []
part m (Out j) = get_or m.outputs j []
part m (Part p n) = read p n (region m)

abbrev pub buffer_of : Area → Buf
buffer_of (In j) = Input j
buffer_of (Out j) = Output j
buffer_of (Part p n) = Scratch 0

abbrev pub base : Area → ℕ
base (In j) = 0
base (Out j) = 0
base (Part p n) = p

-- reading a stretch of words
pub length-read : (n p : ℕ) (ws : List ℕ) → length (read p n ws) ≡ n
length-read zero p ws = refl
length-read (suc n) p ws = ap (λ k. suc k) (length-read n (p + 1) ws)

pub read_at : (n p j : ℕ) (ws : List ℕ) → j < n → get_or (read p n ws) j 0 ≡ get_or ws (p + j) 0
read_at zero p j ws h = absurd (omega arith)
read_at (suc n) p zero ws h = let e : p ≡ p + 0 = omega arith in ap (λ i. get_or ws i 0) e
read_at (suc n) p (suc j) ws h = let e : p + 1 + j ≡ p + suc j = omega arith in read_at n (p + 1) j ws (omega arith) ∙ ap (λ i. get_or ws i 0) e

pub read_agree : (n p : ℕ) (v w : List ℕ) → ((j : ℕ) → p ≤ j → j < p + n → get_or v j 0 ≡ get_or w j 0) → read p n v ≡ read p n w
read_agree zero p v w h = refl
read_agree (suc n) p v w h =
    ap (λ x. x ∷ read (p + 1) n v) (h p (omega arith) (omega arith))
    ∙ ap (λ xs. get_or w p 0 ∷ xs) (read_agree n (p + 1) v w (λ j a b. h j (omega arith) (omega arith)))

pub read_set : (n p j x : ℕ) (ws : List ℕ) → j < n → p + n ≤ length ws → read p n (set ws (p + j) x) ≡ set (read p n ws) j x
read_set zero p j x ws h l = absurd (omega arith)
read_set (suc n) p zero x ws h l =
    let e : p + 0 ≡ p = omega arith in
    ap (λ i. read p (suc n) (set ws i x)) e
    ∙ ap (λ y. y ∷ read (p + 1) n (set ws p x)) (get_or-set_same ws p x 0 (omega arith))
    ∙ ap (λ ys. x ∷ ys) (read_agree n (p + 1) (set ws p x) ws (λ i a b. get_or-set_other ws p i x 0 (λ (d : i ≡ p). absurd (omega arith))))
read_set (suc n) p (suc j) x ws h l =
    let e : p + suc j ≡ p + 1 + j = omega arith in
    ap (λ i. read p (suc n) (set ws i x)) e
    ∙ ap (λ y. y ∷ read (p + 1) n (set ws (p + 1 + j) x)) (get_or-set_other ws (p + 1 + j) p x 0 (λ (d : p ≡ p + 1 + j). absurd (omega arith)))
    ∙ ap (λ ys. get_or ws p 0 ∷ ys) (read_set n (p + 1) j x ws (omega arith) (omega arith))

-- an area that is written: there, and below the free words
abbrev pub Target : Area → ℕ → Memory → Type 0
Target (In j) k m = ⊥
Target (Out j) k m = j < length m.outputs
Target (Part p n) k m = (p + n ≤ k) × (0 < length m.scratch) × (p + n ≤ length (region m))

abbrev pub outputs_with : Area → List ℕ → List (List ℕ) → List (List ℕ)
outputs_with (In j) ws os = os
outputs_with (Out j) ws os = set os j ws
outputs_with (Part p n) ws os = os

-- a place of scratch that is not in the area
abbrev pub Beside : Area → ℕ → Type 0
Beside (In j) p = Unit {0}
Beside (Out j) p = Unit {0}
Beside (Part a n) p = (p < a) ⊎ (a + n ≤ p)

-- n is m with the words ws in the area; scratch from the k-th word on may differ
pub record Leaves (T : Area) (k : ℕ) (m : Memory) (ws : List ℕ) (n : Memory) : Type 0 where
  pub inputs : n.inputs ≡ m.inputs
  pub outputs : n.outputs ≡ outputs_with T ws m.outputs
  pub outside : (p : ℕ) → p < k → Beside T p → get_or (region n) p 0 ≡ get_or (region m) p 0
  pub there : part n T ≡ ws
  pub many : length n.scratch ≡ length m.scratch
  pub long : length (region n) ≡ length (region m)

-- n is m, but for scratch from the k-th word on
pub record Kept (k : ℕ) (m n : Memory) : Type 0 where
  pub inputs : n.inputs ≡ m.inputs
  pub outputs : n.outputs ≡ m.outputs
  pub below : (p : ℕ) → p < k → get_or (region n) p 0 ≡ get_or (region m) p 0
  pub many : length n.scratch ≡ length m.scratch
  pub long : length (region n) ≡ length (region m)

pub Kept-trans : (k : ℕ) (a b c : Memory) → Kept k a b → Kept k b c → Kept k a c
Kept-trans k a b c p q = record {
  inputs = q.inputs ∙ p.inputs;
  outputs = q.outputs ∙ p.outputs;
  below = λ j h. q.below j h ∙ p.below j h;
  many = q.many ∙ p.many;
  long = q.long ∙ p.long;
}

outputs_twice : (T : Area) (v w : List ℕ) (os : List (List ℕ)) → outputs_with T w (outputs_with T v os) ≡ outputs_with T w os
outputs_twice (In j) v w os = refl
outputs_twice (Out j) v w os = set-set os j v w
outputs_twice (Part p n) v w os = refl

pub Leaves-trans : (T : Area) (k : ℕ) (a b c : Memory) (v w : List ℕ) → Leaves T k a v b → Leaves T k b w c → Leaves T k a w c
Leaves-trans T k a b c v w p q = record {
  inputs = q.inputs ∙ p.inputs;
  outputs = q.outputs ∙ ap (outputs_with T w) p.outputs ∙ outputs_twice T v w a.outputs;
  outside = λ j h o. q.outside j h o ∙ p.outside j h o;
  there = q.there;
  many = q.many ∙ p.many;
  long = q.long ∙ p.long;
}

pub kept_leaves : (T : Area) (k : ℕ) (a b c : Memory) (w : List ℕ) → Kept k a b → Leaves T k b w c → Leaves T k a w c
kept_leaves T k a b c w p q = record {
  inputs = q.inputs ∙ p.inputs;
  outputs = q.outputs ∙ ap (outputs_with T w) p.outputs;
  outside = λ j h o. q.outside j h o ∙ p.below j h;
  there = q.there;
  many = q.many ∙ p.many;
  long = q.long ∙ p.long;
}

pub Leaves-fewer : (T : Area) (k l : ℕ) (m n : Memory) (ws : List ℕ) → k ≤ l → Leaves T l m ws n → Leaves T k m ws n
Leaves-fewer T k l m n ws h p =
    record { inputs = p.inputs; outputs = p.outputs; outside = λ j i o. p.outside j (omega arith) o; there = p.there; many = p.many; long = p.long }

-- an area of free words
pub leaves_kept : (k a n : ℕ) (l : ℕ) (m o : Memory) (ws : List ℕ) → k ≤ a → k ≤ l → Leaves (Part a n) l m ws o → Kept k m o
leaves_kept k a n l m o ws h i p =
    record { inputs = p.inputs; outputs = p.outputs; below = λ j b. p.outside j (omega arith) (inl (omega arith)); many = p.many; long = p.long }

pub target_after : (T : Area) (k : ℕ) (m n : Memory) (ws : List ℕ) → Target T k m → Leaves T k m ws n → Target T k n
target_after (In j) k m n ws t p = t
target_after (Out j) k m n ws t p = let e : length n.outputs ≡ length m.outputs = ap length p.outputs ∙ length-set m.outputs j ws in omega arith
target_after (Part a q) k m n ws t p = (t.0, omega (arith, t.1, p.many), omega (arith, t.2, p.long))

pub target_kept : (T : Area) (k : ℕ) (m n : Memory) → Target T k m → Kept k m n → Target T k n
target_kept (In j) k m n t p = t
target_kept (Out j) k m n t p = subst (λ v. j < length v) (sym p.outputs) t
target_kept (Part a q) k m n t p = (t.0, omega (arith, t.1, p.many), omega (arith, t.2, p.long))

pub target_more : (T : Area) (k l : ℕ) (m : Memory) → k ≤ l → Target T k m → Target T l m
target_more (In j) k l m h t = t
target_more (Out j) k l m h t = t
target_more (Part a q) k l m h t = (omega (arith, t.0), t.1, t.2)

pub part_kept : (T : Area) (k : ℕ) (m n : Memory) → Target T k m → Kept k m n → part n T ≡ part m T
part_kept (In j) k m n t p = absurd t
part_kept (Out j) k m n t p = ap (λ v. get_or v j []) p.outputs
part_kept (Part a q) k m n t p = read_agree q a (region n) (region m) (λ j h i. p.below j (omega (arith, t.0)))

-- the items end, and leave the words ws in the area
pub record Does (xs : List Action) (T : Area) (k : ℕ) (m : Memory) (ws : List ℕ) : Type 0 where
  pub after : Memory
  pub runs : apply xs m ≡ Ends after
  pub leaves : Leaves T k m ws after

-- what follows starts from a memory with those words
pub does_then : (xs ys : List Action) (T : Area) (k : ℕ) (m : Memory) (v w : List ℕ) → Does xs T k m v → ((n : Memory) → Leaves T k m v n → Does ys T k n w)
    → Does (then_follow xs ys) T k m w
does_then xs ys T k m v w p f =
    let q = f p.after p.leaves in
    record { after = q.after; runs = apply-after xs ys m p.after p.runs ∙ q.runs; leaves = Leaves-trans T k _ _ _ v w p.leaves q.leaves }

leaves_own : (T : Area) (k : ℕ) (m : Memory) → Leaves T k m (part m T) m
leaves_own T k m = record { inputs = refl; outputs = own T; outside = λ p h o. refl; there = refl; many = refl; long = refl }
  where
    own : (T : Area) → m.outputs ≡ outputs_with T (part m T) m.outputs
    own (In j) = refl
    own (Out j) = sym (set-get_or m.outputs j [])
    own (Part p n) = refl

pub does_nothing : (T : Area) (k : ℕ) (m : Memory) → Does [] T k m (part m T)
does_nothing T k m = record { after = m; runs = refl; leaves = leaves_own T k m }

pub does_tick : (xs : List Action) (T : Area) (k : ℕ) (m : Memory) (ws : List ℕ) → Does xs T k m ws → Does (Tick ∷ xs) T k m ws
does_tick xs T k m ws p = record { after = p.after; runs = p.runs; leaves = p.leaves }

-- turns that each add a row; P is what the turns need of memory
pub does_turns : (items : ℕ → List Action) (g : ℕ → Tensor) (f : Placing) (T : Area) (k : ℕ) (P : ℕ → Memory → Type 0) (n i e : ℕ) → i + n ≡ e
    → ((j : ℕ) (m : Memory) → j < e → P j m → Does (items j) T k m (scatter (g j) (under j f) (part m T))
    × ((o : Memory) → Leaves T k m (scatter (g j) (under j f) (part m T)) o → P (j + 1) o)) → (m : Memory) → P i m
    → Does (turns i n items) T k m (scatter_turns i n g f (part m T))
does_turns items g f T k P zero i e s step m h = does_nothing T k m
does_turns items g f T k P (suc n) i e s step m h =
    let one = step i m (omega arith) h in
    does_tick (then_follow (items i) (turns (i + 1) n items)) T k m _
    (does_then (items i) (turns (i + 1) n items) T k m _ _ one.0
    (λ o p. subst (λ v. Does (turns (i + 1) n items) T k o (scatter_turns (i + 1) n g f v)) p.there
    (does_turns items g f T k P n (i + 1) e (omega arith) step o (one.1 o p))))

-- a list that writes an area of free words, and one that finds it written
pub does_before : (xs ys : List Action) (T : Area) (k l n : ℕ) (m : Memory) (ws w : List ℕ) → k ≤ l → Does xs (Part k n) l m ws
    → ((a : Memory) → Leaves (Part k n) l m ws a → Does ys T k a w) → Does (then_follow xs ys) T k m w
does_before xs ys T k l n m ws w h p f =
    let q = f p.after p.leaves in
    let kept : Kept k m p.after = leaves_kept k k n l m p.after ws (omega arith) h p.leaves in
    record { after = q.after; runs = apply-after xs ys m p.after p.runs ∙ q.runs; leaves = kept_leaves T k m p.after q.after w kept q.leaves }

pub does_fewer : (xs : List Action) (T : Area) (k l : ℕ) (m : Memory) (ws : List ℕ) → k ≤ l → Does xs T l m ws → Does xs T k m ws
does_fewer xs T k l m ws h p = record { after = p.after; runs = p.runs; leaves = Leaves-fewer T k l _ _ ws h p.leaves }

pub does_last : (xs : List Action) (T : Area) (k : ℕ) (m : Memory) (ws : List ℕ) → Does xs T k m ws → Does (then_follow xs []) T k m ws
does_last xs T k m ws p = does_then xs [] T k m ws ws p (λ n h. subst (Does [] T k n) h.there (does_nothing T k n))

-- one word put or added, at a place of the area
pub does_store : (o : Mode) (T : Area) (k : ℕ) (m : Memory) (t : Tree) (p x : ℕ) → Target T k m → word_of t m ≡ Found x → p < length (part m T)
    → Does (Store o (buffer_of T) t (pos (base T + p)) ∷ []) T k m (set (part m T) p (stored o (get_or (part m T) p 0) x))
does_store o (In j) k m t p x tar e l = absurd tar
does_store o (Out j) k m t p x tar e l =
    let z : 0 + p ≡ p = omega arith in
    let ws = set (part m (Out j)) p (stored o (get_or (part m (Out j)) p 0) x) in
    subst (λ q. Does (Store o (Output j) t (pos q) ∷ []) (Out j) k m ws) (sym z)
    (record {
      after = with_words m (Output j) ws;
      runs =
          ap (λ g. and_then (write o (Output j) (pos p) g m) (apply [])) e
          ∙ ap (λ v. and_then (if v then Ends (with_words m (Output j) ws) else Stuck (Outside (Output j) (pos p))) (apply []))
          (lt-ltb p (length (part m (Out j))) l);
      leaves = record { inputs = refl; outputs = refl; outside = λ i a b. refl; there = get_or-set_same m.outputs j ws [] tar; many = refl; long = refl };
    })
does_store o (Part a n) k m t p x tar e l =
    let rs = region m in
    let in' : p < n = omega (arith, length-read n a rs) in
    let y = stored o (get_or rs (a + p) 0) x in
    let ws = set rs (a + p) y in
    let here : get_or (set m.scratch 0 ws) 0 [] ≡ ws = get_or-set_same m.scratch 0 ws [] tar.1 in
    let inside : a + p < length rs = omega (arith, tar.2) in
    record {
      after = with_words m (Scratch 0) ws;
      runs =
          ap (λ g. and_then (write o (Scratch 0) (pos (a + p)) g m) (apply [])) e
          ∙ ap (λ v. and_then (if v then Ends (with_words m (Scratch 0) ws) else Stuck (Outside (Scratch 0) (pos (a + p)))) (apply []))
          (lt-ltb (a + p) (length rs) inside);
      leaves = record {
        inputs = refl;
        outputs = refl;
        outside = λ i b c. ap (λ v. get_or v i 0) here
            ∙ get_or-set_other rs (a + p) i y 0 (λ (d : i ≡ a + p). ⊎_elim (λ (g : i < a). absurd (omega arith)) (λ (g : a + n ≤ i). absurd (omega arith)) c);
        there = ap (read a n) here ∙ read_set n a p y rs in' tar.2 ∙ ap (λ v. set (read a n rs) p (stored o v x)) (sym (read_at n a p rs in'));
        many = length-set m.scratch 0 ws;
        long = ap length here ∙ length-set rs (a + p) y;
      };
    }

-- words zeroed
pub does_zero : (n i : ℕ) (T : Area) (k : ℕ) (m : Memory) → Target T k m → i + n ≡ length (part m T) → base T + length (part m T) < 2 ^ 63
    → Does (zeroed (buffer_of T) (pos (base T)) i n) T k m (take i (part m T) ++ replicate n 0)
does_zero zero i T k m t e h =
    let l : length (part m T) ≤ i = omega arith in
    subst (Does [] T k m) (sym (append-nil (take i (part m T)) ∙ take_all i (part m T) l)) (does_nothing T k m)
does_zero (suc n) i T k m t e h =
    let ws = part m T in
    let l : i < length (part m T) = omega arith in
    let c : checked (pos (base T) +ℤ pos i) ≡ Value (pos (base T + i)) = checked_ok (base T + i) (omega arith) in
    let one : Does (store_at Puts (buffer_of T) (TreeWord 0) (checked (pos (base T) +ℤ pos i))) T k m (set (part m T) i 0) =
    subst (λ v. Does (store_at Puts (buffer_of T) (TreeWord 0) v) T k m (set (part m T) i 0)) (sym c) (does_store Puts T k m (TreeWord 0) i 0 t refl l) in
    does_then (store_at Puts (buffer_of T) (TreeWord 0) (checked (pos (base T) +ℤ pos i))) (zeroed (buffer_of T) (pos (base T)) (i + 1) n) T k m
    (set (part m T) i 0) _ one
    (λ o p.
    let w : part o T ≡ set (part m T) i 0 = p.there in
    let len : length (part o T) ≡ length (part m T) = ap length w ∙ length-set (part m T) i 0 in
    let tar : Target T k o = target_after T k m o _ t p in
    let now : take (i + 1) (part o T) ++ replicate n 0 ≡ take i (part m T) ++ replicate (suc n) 0 =
    ap (λ v. take (i + 1) v ++ replicate n 0) w ∙ ap (λ v. v ++ replicate n 0) (take_more_set (part m T) i 0 l)
    ∙ append_assoc (take i (part m T)) (0 ∷ []) (replicate n 0) in
    subst (Does (zeroed (buffer_of T) (pos (base T)) (i + 1) n) T k o) now (does_zero n (i + 1) T k o tar (omega arith) (omega arith)))
