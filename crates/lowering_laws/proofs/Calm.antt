-- Tensors that stay as they are while another is written, and are read.
use Rattle.std.proofs.Common.{◌≡◌, ℕ, ◌+◌, ◌<◌, ◌≤◌, List, [], length, get_or, pos, ◌⊎◌, inl, inr, if◌then◌else◌, sym, ap, ◌∙◌, arith}
use Rattle.std.proofs.lemmas.Bool.{lt-ltb}
use Rattle.loop_lang.specs.declared.word.Buf.TheVariants.{Input, Scratch}
use Rattle.loop_lang.specs.Memory.{Memory, words, Outside, Found, Lost, load}
use Rattle.lowering_laws.proofs.Does.{Area, In, Out, Part, region, part, buffer_of, base, length-read, read_at, read_agree, Beside, Leaves}

-- an area that stays as it is while T is written
abbrev pub Apart : ℕ → ℕ → Area → Type 0
Apart b q (In j) = Unit {0}
Apart b q (Out j) = Unit {0}
Apart b q (Part a n) = (b + q ≤ a) ⊎ (a + n ≤ b)

-- an input, or scratch below the free words and beside T
abbrev pub Calm : Area → Area → ℕ → Type 0
Calm (In j) T k = Unit {0}
Calm (Out j) T k = ⊥
Calm (Part b q) T k = (b + q ≤ k) × Apart b q T

beside : (T : Area) (b q i : ℕ) → b ≤ i → i < b + q → Apart b q T → Beside T i
beside (In j) b q i h l c = tt
beside (Out j) b q i h l c = tt
beside (Part a n) b q i h l (inl c) = inl (omega arith)
beside (Part a n) b q i h l (inr c) = inr (omega arith)

pub calm_after : (c T : Area) (k : ℕ) (m n : Memory) (ws : List ℕ) → Calm c T k → Leaves T k m ws n → part n c ≡ part m c
calm_after (In j) T k m n ws h p = ap (λ v. get_or v j []) p.inputs
calm_after (Out j) T k m n ws h p = absurd h
calm_after (Part b q) T k m n ws h p = read_agree q b (region n) (region m) (λ i l u. p.outside i (omega (arith, h.0)) (beside T b q i l u h.1))

-- a word of an area
pub area_read : (A : Area) (T : Area) (k p : ℕ) (m : Memory) → Calm A T k → k ≤ length (region m) → p < length (part m A)
    → load (words m (buffer_of A)) (buffer_of A) (pos (base A + p)) ≡ Found (get_or (part m A) p 0)
area_read (Out j) T k p m c h l = absurd c
area_read (In j) T k p m c h l =
    let z : 0 + p ≡ p = omega arith in
    ap (λ q. load (words m (Input j)) (Input j) (pos q)) z
    ∙ ap (λ v. if v then Found (get_or (part m (In j)) p 0) else Lost (Outside (Input j) (pos p))) (lt-ltb p (length (part m (In j))) l)
area_read (Part b n) T k p m c h l =
    let in' : p < n = omega (arith, length-read n b (region m)) in
    let there : b + p < length (region m) = omega (arith, c.0) in
    ap (λ v. if v then Found (get_or (region m) (b + p) 0) else Lost (Outside (Scratch 0) (pos (b + p)))) (lt-ltb (b + p) (length (region m)) there)
    ∙ ap Found (sym (read_at n b p (region m) in'))
