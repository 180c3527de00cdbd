-- What is made for a program is a memory of it.
use Rattle.std.proofs.Common.{◌≡◌, ◌≤◌, ℕ, ◌+◌, ◌^◌, Bool, true, false, nat_eq, nat_lt, if◌then◌else◌, List, [], ◌∷◌, ◌++◌, map, length, take}
use Rattle.std.proofs.Common.{drop, length-drop, append_assoc, Option, Some, None, Result, Ok, Err, refl, ap, arith, subst, sym, ◌∙◌}
use Rattle.std.specs.Prelude.{IfOk}
use Rattle.std.proofs.lemmas.Bool.{eqb-true}
use Rattle.std.proofs.lemmas.List.{map-append, length-map, length-replicate, length-take-le, take_all, take-append-drop}
use Rattle.loop_lang.specs.declared.index.Iexp.{Iexp}
use Rattle.loop_lang.specs.declared.stmt.Prog.{Prog}
use Rattle.loop_lang.specs.Reckoning.{Reckoned, Value, Fails, reckon}
use Rattle.loop_lang.specs.Run.{length_of, lengths_at, IsMemoryOf}
use Rattle.loop_run.specs.declared.given.Given.{Given}
use Rattle.loop_run.specs.declared.refusal.MakeRefusal.{MakeRefusal}
use Rattle.loop_run.specs.declared.refusal.MakeRefusal.TheVariants as refusal
use Rattle.loop_run.specs.Buffers.{Held}
use Rattle.loop_run.specs.Made.{IsAnswer, length_told, then_told, lengths_told, total_from, wrong_count, unless, start_words, held_at, made_at, made}

abbrev held : Held → Result Held MakeRefusal
held h = Ok h

same_held : (h k : Held) → held h ≡ held k → h ≡ k
same_held h k e = cc

abbrev found : List ℕ → Result (List ℕ) MakeRefusal
found ns = Ok ns

same_found : (ms ns : List ℕ) → found ms ≡ found ns → ms ≡ ns
same_found ms ns e = cc

-- ---- the lengths that are told are those of the program

told-one : (f : Iexp → Reckoned) (x : Iexp) (xs : List Iexp) (v : Reckoned) (r : Result (List ℕ) MakeRefusal) (ns : List ℕ) → f x ≡ v
    → ((ms : List ℕ) → r ≡ Ok ms → ms ≡ map (λ y. length_of (f y)) xs)
    → then_told (length_told v) (λ n. then_told r (λ ms. Ok (n ∷ ms))) ≡ Ok ns → ns ≡ map (λ y. length_of (f y)) (x ∷ xs)
told-one f x xs (Value z) (Ok ms) ns e rest h = sym (same_found (length_of (Value z) ∷ ms) ns h) ∙ (λ i. length_of (sym e i) ∷ rest ms refl i)
told-one f x xs (Value z) (Err k) ns e rest h = absurd cc
told-one f x xs (Fails k) r ns e rest h = absurd cc

told-map : (f : Iexp → Reckoned) (xs : List Iexp) (ns : List ℕ) → lengths_told f xs ≡ Ok ns → ns ≡ map (λ x. length_of (f x)) xs
told-map f [] ns h = sym (same_found [] ns h)
told-map f (x ∷ xs) ns h = told-one f x xs (f x) (lengths_told f xs) ns refl (λ ms e. told-map f xs ms e) h

-- ---- inputs have their lengths, and so have the others

none_wrong : (b : Bool) (e : MakeRefusal) (o : Option MakeRefusal) → (if b then o else Some e) ≡ None → (b ≡ true) × (o ≡ None)
none_wrong true e o h = (refl, h)
none_wrong false e o h = absurd cc

counts-right : (k : ℕ) (ns : List ℕ) (wss : List (List ℕ)) → wrong_count k ns wss ≡ None → length wss ≤ length ns → map length wss ≡ take (length wss) ns
counts-right k ns [] h l = refl
counts-right k [] (ws ∷ wss) h l = absurd (omega (arith, l))
counts-right k (n ∷ ns) (ws ∷ wss) h l =
    let p = none_wrong (nat_eq (length ws) n) (refusal.WrongCount k n (length ws)) (wrong_count (k + 1) ns wss) h in
    let here : length ws ≡ n = eqb-true (length ws) n p.0 in
    let rest = counts-right (k + 1) ns wss p.1 (omega (arith, l)) in
    λ i. here i ∷ rest i

lengths_of_start : (ns : List ℕ) → map length (map start_words ns) ≡ ns
lengths_of_start [] = refl
lengths_of_start (n ∷ ns) = let e = length-replicate n 6148914691236517205 in λ i. e i ∷ lengths_of_start ns i

-- three lists of lengths, one after the other
in_three : (i o s : ℕ) (ns : List ℕ) → length ns ≡ i + o + s → (take i ns ++ take o (drop i ns)) ++ take s (drop o (drop i ns)) ≡ ns
in_three i o s ns h =
    let a = length-drop i ns in
    let b = length-drop o (drop i ns) in
    let l : length (drop o (drop i ns)) ≤ s = omega (arith, a, b, h) in
    ap (λ t. (take i ns ++ take o (drop i ns)) ++ t) (take_all s (drop o (drop i ns)) l)
    ∙ append_assoc (take i ns) (take o (drop i ns)) (drop o (drop i ns))
    ∙ ap (λ t. take i ns ++ t) (take-append-drop o (drop i ns)) ∙ take-append-drop i ns

module _ (p : Prog) (g : Given) (many : length p.lengths ≡ p.inputs + p.outputs + p.scratch) (inputs : length g.inputs ≡ p.inputs) where
  made-at : (ns : List ℕ) → ns ≡ lengths_at p g.sizes → wrong_count 0 ns g.inputs ≡ None → IsMemoryOf p (held_at p g ns).sizes (held_at p g ns).memory
  made-at ns e right =
      let all : length ns ≡ p.inputs + p.outputs + p.scratch = ap length e ∙ length-map p.lengths (λ x. length_of (reckon x g.sizes [])) ∙ many in
      let few : length g.inputs ≤ length ns = omega (arith, inputs, all) in
      let first = counts-right 0 ns g.inputs right few ∙ ap (λ n. take n ns) inputs in
      let a = length-drop p.inputs ns in
      let b = length-drop p.outputs (drop p.inputs ns) in
      let o : p.outputs ≤ length (drop p.inputs ns) = omega (arith, a, all) in
      let s : p.scratch ≤ length (drop p.outputs (drop p.inputs ns)) = omega (arith, a, b, all) in
      let outputs = take p.outputs (drop p.inputs ns) in
      let scratch = take p.scratch (drop p.outputs (drop p.inputs ns)) in
      record {
        inputs = inputs;
        outputs = length-map outputs start_words ∙ length-take-le p.outputs (drop p.inputs ns) o;
        scratch = length-map scratch start_words ∙ length-take-le p.scratch (drop p.outputs (drop p.inputs ns)) s;
        lengths = map-append length (g.inputs ++ map start_words outputs) (map start_words scratch)
            ∙ ap (λ ls. ls ++ map length (map start_words scratch)) (map-append length g.inputs (map start_words outputs))
            ∙ (λ i. (first i ++ lengths_of_start outputs i) ++ lengths_of_start scratch i)
            ∙ in_three p.inputs p.outputs p.scratch ns all ∙ e;
      }

  abbrev IsMade : Held → Type 0
  IsMade h = IsMemoryOf p h.sizes h.memory

  unless-made : (o : Option MakeRefusal) (ns : List ℕ) (h : Held) → ns ≡ lengths_at p g.sizes → wrong_count 0 ns g.inputs ≡ o → unless o (held_at p g ns) ≡ Ok h
      → IsMade h
  unless-made None ns h e w is = subst IsMade (same_held (held_at p g ns) h is) (made-at ns e w)
  unless-made (Some x) ns h e w is = absurd cc

  small-made : (b : Bool) (ns : List ℕ) (h : Held) → ns ≡ lengths_at p g.sizes
      → (if b then Err (refusal.TooBigToRun (total_from 0 ns)) else unless (wrong_count 0 ns g.inputs) (held_at p g ns)) ≡ Ok h → IsMade h
  small-made true ns h e is = absurd cc
  small-made false ns h e is = unless-made (wrong_count 0 ns g.inputs) ns h e refl is

  told-made : (r : Result (List ℕ) MakeRefusal) (h : Held) → lengths_told (λ x. reckon x g.sizes []) p.lengths ≡ r → then_told r (made_at p g) ≡ Ok h → IsMade h
  told-made (Ok ns) h e is = small-made (nat_lt (2 ^ 24) (total_from 0 ns)) ns h (told-map (λ x. reckon x g.sizes []) p.lengths ns e) is
  told-made (Err x) h e is = absurd cc

  -- a memory of the program, where buffers are made
  pub made-memory : (r : Result Held MakeRefusal) → IsAnswer r (made p g) → IfOk r IsMade
  unfolding made
  made-memory (Ok h) is = told-made (lengths_told (λ x. reckon x g.sizes []) p.lengths) h refl (sym is)
  made-memory (Err x) is = tt
