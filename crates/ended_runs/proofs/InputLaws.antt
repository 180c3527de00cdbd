-- Inputs with the numbers of words of their extents are the words of tensors.
use Rattle.std.proofs.Common.{◌≡◌, ◌∙◌, ℕ, List, [], ◌∷◌, ◌++◌, length, map, take, append_assoc, refl, ap, sym}
use Rattle.std.proofs.lemmas.List.{length-map, map-append}
use Rattle.std.proofs.Math.Seq.{take-append_seam}
use Rattle.term_tree.specs.Modules.{Allowed, AreInputs, extents_at}
use Rattle.term_tree.specs.Shaped.{flat, word_count}
use Rattle.term_tree.specs.Tensors.{Tensor}
use Rattle.term_tree.specs.declared.term.InputDecl.{InputDecl}
use Rattle.term_tree.specs.declared.term.Module.{Module}
use Rattle.shape_rules.specs.Meant.{input_extents}
use Rattle.loop_lang.specs.Memory.{Memory}
use Rattle.loop_lang.specs.Reckoning.{reckon}
use Rattle.loop_lang.specs.Run.{IsMemoryOf, length_of}
use Rattle.loop_lang.specs.declared.index.Iexp.{Iexp}
use Rattle.loop_lang.specs.declared.stmt.Prog.{Prog}
use Rattle.lowering_laws.specs.Correct.{Computed, HasLengths, word_counts}
use Rattle.word_tensors.specs.WordTensors.{tensor_of}
use Rattle.word_tensors.proofs.TensorLaws.{has-flat, has-shape, has-words}
use Rattle.version_run.proofs.WordLaws.{EachWords}

lengths-are : (s : List ℕ) (xs : List Iexp) (ns : List ℕ) → Computed s xs ns → map (λ x. length_of (reckon x s [])) xs ≡ ns
lengths-are s [] [] h = refl
lengths-are s [] (n ∷ ns) h = absurd h
lengths-are s (x ∷ xs) [] h = absurd h
lengths-are s (x ∷ xs) (n ∷ ns) h =
    let here : length_of (reckon x s []) ≡ n = ap length_of h.0.0 in
    let rest = lengths-are s xs ns h.1 in
    λ i. here i ∷ rest i

first-part : (xs ys us vs : List ℕ) → length xs ≡ length us → xs ++ ys ≡ us ++ vs → xs ≡ us
first-part xs ys us vs many e =
    sym (take-append_seam xs ys) ∙ ap (λ (ws : List ℕ). take (length xs) ws) e ∙ ap (λ (n : ℕ). take n (us ++ vs)) many ∙ take-append_seam us vs

pub inputs-counted : (m : Module) (p : Prog) (s : List ℕ) (start : Memory) → HasLengths m p → Allowed m s → IsMemoryOf p s start → p.inputs ≡ length m.inputs
    → map length start.inputs ≡ map word_count (input_extents m s)
inputs-counted m p s start lengths allowed fits many =
    let counts = map word_count (input_extents m s) in
    let others = map length start.outputs ++ map length start.scratch in
    let split : map length (start.inputs ++ start.outputs ++ start.scratch) ≡ map length start.inputs ++ others =
    map-append length (start.inputs ++ start.outputs) start.scratch
    ∙ ap (λ (ns : List ℕ). ns ++ map length start.scratch) (map-append length start.inputs start.outputs)
    ∙ append_assoc (map length start.inputs) (map length start.outputs) (map length start.scratch) in
    let all : map length start.inputs ++ others ≡ word_counts m s = sym split ∙ fits.lengths ∙ lengths-are s p.lengths (word_counts m s) (lengths s allowed) in
    let few : length (map length start.inputs) ≡ length counts =
    length-map start.inputs length ∙ fits.inputs ∙ many ∙ sym (length-map m.inputs (λ d. extents_at d.extents s))
    ∙ sym (length-map (input_extents m s) word_count) in
    first-part (map length start.inputs) others counts _ few all

pub tensors-of : List InputDecl → List ℕ → List (List ℕ) → List Tensor
tensors-of [] s wss = []
tensors-of (d ∷ ds) s [] = []
tensors-of (d ∷ ds) s (ws ∷ wss) = tensor_of (extents_at d.extents s) ws ∷ tensors-of ds s wss

same_first : (a b : ℕ) (xs ys : List ℕ) → a ∷ xs ≡ b ∷ ys → a ≡ b
same_first a b xs ys e = cc

same_rest : (a b : ℕ) (xs ys : List ℕ) → a ∷ xs ≡ b ∷ ys → xs ≡ ys
same_rest a b xs ys e = cc

pub are-inputs : (ds : List InputDecl) (s : List ℕ) (wss : List (List ℕ))
    → map length wss ≡ map word_count (map (λ (d : InputDecl). extents_at d.extents s) ds) → EachWords wss → AreInputs ds s (tensors-of ds s wss)
unfolding tensors-of
are-inputs [] s [] e h = tt
are-inputs [] s (ws ∷ wss) e h = absurd cc
are-inputs (d ∷ ds) s [] e h = absurd cc
are-inputs (d ∷ ds) s (ws ∷ wss) e h =
    (has-shape (extents_at d.extents s) ws, has-words (extents_at d.extents s) ws h.0, are-inputs ds s wss (same_rest _ _ _ _ e) h.1)

pub their-words : (ds : List InputDecl) (s : List ℕ) (wss : List (List ℕ))
    → map length wss ≡ map word_count (map (λ (d : InputDecl). extents_at d.extents s) ds) → map flat (tensors-of ds s wss) ≡ wss
unfolding tensors-of
their-words [] s [] e = refl
their-words [] s (ws ∷ wss) e = absurd cc
their-words (d ∷ ds) s [] e = absurd cc
their-words (d ∷ ds) s (ws ∷ wss) e =
    let here = has-flat (extents_at d.extents s) ws (same_first _ _ _ _ e) in
    let rest = their-words ds s wss (same_rest _ _ _ _ e) in
    λ i. here i ∷ rest i
