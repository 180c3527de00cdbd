-- One more line.
use Rattle.std.proofs.Common.{◌≡◌, ◌∙◌, ℕ, zero, suc, ◌+◌, ◌<◌, List, [], ◌∷◌, ◌++◌, length, map, take, get_or, append_assoc, append-nil, add-one, ap, sym, arith}
use Rattle.std.proofs.lemmas.List.{get_or-map, length-map, take-map}
use Rattle.std.specs.String.{string_bytes}
use Rattle.std.specs.declared.string.String.{String}
use Rattle.text_tokens.specs.Kinds.{Text}
use Rattle.given_text.specs.Line.{output_line}
use Rattle.run_text.specs.Outputs.{output_lines}

-- a line, and then what is so far and a line more
again : (line before next all : Text) → all ≡ before ++ next → line ++ all ≡ (line ++ before) ++ next
again line before next all e = ap (λ (t : Text). line ++ t) e ∙ sym (append_assoc line before next)

one-line : (names : List Text) (outputs : List (List ℕ)) (i : ℕ) → i < length names
    → output_lines (take (suc i) names) outputs ≡ output_lines (take i names) outputs ++ output_line (get_or names i []) (get_or outputs i [])
one-line [] outputs i h = absurd (omega (arith, h))
one-line (name ∷ names) [] zero h = append-nil (output_line name [])
one-line (name ∷ names) (words ∷ outputs) zero h = append-nil (output_line name words)
one-line (name ∷ names) [] (suc i) h = again (output_line name []) _ _ _ (one-line names [] i (omega (arith, h)))
one-line (name ∷ names) (words ∷ outputs) (suc i) h = again (output_line name words) _ _ _ (one-line names outputs i (omega (arith, h)))

module _ {A : Type 0} where
  -- the line of the output at an index, after those before it
  pub lines-more : (names : List (String A)) (outputs : List (List ℕ)) (i : ℕ) (name : String A) → i < length names → name ≡ get_or names i name
      → output_lines (map string_bytes (take (i + 1) names)) outputs
      ≡ output_lines (map string_bytes (take i names)) outputs ++ output_line (string_bytes name) (get_or outputs i [])
  lines-more names outputs i name h is =
      let texts : List Text = map string_bytes names in
      let few : i < length texts = omega (arith, h, length-map names (string_bytes {Z = A})) in
      let here : get_or texts i [] ≡ string_bytes name = get_or-map (string_bytes {Z = A}) names i name [] h ∙ ap (string_bytes {Z = A}) (sym is) in
      ap (λ (n : ℕ). output_lines (map string_bytes (take n names)) outputs) (add-one i)
      ∙ ap (λ (ts : List Text). output_lines ts outputs) (sym (take-map (string_bytes {Z = A}) (suc i) names))
      ∙ one-line texts outputs i few
      ∙ ap (λ (ts : List Text). output_lines ts outputs ++ output_line (get_or texts i []) (get_or outputs i [])) (take-map (string_bytes {Z = A}) i names)
      ∙ ap (λ (t : Text). output_lines (map string_bytes (take i names)) outputs ++ output_line t (get_or outputs i [])) here

  -- the text with one line more
  pub text-more : (names : List (String A)) (outputs : List (List ℕ)) (i : ℕ) (name : String A) (first before after : Text) → i < length names
      → name ≡ get_or names i name → before ≡ first ++ output_lines (map string_bytes (take i names)) outputs
      → after ≡ before ++ output_line (string_bytes name) (get_or outputs i [])
      → after ≡ first ++ output_lines (map string_bytes (take (i + 1) names)) outputs
  text-more names outputs i name first before after h is so_far next =
      next ∙ ap (λ (t : Text). t ++ output_line (string_bytes name) (get_or outputs i [])) so_far
      ∙ append_assoc first (output_lines (map string_bytes (take i names)) outputs) (output_line (string_bytes name) (get_or outputs i []))
      ∙ ap (λ (t : Text). first ++ t) (sym (lines-more names outputs i name h is))

-- a list of words at an index that is there, whatever stands for one that is not
pub word-list : (outputs : List (List ℕ)) (i : ℕ) (words : List ℕ) → i < length outputs → words ≡ get_or outputs i words → words ≡ get_or outputs i []
word-list [] i words h e = absurd (omega (arith, h))
word-list (o ∷ os) zero words h e = e
word-list (o ∷ os) (suc i) words h e = word-list os i words (omega (arith, h)) e
