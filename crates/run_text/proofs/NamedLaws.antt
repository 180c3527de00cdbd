-- Names in order: of sizes, then of inputs.
use Rattle.std.proofs.Common.{◌≡◌, ◌∙◌, ℕ, ◌≤◌, List, [], ◌∷◌, ◌++◌, length, map, take, drop, append_assoc, ap, sym, subst, arith}
use Rattle.std.proofs.lemmas.List.{drop-map, length-append, length-map, map-append, take-map}
use Rattle.std.proofs.Math.Seq.{drop-append_seam, take-append_seam}
use Rattle.std.specs.String.{string_bytes}
use Rattle.std.specs.declared.string.String.{String}
use Rattle.text_tokens.specs.Kinds.{Text}

module _ {A : Type 0} where
  -- one name more
  pub named-more : (names next : List (String A)) (first before after : List Text) (name : String A) (t : Text) → map string_bytes names ≡ first ++ before
      → next ≡ names ++ name ∷ [] → string_bytes name ≡ t → after ≡ before ++ t ∷ [] → map string_bytes next ≡ first ++ after
  named-more names next first before after name t so_far pushed is more =
      ap (λ (xs : List (String A)). map string_bytes xs) pushed ∙ map-append (string_bytes {Z = A}) names (name ∷ [])
      ∙ ap (λ (ts : List Text). ts ++ string_bytes name ∷ []) so_far
      ∙ ap (λ (u : Text). (first ++ before) ++ u ∷ []) is
      ∙ append_assoc first before (t ∷ [])
      ∙ ap (λ (ts : List Text). first ++ ts) (sym more)

  module _ (names : List (String A)) (n : ℕ) (ss is : List Text) (long : length ss ≡ n) (e : map string_bytes names ≡ ss ++ is) where
    -- the first names are those of the sizes
    pub first-names : map string_bytes (take n names) ≡ ss
    first-names =
        sym (take-map (string_bytes {Z = A}) n names) ∙ ap (λ (ts : List Text). take n ts) e
        ∙ subst (λ (k : ℕ). take k (ss ++ is) ≡ ss) long (take-append_seam ss is)

    -- the others are those of the inputs
    pub rest-names : map string_bytes (drop n names) ≡ is
    rest-names =
        sym (drop-map (string_bytes {Z = A}) n names) ∙ ap (λ (ts : List Text). drop n ts) e
        ∙ subst (λ (k : ℕ). drop k (ss ++ is) ≡ is) long (drop-append_seam ss is)

    pub enough-names : n ≤ length names
    enough-names =
        let all = ap (length {A = Text}) e in
        let here = length-map names (string_bytes {Z = A}) in
        let both = length-append ss is in
        omega (arith, all, here, both, long)

module _ {A : Type 0} where
  -- as many names as texts
  pub as-many : (names : List (String A)) (ts : List Text) → map string_bytes names ≡ ts → length names ≡ length ts
  as-many names ts e = sym (length-map names (string_bytes {Z = A})) ∙ ap (length {A = Text}) e

-- what holds of two lists of names holds of equal ones
pub of-both : (P : List Text → List Text → Type 0) (ss ts is js : List Text) → ss ≡ ts → is ≡ js → P ss is → P ts js
of-both P ss ts is js p q h = subst (λ (x : List Text). P x js) p (subst (λ (y : List Text). P ss y) q h)
