-- Texts beside their characters.
use Rattle.std.proofs.Common.{◌≡◌, ℕ, suc, ◌+◌, ◌-◌, ◌<◌, ◌≤◌, List, ◌∷◌, ◌++◌, length, take, drop, sym, ap, subst, ◌∙◌, arith, length-append}
use Rattle.std.specs.Prelude.{encode_utf8}
use Rattle.std.specs.Str.{chars, IsUtf8, IsCharBoundary, encode_utf8_all}
use Rattle.std.proofs.lemmas.Str.{encodes-append, encodes-chars, IsCharBoundary-at_seam, length-encode, len_utf8_bounds}
use Rattle.std.proofs.Math.Seq.{take-append_seam}
use Rattle.std.proofs.Math.ListN.{take-append-drop}

pub encode_utf8_nonempty : (c : ℕ) → 0 < length (encode_utf8 c)
encode_utf8_nonempty c = let bounds = len_utf8_bounds c in omega (arith, length-encode c)

pub encodes_chars : (z : List ℕ) → IsUtf8 z → encode_utf8_all (chars z) ≡ z
encodes_chars z u = encodes-chars z u

-- a text is what stands before its n-th character, and the rest
pub seam : (z r : List ℕ) (n : ℕ) → IsUtf8 z → IsUtf8 r → chars r ≡ drop n (chars z) → z ≡ encode_utf8_all (take n (chars z)) ++ r
seam z r n u v e =
    sym (encodes-chars z u) ∙ ap encode_utf8_all (sym (take-append-drop n (chars z))) ∙ encodes-append (take n (chars z)) (drop n (chars z))
    ∙ ap (λ t. encode_utf8_all (take n (chars z)) ++ t) (ap encode_utf8_all (sym e) ∙ encodes-chars r v)

before : (z f r : List ℕ) → z ≡ f ++ r → length z - length r ≡ length f
before z f r e = omega (arith, ap length e, length-append f r)

pub front_boundary : (z r : List ℕ) (n : ℕ) → IsUtf8 z → IsUtf8 r → chars r ≡ drop n (chars z) → IsCharBoundary z (length z - length r)
front_boundary z r n u v e =
    let s = seam z r n u v e in
    subst (λ k. IsCharBoundary z k) (sym (before z (encode_utf8_all (take n (chars z))) r s))
    (IsCharBoundary-at_seam z (encode_utf8_all (take n (chars z))) r s v)

pub front_is : (z r : List ℕ) (n : ℕ) → IsUtf8 z → IsUtf8 r → chars r ≡ drop n (chars z) → take (length z - length r) z ≡ encode_utf8_all (take n (chars z))
front_is z r n u v e =
    let s = seam z r n u v e in
    let f = encode_utf8_all (take n (chars z)) in
    ap (λ k. take k z) (before z f r s) ∙ ap (take (length f)) s ∙ take-append_seam f r

pub shorter_end : (z r : List ℕ) (n : ℕ) → IsUtf8 z → IsUtf8 r → chars r ≡ drop n (chars z) → length r ≤ length z
shorter_end z r n u v e = let s = seam z r n u v e in omega (arith, ap length s, length-append (encode_utf8_all (take n (chars z))) r)

-- what follows n characters more, and what follows n in all
pub one_more : (z more r : List ℕ) (c n : ℕ) → z ≡ c ∷ more → r ≡ drop n more → r ≡ drop (1 + n) z
one_more z more r c n e h = let k : 1 + n ≡ suc n = omega arith in rw (e, k) h

pub one_less : (z more r : List ℕ) (c n : ℕ) → z ≡ c ∷ more → 0 < n → r ≡ drop (n - 1) more → r ≡ drop n z
one_less z more r c n e some h = let k : 1 + (n - 1) ≡ n = omega arith in one_more z more r c (n - 1) e h ∙ ap (λ m. drop m z) k
